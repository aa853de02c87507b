use Rattle.thiele_search.proofs.UncoveredLemmas.{first-without}
use Rattle.thiele_search.proofs.uncovered.Uncovered.refutes.Goals as goal

pub falls_short-requires-clause-branch : goal.falls_short-requires-clause-branch
falls_short-requires-clause-branch g c =
    let table = c.args.self.now in
    record {
      valid = c.requires.valid;
      is_node = c.requires.is_node;
      whole = λ n is. is;
      among = λ n is. is;
      voters = first-without table.profile.now.rows table.set table.free;
    }

pub returns : goal.returns
returns g c k some size short = c.falls_short.ensures short k some size
