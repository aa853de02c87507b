use Rattle.std.proofs.Common.{Some, inl, inr, slice_get, ◌≡◌, ◌-◌, arith, ap, sym, subst, ◌∙◌, length}
use Rattle.ballot_base.specs.CandSet.{common_members}
use Rattle.ballot_base.specs.Ballots.{Row, IsElection}
use Rattle.ballot_base.specs.Limits.{most_candidates}
use Rattle.ballot_base.proofs.Increasing.{IsIncreasing-higher}
use Rattle.tie_walk.specs.Values.{closeness}
use Rattle.tie_walk.proofs.RowSums.{length-common}
use Rattle.tie_walk.proofs.Distances.{ballot-found}
use Rattle.row_multipliers.specs.Steps.Narrowed.{IsNarrowed}
use Rattle.row_multipliers.proofs.NarrowedLemmas.{narrowed-more, narrowed-none, narrowed-out}
use Rattle.tie_search.specs.Steps.Descent.{AreChoices}
use Rattle.tie_search.proofs.DescentLemmas.{choice-of_all, narrowed-choice}
use Rattle.minimax_search.proofs.NeedLemmas.{choice-of_ballot, hopeless, narrowed-to_ballot, too-few}
use Rattle.minimax_search.proofs.minimax.MinimaxSearch.choices.Goals as goal
use Rattle.minimax_search.proofs.minimax.MinimaxSearch.choices.Goals.{After-row-ballot, After-or-tightest, then-needed-node, else-needed-node}

pub returns-then-len-node : goal.returns-then-len-node
returns-then-len-node g c =
    let e = c.args.self.now in
    let node = c.args.node.now in
    too-few (closeness e.m e.rows) e.m node.set node.free node.left (e.m - c.args.most) c.requires.is_node (omega (arith, c.len.ensures.count, c.if-len-node.true))

pub loop-visit-init : goal.loop-visit-init
loop-visit-init g c =
    let e = c.args.self.now in
    let node = c.args.node.now in
    record {
      narrowed = narrowed-none (closeness e.m e.rows) e.m node.set node.free node.left (e.m - c.args.most) c.requires.is_node;
      choice = subst (AreChoices (closeness e.m e.rows) e.m node.set node.free node.left (e.m - c.args.most)) (sym c.none-tightest.ensures) (choice-of_all (closeness e.m e.rows) e.m node.set node.free node.left (e.m - c.args.most) c.requires.is_node c.requires.some);
    }

-- the ballots are those of an election
valid : (g : _) (c : After-row-ballot g) → IsElection c.args.self.now
valid g c = rw c.self.view_is at c.self.invariant.0

-- the row at a place
row-at : (g : _) (c : After-row-ballot g) → slice_get c.args.self.now.rows c.row.result ≡ Some c.row-ballot.result
row-at g c = rw c.self.view_is at c.row-ballot.ensures

pub still_needed-needed-requires : goal.still_needed-needed-requires
still_needed-needed-requires g c =
    let e = c.args.self.now in
    let row : Row = c.row-ballot.result in
    let at = (goal.at.still_needed-needed-requires g c).After-row-ballot in
    record {
      ballot = IsIncreasing-higher 1 e.m most_candidates row.0 (valid g at).most (ballot-found e.m e.rows c.row.result row (valid g at).ballots (row-at g at));
      set = IsIncreasing-higher 1 e.m most_candidates c.args.node.now.set (valid g at).most c.requires.is_node.set_within;
    }

pub returns-then-needed-min : goal.returns-then-needed-min
returns-then-needed-min g c =
    let e = c.args.self.now in
    let node = c.args.node.now in
    let at = (goal.at.returns-then-needed-min g c).After-row-ballot in
    let row : Row = c.row-ballot.result in
    let rest = c.loop-visit.rest in
    let inv = c.loop-visit.invariant in
    narrowed-out (closeness e.m e.rows) e.m node.set node.free rest node.left (e.m - c.args.most) inv.narrowed
    (hopeless e.m e.rows c.args.most node.set rest node.left (valid g at).ballots inv.narrowed.is_node c.row.result row (row-at g at)
    (omega (arith, c.still_needed-needed.ensures, c.if-needed-min.true, c.min.ensures, c.len-in-loop-visit.ensures.count, ap length c.common-open.ensures, length-common row.0 rest)))

-- who can still join after a ballot
still-narrowed : (g : _) (c : After-or-tightest g) → IsElection c.args.self.now → slice_get c.args.self.now.rows c.row.result ≡ Some c.row-ballot.result
    → IsNarrowed (closeness c.args.self.now.m c.args.self.now.rows) c.args.self.now.m c.args.node.now.set c.args.node.now.free c.args.node.now.left (c.args.self.now.m - c.args.most) c.if-needed-node.rest
still-narrowed g c is_election at =
    let e = c.args.self.now in
    let V = closeness e.m e.rows in
    let node = c.args.node.now in
    let least = e.m - c.args.most in
    let row : Row = c.row-ballot.result in
    let rest = c.loop-visit.rest in
    let inv = c.loop-visit.invariant in
    elim c.if-needed-node.branch [
      | then-needed-node w ↦
          subst (IsNarrowed V e.m node.set node.free node.left least) (sym (w.rest-is ∙ c.common-open.ensures))
          (narrowed-more V e.m node.set node.free rest node.left least inv.narrowed (common_members row.0 rest)
          (narrowed-to_ballot e.m e.rows c.args.most node.set rest node.left is_election.ballots inv.narrowed.is_node c.row.result row at
          (omega (arith, c.still_needed-needed.ensures, w.if-needed-node.true))))
      | else-needed-node w ↦ subst (IsNarrowed V e.m node.set node.free node.left least) (sym w.rest-is) inv.narrowed
    ]

pub loop-visit-preserved : goal.loop-visit-preserved
loop-visit-preserved g c =
    let e = c.args.self.now in
    let V = closeness e.m e.rows in
    let node = c.args.node.now in
    let least = e.m - c.args.most in
    let at = goal.at.loop-visit-preserved g c in
    let is_election = valid g at.After-row-ballot in
    let found = row-at g at.After-row-ballot in
    let row : Row = c.row-ballot.result in
    let rest = c.loop-visit.rest in
    let inv = c.loop-visit.invariant in
    record {
      narrowed = still-narrowed g at.After-or-tightest is_election found;
      choice = elim c.or-tightest.ensures [
        | inl tighter ↦
            subst (AreChoices V e.m node.set node.free node.left least) (sym (tighter ∙ c.common-open.ensures))
            (narrowed-choice V e.m node.set node.free rest node.left least inv.narrowed (common_members row.0 rest)
            (choice-of_ballot e.m e.rows c.args.most node.set rest node.left is_election.ballots inv.narrowed.is_node c.row.result row found
            (omega (arith, c.still_needed-needed.ensures, c.if-needed-eq0.false))))
        | inr before ↦ subst (AreChoices V e.m node.set node.free node.left least) (sym before) inv.choice
      ];
    }
