use Rattle.std.proofs.Common.{◌∙◌, sym}
use Rattle.std.proofs.lemmas.Map.Views.{Contains-from_any}
use Rattle.std.proofs.lemmas.Slice.Eq.{bytes_eq-Decides}
use Rattle.sequential_winners.proofs.question.is_dead.Goals as goal

pub returns-in-Some : goal.returns-in-Some
returns-in-Some g c = rw c.in-Some.is (λ found. Contains-from_any (λ x y e. (bytes_eq-Decides x y).0 e) c.args.set c.in-Some.sets.keys (sym c.contains.ensures ∙ found))
