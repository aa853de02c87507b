use Rattle.ballot_base.proofs.Committees.{increasing_lists-contains, chosen-from_contains, is_committee-is, is_committee-true, increasing_lists-sizes}
use Rattle.ballot_base.proofs.laws.committees.Goals as goal

pub returns : goal.returns
returns c = record {
  members = λ first last size set. (chosen-from_contains first last size set, increasing_lists-contains first last size set);
  test = λ m k list. (is_committee-is m k list, λ chosen. is_committee-true m k list chosen.0 chosen.1);
  sizes = increasing_lists-sizes;
}
