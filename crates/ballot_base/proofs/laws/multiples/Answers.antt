use Rattle.std.proofs.lemmas.Nat.Gcd.{le_of_dvd}
use Rattle.ballot_base.proofs.LeastMultiples.{common_multiple_some, common_multiple_divides, common_multiple_least}
use Rattle.ballot_base.proofs.laws.multiples.Goals as goal

pub returns : goal.returns
returns c = record {
  positive = common_multiple_some;
  divided = common_multiple_divides;
  least = λ n other some each. le_of_dvd some (common_multiple_least n other each);
  divides = common_multiple_least;
}
