-- Hits of a ballot among the members of sets.
use Rattle.std.proofs.lemmas.Grind.{common_steps}
use Rattle.std.proofs.Common.{◌≡◌, ℕ, ◌+◌, ◌≤◌, ◌&&◌, ◌∙◌, true, false, cond, List, [], ◌∷◌, ◌++◌, refl, sym, ap, arith, length, filter, sum_by}
use Rattle.std.proofs.lemmas.List.Folds.{list_any-append}
use Rattle.std.proofs.lemmas.List.Sums.{sum_by-cons, length-filter}
use Rattle.std.proofs.Math.Bool.{and_comm}
use Rattle.ballot_base.specs.CandSet.{has_member, common_members}
use Rattle.ballot_base.specs.Lists.{IsIncreasing}
use Rattle.ballot_base.specs.Ballots.{hits}
use Rattle.ballot_base.proofs.Increasing.{IsIncreasing-filter, has_member-filter, same_increasing}

pub hits-append : (ballot xs ys : List ℕ) → ((n : ℕ) → has_member ys n ≡ true → has_member xs n ≡ false) → hits ballot (xs ++ ys) ≡ hits ballot xs + hits ballot ys
hits-append [] xs ys apart = refl
hits-append (n ∷ ballot) xs ys apart = grind (arith, common_steps, list_any-append, apart n, hits-append ballot xs ys apart, sum_by-cons)

pub hits-more : (ballot xs ys : List ℕ) → ((n : ℕ) → has_member xs n ≡ true → has_member ys n ≡ true) → hits ballot xs ≤ hits ballot ys
hits-more [] xs ys more = omega arith
hits-more (n ∷ ballot) xs ys more = grind (arith, common_steps, more n, hits-more ballot xs ys more, sum_by-cons)

-- a ballot's members of a committee are the committee's members of the ballot
pub hits-turned : (m : ℕ) (ballot committee : List ℕ) → IsIncreasing 1 m ballot → IsIncreasing 1 m committee → hits ballot committee ≡ sum_by (λ n. cond (has_member ballot n) 1 0) committee
hits-turned m ballot committee up rises =
    let same : filter (has_member committee) ballot ≡ filter (has_member ballot) committee =
    same_increasing 1 m (filter (has_member committee) ballot) (filter (has_member ballot) committee) (IsIncreasing-filter (has_member committee) 1 m ballot up)
    (IsIncreasing-filter (has_member ballot) 1 m committee rises)
    (λ n. has_member-filter (has_member committee) ballot n ∙ and_comm (has_member committee n) (has_member ballot n) ∙ sym (has_member-filter (has_member ballot) committee n)) in
    sym (length-filter (has_member committee) ballot) ∙ ap length same ∙ length-filter (has_member ballot) committee

-- who is free and on the ballot
pub free-common : (ballot free : List ℕ) (n : ℕ) → has_member free n ≡ true → has_member (common_members ballot free) n ≡ has_member ballot n
free-common ballot free n is = has_member-filter (has_member free) ballot n ∙ ap (λ b. b && has_member ballot n) is
