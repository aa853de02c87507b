use Rattle.std.proofs.Common.{[], arith, filter, ◌∙◌}
use Rattle.std.specs.List.{range_with_len}
use Rattle.ballot_base.proofs.Committees.{IsIncreasing-range}
use Rattle.ballot_base.proofs.Increasing.{IsIncreasing-filter}
use Rattle.group_check.specs.Steps.Checking.{may_share, shared_size}
use Rattle.group_check.proofs.BeginningLemmas.{from_nothing}
use Rattle.group_check.proofs.CountedLemmas.{few_enough}
use Rattle.group_check.proofs.RefutationLemmas.{none_shared, open-start}
use Rattle.group_check.proofs.TestLemmas.{list_all-filter}
use Rattle.group_check.proofs.checking.Search.first.Goals as goal

pub is_refuted-requires : goal.is_refuted-requires
is_refuted-requires g c =
    let s = c.args.self.now in
    let m = s.profile.now.m in
    rw (c.choices.ensures, c.shareable-pool.ensures.candidates)
    (open-start m s.level s.committee c.empty-nobody.result (filter (may_share s.property s.committee) (range_with_len 1 m)) c.shared_size-size.result
    (IsIncreasing-filter (may_share s.property s.committee) 1 m (range_with_len 1 m) (IsIncreasing-range 1 m m (omega arith))))

pub returns-then-is_refuted : goal.returns-then-is_refuted
returns-then-is_refuted g c =
    let s = c.args.self.now in
    let e = s.profile.now in
    let pool = filter (may_share s.property s.committee) (range_with_len 1 e.m) in
    none_shared s.property e s.committee s.level [] pool (shared_size s.property s.level) s.candidates (few_enough s.property s.committee s.level s.some s.most)
    (IsIncreasing-filter (may_share s.property s.committee) 1 e.m (range_with_len 1 e.m) (IsIncreasing-range 1 e.m e.m (omega arith)))
    (rw (c.choices.ensures, c.empty-nobody.ensures, c.shareable-pool.ensures.candidates, c.shared_size-size.ensures) at (c.is_refuted.ensures c.if-is_refuted.true))
    ∙ from_nothing s.property e s.committee s.level

pub first_beyond-requires-clause-order : goal.first_beyond-requires-clause-order
first_beyond-requires-clause-order g c =
    let s = c.args.self.now in
    let m = s.profile.now.m in
    rw (c.empty-nobody.ensures, c.shareable-pool.ensures.candidates)
    (IsIncreasing-filter (may_share s.property s.committee) 1 m (range_with_len 1 m) (IsIncreasing-range 1 m m (omega arith)))

pub first_beyond-requires-clause-shared : goal.first_beyond-requires-clause-shared
first_beyond-requires-clause-shared g c =
    let s = c.args.self.now in
    rw (c.empty-nobody.ensures, c.shareable-pool.ensures.candidates) (list_all-filter (may_share s.property s.committee) (range_with_len 1 s.profile.now.m))

pub returns : goal.returns
returns g c =
    let s = c.args.self.now in
    rw (c.empty-nobody.ensures, c.shared_size-size.ensures, c.shareable-pool.ensures.candidates) at c.first_beyond.ensures ∙ from_nothing s.property s.profile.now s.committee s.level
