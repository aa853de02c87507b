use Rattle.std.proofs.Common.{◌≡◌, [], replicate}
use Rattle.ballot_base.specs.Steps.Profiles.{texts}
use Rattle.ballot_base.proofs.profile.no_names.Given as goal

-- so many empty names so far
abbrev pub invariant-loop : goal.invariant-loop
invariant-loop g l = texts l.names.items ≡ replicate l.counter []
