use Rattle.std.proofs.Common.{◌≡◌}
use Rattle.its_records.specs.declared.session.Place.TheVariants as places
use Rattle.its_direct.specs.Events.{Kept, spot_place}
use Rattle.test_judge.proofs.steps.steps.Given as goal

abbrev pub invariant-loop-a : goal.invariant-loop-a
invariant-loop-a g l = record { kept : Kept l.p; place : spot_place l.p.place ≡ places.Plain }
