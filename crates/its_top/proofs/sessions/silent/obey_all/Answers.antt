use Rattle.std.proofs.Common.{sym}
use Rattle.its_top.proofs.SilentLaws.{silent_broken, silent_over}
use Rattle.its_top.proofs.StartLaws.{found_start}
use Rattle.its_top.proofs.sessions.silent.obey_all.Goals as goal

pub returns-in_default-clause-led : goal.returns-in_default-clause-led
returns-in_default-clause-led g c = silent_broken _ _ _ _ _ _ c.next.new.self _ _ _ c.loop-found.invariant.so_far c.in_default.ensures.finds

pub obey-requires-clause-start : goal.obey-requires-clause-start
obey-requires-clause-start g c = found_start c.loop-found.items.place c.in-Ok.found _ c.in-Ok.ensures.stands c.loop-found.invariant.begun

pub returns-in-Some-clause-led : goal.returns-in-Some-clause-led
returns-in-Some-clause-led g c =
    silent_over _ c.in-Ok.found _ _ _ _ _ _ _ c.loop-found.items c.next.new.self _ _ _ _ (sym c.in-Ok.ensures.number) c.in-Ok.ensures.ready
    c.loop-found.invariant.so_far c.in-Ok.ensures.finds c.in-Some.ensures.leads
