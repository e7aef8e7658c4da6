use Rattle.std.proofs.Common.{sym}
use Rattle.its_top.proofs.CheckingLaws.{check_over, check_fault}
use Rattle.its_top.proofs.commands.checking.find.Goals as goal

pub returns-in_default-clause-found : goal.returns-in_default-clause-found
returns-in_default-clause-found g c = check_fault _ _ _ _ c.next.new.self _ _ _ c.loop-found.invariant.so_far c.in_default.ensures.finds

pub returns-in-Some-clause-found : goal.returns-in-Some-clause-found
returns-in-Some-clause-found g c =
    check_over _ c.in-Ok.found _ _ c.loop-found.items c.next.new.self _ _ _ (sym c.in-Ok.ensures.number) c.in-Ok.ensures.ready
    c.loop-found.invariant.so_far c.in-Ok.ensures.finds c.in-Some.ensures
