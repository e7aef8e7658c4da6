use Rattle.std.proofs.Common.{arith}
use Rattle.its_direct.proofs.AskLaws.{finding_begins, finding_ends, finding_fails, finding_few, finding_more}
use Rattle.its_direct.proofs.step.asking.sort_arguments.Goals as goal

pub loop-w-init : goal.loop-w-init
loop-w-init c =
    let f = finding_begins _ _ _ _ _ c.new-parts.ensures in
    record {
      used = c.requires.used;
      room = let r = c.requires.room in omega arith;
      few = finding_few _ _ _ _ _ _ _ _ f;
      finding = f;
    }

pub returns-in-Err : goal.returns-in-Err
returns-in-Err c = finding_fails _ _ _ _ _ _ _ _ _ _ c.loop-w.invariant.finding c.w-item.is c.loop-w-test.true _ c.in-Err.ensures.reads

pub loop-w-preserved : goal.loop-w-preserved
loop-w-preserved c =
    let f = finding_more _ _ _ _ _ _ _ _ _ _ c.loop-w.invariant.finding c.w-item.is c.loop-w-test.true c.in-Ok.found c.add.new.self
    c.in-Ok.ensures.reads c.add.ensures in
    record {
      used = c.in-Ok.ensures.more.1;
      room = let e = c.in-Ok.ensures.few in let r = c.loop-w.invariant.room in omega arith;
      few = finding_few _ _ _ _ _ _ _ _ f;
      finding = f;
    }

pub returns : goal.returns
returns c = finding_ends _ _ _ _ _ _ _ _ c.loop-w.invariant.finding c.loop-w-test.false
