use Rattle.std.proofs.Common.{sym}
use Rattle.call_core.proofs.PartLaws.{each_part, part_alone, part_goes, part_next}
use Rattle.call_core.proofs.calls.unmarked_part.Goals as goal

pub returns-in-Some-clause-goes : goal.returns-in-Some-clause-goes
returns-in-Some-clause-goes c =
    part_goes c.args.w.now c.args.slot c.in-Some.job.now c.args.ask.now c.siot_part.result (sym c.in-Some.ensures.job) c.requires.fail
    c.requires.name c.siot_part.ensures.goes

pub returns-in-Some-clause-alone : goal.returns-in-Some-clause-alone
returns-in-Some-clause-alone c =
    part_alone c.args.w.now c.args.slot c.in-Some.job.now c.args.ask.now c.siot_part.result (sym c.in-Some.ensures.job) c.requires.fail
    c.requires.name c.siot_part.ensures.alone

pub returns-in-Some-clause-unmarked : goal.returns-in-Some-clause-unmarked
returns-in-Some-clause-unmarked c = each_part c.siot_part.result c.requires.unmarked

pub returns-in-Some-clause-name : goal.returns-in-Some-clause-name
returns-in-Some-clause-name c = each_part c.siot_part.result c.requires.name

pub returns-in-Some-clause-next : goal.returns-in-Some-clause-next
returns-in-Some-clause-next c =
    part_next c.args.w.now c.args.slot c.in-Some.job.now c.args.ask.now c.siot_part.result (sym c.in-Some.ensures.job) c.requires.fail
    c.requires.name c.requires.unmarked c.siot_part.ensures.part
