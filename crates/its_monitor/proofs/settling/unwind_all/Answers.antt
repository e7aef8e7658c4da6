use Rattle.std.proofs.Common.{◌∙◌, arith, refl}
use Rattle.its_monitor.proofs.KeptLaws.{alike_kept}
use Rattle.its_monitor.proofs.SettledLaws.{unwound_next, unwound_each}
use Rattle.its_monitor.proofs.settling.unwind_all.Goals as goal

pub loop-slot-init : goal.loop-slot-init
loop-slot-init c = record { plain = refl; frames = λ k l. absurd (omega arith); kept = c.requires.kept }

pub loop-slot-preserved : goal.loop-slot-preserved
loop-slot-preserved c =
    let u = rw c.new.ensures at c.unwind.ensures in
    record {
      plain = u.same ∙ c.loop-slot.invariant.plain;
      frames = unwound_next c.loop-slot.w _ c.loop-slot.slot c.loop-slot.invariant.frames u.none u.others;
      kept = alike_kept c.loop-slot.w _ c.loop-slot.invariant.kept u.same u.sound u.tidy;
    }

pub returns-clause-frames : goal.returns-clause-frames
returns-clause-frames c = let past = c.loop-slot-test.false in unwound_each _ c.loop-slot.slot (omega arith) c.loop-slot.invariant.kept
    c.loop-slot.invariant.frames
