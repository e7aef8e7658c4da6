use Rattle.std.proofs.Common.{subst, sym, ◌+◌}
use Rattle.its_shared.proofs.DirLaws.{order_within}
use Rattle.its_monitor.proofs.DirLaws.{IsLeft, dir_passes, dir_skips}
use Rattle.its_monitor.proofs.filing.file_in.Goals.{in-Some+then-is_in+else-left-eq0, in-Some+else-is_in, in_default}
use Rattle.its_monitor.proofs.filing.file_in.Goals as goal

pub loop-i-preserved : goal.loop-i-preserved
loop-i-preserved c = elim c.match-file_at.branch [
  | in-Some+then-is_in+else-left-eq0 w ↦ subst (IsLeft c.args.w.now.files c.args.d c.args.k (c.loop-i.i + 1)) (sym w.left-is)
      (dir_passes c.args.w.now.files c.args.d c.args.k c.loop-i.i c.loop-i.left _ _ _ c.loop-i.invariant c.file_at.ensures.number
      w.in-Some.is w.is_in.ensures w.if-is_in.true w.if-left-eq0.false)
  | in-Some+else-is_in w ↦ subst (IsLeft c.args.w.now.files c.args.d c.args.k (c.loop-i.i + 1)) (sym w.left-is)
      (dir_skips c.args.w.now.files c.args.d c.args.k c.loop-i.i c.loop-i.left _ _ _ c.loop-i.invariant c.file_at.ensures.number
      w.in-Some.is w.is_in.ensures w.if-is_in.false)
  | in_default w ↦ absurd (order_within c.args.w.now.files c.loop-i.i _ _ c.file_at.ensures.number w.in_default.is c.count-i-end.ensures c.loop-i-test.true)
]
