use Rattle.std.proofs.Common.{sym}
use Rattle.its_pipes.specs.Pipes.{piped}
use Rattle.its_saved.specs.Saving.{end_names}
use Rattle.its_saved.specs.StateLine as state
use Rattle.its_saving.proofs.PartLaws.{join_is}
use Rattle.its_saving.proofs.WritingLaws.{writes_at, writes_line}
use Rattle.its_saving.proofs.channels.write_join.Goals as goal

pub returns : goal.returns
returns g c = writes_at _ _ (λ ls. ls) _ _ _ _ _ (sym (join_is c.args.w.now c.args.s c.args.n c.args.l c.args.write))
    (writes_line _ _ _ _ _ (state.Join c.args.s c.args.n c.args.l c.args.write (end_names (piped c.args.w.now.pipes c.args.l)).0
    (end_names (piped c.args.w.now.pipes c.args.l)).1) _ c.join_of.ensures c.write_line.ensures)
