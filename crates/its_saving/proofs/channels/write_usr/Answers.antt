use Rattle.std.proofs.Common.{ap, ◌∙◌}
use Rattle.its_saved.specs.StateLine as state
use Rattle.its_saved.specs.Text.{line_of}
use Rattle.its_saving.proofs.WritingLaws.{writes_line}
use Rattle.its_saving.proofs.channels.write_usr.Goals as goal

pub returns : goal.returns
returns g c = writes_line _ _ _ _ _ (state.Usr c.args.s c.args.n c.args.slot c.args.write c.args.at) _
    (c.usr_of.ensures ∙ ap (λ t. line_of (state.Usr c.args.s c.args.n t c.args.write c.args.at)) c.new.ensures) c.write_line.ensures
