use Rattle.std.specs.Prelude.{option_copied}
use Rattle.std.proofs.Common.{ap, sym, ◌∙◌}
use Rattle.its_direct.proofs.WaitingLaws.{no_step}
use Rattle.its_direct.proofs.plain.Plain.lacks_input.Goals as goal

pub returns-in-Some-clause-still : goal.returns-in-Some-clause-still
returns-in-Some-clause-still c = λ lacks. no_step c.args.self.now c.args.slot c.in-Some.job.now c.args.near c.requires.hand
    (sym c.job.ensures.job ∙ ap option_copied c.in-Some.is) (sym c.lacks_near.ensures ∙ lacks)
