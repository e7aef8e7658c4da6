use Rattle.std.proofs.Common.{subst, sym}
use Rattle.its_print.specs.Printing.{text}
use Rattle.its_top.specs.declared.sessions.flow.Flow.TheVariants as flows
use Rattle.its_top.specs.Answer.{Tells}
use Rattle.its_top.specs.Performing.{lines_of}
use Rattle.its_top.proofs.WritingLaws.{tells_nothing}
use Rattle.its_top.proofs.sessions.printing.print_shown.Goals as goal

pub returns-in-Nothing-clause-told : goal.returns-in-Nothing-clause-told
returns-in-Nothing-clause-told g c =
    subst (λ s. Tells flows.On flows.On (text (lines_of s c.args.m.now.world))
    (g.K.Sink.written c.args.out.now) (g.K.Sink.written c.args.out.now))
    (sym c.in-Nothing.is) (tells_nothing flows.On (g.K.Sink.written c.args.out.now))
