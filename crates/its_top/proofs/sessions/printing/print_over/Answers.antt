use Rattle.std.proofs.Common.{subst, sym}
use Rattle.its_print.specs.Printing.{text}
use Rattle.its_top.specs.declared.sessions.flow.Flow.TheVariants as flows
use Rattle.its_top.specs.Answer.{Tells}
use Rattle.its_top.specs.Performing.{lines_over, flow_over}
use Rattle.its_top.proofs.WritingLaws.{tells_nothing}
use Rattle.its_top.proofs.sessions.printing.print_over.Goals as goal

pub returns-in-Ended-clause-told : goal.returns-in-Ended-clause-told
returns-in-Ended-clause-told g c =
    subst (λ o. Tells flows.Ended (flow_over o) (text (lines_over c.args.number o)) (g.K.Sink.written c.args.out.now)
    (g.K.Sink.written c.args.out.now)) (sym c.in-Ended.is)
    (tells_nothing flows.Ended (g.K.Sink.written c.args.out.now))
