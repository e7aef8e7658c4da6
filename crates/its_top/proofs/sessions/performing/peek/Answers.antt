use Rattle.std.proofs.Common.{ap}
use Rattle.its_print.specs.Printing.{Peeked}
use Rattle.its_top.proofs.PerformLaws.{peek_performed, peek_refused}
use Rattle.its_top.proofs.sessions.performing.peek.Goals as goal

pub returns-in-Ok : goal.returns-in-Ok
returns-in-Ok c = record { performed = λ b. peek_performed b _ _ _ c.in-Ok.ensures.some (ap (Peeked c.args.s) c.in-Ok.ensures.shown) tt }

pub returns-in-Err : goal.returns-in-Err
returns-in-Err c = record { performed = λ b. peek_refused _ b b _ _ _ c.in-Err.ensures.refused.0 c.in-Err.ensures.refused.1 }
