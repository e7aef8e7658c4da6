use Rattle.std.proofs.Common.{arith}
use Rattle.its_saving.proofs.keeping.keep_console.Goals as goal

pub returns : goal.returns
returns c =
    let i = c.waiting_at-waiting.ensures.input in
    let o = c.waiting_at-waiting.ensures.output in
    let m = c.waiting_at-waiting.ensures.most in
    record { input = omega arith; output = omega arith }
