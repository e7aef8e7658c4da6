use Rattle.std.specs.Prelude.{false}
use Rattle.its_direct.proofs.RestoringLaws.{bytes_done}
use Rattle.its_direct.proofs.plain.Plain.restore_input.Goals as goal

pub returns-clause-done : goal.returns-clause-done
returns-clause-done c =
    bytes_done c.args.self.now c.args.c _ false c.args.bytes.now c.waiting_at-waiting.ensures.input c.type_each.new.self c.touch_none.new.self
    c.if-waiting-bytes.false c.type_each.ensures.row c.touch_none.ensures
