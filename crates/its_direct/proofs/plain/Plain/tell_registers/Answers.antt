use Rattle.std.proofs.Common.{subst, sym}
use Rattle.its_records.specs.declared.state_line.StateLine.TheVariants as states
use Rattle.its_direct.specs.State.{Restores}
use Rattle.its_direct.proofs.StateLaws.{restores_registers}
use Rattle.its_direct.proofs.plain.Plain.tell_registers.Goals as goal

pub returns-clause-restores : goal.returns-clause-restores
returns-clause-restores c =
    subst (Restores (states.Regs c.args.registers.now) c.args.self.now c.set_registers.new.self) (sym c.answered.ensures)
    (restores_registers c.args.self.now c.last_named-slot.result.0 _ c.last_named-slot.ensures c.set_registers.new.self c.set_registers.result
    c.args.registers.now c.set_registers.ensures.done
    c.set_registers.ensures.refused)
