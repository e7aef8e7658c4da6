use Rattle.std.proofs.Common.{subst, sym}
use Rattle.its_records.specs.declared.state_line.StateLine.TheVariants as states
use Rattle.its_direct.specs.State.{Restores}
use Rattle.its_direct.proofs.StateLaws.{restores_symbol}
use Rattle.its_direct.proofs.plain.Plain.tell_name.Goals as goal

pub returns-clause-restores : goal.returns-clause-restores
returns-clause-restores c =
    subst (Restores (states.Symbol c.args.name c.args.a) c.args.self.now c.symbol.new.self) (sym c.answered.ensures)
    (restores_symbol c.args.self.now c.last_named-slot.result.0 _ c.last_named-slot.ensures c.symbol.new.self c.symbol.result c.args.name c.args.a
    c.symbol.ensures.done
    c.symbol.ensures.refused)
