use Rattle.std.proofs.Common.{subst, sym}
use Rattle.its_records.specs.declared.state_line.StateLine.TheVariants as states
use Rattle.its_direct.specs.State.{Restores}
use Rattle.its_direct.proofs.StateLaws.{restores_page}
use Rattle.its_direct.proofs.plain.Plain.tell_page.Goals as goal

pub returns-clause-restores : goal.returns-clause-restores
returns-clause-restores c =
    subst (Restores (states.ReadOnly c.args.page) c.args.self.now c.read_only.new.self) (sym c.answered.ensures)
    (restores_page c.args.self.now c.last_named-slot.result.0 _ c.last_named-slot.ensures c.read_only.new.self c.read_only.result c.args.page
    c.read_only.ensures.done
    c.read_only.ensures.refused)
