use Rattle.std.proofs.Common.{subst, sym}
use Rattle.its_records.specs.declared.state_line.StateLine.TheVariants as states
use Rattle.its_direct.specs.State.{Restores}
use Rattle.its_direct.proofs.StateLaws.{restores_core_words}
use Rattle.its_direct.proofs.plain.Plain.tell_core_words.Goals as goal

pub returns-clause-restores : goal.returns-clause-restores
returns-clause-restores c =
    subst (Restores (states.CoreWords c.args.a c.args.words.now) c.args.self.now c.load_words.new.self) (sym c.answered.ensures)
    (restores_core_words c.args.self.now c.last_named-slot.result.0 _ c.last_named-slot.ensures c.load_words.new.self c.load_words.result c.args.a
    c.args.words.now _ c.as_slice.ensures.value c.load_words.ensures.done
    c.load_words.ensures.refused)
