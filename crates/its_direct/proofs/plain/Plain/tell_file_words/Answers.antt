use Rattle.std.proofs.Common.{subst, sym}
use Rattle.its_records.specs.declared.state_line.StateLine.TheVariants as states
use Rattle.its_direct.specs.State.{Restores}
use Rattle.its_direct.proofs.StateLaws.{restores_file_words}
use Rattle.its_direct.proofs.plain.Plain.tell_file_words.Goals as goal

pub returns-clause-restores : goal.returns-clause-restores
returns-clause-restores c =
    subst (Restores (states.FileWords c.args.words.now) c.args.self.now c.append_words.new.self) (sym c.answered.ensures)
    (restores_file_words c.args.self.now c.last_named-d.result.0 _ c.last_named-d.ensures c.append_words.new.self c.append_words.result c.args.words.now _
    c.as_slice.ensures.value c.append_words.ensures.done
    c.append_words.ensures.refused)
