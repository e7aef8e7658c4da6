use Rattle.its_core.specs.Cores.{core_at}
use Rattle.its_saved.specs.Saving.{read_only_lines, word_lines}
use Rattle.its_saving.proofs.WritingLaws.{first_broken, first_then}
use Rattle.its_saving.proofs.cores.write_core.Goals as goal

pub returns : goal.returns
returns g c = first_then _ _ _ _ _ _ _ _ (word_lines c.args.s (core_at c.args.core.now c.args.s))
    (read_only_lines c.args.s (core_at c.args.core.now c.args.s)) c.in_ok-write_words.was c.write_words.ensures c.write_read_only.ensures

pub returns-in_err-write_words : goal.returns-in_err-write_words
returns-in_err-write_words g c = first_broken _ _ _ _ _ _ _ (word_lines c.args.s (core_at c.args.core.now c.args.s))
    (read_only_lines c.args.s (core_at c.args.core.now c.args.s)) c.in_err-write_words.was c.write_words.ensures c.from_residual.ensures.0
