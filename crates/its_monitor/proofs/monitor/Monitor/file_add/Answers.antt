use Rattle.its_monitor.proofs.FileLaws.{word_kept}
use Rattle.its_monitor.proofs.monitor.Monitor.file_add.Goals as goal

pub returns-clause-kept : goal.returns-clause-kept
returns-clause-kept c =
    word_kept _ c.help.new.w c.add_word.new.w _ _ c.add_word.result c.requires.kept c.help.ensures c.add_word.ensures.done
    c.add_word.ensures.tidy c.add_word.ensures.same
