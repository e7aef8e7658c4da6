use Rattle.its_direct.proofs.AskLaws.{block_read, first_fails, name_fails}
use Rattle.its_direct.proofs.step.asking.read_block.Goals as goal

pub returns-in-Ok-word-clause-reads : goal.returns-in-Ok-word-clause-reads
returns-in-Ok-word-clause-reads c = block_read _ _ _ _ _ _ _ _ _ _ c.in-Ok.ensures.reads c.in-Ok-word.ensures.reads
    c.two_words.ensures.words c.argument_words.ensures.reads

pub returns-in-Err-word-clause-reads : goal.returns-in-Err-word-clause-reads
returns-in-Err-word-clause-reads c = name_fails _ _ _ _ _ _ _ c.in-Ok.ensures.reads c.in-Err-word.ensures.reads

pub returns-in-Err-clause-reads : goal.returns-in-Err-clause-reads
returns-in-Err-clause-reads c = first_fails _ _ _ _ _ c.in-Err.ensures.reads
