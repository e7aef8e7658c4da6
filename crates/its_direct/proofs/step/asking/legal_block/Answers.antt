use Rattle.std.proofs.Common.{sym, ◌∙◌}
use Rattle.its_direct.proofs.AskLaws.{block_fails, block_illegal, block_legal}
use Rattle.its_direct.proofs.step.asking.legal_block.Goals as goal

pub returns-then-is_legal-clause-reads : goal.returns-then-is_legal-clause-reads
returns-then-is_legal-clause-reads c = block_legal _ _ _ _ _ c.in-Ok.ensures.reads (sym c.is_legal.ensures ∙ c.if-is_legal.true)

pub returns-else-is_legal-clause-reads : goal.returns-else-is_legal-clause-reads
returns-else-is_legal-clause-reads c = block_illegal _ _ c.in-Ok.block _ _ c.in-Ok.ensures.reads (sym c.is_legal.ensures ∙ c.if-is_legal.false)

pub returns-in-Err-clause-reads : goal.returns-in-Err-clause-reads
returns-in-Err-clause-reads c = block_fails _ _ _ _ _ c.in-Err.ensures.reads
