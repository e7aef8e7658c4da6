use Rattle.std.proofs.Common.{refl}
use Rattle.its_direct.specs.Asking.{block_site}
use Rattle.its_direct.proofs.AskLaws.{arguments_faulted, asked_is, block_faulted}
use Rattle.its_direct.proofs.step.asking.put_block.Goals as goal

pub returns-in-Ok-sort_block : goal.returns-in-Ok-sort_block
returns-in-Ok-sort_block c =
    asked_is _ (block_site c.args.e c.args.used c.args.asked.now.decode.items) c.in-Ok.block _ _ _ _ _ refl refl c.in-Ok.ensures.reads
    c.in-Ok-sort_block.ensures c.put_parts.ensures

pub returns-in-Err-sort_block : goal.returns-in-Err-sort_block
returns-in-Err-sort_block c =
    arguments_faulted _ (block_site c.args.e c.args.used c.args.asked.now.decode.items) c.in-Ok.block _ _ _ _ refl refl
    c.in-Ok.ensures.reads c.in-Err-sort_block.ensures

pub returns-in-Err : goal.returns-in-Err
returns-in-Err c = block_faulted _ (block_site c.args.e c.args.used c.args.asked.now.decode.items) _ _ _ refl refl c.in-Err.ensures.reads
