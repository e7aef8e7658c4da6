-- the first free block was taken
use Rattle.std.proofs.Common.{sym, arith}
use Rattle.its_files.proofs.BlockLaws.{with_block_is}
use Rattle.its_files.proofs.blocks.block_for.Goals as goal

pub returns-clause-new_block : goal.returns-clause-new_block
returns-clause-new_block c = λ _. (
  sym c.in-Some.ensures.front,
  with_block_is c.args.links.now c.pop_front.new.self c.push_back.new.self c.args.id c.in-Some.block (omega arith)
      (sym c.in-Some.ensures.front) c.in-Some.ensures.lists c.push_back.ensures.lists,
)
