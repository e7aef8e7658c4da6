-- the walk from block to block
use Rattle.std.proofs.Common.{◌∙◌, ◌+◌, refl, sym, arith}
use Rattle.std.proofs.lemmas.Option.{slice_get-get_or}
use Rattle.its_files.specs.Blocks.{blocks_of}
use Rattle.its_files.proofs.ChainLaws.{next_is, standing}
use Rattle.its_files.proofs.blocks.block_at.Goals as goal

pub unwrap-block-requires : goal.unwrap-block-requires
unwrap-block-requires c =
    let ls = c.args.links.now.lists in
    let e = next_is ls (c.args.id + 1) c.loop-at._at (c.loop-at._at + 1) c.loop-at.block c.next.result (omega arith) c.loop-at.invariant
    c.next.ensures ∙ slice_get-get_or (blocks_of ls c.args.id) (c.loop-at._at + 1) 0 (omega arith) in
    rw e refl

pub loop-at-preserved : goal.loop-at-preserved
loop-at-preserved c =
    sym (next_is c.args.links.now.lists (c.args.id + 1) c.loop-at._at (c.loop-at._at + 1) c.loop-at.block c.next.result (omega arith)
    c.loop-at.invariant c.next.ensures) ∙ c.unwrap-block.ensures

pub returns-clause-within : goal.returns-clause-within
returns-clause-within c =
    c.seen.ensures.below c.loop-at.block (standing c.args.links.now.lists c.loop-at.block (c.args.id + 1) c.loop-at._at c.loop-at.invariant)
