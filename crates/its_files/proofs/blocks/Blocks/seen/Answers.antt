-- the lengths of all texts give the blocks in use
use Rattle.std.proofs.Common.{◌≡◌, ◌+◌, length, ap, subst, arith}
use Rattle.its_files.specs.Blocks.{free_blocks, blocks_used, stored_in}
use Rattle.its_files.proofs.BlockLaws.{used_is, chains_are}
use Rattle.its_files.proofs.blocks.Blocks.seen.Goals as goal

pub returns : goal.returns
returns c =
    let i = c.self.inside in
    let u = used_is i.words.words i.links.lists i.lengths.items c.self.invariant.lengths_long in
    let f = ap (λ xs. length (free_blocks xs)) (chains_are i.words.words i.links.lists i.lengths.items) in
    let h = c.self.invariant.used in
    let e : length (free_blocks (stored_in i.words.words i.links.lists i.lengths.items).chains) + blocks_used
    (stored_in i.words.words i.links.lists i.lengths.items) ≡ 2048 = omega arith in
    subst (λ s. length (free_blocks s.chains) + blocks_used s ≡ 2048) c.self.view_is e
