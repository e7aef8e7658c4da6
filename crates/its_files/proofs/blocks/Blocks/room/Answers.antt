-- the last block's words that are left, and those of the free blocks
use Rattle.std.proofs.Common.{◌∙◌, ap, arith}
use Rattle.std.proofs.lemmas.List.{get_or_read}
use Rattle.its_files.specs.Blocks.{room_behind}
use Rattle.its_files.proofs.BlockLaws.{behind_is}
use Rattle.its_files.proofs.blocks.Blocks.room.Goals as goal

pub returns : goal.returns
returns c =
    let i = c.self.inside in
    let n_is = get_or_read i.lengths.items c.args.id c.index-length.result.now (omega arith) c.index-length.ensures 0 in
    let b = behind_is i.words.words i.words.most i.lengths.items i.lasts.items i.free i.place i.links c.args.id c.self.invariant c.requires
    c.index-length.result.now n_is in
    omega arith ∙ ap (λ s. room_behind s c.args.id) c.self.view_is
