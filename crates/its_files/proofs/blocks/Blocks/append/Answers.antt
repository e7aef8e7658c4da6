-- a word more in the last block, or in a new one
use Rattle.std.proofs.Common.{◌∙◌, ◌+◌, ◌-◌, ◌/◌, ap, sym, arith}
use Rattle.std.proofs.lemmas.List.{get_or_read}
use Rattle.its_files.specs.Blocks.{with_word_appended, is_full}
use Rattle.its_files.proofs.ChainLaws.{standing}
use Rattle.its_files.proofs.BlockLaws.{grown, grown_is, full_is, room_is, put_blocks, put_view}
use Rattle.its_files.proofs.blocks.Blocks.append.Goals as goal

pub returns-in_default-clause-full : goal.returns-in_default-clause-full
returns-in_default-clause-full c =
    let i = c.self.inside in
    let n_is = get_or_read i.lengths.items c.args.id c.index-length.result.now (omega arith) c.index-length.ensures 0 in
    sym (full_is i.words.words i.words.most i.lengths.items i.lasts.items i.free i.place i.links c.args.id c.self.invariant c.requires
    c.index-length.result.now n_is c.in_default.ensures.full.0 c.in_default.ensures.full.1) ∙ ap (λ s. is_full s c.args.id) c.self.view_is

pub put_word-requires-clause-block : goal.put_word-requires-clause-block
put_word-requires-clause-block c =
    let i = c.self.inside in
    let n_is = get_or_read i.lengths.items c.args.id c.index-length.result.now (omega arith) c.index-length.ensures 0 in
    let l_is = get_or_read i.lasts.items c.args.id c.index-last.result.now (omega arith) c.index-last.ensures 0 in
    let g = grown i.words.words i.words.most i.lengths.items i.lasts.items i.free i.place i.links c.args.id c.self.invariant c.requires
    c.block_for.new.links c.index-length.result.now c.in-Ok.block c.index-last.result.now n_is l_is c.in-Ok.ensures.old_block c.in-Ok.ensures.new_block in
    let m = grown_is i.words.words i.words.most i.lengths.items i.lasts.items i.free i.place i.links c.args.id c.self.invariant c.requires
    c.block_for.new.links c.index-length.result.now c.in-Ok.block c.index-last.result.now c.in-Ok.ensures.old_block c.in-Ok.ensures.new_block in
    let s = standing c.block_for.new.links.lists c.in-Ok.block (c.args.id + 1) (c.index-length.result.now / 128) g.here in
    let b = c.seen.ensures.below c.in-Ok.block s in
    let n = c.self.invariant.nodes in
    let e = m.0 in
    omega arith

pub invariant_of-self-2 : goal.invariant_of-self-2
invariant_of-self-2 c =
    let i = c.self.inside in
    let n_is = get_or_read i.lengths.items c.args.id c.index-length.result.now (omega arith) c.index-length.ensures 0 in
    let l_is = get_or_read i.lasts.items c.args.id c.index-last.result.now (omega arith) c.index-last.ensures 0 in
    let g = grown i.words.words i.words.most i.lengths.items i.lasts.items i.free i.place i.links c.args.id c.self.invariant c.requires
    c.block_for.new.links c.index-length.result.now c.in-Ok.block c.index-last.result.now n_is l_is c.in-Ok.ensures.old_block c.in-Ok.ensures.new_block in
    let m = grown_is i.words.words i.words.most i.lengths.items i.lasts.items i.free i.place i.links c.args.id c.self.invariant c.requires
    c.block_for.new.links c.index-length.result.now c.in-Ok.block c.index-last.result.now c.in-Ok.ensures.old_block c.in-Ok.ensures.new_block in
    put_blocks i.words.words c.put_word.new.words.words i.words.most c.put_word.new.words.most i.lengths.items i.lasts.items i.free i.place
    i.links.nodes c.block_for.new.links.nodes i.links.lists c.block_for.new.links.lists c.args.id c.index-length.result.now
    c.in-Ok.block c.args.w c.self.invariant c.put_word.ensures.most m.0 c.requires n_is g c.seen.ensures.once c.put_word.ensures.words
    (c.self.inside.free - (c.blocks_for.result - c.blocks_for-2.result))
    (let now = c.blocks_for.ensures in let before = c.blocks_for-2.ensures in let u = g.free in let all = c.self.invariant.free_is in omega arith)

pub returns-clause-ok : goal.returns-clause-ok
returns-clause-ok c =
    let i = c.self.inside in
    let n_is = get_or_read i.lengths.items c.args.id c.index-length.result.now (omega arith) c.index-length.ensures 0 in
    let l_is = get_or_read i.lasts.items c.args.id c.index-last.result.now (omega arith) c.index-last.ensures 0 in
    let g = grown i.words.words i.words.most i.lengths.items i.lasts.items i.free i.place i.links c.args.id c.self.invariant c.requires
    c.block_for.new.links c.index-length.result.now c.in-Ok.block c.index-last.result.now n_is l_is c.in-Ok.ensures.old_block c.in-Ok.ensures.new_block in
    let m = grown_is i.words.words i.words.most i.lengths.items i.lasts.items i.free i.place i.links c.args.id c.self.invariant c.requires
    c.block_for.new.links c.index-length.result.now c.in-Ok.block c.index-last.result.now c.in-Ok.ensures.old_block c.in-Ok.ensures.new_block in
    put_view i.words.words c.put_word.new.words.words i.words.most c.put_word.new.words.most i.lengths.items i.lasts.items i.free i.place
    i.links.nodes c.block_for.new.links.nodes i.links.lists c.block_for.new.links.lists c.args.id c.index-length.result.now
    c.in-Ok.block c.args.w c.self.invariant c.put_word.ensures.most m.0 c.requires n_is g c.seen.ensures.once c.put_word.ensures.words m.1
    ∙ ap (λ s. with_word_appended s c.args.id c.args.w) c.self.view_is

pub returns-clause-full : goal.returns-clause-full
returns-clause-full c =
    let i = c.self.inside in
    let n_is = get_or_read i.lengths.items c.args.id c.index-length.result.now (omega arith) c.index-length.ensures 0 in
    sym (room_is i.words.words i.words.most i.lengths.items i.lasts.items i.free i.place i.links c.args.id c.self.invariant c.requires
    c.index-length.result.now c.in-Ok.block n_is (λ t. (c.in-Ok.ensures.new_block t).0)) ∙ ap (λ s. is_full s c.args.id) c.self.view_is
