-- a word is that of its block
use Rattle.std.proofs.Common.{◌∙◌, ◌/◌, ap, arith, slice_get, slice_index_or}
use Rattle.std.proofs.lemmas.List.{get_or_read}
use Rattle.its_files.specs.Blocks.{text_at}
use Rattle.its_files.proofs.BlockLaws.{word_is, past_is}
use Rattle.its_files.proofs.blocks.Blocks.word.Goals as goal

pub returns-then-k-index : goal.returns-then-k-index
returns-then-k-index c =
    let i = c.self.inside in
    let n_is = get_or_read i.lengths.items c.args.id c.index.result.now (omega arith) c.index.ensures 0 in
    past_is i.words.words i.words.most i.lengths.items i.lasts.items i.free i.place i.links c.args.id c.self.invariant c.requires c.args.k
    c.index.result.now n_is c.if-k-index.true ∙ ap (λ s. slice_get (text_at s.texts c.args.id) c.args.k) c.self.view_is

pub get-requires : goal.get-requires
get-requires c =
    let r = c.self.invariant.ready c.args.id (c.args.k / 128) c.block_at-block.result c.block_at-block.ensures.block in
    omega arith

pub returns : goal.returns
returns c =
    let i = c.self.inside in
    let n_is = get_or_read i.lengths.items c.args.id c.index.result.now (omega arith) c.index.ensures 0 in
    word_is i.words.words i.words.most i.lengths.items i.lasts.items i.free i.place i.links c.args.id c.self.invariant c.requires c.args.k
    c.index.result.now c.block_at-block.result c.get.result n_is c.if-k-index.false c.block_at-block.ensures.block
    (c.get.ensures ∙ ap (λ p. slice_index_or i.words.words p 0) c.word_index.ensures)
    ∙ ap (λ s. slice_get (text_at s.texts c.args.id) c.args.k) c.self.view_is
