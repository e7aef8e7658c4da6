-- all blocks of a number become free
use Rattle.std.proofs.Common.{◌∙◌, ap}
use Rattle.its_files.specs.Blocks.{after_giving_up}
use Rattle.its_files.proofs.BlockLaws.{given_view}
use Rattle.its_files.proofs.blocks.Blocks.give_up.Goals as goal

pub returns : goal.returns
returns c =
    let i = c.self.inside in
    given_view i.words.words i.words.most i.lengths.items i.lasts.items i.free i.place i.links.nodes c.splice.new.self.nodes i.links.lists
    c.splice.new.self.lists c.args.id c.self.invariant (ap (λ l. l.nodes) c.splice.ensures.lists) c.requires
    (ap (λ l. l.lists) c.splice.ensures.lists) ∙ ap (λ s. after_giving_up s c.args.id) c.self.view_is
