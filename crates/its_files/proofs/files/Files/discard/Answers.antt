-- what is left without the draft
use Rattle.its_files.proofs.DirectoryLaws.{discarded_directory, discarded_plain}
use Rattle.its_files.specs.Files.{Store, directory, plain_directory}
use Rattle.std.proofs.Common.{ap, ◌∙◌, None, slice_set}
use Rattle.its_files.proofs.EntryLaws.{discarded_files}
use Rattle.its_files.proofs.files.Files.discard.Goals as goal

pub invariant_of-self : goal.invariant_of-self
invariant_of-self c =
    let i = c.self.inside in
    discarded_files i.entries.items i.order.items i.mark i.blocks.texts c.self.invariant c.args.id c.give_up.new.self.texts
    (rw (← c.self.view_is) at c.requires.draft) (rw (← c.self.view_is) at c.requires.other) (ap (λ b. b.texts) c.give_up.ensures)

pub returns-clause-directory : goal.returns-clause-directory
returns-clause-directory c =
    let i = c.self.inside in
    let s : Store = record { entries = i.entries.items; order = i.order.items; mark = i.mark; stored = i.blocks } in
    ap (λ b. directory (record { entries = slice_set i.entries.items c.args.id None; order = i.order.items; mark = i.mark; stored = b })) c.give_up.ensures
    ∙ discarded_directory s c.self.invariant c.args.id (rw (← c.self.view_is) at c.requires.draft) ∙ ap directory c.self.view_is

pub returns-clause-plain : goal.returns-clause-plain
returns-clause-plain c =
    let i = c.self.inside in
    let s : Store = record { entries = i.entries.items; order = i.order.items; mark = i.mark; stored = i.blocks } in
    ap (λ b. plain_directory (record {
      entries = slice_set i.entries.items c.args.id None;
      order = i.order.items;
      mark = i.mark;
      stored = b;
    })) c.give_up.ensures
    ∙ discarded_plain s c.self.invariant c.args.id (rw (← c.self.view_is) at c.requires.draft) (rw (← c.self.view_is) at c.requires.other)
    ∙ ap plain_directory c.self.view_is
