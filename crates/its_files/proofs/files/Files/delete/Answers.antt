-- what is left without the file
use Rattle.its_links.specs.Lists.{without}
use Rattle.its_word.specs.Directory.{without_names}
use Rattle.its_files.proofs.DirectoryLaws.{deleted_directory}
use Rattle.its_files.specs.Files.{Store, directory, names_at}
use Rattle.std.proofs.Common.{ap, ◌∙◌, None, slice_set}
use Rattle.its_files.proofs.EntryLaws.{deleted_files}
use Rattle.its_files.proofs.files.Files.delete.Goals as goal

pub invariant_of-self : goal.invariant_of-self
invariant_of-self c =
    let i = c.self.inside in
    deleted_files i.entries.items i.order.items i.mark i.blocks.texts c.self.invariant c.args.id c.give_up.new.self.texts
    c.take_out.new.order.items (rw (← c.self.view_is) at c.requires.file) (rw (← c.self.view_is) at c.requires.unmarked)
    (ap (λ b. b.texts) c.give_up.ensures) c.take_out.ensures

pub returns-clause-directory : goal.returns-clause-directory
returns-clause-directory c =
    let i = c.self.inside in
    let s : Store = record { entries = i.entries.items; order = i.order.items; mark = i.mark; stored = i.blocks } in
    ap (λ o. directory (record {
      entries = slice_set i.entries.items c.args.id None;
      order = o;
      mark = i.mark;
      stored = c.give_up.new.self;
    })) c.take_out.ensures
    ∙ ap (λ b. directory (record {
      entries = slice_set i.entries.items c.args.id None;
      order = without c.args.id i.order.items;
      mark = i.mark;
      stored = b;
    })) c.give_up.ensures
    ∙ deleted_directory s c.self.invariant c.args.id (rw (← c.self.view_is) at c.requires.file)
    ∙ ap (λ x. without_names (names_at x c.args.id) (directory x)) c.self.view_is
