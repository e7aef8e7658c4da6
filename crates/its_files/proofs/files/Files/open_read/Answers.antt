-- the file has its names and one reader more
use Rattle.std.proofs.Common.{ap, ◌∙◌, ◌+◌}
use Rattle.its_files.specs.Files.{entry_in, names_by}
use Rattle.its_files.proofs.EntryLaws.{opened_files}
use Rattle.its_files.proofs.files.Files.open_read.Goals as goal

pub invariant_of-self : goal.invariant_of-self
invariant_of-self c =
    let i = c.self.inside in
    opened_files i.entries.items i.order.items i.mark i.blocks.texts c.self.invariant c.args.id c.names_of-names.result
    (c.readers_of-readers.result + 1) (rw (← c.self.view_is) at c.requires.file) (rw (← c.self.view_is) at c.requires.unmarked)
    (c.names_of-names.ensures ∙ ap names_by (c.entry_in.ensures ∙ ap (λ xs. entry_in xs c.args.id) c.deref.ensures.value))
