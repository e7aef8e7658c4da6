-- the file has its names and one reader fewer
use Rattle.std.proofs.Common.{ap, ◌∙◌, ◌-◌, Some, slice_set}
use Rattle.its_files.specs.Files.{Store, plain_directory, entry_in, names_by}
use Rattle.its_files.specs.declared.entry.Entry.TheVariants.{File}
use Rattle.its_files.proofs.DirectoryLaws.{read_plain}
use Rattle.its_files.proofs.EntryLaws.{read_files, reader_file}
use Rattle.its_files.proofs.files.Files.close_read.Goals as goal

pub invariant_of-self : goal.invariant_of-self
invariant_of-self c =
    let i = c.self.inside in
    read_files i.entries.items i.order.items i.mark i.blocks.texts c.self.invariant c.args.id c.names_of-names.result
    (c.readers_of-readers.result - 1) (rw (← c.self.view_is) at c.requires)
    (c.names_of-names.ensures ∙ ap names_by (c.entry_in.ensures ∙ ap (λ xs. entry_in xs c.args.id) c.deref.ensures.value))

pub returns-clause-plain : goal.returns-clause-plain
returns-clause-plain c =
    let i = c.self.inside in
    let s : Store = record { entries = i.entries.items; order = i.order.items; mark = i.mark; stored = i.blocks } in
    ap (λ ns. plain_directory (record s {
      entries = slice_set i.entries.items c.args.id (Some (File ns (c.readers_of-readers.result - 1)));
    })) (c.names_of-names.ensures ∙ ap names_by (c.entry_in.ensures ∙ ap (λ xs. entry_in xs c.args.id) c.deref.ensures.value))
    ∙ read_plain s c.self.invariant c.args.id (c.readers_of-readers.result - 1)
    (reader_file (entry_in i.entries.items c.args.id) (rw (← c.self.view_is) at c.requires)) ∙ ap plain_directory c.self.view_is
