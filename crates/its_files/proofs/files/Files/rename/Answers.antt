-- the file has other names, which no file has
use Rattle.its_word.specs.Directory.{with_changed, named}
use Rattle.its_files.proofs.DirectoryLaws.{renamed_directory}
use Rattle.std.proofs.Common.{ap, sym, ◌∙◌, [], ◌∷◌, slice_index_or}
use Rattle.its_files.specs.Files.{found_in, Store, directory, names_by, names_at, new_names, entry_in}
use Rattle.its_files.proofs.EntryLaws.{renamed_files}
use Rattle.its_files.proofs.files.Files.rename.Goals as goal
use Rattle.its_records.proofs.FreeLaws.{none_is}

pub invariant_of-self : goal.invariant_of-self
invariant_of-self c =
    let i = c.self.inside in
    let names = c.directory_of.result ∷ c.args.x ∷ c.args.y ∷ [] in
    renamed_files i.entries.items i.order.items i.mark i.blocks.texts c.self.invariant c.args.id names
    (rw (← c.self.view_is) at c.requires.file) (rw (← c.self.view_is) at c.requires.unmarked)
    (sym (c.found_in.ensures.found ∙ ap (λ xs. found_in xs names c.as_slice.result.now) c.deref-3.ensures.value
    ∙ ap (λ o. found_in i.entries.items names o) c.as_slice.ensures.value) ∙ none_is c.found_in.result (sym c.is_some.ensures ∙ c.if-is_some.false))

pub returns-clause-directory : goal.returns-clause-directory
returns-clause-directory c =
    let i = c.self.inside in
    let s : Store = record { entries = i.entries.items; order = i.order.items; mark = i.mark; stored = i.blocks } in
    let names = c.directory_of.result ∷ c.args.x ∷ c.args.y ∷ [] in
    let d = c.directory_of.ensures ∙ ap (λ ns. slice_index_or ns 0 0)
    (c.names_of.ensures ∙ ap names_by (c.entry_in-2.ensures ∙ ap (λ xs. entry_in xs c.args.id) c.deref-2.ensures.value)) in
    renamed_directory s c.self.invariant c.args.id names (rw (← c.self.view_is) at c.requires.file)
    ∙ ap (λ a. with_changed (names_at s c.args.id) (named (a ∷ c.args.x ∷ c.args.y ∷ [])) (directory s)) d
    ∙ ap (λ x. with_changed (names_at x c.args.id) (named (new_names x c.args.id c.args.x c.args.y)) (directory x)) c.self.view_is
