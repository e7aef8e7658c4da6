-- there is a free number, and the file is one more
use Rattle.its_files.proofs.DirectoryLaws.{with_file_directory}
use Rattle.std.proofs.Common.{inl, ap, sym, ◌∙◌, [], ◌∷◌, ◌++◌, subst}
use Rattle.its_files.specs.declared.entry.Entry.TheVariants.{File}
use Rattle.std.specs.Prelude.{Some, slice_set}
use Rattle.its_files.specs.Files.{IsFiles, entry_in, Store, directory}
use Rattle.its_files.proofs.EntryLaws.{room, made_file}
use Rattle.its_files.proofs.files.Files.new_file.Goals as goal

pub free_number-id-requires-clause-some : goal.free_number-id-requires-clause-some
free_number-id-requires-clause-some c =
    let i = c.self.inside in
    rw c.deref.ensures.value (room i.entries.items i.order.items i.mark i.blocks.texts c.self.invariant
    (rw (← c.self.view_is) at c.requires.unmarked) (inl (rw (← c.self.view_is) at c.requires.few)))

pub invariant_of-self : goal.invariant_of-self
invariant_of-self c =
    let i = c.self.inside in
    let id = c.free_number-id.result in
    let names = c.args.d ∷ c.args.x ∷ c.args.y ∷ [] in
    subst (λ ks. IsFiles (slice_set i.entries.items id (Some (File names 0))) ks i.mark i.blocks.texts) (sym c.push.ensures.items)
    (made_file i.entries.items i.order.items i.mark i.blocks.texts c.self.invariant id names
    (sym (ap (λ xs. entry_in xs id) c.deref.ensures.value) ∙ c.free_number-id.ensures.free) c.free_number-id.ensures.below
    (rw (← c.self.view_is) at c.requires.unmarked) (rw (← c.self.view_is) at c.requires.few) (rw (← c.self.view_is) at c.requires.fresh))

pub returns-clause-directory : goal.returns-clause-directory
returns-clause-directory c =
    let i = c.self.inside in
    let s : Store = record { entries = i.entries.items; order = i.order.items; mark = i.mark; stored = i.blocks } in
    let id = c.free_number-id.result in
    let names = c.args.d ∷ c.args.x ∷ c.args.y ∷ [] in
    ap (λ o. directory (record {
      entries = slice_set i.entries.items id (Some (File names 0));
      order = o;
      mark = i.mark;
      stored = i.blocks;
    })) c.push.ensures.items
    ∙ with_file_directory s c.self.invariant id names (sym (ap (λ xs. entry_in xs c.free_number-id.result) c.deref.ensures.value)
    ∙ c.free_number-id.ensures.free) c.free_number-id.ensures.below (rw (← c.self.view_is) at c.requires.unmarked)
    ∙ ap (λ x. directory x ++ record { names = names; words = [] } ∷ []) c.self.view_is
