-- the mark of a close that replaces a file, or of one that does not
use Rattle.its_word.specs.Directory.{closed}
use Rattle.its_files.proofs.DirectoryLaws.{plain_replaced, plain_linked}
use Rattle.std.proofs.Common.{ap, sym, ◌∙◌, subst, Some, arith, ◌≡◌}
use Rattle.its_files.specs.Files.{entry_in, names_by, readers_by, found_in, IsFiles, Store, directory, plain_directory, file_at}
use Rattle.its_files.proofs.EntryLaws.{replace_files, link_files}
use Rattle.its_files.proofs.files.Files.begin_close.Goals.{in-Some+else-readers_of-gt0, in-None+else-len-ge-FILES}
use Rattle.its_files.proofs.files.Files.begin_close.Goals as goal

pub invariant_of-self : goal.invariant_of-self
invariant_of-self c =
    let i = c.self.inside in
    let names = c.names_of-names.result in
    elim c.match-found_in.branch [
      | in-Some+else-readers_of-gt0 w ↦
          let r = w.readers_of.ensures ∙ ap readers_by (w.entry_in-in-Some.ensures ∙ ap (λ xs. entry_in xs w.in-Some.old) w.deref-in-Some.ensures.value) in
          subst (λ p. IsFiles i.entries.items i.order.items (Some (record { owner = c.args.slot; parts = p })) i.blocks.texts) (sym w.parts-is)
          (replace_files i.entries.items i.order.items i.mark i.blocks.texts c.self.invariant c.args.id c.args.slot w.in-Some.old names
          (rw (← c.self.view_is) at c.requires.draft) (rw (← c.self.view_is) at c.requires.unmarked)
          (c.names_of-names.ensures ∙ ap names_by (c.entry_in.ensures ∙ ap (λ xs. entry_in xs c.args.id) c.deref.ensures.value))
          (sym (c.found_in.ensures.found ∙ ap (λ xs. found_in xs names c.as_slice.result.now) c.deref-2.ensures.value
          ∙ ap (λ o. found_in i.entries.items names o) c.as_slice.ensures.value) ∙ w.in-Some.is) (omega arith))
      | in-None+else-len-ge-FILES w ↦
          subst (λ p. IsFiles i.entries.items i.order.items (Some (record { owner = c.args.slot; parts = p })) i.blocks.texts) (sym w.parts-is)
          (link_files i.entries.items i.order.items i.mark i.blocks.texts c.self.invariant c.args.id c.args.slot names
          (rw (← c.self.view_is) at c.requires.draft) (rw (← c.self.view_is) at c.requires.unmarked)
          (c.names_of-names.ensures ∙ ap names_by (c.entry_in.ensures ∙ ap (λ xs. entry_in xs c.args.id) c.deref.ensures.value))
          (sym (c.found_in.ensures.found ∙ ap (λ xs. found_in xs names c.as_slice.result.now) c.deref-2.ensures.value
          ∙ ap (λ o. found_in i.entries.items names o) c.as_slice.ensures.value) ∙ w.in-None.is) (omega arith))
    ]

pub returns-clause-plain : goal.returns-clause-plain
returns-clause-plain c =
    let i = c.self.inside in
    let s : Store = record { entries = i.entries.items; order = i.order.items; mark = i.mark; stored = i.blocks } in
    let names = c.names_of-names.result in
    elim c.match-found_in.branch [
      | in-Some+else-readers_of-gt0 w ↦ subst (λ p. plain_directory
          (record {
            entries = i.entries.items;
            order = i.order.items;
            mark = Some (record { owner = c.args.slot; parts = p });
            stored = i.blocks;
          }) ≡ closed (file_at s c.args.id) (directory s)) (sym w.parts-is)
          (plain_replaced s c.self.invariant c.args.id c.args.slot w.in-Some.old (rw (← c.self.view_is) at c.requires.draft)
          (ap (λ ns. found_in i.entries.items ns i.order.items)
          (sym (c.names_of-names.ensures ∙ ap names_by (c.entry_in.ensures ∙ ap (λ xs. entry_in xs c.args.id) c.deref.ensures.value)))
          ∙ sym (c.found_in.ensures.found ∙ ap (λ xs. found_in xs names c.as_slice.result.now) c.deref-2.ensures.value
          ∙ ap (λ o. found_in i.entries.items names o) c.as_slice.ensures.value) ∙ w.in-Some.is))
      | in-None+else-len-ge-FILES w ↦ subst (λ p. plain_directory
          (record {
            entries = i.entries.items;
            order = i.order.items;
            mark = Some (record { owner = c.args.slot; parts = p });
            stored = i.blocks;
          }) ≡ closed (file_at s c.args.id) (directory s)) (sym w.parts-is)
          (plain_linked s c.self.invariant c.args.id c.args.slot (rw (← c.self.view_is) at c.requires.draft)
          (ap (λ ns. found_in i.entries.items ns i.order.items)
          (sym (c.names_of-names.ensures ∙ ap names_by (c.entry_in.ensures ∙ ap (λ xs. entry_in xs c.args.id) c.deref.ensures.value)))
          ∙ sym (c.found_in.ensures.found ∙ ap (λ xs. found_in xs names c.as_slice.result.now) c.deref-2.ensures.value
          ∙ ap (λ o. found_in i.entries.items names o) c.as_slice.ensures.value) ∙ w.in-None.is))
    ]
    ∙ ap (λ x. closed (file_at x c.args.id) (directory x)) c.self.view_is
