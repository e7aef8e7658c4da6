-- there is a free number
use Rattle.its_files.proofs.DirectoryLaws.{with_draft_directory}
use Rattle.its_files.specs.Files.{Store, directory, entry_in}
use Rattle.std.proofs.Common.{inr, ◌∙◌, ap, sym, [], ◌∷◌}
use Rattle.its_files.proofs.EntryLaws.{room}
use Rattle.its_files.proofs.files.Files.draft.Goals as goal

pub free_number-id-requires-clause-some : goal.free_number-id-requires-clause-some
free_number-id-requires-clause-some c =
    let i = c.self.inside in
    rw c.deref.ensures.value (room i.entries.items i.order.items i.mark i.blocks.texts c.self.invariant
    (rw (← c.self.view_is) at c.requires.unmarked) (inr (rw (← c.self.view_is) at c.requires.few)))

pub returns-clause-directory : goal.returns-clause-directory
returns-clause-directory c =
    let i = c.self.inside in
    let s : Store = record { entries = i.entries.items; order = i.order.items; mark = i.mark; stored = i.blocks } in
    with_draft_directory s c.self.invariant c.free_number-id.result (c.args.d ∷ c.args.x ∷ c.args.y ∷ [])
    (sym (ap (λ xs. entry_in xs c.free_number-id.result) c.deref.ensures.value) ∙ c.free_number-id.ensures.free) ∙ ap directory c.self.view_is
