-- what is found is a file
use Rattle.std.proofs.Common.{ap, ◌∙◌, true, ◌≡◌, [], ◌∷◌, subst}
use Rattle.std.specs.Prelude.{IfSome}
use Rattle.its_files.specs.Files.{entry_at, is_file, found_in}
use Rattle.its_files.proofs.EntryLaws.{found_if}
use Rattle.its_files.proofs.files.Files.find.Goals as goal

pub returns-clause-file : goal.returns-clause-file
returns-clause-file c =
    let i = c.self.inside in
    let names = c.args.d ∷ c.args.x ∷ c.args.y ∷ [] in
    subst (λ s. IfSome c.found_in.result (λ id. is_file (entry_at s id) ≡ true)) c.self.view_is
    (found_if i.entries.items i.order.items i.mark i.blocks.texts c.self.invariant names c.found_in.result
    (c.found_in.ensures.found ∙ ap (λ xs. found_in xs names c.as_slice.result.now) c.deref.ensures.value
    ∙ ap (λ o. found_in i.entries.items names o) c.as_slice.ensures.value))
