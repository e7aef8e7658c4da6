-- what is in the order is a file
use Rattle.std.proofs.Common.{ap, ◌∙◌, true, ◌≡◌, subst}
use Rattle.std.specs.Prelude.{IfSome, slice_get}
use Rattle.its_files.specs.Files.{entry_at, is_file}
use Rattle.its_files.proofs.EntryLaws.{listed_if}
use Rattle.its_files.proofs.files.Files.file_at.Goals as goal

pub returns-clause-file : goal.returns-clause-file
returns-clause-file c =
    let i = c.self.inside in
    subst (λ s. IfSome c.number_at.result (λ id. is_file (entry_at s id) ≡ true)) c.self.view_is
    (listed_if i.entries.items i.order.items i.mark i.blocks.texts c.self.invariant c.args.k c.number_at.result
    (c.number_at.ensures ∙ ap (λ o. slice_get o c.args.k) c.as_slice.ensures.value))
