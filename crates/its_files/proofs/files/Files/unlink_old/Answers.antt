-- the old file is gone from the order
use Rattle.std.proofs.Common.{ap, ◌∙◌, Some}
use Rattle.its_files.proofs.EntryLaws.{unlinked_files}
use Rattle.its_files.proofs.files.Files.unlink_old.Goals as goal

pub invariant_of-self : goal.invariant_of-self
invariant_of-self c =
    let i = c.self.inside in
    let m = c.in-Some.mark in
    unlinked_files i.entries.items i.order.items i.mark i.blocks.texts c.self.invariant m.owner c.in-Replace.old c.in-Replace.draft
    c.take_out.new.order.items (c.in-Some.is ∙ ap (λ p. Some (record { owner = m.owner; parts = p })) c.in-Replace.is) c.take_out.ensures
