-- the draft is the last file
use Rattle.std.proofs.Common.{ap, sym, ◌∙◌, subst, Some, slice_set}
use Rattle.its_files.specs.declared.entry.Entry.TheVariants.{File}
use Rattle.its_files.specs.Files.{entry_in, names_by, IsFiles}
use Rattle.its_files.proofs.EntryLaws.{linked_files}
use Rattle.its_files.proofs.files.Files.link_new.Goals as goal

pub invariant_of-self : goal.invariant_of-self
invariant_of-self c =
    let i = c.self.inside in
    let m = c.in-Some.mark in
    let draft = c.in-Link.draft in
    let names = c.names_of-names.result in
    subst (λ ks. IsFiles (slice_set i.entries.items draft (Some (File names 0))) ks c.after_link-self-inside.result i.blocks.texts) (sym c.push.ensures.items)
    (linked_files i.entries.items i.order.items i.mark i.blocks.texts c.self.invariant m.owner draft c.in-Link.old names
    c.after_link-self-inside.result (c.in-Some.is ∙ ap (λ p. Some (record { owner = m.owner; parts = p })) c.in-Link.is)
    (c.names_of-names.ensures ∙ ap names_by (c.entry_in.ensures ∙ ap (λ xs. entry_in xs draft) c.deref.ensures.value)) c.after_link-self-inside.ensures)
