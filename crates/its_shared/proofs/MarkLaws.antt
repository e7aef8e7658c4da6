-- The mark of the store of files: after each part of a close the store is whole.
use Rattle.std.specs.Prelude.{◌≡◌, ℕ, Option, Some, refl}
use Rattle.std.proofs.Common.{sym, ap, subst}
use Rattle.its_files.specs.Files.{Store, IsStore, names_at, after_unlink_old_by, after_unlink_old_at, after_unlink_old, after_link_new_at, after_link_new, after_link}
use Rattle.its_files.specs.declared.entry.Mark.{Mark}
use Rattle.its_files.specs.declared.entry.Parts.{Parts}
use Rattle.its_files.specs.declared.entry.Parts.TheVariants.{Replace, Link}
use Rattle.its_files.proofs.EntryLaws.{unlinked_files, linked_files}

-- a mark with its parts
abbrev pub marks : ℕ → Parts → Option Mark
marks owner parts = Some (record { owner = owner; parts = parts })

module _ (s : Store) (whole : IsStore s) (owner draft : ℕ) where
  pub unlinked_whole : (old : ℕ) → s.mark ≡ marks owner (Replace old draft) → IsStore (after_unlink_old s)
  unlinked_whole old is = subst IsStore (sym (ap (λ m. after_unlink_old_at m s) is))
      (unlinked_files s.entries s.order s.mark s.stored.texts whole owner old draft (after_unlink_old_by (Replace old draft) owner s).order is refl)

  pub linked_whole : (old : Option ℕ) → s.mark ≡ marks owner (Link old draft) → IsStore (after_link_new s)
  linked_whole old is = subst IsStore (sym (ap (λ m. after_link_new_at m s) is))
      (linked_files s.entries s.order s.mark s.stored.texts whole owner draft old (names_at s draft) (after_link old owner) is refl refl)
