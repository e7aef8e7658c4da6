-- The next part of a close is made in the store of a world.
use Rattle.std.specs.Prelude.{◌≡◌, Option, Some, None, List, [], ◌∷◌, refl}
use Rattle.std.proofs.Common.{sym, ap, ◌∙◌, subst}
use Rattle.its_files.specs.Files.{Store, IsStore, directory, after_unlink_old_at, after_link_new_at, after_free_old_at}
use Rattle.its_stepped.specs.State.{Part, UnlinkOld, LinkNew, FreeOld, Mark, State}
use Rattle.its_stepped.specs.Unwind.{with_part}
use Rattle.its_world.specs.Storage.{OnlyStore}
use Rattle.its_world.specs.World.{mark_of, state_of}
use Rattle.its_world.specs.declared.world.World.{World}
use Rattle.its_world.proofs.StorageLaws.{files_are, marks_are, store_state}
use Rattle.its_world.proofs.MarkLaws.{mark_none, made, part_step}
use Rattle.its_shared.proofs.KeptLaws.{Stays}
use Rattle.its_pclsr.specs.Owed.{FirstPart, IsNext}
use Rattle.its_pclsr.specs.Parts.{NextMade}
use Rattle.its_world.proofs.ContentsLaws.{core_as, jobs_as, symbols_as, pipes_as}

-- nothing is marked
none_made : (p : Part) (s : Store) → s.mark ≡ None → made p s ≡ s
none_made UnlinkOld s e = ap (λ m. after_unlink_old_at m s) e
none_made LinkNew s e = ap (λ m. after_link_new_at m s) e
none_made FreeOld s e = ap (λ m. after_free_old_at m s) e

none_state : (w : State) (s : Store) (p : Part) (m : Option Mark) → w.mark ≡ m → m ≡ None → w.raw.files ≡ directory s → w.mark ≡ mark_of s → s.mark ≡ None
    → record w { raw = record w.raw { files = directory (made p s) }; mark = mark_of (made p s) } ≡ with_part w.mark w
none_state w s p (Some m) e n files marked none = cc
none_state w s p None e n files marked none =
    let t : made p s ≡ s = none_made p s none in
    (λ i. record w { raw = record w.raw { files = directory (t i) }; mark = mark_of (t i) })
    ∙ sym (λ i. record w { raw = record w.raw { files = files i }; mark = marked i })
    ∙ sym (ap (λ o. with_part o w) e)

-- the next one is made
next_begins : (ps : List Part) (p : Part) → FirstPart ps p → (qs : List Part) × (ps ≡ p ∷ qs)
next_begins (q ∷ qs) p e = (qs, ap (λ x. x ∷ qs) e)
next_begins [] p e = absurd e

next_state : (w : State) (s : Store) (p : Part) (m : Option Mark) → IsStore s → w.raw.files ≡ directory s → w.mark ≡ mark_of s → mark_of s ≡ m → IsNext m p
    → record w { raw = record w.raw { files = directory (made p s) }; mark = mark_of (made p s) } ≡ with_part w.mark w
next_state w s p None whole files marked e next = none_state w s p None (marked ∙ e) refl files marked (mark_none s e)
next_state w s p (Some m) whole files marked e next =
    let ps = next_begins m.parts p next in
    sym (part_step s whole w m p ps.0 marked files e ps.1)

pub next_made : (old new : World) (p : Part) → IsStore old.files → IsNext (state_of old).mark p → new.files ≡ made p old.files
    → Stays old.files new.files old.jobs → OnlyStore old new new.files → NextMade old new
next_made old new p whole next files stays o = record {
  row =
      store_state old new new.files o stays
      ∙ ap (λ t. record (state_of old) { raw = record (state_of old).raw { files = directory t }; mark = mark_of t }) files
      ∙ next_state (state_of old) old.files p (mark_of old.files) whole (files_are old) (marks_are old) refl (subst (λ m. IsNext m p) (marks_are old) next);
  core = core_as o.is;
  jobs = jobs_as o.is;
  symbols = symbols_as o.is;
  pipes = pipes_as o.is;
}
