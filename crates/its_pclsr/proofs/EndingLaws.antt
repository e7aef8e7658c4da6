-- A call that has ended: its first pending step is taken, and performed.
use Rattle.std.specs.Prelude.{◌≡◌, ◌<◌, ℕ, ◌+◌, Bool, true, false, Option, Some, None, IfSome, is_some, List, [], ◌∷◌, length, slice_index_or, drop, refl}
use Rattle.std.proofs.Common.{arith, sym, ap, ◌∙◌, subst}
use Rattle.std.proofs.lemmas.Bool.{eqb-true}
use Rattle.its_word.specs.Core.{Core, can_store}
use Rattle.its_word.specs.Stores.{place, stored}
use Rattle.its_records.specs.declared.calls.Exit.{Exit}
use Rattle.its_records.specs.declared.calls.Owed.{Owed}
use Rattle.its_records.specs.declared.calls.Owed.TheVariants as owed
use Rattle.its_records.specs.declared.calls.Owed.TheVariants.{GiveBack, Unlink, Link, Free, Leave}
use Rattle.its_records.specs.declared.jobs.Job.{Job}
use Rattle.its_core.specs.Cores.{core_at, clear_at}
use Rattle.its_jobs.specs.Table.{job_at}
use Rattle.its_frame.specs.Left.{kept}
use Rattle.its_frame.specs.declared.frame.Ending.{Ending}
use Rattle.its_frame.specs.declared.frame.Frame.{Frame}
use Rattle.its_frame.specs.declared.frame.Frame.TheVariants as frames
use Rattle.its_plain.specs.Machine.Change.{poke}
use Rattle.its_plain.specs.Machine.Own.{with_stores, after_exit, after_leave}
use Rattle.its_stepped.specs.State.{Part, Mark, State, mine, with_slot, same, reserving, ending}
use Rattle.its_stepped.specs.Unwind.{due, with_part, after_settling, unwind_one}
use Rattle.its_stepped.specs.Sound.{Owes, backs, EndingPays, MarkBy, Sound, file_parts, parts_in_frame}
use Rattle.its_in_call.specs.Calls.{after_step, ending_in}
use Rattle.its_in_call.specs.Steps.{is_file}
use Rattle.its_in_call.proofs.StepLaws.{due_all}
use Rattle.its_world.specs.World.{state_of, mark_of, frame_at, Becomes, CoreBecomes, FrameBecomes, PageBecomes, JobBecomes}
use Rattle.its_world.specs.declared.world.World.{World}
use Rattle.its_world.proofs.StateLaws.{kept_state, kept_slot, stored_slot, left_slot, retaken}
use Rattle.its_pclsr.specs.Owed.{Marks, FirstPart, IsNext}
use Rattle.its_pclsr.specs.Parts.{NextMade, Taken}
use Rattle.its_pclsr.proofs.UnwindingLaws.{stands_at, row_at}

-- the first step that is due is one that can be made
due_owes : (b : Bool) (c : Core) (os : List Owed) → Owes c os → Owes c (due b os)
due_owes b c [] h = absurd h
due_owes true c (o ∷ os) h = h
due_owes false c (Unlink ∷ os) h = due_owes false c os h
due_owes false c (Link ∷ os) h = due_owes false c os h
due_owes false c (Free ∷ os) h = due_owes false c os h
due_owes false c (GiveBack ∷ os) h = h
due_owes false c (owed.Store a w ∷ os) h = h
due_owes false c (Leave e ∷ []) h = h
due_owes false c (Leave e ∷ o ∷ os) h = h

due_backs : (b : Bool) (os : List Owed) → backs (due b os) ≡ backs os
due_backs b [] = refl
due_backs true (o ∷ os) = refl
due_backs false (Unlink ∷ os) = due_backs false os
due_backs false (Link ∷ os) = due_backs false os
due_backs false (Free ∷ os) = due_backs false os
due_backs false (GiveBack ∷ os) = refl
due_backs false (owed.Store a w ∷ os) = refl
due_backs false (Leave e ∷ os) = refl

-- what makes it possible
abbrev Head : Core → Option ℕ → Owed → Type 0
Head c r (owed.Store a w) = can_store c (place (poke a w)) ≡ true
Head c r GiveBack = is_some r ≡ true
Head c r (Leave e) = Unit {0}
Head c r Unlink = Unit {0}
Head c r Link = Unit {0}
Head c r Free = Unit {0}

kept_some : (r : Option ℕ) (n : ℕ) → 1 + n ≡ kept r → is_some r ≡ true
kept_some (Some x) n h = refl
kept_some None n h = absurd (omega arith)

head_by : (c : Core) (r : Option ℕ) (o : Owed) (ds : List Owed) → Owes c (o ∷ ds) → backs (o ∷ ds) ≡ kept r → Head c r o
head_by c r (owed.Store a w) ds h b = h.0
head_by c r GiveBack ds h b = kept_some r (backs ds) b
head_by c r (Leave e) ds h b = tt
head_by c r Unlink ds h b = tt
head_by c r Link ds h b = tt
head_by c r Free ds h b = tt

due_head : (b : Bool) (c : Core) (r : Option ℕ) (os ds : List Owed) (o : Owed) → EndingPays c r os → due b os ≡ o ∷ ds → Head c r o
due_head b c r os ds o h e = head_by c r o ds (subst (Owes c) e (due_owes b c os h.owes)) (ap backs (sym e) ∙ due_backs b os ∙ h.page_is)

some_due : (c : Core) (os : List Owed) → Owes c os → 0 < length os
some_due c [] h = absurd h
some_due c (o ∷ os) h = omega arith

due_some : (b : Bool) (c : Core) (r : Option ℕ) (os : List Owed) → EndingPays c r os → 0 < length (due b os)
due_some b c r os h = some_due c (due b os) (due_owes b c os h.owes)

-- the first step that is due, and the rest
due_first : (ds : List Owed) (o : Owed) → 0 < length ds → o ≡ slice_index_or ds 0 o → ds ≡ o ∷ drop 1 ds
due_first [] o some is = absurd (omega arith)
due_first (d ∷ ds) o some is = ap (λ x. x ∷ ds) (sym is)

-- a file step that is due is the next part of the close of the call
no_file : (os : List Owed) (o : Owed) (ds : List Owed) → due false os ≡ o ∷ ds → is_file o ≡ false
no_file [] o ds e = cc
no_file (Unlink ∷ os) o ds e = no_file os o ds e
no_file (Link ∷ os) o ds e = no_file os o ds e
no_file (Free ∷ os) o ds e = no_file os o ds e
no_file (GiveBack ∷ os) o ds e = let h : GiveBack ≡ o = cc in ap is_file (sym h)
no_file (owed.Store a w ∷ os) o ds e = let h : owed.Store a w ≡ o = cc in ap is_file (sym h)
no_file (Leave x ∷ os) o ds e = let h : Leave x ≡ o = cc in ap is_file (sym h)

begins : (ps qs : List Part) (p : Part) → p ∷ qs ≡ ps → FirstPart ps p
begins (x ∷ ps) qs p e = cc
begins [] qs p e = cc

next_by : (m : Option Mark) (j : ℕ) (b : Bool) (os ds : List Owed) (o : Owed) (p : Part) → Marks m j os → mine m j ≡ b → due b os ≡ o ∷ ds → is_file o ≡ true
    → file_parts (o ∷ ds) ≡ p ∷ file_parts ds → IsNext m p
next_by None j b os ds o p marks own e file part = tt
next_by (Some m) j false os ds o p marks own e file part = let wrong : false ≡ true = sym (no_file os o ds e) ∙ file in absurd cc
next_by (Some m) j true os ds o p marks own e file part =
    let is : m.owner ≡ j = eqb-true m.owner j own in
    begins m.parts (file_parts ds) p (sym part ∙ ap file_parts (sym e ∙ due_all os) ∙ marks is)

-- the owner of the mark has the parts of the mark in its frame
marks_by : (m : Option Mark) (at : ℕ → Option Frame) (s : ℕ) (f : Ending) → IfSome m (λ k. MarkBy k at) → at s ≡ Some (frames.Ending f)
    → Marks m s f.owed.items
marks_by None at s f h e = tt
marks_by (Some m) at s f h e = λ is. sym (ap (λ k. parts_in_frame (at k)) is ∙ ap parts_in_frame e) ∙ h.parts

marks_of : (w : World) (s : ℕ) (f : Ending) → Sound (state_of w) → frame_at w.frames.items s ≡ Some (frames.Ending f) → Marks (state_of w).mark s f.owed.items
unfolding state_of
marks_of w s f sound e = marks_by (mark_of w.files) (frame_at w.frames.items) s f sound.mark e

-- a call that has ended has a step that is due
ended : (o : Option Frame) → is_some (ending_in o) ≡ true → (f : Ending) × (o ≡ Some (frames.Ending f))
ended (Some (frames.Ending f)) h = (f, refl)
ended _ h = cc

pub steps_some : (w : World) (s : ℕ) (b : Bool) → is_some (ending_in (frame_at w.frames.items s)) ≡ true → Sound (state_of w)
    → IfSome (ending_in (frame_at w.frames.items s)) (λ f. 0 < length (due b f.owed.items))
steps_some w s b some sound =
    let f = ended (frame_at w.frames.items s) some in
    subst (λ (o : Option Frame). IfSome (ending_in o) (λ g. 0 < length (due b g.owed.items))) (sym f.1)
    (due_some b (core_at w.core s) (clear_at w.core s) f.0.owed.items (stands_at w s (frames.Ending f.0) sound f.1).1)

-- which is taken
pub step_taken : (old new : World) (s : ℕ) (b : Bool) (o : Owed) → is_some (ending_in (frame_at old.frames.items s)) ≡ true
    → Sound (state_of old) → b ≡ mine (state_of old).mark s
    → IfSome (ending_in (frame_at old.frames.items s)) (λ f. FrameBecomes old new s (Some (after_step b f)))
    → IfSome (ending_in (frame_at old.frames.items s)) (λ f. o ≡ slice_index_or (due b f.owed.items) 0 o) → Taken old new s o
step_taken old new s b o some sound own frame first =
    let f = ended (frame_at old.frames.items s) some in
    let pays = (stands_at old s (frames.Ending f.0) sound f.1).1 in
    let here : FrameBecomes old new s (Some (after_step b f.0)) =
    subst (λ (x : Option Frame). IfSome (ending_in x) (λ g. FrameBecomes old new s (Some (after_step b g)))) f.1 frame in
    let is : o ≡ slice_index_or (due b f.0.owed.items) 0 o =
    subst (λ (x : Option Frame). IfSome (ending_in x) (λ g. o ≡ slice_index_or (due b g.owed.items) 0 o)) f.1 first in
    record {
      site = f.0.site;
      ask = f.0.ask;
      owed = f.0.owed.items;
      rest = drop 1 (due b f.0.owed.items);
      here = f.1;
      first =
          ap (λ (m : Bool). due m f.0.owed.items) (sym own)
          ∙ due_first (due b f.0.owed.items) o (due_some b (core_at old.core s) (clear_at old.core s) f.0.owed.items pays) is;
      frame = here;
    }

left_by_some : (old new : World) (s : ℕ) (e : Exit) (o : Option Job) → job_at old.jobs s ≡ o → is_some o ≡ true → frame_at old.frames.items s ≡ None
    → IfSome o (λ j. JobBecomes old new s (after_exit e j)) → state_of new ≡ with_slot (state_of old) s (after_leave e) None
left_by_some old new s e (Some j) h some none b = left_slot old new s j e None h
    (subst (λ f. Becomes old new s (core_at old.core s) (Some (after_exit e j)) f (clear_at old.core s)) none b)
left_by_some old new s e None h some none b = cc

-- and performed
module _ (old mid : World) (s : ℕ) (o : Owed) (t : Taken old mid s o) (sound : Sound (state_of old)) where
  pays_at : EndingPays (core_at old.core s) (clear_at old.core s) t.owed
  pays_at = (stands_at old s (ending t.site t.ask t.owed) sound t.here).1

  mid_state : state_of mid ≡ with_slot (state_of old) s same (Some (ending t.site t.ask t.rest))
  mid_state = kept_slot old mid s (Some (ending t.site t.ask t.rest)) (stands_at old s (ending t.site t.ask t.owed) sound t.here).0 t.frame

  pub taken_job : is_some (job_at mid.jobs s) ≡ true
  taken_job = ap is_some t.frame.job.here ∙ (stands_at old s (ending t.site t.ask t.owed) sound t.here).0

  head_there : Head (core_at mid.core s) (clear_at mid.core s) o
  head_there =
      subst (λ (c : Core). Head c (clear_at mid.core s) o) (sym t.frame.core.here)
      (subst (λ (r : Option ℕ). Head (core_at old.core s) r o) (sym t.frame.reserved.here)
      (due_head (mine (state_of old).mark s) (core_at old.core s) (clear_at old.core s) t.owed t.rest o pays_at t.first))

  pub store_can : (at w : ℕ) → o ≡ owed.Store at w → can_store (core_at mid.core s) (place (poke at w)) ≡ true
  store_can at w e = subst (Head (core_at mid.core s) (clear_at mid.core s)) e head_there

  pub page_there : o ≡ GiveBack → is_some (clear_at mid.core s) ≡ true
  page_there e = subst (Head (core_at mid.core s) (clear_at mid.core s)) e head_there

  -- the row of what is taken
  settled_row : (p : Owed) → o ≡ p → after_settling (state_of old) s t.site t.ask (p ∷ t.rest) ≡ unwind_one (state_of old) s
  settled_row p e =
      ap (after_settling (state_of old) s t.site t.ask) (ap (λ (x : Owed). x ∷ t.rest) (sym e) ∙ sym t.first)
      ∙ sym (row_at old s (ending t.site t.ask t.owed) t.here)

  pub store_row : (new : World) (at w : ℕ) → o ≡ owed.Store at w → CoreBecomes mid new s (stored (core_at mid.core s) (poke at w ∷ []))
      → state_of new ≡ unwind_one (state_of old) s
  store_row new at w e b =
      stored_slot mid new s (poke at w ∷ []) (frame_at mid.frames.items s) taken_job b
      ∙ (λ i. with_slot (mid_state i) s (with_stores (poke at w ∷ [])) (t.frame.frame.here i))
      ∙ retaken (state_of old) s (Some (ending t.site t.ask t.rest)) (Some (ending t.site t.ask t.rest)) (with_stores (poke at w ∷ []))
      ∙ settled_row (owed.Store at w) e

  pub back_row : (new : World) → o ≡ GiveBack → PageBecomes mid new s None → state_of new ≡ unwind_one (state_of old) s
  back_row new e b =
      kept_state mid new s (frame_at mid.frames.items s) None taken_job b
      ∙ (λ i. reserving (with_slot (mid_state i) s same (t.frame.frame.here i)) s None)
      ∙ ap (λ (w : State). reserving w s None) (retaken (state_of old) s (Some (ending t.site t.ask t.rest)) (Some (ending t.site t.ask t.rest)) same)
      ∙ settled_row GiveBack e

  pub part_row : (new : World) (p : Owed) → o ≡ p → is_file p ≡ true → NextMade mid new → state_of new ≡ unwind_one (state_of old) s
  part_row new p e file b = b.row ∙ ap (λ (w : State). with_part w.mark w) mid_state ∙ by p file ∙ settled_row p e
    where
      by : (q : Owed) → is_file q ≡ true → with_part (state_of old).mark
          (with_slot (state_of old) s same (Some (ending t.site t.ask t.rest))) ≡ after_settling (state_of old) s t.site t.ask (q ∷ t.rest)
      by Unlink h = refl
      by Link h = refl
      by Free h = refl
      by _ h = cc

  pub leave_row : (low new : World) (e : Exit) → o ≡ Leave e → FrameBecomes mid low s None
      → IfSome (job_at low.jobs s) (λ j. JobBecomes low new s (after_exit e j)) → state_of new ≡ unwind_one (state_of old) s
  leave_row low new e is b h =
      left_by_some low new s e (job_at low.jobs s) refl (ap is_some b.job.here ∙ taken_job) b.frame.here h
      ∙ ap (λ (w : State). with_slot w s (after_leave e) None) (kept_slot mid low s None taken_job b ∙ ap (λ (w : State). with_slot w s same None) mid_state)
      ∙ retaken (with_slot (state_of old) s same (Some (ending t.site t.ask t.rest))) s None None (after_leave e)
      ∙ retaken (state_of old) s (Some (ending t.site t.ask t.rest)) None (after_leave e)
      ∙ settled_row (Leave e) is

  -- a file step that is due is the next part of the close of the call
  marks_at : Marks (state_of old).mark s t.owed
  marks_at = marks_of old s (record { site = t.site; ask = t.ask; owed = record { items = t.owed } }) sound t.here

  pub part_next : (q : Owed) (p : Part) → o ≡ q → is_file q ≡ true → file_parts (q ∷ t.rest) ≡ p ∷ file_parts t.rest → IsNext (state_of mid).mark p
  part_next q p e file parts =
      subst (λ (m : Option Mark). IsNext m p) (ap (λ (w : State). w.mark) (sym mid_state))
      (next_by (state_of old).mark s (mine (state_of old).mark s) t.owed t.rest q p marks_at refl (t.first ∙ ap (λ (x : Owed). x ∷ t.rest) e) file parts)
