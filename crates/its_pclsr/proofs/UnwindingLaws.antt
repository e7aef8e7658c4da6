-- One step of unwinding of a world, and all of them.
use Rattle.std.specs.Prelude.{◌≡◌, ◌≢◌, ◌<◌, ◌≤◌, ℕ, ◌+◌, ◌-◌, true, false, Option, Some, None, is_some, IfSome, option_map, [], ◌∷◌, refl}
use Rattle.std.specs.Borrow.{Bor}
use Rattle.std.proofs.Common.{arith, sym, ap, ◌∙◌, subst}
use Rattle.its_word.specs.ArrayVec.{ArrayVec}
use Rattle.its_word.specs.Core.{Core}
use Rattle.its_word.specs.Stores.{stored}
use Rattle.its_records.specs.declared.calls.Ask.{Ask}
use Rattle.its_records.specs.declared.calls.Owed.{Owed}
use Rattle.its_records.specs.declared.calls.Site.{Site}
use Rattle.its_records.specs.declared.jobs.Job.{Job}
use Rattle.its_word.specs.declared.plan.Store as stores
use Rattle.its_core.specs.Cores.{core_at, clear_at}
use Rattle.its_files.specs.Files.{Store as Files}
use Rattle.its_jobs.specs.Table.{job_at, superior_at}
use Rattle.its_frame.specs.declared.frame.Frame.{Frame}
use Rattle.its_plain.specs.Call.Arguments.{input, debts}
use Rattle.its_plain.specs.Call.Step.{deposited}
use Rattle.its_stepped.specs.State.{State, plain, seen, held_at, with_slot, same, entered, parsed, asked, holding, waiting, moving}
use Rattle.its_plain.specs.Machine.{Whole, Machine}
use Rattle.its_stepped.specs.Unwind.{first_debt, after_giving_back, unwind_by, unwind_one, left, unwind_times, unwound}
use Rattle.its_stepped.specs.OneChange.{OneChange}
use Rattle.its_stepped.specs.Sound.{Pays, HoldingPays, WaitingPays, MovingPays, SoundBy, Sound}
use Rattle.its_stepped.specs.SlotSame.{SlotSame}
use Rattle.its_stepped.proofs.Unwinding.UnwindLaws.{unwind_fewer, left_none, unwind_plain, unwind_sound, one_change, few_left, unwound_slot, unwound_plain, unwound_sound, unwound_none, unwound_others}
use Rattle.its_stepped.proofs.Lining.KeptLaws.{user_page}
use Rattle.its_in_call.specs.Calls.{ending_in, frame_seen, request_in}
use Rattle.its_in_call.specs.declared.call.View.{View}
use Rattle.its_in_call.specs.declared.call.View.TheVariants as views
use Rattle.its_world.specs.World.{state_of, alarm_at, raw_of, raw_at, frame_at, frames_after, Becomes, FrameBecomes}
use Rattle.its_world.specs.declared.world.World.{World}
use Rattle.its_world.proofs.StateLaws.{kept_state, kept_slot, stored_slot}
use Rattle.its_pclsr.specs.Apart.{CoresOff}
use Rattle.its_pclsr.proofs.RowLaws.{page_backed, none_backed, some_paid, none_paid, moved_slot}

-- a slot with a frame has a job, and its frame can be paid
by_job : (t : Files) (c : Core) (sup : Option ℕ) (a : Option (ℕ × ℕ)) (o : Option Job) (f : Frame) (r : Option ℕ)
    → SoundBy (raw_of t c sup a o) (Some f) r → (is_some o ≡ true) × Pays f c r
by_job t c sup a (Some j) f r h = (refl, h.pays)
by_job t c sup a None f r h = cc (h.0)

by_frame : (t : Files) (c : Core) (sup : Option ℕ) (a : Option (ℕ × ℕ)) (o : Option Job) (f : Option Frame) (g : Frame) (r : Option ℕ)
    → f ≡ Some g → SoundBy (raw_of t c sup a o) f r → (is_some o ≡ true) × Pays g c r
by_frame t c sup a o f g r e h = by_job t c sup a o g r (subst (λ x. SoundBy (raw_of t c sup a o) x r) e h)

pub stands_at : (w : World) (s : ℕ) (f : Frame) → Sound (state_of w) → frame_at w.frames.items s ≡ Some f
    → (is_some (job_at w.jobs s) ≡ true) × Pays f (core_at w.core s) (clear_at w.core s)
unfolding state_of
stands_at w s f sound e = by_frame w.files (core_at w.core s) (superior_at w.jobs s) (alarm_at w.alarms.items s) (job_at w.jobs s)
    (frame_at w.frames.items s) f (clear_at w.core s) e (sound.each s).by

-- a page that a frame has is reserved
pub page_kept : (r page : Option ℕ) → r ≡ page → is_some page ≡ true → is_some r ≡ true
page_kept r page e h = ap is_some e ∙ h

-- one step is the row of its frame
pub row_at : (w : World) (s : ℕ) (f : Frame) → frame_at w.frames.items s ≡ Some f → unwind_one (state_of w) s ≡ unwind_by (state_of w) s (Some f)
unfolding unwind_one state_of
row_at w s f e = ap (unwind_by (state_of w) s) e

-- the frame that was looked at
pub user_row : (w : World) (s : ℕ) (x : View) → frame_seen x ≡ frame_at w.frames.items s → x ≡ views.User → state_of w ≡ unwind_one (state_of w) s
unfolding unwind_one state_of
user_row w s x e i = ap (unwind_by (state_of w) s) (sym (ap frame_seen i) ∙ e)

module _ (old : World) (s : ℕ) (x : View) (e : frame_seen x ≡ frame_at old.frames.items s) (sound : Sound (state_of old)) where
  at : (y : View) → x ≡ y → frame_at old.frames.items s ≡ frame_seen y
  at y i = sym e ∙ ap frame_seen i

  pub request_there : (y : View) → x ≡ y → is_some (request_in (frame_seen y)) ≡ true → is_some (request_in (frame_at old.frames.items s)) ≡ true
  request_there y i h = ap (λ (o : Option Frame). is_some (request_in o)) (at y i) ∙ h

  pub ending_there : (t : Bor Site) (a : Bor Ask) (os : Bor (ArrayVec Owed)) → x ≡ views.Ending t a os
      → is_some (ending_in (frame_at old.frames.items s)) ≡ true
  ending_there t a os i = ap (λ (o : Option Frame). is_some (ending_in o)) (at (views.Ending t a os) i)

  pub job_there : (f : Frame) (y : View) → x ≡ y → frame_seen y ≡ Some f → is_some (job_at old.jobs s) ≡ true
  job_there f y i h = (stands_at old s f sound (at y i ∙ h)).0

  pub holding_pays : (t : Bor Site) (a : Bor Ask) (page : Option ℕ) (n : ℕ) → x ≡ views.Holding t a page n
      → HoldingPays (core_at old.core s) (clear_at old.core s) a.now page n
  holding_pays t a page n i = (stands_at old s (holding t.now a.now page n) sound (at (views.Holding t a page n) i)).1

  pub waiting_pays : (t : Bor Site) (a : Bor Ask) (n : ℕ) → x ≡ views.Waiting t a n → WaitingPays (core_at old.core s) (clear_at old.core s) a.now n
  waiting_pays t a n i = (stands_at old s (waiting t.now a.now n) sound (at (views.Waiting t a n) i)).1

  pub moving_pays : (t : Bor Site) (a : Bor Ask) (place byte : ℕ) → x ≡ views.Moving t a place byte
      → MovingPays (core_at old.core s) (clear_at old.core s) a.now place
  moving_pays t a place byte i = (stands_at old s (moving t.now a.now (held_at place byte)) sound (at (views.Moving t a place byte) i)).1

  -- the row of what was looked at
  dropped : (new : World) (f : Frame) (y : View) → x ≡ y → frame_seen y ≡ Some f → FrameBecomes old new s None
      → state_of new ≡ with_slot (state_of old) s same None
  dropped new f y i h b = kept_slot old new s None (job_there f y i h) b

  pub entered_row : (new : World) (t : Bor Site) → x ≡ views.Entered t → FrameBecomes old new s None → state_of new ≡ unwind_one (state_of old) s
  entered_row new t i b = dropped new (entered t.now) (views.Entered t) i refl b ∙ sym (row_at old s (entered t.now) (at (views.Entered t) i))

  pub parsed_row : (new : World) (t : Bor Site) (b : Bor (ArrayVec ℕ)) → x ≡ views.Parsed t b → FrameBecomes old new s None
      → state_of new ≡ unwind_one (state_of old) s
  parsed_row new t b i h = dropped new (parsed t.now b.now.items) (views.Parsed t b) i refl h
      ∙ sym (row_at old s (parsed t.now b.now.items) (at (views.Parsed t b) i))

  pub asked_row : (new : World) (t : Bor Site) (a : Bor Ask) → x ≡ views.Asked t a → FrameBecomes old new s None → state_of new ≡ unwind_one (state_of old) s
  asked_row new t a i b = dropped new (asked t.now a.now) (views.Asked t a) i refl b ∙ sym (row_at old s (asked t.now a.now) (at (views.Asked t a) i))

  module _ (t : Bor Site) (a : Bor Ask) (page : Option ℕ) (n : ℕ) (i : x ≡ views.Holding t a page n) where
    there : frame_at old.frames.items s ≡ Some (holding t.now a.now page n)
    there = at (views.Holding t a page n) i

    given : after_giving_back (state_of old) s t.now a.now page n ≡ unwind_one (state_of old) s
    given = sym (row_at old s (holding t.now a.now page n) there)

    pub holding_backed : (new : World) → is_some page ≡ true
        → IfSome (request_in (frame_at old.frames.items s)) (λ r. Becomes old new s (core_at old.core s) (job_at old.jobs s) (Some (asked r.site r.ask)) None)
        → state_of new ≡ unwind_one (state_of old) s
    holding_backed new some b =
        let here : Becomes old new s (core_at old.core s) (job_at old.jobs s) (Some (asked t.now a.now)) None =
        subst (λ (o : Option Frame). IfSome (request_in o) (λ r. Becomes old new s (core_at old.core s) (job_at old.jobs s)
        (Some (asked r.site r.ask)) None)) there b in
        kept_state old new s (Some (asked t.now a.now)) None (stands_at old s (holding t.now a.now page n) sound there).0 here
        ∙ page_backed (state_of old) s n t.now a.now page some ∙ given

    pub holding_dropped : (new : World) → is_some page ≡ false → n ≡ 0 → FrameBecomes old new s None → state_of new ≡ unwind_one (state_of old) s
    holding_dropped new bare z b =
        none_paid old new s n a.now (holding t.now a.now None) (stands_at old s (holding t.now a.now page n) sound there).0 z b
        ∙ none_backed (state_of old) s n t.now a.now page bare ∙ given

    pub holding_paid : (new : World) (d : stores.Store) → is_some page ≡ false → n ≢ 0 → first_debt (debts a.now n) ≡ d ∷ []
        → IfSome (request_in (frame_at old.frames.items s)) (λ r. Becomes old new s (stored (core_at old.core s) (d ∷ []))
        (job_at old.jobs s) (Some (holding r.site r.ask None (n - 1))) (clear_at old.core s))
        → state_of new ≡ unwind_one (state_of old) s
    holding_paid new d bare some first b =
        let here : Becomes old new s (stored (core_at old.core s) (d ∷ [])) (job_at old.jobs s) (Some (holding t.now a.now None (n - 1)))
        (clear_at old.core s) =
        subst (λ (o : Option Frame). IfSome (request_in o) (λ r. Becomes old new s (stored (core_at old.core s) (d ∷ []))
        (job_at old.jobs s) (Some (holding r.site r.ask None (n - 1))) (clear_at old.core s))) there b in
        stored_slot old new s (d ∷ []) (Some (holding t.now a.now None (n - 1))) (stands_at old s (holding t.now a.now page n) sound there).0 here
        ∙ some_paid (state_of old) s n a.now d (holding t.now a.now None) some first
        ∙ none_backed (state_of old) s n t.now a.now page bare ∙ given

  module _ (t : Bor Site) (a : Bor Ask) (n : ℕ) (i : x ≡ views.Waiting t a n) where
    stands : frame_at old.frames.items s ≡ Some (waiting t.now a.now n)
    stands = at (views.Waiting t a n) i

    pub waiting_dropped : (new : World) → n ≡ 0 → FrameBecomes old new s None → state_of new ≡ unwind_one (state_of old) s
    waiting_dropped new z b =
        none_paid old new s n a.now (waiting t.now a.now) (stands_at old s (waiting t.now a.now n) sound stands).0 z b
        ∙ sym (row_at old s (waiting t.now a.now n) stands)

    pub waiting_paid : (new : World) (d : stores.Store) → n ≢ 0 → first_debt (debts a.now n) ≡ d ∷ []
        → IfSome (request_in (frame_at old.frames.items s)) (λ r. Becomes old new s (stored (core_at old.core s) (d ∷ []))
        (job_at old.jobs s) (Some (waiting r.site r.ask (n - 1))) (clear_at old.core s))
        → state_of new ≡ unwind_one (state_of old) s
    waiting_paid new d some first b =
        let here : Becomes old new s (stored (core_at old.core s) (d ∷ [])) (job_at old.jobs s) (Some (waiting t.now a.now (n - 1))) (clear_at old.core s) =
        subst (λ (o : Option Frame). IfSome (request_in o) (λ r. Becomes old new s (stored (core_at old.core s) (d ∷ []))
        (job_at old.jobs s) (Some (waiting r.site r.ask (n - 1))) (clear_at old.core s))) stands b in
        stored_slot old new s (d ∷ []) (Some (waiting t.now a.now (n - 1))) (stands_at old s (waiting t.now a.now n) sound stands).0 here
        ∙ some_paid (state_of old) s n a.now d (waiting t.now a.now) some first
        ∙ sym (row_at old s (waiting t.now a.now n) stands)

  pub moving_row : (new : World) (t : Bor Site) (a : Bor Ask) (place byte : ℕ) (d : stores.Store) → x ≡ views.Moving t a place byte
      → d ≡ deposited (core_at old.core s) (input a.now 1) (held_at place byte)
      → IfSome (request_in (frame_at old.frames.items s)) (λ r. Becomes old new s (stored (core_at old.core s) (d ∷ [])) (job_at old.jobs s)
      (Some (holding r.site r.ask None 2)) (clear_at old.core s))
      → state_of new ≡ unwind_one (state_of old) s
  moving_row new t a place byte d i is b =
      let there : frame_at old.frames.items s ≡ Some (moving t.now a.now (held_at place byte)) = at (views.Moving t a place byte) i in
      let here : Becomes old new s (stored (core_at old.core s) (d ∷ [])) (job_at old.jobs s) (Some (holding t.now a.now None 2)) (clear_at old.core s) =
      subst (λ (o : Option Frame). IfSome (request_in o) (λ r. Becomes old new s (stored (core_at old.core s) (d ∷ [])) (job_at old.jobs s)
      (Some (holding r.site r.ask None 2)) (clear_at old.core s))) there b in
      moved_slot old new s a.now place byte (Some (holding t.now a.now None 2)) (stands_at old s (moving t.now a.now (held_at place byte)) sound there).0
      (subst (λ (y : stores.Store). Becomes old new s (stored (core_at old.core s) (y ∷ [])) (job_at old.jobs s)
      (Some (holding t.now a.now None 2)) (clear_at old.core s)) is here)
      ∙ sym (row_at old s (moving t.now a.now (held_at place byte)) there)

-- the loop of unwinding
pub some_of : (o : Option Frame) → is_some o ≡ true → (f : Frame) × (o ≡ Some f)
some_of (Some f) h = (f, refl)
some_of None h = cc

pub frame_of : (w : World) (s : ℕ) → is_some (frame_at w.frames.items s) ≡ true → (f : Frame) × ((state_of w).frames s ≡ Some f)
unfolding state_of
frame_of w s h = some_of (frame_at w.frames.items s) h

pub no_frame_of : (w : World) (s : ℕ) → is_some (frame_at w.frames.items s) ≡ false → (state_of w).frames s ≡ None
unfolding state_of
no_frame_of w s h = go (frame_at w.frames.items s) h
  where
    go : (o : Option Frame) → is_some o ≡ false → o ≡ None
    go (Some f) e = cc
    go None e = refl

pub unwind_falls : (old new : World) (s : ℕ) → is_some (frame_at old.frames.items s) ≡ true → Sound (state_of old)
    → state_of new ≡ unwind_one (state_of old) s
    → left (state_of new) s < left (state_of old) s
unwind_falls old new s h sound e =
    let f = frame_of old s h in
    let fewer = unwind_fewer (state_of old) s f.0 sound f.1 in
    let at = ap (λ w. left w s) e in
    omega arith

pub unwind_goes_on : (old new : World) (s : ℕ) → is_some (frame_at old.frames.items s) ≡ true → Sound (state_of old)
    → state_of new ≡ unwind_one (state_of old) s
    → unwound (state_of new) s ≡ unwound (state_of old) s
unwind_goes_on old new s h sound e =
    let f = frame_of old s h in
    ap (λ w. unwound w s) e ∙ unwound_slot (state_of old) s f.0 sound f.1

pub unwind_ends : (w : World) (s : ℕ) → is_some (frame_at w.frames.items s) ≡ false → unwound (state_of w) s ≡ state_of w
unfolding unwound unwind_times
unwind_ends w s h = ap (λ n. unwind_times n (state_of w) s) (left_none (state_of w) s (no_frame_of w s h))

pub unwind_keeps : (old new : World) (s : ℕ) → Sound (state_of old) → state_of new ≡ unwind_one (state_of old) s → Sound (state_of new)
unwind_keeps old new s sound e = subst Sound (sym e) (unwind_sound (state_of old) s sound)

-- what one step, and all of them, leave: the plain machine, soundness, every other slot
pub one_same : (old new : World) (s : ℕ) → Sound (state_of old) → state_of new ≡ unwind_one (state_of old) s → plain (state_of new) ≡ plain (state_of old)
one_same old new s sound e = ap plain e ∙ unwind_plain (state_of old) s sound

pub one_fewer : (old new : World) (s : ℕ) → is_some (frame_at old.frames.items s) ≡ true → Sound (state_of old) → state_of new ≡ unwind_one (state_of old) s
    → left (state_of new) s + 1 ≡ left (state_of old) s
one_fewer old new s h sound e =
    let f = frame_of old s h in
    ap (λ w. left w s + 1) e ∙ unwind_fewer (state_of old) s f.0 sound f.1

pub one_changes : (old new : World) (s : ℕ) → Sound (state_of old) → state_of new ≡ unwind_one (state_of old) s → OneChange (state_of old) (state_of new) s
one_changes old new s sound e = subst (λ w. OneChange (state_of old) w s) (sym e) (one_change (state_of old) s sound)

pub all_same : (old new : World) (s : ℕ) → Sound (state_of old) → state_of new ≡ unwound (state_of old) s → plain (state_of new) ≡ plain (state_of old)
all_same old new s sound e = ap plain e ∙ unwound_plain (state_of old) s sound

pub all_keeps : (old new : World) (s : ℕ) → Sound (state_of old) → state_of new ≡ unwound (state_of old) s → Sound (state_of new)
all_keeps old new s sound e = subst Sound (sym e) (unwound_sound (state_of old) s sound)

pub all_none : (old new : World) (s : ℕ) → Sound (state_of old) → state_of new ≡ unwound (state_of old) s → (state_of new).frames s ≡ None
all_none old new s sound e = ap (λ w. w.frames s) e ∙ unwound_none (state_of old) s sound

pub all_others : (old new : World) (s : ℕ) → state_of new ≡ unwound (state_of old) s → (k : ℕ) → k ≢ s → SlotSame (state_of old) (state_of new) k
all_others old new s e k n = subst (λ w. SlotSame (state_of old) w k) (sym e) (unwound_others (state_of old) s k n)

pub all_few : (old : World) (s : ℕ) → Sound (state_of old) → left (state_of old) s ≤ 4
all_few old s sound = few_left (state_of old) s sound

-- a job in user mode is seen as it is
user_seen : (v : State) (s : ℕ) (f : Option Frame) → v.frames s ≡ f → f ≡ None → (plain v).jobs s ≡ v.raw.jobs s
unfolding plain seen
user_seen v s f e n = ap (λ (g : Option Frame). option_map (seen g) (v.raw.jobs s)) (e ∙ n) ∙ go (v.raw.jobs s)
  where
    go : (o : Option Whole) → option_map (λ (q : Whole). q) o ≡ o
    go (Some q) = refl
    go None = refl

seen_jobs_at : (v : State) (s : ℕ) → (plain v).jobs s ≡ option_map (seen (v.frames s)) (v.raw.jobs s)
unfolding plain
seen_jobs_at v s = refl

pub all_left : (old new : World) (s : ℕ) → Sound (state_of old) → state_of new ≡ unwound (state_of old) s
    → (state_of new).raw.jobs s ≡ option_map (seen ((state_of old).frames s)) ((state_of old).raw.jobs s)
all_left old new s sound e =
    sym (user_seen (state_of new) s ((state_of new).frames s) refl (all_none old new s sound e))
    ∙ ap (λ (m : Machine). m.jobs s) (ap plain e ∙ unwound_plain (state_of old) s sound)
    ∙ seen_jobs_at (state_of old) s

-- a page that it had reserved is given back
pub all_pages : (old new : World) (s : ℕ) → Sound (state_of old) → state_of new ≡ unwound (state_of old) s → CoresOff old new s
    → new.core.frames ≡ frames_after ((state_of old).reserved s) None s old.core.frames
unfolding state_of
all_pages old new s sound e cores =
    cores.pages
    ∙ ap (λ (o : Option ℕ). frames_after (clear_at old.core s) o s old.core.frames)
    (user_page (raw_at new.files new.core new.jobs new.alarms.items s) ((state_of new).frames s) (clear_at new.core s)
    (all_none old new s sound e) ((all_keeps old new s sound e).each s).by)

page_at : (w : World) (s : ℕ) → (state_of w).reserved s ≡ clear_at w.core s
unfolding state_of
page_at w s = refl

pub one_pages : (old new : World) (s : ℕ) → state_of new ≡ unwind_one (state_of old) s → CoresOff old new s
    → new.core.frames ≡ frames_after ((state_of old).reserved s) ((unwind_one (state_of old) s).reserved s) s old.core.frames
one_pages old new s e cores =
    cores.pages ∙ ap (λ (o : Option ℕ). frames_after o (clear_at new.core s) s old.core.frames) (sym (page_at old s))
    ∙ ap (λ (o : Option ℕ). frames_after ((state_of old).reserved s) o s old.core.frames) (sym (page_at new s) ∙ ap (λ (v : State). v.reserved s) e)
