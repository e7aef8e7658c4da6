-- Bytes that SIOT moves, one after another: so many of them are so many ticks.
use Rattle.std.specs.Prelude.{◌≡◌, ◌+◌, ℕ, zero, suc, Bool, true, false, Option, Some, None, IfSome, is_some, List, [], ◌∷◌, replicate, refl}
use Rattle.std.proofs.Common.{sym, ◌∙◌, ap, subst, arith}
use Rattle.call_basic.specs.Parts.{change_of, going}
use Rattle.call_basic.specs.declared.transfer.Moved.{Moved}
use Rattle.call_basic.specs.declared.transfer.Moved.TheVariants as moved
use Rattle.call_basic.specs.declared.transfer.NextByte.{NextByte}
use Rattle.its_records.specs.declared.calls.Ask.{Ask}
use Rattle.its_records.specs.declared.calls.Site.{Site}
use Rattle.its_records.specs.declared.calls.Pace.{Pace}
use Rattle.its_records.specs.declared.calls.Pace.TheVariants.{Step}
use Rattle.its_records.specs.declared.jobs.Job.{Job}
use Rattle.its_core.specs.Cores.{core_at}
use Rattle.its_core.specs.Frames.{Frames}
use Rattle.its_frame.specs.declared.change.Change.{Change}
use Rattle.its_frame.specs.declared.decision.Held.{Held}
use Rattle.its_frame.specs.declared.frame.Holding.{Holding}
use Rattle.its_jobs.specs.Table.{job_at, superior_at}
use Rattle.its_plain.specs.Machine.{Whole}
use Rattle.its_plain.specs.Call.Tests.{goes}
use Rattle.its_stepped.specs.Commit.{after_commit, effects_on}
use Rattle.its_stepped.specs.Lines.{paces_of, after_ticks}
use Rattle.its_stepped.specs.State.{State}
use Rattle.its_stepped.specs.Tick.{Ticked, tick, tick_in}
use Rattle.its_stepped.proofs.Frame.FrameLaws.{changed_only}
use Rattle.its_commit.specs.Built.{CanMake}
use Rattle.its_commit.specs.Carried.{standing_of}
use Rattle.its_commit.specs.Pages.{pages_changed}
use Rattle.its_world.specs.World.{alarm_at, frame_at, raw_at, state_of}
use Rattle.its_world.specs.declared.world.World.{World}
use Rattle.its_world.proofs.StateLaws.{raw_job, raw_some}
use Rattle.its_world.proofs.StorageLaws.{frame_is}
use Rattle.its_tick.specs.Bytes.{ByteMade, ByteMadeIf, BytesMade, CarriedIf, Still}
use Rattle.its_tick.specs.Kept.{Kept}
use Rattle.its_tick.specs.Pages.{pages_in}
use Rattle.its_tick.specs.Ticks.{ticked}
use Rattle.its_tick.proofs.TickLaws.{tick_call, tick_kept, tick_some}

-- no byte makes or drops a page
pub moved_pages : (m : Moved) (s : ℕ) (w : State) (f : Frames) → pages_changed (change_of m) s w f ≡ f
moved_pages (moved.Move n at) s w f = refl
moved_pages (moved.Append n x) s w f = refl
moved_pages (moved.Take c) s w f = refl
moved_pages (moved.Put c b) s w f = refl
moved_pages (moved.Send l x) s w f = refl
moved_pages (moved.Receive l) s w f = refl

-- the change of a part is made, whatever its name
pub can_make : (x : Change) (m : Moved) (s : ℕ) (w : State) → x ≡ change_of m → CanMake (change_of m) s w → CanMake x s w
can_make x m s w e h = subst (λ (y : Change). CanMake y s w) (sym e) h

pub part_carried : (old new : World) (s : ℕ) (x : Change) (p : NextByte) → x ≡ change_of p.moved
    → IfSome (standing_of (frame_at old.frames.items s)) (λ f. state_of new ≡ after_commit (state_of old) s f.site f.ask f.owes
    (goes (x ∷ []) p.held (p.next ∷ p.left ∷ [])))
    → IfSome (standing_of (frame_at old.frames.items s)) (λ f. state_of new ≡ after_commit (state_of old) s f.site f.ask f.owes (going p))
part_carried old new s x p e h =
    subst (λ (y : Change). IfSome (standing_of (frame_at old.frames.items s))
    (λ f. state_of new ≡ after_commit (state_of old) s f.site f.ask f.owes (goes (y ∷ []) p.held (p.next ∷ p.left ∷ [])))) e h

pub part_pages : (old new : World) (s : ℕ) (x : Change) (m : Moved) → x ≡ change_of m → new.core.frames ≡ pages_changed x s (state_of old) old.core.frames
    → new.core.frames ≡ pages_changed (change_of m) s (state_of old) old.core.frames
part_pages old new s x m e h = h ∙ ap (λ (y : Change). pages_changed y s (state_of old) old.core.frames) e

-- the call is still there
part_framed : (v w : State) (s : ℕ) (t : Site) (a : Ask) (n : ℕ) (cs : List Change) (h : Option Held) (vs : List ℕ)
    → v ≡ after_commit w s t a n (goes cs h vs) → is_some (v.frames s) ≡ true
unfolding after_commit
part_framed v w s t a n cs h vs e = ap (λ (x : State). is_some (x.frames s)) e ∙ ap is_some (changed_only (effects_on cs s w).frames s _).here

carried_framed : (o : Option Holding) (v w : State) (s : ℕ) (cs : List Change) (h : Option Held) (vs : List ℕ) → is_some o ≡ true
    → IfSome o (λ f. v ≡ after_commit w s f.site f.ask f.owes (goes cs h vs)) → is_some (v.frames s) ≡ true
carried_framed (Some f) v w s cs h vs i e = part_framed v w s f.site f.ask f.owes cs h vs e
carried_framed None v w s cs h vs i e = absurd cc

pub still_framed : (old new : World) (s : ℕ) (p : NextByte) → is_some (standing_of (frame_at old.frames.items s)) ≡ true
    → IfSome (standing_of (frame_at old.frames.items s)) (λ f. state_of new ≡ after_commit (state_of old) s f.site f.ask f.owes (going p))
    → is_some (frame_at new.frames.items s) ≡ true
still_framed old new s p i e =
    ap is_some (sym (frame_is new s))
    ∙ carried_framed (standing_of (frame_at old.frames.items s)) (state_of new) (state_of old) s (change_of p.moved ∷ []) p.held (p.next ∷ p.left ∷ []) i e

-- the frames of pages are as they were
each_raw : (m : Option Whole) (P Q : Whole → Type 0) → ((q : Whole) → P q → Q q) → IfSome m P → IfSome m Q
each_raw (Some q) P Q f h = f q h
each_raw None P Q f h = tt

abbrev pub Pages : World → World → ℕ → Type 0
Pages old new s = IfSome (raw_at old.files old.core old.jobs old.alarms.items s)
    (λ q. new.core.frames ≡ pages_in (state_of old) s q (frame_at old.frames.items s) old.core.frames)

pub pages_still : (old new : World) (s : ℕ) → new.core.frames ≡ old.core.frames → Pages old new s → Still old s
pages_still old new s e h =
    each_raw (raw_at old.files old.core old.jobs old.alarms.items s)
    (λ q. new.core.frames ≡ pages_in (state_of old) s q (frame_at old.frames.items s) old.core.frames)
    (λ q. pages_in (state_of old) s q (frame_at old.frames.items s) old.core.frames ≡ old.core.frames) (λ q p. sym p ∙ e) h

still_pages : (old new : World) (s : ℕ) → new.core.frames ≡ old.core.frames → Still old s → Pages old new s
still_pages old new s e h =
    each_raw (raw_at old.files old.core old.jobs old.alarms.items s)
    (λ q. pages_in (state_of old) s q (frame_at old.frames.items s) old.core.frames ≡ old.core.frames)
    (λ q. new.core.frames ≡ pages_in (state_of old) s q (frame_at old.frames.items s) old.core.frames) (λ q p. e ∙ sym p) h

-- a byte that is moved is a tick, if the job runs
pub byte_made : (b : Bool) (old new : World) (s : ℕ) (j : Job) → Kept old → job_at old.jobs s ≡ Some j → j.stopped ≡ false
    → CarriedIf b old new s → ByteMadeIf b old new s
byte_made true old new s j kept is runs c =
    let row : tick (state_of old) s ≡ ticked (state_of new) Step = tick_call old new s j Step is runs c.row in
    record { row = row; frame = c.frame; pages = c.pages; still = c.still; kept = tick_kept old new s Step kept row c.tidy }
byte_made false old new s j kept is runs c = c

-- one more tick
ticks_more : (n : ℕ) (m : State) (s : ℕ) → after_ticks m s (suc n) ≡ (tick (after_ticks m s n) s).state
ticks_more zero m s = refl
ticks_more (suc n) m s = ticks_more n (tick m s).state s

paces_more : (n : ℕ) (m : State) (s : ℕ) → paces_of m s n ≡ replicate n Step → (tick (after_ticks m s n) s).pace ≡ Step
    → paces_of m s (suc n) ≡ replicate (suc n) Step
paces_more zero m s e p = ap (λ (x : Pace). x ∷ []) p
paces_more (suc n) m s e p =
    let first : (tick m s).pace ≡ Step = cc in
    let rest : paces_of (tick m s).state s n ≡ replicate n Step = cc in
    ap (λ (x : Pace). x ∷ paces_of (tick m s).state s (suc n)) first ∙ ap (λ ps. Step ∷ ps) (paces_more n (tick m s).state s rest p)

still_first : (n : ℕ) (old mid : World) (s : ℕ) → BytesMade old mid s n → Still mid s → Still old s
still_first zero old mid s b h = subst (λ (x : World). Still x s) (b.same refl) h
still_first (suc n) old mid s b h = b.still (omega arith)

-- no byte, and one more
pub bytes_none : (w : World) (s : ℕ) → Kept w → is_some (frame_at w.frames.items s) ≡ true → BytesMade w w s 0
bytes_none w s kept framed = record {
  state = refl;
  paces = refl;
  frame = framed;
  pages = refl;
  still = λ h. absurd (omega (arith, h));
  kept = kept;
  same = λ e. refl;
}

bytes_suc : (old mid new : World) (s n : ℕ) → BytesMade old mid s n → ByteMade mid new s → BytesMade old new s (suc n)
bytes_suc old mid new s n b c =
    let on : tick (after_ticks (state_of old) s n) s ≡ ticked (state_of new) Step = ap (λ (x : State). tick x s) (sym b.state) ∙ c.row in
    record {
      state = sym (ticks_more n (state_of old) s ∙ ap (λ (x : Ticked). x.state) on);
      paces = paces_more n (state_of old) s b.paces (ap (λ (x : Ticked). x.pace) on);
      frame = c.frame;
      pages = c.pages ∙ b.pages;
      still = λ h. still_first n old mid s b c.still;
      kept = c.kept;
      same = λ e. absurd (omega (arith, e));
    }

pub bytes_more : (old mid new : World) (s n : ℕ) → BytesMade old mid s n → ByteMade mid new s → BytesMade old new s (n + 1)
bytes_more old mid new s n b c = let one : suc n ≡ n + 1 = omega arith in subst (λ (k : ℕ). BytesMade old new s k) one (bytes_suc old mid new s n b c)

-- one byte is the tick of a call
one_row : (old new : World) (s n : ℕ) (j : Job) → job_at old.jobs s ≡ Some j → j.stopped ≡ false → BytesMade old new s n → n ≡ 1
    → IfSome (raw_at old.files old.core old.jobs old.alarms.items s)
    (λ q. tick_in (state_of old) s q (frame_at old.frames.items s) ≡ ticked (state_of new) Step)
one_row old new s n j is runs b e =
    let c : BytesMade old new s 1 = subst (λ (k : ℕ). BytesMade old new s k) e b in
    let q : Whole = raw_job old.files (core_at old.core s) j (superior_at old.jobs s) (alarm_at old.alarms.items s) in
    let pace : (tick (state_of old) s).pace ≡ Step = (let p = c.paces in cc) in
    let row : tick (state_of old) s ≡ ticked (state_of new) Step = λ i. record { state = sym c.state i; pace = pace i } in
    subst (λ (o : Option Whole). IfSome o (λ q. tick_in (state_of old) s q (frame_at old.frames.items s) ≡ ticked (state_of new) Step))
    (sym (raw_some old s j is))
    (ap (tick_in (state_of old) s q) (sym (frame_is old s)) ∙ sym (tick_some old s j false is runs) ∙ row)

row_of : (o : Option Job) (old new : World) (s n : ℕ) → job_at old.jobs s ≡ o → is_some o ≡ true → IfSome o (λ j. j.stopped ≡ false)
    → BytesMade old new s n → n ≡ 1
    → IfSome (raw_at old.files old.core old.jobs old.alarms.items s)
    (λ q. tick_in (state_of old) s q (frame_at old.frames.items s) ≡ ticked (state_of new) Step)
row_of (Some j) old new s n is some runs b e = one_row old new s n j is runs b e
row_of None old new s n is some runs b e = absurd cc

pub byte_row : (old new : World) (s n : ℕ) → is_some (job_at old.jobs s) ≡ true → IfSome (job_at old.jobs s) (λ j. j.stopped ≡ false)
    → BytesMade old new s n → n ≡ 1
    → IfSome (raw_at old.files old.core old.jobs old.alarms.items s)
    (λ q. tick_in (state_of old) s q (frame_at old.frames.items s) ≡ ticked (state_of new) Step)
byte_row old new s n some runs b e = row_of (job_at old.jobs s) old new s n refl some runs b e

-- a job that runs
pub running_at : (o : Option Job) (j : Job) → o ≡ Some j → j.stopped ≡ false → IfSome o (λ i. i.stopped ≡ false)
running_at o j is h = subst (λ (x : Option Job). IfSome x (λ i. i.stopped ≡ false)) (sym is) h

pub one_pages : (old new : World) (s n : ℕ) → BytesMade old new s n → n ≡ 1 → Pages old new s
one_pages old new s n b e = still_pages old new s b.pages (b.still (omega (arith, e)))
