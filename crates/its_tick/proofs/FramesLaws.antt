-- In which frames the pages are after each step of a tick.
use Rattle.std.specs.Prelude.{if◌then◌else◌, ◌≡◌, ℕ, Bool, true, false, Option, Some, None, IfSome, List, [], ◌∷◌, ◌++◌, is_some, nat_lt, slice_index_or, refl}
use Rattle.std.proofs.Common.{sym, ◌∙◌, ap, subst}
use Rattle.its_records.specs.declared.calls.Ask.{Ask}
use Rattle.its_records.specs.declared.jobs.Job.{Job}
use Rattle.its_word.specs.Core.{Core}
use Rattle.its_records.specs.Tree.{slots_below}
use Rattle.its_records.proofs.FreeLaws.{none_is}
use Rattle.its_core.specs.Cores.{core_at, clear_at}
use Rattle.its_core.specs.Frames.{Frames, frames_reserve}
use Rattle.its_jobs.specs.Table.{job_at, superior_at}
use Rattle.its_frame.specs.declared.frame.Frame.{Frame}
use Rattle.its_frame.specs.declared.frame.Asked as askeds
use Rattle.its_frame.specs.declared.frame.Holding.{Holding}
use Rattle.its_frame.specs.declared.frame.Frame.TheVariants as frames
use Rattle.its_plain.specs.Call.Step.{informed_slots}
use Rattle.its_plain.specs.Machine.Change.{superiors}
use Rattle.its_plain.specs.Call.Decide.{reach, listed}
use Rattle.its_plain.specs.Unit.Interrupt.{Delivered, deliverable, delivered}
use Rattle.its_plain.specs.Machine.{Whole}
use Rattle.its_plain.specs.Unit.{Outcome}
use Rattle.its_stepped.specs.Duty.{IsTried}
use Rattle.its_stepped.specs.Sound.{Sound}
use Rattle.its_stepped.specs.State.{State}
use Rattle.its_stepped.specs.Tick.{quarters, reserves}
use Rattle.its_stepped.specs.Unwind.{unwound, all_unwound}
use Rattle.its_stepped.proofs.Lining.KeptLaws.{user_page}
use Rattle.its_world.specs.World.{alarm_at, state_of, bare, raw_at, frame_at, frames_after, CoreBecomes, FrameBecomes, PageBecomes}
use Rattle.its_world.specs.declared.world.World.{World}
use Rattle.its_shared.proofs.BareLaws.{deliverable_bare, delivered_bare}
use Rattle.its_world.proofs.StateLaws.{raw_job, raw_some, raw_none}
use Rattle.its_world.proofs.StorageLaws.{frame_is}
use Rattle.its_commit.specs.Carried.{standing_of}
use Rattle.its_pclsr.specs.Pages.{pages_unwound}
use Rattle.its_commit.proofs.TidyLaws.{becomes_pages}
use Rattle.its_tick.specs.Pages.{pages_tried, pages_held, pages_user, pages_in, pages_unless, pages_of, pages_ticked}
use Rattle.its_tick.specs.Ticks.{UnitIn}
use Rattle.its_tick.proofs.UserLaws.{raw_fact, stop_same}

-- a slot in user mode has reserved no page
none_back : (o : Option ℕ) (s : ℕ) (f : Frames) → o ≡ None → f ≡ frames_after o None s f
none_back None s f h = refl
none_back (Some n) s f h = cc

user_pages : (w : World) (s : ℕ) → Sound (state_of w) → (state_of w).frames s ≡ None
    → w.core.frames ≡ frames_after ((state_of w).reserved s) None s w.core.frames
user_pages w s sound e = none_back ((state_of w).reserved s) s w.core.frames
    (user_page ((state_of w).raw.jobs s) ((state_of w).frames s) ((state_of w).reserved s) e (sound.each s).by)

pub still_pages : (w : World) (s : ℕ) → Sound (state_of w) → is_some (frame_at w.frames.items s) ≡ false
    → w.core.frames ≡ frames_after ((state_of w).reserved s) None s w.core.frames
still_pages w s sound h = user_pages w s sound (frame_is w s ∙ none_is (frame_at w.frames.items s) h)

-- several slots unwound
pages_append : (ks ls : List ℕ) (w : State) (f : Frames) → pages_unwound (ks ++ ls) w f ≡ pages_unwound ls (all_unwound ks w) (pages_unwound ks w f)
unfolding all_unwound
pages_append [] ls w f = refl
pages_append (k ∷ ks) ls w f = pages_append ks ls (unwound w k) (frames_after (w.reserved k) None k f)

pub tree_pages : (u w : State) (j k : ℕ) (o : Option ℕ) (f g h : Frames) → u ≡ all_unwound (slots_below (superiors w.raw) j) w
    → g ≡ pages_unwound (slots_below (superiors w.raw) j) w f
    → h ≡ frames_after (u.reserved k) None k g → o ≡ Some k → h ≡ pages_unwound (slots_below (superiors w.raw) j ++ listed o) w f
tree_pages u w j k o f g h below e back is =
    let ks : List ℕ = slots_below (superiors w.raw) j in
    back ∙ (λ i. pages_unwound (k ∷ []) (below i) (e i)) ∙ sym (pages_append ks (k ∷ []) w f)
    ∙ ap (λ (o : Option ℕ). pages_unwound (ks ++ listed o) w f) (sym is)

pub branch_pages : (u w : State) (j : ℕ) (f g h : Frames) → u ≡ all_unwound (slots_below (superiors w.raw) j) w
    → g ≡ pages_unwound (slots_below (superiors w.raw) j) w f
    → h ≡ frames_after (u.reserved j) None j g → h ≡ pages_unwound (slots_below (superiors w.raw) j ++ j ∷ []) w f
branch_pages u w j f g h below e back = tree_pages u w j j (Some j) f g h below e back refl

pub root_pages : (w : State) (j : ℕ) (o : Option ℕ) (f g : Frames) → g ≡ pages_unwound (slots_below (superiors w.raw) j) w f → o ≡ None
    → g ≡ pages_unwound (slots_below (superiors w.raw) j ++ listed o) w f
root_pages w j o f g e is =
    let ks : List ℕ = slots_below (superiors w.raw) j in
    e ∙ sym (pages_append ks [] w f) ∙ ap (λ (o : Option ℕ). pages_unwound (ks ++ listed o) w f) (sym is)

-- those that a call reaches
reach_by : (p : Option Whole) (ks : List ℕ) (w : State) (f g : Frames) (j : ℕ) (a : Ask) → g ≡ pages_unwound ks w f → IfSome p (λ q. ks ≡ reach w.raw j q a)
    → IfSome p (λ q. g ≡ pages_unwound (reach w.raw j q a) w f)
reach_by (Some q) ks w f g j a e h = e ∙ ap (λ (ks : List ℕ). pages_unwound ks w f) h
reach_by None ks w f g j a e h = tt

pub reach_pages : (o : Option Holding) (p : Option Whole) (ks : List ℕ) (w : State) (f g : Frames) (j : ℕ) → g ≡ pages_unwound ks w f
    → IfSome o (λ h. IfSome p (λ q. ks ≡ reach w.raw j q h.ask))
    → IfSome o (λ h. IfSome p (λ q. g ≡ pages_unwound (reach w.raw j q h.ask) w f))
reach_pages (Some h) p ks w f g j e r = reach_by p ks w f g j h.ask e r
reach_pages None p ks w f g j e r = tt

-- a call that is tried
held_pages : (w : State) (j : ℕ) (q : Whole) (a : Ask) (p : ℕ) (b : Bool) (f : Frames) → b ≡ false
    → (if b then f else pages_tried w j q a f) ≡ pages_tried w j q a f
held_pages w j q a p true f h = cc
held_pages w j q a p false f h = refl

pub tried_pages : (w : State) (j : ℕ) (q : Whole) (o : Option Frame) (h : Holding) (f : Frames) → standing_of o ≡ Some h → IsTried h.page
    → pages_in w j q o f ≡ pages_tried w j q h.ask f
tried_pages w j q (Some (frames.Holding g)) h f e t = ap (λ (x : Holding). pages_in w j q (Some (frames.Holding x)) f)
    (let is : g ≡ h = cc in is) ∙ go h.page t
  where
    go : (p : Option ℕ) → IsTried p → pages_held w j q h.ask p f ≡ pages_tried w j q h.ask f
    go None t = refl
    go (Some p) t = held_pages w j q h.ask p (nat_lt p quarters) f t
tried_pages w j q (Some (frames.Waiting g)) h f e t = ap (λ (a : Ask). pages_tried w j q a f)
    (let is : (let x : Holding = record { site = g.site; ask = g.ask; page = None; owes = g.owes } in x) ≡ h = cc in ap (λ (x : Holding). x.ask) is)
tried_pages w j q _ h f e t = cc

-- a call that is prepared, and a quarter of its page cleared
all_of : (p : Option Whole) (P : Whole → Type 0) → ((q : Whole) → P q) → IfSome p P
all_of (Some q) P h = h q
all_of None P h = tt

pub asked_pages : (p : Option Whole) (w : State) (j : ℕ) (o : Option Frame) (x : askeds.Asked) (f g : Frames) → o ≡ Some (frames.Asked x)
    → g ≡ (if reserves x.ask then frames_reserve j f else f) → IfSome p (λ q. g ≡ pages_in w j q o f)
asked_pages p w j o x f g e h = all_of p (λ q. g ≡ pages_in w j q o f) (λ q. h ∙ ap (λ (y : Option Frame). pages_in w j q y f) (sym e))

reserved_by : (o : Option ℕ) (s : ℕ) (f : Frames) → o ≡ None → frames_after o (Some 0) s f ≡ frames_reserve s f
reserved_by None s f h = refl
reserved_by (Some n) s f h = cc

pub page_prepared_frames : (old mid new : World) (s : ℕ) (g : Option Frame) (b c : Bool) → b ≡ c → b ≡ true → clear_at old.core s ≡ None
    → PageBecomes old mid s (Some 0) → FrameBecomes mid new s g
    → new.core.frames ≡ (if c then frames_reserve s old.core.frames else old.core.frames)
page_prepared_frames old mid new s g b c e t none p h =
    becomes_pages mid new s _ _ g h ∙ p.pages ∙ reserved_by (clear_at old.core s) s old.core.frames none
    ∙ ap (λ (x : Bool). if x then frames_reserve s old.core.frames else old.core.frames) (sym t ∙ e)

pub none_prepared_frames : (old new : World) (s : ℕ) (g : Option Frame) (b c : Bool) → b ≡ c → b ≡ false → FrameBecomes old new s g
    → new.core.frames ≡ (if c then frames_reserve s old.core.frames else old.core.frames)
none_prepared_frames old new s g b c e t h =
    becomes_pages old new s _ _ g h ∙ ap (λ (x : Bool). if x then frames_reserve s old.core.frames else old.core.frames) (sym t ∙ e)

cleared_by : (o : Option ℕ) (p n s : ℕ) (f : Frames) → o ≡ Some p → frames_after o (Some n) s f ≡ f
cleared_by (Some k) p n s f h = refl
cleared_by None p n s f h = cc

pub quarter_frames : (old mid new : World) (s p n : ℕ) (g : Option Frame) → clear_at old.core s ≡ Some p → PageBecomes old mid s (Some n)
    → FrameBecomes mid new s g → new.core.frames ≡ old.core.frames
quarter_frames old mid new s p n g c b d = becomes_pages mid new s _ _ g d ∙ b.pages ∙ cleared_by (clear_at old.core s) p n s old.core.frames c

quarter_in : (w : State) (j : ℕ) (q : Whole) (o : Option Frame) (h : Holding) (p : ℕ) (f : Frames) → o ≡ Some (frames.Holding h)
    → h.page ≡ Some p → nat_lt p quarters ≡ true → f ≡ pages_in w j q o f
quarter_in w j q o h p f e page less =
    sym (ap (λ (x : Option Frame). pages_in w j q x f) e ∙ ap (λ (x : Option ℕ). pages_held w j q h.ask x f) page
    ∙ ap (λ (b : Bool). if b then f else pages_tried w j q h.ask f) less)

pub quarter_pages : (p : Option Whole) (w : State) (j : ℕ) (o : Option Frame) (h : Holding) (n : ℕ) (f g : Frames)
    → o ≡ Some (frames.Holding h) → h.page ≡ Some n → nat_lt n quarters ≡ true → g ≡ f
    → IfSome p (λ q. g ≡ pages_in w j q o f)
quarter_pages p w j o h n f g e page less same = all_of p (λ q. g ≡ pages_in w j q o f) (λ q. same ∙ quarter_in w j q o h n f e page less)

-- a unit
pub unit_frames : (old new : World) (s : ℕ) (o : Job → Outcome) (b : Bool) → UnitIn old new s o b → new.core.frames ≡ old.core.frames
unit_frames old new s o true h = becomes_pages old new s _ _ _ h.becomes
unit_frames old new s o false h = ap (λ (w : World). w.core.frames) h.same

-- the tick
ticked_at : (w : World) (s : ℕ) (o : Option Whole) (f : Frames) → raw_at w.files w.core w.jobs w.alarms.items s ≡ o
    → pages_ticked (state_of w) s f ≡ pages_of (state_of w) s o f
unfolding pages_ticked state_of
ticked_at w s o f e = ap (λ (x : Option Whole). pages_of (state_of w) s x f) e

pub frames_absent : (w : World) (s : ℕ) → job_at w.jobs s ≡ None → w.core.frames ≡ pages_ticked (state_of w) s w.core.frames
frames_absent w s none = sym (ticked_at w s None w.core.frames (raw_none w s none))

ticked_some : (w : World) (s : ℕ) (j : Job) (b : Bool) (f : Frames) → job_at w.jobs s ≡ Some j → j.stopped ≡ b
    → pages_ticked (state_of w) s f ≡ pages_unless (state_of w) s
    (raw_job w.files (core_at w.core s) j (superior_at w.jobs s) (alarm_at w.alarms.items s)) b f
ticked_some w s j b f is h =
    let q : Whole = raw_job w.files (core_at w.core s) j (superior_at w.jobs s) (alarm_at w.alarms.items s) in
    ticked_at w s (Some q) f (raw_some w s j is) ∙ ap (λ (x : Bool). pages_unless (state_of w) s q x f) h

pub frames_stopped : (w : World) (s : ℕ) (j : Job) → job_at w.jobs s ≡ Some j → j.stopped ≡ true → w.core.frames ≡ pages_ticked (state_of w) s w.core.frames
frames_stopped w s j is h = sym (ticked_some w s j true w.core.frames is h)

frames_run : (w : World) (s : ℕ) (j : Job) (o : Option Frame) (f g : Frames) → job_at w.jobs s ≡ Some j → j.stopped ≡ false → frame_at w.frames.items s ≡ o
    → IfSome (raw_at w.files w.core w.jobs w.alarms.items s) (λ q. g ≡ pages_in (state_of w) s q o f) → g ≡ pages_ticked (state_of w) s f
frames_run w s j o f g is runs e h =
    let q : Whole = raw_job w.files (core_at w.core s) j (superior_at w.jobs s) (alarm_at w.alarms.items s) in
    subst (λ (p : Option Whole). IfSome p (λ q. g ≡ pages_in (state_of w) s q o f)) (raw_some w s j is) h
    ∙ sym (ticked_some w s j false f is runs ∙ ap (λ (x : Option Frame). pages_in (state_of w) s q x f) (frame_is w s ∙ e))

pub frames_call : (w : World) (s : ℕ) (j : Job) (g : Frames) → job_at w.jobs s ≡ Some j → j.stopped ≡ false
    → IfSome (raw_at w.files w.core w.jobs w.alarms.items s) (λ q. g ≡ pages_in (state_of w) s q (frame_at w.frames.items s) w.core.frames)
    → g ≡ pages_ticked (state_of w) s w.core.frames
frames_call w s j g is runs h = frames_run w s j (frame_at w.frames.items s) w.core.frames g is runs refl h

user_run : (w : World) (s : ℕ) (j : Job) (b : Bool) (g : Frames) → job_at w.jobs s ≡ Some j → j.stopped ≡ false
    → is_some (frame_at w.frames.items s) ≡ false → deliverable j ≡ b
    → IfSome (raw_at w.files w.core w.jobs w.alarms.items s) (λ q. g ≡ pages_user (state_of w) s q b w.core.frames)
    → g ≡ pages_ticked (state_of w) s w.core.frames
user_run w s j b g is runs fr d h =
    let q : Whole = raw_job w.files (core_at w.core s) j (superior_at w.jobs s) (alarm_at w.alarms.items s) in
    subst (λ (p : Option Whole). IfSome p (λ q. g ≡ pages_user (state_of w) s q b w.core.frames)) (raw_some w s j is) h
    ∙ sym (ticked_some w s j false w.core.frames is runs ∙ ap (λ (x : Option Frame). pages_in (state_of w) s q x w.core.frames)
    (frame_is w s ∙ none_is (frame_at w.frames.items s) fr)
    ∙ ap (λ (x : Bool). pages_user (state_of w) s q x w.core.frames) (deliverable_bare j ∙ d))

pub frames_delivery : (w : World) (s : ℕ) (j : Job) (g : Frames) → job_at w.jobs s ≡ Some j → j.stopped ≡ false
    → is_some (frame_at w.frames.items s) ≡ false → deliverable j ≡ true
    → IfSome (raw_at w.files w.core w.jobs w.alarms.items s)
    (λ q. g ≡ pages_unwound (informed_slots (delivered q.core q.job).stops q.superior) (state_of w) w.core.frames)
    → g ≡ pages_ticked (state_of w) s w.core.frames
frames_delivery w s j g is runs fr d h = user_run w s j true g is runs fr d h

pub frames_unit : (w : World) (s : ℕ) (j : Job) (g : Frames) → job_at w.jobs s ≡ Some j → j.stopped ≡ false
    → is_some (frame_at w.frames.items s) ≡ false → deliverable j ≡ false
    → g ≡ w.core.frames → g ≡ pages_ticked (state_of w) s w.core.frames
frames_unit w s j g is runs fr d h = user_run w s j false g is runs fr d
    (all_of (raw_at w.files w.core w.jobs w.alarms.items s) (λ q. g ≡ w.core.frames) (λ q. h))

-- a delivery: a superior in which INF is set is unwound first
pub superior_frames : (old mid : World) (s k : ℕ) (o : Option ℕ) (g : Frames) → o ≡ superior_at old.jobs s → o ≡ Some k
    → mid.core.frames ≡ frames_after ((state_of old).reserved k) None k old.core.frames → g ≡ mid.core.frames
    → g ≡ pages_unwound (informed_slots true (superior_at old.jobs s)) (state_of old) old.core.frames
superior_frames old mid s k o g e is back same = same ∙ back
    ∙ ap (λ (x : Option ℕ). pages_unwound (informed_slots true x) (state_of old) old.core.frames) (sym is ∙ e)

pub nobody_frames : (w : World) (s : ℕ) (o : Option ℕ) → o ≡ superior_at w.jobs s → o ≡ None
    → w.core.frames ≡ pages_unwound (informed_slots true (superior_at w.jobs s)) (state_of w) w.core.frames
nobody_frames w s o e is = ap (λ (x : Option ℕ). pages_unwound (informed_slots true x) (state_of w) w.core.frames) (sym is ∙ e)

stops_raw : (c : Core) (i : Job) (b : Bool) → (delivered c i).stops ≡ b → (delivered c (bare i)).stops ≡ b
stops_raw c i b e = ap (λ (x : Delivered). x.stops) (delivered_bare c i) ∙ e

pub stop_frames : (old mid : World) (s : ℕ) (i : Job) (g : Frames) → job_at old.jobs s ≡ Some i
    → CoreBecomes old mid s (delivered (core_at old.core s) i).core → (delivered (core_at old.core s) i).stops ≡ true
    → g ≡ pages_unwound (informed_slots true (superior_at mid.jobs s)) (state_of mid) mid.core.frames
    → IfSome (raw_at old.files old.core old.jobs old.alarms.items s)
    (λ q. g ≡ pages_unwound (informed_slots (delivered q.core q.job).stops q.superior) (state_of old) old.core.frames)
stop_frames old mid s i g had b stops e =
    let same = stop_same old mid s i b stops in
    let still = becomes_pages old mid s _ _ _ b in
    raw_fact (λ q. g ≡ pages_unwound (informed_slots (delivered q.core q.job).stops q.superior) (state_of old) old.core.frames) old s i had
    (e ∙ (λ t. pages_unwound (informed_slots true (slice_index_or (b.superiors t) s None)) (same t) (still t))
    ∙ sym (ap (λ (x : Bool). pages_unwound (informed_slots x (superior_at old.jobs s)) (state_of old) old.core.frames)
    (stops_raw (core_at old.core s) i true stops)))

pub quiet_frames : (old : World) (s : ℕ) (i : Job) (g : Frames) → job_at old.jobs s ≡ Some i
    → (delivered (core_at old.core s) i).stops ≡ false → g ≡ old.core.frames
    → IfSome (raw_at old.files old.core old.jobs old.alarms.items s)
    (λ q. g ≡ pages_unwound (informed_slots (delivered q.core q.job).stops q.superior) (state_of old) old.core.frames)
quiet_frames old s i g had stops e =
    raw_fact (λ q. g ≡ pages_unwound (informed_slots (delivered q.core q.job).stops q.superior) (state_of old) old.core.frames) old s i had
    (e ∙ sym (ap (λ (x : Bool). pages_unwound (informed_slots x (superior_at old.jobs s)) (state_of old) old.core.frames)
    (stops_raw (core_at old.core s) i false stops)))
