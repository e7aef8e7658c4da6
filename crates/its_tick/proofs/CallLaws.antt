-- A tick of a job inside a call: what its parts do in code is their rows.
use Rattle.std.specs.Prelude.{◌≡◌, ◌<◌, ◌≤◌, ◌^◌, ℕ, true, Option, Some, None, IfSome, IfErr, is_some, option_map, length, Result, Ok, Err, refl, Bool, false, ◌+◌, if◌then◌else◌}
use Rattle.std.proofs.Common.{sym, ap, ◌∙◌, subst}
use Rattle.std.proofs.lemmas.Bool.{lt-ltb}
use Rattle.its_word.specs.ArrayVec.{ArrayVec}
use Rattle.its_word.specs.Core.{Core}
use Rattle.its_word.specs.declared.access.Fault.{Fault}
use Rattle.its_records.specs.declared.calls.Ask.{Ask}
use Rattle.its_records.specs.declared.calls.Pace.{Pace}
use Rattle.its_records.specs.declared.calls.Pace.TheVariants.{Work}
use Rattle.its_records.specs.declared.calls.Site.{Site}
use Rattle.its_records.specs.declared.jobs.Job.{Job}
use Rattle.its_in_call.specs.Calls.{after_fetch, after_parse, entered_in, fault_of, gone_to, parsed_in, request, request_in, Request}
use Rattle.its_in_call.specs.declared.call.Next.{Next}
use Rattle.its_in_call.specs.declared.call.Next.TheVariants as next
use Rattle.its_core.specs.Cores.{core_at, clear_at}
use Rattle.its_jobs.specs.Table.{job_at, superior_at}
use Rattle.its_frame.specs.declared.frame.Frame.{Frame}
use Rattle.its_frame.specs.declared.frame.Asked as askeds
use Rattle.its_frame.specs.declared.frame.Holding as holdings
use Rattle.its_frame.specs.declared.frame.Frame.TheVariants.{Entered, Parsed, Asked, Holding}
use Rattle.its_stepped.specs.TwoParts.{items_of, parse, fetch, parse_of, fetch_of}
use Rattle.its_plain.specs.Call.Step.{with_fault}
use Rattle.its_plain.specs.Call.Footprint.{SiteFits}
use Rattle.its_plain.specs.Machine.Registers.{bit_of, with_pending}
use Rattle.its_plain.specs.Machine.{Whole}
use Rattle.its_stepped.specs.Sound.{Standing, SoundBy}
use Rattle.its_stepped.specs.State.{State, plain, seen, with_slot, same, parsed, asked, holding, reserving}
use Rattle.its_stepped.specs.Tick.{Ticked, works, faults_on, parsed_on, fetched_on, reserves, tick_in, after_preparation, held_on, tried_by}
use Rattle.its_world.specs.Tidy.{Tidy}
use Rattle.its_world.specs.World.{alarm_at, state_of, raw_of, raw_at, frame_at, Becomes, JobBecomes, FrameBecomes, PageBecomes}
use Rattle.its_world.specs.declared.world.World.{World}
use Rattle.its_world.proofs.SiteLaws.{site_fits, block_words}
use Rattle.its_world.proofs.StateLaws.{kept_slot, retaken, turned_state, kept_state}
use Rattle.its_commit.proofs.TidyLaws.{becomes_pages, tidy_kept}
use Rattle.its_pclsr.proofs.RowLaws.{paged_becomes}
use Rattle.its_pclsr.proofs.UnwindingLaws.{stands_at}
use Rattle.its_tick.specs.Kept.{Kept}
use Rattle.its_tick.specs.Pages.{pages_in}
use Rattle.its_tick.specs.Ticks.{asked_in, pace_decoded, state_decoded, ticked, IsClearing}

-- a fact of the job of a slot, if there is one
with_some : {X : Type 0} (o : Option X) (P Q : X → Type 0) → ((x : X) → P x → Q x) → IfSome o P → IfSome o Q
with_some (Some x) P Q h p = h x p
with_some None P Q h p = tt

all_some : {X : Type 0} (o : Option X) (P : X → Type 0) → ((x : X) → P x) → IfSome o P
all_some (Some x) P h = h x
all_some None P h = tt

on_raw : (w : World) (s : ℕ) (P : Whole → Type 0) → ((q : Whole) → q.core ≡ core_at w.core s → P q) → IfSome (raw_at w.files w.core w.jobs w.alarms.items s) P
on_raw w s P h = go (job_at w.jobs s)
  where
    go : (o : Option Job) → IfSome (raw_of w.files (core_at w.core s) (superior_at w.jobs s) (alarm_at w.alarms.items s) o) P
    go (Some j) = h _ refl
    go None = tt

-- what a sound frame shows: the job of its slot
pub record Shown (f : Frame) : Type 0 where
  pub whole : Whole
  pub standing : Standing f whole.core whole.job
  pub address : whole.job.pc < 2 ^ 18

shown_by : (o : Option Whole) (f : Frame) (r : Option ℕ) → SoundBy o (Some f) r → IfSome (option_map (seen (Some f)) o) (λ q. q.job.pc < 2 ^ 18) → Shown f
shown_by (Some q) f r h a = record { whole = seen (Some f) q; standing = h.standing; address = a }
shown_by None f r h a = cc (h.0)

shown : (w : World) (s : ℕ) (f : Frame) → frame_at w.frames.items s ≡ Some f → Kept w → Shown f
unfolding plain state_of
shown w s f is k =
    shown_by (raw_at w.files w.core w.jobs w.alarms.items s) f (clear_at w.core s)
    (subst (λ x. SoundBy (raw_at w.files w.core w.jobs w.alarms.items s) x (clear_at w.core s)) is (k.sound.each s).by)
    (subst (λ x. IfSome (option_map (seen x) (raw_at w.files w.core w.jobs w.alarms.items s)) (λ q. q.job.pc < 2 ^ 18)) is (k.addressed s))

-- the site of a call that is decoded, and the words of its block
pub entered_fits : (w : World) (s : ℕ) → Kept w → IfSome (entered_in (frame_at w.frames.items s)) SiteFits
entered_fits w s k = go (frame_at w.frames.items s) refl
  where
    go : (o : Option Frame) → frame_at w.frames.items s ≡ o → IfSome (entered_in o) SiteFits
    go (Some (Entered f)) e = let x = shown w s (Entered f) e k in site_fits x.whole.core x.whole.job f.site x.address x.standing
    go _ e = tt

pub parsed_fits : (w : World) (s : ℕ) → Kept w → IfSome (parsed_in (frame_at w.frames.items s)) (λ f. SiteFits f.site)
parsed_fits w s k = go (frame_at w.frames.items s) refl
  where
    go : (o : Option Frame) → frame_at w.frames.items s ≡ o → IfSome (parsed_in o) (λ f. SiteFits f.site)
    go (Some (Parsed f)) e = let x = shown w s (Parsed f) e k in site_fits x.whole.core x.whole.job f.site x.address x.standing.0
    go _ e = tt

pub parsed_words : (w : World) (s : ℕ) → Kept w → IfSome (parsed_in (frame_at w.frames.items s)) (λ f. f.site.channel ≡ None → 2 ≤ length f.block.items)
parsed_words w s k = go (frame_at w.frames.items s) refl
  where
    go : (o : Option Frame) → frame_at w.frames.items s ≡ o → IfSome (parsed_in o) (λ f. f.site.channel ≡ None → 2 ≤ length f.block.items)
    go (Some (Parsed f)) e = λ n. let x = shown w s (Parsed f) e k in block_words x.whole.core f.site f.block.items x.standing.1 n
    go _ e = tt

-- a part of the decoding leads to a frame, or has a fault
abbrev frame_next : Result Frame Fault → Option Frame
frame_next (Ok g) = Some g
frame_next (Err f) = None

abbrev part_on : State → ℕ → Result Frame Fault → Ticked
part_on w s (Ok g) = works (with_slot w s same (Some g))
part_on w s (Err f) = faults_on w s f

pub record Part (old mid : World) (s : ℕ) (r : Result (Unit {0}) Fault) : Type 0 where
  pub leads : Result Frame Fault
  pub job : is_some (job_at old.jobs s) ≡ true
  pub tick : IfSome (raw_at old.files old.core old.jobs old.alarms.items s)
      (λ q. tick_in (state_of old) s q (frame_at old.frames.items s) ≡ part_on (state_of old) s leads)
  pub pages : IfSome (raw_at old.files old.core old.jobs old.alarms.items s)
      (λ q. pages_in (state_of old) s q (frame_at old.frames.items s) old.core.frames ≡ old.core.frames)
  pub becomes : FrameBecomes old mid s (frame_next leads)
  pub fault : fault_of r ≡ fault_of leads

-- the first part
abbrev parsed_next : Site → Result (ArrayVec ℕ) Fault → Result Frame Fault
parsed_next t (Ok b) = Ok (parsed t b.items)
parsed_next t (Err f) = Err f

parsed_frame : (t : Site) (r : Result (ArrayVec ℕ) Fault) → after_parse t r ≡ frame_next (parsed_next t r)
parsed_frame t (Ok b) = refl
parsed_frame t (Err f) = refl

parsed_fault : (t : Site) (r : Result (ArrayVec ℕ) Fault) → fault_of r ≡ fault_of (parsed_next t r)
parsed_fault t (Ok b) = refl
parsed_fault t (Err f) = refl

parsed_part : (w : State) (s : ℕ) (t : Site) (r : Result (ArrayVec ℕ) Fault) → parsed_on w s t (items_of r) ≡ part_on w s (parsed_next t r)
parsed_part w s t (Ok b) = refl
parsed_part w s t (Err f) = refl

items_are : (c : Core) (t : Site) → parse c t ≡ items_of (parse_of c t)
unfolding parse
items_are c t = refl

pub parse_part : (old mid : World) (s : ℕ) (r : Result (Unit {0}) Fault) → Kept old → is_some (entered_in (frame_at old.frames.items s)) ≡ true
    → IfSome (entered_in (frame_at old.frames.items s)) (λ t. FrameBecomes old mid s (after_parse t (parse_of (core_at old.core s) t)))
    → IfSome (entered_in (frame_at old.frames.items s)) (λ t. fault_of r ≡ fault_of (parse_of (core_at old.core s) t)) → Part old mid s r
parse_part old mid s r k = go (frame_at old.frames.items s) refl
  where
    go : (o : Option Frame) → frame_at old.frames.items s ≡ o → is_some (entered_in o) ≡ true
        → IfSome (entered_in o) (λ t. FrameBecomes old mid s (after_parse t (parse_of (core_at old.core s) t)))
        → IfSome (entered_in o) (λ t. fault_of r ≡ fault_of (parse_of (core_at old.core s) t)) → Part old mid s r
    go (Some (Entered g)) e h b f =
        let p = parse_of (core_at old.core s) g.site in
        record {
          leads = parsed_next g.site p;
          job = (stands_at old s (Entered g) k.sound e).0;
          tick = on_raw old s (λ q. tick_in (state_of old) s q (frame_at old.frames.items s) ≡ part_on (state_of old) s (parsed_next g.site p))
              (λ q c. ap (tick_in (state_of old) s q) e ∙ ap (λ x. parsed_on (state_of old) s g.site (parse x g.site)) c
              ∙ ap (parsed_on (state_of old) s g.site) (items_are (core_at old.core s) g.site) ∙ parsed_part (state_of old) s g.site p);
          pages = all_some (raw_at old.files old.core old.jobs old.alarms.items s)
              (λ q. pages_in (state_of old) s q (frame_at old.frames.items s) old.core.frames ≡ old.core.frames)
              (λ q. ap (λ (x : Option Frame). pages_in (state_of old) s q x old.core.frames) e);
          becomes = subst (FrameBecomes old mid s) (parsed_frame g.site p) b;
          fault = f ∙ parsed_fault g.site p;
        }
    go _ e h b f = absurd cc

-- the second
abbrev fetched_next : Site → Result Ask Fault → Result Frame Fault
fetched_next t (Ok a) = Ok (asked t a)
fetched_next t (Err f) = Err f

fetched_frame : (t : Site) (r : Result Ask Fault) → after_fetch t r ≡ frame_next (fetched_next t r)
fetched_frame t (Ok a) = refl
fetched_frame t (Err f) = refl

fetched_fault : (t : Site) (r : Result Ask Fault) → fault_of r ≡ fault_of (fetched_next t r)
fetched_fault t (Ok a) = refl
fetched_fault t (Err f) = refl

fetched_part : (w : State) (s : ℕ) (t : Site) (r : Result Ask Fault) → fetched_on w s t r ≡ part_on w s (fetched_next t r)
fetched_part w s t (Ok a) = refl
fetched_part w s t (Err f) = refl

fetch_is : (c : Core) (t : Site) (b : ArrayVec ℕ) → fetch c t b.items ≡ fetch_of c t b
unfolding fetch
fetch_is c t b = refl

pub fetch_part : (old mid : World) (s : ℕ) (r : Result (Unit {0}) Fault) → Kept old → is_some (parsed_in (frame_at old.frames.items s)) ≡ true
    → IfSome (parsed_in (frame_at old.frames.items s)) (λ g. FrameBecomes old mid s (after_fetch g.site (fetch_of (core_at old.core s) g.site g.block)))
    → IfSome (parsed_in (frame_at old.frames.items s)) (λ g. fault_of r ≡ fault_of (fetch_of (core_at old.core s) g.site g.block)) → Part old mid s r
fetch_part old mid s r k = go (frame_at old.frames.items s) refl
  where
    go : (o : Option Frame) → frame_at old.frames.items s ≡ o → is_some (parsed_in o) ≡ true
        → IfSome (parsed_in o) (λ g. FrameBecomes old mid s (after_fetch g.site (fetch_of (core_at old.core s) g.site g.block)))
        → IfSome (parsed_in o) (λ g. fault_of r ≡ fault_of (fetch_of (core_at old.core s) g.site g.block)) → Part old mid s r
    go (Some (Parsed g)) e h b f =
        let p = fetch_of (core_at old.core s) g.site g.block in
        record {
          leads = fetched_next g.site p;
          job = (stands_at old s (Parsed g) k.sound e).0;
          tick = on_raw old s (λ q. tick_in (state_of old) s q (frame_at old.frames.items s) ≡ part_on (state_of old) s (fetched_next g.site p))
              (λ q c. ap (tick_in (state_of old) s q) e ∙ ap (λ x. fetched_on (state_of old) s g.site (fetch x g.site g.block.items)) c
              ∙ ap (fetched_on (state_of old) s g.site) (fetch_is (core_at old.core s) g.site g.block) ∙ fetched_part (state_of old) s g.site p);
          pages = all_some (raw_at old.files old.core old.jobs old.alarms.items s)
              (λ q. pages_in (state_of old) s q (frame_at old.frames.items s) old.core.frames ≡ old.core.frames)
              (λ q. ap (λ (x : Option Frame). pages_in (state_of old) s q x old.core.frames) e);
          becomes = subst (FrameBecomes old mid s) (fetched_frame g.site p) b;
          fault = f ∙ fetched_fault g.site p;
        }
    go _ e h b f = absurd cc

-- after it: the frame is there, or the fault is set
none_by : (r : Result (Unit {0}) Fault) (n : Result Frame Fault) (g : Option Frame) → fault_of r ≡ fault_of n → g ≡ frame_next n → IfErr r (λ f. g ≡ None)
none_by (Ok u) n g e h = tt
none_by (Err f) (Err x) g e h = h
none_by (Err f) (Ok x) g e h = absurd cc

row_by : (old mid : World) (v : State) (s : ℕ) (r : Result (Unit {0}) Fault) (n : Result Frame Fault) (p : Pace)
    → is_some (job_at old.jobs s) ≡ true → fault_of r ≡ fault_of n
    → FrameBecomes old mid s (frame_next n) → v ≡ state_decoded (state_of mid) s r → p ≡ pace_decoded r → part_on (state_of old) s n ≡ ticked v p
row_by old mid v s (Ok u) (Ok g) p j f b h e =
    let is : with_slot (state_of old) s same (Some g) ≡ v = sym (kept_slot old mid s (Some g) j b) ∙ sym h in λ i. record { state = is i; pace = sym e i }
row_by old mid v s (Err x) (Err y) p j f b h e =
    let one : x ≡ y = cc in
    let is : with_slot (state_of old) s (with_fault y) None ≡ v =
    sym (h ∙ ap (λ (u : State). with_slot u s (with_fault x) None) (kept_slot old mid s None j b) ∙ retaken (state_of old) s None None (with_fault x)
    ∙ ap (λ (z : Fault). with_slot (state_of old) s (with_fault z) None) one) in
    λ i. record { state = is i; pace = sym e i }
row_by old mid v s (Ok u) (Err y) p j f b h e = absurd cc
row_by old mid v s (Err x) (Ok g) p j f b h e = absurd cc

module _ (old mid : World) (s : ℕ) (r : Result (Unit {0}) Fault) (part : Part old mid s r) where
  pub part_job : is_some (job_at mid.jobs s) ≡ true
  part_job = ap is_some part.becomes.job.here ∙ part.job

  pub part_none : IfErr r (λ f. frame_at mid.frames.items s ≡ None)
  part_none = none_by r part.leads (frame_at mid.frames.items s) part.fault part.becomes.frame.here

  pub part_tidy : Tidy old → Tidy mid
  part_tidy tidy = tidy_kept old mid s (frame_next part.leads) (clear_at old.core s) part.becomes tidy

  pub part_row : (new : World) (p : Pace) → state_of new ≡ state_decoded (state_of mid) s r → p ≡ pace_decoded r
      → IfSome (raw_at old.files old.core old.jobs old.alarms.items s)
      (λ q. tick_in (state_of old) s q (frame_at old.frames.items s) ≡ ticked (state_of new) p)
  part_row new p h e =
      with_some (raw_at old.files old.core old.jobs old.alarms.items s)
      (λ q. tick_in (state_of old) s q (frame_at old.frames.items s) ≡ part_on (state_of old) s part.leads) _
      (λ q t. t ∙ row_by old mid (state_of new) s r part.leads p part.job part.fault part.becomes h e) part.tick

  pub part_pages : (new : World) → new.core.frames ≡ mid.core.frames
      → IfSome (raw_at old.files old.core old.jobs old.alarms.items s)
      (λ q. new.core.frames ≡ pages_in (state_of old) s q (frame_at old.frames.items s) old.core.frames)
  part_pages new h =
      with_some (raw_at old.files old.core old.jobs old.alarms.items s)
      (λ q. pages_in (state_of old) s q (frame_at old.frames.items s) old.core.frames ≡ old.core.frames) _
      (λ q t. h ∙ becomes_pages old mid s _ _ (frame_next part.leads) part.becomes ∙ sym t) part.pages

-- the frame to which a call goes on, if it is known which frame it has
pub went : (old new : World) (s : ℕ) (n : Next) (f : Frame) (r : Request) → frame_at old.frames.items s ≡ Some f → request_in (Some f) ≡ Some r
    → IfSome (request_in (frame_at old.frames.items s)) (λ r. FrameBecomes old new s (Some (gone_to n r))) → FrameBecomes old new s (Some (gone_to n r))
went old new s n f r e i h = subst (λ (o : Option Request). IfSome o (λ r. FrameBecomes old new s (Some (gone_to n r)))) (ap request_in e ∙ i) h

pub can_go : (w : World) (s : ℕ) (f : Frame) → frame_at w.frames.items s ≡ Some f → is_some (request_in (Some f)) ≡ true
    → is_some (request_in (frame_at w.frames.items s)) ≡ true
can_go w s f e h = ap (λ (o : Option Frame). is_some (request_in o)) e ∙ h

-- a call that is to be prepared
pub record Asking (w : World) (s : ℕ) (b : Bool) : Type 0 where
  pub frame : askeds.Asked
  pub is : frame_at w.frames.items s ≡ Some (Asked frame)
  pub page : b ≡ reserves frame.ask

pub asking : (w : World) (s : ℕ) (b : Bool) → is_some (asked_in (frame_at w.frames.items s)) ≡ true
    → IfSome (asked_in (frame_at w.frames.items s)) (λ a. b ≡ reserves a) → Asking w s b
asking w s b = go (frame_at w.frames.items s) refl
  where
    go : (o : Option Frame) → frame_at w.frames.items s ≡ o → is_some (asked_in o) ≡ true → IfSome (asked_in o) (λ a. b ≡ reserves a) → Asking w s b
    go (Some (Asked f)) e h i = record { frame = f; is = e; page = i }
    go _ e h i = absurd cc

-- a job whose arguments are found has reserved no page yet
asked_bare : (o : Option Whole) (g : Option Frame) (r : Option ℕ) (f : askeds.Asked) → SoundBy o g r → g ≡ Some (Asked f) → r ≡ None
asked_bare None g r f h e = absurd (let none = h.0 in cc)
asked_bare (Some q) (Some (Asked i)) r f h e = h.pays
asked_bare (Some q) _ r f h e = cc

pub asked_unreserved : (w : World) (s : ℕ) (b : Bool) → Asking w s b → Kept w → clear_at w.core s ≡ None
unfolding state_of
asked_unreserved w s b x k = asked_bare ((state_of w).raw.jobs s) ((state_of w).frames s) ((state_of w).reserved s) x.frame (k.sound.each s).by x.is

-- a page is reserved, and then the frame is put back; or the frame alone
pub page_prepared : (old mid new : World) (s : ℕ) (t : Site) (a : Ask) → is_some (job_at old.jobs s) ≡ true → reserves a ≡ true
    → PageBecomes old mid s (Some 0)
    → FrameBecomes mid new s (Some (holding t a (Some 0) 0)) → state_of new ≡ after_preparation (state_of old) s t a (reserves a)
page_prepared old mid new s t a j e page frame =
    kept_state old new s (Some (holding t a (Some 0) 0)) (Some 0) j (paged_becomes old mid new s (Some 0) _ page frame)
    ∙ ap (after_preparation (state_of old) s t a) (sym e)

pub none_prepared : (old new : World) (s : ℕ) (t : Site) (a : Ask) → is_some (job_at old.jobs s) ≡ true → reserves a ≡ false
    → FrameBecomes old new s (Some (holding t a None 0))
    → state_of new ≡ after_preparation (state_of old) s t a (reserves a)
none_prepared old new s t a j e frame = kept_slot old new s (Some (holding t a None 0)) j frame ∙ ap (after_preparation (state_of old) s t a) (sym e)

module _ (old : World) (s : ℕ) (b : Bool) (x : Asking old s b) (k : Kept old) where
  asked_job : is_some (job_at old.jobs s) ≡ true
  asked_job = (stands_at old s (Asked x.frame) k.sound x.is).0

  pub prepared_row : (new : World) → state_of new ≡ after_preparation (state_of old) s x.frame.site x.frame.ask (reserves x.frame.ask)
      → IfSome (raw_at old.files old.core old.jobs old.alarms.items s)
      (λ q. tick_in (state_of old) s q (frame_at old.frames.items s) ≡ ticked (state_of new) Work)
  prepared_row new h =
      all_some (raw_at old.files old.core old.jobs old.alarms.items s)
      (λ q. tick_in (state_of old) s q (frame_at old.frames.items s) ≡ ticked (state_of new) Work)
      (λ q. ap (tick_in (state_of old) s q) x.is ∙ ap works (sym h))

  pub bare_held : (new : World) → IfSome (request_in (frame_at old.frames.items s)) (λ r. FrameBecomes old new s (Some (gone_to (next.Holding None 0) r)))
      → FrameBecomes old new s (Some (holding x.frame.site x.frame.ask None 0))
  bare_held new h = went old new s (next.Holding None 0) (Asked x.frame) (request x.frame.site x.frame.ask) x.is refl h

  pub bare_row : (new : World) → b ≡ false → IfSome (request_in (frame_at old.frames.items s))
      (λ r. FrameBecomes old new s (Some (gone_to (next.Holding None 0) r)))
      → IfSome (raw_at old.files old.core old.jobs old.alarms.items s)
      (λ q. tick_in (state_of old) s q (frame_at old.frames.items s) ≡ ticked (state_of new) Work)
  bare_row new e h = prepared_row new (none_prepared old new s x.frame.site x.frame.ask asked_job (sym x.page ∙ e) (bare_held new h))

  -- a page was reserved
  paged_frame : (mid : World) → PageBecomes old mid s (Some 0) → frame_at mid.frames.items s ≡ Some (Asked x.frame)
  paged_frame mid p = p.frame.here ∙ x.is

  pub paged_goes : (mid : World) → PageBecomes old mid s (Some 0) → is_some (request_in (frame_at mid.frames.items s)) ≡ true
  paged_goes mid p = can_go mid s (Asked x.frame) (paged_frame mid p) refl

  pub paged_held : (mid new : World) → PageBecomes old mid s (Some 0)
      → IfSome (request_in (frame_at mid.frames.items s)) (λ r. FrameBecomes mid new s (Some (gone_to (next.Holding (Some 0) 0) r)))
      → FrameBecomes mid new s (Some (holding x.frame.site x.frame.ask (Some 0) 0))
  paged_held mid new p h = went mid new s (next.Holding (Some 0) 0) (Asked x.frame) (request x.frame.site x.frame.ask) (paged_frame mid p) refl h

  pub paged_row : (mid new : World) → b ≡ true → PageBecomes old mid s (Some 0)
      → IfSome (request_in (frame_at mid.frames.items s)) (λ r. FrameBecomes mid new s (Some (gone_to (next.Holding (Some 0) 0) r)))
      → IfSome (raw_at old.files old.core old.jobs old.alarms.items s)
      (λ q. tick_in (state_of old) s q (frame_at old.frames.items s) ≡ ticked (state_of new) Work)
  paged_row mid new e p h = prepared_row new (page_prepared old mid new s x.frame.site x.frame.ask asked_job (sym x.page ∙ e) p (paged_held mid new p h))

-- a call that is held has reserved the page that its frame has
held_page : (o : Option Whole) (g : Option Frame) (r : Option ℕ) (f : holdings.Holding) → SoundBy o g r → g ≡ Some (Holding f) → r ≡ f.page
held_page None g r f h e = absurd (let none = h.0 in cc)
held_page (Some q) (Some (Holding i)) r f h e = h.pays.page_is ∙ (let same : i ≡ f = cc in ap (λ (x : holdings.Holding). x.page) same)
held_page (Some q) _ r f h e = cc

held_quarter : (w : State) (j : ℕ) (own : Whole) (s : Site) (a : Ask) (page : Option ℕ) (n c : ℕ) → page ≡ Some c → c < 4
    → held_on w j own s a page n ≡ works (reserving (with_slot w j same (Some (holding s a (Some (c + 1)) n))) j (Some (c + 1)))
held_quarter w j own s a page n c e l =
    ap (λ (x : Option ℕ). held_on w j own s a x n) e
    ∙ ap (λ (b : Bool). if b then works (reserving (with_slot w j same (Some (holding s a (Some (c + 1)) n))) j (Some (c + 1))) else
    tried_by w j own s a n) (lt-ltb c 4 l)

-- the next quarter of its page is to be cleared
pub record Clearing (w : World) (s c n : ℕ) : Type 0 where
  pub frame : holdings.Holding
  pub is : frame_at w.frames.items s ≡ Some (Holding frame)
  pub page : frame.page ≡ Some c
  pub owes : frame.owes ≡ n

pub clearing : (w : World) (s c n : ℕ) → IsClearing (frame_at w.frames.items s) c n → Clearing w s c n
clearing w s c n = go (frame_at w.frames.items s) refl
  where
    go : (o : Option Frame) → frame_at w.frames.items s ≡ o → IsClearing o c n → Clearing w s c n
    go (Some (Holding f)) e h = record { frame = f; is = e; page = h.0; owes = h.1 }
    go _ e h = absurd h

module _ (old : World) (s c n : ℕ) (x : Clearing old s c n) (k : Kept old) where
  pub clear_page : clear_at old.core s ≡ Some c
  unfolding state_of
  clear_page = held_page ((state_of old).raw.jobs s) ((state_of old).frames s) ((state_of old).reserved s) x.frame (k.sound.each s).by x.is ∙ x.page

  cleared_frame : (mid : World) → PageBecomes old mid s (Some (c + 1)) → frame_at mid.frames.items s ≡ Some (Holding x.frame)
  cleared_frame mid p = p.frame.here ∙ x.is

  pub cleared_goes : (mid : World) → PageBecomes old mid s (Some (c + 1)) → is_some (request_in (frame_at mid.frames.items s)) ≡ true
  cleared_goes mid p = can_go mid s (Holding x.frame) (cleared_frame mid p) refl

  -- it is cleared, and the call is held on
  pub cleared_held : (mid new : World) → PageBecomes old mid s (Some (c + 1))
      → IfSome (request_in (frame_at mid.frames.items s)) (λ r. FrameBecomes mid new s (Some (gone_to (next.Holding (Some (c + 1)) n) r)))
      → FrameBecomes mid new s (Some (holding x.frame.site x.frame.ask (Some (c + 1)) n))
  cleared_held mid new p h = went mid new s (next.Holding (Some (c + 1)) n) (Holding x.frame) (request x.frame.site x.frame.ask) (cleared_frame mid p) refl h

  pub cleared_row : (mid new : World) → c < 4 → PageBecomes old mid s (Some (c + 1))
      → FrameBecomes mid new s (Some (holding x.frame.site x.frame.ask (Some (c + 1)) n))
      → IfSome (raw_at old.files old.core old.jobs old.alarms.items s)
      (λ q. tick_in (state_of old) s q (frame_at old.frames.items s) ≡ ticked (state_of new) Work)
  unfolding seen
  cleared_row mid new l paged framed =
      let g : Option Frame = Some (holding x.frame.site x.frame.ask (Some (c + 1)) n) in
      let is : state_of new ≡ reserving (with_slot (state_of old) s same g) s (Some (c + 1)) =
      kept_state old new s g (Some (c + 1)) (stands_at old s (Holding x.frame) k.sound x.is).0 (paged_becomes old mid new s (Some (c + 1)) g paged framed) in
      all_some (raw_at old.files old.core old.jobs old.alarms.items s)
      (λ q. tick_in (state_of old) s q (frame_at old.frames.items s) ≡ ticked (state_of new) Work)
      (λ q. ap (tick_in (state_of old) s q) x.is
      ∙ held_quarter (state_of old) s (seen (Some (Holding x.frame)) q) x.frame.site x.frame.ask x.frame.page x.frame.owes c x.page l
      ∙ ap (λ (m : ℕ). works (reserving (with_slot (state_of old) s same (Some (holding x.frame.site x.frame.ask (Some (c + 1)) m))) s (Some (c + 1)))) x.owes
      ∙ ap works (sym is))

pub fault_set : (old new : World) (s : ℕ) (j : Job) (o : Option Job) (f : Fault) → frame_at old.frames.items s ≡ None → o ≡ job_at old.jobs s → o ≡ Some j
    → JobBecomes old new s (with_pending j (bit_of f)) → state_of new ≡ with_slot (state_of old) s (with_fault f) None
fault_set old new s j o f none e i b =
    turned_state old new s (core_at old.core s) (with_pending j (bit_of f)) j None (with_fault f)
    (subst (λ g. Becomes old new s (core_at old.core s) (Some (with_pending j (bit_of f))) g (clear_at old.core s)) none b)
    (sym e ∙ i) refl

-- the core of a slot without a job is that of no job
pub tidy_of : (w : World) → Kept w → Tidy w
tidy_of w k = k.tidy
