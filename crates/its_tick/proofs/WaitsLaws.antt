-- Each list of those that wait holds the slots that the plain machine says: its reason to wait
-- alone decides to which list a slot belongs, and the decision of the plain machine waits for a
-- reason if the slot belongs to the list of this reason.
use Rattle.std.specs.Prelude.{◌≡◌, ◌<◌, ◌≤◌, ◌+◌, ◌^◌, ℕ, Bool, true, false, Option, Some, None, IfSome, option_map, List, nat_lt, slice_index_or, unwrap_or, refl}
use Rattle.std.proofs.Common.{sym, ◌∙◌, ap, subst, inl, inr, arith}
use Rattle.std.proofs.lemmas.Bool.{cases_eq, cases_Bool}
use Rattle.its_links.specs.Lists.{list_at, count}
use Rattle.its_links.proofs.CountLaws.{hit_same, hit_other, hit_le}
use Rattle.its_records.specs.Links.{most_links}
use Rattle.its_records.specs.declared.calls.Ask.{Ask}
use Rattle.its_records.specs.declared.jobs.Channel.{Channel}
use Rattle.its_records.specs.declared.jobs.Channel.TheVariants as channels
use Rattle.its_records.specs.declared.jobs.Job.{Job}
use Rattle.its_core.specs.Cores.{core_at}
use Rattle.its_files.specs.Files.{Store}
use Rattle.its_jobs.specs.Table.{job_at, superior_at}
use Rattle.its_frame.specs.declared.decision.Decision.TheVariants.{Waits}
use Rattle.its_frame.specs.declared.decision.Wait.{Wait}
use Rattle.its_frame.specs.declared.decision.Wait.TheVariants.{Hang, Clock, Input, Output, Drained, Empty, Room}
use Rattle.its_frame.specs.declared.frame.Frame.{Frame}
use Rattle.its_frame.specs.declared.frame.Frame.TheVariants as frames
use Rattle.its_frame.specs.declared.frame.Waiting.{Waiting}
use Rattle.its_frame.specs.declared.name.CallName.{CallName}
use Rattle.its_frame.specs.declared.name.CallName.TheVariants as calls
use Rattle.its_plain.specs.Call.Arguments.{input}
use Rattle.its_plain.specs.Call.Basic.{channel_at}
use Rattle.its_plain.specs.Call.Step.{decision}
use Rattle.its_plain.specs.Call.Decide.{call_named}
use Rattle.its_plain.specs.Machine.{Chan, Shut, TtyIn, TtyOut, On, Linked, Whole}
use Rattle.its_plain.specs.Call.Moves.{Device, AtConsole, AtLink}
use Rattle.its_plain.specs.Call.Reasons.{Doors, doors, held_up, of_transfer, of_finish, of_listen, reason_by, reason_in}
use Rattle.its_stepped.specs.Sound.{Sound, SoundBy, SoundFrame}
use Rattle.its_stepped.specs.State.{State, plain, seen}
use Rattle.its_stepped.proofs.Keeping.ConsoledLaws.{raw_consoled}
use Rattle.its_stepped.proofs.Keeping.JoinedLaws.{link_stands}
use Rattle.its_stepped.proofs.Ticking.WaitLaws.{blocked_so}
use Rattle.its_world.specs.World.{chan_of, alarm_at, frame_at, state_of}
use Rattle.its_world.specs.WaitLists.{IsWaitList, list_for, awake_of, post_of, awake_head, is_within, Within, place_at, mark, StandsIn}
use Rattle.its_world.specs.Filed.{kind_of, channel_of, wait_reason, if_within, place_for, place_by, doors_of, wait_list_of, OnLists}
use Rattle.its_world.specs.declared.world.World.{World}
use Rattle.its_world.proofs.PlaceLaws.{within_is, is_within_so}
use Rattle.its_world.proofs.StateLaws.{raw_job, raw_some, raw_none}
use Rattle.its_world.proofs.StorageLaws.{frame_is}
use Rattle.its_plain.specs.Operator.Clock.{clock_end}
use Rattle.its_stepped.specs.Alarmed.{Alarmed}
use Rattle.its_stepped.specs.Forest.{Forest}
use Rattle.its_world.specs.Tidy.{Tidy}
use Rattle.its_tick.specs.Kept.{Kept}
use Rattle.its_tick.specs.Waits.{WaitsFor, CanGoOn, HoldsJust, WaitListsHold}

-- a slot that is on a list belongs there, and is there once
mark_most : (p : Option ℕ) (h : ℕ) → mark p h ≤ 1
mark_most None h = omega arith
mark_most (Some g) h = hit_le h g

mark_here : (p : Option ℕ) (h : ℕ) → 0 < mark p h → p ≡ Some h
mark_here None h l = absurd (omega arith)
mark_here (Some g) h l = elim (cases_eq h g) [
  | inl e ↦ ap Some (sym e)
  | inr ne ↦ let z = hit_other h g ne in absurd (omega arith)
]

pub stands_there : (lists : List (List ℕ)) (k h : ℕ) (p : Option ℕ) → StandsIn lists k p → 0 < count k (list_at lists h) → p ≡ Some h
stands_there lists k h p s here = mark_here p h (subst (λ n. 0 < n) (s.at h) here)

stands_once : (lists : List (List ℕ)) (k h : ℕ) (p : Option ℕ) → StandsIn lists k p → count k (list_at lists h) ≤ 1
stands_once lists k h p s = subst (λ n. n ≤ 1) (sym (s.at h)) (mark_most p h)

pub stands_here : (lists : List (List ℕ)) (k h : ℕ) (p : Option ℕ) → StandsIn lists k p → p ≡ Some h → 0 < count k (list_at lists h)
stands_here lists k h p s e = let one = s.at h ∙ ap (λ o. mark o h) e ∙ hit_same h in omega arith

-- the wait_lists and the Awake lists
abbrev pub IsPost : Device → Type 0
IsPost (AtConsole c) = c < 8
IsPost (AtLink l) = l < most_links

past : (d : Device) → IsPost d → IsWaitList (awake_head d) → ⊥
past (AtConsole c) l w = elim w [ inl low ↦ omega arith | inr high ↦ let past_lists = high.0 in omega arith ]
past (AtLink n) l w = elim w [ inl low ↦ omega arith | inr high ↦ let before_lists = high.1 in omega arith ]

past_some : (d : Device) (g : ℕ) → IsPost d → Some (awake_head d) ≡ Some g → IsWaitList g → ⊥
past_some d g l e w = let q : awake_head d ≡ g = cc in past d l (subst IsWaitList (sym q) w)

awake_past : (r : Wait) (g : ℕ) → Within r → awake_of r ≡ Some g → IsWaitList g → ⊥
awake_past Hang g l e w = cc
awake_past Clock g l e w = cc
awake_past (Input c) g l e w = past_some (AtConsole c) g l e w
awake_past (Output c) g l e w = past_some (AtConsole c) g l e w
awake_past (Drained c) g l e w = past_some (AtConsole c) g l e w
awake_past (Empty n) g l e w = past_some (AtLink n) g l e w
awake_past (Room n) g l e w = past_some (AtLink n) g l e w

pub list_within : (r : Wait) → Within r → IsWaitList (list_for r)
list_within Hang l = inl (omega arith)
list_within Clock l = inl (omega arith)
list_within (Input c) l = inl (omega arith)
list_within (Output c) l = inl (omega arith)
list_within (Drained c) l = inl (omega arith)
list_within (Empty n) l = inr (omega arith, omega arith)
list_within (Room n) l = inr (omega arith, omega arith)

-- two reasons have two wait_lists
list_same : (r s : Wait) → Within r → Within s → list_for r ≡ list_for s → r ≡ s
list_same Hang Hang l m e = refl
list_same Clock Clock l m e = refl
list_same (Input c) (Input d) l m e = ap Input (omega arith)
list_same (Output c) (Output d) l m e = ap Output (omega arith)
list_same (Drained c) (Drained d) l m e = ap Drained (omega arith)
list_same (Empty c) (Empty d) l m e = ap Empty (omega arith)
list_same (Room c) (Room d) l m e = ap Room (omega arith)
list_same _ _ l m e = absurd (omega arith)

pub held_place : (r : Wait) (b : Bool) (g : ℕ) → Within r → place_at r b ≡ Some g → IsWaitList g → (b ≡ true) × (list_for r ≡ g)
held_place r true g l e w = (refl, cc)
held_place r false g l e w = absurd (awake_past r g l e w)

-- the Awake list of a console or a link names it
console_named : (c : ℕ) (d : Device) → c < 8 → IsPost d → Some (26 + c) ≡ Some (awake_head d) → Some (AtConsole c) ≡ Some d
console_named c (AtConsole d) l m e = let q : 26 + c ≡ 26 + d = cc in let same : c ≡ d = omega arith in ap (λ (i : ℕ). Some (AtConsole i)) same
console_named c (AtLink d) l m e = let q : 26 + c ≡ 66 + d = cc in absurd (omega arith)

link_named : (n : ℕ) (d : Device) → n < most_links → IsPost d → Some (66 + n) ≡ Some (awake_head d) → Some (AtLink n) ≡ Some d
link_named n (AtConsole d) l m e = let q : 66 + n ≡ 26 + d = cc in absurd (omega arith)
link_named n (AtLink d) l m e = let q : 66 + n ≡ 66 + d = cc in let same : n ≡ d = omega arith in ap (λ (i : ℕ). Some (AtLink i)) same

awake_named : (r : Wait) (d : Device) → Within r → IsPost d → awake_of r ≡ Some (awake_head d) → post_of r ≡ Some d
awake_named Hang d l m e = cc
awake_named Clock d l m e = cc
awake_named (Input c) d l m e = console_named c d l m e
awake_named (Output c) d l m e = console_named c d l m e
awake_named (Drained c) d l m e = console_named c d l m e
awake_named (Empty n) d l m e = link_named n d l m e
awake_named (Room n) d l m e = link_named n d l m e

at_post : (p d : Device) → Some p ≡ Some d → IsPost d → (Some (awake_head p) ≡ Some (awake_head d)) × IsPost p
at_post p d e l = let q : p ≡ d = cc in (ap (λ (i : Device). Some (awake_head i)) q, subst IsPost (sym q) l)

awake_post : (r : Wait) (d : Device) → post_of r ≡ Some d → IsPost d → (awake_of r ≡ Some (awake_head d)) × Within r
awake_post Hang d e l = absurd cc
awake_post Clock d e l = absurd cc
awake_post (Input c) d e l = at_post (AtConsole c) d e l
awake_post (Output c) d e l = at_post (AtConsole c) d e l
awake_post (Drained c) d e l = at_post (AtConsole c) d e l
awake_post (Empty n) d e l = at_post (AtLink n) d e l
awake_post (Room n) d e l = at_post (AtLink n) d e l

awake_place : (r : Wait) (b : Bool) (d : Device) → Within r → IsPost d → place_at r b ≡ Some (awake_head d) → post_of r ≡ Some d
awake_place r true d l m e = let q : list_for r ≡ awake_head d = cc in absurd (past d m (subst IsWaitList q (list_within r l)))
awake_place r false d l m e = awake_named r d l m e

-- the reason that the world gives is that of the job of the state
shut_named : (i : ℕ) (c : Chan) (n : CallName) → of_transfer i c ≡ None → of_finish i c ≡ None → of_listen i c ≡ None
    → reason_by i c (Some n) ≡ reason_by i Shut (Some n)
shut_named i c calls.Iot t f l = t
shut_named i c calls.Siot t f l = t
shut_named i c calls.Finish t f l = f
shut_named i c calls.Listen t f l = l
shut_named i c _ t f l = refl

shut_as : (i : ℕ) (c : Chan) (o : Option CallName) → of_transfer i c ≡ None → of_finish i c ≡ None → of_listen i c ≡ None
    → reason_by i c o ≡ reason_by i Shut o
shut_as i c (Some n) t f l = shut_named i c n t f l
shut_as i c None t f l = refl

kind_reason : (s : Store) (i : ℕ) (x : Channel) (o : Option CallName) → reason_by i (kind_of x) o ≡ reason_by i (chan_of s x) o
kind_reason s i (channels.Reading f at) o = sym (shut_as i (chan_of s (channels.Reading f at)) o refl refl refl)
kind_reason s i (channels.Writing d) o = sym (shut_as i (chan_of s (channels.Writing d)) o refl refl refl)
kind_reason s i (channels.Usr k w at) o = sym (shut_as i (On k w at) o refl refl refl)
kind_reason s i _ o = refl

kind_at : (s : Store) (j : Job) (n : ℕ) → chan_of s (channel_of j n) ≡ channel_at (λ m. chan_of s (slice_index_or j.channels m channels.Closed)) n
kind_at s j n = elim (cases_Bool (nat_lt n 16)) [ inl t ↦ rw t refl | inr t ↦ rw t refl ]

reason_raw : (w : World) (s : ℕ) (j : Job) (a : Ask) → wait_reason (Some j)
    a ≡ reason_in (raw_job w.files (core_at w.core s) j (superior_at w.jobs s) (alarm_at w.alarms.items s)) a
reason_raw w s j a =
    let i = unwrap_or j.console 0 in
    kind_reason w.files i (channel_of j (input a 0)) (call_named a.name) ∙ ap (λ c. reason_by i c (call_named a.name)) (kind_at w.files j (input a 0))

reason_seen : (q : Whole) (f : Waiting) → reason_in q f.ask ≡ reason_in (seen (Some (frames.Waiting f)) q) f.ask
unfolding seen
reason_seen q f = refl

doors_plain : (w : World) → doors (plain (state_of w)) ≡ doors_of w
unfolding plain state_of
doors_plain w = refl

place_waiting : (w : World) (s : ℕ) (f : Waiting) (o : Option Job) → job_at w.jobs s ≡ o
    → frame_at w.frames.items s ≡ Some (frames.Waiting f) → wait_list_of w s ≡ place_for (doors_of w) s (input f.ask 0) (wait_reason o f.ask)
unfolding wait_list_of
place_waiting w s f o job fr = λ t. place_by (doors_of w) s (job t) (fr t)

pub sound_at : (w : State) (j : ℕ) (q : Whole) (f : Frame) → Sound w → w.raw.jobs j ≡ Some q → w.frames j ≡ Some f → SoundFrame q f (w.reserved j)
sound_at w j q f sound is fr =
    subst (λ (o : Option Frame). SoundBy (Some q) o (w.reserved j)) fr
    (subst (λ (o : Option Whole). SoundBy o (w.frames j) (w.reserved j)) is (sound.each j).by)

pub raw_is : (w : World) (s : ℕ) (j : Job) → job_at w.jobs s ≡ Some j
    → (state_of w).raw.jobs s ≡ Some (raw_job w.files (core_at w.core s) j (superior_at w.jobs s) (alarm_at w.alarms.items s))
unfolding state_of
raw_is w s j is = raw_some w s j is

pub raw_is_none : (w : World) (s : ℕ) → job_at w.jobs s ≡ None → (state_of w).raw.jobs s ≡ None
unfolding state_of
raw_is_none w s none = raw_none w s none

-- a slot that belongs in a list has a job and a frame that is Waiting, and its call a reason
pub record Placed (w : World) (k g : ℕ) : Type 0 where
  pub job : Job
  pub frame : Waiting
  pub reason : Wait
  pub in_job : job_at w.jobs k ≡ Some job
  pub in_frame : frame_at w.frames.items k ≡ Some (frames.Waiting frame)
  pub can_wait : wait_reason (Some job) frame.ask ≡ Some reason
  pub within : Within reason
  pub at : place_at reason (held_up (doors_of w) k (input frame.ask 0) reason) ≡ Some g

placed_if : (w : World) (k g : ℕ) (j : Job) (f : Waiting) (r : Wait) (t : Bool) → job_at w.jobs k ≡ Some j
    → frame_at w.frames.items k ≡ Some (frames.Waiting f) → wait_reason (Some j) f.ask ≡ Some r
    → is_within r ≡ t → if_within t (place_at r (held_up (doors_of w) k (input f.ask 0) r)) ≡ Some g → Placed w k g
placed_if w k g j f r true job fr is less e = record {
  job = j;
  frame = f;
  reason = r;
  in_job = job;
  in_frame = fr;
  can_wait = is;
  within = within_is r less;
  at = e;
}
placed_if w k g j f r false job fr is less e = absurd cc

placed_for : (w : World) (k g : ℕ) (j : Job) (f : Waiting) (o : Option Wait) → job_at w.jobs k ≡ Some j
    → frame_at w.frames.items k ≡ Some (frames.Waiting f) → wait_reason (Some j) f.ask ≡ o
    → place_for (doors_of w) k (input f.ask 0) o ≡ Some g → Placed w k g
placed_for w k g j f (Some r) job fr is e = placed_if w k g j f r (is_within r) job fr is refl e
placed_for w k g j f None job fr is e = absurd cc

placed_by : (w : World) (k g : ℕ) (o : Option Job) (p : Option Frame) → job_at w.jobs k ≡ o → frame_at w.frames.items k ≡ p
    → (o ≡ None → p ≡ None) → place_by (doors_of w) k o p ≡ Some g → Placed w k g
placed_by w k g (Some j) (Some (frames.Waiting f)) job fr bare e = placed_for w k g j f (wait_reason (Some j) f.ask) job fr refl e
placed_by w k g None (Some (frames.Waiting f)) job fr bare e = let n = bare refl in absurd cc
placed_by w k g o _ job fr bare e = absurd cc

-- a slot without a job has no frame
pub frame_none : (w : World) (k : ℕ) → Sound (state_of w) → job_at w.jobs k ≡ None → frame_at w.frames.items k ≡ None
frame_none w k sound none =
    sym (frame_is w k) ∙ (subst (λ (o : Option Whole). SoundBy o ((state_of w).frames k) ((state_of w).reserved k)) (raw_is_none w k none)
    (sound.each k).by).0

pub placed : (w : World) (k g : ℕ) → Sound (state_of w) → wait_list_of w k ≡ Some g → Placed w k g
unfolding wait_list_of
placed w k g sound e = placed_by w k g (job_at w.jobs k) (frame_at w.frames.items k) refl refl (frame_none w k sound) e

-- the job of the plain machine in a slot that has a frame
plain_at : (v : State) (k : ℕ) (q : Whole) → v.raw.jobs k ≡ Some q → (plain v).jobs k ≡ Some (seen (v.frames k) q)
unfolding plain
plain_at v k q e = ap (option_map (seen (v.frames k))) e

plain_none : (v : State) (k : ℕ) → v.raw.jobs k ≡ None → (plain v).jobs k ≡ None
unfolding plain
plain_none v k e = ap (option_map (seen (v.frames k))) e

-- the call of a slot whose reason holds waits for it
pub waits_decided : (w : World) (k : ℕ) (j : Job) (f : Waiting) (r : Wait) → Sound (state_of w) → job_at w.jobs k ≡ Some j
    → frame_at w.frames.items k ≡ Some (frames.Waiting f)
    → wait_reason (Some j) f.ask ≡ Some r → held_up (doors_of w) k (input f.ask 0) r ≡ true
    → decision (plain (state_of w)) k (seen (Some (frames.Waiting f))
    (raw_job w.files (core_at w.core k) j (superior_at w.jobs k) (alarm_at w.alarms.items k))) f.ask ≡ Waits r
waits_decided w k j f r sound job fr is holds =
    let q : Whole = raw_job w.files (core_at w.core k) j (superior_at w.jobs k) (alarm_at w.alarms.items k) in
    let s = sound_at (state_of w) k q (frames.Waiting f) sound (raw_is w k j job) (frame_is w k ∙ fr) in
    s.stuck.again (plain (state_of w)) k r (sym (reason_seen q f) ∙ sym (reason_raw w k j f.ask) ∙ is)
    (subst (λ (d : Doors). held_up d k (input f.ask 0) r ≡ true) (sym (doors_plain w)) holds)

-- the other way: a decision that waits is that of a slot that is on the list of its reason, and a
-- link that a call waits at is one of those that there can be
abbrev LinkFits : Chan → Type 0
LinkFits c = (l : ℕ) (write : Bool) → c ≡ Linked l write → l < most_links

transfer_at : (i : ℕ) (c : Chan) (r : Wait) → i < 8 → LinkFits c → of_transfer i c ≡ Some r → Within r
transfer_at i TtyIn r l f e = let q : Input i ≡ r = cc in subst Within q l
transfer_at i TtyOut r l f e = let q : Output i ≡ r = cc in subst Within q l
transfer_at i (Linked n true) r l f e = let q : Room n ≡ r = cc in subst Within q (f n true refl)
transfer_at i (Linked n false) r l f e = let q : Empty n ≡ r = cc in subst Within q (f n false refl)
transfer_at i _ r l f e = absurd (cc)

reason_at : (i : ℕ) (c : Chan) (n : CallName) (r : Wait) → i < 8 → LinkFits c → reason_by i c (Some n) ≡ Some r → Within r
reason_at i c calls.Hang r l f e = let q : Hang ≡ r = cc in subst Within q tt
reason_at i c calls.Sleep r l f e = let q : Clock ≡ r = cc in subst Within q tt
reason_at i c calls.Iot r l f e = transfer_at i c r l f e
reason_at i c calls.Siot r l f e = transfer_at i c r l f e
reason_at i c calls.Finish r l f e = finish_at i c r l e
  where
    finish_at : (i : ℕ) (c : Chan) (r : Wait) → i < 8 → of_finish i c ≡ Some r → Within r
    finish_at i TtyOut r l e = let q : Drained i ≡ r = cc in subst Within q l
    finish_at i _ r l e = absurd (cc)
reason_at i c calls.Listen r l f e = listen_at i c r l e
  where
    listen_at : (i : ℕ) (c : Chan) (r : Wait) → i < 8 → of_listen i c ≡ Some r → Within r
    listen_at i TtyIn r l e = let q : Drained i ≡ r = cc in subst Within q l
    listen_at i TtyOut r l e = let q : Drained i ≡ r = cc in subst Within q l
    listen_at i _ r l e = absurd (cc)
reason_at i c _ r l f e = absurd (cc)

reason_fits : (i : ℕ) (c : Chan) (o : Option CallName) (r : Wait) → i < 8 → LinkFits c → reason_by i c o ≡ Some r → Within r
reason_fits i c (Some n) r l f e = reason_at i c n r l f e
reason_fits i c None r l f e = absurd (cc)

console_fits : (o : Option ℕ) → IfSome o (λ c. c < 8) → unwrap_or o 0 < 8
console_fits (Some c) l = l
console_fits None l = omega arith

plain_job : (w : World) (k : ℕ) (j : Job) (f : Waiting) → job_at w.jobs k ≡ Some j → frame_at w.frames.items k ≡ Some (frames.Waiting f)
    → (plain (state_of w)).jobs k ≡ Some (seen (Some (frames.Waiting f))
    (raw_job w.files (core_at w.core k) j (superior_at w.jobs k) (alarm_at w.alarms.items k)))
plain_job w k j f job fr =
    let q : Whole = raw_job w.files (core_at w.core k) j (superior_at w.jobs k) (alarm_at w.alarms.items k) in
    plain_at (state_of w) k q (raw_is w k j job) ∙ ap (λ o. Some (seen o q)) (frame_is w k ∙ fr)

-- the channel that a call waits on is on a link that there can be, if it is on one
channel_seen : (q : Whole) (f : Waiting) (n : ℕ) → channel_at (seen (Some (frames.Waiting f)) q).channels n ≡ channel_at q.channels n
unfolding seen
channel_seen q f n = refl

link_fits : (w : World) (s : ℕ) (j : Job) (f : Waiting) (n : ℕ) → Forest (plain (state_of w)) → job_at w.jobs s ≡ Some j
    → frame_at w.frames.items s ≡ Some (frames.Waiting f)
    → LinkFits (channel_at (raw_job w.files (core_at w.core s) j (superior_at w.jobs s) (alarm_at w.alarms.items s)).channels n)
link_fits w s j f n forest job fr l write on =
    let q : Whole = raw_job w.files (core_at w.core s) j (superior_at w.jobs s) (alarm_at w.alarms.items s) in
    (link_stands (plain (state_of w)) s n l write (seen (Some (frames.Waiting f)) q) forest.links (plain_job w s j f job fr) (channel_seen q f n ∙ on)).0

-- the list to which a slot belongs whose call waits
pub waits_place : (w : World) (s : ℕ) (j : Job) (f : Waiting) (r : Wait) → Sound (state_of w) → Forest (plain (state_of w))
    → job_at w.jobs s ≡ Some j → frame_at w.frames.items s ≡ Some (frames.Waiting f)
    → decision (plain (state_of w)) s (seen (Some (frames.Waiting f))
    (raw_job w.files (core_at w.core s) j (superior_at w.jobs s) (alarm_at w.alarms.items s))) f.ask ≡ Waits r
    → IfSome j.console (λ c. c < 8) → (wait_list_of w s ≡ Some (list_for r)) × Within r
waits_place w s j f r sound forest job fr d housed =
    let q : Whole = raw_job w.files (core_at w.core s) j (superior_at w.jobs s) (alarm_at w.alarms.items s) in
    let k = sound_at (state_of w) s q (frames.Waiting f) sound (raw_is w s j job) (frame_is w s ∙ fr) in
    let b = blocked_so (plain (state_of w)) s (seen (Some (frames.Waiting f)) q) f.ask r k.pays.waitable d in
    let raw : reason_in q f.ask ≡ Some r = reason_seen q f ∙ b.reason in
    let is : wait_reason (Some j) f.ask ≡ Some r = reason_raw w s j f.ask ∙ raw in
    let fits : Within r =
    reason_fits (unwrap_or j.console 0) (channel_at q.channels (input f.ask 0)) (call_named f.ask.name) r (console_fits j.console housed)
    (link_fits w s j f (input f.ask 0) forest job fr) raw in
    let holds : held_up (doors_of w) s (input f.ask 0) r ≡ true = subst (λ (d : Doors). held_up d s (input f.ask 0) r ≡ true) (doors_plain w) b.holds in
    let there : is_within r ≡ true = is_within_so r fits in (
      place_waiting w s f (Some j) job fr ∙ ap (place_for (doors_of w) s (input f.ask 0)) is
          ∙ ap (λ t. if_within t (place_at r (held_up (doors_of w) s (input f.ask 0) r))) there ∙ ap (place_at r) holds,
      fits,
    )

-- in words of the plain machine
abbrev pub AllHoused : World → Type 0
AllHoused w = (k : ℕ) → IfSome ((plain (state_of w)).jobs k) (λ q. IfSome q.job.console (λ c. c < 8))

pub housed_at : (w : World) (k : ℕ) (j : Job) → AllHoused w → job_at w.jobs k ≡ Some j → IfSome j.console (λ c. c < 8)
housed_at w k j consoled job =
    raw_consoled (state_of w) k (raw_job w.files (core_at w.core k) j (superior_at w.jobs k) (alarm_at w.alarms.items k))
    (record { each = consoled }) (raw_is w k j job)

some_same : {X : Type 0} (o : Option X) (a b : X) → o ≡ Some a → o ≡ Some b → a ≡ b
some_same o a b e h = let q = sym e ∙ h in cc

-- a slot that is on the list of a reason waits for it
waits_of : (w : World) (k : ℕ) (r : Wait) → Sound (state_of w) → Within r → Placed w k (list_for r) → WaitsFor (state_of w) k r
waits_of w k r sound l x =
    let h = held_place x.reason (held_up (doors_of w) k (input x.frame.ask 0) x.reason) (list_for r) x.within x.at (list_within r l) in
    let same : x.reason ≡ r = list_same x.reason r x.within l h.1 in
    record {
      frame = x.frame;
      job = seen (Some (frames.Waiting x.frame)) (raw_job w.files (core_at w.core k) x.job (superior_at w.jobs k) (alarm_at w.alarms.items k));
      in_frame = frame_is w k ∙ x.in_frame;
      there = plain_job w k x.job x.frame x.in_job x.in_frame;
      waits = waits_decided w k x.job x.frame x.reason sound x.in_job x.in_frame x.can_wait h.0 ∙ ap Waits same;
    }

-- a slot that waits for a reason belongs in its list
waits_at : (w : World) (k : ℕ) (f : Waiting) (p : Whole) (r : Wait) (o : Option Job) → Sound (state_of w) → Forest (plain (state_of w))
    → AllHoused w → job_at w.jobs k ≡ o → frame_at w.frames.items k ≡ Some (frames.Waiting f)
    → (plain (state_of w)).jobs k ≡ Some p → decision (plain (state_of w)) k p f.ask ≡ Waits r → wait_list_of w k ≡ Some (list_for r)
waits_at w k f p r (Some j) sound forest consoled job fr there d =
    let same = some_same ((plain (state_of w)).jobs k) _ _ there (plain_job w k j f job fr) in
    (waits_place w k j f r sound forest job fr (ap (λ q. decision (plain (state_of w)) k q f.ask) (sym same) ∙ d) (housed_at w k j consoled job)).0
waits_at w k f p r None sound forest consoled job fr there d = let n = sym (plain_none (state_of w) k (raw_is_none w k job)) ∙ there in absurd cc

waits_placed : (w : World) (k : ℕ) (r : Wait) → Sound (state_of w) → Forest (plain (state_of w)) → AllHoused w → WaitsFor (state_of w) k r
    → wait_list_of w k ≡ Some (list_for r)
waits_placed w k r sound forest consoled x = waits_at w k x.frame x.job r (job_at w.jobs k) sound forest consoled refl
    (sym (frame_is w k) ∙ x.in_frame) x.there x.waits

-- a slot that is on an Awake list can go on
can_of : (w : World) (k : ℕ) (d : Device) → Sound (state_of w) → Forest (plain (state_of w)) → AllHoused w → IsPost d
    → wait_list_of w k ≡ Some (awake_head d) → Placed w k (awake_head d) → CanGoOn (state_of w) k d
can_of w k d sound forest consoled l e x =
    let q : Whole = raw_job w.files (core_at w.core k) x.job (superior_at w.jobs k) (alarm_at w.alarms.items k) in
    record {
      frame = x.frame;
      job = seen (Some (frames.Waiting x.frame)) q;
      in_frame = frame_is w k ∙ x.in_frame;
      there = plain_job w k x.job x.frame x.in_job x.in_frame;
      reason = x.reason;
      can_wait = sym (reason_seen q x.frame) ∙ sym (reason_raw w k x.job x.frame.ask) ∙ x.can_wait;
      here = awake_place x.reason (held_up (doors_of w) k (input x.frame.ask 0) x.reason) d x.within l x.at;
      ready = λ r h.
          let p = waits_place w k x.job x.frame r sound forest x.in_job x.in_frame h (housed_at w k x.job consoled x.in_job) in
          let same : list_for r ≡ awake_head d = some_same (wait_list_of w k) _ _ p.0 e in
          past d l (subst IsWaitList same (list_within r p.1));
    }

-- a slot that waits at a console or a link and can go on belongs in the Awake list there
can_at : (w : World) (k : ℕ) (d : Device) (x : CanGoOn (state_of w) k d) (o : Option Job) → Sound (state_of w) → IsPost d
    → job_at w.jobs k ≡ o → frame_at w.frames.items k ≡ Some (frames.Waiting x.frame)
    → wait_list_of w k ≡ Some (awake_head d)
can_at w k d x (Some j) sound l job fr =
    let q : Whole = raw_job w.files (core_at w.core k) j (superior_at w.jobs k) (alarm_at w.alarms.items k) in
    let f = x.frame in
    let n = input f.ask 0 in
    let r = x.reason in
    let a = awake_post r d x.here l in
    let same : x.job ≡ seen (Some (frames.Waiting f)) q = some_same ((plain (state_of w)).jobs k) _ _ x.there (plain_job w k j f job fr) in
    let is : wait_reason (Some j) f.ask ≡ Some r = reason_raw w k j f.ask ∙ reason_seen q f ∙ ap (λ p. reason_in p f.ask) (sym same) ∙ x.can_wait in
    let there : is_within r ≡ true = is_within_so r a.1 in
    let place = place_waiting w k f (Some j) job fr ∙ ap (place_for (doors_of w) k n) is
    ∙ ap (λ t. if_within t (place_at r (held_up (doors_of w) k n r))) there in
    elim (cases_Bool (held_up (doors_of w) k n r)) [
      | inl holds ↦ absurd (x.ready r (ap (λ p. decision (plain (state_of w)) k p f.ask) same ∙ waits_decided w k j f r sound job fr is holds))
      | inr free ↦ place ∙ ap (place_at r) free ∙ a.0
    ]
can_at w k d x None sound l job fr = let n = sym (plain_none (state_of w) k (raw_is_none w k job)) ∙ x.there in absurd cc

-- all lists
awake_holds : (w : World) (d : Device) → Sound (state_of w) → Forest (plain (state_of w)) → AllHoused w → OnLists w → IsPost d
    → HoldsJust (list_at w.wait_lists.lists (awake_head d)) (λ k. CanGoOn (state_of w) k d)
awake_holds w d sound forest consoled on_lists l = record {
  once = λ k. stands_once w.wait_lists.lists k (awake_head d) (wait_list_of w k) (on_lists.each k);
  just = λ k. (
    (λ here.
        let e = stands_there w.wait_lists.lists k (awake_head d) (wait_list_of w k) (on_lists.each k) here in
        can_of w k d sound forest consoled l e (placed w k (awake_head d) sound e)),
    (λ x. stands_here w.wait_lists.lists k (awake_head d) (wait_list_of w k) (on_lists.each k)
        (can_at w k d x (job_at w.jobs k) sound l refl (sym (frame_is w k) ∙ x.in_frame))),
  );
}

pub lists_hold : (w : World) → Sound (state_of w) → Forest (plain (state_of w)) → AllHoused w → OnLists w → WaitListsHold w
lists_hold w sound forest consoled on_lists = record {
  wait_lists = λ r l. record {
    once = λ k. stands_once w.wait_lists.lists k (list_for r) (wait_list_of w k) (on_lists.each k);
    just = λ k. (
      (λ here. waits_of w k r sound l (placed w k (list_for r) sound
          (stands_there w.wait_lists.lists k (list_for r) (wait_list_of w k) (on_lists.each k) here))),
      (λ x. stands_here w.wait_lists.lists k (list_for r) (wait_list_of w k) (on_lists.each k) (waits_placed w k r sound forest consoled x)),
    );
  };
  at_consoles = λ c l. awake_holds w (AtConsole c) sound forest consoled on_lists l;
  at_links = λ n l. awake_holds w (AtLink n) sound forest consoled on_lists l;
  one = λ k g h here there. some_same (wait_list_of w k) _ _ (stands_there w.wait_lists.lists k g (wait_list_of w k) (on_lists.each k) here)
      (stands_there w.wait_lists.lists k h (wait_list_of w k) (on_lists.each k) there);
}

-- a world of which all the rest holds is kept
pub kept_is : (w : World) → Sound (state_of w) → Forest (plain (state_of w)) → Tidy w
    → ((k : ℕ) → IfSome ((plain (state_of w)).jobs k) (λ q. q.job.pc < 2 ^ 18)) → AllHoused w
    → (plain (state_of w)).clock < clock_end → Alarmed (plain (state_of w)) → Kept w
kept_is w sound forest tidy addressed consoled timed alarmed = record {
  sound = sound;
  forest = forest;
  tidy = tidy;
  addressed = addressed;
  consoled = consoled;
  timed = timed;
  alarmed = alarmed;
  wait_lists = lists_hold w sound forest consoled tidy.on_lists;
}
