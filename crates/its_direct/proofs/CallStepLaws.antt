-- The whole step of a slot's job: what its call sees, its result, whom it touches, and what it
-- leaves.
use Rattle.std.specs.Prelude.{◌≡◌, ◌≢◌, ◌<◌, ◌≤◌, ◌==◌, ◌^◌, ◌&&◌, ◌||◌, if◌then◌else◌, ℕ, ◌+◌, Bool, true, false, not, Option, Some, None, IfSome, is_some, option_map, List, [], ◌∷◌, ◌++◌, length, slice_index_or, slice_set, Result, Ok, Err, refl}
use Rattle.std.specs.List.{range_with_len}
use Rattle.std.proofs.Common.{sym, ap, ◌∙◌, subst, arith, inl, inr}
use Rattle.std.proofs.lemmas.Bool.{cases_eq, cases_lt, eq-eqb, false≢true, ne_eqb}
use Rattle.std.proofs.lemmas.List.{get_or-set_same, get_or-set_other, get_or_past, length-set}
use Rattle.std.proofs.lemmas.List.Folds.{list_any-append}
use Rattle.std.proofs.lemmas.Option.{IfSome_then, same_Some}
use Rattle.its_word.specs.Limits.{slots, limit_of}
use Rattle.its_records.specs.Tree.{is_below, slots_below}
use Rattle.its_word.specs.declared.access.Fault.{Fault}
use Rattle.its_records.specs.declared.calls.Ask.{Ask}
use Rattle.its_records.specs.declared.calls.Site.{Site}
use Rattle.its_records.specs.declared.jobs.Channel.{Channel}
use Rattle.its_records.specs.declared.jobs.Channel.TheVariants as channels
use Rattle.its_records.specs.declared.jobs.Job.{Job}
use Rattle.its_records.proofs.TreeLaws.{below_none}
use Rattle.its_core.specs.Cores.{Cores, core_at}
use Rattle.its_files.specs.Files.{Store}
use Rattle.its_jobs.specs.Table.{IsTree, Table, job_at, superior_at}
use Rattle.its_frame.specs.declared.decision.Decision.{Decision}
use Rattle.its_frame.specs.declared.decision.Decision.TheVariants.{Waits, Goes, Ends, Gone}
use Rattle.its_frame.specs.declared.name.CallName.{CallName}
use Rattle.its_frame.specs.declared.name.CallName.TheVariants.{Logout, Uclose}
use Rattle.its_plain.specs.Call.Arguments.{input}
use Rattle.its_plain.specs.Call.Decode.{ask}
use Rattle.its_plain.specs.Call.Basic.{channel_at as chan_at, is_oneself}
use Rattle.its_plain.specs.Call.Step.{Transition, acted, quiet_step, by_ask, decision, with_fault, step, transition, is_made}
use Rattle.its_plain.specs.Machine.Change.{channel_in, in_job, superiors, superior_in}
use Rattle.its_plain.specs.Call.Decide.{argument_of, call_named, inferior_on, listed, reach, reach_by, target, target_by, with_below}
use Rattle.its_plain.specs.Call.Footprint.{SiteFits, among}
use Rattle.its_plain.specs.Machine.Registers.{bit_of, with_pending}
use Rattle.its_plain.specs.Machine.{Chan, On, Machine, Whole}
use Rattle.its_plain.specs.Transcript.Turns.{is_running}
use Rattle.its_plain.proofs.StepLaws.{AllOf, step_by}
use Rattle.its_plain.proofs.FitsLaws.{site_fits}
use Rattle.its_shared.specs.Across.{Across, channel_at, channel_by}
use Rattle.its_shared.specs.Parts.{alarm_at, bare, chan_of, chans_of, raw_machine, raw_of}
use Rattle.its_stepped.specs.Forest.{Forest, OnInferior}
use Rattle.its_stepped.proofs.Keeping.AlarmLaws.{step_alarmed}
use Rattle.its_stepped.proofs.Keeping.ConsoledLaws.{step_consoled}
use Rattle.its_stepped.proofs.Duties.FitLaws.{forest_steps}
use Rattle.its_stepped.proofs.Keeping.ForestLaws.{channel_of, forest_few, inferior_stands, job_few}
use Rattle.its_stepped.proofs.Unwinding.UnwindLaws.{filtered_out}
use Rattle.its_decide.specs.Fits.{SeenFits, OnJob}
use Rattle.its_decide.specs.Reach.{slots_of}
use Rattle.its_decide.specs.Seen.{machine_seen, raw_with}
use Rattle.its_decide.specs.declared.reach.Disturbed.{Disturbed}
use Rattle.its_decide.specs.declared.caller.Seen.{Seen}
use Rattle.its_direct.specs.Events.{Kept, SpotFits}
use Rattle.its_direct.specs.Plain.{machine_of, is_touched, no_slots, Tidy, JobBecomes}
use Rattle.its_direct.specs.Ready.{CanCarryOut}
use Rattle.its_direct.specs.Steps.{Acts, CallsAt, Lent, LosesOnly, Makes, SteppedBy, Steps, makes_job, marked_by, own_of}
use Rattle.its_direct.specs.declared.plain.Plain.{Plain}
use Rattle.its_direct.specs.declared.plain.Spot.TheVariants as spots
use Rattle.its_direct.proofs.MadeLaws.{unmade_by}
use Rattle.its_direct.proofs.ReadyLaws.{plain_ready}
use Rattle.its_direct.proofs.SlotLaws.{placed_at, slot_machine, slot_tidy, touched_machine, touched_tidy}
use Rattle.its_direct.proofs.StepKeepsLaws.{step_loses}
use Rattle.its_direct.proofs.TouchLaws.{none_touched, or_false, slot_some, step_touched}
use Rattle.its_direct.proofs.UserLaws.{nobody_is, own_is}
use Rattle.its_direct.proofs.ContentsLaws.{place_as}

-- whether a job runs
pub running : (p : Plain) (s : ℕ) (o : Option Job) (j : Job) → o ≡ job_at p.jobs s → o ≡ Some j → is_running ((machine_of p).jobs s) ≡ not j.stopped
running p s o j is some = ap is_running (own_is p s j (sym is ∙ some))

pub idle : (p : Plain) (s : ℕ) (o : Option Job) → o ≡ job_at p.jobs s → o ≡ None → is_running ((machine_of p).jobs s) ≡ false
idle p s o is none = ap is_running (nobody_is p s (sym is ∙ none))

-- a machine whose parts are lent
pub lent_machine : (p : Plain) (s : Seen) → Lent p s → machine_seen s ≡ machine_of p
unfolding machine_of
lent_machine p s h = λ t. raw_machine (h.files t) (h.core t) (h.jobs t) (h.alarms t).items (h.consoles t).items (h.holders t) (h.clock t)
    (h.version t) (h.symbols t).items (h.pipes t)

pub lent_own : (p : Plain) (s : Seen) (k : ℕ) (j : Job) → Lent p s → raw_with s k j ≡ own_of p k j
lent_own p s k j h = λ t. record {
  core = core_at (h.core t) k;
  job = bare j;
  superior = superior_at (h.jobs t) k;
  channels = chans_of (h.files t) j;
  alarm = alarm_at (h.alarms t).items k;
}

-- a slot has a job in the machine if it has one in the table
pub job_there : (p : Plain) (k : ℕ) → is_some ((machine_of p).jobs k) ≡ is_some (job_at p.jobs k)
unfolding machine_of
job_there p k = go (job_at p.jobs k)
  where
    go : (o : Option Job) → is_some (raw_of p.files (core_at p.core k) (superior_at p.jobs k) (alarm_at p.alarms.items k) o) ≡ is_some o
    go (Some j) = refl
    go None = refl

none_there : (p : Plain) (k : ℕ) → (machine_of p).jobs k ≡ None → job_at p.jobs k ≡ None
none_there p k h = go (job_at p.jobs k) (sym (job_there p k) ∙ ap is_some h)
  where
    go : (o : Option Job) → is_some o ≡ false → o ≡ None
    go (Some j) e = cc
    go None e = refl

-- each channel on a job is on one that exists
on_job : (p : Plain) (k : ℕ) (c : Channel) → OnInferior (machine_of p) k (chan_of p.files c) → OnJob p.jobs c
on_job p k (channels.Usr s w at) h = sym (job_there p s) ∙ inferior_stands (machine_of p) s k h
on_job p k _ h = tt

aimed : (p : Plain) → Forest (machine_of p) → (k n : ℕ) → OnJob p.jobs (channel_at p.jobs k n)
unfolding machine_of
aimed p d k n = go (job_at p.jobs k) (d.channels k n)
  where
    go : (o : Option Job) → OnInferior (machine_of p) k (channel_in
        (raw_of p.files (core_at p.core k) (superior_at p.jobs k) (alarm_at p.alarms.items k) o) n) → OnJob p.jobs (channel_by o n)
    go (Some j) h = on_job p k (slice_index_or j.channels n channels.Closed) h
    go None h = tt

-- so its parts fit each other
pub lent_fits : (p : Plain) (s : Seen) → Lent p s → Tidy p → Forest (machine_of p) → SeenFits s
lent_fits p s h tidy forest = record {
  across = subst (λ (x : Store). Across x s.jobs.now) (sym h.files) (subst (λ (t : Table). Across p.files t) (sym h.jobs) tidy.across);
  unmarked = ap (λ (x : Store). x.mark) h.files ∙ tidy.unmarked;
  aimed = λ k n. subst (λ (t : Table). OnJob t (channel_at t k n)) (sym h.jobs) (aimed p forest k n);
  few = λ k past. ap (λ (t : Table). job_at t k) h.jobs ∙ none_there p k (forest_few (machine_of p) forest k past);
  blank = λ k none. ap (λ (c : Cores). core_at c k) h.core ∙ tidy.blank k (sym (ap (λ (t : Table). job_at t k) h.jobs) ∙ none);
  limited = ap (λ (t : Table). t.limit) h.jobs ∙ p.limited ∙ ap limit_of (sym h.version);
}

pub decision_seen : (p : Plain) (s : Seen) (k : ℕ) (j : Job) (a : Ask) → Lent p s
    → decision (machine_seen s) k (raw_with s k j) a ≡ decision (machine_of p) k (own_of p k j) a
decision_seen p s k j a h = λ t. decision (lent_machine p s h t) k (lent_own p s k j h t) a

slots_seen : (p : Plain) (s : Seen) (k : ℕ) (w : Disturbed) → Lent p s
    → slots_of w (machine_seen s) k (superior_at s.jobs.now k) ≡ slots_of w (machine_of p) k (superior_at p.jobs k)
slots_seen p s k w h = λ t. slots_of w (lent_machine p s h t) k (superior_at (h.jobs t) k)

pub reach_seen : (p : Plain) (s : Seen) (k : ℕ) (j : Job) (a : Ask) (w : Disturbed) → Lent p s
    → slots_of w (machine_seen s) k (superior_at s.jobs.now k) ≡ reach (machine_seen s) k (raw_with s k j) a
    → slots_of w (machine_of p) k (superior_at p.jobs k) ≡ reach (machine_of p) k (own_of p k j) a
reach_seen p s k j a w h e = sym (slots_seen p s k w h) ∙ e ∙ (λ t. reach (lent_machine p s h t) k (lent_own p s k j h t) a)

pub marks_seen : (p : Plain) (s : Seen) (k i : ℕ) (w : Disturbed) → Lent p s
    → among i (slots_of w (machine_seen s) k (superior_at s.jobs.now k)) ≡ among i (slots_of w (machine_of p) k (superior_at p.jobs k))
marks_seen p s k i w h = ap (λ (ks : List ℕ). among i ks) (slots_seen p s k w h)

-- a call reaches no slot past those that there are
listed_few : (k : ℕ) (o : Option ℕ) → IfSome o (λ s. s < slots) → slots ≤ k → among k (listed o) ≡ false
listed_few k (Some s) l past = rw (ne_eqb s k (λ e. omega arith)) refl
listed_few k None l past = refl

standing_few : (m : Machine) → Forest m → (o : Option ℕ) → IfSome o (λ s. is_some (m.jobs s) ≡ true) → IfSome o (λ s. s < slots)
standing_few m d o h = IfSome_then o h (λ s x. job_few m d s x)

inferior_few : (m : Machine) (j : ℕ) (c : Chan) → Forest m → OnInferior m j c → IfSome (inferior_on c) (λ s. s < slots)
inferior_few m j (On s w at) d h = job_few m d s (inferior_stands m s j h)
inferior_few m j _ d h = tt

unless_few : (b : Bool) (o : Option ℕ) → IfSome o (λ s. s < slots) → IfSome (if b then None else o) (λ s. s < slots)
unless_few true o h = tt
unless_few false o h = h

if_few : (b : Bool) (o : Option ℕ) → IfSome o (λ s. s < slots) → IfSome (if b then o else None) (λ s. s < slots)
if_few true o h = h
if_few false o h = tt

target_few : (m : Machine) (j : ℕ) (q : Whole) (a : Ask) → Forest m → m.jobs j ≡ Some q → IfSome (target q a) (λ s. s < slots)
unfolding target
target_few m j q a d is = if_few (a.fail == 0) (target_by q a (argument_of (call_named a.name))) (go (argument_of (call_named a.name)))
  where
    go : (o : Option ℕ) → IfSome (target_by q a o) (λ s. s < slots)
    go (Some i) = unless_few (is_oneself (input a i)) (inferior_on (chan_at q.channels (input a i)))
        (inferior_few m j (chan_at q.channels (input a i)) d (channel_of m j q (input a i) d is))
    go None = tt

below_few : (m : Machine) (s k : ℕ) → Forest m → slots ≤ k → among k (slots_below (superiors m) s) ≡ false
unfolding slots_below
below_few m s k d past = filtered_out (is_below (superiors m) s) k (range_with_len 0 slots)
    (below_none (superiors m) s k (ap superior_in (forest_few m d k past)))

both_few : (k : ℕ) (xs ys : List ℕ) → among k xs ≡ false → among k ys ≡ false → among k (xs ++ ys) ≡ false
both_few k xs ys x y = list_any-append (λ q. q == k) xs ys ∙ rw (x, y) refl

with_few : (m : Machine) (k : ℕ) (o : Option ℕ) → Forest m → IfSome o (λ s. s < slots) → slots ≤ k → among k (with_below m o) ≡ false
with_few m k (Some s) d l past = both_few k (slots_below (superiors m) s) (s ∷ []) (below_few m s k d past) (listed_few k (Some s) l past)
with_few m k None d l past = refl

reach_few : (m : Machine) (j : ℕ) (q : Whole) (a : Ask) (k : ℕ) → Forest m → m.jobs j ≡ Some q → slots ≤ k → among k (reach m j q a) ≡ false
unfolding reach
reach_few m j q a k d is past = by_fail (a.fail == 0)
  where
    superior : IfSome q.superior (λ s. s < slots)
    superior = standing_few m d q.superior (subst (λ (o : Option Whole). IfSome (superior_in o) (λ s. is_some (m.jobs s) ≡ true)) is (d.standing j))

    targeted : among k (listed (target q a)) ≡ false
    targeted = listed_few k (target q a) (target_few m j q a d is) past

    by_name : (o : Option CallName) → among k (reach_by m j q a o) ≡ false
    by_name (Some Logout) = both_few k (slots_below (superiors m) j) (listed q.superior) (below_few m j k d past) (listed_few k q.superior superior past)
    by_name (Some Uclose) = with_few m k (target q a) d (target_few m j q a d is) past
    by_name None = targeted
    by_name (Some n) = targeted

    by_fail : (b : Bool) → among k (if b then reach_by m j q a (call_named a.name) else []) ≡ false
    by_fail true = by_name (call_named a.name)
    by_fail false = refl

pub own_few : (p : Plain) (s : ℕ) (j : Job) (a : Ask) (k : ℕ) → Kept p → job_at p.jobs s ≡ Some j → slots ≤ k
    → among k (reach (machine_of p) s (own_of p s j) a) ≡ false
own_few p s j a k kept had past = reach_few (machine_of p) s (own_of p s j) a k kept.forest (own_is p s j had) past

-- so the one that it reaches alone is one of them
pub target_within : (o : Option ℕ) → ((k : ℕ) → slots ≤ k → among k (listed o) ≡ false) → IfSome o (λ s. s < slots)
target_within None h = tt
target_within (Some s) h = elim (cases_lt s slots) [
  | inl below ↦ below
  | inr above ↦ absurd (false≢true (sym (h s above) ∙ rw (eq-eqb s s refl) refl))
]

pub within_reach : (p : Plain) (s : ℕ) (j : Job) (a : Ask) (ks : List ℕ) → Kept p → job_at p.jobs s ≡ Some j
    → ks ≡ reach (machine_of p) s (own_of p s j) a → (k : ℕ) → slots ≤ k → among k ks ≡ false
within_reach p s j a ks kept had e k past = ap (λ (xs : List ℕ). among k xs) e ∙ own_few p s j a k kept had past

-- a list that says of each slot below n what a test says
pub record Marked (test : ℕ → Bool) (n : ℕ) (bs : List Bool) : Type 0 where
  pub count : length bs ≡ slots
  pub each : (k : ℕ) → k < n → slice_index_or bs k false ≡ test k

pub marks_start : (test : ℕ → Bool) (bs : List Bool) → length bs ≡ slots → Marked test 0 bs
marks_start test bs e = record { count = e; each = λ k below. absurd (omega arith) }

pub marks_next : (test : ℕ → Bool) (n : ℕ) (xs ys : List Bool) (b : Bool) → n < slots → Marked test n xs → ys ≡ slice_set xs n b
    → b ≡ test n → Marked test (n + 1) ys
marks_next test n xs ys b below m e here = record {
  count = ap length e ∙ length-set xs n b ∙ m.count;
  each = λ k under.
      ap (λ l. slice_index_or l k false) e
      ∙ elim (cases_eq k n) [
        | inl same ↦ ap (λ i. slice_index_or (slice_set xs n b) i false) same ∙ get_or-set_same xs n b false (omega (arith, m.count)) ∙ here
            ∙ ap test (sym same)
        | inr other ↦ get_or-set_other xs n k b false other ∙ m.each k (omega arith)
      ];
}

pub marks_end : (test : ℕ → Bool) (n : ℕ) (bs : List Bool) → Marked test n bs → slots ≤ n → ((k : ℕ) → slots ≤ k → test k ≡ false) → (k : ℕ)
    → slice_index_or bs k false ≡ test k
marks_end test n bs m all past k = elim (cases_lt k slots) [
  | inl below ↦ m.each k (omega arith)
  | inr above ↦ get_or_past bs k false (omega (arith, m.count)) ∙ sym (past k above)
]

pub table_few : (t : Table) (k : ℕ) → IsTree t.jobs t.superiors → slots ≤ k → is_some (job_at t k) ≡ false
table_few t k tree past = ap is_some (get_or_past t.jobs k None (omega (arith, tree.job_count)))

-- a decision that is carried out, and whom it touches
acted_reaches : (m : Machine) (j : ℕ) (a : Ask) (ks : List ℕ) (d : Decision)
    → acted m j a ks d ≡ option_map (λ (t : Transition). record t { disturbs = ks }) (acted m j a [] d)
unfolding acted
acted_reaches m j a ks (Waits r) = refl
acted_reaches m j a ks (Goes cs h vs) = refl
acted_reaches m j a ks (Ends cs ss e) = refl
acted_reaches m j a ks (Gone cs) = refl

pub act_waits : (old mid : Plain) (s : ℕ) (a : Ask) (ks : List ℕ) (d : Decision) (b : Bool) → Acts b (acted (machine_of old) s a [] d) old mid → b ≡ false
    → Makes false (acted (machine_of old) s a ks d) old mid
act_waits old mid s a ks d b h e = subst (λ (o : Option Transition). Makes false o old mid) (sym (acted_reaches (machine_of old) s a ks d))
    (go (acted (machine_of old) s a [] d) (subst (λ (x : Bool). Acts x (acted (machine_of old) s a [] d) old mid) e h))
  where
    go : (o : Option Transition) → Acts false o old mid → Makes false (option_map (λ (t : Transition). record t { disturbs = ks }) o) old mid
    go None h = (refl, h)
    go (Some t) h = absurd h

module _ (old mid new : Plain) (s : ℕ) (a : Ask) (ks : List ℕ) (d : Decision) (disturbed stood : List Bool) (b : Bool)
    (reached : (k : ℕ) → slice_index_or disturbed k false ≡ among k ks)
    (before : (k : ℕ) → slice_index_or stood k false ≡ is_some (job_at old.jobs k)) (same : new ≡ record mid { touched = new.touched })
    (touched : (k : ℕ) → is_touched new k ≡ marked_by disturbed stood mid k) where
  now_there : (t : Transition) → machine_of mid ≡ t.machine → (k : ℕ) → is_some (job_at mid.jobs k) ≡ is_some (t.machine.jobs k)
  now_there t e k = sym (job_there mid k) ∙ ap (λ (m : Machine). is_some (m.jobs k)) e

  marked : (t : Transition) → machine_of mid ≡ t.machine → (k : ℕ) → is_touched new k ≡ (among k ks || is_made (machine_of old) t.machine k)
  marked t e k = touched k ∙ (λ i. reached k i || (not ((before k ∙ sym (job_there old k)) i) && now_there t e k i))

  pub act_steps : Acts b (acted (machine_of old) s a [] d) old mid → b ≡ true → Makes true (acted (machine_of old) s a ks d) old new
  act_steps h e = subst (λ (o : Option Transition). Makes true o old new) (sym (acted_reaches (machine_of old) s a ks d))
      (go (acted (machine_of old) s a [] d) (subst (λ (x : Bool). Acts x (acted (machine_of old) s a [] d) old mid) e h))
    where
      go : (o : Option Transition) → Acts true o old mid → Makes true (option_map (λ (t : Transition). record t { disturbs = ks }) o) old new
      go None h = absurd h
      go (Some t) h = record {
        transition = record t { disturbs = ks };
        is = refl;
        steps = record {
          machine = touched_machine mid new new.touched same ∙ h.machine;
          touched = marked t h.machine;
          place = ap (λ (p : Plain). p.place) same ∙ h.place;
        };
      }

-- a decision that makes no job is carried out, and whom it touches is marked
pub act_alone : (old mid new : Plain) (s : ℕ) (a : Ask) (ks : List ℕ) (d : Decision) (b : Bool) → makes_job d ≡ false
    → new ≡ record mid { touched = new.touched }
    → ((k : ℕ) → is_touched new k ≡ among k ks) → Acts b (acted (machine_of old) s a [] d) old mid → b ≡ true
    → Makes true (acted (machine_of old) s a ks d) old new
act_alone old mid new s a ks d b none same touched h e = subst (λ (o : Option Transition). Makes true o old new)
    (sym (acted_reaches (machine_of old) s a ks d))
    (go (acted (machine_of old) s a [] d) (λ k. unmade_by (machine_of old) s a [] d k none)
    (subst (λ (x : Bool). Acts x (acted (machine_of old) s a [] d) old mid) e h))
  where
    go : (o : Option Transition) → ((k : ℕ) → AllOf (λ t. is_made (machine_of old) t.machine k ≡ false) o) → Acts true o old mid
        → Makes true (option_map (λ (t : Transition). record t { disturbs = ks }) o) old new
    go None u h = absurd h
    go (Some t) u h = record {
      transition = record t { disturbs = ks };
      is = refl;
      steps = record {
        machine = touched_machine mid new new.touched same ∙ h.machine;
        touched = λ k. touched k ∙ or_false (among k ks) (is_made (machine_of old) t.machine k) (u k);
        place = ap (λ (p : Plain). p.place) same ∙ h.place;
      };
    }

-- what is decided and whom it disturbs, as the definitions say it
pub act_is : (old new : Plain) (s : ℕ) (j : Job) (a : Ask) (ks : List ℕ) (d : Decision) (b : Bool)
    → ks ≡ reach (machine_of old) s (own_of old s j) a → d ≡ decision (machine_of old) s (own_of old s j) a
    → Makes b (acted (machine_of old) s a ks d) old new → Makes b (by_ask (machine_of old) s (own_of old s j) (Ok a)) old new
act_is old new s j a ks d b reached decided h = subst (λ (o : Option Transition). Makes b o old new)
    (λ t. acted (machine_of old) s a (reached t) (decided t)) h

-- the decoding of a call faults
module _ (old put new : Plain) (s : ℕ) (i k : Job) (f : Fault) (had : job_at old.jobs s ≡ Some i) (is : k ≡ with_pending i (bit_of f))
    (b : JobBecomes old put s k)
    (e : new ≡ record put { touched = no_slots }) where
  pub fault_row : Steps old new (quiet_step (in_job (machine_of old) s (with_fault f)))
  fault_row = record {
    machine = touched_machine put new no_slots e
        ∙ slot_machine old put s (core_at old.core s) i k (with_fault f) b had (ap (own_of old s) (sym is));
    touched = step_touched new.touched (machine_of old) (in_job (machine_of old) s (with_fault f)) []
        (none_touched new.touched (ap (λ (p : Plain). p.touched) e)) (slot_some (machine_of old).jobs s (with_fault f));
    place = ap (λ (p : Plain). p.place) e ∙ place_as b.aside.is;
  }

  pub fault_tidy : Tidy old → Tidy new
  fault_tidy tidy = touched_tidy put new no_slots e (slot_tidy old put s (core_at old.core s) i k b had (ap (λ (j : Job). j.channels) is)
      (subst (λ (j : Job). j.pc < 2 ^ 18) (sym is) (placed_at old s (job_at old.jobs s) i refl had tidy)) tidy)

-- a call at a site
module _ (p : Plain) (s : ℕ) (x : Site) (o : Option Transition) (c : CallsAt (machine_of p) s x o) where
  pub calls_own : (i : Job) → job_at p.jobs s ≡ Some i → c.own ≡ own_of p s i
  calls_own i had = same_Some c.own (own_of p s i) (sym c.had ∙ own_is p s i had)

  pub calls_some : (h : Option Job) → h ≡ job_at p.jobs s → h ≢ None
  calls_some h is none = let wrong : None ≡ Some c.own = sym (nobody_is p s (sym is ∙ none)) ∙ c.had in cc

  pub calls_fits : (i : Job) → job_at p.jobs s ≡ Some i → Tidy p → SiteFits x
  calls_fits i had tidy = site_fits c.own.core c.own.job x (subst (λ (q : Whole). q.job.pc < 2 ^ 18) (sym (calls_own i had))
      (subst (λ (h : Option Job). IfSome h (λ j. j.pc < 2 ^ 18)) had (tidy.addressed s))) c.unit

  asks : (i : Job) (r : Result Ask Fault) → job_at p.jobs s ≡ Some i → r ≡ ask (core_at p.core s) x → ask c.own.core x ≡ r
  asks i r had e = ap (λ (q : Whole). ask q.core x) (calls_own i had) ∙ sym e

  pub calls_ready : (i : Job) (a : Ask) (r : Result Ask Fault) → job_at p.jobs s ≡ Some i → r ≡ ask (core_at p.core s) x → r ≡ Ok a → Kept p
      → CanCarryOut (machine_of p) s a (decision (machine_of p) s (own_of p s i) a)
  calls_ready i a r had e is kept = subst (λ (q : Whole). CanCarryOut (machine_of p) s a (decision (machine_of p) s q a)) (calls_own i had)
      (plain_ready p s x a o kept.tidy kept.forest kept.consoled c (asks i r had e ∙ is))

  pub calls_act : (new : Plain) (i : Job) (a : Ask) (r : Result Ask Fault) (b : Bool) → job_at p.jobs s ≡ Some i → r ≡ ask (core_at p.core s) x → r ≡ Ok a
      → Makes b (acted (machine_of p) s a (reach (machine_of p) s (own_of p s i) a) (decision (machine_of p) s (own_of p s i) a)) p new → Makes b o p new
  calls_act new i a r b had e is h = subst (λ (y : Option Transition). Makes b y p new)
      (sym (c.is ∙ (λ t. by_ask (machine_of p) s (calls_own i had t) ((asks i r had e ∙ is) t)))) h

  pub calls_fault : (new : Plain) (i : Job) (f : Fault) (r : Result Ask Fault) → job_at p.jobs s ≡ Some i → r ≡ ask (core_at p.core s) x → r ≡ Err f
      → Steps p new (quiet_step (in_job (machine_of p) s (with_fault f))) → Makes true o p new
  calls_fault new i f r had e is h = record {
    transition = quiet_step (in_job (machine_of p) s (with_fault f));
    is = c.is ∙ ap (by_ask (machine_of p) s c.own) (asks i r had e ∙ is);
    steps = h;
  }

-- what a step keeps
kept_by : (old new : Plain) (s : ℕ) → old.place ≡ spots.Plain → Kept old → SteppedBy old new (transition (machine_of old) s) → Tidy new → Kept new
kept_by old new s outside kept h tidy = record {
  tidy = tidy;
  forest = forest_steps (machine_of old) (machine_of new) s kept.forest stepped;
  alarmed = step_alarmed (machine_of old) (machine_of new) s kept.forest kept.alarmed stepped;
  consoled = step_consoled (machine_of old) (machine_of new) s kept.consoled stepped;
  placed = subst (SpotFits (machine_of new)) (sym (h.steps.place ∙ outside)) tt;
}
  where
    stepped : step (machine_of old) s ≡ Some (machine_of new)
    stepped = step_by (machine_of old) s (Some h.transition) h.is ∙ ap Some (sym h.steps.machine)

pub kept_after : (old new : Plain) (s : ℕ) (b : Bool) → old.place ≡ spots.Plain → Kept old → Makes b (transition (machine_of old) s) old new
    → Tidy new → Kept new
kept_after old new s true outside kept h tidy = kept_by old new s outside kept h tidy
kept_after old new s false outside kept h tidy = subst Kept (sym h.1) kept

pub place_stays : (old new : Plain) (o : Option Transition) (b : Bool) → Makes b o old new → new.place ≡ old.place
place_stays old new o true h = h.steps.place
place_stays old new o false h = ap (λ (p : Plain). p.place) h.1

-- and who loses a job by it
loses_by : (old new : Plain) (s : ℕ) → Forest (machine_of old) → SteppedBy old new (transition (machine_of old) s) → LosesOnly old new s
loses_by old new s forest h k none = elim (step_loses (machine_of old) s h.transition forest h.is k
    (ap (λ (m : Machine). m.jobs k) (sym h.steps.machine) ∙ none)) [
      | inl was ↦ inl was
      | inr other ↦ elim other [
        | inl own ↦ inr (inl own)
        | inr reached ↦ inr (inr (h.steps.touched k ∙ rw reached refl))
      ]
    ]

pub loses_only : (old new : Plain) (s : ℕ) (b : Bool) → Kept old → Makes b (transition (machine_of old) s) old new → LosesOnly old new s
loses_only old new s true kept h = loses_by old new s kept.forest h
loses_only old new s false kept h = λ k none. inl (ap (λ (p : Plain). (machine_of p).jobs k) (sym h.1) ∙ none)
