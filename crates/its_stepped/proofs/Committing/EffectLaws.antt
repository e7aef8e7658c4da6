-- The changes of calls on the stepped machine: under the plain view they are those of the plain
-- machine.
use Rattle.std.specs.Prelude.{if◌then◌else◌, ◌≡◌, ◌≢◌, ℕ, cond, Bool, true, false, Option, Some, None, List, [], ◌∷◌, ◌++◌, option_map, is_some, refl}
use Rattle.std.proofs.Common.{sym, ◌∙◌, ap, subst, inl, inr}
use Rattle.std.proofs.lemmas.Bool.{cases_eq}
use Rattle.its_word.specs.Core.{no_core, zero_page}
use Rattle.its_word.specs.Directory.{kept_file, changed_if, with_changed}
use Rattle.its_records.specs.Tree.{fresh_job}
use Rattle.its_records.specs.declared.calls.Exit.{Exit}
use Rattle.its_records.specs.declared.calls.Owed.{Owed}
use Rattle.its_records.specs.declared.calls.Owed.TheVariants as owed
use Rattle.its_word.specs.declared.plan.Store.{Store}
use Rattle.its_frame.specs.declared.change.Change.{Change}
use Rattle.its_frame.specs.declared.change.Change.TheVariants as changes
use Rattle.its_frame.specs.declared.frame.Frame.{Frame}
use Rattle.its_frame.specs.declared.frame.Frame.TheVariants.{Holding, Waiting, Moving, Ending}
use Rattle.its_plain.specs.Machine.{Names, File, Pipe, Chan, Shut, Writes, Linked, Whole, Machine, whole, changed}
use Rattle.its_plain.specs.Machine.Own.{with_stores, after_leave, with_registers, names_of, opened_on, at_position, with_word, on_channel, with_variable}
use Rattle.its_plain.specs.Machine.Change.{on_slot, in_job, same_names, without_file, with_file, with_new_names, channel_in, files_after_close, superior_in, superiors, is_gone, after_shut, job_after_removal, after_removal, console_in, inferior, with_page_at, with_protection, poke, with_inf, with_alarm, after_end_close, with_sent, with_received, on_link, effect, effects}
use Rattle.its_plain.specs.Call.Arguments.{input, debts}
use Rattle.its_plain.specs.Call.Step.{deposited}
use Rattle.its_plain.proofs.MachineLaws.{machine_is, jobs_are}
use Rattle.its_plain.specs.Call.File.{file_named, has_file}
use Rattle.its_stepped.specs.State.{State, after_help, parts_of, after_parts, mark_of_close, held_at, after_owed, seen, seen_jobs, plain}
use Rattle.its_stepped.specs.Commit.{effect_on, effects_on}
use Rattle.its_stepped.specs.Sound.{Stuck, StuckBy, Pays, Standing, SoundFrame, SoundSlot}
use Rattle.its_stepped.specs.Quiet.{IsStill, Reached, MakesPage, Quiet, AllQuiet}
use Rattle.its_stepped.proofs.Ticking.WaitLaws.{stuck_shut}
use Rattle.its_stepped.proofs.Frame.FrameLaws.{stores_none, seen_superior, seen_channels, seen_names, changed_only, on_slot_here, on_slot_other, jobs_is}
use Rattle.its_stepped.proofs.Frame.DebtLaws.{debts_none}
use Rattle.its_stepped.proofs.Keeping.JoinedLaws.{opened_link}

-- a change of a job that looks at no core and no registers, and leaves them, is the same before and
-- after the pending steps of a frame
module _ (h : Whole → Whole) (core : (q : Whole) → (h q).core ≡ q.core) (stores : (ss : List Store) (q : Whole) → with_stores ss (h q) ≡ h (with_stores ss q))
    (leaves : (e : Exit) (q : Whole) → after_leave e (h q) ≡ h (after_leave e q)) where
  owed_moves : (os : List Owed) (q : Whole) → after_owed os (h q) ≡ h (after_owed os q)
  owed_moves [] q = refl
  owed_moves (owed.Store a w ∷ os) q = ap (after_owed os) (stores (poke a w ∷ []) q) ∙ owed_moves os (with_stores (poke a w ∷ []) q)
  owed_moves (owed.Leave e ∷ os) q = ap (after_owed os) (leaves e q) ∙ owed_moves os (after_leave e q)
  owed_moves (owed.GiveBack ∷ os) q = owed_moves os q
  owed_moves (owed.Unlink ∷ os) q = owed_moves os q
  owed_moves (owed.Link ∷ os) q = owed_moves os q
  owed_moves (owed.Free ∷ os) q = owed_moves os q

  pub frame_moves : (f : Option Frame) (q : Whole) → seen f (h q) ≡ h (seen f q)
  unfolding seen
  frame_moves (Some (Holding f)) q = stores (debts f.ask f.owes) q
  frame_moves (Some (Waiting f)) q = stores (debts f.ask f.owes) q
  frame_moves (Some (Moving f)) q =
      ap (λ c. with_stores (debts f.ask 2) (with_stores (deposited c (input f.ask 1) (held_at f.place f.byte) ∷ []) (h q))) (core q)
      ∙ ap (with_stores (debts f.ask 2)) (stores (deposited q.core (input f.ask 1) (held_at f.place f.byte) ∷ []) q)
      ∙ stores (debts f.ask 2) (with_stores (deposited q.core (input f.ask 1) (held_at f.place f.byte) ∷ []) q)
  frame_moves (Some (Ending f)) q = owed_moves f.owed.items q
  frame_moves _ q = refl

pub seen_channel : (n : ℕ) (g : Chan → Chan) (f : Option Frame) (q : Whole) → seen f (on_channel n g q) ≡ on_channel n g (seen f q)
seen_channel n g f q = frame_moves (on_channel n g) (λ p. refl) (λ ss p. refl) (λ e p. refl) f q

pub seen_shut_on : (gone : ℕ → Bool) (f : Option Frame) (q : Whole) → seen f (after_shut gone q) ≡ after_shut gone (seen f q)
seen_shut_on gone f q = frame_moves (after_shut gone) (λ p. refl) (λ ss p. refl) (λ e p. refl) f q

pub seen_armed : (alarm : Option (ℕ × ℕ)) (f : Option Frame) (q : Whole) → seen f (with_alarm alarm q) ≡ with_alarm alarm (seen f q)
seen_armed alarm f q = frame_moves (with_alarm alarm) (λ p. refl) (λ ss p. refl) (λ e p. refl) f q

-- a frame with nothing pending
pub still_seen : (f : Option Frame) (q : Whole) → IsStill f → seen f q ≡ q
unfolding seen
still_seen (Some (Holding f)) q h = ap (λ n. with_stores (debts f.ask n) q) h ∙ ap (λ ss. with_stores ss q) (debts_none f.ask) ∙ stores_none q
still_seen (Some (Waiting f)) q h = ap (λ n. with_stores (debts f.ask n) q) h ∙ ap (λ ss. with_stores ss q) (debts_none f.ask) ∙ stores_none q
still_seen (Some (Moving f)) q h = absurd h
still_seen (Some (Ending f)) q h = absurd h
still_seen _ q h = refl

still_moves : (h : Whole → Whole) (f : Option Frame) (q : Whole) → IsStill f → seen f (h q) ≡ h (seen f q)
still_moves h f q s = still_seen f (h q) s ∙ sym (ap h (still_seen f q s))

-- one job changed, its frame left
pub in_job_plain : (w : State) (s : ℕ) (h : Whole → Whole) → ((q : Whole) → seen (w.frames s) (h q) ≡ h (seen (w.frames s) q))
    → plain (record w { raw = in_job w.raw s h }) ≡ in_job (plain w) s h
unfolding plain
in_job_plain w s h e = jobs_are _ _ (jobs_is w.frames w.frames w.raw.jobs s h h (λ k ne. refl) (λ q is. e q)) refl

reached_plain : (w : State) (j s : ℕ) (h : Whole → Whole) → Reached w j s → plain (record w { raw = in_job w.raw s h }) ≡ in_job (plain w) s h
reached_plain w j s h r = in_job_plain w s h (λ q. still_moves h (w.frames s) q r.still)

-- a marked close: its parts put the draft in place of the file with its names
-- no file has these names
none_first : (n : Names) (g : File) (fs : List File) (same : Bool) → same_names n g.names ≡ same → is_some (cond same (Some g) (file_named n fs)) ≡ false
    → (same ≡ false) × (has_file n fs ≡ false)
none_first n g fs true e h = cc
none_first n g fs false e h = (refl, h)

pub without_none : (n : Names) (fs : List File) → has_file n fs ≡ false → without_file n fs ≡ fs
unfolding without_file
without_none n [] h = refl
without_none n (g ∷ fs) h =
    let first = none_first n g fs (same_names n g.names) refl h in
    ap (λ b. kept_file b g (without_file n fs)) first.0 ∙ ap (λ gs. g ∷ gs) (without_none n fs first.1)

changed_none : (n : Names) (h : File → File) (fs : List File) → has_file n fs ≡ false → with_changed n h fs ≡ fs
changed_none n h [] none = refl
changed_none n h (g ∷ fs) none =
    let first = none_first n g fs (same_names n g.names) refl none in
    ap (λ b. changed_if b g (h g) ∷ with_changed n h fs) first.0 ∙ ap (λ gs. g ∷ gs) (changed_none n h fs first.1)

pub renamed_none : (n : Names) (u v : ℕ) (fs : List File) → has_file n fs ≡ false → with_new_names n u v fs ≡ fs
unfolding with_new_names
renamed_none n u v fs none = changed_none n _ fs none

closed_parts : (f : File) (b : Bool) (fs : List File) → has_file f.names fs ≡ b → after_parts f (parts_of b) fs ≡ with_file f fs
closed_parts f true fs e = refl
closed_parts f false fs e = ap (λ gs. gs ++ f ∷ []) (sym (without_none f.names fs e))

pub closed_helps : (j : ℕ) (c : Chan) (fs : List File) → after_help (mark_of_close j c fs) fs ≡ files_after_close c fs
unfolding after_help
closed_helps j (Writes f) fs = closed_parts f (has_file f.names fs) fs refl
closed_helps j _ fs = refl

-- what is read of a job through its frame
pub channel_seen : (f : Option Frame) (o : Option Whole) (n : ℕ) → channel_in (option_map (seen f) o) n ≡ channel_in o n
channel_seen f None n = refl
channel_seen f (Some q) n = ap (λ cs. cs n) (seen_channels f q)

superior_seen : (f : Option Frame) (o : Option Whole) → superior_in (option_map (seen f) o) ≡ superior_in o
superior_seen f None = refl
superior_seen f (Some q) = seen_superior f q

pub console_seen : (f : Option Frame) (o : Option Whole) → console_in (option_map (seen f) o) ≡ console_in o
console_seen f None = refl
console_seen f (Some q) = (seen_names f q).console

pub superiors_plain : (w : State) → superiors (plain w) ≡ superiors w.raw
unfolding plain
superiors_plain w = λ t k. superior_seen (w.frames k) (w.raw.jobs k) t

pub unmarked_files : (w : State) → w.mark ≡ None → (plain w).files ≡ w.raw.files
unfolding plain after_help
unmarked_files w e = ap (λ o. after_help o w.raw.files) e

-- each change
close_plain : (n j : ℕ) (w : State) → w.mark ≡ None → plain (effect_on (changes.Close n) j w) ≡ effect (changes.Close n) j (plain w)
unfolding effect_on effect plain
close_plain n j w e =
    machine_is _ _
    (jobs_is w.frames w.frames w.raw.jobs j (on_channel n (λ c. Shut)) (on_channel n (λ c. Shut)) (λ k ne. refl)
    (λ q is. seen_channel n (λ c. Shut) (w.frames j) q))
    (λ k. refl) (λ k. refl)
    (closed_helps j (channel_in (w.raw.jobs j) n) w.raw.files
    ∙ ap (λ c. files_after_close c w.raw.files) (sym (channel_seen (w.frames j) (w.raw.jobs j) n))
    ∙ ap (files_after_close (channel_in (option_map (seen (w.frames j)) (w.raw.jobs j)) n)) (sym (unmarked_files w e)))
    refl refl (λ k. refl) (λ k. refl)

made_job : (f : Option Frame) (o : Option Whole) (g : Option Frame) (j u n : ℕ) → g ≡ None
    → option_map (seen g) (Some (inferior j o u n)) ≡ Some (inferior j (option_map (seen f) o) u n)
unfolding seen
made_job f o g j u n e =
    ap (λ x. option_map (seen x) (Some (inferior j o u n))) e
    ∙ ap (λ c. Some (whole no_core (fresh_job u n c) (Some j))) (sym (console_seen f o))

make_plain : (s u n j : ℕ) (w : State) → w.frames s ≡ None → plain (effect_on (changes.Make s u n) j w) ≡ effect (changes.Make s u n) j (plain w)
unfolding effect_on effect plain
make_plain s u n j w e =
    machine_is _ _
    (λ k. elim (cases_eq k s) [
      | inl is ↦ rw is (ap (option_map (seen (w.frames s))) (changed_only w.raw.jobs s (Some (inferior j (w.raw.jobs j) u n))).here
          ∙ made_job (w.frames j) (w.raw.jobs j) (w.frames s) j u n e
          ∙ sym (changed_only (seen_jobs w.frames w.raw.jobs) s (Some (inferior j (option_map (seen (w.frames j)) (w.raw.jobs j)) u n))).here)
      | inr ne ↦ ap (option_map (seen (w.frames k))) ((changed_only w.raw.jobs s (Some (inferior j (w.raw.jobs j) u n))).others k ne)
          ∙ sym ((changed_only (seen_jobs w.frames w.raw.jobs) s (Some (inferior j (option_map (seen (w.frames j)) (w.raw.jobs j)) u n))).others k ne)
    ])
    (λ k. refl) (λ k. refl) refl refl refl (λ k. refl) (λ k. refl)

shut_seen : (gone : ℕ → Bool) (f : Option Frame) (o : Option Whole)
    → option_map (seen f) (option_map (after_shut gone) o) ≡ option_map (after_shut gone) (option_map (seen f) o)
shut_seen gone f None = refl
shut_seen gone f (Some q) = ap Some (seen_shut_on gone f q)

left_seen : (gone : ℕ → Bool) (b : Bool) (f : Option Frame) (o : Option Whole)
    → option_map (seen (if b then None else f)) (job_after_removal gone b o) ≡ job_after_removal gone b (option_map (seen f) o)
left_seen gone true f o = refl
left_seen gone false f o = shut_seen gone f o

remove_plain : (s j : ℕ) (w : State) → plain (effect_on (changes.Remove s) j w) ≡ effect (changes.Remove s) j (plain w)
unfolding effect_on effect plain after_removal
remove_plain s j w =
    let sup = superiors w.raw in
    let p : plain (effect_on (changes.Remove s) j w) ≡ after_removal sup s (plain w) =
    machine_is _ _ (λ k. left_seen (is_gone sup s) (is_gone sup s k) (w.frames k) (w.raw.jobs k)) (λ k. refl) (λ k. refl) refl refl refl (λ k. refl)
    (λ k. refl) in
    p ∙ ap (λ f. after_removal f s (plain w)) (sym (superiors_plain w))

pub files_plain : (w : State) (g : List File → List File) → w.mark ≡ None
    → plain (record w { raw = record w.raw { files = g w.raw.files } }) ≡ record (plain w) { files = g (plain w).files }
unfolding plain after_help
files_plain w g e =
    machine_is _ _ (λ k. refl) (λ k. refl) (λ k. refl) (ap (λ o. after_help o (g w.raw.files)) e ∙ ap (λ o. g (after_help o w.raw.files)) (sym e)) refl refl
    (λ k. refl) (λ k. refl)

-- consoles and holders, which no frame touches; a page, whose reservation the plain machine has not
take_plain : (c j : ℕ) (w : State) → plain (effect_on (changes.Take c) j w) ≡ effect (changes.Take c) j (plain w)
unfolding effect_on effect plain
take_plain c j w = refl

put_plain : (c b j : ℕ) (w : State) → plain (effect_on (changes.Put c b) j w) ≡ effect (changes.Put c b) j (plain w)
unfolding effect_on effect plain
put_plain c b j w = refl

hold_plain : (c s j : ℕ) (w : State) → plain (effect_on (changes.Hold c s) j w) ≡ effect (changes.Hold c s) j (plain w)
unfolding effect_on effect plain
hold_plain c s j w = refl

unreserved_plain : (w : State) (r : ℕ → Option ℕ) → plain (record w { reserved = r }) ≡ plain w
unfolding plain
unreserved_plain w r = refl

map_plain : (s k j : ℕ) (w : State) → MakesPage w j s → plain (effect_on (changes.Map s k) j w) ≡ effect (changes.Map s k) j (plain w)
unfolding effect_on effect
map_plain s k j w h =
    unreserved_plain (record w { raw = in_job w.raw s (with_page_at k (Some zero_page)) }) (changed w.reserved j None)
    ∙ reached_plain w j s (with_page_at k (Some zero_page)) h.reached

-- links, which no frame touches either
linked_plain : (w : State) (l : ℕ) (f : Option Pipe → Option Pipe) → plain (record w { raw = on_link w.raw l f }) ≡ on_link (plain w) l f
unfolding plain
linked_plain w l f = refl

ends_plain : (w : State) (j l : ℕ) (h : Whole → Whole) (f : Option Pipe → Option Pipe)
    → ((q : Whole) → seen (w.frames j) (h q) ≡ h (seen (w.frames j) q))
    → plain (record w { raw = on_link (in_job w.raw j h) l f }) ≡ on_link (in_job (plain w) j h) l f
ends_plain w j l h f e = linked_plain (record w { raw = in_job w.raw j h }) l f ∙ ap (λ (m : Machine). on_link m l f) (in_job_plain w j h e)

pub effect_plain : (c : Change) (j : ℕ) (w : State) → Quiet c j w → plain (effect_on c j w) ≡ effect c j (plain w)
unfolding effect_on effect
effect_plain (changes.Open n on) j w h = in_job_plain w j (on_channel n (λ c. opened_on on)) (seen_channel n (λ c. opened_on on) (w.frames j))
effect_plain (changes.Shut n) j w h = in_job_plain w j (on_channel n (λ c. Shut)) (seen_channel n (λ c. Shut) (w.frames j))
effect_plain (changes.Move n at) j w h = in_job_plain w j (on_channel n (at_position at)) (seen_channel n (at_position at) (w.frames j))
effect_plain (changes.Append n word) j w h = in_job_plain w j (on_channel n (with_word word)) (seen_channel n (with_word word) (w.frames j))
effect_plain (changes.Close n) j w h = close_plain n j w h
effect_plain (changes.Take c) j w h = take_plain c j w
effect_plain (changes.Put c b) j w h = put_plain c b j w
effect_plain (changes.Hold c s) j w h = hold_plain c s j w
effect_plain (changes.Poke s a word) j w h = reached_plain w j s (with_stores (poke a word ∷ [])) h
effect_plain (changes.Set s v word) j w h = reached_plain w j s (with_registers (with_variable v word)) h
effect_plain (changes.Map s k) j w h = map_plain s k j w h
effect_plain (changes.Unmap s k) j w h = reached_plain w j s (with_page_at k None) h
effect_plain (changes.Protect s k b) j w h = reached_plain w j s (with_protection k b) h
effect_plain (changes.Make s u n) j w h = make_plain s u n j w h
effect_plain (changes.Remove s) j w h = remove_plain s j w
effect_plain (changes.Inform s) j w h = reached_plain w j s with_inf h
effect_plain (changes.Arm alarm) j w h = in_job_plain w j (with_alarm alarm) (seen_armed alarm (w.frames j))
effect_plain (changes.Join n l write x y) j w h =
    ends_plain w j l (on_channel n (λ c. Linked l write)) (opened_link write j n x y) (seen_channel n (λ c. Linked l write) (w.frames j))
effect_plain (changes.CloseEnd n l write) j w h = ends_plain w j l (on_channel n (λ c. Shut)) (after_end_close write)
    (seen_channel n (λ c. Shut) (w.frames j))
effect_plain (changes.Send l x) j w h = linked_plain w l (option_map (with_sent x))
effect_plain (changes.Receive l) j w h = linked_plain w l (option_map with_received)
effect_plain (changes.Delete d x y) j w h = files_plain w (without_file (names_of d x y)) h
effect_plain (changes.Rename d x y u v) j w h = files_plain w (with_new_names (names_of d x y) u v) h

pub effects_plain : (cs : List Change) (j : ℕ) (w : State) → AllQuiet cs j w → plain (effects_on cs j w) ≡ effects cs j (plain w)
effects_plain [] j w h = refl
effects_plain (c ∷ cs) j w h = effects_plain cs j (effect_on c j w) h.1 ∙ ap (effects cs j) (effect_plain c j w h.0)

-- other slots than the caller's stay sound
slot_moved : (o : Option Whole) (h : Whole → Whole) (f : Option Frame) (r : Option ℕ) → f ≡ None → SoundSlot o f r → SoundSlot (option_map h o) f r
slot_moved None h f r e s = s
slot_moved (Some q) h None r e s = record { by = s.by }
slot_moved (Some q) h (Some f) r e s = cc

slot_made : (o : Option Whole) (q : Whole) (f : Option Frame) (r : Option ℕ) → f ≡ None → SoundSlot o f r → SoundSlot (Some q) f r
slot_made None q None r e s = record { by = s.by.1 }
slot_made (Some p) q None r e s = record { by = s.by }
slot_made o q (Some f) r e s = cc

slot_still : (o p : Option Whole) (f : Option Frame) (r : Option ℕ) → o ≡ p → SoundSlot p f r → SoundSlot o f r
slot_still o p f r e s = rw e s

slot_on : (w : State) (j s k : ℕ) (h : Whole → Whole) → (k ≡ s → w.frames k ≡ None) → SoundSlot (w.raw.jobs k) (w.frames k) (w.reserved k)
    → SoundSlot (on_slot w.raw.jobs s h k) (w.frames k) (w.reserved k)
slot_on w j s k h idle sound = elim (cases_eq k s) [
  | inl e ↦ slot_still _ _ _ _ (ap (λ i. on_slot w.raw.jobs i h k) (sym e) ∙ on_slot_here w.raw.jobs k h)
      (slot_moved (w.raw.jobs k) h (w.frames k) (w.reserved k) (idle e) sound)
  | inr ne ↦ slot_still _ _ _ _ (on_slot_other w.raw.jobs s k h ne) sound
]

slot_reached : (w : State) (j s k : ℕ) (h : Whole → Whole) → Reached w j s → k ≢ j → SoundSlot (w.raw.jobs k) (w.frames k) (w.reserved k)
    → SoundSlot (on_slot w.raw.jobs s h k) (w.frames k) (w.reserved k)
slot_reached w j s k h r ne sound = slot_on w j s k h (λ e. ap w.frames e ∙ r.other (λ t. ne (e ∙ t))) sound

slot_own : (w : State) (j k : ℕ) (h : Whole → Whole) → k ≢ j → SoundSlot (w.raw.jobs k) (w.frames k) (w.reserved k)
    → SoundSlot (on_slot w.raw.jobs j h k) (w.frames k) (w.reserved k)
slot_own w j k h ne sound = slot_still _ _ _ _ (on_slot_other w.raw.jobs j k h ne) sound

-- a removal closes channels on jobs, for which no call waits
shut_stuck : (gone : ℕ → Bool) (f : Frame) (q : Whole) (r : Option ℕ) → Pays f q.core r → StuckBy f (seen (Some f) q)
    → StuckBy f (seen (Some f) (after_shut gone q))
shut_stuck gone (Waiting f) q r p s = subst (λ (x : Whole). Stuck x f.ask) (sym (seen_shut_on gone (Some (Waiting f)) q))
    (stuck_shut gone (seen (Some (Waiting f)) q) f.ask p.waitable s)
shut_stuck gone _ q r p s = tt

-- a removal closes channels, of which soundness speaks no more
shut_sound : (gone : ℕ → Bool) (q : Whole) (f : Frame) (r : Option ℕ) → SoundFrame q f r → SoundFrame (after_shut gone q) f r
shut_sound gone q f r s = record {
  runs = s.runs;
  quiet = s.quiet;
  standing = subst (λ p. Standing f p.core p.job) (sym (seen_shut_on gone (Some f) q)) s.standing;
  pays = s.pays;
  stuck = shut_stuck gone f q r s.pays s.stuck;
}

slot_shut : (gone : ℕ → Bool) (o : Option Whole) (f : Option Frame) (r : Option ℕ) → SoundSlot o f r → SoundSlot (option_map (after_shut gone) o) f r
slot_shut gone None f r s = s
slot_shut gone (Some q) None r s = record { by = s.by }
slot_shut gone (Some q) (Some f) r s = record { by = shut_sound gone q f r s.by }

slot_empty : (o : Option Whole) (f : Option Frame) (r : Option ℕ) → f ≡ None → SoundSlot o f r → SoundSlot None None r
slot_empty None None r e s = s
slot_empty (Some q) None r e s = record { by = (refl, s.by) }
slot_empty o (Some f) r e s = cc

slot_left : (gone : ℕ → Bool) (b : Bool) (o : Option Whole) (f : Option Frame) (r : Option ℕ) → (b ≡ true → f ≡ None) → SoundSlot o f r
    → SoundSlot (job_after_removal gone b o) (if b then None else f) r
slot_left gone true o f r e s = slot_empty o f r (e refl) s
slot_left gone false o f r e s = slot_shut gone o f r s

slot_new : (w : State) (s k : ℕ) (q : Whole) → w.frames s ≡ None → SoundSlot (w.raw.jobs k) (w.frames k) (w.reserved k)
    → SoundSlot (changed w.raw.jobs s (Some q) k) (w.frames k) (w.reserved k)
slot_new w s k q e sound = elim (cases_eq k s) [
  | inl is ↦ slot_still _ _ _ _ (ap (λ i. changed w.raw.jobs i (Some q) k) (sym is) ∙ (changed_only w.raw.jobs k (Some q)).here)
      (slot_made (w.raw.jobs k) q (w.frames k) (w.reserved k) (ap w.frames is ∙ e) sound)
  | inr ne ↦ slot_still _ _ _ _ ((changed_only w.raw.jobs s (Some q)).others k ne) sound
]

slot_unreserved : (o : Option Whole) (f : Option Frame) (r t : Option ℕ) → r ≡ t → SoundSlot o f t → SoundSlot o f r
slot_unreserved o f r t e s = rw e s

pub effect_sound : (c : Change) (j : ℕ) (w : State) (k : ℕ) → Quiet c j w → k ≢ j → SoundSlot (w.raw.jobs k) (w.frames k) (w.reserved k)
    → SoundSlot ((effect_on c j w).raw.jobs k) ((effect_on c j w).frames k) ((effect_on c j w).reserved k)
unfolding effect_on effect after_removal
effect_sound (changes.Open n on) j w k h ne s = slot_own w j k (on_channel n (λ c. opened_on on)) ne s
effect_sound (changes.Shut n) j w k h ne s = slot_own w j k (on_channel n (λ c. Shut)) ne s
effect_sound (changes.Move n at) j w k h ne s = slot_own w j k (on_channel n (at_position at)) ne s
effect_sound (changes.Append n word) j w k h ne s = slot_own w j k (on_channel n (with_word word)) ne s
effect_sound (changes.Close n) j w k h ne s = slot_own w j k (on_channel n (λ c. Shut)) ne s
effect_sound (changes.Poke i a word) j w k h ne s = slot_reached w j i k (with_stores (poke a word ∷ [])) h ne s
effect_sound (changes.Set i v word) j w k h ne s = slot_reached w j i k (with_registers (with_variable v word)) h ne s
effect_sound (changes.Map i p) j w k h ne s =
    slot_unreserved _ _ _ _ ((changed_only w.reserved j None).others k ne) (slot_reached w j i k (with_page_at p (Some zero_page)) h.reached ne s)
effect_sound (changes.Unmap i p) j w k h ne s = slot_reached w j i k (with_page_at p None) h ne s
effect_sound (changes.Protect i p b) j w k h ne s = slot_reached w j i k (with_protection p b) h ne s
effect_sound (changes.Make i u n) j w k h ne s = slot_new w i k (inferior j (w.raw.jobs j) u n) h s
effect_sound (changes.Remove i) j w k h ne s =
    slot_left (is_gone (superiors w.raw) i) (is_gone (superiors w.raw) i k) (w.raw.jobs k) (w.frames k) (w.reserved k) (λ gone. h k gone ne) s
effect_sound (changes.Inform i) j w k h ne s = slot_reached w j i k with_inf h ne s
effect_sound (changes.Arm alarm) j w k h ne s = slot_own w j k (with_alarm alarm) ne s
effect_sound (changes.Join n l write x y) j w k h ne s = slot_own w j k (on_channel n (λ c. Linked l write)) ne s
effect_sound (changes.CloseEnd n l write) j w k h ne s = slot_own w j k (on_channel n (λ c. Shut)) ne s
effect_sound _ j w k h ne s = s

pub effects_sound : (cs : List Change) (j : ℕ) (w : State) (k : ℕ) → AllQuiet cs j w → k ≢ j → SoundSlot (w.raw.jobs k) (w.frames k) (w.reserved k)
    → SoundSlot ((effects_on cs j w).raw.jobs k) ((effects_on cs j w).frames k) ((effects_on cs j w).reserved k)
effects_sound [] j w k h ne s = s
effects_sound (c ∷ cs) j w k h ne s = effects_sound cs j (effect_on c j w) k h.1 ne (effect_sound c j w k h.0 ne s)

-- frames and reserved pages of other slots than the caller's are as they were
pub record Kept (w v : State) (k : ℕ) : Type 0 where
  pub frame : v.frames k ≡ w.frames k
  pub page : v.reserved k ≡ w.reserved k

frame_left : (b : Bool) (f : Option Frame) → (b ≡ true → f ≡ None) → (if b then None else f) ≡ f
frame_left true f e = sym (e refl)
frame_left false f e = refl

pub effect_others : (c : Change) (j : ℕ) (w : State) (k : ℕ) → Quiet c j w → k ≢ j → Kept w (effect_on c j w) k
unfolding effect_on
effect_others (changes.Map i p) j w k h ne = record { frame = refl; page = (changed_only w.reserved j None).others k ne }
effect_others (changes.Remove i) j w k h ne = record { frame = frame_left (is_gone (superiors w.raw) i k) (w.frames k) (λ gone. h k gone ne); page = refl }
effect_others c j w k h ne = record { frame = refl; page = refl }

pub effects_others : (cs : List Change) (j : ℕ) (w : State) (k : ℕ) → AllQuiet cs j w → k ≢ j → Kept w (effects_on cs j w) k
effects_others [] j w k h ne = record { frame = refl; page = refl }
effects_others (c ∷ cs) j w k h ne =
    let first = effect_others c j w k h.0 ne in
    let rest = effects_others cs j (effect_on c j w) k h.1 ne in
    record { frame = rest.frame ∙ first.frame; page = rest.page ∙ first.page }
