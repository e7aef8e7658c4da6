-- IN, OUT and HOLD: bytes that wait at a console, and who holds it.
use Rattle.std.specs.Prelude.{◌≡◌, ◌<◌, ◌≤◌, ◌+◌, ◌++◌, ℕ, Bool, true, false, Some, None, List, [], ◌∷◌, Ok, is_some, is_none, length, drop, get_or, nat_le, refl}
use Rattle.std.proofs.Common.{sym, ◌∙◌, ap, subst, inl, inr, arith}
use Rattle.std.proofs.lemmas.Bool.{cases_eq, leb-true}
use Rattle.std.proofs.lemmas.List.{append_assoc, append-nil, drop_all, drop_more, length-append, take_all}
use Rattle.its_word.specs.Console.{Console, most_waiting}
use Rattle.its_records.specs.declared.session.Reason.{Reason}
use Rattle.its_records.specs.declared.session.Reason.TheVariants.{NoJob, Exists, Full}
use Rattle.its_records.specs.declared.session.Refusal.{Refusal}
use Rattle.its_records.specs.declared.session.Refusal.TheVariants as refusals
use Rattle.its_jobs.specs.Table.{job_at}
use Rattle.its_frame.specs.declared.change.Change.TheVariants as changes
use Rattle.its_plain.specs.Machine.{Machine, changed}
use Rattle.its_plain.specs.Machine.Change.{on_console, effect}
use Rattle.its_plain.specs.Operator.State.{has_job, bytes_of, with_bytes, with_bytes_waiting, with_holder_set}
use Rattle.its_plain.proofs.MachineLaws.{machine_is}
use Rattle.its_plain.proofs.ProvidedLaws.{AllHold}
use Rattle.its_stepped.specs.Lines.{with_raw}
use Rattle.its_stepped.specs.Sound.{Sound}
use Rattle.its_stepped.specs.State.{State, plain}
use Rattle.its_stepped.proofs.Frame.FrameLaws.{changed_only, changed_same}
use Rattle.its_stepped.proofs.Keeping.ForestLaws.{effect_forest}
use Rattle.its_stepped.proofs.Lining.RestoredLaws.{has_job_plain}
use Rattle.its_world.specs.Tidy.{Tidy}
use Rattle.its_world.specs.World.{console_at, holder_at, state_of, typed_at, ConsoleBecomes, HolderBecomes}
use Rattle.its_world.specs.declared.world.World.{World}
use Rattle.its_world.proofs.StateLaws.{console_state, holder_state}
use Rattle.its_commit.proofs.TidyLaws.{tidy_console, tidy_holder}
use Rattle.its_monitor.specs.Kept.{Kept, Lands, Refused}
use Rattle.its_monitor.specs.Restoring.{BytesLeft}
use Rattle.its_monitor.proofs.JobLineLaws.{machine_kept, has_one, has_none, no_job_is, none_of_some, none_is}
use Rattle.its_monitor.proofs.KeptLaws.{plain_has, Lasts, kept_lasts}
use Rattle.its_monitor.proofs.OneJobLaws.{same_sound, console_plain, hold_plain, console_forest}
use Rattle.its_monitor.proofs.TestsLaws.{tested_lands, tested_plain, tested_refused_here}

-- a console of the state is that of the world
console_raw : (w : World) (c : ℕ) → (state_of w).raw.consoles c ≡ console_at w.consoles.items c
unfolding state_of
console_raw w c = refl

-- one byte
pub byte_typed : (old new : World) (c b : ℕ) → length ((state_of old).raw.consoles c).input < most_waiting
    → ConsoleBecomes old new c (typed_at b (console_at old.consoles.items c))
    → ConsoleBecomes old new c (with_bytes false (b ∷ []) (console_at old.consoles.items c))
byte_typed old new c b room w =
    let x = console_at old.consoles.items c in
    let here : length x.input < most_waiting = subst (λ (k : Console). length k.input < most_waiting) (console_raw old c) room in
    let all : length (x.input ++ b ∷ []) ≤ most_waiting = let n = length-append x.input (b ∷ []) in omega arith in
    subst (λ (i : List ℕ). ConsoleBecomes old new c (record x { input = i })) (take_all most_waiting (x.input ++ b ∷ []) all) w

pub byte_room : (w : World) (c : ℕ) → length ((state_of w).raw.consoles c).output < most_waiting
    → length (console_at w.consoles.items c).output < most_waiting
byte_room w c room = subst (λ (k : Console). length k.output < most_waiting) (console_raw w c) room

-- bytes and then more
bytes_then : (out : Bool) (bs ds : List ℕ) (x : Console) → with_bytes out ds (with_bytes out bs x) ≡ with_bytes out (bs ++ ds) x
bytes_then false bs ds x = ap (λ (i : List ℕ). record x { input = i }) (append_assoc x.input bs ds)
bytes_then true bs ds x = ap (λ (i : List ℕ). record x { output = i }) (append_assoc x.output bs ds)

no_bytes_then : (out : Bool) (x : Console) → with_bytes out [] x ≡ x
no_bytes_then false x = ap (λ (i : List ℕ). record x { input = i }) (append-nil x.input)
no_bytes_then true x = ap (λ (i : List ℕ). record x { output = i }) (append-nil x.output)

bytes_have : (out : Bool) (bs : List ℕ) (x : Console) → bytes_of out (with_bytes out bs x) ≡ bytes_of out x ++ bs
bytes_have false bs x = refl
bytes_have true bs x = refl

changed_twice : {X : Type 0} (f : ℕ → X) (c k : ℕ) (x y : X) → changed (changed f c x) c y k ≡ changed f c y k
changed_twice f c k x y = elim (cases_eq k c) [
  | inl is ↦ rw is ((changed_only (changed f c x) c y).here ∙ sym (changed_only f c y).here)
  | inr ne ↦ (changed_only (changed f c x) c y).others k ne ∙ (changed_only f c x).others k ne ∙ sym ((changed_only f c y).others k ne)
]

console_twice : (m : Machine) (c : ℕ) (f g : Console → Console) → on_console (on_console m c f) c g ≡ on_console m c (λ x. g (f x))
console_twice m c f g = machine_is _ _ (λ k. refl)
    (λ k. changed_twice m.consoles c k (f (m.consoles c)) _
    ∙ ap (λ y. changed m.consoles c (g y) k) (changed_only m.consoles c (f (m.consoles c))).here)
    (λ k. refl) refl refl refl (λ k. refl) (λ k. refl)

module _ (c : ℕ) (out : Bool) (bytes : List ℕ) (old : World) where
  pub bytes_start : length (bytes_of out ((state_of old).raw.consoles c) ++ bytes) ≤ most_waiting → Tidy old → BytesLeft c out bytes bytes old old
  bytes_start room tidy = record { rest = refl; room = room; tidy = tidy }

  -- the next of those that are left
  pub bytes_free : (b : ℕ) (left : List ℕ) (w : World) → BytesLeft c out bytes (b ∷ left) old w
      → length (bytes_of out ((state_of w).raw.consoles c)) < most_waiting
  bytes_free b left w l = let n = length-append (bytes_of out ((state_of w).raw.consoles c)) (b ∷ left) in let room = l.room in omega arith

  pub bytes_next : (b : ℕ) (left : List ℕ) (w v : World) → BytesLeft c out bytes (b ∷ left) old w
      → ConsoleBecomes w v c (with_bytes out (b ∷ []) (console_at w.consoles.items c)) → BytesLeft c out bytes left old v
  bytes_next b left w v l e =
      let is : state_of v ≡ with_raw (state_of w) (on_console (state_of w).raw c (with_bytes out (b ∷ []))) =
      console_state w v c (with_bytes out (b ∷ [])) e in
      let m = (state_of w).raw in
      record {
        rest =
            ap (λ (x : State). with_raw x (on_console x.raw c (with_bytes out left))) is
            ∙ ap (with_raw (state_of w)) (console_twice m c (with_bytes out (b ∷ [])) (with_bytes out left)
            ∙ (λ i. record m { consoles = changed m.consoles c (bytes_then out (b ∷ []) left (m.consoles c) i) }))
            ∙ l.rest;
        room =
            let here : (state_of v).raw.consoles c ≡ with_bytes out (b ∷ []) (m.consoles c) =
            ap (λ (x : State). x.raw.consoles c) is ∙ (changed_only m.consoles c (with_bytes out (b ∷ []) (m.consoles c))).here in
            let all : bytes_of out ((state_of v).raw.consoles c) ++ left ≡ bytes_of out (m.consoles c) ++ b ∷ left =
            ap (λ x. bytes_of out x ++ left) here ∙ ap (λ (xs : List ℕ). xs ++ left) (bytes_have out (b ∷ []) (m.consoles c))
            ∙ append_assoc (bytes_of out (m.consoles c)) (b ∷ []) left in
            subst (λ (xs : List ℕ). length xs ≤ most_waiting) (sym all) l.room;
        tidy = tidy_console w v c (with_bytes out (b ∷ []) (console_at w.consoles.items c)) e l.tidy;
      }

  pub bytes_done : (w : World) → BytesLeft c out bytes [] old w
      → state_of w ≡ with_raw (state_of old) (on_console (state_of old).raw c (with_bytes out bytes))
  bytes_done w l =
      let m = (state_of w).raw in
      ap (with_raw (state_of w)) (machine_is m (on_console m c (with_bytes out [])) (λ k. refl)
      (λ k. changed_same m.consoles c k (with_bytes out [] (m.consoles c)) (sym (no_bytes_then out (m.consoles c))))
      (λ k. refl) refl refl refl (λ k. refl) (λ k. refl))
      ∙ l.rest

-- those that are left at a place
module _ (c : ℕ) (out : Bool) (bytes : List ℕ) (old w : World) (i : ℕ) (h : BytesLeft c out bytes (drop i bytes) old w) where
  first_left : i < length bytes → BytesLeft c out bytes (get_or bytes i 0 ∷ drop (i + 1) bytes) old w
  first_left l = subst (λ (ds : List ℕ). BytesLeft c out bytes ds old w) (drop_more bytes i 0 l) h

  pub free_at : i < length bytes → length (bytes_of out ((state_of w).raw.consoles c)) < most_waiting
  free_at l = bytes_free c out bytes old (get_or bytes i 0) (drop (i + 1) bytes) w (first_left l)

  pub next_at : (v : World) → i < length bytes → ConsoleBecomes w v c (with_bytes out (get_or bytes i 0 ∷ []) (console_at w.consoles.items c))
      → BytesLeft c out bytes (drop (i + 1) bytes) old v
  next_at v l e = bytes_next c out bytes old (get_or bytes i 0) (drop (i + 1) bytes) w v (first_left l) e

  pub done_at : length bytes ≤ i → state_of w ≡ with_raw (state_of old) (on_console (state_of old).raw c (with_bytes out bytes))
  done_at l = bytes_done c out bytes old w (subst (λ (ds : List ℕ). BytesLeft c out bytes ds old w) (drop_all i bytes l) h)

-- IN and OUT
abbrev byte_tests : ℕ → Bool → List ℕ → Machine → List (Bool × Reason)
byte_tests c out bs m = (nat_le (length (bytes_of out (m.consoles c) ++ bs)) most_waiting, Full) ∷ []

byte_alike : (c : ℕ) (out : Bool) (bs : List ℕ) (u : State) → byte_tests c out bs (plain u) ≡ byte_tests c out bs u.raw
unfolding plain
byte_alike c out bs u = refl

module _ (old new : World) (c : ℕ) (out : Bool) (bs : List ℕ) (fits : Bool)
    (room : fits ≡ nat_le (length (bytes_of out ((state_of old).raw.consoles c) ++ bs)) most_waiting) (t : fits ≡ true)
    (is : state_of new ≡ with_raw (state_of old) (on_console (state_of old).raw c (with_bytes out bs))) where
  bytes_hold : AllHold (byte_tests c out bs (state_of old).raw)
  bytes_hold = (sym room ∙ t, tt)

  pub bytes_land : Lands (state_of old) (state_of new) (with_bytes_waiting (state_of old).raw c out bs)
  unfolding with_bytes_waiting
  bytes_land = tested_lands (byte_tests c out bs) (λ m. on_console m c (with_bytes out bs)) (byte_alike c out bs) (state_of old) (state_of old)
      (state_of new) refl bytes_hold is

  bytes_machine : plain (state_of new) ≡ on_console (plain (state_of old)) c (with_bytes out bs)
  bytes_machine = ap plain is ∙ console_plain (state_of old) c (with_bytes out bs)

  pub bytes_plain : with_bytes_waiting (plain (state_of old)) c out bs ≡ Ok (plain (state_of new))
  unfolding with_bytes_waiting
  bytes_plain = tested_plain (byte_tests c out bs) (λ m. on_console m c (with_bytes out bs)) (byte_alike c out bs) (state_of old) (plain (state_of new))
      bytes_hold bytes_machine

  pub bytes_kept : Kept old → Tidy new → Kept new
  bytes_kept kept tidy =
      let m = plain (state_of old) in
      let l = kept_lasts old kept in
      machine_kept old new (on_console m c (with_bytes out bs)) kept bytes_machine
      (subst Sound (sym is) (same_sound (state_of old) (on_console (state_of old).raw c (with_bytes out bs)) kept.sound refl))
      (console_forest m c (with_bytes out bs) kept.forest) (record { each = kept.alarmed.each })
      (record { addressed = l.addressed; consoled = l.consoled }) refl tidy

module _ (w : World) (c : ℕ) (out : Bool) (bs : List ℕ) (fits : Bool)
    (room : fits ≡ nat_le (length (bytes_of out ((state_of w).raw.consoles c) ++ bs)) most_waiting) where
  pub bytes_full : fits ≡ false → Refused (state_of w) (state_of w) (λ m. with_bytes_waiting m c out bs) refusals.Full
  unfolding with_bytes_waiting
  bytes_full f = tested_refused_here (byte_tests c out bs) (λ m. on_console m c (with_bytes out bs)) (byte_alike c out bs) (state_of w) refusals.Full
      (inl (sym room ∙ f, refl))

  pub bytes_room : fits ≡ true → length (bytes_of out ((state_of w).raw.consoles c) ++ bs) ≤ most_waiting
  bytes_room t = leb-true (length (bytes_of out ((state_of w).raw.consoles c) ++ bs)) most_waiting (sym room ∙ t)

-- how many bytes wait in all, from the numbers of both
pub in_all : (w : World) (c n k : ℕ) (bs : List ℕ) → n ≡ length (console_at w.consoles.items c).input → k ≡ length bs
    → length (bytes_of false ((state_of w).raw.consoles c) ++ bs) ≡ n + k
in_all w c n k bs a b =
    length-append ((state_of w).raw.consoles c).input bs
    ∙ (λ i. length (console_raw w c i).input + length bs) ∙ (λ i. sym a i + sym b i)

pub out_all : (w : World) (c n k : ℕ) (bs : List ℕ) → n ≡ length (console_at w.consoles.items c).output → k ≡ length bs
    → length (bytes_of true ((state_of w).raw.consoles c) ++ bs) ≡ n + k
out_all w c n k bs a b =
    length-append ((state_of w).raw.consoles c).output bs
    ∙ (λ i. length (console_raw w c i).output + length bs) ∙ (λ i. sym a i + sym b i)

-- HOLD
abbrev hold_tests : ℕ → ℕ → Machine → List (Bool × Reason)
hold_tests c s m = (has_job m s, NoJob) ∷ (is_none (m.holders c), Exists) ∷ []

holders_plain : (u : State) (c : ℕ) → (plain u).holders c ≡ u.raw.holders c
unfolding plain
holders_plain u c = refl

hold_alike : (c s : ℕ) (u : State) → hold_tests c s (plain u) ≡ hold_tests c s u.raw
hold_alike c s u = λ i. (has_job_plain u s i, NoJob) ∷ (is_none (holders_plain u c i), Exists) ∷ []

holder_raw : (w : World) (c : ℕ) → (state_of w).raw.holders c ≡ holder_at w.holders c
unfolding state_of
holder_raw w c = refl

abbrev held : ℕ → ℕ → Machine → Machine
held c s m = effect (changes.Hold c s) s m

module _ (old new : World) (c s : ℕ) (kept : Kept old) (some : is_some (job_at old.jobs s) ≡ true) (has : Bool)
    (holder : has ≡ is_some (holder_at old.holders c)) (f : has ≡ false) (b : HolderBecomes old new c (Some s)) where
  free : holder_at old.holders c ≡ None
  free = none_is (holder_at old.holders c) has holder f

  hold_holds : AllHold (hold_tests c s (state_of old).raw)
  hold_holds = (has_one old s some, (ap is_none (holder_raw old c ∙ free), tt))

  hold_state : state_of new ≡ with_raw (state_of old) (held c s (state_of old).raw)
  unfolding effect
  hold_state = holder_state old new c (Some s) b

  pub hold_lands : Lands (state_of old) (state_of new) (with_holder_set (state_of old).raw c s)
  unfolding with_holder_set
  hold_lands = tested_lands (hold_tests c s) (held c s) (hold_alike c s) (state_of old) (state_of old) (state_of new) refl hold_holds hold_state

  hold_machine : plain (state_of new) ≡ held c s (plain (state_of old))
  hold_machine = ap plain hold_state ∙ hold_plain (state_of old) c s

  pub hold_done : with_holder_set (plain (state_of old)) c s ≡ Ok (plain (state_of new))
  unfolding with_holder_set
  hold_done = tested_plain (hold_tests c s) (held c s) (hold_alike c s) (state_of old) (plain (state_of new)) hold_holds hold_machine

  hold_sound : Sound (with_raw (state_of old) (held c s (state_of old).raw))
  unfolding effect
  hold_sound = same_sound (state_of old) (held c s (state_of old).raw) kept.sound refl

  hold_lasts : Lasts (held c s (plain (state_of old)))
  unfolding effect
  hold_lasts = let l = kept_lasts old kept in record { addressed = l.addressed; consoled = l.consoled }

  pub hold_kept : Kept new
  unfolding effect
  hold_kept = machine_kept old new (held c s (plain (state_of old))) kept hold_machine (subst Sound (sym hold_state) hold_sound)
      (effect_forest (changes.Hold c s) s (plain (state_of old)) (plain_has old s ∙ some) kept.forest) (record { each = kept.alarmed.each }) hold_lasts
      refl (tidy_holder old new c (Some s) b kept.tidy)

pub hold_none : (w : World) (c s : ℕ) (e : Refusal) → e ≡ refusals.NoJob → job_at w.jobs s ≡ None
    → Refused (state_of w) (state_of w) (λ m. with_holder_set m c s) e
unfolding with_holder_set
hold_none w c s e is none = tested_refused_here (hold_tests c s) (held c s) (hold_alike c s) (state_of w) e (inl (has_none w s none, no_job_is e is))

pub hold_has : (w : World) (c s : ℕ) (has : Bool) → is_some (job_at w.jobs s) ≡ true → has ≡ is_some (holder_at w.holders c) → has ≡ true
    → Refused (state_of w) (state_of w) (λ m. with_holder_set m c s) refusals.Exists
unfolding with_holder_set
hold_has w c s has some holder t = tested_refused_here (hold_tests c s) (held c s) (hold_alike c s) (state_of w) refusals.Exists
    (inr (has_one w s some, inl (none_of_some ((state_of w).raw.holders c) (ap is_some (holder_raw w c) ∙ sym holder ∙ t), refl)))
