-- The lines TYPE and DRAIN.
use Rattle.std.specs.Prelude.{◌≡◌, ◌<◌, ◌≤◌, ℕ, zero, suc, ◌+◌, ◌-◌, ◌↔◌, Bool, true, false, IsTrue, Option, Some, None, List, [], ◌∷◌, ◌++◌, length, take, drop, slice_get, refl}
use Rattle.std.specs.List.{cons_option}
use Rattle.std.proofs.Common.{ap, sym, subst, ◌∙◌, arith, get_or, inl, inr}
use Rattle.std.proofs.lemmas.Bool.{cases_lt}
use Rattle.std.proofs.lemmas.List.{append-nil, append_assoc, length-append, length-take-le, take-append-le, take_all, take_more, drop-drop}
use Rattle.its_word.specs.Console.{most_waiting}
use Rattle.its_word.specs.Only.{Only}
use Rattle.its_files.specs.Files.{Store, directory}
use Rattle.its_core.specs.Cores.{core_at, clear_at}
use Rattle.its_jobs.specs.Table.{job_at}
use Rattle.its_pipes.specs.Pipes.{piped}
use Rattle.its_plain.specs.Machine.Change.{on_console}
use Rattle.its_plain.specs.Machine.{Console}
use Rattle.its_plain.specs.Operator.Clock.{clock_end}
use Rattle.its_plain.specs.Operator.Consoles.{dropped}
use Rattle.its_plain.proofs.MachineLaws.{machine_is}
use Rattle.its_shared.specs.Across.{Across}
use Rattle.its_shared.specs.Parts.{alarm_at, console_at, holder_at, symbols_at, raw_at}
use Rattle.its_shared.proofs.PartLaws.{changed_at}
use Rattle.its_direct.specs.Contents.{contents}
use Rattle.its_direct.specs.Plain.{machine_of, no_slots, Tidy}
use Rattle.its_direct.specs.Consoles.{lost_of}
use Rattle.its_direct.specs.Lines.{Stands, ConsoleBecomes}
use Rattle.its_direct.specs.declared.plain.Plain.{Plain}
use Rattle.its_direct.proofs.SlotLaws.{IsPlaced, touched_machine, touched_tidy}
use Rattle.its_direct.proofs.TouchLaws.{none_touched}
use Rattle.its_direct.proofs.ContentsLaws.{core_as, jobs_as, holders_as, files_as, clock_as, alarms_as, version_as, symbols_as, pipes_as, place_as}

pub console_becomes : (old new : Plain) (c : ℕ) (x : Console) → Only (console_at old.consoles.items) (console_at new.consoles.items) c x
    → contents new ≡ record (contents old) { consoles = new.consoles } → ConsoleBecomes old new c x
console_becomes old new c x consoles rest = record { consoles = consoles; rest = rest }

pub console_machine : (old new : Plain) (c : ℕ) (f : Console → Console) → ConsoleBecomes old new c (f (console_at old.consoles.items c))
    → machine_of new ≡ on_console (machine_of old) c f
unfolding machine_of
console_machine old new c f b = machine_is _ _
    (λ k t. raw_at (b.rest t).files (b.rest t).core (b.rest t).jobs (b.rest t).alarms.items k) (changed_at _ _ c _ b.consoles.here b.consoles.others)
    (λ k. ap (λ l. holder_at l k) (holders_as b.rest)) (ap directory (files_as b.rest)) (clock_as b.rest) (version_as b.rest)
    (λ k. ap (λ l. symbols_at l.items k) (symbols_as b.rest)) (λ k. ap (λ l. piped l k) (pipes_as b.rest))

pub console_tidy : (old new : Plain) (c : ℕ) (x : Console) → ConsoleBecomes old new c x → Tidy old → Tidy new
console_tidy old new c x b tidy = record {
  unreserved = λ k. ap (λ m. clear_at m k) (core_as b.rest) ∙ tidy.unreserved k;
  unmarked = ap (λ (s : Store). s.mark) (files_as b.rest) ∙ tidy.unmarked;
  across = subst (λ (s : Store). Across s new.jobs) (sym (files_as b.rest)) (subst (Across old.files) (sym (jobs_as b.rest)) tidy.across);
  blank = λ k h. ap (λ m. core_at m k) (core_as b.rest) ∙ tidy.blank k (sym (ap (λ t. job_at t k) (jobs_as b.rest)) ∙ h);
  quiet = λ k h. ap (λ l. alarm_at l.items k) (alarms_as b.rest) ∙ tidy.quiet k (sym (ap (λ t. job_at t k) (jobs_as b.rest)) ∙ h);
  nameless = λ k h. ap (λ l. symbols_at l.items k) (symbols_as b.rest) ∙ tidy.nameless k (sym (ap (λ t. job_at t k) (jobs_as b.rest)) ∙ h);
  addressed = λ k. subst IsPlaced (sym (ap (λ t. job_at t k) (jobs_as b.rest))) (tidy.addressed k);
  timed = subst (λ t. t < clock_end) (sym (clock_as b.rest)) tidy.timed;
}

-- the line, after which nobody is touched
pub console_stands : (old put new : Plain) (c : ℕ) (f : Console → Console) → ConsoleBecomes old put c (f (console_at old.consoles.items c))
    → new ≡ record put { touched = no_slots }
    → Stands old new (on_console (machine_of old) c f)
console_stands old put new c f b e = record {
  machine = touched_machine put new no_slots e ∙ console_machine old put c f b;
  touched = none_touched new.touched (ap (λ (p : Plain). p.touched) e);
  place = ap (λ (p : Plain). p.place) e ∙ place_as b.rest;
}

pub console_keeps : (old put new : Plain) (c : ℕ) (x : Console) → ConsoleBecomes old put c x → new ≡ record put { touched = no_slots } → Tidy old → Tidy new
console_keeps old put new c x b e tidy = touched_tidy put new no_slots e (console_tidy old put c x b tidy)

pub console_is : (p : Plain) (c : ℕ) → (machine_of p).consoles c ≡ console_at p.consoles.items c
unfolding machine_of
console_is p c = refl

-- bytes are typed one by one: those so far
pub record Typing (bytes : List ℕ) (i : ℕ) (old now : Console) (lost : ℕ) : Type 0 where
  pub room : length old.input ≤ most_waiting
  pub typed : now ≡ record old { input = take most_waiting (old.input ++ take i bytes) }
  pub dropped : lost ≡ i - (most_waiting - length old.input)

pub typing_begins : (bytes : List ℕ) (old : Console) (n : ℕ) → n ≡ length old.input → n ≤ most_waiting → Typing bytes 0 old old 0
typing_begins bytes old n e l = record {
  room = omega arith;
  typed = ap (λ (xs : List ℕ). record old { input = xs }) (sym
      (ap (take most_waiting) (append-nil old.input) ∙ take_all most_waiting old.input (omega arith)));
  dropped = omega arith;
}

module _ (bytes : List ℕ) (i b d : ℕ) (old now new : Console) (lost : ℕ) (t : Typing bytes i old now lost) (is : b ≡ get_or bytes i d)
    (l : i < length bytes) where
  long : length now.input ≡ length (take most_waiting (old.input ++ take i bytes))
  long = ap (λ (x : Console). length x.input) t.typed

  all : length (old.input ++ take i bytes) ≡ length old.input + i
  all = let a = length-append old.input (take i bytes) in let c = length-take-le i bytes (omega arith) in omega arith

  next : (old.input ++ take i bytes) ++ b ∷ [] ≡ old.input ++ take (i + 1) bytes
  next = append_assoc old.input (take i bytes) (b ∷ []) ∙ ap (λ ys. old.input ++ ys) (ap (λ y. take i bytes ++ y ∷ []) is ∙ sym (take_more bytes i d l))

  few : length now.input < most_waiting → length old.input + i < most_waiting
  few h = elim (cases_lt (length old.input + i) most_waiting) [
    | inl less ↦ less
    | inr more ↦ let a = all in let c = length-take-le most_waiting (old.input ++ take i bytes) (omega arith) in let d = long in absurd (omega arith)
  ]

  pub typing_room : length now.input < most_waiting → new ≡ record now { input = now.input ++ b ∷ [] } → Typing bytes (i + 1) old new lost
  typing_room h e =
      let f = few h in
      let a = all in
      let whole : now.input ≡ old.input ++ take i bytes = ap (λ (x : Console). x.input) t.typed
      ∙ take_all most_waiting (old.input ++ take i bytes) (omega arith) in
      let n = length-append (old.input ++ take i bytes) (b ∷ []) in
      let m = ap (λ (xs : List ℕ). length xs) next in
      record {
        room = t.room;
        typed =
            e ∙ (λ u. record (t.typed u) { input = whole u ++ b ∷ [] })
            ∙ ap (λ (xs : List ℕ). record old { input = xs }) (next ∙ sym (take_all most_waiting (old.input ++ take (i + 1) bytes) (omega arith)));
        dropped = let d = t.dropped in omega arith;
      }

  pub typing_full : most_waiting ≤ length now.input → new ≡ now → Typing bytes (i + 1) old new (lost + 1)
  typing_full h e =
      let a = all in
      let c = long in
      let past : most_waiting ≤ length old.input + i = elim (cases_lt (length old.input + i) most_waiting) [
        | inl less ↦ let w = ap (λ (xs : List ℕ). length xs) (take_all most_waiting (old.input ++ take i bytes) (omega arith)) in omega arith
        | inr more ↦ more
      ] in
      record {
        room = t.room;
        typed =
            e ∙ t.typed
            ∙ ap (λ (xs : List ℕ). record old { input = xs })
            (sym (take-append-le most_waiting (old.input ++ take i bytes) (b ∷ []) (omega arith)) ∙ ap (take most_waiting) next);
        dropped = let d = t.dropped in let r = t.room in omega arith;
      }

  pub typing_more : (kept : Bool) (more : ℕ) → (IsTrue kept ↔ (length now.input < most_waiting))
      → (IsTrue kept → new ≡ record now { input = now.input ++ b ∷ [] }) → (kept ≡ false → new ≡ now)
      → more ≡ lost + lost_of kept → Typing bytes (i + 1) old new more
  typing_more true more taken put same e = let z : more ≡ lost =
      omega arith in subst (Typing bytes (i + 1) old new) (sym z) (typing_room (taken.0 refl) (put refl))
  typing_more false more taken put same e = subst (Typing bytes (i + 1) old new) (sym e) (typing_full past (same refl))
    where
      past : most_waiting ≤ length now.input
      past = elim (cases_lt (length now.input) most_waiting) [
        | inl less ↦ let wrong : false ≡ true = taken.1 less in absurd cc
        | inr more ↦ more
      ]

pub typing_ends : (bytes : List ℕ) (i : ℕ) (old now : Console) (lost : ℕ) → Typing bytes i old now lost → length bytes ≤ i → i ≤ length bytes
    → (lost ≡ dropped old bytes) × (now ≡ record old { input = take most_waiting (old.input ++ bytes) })
typing_ends bytes i old now lost t l m =
    let e : i ≡ length bytes = omega arith in (
      t.dropped ∙ ap (λ n. n - (most_waiting - length old.input)) e,
      t.typed ∙ ap (λ (ys : List ℕ). record old { input = take most_waiting (old.input ++ ys) }) (take_all i bytes l),
    )

-- bytes are drained one by one
head_next : (xs : List ℕ) (k : ℕ) → take (suc k) xs ≡ take k xs ++ cons_option (slice_get (drop k xs) 0) []
head_next [] zero = refl
head_next [] (suc k) = refl
head_next (x ∷ xs) zero = refl
head_next (x ∷ xs) (suc k) = ap (λ ys. x ∷ ys) (head_next xs k)

pub head_more : (xs : List ℕ) (k : ℕ) → take (k + 1) xs ≡ take k xs ++ cons_option (slice_get (drop k xs) 0) []
head_more xs k = let e : k + 1 ≡ suc k = omega arith in ap (λ n. take n xs) e ∙ head_next xs k

option_few : (o : Option ℕ) → length (cons_option o []) ≤ 1
option_few (Some x) = omega arith
option_few None = omega arith

pub record Draining (k : ℕ) (old now : Console) (out : List ℕ) : Type 0 where
  pub few : length out ≤ k
  pub out_is : out ≡ take k old.output
  pub rest : now ≡ record old { output = drop k old.output }

pub draining_begins : (old : Console) → Draining 0 old old []
draining_begins old = record { few = omega arith; out_is = refl; rest = refl }

left : (k : ℕ) (old now new : Console) (out : List ℕ) → Draining k old now out → new ≡ record now { output = drop 1 now.output }
    → new ≡ record old { output = drop (k + 1) old.output }
left k old now new out d e =
    e ∙ ap (λ (x : Console). record x { output = drop 1 x.output }) d.rest
    ∙ ap (λ (ys : List ℕ). record old { output = ys }) (drop-drop 1 k old.output)

pub draining_more : (k : ℕ) (old now new : Console) (out more : List ℕ) → Draining k old now out
    → new ≡ record now { output = drop 1 now.output } → more ≡ out ++ cons_option (slice_get now.output 0) []
    → Draining (k + 1) old new more
draining_more k old now new out more d e m = record {
  few =
      let n = ap (λ (xs : List ℕ). length xs) m in
      let l = length-append out (cons_option (slice_get now.output 0) []) in
      let o = option_few (slice_get now.output 0) in
      let f = d.few in
      omega arith;
  out_is =
      m ∙ ap (λ xs. xs ++ cons_option (slice_get now.output 0) []) d.out_is
      ∙ ap (λ (x : Console). take k old.output ++ cons_option (slice_get x.output 0) []) d.rest ∙ sym (head_more old.output k);
  rest = left k old now new out d e;
}
