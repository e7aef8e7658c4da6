-- What may follow a session may follow its checkpoint: a transcript of lines is one from any walk
-- with the same machine, no more dots and, inside a block, the same block.
use Rattle.std.specs.Prelude.{if◌then◌else◌, ◌≡◌, ◌≢◌, ◌≤◌, ◌==◌, ◌||◌, ℕ, ◌+◌, Bool, true, false, Option, Some, None, Result, Ok, Err, List, refl}
use Rattle.std.proofs.Common.{sym, ap, subst, arith}
use Rattle.its_records.specs.Item.{Item}
use Rattle.its_records.specs.declared.calls.Pace.{Pace}
use Rattle.its_records.specs.declared.calls.Pace.TheVariants.{Step, Work, Wait, Off}
use Rattle.its_records.specs.declared.session.Event.{Event}
use Rattle.its_records.specs.declared.session.Event.TheVariants as events
use Rattle.its_records.specs.declared.session.Place.{Place}
use Rattle.its_records.specs.declared.session.Place.TheVariants as places
use Rattle.its_records.specs.declared.session.Reason.{Reason}
use Rattle.its_records.specs.declared.state_line.StateLine.{StateLine}
use Rattle.its_records.specs.declared.state_line.StateLine.TheVariants as states
use Rattle.its_print.specs.Printing.{Line}
use Rattle.its_records.specs.declared.show.JobShow.{JobShow}
use Rattle.its_print.specs.Printing as printed
use Rattle.its_session.specs.Grammar.{is_at}
use Rattle.its_session.specs.Fits.{Stands, place_of}
use Rattle.its_session.specs.Events.{place_after}
use Rattle.its_plain.specs.Call.Step.{disturbed, makes}
use Rattle.its_plain.specs.Transcript.Licence.{Licensed, Dots, dots_after, dots_after_line}
use Rattle.its_plain.specs.Machine.{Whole, Machine}
use Rattle.its_plain.specs.Operator.{Block, Operated, Refuses, Does, Ticks, Quits, quietly, disturbs}
use Rattle.its_plain.specs.Machine.Own.{names_of}
use Rattle.its_plain.specs.Operator.Clock.{after_clock}
use Rattle.its_plain.specs.Operator.Files.{with_file_made, with_words_added, file_shown}
use Rattle.its_plain.specs.Operator.State.{with_job_made, after_registers, with_alarm_set, with_superior_set, with_tty, with_disk, with_draft, with_words_written, with_usr, with_link, with_words_sent, with_end_shut, with_bytes_waiting, with_holder_set, restored}
use Rattle.its_plain.specs.Operator.Symbols.{with_symbol_kept}
use Rattle.its_plain.specs.Operator.Jobs.{after_load, with_words_loaded, with_page_protected, after_go, after_int, after_stop, after_cont, on_registers, examined, state_shown, after_deposit}
use Rattle.its_plain.specs.Operator.Lines.{Lined, Done, Peeks, lined, operate, in_a_line, by_load, by_exam, by_state, shows, by_clock, peeked_at}
use Rattle.its_plain.specs.Transcript.{Fate, Refused, Walk, after_letter, walk_after, next_line, Paced, Turned, Shows}
use Rattle.its_plain.specs.Transcript as transcript
use Rattle.its_saved.specs.GoingOn.{BlockAlike, NoMoreDots, ReadAt}
use Rattle.its_plain.specs.Transcript.Turns.{turn_after, ticks_asked}

-- the same effect of a line, but for the block that is left
pub data SameLined (p : Place) : Lined → Lined → Type 0 where
  quits : SameLined p (Done Quits) (Done Quits)
  refuses : {r : Reason} → SameLined p (Done (Refuses r)) (Done (Refuses r))
  ticks : {s n : ℕ} → ((b c : Block) → BlockAlike p b c) → SameLined p (Done (Ticks s n)) (Done (Ticks s n))
  peeks : {s : ℕ} → ((b c : Block) → BlockAlike p b c) → SameLined p (Peeks s) (Peeks s)
  does : {n : Machine} {out : List Line} {touched : ℕ → Bool} {b c : Block} → BlockAlike p b c
      → SameLined p (Done (Does n out touched b)) (Done (Does n out touched c))

module _ (p : Place) (b c : Block) (h : BlockAlike p b c) where
  quietly_same : (r : Result Machine Reason) → SameLined p (Done (quietly b r)) (Done (quietly c r))
  quietly_same (Ok n) = does h
  quietly_same (Err r) = refuses

  disturbs_same : (s : ℕ) (r : Result Machine Reason) → SameLined p (Done (disturbs s b r)) (Done (disturbs s c r))
  disturbs_same s (Ok n) = does h
  disturbs_same s (Err r) = refuses

-- the same effect from the same block
alike_self : (p : Place) (b : Block) → BlockAlike p b b
alike_self places.First b = tt
alike_self places.Plain b = tt
alike_self places.System b = refl
alike_self places.Load b = refl
alike_self places.File b = refl

abbrev Acts : Operated → Type 0
Acts (Does n out touched b) = Unit {0}
Acts (Refuses r) = Unit {0}
Acts (Ticks s n) = ⊥
Acts Quits = ⊥

acts_same : (p : Place) (o : Operated) → Acts o → SameLined p (Done o) (Done o)
acts_same p (Does n out touched b) h = does (alike_self p b)
acts_same p (Refuses r) h = refuses
acts_same p (Ticks s n) h = absurd h
acts_same p Quits h = absurd h

quietly_acts : (b : Block) (r : Result Machine Reason) → Acts (quietly b r)
quietly_acts b (Ok n) = tt
quietly_acts b (Err r) = tt

disturbs_acts : (s : ℕ) (b : Block) (r : Result Machine Reason) → Acts (disturbs s b r)
disturbs_acts s b (Ok n) = tt
disturbs_acts s b (Err r) = tt

clock_acts : (m : Machine) (b : Block) (n : ℕ) (r : Result Machine Reason) → Acts (by_clock m b n r)
clock_acts m b n (Ok k) = tt
clock_acts m b n (Err r) = tt

restored_acts : (m : Machine) (b : Block) (l : StateLine) → Acts (restored m b l)
unfolding restored
restored_acts m b (states.System v) = tt
restored_acts m b (states.Clock n) = clock_acts m b n (after_clock m n)
restored_acts m b (states.File d x y) = quietly_acts (record b { file = names_of d x y }) (with_file_made m (names_of d x y))
restored_acts m b (states.FileWords ws) = quietly_acts b (with_words_added m b.file ws.items)
restored_acts m b (states.Job s u j c) = disturbs_acts s (record b { slot = s }) (with_job_made m s u j c)
restored_acts m b (states.CoreWords a ws) = disturbs_acts b.slot b (with_words_loaded m b.slot a ws.items)
restored_acts m b (states.ReadOnly p) = disturbs_acts b.slot b (with_page_protected m b.slot p)
restored_acts m b (states.Symbol x a) = quietly_acts b (with_symbol_kept m b.slot x a)
restored_acts m b (states.Regs r) = disturbs_acts b.slot b (on_registers m b.slot (after_registers r))
restored_acts m b (states.Alarm s p n) = disturbs_acts s b (with_alarm_set m s p n)
restored_acts m b (states.Under s t) = disturbs_acts s b (with_superior_set m s t)
restored_acts m b (states.Tty s n w) = disturbs_acts s b (with_tty m s n w)
restored_acts m b (states.Disk s n d x y at) = disturbs_acts s b (with_disk m s n (names_of d x y) at)
restored_acts m b (states.Draft s n d x y) = disturbs_acts s b (with_draft m s n (names_of d x y))
restored_acts m b (states.Wrote s n ws) = disturbs_acts s b (with_words_written m s n ws.items)
restored_acts m b (states.Usr s n t w at) = disturbs_acts s b (with_usr m s n t w at)
restored_acts m b (states.Join s n l w x y) = disturbs_acts s b (with_link m s n l w x y)
restored_acts m b (states.Sent l ws) = quietly_acts b (with_words_sent m l ws.items)
restored_acts m b (states.EndShut l w) = quietly_acts b (with_end_shut m l w)
restored_acts m b (states.Input c bs) = quietly_acts b (with_bytes_waiting m c false bs.items)
restored_acts m b (states.Output c bs) = quietly_acts b (with_bytes_waiting m c true bs.items)
restored_acts m b (states.Hold c s) = quietly_acts b (with_holder_set m c s)
restored_acts m b (states.Turn s) = tt
restored_acts m b states.Ready = tt

-- a line outside blocks
outside : (m : Machine) (b c : Block) (e : Event) → Stands places.First e → SameLined (place_after places.Plain e) (lined m b e) (lined m c e)
unfolding lined operate restored
outside m b c events.Nothing h = does tt
outside m b c (events.Version v) h = does tt
outside m b c (events.Load u j console) h = by (after_load m u j console)
  where
    by : (r : Result (Machine × ℕ) Reason) → SameLined places.Load (Done (by_load b r)) (Done (by_load c r))
    by (Ok (n, s)) = does refl
    by (Err r) = refuses
outside m b c (events.Words a words) h = cc
outside m b c (events.ReadOnly page) h = cc
outside m b c (events.Symbol name a) h = cc
outside m b c (events.Go a) h = cc
outside m b c (events.File d x y) h = quietly_same places.File (record b { file = names_of d x y }) (record c { file = names_of d x y })
    refl (with_file_made m (names_of d x y))
outside m b c (events.Append words) h = cc
outside m b c events.EndFile h = cc
outside m b c (events.Tick s n) h = ticks (λ b c. tt)
outside m b c (events.Run n q) h = does tt
outside m b c (events.TypeIn d bytes) h = does tt
outside m b c (events.Drain d n) h = does tt
outside m b c (events.Clock n) h = by (after_clock m n)
  where
    by : (r : Result Machine Reason) → SameLined places.Plain (Done (by_clock m b n r)) (Done (by_clock m c n r))
    by (Ok k) = does tt
    by (Err r) = refuses
outside m b c (events.Int s v w) h = disturbs_same places.Plain b c tt s (on_registers m s (after_int v w))
outside m b c (events.Exam s a n) h = by (examined m s a n)
  where
    by : (r : Result (List ℕ) Reason) → SameLined places.Plain (Done (by_exam m b s (in_a_line s a) r)) (Done (by_exam m c s (in_a_line s a) r))
    by (Ok ws) = does tt
    by (Err r) = refuses
outside m b c (events.List s a n) h = by (examined m s a n)
  where
    by : (r : Result (List ℕ) Reason) → SameLined places.Plain (Done (by_exam m b s (printed.listed s a) r)) (Done (by_exam m c s (printed.listed s a) r))
    by (Ok ws) = does tt
    by (Err r) = refuses
outside m b c (events.State s) h = by (state_shown m s)
  where
    by : (r : Result JobShow Reason) → SameLined places.Plain (Done (by_state m b s r)) (Done (by_state m c s r))
    by (Ok show) = does tt
    by (Err r) = refuses
outside m b c (events.Deposit s a w) h = disturbs_same places.Plain b c tt s (after_deposit m s a w)
outside m b c (events.Stop s) h = disturbs_same places.Plain b c tt s (on_registers m s after_stop)
outside m b c (events.Cont s) h = disturbs_same places.Plain b c tt s (on_registers m s after_cont)
outside m b c (events.Peek s) h = by (m.jobs s)
  where
    by : (o : Option Whole) → SameLined places.Plain (peeked_at s o) (peeked_at s o)
    by None = refuses
    by (Some q) = peeks (λ b c. tt)
outside m b c (events.Dir d) h = does tt
outside m b c (events.Show d x y) h = by (file_shown m d x y)
  where
    by : (r : Result (List Line) Reason) → SameLined places.Plain (Done (shows m b r)) (Done (shows m c r))
    by (Ok out) = does tt
    by (Err r) = refuses
outside m b c (events.Restore (states.System v)) h = does refl
outside m b c (events.Restore _) h = cc
outside m b c events.End h = quits

-- a line of a LOAD block, and of a FILE block
in_load : (m : Machine) (b c : Block) (e : Event) → Stands places.Load e → c.slot ≡ b.slot → SameLined (place_after places.Load e) (lined m b e) (lined m c e)
unfolding lined operate
in_load m b c events.Nothing h s = does s
in_load m b c (events.Words a words) h s = subst (λ k. SameLined places.Load
    (Done (disturbs b.slot b (with_words_loaded m b.slot a words.items))) (Done (disturbs k c (with_words_loaded m k a words.items))))
    (sym s) (disturbs_same places.Load b c s b.slot (with_words_loaded m b.slot a words.items))
in_load m b c (events.ReadOnly page) h s = subst (λ k. SameLined places.Load (Done (disturbs b.slot b (with_page_protected m b.slot page)))
    (Done (disturbs k c (with_page_protected m k page)))) (sym s) (disturbs_same places.Load b c s b.slot (with_page_protected m b.slot page))
in_load m b c (events.Symbol name a) h s = subst (λ k. SameLined places.Load (Done (quietly b (with_symbol_kept m b.slot name a)))
    (Done (quietly c (with_symbol_kept m k name a)))) (sym s) (quietly_same places.Load b c s (with_symbol_kept m b.slot name a))
in_load m b c (events.Go a) h s = subst (λ k. SameLined places.Plain (Done (disturbs b.slot b (on_registers m b.slot (after_go a))))
    (Done (disturbs k c (on_registers m k (after_go a))))) (sym s) (disturbs_same places.Plain b c tt b.slot (on_registers m b.slot (after_go a)))
in_load m b c (events.Restore (states.System v)) h s = cc
in_load m b c (events.Restore _) h s = cc
in_load m b c _ h s = cc

in_file : (m : Machine) (b c : Block) (e : Event) → Stands places.File e → c.file ≡ b.file → SameLined (place_after places.File e) (lined m b e) (lined m c e)
unfolding lined operate
in_file m b c events.Nothing h s = does s
in_file m b c (events.Append words) h s = subst (λ k. SameLined places.File (Done (quietly b (with_words_added m b.file words.items)))
    (Done (quietly c (with_words_added m k words.items)))) (sym s) (quietly_same places.File b c s (with_words_added m b.file words.items))
in_file m b c events.EndFile h s = does tt
in_file m b c (events.Restore (states.System v)) h s = cc
in_file m b c (events.Restore _) h s = cc
in_file m b c _ h s = cc

-- a line of the state part
in_system : (m : Machine) (b c : Block) (e : Event) → Stands places.System e → c ≡ b → SameLined (place_after places.System e) (lined m b e) (lined m c e)
unfolding lined operate
in_system m b c events.Nothing h s = does s
in_system m b c (events.Restore l) h s = subst (λ x. SameLined (place_after places.System (events.Restore l)) (Done (restored m b l)) (Done (restored m x l)))
    (sym s) (acts_same (place_after places.System (events.Restore l)) (restored m b l) (restored_acts m b l))
in_system m b c _ h s = cc

first_after : (e : Event) → place_after places.First e ≡ place_after places.Plain e
first_after (events.Load u j console) = refl
first_after (events.Go a) = refl
first_after (events.File d x y) = refl
first_after events.EndFile = refl
first_after (events.Restore (states.System v)) = refl
first_after (events.Restore states.Ready) = refl
first_after (events.Restore _) = refl
first_after e = refl

at_first : (q : Place) → is_at places.Plain q ≡ true → is_at places.First q ≡ true
at_first places.First h = refl
at_first places.Plain h = refl
at_first places.System h = cc
at_first places.Load h = cc
at_first places.File h = cc

stands_first : (e : Event) → Stands places.Plain e → Stands places.First e
stands_first events.Nothing h = tt
stands_first e h = at_first (place_of e) h

same_lined : (p : Place) (m : Machine) (b c : Block) (e : Event) → Stands p e → BlockAlike p b c → SameLined (place_after p e) (lined m b e) (lined m c e)
same_lined places.First m b c e stands alike = subst (λ p. SameLined p (lined m b e) (lined m c e)) (sym (first_after e)) (outside m b c e stands)
same_lined places.Plain m b c e stands alike = outside m b c e (stands_first e stands)
same_lined places.System m b c e stands alike = in_system m b c e stands alike
same_lined places.Load m b c e stands alike = in_load m b c e stands alike
same_lined places.File m b c e stands alike = in_file m b c e stands alike

-- dots after a letter, and after a line
dots_fewer : (m : Machine) (d e : Dots) → ((k : ℕ) → e k ≤ d k) → (i : ℕ) (x : Pace) (k : ℕ) → dots_after m e i x k ≤ dots_after m d i x k
dots_fewer m d e h i Step k = by ((k == i) || disturbed m i k || makes m i k)
  where
    by : (b : Bool) → (if b then 0 else e k) ≤ (if b then 0 else d k)
    by true = omega arith
    by false = h k
dots_fewer m d e h i Work k = by (k == i)
  where
    by : (b : Bool) → (if b then e k + 1 else e k) ≤ (if b then d k + 1 else d k)
    by true = let x = h k in omega arith
    by false = h k
dots_fewer m d e h i Wait k = h k
dots_fewer m d e h i Off k = h k

line_fewer : (d e : Dots) (touched : ℕ → Bool) → ((k : ℕ) → e k ≤ d k) → (k : ℕ) → dots_after_line e touched k ≤ dots_after_line d touched k
line_fewer d e touched h k = by (touched k)
  where
    by : (b : Bool) → (if b then 0 else e k) ≤ (if b then 0 else d k)
    by true = omega arith
    by false = h k

-- letters
pub record PacedOn (p : Place) (i : ℕ) (v : Walk) (ps : List Pace) (w : Walk) : Type 0 where
  pub walk : Walk
  pub paced : Paced i v ps walk
  pub no_more : NoMoreDots p w walk

letters_on : (p : Place) (i : ℕ) {v w : Walk} {ps : List Pace} (u : Walk) → NoMoreDots p v u → Paced i v ps w → PacedOn p i u ps w
letters_on p i u h transcript.none = record { walk = u; paced = transcript.none; no_more = h }
letters_on p i {v = v} u h (transcript.letter {p = x} n licensed few rest) =
    let next : NoMoreDots p (after_letter v i x n) (after_letter u i x n) = record {
      machine = refl;
      dots = λ k. subst (λ m. dots_after m u.dots i x k ≤ dots_after v.machine v.dots i x k) (sym h.machine)
          (dots_fewer v.machine v.dots u.dots h.dots i x k);
      block = h.block;
    } in
    let on = letters_on p i (after_letter u i x n) next rest in
    record {
      walk = on.walk;
      paced = transcript.letter n (subst (λ m. Licensed m i x n) (sym h.machine) licensed) (λ e. let a = few e in let b = h.dots i in omega arith) on.paced;
      no_more = on.no_more;
    }

-- turns
pub record TurnedOn (p : Place) (q n last : ℕ) (u : Walk) (lines : List Line) (x : Walk) (l : ℕ) (rest : List Line) : Type 0 where
  pub walk : Walk
  pub turned : Turned q n u last lines walk l rest
  pub no_more : NoMoreDots p x walk

turns_on : (p : Place) (q : ℕ) {n last : ℕ} {v : Walk} {lines : List Line} {x : Walk} {l : ℕ} {rest : List Line} (u : Walk)
    → NoMoreDots p v u → Turned q n v last lines x l rest → TurnedOn p q n last u lines x l rest
turns_on p q u h transcript.all_made = record { walk = u; turned = transcript.all_made; no_more = h }
turns_on p q {last = last} u h (transcript.none_runs nobody) =
    record { walk = u; turned = transcript.none_runs (subst (λ m. turn_after m last ≡ None) (sym h.machine) nobody); no_more = h }
turns_on p q {last = last} u h (transcript.a_turn {s = s} chosen long paced rest) =
    let a = letters_on p s u h paced in
    let b = turns_on p q a.walk a.no_more rest in
    record {
      walk = b.walk;
      turned = transcript.a_turn (subst (λ m. turn_after m last ≡ Some s) (sym h.machine) chosen) long a.paced
          b.turned;
      no_more = b.no_more;
    }

-- what an event does, from either walk
same_from : (p : Place) (v u : Walk) (e : Event) → Stands p e → NoMoreDots p v u
    → SameLined (place_after p e) (lined v.machine v.block e) (lined u.machine u.block e)
same_from p v u e stands h = subst (λ m. SameLined (place_after p e) (lined v.machine v.block e) (lined m u.block e)) (sym h.machine)
    (same_lined p v.machine v.block u.block e stands h.block)

-- the effect that is known of the one is that of the other
record DoesOn (p : Place) (n : Machine) (out : List Line) (touched : ℕ → Bool) (b : Block) (l : Lined) : Type 0 where
  pub block : Block
  pub does : l ≡ Done (Does n out touched block)
  pub alike : BlockAlike p b block

quits_on : (p : Place) (k l : Lined) → SameLined p k l → k ≡ Done Quits → l ≡ Done Quits
quits_on p k l quits e = refl
quits_on p k l refuses e = cc
quits_on p k l (ticks any) e = cc
quits_on p k l (peeks any) e = cc
quits_on p k l (does a) e = cc

ticks_on : (p : Place) (k l : Lined) (s n : ℕ) → SameLined p k l → k ≡ Done (Ticks s n) → (l ≡ Done (Ticks s n)) × ((b c : Block) → BlockAlike p b c)
ticks_on p k l s n (ticks any) e = (e, any)
ticks_on p k l s n quits e = cc
ticks_on p k l s n refuses e = cc
ticks_on p k l s n (peeks any) e = cc
ticks_on p k l s n (does a) e = cc

peeks_on : (p : Place) (k l : Lined) (s : ℕ) → SameLined p k l → k ≡ Peeks s → (l ≡ Peeks s) × ((b c : Block) → BlockAlike p b c)
peeks_on p k l s (peeks any) e = (e, any)
peeks_on p k l s (ticks any) e = cc
peeks_on p k l s quits e = cc
peeks_on p k l s refuses e = cc
peeks_on p k l s (does a) e = cc

abbrev leaving : Block → Lined → Lined
leaving c (Done (Does n out touched b)) = Done (Does n out touched c)
leaving c (Done (Refuses r)) = Done (Refuses r)
leaving c (Done (Ticks s n)) = Done (Ticks s n)
leaving c (Done Quits) = Done Quits
leaving c (Peeks s) = Peeks s

abbrev block_left : Block → Lined → Block
block_left d (Done (Does n out touched b)) = b
block_left d _ = d

does_on : (p : Place) (k l : Lined) (n : Machine) (out : List Line) (touched : ℕ → Bool) (b : Block) → SameLined p k l
    → k ≡ Done (Does n out touched b) → DoesOn p n out touched b l
does_on p k l n out touched b (does {b = b'} {c = c'} a) e =
    record { block = c'; does = ap (leaving c') e; alike = subst (λ x. BlockAlike p x c') (ap (block_left b') e) a }
does_on p k l n out touched b (peeks any) e = cc
does_on p k l n out touched b (ticks any) e = cc
does_on p k l n out touched b quits e = cc
does_on p k l n out touched b refuses e = cc

-- a transcript from a walk is one from any walk with no more dots, if no line is refused: a `?`
-- line has the number of its line, which is another one
pub goes_on : (p : Place) {v : Walk} {last : ℕ} {es : List Item} {lines : List Line} {fate : Fate} (u : Walk) → ReadAt p es
    → NoMoreDots p v u → fate ≢ Refused → Shows v last es lines fate → Shows u last es lines fate
goes_on p {v = v} u stands h unrefused (transcript.end_line {e = e} is) =
    transcript.end_line (quits_on (place_after p e) (lined v.machine v.block e) (lined u.machine u.block e) (same_from p v u e stands.0 h) is)
goes_on p u stands h unrefused transcript.input_end = transcript.input_end
goes_on p u stands h unrefused transcript.too_long = transcript.too_long
goes_on p u stands h unrefused transcript.unread_line = absurd (unrefused refl)
goes_on p u stands h unrefused (transcript.refused_line is) = absurd (unrefused refl)
goes_on p {v = v} u stands h unrefused (transcript.obeyed_line {e = e} {n = n} {out = out} {touched = touched} {b = b} is at turned more) =
    let q = place_after p e in
    let d = does_on q (lined v.machine v.block e) (lined u.machine u.block e) n out touched b (same_from p v u e stands.0 h) is in
    let next : NoMoreDots q (next_line (walk_after v n touched b)) (next_line (walk_after u n touched d.block)) =
    record { machine = refl; dots = line_fewer v.dots u.dots touched h.dots; block = d.alike } in
    let t = turns_on q (ticks_asked e) (next_line (walk_after u n touched d.block)) next turned in
    transcript.obeyed_line d.does at t.turned (goes_on q t.walk stands.1 t.no_more unrefused more)
goes_on p {v = v} u stands h unrefused (transcript.tick_line {e = e} {i = i} {k = k} is long paced more) =
    let q = place_after p e in
    let l = letters_on p i u h paced in
    let t = ticks_on q (lined v.machine v.block e) (lined u.machine u.block e) i k (same_from p v u e stands.0 h) is in
    transcript.tick_line t.0 long l.paced (goes_on q (next_line l.walk) stands.1
    (record { machine = l.no_more.machine; dots = l.no_more.dots; block = t.1 _ _ }) unrefused more)
goes_on p {v = v} u stands h unrefused (transcript.peek_line {e = e} {i = i} is more) =
    let q = place_after p e in
    let t = peeks_on q (lined v.machine v.block e) (lined u.machine u.block e) i (same_from p v u e stands.0 h) is in
    transcript.peek_line t.0 (goes_on q (next_line u) stands.1 (record { machine = h.machine; dots = h.dots; block = t.1 _ _ }) unrefused more)
