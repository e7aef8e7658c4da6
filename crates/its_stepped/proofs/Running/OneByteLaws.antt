-- Each step of a SIOT moves one byte and leaves the call at the rest, or ends the call and moves
-- none.
use Rattle.std.specs.Prelude.{if◌then◌else◌, ◌==◌, ◌&&◌, ◌≡◌, ◌≢◌, ℕ, ◌+◌, ◌-◌, ◌%◌, ◌^◌, Bool, true, false, Option, Some, None, IfSome, not, is_some, List, [], ◌∷◌, ◌++◌, length, take, drop, slice_get, unwrap_or, refl, option_map, Ok}
use Rattle.std.proofs.lemmas.Bool.{cases_eq, ne_eqb, not-false, or_parts}
use Rattle.std.proofs.lemmas.Option.{same_Some}
use Rattle.std.proofs.Common.{◌∙◌, ap, subst, sym, arith, inl, inr}
use Rattle.its_word.specs.Byte.{load_of, deposit_of}
use Rattle.its_word.specs.Core.{Core, word_at, can_store, store}
use Rattle.its_word.specs.Stores.{stored}
use Rattle.its_word.specs.Word.{right_of}
use Rattle.its_word.proofs.CoreLaws.{word_at-store_same, word_at-can_store}
use Rattle.its_records.specs.declared.calls.Ask.{Ask}
use Rattle.its_records.specs.declared.calls.Operand.{Operand}
use Rattle.its_records.specs.declared.calls.Site.{Site}
use Rattle.its_word.specs.declared.plan.Store.{Store}
use Rattle.its_frame.specs.declared.change.Change.{Change}
use Rattle.its_frame.specs.declared.change.Change.TheVariants as changes
use Rattle.its_frame.specs.declared.decision.Decision.{Decision}
use Rattle.its_frame.specs.declared.decision.Decision.TheVariants.{Waits}
use Rattle.its_frame.specs.declared.decision.Held.{Held}
use Rattle.its_frame.specs.declared.decision.Wait.TheVariants.{Input, Output, Empty, Room}
use Rattle.its_frame.specs.declared.name.CallName.{CallName}
use Rattle.its_frame.specs.declared.name.CallName.TheVariants.{Siot}
use Rattle.its_plain.specs.Call.Arguments.{value_in, operands_with_values, input, debts, with_new_values}
use Rattle.its_plain.specs.Call.Basic.{channel_at}
use Rattle.its_plain.specs.Call.File.{is_full, channels_in, words_of, siot_read, siot_reads, siot_write}
use Rattle.its_plain.specs.Call.Step.{with_held, after_moves, acted, decision, unless_stopped, step, Transition, transition_of, transition}
use Rattle.its_plain.specs.Call.Link.{words_in, is_end_closed, is_dry, is_ended, is_crowded, is_unread, first_word, siot_receive, siot_send}
use Rattle.its_plain.specs.Call.Tty.{view_console, is_empty, is_other, input_waits, output_waits, first_typed, shown_byte, siot_in, siot_out}
use Rattle.its_plain.specs.Call.Transfer.{store_tests, read_tests, next_pointer, siot_tests, siot_by}
use Rattle.its_plain.specs.Call.Device.{siot_on, siot_call}
use Rattle.its_plain.specs.Machine.Change.{in_job, poke, effect, effects}
use Rattle.its_plain.specs.Call.Decide.{call_named, decided_by, decided, target, reach}
use Rattle.its_plain.specs.Call.Footprint.{Stands, in_footprint}
use Rattle.its_plain.specs.Unit.Interrupt.{deliverable}
use Rattle.its_plain.specs.Machine.{Names, File, Chan, Shut, TtyIn, TtyOut, Reads, Writes, On, Linked, Whole, Machine, changed}
use Rattle.its_plain.specs.Promise.OneByte.{ComesIn, GoesOut, word_named, Bears, new_arguments, rest_of_transfer, ByteBy, EachByte, Deposited}
use Rattle.its_plain.specs.Call.Usr.{other_core, at_end, siot_peeks, siot_pokes}
use Rattle.its_plain.specs.Machine.Own.{with_stores, at_position, with_word, on_channel}
use Rattle.its_plain.specs.Call.Tests.{◌⇒◌, fails, goes}
use Rattle.its_plain.specs.Machine.View.{View, view}
use Rattle.its_stepped.specs.Calling.{Calling}
use Rattle.its_stepped.specs.Duty.{AllSpare, HeldFits, Duty}
use Rattle.its_stepped.specs.Forest.{Forest}
use Rattle.its_stepped.specs.Tick.{makes_page, reserves}
use Rattle.its_stepped.specs.Sound.{Stored}
use Rattle.its_stepped.specs.State.{no_state}
use Rattle.its_stepped.proofs.Committing.CommitLaws.{footprint_same}
use Rattle.its_stepped.proofs.Frame.DebtLaws.{debts_none}
use Rattle.its_stepped.proofs.Frame.DecodingLaws.{siot_inputs, decoding}
use Rattle.its_stepped.proofs.Frame.OverLaws.{word_apart}
use Rattle.its_stepped.proofs.Unwinding.RowLaws.{job_only}
use Rattle.its_stepped.proofs.Frame.FrameLaws.{on_slot_other}
use Rattle.its_stepped.proofs.Duties.GivenLaws.{reach_apart}
use Rattle.its_stepped.proofs.Duties.SiotDuty.{debts_apart}
use Rattle.its_stepped.proofs.Duties.DeviceDuty.{siot_duty}
use Rattle.its_stepped.proofs.Frame.PageLaws.{reserves_none}
use Rattle.its_stepped.proofs.Committing.TestLaws.{first_holds}
use Rattle.its_plain.proofs.StepLaws.{transition_called, step_by}

-- the rest of a transfer has the new pointer and the new count
rest_of : (os : List Operand) (w i : ℕ) → length os ≡ 3
    → let rest = take (length os - 2) os ++ operands_with_values (drop (length os - 2) os) (w ∷ i ∷ []) in (value_in (slice_get rest 1) ≡ w)
    × (value_in (slice_get rest 2) ≡ i)
rest_of (x ∷ y ∷ z ∷ []) w i l = (refl, refl)
rest_of _ w i l = absurd (omega arith)

pub rest_pointer : (a : Ask) → length a.inputs.items ≡ 3 → input (rest_of_transfer a) 1 ≡ next_pointer (input a 1)
unfolding with_new_values
rest_pointer a l = (rest_of a.inputs.items (next_pointer (input a 1)) (input a 2 - 1) l).0

pub rest_count : (a : Ask) → length a.inputs.items ≡ 3 → input (rest_of_transfer a) 2 ≡ input a 2 - 1
unfolding with_new_values
rest_count a l = (rest_of a.inputs.items (next_pointer (input a 1)) (input a 2 - 1) l).1

-- a byte that came in is in its word, which is apart from the words of pointer and count
stored_byte : (c : Core) (b w : ℕ) → b % 2 ^ 18 ≡ b → can_store c b ≡ true → word_at (stored c (record { at = b; word = w } ∷ [])) b ≡ Some w
unfolding stored
stored_byte c b w at can = ap (λ (i : ℕ). word_at (store c i w) b) at ∙ word_at-store_same c b w can

pub some_or : {X : Type 0} (o : Option X) (d : X) → is_some o ≡ true → o ≡ Some (unwrap_or o d)
some_or (Some x) d h = refl
some_or None d h = cc

byte_there : (q : Whole) (s : Site) (a : Ask) (h : Option Held) (w i : ℕ) → input (with_new_values a (w ∷ i ∷ [])) 1 ≡ w
    → IfSome h (λ b. in_footprint b.place a ≡ false)
    → IfSome h (λ b. HeldFits q.core (debts a 0) 2 b) → Stands (after_moves a h (w ∷ i ∷ []) q).core q.job s (with_new_values a (w ∷ i ∷ []))
    → IfSome h (Deposited q.core (after_moves a h (w ∷ i ∷ []) q).core w)
byte_there q s a None w i e out f st = tt
byte_there q s a (Some b) w i e out f st =
    let rest : Ask = with_new_values a (w ∷ i ∷ []) in
    let was : ℕ = unwrap_or (word_at q.core b.place) 0 in
    let word : ℕ → ℕ = λ (p : ℕ). deposit_of p was b.byte in
    let c : Core = (after_moves a (Some b) (w ∷ i ∷ []) q).core in
    record {
      word = was;
      was = some_or (word_at q.core b.place) 0 (word_at-can_store q.core b.place f.can);
      is = word_apart (with_held rest (Some b) q).core b.place (debts rest 2)
          (debts_apart c rest 2 b.place (decoding.fetched c q.job s rest st) (footprint_same b.place a (w ∷ i ∷ []) ∙ out))
          ∙ stored_byte q.core b.place (word (input rest 1)) f.placed f.can
          ∙ ap (λ (p : ℕ). Some (word p)) e;
    }

-- the stores of a part are the same whatever the channels of its job are on
moved_is : (a : Ask) (h : Option Held) (vs : List ℕ) (q : Whole) (cs : ℕ → Chan)
    → after_moves a h vs (record q { channels = cs }) ≡ record q { core = (after_moves a h vs q).core; channels = cs }
moved_is a None vs q cs = refl
moved_is a (Some b) vs q cs = refl

-- the result of a decision is machine n
abbrev Acted : Machine → Machine → ℕ → Ask → List ℕ → Decision → Type 0
Acted m n j a ks d = option_map (λ (t : Transition). t.machine) (acted m j a ks d) ≡ Some n

-- what is to be shown of a decision that does its duty, and whose step leads to machine n
abbrev Moved : Machine → Machine → ℕ → Whole → Site → Ask → Decision → Type 0
Moved m n j q s a d = Duty (no_state m) j q s a 0 d → Acted m n j a (reach m j q a) d → ByteBy m j q s a d n

-- what the tests of SIOT leave: pointer and count are words of their own, and the count is not 0
record TestedSiot (a : Ask) : Type 0 where
  pointer : input (rest_of_transfer a) 1 ≡ next_pointer (input a 1)
  counted : input a 2 ≢ 0

-- one byte is moved, by changes after which the job has these channels
goes_on : (m n : Machine) (j : ℕ) (q : Whole) (s : Site) (a : Ask) (cs : List Change) (h : Option Held) (to : ℕ → Chan) → TestedSiot a
    → (AllSpare cs j (no_state m) → (effects cs j m).jobs j ≡ Some (record q { channels = to }))
    → Bears (view m j q (target q a)) (next_pointer (input a 1)) (input a 0) (channel_at q.channels (input a 0)) cs h
    → Moved m n j q s a (goes cs h (new_arguments a))
unfolding acted
goes_on m n j q s a cs h to t has borne g r =
    let w : ℕ = next_pointer (input a 1) in
    let k : ℕ = input a 2 - 1 in
    let f : Whole → Whole = after_moves a h (w ∷ k ∷ []) in
    let base : Machine = effects cs j m in
    let same : in_job base j f ≡ n = same_Some (in_job base j f) n r in
    record {
      after = record q { core = (f q).core; channels = to };
      there = ap (λ (y : Machine). y.jobs j) (sym same) ∙ (job_only base.jobs j (record q { channels = to }) f (has g.spare)).here
          ∙ ap Some (moved_is a h (w ∷ k ∷ []) q to);
      borne = borne;
      deposited = byte_there q s a h w k t.pointer g.outside g.held g.stands;
      registers = refl;
      counted = t.counted;
      stands = g.stands;
      others = sym same;
    }

-- the byte that comes in is there
comes_in : (pointer : ℕ) (o : Option ℕ) (cs : List Change) → is_some o ≡ true
    → ComesIn pointer o cs cs (Some (record { place = right_of pointer; byte = unwrap_or o 0 }))
comes_in pointer (Some b) cs h = record { byte = b; there = refl; taken = refl; held = refl }
comes_in pointer None cs h = absurd cc

-- a byte that goes out is that of a word that is there
abbrev byte_at : View → ℕ → ℕ
byte_at v pointer = load_of pointer (unwrap_or (word_named v pointer) 0)

goes_out : (pointer : ℕ) (o : Option ℕ) (puts : ℕ → List Change) → not (is_some o) ≡ false
    → GoesOut pointer o puts (puts (load_of pointer (unwrap_or o 0))) None
goes_out pointer (Some w) puts h = record { word = w; there = refl; put = refl; none_held = refl }
goes_out pointer None puts h = absurd cc

first_waits : (bs : List ℕ) → is_empty bs ≡ false → is_some (slice_get bs 0) ≡ true
first_waits (b ∷ bs) h = refl
first_waits [] h = absurd cc

-- a byte comes from a console, or goes to one
in_moved : (m n : Machine) (j : ℕ) (q : Whole) (s : Site) (a : Ask) → m.jobs j ≡ Some q → channel_at q.channels (input a 0) ≡ TtyIn → TestedSiot a
    → Moved m n j q s a (siot_in (view m j q (target q a)) a (next_pointer (input a 1)) (input a 2) (view_console (view m j q (target q a))))
unfolding acted effect
in_moved m n j q s a is on t =
    let x : View = view m j q (target q a) in
    let w : ℕ = next_pointer (input a 1) in
    let i : ℕ = view_console x in
    let c : Change = changes.Take i in
    let b : Held = record { place = right_of w; byte = first_typed x i } in
    first_holds (Moved m n j q s a) (store_tests x (right_of w) ++ (input_waits x i ⇒ Waits (Input i) ∷ [])) (goes (c ∷ []) (Some b) (new_arguments a))
    (λ t d r. refl, (λ t d r. refl, (λ t d r. absurd cc, tt)))
    (λ p.
    let there = first_waits (x.consoles i).input (or_parts (is_empty (x.consoles i).input) (is_other x.slot (x.holders i)) p.1.1.0).0 in
    goes_on m n j q s a (c ∷ []) (Some b) q.channels t (λ spare. is)
    (subst (λ (k : Chan). Bears x w (input a 0) k (c ∷ []) (Some b)) (sym on) (comes_in w (slice_get (x.consoles i).input 0) (c ∷ []) there)))

out_moved : (m n : Machine) (j : ℕ) (q : Whole) (s : Site) (a : Ask) → m.jobs j ≡ Some q → channel_at q.channels (input a 0) ≡ TtyOut → TestedSiot a
    → Moved m n j q s a (siot_out (view m j q (target q a)) a (next_pointer (input a 1)) (input a 2) (view_console (view m j q (target q a))))
unfolding acted effect
out_moved m n j q s a is on t =
    let x : View = view m j q (target q a) in
    let w : ℕ = next_pointer (input a 1) in
    let i : ℕ = view_console x in
    let puts : ℕ → List Change = λ b. changes.Put i (shown_byte b) ∷ [] in
    first_holds (Moved m n j q s a) (read_tests x (right_of w) ++ (output_waits x i ⇒ Waits (Output i) ∷ []))
    (goes (puts (byte_at x w)) None (new_arguments a))
    (λ t d r. refl, (λ t d r. absurd cc, tt))
    (λ p. goes_on m n j q s a (puts (byte_at x w)) None q.channels t (λ spare. is)
    (subst (λ (k : Chan). Bears x w (input a 0) k (puts (byte_at x w)) None) (sym on) (goes_out w (word_named x w) puts p.0)))

-- a word comes from a link, or goes to one
not_empty : (b c : Bool) → (b && not c) ≡ false → (b && c) ≡ false → b ≡ false
not_empty false c h e = refl
not_empty true true h e = cc
not_empty true false h e = cc

receive_moved : (m n : Machine) (j : ℕ) (q : Whole) (s : Site) (a : Ask) (l : ℕ) → m.jobs j ≡ Some q
    → channel_at q.channels (input a 0) ≡ Linked l false → is_ended ((view m j q (target q a)).links l) ≡ false → TestedSiot a
    → Moved m n j q s a (siot_receive (view m j q (target q a)) (next_pointer (input a 1)) (input a 2) l)
unfolding acted effect
receive_moved m n j q s a l is on more t =
    let x : View = view m j q (target q a) in
    let w : ℕ = next_pointer (input a 1) in
    let c : Change = changes.Receive l in
    let b : Held = record { place = right_of w; byte = first_word x l } in
    let o : Option ℕ = slice_get (words_in (x.links l)) 0 in
    first_holds (Moved m n j q s a) (store_tests x (right_of w) ++ (is_dry (x.links l) ⇒ Waits (Empty l) ∷ []))
    (goes (c ∷ []) (Some b) (new_arguments a))
    (λ t d r. refl, (λ t d r. refl, (λ t d r. absurd cc, tt)))
    (λ p.
    let there = first_waits (words_in (x.links l)) (not_empty (is_empty (words_in (x.links l))) (is_end_closed true (x.links l)) p.1.1.0 more) in
    goes_on m n j q s a (c ∷ []) (Some b) q.channels t (λ spare. is)
    (subst (λ (k : Chan). Bears x w (input a 0) k (c ∷ []) (Some b)) (sym on) (comes_in w o (c ∷ []) there)))

send_moved : (m n : Machine) (j : ℕ) (q : Whole) (s : Site) (a : Ask) (l : ℕ) → m.jobs j ≡ Some q
    → channel_at q.channels (input a 0) ≡ Linked l true → TestedSiot a
    → Moved m n j q s a (siot_send (view m j q (target q a)) a (next_pointer (input a 1)) (input a 2) l)
unfolding acted effect
send_moved m n j q s a l is on t =
    let x : View = view m j q (target q a) in
    let w : ℕ = next_pointer (input a 1) in
    let puts : ℕ → List Change = λ b. changes.Send l b ∷ [] in
    first_holds (Moved m n j q s a)
    (read_tests x (right_of w) ++ (is_unread (x.links l) ⇒ fails x a 0o26 ∷ is_crowded (x.links l) ⇒ Waits (Room l) ∷ []))
    (goes (puts (byte_at x w)) None (new_arguments a))
    (λ t d r. refl, (λ t d r. refl, (λ t d r. absurd cc, tt)))
    (λ p. goes_on m n j q s a (puts (byte_at x w)) None q.channels t (λ spare. is)
    (subst (λ (k : Chan). Bears x w (input a 0) k (puts (byte_at x w)) None) (sym on) (goes_out w (word_named x w) puts p.0)))

-- a word comes from a file or an inferior, goes to a draft, or goes into an inferior
abbrev next_position : Whole → ℕ → ℕ → ℕ → Chan
next_position q i at = changed q.channels i (at_position (at + 1) (q.channels i))

read_moved : (m n : Machine) (j : ℕ) (q : Whole) (s : Site) (a : Ask) (h : Chan) (at word : ℕ) → m.jobs j ≡ Some q → channel_at q.channels (input a 0) ≡ h
    → (let w = next_pointer (input a 1) in Bears (view m j q (target q a)) w (input a 0) h (changes.Move (input a 0) (at + 1) ∷ [])
    (Some (record { place = right_of w; byte = word })))
    → TestedSiot a → Moved m n j q s a (siot_read (view m j q (target q a)) (next_pointer (input a 1)) (input a 2) (input a 0) at word)
unfolding effect
read_moved m n j q s a h at word is on borne t =
    let x : View = view m j q (target q a) in
    let w : ℕ = next_pointer (input a 1) in
    let i : ℕ = input a 0 in
    let c : Change = changes.Move i (at + 1) in
    let b : Held = record { place = right_of w; byte = word } in
    first_holds (Moved m n j q s a) (store_tests x (right_of w)) (goes (c ∷ []) (Some b) (new_arguments a)) (λ t d r. refl, (λ t d r. refl, tt))
    (λ p. goes_on m n j q s a (c ∷ []) (Some b) (next_position q i at) t (λ spare. (job_only m.jobs j q (on_channel i (at_position (at + 1))) is).here)
    (subst (λ (k : Chan). Bears x w i k (c ∷ []) (Some b)) (sym on) borne))

write_moved : (m n : Machine) (j : ℕ) (q : Whole) (s : Site) (a : Ask) (f : File) → m.jobs j ≡ Some q
    → channel_at q.channels (input a 0) ≡ Writes f → TestedSiot a
    → Moved m n j q s a (siot_write (view m j q (target q a)) a (next_pointer (input a 1)) (input a 2) (input a 0) f)
unfolding effect
write_moved m n j q s a f is on t =
    let x : View = view m j q (target q a) in
    let w : ℕ = next_pointer (input a 1) in
    let i : ℕ = input a 0 in
    let puts : ℕ → List Change = λ b. changes.Append i b ∷ [] in
    first_holds (Moved m n j q s a) (read_tests x (right_of w) ++ (is_full x.files (channels_in x) f.words ⇒ fails x a 0o10 ∷ []))
    (goes (puts (byte_at x w)) None (new_arguments a))
    (λ t d r. refl, (λ t d r. refl, tt))
    (λ p. goes_on m n j q s a (puts (byte_at x w)) None (changed q.channels i (with_word (byte_at x w) (q.channels i))) t
    (λ spare. (job_only m.jobs j q (on_channel i (with_word (byte_at x w))) is).here)
    (subst (λ (k : Chan). Bears x w i k (puts (byte_at x w)) None) (sym on) (goes_out w (word_named x w) puts p.0)))

peeks_moved : (m n : Machine) (j : ℕ) (q : Whole) (s : Site) (a : Ask) (k at : ℕ) (o : Option ℕ) → m.jobs j ≡ Some q
    → channel_at q.channels (input a 0) ≡ On k false at
    → word_at (other_core (view m j q (target q a))) at ≡ o → TestedSiot a
    → Moved m n j q s a (siot_peeks (view m j q (target q a)) a (next_pointer (input a 1)) (input a 2) (input a 0) at o)
peeks_moved m n j q s a k at (Some word) is on got t =
    let w : ℕ = next_pointer (input a 1) in
    read_moved m n j q s a (On k false at) at word is on (subst
    (λ (o : Option ℕ). ComesIn w o (changes.Move (input a 0) (at + 1) ∷ []) (changes.Move (input a 0) (at + 1) ∷ [])
    (Some (record { place = right_of w; byte = word }))) (sym got)
    (comes_in w (Some word) (changes.Move (input a 0) (at + 1) ∷ []) refl)) t
peeks_moved m n j q s a k at None is on got t =
    let x : View = view m j q (target q a) in
    let w : ℕ = next_pointer (input a 1) in
    first_holds (Moved m n j q s a) (store_tests x (right_of w)) (fails x a 0o16) (λ t d r. refl, (λ t d r. refl, tt)) (λ p d r. refl)

-- the inferior is another job than the caller
poked_there : (m : Machine) (j k at word i : ℕ) (q : Whole) → m.jobs j ≡ Some q → k ≢ j
    → (effects (changes.Poke k at word ∷ changes.Move i (at + 1) ∷ []) j m).jobs j ≡ Some (record q { channels = next_position q i at })
unfolding effect
poked_there m j k at word i q is other =
    let n : Machine = in_job m k (with_stores (poke at word ∷ [])) in
    (job_only n.jobs j q (on_channel i (at_position (at + 1))) (on_slot_other m.jobs k j (with_stores (poke at word ∷ [])) (λ e. other (sym e)) ∙ is)).here

poke_moved : (m n : Machine) (j : ℕ) (q : Whole) (s : Site) (a : Ask) (k at : ℕ) → m.jobs j ≡ Some q
    → channel_at q.channels (input a 0) ≡ On k true at → TestedSiot a
    → Moved m n j q s a (siot_pokes (view m j q (target q a)) a (next_pointer (input a 1)) (input a 2) (input a 0) k at)
poke_moved m n j q s a k at is on t =
    let x : View = view m j q (target q a) in
    let w : ℕ = next_pointer (input a 1) in
    let i : ℕ = input a 0 in
    let puts : ℕ → List Change = λ b. changes.Poke k at b ∷ changes.Move i (at + 1) ∷ [] in
    let cs : List Change = puts (byte_at x w) in
    first_holds (Moved m n j q s a) (read_tests x (right_of w) ++ (not (can_store (other_core x) at) ⇒ fails x a 0o16 ∷ [])) (goes cs None (new_arguments a))
    (λ t d r. refl, (λ t d r. refl, tt))
    (λ p. goes_on m n j q s a cs None (next_position q i at) t (λ spare. poked_there m j k at (byte_at x w) i q is spare.0)
    (subst (λ (h : Chan). Bears x w i h cs None) (sym on) (goes_out w (word_named x w) puts p.0)))

-- after the tests of SIOT
by_moved : (m n : Machine) (j : ℕ) (q : Whole) (s : Site) (a : Ask) (words ended : Bool) (d : Decision) → length a.inputs.items ≡ 3
    → (ended ≡ false → TestedSiot a → Moved m n j q s a d) → Moved m n j q s a (siot_by (view m j q (target q a)) a words ended d)
by_moved m n j q s a words ended d three h =
    first_holds (Moved m n j q s a) (siot_tests (view m j q (target q a)) a (input a 1) (input a 2) words ended) d
    (λ t d r. refl, (λ t d r. refl, (λ t d r. refl, (λ t d r. refl, (λ t d r. refl, (λ t d r. refl, (λ t d r. refl, (λ t d r. refl, tt))))))))
    (λ t. h t.1.1.1.1.1.1.0 (record {
      pointer = rest_pointer a three;
      counted = λ k. let b = t.1.1.1.1.1.0 in let u = ap (λ (i : ℕ). i == 0) k in cc;
    }))

reads_moved : (m n : Machine) (j : ℕ) (q : Whole) (s : Site) (a : Ask) (names : Names) (at : ℕ) (o : Option ℕ) → m.jobs j ≡ Some q
    → channel_at q.channels (input a 0) ≡ Reads names at
    → slice_get (words_of (view m j q (target q a)) names) at ≡ o → length a.inputs.items ≡ 3
    → Moved m n j q s a (siot_reads (view m j q (target q a)) a (input a 0) at o)
reads_moved m n j q s a names at o is on got three =
    let x : View = view m j q (target q a) in
    let w : ℕ = next_pointer (input a 1) in
    let b : Held = record { place = right_of w; byte = unwrap_or o 0 } in
    by_moved m n j q s a true (not (is_some o)) (siot_read x w (input a 2) (input a 0) at (unwrap_or o 0)) three
    (λ l. read_moved m n j q s a (Reads names at) at (unwrap_or o 0) is on
    (subst (λ (k : Option ℕ). ComesIn w k (changes.Move (input a 0) (at + 1) ∷ []) (changes.Move (input a 0) (at + 1) ∷ []) (Some b)) (sym got)
    (comes_in w o (changes.Move (input a 0) (at + 1) ∷ []) (not-false (is_some o) l))))

-- whatever its channel is on
on_moved : (m n : Machine) (j : ℕ) (q : Whole) (s : Site) (a : Ask) (h : Chan) → m.jobs j ≡ Some q → channel_at q.channels (input a 0) ≡ h
    → length a.inputs.items ≡ 3
    → Moved m n j q s a (siot_on (view m j q (target q a)) a (input a 0) h)
on_moved m n j q s a Shut is on three = λ d r. refl
on_moved m n j q s a TtyIn is on three =
    let x : View = view m j q (target q a) in
    by_moved m n j q s a false false (siot_in x a (next_pointer (input a 1)) (input a 2) (view_console x)) three (λ l. in_moved m n j q s a is on)
on_moved m n j q s a TtyOut is on three =
    let x : View = view m j q (target q a) in
    by_moved m n j q s a false false (siot_out x a (next_pointer (input a 1)) (input a 2) (view_console x)) three (λ l. out_moved m n j q s a is on)
on_moved m n j q s a (Reads names at) is on three =
    reads_moved m n j q s a names at (slice_get (words_of (view m j q (target q a)) names) at) is on refl three
on_moved m n j q s a (Writes file) is on three =
    let x : View = view m j q (target q a) in
    by_moved m n j q s a true false (siot_write x a (next_pointer (input a 1)) (input a 2) (input a 0) file) three (λ l. write_moved m n j q s a file is on)
on_moved m n j q s a (Linked l true) is on three =
    let x : View = view m j q (target q a) in
    by_moved m n j q s a false false (siot_send x a (next_pointer (input a 1)) (input a 2) l) three (λ e. send_moved m n j q s a l is on)
on_moved m n j q s a (Linked l false) is on three =
    let x : View = view m j q (target q a) in
    by_moved m n j q s a false (is_ended (x.links l)) (siot_receive x (next_pointer (input a 1)) (input a 2) l) three
    (λ e. receive_moved m n j q s a l is on e)
on_moved m n j q s a (On k true at) is on three =
    let x : View = view m j q (target q a) in
    by_moved m n j q s a true (at_end at) (siot_pokes x a (next_pointer (input a 1)) (input a 2) (input a 0) k at) three
    (λ l. poke_moved m n j q s a k at is on)
on_moved m n j q s a (On k false at) is on three =
    let x : View = view m j q (target q a) in
    let o : Option ℕ = word_at (other_core x) at in
    by_moved m n j q s a true (at_end at) (siot_peeks x a (next_pointer (input a 1)) (input a 2) (input a 0) at o) three
    (λ l. peeks_moved m n j q s a k at o is on refl)

-- if no call is in progress, a call that reserves no page may rely on all that holds at its commit
calling : (m : Machine) (j : ℕ) (q : Whole) (s : Site) (a : Ask) → Forest m → m.jobs j ≡ Some q → Stands q.core q.job s a
    → reserves a ≡ false → Calling m (no_state m) j q s a 0
unfolding no_state
calling m j q s a forest is st none = record {
  stands = st;
  fetched = decoding.fetched q.core q.job s a st;
  debts = record {
    few = omega arith;
    read = ap (λ (ss : List Store). length ss) (debts_none a);
    stored = subst (λ (ss : List Store). Stored q.core ss) (sym (debts_none a)) tt;
  };
  page = tt;
  still = λ n. tt;
  reached = λ k h. refl;
  apart = reach_apart m j q a forest is;
  here = is;
  tree = λ k. refl;
  forest = forest;
  empty = λ k h. refl;
  unmarked = λ h. refl;
  full = λ h. absurd cc;
}

siot_moved : (m n : Machine) (j : ℕ) (q : Whole) (s : Site) (a : Ask) → Forest m → m.jobs j ≡ Some q → Stands q.core q.job s a
    → call_named a.name ≡ Some Siot → a.fail ≡ 0
    → Acted m n j a (reach m j q a) (siot_call (view m j q (target q a)) a) → ByteBy m j q s a (siot_call (view m j q (target q a)) a) n
unfolding siot_call view
siot_moved m n j q s a forest is st e z r =
    on_moved m n j q s a (channel_at q.channels (input a 0)) is refl (siot_inputs q.core s a st.ask_is e z)
    (siot_duty decoding m (no_state m) j (view m j q (target q a)) s a 0
    (calling m j q s a forest is st (reserves_none a (ap (λ (o : Option CallName). makes_page o (input a 0)) e))) e z) r

-- what a SIOT decides: an error of its decoding ends it
decides_siot : (m : Machine) (j : ℕ) (q : Whole) (a : Ask) → call_named a.name ≡ Some Siot → a.fail ≡ 0
    → decision m j q a ≡ siot_call (view m j q (target q a)) a
unfolding decision decided
decides_siot m j q a e z =
    let x : View = view m j q (target q a) in
    ap (λ (k : ℕ). if k == 0 then decided_by x a (call_named a.name) else fails x a a.fail) z ∙ ap (decided_by x a) e

pub decides_error : (m : Machine) (j : ℕ) (q : Whole) (a : Ask) → a.fail ≢ 0 → decision m j q a ≡ fails (view m j q (target q a)) a a.fail
unfolding decision decided
decides_error m j q a ne =
    let x : View = view m j q (target q a) in
    ap (λ (b : Bool). if b then decided_by x a (call_named a.name) else fails x a a.fail) (ne_eqb a.fail 0 ne)

decided_moved : (m n : Machine) (j : ℕ) (q : Whole) (s : Site) (a : Ask) → Forest m → m.jobs j ≡ Some q → Stands q.core q.job s a
    → call_named a.name ≡ Some Siot
    → Acted m n j a (reach m j q a) (decision m j q a) → ByteBy m j q s a (decision m j q a) n
decided_moved m n j q s a forest is st e r = elim (cases_eq a.fail 0) [
  | inl z ↦
      let at = decides_siot m j q a e z in
      subst (λ (k : Decision). ByteBy m j q s a k n) (sym at) (siot_moved m n j q s a forest is st e z (subst (Acted m n j a (reach m j q a)) at r))
  | inr ne ↦ subst (λ (k : Decision). ByteBy m j q s a k n) (sym (decides_error m j q a ne)) refl
]

-- the step of a running job that is at a call
pub stands_acts : (m : Machine) (j : ℕ) (q : Whole) (s : Site) (a : Ask) → m.jobs j ≡ Some q → q.job.stopped ≡ false
    → deliverable q.job ≡ false → Stands q.core q.job s a
    → transition m j ≡ acted m j a (reach m j q a) (decision m j q a)
stands_acts m j q s a is runs d st = transition_called m j q s (Ok a) is runs d st.unit_is st.ask_is

runs_stepping : (m n : Machine) (j : ℕ) (q : Whole) → step m j ≡ Some n → m.jobs j ≡ Some q → q.job.stopped ≡ false
unfolding step transition
runs_stepping m n j q r is = go q.job.stopped (ap (λ (o : Option Whole). option_map (λ (t : Transition). t.machine) (transition_of m j o)) (sym is) ∙ r)
  where
    go : (b : Bool) → option_map (λ (t : Transition). t.machine) (unless_stopped m j q b) ≡ Some n → b ≡ false
    go false e = refl
    go true e = cc

step_acts : (m n : Machine) (j : ℕ) (q : Whole) (s : Site) (a : Ask) → step m j ≡ Some n → m.jobs j ≡ Some q → deliverable q.job ≡ false
    → Stands q.core q.job s a
    → Acted m n j a (reach m j q a) (decision m j q a)
step_acts m n j q s a r is d st = sym (step_by m j _ (stands_acts m j q s a is (runs_stepping m n j q r is) d st)) ∙ r

pub each_byte : (m n : Machine) (j : ℕ) → Forest m → step m j ≡ Some n → EachByte m j n
each_byte m n j forest r = record { byte = λ q s a is d st e. decided_moved m n j q s a forest is st e (step_acts m n j q s a r is d st) }
