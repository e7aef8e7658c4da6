-- A call that is found not ready: it has the one reason that its name, its channel and its console
-- determine, it passes its other tests, and it passes them whatever consoles, links and the clock
-- do.
use Rattle.std.specs.Prelude.{if◌then◌else◌, ◌≡◌, ◌==◌, ◌&&◌, ◌^◌, ◌+◌, ◌-◌, ℕ, Bool, true, false, not, Option, Some, None, List, [], ◌∷◌, ◌++◌, nat_lt, length, slice_index_or, unwrap_or, refl}
use Rattle.std.proofs.Common.{sym, ◌∙◌, ap, subst, inl, inr, arith}
use Rattle.std.proofs.lemmas.Bool.{cases_Bool}
use Rattle.std.proofs.lemmas.Bool.Decides.{nat_tests}
use Rattle.its_word.specs.Word.{right_of}
use Rattle.its_word.specs.Byte.{load_of}
use Rattle.its_word.specs.declared.access.Fault.TheVariants.{Wro}
use Rattle.its_records.specs.declared.calls.Ask.{Ask}
use Rattle.its_frame.specs.Errors as error
use Rattle.its_records.specs.declared.jobs.Job.{Job}
use Rattle.its_frame.specs.declared.change.Change.TheVariants as changes
use Rattle.its_frame.specs.declared.decision.Decision.{Decision}
use Rattle.its_frame.specs.declared.decision.Decision.TheVariants.{Waits, Goes, Ends, Gone}
use Rattle.its_frame.specs.declared.decision.Wait.{Wait}
use Rattle.its_frame.specs.declared.decision.Wait.TheVariants as waits
use Rattle.its_frame.specs.declared.name.CallName.{CallName}
use Rattle.its_frame.specs.declared.name.CallName.TheVariants.{Hang, Sleep, Iot, Siot, Finish, Listen}
use Rattle.its_plain.specs.Call.Arguments.{input, place_of_input}
use Rattle.its_records.specs.Links.{most_link_words}
use Rattle.its_plain.specs.Call.Basic.{channel_at, ioc, is_negative, negated, longest_sleep, shared_place, read_only, sleep}
use Rattle.its_plain.specs.Call.Link.{words_in, is_end_closed, is_dry, is_ended, is_crowded, is_unread, first_word, iot_receive, iot_receives, iot_sends, siot_receive, siot_receives, siot_send, siot_sends}
use Rattle.its_plain.specs.Call.Tty.{is_empty, view_console, input_waits, output_waits, output_left, siot_in, siot_out, iot_in, iot_out, first_typed, shown_byte, finish_on, finish, listens, listen_on, listen}
use Rattle.its_plain.specs.Call.Transfer.{store_tests, read_tests, iot_ends, siot_tests, siot_by, next_pointer, word_of}
use Rattle.its_plain.specs.Call.Device.{iot_on, iot_call, siot_on, siot_call}
use Rattle.its_plain.specs.Call.Step.{decision}
use Rattle.its_plain.specs.Machine.Change.{chan_after_removal, after_shut}
use Rattle.its_plain.specs.Call.Decide.{call_named, decided_by, decided, target}
use Rattle.its_plain.specs.Machine.{Chan, Shut, TtyIn, TtyOut, Reads, Writes, On, Linked, Pipe, Whole, Machine}
use Rattle.its_plain.specs.Call.Reasons.{Doors, doors, held_up, of_transfer, of_finish, of_listen, reason_by, reason_in}
use Rattle.its_plain.specs.Call.Tests.{Test, ◌⇒◌, first, goes, finishes, fails, faults, out}
use Rattle.its_plain.specs.Machine.View.{View, view}
use Rattle.its_stepped.specs.Sound.{IsWaitable, Stuck}
use Rattle.its_stepped.proofs.Duties.CallWays.{Any, Ways, CanWait, iot_ways, siot_ways}

-- a decision that does not wait
abbrev pub Goes_on : Decision → Type 0
Goes_on (Waits r) = ⊥
Goes_on (Goes cs h vs) = Unit {0}
Goes_on (Ends cs ss e) = Unit {0}
Goes_on (Gone cs) = Unit {0}

pub goes_ways : (x : View) (a : Ask) → Ways Goes_on Any x a
goes_ways x a = record {
  failing = λ k. tt;
  faulting = λ f. tt;
  stuck = tt;
  opening = λ h f b. tt;
  arming = λ n h. tt;
  ending = λ cs ss h. tt;
  moved = λ cs ss h. tt;
  going = λ cs b vs h. tt;
}

-- a transfer whose channel is on no console and on no link never waits
pub iot_ready : (x : View) (a : Ask) → (CanWait (channel_at x.own.channels (input a 0)) → ⊥) → Goes_on (decided_by x a (Some Iot))
unfolding iot_call
iot_ready x a h = iot_ways Goes_on Any x a (slice_index_or a.outputs.items 0 0) (input a 0) (channel_at x.own.channels (input a 0))
    (goes_ways x a) (λ s at write on. tt) refl (λ k r. h k)

pub siot_ready : (x : View) (a : Ask) → (CanWait (channel_at x.own.channels (input a 0)) → ⊥) → Goes_on (decided_by x a (Some Siot))
unfolding siot_call
siot_ready x a h = siot_ways Goes_on Any x a (input a 0) (channel_at x.own.channels (input a 0)) (goes_ways x a) (λ s at write on. tt) refl (λ k r. h k)

-- tests of which none waits
abbrev pub AllGo : List Test → Type 0
AllGo [] = Unit {0}
AllGo (t ∷ ts) = Goes_on t.stop × AllGo ts

goes_not : (d : Decision) (r : Wait) → Goes_on d → d ≡ Waits r → ⊥
goes_not (Waits s) r h e = h
goes_not _ r h e = cc

-- they are passed if the rest waits
pass_by : (b : Bool) (c d : Decision) (r : Wait) → Goes_on c → (if b then c else d) ≡ Waits r → b ≡ false
pass_by true c d r h e = absurd (goes_not c r h e)
pass_by false c d r h e = refl

pub passed : (ts : List Test) (d : Decision) (r : Wait) → AllGo ts → first ts d ≡ Waits r → (e : Decision) → first ts e ≡ e
passed [] d r h is e = refl
passed (t ∷ ts) d r h is e =
    let f : t.holds ≡ false = pass_by t.holds t.stop (first ts d) r h.0 is in
    let rest : first ts d ≡ Waits r = sym (rw f refl) ∙ is in
    rw f (passed ts d r h.1 rest e)

-- a last test, on which a call waits
pub record LastWaits (ts : List Test) (b : Bool) (r s : Wait) : Type 0 where
  pub same : r ≡ s
  pub holds : b ≡ true
  pub again : (c : Bool) (e : Decision) → c ≡ true → first (ts ++ c ⇒ Waits r ∷ []) e ≡ Waits r

last_by : (b : Bool) (r s : Wait) (d : Decision) → Goes_on d → (if b then Waits r else d) ≡ Waits s → (r ≡ s) × (b ≡ true)
last_by true r s d g e = (cc, refl)
last_by false r s d g e = absurd (goes_not d s g e)

pub last_waits : (ts : List Test) (b : Bool) (r s : Wait) (d : Decision) → AllGo ts → Goes_on d → first (ts ++ b ⇒ Waits r ∷ []) d ≡ Waits s
    → LastWaits ts b r s
last_waits [] b r s d h g is = let p = last_by b r s d g is in record { same = p.0; holds = p.1; again = λ c e t. rw t refl }
last_waits (t ∷ ts) b r s d h g is =
    let f : t.holds ≡ false = pass_by t.holds t.stop (first (ts ++ b ⇒ Waits r ∷ []) d) s h.0 is in
    let rest : first (ts ++ b ⇒ Waits r ∷ []) d ≡ Waits s = sym (rw f refl) ∙ is in
    let w = last_waits ts b r s d h.1 g rest in
    record { same = w.same; holds = w.holds; again = λ c e t. rw f (w.again c e t) }

-- what a call sees that waits: its doors, and its reason
abbrev pub doors_seen : View → Doors
doors_seen v = record { consoles = v.consoles; holders = v.holders; clock = v.clock; links = v.links }

abbrev pub reason_seen : View → Ask → Option CallName → Option Wait
reason_seen v a o = reason_by (unwrap_or v.own.job.console 0) (channel_at v.own.channels (input a 0)) o

-- another view, of a job with the same core and registers
abbrev pub own_as : View → View → View
own_as v u = record u { own = record u.own { core = v.own.core; job = v.own.job } }

pub record Again (v : View) (a : Ask) (o : Option CallName) (r : Wait) : Type 0 where
  pub reason : reason_seen v a o ≡ Some r
  pub holds : held_up (doors_seen v) v.slot (input a 0) r ≡ true
  pub again : (u : View) → reason_seen (own_as v u) a o ≡ Some r → held_up (doors_seen u) u.slot (input a 0) r ≡ true → decided_by (own_as v u) a o ≡ Waits r

hang_again : (v : View) (a : Ask) (r : Wait) → decided_by v a (Some Hang) ≡ Waits r → Again v a (Some Hang) r
hang_again v a r e =
    let s : waits.Hang ≡ r = cc in
    subst (Again v a (Some Hang)) s (record { reason = refl; holds = refl; again = λ u same held. refl })

-- SLEEP
sleep_zero : (n : ℕ) → is_negative n ≡ true → (n == 0) ≡ false
sleep_zero n h = grind (arith, nat_tests)

negative_by : (b c : Bool) → (b && c) ≡ true → b ≡ true
negative_by true c h = refl
negative_by false c h = cc

pub sleep_waits : (v : View) (a : Ask) → (is_negative (input a 0) && nat_lt v.clock (2 ^ 36 - input a 0)) ≡ true → sleep v a ≡ Waits waits.Clock
unfolding sleep
sleep_waits v a h =
    let z : (input a 0 == 0) ≡ false = sleep_zero (input a 0) (negative_by (is_negative (input a 0)) (nat_lt v.clock (2 ^ 36 - input a 0)) h) in
    rw z (rw h refl)

never_by : (b : Bool) (c d : Decision) → Goes_on c → Goes_on d → Goes_on (if b then c else d)
never_by true c d h g = h
never_by false c d h g = g

never : (ts : List Test) (d : Decision) → AllGo ts → Goes_on d → Goes_on (first ts d)
never [] d h g = g
never (t ∷ ts) d h g = never_by t.holds t.stop (first ts d) h.0 (never ts d h.1 g)

-- the second of some tests is the one on which a call waits
second_waits : (t : Test) (b : Bool) (r s : Wait) (us : List Test) (d : Decision) → Goes_on t.stop → AllGo us → Goes_on d
    → first (t ∷ b ⇒ Waits r ∷ us) d ≡ Waits s → (r ≡ s) × (b ≡ true)
second_waits t b r s us d h hs g is =
    let f : t.holds ≡ false = pass_by t.holds t.stop (first (b ⇒ Waits r ∷ us) d) s h is in
    last_by b r s (first us d) (never us d hs g) (sym (rw f refl) ∙ is)

sleep_by : (v : View) (a : Ask) (r : Wait) → sleep v a ≡ Waits r → (waits.Clock ≡ r)
    × ((is_negative (input a 0) && nat_lt v.clock (2 ^ 36 - input a 0)) ≡ true)
unfolding sleep
sleep_by v a r is =
    let n = input a 0 in
    second_waits ((n == 0) ⇒ finishes v [] []) (is_negative n && nat_lt v.clock (2 ^ 36 - n)) waits.Clock r
    (is_negative n ⇒ finishes v [] [] ∷ nat_lt longest_sleep n ⇒ fails v a error.OUT_OF_RANGE
    ∷ shared_place a (place_of_input a 0) ⇒ fails v a error.NO_WORD ∷ read_only v.own.core (place_of_input a 0) ⇒ faults v Wro ∷ [])
    (goes [] None (negated (v.clock + n) ∷ [])) tt (tt, (tt, (tt, (tt, tt)))) tt is

sleep_again : (v : View) (a : Ask) (r : Wait) → decided_by v a (Some Sleep) ≡ Waits r → Again v a (Some Sleep) r
sleep_again v a r e =
    let p = sleep_by v a r e in
    subst (Again v a (Some Sleep)) p.0 (record { reason = refl; holds = p.1; again = λ u same held. sleep_waits (own_as v u) a held })

-- a byte from a console or to one
in_on : (v u : View) (a : Ask) (e i : ℕ) (c : Chan) (same : i ≡ view_console v) → of_transfer i c ≡ Some (waits.Input i)
    → iot_in u e (view_console u) ≡ Waits (waits.Input i) → iot_on u e (input a 0) c ≡ Waits (waits.Input i)
in_on v u a e i TtyIn same o is = is
in_on v u a e i (Linked l true) same o is = absurd (cc)
in_on v u a e i (Linked l false) same o is = absurd (cc)
in_on v u a e i _ same o is = absurd (cc)

out_on : (v u : View) (a : Ask) (e i : ℕ) (c : Chan) → of_transfer i c ≡ Some (waits.Output i)
    → iot_out u e (view_console u) ≡ Waits (waits.Output i) → iot_on u e (input a 0) c ≡ Waits (waits.Output i)
out_on v u a e i TtyOut o is = is
out_on v u a e i (Linked l true) o is = absurd (cc)
out_on v u a e i (Linked l false) o is = absurd (cc)
out_on v u a e i _ o is = absurd (cc)

-- a word from a link or to one
empty_on : (u : View) (a : Ask) (e i l : ℕ) (c : Chan) → of_transfer i c ≡ Some (waits.Empty l) → iot_receives u e l ≡ Waits (waits.Empty l)
    → iot_on u e (input a 0) c ≡ Waits (waits.Empty l)
empty_on u a e i l (Linked k false) o is = let same : k ≡ l = cc in ap (iot_receives u e) same ∙ is
empty_on u a e i l (Linked k true) o is = absurd (cc)
empty_on u a e i l _ o is = absurd (cc)

room_on : (u : View) (a : Ask) (e i l : ℕ) (c : Chan) → of_transfer i c ≡ Some (waits.Room l) → iot_sends u e l ≡ Waits (waits.Room l)
    → iot_on u e (input a 0) c ≡ Waits (waits.Room l)
room_on u a e i l (Linked k true) o is = let same : k ≡ l = cc in ap (iot_sends u e) same ∙ is
room_on u a e i l (Linked k false) o is = absurd (cc)
room_on u a e i l _ o is = absurd (cc)

-- a link that can still get a word is not at its end, and one that can still lose one is read
dry_by : (b c : Bool) → (b && not c) ≡ true → (b && c) ≡ false
dry_by true false h = refl
dry_by true true h = cc
dry_by false c h = cc

dry_goes : (o : Option Pipe) → is_dry o ≡ true → is_ended o ≡ false
dry_goes o h = dry_by (is_empty (words_in o)) (is_end_closed true o) h

crowded_by : (b c : Bool) → (b && not c) ≡ true → c ≡ false
crowded_by true false h = refl
crowded_by true true h = cc
crowded_by false c h = cc

crowded_read : (o : Option Pipe) → is_crowded o ≡ true → is_unread o ≡ false
crowded_read o h = crowded_by (not (nat_lt (length (words_in o)) most_link_words)) (is_end_closed false o) h

received : (v : View) (e l : ℕ) (ws : List ℕ) → Goes_on (iot_receive v e l ws)
received v e l (w ∷ ws) = tt
received v e l [] = tt

iot_by : (v : View) (a : Ask) (r : Wait) (c : Chan) → channel_at v.own.channels (input a 0) ≡ c
    → ((CanWait c → ⊥) → Goes_on (decided_by v a (Some Iot)))
    → iot_on v (slice_index_or a.outputs.items 0 0) (input a 0) c ≡ Waits r → decided_by v a (Some Iot) ≡ Waits r → Again v a (Some Iot) r
unfolding iot_call
iot_by v a r TtyIn is ready e d =
    let p = slice_index_or a.outputs.items 0 0 in
    let i = view_console v in
    let w = last_waits (store_tests v p) (input_waits v i) (waits.Input i) r
    (iot_ends v (changes.Take i ∷ []) (record { at = p; word = first_typed v i } ∷ [])) (tt, (tt, tt)) tt e in
    subst (Again v a (Some Iot)) w.same (record {
      reason = ap (of_transfer i) is;
      holds = w.holds;
      again = λ u same held. in_on v (own_as v u) a p i (channel_at u.own.channels (input a 0)) refl same
          (w.again (input_waits (own_as v u) i) (iot_ends (own_as v u) (changes.Take i ∷ [])
          (record { at = p; word = first_typed (own_as v u) i } ∷ [])) held);
    })
iot_by v a r TtyOut is ready e d =
    let p = slice_index_or a.outputs.items 0 0 in
    let i = view_console v in
    let w = last_waits (read_tests v p) (output_waits v i) (waits.Output i) r (iot_ends v (changes.Put i (shown_byte (word_of v p)) ∷ []) []) (tt, tt) tt e in
    subst (Again v a (Some Iot)) w.same (record {
      reason = ap (of_transfer i) is;
      holds = w.holds;
      again = λ u same held. out_on v (own_as v u) a p i (channel_at u.own.channels (input a 0)) same
          (w.again (output_waits (own_as v u) i) (iot_ends (own_as v u) (changes.Put i (shown_byte (word_of (own_as v u) p)) ∷ []) []) held);
    })
iot_by v a r (Linked l false) is ready e d =
    let p = slice_index_or a.outputs.items 0 0 in
    let i = view_console v in
    let w = last_waits (store_tests v p) (is_dry (v.links l)) (waits.Empty l) r (iot_receive v p l (words_in (v.links l))) (tt, (tt, tt))
    (received v p l (words_in (v.links l))) e in
    subst (Again v a (Some Iot)) w.same (record {
      reason = ap (of_transfer i) is;
      holds = w.holds;
      again = λ u same held. empty_on (own_as v u) a p i l (channel_at u.own.channels (input a 0)) same
          (w.again (is_dry (u.links l)) (iot_receive (own_as v u) p l (words_in (u.links l))) held);
    })
iot_by v a r (Linked l true) is ready e d =
    let p = slice_index_or a.outputs.items 0 0 in
    let i = view_console v in
    let w = last_waits (read_tests v p ++ (is_unread (v.links l) ⇒ ioc v ∷ [])) (is_crowded (v.links l)) (waits.Room l) r
    (iot_ends v (changes.Send l (word_of v p) ∷ []) []) (tt, (tt, tt)) tt e in
    subst (Again v a (Some Iot)) w.same (record {
      reason = ap (of_transfer i) is;
      holds = w.holds;
      again = λ u same held.
          let x = own_as v u in
          let read : is_unread (u.links l) ≡ is_unread (v.links l) = crowded_read (u.links l) held ∙ sym (crowded_read (v.links l) w.holds) in
          let sends = iot_ends x (changes.Send l (word_of x p) ∷ []) [] in
          room_on x a p i l (channel_at u.own.channels (input a 0)) same
          (ap (λ (b : Bool). first (read_tests x p ++ (b ⇒ ioc x ∷ is_crowded (u.links l) ⇒ Waits (waits.Room l) ∷ [])) sends) read
          ∙ w.again (is_crowded (u.links l)) sends held);
    })
iot_by v a r _ is ready e d = absurd (goes_not (decided_by v a (Some Iot)) r (ready (λ k. k)) d)

iot_again : (v : View) (a : Ask) (r : Wait) → decided_by v a (Some Iot) ≡ Waits r → Again v a (Some Iot) r
unfolding iot_call
iot_again v a r e = iot_by v a r (channel_at v.own.channels (input a 0)) refl (iot_ready v a) e e

-- SIOT
siot_in_on : (u : View) (a : Ask) (i : ℕ) (c : Chan) → of_transfer i c ≡ Some (waits.Input i)
    → siot_by u a false false (siot_in u a (next_pointer (input a 1)) (input a 2) (view_console u)) ≡ Waits (waits.Input i)
    → siot_on u a (input a 0) c ≡ Waits (waits.Input i)
siot_in_on u a i TtyIn o is = is
siot_in_on u a i (Linked l true) o is = absurd cc
siot_in_on u a i (Linked l false) o is = absurd cc
siot_in_on u a i _ o is = absurd cc

siot_out_on : (u : View) (a : Ask) (i : ℕ) (c : Chan) → of_transfer i c ≡ Some (waits.Output i)
    → siot_by u a false false (siot_out u a (next_pointer (input a 1)) (input a 2) (view_console u)) ≡ Waits (waits.Output i)
    → siot_on u a (input a 0) c ≡ Waits (waits.Output i)
siot_out_on u a i TtyOut o is = is
siot_out_on u a i (Linked l true) o is = absurd cc
siot_out_on u a i (Linked l false) o is = absurd cc
siot_out_on u a i _ o is = absurd cc

siot_empty_on : (u : View) (a : Ask) (i l : ℕ) (c : Chan) → of_transfer i c ≡ Some (waits.Empty l) → siot_receives u a l ≡ Waits (waits.Empty l)
    → siot_on u a (input a 0) c ≡ Waits (waits.Empty l)
siot_empty_on u a i l (Linked k false) o is = let same : k ≡ l = cc in ap (siot_receives u a) same ∙ is
siot_empty_on u a i l (Linked k true) o is = absurd cc
siot_empty_on u a i l _ o is = absurd cc

siot_room_on : (u : View) (a : Ask) (i l : ℕ) (c : Chan) → of_transfer i c ≡ Some (waits.Room l) → siot_sends u a l ≡ Waits (waits.Room l)
    → siot_on u a (input a 0) c ≡ Waits (waits.Room l)
siot_room_on u a i l (Linked k true) o is = let same : k ≡ l = cc in ap (siot_sends u a) same ∙ is
siot_room_on u a i l (Linked k false) o is = absurd cc
siot_room_on u a i l _ o is = absurd cc

siot_by_channel : (v : View) (a : Ask) (r : Wait) (c : Chan) → channel_at v.own.channels (input a 0) ≡ c
    → ((CanWait c → ⊥) → Goes_on (decided_by v a (Some Siot)))
    → siot_on v a (input a 0) c ≡ Waits r → decided_by v a (Some Siot) ≡ Waits r → Again v a (Some Siot) r
unfolding siot_call
siot_by_channel v a r TtyIn is ready e d =
    let n = next_pointer (input a 1) in
    let i = view_console v in
    let ts = siot_tests v a (input a 1) (input a 2) false false in
    let moves = siot_in v a n (input a 2) i in
    let past = passed ts moves r (tt, (tt, (tt, (tt, (tt, (tt, (tt, (tt, tt)))))))) e in
    let w = last_waits (store_tests v (right_of n)) (input_waits v i) (waits.Input i) r
    (goes (changes.Take i ∷ []) (Some (record { place = right_of n; byte = first_typed v i })) (n ∷ (input a 2 - 1) ∷ []))
    (tt, (tt, tt)) tt (sym (past moves) ∙ e) in
    subst (Again v a (Some Siot)) w.same (record {
      reason = ap (of_transfer i) is;
      holds = w.holds;
      again = λ u same held. siot_in_on (own_as v u) a i (channel_at u.own.channels (input a 0)) same
          (past (siot_in (own_as v u) a n (input a 2) i)
          ∙ w.again (input_waits (own_as v u) i) (goes (changes.Take i ∷ [])
          (Some (record { place = right_of n; byte = first_typed (own_as v u) i })) (n ∷ (input a 2 - 1) ∷ [])) held);
    })
siot_by_channel v a r TtyOut is ready e d =
    let n = next_pointer (input a 1) in
    let i = view_console v in
    let ts = siot_tests v a (input a 1) (input a 2) false false in
    let moves = siot_out v a n (input a 2) i in
    let past = passed ts moves r (tt, (tt, (tt, (tt, (tt, (tt, (tt, (tt, tt)))))))) e in
    let w = last_waits (read_tests v (right_of n)) (output_waits v i) (waits.Output i) r
    (goes (changes.Put i (shown_byte (load_of n (word_of v (right_of n)))) ∷ []) None (n ∷ (input a 2 - 1) ∷ [])) (tt, tt) tt (sym (past moves) ∙ e) in
    subst (Again v a (Some Siot)) w.same (record {
      reason = ap (of_transfer i) is;
      holds = w.holds;
      again = λ u same held. siot_out_on (own_as v u) a i (channel_at u.own.channels (input a 0)) same
          (past (siot_out (own_as v u) a n (input a 2) i)
          ∙ w.again (output_waits (own_as v u) i) (goes (changes.Put i (shown_byte (load_of n (word_of (own_as v u) (right_of n)))) ∷ [])
          None (n ∷ (input a 2 - 1) ∷ [])) held);
    })
siot_by_channel v a r (Linked l false) is ready e d =
    let n = next_pointer (input a 1) in
    let i = view_console v in
    let ts = siot_tests v a (input a 1) (input a 2) false (is_ended (v.links l)) in
    let moves = siot_receive v n (input a 2) l in
    let past = passed ts moves r (tt, (tt, (tt, (tt, (tt, (tt, (tt, (tt, tt)))))))) e in
    let w = last_waits (store_tests v (right_of n)) (is_dry (v.links l)) (waits.Empty l) r
    (goes (changes.Receive l ∷ []) (Some (record { place = right_of n; byte = first_word v l })) (n ∷ (input a 2 - 1) ∷ [])) (tt, (tt, tt)) tt
    (sym (past moves) ∙ e) in
    subst (Again v a (Some Siot)) w.same (record {
      reason = ap (of_transfer i) is;
      holds = w.holds;
      again = λ u same held.
          let x = own_as v u in
          let more = siot_receive x n (input a 2) l in
          let ended : is_ended (u.links l) ≡ is_ended (v.links l) = dry_goes (u.links l) held ∙ sym (dry_goes (v.links l) w.holds) in
          siot_empty_on x a i l (channel_at u.own.channels (input a 0)) same
          (ap (λ (b : Bool). siot_by x a false b more) ended
          ∙ past more
          ∙ w.again (is_dry (u.links l))
          (goes (changes.Receive l ∷ []) (Some (record { place = right_of n; byte = first_word x l })) (n ∷ (input a 2 - 1) ∷ [])) held);
    })
siot_by_channel v a r (Linked l true) is ready e d =
    let n = next_pointer (input a 1) in
    let i = view_console v in
    let ts = siot_tests v a (input a 1) (input a 2) false false in
    let moves = siot_send v a n (input a 2) l in
    let past = passed ts moves r (tt, (tt, (tt, (tt, (tt, (tt, (tt, (tt, tt)))))))) e in
    let w = last_waits (read_tests v (right_of n) ++ (is_unread (v.links l) ⇒ fails v a error.NOBODY_READS ∷ [])) (is_crowded (v.links l))
    (waits.Room l) r (goes (changes.Send l (load_of n (word_of v (right_of n))) ∷ []) None (n ∷ (input a 2 - 1) ∷ [])) (tt, (tt, tt)) tt
    (sym (past moves) ∙ e) in
    subst (Again v a (Some Siot)) w.same (record {
      reason = ap (of_transfer i) is;
      holds = w.holds;
      again = λ u same held.
          let x = own_as v u in
          let read : is_unread (u.links l) ≡ is_unread (v.links l) = crowded_read (u.links l) held ∙ sym (crowded_read (v.links l) w.holds) in
          let sends = goes (changes.Send l (load_of n (word_of x (right_of n))) ∷ []) None (n ∷ (input a 2 - 1) ∷ []) in
          siot_room_on x a i l (channel_at u.own.channels (input a 0)) same
          (past (siot_send x a n (input a 2) l)
          ∙ ap (λ (b : Bool). first
          (read_tests x (right_of n) ++ (b ⇒ fails x a error.NOBODY_READS ∷ is_crowded (u.links l) ⇒ Waits (waits.Room l) ∷ [])) sends) read
          ∙ w.again (is_crowded (u.links l)) sends held);
    })
siot_by_channel v a r _ is ready e d = absurd (goes_not (decided_by v a (Some Siot)) r (ready (λ k. k)) d)

siot_again : (v : View) (a : Ask) (r : Wait) → decided_by v a (Some Siot) ≡ Waits r → Again v a (Some Siot) r
unfolding siot_call
siot_again v a r e = siot_by_channel v a r (channel_at v.own.channels (input a 0)) refl (siot_ready v a) e e

-- FINISH and LISTEN
finish_as : (u : View) (a : Ask) (i : ℕ) (c : Chan) → of_finish i c ≡ Some (waits.Drained i)
    → finish_on u a TtyOut ≡ Waits (waits.Drained i) → finish_on u a c ≡ Waits (waits.Drained i)
finish_as u a i TtyOut o is = is
finish_as u a i _ o is = absurd cc

finish_by : (v : View) (a : Ask) (r : Wait) (c : Chan) → channel_at v.own.channels (input a 0) ≡ c → finish_on v a c ≡ Waits r → Again v a (Some Finish) r
unfolding finish
finish_by v a r TtyOut is e =
    let i = view_console v in
    let w = last_waits [] (output_left v i) (waits.Drained i) r (finishes v [] []) tt tt e in
    subst (Again v a (Some Finish)) w.same (record {
      reason = ap (of_finish i) is;
      holds = w.holds;
      again = λ u same held. finish_as (own_as v u) a i (channel_at u.own.channels (input a 0)) same
          (w.again (output_left (own_as v u) i) (finishes (own_as v u) [] []) held);
    })
finish_by v a r _ is e = absurd (cc)

finish_again : (v : View) (a : Ask) (r : Wait) → decided_by v a (Some Finish) ≡ Waits r → Again v a (Some Finish) r
unfolding finish
finish_again v a r e = finish_by v a r (channel_at v.own.channels (input a 0)) refl e

listen_as : (u : View) (a : Ask) (i : ℕ) (c : Chan) → of_listen i c ≡ Some (waits.Drained i)
    → listens u a (view_console u) ≡ Waits (waits.Drained i) → listen_on u a c ≡ Waits (waits.Drained i)
listen_as u a i TtyOut o is = is
listen_as u a i TtyIn o is = is
listen_as u a i _ o is = absurd (cc)

listens_again : (v : View) (a : Ask) (r : Wait) → of_listen (view_console v) (channel_at v.own.channels (input a 0)) ≡ Some
    (waits.Drained (view_console v)) → listens v a (view_console v) ≡ Waits r → Again v a (Some Listen) r
unfolding listen
listens_again v a r is e =
    let i = view_console v in
    let w = last_waits [] (output_left v i) (waits.Drained i) r (finishes v [] (out a.outputs.items (length (v.consoles i).input))) tt tt e in
    subst (Again v a (Some Listen)) w.same (record {
      reason = is;
      holds = w.holds;
      again = λ u same held. listen_as (own_as v u) a i (channel_at u.own.channels (input a 0)) same
          (w.again (output_left (own_as v u) i) (finishes (own_as v u) [] (out a.outputs.items (length (u.consoles i).input))) held);
    })

listen_by : (v : View) (a : Ask) (r : Wait) (c : Chan) → channel_at v.own.channels (input a 0) ≡ c → listen_on v a c ≡ Waits r → Again v a (Some Listen) r
listen_by v a r TtyOut is e = listens_again v a r (ap (of_listen (view_console v)) is) e
listen_by v a r TtyIn is e = listens_again v a r (ap (of_listen (view_console v)) is) e
listen_by v a r _ is e = absurd (cc)

listen_again : (v : View) (a : Ask) (r : Wait) → decided_by v a (Some Listen) ≡ Waits r → Again v a (Some Listen) r
unfolding listen
listen_again v a r e = listen_by v a r (channel_at v.own.channels (input a 0)) refl e

-- every call
named_again : (v : View) (a : Ask) (o : Option CallName) (r : Wait) → IsWaitable o → decided_by v a o ≡ Waits r → Again v a o r
named_again v a (Some Hang) r w e = hang_again v a r e
named_again v a (Some Sleep) r w e = sleep_again v a r e
named_again v a (Some Iot) r w e = iot_again v a r e
named_again v a (Some Siot) r w e = siot_again v a r e
named_again v a (Some Finish) r w e = finish_again v a r e
named_again v a (Some Listen) r w e = listen_again v a r e
named_again v a _ r w e = absurd w

pub record BlockedSo (m : Machine) (j : ℕ) (q : Whole) (a : Ask) (r : Wait) : Type 0 where
  pub reason : reason_in q a ≡ Some r
  pub holds : held_up (doors m) j (input a 0) r ≡ true
  pub again : (n : Machine) (k : ℕ) (p : Whole) → p.core ≡ q.core → p.job ≡ q.job → reason_in p a ≡ Some r
      → held_up (doors n) k (input a 0) r ≡ true → decision n k p a ≡ Waits r

no_error_by : (v : View) (a : Ask) (b : Bool) (r : Wait) → (a.fail == 0) ≡ b → decided v a ≡ Waits r → b ≡ true
unfolding decided
no_error_by v a true r e d = refl
no_error_by v a false r e d = absurd (let w = rw e at d in cc)

decided_named : (v : View) (a : Ask) → (a.fail == 0) ≡ true → decided v a ≡ decided_by v a (call_named a.name)
unfolding decided
decided_named v a e = rw e refl

pub blocked_so : (m : Machine) (j : ℕ) (q : Whole) (a : Ask) (r : Wait) → IsWaitable (call_named a.name) → decision m j q a ≡ Waits r → BlockedSo m j q a r
unfolding decision view
blocked_so m j q a r w d =
    let v = view m j q (target q a) in
    let z : (a.fail == 0) ≡ true = no_error_by v a (a.fail == 0) r refl d in
    let g = named_again v a (call_named a.name) r w (sym (decided_named v a z) ∙ d) in
    record {
      reason = g.reason;
      holds = g.holds;
      again = λ n k p core job reason held.
          let u = view n k p (target p a) in
          let core_back = sym core in
          let job_back = sym job in
          let seen_as : own_as v u ≡ u = λ t. record u { own = record p { core = core_back t; job = job_back t } } in
          decided_named u a z
          ∙ subst (λ (x : View). decided_by x a (call_named a.name) ≡ Waits r) seen_as
          (g.again u (ap (λ (i : Job). reason_by (unwrap_or i.console 0) (channel_at p.channels (input a 0)) (call_named a.name)) job_back ∙ reason) held);
    }

-- a decision by which a call goes on: its decoding gave no error
abbrev pub GoesBy : Decision → Type 0
GoesBy (Waits r) = ⊥
GoesBy (Goes cs h vs) = Unit {0}
GoesBy (Ends cs ss x) = ⊥
GoesBy (Gone cs) = ⊥

no_error_of : (v : View) (a : Ask) (b : Bool) → (a.fail == 0) ≡ b → GoesBy (decided v a) → b ≡ true
unfolding decided
no_error_of v a true e d = refl
no_error_of v a false e d = absurd (let w = rw e at d in w)

pub no_error_goes : (m : Machine) (j : ℕ) (q : Whole) (a : Ask) (d : Decision) → decision m j q a ≡ d → GoesBy d → a.fail ≡ 0
unfolding decision
no_error_goes m j q a d e g =
    let z : (a.fail == 0) ≡ true = no_error_of (view m j q (target q a)) a (a.fail == 0) refl (subst GoesBy (sym e) g) in
    grind (arith, nat_tests)

-- what a call that waits keeps
pub stuck_waits : (m : Machine) (j : ℕ) (q : Whole) (a : Ask) (r : Wait) → IsWaitable (call_named a.name) → decision m j q a ≡ Waits r → Stuck q a
stuck_waits m j q a r w d =
    let b = blocked_so m j q a r w d in
    record {
      again = λ n k s reason held.
          let same : r ≡ s = let e = sym b.reason ∙ reason in cc in
          subst (λ (x : Wait). decision n k q a ≡ Waits x) same
          (b.again n k q refl refl b.reason (subst (λ (x : Wait). held_up (doors n) k (input a 0) x ≡ true) (sym same) held));
    }

sleep_reason : (q : Whole) (a : Ask) (o : Option CallName) (r : Wait) → o ≡ Some Sleep
    → reason_by (unwrap_or q.job.console 0) (channel_at q.channels (input a 0)) o ≡ Some r → waits.Clock ≡ r
sleep_reason q a o r e h = let w = rw e at h in cc

pub stuck_sleep : (q : Whole) (a : Ask) → call_named a.name ≡ Some Sleep → a.fail ≡ 0 → Stuck q a
unfolding decision view
stuck_sleep q a name fine = record {
  again = λ m j r reason held.
      let v = view m j q (target q a) in
      let z : (a.fail == 0) ≡ true = grind (arith, nat_tests) in
      let clock : waits.Clock ≡ r = sleep_reason q a (call_named a.name) r name reason in
      decided_named v a z ∙ ap (decided_by v a) name
      ∙ sleep_waits v a (subst (λ (x : Wait). held_up (doors m) j (input a 0) x ≡ true) (sym clock) held)
      ∙ ap Waits clock;
}

-- channels on jobs that go are closed
shut_chan : (gone : ℕ → Bool) (i : ℕ) (c : Chan) (o : Option CallName) → reason_by i (chan_after_removal gone c) o ≡ reason_by i c o
shut_chan gone i Shut o = refl
shut_chan gone i TtyIn o = refl
shut_chan gone i TtyOut o = refl
shut_chan gone i (Reads ns at) o = refl
shut_chan gone i (Writes f) o = refl
shut_chan gone i (Linked l write) o = refl
shut_chan gone i (On k w at) o = shut_on_by (gone k) o
  where
    named : (c d : Chan) (n : CallName) → of_transfer i c ≡ of_transfer i d → of_finish i c ≡ of_finish i d → of_listen i c ≡ of_listen i d
        → reason_by i c (Some n) ≡ reason_by i d (Some n)
    named c d Iot t f l = t
    named c d Siot t f l = t
    named c d Finish t f l = f
    named c d Listen t f l = l
    named c d _ t f l = refl

    shut_on_by : (b : Bool) (o : Option CallName) → reason_by i (if b then Shut else On k w at) o ≡ reason_by i (On k w at) o
    shut_on_by b None = refl
    shut_on_by true (Some n) = named Shut (On k w at) n refl refl refl
    shut_on_by false (Some n) = refl

shut_at : (gone : ℕ → Bool) (cs : ℕ → Chan) (n : ℕ) → channel_at (λ k. chan_after_removal gone (cs k)) n ≡ chan_after_removal gone (channel_at cs n)
shut_at gone cs n = elim (cases_Bool (nat_lt n 16)) [ inl t ↦ rw t refl | inr t ↦ rw t refl ]

shut_reason : (gone : ℕ → Bool) (q : Whole) (a : Ask) → reason_in (after_shut gone q) a ≡ reason_in q a
shut_reason gone q a =
    let i = unwrap_or q.job.console 0 in
    ap (λ c. reason_by i c (call_named a.name)) (shut_at gone q.channels (input a 0))
    ∙ shut_chan gone i (channel_at q.channels (input a 0)) (call_named a.name)

pub stuck_shut : (gone : ℕ → Bool) (q : Whole) (a : Ask) → IsWaitable (call_named a.name) → Stuck q a → Stuck (after_shut gone q) a
stuck_shut gone q a w s = record {
  again = λ m j r reason held.
      let b = blocked_so m j q a r w (s.again m j r (sym (shut_reason gone q a) ∙ reason) held) in
      b.again m j (after_shut gone q) refl refl reason held;
}
