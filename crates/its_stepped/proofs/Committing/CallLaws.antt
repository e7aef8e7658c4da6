-- A call with pending words decides the same on its raw job as on the job after the stores of these
-- words. SLEEP asks of its core only whether its word can be stored, which stores do not change; so
-- does SIOT, except for its byte's word, which is outside the footprint if it asks for it; the
-- other calls have no pending words.
use Rattle.std.specs.Prelude.{◌≡◌, ◌≤◌, ℕ, Bool, true, false, not, Option, Some, None, List, [], ◌∷◌, slice_get, is_some, unwrap_or, refl}
use Rattle.std.proofs.Common.{sym, ◌∙◌, ap, inl, inr, arith}
use Rattle.std.proofs.lemmas.Bool.{cases_Bool}
use Rattle.its_word.specs.Core.{Core, word_at, store}
use Rattle.its_word.specs.Word.{right_of}
use Rattle.its_word.proofs.CoreLaws.{word_at-store_other}
use Rattle.its_records.specs.declared.calls.Ask.{Ask}
use Rattle.its_records.specs.declared.calls.Site.{Site}
use Rattle.its_records.specs.declared.jobs.Job.{Job}
use Rattle.its_word.specs.declared.plan.Store.{Store}
use Rattle.its_frame.specs.declared.decision.Decision.{Decision}
use Rattle.its_frame.specs.declared.name.CallName.{CallName}
use Rattle.its_frame.specs.declared.name.CallName.TheVariants.{Sleep, Siot}
use Rattle.its_plain.specs.Call.Arguments.{input, in_footprint, debts}
use Rattle.its_plain.specs.Call.Basic.{channel_at, read_only, sleep}
use Rattle.its_plain.specs.Call.Step.{decision}
use Rattle.its_plain.specs.Call.Tty.{view_console, siot_in, siot_out}
use Rattle.its_plain.specs.Call.Transfer.{next_pointer, siot_by}
use Rattle.its_plain.specs.Call.File.{words_of, siot_read, siot_write}
use Rattle.its_plain.specs.Call.Link.{is_ended, siot_receive, siot_send}
use Rattle.its_plain.specs.Call.Usr.{other_core, at_end, siot_peeks, siot_pokes, siot_through}
use Rattle.its_plain.specs.Call.Device.{siot_on, siot_call}
use Rattle.its_plain.specs.Call.Decide.{call_named, decided_by, decided, target}
use Rattle.its_plain.specs.Machine.{File, Chan, Shut, TtyIn, TtyOut, Reads, Writes, On, Linked, Whole, Machine}
use Rattle.its_plain.specs.Machine.Own.{with_stores}
use Rattle.its_word.specs.Stores.{place, stored}
use Rattle.its_plain.specs.Machine.View.{View, view}
use Rattle.its_stepped.specs.Sound.{Stands, most_owed_by, most_owed}
use Rattle.its_stepped.specs.Duty.{Apart}
use Rattle.its_stepped.specs.Calling.{Fetched}
use Rattle.its_stepped.proofs.Frame.DebtLaws.{debts_none}
use Rattle.its_stepped.proofs.Frame.DecodingLaws.{decoding}
use Rattle.its_stepped.proofs.Duties.SiotDuty.{debts_apart}
use Rattle.its_stepped.proofs.Committing.ViewLaws.{target_alike}
use Rattle.its_stepped.proofs.Frame.OverLaws.{can_stored}

read_only_stored : (c : Core) (ss : List Store) (p : Option ℕ) → read_only (stored c ss) p ≡ read_only c p
read_only_stored c ss (Some p) = ap not (can_stored c ss p)
read_only_stored c ss None = refl

sleep_stored : (m : Machine) (j : ℕ) (q : Whole) (t : Option ℕ) (a : Ask) (ss : List Store) → sleep (view m j (with_stores ss q) t) a ≡ sleep (view m j q t) a
unfolding sleep view
sleep_stored m j q t a ss = simp read_only_stored

-- SIOT
word_stored : (c : Core) (ss : List Store) (b : ℕ) → Apart b ss → word_at (stored c ss) b ≡ word_at c b
unfolding stored
word_stored c [] b h = refl
word_stored c (s ∷ ss) b h = word_stored (store c (place s) s.word) ss b h.1 ∙ word_at-store_other c (place s) b s.word (λ e. h.0 (sym e))

siot_in_stored : (m : Machine) (j : ℕ) (q : Whole) (t : Option ℕ) (a : Ask) (ss : List Store) (w k i : ℕ)
    → word_at (stored q.core ss) (right_of w) ≡ word_at q.core (right_of w)
    → siot_in (view m j (with_stores ss q) t) a w k i ≡ siot_in (view m j q t) a w k i
unfolding view
siot_in_stored m j q t a ss w k i e = simp (e, can_stored)

siot_out_stored : (m : Machine) (j : ℕ) (q : Whole) (t : Option ℕ) (a : Ask) (ss : List Store) (w k i : ℕ)
    → word_at (stored q.core ss) (right_of w) ≡ word_at q.core (right_of w)
    → siot_out (view m j (with_stores ss q) t) a w k i ≡ siot_out (view m j q t) a w k i
unfolding view
siot_out_stored m j q t a ss w k i e = simp e

siot_read_stored : (m : Machine) (j : ℕ) (q : Whole) (t : Option ℕ) (ss : List Store) (w k i at y : ℕ)
    → word_at (stored q.core ss) (right_of w) ≡ word_at q.core (right_of w)
    → siot_read (view m j (with_stores ss q) t) w k i at y ≡ siot_read (view m j q t) w k i at y
unfolding view
siot_read_stored m j q t ss w k i at y e = simp (e, can_stored)

siot_write_stored : (m : Machine) (j : ℕ) (q : Whole) (t : Option ℕ) (a : Ask) (ss : List Store) (w k i : ℕ) (f : File)
    → word_at (stored q.core ss) (right_of w) ≡ word_at q.core (right_of w)
    → siot_write (view m j (with_stores ss q) t) a w k i f ≡ siot_write (view m j q t) a w k i f
unfolding view
siot_write_stored m j q t a ss w k i f e = simp e

siot_peeks_stored : (m : Machine) (j : ℕ) (q : Whole) (t : Option ℕ) (a : Ask) (ss : List Store) (w k i at : ℕ) (o : Option ℕ)
    → word_at (stored q.core ss) (right_of w) ≡ word_at q.core (right_of w)
    → siot_peeks (view m j (with_stores ss q) t) a w k i at o ≡ siot_peeks (view m j q t) a w k i at o
unfolding view
siot_peeks_stored m j q t a ss w k i at (Some y) e = simp (e, can_stored)
siot_peeks_stored m j q t a ss w k i at None e = simp (e, can_stored)

siot_pokes_stored : (m : Machine) (j : ℕ) (q : Whole) (t : Option ℕ) (a : Ask) (ss : List Store) (w k i s at : ℕ)
    → word_at (stored q.core ss) (right_of w) ≡ word_at q.core (right_of w)
    → siot_pokes (view m j (with_stores ss q) t) a w k i s at ≡ siot_pokes (view m j q t) a w k i s at
unfolding view
siot_pokes_stored m j q t a ss w k i s at e = simp e

siot_receive_stored : (m : Machine) (j : ℕ) (q : Whole) (t : Option ℕ) (ss : List Store) (w k l : ℕ)
    → word_at (stored q.core ss) (right_of w) ≡ word_at q.core (right_of w)
    → siot_receive (view m j (with_stores ss q) t) w k l ≡ siot_receive (view m j q t) w k l
unfolding view
siot_receive_stored m j q t ss w k l e = simp (e, can_stored)

siot_send_stored : (m : Machine) (j : ℕ) (q : Whole) (t : Option ℕ) (a : Ask) (ss : List Store) (w k l : ℕ)
    → word_at (stored q.core ss) (right_of w) ≡ word_at q.core (right_of w)
    → siot_send (view m j (with_stores ss q) t) a w k l ≡ siot_send (view m j q t) a w k l
unfolding view
siot_send_stored m j q t a ss w k l e = simp e

-- the tests of its arguments, whatever the device
tests_stored : (m : Machine) (j : ℕ) (q : Whole) (t : Option ℕ) (a : Ask) (ss : List Store) (words ended : Bool) (d : Decision)
    → siot_by (view m j (with_stores ss q) t) a words ended d ≡ siot_by (view m j q t) a words ended d
unfolding view
tests_stored m j q t a ss words ended d = simp read_only_stored

within_footprint : (x : View) (a : Ask) (words ended : Bool) (d e : Decision) → in_footprint (right_of (next_pointer (input a 1))) a ≡ true
    → siot_by x a words ended d ≡ siot_by x a words ended e
within_footprint x a words ended d e h = rw h refl

siot_by_stored : (m : Machine) (j : ℕ) (q : Whole) (t : Option ℕ) (a : Ask) (n : ℕ) (words ended : Bool) (c : Core) (d e : Decision) → Fetched c a
    → (word_at (stored q.core (debts a n)) (right_of (next_pointer (input a 1))) ≡ word_at q.core (right_of (next_pointer (input a 1))) → d ≡ e)
    → siot_by (view m j (with_stores (debts a n) q) t) a words ended d ≡ siot_by (view m j q t) a words ended e
siot_by_stored m j q t a n words ended c d e f same =
    let b = right_of (next_pointer (input a 1)) in
    elim (cases_Bool (in_footprint b a)) [
      | inl h ↦ tests_stored m j q t a (debts a n) words ended d ∙ within_footprint (view m j q t) a words ended d e h
      | inr h ↦ tests_stored m j q t a (debts a n) words ended d
          ∙ ap (siot_by (view m j q t) a words ended) (same (word_stored q.core (debts a n) b (debts_apart c a n b f h)))
    ]

siot_through_stored : (m : Machine) (j : ℕ) (q : Whole) (t : Option ℕ) (a : Ask) (n i s : ℕ) (write : Bool) (at : ℕ) (c : Core) → Fetched c a
    → siot_through (view m j (with_stores (debts a n) q) t) a i s write at ≡ siot_through (view m j q t) a i s write at
unfolding view
siot_through_stored m j q t a n i s true at c f =
    siot_by_stored m j q t a n true (at_end at) c _ _ f (λ e. siot_pokes_stored m j q t a (debts a n) (next_pointer (input a 1)) (input a 2) i s at e)
siot_through_stored m j q t a n i s false at c f =
    let o = word_at (other_core (view m j q t)) at in
    siot_by_stored m j q t a n true (at_end at) c _ _ f (λ e. siot_peeks_stored m j q t a (debts a n) (next_pointer (input a 1)) (input a 2) i at o e)

siot_on_stored : (m : Machine) (j : ℕ) (q : Whole) (t : Option ℕ) (a : Ask) (n i : ℕ) (c : Core) (h : Chan) → Fetched c a
    → siot_on (view m j (with_stores (debts a n) q) t) a i h ≡ siot_on (view m j q t) a i h
unfolding view
siot_on_stored m j q t a n i c Shut f = refl
siot_on_stored m j q t a n i c TtyIn f =
    siot_by_stored m j q t a n false false c _ _ f
    (λ e. siot_in_stored m j q t a (debts a n) (next_pointer (input a 1)) (input a 2) (view_console (view m j q t)) e)
siot_on_stored m j q t a n i c TtyOut f =
    siot_by_stored m j q t a n false false c _ _ f
    (λ e. siot_out_stored m j q t a (debts a n) (next_pointer (input a 1)) (input a 2) (view_console (view m j q t)) e)
siot_on_stored m j q t a n i c (Reads r at) f =
    let o = slice_get (words_of (view m j q t) r) at in
    siot_by_stored m j q t a n true (not (is_some o)) c _ _ f
    (λ e. siot_read_stored m j q t (debts a n) (next_pointer (input a 1)) (input a 2) i at (unwrap_or o 0) e)
siot_on_stored m j q t a n i c (Writes r) f =
    siot_by_stored m j q t a n true false c _ _ f (λ e. siot_write_stored m j q t a (debts a n) (next_pointer (input a 1)) (input a 2) i r e)
siot_on_stored m j q t a n i c (Linked l true) f =
    siot_by_stored m j q t a n false false c _ _ f (λ e. siot_send_stored m j q t a (debts a n) (next_pointer (input a 1)) (input a 2) l e)
siot_on_stored m j q t a n i c (Linked l false) f =
    siot_by_stored m j q t a n false (is_ended (m.links l)) c _ _ f
    (λ e. siot_receive_stored m j q t (debts a n) (next_pointer (input a 1)) (input a 2) l e)
siot_on_stored m j q t a n i c (On s write at) f = siot_through_stored m j q t a n i s write at c f

siot_stored : (m : Machine) (j : ℕ) (q : Whole) (t : Option ℕ) (a : Ask) (n : ℕ) (c : Core) → Fetched c a
    → siot_call (view m j (with_stores (debts a n) q) t) a ≡ siot_call (view m j q t) a
unfolding siot_call view
siot_stored m j q t a n c f = siot_on_stored m j q t a n (input a 0) c (channel_at q.channels (input a 0)) f

-- a call with nothing pending
no_stores : (a : Ask) (n : ℕ) (q : Whole) → n ≤ 0 → with_stores (debts a n) q ≡ q
unfolding stored
no_stores a n q h = let e : n ≡ 0 = omega arith in ap (λ k. with_stores (debts a k) q) e ∙ ap (λ ss. with_stores ss q) (debts_none a)

owes_none : (m : Machine) (j : ℕ) (q : Whole) (t : Option ℕ) (a : Ask) (n : ℕ) (c : Option CallName) → n ≤ 0
    → decided_by (view m j (with_stores (debts a n) q) t) a c ≡ decided_by (view m j q t) a c
owes_none m j q t a n c h = ap (λ r. decided_by (view m j r t) a c) (no_stores a n q h)

by_name : (m : Machine) (j : ℕ) (q : Whole) (t : Option ℕ) (a : Ask) (n : ℕ) (i : Core) (c : Option CallName) → Fetched i a → n ≤ most_owed_by c
    → decided_by (view m j (with_stores (debts a n) q) t) a c ≡ decided_by (view m j q t) a c
unfolding view
by_name m j q t a n i (Some Sleep) f h = sleep_stored m j q t a (debts a n)
by_name m j q t a n i (Some Siot) f h = siot_stored m j q t a n i f
by_name m j q t a n i c f h = owes_none m j q t a n c h

decided_behind : (m : Machine) (j : ℕ) (q : Whole) (t : Option ℕ) (a : Ask) (n : ℕ) (c : Core) → Fetched c a → n ≤ most_owed a
    → decided (view m j (with_stores (debts a n) q) t) a ≡ decided (view m j q t) a
unfolding decided view most_owed
decided_behind m j q t a n c f h = rw (by_name m j q t a n c (call_named a.name) f h) refl

-- whatever the core, the job and the site of the call are
pub decision_behind : (m : Machine) (j : ℕ) (q : Whole) (c : Core) (i : Job) (s : Site) (a : Ask) (n : ℕ) → Stands c i s a → n ≤ most_owed a
    → decision m j (with_stores (debts a n) q) a ≡ decision m j q a
unfolding decision
decision_behind m j q c i s a n stands h =
    ap (λ t. decided (view m j (with_stores (debts a n) q) t) a) (target_alike (with_stores (debts a n) q) q a refl)
    ∙ decided_behind m j q (target q a) a n c (decoding.fetched c i s a stands) h
