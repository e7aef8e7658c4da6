-- The calls on links do their duty: OPEN, CLOSE, `.IOT` and SIOT.
use Rattle.std.specs.Prelude.{◌==◌, ◌≡◌, ℕ, ◌-◌, ◌%◌, ◌^◌, Bool, true, false, not, Option, Some, None, List, [], ◌∷◌, ◌++◌, unwrap_or, refl}
use Rattle.std.proofs.Common.{◌∙◌, ap, arith}
use Rattle.std.proofs.lemmas.Bool.{not-false}
use Rattle.its_word.specs.Byte.{load_of}
use Rattle.its_word.specs.Core.{can_store}
use Rattle.its_records.specs.Links.{most_links}
use Rattle.its_records.specs.Tree.{least_free}
use Rattle.its_word.specs.Word.{right_of}
use Rattle.its_word.specs.declared.access.Fault.TheVariants.{Mpv, Wro}
use Rattle.its_records.specs.declared.calls.Ask.{Ask}
use Rattle.its_records.specs.declared.calls.Site.{Site}
use Rattle.its_frame.specs.declared.change.Change.TheVariants as changes
use Rattle.its_frame.specs.declared.decision.Decision.TheVariants.{Waits}
use Rattle.its_frame.specs.declared.decision.Wait.TheVariants.{Empty, Room}
use Rattle.its_frame.specs.declared.name.CallName.TheVariants.{Iot, Siot}
use Rattle.its_plain.specs.Call.Arguments.{input}
use Rattle.its_plain.specs.Call.Basic.{ioc}
use Rattle.its_plain.specs.Call.File.{end_of_file}
use Rattle.its_plain.specs.Call.Link.{words_in, is_dry, is_ended, is_crowded, is_unread, can_open, link_named, joins, makes_link, opens_end, link_tests, opens_link, closes_end, first_word, iot_receive, iot_receives, iot_sends, siot_receive, siot_receives, siot_send, siot_sends}
use Rattle.its_plain.specs.Call.Decide.{call_named}
use Rattle.its_plain.specs.Machine.{Machine}
use Rattle.its_plain.specs.Call.Tests.{◌⇒◌, fails}
use Rattle.its_plain.specs.Call.Transfer.{store_tests, read_tests, word_of, iot_ends, next_pointer}
use Rattle.its_plain.specs.Machine.View.{View}
use Rattle.its_stepped.specs.Calling.{Decoding, Calling}
use Rattle.its_stepped.specs.Duty.{Duty}
use Rattle.its_stepped.specs.State.{State}
use Rattle.its_stepped.proofs.Duties.SiotDuty.{siot_stores, siot_loads, siot_by_duty}
use Rattle.its_stepped.proofs.Committing.TestLaws.{first_holds, ending_duty, fails_duty, faults_duty, nothing_duty}
use Rattle.its_stepped.proofs.Duties.TtyDuty.{named_waits}

-- OPEN
joins_duty : (m : Machine) (v : State) (j : ℕ) (x : View) (s : Site) (a : Ask) (n i l : ℕ) (write : Bool) (u y : ℕ) → Calling m v j x.own s a n
    → Duty v j x.own s a n (joins x i l write u y)
joins_duty m v j x s a n i l write u y c =
    ending_duty m v j x.own s a n (changes.Join i l write u y ∷ []) [] c (tt, tt) (tt, tt) refl tt (omega arith)

makes_link_duty : (m : Machine) (v : State) (j : ℕ) (x : View) (s : Site) (a : Ask) (n i : ℕ) (write : Bool) (u y : ℕ) (o : Option ℕ)
    → Calling m v j x.own s a n
    → Duty v j x.own s a n (makes_link x a i write u y o)
makes_link_duty m v j x s a n i write u y (Some l) c = joins_duty m v j x s a n i l write u y c
makes_link_duty m v j x s a n i write u y None c = fails_duty m v j x s a n 0o25 c

opens_end_duty : (m : Machine) (v : State) (j : ℕ) (x : View) (s : Site) (a : Ask) (n i : ℕ) (write : Bool) (u y : ℕ) (o : Option ℕ)
    → Calling m v j x.own s a n
    → Duty v j x.own s a n (opens_end x a i write u y o)
opens_end_duty m v j x s a n i write u y (Some l) c =
    first_holds (Duty v j x.own s a n) (not (can_open write (x.links l)) ⇒ fails x a 0o24 ∷ []) (joins x i l write u y)
    (λ t. fails_duty m v j x s a n 0o24 c, tt) (λ t. joins_duty m v j x s a n i l write u y c)
opens_end_duty m v j x s a n i write u y None c = makes_link_duty m v j x s a n i write u y (least_free most_links x.links) c

pub opens_link_duty : (m : Machine) (v : State) (j : ℕ) (x : View) (s : Site) (a : Ask) (n : ℕ) → Calling m v j x.own s a n
    → Duty v j x.own s a n (opens_link x a)
unfolding opens_link
opens_link_duty m v j x s a n c =
    let control = unwrap_or a.control 0 in
    let o = link_named x.links (input a 2) (input a 3) in
    first_holds (Duty v j x.own s a n) (link_tests x a (input a 0) control) (opens_end x a (input a 0) (control == 1) (input a 2) (input a 3) o)
    (λ t. fails_duty m v j x s a n 0o4 c, (λ t. fails_duty m v j x s a n 0o22 c, tt))
    (λ t. opens_end_duty m v j x s a n (input a 0) (control == 1) (input a 2) (input a 3) o c)

-- CLOSE
pub closes_end_duty : (m : Machine) (v : State) (j : ℕ) (x : View) (s : Site) (a : Ask) (n l : ℕ) (write : Bool) → Calling m v j x.own s a n
    → Duty v j x.own s a n (closes_end x a l write)
closes_end_duty m v j x s a n l write c =
    ending_duty m v j x.own s a n (changes.CloseEnd (input a 0) l write ∷ []) [] c (tt, tt) (tt, tt) refl tt (omega arith)

-- `.IOT`
iot_receive_duty : (m : Machine) (v : State) (j : ℕ) (x : View) (s : Site) (a : Ask) (n e l : ℕ) (ws : List ℕ) → Calling m v j x.own s a n
    → e % 2 ^ 18 ≡ e → can_store x.own.core e ≡ true
    → Duty v j x.own s a n (iot_receive x e l ws)
iot_receive_duty m v j x s a n e l (w ∷ ws) c at can =
    ending_duty m v j x.own s a n (changes.Receive l ∷ []) (record { at = e; word = w } ∷ []) c (tt, tt) (tt, tt) refl
    (ap (can_store x.own.core) at ∙ can, tt) (omega arith)
iot_receive_duty m v j x s a n e l [] c at can =
    ending_duty m v j x.own s a n [] (record { at = e; word = end_of_file } ∷ []) c tt tt refl (ap (can_store x.own.core) at ∙ can, tt) (omega arith)

pub iot_receives_duty : (m : Machine) (v : State) (j : ℕ) (x : View) (s : Site) (a : Ask) (n e l : ℕ) → Calling m v j x.own s a n
    → call_named a.name ≡ Some Iot → e % 2 ^ 18 ≡ e
    → Duty v j x.own s a n (iot_receives x e l)
iot_receives_duty m v j x s a n e l c is at =
    first_holds (Duty v j x.own s a n) (store_tests x e ++ (is_dry (x.links l) ⇒ Waits (Empty l) ∷ [])) (iot_receive x e l (words_in (x.links l)))
    (λ t. faults_duty m v j x s a n Mpv c, (λ t. faults_duty m v j x s a n Wro c, (λ t. named_waits m v j x s a n Iot c is refl tt, tt)))
    (λ t. iot_receive_duty m v j x s a n e l (words_in (x.links l)) c at (not-false (can_store x.own.core e) t.1.0))

pub iot_sends_duty : (m : Machine) (v : State) (j : ℕ) (x : View) (s : Site) (a : Ask) (n e l : ℕ) → Calling m v j x.own s a n
    → call_named a.name ≡ Some Iot
    → Duty v j x.own s a n (iot_sends x e l)
iot_sends_duty m v j x s a n e l c is =
    first_holds (Duty v j x.own s a n) (read_tests x e ++ (is_unread (x.links l) ⇒ ioc x ∷ is_crowded (x.links l) ⇒ Waits (Room l) ∷ []))
    (iot_ends x (changes.Send l (word_of x e) ∷ []) [])
    (λ t. faults_duty m v j x s a n Mpv c, (λ t. nothing_duty m v j x s a n c, (λ t. named_waits m v j x s a n Iot c is refl tt, tt)))
    (λ t. ending_duty m v j x.own s a n (changes.Send l (word_of x e) ∷ []) [] c (tt, tt) (tt, tt) refl tt (omega arith))

-- SIOT
pub siot_receives_duty : (d : Decoding) (m : Machine) (v : State) (j : ℕ) (x : View) (s : Site) (a : Ask) (n l : ℕ) → Calling m v j x.own s a n
    → call_named a.name ≡ Some Siot → a.fail ≡ 0
    → Duty v j x.own s a n (siot_receives x a l)
siot_receives_duty d m v j x s a n l c e z =
    siot_by_duty m v j x s a n false (is_ended (x.links l)) (siot_receive x (next_pointer (input a 1)) (input a 2) l) c e z
    (λ t sized out. siot_stores d m v j x s a n (is_dry (x.links l) ⇒ Waits (Empty l) ∷ []) (changes.Receive l ∷ []) (next_pointer (input a 1))
    (first_word x l) (input a 2 - 1) c e t sized out
    (tt, tt) (tt, tt) refl (λ t. named_waits m v j x s a n Siot c e refl tt, tt))

pub siot_sends_duty : (d : Decoding) (m : Machine) (v : State) (j : ℕ) (x : View) (s : Site) (a : Ask) (n l : ℕ) → Calling m v j x.own s a n
    → call_named a.name ≡ Some Siot → a.fail ≡ 0
    → Duty v j x.own s a n (siot_sends x a l)
siot_sends_duty d m v j x s a n l c e z =
    siot_by_duty m v j x s a n false false (siot_send x a (next_pointer (input a 1)) (input a 2) l) c e z
    (λ t sized out. siot_loads d m v j x s a n (is_unread (x.links l) ⇒ fails x a 0o26 ∷ is_crowded (x.links l) ⇒ Waits (Room l) ∷ [])
    (changes.Send l (load_of (next_pointer (input a 1)) (word_of x (right_of (next_pointer (input a 1))))) ∷ []) (next_pointer (input a 1))
    (input a 2 - 1) c e t sized (tt, tt) (tt, tt) refl
    (λ t. fails_duty m v j x s a n 0o26 c, (λ t. named_waits m v j x s a n Siot c e refl tt, tt)))
