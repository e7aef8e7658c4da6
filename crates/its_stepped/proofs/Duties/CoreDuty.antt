-- CORBLK does its duty, with the pages of its own job and with those of an inferior.
use Rattle.std.specs.Prelude.{if◌then◌else◌, ◌==◌, ◌&&◌, ◌≡◌, ℕ, Bool, true, false, Option, Some, [], ◌∷◌, nat_lt, refl}
use Rattle.std.proofs.Common.{sym, ◌∙◌, ap, subst, inr, arith}
use Rattle.std.proofs.lemmas.Bool.{eq-eqb}
use Rattle.its_word.specs.Core.{Core}
use Rattle.its_records.specs.declared.calls.Ask.{Ask}
use Rattle.its_records.specs.declared.calls.Site.{Site}
use Rattle.its_frame.specs.declared.name.CallName.{CallName}
use Rattle.its_frame.specs.declared.name.CallName.TheVariants.{Corblk}
use Rattle.its_plain.specs.Call.Arguments.{input}
use Rattle.its_plain.specs.Call.Basic.{Oneself, is_oneself, channel_at, party_on, party}
use Rattle.its_plain.specs.Call.Core.{page_changed, highest_operation, page_tests, pages_of, corblk_of, corblk}
use Rattle.its_plain.specs.Call.Usr.{other_core}
use Rattle.its_plain.specs.Call.Decide.{call_named}
use Rattle.its_plain.specs.Machine.{Chan, Shut, On, Machine}
use Rattle.its_plain.specs.Call.Tests.{◌⇒◌, finishes, fails}
use Rattle.its_plain.specs.Machine.View.{View}
use Rattle.its_stepped.specs.State.{State}
use Rattle.its_stepped.specs.Tick.{makes_page, reserves}
use Rattle.its_stepped.specs.Sound.{most_owed_by, most_owed}
use Rattle.its_stepped.specs.Quiet.{Reached, Quiet}
use Rattle.its_stepped.specs.Duty.{Remains, Duty, parts_in}
use Rattle.its_stepped.specs.Calling.{Calling}
use Rattle.its_stepped.proofs.Committing.TargetLaws.{aimed_reached, aimed_on}
use Rattle.its_stepped.proofs.Committing.TestLaws.{first_holds, room, fails_duty}
use Rattle.its_stepped.proofs.Duties.CallWays.{page_by}

-- no argument is pending
most_none : (a : Ask) → call_named a.name ≡ Some Corblk → most_owed a ≡ 0
unfolding most_owed
most_none a e = ap most_owed_by e

owes_none : (m : Machine) (v : State) (j : ℕ) (x : View) (s : Site) (a : Ask) (n : ℕ) → Calling m v j x.own s a n → call_named a.name ≡ Some Corblk → n ≡ 0
owes_none m v j x s a n c e = let few = c.debts.few in let most = most_none a e in omega arith

-- operation 1 alone makes a page, and it has reserved it
pub makes_reserves : (a : Ask) → call_named a.name ≡ Some Corblk → a.fail ≡ 0 → (input a 0 == 1) ≡ true → reserves a ≡ true
unfolding reserves
makes_reserves a e z one =
    ap (λ (b : Bool). b && makes_page (call_named a.name) (input a 0)) (eq-eqb a.fail 0 z) ∙ ap (λ (o : Option CallName). makes_page o (input a 0)) e ∙ one

page_quiet : (m : Machine) (v : State) (j : ℕ) (x : View) (s : Site) (a : Ask) (n t k : ℕ) → Calling m v j x.own s a n
    → call_named a.name ≡ Some Corblk → a.fail ≡ 0
    → Reached v j t → Quiet (page_changed (input a 0) t k) j v
page_quiet m v j x s a n t k c e z h =
    page_by (λ d. Quiet d j v) (input a 0) t k h (λ one. record { reached = h; page = c.full (makes_reserves a e z one) }) h

-- of a job that it reaches: it stores no word, whosever pages it changes
pages_duty : (m : Machine) (v : State) (j : ℕ) (x : View) (s : Site) (a : Ask) (n t : ℕ) (p : Core) → Calling m v j x.own s a n
    → call_named a.name ≡ Some Corblk → a.fail ≡ 0
    → Reached v j t → Duty v j x.own s a n (pages_of x a (input a 0) t p (input a 2))
pages_duty m v j x s a n t p c e z h =
    let op = input a 0 in
    let k = input a 2 in
    first_holds (Duty v j x.own s a n) (page_tests x a op p k) (finishes x (page_changed op t k ∷ []) [])
    (λ t. fails_duty m v j x s a n 0o22 c, (λ t. fails_duty m v j x s a n 0o16 c, (λ t. fails_duty m v j x s a n 0o15 c, tt)))
    (λ passed. record {
      quiet = (page_quiet m v j x s a n t k c e z h, tt);
      stores = inr ((page_by (λ d. Remains d j v) op t k tt (λ one. tt) tt, tt), owes_none m v j x s a n c e, refl);
      few =
          let parts : parts_in (page_changed op t k ∷ []) ≡ 0 = page_by (λ d. parts_in (d ∷ []) ≡ 0) op t k refl (λ one. refl) refl in
          let r = room m v j x.own s a n c in
          omega arith;
    })

-- its own pages, if no change reaches another job
oneself_reached : (m : Machine) (v : State) (j : ℕ) (x : View) (s : Site) (a : Ask) (n : ℕ) → Calling m v j x.own s a n
    → call_named a.name ≡ Some Corblk → Reached v j j
oneself_reached m v j x s a n c e = record { still = c.still (owes_none m v j x s a n c e); other = λ ne. absurd (ne refl) }

channel_duty : (m : Machine) (v : State) (j : ℕ) (x : View) (s : Site) (a : Ask) (n : ℕ) (h : Chan) → Calling m v j x.own s a n
    → call_named a.name ≡ Some Corblk → a.fail ≡ 0
    → channel_at x.own.channels (input a 1) ≡ h → Duty v j x.own s a n (corblk_of x a (party_on h))
channel_duty m v j x s a n Shut c e z is = fails_duty m v j x s a n 0o4 c
channel_duty m v j x s a n (On t true at) c e z is =
    pages_duty m v j x s a n t (other_core x) c e z (aimed_reached v j t (aimed_on m v j x.own s a n Corblk 1 t at true c e z refl refl is))
channel_duty m v j x s a n _ c e z is = fails_duty m v j x s a n 0o5 c

party_duty : (m : Machine) (v : State) (j : ℕ) (x : View) (s : Site) (a : Ask) (n : ℕ) (b : Bool) → Calling m v j x.own s a n → x.slot ≡ j
    → call_named a.name ≡ Some Corblk → a.fail ≡ 0
    → Duty v j x.own s a n (corblk_of x a (if b then Oneself else party_on (channel_at x.own.channels (input a 1))))
party_duty m v j x s a n true c here e z =
    pages_duty m v j x s a n x.slot x.own.core c e z (subst (Reached v j) (sym here) (oneself_reached m v j x s a n c e))
party_duty m v j x s a n false c here e z = channel_duty m v j x s a n (channel_at x.own.channels (input a 1)) c e z refl

pub corblk_duty : (m : Machine) (v : State) (j : ℕ) (x : View) (s : Site) (a : Ask) (n : ℕ) → Calling m v j x.own s a n → x.slot ≡ j
    → call_named a.name ≡ Some Corblk → a.fail ≡ 0
    → Duty v j x.own s a n (corblk x a)
unfolding corblk
corblk_duty m v j x s a n c here e z =
    first_holds (Duty v j x.own s a n) (nat_lt highest_operation (input a 0) ⇒ fails x a 0o22 ∷ []) (corblk_of x a (party x (input a 1)))
    (λ t. fails_duty m v j x s a n 0o22 c, tt) (λ t. party_duty m v j x s a n (is_oneself (input a 1)) c here e z)
