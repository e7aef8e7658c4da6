-- The calls on inferiors do their duty: OPEN of USR; `.IOT` and SIOT if the channel is on one;
-- USRMEM and UCLOSE.
use Rattle.std.specs.Prelude.{◌≡◌, ◌≢◌, ◌==◌, ℕ, ◌+◌, ◌-◌, ◌%◌, ◌^◌, Bool, true, false, not, Option, Some, None, [], ◌∷◌, ◌++◌, option_map, unwrap_or, refl}
use Rattle.std.proofs.Common.{sym, ◌∙◌, ap, subst, inl, inr, arith}
use Rattle.std.proofs.lemmas.Bool.{cases_eq, not-false}
use Rattle.its_word.specs.Word.{right_of}
use Rattle.its_word.specs.Byte.{has_size, load_of}
use Rattle.its_word.specs.Core.{word_at, can_store}
use Rattle.its_records.specs.Tree.{least_free, slots_below}
use Rattle.its_records.proofs.FreeLaws.{least_empty}
use Rattle.its_word.specs.declared.access.Fault.TheVariants.{Mpv, Wro}
use Rattle.its_records.specs.declared.calls.Ask.{Ask}
use Rattle.its_records.specs.declared.calls.Site.{Site}
use Rattle.its_frame.specs.declared.change.Change.TheVariants as changes
use Rattle.its_frame.specs.declared.change.Opened.TheVariants as opened
use Rattle.its_frame.specs.declared.name.CallName.{CallName}
use Rattle.its_frame.specs.declared.name.CallName.TheVariants.{Iot, Siot, Usrmem, Uclose}
use Rattle.its_plain.specs.Call.Arguments.{input, has_input, in_footprint}
use Rattle.its_plain.specs.Call.Basic.{channel_at, ioc}
use Rattle.its_plain.specs.Call.Step.{among}
use Rattle.its_plain.specs.Call.Transfer.{store_tests, read_tests, word_of, iot_ends, next_pointer}
use Rattle.its_plain.specs.Call.Usr.{inferior_named, any_named, makes_job, opens_job, usr_tests, opens_usr, other_core, at_end, iot_peeks, iot_from, iot_into, siot_peeks, siot_from, siot_pokes, siot_into, set_word, usrmem_tests, usrmem_on, usrmem, uclose_on, uclose}
use Rattle.its_plain.specs.Machine.Change.{superiors, is_gone}
use Rattle.its_plain.specs.Call.Decide.{call_named, with_below, reach}
use Rattle.its_plain.specs.Machine.{Chan, Shut, On, Whole, Machine}
use Rattle.its_plain.specs.Call.Tests.{◌⇒◌, finishes, fails, out}
use Rattle.its_plain.specs.Machine.View.{Outline, View, outline}
use Rattle.its_stepped.specs.State.{State}
use Rattle.its_stepped.specs.Quiet.{AllQuiet}
use Rattle.its_stepped.specs.Duty.{AllSpare, Duty, parts_in}
use Rattle.its_stepped.specs.Calling.{Decoding, Calling}
use Rattle.its_stepped.proofs.Unwinding.UnwindLaws.{among_first}
use Rattle.its_stepped.proofs.Keeping.ForestLaws.{forest_below, on_inferior, forest_few}
use Rattle.its_plain.proofs.TargetLaws.{target_on, reach_named}
use Rattle.its_stepped.proofs.Committing.TargetLaws.{Aimed, aimed_reached, aimed_on}
use Rattle.its_stepped.proofs.Committing.TestLaws.{first_holds, ending_duty, fails_duty, faults_duty, nothing_duty, out_few}
use Rattle.its_stepped.proofs.Duties.LogoutDuty.{among_left, among_right, among_below, gone_below}
use Rattle.its_stepped.proofs.Duties.FileDuty.{changes_duty, iot_read_duty}
use Rattle.its_stepped.proofs.Duties.SiotDuty.{Moving, siot_stores, siot_loads, siot_by_duty}

-- there is none if nothing is seen of it
pub unmapped : {X Y : Type 0} (g : X → Y) (o : Option X) → option_map g o ≡ None → o ≡ None
unmapped g None e = refl
unmapped g (Some x) e = cc

-- a call sees the outlines of the jobs of a machine
abbrev pub Outlined : Machine → View → Type 0
Outlined m x = x.outlines ≡ (λ k. option_map outline (m.jobs k))

-- OPEN: an inferior that is made gets an empty slot, if no call is in progress
vacant : (m : Machine) (v : State) (j : ℕ) (x : View) (s : Site) (a : Ask) (n k : ℕ) → Calling m v j x.own s a n → Outlined m x
    → least_free x.limit x.outlines ≡ Some k → Aimed v j k
vacant m v j x s a n k c same is =
    let none : m.jobs k ≡ None = unmapped outline (m.jobs k) (ap (λ (f : ℕ → Option Outline). f k) (sym same) ∙ least_empty x.limit x.outlines k is) in
    record { other = λ e. (let no : None ≡ Some x.own = sym none ∙ ap m.jobs e ∙ c.here in cc); free = c.empty k none }

makes_job_duty : (m : Machine) (v : State) (j : ℕ) (x : View) (s : Site) (a : Ask) (n i u name : ℕ) (o : Option ℕ) → Calling m v j x.own s a n
    → Outlined m x → least_free x.limit x.outlines ≡ o → Duty v j x.own s a n (makes_job x a i u name o)
makes_job_duty m v j x s a n i u name None c same is = fails_duty m v j x s a n 0o14 c
makes_job_duty m v j x s a n i u name (Some k) c same is =
    let h = vacant m v j x s a n k c same is in
    ending_duty m v j x.own s a n (changes.Make k u name ∷ changes.Open i (opened.Usr k true) ∷ []) [] c (h.free, (tt, tt))
    (h.other, (tt, tt)) refl tt (omega arith)

opens_job_duty : (m : Machine) (v : State) (j : ℕ) (x : View) (s : Site) (a : Ask) (n i u name : ℕ) (write : Bool) (o : Option ℕ) → Calling m v j x.own s a n
    → Outlined m x → Duty v j x.own s a n (opens_job x a i u name write o)
opens_job_duty m v j x s a n i u name write (Some k) c same = changes_duty m v j x s a n (changes.Open i (opened.Usr k write)) c tt tt refl
opens_job_duty m v j x s a n i u name write None c same =
    first_holds (Duty v j x.own s a n) (any_named x u name ⇒ fails x a 0o13 ∷ not write ⇒ fails x a 0o12 ∷ [])
    (makes_job x a i u name (least_free x.limit x.outlines))
    (λ t. fails_duty m v j x s a n 0o13 c, (λ t. fails_duty m v j x s a n 0o12 c, tt))
    (λ t. makes_job_duty m v j x s a n i u name (least_free x.limit x.outlines) c same refl)

pub opens_usr_duty : (m : Machine) (v : State) (j : ℕ) (x : View) (s : Site) (a : Ask) (n : ℕ) → Calling m v j x.own s a n → Outlined m x
    → Duty v j x.own s a n (opens_usr x a)
unfolding opens_usr
opens_usr_duty m v j x s a n c same =
    let control = unwrap_or a.control 0 in
    let named = inferior_named x (input a 2) (input a 3) in
    first_holds (Duty v j x.own s a n) (usr_tests x a (input a 0) control) (opens_job x a (input a 0) (input a 2) (input a 3) (control == 1) named)
    (λ t. fails_duty m v j x s a n 0o4 c, (λ t. fails_duty m v j x s a n 0o22 c, tt))
    (λ t. opens_job_duty m v j x s a n (input a 0) (input a 2) (input a 3) (control == 1) named c same)

-- `.IOT`: from an inferior as from a file, and into it, which is in user mode
iot_peeks_duty : (m : Machine) (v : State) (j : ℕ) (x : View) (s : Site) (a : Ask) (n e i at : ℕ) (ended : Bool) (o : Option ℕ)
    → Calling m v j x.own s a n → e % 2 ^ 18 ≡ e
    → can_store x.own.core e ≡ true → Duty v j x.own s a n (iot_peeks x e i at ended o)
iot_peeks_duty m v j x s a n e i at true o c is can = iot_read_duty m v j x s a n e i at None c is can
iot_peeks_duty m v j x s a n e i at false (Some w) c is can = iot_read_duty m v j x s a n e i at (Some w) c is can
iot_peeks_duty m v j x s a n e i at false None c is can = nothing_duty m v j x s a n c

pub iot_from_duty : (m : Machine) (v : State) (j : ℕ) (x : View) (s : Site) (a : Ask) (n e i at : ℕ) → Calling m v j x.own s a n
    → e % 2 ^ 18 ≡ e → Duty v j x.own s a n (iot_from x e i at)
iot_from_duty m v j x s a n e i at c is =
    let o = word_at (other_core x) at in
    first_holds (Duty v j x.own s a n) (store_tests x e) (iot_peeks x e i at (at_end at) o)
    (λ t. faults_duty m v j x s a n Mpv c, (λ t. faults_duty m v j x s a n Wro c, tt))
    (λ t. iot_peeks_duty m v j x s a n e i at (at_end at) o c is (not-false (can_store x.own.core e) t.1.0))

pub iot_into_duty : (m : Machine) (v : State) (j : ℕ) (x : View) (s : Site) (a : Ask) (n e i k at : ℕ) → Calling m v j x.own s a n
    → Aimed v j k → Duty v j x.own s a n (iot_into x e i k at)
iot_into_duty m v j x s a n e i k at c h =
    first_holds (Duty v j x.own s a n) (read_tests x e ++ (at_end at ⇒ ioc x ∷ not (can_store (other_core x) at) ⇒ ioc x ∷ []))
    (iot_ends x (changes.Poke k at (word_of x e) ∷ changes.Move i (at + 1) ∷ []) [])
    (λ t. faults_duty m v j x s a n Mpv c, (λ t. nothing_duty m v j x s a n c, (λ t. nothing_duty m v j x s a n c, tt)))
    (λ t. ending_duty m v j x.own s a n (changes.Poke k at (word_of x e) ∷ changes.Move i (at + 1) ∷ []) [] c
    (aimed_reached v j k h, (tt, tt)) (h.other, (tt, tt)) refl tt (omega arith))

-- SIOT
siot_peeks_duty : (d : Decoding) (m : Machine) (v : State) (j : ℕ) (x : View) (s : Site) (a : Ask) (n w k i at : ℕ) (o : Option ℕ)
    → Calling m v j x.own s a n → call_named a.name ≡ Some Siot
    → Moving x.own.core a → has_size w ≡ true → in_footprint (right_of w) a ≡ false → Duty v j x.own s a n (siot_peeks x a w k i at o)
siot_peeks_duty d m v j x s a n w k i at (Some b) c e t sized out =
    siot_stores d m v j x s a n [] (changes.Move i (at + 1) ∷ []) w b (k - 1) c e t sized out (tt, tt) (tt, tt) refl tt
siot_peeks_duty d m v j x s a n w k i at None c e t sized out =
    first_holds (Duty v j x.own s a n) (store_tests x (right_of w)) (fails x a 0o16)
    (λ t. faults_duty m v j x s a n Mpv c, (λ t. faults_duty m v j x s a n Wro c, tt))
    (λ t. fails_duty m v j x s a n 0o16 c)

pub siot_from_duty : (d : Decoding) (m : Machine) (v : State) (j : ℕ) (x : View) (s : Site) (a : Ask) (n i at : ℕ)
    → Calling m v j x.own s a n → call_named a.name ≡ Some Siot → a.fail ≡ 0
    → Duty v j x.own s a n (siot_from x a i at)
siot_from_duty d m v j x s a n i at c e z =
    let w = next_pointer (input a 1) in
    let o = word_at (other_core x) at in
    siot_by_duty m v j x s a n true (at_end at) (siot_peeks x a w (input a 2) i at o) c e z
    (λ t sized out. siot_peeks_duty d m v j x s a n w (input a 2) i at o c e t sized out)

pub siot_into_duty : (d : Decoding) (m : Machine) (v : State) (j : ℕ) (x : View) (s : Site) (a : Ask) (n i k at : ℕ)
    → Calling m v j x.own s a n → call_named a.name ≡ Some Siot → a.fail ≡ 0
    → Aimed v j k → Duty v j x.own s a n (siot_into x a i k at)
siot_into_duty d m v j x s a n i k at c e z h =
    let w = next_pointer (input a 1) in
    let word = load_of w (word_of x (right_of w)) in
    siot_by_duty m v j x s a n true (at_end at) (siot_pokes x a w (input a 2) i k at) c e z
    (λ t sized out. siot_loads d m v j x s a n (not (can_store (other_core x) at) ⇒ fails x a 0o16 ∷ [])
    (changes.Poke k at word ∷ changes.Move i (at + 1) ∷ []) w (input a 2 - 1) c e t sized
    (aimed_reached v j k h, (tt, tt)) (h.other, (tt, tt)) refl (λ t. fails_duty m v j x s a n 0o16 c, tt))

-- USRMEM
word_quiet : (v : State) (j k p w : ℕ) (b : Bool) → Aimed v j k → AllQuiet (set_word k p w b) j v
word_quiet v j k p w true h = (aimed_reached v j k h, tt)
word_quiet v j k p w false h = tt

word_spares : (v : State) (j k p w : ℕ) (b : Bool) → Aimed v j k → AllSpare (set_word k p w b) j v
word_spares v j k p w true h = (h.other, tt)
word_spares v j k p w false h = tt

word_part : (k p w : ℕ) (b : Bool) → parts_in (set_word k p w b) ≡ 0
word_part k p w true = refl
word_part k p w false = refl

usrmem_apart : (o : Option CallName) → o ≡ Some Usrmem → o ≢ Some Iot
usrmem_apart o e t = cc

word_duty : (m : Machine) (v : State) (j : ℕ) (x : View) (s : Site) (a : Ask) (n k : ℕ) (write : Bool) → Calling m v j x.own s a n
    → call_named a.name ≡ Some Usrmem → Aimed v j k
    → (at : ℕ) → Duty v j x.own s a n (usrmem_on x a (On k write at))
word_duty m v j x s a n k write c e h at =
    let new = has_input a 2 in
    let old = unwrap_or (word_at (other_core x) (input a 1)) 0 in
    let cs = set_word k (input a 1) (input a 2) new in
    first_holds (Duty v j x.own s a n) (usrmem_tests x a write (input a 1) new) (finishes x cs (out a.outputs.items old)) (
      λ t. fails_duty m v j x s a n 0o22 c,
      (λ t. fails_duty m v j x s a n 0o5 c, (λ t. fails_duty m v j x s a n 0o16 c, (λ t. fails_duty m v j x s a n 0o16 c, tt))),
    )
    (λ t. ending_duty m v j x.own s a n cs (out a.outputs.items old) c (word_quiet v j k (input a 1) (input a 2) new h)
    (word_spares v j k (input a 1) (input a 2) new h)
    (word_part k (input a 1) (input a 2) new) (c.fetched.output (usrmem_apart (call_named a.name) e) old) (out_few a.outputs.items old))

usrmem_on_duty : (m : Machine) (v : State) (j : ℕ) (x : View) (s : Site) (a : Ask) (n : ℕ) (h : Chan) → Calling m v j x.own s a n
    → call_named a.name ≡ Some Usrmem
    → ((k at : ℕ) (write : Bool) → h ≡ On k write at → Aimed v j k) → Duty v j x.own s a n (usrmem_on x a h)
usrmem_on_duty m v j x s a n (On k write at) c e t = word_duty m v j x s a n k write c e (t k at write refl) at
usrmem_on_duty m v j x s a n Shut c e t = fails_duty m v j x s a n 0o4 c
usrmem_on_duty m v j x s a n _ c e t = fails_duty m v j x s a n 0o5 c

pub usrmem_duty : (m : Machine) (v : State) (j : ℕ) (x : View) (s : Site) (a : Ask) (n : ℕ) → Calling m v j x.own s a n
    → call_named a.name ≡ Some Usrmem → a.fail ≡ 0
    → Duty v j x.own s a n (usrmem x a)
unfolding usrmem
usrmem_duty m v j x s a n c e z =
    usrmem_on_duty m v j x s a n (channel_at x.own.channels (input a 0)) c e
    (λ k at write h. aimed_on m v j x.own s a n Usrmem 0 k at write c e z refl refl h)

-- UCLOSE: the inferior and all jobs below it are in user mode, and the caller is none of them
gone_free : (m : Machine) (v : State) (j : ℕ) (q : Whole) (s : Site) (a : Ask) (n i k at : ℕ) (write : Bool) → Calling m v j q s a n
    → call_named a.name ≡ Some Uclose → a.fail ≡ 0
    → channel_at q.channels (input a 0) ≡ On i write at → is_gone (superiors v.raw) i k ≡ true → v.frames k ≡ None
gone_free m v j q s a n i k at write c e z is gone =
    let reached : reach m j q a ≡ slots_below (superiors m) i ++ i ∷ [] =
    reach_named m j q a Uclose z e ∙ ap (with_below m) (target_on q a Uclose 0 i at write z e refl is) in
    let below : is_gone (superiors m) i k ≡ true = subst (λ (sup : ℕ → Option ℕ). is_gone sup i k ≡ true) (λ t l. c.tree l t) gone in
    c.reached k (ap (among k) reached ∙ elim (cases_eq k i) [
      | inl same ↦ subst (λ (l : ℕ). among l (slots_below (superiors m) i ++ i ∷ []) ≡ true) (sym same)
          (among_right i (slots_below (superiors m) i) (i ∷ []) (among_first i []))
      | inr other ↦ among_left k (slots_below (superiors m) i) (i ∷ []) (among_below m i k (forest_few m c.forest) (gone_below (superiors m) i k other below))
    ])

caller_stays : (m : Machine) (v : State) (j : ℕ) (q : Whole) (s : Site) (a : Ask) (n i at : ℕ) (write : Bool) → Calling m v j q s a n
    → channel_at q.channels (input a 0) ≡ On i write at
    → is_gone (superiors v.raw) i j ≡ false
caller_stays m v j q s a n i at write c is =
    let below : is_gone (superiors m) i j ≡ false = forest_below m i j c.forest (on_inferior m j q (input a 0) i at write c.forest c.here is) in
    subst (λ (sup : ℕ → Option ℕ). is_gone sup i j ≡ false) (sym (λ t l. c.tree l t)) below

uclose_on_duty : (m : Machine) (v : State) (j : ℕ) (x : View) (s : Site) (a : Ask) (n : ℕ) (h : Chan) → Calling m v j x.own s a n
    → call_named a.name ≡ Some Uclose → a.fail ≡ 0
    → channel_at x.own.channels (input a 0) ≡ h → Duty v j x.own s a n (uclose_on x a h)
uclose_on_duty m v j x s a n (On i write at) c e z is =
    changes_duty m v j x s a n (changes.Remove i) c (λ k gone ne. gone_free m v j x.own s a n i k at write c e z is gone)
    (caller_stays m v j x.own s a n i at write c is) refl
uclose_on_duty m v j x s a n Shut c e z is = fails_duty m v j x s a n 0o4 c
uclose_on_duty m v j x s a n _ c e z is = fails_duty m v j x s a n 0o5 c

pub uclose_duty : (m : Machine) (v : State) (j : ℕ) (x : View) (s : Site) (a : Ask) (n : ℕ) → Calling m v j x.own s a n
    → call_named a.name ≡ Some Uclose → a.fail ≡ 0
    → Duty v j x.own s a n (uclose x a)
unfolding uclose
uclose_duty m v j x s a n c e z = uclose_on_duty m v j x s a n (channel_at x.own.channels (input a 0)) c e z refl
