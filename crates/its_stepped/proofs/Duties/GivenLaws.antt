-- Every call does its duty: what a tick takes as given follows from soundness, from what the
-- decoding has looked at, and from how jobs lie to each other.
use Rattle.std.specs.Prelude.{if◌then◌else◌, ◌==◌, ◌||◌, ◌≡◌, ◌≢◌, ℕ, Bool, true, false, Option, Some, None, IfSome, List, [], ◌∷◌, ◌++◌, refl}
use Rattle.std.specs.List.{range_with_len}
use Rattle.std.proofs.Common.{sym, ◌∙◌, ap, subst, inl, inr}
use Rattle.std.proofs.lemmas.Bool.{cases_eq, eq-eqb, eqb-false, ne_eqb, or_parts}
use Rattle.its_word.specs.Limits.{slots}
use Rattle.its_records.specs.Tree.{is_below, slots_below}
use Rattle.its_records.specs.declared.calls.Ask.{Ask}
use Rattle.its_records.specs.declared.calls.Site.{Site}
use Rattle.its_frame.specs.declared.frame.Frame.{Frame}
use Rattle.its_frame.specs.declared.frame.Frame.TheVariants.{Holding, Waiting}
use Rattle.its_frame.specs.declared.name.CallName.{CallName}
use Rattle.its_frame.specs.declared.name.CallName.TheVariants.{Hang, Sleep, Dismis, Usrvar, Logout, Open, Close, Iot, Siot, Ttylnd, Access, Delete, Rename, Usrmem, Uclose, Corblk, Realt}
use Rattle.its_plain.specs.Call.Arguments.{debts}
use Rattle.its_plain.specs.Call.Step.{among, decision}
use Rattle.its_plain.specs.Machine.Change.{superiors}
use Rattle.its_plain.specs.Call.Decide.{call_row, call_named, decided_by, decided, target, listed, with_below, reach_by, reach}
use Rattle.its_plain.specs.Machine.{Whole, Machine}
use Rattle.its_plain.specs.Machine.Own.{with_stores}
use Rattle.its_word.specs.Stores.{stored}
use Rattle.its_plain.specs.Machine.View.{View, view}
use Rattle.its_stepped.specs.State.{State, plain, seen}
use Rattle.its_stepped.specs.Unwind.{all_unwound}
use Rattle.its_stepped.specs.Tick.{reserves, after_help_if, helps, with_preparation, quarters}
use Rattle.its_stepped.specs.Sound.{Paged, SoundFrame, SoundBy, Sound, Holds}
use Rattle.its_stepped.specs.Quiet.{IsStill}
use Rattle.its_stepped.specs.Forest.{Forest}
use Rattle.its_stepped.specs.Duty.{Duty, Meets, GivenBy, Given}
use Rattle.its_stepped.specs.Calling.{Decoding, Calling}
use Rattle.its_stepped.proofs.Frame.FrameLaws.{seen_superior}
use Rattle.its_stepped.proofs.Unwinding.UnwindLaws.{filtered_out, all_unwound_none}
use Rattle.its_stepped.proofs.Committing.HelpLaws.{helped_if_others, help_unmarked}
use Rattle.its_stepped.proofs.Committing.EffectLaws.{superiors_plain}
use Rattle.its_stepped.proofs.Frame.OverLaws.{can_stored, debts_alike}
use Rattle.its_stepped.proofs.Ticking.TickLaws.{seen_at, found, Trying, trying_holding, trying_waiting}
use Rattle.its_stepped.proofs.Keeping.ForestLaws.{forest_below, apart_job}
use Rattle.its_stepped.proofs.Lining.LiftLaws.{free_frame}
use Rattle.its_stepped.proofs.Committing.TargetLaws.{target_inferior}
use Rattle.its_stepped.proofs.Committing.TestLaws.{fails_duty}
use Rattle.its_stepped.proofs.Duties.CallDuties.{hang_duty, sleep_duty, dismiss_duty, realt_duty}
use Rattle.its_stepped.proofs.Duties.UsrvarDuty.{usrvar_duty}
use Rattle.its_stepped.proofs.Duties.LogoutDuty.{logout_duty}
use Rattle.its_stepped.proofs.Duties.TtyDuty.{named_waits, ttylnd_duty, answering_duty}
use Rattle.its_stepped.proofs.Duties.CallWays.{Answering, answer_ways}
use Rattle.its_stepped.proofs.Duties.UsrDuty.{unmapped, Outlined, usrmem_duty, uclose_duty}
use Rattle.its_stepped.proofs.Duties.DeviceDuty.{open_duty, close_duty, iot_duty, siot_duty}
use Rattle.its_stepped.proofs.Duties.CoreDuty.{corblk_duty}
use Rattle.its_stepped.proofs.Frame.PageLaws.{waits_reserves_none, page_full}
use Rattle.its_stepped.proofs.Duties.FileDuty.{access_duty, delete_duty, rename_duty}

-- a call other than `.IOT` that changes nothing but the word of its output
answers : (m : Machine) (v : State) (j : ℕ) (x : View) (s : Site) (a : Ask) (n : ℕ) (k : CallName) → Calling m v j x.own s a n
    → Some k ≢ Some Iot → call_named a.name ≡ Some k
    → Answering (Duty v j x.own s a n) x a
answers m v j x s a n k c other e = answering_duty m v j x s a n c (λ i. other (sym e ∙ i))

holds : (b : Bool) → b ≡ true → Holds b
holds true e = tt
holds false e = absurd cc

-- every call
named_duty : (d : Decoding) (m : Machine) (v : State) (j : ℕ) (x : View) (s : Site) (a : Ask) (n : ℕ) (o : Option CallName) → Calling m v j x.own s a n
    → x.slot ≡ j → Outlined m x → call_named a.name ≡ o → a.fail ≡ 0 → Duty v j x.own s a n (decided_by x a o)
named_duty d m v j x s a n (Some Hang) c here same e z = hang_duty m v j x s a n c e
named_duty d m v j x s a n (Some Sleep) c here same e z = sleep_duty d m v j x s a n c e z
named_duty d m v j x s a n (Some Dismis) c here same e z = dismiss_duty m v j x s a n c
named_duty d m v j x s a n (Some Usrvar) c here same e z = usrvar_duty m v j x s a n c e z
named_duty d m v j x s a n (Some Logout) c here same e z = logout_duty m v j x s a n c e z
named_duty d m v j x s a n (Some Open) c here same e z = open_duty m v j x s a n c same
named_duty d m v j x s a n (Some Close) c here same e z = close_duty m v j x s a n c e z
named_duty d m v j x s a n (Some Iot) c here same e z = iot_duty m v j x s a n c e z
named_duty d m v j x s a n (Some Siot) c here same e z = siot_duty d m v j x s a n c e z
named_duty d m v j x s a n (Some Ttylnd) c here same e z = ttylnd_duty m v j x s a n c
named_duty d m v j x s a n (Some Access) c here same e z = access_duty m v j x s a n c
named_duty d m v j x s a n (Some Delete) c here same e z = delete_duty m v j x s a n c e z
named_duty d m v j x s a n (Some Rename) c here same e z = rename_duty m v j x s a n c e z
named_duty d m v j x s a n (Some Usrmem) c here same e z = usrmem_duty m v j x s a n c e z
named_duty d m v j x s a n (Some Uclose) c here same e z = uclose_duty m v j x s a n c e z
named_duty d m v j x s a n (Some Corblk) c here same e z = corblk_duty m v j x s a n c here e z
named_duty d m v j x s a n (Some Realt) c here same e z = realt_duty m v j x s a n c
named_duty d m v j x s a n (Some k) c here same e z =
    answer_ways (Duty v j x.own s a n) x a k refl (answers m v j x s a n k c (λ i. cc) e)
    (λ i r. named_waits m v j x s a n k c e refl (holds (call_row k).waits i))
named_duty d m v j x s a n None c here same e z = fails_duty m v j x s a n 0o1 c

pub decided_duty : (d : Decoding) (m : Machine) (v : State) (j : ℕ) (x : View) (s : Site) (a : Ask) (n : ℕ) → Calling m v j x.own s a n
    → x.slot ≡ j → Outlined m x
    → Duty v j x.own s a n (decided x a)
unfolding decided
decided_duty d m v j x s a n c here same = elim (cases_eq a.fail 0) [
  | inl z ↦ rw (eq-eqb a.fail 0 z) (named_duty d m v j x s a n (call_named a.name) c here same refl z)
  | inr ne ↦ rw (ne_eqb a.fail 0 ne) (fails_duty m v j x s a n a.fail c)
]

pub decision_duty : (d : Decoding) (m : Machine) (v : State) (j : ℕ) (own : Whole) (s : Site) (a : Ask) (n : ℕ) → Calling m v j own s a n
    → Duty v j own s a n (decision m j own a)
unfolding decision view
decision_duty d m v j own s a n c = decided_duty d m v j (view m j own (target own a)) s a n c refl refl

-- no call reaches its own slot
neither : (b c d : Bool) → (c ≡ false → d ≡ false) → (b || c) ≡ false → (b || d) ≡ false
neither true c d h e = cc
neither false c d h e = h e

among_neither : (k : ℕ) (xs ys : List ℕ) → among k xs ≡ false → among k ys ≡ false → among k (xs ++ ys) ≡ false
among_neither k [] ys h e = e
among_neither k (i ∷ xs) ys h e = neither (i == k) (among k xs) (among k (xs ++ ys)) (λ t. among_neither k xs ys t e) h

pub below_itself : (sup : ℕ → Option ℕ) (j : ℕ) → is_below sup j j ≡ false
unfolding is_below
below_itself sup j = rw (eq-eqb j j refl) refl

among_one : (j s : ℕ) → s ≢ j → among j (s ∷ []) ≡ false
among_one j s ne = rw (ne_eqb s j ne) refl

superior_apart : (j : ℕ) (o : Option ℕ) → o ≢ Some j → among j (listed o) ≡ false
superior_apart j None h = refl
superior_apart j (Some s) h = among_one j s (λ e. h (ap Some e))

-- an inferior is not the caller, and no job below it is
inferior_apart : (m : Machine) (j s : ℕ) → Forest m → superiors m s ≡ Some j → among j (s ∷ []) ≡ false
inferior_apart m j s f e =
    let both = or_parts (j == s) (is_below (superiors m) s j) (forest_below m s j f e) in
    among_one j s (λ t. eqb-false j s both.0 (sym t))

below_apart : (m : Machine) (j s : ℕ) → Forest m → superiors m s ≡ Some j → among j (slots_below (superiors m) s ++ s ∷ []) ≡ false
unfolding slots_below
below_apart m j s f e =
    let both = or_parts (j == s) (is_below (superiors m) s j) (forest_below m s j f e) in
    among_neither j (slots_below (superiors m) s) (s ∷ []) (filtered_out (is_below (superiors m) s) j (range_with_len 0 slots) both.1)
    (inferior_apart m j s f e)

target_apart : (m : Machine) (j : ℕ) (q : Whole) (a : Ask) → Forest m → m.jobs j ≡ Some q → among j (listed (target q a)) ≡ false
target_apart m j q a f is = go (target q a) refl
  where
    go : (o : Option ℕ) → target q a ≡ o → among j (listed o) ≡ false
    go None e = refl
    go (Some s) e = inferior_apart m j s f (target_inferior m j q a s f is e)

removal_apart : (m : Machine) (j : ℕ) (q : Whole) (a : Ask) → Forest m → m.jobs j ≡ Some q → among j (with_below m (target q a)) ≡ false
removal_apart m j q a f is = go (target q a) refl
  where
    go : (o : Option ℕ) → target q a ≡ o → among j (with_below m o) ≡ false
    go None e = refl
    go (Some s) e = below_apart m j s f (target_inferior m j q a s f is e)

reach_apart_by : (m : Machine) (j : ℕ) (q : Whole) (a : Ask) (o : Option CallName) → Forest m → m.jobs j ≡ Some q → among j (reach_by m j q a o) ≡ false
unfolding slots_below
reach_apart_by m j q a (Some Logout) f is =
    among_neither j (slots_below (superiors m) j) (listed q.superior)
    (filtered_out (is_below (superiors m) j) j (range_with_len 0 slots) (below_itself (superiors m) j))
    (superior_apart j q.superior (apart_job m j q f is).superior)
reach_apart_by m j q a (Some Uclose) f is = removal_apart m j q a f is
reach_apart_by m j q a _ f is = target_apart m j q a f is

pub reach_apart : (m : Machine) (j : ℕ) (q : Whole) (a : Ask) → Forest m → m.jobs j ≡ Some q → among j (reach m j q a) ≡ false
unfolding reach
reach_apart m j q a f is = go (a.fail == 0)
  where
    go : (b : Bool) → among j (if b then reach_by m j q a (call_named a.name) else []) ≡ false
    go true = reach_apart_by m j q a (call_named a.name) f is
    go false = refl

-- what a call that is tried may rely on
still_found : (w : State) (j : ℕ) (own : Whole) (a : Ask) → Sound w → helps own a ≡ true → (with_preparation w j own a).mark ≡ None
unfolding with_preparation
still_found w j own a sound e = let u = all_unwound (reach (plain w) j own a) w in ap (λ (b : Bool). (after_help_if b u).mark) e ∙ help_unmarked u

free_found : (w : State) (j : ℕ) (own : Whole) (a : Ask) (k : ℕ) → Sound w → among k (reach (plain w) j own a) ≡ true
    → (with_preparation w j own a).frames k ≡ None
unfolding with_preparation
free_found w j own a k sound h =
    let ks = reach (plain w) j own a in
    (helped_if_others (helps own a) (all_unwound ks w) k).frame ∙ all_unwound_none ks w k sound h

empty_found : (v : State) (k : ℕ) → Sound v → (plain v).jobs k ≡ None → v.frames k ≡ None
unfolding plain
empty_found v k sound e = free_frame v k sound (unmapped (seen (v.frames k)) (v.raw.jobs k) e)

calling : (d : Decoding) (w : State) (j : ℕ) (q : Whole) (s : Site) (a : Ask) (n : ℕ) → Forest (plain w) → Sound w → Trying w j q s a n
    → IfSome (w.reserved j) (Paged a n)
    → (reserves a ≡ true → w.reserved j ≡ Some quarters) → (n ≡ 0 → IsStill (w.frames j))
    → (plain w).jobs j ≡ Some (with_stores (debts a n) q) → among j (reach (plain w) j (with_stores (debts a n) q) a) ≡ false
    → Calling (plain w) (with_preparation w j (with_stores (debts a n) q) a) j (with_stores (debts a n) q) s a n
calling d w j q s a n forest sound t page full still here apart =
    let own : Whole = with_stores (debts a n) q in
    let f = found w j own a sound apart in
    record {
      stands = t.stands;
      fetched = d.fetched (stored q.core (debts a n)) q.job s a t.stands;
      debts = debts_alike q.core (stored q.core (debts a n)) a n (λ p. can_stored q.core (debts a n) p) t.here.debts;
      page = subst (λ (r : Option ℕ). IfSome r (Paged a n)) (sym f.slot.page) page;
      full = λ e. f.slot.page ∙ full e;
      still = λ z. subst IsStill (sym f.slot.frame) (still z);
      reached = λ k h. free_found w j own a k sound h;
      apart = apart;
      here = here;
      tree = λ k. ap (λ (sup : ℕ → Option ℕ). sup k) (sym (superiors_plain (with_preparation w j own a))) ∙ ap (λ (m : Machine). superiors m k) f.plain;
      forest = forest;
      empty = λ k e. empty_found (with_preparation w j own a) k f.sound (ap (λ (m : Machine). m.jobs k) f.plain ∙ e);
      unmarked = λ e. still_found w j own a sound e;
    }

meets : (d : Decoding) (w : State) (j : ℕ) (q : Whole) (s : Site) (a : Ask) (n : ℕ) → Forest (plain w) → Sound w → Trying w j q s a n
    → IfSome (w.reserved j) (Paged a n)
    → (reserves a ≡ true → w.reserved j ≡ Some quarters) → (n ≡ 0 → IsStill (w.frames j)) → Meets w j (with_stores (debts a n) q) s a n
meets d w j q s a n forest sound t page full still =
    let own : Whole = with_stores (debts a n) q in
    let here : (plain w).jobs j ≡ Some own = seen_at w j q (w.frames j) t.here.job_is refl ∙ ap Some (t.here.seen_is q) in
    let apart = reach_apart (plain w) j own a forest here in
    record {
      apart = apart;
      page = full;
      duty = decision_duty d (plain w) (with_preparation w j own a) j own s a n (calling d w j q s a n forest sound t page full still here apart);
    }

superior_given : (w : State) (j : ℕ) (q : Whole) → Forest (plain w) → w.raw.jobs j ≡ Some q → q.superior ≢ Some j
superior_given w j q forest is e =
    (apart_job (plain w) j (seen (w.frames j) q) forest (seen_at w j q (w.frames j) is refl)).superior (seen_superior (w.frames j) q ∙ e)

frame_given : (d : Decoding) (w : State) (j : ℕ) (q : Whole) (f : Frame) → Forest (plain w) → Sound w → w.raw.jobs j ≡ Some q
    → w.frames j ≡ Some f → SoundFrame q f (w.reserved j)
    → GivenBy w j q (Some f)
unfolding seen
frame_given d w j q (Holding f) forest sound is fr h = λ tried.
    meets d w j q f.site f.ask f.owes forest sound (trying_holding w j q f is fr h)
    (subst (λ (r : Option ℕ). IfSome r (Paged f.ask f.owes)) (sym h.pays.page_is) h.pays.paged)
    (λ e. page_full f.ask f.owes (w.reserved j) f.page h.pays.page_is h.pays.has h.pays.paged tried e) (λ z. subst IsStill (sym fr) z)
frame_given d w j q (Waiting f) forest sound is fr h =
    meets d w j q f.site f.ask f.owes forest sound (trying_waiting w j q f is fr h)
    (subst (λ (r : Option ℕ). IfSome r (Paged f.ask f.owes)) (sym h.pays.page_is) tt)
    (λ e. absurd (let none = waits_reserves_none f.ask h.pays.waitable in cc)) (λ z. subst IsStill (sym fr) z)
frame_given d w j q _ forest sound is fr h = tt

given_by : (d : Decoding) (w : State) (j : ℕ) (q : Whole) (o : Option Frame) → Forest (plain w) → Sound w → w.raw.jobs j ≡ Some q
    → w.frames j ≡ o → SoundBy (Some q) o (w.reserved j)
    → GivenBy w j q o
given_by d w j q None forest sound is fr h = superior_given w j q forest is
given_by d w j q (Some f) forest sound is fr h = frame_given d w j q f forest sound is fr h

pub given : (d : Decoding) (w : State) (j : ℕ) → Forest (plain w) → Sound w → Given w j
given d w j forest sound = record {
  by = λ q is. given_by d w j q (w.frames j) forest sound is refl (subst (λ (o : Option Whole). SoundBy o (w.frames j) (w.reserved j)) is (sound.each j).by);
}
