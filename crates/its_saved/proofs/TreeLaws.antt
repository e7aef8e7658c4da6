-- Superiors and alarms.
use Rattle.std.specs.Prelude.{if◌then◌else◌, ◌≡◌, ◌≢◌, ◌≤◌, ◌<◌, ◌==◌, ◌||◌, ◌&&◌, ◌⊎◌, ℕ, suc, ◌+◌, Bool, true, false, not, Option, Some, None, IfSome, List, [], ◌∷◌, ◌++◌, option_map, nat_le, nat_lt, is_some, is_none, refl}
use Rattle.std.proofs.Common.{sym, ◌∙◌, ap, subst, arith}
use Rattle.std.proofs.lemmas.Bool.Decides.{nat_tests}
use Rattle.its_word.specs.Limits.{slots}
use Rattle.its_records.specs.Tree.{climbs_to}
use Rattle.its_records.proofs.ClimbLaws.{cut}
use Rattle.its_plain.specs.Machine.{Whole, Machine, changed, with_job}
use Rattle.its_plain.specs.Machine.Change.{superiors, superior_in, in_job, with_alarm, effect}
use Rattle.its_plain.specs.Call.Basic.{longest_period}
use Rattle.its_stepped.specs.Alarmed.{Coming}
use Rattle.its_saved.specs.StateLine.{StateLine}
use Rattle.its_saved.specs.Building.{build, under, may_come, with_superior_set, with_alarm_set}
use Rattle.its_saved.specs.Saving.{each, under_by, under_line, alarm_by, alarm_line}
use Rattle.its_saved.specs.StateLine as state
use Rattle.its_saved.proofs.ChangedLaws.{same_changed, in_job_there, upto, upto_next, upto_at, upto_all, upto_none}
use Rattle.its_saved.proofs.LeadLaws.{Leads, leads_none, leads_line, leads_each, leads_to, leads_from, passes}
use Rattle.its_saved.proofs.JobLaws.{bare}

-- a job with its superior
abbrev pub rooted : Whole → Whole
rooted q = record (bare q) { superior = q.superior }

-- a job with its superior and its alarm
abbrev pub timed : Whole → Whole
timed q = record (rooted q) { alarm = q.alarm }

-- the machine with the jobs of m, changed by f below a slot and by g from there on
abbrev pub half : Machine → Machine → (Whole → Whole) → (Whole → Whole) → ℕ → Machine
half m n f g i = record n { jobs = upto i (λ k. option_map f (m.jobs k)) (λ k. option_map g (m.jobs k)) }

-- lines for each slot, of which those of a slot lead its job from g to f
pub half_leads : (m n : Machine) (f g : Whole → Whole) (line : ℕ → Option Whole → List StateLine) (top : ℕ)
    → ((k : ℕ) → top ≤ k → m.jobs k ≡ None)
    → ((k : ℕ) → line k None ≡ [])
    → ((k : ℕ) (q : Whole) → k < top → m.jobs k ≡ Some q → Leads (half m n f g k) (line k (Some q)) (with_job (half m n f g k) k (f q)))
    → Leads (record n { jobs = λ k. option_map g (m.jobs k) }) (each (λ k. line k (m.jobs k)) top) (record n { jobs = λ k. option_map f (m.jobs k) })
half_leads m n f g line top past nothing each_one =
    leads_to _ (half m n f g top) _ _ (leads_from _ (half m n f g 0) (half m n f g top) _
    (λ t. record n { jobs = λ k. upto_none (λ i. option_map f (m.jobs i)) (λ i. option_map g (m.jobs i)) k t })
    (leads_each (λ k. line k (m.jobs k)) (half m n f g) top (λ k l. one k l (m.jobs k) refl)))
    (λ t. record n {
      jobs = λ k. upto_all top (λ i. option_map f (m.jobs i)) (λ i. option_map g (m.jobs i))
          (λ i l. ap (option_map g) (past i l) ∙ sym (ap (option_map f) (past i l))) k t;
    })
  where
    next : (k : ℕ) (o : Option Whole) → m.jobs k ≡ o → record (half m n f g k)
        { jobs = changed (half m n f g k).jobs k (option_map f o) } ≡ half m n f g (suc k)
    next k o e = λ t. record n {
      jobs = λ j. (ap (λ x. changed (half m n f g k).jobs k (option_map f x) j) (sym e)
          ∙ upto_next k (λ i. option_map f (m.jobs i)) (λ i. option_map g (m.jobs i)) j) t;
    }

    here : (k : ℕ) (o : Option Whole) → m.jobs k ≡ o → (half m n f g k).jobs k ≡ option_map g o
    here k o e = upto_at k (λ i. option_map f (m.jobs i)) (λ i. option_map g (m.jobs i)) ∙ ap (option_map g) e

    one : (k : ℕ) → k < top → (o : Option Whole) → m.jobs k ≡ o → Leads (half m n f g k) (line k o) (half m n f g (suc k))
    one k l None e =
        let at = half m n f g k in
        leads_to at at _ _ (subst (λ ls. Leads at ls at) (sym (nothing k)) (leads_none at))
        (sym (λ t. record at { jobs = λ j. same_changed at.jobs k None (sym (here k None e)) j t }) ∙ next k None e)
    one k l (Some q) e = leads_to _ _ _ _ (each_one k q l e) (next k (Some q) e)

under_done : (h : Machine) (k t : ℕ) (p : Whole) → h.jobs k ≡ Some p → p.superior ≡ None → is_some (h.jobs t) ≡ true
    → climbs_to (superiors h) k slots (Some t) ≡ false
    → build h (state.Under k t) ≡ Some (with_job h k (record p { superior = Some t }))
unfolding build with_superior_set
under_done h k t p here free job circle =
    let reached = climbs_to (superiors h) k slots (Some t) in
    passes (is_some (h.jobs k) && is_none (superiors h k) && is_some (h.jobs t) && not reached) (in_job h k (under t))
    (ap (λ o. is_some o && is_none (superior_in o) && is_some (h.jobs t) && not reached) here
    ∙ ap (λ o. is_none o && is_some (h.jobs t) && not reached) free ∙ ap (λ b. b && not reached) job ∙ ap not circle)
    ∙ ap Some (in_job_there h k (under t) p here)

-- superiors
pub superiors_lead : (m n : Machine) (top : ℕ) → ((k : ℕ) → top ≤ k → m.jobs k ≡ None)
    → ((k : ℕ) → IfSome (superiors m k) (λ s. is_some (m.jobs s) ≡ true)) → ((k : ℕ) → climbs_to (superiors m) k slots (superiors m k) ≡ false)
    → Leads (record n { jobs = λ k. option_map bare (m.jobs k) }) (each (λ k. under_line k (m.jobs k)) top)
    (record n { jobs = λ k. option_map rooted (m.jobs k) })
superiors_lead m n top past standing circle = half_leads m n rooted bare under_line top past (λ k. refl) (λ k q l e. one k q e q.superior refl)
  where
    -- superiors are not there yet from slot k on
    later : (k j : ℕ) (b : Bool) (o : Option Whole) → m.jobs j ≡ o → (nat_lt j k) ≡ b
        → superiors (half m n rooted bare k) j ≡ (if not b then None else superiors m j)
    later k j true (Some q) e t = rw (t, e) refl
    later k j true None e t = rw (t, e) refl
    later k j false (Some q) e t = rw (t, e) refl
    later k j false None e t = rw (t, e) refl

    at_here : (k : ℕ) (q : Whole) → m.jobs k ≡ Some q → (half m n rooted bare k).jobs k ≡ Some (bare q)
    at_here k q e = upto_at k (λ i. option_map rooted (m.jobs i)) (λ i. option_map bare (m.jobs i)) ∙ ap (option_map bare) e

    there : (k j : ℕ) (b : Bool) (o : Option Whole) → m.jobs j ≡ o → (nat_lt j k) ≡ b → is_some o ≡ true → is_some ((half m n rooted bare k).jobs j) ≡ true
    there k j true (Some q) e t s = rw (t, e) refl
    there k j false (Some q) e t s = rw (t, e) refl
    there k j b None e t s = cc

    one : (k : ℕ) (q : Whole) → m.jobs k ≡ Some q → (o : Option ℕ) → q.superior ≡ o
        → Leads (half m n rooted bare k) (under_by k o) (with_job (half m n rooted bare k) k (record (bare q) { superior = o }))
    one k q e None s =
        let h = half m n rooted bare k in
        leads_to h h _ _ (leads_none h) (sym (λ t. record h { jobs = λ j. same_changed h.jobs k (Some (bare q)) (sym (at_here k q e)) j t }))
    one k q e (Some t) s =
        let h = half m n rooted bare k in
        let sup : superiors m k ≡ Some t = ap superior_in e ∙ s in
        let job : is_some (m.jobs t) ≡ true = subst (λ o. IfSome o (λ x. is_some (m.jobs x) ≡ true)) sup (standing k) in
        let free : climbs_to (superiors m) k slots (Some t) ≡ false = subst (λ o. climbs_to (superiors m) k slots o ≡ false) sup (circle k) in
        leads_line h _ (state.Under k t) (under_done h k t (bare q) (at_here k q e) refl (there k t (nat_lt t k) (m.jobs t) refl refl job)
        (cut (superiors m) (superiors h) (λ j. not (nat_lt j k)) k slots (Some t) (λ j. later k j (nat_lt j k) (m.jobs j) refl refl) free))

-- alarms
alarm_done : (h : Machine) (k : ℕ) (a : ℕ × ℕ) (p : Whole) → h.jobs k ≡ Some p → Coming h.clock a
    → build h (state.Alarm k a) ≡ Some (with_job h k (record p { alarm = Some a }))
unfolding build with_alarm_set effect
alarm_done h k a p here coming =
    let f : nat_le 1 a.0 ≡ true = (let c = coming.some in grind (arith, nat_tests)) in
    let g : nat_le a.0 longest_period ≡ true = (let c = coming.most in grind (arith, nat_tests)) in
    let l : nat_lt h.clock a.1 ≡ true = (let c = coming.next in grind (arith, nat_tests)) in
    passes (is_some (h.jobs k) && may_come h.clock a) (in_job h k (with_alarm (Some a)))
    (ap (λ o. is_some o && may_come h.clock a) here ∙ ap (λ b. b && nat_le a.0 longest_period && nat_lt h.clock a.1) f
    ∙ ap (λ b. b && nat_lt h.clock a.1) g ∙ l)
    ∙ ap Some (in_job_there h k (with_alarm (Some a)) p here)

pub alarms_lead : (m n : Machine) (top : ℕ) → n.clock ≡ m.clock → ((k : ℕ) → top ≤ k → m.jobs k ≡ None)
    → ((k : ℕ) (q : Whole) → m.jobs k ≡ Some q → IfSome q.alarm (λ a. Coming m.clock a))
    → Leads (record n { jobs = λ k. option_map rooted (m.jobs k) }) (each (λ k. alarm_line k (m.jobs k)) top)
    (record n { jobs = λ k. option_map timed (m.jobs k) })
alarms_lead m n top clock past coming = half_leads m n timed rooted alarm_line top past (λ k. refl) (λ k q l e. one k q e q.alarm refl)
  where
    here : (k : ℕ) (q : Whole) → m.jobs k ≡ Some q → (half m n timed rooted k).jobs k ≡ Some (rooted q)
    here k q e = upto_at k (λ i. option_map timed (m.jobs i)) (λ i. option_map rooted (m.jobs i)) ∙ ap (option_map rooted) e

    one : (k : ℕ) (q : Whole) → m.jobs k ≡ Some q → (o : Option (ℕ × ℕ)) → q.alarm ≡ o
        → Leads (half m n timed rooted k) (alarm_by k o) (with_job (half m n timed rooted k) k (record (rooted q) { alarm = o }))
    one k q e None s =
        let h = half m n timed rooted k in
        leads_to h h _ _ (leads_none h) (sym (λ t. record h { jobs = λ j. same_changed h.jobs k (Some (rooted q)) (sym (here k q e)) j t }))
    one k q e (Some a) s =
        let h = half m n timed rooted k in
        let c : Coming m.clock a = subst (λ o. IfSome o (λ x. Coming m.clock x)) s (coming k q e) in
        leads_line h _ (state.Alarm k a) (alarm_done h k a (rooted q) (here k q e) (subst (λ i. Coming i a) (sym clock) c))
