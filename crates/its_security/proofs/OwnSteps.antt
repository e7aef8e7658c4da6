-- What becomes of a job in its step depends on it and on what its call looks at alone.
use Rattle.std.specs.Prelude.{if◌then◌else◌, ◌==◌, ◌||◌, ◌&&◌, ◌≡◌, ℕ, Bool, true, false, not, Option, Some, None, List, [], ◌∷◌, option_map, Result, Ok, Err, refl}
use Rattle.std.proofs.Common.{sym, ◌∙◌, ap, subst}
use Rattle.std.proofs.lemmas.Bool.{eq-eqb}
use Rattle.its_word.specs.Limits.{slots}
use Rattle.its_word.specs.declared.access.Fault.{Fault}
use Rattle.its_word.specs.declared.plan.Store.{Store}
use Rattle.its_records.specs.Tree.{climbs_to, is_below}
use Rattle.its_records.specs.declared.calls.Ask.{Ask}
use Rattle.its_records.specs.declared.calls.Exit.{Exit}
use Rattle.its_records.specs.declared.calls.Site.{Site}
use Rattle.its_frame.specs.declared.change.Change.{Change}
use Rattle.its_frame.specs.declared.change.Change.TheVariants as changes
use Rattle.its_frame.specs.declared.change.Opened.TheVariants as opened
use Rattle.its_frame.specs.declared.decision.Decision.{Decision}
use Rattle.its_frame.specs.declared.decision.Decision.TheVariants.{Waits, Goes, Ends, Gone}
use Rattle.its_frame.specs.declared.name.CallName.{CallName}
use Rattle.its_frame.specs.declared.name.CallName.TheVariants as calls
use Rattle.its_plain.specs.Call.Arguments.{input}
use Rattle.its_plain.specs.Call.Basic.{logout, told_superior, channel_at}
use Rattle.its_plain.specs.Call.Step.{acted, decision, informs, by_ask, by_unit, by_delivery, unless_stopped, transition_of, transition}
use Rattle.its_plain.specs.Call.Usr.{uclose_on, uclose}
use Rattle.its_plain.specs.Machine.Change.{on_slot, channel_in, superiors, is_gone, chan_after_removal, after_shut, after_removal, inferior, with_inf, effect, effects}
use Rattle.its_plain.specs.Call.Decide.{call_named, decided_by, decided, target_by, argument_of, target, reach}
use Rattle.its_plain.specs.Call.Decode.{ask}
use Rattle.its_plain.specs.Unit.Interrupt.{deliverable, delivered}
use Rattle.its_plain.specs.Machine.{Chan, Shut, TtyIn, TtyOut, Reads, Writes, On, Linked, Whole, Machine}
use Rattle.its_plain.specs.Call.Tests.{fails}
use Rattle.its_plain.specs.Unit.{Outcome, Changed, Faulted, Called, unit}
use Rattle.its_plain.specs.Machine.View.{View, view}
use Rattle.its_stepped.specs.Forest.{OnInferior, Forest}
use Rattle.its_stepped.proofs.Keeping.ForestLaws.{on_inferior, forest_below}
use Rattle.its_security.specs.Looks.{Looks, LooksAlike, OwnBy}
use Rattle.its_security.proofs.LooksLaws.{named_looks}
use Rattle.its_security.proofs.CallChanges.{CanMake, Opens, AllMake, AllMade, Informs, Makes, call_makes}
use Rattle.its_security.proofs.OthersLaws.{each_console}

-- a change that removes nobody does the same to the own job
abbrev Lasting : Change → Type 0
Lasting (changes.Remove s) = ⊥
Lasting _ = Unit {0}

abbrev AllLast : List Change → Type 0
AllLast [] = Unit {0}
AllLast (c ∷ cs) = Lasting c × AllLast cs

slot_same : (m n : Machine) (s j : ℕ) (f : Whole → Whole) → n.jobs j ≡ m.jobs j → on_slot n.jobs s f j ≡ on_slot m.jobs s f j
slot_same m n s j f e = ap (λ (o : Option Whole). if j == s then option_map f o else o) e

own_effect : (m n : Machine) (j : ℕ) (c : Change) → Lasting c → n.jobs j ≡ m.jobs j → (effect c j n).jobs j ≡ (effect c j m).jobs j
unfolding effect
own_effect m n j (changes.Open k on) l e = slot_same m n j j _ e
own_effect m n j (changes.Shut k) l e = slot_same m n j j _ e
own_effect m n j (changes.Move k at) l e = slot_same m n j j _ e
own_effect m n j (changes.Append k w) l e = slot_same m n j j _ e
own_effect m n j (changes.Close k) l e = slot_same m n j j _ e
own_effect m n j (changes.Take c) l e = e
own_effect m n j (changes.Put c b) l e = e
own_effect m n j (changes.Hold c s) l e = e
own_effect m n j (changes.Poke s a w) l e = slot_same m n s j _ e
own_effect m n j (changes.Set s v w) l e = slot_same m n s j _ e
own_effect m n j (changes.Map s k) l e = slot_same m n s j _ e
own_effect m n j (changes.Unmap s k) l e = slot_same m n s j _ e
own_effect m n j (changes.Protect s k w) l e = slot_same m n s j _ e
own_effect m n j (changes.Make s u x) l e = λ i. if j == s then Some (inferior j (e i) u x) else e i
own_effect m n j (changes.Remove s) l e = absurd l
own_effect m n j (changes.Inform s) l e = slot_same m n s j _ e
own_effect m n j (changes.Arm o) l e = slot_same m n j j _ e
own_effect m n j (changes.Join k l write x y) t e = slot_same m n j j _ e
own_effect m n j (changes.CloseEnd k l write) t e = slot_same m n j j _ e
own_effect m n j (changes.Send l w) t e = e
own_effect m n j (changes.Receive l) t e = e
own_effect m n j (changes.Delete d x y) l e = e
own_effect m n j (changes.Rename d x y u v) l e = e

own_effects : (cs : List Change) (m n : Machine) (j : ℕ) → AllLast cs → n.jobs j ≡ m.jobs j → (effects cs j n).jobs j ≡ (effects cs j m).jobs j
own_effects [] m n j l e = e
own_effects (c ∷ cs) m n j l e = own_effects cs (effect c j m) (effect c j n) j l.1 (own_effect m n j c l.0 e)

-- a decision that removes nobody
abbrev Lasts : Decision → Type 0
Lasts (Waits r) = Unit {0}
Lasts (Goes cs h vs) = AllLast cs.items
Lasts (Ends cs ss e) = AllLast cs.items
Lasts (Gone cs) = ⊥

own_acted : (m n : Machine) (j : ℕ) (a : Ask) (ks ls : List ℕ) (d : Decision) → Lasts d → n.jobs j ≡ m.jobs j → OwnBy j (acted m j a ks d) (acted n j a ls d)
unfolding acted
own_acted m n j a ks ls (Waits r) l e = tt
own_acted m n j a ks ls (Goes cs h vs) l e = slot_same (effects cs.items j m) (effects cs.items j n) j j _ (own_effects cs.items m n j l e)
own_acted m n j a ks ls (Ends cs ss x) l e = slot_same (effects cs.items j m) (effects cs.items j n) j j _ (own_effects cs.items m n j l e)
own_acted m n j a ks ls (Gone cs) l e = absurd l

-- calls other than UCLOSE and LOGOUT remove nobody
abbrev IsLasting : Option CallName → Type 0
IsLasting (Some calls.Uclose) = ⊥
IsLasting (Some calls.Logout) = ⊥
IsLasting _ = Unit {0}

one_lasts : (o : Option CallName) → IsLasting o → (c : Change) → CanMake o c → Lasting c
one_lasts (Some calls.Uclose) w c made = absurd w
one_lasts (Some k) w (changes.Remove s) made = absurd made
one_lasts (Some k) w c made = tt
one_lasts None w c made = absurd made

all_last : (o : Option CallName) → IsLasting o → (cs : List Change) → AllMake o cs → AllLast cs
all_last o w [] made = tt
all_last o w (c ∷ cs) made = (one_lasts o w c made.0, all_last o w cs made.1)

opens_last : (x : View) (cs : List Change) → Opens x cs → AllLast cs
opens_last x [] made = tt
opens_last x (changes.Open n on ∷ []) made = (tt, tt)
opens_last x (changes.Join n l write u y ∷ []) made = (tt, tt)
opens_last x (changes.Make s u y ∷ changes.Open n (opened.Usr r write) ∷ []) made = (tt, (tt, tt))
opens_last x _ made = absurd made

made_lasts : (x : View) (o : Option CallName) → IsLasting o → (cs : List Change) → AllMade x o cs → AllLast cs
made_lasts x o w [] made = tt
made_lasts x (Some calls.Open) w (c ∷ cs) made = opens_last x (c ∷ cs) made
made_lasts x (Some k) w (c ∷ cs) made = all_last (Some k) w (c ∷ cs) made
made_lasts x None w (c ∷ cs) made = all_last None w (c ∷ cs) made

gone_lasts : (o : Option CallName) → IsLasting o → Informs o → ⊥
gone_lasts (Some calls.Logout) w h = w
gone_lasts (Some k) w h = h
gone_lasts None w h = h

makes_last : (x : View) (o : Option CallName) → IsLasting o → (d : Decision) → Makes x o d → Lasts d
makes_last x o w (Waits r) made = tt
makes_last x o w (Goes cs h vs) made = made_lasts x o w cs.items made
makes_last x o w (Ends cs ss e) made = made_lasts x o w cs.items made
makes_last x o w (Gone cs) made = gone_lasts o w made.0

-- UCLOSE and LOGOUT
gone_is : (m : Machine) (s k j : ℕ) → Forest m → superiors m s ≡ Some j → superiors m k ≡ Some j → is_gone (superiors m) s k ≡ (k == s)
unfolding is_below
gone_is m s k j d up also =
    let never : climbs_to (superiors m) s slots (superiors m k) ≡ false = ap (climbs_to (superiors m) s slots) (also ∙ sym up) ∙ d.circle s in
    ap (λ b. (k == s) || (not (k == s) && b)) never ∙ either (k == s)
  where
    either : (b : Bool) → (b || (not b && false)) ≡ b
    either true = refl
    either false = refl

shut_as : (m n : Machine) (s j : ℕ) (c : Chan) → Forest m → Forest n → superiors m s ≡ Some j → superiors n s ≡ Some j → OnInferior m j c → OnInferior n j c
    → chan_after_removal (is_gone (superiors n) s) c ≡ chan_after_removal (is_gone (superiors m) s) c
shut_as m n s j (On k write at) d e up also on also_on = ap (λ b. if b then Shut else On k write at)
    (gone_is n s k j e also also_on ∙ sym (gone_is m s k j d up on))
shut_as m n s j Shut d e up also on also_on = refl
shut_as m n s j TtyIn d e up also on also_on = refl
shut_as m n s j TtyOut d e up also on also_on = refl
shut_as m n s j (Reads x at) d e up also on also_on = refl
shut_as m n s j (Writes f) d e up also on also_on = refl
shut_as m n s j (Linked l write) d e up also on also_on = refl

own_removed : (m : Machine) (s j : ℕ) (q : Whole) → Forest m → superiors m s ≡ Some j → m.jobs j ≡ Some q
    → (after_removal (superiors m) s m).jobs j ≡ Some (after_shut (is_gone (superiors m) s) q)
unfolding after_removal
own_removed m s j q d up is = rw (forest_below m s j d up, is) refl

own_gone : (m : Machine) (j : ℕ) → (after_removal (superiors m) j m).jobs j ≡ None
unfolding after_removal
own_gone m j = let gone : is_gone (superiors m) j j ≡ true = rw (eq-eqb j j refl) refl in rw gone refl

module _ (m n : Machine) (j : ℕ) (q : Whole) (a : Ask) (d : Forest m) (e : Forest n) (is : m.jobs j ≡ Some q) (also : n.jobs j ≡ Some q) where
  on_m : (i : ℕ) → OnInferior m j (q.channels i)
  on_m i = subst (λ (o : Option Whole). OnInferior m j (channel_in o i)) is (d.channels j i)

  on_n : (i : ℕ) → OnInferior n j (q.channels i)
  on_n i = subst (λ (o : Option Whole). OnInferior n j (channel_in o i)) also (e.channels j i)

  shuts_tree : (s : ℕ) → superiors m s ≡ Some j → superiors n s ≡ Some j
      → (effects (changes.Remove s ∷ []) j n).jobs j ≡ (effects (changes.Remove s ∷ []) j m).jobs j
  unfolding effect
  shuts_tree s up down =
      own_removed n s j q e down also
      ∙ (λ t. Some (record q { channels = λ i. shut_as m n s j (q.channels i) d e up down (on_m i) (on_n i) t }))
      ∙ sym (own_removed m s j q d up is)

  ends_own : (cs : List Change) (ss : List Store) (x : Exit) (ks ls : List ℕ) → (effects cs j n).jobs j ≡ (effects cs j m).jobs j
      → OwnBy j (acted m j a ks (Ends (record { items = cs }) (record { items = ss }) x))
      (acted n j a ls (Ends (record { items = cs }) (record { items = ss }) x))
  unfolding acted
  ends_own cs ss x ks ls h = slot_same (effects cs j m) (effects cs j n) j j _ h

  uclose_own : (ks ls : List ℕ) → OwnBy j (acted m j a ks (uclose (view m j q (target_by q a (Some 0))) a))
      (acted n j a ls (uclose (view n j q (target_by q a (Some 0))) a))
  unfolding uclose view
  uclose_own ks ls = go (channel_at q.channels (input a 0)) refl
    where
      go : (c : Chan) → channel_at q.channels (input a 0) ≡ c
          → OwnBy j (acted m j a ks (uclose_on (view m j q (target_by q a (Some 0))) a c))
          (acted n j a ls (uclose_on (view n j q (target_by q a (Some 0))) a c))
      go (On s write at) on = ends_own (changes.Remove s ∷ []) [] _ ks ls
          (shuts_tree s (on_inferior m j q (input a 0) s at write d is on) (on_inferior n j q (input a 0) s at write e also on))
      go Shut on = ends_own [] _ _ ks ls (also ∙ sym is)
      go TtyIn on = ends_own [] _ _ ks ls (also ∙ sym is)
      go TtyOut on = ends_own [] _ _ ks ls (also ∙ sym is)
      go (Reads x at) on = ends_own [] _ _ ks ls (also ∙ sym is)
      go (Writes f) on = ends_own [] _ _ ks ls (also ∙ sym is)
      go (Linked l write) on = ends_own [] _ _ ks ls (also ∙ sym is)

  gone_then : (o : Option ℕ) (p : Machine) → (effects (told_superior o) j (after_removal (superiors p) j p)).jobs j ≡ None
  unfolding effect
  gone_then None p = own_gone p j
  gone_then (Some s) p = go (j == s)
    where
      go : (b : Bool) → (if b then option_map with_inf ((after_removal (superiors p) j p).jobs j) else (after_removal (superiors p) j p).jobs j) ≡ None
      go true = ap (option_map with_inf) (own_gone p j)
      go false = own_gone p j

  logout_own : (ks ls : List ℕ) → OwnBy j (acted m j a ks (logout (view m j q (target_by q a None))))
      (acted n j a ls (logout (view n j q (target_by q a None))))
  unfolding acted effect view
  logout_own ks ls = gone_then q.superior n ∙ sym (gone_then q.superior m)

  -- a call by its name
  abbrev at_m : Option CallName → View
  at_m o = view m j q (target_by q a (argument_of o))

  lasting_own : (o : Option CallName) (ks ls : List ℕ) → Lasts (decided_by (at_m o) a o) → Looks j m n q a o
      → OwnBy j (acted m j a ks (decided_by (at_m o) a o)) (acted n j a ls (decided_by (view n j q (target_by q a (argument_of o))) a o))
  lasting_own o ks ls lasts look =
      subst (λ (f : Decision). OwnBy j (acted m j a ks (decided_by (at_m o) a o)) (acted n j a ls f))
      (sym (named_looks m n j q a (each_console m j q d is) o look))
      (own_acted m n j a ks ls (decided_by (at_m o) a o) lasts (also ∙ sym is))

  named_own : (o : Option CallName) (ks ls : List ℕ) → Looks j m n q a o
      → OwnBy j (acted m j a ks (decided_by (at_m o) a o)) (acted n j a ls (decided_by (view n j q (target_by q a (argument_of o))) a o))
  named_own (Some calls.Uclose) ks ls look = uclose_own ks ls
  named_own (Some calls.Logout) ks ls look = logout_own ks ls
  named_own (Some c) ks ls look = lasting_own (Some c) ks ls
      (makes_last (at_m (Some c)) (Some c) tt (decided_by (at_m (Some c)) a (Some c)) (call_makes (at_m (Some c)) a (Some c))) look
  named_own None ks ls look = lasting_own None ks ls (makes_last (at_m None) None tt (decided_by (at_m None) a None) (call_makes (at_m None) a None)) look

  call_own : (ks ls : List ℕ) → Looks j m n q a (call_named a.name) → OwnBy j (acted m j a ks (decision m j q a)) (acted n j a ls (decision n j q a))
  unfolding decision decided target view
  call_own ks ls look = go (a.fail == 0)
    where
      o : Option CallName
      o = call_named a.name

      go : (b : Bool) → OwnBy j (acted m j a ks (if b then decided_by (view m j q (if b then target_by q a (argument_of o) else None)) a o
          else fails (view m j q (if b then target_by q a (argument_of o) else None)) a a.fail))
          (acted n j a ls (if b then decided_by (view n j q (if b then target_by q a (argument_of o) else None)) a o else fails
          (view n j q (if b then target_by q a (argument_of o) else None)) a a.fail))
      go true = named_own o ks ls look
      go false = ends_own [] _ _ ks ls (also ∙ sym is)

informed_own : (m n : Machine) (j : ℕ) (b : Bool) (o : Option ℕ) → n.jobs j ≡ m.jobs j
    → (effects (informs b o) j n).jobs j ≡ (effects (informs b o) j m).jobs j
unfolding effect
informed_own m n j true (Some s) e = slot_same m n s j with_inf e
informed_own m n j true None e = e
informed_own m n j false o e = e

module _ (m n : Machine) (j : ℕ) (q : Whole) (d : Forest m) (f : Forest n) (is : m.jobs j ≡ Some q) (also : n.jobs j ≡ Some q) where
  outcome_own : (o : Outcome) → unit q.core q.job ≡ o → ((s : Site) (a : Ask) → o ≡ Called s → ask q.core s ≡ Ok a
      → Looks j m n q a (call_named a.name)) → OwnBy j (by_unit m j q o) (by_unit n j q o)
  outcome_own (Changed c k) e look = slot_same m n j j _ (also ∙ sym is)
  outcome_own (Faulted g) e look = slot_same m n j j _ (also ∙ sym is)
  outcome_own (Called s) e look = go (ask q.core s) (λ a. look s a refl)
    where
      go : (r : Result Ask Fault) → ((a : Ask) → r ≡ Ok a → Looks j m n q a (call_named a.name)) → OwnBy j (by_ask m j q r) (by_ask n j q r)
      go (Ok a) see = call_own m n j q a d f is also (reach m j q a) (reach n j q a) (see a refl)
      go (Err g) see = slot_same m n j j _ (also ∙ sym is)

  delivered_own : (b : Bool) → deliverable q.job ≡ b → q.job.stopped ≡ false → LooksAlike j m n → OwnBy j (by_delivery m j q b) (by_delivery n j q b)
  delivered_own true e runs look =
      let g = delivered q.core q.job in
      slot_same (effects (informs g.stops q.superior) j m) (effects (informs g.stops q.superior) j n) j j _
      (informed_own m n j g.stops q.superior (also ∙ sym is))
  delivered_own false e runs look =
      outcome_own (unit q.core q.job) refl (λ s a u i. look q a (record { is = is; runs = runs; quiet = e; site = s; unit_is = u; ask_is = i }))

  running_own : (b : Bool) → q.job.stopped ≡ b → LooksAlike j m n → OwnBy j (unless_stopped m j q b) (unless_stopped n j q b)
  running_own true e look = tt
  running_own false e look = delivered_own (deliverable q.job) refl e look

-- the theorem
slot_own : (m n : Machine) (j : ℕ) (o : Option Whole) → Forest m → Forest n → m.jobs j ≡ o → n.jobs j ≡ o → LooksAlike j m n
    → OwnBy j (transition_of m j o) (transition_of n j o)
slot_own m n j (Some q) d e is also look = running_own m n j q d e is also q.job.stopped refl look
slot_own m n j None d e is also look = tt

pub step_own : (m n : Machine) (j : ℕ) → Forest m → Forest n → n.jobs j ≡ m.jobs j → LooksAlike j m n → OwnBy j (transition m j) (transition n j)
unfolding transition
step_own m n j d e same look =
    subst (λ (o : Option Whole). OwnBy j (transition_of m j (m.jobs j)) (transition_of n j o)) (sym same) (slot_own m n j (m.jobs j) d e refl same look)
