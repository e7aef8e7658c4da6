-- The confidentiality of a session, along the one run of its lines (docs/MACHINE.md, "Who may see
-- what").
use Rattle.std.specs.Prelude.{◌==◌, ◌≡◌, ◌++◌, ℕ, Bool, true, false, Option, Some, None, List, [], ◌∷◌, is_some, option_map, refl}
use Rattle.std.proofs.Common.{sym, ◌∙◌, ap, subst}
use Rattle.its_records.specs.Item.{Item}
use Rattle.its_records.specs.declared.calls.Pace.{Pace}
use Rattle.its_records.specs.declared.calls.Pace.TheVariants.{Step, Work, Wait, Off}
use Rattle.its_print.specs.Printing.{Line}
use Rattle.its_plain.specs.Call.Step.{Transition, transition, transition_of, unless_stopped, step, moves_in, moves}
use Rattle.its_plain.specs.Transcript.Course.{Deed, Lines, Turns, Letter, Moment, run_of}
use Rattle.its_plain.specs.Transcript.Licence.{IsRunning, IsOff, Licensed}
use Rattle.its_plain.specs.Machine.{Whole, Machine}
use Rattle.its_plain.specs.Promise.Stretch.{machine_at, Section, begin_of, end_of}
use Rattle.its_plain.specs.Transcript.{at_start}
use Rattle.its_plain.specs.Transcript.Turns.{highest}
use Rattle.its_stepped.specs.Forest.{Forest}
use Rattle.its_stepped.proofs.Running.CourseLaws.{Linked, EachMoment, run_course, linked_middle}
use Rattle.its_stepped.proofs.Keeping.ForestLaws.{forest_starts}
use Rattle.its_security.specs.Alike.{Alike, SameTables, AlikeBy}
use Rattle.its_security.specs.Confidential.{Occurs, Confidential}
use Rattle.its_security.specs.OperatorParts.{touched}
use Rattle.its_security.specs.SideBySide.{tick_by, tick_at, moves_at, shown_at, shown_then, shown_of, SideBySide, at_end, first_alone, second_alone, in_both, tick_in_both, ShowSame}
use Rattle.its_security.proofs.AlikeLaws.{alike_back, alike_then, parts_alike}
use Rattle.its_security.proofs.OwnSteps.{step_own}
use Rattle.its_security.proofs.RespectLaws.{step_respects, step_apart}
use Rattle.its_security.proofs.StepsAlike.{step_alike}
use Rattle.its_security.proofs.TableLooksLaws.{tables_seen}
use Rattle.its_security.proofs.TablesLaws.{step_tables}

-- each moment of a run finds a forest
abbrev Stands : Moment → Machine → Type 0
Stands t n = Forest t.machine

each_stands : EachMoment Stands
each_stands = record { letter = λ v i p forest. forest; turn = λ v s forest. forest; line = λ v e n out t c forest is. forest }

run_stands : (es : List Item) (lines : List Line) → Linked Stands (run_of es lines).moments (run_of es lines).last
run_stands es lines = (run_course each_stands at_start highest es lines forest_starts).linked

stands_at : (before after : List Moment) (t : Moment) (n : Machine) → Linked Stands (before ++ t ∷ after) n → Forest t.machine
stands_at [] after t n h = h.0
stands_at (x ∷ xs) after t n h = stands_at xs after t n h.1

occurs_forest : (es : List Item) (lines : List Line) (m : Machine) → Occurs (run_of es lines) m → Forest m
occurs_forest es lines m o =
    let last = (run_of es lines).last in
    subst Forest o.is
    (stands_at o.before o.after o.moment last (subst (λ (ts : List Moment). Linked Stands ts last) o.whole (run_stands es lines)))

-- what two steps have, if they are alike or none
step_of : (o : Option Transition) (n : Machine) → option_map (λ (t : Transition). t.machine) o ≡ Some n → (t : Transition) × ((o ≡ Some t) × (t.machine ≡ n))
step_of (Some t) n e = (t, (refl, unwrapped t.machine n e))
  where
    unwrapped : (m n : Machine) → Some m ≡ Some n → m ≡ n
    unwrapped m n e = cc
step_of None n e = cc

off_none : (m : Machine) (j : ℕ) (o : Option Whole) → IsOff o → transition_of m j o ≡ None
off_none m j None h = refl
off_none m j (Some q) h = go q.job.stopped h
  where
    go : (b : Bool) → b ≡ true → unless_stopped m j q b ≡ None
    go true e = refl
    go false e = cc

off_running : (o : Option Whole) → IsOff o → IsRunning o → ⊥
off_running (Some q) off runs = let no : false ≡ true = sym runs ∙ off in cc
off_running None off runs = absurd runs

-- a letter other than `.`
abbrev IsPlain : Pace → Type 0
IsPlain Work = ⊥
IsPlain _ = Unit {0}

-- a tick of the job in both
record TickSame (j : ℕ) (p : Pace) (m mn : Machine) (r : Pace) (n nn : Machine) : Type 0 where
  alike : Alike j mn nn
  shown : shown_at r n j ≡ shown_at p m j

module _ (j : ℕ) (m mn n nn : Machine) (d : Forest m) (h : Alike j m n) (look : SameTables j m n) where
  both : AlikeBy j (transition m j) (transition n j)
  both = step_alike m n j d h look

  stepped : (t : Transition) (o : Option Transition) → AlikeBy j (Some t) o → option_map (λ (u : Transition). u.machine) o ≡ Some nn
      → t.machine ≡ mn → transition m j ≡ Some t → transition n j ≡ o
      → TickSame j Step m mn Step n nn
  unfolding moves
  stepped t (Some u) by e at is also = record {
    alike = subst (λ (x : Machine). Alike j x nn) at (subst (Alike j t.machine) (same u.machine nn e) by.machine);
    shown = λ i. record { letter = Step; job = h.own i; moves = (ap moves_in also ∙ by.moves ∙ sym (ap moves_in is)) i };
  }
    where
      same : (x y : Machine) → Some x ≡ Some y → x ≡ y
      same x y e = cc
  stepped t None by e at is also = absurd by

  both_step : step m j ≡ Some mn → step n j ≡ Some nn → TickSame j Step m mn Step n nn
  unfolding step
  both_step e f =
      let t = step_of (transition m j) mn e in
      stepped t.0 (transition n j) (subst (λ (o : Option Transition). AlikeBy j o (transition n j)) t.1.0 both) f t.1.1 t.1.0 refl

  one_steps : (o p : Option Transition) → AlikeBy j o p → is_some p ≡ is_some o
  one_steps (Some t) (Some u) by = refl
  one_steps None None by = refl
  one_steps (Some t) None by = absurd by
  one_steps None (Some u) by = absurd by

  some_step : (k : Machine) (x : Option Machine) → step k j ≡ x → is_some (transition k j) ≡ is_some x
  unfolding step
  some_step k x e = sym (mapped (transition k j)) ∙ ap (λ (o : Option Machine). is_some o) e
    where
      mapped : (o : Option Transition) → is_some (option_map (λ (t : Transition). t.machine) o) ≡ is_some o
      mapped (Some t) = refl
      mapped None = refl

  off_step : (k : Machine) → IsOff (k.jobs j) → is_some (transition k j) ≡ false
  unfolding transition
  off_step k off = ap (λ (o : Option Transition). is_some o) (off_none k j (k.jobs j) off)

  differ : is_some (transition m j) ≡ true → is_some (transition n j) ≡ false → ⊥
  differ e f = let no : false ≡ true = sym f ∙ one_steps (transition m j) (transition n j) both ∙ e in cc

  differ_too : is_some (transition m j) ≡ false → is_some (transition n j) ≡ true → ⊥
  differ_too e f = let no : false ≡ true = sym e ∙ sym (one_steps (transition m j) (transition n j) both) ∙ f in cc

  rests_same : (p : Pace) → moves_at p m j ≡ [] → moves_at p n j ≡ [] → mn ≡ m → nn ≡ n → TickSame j p m mn p n nn
  rests_same p e f same also = record {
    alike = subst (λ (x : Machine). Alike j x nn) (sym same) (subst (Alike j m) (sym also) h);
    shown = λ i. record { letter = p; job = h.own i; moves = (f ∙ sym e) i };
  }

  tick_same : (p r : Pace) → IsPlain p → IsPlain r → Licensed m j p mn → Licensed n j r nn → TickSame j p m mn r n nn
  tick_same Step Step a b e f = both_step e f
  tick_same Step Wait a b e (runs, none, same) = absurd (differ (some_step m (Some mn) e) (some_step n None none))
  tick_same Step Off a b e (off, same) = absurd (differ (some_step m (Some mn) e) (off_step n off))
  tick_same Wait Step a b (runs, none, same) f = absurd (differ_too (some_step m None none) (some_step n (Some nn) f))
  tick_same Wait Wait a b (runs, none, same) (goes, also, rest) = rests_same Wait refl refl same rest
  tick_same Wait Off a b (runs, none, same) (off, rest) = absurd (off_running (n.jobs j) off (subst IsRunning (sym h.own) runs))
  tick_same Off Step a b (off, same) f = absurd (differ_too (off_step m off) (some_step n (Some nn) f))
  tick_same Off Wait a b (off, same) (runs, none, rest) = absurd (off_running (n.jobs j) (subst IsOff (sym h.own) off) runs)
  tick_same Off Off a b (off, same) (gone, rest) = rests_same Off refl refl same rest
  tick_same Work r a b e f = absurd a
  tick_same p Work a b e f = absurd b

-- a tick that is shown has another letter than `.`
no_work : (b : Bool) (p : Pace) → tick_by b p ≡ Some Work → ⊥
no_work true Work e = cc
no_work true Step e = cc
no_work true Wait e = cc
no_work true Off e = cc
no_work false p e = cc

plain_tick : (j : ℕ) (d : Deed) (p : Pace) → tick_at j d ≡ Some p → IsPlain p
plain_tick j (Letter i r) Work e = no_work (i == j) r e
plain_tick j (Lines v) Work e = cc
plain_tick j (Turns s) Work e = cc
plain_tick j d p e = tt

-- two parts of runs side by side
skipped : (j : ℕ) (t : Moment) (ts : List Moment) → tick_at j t.deed ≡ None → shown_of j (t ∷ ts) ≡ shown_of j ts
skipped j t ts e = ap (λ (o : Option Pace). shown_then o t.machine j (shown_of j ts)) e

shown_first : (j : ℕ) (t : Moment) (ts : List Moment) (p : Pace) → tick_at j t.deed ≡ Some p → shown_of j (t ∷ ts) ≡ shown_at p t.machine j ∷ shown_of j ts
shown_first j t ts p e = ap (λ (o : Option Pace). shown_then o t.machine j (shown_of j ts)) e

beside : {j : ℕ} {ts us : List Moment} {m n : Machine} → SideBySide j ts m us n → Linked Stands ts m
    → Alike j (machine_at ts m) (machine_at us n) → ShowSame j ts m us n
beside at_end l h = record { alike = h; shown = refl }
beside {j = j} {m = m} {n = n} (first_alone {t = t} {ts = ts} {us = us} none e more) l h =
    let rest = beside more l.1 (alike_then j (machine_at ts m) t.machine (machine_at us n) (alike_back j t.machine (machine_at ts m) e) h) in
    record { alike = rest.alike; shown = rest.shown ∙ sym (skipped j t ts none) }
beside {j = j} {m = m} {n = n} (second_alone {u = u} {ts = ts} {us = us} none e more) l h =
    let rest = beside more l (alike_then j (machine_at ts m) u.machine (machine_at us n) h e) in
    record { alike = rest.alike; shown = skipped j u us none ∙ rest.shown }
beside {j = j} (in_both {t = t} {u = u} {ts = ts} {us = us} none also e more) l h =
    let rest = beside more l.1 (e h) in
    record { alike = rest.alike; shown = skipped j u us also ∙ rest.shown ∙ sym (skipped j t ts none) }
beside {j = j} {m = m} {n = n} (tick_in_both {t = t} {u = u} {ts = ts} {us = us} p r is also may can look more) l h =
    let one = tick_same j t.machine (machine_at ts m) u.machine (machine_at us n) l.0 h look p r (plain_tick j t.deed p is)
    (plain_tick j u.deed r also) may can in
    let rest = beside more l.1 one.alike in
    record {
      alike = rest.alike;
      shown = shown_first j u us r also ∙ (λ i. one.shown i ∷ rest.shown i) ∙ sym (shown_first j t ts p is);
    }

beside_shows : (es fs : List Item) (lines shown : List Line) (j : ℕ) (x : Section (run_of es lines)) (y : Section (run_of fs shown))
    → Alike j (begin_of (run_of es lines) x) (begin_of (run_of fs shown) y)
    → SideBySide j x.moments (end_of (run_of es lines) x) y.moments (end_of (run_of fs shown) y)
    → ShowSame j x.moments (end_of (run_of es lines) x) y.moments (end_of (run_of fs shown) y)
beside_shows es fs lines shown j x y h side =
    let last = (run_of es lines).last in
    beside side
    (linked_middle Stands x.before x.moments x.after last (subst (λ (ts : List Moment). Linked Stands ts last) x.whole (run_stands es lines))) h

pub confidential : (es : List Item) (lines : List Line) → Confidential es lines
confidential es lines = record {
  looks = λ fs shown m n j a b same look. step_own m n j (occurs_forest es lines m a) (occurs_forest fs shown n b) same look;
  respects = λ m n j k a e ne apart there. step_respects m n j k (occurs_forest es lines m a) e ne apart there;
  apart = λ m n j k a e ne strange there u. step_apart m n j k (occurs_forest es lines m a) e ne strange there u;
  operator = λ m n j b e h u. parts_alike j m n (touched m b e) h u;
  tables = λ m n j a e. step_tables m n j e;
  seen = λ m n j h. tables_seen j m n h;
  beside = λ fs shown j x y h side. beside_shows es fs lines shown j x y h side;
}
