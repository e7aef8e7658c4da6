-- A line of the state part, which is obeyed if all its tests hold: the state that it finds passes
-- them exactly if the state before it does, and so does the plain machine.
use Rattle.std.specs.Prelude.{◌≡◌, ◌++◌, ℕ, Bool, true, false, List, [], ◌∷◌, Result, Ok, Err, refl}
use Rattle.std.proofs.Common.{sym, ◌∙◌, ap, subst, inl, inr}
use Rattle.its_records.specs.Refusals.{reason_of}
use Rattle.its_records.specs.declared.session.Reason.{Reason}
use Rattle.its_records.specs.declared.session.Refusal.{Refusal}
use Rattle.its_plain.specs.Machine.{Machine}
use Rattle.its_plain.specs.Operator.State.{provided, provided_if}
use Rattle.its_plain.proofs.ProvidedLaws.{AllHold, FirstFails, provided_ok, provided_first}
use Rattle.its_stepped.specs.Lines.{with_raw}
use Rattle.its_stepped.specs.Sound.{Sound}
use Rattle.its_stepped.specs.State.{State, plain}
use Rattle.its_stepped.specs.Unwind.{unwound}
use Rattle.its_stepped.proofs.Lining.RefusalLaws.{error_of}
use Rattle.its_stepped.proofs.Unwinding.UnwindLaws.{unwound_plain}
use Rattle.its_monitor.specs.Kept.{Lands, Refused}
use Rattle.its_monitor.proofs.KeptLaws.{error_is, refused_by}

-- the tests alone decide whether a line is refused
if_alike : (b : Bool) (r : Reason) (x y : Result Machine Reason) → error_of x ≡ error_of y → error_of (provided_if b r x) ≡ error_of (provided_if b r y)
if_alike true r x y e = e
if_alike false r x y e = refl

pub provided_alike : (ts : List (Bool × Reason)) (m n : Machine) → error_of (provided ts m) ≡ error_of (provided ts n)
provided_alike [] m n = refl
provided_alike (t ∷ ts) m n = if_alike t.0 t.1 (provided ts m) (provided ts n) (provided_alike ts m n)

-- the first of some tests that fails is the first of these and more
pub first_more : (ts us : List (Bool × Reason)) (r : Reason) → FirstFails ts r → FirstFails (ts ++ us) r
first_more [] us r h = absurd h
first_more (t ∷ ts) us r (inl h) = inl h
first_more (t ∷ ts) us r (inr h) = inr (h.0, first_more ts us r h.1)

-- these hold, and then others
pub all_more : (ts us : List (Bool × Reason)) → AllHold ts → AllHold us → AllHold (ts ++ us)
all_more [] us h g = g
all_more (t ∷ ts) us h g = (h.0, all_more ts us h.1 g)

pub fails_after : (ts us : List (Bool × Reason)) (r : Reason) → AllHold ts → FirstFails us r → FirstFails (ts ++ us) r
fails_after [] us r h g = g
fails_after (t ∷ ts) us r h g = inr (h.0, fails_after ts us r h.1 g)

-- a line with these tests and this effect, whose tests are alike on the raw machine and the plain
-- one
module _ (ts : Machine → List (Bool × Reason)) (g : Machine → Machine) (alike : (u : State) → ts (plain u) ≡ ts u.raw) where
  line_alike : (u : State) → error_of (provided (ts (plain u)) (g (plain u))) ≡ error_of (provided (ts u.raw) (g u.raw))
  line_alike u = ap (λ (xs : List (Bool × Reason)). error_of (provided xs (g (plain u)))) (alike u) ∙ provided_alike (ts u.raw) (g (plain u)) (g u.raw)

  tests_same : (w v : State) → plain v ≡ plain w → ts v.raw ≡ ts w.raw
  tests_same w v same = sym (alike v) ∙ ap ts same ∙ alike w

  -- it is obeyed in state v, which has the plain machine of w
  pub tested_lands : (w v new : State) → plain v ≡ plain w → AllHold (ts w.raw) → new ≡ with_raw v (g v.raw)
      → Lands v new (provided (ts v.raw) (g v.raw))
  tested_lands w v new same holds is = record {
    is = provided_ok (ts v.raw) (g v.raw) (subst (λ (xs : List (Bool × Reason)). AllHold xs) (sym (tests_same w v same)) holds)
        ∙ ap (λ (x : State). Ok x.raw) (sym is);
    rest = is ∙ ap (λ (x : State). with_raw v x.raw) (sym is);
  }

  pub tested_calm : (w v new : State) (s : ℕ) → Sound w → v ≡ unwound w s → AllHold (ts w.raw) → new ≡ with_raw v (g v.raw)
      → Lands (unwound w s) new (provided (ts (unwound w s).raw) (g (unwound w s).raw))
  tested_calm w v new s sound unwinds holds is =
      tested_lands w (unwound w s) new (unwound_plain w s sound) holds (is ∙ ap (λ (x : State). with_raw x (g x.raw)) unwinds)

  pub tested_plain : (w : State) (n : Machine) → AllHold (ts w.raw) → n ≡ g (plain w) → provided (ts (plain w)) (g (plain w)) ≡ Ok n
  tested_plain w n holds is =
      provided_ok (ts (plain w)) (g (plain w)) (subst (λ (xs : List (Bool × Reason)). AllHold xs) (sym (alike w)) holds) ∙ ap Ok (sym is)

  -- it is refused
  pub tested_refused : (w : State) (s : ℕ) (x : Refusal) → Sound w → FirstFails (ts w.raw) (reason_of x)
      → Refused w (unwound w s) (λ m. provided (ts m) (g m)) x
  tested_refused w s x sound h =
      refused_by (λ m. provided (ts m) (g m)) w s x line_alike sound (provided_first (ts w.raw) (g w.raw) (reason_of x) h)

  pub tested_refused_here : (w : State) (x : Refusal) → FirstFails (ts w.raw) (reason_of x) → Refused w w (λ m. provided (ts m) (g m)) x
  tested_refused_here w x h =
      let raw : provided (ts w.raw) (g w.raw) ≡ Err (reason_of x) = provided_first (ts w.raw) (g w.raw) (reason_of x) h in
      record {
        plain = error_is (provided (ts (plain w)) (g (plain w))) (provided (ts w.raw) (g w.raw)) (reason_of x) (line_alike w) raw;
        raw = raw;
        calmed = raw;
      }
