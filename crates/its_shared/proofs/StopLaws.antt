-- What stops a transfer of words, and that one that nothing stops is not at the end of its file.
use Rattle.std.specs.Prelude.{if◌then◌else◌, ◌≡◌, ◌<◌, ◌/◌, ◌%◌, ◌^◌, ℕ, zero, suc, Bool, true, false, not, Option, Some, None, IfSome, is_some, List, [], ◌∷◌, refl}
use Rattle.std.proofs.Common.{sym, ◌∙◌, ap, arith}
use Rattle.std.proofs.Math.Nat.{mod-le, div-le_self}
use Rattle.std.proofs.lemmas.Bool.{not-false, or_parts}
use Rattle.its_word.specs.Byte.{has_size, load_of, position, size}
use Rattle.its_records.specs.declared.calls.Ask.{Ask}
use Rattle.its_frame.specs.declared.decision.Decision.{Decision}
use Rattle.its_plain.specs.Call.Arguments.{input}
use Rattle.its_plain.specs.Call.Transfer.{is_indexed, next_pointer, siot_by, siot_tests}
use Rattle.its_plain.proofs.SizeLaws.{next_sized}
use Rattle.its_plain.specs.Call.Tests.{Test, first}
use Rattle.its_plain.specs.Machine.View.{View}
use Rattle.its_shared.specs.Called.{first_of}

-- the test after so many
abbrev held_at : List Test → ℕ → Bool
held_at [] k = false
held_at (t ∷ ts) zero = t.holds
held_at (t ∷ ts) (suc k) = held_at ts k

none_by : (t : Test) (ts : List Test) (b : Bool) (k : ℕ) → t.holds ≡ b → ((i : ℕ) → first_of ts ≡ None → held_at ts i ≡ false)
    → (if b then Some t.stop else first_of ts) ≡ None
    → held_at (t ∷ ts) k ≡ false
none_by t ts true k f rest h = cc
none_by t ts false zero f rest h = f
none_by t ts false (suc k) f rest h = rest k h

none_held : (ts : List Test) (k : ℕ) → first_of ts ≡ None → held_at ts k ≡ false
none_held [] k h = refl
none_held (t ∷ ts) k h = none_by t ts t.holds k refl (none_held ts) h

stopped_by : (t : Test) (ts : List Test) (d e : Decision) (b : Bool) → (first_of ts ≡ Some d → d ≡ first ts e)
    → (if b then Some t.stop else first_of ts) ≡ Some d → d ≡ (if b then t.stop else first ts e)
stopped_by t ts d e true rest h = cc
stopped_by t ts d e false rest h = rest h

pub stopped : (ts : List Test) (d e : Decision) → first_of ts ≡ Some d → d ≡ first ts e
stopped [] d e h = cc
stopped (t ∷ ts) d e h = stopped_by t ts d e t.holds (stopped ts d e) h

unstopped_by : (t : Test) (ts : List Test) (e : Decision) (b : Bool) → (first_of ts ≡ None → e ≡ first ts e)
    → (if b then Some t.stop else first_of ts) ≡ None → e ≡ (if b then t.stop else first ts e)
unstopped_by t ts e true rest h = cc
unstopped_by t ts e false rest h = rest h

pub unstopped : (ts : List Test) (e : Decision) → first_of ts ≡ None → e ≡ first ts e
unstopped [] e h = refl
unstopped (t ∷ ts) e h = unstopped_by t ts e t.holds (unstopped ts e) h

-- a file is at its end exactly if there is no word
pub ended : (o : Option ℕ) (b : Bool) → is_some o ≡ not b → b ≡ not (is_some o)
ended (Some w) true h = cc
ended (Some w) false h = refl
ended None true h = refl
ended None false h = cc

few_by : (o : Option ℕ) (at : ℕ) (b : Bool) → is_some o ≡ not b → b ≡ false → IfSome o (λ w. at < 2 ^ 18) → at < 2 ^ 18
few_by (Some w) at b e f few = few
few_by None at true e f few = cc
few_by None at false e f few = cc

pub not_ended : (v : View) (a : Ask) (words b : Bool) → first_of (siot_tests v a (input a 1) (input a 2) words b) ≡ None → b ≡ false
not_ended v a words b h = none_held (siot_tests v a (input a 1) (input a 2) words b) 6 h

pub few_left : (v : View) (a : Ask) (at : ℕ) (o : Option ℕ) (b : Bool) → is_some o ≡ not b → first_of (siot_tests v a (input a 1) (input a 2) true b) ≡ None
    → IfSome o (λ w. at < 2 ^ 18) → at < 2 ^ 18
few_left v a at o b e h few = few_by o at b e (not_ended v a true b h) few

-- the pointer to the next byte has a size if no test stops it
pub next_left : (v : View) (a : Ask) (words b : Bool) → first_of (siot_tests v a (input a 1) (input a 2) words b) ≡ None
    → has_size (next_pointer (input a 1)) ≡ true
next_left v a words b h =
    let p = input a 1 in
    next_sized p (not-false (has_size p) (or_parts (not (has_size p)) (is_indexed p) (none_held (siot_tests v a p (input a 2) words b) 2 h)).0)

-- the result of SIOT if a test stops it, and if none does
module _ (v : View) (a : Ask) (words at_end b : Bool) (moves : Decision) (e : b ≡ at_end) where
  abbrev tests : Bool → List Test
  tests end = siot_tests v a (input a 1) (input a 2) words end

  pub siot_stops : (d : Decision) → first_of (tests b) ≡ Some d → d ≡ siot_by v a words at_end moves
  siot_stops d h = stopped (tests at_end) d moves (sym (ap (λ x. first_of (tests x)) e) ∙ h)

  pub siot_goes : first_of (tests b) ≡ None → moves ≡ siot_by v a words at_end moves
  siot_goes h = unstopped (tests at_end) moves (sym (ap (λ x. first_of (tests x)) e) ∙ h)

-- a byte that is loaded from a word fits one
pub loaded_fits : (p w : ℕ) → w < 2 ^ 36 → load_of p w % 2 ^ 36 ≡ load_of p w
unfolding load_of
loaded_fits p w lt =
    let a = mod-le (w / 2 ^ position p) (2 ^ size p) in
    let b = div-le_self w (2 ^ position p) in
    omega arith
