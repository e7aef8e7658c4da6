-- The fields of a line that are met, and what a line is then.
use Rattle.std.proofs.Common.{if◌then◌else◌, ◌≡◌, ◌<◌, ◌≤◌, ◌+◌, ◌-◌, ◌*◌, ◌^◌, ◌==◌, ◌&&◌, ℕ, Bool, true, false, Some, None, Result, Ok, Err, List, [], ◌∷◌, length, map, leb, refl, arith, lit≤, All, IfSome}
use Rattle.std.specs.List.{list_all, fold}
use Rattle.std.proofs.Math.Nat.{mul-le-mul_right, pow-le-pow_right, pow-suc}
use Rattle.std.proofs.lemmas.Bool.{le-leb}
use Rattle.std.proofs.lemmas.Bool.Decides.{nat_tests}
use Rattle.std.proofs.lemmas.List.Elements.{All-cons}
use Rattle.its_word.specs.Text.{is_code, is_octal, octal_value}
use Rattle.its_records.specs.declared.session.Bad.{Bad}
use Rattle.its_records.specs.declared.session.Bad.TheVariants as bads
use Rattle.its_session.specs.Fields.{Field, with_fields, with_count, number_to, count_to, last_slot, address, console, is_dash, console_or_dash, console_given}
use Rattle.its_session.proofs.NameLaws.{both}

pub le_of : (a b : ℕ) → leb a b ≡ true → a ≤ b
le_of a b h = grind (arith, nat_tests)

-- a number has at most 12 digits
digit_next : (n c p m : ℕ) → is_code 48 55 c ≡ true → m < (n * 8 + (c - 48) + 1) * p → m < (n + 1) * (p * 8)
digit_next n c p m h below =
    let digits = both (leb 48 c) (leb c 55) h in
    let high : c ≤ 55 = le_of c 55 digits.1 in
    let next : n * 8 + (c - 48) + 1 ≤ n * 8 + 8 = omega arith in
    omega (arith, mul-le-mul_right p next)

digits_below : (w : List ℕ) (n : ℕ) → list_all (is_code 48 55) w ≡ true → fold (λ n c. n * 8 + (c - 48)) n w < (n + 1) * 8 ^ length w
digits_below [] n h = omega arith
digits_below (c ∷ cs) n h =
    let parts = both (is_code 48 55 c) (list_all (is_code 48 55) cs) h in
    rw (pow-suc 8 (length cs)) (digit_next n c (8 ^ length cs) (fold (λ n c. n * 8 + (c - 48)) (n * 8 + (c - 48)) cs) parts.0
    (digits_below cs (n * 8 + (c - 48)) parts.1))

pub number_below : (w : List ℕ) → is_octal w ≡ true → octal_value w < 2 ^ 36
unfolding is_octal octal_value
number_below w h =
    let parts = both (leb 1 (length w) && leb (length w) 12) (list_all (is_code 48 55) w) h in
    let few : length w ≤ 12 = le_of (length w) 12 (both (leb 1 (length w)) (leb (length w) 12) parts.0).1 in
    let most : 8 ^ length w ≤ 8 ^ 12 = pow-le-pow_right (lit≤ tt) few in
    omega (arith, digits_below w 0 parts.1, most)

-- a line with its fields: each is met, and the event is the line's
pub record Met (f : Field) : Type 0 where
  pub formed : f.formed ≡ true
  pub ranged : f.ranged ≡ true
  pub console : f.console ≡ true

abbrev pub AllMet : List Field → Type 0
AllMet [] = Unit {0}
AllMet (f ∷ fs) = Met f × AllMet fs

all_met : (fs : List Field) → list_all (λ f. f.formed) fs ≡ true → list_all (λ f. f.ranged) fs ≡ true → list_all (λ f. f.console) fs ≡ true → AllMet fs
all_met [] a b c = tt
all_met (f ∷ fs) a b c =
    let x = both f.formed (list_all (λ f. f.formed) fs) a in
    let y = both f.ranged (list_all (λ f. f.ranged) fs) b in
    let z = both f.console (list_all (λ f. f.console) fs) c in
    (record { formed = x.0; ranged = y.0; console = z.0 }, all_met fs x.1 y.1 z.1)

pub met : {A : Type 0} (fields : List Field) (d e : A) → with_fields fields d ≡ Ok e → AllMet fields × (d ≡ e)
met fields d e h = go (list_all (λ f. f.formed) fields) (list_all (λ f. f.ranged) fields) (list_all (λ f. f.console) fields) refl refl refl h
  where
    go : (a b c : Bool) → list_all (λ f. f.formed) fields ≡ a → list_all (λ f. f.ranged) fields ≡ b → list_all (λ f. f.console) fields ≡ c
        → (if a then (if b then (if c then Ok d else Err bads.NoConsole) else Err bads.Range) else Err bads.Syntax) ≡ Ok e → AllMet fields × (d ≡ e)
    go true true true x y z h = (all_met fields x y z, cc)
    go true true false x y z h = cc
    go true false c x y z h = cc
    go false b c x y z h = cc

pub counted : {A : Type 0} (most : ℕ) (ws : List (List ℕ)) (r : Result A Bad) (e : A) → with_count most ws r ≡ Ok e → (r ≡ Ok e)
    × (1 ≤ length ws) × (length ws ≤ most)
counted most ws r e h = go (leb 1 (length ws) && leb (length ws) most) refl h
  where
    go : (b : Bool) → (leb 1 (length ws) && leb (length ws) most) ≡ b → (if b then r else Err bads.Syntax) ≡ Ok e → (r ≡ Ok e)
        × (1 ≤ length ws) × (length ws ≤ most)
    go true t h = let s = both (leb 1 (length ws)) (leb (length ws) most) t in (h, le_of 1 (length ws) s.0, le_of (length ws) most s.1)
    go false t h = cc

pub at_most : (most : ℕ) (w : List ℕ) → Met (number_to most w) → octal_value w ≤ most
at_most most w f = le_of (octal_value w) most f.ranged

pub from_one : (most : ℕ) (w : List ℕ) → Met (count_to most w) → (1 ≤ octal_value w) × (octal_value w ≤ most)
from_one most w f =
    let s = both (leb 1 (octal_value w)) (leb (octal_value w) most) f.ranged in
    (le_of 1 (octal_value w) s.0, le_of (octal_value w) most s.1)

pub is_address : (w : List ℕ) → Met (address w) → octal_value w < 2 ^ 18
is_address w f = let most : octal_value w ≤ 2 ^ 18 - 1 = at_most (2 ^ 18 - 1) w f in omega arith

pub is_console : (w : List ℕ) → Met (console w) → octal_value w ≤ 7
is_console w f = le_of (octal_value w) 7 f.console

pub may_be_console : (w : List ℕ) → Met (console_or_dash w) → IfSome (console_given w) (λ k. k ≤ 7)
may_be_console w f = go (is_dash w) f
  where
    go : (b : Bool) → Met (if b then record { formed = true; ranged = true; console = true } else console w)
        → IfSome (if b then None else Some (octal_value w)) (λ k. k ≤ 7)
    go true f = tt
    go false f = is_console w f

pub are_bytes : (ws : List (List ℕ)) → AllMet (map (number_to 127) ws) → All (λ b. b ≤ 127) (map octal_value ws)
are_bytes [] f = λ k d below. absurd (omega arith)
are_bytes (w ∷ ws) f = All-cons (λ b. b ≤ 127) (octal_value w) (map octal_value ws) (at_most 127 w f.0) (are_bytes ws f.1)

-- a line whose fields are all met
formed_all : (fs : List Field) → AllMet fs → list_all (λ f. f.formed) fs ≡ true
formed_all [] m = refl
formed_all (f ∷ fs) m = rw (m.0.formed, formed_all fs m.1) refl

ranged_all : (fs : List Field) → AllMet fs → list_all (λ f. f.ranged) fs ≡ true
ranged_all [] m = refl
ranged_all (f ∷ fs) m = rw (m.0.ranged, ranged_all fs m.1) refl

console_all : (fs : List Field) → AllMet fs → list_all (λ f. f.console) fs ≡ true
console_all [] m = refl
console_all (f ∷ fs) m = rw (m.0.console, console_all fs m.1) refl

pub with_met : {A : Type 0} (fields : List Field) (x : A) → AllMet fields → with_fields fields x ≡ Ok x
with_met fields x m = rw (formed_all fields m, ranged_all fields m, console_all fields m) refl

pub of_count : {A : Type 0} (most : ℕ) (ws : List (List ℕ)) (r : Result A Bad) → 1 ≤ length ws → length ws ≤ most → with_count most ws r ≡ r
of_count most ws r some few = rw (le-leb 1 (length ws) some, le-leb (length ws) most few) refl

pub slot_small : (v s : ℕ) → s ≤ last_slot v → s ≤ 95
unfolding last_slot
slot_small v s h = go (v == 2) h
  where
    go : (b : Bool) → s ≤ (if b then 95 else 63) → s ≤ 95
    go true h = h
    go false h = omega arith
