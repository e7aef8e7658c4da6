-- The words of a row, as many as there are.
use denote.Ref.{Bor}
use Rattle.std.proofs.Common.{◌≡◌, ◌<◌, ◌≤◌, ◌&&◌, ◌-◌, ℕ, zero, suc, true, false, Ok, Err, List, [], ◌∷◌, length, get_or, map, take, drop, refl, ap, nat_le, arith, inl, inr}
use Rattle.std.specs.List.{list_all}
use Rattle.std.proofs.lemmas.Bool.{cases_Bool}
use Rattle.std.proofs.lemmas.List.{length-map, take_rest}
use Rattle.its_word.specs.Text.{is_octal, octal_value}
use Rattle.its_records.specs.declared.session.Bad.{Bad}
use Rattle.its_records.specs.declared.session.Bad.TheVariants.{Syntax}
use Rattle.its_session.specs.Grammar.{number, number_to}
use Rattle.its_session.specs.Reading.{number_in}

-- what the check writes for a word past the end
abbrev pub past : Bor (List ℕ)
past = record { ref_ptr = (0, 0); now = [] }

pub three_words : (ws : List (Bor (List ℕ))) → 3 ≤ length ws → length ws < 4
    → map (λ w. w.now) ws ≡ (get_or ws 0 past).now ∷ (get_or ws 1 past).now ∷ (get_or ws 2 past).now ∷ []
three_words (a ∷ b ∷ c ∷ []) some few = refl
three_words _ some few = absurd (omega arith)

pub two_words : (ws : List (Bor (List ℕ))) → 2 ≤ length ws → length ws < 3 → map (λ w. w.now) ws ≡ (get_or ws 0 past).now ∷ (get_or ws 1 past).now ∷ []
two_words (a ∷ b ∷ []) some few = refl
two_words _ some few = absurd (omega arith)

pub four_words : (ws : List (Bor (List ℕ))) → 4 ≤ length ws → length ws < 5
    → map (λ w. w.now) ws ≡ (get_or ws 0 past).now ∷ (get_or ws 1 past).now ∷ (get_or ws 2 past).now ∷ (get_or ws 3 past).now ∷ []
four_words (a ∷ b ∷ c ∷ d ∷ []) some few = refl
four_words _ some few = absurd (omega arith)

pub five_words : (ws : List (Bor (List ℕ))) → 5 ≤ length ws → length ws < 6
    → map (λ w. w.now) ws ≡ (get_or ws 0 past).now ∷ (get_or ws 1 past).now ∷ (get_or ws 2 past).now ∷ (get_or ws 3 past).now ∷ (get_or ws 4 past).now ∷ []
five_words (a ∷ b ∷ c ∷ d ∷ e ∷ []) some few = refl
five_words _ some few = absurd (omega arith)

pub six_words : (ws : List (Bor (List ℕ))) → 6 ≤ length ws → length ws < 7
    → map (λ w. w.now) ws ≡ (get_or ws 0 past).now ∷ (get_or ws 1 past).now ∷ (get_or ws 2 past).now ∷ (get_or ws 3 past).now
    ∷ (get_or ws 4 past).now ∷ (get_or ws 5 past).now ∷ []
six_words (a ∷ b ∷ c ∷ d ∷ e ∷ f ∷ []) some few = refl
six_words _ some few = absurd (omega arith)

pub eight_words : (ws : List (Bor (List ℕ))) → 8 ≤ length ws → length ws < 9
    → map (λ w. w.now) ws ≡ (get_or ws 0 past).now ∷ (get_or ws 1 past).now ∷ (get_or ws 2 past).now ∷ (get_or ws 3 past).now
    ∷ (get_or ws 4 past).now ∷ (get_or ws 5 past).now ∷ (get_or ws 6 past).now ∷ (get_or ws 7 past).now ∷ []
eight_words (a ∷ b ∷ c ∷ d ∷ e ∷ f ∷ g ∷ h ∷ []) some few = refl
eight_words _ some few = absurd (omega arith)

pub first_two : (ws : List (Bor (List ℕ))) → 2 ≤ length ws
    → map (λ w. w.now) ws ≡ (get_or ws 0 past).now ∷ (get_or ws 1 past).now ∷ map (λ w. w.now) (take (length ws - 2) (drop 2 ws))
first_two [] some = absurd (omega arith)
first_two (w ∷ []) some = absurd (omega arith)
first_two (v ∷ w ∷ ws) some = rw (take_rest (v ∷ w ∷ ws) 2) refl

pub first_word : (ws : List (Bor (List ℕ))) → 1 ≤ length ws
    → map (λ w. w.now) ws ≡ (get_or ws 0 past).now ∷ map (λ w. w.now) (take (length ws - 1) (drop 1 ws))
first_word [] some = absurd (omega arith)
first_word (w ∷ ws) some = rw (take_rest (w ∷ ws) 1) refl

pub count_of_words : (ws : List (Bor (List ℕ))) → length (map (λ w. w.now) ws) ≡ length ws
count_of_words ws = length-map ws (λ w. w.now)

-- a word that is no number is the reason against all of them
not_a_number : (w : List ℕ) (e : Bad) → number_in w ≡ Err e → (is_octal w ≡ false) × (e ≡ Syntax)
not_a_number w e bad =
    elim (cases_Bool (is_octal w)) [
      | inl good ↦ (let other : Ok (octal_value w) ≡ Err e = rw good at bad in cc)
      | inr none ↦ (none, (let same : Err Syntax ≡ Err e = rw none at bad in cc))
    ]

pub not_numbers : (ws : List (Bor (List ℕ))) (i : ℕ) (e : Bad) → i < length ws → number_in (get_or ws i past).now ≡ Err e
    → (list_all is_octal (map (λ w. w.now) ws) ≡ false) × (e ≡ Syntax)
not_numbers [] i e below bad = absurd (omega arith)
not_numbers (w ∷ ws) zero e below bad =
    let this = not_a_number w.now e bad in
    (rw this.0 refl, this.1)
not_numbers (w ∷ ws) (suc i) e below bad =
    let later = not_numbers ws i e (omega arith) bad in
    elim (cases_Bool (is_octal w.now)) [
      | inl good ↦ (rw (good, later.0) refl, later.1)
      | inr none ↦ (rw none refl, later.1)
    ]

-- fields that are numbers
pub numbers_formed : (ws : List (List ℕ)) → list_all (λ f. f.formed) (map number ws) ≡ list_all is_octal ws
numbers_formed [] = refl
numbers_formed (w ∷ ws) = ap (λ b. is_octal w && b) (numbers_formed ws)

pub numbers_ranged : (ws : List (List ℕ)) → list_all (λ f. f.ranged) (map number ws) ≡ true
numbers_ranged [] = refl
numbers_ranged (w ∷ ws) = numbers_ranged ws

pub numbers_consoles : (ws : List (List ℕ)) → list_all (λ f. f.console) (map number ws) ≡ true
numbers_consoles [] = refl
numbers_consoles (w ∷ ws) = numbers_consoles ws

-- fields that are bytes
pub bytes_formed : (ws : List (List ℕ)) → list_all (λ f. f.formed) (map (number_to 127) ws) ≡ list_all is_octal ws
bytes_formed [] = refl
bytes_formed (w ∷ ws) = ap (λ b. is_octal w && b) (bytes_formed ws)

pub bytes_ranged : (ws : List (List ℕ)) → list_all (λ f. f.ranged) (map (number_to 127) ws) ≡ list_all (λ w. nat_le (octal_value w) 127) ws
bytes_ranged [] = refl
bytes_ranged (w ∷ ws) = ap (λ b. nat_le (octal_value w) 127 && b) (bytes_ranged ws)

pub bytes_consoles : (ws : List (List ℕ)) → list_all (λ f. f.console) (map (number_to 127) ws) ≡ true
bytes_consoles [] = refl
bytes_consoles (w ∷ ws) = bytes_consoles ws
