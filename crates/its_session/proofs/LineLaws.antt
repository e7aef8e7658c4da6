-- A line that is written as words with one space between two has these words.
use Rattle.std.proofs.Common.{◌≡◌, ◌≤◌, ◌+◌, ℕ, true, leb, List, [], ◌∷◌, length, get_or, refl, arith}
use Rattle.std.specs.List.{list_all}
use Rattle.std.proofs.lemmas.Bool.Decides.{nat_tests}
use Rattle.std.proofs.lemmas.List.Folds.{list_all-append}
use Rattle.std.proofs.lemmas.List.Sums.{AllPass-from_list_all, list_all-from_AllPass}
use Rattle.its_word.specs.Text.{is_code, spaced, words_of}
use Rattle.its_records.specs.declared.session.Place.{Place}
use Rattle.its_word.proofs.SpacedLaws.{length_spaced, room_of, spaced_cons, spaced_none}
use Rattle.its_word.proofs.WordsLaws.{IsRun, words_first, words_one}
use Rattle.its_session.specs.Grammar.{event_of_words, line_event}

-- runs of visible bytes
abbrev pub AllRuns : List (List ℕ) → Type 0
AllRuns [] = Unit {0}
AllRuns (w ∷ ws) = IsRun w × AllRuns ws

in_line : (c : ℕ) → is_code 33 126 c ≡ true → is_code 32 126 c ≡ true
in_line c h = grind (arith, nat_tests)

run_in_line : (w : List ℕ) → list_all (is_code 33 126) w ≡ true → list_all (is_code 32 126) w ≡ true
run_in_line w h = list_all-from_AllPass (is_code 32 126) w (λ k d below. in_line (get_or w k d) (AllPass-from_list_all (is_code 33 126) w h k d below))

pub words_spaced : (first : List ℕ) (words : List (List ℕ)) → IsRun first → AllRuns words → words_of (spaced first words) ≡ first ∷ words
words_spaced first [] f ws = rw (spaced_none first) (words_one first f)
words_spaced first (w ∷ words) f ws = rw (spaced_cons first w words, words_first first (spaced w words) f, words_spaced w words ws.0 ws.1) refl

visible_spaced : (first : List ℕ) (words : List (List ℕ)) → IsRun first → AllRuns words → list_all (is_code 32 126) (spaced first words) ≡ true
visible_spaced first [] f ws = rw (spaced_none first) (run_in_line first f.visible)
visible_spaced first (w ∷ words) f ws =
    rw (spaced_cons first w words, list_all-append (is_code 32 126) first (32 ∷ spaced w words), run_in_line first f.visible)
    (visible_spaced w words ws.0 ws.1)

-- the event of such a line is that of its words
pub line_of_words : (place : Place) (v : ℕ) (first : List ℕ) (words : List (List ℕ)) → IsRun first → AllRuns words → length first + room_of words ≤ 255
    → line_event place v (spaced first words) ≡ event_of_words place v (first ∷ words)
unfolding line_event
line_of_words place v first words f ws short =
    let size : length (spaced first words) ≤ 255 = omega (arith, length_spaced first words) in
    let test : leb (length (spaced first words)) 255 ≡ true = grind (arith, nat_tests) in
    rw (test, visible_spaced first words f ws, words_spaced first words f ws) refl
