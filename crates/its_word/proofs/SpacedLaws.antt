-- Words with a space between two.
use Rattle.std.proofs.Common.{◌≡◌, ◌<◌, ◌+◌, ℕ, List, [], ◌∷◌, ◌++◌, length, get_or, map, take, refl, append_assoc, arith, ap, ◌∙◌}
use Rattle.std.proofs.lemmas.List.{map_more, length-append}
use Rattle.std.proofs.lemmas.List.Sums.{fold-append}
use Rattle.its_word.specs.Text.{spaced}

pub spaced_none : (first : List ℕ) → spaced first [] ≡ first
unfolding spaced
spaced_none first = refl

pub spaced_one : (first word : List ℕ) → spaced first (word ∷ []) ≡ first ++ 32 ∷ word
unfolding spaced
spaced_one first word = refl

pub spaced-append : (first : List ℕ) (words more : List (List ℕ)) → spaced first (words ++ more) ≡ spaced (spaced first words) more
unfolding spaced
spaced-append first words more = fold-append _ first words more

pub after_field : (first field : List ℕ) (fields : List (List ℕ)) → spaced first (field ∷ fields) ≡ spaced (spaced first (field ∷ [])) fields
after_field first field fields = spaced-append first (field ∷ []) fields

-- one more of the words that f makes of a list
pub spaced_more : {X : Type 0} (first : List ℕ) (f : X → List ℕ) (xs : List X) (i : ℕ) (x : X) → i < length xs
    → spaced first (map f (take (i + 1) xs)) ≡ spaced (spaced first (map f (take i xs))) (f (get_or xs i x) ∷ [])
spaced_more first f xs i x below = rw (map_more f xs i x below) (spaced-append first (map f (take i xs)) (f (get_or xs i x) ∷ []))

-- how many bytes these words take, each with the space before it
abbrev pub room_of : List (List ℕ) → ℕ
room_of [] = 0
room_of (w ∷ ws) = 1 + length w + room_of ws

pub length_spaced : (first : List ℕ) (words : List (List ℕ)) → length (spaced first words) ≡ length first + room_of words
unfolding spaced
length_spaced first [] = omega arith
length_spaced first (w ∷ ws) = omega (arith, length_spaced (first ++ 32 ∷ w) ws, length-append first (32 ∷ w))

-- the words before the last ones stay in front
pub spaced_after : (front text : List ℕ) (words : List (List ℕ)) → spaced (front ++ text) words ≡ front ++ spaced text words
unfolding spaced
spaced_after front text [] = refl
spaced_after front text (w ∷ ws) = rw (append_assoc front text (32 ∷ w)) (spaced_after front (text ++ 32 ∷ w) ws)

pub spaced_cons : (first word : List ℕ) (words : List (List ℕ)) → spaced first (word ∷ words) ≡ first ++ 32 ∷ spaced word words
unfolding spaced
spaced_cons first word words = spaced_after first (32 ∷ word) words ∙ ap (λ t. first ++ t) (spaced_after (32 ∷ []) word words)
