-- Words after a first one, each after a space.
use Rattle.std.proofs.Common.{◌≡◌, ℕ, List, [], ◌∷◌, ◌++◌, refl, append_assoc}
use Rattle.its_word.specs.Text.{spaced}
use Rattle.its_word.proofs.SpacedLaws.{spaced_cons, spaced_none}

abbrev pub behind : List (List ℕ) → List ℕ → List ℕ
behind [] rest = rest
behind (w ∷ ws) rest = 32 ∷ (w ++ behind ws rest)

pub spaced_behind : (first : List ℕ) (words : List (List ℕ)) (rest : List ℕ) → spaced first words ++ rest ≡ first ++ behind words rest
spaced_behind first [] rest = rw (spaced_none first) refl
spaced_behind first (w ∷ ws) rest =
    rw (spaced_cons first w ws, append_assoc first (32 ∷ spaced w ws) rest, spaced_behind w ws rest) refl
