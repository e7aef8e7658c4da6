-- The words of a line, some of them before a list of others.
use Rattle.std.proofs.Common.{◌≡◌, List, [], ◌∷◌, ◌++◌, ◌∙◌, ℕ}
use Rattle.its_word.specs.Text.{spaced}
use Rattle.its_word.proofs.SpacedLaws.{after_field, spaced-append}

pub after_two_fields : (first one two : List ℕ) (fields : List (List ℕ))
    → spaced first (one ∷ two ∷ fields) ≡ spaced (spaced (spaced first (one ∷ [])) (two ∷ [])) fields
after_two_fields first one two fields = after_field first one (two ∷ fields) ∙ after_field (spaced first (one ∷ [])) two fields

-- a slot, the fields of its job, and what follows them
pub after_job : (first slot : List ℕ) (job behind : List (List ℕ))
    → spaced first (slot ∷ (job ++ behind)) ≡ spaced (spaced (spaced first (slot ∷ [])) job) behind
after_job first slot job behind = after_field first slot (job ++ behind) ∙ spaced-append (spaced first (slot ∷ [])) job behind
