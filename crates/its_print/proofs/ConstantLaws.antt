-- The constant of the code is the number of the definition.
use Rattle.std.specs.Prelude.{◌≡◌, ◌≤◌, ℕ, List, length, refl}
use Rattle.its_print.specs.Sizes.{IsPrinted}
use Rattle.its_print.specs.Printing.{Row}
use Rattle.its_print.specs.declared.replies.TheConstants as replies

pub row_is : (words : List ℕ) → IsPrinted (Row words) ≡ (length words ≤ replies.ROW_WORDS)
row_is words = refl
