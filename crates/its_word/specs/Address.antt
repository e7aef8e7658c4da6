-- The effective address of an address word: bit 13 is I, bits 14 to 17 are X, the right half is Y
-- (processor reference manual, "Effective address calculation").
-- A promise rests on this.
use Rattle.std.specs.Prelude.{if◌then◌else◌, ℕ, zero, suc, ◌+◌, ◌-◌, ◌/◌, ◌%◌, ◌^◌, ◌==◌, Bool, Option, Some, None, Result, Ok, Err, List, [], ◌∷◌, ◌++◌}
use Rattle.its_word.specs.Word.{right_of}
use Rattle.its_word.specs.Core.{Core, word_at, acc_at}
use Rattle.its_word.specs.Limits.{budget}
use Rattle.its_word.specs.declared.access.Address.{Address}
use Rattle.its_word.specs.declared.access.Fault.{Fault}
use Rattle.its_word.specs.declared.access.Fault.TheVariants.{Mpv, Ilo}

-- what the calculation gives: the address, with the last index register or indirect word that it
-- used, or a fault; the places that it read, in their order; and how much of the budget is used
pub record Addressed : Type 0 where
  pub answer : Result Address Fault
  pub reads : List ℕ
  pub used : ℕ

-- I
abbrev pub is_indirect : ℕ → Bool
is_indirect w = w / 2 ^ 22 % 2 == 1

-- X
abbrev pub index_of : ℕ → ℕ
index_of w = w / 2 ^ 18 % 16

-- Y, plus the right half of accumulator X if X is not 0, modulo 1000000 (octal)
unfoldable pub indexed : Core → ℕ → ℕ
indexed c w = if index_of w == 0 then right_of w else (right_of w + right_of (acc_at c (index_of w))) % 2 ^ 18

-- the index register, if there is one
unfoldable pub index_places : ℕ → List ℕ
index_places w = if index_of w == 0 then [] else index_of w ∷ []

-- the last word that was used, with the index register
unfoldable pub last_used : Core → ℕ → Option ℕ → Option ℕ
last_used c w last = if index_of w == 0 then last else Some (acc_at c (index_of w))

-- an address that is found after these places were read
abbrev pub reading : List ℕ → Addressed → Addressed
reading places r = record r { reads = places ++ r.reads }

-- the calculation ends here, with n of the budget left
abbrev pub found : ℕ → ℕ → Option ℕ → Addressed
found n e last = record { answer = Ok (record { e = e; flags_word = last }); reads = []; used = budget - n }

abbrev pub failed : ℕ → Fault → Addressed
failed n f = record { answer = Err f; reads = []; used = budget - n }

-- what follows an indirect word, or MPV if it is absent
abbrev pub followed : ℕ → (ℕ → Addressed) → Option ℕ → Addressed
followed n rest (Some w) = rest w
followed n rest None = failed n Mpv

-- the calculation from an address word on, with n of the budget left. If I is 1, the word at the
-- address is the next address word; if nothing is left for it, that is ILO
unfoldable pub calculation : ℕ → Core → ℕ → Option ℕ → Addressed
calculation zero c w last =
    reading (index_places w) (if is_indirect w then failed 0 Ilo else found 0 (indexed c w) (last_used c w last))
calculation (suc n) c w last =
    reading (index_places w)
    (if is_indirect w then reading (indexed c w ∷ []) (followed n (λ v. calculation n c v (Some v)) (word_at c (indexed c w)))
    else found (suc n) (indexed c w) (last_used c w last))

-- the effective address of an address word, when so much of the budget is used already
abbrev pub address : Core → ℕ → ℕ → Addressed
address c w used = calculation (budget - used) c w None
