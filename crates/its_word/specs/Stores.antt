-- Stores of words in a core, in their order: all are checked before any is made.
-- A promise rests on this.
use Rattle.std.specs.Prelude.{ℕ, ◌%◌, ◌^◌, Bool, true, false, Option, Some, None, List, [], ◌∷◌}
use Rattle.std.specs.Option.{option_or}
use Rattle.its_word.specs.Core.{Core, word_at, can_store, store}
use Rattle.its_word.specs.declared.access.Fault.{Fault}
use Rattle.its_word.specs.declared.access.Fault.TheVariants.{Mpv, Wro}
use Rattle.its_word.specs.declared.plan.Store.{Store}

-- why a store is not possible, if it is not: by whether it is, and by the word that is there
abbrev pub refusal : Bool → Option ℕ → Option Fault
refusal true there = None
refusal false None = Some Mpv
refusal false (Some w) = Some Wro

-- why a word cannot be stored at an address, if it cannot
abbrev pub refused : Core → ℕ → Option Fault
refused c a = refusal (can_store c a) (word_at c a)

-- the place of a store; addresses have 18 bits
abbrev pub place : Store → ℕ
place s = s.at % 2 ^ 18

-- the fault of the first store that cannot be made
unfoldable pub first_fault : Core → List Store → Option Fault
first_fault c [] = None
first_fault c (s ∷ ss) = option_or (refused c (place s)) (first_fault c ss)

-- the core after stores in their order
unfoldable pub stored : Core → List Store → Core
stored c [] = c
stored c (s ∷ ss) = stored (store c (place s) s.word) ss
