-- Parts of the decoding of an instruction or a call: what each gives, with the places of core that
-- it looks at.
-- A promise rests on this.
use Rattle.std.specs.Prelude.{ℕ, List, [], ◌∷◌, ◌++◌, Result, Ok, Err}
use Rattle.its_word.specs.Core.{Core}
use Rattle.its_word.specs.Address.{address}
use Rattle.its_word.specs.declared.access.Address.{Address}
use Rattle.its_word.specs.declared.access.Fault.{Fault}
use Rattle.its_plain.specs.Unit.Plans.{read_of}

-- a value or the fault that ends the decoding; the places of the words that were read, in the order
-- of reading; and the places at which it was only looked whether a word is there, or can be stored
pub record Traced (X : Type 0) : Type 0 where
  pub answer : Result X Fault
  pub reads : List ℕ
  pub tests : List ℕ

-- a value or a fault for which core is not looked at
abbrev pub plainly : {X : Type 0} → Result X Fault → Traced X
plainly r = record { answer = r; reads = []; tests = [] }

abbrev pub gives : {X : Type 0} → X → Traced X
gives x = plainly (Ok x)

abbrev pub faults : {X : Type 0} → Fault → Traced X
faults f = plainly (Err f)

-- a part, and then what is done with its value; it ends at the first fault
abbrev pub goes_on : {X Y : Type 0} → List ℕ → List ℕ → Result X Fault → (X → Traced Y) → Traced Y
goes_on rs ts (Ok x) rest =
    record { answer = (rest x).answer; reads = rs ++ (rest x).reads; tests = ts ++ (rest x).tests }
goes_on rs ts (Err f) rest = record { answer = Err f; reads = rs; tests = ts }

unfoldable pub also : {X Y : Type 0} → Traced X → (X → Traced Y) → Traced Y
also m rest = goes_on m.reads m.tests m.answer rest

-- the word at a place, which is read; MPV if it is absent
unfoldable pub word : Core → ℕ → Traced ℕ
word c p = record { answer = read_of c p; reads = p ∷ []; tests = [] }

-- an effective address, and how much of the budget is used after it
pub record Located : Type 0 where
  pub at : Address
  pub used : ℕ

abbrev pub located_by : Result Address Fault → ℕ → Result Located Fault
located_by (Ok a) used = Ok (record { at = a; used = used })
located_by (Err f) used = Err f

-- the effective address of an address word, when so much of the budget is used already
unfoldable pub located : Core → ℕ → ℕ → Traced Located
located c w used =
    record { answer = located_by (address c w used).answer (address c w used).used; reads = (address c w used).reads; tests = [] }
