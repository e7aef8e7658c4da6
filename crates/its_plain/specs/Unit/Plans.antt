-- What the rows of the instruction tables share: reading, the sources and destinations of the
-- modes, and what an instruction that completes does. A row gives a plan, or the first fault of
-- what it reads.
-- A promise rests on this.
use Rattle.std.specs.Prelude.{if◌then◌else◌, ◌==◌, ◌<◌, ◌≤◌, ℕ, ◌+◌, ◌-◌, ◌^◌, ◌%◌, Bool, true, false, List, [], ◌∷◌, Result, Ok, Err, ok_or, bit_and, bit_or}
use Rattle.its_word.specs.Word.{left_of, right_of, pair_of}
use Rattle.its_word.specs.Core.{Core, word_at, acc_at}
use Rattle.its_word.specs.Limits.{budget}
use Rattle.its_word.specs.declared.access.Fault.{Fault}
use Rattle.its_word.specs.declared.access.Fault.TheVariants.{Mpv}
use Rattle.its_word.specs.declared.instruction.Mode.{Mode}
use Rattle.its_word.specs.declared.instruction.Mode.TheVariants.{Basic, Immediate, Memory, Both}
use Rattle.its_word.specs.declared.plan.Context.{Context}
use Rattle.its_word.specs.declared.plan.Store.{Store}
use Rattle.its_word.specs.declared.plan.Plan.{Plan}
use Rattle.its_word.specs.Flags.{BYTE_HALF}

-- a plan, or a fault
abbrev pub Planned : Type 0
Planned = Result Plan Fault

-- goes on with a value, or stops at a fault
abbrev pub given : {X Y : Type 0} → Result X Fault → (X → Result Y Fault) → Result Y Fault
given (Ok x) row = row x
given (Err f) row = Err f

-- the word at an address, which faults if its page is absent
unfoldable pub read_of : Core → ℕ → Result ℕ Fault
read_of c a = ok_or (word_at c a) Mpv

-- the accumulator that A names, and the one after it, modulo 16
unfoldable pub ac : Core → Context → ℕ
ac c x = acc_at c x.a

abbrev pub next_a : Context → ℕ
next_a x = (x.a + 1) % 16

unfoldable pub next_ac : Core → Context → ℕ
next_ac c x = acc_at c (next_a x)

-- 0,,E
abbrev pub immediate : Context → ℕ
immediate x = pair_of 0 x.e

-- a word at a place
abbrev pub to : ℕ → ℕ → Store
to a w = record { at = a; word = w }

-- flags without those of a mask, and whether one of a mask is on
abbrev pub without : ℕ → ℕ → ℕ
without flags mask = flags - bit_and flags mask

abbrev pub is_on : ℕ → ℕ → Bool
is_on flags mask = if bit_and flags mask == 0 then false else true

-- an instruction that completes: the stores that it makes, the flags that it sets, and the PC after
-- it. First part done is cleared
abbrev pub completes : Context → List Store → ℕ → ℕ → Plan
completes x stores set pc = record {
  stores = record { items = stores };
  pc = pc;
  flags = bit_or (without x.flags BYTE_HALF) set;
  pending = 0;
}

-- an instruction that completes, and goes on to the next one
abbrev pub next : Context → List Store → ℕ → Plan
next x stores set = completes x stores set (x.pc + 1)

-- to E if a test holds, else on
abbrev pub jump : Context → List Store → ℕ → Bool → Plan
jump x stores set taken = completes x stores set (if taken then x.e else x.pc + 1)

-- over the next instruction if a test holds
abbrev pub skip : Context → List Store → ℕ → Bool → Plan
skip x stores set taken = completes x stores set (if taken then x.pc + 2 else x.pc + 1)

-- to AC if A is not 0
abbrev pub to_ac_but_0 : Context → ℕ → List Store
to_ac_but_0 x w = if x.a == 0 then [] else to x.a w ∷ []

-- moves and halves: the source, and the destination
unfoldable pub moved_from : Core → Context → Mode → Result ℕ Fault
moved_from c x Basic = read_of c x.e
moved_from c x Immediate = Ok (immediate x)
moved_from c x Memory = Ok (ac c x)
moved_from c x Both = read_of c x.e

unfoldable pub moved_to : Context → Mode → ℕ → List Store
moved_to x Basic w = to x.a w ∷ []
moved_to x Immediate w = to x.a w ∷ []
moved_to x Memory w = to x.e w ∷ []
moved_to x Both w = to x.e w ∷ to_ac_but_0 x w

-- arithmetic and Boolean functions: the source, and the destination
unfoldable pub worked_from : Core → Context → Mode → Result ℕ Fault
worked_from c x Basic = read_of c x.e
worked_from c x Immediate = Ok (immediate x)
worked_from c x Memory = read_of c x.e
worked_from c x Both = read_of c x.e

unfoldable pub worked_to : Context → Mode → ℕ → List Store
worked_to x Basic w = to x.a w ∷ []
worked_to x Immediate w = to x.a w ∷ []
worked_to x Memory w = to x.e w ∷ []
worked_to x Both w = to x.e w ∷ to x.a w ∷ []

-- a result of two words: to AC and AC+1; of mode Memory the first alone, to C(E); of mode Both to
-- all three
unfoldable pub two_to : Context → Mode → ℕ → ℕ → List Store
two_to x Basic w v = to x.a w ∷ to (next_a x) v ∷ []
two_to x Immediate w v = to x.a w ∷ to (next_a x) v ∷ []
two_to x Memory w v = to x.e w ∷ []
two_to x Both w v = to x.e w ∷ to x.a w ∷ to (next_a x) v ∷ []

-- 1 added to, or taken from, each half of a word separately
abbrev pub both_up : ℕ → ℕ
both_up w = pair_of (left_of w + 1) (right_of w + 1)

abbrev pub both_down : ℕ → ℕ
both_down w = pair_of (left_of w + (2 ^ 18 - 1)) (right_of w + (2 ^ 18 - 1))

-- the numbers of a context are those of an instruction
pub record ContextFits (x : Context) : Type 0 where
  pub pc : x.pc < 2 ^ 18
  pub a : x.a < 16
  pub e : x.e < 2 ^ 18
  pub used : x.used ≤ budget
