-- Moves and half moves (processor reference manual, "Full word data transmission" and "Half word
-- data transmission").
-- A promise rests on this.
use Rattle.std.specs.Prelude.{ℕ, [], ◌∷◌, Result, Ok}
use Rattle.its_word.specs.Word.{left_of, right_of, pair_of}
use Rattle.its_word.specs.Core.{Core}
use Rattle.its_word.specs.Result2.{one_word}
use Rattle.its_word.specs.Arith.{neg_of, magnitude_of}
use Rattle.its_word.specs.Logic.{half_of}
use Rattle.its_word.specs.declared.access.Fault.{Fault}
use Rattle.its_word.specs.declared.result2.Result2.{Result2}
use Rattle.its_word.specs.declared.instruction.Mode.{Mode}
use Rattle.its_word.specs.declared.instruction.Mode.TheVariants.{Basic, Immediate, Memory, Both}
use Rattle.its_word.specs.declared.instruction.MoveOp.{MoveOp}
use Rattle.its_word.specs.declared.instruction.MoveOp.TheVariants.{Plain, Swap, Negate, Magnitude}
use Rattle.its_word.specs.declared.plan.Context.{Context}
use Rattle.its_plain.specs.Unit.Plans.{Planned, given, read_of, ac, to, next, moved_from, moved_to}

-- a word with its halves swapped
abbrev pub swapped : ℕ → ℕ
swapped w = pair_of (right_of w) (left_of w)

-- 200 MOVE, MOVEI, MOVEM, MOVES: the source
-- 204 MOVS, MOVSI, MOVSM, MOVSS: its halves swapped
-- 210 MOVN, MOVNI, MOVNM, MOVNS: negated, with the flags of the negation
-- 214 MOVM, MOVMI, MOVMM, MOVMS: negated with its flags if it is negative
-- (a mode says what the source is and what gets the result: `Plans.moved_from`, `Plans.moved_to`)
unfoldable pub moved : MoveOp → ℕ → Result2
moved Plain s = one_word s 0
moved Swap s = one_word (swapped s) 0
moved Negate s = neg_of s
moved Magnitude s = magnitude_of s

unfoldable pub move_row : Core → Context → MoveOp → Mode → Planned
move_row c x op m = given (moved_from c x m) (λ s. Ok (next x (moved_to x m (moved op s).first) (moved op s).flags))

-- 250 EXCH: C(E) to AC, and AC to C(E)
unfoldable pub exch_row : Core → Context → Planned
exch_row c x = given (read_of c x.e) (λ w. Ok (next x (to x.e (ac c x) ∷ to x.a w ∷ []) 0))

-- the half words: the destination is AC, of modes Memory and Both C(E)
unfoldable pub half_to : Core → Context → Mode → Result ℕ Fault
half_to c x Basic = Ok (ac c x)
half_to c x Immediate = Ok (ac c x)
half_to c x Memory = read_of c x.e
half_to c x Both = read_of c x.e

-- 500 to 577, four opcodes a row, one of each mode
-- HLL    HLLI   HLLM   HLLS   HRL    HRLI   HRLM   HRLS
-- HLLZ   HLLZI  HLLZM  HLLZS  HRLZ   HRLZI  HRLZM  HRLZS
-- HLLO   HLLOI  HLLOM  HLLOS  HRLO   HRLOI  HRLOM  HRLOS
-- HLLE   HLLEI  HLLEM  HLLES  HRLE   HRLEI  HRLEM  HRLES
-- HRR    HRRI   HRRM   HRRS   HLR    HLRI   HLRM   HLRS
-- HRRZ   HRRZI  HRRZM  HRRZS  HLRZ   HLRZI  HLRZM  HLRZS
-- HRRO   HRROI  HRROM  HRROS  HLRO   HLROI  HLROM  HLROS
-- HRRE   HRREI  HRREM  HRRES  HLRE   HLREI  HLREM  HLRES
unfoldable pub half_row : Core → Context → ℕ → Mode → Planned
half_row c x k m =
    given (moved_from c x m) (λ s. given (half_to c x m) (λ d. Ok (next x (moved_to x m (half_of k s d)) 0)))
