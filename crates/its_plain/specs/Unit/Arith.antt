-- Integer arithmetic, shifts and Boolean functions (processor reference manual, "Fixed point
-- arithmetic" and "Logic").
-- A promise rests on this.
use Rattle.std.specs.Prelude.{if◌then◌else◌, ◌==◌, ◌&&◌, not, ℕ, ◌+◌, Bool, true, false, [], ◌∷◌, Option, Some, None, Ok}
use Rattle.its_word.specs.Core.{Core}
use Rattle.its_word.specs.Arith.{add_of, sub_of, imul_of, mul_of, idiv_of, div_of}
use Rattle.its_word.specs.Shift.{ash_of, rot_of, lsh_of, ashc_of, rotc_of, lshc_of, zeros_of}
use Rattle.its_word.specs.Logic.{boolean_of}
use Rattle.its_word.specs.Flags.{OVERFLOW, NO_DIVIDE}
use Rattle.its_word.specs.declared.result2.Result2.{Result2}
use Rattle.its_word.specs.declared.instruction.Mode.{Mode}
use Rattle.its_word.specs.declared.instruction.Mode.TheVariants.{Basic, Immediate, Memory, Both}
use Rattle.its_word.specs.declared.instruction.ArithmeticOp.{ArithmeticOp}
use Rattle.its_word.specs.declared.instruction.ArithmeticOp.TheVariants.{Add, Sub, Imul, Mul, Idiv, Div}
use Rattle.its_word.specs.declared.instruction.BooleanOp.{BooleanOp}
use Rattle.its_word.specs.declared.instruction.BooleanOp.TheVariants.{Setz, Seta, Setca, Seto}
use Rattle.its_word.specs.declared.instruction.ShiftOp.{ShiftOp}
use Rattle.its_word.specs.declared.instruction.ShiftOp.TheVariants.{Ash, Rot, Lsh, Jffo, Ashc, Rotc, Lshc}
use Rattle.its_word.specs.declared.plan.Context.{Context}
use Rattle.its_word.specs.declared.plan.Plan.{Plan}
use Rattle.its_word.specs.declared.plan.Store.{Store}
use Rattle.std.specs.Prelude.{List}
use Rattle.its_plain.specs.Unit.Plans.{Planned, given, ac, next_ac, next_a, to, next, jump, worked_from, worked_to, two_to}

-- one result, or two
abbrev pub one_result : Context → Mode → Result2 → Plan
one_result x m r = next x (worked_to x m r.first) r.flags

abbrev pub two_results : Context → Mode → Result2 → Plan
two_results x m r = next x (two_to x m r.first r.second) r.flags

-- a refused division sets overflow and no divide and changes no operand. If its mode stores in
-- C(E), that reference nevertheless happens, and leaves C(E) as it is
unfoldable pub refused_to : Context → Mode → ℕ → List Store
refused_to x Basic s = []
refused_to x Immediate s = []
refused_to x Memory s = to x.e s ∷ []
refused_to x Both s = to x.e s ∷ []

unfoldable pub quotient : Context → Mode → ℕ → Option Result2 → Plan
quotient x m s (Some r) = two_results x m r
quotient x m s None = next x (refused_to x m s) (OVERFLOW + NO_DIVIDE)

-- 270 to 277 and 220 to 237, four opcodes a row, one of each mode
-- ADD    ADDI   ADDM   ADDB   SUB    SUBI   SUBM   SUBB
-- IMUL   IMULI  IMULM  IMULB  MUL    MULI   MULM   MULB
-- IDIV   IDIVI  IDIVM  IDIVB  DIV    DIVI   DIVM   DIVB
unfoldable pub worked : Core → Context → ArithmeticOp → Mode → ℕ → Plan
worked c x Add m s = one_result x m (add_of (ac c x) s)
worked c x Sub m s = one_result x m (sub_of (ac c x) s)
worked c x Imul m s = one_result x m (imul_of (ac c x) s)
worked c x Mul m s = two_results x m (mul_of (ac c x) s)
worked c x Idiv m s = quotient x m s (idiv_of (ac c x) s)
worked c x Div m s = quotient x m s (div_of (ac c x) (next_ac c x) s)

unfoldable pub arithmetic_row : Core → Context → ArithmeticOp → Mode → Planned
arithmetic_row c x op m = given (worked_from c x m) (λ s. Ok (worked c x op m s))

-- shifts, by the count E: of AC, or of AC and AC+1
abbrev pub one_shifted : Context → Result2 → Plan
one_shifted x r = next x (to x.a r.first ∷ []) r.flags

abbrev pub two_shifted : Context → Result2 → Plan
two_shifted x r = next x (to x.a r.first ∷ to (next_a x) r.second ∷ []) r.flags

-- 240 ASH, 241 ROT, 242 LSH; 243 JFFO: the zeros before AC's first one to AC+1, and a jump if there
-- is a one; 244 ASHC, 245 ROTC, 246 LSHC
unfoldable pub shift_row : Core → Context → ShiftOp → Planned
shift_row c x Ash = Ok (one_shifted x (ash_of x.e (ac c x)))
shift_row c x Rot = Ok (one_shifted x (rot_of x.e (ac c x)))
shift_row c x Lsh = Ok (one_shifted x (lsh_of x.e (ac c x)))
shift_row c x Jffo = Ok (jump x (to (next_a x) (zeros_of (ac c x)) ∷ []) 0 (not (ac c x == 0)))
shift_row c x Ashc = Ok (two_shifted x (ashc_of x.e (ac c x) (next_ac c x)))
shift_row c x Rotc = Ok (two_shifted x (rotc_of x.e (ac c x) (next_ac c x)))
shift_row c x Lshc = Ok (two_shifted x (lshc_of x.e (ac c x) (next_ac c x)))

-- SETZ, SETA, SETCA and SETO, which do not use the source
abbrev pub is_constant : BooleanOp → Bool
is_constant Setz = true
is_constant Seta = true
is_constant Setca = true
is_constant Seto = true
is_constant _ = false

-- 400 to 477, four opcodes a row, one of each mode; in mode Basic those four do not read C(E)
-- SETZ   SETZI  SETZM  SETZB  AND    ANDI   ANDM   ANDB
-- ANDCA  ANDCAI ANDCAM ANDCAB SETM   SETMI  SETMM  SETMB
-- ANDCM  ANDCMI ANDCMM ANDCMB SETA   SETAI  SETAM  SETAB
-- XOR    XORI   XORM   XORB   IOR    IORI   IORM   IORB
-- ANDCB  ANDCBI ANDCBM ANDCBB EQV    EQVI   EQVM   EQVB
-- SETCA  SETCAI SETCAM SETCAB ORCA   ORCAI  ORCAM  ORCAB
-- SETCM  SETCMI SETCMM SETCMB ORCM   ORCMI  ORCMM  ORCMB
-- ORCB   ORCBI  ORCBM  ORCBB  SETO   SETOI  SETOM  SETOB
unfoldable pub boolean_row : Core → Context → BooleanOp → Mode → Planned
boolean_row c x op m =
    if is_constant op && is_basic m then Ok (next x (worked_to x m (boolean_of op (ac c x) 0)) 0)
    else given (worked_from c x m) (λ s. Ok (next x (worked_to x m (boolean_of op (ac c x) s)) 0))
  where
    is_basic : Mode → Bool
    is_basic Basic = true
    is_basic Immediate = false
    is_basic Memory = false
    is_basic Both = false
