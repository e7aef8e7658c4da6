-- Comparisons, counts and tests (processor reference manual, "Arithmetic testing" and "Logical
-- testing and modification").
-- A promise rests on this.
use Rattle.std.specs.Prelude.{ℕ, ◌-◌, ◌^◌, [], ◌∷◌, Result, Ok}
use Rattle.its_word.specs.Word.{pair_of}
use Rattle.its_word.specs.Core.{Core}
use Rattle.its_word.specs.Arith.{add_of, compares_of}
use Rattle.its_word.specs.Logic.{changed_of, tested_of}
use Rattle.its_word.specs.declared.access.Fault.{Fault}
use Rattle.its_word.specs.declared.result2.Result2.{Result2}
use Rattle.its_word.specs.declared.instruction.CompareOp.{CompareOp}
use Rattle.its_word.specs.declared.instruction.CompareOp.TheVariants.{Cai, Cam, Jump, Skip, Aoj, Aos, Soj, Sos}
use Rattle.its_word.specs.declared.instruction.Condition.{Condition}
use Rattle.its_word.specs.declared.instruction.SkipWhen.{SkipWhen}
use Rattle.its_word.specs.declared.instruction.Modify.{Modify}
use Rattle.its_word.specs.declared.instruction.MaskOp.{MaskOp}
use Rattle.its_word.specs.declared.instruction.MaskOp.TheVariants.{Tr, Tl, Td, Ts}
use Rattle.its_word.specs.declared.plan.Context.{Context}
use Rattle.its_word.specs.declared.plan.Plan.{Plan}
use Rattle.its_plain.specs.Unit.Plans.{Planned, given, read_of, ac, immediate, to, to_ac_but_0, jump, skip}
use Rattle.its_plain.specs.Unit.Moves.{swapped}

-- minus 1
abbrev pub minus_one : ℕ
minus_one = 2 ^ 36 - 1

-- AOJ, SOJ: a sum to AC, and a jump by it; AOS, SOS: to C(E), and to AC if A is not 0, and a skip
-- by it
abbrev pub counts_jump : Context → Condition → Result2 → Plan
counts_jump x k r = jump x (to x.a r.first ∷ []) r.flags (compares_of k r.first 0)

abbrev pub counts_skip : Context → Condition → Result2 → Plan
counts_skip x k r = skip x (to x.e r.first ∷ to_ac_but_0 x r.first) r.flags (compares_of k r.first 0)

-- 300 CAI: AC with 0,,E; 310 CAM: AC with C(E); 320 JUMP: AC with 0; 330 SKIP: C(E), to AC if A is
-- not 0, with 0; 340 AOJ, 360 SOJ: AC plus 1, minus 1, with carries; 350 AOS, 370 SOS: C(E) plus 1,
-- minus 1, with carries. Eight opcodes a row, one of each condition
-- CAI    CAIL   CAIE   CAILE  CAIA   CAIGE  CAIN   CAIG
-- CAM    CAML   CAME   CAMLE  CAMA   CAMGE  CAMN   CAMG
-- JUMP   JUMPL  JUMPE  JUMPLE JUMPA  JUMPGE JUMPN  JUMPG
-- SKIP   SKIPL  SKIPE  SKIPLE SKIPA  SKIPGE SKIPN  SKIPG
-- AOJ    AOJL   AOJE   AOJLE  AOJA   AOJGE  AOJN   AOJG
-- AOS    AOSL   AOSE   AOSLE  AOSA   AOSGE  AOSN   AOSG
-- SOJ    SOJL   SOJE   SOJLE  SOJA   SOJGE  SOJN   SOJG
-- SOS    SOSL   SOSE   SOSLE  SOSA   SOSGE  SOSN   SOSG
unfoldable pub compare_row : Core → Context → CompareOp → Condition → Planned
compare_row c x Cai k = Ok (skip x [] 0 (compares_of k (ac c x) (immediate x)))
compare_row c x Cam k = given (read_of c x.e) (λ w. Ok (skip x [] 0 (compares_of k (ac c x) w)))
compare_row c x Jump k = Ok (jump x [] 0 (compares_of k (ac c x) 0))
compare_row c x Skip k = given (read_of c x.e) (λ w. Ok (skip x (to_ac_but_0 x w) 0 (compares_of k w 0)))
compare_row c x Aoj k = Ok (counts_jump x k (add_of (ac c x) 1))
compare_row c x Aos k = given (read_of c x.e) (λ w. Ok (counts_skip x k (add_of w 1)))
compare_row c x Soj k = Ok (counts_jump x k (add_of (ac c x) minus_one))
compare_row c x Sos k = given (read_of c x.e) (λ w. Ok (counts_skip x k (add_of w minus_one)))

-- the mask: TR 0,,E; TL E,,0; TD C(E); TS C(E) with its halves swapped
unfoldable pub mask_for : Core → Context → MaskOp → Result ℕ Fault
mask_for c x Tr = Ok (immediate x)
mask_for c x Tl = Ok (pair_of x.e 0)
mask_for c x Td = read_of c x.e
mask_for c x Ts = given (read_of c x.e) (λ w. Ok (swapped w))

-- 600 to 677: a skip by AC before the change, and what is done to the masked bits
-- TRN    TLN    TRNE   TLNE   TRNA   TLNA   TRNN   TLNN
-- TDN    TSN    TDNE   TSNE   TDNA   TSNA   TDNN   TSNN
-- TRZ    TLZ    TRZE   TLZE   TRZA   TLZA   TRZN   TLZN
-- TDZ    TSZ    TDZE   TSZE   TDZA   TSZA   TDZN   TSZN
-- TRC    TLC    TRCE   TLCE   TRCA   TLCA   TRCN   TLCN
-- TDC    TSC    TDCE   TSCE   TDCA   TSCA   TDCN   TSCN
-- TRO    TLO    TROE   TLOE   TROA   TLOA   TRON   TLON
-- TDO    TSO    TDOE   TSOE   TDOA   TSOA   TDON   TSON
unfoldable pub test_row : Core → Context → MaskOp → SkipWhen → Modify → Planned
test_row c x op skips modify =
    given (mask_for c x op) (λ m. Ok (skip x (to x.a (changed_of modify (ac c x) m) ∷ []) 0 (tested_of skips (ac c x) m)))
