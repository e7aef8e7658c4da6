-- The opcodes, bits 0 to 8 of an instruction word (processor reference manual, "User operations").
-- A promise rests on this.
use Rattle.std.specs.Prelude.{if◌then◌else◌, ◌==◌, ◌<◌, ℕ, ◌+◌, ◌*◌, ◌/◌, ◌%◌, ◌^◌, List, [], ◌∷◌, slice_get, unwrap_or}
use Rattle.its_word.specs.declared.instruction.Instruction.{Instruction}
use Rattle.its_word.specs.declared.instruction.Instruction.TheVariants.{Move, Exch, Arithmetic, Shift, Branch, Xct, Stack, Compare, Boolean, Half, Test, Byte, Iot, Call, Break, Illegal}
use Rattle.its_word.specs.declared.instruction.Mode.{Mode}
use Rattle.its_word.specs.declared.instruction.Mode.TheVariants.{Basic, Immediate, Memory, Both}
use Rattle.its_word.specs.declared.instruction.MoveOp.TheVariants.{Plain, Swap, Negate, Magnitude}
use Rattle.its_word.specs.declared.instruction.ArithmeticOp.TheVariants.{Add, Sub, Imul, Mul, Idiv, Div}
use Rattle.its_word.specs.declared.instruction.ShiftOp.TheVariants.{Ash, Rot, Lsh, Jffo, Ashc, Rotc, Lshc}
use Rattle.its_word.specs.declared.instruction.BranchOp.TheVariants.{Blt, Aobjp, Aobjn, Jrst, Jfcl}
use Rattle.its_word.specs.declared.instruction.StackOp.TheVariants.{Pushj, Push, Pop, Popj, Jsr, Jsp, Jsa, Jra}
use Rattle.its_word.specs.declared.instruction.CompareOp.TheVariants.{Cai, Cam, Jump, Skip, Aoj, Aos, Soj, Sos}
use Rattle.its_word.specs.declared.instruction.BooleanOp.{BooleanOp}
use Rattle.its_word.specs.declared.instruction.BooleanOp.TheVariants.{Setz, And, Andca, Setm, Andcm, Seta, Xor, Ior, Andcb, Eqv, Setca, Orca, Setcm, Orcm, Orcb, Seto}
use Rattle.its_word.specs.declared.instruction.Condition.{Condition}
use Rattle.its_word.specs.declared.instruction.Condition.TheVariants.{Never, L, E, Le, A, Ge, N, G}
use Rattle.its_word.specs.declared.instruction.SkipWhen.{SkipWhen}
use Rattle.its_word.specs.declared.instruction.SkipWhen.TheVariants.{NoSkip, AllZero, Always, NotAllZero}
use Rattle.its_word.specs.declared.instruction.Modify.{Modify}
use Rattle.its_word.specs.declared.instruction.Modify.TheVariants.{Unmodified, Zeros, Complement, Ones}
use Rattle.its_word.specs.declared.instruction.MaskOp.{MaskOp}
use Rattle.its_word.specs.declared.instruction.MaskOp.TheVariants.{Tr, Tl, Td, Ts}
use Rattle.its_word.specs.declared.instruction.ByteOp.TheVariants.{Ibp, Ildb, Ldb, Idpb, Dpb}

-- the opcode, and A, bits 9 to 12
abbrev pub opcode_of : ℕ → ℕ
opcode_of w = w / 2 ^ 27

abbrev pub ac_of : ℕ → ℕ
ac_of w = w / 2 ^ 23 % 16

-- the entry of a table at a place, or another past its end
abbrev pub entry_or : {X : Type 0} → X → List X → ℕ → X
entry_or other table k = unwrap_or (slice_get table k) other

abbrev pub entry : List Instruction → ℕ → Instruction
entry table k = entry_or Illegal table k

-- the modes of four opcodes in a row
unfoldable pub mode_of : ℕ → Mode
mode_of op = entry_or Basic (Basic ∷ Immediate ∷ Memory ∷ Both ∷ []) (op % 4)

-- 040 .IOT, 043 .CALL, 045 .BREAK
unfoldable pub monitor_opcode : ℕ → Instruction
monitor_opcode op = if op == 0o40 then Iot else (if op == 0o43 then Call else (if op == 0o45 then Break else Illegal))

-- 133 IBP, 134 ILDB, 135 LDB, 136 IDPB, 137 DPB
unfoldable pub byte_opcode : ℕ → Instruction
byte_opcode op =
    if op == 0o133 then Byte Ibp
    else (if op == 0o134 then Byte Ildb
    else (if op == 0o135 then Byte Ldb
    else (if op == 0o136 then Byte Idpb
    else (if op == 0o137 then Byte Dpb else Illegal))))

-- 240 to 246: ASH, ROT, LSH, JFFO, ASHC, ROTC, LSHC
unfoldable pub shift_opcode : ℕ → Instruction
shift_opcode op =
    entry
    (Shift Ash ∷ Shift Rot ∷ Shift Lsh ∷ Shift Jffo ∷ Shift Ashc ∷ Shift Rotc ∷ Shift Lshc ∷ Illegal ∷ [])
    (op % 8)

-- 250 to 256: EXCH, BLT, AOBJP, AOBJN, JRST, JFCL, XCT
unfoldable pub branch_opcode : ℕ → Instruction
branch_opcode op =
    entry
    (Exch ∷ Branch Blt ∷ Branch Aobjp ∷ Branch Aobjn ∷ Branch Jrst ∷ Branch Jfcl ∷ Xct ∷ Illegal ∷ [])
    (op % 8)

-- 260 to 267: PUSHJ, PUSH, POP, POPJ, JSR, JSP, JSA, JRA
unfoldable pub stack_opcode : ℕ → Instruction
stack_opcode op =
    entry
    (Stack Pushj ∷ Stack Push ∷ Stack Pop ∷ Stack Popj ∷ Stack Jsr ∷ Stack Jsp ∷ Stack Jsa ∷ Stack Jra ∷ [])
    (op % 8)

-- 200 to 277, four opcodes a row, one of each mode; 240 to 267 are the three tables above
-- MOVE   MOVEI  MOVEM  MOVES  MOVS   MOVSI  MOVSM  MOVSS
-- MOVN   MOVNI  MOVNM  MOVNS  MOVM   MOVMI  MOVMM  MOVMS
-- IMUL   IMULI  IMULM  IMULB  MUL    MULI   MULM   MULB
-- IDIV   IDIVI  IDIVM  IDIVB  DIV    DIVI   DIVM   DIVB
-- ADD    ADDI   ADDM   ADDB   SUB    SUBI   SUBM   SUBB
unfoldable pub full_word_opcode : ℕ → Instruction
full_word_opcode op =
    entry
    (Move Plain (mode_of op)
    ∷ Move Swap (mode_of op)
    ∷ Move Negate (mode_of op)
    ∷ Move Magnitude (mode_of op)
    ∷ Arithmetic Imul (mode_of op)
    ∷ Arithmetic Mul (mode_of op)
    ∷ Arithmetic Idiv (mode_of op)
    ∷ Arithmetic Div (mode_of op)
    ∷ shift_opcode op
    ∷ shift_opcode op
    ∷ branch_opcode op
    ∷ branch_opcode op
    ∷ stack_opcode op
    ∷ stack_opcode op
    ∷ Arithmetic Add (mode_of op)
    ∷ Arithmetic Sub (mode_of op)
    ∷ [])
    (op / 4 % 16)

-- the condition of a comparison: the low digit of its opcode
abbrev pub condition_for : ℕ → Condition
condition_for op = entry_or Never (Never ∷ L ∷ E ∷ Le ∷ A ∷ Ge ∷ N ∷ G ∷ []) (op % 8)

-- 300 to 377, eight opcodes a row, one of each condition, which is the low digit
-- CAI    CAIL   CAIE   CAILE  CAIA   CAIGE  CAIN   CAIG
-- CAM    CAML   CAME   CAMLE  CAMA   CAMGE  CAMN   CAMG
-- JUMP   JUMPL  JUMPE  JUMPLE JUMPA  JUMPGE JUMPN  JUMPG
-- SKIP   SKIPL  SKIPE  SKIPLE SKIPA  SKIPGE SKIPN  SKIPG
-- AOJ    AOJL   AOJE   AOJLE  AOJA   AOJGE  AOJN   AOJG
-- AOS    AOSL   AOSE   AOSLE  AOSA   AOSGE  AOSN   AOSG
-- SOJ    SOJL   SOJE   SOJLE  SOJA   SOJGE  SOJN   SOJG
-- SOS    SOSL   SOSE   SOSLE  SOSA   SOSGE  SOSN   SOSG
unfoldable pub compare_opcode : ℕ → Instruction
compare_opcode op = Compare (entry_or Cai (Cai ∷ Cam ∷ Jump ∷ Skip ∷ Aoj ∷ Aos ∷ Soj ∷ Sos ∷ []) (op / 8 % 8)) (condition_for op)

-- 600 + 20c + 10g + 2k + h: g 0 h 0 TR, g 0 h 1 TL, g 1 h 0 TD, g 1 h 1 TS
unfoldable pub mask_of : ℕ → MaskOp
mask_of op = entry_or Tr (Tr ∷ Tl ∷ Td ∷ Ts ∷ []) (op / 8 % 2 * 2 + op % 2)

-- when a test skips
abbrev pub skip_for : ℕ → SkipWhen
skip_for op = entry_or NoSkip (NoSkip ∷ AllZero ∷ Always ∷ NotAllZero ∷ []) (op / 2 % 4)

-- what a test does to the masked bits
abbrev pub modify_for : ℕ → Modify
modify_for op = entry_or Unmodified (Unmodified ∷ Zeros ∷ Complement ∷ Ones ∷ []) (op / 16 % 4)

-- 600 to 677
-- TRN    TLN    TRNE   TLNE   TRNA   TLNA   TRNN   TLNN
-- TDN    TSN    TDNE   TSNE   TDNA   TSNA   TDNN   TSNN
-- TRZ    TLZ    TRZE   TLZE   TRZA   TLZA   TRZN   TLZN
-- TDZ    TSZ    TDZE   TSZE   TDZA   TSZA   TDZN   TSZN
-- TRC    TLC    TRCE   TLCE   TRCA   TLCA   TRCN   TLCN
-- TDC    TSC    TDCE   TSCE   TDCA   TSCA   TDCN   TSCN
-- TRO    TLO    TROE   TLOE   TROA   TLOA   TRON   TLON
-- TDO    TSO    TDOE   TSOE   TDOA   TSOA   TDON   TSON
unfoldable pub test_opcode : ℕ → Instruction
test_opcode op = Test (mask_of op) (skip_for op) (modify_for op)

-- the Boolean functions, four opcodes each
abbrev pub boolean_for : ℕ → BooleanOp
boolean_for op =
    entry_or
    Setz
    (Setz ∷ And ∷ Andca ∷ Setm
    ∷ Andcm ∷ Seta ∷ Xor ∷ Ior
    ∷ Andcb ∷ Eqv ∷ Setca ∷ Orca
    ∷ Setcm ∷ Orcm ∷ Orcb ∷ Seto
    ∷ [])
    (op / 4 % 16)

-- all opcodes by their first digit. 100 to 177 have bytes alone. 400 to 477 are the Boolean
-- functions and 500 to 577 the half words, four opcodes a row, one of each mode
-- SETZ   SETZI  SETZM  SETZB  AND    ANDI   ANDM   ANDB
-- ANDCA  ANDCAI ANDCAM ANDCAB SETM   SETMI  SETMM  SETMB
-- ANDCM  ANDCMI ANDCMM ANDCMB SETA   SETAI  SETAM  SETAB
-- XOR    XORI   XORM   XORB   IOR    IORI   IORM   IORB
-- ANDCB  ANDCBI ANDCBM ANDCBB EQV    EQVI   EQVM   EQVB
-- SETCA  SETCAI SETCAM SETCAB ORCA   ORCAI  ORCAM  ORCAB
-- SETCM  SETCMI SETCMM SETCMB ORCM   ORCMI  ORCMM  ORCMB
-- ORCB   ORCBI  ORCBM  ORCBB  SETO   SETOI  SETOM  SETOB
-- HLL    HLLI   HLLM   HLLS   HRL    HRLI   HRLM   HRLS
-- HLLZ   HLLZI  HLLZM  HLLZS  HRLZ   HRLZI  HRLZM  HRLZS
-- HLLO   HLLOI  HLLOM  HLLOS  HRLO   HRLOI  HRLOM  HRLOS
-- HLLE   HLLEI  HLLEM  HLLES  HRLE   HRLEI  HRLEM  HRLES
-- HRR    HRRI   HRRM   HRRS   HLR    HLRI   HLRM   HLRS
-- HRRZ   HRRZI  HRRZM  HRRZS  HLRZ   HLRZI  HLRZM  HLRZS
-- HRRO   HRROI  HRROM  HRROS  HLRO   HLROI  HLROM  HLROS
-- HRRE   HRREI  HRREM  HRRES  HLRE   HLREI  HLREM  HLRES
unfoldable pub instruction_of : ℕ → Instruction
instruction_of op =
    entry
    (monitor_opcode op
    ∷ byte_opcode op
    ∷ full_word_opcode op
    ∷ compare_opcode op
    ∷ Boolean (boolean_for op) (mode_of op)
    ∷ Half (op / 4 % 16) (mode_of op)
    ∷ test_opcode op
    ∷ Illegal
    ∷ [])
    (op / 64)

-- the number of a half move is one of its table
abbrev pub IsRow : Instruction → Type 0
IsRow (Half k m) = k < 16
IsRow _ = Unit {0}
