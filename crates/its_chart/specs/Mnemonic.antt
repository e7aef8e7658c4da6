-- The names of opcodes, a rule for each family (docs/ASM.md, "Mnemonics"; processor reference
-- manual, "User operations").
-- A promise rests on this.
use Rattle.std.specs.Prelude.{ℕ, ◌+◌, ◌/◌, ◌%◌, Bool, false, Option, Some, None, List, [], ◌∷◌, ◌++◌, position, bytes_eq, codes}
use Rattle.its_word.specs.Opcode.{entry_or, instruction_of}
use Rattle.its_word.specs.Table.{table}
use Rattle.its_word.specs.declared.instruction.Instruction.{Instruction}
use Rattle.its_word.specs.declared.instruction.Instruction.TheVariants.{Move, Exch, Arithmetic, Shift, Branch, Xct, Stack, Compare, Boolean, Half, Test, Byte, Iot, Call, Break, Illegal}
use Rattle.its_word.specs.declared.instruction.Mode.{Mode}
use Rattle.its_word.specs.declared.instruction.Mode.TheVariants.{Basic, Immediate, Memory, Both}
use Rattle.its_word.specs.declared.instruction.MoveOp.{MoveOp}
use Rattle.its_word.specs.declared.instruction.MoveOp.TheVariants.{Plain, Swap, Negate, Magnitude}
use Rattle.its_word.specs.declared.instruction.ArithmeticOp.{ArithmeticOp}
use Rattle.its_word.specs.declared.instruction.ArithmeticOp.TheVariants.{Add, Sub, Imul, Mul, Idiv, Div}
use Rattle.its_word.specs.declared.instruction.ShiftOp.{ShiftOp}
use Rattle.its_word.specs.declared.instruction.ShiftOp.TheVariants.{Ash, Rot, Lsh, Jffo, Ashc, Rotc, Lshc}
use Rattle.its_word.specs.declared.instruction.BranchOp.{BranchOp}
use Rattle.its_word.specs.declared.instruction.BranchOp.TheVariants.{Blt, Aobjp, Aobjn, Jrst, Jfcl}
use Rattle.its_word.specs.declared.instruction.StackOp.{StackOp}
use Rattle.its_word.specs.declared.instruction.StackOp.TheVariants.{Pushj, Push, Pop, Popj, Jsr, Jsp, Jsa, Jra}
use Rattle.its_word.specs.declared.instruction.CompareOp.{CompareOp}
use Rattle.its_word.specs.declared.instruction.CompareOp.TheVariants.{Cai, Cam, Jump, Skip, Aoj, Aos, Soj, Sos}
use Rattle.its_word.specs.declared.instruction.BooleanOp.{BooleanOp}
use Rattle.its_word.specs.declared.instruction.BooleanOp.TheVariants.{Setz, And, Andca, Setm, Andcm, Seta, Xor, Ior, Andcb, Eqv, Setca, Orca, Setcm, Orcm, Orcb, Seto}
use Rattle.its_word.specs.declared.instruction.Condition.{Condition}
use Rattle.its_word.specs.declared.instruction.Condition.TheVariants.{Never, L, E, Le, A, Ge, N, G}
use Rattle.its_word.specs.declared.instruction.SkipWhen.{SkipWhen}
use Rattle.its_word.specs.declared.instruction.SkipWhen.TheVariants.{NoSkip, AllZero, Always, NotAllZero}
use Rattle.its_word.specs.declared.instruction.Modify.{Modify}
use Rattle.its_word.specs.declared.instruction.Modify.TheVariants.{Unmodified, Zeros, Complement, Ones}
use Rattle.its_word.specs.declared.instruction.MaskOp.{MaskOp}
use Rattle.its_word.specs.declared.instruction.MaskOp.TheVariants.{Tr, Tl, Td, Ts}
use Rattle.its_word.specs.declared.instruction.ByteOp.{ByteOp}
use Rattle.its_word.specs.declared.instruction.ByteOp.TheVariants.{Ibp, Ildb, Ldb, Idpb, Dpb}

-- place k of a list of texts
abbrev pub text_at : List (List ℕ) → ℕ → List ℕ
text_at texts k = entry_or [] texts k

-- the letter of a mode. The last mode has S (self) in moves and half words, and B (both) in
-- arithmetic and Boolean functions
abbrev pub mode_letter : List ℕ → Mode → List ℕ
mode_letter last Basic = []
mode_letter last Immediate = codes "I"
mode_letter last Memory = codes "M"
mode_letter last Both = last

-- MOVE; swapped S, negated N, magnitude M
abbrev pub move_name : MoveOp → List ℕ
move_name Plain = codes "MOVE"
move_name Swap = codes "MOVS"
move_name Negate = codes "MOVN"
move_name Magnitude = codes "MOVM"

abbrev pub arithmetic_name : ArithmeticOp → List ℕ
arithmetic_name Add = codes "ADD"
arithmetic_name Sub = codes "SUB"
arithmetic_name Imul = codes "IMUL"
arithmetic_name Mul = codes "MUL"
arithmetic_name Idiv = codes "IDIV"
arithmetic_name Div = codes "DIV"

-- the sixteen Boolean functions
abbrev pub boolean_name : BooleanOp → List ℕ
boolean_name Setz = codes "SETZ"
boolean_name And = codes "AND"
boolean_name Andca = codes "ANDCA"
boolean_name Setm = codes "SETM"
boolean_name Andcm = codes "ANDCM"
boolean_name Seta = codes "SETA"
boolean_name Xor = codes "XOR"
boolean_name Ior = codes "IOR"
boolean_name Andcb = codes "ANDCB"
boolean_name Eqv = codes "EQV"
boolean_name Setca = codes "SETCA"
boolean_name Orca = codes "ORCA"
boolean_name Setcm = codes "SETCM"
boolean_name Orcm = codes "ORCM"
boolean_name Orcb = codes "ORCB"
boolean_name Seto = codes "SETO"

-- the left half, or the right one
abbrev pub half_letter : ℕ → List ℕ
half_letter k = text_at (codes "L" ∷ codes "R" ∷ []) (k % 2)

-- what becomes of the other half: it stays, or it is zeros (Z), ones (O) or copies of the sign (E)
abbrev pub rest_letter : ℕ → List ℕ
rest_letter k = text_at ([] ∷ codes "Z" ∷ codes "O" ∷ codes "E" ∷ []) k

-- the sixteen half words, in the order of their opcodes: H, the half that is moved, the half that
-- it goes to, and what becomes of the other half. The first eight go to the left half, and the even
-- ones come from the half that they go to
abbrev pub half_name : ℕ → List ℕ
half_name k =
    codes "H" ++ half_letter (k / 8 + k) ++ half_letter (k / 8) ++ rest_letter (k / 2 % 4)

abbrev pub shift_name : ShiftOp → List ℕ
shift_name Ash = codes "ASH"
shift_name Rot = codes "ROT"
shift_name Lsh = codes "LSH"
shift_name Jffo = codes "JFFO"
shift_name Ashc = codes "ASHC"
shift_name Rotc = codes "ROTC"
shift_name Lshc = codes "LSHC"

abbrev pub branch_name : BranchOp → List ℕ
branch_name Blt = codes "BLT"
branch_name Aobjp = codes "AOBJP"
branch_name Aobjn = codes "AOBJN"
branch_name Jrst = codes "JRST"
branch_name Jfcl = codes "JFCL"

abbrev pub stack_name : StackOp → List ℕ
stack_name Pushj = codes "PUSHJ"
stack_name Push = codes "PUSH"
stack_name Pop = codes "POP"
stack_name Popj = codes "POPJ"
stack_name Jsr = codes "JSR"
stack_name Jsp = codes "JSP"
stack_name Jsa = codes "JSA"
stack_name Jra = codes "JRA"

abbrev pub compare_name : CompareOp → List ℕ
compare_name Cai = codes "CAI"
compare_name Cam = codes "CAM"
compare_name Jump = codes "JUMP"
compare_name Skip = codes "SKIP"
compare_name Aoj = codes "AOJ"
compare_name Aos = codes "AOS"
compare_name Soj = codes "SOJ"
compare_name Sos = codes "SOS"

-- the eight conditions: never, less, equal, less or equal, always, greater or equal, not equal,
-- greater
abbrev pub condition : Condition → List ℕ
condition Never = []
condition L = codes "L"
condition E = codes "E"
condition Le = codes "LE"
condition A = codes "A"
condition Ge = codes "GE"
condition N = codes "N"
condition G = codes "G"

-- the mask of a test: right, left, direct, swapped
abbrev pub mask_letter : MaskOp → List ℕ
mask_letter Tr = codes "R"
mask_letter Tl = codes "L"
mask_letter Td = codes "D"
mask_letter Ts = codes "S"

-- what a test does to the masked bits: no change, zeros, complement, ones
abbrev pub change_letter : Modify → List ℕ
change_letter Unmodified = codes "N"
change_letter Zeros = codes "Z"
change_letter Complement = codes "C"
change_letter Ones = codes "O"

-- when a test skips: never, all masked bits 0, always, not all 0
abbrev pub skip_letter : SkipWhen → List ℕ
skip_letter NoSkip = []
skip_letter AllZero = codes "E"
skip_letter Always = codes "A"
skip_letter NotAllZero = codes "N"

abbrev pub byte_name : ByteOp → List ℕ
byte_name Ibp = codes "IBP"
byte_name Ildb = codes "ILDB"
byte_name Ldb = codes "LDB"
byte_name Idpb = codes "IDPB"
byte_name Dpb = codes "DPB"

-- the name of an instruction, if it is one
abbrev pub name_of : Instruction → Option (List ℕ)
name_of (Move op mode) = Some (move_name op ++ mode_letter (codes "S") mode)
name_of Exch = Some (codes "EXCH")
name_of (Arithmetic op mode) = Some (arithmetic_name op ++ mode_letter (codes "B") mode)
name_of (Shift op) = Some (shift_name op)
name_of (Branch op) = Some (branch_name op)
name_of Xct = Some (codes "XCT")
name_of (Stack op) = Some (stack_name op)
name_of (Compare op c) = Some (compare_name op ++ condition c)
name_of (Boolean op mode) = Some (boolean_name op ++ mode_letter (codes "B") mode)
name_of (Half k mode) = Some (half_name k ++ mode_letter (codes "S") mode)
name_of (Test mask skips modify) = Some (codes "T" ++ mask_letter mask ++ change_letter modify ++ skip_letter skips)
name_of (Byte op) = Some (byte_name op)
name_of Iot = Some (codes ".IOT")
name_of Call = Some (codes ".CALL")
name_of Break = Some (codes ".BREAK")
name_of Illegal = None

-- the name of an opcode, if it has one
unfoldable pub mnemonic_of : ℕ → Option (List ℕ)
mnemonic_of op = name_of (instruction_of op)

-- the names of the opcodes 000 to 777, in order
unfoldable pub names : List (Option (List ℕ))
names = table 512 mnemonic_of

-- whether a text is a name
abbrev pub is_named : List ℕ → Option (List ℕ) → Bool
is_named text None = false
is_named text (Some name) = bytes_eq name text

-- the opcode that a text names
unfoldable pub opcode_named : List ℕ → Option ℕ
opcode_named text = position (is_named text) names
