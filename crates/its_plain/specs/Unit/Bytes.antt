-- Byte instructions (processor reference manual, "Byte manipulation").
-- A promise rests on this.
use Rattle.std.specs.Prelude.{if◌then◌else◌, ℕ, [], ◌∷◌, Result, Ok, Err, ok_or, bit_or}
use Rattle.its_word.specs.Core.{Core}
use Rattle.its_word.specs.Address.{address}
use Rattle.its_word.specs.Byte.{has_size, increment_of, load_of, deposit_of}
use Rattle.its_word.specs.declared.access.Fault.{Fault}
use Rattle.its_word.specs.declared.access.Fault.TheVariants.{Ilo}
use Rattle.its_word.specs.Flags.{BYTE_HALF}
use Rattle.its_word.specs.declared.instruction.ByteOp.{ByteOp}
use Rattle.its_word.specs.declared.instruction.ByteOp.TheVariants.{Ibp, Ildb, Ldb, Idpb, Dpb}
use Rattle.its_word.specs.declared.plan.Context.{Context}
use Rattle.its_plain.specs.Unit.Plans.{Planned, given, read_of, ac, to, is_on, next}

-- the pointer to the next byte; a size of 0 or above 36 is ILO
unfoldable pub incremented : ℕ → Result ℕ Fault
incremented p = ok_or (increment_of p) Ilo

-- the address of a pointer's word, under what is left of the budget; a size of 0 or above 36 is ILO
-- before
unfoldable pub pointed_to : Core → Context → ℕ → Result ℕ Fault
pointed_to c x p = if has_size p then given (address c p x.used).answer (λ b. Ok b.e) else Err Ilo

-- LDB: the byte to AC; DPB: the low S bits of AC to the byte
unfoldable pub loads : Core → Context → ℕ → Planned
loads c x p = given (pointed_to c x p) (λ b. given (read_of c b) (λ w. Ok (next x (to x.a (load_of p w) ∷ []) 0)))

unfoldable pub deposits : Core → Context → ℕ → Planned
deposits c x p =
    given (pointed_to c x p) (λ b. given (read_of c b) (λ w. Ok (next x (to b (deposit_of p w (ac c x)) ∷ []) 0)))

-- the first half of ILDB and IDPB: the pointer is incremented and first part done set; PC stays
unfoldable pub first_half : Context → ℕ → Planned
first_half x p =
    given
    (incremented p)
    (λ q. Ok (record {
      stores = record { items = to x.e q ∷ [] };
      pc = x.pc;
      flags = bit_or x.flags BYTE_HALF;
      pending = 0;
    }))

-- 133 IBP, 134 ILDB, 135 LDB, 136 IDPB, 137 DPB, of the pointer C(E)
unfoldable pub byte_by : Core → Context → ByteOp → ℕ → Planned
byte_by c x Ibp p = given (incremented p) (λ q. Ok (next x (to x.e q ∷ []) 0))
byte_by c x Ildb p = if is_on x.flags BYTE_HALF then loads c x p else first_half x p
byte_by c x Ldb p = loads c x p
byte_by c x Idpb p = if is_on x.flags BYTE_HALF then deposits c x p else first_half x p
byte_by c x Dpb p = deposits c x p

unfoldable pub byte_row : Core → Context → ByteOp → Planned
byte_row c x op = given (read_of c x.e) (λ p. byte_by c x op p)
