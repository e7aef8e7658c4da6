-- When what follows a session may follow its checkpoint, which leads to the same machine.
-- No promise rests on this.
use Rattle.std.specs.Prelude.{◌≡◌, ◌≤◌, ℕ}
use Rattle.its_records.specs.declared.session.Place.{Place}
use Rattle.its_records.specs.declared.session.Place.TheVariants as places
pub use Rattle.its_session.specs.Fits.{ReadAt}
use Rattle.its_plain.specs.Operator.{Block}
use Rattle.its_plain.specs.Transcript.{Walk}

-- inside a block, the same block; and in the state part, whose lines are about both
abbrev pub BlockAlike : Place → Block → Block → Type 0
BlockAlike places.Load b c = c.slot ≡ b.slot
BlockAlike places.File b c = c.file ≡ b.file
BlockAlike places.System b c = c ≡ b
BlockAlike _ b c = Unit {0}

-- at this place of a session, walk w has the machine and the block of walk v, and no slot has more
-- dots than there
pub record NoMoreDots (p : Place) (v w : Walk) : Type 0 where
  pub machine : w.machine ≡ v.machine
  pub dots : (k : ℕ) → w.dots k ≤ v.dots k
  pub block : BlockAlike p v.block w.block
