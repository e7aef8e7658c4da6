-- The effect of the lines on files on the second machine.
-- No promise rests on this.
use Rattle.std.specs.Prelude.{◌≡◌, ℕ, Result, Ok}
use Rattle.its_records.specs.declared.session.Reason.{Reason}
use Rattle.its_plain.specs.Machine.{Machine}
use Rattle.its_plain.specs.Operator.{nobody}
use Rattle.its_direct.specs.Plain.{machine_of, is_touched}
use Rattle.its_direct.specs.declared.plain.Plain.{Plain}
use Rattle.its_direct.specs.declared.plain.Spot.{Spot}

-- a line that changes the machine and touches nobody, and after which the next line is at this
-- place
pub record Leads (old new : Plain) (at : Spot) (r : Result Machine Reason) : Type 0 where
  pub is : r ≡ Ok (machine_of new)
  pub touched : (k : ℕ) → is_touched new k ≡ nobody k
  pub place : new.place ≡ at
