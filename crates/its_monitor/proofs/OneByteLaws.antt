-- Each byte once: what a tick with the letter of a step does (docs/CALLS.md, "Each byte once").
use Rattle.std.specs.Prelude.{◌≡◌, ℕ}
use Rattle.std.proofs.Common.{subst}
use Rattle.its_records.specs.declared.calls.Pace.{Pace}
use Rattle.its_records.specs.declared.calls.Pace.TheVariants.{Step}
use Rattle.its_plain.specs.Machine.{Machine}
use Rattle.its_plain.specs.Promise.OneByte.{EachByte}
use Rattle.its_stepped.specs.Forest.{Forest}
use Rattle.its_plain.specs.Transcript.Licence.{Licensed}
use Rattle.its_stepped.proofs.Running.OneByteLaws.{each_byte}

pub tick_once : (m n : Machine) (s : ℕ) (p : Pace) → Forest m → Licensed m s p n → p ≡ Step → EachByte m s n
tick_once m n s p forest l e = each_byte m n s forest (subst (λ (k : Pace). Licensed m s k n) e l)
