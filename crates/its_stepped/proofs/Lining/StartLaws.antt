-- The state at the start of a session.
use Rattle.std.specs.Prelude.{◌≡◌, Option, Some, None, option_map, refl}
use Rattle.its_plain.specs.Machine.{Whole, Machine, no_machine}
use Rattle.its_plain.proofs.MachineLaws.{jobs_are}
use Rattle.its_stepped.specs.State.{after_help, seen, plain, no_state}
use Rattle.its_stepped.specs.Sound.{Sound}

pub seen_none : (o : Option Whole) → option_map (seen None) o ≡ o
unfolding seen
seen_none None = refl
seen_none (Some q) = refl

pub no_state_plain : (m : Machine) → plain (no_state m) ≡ m
unfolding plain no_state after_help
no_state_plain m = jobs_are _ _ (λ k. seen_none (m.jobs k)) refl

pub no_state_sound : Sound (no_state no_machine)
unfolding no_state no_machine
no_state_sound = record { each = λ k. record { by = (refl, refl) }; mark = tt }
