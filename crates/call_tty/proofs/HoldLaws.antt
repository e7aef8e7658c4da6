-- What a call sees of who holds a console.
use Rattle.std.specs.Prelude.{◌≡◌, ℕ, Option, Some, None, refl}
use Rattle.its_records.specs.declared.calls.Ask.{Ask}
use Rattle.its_records.specs.declared.jobs.Job.{Job}
use Rattle.its_plain.specs.Call.Tty.{can_take, is_holder}
use Rattle.its_plain.specs.Machine.View.{view}
use Rattle.its_world.specs.World.{state_of}
use Rattle.its_world.specs.declared.world.World.{World}
use Rattle.call_basic.specs.Seen.{seen_by}
use Rattle.call_tty.specs.Holding.{holds, may_take}

pub takes : (w : World) (s : ℕ) (j : Job) (a : Ask) (o : Option ℕ) → may_take w s o ≡ can_take (seen_by w s j a) o
unfolding view state_of
takes w s j a None = refl
takes w s j a (Some h) = refl

pub holds_it : (w : World) (s : ℕ) (j : Job) (a : Ask) (o : Option ℕ) → holds s o ≡ is_holder (seen_by w s j a) o
unfolding view state_of
holds_it w s j a None = refl
holds_it w s j a (Some h) = refl
