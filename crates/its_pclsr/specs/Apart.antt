-- The cores of slots: what unwinding a slot leaves of all others, and of the frames of pages.
-- No promise rests on this.
use Rattle.std.specs.Prelude.{◌≡◌, ◌≢◌, ℕ, None}
use Rattle.its_core.specs.Cores.{core_at, clear_at}
use Rattle.its_world.specs.World.{frames_after}
use Rattle.its_world.specs.declared.world.World.{World}

-- the cores of all slots but one are the same; and each page stays in its frame, but that the page
-- which the slot has reserved may be given back. None is reserved
pub record CoresOff (old new : World) (s : ℕ) : Type 0 where
  pub others : (k : ℕ) → k ≢ s → core_at new.core k ≡ core_at old.core k
  pub unreserved : clear_at old.core s ≡ None → clear_at new.core s ≡ None
  pub pages : new.core.frames ≡ frames_after (clear_at old.core s) (clear_at new.core s) s old.core.frames
