-- The page that a slot has reserved: whether there is one, and its quarters.
use Rattle.std.specs.Prelude.{if◌then◌else◌, ◌≡◌, ℕ, ◌+◌, Option, Some, None, option_map, refl}
use Rattle.std.proofs.Common.{◌∙◌, ap, eq-eqb}
use Rattle.its_core.specs.Cores.{Cores, Reserved, clear_at, clear_with}
use Rattle.its_core.specs.Frames.{Frames, frames_reserve}
use Rattle.its_world.specs.World.{frames_after}

unmapped : (o : Option Reserved) → option_map (λ r. r.clear) o ≡ None → o ≡ None
unmapped None h = refl
unmapped (Some r) h = cc

pub quarter_cleared : (c : Cores) (s q : ℕ) → clear_at c s ≡ Some q → option_map (clear_with q) (clear_at c s) ≡ Some (q + 1)
quarter_cleared c s q h = ap (option_map (clear_with q)) h ∙ ap (λ b. Some (if b then q + 1 else q)) (eq-eqb q q refl)

-- its frame is the first free one, and stays as its quarters are cleared
pub frames_reserved : (o : Option ℕ) (n s : ℕ) (f : Frames) → o ≡ None → frames_after o (Some n) s f ≡ frames_reserve s f
frames_reserved None n s f h = refl
frames_reserved (Some k) n s f h = cc

pub frames_cleared : (o : Option ℕ) (q n s : ℕ) (f : Frames) → o ≡ Some q → frames_after o (Some n) s f ≡ f
frames_cleared (Some k) q n s f h = refl
frames_cleared None q n s f h = cc
