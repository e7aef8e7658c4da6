-- The pending parts of a marked close, performed by another call: the plain machine has them
-- already.
use Rattle.std.specs.Prelude.{◌≡◌, ℕ, Bool, true, false, None, refl}
use Rattle.its_stepped.specs.State.{State, after_help, plain}
use Rattle.its_stepped.specs.Unwind.{help}
use Rattle.its_stepped.specs.Tick.{after_help_if}
use Rattle.its_stepped.specs.Sound.{Sound}
use Rattle.its_stepped.proofs.Unwinding.RowLaws.{Shares}
use Rattle.its_stepped.specs.SlotSame.{SlotSame}
use Rattle.its_stepped.proofs.Unwinding.UnwindLaws.{slot_same, shares_same}

pub help_plain : (w : State) → plain (help w) ≡ plain w
unfolding plain help after_help
help_plain w = refl

pub help_sound : (w : State) → Sound w → Sound (help w)
unfolding help
help_sound w s = record { each = s.each; mark = tt }

-- every slot stays as it was
pub help_others : (w : State) (k : ℕ) → SlotSame w (help w) k
unfolding help
help_others w k = record { job = refl; frame = refl; page = refl }

pub help_shared : (w : State) → Shares w (help w)
unfolding help after_help
help_shared w = record { consoles = refl; holders = refl; clock = refl; version = refl; symbols = refl; links = refl; files = refl }

pub help_unmarked : (w : State) → (help w).mark ≡ None
unfolding help
help_unmarked w = refl

-- the plain machine is the same whether help is given or not
pub helped_if_plain : (b : Bool) (w : State) → plain (after_help_if b w) ≡ plain w
helped_if_plain true w = help_plain w
helped_if_plain false w = refl

pub helped_if_sound : (b : Bool) (w : State) → Sound w → Sound (after_help_if b w)
helped_if_sound true w s = help_sound w s
helped_if_sound false w s = s

pub helped_if_others : (b : Bool) (w : State) (k : ℕ) → SlotSame w (after_help_if b w) k
helped_if_others true w k = help_others w k
helped_if_others false w k = slot_same w k

pub helped_if_shared : (b : Bool) (w : State) → Shares w (after_help_if b w)
helped_if_shared true w = help_shared w
helped_if_shared false w = shares_same w

pub helped_if_unmarked : (b : Bool) (w : State) → b ≡ true → (after_help_if b w).mark ≡ None
helped_if_unmarked true w e = help_unmarked w
helped_if_unmarked false w e = cc
