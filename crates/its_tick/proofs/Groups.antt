-- Groups of laws, each for the function whose name it has.
use Rattle.its_tick.proofs.BesideLaws.{all_beside}
use Rattle.its_tick.proofs.FramesLaws.{frames_absent, frames_stopped}
use Rattle.its_tick.proofs.StepsLaws.{byte_absent, byte_stopped, due_absent, due_framed, due_stopped}
use Rattle.its_tick.proofs.TickLaws.{pace_ticked, state_ticked, tick_absent, tick_call, tick_delivery, tick_kept, tick_licensed, tick_stopped, tick_unit}
use Rattle.its_tick.proofs.UserLaws.{user_addressed}

pub ruleset go_on_laws = (state_ticked, pace_ticked, tick_licensed, all_beside, tick_kept)

pub ruleset go_on_row_laws = (frames_absent, frames_stopped, tick_absent, tick_stopped, tick_call, tick_delivery, tick_unit)

pub ruleset steps_laws = (user_addressed, due_absent, due_stopped, due_framed, byte_absent, byte_stopped)
