-- Why a call can have to wait, and when it has to (docs/CALLS.md, "Waiting"). A call that can wait
-- has one reason for it. Its name, what its channel is on and its job's console determine the
-- reason, and nothing else.
-- No promise rests on this.
use Rattle.std.specs.Prelude.{◌&&◌, ◌||◌, ℕ, ◌-◌, ◌^◌, Bool, true, false, not, Option, Some, None, nat_lt, length, unwrap_or}
use Rattle.its_word.specs.Console.{most_waiting}
use Rattle.its_records.specs.declared.calls.Ask.{Ask}
use Rattle.its_frame.specs.declared.decision.Wait.{Wait}
use Rattle.its_frame.specs.declared.decision.Wait.TheVariants.{Hang, Clock, Input, Output, Drained, Empty, Room}
use Rattle.its_frame.specs.declared.name.CallName.{CallName}
use Rattle.its_frame.specs.declared.name.CallName.TheVariants as calls
use Rattle.its_plain.specs.Machine.{Chan, TtyIn, TtyOut, Linked, Console, Pipe, Whole, Machine}
use Rattle.its_plain.specs.Call.Arguments.{input}
use Rattle.its_plain.specs.Call.Basic.{is_negative, channel_at}
use Rattle.its_plain.specs.Call.Tty.{is_empty, is_other}
use Rattle.its_plain.specs.Call.Link.{is_dry, is_crowded}
use Rattle.its_plain.specs.Call.Decide.{call_named}

-- what a call that waits looks at: consoles, who holds them, the clock, and links
pub record Doors : Type 0 where
  pub consoles : ℕ → Console
  pub holders : ℕ → Option ℕ
  pub clock : ℕ
  pub links : ℕ → Option Pipe

abbrev pub doors : Machine → Doors
doors m = record { consoles = m.consoles; holders = m.holders; clock = m.clock; links = m.links }

-- the call of slot k, whose first argument is n, has to wait for this reason: HANG always; a
-- sleeper until its time has come; a reader while no byte waits or another job holds the console; a
-- writer while 64 bytes wait or another job holds it; FINISH and LISTEN while a byte is left to be
-- drained; a reader of a link while it has no word and can still get one; a writer to a link while
-- it has 64 words and can still lose one
abbrev pub held_up : Doors → ℕ → ℕ → Wait → Bool
held_up d k n Hang = true
held_up d k n Clock = is_negative n && nat_lt d.clock (2 ^ 36 - n)
held_up d k n (Input c) = is_empty (d.consoles c).input || is_other k (d.holders c)
held_up d k n (Output c) = not (nat_lt (length (d.consoles c).output) most_waiting) || is_other k (d.holders c)
held_up d k n (Drained c) = not (is_empty (d.consoles c).output)
held_up d k n (Empty l) = is_dry (d.links l)
held_up d k n (Room l) = is_crowded (d.links l)

-- the reason of a transfer, of FINISH and of LISTEN, whose channel is on something, at a job with
-- this console
abbrev pub of_transfer : ℕ → Chan → Option Wait
of_transfer c TtyIn = Some (Input c)
of_transfer c TtyOut = Some (Output c)
of_transfer c (Linked l false) = Some (Empty l)
of_transfer c (Linked l true) = Some (Room l)
of_transfer c _ = None

abbrev pub of_finish : ℕ → Chan → Option Wait
of_finish c TtyOut = Some (Drained c)
of_finish c _ = None

abbrev pub of_listen : ℕ → Chan → Option Wait
of_listen c TtyIn = Some (Drained c)
of_listen c TtyOut = Some (Drained c)
of_listen c _ = None

-- the one reason for which a call can have to wait
abbrev pub reason_by : ℕ → Chan → Option CallName → Option Wait
reason_by c on (Some calls.Hang) = Some Hang
reason_by c on (Some calls.Sleep) = Some Clock
reason_by c on (Some calls.Iot) = of_transfer c on
reason_by c on (Some calls.Siot) = of_transfer c on
reason_by c on (Some calls.Finish) = of_finish c on
reason_by c on (Some calls.Listen) = of_listen c on
reason_by c on _ = None

abbrev pub reason_in : Whole → Ask → Option Wait
reason_in q a = reason_by (unwrap_or q.job.console 0) (channel_at q.channels (input a 0)) (call_named a.name)
