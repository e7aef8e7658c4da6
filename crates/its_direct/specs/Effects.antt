-- The effect of a change of a call on the second machine.
-- No promise rests on this.
use Rattle.std.specs.Prelude.{◌≡◌, ℕ, Option, Some, None}
use Rattle.its_word.specs.Only.{Only, Same}
use Rattle.its_records.specs.declared.jobs.Channel.{Channel}
use Rattle.its_records.specs.declared.jobs.Job.{Job}
use Rattle.its_core.specs.Cores.{core_at, clear_at}
use Rattle.its_files.specs.Files.{Store}
use Rattle.its_pipes.specs.Pipes.{piped}
use Rattle.its_plain.specs.Machine.{Pipe, Machine}
use Rattle.its_shared.specs.Channels.{OnlyChannel}
use Rattle.its_direct.specs.Contents.{contents}
use Rattle.its_direct.specs.Plain.{machine_of, Tidy}
use Rattle.its_direct.specs.declared.plain.Plain.{Plain}

-- the machine is this one now; the place, and the slots that are marked as touched, are as they
-- were
pub record Becomes (old new : Plain) (m : Machine) : Type 0 where
  pub machine : machine_of new ≡ m
  pub place : new.place ≡ old.place
  pub touched : new.touched ≡ old.touched

-- of the job of slot s, if there is one, only channel n is another; and the store of files is t
pub record ChannelBecomes (old new : Plain) (s n : ℕ) (x : Channel) (t : Store) : Type 0 where
  pub jobs : OnlyChannel old.jobs new.jobs s n x
  pub core : Same (core_at old.core) (core_at new.core)
  pub reserved : Same (clear_at old.core) (clear_at new.core)
  pub rest : contents new ≡ record (contents old) { core = new.core; jobs = new.jobs; files = t }

-- only the store of files is another
pub record OnlyStore (old new : Plain) (t : Store) : Type 0 where
  pub is : contents new ≡ record (contents old) { files = t }

-- only the link of this number is another
pub record LinkBecomes (old new : Plain) (l : ℕ) (o : Option Pipe) : Type 0 where
  pub links : Only (piped old.pipes) (piped new.pipes) l o
  pub rest : contents new ≡ record (contents old) { pipes = new.pipes }

-- the effect of a change: the machine is this one, and no call is in progress
pub record Comes (old new : Plain) (m : Machine) : Type 0 where
  pub row : Becomes old new m
  pub tidy : Tidy new

-- the console of a job
abbrev pub console_of : Option Job → Option ℕ
console_of (Some j) = j.console
console_of None = None
