-- What happens to one job: stores into its core, its registers, its channels and its variables.
-- A promise rests on this.
use Rattle.std.specs.Prelude.{if◌then◌else◌, ◌==◌, ℕ, ◌+◌, ◌%◌, ◌^◌, not, Option, List, [], ◌∷◌, ◌++◌, unwrap_or}
use Rattle.its_word.specs.Word.{right_of}
use Rattle.its_word.specs.Core.{pages_present}
use Rattle.its_records.specs.declared.calls.Exit.{Exit}
use Rattle.its_records.specs.declared.jobs.Job.{Job}
use Rattle.its_word.specs.declared.plan.Store.{Store}
use Rattle.its_word.specs.Flags.{BYTE_HALF}
use Rattle.its_frame.specs.declared.change.Opened.{Opened}
use Rattle.its_frame.specs.declared.change.Opened.TheVariants as opened
use Rattle.its_frame.specs.declared.variable.Variable.{Variable}
use Rattle.its_frame.specs.declared.variable.Variable.TheVariants.{Uname, Jname, Uind, Suppro, Cnsl, Pages, Upc, Ustp, Pirqc, Ifpir, Mask, Msk2, Df1, Df2}
use Rattle.its_plain.specs.Machine.Registers.{pc_word, flags_of}
use Rattle.its_plain.specs.Machine.{Names, Chan, Shut, TtyIn, TtyOut, Reads, Writes, On, Linked, Whole, changed}
use Rattle.its_word.specs.Stores.{stored}
use Rattle.its_plain.specs.Unit.Plans.{without}

-- stores into a job's core, in their order
abbrev pub with_stores : List Store → Whole → Whole
with_stores ss q = record q { core = stored q.core ss }

-- the registers that a job has, and a job with other registers. The stopped mark, the names, the
-- console and the channels are no part of them
abbrev pub exit_of : Job → Exit
exit_of j = record {
  pc = j.pc;
  flags = j.flags;
  pend1 = j.pend1;
  pend2 = j.pend2;
  mask1 = j.mask1;
  mask2 = j.mask2;
  defer1 = j.defer1;
  defer2 = j.defer2;
}

abbrev pub after_exit : Exit → Job → Job
after_exit e j = record j {
  pc = e.pc;
  flags = e.flags;
  pend1 = e.pend1;
  pend2 = e.pend2;
  mask1 = e.mask1;
  mask2 = e.mask2;
  defer1 = e.defer1;
  defer2 = e.defer2;
}

abbrev pub with_registers : (Job → Job) → Whole → Whole
with_registers f q = record q { job = f q.job }

abbrev pub after_leave : Exit → Whole → Whole
after_leave e q = with_registers (after_exit e) q

-- a job whose call is over, PC so many words further; first part done is cleared
abbrev pub with_advance : ℕ → Job → Job
with_advance n j = record j { pc = (j.pc + n) % 2 ^ 18; flags = without j.flags BYTE_HALF }

-- channels
abbrev pub names_of : ℕ → ℕ → ℕ → Names
names_of d x y = d ∷ x ∷ y ∷ []

-- what a channel is on as it is opened
abbrev pub opened_on : Opened → Chan
opened_on opened.TtyIn = TtyIn
opened_on opened.TtyOut = TtyOut
opened_on (opened.Reading d x y) = Reads (names_of d x y) 0
opened_on (opened.Writing d x y) = Writes (record { names = names_of d x y; words = [] })
opened_on (opened.Usr s write) = On s write 0

-- what a channel is on, at another position
abbrev pub at_position : ℕ → Chan → Chan
at_position at (Reads f p) = Reads f at
at_position at (On s write p) = On s write at
at_position at Shut = Shut
at_position at TtyIn = TtyIn
at_position at TtyOut = TtyOut
at_position at (Writes f) = Writes f
at_position at (Linked l write) = Linked l write

-- a draft with one more word
abbrev pub with_word : ℕ → Chan → Chan
with_word w (Writes f) = Writes (record f { words = f.words ++ w ∷ [] })
with_word w Shut = Shut
with_word w TtyIn = TtyIn
with_word w TtyOut = TtyOut
with_word w (Reads f p) = Reads f p
with_word w (On s write p) = On s write p
with_word w (Linked l write) = Linked l write

abbrev pub on_channel : ℕ → (Chan → Chan) → Whole → Whole
on_channel n f q = record q { channels = changed q.channels n (f (q.channels n)) }

-- a number, or ones if there is none
abbrev pub number_or_ones : Option ℕ → ℕ
number_or_ones o = unwrap_or o 0o777777777777

-- the value of a variable of the job in slot s (docs/CALLS.md, "Variables")
unfoldable pub variable_of : ℕ → Whole → Variable → ℕ
variable_of s q Uname = q.job.uname
variable_of s q Jname = q.job.jname
variable_of s q Uind = s
variable_of s q Suppro = number_or_ones q.superior
variable_of s q Cnsl = number_or_ones q.job.console
variable_of s q Pages = pages_present q.core
variable_of s q Upc = pc_word q.job.flags q.job.pc
variable_of s q Ustp = if q.job.stopped then 1 else 0
variable_of s q Pirqc = q.job.pend1
variable_of s q Ifpir = q.job.pend2
variable_of s q Mask = q.job.mask1
variable_of s q Msk2 = q.job.mask2
variable_of s q Df1 = q.job.defer1
variable_of s q Df2 = q.job.defer2

-- registers with a variable set. A new value of USTP other than 0 stops; of UPC the flags are taken
-- too. The others cannot be set
unfoldable pub with_variable : Variable → ℕ → Job → Job
with_variable Upc w j = record j { pc = right_of w; flags = flags_of w }
with_variable Ustp w j = record j { stopped = not (w == 0) }
with_variable Pirqc w j = record j { pend1 = w }
with_variable Ifpir w j = record j { pend2 = w }
with_variable Mask w j = record j { mask1 = w }
with_variable Msk2 w j = record j { mask2 = w }
with_variable Df1 w j = record j { defer1 = w }
with_variable Df2 w j = record j { defer2 = w }
with_variable Uname w j = j
with_variable Jname w j = j
with_variable Uind w j = j
with_variable Suppro w j = j
with_variable Cnsl w j = j
with_variable Pages w j = j
