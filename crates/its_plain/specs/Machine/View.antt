-- What a call looks at as it decides: its own job, the job that it reaches into, of all jobs their
-- names, superiors and channels, what all jobs share, and how many jobs there can be.
-- A promise rests on this.
use Rattle.std.specs.Prelude.{ℕ, Option, Some, None, List, option_map}
use Rattle.its_plain.specs.Machine.{Chan, File, Console, Pipe, Whole, Machine, mapped, limit}

pub record Outline : Type 0 where
  pub uname : ℕ
  pub jname : ℕ
  pub superior : Option ℕ
  pub channels : ℕ → Chan

pub record View : Type 0 where
  pub slot : ℕ
  pub own : Whole
  pub other : Option Whole
  pub outlines : ℕ → Option Outline
  pub pages : ℕ
  pub consoles : ℕ → Console
  pub holders : ℕ → Option ℕ
  pub files : List File
  pub clock : ℕ
  pub limit : ℕ
  pub links : ℕ → Option Pipe

abbrev pub outline : Whole → Outline
outline q = record { uname = q.job.uname; jname = q.job.jname; superior = q.superior; channels = q.channels }

abbrev pub job_at : Machine → Option ℕ → Option Whole
job_at m (Some s) = m.jobs s
job_at m None = None

-- what the call of job q in slot j sees, which reaches into the job of a slot or into none
unfoldable pub view : Machine → ℕ → Whole → Option ℕ → View
view m j q target = record {
  slot = j;
  own = q;
  other = job_at m target;
  outlines = λ k. option_map outline (m.jobs k);
  pages = mapped m;
  consoles = m.consoles;
  holders = m.holders;
  files = m.files;
  clock = m.clock;
  limit = limit m;
  links = m.links;
}
