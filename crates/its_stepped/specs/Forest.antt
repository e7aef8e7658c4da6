-- How the jobs of a machine lie to each other, to consoles and to links (docs/STEPS.md,
-- "Soundness").
-- No promise rests on this.
use Rattle.std.specs.Prelude.{◌≡◌, ◌≤◌, ◌<◌, ℕ, Bool, true, false, Option, Some, None, IfSome, is_some}
use Rattle.its_word.specs.Limits.{slots}
use Rattle.its_records.specs.Links.{most_links, link_end}
use Rattle.its_records.specs.Tree.{climbs_to}
use Rattle.its_records.specs.declared.link.End.{End}
use Rattle.its_records.specs.declared.link.End.TheVariants.{Unopened, Opened}
use Rattle.its_plain.specs.Machine.{Chan, TtyIn, TtyOut, On, Linked, Pipe, Machine, limit}
use Rattle.its_plain.specs.Machine.Change.{superiors, channel_in, console_in}

-- a channel of the job of slot k that is on a job is on an inferior of its own
abbrev pub OnInferior : Machine → ℕ → Chan → Type 0
OnInferior m k (On s write at) = superiors m s ≡ Some k
OnInferior m k _ = Unit {0}

-- a channel that is on a console, of a job with this console, which it has to have
abbrev pub OnConsole : Option ℕ → Chan → Type 0
OnConsole console TtyIn = is_some console ≡ true
OnConsole console TtyOut = is_some console ≡ true
OnConsole console _ = Unit {0}

-- an end of a link, if the link exists
abbrev pub end_at : Bool → Option Pipe → End
end_at write (Some p) = link_end write p.link
end_at write None = Unopened

-- channel n of the job of slot k, if it is on a link, is the one at which that end of the link is
-- open
abbrev pub OnLink : Machine → ℕ → ℕ → Chan → Type 0
OnLink m k n (Linked l write) = (l < most_links) × (end_at write (m.links l) ≡ Opened k n)
OnLink m k n _ = Unit {0}

-- an end of a link is open at a slot and channel exactly if that channel is on that link in that
-- direction
pub record Joined (m : Machine) : Type 0 where
  pub channels : (k n : ℕ) → OnLink m k n (channel_in (m.jobs k) n)
  pub ends : (l k n : ℕ) (write : Bool) → end_at write (m.links l) ≡ Opened k n → channel_in (m.jobs k) n ≡ Linked l write

-- jobs have the slots below the limit; a superior is a job, and no job is reached from itself
-- through superiors; a channel on a job is on an inferior; a job with a channel on a console has
-- one; who holds a console is a job; and links and channels agree
pub record Forest (m : Machine) : Type 0 where
  pub few : (k : ℕ) → limit m ≤ k → m.jobs k ≡ None
  pub standing : (k : ℕ) → IfSome (superiors m k) (λ s. is_some (m.jobs s) ≡ true)
  pub circle : (k : ℕ) → climbs_to (superiors m) k slots (superiors m k) ≡ false
  pub channels : (k n : ℕ) → OnInferior m k (channel_in (m.jobs k) n)
  pub consoles : (k n : ℕ) → OnConsole (console_in (m.jobs k)) (channel_in (m.jobs k) n)
  pub holders : (c : ℕ) → IfSome (m.holders c) (λ s. is_some (m.jobs s) ≡ true)
  pub links : Joined m
