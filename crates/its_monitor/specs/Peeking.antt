-- What PEEK shows of a job.
-- No promise rests on this.
use Rattle.std.specs.Prelude.{◌≡◌, ℕ, Option}
use Rattle.its_word.specs.Core.{Core}
use Rattle.its_records.specs.declared.show.Peek.{Peek}
use Rattle.its_frame.specs.declared.frame.Frame.{Frame}
use Rattle.its_stepped.specs.Lines.{state_shown, name_shown, first_shown, second_shown, word_shown, ask_in, byte_shown}

-- what is shown of a frame, if there is one, over a core, which so many unwinding steps bring to
-- user mode
pub record Shows (c : Core) (left : ℕ) (f : Option Frame) (p : Peek) : Type 0 where
  pub state : p.state ≡ state_shown f
  pub name : p.name ≡ name_shown f
  pub left_is : p.left ≡ left
  pub a : p.a ≡ word_shown c first_shown (ask_in f)
  pub b : p.b ≡ word_shown c second_shown (ask_in f)
  pub h : p.h ≡ byte_shown f
