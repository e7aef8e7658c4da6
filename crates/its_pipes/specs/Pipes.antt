-- What contracts see of the links between jobs: for each number a link, if it has one, and the
-- queue of its words.
-- No promise rests on this.
use Rattle.std.specs.Prelude.{◌≡◌, ◌≤◌, ℕ, Option, Some, None, List, [], length, slice_index_or}
use Rattle.circular_buffer.specs.Buffer.{Buffer, buffer}
use Rattle.its_records.specs.Links.{most_link_words}
use Rattle.its_records.specs.declared.link.Link.{Link}
use Rattle.its_plain.specs.Machine.{Pipe}

pub record Piping : Type 0 where
  pub links : List (Option Link)
  pub queues : List (Buffer ℕ)

-- a queue without a word, with room for all that a link can hold
abbrev pub no_queue : Buffer ℕ
no_queue = buffer [] most_link_words

-- the link and the queue of a number
abbrev pub link_at : List (Option Link) → ℕ → Option Link
link_at links l = slice_index_or links l None

abbrev pub queue_at : List (Buffer ℕ) → ℕ → Buffer ℕ
queue_at queues l = slice_index_or queues l no_queue

abbrev pub link_in : Piping → ℕ → Option Link
link_in p l = link_at p.links l

-- the link of a number with its words, in the form of the plain machine
abbrev pub pipe_by : Option Link → List ℕ → Option Pipe
pipe_by (Some k) ws = Some (record { link = k; words = ws })
pipe_by None ws = None

abbrev pub piped : Piping → ℕ → Option Pipe
piped p l = pipe_by (link_in p l) (queue_at p.queues l).items

-- a number without a link has no words, and each queue has room for all that a link can hold, and
-- no more
pub record IsPipes (links : List (Option Link)) (queues : List (Buffer ℕ)) : Type 0 where
  pub dry : (l : ℕ) → link_at links l ≡ None → (queue_at queues l).items ≡ []
  pub room : (l : ℕ) → (queue_at queues l).capacity ≡ most_link_words
  pub fits : (l : ℕ) → length (queue_at queues l).items ≤ most_link_words
