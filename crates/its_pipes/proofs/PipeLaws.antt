-- What the links and queues of the store mean.
use Rattle.std.specs.Prelude.{◌≡◌, ◌≤◌, ℕ, Option, Some, None, List, [], length, refl}
use Rattle.std.proofs.Common.{ap, sym, arith}
use Rattle.std.proofs.lemmas.List.{get_or_past}
use Rattle.circular_buffer.specs.Buffer.{Buffer}
use Rattle.its_records.specs.Links.{most_link_words, most_links}
use Rattle.its_records.specs.Tree.{free_from, least_free}
use Rattle.its_records.specs.declared.link.Link.{Link}
use Rattle.its_plain.specs.Call.Link.{words_in}
use Rattle.its_plain.specs.Machine.{Pipe}
use Rattle.its_pipes.specs.Pipes.{IsPipes, link_at, pipe_by, queue_at}

-- links and words of two lists
abbrev pub pipe_of : List (Option Link) → List (Buffer ℕ) → ℕ → Option Pipe
pipe_of ls qs l = pipe_by (link_at ls l) (queue_at qs l).items

-- before the first number is looked at
pub least_start : {X : Type 0} (links : ℕ → Option X) → free_from links most_links 0 ≡ least_free most_links links
unfolding least_free
least_start links = refl

words_by : (o : Option Link) (ws : List ℕ) → (o ≡ None → ws ≡ []) → words_in (pipe_by o ws) ≡ ws
words_by (Some k) ws h = refl
words_by None ws h = sym (h refl)

-- the words of a number are those of its queue
words_are : (ls : List (Option Link)) (qs : List (Buffer ℕ)) (l : ℕ) → IsPipes ls qs → words_in (pipe_of ls qs l) ≡ (queue_at qs l).items
words_are ls qs l is = words_by (link_at ls l) (queue_at qs l).items (is.dry l)

-- a link has no more words than it can hold
pub words_fit : (ls : List (Option Link)) (qs : List (Buffer ℕ)) → IsPipes ls qs → (l : ℕ) → length (words_in (pipe_of ls qs l)) ≤ most_link_words
words_fit ls qs is l = rw (words_are ls qs l is) (is.fits l)

-- no number past the last has a link
pub past_none : (ls : List (Option Link)) (qs : List (Buffer ℕ)) → length ls ≡ most_links → (l : ℕ) → most_links ≤ l → pipe_of ls qs l ≡ None
past_none ls qs n l past = ap (λ o. pipe_by o (queue_at qs l).items) (get_or_past ls l None (omega arith))
