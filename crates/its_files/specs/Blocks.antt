-- How the words of files and drafts are kept: 2048 blocks of 128 words, a list of the free blocks,
-- and for each number of a file or draft the list of its blocks, in the order of its words.
-- No promise rests on this.
use Rattle.std.specs.Prelude.{◌≡◌, ◌<◌, ◌≤◌, ℕ, ◌+◌, ◌-◌, ◌*◌, ◌/◌, ◌%◌, Bool, true, false, ◌&&◌, eqb, Option, Some, None, List, [], ◌∷◌, ◌++◌, length, take, replicate, sum_by, slice_set, slice_get, slice_index_or}
use Rattle.its_links.specs.Lists.{Linked, list_at, rest}
use Rattle.its_files.specs.declared.blocks.Place.{Place}
use Rattle.its_word.specs.Limits.{slots}
use Rattle.its_word.specs.Table.{table}

-- how many files there may be, and how many drafts: one for each channel of each slot
abbrev pub most_files : ℕ
most_files = 256

abbrev pub most_drafts : ℕ
most_drafts = 16 * slots

-- how many numbers there are for files and drafts, how many blocks, and how many words a block has
abbrev pub numbers : ℕ
numbers = most_files + most_drafts

abbrev pub blocks : ℕ
blocks = 2048

abbrev pub block_words : ℕ
block_words = 128

-- the words of each number, and the lists of blocks: the free ones first, then those of each number
pub record Stored : Type 0 where
  pub texts : List (List ℕ)
  pub chains : List (List ℕ)

abbrev pub text_at : List (List ℕ) → ℕ → List ℕ
text_at texts id = slice_index_or texts id []

abbrev pub free_blocks : List (List ℕ) → List ℕ
free_blocks chains = list_at chains 0

abbrev pub blocks_of : List (List ℕ) → ℕ → List ℕ
blocks_of chains id = list_at chains (id + 1)

-- how many blocks n words take
abbrev pub blocks_for : ℕ → ℕ
blocks_for n = (n + 127) / 128

-- how many blocks are in use
abbrev pub blocks_used : Stored → ℕ
blocks_used s = sum_by (λ t. blocks_for (length t)) s.texts

-- whether a word after n words needs a block
abbrev pub needs_block : ℕ → Bool
needs_block n = eqb (n % 128) 0

-- whether there is no room for a word more
abbrev pub is_full : Stored → ℕ → Bool
is_full s id = needs_block (length (text_at s.texts id)) && eqb (blocks_used s) blocks

-- for how many words more the last block of n words has room
abbrev pub words_left : ℕ → ℕ
words_left n = (block_words - n % block_words) % block_words

-- for how many more words there is room after a text: in its last block, and in all blocks that are
-- not in use
unfoldable pub room_behind : Stored → ℕ → ℕ
room_behind s id = words_left (length (text_at s.texts id)) + block_words * (blocks - blocks_used s)

-- the first free block becomes the last of a number
unfoldable pub with_block : List (List ℕ) → ℕ → List (List ℕ)
with_block chains id = slice_set (slice_set chains 0 (rest (free_blocks chains))) (id + 1) (blocks_of chains id ++ take 1 (free_blocks chains))

abbrev pub with_growth : Bool → List (List ℕ) → ℕ → List (List ℕ)
with_growth true chains id = with_block chains id
with_growth false chains id = chains

-- a word more at the end of a text
abbrev pub with_word_appended : Stored → ℕ → ℕ → Stored
with_word_appended s id w = record {
  texts = slice_set s.texts id (text_at s.texts id ++ w ∷ []);
  chains = with_growth (needs_block (length (text_at s.texts id))) s.chains id;
}

-- a text loses its words, and its blocks go to the end of the free ones, in their order
abbrev pub after_giving_up : Stored → ℕ → Stored
after_giving_up s id = record {
  texts = slice_set s.texts id [];
  chains = slice_set (slice_set s.chains 0 (free_blocks s.chains ++ blocks_of s.chains id)) (id + 1) [];
}

-- the k-th word of some blocks
unfoldable pub word_in : List ℕ → List ℕ → ℕ → ℕ
word_in words chain k = slice_index_or words (128 * slice_index_or chain (k / 128) 0 + k % 128) 0

-- the words that are ready, once those of a block are
abbrev pub block_ready : List ℕ → ℕ → List ℕ
block_ready words b = words ++ replicate (128 * b + 128 - length words) 0

-- the first n words of some blocks
abbrev pub text_of : List ℕ → List ℕ → ℕ → List ℕ
text_of words chain n = table n (word_in words chain)

unfoldable pub stored_in : List ℕ → List (List ℕ) → List ℕ → Stored
stored_in words chains lengths = record {
  texts = table numbers (λ id. text_of words (blocks_of chains id) (slice_index_or lengths id 0));
  chains = chains;
}

-- the place that is kept is a block of its number
abbrev pub PlaceIn : List (List ℕ) → Option Place → Type 0
PlaceIn chains None = Unit {0}
PlaceIn chains (Some p) = slice_get (blocks_of chains p.id) p.index ≡ Some p.block

-- words are those that are ready; each block of a number has its words ready
pub record IsBlocks (words : List ℕ) (most : ℕ) (lengths lasts : List ℕ) (free : ℕ) (place : Option Place)
    (links : Linked) : Type 0 where
  pub most_is : most ≡ blocks * block_words
  pub lengths_long : length lengths ≡ numbers
  pub lasts_long : length lasts ≡ numbers
  pub heads : length links.lists ≡ numbers + 1
  pub nodes : links.nodes ≡ 2048
  pub free_is : free ≡ length (free_blocks links.lists)
  pub fits : (id : ℕ) → id < numbers → length (blocks_of links.lists id) ≡ blocks_for (slice_index_or lengths id 0)
  pub last : (id : ℕ) → id < numbers → 0 < length (blocks_of links.lists id) → slice_get (blocks_of links.lists id) (length (blocks_of links.lists id) - 1) ≡ Some (slice_index_or lasts id 0)
  pub ready : (id i b : ℕ) → slice_get (blocks_of links.lists id) i ≡ Some b → 128 * b + 128 ≤ length words
  pub kept : PlaceIn links.lists place
  pub used : length (free_blocks links.lists) + sum_by blocks_for lengths ≡ 2048
