-- How the cores of all slots are kept: a pool of page frames of 1024 words, a map from each page of
-- each slot to its page frame, the page frames of reserved pages, and the lists of the page frames.
-- The words of a page frame are made ready, up to its last, when it is first reserved. Until then
-- it is a free page frame.
-- No promise rests on this.
use Rattle.std.specs.Prelude.{◌≡◌, ◌<◌, ◌≤◌, ℕ, ◌+◌, ◌*◌, Option, Some, None, List, ◌++◌, length, map, take, drop, slice_index_or, option_map, is_some, count_by}
use Rattle.its_word.specs.Core.{Core, Page, pages_mapped}
use Rattle.its_word.specs.Limits.{slots, most_pages}
use Rattle.its_links.specs.Lists.{Linked, count, list_at}
use Rattle.its_core.specs.Cores.{Cores, Reserved, core_at}
use Rattle.its_core.specs.Frames.{Frames, Listed, all_frames, row}
use Rattle.its_core.specs.declared.cores.Mapped.{Mapped}
use Rattle.its_core.specs.declared.cores.Held.{Held}
use Rattle.its_word.specs.Table.{table}

-- how many accumulators all slots have, how many places for pages, and how many words all frames
-- have
abbrev pub all_accs : ℕ
all_accs = 16 * slots

abbrev pub all_places : ℕ
all_places = 256 * slots

abbrev pub all_words : ℕ
all_words = 1024 * all_frames

-- the words of a frame
unfoldable pub frame_words : List ℕ → ℕ → List ℕ
frame_words words f = take 1024 (drop (1024 * f) words)

abbrev pub page_in : List ℕ → Option Mapped → Option Page
page_in words (Some m) = Some (record { words = frame_words words m.frame; writable = m.writable })
page_in words None = None

abbrev pub reserved_in : List ℕ → Option Held → Option Reserved
reserved_in words (Some h) = Some (record { clear = h.clear; words = frame_words words h.frame })
reserved_in words None = None

-- the core of a slot
unfoldable pub core_in : List ℕ → List (Option Mapped) → List ℕ → ℕ → Core
core_in accs places words s = record {
  accs = take 16 (drop (16 * s) accs);
  pages = table 256 (λ k. page_in words (slice_index_or places (256 * s + k) None));
}

-- the frame of a page, and of a reserved page
abbrev pub frame_of : Option Mapped → Option ℕ
frame_of o = option_map (λ m. m.frame) o

abbrev pub held_frame : Option Held → Option ℕ
held_frame o = option_map (λ h. h.frame) o

abbrev pub frames_now : List (Option Mapped) → List (Option Held) → Linked → List ℕ → Frames
frames_now places held links words = record { lists = links.lists; pages = map frame_of places; reserved = map held_frame held; ready = length words }

unfoldable pub cores_in : List ℕ → List (Option Mapped) → List (Option Held) → List ℕ → Linked → Cores
cores_in accs places held words links = record {
  cores = table slots (core_in accs places words);
  reserved = map (reserved_in words) held;
  frames = frames_now places held links words;
}

-- the frame of each page of each slot, and then of each reserved page
unfoldable pub frames_in : List (Option Mapped) → List (Option Held) → List (Option ℕ)
frames_in places held = map frame_of places ++ map held_frame held

-- the first quarters of a reserved page are clear
pub record IsClear (words : List ℕ) (h : Held) : Type 0 where
  pub most : h.clear ≤ 4
  pub zeros : (k : ℕ) → k < 256 * h.clear → slice_index_or words (1024 * h.frame + k) 0 ≡ 0

pub record IsPool (accs : List ℕ) (places : List (Option Mapped)) (held : List (Option Held)) (words : List ℕ) (links : Linked) (mapped : ℕ) : Type 0 where
  pub accs_long : length accs ≡ all_accs
  pub places_long : length places ≡ all_places
  pub held_long : length held ≡ slots
  -- a frame whose words are not all ready is free
  pub ready : (x : ℕ) → x < all_frames → length words < 1024 * x + 1024 → 0 < count x (list_at links.lists 0)
  pub nodes : links.nodes ≡ all_frames
  pub heads : length links.lists ≡ slots + 1
  pub listed : Listed (frames_now places held links words)
  pub rows : (s : ℕ) → s < slots → length (list_at links.lists (s + 1)) ≡ count_by is_some (row places s)
  pub clear : (s : ℕ) (h : Held) → slice_index_or held s None ≡ Some h → IsClear words h
  pub number : mapped ≡ pages_mapped (core_at (cores_in accs places held words links))
  pub most : mapped ≤ most_pages
  pub count : length (list_at links.lists 0) + mapped + count_by is_some held ≡ all_frames
