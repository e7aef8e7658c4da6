-- Which page frame each page has, and the lists of the frames: one of the free frames, and one for
-- each slot of the frames of its pages, in the order in which they were mapped; and how many of
-- their words are ready.
-- No promise rests on this.
use Rattle.std.specs.Prelude.{◌≡◌, ◌<◌, ◌≤◌, ℕ, ◌+◌, ◌*◌, Option, Some, None, List, [], ◌∷◌, ◌++◌, max, take, drop, replicate, slice_set, slice_index_or}
use Rattle.std.specs.List.{range_with_len}
use Rattle.its_links.specs.Lists.{list_at, hit, count, times, first, rest, without}
use Rattle.its_word.specs.Limits.{slots, most_pages}

-- how many frames there are: one for each page that may be mapped, and one for each slot to reserve
abbrev pub all_frames : ℕ
all_frames = most_pages + slots

-- the lists, the free frames first; the frame of page k of slot s, at 256s + k; the frame of the
-- page that slot s has reserved; and how many words of frames are ready, from the first on
pub record Frames : Type 0 where
  pub lists : List (List ℕ)
  pub pages : List (Option ℕ)
  pub reserved : List (Option ℕ)
  pub ready : ℕ

abbrev pub free : Frames → List ℕ
free f = list_at f.lists 0

abbrev pub mapped_by : Frames → ℕ → List ℕ
mapped_by f s = list_at f.lists (s + 1)

abbrev pub page_frame : Frames → ℕ → ℕ → Option ℕ
page_frame f s k = slice_index_or f.pages (256 * s + k) None

abbrev pub reserved_frame : Frames → ℕ → Option ℕ
reserved_frame f s = slice_index_or f.reserved s None

-- how often a page frame is among those of pages
abbrev pub is_frame : ℕ → Option ℕ → ℕ
is_frame x None = 0
is_frame x (Some y) = hit x y

abbrev pub standing : ℕ → List (Option ℕ) → ℕ
standing x [] = 0
standing x (o ∷ os) = is_frame x o + standing x os

-- the places of the pages of a slot
unfoldable pub row : {X : Type 0} → List (Option X) → ℕ → List (Option X)
row places s = take 256 (drop (256 * s) places)

-- the list of a slot has the page frames of its pages, each once; each page frame occurs once, in
-- one of the lists or as that of a reserved page, and nothing else does
pub record Listed (f : Frames) : Type 0 where
  pub mapped : (s x : ℕ) → s < slots → count x (mapped_by f s) ≡ standing x (row f.pages s)
  pub each : (x : ℕ) → x < all_frames → times x f.lists + standing x f.reserved ≡ 1
  pub none : (x : ℕ) → all_frames ≤ x → times x f.lists + standing x f.reserved ≡ 0

-- the frame of a page as a list, and a list without it
abbrev pub as_list : Option ℕ → List ℕ
as_list None = []
as_list (Some x) = x ∷ []

abbrev pub without_frame : Option ℕ → List ℕ → List ℕ
without_frame None xs = xs
without_frame (Some x) xs = without x xs

-- places of which n, from place i on, are emptied
unfoldable pub emptied : {X : Type 0} → ℕ → ℕ → List (Option X) → List (Option X)
emptied i n os = take i os ++ replicate n None ++ drop (i + n) os

-- how many words are ready once those of a frame are: the 1024 words of a frame, and all words
-- before them
abbrev pub ready_with : ℕ → Option ℕ → ℕ
ready_with n None = n
ready_with n (Some x) = max n (1024 * x + 1024)

-- the first free frame becomes that of the page that slot s reserves, and its words are made ready
abbrev pub frames_reserve : ℕ → Frames → Frames
frames_reserve s f = record {
  lists = slice_set f.lists 0 (rest (free f));
  pages = f.pages;
  reserved = slice_set f.reserved s (first (free f));
  ready = ready_with f.ready (first (free f));
}

-- the frame of the page that slot s has reserved becomes the last of the free ones
abbrev pub frames_give_back : ℕ → Frames → Frames
frames_give_back s f = record {
  lists = slice_set f.lists 0 (free f ++ as_list (reserved_frame f s));
  pages = f.pages;
  reserved = slice_set f.reserved s None;
  ready = f.ready;
}

-- it becomes that of page k of slot t, and the last of the slot's list
abbrev pub frames_map : ℕ → ℕ → ℕ → Frames → Frames
frames_map s t k f = record {
  lists = slice_set f.lists (t + 1) (mapped_by f t ++ as_list (reserved_frame f s));
  pages = slice_set f.pages (256 * t + k) (reserved_frame f s);
  reserved = slice_set f.reserved s None;
  ready = f.ready;
}

-- the frame of page k of slot s leaves the slot's list and becomes the last of the free ones
abbrev pub frames_unmap : ℕ → ℕ → Frames → Frames
frames_unmap s k f = record {
  lists = slice_set (slice_set f.lists (s + 1) (without_frame (page_frame f s k) (mapped_by f s))) 0 (free f ++ as_list (page_frame f s k));
  pages = slice_set f.pages (256 * s + k) None;
  reserved = f.reserved;
  ready = f.ready;
}

-- all frames of slot s become the last of the free ones, in the order of the slot's list
abbrev pub frames_drop_all : ℕ → Frames → Frames
frames_drop_all s f = record {
  lists = slice_set (slice_set f.lists 0 (free f ++ mapped_by f s)) (s + 1) [];
  pages = emptied (256 * s) 256 f.pages;
  reserved = f.reserved;
  ready = f.ready;
}

-- the numbers below n in rising order
unfoldable pub numbers : ℕ → List ℕ
numbers n = range_with_len 0 n

-- all frames are free, in rising order, and no word is ready
pub record NoFrames (f : Frames) : Type 0 where
  pub free_in_order : free f ≡ numbers all_frames
  pub no_lists : (s : ℕ) → mapped_by f s ≡ []
  pub no_pages : (s k : ℕ) → page_frame f s k ≡ None
  pub none_reserved : (s : ℕ) → reserved_frame f s ≡ None
  pub none_ready : f.ready ≡ 0
