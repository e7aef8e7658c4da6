-- A job's core: sixteen accumulators, at addresses 0 to 17 (octal), and 256 possible pages of 1024
-- words (docs/MACHINE.md, "Core"). Addresses are below 2 ^ 18; past that nothing is there.
-- A promise rests on this.
use Rattle.std.specs.Prelude.{if◌then◌else◌, ◌≡◌, ℕ, ◌/◌, ◌%◌, Bool, length, true, false, Option, Some, None, List, nat_lt, replicate, sum_by, count_by, slice_get, slice_set, is_some, unwrap_or, Result, Ok, Err}
use Rattle.std.specs.List.{range_with_len}
use Rattle.its_word.specs.Limits.{slots}
use Rattle.its_word.specs.declared.access.NoAccess.{NoAccess}
use Rattle.its_word.specs.declared.access.NoAccess.TheVariants.{Absent, ReadOnly}

-- a page: its words, and whether they may be stored to
pub record Page : Type 0 where
  pub words : List ℕ
  pub writable : Bool

pub record Core : Type 0 where
  pub accs : List ℕ
  pub pages : List (Option Page)

-- what a place of the list of pages has: a page, or none, also past the end
abbrev pub present : Option (Option Page) → Option Page
present (Some (Some p)) = Some p
present (Some None) = None
present None = None

-- page number k, if it is present
unfoldable pub page_of : Core → ℕ → Option Page
page_of c k = present (slice_get c.pages k)

abbrev pub word_in : Option Page → ℕ → Option ℕ
word_in (Some p) k = slice_get p.words k
word_in None k = None

abbrev pub stores_in : Option Page → ℕ → Bool
stores_in (Some p) k = if p.writable then is_some (slice_get p.words k) else false
stores_in None k = false

abbrev pub page_stored : Option Page → ℕ → ℕ → Option Page
page_stored (Some p) k w = Some (record p { words = slice_set p.words k w })
page_stored None k w = None

-- the word at an address, or none if its page is absent; addresses 0 to 17 are the accumulators
unfoldable pub word_at : Core → ℕ → Option ℕ
word_at c a = if nat_lt a 16 then slice_get c.accs a else word_in (page_of c (a / 1024)) (a % 1024)

-- an accumulator's word
abbrev pub acc_at : Core → ℕ → ℕ
acc_at c a = unwrap_or (word_at c a) 0

-- whether a word can be stored at an address: its page is present and writable
unfoldable pub can_store : Core → ℕ → Bool
can_store c a = if nat_lt a 16 then is_some (slice_get c.accs a) else stores_in (page_of c (a / 1024)) (a % 1024)

-- the core after a store at an address if the store is possible
unfoldable pub store : Core → ℕ → ℕ → Core
store c a w =
    if nat_lt a 16 then record c { accs = slice_set c.accs a w }
    else record c { pages = slice_set c.pages (a / 1024) (page_stored (page_of c (a / 1024)) (a % 1024) w) }

-- the core with another page, or none, as its page number k
unfoldable pub with_page : Core → ℕ → Option Page → Core
with_page c k p = record c { pages = slice_set c.pages k p }

-- a page of zeros, which can be stored to
unfoldable pub zero_page : Page
zero_page = record { words = replicate 1024 0; writable = true }

-- a page with its writable mark set or cleared
abbrev pub marked : Option Page → Bool → Option Page
marked (Some p) w = Some (record p { writable = w })
marked None w = None

-- the core that an empty slot has: accumulators of zeros and no page
unfoldable pub no_core : Core
no_core = record { accs = replicate 16 0; pages = replicate 256 None }

-- `get` and `put` with their refusals
abbrev pub got : Option ℕ → Result ℕ NoAccess
got (Some w) = Ok w
got None = Err Absent

abbrev pub get : Core → ℕ → Result ℕ NoAccess
get c a = got (word_at c a)

abbrev pub putting : Core → ℕ → ℕ → Bool → Option ℕ → Result Core NoAccess
putting c a w true there = Ok (store c a w)
putting c a w false (Some v) = Err ReadOnly
putting c a w false None = Err Absent

abbrev pub put : Core → ℕ → ℕ → Result Core NoAccess
put c a w = putting c a w (can_store c a) (word_at c a)

-- how many pages are present
unfoldable pub pages_present : Core → ℕ
pages_present c = count_by is_some c.pages

-- how many pages the cores of all slots have together
unfoldable pub pages_mapped : (ℕ → Core) → ℕ
pages_mapped cores = sum_by (λ k. pages_present (cores k)) (range_with_len 0 slots)

-- a core as any slot has it: sixteen accumulators, 256 possible pages, and 1024 words on each page
-- that is present
pub record IsWhole (c : Core) : Type 0 where
  pub accs : length c.accs ≡ 16
  pub pages : length c.pages ≡ 256
  pub words : (k : ℕ) (p : Page) → page_of c k ≡ Some p → length p.words ≡ 1024
