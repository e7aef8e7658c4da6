-- Each line that is written of a machine is one that the grammar has: SYSTEM is the first, and each
-- later one can be read in the state part.
use Rattle.std.specs.Prelude.{if◌then◌else◌, ◌≡◌, ◌≤◌, ◌<◌, ◌⊎◌, ◌==◌, ◌&&◌, ℕ, zero, suc, ◌+◌, ◌^◌, Bool, true, false, not, Option, Some, None, IfSome, List, [], ◌∷◌, ◌++◌, All, length, take, drop, nat_lt, is_some, bit_or, refl}
use Rattle.std.proofs.Common.{sym, ◌∙◌, subst, arith, inl, inr}
use Rattle.std.proofs.lemmas.Bool.{and_parts, eqb-true, ltb-true}
use Rattle.std.proofs.lemmas.Bool.Decides.{nat_tests}
use Rattle.std.proofs.lemmas.List.{length-append}
use Rattle.its_word.specs.Flags.{named_flags, pc_word, USER}
use Rattle.its_word.specs.Limits.{slots, consoles, limit_of}
use Rattle.its_word.specs.Core.{Core, Page, page_of, word_at}
use Rattle.its_records.specs.Links.{most_links, link_end, is_closed}
use Rattle.its_records.specs.declared.state_line.StateLine.TheVariants as states
use Rattle.its_session.specs.Fields.{last_slot}
use Rattle.its_session.specs.StateWriting.{AreWords}
use Rattle.its_session.proofs.TextLaws.{LineReads, AllRead}
use Rattle.its_plain.specs.Machine.{Names, File, Chan, Shut, TtyIn, TtyOut, Reads, Writes, On, Linked, Symbol, Pipe, Whole, Machine}
use Rattle.its_plain.specs.Machine.Change.{channel_in, superior_in}
use Rattle.its_plain.specs.Operator.Clock.{alarm_in}
use Rattle.its_plain.specs.Operator.Files.{name_in}
use Rattle.its_plain.specs.Transcript.Turns.{highest}
use Rattle.its_stepped.specs.Alarmed.{Coming}
use Rattle.its_stepped.specs.Forest.{OnInferior, OnLink}
use Rattle.its_saved.specs.StateLine.{StateLine as Saved}
use Rattle.its_saved.specs.StateLine as saves
use Rattle.its_saved.specs.Saving.{each, in_rows, files_lines, begins_page, cell_of, cells_below, is_next, rows_from, rows, word_lines, read_only_line, read_only_lines, core_lines, symbol_lines, registers_of, job_lines, under_by, under_line, alarm_by, alarm_line, channel_lines, end_names, shut_line, link_lines, console_lines, holder_line, saved}
use Rattle.its_saved.specs.Text.{line_of, lines_of, turn_lines}
use Rattle.its_saved.specs.Readable.{AllBelow, AllWorded, AllSymbols, WordedOn, WholeWorded, PipeWorded, Worded}
use Rattle.its_saved.specs.WellFormed.{IsNamed, AllNamed, NamedOn, Named, WellFormed}
use Rattle.its_saved.proofs.NeedLaws.{job_fits}

-- lists of words
below_append : (n : ℕ) (xs ys : List ℕ) → AllBelow n xs → AllBelow n ys → AllBelow n (xs ++ ys)
below_append n [] ys h r = r
below_append n (x ∷ xs) ys h r = (h.0, below_append n xs ys h.1 r)

below_take : (n k : ℕ) (xs : List ℕ) → AllBelow n xs → AllBelow n (take k xs)
below_take n zero xs h = tt
below_take n (suc k) [] h = tt
below_take n (suc k) (x ∷ xs) h = (h.0, below_take n k xs h.1)

below_drop : (n k : ℕ) (xs : List ℕ) → AllBelow n xs → AllBelow n (drop k xs)
below_drop n zero xs h = h
below_drop n (suc k) [] h = tt
below_drop n (suc k) (x ∷ xs) h = below_drop n k xs h.1

take_few : (k : ℕ) (xs : List ℕ) → length (take k xs) ≤ k
take_few zero xs = omega arith
take_few (suc k) [] = omega arith
take_few (suc k) (x ∷ xs) = (let h = take_few k xs in omega arith)

are_words : (ws : List ℕ) → AllBelow (2 ^ 36) ws → AreWords ws
are_words [] h k l = absurd (let x : k < 0 = l in omega arith)
are_words (w ∷ ws) h zero l = h.0
are_words (w ∷ ws) h (suc k) l = are_words ws h.1 k (omega arith)

are_bytes : (bs : List ℕ) → AllBelow 128 bs → All (λ b. b ≤ 127) bs
are_bytes [] h k d l = absurd (let x : k < 0 = l in omega arith)
are_bytes (b ∷ bs) h zero d l = (let x = h.0 in omega arith)
are_bytes (b ∷ bs) h (suc k) d l = are_bytes bs h.1 k d (omega arith)

record NamesRead (n : Names) : Type 0 where
  d : name_in n 0 < 2 ^ 36
  x : name_in n 1 < 2 ^ 36
  y : name_in n 2 < 2 ^ 36

names_read : (n : Names) → IsNamed n → AllBelow (2 ^ 36) n → NamesRead n
names_read [] is h = absurd (let e : 0 ≡ 3 = is in omega arith)
names_read (d ∷ []) is h = absurd (let e : 1 ≡ 3 = is in omega arith)
names_read (d ∷ x ∷ []) is h = absurd (let e : 2 ≡ 3 = is in omega arith)
names_read (d ∷ x ∷ y ∷ ns) is h = record { d = h.0; x = h.1.0; y = h.1.1.0 }

-- slots
pub below_last : (v s : ℕ) → s < limit_of v → s ≤ last_slot v
unfolding limit_of last_slot
below_last v s h = by (v == 2) h
  where
    by : (b : Bool) → s < (if b then slots else 64) → s ≤ (if b then 95 else 63)
    by true l = omega arith
    by false l = omega arith

module _ (v : ℕ) where
  abbrev Reads' : Saved → Type 0
  Reads' l = LineReads v (line_of l)

  abbrev Each : List Saved → Type 0
  Each ls = AllRead v (lines_of ls)

  read_append : (xs ys : List Saved) → Each xs → Each ys → Each (xs ++ ys)
  read_append [] ys h r = r
  read_append (x ∷ xs) ys h r = (h.0, read_append xs ys h.1 r)

  read_each : (f : ℕ → List Saved) (n : ℕ) → ((k : ℕ) → k < n → Each (f k)) → Each (each f n)
  read_each f zero h = tt
  read_each f (suc n) h = read_append (each f n) (f n) (read_each f n (λ k l. h k (omega arith))) (h n (omega arith))

  read_rows : (most : ℕ) (line : List ℕ → Saved) (size : ℕ)
      → ((w : ℕ) (ws : List ℕ) → length ws ≤ size → AllBelow most (w ∷ ws) → Reads' (line (w ∷ ws)))
      → (n : ℕ) (ws : List ℕ) → AllBelow most ws → Each (in_rows line (suc size) n ws)
  read_rows most line size h zero ws b = tt
  read_rows most line size h (suc n) [] b = tt
  read_rows most line size h (suc n) (w ∷ ws) b = (
    h w (take size ws) (take_few size ws) (b.0, below_take most size ws b.1),
    read_rows most line size h n (drop size ws) (below_drop most size ws b.1),
  )

  -- files
  files_read : (fs : List File) → AllNamed fs → AllWorded fs → Each (files_lines fs)
  files_read [] h w = tt
  files_read (f ∷ fs) h w =
      let n = names_read f.names h.0 w.0.names in (
        record { inside = tt; fits = tt; words = (n.d, n.x, n.y) },
        read_append (in_rows (saves.FileWords f.names) 16 (length f.words) f.words) (files_lines fs)
            (read_rows (2 ^ 36) (saves.FileWords f.names) 15
            (λ x xs l b. record { inside = tt; fits = (omega arith, omega arith); words = are_words (x ∷ xs) b })
            (length f.words) f.words w.0.words)
            (files_read fs h.1 w.1),
      )

  -- the words of a core
  record RowReads (a : ℕ) (ws : List ℕ) : Type 0 where
    some : 1 ≤ length ws
    few : length ws ≤ 16
    room : a + length ws ≤ 2 ^ 18
    words : AllBelow (2 ^ 36) ws

  abbrev AllCells : List (ℕ × ℕ) → Type 0
  AllCells [] = Unit {0}
  AllCells (c ∷ cells) = ((c.0 < 2 ^ 18) × (c.1 < 2 ^ 36)) × AllCells cells

  row_reads : (s a : ℕ) (ws : List ℕ) → RowReads a ws → Reads' (saves.CoreWords s a ws)
  row_reads s a ws r = record { inside = tt; fits = ((r.some, r.few), r.room); words = are_words ws r.words }

  next_row : (a : ℕ) (ws : List ℕ) (c : ℕ × ℕ) → RowReads a ws → (c.0 < 2 ^ 18) × (c.1 < 2 ^ 36) → is_next a ws c.0 ≡ true → RowReads a (ws ++ c.1 ∷ [])
  next_row a ws c r h is =
      let p = and_parts (c.0 == a + length ws) (nat_lt (length ws) 16) is in
      let at : c.0 ≡ a + length ws = eqb-true c.0 (a + length ws) p.0 in
      let few : length ws < 16 = ltb-true (length ws) 16 p.1 in
      let long : length (ws ++ c.1 ∷ []) ≡ length ws + 1 = length-append ws (c.1 ∷ []) in
      let below = h.0 in
      record {
        some = omega arith;
        few = omega arith;
        room = omega arith;
        words = below_append (2 ^ 36) ws (c.1 ∷ []) r.words (h.1, tt);
      }

  first_row : (c : ℕ × ℕ) → (c.0 < 2 ^ 18) × (c.1 < 2 ^ 36) → RowReads c.0 (c.1 ∷ [])
  first_row c h = (let below = h.0 in record { some = omega arith; few = omega arith; room = omega arith; words = (h.1, tt) })

  rows_from_read : (s a : ℕ) (ws : List ℕ) (cells : List (ℕ × ℕ)) → RowReads a ws → AllCells cells → Each (rows_from s a ws cells)
  rows_from_read s a ws [] r h = (row_reads s a ws r, tt)
  rows_from_read s a ws (c ∷ cells) r h =
      by (is_next a ws c.0) refl
      (λ is. rows_from_read s a (ws ++ c.1 ∷ []) cells (next_row a ws c r h.0 is) h.1)
      (rows_from_read s c.0 (c.1 ∷ []) cells (first_row c h.0) h.1)
    where
      by : (t : Bool) → is_next a ws c.0 ≡ t → (is_next a ws c.0 ≡ true → Each (rows_from s a (ws ++ c.1 ∷ []) cells))
          → Each (rows_from s c.0 (c.1 ∷ []) cells)
          → Each (if t then rows_from s a (ws ++ c.1 ∷ []) cells else saves.CoreWords s a ws ∷ rows_from s c.0 (c.1 ∷ []) cells)
      by true is one two = one is
      by false is one two = (row_reads s a ws r, two)

  rows_read : (s : ℕ) (cells : List (ℕ × ℕ)) → AllCells cells → Each (rows s cells)
  rows_read s [] h = tt
  rows_read s (c ∷ cells) h = rows_from_read s c.0 (c.1 ∷ []) cells (first_row c h.0) h.1

  cells_append : (xs ys : List (ℕ × ℕ)) → AllCells xs → AllCells ys → AllCells (xs ++ ys)
  cells_append [] ys h r = r
  cells_append (x ∷ xs) ys h r = (h.0, cells_append xs ys h.1 r)

  cell_reads : (a : ℕ) (o : Option ℕ) → a < 2 ^ 18 → IfSome o (λ w. w < 2 ^ 36) → AllCells (cell_of a o)
  cell_reads a None l h = tt
  cell_reads a (Some w) l h = by ((w == 0) && not (begins_page a))
    where
      by : (t : Bool) → AllCells (if t then [] else (a, w) ∷ [])
      by true = tt
      by false = ((l, h), tt)

  cells_read : (c : Core) → ((a : ℕ) → IfSome (word_at c a) (λ w. w < 2 ^ 36)) → (n : ℕ) → n ≤ 2 ^ 18 → AllCells (cells_below c n)
  cells_read c h zero l = tt
  cells_read c h (suc n) l =
      cells_append (cells_below c n) (cell_of n (word_at c n)) (cells_read c h n (omega arith)) (cell_reads n (word_at c n) (omega arith) (h n))

  page_reads : (s k : ℕ) (o : Option Page) → k < 256 → Each (read_only_line s k o)
  page_reads s k None l = tt
  page_reads s k (Some p) l = by p.writable
    where
      by : (t : Bool) → Each (if t then [] else saves.ReadOnly s k ∷ [])
      by true = tt
      by false = (record { inside = tt; fits = omega arith; words = tt }, tt)

  core_reads : (s : ℕ) (c : Core) → ((a : ℕ) → IfSome (word_at c a) (λ w. w < 2 ^ 36)) → Each (core_lines s c)
  unfolding word_lines read_only_lines
  core_reads s c h =
      read_append (word_lines s c) (read_only_lines s c)
      (rows_read s (cells_below c (2 ^ 18)) (cells_read c h (2 ^ 18) (omega arith)))
      (read_each (λ k. read_only_line s k (page_of c k)) 256 (λ k l. page_reads s k (page_of c k) l))

  symbols_read : (s : ℕ) (xs : List Symbol) → AllSymbols xs → Each (symbol_lines s xs)
  symbols_read s [] h = tt
  symbols_read s (x ∷ xs) h = (record { inside = tt; fits = h.0.1; words = h.0.0 }, symbols_read s xs h.1)

-- SYSTEM of this version, and then lines that the grammar has
abbrev pub SystemThen : ℕ → List Saved → Type 0
SystemThen v (saves.System w ∷ ls) = (w ≡ v) × AllRead v (lines_of ls)
SystemThen v _ = ⊥

pc_word_below : (f pc : ℕ) → pc_word f pc < 2 ^ 36
pc_word_below f pc = (let x = bit_or (named_flags f) USER in omega arith)

module _ (m : Machine) (fit : WellFormed m) (named : Named m) (worded : Worded m) where
  abbrev Here : List Saved → Type 0
  Here ls = Each m.version ls

  slot_read : (k : ℕ) (q : Whole) → m.jobs k ≡ Some q → k ≤ last_slot m.version
  slot_read k q e = below_last m.version k (job_fits m fit k q e).below

  slot_some : (k : ℕ) → is_some (m.jobs k) ≡ true → k ≤ last_slot m.version
  slot_some k h = by (m.jobs k) refl h
    where
      by : (o : Option Whole) → m.jobs k ≡ o → is_some o ≡ true → k ≤ last_slot m.version
      by (Some q) e h = slot_read k q e
      by None e h = cc

  whole_at : (k : ℕ) (q : Whole) → m.jobs k ≡ Some q → WholeWorded q
  whole_at k q e = subst (λ o. IfSome o WholeWorded) e (worded.jobs k)

  job_reads : (k : ℕ) (o : Option Whole) → m.jobs k ≡ o → Here (job_lines m.symbols k o)
  job_reads k None e = tt
  job_reads k (Some q) e =
      let w = whole_at k q e in
      let j = w.job in (
        record { inside = tt; fits = (slot_read k q e, j.console); words = (j.uname, j.jname) },
        read_append m.version (core_lines k q.core) (symbol_lines k (m.symbols k) ++ saves.Regs k (registers_of q.job) ∷ [])
            (core_reads m.version k q.core w.core)
            (read_append m.version (symbol_lines k (m.symbols k)) (saves.Regs k (registers_of q.job) ∷ [])
            (symbols_read m.version k (m.symbols k) (worded.symbols k))
            (record { inside = tt; fits = tt; words = (pc_word_below q.job.flags q.job.pc, j.pend1, j.pend2, j.mask1, j.mask2, j.defer1, j.defer2) }, tt)),
      )

  under_reads : (k : ℕ) (o : Option Whole) → m.jobs k ≡ o → Here (under_line k o)
  under_reads k None e = tt
  under_reads k (Some q) e = by q.superior (subst (λ o. IfSome (superior_in o) (λ s. is_some (m.jobs s) ≡ true)) e (fit.forest.standing k))
    where
      by : (t : Option ℕ) → IfSome t (λ s. is_some (m.jobs s) ≡ true) → Here (under_by k t)
      by None h = tt
      by (Some t) h = (record { inside = tt; fits = (slot_read k q e, slot_some t h); words = tt }, tt)

  alarm_reads : (k : ℕ) (o : Option Whole) → m.jobs k ≡ o → Here (alarm_line k o)
  alarm_reads k None e = tt
  alarm_reads k (Some q) e =
      by q.alarm (subst (λ o. IfSome (alarm_in o) (λ a. Coming m.clock a)) e (fit.alarmed.each k)) (whole_at k q e).alarm
    where
      by : (a : Option (ℕ × ℕ)) → IfSome a (λ a. Coming m.clock a) → IfSome a (λ a. a.1 < 2 ^ 36) → Here (alarm_by k a)
      by None c b = tt
      by (Some a) c b = (record { inside = tt; fits = (slot_read k q e, c.some, (let h = c.most in omega arith), b); words = tt }, tt)

  inferior_some : (o : Option Whole) (k : ℕ) → superior_in o ≡ Some k → is_some o ≡ true
  inferior_some (Some q) k h = refl
  inferior_some None k h = cc

  record EndNamed (n : ℕ × ℕ) : Type 0 where
    x : n.0 < 2 ^ 36
    y : n.1 < 2 ^ 36

  end_named : (o : Option Pipe) → IfSome o PipeWorded → EndNamed (end_names o)
  end_named (Some p) h = record { x = h.x; y = h.y }
  end_named None h = record { x = omega arith; y = omega arith }

  channel_reads : (k n : ℕ) → n < 16 → k ≤ last_slot m.version → (c : Chan) → NamedOn c → WordedOn c → OnInferior m k c → OnLink m k n c
      → Here (channel_lines m k n c)
  channel_reads k n l s Shut h w i j = tt
  channel_reads k n l s TtyIn h w i j = (record { inside = tt; fits = (s, omega arith); words = tt }, tt)
  channel_reads k n l s TtyOut h w i j = (record { inside = tt; fits = (s, omega arith); words = tt }, tt)
  channel_reads k n l s (Reads x at) h w i j =
      let r = names_read x h w.0 in
      (record { inside = tt; fits = ((s, omega arith), w.1); words = (r.d, r.x, r.y) }, tt)
  channel_reads k n l s (Writes f) h w i j =
      let r = names_read f.names h w.names in (
        record { inside = tt; fits = (s, omega arith); words = (r.d, r.x, r.y) },
        read_rows m.version (2 ^ 36) (saves.Wrote k n) 15
            (λ x xs few b. record { inside = tt; fits = ((s, omega arith), (omega arith, omega arith)); words = are_words (x ∷ xs) b })
            (length f.words) f.words w.words,
      )
  channel_reads k n l s (On t write at) h w i j =
      (record { inside = tt; fits = ((s, omega arith), slot_some t (inferior_some (m.jobs t) k i), w); words = tt }, tt)
  channel_reads k n l s (Linked i write) h w f j =
      let names = end_named (m.links i) (worded.links i) in
      let few = j.0 in
      (record { inside = tt; fits = ((s, omega arith), omega arith); words = (names.x, names.y) }, tt)

  channels_read : (k n : ℕ) → n < 16 → Here (channel_lines m k n (channel_in (m.jobs k) n))
  channels_read k n l = by (m.jobs k) refl
    where
      by : (o : Option Whole) → m.jobs k ≡ o → Here (channel_lines m k n (channel_in (m.jobs k) n))
      by (Some q) e =
          channel_reads k n l (slot_read k q e) (channel_in (m.jobs k) n) (named.channels k n) (worded.channels k n) (fit.forest.channels k n)
          (fit.forest.links.channels k n)
      by None e = subst (λ o. Here (channel_lines m k n (channel_in o n))) (sym e) tt

  link_reads : (l : ℕ) → l < 16 → (o : Option Pipe) → IfSome o PipeWorded → Here (link_lines l o)
  link_reads l b None h = tt
  link_reads l b (Some p) h =
      read_append m.version (in_rows (saves.Sent l) 16 4 p.words) (shut_line l false p ++ shut_line l true p)
      (read_rows m.version (2 ^ 36) (saves.Sent l) 15
      (λ x xs few w. record { inside = tt; fits = (omega arith, (omega arith, omega arith)); words = are_words (x ∷ xs) w })
      4 p.words h.words)
      (read_append m.version (shut_line l false p) (shut_line l true p) (by false (is_closed (link_end false p.link))) (by true (is_closed (link_end true p.link))))
    where
      by : (w t : Bool) → Here (if t then saves.EndShut l w ∷ [] else [])
      by w true = (record { inside = tt; fits = omega arith; words = tt }, tt)
      by w false = tt

  console_reads : (c : ℕ) → c < 8 → Here (console_lines m.consoles c)
  console_reads c l =
      let x = m.consoles c in
      let b = worded.consoles c in
      read_append m.version (in_rows (saves.Bytes c false) 32 2 x.input) (in_rows (saves.Bytes c true) 32 2 x.output)
      (read_rows m.version 128 (saves.Bytes c false) 31
      (λ y ys few w. record { inside = tt; fits = (omega arith, omega arith, omega arith, are_bytes (y ∷ ys) w); words = tt })
      2 x.input b.input)
      (read_rows m.version 128 (saves.Bytes c true) 31
      (λ y ys few w. record { inside = tt; fits = (omega arith, omega arith, omega arith, are_bytes (y ∷ ys) w); words = tt })
      2 x.output b.output)

  holder_reads : (c : ℕ) → c < 8 → (o : Option ℕ) → IfSome o (λ s. is_some (m.jobs s) ≡ true) → Here (holder_line c o)
  holder_reads c l None h = tt
  holder_reads c l (Some s) h = (record { inside = tt; fits = (omega arith, slot_some s h); words = tt }, tt)

  pub machine_reads : SystemThen m.version (saved m)
  unfolding saved
  machine_reads =
      let v = m.version in
      let early = fit.timed in (
        refl,
        (
          record { inside = tt; fits = omega arith; words = tt },
          read_append v (files_lines m.files) _ (files_read v m.files named.files worded.files)
              (read_append v (each (λ k. job_lines m.symbols k (m.jobs k)) slots) _
              (read_each v (λ k. job_lines m.symbols k (m.jobs k)) slots (λ k l. job_reads k (m.jobs k) refl))
              (read_append v (each (λ k. under_line k (m.jobs k)) slots) _
              (read_each v (λ k. under_line k (m.jobs k)) slots (λ k l. under_reads k (m.jobs k) refl))
              (read_append v (each (λ k. alarm_line k (m.jobs k)) slots) _
              (read_each v (λ k. alarm_line k (m.jobs k)) slots (λ k l. alarm_reads k (m.jobs k) refl))
              (read_append v (each (λ k. each (λ n. channel_lines m k n (channel_in (m.jobs k) n)) 16) slots) _
              (read_each v (λ k. each (λ n. channel_lines m k n (channel_in (m.jobs k) n)) 16) slots
              (λ k l. read_each v (λ n. channel_lines m k n (channel_in (m.jobs k) n)) 16 (λ n b. channels_read k n b)))
              (read_append v (each (λ l. link_lines l (m.links l)) most_links) _
              (read_each v (λ l. link_lines l (m.links l)) most_links (λ l b. link_reads l b (m.links l) (worded.links l)))
              (read_append v (each (console_lines m.consoles) consoles) (each (λ c. holder_line c (m.holders c)) consoles)
              (read_each v (console_lines m.consoles) consoles (λ c b. console_reads c b))
              (read_each v (λ c. holder_line c (m.holders c)) consoles (λ c b. holder_reads c b (m.holders c) (fit.forest.holders c))))))))),
        ),
      )

  -- and so does TURN, if its slot is one of the version
  pub turn_reads : (turn : ℕ) → (turn ≡ highest) ⊎ (turn ≤ last_slot m.version) → AllRead m.version (turn_lines turn)
  turn_reads turn h = by (turn == highest) refl
    where
      in_range : (turn ≡ highest) ⊎ (turn ≤ last_slot m.version) → (turn == highest) ≡ false → turn ≤ last_slot m.version
      in_range (inl e) n = absurd (let x : (turn == highest) ≡ true = grind (arith, nat_tests) in let z = sym x ∙ n in cc)
      in_range (inr l) n = l

      by : (t : Bool) → (turn == highest) ≡ t → AllRead m.version (if t then [] else states.Turn turn ∷ [])
      by true e = tt
      by false e = (record { inside = tt; fits = in_range h e; words = tt }, tt)
