-- Each line that is written of a machine comes after the FILE line of its file, or the JOB line of
-- its job.
use Rattle.std.specs.Prelude.{if◌then◌else◌, ◌≡◌, ◌<◌, ℕ, zero, suc, ◌+◌, ◌^◌, Bool, true, false, Option, Some, None, List, [], ◌∷◌, ◌++◌, length, take, drop, refl}
use Rattle.std.proofs.Common.{sym, subst, arith}
use Rattle.its_word.specs.Core.{Core, Page, page_of}
use Rattle.its_word.specs.Limits.{slots, consoles}
use Rattle.its_word.specs.Console.{Console}
use Rattle.its_records.specs.Links.{most_links, link_end, is_closed}
use Rattle.its_plain.specs.Machine.{File, Chan, Shut, TtyIn, TtyOut, Reads, Writes, On, Linked, Symbol, Pipe, Whole, Machine}
use Rattle.its_plain.specs.Machine.Change.{channel_in}
use Rattle.its_plain.specs.Operator.{Block, no_block}
use Rattle.its_saved.specs.StateLine.{StateLine}
use Rattle.its_saved.specs.StateLine as state
use Rattle.its_saved.specs.Saving.{each, in_rows, files_lines, cells_below, is_next, rows_from, rows, word_lines, read_only_line, read_only_lines, core_lines, symbol_lines, registers_of, job_lines, under_by, under_line, alarm_by, alarm_line, channel_lines, shut_line, link_lines, console_lines, holder_line, saved}
use Rattle.its_saved.specs.WellFormed.{AllNamed, NamedOn, Named}
use Rattle.its_saved.proofs.ObeyedLaws.{IsAbout, block_past}

-- each line is about the last FILE line or JOB line before it
abbrev pub AllAbout : Block → List StateLine → Type 0
AllAbout b [] = Unit {0}
AllAbout b (l ∷ ls) = IsAbout b l × AllAbout (block_past b l) ls

-- lines that are all about the same
record Keeps (b : Block) (l : StateLine) : Type 0 where
  about : IsAbout b l
  past : block_past b l ≡ b

abbrev Within : Block → List StateLine → Type 0
Within b [] = Unit {0}
Within b (l ∷ ls) = Keeps b l × Within b ls

within_append : (b : Block) (xs ys : List StateLine) → Within b xs → Within b ys → Within b (xs ++ ys)
within_append b [] ys h r = r
within_append b (x ∷ xs) ys h r = (h.0, within_append b xs ys h.1 r)

within_each : (b : Block) (f : ℕ → List StateLine) (n : ℕ) → ((k : ℕ) → k < n → Within b (f k)) → Within b (each f n)
within_each b f zero h = tt
within_each b f (suc n) h = within_append b (each f n) (f n) (within_each b f n (λ k l. h k (omega arith))) (h n (omega arith))

-- rows of words, of which none is empty
within_rows : (b : Block) (line : List ℕ → StateLine) → ((w : ℕ) (ws : List ℕ) → Keeps b (line (w ∷ ws))) → (size n : ℕ) (ws : List ℕ)
    → Within b (in_rows line (suc size) n ws)
within_rows b line h size zero ws = tt
within_rows b line h size (suc n) [] = tt
within_rows b line h size (suc n) (w ∷ ws) = (h w (take size ws), within_rows b line h size n (drop size ws))

-- then lines that are about the same
then_about : (b : Block) (xs ys : List StateLine) → Within b xs → AllAbout b ys → AllAbout b (xs ++ ys)
then_about b [] ys h r = r
then_about b (x ∷ xs) ys h r = (h.0.about, subst (λ c. AllAbout c (xs ++ ys)) (sym h.0.past) (then_about b xs ys h.1 r))

within_about : (b : Block) (ls : List StateLine) → Within b ls → AllAbout b ls
within_about b [] h = tt
within_about b (l ∷ ls) h = (h.0.about, subst (λ c. AllAbout c ls) (sym h.0.past) (within_about b ls h.1))

-- then lines that begin with a FILE line or a JOB line of their own
about_append : (b : Block) (xs ys : List StateLine) → AllAbout b xs → ((c : Block) → AllAbout c ys) → AllAbout b (xs ++ ys)
about_append b [] ys h r = r b
about_append b (x ∷ xs) ys h r = (h.0, about_append (block_past b x) xs ys h.1 r)

about_each : (f : ℕ → List StateLine) (n : ℕ) → ((k : ℕ) → k < n → (c : Block) → AllAbout c (f k)) → (b : Block) → AllAbout b (each f n)
about_each f zero h b = tt
about_each f (suc n) h b = about_append b (each f n) (f n) (about_each f n (λ k l c. h k (omega arith) c) b) (λ c. h n (omega arith) c)

-- files
files_about : (fs : List File) → AllNamed fs → (b : Block) → AllAbout b (files_lines fs)
files_about [] h b = tt
files_about (f ∷ fs) h b =
    let c : Block = record b { file = f.names } in (
      h.0,
      about_append c (in_rows (state.FileWords f.names) 16 (length f.words) f.words) (files_lines fs)
          (within_about c _ (within_rows c (state.FileWords f.names) (λ w ws. record { about = refl; past = refl }) 15 (length f.words) f.words))
          (λ d. files_about fs h.1 d),
    )

-- the core, the symbols and the registers of a job
module _ (b : Block) (s : ℕ) (is : b.slot ≡ s) where
  row_within : (t : Bool) (xs ys : List StateLine) → Within b xs → Within b ys → Within b (if t then xs else ys)
  row_within true xs ys h r = h
  row_within false xs ys h r = r

  rows_from_within : (a : ℕ) (ws : List ℕ) (cells : List (ℕ × ℕ)) → Within b (rows_from s a ws cells)
  rows_from_within a ws [] = (record { about = is; past = refl }, tt)
  rows_from_within a ws (c ∷ cells) =
      row_within (is_next a ws c.0) (rows_from s a (ws ++ c.1 ∷ []) cells) (state.CoreWords s a ws ∷ rows_from s c.0 (c.1 ∷ []) cells)
      (rows_from_within a (ws ++ c.1 ∷ []) cells)
      (record { about = is; past = refl }, rows_from_within c.0 (c.1 ∷ []) cells)

  rows_within : (cells : List (ℕ × ℕ)) → Within b (rows s cells)
  rows_within [] = tt
  rows_within (c ∷ cells) = rows_from_within c.0 (c.1 ∷ []) cells

  page_within : (k : ℕ) (o : Option Page) → Within b (read_only_line s k o)
  page_within k None = tt
  page_within k (Some p) = row_within p.writable [] (state.ReadOnly s k ∷ []) tt (record { about = is; past = refl }, tt)

  core_within : (c : Core) → Within b (core_lines s c)
  unfolding word_lines read_only_lines
  core_within c =
      within_append b (word_lines s c) (read_only_lines s c) (rows_within (cells_below c (2 ^ 18)))
      (within_each b (λ k. read_only_line s k (page_of c k)) 256 (λ k l. page_within k (page_of c k)))

  symbols_within : (xs : List Symbol) → Within b (symbol_lines s xs)
  symbols_within [] = tt
  symbols_within (x ∷ xs) = (record { about = is; past = refl }, symbols_within xs)

job_about : (symbols : ℕ → List Symbol) (s : ℕ) (o : Option Whole) (b : Block) → AllAbout b (job_lines symbols s o)
job_about symbols s None b = tt
job_about symbols s (Some q) b =
    let c : Block = record b { slot = s } in (
      tt,
      then_about c (core_lines s q.core) (symbol_lines s (symbols s) ++ state.Regs s (registers_of q.job) ∷ []) (core_within c s refl q.core)
          (then_about c (symbol_lines s (symbols s)) (state.Regs s (registers_of q.job) ∷ []) (symbols_within c s refl (symbols s)) (refl, tt)),
    )

-- what comes after the jobs is about no FILE line and no JOB line
module _ (b : Block) where
  under_within : (s : ℕ) (o : Option Whole) → Within b (under_line s o)
  under_within s None = tt
  under_within s (Some q) = by q.superior
    where
      by : (t : Option ℕ) → Within b (under_by s t)
      by None = tt
      by (Some t) = (record { about = tt; past = refl }, tt)

  alarm_within : (s : ℕ) (o : Option Whole) → Within b (alarm_line s o)
  alarm_within s None = tt
  alarm_within s (Some q) = by q.alarm
    where
      by : (a : Option (ℕ × ℕ)) → Within b (alarm_by s a)
      by None = tt
      by (Some a) = (record { about = tt; past = refl }, tt)

  channel_within : (m : Machine) (s n : ℕ) → n < 16 → (c : Chan) → NamedOn c → Within b (channel_lines m s n c)
  channel_within m s n l Shut h = tt
  channel_within m s n l TtyIn h = (record { about = tt; past = refl }, tt)
  channel_within m s n l TtyOut h = (record { about = tt; past = refl }, tt)
  channel_within m s n l (Reads x at) h = (record { about = h; past = refl }, tt)
  channel_within m s n l (Writes f) h =
      (record { about = h; past = refl }, within_rows b (state.Wrote s n) (λ w ws. record { about = l; past = refl }) 15 (length f.words) f.words)
  channel_within m s n l (On t w at) h = (record { about = tt; past = refl }, tt)
  channel_within m s n l (Linked j w) h = (record { about = tt; past = refl }, tt)

  shut_within : (l : ℕ) (w : Bool) (p : Pipe) → Within b (shut_line l w p)
  shut_within l w p = by (is_closed (link_end w p.link))
    where
      by : (t : Bool) → Within b (if t then state.EndShut l w ∷ [] else [])
      by true = (record { about = tt; past = refl }, tt)
      by false = tt

  link_within : (l : ℕ) (o : Option Pipe) → Within b (link_lines l o)
  link_within l None = tt
  link_within l (Some p) =
      within_append b (in_rows (state.Sent l) 16 4 p.words) (shut_line l false p ++ shut_line l true p)
      (within_rows b (state.Sent l) (λ w ws. record { about = tt; past = refl }) 15 4 p.words)
      (within_append b (shut_line l false p) (shut_line l true p) (shut_within l false p) (shut_within l true p))

  console_within : (at : ℕ → Console) (c : ℕ) → Within b (console_lines at c)
  console_within at c =
      within_append b (in_rows (state.Bytes c false) 32 2 (at c).input) (in_rows (state.Bytes c true) 32 2 (at c).output)
      (within_rows b (state.Bytes c false) (λ w ws. record { about = tt; past = refl }) 31 2 (at c).input)
      (within_rows b (state.Bytes c true) (λ w ws. record { about = tt; past = refl }) 31 2 (at c).output)

  holder_within : (c : ℕ) (o : Option ℕ) → Within b (holder_line c o)
  holder_within c None = tt
  holder_within c (Some s) = (record { about = tt; past = refl }, tt)

  rest_within : (m : Machine) → Named m → Within b (each (λ k. under_line k (m.jobs k)) slots
      ++ (each (λ k. alarm_line k (m.jobs k)) slots
      ++ (each (λ k. each (λ n. channel_lines m k n (channel_in (m.jobs k) n)) 16) slots
      ++ (each (λ l. link_lines l (m.links l)) most_links
      ++ (each (console_lines m.consoles) consoles
      ++ each (λ c. holder_line c (m.holders c)) consoles)))))
  rest_within m named =
      within_append b _ _ (within_each b (λ k. under_line k (m.jobs k)) slots (λ k l. under_within k (m.jobs k)))
      (within_append b _ _ (within_each b (λ k. alarm_line k (m.jobs k)) slots (λ k l. alarm_within k (m.jobs k)))
      (within_append b _ _ (within_each b (λ k. each (λ n. channel_lines m k n (channel_in (m.jobs k) n)) 16) slots
      (λ k l. within_each b (λ n. channel_lines m k n (channel_in (m.jobs k) n)) 16 (λ n h. channel_within m k n h (channel_in (m.jobs k) n) (named.channels k n))))
      (within_append b _ _ (within_each b (λ l. link_lines l (m.links l)) most_links (λ l h. link_within l (m.links l)))
      (within_append b _ _ (within_each b (console_lines m.consoles) consoles (λ c h. console_within m.consoles c))
      (within_each b (λ c. holder_line c (m.holders c)) consoles (λ c h. holder_within c (m.holders c)))))))

pub saved_about : (m : Machine) → Named m → AllAbout no_block (saved m)
unfolding saved
saved_about m named = (
  tt,
  (
    tt,
    about_append no_block (files_lines m.files) _ (files_about m.files named.files no_block)
        (λ c. about_append c (each (λ k. job_lines m.symbols k (m.jobs k)) slots) _
        (about_each (λ k. job_lines m.symbols k (m.jobs k)) slots (λ k l b. job_about m.symbols k (m.jobs k) b) c)
        (λ b. within_about b _ (rest_within b m named))),
  ),
)
