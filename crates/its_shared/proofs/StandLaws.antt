-- What the facts on numbers of files and drafts say of channels.
use Rattle.std.specs.Prelude.{◌≡◌, ◌≢◌, ◌<◌, ◌≤◌, ℕ, ◌*◌, Bool, true, false, Option, Some, None, List, length, count_by, sum_by, slice_index_or, cond, refl, nat_lt}
use Rattle.std.specs.List.{range_with_len, list_any}
use Rattle.std.proofs.Common.{sym, ◌∙◌, ap, inl, inr, arith}
use Rattle.std.proofs.lemmas.Bool.{cases_eq, cases_lt, both_ways, lt-ltb, eq-eqb}
use Rattle.std.proofs.lemmas.List.{get_or_past}
use Rattle.std.proofs.lemmas.List.FromFn.{length-range_with_len, get_or-range_with_len}
use Rattle.std.proofs.lemmas.List.Folds.{list_any_at, Any-from_list_any}
use Rattle.its_word.specs.Limits.{slots}
use Rattle.its_records.specs.declared.jobs.Channel.{Channel}
use Rattle.its_records.specs.declared.jobs.Channel.TheVariants.{Closed, Reading, Writing}
use Rattle.its_jobs.specs.Table.{Table}
use Rattle.its_files.specs.Files.{Store, entry_at, is_file, is_draft, readers_at, is_marked, is_marked_by, marked_draft, found, IsStore, entry_in, drafts, one_if}
use Rattle.its_files.specs.Opening.{up_to}
use Rattle.its_files.specs.declared.entry.Entry.{Entry}
use Rattle.its_files.specs.declared.entry.Entry.TheVariants.{File, Draft}
use Rattle.its_files.proofs.ListLaws.{sum_alike}
use Rattle.its_files.proofs.EntryLaws.{reader_file}
use Rattle.its_plain.specs.Machine.{Names, Chan}
use Rattle.its_plain.specs.Call.File.{is_read, reads as reads_names}
use Rattle.its_shared.specs.Parts.{chan_of}
use Rattle.its_shared.specs.Across.{channel_at, tally, reads_file, writes_draft, writers, Across}
use Rattle.its_shared.proofs.StoreLaws.{found_is, found_names}
use Rattle.its_shared.proofs.TallyLaws.{weight_within, tally_few, tally_some, tally_below, tally_drafts, of_draft, no_other, reads_few, reads_here, reads_number, writes_here}

-- a draft that is not marked
pub record IsOpen (s : Store) (d : ℕ) : Type 0 where
  pub draft : is_draft (entry_at s d) ≡ true
  pub unmarked : is_marked s d ≡ false

open_by : (e : Option Entry) (b : Bool) → writers e b ≢ 0 → (is_draft e ≡ true) × (b ≡ false)
open_by (Some (Draft names)) false h = (refl, refl)
open_by (Some (Draft names)) true h = absurd (h refl)
open_by (Some (File names readers)) b h = absurd (h refl)
open_by None b h = absurd (h refl)

pub writers_few : (e : Option Entry) (b : Bool) → writers e b ≤ 1
writers_few (Some (Draft names)) false = omega arith
writers_few (Some (Draft names)) true = omega arith
writers_few (Some (File names readers)) b = omega arith
writers_few None b = omega arith

pub file_writers : (e : Option Entry) (b : Bool) → is_file e ≡ true → writers e b ≡ 0
file_writers (Some (File names readers)) b h = refl
file_writers (Some (Draft names)) b h = cc
file_writers None b h = refl

pub marked_writers : (e : Option Entry) → writers e true ≡ 0
marked_writers (Some (Draft names)) = refl
marked_writers (Some (File names readers)) = refl
marked_writers None = refl

pub not_marked : (s : Store) (d : ℕ) → is_marked s d ≡ false → marked_draft s.mark ≡ Some d → ⊥
not_marked s d h e = both_ways (is_marked s d) h (ap (λ o. is_marked_by o d) e ∙ eq-eqb d d refl)

pub draft_writers : (e : Option Entry) → is_draft e ≡ true → writers e false ≡ 1
draft_writers (Some (Draft names)) h = refl
draft_writers (Some (File names readers)) h = cc
draft_writers None h = cc

pub unmarked_all : (s : Store) (d : ℕ) → s.mark ≡ None → is_marked s d ≡ false
unmarked_all s d e = ap (λ m. is_marked_by (marked_draft m) d) e

module _ (s : Store) (t : Table) (a : Across s t) where
  -- a channel that weighs is one of those of the slots
  among : (w : Channel → ℕ) (k n : ℕ) → w Closed ≡ 0 → w (channel_at t k n) ≢ 0 → (k < slots) × (n < 16)
  among w k n none some = elim (cases_lt k slots) [
    | inl lk ↦ elim (cases_lt n 16) [
      | inl ln ↦ (lk, ln)
      | inr ge ↦ absurd (some (ap w (a.past_numbers k n ge) ∙ none))
    ]
    | inr ge ↦ absurd (some (ap w (a.past_slots k n ge) ∙ none))
  ]

  -- a channel that reads is on a file that exists and counts it
  pub read_stands : (k n f : ℕ) → reads_file f (channel_at t k n) ≢ 0 → 0 < readers_at s f
  read_stands k n f some =
      let p = among (reads_file f) k n refl some in
      let w = weight_within (reads_file f) (channel_at t) k n p.0 p.1 in
      let r = a.read f in
      elim (cases_eq (readers_at s f) 0) [
        | inl none ↦ absurd (some (omega arith))
        | inr ne ↦ omega arith
      ]

  pub reading_stands : (k n f at : ℕ) → channel_at t k n ≡ Reading f at → 0 < readers_at s f
  reading_stands k n f at e = read_stands k n f (λ z. let o = reads_here f at in let h = ap (reads_file f) e in omega arith)

  pub reading_file : (k n f at : ℕ) → channel_at t k n ≡ Reading f at → is_file (entry_at s f) ≡ true
  reading_file k n f at e = reader_file (entry_at s f) (reading_stands k n f at e)

  pub readers_few : (f : ℕ) → readers_at s f ≤ 16 * slots
  readers_few f = let r = a.read f in let l = tally_few (reads_file f) (channel_at t) (reads_few f) in omega arith

  -- one that writes is on a draft that exists and is not marked, and no other channel is on it
  pub write_stands : (k n d : ℕ) → writes_draft d (channel_at t k n) ≢ 0 → IsOpen s d
  write_stands k n d some =
      let p = among (writes_draft d) k n refl some in
      let w = weight_within (writes_draft d) (channel_at t) k n p.0 p.1 in
      let r = a.written d in
      let o = open_by (entry_at s d) (is_marked s d) (λ z. some (omega arith)) in
      record { draft = o.0; unmarked = o.1 }

  pub writing_stands : (k n d : ℕ) → channel_at t k n ≡ Writing d → IsOpen s d
  writing_stands k n d e = write_stands k n d (λ z. let o = writes_here d in let h = ap (writes_draft d) e in omega arith)

  pub writing_draft : (k n d : ℕ) → channel_at t k n ≡ Writing d → is_draft (entry_at s d) ≡ true
  writing_draft k n d e = (writing_stands k n d e).draft

  pub writing_alone : (j n k m d : ℕ) → channel_at t j n ≡ Writing d → (k ≡ j → m ≢ n) → writes_draft d (channel_at t k m) ≡ 0
  writing_alone j n k m d e apart =
      let one : writes_draft d (channel_at t j n) ≡ 1 = ap (writes_draft d) e ∙ writes_here d in
      let p = among (writes_draft d) j n refl (λ z. omega arith) in
      let r = a.written d in
      let l = writers_few (entry_at s d) (is_marked s d) in
      elim (cases_eq (writes_draft d (channel_at t k m)) 0) [
        | inl none ↦ none
        | inr some ↦
            let q = among (writes_draft d) k m refl some in
            no_other (writes_draft d) (channel_at t) j n k m refl p.0 p.1 q.0 q.1 apart (omega arith)
      ]

  -- a number that no channel reads, or none writes
  pub read_by_none : (k n f : ℕ) → readers_at s f ≡ 0 → reads_file f (channel_at t k n) ≡ 0
  read_by_none k n f none = elim (cases_eq (reads_file f (channel_at t k n)) 0) [
    | inl e ↦ e
    | inr some ↦ let r = read_stands k n f some in absurd (omega arith)
  ]

  pub written_by_none : (k n d : ℕ) → writers (entry_at s d) (is_marked s d) ≡ 0 → writes_draft d (channel_at t k n) ≡ 0
  written_by_none k n d none = elim (cases_eq (writes_draft d (channel_at t k n)) 0) [
    | inl e ↦ e
    | inr some ↦
        let w = write_stands k n d some in
        let h = ap (writers (entry_at s d)) w.unmarked ∙ draft_writers (entry_at s d) w.draft in
        absurd (omega arith)
  ]

-- whether some number below n passes
any_below : (p : ℕ → Bool) (i n : ℕ) → i < n → p i ≡ true → list_any p (range_with_len 0 n) ≡ true
any_below p i n lt h =
    let l = length-range_with_len 0 n in
    let z : slice_index_or (range_with_len 0 n) i 0 ≡ i = let e = get_or-range_with_len 0 n i 0 lt in omega arith in
    list_any_at p (range_with_len 0 n) i 0 (omega arith) (ap p z ∙ h)

some_below : (p : ℕ → Bool) (n : ℕ) → list_any p (range_with_len 0 n) ≡ true → (i : ℕ) × (i < n) × (p i ≡ true)
some_below p n h =
    let a = Any-from_list_any p (range_with_len 0 n) h in
    let l = length-range_with_len 0 n in
    let lt : a.0 < n = let k = a.2 in omega arith in
    let e : a.0 ≡ a.1 = let f = a.3 in let g = get_or-range_with_len 0 n a.0 a.1 lt in omega arith in
    (a.0, lt, ap p e ∙ a.4)

-- whether a channel reads a file: it has readers
module _ (s : Store) (t : Table) (whole : IsStore s) (a : Across s t) (names : Names) where
  abbrev chans : ℕ → ℕ → Chan
  chans k n = chan_of s (channel_at t k n)

  reader_by : (k n : ℕ) (c : Channel) → channel_at t k n ≡ c → reads_names names (chan_of s c) ≡ true → (g : ℕ) × (found s names ≡ Some g)
      × (0 < readers_at s g)
  reader_by k n (Reading f at) e h = (f, found_is s whole names f (reading_file s t a k n f at e) h, reading_stands s t a k n f at e)
  reader_by k n _ e h = cc

  pub reader_found : is_read names chans ≡ true → (g : ℕ) × (found s names ≡ Some g) × (0 < readers_at s g)
  unfolding is_read
  reader_found h =
      let k = some_below (λ i. list_any (λ m. reads_names names (chans i m)) (range_with_len 0 16)) slots h in
      let n = some_below (λ m. reads_names names (chans k.0 m)) 16 k.2 in
      reader_by k.0 n.0 (channel_at t k.0 n.0) refl n.2

  pub found_reader : (f : ℕ) → found s names ≡ Some f → 0 < readers_at s f → is_read names chans ≡ true
  unfolding is_read
  found_reader f is some =
      let w = tally_some (reads_file f) (channel_at t) (λ z. let r = a.read f in omega arith) in
      let c = reads_number f (channel_at t w.slot w.number) w.some in
      let h : reads_names names (chans w.slot w.number) ≡ true = ap (λ x. reads_names names (chan_of s x)) c.1 ∙ found_names s whole names f is in
      any_below (λ i. list_any (λ m. reads_names names (chans i m)) (range_with_len 0 16)) w.slot slots w.slot_below
      (any_below (λ m. reads_names names (chans w.slot m)) w.number 16 w.number_below h)

  read_by : (f : ℕ) (b : Bool) → is_read names chans ≡ b → found s names ≡ Some f → b ≡ nat_lt 0 (readers_at s f)
  read_by f true e is =
      let g = reader_found e in
      let same : g.0 ≡ f = cc in
      let l = g.2 in
      let r = ap (readers_at s) same in
      sym (lt-ltb 0 (readers_at s f) (omega arith))
  read_by f false e is = elim (cases_eq (readers_at s f) 0) [
    | inl none ↦ ap (nat_lt 0) (sym none)
    | inr some ↦ absurd (both_ways (is_read names chans) e (found_reader f is (omega arith)))
  ]

  pub read_is : (f : ℕ) → found s names ≡ Some f → is_read names chans ≡ nat_lt 0 (readers_at s f)
  read_is f is = read_by f (is_read names chans) refl is

  pub unread_is : (f : ℕ) → is_read names chans ≡ false → found s names ≡ Some f → readers_at s f ≡ 0
  unread_is f e is = elim (cases_eq (readers_at s f) 0) [
    | inl none ↦ none
    | inr some ↦ absurd (both_ways (is_read names chans) e (found_reader f is (omega arith)))
  ]

-- how many drafts there are, if no close is marked: fewer than channels
counted : (p : Option Entry → Bool) (es : List (Option Entry)) → sum_by (λ d. one_if (p (entry_in es d))) (up_to (length es)) ≡ count_by p es
unfolding up_to
counted p es =
    let l = length-range_with_len 0 (length es) in
    sum_alike (λ d. one_if (p (entry_in es d))) (λ e. cond (p e) 1 0) (range_with_len 0 (length es)) es 0 None l
    (λ k lt. let z : slice_index_or (range_with_len 0 (length es)) k 0 ≡ k = let e = get_or-range_with_len 0 (length es) k 0 (omega arith)
    in omega arith in ap (λ d. one_if (p (entry_in es d))) z)

draft_once : (e : Option Entry) → writers e false * one_if (is_draft e) ≡ one_if (is_draft e)
draft_once (Some (Draft names)) = refl
draft_once (Some (File names readers)) = refl
draft_once None = refl

draft_few : (v : ℕ → ℕ) → ((d : ℕ) → v d ≤ 1) → (c : Channel) → of_draft v c ≤ 1
draft_few v h (Writing d) = h d
draft_few v h _ = omega arith

one_few : (b : Bool) → one_if b ≤ 1
one_few true = omega arith
one_few false = omega arith

pub drafts_below : (s : Store) (t : Table) (j n : ℕ) → Across s t → s.mark ≡ None → j < slots → n < 16 → channel_at t j n ≡ Closed → drafts s < 16 * slots
drafts_below s t j n a none lj ln closed =
    let v : ℕ → ℕ = λ d. one_if (is_draft (entry_at s d)) in
    let past = λ (d : ℕ) (le : length s.entries ≤ d). ap (λ e. one_if (is_draft e)) (get_or_past s.entries d None le) in
    let sum = tally_drafts v (length s.entries) (channel_at t) past in
    let each : sum_by (λ d. tally (writes_draft d) (channel_at t) * v d) (up_to (length s.entries)) ≡ sum_by v (up_to (length s.entries)) =
    λ i. sum_by (λ d. (ap (λ m. m * v d) (a.written d ∙ ap (writers (entry_at s d)) (unmarked_all s d none)) ∙ draft_once (entry_at s d)) i)
    (up_to (length s.entries)) in
    let count = counted is_draft s.entries in
    let l = tally_below (of_draft v) (channel_at t) j n (draft_few v (λ d. one_few (is_draft (entry_at s d)))) lj ln (ap (of_draft v) closed) in
    omega arith
