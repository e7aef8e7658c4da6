-- What loops find of the parts of a world, one after another.
use Rattle.std.specs.Prelude.{◌≡◌, ◌<◌, ◌≤◌, ◌^◌, ℕ, zero, suc, ◌+◌, ◌-◌, ◌*◌, ◌/◌, ◌%◌, false, Option, Some, None, IfSome, List, [], ◌∷◌, length, get_or, slice_get, slice_index_or, refl}
use Rattle.std.proofs.Common.{sym, ◌∙◌, ap, subst, arith, inl, inr}
use Rattle.std.proofs.lemmas.Bool.{cases_lt, le-ltb}
use Rattle.std.proofs.lemmas.List.{get_or_past}
use Rattle.std.proofs.lemmas.Option.{slice_get_past}
use Rattle.its_word.specs.Console.{Console}
use Rattle.its_word.specs.Core.{Core, IsWhole, present, page_of, word_at, word_in}
use Rattle.its_word.specs.Limits.{consoles}
use Rattle.its_word.proofs.CoreLaws.{in_page}
use Rattle.its_records.specs.declared.link.Link.{Link}
use Rattle.its_records.specs.declared.jobs.Channel.{Channel}
use Rattle.its_records.specs.declared.jobs.Channel.TheVariants.{Closed}
use Rattle.its_core.specs.Cores.{Cores, core_at, mark_of}
use Rattle.its_files.specs.Blocks.{numbers, text_at}
use Rattle.its_files.specs.Files.{Store, IsStore, entry_at, is_file, is_draft, names_by, words_by, file_at}
use Rattle.its_files.specs.declared.entry.Entry.{Entry}
use Rattle.its_files.specs.declared.entry.Entry.TheVariants.{File, Draft}
use Rattle.its_pipes.specs.Pipes.{Piping, piped, pipe_by, link_in, queue_at}
use Rattle.its_plain.specs.Machine.{Symbol}
use Rattle.its_plain.specs.Call.Link.{words_in}
use Rattle.its_shared.specs.Parts.{console_at, holder_at}
use Rattle.its_world.specs.declared.world.World.{World}
use Rattle.its_saved.specs.WellFormed.{FewBytes}
use Rattle.its_saved.specs.Readable.{AllBelow, FileWorded, PipeWorded}
use Rattle.its_saving.specs.Keeping.{IsWord, TextTo, CoreTo, WordsFrom, NamesTo, PlacedOn, PlacesTo, SlotKeeps, SlotsTo, FilesTo, LinksTo, ConsolesTo}
use Rattle.its_saving.proofs.CellLaws.{mark_none, word_none}

-- one number more
next : (P : ℕ → Type 0) (n : ℕ) → ((k : ℕ) → k < n → P k) → P n → (k : ℕ) → k < n + 1 → P k
next P n h p k l = elim (cases_lt k n) [
  | inl lt ↦ h k lt
  | inr ge ↦ let e : n ≡ k = omega arith in subst P e p
]

none : (P : ℕ → Type 0) (k : ℕ) → k < 0 → P k
none P k l = absurd (omega arith)

pub text_start : (ws : List ℕ) → TextTo ws 0
text_start ws = record { each = none (λ k. IfSome (slice_get ws k) IsWord) }

pub text_next : (ws : List ℕ) (n : ℕ) → TextTo ws n → IfSome (slice_get ws n) IsWord → TextTo ws (n + 1)
text_next ws n t p = record { each = next (λ k. IfSome (slice_get ws k) IsWord) n t.each p }

pub words_start : (m : Cores) (s from : ℕ) → WordsFrom m s from 0
words_start m s from = record { each = none (λ k. IfSome (word_at (core_at m s) (from + k)) IsWord) }

pub words_next : (m : Cores) (s from n : ℕ) → WordsFrom m s from n → IfSome (word_at (core_at m s) (from + n)) IsWord → WordsFrom m s from (n + 1)
words_next m s from n t p = record { each = next (λ k. IfSome (word_at (core_at m s) (from + k)) IsWord) n t.each p }

-- a page that is absent has no words but the accumulators, which are at addresses of page 0
pub words_absent : (m : Cores) (s page : ℕ) → 1 ≤ page → mark_of (page_of (core_at m s) page) ≡ None → WordsFrom m s (page * 1024) 1024
words_absent m s page later absent = record {
  each = λ k l. subst (λ o. IfSome o IsWord)
      (sym (word_none (core_at m s) page (page * 1024 + k) (mark_none (page_of (core_at m s) page) absent) (omega arith) (omega arith) (omega arith))) tt;
}

-- the words of one page after another
pub core_first : (m : Cores) (s : ℕ) → WordsFrom m s 0 1024 → CoreTo m s (1 * 1024)
core_first m s w = record {
  each = λ a l. let e : 0 + a ≡ a = omega arith in subst (λ x. IfSome (word_at (core_at m s) x) IsWord) e (w.each a l);
}

pub core_next : (m : Cores) (s page : ℕ) → CoreTo m s (page * 1024) → WordsFrom m s (page * 1024) 1024 → CoreTo m s ((page + 1) * 1024)
core_next m s page t w = record {
  each = λ a l. elim (cases_lt a (page * 1024)) [
    | inl lt ↦ t.each a lt
    | inr ge ↦
        let e : page * 1024 + (a - page * 1024) ≡ a = omega arith in
        subst (λ x. IfSome (word_at (core_at m s) x) IsWord) e (w.each (a - page * 1024) (omega arith))
  ];
}

pub core_all : (m : Cores) (s n : ℕ) → n ≡ 256 → CoreTo m s (n * 1024) → CoreTo m s (2 ^ 18)
core_all m s n e t = record { each = λ a l. t.each a (omega arith) }

pub names_start : (xs : List Symbol) → NamesTo xs 0
names_start xs = record { each = none (λ k. IfSome (slice_get xs k) (λ x. x.0 < 2 ^ 36)) }

pub names_next : (xs : List Symbol) (n : ℕ) → NamesTo xs n → IfSome (slice_get xs n) (λ x. x.0 < 2 ^ 36) → NamesTo xs (n + 1)
names_next xs n t p = record { each = next (λ k. IfSome (slice_get xs k) (λ x. x.0 < 2 ^ 36)) n t.each p }

pub places_start : (cs : List Channel) → PlacesTo cs 0
places_start cs = record { each = none (λ k. PlacedOn (slice_index_or cs k Closed)) }

pub places_next : (cs : List Channel) (n : ℕ) → PlacesTo cs n → PlacedOn (slice_index_or cs n Closed) → PlacesTo cs (n + 1)
places_next cs n t p = record { each = next (λ k. PlacedOn (slice_index_or cs k Closed)) n t.each p }

pub slots_start : (w : World) → SlotsTo w 0
slots_start w = record { each = none (SlotKeeps w) }

pub slots_next : (w : World) (n k : ℕ) → k ≡ n → SlotsTo w n → SlotKeeps w k → SlotsTo w (n + 1)
slots_next w n k e t p = record { each = next (SlotKeeps w) n t.each (subst (SlotKeeps w) e p) }

pub files_start : (f : Store) → FilesTo f 0
files_start f = record { each = none (λ id. FileWorded (file_at f id)) }

pub files_next : (f : Store) (n : ℕ) → FilesTo f n → FileWorded (file_at f n) → FilesTo f (n + 1)
files_next f n t p = record { each = next (λ id. FileWorded (file_at f id)) n t.each p }

pub links_start : (p : Piping) → LinksTo p 0
links_start p = record { each = none (λ l. IfSome (piped p l) PipeWorded) }

pub links_next : (p : Piping) (n : ℕ) → LinksTo p n → IfSome (piped p n) PipeWorded → LinksTo p (n + 1)
links_next p n t q = record { each = next (λ l. IfSome (piped p l) PipeWorded) n t.each q }

pub consoles_start : (cs : List Console) → ConsolesTo cs 0
consoles_start cs = record { each = none (λ c. FewBytes (console_at cs c)) }

pub consoles_next : (cs : List Console) (n : ℕ) → ConsolesTo cs n → FewBytes (console_at cs n) → ConsolesTo cs (n + 1)
consoles_next cs n t p = record { each = next (λ c. FewBytes (console_at cs c)) n t.each p }

-- a text of words
pub all_below : (ws : List ℕ) (n : ℕ) → length ws ≤ n → TextTo ws n → AllBelow (2 ^ 36) ws
all_below [] n l t = tt
all_below (w ∷ ws) zero l t = absurd (omega arith)
all_below (w ∷ ws) (suc n) l t = (t.each 0 (omega arith), all_below ws n (omega arith) (record { each = λ k lt. t.each (suc k) (omega arith) }))

-- three words
pub three_below : (ns : List ℕ) (a b c x y z : ℕ) → length ns ≡ 3 → a ≡ get_or ns 0 x → a < 2 ^ 36 → b ≡ get_or ns 1 y → b < 2 ^ 36 → c ≡ get_or ns 2
    z → c < 2 ^ 36
    → AllBelow (2 ^ 36) ns
three_below [] a b c x y z l d p e q f r = absurd (let h : 0 ≡ 3 = l in omega arith)
three_below (k ∷ []) a b c x y z l d p e q f r = absurd (let h : 1 ≡ 3 = l in omega arith)
three_below (k ∷ m ∷ []) a b c x y z l d p e q f r = absurd (let h : 2 ≡ 3 = l in omega arith)
three_below (k ∷ m ∷ n ∷ []) a b c x y z l d p e q f r = (subst (λ i. i < 2 ^ 36) d p, (subst (λ i. i < 2 ^ 36) e q, (subst (λ i. i < 2 ^ 36) f r, tt)))
three_below (k ∷ m ∷ n ∷ o ∷ ns) a b c x y z l d p e q f r = absurd (let h : suc (suc (suc (suc (length ns)))) ≡ 3 = l in omega arith)

-- past the last address a core has no word
pub word_past : (c : Core) (a : ℕ) → IsWhole c → 2 ^ 18 ≤ a → word_at c a ≡ None
unfolding page_of
word_past c a whole h =
    in_page c a (le-ltb a 16 (omega arith))
    ∙ ap (λ p. word_in p (a % 1024)) (let l = whole.pages in ap present (slice_get_past c.pages (a / 1024) (omega arith)))

pub core_words : (m : Cores) (s : ℕ) → IsWhole (core_at m s) → CoreTo m s (2 ^ 18) → (a : ℕ) → IfSome (word_at (core_at m s) a) IsWord
core_words m s whole t a = elim (cases_lt a (2 ^ 18)) [
  | inl lt ↦ t.each a lt
  | inr ge ↦ subst (λ o. IfSome o IsWord) (sym (word_past (core_at m s) a whole ge)) tt
]

-- a number past the last has no names and no words
no_file : (o : Option Entry) (ws : List ℕ) → o ≡ None → FileWorded (record { names = names_by o; words = words_by o ws })
no_file None ws e = record { names = tt; words = tt }
no_file (Some x) ws e = absurd cc

absent : (o : Option Entry) → is_file o ≡ false → is_draft o ≡ false → o ≡ None
absent None f d = refl
absent (Some (File names readers)) f d = cc
absent (Some (Draft names)) f d = cc

file_none : (f : Store) (id : ℕ) → entry_at f id ≡ None → FileWorded (file_at f id)
file_none f id e = no_file (entry_at f id) (text_at f.stored.texts id) e

pub file_absent : (f : Store) (id : ℕ) → is_file (entry_at f id) ≡ false → is_draft (entry_at f id) ≡ false → FileWorded (file_at f id)
file_absent f id x d = file_none f id (absent (entry_at f id) x d)

pub file_past : (f : Store) (id : ℕ) → IsStore f → FilesTo f numbers → FileWorded (file_at f id)
file_past f id whole t = elim (cases_lt id numbers) [
  | inl lt ↦ t.each id lt
  | inr ge ↦ file_none f id (let l = whole.long in get_or_past f.entries id None (omega arith))
]

-- nobody holds a console past the last
pub holder_past : (hs : List (Option ℕ)) → length hs ≡ consoles → (c : ℕ) → consoles ≤ c → holder_at hs c ≡ None
holder_past hs n c past = get_or_past hs c None (omega arith)

-- a link with its words
pub link_none : (p : Piping) (l : ℕ) → link_in p l ≡ None → IfSome (piped p l) PipeWorded
link_none p l e = subst (λ o. IfSome (pipe_by o (queue_at p.queues l).items) PipeWorded) (sym e) tt

pub link_words : (p : Piping) (l n : ℕ) (k : Link) → link_in p l ≡ Some k → k.x < 2 ^ 36 → k.y < 2 ^ 36
    → length (words_in (piped p l)) ≤ n → TextTo (words_in (piped p l)) n → IfSome (piped p l) PipeWorded
link_words p l n k e x y few t =
    let is : piped p l ≡ Some (record { link = k; words = (queue_at p.queues l).items }) = ap (λ o. pipe_by o (queue_at p.queues l).items) e in
    let words = subst (λ o. AllBelow (2 ^ 36) (words_in o)) is (all_below (words_in (piped p l)) n few t) in
    subst (λ o. IfSome o PipeWorded) (sym is) (record { x = x; y = y; words = words })
