-- The words of a core, taken one after another.
use Rattle.std.specs.Prelude.{if◌then◌else◌, ◌≡◌, ◌≢◌, ◌<◌, ◌≤◌, ◌==◌, ℕ, zero, suc, ◌+◌, ◌-◌, ◌*◌, ◌/◌, ◌%◌, ◌^◌, Bool, true, false, Option, Some, None, Result, Ok, Err, IsErr, List, [], ◌∷◌, ◌++◌, length, nat_lt, refl}
use Rattle.std.proofs.Common.{sym, ◌∙◌, ap, subst, arith, append_assoc, append-nil, inl, inr, ne_eqb}
use Rattle.std.proofs.lemmas.Bool.{and_parts, cases_eq, eqb-true, false≢true, le-ltb}
use Rattle.its_word.specs.Core.{Core, Page, page_of, word_at, word_in}
use Rattle.its_word.proofs.CoreLaws.{in_page}
use Rattle.its_core.specs.Cores.{mark_of}
use Rattle.its_saved.specs.StateLine.{StateLine}
use Rattle.its_saved.specs.StateLine as state
use Rattle.its_saved.specs.Saving.{cell_of, cells_below, each, is_next, read_only_line, read_only_lines, rows, rows_from, word_lines}
use Rattle.its_saved.specs.Text.{line_of, lines_of, state_text}
use Rattle.its_saving.specs.Written.{Put, Cut, text_of, Written, Broken, Writes}
use Rattle.its_saving.specs.Rows.{cells_from, first_of, mark_lines, rows_open, Taken, Begun, Takes}
use Rattle.its_saving.proofs.WritingLaws.{broken_more, none_written, then_broken, then_written, writes_broken}

-- the cells of words
cells_zero : (c : Core) (a : ℕ) → cells_from c a 0 ≡ []
unfolding cells_from
cells_zero c a = refl

cells_suc : (c : Core) (a n : ℕ) → cells_from c a (n + 1) ≡ cells_from c a n ++ cell_of (a + n) (word_at c (a + n))
unfolding cells_from
cells_suc c a n = let e : n + 1 ≡ suc n = omega arith in ap (cells_from c a) e

pub cells_more : (c : Core) (a n m : ℕ) → cells_from c a (n + m) ≡ cells_from c a n ++ cells_from c (a + n) m
cells_more c a n zero =
    let e : n + 0 ≡ n = omega arith in
    ap (cells_from c a) e ∙ sym (append-nil (cells_from c a n)) ∙ ap (λ l. cells_from c a n ++ l) (sym (cells_zero c (a + n)))
cells_more c a n (suc m) =
    let e : n + suc m ≡ n + m + 1 = omega arith in
    let f : suc m ≡ m + 1 = omega arith in
    let g : a + (n + m) ≡ a + n + m = omega arith in
    ap (cells_from c a) e ∙ cells_suc c a (n + m)
    ∙ (λ i. cells_more c a n m i ++ cell_of (g i) (word_at c (g i)))
    ∙ append_assoc (cells_from c a n) (cells_from c (a + n) m) (cell_of (a + n + m) (word_at c (a + n + m)))
    ∙ ap (λ l. cells_from c a n ++ l) (sym (ap (cells_from c (a + n)) f ∙ cells_suc c (a + n) m))

cells_all : (c : Core) (n : ℕ) → cells_below c n ≡ cells_from c 0 n
cells_all c zero = sym (cells_zero c 0)
cells_all c (suc n) =
    let e : suc n ≡ n + 1 = omega arith in
    let f : 0 + n ≡ n = omega arith in
    sym (ap (cells_from c 0) e ∙ cells_suc c 0 n ∙ (λ i. sym (cells_all c n) i ++ cell_of (f i) (word_at c (f i))))

-- a page that is absent has no cells
pub word_none : (c : Core) (k a : ℕ) → page_of c k ≡ None → 16 ≤ a → k * 1024 ≤ a → a < (k + 1) * 1024 → word_at c a ≡ None
word_none c k a none ge low high =
    let e : a / 1024 ≡ k = omega arith in
    in_page c a (le-ltb a 16 ge) ∙ ap (λ p. word_in p (a % 1024)) (ap (page_of c) e ∙ none)

pub cells_none : (c : Core) (k a n : ℕ) → page_of c k ≡ None → 16 ≤ a → k * 1024 ≤ a → a + n ≤ (k + 1) * 1024 → cells_from c a n ≡ []
cells_none c k a zero none ge low high = cells_zero c a
cells_none c k a (suc n) none ge low high =
    let e : suc n ≡ n + 1 = omega arith in
    ap (cells_from c a) e ∙ cells_suc c a n
    ∙ (λ i. cells_none c k a n none ge low (omega arith) i ++ cell_of (a + n) (word_none c k (a + n) none (omega arith) (omega arith) (omega arith) i))

-- a page that is absent, and the first address of each page
pub mark_none : (p : Option Page) → mark_of p ≡ None → p ≡ None
mark_none None e = refl
mark_none (Some p) e = cc

pub record Begins (page : ℕ) : Type 0 where
  pub accs : 16 ≤ first_of page
  pub low : page * 1024 ≤ first_of page
  pub high : first_of page ≤ (page + 1) * 1024

first_some : (page : ℕ) → page ≢ 0 → first_of page ≡ page * 1024
first_some page ne = ap (λ t. if t then 16 else page * 1024) (ne_eqb page 0 ne)

zero_begins : Begins 0
zero_begins = record { accs = omega arith; low = omega arith; high = omega arith }

pub first_by : (page : ℕ) → Begins page
first_by page = elim (cases_eq page 0) [
  | inl e ↦ subst Begins (sym e) zero_begins
  | inr ne ↦ let f = first_some page ne in record { accs = omega arith; low = omega arith; high = omega arith }
]

pub first_next : (page : ℕ) → first_of (page + 1) ≡ (page + 1) * 1024
first_next page = first_some (page + 1) (λ e. omega arith)

pub page_none : (c : Core) (page : ℕ) → mark_of (page_of c page) ≡ None → cells_from c (first_of page) ((page + 1) * 1024 - first_of page) ≡ []
page_none c page e =
    let b = first_by page in
    let accs = b.accs in
    let high = b.high in
    cells_none c page (first_of page) ((page + 1) * 1024 - first_of page) (mark_none (page_of c page) e) b.accs b.low (omega arith)

-- the text of rows does not depend on the slot
alike_from : (s a : ℕ) (ws : List ℕ) (cells : List (ℕ × ℕ)) → lines_of (rows_from s a ws cells) ≡ lines_of (rows_from 0 a ws cells)
alike_from s a ws [] = refl
alike_from s a ws (c ∷ cells) = by (is_next a ws c.0) (alike_from s a (ws ++ c.1 ∷ []) cells) (alike_from s c.0 (c.1 ∷ []) cells)
  where
    by : (t : Bool) → lines_of (rows_from s a (ws ++ c.1 ∷ []) cells) ≡ lines_of (rows_from 0 a (ws ++ c.1 ∷ []) cells)
        → lines_of (rows_from s c.0 (c.1 ∷ []) cells) ≡ lines_of (rows_from 0 c.0 (c.1 ∷ []) cells)
        → lines_of (if t then rows_from s a (ws ++ c.1 ∷ []) cells else state.CoreWords s a ws ∷ rows_from s c.0 (c.1 ∷ []) cells)
        ≡ lines_of (if t then rows_from 0 a (ws ++ c.1 ∷ []) cells else state.CoreWords 0 a ws ∷ rows_from 0 c.0 (c.1 ∷ []) cells)
    by true one two = one
    by false one two = ap (λ l. line_of (state.CoreWords 0 a ws) ∷ l) two

rows_alike : (s : ℕ) (cells : List (ℕ × ℕ)) → lines_of (rows s cells) ≡ lines_of (rows 0 cells)
rows_alike s [] = refl
rows_alike s (c ∷ cells) = alike_from s c.0 (c.1 ∷ []) cells

text_alike : (xs ys : List StateLine) → lines_of xs ≡ lines_of ys → text_of xs ≡ text_of ys
unfolding text_of
text_alike xs ys e = ap (λ l. state_text l) e

-- a word is put into the open line, or begins a new one
next_at : (a : ℕ) (ws : List ℕ) (b : ℕ) → is_next a ws b ≡ true → b ≡ a + length ws
next_at a ws b is = eqb-true b (a + length ws) (and_parts (b == a + length ws) (nat_lt (length ws) 16) is).0

row_goes : (a : ℕ) (ws : List ℕ) (b w : ℕ) (more : List (ℕ × ℕ)) → is_next a ws b ≡ true → rows_open a ws ((b, w) ∷ more) ≡ rows_open a (ws ++ w ∷ []) more
row_goes a [] b w more is = let e = next_at a [] b is in let f : b ≡ a = omega arith in ap (λ n. rows_from 0 n (w ∷ []) more) f
row_goes a (v ∷ vs) b w more is =
    ap (λ t. if t then rows_from 0 a ((v ∷ vs) ++ w ∷ []) more else state.CoreWords 0 a (v ∷ vs) ∷ rows_from 0 b (w ∷ []) more) is

row_ends : (a : ℕ) (ws : List ℕ) (b w : ℕ) (more : List (ℕ × ℕ)) → is_next a ws b ≡ false
    → rows_open a ws ((b, w) ∷ more) ≡ rows_open a ws [] ++ rows_open b (w ∷ []) more
row_ends a [] b w more is = refl
row_ends a (v ∷ vs) b w more is =
    ap (λ t. if t then rows_from 0 a ((v ∷ vs) ++ w ∷ []) more else state.CoreWords 0 a (v ∷ vs) ∷ rows_from 0 b (w ∷ []) more) is

module _ {S : Type 0} (bytes : S → Option (List ℕ)) (faults : S → ℕ) where
  pub taken_none : (o : S) (a : ℕ) (ws : List ℕ) (cells : List (ℕ × ℕ)) → cells ≡ [] → Taken bytes faults o o a ws cells a ws
  taken_none o a ws cells e = record {
    lines = [];
    written = none_written bytes faults o;
    says = λ more. ap (λ l. rows_open a ws (l ++ more)) e;
  }

  pub taken_then : (o p q : S) (a b d : ℕ) (ws vs us : List ℕ) (xs ys : List (ℕ × ℕ)) → Taken bytes faults o p a ws xs b vs → Taken bytes faults p q b vs ys d us
      → Taken bytes faults o q a ws (xs ++ ys) d us
  taken_then o p q a b d ws vs us xs ys f g = record {
    lines = f.lines ++ g.lines;
    written = then_written bytes faults o p q f.lines g.lines f.written g.written;
    says = λ more. ap (rows_open a ws) (append_assoc xs ys more) ∙ f.says (ys ++ more) ∙ ap (λ l. f.lines ++ l) (g.says more)
        ∙ sym (append_assoc f.lines g.lines (rows_open d us more));
  }

  pub then_begun : (o p q : S) (a b : ℕ) (ws vs : List ℕ) (xs ys : List (ℕ × ℕ)) → Taken bytes faults o p a ws xs b vs → Begun bytes faults p q b vs ys
      → Begun bytes faults o q a ws (xs ++ ys)
  then_begun o p q a b ws vs xs ys f g = record {
    lines = f.lines ++ g.lines;
    broken = then_broken bytes faults o p q f.lines g.lines f.written g.broken;
    begins = λ more. (
      (g.begins more).0,
      ap (rows_open a ws) (append_assoc xs ys more) ∙ f.says (ys ++ more) ∙ ap (λ l. f.lines ++ l) (g.begins more).1
          ∙ sym (append_assoc f.lines g.lines (g.begins more).0),
    );
  }

  pub begun_more : (o q : S) (a : ℕ) (ws : List ℕ) (xs ys : List (ℕ × ℕ)) → Begun bytes faults o q a ws xs → Begun bytes faults o q a ws (xs ++ ys)
  begun_more o q a ws xs ys f = record {
    lines = f.lines;
    broken = f.broken;
    begins = λ more. ((f.begins (ys ++ more)).0, ap (rows_open a ws) (append_assoc xs ys more) ∙ (f.begins (ys ++ more)).1);
  }

  pub takes_ok : {T E : Type 0} (o p : S) (x : T) (a b : ℕ) (ws vs : List ℕ) (cells : List (ℕ × ℕ)) → Taken bytes faults o p a ws cells b vs
      → Takes {E = E} bytes faults o p (Ok x) a ws cells b vs
  takes_ok o p x a b ws vs cells t = record { so = t }

  pub taken_of : {T E : Type 0} (o p : S) (r : Result T E) (x : T) (a b : ℕ) (ws vs : List ℕ) (cells : List (ℕ × ℕ)) → r ≡ Ok x
      → Takes bytes faults o p r a ws cells b vs → Taken bytes faults o p a ws cells b vs
  taken_of o p r x a b ws vs cells e t = (subst (λ y. Takes bytes faults o p y a ws cells b vs) e t).so

  pub begun_of : {T E : Type 0} (o p : S) (r : Result T E) (x : E) (a b : ℕ) (ws vs : List ℕ) (cells : List (ℕ × ℕ)) → r ≡ Err x
      → Takes bytes faults o p r a ws cells b vs → Begun bytes faults o p a ws cells
  begun_of o p r x a b ws vs cells e t = (subst (λ y. Takes bytes faults o p y a ws cells b vs) e t).so

  pub takes_begun : {T E : Type 0} (o p : S) (r : Result T E) (a b : ℕ) (ws vs : List ℕ) (cells : List (ℕ × ℕ)) → IsErr r
      → Begun bytes faults o p a ws cells → Takes bytes faults o p r a ws cells b vs
  takes_begun o p (Ok x) a b ws vs cells is t = absurd (false≢true is)
  takes_begun o p (Err e) a b ws vs cells is t = record { so = t }

  pub takes_at : {T E : Type 0} (o p : S) (r : Result T E) (a b : ℕ) (ws vs : List ℕ) (xs ys : List (ℕ × ℕ)) → xs ≡ ys → Takes bytes faults o p r a ws xs b vs
      → Takes bytes faults o p r a ws ys b vs
  takes_at o p r a b ws vs xs ys e t = subst (λ cells. Takes bytes faults o p r a ws cells b vs) e t

  -- a word that is kept
  pub taken_goes : (o : S) (a : ℕ) (ws vs : List ℕ) (b w : ℕ) → vs ≡ ws ++ w ∷ [] → is_next a ws b ≡ true → Taken bytes faults o o a ws ((b, w) ∷ []) a vs
  taken_goes o a ws vs b w e is = subst (λ us. Taken bytes faults o o a ws ((b, w) ∷ []) a us) (sym e) (record {
    lines = [];
    written = none_written bytes faults o;
    says = λ more. row_goes a ws b w more is;
  })

  pub taken_ends : (o p : S) (a : ℕ) (ws us vs : List ℕ) (b w : ℕ) → us ≡ [] → vs ≡ us ++ w ∷ [] → is_next a ws b ≡ false
      → Written bytes faults o p (rows_open a ws []) → Taken bytes faults o p a ws ((b, w) ∷ []) b vs
  taken_ends o p a ws us vs b w none e is f = subst (λ ns. Taken bytes faults o p a ws ((b, w) ∷ []) b ns) (sym (e ∙ ap (λ ns. ns ++ w ∷ []) none)) (record {
    lines = rows_open a ws [];
    written = f;
    says = λ more. row_ends a ws b w more is;
  })

  pub begun_ends : (o p : S) (a : ℕ) (ws : List ℕ) (b w : ℕ) → is_next a ws b ≡ false → Broken bytes faults o p (rows_open a ws [])
      → Begun bytes faults o p a ws ((b, w) ∷ [])
  begun_ends o p a ws b w is f = record {
    lines = rows_open a ws [];
    broken = f;
    begins = λ more. (rows_open b (w ∷ []) more, row_ends a ws b w more is);
  }

  -- spans
  module _ (c : Core) where
    pub span_start : (o : S) (a : ℕ) (ws : List ℕ) (from n : ℕ) → n ≡ 0 → Taken bytes faults o o a ws (cells_from c from n) a ws
    span_start o a ws from n e = taken_none o a ws (cells_from c from n) (ap (cells_from c from) e ∙ cells_zero c from)

    pub span_then : (o p q : S) (a b d : ℕ) (ws vs us : List ℕ) (from n at m k : ℕ) → at ≡ from + n → k ≡ n + m
        → Taken bytes faults o p a ws (cells_from c from n) b vs → Taken bytes faults p q b vs (cells_from c at m) d us
        → Taken bytes faults o q a ws (cells_from c from k) d us
    span_then o p q a b d ws vs us from n at m k e h f g =
        subst (λ l. Taken bytes faults o q a ws l d us) (sym
        (ap (cells_from c from) h ∙ cells_more c from n m ∙ ap (λ x. cells_from c from n ++ cells_from c x m) (sym e)))
        (taken_then o p q a b d ws vs us (cells_from c from n) (cells_from c at m) f g)

    pub span_begun : (o p q : S) (a b : ℕ) (ws vs : List ℕ) (from n at m k : ℕ) → at ≡ from + n → n + m ≤ k
        → Taken bytes faults o p a ws (cells_from c from n) b vs → Begun bytes faults p q b vs (cells_from c at m)
        → Begun bytes faults o q a ws (cells_from c from k)
    span_begun o p q a b ws vs from n at m k e le f g =
        let h : k ≡ n + m + (k - (n + m)) = omega arith in
        subst (λ l. Begun bytes faults o q a ws l)
        (sym (ap (cells_from c from) h ∙ cells_more c from (n + m) (k - (n + m))
        ∙ ap (λ l. l ++ cells_from c (from + (n + m)) (k - (n + m))) (cells_more c from n m ∙ ap (λ x. cells_from c from n ++ cells_from c x m) (sym e))))
        (begun_more o q a ws (cells_from c from n ++ cells_from c at m) (cells_from c (from + (n + m)) (k - (n + m)))
        (then_begun o p q a b ws vs (cells_from c from n) (cells_from c at m) f g))

    -- a single address
    cell_one : (at : ℕ) → cells_from c at 1 ≡ cell_of at (word_at c at)
    cell_one at =
        let e : 0 + 1 ≡ 1 = omega arith in
        let f : at + 0 ≡ at = omega arith in
        sym (ap (cells_from c at) e) ∙ cells_suc c at 0 ∙ (λ i. cells_zero c at i ++ cell_of (f i) (word_at c (f i)))

    pub one_taken : (o p : S) (a b : ℕ) (ws vs : List ℕ) (at : ℕ) → Taken bytes faults o p a ws (cell_of at (word_at c at)) b vs
        → Taken bytes faults o p a ws (cells_from c at 1) b vs
    one_taken o p a b ws vs at t = subst (λ l. Taken bytes faults o p a ws l b vs) (sym (cell_one at)) t

    pub one_begun : (o p : S) (a : ℕ) (ws : List ℕ) (at : ℕ) → Begun bytes faults o p a ws (cell_of at (word_at c at))
        → Begun bytes faults o p a ws (cells_from c at 1)
    one_begun o p a ws at t = subst (λ l. Begun bytes faults o p a ws l) (sym (cell_one at)) t

    -- pages: those before this one are taken, and then this one
    pub page_start : (o : S) (a : ℕ) (ws : List ℕ) → Taken bytes faults o o a ws (cells_from c 16 (first_of 0 - 16)) a ws
    page_start o a ws = span_start o a ws 16 (first_of 0 - 16) (omega arith)

    pub page_then : (o p q : S) (a b d : ℕ) (ws vs us : List ℕ) (page : ℕ) → Taken bytes faults o p a ws (cells_from c 16 (first_of page - 16)) b vs
        → Taken bytes faults p q b vs (cells_from c (first_of page) ((page + 1) * 1024 - first_of page)) d us
        → Taken bytes faults o q a ws (cells_from c 16 (first_of (page + 1) - 16)) d us
    page_then o p q a b d ws vs us page f g =
        let x = first_by page in
        let accs = x.accs in
        let high = x.high in
        let n = first_next page in
        span_then o p q a b d ws vs us 16 (first_of page - 16) (first_of page) ((page + 1) * 1024 - first_of page) (first_of (page + 1) - 16)
        (omega arith) (omega arith) f g

    pub page_begun : (o p q : S) (a b : ℕ) (ws vs : List ℕ) (page : ℕ) → page < 256 → Taken bytes faults o p a ws (cells_from c 16 (first_of page - 16)) b vs
        → Begun bytes faults p q b vs (cells_from c (first_of page) ((page + 1) * 1024 - first_of page))
        → Begun bytes faults o q a ws (cells_from c 16 (2 ^ 18 - 16))
    page_begun o p q a b ws vs page lt f g =
        let x = first_by page in
        let accs = x.accs in
        let high = x.high in
        span_begun o p q a b ws vs 16 (first_of page - 16) (first_of page) ((page + 1) * 1024 - first_of page) (2 ^ 18 - 16) (omega arith) (omega arith) f g

    pub page_all : (o p : S) (a b : ℕ) (ws vs : List ℕ) (page : ℕ) → Taken bytes faults o p a ws (cells_from c 16 (first_of page - 16)) b vs → 256 ≤ page
        → page ≤ 256
        → Taken bytes faults o p a ws (cells_from c 16 (2 ^ 18 - 16)) b vs
    page_all o p a b ws vs page t ge le =
        let e : page ≡ 256 = omega arith in subst (λ n. Taken bytes faults o p a ws (cells_from c 16 (first_of n - 16)) b vs) e t

    -- addresses: those before this one are taken, and then this one
    pub place_then : {T E : Type 0} (o p q : S) (r : Result T E) (x : T) (a b d : ℕ) (ws vs us : List ℕ) (from at : ℕ) → from ≤ at
        → Taken bytes faults o p a ws (cells_from c from (at - from)) b vs → r ≡ Ok x → Takes bytes faults p q r b vs (cell_of at (word_at c at)) d us
        → Taken bytes faults o q a ws (cells_from c from (at + 1 - from)) d us
    place_then o p q r x a b d ws vs us from at le f e t =
        span_then o p q a b d ws vs us from (at - from) at 1 (at + 1 - from) (omega arith) (omega arith) f
        (one_taken p q b d vs us at (taken_of p q r x b d vs us (cell_of at (word_at c at)) e t))

    pub place_cut : {T U E D : Type 0} (o p q : S) (r : Result T E) (x : E) (y : Result U D) (a b d : ℕ) (ws vs us : List ℕ) (from at end : ℕ) → from ≤
        at → at < end
        → Taken bytes faults o p a ws (cells_from c from (at - from)) b vs → r ≡ Err x → Takes bytes faults p q r b vs (cell_of at (word_at c at)) d us → IsErr y
        → Takes bytes faults o q y a ws (cells_from c from (end - from)) d us
    place_cut o p q r x y a b d ws vs us from at end le lt f e t is =
        takes_begun o q y a d ws us (cells_from c from (end - from)) is
        (span_begun o p q a b ws vs from (at - from) at 1 (end - from) (omega arith) (omega arith) f
        (one_begun p q b vs at (begun_of p q r x b d vs us (cell_of at (word_at c at)) e t)))

    pub place_all : {T E : Type 0} (o p : S) (u : T) (a b : ℕ) (ws vs : List ℕ) (from at end : ℕ) → Taken bytes faults o p a ws (cells_from c from (at - from)) b vs
        → end ≤ at → at ≤ end → Takes {E = E} bytes faults o p (Ok u) a ws (cells_from c from (end - from)) b vs
    place_all o p u a b ws vs from at end t ge le =
        let e : at ≡ end = omega arith in record { so = subst (λ n. Taken bytes faults o p a ws (cells_from c from (n - from)) b vs) e t }

  -- the last line
  lines_said : (a : ℕ) (ws : List ℕ) (cells : List (ℕ × ℕ)) → rows_open a ws (cells ++ []) ≡ rows_open a ws cells
  lines_said a ws cells = ap (rows_open a ws) (append-nil cells)

  words_end : {T E : Type 0} (o p q : S) (r : Result T E) (n a b : ℕ) (vs : List ℕ) (s : ℕ) (c : Core) → Taken bytes faults o p a [] (cells_from c 0 n) b vs
      → Writes bytes faults p q r (rows_open b vs []) → Writes bytes faults o q r (rows s (cells_below c n))
  words_end o p q (Ok x) n a b vs s c t w = record {
    so = record {
      put = subst (λ l. Put bytes faults o q l)
          (sym (text_alike (rows s (cells_below c n)) (t.lines ++ rows_open b vs [])
          (rows_alike s (cells_below c n) ∙ ap (λ l. lines_of (rows 0 l)) (cells_all c n) ∙ ap lines_of (sym (lines_said a [] (cells_from c 0 n)) ∙ t.says []))))
          (then_written bytes faults o p q t.lines (rows_open b vs []) t.written w.so).put;
    };
  }
  words_end o p q (Err e) n a b vs s c t w = record {
    so = record {
      cut = subst (λ l. Cut bytes faults o q l)
          (sym (text_alike (rows s (cells_below c n)) (t.lines ++ rows_open b vs [])
          (rows_alike s (cells_below c n) ∙ ap (λ l. lines_of (rows 0 l)) (cells_all c n) ∙ ap lines_of (sym (lines_said a [] (cells_from c 0 n)) ∙ t.says []))))
          (then_broken bytes faults o p q t.lines (rows_open b vs []) t.written w.so).cut;
    };
  }

  pub words_written : {T E : Type 0} (o p q : S) (r : Result T E) (a b : ℕ) (ws vs : List ℕ) (s : ℕ) (c : Core) → ws ≡ []
      → Taken bytes faults o p a ws (cells_from c 0 (2 ^ 18)) b vs → Writes bytes faults p q r (rows_open b vs []) → Writes bytes faults o q r (word_lines s c)
  unfolding word_lines
  words_written o p q r a b ws vs s c e t w = words_end o p q r (2 ^ 18) a b vs s c
      (subst (λ us. Taken bytes faults o p a us (cells_from c 0 (2 ^ 18)) b vs) e t) w

  words_begun : {T E : Type 0} (o q : S) (r : Result T E) (n k a : ℕ) (s : ℕ) (c : Core) → k ≤ n → IsErr r → Begun bytes faults o q a [] (cells_from c 0 k)
      → Writes bytes faults o q r (rows s (cells_below c n))
  words_begun o q r n k a s c le is t =
      let h : n ≡ k + (n - k) = omega arith in
      let more = cells_from c (0 + k) (n - k) in
      let says : lines_of (rows s (cells_below c n)) ≡ lines_of (t.lines ++ (t.begins more).0) =
      rows_alike s (cells_below c n) ∙ ap (λ l. lines_of (rows 0 l)) (cells_all c n ∙ ap (cells_from c 0) h ∙ cells_more c 0 k (n - k))
      ∙ ap lines_of (t.begins more).1 in
      writes_broken bytes faults o q r (rows s (cells_below c n)) is (record {
        cut = subst (λ l. Cut bytes faults o q l) (sym (text_alike (rows s (cells_below c n)) (t.lines ++ (t.begins more).0) says))
            (broken_more bytes faults o q t.lines (t.begins more).0 t.broken).cut;
      })

  pub words_cut : {T E : Type 0} (o q : S) (r : Result T E) (k a : ℕ) (ws : List ℕ) (s : ℕ) (c : Core) → k ≤ 2 ^ 18 → IsErr r → ws ≡ []
      → Begun bytes faults o q a ws (cells_from c 0 k) → Writes bytes faults o q r (word_lines s c)
  unfolding word_lines
  words_cut o q r k a ws s c le is e t = words_begun o q r (2 ^ 18) k a s c le is (subst (λ us. Begun bytes faults o q a us (cells_from c 0 k)) e t)

-- read-only pages
pub mark_is : (s k : ℕ) (p : Option Page) → read_only_line s k p ≡ mark_lines s k (mark_of p)
mark_is s k None = refl
mark_is s k (Some p) = by p.writable
  where
    by : (t : Bool) → (if t then [] else state.ReadOnly s k ∷ []) ≡ mark_lines s k (Some t)
    by true = refl
    by false = refl

pub marks_are : (s : ℕ) (c : Core) → each (λ k. read_only_line s k (page_of c k)) 256 ≡ read_only_lines s c
unfolding read_only_lines
marks_are s c = refl

-- an open line with words
pub open_words : (a : ℕ) (ws : List ℕ) → 0 < length ws → rows_open a ws [] ≡ state.CoreWords 0 a ws ∷ []
open_words a [] l = absurd (omega arith)
open_words a (w ∷ ws) l = refl

pub open_none : (a : ℕ) (ws : List ℕ) → length ws ≡ 0 → rows_open a ws [] ≡ []
open_none a [] l = refl
open_none a (w ∷ ws) l = absurd (let e : suc (length ws) ≡ 0 = l in omega arith)

pub none_long : (n : ℕ) → (n == 0) ≡ true → n ≡ 0
none_long n e = eqb-true n 0 e

pub some_long : (n : ℕ) → (n == 0) ≡ false → 0 < n
some_long zero e = cc
some_long (suc n) e = omega arith
