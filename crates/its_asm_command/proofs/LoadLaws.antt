-- The session of an image, line by line: its transcript, and the job that it makes.
use Rattle.std.specs.Prelude.{if◌then◌else◌, ◌≡◌, ◌≢◌, ◌≤◌, ◌<◌, ◌+◌, ◌==◌, ◌^◌, ◌&&◌, ℕ, zero, suc, Bool, true, false, not, Option, Some, None, Result, Ok, List, [], ◌∷◌, ◌++◌, All, length, is_some, map, nat_eq, nat_le, nat_lt, refl}
use Rattle.std.proofs.Common.{sym, ◌∙◌, ap, subst, arith, inl, inr, append_assoc, append-nil}
use Rattle.std.specs.Map.{lookup}
use Rattle.std.proofs.lemmas.Bool.{cases_Bool}
use Rattle.std.proofs.lemmas.Bool.Decides.{nat_tests}
use Rattle.std.proofs.lemmas.List.{length-append}
use Rattle.std.proofs.lemmas.List.Elements.{All-append, All-cons, All-head, All-nil, All-tail}
use Rattle.std.proofs.lemmas.List.Sums.{count_by-le-length}
use Rattle.its_records.proofs.FreeLaws.{no_job_at_all}
use Rattle.its_records.specs.Item.{Item, Read}
use Rattle.its_word.specs.Limits.{limit_of, most_pages, most_symbols}
use Rattle.its_word.specs.Only.{Only}
use Rattle.its_word.specs.Core.{Core, can_store, no_core, pages_present, word_at}
use Rattle.its_records.specs.Tree.{free_from, fresh_job, least_free, no_job}
use Rattle.its_records.specs.declared.jobs.Job.{Job}
use Rattle.its_records.specs.declared.session.Event.{Event}
use Rattle.its_records.specs.declared.session.Event.TheVariants as events
use Rattle.its_records.specs.declared.session.Reason.{Reason}
use Rattle.its_word.proofs.PageLaws.{pages_mapped-none, pages_mapped-only, pages_present-no_core}
use Rattle.its_print.specs.Printing.{Line}
use Rattle.its_print.specs.Printing as printed
use Rattle.its_plain.specs.Machine.{Machine, changed, core_of, mapped, no_machine, whole, with_job, with_new}
use Rattle.its_plain.specs.Operator.{Block, Does, and_then, no_block, nobody, only}
use Rattle.its_plain.specs.Operator.Jobs.{any_barred, is_barred, after_load, new_job, on_registers, after_go, with_core, with_holder, with_word_loaded, with_words_loaded, with_words_loaded_if, with_words_stored}
use Rattle.its_plain.specs.Operator.Symbols.{with_symbol_kept}
use Rattle.its_plain.specs.Operator.Version.{with_version}
use Rattle.its_plain.specs.Operator.Lines.{Done, lined, operate}
use Rattle.its_plain.specs.Transcript.{Ended, Fate, Shows, Transcript, Walk, at_start, end_line, next_line, obeyed_line, walk_after, Turned, all_made}
use Rattle.its_plain.specs.Transcript.Turns.{highest, turn_kept, turns_asked, ticks_asked}
use Rattle.its_plain.specs.Transcript.Course.{course, run_of}
use Rattle.its_asm.specs.declared.assembly.Image.{Image}
use Rattle.its_asm_command.specs.Image.{CellFits, ImageFits, rises, rises_from}
use Rattle.its_asm_command.specs.Loading.{IsWhole, has_page}
use Rattle.its_asm_command.specs.Made.{IsSessionOf}
use Rattle.its_asm_command.specs.Written.{goes_on, rows, rows_from, symbol_lines}
use Rattle.its_asm_command.proofs.CoreLaws.{CoreIs, core_start, store_one}
use Rattle.its_asm_command.proofs.SessionLaws.{session_whole}

-- events that lead from one place of a session to another and show nothing
record Ran (v w : Walk) (es : List Event) : Type 0 where
  pub shows : (rest : List Item) (lines : List Line) (fate : Fate) → Shows w highest rest lines fate → Shows v highest (map Read es ++ rest) lines fate
  pub last : (rest : List Item) (lines : List Line) → (course v highest (map Read es ++ rest) lines).last ≡ (course w highest rest lines).last

ran_none : (v : Walk) → Ran v v []
ran_none v = record { shows = λ rest lines fate s. s; last = λ rest lines. refl }

map_append : {A B : Type 0} (f : A → B) (xs ys : List A) → map f (xs ++ ys) ≡ map f xs ++ map f ys
map_append f [] ys = refl
map_append f (x ∷ xs) ys = ap (λ k. f x ∷ k) (map_append f xs ys)

ran_then : (u v w : Walk) (a b : List Event) → Ran u v a → Ran v w b → Ran u w (a ++ b)
ran_then u v w a b r s =
    let e : (rest : List Item) → map Read a ++ (map Read b ++ rest) ≡ map Read (a ++ b) ++ rest =
    λ rest. sym (append_assoc (map Read a) (map Read b) rest) ∙ ap (λ x. x ++ rest) (sym (map_append Read a b)) in
    record {
      shows = λ rest lines fate t. subst (λ x. Shows u highest x lines fate) (e rest) (r.shows (map Read b ++ rest) lines fate (s.shows rest lines fate t));
      last = λ rest lines. ap (λ x. (course u highest x lines).last) (sym (e rest)) ∙ r.last (map Read b ++ rest) lines ∙ s.last rest lines;
    }

ran_one : (v : Walk) (e : Event) (n : Machine) (touched : ℕ → Bool) (b : Block) → turns_asked e ≡ 0 → turn_kept highest e ≡ highest
    → lined v.machine v.block e ≡ Done (Does n [] touched b)
    → Ran v (next_line (walk_after v n touched b)) (e ∷ [])
ran_one v e n touched b none keeps h = record {
  shows = λ rest lines fate s.
      (let w = next_line (walk_after v n touched b) in
      obeyed_line h refl (subst (λ (i : ℕ). Turned (ticks_asked e) (turns_asked e) w i lines w highest lines) (sym keeps)
      (subst (λ (k : ℕ). Turned (ticks_asked e) k w highest lines w highest lines) (sym none) all_made)) s);
  last = λ rest lines. rw (h, none, keeps) refl;
}

-- slot 0 has the job that is being loaded, and no other slot has one
record Stage (j : Job) (c : Core) (symbols : List (ℕ × ℕ)) (m : Machine) : Type 0 where
  pub here : m.jobs 0 ≡ Some (whole c j None)
  pub others : (k : ℕ) → k ≢ 0 → m.jobs k ≡ None
  pub symbols_are : m.symbols 0 ≡ symbols

off : (k : ℕ) → k ≢ 0 → (k == 0) ≡ false
off k h = elim (cases_Bool (k == 0)) [
  | inl t ↦ absurd (h (grind (arith, nat_tests)))
  | inr f ↦ f
]

few_present : (c : Core) → length c.pages ≡ 256 → pages_present c ≤ 256
unfolding pages_present
few_present c h = omega (arith, count_by-le-length is_some c.pages)

few_pages : (j : Job) (c : Core) (symbols : List (ℕ × ℕ)) (m : Machine) → Stage j c symbols m → length c.pages ≡ 256 → mapped m < most_pages
few_pages j c symbols m s long =
    let o : Only (λ k. no_core) (λ k. core_of (m.jobs k)) 0 c = record { here = ap core_of s.here; others = λ k n. ap core_of (s.others k n) } in
    let sum = pages_mapped-only (λ k. no_core) (λ k. core_of (m.jobs k)) 0 c o (omega arith) in
    let none = pages_mapped-none (λ k. no_core) (λ k. refl) in
    let empty = pages_present-no_core in
    let most = few_present c long in
    omega (arith, sum, none, empty, most)

-- the words of an a/ line at their addresses
abbrev pairs : ℕ → List ℕ → List (ℕ × ℕ)
pairs a [] = []
pairs a (w ∷ ws) = (a, w) ∷ pairs (a + 1) ws

-- there is no word from an address on
abbrev Below : ℕ → List (ℕ × ℕ) → Type 0
Below a cells = All (λ c. c.0 < a) cells

below_none : (a : ℕ) (cells : List (ℕ × ℕ)) → Below a cells → lookup (nat_eq a) cells ≡ None
below_none a [] h = refl
below_none a (c ∷ cells) h =
    let low : c.0 < a = All-head (λ (x : ℕ × ℕ). x.0 < a) c cells h in
    let other : nat_eq a c.0 ≡ false = grind (arith, nat_tests) in
    rw other (below_none a cells (All-tail (λ (x : ℕ × ℕ). x.0 < a) c cells h))

below_more : (a b : ℕ) (cells : List (ℕ × ℕ)) → a ≤ b → Below a cells → Below b cells
below_more a b [] l h = All-nil (λ (x : ℕ × ℕ). x.0 < b)
below_more a b (c ∷ cells) l h =
    let low : c.0 < a = All-head (λ (x : ℕ × ℕ). x.0 < a) c cells h in
    All-cons (λ (x : ℕ × ℕ). x.0 < b) c cells (omega arith) (below_more a b cells l (All-tail (λ (x : ℕ × ℕ). x.0 < a) c cells h))

below_push : (a w : ℕ) (cells : List (ℕ × ℕ)) → Below a cells → Below (a + 1) (cells ++ (a, w) ∷ [])
below_push a w cells h = All-append (λ (x : ℕ × ℕ). x.0 < a + 1) cells ((a, w) ∷ []) (below_more a (a + 1) cells (omega arith) h)
    (All-cons (λ (x : ℕ × ℕ). x.0 < a + 1) (a, w) [] (omega arith) (All-nil (λ (x : ℕ × ℕ). x.0 < a + 1)))

-- a machine whose job has these words, all below an address
record Holds (j : Job) (symbols cells : List (ℕ × ℕ)) (a : ℕ) (m : Machine) : Type 0 where
  pub core : Core
  pub stage : Stage j core symbols m
  pub has : CoreIs (has_page cells) cells core
  pub below : Below a cells

-- one word
record Kept (j : Job) (symbols cells : List (ℕ × ℕ)) (a : ℕ) (r : Result Machine Reason) : Type 0 where
  pub machine : Machine
  pub is : r ≡ Ok machine
  pub holds : Holds j symbols cells a machine

word_kept : (j : Job) (symbols cells : List (ℕ × ℕ)) (a w : ℕ) (m : Machine) → Holds j symbols cells a m → a < 2 ^ 18
    → Kept j symbols (cells ++ (a, w) ∷ []) (a + 1) (with_word_loaded m 0 a w)
unfolding with_word_loaded
word_kept j symbols cells a w m h l =
    let d = store_one (mapped m) h.core a w cells h.has l (below_none a cells h.below) (few_pages j h.core symbols m h.stage h.has.long) in
    let q = whole h.core j None in
    record {
      machine = with_job m 0 (whole d.core j None);
      is = rw h.stage.here (ap (with_core m 0 q) d.is);
      holds = record {
        core = d.core;
        stage = record { here = refl; others = λ k n. rw (off k n) (h.stage.others k n); symbols_are = h.stage.symbols_are };
        has = d.has;
        below = below_push a w cells h.below;
      };
    }

words_kept : (j : Job) (symbols cells : List (ℕ × ℕ)) (a : ℕ) (ws : List ℕ) (m : Machine) → Holds j symbols cells a m
    → a + length ws ≤ 2 ^ 18 → Kept j symbols (cells ++ pairs a ws) (a + length ws) (with_words_stored m 0 a ws)
words_kept j symbols cells a [] m h l = record {
  machine = m;
  is = refl;
  holds = subst (λ x. Holds j symbols x (a + 0) m) (sym (append-nil cells)) (subst (λ x. Holds j symbols cells x m) (omega arith) h);
}
words_kept j symbols cells a (w ∷ ws) m h l =
    let one = word_kept j symbols cells a w m h (omega arith) in
    let more = words_kept j symbols (cells ++ (a, w) ∷ []) (a + 1) ws one.machine one.holds (omega arith) in
    record {
      machine = more.machine;
      is = ap (λ r. and_then r (λ n. with_words_stored n 0 (a + 1) ws)) one.is ∙ more.is;
      holds = subst (λ x. Holds j symbols x (a + length (w ∷ ws)) more.machine) (append_assoc cells ((a, w) ∷ []) (pairs (a + 1) ws))
          (subst (λ x. Holds j symbols ((cells ++ (a, w) ∷ []) ++ pairs (a + 1) ws) x more.machine) (omega arith) more.holds);
    }

-- no page is read only
not_barred : (has : ℕ → Bool) (cells : List (ℕ × ℕ)) (c : Core) (a : ℕ) → CoreIs has cells c → a < 2 ^ 18 → is_barred c a ≡ false
not_barred has cells c a s l = by (is_some (word_at c a)) (can_store c a) (s.stores a l)
  where
    by : (x y : Bool) → y ≡ x → (x && not y) ≡ false
    by true true e = refl
    by false y e = refl
    by true false e = cc

none_barred : (has : ℕ → Bool) (cells : List (ℕ × ℕ)) (c : Core) (a n : ℕ) → CoreIs has cells c → a + n ≤ 2 ^ 18 → any_barred c a n ≡ false
unfolding any_barred
none_barred has cells c a zero s l = refl
none_barred has cells c a (suc n) s l = rw (not_barred has cells c a s (omega arith)) (none_barred has cells c (a + 1) n s (omega arith))

-- an a/ line
line_kept : (j : Job) (symbols cells : List (ℕ × ℕ)) (a : ℕ) (ws : List ℕ) (m : Machine) → Holds j symbols cells a m
    → a + length ws ≤ 2 ^ 18 → Kept j symbols (cells ++ pairs a ws) (a + length ws) (with_words_loaded m 0 a ws)
unfolding with_words_loaded
line_kept j symbols cells a ws m h l =
    let k = words_kept j symbols cells a ws m h l in
    let clear = none_barred (has_page cells) cells h.core a (length ws) h.has l in
    record { machine = k.machine; is = rw h.stage.here (ap (with_words_loaded_if m 0 a ws) clear ∙ k.is); holds = k.holds }

-- a place of a session in the block of the job
record At (j : Job) (symbols cells : List (ℕ × ℕ)) (a : ℕ) (v : Walk) : Type 0 where
  pub holds : Holds j symbols cells a v.machine
  pub slot : v.block.slot ≡ 0

record Led (j : Job) (symbols cells : List (ℕ × ℕ)) (v : Walk) (es : List Event) : Type 0 where
  pub to : Walk
  pub end : ℕ
  pub at : At j symbols cells end to
  pub ran : Ran v to es

row_led : (j : Job) (symbols cells : List (ℕ × ℕ)) (a : ℕ) (ws : List ℕ) (v : Walk) → At j symbols cells a v → a + length ws ≤ 2 ^ 18
    → (w : Walk) × At j symbols (cells ++ pairs a ws) (a + length ws) w × Ran v w (events.Words a (record { items = ws }) ∷ [])
unfolding lined operate
row_led j symbols cells a ws v h l =
    let k = line_kept j symbols cells a ws v.machine h.holds l in (
      next_line (walk_after v k.machine (only v.block.slot) v.block),
      record { holds = k.holds; slot = h.slot },
      ran_one v (events.Words a (record { items = ws })) k.machine (only v.block.slot) v.block refl refl (rw h.slot (rw k.is refl)),
    )

-- all of them
abbrev above : ℕ → List (ℕ × ℕ) → Bool
above b [] = true
above b (c ∷ cells) = nat_le b c.0 && above (c.0 + 1) cells

both : (x y : Bool) → (x && y) ≡ true → (x ≡ true) × (y ≡ true)
both true true h = (refl, refl)
both true false h = cc
both false y h = cc

joined_both : (x y : Bool) → x ≡ true → y ≡ true → (x && y) ≡ true
joined_both true true h k = refl
joined_both true false h k = cc
joined_both false y h k = cc

rising_above : (a : ℕ) (cells : List (ℕ × ℕ)) → rises_from a cells ≡ true → above (a + 1) cells ≡ true
rising_above a [] h = refl
rising_above a (c ∷ cells) h =
    let p = both (nat_lt a c.0) (rises_from c.0 cells) h in
    let t : nat_le (a + 1) c.0 ≡ true = (let q = p.0 in grind (arith, nat_tests)) in
    joined_both (nat_le (a + 1) c.0) (above (c.0 + 1) cells) t (rising_above c.0 cells p.1)

pairs_push : (a w : ℕ) (ws : List ℕ) → pairs a (ws ++ w ∷ []) ≡ pairs a ws ++ (a + length ws, w) ∷ []
pairs_push a w [] = let e : a ≡ a + 0 = omega arith in ap (λ x. (x, w) ∷ []) e
pairs_push a w (v ∷ ws) = let e : (a + 1) + length ws ≡ a + length (v ∷ ws) =
    omega arith in ap (λ x. (a, v) ∷ x) (pairs_push (a + 1) w ws ∙ ap (λ x. pairs (a + 1) ws ++ (x, w) ∷ []) e)

as_led : (j : Job) (symbols : List (ℕ × ℕ)) (a b : List (ℕ × ℕ)) (v : Walk) (es : List Event) → a ≡ b → Led j symbols a v es → Led j symbols b v es
as_led j symbols a b v es e l = subst (λ x. Led j symbols x v es) e l

at_more : (j : Job) (symbols cells : List (ℕ × ℕ)) (a b : ℕ) (v : Walk) → a ≤ b → At j symbols cells a v → At j symbols cells b v
at_more j symbols cells a b v l h = record {
  holds = record {
    core = h.holds.core;
    stage = h.holds.stage;
    has = h.holds.has;
    below = below_more a b cells l h.holds.below;
  };
  slot = h.slot;
}

rows_led : (j : Job) (symbols done : List (ℕ × ℕ)) (a : ℕ) (ws : List ℕ) (cells : List (ℕ × ℕ)) (v : Walk) → At j symbols done a v
    → a + length ws ≤ 2 ^ 18 → above (a + length ws) cells ≡ true → All CellFits cells
    → Led j symbols (done ++ (pairs a ws ++ cells)) v (rows_from a ws cells)
rows_led j symbols done a ws [] v h l r f =
    let one = row_led j symbols done a ws v h l in
    as_led j symbols (done ++ pairs a ws) (done ++ (pairs a ws ++ [])) v _ (ap (λ x. done ++ x) (sym (append-nil (pairs a ws))))
    (record { to = one.0; end = a + length ws; at = one.1; ran = one.2 })
rows_led j symbols done a ws (c ∷ cells) v h l r f =
    let p = both (nat_le (a + length ws) c.0) (above (c.0 + 1) cells) r in
    let low : a + length ws ≤ c.0 = (let q = p.0 in grind (arith, nat_tests)) in
    let high : c.0 < 2 ^ 18 = All-head CellFits c cells f in
    elim (cases_Bool (goes_on a ws c.0)) [
      | inl t ↦
          let e : c.0 ≡ a + length ws = here (c.0 == a + length ws) (nat_lt (length ws) 16) t (λ q. grind (arith, nat_tests)) in
          let long : a + length (ws ++ c.1 ∷ []) ≡ c.0 + 1 = omega (arith, length-append ws (c.1 ∷ []), e) in
          let more = rows_led j symbols done a (ws ++ c.1 ∷ []) cells v h (omega (arith, long, high))
          (subst (λ x. above x cells ≡ true) (sym long) p.1) (All-tail CellFits c cells f) in
          let same : pairs a (ws ++ c.1 ∷ []) ++ cells ≡ pairs a ws ++ c ∷ cells =
          ap (λ x. x ++ cells) (pairs_push a c.1 ws ∙ ap (λ x. pairs a ws ++ (x, c.1) ∷ []) (sym e)) ∙ append_assoc (pairs a ws) (c ∷ []) cells in
          rw t (as_led j symbols _ _ v _ (ap (λ x. done ++ x) same) more)
      | inr t ↦
          let one = row_led j symbols done a ws v h l in
          let more = rows_led j symbols (done ++ pairs a ws) c.0 (c.1 ∷ []) cells one.0
          (at_more j symbols (done ++ pairs a ws) (a + length ws) c.0 one.0 low one.1) (omega (arith, high)) p.1 (All-tail CellFits c cells f) in
          rw t (as_led j symbols _ _ v _ (append_assoc done (pairs a ws) (c ∷ cells))
          (record {
            to = more.to;
            end = more.end;
            at = more.at;
            ran = ran_then v one.0 more.to (events.Words a (record { items = ws }) ∷ []) _ one.2 more.ran;
          }))
    ]
  where
    here : {P : Type 0} (x y : Bool) → (x && y) ≡ true → (x ≡ true → P) → P
    here true true h k = k refl
    here true false h k = cc
    here false y h k = cc

all_rows_led : (j : Job) (symbols cells : List (ℕ × ℕ)) (v : Walk) → At j symbols [] 0 v → rises cells ≡ true → All CellFits cells
    → Led j symbols cells v (rows cells)
all_rows_led j symbols [] v h r f = record { to = v; end = 0; at = h; ran = ran_none v }
all_rows_led j symbols (c ∷ cells) v h r f =
    rows_led j symbols [] c.0 (c.1 ∷ []) cells v (at_more j symbols [] 0 c.0 v (omega arith) h) (omega (arith, All-head CellFits c cells f))
    (rising_above c.0 cells r) (All-tail CellFits c cells f)

-- symbols
symbol_led : (j : Job) (symbols cells : List (ℕ × ℕ)) (a : ℕ) (x : ℕ × ℕ) (v : Walk) → At j symbols cells a v → length symbols < 512
    → (w : Walk) × At j (symbols ++ x ∷ []) cells a w × Ran v w (events.Symbol x.0 x.1 ∷ [])
unfolding lined operate with_symbol_kept
symbol_led j symbols cells a x v h l =
    let m = v.machine in
    let n : Machine = record m { symbols = changed m.symbols 0 (m.symbols 0 ++ x ∷ []) } in
    let room : nat_lt (length symbols) most_symbols ≡ true = grind (arith, nat_tests) in (
      next_line (walk_after v n nobody v.block),
      record {
        holds = record {
          core = h.holds.core;
          stage = record { here = h.holds.stage.here; others = h.holds.stage.others; symbols_are = ap (λ y. y ++ x ∷ []) h.holds.stage.symbols_are };
          has = h.holds.has;
          below = h.holds.below;
        };
        slot = h.slot;
      },
      ran_one v (events.Symbol x.0 x.1) n nobody v.block refl refl
          (rw (h.slot, h.holds.stage.here) (rw (ap (λ y. nat_lt (length y) most_symbols) h.holds.stage.symbols_are ∙ room) refl)),
    )

symbols_led : (j : Job) (symbols cells more : List (ℕ × ℕ)) (a : ℕ) (v : Walk) → At j symbols cells a v → length symbols + length more ≤ 512
    → Led j (symbols ++ more) cells v (symbol_lines more)
symbols_led j symbols cells [] a v h l = record { to = v; end = a; at = subst (λ x. At j x cells a v) (sym (append-nil symbols)) h; ran = ran_none v }
symbols_led j symbols cells (x ∷ more) a v h l =
    let one = symbol_led j symbols cells a x v h (omega arith) in
    let rest = symbols_led j (symbols ++ x ∷ []) cells more a one.0 one.1 (omega (arith, length-append symbols (x ∷ []))) in
    subst (λ y. Led j y cells v (events.Symbol x.0 x.1 ∷ symbol_lines more)) (append_assoc symbols (x ∷ []) more)
    (record { to = rest.to; end = rest.end; at = rest.at; ran = ran_then v one.0 rest.to (events.Symbol x.0 x.1 ∷ []) (symbol_lines more) one.2 rest.ran })

-- VERSION and LOAD
abbrev versioned_start : Walk
versioned_start = next_line (walk_after at_start (record no_machine { version = 2 }) nobody no_block)

empty_start : no_job no_machine.jobs ≡ true
unfolding no_machine
empty_start = no_job_at_all no_machine.jobs (λ k. refl)

version_comes : lined at_start.machine at_start.block (events.Version 2) ≡ Done (Does (record no_machine { version = 2 }) [] nobody no_block)
unfolding lined operate with_version
version_comes = ap (λ b. Done (Does (if b then record no_machine { version = 2 } else no_machine) [] nobody no_block)) empty_start

version_ran : Ran at_start versioned_start (events.Version 2 ∷ [])
version_ran = ran_one at_start (events.Version 2) (record no_machine { version = 2 }) nobody no_block refl refl version_comes

abbrev job_made : ℕ → ℕ → Option ℕ → Machine
job_made u j con = with_holder (with_new (record no_machine { version = 2 }) 0 (new_job u j con)) 0 con

abbrev loaded_start : ℕ → ℕ → Option ℕ → Walk
loaded_start u j con = next_line (walk_after versioned_start (job_made u j con) (only 0) (record no_block { slot = 0 }))

load_comes : (u j : ℕ) (con : Option ℕ) → lined versioned_start.machine versioned_start.block (events.Load u j con) ≡ Done
    (Does (job_made u j con) (printed.Loaded 0 ∷ []) (only 0) (record no_block { slot = 0 }))
unfolding lined operate after_load no_machine least_free free_from limit_of
load_comes u j con = refl

job_stage : (u j : ℕ) (con : Option ℕ) → Stage (fresh_job u j con) no_core [] (job_made u j con)
unfolding no_machine
job_stage u j None = record { here = refl; others = λ k n. rw (off k n) refl; symbols_are = refl }
job_stage u j (Some c) = record { here = refl; others = λ k n. rw (off k n) refl; symbols_are = refl }

loaded_at : (u j : ℕ) (con : Option ℕ) → At (fresh_job u j con) [] [] 0 (loaded_start u j con)
loaded_at u j con = record {
  holds = record {
    core = no_core;
    stage = job_stage u j con;
    has = core_start;
    below = All-nil (λ (x : ℕ × ℕ). x.0 < 0);
  };
  slot = refl;
}

-- GO
go_led : (j : Job) (symbols cells : List (ℕ × ℕ)) (a start : ℕ) (v : Walk) → At j symbols cells a v → (w : Walk)
    × At (after_go start j) symbols cells a w × Ran v w (events.Go start ∷ [])
unfolding lined operate on_registers
go_led j symbols cells a start v h =
    let m = v.machine in
    let n : Machine = with_job m 0 (whole h.holds.core (after_go start j) None) in (
      next_line (walk_after v n (only v.block.slot) v.block),
      record {
        holds = record {
          core = h.holds.core;
          stage = record { here = refl; others = λ k e. rw (off k e) (h.holds.stage.others k e); symbols_are = h.holds.stage.symbols_are };
          has = h.holds.has;
          below = h.holds.below;
        };
        slot = h.slot;
      },
      ran_one v (events.Go start) n (only v.block.slot) v.block refl refl (rw h.slot (rw h.holds.stage.here refl)),
    )

-- the whole session
end_shows : (v : Walk) → Shows v highest (Read events.End ∷ []) [] Ended
unfolding lined operate
end_shows v = end_line refl

end_last : (v : Walk) (lines : List Line) → (course v highest (Read events.End ∷ []) lines).last ≡ v.machine
unfolding lined operate
end_last v lines = refl

load_last : (u j : ℕ) (con : Option ℕ) (es : List Item)
    → (course versioned_start highest (Read (events.Load u j con) ∷ es) (printed.Loaded 0 ∷ [])).last ≡ (course (loaded_start u j con) highest es []).last
load_last u j con es = rw (load_comes u j con) refl

record WholeSession (u j start : ℕ) (con : Option ℕ) (words symbols : List (ℕ × ℕ)) (es : List Event) : Type 0 where
  pub shown : Transcript (map Read es) (printed.Loaded 0 ∷ []) Ended
  pub core : Core
  pub stage : Stage (after_go start (fresh_job u j con)) core symbols (run_of (map Read es) (printed.Loaded 0 ∷ [])).last
  pub has : CoreIs (has_page words) words core

whole_session : (u j start : ℕ) (con : Option ℕ) (words symbols : List (ℕ × ℕ)) → All CellFits words → rises words ≡ true → length symbols ≤ 512
    → WholeSession u j start con words symbols (events.Version 2 ∷ events.Load u j con
    ∷ (rows words ++ (symbol_lines symbols ++ (events.Go start ∷ events.End ∷ []))))
whole_session u j start con words symbols f r few =
    let made = fresh_job u j con in
    let lines : List Event = rows words ++ (symbol_lines symbols ++ (events.Go start ∷ events.End ∷ [])) in
    let begin = loaded_start u j con in
    let ws = all_rows_led made [] words begin (loaded_at u j con) r f in
    let ss = symbols_led made [] words symbols ws.end ws.to ws.at (omega (arith, few)) in
    let go = go_led made symbols words ss.end start ss.to ss.at in
    let inner = ran_then begin ws.to go.0 (rows words) (symbol_lines symbols ++ events.Go start ∷ []) ws.ran
    (ran_then ws.to ss.to go.0 (symbol_lines symbols) (events.Go start ∷ []) ss.ran go.2) in
    let tail : map Read (rows words ++ (symbol_lines symbols ++ events.Go start ∷ [])) ++ Read events.End
    ∷ [] ≡ map Read (rows words ++ (symbol_lines symbols ++ (events.Go start ∷ events.End ∷ []))) =
    sym (map_append Read (rows words ++ (symbol_lines symbols ++ events.Go start ∷ [])) (events.End ∷ []))
    ∙ ap (map Read) (append_assoc (rows words) (symbol_lines symbols ++ events.Go start ∷ []) (events.End ∷ [])
    ∙ ap (λ x. rows words ++ x) (append_assoc (symbol_lines symbols) (events.Go start ∷ []) (events.End ∷ []))) in
    let shown = inner.shows (Read events.End ∷ []) [] Ended (end_shows go.0) in
    let last = inner.last (Read events.End ∷ []) [] ∙ end_last go.0 [] in
    record {
      shown = version_ran.shows (map Read (events.Load u j con ∷ lines)) (printed.Loaded 0 ∷ []) Ended
          (obeyed_line (load_comes u j con) refl all_made (subst (λ x. Shows begin highest x [] Ended) tail shown));
      core = go.1.holds.core;
      stage = subst (λ m. Stage (after_go start made) go.1.holds.core symbols m)
          (sym (version_ran.last (map Read (events.Load u j con ∷ lines)) (printed.Loaded 0 ∷ []) ∙ load_last u j con (map Read lines)
          ∙ ap (λ x. (course begin highest x []).last) (sym tail) ∙ last)) go.1.holds.stage;
      has = go.1.holds.has;
    }

pub image_whole : (i : Image) (text : List ℕ) → ImageFits i → IsSessionOf i text → IsWhole i
image_whole i text f s =
    let w = whole_session i.u i.j i.start i.console i.words i.symbols f.cells f.rise f.few in
    record {
      read = session_whole i text f s;
      transcript = w.shown;
      loads = record {
        job = whole w.core (after_go i.start (fresh_job i.u i.j i.console)) None;
        stands = w.stage.here;
        words = w.has.words;
        registers = refl;
        symbols = w.stage.symbols_are;
      };
    }
