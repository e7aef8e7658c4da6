-- What holds of each image that a text is assembled to.
use Rattle.std.specs.Prelude.{if◌then◌else◌, ◌≡◌, ◌≤◌, ◌<◌, ◌+◌, ◌%◌, ◌^◌, ◌&&◌, ◌||◌, ℕ, Bool, true, false, Option, Some, None, IfSome, IfOk, Result, Ok, Err, List, [], ◌∷◌, All, length, fold, nat_eq, nat_le, nat_lt, refl}
use Rattle.std.proofs.Common.{sym, subst, arith}
use Rattle.std.proofs.lemmas.Bool.Decides.{nat_tests}
use Rattle.std.proofs.lemmas.List.Elements.{All-cons, All-head, All-nil, All-push, All-tail}
use Rattle.its_session.specs.Fits.{IsNameWord}
use Rattle.its_chart.specs.Text.{is_printable}
use Rattle.its_asm.specs.Text.{statement_words}
use Rattle.its_asm.specs.Statement.{labels_of}
use Rattle.its_asm.specs.Layout.{before_all, defined, defined_by, equated, is_defined, labelled, laid_out, read, stage_after, statement_at, symbols_after, with_labels}
use Rattle.its_asm.specs.Assembly.{Assembly, addressed, assembly, behind, ended, first_reason, from_line, inserted, is_full, is_location_twice, is_past, is_symbol_twice, is_undefined, lines_of, literals_past, made, nothing_made, onwards, placed, reason_against, spoken, unless, with_line}
use Rattle.its_asm.specs.declared.layout.Layout.{Layout}
use Rattle.its_asm.specs.declared.layout.Line.{Line as Spoken}
use Rattle.its_asm.specs.declared.layout.Stage.{Stage}
use Rattle.its_asm.specs.declared.layout.Stage.TheVariants.{Begin, Body, After}
use Rattle.its_asm.specs.declared.statements.Statement.{Statement}
use Rattle.its_asm.specs.declared.statements.Statement.TheVariants.{Nothing, Job, Equals, Loc, Gives, Go}
use Rattle.its_asm.specs.declared.assembly.Image.{Image}
use Rattle.its_asm.specs.declared.reason.AsmReason.{AsmReason}
use Rattle.its_asm.specs.declared.reason.AsmReason.TheVariants.{Long}
use Rattle.its_asm_command.specs.Image.{CellFits, ImageFits, SymbolFits, rises, rises_from}
use Rattle.its_asm_command.proofs.StatementLaws.{JobFits, StatementFits, labels_named, statement_fits}

-- of two values the one that a test chooses
pick : {A : Type 0} (P : A → Type 0) (b : Bool) (x y : A) → (b ≡ true → P x) → (b ≡ false → P y) → P (if b then x else y)
pick P true x y f g = f refl
pick P false x y f g = g refl

both : (a b : Bool) → (a && b) ≡ true → (a ≡ true) × (b ≡ true)
both true true h = (refl, refl)
both true false h = cc
both false b h = cc

joined : (a b : Bool) → a ≡ true → b ≡ true → (a && b) ≡ true
joined true true h k = refl
joined true false h k = cc
joined false b h k = cc

less : (a b : ℕ) → a < b → nat_lt a b ≡ true
less a b h = grind (arith, nat_tests)

-- words at their addresses
insert_rises_from : (b a w : ℕ) (cells : List (ℕ × ℕ)) → rises_from b cells ≡ true → b < a → rises_from b (inserted a w cells) ≡ true
insert_rises_from b a w [] h k = joined (nat_lt b a) true (less b a k) refl
insert_rises_from b a w (c ∷ cells) h k =
    let p = both (nat_lt b c.0) (rises_from c.0 cells) h in
    pick (λ l. rises_from b l ≡ true) (nat_lt a c.0) _ _ (λ t. joined (nat_lt b a) _ (less b a k) (joined (nat_lt a c.0) _ t p.1)) (λ f.
    pick (λ l. rises_from b l ≡ true) (nat_eq a c.0) _ _
    (λ e. let same : a ≡ c.0 = grind (arith, nat_tests) in joined (nat_lt b a) _ (less b a k) (subst (λ x. rises_from x cells ≡ true) (sym same) p.1))
    (λ g. let above : c.0 < a = grind (arith, nat_tests) in joined (nat_lt b c.0) _ p.0 (insert_rises_from c.0 a w cells p.1 above)))

insert_rises : (a w : ℕ) (cells : List (ℕ × ℕ)) → rises cells ≡ true → rises (inserted a w cells) ≡ true
insert_rises a w [] h = refl
insert_rises a w (c ∷ cells) h =
    pick (λ l. rises l ≡ true) (nat_lt a c.0) _ _ (λ t. joined (nat_lt a c.0) _ t h) (λ f.
    pick (λ l. rises l ≡ true) (nat_eq a c.0) _ _
    (λ e. let same : a ≡ c.0 = grind (arith, nat_tests) in subst (λ x. rises_from x cells ≡ true) (sym same) h)
    (λ g. let above : c.0 < a = grind (arith, nat_tests) in insert_rises_from c.0 a w cells h above))

insert_fits : (a w : ℕ) (cells : List (ℕ × ℕ)) → a < 2 ^ 18 → All CellFits cells → All CellFits (inserted a w cells)
insert_fits a w [] h k = All-cons CellFits (a, w) [] h k
insert_fits a w (c ∷ cells) h k =
    pick (All CellFits) (nat_lt a c.0) _ _ (λ t. All-cons CellFits (a, w) (c ∷ cells) h k) (λ f.
    pick (All CellFits) (nat_eq a c.0) _ _ (λ e. All-cons CellFits (a, w) cells h (All-tail CellFits c cells k))
    (λ g. All-cons CellFits c (inserted a w cells) (All-head CellFits c cells k) (insert_fits a w cells h (All-tail CellFits c cells k))))

record CellsFit (cells : List (ℕ × ℕ)) : Type 0 where
  pub fit : All CellFits cells
  pub rise : rises cells ≡ true

inserted_fits : (a w : ℕ) (cells : List (ℕ × ℕ)) → a < 2 ^ 18 → CellsFit cells → CellsFit (inserted a w cells)
inserted_fits a w cells h k = record { fit = insert_fits a w cells h k.fit; rise = insert_rises a w cells k.rise }

placed_by : (a : ℕ) (ws : List ℕ) (cells : List (ℕ × ℕ)) → a + length ws ≤ 2 ^ 18 → CellsFit cells → CellsFit (placed a ws cells)
placed_by a [] cells h k = k
placed_by a (w ∷ ws) cells h k = placed_by (a + 1) ws (inserted a w cells) (omega arith) (inserted_fits a w cells (omega arith) k)

placed_fits : (base : ℕ) (ws : List ℕ) (cells : List (ℕ × ℕ)) → literals_past base ws ≡ false → CellsFit cells → CellsFit (placed base ws cells)
placed_fits base [] cells h k = k
placed_fits base (w ∷ ws) cells h k = let few : base + length (w ∷ ws) ≤ 2 ^ 18 = grind (arith, nat_tests) in placed_by base (w ∷ ws) cells few k

-- a statement's words; it is not past the last address
made_cells : (base : ℕ) (s : Statement) (a : Assembly) → is_past base s a ≡ false → CellsFit a.cells → CellsFit (made base s a).cells
made_cells base (Gives (Ok item)) a h k =
    let below : a.layout.location < 2 ^ 18 = grind (arith, nat_tests) in inserted_fits a.layout.location
    (addressed base a.literals item.literal item.word) a.cells below k
made_cells base (Go (Ok start)) a h k = placed_fits base a.literals a.cells h k
made_cells base _ a h k = k

-- symbols
defined_fits : (symbols : List (ℕ × ℕ)) (name value : ℕ) → IsNameWord name → value < 2 ^ 18 → All SymbolFits symbols
    → All SymbolFits (defined symbols name value)
defined_fits symbols name value n v h = by (is_defined symbols name)
  where
    by : (b : Bool) → All SymbolFits (defined_by b symbols name value)
    by true = h
    by false = All-push SymbolFits symbols (name, value) h (n, v)

labelled_by : (labels : List ℕ) (symbols : List (ℕ × ℕ)) (value : ℕ) → All IsNameWord labels → value < 2 ^ 18 → All SymbolFits symbols
    → All SymbolFits (fold (λ done name. defined done name value) symbols labels)
labelled_by [] symbols value n v h = h
labelled_by (name ∷ labels) symbols value n v h =
    labelled_by labels (defined symbols name value) value (All-tail IsNameWord name labels n) v
    (defined_fits symbols name value (All-head IsNameWord name labels n) v h)

labelled_fits : (symbols : List (ℕ × ℕ)) (value : ℕ) (labels : List ℕ) → All IsNameWord labels → value < 2 ^ 18 → All SymbolFits symbols
    → All SymbolFits (labelled symbols value labels)
unfolding labelled
labelled_fits symbols value labels n v h = labelled_by labels symbols value n v h

equated_fits : (stage : Stage) (s : Statement) (symbols : List (ℕ × ℕ)) → StatementFits stage s → All SymbolFits symbols → All SymbolFits (equated s symbols)
equated_fits Begin (Equals name (Ok value)) symbols f h = absurd f
equated_fits Body (Equals name (Ok value)) symbols f h = defined_fits symbols name value f.0 f.1 h
equated_fits After (Equals name (Ok value)) symbols f h = absurd f
equated_fits stage _ symbols f h = h

-- names and start
abbrev NamesFit : Stage → ℕ → ℕ → Option ℕ → Type 0
NamesFit Begin u j c = Unit {0}
NamesFit Body u j c = JobFits u j c
NamesFit After u j c = JobFits u j c

made_names : (base : ℕ) (stage : Stage) (s : Statement) (a : Assembly) → StatementFits stage s → NamesFit stage a.u a.j a.console
    → NamesFit (stage_after s stage) (made base s a).u (made base s a).j (made base s a).console
made_names base Begin Nothing a f h = tt
made_names base Begin (Job u j console) a f h = f
made_names base Begin (Equals name value) a f h = absurd f
made_names base Begin (Loc to) a f h = absurd f
made_names base Begin (Gives item) a f h = absurd f
made_names base Begin (Go start) a f h = absurd f
made_names base Body Nothing a f h = h
made_names base Body (Job u j console) a f h = absurd f
made_names base Body (Equals name value) a f h = h
made_names base Body (Loc to) a f h = h
made_names base Body (Gives (Ok item)) a f h = h
made_names base Body (Gives (Err e)) a f h = h
made_names base Body (Go (Ok start)) a f h = h
made_names base Body (Go (Err e)) a f h = h
made_names base After Nothing a f h = h
made_names base After (Job u j console) a f h = absurd f
made_names base After (Equals name value) a f h = absurd f
made_names base After (Loc to) a f h = absurd f
made_names base After (Gives item) a f h = absurd f
made_names base After (Go start) a f h = absurd f

made_start : (base : ℕ) (stage : Stage) (s : Statement) (a : Assembly) → StatementFits stage s → a.start < 2 ^ 18 → (made base s a).start < 2 ^ 18
made_start base stage Nothing a f h = h
made_start base stage (Job u j console) a f h = h
made_start base stage (Equals name value) a f h = h
made_start base stage (Loc to) a f h = h
made_start base stage (Gives (Ok item)) a f h = h
made_start base stage (Gives (Err e)) a f h = h
made_start base stage (Go (Err e)) a f h = h
made_start base Begin (Go (Ok start)) a f h = absurd f
made_start base Body (Go (Ok start)) a f h = f
made_start base After (Go (Ok start)) a f h = absurd f

-- an assembly under way
record AssemblyFits (a : Assembly) : Type 0 where
  pub cells : CellsFit a.cells
  pub symbols : All SymbolFits a.layout.symbols
  pub few : length a.layout.symbols ≤ 512
  pub start : a.start < 2 ^ 18
  pub names : NamesFit a.layout.stage a.u a.j a.console

record SpokenFits (stage : Stage) (line : Spoken) : Type 0 where
  pub statement : StatementFits stage line.statement
  pub labels : All IsNameWord line.labels.items

read_fits : (l : Layout) (symbols : List (ℕ × ℕ)) (line : List ℕ) → IfSome (read l symbols line) (SpokenFits l.stage)
unfolding read
read_fits l symbols line = pick (λ o. IfSome o (SpokenFits l.stage)) (is_printable line) _ None
    (λ t. by (statement_at l.stage _ _ _ _) (statement_fits l.stage _ _ _ (statement_words line))) (λ f. tt)
  where
    by : (o : Option Statement) → IfSome o (StatementFits l.stage) → IfSome (with_labels (labels_of (statement_words line)) o) (SpokenFits l.stage)
    by None h = tt
    by (Some s) h = record { statement = h; labels = labels_named (statement_words line) }

record NoReason (range undef twice full : Bool) : Type 0 where
  pub within : range ≡ false
  pub room : full ≡ false

no_reason : (range undef twice full : Bool) → first_reason range undef twice full ≡ None → NoReason range undef twice full
no_reason false false false false h = record { within = refl; room = refl }
no_reason true undef twice full h = cc
no_reason false true twice full h = cc
no_reason false false true full h = cc
no_reason false false false true h = cc

behind_fits : (base : ℕ) (a : Assembly) (line : Spoken) → SpokenFits a.layout.stage line → AssemblyFits a
    → reason_against base a line ≡ None → AssemblyFits (behind base a line)
behind_fits base a line s f h =
    let n = no_reason (is_past base line.statement a) (is_undefined line.statement)
    (is_symbol_twice a.layout line || is_location_twice base line.statement a) (is_full a.layout line) h in
    let location : a.layout.location % 2 ^ 18 < 2 ^ 18 = omega arith in
    record {
      cells = made_cells base line.statement a n.within f.cells;
      symbols = equated_fits a.layout.stage line.statement _ s.statement
          (labelled_fits a.layout.symbols (a.layout.location % 2 ^ 18) line.labels.items s.labels location f.symbols);
      few = few_of (length (symbols_after a.layout line)) n.room;
      start = made_start base a.layout.stage line.statement a s.statement f.start;
      names = made_names base a.layout.stage line.statement a s.statement f.names;
    }
  where
    few_of : (k : ℕ) → nat_lt 512 k ≡ false → k ≤ 512
    few_of k e = grind (arith, nat_tests)

line_fits : (whole : Layout) (a : Assembly) (line : List ℕ) → AssemblyFits a → IfOk (with_line whole a line) AssemblyFits
unfolding with_line
line_fits whole a line f = pick (λ r. IfOk r AssemblyFits) (nat_le (length line) 255) _ (Err Long)
    (λ t. by (read a.layout whole.symbols line) (read_fits a.layout whole.symbols line)) (λ g. tt)
  where
    unless_fits : (r : Option AsmReason) (b : Assembly) → (r ≡ None → AssemblyFits b) → IfOk (unless r b) AssemblyFits
    unless_fits None b g = g refl
    unless_fits (Some reason) b g = tt

    by : (o : Option Spoken) → IfSome o (SpokenFits a.layout.stage) → IfOk (spoken whole.location a o) AssemblyFits
    by None h = tt
    by (Some l) h = unless_fits (reason_against whole.location a l) (behind whole.location a l) (λ e. behind_fits whole.location a l h f e)

ended_fits : (n : ℕ) (stage : Stage) (a : Assembly) → AssemblyFits a → NamesFit stage a.u a.j a.console → IfOk (ended n stage a) ImageFits
ended_fits n Begin a f h = tt
ended_fits n Body a f h = tt
ended_fits n After a f h = record {
  uname = h.uname;
  jname = h.jname;
  console = h.console;
  cells = f.cells.fit;
  rise = f.cells.rise;
  symbols = f.symbols;
  few = f.few;
  start = f.start;
}

from_fits : (whole : Layout) (n : ℕ) (a : Assembly) (lines : List (List ℕ)) → AssemblyFits a → IfOk (from_line whole n a lines) ImageFits
from_fits whole n a [] f = ended_fits n a.layout.stage a f f.names
from_fits whole n a (line ∷ lines) f = go (with_line whole a line) (line_fits whole a line f) (λ b h. from_fits whole (n + 1) b lines h)
  where
    go : (r : Result Assembly AsmReason) → IfOk r AssemblyFits
        → ((b : Assembly) → AssemblyFits b → IfOk (from_line whole (n + 1) b lines) ImageFits)
        → IfOk (onwards n r (λ b. from_line whole (n + 1) b lines)) ImageFits
    go (Ok b) h next = next b h
    go (Err e) h next = tt

nothing_fits : AssemblyFits nothing_made
nothing_fits = record {
  cells = record { fit = All-nil CellFits; rise = refl };
  symbols = All-nil SymbolFits;
  few = omega arith;
  start = omega arith;
  names = tt;
}

all_fit : (text : List ℕ) → IfOk (assembly text) ImageFits
unfolding assembly
all_fit text = from_fits (laid_out before_all (lines_of text)) 1 nothing_made (lines_of text) nothing_fits

pub image_fits : (text : List ℕ) (i : Image) → assembly text ≡ Ok i → ImageFits i
image_fits text i h = subst (λ r. IfOk r ImageFits) h (all_fit text)
