-- The values and the names of statements lie in their ranges.
use Rattle.std.specs.Prelude.{if◌then◌else◌, ◌≡◌, ◌≤◌, ◌<◌, ◌%◌, ◌^◌, ℕ, Bool, true, false, Option, Some, None, IfSome, Result, Ok, Err, List, [], ◌∷◌, All, filter, nat_le, drop, bytes_eq, codes, refl}
use Rattle.std.proofs.Common.{arith}
use Rattle.std.proofs.lemmas.Bool.Decides.{nat_tests}
use Rattle.std.proofs.lemmas.List.Elements.{All-cons, All-nil}
use Rattle.its_word.specs.Text.{is_name, is_octal, octal_value, sixbit_of}
use Rattle.its_session.specs.Fits.{IsNameWord}
use Rattle.its_chart.specs.Text.{is_mark}
use Rattle.its_chart.specs.Mnemonic.{opcode_named}
use Rattle.its_asm.specs.Text.{closed, is_symbol, pieces, label_by, label_of, symbol_of}
use Rattle.its_asm.specs.Expression.{Scope, added, expression, given, summed, sum_with, term}
use Rattle.its_asm.specs.Statement.{body, console_named, equals, equals_by, formed, gives, job, job_by, labels_by, labels_of, operation, sixbit, with_one}
use Rattle.its_asm.specs.Instruction.{without_literal, instruction, whole}
use Rattle.its_asm.specs.Layout.{statement_at}
use Rattle.its_asm.specs.declared.instruction.Item.{Item}
use Rattle.its_asm.specs.declared.layout.Stage.{Stage}
use Rattle.its_asm.specs.declared.layout.Stage.TheVariants.{Begin, Body, After}
use Rattle.its_asm.specs.declared.statements.Statement.{Statement}
use Rattle.its_asm.specs.declared.statements.Statement.TheVariants.{Nothing, Job, Equals, Loc, Gives, Go}
use Rattle.its_asm.specs.declared.reason.AsmReason.{AsmReason}
use Rattle.its_asm.specs.declared.reason.AsmReason.TheVariants.{Long, Syntax, Range, Undef, Twice, Full, Cut}
use Rattle.its_asm.proofs.ReadingLaws.{symbol_is_name}

-- of two values the one that a test chooses
choose : {A : Type 0} (P : A → Type 0) (b : Bool) (x y : Option A) → (b ≡ true → IfSome x P) → (b ≡ false → IfSome y P) → IfSome (if b then x else y) P
choose P true x y f g = f refl
choose P false x y f g = g refl

-- expressions
abbrev fine : ℕ → Result ℕ AsmReason
fine v = Ok v

added_below : (sum : Result ℕ AsmReason) (sign : ℕ) (t : Result ℕ AsmReason) (v : ℕ) → added sum sign t ≡ Ok v → v < 2 ^ 18
added_below (Ok a) sign (Ok b) v h = below _ v h
  where
    below : (n k : ℕ) → fine (n % 2 ^ 18) ≡ fine k → k < 2 ^ 18
    below n k e = let f : n % 2 ^ 18 ≡ k = cc in omega (arith, f)
added_below (Ok a) sign (Err e) v h = cc
added_below (Err e) sign (Ok b) v h = cc
added_below (Err e) sign (Err f) v h = cc

summed_below : (s : Scope) (sum : Result ℕ AsmReason) (signs : List ℕ) (ts : List (List ℕ)) (v : ℕ) → ((u : ℕ) → sum ≡ Ok u → u < 2 ^ 18)
    → summed s sum signs ts ≡ Ok v → v < 2 ^ 18
summed_below s sum [] ts v below h = below v h
summed_below s sum (sign ∷ signs) [] v below h = below v h
summed_below s sum (sign ∷ signs) (t ∷ ts) v below h = summed_below s (added sum sign (term s t)) signs ts v (added_below sum sign (term s t)) h

zero_below : (u : ℕ) → fine 0 ≡ fine u → u < 2 ^ 18
zero_below u h = let e : 0 ≡ u = cc in omega (arith, e)

pub expression_below : (s : Scope) (text : List ℕ) (v : ℕ) → expression s text ≡ Ok v → v < 2 ^ 18
unfolding sum_with
expression_below s text v h = summed_below s (Ok 0) (43 ∷ filter (is_mark (codes "+-")) text) (pieces (codes "+-") text) v zero_below h

-- names
pub named : (text : List ℕ) → is_name text ≡ true → IsNameWord (sixbit_of text)
named text h = record { text = text; formed = h; coded = refl }

pub symbol_named : (text : List ℕ) → IfSome (symbol_of text) IsNameWord
symbol_named text = choose IsNameWord (is_symbol text) (Some (sixbit_of text)) None (λ t. named text (symbol_is_name text t)) (λ f. tt)

label_named : (word : List ℕ) → IfSome (label_of word) IsNameWord
label_named word = by (closed 58 word)
  where
    by : (o : Option (List ℕ)) → IfSome (label_by o) IsNameWord
    by None = tt
    by (Some name) = symbol_named name

pub labels_named : (words : List (List ℕ)) → All IsNameWord (labels_of words)
labels_named [] = All-nil IsNameWord
labels_named (word ∷ words) = by (label_of word) (label_named word) (labels_named words)
  where
    by : (o : Option ℕ) → IfSome o IsNameWord → All IsNameWord (labels_of words) → All IsNameWord (labels_by o (labels_of words))
    by None h more = All-nil IsNameWord
    by (Some name) h more = All-cons IsNameWord name (labels_of words) h more

-- a statement between JOB and GO
abbrev pub BodyFits : Statement → Type 0
BodyFits (Equals name (Ok v)) = IsNameWord name × (v < 2 ^ 18)
BodyFits (Go (Ok v)) = v < 2 ^ 18
BodyFits (Job u j console) = ⊥
BodyFits other = Unit {0}

formed_fits : {A : Type 0} (says : Result A AsmReason → Statement) (r : Result A AsmReason) → ((v : A) → r ≡ Ok v → BodyFits (says (Ok v)))
    → ((e : AsmReason) → BodyFits (says (Err e)))
    → IfSome (formed says r) BodyFits
formed_fits says (Ok v) f g = f v refl
formed_fits says (Err Syntax) f g = tt
formed_fits says (Err Long) f g = g Long
formed_fits says (Err Range) f g = g Range
formed_fits says (Err Undef) f g = g Undef
formed_fits says (Err Twice) f g = g Twice
formed_fits says (Err Full) f g = g Full
formed_fits says (Err Cut) f g = g Cut

gives_fits : (item : Result Item AsmReason) → IfSome (gives item) BodyFits
gives_fits item = formed_fits (λ w. Gives w) item (λ v e. tt) (λ e. tt)

operation_fits : (s : Scope) (text : List ℕ) (op : Option ℕ) → IfSome (operation s text op) BodyFits
operation_fits s text None = tt
operation_fits s text (Some op) = gives_fits (instruction s op text)

with_one_fits : (earlier s : Scope) (first text : List ℕ) → IfSome (with_one earlier s first text) BodyFits
unfolding with_one
with_one_fits earlier s first text =
    choose BodyFits (bytes_eq first (codes "LOC")) _ _ (λ t. formed_fits (λ v. Loc v) (expression earlier text) (λ v e. tt) (λ e. tt)) (λ f.
    choose BodyFits (bytes_eq first (codes "GO")) _ _ (λ t. formed_fits (λ v. Go v) (expression s text) (λ v e. expression_below s text v e) (λ e. tt)) (λ f.
    choose BodyFits (bytes_eq first (codes "WORD")) _ _ (λ t. gives_fits (given (whole s text) (λ w. Ok (without_literal w)))) (λ f.
    choose BodyFits (bytes_eq first (codes "SIXBIT")) _ _ (λ t. gives_fits (sixbit text)) (λ f.
    operation_fits s text (opcode_named first)))))

equals_fits : (s : Scope) (name sign e : List ℕ) → IfSome (equals s name sign e) BodyFits
equals_fits s name sign e = choose BodyFits (bytes_eq sign (codes "=")) _ None (λ t. by (symbol_of name) (symbol_named name)) (λ f. tt)
  where
    by : (o : Option ℕ) → IfSome o IsNameWord → IfSome (equals_by s e o) BodyFits
    by None h = tt
    by (Some n) h = formed_fits (λ v. Equals n v) (expression s e) (λ v k. (h, expression_below s e v k)) (λ r. tt)

body_fits : (earlier s : Scope) (words : List (List ℕ)) → IfSome (body earlier s words) BodyFits
unfolding body
body_fits earlier s [] = tt
body_fits earlier s (op ∷ []) = operation_fits s [] (opcode_named op)
body_fits earlier s (first ∷ text ∷ []) = with_one_fits earlier s first text
body_fits earlier s (name ∷ sign ∷ e ∷ []) = equals_fits earlier name sign e
body_fits earlier s (a ∷ b ∷ c ∷ d ∷ more) = tt

-- JOB
pub record JobFits (u j : ℕ) (c : Option ℕ) : Type 0 where
  pub uname : IsNameWord u
  pub jname : IsNameWord j
  pub console : IfSome c (λ k. k ≤ 7)

abbrev pub IsJob : Statement → Type 0
IsJob Nothing = Unit {0}
IsJob (Job u j console) = JobFits u j console
IsJob other = ⊥

console_fits : (word : List ℕ) → IfSome (console_named word) (λ c. IfSome c (λ k. k ≤ 7))
console_fits word =
    choose (λ c. IfSome c (λ k. k ≤ 7)) (bytes_eq word (codes "-")) (Some None) _ (λ t. tt) (λ f.
    choose (λ c. IfSome c (λ k. k ≤ 7)) (is_octal word) _ None (λ t.
    choose (λ c. IfSome c (λ k. k ≤ 7)) (nat_le (octal_value word) 7) _ None (λ e. grind (arith, nat_tests)) (λ f. tt)) (λ f. tt))

job_fits : (words : List (List ℕ)) → IfSome (job words) IsJob
unfolding job
job_fits (first ∷ u ∷ j ∷ c ∷ []) = choose IsJob (bytes_eq first (codes "JOB")) _ None (λ t. by (console_named c) (console_fits c)) (λ f. tt)
  where
    by : (o : Option (Option ℕ)) → IfSome o (λ k. IfSome k (λ n. n ≤ 7)) → IfSome (job_by u j o) IsJob
    by None h = tt
    by (Some k) h = choose IsJob (is_name u) _ None (λ a. choose IsJob (is_name j) _ None
        (λ b. record { uname = named u a; jname = named j b; console = h }) (λ f. tt)) (λ f. tt)
job_fits _ = tt

-- a statement that is allowed at a stage
abbrev pub StatementFits : Stage → Statement → Type 0
StatementFits Begin s = IsJob s
StatementFits Body s = BodyFits s
StatementFits After Nothing = Unit {0}
StatementFits After other = ⊥

pub statement_fits : (stage : Stage) (earlier s : Scope) (k : ℕ) (words : List (List ℕ)) → IfSome (statement_at stage earlier s k words) (StatementFits stage)
statement_fits Begin earlier s k [] = tt
statement_fits Body earlier s k [] = tt
statement_fits After earlier s k [] = tt
statement_fits Begin earlier s k (w ∷ ws) = job_fits (w ∷ ws)
statement_fits Body earlier s k (w ∷ ws) = body_fits earlier s (drop k (w ∷ ws))
statement_fits After earlier s k (w ∷ ws) = tt
