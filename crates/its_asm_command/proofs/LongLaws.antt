-- A line of more than 255 bytes ends a text: neither what is in it nor what follows it counts.
use Rattle.std.specs.Prelude.{◌≡◌, ◌≤◌, ◌<◌, ◌+◌, ◌&&◌, ℕ, Bool, true, false, Result, Ok, Err, List, [], ◌∷◌, ◌++◌, length, fold, nat_le, nat_lt, refl}
use Rattle.std.proofs.Common.{sym, ◌∙◌, ap, arith, inl, inr}
use Rattle.std.specs.List.{list_all, position_or_len}
use Rattle.std.proofs.lemmas.Bool.{cases_Bool}
use Rattle.std.proofs.lemmas.Bool.Decides.{nat_tests}
use Rattle.std.proofs.lemmas.List.{length-append}
use Rattle.its_session.specs.Events.{most_lines}
use Rattle.its_chart.specs.Text.{is_printable}
use Rattle.its_asm.specs.Text.{statement_words}
use Rattle.its_asm.specs.Statement.{labels_of}
use Rattle.its_asm.specs.Layout.{earlier_at, scope_at, statement_at, with_labels, read, labelled, passed_by, laid_by, laid, laid_out, before_all}
use Rattle.its_asm.specs.declared.layout.Layout.{Layout}
use Rattle.its_asm.specs.declared.layout.Stage.TheVariants.{After}
use Rattle.its_asm.specs.Assembly.{Assembly, assembly, from_line, lines_of, nothing_made, onwards, with_line}
use Rattle.its_asm.specs.declared.reason.AsmReason.{AsmReason}
use Rattle.its_asm.specs.declared.reason.AsmReason.TheVariants.{Long}
use Rattle.its_asm_command.specs.Past.{is_long, past_most, runs_past}
use Rattle.its_asm_command.specs.Text.{Assembles}

-- a layout that is over
abbrev over : Layout → Layout
over l = record l { stage = After }

over_words : (l : Layout) (ws : List (List ℕ)) → passed_by (over l)
    (with_labels (labels_of ws) (statement_at After (earlier_at (over l)) (scope_at (over l) l.symbols) (length (labels_of ws)) ws)) ≡ over l
unfolding labelled
over_words l [] = refl
over_words l (w ∷ ws) = refl

stays_read : (l : Layout) (line : List ℕ) → passed_by (over l) (read (over l) l.symbols line) ≡ over l
unfolding read
stays_read l line = elim (cases_Bool (is_printable line)) [
  | inl t ↦ rw t (over_words l (statement_words line))
  | inr f ↦ rw f refl
]

stays : (l : Layout) (line : List ℕ) → laid (over l) line ≡ over l
unfolding laid
stays l line = elim (cases_Bool (nat_le (length line) 255)) [
  | inl t ↦ rw t (stays_read l line)
  | inr f ↦ rw f refl
]

all_stay : (l : Layout) (lines : List (List ℕ)) → fold laid (over l) lines ≡ over l
all_stay l [] = refl
all_stay l (line ∷ lines) = ap (λ x. fold laid x lines) (stays l line) ∙ all_stay l lines

is_over : (l : Layout) (line : List ℕ) → nat_le (length line) 255 ≡ false → laid l line ≡ over l
unfolding laid
is_over l line h = ap (λ b. laid_by b l line) h

long_laid : (l : Layout) (ls : List (List ℕ)) (x : List ℕ) (behind : List (List ℕ)) → nat_le (length x) 255 ≡ false
    → fold laid l (ls ++ x ∷ behind) ≡ over (fold laid l ls)
long_laid l [] x behind h = ap (λ y. fold laid y behind) (is_over l x h) ∙ all_stay l behind
long_laid l (line ∷ ls) x behind h = long_laid (laid l line) ls x behind h

long_line : (whole : Layout) (a : Assembly) (x : List ℕ) → nat_le (length x) 255 ≡ false → with_line whole a x ≡ Err Long
unfolding with_line
long_line whole a x h = rw h refl

from_long : (whole : Layout) (n : ℕ) (a : Assembly) (ls : List (List ℕ)) (x y : List ℕ) (behind : List (List ℕ))
    → nat_le (length x) 255 ≡ false → nat_le (length y) 255 ≡ false
    → from_line whole n a (ls ++ x ∷ behind) ≡ from_line whole n a (ls ++ y ∷ [])
from_long whole n a [] x y behind h k =
    ap (λ r. onwards n r (λ b. from_line whole (n + 1) b behind)) (long_line whole a x h)
    ∙ sym (ap (λ r. onwards n r (λ b. from_line whole (n + 1) b [])) (long_line whole a y k))
from_long whole n a (l ∷ ls) x y behind h k = go (with_line whole a l) (λ b. from_long whole (n + 1) b ls x y behind h k)
  where
    go : (r : Result Assembly AsmReason) → ((b : Assembly) → from_line whole (n + 1) b (ls ++ x ∷ behind) ≡ from_line whole (n + 1) b (ls ++ y ∷ []))
        → onwards n r (λ b. from_line whole (n + 1) b (ls ++ x ∷ behind)) ≡ onwards n r (λ b. from_line whole (n + 1) b (ls ++ y ∷ []))
    go (Ok b) next = next b
    go (Err e) next = refl

-- a text with such a line is not assembled
none_from : (whole : Layout) (n : ℕ) (a : Assembly) (ls : List (List ℕ)) (x : List ℕ) (behind : List (List ℕ))
    → nat_le (length x) 255 ≡ false → Assembles (from_line whole n a (ls ++ x ∷ behind)) → ⊥
none_from whole n a [] x behind h = go (with_line whole a x) (long_line whole a x h)
  where
    go : (r : Result Assembly AsmReason) → r ≡ Err Long → Assembles (onwards n r (λ b. from_line whole (n + 1) b behind)) → ⊥
    go (Ok b) e m = cc
    go (Err e) f m = m
none_from whole n a (l ∷ ls) x behind h = go (with_line whole a l) (λ b. none_from whole (n + 1) b ls x behind h)
  where
    go : (r : Result Assembly AsmReason) → ((b : Assembly) → Assembles (from_line whole (n + 1) b (ls ++ x ∷ behind)) → ⊥)
        → Assembles (onwards n r (λ b. from_line whole (n + 1) b (ls ++ x ∷ behind))) → ⊥
    go (Ok b) next m = next b m
    go (Err e) next m = m

pub assembly_by : (a b : List ℕ) → lines_of a ≡ lines_of b → assembly a ≡ assembly b
unfolding assembly
assembly_by a b e = ap (λ ls. from_line (laid_out before_all ls) 1 nothing_made ls) e

pub assembly_long : (a b : List ℕ) (ls : List (List ℕ)) (x y : List ℕ) (behind : List (List ℕ)) → nat_le (length x) 255 ≡ false
    → nat_le (length y) 255 ≡ false
    → lines_of a ≡ ls ++ y ∷ [] → lines_of b ≡ ls ++ x ∷ behind → assembly a ≡ assembly b
unfolding assembly laid_out
assembly_long a b ls x y behind h k e f =
    ap (λ v. from_line (laid_out before_all v) 1 nothing_made v) e
    ∙ ap (λ w. from_line w 1 nothing_made (ls ++ y ∷ [])) (long_laid before_all ls y [] k ∙ sym (long_laid before_all ls x behind h))
    ∙ sym (from_long (laid_out before_all (ls ++ x ∷ behind)) 1 nothing_made ls x y behind h k)
    ∙ ap (λ v. from_line (laid_out before_all v) 1 nothing_made v) (sym f)

pub none_assembled : (b : List ℕ) (ls : List (List ℕ)) (x : List ℕ) (behind : List (List ℕ)) → nat_le (length x) 255 ≡ false
    → lines_of b ≡ ls ++ x ∷ behind → Assembles (assembly b) → ⊥
unfolding assembly
none_assembled b ls x behind h f m =
    none_from (laid_out before_all (ls ++ x ∷ behind)) 1 nothing_made ls x behind h
    (subst_lines f m)
  where
    subst_lines : lines_of b ≡ ls ++ x ∷ behind → Assembles (from_line (laid_out before_all (lines_of b)) 1 nothing_made (lines_of b))
        → Assembles (from_line (laid_out before_all (ls ++ x ∷ behind)) 1 nothing_made (ls ++ x ∷ behind))
    subst_lines e m = rw e at m

-- how many lines are before the first one that is long
abbrev pub all_short : List (List ℕ) → Bool
all_short ls = list_all (λ line. nat_le (length line) 255) ls

both : (a b : Bool) → (a && b) ≡ true → (a ≡ true) × (b ≡ true)
both true true h = (refl, refl)
both true false h = cc
both false b h = cc

not_long : (l : List ℕ) → nat_le (length l) 255 ≡ true → is_long l ≡ false
not_long l h = grind (arith, nat_tests)

yes_long : (l : List ℕ) → nat_le (length l) 255 ≡ false → is_long l ≡ true
yes_long l h = grind (arith, nat_tests)

behind_short : (ls more : List (List ℕ)) → all_short ls ≡ true → position_or_len is_long (ls ++ more) ≡ length ls + position_or_len is_long more
behind_short [] more h = omega arith
behind_short (l ∷ ls) more h =
    let p = both (nat_le (length l) 255) (all_short ls) h in
    rw (not_long l p.0) (omega (arith, behind_short ls more p.1))

at_long : (x : List ℕ) (behind : List (List ℕ)) → nat_le (length x) 255 ≡ false → position_or_len is_long (x ∷ behind) ≡ 0
at_long x behind h = rw (yes_long x h) refl

pub few_lines : (text : List ℕ) (ls : List (List ℕ)) → lines_of text ≡ ls → length ls ≤ most_lines → runs_past text ≡ false
unfolding runs_past
few_lines text ls e few =
    let t : nat_lt most_lines (length ls) ≡ false = grind (arith, nat_tests) in
    ap past_most e ∙ rw t refl

pub long_within : (text : List ℕ) (ls : List (List ℕ)) (x : List ℕ) (behind : List (List ℕ)) → lines_of text ≡ ls ++ x ∷ behind
    → all_short ls ≡ true → nat_le (length x) 255 ≡ false
    → length ls < most_lines → runs_past text ≡ false
unfolding runs_past
long_within text ls x behind e short long few =
    let at : position_or_len is_long (ls ++ x ∷ behind) ≡ length ls = omega (arith, behind_short ls (x ∷ behind) short, at_long x behind long) in
    let t : nat_le most_lines (position_or_len is_long (ls ++ x ∷ behind)) ≡ false = rw at (grind (arith, nat_tests)) in
    ap past_most e ∙ rw t (no (nat_lt most_lines (length (ls ++ x ∷ behind))))
  where
    no : (b : Bool) → (b && false) ≡ false
    no true = refl
    no false = refl

pub past_lines : (text : List ℕ) (ls : List (List ℕ)) (x : List ℕ) (behind : List (List ℕ)) → lines_of text ≡ ls ++ x ∷ behind
    → all_short ls ≡ true → most_lines ≤ length ls → runs_past text ≡ true
unfolding runs_past
past_lines text ls x behind e short many =
    let at : most_lines ≤ position_or_len is_long (ls ++ x ∷ behind) = omega (arith, behind_short ls (x ∷ behind) short) in
    let t : nat_le most_lines (position_or_len is_long (ls ++ x ∷ behind)) ≡ true = grind (arith, nat_tests) in
    let l : most_lines < length (ls ++ x ∷ behind) = omega (arith, length-append ls (x ∷ behind)) in
    let u : nat_lt most_lines (length (ls ++ x ∷ behind)) ≡ true = grind (arith, nat_tests) in
    ap past_most e ∙ rw (t, u) refl

pub short_more : (ls : List (List ℕ)) (line : List ℕ) → all_short ls ≡ true → length line ≤ 255 → all_short (ls ++ line ∷ []) ≡ true
short_more [] line h few = let t : nat_le (length line) 255 ≡ true = grind (arith, nat_tests) in rw t refl
short_more (l ∷ ls) line h few =
    let p = both (nat_le (length l) 255) (all_short ls) h in
    rw (p.0, short_more ls line p.1 few) refl
