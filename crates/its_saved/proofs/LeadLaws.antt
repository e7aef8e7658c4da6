-- Lines that lead from one machine to another. Each part of what is saved leads along a row of
-- machines, of which each is named: `leads_each` makes one of all its steps.
use Rattle.std.specs.Prelude.{◌≡◌, ◌<◌, ◌≤◌, ℕ, zero, suc, ◌+◌, Bool, true, false, Option, Some, None, List, [], ◌∷◌, ◌++◌, length, take, drop, option_and_then, refl}
use Rattle.std.proofs.Common.{sym, ◌∙◌, ap, subst, arith, append_assoc, append-nil}
use Rattle.std.proofs.lemmas.Option.{same_Some}
use Rattle.std.proofs.lemmas.List.{length-append, length-drop, take-append-drop}
use Rattle.its_plain.specs.Machine.{Machine}
use Rattle.its_saved.specs.StateLine.{StateLine}
use Rattle.its_saved.specs.Building.{build, build_all, only_if}
use Rattle.its_saved.specs.Saving.{each, in_rows}

pub record Leads (m : Machine) (ls : List StateLine) (n : Machine) : Type 0 where
  pub leads : build_all m ls ≡ Some n

pub leads_none : (m : Machine) → Leads m [] m
leads_none m = record { leads = refl }

pub leads_line : (m n : Machine) (l : StateLine) → build m l ≡ Some n → Leads m (l ∷ []) n
leads_line m n l e = record { leads = ap (option_and_then (λ k. Some k)) e }

pub leads_append : (m n o : Machine) (xs ys : List StateLine) → Leads m xs n → Leads n ys o → Leads m (xs ++ ys) o
leads_append m n o xs ys a b = record { leads = go xs m a.leads }
  where
    go : (xs : List StateLine) (m : Machine) → build_all m xs ≡ Some n → build_all m (xs ++ ys) ≡ Some o
    go [] m e = subst (λ k. build_all k ys ≡ Some o) (sym (same_Some m n e)) b.leads
    go (l ∷ ls) m e = by (λ k h. go ls k h) (build m l) e
      where
        by : ((k : Machine) → build_all k ls ≡ Some n → build_all k (ls ++ ys) ≡ Some o) → (q : Option Machine)
            → option_and_then (λ k. build_all k ls) q ≡ Some n
            → option_and_then (λ k. build_all k (ls ++ ys)) q ≡ Some o
        by g (Some k) h = g k h
        by g None h = cc

-- lines for the numbers below a bound, if those of each number lead from one machine of a row to
-- the next
pub leads_each : (f : ℕ → List StateLine) (at : ℕ → Machine) (n : ℕ) → ((k : ℕ) → k < n → Leads (at k) (f k) (at (suc k))) → Leads (at 0) (each f n) (at n)
leads_each f at zero h = leads_none (at 0)
leads_each f at (suc n) h =
    leads_append (at 0) (at n) (at (suc n)) (each f n) (f n) (leads_each f at n (λ k l. h k (omega arith))) (h n (omega arith))

-- a machine by another name
pub leads_from : (m n o : Machine) (ls : List StateLine) → m ≡ n → Leads n ls o → Leads m ls o
leads_from m n o ls e a = subst (λ k. Leads k ls o) (sym e) a

pub leads_to : (m n o : Machine) (ls : List StateLine) → Leads m ls n → n ≡ o → Leads m ls o
leads_to m n o ls a e = subst (λ k. Leads m ls k) e a

-- a line whose test succeeds
pub passes : (b : Bool) (m : Machine) → b ≡ true → only_if b m ≡ Some m
passes true m e = refl
passes false m e = cc

-- so many places are in so many rows
abbrev pub places : ℕ → ℕ → ℕ
places size zero = 0
places size (suc n) = size + places size n

-- as many rows as words are enough
pub enough : (n : ℕ) → n ≤ places 16 n
enough zero = omega arith
enough (suc n) = let a = enough n in omega arith

-- words in rows: of machines that each have some of the words, each row leads from one to another
pub record Rows (line : List ℕ → StateLine) (at : List ℕ → Machine) (most : ℕ) : Type 0 where
  pub row : (vs ws : List ℕ) → length vs + length ws ≤ most → build (at vs) (line ws) ≡ Some (at (vs ++ ws))

pub rows_lead : (line : List ℕ → StateLine) (at : List ℕ → Machine) (most : ℕ) → Rows line at most → (size n : ℕ) (vs ws : List ℕ)
    → 1 ≤ size → length ws ≤ places size n
    → length vs + length ws ≤ most → Leads (at vs) (in_rows line size n ws) (at (vs ++ ws))
rows_lead line at most rows size zero vs [] some few room = leads_to _ _ _ _ (leads_none _) (ap at (sym (append-nil vs)))
rows_lead line at most rows size zero vs (w ∷ ws) some few room = absurd (let x = few in omega arith)
rows_lead line at most rows size (suc n) vs [] some few room = leads_to _ _ _ _ (leads_none _) (ap at (sym (append-nil vs)))
rows_lead line at most rows size (suc n) vs (w ∷ ws) some few room =
    let all = w ∷ ws in
    let first = take size all in
    let rest = drop size all in
    let whole : first ++ rest ≡ all = take-append-drop size all in
    let split : length first + length rest ≡ length all = sym (length-append first rest) ∙ ap length whole in
    let short : length rest ≤ places size n = (let x = length-drop size all in let y = few in omega arith) in
    let long = length-append vs first in
    leads_to _ (at ((vs ++ first) ++ rest)) _ _
    (leads_append (at vs) (at (vs ++ first)) _ (line first ∷ []) (in_rows line size n rest)
    (leads_line _ _ _ (rows.row vs first (let r = room in omega arith)))
    (rows_lead line at most rows size n (vs ++ first) rest some short (let r = room in omega arith)))
    (ap at (append_assoc vs first rest ∙ ap (λ xs. vs ++ xs) whole))
