-- The lines of consoles and of their holders lead to the consoles and the holders.
use Rattle.std.specs.Prelude.{◌≡◌, ◌≤◌, ◌<◌, ◌&&◌, ℕ, suc, ◌+◌, Bool, true, false, Option, Some, None, IfSome, List, [], ◌∷◌, ◌++◌, length, nat_le, is_some, is_none, refl}
use Rattle.std.proofs.Common.{sym, ◌∙◌, ap, arith}
use Rattle.std.proofs.lemmas.Bool.Decides.{nat_tests}
use Rattle.std.proofs.lemmas.List.{length-append}
use Rattle.its_word.specs.Console.{Console, most_waiting}
use Rattle.its_plain.specs.Machine.{Machine, changed, no_bytes}
use Rattle.its_plain.specs.Machine.Change.{on_console, effect}
use Rattle.its_saved.specs.StateLine as state
use Rattle.its_saved.specs.Building.{build, with_bytes, bytes_of, with_bytes_waiting, with_holder_set}
use Rattle.its_saved.specs.Saving.{in_rows, console_lines, holder_line, each}
use Rattle.its_saved.specs.WellFormed.{FewBytes}
use Rattle.its_saved.proofs.ChangedLaws.{twice_changed, changed_here, same_changed, upto, upto_next, upto_at, upto_all, upto_none}
use Rattle.its_saved.proofs.LeadLaws.{Leads, leads_none, leads_line, leads_append, leads_each, leads_to, leads_from, passes, rows_lead}

-- bytes that wait at a console one way, and more of them
abbrev only_bytes : Bool → Console → List ℕ → Console
only_bytes false x bs = record x { input = bs }
only_bytes true x bs = record x { output = bs }

bytes_more : (w : Bool) (x : Console) (vs ws : List ℕ) → with_bytes w ws (only_bytes w x vs) ≡ only_bytes w x (vs ++ ws)
bytes_more false x vs ws = refl
bytes_more true x vs ws = refl

bytes_are : (w : Bool) (x : Console) (bs : List ℕ) → bytes_of w (only_bytes w x bs) ≡ bs
bytes_are false x bs = refl
bytes_are true x bs = refl

-- the machine with such a console
abbrev with_console : Machine → ℕ → Console → Machine
with_console m c x = record m { consoles = changed m.consoles c x }

-- a line of bytes
bytes_done : (m : Machine) (c : ℕ) (w : Bool) (x : Console) (vs ws : List ℕ) → length vs + length ws ≤ most_waiting
    → build (with_console m c (only_bytes w x vs)) (state.Bytes c w ws) ≡ Some (with_console m c (only_bytes w x (vs ++ ws)))
unfolding build with_bytes_waiting
bytes_done m c w x vs ws room =
    let k = with_console m c (only_bytes w x vs) in
    let here : k.consoles c ≡ only_bytes w x vs = changed_here m.consoles c (only_bytes w x vs) in
    let long = length-append vs ws in
    let is : bytes_of w (k.consoles c) ++ ws ≡ vs ++ ws = ap (λ y. bytes_of w y ++ ws) here ∙ ap (λ bs. bs ++ ws) (bytes_are w x vs) in
    let fits : nat_le (length (vs ++ ws)) most_waiting ≡ true = (let l : length (vs ++ ws) ≤ most_waiting = omega arith in grind (arith, nat_tests)) in
    passes (nat_le (length (bytes_of w (k.consoles c) ++ ws)) most_waiting) (on_console k c (with_bytes w ws))
    (ap (λ bs. nat_le (length bs) most_waiting) is ∙ fits)
    ∙ (λ t. Some (record m {
      consoles = λ i. (twice_changed m.consoles c (only_bytes w x vs) (with_bytes w ws (k.consoles c)) i
          ∙ ap (λ y. changed m.consoles c y i) (ap (with_bytes w ws) here ∙ bytes_more w x vs ws)) t;
    }))

-- the lines of a console, from one at which nothing waits
console_leads : (m n : Machine) (c : ℕ) → n.consoles c ≡ no_bytes → FewBytes (m.consoles c)
    → Leads n (console_lines m.consoles c) (with_console n c (m.consoles c))
console_leads m n c none few =
    let ins = (m.consoles c).input in
    let outs = (m.consoles c).output in
    let typed : Console = record { input = ins; output = [] } in
    leads_from n (with_console n c no_bytes) _ _ (sym (λ t. record n { consoles = λ k. same_changed n.consoles c no_bytes (sym none) k t }))
    (leads_append _ (with_console n c typed) _ (in_rows (state.Bytes c false) 32 2 ins) (in_rows (state.Bytes c true) 32 2 outs)
    (rows_lead (state.Bytes c false) (λ bs. with_console n c (only_bytes false no_bytes bs)) most_waiting
    (record { row = λ vs ws l. bytes_done n c false no_bytes vs ws l })
    32 2 [] ins (omega arith) (let f = few.input in omega arith) (let f = few.input in omega arith))
    (rows_lead (state.Bytes c true) (λ bs. with_console n c (only_bytes true typed bs)) most_waiting
    (record { row = λ vs ws l. bytes_done n c true typed vs ws l })
    32 2 [] outs (omega arith) (let f = few.output in omega arith) (let f = few.output in omega arith)))

-- those of all consoles
pub consoles_lead : (m n : Machine) (top : ℕ) → ((c : ℕ) → n.consoles c ≡ no_bytes) → ((c : ℕ) → FewBytes (m.consoles c))
    → ((c : ℕ) → top ≤ c → m.consoles c ≡ no_bytes)
    → Leads n (each (console_lines m.consoles) top) (record n { consoles = m.consoles })
consoles_lead m n top none few past =
    leads_to n (at top) _ _
    (leads_from n (at 0) (at top) _ (λ t. record n { consoles = λ k. upto_none m.consoles n.consoles k t })
    (leads_each (console_lines m.consoles) at top one))
    (λ t. record n { consoles = λ k. upto_all top m.consoles n.consoles (λ k l. none k ∙ sym (past k l)) k t })
  where
    at : ℕ → Machine
    at i = record n { consoles = upto i m.consoles n.consoles }

    one : (k : ℕ) → k < top → Leads (at k) (console_lines m.consoles k) (at (suc k))
    one k l =
        leads_to (at k) _ (at (suc k)) _ (console_leads m (at k) k (upto_at k m.consoles n.consoles ∙ none k) (few k))
        (λ t. record n { consoles = λ j. upto_next k m.consoles n.consoles j t })

-- a holder, who is a job
holds : (n : Machine) (c s : ℕ) → n.holders c ≡ None → is_some (n.jobs s) ≡ true
    → build n (state.Hold c s) ≡ Some (record n { holders = changed n.holders c (Some s) })
unfolding build with_holder_set effect
holds n c s none job =
    passes (is_some (n.jobs s) && is_none (n.holders c)) (record n { holders = changed n.holders c (Some s) })
    (ap (λ b. b && is_none (n.holders c)) job ∙ ap is_none none)

holder_leads : (m n : Machine) (c : ℕ) → n.holders c ≡ None → IfSome (m.holders c) (λ s. is_some (n.jobs s) ≡ true)
    → Leads n (holder_line c (m.holders c)) (record n { holders = changed n.holders c (m.holders c) })
holder_leads m n c none job = by (m.holders c) job
  where
    by : (h : Option ℕ) → IfSome h (λ s. is_some (n.jobs s) ≡ true) → Leads n (holder_line c h) (record n { holders = changed n.holders c h })
    by None j = leads_to n n _ _ (leads_none n) (sym (λ t. record n { holders = λ k. same_changed n.holders c None (sym none) k t }))
    by (Some s) j = leads_line n _ (state.Hold c s) (holds n c s none j)

pub holders_lead : (m n : Machine) (top : ℕ) → ((c : ℕ) → n.holders c ≡ None) → ((c : ℕ) → IfSome (m.holders c) (λ s. is_some (n.jobs s) ≡ true))
    → ((c : ℕ) → top ≤ c → m.holders c ≡ None) → Leads n (each (λ c. holder_line c (m.holders c)) top) (record n { holders = m.holders })
holders_lead m n top none jobs past =
    leads_to n (at top) _ _
    (leads_from n (at 0) (at top) _ (λ t. record n { holders = λ k. upto_none m.holders n.holders k t })
    (leads_each (λ c. holder_line c (m.holders c)) at top one))
    (λ t. record n { holders = λ k. upto_all top m.holders n.holders (λ k l. none k ∙ sym (past k l)) k t })
  where
    at : ℕ → Machine
    at i = record n { holders = upto i m.holders n.holders }

    one : (k : ℕ) → k < top → Leads (at k) (holder_line k (m.holders k)) (at (suc k))
    one k l =
        leads_to (at k) _ (at (suc k)) _ (holder_leads m (at k) k (upto_at k m.holders n.holders ∙ none k) (jobs k))
        (λ t. record n { holders = λ j. upto_next k m.holders n.holders j t })
