-- The block of a job: the job with its core, its symbols and its registers.
use Rattle.std.specs.Prelude.{if◌then◌else◌, ◌≡◌, ◌≢◌, ◌≤◌, ◌<◌, ◌==◌, ℕ, suc, ◌+◌, ◌-◌, ◌*◌, ◌^◌, Bool, true, false, Option, Some, None, List, [], ◌∷◌, ◌++◌, length, replicate, option_map, option_and_then, not, ◌&&◌, nat_lt, is_none, refl}
use Rattle.std.proofs.Common.{sym, ◌∙◌, ap, arith, append_assoc, append-nil}
use Rattle.std.proofs.lemmas.Bool.Decides.{nat_tests}
use Rattle.std.proofs.lemmas.List.{length-append}
use Rattle.its_word.specs.Core.{Core, no_core}
use Rattle.its_word.specs.Limits.{most_symbols}
use Rattle.its_records.specs.Tree.{fresh_job}
use Rattle.its_records.specs.declared.jobs.Job.{Job}
use Rattle.its_records.specs.declared.jobs.Channel.TheVariants.{Closed as ClosedChannel}
use Rattle.its_plain.specs.Machine.{Whole, Machine, Symbol, changed, whole, with_job, limit}
use Rattle.its_plain.specs.Operator.Jobs.{new_job}
use Rattle.its_plain.specs.Operator.Symbols.{with_symbol, with_symbol_kept, with_symbol_kept_if, with_symbol_kept_of}
use Rattle.its_word.specs.Flags.{named_flags}
use Rattle.its_saved.proofs.FlagLaws.{flags_back, pc_back}
use Rattle.std.specs.Result.{result_ok}
use Rattle.its_saved.specs.StateLine.{Registers}
use Rattle.its_saved.specs.Building.{build, after_registers, with_job_made, with_registers_set}
use Rattle.its_saved.specs.Saving.{core_lines, symbol_lines, registers_of, job_lines, each}
use Rattle.its_saved.specs.StateLine as state
use Rattle.its_saved.proofs.ChangedLaws.{twice_changed, changed_here, same_changed, upto, upto_next, upto_at, upto_all, upto_none}
use Rattle.its_saved.proofs.LeadLaws.{Leads, leads_none, leads_line, leads_append, leads_each, leads_to, leads_from, passes}

-- a machine with this job and these symbols in a slot
abbrev pub block : Machine → ℕ → Whole → List Symbol → Machine
block n k q ss = record n { jobs = changed n.jobs k (Some q); symbols = changed n.symbols k ss }

-- a block again
pub block_twice : (n : Machine) (k : ℕ) (p q : Whole) (ss ts : List Symbol) → block (block n k p ss) k q ts ≡ block n k q ts
block_twice n k p q ss ts = λ t. record n { jobs = λ j. twice_changed n.jobs k (Some p) (Some q) j t; symbols = λ j. twice_changed n.symbols k ss ts j t }

pub job_again : (n : Machine) (k : ℕ) (p q : Whole) (ss : List Symbol) → with_job (block n k p ss) k q ≡ block n k q ss
job_again n k p q ss = λ t. record (block n k p ss) { jobs = λ j. twice_changed n.jobs k (Some p) (Some q) j t }

pub block_here : (n : Machine) (k : ℕ) (q : Whole) (ss : List Symbol) → (block n k q ss).jobs k ≡ Some q
block_here n k q ss = changed_here n.jobs k (Some q)

-- the job is made, with no symbols
job_made : (n : Machine) (k u j : ℕ) (c : Option ℕ) → k < limit n → n.jobs k ≡ None → build n (state.Job k u j c) ≡ Some (block n k (new_job u j c) [])
unfolding build with_job_made
job_made n k u j c below none =
    let l : nat_lt k (limit n) ≡ true = grind (arith, nat_tests) in
    passes (nat_lt k (limit n) && is_none (n.jobs k)) (block n k (new_job u j c) []) (ap (λ b. b && is_none (n.jobs k)) l ∙ ap is_none none)

-- its symbols, one after another
symbol_kept : (n : Machine) (k : ℕ) (q : Whole) (xs : List Symbol) (x : Symbol) → length xs < most_symbols
    → build (block n k q xs) (state.Symbol k x.0 x.1) ≡ Some (block n k q (xs ++ x ∷ []))
unfolding build with_symbol_kept
symbol_kept n k q xs x few =
    let b = block n k q xs in
    let here : b.symbols k ≡ xs = changed_here n.symbols k xs in
    let room : nat_lt (length (b.symbols k)) most_symbols ≡ true = rw here (let f = few in grind (arith, nat_tests)) in
    let after : with_symbol b k x ≡ block n k q (xs ++ x ∷ []) =
    λ t. record b { symbols = λ i. (twice_changed n.symbols k xs (b.symbols k ++ x ∷ []) i ∙ ap (λ ys. changed n.symbols k (ys ++ x ∷ []) i) here) t } in
    ap (λ o. result_ok (with_symbol_kept_of b k x o)) (block_here n k q xs) ∙ ap (λ t. result_ok (with_symbol_kept_if b k x t)) room ∙ ap Some after

symbols_lead : (n : Machine) (k : ℕ) (q : Whole) (xs ys : List Symbol) → length xs + length ys ≤ most_symbols
    → Leads (block n k q xs) (symbol_lines k ys) (block n k q (xs ++ ys))
symbols_lead n k q xs [] few = leads_to _ _ _ _ (leads_none (block n k q xs)) (ap (block n k q) (sym (append-nil xs)))
symbols_lead n k q xs (y ∷ ys) few =
    leads_to _ (block n k q ((xs ++ y ∷ []) ++ ys)) _ _
    (leads_append (block n k q xs) (block n k q (xs ++ y ∷ [])) _ (state.Symbol k y.0 y.1 ∷ []) (symbol_lines k ys)
    (leads_line _ _ _ (symbol_kept n k q xs y (omega arith)))
    (symbols_lead n k q (xs ++ y ∷ []) ys (let e = length-append xs (y ∷ []) in omega arith)))
    (ap (block n k q) (append_assoc xs (y ∷ []) ys))

-- its registers
not_twice : (b : Bool) → not (not b) ≡ b
not_twice true = refl
not_twice false = refl

registers_back : (j : Job) → j.channels ≡ replicate 16 ClosedChannel → j.pc < 2 ^ 18 → named_flags j.flags ≡ j.flags
    → after_registers (registers_of j) (fresh_job j.uname j.jname j.console) ≡ j
unfolding fresh_job
registers_back j e p f =
    λ t. record j { channels = sym e t; stopped = not_twice j.stopped t; pc = pc_back j.flags j.pc p t; flags = flags_back j.flags j.pc f t }

registers_set : (n : Machine) (k : ℕ) (q : Whole) (ss : List Symbol) (r : Registers)
    → build (block n k q ss) (state.Regs k r) ≡ Some (block n k (record q { job = after_registers r q.job }) ss)
unfolding build with_registers_set
registers_set n k q ss r =
    ap (option_and_then (λ p. Some (with_job (block n k q ss) k (record p { job = after_registers r p.job })))) (block_here n k q ss)
    ∙ ap Some (job_again n k q (record q { job = after_registers r q.job }) ss)

-- a job as its block leaves it: no superior, closed channels and no alarm
abbrev pub bare : Whole → Whole
bare q = whole q.core q.job None

-- the machine with the jobs of m below a slot
abbrev pub jobs_upto : Machine → Machine → ℕ → Machine
jobs_upto m n i = record n { jobs = upto i (λ k. option_map bare (m.jobs k)) n.jobs; symbols = upto i m.symbols n.symbols }

-- what the lines of cores do; this is proved in CoreLaws
pub record CoreLeads (n : Machine) (k : ℕ) (q : Whole) (c : Core) (ss : List Symbol) : Type 0 where
  pub leads : Leads (block n k q ss) (core_lines k c) (block n k (record q { core = c }) ss)

-- what the lines of a job need: of its slot, below a limit; of its registers; and of its symbols
pub record JobFits (limit k : ℕ) (q : Whole) (ss : List Symbol) : Type 0 where
  pub below : k < limit
  pub closed : q.job.channels ≡ replicate 16 ClosedChannel
  pub addressed : q.job.pc < 2 ^ 18
  pub flagged : named_flags q.job.flags ≡ q.job.flags
  pub few : length ss ≤ most_symbols

pub block_leads : (symbols : ℕ → List Symbol) (n : Machine) (k : ℕ) (q : Whole) → JobFits (limit n) k q (symbols k) → n.jobs k ≡ None
    → CoreLeads n k (new_job q.job.uname q.job.jname q.job.console) q.core []
    → Leads n (job_lines symbols k (Some q)) (block n k (bare q) (symbols k))
block_leads symbols n k q fits none core =
    let j = fresh_job q.job.uname q.job.jname q.job.console in
    let made = whole no_core j None in
    let loaded = whole q.core j None in
    leads_append n (block n k made []) (block n k (bare q) (symbols k)) (state.Job k q.job.uname q.job.jname q.job.console ∷ []) _
    (leads_line _ _ _ (job_made n k q.job.uname q.job.jname q.job.console fits.below none))
    (leads_append _ (block n k loaded []) _ (core_lines k q.core) _ core.leads
    (leads_append _ (block n k loaded (symbols k)) _ (symbol_lines k (symbols k)) _
    (symbols_lead n k loaded [] (symbols k) (let f = fits.few in omega arith))
    (leads_line _ _ _ (registers_set n k loaded (symbols k) (registers_of q.job)
    ∙ ap (λ r. Some (block n k (whole q.core r None) (symbols k))) (registers_back q.job fits.closed fits.addressed fits.flagged)))))

-- all jobs
pub jobs_lead : (m n : Machine) (top : ℕ) → ((k : ℕ) → n.jobs k ≡ None) → ((k : ℕ) → n.symbols k ≡ []) → ((k : ℕ) → m.jobs k ≡ None → m.symbols k ≡ [])
    → ((k : ℕ) → top ≤ k → m.jobs k ≡ None)
    → ((k : ℕ) (q : Whole) → k < top → m.jobs k ≡ Some q → JobFits (limit n) k q (m.symbols k))
    → ((k : ℕ) (q : Whole) → k < top → m.jobs k ≡ Some q → CoreLeads (jobs_upto m n k) k (new_job q.job.uname q.job.jname q.job.console) q.core [])
    → Leads n (each (λ k. job_lines m.symbols k (m.jobs k)) top) (record n { jobs = λ k. option_map bare (m.jobs k); symbols = m.symbols })
jobs_lead m n top empty nameless quiet past fits cores =
    leads_to n (jobs_upto m n top) _ _ (leads_from n (jobs_upto m n 0) (jobs_upto m n top) _
    (λ t. record n { jobs = λ k. upto_none (λ i. option_map bare (m.jobs i)) n.jobs k t; symbols = λ k. upto_none m.symbols n.symbols k t })
    (leads_each (λ k. job_lines m.symbols k (m.jobs k)) (jobs_upto m n) top (λ k l. one k l (m.jobs k) refl)))
    (λ t. record n {
      jobs = λ k. upto_all top (λ i. option_map bare (m.jobs i)) n.jobs
          (λ i l. empty i ∙ sym (ap (option_map bare) (past i l))) k t;
      symbols =
          λ k. upto_all top m.symbols n.symbols (λ i l. nameless i ∙ sym (quiet i (past i l))) k t;
    })
  where
    next : (k : ℕ) (o : Option Whole) → m.jobs k ≡ o → record (jobs_upto m n k)
        { jobs = changed (jobs_upto m n k).jobs k (option_map bare o); symbols = changed (jobs_upto m n k).symbols k (m.symbols k) } ≡ jobs_upto m n (suc k)
    next k o e = λ t. record n {
      jobs = λ j. (ap (λ x. changed (jobs_upto m n k).jobs k (option_map bare x) j) (sym e)
          ∙ upto_next k (λ i. option_map bare (m.jobs i)) n.jobs j) t;
      symbols = λ j. upto_next k m.symbols n.symbols j t;
    }

    one : (k : ℕ) → k < top → (o : Option Whole) → m.jobs k ≡ o → Leads (jobs_upto m n k) (job_lines m.symbols k o) (jobs_upto m n (suc k))
    one k l None e =
        let at = jobs_upto m n k in
        leads_to at at _ _ (leads_none at)
        (sym (λ t. record at {
          jobs = λ j. same_changed at.jobs k None (sym (upto_at k (λ i. option_map bare (m.jobs i)) n.jobs ∙ empty k))
              j t;
          symbols = λ j. same_changed at.symbols k (m.symbols k) (quiet k e ∙ sym (upto_at k m.symbols n.symbols ∙ nameless k)) j t;
        }) ∙ next k None e)
    one k l (Some q) e =
        let at = jobs_upto m n k in
        let f = fits k q l e in
        leads_to at (block at k (bare q) (m.symbols k)) _ _
        (block_leads m.symbols at k q f (upto_at k (λ i. option_map bare (m.jobs i)) n.jobs ∙ empty k) (cores k q l e))
        (next k (Some q) e)
