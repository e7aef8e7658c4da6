-- What EXAM, LIST and STATE show of a job: its words, one by one, and the symbol that is nearest to
-- its PC.
use Rattle.std.specs.Prelude.{◌≡◌, ◌≤◌, ◌<◌, ◌+◌, ◌-◌, ◌%◌, ◌^◌, ℕ, zero, suc, Option, Some, None, List, [], ◌∷◌, ◌++◌, Ok, Err, option_map, length, refl}
use Rattle.std.proofs.Common.{sym, subst, ◌∙◌, ap, arith}
use Rattle.std.proofs.lemmas.List.{append-nil, length-append, append_assoc}
use Rattle.its_word.specs.ArrayVec.{ArrayVec}
use Rattle.its_word.specs.Core.{Core, word_at}
use Rattle.its_records.specs.declared.jobs.Job.{Job}
use Rattle.its_records.specs.declared.session.Reason.TheVariants as reasons
use Rattle.its_core.specs.Cores.{core_at}
use Rattle.its_jobs.specs.Table.{job_at, superior_at}
use Rattle.its_shared.specs.Parts.{symbols_at}
use Rattle.its_plain.specs.Machine.{Symbol, Whole, Machine, joined, words_at}
use Rattle.its_plain.specs.Operator.Jobs.{on_job, seen, examined, shown, state_shown}
use Rattle.its_plain.specs.Operator.Symbols.{symbol_shown}
use Rattle.its_direct.specs.Plain.{machine_of}
use Rattle.its_direct.specs.declared.plain.Plain.{Plain}
use Rattle.its_direct.proofs.LineLaws.{examined_own}
use Rattle.its_direct.proofs.UserLaws.{own_is}

-- the first k of n words are gathered
pub record Gathering (c : Core) (a n k : ℕ) (ws : List ℕ) : Type 0 where
  pub count : length ws ≡ k
  pub rest : option_map (λ xs. ws ++ xs) (words_at c (a + k) (n - k)) ≡ words_at c a n

nothing_before : (o : Option (List ℕ)) → option_map (λ xs. [] ++ xs) o ≡ o
nothing_before (Some xs) = refl
nothing_before None = refl

pub gathering_starts : (c : Core) (a n : ℕ) → Gathering c a n 0 []
gathering_starts c a n = record {
  count = refl;
  rest =
      let d : a + 0 ≡ a = omega arith in
      let e : n - 0 ≡ n = omega arith in
      nothing_before (words_at c (a + 0) (n - 0)) ∙ ap (λ (k : ℕ). words_at c k (n - 0)) d ∙ ap (λ (k : ℕ). words_at c a k) e;
}

behind : (ws : List ℕ) (w : ℕ) (o : Option (List ℕ)) → option_map (λ xs. ws ++ xs) (joined (Some w) o) ≡ option_map (λ xs. (ws ++ w ∷ []) ++ xs) o
behind ws w (Some xs) = ap Some (sym (append_assoc ws (w ∷ []) xs))
behind ws w None = refl

next_word : (c : Core) (a n k : ℕ) → k < n → words_at c (a + k) (n - k) ≡ joined (word_at c ((a + k) % 2 ^ 18)) (words_at c (a + (k + 1)) (n - (k + 1)))
unfolding words_at
next_word c a n k l =
    let e : n - k ≡ suc (n - (k + 1)) = omega arith in
    let d : a + k + 1 ≡ a + (k + 1) = omega arith in
    ap (λ (m : ℕ). words_at c (a + k) m) e ∙ ap (λ (m : ℕ). joined (word_at c ((a + k) % 2 ^ 18)) (words_at c m (n - (k + 1)))) d

pub gathering_more : (c : Core) (a n k w : ℕ) (o : Option ℕ) (ws : List ℕ) → Gathering c a n k ws → k < n → o ≡ word_at c ((a + k) % 2 ^ 18)
    → o ≡ Some w → Gathering c a n (k + 1) (ws ++ w ∷ [])
gathering_more c a n k w o ws h l is some = record {
  count = let n = length-append ws (w ∷ []) in let e = h.count in omega arith;
  rest = sym (behind ws w (words_at c (a + (k + 1)) (n - (k + 1))))
      ∙ ap (λ x. option_map (λ xs. ws ++ xs) (joined x (words_at c (a + (k + 1)) (n - (k + 1))))) (sym some ∙ is)
      ∙ sym (ap (option_map (λ xs. ws ++ xs)) (next_word c a n k l)) ∙ h.rest;
}

pub gathering_stops : (c : Core) (a n k : ℕ) (o : Option ℕ) (ws : List ℕ) → Gathering c a n k ws → k < n → o ≡ word_at c ((a + k) % 2 ^ 18)
    → o ≡ None → None ≡ words_at c a n
gathering_stops c a n k o ws h l is none =
    ap (λ x. option_map (λ xs. ws ++ xs) (joined x (words_at c (a + (k + 1)) (n - (k + 1))))) (sym none ∙ is)
    ∙ sym (ap (option_map (λ xs. ws ++ xs)) (next_word c a n k l)) ∙ h.rest

pub gathering_ends : (c : Core) (a n k : ℕ) (ws : List ℕ) → Gathering c a n k ws → n ≤ k → Some ws ≡ words_at c a n
unfolding words_at
gathering_ends c a n k ws h l =
    let e : n - k ≡ 0 = omega arith in
    ap Some (sym (append-nil ws)) ∙ sym (ap (λ (m : ℕ). option_map (λ xs. ws ++ xs) (words_at c (a + k) m)) e) ∙ h.rest

-- the words that a line shows
pub words_found : (p : Plain) (s a n : ℕ) (i : Job) (j : Option Job) (o : Option (ArrayVec ℕ)) (ws : ArrayVec ℕ) → j ≡ job_at p.jobs s → j ≡ Some i
    → option_map (λ (v : ArrayVec ℕ). v.items) o ≡ words_at (core_at p.core s) a n → o ≡ Some ws → examined (machine_of p) s a n ≡ Ok ws.items
words_found p s a n i j o ws is had found some =
    examined_own p s a n i (sym is ∙ had) ∙ ap seen (sym found ∙ ap (option_map (λ (v : ArrayVec ℕ). v.items)) some)

pub words_missing : (p : Plain) (s a n : ℕ) (i : Job) (j : Option Job) (o : Option (ArrayVec ℕ)) → j ≡ job_at p.jobs s → j ≡ Some i
    → option_map (λ (v : ArrayVec ℕ). v.items) o ≡ words_at (core_at p.core s) a n → o ≡ None → examined (machine_of p) s a n ≡ Err reasons.NoPage
words_missing p s a n i j o is had found none =
    examined_own p s a n i (sym is ∙ had) ∙ ap seen (sym found ∙ ap (option_map (λ (v : ArrayVec ℕ). v.items)) none)

-- one word or more, if so many were wanted
some_joined : (o : Option ℕ) (x : Option (List ℕ)) (ws : List ℕ) → seen (joined o x) ≡ Ok ws → 1 ≤ length ws
some_joined (Some w) (Some xs) ws is = (let e : (w ∷ xs) ≡ ws = cc in subst (λ (l : List ℕ). 1 ≤ length l) e (omega arith))
some_joined (Some w) None ws is = cc
some_joined None x ws is = cc

some_seen : (c : Core) (a n : ℕ) (ws : List ℕ) → 1 ≤ n → seen (words_at c a n) ≡ Ok ws → 1 ≤ length ws
unfolding words_at
some_seen c a zero ws l is = omega arith
some_seen c a (suc n) ws l is = some_joined (word_at c (a % 2 ^ 18)) (words_at c (a + 1) n) ws is

some_of_job : (m : Machine) (s a n : ℕ) (o : Option Whole) (ws : List ℕ) → 1 ≤ n → on_job m s (λ q. seen (words_at q.core a n)) o ≡ Ok ws → 1 ≤ length ws
some_of_job m s a n (Some q) ws l is = some_seen q.core a n ws l is
some_of_job m s a n None ws l is = cc

pub some_words : (m : Machine) (s a n : ℕ) (ws : List ℕ) → 1 ≤ n → examined m s a n ≡ Ok ws → 1 ≤ length ws
unfolding examined
some_words m s a n ws l is = some_of_job m s a n (m.jobs s) ws l is

-- STATE
symbols_of : (p : Plain) (s : ℕ) → (machine_of p).symbols s ≡ symbols_at p.symbols.items s
unfolding machine_of
symbols_of p s = refl

pub state_found : (p : Plain) (s : ℕ) (i : Job) (j : Option Job) (u : Option ℕ) (x : Option Symbol) → j ≡ job_at p.jobs s → j ≡ Some i
    → u ≡ superior_at p.jobs s
    → x ≡ symbol_shown i.pc (symbols_at p.symbols.items s) → state_shown (machine_of p) s ≡ Ok (shown i u x)
unfolding state_shown
state_found p s i j u x is had superior symbol =
    ap (on_job (machine_of p) s (λ q. Ok (shown q.job q.superior (symbol_shown q.job.pc ((machine_of p).symbols s))))) (own_is p s i (sym is ∙ had))
    ∙ ap (λ (ss : List Symbol). Ok (shown i (superior_at p.jobs s) (symbol_shown i.pc ss))) (symbols_of p s)
    ∙ ap (λ y. Ok (shown i (superior_at p.jobs s) y)) (sym symbol) ∙ ap (λ y. Ok (shown i y x)) (sym superior)

-- STATE shows the fields of its version
pub version_of : (p : Plain) → (machine_of p).version ≡ p.version
unfolding machine_of
version_of p = refl
