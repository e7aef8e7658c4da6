-- The tree of jobs at the beginning, after a job is made or gets a superior, and after a job is
-- removed with all below it.
use Rattle.std.specs.Prelude.{if◌then◌else◌, ◌≡◌, ◌≢◌, ◌<◌, ◌==◌, ◌||◌, ◌≤◌, ℕ, Bool, true, false, Option, Some, None, IfSome, List, length, slice_index_or, slice_set, is_some, is_none, refl}
use Rattle.std.proofs.Common.{sym, ◌∙◌, ap, subst, arith, inl, inr, length-set, eq-eqb}
use Rattle.std.proofs.lemmas.Bool.{cases_Bool, cases_eq, cases_lt, ne_eqb}
use Rattle.std.proofs.lemmas.List.{get_or-set_same, get_or-set_other, get_or_past}
use Rattle.its_word.specs.Limits.{slots}
use Rattle.its_records.specs.Tree.{climbs_to, is_below}
use Rattle.its_records.specs.declared.jobs.Job.{Job}
use Rattle.its_records.proofs.TreeLaws.{climb_end, below_none}
use Rattle.its_jobs.specs.Table.{IsTree, Table, Without, superior_at, superior_in, in_tree}
use Rattle.its_records.proofs.CircleLaws.{no_new_circle}
use Rattle.its_records.proofs.ClimbLaws.{at_or_below, circle_cut, never, unpassed, below_through}

-- no slot has a job
pub no_tree : (jobs : List (Option Job)) (superiors : List (Option ℕ)) → length jobs ≡ slots → length superiors ≡ slots
    → ((k : ℕ) → slice_index_or superiors k None ≡ None) → IsTree jobs superiors
no_tree jobs superiors m n none = record {
  job_count = m;
  superior_count = n;
  below = λ k. rw (none k) tt;
  standing = λ k. rw (none k) tt;
  owned = λ k h. none k;
  circle = λ k. ap (climbs_to (superior_in superiors) k slots) (none k) ∙ climb_end (superior_in superiors) k slots;
}

-- a job is made in a slot that was empty
module _ (jobs : List (Option Job)) (superiors : List (Option ℕ)) (s : ℕ) (j : Job) (superior : Option ℕ) (t : IsTree jobs superiors) (in_range : s < slots)
    (free : slice_index_or jobs s None ≡ None) (fits : IfSome superior (λ i. is_some (slice_index_or jobs i None) ≡ true)) where
  not_empty : (i : ℕ) → is_some (slice_index_or jobs i None) ≡ true → i ≢ s
  not_empty i h e = let full : is_some (slice_index_or jobs s None) ≡ true = ap (λ x. is_some (slice_index_or jobs x None)) (sym e)
      ∙ h in let wrong : true ≡ false = sym full ∙ ap is_some free in cc

  nobody : (k : ℕ) (o : Option ℕ) → IfSome o (λ i. is_some (slice_index_or jobs i None) ≡ true) → o ≢ Some s
  nobody k None h e = cc
  nobody k (Some i) h e = not_empty i h (let p : Some i ≡ Some s = e in cc)

  in_jobs : s < length jobs
  in_jobs = let n = t.job_count in let l = in_range in omega arith

  in_superiors : s < length superiors
  in_superiors = let n = t.superior_count in let l = in_range in omega arith

  stays : (i : ℕ) → is_some (slice_index_or jobs i None) ≡ true → is_some (slice_index_or (slice_set jobs s (Some j)) i None) ≡ true
  stays i h = ap is_some (get_or-set_other jobs s i (Some j) None (not_empty i h)) ∙ h

  stays_by : (o : Option ℕ) → IfSome o (λ i. is_some (slice_index_or jobs i None) ≡ true)
      → IfSome o (λ i. is_some (slice_index_or (slice_set jobs s (Some j)) i None) ≡ true)
  stays_by None h = tt
  stays_by (Some i) h = stays i h

  -- a job is in a slot that there is
  in_table : (i : ℕ) → is_some (slice_index_or jobs i None) ≡ true → i < slots
  in_table i h =
      let n = t.job_count in
      elim (cases_lt i slots) [
        | inl l ↦ l
        | inr l ↦ absurd (let none : slice_index_or jobs i None ≡ None = get_or_past jobs i None (omega arith) in let wrong :
            true ≡ false = sym h ∙ ap is_some none in cc)
      ]

  fits_below : (o : Option ℕ) → IfSome o (λ i. is_some (slice_index_or jobs i None) ≡ true) → IfSome o (λ i. i < slots)
  fits_below None h = tt
  fits_below (Some i) h = in_table i h

  pub made : IsTree (slice_set jobs s (Some j)) (slice_set superiors s superior)
  made =
      let here : slice_index_or (slice_set superiors s superior) s None ≡ superior = get_or-set_same superiors s superior None in_superiors in
      let other : (k : ℕ) → k ≢ s → slice_index_or (slice_set superiors s superior) k None ≡ slice_index_or superiors k None =
      λ k ne. get_or-set_other superiors s k superior None ne in
      let none : (k : ℕ) → slice_index_or superiors k None ≢ Some s = λ k. nobody k (slice_index_or superiors k None) (t.standing k) in
      let apart : superior ≢ Some s = nobody s superior fits in
      record {
        job_count = length-set jobs s (Some j) ∙ t.job_count;
        superior_count = length-set superiors s superior ∙ t.superior_count;
        below = λ k. elim (cases_eq k s) [ inl e ↦ rw (e, here) (fits_below superior fits) | inr ne ↦ rw (other k ne) (t.below k) ];
        standing = λ k. elim (cases_eq k s) [
          | inl e ↦ rw (e, here) (stays_by superior fits)
          | inr ne ↦ rw (other k ne) (stays_by (slice_index_or superiors k None) (t.standing k))
        ];
        owned = λ k f. elim (cases_eq k s) [
          | inl e ↦ absurd (let full : slice_index_or (slice_set jobs s (Some j)) s None ≡ Some j = get_or-set_same jobs s (Some j) None in_jobs in
              let empty : slice_index_or (slice_set jobs s (Some j)) s None ≡ None =
              ap (λ i. slice_index_or (slice_set jobs s (Some j)) i None) (sym e) ∙ f in cc)
          | inr ne ↦ other k ne ∙ t.owned k (sym (get_or-set_other jobs s k (Some j) None ne) ∙ f)
        ];
        circle = λ k. elim (cases_eq k s) [
          | inl e ↦ rw (e, here) (unpassed (superior_in superiors) (superior_in (slice_set superiors s superior)) s s slots superior other
              none apart ∙ never (superior_in superiors) s slots superior none apart)
          | inr ne ↦ rw (other k ne) (unpassed (superior_in superiors) (superior_in (slice_set superiors s superior)) s k slots
              (slice_index_or superiors k None) other none (none k) ∙ t.circle k)
        ];
      }

-- a slot that has a job is one of the table
slot_of : (jobs : List (Option Job)) (i : ℕ) → length jobs ≡ slots → is_some (slice_index_or jobs i None) ≡ true → i < slots
slot_of jobs i n h = elim (cases_lt i slots) [
  | inl l ↦ l
  | inr l ↦ absurd (let none : slice_index_or jobs i None ≡ None = get_or_past jobs i None (omega arith) in let wrong :
      true ≡ false = sym h ∙ ap is_some none in cc)
]

-- a job without superior is made in a slot that was empty
pub placed : (jobs : List (Option Job)) (superiors : List (Option ℕ)) (s : ℕ) (j : Job) → IsTree jobs superiors → s < slots
    → slice_index_or jobs s None ≡ None → IsTree (slice_set jobs s (Some j)) superiors
placed jobs superiors s j t in_range free =
    let within : s < length jobs = (let n = t.job_count in omega arith) in
    record {
      job_count = length-set jobs s (Some j) ∙ t.job_count;
      superior_count = t.superior_count;
      below = t.below;
      standing = λ k. stays_by jobs superiors s j None t in_range free tt (slice_index_or superiors k None) (t.standing k);
      owned = λ k f. elim (cases_eq k s) [
        | inl e ↦ absurd (let full : slice_index_or (slice_set jobs s (Some j)) s None ≡ Some j = get_or-set_same jobs s (Some j) None within in
            let empty : slice_index_or (slice_set jobs s (Some j)) s None ≡ None =
            ap (λ i. slice_index_or (slice_set jobs s (Some j)) i None) (sym e) ∙ f in cc)
        | inr ne ↦ t.owned k (sym (get_or-set_other jobs s k (Some j) None ne) ∙ f)
      ];
      circle = t.circle;
    }

-- a job that has no superior gets one that is neither the job itself nor below it
superior_set : (superiors : List (Option ℕ)) (s i k : ℕ) → s < length superiors
    → slice_index_or (slice_set superiors s (Some i)) k None ≡ (if k == s then Some i else slice_index_or superiors k None)
superior_set superiors s i k h = elim (cases_eq k s) [
  | inl e ↦ rw (eq-eqb k s e, e) (get_or-set_same superiors s (Some i) None h)
  | inr ne ↦ rw (ne_eqb k s ne) (get_or-set_other superiors s k (Some i) None ne)
]

pub given : (jobs : List (Option Job)) (superiors : List (Option ℕ)) (s i : ℕ) → IsTree jobs superiors → s < slots
    → is_some (slice_index_or jobs s None) ≡ true → is_some (slice_index_or jobs i None) ≡ true → slice_index_or superiors s None ≡ None
    → climbs_to (superior_in superiors) s slots (Some i) ≡ false → IsTree jobs (slice_set superiors s (Some i))
given jobs superiors s i t in_range job standing none apart =
    let within : s < length superiors = (let n = t.superior_count in omega arith) in
    let here : slice_index_or (slice_set superiors s (Some i)) s None ≡ Some i = get_or-set_same superiors s (Some i) None within in
    let other : (k : ℕ) → k ≢ s → slice_index_or (slice_set superiors s (Some i)) k None ≡ slice_index_or superiors k None =
    λ k ne. get_or-set_other superiors s k (Some i) None ne in
    let same : superior_in (slice_set superiors s (Some i)) ≡ (λ k. if k == s then Some i else superior_in superiors k) =
    λ x. λ k. superior_set superiors s i k within x in
    record {
      job_count = t.job_count;
      superior_count = length-set superiors s (Some i) ∙ t.superior_count;
      below = λ k. elim (cases_eq k s) [ inl e ↦ rw (e, here) (slot_of jobs i t.job_count standing) | inr ne ↦ rw (other k ne) (t.below k) ];
      standing = λ k. elim (cases_eq k s) [ inl e ↦ rw (e, here) standing | inr ne ↦ rw (other k ne) (t.standing k) ];
      owned = λ k f. elim (cases_eq k s) [
        | inl e ↦ absurd (let empty : slice_index_or jobs s None ≡ None = ap (λ x. slice_index_or jobs x None) (sym e) ∙ f in
            let wrong : true ≡ false = sym job ∙ ap is_some empty in cc)
        | inr ne ↦ other k ne ∙ t.owned k f
      ];
      circle = subst (λ (f : ℕ → Option ℕ). (k : ℕ) → climbs_to f k slots (f k) ≡ false) (sym same)
          (no_new_circle (superior_in superiors) s i none apart t.circle);
    }

-- a job is that of slot s, or below it, exactly if that slot is reached from it
pub reached_same : (t : Table) (s k n : ℕ) → IsTree t.jobs t.superiors → n < slots → n ≡ k → (k == s) ≡ true
    → climbs_to (superior_at t) s slots (Some k) ≡ true
reached_same t s k n tree l e same =
    sym (at_or_below (superior_at t) s k tree.below (omega arith)) ∙ ap (λ b. b || is_below (superior_at t) s k) same

pub reached_other : (t : Table) (b : Bool) (s k m n : ℕ) → IsTree t.jobs t.superiors → n < slots → n ≡ k → m ≡ s → (k == s) ≡ false
    → b ≡ is_below (superior_at t) m n → b ≡ climbs_to (superior_at t) s slots (Some k)
reached_other t b s k m n tree l e f other is =
    is ∙ ap (λ x. is_below (superior_at t) x n) f ∙ ap (is_below (superior_at t) s) e
    ∙ sym (ap (λ x. x || is_below (superior_at t) s k) other) ∙ at_or_below (superior_at t) s k tree.below (omega arith)

-- the slots of a tree are emptied
some_of : {X : Type 0} (b : Bool) (o : Option X) → b ≡ false → is_some o ≡ true → is_some (if b then None else o) ≡ true
some_of true o e h = cc
some_of false o e h = h

module _ (jobs news : List (Option Job)) (superiors rest : List (Option ℕ)) (r : ℕ) (t : IsTree jobs superiors)
    (left : Without (in_tree (superior_in superiors) r) (λ k. slice_index_or jobs k None) (λ k. slice_index_or news k None))
    (cleared : Without (λ k. is_none (slice_index_or news k None)) (λ k. slice_index_or superiors k None) (λ k. slice_index_or rest k None)) where
  by : (b : Bool) (o : Option Job) (p : Option ℕ) → (o ≡ None → p ≡ None) → (if is_none (if b then None else o) then None else p) ≡ (if b then None else p)
  by true o p h = refl
  by false (Some j) p h = refl
  by false None p h = sym (h refl)

  pub superiors_left : Without (in_tree (superior_in superiors) r) (λ k. slice_index_or superiors k None) (λ k. slice_index_or rest k None)
  superiors_left = record {
    each = λ k. cleared.each k ∙ ap (λ o. if is_none o then None else slice_index_or superiors k None) (left.each k)
        ∙ by (in_tree (superior_in superiors) r k) (slice_index_or jobs k None) (slice_index_or superiors k None) (t.owned k);
  }

  -- the superior of a job that stays, stays
  stays_too : (k i : ℕ) → in_tree (superior_in superiors) r k ≡ false → slice_index_or superiors k None ≡ Some i → in_tree (superior_in superiors) r i ≡ false
  stays_too k i out e = elim (cases_Bool (in_tree (superior_in superiors) r i)) [
    | inr f ↦ f
    | inl inside ↦ elim (cases_eq k r) [
      | inl same ↦ absurd (let first : (k == r) ≡ true = eq-eqb k r same in let all : in_tree (superior_in superiors) r k ≡ true = rw first refl in cc)
      | inr ne ↦ absurd (let up : is_below (superior_in superiors) r k ≡ true = below_through (superior_in superiors) r k i t.below ne e inside in
          let all : in_tree (superior_in superiors) r k ≡ true = rw (ne_eqb k r ne) up in cc)
    ]
  ]

  standing_by : (k : ℕ) (b : Bool) (o : Option ℕ) → in_tree (superior_in superiors) r k ≡ b → slice_index_or superiors k None ≡ o
      → IfSome o (λ i. is_some (slice_index_or jobs i None) ≡ true) → IfSome (if b then None else o) (λ i. is_some (slice_index_or news i None) ≡ true)
  standing_by k true o e f h = tt
  standing_by k false None e f h = tt
  standing_by k false (Some i) e f h = ap is_some (left.each i)
      ∙ some_of (in_tree (superior_in superiors) r i) (slice_index_or jobs i None) (stays_too k i e f) h

  below_by : (b : Bool) (o : Option ℕ) → IfSome o (λ i. i < slots) → IfSome (if b then None else o) (λ i. i < slots)
  below_by true o h = tt
  below_by false o h = h

  owned_by : (b : Bool) (o : Option Job) (p : Option ℕ) → (o ≡ None → p ≡ None) → (if b then None else o) ≡ None → (if b then None else p) ≡ None
  owned_by true o p h e = refl
  owned_by false o p h e = h e

  pub tree_left : length news ≡ slots → length rest ≡ slots → IsTree news rest
  tree_left m n = record {
    job_count = m;
    superior_count = n;
    below = λ k. rw (superiors_left.each k) (below_by (in_tree (superior_in superiors) r k) (slice_index_or superiors k None) (t.below k));
    standing = λ k. rw (superiors_left.each k) (standing_by k (in_tree (superior_in superiors) r k) (slice_index_or superiors k None) refl
        refl (t.standing k));
    owned = λ k f. superiors_left.each k ∙ owned_by (in_tree (superior_in superiors) r k) (slice_index_or jobs k None)
        (slice_index_or superiors k None) (t.owned k) (sym (left.each k) ∙ f);
    circle = circle_cut (superior_in superiors) (superior_in rest) (in_tree (superior_in superiors) r) superiors_left.each t.circle;
  }

-- a slot past the last is in no tree
pub past_none : (superiors : List (Option ℕ)) (r k : ℕ) → length superiors ≡ slots → r < slots → slots ≤ k → in_tree (superior_in superiors) r k ≡ false
past_none superiors r k n l past =
    rw (ne_eqb k r (λ e. omega arith)) (below_none (superior_in superiors) r k (get_or_past superiors k None (omega arith)))

pub past_below : (superiors : List (Option ℕ)) (r k : ℕ) → length superiors ≡ slots → slots ≤ k → is_below (superior_in superiors) r k ≡ false
past_below superiors r k n past = below_none (superior_in superiors) r k (get_or_past superiors k None (omega arith))
