-- A slot that is put on a list, or taken out of the list in which it is.
use Rattle.std.specs.Prelude.{◌≡◌, ◌≢◌, ◌<◌, ◌≤◌, ◌↔◌, ℕ, ◌+◌, Bool, false, IsTrue, IfSome, Option, Some, None, List, [], ◌∷◌, ◌++◌, length, map, slice_set, refl}
use Rattle.std.proofs.Common.{sym, ◌∙◌, ap, subst, inl, inr, arith, length-set, append_assoc}
use Rattle.std.proofs.lemmas.Bool.{cases_eq, cases_lt, both_ways}
use Rattle.std.proofs.lemmas.List.{length-append}
use Rattle.std.proofs.lemmas.List.{get_or-set_same, get_or-set_other, length-map}
use Rattle.its_links.specs.Lists.{Linked, list_at, hit, count, times, without, first, no_lists}
use Rattle.its_links.proofs.CountLaws.{list_at-no_lists, length-no_lists, hit_same, hit_other, count-append, count-le-times, stands, count-without_same, count-without_other, list_at-without}
use Rattle.its_world.specs.WaitLists.{heads, mark, Filed, Looked, Put}

-- a slot that is on no list
pub times_none : (x : ℕ) (ls : List (List ℕ)) → ((h : ℕ) → count x (list_at ls h) ≡ 0) → times x ls ≡ 0
times_none x ls none = elim (cases_lt 0 (times x ls)) [
  | inl lt ↦ let s = stands x ls lt in let h = s.here in let n = none s.head in absurd (omega arith)
  | inr ge ↦ omega arith
]

not_linked_node : (l : Linked) (s : ℕ) → (0 < times s l.lists → ⊥) → Put l l s None
not_linked_node l s away = record {
  nodes = refl;
  heads = refl;
  here = record { at = λ h. let c = count-le-times s l.lists h in elim (cases_lt 0 (times s l.lists)) [ inl lt ↦ absurd (away lt) | inr ge ↦ omega arith ] };
  others = λ k ne h. refl;
}

pub not_linked : (l : Linked) (i s : ℕ) (b : Bool) → i ≡ s → b ≡ false → (IsTrue b ↔ (0 < times i l.lists)) → Put l l s None
not_linked l i s b e no_test test = subst (λ n. Put l l n None) e (not_linked_node l i (λ h. absurd (both_ways b no_test (test.1 h))))

taken_out_node : (old new : Linked) (s : ℕ) → new ≡ record old { lists = map (without s) old.lists } → Put old new s None
taken_out_node old new s e =
    let ls : new.lists ≡ map (without s) old.lists = ap (λ (l : Linked). l.lists) e in
    record {
      nodes = ap (λ (l : Linked). l.nodes) e;
      heads = ap length ls ∙ length-map old.lists (without s);
      here = record {
        at = λ h. ap (λ l. count s (list_at l h)) ls ∙ ap (count s) (list_at-without s old.lists h)
            ∙ count-without_same s (list_at old.lists h);
      };
      others = λ k ne h. ap (λ l. count k (list_at l h)) ls ∙ ap (count k) (list_at-without s old.lists h) ∙ count-without_other s k (list_at old.lists h) ne;
    }

pub taken_out : (old new : Linked) (i s : ℕ) → i ≡ s → new ≡ record old { lists = map (without i) old.lists } → Put old new s None
taken_out old new i s same e = subst (λ n. Put old new n None) same (taken_out_node old new i e)

pub is_out : (old new : Linked) (i s : ℕ) → i ≡ s → Put old new s None → times i new.lists ≡ 0
is_out old new i s e p = ap (λ n. times n new.lists) e ∙ times_none s new.lists p.here.at

pub put_none : (old new : Linked) (s : ℕ) → Put old new s None → Put old new s None
put_none old new s p = p

put_node : (old mid new : Linked) (s g : ℕ) → Put old mid s None → g < length old.lists
    → new ≡ record mid { lists = slice_set mid.lists g (list_at mid.lists g ++ s ∷ []) } → Put old new s (Some g)
put_node old mid new s g p lt e =
    let ls : new.lists ≡ slice_set mid.lists g (list_at mid.lists g ++ s ∷ []) = ap (λ (l : Linked). l.lists) e in
    let n = p.heads in
    let at : (h : ℕ) (x : ℕ) → count x (list_at new.lists h) ≡ count x (list_at (slice_set mid.lists g (list_at mid.lists g ++ s ∷ [])) h) =
    λ h x. ap (λ l. count x (list_at l h)) ls in
    let lg : g < length mid.lists = omega arith in
    let here : (h x : ℕ) → h ≡ g → count x (list_at new.lists h) ≡ count x (list_at mid.lists h) + hit x s = λ h x q.
    at h x ∙ ap (λ i. count x (list_at (slice_set mid.lists g (list_at mid.lists g ++ s ∷ [])) i)) q
    ∙ ap (count x) (get_or-set_same mid.lists g (list_at mid.lists g ++ s ∷ []) [] lg)
    ∙ count-append x (list_at mid.lists g) (s ∷ [])
    ∙ (let z : count x (list_at mid.lists g) + (hit x s + 0) ≡ count x (list_at mid.lists g) + hit x s = omega arith in z)
    ∙ ap (λ i. count x (list_at mid.lists i) + hit x s) (sym q) in
    let there : (h x : ℕ) → h ≢ g → count x (list_at new.lists h) ≡ count x (list_at mid.lists h) = λ h x ne.
    at h x ∙ ap (count x) (get_or-set_other mid.lists g h (list_at mid.lists g ++ s ∷ []) [] ne) in
    record {
      nodes = ap (λ (l : Linked). l.nodes) e ∙ p.nodes;
      heads = ap length ls ∙ length-set mid.lists g (list_at mid.lists g ++ s ∷ []) ∙ p.heads;
      here = record {
        at = λ h. elim (cases_eq h g) [
          | inl q ↦ let a = here h s q in let b = p.here.at h in let c = hit_same s in let d : hit h g ≡ 1 = ap (λ i. hit i g) q ∙ hit_same g in omega arith
          | inr ne ↦ there h s ne ∙ p.here.at h ∙ sym (hit_other h g ne)
        ];
      };
      others = λ k ne h. elim (cases_eq h g) [
        | inl q ↦ let a = here h k q in let b = hit_other k s ne in let c = p.others k ne h in omega arith
        | inr nh ↦ there h k nh ∙ p.others k ne h
      ];
    }

pub put_some : (old mid new : Linked) (i s g : ℕ) (p : Option ℕ) → i ≡ s → p ≡ Some g → Put old mid s None → IfSome p (λ h. h < length old.lists)
    → new ≡ record mid { lists = slice_set mid.lists g (list_at mid.lists g ++ i ∷ []) } → Put old new s p
put_some old mid new i s g p same is out lt e =
    subst (λ o. Put old new s o) (sym is) (subst (λ n. Put old new n (Some g)) same
    (put_node old mid new i g (subst (λ n. Put old mid n None) (sym same) out) (subst (λ o. IfSome o (λ h. h < length old.lists)) is lt) e))

-- at the start no slot is on a list
pub opened_lists : (l : Linked) (n : ℕ) → l ≡ record { nodes = n; lists = no_lists heads } → length l.lists ≡ heads
opened_lists l n e = ap (λ (x : Linked). length x.lists) e ∙ length-no_lists heads

pub opened_filed : (l : Linked) (n : ℕ) (place : ℕ → Option ℕ) → l ≡ record { nodes = n; lists = no_lists heads }
    → ((k : ℕ) → place k ≡ None) → Filed l.lists place
opened_filed l n place e none = record {
  each = λ k. record {
    at = λ h. ap (λ (x : Linked). count k (list_at x.lists h)) e ∙ ap (count k) (list_at-no_lists heads h)
        ∙ ap (λ o. mark o h) (sym (none k));
  };
}

-- a list is looked through
pub looked_start : (lists : List (List ℕ)) (h s : ℕ) (at : Option ℕ) → at ≡ first (list_at lists h) → Looked lists h s at 0
looked_start lists h s at e = record { before = []; after = list_at lists h; is = refl; at_is = e; none = refl; long = refl }

-- what is after its first
first_is : (n : ℕ) (xs : List ℕ) → first xs ≡ Some n → (ys : List ℕ) × (xs ≡ n ∷ ys)
first_is n [] e = absurd (cc)
first_is n (x ∷ xs) e = (xs, ap (λ i. i ∷ xs) (let q : x ≡ n = cc in q))

split_at : (lists : List (List ℕ)) (h s n i : ℕ) (at : Option ℕ) (l : Looked lists h s at i) → at ≡ Some n → (ys : List ℕ)
    × (list_at lists h ≡ l.before ++ n ∷ ys)
split_at lists h s n i at l e = let p = first_is n l.after (sym l.at_is ∙ e) in (p.0, l.is ∙ ap (λ xs. l.before ++ xs) p.1)

pub looked_here : (lists : List (List ℕ)) (h s n i : ℕ) (at : Option ℕ) → Looked lists h s at i → at ≡ Some n → 0 < count n (list_at lists h)
looked_here lists h s n i at l e =
    let p = split_at lists h s n i at l e in
    let c = ap (count n) p.1 in
    let d = count-append n l.before (n ∷ p.0) in
    let k = hit_same n in
    omega arith

pub looked_in : (lists : List (List ℕ)) (h s n i : ℕ) (at : Option ℕ) → Looked lists h s at i → at ≡ Some n → 0 < times n lists
looked_in lists h s n i at l e = let a = looked_here lists h s n i at l e in let b = count-le-times n lists h in omega arith

pub looked_more : (lists : List (List ℕ)) (h s n m i : ℕ) (at next : Option ℕ) → Looked lists h s at i → at ≡ Some n → m ≡ s → n ≢ m
    → ((g : ℕ) (before after : List ℕ) → list_at lists g ≡ before ++ n ∷ after → next ≡ first after) → Looked lists h s next (i + 1)
looked_more lists h s n m i at next l e is ne go =
    let p = split_at lists h s n i at l e in
    record {
      before = l.before ++ n ∷ [];
      after = p.0;
      is = p.1 ∙ sym (append_assoc l.before (n ∷ []) p.0);
      at_is = go h l.before p.0 p.1;
      none = count-append s l.before (n ∷ []) ∙ (let a = l.none in let b = hit_other s n (λ q. ne (sym q ∙ sym is)) in omega arith);
      long = length-append l.before (n ∷ []) ∙ (let a = l.long in omega arith);
    }

pub looked_end : (lists : List (List ℕ)) (h s i : ℕ) (at : Option ℕ) → Looked lists h s at i → at ≡ None → count s (list_at lists h) ≡ 0
looked_end lists h s i at l e = by_after l.after l.is (sym l.at_is ∙ e)
  where
    by_after : (xs : List ℕ) → list_at lists h ≡ l.before ++ xs → first xs ≡ None → count s (list_at lists h) ≡ 0
    by_after [] is none = ap (count s) is ∙ count-append s l.before [] ∙ (let a = l.none in omega arith)
    by_after (x ∷ xs) is none = absurd (cc)

pub looked_out : (lists : List (List ℕ)) (h s i : ℕ) (at : Option ℕ) → Looked lists h s at i → length (list_at lists h) ≤ i → count s (list_at lists h) ≡ 0
looked_out lists h s i at l few = by_after l.after l.is
  where
    by_after : (xs : List ℕ) → list_at lists h ≡ l.before ++ xs → count s (list_at lists h) ≡ 0
    by_after [] is = ap (count s) is ∙ count-append s l.before [] ∙ (let a = l.none in omega arith)
    by_after (x ∷ xs) is = let a = ap length is in let b = length-append l.before (x ∷ xs) in let c = l.long in absurd (omega arith)
