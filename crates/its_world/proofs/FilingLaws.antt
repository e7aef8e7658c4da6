-- The result of putting slots on the lists to which they belong.
use Rattle.std.specs.Prelude.{◌≡◌, ◌<◌, ◌↔◌, ◌+◌, ℕ, Bool, true, false, not, IsTrue, Option, Some, None, List, [], ◌∷◌, ◌++◌, length, slice_set, refl}
use Rattle.std.proofs.Common.{sym, ◌∙◌, ap, subst, inl, inr, arith, add-one}
use Rattle.std.proofs.lemmas.Bool.{cases_eq}
use Rattle.std.proofs.lemmas.List.{get_or-set_same, get_or-set_other}
use Rattle.its_links.specs.Lists.{list_at, count, times, hit, first, rest}
use Rattle.its_links.proofs.CountLaws.{hit_other, count_first}
use Rattle.its_world.specs.WaitLists.{heads, StandsIn, Put, AwayFrom, input_lists, output_lists, lists_at, lists_to, link_lists, link_lists_to}
use Rattle.its_world.specs.Filed.{wait_list_of, OnlyWaitLists, Refiled, Resettled}
use Rattle.its_world.proofs.PlaceLaws.{place_wait_lists, stands_on}
use Rattle.its_world.proofs.WaitListLaws.{not_linked}
use Rattle.its_world.specs.declared.world.World.{World}

pub refiled : (old new : World) (s : ℕ) (p : Option ℕ) → OnlyWaitLists old new → p ≡ wait_list_of old s
    → Put old.wait_lists new.wait_lists s p → Refiled old new s
refiled old new s p o e put = record {
  rest = o;
  here = subst (StandsIn new.wait_lists.lists s) (e ∙ sym (place_wait_lists old new o s)) put.here;
  others = put.others;
}

-- a slot that is on no list and belongs on none is on the list to which it belongs: none
is_off : (b : Bool) → not b ≡ true → b ≡ false
is_off true h = sym h
is_off false h = refl

pub apart_already : (w : World) (i s : ℕ) (b : Bool) → i ≡ s → wait_list_of w s ≡ None → (IsTrue b ↔ (0 < times i w.wait_lists.lists))
    → not b ≡ true → Refiled w w s
apart_already w i s b e none test off = record {
  rest = record { is = refl };
  here = subst (StandsIn w.wait_lists.lists s) (sym none) (not_linked w.wait_lists i s b e (is_off b off) test).here;
  others = λ k ne h. refl;
}

only_then : (old mid new : World) → OnlyWaitLists old mid → OnlyWaitLists mid new → OnlyWaitLists old new
only_then old mid new a b = record { is = b.is ∙ (λ t. record (a.is t) { wait_lists = new.wait_lists }) }

pub heads_within : (w : World) (h : ℕ) → h < heads → h < length w.wait_lists.lists
heads_within w h l = let e = w.wait_lists_heads in omega arith

-- an empty list
count_none : (k : ℕ) (xs : List ℕ) → first xs ≡ None → count k xs ≡ 0
count_none k [] e = refl
count_none k (x ∷ xs) e = cc

pub settled_none : (old new : World) (h : ℕ) → OnlyWaitLists old new → new.wait_lists ≡ old.wait_lists
    → first (list_at old.wait_lists.lists h) ≡ None → Resettled old new (h ∷ [])
settled_none old new h o same e = record {
  rest = o;
  each = λ k. inr ((count_none k (list_at old.wait_lists.lists h) e, tt), λ g. ap (λ l. count k (list_at l.lists g)) same);
}

-- a slot of the list is taken out, the rest of the list is settled, and the slot is put on the list
-- to which it belongs
pub settled_some : (old mid last new : World) (h n s : ℕ) → OnlyWaitLists old mid → h < length old.wait_lists.lists
    → first (list_at old.wait_lists.lists h) ≡ Some n
    → mid.wait_lists ≡ record old.wait_lists { lists = slice_set old.wait_lists.lists h (rest (list_at old.wait_lists.lists h)) } → s ≡ n
    → Resettled mid last (h ∷ []) → Refiled last new s → Resettled old new (h ∷ [])
settled_some old mid last new h n s o within found popped is settled filed = record {
  rest = only_then old last new (only_then old mid last o settled.rest) filed.rest;
  each = λ k. elim (cases_eq k s) [
    | inl e ↦ inl (subst (λ i. StandsIn new.wait_lists.lists i (wait_list_of new i)) (sym e) filed.here)
    | inr ne ↦ elim (settled.each k) [
      | inl right ↦ inl (stands_on last.wait_lists.lists new.wait_lists.lists k (wait_list_of last k) (wait_list_of new k)
          (filed.others k ne) (place_wait_lists last new filed.rest k) right)
      | inr p ↦
          let all : (g : ℕ) → count k (list_at mid.wait_lists.lists g) ≡ count k
          (list_at (slice_set old.wait_lists.lists h (rest (list_at old.wait_lists.lists h))) g) = λ g. ap (λ l. count k (list_at l.lists g)) popped in
          let at : count k (list_at mid.wait_lists.lists h) ≡ count k (rest (list_at old.wait_lists.lists h)) = all h
          ∙ ap (count k) (get_or-set_same old.wait_lists.lists h (rest (list_at old.wait_lists.lists h)) [] within) in
          let whole : count k (list_at old.wait_lists.lists h) ≡ hit k n + count k (rest (list_at old.wait_lists.lists h)) =
          count_first k n (list_at old.wait_lists.lists h) found in
          let miss : hit k n ≡ 0 = hit_other k n (λ i. ne (i ∙ sym is)) in
          let none : count k (list_at mid.wait_lists.lists h) ≡ 0 = p.0.0 in
          let away : count k (list_at old.wait_lists.lists h) ≡ 0 = omega arith in
          inr (
            (away, tt),
            λ g. filed.others k ne g ∙ p.1 g ∙ elim (cases_eq g h) [
              | inl e ↦ ap (λ i. count k (list_at mid.wait_lists.lists i)) e ∙ none ∙ sym (ap (λ i. count k (list_at old.wait_lists.lists i)) e ∙ away)
              | inr ng ↦ all g ∙ ap (count k) (get_or-set_other old.wait_lists.lists h g (rest (list_at old.wait_lists.lists h)) [] ng)
            ],
          )
    ]
  ];
}

-- some lists are settled, and then others
away_both : (lists : List (List ℕ)) (k : ℕ) (a b : List ℕ) → AwayFrom lists k a → AwayFrom lists k b → AwayFrom lists k (a ++ b)
away_both lists k [] b p q = q
away_both lists k (x ∷ a) b p q = (p.0, away_both lists k a b p.1 q)

away_as : (old new : List (List ℕ)) (k : ℕ) (hs : List ℕ) → ((h : ℕ) → count k (list_at new h) ≡ count k (list_at old h))
    → AwayFrom new k hs → AwayFrom old k hs
away_as old new k [] same p = tt
away_as old new k (h ∷ hs) same p = (sym (same h) ∙ p.0, away_as old new k hs same p.1)

pub settled_then : (old mid new : World) (a b : List ℕ) → Resettled old mid a → Resettled mid new b → Resettled old new (a ++ b)
settled_then old mid new a b x y = record {
  rest = only_then old mid new x.rest y.rest;
  each = λ k. elim (y.each k) [
    | inl right ↦ inl right
    | inr q ↦ elim (x.each k) [
      | inl right ↦ inl (stands_on mid.wait_lists.lists new.wait_lists.lists k (wait_list_of mid k) (wait_list_of new k) q.1
          (place_wait_lists mid new y.rest k) right)
      | inr p ↦ inr (away_both old.wait_lists.lists k a b p.0 (away_as old.wait_lists.lists mid.wait_lists.lists k b p.1 q.0), λ h. q.1 h ∙ p.1 h)
    ]
  ];
}

pub settled_console : (a b c d e : World) (x i : ℕ) → i ≡ x → Resettled a b ((2 + i) ∷ []) → Resettled b c ((10 + i) ∷ [])
    → Resettled c d ((18 + i) ∷ []) → Resettled d e ((26 + i) ∷ []) → Resettled a e (lists_at x)
settled_console a b c d e x i is p q r s = subst (λ j. Resettled a e (lists_at j)) is
    (settled_then a b e ((2 + i) ∷ []) ((10 + i) ∷ (18 + i) ∷ (26 + i) ∷ []) p
    (settled_then b c e ((10 + i) ∷ []) ((18 + i) ∷ (26 + i) ∷ []) q
    (settled_then c d e ((18 + i) ∷ []) ((26 + i) ∷ []) r s)))

pub settled_input : (a b c : World) (x i : ℕ) → i ≡ x → Resettled a b ((2 + i) ∷ []) → Resettled b c ((26 + i) ∷ []) → Resettled a c (input_lists x)
settled_input a b c x i is p q = subst (λ j. Resettled a c (input_lists j)) is (settled_then a b c ((2 + i) ∷ []) ((26 + i) ∷ []) p q)

pub settled_output : (a b c d : World) (x i : ℕ) → i ≡ x → Resettled a b ((10 + i) ∷ []) → Resettled b c ((18 + i) ∷ [])
    → Resettled c d ((26 + i) ∷ []) → Resettled a d (output_lists x)
settled_output a b c d x i is p q r = subst (λ j. Resettled a d (output_lists j)) is
    (settled_then a b d ((10 + i) ∷ []) ((18 + i) ∷ (26 + i) ∷ []) p
    (settled_then b c d ((18 + i) ∷ []) ((26 + i) ∷ []) q r))

pub settled_link : (a b c d : World) (x i : ℕ) → i ≡ x → Resettled a b ((34 + i) ∷ []) → Resettled b c ((50 + i) ∷ [])
    → Resettled c d ((66 + i) ∷ []) → Resettled a d (link_lists x)
settled_link a b c d x i is p q r = subst (λ j. Resettled a d (link_lists j)) is
    (settled_then a b d ((34 + i) ∷ []) ((50 + i) ∷ (66 + i) ∷ []) p
    (settled_then b c d ((50 + i) ∷ []) ((66 + i) ∷ []) q r))

pub settled_start : (w : World) → Resettled w w []
settled_start w = record {
  rest = record { is = refl };
  each = λ k. inr (tt, λ h. refl);
}

pub settled_more : (old mid new : World) (c : ℕ) → Resettled old mid (lists_to c) → Resettled mid new (lists_at c) → Resettled old new (lists_to (c + 1))
settled_more old mid new c x y = subst (λ n. Resettled old new (lists_to n)) (sym (add-one c)) (settled_then old mid new (lists_to c) (lists_at c) x y)

pub settled_more_links : (old mid new : World) (l : ℕ) → Resettled old mid (link_lists_to l) → Resettled mid new (link_lists l)
    → Resettled old new (link_lists_to (l + 1))
settled_more_links old mid new l x y = subst (λ n. Resettled old new (link_lists_to n)) (sym (add-one l))
    (settled_then old mid new (link_lists_to l) (link_lists l) x y)
