-- Links that are changed at two places.
use Rattle.std.specs.Prelude.{◌≡◌, ◌≢◌, ◌<◌, ℕ, ◌+◌, List, [], ◌∷◌, ◌++◌, length, slice_set, refl}
use Rattle.std.proofs.Common.{sym, ◌∙◌, ap, subst, inl, inr, arith, length-set}
use Rattle.std.proofs.lemmas.Bool.{cases_eq, cases_lt}
use Rattle.std.proofs.lemmas.List.{get_or-set_same, get_or-set_other, ext_get_or, get_or_append_left, get_or_push, length_push}
use Rattle.std.proofs.lemmas.List.FromFn.{length-range_with_len, get_or-range_with_len}
use Rattle.its_links.specs.Rings.{link, alone, IsRings}

pub length-alone : (n : ℕ) → length (alone n) ≡ n
unfolding alone
length-alone n = length-range_with_len 0 n

pub link-alone : (n i : ℕ) → i < n → link (alone n) i ≡ i
unfolding alone
link-alone n i h = get_or-range_with_len 0 n i 0 h ∙ omega arith

pub alone_none : [] ≡ alone 0
unfolding alone
alone_none = refl

pub alone_more : (n : ℕ) (xs : List ℕ) → xs ≡ alone n → xs ++ n ∷ [] ≡ alone (n + 1)
alone_more n xs e =
    let a = length-alone n in
    let b = length-alone (n + 1) in
    let c = length_push (alone n) n in
    ap (λ ys. ys ++ n ∷ []) e ∙ ext_get_or 0 (alone n ++ n ∷ []) (alone (n + 1)) (omega arith) (λ i lt. elim (cases_lt i n) [
      | inl less ↦ get_or_append_left (alone n) (n ∷ []) 0 i (omega arith) ∙ link-alone n i less ∙ sym (link-alone (n + 1) i (omega arith))
      | inr ge ↦ get_or_push (alone n) n 0 i (omega arith) ∙ omega arith ∙ sym (link-alone (n + 1) i (omega arith))
    ])

pub alone_rings : (n : ℕ) → IsRings (alone n) (alone n)
alone_rings n =
    let a = length-alone n in
    let at : (i : ℕ) → i < length (alone n) → link (alone n) i ≡ i = λ i h. link-alone n i (omega arith) in
    record {
      even = refl;
      within = λ i h. let e = at i h in omega arith;
      back_within = λ i h. let e = at i h in omega arith;
      there = λ i h. ap (link (alone n)) (at i h) ∙ at i h;
      back = λ i h. ap (link (alone n)) (at i h) ∙ at i h;
    }

-- a list that is set at i, and then at j
abbrev set_two : List ℕ → ℕ → ℕ → ℕ → ℕ → List ℕ
set_two xs i u j v = slice_set (slice_set xs i u) j v

length_two : (xs : List ℕ) (i u j v : ℕ) → length (set_two xs i u j v) ≡ length xs
length_two xs i u j v = length-set (slice_set xs i u) j v ∙ length-set xs i u

at_second : (xs : List ℕ) (i u j v : ℕ) → j < length xs → link (set_two xs i u j v) j ≡ v
at_second xs i u j v h = let l = length-set xs i u in get_or-set_same (slice_set xs i u) j v 0 (omega arith)

at_first : (xs : List ℕ) (i u j v : ℕ) → i < length xs → i ≢ j → link (set_two xs i u j v) i ≡ u
at_first xs i u j v h ne = get_or-set_other (slice_set xs i u) j i v 0 ne ∙ get_or-set_same xs i u 0 h

elsewhere : (xs : List ℕ) (i u j v k : ℕ) → k ≢ i → k ≢ j → link (set_two xs i u j v) k ≡ link xs k
elsewhere xs i u j v k ni nj = get_or-set_other (slice_set xs i u) j k v 0 nj ∙ get_or-set_other xs i k u 0 ni

two_within : (xs : List ℕ) (i u j v k n : ℕ) → i < length xs → j < length xs → u < n → v < n → link xs k < n → link (set_two xs i u j v) k < n
two_within xs i u j v k n hi hj hu hv h = elim (cases_eq k j) [
  | inl e ↦ let c = ap (link (set_two xs i u j v)) e in let d = at_second xs i u j v hj in omega arith
  | inr nj ↦ elim (cases_eq k i) [
    | inl e ↦ let c = at_first xs i u j v hi (λ q. nj (e ∙ q)) in let d = ap (link (set_two xs i u j v)) e in omega arith
    | inr ni ↦ let c = elsewhere xs i u j v k ni nj in omega arith
  ]
]

module _ (next prev : List ℕ) (r : IsRings next prev) (p q : ℕ) (hp : p < length next) (hq : q < length next) where
  one_to_one : (i j : ℕ) → i < length next → j < length next → link next i ≡ link next j → i ≡ j
  one_to_one i j hi hj e = sym (r.there i hi) ∙ ap (link prev) e ∙ r.there j hj

  there_two : (i : ℕ) → i < length next → link (set_two prev (link next q) p (link next p) q) (link (set_two next p (link next q) q (link next p)) i) ≡ i
  there_two i h =
      let wp = r.within p hp in
      let wq = r.within q hq in
      let ev = r.even in
      let m = link (set_two prev (link next q) p (link next p) q) in
      elim (cases_eq i q) [
        | inl e ↦
            ap m (ap (link (set_two next p (link next q) q (link next p))) e ∙ at_second next p (link next q) q (link next p) hq)
            ∙ at_second prev (link next q) p (link next p) q (omega arith)
            ∙ sym e
        | inr nq ↦ elim (cases_eq i p) [
          | inl e ↦
              ap m (ap (link (set_two next p (link next q) q (link next p))) e ∙ at_first next p (link next q) q (link next p) hp (λ s. nq (e ∙ s)))
              ∙ at_first prev (link next q) p (link next p) q (omega arith) (λ s. nq (e ∙ sym (one_to_one q p hq hp s)))
              ∙ sym e
          | inr np ↦
              ap m (elsewhere next p (link next q) q (link next p) i np nq)
              ∙ elsewhere prev (link next q) p (link next p) q (link next i) (λ s. nq (one_to_one i q h hq s)) (λ s. np (one_to_one i p h hp s))
              ∙ r.there i h
        ]
      ]

  back_two : (i : ℕ) → i < length next → link (set_two next p (link next q) q (link next p)) (link (set_two prev (link next q) p (link next p) q) i) ≡ i
  back_two i h =
      let wp = r.within p hp in
      let wq = r.within q hq in
      let ev = r.even in
      let m = link (set_two next p (link next q) q (link next p)) in
      elim (cases_eq i (link next p)) [
        | inl e ↦
            ap m (ap (link (set_two prev (link next q) p (link next p) q)) e ∙ at_second prev (link next q) p (link next p) q (omega arith))
            ∙ at_second next p (link next q) q (link next p) hq
            ∙ sym e
        | inr np ↦ elim (cases_eq i (link next q)) [
          | inl e ↦
              ap m (ap (link (set_two prev (link next q) p (link next p) q)) e
              ∙ at_first prev (link next q) p (link next p) q (omega arith) (λ s. np (e ∙ s)))
              ∙ at_first next p (link next q) q (link next p) hp (λ s. np (e ∙ ap (link next) (sym s)))
              ∙ sym e
          | inr nq ↦
              ap m (elsewhere prev (link next q) p (link next p) q i nq np)
              ∙ elsewhere next p (link next q) q (link next p) (link prev i) (λ s. np (sym (r.back i h) ∙ ap (link next) s))
              (λ s. nq (sym (r.back i h) ∙ ap (link next) s))
              ∙ r.back i h
        ]
      ]

  exchanged_rings : IsRings (slice_set (slice_set next p (link next q)) q (link next p)) (slice_set (slice_set prev (link next q) p) (link next p) q)
  exchanged_rings =
      let wp = r.within p hp in
      let wq = r.within q hq in
      let ev = r.even in
      let a = length_two next p (link next q) q (link next p) in
      let b = length_two prev (link next q) p (link next p) q in
      record {
        even = b ∙ ev ∙ sym a;
        within = λ i h. let w = r.within i (omega arith) in let t =
            two_within next p (link next q) q (link next p) i (length next) hp hq wq wp w in omega arith;
        back_within = λ i h.
            let w = r.back_within i (omega arith) in
            let t = two_within prev (link next q) p (link next p) q i (length next) (omega arith) (omega arith) hp hq w in
            omega arith;
        there = λ i h. there_two i (omega arith);
        back = λ i h. back_two i (omega arith);
      }

  pub exchanged_with : (u w : ℕ) → u ≡ link next p → w ≡ link next q → IsRings (slice_set (slice_set next p w) q u) (slice_set (slice_set prev w p) u q)
  exchanged_with u w eu ew =
      subst (λ a. IsRings (slice_set (slice_set next p w) q a) (slice_set (slice_set prev w p) a q)) (sym eu)
      (subst (λ b. IsRings (slice_set (slice_set next p b) q (link next p)) (slice_set (slice_set prev b p) (link next p) q)) (sym ew) exchanged_rings)
