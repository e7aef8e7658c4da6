-- Links that agree with lists, and stay so as nodes come and go.
use Rattle.std.specs.Prelude.{◌≡◌, ◌≢◌, ◌<◌, ◌≤◌, ℕ, ◌+◌, ◌-◌, Option, Some, None, List, [], ◌∷◌, ◌++◌, length, map, slice_set}
use Rattle.std.specs.List.{range_with_len}
use Rattle.std.proofs.Common.{sym, ◌∙◌, ap, subst, inl, inr, arith, length-set}
use Rattle.std.proofs.lemmas.Bool.{cases_eq, cases_lt}
use Rattle.std.proofs.lemmas.List.{get_or-set_same, get_or-set_other, ext_get_or, length-map}
use Rattle.std.proofs.lemmas.List.FromFn.{length-map-range_with_len, get_or-map-range_with_len}
use Rattle.its_links.specs.Lists.{list_at, hit, count, times, without, first, no_lists}
use Rattle.its_links.specs.Rings.{link, alone, Exchanged, Walk, walked, lists_of, linked_in, Agrees}
use Rattle.its_links.proofs.CountLaws.{hit_same, hit_other, hit_le, count-append, count-le-times, two-le-times, times-set, short, without_none, without_split, list_at-without, times-without_same, times-without_other, length-no_lists, list_at-no_lists, times-no_lists, stands, split}
use Rattle.its_links.proofs.WalkLaws.{last, last_in, walk_last, walk_same, walk_split, joined, cut, walked_is}
use Rattle.its_links.proofs.RingLaws.{link-alone}

-- the list of one head is set
walk_set : (g : ℕ → ℕ) (n : ℕ) (lists : List (List ℕ)) (h : ℕ) (l : List ℕ) → h < length lists → Walk g (n + h) l (n + h)
    → ((k : ℕ) → k < length lists → k ≢ h → Walk g (n + k) (list_at lists k) (n + k))
    → (k : ℕ) → k < length (slice_set lists h l) → Walk g (n + k) (list_at (slice_set lists h l) k) (n + k)
walk_set g n lists h l lt w others k less = elim (cases_eq k h) [
  | inl e ↦ subst (λ j. Walk g (n + j) (list_at (slice_set lists h l) j) (n + j)) (sym e)
      (subst (λ m. Walk g (n + h) m (n + h)) (sym (get_or-set_same lists h l [] lt)) w)
  | inr ne ↦ let s = length-set lists h l in subst (λ m. Walk g (n + k) m (n + k)) (sym (get_or-set_other lists h k l [] ne)) (others k (omega arith) ne)
]

module _ (n : ℕ) (f : ℕ → ℕ) (lists : List (List ℕ)) (a : Agrees n f lists) where
  -- what is no node is in no list
  pub gone : (y : ℕ) → n ≤ y → times y lists ≡ 0
  gone y ge = elim (cases_lt 0 (times y lists)) [
    | inl lt ↦ let b = a.below y lt in absurd (omega arith)
    | inr le ↦ omega arith
  ]

  pub ring_once : (h y : ℕ) → count y ((n + h) ∷ list_at lists h) ≤ 1
  ring_once h y =
      let le = count-le-times y lists h in
      let o = a.once y in
      elim (cases_lt y n) [
        | inl lt ↦ let z = hit_other y (n + h) (λ e. omega arith) in omega arith
        | inr ge ↦ let z = hit_le y (n + h) in let g = gone y ge in omega arith
      ]

  pub rings_apart : (h k y : ℕ) → h ≢ k → count y ((n + h) ∷ list_at lists h) + count y ((n + k) ∷ list_at lists k) ≤ 1
  rings_apart h k y ne =
      let two = two-le-times y lists h k ne in
      let o = a.once y in
      elim (cases_lt y n) [
        | inl lt ↦
            let z = hit_other y (n + h) (λ e. omega arith) in
            let w = hit_other y (n + k) (λ e. omega arith) in
            omega arith
        | inr ge ↦
            let g = gone y ge in
            let z = hit_le y (n + h) in
            let w = hit_le y (n + k) in
            elim (cases_eq y (n + h)) [
              | inl e ↦ let v = hit_other y (n + k) (λ q. ne (omega arith)) in omega arith
              | inr other ↦ let v = hit_other y (n + h) other in omega arith
            ]
      ]

  -- a node in no list is not the last of a ring
  not_last : (h : ℕ) (xs : List ℕ) (y : ℕ) → y < n → count y xs ≡ 0 → y ≢ last (n + h) xs
  not_last h xs y lt none e =
      let i = last_in (n + h) xs in
      let c = ap (λ z. count z ((n + h) ∷ xs)) e in
      let o = hit_other y (n + h) (λ q. omega arith) in
      omega arith

  pub last_below : (h m : ℕ) (xs : List ℕ) → n + h < m → n ≤ m → ((y : ℕ) → 0 < count y xs → 0 < count y (list_at lists h)) → last (n + h) xs < m
  last_below h m xs lt le part =
      let l = last (n + h) xs in
      let i = last_in (n + h) xs in
      elim (cases_lt l m) [
        | inl less ↦ less
        | inr ge ↦
            let o = hit_other l (n + h) (λ q. omega arith) in
            let p = part l (omega arith) in
            let c = count-le-times l lists h in
            let b = a.below l (omega arith) in
            absurd (omega arith)
      ]

  untouched : (g : ℕ → ℕ) (p q k : ℕ) → Exchanged f g p q → k < length lists → count p ((n + k) ∷ list_at lists k) ≡ 0
      → count q ((n + k) ∷ list_at lists k) ≡ 0
      → Walk g (n + k) (list_at lists k) (n + k)
  untouched g p q k x lt np nq =
      walk_same f g (n + k) (list_at lists k) (n + k) (a.walks k lt)
      (λ y less. x.others y (λ e. let c = ap (λ z. count z ((n + k) ∷ list_at lists k)) e in omega arith)
      (λ e. let c = ap (λ z. count z ((n + k) ∷ list_at lists k)) e in omega arith))

  -- what leads to a number is the element before it
  pub last_is : (h m p : ℕ) → h < length lists → n + h < m → n ≤ m → ((r : ℕ) → r < m → f r ≡ n + h → r ≡ p) → last (n + h) (list_at lists h) ≡ p
  last_is h m p lt less le only =
      only (last (n + h) (list_at lists h)) (last_below h m (list_at lists h) less le (λ y some. some))
      (walk_last f (n + h) (list_at lists h) (n + h) (a.walks h lt))

  pub before_is : (h m p x : ℕ) (xs ys : List ℕ) → h < length lists → n + h < m → n ≤ m → list_at lists h ≡ xs ++ x ∷ ys
      → ((r : ℕ) → r < m → f r ≡ x → r ≡ p) → last (n + h) xs ≡ p
  before_is h m p x xs ys lt less le is only =
      only (last (n + h) xs) (last_below h m xs less le (λ y some. let c = ap (λ l. count y l) is in let d = count-append y xs (x ∷ ys) in omega arith))
      (walk_last f (n + h) xs x (walk_split f (n + h) xs x ys (n + h) (subst (λ l. Walk f (n + h) l (n + h)) is (a.walks h lt))).0)

  -- a node at the end of a list
  pub pushed_counts : (h x y : ℕ) → h < length lists → times y (slice_set lists h (list_at lists h ++ x ∷ [])) ≡ times y lists + hit y x
  pushed_counts h x y lt =
      let t = times-set y lists h (list_at lists h ++ x ∷ []) lt in
      let c = count-append y (list_at lists h) (x ∷ []) in
      omega arith

  pub pushed : (g : ℕ → ℕ) (h x : ℕ) → h < length lists → x < n → times x lists ≡ 0 → Exchanged f g (last (n + h) (list_at lists h)) x
      → Agrees n g (slice_set lists h (list_at lists h ++ x ∷ []))
  pushed g h x lt less none e = record {
    walks = walk_set g n lists h (list_at lists h ++ x ∷ []) lt
        (joined f g (n + h) (list_at lists h) x [] (a.walks h lt) (a.free x less none) e (λ y.
        let o = ring_once h y in
        let c = count-le-times x lists h in
        let w = hit_other x (n + h) (λ q. omega arith) in
        elim (cases_eq y x) [
          | inl q ↦ let s = hit_le y x in let k = ap (λ z. count z ((n + h) ∷ list_at lists h)) q in omega arith
          | inr ne ↦ let s = hit_other y x ne in omega arith
        ]))
        (λ k at ne. untouched g (last (n + h) (list_at lists h)) x k e at
        (let l = last_in (n + h) (list_at lists h) in let r = rings_apart h k (last (n + h) (list_at lists h)) (λ q. ne (sym q)) in omega arith)
        (let c = count-le-times x lists k in let w = hit_other x (n + k) (λ q. omega arith) in omega arith));
    once = λ y.
        let c = pushed_counts h x y lt in
        let o = a.once y in
        elim (cases_eq y x) [
          | inl q ↦ let s = hit_le y x in let k = ap (λ z. times z lists) q in omega arith
          | inr ne ↦ let s = hit_other y x ne in omega arith
        ];
    below = λ y some.
        let c = pushed_counts h x y lt in
        let b = a.below y in
        elim (cases_eq y x) [
          | inl q ↦ omega arith
          | inr ne ↦ let s = hit_other y x ne in omega arith
        ];
    free = λ y at zero.
        let c = pushed_counts h x y lt in
        let le = count-le-times y lists h in
        e.others y (not_last h (list_at lists h) y at (omega arith))
        (λ q. let s = hit_same x in let k = ap (λ z. hit z x) q in omega arith)
        ∙ a.free y at (omega arith);
  }

  -- a node that leaves a list
  pub unlinked : (g : ℕ → ℕ) (h x : ℕ) (xs ys : List ℕ) → h < length lists → list_at lists h ≡ xs ++ x ∷ ys
      → Exchanged f g (last (n + h) xs) x → Agrees n g (map (without x) lists)
  unlinked g h x xs ys lt is e =
      let ring = subst (λ l. Walk f (n + h) l (n + h)) is (a.walks h lt) in
      let once : (y : ℕ) → count y ((n + h) ∷ (xs ++ x ∷ ys)) ≤ 1 = λ y. let o = ring_once h y in let c = ap (λ l. count y l) is in omega arith in
      let at : f (last (n + h) xs) ≡ x = walk_last f (n + h) xs x (walk_split f (n + h) xs x ys (n + h) ring).0 in
      record {
        walks = λ k less. subst (λ m. Walk g (n + k) m (n + k)) (sym (list_at-without x lists k)) (elim (cases_eq k h) [
          | inl q ↦
              subst (λ j. Walk g (n + j) (without x (list_at lists j)) (n + j)) (sym q)
              (subst (λ m. Walk g (n + h) (without x m) (n + h)) (sym is)
              (subst (λ m. Walk g (n + h) m (n + h)) (sym (without_split x xs ys (let o = once x in omega arith)))
              (cut f g (n + h) xs x ys (n + h) ring e once)))
          | inr ne ↦
              let p = last (n + h) xs in
              let l = last_in (n + h) xs in
              let r = rings_apart h k p (λ q. ne (sym q)) in
              let c = ap (λ l. count p l) is in
              let d = count-append p xs (x ∷ ys) in
              let r' = rings_apart h k x (λ q. ne (sym q)) in
              let c' = ap (λ l. count x l) is in
              let d' = count-append x xs (x ∷ ys) in
              let s = hit_same x in
              let m = length-map lists (without x) in
              subst (λ m. Walk g (n + k) m (n + k)) (sym (without_none x (list_at lists k) (omega arith)))
              (untouched g p x k e (omega arith) (omega arith) (omega arith))
        ]);
        once = λ y. let o = a.once y in elim (cases_eq y x) [
          | inl q ↦ let z = times-without_same x lists in let k = ap (λ z. times z (map (without x) lists)) q in omega arith
          | inr ne ↦ let z = times-without_other x y lists ne in omega arith
        ];
        below = λ y some. let b = a.below y in elim (cases_eq y x) [
          | inl q ↦ let z = times-without_same x lists in let k = ap (λ z. times z (map (without x) lists)) q in absurd (omega arith)
          | inr ne ↦ let z = times-without_other x y lists ne in omega arith
        ];
        free = λ y less zero. elim (cases_eq y x) [
          | inl q ↦ ap g q ∙ e.at_q ∙ at ∙ sym q
          | inr ne ↦
              let z = times-without_other x y lists ne in
              let le = count-le-times y lists h in
              let c = ap (λ l. count y l) is in
              let d = count-append y xs (x ∷ ys) in
              e.others y (not_last h xs y less (omega arith)) ne ∙ a.free y less (omega arith)
        ];
      }

  -- one list after another
  pub spliced_counts : (s t y : ℕ) → s < length lists → t < length lists → s ≢ t
      → times y (slice_set (slice_set lists t (list_at lists t ++ list_at lists s)) s []) ≡ times y lists
  spliced_counts s t y ls lt ne =
      let u = times-set y lists t (list_at lists t ++ list_at lists s) lt in
      let l = length-set lists t (list_at lists t ++ list_at lists s) in
      let v = times-set y (slice_set lists t (list_at lists t ++ list_at lists s)) s [] (omega arith) in
      let o = ap (λ m. count y m) (get_or-set_other lists t s (list_at lists t ++ list_at lists s) [] ne) in
      let c = count-append y (list_at lists t) (list_at lists s) in
      omega arith

  pub spliced : (g k : ℕ → ℕ) (s t : ℕ) → s < length lists → t < length lists → s ≢ t
      → Exchanged f g (last (n + t) (list_at lists t)) (last (n + s) (list_at lists s)) → Exchanged g k (last (n + t) (list_at lists t)) (n + s)
      → Agrees n k (slice_set (slice_set lists t (list_at lists t ++ list_at lists s)) s [])
  spliced g k s t ls lt ne x z =
      let seam = last (n + t) (list_at lists t) in
      let end = last (n + s) (list_at lists s) in
      let in_seam = last_in (n + t) (list_at lists t) in
      let in_end = last_in (n + s) (list_at lists s) in
      let whole = joined f g (n + t) (list_at lists t) (n + s) (list_at lists s) (a.walks t lt) (a.walks s ls) x (λ y. rings_apart t s y (λ q. ne (sym q))) in
      let once : (y : ℕ) → count y ((n + t) ∷ (list_at lists t ++ (n + s) ∷ list_at lists s)) ≤ 1 = λ y.
      let c = count-append y (list_at lists t) ((n + s) ∷ list_at lists s) in let r = rings_apart t s y (λ q. ne (sym q)) in omega arith in
      let there = cut g k (n + t) (list_at lists t) (n + s) (list_at lists s) (n + t) whole z once in
      let empty : k (n + s) ≡ n + s = z.at_q ∙ x.at_p ∙ walk_last f (n + s) (list_at lists s) (n + s) (a.walks s ls) in
      let l = length-set lists t (list_at lists t ++ list_at lists s) in
      record {
        walks = walk_set k n (slice_set lists t (list_at lists t ++ list_at lists s)) s [] (omega arith) empty (λ j less other.
            walk_set_other k t s j lt there (λ i at ni nj.
            let r = rings_apart t i seam (λ q. ni (sym q)) in
            let r' = rings_apart s i end (λ q. nj (sym q)) in
            let r'' = rings_apart s i (n + s) (λ q. nj (sym q)) in
            let h = hit_same (n + s) in
            walk_same g k (n + i) (list_at lists i) (n + i) (untouched g seam end i x at (omega arith) (omega arith))
            (λ y some. z.others y (λ e. let c = ap (λ w. count w ((n + i) ∷ list_at lists i)) e in omega arith)
            (λ e. let c = ap (λ w. count w ((n + i) ∷ list_at lists i)) e in omega arith)))
            (omega arith) other);
        once = λ y. let c = spliced_counts s t y ls lt ne in let o = a.once y in omega arith;
        below = λ y some. let c = spliced_counts s t y ls lt ne in a.below y (omega arith);
        free = λ y less zero.
            let c = spliced_counts s t y ls lt ne in
            let u = count-le-times y lists s in
            let v = count-le-times y lists t in
            let no = not_last t (list_at lists t) y less (omega arith) in
            z.others y no (λ q. omega arith) ∙ x.others y no (not_last s (list_at lists s) y less (omega arith)) ∙ a.free y less (omega arith);
      }
    where
      walk_set_other : (k : ℕ → ℕ) (t s j : ℕ) → t < length lists → Walk k (n + t) (list_at lists t ++ list_at lists s) (n + t)
          → ((i : ℕ) → i < length lists → i ≢ t → i ≢ s → Walk k (n + i) (list_at lists i) (n + i))
          → j < length lists → j ≢ s → Walk k (n + j) (list_at (slice_set lists t (list_at lists t ++ list_at lists s)) j) (n + j)
      walk_set_other k t s j lt w others less ne = elim (cases_eq j t) [
        | inl e ↦ subst (λ i. Walk k (n + i) (list_at (slice_set lists t (list_at lists t ++ list_at lists s)) i) (n + i)) (sym e)
            (subst (λ m. Walk k (n + t) m (n + t)) (sym (get_or-set_same lists t (list_at lists t ++ list_at lists s) [] lt)) w)
        | inr other ↦ subst (λ m. Walk k (n + j) m (n + j)) (sym (get_or-set_other lists t j (list_at lists t ++ list_at lists s) [] other))
            (others j less other ne)
      ]

  -- a list holds no node twice, so what follows a node is another
  follows : (x : ℕ) (ys : List ℕ) (b : ℕ) → Walk f x ys b → x ≢ b → count x (x ∷ ys) ≤ 1 → f x ≢ x
  follows x [] b w ne once e = ne (sym e ∙ w)
  follows x (y ∷ ys) b w ne once e = let h = hit_same x in let k = ap (λ z. hit x z) (sym e ∙ w.0) in omega arith

  pub moves : (x : ℕ) → 0 < times x lists → f x ≢ x
  moves x some =
      let s = stands x lists some in
      let p = split x (list_at lists s.head) s.here in
      let w = walk_split f (n + s.head) p.front x p.back (n + s.head) (subst (λ l. Walk f (n + s.head) l (n + s.head)) p.is (a.walks s.head s.within)) in
      let c = ap (λ l. count x l) p.is in
      let d = count-append x p.front (x ∷ p.back) in
      let le = count-le-times x lists s.head in
      let o = a.once x in
      let b = a.below x some in
      follows x p.back (n + s.head) w.1 (λ e. omega arith) (omega arith)

  -- what follows a node is a node exactly if a list goes on
  pub first_is : (y : ℕ) (xs : List ℕ) (b : ℕ) (r : Option ℕ) → Walk f y xs b → n ≤ b → ((z : ℕ) → 0 < count z xs → z < n)
      → (f y < n → r ≡ Some (f y)) → (n ≤ f y → r ≡ None) → r ≡ first xs
  first_is y [] b r w le below some none = none (omega arith)
  first_is y (x ∷ xs) b r w le below some none = let h = hit_same x in let l = below x (omega arith) in let e = w.0 in some (omega arith) ∙ ap Some e

  -- no list has more nodes than there are
  pub few : (h : ℕ) → length (list_at lists h) ≤ n
  few h = short n (list_at lists h)
      (λ y. let c = count-le-times y lists h in let o = a.once y in omega arith)
      (λ y some. let c = count-le-times y lists h in a.below y (omega arith))

-- the view of links is the lists that they agree with
pub viewed : (n : ℕ) (next : List ℕ) (lists : List (List ℕ)) → n + length lists ≡ length next → Agrees n (link next) lists
    → linked_in n next ≡ record { nodes = n; lists = lists }
unfolding linked_in lists_of
viewed n next lists total a =
    let m = length next - n in
    let e : m ≡ length lists = omega arith in
    let each = λ (h : ℕ). walked (link next) n (link next (n + h)) (n + h) in
    let l = length-map-range_with_len each 0 m in
    ap (λ ls. record { nodes = n; lists = ls })
    (ext_get_or [] (map each (range_with_len 0 m)) lists (omega arith) (λ h lt.
    get_or-map-range_with_len each 0 m h h [] (omega arith) (omega arith)
    ∙ walked_is (link next) (n + h) (list_at lists h) (n + h) n (a.walks h (omega arith))
    (let c = count-le-times (n + h) lists h in let g = gone n (link next) lists a (n + h) (omega arith) in omega arith)
    (few n (link next) lists a h)))

-- at the start no list has a node
pub none : (n m : ℕ) → Agrees n (link (alone (n + m))) (no_lists m)
none n m =
    let l = length-no_lists m in
    record {
      walks = λ h lt. subst (λ xs. Walk (link (alone (n + m))) (n + h) xs (n + h)) (sym (list_at-no_lists m h)) (link-alone (n + m) (n + h) (omega arith));
      once = λ x. let t = times-no_lists x m in omega arith;
      below = λ x some. let t = times-no_lists x m in absurd (omega arith);
      free = λ x lt zero. link-alone (n + m) x (omega arith);
    }
