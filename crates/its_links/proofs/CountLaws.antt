-- How often a node is in lists that are set, joined or cut.
use Rattle.std.specs.Prelude.{◌≡◌, ◌≢◌, ◌<◌, ◌≤◌, ℕ, zero, suc, ◌+◌, cond, Some, List, [], ◌∷◌, ◌++◌, length, map, slice_set, refl}
use Rattle.std.proofs.Common.{sym, ◌∙◌, ap, inl, inr, arith, length-set}
use Rattle.std.proofs.lemmas.Bool.{cases_eq, cases_lt, eq-eqb, ne_eqb}
use Rattle.std.proofs.lemmas.List.{length-replicate, get_or-replicate, get_or_past, get_or-set_same, get_or-set_other, ext_get_or, length-map}
use Rattle.its_links.specs.Lists.{list_at, hit, count, times, without, first, rest, no_lists}

pub hit_same : (x : ℕ) → hit x x ≡ 1
unfolding hit
hit_same x = ap (λ b. cond {A = ℕ} b 1 0) (eq-eqb x x refl)

pub hit_other : (x y : ℕ) → x ≢ y → hit x y ≡ 0
unfolding hit
hit_other x y ne = ap (λ b. cond {A = ℕ} b 1 0) (ne_eqb x y ne)

pub hit_le : (x y : ℕ) → hit x y ≤ 1
hit_le x y = elim (cases_eq x y) [
  | inl e ↦ let h = hit_same x in let k = ap (λ z. hit x z) e in omega arith
  | inr ne ↦ let h = hit_other x y ne in omega arith
]

pub count-append : (x : ℕ) (xs ys : List ℕ) → count x (xs ++ ys) ≡ count x xs + count x ys
count-append x [] ys = omega arith
count-append x (z ∷ zs) ys = let r = count-append x zs ys in omega arith

-- the place of a node in a list
pub record Split (x : ℕ) (l : List ℕ) : Type 0 where
  pub front : List ℕ
  pub back : List ℕ
  pub is : l ≡ front ++ x ∷ back

pub split : (x : ℕ) (l : List ℕ) → 0 < count x l → Split x l
split x [] h = absurd (omega arith)
split x (y ∷ ys) h = elim (cases_eq x y) [
  | inl e ↦ record { front = []; back = ys; is = ap (λ z. z ∷ ys) (sym e) }
  | inr ne ↦
      let k = hit_other x y ne in
      let r = split x ys (omega arith) in
      record { front = y ∷ r.front; back = r.back; is = ap (λ zs. y ∷ zs) r.is }
]

-- which list a node is in
pub record Stands (x : ℕ) (ls : List (List ℕ)) : Type 0 where
  pub head : ℕ
  pub within : head < length ls
  pub here : 0 < count x (list_at ls head)

pub stands : (x : ℕ) (ls : List (List ℕ)) → 0 < times x ls → Stands x ls
stands x [] h = absurd (omega arith)
stands x (l ∷ ls) h = elim (cases_lt 0 (count x l)) [
  | inl lt ↦ record { head = 0; within = omega arith; here = lt }
  | inr ge ↦ let r = stands x ls (omega arith) in record { head = suc r.head; within = let w = r.within in omega arith; here = r.here }
]

pub times-set : (x : ℕ) (ls : List (List ℕ)) (h : ℕ) (l : List ℕ) → h < length ls
    → times x (slice_set ls h l) + count x (list_at ls h) ≡ times x ls + count x l
times-set x [] h l lt = absurd (omega arith)
times-set x (k ∷ ks) zero l lt = omega arith
times-set x (k ∷ ks) (suc h) l lt = let r = times-set x ks h l (omega arith) in omega arith

pub count-le-times : (x : ℕ) (ls : List (List ℕ)) (h : ℕ) → count x (list_at ls h) ≤ times x ls
count-le-times x [] h = omega arith
count-le-times x (l ∷ ls) zero = omega arith
count-le-times x (l ∷ ls) (suc h) = let r = count-le-times x ls h in omega arith

pub two-le-times : (x : ℕ) (ls : List (List ℕ)) (h k : ℕ) → h ≢ k → count x (list_at ls h) + count x (list_at ls k) ≤ times x ls
two-le-times x [] h k ne = omega arith
two-le-times x (l ∷ ls) zero zero ne = absurd (ne refl)
two-le-times x (l ∷ ls) zero (suc k) ne = let r = count-le-times x ls k in omega arith
two-le-times x (l ∷ ls) (suc h) zero ne = let r = count-le-times x ls h in omega arith
two-le-times x (l ∷ ls) (suc h) (suc k) ne = let r = two-le-times x ls h k (λ e. ne (ap suc e)) in omega arith

-- a list without a node
pub count-without_same : (x : ℕ) (ys : List ℕ) → count x (without x ys) ≡ 0
count-without_same x [] = refl
count-without_same x (y ∷ ys) = let r = count-without_same x ys in elim (cases_eq x y) [
  | inl e ↦ rw (eq-eqb x y e) r
  | inr ne ↦ let h = hit_other x y ne in rw (ne_eqb x y ne) (omega arith)
]

pub count-without_other : (x z : ℕ) (ys : List ℕ) → z ≢ x → count z (without x ys) ≡ count z ys
count-without_other x z [] ne = refl
count-without_other x z (y ∷ ys) ne = let r = count-without_other x z ys ne in elim (cases_eq x y) [
  | inl e ↦ let h = hit_other z y (λ q. ne (q ∙ sym e)) in rw (eq-eqb x y e) (omega arith)
  | inr other ↦ rw (ne_eqb x y other) (omega arith)
]

pub length-without : (x : ℕ) (ys : List ℕ) → length (without x ys) + count x ys ≡ length ys
length-without x [] = omega arith
length-without x (y ∷ ys) = let r = length-without x ys in elim (cases_eq x y) [
  | inl e ↦ let h = hit_same x in let k = ap (λ z. hit x z) e in rw (eq-eqb x y e) (omega arith)
  | inr ne ↦ let h = hit_other x y ne in rw (ne_eqb x y ne) (omega arith)
]

pub without_none : (x : ℕ) (ys : List ℕ) → count x ys ≡ 0 → without x ys ≡ ys
without_none x [] h = refl
without_none x (y ∷ ys) h = elim (cases_eq x y) [
  | inl e ↦ let s = hit_same x in let k = ap (λ z. hit x z) e in absurd (omega arith)
  | inr ne ↦ rw (ne_eqb x y ne) (ap (λ zs. y ∷ zs) (without_none x ys (omega arith)))
]

pub without_split : (x : ℕ) (xs ys : List ℕ) → count x (xs ++ x ∷ ys) ≤ 1 → without x (xs ++ x ∷ ys) ≡ xs ++ ys
without_split x [] ys h = let s = hit_same x in rw (eq-eqb x x refl) (without_none x ys (omega arith))
without_split x (z ∷ zs) ys h = elim (cases_eq x z) [
  | inl e ↦
      let s = hit_same x in
      let k = ap (λ z. hit x z) e in
      let a = count-append x zs (x ∷ ys) in
      absurd (omega arith)
  | inr ne ↦ rw (ne_eqb x z ne) (ap (λ ws. z ∷ ws) (without_split x zs ys (omega arith)))
]

pub list_at-without : (x : ℕ) (ls : List (List ℕ)) (h : ℕ) → list_at (map (without x) ls) h ≡ without x (list_at ls h)
list_at-without x [] h = refl
list_at-without x (l ∷ ls) zero = refl
list_at-without x (l ∷ ls) (suc h) = list_at-without x ls h

pub times-without_same : (x : ℕ) (ls : List (List ℕ)) → times x (map (without x) ls) ≡ 0
times-without_same x [] = refl
times-without_same x (l ∷ ls) = let a = count-without_same x l in let r = times-without_same x ls in omega arith

pub times-without_other : (x z : ℕ) (ls : List (List ℕ)) → z ≢ x → times z (map (without x) ls) ≡ times z ls
times-without_other x z [] ne = refl
times-without_other x z (l ∷ ls) ne = let a = count-without_other x z l ne in let r = times-without_other x z ls ne in omega arith

-- if only one list has a node, to take it out of all is to take it out of that one
pub without_one : (x : ℕ) (ls : List (List ℕ)) (h : ℕ) → h < length ls → ((k : ℕ) → k ≢ h → count x (list_at ls k) ≡ 0)
    → map (without x) ls ≡ slice_set ls h (without x (list_at ls h))
without_one x ls h lt others =
    let l = without x (list_at ls h) in
    let a = length-map ls (without x) in
    let b = length-set ls h l in
    ext_get_or [] (map (without x) ls) (slice_set ls h l) (omega arith) (λ k less. list_at-without x ls k ∙ elim (cases_eq k h) [
      | inl e ↦ ap (λ j. without x (list_at ls j)) e ∙ sym (ap (λ j. list_at (slice_set ls h l) j) e ∙ get_or-set_same ls h l [] lt)
      | inr ne ↦ without_none x (list_at ls k) (others k ne) ∙ sym (get_or-set_other ls h k l [] ne)
    ])

-- a node that occurs once leaves a list
pub count-without : (x y : ℕ) (ys : List ℕ) → count y ys ≡ 1 → count x (without y ys) + hit x y ≡ count x ys
count-without x y ys once = elim (cases_eq x y) [
  | inl e ↦
      let s = count-without_same y ys in
      let h = hit_same y in
      let k = ap (λ z. hit z y) e in
      let c = ap (λ z. count z ys) e in
      let d = ap (λ z. count z (without y ys)) e in
      omega arith
  | inr ne ↦ let c = count-without_other y x ys ne in let h = hit_other x y ne in omega arith
]

-- the first node of a list, and the rest
pub count_first : (x y : ℕ) (ys : List ℕ) → first ys ≡ Some y → count x ys ≡ hit x y + count x (rest ys)
count_first x y [] e = absurd (cc)
count_first x y (z ∷ zs) e = let q : z ≡ y = cc in let h = ap (λ w. hit x w) q in omega arith

-- numbers below n, each once at most, are no more than n
pub short : (n : ℕ) (xs : List ℕ) → ((y : ℕ) → count y xs ≤ 1) → ((y : ℕ) → 0 < count y xs → y < n) → length xs ≤ n
short zero [] once below = omega arith
short zero (x ∷ xs) once below = let h = hit_same x in let b = below x (omega arith) in absurd (omega arith)
short (suc n) xs once below =
    let l = length-without n xs in
    let o = once n in
    let same = count-without_same n xs in
    let r = short n (without n xs)
    (λ y. elim (cases_eq y n) [
      | inl e ↦ let c = ap (λ z. count z (without n xs)) e in omega arith
      | inr ne ↦ let c = count-without_other n y xs ne in let o = once y in omega arith
    ])
    (λ y h. elim (cases_eq y n) [
      | inl e ↦ let c = ap (λ z. count z (without n xs)) e in absurd (omega arith)
      | inr ne ↦ let c = count-without_other n y xs ne in let b = below y (omega arith) in omega arith
    ]) in
    omega arith

-- no list has a node
pub length-no_lists : (m : ℕ) → length (no_lists m) ≡ m
unfolding no_lists
length-no_lists m = length-replicate m []

pub list_at-no_lists : (m h : ℕ) → list_at (no_lists m) h ≡ []
unfolding no_lists
list_at-no_lists m h = elim (cases_lt h m) [
  | inl lt ↦ get_or-replicate m h [] [] lt
  | inr ge ↦ let l = length-no_lists m in get_or_past (no_lists m) h [] (omega arith)
]

pub times-no_lists : (x m : ℕ) → times x (no_lists m) ≡ 0
times-no_lists x m = elim (cases_lt 0 (times x (no_lists m))) [
  | inl lt ↦ let s = stands x (no_lists m) lt in let c = ap (λ l. count x l) (list_at-no_lists m s.head) in let h = s.here in absurd (omega arith)
  | inr ge ↦ omega arith
]

-- what a caller needs of the lists from the start on
pub ruleset lists = (hit_same, hit_other, length-no_lists, list_at-no_lists, times-no_lists)
