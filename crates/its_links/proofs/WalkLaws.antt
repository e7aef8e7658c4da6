-- Walks along links that change at two places.
use Rattle.std.specs.Prelude.{◌≡◌, ◌≢◌, ◌<◌, ◌≤◌, ℕ, zero, suc, ◌+◌, List, [], ◌∷◌, ◌++◌, length, refl}
use Rattle.std.proofs.Common.{◌∙◌, ap, arith}
use Rattle.std.proofs.lemmas.Bool.{eq-eqb, ne_eqb}
use Rattle.std.proofs.lemmas.List.{append-nil}
use Rattle.its_links.specs.Lists.{count, hit}
use Rattle.its_links.specs.Rings.{Walk, walked, Exchanged}
use Rattle.its_links.proofs.CountLaws.{hit_same, count-append}

-- the last of a and a list after it
abbrev pub last : ℕ → List ℕ → ℕ
last a [] = a
last a (x ∷ xs) = last x xs

pub last_in : (a : ℕ) (xs : List ℕ) → 0 < count (last a xs) (a ∷ xs)
last_in a [] = let h = hit_same a in omega arith
last_in a (x ∷ xs) = let r = last_in x xs in omega arith

pub walk_last : (f : ℕ → ℕ) (a : ℕ) (xs : List ℕ) (b : ℕ) → Walk f a xs b → f (last a xs) ≡ b
walk_last f a [] b w = w
walk_last f a (x ∷ xs) b w = walk_last f x xs b w.1

pub walk_same : (f g : ℕ → ℕ) (a : ℕ) (xs : List ℕ) (b : ℕ) → Walk f a xs b → ((y : ℕ) → 0 < count y (a ∷ xs) → g y ≡ f y) → Walk g a xs b
walk_same f g a [] b w same = let h = hit_same a in same a (omega arith) ∙ w
walk_same f g a (x ∷ xs) b w same =
    let h = hit_same a in
    (same a (omega arith) ∙ w.0, walk_same f g x xs b w.1 (λ y less. same y (omega arith)))

-- the last link leads elsewhere
pub walk_relinked : (f g : ℕ → ℕ) (a : ℕ) (xs : List ℕ) (b c : ℕ) → Walk f a xs b → g (last a xs) ≡ c
    → ((y : ℕ) → y ≢ last a xs → 0 < count y (a ∷ xs) → g y ≡ f y)
    → ((y : ℕ) → count y (a ∷ xs) ≤ 1) → Walk g a xs c
walk_relinked f g a [] b c w e same once = e
walk_relinked f g a (x ∷ xs) b c w e same once =
    let h = hit_same a in
    let ne : a ≢ last x xs = λ q. let l = last_in x xs in let o = once a in let k = ap (λ z. count z (x ∷ xs)) q in omega arith in
    (same a ne (omega arith) ∙ w.0, walk_relinked f g x xs b c w.1 e (λ y n less. same y n (omega arith)) (λ y. let o = once y in omega arith))

pub walk_split : (f : ℕ → ℕ) (a : ℕ) (xs : List ℕ) (x : ℕ) (ys : List ℕ) (b : ℕ) → Walk f a (xs ++ x ∷ ys) b → Walk f a xs x × Walk f x ys b
walk_split f a [] x ys b w = (w.0, w.1)
walk_split f a (z ∷ zs) x ys b w = let r = walk_split f z zs x ys b w.1 in ((w.0, r.0), r.1)

pub walk_join : (f : ℕ → ℕ) (a : ℕ) (xs : List ℕ) (x : ℕ) (ys : List ℕ) (b : ℕ) → Walk f a xs x → Walk f x ys b → Walk f a (xs ++ x ∷ ys) b
walk_join f a [] x ys b u v = (u, v)
walk_join f a (z ∷ zs) x ys b u v = (u.0, walk_join f z zs x ys b u.1 v)

-- two rings become one
pub joined : (f g : ℕ → ℕ) (d : ℕ) (xs : List ℕ) (e : ℕ) (ys : List ℕ) → Walk f d xs d → Walk f e ys e → Exchanged f g (last d xs) (last e ys)
    → ((y : ℕ) → count y (d ∷ xs) + count y (e ∷ ys) ≤ 1) → Walk g d (xs ++ e ∷ ys) d
joined f g d xs e ys u v x apart =
    walk_join g d xs e ys d
    (walk_relinked f g d xs d e u (x.at_p ∙ walk_last f e ys e v)
    (λ y n less. x.others y n (λ q. let l = last_in e ys in let o = apart y in let k = ap (λ z. count z (e ∷ ys)) q in omega arith))
    (λ y. let o = apart y in omega arith))
    (walk_relinked f g e ys e d v (x.at_q ∙ walk_last f d xs d u)
    (λ y n less. x.others y (λ q. let l = last_in d xs in let o = apart y in let k = ap (λ z. count z (d ∷ xs)) q in omega arith) n)
    (λ y. let o = apart y in omega arith))

-- one number leaves
pub cut : (f g : ℕ → ℕ) (a : ℕ) (xs : List ℕ) (x : ℕ) (ys : List ℕ) (b : ℕ) → Walk f a (xs ++ x ∷ ys) b → Exchanged f g (last a xs) x
    → ((y : ℕ) → count y (a ∷ (xs ++ x ∷ ys)) ≤ 1) → Walk g a (xs ++ ys) b
cut f g a xs x [] b w e once =
    let s = walk_split f a xs x [] b w in
    let same : (y : ℕ) → y ≢ last a xs → 0 < count y (a ∷ xs) → g y ≡ f y = λ y n less. e.others y n (λ q.
    let o = once y in let c = count-append y xs (x ∷ []) in let h = hit_same x in let k = ap (λ z. hit z x) q in omega arith) in
    let r = walk_relinked f g a xs x b s.0 (e.at_p ∙ s.1) same (λ y. let o = once y in let c = count-append y xs (x ∷ []) in omega arith) in
    rw append-nil r
cut f g a xs x (z ∷ zs) b w e once =
    let s = walk_split f a xs x (z ∷ zs) b w in
    let same : (y : ℕ) → y ≢ last a xs → 0 < count y (a ∷ xs) → g y ≡ f y = λ y n less. e.others y n (λ q.
    let o = once y in let c = count-append y xs (x ∷ z ∷ zs) in let h = hit_same x in let k = ap (λ z. hit z x) q in omega arith) in
    let more : (y : ℕ) → 0 < count y (z ∷ zs) → g y ≡ f y = λ y less. e.others y
    (λ q. let o = once y in let c = count-append y xs (x ∷ z ∷ zs) in let l = last_in a xs in let k = ap (λ z. count z (a ∷ xs)) q in omega arith)
    (λ q. let o = once y in let c = count-append y xs (x ∷ z ∷ zs) in let h = hit_same x in let k = ap (λ z. hit z x) q in omega arith) in
    walk_join g a xs z zs b
    (walk_relinked f g a xs x z s.0 (e.at_p ∙ s.1.0) same (λ y. let o = once y in let c = count-append y xs (x ∷ z ∷ zs) in omega arith))
    (walk_same f g z zs b s.1.1 more)

-- what a walk with fuel finds
pub walked_is : (f : ℕ → ℕ) (a : ℕ) (xs : List ℕ) (b k : ℕ) → Walk f a xs b → count b xs ≡ 0 → length xs ≤ k → walked f k (f a) b ≡ xs
walked_is f a [] b zero w none le = refl
walked_is f a [] b (suc k) w none le = rw (eq-eqb (f a) b w) refl
walked_is f a (x ∷ xs) b zero w none le = absurd (omega arith)
walked_is f a (x ∷ xs) b (suc k) w none le =
    let ne : x ≢ b = λ q. let h = hit_same b in let e = ap (λ z. hit b z) q in omega arith in
    let r = walked_is f x xs b k w.1 (omega arith) (omega arith) in
    let s : walked f (suc k) x b ≡ x ∷ xs = rw (ne_eqb x b ne) (ap (λ zs. x ∷ zs) r) in
    ap (λ z. walked f (suc k) z b) w.0 ∙ s
