-- What each call of Links does to the lists that contracts see.
use Rattle.std.specs.Prelude.{◌≡◌, ◌≢◌, ◌<◌, ◌≤◌, ◌^◌, ℕ, ◌+◌, ◌-◌, Option, Some, None, IfSome, List, [], ◌∷◌, ◌++◌, length, map, slice_set, refl}
use Rattle.std.proofs.Common.{sym, ◌∙◌, ap, subst, inl, inr, arith, length-set}
use Rattle.std.proofs.lemmas.Bool.{cases_lt}
use Rattle.std.proofs.lemmas.List.{length-map, get_or_past}
use Rattle.std.proofs.lemmas.List.FromFn.{length-map-range_with_len}
use Rattle.its_links.specs.Lists.{Linked, list_at, count, times, without, first, rest, no_lists}
use Rattle.its_links.specs.Rings.{link, alone, Exchanged, Walk, walked, lists_of, linked_in, Agrees, IsLinks}
use Rattle.its_links.proofs.CountLaws.{without_one, count_first, hit_same, count-append, count-le-times, two-le-times, without_split, length-no_lists, stands, split}
use Rattle.its_links.proofs.WalkLaws.{last, walk_split}
use Rattle.its_links.proofs.RingLaws.{length-alone}
use Rattle.its_links.proofs.AgreeLaws.{pushed, unlinked, spliced, viewed, last_is, before_is, first_is, few, none}

heads : (n : ℕ) (next : List ℕ) → length (linked_in n next).lists ≡ length next - n
unfolding linked_in lists_of
heads n next = length-map-range_with_len (λ h. walked (link next) n (link next (n + h)) (n + h)) 0 (length next - n)

nodes_in : (n : ℕ) (next : List ℕ) → (linked_in n next).nodes ≡ n
unfolding linked_in
nodes_in n next = refl

-- links seen as lists
pub record Opened (n : ℕ) (next : List ℕ) (v : Linked) : Type 0 where
  pub nodes : v.nodes ≡ n
  pub total : n + length v.lists ≡ length next
  pub fits : length next < 2 ^ 32
  pub agrees : Agrees n (link next) v.lists

pub open_links : (n : ℕ) (next : List ℕ) (v : Linked) → linked_in n next ≡ v → IsLinks n next → Opened n next v
open_links n next v e i =
    let h = heads n next in
    let l = ap (λ x. length x.lists) e in
    let m = i.nodes in
    record {
      nodes = ap (λ x. x.nodes) (sym e) ∙ nodes_in n next;
      total = omega arith;
      fits = i.fits;
      agrees = subst (λ x. Agrees n (link next) x.lists) e i.agrees;
    }

-- new links that are seen as these lists
pub record Closed (n : ℕ) (next : List ℕ) (v : Linked) : Type 0 where
  pub view : linked_in n next ≡ v
  pub invariant : IsLinks n next

pub close_links : (n : ℕ) (next : List ℕ) (k : ℕ) (lists : List (List ℕ)) → k ≡ n → n + length lists ≡ length next → length next < 2 ^ 32
    → Agrees n (link next) lists → Closed n next (record { nodes = k; lists = lists })
close_links n next k lists e total fits a =
    let v = viewed n next lists total a in
    record {
      view = v ∙ ap (λ m. record { nodes = m; lists = lists }) (sym e);
      invariant = record { fits = fits; nodes = omega arith; agrees = subst (λ x. Agrees n (link next) x.lists) (sym v) a };
    }

pub opened_alone : (n m : ℕ) → n + m < 2 ^ 32 → Closed n (alone (n + m)) (record { nodes = n; lists = no_lists m })
opened_alone n m fits =
    let l = length-no_lists m in
    let a = length-alone (n + m) in
    close_links n (alone (n + m)) n (no_lists m) refl (omega arith) (omega arith) (none n m)

module _ (n : ℕ) (next : List ℕ) (v : Linked) (o : Opened n next v) where
  pub push_closed : (more : List ℕ) (h x p : ℕ) → h < length v.lists → x < v.nodes → times x v.lists ≡ 0
      → ((r : ℕ) → r < length next → link next r ≡ n + h → r ≡ p) → length more ≡ length next
      → Exchanged (link next) (link more) p x → Closed n more (record { nodes = v.nodes; lists = slice_set v.lists h (list_at v.lists h ++ x ∷ []) })
  push_closed more h x p lt less apart only same e =
      let t = o.total in
      let f = o.fits in
      let k = o.nodes in
      let l = length-set v.lists h (list_at v.lists h ++ x ∷ []) in
      let is = last_is n (link next) v.lists o.agrees h (length next) p lt (omega arith) (omega arith) only in
      close_links n more v.nodes (slice_set v.lists h (list_at v.lists h ++ x ∷ [])) k (omega arith) (omega arith)
      (pushed n (link next) v.lists o.agrees (link more) h x lt (omega arith) apart (subst (λ q. Exchanged (link next) (link more) q x) (sym is) e))

  pub unlink_closed : (more : List ℕ) (x p : ℕ) → 0 < times x v.lists → ((r : ℕ) → r < length next → link next r ≡ x → r ≡ p) → length more ≡ length next
      → Exchanged (link next) (link more) p x → Closed n more (record { nodes = v.nodes; lists = map (without x) v.lists })
  unlink_closed more x p some only same e =
      let t = o.total in
      let f = o.fits in
      let l = length-map v.lists (without x) in
      let s = stands x v.lists some in
      let at = s.within in
      let c = split x (list_at v.lists s.head) s.here in
      let is = before_is n (link next) v.lists o.agrees s.head (length next) p x c.front c.back at (omega arith) (omega arith) c.is only in
      close_links n more v.nodes (map (without x) v.lists) o.nodes (omega arith) (omega arith)
      (unlinked n (link next) v.lists o.agrees (link more) s.head x c.front c.back at c.is (subst (λ q. Exchanged (link next) (link more) q x) (sym is) e))

  pub splice_closed : (more last_links : List ℕ) (s t p q : ℕ) → s < length v.lists → t < length v.lists → s ≢ t
      → ((r : ℕ) → r < length next → link next r ≡ n + t → r ≡ p)
      → ((r : ℕ) → r < length next → link next r ≡ n + s → r ≡ q) → length more ≡ length next → Exchanged (link next) (link more) p q
      → length last_links ≡ length more
      → Exchanged (link more) (link last_links) p (n + s) → Closed n last_links
      (record { nodes = v.nodes; lists = slice_set (slice_set v.lists t (list_at v.lists t ++ list_at v.lists s)) s [] })
  splice_closed more last_links s t p q ls lt ne only_t only_s same e same_again again =
      let total = o.total in
      let f = o.fits in
      let l = length-set v.lists t (list_at v.lists t ++ list_at v.lists s) in
      let l' = length-set (slice_set v.lists t (list_at v.lists t ++ list_at v.lists s)) s [] in
      let is = last_is n (link next) v.lists o.agrees t (length next) p lt (omega arith) (omega arith) only_t in
      let are = last_is n (link next) v.lists o.agrees s (length next) q ls (omega arith) (omega arith) only_s in
      close_links n last_links v.nodes (slice_set (slice_set v.lists t (list_at v.lists t ++ list_at v.lists s)) s []) o.nodes (omega arith) (omega arith)
      (spliced n (link next) v.lists o.agrees (link more) (link last_links) s t ls lt ne
      (subst (λ a. Exchanged (link next) (link more) a (last (n + s) (list_at v.lists s))) (sym is)
      (subst (λ b. Exchanged (link next) (link more) p b) (sym are) e))
      (subst (λ a. Exchanged (link more) (link last_links) a (n + s)) (sym is) again))

  pub node_below : (x : ℕ) → 0 < times x v.lists → x < v.nodes
  node_below x some = let b = o.agrees.below x some in let k = o.nodes in omega arith

  pub front_is : (h : ℕ) (r : Option ℕ) → h < length v.lists → (link next (n + h) < n → r ≡ Some (link next (n + h)))
      → (n ≤ link next (n + h) → r ≡ None) → r ≡ first (list_at v.lists h)
  front_is h r lt some none =
      first_is n (link next) v.lists o.agrees (n + h) (list_at v.lists h) (n + h) r (o.agrees.walks h lt) (omega arith)
      (λ z in_it. let c = count-le-times z v.lists h in o.agrees.below z (omega arith)) some none

  pub next_is : (h x : ℕ) (before after : List ℕ) (r : Option ℕ) → list_at v.lists h ≡ before ++ x ∷ after
      → (link next x < n → r ≡ Some (link next x)) → (n ≤ link next x → r ≡ None) → r ≡ first after
  next_is h x before after r is some none =
      let hs = hit_same x in
      elim (cases_lt h (length v.lists)) [
        | inl lt ↦
            let w = walk_split (link next) (n + h) before x after (n + h) (subst (λ l. Walk (link next) (n + h) l (n + h)) is (o.agrees.walks h lt)) in
            first_is n (link next) v.lists o.agrees x after (n + h) r w.1 (omega arith)
            (λ z in_it.
            let c = count-le-times z v.lists h in
            let e = ap (λ l. count z l) is in
            let d = count-append z before (x ∷ after) in
            o.agrees.below z (omega arith)) some none
        | inr ge ↦
            let p = get_or_past v.lists h [] ge in
            let e = ap (λ l. count x l) (sym p ∙ is) in
            let d = count-append x before (x ∷ after) in
            absurd (omega arith)
      ]

  pub short_lists : (h : ℕ) → length (list_at v.lists h) ≤ v.nodes
  short_lists h = let f = few n (link next) v.lists o.agrees h in let k = o.nodes in omega arith

-- a node that begins a list is in it
pub first_times : (ls : List (List ℕ)) (h x : ℕ) → first (list_at ls h) ≡ Some x → 0 < times x ls
first_times ls h x e = let c = count-le-times x ls h in let s = hit_same x in let f = count_first x x (list_at ls h) e in omega arith

-- what holds of the first node of a list holds of what a call finds there
pub if_first : (P : ℕ → Type 0) (xs : List ℕ) (r : Option ℕ) → r ≡ first xs → ((x : ℕ) → first xs ≡ Some x → P x) → IfSome r P
if_first P xs r e each = subst (λ o. IfSome o P) (sym e) (go xs each)
  where
    go : (ys : List ℕ) → ((x : ℕ) → first ys ≡ Some x → P x) → IfSome (first ys) P
    go [] h = tt
    go (y ∷ ys) h = h y refl

-- to take the first node out of its list is to take it out of all
pub first_out : (ls : List (List ℕ)) (h x : ℕ) → h < length ls → first (list_at ls h) ≡ Some x → times x ls ≡ 1
    → map (without x) ls ≡ slice_set ls h (rest (list_at ls h))
first_out ls h x lt e once =
    let c = count-le-times x ls h in
    let hs = hit_same x in
    let f = count_first x x (list_at ls h) e in
    without_one x ls h lt (λ k ne. let two = two-le-times x ls h k (λ q. ne (sym q)) in omega arith)
    ∙ ap (λ l. slice_set ls h l) (go (list_at ls h) e (omega arith))
  where
    go : (l : List ℕ) → first l ≡ Some x → count x l ≤ 1 → without x l ≡ rest l
    go [] f le = refl
    go (y ∷ ys) f le =
        let q : y ≡ x = cc in
        let k = ap (λ z. count x (z ∷ ys)) q in
        ap (λ z. without x (z ∷ ys)) q ∙ without_split x [] ys (omega arith)
