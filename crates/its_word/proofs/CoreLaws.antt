-- The laws of reading and storing words of core. They close `word_at`, `can_store` and `store` off:
-- no other proof opens these.
use Rattle.std.specs.Prelude.{if◌then◌else◌, ◌≡◌, ◌≢◌, ℕ, zero, suc, ◌/◌, ◌%◌, Bool, true, false, Option, Some, None, List, [], ◌∷◌, nat_lt, slice_get, slice_set, is_some, Ok, Err, refl}
use Rattle.std.proofs.Common.{sym, ◌∙◌, ap, inl, inr, arith}
use Rattle.std.proofs.lemmas.Bool.{cases_Bool, cases_eq}
use Rattle.std.proofs.lemmas.List.{set-set, set_comm}
use Rattle.its_word.specs.declared.access.NoAccess.{NoAccess}
use Rattle.its_word.specs.Core.{Page, Core, present, page_of, word_in, stores_in, page_stored, word_at, can_store, store, got}

-- a list, read by `slice_get`
pub get_set : {X : Type 0} (xs : List X) (i : ℕ) (x : X) → is_some (slice_get xs i) ≡ true → slice_get (slice_set xs i x) i ≡ Some x
get_set [] i x h = cc
get_set (y ∷ ys) zero x h = refl
get_set (y ∷ ys) (suc i) x h = get_set ys i x h

pub get_set_other : {X : Type 0} (xs : List X) (i j : ℕ) (x : X) → j ≢ i → slice_get (slice_set xs i x) j ≡ slice_get xs j
get_set_other [] i j x ne = refl
get_set_other (y ∷ ys) zero zero x ne = absurd (ne refl)
get_set_other (y ∷ ys) zero (suc j) x ne = refl
get_set_other (y ∷ ys) (suc i) zero x ne = refl
get_set_other (y ∷ ys) (suc i) (suc j) x ne = get_set_other ys i j x (λ e. ne (ap suc e))

pub some_set : {X : Type 0} (xs : List X) (i j : ℕ) (x : X) → is_some (slice_get (slice_set xs i x) j) ≡ is_some (slice_get xs j)
some_set [] i j x = refl
some_set (y ∷ ys) zero zero x = refl
some_set (y ∷ ys) zero (suc j) x = refl
some_set (y ∷ ys) (suc i) zero x = refl
some_set (y ∷ ys) (suc i) (suc j) x = some_set ys i j x

pub set_same : {X : Type 0} (xs : List X) (i : ℕ) (x : X) → slice_get xs i ≡ Some x → slice_set xs i x ≡ xs
set_same [] i x h = refl
set_same (y ∷ ys) zero x h = let e : y ≡ x = cc in ap (λ z. z ∷ ys) (sym e)
set_same (y ∷ ys) (suc i) x h = ap (λ z. y ∷ z) (set_same ys i x h)

-- a page of the list, after a word of it was stored
page_set : (ps : List (Option Page)) (k j w : ℕ) → present (slice_get (slice_set ps k (page_stored (present (slice_get ps k)) j w)) k) ≡
    page_stored (present (slice_get ps k)) j w
page_set [] k j w = refl
page_set (Some p ∷ ps) zero j w = refl
page_set (None ∷ ps) zero j w = refl
page_set (p ∷ ps) (suc k) j w = page_set ps k j w

-- one page, by clauses
word_stored_same : (p : Option Page) (j w : ℕ) → stores_in p j ≡ true → word_in (page_stored p j w) j ≡ Some w
word_stored_same None j w h = cc
word_stored_same (Some p) j w h = go p.words p.writable j w h
  where
    go : (ws : List ℕ) (b : Bool) (j w : ℕ) → (if b then is_some (slice_get ws j) else false) ≡ true → slice_get (slice_set ws j w) j ≡ Some w
    go ws true j w h = get_set ws j w h
    go ws false j w h = cc

word_stored_other : (p : Option Page) (i j w : ℕ) → j ≢ i → word_in (page_stored p i w) j ≡ word_in p j
word_stored_other None i j w ne = refl
word_stored_other (Some p) i j w ne = get_set_other p.words i j w ne

some_stored : (p : Option Page) (i j w : ℕ) → is_some (word_in (page_stored p i w) j) ≡ is_some (word_in p j)
some_stored None i j w = refl
some_stored (Some p) i j w = some_set p.words i j w

stores_stored : (p : Option Page) (i j w : ℕ) → stores_in (page_stored p i w) j ≡ stores_in p j
stores_stored None i j w = refl
stores_stored (Some p) i j w = ap (λ b. if p.writable then b else false) (some_set p.words i j w)

stored_stored : (p : Option Page) (i v w : ℕ) → page_stored (page_stored p i v) i w ≡ page_stored p i w
stored_stored None i v w = refl
stored_stored (Some p) i v w = ap (λ ws. Some (record p { words = ws })) (set-set p.words i v w)

stored_comm : (p : Option Page) (i j v w : ℕ) → i ≢ j → page_stored (page_stored p i v) j w ≡ page_stored (page_stored p j w) i v
stored_comm None i j v w ne = refl
stored_comm (Some p) i j v w ne = ap (λ ws. Some (record p { words = ws })) (set_comm p.words i j v w ne)

stored_here : (p : Option Page) (i w : ℕ) → word_in p i ≡ Some w → page_stored p i w ≡ p
stored_here None i w h = refl
stored_here (Some p) i w h = ap (λ ws. Some (record p { words = ws })) (set_same p.words i w h)

stores_some : (p : Option Page) (j : ℕ) → stores_in p j ≡ true → is_some (word_in p j) ≡ true
stores_some None j h = h
stores_some (Some p) j h = go p.writable (is_some (slice_get p.words j)) h
  where
    go : (b t : Bool) → (if b then t else false) ≡ true → t ≡ true
    go true t h = h
    go false t h = cc

-- the two kinds of address, for those who keep cores in another form
pub in_accs : (c : Core) (a : ℕ) → nat_lt a 16 ≡ true → word_at c a ≡ slice_get c.accs a
unfolding word_at
in_accs c a t = rw t refl

pub in_page : (c : Core) (a : ℕ) → nat_lt a 16 ≡ false → word_at c a ≡ word_in (page_of c (a / 1024)) (a % 1024)
unfolding word_at
in_page c a t = rw t refl

pub stores_acc : (c : Core) (a : ℕ) → nat_lt a 16 ≡ true → can_store c a ≡ is_some (slice_get c.accs a)
unfolding can_store
stores_acc c a t = rw t refl

pub stores_page : (c : Core) (a : ℕ) → nat_lt a 16 ≡ false → can_store c a ≡ stores_in (page_of c (a / 1024)) (a % 1024)
unfolding can_store
stores_page c a t = rw t refl

pub store_acc : (c : Core) (a w : ℕ) → nat_lt a 16 ≡ true → store c a w ≡ record c { accs = slice_set c.accs a w }
unfolding store
store_acc c a w t = rw t refl

pub store_page : (c : Core) (a w : ℕ) → nat_lt a 16 ≡ false → store c a w ≡ record c
    { pages = slice_set c.pages (a / 1024) (page_stored (page_of c (a / 1024)) (a % 1024) w) }
unfolding store
store_page c a w t = rw t refl

-- a page of the core, after a store in it and in another
page_of_store : (c : Core) (a w : ℕ) → nat_lt a 16 ≡ false → page_of (store c a w) (a / 1024) ≡ page_stored (page_of c (a / 1024)) (a % 1024) w
unfolding page_of store
page_of_store c a w t = rw t (page_set c.pages (a / 1024) (a % 1024) w)

page_of_store_other : (c : Core) (a w k : ℕ) → k ≢ a / 1024 → page_of (store c a w) k ≡ page_of c k
unfolding page_of store
page_of_store_other c a w k ne = elim (cases_Bool (nat_lt a 16)) [ inl t ↦ rw t refl | inr t ↦ rw t (ap present (get_set_other c.pages (a / 1024) k _ ne)) ]

page_of_store_acc : (c : Core) (a w k : ℕ) → nat_lt a 16 ≡ true → page_of (store c a w) k ≡ page_of c k
unfolding page_of store
page_of_store_acc c a w k t = rw t refl

accs_store_page : (c : Core) (a w : ℕ) → nat_lt a 16 ≡ false → (store c a w).accs ≡ c.accs
unfolding store
accs_store_page c a w t = rw t refl

accs_store_acc : (c : Core) (a w : ℕ) → nat_lt a 16 ≡ true → (store c a w).accs ≡ slice_set c.accs a w
unfolding store
accs_store_acc c a w t = rw t refl

-- a word that was stored is read
pub word_at-store_same : (c : Core) (a w : ℕ) → can_store c a ≡ true → word_at (store c a w) a ≡ Some w
word_at-store_same c a w h = elim (cases_Bool (nat_lt a 16)) [
  | inl t ↦ in_accs (store c a w) a t ∙ ap (λ xs. slice_get xs a) (accs_store_acc c a w t) ∙ get_set c.accs a w (sym (stores_acc c a t) ∙ h)
  | inr t ↦ in_page (store c a w) a t ∙ ap (λ p. word_in p (a % 1024)) (page_of_store c a w t)
      ∙ word_stored_same (page_of c (a / 1024)) (a % 1024) w (sym (stores_page c a t) ∙ h)
]

-- the word of a page at another address, after a store
page_other : (c : Core) (a b w : ℕ) → b ≢ a → nat_lt b 16 ≡ false
    → word_in (page_of (store c a w) (b / 1024)) (b % 1024) ≡ word_in (page_of c (b / 1024)) (b % 1024)
page_other c a b w ne t = elim (cases_Bool (nat_lt a 16)) [
  | inl s ↦ ap (λ p. word_in p (b % 1024)) (page_of_store_acc c a w (b / 1024) s)
  | inr s ↦ elim (cases_eq (b / 1024) (a / 1024)) [
    | inl e ↦ rw e (ap (λ p. word_in p (b % 1024)) (page_of_store c a w s)
        ∙ word_stored_other (page_of c (a / 1024)) (a % 1024) (b % 1024) w (λ r. ne (omega arith)))
    | inr n ↦ ap (λ p. word_in p (b % 1024)) (page_of_store_other c a w (b / 1024) n)
  ]
]

accs_other : (c : Core) (a b w : ℕ) → b ≢ a → slice_get (store c a w).accs b ≡ slice_get c.accs b
accs_other c a b w ne = elim (cases_Bool (nat_lt a 16)) [
  | inl s ↦ ap (λ xs. slice_get xs b) (accs_store_acc c a w s) ∙ get_set_other c.accs a b w ne
  | inr s ↦ ap (λ xs. slice_get xs b) (accs_store_page c a w s)
]

-- a store changes no other word
pub word_at-store_other : (c : Core) (a b w : ℕ) → b ≢ a → word_at (store c a w) b ≡ word_at c b
word_at-store_other c a b w ne = elim (cases_Bool (nat_lt b 16)) [
  | inl t ↦ in_accs (store c a w) b t ∙ accs_other c a b w ne ∙ sym (in_accs c b t)
  | inr t ↦ in_page (store c a w) b t ∙ page_other c a b w ne t ∙ sym (in_page c b t)
]

-- a store makes no word and takes none away
some_accs : (c : Core) (a b w : ℕ) → is_some (slice_get (store c a w).accs b) ≡ is_some (slice_get c.accs b)
some_accs c a b w = elim (cases_Bool (nat_lt a 16)) [
  | inl s ↦ ap (λ xs. is_some (slice_get xs b)) (accs_store_acc c a w s) ∙ some_set c.accs a b w
  | inr s ↦ ap (λ xs. is_some (slice_get xs b)) (accs_store_page c a w s)
]

-- what is the same for a page and for that page with a word stored is the same after a store
pub page_alike : {X : Type 0} (f : Option Page → X) → ((p : Option Page) (i w : ℕ) → f (page_stored p i w) ≡ f p)
    → (c : Core) (a w k : ℕ) → f (page_of (store c a w) k) ≡ f (page_of c k)
page_alike f same c a w k = elim (cases_Bool (nat_lt a 16)) [
  | inl s ↦ ap f (page_of_store_acc c a w k s)
  | inr s ↦ elim (cases_eq k (a / 1024)) [
    | inl e ↦ rw e (ap f (page_of_store c a w s) ∙ same (page_of c (a / 1024)) (a % 1024) w)
    | inr n ↦ ap f (page_of_store_other c a w k n)
  ]
]

pub is_some-store : (c : Core) (a b w : ℕ) → is_some (word_at (store c a w) b) ≡ is_some (word_at c b)
is_some-store c a b w = elim (cases_Bool (nat_lt b 16)) [
  | inl t ↦ ap is_some (in_accs (store c a w) b t) ∙ some_accs c a b w ∙ sym (ap is_some (in_accs c b t))
  | inr t ↦ ap is_some (in_page (store c a w) b t) ∙ page_alike (λ p. is_some (word_in p (b % 1024)))
      (λ p i v. some_stored p i (b % 1024) v) c a w (b / 1024) ∙ sym (ap is_some (in_page c b t))
]

-- a store does not change at which addresses words can be stored
pub can_store-store : (c : Core) (a b w : ℕ) → can_store (store c a w) b ≡ can_store c b
can_store-store c a b w = elim (cases_Bool (nat_lt b 16)) [
  | inl t ↦ stores_acc (store c a w) b t ∙ some_accs c a b w ∙ sym (stores_acc c b t)
  | inr t ↦ stores_page (store c a w) b t ∙ page_alike (λ p. stores_in p (b % 1024)) (λ p i v. stores_stored p i (b % 1024) v) c a w
      (b / 1024) ∙ sym (stores_page c b t)
]

-- if a word can be stored there is one
pub word_at-can_store : (c : Core) (a : ℕ) → can_store c a ≡ true → is_some (word_at c a) ≡ true
word_at-can_store c a h = elim (cases_Bool (nat_lt a 16)) [
  | inl t ↦ ap is_some (in_accs c a t) ∙ sym (stores_acc c a t) ∙ h
  | inr t ↦ ap is_some (in_page c a t) ∙ stores_some (page_of c (a / 1024)) (a % 1024) (sym (stores_page c a t) ∙ h)
]

-- the list of pages, after a word was stored
pages_stored : List (Option Page) → ℕ → ℕ → ℕ → List (Option Page)
pages_stored ps k j w = slice_set ps k (page_stored (present (slice_get ps k)) j w)

pages_twice : (ps : List (Option Page)) (k j v w : ℕ) → pages_stored (pages_stored ps k j v) k j w ≡ pages_stored ps k j w
unfolding pages_stored
pages_twice ps k j v w =
    set-set ps k _ _ ∙ ap (λ p. slice_set ps k p) (ap (λ p. page_stored p j w) (page_set ps k j v) ∙ stored_stored (present (slice_get ps k)) j v w)

pages_comm_same : (ps : List (Option Page)) (k i j v w : ℕ) → i ≢ j → pages_stored (pages_stored ps k i v) k j w ≡ pages_stored (pages_stored ps k j w) k i v
unfolding pages_stored
pages_comm_same ps k i j v w ne =
    set-set ps k _ _ ∙ ap (λ p. slice_set ps k p) (ap (λ p. page_stored p j w) (page_set ps k i v)
    ∙ stored_comm (present (slice_get ps k)) i j v w ne ∙ sym (ap (λ p. page_stored p i v) (page_set ps k j w))) ∙ sym (set-set ps k _ _)

pages_comm_other : (ps : List (Option Page)) (k l i j v w : ℕ) → k ≢ l
    → pages_stored (pages_stored ps k i v) l j w ≡ pages_stored (pages_stored ps l j w) k i v
unfolding pages_stored
pages_comm_other ps k l i j v w ne =
    let x = page_stored (present (slice_get ps k)) i v in
    let y = page_stored (present (slice_get ps l)) j w in
    ap (λ p. slice_set (slice_set ps k x) l (page_stored (present p) j w)) (get_set_other ps k l x (λ e. ne (sym e)))
    ∙ set_comm ps k l x y ne
    ∙ sym (ap (λ p. slice_set (slice_set ps l y) k (page_stored (present p) i v)) (get_set_other ps l k y ne))

pages_here : (ps : List (Option Page)) (k j w : ℕ) (q : Option (Option Page)) → slice_get ps k ≡ q → word_in (present q) j ≡ Some w
    → slice_set ps k (page_stored (present q) j w) ≡ ps
pages_here ps k j w (Some (Some p)) e h = set_same ps k _ (e ∙ ap Some (sym (stored_here (Some p) j w h)))
pages_here ps k j w (Some None) e h = cc
pages_here ps k j w None e h = cc

-- the store by the kind of address
stored_by : Bool → Core → ℕ → ℕ → Core
stored_by true c a w = record c { accs = slice_set c.accs a w }
stored_by false c a w = record c { pages = pages_stored c.pages (a / 1024) (a % 1024) w }

stored_by_is : (c : Core) (a w : ℕ) → store c a w ≡ stored_by (nat_lt a 16) c a w
unfolding store stored_by pages_stored page_of
stored_by_is c a w = elim (cases_Bool (nat_lt a 16)) [ inl t ↦ rw t refl | inr t ↦ rw t refl ]

stored_twice : (b : Bool) (c : Core) (a v w : ℕ) → stored_by b (stored_by b c a v) a w ≡ stored_by b c a w
unfolding stored_by
stored_twice true c a v w = ap (λ xs. record c { accs = xs }) (set-set c.accs a v w)
stored_twice false c a v w = ap (λ ps. record c { pages = ps }) (pages_twice c.pages (a / 1024) (a % 1024) v w)

pages_comm : (ps : List (Option Page)) (a b v w : ℕ) → a ≢ b
    → pages_stored (pages_stored ps (a / 1024) (a % 1024) v) (b / 1024) (b % 1024) w ≡ pages_stored
    (pages_stored ps (b / 1024) (b % 1024) w) (a / 1024) (a % 1024) v
pages_comm ps a b v w ne = elim (cases_eq (b / 1024) (a / 1024)) [
  | inl e ↦ rw e (pages_comm_same ps (a / 1024) (a % 1024) (b % 1024) v w (λ r. ne (omega arith)))
  | inr n ↦ pages_comm_other ps (a / 1024) (b / 1024) (a % 1024) (b % 1024) v w (λ r. n (sym r))
]

stored_comm_by : (x y : Bool) (c : Core) (a b v w : ℕ) → a ≢ b → stored_by y (stored_by x c a v) b w ≡ stored_by x (stored_by y c b w) a v
unfolding stored_by
stored_comm_by true true c a b v w ne = ap (λ xs. record c { accs = xs }) (set_comm c.accs a b v w ne)
stored_comm_by true false c a b v w ne = refl
stored_comm_by false true c a b v w ne = refl
stored_comm_by false false c a b v w ne = ap (λ ps. record c { pages = ps }) (pages_comm c.pages a b v w ne)

stored_here_acc : (c : Core) (a w : ℕ) → slice_get c.accs a ≡ Some w → stored_by true c a w ≡ c
unfolding stored_by
stored_here_acc c a w h = ap (λ xs. record c { accs = xs }) (set_same c.accs a w h)

stored_here_page : (c : Core) (a w : ℕ) → word_in (page_of c (a / 1024)) (a % 1024) ≡ Some w → stored_by false c a w ≡ c
unfolding stored_by pages_stored page_of
stored_here_page c a w h = ap (λ ps. record c { pages = ps }) (pages_here c.pages (a / 1024) (a % 1024) w (slice_get c.pages (a / 1024)) refl h)

-- of two stores at one address the second stays
pub store-store : (c : Core) (a v w : ℕ) → store (store c a v) a w ≡ store c a w
store-store c a v w =
    stored_by_is (store c a v) a w ∙ ap (λ d. stored_by (nat_lt a 16) d a w) (stored_by_is c a v) ∙ stored_twice (nat_lt a 16) c a v w
    ∙ sym (stored_by_is c a w)

-- stores at two addresses can change places
pub store_comm : (c : Core) (a b v w : ℕ) → a ≢ b → store (store c a v) b w ≡ store (store c b w) a v
store_comm c a b v w ne =
    stored_by_is (store c a v) b w ∙ ap (λ d. stored_by (nat_lt b 16) d b w) (stored_by_is c a v)
    ∙ stored_comm_by (nat_lt a 16) (nat_lt b 16) c a b v w ne
    ∙ sym (stored_by_is (store c b w) a v ∙ ap (λ d. stored_by (nat_lt a 16) d a v) (stored_by_is c b w))

-- a store of the word that is there changes nothing
pub store-word_at : (c : Core) (a w : ℕ) → word_at c a ≡ Some w → store c a w ≡ c
store-word_at c a w h = stored_by_is c a w ∙ elim (cases_Bool (nat_lt a 16)) [
  | inl t ↦ rw t (stored_here_acc c a w (sym (in_accs c a t) ∙ h))
  | inr t ↦ rw t (stored_here_page c a w (sym (in_page c a t) ∙ h))
]

-- what `get` answers, and the word that is there
pub got_some : (o : Option ℕ) (w : ℕ) → got o ≡ Ok w → o ≡ Some w
got_some (Some v) w h = cc
got_some None w h = cc

pub got_none : (o : Option ℕ) (e : NoAccess) → got o ≡ Err e → o ≡ None
got_none (Some v) e h = cc
got_none None e h = refl

-- for `using`
pub ruleset storing = (word_at-store_same, word_at-store_other, is_some-store, can_store-store, word_at-can_store, store-store)
