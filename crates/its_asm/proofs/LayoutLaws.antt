-- Labels one after another.
use Rattle.std.proofs.Common.{◌≡◌, ◌<◌, ◌+◌, ◌-◌, ◌||◌, ℕ, zero, suc, Bool, true, false, Some, None, List, [], ◌∷◌, length, get_or, take, drop, map, refl, ap, ◌∙◌, arith, add-one}
use Rattle.std.proofs.lemmas.List.{take_rest}
use Rattle.its_asm.specs.Text.{label_of}
use Rattle.its_asm.specs.Statement.{labels_of}
use Rattle.its_asm.specs.Layout.{defined, is_defined, labelled}
use Rattle.its_asm.specs.Assembly.{any_defined}

pub labels_none : [] ≡ labels_of []
labels_none = refl

pub labels_end : (w : List ℕ) (ws : List (List ℕ)) → label_of w ≡ None → labels_of (w ∷ ws) ≡ []
labels_end w ws h = rw h refl

pub labels_more : (w : List ℕ) (ws : List (List ℕ)) (name : ℕ) → label_of w ≡ Some name → labels_of (w ∷ ws) ≡ name ∷ labels_of ws
labels_more w ws name h = rw h refl

map_take : {A B : Type 0} (f : A → B) (k : ℕ) (ws : List A) → map f (take k ws) ≡ take k (map f ws)
map_take f zero ws = refl
map_take f (suc k) [] = refl
map_take f (suc k) (w ∷ ws) = ap (λ xs. f w ∷ xs) (map_take f k ws)

map_drop : {A B : Type 0} (f : A → B) (k : ℕ) (ws : List A) → map f (drop k ws) ≡ drop k (map f ws)
map_drop f zero ws = refl
map_drop f (suc k) [] = refl
map_drop f (suc k) (w ∷ ws) = map_drop f k ws

take_rest_of : {A : Type 0} (k : ℕ) (ws : List A) → take (length ws - k) (drop k ws) ≡ drop k ws
take_rest_of k ws = take_rest ws k

pub behind_labels : {A B : Type 0} (f : A → B) (k : ℕ) (ws : List A) → map f (take (length ws - k) (drop k ws)) ≡ drop k (map f ws)
behind_labels f k ws = ap (map f) (take_rest_of k ws) ∙ map_drop f k ws

pub labelled_none : (symbols : List (ℕ × ℕ)) (value : ℕ) → labelled symbols value [] ≡ symbols
unfolding labelled
labelled_none symbols value = refl

labelled_by : (symbols : List (ℕ × ℕ)) (value : ℕ) (labels : List ℕ) (i d : ℕ) → i < length labels
    → labelled symbols value (take (suc i) labels) ≡ defined (labelled symbols value (take i labels)) (get_or labels i d) value
unfolding labelled
labelled_by symbols value [] i d h = absurd (omega arith)
labelled_by symbols value (n ∷ ns) zero d h = refl
labelled_by symbols value (n ∷ ns) (suc i) d h = labelled_by (defined symbols n value) value ns i d (omega arith)

pub labelled_more : (symbols : List (ℕ × ℕ)) (value : ℕ) (labels : List ℕ) (i d : ℕ) → i < length labels
    → labelled symbols value (take (i + 1) labels) ≡ defined (labelled symbols value (take i labels)) (get_or labels i d) value
labelled_more symbols value labels i d h = rw add-one (labelled_by symbols value labels i d h)

or_assoc : (x y z : Bool) → (x || (y || z)) ≡ ((x || y) || z)
or_assoc true y z = refl
or_assoc false y z = refl

or_false : (x : Bool) → (x || false) ≡ x
or_false true = refl
or_false false = refl

any_defined_by : (symbols : List (ℕ × ℕ)) (value : ℕ) (labels : List ℕ) (i d : ℕ) → i < length labels
    → any_defined symbols value (take (suc i) labels) ≡ (any_defined symbols value (take i labels) || is_defined
    (labelled symbols value (take i labels)) (get_or labels i d))
unfolding labelled
any_defined_by symbols value [] i d h = absurd (omega arith)
any_defined_by symbols value (n ∷ ns) zero d h = or_false (is_defined symbols n)
any_defined_by symbols value (n ∷ ns) (suc i) d h =
    ap (λ b. is_defined symbols n || b) (any_defined_by (defined symbols n value) value ns i d (omega arith))
    ∙ or_assoc (is_defined symbols n) (any_defined (defined symbols n value) value (take i ns))
    (is_defined (labelled (defined symbols n value) value (take i ns)) (get_or ns i d))

pub any_defined_more : (symbols : List (ℕ × ℕ)) (value : ℕ) (labels : List ℕ) (i d : ℕ) → i < length labels
    → any_defined symbols value (take (i + 1) labels) ≡ (any_defined symbols value (take i labels) || is_defined
    (labelled symbols value (take i labels)) (get_or labels i d))
any_defined_more symbols value labels i d h = rw add-one (any_defined_by symbols value labels i d h)
