-- What is pending of a call that has ended: at most four steps, its own words among them, Leave as
-- the last, and the parts of its close before all else.
use Rattle.std.specs.Prelude.{if◌then◌else◌, ◌==◌, ◌≡◌, ℕ, ◌+◌, Bool, true, false, Option, Some, None, List, [], ◌∷◌, ◌++◌, map, length, refl}
use Rattle.std.proofs.Common.{◌∙◌, ap, arith}
use Rattle.std.proofs.lemmas.Bool.{eq-eqb}
use Rattle.its_word.specs.Core.{Core}
use Rattle.its_records.specs.declared.calls.Exit.{Exit}
use Rattle.its_records.specs.declared.calls.Owed.{Owed}
use Rattle.its_records.specs.declared.calls.Owed.TheVariants.{Unlink, Link, Free, Leave}
use Rattle.its_word.specs.declared.plan.Store.{Store}
use Rattle.its_frame.specs.Left.{kept}
use Rattle.its_stepped.specs.State.{Part, UnlinkOld, LinkNew, FreeOld, Mark, State}
use Rattle.its_stepped.specs.Commit.{owed_part, owed_parts, given_up, owed_store, owed_by}
use Rattle.its_stepped.specs.Sound.{Stored, Owes, backs, file_parts, FilesFirst}

-- what is pending in front of the own words
len_append : (xs ys : List Owed) → length (xs ++ ys) ≡ length xs + length ys
len_append [] ys = omega arith
len_append (x ∷ xs) ys = let h = len_append xs ys in omega arith

own_length : (ss : List Store) (e : Exit) → length (map owed_store ss ++ Leave e ∷ []) ≡ length ss + 1
own_length [] e = omega arith
own_length (s ∷ ss) e = let h = own_length ss e in omega arith

given_length : (r : Option ℕ) → length (given_up r) ≡ kept r
given_length None = omega arith
given_length (Some n) = omega arith

pub owed_length : (v : State) (j : ℕ) (ss : List Store) (e : Exit)
    → length (owed_by v j ss e) ≡ length (owed_parts v.mark j) + kept (v.reserved j) + length ss + 1
owed_length v j ss e =
    let a = len_append (owed_parts v.mark j) (given_up (v.reserved j) ++ (map owed_store ss ++ Leave e ∷ [])) in
    let b = len_append (given_up (v.reserved j)) (map owed_store ss ++ Leave e ∷ []) in
    let c = own_length ss e in
    let d = given_length (v.reserved j) in
    omega arith

-- all of it can be made, with Leave as the last
own_owes : (c : Core) (ss : List Store) (e : Exit) → Stored c ss → Owes c (map owed_store ss ++ Leave e ∷ [])
own_owes c [] e h = tt
own_owes c (s ∷ ss) e h = (h.0, own_owes c ss e h.1)

given_owes : (c : Core) (r : Option ℕ) (os : List Owed) → Owes c os → Owes c (given_up r ++ os)
given_owes c None os h = h
given_owes c (Some n) os h = h

parts_owe : (c : Core) (ps : List Part) (os : List Owed) → Owes c os → Owes c (map owed_part ps ++ os)
parts_owe c [] os h = h
parts_owe c (UnlinkOld ∷ ps) os h = parts_owe c ps os h
parts_owe c (LinkNew ∷ ps) os h = parts_owe c ps os h
parts_owe c (FreeOld ∷ ps) os h = parts_owe c ps os h

mark_owes : (c : Core) (m : Option Mark) (j : ℕ) (os : List Owed) → Owes c os → Owes c (owed_parts m j ++ os)
mark_owes c None j os h = h
mark_owes c (Some m) j os h = go (m.owner == j)
  where
    go : (b : Bool) → Owes c ((if b then map owed_part m.parts else []) ++ os)
    go true = parts_owe c m.parts os h
    go false = h

pub owed_owes : (c : Core) (v : State) (j : ℕ) (ss : List Store) (e : Exit) → Stored c ss → Owes c (owed_by v j ss e)
owed_owes c v j ss e h = mark_owes c v.mark j _ (given_owes c (v.reserved j) _ (own_owes c ss e h))

-- a page is given back if one is reserved
own_backs : (ss : List Store) (e : Exit) → backs (map owed_store ss ++ Leave e ∷ []) ≡ 0
own_backs [] e = refl
own_backs (s ∷ ss) e = own_backs ss e

given_backs : (r : Option ℕ) (os : List Owed) → backs os ≡ 0 → backs (given_up r ++ os) ≡ kept r
given_backs None os h = h
given_backs (Some n) os h = omega arith

parts_back : (ps : List Part) (os : List Owed) → backs (map owed_part ps ++ os) ≡ backs os
parts_back [] os = refl
parts_back (UnlinkOld ∷ ps) os = parts_back ps os
parts_back (LinkNew ∷ ps) os = parts_back ps os
parts_back (FreeOld ∷ ps) os = parts_back ps os

mark_backs : (m : Option Mark) (j : ℕ) (os : List Owed) → backs (owed_parts m j ++ os) ≡ backs os
mark_backs None j os = refl
mark_backs (Some m) j os = go (m.owner == j)
  where
    go : (b : Bool) → backs ((if b then map owed_part m.parts else []) ++ os) ≡ backs os
    go true = parts_back m.parts os
    go false = refl

pub owed_backs : (v : State) (j : ℕ) (ss : List Store) (e : Exit) → backs (owed_by v j ss e) ≡ kept (v.reserved j)
owed_backs v j ss e = mark_backs v.mark j _ ∙ given_backs (v.reserved j) _ (own_backs ss e)

-- its file steps are the parts of a close of its own
own_files : (ss : List Store) (e : Exit) → file_parts (map owed_store ss ++ Leave e ∷ []) ≡ []
own_files [] e = refl
own_files (s ∷ ss) e = own_files ss e

given_files : (r : Option ℕ) (os : List Owed) → file_parts (given_up r ++ os) ≡ file_parts os
given_files None os = refl
given_files (Some n) os = refl

parts_file : (ps : List Part) (os : List Owed) → file_parts os ≡ [] → file_parts (map owed_part ps ++ os) ≡ ps
parts_file [] os h = h
parts_file (UnlinkOld ∷ ps) os h = ap (λ ts. UnlinkOld ∷ ts) (parts_file ps os h)
parts_file (LinkNew ∷ ps) os h = ap (λ ts. LinkNew ∷ ts) (parts_file ps os h)
parts_file (FreeOld ∷ ps) os h = ap (λ ts. FreeOld ∷ ts) (parts_file ps os h)

pub parts_owned : (m : Mark) (j : ℕ) → m.owner ≡ j → owed_parts (Some m) j ≡ map owed_part m.parts
parts_owned m j e = rw (eq-eqb m.owner j e) refl

pub owed_files : (v : State) (j : ℕ) (m : Mark) (ss : List Store) (e : Exit) → v.mark ≡ Some m → m.owner ≡ j → file_parts (owed_by v j ss e) ≡ m.parts
owed_files v j m ss e is own =
    let rest : List Owed = given_up (v.reserved j) ++ (map owed_store ss ++ Leave e ∷ []) in
    ap (λ (o : Option Mark). file_parts (owed_parts o j ++ rest)) is
    ∙ ap (λ (ps : List Owed). file_parts (ps ++ rest)) (parts_owned m j own)
    ∙ parts_file m.parts rest (given_files (v.reserved j) _ ∙ own_files ss e)

-- they come before all else that is pending
pub none_first : (os : List Owed) → file_parts os ≡ [] → FilesFirst os
none_first [] h = tt
none_first (Unlink ∷ os) h = absurd cc
none_first (Link ∷ os) h = absurd cc
none_first (Free ∷ os) h = absurd cc
none_first _ h = h

parts_lead : (ps : List Part) (os : List Owed) → FilesFirst os → FilesFirst (map owed_part ps ++ os)
parts_lead [] os h = h
parts_lead (UnlinkOld ∷ ps) os h = parts_lead ps os h
parts_lead (LinkNew ∷ ps) os h = parts_lead ps os h
parts_lead (FreeOld ∷ ps) os h = parts_lead ps os h

mark_leads : (m : Option Mark) (j : ℕ) (os : List Owed) → FilesFirst os → FilesFirst (owed_parts m j ++ os)
mark_leads None j os h = h
mark_leads (Some m) j os h = go (m.owner == j)
  where
    go : (b : Bool) → FilesFirst ((if b then map owed_part m.parts else []) ++ os)
    go true = parts_lead m.parts os h
    go false = h

pub owed_first : (v : State) (j : ℕ) (ss : List Store) (e : Exit) → FilesFirst (owed_by v j ss e)
owed_first v j ss e =
    let own : List Owed = map owed_store ss ++ Leave e ∷ [] in
    mark_leads v.mark j (given_up (v.reserved j) ++ own) (none_first (given_up (v.reserved j) ++ own) (given_files (v.reserved j) own ∙ own_files ss e))
