-- The entries of the numbers, after a change of one entry.
use Rattle.std.specs.Prelude.{◌≡◌, ◌≢◌, ◌<◌, ◌≤◌, ℕ, ◌+◌, ◌*◌, Bool, true, false, cond, ◌⊎◌, Option, Some, None, is_some, List, [], ◌∷◌, ◌++◌, length, count_by, slice_set, slice_get, IfSome, refl}
use Rattle.std.proofs.Common.{sym, ◌∙◌, ap, subst, inl, inr, arith, length-set, length-append}
use Rattle.std.proofs.lemmas.Bool.{cases_eq, cases_lt, cases_Bool, both_ways, false_from_ne_true}
use Rattle.std.proofs.lemmas.List.{get_or-set_same, get_or-set_other, get_or_past}
use Rattle.std.proofs.lemmas.List.Folds.{sum_by-replicate}
use Rattle.std.proofs.lemmas.List.Sums.{sum_by-cons, sum_by-set}
use Rattle.its_links.specs.Lists.{hit, count, without}
use Rattle.its_links.proofs.CountLaws.{hit_same, hit_other, count-append, count-without_same, count-without_other, length-without}
use Rattle.its_files.specs.declared.entry.Entry.{Entry}
use Rattle.its_files.specs.declared.entry.Entry.TheVariants.{File, Draft}
use Rattle.its_files.specs.declared.entry.Parts.{Parts}
use Rattle.its_files.specs.declared.entry.Parts.TheVariants.{Replace, Link, Free}
use Rattle.its_files.specs.declared.entry.Mark.{Mark}
use Rattle.its_files.specs.Blocks.{text_at, numbers, most_drafts}
use Rattle.its_word.specs.Directory.{same_names}
use Rattle.its_files.specs.Files.{entry_in, is_file, is_draft, names_by, readers_by, found_by, found_in, one_if, to_come, unlinked_old, marked_draft, after_link, Replaces, Gone, Links_to, Owes, Marked, IsFiles}
use Rattle.its_files.proofs.ChainLaws.{count-at}
use Rattle.its_word.proofs.NamesLaws.{same_sym, same_both}
use Rattle.its_word.specs.Table.{filled}
use Rattle.its_word.proofs.TableLaws.{length-filled, get_or-filled}

-- if there is an entry, its number is one of all
pub within : (es : List (Option Entry)) (id : ℕ) → is_some (entry_in es id) ≡ true → id < length es
within es id h = elim (cases_lt id (length es)) [
  | inl lt ↦ lt
  | inr ge ↦ let e = get_or_past es id None ge in let f : false ≡ true = sym (ap is_some e) ∙ h in cc
]

pub file_stands : (e : Option Entry) → is_file e ≡ true → is_some e ≡ true
file_stands None h = h
file_stands (Some e) h = refl

pub draft_stands : (e : Option Entry) → is_draft e ≡ true → is_some e ≡ true
draft_stands None h = h
draft_stands (Some e) h = refl

pub draft_no_file : (e : Option Entry) → is_draft e ≡ true → is_file e ≡ false
draft_no_file None h = refl
draft_no_file (Some (File names readers)) h = cc
draft_no_file (Some (Draft names)) h = refl

pub reader_file : (e : Option Entry) → 0 < readers_by e → is_file e ≡ true
reader_file None h = absurd (omega arith)
reader_file (Some (File names readers)) h = refl
reader_file (Some (Draft names)) h = absurd (omega arith)

pub draft_unread : (e : Option Entry) → is_draft e ≡ true → readers_by e ≡ 0
draft_unread None h = refl
draft_unread (Some (File names readers)) h = cc
draft_unread (Some (Draft names)) h = refl

none_file : (e : Option Entry) → e ≡ None → is_file e ≡ false
none_file e h = ap is_file h

-- a number of the order is a file
pub listed_file : (b : Bool) (n : ℕ) → n ≡ one_if b → 0 < n → b ≡ true
listed_file true n e h = refl
listed_file false n e h = absurd (omega arith)

-- the entries are files and drafts alone
pub stand_or : (es : List (Option Entry)) → count_by is_some es ≡ count_by is_file es + count_by is_draft es
stand_or [] = refl
stand_or (e ∷ es) =
    let r = stand_or es in
    let a = sum_by-cons (λ x. cond (is_some x) 1 0) e es in
    let b = sum_by-cons (λ x. cond (is_file x) 1 0) e es in
    let c = sum_by-cons (λ x. cond (is_draft x) 1 0) e es in
    let t = kind e in
    omega arith
  where
    kind : (x : Option Entry) → cond (is_some x) 1 0 ≡ cond (is_file x) 1 0 + cond (is_draft x) 1 0
    kind None = refl
    kind (Some (File names readers)) = refl
    kind (Some (Draft names)) = refl

-- which file is found
pub record Found (es : List (Option Entry)) (names order : List ℕ) (id : ℕ) : Type 0 where
  pub listed : 0 < count id order
  pub named : same_names names (names_by (entry_in es id)) ≡ true

pub found_some : (es : List (Option Entry)) (names order : List ℕ) (id : ℕ) → found_in es names order ≡ Some id → Found es names order id
found_some es names [] id h = cc
found_some es names (k ∷ ks) id h = go (λ e. found_some es names ks id e) (same_names names (names_by (entry_in es k))) refl h
  where
    go : (found_in es names ks ≡ Some id → Found es names ks id) → (b : Bool) → same_names names (names_by (entry_in es k)) ≡ b
        → found_by b k (found_in es names ks) ≡ Some id → Found es names (k ∷ ks) id
    go later true t e =
        let s : k ≡ id = cc in
        let c = ap (λ j. hit id j) s in
        let u = hit_same id in
        record { listed = omega arith; named = rw (← s) t }
    go later false t e = let r = later e in let l = r.listed in record { listed = omega arith; named = r.named }

pub found_none : (es : List (Option Entry)) (names order : List ℕ) (id : ℕ) → found_in es names order ≡ None → 0 < count id order
    → same_names names (names_by (entry_in es id)) ≡ false
found_none es names [] id h some = absurd (omega arith)
found_none es names (k ∷ ks) id h some = go (λ e l. found_none es names ks id e l) (same_names names (names_by (entry_in es k))) refl h
  where
    go : (found_in es names ks ≡ None → 0 < count id ks → same_names names (names_by (entry_in es id)) ≡ false) → (b : Bool)
        → same_names names (names_by (entry_in es k)) ≡ b → found_by b k (found_in es names ks) ≡ None → same_names names (names_by (entry_in es id)) ≡ false
    go later true t e = cc
    go later false t e = elim (cases_eq id k) [
      | inl s ↦ rw s t
      | inr ne ↦ let c = hit_other id k ne in later e (omega arith)
    ]

pub carried : (x a y b : Option Entry) → x ≡ a → y ≡ b → same_names (names_by x) (names_by y) ≡ true → same_names (names_by a) (names_by b) ≡ true
carried x a y b e f s = sym (ap (λ t. same_names (names_by t) (names_by y)) e ∙ ap (λ t. same_names (names_by a) (names_by t)) f) ∙ s

-- a change at one number
module _ (es : List (Option Entry)) (order : List ℕ) (mark : Option Mark) (texts : List (List ℕ)) (h : IsFiles es order mark texts) (id : ℕ)
    (e : Option Entry) (ks : List ℕ) (m : Option Mark) (ts : List (List ℕ)) where
  pub record Change : Type 0 where
    pub lt : id < numbers
    pub long : length ts ≡ length texts
    pub here : count id ks ≡ one_if (is_file e)
    pub others : (k : ℕ) → k ≢ id → count k ks ≡ count k order
    pub number : length ks + one_if (is_file (entry_in es id)) ≡ length order + one_if (is_file e)
    pub few : length ks + to_come m ≤ 256
    pub few_drafts : count_by is_draft es + one_if (is_draft e) ≤ most_drafts + one_if (is_draft (entry_in es id))
    pub fresh : is_file e ≡ true → (k : ℕ) → k ≢ id → is_file (entry_in es k) ≡ true → same_names (names_by e) (names_by (entry_in es k)) ≡ false
    pub bare_here : e ≡ None → unlinked_old m ≢ Some id → text_at ts id ≡ []
    pub bare : (k : ℕ) → k ≢ id → entry_in es k ≡ None → unlinked_old m ≢ Some k → text_at ts k ≡ []
    pub marked : Marked (slice_set es id e) m

  module _ (c : Change) where
    at_it : entry_in (slice_set es id e) id ≡ e
    at_it = let l = h.long in let t = c.lt in get_or-set_same es id e None (omega arith)

    elsewhere : (k : ℕ) → k ≢ id → entry_in (slice_set es id e) k ≡ entry_in es k
    elsewhere k ne = get_or-set_other es id k e None ne

    unique : (i j : ℕ) → is_file (entry_in (slice_set es id e) i) ≡ true → is_file (entry_in (slice_set es id e) j) ≡ true
        → same_names (names_by (entry_in (slice_set es id e) i)) (names_by (entry_in (slice_set es id e) j)) ≡ true → i ≡ j
    unique i j fi fj s = elim (cases_eq i id) [
      | inl ei ↦ elim (cases_eq j id) [
        | inl ej ↦ ei ∙ sym ej
        | inr nj ↦
            let a : entry_in (slice_set es id e) i ≡ e = ap (λ k. entry_in (slice_set es id e) k) ei ∙ at_it in
            let b = elsewhere j nj in
            let f = c.fresh (sym (ap is_file a) ∙ fi) j nj (sym (ap is_file b) ∙ fj) in
            let g = carried (entry_in (slice_set es id e) i) e (entry_in (slice_set es id e) j) (entry_in es j) a b s in
            absurd (both_ways (same_names (names_by e) (names_by (entry_in es j))) f g)
      ]
      | inr ni ↦
          let a = elsewhere i ni in
          elim (cases_eq j id) [
            | inl ej ↦
                let b : entry_in (slice_set es id e) j ≡ e = ap (λ k. entry_in (slice_set es id e) k) ej ∙ at_it in
                let f = c.fresh (sym (ap is_file b) ∙ fj) i ni (sym (ap is_file a) ∙ fi) in
                let g = carried (entry_in (slice_set es id e) i) (entry_in es i) (entry_in (slice_set es id e) j) e a b s in
                absurd (both_ways (same_names (names_by e) (names_by (entry_in es i))) f (same_sym (names_by (entry_in es i)) (names_by e) g))
            | inr nj ↦
                let b = elsewhere j nj in
                h.unique i j (sym (ap is_file a) ∙ fi) (sym (ap is_file b) ∙ fj)
                (carried (entry_in (slice_set es id e) i) (entry_in es i) (entry_in (slice_set es id e) j) (entry_in es j) a b s)
          ]
    ]

    pub changed : IsFiles (slice_set es id e) ks m ts
    changed = record {
      long = length-set es id e ∙ h.long;
      texts_long = c.long ∙ h.texts_long;
      listed = λ k. elim (cases_eq k id) [
        | inl s ↦ rw s (c.here ∙ sym (ap (λ x. one_if (is_file x)) at_it))
        | inr ne ↦ c.others k ne ∙ h.listed k ∙ sym (ap (λ x. one_if (is_file x)) (elsewhere k ne))
      ];
      number =
          let l = h.long in
          let t = c.lt in
          let s = sum_by-set (λ x. cond (is_file x) 1 0) es id e None (omega arith) in
          let n = h.number in
          let o = c.number in
          omega arith;
      few = c.few;
      few_drafts =
          let l = h.long in
          let t = c.lt in
          let s = sum_by-set (λ x. cond (is_draft x) 1 0) es id e None (omega arith) in
          let f = c.few_drafts in
          omega arith;
      unique = unique;
      bare = λ k none far. elim (cases_eq k id) [
        | inl s ↦ ap (λ j. text_at ts j) s ∙ c.bare_here (sym at_it ∙ ap (λ j. entry_in (slice_set es id e) j) (sym s) ∙ none)
            (λ u. far (u ∙ ap Some (sym s)))
        | inr ne ↦ c.bare k ne (sym (elsewhere k ne) ∙ none) far
      ];
      marked = c.marked;
    }

module _ (es : List (Option Entry)) (order : List ℕ) (mark : Option Mark) (texts : List (List ℕ)) (h : IsFiles es order mark texts) where
  -- what the order says of a number
  pub ordered : (id : ℕ) → 0 < count id order → is_file (entry_in es id) ≡ true
  ordered id some = listed_file (is_file (entry_in es id)) (count id order) (h.listed id) some

  pub count_file : (id : ℕ) → is_file (entry_in es id) ≡ true → count id order ≡ 1
  count_file id f = h.listed id ∙ ap (λ b. one_if b) f

  pub count_other : (id : ℕ) → is_file (entry_in es id) ≡ false → count id order ≡ 0
  count_other id f = h.listed id ∙ ap (λ b. one_if b) f

  pub once : (id : ℕ) → count id order ≤ 1
  once id = elim (cases_Bool (is_file (entry_in es id))) [
    | inl t ↦ let c = count_file id t in omega arith
    | inr f ↦ let c = count_other id f in omega arith
  ]

  -- there is a free number if there are few files or few drafts
  pub room : mark ≡ None → (length order < 256) ⊎ (count_by is_draft es < most_drafts) → count_by is_some es < length es
  room none few =
      let s = stand_or es in
      let n = h.number in
      let l = h.long in
      let a = h.few in
      let b = h.few_drafts in
      elim few [ inl x ↦ omega arith | inr x ↦ omega arith ]

  -- a file that is found, and names that are not
  pub found_file : (names : List ℕ) (id : ℕ) → found_in es names order ≡ Some id → (is_file (entry_in es id) ≡ true)
      × (same_names names (names_by (entry_in es id)) ≡ true)
  found_file names id e = let f = found_some es names order id e in (ordered id f.listed, f.named)

  pub found_fresh : (names : List ℕ) → found_in es names order ≡ None → (k : ℕ) → is_file (entry_in es k) ≡ true
      → same_names names (names_by (entry_in es k)) ≡ false
  found_fresh names e k f = let c = count_file k f in found_none es names order k e (omega arith)

  pub found_if : (names : List ℕ) (o : Option ℕ) → o ≡ found_in es names order → IfSome o (λ id. is_file (entry_in es id) ≡ true)
  found_if names None e = tt
  found_if names (Some id) e = (found_file names id (sym e)).0

  pub listed_if : (k : ℕ) (o : Option ℕ) → o ≡ slice_get order k → IfSome o (λ id. is_file (entry_in es id) ≡ true)
  listed_if k None e = tt
  listed_if k (Some id) e = ordered id (count-at id order k (sym e))

  length-taken : (id : ℕ) → length (without id order) + one_if (is_file (entry_in es id)) ≡ length order
  length-taken id = let a = length-without id order in let l = h.listed id in omega arith

  texts_of : (id k : ℕ) (ts : List (List ℕ)) → ts ≡ slice_set texts id [] → entry_in es k ≡ None → k ≢ id → unlinked_old mark ≢ Some k → text_at ts k ≡ []
  texts_of id k ts e none ne far = ap (λ xs. text_at xs k) e ∙ get_or-set_other texts id k [] [] ne ∙ h.bare k none far

  text_gone : (id : ℕ) (ts : List (List ℕ)) → ts ≡ slice_set texts id [] → text_at ts id ≡ []
  text_gone id ts e = ap (λ xs. text_at xs id) e ∙ elim (cases_lt id (length texts)) [
    | inl lt ↦ get_or-set_same texts id [] [] lt
    | inr ge ↦ get_or_past (slice_set texts id []) id [] (let l = length-set texts id [] in omega arith)
  ]

  -- what holds of the mark stays if another entry changes
  gone_stays : (id : ℕ) (e : Option Entry) (old : Option ℕ) → is_some (entry_in es id) ≡ true → Gone es old → Gone (slice_set es id e) old
  gone_stays id e None s g = tt
  gone_stays id e (Some old) s g = (
    g.0,
    get_or-set_other es id old e None
        (λ same. let f : is_some (entry_in es old) ≡ true = ap (λ j. is_some (entry_in es j)) same
        ∙ s in let n : is_some (entry_in es old) ≡ false = ap is_some g.1 in absurd (both_ways (is_some (entry_in es old)) n f)) ∙ g.1,
  )

  -- a draft that is not marked is dropped
  dropped_by : (id : ℕ) (p : Parts) → is_draft (entry_in es id) ≡ true → marked_draft (Some (record { owner = 0; parts = p })) ≢ Some id
      → Owes es p → Owes (slice_set es id None) p
  dropped_by id (Replace old draft) d ne o =
      let nf = draft_no_file (entry_in es id) d in
      let a : entry_in (slice_set es id None) old ≡ entry_in es old =
      get_or-set_other es id old None None (λ s. both_ways (is_file (entry_in es old)) (ap (λ j. is_file (entry_in es j)) s ∙ nf) o.file) in
      let b : entry_in (slice_set es id None) draft ≡ entry_in es draft = get_or-set_other es id draft None None (λ s. ne (ap Some s)) in
      record {
        file = ap is_file a ∙ o.file;
        unread = ap readers_by a ∙ o.unread;
        draft_stands = ap is_draft b ∙ o.draft_stands;
        names = carried (entry_in es draft) (entry_in (slice_set es id None) draft) (entry_in es old) (entry_in (slice_set es id None) old)
            (sym b) (sym a) o.names;
      }
  dropped_by id (Link old draft) d ne o =
      let b : entry_in (slice_set es id None) draft ≡ entry_in es draft = get_or-set_other es id draft None None (λ s. ne (ap Some s)) in
      record {
        gone = gone_stays id None old (draft_stands (entry_in es id) d) o.gone;
        draft_stands = ap is_draft b ∙ o.draft_stands;
        fresh = λ k f. elim (cases_eq k id) [
          | inl s ↦ let l = h.long in let w = within es id (draft_stands (entry_in es id) d) in let n : entry_in (slice_set es id None)
              k ≡ None = ap (λ j. entry_in (slice_set es id None) j) s
              ∙ get_or-set_same es id None None w in absurd (both_ways (is_file (entry_in (slice_set es id None) k)) (ap is_file n) f)
          | inr nk ↦ let a : entry_in (slice_set es id None) k ≡ entry_in es k =
              get_or-set_other es id k None None nk in ap (λ t. same_names (names_by t) (names_by (entry_in (slice_set es id None) k))) b
              ∙ ap (λ t. same_names (names_by (entry_in es draft)) (names_by t)) a ∙ o.fresh k (sym (ap is_file a) ∙ f)
        ];
      }
  dropped_by id (Free old) d ne o = gone_stays id None (Some old) (draft_stands (entry_in es id) d) o

  dropped_mark : (id : ℕ) (m : Option Mark) → is_draft (entry_in es id) ≡ true → marked_draft m ≢ Some id → Marked es m → Marked (slice_set es id None) m
  dropped_mark id None d ne o = tt
  dropped_mark id (Some m) d ne o = dropped_by id m.parts d ne o

  pub discarded_files : (id : ℕ) (ts : List (List ℕ)) → is_draft (entry_in es id) ≡ true → marked_draft mark ≢ Some id
      → ts ≡ slice_set texts id [] → IsFiles (slice_set es id None) order mark ts
  discarded_files id ts d ne t =
      let w = within es id (draft_stands (entry_in es id) d) in
      let l = h.long in
      let nf = draft_no_file (entry_in es id) d in
      changed es order mark texts h id None order mark ts (record {
        lt = omega arith;
        long = ap (λ xs. length xs) t ∙ length-set texts id [];
        here = count_other id nf;
        others = λ k nk. refl;
        number = ap (λ b. length order + one_if b) nf;
        few = h.few;
        few_drafts = let a = h.few_drafts in omega arith;
        fresh = λ f. cc;
        bare_here = λ n far. text_gone id ts t;
        bare = λ k nk none far. texts_of id k ts t none nk far;
        marked = dropped_mark id mark d ne h.marked;
      })

  pub deleted_files : (id : ℕ) (ts : List (List ℕ)) (ks : List ℕ) → is_file (entry_in es id) ≡ true → mark ≡ None
      → ts ≡ slice_set texts id [] → ks ≡ without id order → IsFiles (slice_set es id None) ks mark ts
  deleted_files id ts ks f none t o =
      let w = within es id (file_stands (entry_in es id) f) in
      let l = h.long in
      let lk = ap (λ xs. length xs) o in
      let ln = length-taken id in
      changed es order mark texts h id None ks mark ts (record {
        lt = omega arith;
        long = ap (λ xs. length xs) t ∙ length-set texts id [];
        here = ap (λ xs. count id xs) o ∙ count-without_same id order;
        others = λ k nk. ap (λ xs. count k xs) o ∙ count-without_other id k order nk;
        number = omega arith;
        few = let a = h.few in omega arith;
        few_drafts = let a = h.few_drafts in omega arith;
        fresh = λ g. cc;
        bare_here = λ n far. text_gone id ts t;
        bare = λ k nk no_entry far. texts_of id k ts t no_entry nk far;
        marked = subst (λ m. Marked (slice_set es id None) m) (sym none) tt;
      })

  -- a file of no words, or a draft of none
  pub made_file : (id : ℕ) (names : List ℕ) → entry_in es id ≡ None → id < numbers → mark ≡ None → length order < 256
      → found_in es names order ≡ None → IsFiles (slice_set es id (Some (File names 0))) (order ++ id ∷ []) mark texts
  made_file id names free lt none few fresh =
      let nf = none_file (entry_in es id) free in
      let lo = length-append order (id ∷ []) in
      let tc = ap to_come none in
      changed es order mark texts h id (Some (File names 0)) (order ++ id ∷ []) mark texts (record {
        lt = lt;
        long = refl;
        here = let a = count-append id order (id ∷ []) in let b = hit_same id in let c = count_other id nf in omega arith;
        others = λ k nk. let a = count-append k order (id ∷ []) in let b = hit_other k id nk in omega arith;
        number = let z = ap (λ b. one_if b) nf in omega arith;
        few = omega arith;
        few_drafts = let a = h.few_drafts in omega arith;
        fresh = λ g k nk f. found_fresh names fresh k f;
        bare_here = λ n far. cc;
        bare = λ k nk n far. h.bare k n far;
        marked = subst (λ m. Marked (slice_set es id (Some (File names 0))) m) (sym none) tt;
      })

  pub made_draft : (id : ℕ) (names : List ℕ) → entry_in es id ≡ None → id < numbers → mark ≡ None → count_by is_draft es < most_drafts
      → IsFiles (slice_set es id (Some (Draft names))) order mark texts
  made_draft id names free lt none few =
      let nf = none_file (entry_in es id) free in
      changed es order mark texts h id (Some (Draft names)) order mark texts (record {
        lt = lt;
        long = refl;
        here = count_other id nf;
        others = λ k nk. refl;
        number = ap (λ b. length order + one_if b) nf;
        few = h.few;
        few_drafts = let z = ap (λ x. one_if (is_draft x)) free in omega arith;
        fresh = λ g. cc;
        bare_here = λ n far. cc;
        bare = λ k nk n far. h.bare k n far;
        marked = subst (λ m. Marked (slice_set es id (Some (Draft names))) m) (sym none) tt;
      })

  -- a file with the same names and other readers, or with other names
  pub file_changed : (id : ℕ) (names : List ℕ) (n : ℕ) → is_file (entry_in es id) ≡ true
      → ((k : ℕ) → k ≢ id → is_file (entry_in es k) ≡ true → same_names names (names_by (entry_in es k)) ≡ false)
      → Marked (slice_set es id (Some (File names n))) mark → IsFiles (slice_set es id (Some (File names n))) order mark texts
  file_changed id names n f fresh m =
      let w = within es id (file_stands (entry_in es id) f) in
      let l = h.long in
      changed es order mark texts h id (Some (File names n)) order mark texts (record {
        lt = omega arith;
        long = refl;
        here = count_file id f;
        others = λ k nk. refl;
        number = ap (λ b. length order + one_if b) f;
        few = h.few;
        few_drafts = let a = h.few_drafts in omega arith;
        fresh = λ g. fresh;
        bare_here = λ e far. cc;
        bare = λ k nk e far. h.bare k e far;
        marked = m;
      })

  -- its own names are no other file's
  own_names : (id k : ℕ) → is_file (entry_in es id) ≡ true → k ≢ id → is_file (entry_in es k) ≡ true
      → same_names (names_by (entry_in es id)) (names_by (entry_in es k)) ≡ false
  own_names id k f ne g = false_from_ne_true (same_names (names_by (entry_in es id)) (names_by (entry_in es k))) (λ s. ne (sym (h.unique id k f g s)))

  pub renamed_files : (id : ℕ) (names : List ℕ) → is_file (entry_in es id) ≡ true → mark ≡ None → found_in es names order ≡ None
      → IsFiles (slice_set es id (Some (File names 0))) order mark texts
  renamed_files id names f none fresh =
      file_changed id names 0 f (λ k nk g. found_fresh names fresh k g) (subst (λ m. Marked (slice_set es id (Some (File names 0))) m) (sym none) tt)

  pub opened_files : (id : ℕ) (names : List ℕ) (n : ℕ) → is_file (entry_in es id) ≡ true → mark ≡ None → names ≡ names_by (entry_in es id)
      → IsFiles (slice_set es id (Some (File names n))) order mark texts
  opened_files id names n f none e =
      file_changed id names n f (λ k nk g. ap (λ ns. same_names ns (names_by (entry_in es k))) e ∙ own_names id k f nk g)
      (subst (λ m. Marked (slice_set es id (Some (File names n))) m) (sym none) tt)

  -- a file is read less: what holds of the mark is unchanged, because none of its files or drafts
  -- is read
  module _ (id : ℕ) (names : List ℕ) (n : ℕ) (read : 0 < readers_by (entry_in es id)) (e : names ≡ names_by (entry_in es id)) where
    unread_other : (k : ℕ) → readers_by (entry_in es k) ≡ 0 → entry_in (slice_set es id (Some (File names n))) k ≡ entry_in es k
    unread_other k z = get_or-set_other es id k (Some (File names n)) None (λ s. let t = ap (λ j. readers_by (entry_in es j)) s in absurd (omega arith))

    names_stay : (k : ℕ) → is_file (entry_in (slice_set es id (Some (File names n))) k) ≡ true → (is_file (entry_in es k) ≡ true)
        × (names_by (entry_in (slice_set es id (Some (File names n))) k) ≡ names_by (entry_in es k))
    names_stay k f = elim (cases_eq k id) [
      | inl s ↦
          let l = h.long in
          let r = reader_file (entry_in es id) read in
          let w = within es id (file_stands (entry_in es id) r) in
          let a : entry_in (slice_set es id (Some (File names n))) k ≡ Some (File names n) =
          ap (λ j. entry_in (slice_set es id (Some (File names n))) j) s ∙ get_or-set_same es id (Some (File names n)) None w in
          (ap (λ j. is_file (entry_in es j)) s ∙ r, ap names_by a ∙ e ∙ sym (ap (λ j. names_by (entry_in es j)) s))
      | inr ne ↦
          let a : entry_in (slice_set es id (Some (File names n))) k ≡ entry_in es k = get_or-set_other es id k (Some (File names n)) None ne in
          (sym (ap is_file a) ∙ f, ap names_by a)
    ]

    read_by : (p : Parts) → Owes es p → Owes (slice_set es id (Some (File names n))) p
    read_by (Replace old draft) o =
        let a = unread_other old o.unread in
        let b = unread_other draft (draft_unread (entry_in es draft) o.draft_stands) in
        record {
          file = ap is_file a ∙ o.file;
          unread = ap readers_by a ∙ o.unread;
          draft_stands = ap is_draft b ∙ o.draft_stands;
          names = carried (entry_in es draft) (entry_in (slice_set es id (Some (File names n))) draft) (entry_in es old)
              (entry_in (slice_set es id (Some (File names n))) old) (sym b) (sym a) o.names;
        }
    read_by (Link old draft) o =
        let b = unread_other draft (draft_unread (entry_in es draft) o.draft_stands) in
        record {
          gone = gone_stays id (Some (File names n)) old (file_stands (entry_in es id) (reader_file (entry_in es id) read)) o.gone;
          draft_stands = ap is_draft b ∙ o.draft_stands;
          fresh = λ k f.
              let t = names_stay k f in
              ap (λ x. same_names (names_by x) (names_by (entry_in (slice_set es id (Some (File names n))) k))) b
              ∙ ap (λ ns. same_names (names_by (entry_in es draft)) ns) t.1
              ∙ o.fresh k t.0;
        }
    read_by (Free old) o = gone_stays id (Some (File names n)) (Some old) (file_stands (entry_in es id) (reader_file (entry_in es id) read)) o

    read_mark : (m : Option Mark) → Marked es m → Marked (slice_set es id (Some (File names n))) m
    read_mark None o = tt
    read_mark (Some m) o = read_by m.parts o

    pub read_files : IsFiles (slice_set es id (Some (File names n))) order mark texts
    read_files =
        let f = reader_file (entry_in es id) read in
        file_changed id names n f (λ k nk g. ap (λ ns. same_names ns (names_by (entry_in es k))) e ∙ own_names id k f nk g) (read_mark mark h.marked)

  -- a close is marked
  mark_files : (m : Mark) → mark ≡ None → unlinked_old (Some m) ≡ None → length order + to_come (Some m) ≤ 256 → Owes es m.parts
      → IsFiles es order (Some m) texts
  mark_files m none far few o = record {
    long = h.long;
    texts_long = h.texts_long;
    listed = h.listed;
    number = h.number;
    few = few;
    few_drafts = h.few_drafts;
    unique = h.unique;
    bare = λ k e ne. h.bare k e (λ u. let v : None ≡ Some k = sym (ap unlinked_old none) ∙ u in cc);
    marked = o;
  }

  pub replace_files : (id slot old : ℕ) (names : List ℕ) → is_draft (entry_in es id) ≡ true → mark ≡ None
      → names ≡ names_by (entry_in es id) → found_in es names order ≡ Some old → readers_by (entry_in es old) ≡ 0
      → IsFiles es order (Some (record { owner = slot; parts = Replace old id })) texts
  replace_files id slot old names d none e found unread =
      let f = found_file names old found in
      mark_files (record { owner = slot; parts = Replace old id }) none refl (let a = h.few in omega arith) (record {
        file = f.0;
        unread = unread;
        draft_stands = d;
        names = sym (ap (λ ns. same_names ns (names_by (entry_in es old))) e) ∙ f.1;
      })

  pub link_files : (id slot : ℕ) (names : List ℕ) → is_draft (entry_in es id) ≡ true → mark ≡ None → names ≡ names_by (entry_in es id)
      → found_in es names order ≡ None → length order < 256 → IsFiles es order (Some (record { owner = slot; parts = Link None id })) texts
  link_files id slot names d none e found few =
      mark_files (record { owner = slot; parts = Link None id }) none refl (omega arith) (record {
        gone = tt;
        draft_stands = d;
        fresh = λ k f. sym (ap (λ ns. same_names ns (names_by (entry_in es k))) e) ∙ found_fresh names found k f;
      })

  -- the old file is unlinked
  pub unlinked_files : (owner old draft : ℕ) (ks : List ℕ) → mark ≡ Some (record { owner = owner; parts = Replace old draft })
      → ks ≡ without old order → IsFiles (slice_set es old None) ks (Some (record { owner = owner; parts = Link (Some old) draft })) texts
  unlinked_files owner old draft ks is o =
      let r : Replaces es old draft = subst (λ m. Marked es m) is h.marked in
      let f = r.file in
      let w = within es old (file_stands (entry_in es old) f) in
      let l = h.long in
      let lk = ap (λ xs. length xs) o in
      let ln = length-taken old in
      let one : one_if (is_file (entry_in es old)) ≡ 1 = ap (λ b. one_if b) f in
      let apart : draft ≢ old = λ s. both_ways (is_file (entry_in es old))
      (draft_no_file (entry_in es old) (sym (ap (λ j. is_draft (entry_in es j)) s) ∙ r.draft_stands)) f in
      let b : entry_in (slice_set es old None) draft ≡ entry_in es draft = get_or-set_other es old draft None None apart in
      let a : entry_in (slice_set es old None) old ≡ None = get_or-set_same es old None None w in
      changed es order mark texts h old None ks (Some (record { owner = owner; parts = Link (Some old) draft })) texts (record {
        lt = omega arith;
        long = refl;
        here = ap (λ xs. count old xs) o ∙ count-without_same old order;
        others = λ k nk. ap (λ xs. count k xs) o ∙ count-without_other old k order nk;
        number = omega arith;
        few = let c = h.few in omega arith;
        few_drafts = let c = h.few_drafts in omega arith;
        fresh = λ g. cc;
        bare_here = λ e far. absurd (far refl);
        bare = λ k nk e far. h.bare k e (λ u. let v : None ≡ Some k = sym (ap unlinked_old is) ∙ u in cc);
        marked = record {
          gone = (omega arith, a);
          draft_stands = ap is_draft b ∙ r.draft_stands;
          fresh = λ k g. elim (cases_eq k old) [
            | inl s ↦ absurd (both_ways (is_file (entry_in (slice_set es old None) k)) (ap is_file (ap (λ j. entry_in (slice_set es old None) j) s ∙ a)) g)
            | inr nk ↦
                let c : entry_in (slice_set es old None) k ≡ entry_in es k = get_or-set_other es old k None None nk in
                false_from_ne_true (same_names (names_by (entry_in (slice_set es old None) draft)) (names_by (entry_in (slice_set es old None) k)))
                (λ s. nk (sym (h.unique old k f (sym (ap is_file c) ∙ g)
                (same_both (names_by (entry_in es draft)) (names_by (entry_in es old)) (names_by (entry_in es k)) r.names
                (carried (entry_in (slice_set es old None) draft) (entry_in es draft) (entry_in (slice_set es old None) k) (entry_in es k) b c s)))))
          ];
        };
      })

  -- the draft becomes a file
  pub linked_files : (owner draft : ℕ) (old : Option ℕ) (names : List ℕ) (m : Option Mark)
      → mark ≡ Some (record { owner = owner; parts = Link old draft }) → names ≡ names_by (entry_in es draft) → m ≡ after_link old owner
      → IsFiles (slice_set es draft (Some (File names 0))) (order ++ draft ∷ []) m texts
  linked_files owner draft old names m is e next =
      let r : Links_to es old draft = subst (λ x. Marked es x) is h.marked in
      let s = draft_stands (entry_in es draft) r.draft_stands in
      let w = within es draft s in
      let l = h.long in
      let nf = draft_no_file (entry_in es draft) r.draft_stands in
      let lo = length-append order (draft ∷ []) in
      let tc = ap to_come is in
      let tn = ap to_come next ∙ none_to_come old owner in
      let dr : one_if (is_draft (entry_in es draft)) ≡ 1 = ap (λ b. one_if b) r.draft_stands in
      changed es order mark texts h draft (Some (File names 0)) (order ++ draft ∷ []) m texts (record {
        lt = omega arith;
        long = refl;
        here = let a = count-append draft order (draft ∷ []) in let b = hit_same draft in let c = count_other draft nf in omega arith;
        others = λ k nk. let a = count-append k order (draft ∷ []) in let b = hit_other k draft nk in omega arith;
        number = let z = ap (λ b. one_if b) nf in omega arith;
        few = let a = h.few in omega arith;
        few_drafts = let a = h.few_drafts in omega arith;
        fresh = λ g k nk f. ap (λ ns. same_names ns (names_by (entry_in es k))) e ∙ r.fresh k f;
        bare_here = λ n far. cc;
        bare = λ k nk n far. h.bare k n (λ u. far (ap unlinked_old next ∙ old_stays old owner ∙ sym (ap unlinked_old is) ∙ u));
        marked = subst (λ x. Marked (slice_set es draft (Some (File names 0))) x) (sym next) (after old r.gone);
      })
    where
      none_to_come : (o : Option ℕ) (slot : ℕ) → to_come (after_link o slot) ≡ 0
      none_to_come None slot = refl
      none_to_come (Some o) slot = refl

      old_stays : (o : Option ℕ) (slot : ℕ) → unlinked_old (after_link o slot) ≡ o
      old_stays None slot = refl
      old_stays (Some o) slot = refl

      after : (o : Option ℕ) → Gone es o → Marked (slice_set es draft (Some (File names 0))) (after_link o owner)
      after None g = tt
      after (Some o) g =
          let r : Links_to es old draft = subst (λ x. Marked es x) is h.marked in
          gone_stays draft (Some (File names 0)) (Some o) (draft_stands (entry_in es draft) r.draft_stands) g

  -- the blocks of the old file become free
  pub freed_files : (owner old : ℕ) (ts : List (List ℕ)) → mark ≡ Some (record { owner = owner; parts = Free old })
      → ts ≡ slice_set texts old [] → IsFiles es order None ts
  freed_files owner old ts is t = record {
    long = h.long;
    texts_long = ap (λ xs. length xs) t ∙ length-set texts old [] ∙ h.texts_long;
    listed = h.listed;
    number = h.number;
    few = let a = h.few in omega arith;
    few_drafts = h.few_drafts;
    unique = h.unique;
    bare = λ k e far. elim (cases_eq k old) [
      | inl s ↦ ap (λ j. text_at ts j) s ∙ text_gone old ts t
      | inr ne ↦ texts_of old k ts t e ne (λ u. ne (let v : Some old ≡ Some k = sym (ap unlinked_old is) ∙ u in cc))
    ];
    marked = tt;
  }

-- neither files nor drafts
none_counted : (p : Option Entry → Bool) (n : ℕ) → p None ≡ false → count_by p (filled n None) ≡ n * 0
unfolding filled
none_counted p n e = sum_by-replicate (λ x. cond (p x) 1 0) n None ∙ ap (λ b. n * cond b 1 0) e

pub opened_store : (es : List (Option Entry)) (order : List ℕ) (texts : List (List ℕ)) → es ≡ filled numbers None → order ≡ []
    → texts ≡ filled numbers [] → IsFiles es order None texts
opened_store es order texts a b c =
    let at : (k : ℕ) → entry_in es k ≡ None = λ k. ap (λ xs. entry_in xs k) a ∙ get_or-filled numbers k None in
    let lo : length order ≡ 0 = ap (λ xs. length xs) b in
    record {
      long = ap (λ xs. length xs) a ∙ length-filled numbers None;
      texts_long = ap (λ xs. length xs) c ∙ length-filled numbers [];
      listed = λ k. ap (λ xs. count k xs) b ∙ sym (ap (λ x. one_if (is_file x)) (at k));
      number = let n = ap (λ xs. count_by is_file xs) a ∙ none_counted is_file numbers refl in omega arith;
      few = omega arith;
      few_drafts = let n = ap (λ xs. count_by is_draft xs) a ∙ none_counted is_draft numbers refl in omega arith;
      unique = λ i j f g s. absurd (both_ways (is_file (entry_in es i)) (ap is_file (at i)) f);
      bare = λ k e far. ap (λ xs. text_at xs k) c ∙ get_or-filled numbers k [];
      marked = tt;
    }
