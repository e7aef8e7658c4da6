-- What each change of the store does to the directory.
use Rattle.std.specs.Prelude.{◌≡◌, ◌≢◌, ◌<◌, ℕ, true, false, eqb, ◌⊎◌, Option, Some, None, is_some, Result, Ok, Err, OnOk, List, [], ◌∷◌, ◌++◌, length, map, slice_set, slice_index_or, refl}
use Rattle.std.proofs.Common.{sym, ◌∙◌, ap, inl, inr, arith, length-set}
use Rattle.std.proofs.lemmas.Bool.{cases_eq, cases_lt, both_ways, false_from_ne_true, eq-eqb, ne_eqb}
use Rattle.std.proofs.lemmas.List.{map-append, get_or-set_same, get_or-set_other, get_or_past}
use Rattle.its_word.specs.Only.{Only}
use Rattle.its_word.specs.Directory.{File as PlainFile, same_names, without_names, kept_file, with_changed, longer, named, closed}
use Rattle.its_links.specs.Lists.{count, without}
use Rattle.its_links.proofs.CountLaws.{hit_same, hit_other, count-append, count-without_same, count-without_other}
use Rattle.its_files.specs.declared.entry.Entry.{Entry}
use Rattle.its_files.specs.declared.entry.Entry.TheVariants.{File, Draft}
use Rattle.its_files.specs.declared.entry.Parts.{Parts}
use Rattle.its_files.specs.declared.entry.Parts.TheVariants.{Replace, Link, Free}
use Rattle.its_files.specs.declared.entry.Mark.{Mark}
use Rattle.its_files.specs.Blocks.{Stored, text_at, after_giving_up, numbers}
use Rattle.its_files.specs.Files.{Store, entry_at, entry_in, is_file, is_draft, names_by, names_at, words_by, words_at, unlinked_old, with_file, with_draft, with_word, after_discard, after_delete, after_rename, with_readers, with_mark, after_help, marked_draft, after_unlink_old, after_link_new, after_free_old, found, file_at, directory, plain_directory, readers_by, file_names_by, draft_file_by, is_marked, But, IsFiles}
use Rattle.its_word.proofs.NamesLaws.{same_sym, same_refl, same_self}
use Rattle.its_files.proofs.EntryLaws.{within, file_stands, draft_no_file, draft_stands, found_file, found_fresh, ordered, count_other}

-- what follows from what holds at an Ok
pub on_ok : {T E : Type 0} {P Q : Type 0} (r : Result T E) → (P → Q) → OnOk r P → OnOk r Q
on_ok (Ok x) f p = f p
on_ok (Err e) f p = p

pub words_stand : (e : Option Entry) (ws : List ℕ) → is_some e ≡ true → ws ≡ words_by e ws
words_stand None ws z = cc
words_stand (Some e) ws z = refl

-- numbers whose files are the same in two stores
pub files_alike : (s t : Store) (ks : List ℕ) → ((k : ℕ) → 0 < count k ks → file_at t k ≡ file_at s k) → map (file_at t) ks ≡ map (file_at s) ks
files_alike s t [] h = refl
files_alike s t (k ∷ ks) h =
    let a : file_at t k ≡ file_at s k = h k (let e = hit_same k in omega arith) in
    let r = files_alike s t ks (λ j some. h j (omega arith)) in
    cc

-- one of them goes
files_without : (s t : Store) (id : ℕ) (ks : List ℕ) → ((k : ℕ) → 0 < count k ks → k ≢ id → (file_at t k ≡ file_at s k)
    × (same_names (names_at s id) (names_at s k) ≡ false)) → map (file_at t) (without id ks) ≡ without_names (names_at s id) (map (file_at s) ks)
files_without s t id [] h = refl
files_without s t id (k ∷ ks) h =
    let r = files_without s t id ks (λ j some ne. h j (omega arith) ne) in
    elim (cases_eq id k) [
      | inl e ↦
          let a : eqb id k ≡ true = eq-eqb id k e in
          let b : same_names (names_at s id) (names_at s k) ≡ true = ap (λ j. same_names (names_at s id) (names_at s j)) (sym e)
          ∙ same_refl (names_at s id) in
          rw (a, b) r
      | inr ne ↦
          let a : eqb id k ≡ false = ne_eqb id k ne in
          let p = h k (let e = hit_same k in omega arith) (λ e. ne (sym e)) in
          let b : same_names (names_at s id) (names_at s k) ≡ false = p.1 in
          let f : file_at t k ≡ file_at s k = p.0 in
          rw (a, b) (ap (λ x. x ∷ map (file_at t) (without id ks)) f ∙ ap (λ xs. file_at s k ∷ xs) r)
    ]

-- one of them changes
files_changed : (s t : Store) (id : ℕ) (g : PlainFile → PlainFile) (ks : List ℕ) → file_at t id ≡ g (file_at s id)
    → ((k : ℕ) → 0 < count k ks → k ≢ id → (file_at t k ≡ file_at s k) × (same_names (names_at s id) (names_at s k) ≡ false))
    → map (file_at t) ks ≡ with_changed (names_at s id) g (map (file_at s) ks)
files_changed s t id g [] here h = refl
files_changed s t id g (k ∷ ks) here h =
    let r = files_changed s t id g ks here (λ j some ne. h j (omega arith) ne) in
    elim (cases_eq k id) [
      | inl e ↦
          let b : same_names (names_at s id) (names_at s k) ≡ true = ap (λ j. same_names (names_at s id) (names_at s j)) e ∙ same_refl (names_at s id) in
          let f : file_at t k ≡ g (file_at s k) = ap (λ j. file_at t j) e ∙ here ∙ ap (λ j. g (file_at s j)) (sym e) in
          rw b (ap (λ x. x ∷ map (file_at t) ks) f ∙ ap (λ xs. g (file_at s k) ∷ xs) r)
      | inr ne ↦
          let p = h k (let e = hit_same k in omega arith) ne in
          let b : same_names (names_at s id) (names_at s k) ≡ false = p.1 in
          let f : file_at t k ≡ file_at s k = p.0 in
          rw b (ap (λ x. x ∷ map (file_at t) ks) f ∙ ap (λ xs. file_at s k ∷ xs) r)
    ]

-- names that are the same take out the same
pub without_same : (a b : List ℕ) (fs : List PlainFile) → same_names a b ≡ true → without_names a fs ≡ without_names b fs
without_same a b [] e = refl
without_same a b (f ∷ fs) e =
    ap (λ x. kept_file x f (without_names a fs)) (same_self a b f.names e) ∙ ap (λ xs. kept_file (same_names b f.names) f xs) (without_same a b fs e)

-- names that no file has
without_fresh : (names : List ℕ) (s : Store) (ks : List ℕ) → ((k : ℕ) → 0 < count k ks → same_names names (names_at s k) ≡ false)
    → without_names names (map (file_at s) ks) ≡ map (file_at s) ks
without_fresh names s [] h = refl
without_fresh names s (k ∷ ks) h =
    let b : same_names names (names_at s k) ≡ false = h k (let e = hit_same k in omega arith) in
    let r = without_fresh names s ks (λ j some. h j (omega arith)) in
    rw b (ap (λ xs. file_at s k ∷ xs) r)

module _ (s : Store) (h : IsFiles s.entries s.order s.mark s.stored.texts) where
  abbrev listed_file : (k : ℕ) → 0 < count k s.order → is_file (entry_at s k) ≡ true
  listed_file k some = ordered s.entries s.order s.mark s.stored.texts h k some

  -- the names of a file are no other's
  own : (id k : ℕ) → is_file (entry_at s id) ≡ true → 0 < count k s.order → k ≢ id → same_names (names_at s id) (names_at s k) ≡ false
  own id k f some ne = false_from_ne_true (same_names (names_at s id) (names_at s k)) (λ e. ne (sym (h.unique id k f (listed_file k some) e)))

  -- the store as it is except for one number
  pub directory_same : (t : Store) → t.order ≡ s.order → ((k : ℕ) → is_file (entry_at s k) ≡ true → file_at t k ≡ file_at s k) → directory t ≡ directory s
  directory_same t o e = ap (λ ks. map (file_at t) ks) o ∙ files_alike s t s.order (λ k some. e k (listed_file k some))

  pub directory_more : (t : Store) (id : ℕ) → t.order ≡ s.order ++ id ∷ [] → is_file (entry_at s id) ≡ false
      → ((k : ℕ) → k ≢ id → file_at t k ≡ file_at s k) → directory t ≡ directory s ++ file_at t id ∷ []
  directory_more t id o nf e =
      let n = count_other s.entries s.order s.mark s.stored.texts h id nf in
      ap (λ ks. map (file_at t) ks) o ∙ map-append (file_at t) s.order (id ∷ [])
      ∙ ap (λ fs. fs ++ file_at t id ∷ []) (files_alike s t s.order (λ k some. e k (λ z. let c = ap (λ j. count j s.order) z in absurd (omega arith))))

  pub directory_without : (t : Store) (id : ℕ) → t.order ≡ without id s.order → is_file (entry_at s id) ≡ true
      → ((k : ℕ) → k ≢ id → file_at t k ≡ file_at s k) → directory t ≡ without_names (names_at s id) (directory s)
  directory_without t id o f e = ap (λ ks. map (file_at t) ks) o ∙ files_without s t id s.order (λ k some ne. (e k ne, own id k f some ne))

  pub directory_changed : (t : Store) (id : ℕ) (g : PlainFile → PlainFile) → t.order ≡ s.order → is_file (entry_at s id) ≡ true
      → file_at t id ≡ g (file_at s id) → ((k : ℕ) → k ≢ id → file_at t k ≡ file_at s k) → directory t ≡ with_changed (names_at s id) g (directory s)
  directory_changed t id g o f here e = ap (λ ks. map (file_at t) ks) o ∙ files_changed s t id g s.order here (λ k some ne. (e k ne, own id k f some ne))

  -- a draft becomes the last file: of new names, or instead of the file with its names
  pub directory_closed_new : (t : Store) (id : ℕ) → t.order ≡ s.order ++ id ∷ [] → is_draft (entry_at s id) ≡ true
      → found s (names_at s id) ≡ None → file_at t id ≡ file_at s id → ((k : ℕ) → k ≢ id → file_at t k ≡ file_at s k)
      → directory t ≡ closed (file_at s id) (directory s)
  directory_closed_new t id o d fresh here e =
      directory_more t id o (draft_no_file (entry_at s id) d) e
      ∙ ap (λ f. directory s ++ f ∷ []) here
      ∙ ap (λ fs. fs ++ file_at s id ∷ []) (sym (without_fresh (names_at s id) s s.order
      (λ k some. found_fresh s.entries s.order s.mark s.stored.texts h (names_at s id) fresh k (listed_file k some))))

  pub directory_closed_old : (t : Store) (id old : ℕ) → t.order ≡ without old s.order ++ id ∷ [] → found s (names_at s id) ≡ Some old
      → file_at t id ≡ file_at s id → ((k : ℕ) → k ≢ id → k ≢ old → file_at t k ≡ file_at s k) → is_draft (entry_at s id) ≡ true
      → directory t ≡ closed (file_at s id) (directory s)
  directory_closed_old t id old o fnd here e d =
      let f = found_file s.entries s.order s.mark s.stored.texts h (names_at s id) old fnd in
      let n = count_other s.entries s.order s.mark s.stored.texts h id (draft_no_file (entry_at s id) d) in
      ap (λ ks. map (file_at t) ks) o ∙ map-append (file_at t) (without old s.order) (id ∷ [])
      ∙ ap (λ x. map (file_at t) (without old s.order) ++ x ∷ []) here
      ∙ ap (λ fs. fs ++ file_at s id ∷ [])
      (files_without s t old s.order (λ k some ne. (e k (λ z. let c = ap (λ j. count j s.order) z in absurd (omega arith)) ne, own old k f.0 some ne))
      ∙ without_same (names_at s old) (names_at s id) (directory s) (same_sym (names_at s id) (names_at s old) f.1))

  -- each change, as its definition makes it
  pub file_is : (t : Store) (k : ℕ) → names_at t k ≡ names_at s k → words_at t k ≡ words_at s k → file_at t k ≡ file_at s k
  file_is t k a b = λ i. record { names = a i; words = b i }

  pub entries_apart : (id k : ℕ) (e : Option Entry) → k ≢ id → entry_in (slice_set s.entries id e) k ≡ entry_at s k
  entries_apart id k e ne = get_or-set_other s.entries id k e None ne

  pub file_apart : (id k : ℕ) (e : Option Entry) → k ≢ id → file_at (record s { entries = slice_set s.entries id e }) k ≡ file_at s k
  file_apart id k e ne =
      let a = entries_apart id k e ne in
      file_is (record s { entries = slice_set s.entries id e }) k (ap names_by a) (ap (λ x. words_by x (text_at s.stored.texts k)) a)

  pub with_file_directory : (id : ℕ) (names : List ℕ) → entry_at s id ≡ None → id < numbers → s.mark ≡ None
      → directory (with_file s id names) ≡ directory s ++ record { names = names; words = [] } ∷ []
  with_file_directory id names free lt none =
      let l = h.long in
      let a : entry_in (slice_set s.entries id (Some (File names 0))) id ≡ Some (File names 0) =
      get_or-set_same s.entries id (Some (File names 0)) None (omega arith) in
      let b : text_at s.stored.texts id ≡ [] = h.bare id free (λ u. let v : None ≡ Some id = sym (ap unlinked_old none) ∙ u in cc) in
      let f : file_at (with_file s id names) id ≡ record { names = names; words = [] } =
      λ i. record { names = ap names_by a i; words = (ap (λ x. words_by x (text_at s.stored.texts id)) a ∙ b) i } in
      directory_more (with_file s id names) id refl (ap is_file free) (λ k ne. file_apart id k (Some (File names 0)) ne)
      ∙ ap (λ x. directory s ++ x ∷ []) f

  pub with_draft_directory : (id : ℕ) (names : List ℕ) → entry_at s id ≡ None → directory (with_draft s id names) ≡ directory s
  with_draft_directory id names free =
      directory_same (with_draft s id names) refl (λ k f. file_apart id k (Some (Draft names))
      (λ e. both_ways (is_file (entry_at s k)) (ap (λ j. is_file (entry_at s j)) e ∙ ap is_file free) f))

  pub texts_apart : (t : Store) (id k : ℕ) (w : List ℕ) → t.entries ≡ s.entries → t.stored.texts ≡ slice_set s.stored.texts id w → k ≢ id
      → file_at t k ≡ file_at s k
  texts_apart t id k w e x ne =
      let a = ap (λ es. entry_in es k) e in
      let b : text_at t.stored.texts k ≡ text_at s.stored.texts k = ap (λ xs. text_at xs k) x ∙ get_or-set_other s.stored.texts id k w [] ne in
      file_is t k (ap names_by a) (ap (λ y. words_by y (text_at t.stored.texts k)) a ∙ ap (λ ws. words_by (entry_at s k) ws) b)

  pub with_word_file : (id w : ℕ) → is_file (entry_at s id) ≡ true → directory (with_word s id w) ≡ with_changed (names_at s id) (longer w) (directory s)
  with_word_file id w f =
      let l = h.long in
      let x = h.texts_long in
      let lt = within s.entries id (file_stands (entry_at s id) f) in
      let b : text_at (slice_set s.stored.texts id (text_at s.stored.texts id ++ w ∷ [])) id ≡ text_at s.stored.texts id ++ w
      ∷ [] = get_or-set_same s.stored.texts id (text_at s.stored.texts id ++ w ∷ []) [] (omega arith) in
      let g : file_at (with_word s id w) id ≡ longer w (file_at s id) =
      λ i. record {
        names = names_at s id;
        words = (ap (λ ws. words_by (entry_at s id) ws) b
            ∙ words_more (entry_at s id) (text_at s.stored.texts id) w (file_stands (entry_at s id) f)) i;
      } in
      directory_changed (with_word s id w) id (longer w) refl f g
      (λ k ne. texts_apart (with_word s id w) id k (text_at s.stored.texts id ++ w ∷ []) refl refl ne)
    where
      words_more : (e : Option Entry) (ws : List ℕ) (v : ℕ) → is_some e ≡ true → words_by e (ws ++ v ∷ []) ≡ words_by e ws ++ v ∷ []
      words_more None ws v z = cc
      words_more (Some e) ws v z = refl

  pub with_word_draft : (id w : ℕ) → is_draft (entry_at s id) ≡ true → directory (with_word s id w) ≡ directory s
  with_word_draft id w d =
      directory_same (with_word s id w) refl (λ k f. texts_apart (with_word s id w) id k (text_at s.stored.texts id ++ w ∷ []) refl refl
      (λ e. both_ways (is_file (entry_at s k)) (ap (λ j. is_file (entry_at s j)) e ∙ draft_no_file (entry_at s id) d) f))

  pub gone_apart : (t : Store) (id k : ℕ) → t.entries ≡ slice_set s.entries id None → t.stored.texts ≡ slice_set s.stored.texts id []
      → k ≢ id → file_at t k ≡ file_at s k
  gone_apart t id k e x ne =
      let a : entry_at t k ≡ entry_at s k = ap (λ es. entry_in es k) e ∙ entries_apart id k None ne in
      let b : text_at t.stored.texts k ≡ text_at s.stored.texts k = ap (λ xs. text_at xs k) x ∙ get_or-set_other s.stored.texts id k [] [] ne in
      file_is t k (ap names_by a) (ap (λ y. words_by y (text_at t.stored.texts k)) a ∙ ap (λ ws. words_by (entry_at s k) ws) b)

  pub discarded_directory : (id : ℕ) → is_draft (entry_at s id) ≡ true → directory (after_discard s id) ≡ directory s
  discarded_directory id d =
      directory_same (after_discard s id) refl (λ k f. gone_apart (after_discard s id) id k refl refl
      (λ e. both_ways (is_file (entry_at s k)) (ap (λ j. is_file (entry_at s j)) e ∙ draft_no_file (entry_at s id) d) f))

  pub deleted_directory : (id : ℕ) → is_file (entry_at s id) ≡ true → directory (after_delete s id) ≡ without_names (names_at s id) (directory s)
  deleted_directory id f = directory_without (after_delete s id) id refl f (λ k ne. gone_apart (after_delete s id) id k refl refl ne)

  pub renamed_directory : (id : ℕ) (names : List ℕ) → is_file (entry_at s id) ≡ true
      → directory (after_rename s id names) ≡ with_changed (names_at s id) (named names) (directory s)
  renamed_directory id names f =
      let l = h.long in
      let lt = within s.entries id (file_stands (entry_at s id) f) in
      let a : entry_in (slice_set s.entries id (Some (File names 0))) id ≡ Some (File names 0) = get_or-set_same s.entries id (Some (File names 0)) None lt in
      let g : file_at (after_rename s id names) id ≡ named names (file_at s id) =
      λ i. record {
        names = ap names_by a i;
        words = (ap (λ x. words_by x (text_at s.stored.texts id)) a
            ∙ words_stand (entry_at s id) (text_at s.stored.texts id) (file_stands (entry_at s id) f)) i;
      } in
      directory_changed (after_rename s id names) id (named names) refl f g (λ k ne. file_apart id k (Some (File names 0)) ne)

  pub with_readers_directory : (id n : ℕ) → is_file (entry_at s id) ≡ true → directory (with_readers s id n) ≡ directory s
  with_readers_directory id n f =
      let lt = within s.entries id (file_stands (entry_at s id) f) in
      let a : entry_in (slice_set s.entries id (Some (File (names_at s id) n))) id ≡ Some (File (names_at s id) n) =
      get_or-set_same s.entries id (Some (File (names_at s id) n)) None lt in
      directory_same (with_readers s id n) refl (λ k g. elim (cases_eq k id) [
        | inl e ↦
            ap (λ j. file_at (with_readers s id n) j) e
            ∙ (λ i. record {
              names = ap names_by a i;
              words =
                  (ap (λ x. words_by x (text_at s.stored.texts id)) a
                  ∙ words_stand (entry_at s id) (text_at s.stored.texts id) (file_stands (entry_at s id) f)) i;
            })
            ∙ ap (λ j. file_at s j) (sym e)
        | inr ne ↦ file_apart id k (Some (File (names_at s id) n)) ne
      ])

  -- a close that is marked: the directory with all its parts made is that of the plain machine
  pub plain_replaced : (id slot old : ℕ) → is_draft (entry_at s id) ≡ true → found s (names_at s id) ≡ Some old
      → plain_directory (with_mark s slot (Replace old id)) ≡ closed (file_at s id) (directory s)
  plain_replaced id slot old d fnd =
      let l = h.long in
      let lt = within s.entries id (draft_stands (entry_at s id) d) in
      let f = found_file s.entries s.order s.mark s.stored.texts h (names_at s id) old fnd in
      let ne : id ≢ old = λ e. both_ways (is_file (entry_at s id)) (draft_no_file (entry_at s id) d) (ap (λ j. is_file (entry_at s j)) e ∙ f.0) in
      let es = slice_set s.entries old None in
      let t = after_help (with_mark s slot (Replace old id)) in
      let b : entry_in es id ≡ entry_at s id = entries_apart old id None ne in
      let ls = length-set s.entries old None in
      let here : entry_at t id ≡ Some (File (names_by (entry_in es id)) 0) =
      get_or-set_same es id (Some (File (names_by (entry_in es id)) 0)) None (omega arith) in
      let x : text_at t.stored.texts id ≡ text_at s.stored.texts id = get_or-set_other s.stored.texts old id [] [] ne in
      let g : file_at t id ≡ file_at s id =
      file_is t id (ap names_by here ∙ ap names_by b)
      (ap (λ y. words_by y (text_at t.stored.texts id)) here ∙ x
      ∙ words_stand (entry_at s id) (text_at s.stored.texts id) (draft_stands (entry_at s id) d)) in
      directory_closed_old t id old refl fnd g
      (λ k nk no_old.
      let c : entry_at t k ≡ entry_at s k = get_or-set_other es id k (Some (File (names_by (entry_in es id)) 0)) None nk ∙ entries_apart old k None no_old in
      let y : text_at t.stored.texts k ≡ text_at s.stored.texts k = get_or-set_other s.stored.texts old k [] [] no_old in
      file_is t k (ap names_by c) (ap (λ z. words_by z (text_at t.stored.texts k)) c ∙ ap (λ ws. words_by (entry_at s k) ws) y))
      d

  pub plain_linked : (id slot : ℕ) → is_draft (entry_at s id) ≡ true → found s (names_at s id) ≡ None
      → plain_directory (with_mark s slot (Link None id)) ≡ closed (file_at s id) (directory s)
  plain_linked id slot d fresh =
      let lt = within s.entries id (draft_stands (entry_at s id) d) in
      let t = after_help (with_mark s slot (Link None id)) in
      let here : entry_at t id ≡ Some (File (names_at s id) 0) = get_or-set_same s.entries id (Some (File (names_at s id) 0)) None lt in
      let g : file_at t id ≡ file_at s id =
      file_is t id (ap names_by here)
      (ap (λ y. words_by y (text_at s.stored.texts id)) here ∙ words_stand (entry_at s id) (text_at s.stored.texts id) (draft_stands (entry_at s id) d)) in
      directory_closed_new t id refl d fresh g (λ k nk. file_apart id k (Some (File (names_at s id) 0)) nk)

-- making parts leaves the plain directory as it is
helped_unlinked : (es : List (Option Entry)) (order : List ℕ) (st : Stored) (m : Option Mark)
    → after_help (after_unlink_old (record { entries = es; order = order; mark = m; stored = st })) ≡ after_help
    (record { entries = es; order = order; mark = m; stored = st })
helped_unlinked es order st None = refl
helped_unlinked es order st (Some m) = go m.owner m.parts
  where
    go : (o : ℕ) (p : Parts) → after_help (after_unlink_old (record
        { entries = es; order = order; mark = Some (record { owner = o; parts = p }); stored = st })) ≡ after_help
        (record { entries = es; order = order; mark = Some (record { owner = o; parts = p }); stored = st })
    go o (Replace old draft) = refl
    go o (Link old draft) = refl
    go o (Free old) = refl

helped_linked : (es : List (Option Entry)) (order : List ℕ) (st : Stored) (m : Option Mark)
    → directory (after_help (after_link_new (record { entries = es; order = order; mark = m; stored = st }))) ≡ directory
    (after_help (record { entries = es; order = order; mark = m; stored = st }))
helped_linked es order st None = refl
helped_linked es order st (Some m) = go m.owner m.parts
  where
    go : (o : ℕ) (p : Parts) → directory (after_help (after_link_new
        (record { entries = es; order = order; mark = Some (record { owner = o; parts = p }); stored = st }))) ≡ directory
        (after_help (record { entries = es; order = order; mark = Some (record { owner = o; parts = p }); stored = st }))
    go o (Replace old draft) = refl
    go o (Link None draft) = refl
    go o (Link (Some old) draft) = refl
    go o (Free old) = refl

helped_freed : (es : List (Option Entry)) (order : List ℕ) (st : Stored) (m : Option Mark)
    → directory (after_help (after_free_old (record { entries = es; order = order; mark = m; stored = st }))) ≡ directory
    (after_help (record { entries = es; order = order; mark = m; stored = st }))
helped_freed es order st None = refl
helped_freed es order st (Some m) = go m.owner m.parts
  where
    go : (o : ℕ) (p : Parts) → directory (after_help (after_free_old
        (record { entries = es; order = order; mark = Some (record { owner = o; parts = p }); stored = st }))) ≡ directory
        (after_help (record { entries = es; order = order; mark = Some (record { owner = o; parts = p }); stored = st }))
    go o (Replace old draft) = refl
    go o (Link old draft) = refl
    go o (Free old) = refl

pub plain_unlinked_is : (s t : Store) → t ≡ after_unlink_old s → plain_directory t ≡ plain_directory s
plain_unlinked_is s t e = ap plain_directory e ∙ ap directory (helped_unlinked s.entries s.order s.stored s.mark)

pub plain_linked_is : (s t : Store) → t ≡ after_link_new s → plain_directory t ≡ plain_directory s
plain_linked_is s t e = ap plain_directory e ∙ helped_linked s.entries s.order s.stored s.mark

pub plain_freed_is : (s t : Store) → t ≡ after_free_old s → plain_directory t ≡ plain_directory s
plain_freed_is s t e = ap plain_directory e ∙ helped_freed s.entries s.order s.stored s.mark

helped_done : (es : List (Option Entry)) (order : List ℕ) (st : Stored) (m : Option Mark)
    → (after_help (record { entries = es; order = order; mark = m; stored = st })).mark ≡ None
helped_done es order st None = refl
helped_done es order st (Some m) = go m.owner m.parts
  where
    go : (o : ℕ) (p : Parts) → (after_help (record { entries = es; order = order; mark = Some (record { owner = o; parts = p }); stored = st })).mark ≡ None
    go o (Replace old draft) = refl
    go o (Link None draft) = refl
    go o (Link (Some old) draft) = refl
    go o (Free old) = refl

pub helped_unmarked : (s t : Store) → t ≡ after_help s → t.mark ≡ None
helped_unmarked s t e = ap (λ x. x.mark) e ∙ helped_done s.entries s.order s.stored s.mark

-- a number that is given up or read less is in no directory that results from the mark
agree_set : {X Y : Type 0} (f : X → Y) (xs ys : List X) (i k : ℕ) (v d : X) → length xs ≡ length ys
    → f (slice_index_or xs k d) ≡ f (slice_index_or ys k d) → f (slice_index_or (slice_set xs i v) k d) ≡ f (slice_index_or (slice_set ys i v) k d)
agree_set f xs ys i k v d l e = elim (cases_eq k i) [
  | inl s ↦ elim (cases_lt i (length xs)) [
    | inl lt ↦
        let a : slice_index_or (slice_set xs i v) k d ≡ v = ap (λ j. slice_index_or (slice_set xs i v) j d) s ∙ get_or-set_same xs i v d lt in
        let b : slice_index_or (slice_set ys i v) k d ≡ v = ap (λ j. slice_index_or (slice_set ys i v) j d) s ∙ get_or-set_same ys i v d (omega arith) in
        ap f (a ∙ sym b)
    | inr ge ↦
        let p = length-set xs i v in
        let q = length-set ys i v in
        ap f (get_or_past (slice_set xs i v) k d (omega arith) ∙ sym (get_or_past (slice_set ys i v) k d (omega arith)))
  ]
  | inr ne ↦ ap f (get_or-set_other xs i k v d ne) ∙ e ∙ sym (ap f (get_or-set_other ys i k v d ne))
]

-- what channels see, from what changes
pub but_is : (s t : Store) (id : ℕ) (e : Option Entry) (w : List ℕ) → Only (entry_at s) (entry_at t) id e
    → Only (words_at s) (words_at t) id w → ((k : ℕ) → k ≢ id → is_marked t k ≡ is_marked s k) → But s t id
but_is s t id e w a b m = record {
  names = record { here = refl; others = λ k ne. ap file_names_by (a.others k ne) };
  readers = record { here = refl; others = λ k ne. ap readers_by (a.others k ne) };
  drafts = record {
    here = refl;
    others = λ k ne. ap (λ x. draft_file_by x (words_at t k)) (a.others k ne)
        ∙ ap (λ ws. draft_file_by (entry_at s k) ws) (b.others k ne);
  };
  marked = record { here = refl; others = m };
}

-- two stores that show the same under a number
pub record Agree (s t : Store) (k : ℕ) : Type 0 where
  pub names : names_at t k ≡ names_at s k
  pub stands : is_some (entry_at t k) ≡ is_some (entry_at s k)
  pub text : text_at t.stored.texts k ≡ text_at s.stored.texts k

words_alike : (e f : Option Entry) (ws : List ℕ) → is_some e ≡ is_some f → words_by e ws ≡ words_by f ws
words_alike None None ws h = refl
words_alike None (Some f) ws h = cc
words_alike (Some e) None ws h = cc
words_alike (Some e) (Some f) ws h = refl

agree_file : (s t : Store) (k : ℕ) → Agree s t k → file_at t k ≡ file_at s k
agree_file s t k a =
    let w = words_alike (entry_at t k) (entry_at s k) (text_at t.stored.texts k) a.stands ∙ ap (λ ws. words_by (entry_at s k) ws) a.text in
    λ i. record { names = a.names i; words = w i }

-- an entry, or a text, is set in both
abbrev set_entry : Store → ℕ → Option Entry → Store
set_entry s id e = record s { entries = slice_set s.entries id e }

module _ (s t : Store) (le : length t.entries ≡ length s.entries) (lt : length t.stored.texts ≡ length s.stored.texts) where
  agree_none : (old k : ℕ) → Agree s t k → Agree (set_entry s old None) (set_entry t old None) k
  agree_none old k a = record {
    names = agree_set names_by t.entries s.entries old k None None le a.names;
    stands = agree_set is_some t.entries s.entries old k None None le a.stands;
    text = a.text;
  }

  agree_linked : (draft k : ℕ) → Agree s t draft → Agree s t k
      → Agree (set_entry s draft (Some (File (names_at s draft) 0))) (set_entry t draft (Some (File (names_at t draft) 0))) k
  agree_linked draft k d a = record {
    names =
        ap (λ ns. names_by (entry_in (slice_set t.entries draft (Some (File ns 0))) k)) d.names
        ∙ agree_set names_by t.entries s.entries draft k (Some (File (names_at s draft) 0)) None le a.names;
    stands =
        ap (λ ns. is_some (entry_in (slice_set t.entries draft (Some (File ns 0))) k)) d.names
        ∙ agree_set is_some t.entries s.entries draft k (Some (File (names_at s draft) 0)) None le a.stands;
    text = a.text;
  }

  agree_freed : (old k : ℕ) → Agree s t k → Agree (record s { stored = after_giving_up s.stored old }) (record t { stored = after_giving_up t.stored old }) k
  agree_freed old k a = record {
    names = a.names;
    stands = a.stands;
    text = agree_set (λ (x : List ℕ). x) t.stored.texts s.stored.texts old k [] [] lt a.text;
  }

-- two stores of one order and one mark that show the same under all that the order or the mark
-- names
module _ (es fs : List (Option Entry)) (o : List ℕ) (st su : Stored) (le : length fs ≡ length es) (lt : length su.texts ≡ length st.texts) where
  abbrev of : Option Mark → List (Option Entry) → Stored → Store
  of m xs y = record { entries = xs; order = o; mark = m; stored = y }

  in_order : (old draft k : ℕ) → 0 < count k (without old o ++ draft ∷ []) → k ≢ draft → 0 < count k o
  in_order old draft k some ne =
      let a = count-append k (without old o) (draft ∷ []) in
      let b = hit_other k draft ne in
      elim (cases_eq k old) [
        | inl e ↦ let c = ap (λ j. count j (without old o)) e ∙ count-without_same old o in absurd (omega arith)
        | inr no_old ↦ let c = count-without_other old k o no_old in omega arith
      ]

  in_more : (draft k : ℕ) → 0 < count k (o ++ draft ∷ []) → k ≢ draft → 0 < count k o
  in_more draft k some ne = let a = count-append k o (draft ∷ []) in let b = hit_other k draft ne in omega arith

  abbrev Alike : Option Mark → Type 0
  Alike m = (k : ℕ) → (0 < count k o) ⊎ (marked_draft m ≡ Some k) → Agree (of m es st) (of m fs su) k

  named_by : (m : Option Mark) (draft k : ℕ) → marked_draft m ≡ Some draft → Alike m → ((k ≢ draft) → 0 < count k o) → Agree (of m es st) (of m fs su) k
  named_by m draft k d h some = elim (cases_eq k draft) [
    | inl e ↦ h k (inr (d ∙ ap Some (sym e)))
    | inr ne ↦ h k (inl (some ne))
  ]

  helped_by : (w : ℕ) (p : Parts) → Alike (Some (record { owner = w; parts = p }))
      → directory (after_help (of (Some (record { owner = w; parts = p })) fs su)) ≡ directory
      (after_help (of (Some (record { owner = w; parts = p })) es st))
  helped_by w (Replace old draft) h =
      let m : Option Mark = Some (record { owner = w; parts = Replace old draft }) in
      let s = of m es st in
      let t = of m fs su in
      let n : length (slice_set fs old None) ≡ length (slice_set es old None) = length-set fs old None ∙ le ∙ sym (length-set es old None) in
      files_alike (after_help s) (after_help t) (without old o ++ draft ∷ []) (λ k some. agree_file (after_help s) (after_help t) k
      (let a = named_by m draft k refl h (λ ne. in_order old draft k some ne) in
      let d = h draft (inr refl) in
      let x = agree_linked (set_entry s old None) (set_entry t old None) n lt draft k (agree_none s t le lt old draft d) (agree_none s t le lt old k a) in
      record { names = x.names; stands = x.stands; text = (agree_freed s t le lt old k a).text }))
  helped_by w (Link None draft) h =
      let m : Option Mark = Some (record { owner = w; parts = Link None draft }) in
      let s = of m es st in
      let t = of m fs su in
      files_alike (after_help s) (after_help t) (o ++ draft ∷ []) (λ k some. agree_file (after_help s) (after_help t) k
      (let a = named_by m draft k refl h (λ ne. in_more draft k some ne) in
      let x = agree_linked s t le lt draft k (h draft (inr refl)) a in
      record { names = x.names; stands = x.stands; text = a.text }))
  helped_by w (Link (Some old) draft) h =
      let m : Option Mark = Some (record { owner = w; parts = Link (Some old) draft }) in
      let s = of m es st in
      let t = of m fs su in
      files_alike (after_help s) (after_help t) (o ++ draft ∷ []) (λ k some. agree_file (after_help s) (after_help t) k
      (let a = named_by m draft k refl h (λ ne. in_more draft k some ne) in
      let x = agree_linked s t le lt draft k (h draft (inr refl)) a in
      record { names = x.names; stands = x.stands; text = (agree_freed s t le lt old k a).text }))
  helped_by w (Free old) h =
      let m : Option Mark = Some (record { owner = w; parts = Free old }) in
      let s = of m es st in
      let t = of m fs su in
      files_alike (after_help s) (after_help t) o (λ k some. agree_file (after_help s) (after_help t) k
      (let a = h k (inl some) in
      record { names = a.names; stands = a.stands; text = (agree_freed s t le lt old k a).text }))

  helped_alike : (m : Option Mark) → Alike m → plain_directory (of m fs su) ≡ plain_directory (of m es st)
  helped_alike None h = files_alike (of None es st) (of None fs su) o (λ k some. agree_file (of None es st) (of None fs su) k (h k (inl some)))
  helped_alike (Some m) h = helped_by m.owner m.parts h

module _ (s : Store) (h : IsFiles s.entries s.order s.mark s.stored.texts) where
  -- a draft that is not marked is dropped, or a file is read less, while a close is half made
  pub discarded_plain : (id : ℕ) → is_draft (entry_at s id) ≡ true → marked_draft s.mark ≢ Some id → plain_directory (after_discard s id) ≡ plain_directory s
  discarded_plain id d ne =
      helped_alike s.entries (slice_set s.entries id None) s.order s.stored (after_giving_up s.stored id) (length-set s.entries id None)
      (length-set s.stored.texts id []) s.mark
      (λ k named_in.
      let far : k ≢ id = λ e. elim named_in [
        | inl some ↦ both_ways (is_file (entry_at s k)) (ap (λ j. is_file (entry_at s j)) e ∙ draft_no_file (entry_at s id) d)
            (ordered s.entries s.order s.mark s.stored.texts h k some)
        | inr marked ↦ ne (marked ∙ ap Some e)
      ] in
      let a : entry_in (slice_set s.entries id None) k ≡ entry_at s k = get_or-set_other s.entries id k None None far in
      record { names = ap names_by a; stands = ap is_some a; text = get_or-set_other s.stored.texts id k [] [] far })

  pub read_plain : (id n : ℕ) → is_file (entry_at s id) ≡ true → plain_directory (with_readers s id n) ≡ plain_directory s
  read_plain id n f =
      let w = within s.entries id (file_stands (entry_at s id) f) in
      helped_alike s.entries (slice_set s.entries id (Some (File (names_at s id) n))) s.order s.stored s.stored
      (length-set s.entries id (Some (File (names_at s id) n))) refl s.mark
      (λ k named_in. elim (cases_eq k id) [
        | inl e ↦
            let a : entry_in (slice_set s.entries id (Some (File (names_at s id) n))) k ≡ Some (File (names_at s id) n) =
            ap (λ j. entry_in (slice_set s.entries id (Some (File (names_at s id) n))) j) e
            ∙ get_or-set_same s.entries id (Some (File (names_at s id) n)) None w in
            record {
              names = ap names_by a ∙ sym (ap (λ j. names_at s j) e);
              stands = ap is_some a ∙ sym (ap (λ j. is_some (entry_at s j)) e ∙ file_stands (entry_at s id) f);
              text = refl;
            }
        | inr ne ↦
            let a : entry_in (slice_set s.entries id (Some (File (names_at s id) n))) k ≡ entry_at s k =
            get_or-set_other s.entries id k (Some (File (names_at s id) n)) None ne in
            record { names = ap names_by a; stands = ap is_some a; text = refl }
      ])
