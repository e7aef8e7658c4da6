-- The mark of the store of files: what each part of a close, and its beginning, does to the files
-- and the mark of the machine.
use Rattle.std.specs.Prelude.{◌≡◌, ◌≢◌, ℕ, zero, suc, Bool, true, false, nat_lt, Option, Some, None, is_some, Ok, List, [], ◌∷◌, ◌++◌, length, unwrap_or, refl}
use Rattle.std.specs.List.{last_or}
use Rattle.std.proofs.Common.{sym, ◌∙◌, ap, subst}
use Rattle.std.proofs.lemmas.Bool.{both_ways}
use Rattle.its_files.specs.Blocks.{text_at}
use Rattle.its_files.specs.Files.{Store, IsStore, Replaces, Links_to, Gone, Marked, entry_at, is_file, is_draft, names_by, names_at, words_by, file_at, directory, plain_directory, found, with_mark, close, close_by, close_old, close_new, readers_at, draft_by, marked_draft, after_unlink_old_by, after_unlink_old_at, after_unlink_old, after_link_new_by, after_link_new_at, after_link_new, after_free_old_by, after_free_old_at, after_free_old, after_help as all_made, after_link}
use Rattle.its_files.specs.declared.entry.Entry.TheVariants.{File as Standing}
use Rattle.its_files.specs.declared.entry.Mark.{Mark as FilesMark}
use Rattle.its_files.specs.declared.entry.Parts.{Parts}
use Rattle.its_files.specs.declared.entry.Parts.TheVariants.{Replace, Link, Free}
use Rattle.std.proofs.lemmas.List.{get_or-set_same}
use Rattle.its_word.proofs.NamesLaws.{same_sym}
use Rattle.its_files.proofs.EntryLaws.{within, draft_stands, draft_no_file, unlinked_files, linked_files, freed_files}
use Rattle.its_files.proofs.DirectoryLaws.{words_stand, without_same, file_is, file_apart, texts_apart, directory_same, directory_more, directory_without, plain_unlinked_is, plain_linked_is, plain_freed_is, helped_unmarked}
use Rattle.its_plain.specs.Machine.{File, Writes}
use Rattle.its_plain.specs.Machine.Change.{without_file}
use Rattle.its_stepped.specs.State.{Part, UnlinkOld, LinkNew, FreeOld, Mark, State, after_part, after_parts, after_help, parts_of, mark_of_close}
use Rattle.its_stepped.specs.Unwind.{rest_marked, with_part, help}
use Rattle.its_world.specs.World.{no_file, parts_left, last_file, draft_left, marking, mark_of}
use Rattle.its_shared.proofs.StoreLaws.{has_named}

-- a store without a mark, and one with it
pub mark_is : (s : Store) (m : Option FilesMark) → s.mark ≡ m → mark_of s ≡ marking s m
unfolding mark_of
mark_is s m e = ap (marking s) e

marking_none : (s : Store) (m : Option FilesMark) → marking s m ≡ None → m ≡ None
marking_none s None e = refl
marking_none s (Some m) e = cc

pub mark_none : (s : Store) → mark_of s ≡ None → s.mark ≡ None
unfolding mark_of
mark_none s e = marking_none s s.mark e

pub none_marked : (s : Store) → s.mark ≡ None → mark_of s ≡ None
none_marked s e = mark_is s None e

-- the mark of a store with the same one, whose draft and directory are the same
pub marking_same : (s t : Store) (m : Option FilesMark) → directory t ≡ directory s
    → ((d : ℕ) → marked_draft m ≡ Some d → file_at t d ≡ file_at s d) → marking t m ≡ marking s m
marking_same s t None d h = refl
marking_same s t (Some m) d h = ap (λ f. Some (record { owner = m.owner; draft = f; parts = parts_left m.parts })) (draft_same m.parts h)
  where
    draft_same : (p : Parts) → ((k : ℕ) → draft_by p ≡ Some k → file_at t k ≡ file_at s k) → draft_left t p ≡ draft_left s p
    draft_same (Replace old draft) h = h draft refl
    draft_same (Link old draft) h = h draft refl
    draft_same (Free old) h = ap (λ fs. unwrap_or (last_or None fs) no_file) d

pub mark_same : (s t : Store) → t.mark ≡ s.mark → directory t ≡ directory s
    → ((d : ℕ) → marked_draft s.mark ≡ Some d → file_at t d ≡ file_at s d) → mark_of t ≡ mark_of s
unfolding mark_of
mark_same s t m d h = ap (marking t) m ∙ marking_same s t s.mark d h

-- a close that is begun
close_begun : (s t : Store) (id slot : ℕ) (o : Option ℕ) → found s (names_at s id) ≡ o → close_by o s slot id ≡ Ok t
    → mark_of t ≡ mark_of_close slot (Writes (file_at s id)) (directory s)
unfolding mark_of
close_begun s t id slot (Some old) f e = replaced (readers_at s old) e
  where
    replaced : (n : ℕ) → close_old n s slot id old ≡ Ok t → mark_of t ≡ mark_of_close slot (Writes (file_at s id)) (directory s)
    replaced zero e =
        let same : with_mark s slot (Replace old id) ≡ t = cc in
        ap mark_of (sym same) ∙ ap (λ b. Some (record { owner = slot; draft = file_at s id; parts = parts_of b }))
        (sym (has_named s (names_at s id) ∙ ap is_some f))
    replaced (suc n) e = cc
close_begun s t id slot None f e = linked_new (nat_lt (length s.order) 256) e
  where
    linked_new : (b : Bool) → close_new b s slot id ≡ Ok t → mark_of t ≡ mark_of_close slot (Writes (file_at s id)) (directory s)
    linked_new true e =
        let same : with_mark s slot (Link None id) ≡ t = cc in
        ap mark_of (sym same) ∙ ap (λ b. Some (record { owner = slot; draft = file_at s id; parts = parts_of b }))
        (sym (has_named s (names_at s id) ∙ ap is_some f))
    linked_new false e = cc

pub begin_close : (s t : Store) (id slot : ℕ) → close s id slot ≡ Ok t → mark_of t ≡ mark_of_close slot (Writes (file_at s id)) (directory s)
begin_close s t id slot e = close_begun s t id slot (found s (names_at s id)) refl e

-- the store after a part, and what the files and the mark of the machine are then
abbrev pub made : Part → Store → Store
made UnlinkOld s = after_unlink_old s
made LinkNew s = after_link_new s
made FreeOld s = after_free_old s

pub record PartMade (s t : Store) (m : Mark) (p : Part) (ps : List Part) : Type 0 where
  pub files : directory t ≡ after_part m.draft p (directory s)
  pub mark : mark_of t ≡ rest_marked m ps

-- the parts after the link of a draft
abbrev pub parts_behind : Option ℕ → List Part
parts_behind None = []
parts_behind (Some old) = FreeOld ∷ []

last_more : {X : Type 0} (o : Option X) (xs : List X) (x : X) → last_or o (xs ++ x ∷ []) ≡ Some x
last_more o [] x = refl
last_more o (y ∷ ys) x = last_more (Some y) ys x

-- a mark with its parts
abbrev pub marks : ℕ → Parts → Option FilesMark
marks owner parts = Some (record { owner = owner; parts = parts })

module _ (s : Store) (whole : IsStore s) where
  -- the old file is unlinked
  module _ (owner old draft : ℕ) (is : s.mark ≡ marks owner (Replace old draft)) where
    abbrev pub without_old : Store
    without_old = after_unlink_old_by (Replace old draft) owner s

    pub replaces : Replaces s.entries old draft
    replaces = subst (λ m. Marked s.entries m) is whole.marked

    draft_apart : draft ≢ old
    draft_apart e = both_ways (is_file (entry_at s old)) (draft_no_file (entry_at s old)
        (sym (ap (λ j. is_draft (entry_at s j)) e) ∙ replaces.draft_stands)) replaces.file

    pub unlinked_is : after_unlink_old s ≡ without_old
    unlinked_is = ap (λ m. after_unlink_old_at m s) is

    pub unlinked_whole : IsStore (after_unlink_old s)
    unlinked_whole = subst IsStore (sym unlinked_is) (unlinked_files s.entries s.order s.mark s.stored.texts whole owner old draft without_old.order is refl)

    pub unlinked_directory : directory (after_unlink_old s) ≡ without_file (names_at s draft) (directory s)
    unfolding without_file
    unlinked_directory =
        ap directory unlinked_is
        ∙ directory_without s whole without_old old refl replaces.file (λ k ne. file_apart s whole old k None ne)
        ∙ without_same (names_at s old) (names_at s draft) (directory s) (same_sym (names_at s draft) (names_at s old) replaces.names)

    pub unlinked_part : PartMade s (after_unlink_old s) (record
        { owner = owner; draft = file_at s draft; parts = UnlinkOld ∷ LinkNew ∷ FreeOld ∷ [] }) UnlinkOld (LinkNew ∷ FreeOld ∷ [])
    unlinked_part = record {
      files = unlinked_directory;
      mark =
          mark_is (after_unlink_old s) (marks owner (Link (Some old) draft)) (ap (λ t. t.mark) unlinked_is)
          ∙ ap (λ t. marking t (marks owner (Link (Some old) draft))) unlinked_is
          ∙ ap (λ f. Some (record { owner = owner; draft = f; parts = LinkNew ∷ FreeOld ∷ [] })) (file_apart s whole old draft None draft_apart);
    }

  -- the draft becomes the last file
  module _ (owner draft : ℕ) (old : Option ℕ) (is : s.mark ≡ marks owner (Link old draft)) where
    abbrev pub with_new : Store
    with_new = after_link_new_by (Link old draft) owner s

    pub links : Links_to s.entries old draft
    links = subst (λ m. Marked s.entries m) is whole.marked

    pub linked_is : after_link_new s ≡ with_new
    linked_is = ap (λ m. after_link_new_at m s) is

    pub linked_whole : IsStore (after_link_new s)
    linked_whole = subst IsStore (sym linked_is) (linked_files s.entries s.order s.mark s.stored.texts whole owner draft old
        (names_at s draft) (after_link old owner) is refl refl)

    pub draft_here : entry_at with_new draft ≡ Some (Standing (names_at s draft) 0)
    draft_here = get_or-set_same s.entries draft (Some (Standing (names_at s draft) 0)) None
        (within s.entries draft (draft_stands (entry_at s draft) links.draft_stands))

    pub draft_stays : file_at with_new draft ≡ file_at s draft
    draft_stays =
        file_is s whole with_new draft (ap names_by draft_here)
        (ap (λ e. words_by e (text_at s.stored.texts draft)) draft_here
        ∙ words_stand (entry_at s draft) (text_at s.stored.texts draft) (draft_stands (entry_at s draft) links.draft_stands))

    new_directory : directory with_new ≡ directory s ++ file_at s draft ∷ []
    new_directory =
        directory_more s whole with_new draft refl (draft_no_file (entry_at s draft) links.draft_stands)
        (λ k ne. file_apart s whole draft k (Some (Standing (names_at s draft) 0)) ne)
        ∙ ap (λ f. directory s ++ f ∷ []) draft_stays

    pub linked_directory : directory (after_link_new s) ≡ directory s ++ file_at s draft ∷ []
    linked_directory = ap directory linked_is ∙ new_directory

    mark_after : (o : Option ℕ) → marking with_new (after_link o owner) ≡ rest_marked
        (record { owner = owner; draft = file_at s draft; parts = LinkNew ∷ parts_behind o }) (parts_behind o)
    mark_after None = refl
    mark_after (Some k) = ap (λ f. Some (record { owner = owner; draft = f; parts = FreeOld ∷ [] }))
        (ap (λ fs. unwrap_or (last_or None fs) no_file) new_directory ∙ ap (λ o. unwrap_or o no_file) (last_more None (directory s) (file_at s draft)))

    pub linked_part : PartMade s (after_link_new s) (record { owner = owner; draft = file_at s draft; parts = LinkNew ∷ parts_behind old })
        LinkNew (parts_behind old)
    linked_part = record {
      files = linked_directory;
      mark = mark_is (after_link_new s) (after_link old owner) (ap (λ t. t.mark) linked_is)
          ∙ ap (λ t. marking t (after_link old owner)) linked_is ∙ mark_after old;
    }

  -- the blocks of the old file become free
  module _ (owner old : ℕ) (is : s.mark ≡ marks owner (Free old)) where
    abbrev pub without_blocks : Store
    without_blocks = after_free_old_by (Free old) s

    pub freed_is : after_free_old s ≡ without_blocks
    freed_is = ap (λ m. after_free_old_at m s) is

    pub gone : Gone s.entries (Some old)
    gone = subst (λ m. Marked s.entries m) is whole.marked

    pub freed_whole : IsStore (after_free_old s)
    freed_whole = subst IsStore (sym freed_is) (freed_files s.entries s.order s.mark s.stored.texts whole owner old without_blocks.stored.texts is refl)

    pub freed_directory : directory (after_free_old s) ≡ directory s
    freed_directory =
        ap directory freed_is
        ∙ directory_same s whole without_blocks refl (λ k f. texts_apart s whole without_blocks old k [] refl refl
        (λ e. both_ways (is_file (entry_at s k)) (ap (λ j. is_file (entry_at s j)) e ∙ ap is_file gone.1) f))

    pub freed_part : PartMade s (after_free_old s) (record { owner = owner; draft = last_file s; parts = FreeOld ∷ [] }) FreeOld []
    freed_part = record { files = freed_directory; mark = none_marked (after_free_old s) (ap (λ t. t.mark) freed_is) }

-- the first pending part, whichever it is
moved : (s : Store) (k m : Mark) (q p : Part) (qs ps : List Part) → PartMade s (made q s) k q qs → k ≡ m → q ∷ qs ≡ p ∷ ps → PartMade s (made p s) m p ps
moved s k m q p qs ps h e f =
    let a : q ≡ p = cc in
    let b : qs ≡ ps = cc in
    subst (λ x. PartMade s (made x s) m x ps) a (subst (λ xs. PartMade s (made q s) m q xs) b (subst (λ x. PartMade s (made q s) x q qs) e h))

part_of : (s : Store) (whole : IsStore s) (owner : ℕ) (parts : Parts) (m : Mark) (p : Part) (ps : List Part) → s.mark ≡ marks owner parts
    → record { owner = owner; draft = draft_left s parts; parts = parts_left parts } ≡ m → m.parts ≡ p ∷ ps → PartMade s (made p s) m p ps
part_of s whole owner (Replace old draft) m p ps is e f = moved s _ m UnlinkOld p (LinkNew ∷ FreeOld ∷ []) ps
    (unlinked_part s whole owner old draft is) e (ap (λ x. x.parts) e ∙ f)
part_of s whole owner (Link None draft) m p ps is e f = moved s _ m LinkNew p [] ps (linked_part s whole owner draft None is) e (ap (λ x. x.parts) e ∙ f)
part_of s whole owner (Link (Some old) draft) m p ps is e f =
    moved s _ m LinkNew p (FreeOld ∷ []) ps (linked_part s whole owner draft (Some old) is) e (ap (λ x. x.parts) e ∙ f)
part_of s whole owner (Free old) m p ps is e f = moved s _ m FreeOld p [] ps (freed_part s whole owner old is) e (ap (λ x. x.parts) e ∙ f)

part_marked : (s : Store) (whole : IsStore s) (o : Option FilesMark) (m : Mark) (p : Part) (ps : List Part) → s.mark ≡ o
    → marking s o ≡ Some m → m.parts ≡ p ∷ ps → PartMade s (made p s) m p ps
part_marked s whole None m p ps is e f = cc
part_marked s whole (Some k) m p ps is e f =
    let same : record { owner = k.owner; draft = draft_left s k.parts; parts = parts_left k.parts } ≡ m = cc in
    part_of s whole k.owner k.parts m p ps is same f

pub part_is : (s : Store) (whole : IsStore s) (m : Mark) (p : Part) (ps : List Part) → mark_of s ≡ Some m → m.parts ≡ p ∷ ps → PartMade s (made p s) m p ps
unfolding mark_of
part_is s whole m p ps e f = part_marked s whole s.mark m p ps refl e f

-- and so for a state with these files and this mark
rest_same : (m : Mark) (qs ps : List Part) → rest_marked (record m { parts = qs }) ps ≡ rest_marked m ps
rest_same m qs [] = refl
rest_same m qs (p ∷ ps) = refl

pub part_step : (s : Store) (whole : IsStore s) (w : State) (m : Mark) (p : Part) (ps : List Part) → w.mark ≡ mark_of s
    → w.raw.files ≡ directory s → mark_of s ≡ Some m → m.parts ≡ p ∷ ps
    → with_part w.mark w ≡ record w { raw = record w.raw { files = directory (made p s) }; mark = mark_of (made p s) }
part_step s whole w m p ps marked files e f =
    let h = part_is s whole m p ps e f in
    let k : directory (made p s) ≡ after_part m.draft p w.raw.files = h.files ∙ ap (after_part m.draft p) (sym files) in
    let r : mark_of (made p s) ≡ rest_marked (record m { parts = p ∷ ps }) ps = h.mark ∙ sym (rest_same m (p ∷ ps) ps) in
    ap (λ o. with_part o w) (marked ∙ e)
    ∙ (λ i. with_part (Some (record m { parts = f i })) w)
    ∙ sym (λ i. record w { raw = record w.raw { files = k i }; mark = r i })

-- all that is pending
rest_helped : (m : Mark) (ps : List Part) (fs : List File) → after_help (rest_marked m ps) fs ≡ after_parts m.draft ps fs
unfolding after_help
rest_helped m [] fs = refl
rest_helped m (p ∷ ps) fs = refl

helped_parts : (m : Mark) (ps : List Part) (fs : List File) → m.parts ≡ ps → after_help (Some m) fs ≡ after_parts m.draft ps fs
unfolding after_help
helped_parts m ps fs e = ap (λ qs. after_parts m.draft qs fs) e

helped_none : (o : Option Mark) (fs : List File) → o ≡ None → after_help o fs ≡ fs
unfolding after_help
helped_none o fs e = ap (λ x. after_help x fs) e

helped_step : (s t : Store) (m : Mark) (p : Part) (ps : List Part) → PartMade s t m p ps → mark_of s ≡ Some m → m.parts ≡ p ∷ ps
    → after_help (mark_of s) (directory s) ≡ after_help (mark_of t) (directory t)
helped_step s t m p ps h e f =
    ap (λ o. after_help o (directory s)) e ∙ helped_parts m (p ∷ ps) (directory s) f
    ∙ sym (ap (λ o. after_help o (directory t)) h.mark ∙ rest_helped m ps (directory t) ∙ ap (after_parts m.draft ps) h.files)

unlinked_none : (s : Store) → s.mark ≡ None → after_unlink_old s ≡ s
unlinked_none s e = ap (λ m. after_unlink_old_at m s) e

linked_none : (s : Store) → s.mark ≡ None → after_link_new s ≡ s
linked_none s e = ap (λ m. after_link_new_at m s) e

freed_none : (s : Store) → s.mark ≡ None → after_free_old s ≡ s
freed_none s e = ap (λ m. after_free_old_at m s) e

pub made_none : (s : Store) → s.mark ≡ None → all_made s ≡ s
made_none s e = ap (λ t. after_free_old (after_link_new t)) (unlinked_none s e) ∙ ap after_free_old (linked_none s e) ∙ freed_none s e

helped_last : (s : Store) → s.mark ≡ None → after_help (mark_of s) (directory s) ≡ plain_directory s
helped_last s e = helped_none (mark_of s) (directory s) (none_marked s e) ∙ sym (ap directory (made_none s e))

helped_free : (s : Store) (whole : IsStore s) (owner old : ℕ) → s.mark ≡ marks owner (Free old) → after_help (mark_of s) (directory s) ≡ plain_directory s
helped_free s whole owner old is =
    helped_step s (after_free_old s) _ FreeOld [] (freed_part s whole owner old is) (mark_is s (marks owner (Free old)) is) refl
    ∙ helped_last (after_free_old s) (ap (λ m. (after_free_old_at m s).mark) is)
    ∙ plain_freed_is s (after_free_old s) refl

helped_link : (s : Store) (whole : IsStore s) (owner draft : ℕ) (old : Option ℕ) → s.mark ≡ marks owner (Link old draft)
    → after_help (mark_of s) (directory s) ≡ plain_directory s
helped_link s whole owner draft None is =
    helped_step s (after_link_new s) _ LinkNew [] (linked_part s whole owner draft None is) (mark_is s (marks owner (Link None draft)) is) refl
    ∙ helped_last (after_link_new s) (ap (λ m. (after_link_new_at m s).mark) is)
    ∙ plain_linked_is s (after_link_new s) refl
helped_link s whole owner draft (Some old) is =
    helped_step s (after_link_new s) _ LinkNew (FreeOld ∷ []) (linked_part s whole owner draft (Some old) is)
    (mark_is s (marks owner (Link (Some old) draft)) is) refl
    ∙ helped_free (after_link_new s) (linked_whole s whole owner draft (Some old) is) owner old (ap (λ m. (after_link_new_at m s).mark) is)
    ∙ plain_linked_is s (after_link_new s) refl

helped_marks : (s : Store) (whole : IsStore s) (owner : ℕ) (parts : Parts) → s.mark ≡ marks owner parts
    → after_help (mark_of s) (directory s) ≡ plain_directory s
helped_marks s whole owner (Replace old draft) is =
    helped_step s (after_unlink_old s) _ UnlinkOld (LinkNew ∷ FreeOld ∷ []) (unlinked_part s whole owner old draft is)
    (mark_is s (marks owner (Replace old draft)) is) refl
    ∙ helped_link (after_unlink_old s) (unlinked_whole s whole owner old draft is) owner draft (Some old) (ap (λ m. (after_unlink_old_at m s).mark) is)
    ∙ plain_unlinked_is s (after_unlink_old s) refl
helped_marks s whole owner (Link old draft) is = helped_link s whole owner draft old is
helped_marks s whole owner (Free old) is = helped_free s whole owner old is

helped_any : (s : Store) (whole : IsStore s) (o : Option FilesMark) → s.mark ≡ o → after_help (mark_of s) (directory s) ≡ plain_directory s
helped_any s whole None is = helped_last s is
helped_any s whole (Some m) is = helped_marks s whole m.owner m.parts is

pub helped_files : (s : Store) → IsStore s → after_help (mark_of s) (directory s) ≡ plain_directory s
helped_files s whole = helped_any s whole s.mark refl

pub helped_unmarks : (s : Store) → mark_of (all_made s) ≡ None
helped_unmarks s = none_marked (all_made s) (helped_unmarked s (all_made s) refl)

pub help_step : (s : Store) (whole : IsStore s) (w : State) → w.mark ≡ mark_of s → w.raw.files ≡ directory s
    → help w ≡ record w { raw = record w.raw { files = directory (all_made s) }; mark = mark_of (all_made s) }
unfolding help
help_step s whole w marked files =
    let k : after_help w.mark w.raw.files ≡ directory (all_made s) = (λ i. after_help (marked i) (files i)) ∙ helped_files s whole in
    let r : None ≡ mark_of (all_made s) = sym (helped_unmarks s) in
    λ i. record w { raw = record w.raw { files = k i }; mark = r i }
