-- The lines of files lead to the files.
use Rattle.std.specs.Prelude.{if◌then◌else◌, ◌≡◌, ◌≢◌, ◌≤◌, ◌<◌, ◌==◌, ◌&&◌, ℕ, ◌+◌, ◌-◌, ◌*◌, ◌/◌, ◌%◌, Bool, true, false, not, Some, None, Ok, List, [], ◌∷◌, ◌++◌, length, nat_lt, is_some, cond, refl}
use Rattle.std.proofs.Common.{sym, ◌∙◌, ap, subst, arith, append_assoc, append-nil}
use Rattle.std.proofs.lemmas.Bool.Decides.{nat_tests}
use Rattle.std.proofs.lemmas.List.{length-append}
use Rattle.std.proofs.lemmas.List.Sums.{sum_by-cons, sum_by-append}
use Rattle.its_word.specs.Directory.{same_names, with_changed, changed_if, longer}
use Rattle.its_word.proofs.NamesLaws.{same_refl}
use Rattle.its_plain.specs.Machine.{Names, File, Machine}
use Rattle.its_plain.specs.Operator.{and_then}
use Rattle.its_plain.specs.Operator.Files.{channels_of, with_files, with_file_made, with_file_made_if, with_word_added, with_word_added_if, with_word_added_to, with_words_added}
use Rattle.its_plain.specs.Call.File.{most_files, most_blocks, blocks_for, needs_block, blocks_of_drafts, blocks_of_files, is_full, file_named, has_file}
use Rattle.std.specs.Result.{result_ok}
use Rattle.its_saved.specs.Building.{build}
use Rattle.its_saved.specs.Saving.{file_lines, files_lines}
use Rattle.its_saved.specs.StateLine as state
use Rattle.its_saved.proofs.LeadLaws.{Leads, leads_none, leads_line, leads_append, leads_to, enough, rows_lead}
use Rattle.its_saved.specs.WellFormed.{NoneNamed, AllApart}

-- a file at the end, found and changed
found_last : (n : Names) (fs : List File) (f : File) → NoneNamed n fs → f.names ≡ n → file_named n (fs ++ f ∷ []) ≡ Some f
found_last n [] f none e = ap (λ b. cond b (Some f) None) (ap (same_names n) e ∙ same_refl n)
found_last n (g ∷ fs) f none e = ap (λ b. cond b (Some g) (file_named n (fs ++ f ∷ []))) none.0 ∙ found_last n fs f none.1 e

none_found : (n : Names) (fs : List File) → NoneNamed n fs → has_file n fs ≡ false
none_found n [] none = refl
none_found n (g ∷ fs) none = ap (λ b. is_some (cond b (Some g) (file_named n fs))) none.0 ∙ none_found n fs none.1

changed_last : (n : Names) (h : File → File) (fs : List File) (f : File) → NoneNamed n fs → f.names ≡ n → with_changed n h (fs ++ f ∷ []) ≡ fs ++ h f ∷ []
changed_last n h [] f none e = ap (λ b. changed_if b f (h f) ∷ []) (ap (same_names n) e ∙ same_refl n)
changed_last n h (g ∷ fs) f none e = ap (λ b. changed_if b g (h g) ∷ with_changed n h (fs ++ f ∷ [])) none.0
    ∙ ap (λ gs. g ∷ gs) (changed_last n h fs f none.1 e)

-- so many blocks are taken by files and words of a file that is being made
abbrev pub blocks_made : List File → ℕ → ℕ
blocks_made done n = blocks_of_files done + blocks_for n

files_with_last : (done : List File) (f : File) → blocks_of_files (done ++ f ∷ []) ≡ blocks_made done (length f.words)
files_with_last done f = let a = sum_by-append (λ g. blocks_for (length g.words)) done (f ∷ []) in let b =
    sum_by-cons (λ g. blocks_for (length g.words)) f [] in omega arith

-- one word more
word_added : (n : Machine) (done : List File) (f : File) (w : ℕ) → n.files ≡ done ++ f ∷ [] → NoneNamed f.names done
    → blocks_of_drafts (channels_of n) ≡ 0 → blocks_made done (length f.words + 1) ≤ most_blocks
    → with_word_added n f.names w ≡ Ok (with_files n (done ++ longer w f ∷ []))
unfolding with_word_added
word_added n done f w is none drafts room =
    let found : file_named f.names n.files ≡ Some f = ap (file_named f.names) is ∙ found_last f.names done f none refl in
    let not_full : is_full n.files (channels_of n) f.words ≡ false = by (needs_block (length f.words)) refl in
    ap (with_word_added_to n f.names w) found ∙ ap (with_word_added_if n f.names w) not_full
    ∙ ap (λ gs. Ok (with_files n gs)) (ap (with_changed f.names (longer w)) is ∙ changed_last f.names (longer w) done f none refl)
  where
    by : (b : Bool) → needs_block (length f.words) ≡ b → (b && not (nat_lt (blocks_of_files n.files + blocks_of_drafts (channels_of n)) most_blocks)) ≡ false
    by false e = refl
    by true e =
        let m : length f.words % 128 ≡ 0 = grind (arith, nat_tests) in
        let x = ap blocks_of_files is ∙ files_with_last done f in
        let l : blocks_of_files n.files + blocks_of_drafts (channels_of n) < most_blocks = (let r = room in let y = drafts in omega arith) in
        let t : nat_lt (blocks_of_files n.files + blocks_of_drafts (channels_of n)) most_blocks ≡ true = grind (arith, nat_tests) in rw t refl

-- several
abbrev pub with_words : File → List ℕ → File
with_words f ws = record f { words = f.words ++ ws }

more_le : (done : List File) (a b : ℕ) → a ≤ b → blocks_made done a ≤ blocks_made done b
more_le done a b l = omega arith

words_added : (n : Machine) (done : List File) (f : File) (ws : List ℕ) → n.files ≡ done ++ f ∷ [] → NoneNamed f.names done
    → blocks_of_drafts (channels_of n) ≡ 0 → blocks_made done (length f.words + length ws) ≤ most_blocks
    → with_words_added n f.names ws ≡ Ok (with_files n (done ++ with_words f ws ∷ []))
words_added n done f [] is none drafts room = ap Ok (λ t. record n
    { files = (is ∙ ap (λ xs. done ++ record f { words = xs } ∷ []) (sym (append-nil f.words))) t })
words_added n done f (w ∷ ws) is none drafts room =
    let k = with_files n (done ++ longer w f ∷ []) in
    let long = length-append f.words (w ∷ []) in
    ap (λ r. and_then r (λ k. with_words_added k f.names ws))
    (word_added n done f w is none drafts (let a = more_le done (length f.words + 1) (length f.words + length (w ∷ ws)) (omega arith) in omega arith))
    ∙ words_added k done (longer w f) ws refl none drafts (let e : length (longer w f).words + length ws ≡ length f.words + length
    (w ∷ ws) = omega arith in subst (λ x. blocks_made done x ≤ most_blocks) (sym e) room)
    ∙ ap (λ xs. Ok (with_files n (done ++ record f { words = xs } ∷ []))) (append_assoc f.words (w ∷ []) ws)

more_done : (n : Machine) (names : Names) (ws : List ℕ) (k : Machine) → with_words_added n names ws ≡ Ok k → build n (state.FileWords names ws) ≡ Some k
unfolding build
more_done n names ws k e = ap result_ok e

-- rows of words
abbrev file_at : Machine → List File → File → Machine
file_at n done f = with_files n (done ++ f ∷ [])

-- a file
abbrev new_file : Names → File
new_file names = record { names = names; words = [] }

file_made : (n : Machine) (done : List File) (names : Names) → n.files ≡ done → NoneNamed names done → length done < most_files
    → build n (state.File names) ≡ Some (file_at n done (record { names = names; words = [] }))
unfolding build with_file_made
file_made n done names is none few =
    let a : has_file names n.files ≡ false = ap (has_file names) is ∙ none_found names done none in
    let b : nat_lt (length n.files) most_files ≡ true = (let l = ap length is in let h : length n.files < most_files = omega arith in grind
    (arith, nat_tests)) in
    ap (λ x. result_ok (with_file_made_if n names x (nat_lt (length n.files) most_files))) a ∙ ap (λ x. result_ok (with_file_made_if n names false x)) b
    ∙ ap (λ gs. Some (with_files n (gs ++ record { names = names; words = [] } ∷ []))) is

file_leads : (n : Machine) (done : List File) (f : File) → n.files ≡ done → NoneNamed f.names done → blocks_of_drafts (channels_of n) ≡ 0
    → length done < most_files → blocks_made done (length f.words) ≤ most_blocks
    → Leads n (file_lines f) (file_at n done f)
file_leads n done f is none drafts few room =
    let new = new_file f.names in
    leads_append n (file_at n done new) _ (state.File f.names ∷ []) _
    (leads_line _ _ _ (file_made n done f.names is none few))
    (rows_lead (state.FileWords f.names) (λ ws. file_at n done (record { names = f.names; words = ws })) (length f.words)
    (record {
      row = λ vs ws l. more_done (file_at n done (record { names = f.names; words = vs })) f.names ws _
          (words_added (file_at n done (record { names = f.names; words = vs })) done (record { names = f.names; words = vs }) ws refl none drafts
          (let a = more_le done (length vs + length ws) (length f.words) l in omega arith));
    })
    16 (length f.words) [] f.words (omega arith) (enough (length f.words)) (omega arith))

-- all files, whose names are apart
pub files_lead : (n : Machine) (done fs : List File) → n.files ≡ done → AllApart done fs → blocks_of_drafts (channels_of n) ≡ 0
    → length done + length fs ≤ most_files → blocks_of_files done + blocks_of_files fs ≤ most_blocks
    → Leads n (files_lines fs) (with_files n (done ++ fs))
files_lead n done [] is apart drafts few room = leads_to n n _ _ (leads_none n) (λ t. record n { files = (is ∙ sym (append-nil done)) t })
files_lead n done (f ∷ fs) is apart drafts few room =
    let one = sum_by-cons (λ g. blocks_for (length g.words)) f fs in
    let last = files_with_last done f in
    let k = file_at n done f in
    leads_to n (with_files k ((done ++ f ∷ []) ++ fs)) _ _
    (leads_append n k _ (file_lines f) (files_lines fs)
    (file_leads n done f is apart.0 drafts (omega arith) (omega arith))
    (files_lead k (done ++ f ∷ []) fs refl apart.1 drafts (let l = length-append done (f ∷ []) in omega arith) (omega arith)))
    (ap (with_files n) (append_assoc done (f ∷ []) fs))
