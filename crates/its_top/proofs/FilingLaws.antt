-- Lines on files: calls that look at files one after another, words that are added, and lines that
-- are written one by one.
use Rattle.std.specs.Prelude.{◌≡◌, ◌<◌, ◌≤◌, ◌+◌, ◌-◌, ◌*◌, ◌/◌, ◌%◌, ℕ, suc, Bool, true, false, Option, Some, None, Result, Ok, Err, List, [], ◌∷◌, ◌++◌, length, map, take, drop, min, option_map, unwrap_or, find, cond, slice_get, slice_index, get_or, OnOk, IfErr, refl}
use Rattle.std.proofs.Common.{sym, ◌∙◌, ap, subst, arith, add-one, append_assoc, append-nil, inl, inr}
use Rattle.std.proofs.KnownBytes.{Appends-nil, Appends-trans}
use Rattle.std.proofs.Math.Nat.{min-eq_left, min-le_right}
use Rattle.std.proofs.Math.Seq.{drop-cons, take-suc}
use Rattle.std.proofs.lemmas.Bool.{cases_lt, cases_eq}
use Rattle.std.proofs.lemmas.List.{drop-drop, length-map, length-drop, get_or-drop, take_min, drop_all}
use Rattle.std.proofs.lemmas.List.Sums.{length-filter, count_by-le-length}
use Rattle.std.proofs.lemmas.Option.{slice_get_within, slice_get-get_or, get_or_from_slice_get}
use Rattle.its_word.specs.Directory.{same_names, longer}
use Rattle.its_records.specs.declared.session.Reason.{Reason}
use Rattle.its_records.specs.declared.session.Refusal.{Refusal}
use Rattle.its_records.specs.declared.session.Refusal.TheVariants as refusals
use Rattle.its_records.specs.declared.show.FileShow.{FileShow}
use Rattle.its_print.specs.Printing.{Line, text_of_line, text}
use Rattle.its_print.specs.Printing as printed
use Rattle.its_files.specs.Files.{Store, entry_at, is_file, names_at, words_at, file_at, directory, after_help}
use Rattle.its_files.proofs.DirectoryLaws.{helped_unmarked}
use Rattle.its_word.proofs.NamesLaws.{same_self}
use Rattle.its_plain.specs.Machine.Own.{names_of}
use Rattle.its_plain.specs.Call.File.{is_full, file_named}
use Rattle.its_plain.specs.Machine.{Names, File, Machine}
use Rattle.its_plain.specs.Operator.{and_then}
use Rattle.its_plain.specs.Operator.Files.{channels_of, with_files, with_word_added_if, with_word_added_to, with_word_added, with_words_added, is_in, files_in, show_of, filed_line, rows}
use Rattle.its_stepped.specs.State.{State, plain}
use Rattle.its_stepped.specs.State as state
use Rattle.its_stepped.specs.Unwind.{help}
use Rattle.its_stepped.specs.Lines.{with_raw}
use Rattle.its_world.specs.World.{state_of}
use Rattle.its_world.specs.declared.world.World.{World}
use Rattle.its_world.proofs.MarkLaws.{none_marked, made_none}
use Rattle.its_shared.proofs.StoreLaws.{changed_same}
use Rattle.its_records.specs.Refusals.{reason_of}
use Rattle.its_monitor.specs.Kept.{Lands, FileRefused}
use Rattle.its_monitor.specs.Filing.{word_if, length_if}
use Rattle.its_top.specs.declared.sessions.flow.Flow.{Flow}
use Rattle.its_top.specs.declared.sessions.flow.Flow.TheVariants as flows
use Rattle.its_top.specs.Telling.{goes_on}
use Rattle.its_top.specs.Answer.{WroteFor, Tells, Looked, Stood, AddSo, WritesSo}
use Rattle.its_top.proofs.LoadingLaws.{front}
use Rattle.its_world.proofs.StorageLaws.{files_are}

-- a state in which no part of a close is pending stays as it is
still_helped : (v : State) → v.mark ≡ None → help v ≡ v
unfolding help state.after_help
still_helped v e = λ i. record v { raw = record v.raw { files = state.after_help (e i) v.raw.files }; mark = sym e i }

pub twice_helped : (v : State) → help (help v) ≡ help v
unfolding help state.after_help
twice_helped v = refl

-- calls that look at files
pub looking_start : (w : World) → Looked w w 0
looking_start w = record { found = refl; reached = λ h. absurd (omega arith); unmarked = λ h. absurd (omega arith) }

pub looking_next : (old now then : World) (k : ℕ) → Looked old now k → state_of then ≡ help (state_of now)
    → then.files ≡ after_help now.files → Looked old then (k + 1)
looking_next old now then k l e f = record {
  found = ap help e ∙ twice_helped (state_of now) ∙ l.found;
  reached = λ h. e ∙ l.found;
  unmarked = λ h. helped_unmarked now.files then.files f;
}

state_marked : (w : World) → w.files.mark ≡ None → (state_of w).mark ≡ None
unfolding state_of
state_marked w e = none_marked w.files e

pub stood : (old now : World) → old.files.mark ≡ None → state_of now ≡ help (state_of old) → now.files ≡ after_help old.files → Stood old now
stood old now none e f = record { state = e ∙ still_helped (state_of old) (state_marked old none); files = f ∙ made_none old.files none }

pub standing_start : (w : World) → Stood w w
standing_start w = record { state = refl; files = refl }

pub standing_then : (old now then : World) → Stood old now → Stood now then → Stood old then
standing_then old now then s t = record { state = t.state ∙ s.state; files = t.files ∙ s.files }

pub standing_next : (old now then : World) → old.files.mark ≡ None → Stood old now → state_of then ≡ help (state_of now)
    → then.files ≡ after_help now.files → Stood old then
standing_next old now then none s e f =
    standing_then old now then s (stood now then (ap (λ (x : Store). x.mark) s.files ∙ none) e f)

-- the files of a directory, as DIR finds them
found_files : (v : State) → (plain v).files ≡ (help v).raw.files
unfolding plain help
found_files v = refl

looked_files : (old now : World) (k : ℕ) → Looked old now k → (plain (state_of now)).files ≡ (help (state_of old)).raw.files
looked_files old now k l = found_files (state_of now) ∙ ap (λ (v : State). v.raw.files) l.found

-- whether there is a k-th, by what is shown of it
some_shown : (fs : List File) (k : ℕ) (s : FileShow) → Some s ≡ option_map show_of (slice_get fs k) → k < length fs
some_shown fs k s h = go (slice_get fs k) refl h
  where
    go : (o : Option File) → slice_get fs k ≡ o → Some s ≡ option_map show_of o → k < length fs
    go (Some f) e h = slice_get_within fs k f e
    go None e h = cc

none_shown : (fs : List File) (k : ℕ) → None ≡ option_map show_of (slice_get fs k) → length fs ≤ k
none_shown fs k h = elim (cases_lt k (length fs)) [
  | inl l ↦ absurd (go (slice_get fs k) (slice_get-get_or fs k no_file l) h)
  | inr l ↦ l
]
  where
    no_file : File
    no_file = record { names = []; words = [] }

    go : {f : File} (o : Option File) → o ≡ Some f → None ≡ option_map show_of o → ⊥
    go (Some g) e h = cc
    go None e h = cc

pub counting_some : (old now : World) (d k : ℕ) (s : FileShow) → Looked old now k
    → Some s ≡ option_map show_of (slice_get (files_in d (plain (state_of now)).files) k)
    → k + 1 ≤ length (files_in d (help (state_of old)).raw.files)
counting_some old now d k s l h =
    let within = some_shown (files_in d (help (state_of old)).raw.files) k s
    (h ∙ ap (λ fs. option_map show_of (slice_get (files_in d fs) k)) (looked_files old now k l)) in
    omega (arith, within)

pub counting_none : (old now : World) (d k : ℕ) → Looked old now k → k ≤ length (files_in d (help (state_of old)).raw.files)
    → None ≡ option_map show_of (slice_get (files_in d (plain (state_of now)).files) k) → k ≡ length (files_in d (help (state_of old)).raw.files)
counting_none old now d k l some h =
    let past = none_shown (files_in d (help (state_of old)).raw.files) k
    (h ∙ ap (λ fs. option_map show_of (slice_get (files_in d fs) k)) (looked_files old now k l)) in
    omega (arith, past, some)

-- a directory has no more files than all directories
few_in : (d : ℕ) (fs : List File) → length (files_in d fs) ≤ length fs
unfolding files_in
few_in d fs = subst (λ n. n ≤ length fs) (sym (length-filter (is_in d) fs)) (count_by-le-length (is_in d) fs)

pub counting_end : (old now : World) (d k : ℕ) → 0 < k → Looked old now k → length now.files.order ≤ k
    → k ≤ length (files_in d (help (state_of old)).raw.files)
    → k ≡ length (files_in d (help (state_of old)).raw.files)
counting_end old now d k some l few at_least =
    let fs = (help (state_of old)).raw.files in
    let is : fs ≡ directory now.files = ap (λ (v : State). v.raw.files) (sym (l.reached some)) ∙ files_are now in
    let all : length fs ≡ length now.files.order = ap length is ∙ length-map now.files.order (file_at now.files) in
    omega (arith, few_in d fs, all, few, at_least)

-- lines that are written one after another
pub writes_start : (lines : List Line) (out : Option (List ℕ)) → WritesSo lines lines out out
writes_start lines out = record { wrote = []; appended = Appends-nil out; whole = refl }

text_more : (l : Line) (ls : List Line) → text (l ∷ ls) ≡ text_of_line l ++ text ls
unfolding text
text_more l ls = refl

wrote_on : (flow : Flow) (bytes wrote : List ℕ) → goes_on flow ≡ true → WroteFor flow flows.On bytes wrote → bytes ≡ wrote
wrote_on flows.On bytes wrote g c = c.1
wrote_on _ bytes wrote g c = cc

pub writes_next : (flow : Flow) (lines rest : List Line) (l : Line) (old now new : Option (List ℕ)) → goes_on flow ≡ true
    → WritesSo lines (l ∷ rest) old now → Tells flow flows.On (text_of_line l) now new
    → WritesSo lines rest old new
writes_next flow lines rest l old now new g w t = record {
  wrote = w.wrote ++ t.wrote;
  appended = Appends-trans old now new w.wrote t.wrote w.appended t.appended;
  whole = w.whole ∙ ap (λ x. w.wrote ++ x) (text_more l rest) ∙ ap (λ x. w.wrote ++ (x ++ text rest)) (wrote_on flow (text_of_line l) t.wrote g t.complete)
      ∙ sym (append_assoc w.wrote t.wrote (text rest));
}

-- a write that fails has begun what was to be written
begun : (flow : Flow) (bytes wrote before behind : List ℕ) → goes_on flow ≡ false → WroteFor flow flows.On bytes wrote
    → WroteFor flow flows.On (before ++ (bytes ++ behind)) (before ++ wrote)
begun flows.On bytes wrote before behind g c = cc
begun flows.Ended bytes wrote before behind g c = absurd (let k : flows.Ended ≡ flows.On = c.0 in cc)
begun flows.Refused bytes wrote before behind g c = absurd (let k : flows.Refused ≡ flows.On = c.0 in cc)
begun flows.TooLong bytes wrote before behind g c = absurd (let k : flows.TooLong ≡ flows.On = c.0 in cc)
begun flows.Fault bytes wrote before behind g c = (
  c.0 ++ behind,
  ap (λ x. before ++ (x ++ behind)) c.1 ∙ ap (λ x. before ++ x) (append_assoc wrote c.0 behind) ∙ sym (append_assoc before wrote (c.0 ++ behind)),
)

pub writes_cut : (flow : Flow) (lines rest : List Line) (l : Line) (old now new : Option (List ℕ)) → goes_on flow ≡ false
    → WritesSo lines (l ∷ rest) old now → Tells flow flows.On (text_of_line l) now new
    → Tells flow flows.On (text lines) old new
writes_cut flow lines rest l old now new g w t = record {
  wrote = w.wrote ++ t.wrote;
  appended = Appends-trans old now new w.wrote t.wrote w.appended t.appended;
  complete = subst (λ x. WroteFor flow flows.On x (w.wrote ++ t.wrote)) (sym (w.whole ∙ ap (λ x. w.wrote ++ x) (text_more l rest)))
      (begun flow (text_of_line l) t.wrote w.wrote (text rest) g t.complete);
}

pub writes_end : (lines rest : List Line) (old now : Option (List ℕ)) → rest ≡ [] → WritesSo lines rest old now → Tells flows.On flows.On (text lines) old now
unfolding text
writes_end lines rest old now e w = record {
  wrote = w.wrote;
  appended = w.appended;
  complete = (refl, w.whole ∙ ap (λ ls. w.wrote ++ text ls) e ∙ append-nil w.wrote);
}

-- a line, and then more lines
then_by : (flow : Flow) (first more wrote : List ℕ) → WroteFor flow flows.On more wrote → WroteFor flow flows.On (first ++ more) (first ++ wrote)
then_by flows.On first more wrote c = (refl, ap (λ x. first ++ x) c.1)
then_by flows.Fault first more wrote c = (c.0, ap (λ x. first ++ x) c.1 ∙ sym (append_assoc first wrote c.0))
then_by flows.Ended first more wrote c = absurd (let k : flows.Ended ≡ flows.On = c.0 in cc)
then_by flows.Refused first more wrote c = absurd (let k : flows.Refused ≡ flows.On = c.0 in cc)
then_by flows.TooLong first more wrote c = absurd (let k : flows.TooLong ≡ flows.On = c.0 in cc)

pub tells_then : (first flow : Flow) (l : Line) (ls : List Line) (old mid new : Option (List ℕ)) → goes_on first ≡ true
    → Tells first flows.On (text_of_line l) old mid → Tells flow flows.On (text ls) mid new
    → Tells flow flows.On (text (l ∷ ls)) old new
tells_then first flow l ls old mid new g a b = record {
  wrote = a.wrote ++ b.wrote;
  appended = Appends-trans old mid new a.wrote b.wrote a.appended b.appended;
  complete = subst (λ x. WroteFor flow flows.On x (a.wrote ++ b.wrote))
      (sym (text_more l ls ∙ ap (λ x. x ++ text ls) (wrote_on first (text_of_line l) a.wrote g a.complete)))
      (then_by flow a.wrote (text ls) b.wrote b.complete);
}

pub tells_cut : (flow : Flow) (l : Line) (ls : List Line) (old new : Option (List ℕ)) → goes_on flow ≡ false
    → Tells flow flows.On (text_of_line l) old new → Tells flow flows.On (text (l ∷ ls)) old new
tells_cut flow l ls old new g t = writes_cut flow (l ∷ ls) ls l old old new g (writes_start (l ∷ ls) old) t

-- the lines of files, from the k-th on
abbrev pub listed_from : ℕ → List File → ℕ → List Line
listed_from d fs k = map filed_line (drop k (files_in d fs))

filed_next : (fs : List File) (k : ℕ) (s : FileShow) → Some s ≡ option_map show_of (slice_get fs k)
    → map filed_line (drop k fs) ≡ printed.Filed s ∷ map filed_line (drop (k + 1) fs)
filed_next fs k s h = go (slice_get fs k) refl h
  where
    go : (o : Option File) → slice_get fs k ≡ o → Some s ≡ option_map show_of o → map filed_line (drop k fs) ≡ printed.Filed s
        ∷ map filed_line (drop (k + 1) fs)
    go (Some f) e h =
        let same : s ≡ show_of f = cc in
        rw (add-one) (ap (map filed_line) (drop-cons fs k f (slice_get_within fs k f e))
        ∙ ap (λ g. filed_line g ∷ map filed_line (drop (suc k) fs)) (get_or_from_slice_get fs k f f e)
        ∙ ap (λ x. printed.Filed x ∷ map filed_line (drop (suc k) fs)) (sym same))
    go None e h = cc

-- here the state stays as it was
stood_files : (old now : World) → old.files.mark ≡ None → Stood old now → (plain (state_of now)).files ≡ (state_of old).raw.files
stood_files old now none s =
    found_files (state_of now) ∙ ap (λ x. (help x).raw.files) s.state ∙ ap (λ (x : State). x.raw.files) (still_helped (state_of old) (state_marked old none))

pub listing_start : (d : ℕ) (fs : List File) (out : Option (List ℕ)) → WritesSo (map filed_line (files_in d fs)) (listed_from d fs 0) out out
listing_start d fs out = writes_start (map filed_line (files_in d fs)) out

pub listing_some : (old now : World) (d k : ℕ) (s : FileShow) (a b : Option (List ℕ)) → old.files.mark ≡ None → Stood old now
    → Some s ≡ option_map show_of (slice_get (files_in d (plain (state_of now)).files) k)
    → WritesSo (map filed_line (files_in d (state_of old).raw.files)) (listed_from d (state_of old).raw.files k) a b
    → WritesSo (map filed_line (files_in d (state_of old).raw.files)) (printed.Filed s ∷ listed_from d (state_of old).raw.files (k + 1)) a b
listing_some old now d k s a b none still h w =
    let fs = files_in d (state_of old).raw.files in
    subst (λ ls. WritesSo (map filed_line fs) ls a b) (filed_next fs k s
    (h ∙ ap (λ gs. option_map show_of (slice_get (files_in d gs) k)) (stood_files old now none still))) w

pub listing_none : (old now : World) (d k n : ℕ) → old.files.mark ≡ None → Stood old now → n ≡ length (files_in d (state_of old).raw.files) → k < n
    → None ≡ option_map show_of (slice_get (files_in d (plain (state_of now)).files) k) → ⊥
listing_none old now d k n none still e l h =
    let past = none_shown (files_in d (state_of old).raw.files) k
    (h ∙ ap (λ gs. option_map show_of (slice_get (files_in d gs) k)) (stood_files old now none still)) in
    omega (arith, past, e, l)

pub listing_end : (d k n : ℕ) (fs : List File) (old now : Option (List ℕ)) → n ≡ length (files_in d fs) → k ≡ n
    → WritesSo (map filed_line (files_in d fs)) (listed_from d fs k) old now
    → Tells flows.On flows.On (text (map filed_line (files_in d fs))) old now
listing_end d k n fs old now e f w =
    let past : length (files_in d fs) ≤ k = omega (arith, e, f) in
    writes_end (map filed_line (files_in d fs)) (listed_from d fs k) old now (ap (map filed_line) (drop_all k (files_in d fs) past)) w

-- the lines of the words of a file, from a row on
abbrev pub rows_from : List ℕ → ℕ → ℕ → List Line
rows_from ws n row = rows (n - row) (drop (row * 8) ws)

pub rows_start : (ws : List ℕ) (n : ℕ) (out : Option (List ℕ)) → WritesSo (rows n ws) (rows_from ws n 0) out out
rows_start ws n out = let e : n - 0 ≡ n = omega arith in subst (λ k. WritesSo (rows n ws) (rows k ws) out out) (sym e) (writes_start (rows n ws) out)

rows_more : (ws : List ℕ) (n row : ℕ) → row < n → rows_from ws n row ≡ printed.Row (take 8 (drop (row * 8) ws)) ∷ rows_from ws n (row + 1)
rows_more ws n row h =
    let e : n - row ≡ suc (n - (row + 1)) = omega arith in
    let f : row * 8 + 8 ≡ (row + 1) * 8 = omega arith in
    ap (λ k. rows k (drop (row * 8) ws)) e
    ∙ ap (λ vs. printed.Row (take 8 (drop (row * 8) ws)) ∷ rows (n - (row + 1)) vs) (drop-drop 8 (row * 8) ws ∙ ap (λ k. drop k ws) f)

pub rows_next : (ws : List ℕ) (n row : ℕ) (old new : Option (List ℕ)) → row < n → WritesSo (rows n ws) (rows_from ws n row) old new
    → WritesSo (rows n ws) (printed.Row (take 8 (drop (row * 8) ws)) ∷ rows_from ws n (row + 1)) old new
rows_next ws n row old new h w = subst (λ ls. WritesSo (rows n ws) ls old new) (rows_more ws n row h) w

pub rows_end : (ws : List ℕ) (n row : ℕ) (old new : Option (List ℕ)) → row ≡ n → WritesSo (rows n ws) (rows_from ws n row) old new
    → Tells flows.On flows.On (text (rows n ws)) old new
rows_end ws n row old new e w =
    let none : n - row ≡ 0 = omega arith in
    writes_end (rows n ws) (rows_from ws n row) old new (ap (λ k. rows k (drop (row * 8) ws)) none) w

-- how many there are
pub rows_count : (k n : ℕ) → n ≡ k / 8 + min 1 (k % 8) → n ≡ (k + 7) / 8
rows_count k n e = elim (cases_eq (k % 8) 0) [
  | inl z ↦ omega (arith, e, ap (min 1) z, z)
  | inr some ↦ let m : min 1 (k % 8) ≡ 1 = min-eq_left (omega (arith, some)) in omega (arith, e, m, some)
]

-- the words of a row
pub row_within : (ws : List ℕ) (from count n k : ℕ) → count ≡ length ws → from ≤ count → n ≡ min 8 (count - from) → k < n → from + k < length ws
row_within ws from count n k h e f l = let m : min 8 (count - from) ≤ count - from = min-le_right 8 (count - from) in omega (arith, h, e, f, l, m)

pub row_past : (ws : List ℕ) (i : ℕ) → i < length ws → None ≡ slice_get ws i → ⊥
row_past ws i l h = let some : None ≡ Some (get_or ws i 0) = h ∙ slice_get-get_or ws i 0 l in cc

pub row_next : (ws us vs : List ℕ) (from k w : ℕ) → from + k < length ws → Some w ≡ slice_get ws (from + k) → us ≡ take k (drop from ws)
    → vs ≡ us ++ w ∷ [] → vs ≡ take (k + 1) (drop from ws)
row_next ws us vs from k w h g e f =
    let l : length (drop from ws) ≡ length ws - from = length-drop from ws in
    let within : k < length (drop from ws) = omega (arith, l, h) in
    let here : get_or (drop from ws) k 0 ≡ w = get_or-drop from ws k 0 ∙ get_or_from_slice_get ws (from + k) w 0 (sym g) in
    f ∙ ap (λ x. x ++ w ∷ []) e ∙ ap (λ x. take k (drop from ws) ++ x ∷ []) (sym here) ∙ sym (take-suc (drop from ws) k 0 within)
    ∙ ap (λ n. take n (drop from ws)) (sym (add-one-is k))
  where
    add-one-is : (n : ℕ) → n + 1 ≡ suc n
    add-one-is n = omega arith

pub row_end : (ws us : List ℕ) (from count n k : ℕ) → count ≡ length ws → n ≡ min 8 (count - from) → k ≡ n → us ≡ take k (drop from ws)
    → us ≡ take 8 (drop from ws)
row_end ws us from count n k h e f g =
    let l : length (drop from ws) ≡ length ws - from = length-drop from ws in
    let same : count - from ≡ length (drop from ws) = omega (arith, l, h) in
    g ∙ ap (λ j. take j (drop from ws)) (f ∙ e ∙ ap (min 8) same) ∙ take_min 8 (drop from ws)

-- a word and the length of a file that exists
word_found : (b : Bool) (ws : List ℕ) (k : ℕ) → b ≡ true → word_if b ws k ≡ slice_get ws k
word_found true ws k h = refl
word_found false ws k h = cc

length_found : (b : Bool) (ws : List ℕ) → b ≡ true → unwrap_or (length_if b ws) 0 ≡ length ws
length_found true ws h = refl
length_found false ws h = cc

pub word_stood : (old now : World) (id k : ℕ) (o : Option ℕ) → Stood old now → is_file (entry_at old.files id) ≡ true
    → o ≡ word_if (is_file (entry_at now.files id)) (words_at now.files id) k
    → o ≡ slice_get (words_at old.files id) k
word_stood old now id k o s h e =
    e ∙ ap (λ t. word_if (is_file (entry_at t id)) (words_at t id) k) s.files ∙ word_found (is_file (entry_at old.files id)) (words_at old.files id) k h

pub length_stood : (old now : World) (id n : ℕ) (o : Option ℕ) → Stood old now → is_file (entry_at old.files id) ≡ true
    → o ≡ length_if (is_file (entry_at now.files id)) (words_at now.files id) → n ≡ unwrap_or o 0
    → n ≡ length (words_at old.files id)
length_stood old now id n o s h e f =
    f ∙ ap (λ x. unwrap_or x 0) (e ∙ ap (λ t. length_if (is_file (entry_at t id)) (words_at t id)) s.files)
    ∙ length_found (is_file (entry_at old.files id)) (words_at old.files id) h

-- words that are added one after another: the first call performs the pending parts of a close
help_lands : (v then : State) (m : Machine) → then ≡ with_raw (help v) m → help then ≡ then
unfolding help state.after_help
help_lands v then m e = ap help e ∙ sym e

pub adding_start : (v : State) (n : Names) (words : List ℕ) → AddSo (help v) v n 0 words (drop 0 words)
adding_start v n words = record { raw = refl; reached = λ h. absurd (omega arith); whole = refl }

added_first : (m l : Machine) (n : Names) (w : ℕ) (ws : List ℕ) → with_word_added m n w ≡ Ok l → with_words_added m n (w ∷ ws) ≡ with_words_added l n ws
added_first m l n w ws h = ap (λ r. and_then r (λ k. with_words_added k n ws)) h

refused_first : (m : Machine) (n : Names) (w : ℕ) (ws : List ℕ) (r : Reason) → with_word_added m n w ≡ Err r → with_words_added m n (w ∷ ws) ≡ Err r
refused_first m n w ws r h = ap (λ x. and_then x (λ k. with_words_added k n ws)) h

pub adding_next : (v now then : State) (n : Names) (k x : ℕ) (words : List ℕ) → k < length words → x ≡ slice_index words k
    → AddSo v now n k words (drop k words)
    → Lands (help now) then (with_word_added (help now).raw n x) → AddSo v then n (k + 1) words (drop (k + 1) words)
adding_next v now then n k x words h e so d =
    let still : help then ≡ then = help_lands now then then.raw d.rest in
    let added : with_word_added (help now).raw n (slice_index words k) ≡ Ok then.raw = ap (with_word_added (help now).raw n) (sym e) ∙ d.is in
    record {
      raw = still ∙ d.rest ∙ ap (λ y. with_raw y then.raw) so.raw ∙ ap (λ y. with_raw v y.raw) (sym still);
      reached = λ z. sym still;
      whole = ap (λ y. with_words_added y.raw n (drop (k + 1) words)) still
          ∙ sym (added_first (help now).raw then.raw n (slice_index words k) (drop (k + 1) words) added)
          ∙ ap (with_words_added (help now).raw n) (sym (front words k h)) ∙ so.whole;
    }

pub adding_fails : (v now : State) (n : Names) (k : ℕ) (r : Reason) (words : List ℕ) → k < length words → AddSo v now n k words (drop k words)
    → with_word_added (help now).raw n (slice_index words k) ≡ Err r → with_words_added v.raw n words ≡ Err r
adding_fails v now n k r words h so g =
    sym so.whole ∙ ap (with_words_added (help now).raw n) (front words k h) ∙ refused_first (help now).raw n (slice_index words k) (drop (k + 1) words) r g

pub adding_end : (v now : State) (n : Names) (k : ℕ) (words rest : List ℕ) → 0 < k → rest ≡ [] → AddSo v now n k words rest
    → Lands v now (with_words_added v.raw n words)
adding_end v now n k words rest h e so =
    let here = so.reached h in
    record {
      is = sym so.whole ∙ ap (with_words_added (help now).raw n) e ∙ ap (λ x. Ok x.raw) (sym here);
      rest = here ∙ so.raw ∙ ap (λ x. with_raw v x.raw) (sym here);
    }

-- a word that is added to the file with these names, by its number
found_same : (n : Names) (f : File) (fs : List File) → file_named n fs ≡ Some f → same_names n f.names ≡ true
found_same n f [] h = cc
found_same n f (g ∷ gs) h = go (same_names n g.names) refl h (found_same n f gs)
  where
    go : (b : Bool) → same_names n g.names ≡ b → cond b (Some g) (file_named n gs) ≡ Some f
        → (file_named n gs ≡ Some f → same_names n f.names ≡ true) → same_names n f.names ≡ true
    go true e h rest = let same : g ≡ f = cc in ap (λ (x : File). same_names n x.names) (sym same) ∙ e
    go false e h rest = rest h

named_alike : (a b : Names) (fs : List File) → same_names a b ≡ true → file_named a fs ≡ file_named b fs
named_alike a b fs e = λ i. find (λ f. same_self a b f.names e i) fs

added_alike : (m : Machine) (a b : Names) (w : ℕ) (full : Bool) → same_names a b ≡ true → with_word_added_if m a w full ≡ with_word_added_if m b w full
added_alike m a b w true e = refl
added_alike m a b w false e = ap (λ fs. Ok (with_files m fs)) (changed_same a b (longer w) m.files e)

added_by : (m : Machine) (n : Names) (f : File) (w : ℕ) → file_named n m.files ≡ Some f → with_word_added m f.names w ≡ with_word_added m n w
unfolding with_word_added
added_by m n f w h =
    let same = found_same n f m.files h in
    ap (with_word_added_to m f.names w) (sym (named_alike n f.names m.files same) ∙ h)
    ∙ sym (added_alike m n f.names w (is_full m.files (channels_of m) f.words) same)
    ∙ sym (ap (with_word_added_to m n w) h)

module _ (old mid : World) (e : state_of mid ≡ help (state_of old)) (files : mid.files ≡ after_help old.files) where
  mid_same : after_help mid.files ≡ mid.files
  mid_same = made_none mid.files (helped_unmarked old.files mid.files files)

  mid_helped : help (state_of mid) ≡ help (state_of old)
  mid_helped = ap help e ∙ twice_helped (state_of old)

  -- the file still exists
  pub adds_file : (id : ℕ) → is_file (entry_at mid.files id) ≡ true → is_file (entry_at (after_help mid.files) id) ≡ true
  adds_file id h = ap (λ s. is_file (entry_at s id)) mid_same ∙ h

  adds_same : (n : Names) (id w : ℕ) → file_named n (plain (state_of old)).files ≡ Some (file_at mid.files id)
      → with_word_added (help (state_of mid)).raw (names_at (after_help mid.files) id) w ≡ with_word_added (help (state_of old)).raw n w
  adds_same n id w h =
      ap (λ v. with_word_added v.raw (names_at (after_help mid.files) id) w) mid_helped
      ∙ ap (λ s. with_word_added (help (state_of old)).raw (names_at s id) w) mid_same
      ∙ added_by (help (state_of old)).raw n (file_at mid.files id) w (ap (file_named n) (sym (found_files (state_of old))) ∙ h)

  pub adds_done : {T : Type 0} (result : Result T Refusal) (then : World) (n : Names) (id w : ℕ)
      → file_named n (plain (state_of old)).files ≡ Some (file_at mid.files id)
      → OnOk result (Lands (help (state_of mid)) (state_of then) (with_word_added (help (state_of mid)).raw (names_at (after_help mid.files) id) w))
      → OnOk result (Lands (help (state_of old)) (state_of then) (with_word_added (help (state_of old)).raw n w))
  adds_done (Ok x) then n id w h l =
      subst (λ v. Lands v (state_of then) (with_word_added (help (state_of old)).raw n w)) mid_helped
      (subst (Lands (help (state_of mid)) (state_of then)) (adds_same n id w h) l)
  adds_done (Err r) then n id w h l = tt

  pub adds_refused : {T : Type 0} (result : Result T Refusal) (n : Names) (id w : ℕ) → file_named n (plain (state_of old)).files ≡ Some (file_at mid.files id)
      → IfErr result (λ r. FileRefused (state_of mid) (λ m. with_word_added m (names_at (after_help mid.files) id) w) r)
      → IfErr result (λ r. with_word_added (help (state_of old)).raw n w ≡ Err (reason_of r))
  adds_refused (Ok x) n id w h f = tt
  adds_refused (Err r) n id w h f = sym (adds_same n id w h) ∙ f.calmed

  -- if there is no file with these names, the word is refused
  pub adds_nothing : (n : Names) (w : ℕ) (r : Refusal) → r ≡ refusals.NoFile → file_named n (plain (state_of old)).files ≡ None
      → with_word_added (help (state_of old)).raw n w ≡ Err (reason_of r)
  unfolding with_word_added
  adds_nothing n w r is h =
      ap (with_word_added_to (help (state_of old)).raw n w) (ap (file_named n) (sym (found_files (state_of old))) ∙ h)
      ∙ ap (λ x. Err (reason_of x)) (sym is)

-- the three names of a file, read one by one
pub three : (ns : Names) (a b c : ℕ) → length ns ≡ 3 → names_of (get_or ns 0 a) (get_or ns 1 b) (get_or ns 2 c) ≡ ns
three (x ∷ y ∷ z ∷ []) a b c h = refl
three _ a b c h = absurd (omega (arith, h))
