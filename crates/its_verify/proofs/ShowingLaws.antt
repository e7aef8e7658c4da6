-- Lines that an event shows, which are printed and then expected.
use Rattle.std.proofs.Common.{◌≡◌, ◌<◌, ◌≤◌, ◌+◌, ◌*◌, ◌/◌, ◌%◌, ◌-◌, ℕ, suc, Option, Some, None, Result, Ok, Err, List, [], ◌∷◌, length, map, take, drop, min, slice_index_or, refl, add-one, sym, ap, subst, ◌∙◌, inl, inr, arith}
use Rattle.std.proofs.Math.Seq.{drop-cons}
use Rattle.std.proofs.Math.ListN.{drop_of_length-le}
use Rattle.std.proofs.lemmas.Bool.{cases_eq}
use Rattle.std.proofs.Math.Nat.{min-eq_left}
use Rattle.std.proofs.lemmas.List.{drop-drop, length-map}
use Rattle.its_io.specs.declared.stream.Failed.{Failed}
use Rattle.its_files.specs.Files.{Store, file_at as file_of}
use Rattle.its_print.specs.Printing.{Dir, Filed, Line, Listed, Row, listed, text_of_line}
use Rattle.its_records.specs.declared.show.FileShow.{FileShow}
use Rattle.its_plain.specs.Machine.{File, Names}
use Rattle.its_plain.specs.Operator.Files.{filed_line, listing, rows, show_of}
use Rattle.its_verify.specs.TranscriptReader.{Forward, AtLine, Says, Stays, same_as}
use Rattle.its_verify.proofs.TranscriptReaderLaws.{led_forward, nothing_on, says_then}
use Rattle.its_verify.specs.Rulings.{Ruling, led, saying, expects}
use Rattle.its_verify.specs.Showing.{LinesSo, names_line, text_lines}
use Rattle.its_verify.specs.declared.outcome.Outcome.{Outcome}
use Rattle.its_verify.specs.declared.transcript_reader.TranscriptReader.{TranscriptReader}

-- one line, whose text is expected
pub reply_says : (l : Line) (o : Result (Option Outcome) Failed) (old new : TranscriptReader) (left rest : Option (List ℕ))
    → saying l ≡ same_as (text_of_line l)
    → ((next : Ruling) → Says o old new left rest (led (same_as (text_of_line l)) (λ t. next)) next) → (next : Ruling)
    → Says o old new left rest (expects (l ∷ []) next) next
reply_says l o old new left rest same says next = subst (λ (f : List ℕ → Option (List ℕ)). Says o old new left rest (led f (λ t. next))
    next) (sym same) (says next)

-- several lines
pub lines_forward : (lines : List Line) (next : Ruling) → Forward next → Forward (expects lines next)
lines_forward [] next h = h
lines_forward (line ∷ lines) next h = led_forward (saying line) (λ text. expects lines next) (λ text. lines_forward lines next h)

pub lines_start : (h : TranscriptReader) (left : Option (List ℕ)) (lines : List Line) → LinesSo h h left left lines lines
lines_start h left lines = record { passes = λ next. nothing_on h left (expects lines next) }

lines_then : (r o : Result (Option Outcome) Failed) (old now new : TranscriptReader) (left mid rest : Option (List ℕ))
    (lines rests more : List Line) (l : Line) → r ≡ o → rests ≡ l ∷ more → LinesSo old now left mid lines rests
    → ((next : Ruling) → Says r now new mid rest (expects (l ∷ []) next) next) → (next : Ruling)
    → Says o old new left rest (expects lines next) (expects more next)
lines_then r o old now new left mid rest lines rests more l is split so says next =
    says_then o old now new left mid rest (expects lines next) (expects (l ∷ more) next) (expects more next)
    ((subst (LinesSo old now left mid lines) split so).passes next)
    (subst (λ q. Says q now new mid rest (expects (l ∷ []) (expects more next)) (expects more next)) is (says (expects more next)))

pub lines_next : (r : Result (Option Outcome) Failed) (old now new : TranscriptReader) (left mid rest : Option (List ℕ))
    (lines rests more : List Line) (l : Line) → r ≡ Ok None → rests ≡ l ∷ more → LinesSo old now left mid lines rests
    → ((next : Ruling) → Says r now new mid rest (expects (l ∷ []) next) next) → LinesSo old new left rest lines more
lines_next r old now new left mid rest lines rests more l is split so says =
    record { passes = λ next. lines_then r (Ok None) old now new left mid rest lines rests more l is split so says next }

pub lines_stop : (r : Result (Option Outcome) Failed) (f : Outcome) (old now new : TranscriptReader) (left mid rest : Option (List ℕ))
    (lines rests more : List Line) (l : Line) → r ≡ Ok (Some f) → rests ≡ l ∷ more → LinesSo old now left mid lines rests
    → ((next : Ruling) → Says r now new mid rest (expects (l ∷ []) next) next) → (next : Ruling)
    → Says (Ok (Some f)) old new left rest (expects lines next) next
lines_stop r f old now new left mid rest lines rests more l is split so says next =
    lines_then r (Ok (Some f)) old now new left mid rest lines rests more l is split so says next

pub lines_fail : (r : Result (Option Outcome) Failed) (e : Failed) (old now new : TranscriptReader) (left mid rest : Option (List ℕ))
    (lines rests more : List Line) (l : Line) → r ≡ Err e → rests ≡ l ∷ more → LinesSo old now left mid lines rests
    → ((next : Ruling) → Says r now new mid rest (expects (l ∷ []) next) next) → (next : Ruling) → Says (Err e) old new left rest (expects lines next) next
lines_fail r e old now new left mid rest lines rests more l is split so says next forward =
    lines_then r (Err e) old now new left mid rest lines rests more l is split so says next (lines_forward more next forward)

pub lines_end : (old now : TranscriptReader) (left rest : Option (List ℕ)) (lines more : List Line) → more ≡ []
    → LinesSo old now left rest lines more → (next : Ruling) → Says (Ok None) old now left rest (expects lines next) next
lines_end old now left rest lines more none so next = (subst (LinesSo old now left rest lines) none so).passes next

pub at_line_by : (r : Result (Option Outcome) Failed) (new : TranscriptReader) (rest : Option (List ℕ)) → r ≡ Ok None → Stays r new rest → AtLine new rest
at_line_by r new rest is h = subst (λ q. Stays q new rest) is h

-- a line for each of some words
pub listed_more : (s p k : ℕ) (ws : List ℕ) (w : ℕ) → k < length ws → w ≡ slice_index_or ws k w → listed s p (drop k ws) ≡ Listed s p w
    ∷ listed s (p + 1) (drop (k + 1) ws)
listed_more s p k ws w below at = rw (drop-cons ws k w below, add-one k, sym at) refl

-- files
pub filed_says : (f : File) (show : FileShow) (o : Result (Option Outcome) Failed) (old new : TranscriptReader)
    (left rest : Option (List ℕ)) → show ≡ show_of f
    → ((next : Ruling) → Says o old new left rest (expects (Filed show ∷ []) next) next) → (next : Ruling)
    → Says o old new left rest (expects (filed_line f ∷ []) next) next
filed_says f show o old new left rest is says next = subst (λ (x : FileShow). Says o old new left rest (expects (Filed x ∷ []) next) next) is (says next)

pub row_says : (ws row : List ℕ) (o : Result (Option Outcome) Failed) (old new : TranscriptReader) (left rest : Option (List ℕ)) → row ≡ ws
    → ((next : Ruling) → Says o old new left rest (expects (Row row ∷ []) next) next) → (next : Ruling)
    → Says o old new left rest (expects (Row ws ∷ []) next) next
row_says ws row o old new left rest is says next = subst (λ (x : List ℕ). Says o old new left rest (expects (Row x ∷ []) next) next) is (says next)

-- two parts of what is shown
pub then_says : (r o : Result (Option Outcome) Failed) (old mid new : TranscriptReader) (left between rest : Option (List ℕ)) (l : Line)
    (lines : List Line) → r ≡ Ok None
    → ((next : Ruling) → Says r old mid left between (expects (l ∷ []) next) next) → ((next : Ruling) → Says o mid new between rest (expects lines next) next)
    → (next : Ruling) → Says o old new left rest (expects (l ∷ lines) next) next
then_says r o old mid new left between rest l lines is first more next =
    says_then o old mid new left between rest (expects (l ∷ lines) next) (expects lines next) next
    (subst (λ q. Says q old mid left between (expects (l ∷ []) (expects lines next)) (expects lines next)) is (first (expects lines next))) (more next)

pub stop_says : (r : Result (Option Outcome) Failed) (f : Outcome) (old new : TranscriptReader) (left rest : Option (List ℕ)) (l : Line)
    (lines : List Line) → r ≡ Ok (Some f)
    → ((next : Ruling) → Says r old new left rest (expects (l ∷ []) next) next) → (next : Ruling)
    → Says (Ok (Some f)) old new left rest (expects (l ∷ lines) next) next
stop_says r f old new left rest l lines is first next = subst
    (λ q. Says q old new left rest (expects (l ∷ []) (expects lines next)) (expects lines next)) is (first (expects lines next))

pub fail_says : (r : Result (Option Outcome) Failed) (e : Failed) (old new : TranscriptReader) (left rest : Option (List ℕ)) (l : Line)
    (lines : List Line) → r ≡ Err e
    → ((next : Ruling) → Says r old new left rest (expects (l ∷ []) next) next) → (next : Ruling)
    → Says (Err e) old new left rest (expects (l ∷ lines) next) next
fail_says r e old new left rest l lines is first next forward =
    subst (λ q. Says q old new left rest (expects (l ∷ []) (expects lines next)) (expects lines next)) is (first (expects lines next))
    (lines_forward lines next forward)

pub same_says : (o : Result (Option Outcome) Failed) (old new : TranscriptReader) (left rest : Option (List ℕ)) (lines more : List Line) → lines ≡ more
    → ((next : Ruling) → Says o old new left rest (expects lines next) next) → (next : Ruling) → Says o old new left rest (expects more next) next
same_says o old new left rest lines more is says next = subst (λ (ls : List Line). Says o old new left rest (expects ls next) next) is (says next)

-- a line for each of some files
pub filed_more : (files : Store) (ids : List ℕ) (k d : ℕ) → k < length ids
    → map filed_line (map (file_of files) (drop k ids)) ≡ filed_line (file_of files (slice_index_or ids k d))
    ∷ map filed_line (map (file_of files) (drop (k + 1) ids))
filed_more files ids k d below = rw (drop-cons ids k d below, add-one k) refl

pub filed_end : (files : Store) (ids : List ℕ) (k : ℕ) → length ids ≤ k → map filed_line (map (file_of files) (drop k ids)) ≡ []
filed_end files ids k past = rw (drop_of_length-le ids past) refl

-- a line for each row of a file
pub rows_more : (n k : ℕ) (ws : List ℕ) → k < n → rows (n - k) (drop (8 * k) ws) ≡ Row (take 8 (drop (8 * k) ws)) ∷ rows (n - (k + 1)) (drop (8 * (k + 1)) ws)
rows_more n k ws less =
    let step : n - k ≡ suc (n - (k + 1)) = omega arith in
    let on : drop 8 (drop (8 * k) ws) ≡ drop (8 * (k + 1)) ws = drop-drop 8 (8 * k) ws ∙ ap (λ (m : ℕ). drop m ws) (omega arith) in
    rw step (ap (λ (xs : List ℕ). Row (take 8 (drop (8 * k) ws)) ∷ rows (n - (k + 1)) xs) on)

pub rows_end : (n k : ℕ) (ws : List ℕ) → n ≤ k → rows (n - k) (drop (8 * k) ws) ≡ []
rows_end n k ws past = (let none : n - k ≡ 0 = omega arith in rw none refl)

pub rows_count : (k n : ℕ) → n ≡ k / 8 + min 1 (k % 8) → n ≡ (k + 7) / 8
rows_count k n e = elim (cases_eq (k % 8) 0) [
  | inl z ↦ omega (arith, e, ap (min 1) z, z)
  | inr some ↦ let m : min 1 (k % 8) ≡ 1 = min-eq_left (omega (arith, some)) in omega (arith, e, m, some)
]

-- a line for each of some words
pub listed_end : (s p k : ℕ) (ws : List ℕ) → length ws ≤ k → listed s p (drop k ws) ≡ []
listed_end s p k ws past = rw (drop_of_length-le ws past) refl

-- all lines of DIR and of SHOW
pub listing_is : (files : Store) (d n : ℕ) (ids : List ℕ) (fs : List File) → map (file_of files) ids ≡ fs → n ≡ length ids
    → (Dir d n ∷ map filed_line (map (file_of files) ids)) ≡ listing d fs
listing_is files d n ids fs is count =
    ap (λ (k : ℕ). Dir d k ∷ map filed_line (map (file_of files) ids)) (count ∙ sym (length-map ids (file_of files))) ∙ ap (listing d) is

pub text_is : (names : Names) (n : ℕ) (ws : List ℕ) → n ≡ length ws → (names_line names n ∷ rows ((n + 7) / 8) ws) ≡ text_lines names ws
text_is names n ws is = ap (λ (k : ℕ). names_line names k ∷ rows ((k + 7) / 8) ws) is
