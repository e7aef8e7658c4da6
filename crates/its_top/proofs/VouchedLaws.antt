-- What `its run` wrote for a session with an END line is accepted.
use Rattle.std.proofs.Common.{◌≡◌, ◌≤◌, ◌+◌, ℕ, true, List, [], ◌∷◌, ◌++◌, length, map, refl, sym, ap, subst, ◌∙◌, append-nil}
use Rattle.std.specs.List.{concat}
use Rattle.its_print.specs.Printing.{Line, Peeked, text, text_of_line}
use Rattle.its_records.specs.declared.show.Peek.{Peek}
use Rattle.std.specs.Prelude.{bytes_eq}
use Rattle.std.proofs.lemmas.Slice.Eq.{bytes_eq-Decides}
use Rattle.its_session.specs.Events.{events_of, most_lines}
use Rattle.its_reader.specs.TextLines.{lines_in}
use Rattle.its_stepped.specs.Lines.{stepped}
use Rattle.its_stepped.proofs.Frame.DecodingLaws.{decoding}
use Rattle.its_stepped.proofs.Running.WrittenLaws.{written_transcript}
use Rattle.its_verify.specs.Accepted.{Accepted}
use Rattle.its_verify.specs.Lines.{Said, says}
use Rattle.its_verify.specs.Rulings.{Yes}
use Rattle.its_verify.specs.Verified.{Judged, verified}
use Rattle.its_verify.proofs.PartsLaws.{session_parts}
use Rattle.its_verify.proofs.PrintedLaws.{tells_text}
use Rattle.its_top.specs.Promise.{EndsSession}
use Rattle.its_top.proofs.CutLaws.{answer_by}
use Rattle.its_top.proofs.EndingLaws.{is_session, same_events}
use Rattle.its_top.proofs.PeekedLaws.{AllSmall, Small, session_small}

-- the text of a line that is printed says it
single : (l : Line) (texts : List (List ℕ)) → Said (l ∷ []) texts → concat texts ≡ text (l ∷ []) → says l (text_of_line l) ≡ true
unfolding text
single l [] h is = absurd h
single l (t ∷ []) h is =
    let same : t ≡ text_of_line l = sym (append-nil t) ∙ is ∙ append-nil (text_of_line l) in
    subst (λ (x : List ℕ). says l x ≡ true) same h.0
single l (t ∷ (u ∷ us)) h is = absurd h.1

peek_says : (s : ℕ) (peek : Peek) → Small (Peeked s peek) → says (Peeked s peek) (text_of_line (Peeked s peek)) ≡ true
peek_says s peek h = let t = tells_text (Peeked s peek ∷ []) (h, tt) in single (Peeked s peek) t.texts t.said t.whole

same_text : (xs : List ℕ) → bytes_eq xs xs ≡ true
same_text xs = (bytes_eq-Decides xs xs).1 refl

line_says : (l : Line) → Small l → says l (text_of_line l) ≡ true
line_says (Peeked s peek) h = peek_says s peek h
line_says l h = same_text (text_of_line l)

lines_said : (lines : List Line) → AllSmall lines → Said lines (map text_of_line lines)
lines_said [] h = tt
lines_said (l ∷ ls) h = (line_says l h.0, lines_said ls h.1)

texts_whole : (lines : List Line) → concat (map text_of_line lines) ≡ text lines
unfolding text
texts_whole [] = refl
texts_whole (l ∷ ls) = ap (λ xs. text_of_line l ++ xs) (texts_whole ls)

-- the text of what a session writes is accepted
pub run_accepted : (bytes : List ℕ) → Accepted (events_of bytes) (text (stepped (events_of bytes)).lines)
run_accepted bytes =
    let es = events_of bytes in
    let told = stepped es in
    record {
      lines = told.lines;
      fate = told.fate;
      transcript = written_transcript decoding es;
      text = record { texts = map text_of_line told.lines; said = lines_said told.lines (session_small decoding bytes); whole = texts_whole told.lines };
    }

-- after a session with an END line, with which the bytes that were run begin, what was written is
-- answered Yes
pub run_verified : (bytes session rest : List ℕ) (count : ℕ) → session ++ rest ≡ bytes → EndsSession session count
    → count + length (lines_in (text (stepped (events_of bytes)).lines)) ≤ most_lines
    → verified (session ++ text (stepped (events_of bytes)).lines) ≡ Judged (Yes (length (lines_in (text (stepped (events_of bytes)).lines))))
run_verified bytes session rest count whole s few =
    let transcript = text (stepped (events_of bytes)).lines in
    let events : events_of bytes ≡ events_of session = ap events_of (sym whole) ∙ same_events session rest count s in
    answer_by (session ++ transcript) (Judged (Yes (length (lines_in transcript))))
    (record {
      session = session;
      count = count;
      transcript = transcript;
      cut = record { whole = refl; parts = session_parts session transcript count (is_session session count s) };
      accepted = subst (λ es. Accepted es transcript) events (run_accepted bytes);
      lines = refl;
      room = few;
    })
