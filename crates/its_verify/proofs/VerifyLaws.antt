-- What is found of an input.
use Rattle.std.proofs.Common.{◌≡◌, ◌≤◌, ◌<◌, ◌+◌, ◌-◌, ℕ, true, false, Option, Some, None, Result, Ok, Err, List, [], ◌∷◌, ◌++◌, length, take, leb, ltb, refl, sym, ap, subst, ◌∙◌, inl, inr, arith, append_assoc, append-nil, length-append}
use Rattle.std.specs.Io.KnownBytes.{Consumes}
use Rattle.std.specs.List.{concat, list_any}
use Rattle.std.proofs.lemmas.Bool.{cases_Bool}
use Rattle.std.proofs.lemmas.Bool.Decides.{nat_tests}
use Rattle.std.proofs.lemmas.List.Folds.{concat-append, list_any-append}
use Rattle.its_io.specs.declared.stream.Failed.{Failed}
use Rattle.its_records.specs.Item.{Item}
use Rattle.its_reader.specs.declared.buffer.Buffer.{Buffer}
use Rattle.its_session.specs.Events.{events_of, most_lines}
use Rattle.its_reader.specs.declared.texts.Texts.{Texts}
use Rattle.its_reader.specs.Bytes.{pending}
use Rattle.its_reader.specs.TextLines.{before_lf, lines_in}
use Rattle.its_plain.specs.Transcript.Licence.{Dots}
use Rattle.its_plain.specs.Machine.{Machine, no_machine}
use Rattle.its_plain.specs.Operator.{no_block}
use Rattle.its_plain.specs.Transcript.{Walk, at_start}
use Rattle.its_plain.specs.Transcript.Turns.{highest}
use Rattle.its_direct.specs.Plain.{machine_of}
use Rattle.its_verify.specs.Finds.{Breaks, Found, Judges, Unmade, said_of}
use Rattle.its_verify.specs.Going.{judge_from}
use Rattle.its_verify.specs.TranscriptReader.{Concludes, SaidLater, cut}
use Rattle.its_verify.specs.Rulings.{Ruling, Verdict, Yes, No, judged}
use Rattle.its_verify.specs.Keeping.{Keeps, KeptTo, parts_by}
use Rattle.its_verify.specs.Lines.{most_bytes}
use Rattle.its_verify.specs.Sources.{IsTold, bytes_of, texts_of}
use Rattle.its_verify.specs.JudgeState.{dots_of, walk_of}
use Rattle.its_verify.specs.Undecided.{count_in, decisive, most_behind}
use Rattle.its_verify.specs.Went.{Fell, Went}
use Rattle.its_verify.specs.Verified.{Answer, Both, Judged, Long as LongAnswer, Cut as CutAnswer, TooLong, IsYes, bounded, by_parts, is_end_line, most_session_bytes, parts_from, verified, within}
use Rattle.its_verify.specs.declared.outcome.Outcome.{Outcome}
use Rattle.its_verify.specs.declared.outcome.Outcome.TheVariants as outcomes
use Rattle.its_verify.specs.declared.keeping.Broken.{Broken}
use Rattle.its_verify.specs.declared.keeping.Broken.TheVariants.{Source, Memory}
use Rattle.its_verify.specs.declared.keeping.Part.{Part}
use Rattle.its_verify.specs.declared.keeping.Part.TheVariants.{Session, Long, Cut, Beyond}
use Rattle.its_verify.specs.declared.verifier.Verifier.{Verifier}
use Rattle.its_verify.proofs.TranscriptReaderLaws.{passed_says}
use Rattle.its_verify.proofs.LinesLaws.{all_whole, lines_concat}
use Rattle.its_verify.proofs.PartsLaws.{lines_behind, no_session, other_transcript}
use Rattle.its_verify.proofs.SourceLaws.{still_open, went_then}
use Rattle.its_verify.proofs.WholeLaws.{whole_beyond, whole_cut, whole_long, whole_session}

-- the start of a verifier
starts : (m : Machine) (d : Dots) → m ≡ no_machine → d ≡ (λ k. 0) → record { machine = m; dots = d; block = no_block; line = 1 } ≡ at_start
starts m d machine dots = ap (λ (x : Machine). with_dots x d) machine ∙ ap (with_dots no_machine) dots
  where
    with_dots : Machine → Dots → Walk
    with_dots x y = record { machine = x; dots = y; block = no_block; line = 1 }

said_same : (t : Verifier) (texts : Texts) (session : List ℕ) (lines : List (List ℕ)) → machine_of t.judge.plain ≡ no_machine
    → dots_of t.judge.dots ≡ (λ k. 0) → t.last ≡ highest
    → t.reader.room ≡ most_lines - texts.number → t.reader.passed ≡ 0
    → said_of texts session lines ≡ cut t.reader.room t.reader.passed (judge_from t no_block 1 (events_of session)) lines
said_same t texts session lines machine dots last room passed =
    ap (λ (w : Walk). cut (most_lines - texts.number) 0 (judged w highest (events_of session)) lines)
    (sym (starts (machine_of t.judge.plain) (dots_of t.judge.dots) machine dots))
    ∙ ap (λ (i : ℕ). cut (most_lines - texts.number) 0 (judged (walk_of t.judge no_block 1) i (events_of session)) lines) (sym last)
    ∙ ap (λ (n : ℕ). cut n 0 (judge_from t no_block 1 (events_of session)) lines) (sym room)
    ∙ ap (λ (n : ℕ). cut t.reader.room n (judge_from t no_block 1 (events_of session)) lines) (sym passed)

pub judges_so : (f : Outcome) (t : Verifier) (texts : Texts) (session : List ℕ) (left rest : Option (List ℕ))
    → machine_of t.judge.plain ≡ no_machine → dots_of t.judge.dots ≡ (λ k. 0) → t.last ≡ highest
    → t.reader.room ≡ most_lines - texts.number → t.reader.passed ≡ 0 → texts_of t.reader.texts left ≡ texts_of texts left
    → Concludes (Ok f) t.reader left rest (judge_from t no_block 1 (events_of session)) → Judges (Ok f) texts session left rest
judges_so f t texts session left rest machine dots last room passed same ends told =
    ap (said_of texts session) (sym same) ∙ said_same t texts session (texts_of t.reader.texts left) machine dots last room passed ∙ ends told

pub judges_fail : (e : Failed) (t : Verifier) (texts : Texts) (session : List ℕ) (left rest : Option (List ℕ))
    → machine_of t.judge.plain ≡ no_machine → dots_of t.judge.dots ≡ (λ k. 0) → t.last ≡ highest
    → t.reader.room ≡ most_lines - texts.number → t.reader.passed ≡ 0 → texts_of t.reader.texts left ≡ texts_of texts left
    → t.reader.texts.buffer ≡ texts.buffer → t.reader.texts.number ≡ texts.number → t.reader.texts.ended ≡ texts.ended
    → Concludes (Err e) t.reader left rest (judge_from t no_block 1 (events_of session)) → Judges (Err Source) texts session left rest
judges_fail e t texts session left rest machine dots last room passed same buffer number ended ends told =
    let ruling : Ruling = judge_from t no_block 1 (events_of session) in
    let f = ends told in
    let w = f.passed.went in
    let lines = f.passed.lines in
    let count : f.at.passed ≡ length lines = (let p = f.passed.passed in omega (arith, p, passed)) in
    let all : said_of texts session (texts_of texts left) ≡ cut f.at.room f.at.passed f.next (texts_of f.at.texts f.mid) =
    ap (said_of texts session) (sym same) ∙ said_same t texts session (texts_of t.reader.texts left) machine dots last room passed
    ∙ passed_says t.reader f.at left f.mid ruling f.next f.passed in
    let alone : said_of texts session lines ≡ cut f.at.room f.at.passed f.next [] =
    said_same t texts session lines machine dots last room passed ∙ ap (cut t.reader.room t.reader.passed ruling) (sym (append-nil lines))
    ∙ f.passed.leads [] in
    record {
      at = f.at.texts;
      mid = f.mid;
      lines = lines;
      went = record {
        bytes = ap (λ (x : Buffer). pending x ++ bytes_of left) (sym buffer) ∙ w.bytes;
        number = w.number ∙ ap (λ (n : ℕ). n + length lines) number;
        over = λ k. w.over (ended ∙ k);
        whole = w.whole;
      };
      fell = f.fell;
      later = subst (λ (n : ℕ). SaidLater n (said_of texts session (texts_of texts left))) count (subst (SaidLater f.at.passed) (sym all) f.later);
      ended = λ said. f.ended (subst IsYes alone said);
    }

-- a failure, if the answer is about a line that was not read whole
told_consumes : (bytes read : List ℕ) (rest : Option (List ℕ)) → IsTold rest → bytes ≡ read ++ bytes_of rest → Consumes (Some bytes) rest read
told_consumes bytes read (Some ys) t is = is
told_consumes bytes read None t is = absurd t

-- memory was refused
unmade_by : (old new : Texts) (bytes : List ℕ) (rest : Option (List ℕ)) → pending old.buffer ≡ [] → KeptTo old new (Some bytes) rest
    → IsTold rest → Unmade bytes rest
unmade_by old new bytes rest empty k told =
    let before = concat k.before in
    let text = new.text.items in
    let held = pending new.buffer in
    let behind = bytes_of rest in
    let all : bytes ≡ (before ++ (text ++ held)) ++ behind =
    ap (λ (xs : List ℕ). xs ++ bytes) (sym empty) ∙ k.went.bytes
    ∙ ap (λ (xs : List ℕ). xs ++ (held ++ behind)) (concat-append k.before (text ∷ []) ∙ ap (λ (xs : List ℕ). before ++ xs) (append-nil text))
    ∙ append_assoc before text (held ++ behind) ∙ ap (λ (xs : List ℕ). before ++ xs) (sym (append_assoc text held behind))
    ∙ sym (append_assoc before (text ++ held) behind) in
    record {
      lines = k.before;
      more = text ++ held;
      consumed = told_consumes bytes (before ++ (text ++ held)) rest told all;
      whole = k.whole;
      none = k.none;
      few = omega (arith, length-append text held, k.short, k.fits);
    }

breaks_by : (lines : List (List ℕ)) (most : ℕ) (old at : Texts) (bytes : List ℕ) (mid rest : Option (List ℕ)) → pending old.buffer ≡ []
    → old.number ≡ 0 → Went lines old at (Some bytes) mid → (f : Fell most at mid rest)
    → most ≡ most_behind (list_any is_end_line lines) → length lines < decisive (count_in (parts_from 1 [] (lines_in bytes)))
    (verified bytes) → (IsYes (verified (concat lines)) → f.begun ≡ []) → Breaks bytes rest
breaks_by lines most old at bytes mid rest empty number w f limit undecided ended =
    let all : bytes ≡ (concat lines ++ f.begun) ++ bytes_of rest =
    ap (λ (xs : List ℕ). xs ++ bytes) (sym empty) ∙ w.bytes ∙ ap (λ (xs : List ℕ). concat lines ++ xs) f.bytes
    ∙ sym (append_assoc (concat lines) f.begun (bytes_of rest)) in
    record {
      read = concat lines ++ f.begun;
      consumed = told_consumes bytes (concat lines ++ f.begun) rest f.told all;
      undecided = record {
        lines = lines;
        begun = f.begun;
        are = refl;
        whole = w.whole f.runs;
        inside = f.inside;
        undecided = undecided;
        short = subst (λ (n : ℕ). length f.begun ≤ n) limit f.short;
        few = λ some. (let few = f.few some in omega (arith, few, w.number, number));
        ended = ended;
      };
    }

bounded_decisive : (count room : ℕ) (es : List Item) (texts : List (List ℕ)) → count ≤ most_lines + 1 → count ≤ decisive count (bounded room es texts)
unfolding bounded
bounded_decisive count room es texts few =
    elim (cases_Bool (leb (length texts) room)) [
      | inl fit ↦ rw fit (by_verdict (judged at_start highest es 0 texts))
      | inr past ↦ rw past (by_within (judged at_start highest es 0 (take room texts)))
    ]
  where
    by_verdict : (v : Verdict) → count ≤ decisive count (Judged v)
    by_verdict (Yes k) = omega arith
    by_verdict (No k) = omega arith

    by_within : (v : Verdict) → count ≤ decisive count (within room v)
    by_within (Yes k) = few
    by_within (No k) = elim (cases_Bool (leb k room)) [ inl e ↦ rw e (omega arith) | inr e ↦ rw e few ]

parts_decisive : (n : ℕ) (session : List ℕ) (texts : List (List ℕ)) → n ≤ most_lines + 1
    → n ≤ decisive (count_in (parts_from n session texts)) (by_parts (parts_from n session texts))
parts_decisive n session [] few = omega arith
parts_decisive n session (line ∷ lines) few =
    elim (cases_Bool (ltb most_lines n)) [
      | inl past ↦ rw past few
      | inr within ↦
          elim (cases_Bool (ltb most_session_bytes (length (before_lf line)))) [
            | inl long ↦ rw (within, long) (omega arith)
            | inr short ↦
                elim (cases_Bool (is_end_line line)) [
                  | inl end ↦ rw (within, short, end) (bounded_decisive n (most_lines - n) (events_of (session ++ line)) lines few)
                  | inr other ↦
                      (let below : n ≤ most_lines = grind (arith, nat_tests) in
                      let on = parts_decisive (n + 1) (session ++ line) lines (omega (arith, below)) in
                      rw (within, short, other) (omega (arith, on)))
                ]
          ]
    ]

said_decisive : (count n : ℕ) (a : Answer) → SaidLater n a → count + n ≤ most_lines → count + n < decisive count a
said_decisive count n (Judged (Yes k)) h few = omega (arith, h)
said_decisive count n (Judged (No k)) h few = omega (arith, h)
said_decisive count n TooLong h few = omega (arith, few)
said_decisive count n (LongAnswer k) h few = absurd h
said_decisive count n (CutAnswer k) h few = absurd h

-- the first part of an input
first_parts : (old new : Texts) (part : Part) (session bytes : List ℕ) (rest : Option (List ℕ)) → pending old.buffer ≡ []
    → Keeps (Ok part) old new session (Some bytes) rest
    → parts_from 1 [] (lines_in bytes) ≡ parts_by part session new.number (texts_of new rest)
first_parts old new part session bytes rest empty keeps =
    ap (λ (xs : List ℕ). parts_from 1 [] (lines_in (xs ++ bytes))) (sym empty) ∙ (keeps tt).0

-- what is said of the lines that were read, if they are all
session_alone : (old new at : Texts) (session bytes : List ℕ) (mid rest : Option (List ℕ)) (lines more : List (List ℕ))
    → pending old.buffer ≡ [] → old.number ≡ 0 → Went lines old new (Some bytes) mid → Went more new at mid rest
    → at.ended ≡ false → parts_from 1 [] (lines_in bytes) ≡ Both session new.number (texts_of new mid)
    → verified (concat (lines ++ more)) ≡ said_of new session more
session_alone old new at session bytes mid rest lines more empty number w v runs parts =
    let both = went_then lines more old new at (Some bytes) mid rest w v in
    let all : bytes ≡ concat lines ++ (pending new.buffer ++ bytes_of mid) = ap (λ (xs : List ℕ). xs ++ bytes) (sym empty) ∙ w.bytes in
    let cut_up : lines_in bytes ≡ lines ++ texts_of new mid =
    ap lines_in all ∙ lines_behind lines (pending new.buffer ++ bytes_of mid) (all_whole lines (w.whole (still_open new.ended at.ended v.over runs))) in
    let alone : parts_from 1 [] (lines ++ more) ≡ Both session new.number more =
    other_transcript new.number session lines (texts_of new mid) more (let n = w.number in omega (arith, n, number))
    (ap (parts_from 1 []) (sym cut_up) ∙ parts) in
    whole_session (concat (lines ++ more)) session new.number more
    (ap (parts_from 1 []) (lines_concat (lines ++ more) (all_whole (lines ++ more) (both.whole runs))) ∙ alone)

pub finds_session : (result : Result Outcome Broken) (old new : Texts) (session : List ℕ) (left mid rest : Option (List ℕ))
    → pending old.buffer ≡ [] → old.number ≡ 0 → Keeps (Ok Session) old new session left mid
    → Judges result new session mid rest → Found result left rest
finds_session (Ok f) old new session (Some bytes) mid rest empty number keeps judges =
    (let parts = first_parts old new Session session bytes mid empty keeps in
    whole_session bytes session new.number (texts_of new mid) parts ∙ judges (keeps tt).1)
finds_session (Ok f) old new session None mid rest empty number keeps judges = tt
finds_session (Err Source) old new session None mid rest empty number keeps judges = tt
finds_session (Err Source) old new session (Some bytes) mid rest empty number keeps judges =
    (let k = keeps tt in
    let j = judges k.1 in
    let parts = first_parts old new Session session bytes mid empty keeps in
    let lines = k.2.kept.lines ++ j.lines in
    let went = went_then k.2.kept.lines j.lines old new j.at (Some bytes) mid j.mid k.2.kept.went j.went in
    let count : length lines ≡ new.number + length j.lines =
    (let n = k.2.kept.went.number in omega (arith, n, number, length-append k.2.kept.lines j.lines)) in
    let ends : list_any is_end_line lines ≡ true = rw (list_any-append is_end_line k.2.kept.lines j.lines, k.2.kept.ends) refl in
    breaks_by lines most_bytes old j.at bytes j.mid rest empty number went j.fell
    (ap most_behind (sym ends))
    (rw (parts, count, whole_session bytes session new.number (texts_of new mid) parts)
    (said_decisive new.number (length j.lines) (said_of new session (texts_of new mid)) j.later
    (let n = j.went.number in let w = j.fell.within in omega (arith, n, w))))
    (λ said. j.ended (subst IsYes (session_alone old new j.at session bytes mid j.mid k.2.kept.lines j.lines empty number k.2.kept.went
    j.went j.fell.runs parts) said)))
finds_session (Err Memory) old new session None mid rest empty number keeps judges = tt
finds_session (Err Memory) old new session (Some bytes) mid rest empty number keeps judges =
    (let k = keeps tt in unmade_by old new bytes rest empty (subst (KeptTo old new (Some bytes)) (sym judges) k.2.to) (subst IsTold (sym judges) k.1))

finds_failed : (old new : Texts) (session : List ℕ) (left rest : Option (List ℕ)) → pending old.buffer ≡ [] → old.number ≡ 0
    → Keeps (Err Source) old new session left rest → Found (Err Source) left rest
unfolding verified
finds_failed old new session None rest empty number keeps = tt
finds_failed old new session (Some bytes) rest empty number keeps =
    let k = keeps tt in
    let lines = k.kept.lines in
    let count : length lines ≡ k.at.number = (let n = k.kept.went.number in omega (arith, n, number)) in
    let parts : parts_from 1 [] (lines_in bytes) ≡ parts_from (k.at.number + 1) k.session (texts_of k.at k.mid) =
    ap (λ (xs : List ℕ). parts_from 1 [] (lines_in (xs ++ bytes))) (sym empty) ∙ k.parts in
    let within = k.fell.within in
    let more = parts_decisive (k.at.number + 1) k.session (texts_of k.at k.mid) (omega (arith, within)) in
    breaks_by lines most_session_bytes old k.at bytes k.mid rest empty number k.kept.went k.fell (ap most_behind (sym k.kept.ends))
    (rw parts (omega (arith, more, count)))
    (λ said. absurd (no_session 1 [] lines k.kept.ends (subst (λ (ls : List (List ℕ)). IsYes (by_parts (parts_from 1 [] ls)))
    (lines_concat lines (all_whole lines (k.kept.went.whole k.fell.runs))) said)))

pub finds_err : (x : Broken) (old new : Texts) (session : List ℕ) (left rest : Option (List ℕ)) → pending old.buffer ≡ [] → old.number ≡ 0
    → Keeps (Err x) old new session left rest → Found (Err x) left rest
finds_err Source old new session left rest empty number keeps = finds_failed old new session left rest empty number keeps
finds_err Memory old new session None rest empty number keeps = tt
finds_err Memory old new session (Some bytes) rest empty number keeps = (let k = keeps tt in unmade_by old new bytes rest empty k.to k.told)

pub finds_long : (n : ℕ) (old new : Texts) (session : List ℕ) (left mid rest : Option (List ℕ)) → pending old.buffer ≡ []
    → Keeps (Ok (Long n)) old new session left mid → Found (Ok (outcomes.Long n)) left rest
finds_long n old new session (Some bytes) mid rest empty keeps = whole_long bytes n (first_parts old new (Long n) session bytes mid empty keeps)
finds_long n old new session None mid rest empty keeps = tt

pub finds_cut : (n : ℕ) (old new : Texts) (session : List ℕ) (left mid rest : Option (List ℕ)) → pending old.buffer ≡ []
    → Keeps (Ok (Cut n)) old new session left mid → Found (Ok (outcomes.Cut n)) left rest
finds_cut n old new session (Some bytes) mid rest empty keeps = whole_cut bytes n (first_parts old new (Cut n) session bytes mid empty keeps)
finds_cut n old new session None mid rest empty keeps = tt

pub finds_beyond : (old new : Texts) (session : List ℕ) (left mid rest : Option (List ℕ)) → pending old.buffer ≡ []
    → Keeps (Ok Beyond) old new session left mid → Found (Ok outcomes.TooLong) left rest
finds_beyond old new session (Some bytes) mid rest empty keeps = whole_beyond bytes (first_parts old new Beyond session bytes mid empty keeps)
finds_beyond old new session None mid rest empty keeps = tt
