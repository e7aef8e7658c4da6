-- A line of a transcript that is read, or lacks, and what the judge then says.
use Rattle.std.proofs.Common.{◌≡◌, ◌<◌, ◌≤◌, ◌+◌, ◌-◌, ◌^◌, ◌==◌, ◌&&◌, ℕ, suc, Bool, true, false, Option, Some, None, Result, Ok, Err, List, [], ◌∷◌, ◌++◌, length, take, leb, refl, sym, ap, subst, ◌∙◌, inl, inr, arith, append_assoc, append-nil, length-append}
use Rattle.std.proofs.lemmas.Bool.{and_parts, cases_Bool, cases_lt, le-leb, lt-leb, leb-true, false≢true}
use Rattle.its_io.specs.declared.stream.Failed.{Failed}
use Rattle.its_session.specs.Events.{most_lines}
use Rattle.its_reader.specs.declared.buffer.Buffer.{Buffer}
use Rattle.its_reader.specs.declared.lines.Next.TheVariants as nexts
use Rattle.its_reader.specs.declared.texts.Texts.{Texts}
use Rattle.its_reader.specs.Lines.{SomeLine}
use Rattle.its_reader.specs.Bytes.{pending, Onward}
use Rattle.its_reader.specs.TextLines.{before_lf, lines_in}
use Rattle.its_reader.specs.Texts.{ReadsText, ReadyTexts, texts_ahead}
use Rattle.std.specs.Prelude.{bytes_eq}
use Rattle.std.proofs.lemmas.Slice.Eq.{bytes_eq-Decides}
use Rattle.its_verify.specs.Sources.{bytes_of, texts_of}
use Rattle.its_verify.specs.Sources.{IsTold}
use Rattle.its_verify.specs.Went.{Fell, Went}
use Rattle.its_verify.proofs.SourceLaws.{end_told, fell_by, line_told, told_on, went_line, went_none, went_then, over}
use Rattle.its_verify.specs.Lines.{is_last, is_peek, is_whole, most_bytes}
use Rattle.its_verify.proofs.LinesLaws.{none_left}
use Rattle.its_verify.specs.Rulings.{Ruling, Verdict, Yes, No, at_end, led, led_by, peeking, expects}
use Rattle.its_verify.specs.Verified.{IsYes, Judged, TooLong, within}
use Rattle.its_verify.specs.TranscriptReader.{Failing, Forward, Later, Passed, SaidLater, AtLine, Reads, ReadsOn, Lacks, cut, answer_of, Beside, Concludes, PassesOn, PassedIf, Says, Stays, Strict, same_as}
use Rattle.its_print.specs.Printing.{Refused, Ticks, text_of_line}
use Rattle.its_print.proofs.LongestLine.{longest}
use Rattle.its_records.specs.declared.calls.Pace.{Pace}
use Rattle.its_records.specs.declared.session.Reason.{Reason}
use Rattle.its_plain.specs.Transcript.{Walk}
use Rattle.its_verify.specs.Letters.{ticked, ticks_in}
use Rattle.its_verify.proofs.LicenceLaws.{said_ticks}
use Rattle.its_verify.specs.declared.outcome.Outcome.{Outcome}
use Rattle.its_verify.specs.declared.outcome.Outcome.TheVariants as outcomes
use Rattle.its_verify.specs.declared.transcript_reader.TranscriptReader.{TranscriptReader}

-- a line that was read
pub number_few : (h : TranscriptReader) (left : Option (List ℕ)) → AtLine h left → h.texts.number ≤ most_lines
number_few h left at_line = (let c = at_line.count in let f = at_line.few in omega arith)

pub read_line : (old new : TranscriptReader) (left rest : Option (List ℕ)) → ReadsText (Ok nexts.Line) old.texts new.texts left rest
    → ReadyTexts new.texts rest
    → new.texts.number ≡ old.texts.number + 1 → new.texts.number ≤ most_lines → new.texts.most ≡ old.texts.most → new.passed ≡ old.passed
    → new.room ≡ old.room
    → AtLine old left → ReadsOn (Ok None) old new left rest
read_line old new left rest r ready number few most passed room at_line = (
  record {
    ready = ready;
    most = most ∙ at_line.most;
    count = (let c = at_line.count in omega (arith, c, number, passed, room));
    few = (let c = at_line.count in omega (arith, c, number, few, passed, room));
    bound = rw room at_line.bound;
  },
  λ t. (let next = line_told old.texts new.texts left rest r ready t in (next.0, next.1, went_line old.texts new.texts left rest r ready number t)),
)

-- the source failed
pub read_fails : (e : Failed) (old : TranscriptReader) (new : Texts) (left rest : Option (List ℕ))
    → ReadsText (Err e) old.texts new left rest → new.number ≡ old.texts.number + 1 → new.most ≡ old.texts.most
    → AtLine old left → IsTold left → Fell most_bytes old.texts left rest
read_fails e old new left rest r number same at_line t =
    fell_by e old.texts new left rest most_bytes r number (same ∙ at_line.most) (number_few old left at_line) t

-- one that lacks
pub read_long : (old new : TranscriptReader) (left rest : Option (List ℕ)) (k : ℕ) → ReadsText (Ok nexts.Long) old.texts new.texts left rest
    → new.texts.most ≡ old.texts.most → new.texts.number ≡ old.texts.number + 1 → k ≡ old.passed + 1 → AtLine old left
    → ReadsOn (Ok (Some (outcomes.No k))) old new left rest
read_long old new left rest k r most number is at_line = λ t.
    (let told = told_on left rest r.read t r.consumed in
    let long = r.next.1 (bytes_of rest) in (
      is,
      inr (
        let c = at_line.count in let few = r.next.0 in omega (arith, c, number, few),
        record {
          first = long.first;
          behind = long.behind;
          is = ap (texts_ahead old.texts) told.bytes ∙ long.is;
          holds = (let h = long.holds in let m = most ∙ at_line.most in omega (arith, h, m));
        },
      ),
    ))

pub read_end : (old new : TranscriptReader) (left rest : Option (List ℕ)) (k : ℕ) → ReadsText (Ok nexts.End) old.texts new.texts left rest
    → ReadyTexts new.texts rest
    → k ≡ old.passed + 1 → ReadsOn (Ok (Some (outcomes.No k))) old new left rest
read_end old new left rest k r ready is = λ t.
    (let told = told_on left rest r.read t r.consumed in (
      is,
      inl (ap (texts_ahead old.texts) (told.bytes ∙ ap (λ (xs : List ℕ). r.read ++ xs) (over new.texts rest ready r.next.0)
          ∙ append-nil r.read) ∙ r.next.1),
    ))

pub read_beyond : (old new : TranscriptReader) (left rest : Option (List ℕ)) → ReadsText (Ok nexts.Beyond) old.texts new.texts left rest
    → new.texts.number ≡ old.texts.number + 1 → AtLine old left → ReadsOn (Ok (Some outcomes.TooLong)) old new left rest
read_beyond old new left rest r number at_line = λ t.
    (let told = told_on left rest r.read t r.consumed in
    let some = r.next.1 (bytes_of rest) in
    let past = r.next.0 in
    let c = at_line.count in
    (omega (arith, past, c, number), record { first = some.first; behind = some.behind; is = ap (texts_ahead old.texts) told.bytes ∙ some.is; holds = tt }))

-- lines that were passed
passed_none : (h : TranscriptReader) (left : Option (List ℕ)) (ruling : Ruling) → Passed h h left left ruling ruling
passed_none h left ruling = record { lines = []; went = went_none h.texts left; passed = omega arith; texts = refl; leads = λ more. refl }

passed_then : (old mid new : TranscriptReader) (left between rest : Option (List ℕ)) (ruling next last : Ruling)
    → Passed old mid left between ruling next → Passed mid new between rest next last → Passed old new left rest ruling last
passed_then old mid new left between rest ruling next last p q = record {
  lines = p.lines ++ q.lines;
  went = went_then p.lines q.lines old.texts mid.texts new.texts left between rest p.went q.went;
  passed = omega (arith, q.passed, p.passed, length-append p.lines q.lines);
  texts = p.texts ∙ ap (λ (ls : List (List ℕ)). p.lines ++ ls) q.texts ∙ sym (append_assoc p.lines q.lines (texts_of new.texts rest));
  leads = λ more. ap (cut old.room old.passed ruling) (append_assoc p.lines q.lines more) ∙ p.leads (q.lines ++ more) ∙ q.leads more;
}

pub passed_says : (old new : TranscriptReader) (left rest : Option (List ℕ)) (ruling next : Ruling) → Passed old new left rest ruling next
    → cut old.room old.passed ruling (texts_of old.texts left) ≡ cut new.room new.passed next (texts_of new.texts rest)
passed_says old new left rest ruling next p = ap (cut old.room old.passed ruling) p.texts ∙ p.leads (texts_of new.texts rest)

-- nothing is said, and no line is asked for
pub nothing_on : (h : TranscriptReader) (left : Option (List ℕ)) (ruling : Ruling) → PassesOn h h left left ruling ruling
nothing_on h left ruling = λ t. (t, passed_none h left ruling)

-- verdicts on lines that are still to come
sooner : (n : ℕ) (v : Verdict) → Later (n + 1) v → Later n v
sooner n (Yes k) h = omega (arith, h)
sooner n (No k) h = omega (arith, h)

pub led_forward : {X : Type 0} (reads : List ℕ → Option X) (next : X → Ruling) → ((x : X) → Forward (next x)) → Forward (led reads next)
led_forward {X} reads next h = record { later = λ n texts. by_texts n texts }
  where
    by_reads : (o : Option X) (n : ℕ) (texts : List (List ℕ)) → Later n (led_by o next n texts)
    by_reads None n texts = omega arith
    by_reads (Some x) n texts = sooner n (next x (n + 1) texts) ((h x).later (n + 1) texts)

    by_texts : (n : ℕ) (texts : List (List ℕ)) → Later n (led reads next n texts)
    by_texts n [] = omega arith
    by_texts n (text ∷ texts) = by_reads (reads text) n texts

pub end_forward : Forward at_end
end_forward = record { later = λ n texts. by n texts }
  where
    by : (n : ℕ) (texts : List (List ℕ)) → Later n (at_end n texts)
    by n [] = omega arith
    by n (text ∷ texts) = omega arith

within_later : (room n : ℕ) (v : Verdict) → Later n v → SaidLater n (within room v)
within_later room n (Yes k) h = tt
within_later room n (No k) h = elim (cases_Bool (leb k room)) [ inl e ↦ rw e h | inr e ↦ rw e tt ]

pub cut_later : (room n : ℕ) (ruling : Ruling) (texts : List (List ℕ)) → Forward ruling → SaidLater n (cut room n ruling texts)
cut_later room n ruling texts f =
    elim (cases_Bool (leb (n + length texts) room)) [
      | inl fit ↦ rw fit (f.later n texts)
      | inr past ↦ rw past (within_later room n (ruling n (take (room - n) texts)) (f.later n (take (room - n) texts)))
    ]

-- where a line is asked for, nothing is accepted that has none
within_no : (room : ℕ) (v : Verdict) → IsYes (within room v) → ⊥
within_no room (Yes k) said = said
within_no room (No k) said = elim (cases_Bool (leb k room)) [ inl e ↦ (let bad : ⊥ = rw e at said in bad) | inr e ↦ (let bad : ⊥ = rw e at said in bad) ]

led_more : {X : Type 0} (room n : ℕ) (reads : List ℕ → Option X) (next : X → Ruling) → IsYes (cut room n (led reads next) []) → ⊥
led_more room n reads next said =
    elim (cases_Bool (leb (n + length {A = List ℕ} []) room)) [
      | inl fit ↦ (let bad : ⊥ = rw fit at said in bad)
      | inr past ↦ (let bad : IsYes (within room (led reads next n (take (room - n) []))) = rw past at said in within_no room
          (led reads next n (take (room - n) [])) bad)
    ]

-- the source failed when a line was asked for
pub fails_here : {X : Type 0} (old : TranscriptReader) (left rest : Option (List ℕ)) (reads : List ℕ → Option X) (next : X → Ruling)
    → (IsTold left → Fell most_bytes old.texts left rest)
    → ((x : X) → Forward (next x)) → IsTold left → Failing old left rest (led reads next)
fails_here old left rest reads next h f t = record {
  at = old;
  mid = left;
  next = led reads next;
  passed = passed_none old left (led reads next);
  fell = h t;
  later = cut_later old.room old.passed (led reads next) (texts_of old.texts left) (led_forward reads next f);
  ended = λ said. absurd (led_more old.room old.passed reads next said);
}

-- or after lines that were passed
fails_then : (old mid : TranscriptReader) (left between rest : Option (List ℕ)) (ruling next : Ruling)
    → Passed old mid left between ruling next → Failing mid between rest next → Failing old left rest ruling
fails_then old mid left between rest ruling next p f = record {
  at = f.at;
  mid = f.mid;
  next = f.next;
  passed = passed_then old mid f.at left between f.mid ruling next f.next p f.passed;
  fell = f.fell;
  later = f.later;
  ended = f.ended;
}

-- what is said after lines that were passed is said of them all
pub says_then : (r : Result (Option Outcome) Failed) (old mid new : TranscriptReader) (left between rest : Option (List ℕ))
    (ruling next last : Ruling) → PassesOn old mid left between ruling next
    → Says r mid new between rest next last → Says r old new left rest ruling last
says_then (Ok None) old mid new left between rest ruling next last on says = λ t.
    (let here = on t in
    let more = says here.0 in
    (more.0, passed_then old mid new left between rest ruling next last here.1 more.1))
says_then (Ok (Some f)) old mid new left between rest ruling next last on says = λ t.
    (let here = on t in
    passed_says old mid left between ruling next here.1 ∙ says here.0)
says_then (Err e) old mid new left between rest ruling next last on says = λ forward t.
    (let here = on t in
    fails_then old mid left between rest ruling next here.1 (says forward here.0))

pub concludes_then : (r : Result Outcome Failed) (old mid : TranscriptReader) (left between rest : Option (List ℕ)) (ruling next : Ruling)
    → PassesOn old mid left between ruling next
    → Concludes r mid between rest next → Concludes r old left rest ruling
concludes_then (Ok f) old mid left between rest ruling next on ends = λ t.
    (let here = on t in
    passed_says old mid left between ruling next here.1 ∙ ends here.0)
concludes_then (Err e) old mid left between rest ruling next on ends = λ t.
    (let here = on t in
    fails_then old mid left between rest ruling next here.1 (ends here.0))

pub same_fails : (line : List ℕ) (e : Failed) (old new : TranscriptReader) (left rest : Option (List ℕ)) → ReadsOn (Err e) old new left rest
    → (next : Ruling) → Says (Err e) old new left rest (led (same_as line) (λ t. next)) next
same_fails line e old new left rest h next f = fails_here old left rest (same_as line) (λ t. next) h (λ x. f)

pub peek_fails : (e : Failed) (old new : TranscriptReader) (left rest : Option (List ℕ)) → ReadsOn (Err e) old new left rest
    → (next : Ruling) → Says (Err e) old new left rest (led peeking (λ t. next)) next
peek_fails e old new left rest h next f = fails_here old left rest peeking (λ t. next) h (λ x. f)

-- if there is room for a line more
take_one : (k : ℕ) (t : List ℕ) (ts : List (List ℕ)) → take (suc k) (t ∷ ts) ≡ t ∷ take k ts
take_one k t ts = refl

cut_on : (room n : ℕ) (ruling next : Ruling) (t : List ℕ) (ts : List (List ℕ)) → n < room → ((us : List (List ℕ)) → ruling n (t ∷ us) ≡ next (n + 1) us)
    → cut room n ruling (t ∷ ts) ≡ cut room (n + 1) next ts
cut_on room n ruling next t ts few h =
    let less : room - n ≡ suc (room - (n + 1)) = omega arith in
    elim (cases_Bool (leb (n + 1 + length ts) room)) [
      | inl fit ↦
          (let same : leb (n + length (t ∷ ts)) room ≡ true = le-leb (n + length (t ∷ ts)) room
          (let f = leb-true (n + 1 + length ts) room fit in omega arith) in
          rw (same, fit) (ap Judged (h ts)))
      | inr past ↦
          (let same : leb (n + length (t ∷ ts)) room ≡ false = lt-leb (n + length (t ∷ ts)) room
          (let f = leb_past (n + 1 + length ts) room past in omega arith) in
          rw (same, past, less) (ap (within room) (h (take (room - (n + 1)) ts))))
    ]
  where
    leb_past : (a b : ℕ) → leb a b ≡ false → b < a
    leb_past a b e = elim (cases_lt b a) [ inl less ↦ less | inr most ↦ absurd (false≢true (sym e ∙ le-leb a b most)) ]

cut_no : (room n : ℕ) (ruling : Ruling) (t : List ℕ) (ts : List (List ℕ)) → n < room
    → ((us : List (List ℕ)) → ruling n (t ∷ us) ≡ No (n + 1)) → cut room n ruling (t ∷ ts) ≡ Judged (No (n + 1))
cut_no room n ruling t ts few h =
    let less : room - n ≡ suc (room - (n + 1)) = omega arith in
    let there : leb (n + 1) room ≡ true = le-leb (n + 1) room (omega arith) in
    elim (cases_Bool (leb (n + length (t ∷ ts)) room)) [
      | inl fit ↦ rw (fit) (ap Judged (h ts))
      | inr past ↦ rw (past, less) (ap (within room) (h (take (room - (n + 1)) ts)) ∙ rw there refl)
    ]

cut_end : (room n : ℕ) (ruling : Ruling) → n ≤ room → cut room n ruling [] ≡ Judged (ruling n [])
cut_end room n ruling few =
    let fit : leb (n + length {A = List ℕ} []) room ≡ true = le-leb (n + 0) room (omega arith) in
    rw fit refl

-- no room is left
cut_full : (room n : ℕ) (ruling : Ruling) (t : List ℕ) (ts : List (List ℕ)) → n ≤ room → room ≤ n → within room (ruling n []) ≡ TooLong
    → cut room n ruling (t ∷ ts) ≡ TooLong
cut_full room n ruling t ts few full h =
    let past : leb (n + length (t ∷ ts)) room ≡ false = lt-leb (n + length (t ∷ ts)) room (omega arith) in
    let none : room - n ≡ 0 = omega arith in
    rw (past, none) h

no_past : (room n : ℕ) → room ≤ n → within room (No (n + 1)) ≡ TooLong
no_past room n full =
    let far : leb (n + 1) room ≡ false = lt-leb (n + 1) room (omega arith) in
    rw far refl

-- if a line is missing
pub led_lacks : {X : Type 0} (reads : List ℕ → Option X) (next : X → Ruling) (f : Outcome) (room n : ℕ) (texts : List (List ℕ)) → Strict reads → n ≤ room
    → Lacks f room n texts → cut room n (led reads next) texts ≡ answer_of f
led_lacks reads next (outcomes.No k) room n texts strict few h =
    elim h.1 [
      | inl none ↦ rw none (cut_end room n (led reads next) few ∙ ap (λ (m : ℕ). Judged (No m)) (sym h.0))
      | inr long ↦
          (let first = strict long.1.first long.1.holds in
          rw long.1.is (cut_no room n (led reads next) long.1.first long.1.behind long.0 (λ us. rw first refl) ∙ ap (λ (m : ℕ). Judged (No m)) (sym h.0)))
    ]
led_lacks reads next outcomes.TooLong room n texts strict few h =
    rw h.1.is (cut_full room n (led reads next) h.1.first h.1.behind few h.0 (no_past room n h.0))
led_lacks reads next _ room n texts strict few h = absurd h

pub lacks_says : {X : Type 0} (reads : List ℕ → Option X) (next : X → Ruling) (last : Ruling) (f : Outcome) (old new : TranscriptReader)
    (left rest : Option (List ℕ)) → Strict reads → AtLine old left
    → ReadsOn (Ok (Some f)) old new left rest → Says (Ok (Some f)) old new left rest (led reads next) last
lacks_says reads next last f old new left rest strict at_line h =
    λ t. led_lacks reads next f old.room old.passed (texts_of old.texts left) strict at_line.few (h t)

-- if one was read
pub read_says : {X : Type 0} (reads : List ℕ → Option X) (next : X → Ruling) (x : X) (old mid new : TranscriptReader)
    (left rest : Option (List ℕ)) → ReadsOn (Ok None) old mid left rest → Beside old mid
    → reads mid.texts.text.items ≡ Some x → new.texts ≡ mid.texts → new.room ≡ mid.room → new.passed ≡ mid.passed + 1
    → PassesOn old new left rest (led reads next) (next x)
read_says reads next x old mid new left rest h beside is texts room passed = λ t.
    (let few : old.passed < old.room = (let f = h.0.few in omega (arith, f, beside.passed, beside.room)) in
    let at = h.1 t in (
      at.1,
      record {
        lines = mid.texts.text.items ∷ [];
        went = subst (λ (r : Texts). Went (mid.texts.text.items ∷ []) old.texts r left rest) (sym texts) at.2;
        passed = omega (arith, passed, beside.passed);
        texts = at.0 ∙ ap (λ (r : Texts). mid.texts.text.items ∷ texts_of r rest) (sym texts);
        leads = λ more.
            cut_on old.room old.passed (led reads next) (next x) mid.texts.text.items more few (λ us. rw is refl)
            ∙ ap (λ (m : ℕ). cut m (old.passed + 1) (next x) more) (sym beside.room ∙ sym room)
            ∙ ap (λ (m : ℕ). cut new.room m (next x) more) (ap (λ (m : ℕ). m + 1) (sym beside.passed) ∙ sym passed);
      },
    ))

pub read_no : {X : Type 0} (reads : List ℕ → Option X) (next : X → Ruling) (last : Ruling) (f : Outcome) (old mid new : TranscriptReader)
    (left rest : Option (List ℕ)) → ReadsOn (Ok None) old mid left rest → Beside old mid
    → reads mid.texts.text.items ≡ None → f ≡ outcomes.No (mid.passed + 1) → Says (Ok (Some f)) old new left rest (led reads next) last
read_no reads next last f old mid new left rest h beside is no_line = λ t.
    (let few : old.passed < old.room = (let g = h.0.few in omega (arith, g, beside.passed, beside.room)) in
    let at = h.1 t in
    ap (cut old.room old.passed (led reads next)) at.0
    ∙ cut_no old.room old.passed (led reads next) mid.texts.text.items (texts_of mid.texts rest) few (λ us. rw is refl)
    ∙ ap (λ (m : ℕ). Judged (No (m + 1))) (sym beside.passed) ∙ ap answer_of (sym no_line))

pub at_line_on : (old new : TranscriptReader) (left : Option (List ℕ)) → Reads old left → new ≡ record old { passed = old.passed + 1 } → AtLine new left
at_line_on old new left h is = rw is (record {
  ready = h.ready;
  most = h.most;
  count = h.count;
  few = (let f = h.few in omega arith);
  bound = h.bound;
})

-- a line that is known
before_less : (bs : List ℕ) → length (before_lf bs) ≤ length bs
before_less [] = omega arith
before_less (b ∷ bs) =
    elim (cases_Bool (b == 10)) [
      | inl lf ↦ rw lf (omega arith)
      | inr other ↦ (let l = before_less bs in rw other (omega (arith, l)))
    ]

strict_same : (line : List ℕ) → length line ≤ most_bytes → Strict (same_as line)
strict_same line short text long =
    elim (cases_Bool (bytes_eq text line)) [
      | inl same ↦
          (let is : text ≡ line = (bytes_eq-Decides text line).0 same in
          let m : most_bytes < length (before_lf line) = subst (λ (t : List ℕ). most_bytes < length (before_lf t)) is long in
          let l = before_less line in
          absurd (omega (arith, m, l, short)))
      | inr other ↦ rw other refl
    ]

pub same_lacks : (line : List ℕ) (f : Outcome) (old new : TranscriptReader) (left rest : Option (List ℕ)) → length line ≤ most_bytes
    → AtLine old left → ReadsOn (Ok (Some f)) old new left rest
    → (next : Ruling) → Says (Ok (Some f)) old new left rest (led (same_as line) (λ t. next)) next
same_lacks line f old new left rest short at_line h next = lacks_says (same_as line) (λ t. next) next f old new left rest (strict_same line short) at_line h

pub same_passed : (line : List ℕ) (o : Option Outcome) (b : Bool) (old mid new : TranscriptReader) (left rest : Option (List ℕ))
    → ReadsOn (Ok None) old mid left rest → Beside old mid
    → b ≡ bytes_eq mid.texts.text.items line → PassedIf o b mid new → (next : Ruling) → Says (Ok o) old new left rest (led (same_as line) (λ t. next)) next
same_passed line None b old mid new left rest h beside test r next =
    read_says (same_as line) (λ t. next) mid.texts.text.items old mid new left rest h beside (rw (sym test ∙ r.0) refl)
    (ap (λ (x : TranscriptReader). x.texts) r.1) (ap (λ (x : TranscriptReader). x.room) r.1) (ap (λ (x : TranscriptReader). x.passed) r.1)
same_passed line (Some f) b old mid new left rest h beside test r next =
    read_no (same_as line) (λ t. next) next f old mid new left rest h beside (rw (sym test ∙ r.0) refl) r.1

pub passed_stays : (o : Option Outcome) (b : Bool) (mid new : TranscriptReader) (rest : Option (List ℕ)) → Reads mid rest
    → PassedIf o b mid new → Stays (Ok o) new rest
passed_stays None b mid new rest h r = at_line_on mid new rest h r.1
passed_stays (Some f) b mid new rest h r = tt

pub passed_onward : (o : Option Outcome) (b readable : Bool) (mid new : TranscriptReader) → PassedIf o b mid new
    → Onward mid.texts.ended readable → o ≡ None → Onward new.texts.ended readable
passed_onward None b readable mid new r before is = subst (λ (h : TranscriptReader). Onward h.texts.ended readable) (sym r.1) before
passed_onward (Some f) b readable mid new r before is = cc

-- a line of PEEK
whole_before : (bs : List ℕ) → is_whole bs ≡ true → length (before_lf bs) + 1 ≡ length bs
whole_before [] h = absurd (false≢true h)
whole_before (b ∷ bs) h =
    elim (cases_Bool (b == 10)) [
      | inl lf ↦ (let last : is_last bs ≡ true = rw lf at h in (let l = no_more bs last in rw lf (omega (arith, l))))
      | inr other ↦ (let more : is_whole bs ≡ true = rw other at h in let l = whole_before bs more in rw other (omega (arith, l)))
    ]
  where
    no_more : (bs : List ℕ) → is_last bs ≡ true → length bs ≡ 0
    no_more [] h = refl
    no_more (c ∷ cs) h = absurd (false≢true h)

strict_peek : Strict peeking
unfolding is_peek
strict_peek text long =
    elim (cases_Bool (is_whole text && leb (length text) (most_bytes + 1))) [
      | inl both ↦
          (let parts = and_parts (is_whole text) (leb (length text) (most_bytes + 1)) both in
          let few = leb-true (length text) (most_bytes + 1) parts.1 in
          let l = whole_before text parts.0 in
          absurd (omega (arith, l, few, long)))
      | inr none ↦ rw none refl
    ]

pub peek_lacks : (f : Outcome) (old new : TranscriptReader) (left rest : Option (List ℕ)) → AtLine old left → ReadsOn (Ok (Some f)) old new left rest
    → (next : Ruling) → Says (Ok (Some f)) old new left rest (led peeking (λ t. next)) next
peek_lacks f old new left rest at_line h next = lacks_says peeking (λ t. next) next f old new left rest strict_peek at_line h

pub peek_passed : (o : Option Outcome) (b : Bool) (old mid new : TranscriptReader) (left rest : Option (List ℕ))
    → ReadsOn (Ok None) old mid left rest → Beside old mid
    → b ≡ is_peek mid.texts.text.items → PassedIf o b mid new → (next : Ruling) → Says (Ok o) old new left rest (led peeking (λ t. next)) next
peek_passed None b old mid new left rest h beside test r next =
    read_says peeking (λ t. next) mid.texts.text.items old mid new left rest h beside (rw (sym test ∙ r.0) refl)
    (ap (λ (x : TranscriptReader). x.texts) r.1) (ap (λ (x : TranscriptReader). x.room) r.1) (ap (λ (x : TranscriptReader). x.passed) r.1)
peek_passed (Some f) b old mid new left rest h beside test r next =
    read_no peeking (λ t. next) next f old mid new left rest h beside (rw (sym test ∙ r.0) refl) r.1

-- a `T` line
pub strict_ticks : (v : Walk) (i k : ℕ) → i < 2 ^ 8 → k ≤ 512 → Strict (ticked v i k)
strict_ticks v i k slot few text long = go (ticks_in i k text) refl
  where
    go : (o : Option (List Pace)) → ticks_in i k text ≡ o → ticked v i k text ≡ None
    go None is = rw is refl
    go (Some ps) is =
        (let said = said_ticks i k text ps is in
        let same : text ≡ text_of_line (Ticks i ps) = (bytes_eq-Decides text (text_of_line (Ticks i ps))).0 said.1 in
        let short = longest (Ticks i ps) (slot, omega (arith, said.0, few)) in
        let m : most_bytes < length (before_lf (text_of_line (Ticks i ps))) = subst (λ (t : List ℕ). most_bytes < length (before_lf t)) same long in
        let l = before_less (text_of_line (Ticks i ps)) in
        absurd (omega (arith, m, l, short)))

-- the end, read by a reader that has the same bytes before it
same_lines : (h : TranscriptReader) (was : Texts) (left : Option (List ℕ)) → was.buffer ≡ h.texts.buffer → texts_of h.texts left ≡ texts_of was left
same_lines h was left same = ap (λ (b : Buffer). lines_in (pending b ++ bytes_of left)) (sym same)

pub finish_end : (h : TranscriptReader) (was new : Texts) (left rest : Option (List ℕ)) → was.buffer ≡ h.texts.buffer
    → ReadsText (Ok nexts.End) was new left rest → ReadyTexts new rest → AtLine h left
    → Concludes (Ok (outcomes.Yes h.passed)) h left rest at_end
finish_end h was new left rest same r ready at_line = λ t.
    (let none : texts_of h.texts left ≡ [] = same_lines h was left same ∙ (end_told was new left rest r ready t).0 in
    rw none (cut_end h.room h.passed at_end at_line.few))

more_lines : (h : TranscriptReader) (left : Option (List ℕ)) (k : ℕ) → k ≡ h.passed + 1 → h.passed < h.room
    → SomeLine (texts_of h.texts left) (λ line. Unit {0})
    → cut h.room h.passed at_end (texts_of h.texts left) ≡ answer_of (outcomes.No k)
more_lines h left k is few some = rw some.is (cut_no h.room h.passed at_end some.first some.behind few (λ us. refl) ∙ ap (λ (m : ℕ). Judged (No m)) (sym is))

pub finish_line : (h : TranscriptReader) (was new : Texts) (left rest : Option (List ℕ)) (k : ℕ) → was.buffer ≡ h.texts.buffer
    → ReadsText (Ok nexts.Line) was new left rest → ReadyTexts new rest
    → new.number ≡ h.texts.number + 1 → new.number ≤ most_lines → k ≡ h.passed + 1 → AtLine h left → Concludes (Ok (outcomes.No k)) h left rest at_end
finish_line h was new left rest k same r ready number few is at_line = λ t.
    (let at = same_lines h was left same ∙ (line_told was new left rest r ready t).0 in
    let c = at_line.count in
    more_lines h left k is (omega (arith, c, number, few)) (record { first = new.text.items; behind = texts_of new rest; is = at; holds = tt }))

pub finish_long : (h : TranscriptReader) (was new : Texts) (left rest : Option (List ℕ)) (k : ℕ) → was.buffer ≡ h.texts.buffer
    → ReadsText (Ok nexts.Long) was new left rest
    → new.number ≡ h.texts.number + 1 → k ≡ h.passed + 1 → AtLine h left → Concludes (Ok (outcomes.No k)) h left rest at_end
finish_long h was new left rest k same r number is at_line = λ t.
    (let told = told_on left rest r.read t r.consumed in
    let some = r.next.1 (bytes_of rest) in
    let c = at_line.count in
    let few = r.next.0 in
    let at = same_lines h was left same ∙ ap (texts_ahead was) told.bytes ∙ some.is in
    more_lines h left k is (omega (arith, c, number, few)) (record { first = some.first; behind = some.behind; is = at; holds = tt }))

pub finish_beyond : (h : TranscriptReader) (was new : Texts) (left rest : Option (List ℕ)) → was.buffer ≡ h.texts.buffer
    → ReadsText (Ok nexts.Beyond) was new left rest
    → new.number ≡ h.texts.number + 1 → AtLine h left → Concludes (Ok outcomes.TooLong) h left rest at_end
finish_beyond h was new left rest same r number at_line = λ t.
    (let told = told_on left rest r.read t r.consumed in
    let some = r.next.1 (bytes_of rest) in
    let past = r.next.0 in
    let c = at_line.count in
    let at : texts_of h.texts left ≡ some.first ∷ some.behind = same_lines h was left same ∙ ap (texts_ahead was) told.bytes ∙ some.is in
    rw at (cut_full h.room h.passed at_end some.first some.behind at_line.few (omega (arith, past, c, number)) refl))

-- if no byte may come before an LF, none was read
pub finish_fails : (e : Failed) (h : TranscriptReader) (was new : Texts) (left rest : Option (List ℕ)) → was.buffer ≡ h.texts.buffer
    → was.number ≡ h.texts.number → was.ended ≡ h.texts.ended → was.most ≡ 0
    → ReadsText (Err e) was new left rest → new.number ≡ was.number + 1 → new.most ≡ was.most → AtLine h left → Concludes (Err e) h left rest at_end
finish_fails e h was new left rest buffer count ended none r number most at_line t =
    let few = number_few h left at_line in
    let f = fell_by e was new left rest 0 r number (most ∙ none) (omega (arith, few, count)) t in
    record {
      at = h;
      mid = left;
      next = at_end;
      passed = passed_none h left at_end;
      fell = record {
        told = f.told;
        runs = sym ended ∙ f.runs;
        begun = f.begun;
        bytes = ap (λ (b : Buffer). pending b ++ bytes_of left) (sym buffer) ∙ f.bytes;
        inside = f.inside;
        short = (let short = f.short in omega (arith, short));
        few = λ some. (let one = f.few some in omega (arith, one, count));
        within = few;
      };
      later = cut_later h.room h.passed at_end (texts_of h.texts left) end_forward;
      ended = λ said. none_left f.begun f.short;
    }

-- a `?` line, and then the end
pub refused_ends : (n : ℕ) (r : Reason) (result : Result Outcome Failed) (old mid : TranscriptReader) (left between rest : Option (List ℕ))
    → ((next : Ruling) → Says (Ok None) old mid left between (expects (Refused n r ∷ []) next) next)
    → Concludes result mid between rest at_end → Concludes result old left rest (expects (Refused n r ∷ []) at_end)
refused_ends n r result old mid left between rest says ends =
    concludes_then result old mid left between rest (expects (Refused n r ∷ []) at_end) at_end (says at_end) ends

pub refused_fails : (n : ℕ) (r : Reason) (e : Failed) (old mid : TranscriptReader) (left rest : Option (List ℕ))
    → ((next : Ruling) → Says (Err e) old mid left rest (expects (Refused n r ∷ []) next) next)
    → Concludes (Err e) old left rest (expects (Refused n r ∷ []) at_end)
refused_fails n r e old mid left rest says = says at_end end_forward

pub refused_lacks : (n : ℕ) (r : Reason) (f : Outcome) (old mid : TranscriptReader) (left rest : Option (List ℕ))
    → ((next : Ruling) → Says (Ok (Some f)) old mid left rest (expects (Refused n r ∷ []) next) next)
    → Concludes (Ok f) old left rest (expects (Refused n r ∷ []) at_end)
refused_lacks n r f old mid left rest says = says at_end
