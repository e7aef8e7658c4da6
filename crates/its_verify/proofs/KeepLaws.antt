-- The session of an input, line by line.
use Rattle.std.proofs.Common.{◌≡◌, ◌≤◌, ◌<◌, ◌+◌, ℕ, Bool, true, false, Option, Ok, Err, List, [], ◌∷◌, ◌++◌, length, take, refl, sym, ap, subst, ◌∙◌, ltb, arith}
use Rattle.std.proofs.lemmas.Bool.Decides.{nat_tests}
use Rattle.std.proofs.lemmas.List.{length-drop, length-take-le}
use Rattle.std.specs.List.{list_any}
use Rattle.std.proofs.lemmas.List.Folds.{list_any-append}
use Rattle.its_io.specs.declared.stream.Failed.{Failed}
use Rattle.its_session.specs.Events.{most_lines}
use Rattle.its_reader.specs.declared.buffer.Buffer.{Buffer}
use Rattle.its_reader.specs.declared.lines.Next.TheVariants as nexts
use Rattle.its_reader.specs.declared.texts.Texts.{Texts}
use Rattle.its_reader.specs.Bytes.{pending, BufferFits}
use Rattle.its_reader.specs.TextLines.{before_lf}
use Rattle.its_reader.specs.Texts.{ReadsText, ReadyTexts, texts_ahead}
use Rattle.its_verify.specs.Keeping.{Keeps, Kept, KeptSo, KeptTo}
use Rattle.its_verify.specs.Went.{Went}
use Rattle.its_verify.specs.Sources.{IsTold, bytes_of, texts_of}
use Rattle.its_verify.specs.Verified.{Both, LongLine, NoEnd, is_end_line, most_session_bytes, parts_from}
use Rattle.its_verify.specs.declared.keeping.Part.TheVariants.{Session, Long, Cut, Beyond}
use Rattle.its_verify.specs.declared.keeping.Broken.TheVariants.{Source, Memory}
use Rattle.its_verify.proofs.SourceLaws.{end_told, fell_by, line_told, not_over, told_on, went_line, went_none, went_then}

few_lines : (n : ℕ) → n ≤ most_lines → ltb most_lines n ≡ false
few_lines n few = grind (arith, nat_tests)

short_line : (n : ℕ) → n ≤ 255 → ltb most_session_bytes n ≡ false
short_line n few = grind (arith, nat_tests)

long_line : (n : ℕ) → 255 < n → ltb most_session_bytes n ≡ true
long_line n more = grind (arith, nat_tests)

past_lines : (n : ℕ) → most_lines < n → ltb most_lines n ≡ true
past_lines n more = grind (arith, nat_tests)

part_end : (n : ℕ) (session line : List ℕ) (lines : List (List ℕ)) → n ≤ most_lines → length (before_lf line) ≤ 255 → is_end_line line ≡ true
    → parts_from n session (line ∷ lines) ≡ Both (session ++ line) n lines
part_end n session line lines few short end = rw (few_lines n few, short_line (length (before_lf line)) short, end) refl

part_on : (n : ℕ) (session line : List ℕ) (lines : List (List ℕ)) → n ≤ most_lines → length (before_lf line) ≤ 255 → is_end_line line ≡ false
    → parts_from n session (line ∷ lines) ≡ parts_from (n + 1) (session ++ line) lines
part_on n session line lines few short end = rw (few_lines n few, short_line (length (before_lf line)) short, end) refl

kept_then : (end : Bool) (old now new : Texts) (left mid rest : Option (List ℕ)) → Kept false old now left mid
    → Went (new.text.items ∷ []) now new mid rest → is_end_line new.text.items ≡ end
    → Kept end old new left rest
kept_then end old now new left mid rest k w is = record {
  lines = k.lines ++ new.text.items ∷ [];
  went = went_then k.lines (new.text.items ∷ []) old now new left mid rest k.went w;
  ends = rw (list_any-append is_end_line k.lines (new.text.items ∷ []), k.ends) (last end is);
}
  where
    last : (b : Bool) → is_end_line new.text.items ≡ b → list_any is_end_line (new.text.items ∷ []) ≡ b
    last true h = rw h refl
    last false h = rw h refl

-- the line that was given, and those before it
pending_few : (b : Buffer) → BufferFits b → length (pending b) ≤ 512
pending_few b f = omega (arith, length-drop b.start (take b.stop b.bytes), length-take-le b.stop b.bytes f.1, f.1, f.2)

kept_to : (old now new : Texts) (left mid rest : Option (List ℕ)) → Kept false old now left mid → ReadyTexts now mid
    → ReadsText (Ok nexts.Line) now new mid rest → ReadyTexts new rest
    → new.number ≡ now.number + 1 → length new.text.items ≤ now.most + 1 → now.most ≡ 255 → IsTold mid → KeptTo old new left rest
kept_to old now new left mid rest k before r ready number short most t = record {
  before = k.lines;
  went = went_then k.lines (new.text.items ∷ []) old now new left mid rest k.went (went_line now new mid rest r ready number t);
  whole = k.went.whole (not_over now mid new.text.items (texts_of new rest) before (line_told now new mid rest r ready t).0);
  none = k.ends;
  short = subst (λ (m : ℕ). length new.text.items ≤ m + 1) most short;
  fits = pending_few new.buffer ready.fits;
}

pub kept_start : (old : Texts) (session : List ℕ) (left : Option (List ℕ)) → old.number ≡ 0 → session ≡ [] → KeptSo old old session left left
kept_start old session left number empty t = (
  ap (λ (n : ℕ). parts_from (n + 1) [] (texts_of old left)) (sym number)
      ∙ ap (λ (xs : List ℕ). parts_from (old.number + 1) xs (texts_of old left)) (sym empty),
  t,
  record { lines = []; went = went_none old left; ends = refl },
)

pub kept_on : (old now new : Texts) (session after : List ℕ) (left mid rest : Option (List ℕ)) (b : Bool) → KeptSo old now session left mid
    → ReadsText (Ok nexts.Line) now new mid rest
    → ReadyTexts new rest → new.number ≡ now.number + 1 → new.number ≤ most_lines → length (before_lf new.text.items) ≤ 255
    → b ≡ is_end_line new.text.items → b ≡ false
    → after ≡ session ++ new.text.items → KeptSo old new after left rest
kept_on old now new session after left mid rest b so r ready number few short test is adds t =
    let before = so t in
    let next = line_told now new mid rest r ready before.1 in (
      before.0 ∙ ap (parts_from (now.number + 1) session) next.0
          ∙ part_on (now.number + 1) session new.text.items (texts_of new rest) (omega (arith, number, few)) short (sym test ∙ is)
          ∙ ap (λ (n : ℕ). parts_from (n + 1) (session ++ new.text.items) (texts_of new rest)) (sym number)
          ∙ ap (λ (xs : List ℕ). parts_from (new.number + 1) xs (texts_of new rest)) (sym adds),
      next.1,
      kept_then false old now new left mid rest before.2 (went_line now new mid rest r ready number before.1) (sym test ∙ is),
    )

pub keeps_session : (old now new : Texts) (session after : List ℕ) (left mid rest : Option (List ℕ)) (b : Bool)
    → KeptSo old now session left mid → ReadyTexts now mid
    → ReadsText (Ok nexts.Line) now new mid rest → ReadyTexts new rest → new.number ≡ now.number + 1 → new.number ≤ most_lines
    → length (before_lf new.text.items) ≤ 255
    → length new.text.items ≤ now.most + 1 → now.most ≡ 255 → b ≡ is_end_line new.text.items → b ≡ true → after ≡ session ++ new.text.items
    → Keeps (Ok Session) old new after left rest
keeps_session old now new session after left mid rest b so was r ready number few short all most test is adds t =
    let before = so t in
    let next = line_told now new mid rest r ready before.1 in (
      before.0 ∙ ap (parts_from (now.number + 1) session) next.0
          ∙ part_end (now.number + 1) session new.text.items (texts_of new rest) (omega (arith, number, few)) short (sym test ∙ is)
          ∙ ap (λ (n : ℕ). Both (session ++ new.text.items) n (texts_of new rest)) (sym number)
          ∙ ap (λ (xs : List ℕ). Both xs new.number (texts_of new rest)) (sym adds),
      next.1,
      record {
        kept = kept_then true old now new left mid rest before.2 (went_line now new mid rest r ready number before.1) (sym test ∙ is);
        to = kept_to old now new left mid rest before.2 was r ready number all most before.1;
      },
    )

pub keeps_lacking : (old now new : Texts) (session after : List ℕ) (left mid rest : Option (List ℕ)) → KeptSo old now session left mid
    → ReadyTexts now mid → ReadsText (Ok nexts.Line) now new mid rest
    → ReadyTexts new rest → new.number ≡ now.number + 1 → length new.text.items ≤ now.most + 1 → now.most ≡ 255 → after ≡ session
    → Keeps (Err Memory) old new after left rest
keeps_lacking old now new session after left mid rest so was r ready number all most same t =
    let before = so t in
    let next = line_told now new mid rest r ready before.1 in
    record {
      told = next.1;
      to = kept_to old now new left mid rest before.2 was r ready number all most before.1;
      lacks = before.0 ∙ ap (parts_from (now.number + 1) session) next.0
          ∙ ap (λ (n : ℕ). parts_from n session (new.text.items ∷ texts_of new rest)) (sym number)
          ∙ ap (λ (xs : List ℕ). parts_from new.number xs (new.text.items ∷ texts_of new rest)) (sym same);
    }

pub keeps_long : (old now new : Texts) (session : List ℕ) (left mid rest : Option (List ℕ)) (n : ℕ) → KeptSo old now session left mid
    → ReadsText (Ok nexts.Long) now new mid rest
    → new.number ≡ now.number + 1 → new.most ≡ 255 → n ≡ new.number → Keeps (Ok (Long n)) old new session left rest
keeps_long old now new session left mid rest n so r number most is t =
    let before = so t in
    let told = told_on mid rest r.read before.1 r.consumed in
    let long = r.next.1 (bytes_of rest) in
    let few = r.next.0 in (
      before.0 ∙ ap (parts_from (now.number + 1) session) (ap (texts_ahead now) told.bytes ∙ long.is)
          ∙ rw (
            few_lines (now.number + 1) (omega (arith, number, few)),
            long_line (length (before_lf long.first)) (let h = long.holds in omega (arith, h, most)),
          ) (ap LongLine (sym number ∙ sym is)),
      told.told,
      tt,
    )

pub keeps_cut : (old now new : Texts) (session : List ℕ) (left mid rest : Option (List ℕ)) (n : ℕ) → KeptSo old now session left mid
    → ReadsText (Ok nexts.End) now new mid rest
    → ReadyTexts new rest → new.number ≡ now.number + 1 → n ≡ new.number → Keeps (Ok (Cut n)) old new session left rest
keeps_cut old now new session left mid rest n so r ready number is t =
    let before = so t in
    let end = end_told now new mid rest r ready before.1 in
    (before.0 ∙ ap (parts_from (now.number + 1) session) end.0 ∙ ap NoEnd (sym number ∙ sym is), end.1, tt)

pub keeps_beyond : (old now new : Texts) (session : List ℕ) (left mid rest : Option (List ℕ)) → KeptSo old now session left mid
    → ReadsText (Ok nexts.Beyond) now new mid rest
    → new.number ≡ now.number + 1 → Keeps (Ok Beyond) old new session left rest
keeps_beyond old now new session left mid rest so r number t =
    let before = so t in
    let told = told_on mid rest r.read before.1 r.consumed in
    let some = r.next.1 (bytes_of rest) in
    let past = r.next.0 in (
      before.0 ∙ ap (parts_from (now.number + 1) session) (ap (texts_ahead now) told.bytes ∙ some.is)
          ∙ rw (past_lines (now.number + 1) (omega (arith, number, past))) refl,
      told.told,
      tt,
    )

pub keeps_failed : (e : Failed) (old now new : Texts) (session after : List ℕ) (left mid rest : Option (List ℕ))
    → KeptSo old now session left mid → ReadsText (Err e) now new mid rest
    → new.number ≡ now.number + 1 → new.most ≡ 255 → now.number ≤ most_lines → Keeps (Err Source) old new after left rest
keeps_failed e old now new session after left mid rest so r number most few t =
    let before = so t in
    record {
      at = now;
      mid = mid;
      session = session;
      kept = before.2;
      fell = fell_by e now new mid rest 255 r number most few before.1;
      parts = before.0;
    }
