-- The lines of a text, gathered one after another.
use Rattle.std.specs.Prelude.{◌≡◌, ◌≤◌, ◌<◌, ◌+◌, ◌*◌, ◌^◌, ℕ, Bool, true, false, Option, Some, None, IfSome, OnOk, Result, Ok, Err, List, [], ◌∷◌, ◌++◌, length, nat_le, replicate, refl}
use Rattle.std.proofs.Common.{sym, ◌∙◌, ap, subst, arith, append_assoc, append-nil}
use Rattle.std.specs.Io.KnownBytes.{Consumes}
use Rattle.std.proofs.KnownBytes.{Consumes-nil, Consumes-trans}
use Rattle.std.proofs.lemmas.Bool.Decides.{nat_tests}
use Rattle.std.proofs.lemmas.List.{length-append}
use Rattle.its_io.specs.declared.stream.Failed.{Failed}
use Rattle.its_session.specs.Events.{most_lines, lines_from}
use Rattle.its_session.proofs.TextLaws.{clean}
use Rattle.its_reader.specs.declared.lines.Lines.{Lines}
use Rattle.its_reader.specs.declared.lines.Next.TheVariants as nexts
use Rattle.its_reader.specs.Bytes.{pending}
use Rattle.its_reader.specs.Limits.{WithinLimits}
use Rattle.its_reader.specs.Lines.{Facing, Opened, BetweenLines, Reads, ahead}
use Rattle.its_reader.proofs.LinesLaws.{facing, limits_by}
use Rattle.its_asm.specs.Assembly.{assembly, lines_of}
use Rattle.its_asm_command.specs.declared.text.Unread.{Unread}
use Rattle.its_asm_command.specs.declared.text.Unread.TheVariants as unreads
use Rattle.its_asm_command.specs.Text.{Assembles, Gathered, LinesSo, StandsFor, joined, read_whole}
use Rattle.its_asm_command.specs.Past.{runs_past}
use Rattle.its_asm_command.proofs.TextLaws.{all_clean, clean_prefix, joined_lines, joined_last, joined_more, same_lines}
use Rattle.its_asm_command.proofs.LongLaws.{assembly_by, assembly_long, few_lines, long_within, none_assembled, past_lines, short_more}

-- no line yet
pub gather_start : (kept : Bool) (r : Lines) (text : List ℕ) (left : Option (List ℕ)) → text ≡ [] → r.number ≡ 0 → r.ended ≡ false
    → pending r.buffer ≡ [] → LinesSo kept text r left left
unfolding joined
gather_start kept r text left t n e p = record {
  lines = [];
  read = [];
  consumed = Consumes-nil left;
  so_far = facing r.ended _ (λ whole more. ap (λ k. lines_from whole [] (k ++ more)) (sym p));
  joins = λ k. t;
  number = sym n;
  short = refl;
  size = λ k. subst (λ x. length x ≤ 256 * r.number) (sym t) (omega arith);
}

-- a line more
step : (b c : Bool) (P Q R : Bool → List ℕ → Type 0) (t : List ℕ) → (b ≡ true → (t ≡ []) × (c ≡ true))
    → ((whole : Bool) (more : List ℕ) → P whole (t ++ more) → Q whole more → R whole more)
    → Facing b P → Facing c Q → Facing c R
step false false P Q R t o k p q = λ whole more. k whole more (p whole (t ++ more)) (q whole more)
step false true P Q R t o k p q = k true [] (p true (t ++ [])) q
step true false P Q R t o k p q = let x : false ≡ true = (o refl).1 in cc
step true true P Q R t o k p q = k true [] (subst (P true) (sym (append-nil t)) (subst (P true) (sym (o refl).0) p)) q

sized : (text line then : List ℕ) (m n : ℕ) → length text ≤ 256 * m → n ≡ m + 1 → length line ≤ 255 → then ≡ text ++ (line ++ 10 ∷ []) → length then ≤ 256 * n
sized text line then m n h e few t =
    let all : length then ≡ length text + (length line + 1) = ap length t ∙ length-append text (line ++ 10 ∷ [])
    ∙ ap (λ k. length text + k) (length-append line (10 ∷ [])) in
    omega arith

-- how much is kept
if_kept : (b : Bool) (P : Type 0) → (b ≡ true → P) → OnOk (read_whole b) P
if_kept true P h = h refl
if_kept false P h = tt

pub few_read : (b : Bool) (text : List ℕ) (r : Lines) (left rest : Option (List ℕ)) → LinesSo b text r left rest → r.number ≤ most_lines
    → OnOk (read_whole b) (length text ≤ 2 ^ 28)
few_read b text r left rest s h = if_kept b (length text ≤ 2 ^ 28) (λ k. let size = s.size k in omega (arith, size))

few_long : (text then long : List ℕ) (m n : ℕ) → length text ≤ 256 * m → n ≡ m + 1 → n ≤ most_lines → then ≡ text ++ long
    → length long ≡ 256 → length then ≤ 2 ^ 28
few_long text then long m n size e h t l =
    let all : length then ≡ length text + length long = ap length t ∙ length-append text long in
    omega (arith, size)

pub few_blanks : (k b : Bool) (text then : List ℕ) (r : Lines) (n : ℕ) (left rest : Option (List ℕ)) → LinesSo k text r left rest
    → n ≡ r.number + 1 → n ≤ most_lines → (b ≡ true → k ≡ true)
    → (b ≡ true → then ≡ text ++ replicate 256 32) → OnOk (read_whole b) (length then ≤ 2 ^ 28)
few_blanks k b text then r n left rest s e h before t =
    if_kept b (length then ≤ 2 ^ 28) (λ j. few_long text then (replicate 256 32) r.number n (s.size (before j)) e h (t j) refl)

pub gather_next : (k b : Bool) (text then line : List ℕ) (old new : Lines) (left mid rest : Option (List ℕ)) → LinesSo k text old left mid
    → Reads (Ok nexts.Line) old new mid rest → new.number ≡ old.number + 1
    → line ≡ new.line.items → length new.line.items ≤ 255 → (b ≡ true → k ≡ true) → (b ≡ true → then ≡ text ++ (line ++ 10 ∷ []))
    → LinesSo b then new left rest
gather_next k b text then line old new left mid rest s r n l few before t = record {
  lines = s.lines ++ line ∷ [];
  read = s.read ++ r.read;
  consumed = Consumes-trans left mid rest s.read r.read s.consumed r.consumed;
  so_far = step old.ended new.ended (λ whole more. lines_from whole [] (s.read ++ more) ≡ s.lines ++ ahead whole old more)
      (λ whole more. ahead whole old (r.read ++ more) ≡ new.line.items ∷ ahead whole new more)
      (λ whole more. lines_from whole [] ((s.read ++ r.read) ++ more) ≡ (s.lines ++ line ∷ []) ++ ahead whole new more) r.read r.over
      (λ whole more p q.
      ap (lines_from whole []) (append_assoc s.read r.read more) ∙ p ∙ ap (λ x. s.lines ++ x) q ∙ ap (λ x. s.lines ++ (x ∷ ahead whole new more)) (sym l)
      ∙ sym (append_assoc s.lines (line ∷ []) (ahead whole new more)))
      s.so_far r.next;
  joins = λ j. t j ∙ ap (λ x. x ++ (line ++ 10 ∷ [])) (s.joins (before j)) ∙ sym (joined_more s.lines line);
  number = length-append s.lines (line ∷ []) ∙ ap (λ k. k + 1) s.number ∙ sym n;
  short = short_more s.lines line s.short (subst (λ x. length x ≤ 255) (sym l) few);
  size = λ j. sized text line then old.number new.number (s.size (before j)) n (subst (λ x. length x ≤ 255) (sym l) few) (t j);
}

-- what was found holds of the rest of the source
at_true : (b : Bool) (P : Bool → List ℕ → Type 0) (t : List ℕ) → (b ≡ true → t ≡ []) → Facing b P → P true t
at_true false P t o f = f true t
at_true true P t o f = subst (P true) (sym (o refl)) f

found : (k : Bool) (text : List ℕ) (old : Lines) (left mid : Option (List ℕ)) (s : LinesSo k text old left mid) (t : List ℕ)
    → (old.ended ≡ true → t ≡ []) → lines_of (s.read ++ t) ≡ s.lines ++ ahead true old t
found k text old left mid s t o = sym (same_lines (s.read ++ t))
    ∙ at_true old.ended (λ whole more. lines_from whole [] (s.read ++ more) ≡ s.lines ++ ahead whole old more) t o s.so_far

few_so : (k : Bool) (text : List ℕ) (old : Lines) (left mid : Option (List ℕ)) (s : LinesSo k text old left mid) → old.number ≤ most_lines
    → length s.lines ≤ most_lines
few_so k text old left mid s h = subst (λ n. n ≤ most_lines) (sym s.number) h

clean_so : (k : Bool) (text : List ℕ) (old : Lines) (left mid : Option (List ℕ)) (s : LinesSo k text old left mid) (t : List ℕ)
    → (old.ended ≡ true → t ≡ []) → all_clean s.lines ≡ true
clean_so k text old left mid s t o = clean_prefix s.lines (ahead true old t) (s.read ++ t) (same_lines (s.read ++ t) ∙ found k text old left mid s t o)

-- the end of the text
by_kept : (b : Bool) (text bytes read : List ℕ) → runs_past bytes ≡ false
    → (b ≡ true → (assembly text ≡ assembly bytes) × (Assembles (assembly bytes) → read ≡ bytes)) → StandsFor (read_whole b) bytes text read
by_kept true text bytes read within h = let k = h refl in (within, k.0, k.1)
by_kept false text bytes read within h = within

end_stands : (k : Bool) (text read : List ℕ) (old new : Lines) (bytes : List ℕ) (mid rest : Option (List ℕ))
    (s : LinesSo k text old (Some bytes) mid) (r : Reads (Ok nexts.End) old new mid rest) → BetweenLines new rest
    → old.number ≤ most_lines → read ≡ s.read ++ r.read → Consumes (Some bytes) rest read → StandsFor (read_whole k) bytes text read
end_stands k text read old new bytes mid None s r ready few e c = absurd c
end_stands k text read old new bytes mid (Some ys) s r ready few e c =
    let none : ys ≡ [] = (ready.over r.next.0).1 in
    let all : read ≡ bytes = sym (c ∙ ap (λ x. read ++ x) none ∙ append-nil read) in
    let lines : lines_of bytes ≡ s.lines =
    ap lines_of (sym all ∙ e) ∙ found k text old (Some bytes) mid s r.read (λ k. (r.over k).0) ∙ ap (λ x. s.lines ++ x) r.next.1 ∙ append-nil s.lines in
    let clean = clean_so k text old (Some bytes) mid s r.read (λ k. (r.over k).0) in
    by_kept k text bytes read (few_lines bytes s.lines lines (few_so k text old (Some bytes) mid s few))
    (λ j. (assembly_by text bytes (ap lines_of (s.joins j) ∙ joined_lines s.lines clean ∙ sym lines), λ m. all))

by_bytes : {P : List ℕ → Type 0} (left : Option (List ℕ)) → ((bytes : List ℕ) → left ≡ Some bytes → P bytes) → IfSome left P
by_bytes None f = tt
by_bytes (Some bytes) f = f bytes refl

pub gather_end : (k : Bool) (text : List ℕ) (old new : Lines) (left mid rest : Option (List ℕ)) → LinesSo k text old left mid
    → Reads (Ok nexts.End) old new mid rest → BetweenLines new rest → old.number ≤ most_lines
    → Gathered (read_whole k) text left rest
gather_end k text old new left mid rest s r ready few =
    let c = Consumes-trans left mid rest s.read r.read s.consumed r.consumed in
    record { read = s.read ++ r.read; consumed = c; stands = go left s c }
  where
    go : (l : Option (List ℕ)) (t : LinesSo k text old l mid) → Consumes l rest (t.read ++ r.read)
        → IfSome l (λ bytes. StandsFor (read_whole k) bytes text (t.read ++ r.read))
    go None t c = tt
    go (Some bytes) t c = end_stands k text (t.read ++ r.read) old new bytes mid rest t r ready few refl c

-- a long line
long_stands : (k b : Bool) (text then long read : List ℕ) (old new : Lines) (bytes : List ℕ) (mid rest : Option (List ℕ))
    (s : LinesSo k text old (Some bytes) mid) (r : Reads (Ok nexts.Long) old new mid rest) → BetweenLines new rest
    → new.number ≡ old.number + 1 → (b ≡ true → k ≡ true) → (b ≡ true → then ≡ text ++ long) → clean long ≡ true
    → nat_le (length long) 255 ≡ false → read ≡ s.read ++ r.read → Consumes (Some bytes) rest read
    → StandsFor (read_whole b) bytes then read
long_stands k b text then long read old new bytes mid None s r ready n before t cl ln e c = absurd c
long_stands k b text then long read old new bytes mid (Some ys) s r ready n before t cl ln e c =
    let over : old.ended ≡ true → r.read ++ ys ≡ [] = λ k. ap (λ x. x ++ ys) (r.over k).0 ∙ (ready.over (r.over k).1).1 in
    let l = r.next.1 ys in
    let all : bytes ≡ s.read ++ (r.read ++ ys) = c ∙ ap (λ x. x ++ ys) e ∙ append_assoc s.read r.read ys in
    let lines : lines_of bytes ≡ s.lines ++ (l.first ∷ l.behind) = ap lines_of all ∙ found k text old (Some bytes) mid s (r.read ++ ys) over
    ∙ ap (λ x. s.lines ++ x) l.is in
    let long_first : nat_le (length l.first) 255 ≡ false = (let h : 255 < length l.first = l.holds in grind (arith, nat_tests)) in
    let below : length s.lines < most_lines = (let m : new.number ≤ most_lines = r.next.0 in omega (arith, s.number, n)) in
    let clean = clean_so k text old (Some bytes) mid s (r.read ++ ys) over in
    by_kept b then bytes read (long_within bytes s.lines l.first l.behind lines s.short long_first below)
    (λ j. (
      assembly_long then bytes s.lines l.first long l.behind long_first ln
          (ap lines_of (t j ∙ ap (λ x. x ++ long) (s.joins (before j))) ∙ joined_last s.lines long clean cl ln) lines,
      λ m. absurd (none_assembled bytes s.lines l.first l.behind long_first lines m),
    ))

pub gather_long : (k b : Bool) (text then long : List ℕ) (old new : Lines) (left mid rest : Option (List ℕ)) → LinesSo k text old left mid
    → Reads (Ok nexts.Long) old new mid rest → BetweenLines new rest
    → new.number ≡ old.number + 1 → (b ≡ true → k ≡ true) → (b ≡ true → then ≡ text ++ long) → clean long ≡ true
    → nat_le (length long) 255 ≡ false → Gathered (read_whole b) then left rest
gather_long k b text then long old new left mid rest s r ready n before t cl ln =
    let c = Consumes-trans left mid rest s.read r.read s.consumed r.consumed in
    record { read = s.read ++ r.read; consumed = c; stands = go left s c }
  where
    go : (l : Option (List ℕ)) (u : LinesSo k text old l mid) → Consumes l rest (u.read ++ r.read)
        → IfSome l (λ bytes. StandsFor (read_whole b) bytes then (u.read ++ r.read))
    go None u c = tt
    go (Some bytes) u c = long_stands k b text then long (u.read ++ r.read) old new bytes mid rest u r ready n before t cl ln refl c

pub gather_blanks : (k b : Bool) (text then : List ℕ) (old new : Lines) (left mid rest : Option (List ℕ)) → LinesSo k text old left mid
    → Reads (Ok nexts.Long) old new mid rest → BetweenLines new rest
    → new.number ≡ old.number + 1 → (b ≡ true → k ≡ true) → (b ≡ true → then ≡ text ++ replicate 256 32) → Gathered (read_whole b) then left rest
gather_blanks k b text then old new left mid rest s r ready n before t =
    gather_long k b text then (replicate 256 32) old new left mid rest s r ready n before t refl refl

-- by the result at the end
pub gathered_by : (b : Bool) (o : Result (Unit {0}) Unread) (text : List ℕ) (left rest : Option (List ℕ)) → o ≡ read_whole b
    → Gathered (read_whole b) text left rest → Gathered o text left rest
gathered_by b o text left rest is g = subst (λ x. Gathered x text left rest) (sym is) g

-- a line too many
beyond_stands : (k : Bool) (text read : List ℕ) (old new : Lines) (bytes : List ℕ) (mid rest : Option (List ℕ))
    (s : LinesSo k text old (Some bytes) mid) (r : Reads (Ok nexts.Beyond) old new mid rest) → BetweenLines new rest
    → new.number ≡ old.number + 1 → read ≡ s.read ++ r.read → Consumes (Some bytes) rest read → runs_past bytes ≡ true
beyond_stands k text read old new bytes mid None s r ready n e c = absurd c
beyond_stands k text read old new bytes mid (Some ys) s r ready n e c =
    let over : old.ended ≡ true → r.read ++ ys ≡ [] = λ k. ap (λ x. x ++ ys) (r.over k).0 ∙ (ready.over (r.over k).1).1 in
    let l = r.next.1 ys in
    let all : bytes ≡ s.read ++ (r.read ++ ys) = c ∙ ap (λ x. x ++ ys) e ∙ append_assoc s.read r.read ys in
    let lines : lines_of bytes ≡ s.lines ++ (l.first ∷ l.behind) = ap lines_of all ∙ found k text old (Some bytes) mid s (r.read ++ ys) over
    ∙ ap (λ x. s.lines ++ x) l.is in
    let many : most_lines ≤ length s.lines = (let m : most_lines < new.number = r.next.0 in omega (arith, s.number, n)) in
    past_lines bytes s.lines l.first l.behind lines s.short many

pub gather_beyond : (k : Bool) (text : List ℕ) (old new : Lines) (left mid rest : Option (List ℕ)) → LinesSo k text old left mid
    → Reads (Ok nexts.Beyond) old new mid rest → BetweenLines new rest → new.number ≡ old.number + 1
    → Gathered (Err unreads.TooLong) text left rest
gather_beyond k text old new left mid rest s r ready n =
    let c = Consumes-trans left mid rest s.read r.read s.consumed r.consumed in
    record { read = s.read ++ r.read; consumed = c; stands = go left s c }
  where
    go : (l : Option (List ℕ)) (u : LinesSo k text old l mid) → Consumes l rest (u.read ++ r.read) → IfSome l (λ bytes. runs_past bytes ≡ true)
    go None u c = tt
    go (Some bytes) u c = beyond_stands k text (u.read ++ r.read) old new bytes mid rest u r ready n refl c

-- the source failed
unended : (b : Bool) (P : Bool → List ℕ → Type 0) (t : List ℕ) → b ≡ false → Facing b P → P true t
unended true P t e p = cc
unended false P t e p = p true t

if_any : (left : Option (List ℕ)) (P : Type 0) → P → IfSome left (λ bytes. P)
if_any None P p = tt
if_any (Some bytes) P p = p

pub gather_failed : (e : Failed) (k : Bool) (text : List ℕ) (old new : Lines) (left mid rest : Option (List ℕ))
    → LinesSo k text old left mid → Reads (Err e) old new mid rest → new.number ≡ old.number + 1 → old.number ≤ most_lines
    → Gathered (Err unreads.Failed) text left rest
gather_failed e k text old new left mid rest s r n few = record {
  read = s.read ++ r.read;
  consumed = Consumes-trans left mid rest s.read r.read s.consumed r.consumed;
  stands = if_any left (WithinLimits (s.read ++ r.read))
      (limits_by s.lines (ahead true old r.read) (s.read ++ r.read)
      (unended old.ended (λ whole more. lines_from whole [] (s.read ++ more) ≡ s.lines ++ ahead whole old more) r.read r.next.0 s.so_far)
      s.short (few_so k text old left mid s few)
      (subst (Opened (ahead true old r.read)) (n ∙ ap (λ k. k + 1) (sym s.number)) r.next.2));
}
