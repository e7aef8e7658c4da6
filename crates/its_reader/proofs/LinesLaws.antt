-- The lines of a source, one by one.
use Rattle.std.specs.Prelude.{◌≡◌, ◌≢◌, ◌==◌, ◌<◌, ◌≤◌, ◌+◌, nat_le, ℕ, Bool, true, false, Option, Some, None, Result, Ok, Err, List, [], ◌∷◌, ◌++◌, length, refl}
use Rattle.std.proofs.Common.{sym, ◌∙◌, ap, subst, arith, inl, inr, append_assoc, append-nil, length-append}
use Rattle.std.proofs.lemmas.Bool.{and_parts, cases_Bool, not-true}
use Rattle.std.proofs.lemmas.Bool.Decides.{nat_tests}
use Rattle.std.proofs.KnownBytes.{Consumes-nil, Consumes-trans, Consumes-kept}
use Rattle.its_io.specs.declared.stream.Failed.{Failed}
use Rattle.std.specs.List.{list_all}
use Rattle.std.proofs.lemmas.List.Folds.{list_all-append}
use Rattle.its_session.specs.Events.{last_line, lines_from, most_lines}
use Rattle.its_reader.specs.declared.buffer.Buffer.{Buffer}
use Rattle.its_reader.specs.declared.lines.Lines.{Lines}
use Rattle.its_reader.specs.declared.lines.Next.{Next}
use Rattle.its_reader.specs.declared.lines.Next.TheVariants.{Line, Long, Beyond, End}
use Rattle.its_reader.specs.Bytes.{pending, BufferFits, Taken, TookPlain, Broke, is_plain}
use Rattle.its_reader.specs.Limits.{WithinLimits, is_short}
use Rattle.its_reader.specs.Lines.{Opened, BetweenLines, ahead, Facing, SomeLine, NextOf, Reads, Pushed, last_of, LineSo}

pub facing : (b : Bool) (P : Bool → List ℕ → Type 0) → ((whole : Bool) (more : List ℕ) → P whole more) → Facing b P
facing false P f = f
facing true P f = f true []

-- LF ends a line, and any other byte is one of it
lf : (whole : Bool) (line rest : List ℕ) (b : ℕ) → b ≡ 10 → lines_from whole line (b ∷ rest) ≡ line ∷ lines_from whole [] rest
lf whole line rest b e = let t : (b == 10) ≡ true = grind (arith, nat_tests) in rw t refl

other : (whole : Bool) (line rest : List ℕ) (b : ℕ) → b ≢ 10 → lines_from whole line (b ∷ rest) ≡ lines_from whole (line ++ b ∷ []) rest
other whole line rest b n = let t : (b == 10) ≡ false = grind (arith, nat_tests) in rw t refl

-- a line that has grown too long stays so
last_long : (line : List ℕ) → 255 < length line → SomeLine (last_line true line) (λ l. 255 < length l)
last_long [] h = absurd (omega arith)
last_long (b ∷ bs) h = record { first = b ∷ bs; behind = []; is = refl; holds = h }

long : (line bytes : List ℕ) → 255 < length line → SomeLine (lines_from true line bytes) (λ l. 255 < length l)
long line [] h = last_long line h
long line (b ∷ bs) h = elim (cases_Bool (b == 10)) [
  | inl t ↦ record { first = line; behind = lines_from true [] bs; is = rw t refl; holds = h }
  | inr t ↦ let r = long (line ++ b ∷ []) bs (omega (arith, length-append line (b ∷ []))) in
      record { first = r.first; behind = r.behind; is = rw t r.is; holds = r.holds }
]

-- a byte begins a line
last_some : (line : List ℕ) (b : ℕ) → SomeLine (last_line true (line ++ b ∷ [])) (λ l. Unit {0})
last_some [] b = record { first = b ∷ []; behind = []; is = refl; holds = tt }
last_some (c ∷ cs) b = record { first = c ∷ (cs ++ b ∷ []); behind = []; is = refl; holds = tt }

some : (line bytes : List ℕ) (b : ℕ) → SomeLine (lines_from true line (b ∷ bytes)) (λ l. Unit {0})
some line [] b = elim (cases_Bool (b == 10)) [
  | inl t ↦ record { first = line; behind = []; is = rw t refl; holds = tt }
  | inr t ↦ rw t (last_some line b)
]
some line (c ∷ cs) b = elim (cases_Bool (b == 10)) [
  | inl t ↦ record { first = line; behind = lines_from true [] (c ∷ cs); is = rw t refl; holds = tt }
  | inr t ↦ let r = some (line ++ b ∷ []) cs c in record { first = r.first; behind = r.behind; is = rw t r.is; holds = tt }
]

-- the line so far
pub so_start : (r : Lines) (left : Option (List ℕ)) → r.line.items ≡ [] → LineSo r r left left
so_start r left e = record { read = []; consumed = Consumes-nil left; so_far = λ whole more. ap (λ l. lines_from whole l (pending r.buffer ++ more)) (sym e) }

-- bytes other than LF after it
others : (whole : Bool) (line bytes rest : List ℕ) → list_all is_plain bytes ≡ true
    → lines_from whole line (bytes ++ rest) ≡ lines_from whole (line ++ bytes) rest
others whole line [] rest h = ap (λ l. lines_from whole l rest) (sym (append-nil line))
others whole line (b ∷ bs) rest h =
    let both = and_parts (is_plain b) (list_all is_plain bs) h in
    let t : (b == 10) ≡ false = not-true (b == 10) both.0 in
    rw t (others whole (line ++ b ∷ []) bs rest both.1 ∙ ap (λ l. lines_from whole l rest) (append_assoc line (b ∷ []) bs))

pub so_plain : (old now next : Lines) (left mid : Option (List ℕ)) → LineSo old now left mid
    → TookPlain now.line.items next.line.items now.buffer next.buffer → LineSo old next left mid
so_plain old now next left mid s t = record {
  read = s.read;
  consumed = s.consumed;
  so_far = λ whole more.
      s.so_far whole more ∙ ap (λ x. lines_from whole now.line.items (x ++ more)) t.given
      ∙ ap (lines_from whole now.line.items) (append_assoc t.bytes (pending next.buffer) more)
      ∙ others whole now.line.items t.bytes (pending next.buffer ++ more) t.plain ∙ ap (λ l. lines_from whole l (pending next.buffer ++ more)) (sym t.kept);
}

-- a byte after it
byte : (old now : Lines) (buffer : Buffer) (b : ℕ) (left mid rest : Option (List ℕ)) (s : LineSo old now left mid)
    (t : Taken (Some b) now.buffer buffer mid rest) (whole : Bool) (more : List ℕ)
    → ahead whole old ((s.read ++ t.read) ++ more) ≡ lines_from whole now.line.items (b ∷ (pending buffer ++ more))
byte old now buffer b left mid rest s t whole more =
    ap (ahead whole old) (append_assoc s.read t.read more) ∙ s.so_far whole (t.read ++ more)
    ∙ ap (lines_from whole now.line.items) (sym (append_assoc (pending now.buffer) t.read more) ∙ ap (λ x. x ++ more) t.given)

so_next : (old now next : Lines) (b : ℕ) (left mid rest : Option (List ℕ)) → LineSo old now left mid → Taken (Some b) now.buffer next.buffer mid rest
    → Pushed None next.number now.line.items b next.line.items → LineSo old next left rest
so_next old now next b left mid rest s t p = record {
  read = s.read ++ t.read;
  consumed = Consumes-trans left mid rest s.read t.read s.consumed t.consumed;
  so_far = λ whole more. byte old now next.buffer b left mid rest s t whole more ∙ other whole now.line.items (pending next.buffer ++ more) b p.0
      ∙ ap (λ l. lines_from whole l (pending next.buffer ++ more)) (sym p.1);
}

pub so_next_by : (o : Option ℕ) (old now next : Lines) (b : ℕ) (left mid rest : Option (List ℕ)) → o ≡ Some b → LineSo old now left mid
    → Taken o now.buffer next.buffer mid rest
    → Pushed None next.number now.line.items b next.line.items → LineSo old next left rest
so_next_by o old now next b left mid rest n s t p = so_next old now next b left mid rest s (subst (λ x. Taken x now.buffer next.buffer mid rest) n t) p

by_push : (next : Next) (old now new : Lines) (b : ℕ) (left mid rest : Option (List ℕ)) (s : LineSo old now left mid)
    (t : Taken (Some b) now.buffer new.buffer mid rest)
    → Pushed (Some next) new.number now.line.items b new.line.items → NextOf (Ok next) old new (s.read ++ t.read)
by_push Line old now new b left mid rest s t p = facing new.ended _ (λ whole more.
    byte old now new.buffer b left mid rest s t whole more ∙ lf whole now.line.items (pending new.buffer ++ more) b p.0
    ∙ ap (λ l. l ∷ lines_from whole [] (pending new.buffer ++ more)) (sym p.1))
by_push Long old now new b left mid rest s t p = (
  p.2,
  λ more.
      subst (λ x. SomeLine x (λ l. 255 < length l))
      (sym (byte old now new.buffer b left mid rest s t true more ∙ other true now.line.items (pending new.buffer ++ more) b p.0))
      (long (now.line.items ++ b ∷ []) (pending new.buffer ++ more) (omega (arith, length-append now.line.items (b ∷ []), p.1))),
)
by_push Beyond old now new b left mid rest s t p = (
  p,
  λ more.
      subst (λ x. SomeLine x (λ l. Unit {0})) (sym (byte old now new.buffer b left mid rest s t true more))
      (some now.line.items (pending new.buffer ++ more) b),
)
by_push End old now new b left mid rest s t p = absurd p

pub reads_push : (next : Next) (old now new : Lines) (b : ℕ) (left mid rest : Option (List ℕ)) → old.ended ≡ false → LineSo old now left mid
    → Taken (Some b) now.buffer new.buffer mid rest
    → Pushed (Some next) new.number now.line.items b new.line.items → Reads (Ok next) old new left rest
reads_push next old now new b left mid rest o s t p = record {
  read = s.read ++ t.read;
  consumed = Consumes-trans left mid rest s.read t.read s.consumed t.consumed;
  over = λ e. absurd (let k : false ≡ true = sym o ∙ e in cc);
  next = by_push next old now new b left mid rest s t p;
}

-- the end of the source
pub nothing_left : (xs ys : List ℕ) → xs ++ ys ≡ [] → (xs ≡ []) × (ys ≡ [])
nothing_left [] ys e = (refl, e)
nothing_left (x ∷ xs) ys e = cc

by_last : (line : List ℕ) (old new : Lines) (read : List ℕ) → new.ended ≡ true → pending new.buffer ≡ [] → new.line.items ≡ line
    → ahead true old read ≡ lines_from true line [] → NextOf (Ok (last_of line)) old new read
by_last [] old new read e p l h = (e, h)
by_last (b ∷ bs) old new read e p l h =
    subst (λ x. Facing x (λ whole more. ahead whole old (read ++ more) ≡ new.line.items ∷ ahead whole new more)) (sym e)
    (ap (ahead true old) (append-nil read) ∙ h ∙ ap (λ x. x ∷ []) (sym l) ∙ ap (λ x. new.line.items ∷ lines_from true [] (x ++ [])) (sym p))

pub reads_last : (old now new : Lines) (left mid rest : Option (List ℕ)) → old.ended ≡ false → new.ended ≡ true
    → new.line.items ≡ now.line.items → LineSo old now left mid → Taken None now.buffer new.buffer mid rest
    → Reads (Ok (last_of new.line.items)) old new left rest
reads_last old now new left mid rest o e l s t =
    let n = nothing_left (pending now.buffer) t.read t.given.0 in
    record {
      read = s.read ++ t.read;
      consumed = Consumes-trans left mid rest s.read t.read s.consumed t.consumed;
      over = λ x. absurd (let k : false ≡ true = sym o ∙ x in cc);
      next = by_last new.line.items old new (s.read ++ t.read) e t.given.1 refl
          (s.so_far true t.read ∙ ap (lines_from true now.line.items) t.given.0 ∙ ap (λ x. lines_from true x []) (sym l));
    }

-- the source failed
no_line : (line : List ℕ) → last_line false line ≡ []
no_line [] = refl
no_line (b ∷ bs) = refl

opened_last : (line : List ℕ) (n : ℕ) → length line ≤ 255 → (0 < length line → n ≤ most_lines) → Opened (last_line true line) n
opened_last [] n short few = tt
opened_last (b ∷ bs) n short few = (short, few (omega arith))

pub reads_broken : (e : Failed) (old now new : Lines) (left mid rest : Option (List ℕ)) → old.ended ≡ false → length now.line.items ≤ 255
    → (0 < length now.line.items → new.number ≤ most_lines) → LineSo old now left mid
    → Broke now.buffer new.buffer mid rest → Reads (Err e) old new left rest
reads_broken e old now new left mid rest o short few s b = record {
  read = s.read;
  consumed = Consumes-kept left mid rest s.read s.consumed b.kept;
  over = λ x. absurd (let k : false ≡ true = sym o ∙ x in cc);
  next = (
    o,
    ap (ahead false old) (sym (append-nil s.read)) ∙ s.so_far false [] ∙ ap (λ x. lines_from false now.line.items (x ++ [])) b.none ∙ no_line now.line.items,
    subst (λ lines. Opened lines new.number)
        (sym (ap (ahead true old) (sym (append-nil s.read)) ∙ s.so_far true [] ∙ ap (λ x. lines_from true now.line.items (x ++ [])) b.none))
        (opened_last now.line.items new.number short few),
  );
}

-- lines that were given, and at most one that has begun
pub limits_by : (lines more : List (List ℕ)) (bytes : List ℕ) → lines_from true [] bytes ≡ lines ++ more → list_all is_short lines ≡ true
    → length lines ≤ most_lines → Opened more (length lines + 1) → WithinLimits bytes
limits_by lines [] bytes is short few opened = record {
  short = ap (list_all is_short) (is ∙ append-nil lines) ∙ short;
  few = subst (λ (x : List (List ℕ)). length x ≤ most_lines) (sym (is ∙ append-nil lines)) few;
}
limits_by lines (line ∷ []) bytes is short few opened =
    let here : nat_le (length line) 255 ≡ true = (let h : length line ≤ 255 = opened.0 in grind (arith, nat_tests)) in
    record {
      short = ap (list_all is_short) is ∙ rw (list_all-append is_short lines (line ∷ []), short, here) refl;
      few = subst (λ (x : List (List ℕ)). length x ≤ most_lines) (sym is)
          (let h : length lines + 1 ≤ most_lines = opened.1 in omega (arith, length-append lines (line ∷ [])));
    }
limits_by lines (line ∷ (next ∷ more)) bytes is short few opened = absurd opened

-- after the end there is nothing
pub reads_ended : (old new : Lines) (left : Option (List ℕ)) → BetweenLines old left → old.ended ≡ true → new.ended ≡ true → Reads (Ok End) old new left left
reads_ended old new left r e f = record {
  read = [];
  consumed = Consumes-nil left;
  over = λ x. (refl, f);
  next = (f, ap (λ x. lines_from true [] (x ++ [])) (r.over e).0);
}

by_start : (result : Result Next Failed) (old start new : Lines) (read : List ℕ) → start.buffer ≡ old.buffer → start.ended ≡ old.ended
    → NextOf result start new read → NextOf result old new read
by_start (Ok Line) old start new read e f n = subst (λ b. Facing new.ended
    (λ whole more. lines_from whole [] (pending b ++ (read ++ more)) ≡ new.line.items ∷ ahead whole new more)) e n
by_start (Ok Long) old start new read e f n = (
  n.0,
  subst (λ b. (more : List ℕ)
      → SomeLine (lines_from true [] (pending b ++ (read ++ more))) (λ line. 255 < length line)) e n.1,
)
by_start (Ok Beyond) old start new read e f n = (
  n.0,
  subst (λ b. (more : List ℕ)
      → SomeLine (lines_from true [] (pending b ++ (read ++ more))) (λ line. Unit {0})) e n.1,
)
by_start (Ok End) old start new read e f n = (n.0, subst (λ b. lines_from true [] (pending b ++ read) ≡ []) e n.1)
by_start (Err x) old start new read e f n = (
  sym f ∙ n.0,
  subst (λ b. lines_from false [] (pending b ++ read) ≡ []) e n.1,
  subst (λ b. Opened (lines_from true [] (pending b ++ read)) new.number) e n.2,
)

pub reads_from : (result : Result Next Failed) (old start new : Lines) (left rest : Option (List ℕ)) → start.buffer ≡ old.buffer
    → start.ended ≡ old.ended → Reads result start new left rest → Reads result old new left rest
reads_from result old start new left rest e f r = record {
  read = r.read;
  consumed = r.consumed;
  over = λ x. r.over (f ∙ x);
  next = by_start result old start new r.read e f r.next;
}

-- the loop leaves its state ready
pub ready_open : (r : Lines) (left : Option (List ℕ)) → BufferFits r.buffer → r.ended ≡ false → BetweenLines r left
ready_open r left f e = record { fits = f; over = λ x. absurd (let k : false ≡ true = sym e ∙ x in cc) }

pub ready_over : (r now : Lines) (left mid : Option (List ℕ)) → BufferFits r.buffer → Taken None now.buffer r.buffer mid left → BetweenLines r left
ready_over r now left mid f t = record { fits = f; over = λ x. (t.given.1, t.end refl) }

pub reads_last_by : (next : Next) (o : Option ℕ) (slice : List ℕ) (old now new : Lines) (left mid rest : Option (List ℕ))
    → next ≡ last_of slice → slice ≡ new.line.items → o ≡ None → old.ended ≡ false → new.ended ≡ true
    → new.line.items ≡ now.line.items → LineSo old now left mid → Taken o now.buffer new.buffer mid rest → Reads (Ok next) old new left rest
reads_last_by next o slice old now new left mid rest e l n r f k s t =
    subst (λ x. Reads (Ok x) old new left rest) (sym (e ∙ ap last_of l))
    (reads_last old now new left mid rest r f k s (subst (λ x. Taken x now.buffer new.buffer mid rest) n t))

pub reads_push_by : (next : Next) (o : Option ℕ) (old now new : Lines) (b : ℕ) (left mid rest : Option (List ℕ)) → o ≡ Some b
    → old.ended ≡ false → LineSo old now left mid → Taken o now.buffer new.buffer mid rest
    → Pushed (Some next) new.number now.line.items b new.line.items → Reads (Ok next) old new left rest
reads_push_by next o old now new b left mid rest n r s t p =
    reads_push next old now new b left mid rest r s (subst (λ x. Taken x now.buffer new.buffer mid rest) n t) p
