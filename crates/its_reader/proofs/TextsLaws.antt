-- The lines of a transcript, one by one.
use Rattle.std.specs.Prelude.{◌≡◌, ◌≢◌, ◌≤◌, ◌==◌, ◌<◌, ◌+◌, ℕ, suc, Bool, true, false, Option, Some, None, Result, Ok, Err, List, [], ◌∷◌, ◌++◌, length, refl}
use Rattle.std.proofs.Common.{sym, ◌∙◌, ap, subst, arith, inl, inr, append_assoc, append-nil, length-append}
use Rattle.std.proofs.lemmas.Bool.{cases_Bool, and_parts, eq-eqb, false≢true, ne_eqb, not-true}
use Rattle.std.proofs.lemmas.List.Folds.{list_all-append}
use Rattle.std.proofs.KnownBytes.{Consumes-nil, Consumes-trans, Consumes-kept}
use Rattle.std.specs.List.{list_all}
use Rattle.its_io.specs.declared.stream.Failed.{Failed}
use Rattle.its_reader.specs.TextLines.{before_lf, in_front, lines_in}
use Rattle.its_reader.specs.declared.buffer.Buffer.{Buffer}
use Rattle.its_reader.specs.declared.lines.Next.{Next}
use Rattle.its_reader.specs.declared.lines.Next.TheVariants.{Line, Long, Beyond, End}
use Rattle.its_reader.specs.declared.texts.Texts.{Texts}
use Rattle.its_reader.specs.Bytes.{pending, BufferFits, Taken, TookPlain, Broke}
use Rattle.its_reader.specs.Lines.{Facing, SomeLine, last_of}
use Rattle.its_session.specs.Events.{most_lines}
use Rattle.its_reader.specs.Texts.{OpenedText, PushedText, ReadsText, ReadyTexts, TextOf, TextSo, is_inside, texts_ahead}
use Rattle.its_reader.proofs.LinesLaws.{facing, nothing_left}

-- bytes without LF before LF are a line with it
lf_in_front : (b : ℕ) (lines : List (List ℕ)) → (b == 10) ≡ true → in_front b lines ≡ (b ∷ []) ∷ lines
lf_in_front b [] lf = refl
lf_in_front b (line ∷ lines) lf = rw lf refl

ends : (text rest : List ℕ) (b : ℕ) → list_all is_inside text ≡ true → b ≡ 10 → lines_in (text ++ b ∷ rest) ≡ (text ++ b ∷ []) ∷ lines_in rest
unfolding lines_in
ends [] rest b h is = lf_in_front b (lines_in rest) (eq-eqb b 10 is)
ends (c ∷ cs) rest b h is =
    let both = and_parts (is_inside c) (list_all is_inside cs) h in
    let other : (c == 10) ≡ false = not-true (c == 10) both.0 in
    rw (ends cs rest b both.1 is, other) refl

-- some bytes without LF are a line, if none follow
only : (c : ℕ) (cs : List ℕ) → list_all is_inside (c ∷ cs) ≡ true → lines_in (c ∷ cs) ≡ (c ∷ cs) ∷ []
unfolding lines_in
only c [] h = refl
only c (d ∷ ds) h =
    let both = and_parts (is_inside c) (list_all is_inside (d ∷ ds)) h in
    let other : (c == 10) ≡ false = not-true (c == 10) both.0 in
    rw (only d ds both.1, other) refl

-- the first line of bytes that begin with some without LF has all of these before its LF
front_one : (c : ℕ) (lines : List (List ℕ)) → (c == 10) ≡ false → SomeLine (in_front c lines) (λ line. 1 ≤ length (before_lf line))
front_one c [] other = record { first = c ∷ []; behind = []; is = refl; holds = rw other (omega arith) }
front_one c (line ∷ lines) other = record { first = c ∷ line; behind = lines; is = rw other refl; holds = rw other (omega arith) }

front_more : (c n : ℕ) (first : List ℕ) (behind : List (List ℕ)) → (c == 10) ≡ false → n ≤ length (before_lf first)
    → SomeLine (in_front c (first ∷ behind)) (λ line. suc n ≤ length (before_lf line))
front_more c n first behind other few = record { first = c ∷ first; behind = behind; is = rw other refl; holds = rw other (omega arith) }

begins : (c : ℕ) (cs rest : List ℕ) → list_all is_inside (c ∷ cs) ≡ true
    → SomeLine (lines_in ((c ∷ cs) ++ rest)) (λ line. length (c ∷ cs) ≤ length (before_lf line))
unfolding lines_in
begins c [] rest h =
    let both = and_parts (is_inside c) true h in
    front_one c (lines_in rest) (not-true (c == 10) both.0)
begins c (d ∷ ds) rest h =
    let both = and_parts (is_inside c) (list_all is_inside (d ∷ ds)) h in
    let other : (c == 10) ≡ false = not-true (c == 10) both.0 in
    let more = begins d ds rest both.1 in
    subst (λ (lines : List (List ℕ)). SomeLine (in_front c lines) (λ line. suc (length (d ∷ ds)) ≤ length (before_lf line))) (sym more.is)
    (front_more c (length (d ∷ ds)) more.first more.behind other more.holds)

-- a byte begins a line
front_some : (b : ℕ) (lines : List (List ℕ)) → SomeLine (in_front b lines) (λ line. Unit {0})
front_some b [] = record { first = b ∷ []; behind = []; is = refl; holds = tt }
front_some b (line ∷ lines) =
    elim (cases_Bool (b == 10)) [
      | inl lf ↦ record { first = b ∷ []; behind = line ∷ lines; is = rw lf refl; holds = tt }
      | inr other ↦ record { first = b ∷ line; behind = lines; is = rw other refl; holds = tt }
    ]

some : (text rest : List ℕ) (b : ℕ) → SomeLine (lines_in (text ++ b ∷ rest)) (λ line. Unit {0})
unfolding lines_in
some [] rest b = front_some b (lines_in rest)
some (c ∷ cs) rest b = front_some c (lines_in (cs ++ b ∷ rest))

-- the line so far
pub so_start : (r : Texts) (left : Option (List ℕ)) → r.text.items ≡ [] → TextSo r r left left
so_start r left e = record {
  read = [];
  consumed = Consumes-nil left;
  so_far = λ more. ap (λ t. lines_in (t ++ (pending r.buffer ++ more))) (sym e);
  inside = rw e refl;
}

-- bytes other than LF after it
pub so_plain : (old now next : Texts) (left mid : Option (List ℕ)) → TextSo old now left mid
    → TookPlain now.text.items next.text.items now.buffer next.buffer → TextSo old next left mid
so_plain old now next left mid s t = record {
  read = s.read;
  consumed = s.consumed;
  so_far = λ more.
      s.so_far more ∙ ap (λ x. lines_in (now.text.items ++ (x ++ more))) t.given
      ∙ ap (λ x. lines_in (now.text.items ++ x)) (append_assoc t.bytes (pending next.buffer) more)
      ∙ ap lines_in (sym (append_assoc now.text.items t.bytes (pending next.buffer ++ more)))
      ∙ ap (λ x. lines_in (x ++ (pending next.buffer ++ more))) (sym t.kept);
  inside = rw (t.kept, list_all-append is_inside now.text.items t.bytes, s.inside, t.plain) refl;
}

-- a byte after it
byte : (old now : Texts) (buffer : Buffer) (b : ℕ) (left mid rest : Option (List ℕ)) (s : TextSo old now left mid)
    (t : Taken (Some b) now.buffer buffer mid rest) (more : List ℕ)
    → texts_ahead old ((s.read ++ t.read) ++ more) ≡ lines_in (now.text.items ++ b ∷ (pending buffer ++ more))
byte old now buffer b left mid rest s t more =
    ap (texts_ahead old) (append_assoc s.read t.read more) ∙ s.so_far (t.read ++ more)
    ∙ ap (λ x. lines_in (now.text.items ++ x)) (sym (append_assoc (pending now.buffer) t.read more) ∙ ap (λ x. x ++ more) t.given)

inside_more : (text : List ℕ) (b : ℕ) → list_all is_inside text ≡ true → b ≢ 10 → list_all is_inside (text ++ b ∷ []) ≡ true
inside_more text b h other =
    let test : (b == 10) ≡ false = ne_eqb b 10 other in
    rw (list_all-append is_inside text (b ∷ []), h, test) refl

so_next : (old now next : Texts) (b : ℕ) (left mid rest : Option (List ℕ)) → TextSo old now left mid → Taken (Some b) now.buffer next.buffer mid rest
    → PushedText None next.number next.most now.text.items b next.text.items → TextSo old next left rest
so_next old now next b left mid rest s t p = record {
  read = s.read ++ t.read;
  consumed = Consumes-trans left mid rest s.read t.read s.consumed t.consumed;
  so_far = λ more.
      byte old now next.buffer b left mid rest s t more ∙ ap lines_in (sym (append_assoc now.text.items (b ∷ []) (pending next.buffer ++ more)))
      ∙ ap (λ x. lines_in (x ++ (pending next.buffer ++ more))) (sym p.1);
  inside = rw p.1 (inside_more now.text.items b s.inside p.0);
}

pub so_next_by : (o : Option ℕ) (old now next : Texts) (b : ℕ) (left mid rest : Option (List ℕ)) → o ≡ Some b → TextSo old now left mid
    → Taken o now.buffer next.buffer mid rest
    → PushedText None next.number next.most now.text.items b next.text.items → TextSo old next left rest
so_next_by o old now next b left mid rest n s t p = so_next old now next b left mid rest s (subst (λ x. Taken x now.buffer next.buffer mid rest) n t) p

long_line : (most : ℕ) (text rest : List ℕ) (b : ℕ) → list_all is_inside text ≡ true → b ≢ 10 → most ≤ length text
    → SomeLine (lines_in (text ++ b ∷ rest)) (λ line. most < length (before_lf line))
long_line most [] rest b h other long =
    let l = begins b [] rest (inside_more [] b h other) in
    record { first = l.first; behind = l.behind; is = l.is; holds = omega (arith, l.holds, long) }
long_line most (c ∷ cs) rest b h other long =
    let l = begins c (cs ++ b ∷ []) rest (inside_more (c ∷ cs) b h other) in
    let is : (c ∷ (cs ++ b ∷ [])) ++ rest ≡ (c ∷ cs) ++ b ∷ rest = append_assoc (c ∷ cs) (b ∷ []) rest in
    record { first = l.first; behind = l.behind; is = ap lines_in (sym is) ∙ l.is; holds = omega (arith, l.holds, length-append cs (b ∷ []), long) }

by_push : (next : Next) (old now new : Texts) (b : ℕ) (left mid rest : Option (List ℕ)) (s : TextSo old now left mid)
    (t : Taken (Some b) now.buffer new.buffer mid rest)
    → PushedText (Some next) new.number new.most now.text.items b new.text.items → TextOf (Ok next) old new (s.read ++ t.read)
by_push Line old now new b left mid rest s t p = (
  facing new.ended _
      (λ whole more.
      byte old now new.buffer b left mid rest s t more ∙ ends now.text.items (pending new.buffer ++ more) b s.inside p.0
      ∙ ap (λ x. x ∷ lines_in (pending new.buffer ++ more)) (sym p.1)),
  λ on. record { before = now.text.items; is = p.1 ∙ ap (λ (x : ℕ). now.text.items ++ x ∷ []) p.0; inside = s.inside },
)
by_push Long old now new b left mid rest s t p = (
  p.2,
  λ more.
      subst (λ x. SomeLine x (λ line. new.most < length (before_lf line))) (sym (byte old now new.buffer b left mid rest s t more))
      (long_line new.most now.text.items (pending new.buffer ++ more) b s.inside p.0 p.1),
)
by_push Beyond old now new b left mid rest s t p = (
  p,
  λ more.
      subst (λ x. SomeLine x (λ line. Unit {0})) (sym (byte old now new.buffer b left mid rest s t more))
      (some now.text.items (pending new.buffer ++ more) b),
)
by_push End old now new b left mid rest s t p = absurd p

pub reads_push : (next : Next) (o : Option ℕ) (old now new : Texts) (b : ℕ) (left mid rest : Option (List ℕ)) → o ≡ Some b
    → old.ended ≡ false → TextSo old now left mid
    → Taken o now.buffer new.buffer mid rest → PushedText (Some next) new.number new.most now.text.items b new.text.items
    → ReadsText (Ok next) old new left rest
reads_push next o old now new b left mid rest is runs s t p =
    let u : Taken (Some b) now.buffer new.buffer mid rest = subst (λ x. Taken x now.buffer new.buffer mid rest) is t in
    record {
      read = s.read ++ u.read;
      consumed = Consumes-trans left mid rest s.read u.read s.consumed u.consumed;
      over = λ e. absurd (false≢true (sym runs ∙ e));
      next = by_push next old now new b left mid rest s u p;
    }

-- the end of the source
over_at : (b : Bool) → b ≡ true → (P : List ℕ → Type 0) → P [] → Facing b (λ whole more. P more)
over_at false e P p = absurd (false≢true e)
over_at true e P p = p

by_last : (text : List ℕ) (old new : Texts) (read : List ℕ) → new.ended ≡ true → pending new.buffer ≡ [] → new.text.items ≡ text
    → list_all is_inside text ≡ true
    → texts_ahead old read ≡ lines_in text → TextOf (Ok (last_of text)) old new read
unfolding lines_in
by_last [] old new read e p l inside h = (e, h)
by_last (c ∷ cs) old new read e p l inside h = (
  over_at new.ended e
      (λ more. texts_ahead old (read ++ more) ≡ new.text.items ∷ texts_ahead new more)
      (ap (texts_ahead old) (append-nil read) ∙ h ∙ only c cs inside ∙ ap (λ x. x ∷ []) (sym l) ∙ ap (λ x. new.text.items ∷ lines_in (x ++ [])) (sym p)),
  λ on. absurd (false≢true (sym on ∙ e)),
)

pub reads_last : (next : Next) (o : Option ℕ) (slice : List ℕ) (old now new : Texts) (left mid rest : Option (List ℕ))
    → next ≡ last_of slice → slice ≡ new.text.items → o ≡ None
    → old.ended ≡ false → new.ended ≡ true → new.text.items ≡ now.text.items → TextSo old now left mid
    → Taken o now.buffer new.buffer mid rest → ReadsText (Ok next) old new left rest
reads_last next o slice old now new left mid rest e l n runs f k s t =
    let u : Taken None now.buffer new.buffer mid rest = subst (λ x. Taken x now.buffer new.buffer mid rest) n t in
    let gone = nothing_left (pending now.buffer) u.read u.given.0 in
    let all : texts_ahead old (s.read ++ u.read) ≡ lines_in new.text.items =
    s.so_far u.read ∙ ap (λ x. lines_in (now.text.items ++ x)) u.given.0 ∙ ap lines_in (append-nil now.text.items ∙ sym k) in
    let inside : list_all is_inside new.text.items ≡ true = rw k s.inside in
    subst (λ x. ReadsText (Ok x) old new left rest) (sym (e ∙ ap last_of l))
    (record {
      read = s.read ++ u.read;
      consumed = Consumes-trans left mid rest s.read u.read s.consumed u.consumed;
      over = λ x. absurd (false≢true (sym runs ∙ x));
      next = by_last new.text.items old new (s.read ++ u.read) f u.given.1 refl inside all;
    })

-- the source failed
opened : (most n : ℕ) (text : List ℕ) → list_all is_inside text ≡ true → length text ≤ most → (0 < length text → n ≤ most_lines)
    → OpenedText most (lines_in text) n
unfolding lines_in
opened most n [] inside short few = tt
opened most n (b ∷ bs) inside short few =
    subst (λ lines. OpenedText most lines n) (sym (only b bs inside)) (inside, short, few (omega arith))

pub reads_broken : (e : Failed) (old now new : Texts) (left mid rest : Option (List ℕ)) → old.ended ≡ false
    → length now.text.items ≤ new.most → (0 < length now.text.items → new.number ≤ most_lines)
    → TextSo old now left mid → Broke now.buffer new.buffer mid rest → ReadsText (Err e) old new left rest
reads_broken e old now new left mid rest runs short few s b =
    let all : texts_ahead old s.read ≡ lines_in now.text.items =
    ap (texts_ahead old) (sym (append-nil s.read)) ∙ s.so_far [] ∙ ap (λ x. lines_in (now.text.items ++ (x ++ []))) b.none
    ∙ ap lines_in (append-nil now.text.items) in
    record {
      read = s.read;
      consumed = Consumes-kept left mid rest s.read s.consumed b.kept;
      over = λ x. absurd (false≢true (sym runs ∙ x));
      next = (runs, subst (λ lines. OpenedText new.most lines new.number) (sym all) (opened new.most new.number now.text.items s.inside short few));
    }

-- after the end there is nothing
pub reads_ended : (old new : Texts) (left : Option (List ℕ)) → ReadyTexts old left → old.ended ≡ true → new.ended ≡ true
    → ReadsText (Ok End) old new left left
unfolding lines_in
reads_ended old new left r e f = record {
  read = [];
  consumed = Consumes-nil left;
  over = λ x. (refl, f);
  next = (f, ap (λ x. lines_in (x ++ [])) (r.over e).0);
}

by_start : (result : Result Next Failed) (old start new : Texts) (read : List ℕ) → start.buffer ≡ old.buffer → start.ended ≡ old.ended
    → TextOf result start new read → TextOf result old new read
by_start (Ok Line) old start new read e f n =
    (subst (λ (b : Buffer). Facing new.ended (λ whole more. lines_in (pending b ++ (read ++ more)) ≡ new.text.items ∷ texts_ahead new more)) e n.0, n.1)
by_start (Ok Long) old start new read e f n =
    (n.0, subst (λ (b : Buffer). (more : List ℕ) → SomeLine (lines_in (pending b ++ (read ++ more))) (λ line. new.most < length (before_lf line))) e n.1)
by_start (Ok Beyond) old start new read e f n =
    (n.0, subst (λ (b : Buffer). (more : List ℕ) → SomeLine (lines_in (pending b ++ (read ++ more))) (λ line. Unit {0})) e n.1)
by_start (Ok End) old start new read e f n = (n.0, subst (λ (b : Buffer). lines_in (pending b ++ read) ≡ []) e n.1)
by_start (Err x) old start new read e f n = (sym f ∙ n.0, subst (λ (b : Buffer). OpenedText new.most (lines_in (pending b ++ read)) new.number) e n.1)

pub reads_from : (result : Result Next Failed) (old start new : Texts) (left rest : Option (List ℕ)) → start.buffer ≡ old.buffer
    → start.ended ≡ old.ended → ReadsText result start new left rest
    → ReadsText result old new left rest
reads_from result old start new left rest e f r = record {
  read = r.read;
  consumed = r.consumed;
  over = λ x. r.over (f ∙ x);
  next = by_start result old start new r.read e f r.next;
}

-- the loop leaves its state ready
pub ready_open : (r : Texts) (left : Option (List ℕ)) → BufferFits r.buffer → r.ended ≡ false → ReadyTexts r left
ready_open r left f e = record { fits = f; over = λ x. absurd (false≢true (sym e ∙ x)) }

pub ready_over : (r now : Texts) (left mid : Option (List ℕ)) → BufferFits r.buffer → Taken None now.buffer r.buffer mid left → ReadyTexts r left
ready_over r now left mid f t = record { fits = f; over = λ x. (t.given.1, t.end refl) }

-- how long it is
short_before : (text : List ℕ) → length (before_lf text) ≤ length text
short_before [] = omega arith
short_before (b ∷ bs) =
    elim (cases_Bool (b == 10)) [
      | inl lf ↦ rw lf (omega arith)
      | inr other ↦ (let l = short_before bs in rw other (omega (arith, l)))
    ]

before_end : (text : List ℕ) (b : ℕ) → b ≡ 10 → length (before_lf (text ++ b ∷ [])) ≤ length text
before_end [] b is = rw (eq-eqb b 10 is) (omega arith)
before_end (c ∷ cs) b is =
    elim (cases_Bool (c == 10)) [
      | inl lf ↦ rw lf (omega arith)
      | inr other ↦ (let l = before_end cs b is in rw other (omega (arith, l)))
    ]

pub short_end : (next : Next) (n most : ℕ) (text now : List ℕ) (b : ℕ) → PushedText (Some next) n most text b now → next ≡ Line
    → length text ≤ most → length (before_lf now) ≤ most
short_end Line n most text now b p is short = rw p.1 (let l = before_end text b p.0 in omega (arith, l, short))
short_end _ n most text now b p is short = cc

pub short_last : (text : List ℕ) (most : ℕ) → length text ≤ most → length (before_lf text) ≤ most
short_last text most short = (let l = short_before text in omega (arith, l, short))

pub room_end : (next : Next) (n most : ℕ) (text now : List ℕ) (b : ℕ) → PushedText (Some next) n most text b now → next ≡ Line
    → length text ≤ most → length now ≤ most + 1
room_end Line n most text now b p is short = rw p.1 (omega (arith, length-append text (b ∷ []), short))
room_end _ n most text now b p is short = cc

pub room_last : (text : List ℕ) (most : ℕ) → length text ≤ most → length text ≤ most + 1
room_last text most short = omega (arith, short)
