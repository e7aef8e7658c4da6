-- The items of a session, one by one.
use Rattle.std.specs.Prelude.{◌≡◌, ◌≤◌, ◌<◌, ◌+◌, ℕ, ◌⊎◌, Bool, true, false, Option, Some, None, IfSome, Result, Ok, Err, List, [], ◌∷◌, ◌++◌, length, nat_lt, nat_le, Contains, refl}
use Rattle.std.proofs.Common.{sym, ◌∙◌, ap, subst, arith, inl, inr, append_assoc, append-nil, length-append}
use Rattle.std.proofs.lemmas.Bool.{cases_Bool}
use Rattle.std.proofs.lemmas.Bool.Decides.{nat_tests}
use Rattle.std.proofs.lemmas.List.Elements.{Contains-append_right}
use Rattle.std.specs.Io.KnownBytes.{Consumes}
use Rattle.std.proofs.KnownBytes.{Consumes-nil, Consumes-trans}
use Rattle.its_io.specs.declared.stream.Failed.{Failed}
use Rattle.its_records.specs.Item.{Item, Read, Unread}
use Rattle.its_records.specs.Item as items
use Rattle.its_records.specs.declared.session.Event.{Event}
use Rattle.its_records.specs.declared.session.Event.TheVariants as events
use Rattle.its_records.specs.declared.session.Place.{Place}
use Rattle.its_records.specs.declared.session.Place.TheVariants as places
use Rattle.its_records.specs.declared.session.Bad.{Bad as BadLine}
use Rattle.its_records.specs.declared.session.Bad.TheVariants as bads
use Rattle.its_records.specs.declared.session.Reason.TheVariants as reasons
use Rattle.its_session.specs.Grammar.{line_event}
use Rattle.its_session.specs.Events.{most_lines, lines_from, items_from, item_then, place_after, version_after, end_of, events_of, whole_events_of}
use Rattle.its_reader.specs.declared.lines.Lines.{Lines}
use Rattle.its_reader.specs.declared.lines.Next.TheVariants as nexts
use Rattle.its_reader.specs.declared.items.Items.{Items}
use Rattle.its_reader.specs.declared.items.Found.{Found}
use Rattle.its_reader.specs.declared.items.Found.TheVariants.{Line, Bad, Beyond, End}
use Rattle.its_reader.specs.Bytes.{pending}
use Rattle.std.specs.List.{list_all}
use Rattle.std.proofs.lemmas.List.Folds.{list_all-append}
use Rattle.its_reader.specs.Limits.{is_short}
use Rattle.its_reader.specs.Lines.{Opened, BetweenLines, Facing, ahead, NextOf, Reads}
use Rattle.its_reader.specs.Items.{found_of, place_found, version_found, end_found, is_last, is_end, items_ahead, last_items, FoundOf, LineOf, Finds, FoundSoFar, ReadOut, AllFound, Ended, Behind}
use Rattle.its_reader.proofs.LinesLaws.{facing, limits_by}

facing_map : (b : Bool) (P Q : Bool → List ℕ → Type 0) → ((whole : Bool) (more : List ℕ) → P whole more → Q whole more) → Facing b P → Facing b Q
facing_map false P Q f p = λ whole more. f whole more (p whole more)
facing_map true P Q f p = f true [] p

-- what holds if the bytes are all of the source
facing_whole : (b : Bool) (P Q : Bool → List ℕ → Type 0) → ((whole : Bool) (more : List ℕ) → P true more → Q whole more) → Facing b P → Facing b Q
facing_whole false P Q f p = λ whole more. f whole more (p true more)
facing_whole true P Q f p = f true [] p

-- one line
one_line : (whole : Bool) (n : ℕ) (place : Place) (v : ℕ) (line : List ℕ) (rest : List (List ℕ)) → n ≤ most_lines
    → items_from whole n place v (line ∷ rest) ≡ item_then (line_event place v line)
    (λ e. items_from whole (n + 1) (place_after place e) (version_after v e) rest)
one_line whole n place v line rest h = let t : nat_lt most_lines n ≡ false = grind (arith, nat_tests) in rw t refl

then_at : (e : Event) (f : Event → List Item) → item_then (Ok e) f ≡ item_then (Ok e) (λ _. f e)
then_at events.End f = refl
then_at _ f = refl

event_long : (place : Place) (v : ℕ) (line : List ℕ) → 255 < length line → line_event place v line ≡ Err bads.Long
unfolding line_event
event_long place v line h = let t : nat_le (length line) 255 ≡ false = grind (arith, nat_tests) in rw t refl

line_found : (le : Result Event BadLine) (old : Items) (mid : Lines) (read : List ℕ) → le ≡ line_event old.place old.version mid.line.items
    → mid.number ≡ old.lines.number + 1 → mid.number ≤ most_lines
    → NextOf (Ok nexts.Line) old.lines mid read → FoundOf (Ok (found_of le)) old
    (record { lines = mid; place = place_found old.place (found_of le); version = version_found old.version (found_of le) }) read
line_found (Ok e) old mid read l n h r = facing_map mid.ended _ _ (λ whole more p.
    ap (items_from whole (old.lines.number + 1) old.place old.version) p
    ∙ ap (λ k. items_from whole k old.place old.version (mid.line.items ∷ ahead whole mid more)) (sym n)
    ∙ one_line whole mid.number old.place old.version mid.line.items (ahead whole mid more) h
    ∙ ap (λ x. item_then x (λ e. items_from whole (mid.number + 1) (place_after old.place e) (version_after old.version e) (ahead whole mid more))) (sym l)
    ∙ then_at e (λ e. items_from whole (mid.number + 1) (place_after old.place e) (version_after old.version e) (ahead whole mid more))) r
line_found (Err bad) old mid read l n h r = facing_whole mid.ended _ _ (λ whole more p.
    ap (items_from true (old.lines.number + 1) old.place old.version) p
    ∙ ap (λ k. items_from true k old.place old.version (mid.line.items ∷ ahead true mid more)) (sym n)
    ∙ one_line true mid.number old.place old.version mid.line.items (ahead true mid more) h
    ∙ ap (λ x. item_then x (λ e. items_from true (mid.number + 1) (place_after old.place e) (version_after old.version e) (ahead true mid more))) (sym l)) r

line_of : (le : Result Event BadLine) (old mid : Lines) (read : List ℕ) → mid.number ≡ old.number + 1 → mid.number ≤ most_lines
    → length mid.line.items ≤ 255 → NextOf (Ok nexts.Line) old mid read
    → LineOf (Ok (found_of le)) old mid read
line_of (Ok e) old mid read n h short r = (r, short, n, h)
line_of (Err bad) old mid read n h short r = tt

pub finds_line : (f : Found) (line : List ℕ) (old new : Items) (mid : Lines) (left rest : Option (List ℕ)) → line ≡ mid.line.items
    → f ≡ found_of (line_event old.place old.version line) → new.place ≡ place_found old.place f → new.version ≡ version_found old.version f → new.lines ≡ mid
    → mid.number ≡ old.lines.number + 1 → mid.number ≤ most_lines → length mid.line.items ≤ 255
    → Reads (Ok nexts.Line) old.lines mid left rest → Finds (Ok f) old new left rest
finds_line f line old new mid left rest s e p v l n h short r =
    let k : f ≡ found_of (line_event old.place old.version mid.line.items) = e ∙ ap (λ x. found_of (line_event old.place old.version x)) s in
    let at : record {
      lines = mid;
      place = place_found old.place (found_of (line_event old.place old.version mid.line.items));
      version = version_found old.version (found_of (line_event old.place old.version mid.line.items));
    } ≡ new = ap
    (λ x. record { lines = mid; place = place_found old.place x; version = version_found old.version x }) (sym k)
    ∙ ap (λ x. record { lines = mid; place = x; version = version_found old.version f }) (sym p)
    ∙ ap (λ x. record { lines = mid; place = new.place; version = x }) (sym v)
    ∙ ap (λ x. record { lines = x; place = new.place; version = new.version }) (sym l) in
    subst (λ x. Finds (Ok x) old new left rest) (sym k) (subst
    (λ x. Finds (Ok (found_of (line_event old.place old.version mid.line.items))) old x left rest) at (record {
      read = r.read;
      consumed = r.consumed;
      over = r.over;
      found = line_found (line_event old.place old.version mid.line.items) old mid r.read refl n h r.next;
      line = line_of (line_event old.place old.version mid.line.items) old.lines mid r.read n h short r.next;
    }))

pub finds_long : (old : Items) (mid : Lines) (left rest : Option (List ℕ)) → mid.number ≡ old.lines.number + 1 → Reads (Ok nexts.Long) old.lines mid left rest
    → Finds (Ok (Bad reasons.Long)) old (record { lines = mid; place = old.place; version = old.version }) left rest
finds_long old mid left rest n r = record {
  read = r.read;
  consumed = r.consumed;
  over = r.over;
  found = facing mid.ended _ (λ whole more. let l = r.next.1 more in
      ap (items_from true (old.lines.number + 1) old.place old.version) l.is
      ∙ one_line true (old.lines.number + 1) old.place old.version l.first l.behind (subst (λ k. k ≤ most_lines) n r.next.0)
      ∙ ap (λ x. item_then x (λ e. items_from true (old.lines.number + 1 + 1) (place_after old.place e) (version_after old.version e)
      l.behind)) (event_long old.place old.version l.first l.holds));
  line = tt;
}

beyond : (n : ℕ) (place : Place) (v : ℕ) (line : List ℕ) (rest : List (List ℕ)) → most_lines < n → items_from true n place v (line ∷ rest) ≡ items.Beyond ∷ []
beyond n place v line rest h = let t : nat_lt most_lines n ≡ true = grind (arith, nat_tests) in rw t refl

pub finds_beyond : (old : Items) (mid : Lines) (left rest : Option (List ℕ)) → mid.number ≡ old.lines.number + 1
    → Reads (Ok nexts.Beyond) old.lines mid left rest
    → Finds (Ok Beyond) old (record { lines = mid; place = old.place; version = old.version }) left rest
finds_beyond old mid left rest n r = record {
  read = r.read;
  consumed = r.consumed;
  over = r.over;
  found = facing mid.ended _ (λ whole more. let l = r.next.1 more in
      ap (items_from true (old.lines.number + 1) old.place old.version) l.is
      ∙ beyond (old.lines.number + 1) old.place old.version l.first l.behind (subst (λ k. most_lines < k) n r.next.0));
  line = tt;
}

-- the end of the input
over_at : (b : Bool) (P : List ℕ → Type 0) → b ≡ true → P [] → Facing b (λ _ more. P more)
over_at false P e p = cc
over_at true P e p = p

end_found_of : (place : Place) (old : Items) (mid : Lines) (read : List ℕ) → place ≡ old.place → mid.ended ≡ true
    → ahead true old.lines read ≡ [] → FoundOf (Ok (end_found place)) old (record { lines = mid; place = old.place; version = old.version }) read
end_found_of places.First old mid read e d a = (
  d,
  over_at mid.ended (λ more. items_ahead true old (read ++ more) ≡ []) d
      (ap (items_ahead true old) (append-nil read) ∙ ap (items_from true (old.lines.number + 1) old.place old.version) a ∙ ap (end_of true) (sym e)),
)
end_found_of places.Plain old mid read e d a = (
  d,
  over_at mid.ended (λ more. items_ahead true old (read ++ more) ≡ []) d
      (ap (items_ahead true old) (append-nil read) ∙ ap (items_from true (old.lines.number + 1) old.place old.version) a ∙ ap (end_of true) (sym e)),
)
end_found_of places.System old mid read e d a = over_at mid.ended (λ more. items_ahead true old (read ++ more) ≡ Unread reasons.Cut ∷ []) d
    (ap (items_ahead true old) (append-nil read) ∙ ap (items_from true (old.lines.number + 1) old.place old.version) a ∙ ap (end_of true) (sym e))
end_found_of places.Load old mid read e d a = over_at mid.ended (λ more. items_ahead true old (read ++ more) ≡ Unread reasons.Cut ∷ []) d
    (ap (items_ahead true old) (append-nil read) ∙ ap (items_from true (old.lines.number + 1) old.place old.version) a ∙ ap (end_of true) (sym e))
end_found_of places.File old mid read e d a = over_at mid.ended (λ more. items_ahead true old (read ++ more) ≡ Unread reasons.Cut ∷ []) d
    (ap (items_ahead true old) (append-nil read) ∙ ap (items_from true (old.lines.number + 1) old.place old.version) a ∙ ap (end_of true) (sym e))

end_line : (place : Place) (old mid : Lines) (read : List ℕ) → LineOf (Ok (end_found place)) old mid read
end_line places.First old mid read = tt
end_line places.Plain old mid read = tt
end_line places.System old mid read = tt
end_line places.Load old mid read = tt
end_line places.File old mid read = tt

pub finds_end : (f : Found) (old : Items) (mid : Lines) (left rest : Option (List ℕ)) → f ≡ end_found old.place → Reads (Ok nexts.End) old.lines mid left rest
    → Finds (Ok f) old (record { lines = mid; place = old.place; version = old.version }) left rest
finds_end f old mid left rest e r = subst (λ x. Finds (Ok x) old (record { lines = mid; place = old.place; version = old.version }) left
    rest) (sym e) (record {
      read = r.read;
      consumed = r.consumed;
      over = r.over;
      found = end_found_of old.place old mid r.read refl r.next.0 r.next.1;
      line = end_line old.place old.lines mid r.read;
    })

pub finds_broken : (e : Failed) (old : Items) (mid : Lines) (left rest : Option (List ℕ)) → mid.number ≡ old.lines.number + 1
    → Reads (Err e) old.lines mid left rest
    → Finds (Err e) old (record { lines = mid; place = old.place; version = old.version }) left rest
finds_broken e old mid left rest n r = record {
  read = r.read;
  consumed = r.consumed;
  over = r.over;
  found = (r.next.0, ap (items_from false (old.lines.number + 1) old.place old.version) r.next.1, subst (Opened (ahead true old.lines r.read)) n r.next.2);
  line = tt;
}

-- a session of which nothing was read
pub so_start : (r : Items) (left : Option (List ℕ)) → r.lines.number ≡ 0 → r.lines.ended ≡ false → pending r.lines.buffer ≡ []
    → r.place ≡ places.First → r.version ≡ 1 → FoundSoFar [] r left left
so_start r left n e p q v = record {
  read = [];
  consumed = Consumes-nil left;
  so_far = facing r.lines.ended _ (λ whole more.
      ap (λ k. items_from whole (k + 1) places.First 1 (lines_from whole [] more)) (sym n)
      ∙ ap (λ k. items_from whole (r.lines.number + 1) k 1 (lines_from whole [] more)) (sym q)
      ∙ ap (λ k. items_from whole (r.lines.number + 1) r.place k (lines_from whole [] more)) (sym v)
      ∙ ap (λ k. items_from whole (r.lines.number + 1) r.place r.version (lines_from whole [] (k ++ more))) (sym p));
  lines = [];
  lines_so = facing r.lines.ended _ (λ whole more. ap (λ k. lines_from whole [] (k ++ more)) (sym p));
  short = refl;
  number = sym n;
  few = omega arith;
}

-- what was read before, and now
pub consumed_then : (es : List Item) (f : Found) (old new : Items) (left mid rest : Option (List ℕ)) (s : FoundSoFar es old left mid)
    (t : Finds (Ok f) old new mid rest) → Consumes left rest (s.read ++ t.read)
consumed_then es f old new left mid rest s t = Consumes-trans left mid rest s.read t.read s.consumed t.consumed

-- one item more
step : (b c : Bool) (P Q R : Bool → List ℕ → Type 0) (t : List ℕ) → (b ≡ true → (t ≡ []) × (c ≡ true))
    → ((whole : Bool) (more : List ℕ) → P whole (t ++ more) → Q whole more → R whole more) → Facing b P → Facing c Q → Facing c R
step false false P Q R t o k p q = λ whole more. k whole more (p whole (t ++ more)) (q whole more)
step false true P Q R t o k p q = k true [] (p true (t ++ [])) q
step true false P Q R t o k p q = let x : false ≡ true = (o refl).1 in cc
step true true P Q R t o k p q = k true [] (subst (P true) (sym (append-nil t) ∙ refl) (subst (P true) (sym (o refl).0) p)) q

last_step : (b c : Bool) (P Q R : Bool → List ℕ → Type 0) (t : List ℕ) → (b ≡ true → (t ≡ []) × (c ≡ true))
    → ((whole : Bool) (more : List ℕ) → P true (t ++ more) → Q true more → R whole more) → Facing b P → Facing c Q → Facing c R
last_step false false P Q R t o k p q = λ whole more. k whole more (p true (t ++ more)) (q true more)
last_step false true P Q R t o k p q = k true [] (p true (t ++ [])) q
last_step true false P Q R t o k p q = let x : false ≡ true = (o refl).1 in cc
last_step true true P Q R t o k p q = k true [] (subst (P true) (sym (append-nil t)) (subst (P true) (sym (o refl).0) p)) q

abbrev all_items : Bool → List ℕ → List Item
all_items whole bytes = items_from whole 1 places.First 1 (lines_from whole [] bytes)

on_event : (e : Event) (rest : List Item) → is_end (Line e) ≡ false → item_then (Ok e) (λ _. rest) ≡ Read e ∷ rest
on_event events.End rest h = cc
on_event _ rest h = refl

end_event : (e : Event) (rest : List Item) → is_end (Line e) ≡ true → item_then (Ok e) (λ _. rest) ≡ Read e ∷ []
end_event events.End rest h = refl
end_event _ rest h = cc

-- a line more
short_more : (lines : List (List ℕ)) (line : List ℕ) → list_all is_short lines ≡ true → length line ≤ 255 → list_all is_short (lines ++ line ∷ []) ≡ true
short_more lines line short few =
    let here : nat_le (length line) 255 ≡ true = grind (arith, nat_tests) in
    rw (list_all-append is_short lines (line ∷ []), short, here) refl

pub so_next : (es : List Item) (e : Event) (old new : Items) (left mid rest : Option (List ℕ)) → is_end (Line e) ≡ false
    → FoundSoFar es old left mid → Finds (Ok (Line e)) old new mid rest
    → FoundSoFar (es ++ Read e ∷ []) new left rest
so_next es e old new left mid rest g s f = record {
  read = s.read ++ f.read;
  consumed = Consumes-trans left mid rest s.read f.read s.consumed f.consumed;
  so_far = step old.lines.ended new.lines.ended (λ whole more. all_items whole (s.read ++ more) ≡ es ++ items_ahead whole old more)
      (λ whole more. items_ahead whole old (f.read ++ more) ≡ item_then (Ok e) (λ _. items_ahead whole new more))
      (λ whole more. all_items whole ((s.read ++ f.read) ++ more) ≡ (es ++ Read e ∷ []) ++ items_ahead whole new more) f.read f.over
      (λ whole more p q. ap (all_items whole) (append_assoc s.read f.read more) ∙ p
      ∙ ap (λ x. es ++ x) (q ∙ on_event e (items_ahead whole new more) g) ∙ sym (append_assoc es (Read e ∷ []) (items_ahead whole new more)))
      s.so_far f.found;
  lines = s.lines ++ new.lines.line.items ∷ [];
  lines_so = step old.lines.ended new.lines.ended (λ whole more. lines_from whole [] (s.read ++ more) ≡ s.lines ++ ahead whole old.lines more)
      (λ whole more. ahead whole old.lines (f.read ++ more) ≡ new.lines.line.items ∷ ahead whole new.lines more)
      (λ whole more. lines_from whole [] ((s.read ++ f.read) ++ more) ≡ (s.lines ++ new.lines.line.items ∷ []) ++ ahead whole new.lines more) f.read f.over
      (λ whole more p q. ap (lines_from whole []) (append_assoc s.read f.read more) ∙ p ∙ ap (λ x. s.lines ++ x) q
      ∙ sym (append_assoc s.lines (new.lines.line.items ∷ []) (ahead whole new.lines more)))
      s.lines_so f.line.0;
  short = short_more s.lines new.lines.line.items s.short f.line.1;
  number = length-append s.lines (new.lines.line.items ∷ []) ∙ ap (λ k. k + 1) s.number ∙ sym f.line.2;
  few = (let h = f.line.3 in let n = f.line.2 in omega (arith, length-append s.lines (new.lines.line.items ∷ []), s.number, h, n));
}

-- all of them
close : (b : Bool) (R : List ℕ → Type 0) (ys : List ℕ) → (b ≡ true → ys ≡ []) → Facing b (λ _ more. R more) → R ys
close false R ys o f = f true ys
close true R ys o f = subst R (sym (o refl)) f

closing : (tail es : List Item) (f : Found) (old new : Items) (left mid rest : Option (List ℕ)) (s : FoundSoFar es old left mid)
    (t : Finds (Ok f) old new mid rest)
    → Facing new.lines.ended (λ _ more. items_ahead true old (t.read ++ more) ≡ tail)
    → Facing new.lines.ended (λ _ more. all_items true ((s.read ++ t.read) ++ more) ≡ es ++ tail)
closing tail es f old new left mid rest s t q =
    last_step old.lines.ended new.lines.ended (λ whole more. all_items whole (s.read ++ more) ≡ es ++ items_ahead whole old more)
    (λ _ more. items_ahead true old (t.read ++ more) ≡ tail)
    (λ _ more. all_items true ((s.read ++ t.read) ++ more) ≡ es ++ tail) t.read t.over
    (λ whole more p q. ap (all_items true) (append_assoc s.read t.read more) ∙ p ∙ ap (λ x. es ++ x) q) s.so_far q

last_item : (e : Event) (old new : Items) (read : List ℕ) → is_end (Line e) ≡ true → FoundOf (Ok (Line e)) old new read
    → Facing new.lines.ended (λ _ more. items_ahead true old (read ++ more) ≡ Read e ∷ [])
last_item e old new read g q = facing_whole new.lines.ended (λ whole more. items_ahead whole old (read ++ more) ≡ item_then (Ok e)
    (λ _. items_ahead whole new more)) _
    (λ whole more p. p ∙ end_event e (items_ahead true new more) g) q

last_found : (f : Found) (old new : Items) (read : List ℕ) → is_last f ≡ true → FoundOf (Ok f) old new read
    → Facing new.lines.ended (λ _ more. items_ahead true old (read ++ more) ≡ last_items f)
last_found (Line events.End) old new read g q = last_item events.End old new read refl q
last_found (Line e) old new read g q = last_item e old new read g q
last_found (Bad r) old new read g q = q
last_found Beyond old new read g q = q
last_found End old new read g q = q.1

all_of : (f : Found) (es : List Item) (new : Items) (left rest : Option (List ℕ)) (read : List ℕ) → BetweenLines new.lines rest → Consumes left rest read
    → Facing new.lines.ended (λ _ more. all_items true (read ++ more) ≡ es ++ last_items f) → IfSome left (λ bytes. AllFound (Ok f) es bytes read)
unfolding events_of
all_of f es new None rest read r c q = tt
all_of f es new (Some bytes) None read r c q = absurd c
all_of f es new (Some bytes) (Some ys) read r c q =
    ap (all_items true) c ∙ close new.lines.ended (λ more. all_items true (read ++ more) ≡ es ++ last_items f) ys (λ e. (r.over e).1) q

end_read : (es : List Item) (read : List ℕ) → all_items false (read ++ []) ≡ es ++ Read events.End ∷ [] → Contains (whole_events_of read) (Read events.End)
unfolding whole_events_of
end_read es read e =
    subst (λ x. Contains x (Read events.End)) (sym e ∙ ap (all_items false) (append-nil read))
    (Contains-append_right es (Read events.End ∷ []) (Read events.End) (0, omega arith, refl))

by_end : (b : Bool) (es : List Item) (bytes read ys : List ℕ) → bytes ≡ read ++ ys → (b ≡ true → ys ≡ [])
    → Facing b (λ whole more. all_items whole (read ++ more) ≡ es ++ Read events.End ∷ [])
    → (read ≡ bytes) ⊎ Contains (whole_events_of read) (Read events.End)
by_end true es bytes read ys c o q = inl (sym (append-nil read) ∙ ap (λ x. read ++ x) (sym (o refl)) ∙ sym c)
by_end false es bytes read ys c o q = inr (end_read es read (q false []))

pub out_of : (f : Found) (es : List Item) (old new : Items) (left mid rest : Option (List ℕ)) → BetweenLines new.lines rest
    → FoundSoFar es old left mid → Finds (Ok f) old new mid rest → is_end f ≡ true
    → IfSome left (λ bytes. ReadOut bytes rest)
out_of f es old new None mid rest r s t g = tt
out_of f es old new (Some bytes) mid None r s t g = absurd (Consumes-trans (Some bytes) mid None s.read t.read s.consumed t.consumed)
out_of (Line events.End) es old new (Some bytes) mid (Some ys) r s t g =
    let c = Consumes-trans (Some bytes) mid (Some ys) s.read t.read s.consumed t.consumed in
    record {
      read = s.read ++ t.read;
      consumed = c;
      out = by_end new.lines.ended es bytes (s.read ++ t.read) ys c (λ e. (r.over e).1)
          (step old.lines.ended new.lines.ended (λ whole more. all_items whole (s.read ++ more) ≡ es ++ items_ahead whole old more)
          (λ whole more. items_ahead whole old (t.read ++ more) ≡ Read events.End ∷ [])
          (λ whole more. all_items whole ((s.read ++ t.read) ++ more) ≡ es ++ Read events.End ∷ []) t.read t.over
          (λ whole more p q. ap (all_items whole) (append_assoc s.read t.read more) ∙ p ∙ ap (λ x. es ++ x) q) s.so_far t.found);
    }
out_of End es old new (Some bytes) mid (Some ys) r s t g =
    let c = Consumes-trans (Some bytes) mid (Some ys) s.read t.read s.consumed t.consumed in
    record {
      read = s.read ++ t.read;
      consumed = c;
      out = inl
          (sym (append-nil (s.read ++ t.read)) ∙ ap (λ x. (s.read ++ t.read) ++ x) (sym (r.over t.found.0).1) ∙ sym c);
    }
out_of _ es old new (Some bytes) mid (Some ys) r s t g = cc

pub ended_by : (f : Found) (es : List Item) (old new : Items) (left mid rest : Option (List ℕ)) → is_last f ≡ true
    → BetweenLines new.lines rest → FoundSoFar es old left mid → Finds (Ok f) old new mid rest → Ended (Ok f) es left rest
ended_by f es old new left mid rest g r s t =
    let c = Consumes-trans left mid rest s.read t.read s.consumed t.consumed in
    record {
      read = s.read ++ t.read;
      consumed = c;
      all = all_of f es new left rest (s.read ++ t.read) r c (closing (last_items f) es f old new left mid rest s t (last_found f old new t.read g t.found));
      out = λ e. out_of f es old new left mid rest r s t e;
    }

-- the source failed
unended : (b whole : Bool) (P : Bool → List ℕ → Type 0) (t : List ℕ) → b ≡ false → Facing b P → P whole t
unended true whole P t e p = cc
unended false whole P t e p = p whole t

broken_of : (x : Failed) (es : List Item) (old new : Items) (left mid rest : Option (List ℕ)) (s : FoundSoFar es old left mid)
    (t : Finds (Err x) old new mid rest) → IfSome left (λ bytes. AllFound (Err x) es bytes (s.read ++ t.read))
unfolding whole_events_of
broken_of x es old new None mid rest s t = tt
broken_of x es old new (Some bytes) mid rest s t = (
  unended old.lines.ended false (λ whole more. all_items whole (s.read ++ more) ≡ es ++ items_ahead whole old more) t.read t.found.0 s.so_far
      ∙ ap (λ i. es ++ i) t.found.1 ∙ append-nil es,
  limits_by s.lines (ahead true old.lines t.read) (s.read ++ t.read)
      (unended old.lines.ended true (λ whole more. lines_from whole [] (s.read ++ more) ≡ s.lines ++ ahead whole old.lines more) t.read t.found.0 s.lines_so)
      s.short s.few (subst (λ n. Opened (ahead true old.lines t.read) (n + 1)) (sym s.number) t.found.2),
)

pub ended_broken : (x : Failed) (es : List Item) (old new : Items) (left mid rest : Option (List ℕ)) → FoundSoFar es old left mid
    → Finds (Err x) old new mid rest → Ended (Err x) es left rest
ended_broken x es old new left mid rest s t = record {
  read = s.read ++ t.read;
  consumed = Consumes-trans left mid rest s.read t.read s.consumed t.consumed;
  all = broken_of x es old new left mid rest s t;
  out = tt;
}

-- whatever was found, what comes after it is all that is left
last_behind : (f : Found) (es : List Item) (left : Option (List ℕ)) (read : List ℕ) → IfSome left (λ bytes. AllFound (Ok f) es bytes read)
    → IfSome left (λ bytes. Behind f es bytes)
last_behind f es None read a = tt
last_behind f es (Some bytes) read a = record { tail = []; all = a ∙ ap (λ x. es ++ x) (sym (append-nil (last_items f))); last = λ e. refl }

line_behind : (e : Event) (es : List Item) (new : Items) (left rest : Option (List ℕ)) → is_end (Line e) ≡ false
    → BetweenLines new.lines rest → FoundSoFar (es ++ Read e ∷ []) new left rest → IfSome left (λ bytes. Behind (Line e) es bytes)
unfolding events_of
line_behind e es new None rest g r s = tt
line_behind e es new (Some bytes) None g r s = absurd s.consumed
line_behind e es new (Some bytes) (Some ys) g r s = record {
  tail = items_ahead true new ys;
  all =
      ap (all_items true) s.consumed
      ∙ close new.lines.ended (λ more. all_items true (s.read ++ more) ≡ (es ++ Read e ∷ []) ++ items_ahead true new more) ys (λ x. (r.over x).1)
      (facing_whole new.lines.ended (λ whole more. all_items whole (s.read ++ more) ≡ (es ++ Read e ∷ []) ++ items_ahead whole new more) _
      (λ whole more p. p) s.so_far)
      ∙ append_assoc es (Read e ∷ []) (items_ahead true new ys);
  last = λ l. absurd (let k : false ≡ true = sym g ∙ l in cc);
}

pub behind_by : (f : Found) (es : List Item) (old new : Items) (left mid rest : Option (List ℕ)) → BetweenLines new.lines rest
    → FoundSoFar es old left mid → Finds (Ok f) old new mid rest → IfSome left (λ bytes. Behind f es bytes)
behind_by f es old new left mid rest r s t = elim (cases_Bool (is_last f)) [
  | inl l ↦ last_behind f es left (ended_by f es old new left mid rest l r s t).read (ended_by f es old new left mid rest l r s t).all
  | inr l ↦ by f l t
]
  where
    by : (x : Found) → is_last x ≡ false → Finds (Ok x) old new mid rest → IfSome left (λ bytes. Behind x es bytes)
    by (Line e) l t = line_behind e es new left rest l r (so_next es e old new left mid rest l s t)
    by _ l t = cc
