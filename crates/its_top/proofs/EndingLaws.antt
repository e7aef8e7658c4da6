-- The events of a session are those of its lines up to its END line.
use Rattle.std.proofs.Common.{◌≡◌, ◌+◌, ◌==◌, ℕ, true, Result, Ok, Err, List, [], ◌∷◌, ◌++◌, length, map, leb, ltb, refl, sym, ap, subst, ◌∙◌, inl, inr, append_assoc, append-nil}
use Rattle.std.specs.Prelude.{codes}
use Rattle.std.specs.List.{concat, list_all}
use Rattle.std.proofs.lemmas.Bool.{cases_Bool}
use Rattle.std.proofs.lemmas.Slice.Eq.{bytes_eq-Decides}
use Rattle.its_records.specs.Item.{Item, Read}
use Rattle.its_word.specs.Text.{is_code, is_octal, words_of}
use Rattle.its_records.specs.declared.session.Bad.{Bad}
use Rattle.its_records.specs.declared.session.Event.{Event}
use Rattle.its_records.specs.declared.session.Event.TheVariants as events
use Rattle.its_records.specs.declared.session.Place.{Place}
use Rattle.its_records.specs.declared.session.Place.TheVariants as places
use Rattle.its_session.specs.Events.{events_of, item_then, items_from, lines_from, most_lines, place_after, version_after}
use Rattle.its_session.specs.Grammar.{bare_line, event_of_words, kind_of, line_event, line_of_first, may_stand}
use Rattle.its_session.specs.StateGrammar.{state_kind_of}
use Rattle.its_session.specs.declared.kind.Kind.TheVariants as kinds
use Rattle.its_reader.specs.TextLines.{before_lf, in_front, lines_in}
use Rattle.its_verify.specs.Lines.{is_last, is_whole}
use Rattle.its_verify.specs.Verified.{Both, LongLine, NoEnd, TooMany, is_end_line, is_only, most_session_bytes, parts_from}
use Rattle.its_verify.proofs.LinesLaws.{AllWhole, concat_lines}
use Rattle.its_verify.proofs.PartsLaws.{IsSession}
use Rattle.its_top.specs.Promise.{EndsSession}

-- a line that ends a session, or is refused
abbrev Stops : Result Event Bad → Type 0
Stops (Ok events.End) = Unit {0}
Stops (Ok e) = ⊥
Stops (Err bad) = Unit {0}

stops_then : (r : Result Event Bad) (f g : Event → List Item) → Stops r → item_then r f ≡ item_then r g
stops_then (Ok events.End) f g h = refl
stops_then (Ok e) f g h = absurd h
stops_then (Err bad) f g h = refl

same_then : (r : Result Event Bad) (f g : Event → List Item) → ((e : Event) → f e ≡ g e) → item_then r f ≡ item_then r g
same_then (Ok events.End) f g h = refl
same_then (Ok e) f g h = ap (λ es. Read e ∷ es) (h e)
same_then (Err bad) f g h = refl

end_stands : (place : Place) (v : ℕ) → Stops (line_of_first place v (kind_of (codes "END")) (codes "END") [])
unfolding kind_of bare_line
end_stands place v = elim (cases_Bool (may_stand place v kinds.End)) [ inl may ↦ rw may tt | inr not ↦ rw not tt ]

-- in the state part, as at other places
end_words : (place : Place) (v : ℕ) → Stops (event_of_words place v (codes "END" ∷ []))
unfolding event_of_words kind_of state_kind_of is_octal
end_words places.System v = tt
end_words places.First v = end_stands places.First v
end_words places.Plain v = end_stands places.Plain v
end_words places.Load v = end_stands places.Load v
end_words places.File v = end_stands places.File v

only_word : (word : List ℕ) (ws : List (List ℕ)) → is_only word ws ≡ true → ws ≡ word ∷ []
only_word word [] h = cc
only_word word (w ∷ []) h = ap (λ x. x ∷ []) ((bytes_eq-Decides w word).0 h)
only_word word (w ∷ (u ∷ us)) h = cc

end_event : (place : Place) (v : ℕ) (line : List ℕ) → is_end_line line ≡ true → Stops (line_event place v (before_lf line))
unfolding line_event is_end_line
end_event place v line h =
    let words : words_of (before_lf line) ≡ codes "END" ∷ [] = only_word (codes "END") (words_of (before_lf line)) h in
    elim (cases_Bool (leb (length (before_lf line)) 255)) [
      | inl short ↦
          elim (cases_Bool (list_all (is_code 32 126) (before_lf line))) [
            | inl printable ↦ rw (short, printable, words) (end_words place v)
            | inr other ↦ rw (short, other) tt
          ]
      | inr longer ↦ rw longer tt
    ]

-- lines after that of END change no item
ends_items : (n : ℕ) (session : List ℕ) (lines : List (List ℕ)) (s : List ℕ) (count : ℕ) → parts_from n session lines ≡ Both s count []
    → (place : Place) (v : ℕ) (more : List (List ℕ))
    → items_from true n place v (map before_lf lines ++ more) ≡ items_from true n place v (map before_lf lines)
ends_items n session [] s count is place v more = absurd (let none : NoEnd n ≡ Both s count [] = is in cc)
ends_items n session (line ∷ lines) s count is place v more =
    elim (cases_Bool (ltb most_lines n)) [
      | inl past ↦ absurd (let none : TooMany ≡ Both s count [] = rw past at is in cc)
      | inr few ↦
          elim (cases_Bool (ltb most_session_bytes (length (before_lf line)))) [
            | inl longer ↦ absurd (let none : LongLine n ≡ Both s count [] = rw (few, longer) at is in cc)
            | inr short ↦
                elim (cases_Bool (is_end_line line)) [
                  | inl last ↦ rw few (stops_then (line_event place v (before_lf line)) _ _ (end_event place v line last))
                  | inr other ↦
                      (let behind : parts_from (n + 1) (session ++ line) lines ≡ Both s count [] = rw (few, short, other) at is in
                      rw few
                      (same_then (line_event place v (before_lf line)) _ _
                      (λ e. ends_items (n + 1) (session ++ line) lines s count behind (place_after place e) (version_after v e) more)))
                ]
          ]
    ]

-- lines with their LF, without it
behind_lf : (kept bs rest : List ℕ) → is_last bs ≡ true → kept ∷ lines_from true [] (bs ++ rest) ≡ (kept ++ []) ∷ lines_from true [] rest
behind_lf kept [] rest h = ap (λ (k : List ℕ). k ∷ lines_from true [] rest) (sym (append-nil kept))
behind_lf kept (b ∷ bs) rest h = cc

front_line : (kept text rest : List ℕ) → is_whole text ≡ true → lines_from true kept (text ++ rest) ≡ (kept ++ before_lf text) ∷ lines_from true [] rest
front_line kept [] rest h = cc
front_line kept (b ∷ bs) rest h =
    elim (cases_Bool (b == 10)) [
      | inl lf ↦ (let last : is_last bs ≡ true = rw lf at h in rw lf (behind_lf kept bs rest last))
      | inr other ↦
          (let here : is_whole bs ≡ true = rw other at h in
          rw other (front_line (kept ++ b ∷ []) bs rest here ∙ ap (λ (k : List ℕ). k ∷ lines_from true [] rest) (append_assoc kept (b ∷ []) (before_lf bs))))
    ]

front_lines : (texts : List (List ℕ)) (rest : List ℕ) → AllWhole texts
    → lines_from true [] (concat texts ++ rest) ≡ map before_lf texts ++ lines_from true [] rest
front_lines [] rest h = refl
front_lines (t ∷ ts) rest h = rw (append_assoc t (concat ts) rest)
    (front_line [] t (concat ts ++ rest) h.0 ∙ ap (λ x. before_lf t ∷ x) (front_lines ts rest h.1))

-- all lines of bytes that end with LF have theirs
abbrev SomeWhole : List (List ℕ) → Type 0
SomeWhole [] = ⊥
SomeWhole (line ∷ lines) = AllWhole (line ∷ lines)

whole_front : (b : ℕ) (lines : List (List ℕ)) → SomeWhole lines → SomeWhole (in_front b lines)
whole_front b [] h = absurd h
whole_front b (line ∷ lines) h =
    elim (cases_Bool (b == 10)) [
      | inl lf ↦ rw lf (rw lf refl, h)
      | inr other ↦ rw other (rw other h.0, h.1)
    ]

whole_lines : (xs : List ℕ) → SomeWhole (lines_in (xs ++ 10 ∷ []))
unfolding lines_in
whole_lines [] = (refl, tt)
whole_lines (x ∷ xs) = whole_front x (lines_in (xs ++ 10 ∷ [])) (whole_lines xs)

all_whole : (lines : List (List ℕ)) → SomeWhole lines → AllWhole lines
all_whole [] h = absurd h
all_whole (line ∷ lines) h = h

pub session_whole : (session : List ℕ) (count : ℕ) → EndsSession session count → AllWhole (lines_in session)
session_whole session count s = all_whole (lines_in session) (subst (λ (xs : List ℕ). SomeWhole (lines_in xs)) (sym s.last) (whole_lines s.before))

pub is_session : (session : List ℕ) (count : ℕ) → EndsSession session count → IsSession session count
is_session session count s = record { ends = s.parts; whole = session_whole session count s }

-- the events of a session, and of bytes after it
front_events : (session rest : List ℕ) (count : ℕ) → EndsSession session count
    → events_of (session ++ rest) ≡ items_from true 1 places.First 1 (map before_lf (lines_in session))
unfolding events_of
front_events session rest count s =
    let texts = lines_in session in
    let lines : lines_from true [] (session ++ rest) ≡ map before_lf texts ++ lines_from true [] rest =
    ap (λ xs. lines_from true [] (xs ++ rest)) (sym (concat_lines session)) ∙ front_lines texts rest (session_whole session count s) in
    ap (λ ls. items_from true 1 places.First 1 ls) lines ∙ ends_items 1 [] texts session count s.parts places.First 1 (lines_from true [] rest)

pub same_events : (session rest : List ℕ) (count : ℕ) → EndsSession session count → events_of (session ++ rest) ≡ events_of session
same_events session rest count s = front_events session rest count s ∙ sym (front_events session [] count s) ∙ ap events_of (append-nil session)
