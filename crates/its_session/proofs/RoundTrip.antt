-- The line that is written for an event is read as that event.
use Rattle.std.proofs.Common.{◌≡◌, ◌<◌, ◌≤◌, ◌+◌, ◌-◌, ◌^◌, ap, ℕ, true, Option, Some, None, Ok, List, [], ◌∷◌, ◌++◌, length, map, refl, ◌∙◌, arith, codes, leb, lit≤, IfSome, All}
use Rattle.std.specs.List.{list_all}
use Rattle.std.proofs.lemmas.Bool.{le-leb}
use Rattle.std.proofs.lemmas.Bool.Decides.{nat_tests}
use Rattle.std.proofs.lemmas.List.{length-append, length-map}
use Rattle.its_word.specs.Text.{digits_of, octal6_of, octal12_of, is_code, is_octal, spaced, words_of}
use Rattle.its_records.specs.declared.session.Event.{Event}
use Rattle.its_records.specs.declared.session.Event.TheVariants as events
use Rattle.its_records.specs.declared.session.Place.TheVariants as places
use Rattle.its_word.proofs.DigitLaws.{digits_value}
use Rattle.its_records.specs.declared.session.Place.{Place}
use Rattle.its_records.specs.declared.state_line.StateLine.{StateLine}
use Rattle.its_records.specs.declared.state_line.StateLine.TheVariants as states
use Rattle.its_session.specs.StateFits.{StateFits, place_of_state_line}
use Rattle.its_session.specs.StateGrammar.{restores}
use Rattle.its_session.specs.StateWriting.{StateHasWords, text_of_state_line}
use Rattle.its_session.proofs.StateTrip.{ReadsBack, state_reads_back, system_says}
use Rattle.its_session.specs.declared.kind.Kind.TheVariants as kinds
use Rattle.its_session.specs.Grammar.{append_line, bare_line, clock_line, deposit_line, dir_line, drain_line, event_of_words, file_line, go_line, int_line, is_place, kind_of, line_event, load_line, show_line, last_slot, read_only_line, run_line, slot_line, span_line, of_span, symbol_line, tick_line, type_line, version_line, words_line}
use Rattle.its_session.specs.Fits.{EventFits, IsNameWord, place_of}
use Rattle.its_session.specs.Writing.{AreWords, HasWords, console_text, name_of, text_of_event}
use Rattle.its_word.proofs.WordsLaws.{IsRun}
use Rattle.its_session.proofs.LineLaws.{line_of_words}
use Rattle.its_session.proofs.FieldLaws.{address_reads, before_again, Below, below_each, below_more, bytes_ranged_again, console_run, console_short, digit_above, digit_below, digits_no_comment, number_no_dash, number_reads, number_runs, numbers_again, numbers_are_octal, place_again, place_run, room_of_numbers, room_of_words, values_again, word, word_reads, word_runs, words_are_octal}
use Rattle.its_session.proofs.NameLaws.{both, name_reads}
use Rattle.its_session.proofs.RowLaws.{bytes_consoles, bytes_formed, bytes_ranged, numbers_consoles, numbers_formed, numbers_ranged}

nothing_again : (place : Place) → line_event place 2 [] ≡ Ok events.Nothing
unfolding line_event words_of event_of_words
nothing_again place = refl

go_again : (a : ℕ) → a < 2 ^ 18 → line_event places.Load 2 (spaced (codes "GO") (octal6_of a ∷ [])) ≡ Ok (events.Go a)
unfolding event_of_words kind_of go_line
go_again a below =
    let read_a = address_reads a below in
    line_of_words places.Load 2 (codes "GO") (octal6_of a ∷ []) (word (codes "GO") refl refl) (read_a.run, tt) (omega (arith, read_a.short))
    ∙ rw (read_a.formed, read_a.value) (grind (arith, nat_tests))

version_again : (v : ℕ) → 1 ≤ v → v ≤ 2 → line_event places.First 2 (spaced (codes "VERSION") (digits_of v ∷ [])) ≡ Ok (events.Version v)
unfolding event_of_words kind_of version_line
version_again v some few =
    let read_v = number_reads v (omega arith) in
    line_of_words places.First 2 (codes "VERSION") (digits_of v ∷ []) (word (codes "VERSION") refl refl) (read_v.run, tt) (omega (arith, read_v.short))
    ∙ rw (read_v.formed, digits_value v) (grind (arith, nat_tests))

read_only_again : (p : ℕ) → p ≤ 255 → line_event places.Load 2 (spaced (codes "RO") (digits_of p ∷ [])) ≡ Ok (events.ReadOnly p)
unfolding event_of_words kind_of read_only_line
read_only_again p few =
    let read_p = number_reads p (omega arith) in
    line_of_words places.Load 2 (codes "RO") (digits_of p ∷ []) (word (codes "RO") refl refl) (read_p.run, tt) (omega (arith, read_p.short))
    ∙ rw (read_p.formed, digits_value p) (grind (arith, nat_tests))

symbol_again : (x a : ℕ) → IsNameWord x → a < 2 ^ 18 → line_event places.Load 2 (spaced (codes "SYM") (name_of x ∷ octal6_of a ∷ [])) ≡ Ok (events.Symbol x a)
unfolding event_of_words kind_of symbol_line
symbol_again x a named_x below =
    let read_x = name_reads x named_x in
    let read_a = address_reads a below in
    line_of_words places.Load 2 (codes "SYM") (name_of x ∷ octal6_of a ∷ []) (word (codes "SYM") refl refl) (read_x.run, (read_a.run, tt))
    (omega (arith, read_x.short, read_a.short))
    ∙ rw (read_x.formed, read_x.coded, read_a.formed, read_a.value) (grind (arith, nat_tests))

tick_again : (s n : ℕ) → s ≤ 95 → 1 ≤ n → n ≤ 512 → line_event places.Plain 2 (spaced (codes "TICK") (digits_of s ∷ digits_of n ∷ [])) ≡ Ok (events.Tick s n)
unfolding event_of_words kind_of tick_line last_slot
tick_again s n slot some few =
    let read_s = number_reads s (omega arith) in
    let read_n = number_reads n (omega arith) in
    line_of_words places.Plain 2 (codes "TICK") (digits_of s ∷ digits_of n ∷ []) (word (codes "TICK") refl refl)
    (read_s.run, (read_n.run, tt)) (omega (arith, read_s.short, read_n.short))
    ∙ rw (read_s.formed, read_n.formed, digits_value s, digits_value n) (grind (arith, nat_tests))

run_again : (n q : ℕ) → 1 ≤ n → n ≤ 512 → 1 ≤ q → q ≤ 64 → line_event places.Plain 2
    (spaced (codes "RUN") (digits_of n ∷ digits_of q ∷ [])) ≡ Ok (events.Run n q)
unfolding event_of_words kind_of run_line
run_again n q some few any short =
    let read_n = number_reads n (omega arith) in
    let read_q = number_reads q (omega arith) in
    line_of_words places.Plain 2 (codes "RUN") (digits_of n ∷ digits_of q ∷ []) (word (codes "RUN") refl refl)
    (read_n.run, (read_q.run, tt)) (omega (arith, read_n.short, read_q.short))
    ∙ rw (read_n.formed, read_q.formed, digits_value n, digits_value q) (grind (arith, nat_tests))

drain_again : (c n : ℕ) → c ≤ 7 → 1 ≤ n → n ≤ 64 → line_event places.Plain 2 (spaced (codes "DRAIN") (digits_of c ∷ digits_of n ∷ [])) ≡ Ok (events.Drain c n)
unfolding event_of_words kind_of drain_line
drain_again c n console some few =
    let read_c = number_reads c (omega arith) in
    let read_n = number_reads n (omega arith) in
    line_of_words places.Plain 2 (codes "DRAIN") (digits_of c ∷ digits_of n ∷ []) (word (codes "DRAIN") refl refl)
    (read_c.run, (read_n.run, tt)) (omega (arith, read_c.short, read_n.short))
    ∙ rw (read_c.formed, read_n.formed, digits_value c, digits_value n) (grind (arith, nat_tests))

clock_again : (n : ℕ) → n < 2 ^ 36 → line_event places.Plain 2 (spaced (codes "CLOCK") (digits_of n ∷ [])) ≡ Ok (events.Clock n)
unfolding event_of_words kind_of clock_line
clock_again n below =
    let read_n = number_reads n (omega arith) in
    line_of_words places.Plain 2 (codes "CLOCK") (digits_of n ∷ []) (word (codes "CLOCK") refl refl) (read_n.run, tt) (omega (arith, read_n.short))
    ∙ rw (read_n.formed, digits_value n) (grind (arith, nat_tests))

int_again : (s v w : ℕ) → s ≤ 95 → v < 2 ^ 36 → w < 2 ^ 36 → line_event places.Plain 2
    (spaced (codes "INT") (digits_of s ∷ octal12_of v ∷ octal12_of w ∷ [])) ≡ Ok (events.Int s v w)
unfolding event_of_words kind_of int_line last_slot
int_again s v w slot word_v word_w =
    let read_s = number_reads s (omega arith) in
    let read_v = word_reads v word_v in
    let read_w = word_reads w word_w in
    line_of_words places.Plain 2 (codes "INT") (digits_of s ∷ octal12_of v ∷ octal12_of w ∷ []) (word (codes "INT") refl refl)
    (read_s.run, (read_v.run, (read_w.run, tt))) (omega (arith, read_s.short, read_v.short, read_w.short))
    ∙ rw (read_s.formed, read_v.formed, read_w.formed, digits_value s, read_v.value, read_w.value) (grind (arith, nat_tests))

span_row : (s a n : ℕ) → s ≤ 95 → 1 ≤ n → n ≤ 8 → a + n ≤ 2 ^ 18 → span_line 2 (digits_of s ∷ octal6_of a ∷ digits_of n ∷ []) ≡ Ok (s, a, n)
unfolding span_line last_slot
span_row s a n slot some few within =
    let read_s = number_reads s (omega arith) in
    let read_a = address_reads a (omega arith) in
    let read_n = number_reads n (omega arith) in
    rw (read_s.formed, read_a.formed, read_n.formed, digits_value s, read_a.value, digits_value n) (grind (arith, nat_tests))

span_words : (first : List ℕ) (s a n : ℕ) → IsRun first → length first ≤ 16 → s ≤ 95 → n ≤ 8 → a < 2 ^ 18
    → line_event places.Plain 2 (spaced first (digits_of s ∷ octal6_of a ∷ digits_of n ∷ [])) ≡ event_of_words places.Plain 2
    (first ∷ digits_of s ∷ octal6_of a ∷ digits_of n ∷ [])
span_words first s a n run short slot few below =
    let read_s = number_reads s (omega arith) in
    let read_a = address_reads a below in
    let read_n = number_reads n (omega arith) in
    line_of_words places.Plain 2 first (digits_of s ∷ octal6_of a ∷ digits_of n ∷ []) run (read_s.run, (read_a.run, (read_n.run, tt)))
    (omega (arith, read_s.short, read_a.short, read_n.short))

exam_again : (s a n : ℕ) → s ≤ 95 → 1 ≤ n → n ≤ 8 → a + n ≤ 2 ^ 18
    → line_event places.Plain 2 (spaced (codes "EXAM") (digits_of s ∷ octal6_of a ∷ digits_of n ∷ [])) ≡ Ok (events.Exam s a n)
unfolding event_of_words kind_of
exam_again s a n slot some few within =
    span_words (codes "EXAM") s a n (word (codes "EXAM") refl refl) (lit≤ tt) slot few (omega arith)
    ∙ ap (of_span events.Exam) (span_row s a n slot some few within)

list_again : (s a n : ℕ) → s ≤ 95 → 1 ≤ n → n ≤ 8 → a + n ≤ 2 ^ 18
    → line_event places.Plain 2 (spaced (codes "LIST") (digits_of s ∷ octal6_of a ∷ digits_of n ∷ [])) ≡ Ok (events.List s a n)
unfolding event_of_words kind_of
list_again s a n slot some few within =
    span_words (codes "LIST") s a n (word (codes "LIST") refl refl) (lit≤ tt) slot few (omega arith)
    ∙ ap (of_span events.List) (span_row s a n slot some few within)

deposit_again : (s a w : ℕ) → s ≤ 95 → a < 2 ^ 18 → w < 2 ^ 36
    → line_event places.Plain 2 (spaced (codes "DEPOSIT") (digits_of s ∷ octal6_of a ∷ octal12_of w ∷ [])) ≡ Ok (events.Deposit s a w)
unfolding event_of_words kind_of deposit_line last_slot
deposit_again s a w slot below word_w =
    let read_s = number_reads s (omega arith) in
    let read_a = address_reads a below in
    let read_w = word_reads w word_w in
    line_of_words places.Plain 2 (codes "DEPOSIT") (digits_of s ∷ octal6_of a ∷ octal12_of w ∷ []) (word (codes "DEPOSIT") refl refl)
    (read_s.run, (read_a.run, (read_w.run, tt))) (omega (arith, read_s.short, read_a.short, read_w.short))
    ∙ rw (read_s.formed, read_a.formed, read_w.formed, digits_value s, read_a.value, read_w.value) (grind (arith, nat_tests))

state_again : (s : ℕ) → s ≤ 95 → line_event places.Plain 2 (spaced (codes "STATE") (digits_of s ∷ [])) ≡ Ok (events.State s)
unfolding event_of_words kind_of slot_line last_slot
state_again s slot =
    let read_s = number_reads s (omega arith) in
    line_of_words places.Plain 2 (codes "STATE") (digits_of s ∷ []) (word (codes "STATE") refl refl) (read_s.run, tt) (omega (arith, read_s.short))
    ∙ rw (read_s.formed, digits_value s) (grind (arith, nat_tests))

stop_again : (s : ℕ) → s ≤ 95 → line_event places.Plain 2 (spaced (codes "STOP") (digits_of s ∷ [])) ≡ Ok (events.Stop s)
unfolding event_of_words kind_of slot_line last_slot
stop_again s slot =
    let read_s = number_reads s (omega arith) in
    line_of_words places.Plain 2 (codes "STOP") (digits_of s ∷ []) (word (codes "STOP") refl refl) (read_s.run, tt) (omega (arith, read_s.short))
    ∙ rw (read_s.formed, digits_value s) (grind (arith, nat_tests))

cont_again : (s : ℕ) → s ≤ 95 → line_event places.Plain 2 (spaced (codes "CONT") (digits_of s ∷ [])) ≡ Ok (events.Cont s)
unfolding event_of_words kind_of slot_line last_slot
cont_again s slot =
    let read_s = number_reads s (omega arith) in
    line_of_words places.Plain 2 (codes "CONT") (digits_of s ∷ []) (word (codes "CONT") refl refl) (read_s.run, tt) (omega (arith, read_s.short))
    ∙ rw (read_s.formed, digits_value s) (grind (arith, nat_tests))

peek_again : (s : ℕ) → s ≤ 95 → line_event places.Plain 2 (spaced (codes "PEEK") (digits_of s ∷ [])) ≡ Ok (events.Peek s)
unfolding event_of_words kind_of slot_line last_slot
peek_again s slot =
    let read_s = number_reads s (omega arith) in
    line_of_words places.Plain 2 (codes "PEEK") (digits_of s ∷ []) (word (codes "PEEK") refl refl) (read_s.run, tt) (omega (arith, read_s.short))
    ∙ rw (read_s.formed, digits_value s) (grind (arith, nat_tests))

file_again : (d x y : ℕ) → IsNameWord d → IsNameWord x → IsNameWord y
    → line_event places.Plain 2 (spaced (codes "FILE") (name_of d ∷ name_of x ∷ name_of y ∷ [])) ≡ Ok (events.File d x y)
unfolding event_of_words kind_of file_line
file_again d x y named_d named_x named_y =
    let read_d = name_reads d named_d in
    let read_x = name_reads x named_x in
    let read_y = name_reads y named_y in
    line_of_words places.Plain 2 (codes "FILE") (name_of d ∷ name_of x ∷ name_of y ∷ []) (word (codes "FILE") refl refl)
    (read_d.run, (read_x.run, (read_y.run, tt))) (omega (arith, read_d.short, read_x.short, read_y.short))
    ∙ rw (read_d.formed, read_x.formed, read_y.formed, read_d.coded, read_x.coded, read_y.coded) refl

dir_again : (d : ℕ) → IsNameWord d → line_event places.Plain 2 (spaced (codes "DIR") (name_of d ∷ [])) ≡ Ok (events.Dir d)
unfolding event_of_words kind_of dir_line
dir_again d named_d =
    let read_d = name_reads d named_d in
    line_of_words places.Plain 2 (codes "DIR") (name_of d ∷ []) (word (codes "DIR") refl refl) (read_d.run, tt) (omega (arith, read_d.short))
    ∙ rw (read_d.formed, read_d.coded) refl

show_again : (d x y : ℕ) → IsNameWord d → IsNameWord x → IsNameWord y
    → line_event places.Plain 2 (spaced (codes "SHOW") (name_of d ∷ name_of x ∷ name_of y ∷ [])) ≡ Ok (events.Show d x y)
unfolding event_of_words kind_of show_line
show_again d x y named_d named_x named_y =
    let read_d = name_reads d named_d in
    let read_x = name_reads x named_x in
    let read_y = name_reads y named_y in
    line_of_words places.Plain 2 (codes "SHOW") (name_of d ∷ name_of x ∷ name_of y ∷ []) (word (codes "SHOW") refl refl)
    (read_d.run, (read_x.run, (read_y.run, tt))) (omega (arith, read_d.short, read_x.short, read_y.short))
    ∙ rw (read_d.formed, read_x.formed, read_y.formed, read_d.coded, read_x.coded, read_y.coded) refl

-- the two forms of a console
none_row : (u j : ℕ) → IsNameWord u → IsNameWord j → load_line (name_of u ∷ name_of j ∷ codes "-" ∷ []) ≡ Ok (events.Load u j None)
unfolding load_line
none_row u j named_u named_j =
    let read_u = name_reads u named_u in
    let read_j = name_reads j named_j in
    rw (read_u.formed, read_j.formed, read_u.coded, read_j.coded) refl

some_row : (u j c : ℕ) → IsNameWord u → IsNameWord j → c ≤ 7 → load_line (name_of u ∷ name_of j ∷ digits_of c ∷ []) ≡ Ok (events.Load u j (Some c))
unfolding load_line
some_row u j c named_u named_j few =
    let read_u = name_reads u named_u in
    let read_j = name_reads j named_j in
    let read_c = number_reads c (omega arith) in
    rw (read_u.formed, read_j.formed, read_u.coded, read_j.coded, number_no_dash c, read_c.formed, digits_value c) (grind (arith, nat_tests))

load_row : (u j : ℕ) (o : Option ℕ) → IsNameWord u → IsNameWord j → IfSome o (λ c. c ≤ 7)
    → load_line (name_of u ∷ name_of j ∷ console_text o ∷ []) ≡ Ok (events.Load u j o)
load_row u j None named_u named_j h = none_row u j named_u named_j
load_row u j (Some c) named_u named_j h = some_row u j c named_u named_j h

load_again : (u j : ℕ) (o : Option ℕ) → IsNameWord u → IsNameWord j → IfSome o (λ c. c ≤ 7)
    → line_event places.Plain 2 (spaced (codes "LOAD") (name_of u ∷ name_of j ∷ console_text o ∷ [])) ≡ Ok (events.Load u j o)
unfolding event_of_words kind_of
load_again u j o named_u named_j h =
    let read_u = name_reads u named_u in
    let read_j = name_reads j named_j in
    line_of_words places.Plain 2 (codes "LOAD") (name_of u ∷ name_of j ∷ console_text o ∷ []) (word (codes "LOAD") refl refl)
    (read_u.run, (read_j.run, (console_run o h, tt))) (omega (arith, read_u.short, read_j.short, console_short o h))
    ∙ load_row u j o named_u named_j h

digits_kind : (ds : List ℕ) → 1 ≤ length ds → list_all (is_code 48 55) ds ≡ true → is_octal ds ≡ true → kind_of (ds ++ 47 ∷ []) ≡ Some kinds.Words
unfolding kind_of
digits_kind [] some h octal = absurd (omega arith)
digits_kind (d ∷ ds) some h octal =
    let digit = (both (is_code 48 55 d) (list_all (is_code 48 55) ds) h).0 in
    let place : is_place ((d ∷ ds) ++ 47 ∷ []) ≡ true = place_again (d ∷ ds) octal in
    rw (
      digit_above 86 d digit (lit≤ tt),
      digit_above 76 d digit (lit≤ tt),
      digit_above 82 d digit (lit≤ tt),
      digit_above 83 d digit (lit≤ tt),
      digit_above 71 d digit (lit≤ tt),
      digit_above 70 d digit (lit≤ tt),
      digit_below 47 d digit (lit≤ tt),
      digit_above 69 d digit (lit≤ tt),
      digit_above 84 d digit (lit≤ tt),
      digit_above 68 d digit (lit≤ tt),
      digit_above 67 d digit (lit≤ tt),
      digit_above 73 d digit (lit≤ tt),
      digit_above 80 d digit (lit≤ tt),
      place,
    ) refl

words_row : (a : ℕ) (ws : List ℕ) → 1 ≤ length ws → length ws ≤ 16 → a + length ws ≤ 2 ^ 18 → Below (2 ^ 36) ws
    → words_line (octal6_of a) (map octal12_of ws) ≡ Ok (events.Words a (record { items = ws }))
unfolding words_line
words_row a ws some few within below =
    let read_a = address_reads a (omega arith) in
    rw (
      length-map ws octal12_of,
      le-leb 1 (length ws) some,
      le-leb (length ws) 16 few,
      read_a.formed,
      numbers_formed (map octal12_of ws),
      words_are_octal ws below,
      read_a.value,
      le-leb a (2 ^ 18 - length ws) (omega arith),
      numbers_ranged (map octal12_of ws),
      numbers_consoles (map octal12_of ws),
      values_again ws below,
    ) refl

words_again : (a : ℕ) (ws : List ℕ) → 1 ≤ length ws → length ws ≤ 16 → a + length ws ≤ 2 ^ 18 → AreWords ws
    → line_event places.Load 2 (spaced (octal6_of a ++ codes "/") (map octal12_of ws)) ≡ Ok (events.Words a (record { items = ws }))
unfolding event_of_words
words_again a ws some few within are =
    let read_a = address_reads a (omega arith) in
    let below = below_each (2 ^ 36) ws are in
    line_of_words places.Load 2 (octal6_of a ++ codes "/") (map octal12_of ws) (place_run (octal6_of a) read_a.run) (word_runs ws below)
    (omega (arith, read_a.short, length-append (octal6_of a) (47 ∷ []), room_of_words ws))
    ∙ rw (
      digits_no_comment (octal6_of a) read_a.run.some read_a.codes,
      digits_kind (octal6_of a) read_a.run.some read_a.codes read_a.formed,
      before_again (octal6_of a),
    ) (words_row a ws some few within below)

append_row : (ws : List ℕ) → 1 ≤ length ws → length ws ≤ 16 → Below (2 ^ 36) ws → append_line (map octal12_of ws) ≡ Ok (events.Append (record { items = ws }))
unfolding append_line
append_row ws some few below =
    rw (
      length-map ws octal12_of,
      le-leb 1 (length ws) some,
      le-leb (length ws) 16 few,
      numbers_formed (map octal12_of ws),
      words_are_octal ws below,
      numbers_ranged (map octal12_of ws),
      numbers_consoles (map octal12_of ws),
      values_again ws below,
    ) refl

append_again : (ws : List ℕ) → 1 ≤ length ws → length ws ≤ 16 → AreWords ws
    → line_event places.File 2 (spaced (codes "/") (map octal12_of ws)) ≡ Ok (events.Append (record { items = ws }))
unfolding event_of_words kind_of
append_again ws some few are =
    let below = below_each (2 ^ 36) ws are in
    line_of_words places.File 2 (codes "/") (map octal12_of ws) (word (codes "/") refl refl) (word_runs ws below) (omega (arith, room_of_words ws))
    ∙ append_row ws some few below

type_row : (c : ℕ) (bs : List ℕ) → c ≤ 7 → 1 ≤ length bs → length bs ≤ 32 → Below 128 bs
    → type_line (digits_of c ∷ map digits_of bs) ≡ Ok (events.TypeIn c (record { items = bs }))
unfolding type_line
type_row c bs console some few below =
    let read_c = number_reads c (omega arith) in
    rw (
      length-map bs digits_of,
      le-leb 1 (length bs) some,
      le-leb (length bs) 32 few,
      read_c.formed,
      bytes_formed (map digits_of bs),
      numbers_are_octal bs (below_more 128 (2 ^ 36) bs (lit≤ tt) below),
      bytes_ranged (map digits_of bs),
      bytes_ranged_again bs below,
      digits_value c,
      le-leb c 7 console,
      bytes_consoles (map digits_of bs),
      numbers_again bs,
    ) refl

type_again : (c : ℕ) (bs : List ℕ) → c ≤ 7 → 1 ≤ length bs → length bs ≤ 32 → All (λ b. b ≤ 127) bs
    → line_event places.Plain 2 (spaced (codes "TYPE") (digits_of c ∷ map digits_of bs)) ≡ Ok (events.TypeIn c (record { items = bs }))
unfolding event_of_words kind_of
type_again c bs console some few small =
    let below = below_each 128 bs (λ k at. omega (arith, small k 0 at)) in
    let read_c = number_reads c (omega arith) in
    line_of_words places.Plain 2 (codes "TYPE") (digits_of c ∷ map digits_of bs) (word (codes "TYPE") refl refl)
    (read_c.run, number_runs bs (below_more 128 (2 ^ 36) bs (lit≤ tt) below))
    (omega (arith, read_c.short, room_of_numbers 3 bs (lit≤ tt) (below_more 128 (8 ^ 3) bs (lit≤ tt) below)))
    ∙ type_row c bs console some few below

end_file_again : line_event places.File 2 (codes "EOF") ≡ Ok events.EndFile
unfolding event_of_words kind_of bare_line spaced
end_file_again = line_of_words places.File 2 (codes "EOF") [] (word (codes "EOF") refl refl) tt (lit≤ tt)

end_again : line_event places.Plain 2 (codes "END") ≡ Ok events.End
unfolding event_of_words kind_of bare_line spaced
end_again = line_of_words places.Plain 2 (codes "END") [] (word (codes "END") refl refl) tt (lit≤ tt)

-- SYSTEM is in the first line of a session, which is of version 1 so far
pub system_again : (u v : ℕ) → leb 1 u ≡ true → 1 ≤ v → v ≤ 2
    → line_event places.First u (spaced (codes "SYSTEM") (digits_of v ∷ [])) ≡ Ok (events.Restore (states.System v))
unfolding event_of_words kind_of
system_again u v first some few =
    let read_v = number_reads v (omega arith) in
    line_of_words places.First u (codes "SYSTEM") (digits_of v ∷ []) (word (codes "SYSTEM") refl refl) (read_v.run, tt) (omega (arith, read_v.short))
    ∙ rw first (ap restores (system_says v some few))

pub restored_at : (place : Place) (v : ℕ) (line : StateLine) → place ≡ places.System → ReadsBack v line
    → line_event place v (text_of_state_line line) ≡ Ok (events.Restore line)
unfolding event_of_words
restored_at place v line at b =
    ap (λ p. line_event p v (text_of_state_line line)) at ∙ ap (line_event places.System v) b.text
    ∙ line_of_words places.System v b.first b.words b.run b.runs b.short ∙ rw b.no_comment (ap restores b.read)

restored_again : (line : StateLine) → StateFits 2 line → StateHasWords line
    → line_event (place_of_state_line line) 2 (text_of_state_line line) ≡ Ok (events.Restore line)
restored_again (states.System v) f h = system_again 2 v refl f.0 f.1
restored_again line f h = restored_at (place_of_state_line line) 2 line refl (state_reads_back 2 line refl f h)

pub reads_back : (e : Event) → EventFits 2 e → HasWords e → line_event (place_of e) 2 (text_of_event e) ≡ Ok e
unfolding last_slot
reads_back events.Nothing f h = nothing_again places.Plain
reads_back (events.Version v) f h = version_again v f.0 f.1
reads_back (events.Load u j c) f h = load_again u j c f.0 f.1 f.2
reads_back (events.Words a ws) f h = words_again a ws.items f.0 f.1 f.2 h
reads_back (events.ReadOnly p) f h = read_only_again p f
reads_back (events.Symbol x a) f h = symbol_again x a f.0 f.1
reads_back (events.Go a) f h = go_again a f
reads_back (events.File d x y) f h = file_again d x y f.0 f.1 f.2
reads_back (events.Append ws) f h = append_again ws.items f.0 f.1 h
reads_back events.EndFile f h = end_file_again
reads_back (events.Tick s n) f h = tick_again s n f.0 f.1 f.2
reads_back (events.Run n q) f h = run_again n q f.0 f.1 f.2 f.3
reads_back (events.TypeIn c bs) f h = type_again c bs.items f.0 f.1 f.2 f.3
reads_back (events.Drain c n) f h = drain_again c n f.0 f.1 f.2
reads_back (events.Clock n) f h = clock_again n f
reads_back (events.Int s v w) f h = int_again s v w f h.0 h.1
reads_back (events.Exam s a n) f h = exam_again s a n f.0 f.1 f.2 f.3
reads_back (events.List s a n) f h = list_again s a n f.0 f.1 f.2 f.3
reads_back (events.State s) f h = state_again s f
reads_back (events.Deposit s a w) f h = deposit_again s a w f.0 f.1 h
reads_back (events.Stop s) f h = stop_again s f
reads_back (events.Cont s) f h = cont_again s f
reads_back (events.Peek s) f h = peek_again s f
reads_back (events.Dir d) f h = dir_again d f
reads_back (events.Show d x y) f h = show_again d x y f.0 f.1 f.2
reads_back (events.Restore line) f h = restored_again line f h
reads_back events.End f h = end_again

-- the empty line of the event of nothing is read so anywhere
pub reads_anywhere : (e : Event) (place : Place) → e ≡ events.Nothing → line_event place 2 (text_of_event e) ≡ Ok e
reads_anywhere e place is = rw is (nothing_again place)
