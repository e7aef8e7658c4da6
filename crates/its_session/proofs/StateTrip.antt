-- The line that is written for a line of the state part is read as that line.
use Rattle.std.proofs.Common.{◌≡◌, ◌<◌, ◌≤◌, ◌+◌, ◌-◌, ◌^◌, ap, sym, ℕ, Bool, true, false, Option, Some, None, Result, Ok, Err, List, [], ◌∷◌, ◌++◌, length, map, refl, ◌∙◌, arith, codes, lit≤, IfSome}
use Rattle.std.specs.List.{list_all}
use Rattle.std.proofs.lemmas.Bool.{le-leb}
use Rattle.std.proofs.lemmas.List.{length-append, length-map}
use Rattle.its_word.specs.Text.{digits_of, octal6_of, octal12_of, is_code, is_octal, octal_value, spaced, words_of}
use Rattle.its_word.proofs.SpacedLaws.{room_of, spaced_none}
use Rattle.its_word.proofs.WordsLaws.{IsRun}
use Rattle.its_records.specs.declared.session.Bad.{Bad}
use Rattle.its_records.specs.declared.session.Bad.TheVariants.{Syntax}
use Rattle.its_records.specs.declared.session.Place.TheVariants as places
use Rattle.its_records.specs.declared.state_line.Registers.{Registers}
use Rattle.its_records.specs.declared.state_line.StateLine.{StateLine}
use Rattle.its_records.specs.declared.state_line.StateLine.TheVariants as states
use Rattle.its_session.specs.declared.state_kind.StateKind.TheVariants as kinds
use Rattle.its_session.specs.Fields.{Field, address, channel, console, console_given, console_or_dash, count_to, flag, is_dash, is_place, is_run, is_set, last_slot, link, number, number_to, page, position, run_or_stop, slot, tag, with_count, word_of_tag}
use Rattle.its_session.specs.Grammar.{is_comment}
use Rattle.its_session.specs.Names.{console_text}
use Rattle.its_session.specs.StateFits.{AreFew, BytesFit, StateFits, place_of_state_line}
use Rattle.its_session.specs.StateGrammar.{alarm_row, bytes_row, clock_row, core_words_row, disk_row, draft_row, end_shut_row, file_row, file_words_row, hold_row, input_line, job_row, join_row, of_bytes, output_line, read_only_row, ready_row, regs_row, sent_row, state_kind_of, state_line_of_first, symbol_row, system_row, tty_row, turn_row, under_row, usr_row, wrote_row}
use Rattle.its_session.specs.StateWriting.{AreWords, RegistersAreWords, StateHasWords, flag_text, registers_text, run_text, tag_of, text_of_state_line}
use Rattle.its_session.proofs.FieldLaws.{Below, address_reads, before_again, below_each, below_more, digit_above, digit_below, digits_no_comment, number_no_dash, number_reads, number_runs, numbers_again, place_again, place_run, room_of_numbers, room_of_words, values_again, word, word_reads, word_runs}
use Rattle.its_session.proofs.LineLaws.{AllRuns, words_spaced}
use Rattle.its_session.proofs.MetLaws.{AllMet, Met, of_count, slot_small, with_met}
use Rattle.its_session.proofs.NameLaws.{both}
use Rattle.its_session.proofs.TagLaws.{tag_reads}

-- what is written of a line are words that are read as the line
pub record ReadsBack (v : ℕ) (line : StateLine) : Type 0 where
  pub first : List ℕ
  pub words : List (List ℕ)
  pub text : text_of_state_line line ≡ spaced first words
  pub run : IsRun first
  pub runs : AllRuns words
  pub short : length first + room_of words ≤ 255
  pub no_comment : is_comment first ≡ false
  pub read : state_line_of_first v (state_kind_of first) first words ≡ Ok line

-- what a word says in a field: the field is met, and has this value
record Says {A : Type 0} (field : List ℕ → Field) (value_of : List ℕ → A) (w : List ℕ) (a : A) : Type 0 where
  pub met : Met (field w)
  pub value : value_of w ≡ a
  pub run : IsRun w
  pub short : length w ≤ 12

-- numbers
word_says : (w : ℕ) → w < 2 ^ 36 → Says number octal_value (octal12_of w) w
word_says w below =
    let r = word_reads w below in
    record { met = record { formed = r.formed; ranged = refl; console = refl }; value = r.value; run = r.run; short = r.short }

number_says : (n : ℕ) → n < 2 ^ 36 → Says number octal_value (digits_of n) n
number_says n below =
    let r = number_reads n below in
    record { met = record { formed = r.formed; ranged = refl; console = refl }; value = r.value; run = r.run; short = r.short }

most_says : (most n : ℕ) → n ≤ most → most < 2 ^ 36 → Says (number_to most) octal_value (digits_of n) n
most_says most n few below =
    let r = number_reads n (omega arith) in
    record { met = record { formed = r.formed; ranged = rw r.value (le-leb n most few); console = refl }; value = r.value; run = r.run; short = r.short }

count_says : (most n : ℕ) → 1 ≤ n → n ≤ most → most < 2 ^ 36 → Says (count_to most) octal_value (digits_of n) n
count_says most n some few below =
    let r = number_reads n (omega arith) in
    record {
      met = record { formed = r.formed; ranged = rw (r.value, le-leb 1 n some, le-leb n most few) refl; console = refl };
      value = r.value;
      run = r.run;
      short = r.short;
    }

slot_says : (v s : ℕ) → s ≤ last_slot v → Says (slot v) octal_value (digits_of s) s
slot_says v s few =
    let r = number_reads s (omega (arith, slot_small v s few)) in
    record {
      met = record { formed = r.formed; ranged = rw r.value (le-leb s (last_slot v) few); console = refl };
      value = r.value;
      run = r.run;
      short = r.short;
    }

address_says : (most a : ℕ) → a ≤ most → a < 2 ^ 18 → Says (number_to most) octal_value (octal6_of a) a
address_says most a few below =
    let r = address_reads a below in
    record { met = record { formed = r.formed; ranged = rw r.value (le-leb a most few); console = refl }; value = r.value; run = r.run; short = r.short }

console_says : (c : ℕ) → c ≤ 7 → Says console octal_value (digits_of c) c
console_says c few =
    let r = number_reads c (omega arith) in
    record { met = record { formed = r.formed; ranged = refl; console = rw r.value (le-leb c 7 few) }; value = r.value; run = r.run; short = r.short }

-- a tag
tag_says : (w : ℕ) → w < 2 ^ 36 → Says tag word_of_tag (tag_of w) w
tag_says w below =
    let r = tag_reads w below in
    record { met = record { formed = r.formed; ranged = refl; console = refl }; value = r.value; run = r.run; short = r.short }

-- 0 or 1
flag_formed : (b : Bool) → is_octal (flag_text b) ≡ true
unfolding is_octal
flag_formed true = refl
flag_formed false = refl

flag_ranged : (b : Bool) → (flag (flag_text b)).ranged ≡ true
unfolding octal_value
flag_ranged true = refl
flag_ranged false = refl

flag_value : (b : Bool) → is_set (flag_text b) ≡ b
unfolding octal_value
flag_value true = refl
flag_value false = refl

flag_run : (b : Bool) → IsRun (flag_text b)
flag_run true = word (codes "1") refl refl
flag_run false = word (codes "0") refl refl

flag_short : (b : Bool) → length (flag_text b) ≤ 12
flag_short true = lit≤ tt
flag_short false = lit≤ tt

flag_says : (b : Bool) → Says flag is_set (flag_text b) b
flag_says b = record {
  met = record { formed = flag_formed b; ranged = flag_ranged b; console = refl };
  value = flag_value b;
  run = flag_run b;
  short = flag_short b;
}

-- RUN or STOP
run_says : (b : Bool) → Says run_or_stop is_run (run_text b) b
run_says true = record {
  met = record { formed = refl; ranged = refl; console = refl };
  value = refl;
  run = word (codes "RUN") refl refl;
  short = lit≤ tt;
}
run_says false = record {
  met = record { formed = refl; ranged = refl; console = refl };
  value = refl;
  run = word (codes "STOP") refl refl;
  short = lit≤ tt;
}

-- a console, or none
given_met : (w : List ℕ) → is_dash w ≡ false → Met (console w) → Met (console_or_dash w)
given_met w digits m = record { formed = rw digits m.formed; ranged = rw digits m.ranged; console = rw digits m.console }

given_value : (w : List ℕ) (c : ℕ) → is_dash w ≡ false → octal_value w ≡ c → console_given w ≡ Some c
given_value w c digits value = rw (digits, value) refl

dash_says : (o : Option ℕ) → IfSome o (λ c. c ≤ 7) → Says console_or_dash console_given (console_text o) o
dash_says None h = record {
  met = record { formed = refl; ranged = refl; console = refl };
  value = refl;
  run = word (codes "-") refl refl;
  short = lit≤ tt;
}
dash_says (Some c) h =
    let r = console_says c h in
    record {
      met = given_met (digits_of c) (number_no_dash c) r.met;
      value = given_value (digits_of c) c (number_no_dash c) r.value;
      run = r.run;
      short = r.short;
    }

-- fields of a list
words_met : (ws : List ℕ) → Below (2 ^ 36) ws → AllMet (map number (map octal12_of ws))
unfolding Below
words_met [] h = tt
words_met (w ∷ ws) h = ((word_says w h.0).met, words_met ws h.1)

bytes_met : (bs : List ℕ) → Below 128 bs → AllMet (map (number_to 127) (map digits_of bs))
unfolding Below
bytes_met [] h = tt
bytes_met (b ∷ bs) h = ((most_says 127 b (omega (arith, h.0)) (lit≤ tt)).met, bytes_met bs h.1)

-- each row of the table, and its line
clock_says : (n : ℕ) (wn : List ℕ)
    → Says number octal_value wn n
    → clock_row (wn ∷ []) ≡ Ok (states.Clock n)
unfolding clock_row
clock_says n wn pn =
    with_met (number wn ∷ []) (states.Clock (octal_value wn))
    (pn.met, tt)
    ∙ rw pn.value refl

clock_back : (v n : ℕ) → StateFits v (states.Clock n) → StateHasWords (states.Clock n) → ReadsBack v (states.Clock n)
unfolding state_kind_of
clock_back v n f h =
    let pn = number_says n f in
    record {
      first = codes "CLOCK";
      words = digits_of n ∷ [];
      text = refl;
      run = word (codes "CLOCK") refl refl;
      runs = (pn.run, tt);
      short = omega (arith, pn.short);
      no_comment = refl;
      read = clock_says n (digits_of n) pn;
    }

file_says : (d x y : ℕ) (wd wx wy : List ℕ)
    → Says tag word_of_tag wd d → Says tag word_of_tag wx x → Says tag word_of_tag wy y
    → file_row (wd ∷ wx ∷ wy ∷ []) ≡ Ok (states.File d x y)
unfolding file_row
file_says d x y wd wx wy pd px py =
    with_met (tag wd ∷ tag wx ∷ tag wy ∷ []) (states.File (word_of_tag wd) (word_of_tag wx) (word_of_tag wy))
    (pd.met, (px.met, (py.met, tt)))
    ∙ rw (pd.value, px.value, py.value) refl

file_back : (v d x y : ℕ) → StateFits v (states.File d x y) → StateHasWords (states.File d x y) → ReadsBack v (states.File d x y)
unfolding state_kind_of
file_back v d x y f h =
    let pd = tag_says d h.0 in
    let px = tag_says x h.1 in
    let py = tag_says y h.2 in
    record {
      first = codes "FILE";
      words = tag_of d ∷ tag_of x ∷ tag_of y ∷ [];
      text = refl;
      run = word (codes "FILE") refl refl;
      runs = (pd.run, (px.run, (py.run, tt)));
      short = omega (arith, pd.short, px.short, py.short);
      no_comment = refl;
      read = file_says d x y (tag_of d) (tag_of x) (tag_of y) pd px py;
    }

job_says : (v s u j : ℕ) (c : Option ℕ) (ws wu wj wc : List ℕ)
    → Says (slot v) octal_value ws s → Says tag word_of_tag wu u → Says tag word_of_tag wj j → Says console_or_dash console_given wc c
    → job_row v (ws ∷ wu ∷ wj ∷ wc ∷ []) ≡ Ok (states.Job s u j c)
unfolding job_row
job_says v s u j c ws wu wj wc ps pu pj pc =
    with_met (slot v ws ∷ tag wu ∷ tag wj ∷ console_or_dash wc ∷ []) (states.Job (octal_value ws) (word_of_tag wu) (word_of_tag wj) (console_given wc))
    (ps.met, (pu.met, (pj.met, (pc.met, tt))))
    ∙ rw (ps.value, pu.value, pj.value, pc.value) refl

job_back : (v s u j : ℕ) (c : Option ℕ) → StateFits v (states.Job s u j c) → StateHasWords (states.Job s u j c) → ReadsBack v (states.Job s u j c)
unfolding state_kind_of
job_back v s u j c f h =
    let ps = slot_says v s f.0 in
    let pu = tag_says u h.0 in
    let pj = tag_says j h.1 in
    let pc = dash_says c f.1 in
    record {
      first = codes "JOB";
      words = digits_of s ∷ tag_of u ∷ tag_of j ∷ console_text c ∷ [];
      text = refl;
      run = word (codes "JOB") refl refl;
      runs = (ps.run, (pu.run, (pj.run, (pc.run, tt))));
      short = omega (arith, ps.short, pu.short, pj.short, pc.short);
      no_comment = refl;
      read = job_says v s u j c (digits_of s) (tag_of u) (tag_of j) (console_text c) ps pu pj pc;
    }

read_only_says : (p : ℕ) (wp : List ℕ)
    → Says page octal_value wp p
    → read_only_row (wp ∷ []) ≡ Ok (states.ReadOnly p)
unfolding read_only_row
read_only_says p wp pp =
    with_met (page wp ∷ []) (states.ReadOnly (octal_value wp))
    (pp.met, tt)
    ∙ rw pp.value refl

read_only_back : (v p : ℕ) → StateFits v (states.ReadOnly p) → StateHasWords (states.ReadOnly p) → ReadsBack v (states.ReadOnly p)
unfolding state_kind_of
read_only_back v p f h =
    let pp = most_says 255 p f (lit≤ tt) in
    record {
      first = codes "RO";
      words = digits_of p ∷ [];
      text = refl;
      run = word (codes "RO") refl refl;
      runs = (pp.run, tt);
      short = omega (arith, pp.short);
      no_comment = refl;
      read = read_only_says p (digits_of p) pp;
    }

symbol_says : (x a : ℕ) (wx wa : List ℕ)
    → Says tag word_of_tag wx x → Says address octal_value wa a
    → symbol_row (wx ∷ wa ∷ []) ≡ Ok (states.Symbol x a)
unfolding symbol_row
symbol_says x a wx wa px pa =
    with_met (tag wx ∷ address wa ∷ []) (states.Symbol (word_of_tag wx) (octal_value wa))
    (px.met, (pa.met, tt))
    ∙ rw (px.value, pa.value) refl

symbol_back : (v x a : ℕ) → StateFits v (states.Symbol x a) → StateHasWords (states.Symbol x a) → ReadsBack v (states.Symbol x a)
unfolding state_kind_of
symbol_back v x a f h =
    let px = tag_says x h in
    let pa = address_says (2 ^ 18 - 1) a (omega (arith, f)) f in
    record {
      first = codes "SYM";
      words = tag_of x ∷ octal6_of a ∷ [];
      text = refl;
      run = word (codes "SYM") refl refl;
      runs = (px.run, (pa.run, tt));
      short = omega (arith, px.short, pa.short);
      no_comment = refl;
      read = symbol_says x a (tag_of x) (octal6_of a) px pa;
    }

alarm_says : (v s p n : ℕ) (ws wp wn : List ℕ)
    → Says (slot v) octal_value ws s → Says (count_to (2 ^ 34)) octal_value wp p → Says number octal_value wn n
    → alarm_row v (ws ∷ wp ∷ wn ∷ []) ≡ Ok (states.Alarm s p n)
unfolding alarm_row
alarm_says v s p n ws wp wn ps pp pn =
    with_met (slot v ws ∷ count_to (2 ^ 34) wp ∷ number wn ∷ []) (states.Alarm (octal_value ws) (octal_value wp) (octal_value wn))
    (ps.met, (pp.met, (pn.met, tt)))
    ∙ rw (ps.value, pp.value, pn.value) refl

alarm_back : (v s p n : ℕ) → StateFits v (states.Alarm s p n) → StateHasWords (states.Alarm s p n) → ReadsBack v (states.Alarm s p n)
unfolding state_kind_of
alarm_back v s p n f h =
    let ps = slot_says v s f.0 in
    let pp = count_says (2 ^ 34) p f.1 f.2 (lit≤ tt) in
    let pn = number_says n f.3 in
    record {
      first = codes "ALARM";
      words = digits_of s ∷ digits_of p ∷ digits_of n ∷ [];
      text = refl;
      run = word (codes "ALARM") refl refl;
      runs = (ps.run, (pp.run, (pn.run, tt)));
      short = omega (arith, ps.short, pp.short, pn.short);
      no_comment = refl;
      read = alarm_says v s p n (digits_of s) (digits_of p) (digits_of n) ps pp pn;
    }

under_says : (v s t : ℕ) (ws wt : List ℕ)
    → Says (slot v) octal_value ws s → Says (slot v) octal_value wt t
    → under_row v (ws ∷ wt ∷ []) ≡ Ok (states.Under s t)
unfolding under_row
under_says v s t ws wt ps pt =
    with_met (slot v ws ∷ slot v wt ∷ []) (states.Under (octal_value ws) (octal_value wt))
    (ps.met, (pt.met, tt))
    ∙ rw (ps.value, pt.value) refl

under_back : (v s t : ℕ) → StateFits v (states.Under s t) → StateHasWords (states.Under s t) → ReadsBack v (states.Under s t)
unfolding state_kind_of
under_back v s t f h =
    let ps = slot_says v s f.0 in
    let pt = slot_says v t f.1 in
    record {
      first = codes "UNDER";
      words = digits_of s ∷ digits_of t ∷ [];
      text = refl;
      run = word (codes "UNDER") refl refl;
      runs = (ps.run, (pt.run, tt));
      short = omega (arith, ps.short, pt.short);
      no_comment = refl;
      read = under_says v s t (digits_of s) (digits_of t) ps pt;
    }

tty_says : (v s n : ℕ) (w : Bool) (ws wn ww : List ℕ)
    → Says (slot v) octal_value ws s → Says channel octal_value wn n → Says flag is_set ww w
    → tty_row v (ws ∷ wn ∷ ww ∷ []) ≡ Ok (states.Tty s n w)
unfolding tty_row
tty_says v s n w ws wn ww ps pn pw =
    with_met (slot v ws ∷ channel wn ∷ flag ww ∷ []) (states.Tty (octal_value ws) (octal_value wn) (is_set ww))
    (ps.met, (pn.met, (pw.met, tt)))
    ∙ rw (ps.value, pn.value, pw.value) refl

tty_back : (v s n : ℕ) (w : Bool) → StateFits v (states.Tty s n w) → StateHasWords (states.Tty s n w) → ReadsBack v (states.Tty s n w)
unfolding state_kind_of
tty_back v s n w f h =
    let ps = slot_says v s f.0 in
    let pn = most_says 15 n f.1 (lit≤ tt) in
    let pw = flag_says w in
    record {
      first = codes "TTY";
      words = digits_of s ∷ digits_of n ∷ flag_text w ∷ [];
      text = refl;
      run = word (codes "TTY") refl refl;
      runs = (ps.run, (pn.run, (pw.run, tt)));
      short = omega (arith, ps.short, pn.short, pw.short);
      no_comment = refl;
      read = tty_says v s n w (digits_of s) (digits_of n) (flag_text w) ps pn pw;
    }

disk_says : (v s n d x y at : ℕ) (ws wn wd wx wy wat : List ℕ)
    → Says (slot v) octal_value ws s → Says channel octal_value wn n → Says tag word_of_tag wd d → Says tag word_of_tag wx x
    → Says tag word_of_tag wy y → Says position octal_value wat at
    → disk_row v (ws ∷ wn ∷ wd ∷ wx ∷ wy ∷ wat ∷ []) ≡ Ok (states.Disk s n d x y at)
unfolding disk_row
disk_says v s n d x y at ws wn wd wx wy wat ps pn pd px py pat =
    with_met (slot v ws ∷ channel wn ∷ tag wd ∷ tag wx ∷ tag wy ∷ position wat ∷ [])
    (states.Disk (octal_value ws) (octal_value wn) (word_of_tag wd) (word_of_tag wx) (word_of_tag wy) (octal_value wat))
    (ps.met, (pn.met, (pd.met, (px.met, (py.met, (pat.met, tt))))))
    ∙ rw (ps.value, pn.value, pd.value, px.value, py.value, pat.value) refl

disk_back : (v s n d x y at : ℕ) → StateFits v (states.Disk s n d x y at) → StateHasWords (states.Disk s n d x y at) → ReadsBack v (states.Disk s n d x y at)
unfolding state_kind_of
disk_back v s n d x y at f h =
    let ps = slot_says v s f.0.0 in
    let pn = most_says 15 n f.0.1 (lit≤ tt) in
    let pd = tag_says d h.0 in
    let px = tag_says x h.1 in
    let py = tag_says y h.2 in
    let pat = most_says (2 ^ 32 - 1) at (omega (arith, f.1)) (lit≤ tt) in
    record {
      first = codes "DSK";
      words = digits_of s ∷ digits_of n ∷ tag_of d ∷ tag_of x ∷ tag_of y ∷ digits_of at ∷ [];
      text = refl;
      run = word (codes "DSK") refl refl;
      runs = (ps.run, (pn.run, (pd.run, (px.run, (py.run, (pat.run, tt))))));
      short = omega (arith, ps.short, pn.short, pd.short, px.short, py.short, pat.short);
      no_comment = refl;
      read = disk_says v s n d x y at (digits_of s) (digits_of n) (tag_of d) (tag_of x) (tag_of y) (digits_of at) ps pn pd px py pat;
    }

draft_says : (v s n d x y : ℕ) (ws wn wd wx wy : List ℕ)
    → Says (slot v) octal_value ws s → Says channel octal_value wn n → Says tag word_of_tag wd d → Says tag word_of_tag wx x → Says tag word_of_tag wy y
    → draft_row v (ws ∷ wn ∷ wd ∷ wx ∷ wy ∷ []) ≡ Ok (states.Draft s n d x y)
unfolding draft_row
draft_says v s n d x y ws wn wd wx wy ps pn pd px py =
    with_met (slot v ws ∷ channel wn ∷ tag wd ∷ tag wx ∷ tag wy ∷ [])
    (states.Draft (octal_value ws) (octal_value wn) (word_of_tag wd) (word_of_tag wx) (word_of_tag wy))
    (ps.met, (pn.met, (pd.met, (px.met, (py.met, tt)))))
    ∙ rw (ps.value, pn.value, pd.value, px.value, py.value) refl

draft_back : (v s n d x y : ℕ) → StateFits v (states.Draft s n d x y) → StateHasWords (states.Draft s n d x y) → ReadsBack v (states.Draft s n d x y)
unfolding state_kind_of
draft_back v s n d x y f h =
    let ps = slot_says v s f.0 in
    let pn = most_says 15 n f.1 (lit≤ tt) in
    let pd = tag_says d h.0 in
    let px = tag_says x h.1 in
    let py = tag_says y h.2 in
    record {
      first = codes "DRAFT";
      words = digits_of s ∷ digits_of n ∷ tag_of d ∷ tag_of x ∷ tag_of y ∷ [];
      text = refl;
      run = word (codes "DRAFT") refl refl;
      runs = (ps.run, (pn.run, (pd.run, (px.run, (py.run, tt)))));
      short = omega (arith, ps.short, pn.short, pd.short, px.short, py.short);
      no_comment = refl;
      read = draft_says v s n d x y (digits_of s) (digits_of n) (tag_of d) (tag_of x) (tag_of y) ps pn pd px py;
    }

usr_says : (v s n t : ℕ) (w : Bool) (at : ℕ) (ws wn wt ww wat : List ℕ)
    → Says (slot v) octal_value ws s → Says channel octal_value wn n → Says (slot v) octal_value wt t → Says flag is_set ww w
    → Says position octal_value wat at
    → usr_row v (ws ∷ wn ∷ wt ∷ ww ∷ wat ∷ []) ≡ Ok (states.Usr s n t w at)
unfolding usr_row
usr_says v s n t w at ws wn wt ww wat ps pn pt pw pat =
    with_met (slot v ws ∷ channel wn ∷ slot v wt ∷ flag ww ∷ position wat ∷ [])
    (states.Usr (octal_value ws) (octal_value wn) (octal_value wt) (is_set ww) (octal_value wat))
    (ps.met, (pn.met, (pt.met, (pw.met, (pat.met, tt)))))
    ∙ rw (ps.value, pn.value, pt.value, pw.value, pat.value) refl

usr_back : (v s n t : ℕ) (w : Bool) (at : ℕ) → StateFits v (states.Usr s n t w at) → StateHasWords (states.Usr s n t w at)
    → ReadsBack v (states.Usr s n t w at)
unfolding state_kind_of
usr_back v s n t w at f h =
    let ps = slot_says v s f.0.0 in
    let pn = most_says 15 n f.0.1 (lit≤ tt) in
    let pt = slot_says v t f.1 in
    let pw = flag_says w in
    let pat = most_says (2 ^ 32 - 1) at (omega (arith, f.2)) (lit≤ tt) in
    record {
      first = codes "USR";
      words = digits_of s ∷ digits_of n ∷ digits_of t ∷ flag_text w ∷ digits_of at ∷ [];
      text = refl;
      run = word (codes "USR") refl refl;
      runs = (ps.run, (pn.run, (pt.run, (pw.run, (pat.run, tt)))));
      short = omega (arith, ps.short, pn.short, pt.short, pw.short, pat.short);
      no_comment = refl;
      read = usr_says v s n t w at (digits_of s) (digits_of n) (digits_of t) (flag_text w) (digits_of at) ps pn pt pw pat;
    }

join_says : (v s n l : ℕ) (w : Bool) (x y : ℕ) (ws wn wl ww wx wy : List ℕ)
    → Says (slot v) octal_value ws s → Says channel octal_value wn n → Says link octal_value wl l → Says flag is_set ww w
    → Says tag word_of_tag wx x → Says tag word_of_tag wy y
    → join_row v (ws ∷ wn ∷ wl ∷ ww ∷ wx ∷ wy ∷ []) ≡ Ok (states.Join s n l w x y)
unfolding join_row
join_says v s n l w x y ws wn wl ww wx wy ps pn pl pw px py =
    with_met (slot v ws ∷ channel wn ∷ link wl ∷ flag ww ∷ tag wx ∷ tag wy ∷ [])
    (states.Join (octal_value ws) (octal_value wn) (octal_value wl) (is_set ww) (word_of_tag wx) (word_of_tag wy))
    (ps.met, (pn.met, (pl.met, (pw.met, (px.met, (py.met, tt))))))
    ∙ rw (ps.value, pn.value, pl.value, pw.value, px.value, py.value) refl

join_back : (v s n l : ℕ) (w : Bool) (x y : ℕ) → StateFits v (states.Join s n l w x y) → StateHasWords (states.Join s n l w x y)
    → ReadsBack v (states.Join s n l w x y)
unfolding state_kind_of
join_back v s n l w x y f h =
    let ps = slot_says v s f.0.0 in
    let pn = most_says 15 n f.0.1 (lit≤ tt) in
    let pl = most_says 15 l f.1 (lit≤ tt) in
    let pw = flag_says w in
    let px = tag_says x h.0 in
    let py = tag_says y h.1 in
    record {
      first = codes "LNK";
      words = digits_of s ∷ digits_of n ∷ digits_of l ∷ flag_text w ∷ tag_of x ∷ tag_of y ∷ [];
      text = refl;
      run = word (codes "LNK") refl refl;
      runs = (ps.run, (pn.run, (pl.run, (pw.run, (px.run, (py.run, tt))))));
      short = omega (arith, ps.short, pn.short, pl.short, pw.short, px.short, py.short);
      no_comment = refl;
      read = join_says v s n l w x y (digits_of s) (digits_of n) (digits_of l) (flag_text w) (tag_of x) (tag_of y) ps pn pl pw px py;
    }

end_shut_says : (l : ℕ) (w : Bool) (wl ww : List ℕ)
    → Says link octal_value wl l → Says flag is_set ww w
    → end_shut_row (wl ∷ ww ∷ []) ≡ Ok (states.EndShut l w)
unfolding end_shut_row
end_shut_says l w wl ww pl pw =
    with_met (link wl ∷ flag ww ∷ []) (states.EndShut (octal_value wl) (is_set ww))
    (pl.met, (pw.met, tt))
    ∙ rw (pl.value, pw.value) refl

end_shut_back : (v l : ℕ) (w : Bool) → StateFits v (states.EndShut l w) → StateHasWords (states.EndShut l w) → ReadsBack v (states.EndShut l w)
unfolding state_kind_of
end_shut_back v l w f h =
    let pl = most_says 15 l f (lit≤ tt) in
    let pw = flag_says w in
    record {
      first = codes "SHUT";
      words = digits_of l ∷ flag_text w ∷ [];
      text = refl;
      run = word (codes "SHUT") refl refl;
      runs = (pl.run, (pw.run, tt));
      short = omega (arith, pl.short, pw.short);
      no_comment = refl;
      read = end_shut_says l w (digits_of l) (flag_text w) pl pw;
    }

hold_says : (v c s : ℕ) (wc ws : List ℕ)
    → Says console octal_value wc c → Says (slot v) octal_value ws s
    → hold_row v (wc ∷ ws ∷ []) ≡ Ok (states.Hold c s)
unfolding hold_row
hold_says v c s wc ws pc ps =
    with_met (console wc ∷ slot v ws ∷ []) (states.Hold (octal_value wc) (octal_value ws))
    (pc.met, (ps.met, tt))
    ∙ rw (pc.value, ps.value) refl

hold_back : (v c s : ℕ) → StateFits v (states.Hold c s) → StateHasWords (states.Hold c s) → ReadsBack v (states.Hold c s)
unfolding state_kind_of
hold_back v c s f h =
    let pc = console_says c f.0 in
    let ps = slot_says v s f.1 in
    record {
      first = codes "HOLD";
      words = digits_of c ∷ digits_of s ∷ [];
      text = refl;
      run = word (codes "HOLD") refl refl;
      runs = (pc.run, (ps.run, tt));
      short = omega (arith, pc.short, ps.short);
      no_comment = refl;
      read = hold_says v c s (digits_of c) (digits_of s) pc ps;
    }

turn_says : (v s : ℕ) (ws : List ℕ)
    → Says (slot v) octal_value ws s
    → turn_row v (ws ∷ []) ≡ Ok (states.Turn s)
unfolding turn_row
turn_says v s ws ps =
    with_met (slot v ws ∷ []) (states.Turn (octal_value ws))
    (ps.met, tt)
    ∙ rw ps.value refl

turn_back : (v s : ℕ) → StateFits v (states.Turn s) → StateHasWords (states.Turn s) → ReadsBack v (states.Turn s)
unfolding state_kind_of
turn_back v s f h =
    let ps = slot_says v s f in
    record {
      first = codes "TURN";
      words = digits_of s ∷ [];
      text = refl;
      run = word (codes "TURN") refl refl;
      runs = (ps.run, tt);
      short = omega (arith, ps.short);
      no_comment = refl;
      read = turn_says v s (digits_of s) ps;
    }

-- the lines with a list of words
few_says : {A : Type 0} (ws : List ℕ) (r : Result A Bad) → AreFew ws → with_count 16 (map octal12_of ws) r ≡ r
few_says ws r few =
    let size = length-map ws octal12_of in
    let some = few.0 in
    let most = few.1 in
    of_count 16 (map octal12_of ws) r (omega arith) (omega arith)

file_words_says : (ws : List ℕ) → AreFew ws → Below (2 ^ 36) ws → file_words_row (map octal12_of ws) ≡ Ok (states.FileWords (record { items = ws }))
unfolding file_words_row
file_words_says ws few below =
    few_says ws _ few
    ∙ with_met (map number (map octal12_of ws)) (states.FileWords (record { items = map octal_value (map octal12_of ws) })) (words_met ws below)
    ∙ rw (values_again ws below) refl

file_words_back : (v : ℕ) (ws : List ℕ) → AreFew ws → AreWords ws → ReadsBack v (states.FileWords (record { items = ws }))
unfolding state_kind_of
file_words_back v ws few are =
    let below = below_each (2 ^ 36) ws are in
    let most = few.1 in
    record {
      first = codes "/";
      words = map octal12_of ws;
      text = refl;
      run = word (codes "/") refl refl;
      runs = word_runs ws below;
      short = omega (arith, room_of_words ws);
      no_comment = refl;
      read = file_words_says ws few below;
    }

core_words_says : (a : ℕ) (ta ws : List ℕ) → Says (number_to (2 ^ 18 - length ws)) octal_value ta a → AreFew ws → Below (2 ^ 36) ws
    → core_words_row ta (map octal12_of ws) ≡ Ok (states.CoreWords a (record { items = ws }))
unfolding core_words_row
core_words_says a ta ws pa few below =
    few_says ws _ few
    ∙ rw (length-map ws octal12_of) refl
    ∙ with_met (number_to (2 ^ 18 - length ws) ta ∷ map number (map octal12_of ws))
    (states.CoreWords (octal_value ta) (record { items = map octal_value (map octal12_of ws) })) (pa.met, words_met ws below)
    ∙ rw (pa.value, values_again ws below) refl

-- a first word of digits and `/`
digits_kind : (ds : List ℕ) → 1 ≤ length ds → list_all (is_code 48 55) ds ≡ true → is_octal ds ≡ true
    → state_kind_of (ds ++ 47 ∷ []) ≡ Some kinds.CoreWords
unfolding state_kind_of
digits_kind [] some h octal = absurd (omega arith)
digits_kind (d ∷ ds) some h octal =
    let digit = (both (is_code 48 55 d) (list_all (is_code 48 55) ds) h).0 in
    let place : is_place ((d ∷ ds) ++ 47 ∷ []) ≡ true = place_again (d ∷ ds) octal in
    rw (
      digit_above 67 d digit (lit≤ tt),
      digit_above 70 d digit (lit≤ tt),
      digit_below 47 d digit (lit≤ tt),
      digit_above 74 d digit (lit≤ tt),
      digit_above 82 d digit (lit≤ tt),
      digit_above 83 d digit (lit≤ tt),
      digit_above 65 d digit (lit≤ tt),
      digit_above 85 d digit (lit≤ tt),
      digit_above 84 d digit (lit≤ tt),
      digit_above 68 d digit (lit≤ tt),
      digit_above 87 d digit (lit≤ tt),
      digit_above 76 d digit (lit≤ tt),
      digit_above 73 d digit (lit≤ tt),
      digit_above 79 d digit (lit≤ tt),
      digit_above 72 d digit (lit≤ tt),
      place,
    ) refl

core_words_back : (v a : ℕ) (ws : List ℕ) → AreFew ws → a + length ws ≤ 2 ^ 18 → AreWords ws → ReadsBack v (states.CoreWords a (record { items = ws }))
core_words_back v a ws few within are =
    let below = below_each (2 ^ 36) ws are in
    let some = few.0 in
    let most = few.1 in
    let r = address_reads a (omega arith) in
    let pa = address_says (2 ^ 18 - length ws) a (omega arith) (omega arith) in
    record {
      first = octal6_of a ++ codes "/";
      words = map octal12_of ws;
      text = refl;
      run = place_run (octal6_of a) r.run;
      runs = word_runs ws below;
      short = omega (arith, r.short, length-append (octal6_of a) (47 ∷ []), room_of_words ws);
      no_comment = digits_no_comment (octal6_of a) r.run.some r.codes;
      read = rw (digits_kind (octal6_of a) r.run.some r.codes r.formed, before_again (octal6_of a)) (core_words_says a (octal6_of a) ws pa few below);
    }

wrote_says : (v s n : ℕ) (ts tn ws : List ℕ) → Says (slot v) octal_value ts s → Says channel octal_value tn n → AreFew ws → Below (2 ^ 36) ws
    → wrote_row v (ts ∷ tn ∷ map octal12_of ws) ≡ Ok (states.Wrote s n (record { items = ws }))
unfolding wrote_row
wrote_says v s n ts tn ws ps pn few below =
    few_says ws _ few
    ∙ with_met (slot v ts ∷ channel tn ∷ map number (map octal12_of ws))
    (states.Wrote (octal_value ts) (octal_value tn) (record { items = map octal_value (map octal12_of ws) })) (ps.met, (pn.met, words_met ws below))
    ∙ rw (ps.value, pn.value, values_again ws below) refl

wrote_back : (v s n : ℕ) (ws : List ℕ) → s ≤ last_slot v → n ≤ 15 → AreFew ws → AreWords ws → ReadsBack v (states.Wrote s n (record { items = ws }))
unfolding state_kind_of
wrote_back v s n ws slot channel few are =
    let below = below_each (2 ^ 36) ws are in
    let most = few.1 in
    let ps = slot_says v s slot in
    let pn = most_says 15 n channel (lit≤ tt) in
    record {
      first = codes "WROTE";
      words = digits_of s ∷ digits_of n ∷ map octal12_of ws;
      text = refl;
      run = word (codes "WROTE") refl refl;
      runs = (ps.run, (pn.run, word_runs ws below));
      short = omega (arith, ps.short, pn.short, room_of_words ws);
      no_comment = refl;
      read = wrote_says v s n (digits_of s) (digits_of n) ws ps pn few below;
    }

sent_says : (l : ℕ) (tl ws : List ℕ) → Says link octal_value tl l → AreFew ws → Below (2 ^ 36) ws
    → sent_row (tl ∷ map octal12_of ws) ≡ Ok (states.Sent l (record { items = ws }))
unfolding sent_row
sent_says l tl ws pl few below =
    few_says ws _ few
    ∙ with_met (link tl ∷ map number (map octal12_of ws))
    (states.Sent (octal_value tl) (record { items = map octal_value (map octal12_of ws) })) (pl.met, words_met ws below)
    ∙ rw (pl.value, values_again ws below) refl

sent_back : (v l : ℕ) (ws : List ℕ) → l ≤ 15 → AreFew ws → AreWords ws → ReadsBack v (states.Sent l (record { items = ws }))
unfolding state_kind_of
sent_back v l ws link few are =
    let below = below_each (2 ^ 36) ws are in
    let most = few.1 in
    let pl = most_says 15 l link (lit≤ tt) in
    record {
      first = codes "SENT";
      words = digits_of l ∷ map octal12_of ws;
      text = refl;
      run = word (codes "SENT") refl refl;
      runs = (pl.run, word_runs ws below);
      short = omega (arith, pl.short, room_of_words ws);
      no_comment = refl;
      read = sent_says l (digits_of l) ws pl few below;
    }

-- the lines with bytes
bytes_says : (c : ℕ) (tc bs : List ℕ) → Says console octal_value tc c → 1 ≤ length bs → length bs ≤ 32 → Below 128 bs
    → bytes_row (tc ∷ map digits_of bs) ≡ Ok (c, bs)
unfolding bytes_row
bytes_says c tc bs pc some few below =
    let size = length-map bs digits_of in
    of_count 32 (map digits_of bs) _ (omega arith) (omega arith)
    ∙ with_met (console tc ∷ map (number_to 127) (map digits_of bs)) (octal_value tc, map octal_value (map digits_of bs)) (pc.met, bytes_met bs below)
    ∙ rw (pc.value, numbers_again bs) refl

-- what holds of the words of such a line
record BytesRead (c : ℕ) (bs : List ℕ) : Type 0 where
  pub runs : AllRuns (digits_of c ∷ map digits_of bs)
  pub short : room_of (digits_of c ∷ map digits_of bs) ≤ 141
  pub read : bytes_row (digits_of c ∷ map digits_of bs) ≡ Ok (c, bs)

bytes_read : (c : ℕ) (bs : List ℕ) → BytesFit c bs → BytesRead c bs
bytes_read c bs f =
    let below = below_each 128 bs (λ k at. omega (arith, f.3 k 0 at)) in
    let pc = console_says c f.0 in
    let some = f.1 in
    let few = f.2 in
    record {
      runs = (pc.run, number_runs bs (below_more 128 (2 ^ 36) bs (lit≤ tt) below));
      short = omega (arith, pc.short, room_of_numbers 3 bs (lit≤ tt) (below_more 128 (8 ^ 3) bs (lit≤ tt) below));
      read = bytes_says c (digits_of c) bs pc some few below;
    }

input_back : (v c : ℕ) (bs : List ℕ) → BytesFit c bs → ReadsBack v (states.Input c (record { items = bs }))
unfolding state_kind_of
input_back v c bs f =
    let b = bytes_read c bs f in
    record {
      first = codes "IN";
      words = digits_of c ∷ map digits_of bs;
      text = refl;
      run = word (codes "IN") refl refl;
      runs = b.runs;
      short = omega (arith, b.short);
      no_comment = refl;
      read = ap (of_bytes input_line) b.read;
    }

output_back : (v c : ℕ) (bs : List ℕ) → BytesFit c bs → ReadsBack v (states.Output c (record { items = bs }))
unfolding state_kind_of
output_back v c bs f =
    let b = bytes_read c bs f in
    record {
      first = codes "OUT";
      words = digits_of c ∷ map digits_of bs;
      text = refl;
      run = word (codes "OUT") refl refl;
      runs = b.runs;
      short = omega (arith, b.short);
      no_comment = refl;
      read = ap (of_bytes output_line) b.read;
    }

-- REGS and READY
regs_says : (r : Registers) (tr tp t1 t2 t3 t4 t5 t6 : List ℕ) → Says run_or_stop is_run tr r.run → Says number octal_value tp r.pc
    → Says number octal_value t1 r.p1 → Says number octal_value t2 r.p2 → Says number octal_value t3 r.m1 → Says number octal_value t4 r.m2
    → Says number octal_value t5 r.d1 → Says number octal_value t6 r.d2
    → regs_row (tr ∷ tp ∷ t1 ∷ t2 ∷ t3 ∷ t4 ∷ t5 ∷ t6 ∷ []) ≡ Ok (states.Regs r)
unfolding regs_row
regs_says r tr tp t1 t2 t3 t4 t5 t6 pr pp p1 p2 p3 p4 p5 p6 =
    with_met (run_or_stop tr ∷ number tp ∷ number t1 ∷ number t2 ∷ number t3 ∷ number t4 ∷ number t5 ∷ number t6 ∷ [])
    (states.Regs (record {
      run = is_run tr;
      pc = octal_value tp;
      p1 = octal_value t1;
      p2 = octal_value t2;
      m1 = octal_value t3;
      m2 = octal_value t4;
      d1 = octal_value t5;
      d2 = octal_value t6;
    })) (pr.met, (pp.met, (p1.met, (p2.met, (p3.met, (p4.met, (p5.met, (p6.met, tt))))))))
    ∙ rw (pr.value, pp.value, p1.value, p2.value, p3.value, p4.value, p5.value, p6.value) refl

regs_back : (v : ℕ) (r : Registers) → RegistersAreWords r → ReadsBack v (states.Regs r)
unfolding state_kind_of
regs_back v r h =
    let pr = run_says r.run in
    let pp = word_says r.pc h.0 in
    let p1 = word_says r.p1 h.1 in
    let p2 = word_says r.p2 h.2 in
    let p3 = word_says r.m1 h.3 in
    let p4 = word_says r.m2 h.4 in
    let p5 = word_says r.d1 h.5 in
    let p6 = word_says r.d2 h.6 in
    record {
      first = codes "REGS";
      words = registers_text r;
      text = refl;
      run = word (codes "REGS") refl refl;
      runs = (pr.run, (pp.run, (p1.run, (p2.run, (p3.run, (p4.run, (p5.run, (p6.run, tt))))))));
      short = omega (arith, pr.short, pp.short, p1.short, p2.short, p3.short, p4.short, p5.short, p6.short);
      no_comment = refl;
      read = regs_says r (run_text r.run) (octal12_of r.pc) (octal12_of r.p1) (octal12_of r.p2) (octal12_of r.m1) (octal12_of r.m2)
          (octal12_of r.d1) (octal12_of r.d2) pr pp p1 p2 p3 p4 p5 p6;
    }

ready_back : (v : ℕ) → ReadsBack v states.Ready
unfolding state_kind_of ready_row
ready_back v = record {
  first = codes "READY";
  words = [];
  text = sym (spaced_none (codes "READY"));
  run = word (codes "READY") refl refl;
  runs = tt;
  short = lit≤ tt;
  no_comment = refl;
  read = refl;
}

-- SYSTEM is in no state part
pub system_says : (v : ℕ) → 1 ≤ v → v ≤ 2 → system_row (digits_of v ∷ []) ≡ Ok (states.System v)
unfolding system_row
system_says v some few =
    let pv = count_says 2 v some few (lit≤ tt) in
    with_met (count_to 2 (digits_of v) ∷ []) (states.System (octal_value (digits_of v))) (pv.met, tt) ∙ rw pv.value refl

pub state_reads_back : (v : ℕ) (line : StateLine) → place_of_state_line line ≡ places.System → StateFits v line → StateHasWords line → ReadsBack v line
state_reads_back v (states.System w) at f h = cc
state_reads_back v (states.Clock n) at f h = clock_back v n f h
state_reads_back v (states.File d x y) at f h = file_back v d x y f h
state_reads_back v (states.FileWords ws) at f h = file_words_back v ws.items f h
state_reads_back v (states.Job s u j c) at f h = job_back v s u j c f h
state_reads_back v (states.CoreWords a ws) at f h = core_words_back v a ws.items f.0 f.1 h
state_reads_back v (states.ReadOnly p) at f h = read_only_back v p f h
state_reads_back v (states.Symbol x a) at f h = symbol_back v x a f h
state_reads_back v (states.Regs r) at f h = regs_back v r h
state_reads_back v (states.Alarm s p n) at f h = alarm_back v s p n f h
state_reads_back v (states.Under s t) at f h = under_back v s t f h
state_reads_back v (states.Tty s n w) at f h = tty_back v s n w f h
state_reads_back v (states.Disk s n d x y a) at f h = disk_back v s n d x y a f h
state_reads_back v (states.Draft s n d x y) at f h = draft_back v s n d x y f h
state_reads_back v (states.Wrote s n ws) at f h = wrote_back v s n ws.items f.0.0 f.0.1 f.1 h
state_reads_back v (states.Usr s n t w a) at f h = usr_back v s n t w a f h
state_reads_back v (states.Join s n l w x y) at f h = join_back v s n l w x y f h
state_reads_back v (states.Sent l ws) at f h = sent_back v l ws.items f.0 f.1 h
state_reads_back v (states.EndShut l w) at f h = end_shut_back v l w f h
state_reads_back v (states.Input c bs) at f h = input_back v c bs.items f
state_reads_back v (states.Output c bs) at f h = output_back v c bs.items f
state_reads_back v (states.Hold c s) at f h = hold_back v c s f h
state_reads_back v (states.Turn s) at f h = turn_back v s f h
state_reads_back v states.Ready at f h = ready_back v

-- the line of the words of a line
abbrev pub state_line_of_words : ℕ → List (List ℕ) → Result StateLine Bad
state_line_of_words v [] = Err Syntax
state_line_of_words v (first ∷ ws) = state_line_of_first v (state_kind_of first) first ws

pub words_read : (v : ℕ) (line : StateLine) → place_of_state_line line ≡ places.System → StateFits v line → StateHasWords line
    → state_line_of_words v (words_of (text_of_state_line line)) ≡ Ok line
words_read v line at f h =
    let b = state_reads_back v line at f h in
    ap (λ t. state_line_of_words v (words_of t)) b.text ∙ ap (state_line_of_words v) (words_spaced b.first b.words b.run b.runs) ∙ b.read
