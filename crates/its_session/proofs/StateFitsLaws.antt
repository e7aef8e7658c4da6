-- A line of the state part that was read fits its table.
use Rattle.std.proofs.Common.{◌≡◌, ◌<◌, ◌≤◌, ◌-◌, ◌^◌, ℕ, Option, Some, None, Result, Ok, Err, List, [], ◌∷◌, length, map, refl, subst, arith}
use Rattle.std.proofs.lemmas.List.{length-map}
use Rattle.its_word.specs.Text.{octal_value}
use Rattle.its_records.specs.declared.session.Bad.{Bad}
use Rattle.its_records.specs.declared.session.Place.TheVariants as places
use Rattle.its_records.specs.declared.state_line.StateLine.{StateLine}
use Rattle.its_records.specs.declared.state_line.StateLine.TheVariants as states
use Rattle.its_session.specs.declared.state_kind.StateKind.{StateKind}
use Rattle.its_session.specs.declared.state_kind.StateKind.TheVariants as kinds
use Rattle.its_session.specs.Fields.{Field, address, before_slash, channel, console, console_given, console_or_dash, count_to, flag, is_run, is_set, last_slot, link, number, number_to, page, position, run_or_stop, slot, tag, with_fields, word_of_tag}
use Rattle.its_session.specs.StateFits.{BytesFit, StateFits, place_of_state_line}
use Rattle.its_session.specs.StateGrammar.{alarm_row, bytes_row, clock_row, core_words_row, disk_row, draft_row, end_shut_row, file_row, file_words_row, hold_row, input_line, job_row, join_row, of_bytes, output_line, read_only_row, ready_row, regs_row, sent_row, state_line_of_first, state_line_of_kind, symbol_row, tty_row, turn_row, under_row, usr_row, wrote_row}
use Rattle.its_session.proofs.MetLaws.{AllMet, Met, are_bytes, at_most, counted, from_one, is_address, is_console, may_be_console, met, number_below, slot_small}

-- a line that fits, and that may occur in the state part alone
pub record IsInState (v : ℕ) (line : StateLine) : Type 0 where
  pub fits : StateFits v line
  pub at : place_of_state_line line ≡ places.System

-- a line fits if its fields are met
fits_by : (v : ℕ) (fields : List Field) (d e : StateLine) → place_of_state_line d ≡ places.System → (AllMet fields → StateFits v d)
    → with_fields fields d ≡ Ok e → IsInState v e
fits_by v fields d e at fits h = let m = met fields d e h in subst (IsInState v) m.1 (record { fits = fits m.0; at = at })

is_position : (w : List ℕ) → Met (position w) → octal_value w < 2 ^ 32
is_position w f = let most : octal_value w ≤ 2 ^ 32 - 1 = at_most (2 ^ 32 - 1) w f in omega arith

-- the rows of the table
clock_fits : (v : ℕ) (ws : List (List ℕ)) (e : StateLine) → clock_row ws ≡ Ok e → IsInState v e
unfolding clock_row
clock_fits v (n ∷ []) e h =
    fits_by v (number n ∷ [])
    (states.Clock (octal_value n)) e refl
    (λ f. number_below n f.0.formed) h
clock_fits v [] e h = cc
clock_fits v (n ∷ b ∷ ws) e h = cc

file_fits : (v : ℕ) (ws : List (List ℕ)) (e : StateLine) → file_row ws ≡ Ok e → IsInState v e
unfolding file_row
file_fits v (d ∷ x ∷ y ∷ []) e h =
    fits_by v (tag d ∷ tag x ∷ tag y ∷ [])
    (states.File (word_of_tag d) (word_of_tag x) (word_of_tag y)) e refl
    (λ f. tt) h
file_fits v _ e h = cc

job_fits : (v : ℕ) (ws : List (List ℕ)) (e : StateLine) → job_row v ws ≡ Ok e → IsInState v e
unfolding job_row
job_fits v (s ∷ u ∷ j ∷ c ∷ []) e h =
    fits_by v (slot v s ∷ tag u ∷ tag j ∷ console_or_dash c ∷ [])
    (states.Job (octal_value s) (word_of_tag u) (word_of_tag j) (console_given c)) e refl
    (λ f. (at_most (last_slot v) s f.0, may_be_console c f.1.1.1.0)) h
job_fits v _ e h = cc

read_only_fits : (v : ℕ) (ws : List (List ℕ)) (e : StateLine) → read_only_row ws ≡ Ok e → IsInState v e
unfolding read_only_row
read_only_fits v (p ∷ []) e h =
    fits_by v (page p ∷ [])
    (states.ReadOnly (octal_value p)) e refl
    (λ f. at_most 255 p f.0) h
read_only_fits v [] e h = cc
read_only_fits v (p ∷ b ∷ ws) e h = cc

symbol_fits : (v : ℕ) (ws : List (List ℕ)) (e : StateLine) → symbol_row ws ≡ Ok e → IsInState v e
unfolding symbol_row
symbol_fits v (x ∷ a ∷ []) e h =
    fits_by v (tag x ∷ address a ∷ [])
    (states.Symbol (word_of_tag x) (octal_value a)) e refl
    (λ f. is_address a f.1.0) h
symbol_fits v _ e h = cc

regs_fits : (v : ℕ) (ws : List (List ℕ)) (e : StateLine) → regs_row ws ≡ Ok e → IsInState v e
unfolding regs_row
regs_fits v (r ∷ pc ∷ p1 ∷ p2 ∷ m1 ∷ m2 ∷ d1 ∷ d2 ∷ []) e h =
    fits_by v (run_or_stop r ∷ number pc ∷ number p1 ∷ number p2 ∷ number m1 ∷ number m2 ∷ number d1 ∷ number d2 ∷ [])
    (states.Regs (record {
      run = is_run r;
      pc = octal_value pc;
      p1 = octal_value p1;
      p2 = octal_value p2;
      m1 = octal_value m1;
      m2 = octal_value m2;
      d1 = octal_value d1;
      d2 = octal_value d2;
    })) e refl (λ f. tt) h
regs_fits v _ e h = cc

alarm_fits : (v : ℕ) (ws : List (List ℕ)) (e : StateLine) → alarm_row v ws ≡ Ok e → IsInState v e
unfolding alarm_row
alarm_fits v (s ∷ p ∷ n ∷ []) e h =
    fits_by v (slot v s ∷ count_to (2 ^ 34) p ∷ number n ∷ [])
    (states.Alarm (octal_value s) (octal_value p) (octal_value n)) e refl
    (λ f. (let p_in = from_one (2 ^ 34) p f.1.0 in (at_most (last_slot v) s f.0, p_in.0, p_in.1, number_below n f.1.1.0.formed))) h
alarm_fits v _ e h = cc

under_fits : (v : ℕ) (ws : List (List ℕ)) (e : StateLine) → under_row v ws ≡ Ok e → IsInState v e
unfolding under_row
under_fits v (s ∷ t ∷ []) e h =
    fits_by v (slot v s ∷ slot v t ∷ [])
    (states.Under (octal_value s) (octal_value t)) e refl
    (λ f. (at_most (last_slot v) s f.0, at_most (last_slot v) t f.1.0)) h
under_fits v _ e h = cc

tty_fits : (v : ℕ) (ws : List (List ℕ)) (e : StateLine) → tty_row v ws ≡ Ok e → IsInState v e
unfolding tty_row
tty_fits v (s ∷ n ∷ w ∷ []) e h =
    fits_by v (slot v s ∷ channel n ∷ flag w ∷ [])
    (states.Tty (octal_value s) (octal_value n) (is_set w)) e refl
    (λ f. (at_most (last_slot v) s f.0, at_most 15 n f.1.0)) h
tty_fits v _ e h = cc

disk_fits : (v : ℕ) (ws : List (List ℕ)) (e : StateLine) → disk_row v ws ≡ Ok e → IsInState v e
unfolding disk_row
disk_fits v (s ∷ n ∷ d ∷ x ∷ y ∷ at ∷ []) e h =
    fits_by v (slot v s ∷ channel n ∷ tag d ∷ tag x ∷ tag y ∷ position at ∷ [])
    (states.Disk (octal_value s) (octal_value n) (word_of_tag d) (word_of_tag x) (word_of_tag y) (octal_value at)) e refl
    (λ f. ((at_most (last_slot v) s f.0, at_most 15 n f.1.0), is_position at f.1.1.1.1.1.0)) h
disk_fits v _ e h = cc

draft_fits : (v : ℕ) (ws : List (List ℕ)) (e : StateLine) → draft_row v ws ≡ Ok e → IsInState v e
unfolding draft_row
draft_fits v (s ∷ n ∷ d ∷ x ∷ y ∷ []) e h =
    fits_by v (slot v s ∷ channel n ∷ tag d ∷ tag x ∷ tag y ∷ [])
    (states.Draft (octal_value s) (octal_value n) (word_of_tag d) (word_of_tag x) (word_of_tag y)) e refl
    (λ f. (at_most (last_slot v) s f.0, at_most 15 n f.1.0)) h
draft_fits v _ e h = cc

usr_fits : (v : ℕ) (ws : List (List ℕ)) (e : StateLine) → usr_row v ws ≡ Ok e → IsInState v e
unfolding usr_row
usr_fits v (s ∷ n ∷ t ∷ w ∷ at ∷ []) e h =
    fits_by v (slot v s ∷ channel n ∷ slot v t ∷ flag w ∷ position at ∷ [])
    (states.Usr (octal_value s) (octal_value n) (octal_value t) (is_set w) (octal_value at)) e refl
    (λ f. ((at_most (last_slot v) s f.0, at_most 15 n f.1.0), at_most (last_slot v) t f.1.1.0, is_position at f.1.1.1.1.0)) h
usr_fits v _ e h = cc

join_fits : (v : ℕ) (ws : List (List ℕ)) (e : StateLine) → join_row v ws ≡ Ok e → IsInState v e
unfolding join_row
join_fits v (s ∷ n ∷ l ∷ w ∷ x ∷ y ∷ []) e h =
    fits_by v (slot v s ∷ channel n ∷ link l ∷ flag w ∷ tag x ∷ tag y ∷ [])
    (states.Join (octal_value s) (octal_value n) (octal_value l) (is_set w) (word_of_tag x) (word_of_tag y)) e refl
    (λ f. ((at_most (last_slot v) s f.0, at_most 15 n f.1.0), at_most 15 l f.1.1.0)) h
join_fits v _ e h = cc

end_shut_fits : (v : ℕ) (ws : List (List ℕ)) (e : StateLine) → end_shut_row ws ≡ Ok e → IsInState v e
unfolding end_shut_row
end_shut_fits v (l ∷ w ∷ []) e h =
    fits_by v (link l ∷ flag w ∷ [])
    (states.EndShut (octal_value l) (is_set w)) e refl
    (λ f. at_most 15 l f.0) h
end_shut_fits v _ e h = cc

hold_fits : (v : ℕ) (ws : List (List ℕ)) (e : StateLine) → hold_row v ws ≡ Ok e → IsInState v e
unfolding hold_row
hold_fits v (c ∷ s ∷ []) e h =
    fits_by v (console c ∷ slot v s ∷ [])
    (states.Hold (octal_value c) (octal_value s)) e refl
    (λ f. (is_console c f.0, at_most (last_slot v) s f.1.0)) h
hold_fits v _ e h = cc

turn_fits : (v : ℕ) (ws : List (List ℕ)) (e : StateLine) → turn_row v ws ≡ Ok e → IsInState v e
unfolding turn_row
turn_fits v (s ∷ []) e h =
    fits_by v (slot v s ∷ [])
    (states.Turn (octal_value s)) e refl
    (λ f. at_most (last_slot v) s f.0) h
turn_fits v [] e h = cc
turn_fits v (s ∷ b ∷ ws) e h = cc

file_words_fits : (v : ℕ) (ws : List (List ℕ)) (e : StateLine) → file_words_row ws ≡ Ok e → IsInState v e
unfolding file_words_row
file_words_fits v ws e h =
    let c = counted 16 ws _ e h in
    let some = c.1 in
    let few = c.2 in
    let size = length-map ws octal_value in
    fits_by v (map number ws) (states.FileWords (record { items = map octal_value ws })) e refl (λ f. (omega arith, omega arith)) c.0

core_words_fits : (v : ℕ) (a : List ℕ) (ws : List (List ℕ)) (e : StateLine) → core_words_row a ws ≡ Ok e → IsInState v e
unfolding core_words_row
core_words_fits v a ws e h =
    let c = counted 16 ws _ e h in
    let some = c.1 in
    let few = c.2 in
    let size = length-map ws octal_value in
    fits_by v (number_to (2 ^ 18 - length ws) a ∷ map number ws) (states.CoreWords (octal_value a) (record { items = map octal_value ws })) e refl
    (λ f. (let most : octal_value a ≤ 2 ^ 18 - length ws = at_most (2 ^ 18 - length ws) a f.0 in
    ((omega arith, omega arith), omega arith))) c.0

wrote_fits : (v : ℕ) (ws : List (List ℕ)) (e : StateLine) → wrote_row v ws ≡ Ok e → IsInState v e
unfolding wrote_row
wrote_fits v (s ∷ n ∷ ws) e h =
    let c = counted 16 ws _ e h in
    let some = c.1 in
    let few = c.2 in
    let size = length-map ws octal_value in
    fits_by v (slot v s ∷ channel n ∷ map number ws) (states.Wrote (octal_value s) (octal_value n) (record { items = map octal_value ws })) e refl
    (λ f. ((at_most (last_slot v) s f.0, at_most 15 n f.1.0), (omega arith, omega arith))) c.0
wrote_fits v _ e h = cc

sent_fits : (v : ℕ) (ws : List (List ℕ)) (e : StateLine) → sent_row ws ≡ Ok e → IsInState v e
unfolding sent_row
sent_fits v (l ∷ ws) e h =
    let c = counted 16 ws _ e h in
    let some = c.1 in
    let few = c.2 in
    let size = length-map ws octal_value in
    fits_by v (link l ∷ map number ws) (states.Sent (octal_value l) (record { items = map octal_value ws })) e refl
    (λ f. (at_most 15 l f.0, (omega arith, omega arith))) c.0
sent_fits v [] e h = cc

-- a console and its bytes
abbrev AreBytes : ℕ × List ℕ → Type 0
AreBytes x = BytesFit x.0 x.1

bytes_are : (ws : List (List ℕ)) (x : ℕ × List ℕ) → bytes_row ws ≡ Ok x → AreBytes x
unfolding bytes_row
bytes_are [] x h = cc
bytes_are (k ∷ bs) x h =
    let c = counted 32 bs _ x h in
    let some = c.1 in
    let few = c.2 in
    let size = length-map bs octal_value in
    let m = met (console k ∷ map (number_to 127) bs) (octal_value k, map octal_value bs) x c.0 in
    subst AreBytes m.1 (is_console k m.0.0, omega arith, omega arith, are_bytes bs m.0.1)

bytes_fits : (v : ℕ) (line : ℕ → List ℕ → StateLine) (ws : List (List ℕ)) (e : StateLine) → ((x : ℕ × List ℕ) → AreBytes x → IsInState v (line x.0 x.1))
    → of_bytes line (bytes_row ws) ≡ Ok e → IsInState v e
bytes_fits v line ws e fits h = go (bytes_row ws) refl h
  where
    go : (r : Result (ℕ × List ℕ) Bad) → bytes_row ws ≡ r → of_bytes line r ≡ Ok e → IsInState v e
    go (Ok x) t h = let k : line x.0 x.1 ≡ e = cc in subst (IsInState v) k (fits x (bytes_are ws x t))
    go (Err bad) t h = cc

ready_fits : (v : ℕ) (ws : List (List ℕ)) (e : StateLine) → ready_row ws ≡ Ok e → IsInState v e
unfolding ready_row
ready_fits v [] e h = let k : states.Ready ≡ e = cc in subst (IsInState v) k (record { fits = tt; at = refl })
ready_fits v (w ∷ ws) e h = cc

-- from the row to the line
kind_fits : (v : ℕ) (k : StateKind) (first : List ℕ) (ws : List (List ℕ)) (e : StateLine) → state_line_of_kind v k first ws ≡ Ok e → IsInState v e
kind_fits v kinds.Clock first ws e h = clock_fits v ws e h
kind_fits v kinds.File first ws e h = file_fits v ws e h
kind_fits v kinds.FileWords first ws e h = file_words_fits v ws e h
kind_fits v kinds.Job first ws e h = job_fits v ws e h
kind_fits v kinds.CoreWords first ws e h = core_words_fits v (before_slash first) ws e h
kind_fits v kinds.ReadOnly first ws e h = read_only_fits v ws e h
kind_fits v kinds.Symbol first ws e h = symbol_fits v ws e h
kind_fits v kinds.Regs first ws e h = regs_fits v ws e h
kind_fits v kinds.Alarm first ws e h = alarm_fits v ws e h
kind_fits v kinds.Under first ws e h = under_fits v ws e h
kind_fits v kinds.Tty first ws e h = tty_fits v ws e h
kind_fits v kinds.Disk first ws e h = disk_fits v ws e h
kind_fits v kinds.Draft first ws e h = draft_fits v ws e h
kind_fits v kinds.Wrote first ws e h = wrote_fits v ws e h
kind_fits v kinds.Usr first ws e h = usr_fits v ws e h
kind_fits v kinds.Join first ws e h = join_fits v ws e h
kind_fits v kinds.Sent first ws e h = sent_fits v ws e h
kind_fits v kinds.EndShut first ws e h = end_shut_fits v ws e h
kind_fits v kinds.Input first ws e h = bytes_fits v input_line ws e (λ x b. record { fits = b; at = refl }) h
kind_fits v kinds.Output first ws e h = bytes_fits v output_line ws e (λ x b. record { fits = b; at = refl }) h
kind_fits v kinds.Hold first ws e h = hold_fits v ws e h
kind_fits v kinds.Turn first ws e h = turn_fits v ws e h
kind_fits v kinds.Ready first ws e h = ready_fits v ws e h

pub state_line_fits : (v : ℕ) (k : Option StateKind) (first : List ℕ) (ws : List (List ℕ)) (e : StateLine)
    → state_line_of_first v k first ws ≡ Ok e → IsInState v e
state_line_fits v None first ws e h = cc
state_line_fits v (Some k) first ws e h = kind_fits v k first ws e h

-- what fits a version fits version 2
slot_later : (v s : ℕ) → s ≤ last_slot v → s ≤ last_slot 2
unfolding last_slot
slot_later v s h = slot_small v s h

pub state_later_fits : (v : ℕ) (line : StateLine) → StateFits v line → StateFits 2 line
state_later_fits v (states.Job s u j c) f = (slot_later v s f.0, f.1)
state_later_fits v (states.Alarm s p n) f = (slot_later v s f.0, f.1, f.2, f.3)
state_later_fits v (states.Under s t) f = (slot_later v s f.0, slot_later v t f.1)
state_later_fits v (states.Tty s n w) f = (slot_later v s f.0, f.1)
state_later_fits v (states.Disk s n d x y at) f = ((slot_later v s f.0.0, f.0.1), f.1)
state_later_fits v (states.Draft s n d x y) f = (slot_later v s f.0, f.1)
state_later_fits v (states.Wrote s n ws) f = ((slot_later v s f.0.0, f.0.1), f.1)
state_later_fits v (states.Usr s n t w at) f = ((slot_later v s f.0.0, f.0.1), slot_later v t f.1, f.2)
state_later_fits v (states.Join s n l w x y) f = ((slot_later v s f.0.0, f.0.1), f.1)
state_later_fits v (states.Hold c s) f = (f.0, slot_later v s f.1)
state_later_fits v (states.Turn s) f = slot_later v s f
state_later_fits v _ f = f
