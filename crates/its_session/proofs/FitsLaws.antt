-- An event that was read fits the table of lines.
use Rattle.std.proofs.Common.{if◌then◌else◌, ◌≡◌, ◌≤◌, ◌-◌, ◌^◌, ◌∙◌, ap, ℕ, Bool, true, false, Option, Some, None, Result, Ok, Err, List, [], ◌∷◌, length, map, leb, refl, subst, arith, IfOk}
use Rattle.std.proofs.lemmas.List.{length-map}
use Rattle.its_word.specs.Text.{octal_value, sixbit_of}
use Rattle.its_records.specs.declared.session.Event.{Event}
use Rattle.its_records.specs.declared.session.Event.TheVariants as events
use Rattle.its_records.specs.declared.session.Place.{Place}
use Rattle.its_records.specs.declared.session.Place.TheVariants as places
use Rattle.its_records.specs.declared.session.Bad.{Bad}
use Rattle.its_records.specs.declared.session.Bad.TheVariants as bads
use Rattle.its_records.specs.declared.state_line.StateLine.{StateLine}
use Rattle.its_records.specs.declared.state_line.StateLine.TheVariants as states
use Rattle.its_session.specs.StateGrammar.{state_kind_of, state_line_of_first, system_row, restores}
use Rattle.its_session.specs.declared.kind.Kind.{Kind}
use Rattle.its_session.specs.declared.kind.Kind.TheVariants as kinds
use Rattle.its_session.specs.Fits.{EventFits, SpanFits, IsNameWord, place_of, Stands}
use Rattle.its_session.specs.Grammar.{Field, with_fields, number, number_to, count_to, last_slot, slot, page, address, name, console, console_or_dash, console_given, of_slot, of_span, load_line, words_line, go_line, file_line, append_line, bare_line, tick_line, run_line, type_line, drain_line, clock_line, int_line, span_line, deposit_line, slot_line, dir_line, show_line, version_line, read_only_line, symbol_line, before_slash, kind_of, may_stand, is_at, place_of_kind, version_of_kind, line_of_kind, line_of_first, is_comment, event_of_words, line_at}
use Rattle.its_session.proofs.MetLaws.{AllMet, Met, are_bytes, at_most, counted, from_one, is_address, is_console, may_be_console, met, number_below, slot_small}
use Rattle.its_session.proofs.NameLaws.{both}
use Rattle.its_session.proofs.StateFitsLaws.{IsInState, state_line_fits, state_later_fits}

-- an event that was read fits the table, and its line is allowed at its place
record ReadAt (v : ℕ) (place : Place) (e : Event) : Type 0 where
  pub fits : EventFits v e
  pub at : place_of e ≡ place

-- an event fits if its fields are met
fits_by : (v : ℕ) (fields : List Field) (d e : Event) → (AllMet fields → EventFits v d) → with_fields fields d ≡ Ok e → ReadAt v (place_of d) e
fits_by v fields d e fits h = let m = met fields d e h in subst (ReadAt v (place_of d)) m.1 (record { fits = fits m.0; at = refl })

-- what fields that are met say
is_name_word : (w : List ℕ) → Met (name w) → IsNameWord (sixbit_of w)
is_name_word w f = record { text = w; formed = f.formed; coded = refl }

-- the rows of the table
load_fits : (v : ℕ) (ws : List (List ℕ)) (e : Event) → load_line ws ≡ Ok e → ReadAt v places.Plain e
unfolding load_line
load_fits v (u ∷ j ∷ c ∷ []) e h =
    fits_by v (name u ∷ name j ∷ console_or_dash c ∷ []) (events.Load (sixbit_of u) (sixbit_of j) (console_given c)) e
    (λ f. (is_name_word u f.0, is_name_word j f.1.0, may_be_console c f.1.1.0)) h
load_fits v _ e h = cc

words_fits : (v : ℕ) (a : List ℕ) (ws : List (List ℕ)) (e : Event) → words_line a ws ≡ Ok e → ReadAt v places.Load e
unfolding words_line
words_fits v a ws e h =
    let c = counted 16 ws _ e h in
    let some = c.1 in
    let few = c.2 in
    let l = length-map ws octal_value in
    fits_by v (number_to (2 ^ 18 - length ws) a ∷ map number ws) (events.Words (octal_value a) (record { items = map octal_value ws })) e
    (λ f. (let most : octal_value a ≤ 2 ^ 18 - length ws = at_most (2 ^ 18 - length ws) a f.0 in
    (omega arith, omega arith, omega arith))) c.0

go_fits : (v : ℕ) (ws : List (List ℕ)) (e : Event) → go_line ws ≡ Ok e → ReadAt v places.Load e
unfolding go_line
go_fits v (a ∷ []) e h = fits_by v (address a ∷ []) (events.Go (octal_value a)) e (λ f. is_address a f.0) h
go_fits v [] e h = cc
go_fits v (a ∷ b ∷ ws) e h = cc

file_fits : (v : ℕ) (ws : List (List ℕ)) (e : Event) → file_line ws ≡ Ok e → ReadAt v places.Plain e
unfolding file_line
file_fits v (d ∷ x ∷ y ∷ []) e h =
    fits_by v (name d ∷ name x ∷ name y ∷ []) (events.File (sixbit_of d) (sixbit_of x) (sixbit_of y)) e
    (λ f. (is_name_word d f.0, is_name_word x f.1.0, is_name_word y f.1.1.0)) h
file_fits v _ e h = cc

append_fits : (v : ℕ) (ws : List (List ℕ)) (e : Event) → append_line ws ≡ Ok e → ReadAt v places.File e
unfolding append_line
append_fits v ws e h =
    let c = counted 16 ws _ e h in
    let some = c.1 in
    let few = c.2 in
    let l = length-map ws octal_value in
    fits_by v (map number ws) (events.Append (record { items = map octal_value ws })) e (λ f. (omega arith, omega arith)) c.0

tick_fits : (v : ℕ) (ws : List (List ℕ)) (e : Event) → tick_line v ws ≡ Ok e → ReadAt v places.Plain e
unfolding tick_line
tick_fits v (s ∷ n ∷ []) e h =
    fits_by v (slot v s ∷ count_to 512 n ∷ []) (events.Tick (octal_value s) (octal_value n)) e
    (λ f. (let n_in = from_one 512 n f.1.0 in (at_most (last_slot v) s f.0, n_in.0, n_in.1))) h
tick_fits v _ e h = cc

run_fits : (v : ℕ) (ws : List (List ℕ)) (e : Event) → run_line ws ≡ Ok e → ReadAt v places.Plain e
unfolding run_line
run_fits v (n ∷ q ∷ []) e h =
    fits_by v (count_to 512 n ∷ count_to 64 q ∷ []) (events.Run (octal_value n) (octal_value q)) e
    (λ f. (let n_in = from_one 512 n f.0 in let q_in = from_one 64 q f.1.0 in (n_in.0, n_in.1, q_in.0, q_in.1))) h
run_fits v _ e h = cc

type_fits : (v : ℕ) (ws : List (List ℕ)) (e : Event) → type_line ws ≡ Ok e → ReadAt v places.Plain e
unfolding type_line
type_fits v [] e h = cc
type_fits v (k ∷ bs) e h =
    let c = counted 32 bs _ e h in
    let some = c.1 in
    let few = c.2 in
    let l = length-map bs octal_value in
    fits_by v (console k ∷ map (number_to 127) bs) (events.TypeIn (octal_value k) (record { items = map octal_value bs })) e
    (λ f. (is_console k f.0, omega arith, omega arith, are_bytes bs f.1)) c.0

drain_fits : (v : ℕ) (ws : List (List ℕ)) (e : Event) → drain_line ws ≡ Ok e → ReadAt v places.Plain e
unfolding drain_line
drain_fits v (c ∷ n ∷ []) e h =
    fits_by v (console c ∷ count_to 64 n ∷ []) (events.Drain (octal_value c) (octal_value n)) e
    (λ f. (let n_in = from_one 64 n f.1.0 in (is_console c f.0, n_in.0, n_in.1))) h
drain_fits v _ e h = cc

clock_fits : (v : ℕ) (ws : List (List ℕ)) (e : Event) → clock_line ws ≡ Ok e → ReadAt v places.Plain e
unfolding clock_line
clock_fits v (n ∷ []) e h = fits_by v (number n ∷ []) (events.Clock (octal_value n)) e (λ f. number_below n f.0.formed) h
clock_fits v [] e h = cc
clock_fits v (n ∷ x ∷ ws) e h = cc

int_fits : (v : ℕ) (ws : List (List ℕ)) (e : Event) → int_line v ws ≡ Ok e → ReadAt v places.Plain e
unfolding int_line
int_fits v (s ∷ p ∷ q ∷ []) e h =
    fits_by v (slot v s ∷ number p ∷ number q ∷ []) (events.Int (octal_value s) (octal_value p) (octal_value q)) e (λ f. at_most (last_slot v) s f.0) h
int_fits v _ e h = cc

-- a slot, a first address and a count
abbrev IsSpan : ℕ → ℕ × ℕ × ℕ → Type 0
IsSpan v x = SpanFits v x.0 x.1 x.2

span_is : (v : ℕ) (ws : List (List ℕ)) (x : ℕ × ℕ × ℕ) → span_line v ws ≡ Ok x → IsSpan v x
unfolding span_line
span_is v (s ∷ a ∷ n ∷ []) x h =
    let m = met (slot v s ∷ number_to (2 ^ 18 - octal_value n) a ∷ count_to 8 n ∷ []) (octal_value s, octal_value a, octal_value n) x h in
    let n_in = from_one 8 n m.0.1.1.0 in
    let few = n_in.1 in
    let most = at_most (2 ^ 18 - octal_value n) a m.0.1.0 in
    subst (IsSpan v) m.1 (at_most (last_slot v) s m.0.0, n_in.0, n_in.1, omega arith)
span_is v _ x h = cc

span_fits : (v : ℕ) (event : ℕ → ℕ → ℕ → Event) (ws : List (List ℕ)) (e : Event) → ((x : ℕ × ℕ × ℕ) → IsSpan v x → ReadAt v places.Plain (event x.0 x.1 x.2))
    → of_span event (span_line v ws) ≡ Ok e → ReadAt v places.Plain e
span_fits v event ws e fits h = go (span_line v ws) refl h
  where
    go : (r : Result (ℕ × ℕ × ℕ) Bad) → span_line v ws ≡ r → of_span event r ≡ Ok e → ReadAt v places.Plain e
    go (Ok x) t h = let k : event x.0 x.1 x.2 ≡ e = cc in subst (ReadAt v places.Plain) k (fits x (span_is v ws x t))
    go (Err bad) t h = cc

deposit_fits : (v : ℕ) (ws : List (List ℕ)) (e : Event) → deposit_line v ws ≡ Ok e → ReadAt v places.Plain e
unfolding deposit_line
deposit_fits v (s ∷ a ∷ w ∷ []) e h =
    fits_by v (slot v s ∷ address a ∷ number w ∷ []) (events.Deposit (octal_value s) (octal_value a) (octal_value w)) e
    (λ f. (at_most (last_slot v) s f.0, is_address a f.1.0)) h
deposit_fits v _ e h = cc

slot_is : (v : ℕ) (ws : List (List ℕ)) (s : ℕ) → slot_line v ws ≡ Ok s → s ≤ last_slot v
unfolding slot_line
slot_is v (w ∷ []) s h = let m = met (slot v w ∷ []) (octal_value w) s h in subst (λ k. k ≤ last_slot v) m.1 (at_most (last_slot v) w m.0.0)
slot_is v [] s h = cc
slot_is v (w ∷ x ∷ ws) s h = cc

slot_fits : (v : ℕ) (event : ℕ → Event) (ws : List (List ℕ)) (e : Event) → ((s : ℕ) → s ≤ last_slot v → ReadAt v places.Plain (event s))
    → of_slot event (slot_line v ws) ≡ Ok e → ReadAt v places.Plain e
slot_fits v event ws e fits h = go (slot_line v ws) refl h
  where
    go : (r : Result ℕ Bad) → slot_line v ws ≡ r → of_slot event r ≡ Ok e → ReadAt v places.Plain e
    go (Ok s) t h = let k : event s ≡ e = cc in subst (ReadAt v places.Plain) k (fits s (slot_is v ws s t))
    go (Err bad) t h = cc

dir_fits : (v : ℕ) (ws : List (List ℕ)) (e : Event) → dir_line ws ≡ Ok e → ReadAt v places.Plain e
unfolding dir_line
dir_fits v (d ∷ []) e h = fits_by v (name d ∷ []) (events.Dir (sixbit_of d)) e (λ f. is_name_word d f.0) h
dir_fits v [] e h = cc
dir_fits v (d ∷ x ∷ ws) e h = cc

show_fits : (v : ℕ) (ws : List (List ℕ)) (e : Event) → show_line ws ≡ Ok e → ReadAt v places.Plain e
unfolding show_line
show_fits v (d ∷ x ∷ y ∷ []) e h =
    fits_by v (name d ∷ name x ∷ name y ∷ []) (events.Show (sixbit_of d) (sixbit_of x) (sixbit_of y)) e
    (λ f. (is_name_word d f.0, is_name_word x f.1.0, is_name_word y f.1.1.0)) h
show_fits v _ e h = cc

bare_fits : (v : ℕ) (d : Event) (ws : List (List ℕ)) (e : Event) → EventFits v d → bare_line d ws ≡ Ok e → ReadAt v (place_of d) e
unfolding bare_line
bare_fits v d [] e fits h = let k : d ≡ e = cc in subst (ReadAt v (place_of d)) k (record { fits = fits; at = refl })
bare_fits v d (x ∷ ws) e fits h = cc

version_fits : (v : ℕ) (ws : List (List ℕ)) (e : Event) → version_line ws ≡ Ok e → ReadAt v places.First e
unfolding version_line
version_fits v (n ∷ []) e h = fits_by v (count_to 2 n ∷ []) (events.Version (octal_value n)) e (λ f. from_one 2 n f.0) h
version_fits v [] e h = cc
version_fits v (n ∷ x ∷ ws) e h = cc

read_only_fits : (v : ℕ) (ws : List (List ℕ)) (e : Event) → read_only_line ws ≡ Ok e → ReadAt v places.Load e
unfolding read_only_line
read_only_fits v (p ∷ []) e h = fits_by v (page p ∷ []) (events.ReadOnly (octal_value p)) e (λ f. at_most 255 p f.0) h
read_only_fits v [] e h = cc
read_only_fits v (p ∷ x ∷ ws) e h = cc

symbol_fits : (v : ℕ) (ws : List (List ℕ)) (e : Event) → symbol_line ws ≡ Ok e → ReadAt v places.Load e
unfolding symbol_line
symbol_fits v (x ∷ a ∷ []) e h = fits_by v (name x ∷ address a ∷ []) (events.Symbol (sixbit_of x) (octal_value a)) e
    (λ f. (is_name_word x f.0, is_address a f.1.0)) h
symbol_fits v _ e h = cc

system_fits : (v : ℕ) (ws : List (List ℕ)) (e : Event) → restores (system_row ws) ≡ Ok e → ReadAt v places.First e
unfolding system_row
system_fits v (n ∷ []) e h = go (system_row (n ∷ [])) refl h
  where
    go : (r : Result StateLine Bad) → with_fields (count_to 2 n ∷ []) (states.System (octal_value n)) ≡ r → restores r ≡ Ok e → ReadAt v places.First e
    go (Ok line) t h =
        let m = met (count_to 2 n ∷ []) (states.System (octal_value n)) line t in
        let k : events.Restore line ≡ e = cc in
        subst (ReadAt v places.First) (ap events.Restore m.1 ∙ k) (record { fits = from_one 2 n m.0.0; at = refl })
    go (Err bad) t h = cc
system_fits v [] e h = cc
system_fits v (n ∷ x ∷ ws) e h = cc

-- an event whose place is this one is allowed there
stands_by : (place : Place) (e : Event) → is_at place (place_of e) ≡ true → Stands place e
stands_by place events.Nothing h = tt
stands_by place _ h = h

-- from the row to the line
kind_fits : (v : ℕ) (k : Kind) (first : List ℕ) (ws : List (List ℕ)) (e : Event) → line_of_kind v k first ws ≡ Ok e → ReadAt v (place_of_kind k) e
kind_fits v kinds.Version first ws e h = version_fits v ws e h
kind_fits v kinds.System first ws e h = system_fits v ws e h
kind_fits v kinds.Load first ws e h = load_fits v ws e h
kind_fits v kinds.Words first ws e h = words_fits v (before_slash first) ws e h
kind_fits v kinds.ReadOnly first ws e h = read_only_fits v ws e h
kind_fits v kinds.Symbol first ws e h = symbol_fits v ws e h
kind_fits v kinds.Go first ws e h = go_fits v ws e h
kind_fits v kinds.File first ws e h = file_fits v ws e h
kind_fits v kinds.Append first ws e h = append_fits v ws e h
kind_fits v kinds.EndFile first ws e h = bare_fits v events.EndFile ws e tt h
kind_fits v kinds.Tick first ws e h = tick_fits v ws e h
kind_fits v kinds.Run first ws e h = run_fits v ws e h
kind_fits v kinds.TypeIn first ws e h = type_fits v ws e h
kind_fits v kinds.Drain first ws e h = drain_fits v ws e h
kind_fits v kinds.Clock first ws e h = clock_fits v ws e h
kind_fits v kinds.Int first ws e h = int_fits v ws e h
kind_fits v kinds.Exam first ws e h = span_fits v events.Exam ws e (λ x i. record { fits = i; at = refl }) h
kind_fits v kinds.List first ws e h = span_fits v events.List ws e (λ x i. record { fits = i; at = refl }) h
kind_fits v kinds.State first ws e h = slot_fits v events.State ws e (λ s i. record { fits = i; at = refl }) h
kind_fits v kinds.Deposit first ws e h = deposit_fits v ws e h
kind_fits v kinds.Stop first ws e h = slot_fits v events.Stop ws e (λ s i. record { fits = i; at = refl }) h
kind_fits v kinds.Cont first ws e h = slot_fits v events.Cont ws e (λ s i. record { fits = i; at = refl }) h
kind_fits v kinds.Peek first ws e h = slot_fits v events.Peek ws e (λ s i. record { fits = i; at = refl }) h
kind_fits v kinds.Dir first ws e h = dir_fits v ws e h
kind_fits v kinds.Show first ws e h = show_fits v ws e h
kind_fits v kinds.End first ws e h = bare_fits v events.End ws e tt h

first_fits : (v : ℕ) (place : Place) (k : Option Kind) (first : List ℕ) (ws : List (List ℕ)) (e : Event)
    → line_of_first place v k first ws ≡ Ok e → EventFits v e × Stands place e
first_fits v place None first ws e h = cc
first_fits v place (Some k) first ws e h = go (may_stand place v k) refl h
  where
    go : (b : Bool) → may_stand place v k ≡ b → (if b then line_of_kind v k first ws else Err bads.Syntax) ≡ Ok e → EventFits v e × Stands place e
    go true t h =
        let r = kind_fits v k first ws e h in
        (r.fits, stands_by place e (ap (is_at place) r.at ∙ (both (is_at place (place_of_kind k)) (leb (version_of_kind k) v) t).0))
    go false t h = cc

state_fits : (v : ℕ) (r : Result StateLine Bad) (e : Event) → ((line : StateLine) → r ≡ Ok line → IsInState v line) → restores r ≡ Ok e
    → EventFits v e × Stands places.System e
state_fits v (Ok line) e is h =
    let s = is line refl in
    let k : events.Restore line ≡ e = cc in
    subst (λ x. EventFits v x × Stands places.System x) k (s.fits, ap (is_at places.System) s.at)
state_fits v (Err bad) e is h = cc

at_fits : (v : ℕ) (place : Place) (first : List ℕ) (ws : List (List ℕ)) (e : Event) → line_at place v first ws ≡ Ok e → EventFits v e × Stands place e
at_fits v places.System first ws e h =
    state_fits v (state_line_of_first v (state_kind_of first) first ws) e (λ line is. state_line_fits v (state_kind_of first) first ws line is) h
at_fits v places.First first ws e h = first_fits v places.First (kind_of first) first ws e h
at_fits v places.Plain first ws e h = first_fits v places.Plain (kind_of first) first ws e h
at_fits v places.Load first ws e h = first_fits v places.Load (kind_of first) first ws e h
at_fits v places.File first ws e h = first_fits v places.File (kind_of first) first ws e h

words_of_fits : (v : ℕ) (place : Place) (ws : List (List ℕ)) (e : Event) → event_of_words place v ws ≡ Ok e → EventFits v e × Stands place e
unfolding event_of_words
words_of_fits v place [] e h = let k : events.Nothing ≡ e = cc in subst (λ x. EventFits v x × Stands place x) k (tt, tt)
words_of_fits v place (first ∷ ws) e h = go (is_comment first) h
  where
    go : (b : Bool) → (if b then Ok events.Nothing else line_at place v first ws) ≡ Ok e → EventFits v e × Stands place e
    go true h = let k : events.Nothing ≡ e = cc in subst (λ x. EventFits v x × Stands place x) k (tt, tt)
    go false h = at_fits v place first ws e h

pub words_fit : (place : Place) (v : ℕ) (ws : List (List ℕ)) (r : Result Event Bad) → r ≡ event_of_words place v ws → IfOk r (EventFits v)
words_fit place v ws (Ok e) h = let k : event_of_words place v ws ≡ Ok e = cc in (words_of_fits v place ws e k).0
words_fit place v ws (Err bad) h = tt

pub words_stand : (place : Place) (v : ℕ) (ws : List (List ℕ)) (r : Result Event Bad) → r ≡ event_of_words place v ws → IfOk r (Stands place)
words_stand place v ws (Ok e) h = let k : event_of_words place v ws ≡ Ok e = cc in (words_of_fits v place ws e k).1
words_stand place v ws (Err bad) h = tt

-- what fits a version fits version 2
slot_later : (v s : ℕ) → s ≤ last_slot v → s ≤ last_slot 2
unfolding last_slot
slot_later v s h = slot_small v s h

pub later_fits : (v : ℕ) (e : Event) → EventFits v e → EventFits 2 e
later_fits v (events.Restore line) h = state_later_fits v line h
later_fits v (events.Tick s n) h = (slot_later v s h.0, h.1, h.2)
later_fits v (events.Int s p q) h = slot_later v s h
later_fits v (events.Exam s a n) h = (slot_later v s h.0, h.1, h.2, h.3)
later_fits v (events.List s a n) h = (slot_later v s h.0, h.1, h.2, h.3)
later_fits v (events.State s) h = slot_later v s h
later_fits v (events.Deposit s a w) h = (slot_later v s h.0, h.1)
later_fits v (events.Stop s) h = slot_later v s h
later_fits v (events.Cont s) h = slot_later v s h
later_fits v (events.Peek s) h = slot_later v s h
later_fits v _ h = h
