-- Each event of a session has the effect of its line.
use Rattle.std.specs.Prelude.{◌≡◌, ◌<◌, ◌≤◌, ◌+◌, ◌^◌, ℕ, true, false, Option, Some, None, is_some, List, [], ◌∷◌, take, Result, Ok, Err, OnOk, IfErr, refl}
use Rattle.std.proofs.Common.{ap, sym, subst, ◌∙◌}
use Rattle.its_word.specs.ArrayVec.{ArrayVec}
use Rattle.its_word.specs.Limits.{slots}
use Rattle.its_files.specs.Files.{Store, entry_at, file_at, is_file, words_at}
use Rattle.its_records.specs.declared.session.Event.{Event}
use Rattle.its_records.specs.declared.session.Event.TheVariants as events
use Rattle.its_records.specs.declared.session.Place.TheVariants as places
use Rattle.its_records.specs.declared.session.Reason.{Reason}
use Rattle.its_records.specs.declared.session.Refusal.{Refusal}
use Rattle.its_records.specs.declared.session.Refusal.TheVariants as refusals
use Rattle.its_records.specs.declared.show.JobShow.{JobShow}
use Rattle.its_print.specs.Printing.{Line}
use Rattle.its_print.specs.Printing as printed
use Rattle.its_session.specs.Events.{place_after}
use Rattle.its_plain.specs.Machine.{Names, File, Whole, Machine}
use Rattle.its_plain.specs.Operator.{Block, Does, Refuses, only, nobody, disturbs, quietly}
use Rattle.its_plain.specs.Operator.Clock.{due, after_clock}
use Rattle.its_plain.specs.Operator.Consoles.{with_typed, dropped, after_drain}
use Rattle.its_plain.specs.Call.File.{file_named}
use Rattle.its_plain.specs.Operator.Files.{with_file_made, with_words_added, files_in, listing, shown_by, shown_lines, file_shown}
use Rattle.its_plain.specs.Operator.Jobs.{after_load, with_words_loaded, with_page_protected, after_go, after_int, after_stop, after_cont, on_registers, examined, state_shown, after_deposit}
use Rattle.its_plain.specs.Operator.Lines.{operate, Done, Peeks, peeked_at, lined, by_load, by_exam, in_a_line, by_state, by_clock, shows}
use Rattle.its_plain.specs.Operator.Symbols.{with_symbol_kept}
use Rattle.its_plain.specs.Operator.Version.{with_version}
use Rattle.its_plain.specs.Machine.Own.{names_of}
use Rattle.its_direct.specs.Clock.{Clocks}
use Rattle.its_direct.specs.Events.{spot_place, CanShow, Speaks, Says, Told, answered}
use Rattle.its_direct.specs.Filing.{Leads}
use Rattle.its_records.specs.Refusals.{reason_of}
use Rattle.its_direct.specs.Lines.{one_slot, Operates, Loads, Stands, Keeps}
use Rattle.its_direct.specs.Plain.{machine_of, is_touched, no_slots}
use Rattle.its_direct.specs.declared.lines.events.Answer.{Answer}
use Rattle.its_direct.specs.declared.lines.events.Answer.TheVariants as answers
use Rattle.its_direct.specs.declared.plain.Plain.{Plain}
use Rattle.its_direct.specs.declared.plain.Spot.{Spot}
use Rattle.its_direct.specs.declared.plain.Spot.TheVariants as spots
use Rattle.its_direct.proofs.FileLaws.{placed_machine}
use Rattle.its_direct.proofs.LineLaws.{only_touched}
use Rattle.its_direct.proofs.ShownLaws.{some_words, version_of}
use Rattle.its_direct.proofs.SlotLaws.{touched_machine}
use Rattle.its_direct.proofs.TouchLaws.{none_touched}

-- lines after which the next one is at the same place
abbrev Settled : Event → Type 0
Settled e = (x : Spot) → place_after (spot_place x) e ≡ spot_place x

settled : (e : Event) → place_after places.Plain e ≡ places.Plain → place_after places.System e ≡ places.System
    → place_after places.Load e ≡ places.Load → place_after places.File e ≡ places.File → Settled e
settled e plain system load file spots.Plain = plain
settled e plain system load file (spots.System s names) = system
settled e plain system load file (spots.Load s) = load
settled e plain system load file (spots.File names) = file

stands_at : (e : Event) (old new : Plain) → Settled e → new.place ≡ old.place → spot_place new.place ≡ place_after (spot_place old.place) e
stands_at e old new at same = ap spot_place same ∙ sym (at old.place)

-- lines that disturb a job, and show nothing
told_operates : (e : Event) (old new : Plain) (s : ℕ) (r : Result Machine Reason) (x : Result (Unit {0}) Refusal)
    → ((b : Block) → Speaks old.place b → lined (machine_of old) b e ≡ Done (disturbs s b r)) → Settled e
    → OnOk x (Operates old new s r) → IfErr x (λ z. r ≡ Err (reason_of z)) → Told e old new (answered x)
told_operates e old new s r (Ok u) line at_place done refused = λ b at. record {
  comes = Done (Does (machine_of new) [] (only s) b);
  is = line b at ∙ ap (λ y. Done (disturbs s b y)) done.is;
  obeys = (refl, done.touched, subst (λ p. Speaks p b) (sym done.place) at, refl, tt);
  leads = stands_at e old new at_place done.place;
}
told_operates e old new s r (Err z) line at_place done refused = λ b at. line b at ∙ ap (λ y. Done (disturbs s b y)) refused

-- lines that disturb nobody, and show nothing
told_keeps : (e : Event) (old new : Plain) (r : Result Machine Reason) (x : Result (Unit {0}) Refusal)
    → ((b : Block) → Speaks old.place b → lined (machine_of old) b e ≡ Done (quietly b r)) → Settled e
    → OnOk x (Keeps old new r) → IfErr x (λ z. r ≡ Err (reason_of z)) → Told e old new (answered x)
told_keeps e old new r (Ok u) line at_place done refused = λ b at. record {
  comes = Done (Does (machine_of new) [] nobody b);
  is = line b at ∙ ap (λ y. Done (quietly b y)) done.is;
  obeys = (refl, done.touched, subst (λ p. Speaks p b) (sym done.place) at, refl, tt);
  leads = stands_at e old new at_place done.place;
}
told_keeps e old new r (Err z) line at_place done refused = λ b at. line b at ∙ ap (λ y. Done (quietly b y)) refused

-- the result of a line that has no answer of its own is what the machine said of it
pub told_as : (e f : Event) (old new : Plain) (x : Result (Unit {0}) Refusal) (r : Result Answer Refusal) → e ≡ f → r ≡ answered x
    → Told f old new (answered x) → Told e old new r
told_as e f old new x r is so h = subst (λ g. Told g old new r) (sym is) (subst (Told f old new) (sym so) h)

pub told_int : (old new : Plain) (s v w : ℕ) (x : Result (Unit {0}) Refusal) → OnOk x (Operates old new s (on_registers (machine_of old) s (after_int v w)))
    → IfErr x (λ z. on_registers (machine_of old) s (after_int v w) ≡ Err (reason_of z)) → Told (events.Int s v w) old new (answered x)
unfolding lined operate
told_int old new s v w x = told_operates (events.Int s v w) old new s (on_registers (machine_of old) s (after_int v w)) x (λ b at. refl)
    (settled (events.Int s v w) refl refl refl refl)

pub told_deposit : (old new : Plain) (s a w : ℕ) (x : Result (Unit {0}) Refusal) → OnOk x (Operates old new s (after_deposit (machine_of old) s a w))
    → IfErr x (λ z. after_deposit (machine_of old) s a w ≡ Err (reason_of z)) → Told (events.Deposit s a w) old new (answered x)
unfolding lined operate
told_deposit old new s a w x = told_operates (events.Deposit s a w) old new s (after_deposit (machine_of old) s a w) x (λ b at. refl)
    (settled (events.Deposit s a w) refl refl refl refl)

pub told_stop : (old new : Plain) (s : ℕ) (x : Result (Unit {0}) Refusal) → OnOk x (Operates old new s (on_registers (machine_of old) s after_stop))
    → IfErr x (λ z. on_registers (machine_of old) s after_stop ≡ Err (reason_of z)) → Told (events.Stop s) old new (answered x)
unfolding lined operate
told_stop old new s x = told_operates (events.Stop s) old new s (on_registers (machine_of old) s after_stop) x (λ b at. refl)
    (settled (events.Stop s) refl refl refl refl)

pub told_cont : (old new : Plain) (s : ℕ) (x : Result (Unit {0}) Refusal) → OnOk x (Operates old new s (on_registers (machine_of old) s after_cont))
    → IfErr x (λ z. on_registers (machine_of old) s after_cont ≡ Err (reason_of z)) → Told (events.Cont s) old new (answered x)
unfolding lined operate
told_cont old new s x = told_operates (events.Cont s) old new s (on_registers (machine_of old) s after_cont) x (λ b at. refl)
    (settled (events.Cont s) refl refl refl refl)

-- lines of a LOAD block
at_load : (old : Plain) (s : ℕ) (b : Block) → old.place ≡ spots.Load s → Speaks old.place b → b.slot ≡ s
at_load old s b e at = subst (λ p. Speaks p b) e at

pub told_words : (old new : Plain) (s a : ℕ) (ws : ArrayVec ℕ) (x : Result (Unit {0}) Refusal) → old.place ≡ spots.Load s
    → OnOk x (Operates old new s (with_words_loaded (machine_of old) s a ws.items))
    → IfErr x (λ z. with_words_loaded (machine_of old) s a ws.items ≡ Err (reason_of z)) → Told (events.Words a ws) old new (answered x)
unfolding lined operate
told_words old new s a ws x e = told_operates (events.Words a ws) old new s (with_words_loaded (machine_of old) s a ws.items) x
    (λ b at. ap (λ (k : ℕ). Done (disturbs k b (with_words_loaded (machine_of old) k a ws.items))) (at_load old s b e at))
    (settled (events.Words a ws) refl refl refl refl)

pub told_read_only : (old new : Plain) (s page : ℕ) (x : Result (Unit {0}) Refusal) → old.place ≡ spots.Load s
    → OnOk x (Operates old new s (with_page_protected (machine_of old) s page))
    → IfErr x (λ z. with_page_protected (machine_of old) s page ≡ Err (reason_of z)) → Told (events.ReadOnly page) old new (answered x)
unfolding lined operate
told_read_only old new s page x e = told_operates (events.ReadOnly page) old new s (with_page_protected (machine_of old) s page) x
    (λ b at. ap (λ (k : ℕ). Done (disturbs k b (with_page_protected (machine_of old) k page))) (at_load old s b e at))
    (settled (events.ReadOnly page) refl refl refl refl)

pub told_symbol : (old new : Plain) (s name a : ℕ) (x : Result (Unit {0}) Refusal) → old.place ≡ spots.Load s
    → OnOk x (Keeps old new (with_symbol_kept (machine_of old) s name a))
    → IfErr x (λ z. with_symbol_kept (machine_of old) s name a ≡ Err (reason_of z)) → Told (events.Symbol name a) old new (answered x)
unfolding lined operate
told_symbol old new s name a x e = told_keeps (events.Symbol name a) old new (with_symbol_kept (machine_of old) s name a) x
    (λ b at. ap (λ (k : ℕ). Done (quietly b (with_symbol_kept (machine_of old) k name a))) (at_load old s b e at))
    (settled (events.Symbol name a) refl refl refl refl)

-- lines of a FILE block
at_file : (old : Plain) (n : Names) (b : Block) → old.place ≡ spots.File n → Speaks old.place b → b.file ≡ n
at_file old n b e at = subst (λ p. Speaks p b) e at

pub told_append : (old new : Plain) (n : Names) (ws : ArrayVec ℕ) (x : Result (Unit {0}) Refusal) → old.place ≡ spots.File n
    → OnOk x (Keeps old new (with_words_added (machine_of old) n ws.items))
    → IfErr x (λ z. with_words_added (machine_of old) n ws.items ≡ Err (reason_of z)) → Told (events.Append ws) old new (answered x)
unfolding lined operate
told_append old new n ws x e = told_keeps (events.Append ws) old new (with_words_added (machine_of old) n ws.items) x
    (λ b at. ap (λ (k : Names). Done (quietly b (with_words_added (machine_of old) k ws.items))) (at_file old n b e at))
    (settled (events.Append ws) refl refl refl refl)

pub told_file : (old new : Plain) (d x y : ℕ) (r : Result (Unit {0}) Refusal)
    → OnOk r (Leads old new (spots.File (names_of d x y)) (with_file_made (machine_of old) (names_of d x y)))
    → IfErr r (λ z. with_file_made (machine_of old) (names_of d x y) ≡ Err (reason_of z)) → Told (events.File d x y) old new (answered r)
unfolding lined operate
told_file old new d x y (Ok u) done refused = λ b at. record {
  comes = Done (Does (machine_of new) [] nobody (record b { file = names_of d x y }));
  is = ap (λ r. Done (quietly (record b { file = names_of d x y }) r)) done.is;
  obeys = (refl, done.touched, subst (λ p. Speaks p (record b { file = names_of d x y })) (sym done.place) refl, refl, tt);
  leads = ap spot_place done.place;
}
told_file old new d x y (Err z) done refused = λ b at. ap (λ r. Done (quietly (record b { file = names_of d x y }) r)) refused

-- CLOCK
pub told_clock : (old new : Plain) (n : ℕ) (x : Result (Unit {0}) Refusal) → OnOk x (Clocks old new n (after_clock (machine_of old) n))
    → IfErr x (λ z. after_clock (machine_of old) n ≡ Err (reason_of z)) → Told (events.Clock n) old new (answered x)
unfolding lined operate
told_clock old new n (Ok u) done refused = λ b at. record {
  comes = Done (Does (machine_of new) [] (due ((machine_of old).clock + n) (machine_of old).jobs) b);
  is = ap (λ r. Done (by_clock (machine_of old) b n r)) done.is;
  obeys = (refl, done.touched, subst (λ p. Speaks p b) (sym done.place) at, refl, tt);
  leads = stands_at (events.Clock n) old new (settled (events.Clock n) refl refl refl refl) done.place;
}
told_clock old new n (Err z) done refused = λ b at. ap (λ r. Done (by_clock (machine_of old) b n r)) refused

-- lines that show something of a job, and touch it
told_looks : (e : Event) (a : Answer) (old new : Plain) (s : ℕ) (out : List Line) → s < slots → new ≡ record old { touched = one_slot s }
    → ((b : Block) → lined (machine_of old) b e ≡ Done (Does (machine_of old) out (only s) b)) → Says a new out → CanShow a new → Settled e
    → Told e old new (Ok a)
told_looks e a old new s out l t line says can at_place = λ b at. record {
  comes = Done (Does (machine_of old) out (only s) b);
  is = line b;
  obeys = (
    touched_machine old new (one_slot s) t,
    only_touched old new s l t,
    subst (λ p. Speaks p b) (sym (ap (λ (p : Plain). p.place) t)) at,
    says,
    can,
  );
  leads = stands_at e old new at_place (ap (λ (p : Plain). p.place) t);
}

pub told_exam : (old new : Plain) (s a n : ℕ) (ws : ArrayVec ℕ) → s < slots → examined (machine_of old) s a n ≡ Ok ws.items
    → new ≡ record old { touched = one_slot s } → Told (events.Exam s a n) old new (Ok (answers.Words s a ws))
unfolding lined operate
told_exam old new s a n ws l found t =
    told_looks (events.Exam s a n) (answers.Words s a ws) old new s (in_a_line s a ws.items) l t
    (λ b. ap (λ r. Done (by_exam (machine_of old) b s (in_a_line s a) r)) found) refl tt (settled (events.Exam s a n) refl refl refl refl)

pub told_exam_refused : (old new : Plain) (s a n : ℕ) (z : Refusal) → examined (machine_of old) s a n ≡ Err (reason_of z)
    → Told (events.Exam s a n) old new (Err z)
unfolding lined operate
told_exam_refused old new s a n z refused = λ b at. ap (λ r. Done (by_exam (machine_of old) b s (in_a_line s a) r)) refused

pub told_list : (old new : Plain) (s a n : ℕ) (ws : ArrayVec ℕ) → s < slots → a < 2 ^ 18 → 1 ≤ n → examined (machine_of old) s a n ≡ Ok ws.items
    → new ≡ record old { touched = one_slot s } → Told (events.List s a n) old new (Ok (answers.Listed s a ws))
unfolding lined operate
told_list old new s a n ws l below some found t =
    told_looks (events.List s a n) (answers.Listed s a ws) old new s (printed.listed s a ws.items) l t
    (λ b. ap (λ r. Done (by_exam (machine_of old) b s (printed.listed s a) r)) found) refl (below, some_words (machine_of old) s a n ws.items some found)
    (settled (events.List s a n) refl refl refl refl)

pub told_list_refused : (old new : Plain) (s a n : ℕ) (z : Refusal) → examined (machine_of old) s a n ≡ Err (reason_of z)
    → Told (events.List s a n) old new (Err z)
unfolding lined operate
told_list_refused old new s a n z refused = λ b at. ap (λ r. Done (by_exam (machine_of old) b s (printed.listed s a) r)) refused

pub told_state : (old new : Plain) (s : ℕ) (show : JobShow) → s < slots → state_shown (machine_of old) s ≡ Ok show
    → new ≡ record old { touched = one_slot s } → Told (events.State s) old new (Ok (answers.State new.version s show))
unfolding lined operate
told_state old new s show l found t =
    told_looks (events.State s) (answers.State new.version s show) old new s (printed.State (machine_of old).version s show ∷ []) l t
    (λ b. ap (λ r. Done (by_state (machine_of old) b s r)) found)
    (ap (λ (v : ℕ). printed.State v s show ∷ []) (version_of old ∙ sym (ap (λ (p : Plain). p.version) t))) tt
    (settled (events.State s) refl refl refl refl)

pub told_state_refused : (old new : Plain) (s : ℕ) (z : Refusal) → state_shown (machine_of old) s ≡ Err (reason_of z)
    → Told (events.State s) old new (Err z)
unfolding lined operate
told_state_refused old new s z refused = λ b at. ap (λ r. Done (by_state (machine_of old) b s r)) refused

-- LOAD, TYPE and DRAIN
pub told_load : (old new : Plain) (u j s : ℕ) (console : Option ℕ) → Loads old new s (after_load (machine_of old) u j console)
    → Told (events.Load u j console) old new (Ok (answers.Loaded s))
unfolding lined operate
told_load old new u j s console done = λ b at. record {
  comes = Done (Does (machine_of new) (printed.Loaded s ∷ []) (only s) (record b { slot = s }));
  is = ap (λ r. Done (by_load b r)) done.is;
  obeys = (refl, done.touched, subst (λ p. Speaks p (record b { slot = s })) (sym done.place) refl, refl, tt);
  leads = ap spot_place done.place;
}

pub told_load_refused : (old new : Plain) (u j : ℕ) (console : Option ℕ) (z : Refusal)
    → after_load (machine_of old) u j console ≡ Err (reason_of z) → Told (events.Load u j console) old new (Err z)
unfolding lined operate
told_load_refused old new u j console z refused = λ b at. ap (λ r. Done (by_load b r)) refused

pub told_type : (old new : Plain) (c n : ℕ) (bytes : ArrayVec ℕ) → n ≡ dropped ((machine_of old).consoles c) bytes.items
    → Stands old new (with_typed c bytes.items (machine_of old)) → Told (events.TypeIn c bytes) old new (Ok (answers.Typed c n))
unfolding lined operate
told_type old new c n bytes is done = λ b at. record {
  comes = Done (Does (with_typed c bytes.items (machine_of old)) (printed.Typed c (dropped ((machine_of old).consoles c) bytes.items) ∷ []) nobody b);
  is = refl;
  obeys = (done.machine, done.touched, subst (λ p. Speaks p b) (sym done.place) at, ap (λ (k : ℕ). printed.Typed c k ∷ []) (sym is), tt);
  leads = stands_at (events.TypeIn c bytes) old new (settled (events.TypeIn c bytes) refl refl refl refl) done.place;
}

pub told_drain : (old new : Plain) (c n : ℕ) (bytes : ArrayVec ℕ) → bytes.items ≡ take n ((machine_of old).consoles c).output
    → Stands old new (after_drain c n (machine_of old)) → Told (events.Drain c n) old new (Ok (answers.Drained c bytes))
unfolding lined operate
told_drain old new c n bytes is done = λ b at. record {
  comes = Done (Does (after_drain c n (machine_of old)) (printed.Drained c (take n ((machine_of old).consoles c).output) ∷ []) nobody b);
  is = refl;
  obeys = (done.machine, done.touched, subst (λ p. Speaks p b) (sym done.place) at, ap (λ (k : List ℕ). printed.Drained c k ∷ []) (sym is), tt);
  leads = stands_at (events.Drain c n) old new (settled (events.Drain c n) refl refl refl refl) done.place;
}

-- the words of a line as a slice
pub told_words_in : (old new : Plain) (s a : ℕ) (ws : ArrayVec ℕ) (xs : List ℕ) (x : Result (Unit {0}) Refusal) → xs ≡ ws.items
    → old.place ≡ spots.Load s → OnOk x (Operates old new s (with_words_loaded (machine_of old) s a xs))
    → IfErr x (λ z. with_words_loaded (machine_of old) s a xs ≡ Err (reason_of z)) → Told (events.Words a ws) old new (answered x)
told_words_in old new s a ws xs x is e done refused =
    told_words old new s a ws x e (subst (λ (l : List ℕ). OnOk x (Operates old new s (with_words_loaded (machine_of old) s a l))) is done)
    (subst (λ (l : List ℕ). IfErr x (λ z. with_words_loaded (machine_of old) s a l ≡ Err (reason_of z))) is refused)

pub told_append_in : (old new : Plain) (n : Names) (ws : ArrayVec ℕ) (xs : List ℕ) (x : Result (Unit {0}) Refusal) → xs ≡ ws.items
    → old.place ≡ spots.File n → OnOk x (Keeps old new (with_words_added (machine_of old) n xs))
    → IfErr x (λ z. with_words_added (machine_of old) n xs ≡ Err (reason_of z)) → Told (events.Append ws) old new (answered x)
told_append_in old new n ws xs x is e done refused =
    told_append old new n ws x e (subst (λ (l : List ℕ). OnOk x (Keeps old new (with_words_added (machine_of old) n l))) is done)
    (subst (λ (l : List ℕ). IfErr x (λ z. with_words_added (machine_of old) n l ≡ Err (reason_of z))) is refused)

pub told_type_in : (old new : Plain) (c n : ℕ) (bytes : ArrayVec ℕ) (xs : List ℕ) → xs ≡ bytes.items
    → n ≡ dropped ((machine_of old).consoles c) xs → Stands old new (with_typed c xs (machine_of old))
    → Told (events.TypeIn c bytes) old new (Ok (answers.Typed c n))
told_type_in old new c n bytes xs is lost done =
    told_type old new c n bytes (subst (λ (l : List ℕ). n ≡ dropped ((machine_of old).consoles c) l) is lost)
    (subst (λ (l : List ℕ). Stands old new (with_typed c l (machine_of old))) is done)

-- GO and EOF, which end a block
pub told_go : (old mid new : Plain) (s a : ℕ) → old.place ≡ spots.Load s → Operates old mid s (on_registers (machine_of old) s (after_go a))
    → new ≡ record mid { place = spots.Plain } → Told (events.Go a) old new (Ok answers.Nothing)
unfolding lined operate
told_go old mid new s a e done placed = λ b at. record {
  comes = Done (Does (machine_of mid) [] (only s) b);
  is = ap (λ (k : ℕ). Done (disturbs k b (on_registers (machine_of old) k (after_go a)))) (at_load old s b e at) ∙ ap (λ y. Done (disturbs s b y)) done.is;
  obeys = (
    placed_machine mid new spots.Plain placed,
    (λ k. ap (λ (p : Plain). is_touched p k) placed ∙ done.touched k),
    subst (λ p. Speaks p b) (sym (ap (λ (p : Plain). p.place) placed)) tt,
    refl,
    tt,
  );
  leads = ap (λ (p : Plain). spot_place p.place) placed;
}

pub told_go_refused : (old new : Plain) (s a : ℕ) (z : Refusal) → old.place ≡ spots.Load s
    → on_registers (machine_of old) s (after_go a) ≡ Err (reason_of z) → Told (events.Go a) old new (Err z)
unfolding lined operate
told_go_refused old new s a z e refused = λ b at.
    ap (λ (k : ℕ). Done (disturbs k b (on_registers (machine_of old) k (after_go a)))) (at_load old s b e at) ∙ ap (λ y. Done (disturbs s b y)) refused

ok_is : (m n : Machine) (r : Result Machine Reason) → r ≡ Ok m → r ≡ Ok n → n ≡ m
ok_is m n r e f = cc

pub told_end : (old new : Plain) → Leads old new spots.Plain (Ok (machine_of old)) → Told events.EndFile old new (Ok answers.Nothing)
unfolding lined operate
told_end old new done = λ b at. record {
  comes = Done (Does (machine_of old) [] nobody b);
  is = refl;
  obeys = (ok_is (machine_of old) (machine_of new) (Ok (machine_of old)) refl done.is, done.touched, subst (λ p. Speaks p b) (sym done.place) tt, refl, tt);
  leads = ap spot_place done.place;
}

-- VERSION
pub told_version : (old new : Plain) (v : ℕ) → Stands old new (with_version (machine_of old) v) → Told (events.Version v) old new (Ok answers.Nothing)
unfolding lined operate
told_version old new v done = λ b at. record {
  comes = Done (Does (with_version (machine_of old) v) [] nobody b);
  is = refl;
  obeys = (done.machine, done.touched, subst (λ p. Speaks p b) (sym done.place) at, refl, tt);
  leads = stands_at (events.Version v) old new (settled (events.Version v) refl refl refl refl) done.place;
}

-- lines that leave the machine: those without words, DIR and SHOW
module _ (old new : Plain) (e : new ≡ record old { touched = no_slots }) where
  same_machine : machine_of new ≡ machine_of old
  same_machine = touched_machine old new no_slots e

  same_files : new.files ≡ old.files
  same_files = ap (λ (p : Plain). p.files) e

  none : (k : ℕ) → is_touched new k ≡ false
  none = none_touched new.touched (ap (λ (p : Plain). p.touched) e)

  at_same : (b : Block) → Speaks old.place b → Speaks new.place b
  at_same b at = subst (λ p. Speaks p b) (sym (ap (λ (p : Plain). p.place) e)) at

  same_place : (x : Event) → Settled x → spot_place new.place ≡ place_after (spot_place old.place) x
  same_place x at = stands_at x old new at (ap (λ (p : Plain). p.place) e)

  pub told_nothing : Told events.Nothing old new (Ok answers.Nothing)
  unfolding lined operate
  told_nothing = λ b at. record {
    comes = Done (Does (machine_of old) [] nobody b);
    is = refl;
    obeys = (same_machine, none, at_same b at, refl, tt);
    leads = same_place events.Nothing (settled events.Nothing refl refl refl refl);
  }

  pub told_dir : (d : ℕ) → Told (events.Dir d) old new (Ok (answers.Files d))
  unfolding lined operate
  told_dir d = λ b at. record {
    comes = Done (Does (machine_of old) (listing d (files_in d (machine_of old).files)) nobody b);
    is = refl;
    obeys = (same_machine, none, at_same b at, ap (λ (m : Machine). listing d (files_in d m.files)) (sym same_machine), tt);
    leads = same_place (events.Dir d) (settled (events.Dir d) refl refl refl refl);
  }

  pub told_show : (d x y id : ℕ) → file_named (names_of d x y) (machine_of old).files ≡ Some (file_at old.files id)
      → is_file (entry_at old.files id) ≡ true → Told (events.Show d x y) old new (Ok (answers.File id d x y))
  unfolding lined operate file_shown
  told_show d x y id is there = λ b at. record {
    comes = Done (Does (machine_of old) (shown_lines d x y (words_at old.files id)) nobody b);
    is = ap (λ o. Done (shows (machine_of old) b (shown_by d x y o))) is;
    obeys = (
      same_machine,
      none,
      at_same b at,
      ap (λ (f : Store). shown_lines d x y (words_at f id)) (sym same_files),
      subst (λ (f : Store). is_file (entry_at f id) ≡ true) (sym same_files) there,
    );
    leads = same_place (events.Show d x y) (settled (events.Show d x y) refl refl refl refl);
  }

pub told_show_refused : (old new : Plain) (d x y : ℕ) → file_named (names_of d x y) (machine_of old).files ≡ None
    → Told (events.Show d x y) old new (Err refusals.NoFile)
unfolding lined operate file_shown
told_show_refused old new d x y is = λ b at. ap (λ o. Done (shows (machine_of old) b (shown_by d x y o))) is

-- PEEK
whole_of : (o : Option Whole) → is_some o ≡ true → (q : Whole) × (o ≡ Some q)
whole_of (Some q) h = (q, refl)
whole_of None h = cc

pub told_peek : (old new : Plain) (s : ℕ) → Stands old new (machine_of old) → is_some ((machine_of old).jobs s) ≡ true
    → Told (events.Peek s) old new (Ok answers.Peeked)
unfolding lined
told_peek old new s done some = λ b at. let q = whole_of ((machine_of old).jobs s) some in record {
  comes = Peeks s;
  is = ap (peeked_at s) q.1;
  obeys = (done.machine, done.touched, done.place, refl);
  leads = stands_at (events.Peek s) old new (settled (events.Peek s) refl refl refl refl) done.place;
}

pub told_peek_refused : (old new : Plain) (s : ℕ) (z : Refusal) → z ≡ refusals.NoJob → (machine_of old).jobs s ≡ None
    → Told (events.Peek s) old new (Err z)
unfolding lined
told_peek_refused old new s z is none = λ b at. ap (peeked_at s) none ∙ ap (λ (k : Refusal). Done (Refuses (reason_of k))) (sym is)
