-- Each line of the state part has the effect of its definition.
use Rattle.std.specs.Prelude.{◌≡◌, ◌<◌, ◌+◌, ℕ, Bool, false, true, Option, List, [], Result, Ok, Err, OnOk, IfErr, refl}
use Rattle.std.proofs.Common.{ap, arith, sym, subst, ◌∙◌}
use Rattle.its_word.specs.ArrayVec.{ArrayVec}
use Rattle.its_word.specs.Limits.{slots}
use Rattle.its_records.specs.Refusals.{reason_of}
use Rattle.its_records.specs.declared.session.Event.{Event}
use Rattle.its_records.specs.declared.session.Event.TheVariants as events
use Rattle.its_records.specs.declared.session.Place.{Place}
use Rattle.its_records.specs.declared.session.Place.TheVariants as places
use Rattle.its_records.specs.declared.session.Reason.{Reason}
use Rattle.its_records.specs.declared.session.Refusal.{Refusal}
use Rattle.its_records.specs.declared.state_line.Registers.{Registers}
use Rattle.its_records.specs.declared.state_line.StateLine.{StateLine}
use Rattle.its_records.specs.declared.state_line.StateLine.TheVariants as states
use Rattle.its_session.specs.Events.{place_after}
use Rattle.its_session.specs.Fits.{EventFits}
use Rattle.its_plain.specs.Machine.{Machine, Names}
use Rattle.its_plain.specs.Machine.Own.{names_of}
use Rattle.its_plain.specs.Operator.{Block, Does, disturbs, no_block, nobody, only, quietly}
use Rattle.its_plain.specs.Operator.Clock.{after_clock, due}
use Rattle.its_plain.specs.Operator.Files.{with_file_made, with_words_added}
use Rattle.its_plain.specs.Operator.Jobs.{on_registers, with_page_protected, with_words_loaded}
use Rattle.its_plain.specs.Operator.Lines.{Done, lined, operate}
use Rattle.its_plain.specs.Operator.State.{after_registers, by_clock, restored, with_alarm_set, with_bytes_waiting, with_disk, with_draft, with_end_shut, with_holder_set, with_job_made, with_link, with_superior_set, with_tty, with_usr, with_words_sent, with_words_written}
use Rattle.its_plain.specs.Operator.Symbols.{with_symbol_kept}
use Rattle.its_plain.specs.Operator.Version.{with_version}
use Rattle.its_direct.specs.Clock.{Clocks}
use Rattle.its_direct.specs.Events.{MayStand, Speaks, Told, answered, place_before, spot_place}
use Rattle.its_direct.specs.Lines.{Keeps, Operates, Stands, one_slot}
use Rattle.its_direct.specs.Plain.{is_touched, machine_of, no_slots}
use Rattle.its_direct.specs.State.{LineFits, Restores, place_past}
use Rattle.its_direct.specs.declared.lines.events.Answer.{Answer}
use Rattle.its_direct.specs.declared.lines.events.Answer.TheVariants as answers
use Rattle.its_direct.specs.declared.plain.Plain.{Plain}
use Rattle.its_direct.specs.declared.plain.Spot.TheVariants as spots
use Rattle.its_direct.proofs.FileLaws.{placed_machine}
use Rattle.its_direct.proofs.LineLaws.{only_touched}
use Rattle.its_direct.proofs.SlotLaws.{touched_machine}
use Rattle.its_direct.proofs.TouchLaws.{none_touched}

-- the result of a line that has no answer of its own is what the machine said of it
pub restores_as : (line other : StateLine) (old new : Plain) (x : Result (Unit {0}) Refusal) (r : Result Answer Refusal) → line ≡ other → r ≡ answered x
    → Restores other old new (answered x) → Restores line old new r
restores_as line other old new x r is so h = subst (λ l. Restores l old new r) (sym is) (subst (Restores other old new) (sym so) h)

-- lines that disturb a job
module _ (line : StateLine) (old new : Plain) (r : Result Machine Reason) (at : spot_place old.place ≡ place_past line) where
  pub restores_operates : (s : ℕ) (x : Result (Unit {0}) Refusal)
      → ((b : Block) → Speaks old.place b → restored (machine_of old) b line ≡ disturbs s b r)
      → OnOk x (Operates old new s r) → IfErr x (λ z. r ≡ Err (reason_of z)) → Restores line old new (answered x)
  restores_operates s (Ok u) is done refused = λ b speaks. record {
    comes = Does (machine_of new) [] (only s) b;
    is = is b speaks ∙ ap (disturbs s b) done.is;
    obeys = (refl, done.touched, subst (λ p. Speaks p b) (sym done.place) speaks, refl, tt);
    leads = ap spot_place done.place ∙ at;
  }
  restores_operates s (Err z) is done refused = λ b speaks. is b speaks ∙ ap (disturbs s b) refused

  -- lines that disturb nobody
  pub restores_keeps : (x : Result (Unit {0}) Refusal) → ((b : Block) → Speaks old.place b → restored (machine_of old) b line ≡ quietly b r)
      → OnOk x (Keeps old new r) → IfErr x (λ z. r ≡ Err (reason_of z)) → Restores line old new (answered x)
  restores_keeps (Ok u) is done refused = λ b speaks. record {
    comes = Does (machine_of new) [] nobody b;
    is = is b speaks ∙ ap (quietly b) done.is;
    obeys = (refl, done.touched, subst (λ p. Speaks p b) (sym done.place) speaks, refl, tt);
    leads = ap spot_place done.place ∙ at;
  }
  restores_keeps (Err z) is done refused = λ b speaks. is b speaks ∙ ap (quietly b) refused

module _ (old new : Plain) (at : spot_place old.place ≡ places.System) (x : Result (Unit {0}) Refusal) where
  pub restores_alarm : (s period next : ℕ) → OnOk x (Operates old new s (with_alarm_set (machine_of old) s period next))
      → IfErr x (λ z. with_alarm_set (machine_of old) s period next ≡ Err (reason_of z)) → Restores (states.Alarm s period next) old new (answered x)
  unfolding restored
  restores_alarm s period next = restores_operates (states.Alarm s period next) old new (with_alarm_set (machine_of old) s period next) at s x (λ b h. refl)

  pub restores_under : (s t : ℕ) → OnOk x (Operates old new s (with_superior_set (machine_of old) s t))
      → IfErr x (λ z. with_superior_set (machine_of old) s t ≡ Err (reason_of z)) → Restores (states.Under s t) old new (answered x)
  unfolding restored
  restores_under s t = restores_operates (states.Under s t) old new (with_superior_set (machine_of old) s t) at s x (λ b h. refl)

  pub restores_tty : (s n : ℕ) (w : Bool) → OnOk x (Operates old new s (with_tty (machine_of old) s n w))
      → IfErr x (λ z. with_tty (machine_of old) s n w ≡ Err (reason_of z)) → Restores (states.Tty s n w) old new (answered x)
  unfolding restored
  restores_tty s n w = restores_operates (states.Tty s n w) old new (with_tty (machine_of old) s n w) at s x (λ b h. refl)

  pub restores_disk : (s n d u v at_word : ℕ) → OnOk x (Operates old new s (with_disk (machine_of old) s n (names_of d u v) at_word))
      → IfErr x (λ z. with_disk (machine_of old) s n (names_of d u v) at_word ≡ Err (reason_of z))
      → Restores (states.Disk s n d u v at_word) old new (answered x)
  unfolding restored
  restores_disk s n d u v at_word =
      restores_operates (states.Disk s n d u v at_word) old new (with_disk (machine_of old) s n (names_of d u v) at_word) at s x (λ b h. refl)

  pub restores_draft : (s n d u v : ℕ) → OnOk x (Operates old new s (with_draft (machine_of old) s n (names_of d u v)))
      → IfErr x (λ z. with_draft (machine_of old) s n (names_of d u v) ≡ Err (reason_of z)) → Restores (states.Draft s n d u v) old new (answered x)
  unfolding restored
  restores_draft s n d u v = restores_operates (states.Draft s n d u v) old new (with_draft (machine_of old) s n (names_of d u v)) at s x (λ b h. refl)

  pub restores_wrote : (s n : ℕ) (ws : ArrayVec ℕ) (xs : List ℕ) → xs ≡ ws.items → OnOk x (Operates old new s (with_words_written (machine_of old) s n xs))
      → IfErr x (λ z. with_words_written (machine_of old) s n xs ≡ Err (reason_of z)) → Restores (states.Wrote s n ws) old new (answered x)
  unfolding restored
  restores_wrote s n ws xs is = restores_operates (states.Wrote s n ws) old new (with_words_written (machine_of old) s n xs) at s x
      (λ b h. ap (λ (l : List ℕ). disturbs s b (with_words_written (machine_of old) s n l)) (sym is))

  pub restores_usr : (s n t at_word : ℕ) (w : Bool) → OnOk x (Operates old new s (with_usr (machine_of old) s n t w at_word))
      → IfErr x (λ z. with_usr (machine_of old) s n t w at_word ≡ Err (reason_of z)) → Restores (states.Usr s n t w at_word) old new (answered x)
  unfolding restored
  restores_usr s n t at_word w = restores_operates (states.Usr s n t w at_word) old new (with_usr (machine_of old) s n t w at_word) at s x (λ b h. refl)

  pub restores_link : (s n l u v : ℕ) (w : Bool) → OnOk x (Operates old new s (with_link (machine_of old) s n l w u v))
      → IfErr x (λ z. with_link (machine_of old) s n l w u v ≡ Err (reason_of z)) → Restores (states.Join s n l w u v) old new (answered x)
  unfolding restored
  restores_link s n l u v w = restores_operates (states.Join s n l w u v) old new (with_link (machine_of old) s n l w u v) at s x (λ b h. refl)

  pub restores_sent : (l : ℕ) (ws : ArrayVec ℕ) (xs : List ℕ) → xs ≡ ws.items → OnOk x (Keeps old new (with_words_sent (machine_of old) l xs))
      → IfErr x (λ z. with_words_sent (machine_of old) l xs ≡ Err (reason_of z)) → Restores (states.Sent l ws) old new (answered x)
  unfolding restored
  restores_sent l ws xs is = restores_keeps (states.Sent l ws) old new (with_words_sent (machine_of old) l xs) at x
      (λ b h. ap (λ (k : List ℕ). quietly b (with_words_sent (machine_of old) l k)) (sym is))

  pub restores_end : (l : ℕ) (w : Bool) → OnOk x (Keeps old new (with_end_shut (machine_of old) l w))
      → IfErr x (λ z. with_end_shut (machine_of old) l w ≡ Err (reason_of z)) → Restores (states.EndShut l w) old new (answered x)
  unfolding restored
  restores_end l w = restores_keeps (states.EndShut l w) old new (with_end_shut (machine_of old) l w) at x (λ b h. refl)

  pub restores_input : (c : ℕ) (bs : ArrayVec ℕ) (xs : List ℕ) → xs ≡ bs.items → OnOk x (Keeps old new (with_bytes_waiting (machine_of old) c false xs))
      → IfErr x (λ z. with_bytes_waiting (machine_of old) c false xs ≡ Err (reason_of z)) → Restores (states.Input c bs) old new (answered x)
  unfolding restored
  restores_input c bs xs is = restores_keeps (states.Input c bs) old new (with_bytes_waiting (machine_of old) c false xs) at x
      (λ b h. ap (λ (k : List ℕ). quietly b (with_bytes_waiting (machine_of old) c false k)) (sym is))

  pub restores_output : (c : ℕ) (bs : ArrayVec ℕ) (xs : List ℕ) → xs ≡ bs.items → OnOk x (Keeps old new (with_bytes_waiting (machine_of old) c true xs))
      → IfErr x (λ z. with_bytes_waiting (machine_of old) c true xs ≡ Err (reason_of z)) → Restores (states.Output c bs) old new (answered x)
  unfolding restored
  restores_output c bs xs is = restores_keeps (states.Output c bs) old new (with_bytes_waiting (machine_of old) c true xs) at x
      (λ b h. ap (λ (k : List ℕ). quietly b (with_bytes_waiting (machine_of old) c true k)) (sym is))

  pub restores_holder : (c s : ℕ) → OnOk x (Keeps old new (with_holder_set (machine_of old) c s))
      → IfErr x (λ z. with_holder_set (machine_of old) c s ≡ Err (reason_of z)) → Restores (states.Hold c s) old new (answered x)
  unfolding restored
  restores_holder c s = restores_keeps (states.Hold c s) old new (with_holder_set (machine_of old) c s) at x (λ b h. refl)

-- CLOCK
pub restores_clock : (old new : Plain) (n : ℕ) (x : Result (Unit {0}) Refusal) → spot_place old.place ≡ places.System
    → OnOk x (Clocks old new n (after_clock (machine_of old) n))
    → IfErr x (λ z. after_clock (machine_of old) n ≡ Err (reason_of z)) → Restores (states.Clock n) old new (answered x)
unfolding restored
restores_clock old new n (Ok u) at done refused = λ b speaks. record {
  comes = Does (machine_of new) [] (due ((machine_of old).clock + n) (machine_of old).jobs) b;
  is = ap (by_clock (machine_of old) b n) done.is;
  obeys = (refl, done.touched, subst (λ p. Speaks p b) (sym done.place) speaks, refl, tt);
  leads = ap spot_place done.place ∙ at;
}
restores_clock old new n (Err z) at done refused = λ b speaks. ap (by_clock (machine_of old) b n) refused

-- lines about the job of the last JOB line and the file of the last FILE line
module _ (old : Plain) (s : ℕ) (ns : Names) (place : old.place ≡ spots.System s ns) where
  in_state : spot_place old.place ≡ places.System
  in_state = ap spot_place place

  slot_is : (b : Block) → Speaks old.place b → b.slot ≡ s
  slot_is b h = (subst (λ p. Speaks p b) place h).0

  file_is : (b : Block) → Speaks old.place b → b.file ≡ ns
  file_is b h = (subst (λ p. Speaks p b) place h).1

  module _ (new : Plain) (x : Result (Unit {0}) Refusal) where
    pub restores_file_words : (ws : ArrayVec ℕ) (xs : List ℕ) → xs ≡ ws.items → OnOk x (Keeps old new (with_words_added (machine_of old) ns xs))
        → IfErr x (λ z. with_words_added (machine_of old) ns xs ≡ Err (reason_of z)) → Restores (states.FileWords ws) old new (answered x)
    unfolding restored
    restores_file_words ws xs is = restores_keeps (states.FileWords ws) old new (with_words_added (machine_of old) ns xs) in_state x
        (λ b h. (λ t. quietly b (with_words_added (machine_of old) (file_is b h t) (sym is t))))

    pub restores_core_words : (a : ℕ) (ws : ArrayVec ℕ) (xs : List ℕ) → xs ≡ ws.items
        → OnOk x (Operates old new s (with_words_loaded (machine_of old) s a xs))
        → IfErr x (λ z. with_words_loaded (machine_of old) s a xs ≡ Err (reason_of z)) → Restores (states.CoreWords a ws) old new (answered x)
    unfolding restored
    restores_core_words a ws xs is = restores_operates (states.CoreWords a ws) old new (with_words_loaded (machine_of old) s a xs) in_state s x
        (λ b h. (λ t. disturbs (slot_is b h t) b (with_words_loaded (machine_of old) (slot_is b h t) a (sym is t))))

    pub restores_page : (page : ℕ) → OnOk x (Operates old new s (with_page_protected (machine_of old) s page))
        → IfErr x (λ z. with_page_protected (machine_of old) s page ≡ Err (reason_of z)) → Restores (states.ReadOnly page) old new (answered x)
    unfolding restored
    restores_page page = restores_operates (states.ReadOnly page) old new (with_page_protected (machine_of old) s page) in_state s x
        (λ b h. (λ t. disturbs (slot_is b h t) b (with_page_protected (machine_of old) (slot_is b h t) page)))

    pub restores_symbol : (name a : ℕ) → OnOk x (Keeps old new (with_symbol_kept (machine_of old) s name a))
        → IfErr x (λ z. with_symbol_kept (machine_of old) s name a ≡ Err (reason_of z)) → Restores (states.Symbol name a) old new (answered x)
    unfolding restored
    restores_symbol name a = restores_keeps (states.Symbol name a) old new (with_symbol_kept (machine_of old) s name a) in_state x
        (λ b h. (λ t. quietly b (with_symbol_kept (machine_of old) (slot_is b h t) name a)))

    pub restores_registers : (r : Registers) → OnOk x (Operates old new s (on_registers (machine_of old) s (after_registers r)))
        → IfErr x (λ z. on_registers (machine_of old) s (after_registers r) ≡ Err (reason_of z)) → Restores (states.Regs r) old new (answered x)
    unfolding restored
    restores_registers r = restores_operates (states.Regs r) old new (on_registers (machine_of old) s (after_registers r)) in_state s x
        (λ b h. (λ t. disturbs (slot_is b h t) b (on_registers (machine_of old) (slot_is b h t) (after_registers r))))

  -- FILE and JOB, after which lines are about another file and another job
  pub restores_file : (mid put new : Plain) (d u v : ℕ) → with_file_made (machine_of old) (names_of d u v) ≡ Ok (machine_of mid)
      → put ≡ record mid { place = spots.System s (names_of d u v) } → new ≡ record put { touched = no_slots }
      → Restores (states.File d u v) old new (Ok answers.Nothing)
  unfolding restored
  restores_file mid put new d u v made placed e =
      let next : new.place ≡ spots.System s (names_of d u v) = ap (λ (p : Plain). p.place) e ∙ ap (λ (p : Plain). p.place) placed in
      λ b h. record {
        comes = Does (machine_of mid) [] nobody (record b { file = names_of d u v });
        is = ap (quietly (record b { file = names_of d u v })) made;
        obeys = (
          touched_machine put new no_slots e ∙ placed_machine mid put (spots.System s (names_of d u v)) placed,
          none_touched new.touched (ap (λ (p : Plain). p.touched) e),
          subst (λ p. Speaks p (record b { file = names_of d u v })) (sym next) (slot_is b h, refl),
          refl,
          tt,
        );
        leads = ap spot_place next;
      }

  pub restores_job : (mid put new : Plain) (k u j : ℕ) (c : Option ℕ) → k < slots → with_job_made (machine_of old) k u j c ≡ Ok (machine_of mid)
      → put ≡ record mid { place = spots.System k ns } → new ≡ record put { touched = one_slot k }
      → Restores (states.Job k u j c) old new (Ok answers.Nothing)
  unfolding restored
  restores_job mid put new k u j c l made placed e =
      let next : new.place ≡ spots.System k ns = ap (λ (p : Plain). p.place) e ∙ ap (λ (p : Plain). p.place) placed in
      λ b h. record {
        comes = Does (machine_of mid) [] (only k) (record b { slot = k });
        is = ap (disturbs k (record b { slot = k })) made;
        obeys = (
          touched_machine put new (one_slot k) e ∙ placed_machine mid put (spots.System k ns) placed,
          only_touched put new k l e,
          subst (λ p. Speaks p (record b { slot = k })) (sym next) (refl, file_is b h),
          refl,
          tt,
        );
        leads = ap spot_place next;
      }

pub restores_file_refused : (old new : Plain) (d u v : ℕ) (z : Refusal) → with_file_made (machine_of old) (names_of d u v) ≡ Err (reason_of z)
    → Restores (states.File d u v) old new (Err z)
unfolding restored
restores_file_refused old new d u v z refused = λ b h. ap (quietly (record b { file = names_of d u v })) refused

pub restores_job_refused : (old new : Plain) (k u j : ℕ) (c : Option ℕ) (z : Refusal) → with_job_made (machine_of old) k u j c ≡ Err (reason_of z)
    → Restores (states.Job k u j c) old new (Err z)
unfolding restored
restores_job_refused old new k u j c z refused = λ b h. ap (disturbs k (record b { slot = k })) refused

-- SYSTEM, TURN and READY
pub restores_system : (old mid new : Plain) (v : ℕ) → Stands old mid (with_version (machine_of old) v)
    → new ≡ record mid { place = spots.System 0 (names_of 0 0 0) } → Restores (states.System v) old new (Ok answers.Nothing)
unfolding restored
restores_system old mid new v done placed =
    let next : new.place ≡ spots.System 0 (names_of 0 0 0) = ap (λ (p : Plain). p.place) placed in
    λ b h. record {
      comes = Does (with_version (machine_of old) v) [] nobody no_block;
      is = refl;
      obeys = (
        placed_machine mid new (spots.System 0 (names_of 0 0 0)) placed ∙ done.machine,
        (λ k. ap (λ (p : Plain). is_touched p k) placed ∙ done.touched k),
        subst (λ p. Speaks p no_block) (sym next) (refl, refl),
        refl,
        tt,
      );
      leads = ap spot_place next;
    }

pub restores_turn : (old new : Plain) (s : ℕ) → spot_place old.place ≡ places.System → new ≡ record old { touched = no_slots }
    → Restores (states.Turn s) old new (Ok answers.Nothing)
unfolding restored
restores_turn old new s at e = λ b h. record {
  comes = Does (machine_of old) [] nobody b;
  is = refl;
  obeys = (
    touched_machine old new no_slots e,
    none_touched new.touched (ap (λ (p : Plain). p.touched) e),
    subst (λ p. Speaks p b) (sym (ap (λ (p : Plain). p.place) e)) h,
    refl,
    tt,
  );
  leads = ap (λ (p : Plain). spot_place p.place) e ∙ at;
}

pub restores_ready : (old put new : Plain) → put ≡ record old { place = spots.Plain } → new ≡ record put { touched = no_slots }
    → Restores states.Ready old new (Ok answers.Nothing)
unfolding restored
restores_ready old put new placed e =
    let next : new.place ≡ spots.Plain = ap (λ (p : Plain). p.place) e ∙ ap (λ (p : Plain). p.place) placed in
    λ b h. record {
      comes = Does (machine_of old) [] nobody no_block;
      is = refl;
      obeys = (
        touched_machine put new no_slots e ∙ placed_machine old put spots.Plain placed,
        none_touched new.touched (ap (λ (p : Plain). p.touched) e),
        subst (λ p. Speaks p no_block) (sym next) tt,
        refl,
        tt,
      );
      leads = ap spot_place next;
    }

-- the event of a line that was obeyed or refused
line_leads : (line : StateLine) (p : Place) → p ≡ place_before line → place_after p (events.Restore line) ≡ place_past line
line_leads (states.System v) p at = refl
line_leads states.Ready p at = refl
line_leads line p at = rw at refl

told_restored : (line : StateLine) (old new : Plain) (r : Result Answer Refusal) → spot_place old.place ≡ place_before line
    → Restores line old new r → Told (events.Restore line) old new r
unfolding lined operate
told_restored line old new (Ok a) at h = λ b speaks. let x = h b speaks in record {
  comes = Done x.comes;
  is = ap Done x.is;
  obeys = x.obeys;
  leads = x.leads ∙ sym (line_leads line (spot_place old.place) at);
}
told_restored line old new (Err z) at h = λ b speaks. ap Done (h b speaks)

pub told_line : (e : Event) (line : StateLine) (old new : Plain) (r : Result Answer Refusal) → e ≡ events.Restore line
    → MayStand (spot_place old.place) e → Restores line old new r → Told e old new r
told_line e line old new r is stands h =
    subst (λ f. Told f old new r) (sym is) (told_restored line old new r (subst (MayStand (spot_place old.place)) is stands) h)

-- the numbers of a line that can be read
pub line_fits : (line : StateLine) → EventFits 2 (events.Restore line) → LineFits line
line_fits (states.System v) h = h
line_fits (states.FileWords ws) h = h.0
line_fits (states.CoreWords a ws) h = (h.0.0, h.1)
line_fits (states.Tty s n w) h = omega (arith, h.1)
line_fits (states.Disk s n d x y at) h = omega (arith, h.0.1)
line_fits (states.Draft s n d x y) h = omega (arith, h.1)
line_fits (states.Wrote s n ws) h = (omega (arith, h.0.1), h.1.0)
line_fits (states.Usr s n t w at) h = omega (arith, h.0.1)
line_fits (states.Join s n l w x y) h = (omega (arith, h.0.1), omega (arith, h.1))
line_fits (states.Sent l ws) h = (omega (arith, h.0), h.1.1)
line_fits (states.EndShut l w) h = omega (arith, h)
line_fits (states.Input c bs) h = h.2
line_fits (states.Output c bs) h = h.2
line_fits _ h = tt
