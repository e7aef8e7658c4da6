-- A session obeyed in silence: from what each of its lines leads to, to the state at its end.
use Rattle.std.specs.Prelude.{◌≡◌, ◌<◌, ◌≤◌, ◌-◌, ◌+◌, ℕ, suc, false, Option, Some, None, IfSome, Result, Ok, Err, List, [], ◌∷◌, ◌++◌, refl}
use Rattle.std.proofs.Common.{sym, ◌∙◌, ap, subst, arith, append_assoc, append-nil}
use Rattle.its_io.specs.declared.stream.Failed.{Failed}
use Rattle.its_records.specs.Item.{Item, Read}
use Rattle.its_records.specs.Refusals.{reason_of}
use Rattle.its_records.specs.declared.session.Event.{Event}
use Rattle.its_records.specs.declared.session.Event.TheVariants as events
use Rattle.its_records.specs.declared.session.Place.TheVariants as places
use Rattle.its_records.specs.declared.session.Reason.{Reason}
use Rattle.its_records.specs.declared.session.Refusal.{Refusal}
use Rattle.its_print.specs.Printing.{Line}
use Rattle.its_print.specs.Printing as printed
use Rattle.its_session.specs.Events.{events_of, whole_events_of}
use Rattle.its_reader.specs.declared.items.Found.{Found}
use Rattle.its_reader.specs.declared.items.Found.TheVariants as founds
use Rattle.its_reader.specs.declared.items.Items.{Items}
use Rattle.its_reader.specs.Bytes.{pending}
use Rattle.its_reader.specs.Lines.{BetweenLines}
use Rattle.its_reader.specs.Limits.{WithinLimits}
use Rattle.its_reader.specs.Items.{is_last, last_items, Finds, ReadOut, AllFound, Behind}
use Rattle.its_reader.proofs.ItemsLaws as reader
use Rattle.its_plain.specs.Machine.{no_machine}
use Rattle.its_plain.specs.Machine.Own.{names_of}
use Rattle.its_plain.specs.Operator.{Block, no_block}
use Rattle.its_plain.specs.Operator.Lines.{operate, lined}
use Rattle.its_plain.specs.Transcript.{Open}
use Rattle.its_plain.specs.Transcript.Turns.{turn_after, highest, turn_kept, turns_asked, ticks_asked}
use Rattle.its_stepped.specs.State.{State, plain, no_state}
use Rattle.its_stepped.specs.Lines.{Told, telling, after_calm, paces_of, after_ticks, turned_by, turned, told, stepped}
use Rattle.its_stepped.proofs.Frame.DecodingLaws.{decoding}
use Rattle.its_world.specs.declared.world.World.{World}
use Rattle.its_world.specs.World.{state_of}
use Rattle.its_top.specs.Answer.{block_of}
use Rattle.its_top.specs.Conclusion.{IsDone}
use Rattle.its_top.specs.Leaving.{Left, left_at, turn_left, turns_left, left}
use Rattle.its_top.specs.Performing.{Performed, lines_of}
use Rattle.its_top.specs.Silent.{TurnsMade, TurnsSo, ends, LedBy, Leads, SilentSo, EndsBy, Led, Broken}
use Rattle.its_top.specs.Telling.{goes_on_after}
use Rattle.its_top.specs.declared.sessions.shown.Over.{Over}
use Rattle.its_top.specs.declared.sessions.shown.Over.TheVariants as overs
use Rattle.its_top.specs.declared.sessions.shown.Shown.{Shown}
use Rattle.its_top.specs.declared.sessions.silent.Ending.{Ending}
use Rattle.its_top.specs.declared.sessions.silent.Ending.TheVariants as endings
use Rattle.its_top.proofs.ConclusionLaws.{not_last, is_the_end, found_on}
use Rattle.its_top.proofs.LeavingLaws.{run_machine, run_turn}

told_told : (a b : List Line) (t : Told) → telling a (telling b t) ≡ telling (a ++ b) t
told_told a b t = let e : a ++ (b ++ t.lines) ≡ (a ++ b) ++ t.lines = sym (append_assoc a b t.lines) in ap (λ ls. ends ls t.fate) e

-- no turn yet
pub turns_start : (v : State) (i n q : ℕ) → TurnsSo v v i i n 0 q
turns_start v i n q =
    let e : n ≡ n - 0 = omega arith in
    record { shown = []; led = λ next. ap (λ k. turned k q v i next) e; leaves = λ next. ap (λ k. turns_left k q v i next) e }

-- a turn of slot s
pub turns_next : (v now new : State) (i j s n k q : ℕ) → k < n → TurnsSo v now i j n k q → turn_after now.raw j ≡ Some s
    → new ≡ after_ticks now s q → TurnsSo v new i s n (k + 1) q
turns_next v now new i j s n k q below c e f =
    let more = n - (k + 1) in
    let one : n - k ≡ suc more = omega arith in
    let line = printed.Ticks s (paces_of now s q) ∷ [] in
    record {
      shown = c.shown ++ line;
      led = λ next. c.led next ∙ ap (λ x. telling c.shown (turned x q now j next)) one
          ∙ ap (λ o. telling c.shown (turned_by o q now (λ x l. turned more q x l next) (next now j))) e
          ∙ told_told c.shown line (turned more q (after_ticks now s q) s next)
          ∙ ap (λ x. telling (c.shown ++ line) (turned more q x s next)) (sym f);
      leaves = λ next. c.leaves next ∙ ap (λ x. turns_left x q now j next) one
          ∙ ap (λ o. turn_left o q now (λ x l. turns_left more q x l next) (next now j)) e
          ∙ ap (λ x. turns_left more q x s next) (sym f);
    }

-- no job runs
pub turns_none : (v now : State) (i j n k q : ℕ) → k < n → TurnsSo v now i j n k q → turn_after now.raw j ≡ None → TurnsMade v i n q now j
turns_none v now i j n k q below c e =
    let more = n - (k + 1) in
    let one : n - k ≡ suc more = omega arith in
    record {
      shown = c.shown;
      led = λ next. c.led next ∙ ap (λ x. telling c.shown (turned x q now j next)) one
          ∙ ap (λ o. telling c.shown (turned_by o q now (λ x l. turned more q x l next) (next now j))) e;
      leaves = λ next. c.leaves next ∙ ap (λ x. turns_left x q now j next) one
          ∙ ap (λ o. turn_left o q now (λ x l. turns_left more q x l next) (next now j)) e;
    }

-- all turns were made
pub turns_done : (v now : State) (i j n k q : ℕ) → n ≤ k → TurnsSo v now i j n k q → TurnsMade v i n q now j
turns_done v now i j n k q over c =
    let none : n - k ≡ 0 = omega arith in
    record {
      shown = c.shown;
      led = λ next. c.led next ∙ ap (λ x. telling c.shown (turned x q now j next)) none;
      leaves = λ next. c.leaves next ∙ ap (λ x. turns_left x q now j next) none;
    }

-- RUN, and its turns
run_told : (n : ℕ) (v : State) (b : Block) (i k q : ℕ) (items : List Item)
    → told n v b i (Read (events.Run k q) ∷ items) ≡ turned k q v i (λ x l. told (n + 1) x b l items)
unfolding after_calm lined operate
run_told n v b i k q items = refl

run_left : (v : State) (b : Block) (i k q : ℕ) (items : List Item)
    → left v b i (Read (events.Run k q) ∷ items) ≡ turns_left k q v i (λ x l. left x b l items)
unfolding after_calm lined operate
run_left v b i k q items = refl

pub run_leads : (n : ℕ) (v v' : State) (b : Block) (i j k q : ℕ) (e : Event) → e ≡ events.Run k q → TurnsMade v i k q v' j
    → Leads None n v b i (founds.Line e) v' b j
run_leads n v v' b i j k q e is t =
    subst (λ x. Leads None n v b i (founds.Line x) v' b j) (sym is)
    (record {
      shown = t.shown;
      led = (
        refl,
        λ behind. (
          run_told n v b i k q behind ∙ t.led (λ x l. told (n + 1) x b l behind),
          run_left v b i k q behind ∙ t.leaves (λ x l. left x b l behind),
        ),
      );
    })

-- a line that was performed, after which slot j counts as that of the last turn
pub event_on : (s : Shown) (n : ℕ) (v : State) (b b' : Block) (i j : ℕ) (e : Event) (w : World) → j ≡ turn_kept i e → turns_asked e ≡ 0
    → Performed (Ok s) v b e w b' → Leads None n v b i (founds.Line e) (state_of w) b' j
event_on s n v b b' i j e w keeps none p =
    let kept = turn_kept i e in
    record {
      shown = lines_of s w;
      led = (
        not_last e p.goes,
        λ behind. (
          p.tells n (λ x c. turned (turns_asked e) (ticks_asked e) x kept (λ y l. told (n + 1) y c l behind))
              ∙ ap (λ k. telling (lines_of s w) (turned k (ticks_asked e) (state_of w) kept (λ y l. told (n + 1) y b' l behind))) none
              ∙ ap (λ k. telling (lines_of s w) (told (n + 1) (state_of w) b' k behind)) (sym keeps),
          p.leaves (left_at v i) (λ x c. turns_left (turns_asked e) (ticks_asked e) x kept (λ y l. left y c l behind))
              ∙ ap (λ k. turns_left k (ticks_asked e) (state_of w) kept (λ y l. left y b' l behind)) none
              ∙ ap (λ k. left (state_of w) b' k behind) (sym keeps),
        ),
      );
    }

-- END
end_alone : (e : Event) → goes_on_after e ≡ false → e ≡ events.End
end_alone events.End h = refl
end_alone _ h = cc

end_left : (v : State) (b : Block) (i : ℕ) (items : List Item) → left v b i (Read events.End ∷ items) ≡ left_at v i
unfolding after_calm lined operate
end_left v b i items = refl

over_leads : (n : ℕ) (v : State) (b b' : Block) (i j : ℕ) (e : Event) (w : World) → j ≡ turn_kept i e → Performed (Err overs.Ended) v b e w b'
    → Leads (Some endings.Over) n v b i (founds.Line e) (state_of w) b' j
over_leads n v b b' i j e w keeps p =
    let kept = turn_kept i e in
    let is = end_alone e p.goes in
    record {
      shown = [];
      led = (
        is_the_end e p.goes,
        λ behind l. (
          subst (λ (t : Told). IsDone t.fate)
              (sym (p.tells n (λ x c. turned (turns_asked e) (ticks_asked e) x kept (λ y k. told (n + 1) y c k behind)))) tt,
          ap (λ x. left v b i (Read x ∷ behind)) is ∙ end_left v b i behind ∙ ap (λ x. left_at x i) (sym p.leaves)
              ∙ ap (left_at (state_of w)) (sym (keeps ∙ ap (turn_kept i) is)),
        ),
      );
    }

pub event_over : (r : Result Shown Over) (n : ℕ) (v : State) (b b' : Block) (i j : ℕ) (e : Event) (w : World) → j ≡ turn_kept i e
    → r ≡ Err overs.Ended → Performed r v b e w b' → Leads (Some endings.Over) n v b i (founds.Line e) (state_of w) b' j
event_over r n v b b' i j e w keeps is p = over_leads n v b b' i j e w keeps (subst (λ x. Performed x v b e w b') is p)

-- a refused line
refused_leads : (r : Refusal) (n : ℕ) (v : State) (b b' : Block) (i j : ℕ) (e : Event) (w : World) → Performed (Err (overs.Refused r)) v b e w b'
    → Leads (Some (endings.Refused n (reason_of r))) n v b i (founds.Line e) (state_of w) b' j
refused_leads r n v b b' i j e w p = record {
  shown = [];
  led = λ behind. p.tells n (λ x c. turned (turns_asked e) (ticks_asked e) x (turn_kept i e) (λ y l. told (n + 1) y c l behind));
}

pub event_refused : (o : Result Shown Over) (r : Refusal) (q : Reason) (n : ℕ) (v : State) (b b' : Block) (i j : ℕ) (e : Event) (w : World)
    → o ≡ Err (overs.Refused r) → q ≡ reason_of r → Performed o v b e w b'
    → Leads (Some (endings.Refused n q)) n v b i (founds.Line e) (state_of w) b' j
event_refused o r q n v b b' i j e w is why p =
    subst (λ x. Leads (Some (endings.Refused n x)) n v b i (founds.Line e) (state_of w) b' j) (sym why)
    (refused_leads r n v b b' i j e w (subst (λ x. Performed x v b e w b') is p))

pub bad_leads : (n : ℕ) (v : State) (b : Block) (i : ℕ) (f : Found) (r : Reason) → f ≡ founds.Bad r
    → Leads (Some (endings.Refused n r)) n v b i f v b i
bad_leads n v b i f r is =
    subst (λ x. Leads (Some (endings.Refused n r)) n v b i x v b i) (sym is) (record { shown = []; led = λ behind. refl })

pub beyond_leads : (n : ℕ) (v : State) (b : Block) (i : ℕ) (f : Found) → f ≡ founds.Beyond → Leads (Some endings.TooLong) n v b i f v b i
beyond_leads n v b i f is = subst (λ x. Leads (Some endings.TooLong) n v b i x v b i) (sym is) (record { shown = []; led = λ behind. refl })

pub end_leads : (n : ℕ) (v : State) (b : Block) (i : ℕ) (f : Found) → f ≡ founds.End → Leads (Some endings.Over) n v b i f v b i
end_leads n v b i f is =
    subst (λ x. Leads (Some endings.Over) n v b i x v b i) (sym is)
    (record {
      shown = [];
      led = (refl, λ behind l. (subst (λ x. IsDone (told n v b i x).fate) (sym (l refl)) tt, ap (left v b i) (l refl)));
    })

-- the start of a session
told_all : (n : ℕ) (v : State) (i : ℕ) (behind : List Item) → n ≡ 1 → v ≡ no_state no_machine → i ≡ highest
    → stepped behind ≡ told n v (block_of 0 (names_of 0 0 0)) i behind
told_all n v i behind e h l =
    let b = block_of 0 (names_of 0 0 0) in
    ap (λ k. told k (no_state no_machine) b highest behind) (sym e) ∙ ap (λ k. told n k b highest behind) (sym h) ∙ ap (λ k. told n v b k behind) (sym l)

left_all : (v : State) (i : ℕ) (behind : List Item) → v ≡ no_state no_machine → i ≡ highest
    → left (no_state no_machine) no_block highest behind ≡ left v (block_of 0 (names_of 0 0 0)) i behind
left_all v i behind h l =
    let b = block_of 0 (names_of 0 0 0) in
    ap (λ k. left k b highest behind) (sym h) ∙ ap (λ k. left v b k behind) (sym l)

pub silent_start : (r : Items) (v : State) (i : ℕ) (source : Option (List ℕ)) → v ≡ no_state no_machine → i ≡ highest → r.lines.number ≡ 0
    → r.lines.ended ≡ false → pending r.lines.buffer ≡ [] → r.place ≡ places.First → r.version ≡ 1
    → SilentSo r (r.lines.number + 1) v (block_of 0 (names_of 0 0 0)) i source source
silent_start r v i source e l n o p q k = record {
  items = [];
  found = reader.so_start r source n o p q k;
  shown = [];
  says = λ behind. told_all (r.lines.number + 1) v i behind (ap (λ k. k + 1) n) e l;
  leaves = λ behind. left_all v i behind e l;
}

-- the session goes on
next_so : (f : Found) (n : ℕ) (v v' : State) (b b' : Block) (i i' : ℕ) (r r' : Items) (source mid rest : Option (List ℕ))
    → SilentSo r n v b i source mid → Finds (Ok f) r r' mid rest → Leads None n v b i f v' b' i' → SilentSo r' (n + 1) v' b' i' source rest
next_so f n v v' b b' i i' r r' source mid rest s t k = record {
  items = s.items ++ last_items f;
  found = found_on f s.items r r' source mid rest k.led.0 s.found t;
  shown = s.shown ++ k.shown;
  says = λ behind. ap stepped (append_assoc s.items (last_items f) behind) ∙ s.says (last_items f ++ behind)
      ∙ ap (telling s.shown) (k.led.1 behind).0 ∙ told_told s.shown k.shown (told (n + 1) v' b' i' behind);
  leaves = λ behind. ap (left (no_state no_machine) no_block highest) (append_assoc s.items (last_items f) behind) ∙ s.leaves (last_items f ++ behind)
      ∙ (k.led.1 behind).1;
}

pub silent_next : (f : Found) (n k : ℕ) (v v' : State) (b b' : Block) (i i' : ℕ) (r r' : Items) (source mid rest : Option (List ℕ))
    → k ≡ n → SilentSo r k v b i source mid → Finds (Ok f) r r' mid rest → Leads None n v b i f v' b' i' → SilentSo r' (n + 1) v' b' i' source rest
silent_next f n k v v' b b' i i' r r' source mid rest e s t w =
    next_so f n v v' b b' i i' r r' source mid rest (subst (λ x. SilentSo r x v b i source mid) e s) t w

pub leads_on : (n : ℕ) (v v' : State) (b b' : Block) (i i' : ℕ) (f : Found) → Leads None n v b i f v' b' i' → is_last f ≡ false
leads_on n v v' b b' i i' f k = k.led.0

-- the session is over
ends_by : (ending : Ending) (n : ℕ) (v : State) (b b' : Block) (i j : ℕ) (f : Found) (r : Items) (source mid : Option (List ℕ)) (bytes : List ℕ)
    (w : World) (shown : List Line) (s : SilentSo r n v b i source mid) → LedBy (Some ending) n v b i f (state_of w) b' j shown
    → Behind f s.items bytes → EndsBy ending j (events_of bytes) w
ends_by endings.Over n v b b' i j f r source mid bytes w shown s o h =
    let es = events_of bytes in
    let here = o.1 h.tail h.last in
    let rest : left (no_state no_machine) no_block highest es ≡ left_at (state_of w) j =
    ap (left (no_state no_machine) no_block highest) h.all ∙ s.leaves (last_items f ++ h.tail) ∙ here.1 in (
      subst (λ (t : Told). IsDone t.fate) (sym (ap stepped h.all ∙ s.says (last_items f ++ h.tail))) here.0,
      sym (run_machine decoding es ∙ ap (λ (l : Left). plain l.state) rest),
      sym (run_turn decoding es ∙ ap (λ (l : Left). l.turn) rest),
    )
ends_by (endings.Refused k r') n v b b' i j f r source mid bytes w shown s o h =
    (s.shown, ap stepped h.all ∙ s.says (last_items f ++ h.tail) ∙ ap (telling s.shown) (o h.tail))
ends_by endings.TooLong n v b b' i j f r source mid bytes w shown s o h =
    ap (λ (t : Told). t.fate) (ap stepped h.all ∙ s.says (last_items f ++ h.tail)) ∙ o h.tail

all_ends : (ending : Ending) (n : ℕ) (v : State) (b b' : Block) (i j : ℕ) (f : Found) (r : Items) (source mid : Option (List ℕ)) (w : World)
    (shown : List Line) (s : SilentSo r n v b i source mid) → LedBy (Some ending) n v b i f (state_of w) b' j shown
    → IfSome source (λ bytes. Behind f s.items bytes) → IfSome source (λ bytes. EndsBy ending j (events_of bytes) w)
all_ends ending n v b b' i j f r None mid w shown s o h = tt
all_ends ending n v b b' i j f r (Some bytes) mid w shown s o h = ends_by ending n v b b' i j f r (Some bytes) mid bytes w shown s o h

over_input : (ending : Ending) (n : ℕ) (v : State) (b b' : Block) (i j : ℕ) (f : Found) (r r' : Items) (source mid rest : Option (List ℕ)) (w : World)
    (shown : List Line) (s : SilentSo r n v b i source mid) → LedBy (Some ending) n v b i f (state_of w) b' j shown
    → BetweenLines r'.lines rest → Finds (Ok f) r r' mid rest → ending ≡ endings.Over → IfSome source (λ bytes. ReadOut bytes rest)
over_input endings.Over n v b b' i j f r r' source mid rest w shown s o y t e = reader.out_of f s.items r r' source mid rest y s.found t o.0
over_input _ n v b b' i j f r r' source mid rest w shown s o y t e = cc

over_by : (ending : Ending) (f : Found) (n : ℕ) (v : State) (b b' : Block) (i j : ℕ) (r r' : Items) (source mid rest : Option (List ℕ)) (w : World)
    → BetweenLines r'.lines rest → SilentSo r n v b i source mid → Finds (Ok f) r r' mid rest → Leads (Some ending) n v b i f (state_of w) b' j
    → Led ending j source rest w
over_by ending f n v b b' i j r r' source mid rest w y s t k = record {
  read = s.found.read ++ t.read;
  consumed = reader.consumed_then s.items f r r' source mid rest s.found t;
  ends = all_ends ending n v b b' i j f r source mid w k.shown s k.led (reader.behind_by f s.items r r' source mid rest y s.found t);
  input = over_input ending n v b b' i j f r r' source mid rest w k.shown s k.led y t;
}

pub silent_over : (ending : Ending) (f : Found) (n k : ℕ) (v : State) (b b' : Block) (i j : ℕ) (r r' : Items) (source mid rest : Option (List ℕ))
    (w : World) → k ≡ n → BetweenLines r'.lines rest → SilentSo r k v b i source mid → Finds (Ok f) r r' mid rest
    → Leads (Some ending) n v b i f (state_of w) b' j → Led ending j source rest w
silent_over ending f n k v b b' i j r r' source mid rest w e y s t l =
    over_by ending f n v b b' i j r r' source mid rest w y (subst (λ x. SilentSo r x v b i source mid) e s) t l

-- the source failed
broken_so : (x : Failed) (n : ℕ) (v : State) (b : Block) (i : ℕ) (r : Items) (source mid : Option (List ℕ)) (read : List ℕ) (s : SilentSo r n v b i source mid)
    → (o : Option (List ℕ)) → IfSome o (λ bytes. AllFound (Err x) s.items bytes read)
    → IfSome o (λ bytes. ((stepped (whole_events_of read)).fate ≡ Open) × WithinLimits read)
broken_so x n v b i r source mid read s None a = tt
broken_so x n v b i r source mid read s (Some bytes) a =
    (ap (λ es. (stepped es).fate) (a.0 ∙ sym (append-nil s.items)) ∙ ap (λ (t : Told). t.fate) (s.says []), a.1)

pub silent_broken : (x : Failed) (n : ℕ) (v : State) (b : Block) (i : ℕ) (r r' : Items) (source mid rest : Option (List ℕ))
    → SilentSo r n v b i source mid → Finds (Err x) r r' mid rest → Broken source rest
silent_broken x n v b i r r' source mid rest s t =
    let e = reader.ended_broken x s.items r r' source mid rest s.found t in
    record { read = e.read; consumed = e.consumed; so_far = broken_so x n v b i r source mid e.read s source e.all }
