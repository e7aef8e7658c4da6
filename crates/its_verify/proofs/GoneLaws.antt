-- The items of a session, one by one, along its transcript.
use Rattle.std.proofs.Common.{◌≡◌, ◌+◌, ℕ, true, false, Option, Some, None, Result, Ok, Err, List, [], ◌∷◌, refl, sym, ap, subst, ◌∙◌}
use Rattle.std.proofs.lemmas.Bool.{false≢true}
use Rattle.its_io.specs.declared.stream.Failed.{Failed}
use Rattle.its_records.specs.Item.{Item}
use Rattle.its_records.specs.declared.session.Event.{Event}
use Rattle.its_records.specs.declared.session.Event.TheVariants as events
use Rattle.its_records.specs.declared.state_line.StateLine.{StateLine}
use Rattle.its_records.specs.declared.state_line.StateLine.TheVariants as states
use Rattle.its_records.specs.declared.session.Place.{Place}
use Rattle.its_records.specs.declared.session.Place.TheVariants as places
use Rattle.its_records.specs.declared.session.Reason.{Reason}
use Rattle.its_print.specs.Printing.{Refused}
use Rattle.its_session.specs.Events.{events_of, item_then, place_after}
use Rattle.its_session.specs.Fits.{Stands, place_of as event_place}
use Rattle.its_session.specs.Grammar.{is_at}
use Rattle.its_session.proofs.FitsLaws.{later_fits}
use Rattle.its_reader.specs.declared.items.Found.{Found}
use Rattle.its_reader.specs.declared.items.Found.TheVariants.{Line, Bad, Beyond, End}
use Rattle.its_reader.specs.declared.items.Items.{Items}
use Rattle.its_reader.specs.Bytes.{pending}
use Rattle.its_reader.specs.Items.{Finds, found_fits, found_stands, is_last, place_found}
use Rattle.its_reader.specs.Lines.{BetweenLines}
use Rattle.its_plain.specs.Operator.{Block, no_block}
use Rattle.its_plain.specs.Transcript.Turns.{ticks_asked, turn_kept, turns_asked}
use Rattle.its_direct.specs.Events.{MayStand, Speaks}
use Rattle.its_direct.specs.declared.plain.Spot.{Spot}
use Rattle.its_direct.specs.declared.plain.Spot.TheVariants as spots
use Rattle.its_verify.specs.Going.{FoundStands, GoneSo, ItemSays, LedOn, LineSays, SaysEnd, Split, is_end, items_by, judge_from, machine_place}
use Rattle.its_verify.specs.TranscriptReader.{Concludes, PassesOn, Says}
use Rattle.its_verify.proofs.ForwardLaws.{judged_forward}
use Rattle.its_verify.proofs.TranscriptReaderLaws.{concludes_then, end_forward, nothing_on, says_then}
use Rattle.its_verify.proofs.VerifierLaws.{turned_forward}
use Rattle.its_verify.specs.Rulings.{Ruling, at_end, judged, expects, turned}
use Rattle.its_verify.specs.Sources.{IsTold, items_of}
use Rattle.its_verify.specs.JudgeState.{walk_of}
use Rattle.its_verify.specs.Verifier.{StaysAtItem, AtItem, TurnsSay}
use Rattle.its_verify.specs.declared.outcome.Outcome.{Outcome}
use Rattle.its_verify.specs.declared.verifier.Verifier.{Verifier}
use Rattle.its_verify.proofs.ItemLaws.{found_bad, found_beyond, found_end, found_line}

-- an item that is the last
pub bad_says : (reason : Reason) (r : Result (Option Outcome) Failed) (old new : Verifier) (left rest : Option (List ℕ)) (n : ℕ)
    → SaysEnd r old.reader left rest (expects (Refused n reason ∷ []) at_end)
    → ItemSays r old new left rest n (Bad reason)
bad_says reason (Ok None) old new left rest n ends = absurd ends
bad_says reason (Ok (Some f)) old new left rest n ends = λ b speaks es. ends
bad_says reason (Err x) old new left rest n ends = λ b speaks es. ends

pub beyond_says : (r : Result (Option Outcome) Failed) (old new : Verifier) (left rest : Option (List ℕ)) (n : ℕ)
    → SaysEnd r old.reader left rest at_end → ItemSays r old new left rest n Beyond
beyond_says (Ok None) old new left rest n ends = absurd ends
beyond_says (Ok (Some f)) old new left rest n ends = λ b speaks es. ends
beyond_says (Err x) old new left rest n ends = λ b speaks es. ends

pub last_says : (r : Result (Option Outcome) Failed) (old new : Verifier) (left rest : Option (List ℕ)) (n : ℕ)
    → SaysEnd r old.reader left rest at_end → ItemSays r old new left rest n End
last_says (Ok None) old new left rest n ends = absurd ends
last_says (Ok (Some f)) old new left rest n ends = λ b speaks es. ends
last_says (Err x) old new left rest n ends = λ b speaks es. ends

pub not_last : (e : Event) → is_end e ≡ false → is_last (Line e) ≡ false
not_last events.End h = absurd (false≢true (sym h))
not_last e h = refl

-- a line, which names the slot k as that of the last turn, and its turns
obeyed_then : (r : Result (Option Outcome) Failed) (e : Event) (old mid new : Verifier) (k : ℕ) (left between rest : Option (List ℕ)) (b : Block)
    (n : ℕ) (es : List Item) (last : Ruling) (line : LedOn old mid left between b n e) → k ≡ turn_kept old.last e
    → Says r mid.reader new.reader between rest (turned (turns_asked e) (ticks_asked e) (walk_of mid.judge line.after (n + 1)) k
    (λ x s. judged x s es)) last
    → Says r old.reader new.reader left rest (judge_from old b n (items_by (Line e) es)) last
obeyed_then r e old mid new k left between rest b n es last line same says =
    let on : ℕ → Ruling = λ i. turned (turns_asked e) (ticks_asked e) (walk_of mid.judge line.after (n + 1)) i (λ x s. judged x s es) in
    says_then r old.reader mid.reader new.reader left between rest (judge_from old b n (items_by (Line e) es)) (on (turn_kept old.last e)) last
    (line.goes (λ w. turned (turns_asked e) (ticks_asked e) w (turn_kept old.last e) (λ x s. judged x s es)))
    (subst (λ (i : ℕ). Says r mid.reader new.reader between rest (on i) last) same says)

pub obeyed_says : (r o : Result (Option Outcome) Failed) (e : Event) (old mid new : Verifier) (k : ℕ) (left between rest : Option (List ℕ))
    (n : ℕ) → r ≡ Ok None → LineSays r old mid left between n e → k ≡ turn_kept old.last e
    → TurnsSay o (record mid { last = k }) new between rest (turns_asked e) (ticks_asked e)
    → new.judge.plain.place ≡ mid.judge.plain.place → ItemSays o old new left rest n (Line e)
obeyed_says r (Ok None) e old mid new k left between rest n is line last turns place = λ b speaks.
    (let led = subst (λ q. LineSays q old mid left between n e) is line b speaks in
    record {
      after = led.after;
      speaks = subst (λ (s : Spot). Speaks s led.after) (sym place) led.speaks;
      goes = λ es.
          obeyed_then (Ok None) e old mid new k left between rest b n es (judge_from new led.after (n + 1) es) led last
          (turns led.after (n + 1) (λ x s. judged x s es));
    })
obeyed_says r (Ok (Some f)) e old mid new k left between rest n is line last turns place = λ b speaks es.
    (let led = subst (λ q. LineSays q old mid left between n e) is line b speaks in
    obeyed_then (Ok (Some f)) e old mid new k left between rest b n es (judge_from new led.after (n + 1) es) led last
    (turns led.after (n + 1) (λ x s. judged x s es)))
obeyed_says r (Err x) e old mid new k left between rest n is line last turns place = λ b speaks es.
    (let led = subst (λ q. LineSays q old mid left between n e) is line b speaks in
    obeyed_then (Err x) e old mid new k left between rest b n es at_end led last
    (λ on. turns led.after (n + 1) (λ x s. judged x s es) (λ x s. judged_forward es x s)) end_forward)

pub stopped_says : (r : Result (Option Outcome) Failed) (f : Outcome) (e : Event) (old mid new : Verifier)
    (left between rest : Option (List ℕ)) (n : ℕ) → r ≡ Ok (Some f) → LineSays r old mid left between n e
    → ItemSays (Ok (Some f)) old new left rest n (Line e)
stopped_says r f e old mid new left between rest n is line = λ b speaks es.
    subst (λ q. LineSays q old mid left between n e) is line b speaks (λ w. turned (turns_asked e) (ticks_asked e) w (turn_kept old.last e) (λ x s. judged x s es))

pub failed_says : (r : Result (Option Outcome) Failed) (x : Failed) (e : Event) (old mid new : Verifier) (left rest : Option (List ℕ))
    (n : ℕ) → r ≡ Err x → LineSays r old mid left rest n e
    → ItemSays (Err x) old new left rest n (Line e)
failed_says r x e old mid new left rest n is line = λ b speaks es.
    subst (λ q. LineSays q old mid left rest n e) is line b speaks (λ w. turned (turns_asked e) (ticks_asked e) w (turn_kept old.last e) (λ x s. judged x s es))
    (λ w. turned_forward (turns_asked e) (ticks_asked e) w (turn_kept old.last e) (λ x s. judged x s es) (λ x s. judged_forward es x s))

-- places
at_settled : (p q : Place) → machine_place q ≡ q → is_at p q ≡ true → machine_place p ≡ q
at_settled places.First places.First is h = is
at_settled places.First places.Plain is h = refl
at_settled places.Plain places.Plain is h = refl
at_settled places.System places.System is h = refl
at_settled places.Load places.Load is h = refl
at_settled places.File places.File is h = refl
at_settled _ _ is h = absurd (false≢true h)

at_first : (p : Place) → is_at p places.First ≡ true → machine_place p ≡ places.Plain
at_first places.First h = refl
at_first _ h = absurd (false≢true h)

event_stands : (p q : Place) (e : Event) → machine_place p ≡ q → Stands p e → MayStand q e
event_stands p q events.Nothing same h = tt
event_stands p q (events.Version v) same h = sym same ∙ at_first p h
event_stands p q (events.Restore (states.System v)) same h = sym same ∙ at_first p h
event_stands p q (events.Restore _) same h = sym same ∙ at_settled p places.System refl h
event_stands p q e same h = sym same ∙ at_settled p (event_place e) refl h

pub stands_on : (p q : Place) (f : Found) → machine_place p ≡ q → found_stands p f → FoundStands q f
stands_on p q (Line e) same h = event_stands p q e same h
stands_on p q _ same h = tt

pub fits_on : (v : ℕ) (f : Found) → found_fits v f → found_fits 2 f
fits_on v (Line e) h = later_fits v e h
fits_on v _ h = tt

restored_settled : (p : Place) (l : StateLine) → machine_place (place_after p (events.Restore l)) ≡ place_after (machine_place p) (events.Restore l)
restored_settled p (states.System v) = refl
restored_settled p states.Ready = refl
restored_settled places.First _ = refl
restored_settled places.Plain _ = refl
restored_settled places.System _ = refl
restored_settled places.Load _ = refl
restored_settled places.File _ = refl

after_settled : (p : Place) (e : Event) → machine_place (place_after p e) ≡ place_after (machine_place p) e
after_settled p (events.Load u j c) = refl
after_settled p (events.Go a) = refl
after_settled p (events.Restore l) = restored_settled p l
after_settled p (events.File d x y) = refl
after_settled p events.EndFile = refl
after_settled places.First e = refl
after_settled places.Plain e = refl
after_settled places.System e = refl
after_settled places.Load e = refl
after_settled places.File e = refl

found_settled : (p : Place) (f : Found) → machine_place (place_found p f) ≡ place_found (machine_place p) f
found_settled p (Line e) = after_settled p e
found_settled p _ = refl

pub place_on : (p p2 q q2 : Place) (f : Found) → machine_place p ≡ q → p2 ≡ place_found p f → q2 ≡ place_found q f → machine_place p2 ≡ q2
place_on p p2 q q2 f same next mine = ap machine_place next ∙ found_settled p f ∙ ap (λ (x : Place). place_found x f) same ∙ sym mine

-- the items that are left
line_split : (e : Event) (before after : List Item) → before ≡ item_then (Ok e) (λ _. after) → Split (Line e) before after
line_split events.End before after is = record { behind = []; is = is; on = λ h. absurd (false≢true (sym h)) }
line_split e before after is = record { behind = after; is = is; on = λ h. refl }

pub found_split : (f : Found) (old new : Items) (left rest : Option (List ℕ)) → Finds (Ok f) old new left rest → BetweenLines new.lines rest
    → IsTold left → Split f (items_of old left) (items_of new rest)
found_split (Line e) old new left rest finds ready t = line_split e (items_of old left) (items_of new rest) (found_line old new left rest e finds ready t).0
found_split (Bad r) old new left rest finds ready t = record
    { behind = []; is = found_bad old new left rest r finds ready t; on = λ h. absurd (false≢true (sym h)) }
found_split Beyond old new left rest finds ready t = record {
  behind = [];
  is = found_beyond old new left rest finds ready t;
  on = λ h. absurd (false≢true (sym h));
}
found_split End old new left rest finds ready t = record {
  behind = [];
  is = found_end old new left rest finds ready t;
  on = λ h. absurd (false≢true (sym h));
}

-- so far
items_start : (r : Items) (bytes : List ℕ) → r.lines.number ≡ 0 → pending r.lines.buffer ≡ [] → r.place ≡ places.First → r.version ≡ 1
    → events_of bytes ≡ items_of r (Some bytes)
unfolding events_of
items_start r bytes number empty place version = rw (number, empty, place, version) refl

pub gone_start : (t : Verifier) (r : Items) (session : List ℕ) (left : Option (List ℕ)) → t.judge.plain.place ≡ spots.Plain
    → r.lines.number ≡ 0 → pending r.lines.buffer ≡ [] → r.place ≡ places.First → r.version ≡ 1
    → GoneSo t t (judge_from t no_block 1 (events_of session)) r (Some session) left left
gone_start t r session left spot number empty place version =
    let first : Ruling = judge_from t no_block 1 (events_of session) in
    record {
      block = no_block;
      speaks = subst (λ (s : Spot). Speaks s no_block) (sym spot) tt;
      goes =
          subst (λ (j : Ruling). PassesOn t.reader t.reader left left first j)
          (ap (judge_from t no_block 1) (items_start r session number empty place version)
          ∙ ap (λ (n : ℕ). judge_from t no_block (n + 1) (items_of r (Some session))) (sym number))
          (nothing_on t.reader left first);
    }

-- the items that are left, by the item that was found and the number of its line
found_next : (now : Verifier) (b : Block) (n k : ℕ) (es fs : List Item) → es ≡ fs → k ≡ n + 1 → judge_from now b (n + 1) es ≡ judge_from now b k fs
found_next now b n k es fs is number = rw (is, number) refl

gone_then : (f : Found) (old now : Verifier) (judge : Ruling) (r q : Items) (session after : List ℕ) (left mid : Option (List ℕ))
    (so : GoneSo old now judge r (Some session) left mid)
    (split : Split f (items_of r (Some session)) (items_of q (Some after))) → q.lines.number ≡ r.lines.number + 1
    → PassesOn old.reader now.reader left mid judge (judge_from now so.block q.lines.number (items_by f split.behind))
gone_then f old now judge r q session after left mid so split number =
    subst (λ (j : Ruling). PassesOn old.reader now.reader left mid judge j)
    (found_next now so.block r.lines.number q.lines.number _ _ split.is number) so.goes

pub gone_next : (o : Result (Option Outcome) Failed) (f : Found) (old now new : Verifier) (judge : Ruling) (r q : Items)
    (session after : List ℕ) (left mid rest : Option (List ℕ)) → o ≡ Ok None
    → GoneSo old now judge r (Some session) left mid → Finds (Ok f) r q (Some session) (Some after) → BetweenLines q.lines (Some after)
    → q.lines.number ≡ r.lines.number + 1 → is_last f ≡ false
    → ItemSays o now new mid rest q.lines.number f → GoneSo old new judge q (Some after) left rest
gone_next o f old now new judge r q session after left mid rest is so finds ready number going says =
    let split = found_split f r q (Some session) (Some after) finds ready tt in
    let item = subst (λ x. ItemSays x now new mid rest q.lines.number f) is says so.block so.speaks in
    let here = judge_from now so.block q.lines.number (items_by f split.behind) in
    record {
      block = item.after;
      speaks = item.speaks;
      goes =
          subst (λ (es : List Item). PassesOn old.reader new.reader left rest judge (judge_from new item.after (q.lines.number + 1) es)) (split.on going)
          (says_then (Ok None) old.reader now.reader new.reader left mid rest judge here (judge_from new item.after (q.lines.number + 1) split.behind)
          (gone_then f old now judge r q session after left mid so split number) (item.goes split.behind));
    }

pub gone_over : (o : Result (Option Outcome) Failed) (x : Outcome) (f : Found) (old now new : Verifier) (judge : Ruling) (r q : Items)
    (session after : List ℕ) (left mid rest : Option (List ℕ)) → o ≡ Ok (Some x)
    → GoneSo old now judge r (Some session) left mid → Finds (Ok f) r q (Some session) (Some after) → BetweenLines q.lines (Some after)
    → q.lines.number ≡ r.lines.number + 1
    → ItemSays o now new mid rest q.lines.number f → Concludes (Ok x) old.reader left rest judge
gone_over o x f old now new judge r q session after left mid rest is so finds ready number says =
    let split = found_split f r q (Some session) (Some after) finds ready tt in
    concludes_then (Ok x) old.reader now.reader left mid rest judge (judge_from now so.block q.lines.number (items_by f split.behind))
    (gone_then f old now judge r q session after left mid so split number)
    (subst (λ y. ItemSays y now new mid rest q.lines.number f) is says so.block so.speaks split.behind)

pub gone_fails : (o : Result (Option Outcome) Failed) (x : Failed) (f : Found) (old now new : Verifier) (judge : Ruling) (r q : Items)
    (session after : List ℕ) (left mid rest : Option (List ℕ)) → o ≡ Err x
    → GoneSo old now judge r (Some session) left mid → Finds (Ok f) r q (Some session) (Some after) → BetweenLines q.lines (Some after)
    → q.lines.number ≡ r.lines.number + 1
    → ItemSays o now new mid rest q.lines.number f → Concludes (Err x) old.reader left rest judge
gone_fails o x f old now new judge r q session after left mid rest is so finds ready number says =
    let split = found_split f r q (Some session) (Some after) finds ready tt in
    concludes_then (Err x) old.reader now.reader left mid rest judge (judge_from now so.block q.lines.number (items_by f split.behind))
    (gone_then f old now judge r q session after left mid so split number)
    (subst (λ y. ItemSays y now new mid rest q.lines.number f) is says so.block so.speaks split.behind)

pub at_item_by : (o : Result (Option Outcome) Failed) (new : Verifier) (rest : Option (List ℕ)) → o ≡ Ok None → StaysAtItem o new rest → AtItem new rest
at_item_by o new rest is h = subst (λ x. StaysAtItem x new rest) is h
