-- `T` lines that a verifier reads, and the turns of a RUN line.
use Rattle.std.proofs.Common.{◌≡◌, ◌<◌, ◌≤◌, ◌+◌, ◌-◌, ℕ, zero, suc, Bool, true, false, Option, Some, None, Result, Ok, Err, List, refl, sym, ap, subst, ◌∙◌, arith}
use Rattle.std.proofs.lemmas.Bool.{false≢true}
use Rattle.its_io.specs.Bytes.{HasCause}
use Rattle.its_io.specs.declared.stream.Failed.{Failed}
use Rattle.its_records.specs.declared.session.Event.{Event}
use Rattle.its_records.specs.declared.session.Event.TheVariants as events
use Rattle.its_records.specs.declared.session.Place.{Place}
use Rattle.its_records.specs.declared.session.Place.TheVariants as places
use Rattle.its_session.specs.Events.{place_after}
use Rattle.its_plain.specs.Operator.{Block}
use Rattle.its_plain.specs.Transcript.{Walk}
use Rattle.its_plain.specs.Transcript.Turns.{turn_after}
use Rattle.its_direct.specs.Events.{MayStand, spot_place}
use Rattle.its_direct.specs.Plain.{machine_of}
use Rattle.its_direct.specs.declared.plain.Spot.{Spot}
use Rattle.its_direct.specs.declared.plain.Spot.TheVariants as spots
use Rattle.its_verify.specs.Letters.{ticked}
use Rattle.its_verify.specs.Rulings.{Ruling, led, turned, turned_by}
use Rattle.its_verify.specs.JudgeState.{AllLed, walk_of}
use Rattle.its_verify.specs.TranscriptReader.{Beside, Forward, AtLine, PassesOn, Reads, ReadsOn, PassedIf, Says}
use Rattle.its_verify.specs.Verifier.{RunsOutside, StaysAtItem, TicksSay, AtItem, TurnsSay, TurnsSo}
use Rattle.its_verify.specs.declared.outcome.Outcome.{Outcome}
use Rattle.its_verify.specs.declared.transcript_reader.TranscriptReader.{TranscriptReader}
use Rattle.its_verify.specs.declared.judge.Judge.{Judge}
use Rattle.its_verify.specs.declared.verifier.Verifier.{Verifier}
use Rattle.its_verify.proofs.TranscriptReaderLaws.{fails_here, at_line_on, lacks_says, led_forward, nothing_on, read_no, read_says, says_then, strict_ticks}

-- TICK and RUN are outside any block of lines
plain_spot : (x : Spot) → spot_place x ≡ places.Plain → x ≡ spots.Plain
plain_spot spots.Plain e = refl
plain_spot (spots.System s names) e = cc
plain_spot (spots.Load s) e = cc
plain_spot (spots.File names) e = cc

pub outside_tick : (x : Spot) (s n : ℕ) → MayStand (spot_place x) (events.Tick s n) → x ≡ spots.Plain
outside_tick x s n at = plain_spot x at

pub runs_outside : (p : Place) (x : Spot) (e : Event) → MayStand p e → spot_place x ≡ place_after p e → RunsOutside e x
runs_outside p x (events.Run n q) at leads = plain_spot x (leads ∙ ap (λ (y : Place). place_after y (events.Run n q)) at)
runs_outside p x _ at leads = tt

-- a `T` line that is not there
pub ticks_lack : (i k : ℕ) (f : Outcome) (was now : Judge) (old new : TranscriptReader) (left rest : Option (List ℕ)) → i < 96 → k ≤ 512
    → AtLine old left → ReadsOn (Ok (Some f)) old new left rest
    → (b : Block) (n : ℕ) (next : Walk → Ruling) → Says (Ok (Some f)) old new left rest (led (ticked (walk_of was b n) i k) next) (next (walk_of now b n))
ticks_lack i k f was now old new left rest slot few at_line h b n next =
    lacks_says (ticked (walk_of was b n) i k) next (next (walk_of now b n)) f old new left rest
    (strict_ticks (walk_of was b n) i k (omega (arith, slot)) few) at_line h

-- one that was read
pub ticks_passed : (i k : ℕ) (o : Option Outcome) (licensed : Bool) (was now : Judge) (old mid new : TranscriptReader)
    (left rest : Option (List ℕ)) → ReadsOn (Ok None) old mid left rest → Beside old mid
    → AllLed licensed was now mid.texts.text.items i k → PassedIf o licensed mid new
    → (b : Block) (n : ℕ) (next : Walk → Ruling) → Says (Ok o) old new left rest (led (ticked (walk_of was b n) i k) next) (next (walk_of now b n))
ticks_passed i k None false was now old mid new left rest h beside all r b n next = absurd (false≢true r.0)
ticks_passed i k None true was now old mid new left rest h beside all r b n next =
    read_says (ticked (walk_of was b n) i k) next (walk_of now b n) old mid new left rest h beside (all.2 b n)
    (ap (λ (x : TranscriptReader). x.texts) r.1) (ap (λ (x : TranscriptReader). x.room) r.1) (ap (λ (x : TranscriptReader). x.passed) r.1)
ticks_passed i k (Some f) true was now old mid new left rest h beside all r b n next = absurd (false≢true (sym r.0))
ticks_passed i k (Some f) false was now old mid new left rest h beside all r b n next =
    read_no (ticked (walk_of was b n) i k) next (next (walk_of now b n)) f old mid new left rest h beside (all b n) r.1

-- the source failed
pub ticks_fail : (i k : ℕ) (e : Failed) (old new : Verifier) (left rest : Option (List ℕ)) (mid : TranscriptReader)
    → ReadsOn (Err e) old.reader mid left rest → TicksSay (Err e) old new left rest i k
ticks_fail i k e old new left rest mid h b n next forward = fails_here old.reader left rest (ticked (walk_of old.judge b n) i k) next h forward

pub ticks_fail_by : (o : Result (Option Outcome) Failed) (i k : ℕ) (e : Failed) (old new : Verifier) (left rest : Option (List ℕ))
    (mid : TranscriptReader) → o ≡ Err e → ReadsOn o old.reader mid left rest
    → TicksSay (Err e) old new left rest i k
ticks_fail_by o i k e old new left rest mid is h =
    ticks_fail i k e old new left rest mid (subst (λ (x : Result (Option Outcome) Failed). ReadsOn x old.reader mid left rest) is h)

pub ticks_stay : (i k : ℕ) (o : Option Outcome) (licensed : Bool) (was : Judge) (text : List ℕ) (mid : TranscriptReader) (new : Verifier)
    (rest : Option (List ℕ)) → Reads mid rest
    → AllLed licensed was new.judge text i k → PassedIf o licensed mid new.reader → StaysAtItem (Ok o) new rest
ticks_stay i k None false was text mid new rest h all r = absurd (false≢true r.0)
ticks_stay i k None true was text mid new rest h all r =
    record { at_line = at_line_on mid new.reader rest h r.1; sure = all.0; going = all.1 }
ticks_stay i k (Some f) licensed was text mid new rest h all r = tt

-- a line that asks for no turns
pub no_turns : (t : Verifier) (left : Option (List ℕ)) (n q : ℕ) → n ≡ 0 → TurnsSay (Ok None) t t left left n q
no_turns t left n q none b l next =
    subst (λ (k : ℕ). PassesOn t.reader t.reader left left (turned k q (walk_of t.judge b l) t.last next) (next (walk_of t.judge b l) t.last)) (sym none)
    (nothing_on t.reader left (next (walk_of t.judge b l) t.last))

-- turns
turn_first : (k q : ℕ) (v : Walk) (last s : ℕ) (next : Walk → ℕ → Ruling) → turn_after v.machine last ≡ Some s
    → turned (suc k) q v last next ≡ led (ticked v s q) (λ w. turned k q w s next)
turn_first k q v last s next is = ap (λ o. turned_by q v o (λ w s. turned k q w s next) (next v last)) is

no_turn : (k q : ℕ) (v : Walk) (last : ℕ) (next : Walk → ℕ → Ruling) → turn_after v.machine last ≡ None → turned (suc k) q v last next ≡ next v last
no_turn k q v last next is = ap (λ o. turned_by q v o (λ w s. turned k q w s next) (next v last)) is

turn_forward : (q : ℕ) (v : Walk) (o : Option ℕ) (more : Walk → ℕ → Ruling) (done : Ruling) → ((w : Walk) (s : ℕ) → Forward (more w s))
    → Forward done → Forward (turned_by q v o more done)
turn_forward q v None more done h d = d
turn_forward q v (Some s) more done h d = led_forward (ticked v s q) (λ w. more w s) (λ w. h w s)

pub turned_forward : (n q : ℕ) (v : Walk) (last : ℕ) (next : Walk → ℕ → Ruling) → ((w : Walk) (s : ℕ) → Forward (next w s)) → Forward (turned n q v last next)
turned_forward zero q v last next h = h v last
turned_forward (suc n) q v last next h =
    turn_forward q v (turn_after v.machine last) (λ w s. turned n q w s next) (next v last) (λ w s. turned_forward n q w s next h) (h v last)

one_more : (n k : ℕ) → k < n → n - k ≡ suc (n - (k + 1))
one_more n k less = omega arith

turn_on : (n k q : ℕ) (v : Walk) (last s : ℕ) (next : Walk → ℕ → Ruling) → k < n → turn_after v.machine last ≡ Some s
    → turned (n - k) q v last next ≡ led (ticked v s q) (λ w. turned (n - (k + 1)) q w s next)
turn_on n k q v last s next less turn = ap (λ (m : ℕ). turned m q v last next) (one_more n k less) ∙ turn_first (n - (k + 1)) q v last s next turn

pub turns_start : (t : Verifier) (n k q : ℕ) (left : Option (List ℕ)) → k ≡ 0 → TurnsSo t t n k q left left
turns_start t n k q left none b l next =
    let all : n ≡ n - k = omega (arith, none) in
    let v = walk_of t.judge b l in
    subst (λ (m : ℕ). PassesOn t.reader t.reader left left (turned n q v t.last next) (turned m q v t.last next)) all
    (nothing_on t.reader left (turned n q v t.last next))

-- one more turn
turns_then : (r : Result (Option Outcome) Failed) (old now new : Verifier) (n k q s : ℕ) (left mid rest : Option (List ℕ)) (b : Block)
    (l : ℕ) (next : Walk → ℕ → Ruling) (last : Ruling) → k < n → TurnsSo old now n k q left mid
    → turn_after (machine_of now.judge.plain) now.last ≡ Some s
    → Says r now.reader new.reader mid rest (led (ticked (walk_of now.judge b l) s q) (λ w. turned (n - (k + 1)) q w s next)) last
    → Says r old.reader new.reader left rest (turned n q (walk_of old.judge b l) old.last next) last
turns_then r old now new n k q s left mid rest b l next last less so turn says =
    let v = walk_of now.judge b l in
    says_then r old.reader now.reader new.reader left mid rest (turned n q (walk_of old.judge b l) old.last next)
    (turned (n - k) q v now.last next) last (so b l next)
    (subst (λ (j : Ruling). Says r now.reader new.reader mid rest j last) (sym (turn_on n k q v now.last s next less turn)) says)

-- nobody runs, or all turns were made
pub turns_none : (old now : Verifier) (n k q : ℕ) (left rest : Option (List ℕ)) → k < n → TurnsSo old now n k q left rest
    → turn_after (machine_of now.judge.plain) now.last ≡ None
    → (b : Block) (l : ℕ) (next : Walk → ℕ → Ruling) → Says (Ok None) old.reader now.reader left rest
    (turned n q (walk_of old.judge b l) old.last next) (next (walk_of now.judge b l) now.last)
turns_none old now n k q left rest less so none b l next =
    let v = walk_of now.judge b l in
    subst (λ (j : Ruling). PassesOn old.reader now.reader left rest (turned n q (walk_of old.judge b l) old.last next) j)
    (ap (λ (m : ℕ). turned m q v now.last next) (one_more n k less) ∙ no_turn (n - (k + 1)) q v now.last next none) (so b l next)

pub turns_end : (old now : Verifier) (n k q : ℕ) (left rest : Option (List ℕ)) → n ≤ k → TurnsSo old now n k q left rest
    → (b : Block) (l : ℕ) (next : Walk → ℕ → Ruling) → Says (Ok None) old.reader now.reader left rest
    (turned n q (walk_of old.judge b l) old.last next) (next (walk_of now.judge b l) now.last)
turns_end old now n k q left rest past so b l next =
    let none : n - k ≡ 0 = omega arith in
    let v = walk_of now.judge b l in
    subst (λ (m : ℕ). PassesOn old.reader now.reader left rest (turned n q (walk_of old.judge b l) old.last next)
    (turned m q v now.last next)) none (so b l next)

-- the same, if a `T` line had a result
pub turns_next_by : (r : Result (Option Outcome) Failed) (old now t : Verifier) (n k q s : ℕ) (left mid rest : Option (List ℕ))
    → r ≡ Ok None → k < n → TurnsSo old now n k q left mid
    → turn_after (machine_of now.judge.plain) now.last ≡ Some s
    → TicksSay r now t mid rest s q → TurnsSo old (record t { last = s }) n (k + 1) q left rest
turns_next_by r old now t n k q s left mid rest is less so turn says b l next =
    let on : Walk → Ruling = λ w. turned (n - (k + 1)) q w s next in
    turns_then (Ok None) old now t n k q s left mid rest b l next (on (walk_of t.judge b l)) less so turn
    (subst (λ x. TicksSay x now t mid rest s q) is says b l on)

pub turns_said_by : (r : Result (Option Outcome) Failed) (f : Outcome) (old now new : Verifier) (n k q s : ℕ)
    (left mid rest : Option (List ℕ)) → r ≡ Ok (Some f) → k < n → TurnsSo old now n k q left mid
    → turn_after (machine_of now.judge.plain) now.last ≡ Some s
    → TicksSay r now new mid rest s q → TurnsSay (Ok (Some f)) old new left rest n q
turns_said_by r f old now new n k q s left mid rest is less so turn says b l next =
    turns_then (Ok (Some f)) old now new n k q s left mid rest b l next (next (walk_of new.judge b l) new.last) less so turn
    (subst (λ x. TicksSay x now new mid rest s q) is says b l (λ w. turned (n - (k + 1)) q w s next))

pub turns_fail_by : (r : Result (Option Outcome) Failed) (e : Failed) (old now new : Verifier) (n k q s : ℕ)
    (left mid rest : Option (List ℕ)) → r ≡ Err e → k < n → TurnsSo old now n k q left mid
    → turn_after (machine_of now.judge.plain) now.last ≡ Some s → TicksSay r now new mid rest s q → TurnsSay (Err e) old new left rest n q
turns_fail_by r e old now new n k q s left mid rest is less so turn says b l next forward =
    turns_then (Err e) old now new n k q s left mid rest b l next (next (walk_of new.judge b l) new.last) less so turn
    (λ last. subst (λ x. TicksSay x now new mid rest s q) is says b l (λ w. turned (n - (k + 1)) q w s next)
    (λ w. turned_forward (n - (k + 1)) q w s next forward))
    (forward (walk_of new.judge b l) new.last)

pub stays_by : (r : Result (Option Outcome) Failed) (new : Verifier) (s : ℕ) (rest : Option (List ℕ)) → r ≡ Ok None → StaysAtItem r new rest
    → AtItem (record new { last = s }) rest
stays_by (Ok None) new s rest is h = record { at_line = h.at_line; sure = h.sure; going = h.going }
stays_by (Ok (Some f)) new s rest is h = cc
stays_by (Err e) new s rest is h = cc

pub unfailed_by : (r : Result (Option Outcome) Failed) (a b c : ℕ) → r ≡ Ok None → HasCause a b r → a ≡ c → b ≡ c
unfailed_by (Ok o) a b c is h so = h.kept ∙ so
unfailed_by (Err e) a b c is h so = cc
