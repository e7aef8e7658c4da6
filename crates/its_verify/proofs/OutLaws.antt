-- If the transcript is accepted, the source was read to its end: only at the end of a session is
-- anything accepted.
use Rattle.std.proofs.Common.{◌≡◌, ◌+◌, ◌-◌, ℕ, zero, suc, Option, Some, None, IfSome, Result, Ok, Err, List, [], ◌∷◌, length, take, leb, ap, subst, inl, inr}
use Rattle.std.proofs.lemmas.Bool.{cases_Bool}
use Rattle.std.specs.Io.KnownBytes.{Consumes, IsAtEnd}
use Rattle.std.specs.Prelude.{IfOk}
use Rattle.its_io.specs.declared.stream.Failed.{Failed}
use Rattle.its_records.specs.declared.session.Event.{Event}
use Rattle.its_reader.specs.declared.lines.Next.TheVariants as nexts
use Rattle.its_reader.specs.declared.texts.Texts.{Texts}
use Rattle.its_reader.specs.declared.items.Items.{Items}
use Rattle.its_reader.specs.Texts.{ReadsText, ReadyTexts}
use Rattle.its_print.specs.Printing.{Line}
use Rattle.its_plain.specs.Transcript.{Walk}
use Rattle.its_plain.specs.Transcript.Turns.{turn_after}
use Rattle.its_direct.specs.Events.{lines_of}
use Rattle.its_direct.specs.declared.lines.events.Answer.{Answer}
use Rattle.its_direct.specs.declared.lines.events.Answer.TheVariants.{Peeked}
use Rattle.its_direct.specs.declared.plain.Plain.{Plain}
use Rattle.its_verify.specs.Finds.{ReadsOut, ReadsOutIf}
use Rattle.its_verify.specs.Going.{GoneSo, LineSays}
use Rattle.its_verify.specs.TranscriptReader.{Says, cut, same_as}
use Rattle.its_verify.specs.Rulings.{Ruling, Verdict, Yes, No, at_end, led, led_by, saying, peeking, expects, turned, turned_by}
use Rattle.its_verify.specs.Keeping.{Keeps}
use Rattle.its_verify.specs.Letters.{ticked}
use Rattle.its_verify.specs.Showing.{shown_ruling}
use Rattle.its_verify.specs.Sources.{IsTold, texts_of}
use Rattle.its_verify.specs.JudgeState.{walk_of}
use Rattle.its_verify.specs.Verifier.{TicksSay, TurnsSay}
use Rattle.its_verify.specs.Verified.{Answer as Said, Judged, within}
use Rattle.its_verify.specs.declared.outcome.Outcome.{Outcome}
use Rattle.its_verify.specs.declared.outcome.Outcome.TheVariants as outcomes
use Rattle.its_verify.specs.declared.transcript_reader.TranscriptReader.{TranscriptReader}
use Rattle.its_verify.specs.declared.keeping.Part.TheVariants.{Session}
use Rattle.its_verify.specs.declared.verifier.Verifier.{Verifier}
use Rattle.its_verify.proofs.GoingLaws.{block_at, speaks_at}

-- the end
pub end_out : (k : ℕ) (old new : Texts) (left rest : Option (List ℕ)) → ReadsText (Ok nexts.End) old new left rest → ReadyTexts new rest
    → ReadsOut (outcomes.Yes k) left rest
end_out k old new left rest r ready = at_end_of left rest r.consumed (ready.over r.next.0).1
  where
    at_end_of : (l m : Option (List ℕ)) → Consumes l m r.read → IsAtEnd m → IfSome l (λ bytes. m ≡ Some [])
    at_end_of None m c e = tt
    at_end_of (Some xs) None c e = absurd c
    at_end_of (Some xs) (Some ys) c e = ap (λ (zs : List ℕ). Some zs) e

-- a judge that accepts nothing
abbrev IsNo : Verdict → Type 0
IsNo (Yes n) = ⊥
IsNo (No n) = Unit {0}

abbrev Refuses : Ruling → Type 0
Refuses ruling = (n : ℕ) (texts : List (List ℕ)) → IsNo (ruling n texts)

abbrev IsOther : Said → Type 0
IsOther (Judged v) = IsNo v
IsOther _ = Unit {0}

abbrev never : Ruling
never n texts = No n

never_refuses : Refuses never
never_refuses n texts = tt

by_refuses : {X : Type 0} (o : Option X) (next : X → Ruling) → ((x : X) → Refuses (next x)) → (n : ℕ) (texts : List (List ℕ)) → IsNo (led_by o next n texts)
by_refuses None next h n texts = tt
by_refuses (Some x) next h n texts = h x (n + 1) texts

led_refuses : {X : Type 0} (reads : List ℕ → Option X) (next : X → Ruling) → ((x : X) → Refuses (next x)) → Refuses (led reads next)
led_refuses reads next h n [] = tt
led_refuses reads next h n (text ∷ texts) = by_refuses (reads text) next h n texts

told_refuses : (lines : List Line) (next : Ruling) → Refuses next → Refuses (expects lines next)
told_refuses [] next h = h
told_refuses (line ∷ lines) next h = led_refuses (saying line) (λ text. expects lines next) (λ text. told_refuses lines next h)

turn_refuses : (q : ℕ) (v : Walk) (o : Option ℕ) (more : Walk → ℕ → Ruling) (done : Ruling) → ((w : Walk) (s : ℕ) → Refuses (more w s))
    → Refuses done → Refuses (turned_by q v o more done)
turn_refuses q v None more done h d = d
turn_refuses q v (Some s) more done h d = led_refuses (ticked v s q) (λ w. more w s) (λ w. h w s)

turned_refuses : (n q : ℕ) (v : Walk) (last : ℕ) (next : Walk → ℕ → Ruling) → ((w : Walk) (s : ℕ) → Refuses (next w s)) → Refuses (turned n q v last next)
turned_refuses zero q v last next h = h v last
turned_refuses (suc n) q v last next h =
    turn_refuses q v (turn_after v.machine last) (λ w s. turned n q w s next) (next v last) (λ w s. turned_refuses n q w s next h) (h v last)

shown_refuses : (a : Answer) (p : Plain) (next : Ruling) → Refuses next → Refuses (shown_ruling a p next)
shown_refuses Peeked p next h = led_refuses peeking (λ text. next) (λ text. h)
shown_refuses a p next h = told_refuses (lines_of a p) next h

within_other : (room : ℕ) (v : Verdict) → IsOther (within room v)
within_other room (Yes n) = tt
within_other room (No n) = elim (cases_Bool (leb n room)) [ inl e ↦ rw e tt | inr e ↦ rw e tt ]

cut_other : (room n : ℕ) (ruling : Ruling) (texts : List (List ℕ)) → Refuses ruling → IsOther (cut room n ruling texts)
cut_other room n ruling texts h =
    elim (cases_Bool (leb (n + length texts) room)) [
      | inl fit ↦ rw fit (h n texts)
      | inr past ↦ rw past (within_other room (ruling n (take (room - n) texts)))
    ]

-- what it says is no reason to have read on
said_out : (r : Result (Option Outcome) Failed) (old new : TranscriptReader) (left rest : Option (List ℕ)) (ruling next : Ruling)
    → Refuses ruling → Says r old new left rest ruling next → ReadsOutIf r left rest
said_out (Ok None) old new left rest ruling next refuses says = tt
said_out (Ok (Some (outcomes.Yes n))) old new None rest ruling next refuses says = tt
said_out (Ok (Some (outcomes.Yes n))) old new (Some bytes) rest ruling next refuses says =
    absurd (subst IsOther (says tt) (cut_other old.room old.passed ruling (texts_of old.texts (Some bytes)) refuses))
said_out (Ok (Some f)) old new left rest ruling next refuses says = tt
said_out (Err e) old new left rest ruling next refuses says = tt

-- if lines are still to come, nothing is accepted
pub line_out : (line : List ℕ) (r : Result (Option Outcome) Failed) (old new : TranscriptReader) (left rest : Option (List ℕ))
    → ((next : Ruling) → Says r old new left rest (led (same_as line) (λ t. next)) next) → ReadsOutIf r left rest
line_out line r old new left rest says =
    said_out r old new left rest (led (same_as line) (λ t. never)) never (led_refuses (same_as line) (λ t. never) (λ t. never_refuses)) (says never)

pub shown_out : (a : Answer) (p : Plain) (r : Result (Option Outcome) Failed) (old new : TranscriptReader) (left rest : Option (List ℕ))
    → ((next : Ruling) → Says r old new left rest (shown_ruling a p next) next) → ReadsOutIf r left rest
shown_out a p r old new left rest says = said_out r old new left rest (shown_ruling a p never) never
    (shown_refuses a p never never_refuses) (says never)

pub tick_out : (i k : ℕ) (r : Result (Option Outcome) Failed) (old new : Verifier) (left rest : Option (List ℕ))
    → TicksSay r old new left rest i k → ReadsOutIf r left rest
tick_out i k (Ok o) old new left rest says =
    let b = block_at old.judge.plain.place in
    said_out (Ok o) old.reader new.reader left rest (led (ticked (walk_of old.judge b 0) i k) (λ w. never)) never
    (led_refuses (ticked (walk_of old.judge b 0) i k) (λ w. never) (λ w. never_refuses)) (says b 0 (λ w. never))
tick_out i k (Err e) old new left rest says = tt

pub turns_out : (n q : ℕ) (r : Result (Option Outcome) Failed) (old new : Verifier) (left rest : Option (List ℕ))
    → TurnsSay r old new left rest n q → ReadsOutIf r left rest
turns_out n q (Ok o) old new left rest says =
    let b = block_at old.judge.plain.place in
    said_out (Ok o) old.reader new.reader left rest (turned n q (walk_of old.judge b 0) old.last (λ w s. never)) never
    (turned_refuses n q (walk_of old.judge b 0) old.last (λ w s. never) (λ w s. never_refuses)) (says b 0 (λ w s. never))
turns_out n q (Err e) old new left rest says = tt

-- what was read before, if it went on
pub out_behind : (f : Outcome) (left mid rest : Option (List ℕ)) → (IsTold left → IsTold mid) → ReadsOut f mid rest → ReadsOut f left rest
out_behind (outcomes.Yes n) None mid rest t out = tt
out_behind (outcomes.Yes n) (Some bytes) None rest t out = absurd (t tt)
out_behind (outcomes.Yes n) (Some bytes) (Some xs) rest t out = out
out_behind f left mid rest t out = tt

pub out_if_behind : (r : Result (Option Outcome) Failed) (left mid rest : Option (List ℕ)) → (IsTold left → IsTold mid)
    → ReadsOutIf r mid rest → ReadsOutIf r left rest
out_if_behind (Ok None) left mid rest t out = tt
out_if_behind (Ok (Some f)) left mid rest t out = out_behind f left mid rest t out
out_if_behind (Err e) left mid rest t out = tt

pub out_ok_behind : (r : Result Outcome Failed) (left mid rest : Option (List ℕ)) → (IsTold left → IsTold mid)
    → IfOk r (λ f. ReadsOut f mid rest) → IfOk r (λ f. ReadsOut f left rest)
out_ok_behind (Ok f) left mid rest t out = out_behind f left mid rest t out
out_ok_behind (Err e) left mid rest t out = tt

pub told_by : (r : Result (Option Outcome) Failed) (e : Event) (old mid : Verifier) (left between : Option (List ℕ)) (n : ℕ) → r ≡ Ok None
    → LineSays r old mid left between n e
    → IsTold left → IsTold between
told_by r e old mid left between n is line t =
    let led = subst (λ q. LineSays q old mid left between n e) is line (block_at old.judge.plain.place) (speaks_at old.judge.plain.place) in
    (led.goes (λ w. at_end) t).0

pub gone_out : (r : Result (Option Outcome) Failed) (f : Outcome) (old now : Verifier) (ruling : Ruling) (items : Items)
    (session left mid rest : Option (List ℕ)) → r ≡ Ok (Some f)
    → GoneSo old now ruling items session left mid → ReadsOutIf r mid rest → ReadsOut f left rest
gone_out r f old now ruling items session left mid rest is so out =
    out_behind f left mid rest (λ t. (so.goes t).0) (subst (λ x. ReadsOutIf x mid rest) is out)

-- a session was read before
pub kept_out : {E : Type 0} (r : Result Outcome E) (old new : Texts) (session : List ℕ) (left mid rest : Option (List ℕ))
    → Keeps (Ok Session) old new session left mid
    → IfOk r (λ f. ReadsOut f mid rest) → IfOk r (λ f. ReadsOut f left rest)
kept_out (Ok f) old new session left mid rest keeps out = out_behind f left mid rest (λ t. (keeps t).1) out
kept_out (Err e) old new session left mid rest keeps out = tt
