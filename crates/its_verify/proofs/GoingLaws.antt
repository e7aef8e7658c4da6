-- The result of a line of a session for a verifier.
use Rattle.std.proofs.Common.{◌≡◌, ◌+◌, ℕ, Bool, false, Option, Some, None, Result, Ok, Err, List, [], ◌∷◌, refl, sym, ap, subst, ◌∙◌}
use Rattle.its_io.specs.declared.stream.Failed.{Failed}
use Rattle.its_records.specs.declared.session.Event.{Event}
use Rattle.its_records.specs.declared.session.Event.TheVariants as events
use Rattle.its_records.specs.declared.session.Refusal.{Refusal}
use Rattle.its_print.specs.Printing.{Line, Refused}
use Rattle.its_plain.specs.Machine.{Machine}
use Rattle.its_plain.specs.Operator.{Block, Does, Quits, Ticks, no_block, nobody}
use Rattle.its_plain.specs.Operator.Lines.{Lined, Done, Peeks, lined, operate}
use Rattle.its_plain.specs.Transcript.{Walk, next_line}
use Rattle.its_direct.specs.Plain.{machine_of, is_touched}
use Rattle.its_direct.specs.Events.{CanShow, Obeys, Says as AnswerSays, Speaks, Told}
use Rattle.its_records.specs.Refusals.{reason_of}
use Rattle.its_direct.specs.declared.lines.events.Answer.{Answer}
use Rattle.its_direct.specs.declared.lines.events.Answer.TheVariants as answers
use Rattle.its_direct.specs.declared.plain.Plain.{Plain}
use Rattle.its_direct.specs.declared.plain.Spot.{Spot}
use Rattle.its_direct.specs.declared.plain.Spot.TheVariants as spots
use Rattle.its_verify.specs.Going.{LineSays, SaysEnd, line_ruling}
use Rattle.its_verify.specs.TranscriptReader.{Concludes, PassesOn, Says, Stays}
use Rattle.its_verify.proofs.TranscriptReaderLaws.{nothing_on}
use Rattle.its_verify.specs.Rulings.{Ruling, at_end, gone, led, peeking, expects}
use Rattle.its_verify.specs.Letters.{ticked}
use Rattle.its_verify.specs.Showing.{shown_ruling}
use Rattle.its_verify.specs.JudgeState.{Forgets, Sure, walk_of}
use Rattle.its_verify.specs.Verifier.{StaysAtItem, TicksSay}
use Rattle.its_verify.specs.declared.outcome.Outcome.{Outcome}
use Rattle.its_verify.specs.declared.transcript_reader.TranscriptReader.{TranscriptReader}
use Rattle.its_verify.specs.declared.judge.Judge.{Judge}
use Rattle.its_verify.specs.declared.verifier.Verifier.{Verifier}
use Rattle.its_verify.proofs.JudgeStateLaws.{line_walk}

-- what is expected for an answer is what it shows
answer_shown : (a : Answer) (p : Plain) (out : List Line) → AnswerSays a p out → (next : Ruling) → shown_ruling a p next ≡ expects out next
answer_shown answers.Peeked p out says next = absurd says
answer_shown a p out says next = ap (λ (ls : List Line). expects ls next) (sym says)

-- a line that was obeyed: what is expected for it, and the state of the walk after it
pub record ObeyedSo (e : Event) (a : Answer) (old new : Judge) (b : Block) (n : ℕ) : Type 0 where
  pub after : Block
  pub speaks : Speaks new.plain.place after
  pub can : CanShow a new.plain
  pub goes : (next : Walk → Ruling)
      → gone (walk_of old b n) (lined (machine_of old.plain) b e) next ≡ shown_ruling a new.plain (next (walk_of new after (n + 1)))

speaks_same : (p q : Spot) (b : Block) → q ≡ p → Speaks p b → Speaks q b
speaks_same p q b is h = subst (λ (s : Spot). Speaks s b) (sym is) h

peek_so : (e : Event) (a : Answer) (old new : Judge) (b : Block) (n s : ℕ) → a ≡ answers.Peeked → Forgets new.plain old.dots new.dots
    → lined (machine_of old.plain) b e ≡ Peeks s
    → machine_of new.plain ≡ machine_of old.plain → ((k : ℕ) → is_touched new.plain k ≡ false) → new.plain.place ≡ old.plain.place
    → Speaks old.plain.place b → ObeyedSo e a old new b n
peek_so e a old new b n s peeked forgets is same none place speaks = record {
  after = b;
  speaks = speaks_same old.plain.place new.plain.place b place speaks;
  can = subst (λ (x : Answer). CanShow x new.plain) (sym peeked) tt;
  goes = λ next.
      ap (λ (o : Lined). gone (walk_of old b n) o next) is
      ∙ ap (λ (w : Walk). led peeking (λ text. next w)) (line_walk old new b b n (machine_of old.plain) (λ k. false) same none forgets)
      ∙ sym (ap (λ (x : Answer). shown_ruling x new.plain (next (walk_of new b (n + 1)))) peeked);
}

does_so : (e : Event) (a : Answer) (old new : Judge) (b : Block) (n : ℕ) (m : Machine) (out : List Line) (d : ℕ → Bool) (after : Block)
    → Forgets new.plain old.dots new.dots
    → lined (machine_of old.plain) b e ≡ Done (Does m out d after) → machine_of new.plain ≡ m → ((k : ℕ) → is_touched new.plain k ≡ d k)
    → Speaks new.plain.place after → AnswerSays a new.plain out → CanShow a new.plain → ObeyedSo e a old new b n
does_so e a old new b n m out d after forgets is same marks speaks says can = record {
  after = after;
  speaks = speaks;
  can = can;
  goes = λ next.
      ap (λ (o : Lined). gone (walk_of old b n) o next) is
      ∙ ap (λ (w : Walk). expects out (next w)) (line_walk old new b after n m d same marks forgets)
      ∙ sym (answer_shown a new.plain out says (next (walk_of new after (n + 1))));
}

by_comes : (e : Event) (a : Answer) (old new : Judge) (b : Block) (n : ℕ) (o : Lined) → Forgets new.plain old.dots new.dots
    → Speaks old.plain.place b → lined (machine_of old.plain) b e ≡ o → Obeys a old.plain new.plain o
    → ObeyedSo e a old new b n
by_comes e a old new b n (Done (Does m out d after)) forgets speaks is h = does_so e a old new b n m out d after forgets is h.0 h.1 h.2 h.3 h.4
by_comes e a old new b n (Peeks i) forgets speaks is h = peek_so e a old new b n i h.3 forgets is h.0 h.1 h.2 speaks
by_comes e a old new b n _ forgets speaks is h = absurd h

obeyed_so : (e : Event) (a : Answer) (old new : Judge) (b : Block) (n : ℕ) → Told e old.plain new.plain (Ok a)
    → Forgets new.plain old.dots new.dots → Speaks old.plain.place b → ObeyedSo e a old new b n
obeyed_so e a old new b n h forgets speaks =
    let o = h b speaks in
    by_comes e a old new b n o.comes forgets speaks o.is o.obeys

-- there is a block of which a place speaks
abbrev pub block_at : Spot → Block
block_at spots.Plain = no_block
block_at (spots.System s names) = record { slot = s; file = names }
block_at (spots.Load s) = record { slot = s; file = no_block.file }
block_at (spots.File names) = record { slot = 0; file = names }

pub speaks_at : (p : Spot) → Speaks p (block_at p)
speaks_at spots.Plain = tt
speaks_at (spots.System s names) = (refl, refl)
speaks_at (spots.Load s) = refl
speaks_at (spots.File names) = refl

pub told_can : (e : Event) (a : Answer) (old new : Judge) → Told e old.plain new.plain (Ok a) → Forgets new.plain old.dots new.dots
    → CanShow a new.plain
told_can e a old new h forgets = (obeyed_so e a old new (block_at old.plain.place) 0 h forgets (speaks_at old.plain.place)).can

-- the result of a line, if it was obeyed and its lines are read
says_told : (e : Event) (a : Answer) (r : Result (Option Outcome) Failed) (old mid new : Verifier) (left rest : Option (List ℕ)) (b : Block)
    (n : ℕ) (so : ObeyedSo e a old.judge mid.judge b n) → mid.reader ≡ old.reader
    → new.judge ≡ mid.judge → ((next : Ruling) → Says r mid.reader new.reader left rest (shown_ruling a mid.judge.plain next) next)
    → (next : Walk → Ruling) → Says r old.reader new.reader left rest (line_ruling old b n e next) (next (walk_of new.judge so.after (n + 1)))
says_told e a r old mid new left rest b n so reader judge says next =
    let on : Ruling = next (walk_of mid.judge so.after (n + 1)) in
    subst (λ (j : Judge). Says r old.reader new.reader left rest (line_ruling old b n e next) (next (walk_of j so.after (n + 1)))) (sym judge)
    (subst (λ (h : TranscriptReader). Says r h new.reader left rest (line_ruling old b n e next) on) reader
    (subst (λ (j : Ruling). Says r mid.reader new.reader left rest j on) (sym (so.goes next)) (says on)))

pub told_says : (e : Event) (a : Answer) (r : Result (Option Outcome) Failed) (old mid new : Verifier) (left rest : Option (List ℕ)) (n : ℕ)
    → Told e old.judge.plain mid.judge.plain (Ok a)
    → Forgets mid.judge.plain old.judge.dots mid.judge.dots → mid.reader ≡ old.reader → new.judge ≡ mid.judge
    → ((next : Ruling) → Says r mid.reader new.reader left rest (shown_ruling a mid.judge.plain next) next) → LineSays r old new left rest n e
told_says e a (Ok None) old mid new left rest n h forgets reader judge says = λ b speaks.
    (let so = obeyed_so e a old.judge mid.judge b n h forgets speaks in
    record {
      after = so.after;
      speaks = subst (λ (j : Judge). Speaks j.plain.place so.after) (sym judge) so.speaks;
      goes = says_told e a (Ok None) old mid new left rest b n so reader judge says;
    })
told_says e a (Ok (Some f)) old mid new left rest n h forgets reader judge says = λ b speaks.
    says_told e a (Ok (Some f)) old mid new left rest b n (obeyed_so e a old.judge mid.judge b n h forgets speaks) reader judge says
told_says e a (Err x) old mid new left rest n h forgets reader judge says = λ b speaks next forward.
    (let so = obeyed_so e a old.judge mid.judge b n h forgets speaks in
    says_told e a (Err x) old mid new left rest b n so reader judge says next (forward (walk_of new.judge so.after (n + 1))))

-- if all is said with a line
ends_says : (r : Result (Option Outcome) Failed) (e : Event) (old new : Verifier) (left rest : Option (List ℕ)) (n : ℕ) (judge : Ruling)
    → ((b : Block) → Speaks old.judge.plain.place b → (next : Walk → Ruling) → line_ruling old b n e next ≡ judge)
    → SaysEnd r old.reader left rest judge → LineSays r old new left rest n e
ends_says (Ok None) e old new left rest n judge is ends = absurd ends
ends_says (Ok (Some f)) e old new left rest n judge is ends =
    λ b speaks next. subst (λ (j : Ruling). Concludes (Ok f) old.reader left rest j) (sym (is b speaks next)) ends
ends_says (Err x) e old new left rest n judge is ends = λ b speaks next forward. subst
    (λ (j : Ruling). Concludes (Err x) old.reader left rest j) (sym (is b speaks next)) ends

-- if it was refused
pub told_refused : (e : Event) (x : Refusal) (r : Result (Option Outcome) Failed) (old new : Verifier) (mid : Judge) (h : TranscriptReader)
    (left rest : Option (List ℕ)) (n : ℕ) → Told e old.judge.plain mid.plain (Err x)
    → h ≡ old.reader → SaysEnd r h left rest (expects (Refused n (reason_of x) ∷ []) at_end) → LineSays r old new left rest n e
told_refused e x r old new mid h left rest n refuses reader ends =
    ends_says r e old new left rest n (expects (Refused n (reason_of x) ∷ []) at_end)
    (λ b speaks next. ap (λ (o : Lined). gone (walk_of old.judge b n) o next) (refuses b speaks))
    (subst (λ (y : TranscriptReader). SaysEnd r y left rest (expects (Refused n (reason_of x) ∷ []) at_end)) reader ends)

-- TICK and END
tick_lined : (m : Machine) (b : Block) (i k : ℕ) → lined m b (events.Tick i k) ≡ Done (Ticks i k)
unfolding lined operate
tick_lined m b i k = refl

end_lined : (m : Machine) (b : Block) → lined m b events.End ≡ Done Quits
unfolding lined operate
end_lined m b = refl

says_tick : (i k : ℕ) (r : Result (Option Outcome) Failed) (old new : Verifier) (left rest : Option (List ℕ)) (b : Block) (n : ℕ) (next : Walk → Ruling)
    → Says r old.reader new.reader left rest (led (ticked (walk_of old.judge b n) i k) (λ w. next (next_line w))) (next (walk_of new.judge b (n + 1)))
    → Says r old.reader new.reader left rest (line_ruling old b n (events.Tick i k) next) (next (walk_of new.judge b (n + 1)))
says_tick i k r old new left rest b n next =
    subst (λ (o : Lined). Says r old.reader new.reader left rest (gone (walk_of old.judge b n) o next) (next (walk_of new.judge b (n + 1))))
    (sym (tick_lined (machine_of old.judge.plain) b i k))

pub tick_says : (i k : ℕ) (r : Result (Option Outcome) Failed) (old new : Verifier) (left rest : Option (List ℕ)) (n : ℕ)
    → TicksSay r old new left rest i k
    → new.judge.plain.place ≡ old.judge.plain.place → LineSays r old new left rest n (events.Tick i k)
tick_says i k (Ok None) old new left rest n says place = λ b speaks. record {
  after = b;
  speaks = speaks_same old.judge.plain.place new.judge.plain.place b place speaks;
  goes = λ next. says_tick i k (Ok None) old new left rest b n next (says b n (λ w. next (next_line w)));
}
tick_says i k (Ok (Some f)) old new left rest n says place =
    λ b speaks next. says_tick i k (Ok (Some f)) old new left rest b n next (says b n (λ w. next (next_line w)))
tick_says i k (Err x) old new left rest n says place = λ b speaks next forward.
    says_tick i k (Err x) old new left rest b n next (λ on. says b n (λ w. next (next_line w)) (λ w. forward (next_line w)))
    (forward (walk_of new.judge b (n + 1)))

run_lined : (m : Machine) (b : Block) (k q : ℕ) → lined m b (events.Run k q) ≡ Done (Does m [] nobody b)
unfolding lined operate
run_lined m b k q = refl

pub run_says : (k q : ℕ) (e : Event) (old : Verifier) (left : Option (List ℕ)) (n : ℕ) → e ≡ events.Run k q → LineSays (Ok None) old old left left n e
run_says k q e old left n is = λ b speaks. record {
  after = b;
  speaks = speaks;
  goes = λ next.
      (let on : Ruling = next (walk_of old.judge b (n + 1)) in
      subst (λ (o : Lined). PassesOn old.reader old.reader left left (gone (walk_of old.judge b n) o next) on)
      (sym (ap (lined (machine_of old.judge.plain) b) is ∙ run_lined (machine_of old.judge.plain) b k q))
      (nothing_on old.reader left on));
}

pub end_says : (r : Result (Option Outcome) Failed) (e : Event) (old new : Verifier) (left rest : Option (List ℕ)) (n : ℕ) → e ≡ events.End
    → SaysEnd r old.reader left rest at_end → LineSays r old new left rest n e
end_says r e old new left rest n is ends =
    ends_says r e old new left rest n at_end
    (λ b speaks next. ap (λ (o : Lined). gone (walk_of old.judge b n) o next)
    (ap (lined (machine_of old.judge.plain) b) is ∙ end_lined (machine_of old.judge.plain) b)) ends

pub end_stays : (r : Result (Option Outcome) Failed) (old : TranscriptReader) (left rest : Option (List ℕ)) (judge : Ruling)
    (new : Verifier) → SaysEnd r old left rest judge → StaysAtItem r new rest
end_stays (Ok None) old left rest judge new ends = absurd ends
end_stays (Ok (Some f)) old left rest judge new ends = tt
end_stays (Err x) old left rest judge new ends = tt

pub never_on : {X : Type 0} (r : Result (Option Outcome) Failed) (old : TranscriptReader) (left rest : Option (List ℕ)) (judge : Ruling)
    → SaysEnd r old left rest judge → r ≡ Ok None → X
never_on (Ok None) old left rest judge ends is = absurd ends
never_on (Ok (Some f)) old left rest judge ends is = cc
never_on (Err x) old left rest judge ends is = cc

-- if it goes on, the next line may come
pub at_item_on : (r : Result (Option Outcome) Failed) (new : Verifier) (rest : Option (List ℕ)) → Stays r new.reader rest → Sure new.judge
    → new.judge.ended ≡ false → StaysAtItem r new rest
at_item_on (Ok None) new rest h sure going = record { at_line = h; sure = sure; going = going }
at_item_on (Ok (Some f)) new rest h sure going = tt
at_item_on (Err x) new rest h sure going = tt
