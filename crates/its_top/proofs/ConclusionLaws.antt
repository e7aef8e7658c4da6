-- From what each item of a session did to how the session ends.
use Rattle.std.specs.Prelude.{◌≡◌, ◌≢◌, ℕ, ◌+◌, true, false, Option, Some, None, IfSome, Ok, Err, List, [], ◌∷◌, ◌++◌, refl}
use Rattle.std.proofs.Common.{sym, ◌∙◌, ap, subst, append_assoc, append-nil}
use Rattle.std.proofs.KnownBytes.{Appends-nil, Appends-trans}
use Rattle.its_io.specs.declared.stream.Failed.{Failed}
use Rattle.its_records.specs.Item.{Item, Unread}
use Rattle.its_records.specs.declared.session.Event.{Event}
use Rattle.its_records.specs.declared.session.Event.TheVariants as events
use Rattle.its_records.specs.declared.session.Place.TheVariants as places
use Rattle.its_records.specs.declared.session.Reason.{Reason}
use Rattle.its_print.specs.Printing.{text_of_line, text}
use Rattle.its_print.specs.Printing as printed
use Rattle.its_session.specs.Events.{events_of}
use Rattle.its_reader.specs.declared.items.Found.{Found}
use Rattle.its_reader.specs.declared.items.Found.TheVariants as founds
use Rattle.its_reader.specs.declared.items.Items.{Items}
use Rattle.its_reader.specs.Bytes.{pending}
use Rattle.its_reader.specs.Lines.{BetweenLines}
use Rattle.its_reader.specs.Items.{is_last, is_end, last_items, Finds, FoundSoFar, ReadOut, AllFound, Behind}
use Rattle.its_reader.proofs.ItemsLaws as reader
use Rattle.its_plain.specs.Machine.{no_machine}
use Rattle.its_plain.specs.Operator.{Block}
use Rattle.its_plain.specs.Machine.Own.{names_of}
use Rattle.its_plain.specs.Transcript.{Fate, Ended, Open, Refused}
use Rattle.its_stepped.specs.State.{State, no_state}
use Rattle.its_plain.specs.Transcript.Turns.{highest}
use Rattle.its_stepped.specs.Lines.{stepped}
use Rattle.its_top.specs.declared.commands.status.Status.{Status}
use Rattle.its_top.specs.declared.commands.status.Status.TheVariants as statuses
use Rattle.its_top.specs.declared.sessions.flow.Flow.{Flow}
use Rattle.its_top.specs.declared.sessions.flow.Flow.TheVariants as flows
use Rattle.its_top.specs.Telling.{Says, said, after, saying, session_says, goes_on_after, FollowsBy, goes_on}
use Rattle.its_top.specs.Answer.{WroteFor, Tells, Follows, block_of}
use Rattle.its_top.specs.Conclusion.{IsDone, Finished, Concluded, WasRun, Session, SoFar, status_of, Over, TakenBy, Takes}
use Rattle.its_top.proofs.EventLaws.{after_after, text_one}

pub on_of : (flow : Flow) → goes_on flow ≡ true → flow ≡ flows.On
on_of flows.On h = refl
on_of _ h = cc

pub not_fault : (flow : Flow) → goes_on flow ≡ true → flow ≢ flows.Fault
not_fault flow h e = let k : false ≡ true = sym (ap goes_on e) ∙ h in cc

-- END alone ends a session
pub not_last : (e : Event) → goes_on_after e ≡ true → is_last (founds.Line e) ≡ false
not_last events.End h = cc
not_last _ h = refl

pub is_the_end : (e : Event) → goes_on_after e ≡ false → is_end (founds.Line e) ≡ true
is_the_end events.End h = refl
is_the_end _ h = cc

-- what each item did
saying_ends : (st : Status) (f : Fate) (s : Says) (w : List ℕ) → s ≡ saying w f → Finished st (saying w f) w → Finished st s w
saying_ends st f s w e h = subst (λ x. Finished st x w) (sym e) h

by_answer : (flow : Flow) (n : ℕ) (v v' : State) (b b' : Block) (i i' : ℕ) (e : Event) (w : List ℕ) → FollowsBy flow n v b i e v' b' i' w
    → TakenBy flow n v b i (founds.Line e) v' b' i' w
by_answer flows.On n v v' b b' i i' e w a = (not_last e a.0, a.1)
by_answer flows.Ended n v v' b b' i i' e w a = (is_the_end e a.0, λ behind l. saying_ends statuses.Done Ended _ w (a.1 behind) (refl, tt))
by_answer flows.Refused n v v' b b' i i' e w a = λ behind l. saying_ends statuses.Refused Refused _ w (a behind) (refl, refl)
by_answer flows.TooLong n v v' b b' i i' e w a = absurd a
by_answer flows.Fault n v v' b b' i i' e w a = λ behind l. a behind

pub takes_line : (flow : Flow) (n : ℕ) (v v' : State) (b b' : Block) (i i' : ℕ) (f : Found) (e : Event) (old new : Option (List ℕ))
    → f ≡ founds.Line e → Follows flow n v b i e v' b' i' old new → Takes flow n v b i f v' b' i' old new
takes_line flow n v v' b b' i i' f e old new h a =
    subst (λ x. Takes flow n v b i x v' b' i' old new) (sym h)
    (record { wrote = a.wrote; appended = a.appended; taken = by_answer flow n v v' b b' i i' e a.wrote a.follows })

says_bad : (n : ℕ) (v : State) (b : Block) (i : ℕ) (r : Reason) (behind : List Item)
    → session_says n v b i (Unread r ∷ behind) ≡ saying (text (printed.Refused n r ∷ [])) Refused
unfolding session_says
says_bad n v b i r behind = refl

by_refusal : (flow : Flow) (n : ℕ) (v v' : State) (b b' : Block) (i i' : ℕ) (r : Reason) (l w : List ℕ)
    → text (printed.Refused n r ∷ []) ≡ l → WroteFor flow flows.Refused l w → TakenBy flow n v b i (founds.Bad r) v' b' i' w
by_refusal flows.Refused n v v' b b' i i' r l w e c = λ behind k.
    (ap (λ x. x.text) (says_bad n v b i r behind) ∙ e ∙ c.1, ap (λ x. x.fate) (says_bad n v b i r behind))
by_refusal flows.Fault n v v' b b' i i' r l w e c = λ behind k. record { more = c.0; whole = ap (λ x. x.text) (says_bad n v b i r behind) ∙ e ∙ c.1 }
by_refusal flows.On n v v' b b' i i' r l w e c = absurd (let k : flows.On ≡ flows.Refused = c.0 in cc)
by_refusal flows.Ended n v v' b b' i i' r l w e c = absurd (let k : flows.Ended ≡ flows.Refused = c.0 in cc)
by_refusal flows.TooLong n v v' b b' i i' r l w e c = absurd (let k : flows.TooLong ≡ flows.Refused = c.0 in cc)

pub takes_bad : (flow : Flow) (n : ℕ) (v v' : State) (b b' : Block) (i i' : ℕ) (f : Found) (r : Reason) (old new : Option (List ℕ))
    → f ≡ founds.Bad r → Tells flow flows.Refused (text_of_line (printed.Refused n r)) old new
    → Takes flow n v b i f v' b' i' old new
takes_bad flow n v v' b b' i i' f r old new h t =
    subst (λ x. Takes flow n v b i x v' b' i' old new) (sym h)
    (record {
      wrote = t.wrote;
      appended = t.appended;
      taken = by_refusal flow n v v' b b' i i' r (text_of_line (printed.Refused n r))
          t.wrote (text_one (printed.Refused n r)) t.complete;
    })

pub takes_beyond : (n : ℕ) (v v' : State) (b b' : Block) (i i' : ℕ) (f : Found) (out : Option (List ℕ)) → f ≡ founds.Beyond
    → Takes flows.TooLong n v b i f v' b' i' out out
unfolding session_says text
takes_beyond n v v' b b' i i' f out h =
    subst (λ x. Takes flows.TooLong n v b i x v' b' i' out out) (sym h) (record { wrote = []; appended = Appends-nil out; taken = λ behind l. (refl, refl) })

says_nothing : (n : ℕ) (v : State) (b : Block) (i : ℕ) → session_says n v b i [] ≡ saying [] Open
unfolding session_says text
says_nothing n v b i = refl

pub takes_end : (n : ℕ) (v v' : State) (b b' : Block) (i i' : ℕ) (f : Found) (out : Option (List ℕ)) → f ≡ founds.End
    → Takes flows.Ended n v b i f v' b' i' out out
takes_end n v v' b b' i i' f out h =
    subst (λ x. Takes flows.Ended n v b i x v' b' i' out out) (sym h)
    (record {
      wrote = [];
      appended = Appends-nil out;
      taken =
          (refl, λ behind l. saying_ends statuses.Done Open _ [] (ap (session_says n v b i) (l refl) ∙ says_nothing n v b i) (refl, tt));
    })

-- the start of a session
says_all : (n : ℕ) (v : State) (i : ℕ) (behind : List Item) → n ≡ 1 → v ≡ no_state no_machine → i ≡ highest
    → said (stepped behind) ≡ session_says n v (block_of 0 (names_of 0 0 0)) i behind
unfolding session_says
says_all n v i behind e h l =
    let b = block_of 0 (names_of 0 0 0) in
    ap (λ k. session_says k (no_state no_machine) b highest behind) (sym e) ∙ ap (λ k. session_says n k b highest behind) (sym h)
    ∙ ap (λ k. session_says n v b k behind) (sym l)

pub so_start : (r : Items) (v : State) (i : ℕ) (left out : Option (List ℕ)) → v ≡ no_state no_machine → i ≡ highest → r.lines.number ≡ 0
    → r.lines.ended ≡ false → pending r.lines.buffer ≡ [] → r.place ≡ places.First → r.version ≡ 1
    → SoFar r (r.lines.number + 1) v (block_of 0 (names_of 0 0 0)) i left left out out
so_start r v i left out e l n o p q k = record {
  items = [];
  found = reader.so_start r left n o p q k;
  wrote = [];
  appended = Appends-nil out;
  says = λ behind. says_all (r.lines.number + 1) v i behind (ap (λ k. k + 1) n) e l;
}

-- the session goes on
pub found_on : (f : Found) (es : List Item) (old new : Items) (left mid rest : Option (List ℕ)) → is_last f ≡ false → FoundSoFar es old left mid
    → Finds (Ok f) old new mid rest → FoundSoFar (es ++ last_items f) new left rest
found_on (founds.Line e) es old new left mid rest l s f = reader.so_next es e old new left mid rest l s f
found_on _ es old new left mid rest l s f = cc

on_next : (f : Found) (n : ℕ) (v v' : State) (b b' : Block) (i i' : ℕ) (r r' : Items) (left mid rest old out new : Option (List ℕ))
    → SoFar r n v b i left mid old out → Finds (Ok f) r r' mid rest → Takes flows.On n v b i f v' b' i' out new
    → SoFar r' (n + 1) v' b' i' left rest old new
on_next f n v v' b b' i i' r r' left mid rest old out new s t k = record {
  items = s.items ++ last_items f;
  found = found_on f s.items r r' left mid rest k.taken.0 s.found t;
  wrote = s.wrote ++ k.wrote;
  appended = Appends-trans old out new s.wrote k.wrote s.appended k.appended;
  says = λ behind. ap (λ x. said (stepped x)) (append_assoc s.items (last_items f) behind) ∙ s.says (last_items f ++ behind)
      ∙ ap (after s.wrote) (k.taken.1 behind)
      ∙ after_after s.wrote k.wrote (session_says (n + 1) v' b' i' behind);
}

pub not_last_by : (flow : Flow) (n : ℕ) (v v' : State) (b b' : Block) (i i' : ℕ) (f : Found) (out new : Option (List ℕ))
    → goes_on flow ≡ true → Takes flow n v b i f v' b' i' out new → is_last f ≡ false
not_last_by flow n v v' b b' i i' f out new g t = (subst (λ x. Takes x n v b i f v' b' i' out new) (on_of flow g) t).taken.0

pub so_next : (flow : Flow) (f : Found) (n k : ℕ) (v v' : State) (b b' : Block) (i i' : ℕ) (r r' : Items)
    (left mid rest old out new : Option (List ℕ)) → goes_on flow ≡ true → k ≡ n → SoFar r k v b i left mid old out → Finds (Ok f) r r' mid rest
    → Takes flow n v b i f v' b' i' out new → SoFar r' (n + 1) v' b' i' left rest old new
so_next flow f n k v v' b b' i i' r r' left mid rest old out new g e s t w =
    on_next f n v v' b b' i i' r r' left mid rest old out new (subst (λ x. SoFar r x v b i left mid old out) e s) t
    (subst (λ x. Takes x n v b i f v' b' i' out new) (on_of flow g) w)

-- the session is over
finished_after : (st : Status) (s t : Says) (v w : List ℕ) → s ≡ after v t → Finished st t w → Finished st s (v ++ w)
finished_after statuses.Done s t v w e f = (ap (λ x. x.text) e ∙ ap (λ x. v ++ x) f.0, subst IsDone (sym (ap (λ x. x.fate) e)) f.1)
finished_after statuses.Refused s t v w e f = (ap (λ x. x.text) e ∙ ap (λ x. v ++ x) f.0, ap (λ x. x.fate) e ∙ f.1)
finished_after statuses.TooLong s t v w e f = (ap (λ x. x.text) e ∙ ap (λ x. v ++ x) f.0, ap (λ x. x.fate) e ∙ f.1)
finished_after statuses.WriteFault s t v w e f =
    record { more = f.more; whole = ap (λ x. x.text) e ∙ ap (λ x. v ++ x) f.whole ∙ sym (append_assoc v w f.more) }
finished_after _ s t v w e f = absurd f

over_of : (flow : Flow) (n : ℕ) (v v' : State) (b b' : Block) (i i' : ℕ) (f : Found) (w : List ℕ) → goes_on flow ≡ false
    → TakenBy flow n v b i f v' b' i' w → Over flow n v b i f w
over_of flows.On n v v' b b' i i' f w g t = cc
over_of flows.Ended n v v' b b' i i' f w g t = t.1
over_of _ n v v' b b' i i' f w g t = t

was_run : (flow : Flow) → WasRun (status_of flow)
was_run flows.On = tt
was_run flows.Ended = tt
was_run flows.Refused = tt
was_run flows.TooLong = tt
was_run flows.Fault = tt

as_concluded : (st : Status) (bytes read w : List ℕ) → Finished st (said (stepped (events_of bytes))) w → Concluded st bytes read w
as_concluded statuses.ReadFault bytes read w f = absurd f
as_concluded statuses.Usage bytes read w f = absurd f
as_concluded statuses.NoMemory bytes read w f = absurd f
as_concluded _ bytes read w f = f

told_over : (flow : Flow) (n : ℕ) (v : State) (b : Block) (i : ℕ) (f : Found) (es : List Item) (left : Option (List ℕ)) (read v1 w : List ℕ)
    → ((behind : List Item) → said (stepped (es ++ behind)) ≡ after v1 (session_says n v b i behind))
    → Over flow n v b i f w → IfSome left (λ bytes. Behind f es bytes) → IfSome left (λ bytes. Concluded (status_of flow) bytes read (v1 ++ w))
told_over flow n v b i f es None read v1 w s o h = tt
told_over flow n v b i f es (Some bytes) read v1 w s o h =
    as_concluded (status_of flow) bytes read (v1 ++ w)
    (finished_after (status_of flow) _ _ v1 w (ap (λ x. said (stepped x)) h.all ∙ s (last_items f ++ h.tail)) (o h.tail h.last))

told_input : (flow : Flow) (n : ℕ) (v v' : State) (b b' : Block) (i i' : ℕ) (f : Found) (es : List Item) (w : List ℕ) (r r' : Items)
    (left mid rest : Option (List ℕ)) → goes_on flow ≡ false → TakenBy flow n v b i f v' b' i' w
    → BetweenLines r'.lines rest → FoundSoFar es r left mid → Finds (Ok f) r r' mid rest → status_of flow ≡ statuses.Done
    → IfSome left (λ bytes. ReadOut bytes rest)
told_input flows.Ended n v v' b b' i i' f es w r r' left mid rest g t y s k e = reader.out_of f es r r' left mid rest y s k t.0
told_input _ n v v' b b' i i' f es w r r' left mid rest g t y s k e = cc

over_by : (flow : Flow) (f : Found) (n : ℕ) (v v' : State) (b b' : Block) (i i' : ℕ) (r r' : Items)
    (left mid rest old out new : Option (List ℕ)) → goes_on flow ≡ false → BetweenLines r'.lines rest → SoFar r n v b i left mid old out
    → Finds (Ok f) r r' mid rest → Takes flow n v b i f v' b' i' out new → Session (status_of flow) left rest old new
over_by flow f n v v' b b' i i' r r' left mid rest old out new g y s t w = record {
  read = s.found.read ++ t.read;
  wrote = s.wrote ++ w.wrote;
  consumed = reader.consumed_then s.items f r r' left mid rest s.found t;
  appended = Appends-trans old out new s.wrote w.wrote s.appended w.appended;
  ran = was_run flow;
  concluded = told_over flow n v b i f s.items left (s.found.read ++ t.read) s.wrote w.wrote s.says
      (over_of flow n v v' b b' i i' f w.wrote g w.taken) (reader.behind_by f s.items r r' left mid rest y s.found t);
  input = told_input flow n v v' b b' i i' f s.items w.wrote r r' left mid rest g w.taken y s.found t;
}

pub session_over : (st : Status) (flow : Flow) (f : Found) (n k : ℕ) (v v' : State) (b b' : Block) (i i' : ℕ) (r r' : Items)
    (left mid rest old out new : Option (List ℕ)) → st ≡ status_of flow → goes_on flow ≡ false → k ≡ n → BetweenLines r'.lines rest
    → SoFar r k v b i left mid old out → Finds (Ok f) r r' mid rest → Takes flow n v b i f v' b' i' out new → Session st left rest old new
session_over st flow f n k v v' b b' i i' r r' left mid rest old out new h g e y s t w =
    subst (λ x. Session x left rest old new) (sym h) (over_by flow f n v v' b b' i i' r r' left mid rest old out new g y
    (subst (λ x. SoFar r x v b i left mid old out) e s) t w)

-- the source failed
told_fault : (x : Failed) (n : ℕ) (v : State) (b : Block) (i : ℕ) (es : List Item) (left : Option (List ℕ)) (read w : List ℕ)
    → ((behind : List Item) → said (stepped (es ++ behind)) ≡ after w (session_says n v b i behind))
    → IfSome left (λ bytes. AllFound (Err x) es bytes read) → IfSome left (λ bytes. Concluded statuses.ReadFault bytes read w)
told_fault x n v b i es None read w s a = tt
told_fault x n v b i es (Some bytes) read w s a = (
  ap (λ x. said (stepped x)) (a.0 ∙ sym (append-nil es)) ∙ s [] ∙ ap (after w) (says_nothing n v b i) ∙ ap (λ t. saying t Open) (append-nil w),
  a.1,
)

pub session_fault : (x : Failed) (n : ℕ) (v : State) (b : Block) (i : ℕ) (r r' : Items) (left mid rest old out : Option (List ℕ))
    → SoFar r n v b i left mid old out → Finds (Err x) r r' mid rest → Session statuses.ReadFault left rest old out
session_fault x n v b i r r' left mid rest old out s t =
    let e = reader.ended_broken x s.items r r' left mid rest s.found t in
    record {
      read = e.read;
      wrote = s.wrote;
      consumed = e.consumed;
      appended = s.appended;
      ran = tt;
      concluded = told_fault x n v b i s.items left e.read s.wrote s.says e.all;
      input = λ k. cc;
    }

-- a session that is done was read to END or to the end of its input
pub ended_input : (st : Status) (left rest old new : Option (List ℕ)) → Session st left rest old new → st ≡ statuses.Done
    → IfSome left (λ bytes. ReadOut bytes rest)
ended_input st left rest old new s e = s.input e
