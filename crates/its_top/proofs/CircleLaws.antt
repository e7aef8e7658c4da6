-- RUN, turn by turn.
use Rattle.std.specs.Prelude.{◌≡◌, ◌<◌, ◌≤◌, ◌+◌, ◌-◌, ℕ, suc, true, false, Option, Some, None, List, [], ◌∷◌, ◌++◌, refl}
use Rattle.std.proofs.Common.{sym, ◌∙◌, ap, subst, arith, append_assoc}
use Rattle.std.proofs.KnownBytes.{Appends-nil, Appends-trans}
use Rattle.its_records.specs.Item.{Item, Read}
use Rattle.its_records.specs.declared.session.Event.{Event}
use Rattle.its_records.specs.declared.session.Event.TheVariants as events
use Rattle.its_print.specs.Printing.{text_of_line, text}
use Rattle.its_print.specs.Printing as printed
use Rattle.its_plain.specs.Operator.{Block}
use Rattle.its_plain.specs.Operator.Lines.{operate, lined}
use Rattle.its_plain.specs.Transcript.Turns.{turn_after, turn_kept, turns_asked, ticks_asked}
use Rattle.its_stepped.specs.State.{State}
use Rattle.its_stepped.specs.Lines.{Told, after_calm, paces_of, after_ticks, turned_by, turned, told}
use Rattle.its_top.specs.declared.sessions.flow.Flow.{Flow}
use Rattle.its_top.specs.declared.sessions.flow.Flow.TheVariants as flows
use Rattle.its_top.specs.Telling.{Says, said, after, BeginsText, session_says, Answers, FollowsBy, CircledBy, goes_on}
use Rattle.its_top.specs.Answer.{WroteFor, Tells, Answered, Follows, Circled, CircleSo}
use Rattle.its_top.proofs.EventLaws.{after_after, text_one, said_telling}
use Rattle.its_top.proofs.ConclusionLaws.{on_of}

-- the turns that a line asks for, and the lines after them
abbrev then : ℕ → Event → ℕ → List Item → State → Block → Told
then n e i items v b = turned (turns_asked e) (ticks_asked e) v (turn_kept i e) (λ x l. told (n + 1) x b l items)

-- a line that asks for no turns
then_none : (n : ℕ) (e : Event) (i : ℕ) (items : List Item) (v : State) (b : Block) → turns_asked e ≡ 0
    → said (then n e i items v b) ≡ session_says (n + 1) v b (turn_kept i e) items
unfolding session_says
then_none n e i items v b none = ap (λ k. said (turned k (ticks_asked e) v (turn_kept i e) (λ x l. told (n + 1) x b l items))) none

follows_by : (flow : Flow) (n : ℕ) (v v' : State) (b b' : Block) (i : ℕ) (e : Event) (w : List ℕ) → turns_asked e ≡ 0
    → Answers flow n v b e v' b' w → FollowsBy flow n v b i e v' b' (turn_kept i e) w
unfolding session_says
follows_by flows.On n v v' b b' i e w none a = (a.0, λ items. a.1 (then n e i items) ∙ ap (after w) (then_none n e i items v' b' none))
follows_by flows.Ended n v v' b b' i e w none a = (a.0, λ items. a.1 (then n e i items))
follows_by flows.Refused n v v' b b' i e w none a = λ items. a (then n e i items)
follows_by flows.TooLong n v v' b b' i e w none a = a
follows_by flows.Fault n v v' b b' i e w none a = λ items. a (then n e i items)

pub line_follows : (flow : Flow) (n : ℕ) (v v' : State) (b b' : Block) (i j : ℕ) (e : Event) (old new : Option (List ℕ)) → j ≡ turn_kept i e
    → turns_asked e ≡ 0 → Answered flow n v b e v' b' old new → Follows flow n v b i e v' b' j old new
line_follows flow n v v' b b' i j e old new keeps none a =
    subst (λ k. Follows flow n v b i e v' b' k old new) (sym keeps)
    (record { wrote = a.wrote; appended = a.appended; follows = follows_by flow n v v' b b' i e a.wrote none a.answers })

-- RUN, and its turns
run_says : (n : ℕ) (v : State) (b : Block) (i k q : ℕ) (items : List Item)
    → session_says n v b i (Read (events.Run k q) ∷ items) ≡ said (turned k q v i (λ x l. told (n + 1) x b l items))
unfolding session_says after_calm lined operate
run_says n v b i k q items = refl

run_by : (flow : Flow) (n : ℕ) (v v' : State) (b : Block) (i j k q : ℕ) (w : List ℕ) → CircledBy flow v i k q v' j w
    → FollowsBy flow n v b i (events.Run k q) v' b j w
unfolding session_says
run_by flows.On n v v' b i j k q w c = (refl, λ items. run_says n v b i k q items ∙ c (λ x l. told (n + 1) x b l items))
run_by flows.Fault n v v' b i j k q w c = λ items. subst (λ s. BeginsText s w) (sym (run_says n v b i k q items)) (c (λ x l. told (n + 1) x b l items))
run_by _ n v v' b i j k q w c = absurd c

pub run_follows : (flow : Flow) (n : ℕ) (v v' : State) (b : Block) (i j k q : ℕ) (e : Event) (old new : Option (List ℕ))
    → e ≡ events.Run k q → Circled flow v i k q v' j old new
    → Follows flow n v b i e v' b j old new
run_follows flow n v v' b i j k q e old new is c =
    subst (λ x. Follows flow n v b i x v' b j old new) (sym is)
    (record { wrote = c.wrote; appended = c.appended; follows = run_by flow n v v' b i j k q c.wrote c.circled })

-- no turn yet
pub circle_start : (v : State) (i n q : ℕ) (out : Option (List ℕ)) → CircleSo v v i i n 0 q out out
circle_start v i n q out = record {
  wrote = [];
  appended = Appends-nil out;
  says = λ next. (let e : n ≡ n - 0 = omega arith in ap (λ k. said (turned k q v i next)) e);
}

-- a turn of slot s
turn_says : (k q : ℕ) (v : State) (i s : ℕ) (next : State → ℕ → Told) → turn_after v.raw i ≡ Some s
    → said (turned (suc k) q v i next) ≡ after (text_of_line (printed.Ticks s (paces_of v s q))) (said (turned k q (after_ticks v s q) s next))
turn_says k q v i s next e =
    let rest = turned k q (after_ticks v s q) s next in
    ap (λ o. said (turned_by o q v (λ x l. turned k q x l next) (next v i))) e
    ∙ said_telling (printed.Ticks s (paces_of v s q) ∷ []) rest
    ∙ ap (λ t. after t (said rest)) (text_one (printed.Ticks s (paces_of v s q)))

turns_left : (n k q : ℕ) (now : State) (j s : ℕ) (next : State → ℕ → Told) → k < n → turn_after now.raw j ≡ Some s
    → said (turned (n - k) q now j next) ≡ after (text_of_line (printed.Ticks s (paces_of now s q)))
    (said (turned (n - (k + 1)) q (after_ticks now s q) s next))
turns_left n k q now j s next below e =
    let one : n - k ≡ suc (n - (k + 1)) = omega arith in
    ap (λ x. said (turned x q now j next)) one ∙ turn_says (n - (k + 1)) q now j s next e

pub circle_turn : (flow : Flow) (v now new : State) (i j s n k q : ℕ) (old mid out : Option (List ℕ)) → k < n
    → CircleSo v now i j n k q old mid → turn_after now.raw j ≡ Some s
    → new ≡ after_ticks now s q → goes_on flow ≡ true → Tells flow flows.On (text_of_line (printed.Ticks s (paces_of now s q))) mid out
    → CircleSo v new i s n (k + 1) q old out
circle_turn flow v now new i j s n k q old mid out below c e f g t =
    let w = text_of_line (printed.Ticks s (paces_of now s q)) in
    let told_all : WroteFor flows.On flows.On w t.wrote = subst (λ x. WroteFor x flows.On w t.wrote) (on_of flow g) t.complete in
    record {
      wrote = c.wrote ++ t.wrote;
      appended = Appends-trans old mid out c.wrote t.wrote c.appended t.appended;
      says = λ next.
          let rest = said (turned (n - (k + 1)) q (after_ticks now s q) s next) in
          c.says next
          ∙ ap (after c.wrote) (turns_left n k q now j s next below e)
          ∙ after_after c.wrote w rest
          ∙ ap (λ x. after (c.wrote ++ x) rest) told_all.1
          ∙ ap (λ x. after (c.wrote ++ t.wrote) (said (turned (n - (k + 1)) q x s next))) (sym f);
    }

-- its line was not written
begun_by : (s t : Says) (v w more : List ℕ) → s ≡ after (v ++ (w ++ more)) t → BeginsText s (v ++ w)
begun_by s t v w more e = record {
  more = more ++ t.text;
  whole = ap (λ (x : Says). x.text) e ∙ append_assoc v (w ++ more) t.text ∙ ap (λ x. v ++ x) (append_assoc w more t.text)
      ∙ sym (append_assoc v w (more ++ t.text));
}

circled_by : (flow : Flow) (v now new : State) (i j s n k q : ℕ) (wrote bytes part : List ℕ) → k < n
    → ((next : State → ℕ → Told) → said (turned n q v i next) ≡ after wrote (said (turned (n - k) q now j next)))
    → turn_after now.raw j ≡ Some s → goes_on flow ≡ false → bytes ≡ text_of_line (printed.Ticks s (paces_of now s q))
    → WroteFor flow flows.On bytes part → CircledBy flow v i n q new s (wrote ++ part)
circled_by flows.Fault v now new i j s n k q wrote bytes part below says e g h t = λ next.
    let w = text_of_line (printed.Ticks s (paces_of now s q)) in
    let rest = said (turned (n - (k + 1)) q (after_ticks now s q) s next) in
    begun_by (said (turned n q v i next)) rest wrote part t.0
    (says next ∙ ap (after wrote) (turns_left n k q now j s next below e) ∙ after_after wrote w rest ∙ ap (λ x. after (wrote ++ x) rest) (sym h ∙ t.1))
circled_by flows.On v now new i j s n k q wrote bytes part below says e g h t = cc
circled_by flows.Ended v now new i j s n k q wrote bytes part below says e g h t = absurd (let x : flows.Ended ≡ flows.On = t.0 in cc)
circled_by flows.Refused v now new i j s n k q wrote bytes part below says e g h t = absurd (let x : flows.Refused ≡ flows.On = t.0 in cc)
circled_by flows.TooLong v now new i j s n k q wrote bytes part below says e g h t = absurd (let x : flows.TooLong ≡ flows.On = t.0 in cc)

pub circle_fault : (flow : Flow) (v now new : State) (i j s n k q : ℕ) (old mid out : Option (List ℕ)) → k < n
    → CircleSo v now i j n k q old mid → turn_after now.raw j ≡ Some s
    → goes_on flow ≡ false → Tells flow flows.On (text_of_line (printed.Ticks s (paces_of now s q))) mid out → Circled flow v i n q new s old out
circle_fault flow v now new i j s n k q old mid out below c e g t = record {
  wrote = c.wrote ++ t.wrote;
  appended = Appends-trans old mid out c.wrote t.wrote c.appended t.appended;
  circled = circled_by flow v now new i j s n k q c.wrote (text_of_line (printed.Ticks s (paces_of now s q))) t.wrote below c.says e g refl t.complete;
}

-- no job runs
no_turn : (k q : ℕ) (v : State) (i : ℕ) (next : State → ℕ → Told) → turn_after v.raw i ≡ None → turned (suc k) q v i next ≡ next v i
no_turn k q v i next e = ap (λ o. turned_by o q v (λ x l. turned k q x l next) (next v i)) e

pub circle_none : (v now : State) (i j n k q : ℕ) (old out : Option (List ℕ)) → k < n → CircleSo v now i j n k q old out
    → turn_after now.raw j ≡ None → Circled flows.On v i n q now j old out
circle_none v now i j n k q old out below c e = record {
  wrote = c.wrote;
  appended = c.appended;
  circled = λ next.
      let one : n - k ≡ suc (n - (k + 1)) = omega arith in
      c.says next ∙ ap (λ x. after c.wrote (said (turned x q now j next))) one ∙ ap (λ t. after c.wrote (said t)) (no_turn (n - (k + 1)) q now j next e);
}

-- all turns were made
pub circle_end : (v now : State) (i j n k q : ℕ) (old out : Option (List ℕ)) → n ≤ k → CircleSo v now i j n k q old out
    → Circled flows.On v i n q now j old out
circle_end v now i j n k q old out over c = record {
  wrote = c.wrote;
  appended = c.appended;
  circled = λ next. (let none : n - k ≡ 0 = omega arith in c.says next ∙ ap (λ x. after c.wrote (said (turned x q now j next))) none);
}

-- RUN alone asks for turns
pub asks_none : (e : Event) → ((n q : ℕ) → e ≡ events.Run n q → ⊥) → turns_asked e ≡ 0
asks_none (events.Run n q) h = absurd (h n q refl)
asks_none _ h = refl
