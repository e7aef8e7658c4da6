-- The result of one event.
use Rattle.std.specs.Prelude.{◌≡◌, ◌≢◌, ℕ, Bool, true, Ok, Err, List, [], ◌∷◌, ◌++◌, refl}
use Rattle.std.proofs.Common.{sym, ◌∙◌, ap, append_assoc, append-nil}
use Rattle.std.proofs.lemmas.Grind.{flat_map-append}
use Rattle.its_records.specs.declared.session.Event.{Event}
use Rattle.its_records.specs.declared.session.Event.TheVariants as events
use Rattle.its_records.specs.declared.session.Refusal.{Refusal}
use Rattle.its_print.specs.Printing.{Line, text_of_line, text}
use Rattle.its_print.specs.Printing as printed
use Rattle.its_print.specs.Replies.{FewParts, line_of}
use Rattle.its_print.specs.declared.replies.Reply.{Reply}
use Rattle.its_plain.specs.Machine.{Machine}
use Rattle.its_plain.specs.Operator.{Block, Does, Refuses, Ticks, Quits}
use Rattle.its_plain.specs.Operator.Lines.{Lined, Done, Peeks, operate, lined}
use Rattle.its_stepped.specs.State.{State}
use Rattle.its_stepped.specs.Lines.{Told, telling, after_calm, with_raw, peeked, paces_of, after_ticks, told_by, line_told}
use Rattle.its_world.specs.World.{state_of}
use Rattle.its_world.specs.declared.world.World.{World}
use Rattle.its_records.specs.Refusals.{reason_of}
use Rattle.its_top.specs.declared.sessions.shown.Over.TheVariants as overs
use Rattle.its_top.specs.declared.sessions.shown.Shown.{Shown}
use Rattle.its_top.specs.declared.sessions.shown.Shown.TheVariants as shows
use Rattle.its_top.specs.Telling.{Says, said, after, saying, goes_on_after}
use Rattle.its_top.specs.Leaving.{Left, left_by, line_left}
use Rattle.its_top.specs.Performing.{lines_of, CanShow, Performed}

pub text_append : (a b : List Line) → text (a ++ b) ≡ text a ++ text b
unfolding text
text_append a b = flat_map-append text_of_line a b

pub text_one : (l : Line) → text (l ∷ []) ≡ text_of_line l
unfolding text
text_one l = append-nil (text_of_line l)

pub after_after : (v w : List ℕ) (s : Says) → after v (after w s) ≡ after (v ++ w) s
after_after v w s = let e : v ++ (w ++ s.text) ≡ (v ++ w) ++ s.text = sym (append_assoc v w s.text) in ap (λ t. saying t s.fate) e

pub said_telling : (out : List Line) (t : Told) → said (telling out t) ≡ after (text out) (said t)
said_telling out t = ap (λ x. saying x t.fate) (text_append out t.lines)

-- an event that finds state c, and there has result o
pub record Comes (v : State) (b : Block) (e : Event) (c : State) (o : Lined) : Type 0 where
  pub calm : after_calm v b e ≡ c
  pub is : lined c.raw b e ≡ o

told_comes : (n : ℕ) (v c : State) (b : Block) (e : Event) (o : Lined) (next : State → Block → Told) → Comes v b e c o
    → line_told n v b e next ≡ told_by n v c b o next
told_comes n v c b e o next h = ap (λ x. told_by n v x b (lined x.raw b e) next) h.calm ∙ ap (λ x. told_by n v c b x next) h.is

left_comes : (v c : State) (b : Block) (e : Event) (o : Lined) (stays : Left) (next : State → Block → Left) → Comes v b e c o
    → line_left v b stays e next ≡ left_by v c b stays o next
left_comes v c b e o stays next h = ap (λ x. left_by v x b stays (lined x.raw b e) next) h.calm ∙ ap (λ x. left_by v c b stays x next) h.is

-- only END ends
end_goes : (m : Machine) (b : Block) → lined m b events.End ≡ Done Quits
unfolding lined operate
end_goes m b = refl

pub end_comes : (v : State) (b : Block) → Comes v b events.End v (Done Quits)
unfolding after_calm
end_comes v b = record { calm = refl; is = end_goes v.raw b }

goes_unless : (m : Machine) (b : Block) (e : Event) → lined m b e ≢ Done Quits → goes_on_after e ≡ true
goes_unless m b events.End h = absurd (h (end_goes m b))
goes_unless m b _ h = refl

pub does : (v c : State) (m : Machine) (b b' : Block) (e : Event) (s : Shown) (w : World) (touched : ℕ → Bool)
    → Comes v b e c (Done (Does m (lines_of s w) touched b')) → state_of w ≡ with_raw c m → CanShow s w → Performed (Ok s) v b e w b'
does v c m b b' e s w touched h k f =
    let o : Lined = Done (Does m (lines_of s w) touched b') in
    record {
      tells = λ n next. told_comes n v c b e o next h ∙ ap (λ x. telling (lines_of s w) (next x b')) (sym k);
      goes = goes_unless c.raw b e (λ x. let l : Done (Does m (lines_of s w) touched b') ≡ Done Quits = sym h.is ∙ x in cc);
      leaves = λ stays next. left_comes v c b e o stays next h ∙ ap (λ x. next x b') (sym k);
      ready = f;
    }

pub ticks : (v c : State) (b : Block) (e : Event) (s k : ℕ) (r : Reply) (w : World) → Comes v b e c (Done (Ticks s k))
    → line_of r ≡ printed.Ticks s (paces_of v s k) → FewParts r → state_of w ≡ after_ticks v s k
    → Performed (Ok (shows.Line r)) v b e w b
ticks v c b e s k r w h f few g = record {
  tells = λ n next. told_comes n v c b e (Done (Ticks s k)) next h
      ∙ ap (λ x. telling (x ∷ []) (next (after_ticks v s k) b)) (sym f) ∙ ap (λ x. telling (line_of r ∷ []) (next x b)) (sym g);
  goes = goes_unless c.raw b e (λ x. let l : Done (Ticks s k) ≡ Done Quits = sym h.is ∙ x in cc);
  leaves = λ stays next. left_comes v c b e (Done (Ticks s k)) stays next h ∙ ap (λ x. next x b) (sym g);
  ready = few;
}

pub peeks : (w : World) (c : State) (b : Block) (e : Event) (s : ℕ) (r : Reply) → Comes (state_of w) b e c (Peeks s)
    → line_of r ≡ printed.Peeked s (peeked (state_of w) s) → FewParts r
    → Performed (Ok (shows.Line r)) (state_of w) b e w b
peeks w c b e s r h f few = record {
  tells = λ n next. told_comes n (state_of w) c b e (Peeks s) next h ∙ ap (λ x. telling (x ∷ []) (next (state_of w) b)) (sym f);
  goes = goes_unless c.raw b e (λ x. let l : Peeks s ≡ Done Quits = sym h.is ∙ x in cc);
  leaves = λ stays next. left_comes (state_of w) c b e (Peeks s) stays next h;
  ready = few;
}

pub refuses : (v c : State) (b b' : Block) (e : Event) (r : Refusal) (w : World)
    → Comes v b e c (Done (Refuses (reason_of r))) → Performed (Err (overs.Refused r)) v b e w b'
refuses v c b b' e r w h = record { tells = λ n next. told_comes n v c b e (Done (Refuses (reason_of r))) next h; goes = tt; leaves = tt; ready = tt }

pub ends : (b b' : Block) (w : World) → Performed (Err overs.Ended) (state_of w) b events.End w b'
ends b b' w = record {
  tells = λ n next. told_comes n (state_of w) (state_of w) b events.End (Done Quits) next (end_comes (state_of w) b);
  goes = refl;
  leaves = refl;
  ready = tt;
}
