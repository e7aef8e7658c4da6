-- The judge is right about the lines that are a transcript from a state of the session on.
use Rattle.std.proofs.Common.{◌≡◌, ℕ, zero, suc, Bool, true, Option, Some, None, List, [], ◌∷◌, ◌++◌, length, refl, subst}
use Rattle.std.proofs.lemmas.Slice.Eq.{bytes_eq-Decides}
use Rattle.its_records.specs.Item.{Item, Read, Unread, Beyond}
use Rattle.its_records.specs.declared.calls.Pace.{Pace}
use Rattle.its_records.specs.declared.show.Peek.{Peek}
use Rattle.its_records.specs.declared.show.PeekState.TheVariants.{User}
use Rattle.std.specs.Prelude.{bytes_eq, codes}
use Rattle.its_print.specs.Printing.{Line, Ticks, Peeked, text_of_line}
use Rattle.its_print.specs.Printing as printed
use Rattle.its_word.specs.Text.{words_of}
use Rattle.its_plain.specs.Operator.Lines.{Lined, Done, Peeks, lined}
use Rattle.its_plain.specs.Machine.{Machine}
use Rattle.its_plain.specs.Operator.{Block, Refuses, Does, Quits}
use Rattle.its_plain.specs.Operator as operator
use Rattle.its_plain.specs.Transcript.{Fate, Ended, Open, Refused, TooLong, Walk, walk_after, next_line}
use Rattle.its_plain.specs.Transcript.Turns.{turn_after, turn_kept, turns_asked, ticks_asked}
use Rattle.its_plain.proofs.RunLaws.{PacedOn, TurnBy, TurnsOn, LinedOn, Run}
use Rattle.its_verify.specs.Lines.{Said, is_peek, says}
use Rattle.its_verify.specs.Letters.{paced, ticked, ticks_in}
use Rattle.its_verify.specs.Rulings.{Ruling, at_end, gone, judged, led, peeking, saying, expects, turned, turned_by}
use Rattle.its_verify.proofs.LicenceLaws.{any_letters, if_so_is, on_paced, paced_on, said_ticks, then_of, ticked_some}
use Rattle.its_verify.proofs.RightLaws.{Finished, Led, LedBy, Right, led_on, right_as, right_at_end, right_led}

-- a text that says a line
record AnyText (l : Line) : Type 0 where
  text : List ℕ
  says_it : says l text ≡ true

same_text : (xs : List ℕ) → bytes_eq xs xs ≡ true
same_text xs = (bytes_eq-Decides xs xs).1 refl

abbrev p_line : List ℕ
p_line = codes "P" ++ 10 ∷ []

short_peek : is_peek p_line ≡ true
unfolding is_peek words_of
short_peek = refl

any_text : (l : Line) → AnyText l
any_text (Peeked s peek) = record { text = p_line; says_it = short_peek }
any_text l = record { text = text_of_line l; says_it = same_text (text_of_line l) }

-- lines that are shown, and what follows them
abbrev Told : List Line → (List (List ℕ) → Type 0) → List (List ℕ) → Type 0
Told [] R = R
Told (l ∷ ls) R = Led (saying l) (λ text. Told ls R)

said_led : (l : Line) (text : List ℕ) → says l text ≡ true → saying l text ≡ Some text
said_led l text h = rw h refl

led_said : (l : Line) (text x : List ℕ) → saying l text ≡ Some x → says l text ≡ true
led_said l text x h = (if_so_is (says l text) text x h).0

right_told : (ls : List Line) (R : List (List ℕ) → Type 0) (ruling : Ruling) → Right R ruling → Right (Told ls R) (expects ls ruling)
right_told [] R ruling h = h
right_told (l ∷ ls) R ruling h =
    let t = any_text l in
    right_led (saying l) (λ text. Told ls R) (λ text. expects ls ruling) t.text t.text (said_led l t.text t.says_it) (λ text. right_told ls R ruling h)

-- lines out and then lines of which S holds are said by the texts
pub record Along (out : List Line) (S : List Line → Fate → Type 0) (texts : List (List ℕ)) : Type 0 where
  pub rest : List Line
  pub fate : Fate
  pub holds : S rest fate
  pub said : Said (out ++ rest) texts

led_by_said : (l : Line) (t : List ℕ) (R : List (List ℕ) → Type 0) (ts : List (List ℕ)) (o : Option (List ℕ)) → saying l t ≡ o
    → LedBy o (λ text. R) ts → (says l t ≡ true) × R ts
led_by_said l t R ts None is h = absurd h
led_by_said l t R ts (Some x) is h = (led_said l t x is, h)

told_along : (out : List Line) (S : List Line → Fate → Type 0) (texts : List (List ℕ)) → Told out (Along [] S) texts → Along out S texts
told_along [] S texts h = h
told_along (l ∷ ls) S [] h = absurd h
told_along (l ∷ ls) S (t ∷ ts) h =
    let y = led_by_said l t (Told ls (Along [] S)) ts (saying l t) refl h in
    let a = told_along ls S ts y.1 in
    record { rest = a.rest; fate = a.fate; holds = a.holds; said = (y.0, a.said) }

along_told : (out : List Line) (S : List Line → Fate → Type 0) (texts : List (List ℕ)) → Along out S texts → Told out (Along [] S) texts
along_told [] S texts h = h
along_told (l ∷ ls) S [] h = absurd h.said
along_told (l ∷ ls) S (t ∷ ts) h =
    led_on (saying l) (λ text. Told ls (Along [] S)) t t ts (said_led l t h.said.0)
    (along_told ls S ts (record { rest = h.rest; fate = h.fate; holds = h.holds; said = h.said.1 }))

told_said : (known : List Line) (texts : List (List ℕ)) → Told known Finished texts → Said known texts
told_said [] [] h = tt
told_said [] (t ∷ ts) h = h
told_said (l ∷ ls) [] h = h
told_said (l ∷ ls) (t ∷ ts) h =
    let y = led_by_said l t (Told ls Finished) ts (saying l t) refl h in
    (y.0, told_said ls ts y.1)

said_told : (known : List Line) (texts : List (List ℕ)) → Said known texts → Told known Finished texts
said_told [] [] h = tt
said_told [] (t ∷ ts) h = h
said_told (l ∷ ls) [] h = h
said_told (l ∷ ls) (t ∷ ts) h = led_on (saying l) (λ text. Told ls Finished) t t ts (said_led l t h.0) (said_told ls ts h.1)

-- what is shown from a state of a session on
abbrev pub Next : Type 1
Next = Walk → List Line → Fate → Type 0

abbrev OnLined : Walk → Lined → Next → List Line → Fate → Type 0
OnLined v l S lines fate = LinedOn v l (λ w rest. S w rest fate) lines fate

-- known lines, and no more
right_known : (known : List Line) (S : List Line → Fate → Type 0) (fate : Fate) → S known fate → ((lines : List Line) (f : Fate) → S lines f → lines ≡ known)
    → Right (Along [] S) (expects known at_end)
right_known known S fate there only =
    right_as (Told known Finished) (Along [] S) (expects known at_end)
    (λ ts h. record { rest = known; fate = fate; holds = there; said = told_said known ts h })
    (λ ts a. said_told known ts (subst (λ (ls : List Line). Said ls ts) (only a.rest a.fate a.holds) a.said)) (right_told known Finished at_end right_at_end)

-- a line that does something shows its lines first
right_does : (v : Walk) (n : Machine) (out : List Line) (touched : ℕ → Bool) (b : Block) (S : Next) (ruling : Ruling)
    → Right (Along [] (S (next_line (walk_after v n touched b)))) ruling → Right (Along [] (OnLined v (Done (Does n out touched b)) S)) (expects out ruling)
right_does v n out touched b S ruling next =
    let w = next_line (walk_after v n touched b) in
    right_as (Told out (Along [] (S w))) (Along [] (OnLined v (Done (Does n out touched b)) S)) (expects out ruling)
    (λ ts h. (let a = told_along out (S w) ts h in record { rest = out ++ a.rest; fate = a.fate; holds = (a.rest, refl, a.holds); said = a.said }))
    (λ ts a.
    along_told out (S w) ts
    (record { rest = a.holds.0; fate = a.fate; holds = a.holds.2; said = subst (λ (ls : List Line). Said ls ts) a.holds.1 a.said }))
    (right_told out (Along [] (S w)) ruling next)

-- ticks of a line, or of a turn: the state of the session after its letters
abbrev TicksOn : Walk → ℕ → ℕ → Next → List Line → Fate → Type 0
TicksOn v i k S lines fate = (ps : List Pace) × (rest : List Line) × (lines ≡ Ticks i ps ∷ rest) × (length ps ≡ k) × PacedOn v i ps (λ w. S w rest fate)

ticks_to : (v : Walk) (i k : ℕ) (S : Next) (t : List ℕ) (ts : List (List ℕ)) (o : Option Walk) → ticked v i k t ≡ o → LedBy o (λ w. Along [] (S w)) ts
    → Along [] (TicksOn v i k S) (t ∷ ts)
ticks_to v i k S t ts None is h = absurd h
ticks_to v i k S t ts (Some w) is h =
    let p = then_of (paced v i) (ticks_in i k t) w is in
    let said = said_ticks i k t p.value p.first in
    record {
      rest = Ticks i p.value ∷ h.rest;
      fate = h.fate;
      holds = (p.value, h.rest, refl, said.0, paced_on v i p.value w (λ u. S u h.rest h.fate) p.last h.holds);
      said = (said.1, h.said);
    }

to_ticks : (v : Walk) (i k : ℕ) (S : Next) (texts : List (List ℕ)) (ps : List Pace) (rest : List Line) (fate : Fate) → length ps ≡ k
    → PacedOn v i ps (λ w. S w rest fate) → Said (Ticks i ps ∷ rest) texts → Led (ticked v i k) (λ w. Along [] (S w)) texts
to_ticks v i k S [] ps rest fate many paces said = absurd said
to_ticks v i k S (t ∷ ts) ps rest fate many paces said =
    let p = on_paced v i ps (λ w. S w rest fate) paces in
    led_on (ticked v i k) (λ w. Along [] (S w)) t p.to ts (ticked_some v i k t ps p.to many said.0 p.paces)
    (record { rest = rest; fate = fate; holds = p.at; said = said.1 })

ticks_led : (v : Walk) (i k : ℕ) (S : Next) (texts : List (List ℕ)) → Led (ticked v i k) (λ w. Along [] (S w)) texts → Along [] (TicksOn v i k S) texts
ticks_led v i k S [] h = absurd h
ticks_led v i k S (t ∷ ts) h = ticks_to v i k S t ts (ticked v i k t) refl h

right_ticks : (v : Walk) (i k : ℕ) (S : Next) (ruling : Walk → Ruling) → ((w : Walk) → Right (Along [] (S w)) (ruling w))
    → Right (Along [] (TicksOn v i k S)) (led (ticked v i k) ruling)
right_ticks v i k S ruling next =
    let any = any_letters v i k in
    let text = text_of_line (Ticks i any.paces) in
    right_as (Led (ticked v i k) (λ w. Along [] (S w))) (Along [] (TicksOn v i k S)) (led (ticked v i k) ruling)
    (ticks_led v i k S)
    (λ ts a. to_ticks v i k S ts a.holds.0 a.holds.1 a.fate a.holds.3 a.holds.4 (subst (λ (ls : List Line). Said ls ts) a.holds.2 a.said))
    (right_led (ticked v i k) (λ w. Along [] (S w)) ruling text any.to
    (ticked_some v i k text any.paces any.to any.many (same_text text) any.leads) next)

-- a peek
a_peek : Peek
a_peek = record { state = User; name = None; left = 0; a = None; b = None; h = None }

peek_to : (v : Walk) (i : ℕ) (S : Next) (t : List ℕ) (ts : List (List ℕ)) (o : Option (List ℕ)) → peeking t ≡ o
    → LedBy o (λ text. Along [] (S (next_line v))) ts
    → Along [] (OnLined v (Peeks i) S) (t ∷ ts)
peek_to v i S t ts None is h = absurd h
peek_to v i S t ts (Some text) is h =
    record {
      rest = Peeked i a_peek ∷ h.rest;
      fate = h.fate;
      holds = (a_peek, h.rest, refl, h.holds);
      said = ((if_so_is (is_peek t) t text is).0, h.said);
    }

to_peek : (v : Walk) (i : ℕ) (S : Next) (texts : List (List ℕ)) (peek : Peek) (rest : List Line) (fate : Fate) → S (next_line v) rest fate
    → Said (Peeked i peek ∷ rest) texts → Led peeking (λ text. Along [] (S (next_line v))) texts
to_peek v i S [] peek rest fate holds said = absurd said
to_peek v i S (t ∷ ts) peek rest fate holds said =
    led_on peeking (λ text. Along [] (S (next_line v))) t t ts (rw said.0 refl) (record { rest = rest; fate = fate; holds = holds; said = said.1 })

peek_led : (v : Walk) (i : ℕ) (S : Next) (texts : List (List ℕ)) → Led peeking (λ text. Along [] (S (next_line v))) texts
    → Along [] (OnLined v (Peeks i) S) texts
peek_led v i S [] h = absurd h
peek_led v i S (t ∷ ts) h = peek_to v i S t ts (peeking t) refl h

right_peek : (v : Walk) (i : ℕ) (S : Next) (ruling : Ruling) → Right (Along [] (S (next_line v))) ruling
    → Right (Along [] (OnLined v (Peeks i) S)) (led peeking (λ text. ruling))
right_peek v i S ruling next =
    right_as (Led peeking (λ text. Along [] (S (next_line v)))) (Along [] (OnLined v (Peeks i) S)) (led peeking (λ text. ruling))
    (peek_led v i S)
    (λ ts a. to_peek v i S ts a.holds.0 a.holds.1 a.fate a.holds.3 (subst (λ (ls : List Line). Said ls ts) a.holds.2 a.said))
    (right_led peeking (λ text. Along [] (S (next_line v))) (λ text. ruling) p_line p_line (rw short_peek refl) (λ text. next))

-- a line of the session with result l
right_gone : (v : Walk) (l : Lined) (S : Next) (ruling : Walk → Ruling) → ((w : Walk) → Right (Along [] (S w)) (ruling w))
    → Right (Along [] (OnLined v l S)) (gone v l ruling)
right_gone v (Done (Refuses r)) S ruling next = right_known (printed.Refused v.line r ∷ []) (OnLined v (Done (Refuses r)) S) Refused
    (refl, refl) (λ lines f h. h.0)
right_gone v (Done (Does n out touched b)) S ruling next =
    right_does v n out touched b S (ruling (next_line (walk_after v n touched b))) (next (next_line (walk_after v n touched b)))
right_gone v (Done (operator.Ticks i k)) S ruling next =
    right_ticks v i k (λ w. S (next_line w)) (λ w. ruling (next_line w)) (λ w. next (next_line w))
right_gone v (Done Quits) S ruling next = right_known [] (OnLined v (Done Quits) S) Ended (refl, refl) (λ lines f h. h.0)
right_gone v (Peeks i) S ruling next = right_peek v i S (ruling (next_line v)) (next (next_line v))

-- turns, and what follows them
abbrev Turns : ℕ → ℕ → Walk → ℕ → (Walk → ℕ → List Line → Fate → Type 0) → List Line → Fate → Type 0
Turns n q v last S lines fate = TurnsOn n q v last (λ w s rest. S w s rest fate) lines

abbrev Turned : ℕ → ℕ → Walk → ℕ → Option ℕ → (Walk → ℕ → List Line → Fate → Type 0) → List Line → Fate → Type 0
Turned n q v last o S lines fate = TurnBy q v o (λ w s rest. Turns n q w s S rest fate) (S v last lines fate) lines

right_turn : (n q : ℕ) (v : Walk) (last : ℕ) (o : Option ℕ) (S : Walk → ℕ → List Line → Fate → Type 0) (more : Walk → ℕ → Ruling) (done : Ruling)
    → ((w : Walk) (s : ℕ) → Right (Along [] (Turns n q w s S)) (more w s)) → Right (Along [] (S v last)) done
    → Right (Along [] (Turned n q v last o S)) (turned_by q v o more done)
right_turn n q v last None S more done each end = end
right_turn n q v last (Some s) S more done each end = right_ticks v s q (λ w. Turns n q w s S) (λ w. more w s) (λ w. each w s)

right_turns : (n q : ℕ) (v : Walk) (last : ℕ) (S : Walk → ℕ → List Line → Fate → Type 0) (ruling : Walk → ℕ → Ruling)
    → ((w : Walk) (s : ℕ) → Right (Along [] (S w s)) (ruling w s)) → Right (Along [] (Turns n q v last S)) (turned n q v last ruling)
right_turns zero q v last S ruling each = each v last
right_turns (suc n) q v last S ruling each =
    right_turn n q v last (turn_after v.machine last) S (λ w s. turned n q w s ruling) (ruling v last)
    (λ w s. right_turns n q w s S ruling each) (each v last)

-- lines that are shown by a session from the walk on, after a turn of the last slot, and their
-- texts
abbrev pub From : Walk → ℕ → List Item → List (List ℕ) → Type 0
From v last es texts = Along [] (Run v last es) texts

pub right_judged : (es : List Item) (v : Walk) (last : ℕ) → Right (From v last es) (judged v last es)
right_judged [] v last = right_known [] (Run v last []) Open (refl, refl) (λ lines f h. h.0)
right_judged (Read e ∷ es) v last =
    right_gone v (lined v.machine v.block e) (λ w. Turns (turns_asked e) (ticks_asked e) w (turn_kept last e) (λ x s. Run x s es))
    (λ w. turned (turns_asked e) (ticks_asked e) w (turn_kept last e) (λ x s. judged x s es))
    (λ w. right_turns (turns_asked e) (ticks_asked e) w (turn_kept last e) (λ x s. Run x s es) (λ x s. judged x s es) (λ x s. right_judged es x s))
right_judged (Unread r ∷ es) v last = right_known (printed.Refused v.line r ∷ []) (Run v last (Unread r ∷ es)) Refused (refl, refl) (λ lines f h. h.0)
right_judged (Beyond ∷ es) v last = right_known [] (Run v last (Beyond ∷ es)) TooLong (refl, refl) (λ lines f h. h.0)
