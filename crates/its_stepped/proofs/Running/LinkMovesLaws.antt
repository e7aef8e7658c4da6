-- What a step of a job moves through links, and the ledger of the links: the words that were in a
-- link and those that were sent are those that were received and those that are in it
-- (docs/MACHINE.md, "The ledger").
use Rattle.std.specs.Prelude.{if◌then◌else◌, ◌==◌, ◌&&◌, ◌≡◌, ◌≢◌, ℕ, Bool, true, false, not, Option, Some, None, is_some, option_map, unwrap_or, List, [], ◌∷◌, ◌++◌, flat_map, Result, Ok, Err, refl}
use Rattle.std.proofs.Common.{sym, ◌∙◌, ap, subst, inl, inr, append_assoc, append-nil}
use Rattle.std.proofs.lemmas.Bool.{cases_eq, eq-eqb, ne_eqb}
use Rattle.std.proofs.lemmas.Grind.{flat_map-append}
use Rattle.std.proofs.lemmas.Option.{same_Some}
use Rattle.its_records.specs.Item.{Item}
use Rattle.its_records.specs.declared.session.Event.{Event}
use Rattle.its_records.specs.declared.session.Event.TheVariants as events
use Rattle.its_records.specs.declared.state_line.StateLine.{StateLine}
use Rattle.its_records.specs.declared.state_line.StateLine.TheVariants as states
use Rattle.its_records.specs.Tree.{least_free}
use Rattle.its_word.specs.declared.access.Fault.{Fault}
use Rattle.its_records.specs.declared.calls.Ask.{Ask}
use Rattle.its_records.specs.declared.calls.Exit.{Exit}
use Rattle.its_records.specs.declared.calls.Pace.{Pace}
use Rattle.its_records.specs.declared.calls.Pace.TheVariants.{Step, Work, Wait, Off}
use Rattle.its_frame.specs.Variables.{variable_named}
use Rattle.its_frame.specs.declared.change.Change.{Change}
use Rattle.its_frame.specs.declared.change.Change.TheVariants as changes
use Rattle.its_frame.specs.declared.decision.Decision.{Decision}
use Rattle.its_frame.specs.declared.decision.Decision.TheVariants.{Waits, Goes, Ends, Gone}
use Rattle.its_frame.specs.declared.variable.Variable.{Variable}
use Rattle.its_print.specs.Printing.{Line}
use Rattle.its_plain.specs.Call.Arguments.{input, has_input, place_of_input}
use Rattle.its_plain.specs.Call.Basic.{dismissed_by, dismiss_at, dismiss, Party, Oneself, Channel, by_oneself, by_superior, set_own, own_variable, set_other, value_of_other, other_variable, usrvar_of, party, usrvar, told_superior, channel_at}
use Rattle.its_plain.specs.Call.Link.{words_in}
use Rattle.its_plain.specs.Call.Step.{acted, decision, informs, step, Transition, moves_in, transition, moves}
use Rattle.its_plain.specs.Call.Tty.{view_console, has_console, can_take, is_holder, lands, ttylnd_of, ttylnd}
use Rattle.its_plain.specs.Call.Usr.{any_named, inferior_named, makes_job, opens_job, usr_tests, opens_usr, uclose_on, uclose}
use Rattle.its_plain.specs.Machine.Change.{on_link, superiors, is_gone, after_removal, standing_if, after_end_close, with_sent, with_received, rest_of, ends_after_removal, effect, effects}
use Rattle.its_plain.specs.Transcript.Course.{Letter, Moment, moment_at, machine_after, run_of}
use Rattle.its_plain.specs.Call.Decide.{call_named, decided_by, decided, target, reach}
use Rattle.its_plain.specs.Unit.Interrupt.{after_dismissal, delivered}
use Rattle.its_plain.specs.Promise.LinkLedger.{word_moved, linked_at, sent_by, put_in_at, StandsAfter, LinkLedger}
use Rattle.its_plain.specs.Machine.{Chan, On, Pipe, Whole, Machine, changed}
use Rattle.its_plain.specs.Call.Moves.{Way, Inward, Outward, AtConsole, AtLink, Move, first_move, moves_of, moves_of_all}
use Rattle.its_plain.specs.Promise.Stretch.{machine_at, end_of}
use Rattle.its_plain.specs.Call.Tests.{◌⇒◌, finishes, fails, out}
use Rattle.its_plain.specs.Transcript.{Walk, at_start}
use Rattle.its_plain.specs.Transcript.Turns.{highest}
use Rattle.its_plain.specs.Machine.View.{View, view}
use Rattle.its_plain.specs.Operator.State.{with_words_in, with_end_closed}
use Rattle.its_plain.proofs.CallLineLaws.{Restores, job_keeps, Leaves, line_does}
use Rattle.its_plain.proofs.RestoredLaws.{words_appended}
use Rattle.its_plain.proofs.StepLaws.{AllOf, EachCase, transition_has}
use Rattle.its_stepped.proofs.Duties.CallWays.{Any, AllStill, AllMild, Ways, Apart, call_ways}
use Rattle.its_stepped.proofs.Running.CourseLaws.{Linked, EachMoment, run_course, linked_middle}
use Rattle.its_stepped.proofs.Keeping.ForestLaws.{forest_starts}
use Rattle.its_stepped.proofs.Keeping.JoinedLaws.{opened_link}
use Rattle.its_stepped.proofs.Committing.TestLaws.{by_test, first_holds}

-- these moves led link l from o to p
pub record LinkPasses (o p : Option Pipe) (vs : List Move) (l : ℕ) : Type 0 where
  pub words : words_in o ++ flat_map (word_moved l Outward) vs ≡ flat_map (word_moved l Inward) vs ++ words_in p

-- moves at consoles move no word through a link
abbrev MovesNone : List Move → ℕ → Type 0
MovesNone vs l = (way : Way) → flat_map (word_moved l way) vs ≡ []

passes_none : (o p : Option Pipe) (vs : List Move) (l : ℕ) → MovesNone vs l → words_in p ≡ words_in o → LinkPasses o p vs l
passes_none o p vs l none same = record {
  words = ap (λ (xs : List ℕ). words_in o ++ xs) (none Outward) ∙ append-nil (words_in o) ∙ sym same
      ∙ ap (λ (xs : List ℕ). xs ++ words_in p) (sym (none Inward));
}

console_none : (j c l : ℕ) (bs : List ℕ) → MovesNone (first_move j (AtConsole c) bs) l
console_none j c l [] way = refl
console_none j c l (b ∷ bs) way = refl

-- another link
first_elsewhere : (j d l : ℕ) (ws : List ℕ) → d ≢ l → MovesNone (first_move j (AtLink d) ws) l
first_elsewhere j d l [] ne way = refl
first_elsewhere j d l (w ∷ ws) ne way = rw (ne_eqb d l ne) refl

sent_elsewhere : (j d l w : ℕ) → d ≢ l → MovesNone (record { slot = j; device = AtLink d; way = Outward; byte = w } ∷ []) l
sent_elsewhere j d l w ne way = rw (ne_eqb d l ne) refl

links_elsewhere : (ls : ℕ → Option Pipe) (f : Option Pipe → Option Pipe) (d l : ℕ) → d ≢ l → changed ls d (f (ls d)) l ≡ ls l
links_elsewhere ls f d l ne = rw (ne_eqb l d (λ e. ne (sym e))) refl

link_there : (ls : ℕ → Option Pipe) (f : Option Pipe → Option Pipe) (l : ℕ) → changed ls l (f (ls l)) l ≡ f (ls l)
link_there ls f l = rw (eq-eqb l l refl) refl

-- a word that is sent through a link that exists, and the first that is received
sent_here : (j l w : ℕ) (o : Option Pipe) → is_some (option_map (with_sent w) o) ≡ true
    → LinkPasses o (option_map (with_sent w) o) (record { slot = j; device = AtLink l; way = Outward; byte = w } ∷ []) l
sent_here j l w (Some p) h = record { words = rw (eq-eqb l l refl) refl }
sent_here j l w None h = cc

received_words : (j l : ℕ) (ws : List ℕ)
    → ws ++ flat_map (word_moved l Outward) (first_move j (AtLink l) ws) ≡ flat_map (word_moved l Inward) (first_move j (AtLink l) ws) ++ rest_of ws
received_words j l [] = refl
received_words j l (w ∷ ws) = rw (eq-eqb l l refl) (append-nil (w ∷ ws))

received_here : (j l : ℕ) (o : Option Pipe) → LinkPasses o (option_map with_received o) (first_move j (AtLink l) (words_in o)) l
received_here j l (Some p) = record { words = received_words j l p.words }
received_here j l None = record { words = refl }

-- an end that is opened or closed, and a removal, leave the words of a link that exists
opened_words : (write : Bool) (j n x y : ℕ) (o : Option Pipe) → words_in (opened_link write j n x y o) ≡ words_in o
opened_words write j n x y (Some p) = refl
opened_words write j n x y None = refl

standing_words : (b : Bool) (p : Pipe) → is_some (standing_if b p) ≡ true → words_in (standing_if b p) ≡ p.words
standing_words true p h = refl
standing_words false p h = cc

closed_words : (write : Bool) (o : Option Pipe) → is_some (after_end_close write o) ≡ true → words_in (after_end_close write o) ≡ words_in o
closed_words write (Some p) h = standing_words _ _ h
closed_words write None h = refl

left_words : (gone : ℕ → Bool) (o : Option Pipe) → is_some (ends_after_removal gone o) ≡ true → words_in (ends_after_removal gone o) ≡ words_in o
left_words gone (Some p) h = standing_words _ _ h
left_words gone None h = refl

-- one link changed, by moves through it
abbrev There : Option Pipe → Type 0
There o = is_some o ≡ true

link_passes : (ls : ℕ → Option Pipe) (f : Option Pipe → Option Pipe) (d l : ℕ) (vs : List Move) → (d ≢ l → MovesNone vs l)
    → (d ≡ l → There (f (ls l)) → LinkPasses (ls l) (f (ls l)) vs l)
    → There (changed ls d (f (ls d)) l) → LinkPasses (ls l) (changed ls d (f (ls d)) l) vs l
link_passes ls f d l vs other same stands = elim (cases_eq d l) [
  | inl at ↦
      let e : changed ls d (f (ls d)) l ≡ f (ls l) = ap (λ (i : ℕ). changed ls i (f (ls i)) l) at ∙ link_there ls f l in
      subst (λ (o : Option Pipe). LinkPasses (ls l) o vs l) (sym e) (same at (subst There e stands))
  | inr ne ↦ passes_none (ls l) _ vs l (other ne) (ap words_in (links_elsewhere ls f d l ne))
]

no_moves : (l : ℕ) → MovesNone [] l
no_moves l way = refl

-- a change
change_links : (h : Change) (j : ℕ) (m : Machine) (l : ℕ) → There ((effect h j m).links l)
    → LinkPasses (m.links l) ((effect h j m).links l) (moves_of h j m) l
unfolding effect after_removal
change_links (changes.Take c) j m l stands = passes_none _ _ _ l (console_none j c l (m.consoles c).input) refl
change_links (changes.Put c b) j m l stands = passes_none _ _ _ l (λ way. refl) refl
change_links (changes.Join n d write x y) j m l stands =
    link_passes m.links (opened_link write j n x y) d l [] (λ ne. no_moves l)
    (λ at s. passes_none _ _ _ l (no_moves l) (opened_words write j n x y (m.links l))) stands
change_links (changes.CloseEnd n d write) j m l stands =
    link_passes m.links (after_end_close write) d l [] (λ ne. no_moves l)
    (λ at s. passes_none _ _ _ l (no_moves l) (closed_words write (m.links l) s)) stands
change_links (changes.Send d w) j m l stands =
    link_passes m.links (option_map (with_sent w)) d l _ (sent_elsewhere j d l w)
    (λ at s. subst (λ (i : ℕ). LinkPasses (m.links l) (option_map (with_sent w) (m.links l))
    (record { slot = j; device = AtLink i; way = Outward; byte = w } ∷ []) l) (sym at)
    (sent_here j l w (m.links l) s)) stands
change_links (changes.Receive d) j m l stands =
    link_passes m.links (option_map with_received) d l _ (first_elsewhere j d l (words_in (m.links d)))
    (λ at s. subst (λ (i : ℕ). LinkPasses (m.links l) (option_map with_received (m.links l)) (first_move j (AtLink i) (words_in (m.links i))) l)
    (sym at)
    (received_here j l (m.links l))) stands
change_links (changes.Remove s) j m l stands = passes_none _ _ _ l (no_moves l) (left_words (is_gone (superiors m) s) (m.links l) stands)
change_links _ j m l stands = passes_none _ _ _ l (no_moves l) refl

-- a change that leaves all links as they are
abbrev NoLink : Change → Type 0
NoLink (changes.Join n l write x y) = ⊥
NoLink (changes.CloseEnd n l write) = ⊥
NoLink (changes.Send l w) = ⊥
NoLink (changes.Receive l) = ⊥
NoLink (changes.Remove s) = ⊥
NoLink _ = Unit {0}

abbrev NoLinks : List Change → Type 0
NoLinks [] = Unit {0}
NoLinks (c ∷ cs) = NoLink c × NoLinks cs

record Spared (m n : Machine) (vs : List Move) (l : ℕ) : Type 0 where
  link : n.links l ≡ m.links l
  none : MovesNone vs l

spared_link : (h : Change) (j : ℕ) (m : Machine) (l : ℕ) → NoLink h → Spared m (effect h j m) (moves_of h j m) l
unfolding effect
spared_link (changes.Take c) j m l free = record { link = refl; none = console_none j c l (m.consoles c).input }
spared_link (changes.Put c b) j m l free = record { link = refl; none = λ way. refl }
spared_link (changes.Join n d write x y) j m l free = absurd free
spared_link (changes.CloseEnd n d write) j m l free = absurd free
spared_link (changes.Send d w) j m l free = absurd free
spared_link (changes.Receive d) j m l free = absurd free
spared_link (changes.Remove s) j m l free = absurd free
spared_link _ j m l free = record { link = refl; none = no_moves l }

moves_none : (vs ws : List Move) (l : ℕ) → MovesNone vs l → MovesNone ws l → MovesNone (vs ++ ws) l
moves_none vs ws l a b way = flat_map-append (word_moved l way) vs ws ∙ ap (λ (xs : List ℕ). xs ++ flat_map (word_moved l way) ws) (a way) ∙ b way

spared_links : (hs : List Change) (j : ℕ) (m : Machine) (l : ℕ) → NoLinks hs → Spared m (effects hs j m) (moves_of_all hs j m) l
spared_links [] j m l free = record { link = refl; none = no_moves l }
spared_links (h ∷ hs) j m l free =
    let one = spared_link h j m l free.0 in
    let rest = spared_links hs j (effect h j m) l free.1 in
    record { link = rest.link ∙ one.link; none = moves_none (moves_of h j m) (moves_of_all hs j (effect h j m)) l one.none rest.none }

-- changes of which the first alone touches links
abbrev FirstLinks : List Change → Type 0
FirstLinks [] = Unit {0}
FirstLinks (h ∷ hs) = NoLinks hs

moves_after : (vs ws : List Move) (o p r : Option Pipe) (l : ℕ) → LinkPasses o p vs l → MovesNone ws l → r ≡ p → LinkPasses o r (vs ++ ws) l
moves_after vs ws o p r l a none same = record {
  words = ap (λ (xs : List ℕ). words_in o ++ xs) (still Outward) ∙ a.words ∙ ap (λ (xs : List ℕ). xs ++ words_in p) (sym (still Inward))
      ∙ ap (λ (x : Option Pipe). flat_map (word_moved l Inward) (vs ++ ws) ++ words_in x) (sym same);
}
  where
    still : (way : Way) → flat_map (word_moved l way) (vs ++ ws) ≡ flat_map (word_moved l way) vs
    still way = flat_map-append (word_moved l way) vs ws ∙ ap (λ (xs : List ℕ). flat_map (word_moved l way) vs ++ xs) (none way)
        ∙ append-nil (flat_map (word_moved l way) vs)

changes_links : (hs : List Change) (j : ℕ) (m : Machine) (l : ℕ) → FirstLinks hs → There ((effects hs j m).links l)
    → LinkPasses (m.links l) ((effects hs j m).links l) (moves_of_all hs j m) l
changes_links [] j m l first stands = passes_none (m.links l) (m.links l) [] l (no_moves l) refl
changes_links (h ∷ hs) j m l first stands =
    let rest = spared_links hs j (effect h j m) l first in
    moves_after (moves_of h j m) (moves_of_all hs j (effect h j m)) (m.links l) ((effect h j m).links l) ((effects (h ∷ hs) j m).links l) l
    (change_links h j m l (subst There rest.link stands)) rest.none rest.link

-- a decision of which the first change alone touches links
abbrev LinksFirst : Decision → Type 0
LinksFirst (Waits r) = Unit {0}
LinksFirst (Goes cs h vs) = FirstLinks cs.items
LinksFirst (Ends cs ss e) = FirstLinks cs.items
LinksFirst (Gone cs) = NoLinks cs.items

still_links : (cs : List Change) → AllStill cs → NoLinks cs
still_links [] h = tt
still_links (changes.Move n at ∷ cs) h = (tt, still_links cs h.1)
still_links (c ∷ cs) h = absurd h.0

mild_links : (x : View) (cs : List Change) → AllMild Any x cs → FirstLinks cs
mild_links x [] h = tt
mild_links x (c ∷ cs) h = still_links cs h.1

ways_first : (x : View) (a : Ask) → Ways LinksFirst Any x a
ways_first x a = record {
  failing = λ k. tt;
  faulting = λ f. tt;
  stuck = tt;
  opening = λ t f b. tt;
  arming = λ n t. tt;
  ending = λ cs ss t. mild_links x cs t;
  moved = λ cs ss t. mild_links x cs t;
  going = λ cs o vs t. mild_links x cs t;
}

dismissed_first : (x : View) (p w : ℕ) (r : Result Exit Fault) → LinksFirst (dismissed_by x p w r)
dismissed_first x p w (Ok e) = tt
dismissed_first x p w (Err f) = tt

dismiss_first : (x : View) (a : Ask) → LinksFirst (dismiss x a)
unfolding dismiss
dismiss_first x a = go (place_of_input a 0)
  where
    go : (o : Option ℕ) → LinksFirst (dismiss_at x a o)
    go (Some p) = dismissed_first x p (input a 0) (after_dismissal x.own.core x.own.job p)
    go None = tt

own_first : (x : View) (a : Ask) (y : Variable) (b : Bool) → LinksFirst (set_own x a y b)
own_first x a y true = tt
own_first x a y false = tt

own_variable_first : (x : View) (a : Ask) (o : Option Variable) → LinksFirst (own_variable x a o)
own_variable_first x a None = tt
own_variable_first x a (Some y) =
    by_test LinksFirst (has_input a 2 && not (by_oneself y)) (fails x a 0o22) (set_own x a y (has_input a 2)) (λ t. tt)
    (λ t. own_first x a y (has_input a 2))

set_first : (k : ℕ) (y : Variable) (w : ℕ) (b : Bool) → FirstLinks (set_other k y w b)
set_first k y w true = tt
set_first k y w false = tt

other_variable_first : (x : View) (a : Ask) (k : ℕ) (write : Bool) (o : Option Variable) → LinksFirst (other_variable x a k write o)
other_variable_first x a k write None = tt
other_variable_first x a k write (Some y) =
    first_holds LinksFirst
    (((has_input a 2 && not write) ⇒ fails x a 0o5) ∷ ((has_input a 2 && not (by_superior y)) ⇒ fails x a 0o22) ∷ [])
    (finishes x (set_other k y (input a 2) (has_input a 2)) (out a.outputs.items (value_of_other k y x.other)))
    (λ t. tt, (λ t. tt, tt)) (λ t. set_first k y (input a 2) (has_input a 2))

usrvar_first : (x : View) (a : Ask) → LinksFirst (usrvar x a)
unfolding usrvar
usrvar_first x a = go (party x (input a 0))
  where
    go : (p : Party) → LinksFirst (usrvar_of x a p)
    go Oneself = own_variable_first x a (variable_named (input a 1))
    go (Channel (On k write at)) = other_variable_first x a k write (variable_named (input a 1))
    go _ = tt

told_first : (o : Option ℕ) → NoLinks (told_superior o)
told_first (Some k) = (tt, tt)
told_first None = tt

makes_first : (x : View) (a : Ask) (n u y : ℕ) (o : Option ℕ) → LinksFirst (makes_job x a n u y o)
makes_first x a n u y (Some s) = (tt, tt)
makes_first x a n u y None = tt

job_first : (x : View) (a : Ask) (n u y : ℕ) (write : Bool) (o : Option ℕ) → LinksFirst (opens_job x a n u y write o)
job_first x a n u y write (Some s) = tt
job_first x a n u y write None =
    first_holds LinksFirst (any_named x u y ⇒ fails x a 0o13 ∷ not write ⇒ fails x a 0o12 ∷ [])
    (makes_job x a n u y (least_free x.limit x.outlines)) (λ t. tt, (λ t. tt, tt))
    (λ t. makes_first x a n u y (least_free x.limit x.outlines))

opens_usr_first : (x : View) (a : Ask) → LinksFirst (opens_usr x a)
unfolding opens_usr
opens_usr_first x a =
    let control = unwrap_or a.control 0 in
    let o = inferior_named x (input a 2) (input a 3) in
    first_holds LinksFirst (usr_tests x a (input a 0) control) (opens_job x a (input a 0) (input a 2) (input a 3) (control == 1) o)
    (λ t. tt, (λ t. tt, tt))
    (λ t. job_first x a (input a 0) (input a 2) (input a 3) (control == 1) o)

uclose_first : (x : View) (a : Ask) → LinksFirst (uclose x a)
unfolding uclose
uclose_first x a = go (channel_at x.own.channels (input a 0))
  where
    go : (c : Chan) → LinksFirst (uclose_on x a c)
    go (On s write at) = tt
    go _ = tt

lands_first : (x : View) (a : Ask) (may : Bool) (error k : ℕ) → LinksFirst (lands x a may error k)
lands_first x a may error k =
    first_holds LinksFirst (not (has_console x) ⇒ fails x a 0o5 ∷ not may ⇒ fails x a error ∷ []) (finishes x (changes.Hold (view_console x) k ∷ []) [])
    (λ t. tt, (λ t. tt, tt)) (λ t. tt)

ttylnd_first : (x : View) (a : Ask) → LinksFirst (ttylnd x a)
unfolding ttylnd
ttylnd_first x a = go (party x (input a 0))
  where
    go : (p : Party) → LinksFirst (ttylnd_of x a p)
    go Oneself = lands_first x a (can_take x (x.holders (view_console x))) 0o13 x.slot
    go (Channel (On k write at)) = lands_first x a (is_holder x (x.holders (view_console x))) 0o5 k
    go _ = tt

apart_first : (x : View) (a : Ask) → Apart LinksFirst x a
apart_first x a = record {
  dismiss = dismiss_first x a;
  usrvar = usrvar_first x a;
  logout = told_first x.own.superior;
  opens_usr = opens_usr_first x a;
  ttylnd = ttylnd_first x a;
  uclose = uclose_first x a;
}

decided_first : (x : View) (a : Ask) → LinksFirst (decided x a)
unfolding decided
decided_first x a =
    let o = call_named a.name in
    by_test LinksFirst (a.fail == 0) (decided_by x a o) (fails x a a.fail)
    (λ t. call_ways LinksFirst Any x a o (ways_first x a) (λ c i s at write is reaches on. tt) (λ r. tt) (apart_first x a)) (λ t. tt)

decision_first : (m : Machine) (j : ℕ) (q : Whole) (a : Ask) → LinksFirst (decision m j q a)
unfolding decision
decision_first m j q a = decided_first (view m j q (target q a)) a

-- a step
abbrev StepLinks : Machine → ℕ → Transition → Type 0
StepLinks m l t = There (t.machine.links l) → LinkPasses (m.links l) (t.machine.links l) t.moves l

informs_none : (b : Bool) (o : Option ℕ) → NoLinks (informs b o)
informs_none true (Some s) = (tt, tt)
informs_none true None = tt
informs_none false o = tt

acted_links : (m : Machine) (j : ℕ) (a : Ask) (ks : List ℕ) (d : Decision) (l : ℕ) → LinksFirst d → AllOf (StepLinks m l) (acted m j a ks d)
unfolding acted
acted_links m j a ks (Waits r) l first = tt
acted_links m j a ks (Goes hs held vs) l first = λ stands. changes_links hs.items j m l first stands
acted_links m j a ks (Ends hs ss e) l first = λ stands. changes_links hs.items j m l first stands
acted_links m j a ks (Gone hs) l first = λ stands. changes_links (changes.Remove j ∷ hs.items) j m l first stands

each_links : (m : Machine) (j l : ℕ) (q : Whole) → EachCase (StepLinks m l) m j q
each_links m j l q = record {
  delivers = λ stands. passes_none _ _ [] l (no_moves l)
      (ap words_in (spared_links (informs (delivered q.core q.job).stops q.superior) j m l (informs_none _ _)).link);
  changes = λ d k u. λ stands. passes_none _ _ [] l (no_moves l) refl;
  faults = λ f. λ stands. passes_none _ _ [] l (no_moves l) refl;
  calls = λ a. acted_links m j a (reach m j q a) (decision m j q a) l (decision_first m j q a);
}

-- a step takes each link that exists after it on by the words that it moves
pub step_links : (m n : Machine) (j l : ℕ) → step m j ≡ Some n → is_some (n.links l) ≡ true → LinkPasses (m.links l) (n.links l) (moves m j) l
unfolding step moves
step_links m n j l h = go (transition m j) (transition_has (StepLinks m l) m j (λ q is. each_links m j l q)) h
  where
    go : (o : Option Transition) → AllOf (StepLinks m l) o → option_map (λ (t : Transition). t.machine) o ≡ Some n → There (n.links l)
        → LinkPasses (m.links l) (n.links l) (moves_in o) l
    go (Some t) p e = subst (λ (k : Machine). There (k.links l) → LinkPasses (m.links l) (k.links l) t.moves l) (same_Some t.machine n e) p
    go None p e = absurd cc

no_step : (m : Machine) (j : ℕ) → step m j ≡ None → moves m j ≡ []
unfolding step moves
no_step m j h = go (transition m j) h
  where
    go : (o : Option Transition) → option_map (λ (t : Transition). t.machine) o ≡ None → moves_in o ≡ []
    go (Some t) e = cc
    go None e = refl

-- a moment of a run
abbrev Balances : Moment → Machine → Type 0
Balances t n = (l : ℕ) → is_some (n.links l) ≡ true
    → words_in (t.machine.links l) ++ put_in_at l t ≡ linked_at l Inward t ++ words_in (n.links l)

step_balances : (m : Machine) (j l : ℕ) (o : Option Machine) → step m j ≡ o → is_some ((unwrap_or o m).links l) ≡ true
    → LinkPasses (m.links l) ((unwrap_or o m).links l) (moves m j) l
step_balances m j l (Some n) is stands = step_links m n j l is stands
step_balances m j l None is stands =
    subst (λ (vs : List Move). LinkPasses (m.links l) (m.links l) vs l) (sym (no_step m j is)) (passes_none _ _ [] l (no_moves l) refl)

letter_balances : (v : Walk) (i : ℕ) (p : Pace) → Balances (moment_at v (Letter i p)) (machine_after v.machine i p)
letter_balances v i Step l stands = (step_balances v.machine i l (step v.machine i) refl stands).words
letter_balances v i Work l stands = append-nil (words_in (v.machine.links l))
letter_balances v i Wait l stands = append-nil (words_in (v.machine.links l))
letter_balances v i Off l stands = append-nil (words_in (v.machine.links l))

-- a line: LNK may make a link, which has no words, SENT puts words into one, and SHUT leaves them
sent_words : (m : Machine) (k l : ℕ) (ws : List ℕ) → is_some (m.links k) ≡ true
    → words_in (m.links l) ++ ((if k == l then ws else []) ++ []) ≡ words_in ((on_link m k (option_map (with_words_in ws))).links l)
sent_words m k l ws there = elim (cases_eq k l) [
  | inl at ↦ rw (at, eq-eqb l l refl)
      (ap (λ (xs : List ℕ). words_in (m.links l) ++ xs) (append-nil ws) ∙ here (m.links l) (subst (λ (i : ℕ). is_some (m.links i) ≡ true) at there))
  | inr ne ↦ rw (ne_eqb k l ne, ne_eqb l k (λ e. ne (sym e))) (append-nil (words_in (m.links l)))
]
  where
    here : (o : Option Pipe) → is_some o ≡ true → words_in o ++ ws ≡ words_in (option_map (with_words_in ws) o)
    here (Some p) h = refl
    here None h = cc

one_link : (ls : ℕ → Option Pipe) (f : Option Pipe → Option Pipe) (k l : ℕ) → ((o : Option Pipe) → words_in (f o) ≡ words_in o)
    → words_in (changed ls k (f (ls k)) l) ≡ words_in (ls l)
one_link ls f k l h = elim (cases_eq k l) [
  | inl at ↦ ap (λ (i : ℕ). words_in (changed ls i (f (ls i)) l)) at ∙ ap words_in (link_there ls f l) ∙ h (ls l)
  | inr ne ↦ ap words_in (links_elsewhere ls f k l ne)
]

shut_words : (write : Bool) (o : Option Pipe) → words_in (option_map (with_end_closed write) o) ≡ words_in o
shut_words write (Some p) = refl
shut_words write None = refl

abbrev SameWords : Machine → Machine → ℕ → Type 0
SameWords m n l = words_in (m.links l) ++ [] ≡ words_in (n.links l)

same_words : (m n k : Machine) (l : ℕ) → n ≡ k → words_in (k.links l) ≡ words_in (m.links l) → SameWords m n l
same_words m n k l is same = append-nil (words_in (m.links l)) ∙ sym (ap (λ (x : Machine). words_in (x.links l)) is ∙ same)

appended_links : (m : Machine) (s i l : ℕ) (ws : List ℕ) → words_in ((effects (words_appended i ws) s m).links l) ≡ words_in (m.links l)
unfolding effect
appended_links m s i l [] = refl
appended_links m s i l (w ∷ ws) = appended_links (effect (changes.Append i w) s m) s i l ws

kept_words : (m n : Machine) (l : ℕ) → n.links ≡ m.links → SameWords m n l
kept_words m n l same = append-nil (words_in (m.links l)) ∙ ap (λ (ls : ℕ → Option Pipe). words_in (ls l)) (sym same)

restored_words : (m n : Machine) (line : StateLine) (l : ℕ) → Restores m line n
    → words_in (m.links l) ++ (sent_by l (events.Restore line) ++ []) ≡ words_in (n.links l)
unfolding effect
restored_words m n (states.Sent k words) l f =
    sent_words m k l words.items f.link ∙ sym (ap (λ (x : Machine). words_in (x.links l)) f.is)
restored_words m n (states.EndShut k write) l f =
    same_words m n _ l f.is (one_link m.links (option_map (with_end_closed write)) k l (shut_words write))
restored_words m n (states.Join s i k write x y) l f =
    same_words m n _ l f.is (one_link m.links (opened_link write s i x y) k l (opened_words write s i x y))
restored_words m n (states.Job s u j console) l f = kept_words m n l (job_keeps m n s u j console f).links
restored_words m n (states.Alarm s period next) l f = same_words m n _ l f.is refl
restored_words m n (states.Under s t) l f = same_words m n _ l f.is refl
restored_words m n (states.Tty s i write) l f = same_words m n _ l f.is refl
restored_words m n (states.Disk s i d x y at) l f = same_words m n _ l f.is refl
restored_words m n (states.Draft s i d x y) l f = same_words m n _ l f.is refl
restored_words m n (states.Usr s i t write at) l f = same_words m n _ l f.is refl
restored_words m n (states.Wrote s i words) l f = same_words m n _ l f.is (appended_links m s i l words.items)
restored_words m n (states.Input c bytes) l f = same_words m n _ l f.is refl
restored_words m n (states.Output c bytes) l f = same_words m n _ l f.is refl
restored_words m n (states.Hold c s) l f = same_words m n _ l f.is refl
restored_words m n line l f = kept_words m n l f.links

line_words : (m n : Machine) (e : Event) (l : ℕ) → Leaves m e n → words_in (m.links l) ++ (sent_by l e ++ []) ≡ words_in (n.links l)
line_words m n (events.Restore line) l h = restored_words m n line l h
line_words m n e l h = kept_words m n l h.links

each_balances : EachMoment Balances
each_balances = record {
  letter = λ v i p forest. letter_balances v i p;
  turn = λ v s forest. λ l stands. append-nil (words_in (v.machine.links l));
  line = λ v e n out t c forest is. λ l stands. line_words v.machine n e l (line_does v.machine n v.block c e out t is);
}

-- several moments, after each of which the link exists
balanced : (ts : List Moment) (n : Machine) (l : ℕ) → Linked Balances ts n → StandsAfter l ts n
    → words_in ((machine_at ts n).links l) ++ flat_map (put_in_at l) ts ≡ flat_map (linked_at l Inward) ts ++ words_in (n.links l)
balanced [] n l linked stands = append-nil (words_in (n.links l))
balanced (t ∷ ts) n l linked stands =
    let outs = flat_map (put_in_at l) ts in
    let ins = flat_map (linked_at l Inward) ts in
    sym (append_assoc (words_in (t.machine.links l)) (put_in_at l t) outs)
    ∙ ap (λ (xs : List ℕ). xs ++ outs) (linked.0 l stands.0)
    ∙ append_assoc (linked_at l Inward t) (words_in ((machine_at ts n).links l)) outs
    ∙ ap (λ (xs : List ℕ). linked_at l Inward t ++ xs) (balanced ts n l linked.1 stands.1)
    ∙ sym (append_assoc (linked_at l Inward t) ins (words_in (n.links l)))

-- the ledger of the links, whatever the lines are
pub link_ledger : (es : List Item) (lines : List Line) → LinkLedger es lines
link_ledger es lines = record {
  balanced = λ l x.
      let u = run_of es lines in
      let n = end_of u x.section in
      let linked = subst (λ (xs : List Moment). Linked Balances xs u.last) x.section.whole
      (run_course each_balances at_start highest es lines forest_starts).linked in
      record {
        words = balanced x.section.moments n l
            (linked_middle Balances x.section.before x.section.moments x.section.after u.last linked) x.stands;
      };
}
