-- Each link has an open end after each line.
use Rattle.std.specs.Prelude.{if◌then◌else◌, ◌≡◌, ◌==◌, ◌||◌, ℕ, Bool, true, false, Option, Some, None, List, [], ◌∷◌, option_map, map, refl}
use Rattle.std.proofs.Common.{sym, subst}
use Rattle.its_records.specs.Links.{link_end, with_end, is_unopened, is_open, is_alive}
use Rattle.its_records.specs.declared.link.End.{End}
use Rattle.its_records.specs.declared.link.End.TheVariants.{Unopened, Opened, Closed}
use Rattle.its_records.specs.declared.link.Link.{Link}
use Rattle.its_records.specs.declared.session.Event.{Event}
use Rattle.its_records.specs.declared.session.Event.TheVariants as events
use Rattle.its_records.specs.declared.state_line.StateLine.{StateLine}
use Rattle.its_records.specs.declared.state_line.StateLine.TheVariants as states
use Rattle.its_frame.specs.declared.change.Change.TheVariants as changes
use Rattle.its_plain.specs.Machine.{Pipe, Machine, changed}
use Rattle.its_plain.specs.Machine.Change.{on_link, effect, effects, link_or_new, with_end_opened}
use Rattle.its_plain.specs.Operator.State.{with_words_in, has_unopened, with_end_closed}
use Rattle.its_plain.proofs.CallLineLaws.{Restores, Leaves}
use Rattle.its_plain.proofs.RestoredLaws.{words_appended}
use Rattle.its_saved.specs.WellFormed.{AliveIn}
use Rattle.its_saved.proofs.TightLaws.{opened_alive, words_alive}

abbrev Alive : (ℕ → Option Pipe) → Type 0
Alive ls = (l : ℕ) → AliveIn (ls l)

link_alive : (ls : ℕ → Option Pipe) (l : ℕ) (o : Option Pipe) → AliveIn o → Alive ls → Alive (changed ls l o)
link_alive ls l o x a i = by (i == l)
  where
    by : (b : Bool) → AliveIn (if b then o else ls i)
    by true = x
    by false = a i

-- an end that nobody has opened is closed: the other one is open
or_true : (x : Bool) → (x || true) ≡ true
or_true true = refl
or_true false = refl

closed_link : (w : Bool) (k : Link) → is_unopened (link_end w k) ≡ true → is_alive k ≡ true → is_alive (with_end w Closed k) ≡ true
closed_link true k u a = by k.writer u a
  where
    by : (x : End) → is_unopened x ≡ true → (is_open k.reader || is_open x) ≡ true → (is_open k.reader || false) ≡ true
    by Unopened u a = a
    by (Opened s n) u a = cc
    by Closed u a = cc
closed_link false k u a = by k.reader u a
  where
    by : (x : End) → is_unopened x ≡ true → (is_open x || is_open k.writer) ≡ true → is_open k.writer ≡ true
    by Unopened u a = a
    by (Opened s n) u a = cc
    by Closed u a = cc

shut_alive : (w : Bool) (o : Option Pipe) → has_unopened w o ≡ true → AliveIn o → AliveIn (option_map (with_end_closed w) o)
shut_alive w (Some p) u a = closed_link w p.link u a
shut_alive w None u a = tt

appended_links : (m : Machine) (s i : ℕ) (ws : List ℕ) → (effects (map (changes.Append i) ws) s m).links ≡ m.links
unfolding effect
appended_links m s i [] = refl
appended_links m s i (w ∷ ws) = appended_links (effect (changes.Append i w) s m) s i ws

-- the links of a machine that is this one
alive_at : (m n : Machine) → n ≡ m → Alive m.links → Alive n.links
alive_at m n e a = subst (λ (x : Machine). Alive x.links) (sym e) a

restored_alive : (m n : Machine) (line : StateLine) → Alive m.links → Restores m line n → Alive n.links
unfolding effect
restored_alive m n (states.Job s u j console) a f = alive_at _ n f.is a
restored_alive m n (states.Alarm s period next) a f = alive_at _ n f.is a
restored_alive m n (states.Under s t) a f = alive_at _ n f.is a
restored_alive m n (states.Tty s i write) a f = alive_at _ n f.is a
restored_alive m n (states.Disk s i d x y at) a f = alive_at _ n f.is a
restored_alive m n (states.Draft s i d x y) a f = alive_at _ n f.is a
restored_alive m n (states.Wrote s i words) a f =
    alive_at (effects (words_appended i words.items) s m) n f.is (subst Alive (sym (appended_links m s i words.items)) a)
restored_alive m n (states.Usr s i t write at) a f = alive_at _ n f.is a
restored_alive m n (states.Join s i l write x y) a f =
    alive_at (effect (changes.Join i l write x y) s m) n f.is
    (link_alive m.links l (Some (with_end_opened write s i (link_or_new x y (m.links l)))) (opened_alive write s i (link_or_new x y (m.links l))) a)
restored_alive m n (states.Sent l words) a f =
    alive_at (on_link m l (option_map (with_words_in words.items))) n f.is
    (link_alive m.links l (option_map (with_words_in words.items) (m.links l)) (words_alive (with_words_in words.items) (m.links l) (λ p. refl) (a l)) a)
restored_alive m n (states.EndShut l write) a f =
    alive_at (on_link m l (option_map (with_end_closed write))) n f.is
    (link_alive m.links l (option_map (with_end_closed write) (m.links l)) (shut_alive write (m.links l) f.unopened (a l)) a)
restored_alive m n (states.Input c bytes) a f = alive_at _ n f.is a
restored_alive m n (states.Output c bytes) a f = alive_at _ n f.is a
restored_alive m n (states.Hold c s) a f = alive_at _ n f.is a
restored_alive m n line a f = subst Alive (sym f.links) a

pub line_alive : (m n : Machine) (e : Event) → Alive m.links → Leaves m e n → Alive n.links
line_alive m n (events.Restore line) a h = restored_alive m n line a h
line_alive m n e a h = subst Alive (sym h.links) a
