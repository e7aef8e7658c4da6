-- One decision on two machines that look alike to a job has results that look alike to it.
use Rattle.std.specs.Prelude.{if◌then◌else◌, ◌≡◌, ◌++◌, ℕ, Bool, true, false, Option, Some, None, List, [], ◌∷◌, option_map, unwrap_or, refl}
use Rattle.std.proofs.Common.{sym, ◌∙◌, ap, subst}
use Rattle.its_word.specs.Console.{Console}
use Rattle.its_word.specs.Stores.{stored}
use Rattle.its_word.specs.declared.plan.Store.{Store}
use Rattle.its_records.specs.declared.calls.Ask.{Ask}
use Rattle.its_records.specs.declared.calls.Exit.{Exit}
use Rattle.its_frame.specs.declared.change.Change.{Change}
use Rattle.its_frame.specs.declared.change.Change.TheVariants as changes
use Rattle.its_frame.specs.declared.decision.Decision.{Decision}
use Rattle.its_frame.specs.declared.decision.Decision.TheVariants.{Waits, Ends}
use Rattle.its_frame.specs.declared.decision.Held.{Held}
use Rattle.its_frame.specs.declared.decision.Wait.{Wait}
use Rattle.its_frame.specs.declared.variable.Variable.{Variable}
use Rattle.its_plain.specs.Call.Basic.{channel_at, set_other}
use Rattle.its_plain.specs.Call.File.{file_named}
use Rattle.its_plain.specs.Call.Link.{words_in}
use Rattle.its_plain.specs.Call.Step.{after_moves, acted}
use Rattle.its_plain.specs.Machine.Change.{in_job, channel_in, console_in, files_after_close, after_take, after_put, superiors, is_gone, after_end_close, with_sent, with_received, effect, effects}
use Rattle.its_plain.specs.Machine.{Names, File, Pipe, Chan, Shut, TtyIn, TtyOut, Reads, Writes, On, Linked, Whole, Machine}
use Rattle.its_plain.specs.Call.Moves.{AtConsole, AtLink, first_move, moves_of, moves_of_all}
use Rattle.its_plain.specs.Machine.Own.{after_exit, on_channel, at_position, with_word}
use Rattle.its_plain.specs.Call.Tests.{goes}
use Rattle.its_plain.specs.Machine.View.{view}
use Rattle.its_stepped.specs.Forest.{Forest}
use Rattle.its_stepped.proofs.Keeping.ConsoledLaws.{variable_console}
use Rattle.its_security.specs.Alike.{SameThrough, SameAt, Alike, AlikeBy}
use Rattle.its_security.proofs.EffectsAlike.{Plainly, same_jobs, job_alike, channel_alike, console_alike, holder_alike, link_alike, files_alike, deleted_same, closed_same, removed_alike}
use Rattle.its_security.proofs.OthersLaws.{console_some, on_console_open, each_console}
use Rattle.its_stepped.proofs.Duties.CallWays.{Any, Mild, AllStill, AllMild, Still}
use Rattle.its_stepped.proofs.Duties.CallWays as ways

plain_core : (f : Whole → Whole) → ((q : Whole) → (f q).job ≡ q.job) → ((q : Whole) → (f q).channels ≡ q.channels) → Plainly f
plain_core f job channels = record { channels = channels; console = λ q. ap (λ k. k.console) (job q) }

-- a channel that is closed, moved or given a word
module _ (m n o p : Machine) (jobs : (s : ℕ) → n.jobs s ≡ m.jobs s → p.jobs s ≡ o.jobs s)
    (files : (x : Names) → file_named x n.files ≡ file_named x m.files → file_named x p.files ≡ file_named x o.files)
    (links : (k : ℕ) → n.links k ≡ m.links k → p.links k ≡ o.links k) where
  moved_through : (at : ℕ) (c : Chan) → SameThrough m n c → SameThrough o p (at_position at c)
  moved_through at (On s write a) e = jobs s e
  moved_through at (Reads x a) e = files x e
  moved_through at (Linked k write) e = links k e
  moved_through at Shut e = tt
  moved_through at TtyIn e = tt
  moved_through at TtyOut e = tt
  moved_through at (Writes f) e = tt

  word_through : (w : ℕ) (c : Chan) → SameThrough m n c → SameThrough o p (with_word w c)
  word_through w (On s write a) e = jobs s e
  word_through w (Reads x a) e = files x e
  word_through w (Linked k write) e = links k e
  word_through w Shut e = tt
  word_through w TtyIn e = tt
  word_through w TtyOut e = tt
  word_through w (Writes f) e = tt

module _ (j : ℕ) (m n : Machine) (h : Alike j m n) where
  moves_alike : (k at : ℕ) → Alike j (in_job m j (on_channel k (at_position at))) (in_job n j (on_channel k (at_position at)))
  moves_alike k at =
      channel_alike j k m n (at_position at)
      (λ c e. moved_through m n (in_job m j (on_channel k (at_position at))) (in_job n j (on_channel k (at_position at)))
      (λ s i. same_jobs m n j s (on_channel k (at_position at)) i) (λ x i. i) (λ l i. i) at c e) h

  words_alike : (k w : ℕ) → Alike j (in_job m j (on_channel k (with_word w))) (in_job n j (on_channel k (with_word w)))
  words_alike k w =
      channel_alike j k m n (with_word w)
      (λ c e. word_through m n (in_job m j (on_channel k (with_word w))) (in_job n j (on_channel k (with_word w)))
      (λ s i. same_jobs m n j s (on_channel k (with_word w)) i) (λ x i. i) (λ l i. i) w c e) h

  shuts_alike : (k : ℕ) → Alike j (in_job m j (on_channel k (λ c. Shut))) (in_job n j (on_channel k (λ c. Shut)))
  shuts_alike k = channel_alike j k m n (λ c. Shut) (λ c e. tt) h

closing_same : (c : Chan) (x : Names) (fs gs : List File) → file_named x gs ≡ file_named x fs
    → file_named x (files_after_close c gs) ≡ file_named x (files_after_close c fs)
closing_same (Writes f) x fs gs e = closed_same x f fs gs e
closing_same Shut x fs gs e = e
closing_same TtyIn x fs gs e = e
closing_same TtyOut x fs gs e = e
closing_same (Reads y at) x fs gs e = e
closing_same (On s write at) x fs gs e = e
closing_same (Linked k write) x fs gs e = e

closes_alike : (j k : ℕ) (m n : Machine) → Alike j m n → Alike j (effect (changes.Close k) j m) (effect (changes.Close k) j n)
unfolding effect
closes_alike j k m n h =
    files_alike j (in_job m j (on_channel k (λ c. Shut))) (in_job n j (on_channel k (λ c. Shut)))
    (files_after_close (channel_in (m.jobs j) k) m.files) (files_after_close (channel_in (n.jobs j) k) n.files)
    (λ x e. ap (λ (o : Option Whole). file_named x (files_after_close (channel_in o k) n.files)) h.own
    ∙ closing_same (channel_in (m.jobs j) k) x m.files n.files e)
    (shuts_alike j m n h k)

-- what looks the same at the own console and through an own channel
pub console_is : (m n : Machine) (c : ℕ) (o : Option ℕ) → o ≡ Some c → SameAt m n o → (n.consoles c ≡ m.consoles c) × (n.holders c ≡ m.holders c)
console_is m n c o e h = subst (SameAt m n) e h

-- at the own console, if a channel is on it
pub console_seen : (m n : Machine) (j : ℕ) (q : Whole) (i : ℕ) → Forest m → m.jobs j ≡ Some q → Alike j m n → ways.OnConsole (channel_at q.channels i)
    → (n.consoles (unwrap_or q.job.console 0) ≡ m.consoles (unwrap_or q.job.console 0))
    × (n.holders (unwrap_or q.job.console 0) ≡ m.holders (unwrap_or q.job.console 0))
console_seen m n j q i d is h on =
    console_is m n (unwrap_or q.job.console 0) (console_in (m.jobs j))
    (ap console_in is ∙ console_some q.job.console (on_console_open q.job.console q.channels i on (each_console m j q d is))) h.console

pub through_own : (m n : Machine) (j : ℕ) (q : Whole) (i : ℕ) (c : Chan) → m.jobs j ≡ Some q → Alike j m n → q.channels i ≡ c → SameThrough m n c
through_own m n j q i c is h on = subst (SameThrough m n) (ap (λ (o : Option Whole). channel_in o i) is ∙ on) (h.channels i)

-- two machines after a change, and the bytes that it moves
pub record Effects (j : ℕ) (m n : Machine) (cs : List Change) : Type 0 where
  pub machine : Alike j (effects cs j m) (effects cs j n)
  pub moves : moves_of_all cs j n ≡ moves_of_all cs j m

pub record OneEffect (j : ℕ) (m n : Machine) (c : Change) : Type 0 where
  pub machine : Alike j (effect c j m) (effect c j n)
  pub moves : moves_of c j n ≡ moves_of c j m

-- a change that looks at no shared table: it opens nothing, makes and removes no job, and renames
-- no file
abbrev pub Neutral : Change → Type 0
Neutral (changes.Open k on) = ⊥
Neutral (changes.Make s u y) = ⊥
Neutral (changes.Join k l write u y) = ⊥
Neutral (changes.Rename a x y u v) = ⊥
Neutral (changes.Remove s) = ⊥
Neutral _ = Unit {0}

abbrev pub AllNeutral : List Change → Type 0
AllNeutral [] = Unit {0}
AllNeutral (c ∷ cs) = Neutral c × AllNeutral cs

module _ (m n : Machine) (j : ℕ) (q : Whole) (t : Option ℕ) (d : Forest m) (is : m.jobs j ≡ Some q) (h : Alike j m n) where
  pub mild_alike : (c : Change) → Mild Any (view m j q t) c → Neutral c → OneEffect j m n c
  unfolding effect view
  mild_alike (changes.Shut k) e fit = record { machine = shuts_alike j m n h k; moves = refl }
  mild_alike (changes.Close k) e fit = record { machine = closes_alike j k m n h; moves = refl }
  mild_alike (changes.Move k at) e fit = record { machine = moves_alike j m n h k at; moves = refl }
  mild_alike (changes.Append k w) e fit = record { machine = words_alike j m n h k w; moves = refl }
  mild_alike (changes.Take c) e fit = record {
    machine = console_alike j c m n after_take h;
    moves = ap (λ (i : Console). first_move j (AtConsole c) i.input)
        (subst (λ (i : ℕ). n.consoles i ≡ m.consoles i) (sym e.own) (console_seen m n j q e.channel d is h e.is).0);
  }
  mild_alike (changes.Put c b) e fit = record { machine = console_alike j c m n (after_put b) h; moves = refl }
  mild_alike (changes.Poke s p w) e fit = record { machine = job_alike j s m n _ (plain_core _ (λ r. refl) (λ r. refl)) h; moves = refl }
  mild_alike (changes.Map s k) e fit = record { machine = job_alike j s m n _ (plain_core _ (λ r. refl) (λ r. refl)) h; moves = refl }
  mild_alike (changes.Unmap s k) e fit = record { machine = job_alike j s m n _ (plain_core _ (λ r. refl) (λ r. refl)) h; moves = refl }
  mild_alike (changes.Protect s k w) e fit = record { machine = job_alike j s m n _ (plain_core _ (λ r. refl) (λ r. refl)) h; moves = refl }
  mild_alike (changes.Delete a x y) e fit = record { machine = files_alike j m n _ _ (λ z i. deleted_same z _ m.files n.files i) h; moves = refl }
  mild_alike (changes.CloseEnd k l write) e fit = record {
    machine = link_alike j l (in_job m j (on_channel k (λ c. Shut))) (in_job n j (on_channel k (λ c. Shut))) (after_end_close write) (shuts_alike j m n h k);
    moves = refl;
  }
  mild_alike (changes.Send l w) e fit = record { machine = link_alike j l m n (option_map (with_sent w)) h; moves = refl }
  mild_alike (changes.Receive l) e fit = record {
    machine = link_alike j l m n (option_map with_received) h;
    moves = ap (λ (i : Option Pipe). first_move j (AtLink l) (words_in i)) (through_own m n j q e.channel (Linked l false) is h e.is);
  }
  mild_alike (changes.Open k on) e fit = absurd fit
  mild_alike (changes.Join k l write u y) e fit = absurd fit
  mild_alike (changes.Rename a x y u v) e fit = absurd fit
  mild_alike _ e fit = absurd e

still_alike : (m n : Machine) (j : ℕ) (cs : List Change) → AllStill cs → Alike j m n → Effects j m n cs
unfolding effect
still_alike m n j [] e h = record { machine = h; moves = refl }
still_alike m n j (changes.Move i at ∷ cs) e h =
    let more = still_alike (effect (changes.Move i at) j m) (effect (changes.Move i at) j n) j cs e.1 (moves_alike j m n h i at) in
    record { machine = more.machine; moves = more.moves }
still_alike m n j (c ∷ cs) e h = absurd e.0

pub all_alike : (m n : Machine) (j : ℕ) (q : Whole) (t : Option ℕ) (cs : List Change) → Forest m → m.jobs j ≡ Some q → Alike j m n
    → AllMild Any (view m j q t) cs → AllNeutral cs → Effects j m n cs
all_alike m n j q t [] d is h e w = record { machine = h; moves = refl }
all_alike m n j q t (c ∷ cs) d is h e w =
    let one = mild_alike m n j q t d is h c e.0 w.0 in
    let more = still_alike (effect c j m) (effect c j n) j cs e.1 one.machine in
    record { machine = more.machine; moves = λ i. one.moves i ++ more.moves i }

-- the same decision
abbrev pub Same : Machine → Machine → ℕ → Decision → Type 0
Same m n j d = (b : Ask) (ks ls : List ℕ) → AlikeBy j (acted m j b ks d) (acted n j b ls d)

end_plain : (ss : List Store) (e : Exit) → Plainly (λ r. record r { core = stored r.core ss; job = after_exit e r.job })
end_plain ss e = record { channels = λ r. refl; console = λ r. refl }

moves_plain : (a : Ask) (o : Option Held) (vs : List ℕ) → Plainly (after_moves a o vs)
moves_plain a None vs = record { channels = λ r. refl; console = λ r. refl }
moves_plain a (Some b) vs = record { channels = λ r. refl; console = λ r. refl }

module _ (m n : Machine) (j : ℕ) where
  pub ends_same : (cs : List Change) (ss : List Store) (e : Exit) → Effects j m n cs → Same m n j (Ends (record { items = cs }) (record { items = ss }) e)
  unfolding acted
  ends_same cs ss e h = λ b ks ls. record {
    machine = job_alike j j (effects cs j m) (effects cs j n) _ (end_plain ss e) h.machine;
    moves = h.moves;
    part = refl;
  }

  pub goes_same : (cs : List Change) (o : Option Held) (vs : List ℕ) → Effects j m n cs → Same m n j (goes cs o vs)
  unfolding acted
  goes_same cs o vs h = λ b ks ls. record {
    machine = job_alike j j (effects cs j m) (effects cs j n) _ (moves_plain b o vs) h.machine;
    moves = h.moves;
    part = refl;
  }

  pub waits_same : (r : Wait) → Same m n j (Waits r)
  unfolding acted
  waits_same r = λ b ks ls. tt

  pub nothing_same : (ss : List Store) (e : Exit) → Alike j m n → Same m n j (Ends (record { items = [] }) (record { items = ss }) e)
  nothing_same ss e h = ends_same [] ss e (record { machine = h; moves = refl })

  pub one_same : (c : Change) → OneEffect j m n c → Effects j m n (c ∷ [])
  one_same c h = record { machine = h.machine; moves = λ i. h.moves i ++ [] }

  pub arms_alike : (o : Option (ℕ × ℕ)) → Alike j m n → Effects j m n (changes.Arm o ∷ [])
  unfolding effect
  arms_alike o h = record { machine = job_alike j j m n _ (record { channels = λ r. refl; console = λ r. refl }) h; moves = refl }

  pub holds_alike : (c s : ℕ) → Alike j m n → Effects j m n (changes.Hold c s ∷ [])
  unfolding effect
  holds_alike c s h = record { machine = holder_alike j c (Some s) m n h; moves = refl }

  pub sets_alike : (s : ℕ) (y : Variable) (w : ℕ) (new : Bool) → Alike j m n → Effects j m n (set_other s y w new)
  unfolding effect
  sets_alike s y w true h = record {
    machine = job_alike j s m n _
        (record { channels = λ r. refl; console = λ r. variable_console y w r.job }) h;
    moves = refl;
  }
  sets_alike s y w false h = record { machine = h; moves = refl }

  pub closes_tree : (s : ℕ) → ((k : ℕ) → is_gone (superiors n) s k ≡ is_gone (superiors m) s k) → superiors n s ≡ superiors m s
      → Alike j m n → Effects j m n (changes.Remove s ∷ [])
  unfolding effect
  closes_tree s gone heir h = record { machine = removed_alike j s m n gone heir h; moves = refl }
