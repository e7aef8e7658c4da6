-- What a step does to other jobs and to what jobs share (docs/MACHINE.md, "Who may touch what").
use Rattle.std.specs.Prelude.{◌+◌, if◌then◌else◌, ◌==◌, ◌&&◌, ◌||◌, ◌≡◌, ◌≢◌, ◌⊎◌, ℕ, zero, suc, Bool, true, false, not, Option, Some, None, IfSome, List, [], ◌∷◌, is_some, nat_lt, option_map, unwrap_or, Result, Ok, Err, refl}
use Rattle.std.proofs.Common.{sym, ◌∙◌, ap, subst, inl, inr}
use Rattle.std.proofs.lemmas.Bool.{cases_Bool, cases_eq, eq-eqb, ne_eqb, eqb-true, or_parts, and_parts, not-false}
use Rattle.its_word.specs.Console.{Console}
use Rattle.its_word.specs.Core.{Core, word_at, can_store, zero_page}
use Rattle.its_word.specs.Stores.{first_fault}
use Rattle.its_word.specs.Word.{right_of}
use Rattle.its_records.specs.declared.jobs.Job.{Job}
use Rattle.its_word.specs.Limits.{slots}
use Rattle.its_records.specs.Tree.{climbs_to, is_below, least_free}
use Rattle.its_word.specs.declared.access.Fault.{Fault}
use Rattle.its_records.specs.declared.calls.Ask.{Ask}
use Rattle.its_records.specs.declared.calls.Exit.{Exit}
use Rattle.its_records.proofs.FreeLaws.{least_empty, least_alike}
use Rattle.its_frame.specs.Variables.{variable_named}
use Rattle.its_frame.specs.declared.change.Change.{Change}
use Rattle.its_frame.specs.declared.change.Change.TheVariants as changes
use Rattle.its_frame.specs.declared.change.Opened.{Opened}
use Rattle.its_frame.specs.declared.change.Opened.TheVariants as opened
use Rattle.its_frame.specs.declared.decision.Held.{Held}
use Rattle.its_frame.specs.declared.decision.Wait.{Wait}
use Rattle.its_word.specs.declared.plan.Store.{Store}
use Rattle.its_frame.specs.declared.decision.Decision.{Decision}
use Rattle.its_frame.specs.declared.decision.Decision.TheVariants.{Waits, Ends}
use Rattle.its_frame.specs.declared.variable.Variable.{Variable}
use Rattle.its_plain.specs.Call.Arguments.{input, has_input, place_of_input}
use Rattle.its_plain.specs.Call.Basic.{ioc, dismissed_by, dismiss_at, dismiss, Oneself, by_oneself, by_superior, set_own, own_variable, set_other, value_of_other, other_variable, usrvar_of, party_on, is_oneself, usrvar, logout, told_superior, channel_at, alarm_of, is_superior}
use Rattle.its_plain.specs.Call.File.{channels_in, channels_by, is_read}
use Rattle.its_plain.specs.Call.Step.{after_moves, acted, decision, Transition, informs, step}
use Rattle.its_plain.specs.Call.Tty.{view_console, has_console, can_take, is_holder, lands, ttylnd_of, ttylnd}
use Rattle.its_plain.specs.Call.Transfer.{iot_ends}
use Rattle.its_plain.specs.Call.Usr.{other_core, has_names, any_named, inferior_named, makes_job, opens_job, usr_tests, opens_usr, uclose_on, uclose}
use Rattle.its_plain.specs.Machine.Change.{with_page_at, on_slot, in_job, channel_in, superior_in, superiors, console_in, after_take, after_put, on_console, is_gone, chan_after_removal, after_shut, job_after_removal, after_removal, with_inf, after_end_close, with_sent, with_received, on_link, effect, effects}
use Rattle.its_plain.specs.Call.Decide.{call_row, call_named, decided_by, decided, target, reach}
use Rattle.its_security.specs.Integrity.{MayWrite, Written, word_stored, variable_set, page_made, page_dropped, page_marked, with_inf_in, Removes, nobody, by_logout, by_uclose, IsStopped, NoJobNamed, JobMay, job_written, superior_informed, job_made, JobsMay, others_same, one_changes, IsOpenAt, Uses, ConsoleMay, bytes_same, byte_taken, byte_put, CanTake, from_nobody, from_itself, from_inferior, HolderMay, holder_same, console_taken, console_given, FilesMay, files_same, draft_closed, file_deleted, file_renamed, SymbolsMay, symbols_same, symbols_none, LinkFor, is_there, is_new, AtEnd, LinkMay, end_opened, word_sent, word_received, end_shut, LinksMay, links_same, one_link_changes}
use Rattle.its_plain.specs.Unit.Interrupt.{after_dismissal, Delivered, delivered, unguarded, through_table, by_table, by_length, by_entry, by_pointer, by_stores, pushed, entries_of, first_entry, Entry}
use Rattle.its_plain.specs.Machine.{core_of, Chan, Shut, TtyIn, TtyOut, Reads, Writes, On, Linked, Pipe, Whole, Machine, changed, limit}
use Rattle.its_plain.specs.Operator.Files.{channels_of}
use Rattle.its_plain.specs.Machine.Own.{on_channel}
use Rattle.its_plain.specs.Call.Tests.{◌⇒◌, finishes, fails, faults, goes, out}
use Rattle.its_plain.specs.Machine.View.{View, job_at, outline, view}
use Rattle.its_frame.specs.declared.name.CallName.{CallName}
use Rattle.its_plain.specs.Call.Core.{has_page}
use Rattle.its_plain.specs.Call.Link.{has_link_names, link_named}
use Rattle.its_records.specs.Links.{most_links}
use Rattle.its_records.specs.declared.link.End.TheVariants as ends
use Rattle.its_plain.proofs.TargetLaws.{target_on}
use Rattle.its_plain.proofs.StepLaws.{AllOf, EachCase, step_has}
use Rattle.its_stepped.specs.Forest.{OnInferior, OnConsole, end_at, Forest}
use Rattle.its_stepped.proofs.Committing.ChannelLaws.{at_open}
use Rattle.its_stepped.proofs.Keeping.JoinedLaws.{opened_link, linked_at}
use Rattle.its_stepped.proofs.Duties.CallWays.{Writable, AtConsole, Closable, AtLink, Joinable, Mild, AllStill, AllMild, Ways, Apart, call_ways}
use Rattle.its_stepped.proofs.Duties.CallWays as ways
use Rattle.its_stepped.proofs.Duties.FitLaws.{superior_outlined}
use Rattle.its_stepped.proofs.Keeping.ForestLaws.{on_inferior, forest_below, job_few}
use Rattle.its_stepped.proofs.Committing.TestLaws.{by_test, first_holds}
use Rattle.its_security.proofs.ReaderLaws.{any_below}

-- what a step may do to others it may do with a change of the own job after it
pub slot_other : (jobs : ℕ → Option Whole) (s k : ℕ) (f : Whole → Whole) → k ≢ s → on_slot jobs s f k ≡ jobs k
slot_other jobs s k f ne = rw (ne_eqb k s ne) refl

pub none_stays : (jobs : ℕ → Option Whole) (s k : ℕ) (f : Whole → Whole) → jobs k ≡ None → on_slot jobs s f k ≡ None
none_stays jobs s k f h = elim (cases_Bool (k == s)) [ inl t ↦ rw (t, h) refl | inr e ↦ rw (e, h) refl ]

-- job j is there as before, or is not in what is left
abbrev pub Fate : Machine → Machine → Machine → ℕ → Type 0
Fate m l n j = (is_some (n.jobs j) ≡ is_some (m.jobs j)) ⊎ (l.jobs j ≡ None)

-- what a step may do to what is left, except to its own job
pub record Others (m l : Machine) (j : ℕ) (n : Machine) : Type 0 where
  pub fate : Fate m l n j
  pub jobs : JobsMay m l n j
  pub consoles : (c : ℕ) → ConsoleMay m n j c
  pub holders : (c : ℕ) → HolderMay m l n j c
  pub files : FilesMay m n j
  pub symbols : (k : ℕ) → SymbolsMay m l n k
  pub links : LinksMay m l n j
  pub clock : n.clock ≡ m.clock
  pub version : n.version ≡ m.version

-- and whom it removes
pub record Outer (m : Machine) (j : ℕ) (n : Machine) : Type 0 where
  pub left : Machine
  pub removes : Removes m n j left
  pub others : Others m left j n

-- a change of a job that leaves its stopped mark
abbrev Steady : (Whole → Whole) → Type 0
Steady f = (q : Whole) → (f q).job.stopped ≡ q.job.stopped

mapped_over : (f : Whole → Whole) (o : Option Whole) → Steady f → IsStopped o → IsStopped (option_map f o)
mapped_over f (Some q) h over = h q ∙ over
mapped_over f None h over = over

over_then : (jobs : ℕ → Option Whole) (s k : ℕ) (f : Whole → Whole) → Steady f → IsStopped (jobs k) → IsStopped (on_slot jobs s f k)
over_then jobs s k f h over = elim (cases_Bool (k == s)) [ inl t ↦ rw t (mapped_over f (jobs k) h over) | inr e ↦ rw e over ]

mapped_some : {X : Type 0} (f : Whole → X) (o : Option Whole) → is_some (option_map f o) ≡ is_some o
mapped_some f (Some q) = refl
mapped_some f None = refl

some_then : (jobs : ℕ → Option Whole) (s k : ℕ) (f : Whole → Whole) → is_some (on_slot jobs s f k) ≡ is_some (jobs k)
some_then jobs s k f = elim (cases_Bool (k == s)) [ inl t ↦ rw t (mapped_some f (jobs k)) | inr e ↦ rw e refl ]

fate_then : (m l n : Machine) (j s : ℕ) (f : Whole → Whole) → Fate m l n j → Fate m l (in_job n s f) j
fate_then m l n j s f (inl e) = inl (some_then n.jobs s j f ∙ e)
fate_then m l n j s f (inr h) = inr h

job_then : (m n : Machine) (j k : ℕ) (f : Whole → Whole) → Steady f → k ≢ j → JobMay m n j k → JobMay m (in_job n j f) j k
job_then m n j k f h ne (job_written q r leave is at w) = job_written q r leave is (slot_other n.jobs j k f ne ∙ at) w
job_then m n j k f h ne (superior_informed q up over is at) = superior_informed q up (over_then n.jobs j j f h over) is (slot_other n.jobs j k f ne ∙ at)
job_then m n j k f h ne (job_made u x none free at) = job_made u x none free (slot_other n.jobs j k f ne ∙ at)

jobs_then : (m l n : Machine) (j : ℕ) (f : Whole → Whole) → Steady f → JobsMay m l n j → JobsMay m l (in_job n j f) j
jobs_then m l n j f h (others_same e) = others_same (λ k ne. slot_other n.jobs j k f ne ∙ e k ne)
jobs_then m l n j f h (one_changes s apart none may rest) =
    one_changes s apart none (job_then m n j s f h apart may) (λ k ne other. slot_other n.jobs j k f ne ∙ rest k ne other)

console_then : (m n : Machine) (j c : ℕ) (f : Whole → Whole) → ConsoleMay m n j c → ConsoleMay m (in_job n j f) j c
console_then m n j c f (bytes_same e) = bytes_same e
console_then m n j c f (byte_taken u e) = byte_taken u e
console_then m n j c f (byte_put b u e) = byte_put b u e

holder_then : (m l n : Machine) (j s c : ℕ) (f : Whole → Whole) → HolderMay m l n j c → HolderMay m l (in_job n s f) j c
holder_then m l n j s c f (holder_same e) = holder_same e
holder_then m l n j s c f (console_taken none own take e) = console_taken none own take e
holder_then m l n j s c f (console_given i none own has up e) = console_given i none own has up e

files_then : (m n : Machine) (j : ℕ) (f : Whole → Whole) → FilesMay m n j → FilesMay m (in_job n j f) j
files_then m n j f (files_same e) = files_same e
files_then m n j f (draft_closed i d is unread e) = draft_closed i d is unread e
files_then m n j f (file_deleted x unread e) = file_deleted x unread e
files_then m n j f (file_renamed d x y u v unread free e) = file_renamed d x y u v unread free e

symbols_then : (m l n : Machine) (s k : ℕ) (f : Whole → Whole) → SymbolsMay m l n k → SymbolsMay m l (in_job n s f) k
symbols_then m l n s k f (symbols_same e) = symbols_same e
symbols_then m l n s k f (symbols_none none there e) = symbols_none none (some_then n.jobs s k f ∙ there) e

link_then : (m n : Machine) (j s k : ℕ) (f : Whole → Whole) → LinkMay m n j k → LinkMay m (in_job n s f) j k
link_then m n j s k f (end_opened i x y write shut free named e) = end_opened i x y write shut free named e
link_then m n j s k f (word_sent i w on e) = word_sent i w on e
link_then m n j s k f (word_received i on e) = word_received i on e
link_then m n j s k f (end_shut i write on e) = end_shut i write on e

links_then : (m l n : Machine) (j s : ℕ) (f : Whole → Whole) → LinksMay m l n j → LinksMay m l (in_job n s f) j
links_then m l n j s f (links_same e) = links_same e
links_then m l n j s f (one_link_changes k none may rest) = one_link_changes k none (link_then m n j s k f may) rest

others_then : (m l n : Machine) (j : ℕ) (f : Whole → Whole) → Steady f → Others m l j n → Others m l j (in_job n j f)
others_then m l n j f st h = record {
  fate = fate_then m l n j j f h.fate;
  jobs = jobs_then m l n j f st h.jobs;
  consoles = λ c. console_then m n j c f (h.consoles c);
  holders = λ c. holder_then m l n j j c f (h.holders c);
  files = files_then m n j f h.files;
  symbols = λ k. symbols_then m l n j k f (h.symbols k);
  links = links_then m l n j j f h.links;
  clock = h.clock;
  version = h.version;
}

removes_then : (m n : Machine) (j : ℕ) (f : Whole → Whole) (l : Machine) → Removes m n j l → Removes m (in_job n j f) j l
removes_then m n j f l nobody = nobody
removes_then m n j f l (by_logout e) = by_logout (none_stays n.jobs j j f e)
removes_then m n j f l (by_uclose i s at write is up) = by_uclose i s at write is up

then_own : (m n : Machine) (j : ℕ) (f : Whole → Whole) → Steady f → Outer m j n → Outer m j (in_job n j f)
then_own m n j f st h = record { left = h.left; removes = removes_then m n j f h.left h.removes; others = others_then m h.left n j f st h.others }

-- a step that removes nobody
stays_all : (m : Machine) (j : ℕ) (n : Machine) → Others m m j n → Outer m j n
stays_all m j n h = record { left = m; removes = nobody; others = h }

-- a step that changes the jobs alone
others_alone : (m : Machine) (j : ℕ) (jobs : ℕ → Option Whole) → is_some (jobs j) ≡ is_some (m.jobs j)
    → JobsMay m m (record m { jobs = jobs }) j → Others m m j (record m { jobs = jobs })
others_alone m j jobs same h = record {
  fate = inl same;
  jobs = h;
  consoles = λ c. bytes_same refl;
  holders = λ c. holder_same refl;
  files = files_same refl;
  symbols = λ k. symbols_same refl;
  links = links_same (λ l. refl);
  clock = refl;
  version = refl;
}

jobs_alone : (m : Machine) (j : ℕ) (jobs : ℕ → Option Whole) → is_some (jobs j) ≡ is_some (m.jobs j)
    → JobsMay m m (record m { jobs = jobs }) j → Outer m j (record m { jobs = jobs })
jobs_alone m j jobs same h = stays_all m j (record m { jobs = jobs }) (others_alone m j jobs same h)

pub no_others : (m : Machine) (j : ℕ) → Others m m j m
no_others m j = others_alone m j m.jobs refl (others_same (λ k ne. refl))

nothing : (m : Machine) (j : ℕ) → Outer m j m
nothing m j = stays_all m j m (no_others m j)

own : (m : Machine) (j : ℕ) (f : Whole → Whole) → Outer m j (in_job m j f)
own m j f = jobs_alone m j (on_slot m.jobs j f) (some_then m.jobs j j f) (others_same (λ k ne. slot_other m.jobs j k f ne))

-- it writes in the job of slot s
option_changed : (o : Option Whole) (f : Whole → Whole) → (o ≡ None) ⊎ ((q : Whole) × (o ≡ Some q))
option_changed None f = inl refl
option_changed (Some q) f = inr (q, refl)

pub here : (jobs : ℕ → Option Whole) (s k : ℕ) (f : Whole → Whole) → k ≡ s → on_slot jobs s f k ≡ option_map f (jobs k)
here jobs s k f e = rw (eq-eqb k s e) refl

nobody_there : (jobs : ℕ → Option Whole) (s k : ℕ) (f : Whole → Whole) → jobs s ≡ None → on_slot jobs s f k ≡ jobs k
nobody_there jobs s k f none = elim (cases_eq k s) [
  | inl at ↦ here jobs s k f at ∙ ap (option_map f) (ap jobs at ∙ none) ∙ sym (ap jobs at ∙ none)
  | inr other ↦ slot_other jobs s k f other
]

writes : (m : Machine) (j s : ℕ) (f : Whole → Whole) → MayWrite m j s → ((q : Whole) → m.jobs s ≡ Some q → Written q (f q)) → Outer m j (in_job m s f)
writes m j s f leave w = elim (cases_eq s j) [
  | inl same ↦ subst (λ (i : ℕ). Outer m j (in_job m i f)) (sym same) (own m j f)
  | inr apart ↦ jobs_alone m j (on_slot m.jobs s f) (some_then m.jobs s j f) (elim (option_changed (m.jobs s) f) [
    | inl none ↦ others_same (λ k ne. nobody_there m.jobs s k f none)
    | inr some ↦ one_changes s apart refl
        (job_written some.0 (f some.0) leave some.1 (here m.jobs s s f refl ∙ ap (option_map f) some.1) (w some.0 some.1))
        (λ k ne other. slot_other m.jobs s k f other)
  ])
]

writes_or_own : (m : Machine) (j s : ℕ) (f : Whole → Whole) → (s ≡ j) ⊎ MayWrite m j s → ((q : Whole) → m.jobs s ≡ Some q → Written q (f q))
    → Outer m j (in_job m s f)
writes_or_own m j s f (inl same) w = subst (λ (i : ℕ). Outer m j (in_job m i f)) (sym same) (own m j f)
writes_or_own m j s f (inr leave) w = writes m j s f leave w

-- a byte at its own console
bytes_alone : (m : Machine) (j c : ℕ) (f : Console → Console) → ConsoleMay m (on_console m c f) j c → Outer m j (on_console m c f)
bytes_alone m j c f h = stays_all m j (on_console m c f) (record {
  fate = inl refl;
  jobs = others_same (λ k ne. refl);
  consoles = λ d. elim (cases_eq d c) [
    | inl at ↦ subst (ConsoleMay m (on_console m c f) j) (sym at) h
    | inr other ↦ bytes_same (rw (ne_eqb d c other) refl)
  ];
  holders = λ d. holder_same refl;
  files = files_same refl;
  symbols = λ k. symbols_same refl;
  links = links_same (λ l. refl);
  clock = refl;
  version = refl;
})

console_here : (m : Machine) (c : ℕ) (f : Console → Console) → (on_console m c f).consoles c ≡ f (m.consoles c)
console_here m c f = rw (eq-eqb c c refl) refl

-- the directory
files_alone : (m : Machine) (j : ℕ) (n : Machine) → n ≡ record m { files = n.files } → FilesMay m n j → Outer m j n
files_alone m j n e h = stays_all m j n (record {
  fate = inl (ap (λ (x : Machine). is_some (x.jobs j)) e);
  jobs = others_same (λ k ne. ap (λ (x : Machine). x.jobs k) e);
  consoles = λ d. bytes_same (ap (λ (x : Machine). x.consoles d) e);
  holders = λ d. holder_same (ap (λ (x : Machine). x.holders d) e);
  files = h;
  symbols = λ k. symbols_same (ap (λ (x : Machine). x.symbols k) e);
  links = links_same (λ l. ap (λ (x : Machine). x.links l) e);
  clock = ap (λ (x : Machine). x.clock) e;
  version = ap (λ (x : Machine). x.version) e;
})

-- one link, and a channel of its own
link_here : (m : Machine) (l : ℕ) (f : Option Pipe → Option Pipe) → (on_link m l f).links l ≡ f (m.links l)
link_here m l f = rw (eq-eqb l l refl) refl

words_alone : (m : Machine) (j l : ℕ) (f : Option Pipe → Option Pipe) → LinkMay m (on_link m l f) j l → Outer m j (on_link m l f)
words_alone m j l f h = stays_all m j (on_link m l f) (record {
  fate = inl refl;
  jobs = others_same (λ k ne. refl);
  consoles = λ d. bytes_same refl;
  holders = λ d. holder_same refl;
  files = files_same refl;
  symbols = λ k. symbols_same refl;
  links = one_link_changes l refl h (λ r other. rw (ne_eqb r l other) refl);
  clock = refl;
  version = refl;
})

link_alone : (m : Machine) (j l : ℕ) (g : Whole → Whole) (f : Option Pipe → Option Pipe) → Steady g → LinkMay m (on_link m l f) j l
    → Outer m j (on_link (in_job m j g) l f)
link_alone m j l g f st h = then_own m (on_link m l f) j g st (words_alone m j l f h)

-- what a call sees of channels is so in its machine
channels_seen_at : (o : Option Whole) (n : ℕ) → channels_by (option_map outline o) n ≡ channel_in o n
channels_seen_at (Some q) n = refl
channels_seen_at None n = refl

channels_seen : (m : Machine) (j : ℕ) (q : Whole) (t : Option ℕ) → channels_in (view m j q t) ≡ channels_of m
unfolding view
channels_seen m j q t = λ i. λ k. λ n. channels_seen_at (m.jobs k) n i

unread_seen : (m : Machine) (j : ℕ) (q : Whole) (t : Option ℕ) (names : List ℕ) → is_read names (channels_in (view m j q t)) ≡ false
    → is_read names (channels_of m) ≡ false
unread_seen m j q t names h = ap (is_read names) (sym (channels_seen m j q t)) ∙ h

own_channel : (m : Machine) (j : ℕ) (q : Whole) (n : ℕ) (c : Chan) → m.jobs j ≡ Some q → channel_at q.channels n ≡ c → c ≢ Shut → channel_in (m.jobs j) n ≡ c
own_channel m j q n c is h open_ = ap (λ (o : Option Whole). channel_in o n) is ∙ at_open q.channels n c h open_

-- the job of a slot is the one that the call reaches
abbrev Reached : Option ℕ → ℕ → Type 0
Reached t s = t ≡ Some s

may_write : (m : Machine) (j : ℕ) (q : Whole) (t : Option ℕ) (s : ℕ) → Forest m → m.jobs j ≡ Some q → Writable (Reached t) (view m j q t) s → MayWrite m j s
unfolding view
may_write m j q t s d is w = record {
  channel = w.channel;
  position = w.position;
  is = own_channel m j q w.channel (On s true w.position) is w.is (λ e. cc);
  up = on_inferior m j q w.channel s w.position true d is w.is;
}

-- a channel on the console is of a job that has one
pub console_some : (o : Option ℕ) → is_some o ≡ true → o ≡ Some (unwrap_or o 0)
console_some (Some c) h = refl
console_some None h = cc

pub on_console_open : (o : Option ℕ) (channels : ℕ → Chan) (n : ℕ) → ways.OnConsole (channel_at channels n)
    → ((i : ℕ) → OnConsole o (channels i)) → is_some o ≡ true
on_console_open o channels n h each = go (nat_lt n 16) h
  where
    on : (c : Chan) → ways.OnConsole c → OnConsole o c → is_some o ≡ true
    on TtyIn h e = e
    on TtyOut h e = e
    on Shut h e = absurd h
    on (Reads f at) h e = absurd h
    on (Writes f) h e = absurd h
    on (On s write at) h e = absurd h
    on (Linked l write) h e = absurd h

    go : (b : Bool) → ways.OnConsole (if b then channels n else Shut) → is_some o ≡ true
    go true h = on (channels n) h (each n)
    go false h = absurd h

pub each_console : (m : Machine) (j : ℕ) (q : Whole) → Forest m → m.jobs j ≡ Some q → (i : ℕ) → OnConsole q.job.console (q.channels i)
each_console m j q d is i = subst (λ (o : Option Whole). OnConsole (console_in o) (channel_in o i)) is (d.consoles j i)

uses : (m : Machine) (j : ℕ) (q : Whole) (t : Option ℕ) (c : ℕ) → Forest m → m.jobs j ≡ Some q → AtConsole (view m j q t) c → Uses m j c
unfolding view
uses m j q t c d is h = record {
  own = ap console_in is ∙ console_some q.job.console (on_console_open q.job.console q.channels h.channel h.is (each_console m j q d is))
      ∙ ap Some (sym h.own);
  free = h.free;
}

-- an end of a link that is open
pub open_at : (j i : ℕ) (write : Bool) (o : Option Pipe) → end_at write o ≡ ends.Opened j i → IsOpenAt j i write o
open_at j i write (Some p) e = e
open_at j i write None e = cc

-- a mild change
module _ (m : Machine) (j : ℕ) (q : Whole) (t : Option ℕ) (d : Forest m) (is : m.jobs j ≡ Some q) where
  other_is : (s : ℕ) (r : Whole) → t ≡ Some s → m.jobs s ≡ Some r → other_core (view m j q t) ≡ r.core
  unfolding view
  other_is s r e at = ap (λ o. core_of (job_at m o)) e ∙ ap core_of at

  own_or : (s : ℕ) → (s ≡ (view m j q t).slot) ⊎ Writable (Reached t) (view m j q t) s → (s ≡ j) ⊎ MayWrite m j s
  unfolding view
  own_or s (inl same) = inl same
  own_or s (inr w) = inr (may_write m j q t s d is w)

  closes_may : (n : ℕ) → Closable (view m j q t) n → Outer m j (effect (changes.Close n) j m)
  unfolding effect view
  closes_may n h =
      let at = own_channel m j q n (Writes h.file) is h.is (λ e. cc) in
      stays_all m j _ (record {
        fate = inl (some_then m.jobs j j _);
        jobs = others_same (λ k ne. slot_other m.jobs j k _ ne);
        consoles = λ c. bytes_same refl;
        holders = λ c. holder_same refl;
        files = draft_closed n h.file at (unread_seen m j q t h.file.names h.unread) (rw at refl);
        symbols = λ k. symbols_same refl;
        links = links_same (λ l. refl);
        clock = refl;
        version = refl;
      })

  renames_may : (e x y u v : ℕ) → Mild (Reached t) (view m j q t) (changes.Rename e x y u v) → Outer m j (effect (changes.Rename e x y u v) j m)
  unfolding effect view
  renames_may e x y u v h = files_alone m j _ refl (file_renamed e x y u v (unread_seen m j q t _ h.0) h.1 refl)

  -- links
  own_link : (n : ℕ) (c : Chan) → q.channels n ≡ c → channel_in (m.jobs j) n ≡ c
  own_link n c on = ap (λ (o : Option Whole). channel_in o n) is ∙ on

  own_end : (n l : ℕ) (write : Bool) → q.channels n ≡ Linked l write → AtEnd m j n l write
  own_end n l write on = let at = own_link n (Linked l write) on in record
      { is = at; end = open_at j n write (m.links l) (linked_at m j n l write d.links at).1 }

  joins_may : (n l : ℕ) (write : Bool) (x y : ℕ) → Joinable (view m j q t) n l write x y → Outer m j (effect (changes.Join n l write x y) j m)
  unfolding effect view
  joins_may n l write x y h =
      link_alone m j l (on_channel n (λ c. Linked l write)) (opened_link write j n x y) (λ q. refl)
      (end_opened n x y write (own_link n Shut h.shut) h.unopened (named h.named) (link_here m l (opened_link write j n x y)))
    where
      named : (has_link_names x y (m.links l) ≡ true) ⊎ ((least_free most_links m.links ≡ Some l) × (link_named m.links x y ≡ None)) → LinkFor m.links x y l
      named (inl has) = is_there has
      named (inr fresh) = is_new fresh.1 fresh.0

  parts_may : (n l : ℕ) (write : Bool) → Mild (Reached t) (view m j q t) (changes.CloseEnd n l write) → Outer m j (effect (changes.CloseEnd n l write) j m)
  unfolding effect view
  parts_may n l write h =
      link_alone m j l (on_channel n (λ c. Shut)) (after_end_close write) (λ q. refl)
      (end_shut n write (own_end n l write h) (link_here m l (after_end_close write)))

  sends_may : (l w : ℕ) → AtLink (view m j q t) l true → Outer m j (effect (changes.Send l w) j m)
  unfolding effect view
  sends_may l w h =
      words_alone m j l (option_map (with_sent w))
      (word_sent h.channel w (own_end h.channel l true h.is) (link_here m l (option_map (with_sent w))))

  receives_may : (l : ℕ) → AtLink (view m j q t) l false → Outer m j (effect (changes.Receive l) j m)
  unfolding effect view
  receives_may l h =
      words_alone m j l (option_map with_received)
      (word_received h.channel (own_end h.channel l false h.is) (link_here m l (option_map with_received)))

  maps_may : (s k : ℕ) → (s ≡ (view m j q t).slot) ⊎ (Writable (Reached t) (view m j q t) s
      × (has_page (other_core (view m j q t)) k ≡ false)) → Outer m j (effect (changes.Map s k) j m)
  unfolding effect view
  maps_may s k (inl same) = subst (λ (i : ℕ). Outer m j (in_job m i (with_page_at k (Some zero_page)))) (sym same) (own m j (with_page_at k (Some zero_page)))
  maps_may s k (inr h) = writes m j s (with_page_at k (Some zero_page)) (may_write m j q t s d is h.0)
      (λ r at. page_made k (ap (λ (c : Core). has_page c k) (sym (other_is s r h.0.reached at)) ∙ h.1))

  mild_may : (c : Change) → Mild (Reached t) (view m j q t) c → Outer m j (effect c j m)
  unfolding effect
  mild_may (changes.Open n on) h = own m j _
  mild_may (changes.Shut n) h = own m j _
  mild_may (changes.Move n at) h = own m j _
  mild_may (changes.Append n w) h = own m j _
  mild_may (changes.Close n) h = closes_may n h
  mild_may (changes.Take c) h = bytes_alone m j c after_take (byte_taken (uses m j q t c d is h) (console_here m c after_take))
  mild_may (changes.Put c b) h = bytes_alone m j c (after_put b) (byte_put b (uses m j q t c d is h) (console_here m c (after_put b)))
  mild_may (changes.Poke s p w) h = writes m j s _ (may_write m j q t s d is h.0)
      (λ r at. word_stored p w (ap (λ (c : Core). can_store c p) (sym (other_is s r h.0.reached at)) ∙ h.1))
  mild_may (changes.Map s k) h = maps_may s k h
  mild_may (changes.Unmap s k) h = writes_or_own m j s _ (own_or s h) (λ r at. page_dropped k)
  mild_may (changes.Protect s k w) h = writes_or_own m j s _ (own_or s h) (λ r at. page_marked k w)
  mild_may (changes.Delete e x y) h = files_alone m j _ refl (file_deleted _ (unread_seen m j q t _ h) refl)
  mild_may (changes.Rename e x y u v) h = renames_may e x y u v h
  mild_may (changes.Join n l write x y) h = joins_may n l write x y h
  mild_may (changes.CloseEnd n l write) h = parts_may n l write h
  mild_may (changes.Send l w) h = sends_may l w h
  mild_may (changes.Receive l) h = receives_may l h
  mild_may _ h = absurd h

still_may : (m n : Machine) (j : ℕ) (cs : List Change) → AllStill cs → Outer m j n → Outer m j (effects cs j n)
unfolding effect
still_may m n j [] h may = may
still_may m n j (changes.Move i at ∷ cs) h may = still_may m (effect (changes.Move i at) j n) j cs h.1 (then_own m n j _ (λ q. refl) may)
still_may m n j (c ∷ cs) h may = absurd h.0

all_may : (m : Machine) (j : ℕ) (q : Whole) (t : Option ℕ) (cs : List Change) → Forest m → m.jobs j ≡ Some q
    → AllMild (Reached t) (view m j q t) cs → Outer m j (effects cs j m)
all_may m j q t [] d is h = nothing m j
all_may m j q t (c ∷ cs) d is h = still_may m (effect c j m) j cs h.1 (mild_may m j q t d is c h.0)

-- what a decision may do, of whatever call
abbrev Permitted : Machine → ℕ → Decision → Type 0
Permitted m j d = (a : Ask) (ks : List ℕ) → AllOf (λ (t : Transition). Outer m j t.machine) (acted m j a ks d)

held_steady : (a : Ask) (o : Option Held) (vs : List ℕ) → (q : Whole) → (after_moves a o vs q).job.stopped ≡ q.job.stopped
held_steady a None vs q = refl
held_steady a (Some h) vs q = refl

module _ (m : Machine) (j : ℕ) where
  ends_may : (x : View) (a : Ask) (k : ℕ) → Permitted m j (fails x a k)
  unfolding acted
  ends_may x a k = λ b ks. own m j _

  faults_may : (x : View) (f : Fault) → Permitted m j (faults x f)
  unfolding acted
  faults_may x f = λ b ks. own m j _

  stuck_may : (x : View) → Permitted m j (ioc x)
  unfolding acted
  stuck_may x = λ b ks. own m j _

  finish_may : (x : View) (cs : List Change) (ss : List Store) → Outer m j (effects cs j m) → Permitted m j (finishes x cs ss)
  unfolding acted
  finish_may x cs ss h = λ b ks. then_own m (effects cs j m) j _ (λ q. refl) h

  moved_may : (x : View) (cs : List Change) (ss : List Store) → Outer m j (effects cs j m) → Permitted m j (iot_ends x cs ss)
  unfolding acted
  moved_may x cs ss h = λ b ks. then_own m (effects cs j m) j _ (λ q. refl) h

  going_may : (cs : List Change) (o : Option Held) (vs : List ℕ) → Outer m j (effects cs j m) → Permitted m j (goes cs o vs)
  unfolding acted
  going_may cs o vs h = λ b ks. then_own m (effects cs j m) j _ (held_steady b o vs) h

  left_may : (ss : List Store) (e : Exit) → Permitted m j (Ends (record { items = [] }) (record { items = ss }) e)
  unfolding acted
  left_may ss e = λ b ks. own m j _

  waits_may : (r : Wait) → Permitted m j (Waits r)
  unfolding acted
  waits_may r = λ b ks. tt

  opened_may : (n : ℕ) (on : Opened) → Outer m j (effects (changes.Open n on ∷ []) j m)
  unfolding effect
  opened_may n on = own m j _

  armed_may : (o : Option (ℕ × ℕ)) → Outer m j (effects (changes.Arm o ∷ []) j m)
  unfolding effect
  armed_may o = own m j _

-- removals
climb_more : (sup : ℕ → Option ℕ) (s n : ℕ) (o : Option ℕ) → climbs_to sup s n o ≡ true → climbs_to sup s (suc n) o ≡ true
unfolding climbs_to
climb_more sup s zero o h = cc
climb_more sup s (suc n) None h = cc
climb_more sup s (suc n) (Some k) h = elim (cases_Bool (k == s)) [
  | inl t ↦ rw t refl
  | inr f ↦ rw f (climb_more sup s n (sup k) (sym (ap (λ b. b || climbs_to sup s n (sup k)) f) ∙ h))
]

climb_from : (sup : ℕ → Option ℕ) (s n k : ℕ) → (k == s) ≡ false → climbs_to sup s (suc n) (Some k) ≡ true → climbs_to sup s n (sup k) ≡ true
unfolding climbs_to
climb_from sup s n k apart h = sym (ap (λ b. b || climbs_to sup s n (sup k)) apart) ∙ h

below_climbs : (sup : ℕ → Option ℕ) (r s : ℕ) → is_below sup r s ≡ true → climbs_to sup r slots (sup s) ≡ true
unfolding is_below
below_climbs sup r s h = (and_parts (not (s == r)) (climbs_to sup r slots (sup s)) h).1

climbs_below : (sup : ℕ → Option ℕ) (r k : ℕ) → (k == r) ≡ false → climbs_to sup r slots (sup k) ≡ true → is_gone sup r k ≡ true
unfolding is_below
climbs_below sup r k apart h = rw (apart, h) refl

-- an inferior of a job that stays stays, except for the root itself
pub stays_below : (sup : ℕ → Option ℕ) (r s k : ℕ) → sup s ≡ Some k → is_gone sup r k ≡ false → sup r ≢ Some k → is_gone sup r s ≡ false
stays_below sup r s k up stays root = elim (cases_Bool (is_gone sup r s)) [
  | inr f ↦ f
  | inl t ↦ absurd (
      elim (cases_eq s r) [
        | inl at ↦ root (ap sup (sym at) ∙ up)
        | inr apart ↦ (
            let both = or_parts (k == r) (is_below sup r k) stays in
            let below : is_below sup r s ≡ true = sym (ap (λ b. b || is_below sup r s) (ne_eqb s r apart)) ∙ t in
            let climbs : climbs_to sup r slots (Some k) ≡ true = sym (ap (climbs_to sup r slots) up) ∙ below_climbs sup r s below in
            let more = climb_more sup r 95 (sup k) (climb_from sup r 95 k both.0 climbs) in
            let no : false ≡ true = sym stays ∙ climbs_below sup r k both.0 more in
            cc
            )
      ])
]

channel_stays : (m : Machine) (r k : ℕ) (c : Chan) → OnInferior m k c → is_gone (superiors m) r k ≡ false → superiors m r ≢ Some k
    → chan_after_removal (is_gone (superiors m) r) c ≡ c
channel_stays m r k (On s write at) h stays root = rw (stays_below (superiors m) r s k h stays root) refl
channel_stays m r k Shut h stays root = refl
channel_stays m r k TtyIn h stays root = refl
channel_stays m r k TtyOut h stays root = refl
channel_stays m r k (Reads f at) h stays root = refl
channel_stays m r k (Writes f) h stays root = refl
channel_stays m r k (Linked l write) h stays root = refl

shut_same : (gone : ℕ → Bool) (q : Whole) → ((n : ℕ) → chan_after_removal gone (q.channels n) ≡ q.channels n) → after_shut gone q ≡ q
shut_same gone q h = λ i. record q { channels = λ n. h n i }

pub left_same : (m : Machine) (r k : ℕ) (o : Option Whole) → m.jobs k ≡ o → Forest m → is_gone (superiors m) r k ≡ false → superiors m r ≢ Some k
    → job_after_removal (is_gone (superiors m) r) false o ≡ o
left_same m r k None is d stays root = refl
left_same m r k (Some q) is d stays root =
    ap Some (shut_same (is_gone (superiors m) r) q (λ n. channel_stays m r k (q.channels n)
    (subst (λ (o : Option Whole). OnInferior m k (channel_in o n)) is (d.channels k n)) stays root))

-- what is left, and nothing more
left_alone : (m l : Machine) (j : ℕ) → l.consoles ≡ m.consoles → l.files ≡ m.files → l.clock ≡ m.clock → l.version ≡ m.version → Fate m l l j → Others m l j l
left_alone m l j consoles files clock version fate = record {
  fate = fate;
  jobs = others_same (λ k ne. refl);
  consoles = λ c. bytes_same (ap (λ (f : ℕ → Console). f c) consoles);
  holders = λ c. holder_same refl;
  files = files_same files;
  symbols = λ k. symbols_same refl;
  links = links_same (λ k. refl);
  clock = clock;
  version = version;
}

-- LOGOUT, which is reported to the superior
itself_gone : (sup : ℕ → Option ℕ) (j : ℕ) → is_gone sup j j ≡ true
itself_gone sup j = rw (eq-eqb j j refl) refl

pub own_gone : (m : Machine) (j : ℕ) → (after_removal (superiors m) j m).jobs j ≡ None
unfolding after_removal
own_gone m j = rw (itself_gone (superiors m) j) refl

superior_apart : (m : Machine) (j s : ℕ) → Forest m → superiors m j ≡ Some s → s ≢ j
superior_apart m j s d up at =
    let no : true ≡ false = sym (itself_gone (superiors m) j) ∙ ap (is_gone (superiors m) j) (sym at) ∙ forest_below m j s d up in
    cc

stands : (o : Option Whole) → is_some o ≡ true → (q : Whole) × (o ≡ Some q)
stands (Some q) h = (q, refl)
stands None h = cc

pub superior_job : (m : Machine) (j s : ℕ) → Forest m → superiors m j ≡ Some s → (q : Whole) × (m.jobs s ≡ Some q)
superior_job m j s d up = stands (m.jobs s) (subst (λ (o : Option ℕ). IfSome o (λ i. is_some (m.jobs i) ≡ true)) up (d.standing j))

pub superior_of_gone : (m : Machine) (j s : ℕ) (q : Whole) → Forest m → superiors m j ≡ Some s → m.jobs s ≡ Some q
    → (after_removal (superiors m) j m).jobs s ≡ Some (after_shut (is_gone (superiors m) j) q)
unfolding after_removal
superior_of_gone m j s q d up is = rw (forest_below m j s d up, is) refl

told_may : (m : Machine) (j : ℕ) (o : Option ℕ) → superiors m j ≡ o → Outer m j (effects (told_superior o) j (after_removal (superiors m) j m))
unfolding effect after_removal
told_may m j None up = record {
  left = with_inf_in (superiors m j) (after_removal (superiors m) j m);
  removes = by_logout (own_gone m j);
  others = subst (λ (o : Option ℕ). Others m (with_inf_in o (after_removal (superiors m) j m)) j (after_removal (superiors m) j m)) (sym up)
      (left_alone m (after_removal (superiors m) j m) j refl refl refl refl (inr (own_gone m j)));
}
told_may m j (Some s) up =
    let n = in_job (after_removal (superiors m) j m) s with_inf in
    let gone = none_stays (after_removal (superiors m) j m).jobs s j with_inf (own_gone m j) in
    record {
      left = with_inf_in (superiors m j) (after_removal (superiors m) j m);
      removes = by_logout gone;
      others = subst (λ (o : Option ℕ). Others m (with_inf_in o (after_removal (superiors m) j m)) j n) (sym up)
          (left_alone m n j refl refl refl refl (inr gone));
    }

-- DISMIS
dismissed_may : (m : Machine) (j : ℕ) (x : View) (p w : ℕ) (r : Result Exit Fault) → Permitted m j (dismissed_by x p w r)
dismissed_may m j x p w (Ok e) = left_may m j _ e
dismissed_may m j x p w (Err f) = faults_may m j x f

dismiss_may : (m : Machine) (j : ℕ) (x : View) (a : Ask) → Permitted m j (dismiss x a)
unfolding dismiss
dismiss_may m j x a = go (place_of_input a 0)
  where
    go : (o : Option ℕ) → Permitted m j (dismiss_at x a o)
    go (Some p) = dismissed_may m j x p (input a 0) (after_dismissal x.own.core x.own.job p)
    go None = ends_may m j x a 0o17

-- USRVAR
own_variable_may : (m : Machine) (j : ℕ) (x : View) (a : Ask) (o : Option Variable) → Permitted m j (own_variable x a o)
own_variable_may m j x a None = ends_may m j x a 0o22
own_variable_may m j x a (Some y) =
    by_test (Permitted m j) (has_input a 2 && not (by_oneself y)) (fails x a 0o22) (set_own x a y (has_input a 2))
    (λ t. ends_may m j x a 0o22) (λ t. go (has_input a 2))
  where
    go : (b : Bool) → Permitted m j (set_own x a y b)
    go true = left_may m j _ _
    go false = finish_may m j x [] _ (nothing m j)

set_may : (m : Machine) (j s : ℕ) (y : Variable) (w : ℕ) (new write : Bool) → (write ≡ true → MayWrite m j s) → (new && not write) ≡ false
    → (new && not (by_superior y)) ≡ false
    → Outer m j (effects (set_other s y w new) j m)
unfolding effect
set_may m j s y w false write leave may can = nothing m j
set_may m j s y w true true leave may can = writes m j s _ (leave refl) (λ r at. variable_set y w (not-false (by_superior y) can))
set_may m j s y w true false leave may can = cc

other_variable_may : (m : Machine) (j s : ℕ) (x : View) (a : Ask) (write : Bool) (o : Option Variable) → (write ≡ true → MayWrite m j s)
    → Permitted m j (other_variable x a s write o)
other_variable_may m j s x a write None leave = ends_may m j x a 0o22
other_variable_may m j s x a write (Some y) leave =
    let cs = set_other s y (input a 2) (has_input a 2) in
    first_holds (Permitted m j)
    (((has_input a 2 && not write) ⇒ fails x a 0o5) ∷ ((has_input a 2 && not (by_superior y)) ⇒ fails x a 0o22) ∷ [])
    (finishes x cs (out a.outputs.items (value_of_other s y x.other)))
    (λ t. ends_may m j x a 0o5, (λ t. ends_may m j x a 0o22, tt))
    (λ t. finish_may m j x cs _ (set_may m j s y (input a 2) (has_input a 2) write leave t.0 t.1.0))

-- a channel of the caller
leave_of : (m : Machine) (j : ℕ) (q : Whole) (n s at : ℕ) (write : Bool) → Forest m → m.jobs j ≡ Some q
    → channel_at q.channels n ≡ On s write at → write ≡ true → MayWrite m j s
leave_of m j q n s at write d is on w = record {
  channel = n;
  position = at;
  is = own_channel m j q n (On s true at) is (on ∙ ap (λ b. On s b at) w) (λ e. cc);
  up = on_inferior m j q n s at write d is on;
}

uclosed_may : (m : Machine) (j s channel at : ℕ) (write : Bool) → Forest m → channel_in (m.jobs j) channel ≡ On s write at → superiors m s ≡ Some j
    → Outer m j (effects (changes.Remove s ∷ []) j m)
unfolding effect after_removal
uclosed_may m j s channel at write d on up =
    record {
      left = after_removal (superiors m) s m;
      removes = by_uclose channel s at write on up;
      others = left_alone m (after_removal (superiors m) s m) j refl refl refl refl
          (inl (ap (λ b. is_some (job_after_removal (is_gone (superiors m) s) b (m.jobs j))) (forest_below m s j d up) ∙ mapped_some _ (m.jobs j)));
    }

module _ (m : Machine) (j : ℕ) (q : Whole) (t : Option ℕ) (a : Ask) (d : Forest m) (is : m.jobs j ≡ Some q) where
  abbrev x : View
  x = view m j q t

  usrvar_may : Permitted m j (usrvar x a)
  unfolding usrvar view
  usrvar_may = go (is_oneself (input a 0)) (channel_at q.channels (input a 0)) refl
    where
      on_channel : (c : Chan) → channel_at q.channels (input a 0) ≡ c → Permitted m j (usrvar_of x a (party_on c))
      on_channel Shut on = ends_may m j x a 0o4
      on_channel (On s write at) on = other_variable_may m j s x a write (variable_named (input a 1)) (leave_of m j q (input a 0) s at write d is on)
      on_channel _ on = ends_may m j x a 0o5

      go : (b : Bool) (c : Chan) → channel_at q.channels (input a 0) ≡ c → Permitted m j (usrvar_of x a (if b then Oneself else party_on c))
      go true c on = own_variable_may m j x a (variable_named (input a 1))
      go false c on = on_channel c on

  logout_may : Permitted m j (logout x)
  unfolding acted effect view
  logout_may = λ b ks. told_may m j q.superior (ap superior_in is)

  -- OPEN of an inferior
  there_named : (u y : ℕ) (o : Option Whole) → has_names u y (option_map outline o) ≡ true → is_some o ≡ true
  there_named u y (Some p) h = refl
  there_named u y None h = cc

  unnamed : (u y : ℕ) → any_named x u y ≡ false → NoJobNamed m u y
  unfolding view
  unnamed u y none = λ k. elim (cases_Bool (has_names u y (option_map outline (m.jobs k)))) [
    | inl has ↦ absurd (
        let any = any_below (λ i. has_names u y (x.outlines i)) k slots (job_few m d k (there_named u y (m.jobs k) has)) has in
        let no : false ≡ true = sym none ∙ any in
        cc
        )
    | inr free ↦ free
  ]

  least_outlined : least_free (limit m) x.outlines ≡ least_free (limit m) m.jobs
  unfolding view
  least_outlined = least_alike (limit m) x.outlines m.jobs (λ k. mapped_some outline (m.jobs k))

  made_may : (s u y : ℕ) → least_free (limit m) m.jobs ≡ Some s → NoJobNamed m u y → Outer m j (effect (changes.Make s u y) j m)
  unfolding effect
  made_may s u y least free =
      let none = least_empty (limit m) m.jobs s least in
      let apart : s ≢ j = λ at. let no : None ≡ Some q = sym none ∙ ap m.jobs at ∙ is in cc in
      stays_all m j _ (record {
        fate = inl (rw (ne_eqb j s (λ at. apart (sym at))) refl);
        jobs = one_changes s apart refl (job_made u y least free (rw (eq-eqb s s refl) refl)) (λ k ne other. rw (ne_eqb k s other) refl);
        consoles = λ c. bytes_same refl;
        holders = λ c. holder_same refl;
        files = files_same refl;
        symbols = λ k. elim (cases_eq k s) [
          | inl at ↦ symbols_none (ap m.jobs at ∙ none) (rw (eq-eqb k s at) refl) (rw (eq-eqb k s at) refl)
          | inr other ↦ symbols_same (rw (ne_eqb k s other) refl)
        ];
        links = links_same (λ l. refl);
        clock = refl;
        version = refl;
      })

  makes_may : (n u y : ℕ) (o : Option ℕ) → NoJobNamed m u y → least_free x.limit x.outlines ≡ o → Permitted m j (makes_job x a n u y o)
  unfolding effect view
  makes_may n u y (Some s) free e =
      finish_may m j x (changes.Make s u y ∷ changes.Open n (opened.Usr s true) ∷ []) []
      (then_own m (effect (changes.Make s u y) j m) j _ (λ q. refl) (made_may s u y (sym least_outlined ∙ e) free))
  makes_may n u y None free e = ends_may m j x a 0o14

  opens_may : (n u y : ℕ) (write : Bool) (o : Option ℕ) → Permitted m j (opens_job x a n u y write o)
  opens_may n u y write (Some s) = finish_may m j x (changes.Open n (opened.Usr s write) ∷ []) [] (opened_may m j n (opened.Usr s write))
  opens_may n u y write None =
      first_holds (Permitted m j) (any_named x u y ⇒ fails x a 0o13 ∷ not write ⇒ fails x a 0o12 ∷ []) (makes_job x a n u y (least_free x.limit x.outlines))
      (λ e. ends_may m j x a 0o13, (λ e. ends_may m j x a 0o12, tt)) (λ e. makes_may n u y (least_free x.limit x.outlines) (unnamed u y e.0) refl)

  opens_usr_may : Permitted m j (opens_usr x a)
  unfolding opens_usr
  opens_usr_may =
      let control = unwrap_or a.control 0 in
      let named = inferior_named x (input a 2) (input a 3) in
      first_holds (Permitted m j) (usr_tests x a (input a 0) control) (opens_job x a (input a 0) (input a 2) (input a 3) (control == 1) named)
      (λ e. ends_may m j x a 0o4, (λ e. ends_may m j x a 0o22, tt)) (λ e. opens_may (input a 0) (input a 2) (input a 3) (control == 1) named)

  -- TTYLND
  holds_may : (c s : ℕ) → HolderMay m m (effect (changes.Hold c s) j m) j c → Outer m j (effects (changes.Hold c s ∷ []) j m)
  unfolding effect
  holds_may c s h = stays_all m j _ (record {
    fate = inl refl;
    jobs = others_same (λ k ne. refl);
    consoles = λ i. bytes_same refl;
    holders = λ i. elim (cases_eq i c) [
      | inl at ↦ subst (HolderMay m m (record m { holders = changed m.holders c (Some s) }) j) (sym at) h
      | inr other ↦ holder_same (rw (ne_eqb i c other) refl)
    ];
    files = files_same refl;
    symbols = λ k. symbols_same refl;
    links = links_same (λ l. refl);
    clock = refl;
    version = refl;
  })

  held_here : (c s : ℕ) → (effect (changes.Hold c s) j m).holders c ≡ Some s
  unfolding effect
  held_here c s = rw (eq-eqb c c refl) refl

  own_console : has_console x ≡ true → console_in (m.jobs j) ≡ Some (view_console x)
  unfolding view
  own_console h = ap console_in is ∙ console_some q.job.console h

  lands_may : (may : Bool) (number s : ℕ) → (has_console x ≡ true → may ≡ true
      → HolderMay m m (effect (changes.Hold (view_console x) s) j m) j (view_console x)) → Permitted m j (lands x a may number s)
  lands_may may number s h =
      first_holds (Permitted m j) (not (has_console x) ⇒ fails x a 0o5 ∷ not may ⇒ fails x a number ∷ [])
      (finishes x (changes.Hold (view_console x) s ∷ []) [])
      (λ e. ends_may m j x a 0o5, (λ e. ends_may m j x a number, tt))
      (λ e. finish_may m j x (changes.Hold (view_console x) s ∷ []) []
      (holds_may (view_console x) s (h (not-false (has_console x) e.0) (not-false may e.1.0))))

  takes : (c : ℕ) (o : Option ℕ) → m.holders c ≡ o → can_take x o ≡ true → CanTake m j c
  unfolding view
  takes c None held h = from_nobody held
  takes c (Some i) held h = go (i == j) refl
    where
      outlined : (i : ℕ) (o : Option Whole) → m.jobs i ≡ o → is_superior j (option_map outline o) ≡ true → superiors m i ≡ Some j
      outlined i o at up = ap superior_in at ∙ superior_outlined j o up

      go : (b : Bool) → (i == j) ≡ b → CanTake m j c
      go true e = from_itself (held ∙ ap Some (eqb-true i j e))
      go false e = from_inferior i held (outlined i (m.jobs i) refl (sym (ap (λ b. b || is_superior j (option_map outline (m.jobs i))) e) ∙ h))

  holder_is : (c : ℕ) (o : Option ℕ) → m.holders c ≡ o → is_holder x o ≡ true → m.holders c ≡ Some j
  unfolding view
  holder_is c (Some i) held h = held ∙ ap Some (eqb-true i j h)
  holder_is c None held h = cc

  ttylnd_may : Permitted m j (ttylnd x a)
  unfolding ttylnd view
  ttylnd_may = go (is_oneself (input a 0)) (channel_at q.channels (input a 0)) refl
    where
      c : ℕ
      c = view_console x

      on_channel : (k : Chan) → channel_at q.channels (input a 0) ≡ k → Permitted m j (ttylnd_of x a (party_on k))
      on_channel Shut on = ends_may m j x a 0o4
      on_channel (On s write at) on =
          lands_may (is_holder x (x.holders c)) 0o5 s
          (λ has may. console_given s refl (own_console has) (holder_is c (m.holders c) refl may)
          (on_inferior m j q (input a 0) s at write d is on) (held_here c s))
      on_channel _ on = ends_may m j x a 0o5

      go : (b : Bool) (k : Chan) → channel_at q.channels (input a 0) ≡ k → Permitted m j (ttylnd_of x a (if b then Oneself else party_on k))
      go true k on =
          lands_may (can_take x (x.holders c)) 0o13 x.slot
          (λ has may. console_taken refl (own_console has) (takes c (m.holders c) refl may) (held_here c x.slot))
      go false k on = on_channel k on

  -- UCLOSE
  uclose_may : Permitted m j (uclose x a)
  unfolding uclose view
  uclose_may = go (channel_at q.channels (input a 0)) refl
    where
      goes_may : (s : ℕ) (write : Bool) (at : ℕ) → channel_at q.channels (input a 0) ≡ On s write at → Outer m j (effects (changes.Remove s ∷ []) j m)
      goes_may s write at on = uclosed_may m j s (input a 0) at write d (own_channel m j q (input a 0) (On s write at) is on (λ e. cc))
          (on_inferior m j q (input a 0) s at write d is on)

      go : (c : Chan) → channel_at q.channels (input a 0) ≡ c → Permitted m j (uclose_on x a c)
      go (On s write at) on = finish_may m j x (changes.Remove s ∷ []) [] (goes_may s write at on)
      go Shut on = ends_may m j x a 0o4
      go _ on = ends_may m j x a 0o5

  -- every call
  ways_may : Ways (Permitted m j) (Reached t) x a
  ways_may = record {
    failing = λ k. ends_may m j x a k;
    faulting = λ f. faults_may m j x f;
    stuck = stuck_may m j x;
    opening = λ h f b. finish_may m j x (changes.Open (input a 0) (if b then opened.TtyOut else opened.TtyIn) ∷ []) []
        (opened_may m j (input a 0) (if b then opened.TtyOut else opened.TtyIn));
    arming = λ n h. finish_may m j x (changes.Arm (alarm_of x.clock n) ∷ []) [] (armed_may m j (alarm_of x.clock n));
    ending = λ cs ss h. finish_may m j x cs ss (all_may m j q t cs d is h);
    moved = λ cs ss h. moved_may m j x cs ss (all_may m j q t cs d is h);
    going = λ cs o vs h. going_may m j cs o vs (all_may m j q t cs d is h);
  }

  apart_may : Apart (Permitted m j) x a
  apart_may = record {
    dismiss = dismiss_may m j x a;
    usrvar = usrvar_may;
    logout = logout_may;
    opens_usr = opens_usr_may;
    ttylnd = ttylnd_may;
    uclose = uclose_may;
  }

  decided_may : (a.fail ≡ 0 → (c : CallName) (i s at : ℕ) (write : Bool) → call_named a.name ≡ Some c → (call_row c).reaches ≡ Some i
      → channel_at q.channels (input a i) ≡ On s write at → t ≡ Some s) → Permitted m j (decided x a)
  unfolding decided view
  decided_may see =
      let o = call_named a.name in
      by_test (Permitted m j) (a.fail == 0) (decided_by x a o) (fails x a a.fail)
      (λ e. call_ways (Permitted m j) (Reached t) x a o ways_may (see (eqb-true a.fail 0 e)) (waits_may m j) apart_may) (λ e. ends_may m j x a a.fail)

decision_may : (m : Machine) (j : ℕ) (q : Whole) (a : Ask) → Forest m → m.jobs j ≡ Some q → Permitted m j (decision m j q a)
unfolding decision
decision_may m j q a d is = decided_may m j q (target q a) a d is (λ z c i s at write e r on. target_on q a c i s at write z e r on)

-- a delivery, which may stop the job
-- only a fatal bit stops it
abbrev StopsOnly : Delivered → Type 0
StopsOnly e = e.stops ≡ true → e.job.stopped ≡ true

stores_stop : (c : Core) (k : Job) (e : Entry) (ss : List Store) (o : Option Fault) → StopsOnly (by_stores c k e ss o)
stores_stop c k e ss None h = cc
stores_stop c k e ss (Some f) h = cc

pointer_stop : (c : Core) (k : Job) (e : Entry) (p : ℕ) (o : Option ℕ) → StopsOnly (by_pointer c k e p o)
pointer_stop c k e p (Some s) h = stores_stop c k e (pushed k e p s) (first_fault c (pushed k e p s)) h
pointer_stop c k e p None h = cc

entry_stop : (c : Core) (k : Job) (o : Option ℕ) (e : Option Entry) → StopsOnly (by_entry c k o e)
entry_stop c k (Some v) (Some e) h = pointer_stop c k e (right_of v) (word_at c (right_of v)) h
entry_stop c k (Some v) None h = cc
entry_stop c k None e h = cc

length_stop : (c : Core) (k : Job) (t : ℕ) (o : Option ℕ) → StopsOnly (by_length c k t o)
length_stop c k t (Some n) h = entry_stop c k (word_at c t) (first_entry c k n (t + 1)) h
length_stop c k t None h = cc

table_stop : (c : Core) (k : Job) (o : Option ℕ) → StopsOnly (by_table c k o)
table_stop c k (Some w) h = length_stop c k (right_of w) (entries_of w) h
table_stop c k None h = cc

delivery_stops : (c : Core) (k : Job) → StopsOnly (delivered c k)
unfolding delivered through_table
delivery_stops c k = elim (cases_Bool (unguarded k == 0)) [ inl t ↦ rw t (table_stop c k (word_at c 0o42)) | inr t ↦ rw t (λ e. refl) ]

informs_may : (m : Machine) (j : ℕ) (f : Whole → Whole) (b : Bool) (o : Option ℕ) → Forest m → is_some (m.jobs j) ≡ true → superiors m j ≡ o
    → (b ≡ true → (q : Whole) → (f q).job.stopped ≡ true)
    → Outer m j (in_job (effects (informs b o) j m) j f)
unfolding effect
informs_may m j f false o d there up over = own m j f
informs_may m j f true None d there up over = own m j f
informs_may m j f true (Some s) d there up over =
    let q = superior_job m j s d up in
    let apart = superior_apart m j s d up in
    jobs_alone m j (on_slot (on_slot m.jobs s with_inf) j f) (some_then (on_slot m.jobs s with_inf) j j f ∙ some_then m.jobs s j with_inf)
    (one_changes s apart refl
    (superior_informed q.0 up is_over q.1
    (slot_other (on_slot m.jobs s with_inf) j s f apart ∙ here m.jobs s s with_inf refl ∙ ap (option_map with_inf) q.1))
    (λ k ne other. slot_other (on_slot m.jobs s with_inf) j k f ne ∙ slot_other m.jobs s k with_inf other))
  where
    mapped : (o : Option Whole) → is_some o ≡ true → IsStopped (option_map f o)
    mapped (Some q) h = over refl q
    mapped None h = cc

    is_over : IsStopped (on_slot (on_slot m.jobs s with_inf) j f j)
    is_over = subst IsStopped (sym (here (on_slot m.jobs s with_inf) j j f refl))
        (mapped (on_slot m.jobs s with_inf j) (some_then m.jobs s j with_inf ∙ there))

each_may : (m : Machine) (j : ℕ) (q : Whole) → Forest m → m.jobs j ≡ Some q → EachCase (λ (t : Transition). Outer m j t.machine) m j q
each_may m j q d is = record {
  delivers = (let e = delivered q.core q.job in informs_may m j _ e.stops q.superior d (ap (λ (o : Option Whole). is_some o) is)
      (ap superior_in is) (λ s q. delivery_stops _ _ s));
  changes = λ c k e. own m j _;
  faults = λ f. own m j _;
  calls = λ a. decision_may m j q a d is a (reach m j q a);
}

-- a step does to others what it may
pub step_others : (m n : Machine) (j : ℕ) → Forest m → step m j ≡ Some n → Outer m j n
step_others m n j d e = step_has (λ (x : Machine). Outer m j x) m n j (λ q is. each_may m j q d is) e
