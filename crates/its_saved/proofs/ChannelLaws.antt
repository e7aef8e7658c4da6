-- The lines of channels lead to the channels, and to the ends of links that are open.
use Rattle.std.specs.Prelude.{if◌then◌else◌, ◌≡◌, ◌≢◌, ◌≤◌, ◌<◌, ◌==◌, ◌||◌, ◌&&◌, ℕ, ◌+◌, Bool, true, false, not, Option, Some, None, IfSome, [], ◌∷◌, ◌++◌, option_map, nat_lt, is_some, refl}
use Rattle.std.proofs.Common.{sym, ◌∙◌, ap, subst, arith, inl, inr}
use Rattle.std.proofs.lemmas.Bool.{cases_Bool}
use Rattle.std.proofs.lemmas.Bool.Decides.{nat_tests}
use Rattle.its_records.specs.Links.{most_links, link_end, with_end, is_open, is_unopened, is_alive, new_link, is_link_named}
use Rattle.its_records.specs.declared.link.End.{End}
use Rattle.its_records.specs.declared.link.End.TheVariants.{Unopened, Opened, Closed}
use Rattle.its_records.specs.declared.link.Link.{Link}
use Rattle.its_records.proofs.ClimbLaws.{or_none}
use Rattle.its_plain.specs.Machine.{Names, File, Chan, Shut, TtyIn, TtyOut, Reads, Writes, On, Linked, Pipe, Whole, Machine, changed, with_job}
use Rattle.its_plain.specs.Machine.Change.{superiors, superior_in, console_in, channel_in, link_or_new, with_end_opened, if_alive, standing_if, effect}
use Rattle.its_plain.specs.Machine.Own.{on_channel}
use Rattle.its_plain.specs.Call.Basic.{is_shut}
use Rattle.its_stepped.specs.Forest.{end_at}
use Rattle.its_plain.specs.Call.File.{has_file}
use Rattle.its_saved.specs.StateLine.{StateLine}
use Rattle.its_saved.specs.Building.{build, only_if, channel_opened, can_open, on_tty, with_tty, with_disk, is_slot, with_usr, can_join, with_link}
use Rattle.its_saved.specs.Saving.{end_names, channel_lines}
use Rattle.its_saved.specs.StateLine as state
use Rattle.its_saved.proofs.ChangedLaws.{same_changed, in_job_there}
use Rattle.its_saved.proofs.LeadLaws.{Leads, leads_none, leads_line, leads_to, passes}

-- which channels are open so far
abbrev pub Done : Type 0
Done = ℕ → ℕ → Bool

abbrev pub added : Done → ℕ → ℕ → Done
added d k n s c = d s c || ((s == k) && (c == n))

abbrev pub chan_if : Bool → Chan → Chan
chan_if true c = c
chan_if false c = Shut

abbrev pub chans_done : Done → ℕ → Whole → Whole
chans_done d k q = record q { channels = λ c. chan_if (d k c) (q.channels c) }

abbrev pub opened_if : Bool → ℕ → ℕ → End
opened_if true s c = Opened s c
opened_if false s c = Unopened

abbrev pub end_done : Done → End → End
end_done d (Opened s c) = opened_if (d s c) s c
end_done d Unopened = Unopened
end_done d Closed = Unopened

abbrev pub link_done : Done → Link → Link
link_done d k = record k { reader = end_done d k.reader; writer = end_done d k.writer }

abbrev pub pipe_done : Done → Option Pipe → Option Pipe
pipe_done d (Some p) = if_alive (record { link = link_done d p.link; words = [] })
pipe_done d None = None

-- the machine with these channels
abbrev pub opened : Machine → Machine → Done → Machine
opened m n d = record n { jobs = λ j. option_map (chans_done d j) (m.jobs j); links = λ l. pipe_done d (m.links l) }

-- what is there fits a channel: its console, its file, its inferior, or its end of a link
abbrev pub ChanFits : Machine → ℕ → ℕ → Chan → Type 0
ChanFits m k n Shut = Unit {0}
ChanFits m k n TtyIn = IfSome (m.jobs k) (λ q. is_some q.job.console ≡ true)
ChanFits m k n TtyOut = IfSome (m.jobs k) (λ q. is_some q.job.console ≡ true)
ChanFits m k n (Reads names at) = has_file names m.files ≡ true
ChanFits m k n (Writes f) = Unit {0}
ChanFits m k n (On s write at) = superiors m s ≡ Some k
ChanFits m k n (Linked l write) = (l < most_links) × (end_at write (m.links l) ≡ Opened k n)

-- it fits each channel, and an end of a link is open at channels alone that are on it
pub record Fits (m : Machine) : Type 0 where
  pub channels : (k n : ℕ) → ChanFits m k n (channel_in (m.jobs k) n)
  pub ends : (l k n : ℕ) (write : Bool) → end_at write (m.links l) ≡ Opened k n → channel_in (m.jobs k) n ≡ Linked l write

-- what is done of another channel
added_other : (d : Done) (k n s c : ℕ) → ((s == k) && (c == n)) ≡ false → added d k n s c ≡ d s c
added_other d k n s c e = ap (λ b. d s c || b) e ∙ by (d s c)
  where
    by : (b : Bool) → (b || false) ≡ b
    by true = refl
    by false = refl

added_here : (d : Done) (k n : ℕ) → added d k n k n ≡ true
added_here d k n = let t : (k == k) ≡ true = grind (arith, nat_tests) in let u : (n == n) ≡ true = grind (arith, nat_tests) in rw (t, u) (by (d k n))
  where
    by : (b : Bool) → (b || (true && true)) ≡ true
    by true = refl
    by false = refl

-- the ends that are not at this channel
end_same : (d : Done) (k n : ℕ) (e : End) → e ≢ Opened k n → end_done (added d k n) e ≡ end_done d e
end_same d k n Unopened ne = refl
end_same d k n Closed ne = refl
end_same d k n (Opened s c) ne = by ((s == k) && (c == n)) refl
  where
    by : (b : Bool) → ((s == k) && (c == n)) ≡ b → opened_if (added d k n s c) s c ≡ opened_if (d s c) s c
    by false e = ap (λ b. opened_if b s c) (added_other d k n s c e)
    by true e = absurd (ne (two (s == k) (c == n) refl refl e))
      where
        two : (a b : Bool) → (s == k) ≡ a → (c == n) ≡ b → (a && b) ≡ true → Opened s c ≡ Opened k n
        two true true x y h = (let f : s ≡ k = grind (arith, nat_tests) in let g : c ≡ n = grind (arith, nat_tests) in rw (f, g) refl)
        two true false x y h = cc
        two false b x y h = cc

pipe_same : (d : Done) (k n : ℕ) (o : Option Pipe) → ((write : Bool) → end_at write o ≢ Opened k n) → pipe_done (added d k n) o ≡ pipe_done d o
pipe_same d k n None ne = refl
pipe_same d k n (Some p) ne = ap if_alive (λ t. record {
  link = record p.link
      { reader = end_same d k n p.link.reader (ne false) t; writer = end_same d k n p.link.writer (ne true) t };
  words = [];
})

-- a channel more of one job
jobs_added : (m : Machine) (d : Done) (k n : ℕ) (q : Whole) → m.jobs k ≡ Some q → (j : ℕ)
    → changed (λ i. option_map (chans_done d i) (m.jobs i)) k
    (Some (record (chans_done d k q) { channels = changed (chans_done d k q).channels n (q.channels n) })) j ≡ option_map
    (chans_done (added d k n) j) (m.jobs j)
jobs_added m d k n q here j = elim (cases_Bool (j == k)) [
  | inl t ↦ (let e : j ≡ k = grind (arith, nat_tests) in rw t
      (sym (ap (λ i. option_map (chans_done (added d k n) i) (m.jobs i)) e ∙ ap (option_map (chans_done (added d k n) k)) here
      ∙ (λ s. Some (record q { channels = λ c. sym (one c) s })))))
  | inr t ↦ rw t (by (m.jobs j) (λ c. added_other d k n j c (ap (λ b. b && (c == n)) t)))
]
  where
    one : (c : ℕ) → changed (chans_done d k q).channels n (q.channels n) c ≡ chan_if (added d k n k c) (q.channels c)
    one c = elim (cases_Bool (c == n)) [
      | inl t ↦
          let e : c ≡ n = grind (arith, nat_tests) in
          ap (λ b. if b then q.channels n else (chans_done d k q).channels c) t ∙ ap q.channels (sym e)
          ∙ ap (λ b. chan_if b (q.channels c)) (sym (ap (λ x. added d k n k x) e ∙ added_here d k n))
      | inr t ↦
          let u : (k == k) ≡ true = grind (arith, nat_tests) in
          ap (λ b. if b then q.channels n else (chans_done d k q).channels c) t
          ∙ ap (λ b. chan_if b (q.channels c)) (sym (added_other d k n k c (ap (λ b. b && (c == n)) u ∙ t)))
    ]

    by : (o : Option Whole) → ((c : ℕ) → added d k n j c ≡ d j c) → option_map (chans_done d j) o ≡ option_map (chans_done (added d k n) j) o
    by None h = refl
    by (Some r) h = λ s. Some (record r { channels = λ c. chan_if (sym (h c) s) (r.channels c) })

-- an end of a link of which some channels are open
link_end_done : (d : Done) (write : Bool) (k : Link) → link_end write (link_done d k) ≡ end_done d (link_end write k)
link_end_done d true k = refl
link_end_done d false k = refl

not_open : (d : Done) (e : End) → is_open (end_done d e) ≡ false → end_done d e ≡ Unopened
not_open d Unopened h = refl
not_open d Closed h = refl
not_open d (Opened s c) h = by (d s c) h
  where
    by : (b : Bool) → is_open (opened_if b s c) ≡ false → opened_if b s c ≡ Unopened
    by true h = cc
    by false h = refl

-- the end that a channel opens
module _ (d : Done) (k c : ℕ) (shut : d k c ≡ false) where
  end_before : end_done d (Opened k c) ≡ Unopened
  end_before = ap (λ b. opened_if b k c) shut

  end_after : end_done (added d k c) (Opened k c) ≡ Opened k c
  end_after = ap (λ b. opened_if b k c) (added_here d k c)

  may_join : (write : Bool) (p : Pipe) → link_end write p.link ≡ Opened k c → can_join p.link.x p.link.y write (pipe_done d (Some p)) ≡ true
  may_join write p e = by (is_alive (link_done d p.link))
    where
      all : (is_link_named p.link.x p.link.y (link_done d p.link) && is_unopened (link_end write (link_done d p.link))) ≡ true
      all =
          let t : (p.link.x == p.link.x) ≡ true = grind (arith, nat_tests) in
          let u : (p.link.y == p.link.y) ≡ true = grind (arith, nat_tests) in
          let v : is_unopened (link_end write (link_done d p.link)) ≡ true = ap is_unopened (link_end_done d write p.link ∙ ap (end_done d) e ∙ end_before) in
          rw (t, u, v) refl

      by : (b : Bool) → can_join p.link.x p.link.y write (standing_if b (record { link = link_done d p.link; words = [] })) ≡ true
      by true = all
      by false = refl

  -- the link with the end opened
  ends_next : (write : Bool) (k' : Link) → link_end write k' ≡ Opened k c → link_end (not write) k' ≢ Opened k c
      → with_end write (Opened k c) (link_done d k') ≡ link_done (added d k c) k'
  ends_next true k' e ne = λ t. record k' { reader = sym (end_same d k c k'.reader ne) t; writer = sym (ap (end_done (added d k c)) e ∙ end_after) t }
  ends_next false k' e ne = λ t. record k' { reader = sym (ap (end_done (added d k c)) e ∙ end_after) t; writer = sym (end_same d k c k'.writer ne) t }

  ends_first : (write : Bool) (k' : Link) → link_end write k' ≡ Opened k c → link_end (not write) k' ≢ Opened k c
      → is_alive (link_done d k') ≡ false → with_end write (Opened k c) (new_link k'.x k'.y) ≡ link_done (added d k c) k'
  ends_first write k' e ne dead = ap (with_end write (Opened k c)) new ∙ ends_next write k' e ne
    where
      new : new_link k'.x k'.y ≡ link_done d k'
      new = let z = or_none (is_open (end_done d k'.reader)) (is_open (end_done d k'.writer)) dead in λ t. record k'
          { reader = sym (not_open d k'.reader z.0) t; writer = sym (not_open d k'.writer z.1) t }

  alive_after : (write : Bool) (k' : Link) → link_end write k' ≡ Opened k c → is_alive (link_done (added d k c) k') ≡ true
  alive_after true k' e = ap (λ x. is_open (end_done (added d k c) k'.reader) || is_open x) (ap (end_done (added d k c)) e ∙ end_after)
      ∙ or_true (is_open (end_done (added d k c) k'.reader))
    where
      or_true : (b : Bool) → (b || true) ≡ true
      or_true true = refl
      or_true false = refl
  alive_after false k' e = ap (λ x. is_open x || is_open (end_done (added d k c) k'.writer)) (ap (end_done (added d k c)) e ∙ end_after)

  pipe_next : (write : Bool) (p : Pipe) → link_end write p.link ≡ Opened k c → link_end (not write) p.link ≢ Opened k c
      → Some (with_end_opened write k c (link_or_new p.link.x p.link.y (pipe_done d (Some p)))) ≡ pipe_done (added d k c) (Some p)
  pipe_next write p e ne = by (is_alive (link_done d p.link)) refl
      ∙ sym (ap (λ b. standing_if b (record { link = link_done (added d k c) p.link; words = [] })) (alive_after write p.link e))
    where
      by : (b : Bool) → is_alive (link_done d p.link) ≡ b
          → Some (with_end_opened write k c (link_or_new p.link.x p.link.y
          (standing_if b (record { link = link_done d p.link; words = [] })))) ≡ Some (record { link = link_done (added d k c) p.link; words = [] })
      by true a = ap (λ x. Some (record { link = x; words = [] })) (ends_next write p.link e ne)
      by false a = ap (λ x. Some (record { link = x; words = [] })) (ends_first write p.link e ne a)

abbrev link_number : Chan → ℕ
link_number (Linked i w) = i
link_number _ = 0

same_link : (i l : ℕ) (w v : Bool) → Linked i w ≡ Linked l v → i ≡ l
same_link i l w v h = ap link_number h

-- the machine with a channel of a job that is there, and with a link
abbrev chan_set : Machine → ℕ → Whole → ℕ → Chan → Machine
chan_set o k r c x = with_job o k (record r { channels = changed r.channels c x })

abbrev link_joined : Machine → ℕ → ℕ → ℕ → Bool → ℕ → ℕ → Whole → Machine
link_joined o k c l write x y r =
    record (chan_set o k r c (Linked l write)) { links = changed o.links l (Some (with_end_opened write k c (link_or_new x y (o.links l)))) }

-- what the line of a channel does, if its test succeeds
opening : (o : Machine) (k c : ℕ) (x : Chan) (r : Whole) → o.jobs k ≡ Some r → channel_opened o k c x ≡ chan_set o k r c x
opening o k c x r job = in_job_there o k (on_channel c (λ i. x)) r job

joining : (o : Machine) (k c l : ℕ) (write : Bool) (x y : ℕ) (r : Whole) → o.jobs k ≡ Some r
    → (can_open o k c && nat_lt l most_links && can_join x y write (o.links l)) ≡ true
    → build o (state.Join k c l write x y) ≡ Some (link_joined o k c l write x y r)
unfolding build with_link effect
joining o k c l write x y r job all =
    passes (can_open o k c && nat_lt l most_links && can_join x y write (o.links l)) _ all
    ∙ ap (λ (i : Machine). Some (record i { links = changed o.links l (Some (with_end_opened write k c (link_or_new x y (o.links l)))) }))
    (opening o k c (Linked l write) r job)

-- a channel that is on no link is opened
module _ (m n : Machine) (fits : Fits m) (d : Done) (k c : ℕ) (q : Whole) (here : m.jobs k ≡ Some q) (shut : d k c ≡ false) where
  pub job_so_far : (opened m n d).jobs k ≡ Some (chans_done d k q)
  job_so_far = ap (option_map (chans_done d k)) here

  pub is_not_open : is_shut ((chans_done d k q).channels c) ≡ true
  is_not_open = ap (λ b. is_shut (chan_if b (q.channels c))) shut

  -- no link has an end there, if the channel is on none
  links_stay : ((l : ℕ) (write : Bool) → q.channels c ≢ Linked l write) → (l : ℕ) → pipe_done (added d k c) (m.links l) ≡ pipe_done d (m.links l)
  links_stay off l = pipe_same d k c (m.links l) (λ write e. off l write (sym (ap (λ o. channel_in o c) here) ∙ fits.ends l k c write e))

  -- a machine with this channel too
  pub with_channel : ((l : ℕ) (write : Bool) → q.channels c ≢ Linked l write)
      → with_job (opened m n d) k (record (chans_done d k q) { channels = changed (chans_done d k q).channels c (q.channels c) }) ≡ opened m n (added d k c)
  with_channel off = λ t. record n { jobs = λ j. jobs_added m d k c q here j t; links = λ l. sym (links_stay off l) t }

  nothing_opened : q.channels c ≡ Shut → Leads (opened m n d) [] (opened m n (added d k c))
  nothing_opened e =
      leads_to (opened m n d) (opened m n d) _ _ (leads_none (opened m n d))
      (sym (λ t. record (opened m n d) {
        jobs = λ j. same_changed (opened m n d).jobs k
            (Some (record (chans_done d k q) { channels = changed (chans_done d k q).channels c (q.channels c) })) (same ∙ sym job_so_far) j t;
      })
      ∙ with_channel (λ l write f. (let g : Shut ≡ Linked l write = sym e ∙ f in cc)))
    where
      same : Some (record (chans_done d k q) { channels = changed (chans_done d k q).channels c (q.channels c) }) ≡ Some (chans_done d k q)
      same = λ t. Some (record (chans_done d k q) {
        channels = λ i. same_changed (chans_done d k q).channels c (q.channels c)
            (e ∙ sym (ap (λ b. chan_if b (q.channels c)) shut)) i t;
      })

  -- it may be opened
  pub may_open : c < 16 → can_open (opened m n d) k c ≡ true
  may_open low = let b : nat_lt c 16 ≡ true = grind (arith, nat_tests) in rw (here, b) is_not_open

  line_opens : (l : StateLine) (x : Chan) (test : Bool) → q.channels c ≡ x
      → build (opened m n d) l ≡ only_if (can_open (opened m n d) k c && test) (channel_opened (opened m n d) k c x)
      → c < 16 → test ≡ true → ((i : ℕ) (write : Bool) → x ≢ Linked i write) → Leads (opened m n d) (l ∷ []) (opened m n (added d k c))
  line_opens l x test e is low allowed off =
      let o = opened m n d in
      leads_line o _ l
      (is ∙ passes (can_open o k c && test) (channel_opened o k c x) (ap (λ b. b && test) (may_open low) ∙ allowed)
      ∙ ap Some (opening o k c x (chans_done d k q) job_so_far ∙ ap (chan_set o k (chans_done d k q) c) (sym e)
      ∙ with_channel (λ i write f. off i write (sym e ∙ f))))

  -- what is there allows it
  fits_here : (x : Chan) → q.channels c ≡ x → ChanFits m k c x
  fits_here x e = subst (ChanFits m k c) (ap (λ o. channel_in o c) here ∙ e) (fits.channels k c)

  console_there : IfSome (m.jobs k) (λ r. is_some r.job.console ≡ true) → is_some q.job.console ≡ true
  console_there h = subst (λ o. IfSome o (λ r. is_some r.job.console ≡ true)) here h

  superior_kept : (t : ℕ) (o : Option Whole) → superior_in (option_map (chans_done d t) o) ≡ superior_in o
  superior_kept t None = refl
  superior_kept t (Some r) = refl

  console_so_far : is_some q.job.console ≡ true → is_some (console_in ((opened m n d).jobs k)) ≡ true
  console_so_far h = ap (λ o. is_some (console_in o)) job_so_far ∙ h

  tty_opens : (w : Bool) → q.channels c ≡ on_tty w → c < 16 → is_some q.job.console ≡ true → ((l : ℕ) (write : Bool) → on_tty w ≢ Linked l write)
      → Leads (opened m n d) (state.Tty k c w ∷ []) (opened m n (added d k c))
  unfolding build with_tty
  tty_opens w e l has off =
      line_opens (state.Tty k c w) (on_tty w) (is_some (console_in ((opened m n d).jobs k))) e refl l (console_so_far has) off

  disk_opens : (names : Names) (at : ℕ) → q.channels c ≡ Reads names at → c < 16 → has_file names n.files ≡ true
      → ((l : ℕ) (write : Bool) → Reads names at ≢ Linked l write)
      → Leads (opened m n d) (state.Disk k c names at ∷ []) (opened m n (added d k c))
  unfolding build with_disk
  disk_opens names at e l has off = line_opens (state.Disk k c names at) (Reads names at) (has_file names n.files) e refl l has off

  usr_opens : (t : ℕ) (w : Bool) (at : ℕ) → q.channels c ≡ On t w at → c < 16 → is_slot k (superiors (opened m n d) t) ≡ true
      → ((l : ℕ) (write : Bool) → On t w at ≢ Linked l write)
      → Leads (opened m n d) (state.Usr k c t w at ∷ []) (opened m n (added d k c))
  unfolding build with_usr
  usr_opens t w at e l below off = line_opens (state.Usr k c t w at) (On t w at) (is_slot k (superiors (opened m n d) t)) e refl l below off

  pub simple_leads : (x : Chan) → q.channels c ≡ x → c < 16 → n.files ≡ m.files → ((f : File) → x ≢ Writes f) → ((l : ℕ) (write : Bool) → x ≢ Linked l write)
      → Leads (opened m n d) (channel_lines m k c x) (opened m n (added d k c))
  simple_leads Shut e l files draft off = nothing_opened e
  simple_leads TtyIn e l files draft off = tty_opens false e l (console_there (fits_here TtyIn e)) off
  simple_leads TtyOut e l files draft off = tty_opens true e l (console_there (fits_here TtyOut e)) off
  simple_leads (Reads names at) e l files draft off = disk_opens names at e l (ap (has_file names) files ∙ fits_here (Reads names at) e) off
  simple_leads (On t write at) e l files draft off =
      let h : (k == k) ≡ true = grind (arith, nat_tests) in
      usr_opens t write at e l (ap (is_slot k) (superior_kept t (m.jobs t) ∙ fits_here (On t write at) e) ∙ h) off
  simple_leads (Writes f) e l files draft off = absurd (draft f refl)
  simple_leads (Linked i write) e l files draft off = absurd (off i write refl)

  -- a channel on a link: its end is opened, and the link is made if it is not there
  pub link_leads : (l : ℕ) (write : Bool) → q.channels c ≡ Linked l write → c < 16
      → Leads (opened m n d) (channel_lines m k c (Linked l write)) (opened m n (added d k c))
  link_leads l write e low = by (m.links l) refl (fits_here (Linked l write) e)
    where
      by : (o : Option Pipe) → m.links l ≡ o → (l < most_links) × (end_at write (m.links l) ≡ Opened k c)
          → Leads (opened m n d) (channel_lines m k c (Linked l write)) (opened m n (added d k c))
      by None g f = (let z : Unopened ≡ Opened k c = sym (ap (end_at write) g) ∙ f.1 in cc)
      by (Some p) g f =
          let o = opened m n d in
          let r = chans_done d k q in
          let end : link_end write p.link ≡ Opened k c = sym (ap (end_at write) g) ∙ f.1 in
          let other : link_end (not write) p.link ≢ Opened k c =
          (λ h. twice write (sym e ∙ sym (ap (λ x. channel_in x c) here) ∙ fits.ends l k c (not write) (ap (end_at (not write)) g ∙ h))) in
          let low_end : nat_lt l most_links ≡ true = (let h = f.0 in grind (arith, nat_tests)) in
          let links : o.links l ≡ pipe_done d (Some p) = ap (pipe_done d) g in
          let names : can_join p.link.x p.link.y write (o.links l) ≡ true = ap (can_join p.link.x p.link.y write) links ∙ may_join d k c shut write p end in
          let next : link_joined o k c l write p.link.x p.link.y r ≡ opened m n (added d k c) =
          λ t. record n {
            jobs = λ j. (ap (λ y. changed o.jobs k (Some (record r { channels = changed r.channels c y })) j) (sym e)
                ∙ jobs_added m d k c q here j) t;
            links = λ i. link_next p g end other i t;
          } in
          leads_to _ (link_joined o k c l write p.link.x p.link.y r) _ _
          (leads_line o _ (state.Join k c l write (end_names (m.links l)).0 (end_names (m.links l)).1)
          (ap (λ z. build o (state.Join k c l write (end_names z).0 (end_names z).1)) g
          ∙ joining o k c l write p.link.x p.link.y r job_so_far
          (ap (λ b. b && nat_lt l most_links && can_join p.link.x p.link.y write (o.links l)) (may_open low)
          ∙ ap (λ b. b && can_join p.link.x p.link.y write (o.links l)) low_end ∙ names)))
          next
        where
          twice : (w : Bool) → Linked l w ≡ Linked l (not w) → ⊥
          twice true h = cc
          twice false h = cc

          link_next : (p : Pipe) → m.links l ≡ Some p → link_end write p.link ≡ Opened k c → link_end (not write) p.link ≢ Opened k c → (i : ℕ)
              → changed (opened m n d).links l (Some (with_end_opened write k c (link_or_new p.link.x p.link.y ((opened m n d).links l))))
              i ≡ pipe_done (added d k c) (m.links i)
          link_next p g end other i = elim (cases_Bool (i == l)) [
            | inl t ↦
                let h : i ≡ l = grind (arith, nat_tests) in
                ap (λ b. if b then Some (with_end_opened write k c (link_or_new p.link.x p.link.y ((opened m n d).links l))) else (opened m n d).links i) t
                ∙ ap (λ x. Some (with_end_opened write k c (link_or_new p.link.x p.link.y (pipe_done d x)))) g ∙ pipe_next d k c shut write p end other
                ∙ sym (ap (pipe_done (added d k c)) (ap m.links h ∙ g))
            | inr t ↦
                let ne : i ≢ l = (λ h. let y : (i == l) ≡ true = grind (arith, nat_tests) in cc) in
                ap (λ b. if b then Some (with_end_opened write k c (link_or_new p.link.x p.link.y ((opened m n d).links l))) else (opened m n d).links i) t
                ∙ sym (pipe_same d k c (m.links i) (λ w h. ne (same_link i l w write (sym (fits.ends i k c w h) ∙ ap (λ x. channel_in x c) here ∙ e))))
          ]
