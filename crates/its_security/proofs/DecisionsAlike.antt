-- On two machines that look alike to a job, and of which the table is the same at which its call
-- looks, the call decides the same.
use Rattle.std.specs.Prelude.{if◌then◌else◌, ◌==◌, ◌||◌, ◌&&◌, ◌≡◌, ◌++◌, ◌-◌, ℕ, Bool, true, false, not, Option, Some, None, List, [], ◌∷◌, is_some, length, nat_lt, option_map, slice_get, slice_index_or, unwrap_or, refl}
use Rattle.std.proofs.Common.{sym, ◌∙◌, ap, subst}
use Rattle.its_word.specs.Byte.{load_of}
use Rattle.its_word.specs.Core.{Core}
use Rattle.its_word.specs.Limits.{most_pages}
use Rattle.its_word.specs.Word.{right_of}
use Rattle.its_records.specs.Links.{most_links}
use Rattle.its_records.specs.Tree.{least_free}
use Rattle.its_records.specs.declared.calls.Ask.{Ask}
use Rattle.its_frame.specs.declared.change.Change.TheVariants as changes
use Rattle.its_frame.specs.declared.change.Opened.TheVariants as opened
use Rattle.its_frame.specs.declared.decision.Decision.{Decision}
use Rattle.its_frame.specs.declared.name.CallName.{CallName}
use Rattle.its_frame.specs.declared.name.CallName.TheVariants as calls
use Rattle.its_plain.specs.Call.Arguments.{input}
use Rattle.its_plain.specs.Call.Basic.{Party, Oneself, Nobody, Channel, party, channel_at, is_oneself, is_shut, is_superior, ioc, sleep, dismiss, usrvar, realt}
use Rattle.its_plain.specs.Call.Core.{page_changed, highest_operation, highest_page, makes, is_amiss, has_page, corblk_of, corblk}
use Rattle.its_plain.specs.Call.Device.{open_by, open_call, close_on, close_call, iot_on, iot_call, siot_on, siot_call}
use Rattle.its_plain.specs.Call.File.{disk_device, most_files, is_full, channels_by, channels_in, file_named, has_file, is_read, words_by, names_from, is_output, opens_as, opens_disk, closes_draft, iot_read, siot_reads, access_to, access_on, access, fillen_on, fillen, delete, rename}
use Rattle.its_plain.specs.Call.Link.{link_device, link_named, can_open, joins, makes_link, opens_end, link_tests, opens_link}
use Rattle.its_plain.specs.Call.Tty.{view_console, opens, is_holder, finish_on, finish, listen_on, listen, lands, ttylnd_of, ttylnd}
use Rattle.its_plain.specs.Call.Usr.{usr_device, inferior_named, any_named, makes_job, opens_job, usr_tests, opens_usr, other_core, usrmem, uclose}
use Rattle.its_plain.specs.Machine.Change.{channel_in, console_in}
use Rattle.its_plain.specs.Call.Decide.{call_named, inferior_on, reached_by, target_by, argument_of, target, decided_by, decided}
use Rattle.its_plain.specs.Machine.{Names, File, Pipe, Chan, Shut, TtyIn, TtyOut, Reads, Writes, On, Linked, Whole, Machine, mapped, no_bytes}
use Rattle.its_plain.specs.Operator.Files.{channels_of}
use Rattle.its_plain.specs.Machine.Own.{names_of}
use Rattle.its_plain.specs.Call.Tests.{◌⇒◌, first, finishes, fails, goes, out}
use Rattle.its_plain.specs.Call.Transfer.{store_tests, read_tests, word_of, iot_ends, next_pointer, siot_by}
use Rattle.its_plain.specs.Machine.View.{View, outline, job_at, view}
use Rattle.its_stepped.specs.Forest.{Forest}
use Rattle.its_security.specs.Alike.{SameThrough, Alike, SameNamed, SameLinked, SameHolder, SameDraft, SameClosed, SameOpened, TablesFor}
use Rattle.its_stepped.proofs.Duties.CallWays.{OnConsole}
use Rattle.its_security.proofs.WaysAlike.{console_is, console_seen, through_own}

-- a view of the own job, the one that is reached, and the clock alone
abbrev pub bare : View → View
bare v = record v { outlines = λ k. None; pages = 0; consoles = λ c. no_bytes; holders = λ c. None; files = []; limit = 0; links = λ k. None }

-- a view of a console too, or of a link
abbrev pub at_tty : View → ℕ → View
at_tty v c = record v { outlines = λ k. None; pages = 0; consoles = λ i. v.consoles c; holders = λ i. v.holders c; files = []; limit = 0; links = λ k. None }

abbrev pub at_end : View → ℕ → View
at_end v l = record v { outlines = λ k. None; pages = 0; consoles = λ c. no_bytes; holders = λ c. None; files = []; limit = 0; links = λ i. v.links l }

-- the channels that a view shows
channels_seen_at : (o : Option Whole) (i : ℕ) → channels_by (option_map outline o) i ≡ channel_in o i
channels_seen_at (Some q) i = refl
channels_seen_at None i = refl

pub channels_seen : (m : Machine) (j : ℕ) (q : Whole) (t : Option ℕ) → channels_in (view m j q t) ≡ channels_of m
unfolding view
channels_seen m j q t = λ i k n. channels_seen_at (m.jobs k) n i

-- calls with what they look at in the place of their tables
abbrev pub iot_reads_by : View → ℕ → ℕ → ℕ → Option File → Decision
iot_reads_by v e n at o = first (store_tests v e) (iot_read v e n at (slice_get (words_by o) at))

abbrev pub iot_writes_by : View → ℕ → ℕ → Bool → Decision
iot_writes_by v e n full = first (read_tests v e ++ (full ⇒ ioc v ∷ [])) (iot_ends v (changes.Append n (word_of v e) ∷ []) [])

abbrev pub siot_reads_by : View → Ask → ℕ → ℕ → Option File → Decision
siot_reads_by v a n at o = siot_reads v a n at (slice_get (words_by o) at)

abbrev pub siot_writes_by : View → Ask → ℕ → Bool → Decision
siot_writes_by v a n full =
    let next = next_pointer (input a 1) in
    siot_by v a true false
    (first (read_tests v (right_of next) ++ (full ⇒ fails v a 0o10 ∷ []))
    (goes (changes.Append n (load_of next (word_of v (right_of next))) ∷ []) None (next ∷ (input a 2 - 1) ∷ [])))

abbrev pub opens_disk_by : View → Ask → Bool → Decision
opens_disk_by v a there =
    let n = input a 0 in
    let control = unwrap_or a.control 0 in
    first (not (nat_lt n 16 && is_shut (channel_at v.own.channels n)) ⇒ fails v a 0o4 ∷ nat_lt 1 control ⇒ fails v a 0o22
    ∷ (not (is_output control) && not there) ⇒ fails v a 0o6 ∷ [])
    (finishes v (changes.Open n (opens_as (is_output control) (input a 4) (input a 2) (input a 3)) ∷ []) [])

abbrev pub opens_job_by : View → Ask → ℕ → ℕ → ℕ → Bool → Bool → Option ℕ → Option ℕ → Decision
opens_job_by v a n u x write any free (Some s) = finishes v (changes.Open n (opened.Usr s write) ∷ []) []
opens_job_by v a n u x write any free None = first (any ⇒ fails v a 0o13 ∷ not write ⇒ fails v a 0o12 ∷ []) (makes_job v a n u x free)

abbrev pub opens_usr_by : View → Ask → Option ℕ → Bool → Option ℕ → Decision
opens_usr_by v a named any free =
    let control = unwrap_or a.control 0 in
    first (usr_tests v a (input a 0) control) (opens_job_by v a (input a 0) (input a 2) (input a 3) (control == 1) any free named)

abbrev pub opens_end_by : View → Ask → ℕ → Bool → ℕ → ℕ → (ℕ → Option Pipe) → Option ℕ → Option ℕ → Decision
opens_end_by v a n write x y links free (Some l) = first (not (can_open write (links l)) ⇒ fails v a 0o24 ∷ []) (joins v n l write x y)
opens_end_by v a n write x y links free None = makes_link v a n write x y free

abbrev pub closes_draft_by : View → Ask → Bool → Bool → Bool → Decision
closes_draft_by v a locked there room = first (locked ⇒ fails v a 0o11 ∷ (not there && not room) ⇒ fails v a 0o7 ∷ [])
    (finishes v (changes.Close (input a 0) ∷ []) [])

abbrev pub delete_by : View → Ask → Bool → Bool → Decision
delete_by v a there locked =
    first (not (input a 0 == disk_device) ⇒ fails v a 0o5 ∷ not there ⇒ fails v a 0o6 ∷ locked ⇒ fails v a 0o11 ∷ [])
    (finishes v (changes.Delete (input a 3) (input a 1) (input a 2) ∷ []) [])

abbrev pub rename_by : View → Ask → Bool → Bool → Bool → Decision
rename_by v a there locked taken =
    first (not (input a 0 == disk_device) ⇒ fails v a 0o5 ∷ not there ⇒ fails v a 0o6 ∷ locked ⇒ fails v a 0o11 ∷ taken ⇒ fails v a 0o23 ∷ [])
    (finishes v (changes.Rename (input a 3) (input a 1) (input a 2) (input a 4) (input a 5) ∷ []) [])

abbrev pub pages_by : View → Ask → ℕ → ℕ → Core → ℕ → Bool → Decision
pages_by v a op s c k room =
    first (nat_lt highest_page k ⇒ fails v a 0o22 ∷ is_amiss (makes op) (has_page c k) ⇒ fails v a 0o16
    ∷ (makes op && not room) ⇒ fails v a 0o15 ∷ []) (finishes v (page_changed op s k ∷ []) [])

abbrev pub corblk_by : View → Ask → Bool → Party → Decision
corblk_by v a room Oneself = pages_by v a (input a 0) v.slot v.own.core (input a 2) room
corblk_by v a room Nobody = fails v a 0o4
corblk_by v a room (Channel (On s true at)) = pages_by v a (input a 0) s (other_core v) (input a 2) room
corblk_by v a room (Channel c) = fails v a 0o5

abbrev pub takes_by : Bool → ℕ → Option ℕ → Bool
takes_by inferior j None = true
takes_by inferior j (Some h) = (h == j) || inferior

abbrev pub ttylnd_by : View → Ask → Option ℕ → Bool → Party → Decision
ttylnd_by v a holder inferior Oneself = lands v a (takes_by inferior v.slot holder) 0o13 v.slot
ttylnd_by v a holder inferior Nobody = fails v a 0o4
ttylnd_by v a holder inferior (Channel (On s write at)) = lands v a (is_holder v holder) 0o5 s
ttylnd_by v a holder inferior (Channel c) = fails v a 0o5

abbrev pub holder_inferior : View → Option ℕ → Bool
holder_inferior v (Some h) = is_superior v.slot (v.outlines h)
holder_inferior v None = false

pub opens_job_is : (v : View) (a : Ask) (n u x : ℕ) (write : Bool) (o : Option ℕ)
    → opens_job v a n u x write o ≡ opens_job_by (bare v) a n u x write (any_named v u x) (least_free v.limit v.outlines) o
opens_job_is v a n u x write (Some s) = refl
opens_job_is v a n u x write None = go (least_free v.limit v.outlines)
  where
    go : (o : Option ℕ) → first (any_named v u x ⇒ fails v a 0o13 ∷ not write ⇒ fails v a 0o12 ∷ []) (makes_job v a n u x o)
        ≡ first (any_named v u x ⇒ fails v a 0o13 ∷ not write ⇒ fails v a 0o12 ∷ []) (makes_job (bare v) a n u x o)
    go (Some s) = refl
    go None = refl

pub opens_end_is : (v : View) (a : Ask) (n : ℕ) (write : Bool) (x y : ℕ) (o : Option ℕ)
    → opens_end v a n write x y o ≡ opens_end_by (bare v) a n write x y v.links (least_free most_links v.links) o
opens_end_is v a n write x y (Some l) = refl
opens_end_is v a n write x y None = go (least_free most_links v.links)
  where
    go : (o : Option ℕ) → makes_link v a n write x y o ≡ makes_link (bare v) a n write x y o
    go (Some l) = refl
    go None = refl

pub corblk_is : (v : View) (a : Ask) (p : Party) → corblk_of v a p ≡ corblk_by (bare v) a (nat_lt v.pages most_pages) p
corblk_is v a Oneself = refl
corblk_is v a Nobody = refl
corblk_is v a (Channel (On s true at)) = refl
corblk_is v a (Channel c) = refl

module _ (v : View) (a : Ask) where
  pub iot_reads_is : (e n at : ℕ) (names : Names) → iot_on v e n (Reads names at) ≡ iot_reads_by (bare v) e n at (file_named names v.files)
  iot_reads_is e n at names = refl

  pub iot_writes_is : (e n : ℕ) (f : File) → iot_on v e n (Writes f) ≡ iot_writes_by (bare v) e n (is_full v.files (channels_in v) f.words)
  iot_writes_is e n f = refl

  pub siot_reads_is : (n at : ℕ) (names : Names) → siot_on v a n (Reads names at) ≡ siot_reads_by (bare v) a n at (file_named names v.files)
  siot_reads_is n at names = refl

  pub siot_writes_is : (n : ℕ) (f : File) → siot_on v a n (Writes f) ≡ siot_writes_by (bare v) a n (is_full v.files (channels_in v) f.words)
  siot_writes_is n f = refl

  pub opens_disk_is : opens_disk v a ≡ opens_disk_by (bare v) a (has_file (names_from a 2) v.files)
  unfolding opens_disk
  opens_disk_is = refl

  pub opens_usr_is : opens_usr v a ≡ opens_usr_by (bare v) a (inferior_named v (input a 2) (input a 3))
      (any_named v (input a 2) (input a 3)) (least_free v.limit v.outlines)
  unfolding opens_usr
  opens_usr_is =
      ap (first (usr_tests v a (input a 0) (unwrap_or a.control 0)))
      (opens_job_is v a (input a 0) (input a 2) (input a 3) (unwrap_or a.control 0 == 1) (inferior_named v (input a 2) (input a 3)))

  pub opens_link_is : opens_link v a
      ≡ first (link_tests (bare v) a (input a 0) (unwrap_or a.control 0))
      (opens_end_by (bare v) a (input a 0) (unwrap_or a.control 0 == 1) (input a 2) (input a 3) v.links (least_free most_links v.links)
      (link_named v.links (input a 2) (input a 3)))
  unfolding opens_link
  opens_link_is =
      ap (first (link_tests v a (input a 0) (unwrap_or a.control 0)))
      (opens_end_is v a (input a 0) (unwrap_or a.control 0 == 1) (input a 2) (input a 3) (link_named v.links (input a 2) (input a 3)))

  pub closes_draft_is : (f : File) → closes_draft v a f ≡ closes_draft_by (bare v) a (is_read f.names (channels_in v))
      (has_file f.names v.files) (nat_lt (length v.files) most_files)
  unfolding closes_draft
  closes_draft_is f = refl

  pub delete_is : delete v a ≡ delete_by (bare v) a (has_file (names_from a 1) v.files) (is_read (names_from a 1) (channels_in v))
  unfolding delete
  delete_is = refl

  pub rename_is : rename v a ≡ rename_by (bare v) a (has_file (names_from a 1) v.files) (is_read (names_from a 1) (channels_in v))
      (has_file (names_of (input a 3) (input a 4) (input a 5)) v.files)
  unfolding rename
  rename_is = refl

  pub corblk_all_is : corblk v a ≡ first (nat_lt highest_operation (input a 0) ⇒ fails (bare v) a 0o22 ∷ [])
      (corblk_by (bare v) a (nat_lt v.pages most_pages) (party v (input a 1)))
  unfolding corblk
  corblk_all_is = ap (first (nat_lt highest_operation (input a 0) ⇒ fails v a 0o22 ∷ [])) (corblk_is v a (party v (input a 1)))

  pub ttylnd_is : ttylnd v a ≡ ttylnd_by (bare v) a (v.holders (view_console v)) (holder_inferior v (v.holders (view_console v))) (party v (input a 0))
  unfolding ttylnd
  ttylnd_is = go (party v (input a 0)) (v.holders (view_console v)) refl
    where
      own : (h : Option ℕ) → v.holders (view_console v) ≡ h → ttylnd_of v a Oneself ≡ ttylnd_by (bare v) a (v.holders (view_console v))
          (holder_inferior v (v.holders (view_console v))) Oneself
      own (Some h) e = rw e refl
      own None e = rw e refl

      go : (p : Party) (h : Option ℕ) → v.holders (view_console v) ≡ h
          → ttylnd_of v a p ≡ ttylnd_by (bare v) a (v.holders (view_console v)) (holder_inferior v (v.holders (view_console v))) p
      go Oneself h e = own h e
      go Nobody h e = refl
      go (Channel (On s write at)) h e = refl
      go (Channel c) h e = refl

-- the job that a call reaches
pub inferior_seen : (m n : Machine) (c : Chan) → SameThrough m n c → job_at n (inferior_on c) ≡ job_at m (inferior_on c)
inferior_seen m n (On s write at) h = h
inferior_seen m n Shut h = refl
inferior_seen m n TtyIn h = refl
inferior_seen m n TtyOut h = refl
inferior_seen m n (Reads x at) h = refl
inferior_seen m n (Writes f) h = refl
inferior_seen m n (Linked k write) h = refl

pub channel_seen : (m n : Machine) (channels : ℕ → Chan) (i : ℕ) → ((k : ℕ) → SameThrough m n (channels k)) → SameThrough m n (channel_at channels i)
channel_seen m n channels i h = go (nat_lt i 16)
  where
    go : (b : Bool) → SameThrough m n (if b then channels i else Shut)
    go true = h i
    go false = tt

pub reached_seen : (m n : Machine) (q : Whole) (w : ℕ) → ((k : ℕ) → SameThrough m n (q.channels k)) → job_at n (reached_by q w) ≡ job_at m (reached_by q w)
reached_seen m n q w h = go (is_oneself w)
  where
    go : (b : Bool) → job_at n (if b then None else inferior_on (channel_at q.channels w)) ≡ job_at m
        (if b then None else inferior_on (channel_at q.channels w))
    go true = refl
    go false = inferior_seen m n (channel_at q.channels w) (channel_seen m n q.channels w h)

pub target_seen_by : (m n : Machine) (q : Whole) (a : Ask) (o : Option ℕ) → ((k : ℕ) → SameThrough m n (q.channels k))
    → job_at n (target_by q a o) ≡ job_at m (target_by q a o)
target_seen_by m n q a (Some k) h = reached_seen m n q (input a k) h
target_seen_by m n q a None h = refl

pub target_seen : (m n : Machine) (q : Whole) (a : Ask) → ((k : ℕ) → SameThrough m n (q.channels k)) → job_at n (target q a) ≡ job_at m (target q a)
unfolding target
target_seen m n q a h = go (a.fail == 0)
  where
    t : Option ℕ
    t = target_by q a (argument_of (call_named a.name))

    go : (b : Bool) → job_at n (if b then t else None) ≡ job_at m (if b then t else None)
    go true = target_seen_by m n q a (argument_of (call_named a.name)) h
    go false = refl

pub own_channels : (m n : Machine) (j : ℕ) (q : Whole) → m.jobs j ≡ Some q → Alike j m n → (k : ℕ) → SameThrough m n (q.channels k)
own_channels m n j q is h k = through_own m n j q k (q.channels k) is h refl

module _ (m n : Machine) (j : ℕ) (q : Whole) (t : Option ℕ) (a : Ask) (d : Forest m) (is : m.jobs j ≡ Some q) (h : Alike j m n)
    (other : job_at n t ≡ job_at m t) where
  abbrev x : View
  x = view m j q t

  abbrev y : View
  y = view n j q t

  bares : bare y ≡ bare x
  unfolding view
  bares = λ i. record {
    slot = j;
    own = q;
    other = other i;
    outlines = λ k. None;
    pages = 0;
    consoles = λ c. no_bytes;
    holders = λ c. None;
    files = [];
    clock = h.clock i;
    limit = 0;
    links = λ k. None;
  }

  ttys : (c : ℕ) → (n.consoles c ≡ m.consoles c) × (n.holders c ≡ m.holders c) → at_tty y c ≡ at_tty x c
  unfolding view
  ttys c e = λ i. record {
    slot = j;
    own = q;
    other = other i;
    outlines = λ k. None;
    pages = 0;
    consoles = λ k. e.0 i;
    holders = λ k. e.1 i;
    files = [];
    clock = h.clock i;
    limit = 0;
    links = λ k. None;
  }

  end_views : (l : ℕ) → n.links l ≡ m.links l → at_end y l ≡ at_end x l
  unfolding view
  end_views l e = λ i. record {
    slot = j;
    own = q;
    other = other i;
    outlines = λ k. None;
    pages = 0;
    consoles = λ c. no_bytes;
    holders = λ c. None;
    files = [];
    clock = h.clock i;
    limit = 0;
    links = λ k. e i;
  }

  by_bare : (f : View → Decision) → ((v : View) → f v ≡ f (bare v)) → f y ≡ f x
  by_bare f e = e y ∙ ap f bares ∙ sym (e x)

  tty_seen : (i : ℕ) (c : Chan) → channel_at q.channels i ≡ c → OnConsole c → at_tty y (view_console y) ≡ at_tty x (view_console x)
  unfolding view
  tty_seen i c on is_tty = ttys (unwrap_or q.job.console 0) (console_seen m n j q i d is h (subst OnConsole (sym on) is_tty))

  by_tty : (f : View → Decision) (i : ℕ) (c : Chan) → channel_at q.channels i ≡ c → OnConsole c
      → ((v : View) → f v ≡ f (at_tty v (view_console v))) → f y ≡ f x
  by_tty f i c on is_tty e = e y ∙ ap f (tty_seen i c on is_tty) ∙ sym (e x)

  seen_at : (i : ℕ) (c : Chan) → channel_at q.channels i ≡ c → SameThrough m n c
  seen_at i c on = subst (SameThrough m n) on (channel_seen m n q.channels i (own_channels m n j q is h))

  by_end : (f : View → Decision) (i l : ℕ) (write : Bool) → channel_at q.channels i ≡ Linked l write → ((v : View) → f v ≡ f (at_end v l)) → f y ≡ f x
  by_end f i l write on e = e y ∙ ap f (end_views l (seen_at i (Linked l write) on)) ∙ sym (e x)

  full_same : (words : List ℕ) → is_full n.files (channels_of n) words ≡ is_full m.files (channels_of m) words
      → is_full y.files (channels_in y) words ≡ is_full x.files (channels_in x) words
  unfolding view
  full_same words e = ap (λ cs. is_full n.files cs words) (channels_seen n j q t) ∙ e ∙ sym (ap (λ cs. is_full m.files cs words) (channels_seen m j q t))

  read_same : (names : Names) → is_read names (channels_of n) ≡ is_read names (channels_of m) → is_read names (channels_in y) ≡ is_read names (channels_in x)
  read_same names e = ap (is_read names) (channels_seen n j q t) ∙ e ∙ sym (ap (is_read names) (channels_seen m j q t))

  -- `.IOT`
  iot_same : (e i : ℕ) (c : Chan) → channel_at q.channels i ≡ c → SameDraft m n c → iot_on y e i c ≡ iot_on x e i c
  unfolding view
  iot_same e i Shut on look = by_bare (λ v. iot_on v e i Shut) (λ v. refl)
  iot_same e i TtyIn on look = by_tty (λ v. iot_on v e i TtyIn) i TtyIn on tt (λ v. refl)
  iot_same e i TtyOut on look = by_tty (λ v. iot_on v e i TtyOut) i TtyOut on tt (λ v. refl)
  iot_same e i (Reads names at) on look = λ k. iot_reads_by (bares k) e i at (seen_at i (Reads names at) on k)
  iot_same e i (Writes f) on look = λ k. iot_writes_by (bares k) e i (full_same f.words look k)
  iot_same e i (On s write at) on look = by_bare (λ v. iot_on v e i (On s write at)) (λ v. refl)
  iot_same e i (Linked l write) on look = by_end (λ v. iot_on v e i (Linked l write)) i l write on (λ v. refl)

  -- SIOT
  siot_same : (i : ℕ) (c : Chan) → channel_at q.channels i ≡ c → SameDraft m n c → siot_on y a i c ≡ siot_on x a i c
  unfolding view
  siot_same i Shut on look = by_bare (λ v. siot_on v a i Shut) (λ v. refl)
  siot_same i TtyIn on look = by_tty (λ v. siot_on v a i TtyIn) i TtyIn on tt (λ v. refl)
  siot_same i TtyOut on look = by_tty (λ v. siot_on v a i TtyOut) i TtyOut on tt (λ v. refl)
  siot_same i (Reads names at) on look = λ k. siot_reads_by (bares k) a i at (seen_at i (Reads names at) on k)
  siot_same i (Writes f) on look = λ k. siot_writes_by (bares k) a i (full_same f.words look k)
  siot_same i (On s write at) on look = by_bare (λ v. siot_on v a i (On s write at)) (λ v. refl)
  siot_same i (Linked l write) on look = by_end (λ v. siot_on v a i (Linked l write)) i l write on (λ v. refl)

  -- CLOSE
  close_same : (i : ℕ) (c : Chan) → channel_at q.channels i ≡ c → SameClosed m n c → close_on y a c ≡ close_on x a c
  unfolding view
  close_same i (Writes f) on look =
      closes_draft_is y a f ∙ (λ k. closes_draft_by (bares k) a (read_same f.names look.1.0 k) (look.0 k) (look.1.1 k)) ∙ sym (closes_draft_is x a f)
  close_same i Shut on look = by_bare (λ v. close_on v a Shut) (λ v. refl)
  close_same i TtyIn on look = by_bare (λ v. close_on v a TtyIn) (λ v. refl)
  close_same i TtyOut on look = by_bare (λ v. close_on v a TtyOut) (λ v. refl)
  close_same i (Reads names at) on look = by_bare (λ v. close_on v a (Reads names at)) (λ v. refl)
  close_same i (On s write at) on look = by_bare (λ v. close_on v a (On s write at)) (λ v. refl)
  close_same i (Linked l write) on look = by_bare (λ v. close_on v a (Linked l write)) (λ v. refl)

  -- OPEN
  usr_same : SameNamed j m n (input a 2) (input a 3) → opens_usr y a ≡ opens_usr x a
  unfolding view
  usr_same look = opens_usr_is y a ∙ (λ k. opens_usr_by (bares k) a (look.inferior k) (look.any k) (look.free k)) ∙ sym (opens_usr_is x a)

  end_same : (o : Option ℕ) → link_named m.links (input a 2) (input a 3) ≡ o → SameLinked m n (input a 2) (input a 3)
      → opens_end_by (bare y) a (input a 0) (unwrap_or a.control 0 == 1) (input a 2) (input a 3) n.links (least_free most_links n.links) o
      ≡ opens_end_by (bare x) a (input a 0) (unwrap_or a.control 0 == 1) (input a 2) (input a 3) m.links (least_free most_links m.links) o
  end_same (Some l) e look = λ k. first (not (can_open (unwrap_or a.control 0 == 1) (look.link l e k)) ⇒ fails (bares k) a 0o24 ∷ [])
      (joins (bares k) (input a 0) l (unwrap_or a.control 0 == 1) (input a 2) (input a 3))
  end_same None e look = λ k. makes_link (bares k) a (input a 0) (unwrap_or a.control 0 == 1) (input a 2) (input a 3) (look.free k)

  link_same : SameLinked m n (input a 2) (input a 3) → opens_link y a ≡ opens_link x a
  unfolding view
  link_same look =
      opens_link_is y a
      ∙ (λ k. first (link_tests (bare y) a (input a 0) (unwrap_or a.control 0))
      (opens_end_by (bare y) a (input a 0) (unwrap_or a.control 0 == 1) (input a 2) (input a 3) n.links (least_free most_links n.links) (look.named k)))
      ∙ (λ k. first (link_tests (bares k) a (input a 0) (unwrap_or a.control 0)) (end_same (link_named m.links (input a 2) (input a 3)) refl look k))
      ∙ sym (opens_link_is x a)

  open_same : (disk usr link : Bool) → SameOpened j m n a disk usr link → open_by y a disk usr link ≡ open_by x a disk usr link
  unfolding view opens
  open_same true usr link look = opens_disk_is y a ∙ (λ k. opens_disk_by (bares k) a (is_some (look k))) ∙ sym (opens_disk_is x a)
  open_same false true link look = usr_same look
  open_same false false true look = link_same look
  open_same false false false look = by_bare (λ v. opens v a) (λ v. refl)

  -- TTYLND
  pub lands_none : (v : View) (may : Bool) (number s : ℕ) → is_some v.own.job.console ≡ false → lands v a may number s ≡ fails v a 0o5
  lands_none v may number s e = ap (λ b. first (not b ⇒ fails v a 0o5 ∷ not may ⇒ fails v a number ∷ [])
      (finishes v (changes.Hold (view_console v) s ∷ []) [])) e

  pub nobody_lands : (v : View) (holder : Option ℕ) (inferior : Bool) (p : Party) → is_some v.own.job.console ≡ false
      → ttylnd_by v a holder inferior p ≡ ttylnd_by v a None false p
  nobody_lands v holder inferior Oneself e = lands_none v (takes_by inferior v.slot holder) 0o13 v.slot e ∙ sym (lands_none v true 0o13 v.slot e)
  nobody_lands v holder inferior Nobody e = refl
  nobody_lands v holder inferior (Channel (On s write at)) e = lands_none v (is_holder v holder) 0o5 s e ∙ sym (lands_none v false 0o5 s e)
  nobody_lands v holder inferior (Channel c) e = refl

  inferior_same : (o : Option ℕ) → SameHolder j m n o → holder_inferior y o ≡ holder_inferior x o
  unfolding view
  inferior_same (Some i) look = look
  inferior_same None look = refl

  ttylnd_same : SameHolder j m n (m.holders (unwrap_or q.job.console 0)) → ttylnd y a ≡ ttylnd x a
  unfolding view
  ttylnd_same look = ttylnd_is y a ∙ go q.job.console refl ∙ sym (ttylnd_is x a)
    where
      c : ℕ
      c = unwrap_or q.job.console 0

      p : Party
      p = party x (input a 0)

      held : (i : ℕ) → q.job.console ≡ Some i → n.holders c ≡ m.holders c
      held i e = subst (λ (k : ℕ). n.holders k ≡ m.holders k) (sym (ap (λ (o : Option ℕ). unwrap_or o 0) e))
          (console_is m n i (console_in (m.jobs j)) (ap console_in is ∙ e) h.console).1

      go : (o : Option ℕ) → q.job.console ≡ o → ttylnd_by (bare y) a (n.holders c) (holder_inferior y (n.holders c)) p ≡ ttylnd_by (bare x)
          a (m.holders c) (holder_inferior x (m.holders c)) p
      go (Some i) e =
          ap (λ o. ttylnd_by (bare y) a o (holder_inferior y o) p) (held i e)
          ∙ (λ k. ttylnd_by (bares k) a (m.holders c) (inferior_same (m.holders c) look k) p)
      go None e =
          nobody_lands (bare y) (n.holders c) (holder_inferior y (n.holders c)) p (ap (λ (o : Option ℕ). is_some o) e)
          ∙ (λ k. ttylnd_by (bares k) a None false p)
          ∙ sym (nobody_lands (bare x) (m.holders c) (holder_inferior x (m.holders c)) p (ap (λ (o : Option ℕ). is_some o) e))

  -- CORBLK
  corblk_same : nat_lt (mapped n) most_pages ≡ nat_lt (mapped m) most_pages → corblk y a ≡ corblk x a
  unfolding view
  corblk_same look =
      corblk_all_is y a
      ∙ (λ k. first (nat_lt highest_operation (input a 0) ⇒ fails (bares k) a 0o22 ∷ []) (corblk_by (bares k) a (look k) (party x (input a 1))))
      ∙ sym (corblk_all_is x a)

  -- ACCESS, FILLEN, DELETE and RENAME
  access_same : (i : ℕ) (c : Chan) → channel_at q.channels i ≡ c → access_on y a c ≡ access_on x a c
  unfolding view
  access_same i (Reads names at) on = λ k. access_to (bares k) a (length (words_by (seen_at i (Reads names at) on k)))
  access_same i Shut on = by_bare (λ v. access_on v a Shut) (λ v. refl)
  access_same i TtyIn on = by_bare (λ v. access_on v a TtyIn) (λ v. refl)
  access_same i TtyOut on = by_bare (λ v. access_on v a TtyOut) (λ v. refl)
  access_same i (Writes f) on = by_bare (λ v. access_on v a (Writes f)) (λ v. refl)
  access_same i (On s write at) on = by_bare (λ v. access_on v a (On s write at)) (λ v. refl)
  access_same i (Linked l write) on = by_bare (λ v. access_on v a (Linked l write)) (λ v. refl)

  fillen_same : (i : ℕ) (c : Chan) → channel_at q.channels i ≡ c → fillen_on y a c ≡ fillen_on x a c
  unfolding view
  fillen_same i (Reads names at) on = λ k. finishes (bares k) [] (out a.outputs.items (length (words_by (seen_at i (Reads names at) on k))))
  fillen_same i Shut on = by_bare (λ v. fillen_on v a Shut) (λ v. refl)
  fillen_same i TtyIn on = by_bare (λ v. fillen_on v a TtyIn) (λ v. refl)
  fillen_same i TtyOut on = by_bare (λ v. fillen_on v a TtyOut) (λ v. refl)
  fillen_same i (Writes f) on = by_bare (λ v. fillen_on v a (Writes f)) (λ v. refl)
  fillen_same i (On s write at) on = by_bare (λ v. fillen_on v a (On s write at)) (λ v. refl)
  fillen_same i (Linked l write) on = by_bare (λ v. fillen_on v a (Linked l write)) (λ v. refl)

  delete_same : (there : has_file (names_from a 1) n.files ≡ has_file (names_from a 1) m.files)
      (locked : is_read (names_from a 1) (channels_of n) ≡ is_read (names_from a 1) (channels_of m)) → delete y a ≡ delete x a
  unfolding view
  delete_same there locked = delete_is y a ∙ (λ k. delete_by (bares k) a (there k) (read_same (names_from a 1) locked k)) ∙ sym (delete_is x a)

  rename_same : TablesFor j m n q a (Some calls.Rename) → rename y a ≡ rename x a
  unfolding view
  rename_same look = rename_is y a ∙ (λ k. rename_by (bares k) a (is_some (look.0 k)) (read_same (names_from a 1) look.1.0 k) (look.1.1 k))
      ∙ sym (rename_is x a)

  -- the tty calls without a table
  finish_same : finish y a ≡ finish x a
  unfolding finish view
  finish_same = go (channel_at q.channels (input a 0)) refl
    where
      go : (c : Chan) → channel_at q.channels (input a 0) ≡ c → finish_on y a c ≡ finish_on x a c
      go TtyOut on = by_tty (λ v. finish_on v a TtyOut) (input a 0) TtyOut on tt (λ v. refl)
      go Shut on = by_bare (λ v. finish_on v a Shut) (λ v. refl)
      go TtyIn on = by_bare (λ v. finish_on v a TtyIn) (λ v. refl)
      go (Reads f at) on = by_bare (λ v. finish_on v a (Reads f at)) (λ v. refl)
      go (Writes f) on = by_bare (λ v. finish_on v a (Writes f)) (λ v. refl)
      go (On s write at) on = by_bare (λ v. finish_on v a (On s write at)) (λ v. refl)
      go (Linked l write) on = by_bare (λ v. finish_on v a (Linked l write)) (λ v. refl)

  listen_same : listen y a ≡ listen x a
  unfolding listen view
  listen_same = go (channel_at q.channels (input a 0)) refl
    where
      go : (c : Chan) → channel_at q.channels (input a 0) ≡ c → listen_on y a c ≡ listen_on x a c
      go TtyOut on = by_tty (λ v. listen_on v a TtyOut) (input a 0) TtyOut on tt (λ v. refl)
      go TtyIn on = by_tty (λ v. listen_on v a TtyIn) (input a 0) TtyIn on tt (λ v. refl)
      go Shut on = by_bare (λ v. listen_on v a Shut) (λ v. refl)
      go (Reads f at) on = by_bare (λ v. listen_on v a (Reads f at)) (λ v. refl)
      go (Writes f) on = by_bare (λ v. listen_on v a (Writes f)) (λ v. refl)
      go (On s write at) on = by_bare (λ v. listen_on v a (On s write at)) (λ v. refl)
      go (Linked l write) on = by_bare (λ v. listen_on v a (Linked l write)) (λ v. refl)

  -- every call
  named_same : (o : Option CallName) → TablesFor j m n q a o → decided_by y a o ≡ decided_by x a o
  unfolding view open_call close_call iot_call siot_call sleep dismiss usrvar usrmem uclose realt access fillen
  named_same (Some calls.Hang) look = refl
  named_same (Some calls.Sleep) look = by_bare (λ v. sleep v a) (λ v. refl)
  named_same (Some calls.Dismis) look = by_bare (λ v. dismiss v a) (λ v. refl)
  named_same (Some calls.Usrvar) look = by_bare (λ v. usrvar v a) (λ v. refl)
  named_same (Some calls.Logout) look = refl
  named_same (Some calls.Open) look = open_same (input a 1 == disk_device) (input a 1 == usr_device) (input a 1 == link_device) look
  named_same (Some calls.Close) look = close_same (input a 0) (channel_at q.channels (input a 0)) refl look
  named_same (Some calls.Iot) look = iot_same (slice_index_or a.outputs.items 0 0) (input a 0) (channel_at q.channels (input a 0)) refl look
  named_same (Some calls.Siot) look = siot_same (input a 0) (channel_at q.channels (input a 0)) refl look
  named_same (Some calls.Finish) look = finish_same
  named_same (Some calls.Listen) look = listen_same
  named_same (Some calls.Ttylnd) look = ttylnd_same look
  named_same (Some calls.Access) look = access_same (input a 0) (channel_at q.channels (input a 0)) refl
  named_same (Some calls.Fillen) look = fillen_same (input a 0) (channel_at q.channels (input a 0)) refl
  named_same (Some calls.Delete) look = delete_same look.0 look.1
  named_same (Some calls.Rename) look = rename_same look
  named_same (Some calls.Usrmem) look = by_bare (λ v. usrmem v a) (λ v. refl)
  named_same (Some calls.Uclose) look = by_bare (λ v. uclose v a) (λ v. refl)
  named_same (Some calls.Corblk) look = corblk_same look
  named_same (Some calls.Realt) look = by_bare (λ v. realt v a) (λ v. refl)
  named_same None look = by_bare (λ v. fails v a 0o1) (λ v. refl)

  pub decided_same : TablesFor j m n q a (call_named a.name) → decided y a ≡ decided x a
  unfolding decided
  decided_same look = λ k. if a.fail == 0 then named_same (call_named a.name) look k else by_bare (λ v. fails v a a.fail) (λ v. refl) k
