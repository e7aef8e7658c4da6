-- Two machines that look alike to a job look alike after the same change.
use Rattle.std.specs.Prelude.{if◌then◌else◌, ◌==◌, ◌≡◌, ℕ, Bool, true, false, Option, Some, None, List, [], ◌∷◌, cond, option_map, refl}
use Rattle.std.specs.Option.{option_or}
use Rattle.std.proofs.Common.{sym, ◌∙◌, ap, subst, inl, inr}
use Rattle.std.proofs.lemmas.Bool.{cases_Bool, cases_eq, eq-eqb, ne_eqb}
use Rattle.std.proofs.lemmas.List.Folds.{find-append}
use Rattle.its_word.specs.Console.{Console}
use Rattle.its_word.specs.Directory.{without_names, kept_file, with_changed, changed_if, named}
use Rattle.its_word.proofs.NamesLaws.{same_sym, same_both}
use Rattle.its_plain.specs.Call.File.{file_named}
use Rattle.its_plain.specs.Machine.Change.{on_slot, in_job, channel_in, superiors, console_in, with_file, without_file, with_new_names, same_names, on_console, is_gone, chan_after_removal, job_after_removal, holder_after_removal, symbols_after_removal, ends_after_removal, after_removal, on_link}
use Rattle.its_plain.specs.Machine.{Names, File, Pipe, Chan, Shut, TtyIn, TtyOut, Reads, Writes, On, Linked, Whole, Machine, changed}
use Rattle.its_plain.specs.Machine.Own.{names_of, on_channel}
use Rattle.its_security.specs.Alike.{SameThrough, SameAt, Alike}

-- what a change carries on, of whatever is the same before it
pub record Carries (m n o p : Machine) : Type 0 where
  pub jobs : (s : ℕ) → n.jobs s ≡ m.jobs s → p.jobs s ≡ o.jobs s
  pub files : (x : Names) → file_named x n.files ≡ file_named x m.files → file_named x p.files ≡ file_named x o.files
  pub links : (k : ℕ) → n.links k ≡ m.links k → p.links k ≡ o.links k

through : (m n o p : Machine) (c : Chan) → Carries m n o p → SameThrough m n c → SameThrough o p c
through m n o p (On s write at) h e = h.jobs s e
through m n o p (Reads x at) h e = h.files x e
through m n o p (Linked k write) h e = h.links k e
through m n o p Shut h e = tt
through m n o p TtyIn h e = tt
through m n o p TtyOut h e = tt
through m n o p (Writes f) h e = tt

pub same_jobs : (m n : Machine) (s k : ℕ) (f : Whole → Whole) → n.jobs k ≡ m.jobs k → on_slot n.jobs s f k ≡ on_slot m.jobs s f k
same_jobs m n s k f e = ap (λ (o : Option Whole). if k == s then option_map f o else o) e

-- a change of a job that leaves its channels and its console
pub record Plainly (f : Whole → Whole) : Type 0 where
  pub channels : (q : Whole) → (f q).channels ≡ q.channels
  pub console : (q : Whole) → (f q).job.console ≡ q.job.console

slot_channel : (f : Whole → Whole) (b : Bool) (o : Option Whole) (i : ℕ) → Plainly f → channel_in (if b then option_map f o else o) i ≡ channel_in o i
slot_channel f true (Some q) i h = ap (λ (cs : ℕ → Chan). cs i) (h.channels q)
slot_channel f true None i h = refl
slot_channel f false o i h = refl

slot_console : (f : Whole → Whole) (b : Bool) (o : Option Whole) → Plainly f → console_in (if b then option_map f o else o) ≡ console_in o
slot_console f true (Some q) h = h.console q
slot_console f true None h = refl
slot_console f false o h = refl

console_same : (m n o p : Machine) (c : Option ℕ) → ((k : ℕ) → n.consoles k ≡ m.consoles k → p.consoles k ≡ o.consoles k)
    → ((k : ℕ) → n.holders k ≡ m.holders k → p.holders k ≡ o.holders k)
    → SameAt m n c → SameAt o p c
console_same m n o p (Some c) bytes held h = (bytes c h.0, held c h.1)
console_same m n o p None bytes held h = tt

-- a job, whose channels stay
pub job_alike : (j s : ℕ) (m n : Machine) (f : Whole → Whole) → Plainly f → Alike j m n → Alike j (in_job m s f) (in_job n s f)
job_alike j s m n f pl h = record {
  own = same_jobs m n s j f h.own;
  channels = λ i.
      subst (SameThrough (in_job m s f) (in_job n s f)) (sym (slot_channel f (j == s) (m.jobs j) i pl))
      (through m n (in_job m s f) (in_job n s f) (channel_in (m.jobs j) i)
      (record { jobs = λ k e. same_jobs m n s k f e; files = λ x e. e; links = λ k e. e }) (h.channels i));
  console =
      subst (SameAt (in_job m s f) (in_job n s f)) (sym (slot_console f (j == s) (m.jobs j) pl))
      (console_same m n (in_job m s f) (in_job n s f) (console_in (m.jobs j)) (λ k e. e) (λ k e. e) h.console);
  clock = h.clock;
}

-- the own channel i, which is then on what looks the same
own_here : (jobs : ℕ → Option Whole) (j : ℕ) (f : Whole → Whole) → on_slot jobs j f j ≡ option_map f (jobs j)
own_here jobs j f = rw (eq-eqb j j refl) refl

through_if : (m n : Machine) (b : Bool) (c d : Chan) → (b ≡ true → SameThrough m n c) → (b ≡ false → SameThrough m n d) → SameThrough m n (if b then c else d)
through_if m n true c d h k = h refl
through_if m n false c d h k = k refl

channel_through : (m n : Machine) (g : Chan → Chan) (k i : ℕ) (o : Option Whole) → ((c : Chan) → SameThrough m n c → SameThrough m n (g c))
    → SameThrough m n (channel_in o i) → SameThrough m n (channel_in o k)
    → SameThrough m n (channel_in (option_map (on_channel k g) o) i)
channel_through m n g k i (Some q) h e d = through_if m n (i == k) (g (q.channels k)) (q.channels i) (λ t. h (q.channels k) d) (λ t. e)
channel_through m n g k i None h e d = tt

channel_console : (k : ℕ) (g : Chan → Chan) (o : Option Whole) → console_in (option_map (on_channel k g) o) ≡ console_in o
channel_console k g (Some q) = refl
channel_console k g None = refl

pub channel_alike : (j k : ℕ) (m n : Machine) (g : Chan → Chan)
    → ((c : Chan) → SameThrough m n c → SameThrough (in_job m j (on_channel k g)) (in_job n j (on_channel k g)) (g c)) → Alike j m n
    → Alike j (in_job m j (on_channel k g)) (in_job n j (on_channel k g))
channel_alike j k m n g keeps h =
    let o = in_job m j (on_channel k g) in
    let p = in_job n j (on_channel k g) in
    record {
      own = same_jobs m n j j (on_channel k g) h.own;
      channels = λ i.
          subst (λ (w : Option Whole). SameThrough o p (channel_in w i)) (sym (own_here m.jobs j (on_channel k g)))
          (go i (m.jobs j) (h.channels i) (h.channels k));
      console =
          subst (λ (w : Option Whole). SameAt o p (console_in w)) (sym (own_here m.jobs j (on_channel k g)))
          (subst (SameAt o p) (sym (channel_console k g (m.jobs j))) (console_same m n o p (console_in (m.jobs j)) (λ c e. e) (λ c e. e) h.console));
      clock = h.clock;
    }
  where
    carry : (c : Chan) → SameThrough m n c → SameThrough (in_job m j (on_channel k g)) (in_job n j (on_channel k g)) c
    carry c e = through m n (in_job m j (on_channel k g)) (in_job n j (on_channel k g)) c
        (record { jobs = λ s e. same_jobs m n j s (on_channel k g) e; files = λ x e. e; links = λ l e. e }) e

    go : (i : ℕ) (w : Option Whole) → SameThrough m n (channel_in w i) → SameThrough m n (channel_in w k)
        → SameThrough (in_job m j (on_channel k g)) (in_job n j (on_channel k g)) (channel_in (option_map (on_channel k g) w) i)
    go i (Some q) e d = through_if (in_job m j (on_channel k g)) (in_job n j (on_channel k g)) (i == k) (g (q.channels k)) (q.channels i)
        (λ t. keeps (q.channels k) d) (λ t. carry (q.channels i) e)
    go i None e d = tt

-- what jobs share: a console
pub console_alike : (j c : ℕ) (m n : Machine) (f : Console → Console) → Alike j m n → Alike j (on_console m c f) (on_console n c f)
console_alike j c m n f h = record {
  own = h.own;
  channels = λ i. through m n (on_console m c f) (on_console n c f) (channel_in (m.jobs j) i)
      (record { jobs = λ s e. e; files = λ x e. e; links = λ k e. e }) (h.channels i);
  console = console_same m n (on_console m c f) (on_console n c f) (console_in (m.jobs j)) (λ k e. same k e) (λ k e. e) h.console;
  clock = h.clock;
}
  where
    same : (k : ℕ) → n.consoles k ≡ m.consoles k → (on_console n c f).consoles k ≡ (on_console m c f).consoles k
    same k e = elim (cases_eq k c) [
      | inl at ↦ rw (eq-eqb k c at) (ap f (ap n.consoles (sym at) ∙ e ∙ ap m.consoles at))
      | inr other ↦ rw (ne_eqb k c other) e
    ]

-- the holder of one
pub holder_alike : (j c : ℕ) (x : Option ℕ) (m n : Machine) → Alike j m n
    → Alike j (record m { holders = changed m.holders c x }) (record n { holders = changed n.holders c x })
holder_alike j c x m n h =
    let o = record m { holders = changed m.holders c x } in
    let p = record n { holders = changed n.holders c x } in
    record {
      own = h.own;
      channels = λ i. through m n o p (channel_in (m.jobs j) i) (record { jobs = λ s e. e; files = λ y e. e; links = λ k e. e }) (h.channels i);
      console = console_same m n o p (console_in (m.jobs j)) (λ k e. e) (λ k e. ap (λ (i : Option ℕ). if k == c then x else i) e) h.console;
      clock = h.clock;
    }

-- a link
pub link_alike : (j l : ℕ) (m n : Machine) (f : Option Pipe → Option Pipe) → Alike j m n → Alike j (on_link m l f) (on_link n l f)
link_alike j l m n f h = record {
  own = h.own;
  channels = λ i. through m n (on_link m l f) (on_link n l f) (channel_in (m.jobs j) i)
      (record { jobs = λ s e. e; files = λ x e. e; links = same }) (h.channels i);
  console = console_same m n (on_link m l f) (on_link n l f) (console_in (m.jobs j)) (λ k e. e) (λ k e. e) h.console;
  clock = h.clock;
}
  where
    same : (k : ℕ) → n.links k ≡ m.links k → (on_link n l f).links k ≡ (on_link m l f).links k
    same k e = elim (cases_eq k l) [
      | inl at ↦ rw (eq-eqb k l at) (ap f (ap n.links (sym at) ∙ e ∙ ap m.links at))
      | inr other ↦ rw (ne_eqb k l other) e
    ]

-- the directory
pub files_alike : (j : ℕ) (m n : Machine) (fs gs : List File)
    → ((x : Names) → file_named x n.files ≡ file_named x m.files → file_named x gs ≡ file_named x fs) → Alike j m n
    → Alike j (record m { files = fs }) (record n { files = gs })
files_alike j m n fs gs same h =
    let o = record m { files = fs } in
    let p = record n { files = gs } in
    record {
      own = h.own;
      channels = λ i. through m n o p (channel_in (m.jobs j) i) (record { jobs = λ s e. e; files = same; links = λ k e. e }) (h.channels i);
      console = console_same m n o p (console_in (m.jobs j)) (λ k e. e) (λ k e. e) h.console;
      clock = h.clock;
    }

-- the file of some names after one is taken away: none, if these are the names, else the one before
gone_of : Bool → Option File → Option File
gone_of b o = cond b None o

without_is : (x y : Names) (fs : List File) → file_named x (without_names y fs) ≡ cond (same_names x y) None (file_named x fs)
without_is x y [] = elim (cases_Bool (same_names x y)) [ inl t ↦ rw t refl | inr e ↦ rw e refl ]
without_is x y (g ∷ fs) = go (same_names y g.names) (same_names x g.names) (same_names x y) refl refl refl (without_is x y fs)
  where
    go : (a b c : Bool) → same_names y g.names ≡ a → same_names x g.names ≡ b → same_names x y ≡ c
        → file_named x (without_names y fs) ≡ cond (same_names x y) None (file_named x fs)
        → file_named x (kept_file a g (without_names y fs)) ≡ cond c None (cond b (Some g) (file_named x fs))
    go true true true ea eb ec more = more ∙ ap (λ t. cond t None (file_named x fs)) ec
    go true true false ea eb ec more = absurd (let no : false ≡ true = sym ec ∙ same_both g.names x y (same_sym x g.names eb) (same_sym y g.names ea) in cc)
    go true false c ea eb ec more = more ∙ ap (λ t. cond t None (file_named x fs)) ec
    go false true true ea eb ec more = absurd (let no : false ≡ true = sym ea ∙ same_both x y g.names ec eb in cc)
    go false true false ea eb ec more = ap (λ t. cond t (Some g) (file_named x (without_names y fs))) eb
    go false false c ea eb ec more = ap (λ t. cond t (Some g) (file_named x (without_names y fs))) eb ∙ more ∙ ap (λ t. cond t None (file_named x fs)) ec

pub deleted_same : (x y : Names) (fs gs : List File) → file_named x gs ≡ file_named x fs → file_named x (without_file y gs) ≡ file_named x (without_file y fs)
unfolding without_file
deleted_same x y fs gs e = without_is x y gs ∙ ap (cond (same_names x y) None) e ∙ sym (without_is x y fs)

pub closed_same : (x : Names) (f : File) (fs gs : List File) → file_named x gs ≡ file_named x fs
    → file_named x (with_file f gs) ≡ file_named x (with_file f fs)
closed_same x f fs gs e =
    find-append (λ g. same_names x g.names) (without_file f.names gs) (f ∷ [])
    ∙ ap (λ o. option_or o (file_named x (f ∷ []))) (deleted_same x f.names fs gs e)
    ∙ sym (find-append (λ g. same_names x g.names) (without_file f.names fs) (f ∷ []))

-- a file that gets names which no file has
renamed_is : (z old new : Names) (fs : List File) → file_named new fs ≡ None
    → file_named z (with_changed old (named new) fs) ≡ cond (same_names z new) (option_map (named new) (file_named old fs))
    (cond (same_names z old) None (file_named z fs))
renamed_is z old new [] none = elim (cases_Bool (same_names z new)) [
  | inl t ↦ rw t refl
  | inr e ↦ rw e (elim (cases_Bool (same_names z old)) [ inl t ↦ rw t refl | inr f ↦ rw f refl ])
]
renamed_is z old new (g ∷ fs) none =
    let first = free_first (same_names new g.names) (file_named new fs) none in
    go (same_names old g.names) (same_names z g.names) (same_names z new) (same_names z old) refl refl refl refl first.0 (renamed_is z old new fs first.1)
  where
    free_first : (b : Bool) (o : Option File) → cond b (Some g) o ≡ None → (b ≡ false) × (o ≡ None)
    free_first true o h = cc
    free_first false o h = (refl, h)

    rest : Option File
    rest = file_named z (with_changed old (named new) fs)

    head : (a : Bool) → Option File
    head a = cond (same_names z (changed_if a g (named new g)).names) (Some (changed_if a g (named new g))) rest

    go : (a b c d : Bool) → same_names old g.names ≡ a → same_names z g.names ≡ b → same_names z new ≡ c → same_names z old ≡ d
        → same_names new g.names ≡ false
        → rest ≡ cond (same_names z new) (option_map (named new) (file_named old fs)) (cond (same_names z old) None (file_named z fs))
        → head a ≡ cond c (option_map (named new) (cond a (Some g) (file_named old fs))) (cond d None (cond b (Some g) (file_named z fs)))
    go true b true d ea eb ec ed other more = ap (λ t. cond t (Some (named new g)) rest) ec
    go true true false true ea eb ec ed other more = ap (λ t. cond t (Some (named new g)) rest) ec ∙ more
        ∙ (λ i. cond (ec i) (option_map (named new) (file_named old fs)) (cond (ed i) None (file_named z fs)))
    go true true false false ea eb ec ed other more = absurd
        (let no : false ≡ true = sym ed ∙ same_both g.names z old (same_sym z g.names eb) (same_sym old g.names ea) in cc)
    go true false false d ea eb ec ed other more = ap (λ t. cond t (Some (named new g)) rest) ec ∙ more
        ∙ (λ i. cond (ec i) (option_map (named new) (file_named old fs)) (cond (ed i) None (file_named z fs)))
    go false true true d ea eb ec ed other more = absurd (let no : false ≡ true = sym other ∙ same_both z new g.names ec eb in cc)
    go false true false true ea eb ec ed other more = absurd (let no : false ≡ true = sym ea ∙ same_both z old g.names ed eb in cc)
    go false true false false ea eb ec ed other more = ap (λ t. cond t (Some g) rest) eb
    go false false c d ea eb ec ed other more = ap (λ t. cond t (Some g) rest) eb ∙ more
        ∙ (λ i. cond (ec i) (option_map (named new) (file_named old fs)) (cond (ed i) None (file_named z fs)))

pub renamed_same : (z : Names) (d x y u v : ℕ) (fs gs : List File) → file_named (names_of d u v) fs ≡ None → file_named (names_of d u v) gs ≡ None
    → file_named (names_of d x y) gs ≡ file_named (names_of d x y) fs → file_named z gs ≡ file_named z fs
    → file_named z (with_new_names (names_of d x y) u v gs) ≡ file_named z (with_new_names (names_of d x y) u v fs)
unfolding with_new_names
renamed_same z d x y u v fs gs none free old e =
    let new = names_of d u v in
    renamed_is z (names_of d x y) new gs free
    ∙ (λ i. cond (same_names z new) (option_map (named new) (old i)) (cond (same_names z (names_of d x y)) None (e i)))
    ∙ sym (renamed_is z (names_of d x y) new fs none)

-- a removal
abbrev cut : (ℕ → Bool) → Option ℕ → Machine → Machine
cut gone heir m = record m {
  jobs = λ k. job_after_removal gone (gone k) (m.jobs k);
  holders = λ c. holder_after_removal gone heir (m.holders c);
  symbols = λ k. symbols_after_removal (gone k) (m.symbols k);
  links = λ l. ends_after_removal gone (m.links l);
}

left_through : (m n : Machine) (gone : ℕ → Bool) (heir : Option ℕ) (c : Chan) → SameThrough m n c
    → SameThrough (cut gone heir m) (cut gone heir n) (chan_after_removal gone c)
left_through m n gone heir (On s write at) e = through_if (cut gone heir m) (cut gone heir n) (gone s) Shut (On s write at) (λ t. tt)
    (λ t. ap (job_after_removal gone (gone s)) e)
left_through m n gone heir (Linked k write) e = ap (ends_after_removal gone) e
left_through m n gone heir (Reads x at) e = e
left_through m n gone heir Shut e = tt
left_through m n gone heir TtyIn e = tt
left_through m n gone heir TtyOut e = tt
left_through m n gone heir (Writes f) e = tt

cut_alike : (j : ℕ) (m n : Machine) (gone : ℕ → Bool) (heir : Option ℕ) → Alike j m n → Alike j (cut gone heir m) (cut gone heir n)
cut_alike j m n gone heir h = record {
  own = ap (job_after_removal gone (gone j)) h.own;
  channels = λ i. go i (gone j) (m.jobs j) (h.channels i);
  console = at (gone j) (m.jobs j) h.console;
  clock = h.clock;
}
  where
    go : (i : ℕ) (b : Bool) (o : Option Whole) → SameThrough m n (channel_in o i)
        → SameThrough (cut gone heir m) (cut gone heir n) (channel_in (job_after_removal gone b o) i)
    go i true o e = tt
    go i false (Some q) e = left_through m n gone heir (q.channels i) e
    go i false None e = tt

    at : (b : Bool) (o : Option Whole) → SameAt m n (console_in o) → SameAt (cut gone heir m) (cut gone heir n) (console_in (job_after_removal gone b o))
    at true o e = tt
    at false (Some q) e = console_same m n (cut gone heir m) (cut gone heir n) q.job.console (λ k e. e) (λ k e. ap (holder_after_removal gone heir) e) e
    at false None e = tt

pub removed_alike : (j s : ℕ) (m n : Machine) → ((k : ℕ) → is_gone (superiors n) s k ≡ is_gone (superiors m) s k)
    → superiors n s ≡ superiors m s → Alike j m n
    → Alike j (after_removal (superiors m) s m) (after_removal (superiors n) s n)
unfolding after_removal
removed_alike j s m n gone heir h =
    let same : cut (is_gone (superiors n) s) (superiors n s) n ≡ cut (is_gone (superiors m) s) (superiors m s) n = λ i. cut (λ k. gone k i) (heir i) n in
    subst (Alike j (after_removal (superiors m) s m)) (sym same) (cut_alike j m n (is_gone (superiors m) s) (superiors m s) h)
