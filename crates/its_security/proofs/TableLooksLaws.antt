-- Each call looks only at the shared tables that are listed for it.
use Rattle.std.specs.Prelude.{◌==◌, ◌&&◌, ◌≡◌, ℕ, Bool, true, false, not, cond, Option, Some, None, List, [], ◌∷◌, find, is_some, length, nat_lt, option_map, unwrap_or, refl}
use Rattle.std.specs.List.{list_any, range_with_len}
use Rattle.std.proofs.Common.{sym, ◌∙◌, ap}
use Rattle.std.proofs.lemmas.Bool.{and_parts}
use Rattle.its_word.specs.Limits.{slots, most_pages}
use Rattle.its_records.specs.Links.{most_links}
use Rattle.its_records.specs.Tree.{least_free}
use Rattle.its_records.specs.declared.calls.Ask.{Ask}
use Rattle.its_records.proofs.FreeLaws.{least_alike}
use Rattle.its_frame.specs.declared.name.CallName.{CallName}
use Rattle.its_frame.specs.declared.name.CallName.TheVariants as calls
use Rattle.its_plain.specs.Call.Arguments.{input}
use Rattle.its_plain.specs.Call.Basic.{channel_at, is_superior}
use Rattle.its_plain.specs.Call.File.{disk_device, most_files, most_blocks, needs_block, file_named, has_file, names_from}
use Rattle.its_plain.specs.Call.Link.{link_device, has_link_names}
use Rattle.its_plain.specs.Call.Usr.{usr_device, has_names}
use Rattle.its_plain.specs.Machine.Change.{superior_in, superiors, is_gone}
use Rattle.its_plain.specs.Call.Decide.{call_named}
use Rattle.its_plain.specs.Machine.{Names, File, Chan, Shut, TtyIn, TtyOut, Reads, Writes, On, Linked, Whole, Machine, limit}
use Rattle.its_plain.specs.Machine.View.{outline}
use Rattle.its_stepped.proofs.Duties.FitLaws.{superior_outlined}
use Rattle.its_security.specs.Alike.{SameThere, outlines_of, inferior_in, any_in, SameNamed, SameLinked, SameHolder, SameTree, SameDraft, SameClosed, SameOpened, TablesFor, Calls, SameTables}
use Rattle.its_security.specs.Tables.{Table, Pages, Blocks, Directory, Readers, Slots, Links, Identity, identity, SameTable, call_asked, call_in, call_unless, call_of, looks_at, looked_at, TablesAgree}

-- what is seen of who the job of a slot is
abbrev has_these : ℕ → ℕ → Option Identity → Bool
has_these u x (Some i) = (i.uname == u) && (i.jname == x)
has_these u x None = false

named_as : (u x : ℕ) (o : Option Whole) → has_names u x (option_map outline o) ≡ has_these u x (option_map identity o)
named_as u x (Some q) = refl
named_as u x None = refl

abbrev is_above : ℕ → Option ℕ → Bool
is_above j (Some s) = s == j
is_above j None = false

abbrev below : ℕ → Option Identity → Bool
below j (Some i) = is_above j i.superior
below j None = false

superior_as : (j : ℕ) (o : Option Whole) → is_superior j (option_map outline o) ≡ below j (option_map identity o)
superior_as j (Some q) = go q.superior
  where
    go : (o : Option ℕ) → is_superior j (Some (record (outline q) { superior = o })) ≡ is_above j o
    go (Some s) = refl
    go None = refl
superior_as j None = refl

abbrev superior_of : Option Identity → Option ℕ
superior_of (Some i) = i.superior
superior_of None = None

superior_is : (o : Option Whole) → superior_in o ≡ superior_of (option_map identity o)
superior_is (Some q) = refl
superior_is None = refl

mapped_some : (o : Option Whole) → is_some (option_map outline o) ≡ is_some (option_map identity o)
mapped_some (Some q) = refl
mapped_some None = refl

-- what is found passes the test
found_holds : (p : ℕ → Bool) (xs : List ℕ) (s : ℕ) → find p xs ≡ Some s → p s ≡ true
found_holds p [] s e = cc
found_holds p (x ∷ xs) s e = go (p x) refl e (found_holds p xs s)
  where
    go : (b : Bool) → p x ≡ b → cond b (Some x) (find p xs) ≡ Some s → (find p xs ≡ Some s → p s ≡ true) → p s ≡ true
    go true is e more = ap p (sym (same x s e)) ∙ is
      where
        same : (x s : ℕ) → Some x ≡ Some s → x ≡ s
        same x s e = cc
    go false is e more = more e

module _ (j : ℕ) (m n : Machine) where
  module _ (who : (k : ℕ) → option_map identity (n.jobs k) ≡ option_map identity (m.jobs k)) where
    names_same : (u x k : ℕ) → has_names u x (outlines_of n k) ≡ has_names u x (outlines_of m k)
    names_same u x k = named_as u x (n.jobs k) ∙ ap (has_these u x) (who k) ∙ sym (named_as u x (m.jobs k))

    above_same : (k : ℕ) → is_superior j (outlines_of n k) ≡ is_superior j (outlines_of m k)
    above_same k = superior_as j (n.jobs k) ∙ ap (below j) (who k) ∙ sym (superior_as j (m.jobs k))

    superiors_same : (k : ℕ) → superiors n k ≡ superiors m k
    superiors_same k = superior_is (n.jobs k) ∙ ap superior_of (who k) ∙ sym (superior_is (m.jobs k))

    free_same : limit n ≡ limit m → least_free (limit n) (outlines_of n) ≡ least_free (limit m) (outlines_of m)
    free_same most =
        ap (λ (l : ℕ). least_free l (outlines_of n)) most
        ∙ least_alike (limit m) (outlines_of n) (outlines_of m)
        (λ k. mapped_some (n.jobs k) ∙ ap (λ (o : Option Identity). is_some o) (who k) ∙ sym (mapped_some (m.jobs k)))

    inferior_same : (u x : ℕ) → inferior_in n j u x ≡ inferior_in m j u x
    inferior_same u x = λ i. find (λ k. names_same u x k i && above_same k i) (range_with_len 0 slots)

    any_same : (u x : ℕ) → any_in n u x ≡ any_in m u x
    any_same u x = λ i. list_any (λ k. names_same u x k i) (range_with_len 0 slots)

    holder_same : (o : Option ℕ) → SameHolder j m n o
    holder_same (Some h) = above_same h
    holder_same None = tt

    tree_same : (c : Chan) → SameTree m n c
    tree_same (On s write at) = λ k i. is_gone (λ x. superiors_same x i) s k
    tree_same Shut = tt
    tree_same TtyIn = tt
    tree_same TtyOut = tt
    tree_same (Reads x at) = tt
    tree_same (Writes f) = tt
    tree_same (Linked l write) = tt

    named_same : limit n ≡ limit m → ((s u x : ℕ) → inferior_in m j u x ≡ Some s → n.jobs s ≡ m.jobs s) → (u x : ℕ) → SameNamed j m n u x
    named_same most jobs u x = record { inferior = inferior_same u x; job = λ s e. jobs s u x e; any = any_same u x; free = free_same most }

  linked_same : ((l : ℕ) → n.links l ≡ m.links l) → (x y : ℕ) → SameLinked m n x y
  linked_same same x y = record {
    named = λ i. find (λ l. has_link_names x y (same l i)) (range_with_len 0 most_links);
    link = λ k e. same k;
    free = λ i. least_free most_links (λ l. same l i);
  }

  draft_same : SameTable Blocks m n → (c : Chan) → SameDraft m n c
  draft_same same (Writes f) = ap (λ (b : ℕ). needs_block (length f.words) && not (nat_lt b most_blocks)) same
  draft_same same Shut = tt
  draft_same same TtyIn = tt
  draft_same same TtyOut = tt
  draft_same same (Reads x at) = tt
  draft_same same (On s write at) = tt
  draft_same same (Linked l write) = tt

  there_same : SameTable Directory m n → (x : Names) → SameThere m n x
  there_same same x = ap (has_file x) same

  closed_same : SameTable Directory m n → SameTable Readers m n → (c : Chan) → SameClosed m n c
  closed_same files read (Writes f) = (there_same files f.names, (read f.names, ap (λ (fs : List File). nat_lt (length fs) most_files) files))
  closed_same files read Shut = tt
  closed_same files read TtyIn = tt
  closed_same files read TtyOut = tt
  closed_same files read (Reads x at) = tt
  closed_same files read (On s write at) = tt
  closed_same files read (Linked l write) = tt

  module _ (inferiors : (s : ℕ) → superiors m s ≡ Some j → n.jobs s ≡ m.jobs s) (most : limit n ≡ limit m) where
    -- the job that OPEN finds is an inferior
    found : (s u x : ℕ) → inferior_in m j u x ≡ Some s → n.jobs s ≡ m.jobs s
    found s u x e =
        let h = found_holds (λ k. has_names u x (outlines_of m k) && is_superior j (outlines_of m k)) (range_with_len 0 slots) s e in
        inferiors s (superior_outlined j (m.jobs s) (and_parts (has_names u x (outlines_of m s)) (is_superior j (outlines_of m s)) h).1)

    opened_same : (a : Ask) → ((t : Table) → looks_at calls.Open t ≡ true → SameTable t m n) → (disk usr link : Bool) → SameOpened j m n a disk usr link
    opened_same a h true usr link = ap (file_named (names_from a 2)) (h Directory refl)
    opened_same a h false true link = named_same (h Slots refl) most (λ s u x e. found s u x e) (input a 2) (input a 3)
    opened_same a h false false true = linked_same (h Links refl) (input a 2) (input a 3)
    opened_same a h false false false = tt

    for_same : (q : Whole) (a : Ask) (o : Option CallName) → ((t : Table) → looked_at o t ≡ true → SameTable t m n) → TablesFor j m n q a o
    for_same q a (Some calls.Open) h = opened_same a h (input a 1 == disk_device) (input a 1 == usr_device) (input a 1 == link_device)
    for_same q a (Some calls.Close) h = closed_same (h Directory refl) (h Readers refl) (channel_at q.channels (input a 0))
    for_same q a (Some calls.Iot) h = draft_same (h Blocks refl) (channel_at q.channels (input a 0))
    for_same q a (Some calls.Siot) h = draft_same (h Blocks refl) (channel_at q.channels (input a 0))
    for_same q a (Some calls.Delete) h = (there_same (h Directory refl) _, h Readers refl _)
    for_same q a (Some calls.Rename) h = (ap (file_named (names_from a 1)) (h Directory refl), (h Readers refl _, there_same (h Directory refl) _))
    for_same q a (Some calls.Ttylnd) h = holder_same (h Slots refl) (m.holders (unwrap_or q.job.console 0))
    for_same q a (Some calls.Uclose) h = tree_same (h Slots refl) (channel_at q.channels (input a 0))
    for_same q a (Some calls.Corblk) h = ap (λ (k : ℕ). nat_lt k most_pages) (h Pages refl)
    for_same q a (Some c) h = tt
    for_same q a None h = tt

-- the call of a job by what it asks for
call_is : (m : Machine) (j : ℕ) (q : Whole) (a : Ask) → Calls m j q a → call_of (m.jobs j) ≡ call_named a.name
call_is m j q a c = ap call_of c.is ∙ ap (call_unless q) c.quiet ∙ ap (call_in q.core) c.unit_is ∙ ap call_asked c.ask_is

pub tables_seen : (j : ℕ) (m n : Machine) → TablesAgree j m n → SameTables j m n
tables_seen j m n h q a c = for_same j m n h.inferiors h.most q a (call_named a.name)
    (λ t e. h.tables t (ap (λ (o : Option CallName). looked_at o t) (call_is m j q a c) ∙ e))
