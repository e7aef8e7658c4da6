-- What no step may do. Each law takes a step that changes only what it may (`MayStep`), and says
-- that it does not do this: so the law fails if the definition permits more.
use Rattle.std.specs.Prelude.{if◌then◌else◌, ◌==◌, ◌&&◌, ◌/◌, ◌%◌, ◌^◌, ◌++◌, ◌≡◌, ◌≢◌, ◌<◌, ◌⊎◌, ℕ, zero, suc, Bool, true, false, Option, Some, None, List, [], ◌∷◌, is_some, is_none, option_map, nat_lt, slice_set, slice_index_or, refl}
use Rattle.std.proofs.Common.{sym, ◌∙◌, ap, subst, inl, inr, arith}
use Rattle.std.proofs.lemmas.Bool.{cases_Bool, cases_eq, eq-eqb, ne_eqb}
use Rattle.its_word.specs.Core.{Core, Page, zero_page, marked, page_of, page_stored, word_in, word_at, can_store, with_page, store}
use Rattle.its_word.specs.Stores.{stored}
use Rattle.its_word.proofs.CoreLaws.{in_accs, in_page, page_alike, word_at-store_same, word_at-store_other}
use Rattle.its_word.proofs.PageLaws.{present-slice_get, page_of-with_page_other, page_of-with_page_present, page_of-with_page_none, word_at-with_page_other}
use Rattle.its_records.specs.Links.{most_links}
use Rattle.its_records.specs.Tree.{least_free, fresh_job}
use Rattle.its_records.specs.declared.session.Event.TheVariants as events
use Rattle.its_records.proofs.FreeLaws.{least_empty}
use Rattle.its_plain.specs.Call.Core.{has_page}
use Rattle.its_plain.specs.Call.Link.{has_link_names, link_named, can_open}
use Rattle.its_plain.specs.Machine.Change.{channel_in, console_in, superior_in, superiors, is_gone, after_shut, job_after_removal, holder_after_removal, ends_after_removal, after_removal, on_slot, with_inf, poke, link_or_new, with_end_opened, after_end_close, with_sent, with_received}
use Rattle.its_plain.specs.Machine.{File, Chan, Shut, TtyIn, TtyOut, Reads, Writes, On, Linked, Pipe, Whole, Machine, limit}
use Rattle.its_plain.specs.Operator.{Block}
use Rattle.its_security.specs.Integrity.{Written, word_stored, variable_set, page_made, page_dropped, page_marked, with_inf_in, Removes, nobody, by_logout, by_uclose, IsStopped, NoJobNamed, JobMay, job_written, superior_informed, job_made, HolderMay, holder_same, console_taken, console_given, JobsMay, others_same, one_changes, IsOpenAt, MayBeOn, IsFresh, ChannelMay, channel_same, file_moves, inferior_moves, word_added, channel_closed, channel_opened, Keeps, OwnMay, own_kept, own_gone, LinkFor, is_there, is_new, LinkMay, end_opened, word_sent, word_received, end_shut, LinksMay, links_same, one_link_changes, MayStep}
use Rattle.its_security.specs.OperatorParts.{OnlyParts, is_this, touched}
use Rattle.its_security.proofs.OthersLaws.{slot_other, none_stays}

-- the job of a slot before and after
some_is_not_none : {X : Type 0} (o : Option X) (x : X) → o ≡ Some x → o ≡ None → ⊥
some_is_not_none o x e none = let no : None ≡ Some x = sym none ∙ e in cc

same_some : {X : Type 0} (x y : X) → Some x ≡ Some y → x ≡ y
same_some x y e = cc

-- what a channel is on, apart from its position and the words of its draft
abbrev pub on_what : Chan → Chan
on_what (Reads x at) = Reads x 0
on_what (On s write at) = On s write 0
on_what (Writes f) = Writes (record f { words = [] })
on_what TtyIn = TtyIn
on_what TtyOut = TtyOut
on_what (Linked k write) = Linked k write
on_what Shut = Shut

-- the words of its draft
abbrev words_in : Chan → List ℕ
words_in (Writes f) = f.words
words_in _ = []

module _ (m n : Machine) (j : ℕ) (h : MayStep m j n) where
  -- what becomes of another job: what the removal leaves, or, if nobody is removed, what JobMay
  -- says
  pub other_job : (k : ℕ) → k ≢ j → (n.jobs k ≡ h.left.jobs k) ⊎ ((h.left ≡ m) × JobMay m n j k)
  other_job k ne = go h.jobs
    where
      go : JobsMay m h.left n j → (n.jobs k ≡ h.left.jobs k) ⊎ ((h.left ≡ m) × JobMay m n j k)
      go (others_same e) = inl (e k ne)
      go (one_changes s apart none may rest) = elim (cases_eq k s) [
        | inl at ↦ inr (none, subst (JobMay m n j) (sym at) may)
        | inr other ↦ inl (rest k ne other ∙ sym (ap (λ (x : Machine). x.jobs k) none))
      ]

  -- and of a link
  pub any_link : (k : ℕ) → (n.links k ≡ h.left.links k) ⊎ ((h.left ≡ m) × LinkMay m n j k)
  any_link k = go h.links
    where
      go : LinksMay m h.left n j → (n.links k ≡ h.left.links k) ⊎ ((h.left ≡ m) × LinkMay m n j k)
      go (links_same e) = inl (e k)
      go (one_link_changes s none may rest) = elim (cases_eq k s) [
        | inl at ↦ inr (none, subst (LinkMay m n j) (sym at) may)
        | inr other ↦ inl (rest k other ∙ sym (ap (λ (x : Machine). x.links k) none))
      ]

  -- a stranger is not changed: a job that is neither an inferior of j nor its superior is as the
  -- removal leaves it
  pub no_stranger_changed : (k : ℕ) (q : Whole) → k ≢ j → m.jobs k ≡ Some q → superiors m k ≢ Some j → superiors m j ≢ Some k → n.jobs k ≡ h.left.jobs k
  no_stranger_changed k q ne is inferior superior = elim (other_job k ne) [ inl e ↦ e | inr x ↦ absurd (go x.1) ]
    where
      go : JobMay m n j k → ⊥
      go (job_written a b leave at on w) = inferior leave.up
      go (superior_informed a up over at on) = superior up
      go (job_made u x least free on) = some_is_not_none (m.jobs k) q is (least_empty (limit m) m.jobs k least)

  -- without a channel with leave to write an inferior is not changed
  pub no_write_without_leave : (k : ℕ) (q : Whole) → k ≢ j → m.jobs k ≡ Some q → superiors m j ≢ Some k
      → ((i at : ℕ) → channel_in (m.jobs j) i ≢ On k true at) → n.jobs k ≡ h.left.jobs k
  no_write_without_leave k q ne is superior none = elim (other_job k ne) [ inl e ↦ e | inr x ↦ absurd (go x.1) ]
    where
      go : JobMay m n j k → ⊥
      go (job_written a b leave at on w) = none leave.channel leave.position leave.is
      go (superior_informed a up over at on) = superior up
      go (job_made u x least free on) = some_is_not_none (m.jobs k) q is (least_empty (limit m) m.jobs k least)

  -- a superior that is not an inferior gets no INF while j is there and is not stopped
  pub no_needless_INF : (k : ℕ) (q r : Whole) → k ≢ j → m.jobs k ≡ Some q → superiors m k ≢ Some j → n.jobs j ≡ Some r
      → r.job.stopped ≡ false → n.jobs k ≡ h.left.jobs k
  no_needless_INF k q r ne is inferior there runs = elim (other_job k ne) [ inl e ↦ e | inr x ↦ absurd (go x.1) ]
    where
      go : JobMay m n j k → ⊥
      go (job_written a b leave at on w) = inferior leave.up
      go (superior_informed a up over at on) =
          let stopped : r.job.stopped ≡ true = subst IsStopped there over in
          let no : false ≡ true = sym runs ∙ stopped in
          cc
      go (job_made u x least free on) = some_is_not_none (m.jobs k) q is (least_empty (limit m) m.jobs k least)

  -- no two jobs are changed at once, by writing, by INF or by making one
  pub no_two_changed : (k i : ℕ) → k ≢ j → i ≢ j → n.jobs k ≢ h.left.jobs k → n.jobs i ≢ h.left.jobs i → k ≡ i
  no_two_changed k i kj ij changed changes = go h.jobs
    where
      go : JobsMay m h.left n j → k ≡ i
      go (others_same e) = absurd (changed (e k kj))
      go (one_changes s apart none may rest) =
          let it : (a : ℕ) → a ≢ j → n.jobs a ≢ h.left.jobs a → a ≡ s = λ a aj new. elim (cases_eq a s) [
            | inl at ↦ at
            | inr other ↦ absurd (new (rest a aj other ∙ sym (ap (λ (x : Machine). x.jobs a) none)))
          ] in
          it k kj changed ∙ sym (it i ij changes)

  -- a new job takes the least empty slot, and has names that no job has
  pub no_name_twice : (k : ℕ) (r : Whole) → k ≢ j → h.left.jobs k ≡ None → n.jobs k ≡ Some r → (least_free (limit m) m.jobs ≡ Some k)
      × NoJobNamed m r.job.uname r.job.jname
  unfolding fresh_job
  no_name_twice k r ne none new = elim (other_job k ne) [
    | inl e ↦ absurd (some_is_not_none (n.jobs k) r new (e ∙ none))
    | inr x ↦ go x.1 (ap (λ (l : Machine). l.jobs k) (sym x.0) ∙ none)
  ]
    where
      go : JobMay m n j k → m.jobs k ≡ None → (least_free (limit m) m.jobs ≡ Some k) × NoJobNamed m r.job.uname r.job.jname
      go (job_written a b leave at on w) empty = absurd (some_is_not_none (m.jobs k) a at empty)
      go (superior_informed a up over at on) empty = absurd (some_is_not_none (m.jobs k) a at empty)
      go (job_made u x least free on) empty = (least, subst (λ (p : Whole). NoJobNamed m p.job.uname p.job.jname) (same_some _ r (sym on ∙ new)) free)

  -- the job itself: its names, its console and its superior stay
  own_kept_by : (q r : Whole) → m.jobs j ≡ Some q → n.jobs j ≡ Some r → Keeps n j q r
  own_kept_by q r is there = go h.own
    where
      go : OwnMay m h.left n j → Keeps n j q r
      go (own_kept a b at on keep) = subst (λ (x : Whole). Keeps n j x r) (same_some a q (sym at ∙ is))
          (subst (Keeps n j a) (same_some b r (sym on ∙ there)) keep)
      go (own_gone left gone) = absurd (some_is_not_none (n.jobs j) r there gone)

  pub no_other_console : (q r : Whole) → m.jobs j ≡ Some q → n.jobs j ≡ Some r → r.job.console ≡ q.job.console
  no_other_console q r is there = (own_kept_by q r is there).console

  pub no_other_superior : (q r : Whole) → m.jobs j ≡ Some q → n.jobs j ≡ Some r → r.superior ≡ q.superior
  no_other_superior q r is there = (own_kept_by q r is there).superior

  pub no_other_names : (q r : Whole) → m.jobs j ≡ Some q → n.jobs j ≡ Some r → (r.job.uname ≡ q.job.uname) × (r.job.jname ≡ q.job.jname)
  no_other_names q r is there = let k = own_kept_by q r is there in (k.uname, k.jname)

  -- its channels: none is on a job that is not an inferior, on an end of a link that is not open
  -- there, or on a console that the job does not have
  channel_on : (i : ℕ) (c : Chan) → c ≢ Shut → channel_in (n.jobs j) i ≡ c → MayBeOn n j i c
  channel_on i c open_ is = go h.own
    where
      go : OwnMay m h.left n j → MayBeOn n j i c
      go (own_kept a b at on keep) = subst (MayBeOn n j i) (sym (ap (λ (o : Option Whole). channel_in o i) on) ∙ is) (keep.reach i)
      go (own_gone left gone) = absurd (open_ (sym is ∙ ap (λ (o : Option Whole). channel_in o i) gone))

  pub no_stranger_channel : (i s at : ℕ) (write : Bool) → channel_in (n.jobs j) i ≡ On s write at → superiors n s ≡ Some j
  no_stranger_channel i s at write is = channel_on i (On s write at) (λ e. cc) is

  pub no_foreign_end : (i k : ℕ) (write : Bool) → channel_in (n.jobs j) i ≡ Linked k write → IsOpenAt j i write (n.links k)
  no_foreign_end i k write is = channel_on i (Linked k write) (λ e. cc) is

  pub no_console_without_one : (i : ℕ) → channel_in (n.jobs j) i ≡ TtyIn → is_some (console_in (n.jobs j)) ≡ true
  no_console_without_one i is = channel_on i TtyIn (λ e. cc) is

  -- an open channel stays on its job, and gets no leave to write
  pub no_other_leave : (q r : Whole) (i s t from to : ℕ) (write leave : Bool) → m.jobs j ≡ Some q → n.jobs j ≡ Some r
      → q.channels i ≡ On s write from → r.channels i ≡ On t leave to → (t ≡ s) × (leave ≡ write)
  no_other_leave q r i s t from to write leave is there on now = go (q.channels i) (r.channels i) ((own_kept_by q r is there).channels i) on now
    where
      go : (c d : Chan) → ChannelMay c d → c ≡ On s write from → d ≡ On t leave to → (t ≡ s) × (leave ≡ write)
      go c d (channel_same e) was is = let same : On t leave to ≡ On s write from = sym is ∙ was in (cc, cc)
      go c d (file_moves x a b) was is = cc
      go c d (inferior_moves k w a b) was is = (cc, cc)
      go c d (word_added f w) was is = cc
      go c d (channel_closed e) was is = cc
      go c d (channel_opened e fresh) was is = cc

  -- nor on another file, another draft, another console or another end of a link
  pub no_other_channel : (q r : Whole) (i : ℕ) → m.jobs j ≡ Some q → n.jobs j ≡ Some r → q.channels i ≢ Shut → r.channels i ≢ Shut
      → on_what (r.channels i) ≡ on_what (q.channels i)
  no_other_channel q r i is there = go (q.channels i) (r.channels i) ((own_kept_by q r is there).channels i)
    where
      go : (c d : Chan) → ChannelMay c d → c ≢ Shut → d ≢ Shut → on_what d ≡ on_what c
      go c d (channel_same e) was is = refl
      go c d (file_moves x a b) was is = refl
      go c d (inferior_moves k w a b) was is = refl
      go c d (word_added f w) was is = refl
      go c d (channel_closed e) was is = absurd (is refl)
      go c d (channel_opened e fresh) was is = absurd (was refl)

  -- a draft keeps its words, and gets one more at most
  pub no_draft_rewritten : (q r : Whole) (i : ℕ) (f g : File) → m.jobs j ≡ Some q → n.jobs j ≡ Some r → q.channels i ≡ Writes f
      → r.channels i ≡ Writes g → (g.words ≡ f.words) ⊎ ((w : ℕ) × (g.words ≡ f.words ++ w ∷ []))
  no_draft_rewritten q r i f g is there on now = go (q.channels i) (r.channels i) ((own_kept_by q r is there).channels i) on now
    where
      go : (c d : Chan) → ChannelMay c d → c ≡ Writes f → d ≡ Writes g → (g.words ≡ f.words) ⊎ ((w : ℕ) × (g.words ≡ f.words ++ w ∷ []))
      go c d (channel_same e) was is = inl (ap words_in (sym is ∙ was))
      go c d (file_moves x a b) was is = cc
      go c d (inferior_moves k w a b) was is = cc
      go c d (word_added e w) was is = inr (w, ap words_in (sym is) ∙ ap (λ (x : Chan). words_in x ++ w ∷ []) was)
      go c d (channel_closed e) was is = cc
      go c d (channel_opened e fresh) was is = cc

  -- and a new one has none
  pub no_draft_with_words : (q r : Whole) (i : ℕ) (g : File) → m.jobs j ≡ Some q → n.jobs j ≡ Some r → q.channels i ≡ Shut
      → r.channels i ≡ Writes g → g.words ≡ []
  no_draft_with_words q r i g is there on now = go (q.channels i) (r.channels i) ((own_kept_by q r is there).channels i) on now
    where
      go : (c d : Chan) → ChannelMay c d → c ≡ Shut → d ≡ Writes g → g.words ≡ []
      go c d (channel_same e) was is = (let no : Writes g ≡ Shut = sym is ∙ was in cc)
      go c d (file_moves x a b) was is = cc
      go c d (inferior_moves k w a b) was is = cc
      go c d (word_added e w) was is = cc
      go c d (channel_closed e) was is = cc
      go c d (channel_opened e fresh) was is = subst IsFresh is fresh

  -- an end of a link that is open at a channel of j is what this channel is on
  pub no_end_without_channel : (q r : Whole) (i k : ℕ) (write : Bool) → m.jobs j ≡ Some q → n.jobs j ≡ Some r
      → IsOpenAt j i write (n.links k) → r.channels i ≡ Linked k write
  no_end_without_channel q r i k write is there = (own_kept_by q r is there).ends i k write

  -- links: one of which j has no end, and both ends of which have been opened, is as the removal
  -- leaves it
  pub no_foreign_link_changed : (k : ℕ) → ((i : ℕ) (write : Bool) → IsOpenAt j i write (m.links k) → ⊥)
      → ((write : Bool) → can_open write (m.links k) ≡ false) → n.links k ≡ h.left.links k
  no_foreign_link_changed k none opened = elim (any_link k) [ inl e ↦ e | inr x ↦ absurd (go x.1) ]
    where
      go : LinkMay m n j k → ⊥
      go (end_opened i x y write shut free named e) = (let no : false ≡ true = sym (opened write) ∙ free in cc)
      go (word_sent i w at e) = none i true at.end
      go (word_received i at e) = none i false at.end
      go (end_shut i write at e) = none i write at.end

  -- and so is one that no channel of j is on
  pub no_link_changed_without_channel : (k : ℕ) → ((i : ℕ) (write : Bool) → channel_in (m.jobs j) i ≢ Linked k write)
      → ((write : Bool) → can_open write (m.links k) ≡ false) → n.links k ≡ h.left.links k
  no_link_changed_without_channel k none opened = elim (any_link k) [ inl e ↦ e | inr x ↦ absurd (go x.1) ]
    where
      go : LinkMay m n j k → ⊥
      go (end_opened i x y write shut free named e) = (let no : false ≡ true = sym (opened write) ∙ free in cc)
      go (word_sent i w at e) = none i true at.is
      go (word_received i at e) = none i false at.is
      go (end_shut i write at e) = none i write at.is

  -- a new link gets the least free number, and names that no link has
  pub no_link_name_twice : (k : ℕ) (p : Pipe) → h.left.links k ≡ None → n.links k ≡ Some p → (least_free most_links m.links ≡ Some k)
      × (link_named m.links p.link.x p.link.y ≡ None)
  no_link_name_twice k p none new = elim (any_link k) [
    | inl e ↦ absurd (some_is_not_none (n.links k) p new (e ∙ none))
    | inr x ↦ go x.1 (ap (λ (l : Machine). l.links k) (sym x.0) ∙ none)
  ]
    where
      x_is : (x y i : ℕ) (write : Bool) → (with_end_opened write j i (link_or_new x y None)).link.x ≡ x
      x_is x y i true = refl
      x_is x y i false = refl

      y_is : (x y i : ℕ) (write : Bool) → (with_end_opened write j i (link_or_new x y None)).link.y ≡ y
      y_is x y i true = refl
      y_is x y i false = refl

      made : (x y i : ℕ) (write : Bool) → LinkFor m.links x y k → m.links k ≡ None
          → n.links k ≡ Some (with_end_opened write j i (link_or_new x y (m.links k)))
          → (least_free most_links m.links ≡ Some k) × (link_named m.links p.link.x p.link.y ≡ None)
      made x y i write (is_there has) empty e = absurd (let no : false ≡ true = sym (ap (has_link_names x y) empty) ∙ has in cc)
      made x y i write (is_new free least) empty e =
          let is : p ≡ with_end_opened write j i (link_or_new x y None) =
          same_some p _ (sym new ∙ e ∙ ap (λ (o : Option Pipe). Some (with_end_opened write j i (link_or_new x y o))) empty) in (
            least,
            ap (λ (r : Pipe). link_named m.links r.link.x r.link.y) is
                ∙ ap (λ u. link_named m.links u (with_end_opened write j i (link_or_new x y None)).link.y) (x_is x y i write)
                ∙ ap (link_named m.links x) (y_is x y i write) ∙ free,
          )

      go : LinkMay m n j k → m.links k ≡ None → (least_free most_links m.links ≡ Some k) × (link_named m.links p.link.x p.link.y ≡ None)
      go (end_opened i x y write shut free for e) empty = made x y i write for empty e
      go (word_sent i w at e) empty = absurd (some_is_not_none (n.links k) p new (e ∙ ap (option_map (with_sent w)) empty))
      go (word_received i at e) empty = absurd (some_is_not_none (n.links k) p new (e ∙ ap (option_map with_received) empty))
      go (end_shut i write at e) empty = absurd (some_is_not_none (n.links k) p new (e ∙ ap (after_end_close write) empty))

-- a removal is whole. If the job of a slot is gone, a job is the root: an inferior of j, or j
-- itself, which is gone then. All jobs below the root are gone too; channels on them are closed;
-- what they held passes to the root's superior, else to nobody; and the ends of their links close
pub record RemovedBy (m n : Machine) (j k root : ℕ) : Type 0 where
  pub root_is : ((root ≡ j) × (n.jobs j ≡ None)) ⊎ (superiors m root ≡ Some j)
  pub below : is_gone (superiors m) root k ≡ true
  pub gone : (i : ℕ) → i ≢ j → is_gone (superiors m) root i ≡ true → n.jobs i ≡ None
  pub channels : (i : ℕ) → i ≢ j → superiors m j ≢ Some i → is_gone (superiors m) root i ≡ false
      → n.jobs i ≡ option_map (after_shut (is_gone (superiors m) root)) (m.jobs i)
  pub holders : (c : ℕ) → n.holders c ≡ holder_after_removal (is_gone (superiors m) root) (superiors m root) (m.holders c)
  pub ends : (i : ℕ) → n.links i ≡ ends_after_removal (is_gone (superiors m) root) (m.links i)

-- the same of what is left
record LeftBy (m n l : Machine) (j k root : ℕ) : Type 0 where
  root_is : ((root ≡ j) × (n.jobs j ≡ None)) ⊎ (superiors m root ≡ Some j)
  below : is_gone (superiors m) root k ≡ true
  gone : (i : ℕ) → is_gone (superiors m) root i ≡ true → l.jobs i ≡ None
  channels : (i : ℕ) → superiors m j ≢ Some i → is_gone (superiors m) root i ≡ false
      → l.jobs i ≡ option_map (after_shut (is_gone (superiors m) root)) (m.jobs i)
  holders : (c : ℕ) → l.holders c ≡ holder_after_removal (is_gone (superiors m) root) (superiors m root) (m.holders c)
  ends : (i : ℕ) → l.links i ≡ ends_after_removal (is_gone (superiors m) root) (m.links i)

with_inf_none : (o : Option ℕ) (m : Machine) (k : ℕ) → m.jobs k ≡ None → (with_inf_in o m).jobs k ≡ None
with_inf_none (Some s) m k e = none_stays m.jobs s k with_inf e
with_inf_none None m k e = e

with_inf_other : (o : Option ℕ) (m : Machine) (k : ℕ) → o ≢ Some k → (with_inf_in o m).jobs k ≡ m.jobs k
with_inf_other (Some s) m k ne = slot_other m.jobs s k with_inf (λ e. ne (ap Some (sym e)))
with_inf_other None m k ne = refl

with_inf_holders : (o : Option ℕ) (m : Machine) (c : ℕ) → (with_inf_in o m).holders c ≡ m.holders c
with_inf_holders (Some s) m c = refl
with_inf_holders None m c = refl

with_inf_links : (o : Option ℕ) (m : Machine) (k : ℕ) → (with_inf_in o m).links k ≡ m.links k
with_inf_links (Some s) m k = refl
with_inf_links None m k = refl

none_before : (jobs : ℕ → Option Whole) (s k : ℕ) (f : Whole → Whole) → on_slot jobs s f k ≡ None → jobs k ≡ None
none_before jobs s k f e = elim (cases_Bool (k == s)) [
  | inl t ↦ unmapped (jobs k) (sym (ap (λ b. if b then option_map f (jobs k) else jobs k) t) ∙ e)
  | inr t ↦ sym (ap (λ b. if b then option_map f (jobs k) else jobs k) t) ∙ e
]
  where
    unmapped : (o : Option Whole) → option_map f o ≡ None → o ≡ None
    unmapped None h = refl
    unmapped (Some q) h = cc

before_inf : (o : Option ℕ) (m : Machine) (k : ℕ) → (with_inf_in o m).jobs k ≡ None → m.jobs k ≡ None
before_inf (Some s) m k e = none_before m.jobs s k with_inf e
before_inf None m k e = e

gone_is : (m : Machine) (r k : ℕ) → is_gone (superiors m) r k ≡ true → (after_removal (superiors m) r m).jobs k ≡ None
unfolding after_removal
gone_is m r k e = rw e refl

stays_is : (m : Machine) (r k : ℕ) → is_gone (superiors m) r k ≡ false
    → (after_removal (superiors m) r m).jobs k ≡ option_map (after_shut (is_gone (superiors m) r)) (m.jobs k)
unfolding after_removal
stays_is m r k e = ap (λ b. job_after_removal (is_gone (superiors m) r) b (m.jobs k)) e

holders_are : (m : Machine) (r c : ℕ) → (after_removal (superiors m) r m).holders c ≡ holder_after_removal (is_gone (superiors m) r)
    (superiors m r) (m.holders c)
unfolding after_removal
holders_are m r c = refl

links_are : (m : Machine) (r k : ℕ) → (after_removal (superiors m) r m).links k ≡ ends_after_removal (is_gone (superiors m) r) (m.links k)
unfolding after_removal
links_are m r k = refl

is_removed : (m : Machine) (r k : ℕ) (q : Whole) → m.jobs k ≡ Some q → (after_removal (superiors m) r m).jobs k ≡ None → is_gone (superiors m) r k ≡ true
unfolding after_removal
is_removed m r k q is e = elim (cases_Bool (is_gone (superiors m) r k)) [
  | inl t ↦ t
  | inr f ↦ absurd (
      let stays : job_after_removal (is_gone (superiors m) r) (is_gone (superiors m) r k) (m.jobs k) ≡ Some
      (after_shut (is_gone (superiors m) r) q) = rw (f, is) refl in
      some_is_not_none _ _ stays e
      )
]

left_by : (m n : Machine) (j k : ℕ) (q : Whole) (l : Machine) → m.jobs k ≡ Some q → l.jobs k ≡ None → Removes m n j l → (r : ℕ) × LeftBy m n l j k r
left_by m n j k q l is none nobody = absurd (some_is_not_none (m.jobs k) q is none)
left_by m n j k q l is none (by_logout gone) = (
  j,
  record {
    root_is = inl (refl, gone);
    below = is_removed m j k q is (before_inf (superiors m j) (after_removal (superiors m) j m) k none);
    gone = λ i e. with_inf_none (superiors m j) (after_removal (superiors m) j m) i (gone_is m j i e);
    channels = λ i ne e. with_inf_other (superiors m j) (after_removal (superiors m) j m) i ne ∙ stays_is m j i e;
    holders = λ c. with_inf_holders (superiors m j) (after_removal (superiors m) j m) c ∙ holders_are m j c;
    ends = λ i. with_inf_links (superiors m j) (after_removal (superiors m) j m) i ∙ links_are m j i;
  },
)
left_by m n j k q l is none (by_uclose i s at write on up) = (
  s,
  record {
    root_is = inr up;
    below = is_removed m s k q is none;
    gone = λ a e. gone_is m s a e;
    channels = λ a ne e. stays_is m s a e;
    holders = λ c. holders_are m s c;
    ends = λ a. links_are m s a;
  },
)

-- the core of a job that a removal leaves is as before
abbrev cores : Option Whole → Option Core
cores (Some x) = Some x.core
cores None = None

same_core : (c d : Core) → Some c ≡ Some d → c ≡ d
same_core c d e = cc

shut_cores : (gone : ℕ → Bool) (o : Option Whole) → cores (option_map (after_shut gone) o) ≡ cores o
shut_cores gone (Some x) = refl
shut_cores gone None = refl

inf_cores : (o : Option Whole) → cores (option_map with_inf o) ≡ cores o
inf_cores (Some x) = refl
inf_cores None = refl

informed_core : (o : Option ℕ) (l : Machine) (k : ℕ) → cores ((with_inf_in o l).jobs k) ≡ cores (l.jobs k)
informed_core (Some s) l k = elim (cases_Bool (k == s)) [ inl t ↦ rw t (inf_cores (l.jobs k)) | inr t ↦ rw t refl ]
informed_core None l k = refl

removed_core : (m : Machine) (root k : ℕ) (r : Whole) → (after_removal (superiors m) root m).jobs k ≡ Some r
    → cores ((after_removal (superiors m) root m).jobs k) ≡ cores (m.jobs k)
removed_core m root k r e = elim (cases_Bool (is_gone (superiors m) root k)) [
  | inl t ↦ absurd (some_is_not_none _ r e (gone_is m root k t))
  | inr t ↦ ap cores (stays_is m root k t) ∙ shut_cores (is_gone (superiors m) root) (m.jobs k)
]

before_informed : (o : Option ℕ) (l : Machine) (k : ℕ) (r : Whole) → (with_inf_in o l).jobs k ≡ Some r → (q : Whole) × (l.jobs k ≡ Some q)
before_informed o l k r e = go (l.jobs k) refl
  where
    go : (p : Option Whole) → l.jobs k ≡ p → (q : Whole) × (l.jobs k ≡ Some q)
    go (Some q) is = (q, is)
    go None is = absurd (some_is_not_none _ r e (with_inf_none o l k is))

left_core : (m n : Machine) (j k : ℕ) (q r : Whole) (l : Machine) → m.jobs k ≡ Some q → Removes m n j l → l.jobs k ≡ Some r → r.core ≡ q.core
left_core m n j k q r l is nobody e = ap (λ (x : Whole). x.core) (same_some r q (sym e ∙ is))
left_core m n j k q r l is (by_logout gone) e =
    let before = before_informed (superiors m j) (after_removal (superiors m) j m) k r e in
    same_core r.core q.core (sym (ap cores e) ∙ informed_core (superiors m j) (after_removal (superiors m) j m) k
    ∙ removed_core m j k before.0 before.1 ∙ ap cores is)
left_core m n j k q r l is (by_uclose i s at write on up) e = same_core r.core q.core (sym (ap cores e) ∙ removed_core m s k r e ∙ ap cores is)

-- the pages and words of a job that is written in
is_absent : (o : Option Page) (x : Page) → is_some o ≡ false → o ≡ Some x → ⊥
is_absent o x none is = let no : false ≡ true = sym none ∙ ap (λ (p : Option Page). is_some p) is in cc

same_word : (u v : ℕ) → Some u ≡ Some v → u ≡ v
same_word u v e = cc

set_is : (ps : List (Option Page)) (k : ℕ) (o : Option Page) (x : Page) → slice_index_or (slice_set ps k o) k None ≡ Some x → o ≡ Some x
set_is [] k o x e = cc
set_is (p ∷ ps) zero o x e = e
set_is (p ∷ ps) (suc k) o x e = set_is ps k o x e

page_set : (c : Core) (k : ℕ) (o : Option Page) (x : Page) → page_of (with_page c k o) k ≡ Some x → o ≡ Some x
unfolding page_of with_page
page_set c k o x e = set_is c.pages k o x (sym (present-slice_get (slice_set c.pages k o) k) ∙ e)

-- a page after a page was set: it is the one that is set, or is as before
page_after : (c : Core) (k i : ℕ) (o : Option Page) (x : Page) → is_some (page_of c i) ≡ false → page_of (with_page c k o) i ≡ Some x → (i ≡ k) × (o ≡ Some x)
page_after c k i o x none new = elim (cases_eq i k) [
  | inl at ↦ (at, page_set c k o x (ap (page_of (with_page c k o)) (sym at) ∙ new))
  | inr ne ↦ absurd (is_absent (page_of c i) x none (sym (page_of-with_page_other c k i o ne) ∙ new))
]

stored_one : (c : Core) (a w : ℕ) → a < 2 ^ 18 → stored c (poke a w ∷ []) ≡ store c a w
unfolding stored
stored_one c a w h = ap (λ k. store c k w) (omega arith)

stored_page : (c : Core) (a w i : ℕ) → is_some (page_of (stored c (poke a w ∷ [])) i) ≡ is_some (page_of c i)
unfolding stored
stored_page c a w i = page_alike is_some some c (a % 2 ^ 18) w i
  where
    some : (o : Option Page) (b v : ℕ) → is_some (page_stored o b v) ≡ is_some o
    some (Some y) b v = refl
    some None b v = refl

page_of_zeros : (q r : Whole) (i : ℕ) (x : Page) → has_page q.core i ≡ false → page_of r.core i ≡ Some x → Written q r → x ≡ zero_page
page_of_zeros q r i x none new (word_stored a w can) = absurd (is_absent (page_of (stored q.core (poke a w ∷ [])) i) x (stored_page q.core a w i ∙ none) new)
page_of_zeros q r i x none new (variable_set y w may) = absurd (is_absent (page_of q.core i) x none new)
page_of_zeros q r i x none new (page_made k free) = let e = (page_after q.core k i (Some zero_page) x none new).1 in same_page x zero_page (sym e)
  where
    same_page : (y z : Page) → Some y ≡ Some z → y ≡ z
    same_page y z e = cc
page_of_zeros q r i x none new (page_dropped k) = let e = (page_after q.core k i None x none new).1 in cc
page_of_zeros q r i x none new (page_marked k w) =
    let e = page_after q.core k i (marked (page_of q.core k) w) x none new in
    absurd (unmarked (page_of q.core k) (ap (λ a. is_some (page_of q.core a)) (sym e.0) ∙ none) e.1)
  where
    unmarked : (o : Option Page) → is_some o ≡ false → marked o w ≡ Some x → ⊥
    unmarked (Some y) absent e = cc
    unmarked None absent e = cc

-- a word after a page was set: it is as before, or it is on that page
page_or_same : (c : Core) (k b : ℕ) (o : Option Page) → (word_at (with_page c k o) b ≡ word_at c b) ⊎ ((nat_lt b 16 ≡ false) × (b / 1024 ≡ k))
unfolding with_page
page_or_same c k b o = elim (cases_Bool (nat_lt b 16)) [
  | inl t ↦ inl (in_accs (with_page c k o) b t ∙ sym (in_accs c b t))
  | inr t ↦ elim (cases_eq (b / 1024) k) [ inl e ↦ inr (t, e) | inr ne ↦ inl (word_at-with_page_other c k b o ne) ]
]

on_page : (c : Core) (k b v : ℕ) → nat_lt b 16 ≡ false → b / 1024 ≡ k → word_at c b ≡ Some v → word_in (page_of c k) (b % 1024) ≡ Some v
on_page c k b v t e is = ap (λ a. word_in (page_of c a) (b % 1024)) (sym e) ∙ sym (in_page c b t) ∙ is

same_after : (c : Core) (k b u v : ℕ) (o : Option Page) → word_at c b ≡ Some u → word_at (with_page c k o) b ≡ Some v
    → (nat_lt b 16 ≡ false → b / 1024 ≡ k → u ≡ v) → u ≡ v
same_after c k b u v o was now here = elim (page_or_same c k b o) [ inl e ↦ same_word u v (sym was ∙ sym e ∙ now) | inr x ↦ here x.0 x.1 ]

no_word : (o : Option Page) (i u : ℕ) → is_some o ≡ false → word_in o i ≡ Some u → ⊥
no_word (Some y) i u none e = cc
no_word None i u none e = cc

has_word : (o : Option Page) (i u : ℕ) → word_in o i ≡ Some u → is_some o ≡ true
has_word (Some y) i u e = refl
has_word None i u e = cc

marked_word : (o : Option Page) (w : Bool) (i : ℕ) → word_in (marked o w) i ≡ word_in o i
marked_word (Some y) w i = refl
marked_word None w i = refl

word_changed : (q r : Whole) (b u v : ℕ) → ((a : ℕ) → can_store q.core a ≡ true → a < 2 ^ 18) → word_at q.core b ≡ Some u
    → word_at r.core b ≡ Some v → u ≢ v → Written q r
    → (can_store q.core b ≡ true) × (r.core ≡ store q.core b v)
word_changed q r b u v near was now new (word_stored a w can) =
    let one = stored_one q.core a w (near a can) in
    elim (cases_eq b a) [
      | inl at ↦ (
          let is : w ≡ v = same_word w v (sym (word_at-store_same q.core a w can) ∙ ap (word_at (store q.core a w)) (sym at)
          ∙ ap (λ (c : Core). word_at c b) (sym one) ∙ now) in
          (ap (can_store q.core) at ∙ can, one ∙ ap (λ i. store q.core i w) (sym at) ∙ ap (store q.core b) is)
          )
      | inr ne ↦ absurd (new (same_word u v (sym was ∙ sym (word_at-store_other q.core a b w ne) ∙ ap (λ (c : Core). word_at c b) (sym one) ∙ now)))
    ]
word_changed q r b u v near was now new (variable_set x w may) = absurd (new (same_word u v (sym was ∙ now)))
word_changed q r b u v near was now new (page_made k free) =
    absurd (new (same_after q.core k b u v (Some zero_page) was now
    (λ t e. absurd (no_word (page_of q.core k) (b % 1024) u free (on_page q.core k b u t e was)))))
word_changed q r b u v near was now new (page_dropped k) = absurd (new (same_after q.core k b u v None was now (λ t e.
    absurd (no_word (page_of (with_page q.core k None) k) (b % 1024) v
    (ap (λ (o : Option Page). is_some o) (page_of-with_page_none q.core k)) (on_page (with_page q.core k None) k b v t e now)))))
word_changed q r b u v near was now new (page_marked k w) = absurd (new (same_after q.core k b u v (marked (page_of q.core k) w) was now (λ t e.
    let old = on_page q.core k b u t e was in
    same_word u v (sym old ∙ sym (marked_word (page_of q.core k) w (b % 1024))
    ∙ ap (λ (o : Option Page). word_in o (b % 1024)) (sym (page_of-with_page_present q.core k (marked (page_of q.core k) w)
    (has_word (page_of q.core k) (b % 1024) u old)))
    ∙ on_page (with_page q.core k (marked (page_of q.core k) w)) k b v t e now))))

module _ (m n : Machine) (j : ℕ) (h : MayStep m j n) where
  -- if a job is not in what is left, somebody is removed, and so all is as the removal leaves it
  whole : (k : ℕ) (q : Whole) → m.jobs k ≡ Some q → h.left.jobs k ≡ None → (r : ℕ) × RemovedBy m n j k r
  whole k q is none =
      let by = left_by m n j k q h.left is none h.removes in
      let l = by.1 in (
        by.0,
        record {
          root_is = l.root_is;
          below = l.below;
          gone = λ i ne e. others h.jobs i ne ∙ l.gone i e;
          channels = λ i ne up e. others h.jobs i ne ∙ l.channels i up e;
          holders = λ c. holder c (h.holders c) ∙ l.holders c;
          ends = λ i. links h.links i ∙ l.ends i;
        },
      )
    where
      apart : h.left ≡ m → ⊥
      apart e = some_is_not_none (m.jobs k) q is (ap (λ (x : Machine). x.jobs k) (sym e) ∙ none)

      others : JobsMay m h.left n j → (i : ℕ) → i ≢ j → n.jobs i ≡ h.left.jobs i
      others (others_same e) i ne = e i ne
      others (one_changes s other same may rest) i ne = absurd (apart same)

      holder : (c : ℕ) → HolderMay m h.left n j c → n.holders c ≡ h.left.holders c
      holder c (holder_same e) = e
      holder c (console_taken same own take e) = absurd (apart same)
      holder c (console_given s same own has up e) = absurd (apart same)

      links : LinksMay m h.left n j → (i : ℕ) → n.links i ≡ h.left.links i
      links (links_same e) i = e i
      links (one_link_changes s same may rest) i = absurd (apart same)

  -- no removal is partial: a job that is gone is gone by a whole removal
  pub no_partial_removal : (k : ℕ) (q : Whole) → m.jobs k ≡ Some q → n.jobs k ≡ None → (r : ℕ) × RemovedBy m n j k r
  no_partial_removal k q is gone = elim (cases_eq k j) [ inl at ↦ itself at h.own | inr ne ↦ another ne (other_job m n j h k ne) ]
    where
      itself : k ≡ j → OwnMay m h.left n j → (r : ℕ) × RemovedBy m n j k r
      itself at (own_kept a b was on keep) = absurd (some_is_not_none (n.jobs k) b (ap n.jobs at ∙ on) gone)
      itself at (own_gone none over) = whole k q is (ap h.left.jobs at ∙ none)

      changed : JobMay m n j k → ⊥
      changed (job_written a b leave at on w) = some_is_not_none (n.jobs k) b on gone
      changed (superior_informed a up over at on) = some_is_not_none (n.jobs k) _ on gone
      changed (job_made u x least free on) = some_is_not_none (n.jobs k) _ on gone

      another : k ≢ j → (n.jobs k ≡ h.left.jobs k) ⊎ ((h.left ≡ m) × JobMay m n j k) → (r : ℕ) × RemovedBy m n j k r
      another ne (inl e) = whole k q is (sym e ∙ gone)
      another ne (inr x) = absurd (changed x.1)

  -- and none takes effect without being one: if every job is there afterwards, no channel, holder
  -- or end of a link changes by a removal
  pub no_removal_of_nobody : (q : Whole) → m.jobs j ≡ Some q → superiors m j ≢ Some j
      → ((k : ℕ) → is_some (m.jobs k) ≡ true → is_some (n.jobs k) ≡ true) → h.left ≡ m
  no_removal_of_nobody q is apart stay = go h.left h.removes h.jobs
    where
      there : (s : ℕ) → superiors m s ≡ Some j → is_some (m.jobs s) ≡ true
      there s up = has (m.jobs s) up
        where
          has : (o : Option Whole) → superior_in o ≡ Some j → is_some o ≡ true
          has (Some x) e = refl
          has None e = cc

      is_lost : (k : ℕ) → is_some (m.jobs k) ≡ true → n.jobs k ≡ None → ⊥
      is_lost k was none = let no : false ≡ true = sym (ap (λ (o : Option Whole). is_some o) none) ∙ stay k was in cc

      root_gone : (s : ℕ) → is_gone (superiors m) s s ≡ true
      root_gone s = rw (eq-eqb s s refl) refl

      removed : (l : Machine) → Removes m n j l → ((k : ℕ) → k ≢ j → n.jobs k ≡ l.jobs k) → l ≡ m
      removed l nobody e = refl
      removed l (by_logout gone) e = absurd (is_lost j (ap (λ (o : Option Whole). is_some o) is) gone)
      removed l (by_uclose i s at write on up) e = absurd (is_lost s (there s up)
          (e s (λ same. apart (ap (superiors m) (sym same) ∙ up)) ∙ gone_is m s s (root_gone s)))

      go : (l : Machine) → Removes m n j l → JobsMay m l n j → l ≡ m
      go l removes (others_same e) = removed l removes e
      go l removes (one_changes s other same may rest) = same

  -- another job that is there before and after: it was written in, or its core stays
  core_kept : (k : ℕ) (q r : Whole) → k ≢ j → m.jobs k ≡ Some q → n.jobs k ≡ Some r → Written q r ⊎ (r.core ≡ q.core)
  core_kept k q r ne is there = elim (other_job m n j h k ne) [
    | inl e ↦ inr (left_core m n j k q r h.left is h.removes (sym e ∙ there))
    | inr x ↦ go x.1
  ]
    where
      go : JobMay m n j k → Written q r ⊎ (r.core ≡ q.core)
      go (job_written a b leave at on w) = inl (subst (λ (x : Whole). Written x r) (same_some a q (sym at ∙ is))
          (subst (Written a) (same_some b r (sym on ∙ there)) w))
      go (superior_informed a up over at on) = inr (ap (λ (x : Whole). x.core) (same_some r (with_inf a) (sym there ∙ on))
          ∙ ap (λ (x : Whole). x.core) (same_some a q (sym at ∙ is)))
      go (job_made u x least free on) = absurd (some_is_not_none (m.jobs k) q is (least_empty (limit m) m.jobs k least))

  -- a page that another job gets is of zeros
  pub no_page_with_words : (k i : ℕ) (q r : Whole) (x : Page) → k ≢ j → m.jobs k ≡ Some q → n.jobs k ≡ Some r → has_page q.core i ≡ false
      → page_of r.core i ≡ Some x → x ≡ zero_page
  no_page_with_words k i q r x ne is there none new = elim (core_kept k q r ne is there) [
    | inl w ↦ page_of_zeros q r i x none new w
    | inr e ↦ absurd (is_absent (page_of q.core i) x none (ap (λ (c : Core). page_of c i) (sym e) ∙ new))
  ]

  -- at most one word of another job is changed, and it is one that can be stored
  pub no_word_changed_but_one : (k b u v : ℕ) (q r : Whole) → k ≢ j → m.jobs k ≡ Some q → n.jobs k ≡ Some r
      → ((a : ℕ) → can_store q.core a ≡ true → a < 2 ^ 18)
      → word_at q.core b ≡ Some u → word_at r.core b ≡ Some v → u ≢ v → (can_store q.core b ≡ true) × (r.core ≡ store q.core b v)
  no_word_changed_but_one k b u v q r ne is there near was now new = elim (core_kept k q r ne is there) [
    | inl w ↦ word_changed q r b u v near was now new w
    | inr e ↦ absurd (new (same_word u v (sym was ∙ ap (λ (c : Core). word_at c b) (sym e) ∙ now)))
  ]

-- LOAD makes its job in the least free slot, and touches no other
not_this : (o : Option ℕ) (k : ℕ) → o ≢ Some k → is_this o k ≡ false
not_this (Some s) k ne = ne_eqb k s (λ e. ne (ap Some (sym e)))
not_this None k ne = refl

pub no_other_slot_loaded : (m n : Machine) (b : Block) (u x : ℕ) (console : Option ℕ) (k : ℕ)
    → OnlyParts (touched m b (events.Load u x console)) m n → least_free (limit m) m.jobs ≢ Some k
    → (n.jobs k ≡ m.jobs k) × (n.symbols k ≡ m.symbols k)
no_other_slot_loaded m n b u x console k h ne = (
  h.jobs k (not_this (least_free (limit m) m.jobs) k ne),
  h.symbols k (not_this (least_free (limit m) m.jobs) k ne),
)

-- and no console but that of its line, if nobody holds it
pub no_other_console_loaded : (m n : Machine) (b : Block) (u x : ℕ) (console : Option ℕ) (c : ℕ)
    → OnlyParts (touched m b (events.Load u x console)) m n → console ≢ Some c → n.holders c ≡ m.holders c
no_other_console_loaded m n b u x console c h ne = h.holders c (ap (λ t. t && is_none (m.holders c)) (not_this console c ne))

pub no_holder_replaced : (m n : Machine) (b : Block) (u x : ℕ) (console : Option ℕ) (c s : ℕ)
    → OnlyParts (touched m b (events.Load u x console)) m n → m.holders c ≡ Some s → n.holders c ≡ m.holders c
no_holder_replaced m n b u x console c s h held = h.holders c (ap (λ o. is_this console c && is_none o) held ∙ and_false (is_this console c))
  where
    and_false : (t : Bool) → t && false ≡ false
    and_false true = refl
    and_false false = refl
