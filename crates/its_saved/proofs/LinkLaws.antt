-- All channels of all jobs, and then the words and the closed ends of links.
use Rattle.std.specs.Prelude.{if◌then◌else◌, ◌≡◌, ◌≢◌, ◌≤◌, ◌<◌, ◌==◌, ◌&&◌, ◌||◌, ◌⊎◌, ℕ, suc, ◌+◌, ◌-◌, Bool, true, false, Option, Some, None, List, [], ◌∷◌, ◌++◌, length, option_map, nat_le, nat_lt, refl}
use Rattle.std.proofs.Common.{sym, ◌∙◌, ap, subst, arith, inl, inr}
use Rattle.std.proofs.lemmas.Bool.{cases_Bool}
use Rattle.std.proofs.lemmas.Bool.Decides.{nat_tests}
use Rattle.std.proofs.lemmas.List.{length-append}
use Rattle.its_word.specs.Limits.{slots}
use Rattle.its_records.specs.Links.{most_link_words, link_end, with_end, is_open, is_unopened, is_closed, is_alive}
use Rattle.its_records.specs.declared.link.End.{End}
use Rattle.its_records.specs.declared.link.End.TheVariants.{Unopened, Opened, Closed}
use Rattle.its_records.specs.declared.link.Link.{Link}
use Rattle.its_plain.specs.Machine.{Chan, Shut, TtyIn, TtyOut, Reads, Writes, On, Linked, Pipe, Whole, Machine, changed}
use Rattle.its_plain.specs.Machine.Change.{channel_in, if_alive, standing_if, on_link}
use Rattle.its_stepped.specs.Forest.{end_at}
use Rattle.its_plain.specs.Operator.Files.{channels_of}
use Rattle.its_plain.specs.Call.File.{most_blocks, blocks_of_drafts, blocks_of_files}
use Rattle.its_saved.specs.Building.{build, with_words_sent, with_end_shut, has_room, with_words_in, has_unopened, with_end_closed}
use Rattle.its_saved.specs.Saving.{each, in_rows, shut_line, link_lines, channel_lines}
use Rattle.its_saved.specs.StateLine as state
use Rattle.its_saved.proofs.ChangedLaws.{twice_changed, changed_here, same_changed, upto, upto_next, upto_at, upto_all, upto_none}
use Rattle.its_saved.proofs.LeadLaws.{Leads, leads_none, leads_line, leads_append, leads_each, leads_to, leads_from, passes, rows_lead}
use Rattle.its_saved.proofs.TreeLaws.{timed}
use Rattle.its_saved.proofs.ChannelLaws.{Done, added, chan_if, chans_done, opened_if, end_done, link_done, pipe_done, opened, Fits, simple_leads, link_leads}
use Rattle.its_saved.proofs.DraftLaws.{draft_leads}

-- two accounts of what is done that differ at closed channels alone
opened_alike : (m n : Machine) → Fits m → (d e : Done) → ((s c : ℕ) → (d s c ≡ e s c) ⊎ (channel_in (m.jobs s) c ≡ Shut)) → opened m n d ≡ opened m n e
opened_alike m n fits d e h = λ t. record n { jobs = λ j. job j (m.jobs j) refl t; links = λ l. pipe l (m.links l) refl t }
  where
    chan : (j i : ℕ) (x : Chan) → (d j i ≡ e j i) ⊎ (x ≡ Shut) → chan_if (d j i) x ≡ chan_if (e j i) x
    chan j i x (inl g) = ap (λ b. chan_if b x) g
    chan j i x (inr g) = ap (chan_if (d j i)) g ∙ none (d j i) ∙ sym (none (e j i)) ∙ sym (ap (chan_if (e j i)) g)
      where
        none : (b : Bool) → chan_if b Shut ≡ Shut
        none true = refl
        none false = refl

    job : (j : ℕ) (o : Option Whole) → m.jobs j ≡ o → option_map (chans_done d j) o ≡ option_map (chans_done e j) o
    job j None g = refl
    job j (Some r) g = λ t. Some (record r { channels = λ i. chan j i (r.channels i) (subst (λ o. (d j i ≡ e j i) ⊎ (channel_in o i ≡ Shut)) g (h j i)) t })

    end : (l : ℕ) (write : Bool) (x : End) → end_at write (m.links l) ≡ x → end_done d x ≡ end_done e x
    end l write Unopened g = refl
    end l write Closed g = refl
    end l write (Opened s c) g = by (h s c)
      where
        by : (d s c ≡ e s c) ⊎ (channel_in (m.jobs s) c ≡ Shut) → opened_if (d s c) s c ≡ opened_if (e s c) s c
        by (inl f) = ap (λ b. opened_if b s c) f
        by (inr f) = (let z : Shut ≡ Linked l write = sym f ∙ fits.ends l s c write g in cc)

    pipe : (l : ℕ) (o : Option Pipe) → m.links l ≡ o → pipe_done d o ≡ pipe_done e o
    pipe l None g = refl
    pipe l (Some p) g = ap if_alive (λ t. record {
      link = record p.link
          { reader = end l false p.link.reader (ap (end_at false) g) t; writer = end l true p.link.writer (ap (end_at true) g) t };
      words = [];
    })

-- the channels of lower slots, and of this slot below a channel
abbrev before : ℕ → ℕ → Done
before k n s c = nat_lt s k || ((s == k) && nat_lt c n)

abbrev slots_below : ℕ → Done
slots_below k s c = nat_lt s k

-- there are blocks for all drafts, and channels and slots have their numbers
pub record Drafted (m : Machine) : Type 0 where
  pub files_room : blocks_of_files m.files + blocks_of_drafts (channels_of m) ≤ most_blocks
  pub past_channels : (k n : ℕ) → 16 ≤ n → channel_in (m.jobs k) n ≡ Shut
  pub past_slots : (k : ℕ) → slots ≤ k → m.jobs k ≡ None

module _ (m n : Machine) (fits : Fits m) (drafted : Drafted m) (files : n.files ≡ m.files) where
  -- one channel
  one_leads : (k c : ℕ) → k < slots → c < 16 → Leads (opened m n (before k c)) (channel_lines m k c (channel_in (m.jobs k) c)) (opened m n (before k (suc c)))
  one_leads k c low few = by (m.jobs k) refl
    where
      shut : before k c k c ≡ false
      shut = let t : nat_lt k k ≡ false = grind (arith, nat_tests) in let u : nat_lt c c ≡ false = grind (arith, nat_tests) in rw (t, u) (both (k == k))
        where
          both : (b : Bool) → (false || (b && false)) ≡ false
          both true = refl
          both false = refl

      next : (s i : ℕ) → added (before k c) k c s i ≡ before k (suc c) s i
      next s i = elim (cases_Bool (i == c)) [
        | inl t ↦ (let e : i ≡ c = grind (arith, nat_tests) in let v : nat_lt i c ≡ false = grind (arith, nat_tests) in let w : nat_lt i
            (suc c) ≡ true = grind (arith, nat_tests) in rw (v, w, t) (here (nat_lt s k) (s == k)))
        | inr t ↦ elim (cases_Bool (nat_lt i c)) [
          | inl v ↦ (let w : nat_lt i (suc c) ≡ true = grind (arith, nat_tests) in rw (v, w, t) (below (nat_lt s k) (s == k)))
          | inr v ↦ (let w : nat_lt i (suc c) ≡ false = grind (arith, nat_tests) in rw (v, w, t) (above (nat_lt s k) (s == k)))
        ]
      ]
        where
          here : (a b : Bool) → ((a || (b && false)) || (b && true)) ≡ (a || (b && true))
          here true true = refl
          here true false = refl
          here false true = refl
          here false false = refl

          below : (a b : Bool) → ((a || (b && true)) || (b && false)) ≡ (a || (b && true))
          below true true = refl
          below true false = refl
          below false true = refl
          below false false = refl

          above : (a b : Bool) → ((a || (b && false)) || (b && false)) ≡ (a || (b && false))
          above true true = refl
          above true false = refl
          above false true = refl
          above false false = refl

      step : opened m n (added (before k c) k c) ≡ opened m n (before k (suc c))
      step = opened_alike m n fits (added (before k c) k c) (before k (suc c)) (λ s i. inl (next s i))

      by : (o : Option Whole) → m.jobs k ≡ o → Leads (opened m n (before k c)) (channel_lines m k c (channel_in o c)) (opened m n (before k (suc c)))
      by None e = leads_to _ _ _ _ (leads_none (opened m n (before k c))) (opened_alike m n fits (before k c) (before k (suc c)) (λ s i. empty s i))
        where
          empty : (s i : ℕ) → (before k c s i ≡ before k (suc c) s i) ⊎ (channel_in (m.jobs s) i ≡ Shut)
          empty s i = elim (cases_Bool (s == k)) [
            | inl t ↦ inr (let g : s ≡ k = grind (arith, nat_tests) in ap (λ o. channel_in o i) (ap m.jobs g ∙ e))
            | inr t ↦ inl (rw t refl)
          ]
      by (Some q) e = leads_to _ _ _ _ (device (q.channels c) refl) step
        where
          device : (x : Chan) → q.channels c ≡ x → Leads (opened m n (before k c)) (channel_lines m k c x) (opened m n (added (before k c) k c))
          device (Linked l write) g = link_leads m n fits (before k c) k c q e shut l write g few
          device (Writes f) g = draft_leads m n (before k c) k c q f e g low few files drafted.files_room fits shut
          device Shut g = simple_leads m n fits (before k c) k c q e shut Shut g few files (λ f z. cc) (λ l w z. cc)
          device TtyIn g = simple_leads m n fits (before k c) k c q e shut TtyIn g few files (λ f z. cc) (λ l w z. cc)
          device TtyOut g = simple_leads m n fits (before k c) k c q e shut TtyOut g few files (λ f z. cc) (λ l w z. cc)
          device (Reads x at) g = simple_leads m n fits (before k c) k c q e shut (Reads x at) g few files (λ f z. cc) (λ l w z. cc)
          device (On t w at) g = simple_leads m n fits (before k c) k c q e shut (On t w at) g few files (λ f z. cc) (λ l w z. cc)

  -- those of a slot
  slot_leads : (k : ℕ) → k < slots → Leads (opened m n (slots_below k)) (each (λ c. channel_lines m k c (channel_in (m.jobs k) c)) 16)
      (opened m n (slots_below (suc k)))
  slot_leads k low =
      leads_to _ (opened m n (before k 16)) _ _
      (leads_from _ (opened m n (before k 0)) _ _ (opened_alike m n fits (slots_below k) (before k 0) (λ s c. inl (first s c)))
      (leads_each (λ c. channel_lines m k c (channel_in (m.jobs k) c)) (λ c. opened m n (before k c)) 16 (λ c few. one_leads k c low few)))
      (opened_alike m n fits (before k 16) (slots_below (suc k)) last)
    where
      first : (s c : ℕ) → slots_below k s c ≡ before k 0 s c
      first s c = let t : nat_lt c 0 ≡ false = grind (arith, nat_tests) in rw t (by (nat_lt s k) (s == k))
        where
          by : (a b : Bool) → a ≡ (a || (b && false))
          by true true = refl
          by true false = refl
          by false true = refl
          by false false = refl

      last : (s c : ℕ) → (before k 16 s c ≡ slots_below (suc k) s c) ⊎ (channel_in (m.jobs s) c ≡ Shut)
      last s c = elim (cases_Bool (nat_lt c 16)) [
        | inl t ↦ inl (elim (cases_Bool (s == k)) [
          | inl u ↦ (let v : nat_lt s (suc k) ≡ true = grind (arith, nat_tests) in rw (t, u, v) (or_true (nat_lt s k)))
          | inr u ↦ elim (cases_Bool (nat_lt s k)) [
            | inl v ↦ (let w : nat_lt s (suc k) ≡ true = grind (arith, nat_tests) in rw (v, w) refl)
            | inr v ↦ (let w : nat_lt s (suc k) ≡ false = grind (arith, nat_tests) in rw (v, w, u) refl)
          ]
        ])
        | inr t ↦ inr (drafted.past_channels s c (let h : 16 ≤ c = grind (arith, nat_tests) in h))
      ]
        where
          or_true : (b : Bool) → (b || (true && true)) ≡ true
          or_true true = refl
          or_true false = refl

  pub channels_lead : Leads (opened m n (λ s c. false)) (each (λ k. each (λ c. channel_lines m k c (channel_in (m.jobs k) c)) 16) slots)
      (opened m n (λ s c. true))
  channels_lead =
      leads_to _ (opened m n (slots_below slots)) _ _
      (leads_from _ (opened m n (slots_below 0)) _ _ (opened_alike m n fits (λ s c. false) (slots_below 0)
      (λ s c. inl (let t : nat_lt s 0 ≡ false = grind (arith, nat_tests) in sym t)))
      (leads_each (λ k. each (λ c. channel_lines m k c (channel_in (m.jobs k) c)) 16) (λ k. opened m n (slots_below k)) slots (λ k low. slot_leads k low)))
      (opened_alike m n fits (slots_below slots) (λ s c. true) (λ s c. last s c))
    where
      last : (s c : ℕ) → (slots_below slots s c ≡ true) ⊎ (channel_in (m.jobs s) c ≡ Shut)
      last s c = elim (cases_Bool (nat_lt s slots)) [
        | inl t ↦ inl t
        | inr t ↦ inr (ap (λ o. channel_in o c) (drafted.past_slots s (let h : slots ≤ s = grind (arith, nat_tests) in h)))
      ]

-- nothing is open
pub none_opened : (m n : Machine) → (n.jobs ≡ (λ j. option_map timed (m.jobs j))) → (n.links ≡ (λ l. None)) → opened m n (λ s c. false) ≡ n
none_opened m n jobs links = λ t. record n { jobs = ((λ s. λ j. job j (m.jobs j) s) ∙ sym jobs) t; links = ((λ s. λ l. pipe (m.links l) s) ∙ sym links) t }
  where
    job : (j : ℕ) (o : Option Whole) → option_map (chans_done (λ s c. false) j) o ≡ option_map timed o
    job j None = refl
    job j (Some q) = refl

    shut : (e : End) → is_open (end_done (λ s c. false) e) ≡ false
    shut Unopened = refl
    shut Closed = refl
    shut (Opened s c) = refl

    pipe : (o : Option Pipe) → pipe_done (λ s c. false) o ≡ None
    pipe None = refl
    pipe (Some p) = ap (λ b. standing_if b (record { link = link_done (λ s c. false) p.link; words = [] }))
        (neither (is_open (end_done (λ s c. false) p.link.reader)) (is_open (end_done (λ s c. false) p.link.writer)) (shut p.link.reader)
        (shut p.link.writer))
      where
        neither : (a b : Bool) → a ≡ false → b ≡ false → (a || b) ≡ false
        neither false false x y = refl
        neither false true x y = cc
        neither true b x y = cc

-- a link with other words, and with other ends
abbrev pub all_done : Done
all_done s c = true

abbrev pipe_as : Link → List ℕ → Pipe
pipe_as k ws = record { link = k; words = ws }

abbrev with_link_as : Machine → ℕ → Link → List ℕ → Machine
with_link_as n l k ws = record n { links = changed n.links l (Some (pipe_as k ws)) }

-- a change of the link
changed_link : (n : Machine) (l : ℕ) (k : Link) (vs : List ℕ) (h : Pipe → Pipe)
    → on_link (with_link_as n l k vs) l (option_map h) ≡ with_link_as n l (h (pipe_as k vs)).link (h (pipe_as k vs)).words
changed_link n l k vs h =
    ap (λ o. record n { links = changed (with_link_as n l k vs).links l (option_map h o) }) (changed_here n.links l (Some (pipe_as k vs)))
    ∙ (λ t. record n { links = λ i. twice_changed n.links l (Some (pipe_as k vs)) (Some (h (pipe_as k vs))) i t })

sent_done : (n : Machine) (l : ℕ) (k : Link) (vs ws : List ℕ) → length vs + length ws ≤ most_link_words
    → build (with_link_as n l k vs) (state.Sent l ws) ≡ Some (with_link_as n l k (vs ++ ws))
unfolding build with_words_sent
sent_done n l k vs ws few =
    let p = with_link_as n l k vs in
    let e = length-append vs ws in
    let t : nat_le (length (vs ++ ws)) most_link_words ≡ true = (let h : length (vs ++ ws) ≤ most_link_words = omega arith in grind (arith, nat_tests)) in
    passes (has_room ws (p.links l)) (on_link p l (option_map (with_words_in ws))) (ap (has_room ws) (changed_here n.links l (Some (pipe_as k vs))) ∙ t)
    ∙ ap Some (changed_link n l k vs (with_words_in ws))

shut_done : (n : Machine) (l : ℕ) (write : Bool) (k : Link) (ws : List ℕ) → is_unopened (link_end write k) ≡ true
    → build (with_link_as n l k ws) (state.EndShut l write) ≡ Some (with_link_as n l (with_end write Closed k) ws)
unfolding build with_end_shut
shut_done n l write k ws free =
    let p = with_link_as n l k ws in
    passes (has_unopened write (p.links l)) (on_link p l (option_map (with_end_closed write)))
    (ap (has_unopened write) (changed_here n.links l (Some (pipe_as k ws))) ∙ free)
    ∙ ap Some (changed_link n l k ws (with_end_closed write))

-- an end as it is
shut_leads : (n : Machine) (l : ℕ) (write : Bool) (p : Pipe) (k : Link) (ws : List ℕ)
    → link_end write k ≡ end_done all_done (link_end write p.link)
    → Leads (with_link_as n l k ws) (shut_line l write p) (with_link_as n l (with_end write (link_end write p.link) k) ws)
shut_leads n l write p k ws is = by (link_end write p.link) refl
  where
    stay : (w : Bool) (j : Link) (e : End) → link_end w j ≡ e → with_end w e j ≡ j
    stay true j e h = λ t. record j { writer = sym h t }
    stay false j e h = λ t. record j { reader = sym h t }

    by : (e : End) → link_end write p.link ≡ e → Leads (with_link_as n l k ws) (if is_closed e then state.EndShut l write ∷ [] else [])
        (with_link_as n l (with_end write e k) ws)
    by Unopened h = leads_to _ _ _ _ (leads_none _) (ap (λ j. with_link_as n l j ws) (sym (stay write k Unopened (is ∙ ap (end_done all_done) h))))
    by (Opened s c) h = leads_to _ _ _ _ (leads_none _) (ap (λ j. with_link_as n l j ws) (sym (stay write k (Opened s c) (is ∙ ap (end_done all_done) h))))
    by Closed h = leads_line _ _ _ (shut_done n l write k ws (ap is_unopened (is ∙ ap (end_done all_done) h)))

-- a link that one of its ends keeps, and whose words have room
pub record LinkFits (p : Pipe) : Type 0 where
  pub alive : is_alive p.link ≡ true
  pub few : length p.words ≤ most_link_words

alive_all : (k : Link) → is_alive k ≡ true → is_alive (link_done all_done k) ≡ true
alive_all k h = ap (λ b. b || is_open (end_done all_done k.writer)) (same k.reader) ∙ ap (λ b. is_open k.reader || b) (same k.writer) ∙ h
  where
    same : (e : End) → is_open (end_done all_done e) ≡ is_open e
    same Unopened = refl
    same Closed = refl
    same (Opened s c) = refl

link_one : (n : Machine) (l : ℕ) (p : Pipe) → LinkFits p → n.links l ≡ pipe_done all_done (Some p)
    → Leads n (link_lines l (Some p)) (record n { links = changed n.links l (Some p) })
link_one n l p fits here =
    let k = link_done all_done p.link in
    let begun : n.links l ≡ Some (record { link = k; words = [] }) = here
    ∙ ap (λ b. standing_if b (record { link = k; words = [] })) (alive_all p.link fits.alive) in
    leads_from n (with_link_as n l k []) _ _ (sym (λ t. record n
    { links = λ i. same_changed n.links l (Some (record { link = k; words = [] })) (sym begun) i t }))
    (leads_append _ (with_link_as n l k p.words) _ (in_rows (state.Sent l) 16 4 p.words) (shut_line l false p ++ shut_line l true p)
    (rows_lead (state.Sent l) (with_link_as n l k) most_link_words (record { row = λ vs ws h. sent_done n l k vs ws h }) 16 4 [] p.words (omega arith)
    (let f = fits.few in omega arith) (let f = fits.few in omega arith))
    (leads_append _ (with_link_as n l (with_end false (link_end false p.link) k) p.words) _ (shut_line l false p) (shut_line l true p)
    (shut_leads n l false p k p.words refl)
    (shut_leads n l true p (with_end false (link_end false p.link) k) p.words refl)))

pub links_lead : (m n : Machine) (top : ℕ) → ((l : ℕ) (p : Pipe) → m.links l ≡ Some p → LinkFits p) → ((l : ℕ) → top ≤ l → m.links l ≡ None)
    → Leads (record n { links = λ l. pipe_done all_done (m.links l) }) (each (λ l. link_lines l (m.links l)) top) (record n { links = m.links })
links_lead m n top fits past =
    leads_to _ (at top) _ _ (leads_from _ (at 0) (at top) _ (λ t. record n { links = λ l. upto_none m.links (λ l. pipe_done all_done (m.links l)) l t })
    (leads_each (λ l. link_lines l (m.links l)) at top (λ l b. one l (m.links l) refl)))
    (λ t. record n {
      links = λ l. upto_all top m.links (λ l. pipe_done all_done (m.links l))
          (λ i b. ap (pipe_done all_done) (past i b) ∙ sym (past i b)) l t;
    })
  where
    at : ℕ → Machine
    at i = record n { links = upto i m.links (λ l. pipe_done all_done (m.links l)) }

    one : (l : ℕ) (o : Option Pipe) → m.links l ≡ o → Leads (at l) (link_lines l o) (at (suc l))
    one l None e =
        leads_to _ _ _ _ (leads_none (at l))
        (sym (λ t. record n {
          links = λ i. same_changed (at l).links l (m.links l)
              (e ∙ sym (upto_at l m.links (λ l. pipe_done all_done (m.links l)) ∙ ap (pipe_done all_done) e)) i t;
        })
        ∙ (λ t. record n { links = λ i. upto_next l m.links (λ l. pipe_done all_done (m.links l)) i t }))
    one l (Some p) e =
        leads_to _ _ _ _ (link_one (at l) l p (fits l p e) (upto_at l m.links (λ l. pipe_done all_done (m.links l)) ∙ ap (pipe_done all_done) e))
        (λ t. record n { links = λ i. (ap (λ x. changed (at l).links l x i) (sym e) ∙ upto_next l m.links (λ l. pipe_done all_done (m.links l)) i) t })
