-- Page 0 of each core is hollow, and each link has an open end, at the start of a session and after
-- each step.
use Rattle.std.specs.Prelude.{if◌then◌else◌, ◌==◌, ◌≡◌, ◌≢◌, ◌≤◌, ◌<◌, ◌||◌, ℕ, zero, suc, ◌+◌, ◌/◌, ◌%◌, ◌^◌, Bool, true, false, Option, Some, None, List, [], ◌∷◌, Result, Ok, Err, option_map, nat_lt, slice_get, slice_set, slice_index_or, refl}
use Rattle.std.proofs.Common.{sym, ◌∙◌, ap, subst, arith, inl, inr}
use Rattle.std.proofs.lemmas.Bool.{cases_Bool}
use Rattle.std.proofs.lemmas.Bool.Decides.{nat_tests}
use Rattle.std.proofs.lemmas.List.{get_or-set_other}
use Rattle.its_word.specs.Core.{Core, Page, present, page_of, page_stored, store, with_page, zero_page, marked, no_core, word_at}
use Rattle.its_word.specs.Stores.{stored, place, first_fault}
use Rattle.its_word.specs.declared.access.Fault.{Fault}
use Rattle.its_word.specs.declared.plan.Store.{Store}
use Rattle.its_word.specs.declared.plan.Plan.{Plan}
use Rattle.its_word.specs.declared.plan.Context.{Context}
use Rattle.its_word.specs.declared.plan.Reached.{Reached}
use Rattle.its_word.specs.declared.instruction.Instruction.{Instruction}
use Rattle.its_word.specs.declared.instruction.Instruction.TheVariants.{Iot, Call}
use Rattle.its_word.proofs.CoreLaws.{store_acc, store_page}
use Rattle.its_word.proofs.PageLaws.{get_or-copies, page_of-no_core}
use Rattle.its_records.specs.Links.{with_end, is_open, is_alive, link_left}
use Rattle.its_records.specs.declared.link.End.TheVariants.{Closed}
use Rattle.its_records.specs.declared.calls.Ask.{Ask}
use Rattle.its_records.specs.declared.jobs.Job.{Job}
use Rattle.its_frame.specs.declared.change.Change.{Change}
use Rattle.its_frame.specs.declared.change.Change.TheVariants as changes
use Rattle.its_frame.specs.declared.decision.Decision.{Decision}
use Rattle.its_frame.specs.declared.decision.Decision.TheVariants.{Waits, Goes, Ends, Gone}
use Rattle.its_frame.specs.declared.decision.Held.{Held}
use Rattle.its_word.specs.Word.{right_of}
use Rattle.its_plain.specs.Unit.Plans.{Planned}
use Rattle.its_plain.specs.Call.Arguments.{with_new_values}
use Rattle.its_plain.specs.Call.Step.{with_held, acted, decision, informs, step}
use Rattle.its_plain.specs.Machine.Change.{in_job, is_gone, job_after_removal, after_removal, superiors, inferior, effect, effects, standing_if, if_alive, after_end_close, ends_after_removal, link_or_new, with_end_opened}
use Rattle.its_plain.specs.Call.Decide.{reach}
use Rattle.its_plain.specs.Unit.Interrupt.{Entry, entries_of, first_entry, pushed, by_stores, by_pointer, by_entry, by_length, by_table, through_table, unguarded, delivered}
use Rattle.its_plain.specs.Machine.{Shut, Linked, Pipe, Whole, Machine, no_machine, changed, with_job}
use Rattle.its_plain.specs.Machine.Own.{on_channel}
use Rattle.its_plain.specs.Unit.{Outcome, Changed, Faulted, Called, made, outcome_of, done_by, outcome_at, row_of, reached, unit}
use Rattle.its_plain.proofs.StepLaws.{AllOf, step_has}
use Rattle.its_saved.specs.WellFormed.{IsHollow, HollowIn, AliveIn, Tight}

-- a page as page 0, and the list of pages of a core
abbrev pub HollowPage : Option Page → Type 0
HollowPage None = Unit {0}
HollowPage (Some p) = (j : ℕ) → j < 16 → slice_index_or p.words j 0 ≡ 0

abbrev HollowList : List (Option Page) → Type 0
HollowList [] = Unit {0}
HollowList (o ∷ os) = HollowPage o

hollow_list : (c : Core) → IsHollow c → HollowList c.pages
unfolding page_of
hollow_list c h = by c.pages (λ p e. h.hollow p e)
  where
    by : (ps : List (Option Page)) → ((p : Page) → present (slice_get ps 0) ≡ Some p → (j : ℕ) → j < 16 → slice_index_or p.words j 0 ≡ 0) → HollowList ps
    by [] h = tt
    by (None ∷ ps) h = tt
    by (Some p ∷ ps) h = h p refl

list_hollow : (c : Core) → HollowList c.pages → IsHollow c
unfolding page_of
list_hollow c h = record { hollow = by c.pages h }
  where
    same : (p q : Page) → Some p ≡ Some q → p ≡ q
    same p q e = ap (λ o. or_else p o) e
      where
        or_else : Page → Option Page → Page
        or_else d (Some x) = x
        or_else d None = d

    by : (ps : List (Option Page)) → HollowList ps → (p : Page) → present (slice_get ps 0) ≡ Some p → (j : ℕ) → j < 16 → slice_index_or p.words j 0 ≡ 0
    by [] h p e = cc
    by (None ∷ ps) h p e = cc
    by (Some q ∷ ps) h p e = subst (λ x. (j : ℕ) → j < 16 → slice_index_or x.words j 0 ≡ 0) (same q p e) h

-- another page in the list
set_hollow : (ps : List (Option Page)) (k : ℕ) (o : Option Page) → (k ≡ 0 → HollowPage o) → HollowList ps → HollowList (slice_set ps k o)
set_hollow [] k o h l = tt
set_hollow (p ∷ ps) zero o h l = h refl
set_hollow (p ∷ ps) (suc k) o h l = l

page_zero : (ps : List (Option Page)) → HollowList ps → HollowPage (present (slice_get ps 0))
page_zero [] h = tt
page_zero (None ∷ ps) h = tt
page_zero (Some p ∷ ps) h = h

stored_hollow : (o : Option Page) (i w : ℕ) → 16 ≤ i → HollowPage o → HollowPage (page_stored o i w)
stored_hollow None i w l h = tt
stored_hollow (Some p) i w l h = λ j b. get_or-set_other p.words i j w 0 (omega arith) ∙ h j b

-- stores, and other pages
pub store_hollow : (c : Core) (a w : ℕ) → IsHollow c → IsHollow (store c a w)
unfolding page_of
store_hollow c a w h = elim (cases_Bool (nat_lt a 16)) [
  | inl t ↦ subst IsHollow (sym (store_acc c a w t)) (list_hollow _ (hollow_list c h))
  | inr t ↦ (let l : 16 ≤ a = grind (arith, nat_tests) in subst IsHollow (sym (store_page c a w t))
      (list_hollow _ (set_hollow c.pages (a / 1024) _ (λ e. by l e) (hollow_list c h))))
]
  where
    by : 16 ≤ a → a / 1024 ≡ 0 → HollowPage (page_stored (page_of c (a / 1024)) (a % 1024) w)
    by l e = stored_hollow (page_of c (a / 1024)) (a % 1024) w (omega arith)
        (subst (λ k. HollowPage (page_of c k)) (sym e) (page_zero c.pages (hollow_list c h)))

pub with_page_hollow : (c : Core) (k : ℕ) (o : Option Page) → HollowPage o → IsHollow c → IsHollow (with_page c k o)
unfolding with_page
with_page_hollow c k o x h = list_hollow _ (set_hollow c.pages k o (λ e. x) (hollow_list c h))

pub zeros_hollow : HollowPage (Some zero_page)
unfolding zero_page
zeros_hollow = λ j b. get_or-copies 1024 j 0

pub marked_hollow : (c : Core) (k : ℕ) (on : Bool) → IsHollow c → IsHollow (with_page c k (marked (page_of c k) on))
unfolding with_page page_of
marked_hollow c k on h = list_hollow _ (set_hollow c.pages k _
    (λ e. subst (λ i. HollowPage (marked (present (slice_get c.pages i)) on)) (sym e)
    (same (present (slice_get c.pages 0)) (page_zero c.pages (hollow_list c h)))) (hollow_list c h))
  where
    same : (o : Option Page) → HollowPage o → HollowPage (marked o on)
    same None x = tt
    same (Some p) x = x

pub stores_hollow : (ss : List Store) (c : Core) → IsHollow c → IsHollow (stored c ss)
unfolding stored
stores_hollow [] c h = h
stores_hollow (s ∷ ss) c h = stores_hollow ss (store c (place s) s.word) (store_hollow c (place s) s.word h)

pub no_core_hollow : IsHollow no_core
no_core_hollow = record { hollow = λ p e. absurd (let z = sym (page_of-no_core 0) ∙ e in cc) }

-- the machine at the start of a session
pub tight_starts : Tight no_machine
unfolding no_machine
tight_starts = record { cores = λ k. tt; links = λ l. tt }

-- jobs
mapped_tight : (f : Whole → Whole) (b : Bool) (o : Option Whole) → ((q : Whole) → IsHollow q.core → IsHollow (f q).core) → HollowIn o
    → HollowIn (if b then option_map f o else o)
mapped_tight f true (Some q) h a = h q a
mapped_tight f true None h a = tt
mapped_tight f false o h a = a

job_tight : (m : Machine) (s : ℕ) (f : Whole → Whole) → ((q : Whole) → IsHollow q.core → IsHollow (f q).core) → Tight m → Tight (in_job m s f)
job_tight m s f h a = record { cores = λ k. mapped_tight f (k == s) (m.jobs k) h (a.cores k); links = a.links }

pub either_tight : (b : Bool) (p o : Option Whole) → HollowIn p → HollowIn o → HollowIn (if b then p else o)
either_tight true p o x a = x
either_tight false p o x a = a

-- a job in a slot
pub job_written : (m : Machine) (s : ℕ) (q : Whole) → IsHollow q.core → Tight m → Tight (with_job m s q)
job_written m s q h a = record { cores = λ k. either_tight (k == s) (Some q) (m.jobs k) h (a.cores k); links = a.links }

-- links
if_alive_alive : (p : Pipe) → AliveIn (if_alive p)
if_alive_alive p = by (is_alive p.link) refl
  where
    by : (b : Bool) → is_alive p.link ≡ b → AliveIn (standing_if b p)
    by true e = e
    by false e = tt

pub opened_alive : (write : Bool) (j n : ℕ) (p : Pipe) → is_alive (with_end_opened write j n p).link ≡ true
opened_alive true j n p = by (is_open p.link.reader)
  where
    by : (b : Bool) → (b || true) ≡ true
    by true = refl
    by false = refl
opened_alive false j n p = refl

link_changed : (m : Machine) (l : ℕ) (o : Option Pipe) → AliveIn o → Tight m → Tight (record m { links = changed m.links l o })
link_changed m l o x a = record { cores = a.cores; links = λ i. by i (i == l) }
  where
    by : (i : ℕ) (b : Bool) → AliveIn (if b then o else m.links i)
    by i true = x
    by i false = a.links i

closed_alive : (write : Bool) (o : Option Pipe) → AliveIn (after_end_close write o)
closed_alive write (Some p) = if_alive_alive (record p { link = with_end write Closed p.link })
closed_alive write None = tt

-- a removal
removed_job : (gone : ℕ → Bool) (b : Bool) (o : Option Whole) → HollowIn o → HollowIn (job_after_removal gone b o)
removed_job gone true o a = tt
removed_job gone false None a = tt
removed_job gone false (Some q) a = a

removed_link : (gone : ℕ → Bool) (o : Option Pipe) → AliveIn (ends_after_removal gone o)
removed_link gone (Some p) = if_alive_alive (record p { link = link_left gone p.link })
removed_link gone None = tt

removed_tight : (sup : ℕ → Option ℕ) (r : ℕ) (m : Machine) → Tight m → Tight (after_removal sup r m)
unfolding after_removal
removed_tight sup r m a = record {
  cores = λ k. removed_job (is_gone sup r) (is_gone sup r k) (m.jobs k) (a.cores k);
  links = λ l. removed_link (is_gone sup r) (m.links l);
}

-- words of a link
pub words_alive : (f : Pipe → Pipe) (o : Option Pipe) → ((p : Pipe) → (f p).link ≡ p.link) → AliveIn o → AliveIn (option_map f o)
words_alive f None h a = tt
words_alive f (Some p) h a = ap is_alive (h p) ∙ a

-- a change
pub effect_tight : (c : Change) (j : ℕ) (m : Machine) → Tight m → Tight (effect c j m)
unfolding effect
effect_tight (changes.Close n) j m a = record { cores = (job_tight m j (on_channel n (λ c. Shut)) (λ q x. x) a).cores; links = a.links }
effect_tight (changes.Take c) j m a = record { cores = a.cores; links = a.links }
effect_tight (changes.Put c b) j m a = record { cores = a.cores; links = a.links }
effect_tight (changes.Hold c s) j m a = record { cores = a.cores; links = a.links }
effect_tight (changes.Poke s p w) j m a = job_tight m s _ (λ q x. stores_hollow _ q.core x) a
effect_tight (changes.Set s v w) j m a = job_tight m s _ (λ q x. x) a
effect_tight (changes.Map s k) j m a = job_tight m s _ (λ q x. with_page_hollow q.core k (Some zero_page) zeros_hollow x) a
effect_tight (changes.Unmap s k) j m a = job_tight m s _ (λ q x. with_page_hollow q.core k None tt x) a
effect_tight (changes.Protect s k on) j m a = job_tight m s _ (λ q x. marked_hollow q.core k on x) a
effect_tight (changes.Make s u n) j m a = record {
  cores = λ k. either_tight (k == s) (Some (inferior j (m.jobs j) u n)) (m.jobs k)
      no_core_hollow (a.cores k);
  links = a.links;
}
effect_tight (changes.Remove s) j m a = removed_tight (superiors m) s m a
effect_tight (changes.Inform s) j m a = job_tight m s _ (λ q x. x) a
effect_tight (changes.Join n l write x y) j m a =
    link_changed (in_job m j (on_channel n (λ c. Linked l write))) l _ (opened_alive write j n (link_or_new x y (m.links l))) (job_tight m j _ (λ q x. x) a)
effect_tight (changes.CloseEnd n l write) j m a = link_changed (in_job m j (on_channel n (λ c. Shut))) l _ (closed_alive write (m.links l))
    (job_tight m j _ (λ q x. x) a)
effect_tight (changes.Send l w) j m a = link_changed m l _ (words_alive _ (m.links l) (λ p. refl) (a.links l)) a
effect_tight (changes.Receive l) j m a = link_changed m l _ (words_alive _ (m.links l) (λ p. refl) (a.links l)) a
effect_tight (changes.Delete x y z) j m a = record { cores = a.cores; links = a.links }
effect_tight (changes.Rename x y z u v) j m a = record { cores = a.cores; links = a.links }
effect_tight _ j m a = job_tight m j _ (λ q x. x) a

pub effects_tight : (cs : List Change) (j : ℕ) (m : Machine) → Tight m → Tight (effects cs j m)
effects_tight [] j m a = a
effects_tight (c ∷ cs) j m a = effects_tight cs j (effect c j m) (effect_tight c j m a)

-- a call
held_hollow : (a : Ask) (h : Option Held) (q : Whole) → IsHollow q.core → IsHollow (with_held a h q).core
held_hollow a (Some h) q x = stores_hollow _ q.core x
held_hollow a None q x = x

acted_tight : (m : Machine) (j : ℕ) (a : Ask) (ks : List ℕ) (d : Decision) → Tight m → AllOf (λ t. Tight t.machine) (acted m j a ks d)
unfolding acted
acted_tight m j a ks (Waits r) h = tt
acted_tight m j a ks (Goes cs b vs) h = job_tight (effects cs.items j m) j _
    (λ q x. stores_hollow _ _ (held_hollow (with_new_values a vs.items) b q x)) (effects_tight cs.items j m h)
acted_tight m j a ks (Ends cs ss e) h = job_tight (effects cs.items j m) j _ (λ q x. stores_hollow ss.items q.core x) (effects_tight cs.items j m h)
acted_tight m j a ks (Gone cs) h = effects_tight (changes.Remove j ∷ cs.items) j m h

-- a unit
abbrev HollowOutcome : Outcome → Type 0
HollowOutcome (Changed d k) = IsHollow d
HollowOutcome (Faulted f) = Unit {0}
HollowOutcome (Called s) = Unit {0}

made_hollow : (c : Core) (j : Job) (p : Plan) (f : Option Fault) → IsHollow c → HollowOutcome (made c j p f)
made_hollow c j p None h = stores_hollow p.stores.items c h
made_hollow c j p (Some f) h = tt

planned_hollow : (c : Core) (j : Job) (p : Planned) → IsHollow c → HollowOutcome (outcome_of c j p)
planned_hollow c j (Ok p) h = made_hollow c j p (first_fault c p.stores.items) h
planned_hollow c j (Err f) h = tt

done_hollow : (c : Core) (j : Job) (reads : List ℕ) (x : Context) (i : Instruction) → IsHollow c → HollowOutcome (done_by c j reads x i)
unfolding done_by
done_hollow c j reads x Iot h = tt
done_hollow c j reads x Call h = tt
done_hollow c j reads x i h = planned_hollow c j (row_of c x i) h

outcome_hollow : (c : Core) (j : Job) (reads : List ℕ) (r : Result Reached Fault) → IsHollow c → HollowOutcome (outcome_at c j reads r)
outcome_hollow c j reads (Ok r) h = done_hollow c j reads r.context r.instruction h
outcome_hollow c j reads (Err f) h = tt

unit_hollow : (c : Core) (j : Job) → IsHollow c → HollowOutcome (unit c j)
unfolding unit
unit_hollow c j h = outcome_hollow c j (reached c j).reads (reached c j).answer h

-- a delivery
pushed_hollow : (c : Core) (j : Job) (e : Entry) (ss : List Store) (o : Option Fault) → IsHollow c → IsHollow (by_stores c j e ss o).core
pushed_hollow c j e ss None h = stores_hollow ss c h
pushed_hollow c j e ss (Some f) h = h

pointer_hollow : (c : Core) (j : Job) (e : Entry) (p : ℕ) (o : Option ℕ) → IsHollow c → IsHollow (by_pointer c j e p o).core
pointer_hollow c j e p (Some s) h = pushed_hollow c j e (pushed j e p s) (first_fault c (pushed j e p s)) h
pointer_hollow c j e p None h = h

entry_hollow : (c : Core) (j : Job) (o : Option ℕ) (e : Option Entry) → IsHollow c → IsHollow (by_entry c j o e).core
entry_hollow c j (Some v) (Some e) h = pointer_hollow c j e (right_of v) (word_at c (right_of v)) h
entry_hollow c j (Some v) None h = h
entry_hollow c j None e h = h

length_hollow : (c : Core) (j : Job) (t : ℕ) (o : Option ℕ) → IsHollow c → IsHollow (by_length c j t o).core
length_hollow c j t (Some k) h = entry_hollow c j (word_at c t) (first_entry c j k (t + 1)) h
length_hollow c j t None h = h

table_hollow : (c : Core) (j : Job) (o : Option ℕ) → IsHollow c → IsHollow (by_table c j o).core
table_hollow c j (Some w) h = length_hollow c j (right_of w) (entries_of w) h
table_hollow c j None h = h

delivered_hollow : (c : Core) (j : Job) → IsHollow c → IsHollow (delivered c j).core
unfolding delivered through_table
delivered_hollow c j h = elim (cases_Bool (unguarded j == 0)) [ inl t ↦ rw t (table_hollow c j (word_at c 0o42) h) | inr t ↦ rw t h ]

-- every step keeps it
pub step_tight : (m n : Machine) (j : ℕ) → Tight m → step m j ≡ Some n → Tight n
step_tight m n j h e = step_has Tight m n j (λ q is.
    let p : IsHollow q.core = subst HollowIn is (h.cores j) in
    let d = delivered q.core q.job in
    record {
      delivers = job_tight (effects (informs d.stops q.superior) j m) j _ (λ i x. delivered_hollow q.core q.job p)
          (effects_tight (informs d.stops q.superior) j m h);
      changes = λ c k u. job_tight m j _ (λ i x. subst HollowOutcome u (unit_hollow q.core q.job p)) h;
      faults = λ f. job_tight m j _ (λ i x. x) h;
      calls = λ a. acted_tight m j a (reach m j q a) (decision m j q a) h;
    }) e
