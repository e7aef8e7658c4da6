-- What a unit leaves as it was.
use Rattle.std.proofs.Common.{◌≡◌, ◌<◌, ◌/◌, ◌%◌, ◌^◌, ℕ, zero, suc, Bool, List, [], ◌∷◌, Option, Some, None, Result, Ok, Err, refl, ◌∙◌, subst, inl, inr, is_some, option_map, slice_get, slice_set, nat_lt, arith}
use Rattle.std.proofs.lemmas.Bool.{cases_Bool}
use Rattle.std.proofs.lemmas.Nat.{and_assoc, mod_below}
use Rattle.its_word.specs.Core.{Core, Page, word_at, can_store, store, page_of, page_stored, present, pages_present}
use Rattle.its_word.specs.declared.access.Fault.{Fault}
use Rattle.its_records.specs.declared.jobs.Job.{Job}
use Rattle.its_word.specs.declared.instruction.Instruction.{Instruction}
use Rattle.its_word.specs.declared.instruction.Instruction.TheVariants.{Iot, Call}
use Rattle.its_word.specs.declared.plan.Context.{Context}
use Rattle.its_word.specs.declared.plan.Plan.{Plan}
use Rattle.its_word.specs.declared.plan.Reached.{Reached}
use Rattle.its_word.specs.declared.plan.Store.{Store}
use Rattle.its_word.proofs.CoreLaws.{can_store-store, is_some-store}
use Rattle.its_word.proofs.PageLaws.{pages_present-store}
use Rattle.its_plain.specs.Machine.Registers.{named_flags}
use Rattle.its_plain.specs.Unit.Plans.{Planned}
use Rattle.its_word.specs.Stores.{first_fault, place, stored}
use Rattle.its_plain.specs.Unit.{Outcome, Changed, Faulted, Called, after_plan, made, outcome_of, outcome_at, done_by, reached, row_of, unit}

-- whether a page can be stored to, if it is present
abbrev pub mark_at : Core → ℕ → Option Bool
mark_at c n = option_map (λ p. p.writable) (page_of c n)

-- a core whose pages, and their marks, are those of another
pub record SamePages (old new : Core) : Type 0 where
  pub words : (a : ℕ) → is_some (word_at new a) ≡ is_some (word_at old a)
  pub stores : (a : ℕ) → can_store new a ≡ can_store old a
  pub marks : (n : ℕ) → mark_at new n ≡ mark_at old n
  pub count : pages_present new ≡ pages_present old

-- a job whose registers, except for PC, flags and pending word 1, are those of another
pub record SameRegisters (old new : Job) : Type 0 where
  pub stopped : new.stopped ≡ old.stopped
  pub pend2 : new.pend2 ≡ old.pend2
  pub mask1 : new.mask1 ≡ old.mask1
  pub mask2 : new.mask2 ≡ old.mask2
  pub defer1 : new.defer1 ≡ old.defer1
  pub defer2 : new.defer2 ≡ old.defer2
  pub uname : new.uname ≡ old.uname
  pub jname : new.jname ≡ old.jname
  pub console : new.console ≡ old.console
  pub channels : new.channels ≡ old.channels

-- what a unit that does not fault leaves
pub record Keeps (c : Core) (j : Job) (d : Core) (k : Job) : Type 0 where
  pub pages : SamePages c d
  pub registers : SameRegisters j k
  pub pc : k.pc < 2 ^ 18
  pub flags : named_flags k.flags ≡ k.flags

mark_stored : (p : Option Page) (j w : ℕ) → option_map (λ q. q.writable) (page_stored p j w) ≡ option_map (λ q. q.writable) p
mark_stored None j w = refl
mark_stored (Some p) j w = refl

marks_set : (ps : List (Option Page)) (k n : ℕ) (p : Option Page) → option_map (λ q. q.writable) p ≡ option_map (λ q. q.writable) (present (slice_get ps k))
    → option_map (λ q. q.writable) (present (slice_get (slice_set ps k p) n)) ≡ option_map (λ q. q.writable) (present (slice_get ps n))
marks_set [] k n p h = refl
marks_set (Some q ∷ ps) zero zero None h = cc
marks_set (Some q ∷ ps) zero zero (Some p) h = h
marks_set (None ∷ ps) zero zero None h = h
marks_set (None ∷ ps) zero zero (Some p) h = cc
marks_set (q ∷ ps) zero (suc n) p h = refl
marks_set (q ∷ ps) (suc k) zero p h = refl
marks_set (q ∷ ps) (suc k) (suc n) p h = marks_set ps k n p h

mark_at-store : (c : Core) (a w n : ℕ) → mark_at (store c a w) n ≡ mark_at c n
unfolding page_of store
mark_at-store c a w n = elim (cases_Bool (nat_lt a 16)) [
  | inl t ↦ rw t refl
  | inr t ↦ rw t (marks_set c.pages (a / 1024) n _ (mark_stored (present (slice_get c.pages (a / 1024))) (a % 1024) w))
]

pages_stored : (c : Core) (ss : List Store) → SamePages c (stored c ss)
unfolding stored
pages_stored c [] = record { words = λ a. refl; stores = λ a. refl; marks = λ n. refl; count = refl }
pages_stored c (s ∷ ss) =
    let r = pages_stored (store c (place s) s.word) ss in
    record {
      words = λ a. r.words a ∙ is_some-store c (place s) a s.word;
      stores = λ a. r.stores a ∙ can_store-store c (place s) a s.word;
      marks = λ n. r.marks n ∙ mark_at-store c (place s) s.word n;
      count = r.count ∙ pages_present-store c (place s) s.word;
    }

registers_left : (j : Job) (p : Plan) → SameRegisters j (after_plan j p)
registers_left j p = record {
  stopped = refl;
  pend2 = refl;
  mask1 = refl;
  mask2 = refl;
  defer1 = refl;
  defer2 = refl;
  uname = refl;
  jname = refl;
  console = refl;
  channels = refl;
}

named_twice : (f : ℕ) → named_flags (named_flags f) ≡ named_flags f
named_twice f = and_assoc 0o760040 f 0o760040

plan_keeps : (c : Core) (j : Job) (p : Plan) → Keeps c j (stored c p.stores.items) (after_plan j p)
plan_keeps c j p = record {
  pages = pages_stored c p.stores.items;
  registers = registers_left j p;
  pc = mod_below p.pc (2 ^ 18) (omega arith);
  flags = named_twice p.flags;
}

-- an outcome keeps what a unit keeps, if it is a change
abbrev pub IsKept : Core → Job → Outcome → Type 0
IsKept c j (Changed d k) = Keeps c j d k
IsKept c j (Faulted f) = Unit {0}
IsKept c j (Called s) = Unit {0}

made_kept : (c : Core) (j : Job) (p : Plan) (f : Option Fault) → IsKept c j (made c j p f)
made_kept c j p None = plan_keeps c j p
made_kept c j p (Some f) = tt

planned_kept : (c : Core) (j : Job) (p : Planned) → IsKept c j (outcome_of c j p)
planned_kept c j (Ok p) = made_kept c j p (first_fault c p.stores.items)
planned_kept c j (Err f) = tt

done_kept : (c : Core) (j : Job) (reads : List ℕ) (x : Context) (i : Instruction) → IsKept c j (done_by c j reads x i)
unfolding done_by
done_kept c j reads x Iot = tt
done_kept c j reads x Call = tt
done_kept c j reads x i = planned_kept c j (row_of c x i)

outcome_kept : (c : Core) (j : Job) (reads : List ℕ) (r : Result Reached Fault) → IsKept c j (outcome_at c j reads r)
outcome_kept c j reads (Ok r) = done_kept c j reads r.context r.instruction
outcome_kept c j reads (Err f) = tt

unit_kept : (c : Core) (j : Job) → IsKept c j (unit c j)
unfolding unit
unit_kept c j = outcome_kept c j (reached c j).reads (reached c j).answer

-- a unit keeps pages, their marks, and the registers that are no part of it; PC has 18 bits, and
-- the flags are named ones
pub unit_keeps : (c : Core) (j : Job) (d : Core) (k : Job) → unit c j ≡ Changed d k → Keeps c j d k
unit_keeps c j d k e = subst (IsKept c j) e (unit_kept c j)
