-- Software interrupts and their delivery (docs/MACHINE.md, "Interrupts").
-- A promise rests on this.
use Rattle.std.specs.Prelude.{if◌then◌else◌, ◌==◌, ℕ, zero, suc, ◌+◌, ◌-◌, ◌/◌, ◌%◌, ◌^◌, Bool, true, false, not, ◌&&◌, ◌||◌, Option, Some, None, List, [], ◌∷◌, Result, Ok, Err, nat_le, bit_and, bit_or}
use Rattle.its_word.specs.Word.{left_of, right_of, pair_of, complement_of}
use Rattle.its_word.specs.Core.{Core, word_at, can_store}
use Rattle.its_records.specs.declared.jobs.Job.{Job}
use Rattle.its_records.specs.declared.calls.Exit.{Exit}
use Rattle.its_word.specs.declared.access.Fault.{Fault}
use Rattle.its_word.specs.declared.access.Fault.TheVariants.{Mpv, Wro}
use Rattle.its_plain.specs.Machine.Registers.{pc_word, flags_of, with_pending, TBL, FATAL}
use Rattle.its_word.specs.declared.plan.Store.{Store}
use Rattle.its_plain.specs.Machine.{words_at}
use Rattle.its_word.specs.Stores.{first_fault, stored}

-- the pending bits that are enabled: their mask is on and their deferral is off; TBL never is
unfoldable pub enabled_1 : Job → ℕ
enabled_1 j = bit_and (bit_and j.pend1 j.mask1) (bit_and (complement_of j.defer1) (complement_of TBL))

unfoldable pub enabled_2 : Job → ℕ
enabled_2 j = bit_and (bit_and j.pend2 j.mask2) (complement_of j.defer2)

-- the pending fatal bits that are not enabled
unfoldable pub unguarded : Job → ℕ
unguarded j = bit_and (bit_and j.pend1 FATAL) (complement_of (enabled_1 j))

-- an interrupt can be delivered: a fatal bit is pending that is not enabled, or an enabled bit is
unfoldable pub deliverable : Job → Bool
deliverable j = not (unguarded j == 0) || (not (enabled_1 j == 0) || not (enabled_2 j == 0))

-- an entry of the interrupt table
pub record Entry : Type 0 where
  pub mask1 : ℕ
  pub mask2 : ℕ
  pub defer1 : ℕ
  pub defer2 : ℕ
  pub handler : ℕ

abbrev pub entry_of : Option (List ℕ) → Option Entry
entry_of (Some (a ∷ b ∷ c ∷ d ∷ h ∷ [])) = Some (record { mask1 = a; mask2 = b; defer1 = c; defer2 = d; handler = h })
entry_of _ = None

-- the entry of five words at an address, if none is absent
unfoldable pub entry_at : Core → ℕ → Option Entry
entry_at c a = entry_of (words_at c a 5)

-- the bits that an entry takes: those enabled ones that its masks meet
abbrev pub taken_1 : Job → Entry → ℕ
taken_1 j e = bit_and (enabled_1 j) e.mask1

abbrev pub taken_2 : Job → Entry → ℕ
taken_2 j e = bit_and (enabled_2 j) e.mask2

unfoldable pub meets : Job → Entry → Bool
meets j e = not (taken_1 j e == 0) || not (taken_2 j e == 0)

abbrev pub chosen : Job → Option Entry → Option Entry → Option Entry
chosen j (Some e) later = if meets j e then Some e else later
chosen j None later = None

-- the first of k entries from an address on whose masks meet the enabled bits; none if none does,
-- or if a word up to it is absent
unfoldable pub first_entry : Core → Job → ℕ → ℕ → Option Entry
first_entry c j zero a = None
first_entry c j (suc k) a = chosen j (entry_at c a) (first_entry c j k (a + 5))

-- how many entries the table has whose length, negated, is the left half of the word at 42: the
-- length is 1 + 5 k with k from 1 to 48
abbrev pub entries_by : ℕ → Option ℕ
entries_by n = if (n % 5 == 1) && (nat_le 6 n && nat_le n 241) then Some (n / 5) else None

unfoldable pub entries_of : ℕ → Option ℕ
entries_of w = entries_by (2 ^ 18 - left_of w)

-- the k-th place above a stack pointer word
abbrev pub above : ℕ → ℕ → ℕ
above s k = (right_of s + k) % 2 ^ 18

-- the five words that a delivery pushes, and the stack pointer word, at p, that is stored last
unfoldable pub pushed : Job → Entry → ℕ → ℕ → List Store
pushed j e p s =
    record { at = above s 1; word = taken_1 j e }
    ∷ record { at = above s 2; word = taken_2 j e }
    ∷ record { at = above s 3; word = j.defer1 }
    ∷ record { at = above s 4; word = j.defer2 }
    ∷ record { at = above s 5; word = pc_word j.flags j.pc }
    ∷ record { at = p; word = pair_of (left_of s + 5) (right_of s + 5) }
    ∷ []

-- the registers at the handler
unfoldable pub at_handler : Job → Entry → Job
at_handler j e = record j {
  pend1 = bit_and j.pend1 (complement_of (taken_1 j e));
  pend2 = bit_and j.pend2 (complement_of (taken_2 j e));
  defer1 = bit_or j.defer1 e.defer1;
  defer2 = bit_or j.defer2 e.defer2;
  pc = right_of e.handler;
  flags = 0;
}

-- the result of a delivery: the core and the registers, and whether a fatal bit stopped the job
pub record Delivered : Type 0 where
  pub core : Core
  pub job : Job
  pub stops : Bool

-- a delivery that cannot be made sets TBL and changes nothing else
abbrev pub undelivered : Core → Job → Delivered
undelivered c j = record { core = c; job = with_pending j TBL; stops = false }

abbrev pub by_stores : Core → Job → Entry → List Store → Option Fault → Delivered
by_stores c j e ss None = record { core = stored c ss; job = at_handler j e; stops = false }
by_stores c j e ss (Some f) = undelivered c j

abbrev pub by_pointer : Core → Job → Entry → ℕ → Option ℕ → Delivered
by_pointer c j e p (Some s) = by_stores c j e (pushed j e p s) (first_fault c (pushed j e p s))
by_pointer c j e p None = undelivered c j

abbrev pub by_entry : Core → Job → Option ℕ → Option Entry → Delivered
by_entry c j (Some v) (Some e) = by_pointer c j e (right_of v) (word_at c (right_of v))
by_entry c j (Some v) None = undelivered c j
by_entry c j None e = undelivered c j

abbrev pub by_length : Core → Job → ℕ → Option ℕ → Delivered
by_length c j t (Some k) = by_entry c j (word_at c t) (first_entry c j k (t + 1))
by_length c j t None = undelivered c j

abbrev pub by_table : Core → Job → Option ℕ → Delivered
by_table c j (Some w) = by_length c j (right_of w) (entries_of w)
by_table c j None = undelivered c j

-- the delivery through the table that the word at 42 names
unfoldable pub through_table : Core → Job → Delivered
through_table c j = by_table c j (word_at c 0o42)

-- a delivery: a pending fatal bit that is not enabled stops the job, and else the table decides
unfoldable pub delivered : Core → Job → Delivered
delivered c j =
    if unguarded j == 0 then through_table c j
    else record { core = c; job = record j { stopped = true }; stops = true }

-- the registers that DISMIS leaves a job with, from the PC word and the deferrals that a delivery
-- pushed below the stack pointer word
abbrev pub after_dismissal_to : Job → ℕ → ℕ → ℕ → Exit
after_dismissal_to j w d2 d1 = record {
  pc = right_of w;
  flags = flags_of w;
  pend1 = j.pend1;
  pend2 = j.pend2;
  mask1 = j.mask1;
  mask2 = j.mask2;
  defer1 = d1;
  defer2 = d2;
}

abbrev pub below : ℕ → ℕ → ℕ
below s k = (right_of s + (2 ^ 18 - k)) % 2 ^ 18

abbrev pub after_dismissal_by : Job → Bool → Option ℕ → Option ℕ → Option ℕ → Result Exit Fault
after_dismissal_by j can (Some w) (Some d2) (Some d1) = if can then Ok (after_dismissal_to j w d2 d1) else Err Wro
after_dismissal_by j can _ _ _ = Err Mpv

abbrev pub after_dismissal_at : Core → Job → ℕ → Option ℕ → Result Exit Fault
after_dismissal_at c j p (Some s) =
    after_dismissal_by j (can_store c p) (word_at c (right_of s)) (word_at c (below s 1)) (word_at c (below s 2))
after_dismissal_at c j p None = Err Mpv

-- DISMIS through the stack pointer word at p: MPV if a word is absent, else WRO if p is read only
unfoldable pub after_dismissal : Core → Job → ℕ → Result Exit Fault
after_dismissal c j p = after_dismissal_at c j p (word_at c p)
