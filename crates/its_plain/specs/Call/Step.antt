-- One step of one job that may call the monitor: the delivery of an interrupt if one is
-- deliverable, else a unit, else the whole effect of its call if its decoding faults or it is
-- ready. One definition by cases says what it does: the machine after it, the bytes that it moves,
-- and the jobs that it disturbs.
-- A promise rests on this.
use Rattle.std.specs.Prelude.{◌&&◌, ℕ, Bool, true, false, not, Option, Some, None, List, [], ◌∷◌, length, Result, Ok, Err, is_some, option_map, unwrap_or}
use Rattle.its_word.specs.Byte.{deposit_of}
use Rattle.its_word.specs.Core.{Core, word_at}
use Rattle.its_word.specs.declared.access.Fault.{Fault}
use Rattle.its_records.specs.declared.calls.Ask.{Ask}
use Rattle.its_records.specs.declared.jobs.Job.{Job}
use Rattle.its_word.specs.declared.plan.Store.{Store}
use Rattle.its_frame.specs.declared.change.Change.{Change}
use Rattle.its_frame.specs.declared.change.Change.TheVariants as changes
use Rattle.its_frame.specs.declared.decision.Decision.{Decision}
use Rattle.its_frame.specs.declared.decision.Decision.TheVariants.{Waits, Goes, Ends, Gone}
use Rattle.its_frame.specs.declared.decision.Held.{Held}
use Rattle.its_plain.specs.Machine.Registers.{bit_of, with_pending}
use Rattle.its_plain.specs.Unit.Interrupt.{Delivered, deliverable, delivered}
use Rattle.its_plain.specs.Unit.{Outcome, Changed, Faulted, Called, unit}
use Rattle.its_plain.specs.Machine.{Whole, Machine}
use Rattle.its_plain.specs.Machine.Own.{with_stores, with_registers, after_leave}
use Rattle.its_plain.specs.Machine.Change.{in_job, effects}
use Rattle.its_plain.specs.Call.Moves.{Move, moves_of_all}
use Rattle.its_plain.specs.Call.Arguments.{input, debts, with_new_values}
use Rattle.its_plain.specs.Call.Decode.{ask}
use Rattle.its_plain.specs.Machine.View.{view}
use Rattle.its_plain.specs.Call.Decide.{decided, target, reach}
pub use Rattle.its_plain.specs.Call.Footprint.{among}

-- the held byte in its word, by the pointer that the call then has, and the call's new arguments
abbrev pub deposited : Core → ℕ → Held → Store
deposited c pointer h = record { at = h.place; word = deposit_of pointer (unwrap_or (word_at c h.place) 0) h.byte }

abbrev pub with_held : Ask → Option Held → Whole → Whole
with_held a (Some h) q = with_stores (deposited q.core (input a 1) h ∷ []) q
with_held a None q = q

abbrev pub after_moves : Ask → Option Held → List ℕ → Whole → Whole
after_moves a h vs q = with_stores (debts (with_new_values a vs) (length vs)) (with_held (with_new_values a vs) h q)

-- what a step does: the machine after it; the bytes that it moves; the slots, other than its own,
-- of the jobs that it disturbs; and whether it is a part of a call that goes on
pub record Transition : Type 0 where
  pub machine : Machine
  pub moves : List Move
  pub disturbs : List ℕ
  pub part : Bool

-- a step that moves no byte and disturbs nobody
abbrev pub quiet_step : Machine → Transition
quiet_step n = record { machine = n; moves = []; disturbs = []; part = false }

-- the result of a decision, for a call that reaches the jobs of these slots: first its changes,
-- then the stores into the own core, then the registers. A call that waits has no step
abbrev pub after_end : List Store → (Whole → Whole) → Whole → Whole
after_end ss f q = f (with_stores ss q)

unfoldable pub acted : Machine → ℕ → Ask → List ℕ → Decision → Option Transition
acted m j a ks (Waits r) = None
acted m j a ks (Goes cs h vs) = Some (record {
  machine = in_job (effects cs.items j m) j (after_moves a h vs.items);
  moves = moves_of_all cs.items j m;
  disturbs = ks;
  part = true;
})
acted m j a ks (Ends cs ss e) = Some (record {
  machine = in_job (effects cs.items j m) j (after_end ss.items (after_leave e));
  moves = moves_of_all cs.items j m;
  disturbs = ks;
  part = false;
})
acted m j a ks (Gone cs) = Some (record {
  machine = effects (changes.Remove j ∷ cs.items) j m;
  moves = moves_of_all (changes.Remove j ∷ cs.items) j m;
  disturbs = ks;
  part = false;
})

-- the decision of the call of job q in slot j
unfoldable pub decision : Machine → ℕ → Whole → Ask → Decision
decision m j q a = decided (view m j q (target q a)) a

-- a call by its decoding
abbrev pub with_fault : Fault → Whole → Whole
with_fault f q = with_registers (λ j. with_pending j (bit_of f)) q

abbrev pub by_ask : Machine → ℕ → Whole → Result Ask Fault → Option Transition
by_ask m j q (Ok a) = acted m j a (reach m j q a) (decision m j q a)
by_ask m j q (Err f) = Some (quiet_step (in_job m j (with_fault f)))

-- a unit that is done
abbrev pub with_core_and_job : Core → Job → Whole → Whole
with_core_and_job c j q = record q { core = c; job = j }

abbrev pub by_unit : Machine → ℕ → Whole → Outcome → Option Transition
by_unit m j q (Changed c k) = Some (quiet_step (in_job m j (with_core_and_job c k)))
by_unit m j q (Faulted f) = Some (quiet_step (in_job m j (with_fault f)))
by_unit m j q (Called s) = by_ask m j q (ask q.core s)

-- a delivery: if a fatal bit stops the job, INF is set in its superior
abbrev pub informed_slots : Bool → Option ℕ → List ℕ
informed_slots true (Some s) = s ∷ []
informed_slots true None = []
informed_slots false o = []

abbrev pub informs : Bool → Option ℕ → List Change
informs true (Some s) = changes.Inform s ∷ []
informs true None = []
informs false o = []

abbrev pub delivery : Machine → ℕ → Whole → Delivered → Transition
delivery m j q d = record {
  machine = in_job (effects (informs d.stops q.superior) j m) j (with_core_and_job d.core d.job);
  moves = [];
  disturbs = informed_slots d.stops q.superior;
  part = false;
}

abbrev pub by_delivery : Machine → ℕ → Whole → Bool → Option Transition
by_delivery m j q true = Some (delivery m j q (delivered q.core q.job))
by_delivery m j q false = by_unit m j q (unit q.core q.job)

abbrev pub unless_stopped : Machine → ℕ → Whole → Bool → Option Transition
unless_stopped m j q true = None
unless_stopped m j q false = by_delivery m j q (deliverable q.job)

abbrev pub transition_of : Machine → ℕ → Option Whole → Option Transition
transition_of m j (Some q) = unless_stopped m j q q.job.stopped
transition_of m j None = None

-- what a step of the job of a slot does; none if the slot is empty, its job is stopped, or its call
-- cannot go on
unfoldable pub transition : Machine → ℕ → Option Transition
transition m j = transition_of m j (m.jobs j)

-- the machine after a step of the job of a slot, if it has one
unfoldable pub step : Machine → ℕ → Option Machine
step m j = option_map (λ (t : Transition). t.machine) (transition m j)

-- the bytes that it moves
abbrev pub moves_in : Option Transition → List Move
moves_in (Some t) = t.moves
moves_in None = []

unfoldable pub moves : Machine → ℕ → List Move
moves m j = moves_in (transition m j)

-- a slot, other than its own, whose job it disturbs
abbrev pub disturbs_in : Option Transition → List ℕ
disturbs_in (Some t) = t.disturbs
disturbs_in None = []

unfoldable pub disturbed : Machine → ℕ → ℕ → Bool
disturbed m j k = among k (disturbs_in (transition m j))

-- slot k has a job in the second machine, and had none in the first
abbrev pub is_made : Machine → Machine → ℕ → Bool
is_made m n k = not (is_some (m.jobs k)) && is_some (n.jobs k)

-- a slot in which it makes a job
abbrev pub makes_in : Machine → ℕ → Option Transition → Bool
makes_in m k (Some t) = is_made m t.machine k
makes_in m k None = false

unfoldable pub makes : Machine → ℕ → ℕ → Bool
makes m j k = makes_in m k (transition m j)

-- it is a part of its call, after which PC stays, and not the call's end
abbrev pub part_in : Option Transition → Bool
part_in (Some t) = t.part
part_in None = false

unfoldable pub steps_on : Machine → ℕ → Bool
steps_on m j = part_in (transition m j)
