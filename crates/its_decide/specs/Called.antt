-- What the call of a caller looks at.
-- No promise rests on this.
use Rattle.its_plain.specs.Call.Decide.{target}
use Rattle.its_plain.specs.Machine.{Whole}
use Rattle.its_plain.specs.Machine.View.{View, view}
use Rattle.its_decide.specs.Seen.{machine_seen, raw_with}
use Rattle.its_decide.specs.declared.caller.Caller.{Caller}

-- its raw job
abbrev pub raw : Caller → Whole
raw c = raw_with c.seen.now c.slot c.job.now

abbrev pub looks : Caller → View
looks c = view (machine_seen c.seen.now) c.slot (raw c) (target (raw c) c.ask.now)
