-- Why a line of the operator is refused, as a session says it.
-- No promise rests on this.
use Rattle.its_records.specs.declared.session.Reason.{Reason}
use Rattle.its_records.specs.declared.session.Reason.TheVariants as reasons
use Rattle.its_records.specs.declared.session.Refusal.{Refusal}
use Rattle.its_records.specs.declared.session.Refusal.TheVariants as refusals

-- a refusal, as a session says it
abbrev pub reason_of : Refusal → Reason
reason_of refusals.NoJob = reasons.NoJob
reason_of refusals.NoPage = reasons.NoPage
reason_of refusals.ReadOnly = reasons.ReadOnly
reason_of refusals.NoFile = reasons.NoFile
reason_of refusals.Exists = reasons.Exists
reason_of refusals.Full = reasons.Full
reason_of refusals.Unfit = reasons.Unfit
reason_of refusals.Range = reasons.Range
