-- Why a line of the operator is refused, as a session says it.
-- No promise rests on this.
use Rattle.its_word.specs.declared.access.NoAccess.{NoAccess}
use Rattle.its_word.specs.declared.access.NoAccess.TheVariants.{Absent, ReadOnly}
use Rattle.its_records.specs.declared.session.Refusal.{Refusal}
use Rattle.its_records.specs.declared.session.Refusal.TheVariants as refusals

-- why the operator cannot have a word
abbrev pub refusal_of : NoAccess → Refusal
refusal_of Absent = refusals.NoPage
refusal_of ReadOnly = refusals.ReadOnly
