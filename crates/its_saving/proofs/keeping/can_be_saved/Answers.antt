use Rattle.its_saving.proofs.KeepingLaws.{kept_types, kept_addressed, kept_worded}
use Rattle.its_saving.proofs.keeping.can_be_saved.Goals as goal

pub returns-clause-types : goal.returns-clause-types
returns-clause-types c = kept_types c.args.w.now c.keep_parts.ensures c.requires.kept c.requires.settled

pub returns-clause-addressed : goal.returns-clause-addressed
returns-clause-addressed c = kept_addressed c.args.w.now c.requires.kept

pub returns-clause-worded : goal.returns-clause-worded
returns-clause-worded c = kept_worded c.args.w.now c.keep_parts.ensures c.requires.kept c.requires.settled
