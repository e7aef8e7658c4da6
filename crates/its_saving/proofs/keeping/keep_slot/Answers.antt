use Rattle.its_saving.proofs.keeping.keep_slot.Goals as goal

pub returns : goal.returns
returns c = record { core = c.keep_core.ensures; job = c.keep_job_of.ensures; symbols = c.keep_symbols.ensures }
