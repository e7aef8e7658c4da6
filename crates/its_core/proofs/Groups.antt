-- Groups of laws, each for the function whose name it has.
use Rattle.its_core.proofs.ReadLaws.{can_store_absent, can_store_acc, can_store_page, page_at, word_at_absent, word_at_acc, word_at_page, word_below}
use Rattle.its_core.proofs.RefusalLaws.{refusal_absent, refusal_none, refusal_none_acc, refusal_read_only}
use Rattle.its_core.proofs.SlotLaws.{word_past}

pub ruleset get_laws = (word_at_acc, word_at_page, word_at_absent, word_below, can_store_acc)

pub ruleset put_laws = (can_store_acc, can_store_page, can_store_absent, word_at_page, word_at_absent, page_at)

pub ruleset word_laws = (word_at_acc, word_at_page, word_at_absent, word_below, word_past)

pub ruleset refusal_laws = (refusal_absent, refusal_read_only, refusal_none, refusal_none_acc)
