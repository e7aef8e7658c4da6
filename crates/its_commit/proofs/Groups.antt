-- Groups of laws, each for the function whose name it has.
use Rattle.its_world.proofs.LinkLaws.{link_tidy}
use Rattle.its_world.proofs.MappedLaws.{mapped_becomes}
use Rattle.its_commit.proofs.ChangeLaws.{link_room, link_there, never_full, page_absent, page_clear, page_mapped, word_sent}
use Rattle.its_commit.proofs.TidyLaws.{link_pages}

pub ruleset send_laws = (link_pages, link_there, link_room, word_sent, link_tidy)

pub ruleset map_laws = (mapped_becomes, page_clear, page_absent, never_full, page_mapped)
