-- Groups of laws, each for the function whose name it has.
use Rattle.its_reader.proofs.ItemsLaws.{finds_beyond, finds_broken, finds_end, finds_line, finds_long}
use Rattle.its_reader.proofs.LinesLaws.{reads_broken, reads_last, reads_push, ready_open, ready_over, so_start}
use Rattle.its_reader.proofs.TextsLaws.{ready_open as texts_ready_open, ready_over as texts_ready_over, room_end, room_last, short_end, short_last, so_start as texts_so_start}

pub ruleset next_laws = (finds_line, finds_long, finds_beyond, finds_end, finds_broken)

pub ruleset lines_read_on_laws = (so_start, reads_push, reads_last, reads_broken, ready_open, ready_over)

pub ruleset texts_read_on_laws = (texts_so_start, texts_ready_open, texts_ready_over, short_end, short_last, room_end, room_last)
