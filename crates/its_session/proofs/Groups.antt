-- Groups of laws, each for the function whose name it has.
use Rattle.its_session.proofs.RowLaws.{bytes_consoles, bytes_formed, bytes_ranged, count_of_words, first_two, first_word, numbers_consoles, numbers_formed, numbers_ranged}

pub ruleset words_laws = (numbers_formed, numbers_ranged, numbers_consoles, count_of_words)

pub ruleset type_in_laws = (first_word, bytes_formed, bytes_ranged, bytes_consoles)

pub ruleset wrote_laws = (first_two, numbers_formed, numbers_ranged, numbers_consoles)

pub ruleset sent_laws = (first_word, numbers_formed, numbers_ranged, numbers_consoles)
