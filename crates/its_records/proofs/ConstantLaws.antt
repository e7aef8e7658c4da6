-- The constants of the code are the numbers of the definitions.
use Rattle.std.specs.Prelude.{◌≡◌, refl}
use Rattle.its_records.specs.Links.{most_links, most_link_words}
use Rattle.its_records.specs.declared.link.TheConstants as link

pub links_are : (link.LINKS ≡ most_links) × (link.LINK_WORDS ≡ most_link_words)
links_are = (refl, refl)
