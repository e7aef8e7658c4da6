-- The constant of the code is the number of the definition.
use Rattle.std.specs.Prelude.{◌≡◌, refl}
use Rattle.its_files.specs.Blocks.{most_files}
use Rattle.its_files.specs.declared.files.TheConstants as files

pub files_are : files.MOST_FILES ≡ most_files
files_are = refl
