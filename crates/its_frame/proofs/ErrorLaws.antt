-- The error numbers of the code are those of the definitions.
use Rattle.std.specs.Prelude.{◌≡◌, refl}
use Rattle.its_frame.specs.Errors as error
use Rattle.its_frame.specs.declared.error.TheConstants as code

pub errors_are :
    (code.NO_CALL ≡ error.NO_CALL) × (code.TOO_FEW ≡ error.TOO_FEW) × (code.TOO_MANY ≡ error.TOO_MANY) × (code.BAD_CHANNEL ≡ error.BAD_CHANNEL)
    × (code.WRONG_DEVICE ≡ error.WRONG_DEVICE) × (code.NO_FILE ≡ error.NO_FILE) × (code.DIRECTORY_FULL ≡ error.DIRECTORY_FULL)
    × (code.DEVICE_FULL ≡ error.DEVICE_FULL)
    × (code.FILE_LOCKED ≡ error.FILE_LOCKED) × (code.NO_JOB ≡ error.NO_JOB) × (code.NOT_INFERIOR ≡ error.NOT_INFERIOR) × (code.NO_SLOT ≡ error.NO_SLOT)
    × (code.NO_CORE ≡ error.NO_CORE) × (code.BAD_PAGE ≡ error.BAD_PAGE) × (code.NO_WORD ≡ error.NO_WORD) × (code.WORD_IN_USE ≡ error.WORD_IN_USE)
    × (code.BAD_POINTER ≡ error.BAD_POINTER) × (code.OUT_OF_RANGE ≡ error.OUT_OF_RANGE) × (code.FILE_EXISTS ≡ error.FILE_EXISTS)
errors_are = (refl, refl, refl, refl, refl, refl, refl, refl, refl, refl, refl, refl, refl, refl, refl, refl, refl, refl, refl)
