-- A file that was opened, as a source: the file, or why it couldn't be opened (confine's own).
use Rattle.std.specs.{declared.io.{Error.Error, ErrorKind.ErrorKind}, IoError.error_kind, Prelude.{ℕ, Err, List, None, Ok, Option, Result}}
use Rattle.either.specs.{declared.Either.{Either, TheVariants.{Left, Right}}, Either.either}
use Rattle.devices.specs.{declared.{opened.Unopened.Unopened, watched.Watched.Watched}, Watched.{device_of, watched}}

-- a file that couldn't be opened, for this reason
abbrev pub unopened : ErrorKind → Unopened
unopened kind = record { 0 = kind }

-- what opening gave, before its first read
abbrev pub opened : {F : Type 0} → Result F Error → Watched (Either F Unopened)
opened (Ok file) = watched (Left file)
opened (Err error) = watched (Right (unopened (error_kind error)))

-- the bytes that are left of it, where they are known: none are of a file that couldn't be opened
abbrev pub bytes_left : {F : Type 0} → (F → Option (List ℕ)) → Watched (Either F Unopened) → Option (List ℕ)
bytes_left remaining source = either remaining (λ _. None) (device_of source)
