-- Ends of the program: exit status, line on standard error, and what an end tells of the devices and of what was written (confine's own).
use Rattle.std.specs.Prelude.{ℕ, ◌++◌, Bool, List, None, Option, Some, codes, false, true}
use Rattle.forms.specs.{declared.file.File.File, Files.file_word}
use Rattle.commands.specs.declared.end.{Asked.{Asked, TheVariants.{Actor, Object}}, End.{End, TheVariants.{CannotRead, CannotWrite}}}
use Rattle.commands.specs.declared.end.{End.TheVariants.{Misused, NoLabel, NoMemory, Status}, Misuse.{Misuse, TheVariants.{NeedlessRights, NoRights}}}

-- the line that says that a file couldn't be read
abbrev pub unread_message : File → List ℕ
unread_message file = codes "confine: cannot read " ++ file_word file

-- the line that says that the table has no such label
abbrev pub unlabelled_message : Asked → List ℕ
unlabelled_message Actor = codes "confine: A is no label of the table"
unlabelled_message Object = codes "confine: B is no label of the table"

-- the line that says that `--rights` is lacking, or needless
abbrev pub misuse_message : Misuse → List ℕ
misuse_message NoRights =
    codes "confine: this is a system description: say --rights least (each capability has the rights that its line needs) or --rights all (all that Microkit's tool may give it)"
misuse_message NeedlessRights =
    codes "confine: this text is empty or doesn't begin with '<', so it isn't a system description: leave out --rights for a capability table"

-- the line on standard error, without its line feed
abbrev pub message_of : End → Option (List ℕ)
message_of (Status status) = None
message_of NoMemory = Some (codes "confine: no memory")
message_of (CannotRead file) = Some (unread_message file)
message_of (NoLabel asked) = Some (unlabelled_message asked)
message_of (Misused misuse) = Some (misuse_message misuse)
message_of CannotWrite = Some (codes "confine: cannot write")

-- the exit status
abbrev pub status_of : End → ℕ
status_of (Status status) = status
status_of NoMemory = 2
status_of (CannotRead file) = 2
status_of (NoLabel asked) = 2
status_of (Misused misuse) = 2
status_of CannotWrite = 2

-- the file that couldn't be read
abbrev pub unread_file : End → Option File
unread_file (Status status) = None
unread_file NoMemory = None
unread_file (CannotRead file) = Some file
unread_file (NoLabel asked) = None
unread_file (Misused misuse) = None
unread_file CannotWrite = None

-- the answer couldn't be written
abbrev pub is_unwritable : End → Bool
is_unwritable (Status status) = false
is_unwritable NoMemory = false
is_unwritable (CannotRead file) = false
is_unwritable (NoLabel asked) = false
is_unwritable (Misused misuse) = false
is_unwritable CannotWrite = true

-- a fact for an end whose answer was written
abbrev pub IfStatus : End → (ℕ → Type 0) → Type 0
IfStatus (Status status) P = P status
IfStatus NoMemory P = Unit {0}
IfStatus (CannotRead file) P = Unit {0}
IfStatus (NoLabel asked) P = Unit {0}
IfStatus (Misused misuse) P = Unit {0}
IfStatus CannotWrite P = Unit {0}

-- a fact for an end before anything was written
abbrev pub IfUnwritten : End → Type 0 → Type 0
IfUnwritten (Status status) P = Unit {0}
IfUnwritten NoMemory P = P
IfUnwritten (CannotRead file) P = P
IfUnwritten (NoLabel asked) P = P
IfUnwritten (Misused misuse) P = P
IfUnwritten CannotWrite P = Unit {0}

-- a fact for an end whose answer couldn't be written
abbrev pub IfCannotWrite : End → Type 0 → Type 0
IfCannotWrite (Status status) P = Unit {0}
IfCannotWrite NoMemory P = Unit {0}
IfCannotWrite (CannotRead file) P = Unit {0}
IfCannotWrite (NoLabel asked) P = Unit {0}
IfCannotWrite (Misused misuse) P = Unit {0}
IfCannotWrite CannotWrite P = P

-- a fact for an end since a label isn't there
abbrev pub IfNoLabel : End → (Asked → Type 0) → Type 0
IfNoLabel (Status status) P = Unit {0}
IfNoLabel NoMemory P = Unit {0}
IfNoLabel (CannotRead file) P = Unit {0}
IfNoLabel (NoLabel asked) P = P asked
IfNoLabel (Misused misuse) P = Unit {0}
IfNoLabel CannotWrite P = Unit {0}

-- a fact for an end since the system isn't one that `--rights` is for, or needs it
abbrev pub IfMisused : End → (Misuse → Type 0) → Type 0
IfMisused (Status status) P = Unit {0}
IfMisused NoMemory P = Unit {0}
IfMisused (CannotRead file) P = Unit {0}
IfMisused (NoLabel asked) P = Unit {0}
IfMisused (Misused misuse) P = P misuse
IfMisused CannotWrite P = Unit {0}
