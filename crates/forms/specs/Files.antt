-- The files that an engine reads.
use Rattle.std.specs.Prelude.{ℕ, List, codes}
use Rattle.forms.specs.declared.file.File.{File, TheVariants.{Certificate, Claims, Description, Log, New, Policy, Script, Table}}

-- the word for a file
abbrev pub file_word : File → List ℕ
file_word Table = codes "table"
file_word Policy = codes "policy"
file_word Certificate = codes "certificate"
file_word Script = codes "script"
file_word Log = codes "log"
file_word Claims = codes "claims"
file_word Description = codes "description"
file_word New = codes "new system"
