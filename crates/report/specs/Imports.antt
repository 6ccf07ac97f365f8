-- The answer of `import` to a system description: its capability table, or the claims that it makes (confine's own).
use Rattle.std.specs.Prelude.{ℕ, ◌≡◌, List, Ok}
use Rattle.{captext.specs.{TableText.table_text, Tables.read_table_of}, separation.specs.Claims.claims_text}
use Rattle.commands.specs.declared.{choices.{Imported.{Imported, Imported as imported}, OnImport.OnImport}, end.End.End}
use Rattle.commands.specs.{Commands.{Input, IsDoneOnDescription, Output, Says}, Described.Described}

-- a text is that of the table, which is read back as this table; or that of the description's claims, with the names of the table's labels
abbrev pub TellsImport : Imported → Described → List ℕ → Type 0
TellsImport imported.Table d text = (text ≡ table_text d.table) × (read_table_of text ≡ Ok d.table)
TellsImport imported.Claims d text = text ≡ claims_text d.table.labels d.description

-- a description was imported
abbrev pub IsImported : {S O : Type 0} → OnImport → Input S → Output O → End → Type 0
IsImported on_import = IsDoneOnDescription on_import.minting (λ d. Says (TellsImport on_import.writes d))
