-- The names follow the first two words.
use Rattle.std.{specs.List.join_with_byte, proofs.Common.{[], ◌∷◌, ◌≡◌, rules, string_bytes}}
use Rattle.captext.specs.PolicyText.{label_name}
use Rattle.claims.proofs.writing.list_text.Goals as goal

pub returns : goal.returns
returns c =
    let name = label_name c.args.table.now c.args.label in
    let begun : string_bytes c.in_ok-text.text ≡ join_with_byte 32 (c.args.word.now ∷ name ∷ []) = search rules in
    c.in_ok-push_names.ensures c.args.word.now (name ∷ []) begun
