-- The words so far.
use Rattle.std.{specs.List.join_with_byte, proofs.Common.{ℕ, ◌++◌, ◌∷◌, ◌≡◌, List, map, string_bytes, take}}
use Rattle.captext.specs.PolicyText.{label_name}
use Rattle.claims.proofs.writing.push_names.Given as goal

abbrev pub invariant-loop-label : goal.invariant-loop-label
invariant-loop-label l =
    (word : List ℕ) (words : List (List ℕ)) → string_bytes l.fn.text ≡ join_with_byte 32 (word ∷ words)
    → string_bytes l.text ≡ join_with_byte 32 (word ∷ (words ++ map (label_name l.table) (take l.label-index l.labels)))
