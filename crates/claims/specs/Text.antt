-- The spelling of claims (confine's own).
use Rattle.std.specs.{List.join_with_byte, Prelude.{[], ℕ, ◌∷◌, List, None, Option, Some, codes, map}}
use Rattle.{base.specs.Kinds.kind_name, words.specs.{Reading.list_text, Text.words_of}}
use Rattle.{machine.specs.Layout.Layout, captext.specs.PolicyText.label_name}
use Rattle.claims.specs.{declared.claim.{Claim.{Claim, Claim as claim}, Who.{Who, Who as who}}, Claims.most_word}

-- an end of a claim
abbrev pub end_word : Layout → Who → List ℕ
end_word t (who.One label) = label_name t label
end_word t who.Others = codes "*"

-- the words of a claim that keeps labels apart, but for filters
abbrev pub through_words : Layout → ℕ → ℕ → List ℕ → List (List ℕ)
through_words t from to [] = codes "apart" ∷ label_name t from ∷ label_name t to ∷ []
through_words t from to (filter ∷ filters) =
    codes "through" ∷ label_name t from ∷ label_name t to ∷ map (label_name t) (filter ∷ filters)

-- the words of a claim
abbrev pub claim_words : Layout → Claim → List (List ℕ)
claim_words t (claim.AtMost limit actor object) = most_word limit ∷ end_word t actor ∷ end_word t object ∷ []
claim_words t (claim.Only object actors) = codes "only" ∷ label_name t object ∷ map (label_name t) actors
claim_words t (claim.Within actor objects) = codes "within" ∷ label_name t actor ∷ map (label_name t) objects
claim_words t (claim.Readers object readers) = codes "readers" ∷ label_name t object ∷ map (label_name t) readers
claim_words t (claim.Through from to filters) = through_words t from to filters
claim_words t (claim.Without actor kind object) = codes "without" ∷ end_word t actor ∷ kind_name kind ∷ end_word t object ∷ []

-- a claim as it is told
abbrev pub claim_text : Layout → Claim → List ℕ
claim_text t claim = join_with_byte 32 (claim_words t claim)

-- the words of a line: none where it says nothing
abbrev pub entry_words : Layout → Option Claim → List (List ℕ)
entry_words t None = []
entry_words t (Some claim) = claim_words t claim

abbrev pub claims_header : List (List ℕ)
claims_header = words_of (codes "confine-claims 2")

-- the text of lines
abbrev pub lines_text : Layout → List (Option Claim) → List ℕ
lines_text t = list_text claims_header (entry_words t)
