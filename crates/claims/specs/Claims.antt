-- The words of claims, and when two claims are the same, word by word (confine's own).
use Rattle.std.specs.{Cmp.Lexicographic.pointwise, List.list_any, Prelude.{ℕ, ◌&&◌, ◌==◌, Bool, List, codes, false, true}}
use Rattle.base.specs.Kinds.{kind_number}
use Rattle.claims.specs.declared.claim.{Claim.{Claim, Claim as claim}, Most.{Most, Most as most}, Who.{Who, Who as who}}
use Rattle.claims.specs.declared.keeping.Kept.{Kept, Kept as kept}

-- whether a label is one of these
abbrev pub is_one_of : List ℕ → ℕ → Bool
is_one_of labels label = list_any (λ other. other == label) labels

-- the word of what a claim leaves
abbrev pub most_word : Most → List ℕ
most_word most.Nothing = codes "none"
most_word most.Take = codes "take"

-- the word of what is kept
abbrev pub kept_word : Kept → List ℕ
kept_word kept.Calls = codes "calls"
kept_word kept.Changes = codes "changes"

abbrev pub same_most : Most → Most → Bool
same_most most.Nothing most.Nothing = true
same_most most.Take most.Take = true
same_most _ _ = false

abbrev pub same_who : Who → Who → Bool
same_who (who.One label) (who.One that) = label == that
same_who who.Others who.Others = true
same_who _ _ = false

abbrev pub same_claim : Claim → Claim → Bool
same_claim (claim.AtMost limit actor object) (claim.AtMost least agent thing) =
    same_most limit least && (same_who actor agent && same_who object thing)
same_claim (claim.Only object actors) (claim.Only thing agents) = (object == thing) && pointwise ◌==◌ actors agents
same_claim (claim.Within actor objects) (claim.Within agent things) = (actor == agent) && pointwise ◌==◌ objects things
same_claim (claim.Readers object readers) (claim.Readers thing others) = (object == thing) && pointwise ◌==◌ readers others
same_claim (claim.Through from to filters) (claim.Through start end others) =
    (from == start) && ((to == end) && pointwise ◌==◌ filters others)
same_claim (claim.Without actor kind object) (claim.Without agent sort thing) =
    same_who actor agent && ((kind_number kind == kind_number sort) && same_who object thing)
same_claim _ _ = false
