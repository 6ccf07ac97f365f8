-- The report of claims that don't hold: each with its line and what breaks it, an authority or an edge (confine's own).
use Rattle.std.specs.{List.flat_map, Prelude.{[], ℕ, ◌∷◌, Bool, List, None, Option, Some, codes, false, if◌then◌else◌, true}}
use Rattle.serde_json.specs.{Data.{Data, array, member, no_members, number, object, string, unsigned}, View.items_of}
use Rattle.{base.specs.declared.edge.Edge.Edge, machine.specs.Layout.Layout, captext.specs.PolicyText.label_name}
use Rattle.reach.specs.declared.extent.Extent.{Extent}
use Rattle.claims.specs.declared.{breaches.Breach.Breach, claim.{Claim.{Claim, Claim as claim}, Who.Who as who}}
use Rattle.claims.specs.{declared.{deciding.{Broken.Broken, Failure.{Failure, Failure as failure}}, keeping.Kept.Kept}, Claims.kept_word}
use Rattle.{claims.specs.{Lines.claim_at, Text.claim_text}, reptext.specs.{Reasons.edge_data, Reports.{extent_word, names_data}}}

-- whether the claim itself names the two labels that it bounds, or the edge that it excludes
abbrev pub names_both : Claim → Bool
names_both (claim.AtMost limit (who.One a) (who.One l)) = true
names_both (claim.Without (who.One a) kind (who.One l)) = true
names_both _ = false

-- a claim on authority that names the two labels is broken by an authority that goes so far
abbrev pub named_data : Layout → Claim → ℕ → Extent → Data
named_data t claim line extent =
    object (member (codes "authority") (string (extent_word extent))
    (member (codes "claim") (string (claim_text t claim))
    (member (codes "line") (number (unsigned line)) no_members)))

-- any other claim on authority is broken by this authority, which is given with its two labels
abbrev pub found_data : Layout → Claim → ℕ → Breach → Data
found_data t claim line breach =
    object (member (codes "authority") (string (extent_word breach.extent))
    (member (codes "claim") (string (claim_text t claim))
    (member (codes "line") (number (unsigned line))
    (member (codes "pair") (names_data (label_name t breach.actor ∷ label_name t breach.object ∷ [])) no_members))))

-- a claim on authority is broken by this authority; the two labels are added if the claim doesn't name them
abbrev pub pair_data : Layout → Claim → ℕ → Breach → Data
pair_data t claim line breach =
    if names_both claim then named_data t claim line breach.extent else found_data t claim line breach

-- a claim is broken
abbrev pub plain_data : Layout → Claim → ℕ → Data
plain_data t claim line =
    object (member (codes "claim") (string (claim_text t claim))
    (member (codes "line") (number (unsigned line)) no_members))

-- a claim is broken by an edge, which is added if the claim doesn't name it
abbrev pub excluded_data : Layout → Claim → ℕ → Edge → Data
excluded_data t claim line edge =
    if names_both claim then plain_data t claim line
    else object (member (codes "claim") (string (claim_text t claim))
    (member (codes "edge") (edge_data t edge)
    (member (codes "line") (number (unsigned line)) no_members)))

-- the entry of a claim that is broken for this reason
abbrev pub failure_data : Layout → Claim → ℕ → Failure → Data
failure_data t claim line (failure.Pair breach) = pair_data t claim line breach
failure_data t claim line failure.Chain = plain_data t claim line
failure_data t claim line (failure.Edge edge) = excluded_data t claim line edge

-- the entry of a line, which is one of the text's claims
abbrev pub told_of : Layout → Broken → Option Claim → List Data
told_of t broken None = []
told_of t broken (Some claim) = failure_data t claim broken.line broken.failure ∷ []

abbrev pub told : Layout → List (Option Claim) → Broken → List Data
told t lines broken = told_of t broken (claim_at lines broken.line)

-- the whole report
abbrev pub breaches_data : Layout → List (Option Claim) → List Broken → Kept → Data
breaches_data t lines broken kept =
    object (member (codes "broken") (array (items_of (flat_map (told t lines) broken)))
    (member (codes "kept") (string (kept_word kept))
    (member (codes "verdict") (string (codes "broken")) no_members)))
