-- Texts that are written piece by piece: groups of labels, and lists of names.
use Rattle.{std.proofs.Common.{ℕ, ◌++◌, ◌∙◌, ◌≡◌, List, ap, append_assoc, sym, true}, machine.specs.Layout.Layout}
use Rattle.summary.specs.{declared.rows.Row.Row, Padding.given, Regions.{changers, group_of, group_text, leads, names_text, readers}}
use Rattle.summary.specs.Regions.{takers, users_text}

-- the group of a label that is the first of its group
pub group_there : (t : Layout) (rows : List Row) (others : List ℕ) (l : ℕ) (group changing taking reading old text longer : List ℕ)
    → leads rows others l ≡ true → group ≡ group_of rows others l → changing ≡ changers rows l → taking ≡ takers rows l
    → reading ≡ readers rows l → text ≡ old ++ names_text t group → longer ≡ text ++ users_text t changing taking reading
    → longer ≡ old ++ group_text t rows others l
group_there t rows others l group changing taking reading old text longer first group_is changing_is taking_is reading_is named used =
    let users = users_text t changing taking reading in
    used ∙ ap (λ bytes. bytes ++ users) named ∙ append_assoc old (names_text t group) users
    ∙ ap (λ labels. old ++ (names_text t labels ++ users)) group_is
    ∙ ap (λ labels. old ++ (names_text t (group_of rows others l) ++ users_text t labels taking reading)) changing_is
    ∙ ap (λ labels. old ++ (names_text t (group_of rows others l) ++ users_text t (changers rows l) labels reading)) taking_is
    ∙ ap (λ labels. old ++ (names_text t (group_of rows others l) ++ users_text t (changers rows l) (takers rows l) labels)) reading_is
    ∙ ap
    (λ there. old ++ given there (names_text t (group_of rows others l) ++ users_text t (changers rows l) (takers rows l) (readers rows l)))
    (sym first)
