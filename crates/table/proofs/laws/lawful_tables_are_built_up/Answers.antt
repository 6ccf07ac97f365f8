-- A lawful table is the marked form of the draft in which all its capabilities are original.
use Rattle.std.proofs.{Common.{◌∙◌, ◌≡◌, ap, refl, subst, sym, true}, lemmas.List.Elements.All-map}
use Rattle.machine.specs.{declared.layout.Filled.Filled, Layout.Layout}
use Rattle.table.{specs.{Rules.IsLawful, Tree.tree_fault}, proofs.{BuiltUp.{built_from_draft, draft_from_built}, TreeLemmas.draft_remarked}}
use Rattle.table.proofs.TreeLemmas.{lawful_marked, marked_again, none_from_tree, remark, unmarked}
use Rattle.table.proofs.laws.lawful_tables_are_built_up.Goals as goal

pub returns : goal.returns
returns c = record {
  tables =
      λ t. (
        λ lawful. (
          unmarked t,
          built_from_draft (unmarked t) (draft_remarked (λ _. true) t lawful.draft)
              (All-map (λ (filled : Filled). filled.cap.original ≡ true) (remark (λ _. true)) t.caps (λ k d within. refl)),
          ap tree_fault (marked_again t lawful) ∙ none_from_tree t lawful.tree,
          sym (marked_again t lawful),
        ),
        λ made.
            let P : Layout → Type 0 = λ t. IsLawful t in
            subst P (sym made.3) (lawful_marked made.0 (draft_from_built made.1).0 made.2),
      );
}
