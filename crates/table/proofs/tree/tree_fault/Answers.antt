-- That the loop finds the first pair that breaks a rule, if there is one.
use Rattle.std.proofs.{Common.{[], ◌<◌, ◌∙◌, ◌≡◌, ◌≤◌, ◌⊎◌, ap, arith, get_or, inl, inr, sym, true}, lemmas.Bool.cases_lt}
use Rattle.{std.proofs.lemmas.List.get_or_default, table.{specs.Tree.{is_kin, tree_of}, proofs.TreeLemmas.{fault_here, fault_nowhere}}}
use Rattle.table.proofs.tree.tree_fault.Goals as goal

pub returns-then-not-is_kin : goal.returns-then-not-is_kin
returns-then-not-is_kin c =
    sym
    (fault_here c.args.caps.now c.args.pairs.now c.loop-number.number _ c.loop-number-test.true c.loop-number.invariant
    (sym c.is_kin.ensures ∙ c.if-not-is_kin.true))

pub loop-number-preserved : goal.loop-number-preserved
loop-number-preserved c k d below = by (cases_lt k c.loop-number.number) where
  by : (k < c.loop-number.number) ⊎ (c.loop-number.number ≤ k) → is_kin (tree_of c.args.caps.now []) (get_or c.args.pairs.now k d) ≡ true
  by (inl earlier) = c.loop-number.invariant k d earlier
  by (inr late) =
      let same : k ≡ c.loop-number.number = omega arith in
      ap (λ i. is_kin (tree_of c.args.caps.now []) (get_or c.args.pairs.now i d)) same
      ∙ ap (is_kin (tree_of c.args.caps.now []))
      (get_or_default c.args.pairs.now c.loop-number.number d _ c.loop-number-test.true)
      ∙ sym c.is_kin.ensures ∙ c.if-not-is_kin.false

pub returns : goal.returns
returns c =
    sym
    (fault_nowhere c.args.caps.now c.args.pairs.now (record { parent = record { holder = record { 0 = 0 }; index = 0 }; child = record { holder = record { 0 = 0 }; index = 0 } })
    (λ k d within. c.loop-number.invariant k d (let t = c.loop-number-test.false in omega (arith, within, t))))
