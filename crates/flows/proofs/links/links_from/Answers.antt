-- Each turn goes one link back, from the last one on.
use Rattle.std.proofs.{Common.{[], ◌++◌, ◌+◌, ◌-◌, ◌<◌, ◌∷◌, ◌≡◌, ◌≢◌, Some, arith, length, refl, slice_get, subst}, lemmas.Grind.common_steps}
use Rattle.{std.proofs.lemmas.Option.slice_get_read, flows.proofs.FoundLinks.{IsOnTheWay, arrived, begun, link_left, link_taken}}
use Rattle.flows.proofs.links.links_from.Goals as goal

pub loop-left-init : goal.loop-left-init
loop-left-init c = (
  omega arith,
  λ limits filters to are found. begun limits filters c.args.from to c.args.links.now are found c.new-chain.result.items c.new-chain.ensures.items,
)

pub loop-left-preserved-then-number : goal.loop-left-preserved-then-number
loop-left-preserved-then-number c =
    let links = c.args.links.now in
    let left = c.loop-left.left in
    let link = c.index-links-left.result in
    let fewer : left - 1 < length links = omega (arith, c.loop-left.invariant.0, c.loop-left-test.true) in
    let next : left ≡ left - 1 + 1 = omega (arith, c.loop-left-test.true) in
    let there : slice_get links (left - 1) ≡ Some link = slice_get_read links (length links) (left - 1) link refl fewer c.index-links-left.is in
    let begins : link.from ≡ c.loop-left.at = omega (arith, c.if-number.true, c.number.ensures.value, c.number-in-loop-left.ensures.value) in
    let grown : c.push.new.self.items ≡ c.loop-left.chain.items ++ link ∷ [] = grind (arith, common_steps) in (
      omega (arith, fewer),
      λ limits filters to are found.
          link_taken limits filters c.args.from to links are c.loop-left.chain.items c.loop-left.at left (left - 1) link next there
          (c.loop-left.invariant.1 limits filters to are found) begins c.push.new.self.items grown,
    )

pub loop-left-preserved : goal.loop-left-preserved
loop-left-preserved c =
    let links = c.args.links.now in
    let left = c.loop-left.left in
    let link = c.index-links-left.result in
    let fewer : left - 1 < length links = omega (arith, c.loop-left.invariant.0, c.loop-left-test.true) in
    let next : left ≡ left - 1 + 1 = omega (arith, c.loop-left-test.true) in
    let there : slice_get links (left - 1) ≡ Some link = slice_get_read links (length links) (left - 1) link refl fewer c.index-links-left.is in
    let other : link.from ≢ c.loop-left.at =
    λ same. omega (arith, same, c.if-number.false, c.number.ensures.value, c.number-in-loop-left.ensures.value) in (
      omega (arith, fewer),
      λ limits filters to are found.
          link_left limits filters c.args.from to links are c.loop-left.chain.items c.loop-left.at left (left - 1) link next there
          (c.loop-left.invariant.1 limits filters to are found) other,
    )

pub returns : goal.returns
returns c limits filters to are found =
    let links = c.args.links.now in
    let done : c.loop-left.left ≡ 0 = omega (arith, c.loop-left-test.false) in
    arrived limits filters c.args.from to links are c.loop-left.chain.items c.loop-left.at
    (subst (λ n. IsOnTheWay limits filters c.args.from to links are c.loop-left.chain.items c.loop-left.at n) done
    (c.loop-left.invariant.1 limits filters to are found))
