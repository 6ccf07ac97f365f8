-- The links by which the search found the label lead from there to the end.
use Rattle.std.proofs.Common.{◌∙◌, ◌≡◌, List, length, subst, sym, true}
use Rattle.{base.specs.Labels.is_in, reach.specs.Extents.limits_of, flows.specs.{declared.links.Link.Link, Chains.{AreFoundLinks, IsLinked}}}
use Rattle.flows.proofs.flowing.Flows.chain.Goals as goal

pub returns : goal.returns
returns c =
    let limits = limits_of c.args.self.now in
    let filters = is_in c.args.filters in
    let sources = c.in_ok-sources.ensures in
    let same = sym c.deref.ensures.value in
    let there : is_in c.in_ok-sources.sources.labels c.args.from ≡ true = sym c.has.ensures ∙ c.if-not-has.false in
    c.in_ok-links.ensures limits filters c.args.to
    (subst (λ (ls : List Link). AreFoundLinks limits filters c.args.to ls) same sources.links)
    (subst (λ (ls : List Link). IsLinked c.args.to ls (length ls) c.args.from) same (sources.found c.args.from there))
