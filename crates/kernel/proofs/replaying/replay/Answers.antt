use Rattle.std.proofs.Common.{[], ◌++◌, ◌+◌, ◌∙◌, ◌∷◌, ◌≡◌, Bool, List, None, Ok, Some, ap, arith, length, refl, subst, sym, take}
use Rattle.std.proofs.Math.Seq.{take-length}
use Rattle.std.proofs.lemmas.{List.take_more, Option.slice_get_read, Result.err_from_is_err_and}
use Rattle.machine.specs.Step.{Step}
use Rattle.kernel.{specs.Legal.{Entry, Follows, IsLeftAt, LacksMemoryIn, IsLogBetween}, proofs.LegalLemmas.{led_further, left_is_reached, legal_ends, stops}}
use Rattle.kernel.proofs.replaying.replay.Goals as goal

-- the entry is no step from where those before it lead
pub returns-then-not-branch-clause-left : goal.returns-then-not-branch-clause-left
returns-then-not-branch-clause-left c =
    let entries : List Entry = c.args.entries.now in
    let i = c.loop-index.index in
    let entry : Entry = c.index-entries-index.result in
    stops c.args.state.now c.loop-index.state c.follow.new.state entries i entry
    (slice_get_read entries (length entries) i entry refl c.loop-index-test.true c.index-entries-index.is)
    c.loop-index.invariant.led
    (subst (λ (is : Bool). Follows c.loop-index.state entry.0 entry.1 c.follow.new.state is) c.if-not-branch.true c.in_ok-follow.ensures.followed)

pub returns-then-not-branch-clause-found : goal.returns-then-not-branch-clause-found
returns-then-not-branch-clause-found c = (returns-then-not-branch-clause-left c).0

pub returns-then-not-branch-clause-reached : goal.returns-then-not-branch-clause-reached
returns-then-not-branch-clause-reached c =
    left_is_reached c.args.state.now c.follow.new.state c.args.entries.now (Ok (Some c.loop-index.index)) (returns-then-not-branch-clause-left c)

-- it is the next step
pub loop-index-preserved : goal.loop-index-preserved
loop-index-preserved c =
    let entries : List Entry = c.args.entries.now in
    let i = c.loop-index.index in
    let entry : Entry = c.index-entries-index.result in
    let step : Step c.loop-index.state entry.0 entry.1 c.follow.new.state =
    subst (λ (is : Bool). Follows c.loop-index.state entry.0 entry.1 c.follow.new.state is) c.if-not-branch.false c.in_ok-follow.ensures.followed in
    let more : take (i + 1) entries ≡ take i entries ++ entry ∷ [] =
    take_more entries i entry c.loop-index-test.true ∙ ap (λ last. take i entries ++ last ∷ []) (sym c.index-entries-index.is) in
    record {
      led = rw more (led_further c.args.state.now c.loop-index.state c.follow.new.state (take i entries) entry c.loop-index.invariant.led step);
      formed = c.in_ok-follow.ensures.well_formed;
    }

-- memory is lacking for the entry
pub returns-in_err-follow-clause-left : goal.returns-in_err-follow-clause-left
returns-in_err-follow-clause-left c =
    let entries : List Entry = c.args.entries.now in
    let entry : Entry = c.index-entries-index.result in
    let lacks : LacksMemoryIn c.args.state.now entries =
    record {
      at = c.loop-index.index;
      entry = entry;
      here = slice_get_read entries (length entries) c.loop-index.index entry refl c.loop-index-test.true c.index-entries-index.is;
      last = c.loop-index.state;
      led = c.loop-index.invariant.led;
      lack = c.in_err-follow.ensures.refused.1;
    } in
    rw (err_from_is_err_and c.from_residual.result c.from_residual.ensures.1).1 (lacks, c.in_err-follow.ensures.kept)

pub returns-in_err-follow-clause-refused : goal.returns-in_err-follow-clause-refused
returns-in_err-follow-clause-refused c =
    let p = err_from_is_err_and c.from_residual.result c.from_residual.ensures.1 in
    let left : IsLeftAt c.args.state.now c.args.entries.now c.follow.new.state c.from_residual.result = returns-in_err-follow-clause-left c in
    rw p.1 (p.2 ∙ c.in_err-follow.ensures.refused.0, (rw p.1 at left).0)

pub returns-in_err-follow-clause-reached : goal.returns-in_err-follow-clause-reached
returns-in_err-follow-clause-reached c =
    left_is_reached c.args.state.now c.follow.new.state c.args.entries.now c.from_residual.result (returns-in_err-follow-clause-left c)

-- the ends of the entries that are steps
pub returns-then-not-branch-clause-ends : goal.returns-then-not-branch-clause-ends
returns-then-not-branch-clause-ends c =
    legal_ends c.args.state.now c.loop-index.state (take c.loop-index.index c.args.entries.now) c.loop-index.invariant.led

-- all entries are steps
pub returns-clause-left : goal.returns-clause-left
returns-clause-left c =
    let entries : List Entry = c.args.entries.now in
    let whole : take c.loop-index.index entries ≡ entries =
    ap (λ n. take n entries) (omega (arith, c.loop-index-test.false, c.loop-index.auto.index-end)) ∙ take-length entries in
    subst (λ (es : List Entry). IsLogBetween c.args.state.now es c.loop-index.state) whole c.loop-index.invariant.led

pub returns-clause-reached : goal.returns-clause-reached
returns-clause-reached c = left_is_reached c.args.state.now c.loop-index.state c.args.entries.now (Ok None) (returns-clause-left c)

pub returns-clause-ends : goal.returns-clause-ends
returns-clause-ends c = legal_ends c.args.state.now c.loop-index.state c.args.entries.now (returns-clause-left c)
