-- That the status is that of the request's end, unless the lines can't be written.
use Rattle.std.{specs.Global.Vec, proofs.Common.{ℕ, ◌<◌, ◌∙◌, ◌≡◌, ◌⊎◌, ap, inl, inr, subst, sym}}
use Rattle.{devices.specs.{declared.watched.Watched.Watched, Watched.device_of}, commands.specs.{declared.end.End.End, Ends.status_of}}
use Rattle.requests.specs.declared.request.{Check.Check as CheckOf, Request.{Request, TheVariants.{Check, OfClaims, OfDescription}}}
use Rattle.requests.specs.{declared.request.Request.TheVariants.{OfPolicy, OfSystem, OfThree, OfTwo}, Requests.{HaveArrived, OnEach}}
use Rattle.serving.proofs.answering.answer_short.Goals as goal

status_is :
    {told : ℕ} (written end : End) → told ≡ status_of written → (status_of written ≡ status_of end) ⊎ (status_of written ≡ 2)
    → (told ≡ status_of end) ⊎ (told ≡ 2)
status_is written end says (inl same) = inl (says ∙ same)
status_is written end says (inr two) = inr (says ∙ two)

has_arrived :
    {N M : Type 0} (R : N → M → Type 0) (arrived : ℕ → Type 0) (names : Request N) (files : Request M) → OnEach R names files
    → HaveArrived arrived files → HaveArrived arrived names
has_arrived R arrived (OfDescription asked d) files each have = tt
has_arrived R arrived (OfSystem asked taken s) files each have = tt
has_arrived R arrived (OfPolicy asked taken s p) files each have = tt
has_arrived R arrived (OfClaims taken s c) files each have = tt
has_arrived R arrived (OfTwo form taken o n) files each have = tt
has_arrived R arrived (Check asked t p) (Check also u q) each have = subst (λ (check : CheckOf). (worker : ℕ) → worker < check.workers → arrived worker) (sym each.0) have
has_arrived R arrived (Check asked t p) (OfDescription also d) each have = absurd each
has_arrived R arrived (Check asked t p) (OfSystem also taken s) each have = absurd each
has_arrived R arrived (Check asked t p) (OfPolicy also taken s q) each have = absurd each
has_arrived R arrived (Check asked t p) (OfClaims taken s c) each have = absurd each
has_arrived R arrived (Check asked t p) (OfTwo form taken o n) each have = absurd each
has_arrived R arrived (Check asked t p) (OfThree also u q x) each have = absurd each
has_arrived R arrived (OfThree asked t p x) files each have = tt

pub returns-clause-served : goal.returns-clause-served
returns-clause-served g c = record {
  files = c.open_all-files.result;
  end = c.serve-end.result.0;
  before = c.new-kept.result;
  after = c.serve-end.new.out;
  opened = c.open_all-files.ensures.opened;
  empty = ap (λ (d : Watched (Vec ℕ)). (device_of d).items) c.new-kept.ensures ∙ c.new.ensures.items;
  done = c.serve-end.ensures.served;
  exit = status_is c.write-end.result c.serve-end.result.0 c.tell-status.ensures c.write-end.ensures;
}

pub returns-clause-arrived : goal.returns-clause-arrived
returns-clause-arrived g c none =
    elim c.write-end.ensures [
      | inl same ↦ has_arrived _ (g.G.Gate.HasArrived c.args.gate.now) c.args.invocation.request c.open_all-files.result
          c.open_all-files.ensures.opened (c.serve-end.ensures.arrived (sym same ∙ sym c.tell-status.ensures ∙ none))
      | inr two ↦ absurd (let no : 2 ≡ 0 = sym two ∙ sym c.tell-status.ensures ∙ none in cc)
    ]
