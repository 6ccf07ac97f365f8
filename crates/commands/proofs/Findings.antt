-- Answers that tell of a finding.
use Rattle.std.proofs.Common.{ℕ, ◌∙◌, ◌≡◌, List, subst, sym}
use Rattle.commands.specs.{declared.{answer.Answer.Answer, listener.Finding.Finding}, Commands.TellsFinding}

-- the text may be told by another, and what is so of the finding is so of the one that is told
pub finding_told : {told other : List ℕ} {found : Finding} {IsFinding : Finding → Type 0} {answer : Answer} → told ≡ other → IsFinding found
    → TellsFinding told (λ it. it ≡ found) answer → TellsFinding other IsFinding answer
finding_told {told} {other} {found} {IsFinding} same is finds = record {
  text = finds.text ∙ same;
  status = finds.status;
  finding = finds.finding;
  found = finds.found;
  is_so = subst IsFinding (sym finds.is_so) is;
  made = finds.made;
  script = finds.script;
}
