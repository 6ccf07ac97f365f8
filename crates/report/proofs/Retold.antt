-- Answers whose text is that of another answer.
use Rattle.std.proofs.Common.{ℕ, ◌∙◌, ◌≡◌, ◌≤◌, List, arith}
use Rattle.commands.specs.{declared.{answer.Answer.Answer, listener.Finding.Finding}, Commands.{TellsFinding, IsPlain, Says}}

pub plain_retold : {told other : List ℕ} {exit : ℕ} {answer : Answer} → told ≡ other → IsPlain told exit answer → IsPlain other exit answer
plain_retold same plain = record { text = plain.text ∙ same; status = plain.status; bare = plain.bare }

pub finding_retold :
    {told other : List ℕ} {IsFinding : Finding → Type 0} {answer : Answer} → told ≡ other → TellsFinding told IsFinding answer → TellsFinding other IsFinding answer
finding_retold same finds = record {
  text = finds.text ∙ same;
  status = finds.status;
  finding = finds.finding;
  found = finds.found;
  is_so = finds.is_so;
  made = finds.made;
  script = finds.script;
}

-- the text of an answer is the one that it was made of
pub said :
    {IsSo : List ℕ → Type 0} {told : List ℕ} {answer : Answer} → IsSo told → IsPlain told 0 answer → Says IsSo answer × (answer.status ≤ 2)
said is plain = (record { so = rw plain.text is; status = plain.status; bare = plain.bare }, omega (arith, plain.status))
