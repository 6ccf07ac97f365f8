-- The policy that is read is the one that the definition reads, and the laws of policies and their texts hold of it.
use Rattle.words.{specs.Text.lines_of, proofs.{FirstFaults.{faults, refused_for}, ListLaws.{found, only}}}
use Rattle.captext.{specs.{Policies.{policy_format, read_policy_of}, PolicyText.policy_header}, proofs.PolicyLaws.{format, plain_header}}
use Rattle.captext.proofs.policies.read_policy.Goals as goal

pub returns : goal.returns
unfolding read_policy_of
returns c =
    let read = c.edges_of.ensures in
    let lines = format c.args.table.now c.keeps_rules.ensures in
    record {
      exact = read;
      found = found lines _ policy_header c.args.text.now c.edges_of.result read;
      only = only lines _ policy_header c.args.text.now c.edges_of.result plain_header read;
      faults = faults _ (policy_format c.args.table.now) (lines_of c.args.text.now) c.edges_of.result read;
      refused = refused_for _ (policy_format c.args.table.now) (lines_of c.args.text.now) c.edges_of.result read;
    }
