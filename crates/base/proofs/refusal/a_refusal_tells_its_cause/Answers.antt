use Rattle.base.proofs.CauseLemmas.{cause_no_memory, cause_no_misuse, cause_once, failure_once, memory_no_misuse, misuse_once, of_condition}
use Rattle.base.proofs.refusal.a_refusal_tells_its_cause.Goals as goal

pub returns : goal.returns
returns c =
    record {
      cause = cause_once;
      misuse = misuse_once;
      failure = failure_once;
      condition = of_condition;
      apart = cause_no_misuse;
      lasting = cause_no_memory;
      memory = memory_no_misuse;
    }
