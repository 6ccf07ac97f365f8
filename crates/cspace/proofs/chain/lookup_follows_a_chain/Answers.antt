-- A lookup ends in each way just as its chain does.
use Rattle.cspace.proofs.{EndLemmas.{empty_found, never_both, never_missing, unique, unique_failure}, LookupLemmas.{ends, failed, fails}}
use Rattle.cspace.proofs.LookupLemmas.{finds, found}
use Rattle.cspace.proofs.chain.lookup_follows_a_chain.Goals as goal

pub returns-clause-found : goal.returns-clause-found
returns-clause-found c =
    λ m thread address slot left takes. (finds m thread address slot left takes, found m thread address slot left takes)

pub returns-clause-failed : goal.returns-clause-failed
returns-clause-failed c =
    λ m thread address failure takes. (fails m thread address failure takes, failed m thread address failure takes)

pub returns-clause-either : goal.returns-clause-either
returns-clause-either c = ends

pub returns-clause-unique : goal.returns-clause-unique
returns-clause-unique c = unique

pub returns-clause-unique_failure : goal.returns-clause-unique_failure
returns-clause-unique_failure c = unique_failure

pub returns-clause-never_both : goal.returns-clause-never_both
returns-clause-never_both c = never_both

pub returns-clause-never_missing : goal.returns-clause-never_missing
returns-clause-never_missing c = never_missing

pub returns-clause-empty_found : goal.returns-clause-empty_found
returns-clause-empty_found c = empty_found
