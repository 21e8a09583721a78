use Rattle.swarm_model.proofs.Following.Kept.{kept-law}
use Rattle.swarm_model.proofs.Following.KeptAlone.{kept-alone-law, kept-stop-law}
use Rattle.swarm_model.proofs.Following.KeptLast.{kept-last-law, kept-undone-law}
use Rattle.swarm_model.proofs.theorems.kept_entries_follow.Goals as goal

pub returns-clause-many : goal.returns-clause-many
returns-clause-many c = kept-law

pub returns-clause-alone : goal.returns-clause-alone
returns-clause-alone c = kept-alone-law

pub returns-clause-last : goal.returns-clause-last
returns-clause-last c = kept-last-law

pub returns-clause-undone : goal.returns-clause-undone
returns-clause-undone c = kept-undone-law

pub returns-clause-stop : goal.returns-clause-stop
returns-clause-stop c = kept-stop-law
