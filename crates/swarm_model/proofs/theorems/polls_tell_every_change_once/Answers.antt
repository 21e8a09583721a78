use Rattle.swarm_model.proofs.Watching.AllChanges.{all-changes}
use Rattle.swarm_model.proofs.Watching.InOrder.{all-in-order}
use Rattle.swarm_model.proofs.Watching.Polls.{poll-tells-all, told-once}
use Rattle.swarm_model.proofs.Watching.Waiting.{all-wait}
use Rattle.swarm_model.proofs.theorems.polls_tell_every_change_once.Goals as goal

pub returns-clause-changes : goal.returns-clause-changes
returns-clause-changes c = all-changes

pub returns-clause-order : goal.returns-clause-order
returns-clause-order c = all-in-order

pub returns-clause-waiting : goal.returns-clause-waiting
returns-clause-waiting c = all-wait

pub returns-clause-told : goal.returns-clause-told
returns-clause-told c = poll-tells-all

pub returns-clause-once : goal.returns-clause-once
returns-clause-once c = told-once
