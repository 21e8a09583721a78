use Rattle.swarm_duties.proofs.Reached.{order}
use Rattle.swarm_plain.specs.Plain.{world_of}
use Rattle.swarm_duties.proofs.effects.perform.Goals as goal

pub restart-requires : goal.restart-requires
restart-requires c = c.requires.small

pub start_update-requires : goal.start_update-requires
start_update-requires c = order (world_of c.args.plain.now) c.requires

pub replace_place-requires-clause-small : goal.replace_place-requires-clause-small
replace_place-requires-clause-small c = c.requires.small

pub replace_place-requires-clause-order : goal.replace_place-requires-clause-order
replace_place-requires-clause-order c = order (world_of c.args.plain.now) c.requires

pub create_replica-requires : goal.create_replica-requires
create_replica-requires c = c.requires.small

pub create_on_node-requires : goal.create_on_node-requires
create_on_node-requires c = c.requires.small

pub create_job_task-requires : goal.create_job_task-requires
create_job_task-requires c = c.requires.small

pub give_port-requires : goal.give_port-requires
give_port-requires c = order (world_of c.args.plain.now) c.requires

pub address_task-requires-clause-order : goal.address_task-requires-clause-order
address_task-requires-clause-order c = order (world_of c.args.plain.now) c.requires

pub address_task-requires-clause-subnets : goal.address_task-requires-clause-subnets
address_task-requires-clause-subnets c = c.requires.sound.subnets

pub explain_task-requires : goal.explain_task-requires
explain_task-requires c = order (world_of c.args.plain.now) c.requires

pub register-requires : goal.register-requires
register-requires c = c.requires.small

pub beat-requires : goal.beat-requires
beat-requires c = c.requires.small

pub apply-requires : goal.apply-requires
apply-requires c = c.requires.beside

pub pull-requires-clause-small : goal.pull-requires-clause-small
pull-requires-clause-small c = c.requires.small

pub pull-requires-clause-order : goal.pull-requires-clause-order
pull-requires-clause-order c = c.requires.beside

pub exec-requires : goal.exec-requires
exec-requires c = c.requires.small
