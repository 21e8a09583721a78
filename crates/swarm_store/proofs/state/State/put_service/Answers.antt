use Rattle.swarm_objects.specs.Rows.{service_id}
use Rattle.swarm_model.proofs.Base.Answers.{on-ok}
use Rattle.swarm_store.proofs.Standing.{id-there, service-put}
use Rattle.swarm_store.proofs.state.State.put_service.Goals as goal
use Rattle.swarm_store.specs.Inside.State.{tables_now}

pub put-requires : goal.put-requires
put-requires c =
    id-there service_id c.args.service.id c.args.self.now.services.rows c.requires.stands.ordered.services c.requires.there

pub returns-clause-ok : goal.returns-clause-ok
returns-clause-ok c =
    on-ok c.put.result
    (service-put (tables_now c.args.self.now) c.args.service c.put.new.self.rows c.requires.stands c.requires.there) c.put.ensures.ok
