use Rattle.std.proofs.Common.{rules, ◌≡◌, arith}
use Rattle.std.specs.Prelude.{filter}
use Rattle.swarm_objects.specs.Tasks.Words.{is_of}
use Rattle.swarm_store.proofs.Queries.{fewer, running-all}
use Rattle.swarm_store.proofs.state.State.running_of.Goals as goal
use Rattle.swarm_store.specs.Inside.State.{tables_now}

pub loop-task-init : goal.loop-task-init
loop-task-init c =
    let t = tables_now c.args.self.now in
    let s = c.args.service.now in
    let items : c.into_iter-task-iterator.result ≡ filter (is_of s.id) t.tasks = search rules in
    let sum = running-all s t.tasks c.into_iter-task-iterator.result items in
    let fits = fewer (is_of s.id) t.tasks c.into_iter-task-iterator.result items in
    record { sum = omega (arith, sum); fits = omega (arith, fits) }
