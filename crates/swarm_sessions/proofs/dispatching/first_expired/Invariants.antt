use Rattle.std.proofs.Common.{◌≡◌}
use Rattle.swarm_objects.specs.Loops.Dispatcher.{is_expired}
use Rattle.swarm_objects.specs.Loops.Words.{duty_where}
use Rattle.swarm_objects.specs.Rows.{first_of}
use Rattle.swarm_objects.specs.declared.duties.Duty.TheVariants as duty
use Rattle.swarm_sessions.proofs.dispatching.first_expired.Given as goal

abbrev pub invariant-loop-node : goal.invariant-loop-node
invariant-loop-node g l =
    let t = g.R.Rows.tables l.rows in
    first_of (duty_where (is_expired t) (λ n. duty.Expire n.id) l.node-iterator)
    ≡ first_of (duty_where (is_expired t) (λ n. duty.Expire n.id) t.nodes)
