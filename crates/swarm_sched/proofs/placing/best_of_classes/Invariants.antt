use Rattle.std.proofs.Common.{◌≡◌}
use Rattle.std.specs.Option.{option_copied}
use Rattle.std.specs.Prelude.{IfSome}
use Rattle.swarm_sched.proofs.ClassTurns.{IsTurned}
use Rattle.swarm_sched.proofs.placing.best_of_classes.Given as goal
use Rattle.swarm_sched.specs.Inside.Branches.{preferences}
use Rattle.swarm_sched.specs.Inside.Known.{Knows}
use Rattle.swarm_sched.specs.Inside.KnownRefusals.{KnowsOwn}
use Rattle.swarm_sched.specs.Inside.Placing.{IsNodeLoad}

abbrev pub invariant-loop-turn : goal.invariant-loop-turn
invariant-loop-turn g l =
    let t = g.R.Rows.tables l.rows in
    record {
      turned : IsTurned t l.task l.nodes l.orders (option_copied l.best) l.lead l.turn;
      held : IfSome l.best (λ b. IsNodeLoad t b.now.id l.task.service l.held);
      knows : Knows t l.known;
      own : l.branches ≡ preferences t l.task;
      group : KnowsOwn t l.task l.group;
    }
