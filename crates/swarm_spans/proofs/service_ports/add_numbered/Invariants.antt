use Rattle.std.specs.Prelude.{length}
use Rattle.swarm_spans.specs.Services.Touches.{HasPorts, Touching}
use Rattle.swarm_spans.proofs.service_ports.add_numbered.Given as goal

abbrev pub invariant-loop-change : goal.invariant-loop-change
invariant-loop-change g l =
    Touching (HasPorts (g.R.Rows.tables l.rows)) l.changes l.left l.initial.span l.span

abbrev pub decreases-loop-change : goal.decreases-loop-change
decreases-loop-change g l = length l.left
