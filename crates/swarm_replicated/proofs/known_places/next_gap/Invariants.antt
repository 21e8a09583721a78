use Rattle.std.proofs.Common.{◌≤◌}
use Rattle.swarm_replicated.proofs.Remembering.{Searches}
use Rattle.swarm_replicated.proofs.known_places.next_gap.Given as goal

abbrev pub invariant-loop-next : goal.invariant-loop-next
invariant-loop-next g l = record {
  within : l.next ≤ l.end;
  searches : Searches (g.R.Rows.tables l.rows) l.service l.gap l.next;
}
