use Rattle.std.proofs.Common.{◌≡◌, ◌++◌, drop, take}
use Rattle.swarm_objects.specs.Rows.{change_row, session_node}
use Rattle.swarm_plain.specs.Inside.Lookups.{beaten_at}
use Rattle.swarm_plain.proofs.remote.beat.Given as goal

abbrev pub invariant-loop-row : goal.invariant-loop-row
invariant-loop-row l =
    let change = change_row session_node l.node (beaten_at l.clock l.deadline) in
    take l.row-index l.sessions ++ change (drop l.row-index l.sessions) ≡ change l.initial.sessions
