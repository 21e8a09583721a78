use Rattle.std.proofs.Common.{◌≡◌, ◌≤◌, ◌-◌, List}
use Rattle.swarm_objects.specs.declared.calls.Entry.{Entry}
use Rattle.swarm_replay.specs.Inside.ReplaySteps.{IsReplaying}
use Rattle.swarm_replay.proofs.replays.read_entries.Given as goal

abbrev pub invariant-loop-count : goal.invariant-loop-count
invariant-loop-count g l = record {
  at : (history : List Entry)
      × IsReplaying (g.S.Source.left l.fn.source) history l.world l.count l.input (g.S.Source.left l.source);
  few : l.count ≤ 300001;
  same : g.S.Source.faults l.source ≡ g.S.Source.faults l.fn.source;
}

abbrev pub decreases-loop-count : goal.decreases-loop-count
decreases-loop-count g l = 300001 - l.count
