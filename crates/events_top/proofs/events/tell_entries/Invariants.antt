use Rattle.std.proofs.Common.{◌≡◌, ◌≤◌, ◌-◌, List}
use Rattle.events_text.specs.Lines.{event_lines}
use Rattle.swarm_input.specs.Streams.{Puts, stream}
use Rattle.swarm_objects.specs.declared.calls.Entry.{Entry}
use Rattle.swarm_replay.specs.Inside.ReplaySteps.{IsReplaying}
use Rattle.events_top.proofs.events.tell_entries.Given as goal

-- these entries were done on both worlds, and their lines were put
abbrev pub invariant-loop-count : goal.invariant-loop-count
invariant-loop-count g l = record {
  at : (history : List Entry)
      × IsReplaying (g.S.Source.left l.fn.source) history l.after l.count l.input (g.S.Source.left l.source)
      × Puts (stream g.O.Sink.written g.O.Sink.faults l.fn.out l.out) (event_lines history);
  both : l.before ≡ l.after;
  few : l.count ≤ 300001;
  same : g.S.Source.faults l.source ≡ g.S.Source.faults l.fn.source;
  out_same : g.O.Sink.faults l.out ≡ g.O.Sink.faults l.fn.out;
}

abbrev pub decreases-loop-count : goal.decreases-loop-count
decreases-loop-count g l = 300001 - l.count
