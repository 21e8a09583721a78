use Rattle.std.proofs.Common.{◌≡◌, ◌+◌, ◌-◌, length}
use Rattle.swarm_input.specs.LineBuffer.{TakesOn}
use Rattle.swarm_input.proofs.input.Input.fill.Given as goal

abbrev pub invariant-loop-seen : goal.invariant-loop-seen
invariant-loop-seen g l = record {
  takes : TakesOn l.fn.self l.self (g.S.Source.left l.fn.script) (g.S.Source.left l.script);
  same : g.S.Source.faults l.script ≡ g.S.Source.faults l.fn.script;
}

abbrev pub decreases-loop-seen : goal.decreases-loop-seen
decreases-loop-seen g l = 16777217 - (l.self.read + length l.self.bytes)
