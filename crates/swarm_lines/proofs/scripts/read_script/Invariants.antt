use Rattle.std.proofs.Common.{◌≡◌, ◌≤◌, ◌-◌}
use Rattle.std.specs.Io.KnownBytes.{Appends}
use Rattle.swarm_lines.proofs.scripts.read_script.Given as goal
use Rattle.swarm_lines.specs.Fitting.{AreFit}
use Rattle.swarm_lines.specs.Putting.{part_out, part_refused}
use Rattle.swarm_lines.specs.ScriptSteps.{IsReading}
use Rattle.swarm_model.specs.Own.{own}
use Rattle.turn_cell.specs.Passes.{IsPassOf, number_of, seen}

abbrev pub invariant-loop-line : goal.invariant-loop-line
invariant-loop-line g l = record {
  pass : IsPassOf l.cluster.cell l.pass × (number_of l.pass ≡ 0);
  reading : IsReading (g.S.Source.left l.fn.script) (seen l.pass) l.number l.input (g.S.Source.left l.script);
  fit : AreFit (own 0 (seen l.pass));
  out : Appends (g.O.Sink.written l.fn.out) (g.O.Sink.written l.out) (part_out (own 0 (seen l.pass)));
  refused : l.refused ≡ part_refused (own 0 (seen l.pass));
  counted : l.number ≤ l.input.read;
  read : l.input.read ≤ 16777216;
  same : g.O.Sink.faults l.out ≡ g.O.Sink.faults l.fn.out;
  same_script : g.S.Source.faults l.script ≡ g.S.Source.faults l.fn.script;
}

abbrev pub decreases-loop-line : goal.decreases-loop-line
decreases-loop-line g l = 16777216 - l.input.read
