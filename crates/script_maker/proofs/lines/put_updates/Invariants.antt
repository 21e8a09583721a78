use Rattle.std.proofs.Common.{◌≡◌, ◌<◌, ◌^◌, ◌*◌, ◌++◌, string_bytes}
use Rattle.script_maker.specs.Draws.{state_after}
use Rattle.script_maker.specs.Script.{drawn_lines, update_line}
use Rattle.script_maker.proofs.lines.put_updates.Given as goal

abbrev pub invariant-loop-done : goal.invariant-loop-done
invariant-loop-done l = record {
  puts : string_bytes l.text ≡ string_bytes l.fn.text ++ drawn_lines update_line 5 6 l.fn.state l.done;
  state : l.state ≡ state_after (2 * l.done) l.fn.state;
  bound : l.state < 2 ^ 31;
}
