use Rattle.std.proofs.Common.{Err, sym, subst}
use Rattle.script_grammar.specs.declared.lines.Line.TheVariants.{Wait}
use Rattle.swarm_input.proofs.Prefixes.{appends_none}
use Rattle.swarm_lines.proofs.Doing.{wait_line, wait_stops}
use Rattle.swarm_lines.proofs.lines.wait_out.Goals as goal
use Rattle.swarm_lines.specs.Inside.LineSteps.{DoesLine}
use Rattle.turn_cell.specs.Passes.{seen}

pub returns-in-Ok-clause-line : goal.returns-in-Ok-clause-line
returns-in-Ok-clause-line g c = λ out.
    wait_line c.args.ms (seen c.args.pass.now) (seen c.wait.new.pass) out (appends_none out) c.in-Ok.ensures.ok

pub returns-clause-line : goal.returns-clause-line
returns-clause-line g c = λ out.
    subst (λ e. DoesLine (Err e) (Wait c.args.ms) (seen c.args.pass.now) (seen c.wait.new.pass) out out)
    (sym c.ending_by.ensures)
    (wait_stops c.in-Err.cause c.args.ms (seen c.args.pass.now) (seen c.wait.new.pass) out c.in-Err.ensures.err)
