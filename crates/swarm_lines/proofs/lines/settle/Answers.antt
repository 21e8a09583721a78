use Rattle.std.proofs.Common.{Err, sym, subst}
use Rattle.script_grammar.specs.declared.lines.Line.TheVariants.{Settle}
use Rattle.swarm_lines.proofs.Doing.{settle_line, settle_stops}
use Rattle.swarm_lines.proofs.lines.settle.Goals as goal
use Rattle.swarm_lines.specs.Inside.LineSteps.{DoesLine}
use Rattle.turn_cell.specs.Passes.{seen}

pub returns-in-Ok-clause-line : goal.returns-in-Ok-clause-line
returns-in-Ok-clause-line g c =
    settle_line c.answer.result c.args.budget (seen c.args.pass.now) (seen c.take_duties.new.pass)
    (seen c.answer.new.pass) _ _ c.in-Ok.ensures.ok c.answer.ensures.line

pub returns-clause-line : goal.returns-clause-line
returns-clause-line g c =
    subst (λ e. DoesLine (Err e) (Settle c.args.budget) (seen c.args.pass.now) (seen c.take_duties.new.pass)
    (g.O.Sink.written c.args.out.now) (g.O.Sink.written c.args.out.now)) (sym c.ending_by.ensures)
    (settle_stops c.in-Err.cause c.args.budget (seen c.args.pass.now) (seen c.take_duties.new.pass)
    (g.O.Sink.written c.args.out.now) c.in-Err.ensures.err)
