use Rattle.std.proofs.Common.{Ok, false, sym, subst}
use Rattle.swarm_input.proofs.Prefixes.{appends_none}
use Rattle.swarm_lines.proofs.Doing.{blank_line}
use Rattle.swarm_lines.proofs.lines.take_line.Goals as goal
use Rattle.swarm_lines.specs.Inside.LineSteps.{DoesLine}
use Rattle.turn_cell.specs.Passes.{seen}

pub returns-in-Blank-clause-line : goal.returns-in-Blank-clause-line
returns-in-Blank-clause-line g c =
    subst (λ said. DoesLine (Ok false) said (seen c.args.pass.now) (seen c.args.pass.now)
    (g.O.Sink.written c.args.out.now) (g.O.Sink.written c.args.out.now)) (sym c.in-Blank.is)
    (blank_line (seen c.args.pass.now) (g.O.Sink.written c.args.out.now) (appends_none (g.O.Sink.written c.args.out.now)))

pub returns-in-Call-clause-line : goal.returns-in-Call-clause-line
returns-in-Call-clause-line g c =
    subst (λ said. DoesLine c.answer.result said (seen c.args.pass.now) (seen c.answer.new.pass)
    (g.O.Sink.written c.args.out.now) (g.O.Sink.written c.answer.new.out)) (sym c.in-Call.is) c.answer.ensures.line

pub returns-in-Settle-clause-line : goal.returns-in-Settle-clause-line
returns-in-Settle-clause-line g c =
    subst (λ said. DoesLine c.settle.result said (seen c.args.pass.now) (seen c.settle.new.pass)
    (g.O.Sink.written c.args.out.now) (g.O.Sink.written c.settle.new.out)) (sym c.in-Settle.is) c.settle.ensures.line

pub returns-in-Wait-clause-line : goal.returns-in-Wait-clause-line
returns-in-Wait-clause-line g c =
    subst (λ said. DoesLine c.wait_out.result said (seen c.args.pass.now) (seen c.wait_out.new.pass)
    (g.O.Sink.written c.args.out.now) (g.O.Sink.written c.args.out.now)) (sym c.in-Wait.is)
    (c.wait_out.ensures.line (g.O.Sink.written c.args.out.now))
