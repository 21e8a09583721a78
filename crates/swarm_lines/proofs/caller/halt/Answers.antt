use Rattle.swarm_lines.proofs.Stepping.{halts}
use Rattle.swarm_lines.proofs.caller.halt.Goals as goal
use Rattle.turn_cell.specs.Passes.{number_of, seen}

pub returns-clause-halts : goal.returns-clause-halts
returns-clause-halts g c =
    let p = c.args.pass.now in
    let t = c.call-answer.ensures.calls in
    halts (number_of p) (seen p) t.0 (seen c.call-answer.new.pass) c.call-answer.result.reply
    (c.requires.pass.1, t.1.0.0, t.1.1) t.2
