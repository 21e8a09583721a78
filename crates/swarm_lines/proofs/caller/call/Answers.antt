use Rattle.swarm_lines.proofs.Stepping.{answered, unanswered}
use Rattle.swarm_lines.proofs.caller.call.Goals as goal
use Rattle.turn_cell.specs.Passes.{number_of, seen}

pub returns-in-Some-clause-err : goal.returns-in-Some-clause-err
returns-in-Some-clause-err g c =
    let p = c.args.pass.now in
    let t = c.call-answer.ensures.calls in
    let s = c.in-Some.ensures in
    unanswered (number_of p) (seen p) t.0 (seen c.call-answer.new.pass) c.args.call c.call-answer.result.reply
    c.in-Some.cause (c.requires.pass.1, t.1.0.0, t.1.1) t.2 s.0 s.1

pub returns-in-None-clause-ok : goal.returns-in-None-clause-ok
returns-in-None-clause-ok g c =
    let p = c.args.pass.now in
    let t = c.call-answer.ensures.calls in
    answered (number_of p) (seen p) t.0 (seen c.call-answer.new.pass) c.args.call c.call-answer.result.reply
    (c.requires.pass.1, t.1.0.0, t.1.1) t.2 c.in-None.ensures
