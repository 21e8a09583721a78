use Rattle.std.proofs.Common.{◌≡◌, arith}
use Rattle.swarm_lines.proofs.Stretching.{stops_turns, waited}
use Rattle.swarm_lines.proofs.stretches.wait.Goals as goal
use Rattle.turn_cell.specs.Passes.{seen}

pub returns-in-Ok-take_duties-clause-ok : goal.returns-in-Ok-take_duties-clause-ok
returns-in-Ok-take_duties-clause-ok g c =
    let over : c.loop-left.left ≡ 0 = (let test = c.loop-left-test.false in omega arith) in
    waited c.args.ms c.loop-left.left (seen c.args.pass.now) (seen c.loop-left.pass) (seen c.take_duties.new.pass)
    c.loop-left.invariant.2 over c.in-Ok-take_duties.ensures.ok

pub returns-in-Err-take_duties-clause-err : goal.returns-in-Err-take_duties-clause-err
returns-in-Err-take_duties-clause-err g c =
    stops_turns c.in-Err-take_duties.cause c.args.ms c.loop-left.left (seen c.args.pass.now) (seen c.loop-left.pass)
    (seen c.take_duties.new.pass) c.loop-left.invariant.2 c.in-Err-take_duties.ensures.err
