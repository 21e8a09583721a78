use Rattle.swarm_lines.proofs.Stretching.{is_less, stops_tick, stops_turns, waiting_more}
use Rattle.swarm_lines.proofs.stretches.stride.Goals as goal
use Rattle.swarm_model.specs.History.{replay}
use Rattle.turn_cell.specs.Passes.{seen}

pub returns-in-Err-clause-err : goal.returns-in-Err-clause-err
returns-in-Err-clause-err g c = λ start w.
    stops_turns c.in-Err.cause c.args.ms c.args.left start (seen c.args.pass.now) (seen c.take_duties.new.pass) w
    c.in-Err.ensures.err

pub returns-in-Err-call-clause-err : goal.returns-in-Err-call-clause-err
returns-in-Err-call-clause-err g c = λ start w.
    stops_tick c.in-Err-call.cause c.args.ms c.args.left start (seen c.args.pass.now) (seen c.take_duties.new.pass)
    (seen c.call.new.pass) c.requires.left w c.in-Ok.ensures.ok c.in-Err-call.ensures.err

pub returns-clause-less : goal.returns-clause-less
returns-clause-less g c =
    let mid = replay (seen c.take_duties.new.pass) in
    is_less mid c.args.left c.next_tick-tick.result c.requires.left
    (c.next_tick-tick.ensures.next mid c.in-Ok.ensures.look)

pub returns-clause-ok : goal.returns-clause-ok
returns-clause-ok g c = λ start w.
    let mid = replay (seen c.take_duties.new.pass) in
    waiting_more c.args.ms c.args.left c.next_tick-tick.result start (seen c.args.pass.now)
    (seen c.take_duties.new.pass) (seen c.call.new.pass) c.in-Ok-call.field-0 c.requires.left w c.in-Ok.ensures.ok
    (c.next_tick-tick.ensures.next mid c.in-Ok.ensures.look) c.in-Ok-call.ensures.ok
