use Rattle.std.proofs.Common.{refl}
use Rattle.turn_cell.specs.Passes.{number_of, seen, mine}
use Rattle.swarm_loops.proofs.Adding.{adds_at}
use Rattle.swarm_loops.proofs.working.make_turn.Goals as goal

pub returns-in-Did-clause-adds : goal.returns-in-Did-clause-adds
returns-in-Did-clause-adds g c =
    let t = c.turn-answer.ensures.turns in
    adds_at (number_of c.args.pass.now) c.args.place c.args.roles.now _ _ t.0 (seen c.turn-answer.new.pass)
    c.turn-answer.result.reply (mine c.args.pass.now) (mine c.turn-answer.new.pass) c.requires.place refl t.2 t.3

pub returns-in-Idle-clause-adds : goal.returns-in-Idle-clause-adds
returns-in-Idle-clause-adds g c =
    let t = c.turn-answer.ensures.turns in
    adds_at (number_of c.args.pass.now) c.args.place c.args.roles.now _ _ t.0 (seen c.turn-answer.new.pass)
    c.turn-answer.result.reply (mine c.args.pass.now) (mine c.turn-answer.new.pass) c.requires.place refl t.2 t.3

pub returns-in-Halted-clause-adds : goal.returns-in-Halted-clause-adds
returns-in-Halted-clause-adds g c =
    let t = c.turn-answer.ensures.turns in
    adds_at (number_of c.args.pass.now) c.args.place c.args.roles.now _ _ t.0 (seen c.turn-answer.new.pass)
    c.turn-answer.result.reply (mine c.args.pass.now) (mine c.turn-answer.new.pass) c.requires.place refl t.2 t.3

pub returns-in-Full-clause-adds : goal.returns-in-Full-clause-adds
returns-in-Full-clause-adds g c =
    let t = c.turn-answer.ensures.turns in
    adds_at (number_of c.args.pass.now) c.args.place c.args.roles.now _ _ t.0 (seen c.turn-answer.new.pass)
    c.turn-answer.result.reply (mine c.args.pass.now) (mine c.turn-answer.new.pass) c.requires.place refl t.2 t.3

pub returns-in-NoMemory-clause-adds : goal.returns-in-NoMemory-clause-adds
returns-in-NoMemory-clause-adds g c =
    let t = c.turn-answer.ensures.turns in
    adds_at (number_of c.args.pass.now) c.args.place c.args.roles.now _ _ t.0 (seen c.turn-answer.new.pass)
    c.turn-answer.result.reply (mine c.args.pass.now) (mine c.turn-answer.new.pass) c.requires.place refl t.2 t.3
