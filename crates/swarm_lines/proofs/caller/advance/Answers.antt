use Rattle.std.proofs.Common.{ap, subst, ◌∙◌, ◌≡◌}
use Rattle.swarm_cluster.specs.Looks.{Steps}
use Rattle.swarm_cluster.specs.declared.works.Advance.TheVariants.{Turned}
use Rattle.swarm_cluster.specs.declared.works.Look.{Look}
use Rattle.swarm_lines.proofs.Stepping.{advanced, full_step, halted_step, never_idle, rested, unmade_step}
use Rattle.swarm_lines.proofs.caller.advance.Goals as goal
use Rattle.swarm_lines.specs.Came.{IsIdle}
use Rattle.turn_cell.specs.Passes.{number_of, seen}

pub unreachable-requires : goal.unreachable-requires
unreachable-requires g c =
    let p = c.args.pass.now in
    let s = c.advance.ensures.steps in
    let new = seen c.advance.new.pass in
    never_idle (number_of p) s.0 new
    (subst (Steps (number_of p) s.0 new) (c.in-Turned.is ∙ ap Turned c.in-Idle-turn.is) s.2)

pub returns-in-Idle-clause-idle : goal.returns-in-Idle-clause-idle
returns-in-Idle-clause-idle g c = λ look same.
    let p = c.args.pass.now in
    let s = c.advance.ensures.steps in
    let new = seen c.advance.new.pass in
    let is : c.in-Idle.look ≡ look = cc in
    subst (λ (l : Look). IsIdle l (seen p) new) is
    (rested (number_of p) (seen p) s.0 new c.in-Idle.look (c.requires.pass.1, s.1.0.0, s.1.1)
    (subst (Steps (number_of p) s.0 new) c.in-Idle.is s.2))

pub returns-in-Did-clause-did : goal.returns-in-Did-clause-did
returns-in-Did-clause-did g c = λ _.
    let p = c.args.pass.now in
    let s = c.advance.ensures.steps in
    let new = seen c.advance.new.pass in
    advanced (number_of p) (seen p) s.0 new c.in-Did.field-0 (c.requires.pass.1, s.1.0.0, s.1.1)
    (subst (Steps (number_of p) s.0 new) (c.in-Turned.is ∙ ap Turned c.in-Did.is) s.2)

pub returns-in-Full-clause-err : goal.returns-in-Full-clause-err
returns-in-Full-clause-err g c =
    let p = c.args.pass.now in
    let s = c.advance.ensures.steps in
    let new = seen c.advance.new.pass in
    full_step (number_of p) c.in-Full.field-0 (seen p) s.0 new (c.requires.pass.1, s.1.0.0, s.1.1)
    (subst (Steps (number_of p) s.0 new) (c.in-Turned.is ∙ ap Turned c.in-Full.is) s.2)

pub returns-in-Halted-clause-err : goal.returns-in-Halted-clause-err
returns-in-Halted-clause-err g c =
    let p = c.args.pass.now in
    let s = c.advance.ensures.steps in
    let new = seen c.advance.new.pass in
    halted_step (number_of p) (seen p) s.0 new (c.requires.pass.1, s.1.0.0, s.1.1)
    (subst (Steps (number_of p) s.0 new) (c.in-Turned.is ∙ ap Turned c.in-Halted.is) s.2)

pub returns-in-NoMemory-clause-err : goal.returns-in-NoMemory-clause-err
returns-in-NoMemory-clause-err g c =
    let p = c.args.pass.now in
    let s = c.advance.ensures.steps in
    let new = seen c.advance.new.pass in
    unmade_step (number_of p) (seen p) s.0 new (c.requires.pass.1, s.1.0.0, s.1.1)
    (subst (Steps (number_of p) s.0 new) (c.in-Turned.is ∙ ap Turned c.in-NoMemory.is) s.2)
