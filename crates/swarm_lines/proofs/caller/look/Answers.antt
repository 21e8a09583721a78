use Rattle.swarm_lines.proofs.Stepping.{looked}
use Rattle.swarm_lines.proofs.caller.look.Goals as goal
use Rattle.turn_cell.specs.Passes.{number_of, seen}

pub returns-clause-stays : goal.returns-clause-stays
returns-clause-stays g c =
    let p = c.args.pass.now in
    let q = c.look.new.pass in
    let e = c.look.ensures in
    looked (number_of p) (number_of q) (seen p) (seen q) c.requires.pass.1 e.extends.1.0 e.mine e.extends.0
