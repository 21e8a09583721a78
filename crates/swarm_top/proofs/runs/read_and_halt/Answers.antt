use Rattle.swarm_top.proofs.runs.read_and_halt.Goals as goal
use Rattle.turn_cell.specs.Passes.{seen}

pub returns : goal.returns
returns g c = record {
  read = record {
    cell_is = c.halt.ensures.pass.0;
    number = c.halt.ensures.pass.1;
    now = seen c.read_script-ending.new.pass;
    read = c.read_script-ending.ensures.read;
    halts = c.halt.ensures.halts;
  };
}
