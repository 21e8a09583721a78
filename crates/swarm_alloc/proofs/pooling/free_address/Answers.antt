use Rattle.swarm_alloc.proofs.Applying.{row_subnet}
use Rattle.swarm_alloc.proofs.pooling.free_address.Goals as goal

pub free_in-requires-clause-subnet : goal.free_in-requires-clause-subnet
free_in-requires-clause-subnet g c =
    row_subnet (g.R.Rows.tables c.args.rows.now).networks c.args.network c.in-Some.row.now c.in-Some.ensures
    c.requires.sound.subnets
