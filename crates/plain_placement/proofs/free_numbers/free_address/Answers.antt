use Rattle.std.proofs.Common.{sym}
use Rattle.swarm_plain.specs.Plain.{tables_of}
use Rattle.plain_placement.proofs.AllocatorEffects.{row_subnet}
use Rattle.plain_placement.proofs.free_numbers.free_address.Goals as goal

pub returns-in-Some-clause-fits : goal.returns-in-Some-clause-fits
returns-in-Some-clause-fits c =
    λ all. c.free_in.ensures.fits
    (row_subnet (tables_of c.args.plain.now).networks c.args.network c.in-Some.row.now (sym c.in-Some.ensures) all)
