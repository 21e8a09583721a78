use Rattle.std.proofs.Common.{◌+◌, arith}
use Rattle.swarm_objects.proofs.FreeNumbers.{address_found, next_address, no_address}
use Rattle.swarm_plain.specs.Plain.{tables_of}
use Rattle.plain_placement.proofs.free_numbers.free_in.Goals as goal

pub returns-then-not-is_address_held-clause-value : goal.returns-then-not-is_address_held-clause-value
returns-then-not-is_address_held-clause-value c =
    address_found (tables_of c.args.plain.now) c.args.id c.args.network.now c.loop-number.number
    c.is_address_held.result
    c.is_address_held.ensures c.if-not-is_address_held.true (omega (arith, c.last_address-number-end.ensures.value))
    c.loop-number.invariant

pub returns-then-not-is_address_held-clause-fits : goal.returns-then-not-is_address_held-clause-fits
returns-then-not-is_address_held-clause-fits c = λ e. omega (arith, c.last_address-number-end.ensures.fits e)

pub loop-number-preserved : goal.loop-number-preserved
loop-number-preserved c =
    next_address (tables_of c.args.plain.now) c.args.id c.args.network.now c.loop-number.number c.is_address_held.result
    c.is_address_held.ensures c.if-not-is_address_held.false c.loop-number.invariant

pub returns-else-not-is_address_held-clause-value : goal.returns-else-not-is_address_held-clause-value
returns-else-not-is_address_held-clause-value c =
    no_address (tables_of c.args.plain.now) c.args.id c.args.network.now (c.loop-number.number + 1)
    (omega (arith, c.last_address-number-end.ensures.value))
    (next_address (tables_of c.args.plain.now) c.args.id c.args.network.now c.loop-number.number
    c.is_address_held.result
    c.is_address_held.ensures c.if-not-is_address_held.false c.loop-number.invariant)

pub returns-clause-value : goal.returns-clause-value
returns-clause-value c =
    no_address (tables_of c.args.plain.now) c.args.id c.args.network.now c.loop-number.number
    (omega (arith, c.last_address-number-end.ensures.value)) c.loop-number.invariant
