use Rattle.std.proofs.Common.{arith, false, refl, sym, ◌+◌}
use Rattle.swarm_alloc.proofs.HeldRuns.{addresses_taken}
use Rattle.swarm_objects.proofs.FreeNumbers.{address_found, no_address}
use Rattle.swarm_alloc.proofs.free_numbers.free_in.Goals as goal

pub returns-then-number-last : goal.returns-then-number-last
returns-then-number-last g c =
    let t = g.R.Rows.tables c.args.rows.now in
    address_found t c.args.id c.args.network.now (c.loop-number.number + c.addresses_held_from-held.result) false
    (sym (c.addresses_held_from-held.ensures.free c.if-held-lt-WORD.true c.if-number-last.true)) refl
    (omega (arith, c.if-number-last.true, c.last_address-last.ensures))
    (addresses_taken t c.args.id c.args.network.now c.loop-number.number c.addresses_held_from-held.result
    c.addresses_held_from-held.ensures.held c.loop-number.invariant)

pub loop-number-preserved : goal.loop-number-preserved
loop-number-preserved g c =
    addresses_taken (g.R.Rows.tables c.args.rows.now) c.args.id c.args.network.now c.loop-number.number
    c.addresses_held_from-held.result c.addresses_held_from-held.ensures.held c.loop-number.invariant

pub returns : goal.returns
returns g c =
    no_address (g.R.Rows.tables c.args.rows.now) c.args.id c.args.network.now c.loop-number.number
    (omega (arith, c.loop-number-test.false, c.last_address-last.ensures)) c.loop-number.invariant
