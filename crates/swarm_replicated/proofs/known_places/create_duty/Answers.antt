use Rattle.swarm_replicated.proofs.known_places.create_duty.Goals as goal

pub create_duty_by-requires-clause-knows : goal.create_duty_by-requires-clause-knows
create_duty_by-requires-clause-knows g c = c.none.ensures (g.R.Rows.tables c.args.rows.now)
