use Rattle.swarm_replicated.proofs.known_places.down_duty.Goals as goal

pub down_duty_by-requires-clause-knows : goal.down_duty_by-requires-clause-knows
down_duty_by-requires-clause-knows g c = c.none.ensures (g.R.Rows.tables c.args.rows.now)
