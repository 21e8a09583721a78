use Rattle.swarm_spans.proofs.Services.Trimming.{places_other}
use Rattle.swarm_spans.proofs.service_trims.touch_places.Goals as goal

pub returns-in-Some-clause-has : goal.returns-in-Some-clause-has
returns-in-Some-clause-has g c =
    places_other (g.R.Rows.tables c.args.rows.now) c.args.new.now c.in-Some.old.now c.add_other.new.span
    c.in-Some.ensures c.add_other.ensures.has
