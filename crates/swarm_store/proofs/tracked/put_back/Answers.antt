use Rattle.std.proofs.Common.{ap, ◌∙◌, subst}
use Rattle.swarm_objects.specs.Rows.{row_at}
use Rattle.swarm_store.proofs.Tracking.{gone}
use Rattle.swarm_store.proofs.tracked.put_back.Goals as goal
use Rattle.swarm_store.specs.Inside.Tracking.{IsImage}

pub insert_row-requires-clause-new : goal.insert_row-requires-clause-new
insert_row-requires-clause-new g c =
    let key = g.R.Row.id_of in
    let row = c.in-Some.row in
    ap (row_at key (key row)) c.remove-there.ensures.rows
    ∙ gone key c.args.image.id (key row) c.args.rows.now.rows (subst (IsImage key c.args.image.id) c.in-Some.is c.requires.image)
