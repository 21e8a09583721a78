use Rattle.std.proofs.Common.{◌≡◌, subst, sym, true}
use Rattle.tests_store.proofs.store.rewrite.Goals as goal
use Rattle.swarm_objects.specs.Rows.{has_row, service_id}
use Rattle.swarm_store.proofs.Usable.{is_there}

pub put-requires : goal.put-requires
put-requires c =
    subst (λ k. has_row service_id k c.args.store.now.tables.services ≡ true) (sym c.in_ok-row-in-Some.ensures)
    (is_there service_id c.args.id c.in-Some.there.now c.args.store.now.tables.services (sym c.in-Some.ensures))
