use Rattle.tests_beside.proofs.Standing.{near}
use Rattle.tests_beside.proofs.stores.view.Goals as goal

pub view-requires : goal.view-requires
view-requires c = near c.args.store.now c.args.copy.now c.requires.stands c.requires.reached
