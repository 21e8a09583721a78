use Rattle.std.proofs.Common.{◌≡◌, ap, ◌∙◌, length, set, length-set}
use Rattle.swarm_objects.proofs.RowLemmas.{instead_is}
use Rattle.swarm_objects.proofs.lists.replace.Goals as goal

pub returns : goal.returns
returns g c =
    let was : c.as_mut_slice.result.now ≡ c.args.rows.now = c.as_mut_slice.ensures.value in
    instead_is c.args.rows.now (set c.as_mut_slice.result.now c.args.at c.args.row) (length-set c.as_mut_slice.result.now c.args.at c.args.row ∙ ap length was) ∙ ap (λ xs. set xs c.args.at c.args.row) was
