use Rattle.std.proofs.Common.{◌∙◌, ◌∷◌, ap, sym}
use Rattle.swarm_objects.proofs.WalkLemmas.{makes_progress, walk_step}
use Rattle.swarm_objects.specs.Walks.{walk}
use Rattle.swarm_store.proofs.walks.WalkIterator.next.Goals as goal

pub returns-clause-steps : goal.returns-clause-steps
returns-clause-steps g c =
    let key = g.R.Row.id_of in
    let rows = c.self.inside.rows.now.rows in
    let row = c.in_ok-row.row.now in
    sym c.self.view_is ∙ walk_step key c.self.inside.after rows row c.in_ok-row.ensures
    ∙ ap (λ n. row ∷ walk key n rows) (sym c.id-self-inside.ensures)

pub returns-clause-goes : goal.returns-clause-goes
returns-clause-goes g c =
    let key = g.R.Row.id_of in
    let rows = c.self.inside.rows.now.rows in
    let row = c.in_ok-row.row.now in
    makes_progress
    (sym c.self.view_is ∙ walk_step key c.self.inside.after rows row c.in_ok-row.ensures
    ∙ ap (λ n. row ∷ walk key n rows) (sym c.id-self-inside.ensures))
