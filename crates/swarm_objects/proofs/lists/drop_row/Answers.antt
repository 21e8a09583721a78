use Rattle.std.proofs.Common.{rules, ◌≡◌, ◌==◌, ◌∙◌, ap, not}
use Rattle.std.proofs.lemmas.Fn.{filter_same}
use Rattle.swarm_objects.specs.Rows.{drop_row}
use Rattle.swarm_objects.proofs.lists.drop_row.Goals as goal

pub returns : goal.returns
returns g c =
    let was : c.rows.inside.rows.items ≡ c.args.rows.now = search rules in
    filter_same _ (λ row. not (g.T.Keyed.key_of row == c.args.key)) _ (λ x b f' k. search rules) _ _
    c.retain.ensures.filtered
    ∙ ap (drop_row g.T.Keyed.key_of c.args.key) was
