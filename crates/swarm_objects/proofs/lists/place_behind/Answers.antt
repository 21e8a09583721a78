use Rattle.std.proofs.Common.{◌==◌, ◌-◌, length, drop, ap, ◌∙◌, arith}
use Rattle.std.proofs.lemmas.List.{length-drop, take_all}
use Rattle.std.specs.List.{position}
use Rattle.swarm_objects.proofs.lists.place_behind.Goals as goal

pub returns : goal.returns
returns g c =
    let rows = c.args.rows.now in
    let from = c.args.from in
    let whole = take_all (length rows - from) (drop from rows) (omega (arith, length-drop from rows)) in
    c.place_of_key.ensures ∙ ap (position (λ row. g.T.Keyed.key_of row == c.args.key)) whole
