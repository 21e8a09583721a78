use Rattle.swarm_objects.specs.Same.{same_template}
use Rattle.swarm_objects.proofs.SameLemmas.{Decides-same_template, same_test}
use Rattle.swarm_check.proofs.new_rows.is_same_template.Goals as goal

pub returns : goal.returns
returns c =
    let one = c.args.one.now in
    let two = c.args.two.now in
    same_test c.same.result (same_template one two) c.same.ensures (Decides-same_template one two)
