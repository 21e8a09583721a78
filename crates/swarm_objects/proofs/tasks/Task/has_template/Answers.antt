use Rattle.swarm_objects.specs.Same.{same_template}
use Rattle.swarm_objects.proofs.SameLemmas.{Decides-same_template, same_test}
use Rattle.swarm_objects.proofs.tasks.Task.has_template.Goals as goal

pub returns : goal.returns
returns c =
    let mine = c.args.self.now.template in
    let other = c.args.template.now in
    same_test c.same.result (same_template mine other) c.same.ensures (Decides-same_template mine other)
