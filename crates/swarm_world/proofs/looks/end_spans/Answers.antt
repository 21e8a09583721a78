use Rattle.swarm_world.proofs.Ends.{still_spanned}
use Rattle.swarm_world.proofs.looks.end_spans.Goals as goal

pub returns-then-is_endless : goal.returns-then-is_endless
returns-then-is_endless c = λ w covers.
    still_spanned c.args.agents.now c.last_node.result c.args.spans.now c.end_at.new.self w c.last_node.ensures
    c.end_at.ensures covers
