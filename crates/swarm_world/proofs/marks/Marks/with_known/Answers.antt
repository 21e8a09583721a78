use Rattle.swarm_world.proofs.Marked.{all_are_marked}
use Rattle.swarm_world.proofs.marks.Marks.with_known.Goals as goal

pub returns : goal.returns
returns c =
    all_are_marked (record {
      tasks = c.full.result;
      services = c.full-2.result;
      timed = c.full-3.result;
      agents = c.full-4.result;
      known = c.args.known;
    }) c.full.ensures.covers c.full-2.ensures.covers c.full-3.ensures c.requires c.full-4.ensures.duties
    c.full-4.ensures.tells c.full-4.ensures.news c.full-4.ensures.waits c.full-4.ensures.steps
