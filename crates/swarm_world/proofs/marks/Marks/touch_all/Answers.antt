use Rattle.swarm_world.proofs.Marked.{all_are_marked}
use Rattle.swarm_world.proofs.marks.Marks.touch_all.Goals as goal

pub returns : goal.returns
returns c =
    all_are_marked (record {
      tasks = c.full-self.result;
      services = c.full-self-2.result;
      timed = c.full-self-3.result;
      agents = c.full-self-4.result;
      known = c.forget_all.new.self;
    }) c.full-self.ensures.covers c.full-self-2.ensures.covers c.full-self-3.ensures c.forget_all.ensures
    c.full-self-4.ensures.duties c.full-self-4.ensures.tells c.full-self-4.ensures.news c.full-self-4.ensures.waits
    c.full-self-4.ensures.steps
