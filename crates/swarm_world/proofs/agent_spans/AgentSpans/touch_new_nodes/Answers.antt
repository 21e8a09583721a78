use Rattle.std.proofs.Common.{refl, subst}
use Rattle.swarm_spans.specs.Spans.{IsWider}
use Rattle.swarm_world.proofs.KnownSteps.{no-steps-less}
use Rattle.swarm_world.proofs.agent_spans.AgentSpans.touch_new_nodes.Goals as goal

pub returns : goal.returns
returns c = record {
  former = record {
    duties = c.join.ensures.wider;
    tells = c.join-2.ensures.wider;
    news = c.join-3.ensures.wider;
    waits = c.join-4.ensures.wider;
    wakes = refl;
    steps = λ node. no-steps-less c.none-self.result c.args.self.now.steps node c.none-self.ensures;
  };
  duties = subst (IsWider c.join.new.self) c.onwards-new.ensures c.join.ensures.all;
  tells = subst (IsWider c.join-2.new.self) c.onwards-new.ensures c.join-2.ensures.all;
  news = subst (IsWider c.join-3.new.self) c.onwards-new.ensures c.join-3.ensures.all;
  waits = subst (IsWider c.join-4.new.self) c.onwards-new.ensures c.join-4.ensures.all;
  steps = c.none-self.ensures;
}
