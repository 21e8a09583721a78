use Rattle.std.proofs.Common.{ap, sym, ◌∙◌}
use Rattle.std.specs.Option.{option_copied_mut}
use Rattle.swarm_agent.proofs.ByNode.{changes-at, changes-none, looks-stepped, set-rises}
use Rattle.swarm_agent.specs.Agent.{at_node}
use Rattle.swarm_agent.specs.Times.{on_executors, seen_agent}
use Rattle.swarm_objects.specs.Agents.Messages.{change_executor}
use Rattle.swarm_objects.specs.Loops.Agents.{stepped}
use Rattle.swarm_agent.proofs.agents.Agents.exec.Goals.{in-None, in-Some}
use Rattle.swarm_agent.proofs.agents.Agents.exec.Goals as goal

pub invariant_of-self : goal.invariant_of-self
invariant_of-self c = elim c.match-get_mut.branch [
  | in-Some w ↦ rw w.self-inside-is
      (set-rises c.args.node c.self.inside.rows.entries _ w.exec.new.self c.self.invariant
      (c.get_mut.follows.holds w.exec.new.self).0)
  | in-None w ↦ rw (w.self-inside-is, c.get_mut.follows.holds-at-none) c.self.invariant
]

pub returns : goal.returns
returns c = elim c.match-get_mut.branch [
  | in-Some w ↦ rw w.self-inside-is
      (changes-at c.args.node (on_executors (change_executor c.args.task (stepped c.args.now))) (on_executors (change_executor c.args.task (stepped c.args.now)))
      (λ a. seen_agent (on_executors (change_executor c.args.task (stepped c.args.now)) a)) c.self.inside.rows.entries _ c.args.self.now w.in-Some.agent.now
      w.exec.new.self c.self.view_is c.self.invariant (ap option_copied_mut (sym w.in-Some.is) ∙ c.get_mut.ensures.value)
      (c.get_mut.follows.holds w.exec.new.self).0 (ap (at_node c.args.node) w.exec.ensures) (looks-stepped c.args.now c.args.task) (looks-stepped c.args.now c.args.task))
  | in-None w ↦ rw (w.self-inside-is, c.get_mut.follows.holds-at-none)
      (changes-none c.args.node (on_executors (change_executor c.args.task (stepped c.args.now))) (λ a. seen_agent (on_executors (change_executor c.args.task (stepped c.args.now)) a))
      c.self.inside.rows.entries c.args.self.now c.self.view_is
      (ap option_copied_mut (sym w.in-None.is) ∙ c.get_mut.ensures.value) (looks-stepped c.args.now c.args.task))
]
