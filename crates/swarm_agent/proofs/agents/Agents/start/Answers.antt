use Rattle.std.proofs.Common.{ap, sym, ◌∙◌}
use Rattle.std.specs.Option.{option_copied_mut}
use Rattle.swarm_agent.proofs.ByNode.{changes-at, changes-none, looks-mode, set-rises}
use Rattle.swarm_agent.specs.Agent.{at_node}
use Rattle.swarm_objects.specs.Agents.NodeAgents.{in_mode, mode_after_start}
use Rattle.swarm_agent.proofs.agents.Agents.start.Goals.{in-None, in-Some}
use Rattle.swarm_agent.proofs.agents.Agents.start.Goals as goal

pub invariant_of-self : goal.invariant_of-self
invariant_of-self c = elim c.match-get_mut.branch [
  | in-Some w ↦ rw w.self-inside-is
      (set-rises c.args.node c.self.inside.rows.entries _ w.start.new.self c.self.invariant
      (c.get_mut.follows.holds w.start.new.self).0)
  | in-None w ↦ rw (w.self-inside-is, c.get_mut.follows.holds-at-none) c.self.invariant
]

pub returns : goal.returns
returns c = elim c.match-get_mut.branch [
  | in-Some w ↦ rw w.self-inside-is
      (changes-at c.args.node (in_mode mode_after_start) (in_mode mode_after_start)
      (in_mode mode_after_start) c.self.inside.rows.entries _ c.args.self.now w.in-Some.agent.now
      w.start.new.self c.self.view_is c.self.invariant (ap option_copied_mut (sym w.in-Some.is) ∙ c.get_mut.ensures.value)
      (c.get_mut.follows.holds w.start.new.self).0 (ap (at_node c.args.node) w.start.ensures) (looks-mode mode_after_start) (looks-mode mode_after_start))
  | in-None w ↦ rw (w.self-inside-is, c.get_mut.follows.holds-at-none)
      (changes-none c.args.node (in_mode mode_after_start) (in_mode mode_after_start)
      c.self.inside.rows.entries c.args.self.now c.self.view_is
      (ap option_copied_mut (sym w.in-None.is) ∙ c.get_mut.ensures.value) (looks-mode mode_after_start))
]
