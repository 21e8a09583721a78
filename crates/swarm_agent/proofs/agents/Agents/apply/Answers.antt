use Rattle.std.proofs.Common.{ap, sym, ◌∙◌}
use Rattle.std.specs.Option.{option_copied_mut}
use Rattle.swarm_agent.proofs.ByNode.{applies-at, applies-none, set-rises}
use Rattle.swarm_agent.proofs.agents.Agents.apply.Goals.{in-None, in-Some}
use Rattle.swarm_agent.proofs.agents.Agents.apply.Goals as goal

pub invariant_of-self : goal.invariant_of-self
invariant_of-self c = elim c.match-get_mut.branch [
  | in-Some w ↦ rw w.self-inside-is
      (set-rises c.args.node c.self.inside.rows.entries _ w.apply.new.self c.self.invariant
      (c.get_mut.follows.holds w.apply.new.self).0)
  | in-None w ↦ rw (w.self-inside-is, c.get_mut.follows.holds-at-none) c.self.invariant
]

pub returns : goal.returns
returns c = elim c.match-get_mut.branch [
  | in-Some w ↦ rw (w.self-inside-is, w.result-is)
      (applies-at c.args.node c.self.inside.rows.entries _ c.args.self.now w.in-Some.agent.now w.apply.new.self
      w.apply.result c.self.view_is c.self.invariant (ap option_copied_mut (sym w.in-Some.is) ∙ c.get_mut.ensures.value)
      (c.get_mut.follows.holds w.apply.new.self).0 w.apply.ensures)
  | in-None w ↦ rw (w.self-inside-is, w.result-is, c.get_mut.follows.holds-at-none)
      (applies-none c.args.node c.self.inside.rows.entries c.args.self.now c.self.view_is
      (ap option_copied_mut (sym w.in-None.is) ∙ c.get_mut.ensures.value))
]
