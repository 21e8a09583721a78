use Rattle.std.proofs.Common.{sym, ◌∙◌}
use Rattle.swarm_model.specs.History.{replay}
use Rattle.swarm_world.proofs.Choosing.{executors_rise, first-of-agents, first-of-rows}
use Rattle.swarm_world.proofs.Entering.{are_usable}
use Rattle.swarm_world.proofs.Marked.{agents_rise, still_marked}
use Rattle.swarm_world.proofs.Recorded.{usable_rows}
use Rattle.swarm_world.proofs.marks.Marks.find.Goals as goal
use Rattle.swarm_world.specs.Inside.Records.{tables_of}

pub agents_first_in-requires-clause-usable : goal.agents_first_in-requires-clause-usable
agents_first_in-requires-clause-usable c = usable_rows c.args.parts.now.records (are_usable c.args.parts.now c.requires.at)

pub agents_first_in-requires-clause-rises : goal.agents_first_in-requires-clause-rises
agents_first_in-requires-clause-rises c =
    executors_rise c.times_that_no_step_looks_at.ensures c.args.parts.now c.requires.at

pub agents_first_in-requires-clause-ordered : goal.agents_first_in-requires-clause-ordered
agents_first_in-requires-clause-ordered c = agents_rise c.args.parts.now c.requires.at

pub first-requires-clause-usable : goal.first-requires-clause-usable
first-requires-clause-usable c = usable_rows c.args.parts.now.records (are_usable c.args.parts.now c.requires.at)

pub returns-then-is_agents-clause-first : goal.returns-then-is_agents-clause-first
returns-then-is_agents-clause-first c = λ h stands.
    c.agents_first_in.ensures.first
    ∙ first-of-agents c.times_that_no_step_looks_at.ensures c.args.parts.now c.args.role (replay h)
    (sym c.is_agents.ensures ∙ c.if-is_agents.true) stands

pub is_idle-requires : goal.is_idle-requires
is_idle-requires c = sym c.is_agents.ensures ∙ c.if-is_agents.false

pub returns-then-is_idle-clause-first : goal.returns-then-is_idle-clause-first
returns-then-is_idle-clause-first c = λ h stands.
    c.is_idle.ensures c.if-is_idle.true (tables_of c.args.parts.now.records)
    (usable_rows c.args.parts.now.records (are_usable c.args.parts.now c.requires.at)) c.requires.marks.rows
    ∙ first-of-rows c.args.parts.now c.args.role (replay h) (sym c.is_agents.ensures ∙ c.if-is_agents.false) stands

pub returns-clause-first : goal.returns-clause-first
returns-clause-first c = λ h stands.
    c.first.ensures.first
    ∙ first-of-rows c.args.parts.now c.args.role (replay h) (sym c.is_agents.ensures ∙ c.if-is_agents.false) stands

pub returns-clause-marks : goal.returns-clause-marks
returns-clause-marks c =
    still_marked c.args.self.now c.first.new.self c.args.parts.now c.requires.marks c.first.ensures.marks
    c.first.ensures.agents
