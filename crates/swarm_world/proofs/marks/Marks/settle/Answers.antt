use Rattle.swarm_world.proofs.Marked.{agents_rise}
use Rattle.swarm_world.proofs.StillWaiting.{asked_of, waits_marked}
use Rattle.swarm_world.proofs.marks.Marks.settle.Goals as goal

pub still_waiting-self-requires : goal.still_waiting-self-requires
still_waiting-self-requires c = record {
  ordered = agents_rise c.args.parts.now c.requires.at;
  covers = c.find_among-first.ensures.marks.agents.waits;
}

pub settled_by-requires-clause-asked : goal.settled_by-requires-clause-asked
settled_by-requires-clause-asked c =
    asked_of _ c.args.parts.now c.asked.result c.requires.at
    (waits_marked c.find_among-first.new.self c.args.parts.now c.still_waiting-self.result c.find_among-first.ensures.marks
    c.still_waiting-self.ensures)
    c.asked.ensures.tasks c.asked.ensures.updates c.asked.ensures.remotes c.asked.ensures.agents

pub returns-clause-answer : goal.returns-clause-answer
returns-clause-answer c = λ h stands. c.settled_by.ensures h stands (c.find_among-first.ensures.first h stands)

pub returns-clause-marks : goal.returns-clause-marks
returns-clause-marks c =
    waits_marked c.find_among-first.new.self c.args.parts.now c.still_waiting-self.result c.find_among-first.ensures.marks
    c.still_waiting-self.ensures
