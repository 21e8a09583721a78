use Rattle.swarm_world.proofs.SettleLines.{settling}
use Rattle.swarm_world.proofs.parts.Parts.settle.Goals as goal

pub settle-requires-clause-marks : goal.settle-requires-clause-marks
settle-requires-clause-marks c = c.apart-marks.ensures c.args.self.now c.requires.marks

pub returns : goal.returns
returns c = λ version h stands.
    settling version h c.args.budget c.args.self.now c.settle.result stands (c.settle.ensures.answer h stands)
