use Rattle.swarm_model.proofs.Following.AloneLaws.{serial-law, serial-part-law, serial-undone-law}
use Rattle.swarm_model.proofs.Following.Own.{replies-law}
use Rattle.swarm_model.proofs.theorems.single_callers_are_serial.Goals as goal

pub returns-clause-serial : goal.returns-clause-serial
returns-clause-serial c = serial-law

pub returns-clause-part : goal.returns-clause-part
returns-clause-part c = serial-part-law

pub returns-clause-undone : goal.returns-clause-undone
returns-clause-undone c = serial-undone-law

pub returns-clause-replies : goal.returns-clause-replies
returns-clause-replies c = replies-law
