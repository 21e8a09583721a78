use Rattle.swarm_replicated.proofs.Weighing.{noted-by, passed}
use Rattle.swarm_replicated.proofs.weights.Weights.note.Goals as goal

pub returns-in-Some-clause-rest : goal.returns-in-Some-clause-rest
returns-in-Some-clause-rest g c left h =
    noted-by c.args.crowds.now.tables c.args.service.now c.args.crowds.now.service c.args.self.now c.note_at.new.self
    c.args.task.now left c.in-Some.index c.crowd-crowd.result c.is_running.result c.in-Some.ensures.some
    c.is_running.ensures c.crowd-crowd.ensures.crowd c.requires.service c.note_at.ensures h

pub returns-in_default-clause-rest : goal.returns-in_default-clause-rest
returns-in_default-clause-rest g c left h =
    passed c.args.crowds.now.tables c.args.service.now c.args.self.now c.args.task.now left
    (c.index_of.ensures.none c.in_default.is) h
