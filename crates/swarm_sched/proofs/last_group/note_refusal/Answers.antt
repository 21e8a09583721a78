use Rattle.swarm_sched.proofs.LastRefusing.{refusal_noted}
use Rattle.swarm_sched.proofs.last_group.note_refusal.Goals as goal

pub returns-in-Some : goal.returns-in-Some
returns-in-Some c t x own so =
    refusal_noted t x c.args.group.now c.in-Some.group c.remember.new.self c.args.node c.args.filter c.in-Some.is own so
    c.if-filter-eq0.false c.remember.ensures.knows c.remember.ensures.own
