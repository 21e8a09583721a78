use Rattle.swarm_sched.proofs.ClassSearching.{first_there, none_there}
use Rattle.swarm_sched.proofs.class_search.any_of.Goals as goal

pub returns-in-Some-clause-there : goal.returns-in-Some-clause-there
returns-in-Some-clause-there c =
    first_there c.args.ranked.now c.iter.result c.next.new.self c.in-Some.entry.now c.in-Some.ensures.steps
    c.iter.ensures.all

pub returns-in-None-clause-none : goal.returns-in-None-clause-none
returns-in-None-clause-none c = λ none.
    none_there c.args.ranked.now c.iter.result c.in-None.ensures.steps.0 c.iter.ensures.all
