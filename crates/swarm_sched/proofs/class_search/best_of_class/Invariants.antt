use Rattle.std.specs.Prelude.{IfSome}
use Rattle.swarm_sched.proofs.ClassSearching.{IsSearchingBy}
use Rattle.swarm_sched.proofs.class_search.best_of_class.Given as goal
use Rattle.swarm_sched.specs.Inside.ClassSearch.{found_node}
use Rattle.swarm_sched.specs.Inside.Known.{Knows}
use Rattle.swarm_sched.specs.Inside.KnownRefusals.{KnowsOwn}
use Rattle.swarm_sched.specs.Inside.Placing.{IsNodeLoad}

abbrev pub invariant-loop-entry : goal.invariant-loop-entry
invariant-loop-entry g l =
    let t = g.R.Rows.tables l.rows in
    record {
      searching : IsSearchingBy t l.task l.ranked l.first (found_node l.found) l.entry-iterator;
      held : IfSome l.found (λ r. IsNodeLoad t r.0.now.id l.task.service r.1);
      knows : Knows t l.known;
      own : KnowsOwn t l.task l.group;
    }
