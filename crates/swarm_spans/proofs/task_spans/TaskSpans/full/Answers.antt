use Rattle.swarm_objects.specs.Loops.Scheduler.{schedule}
use Rattle.swarm_spans.proofs.TasksCovered.{full_nodes, full_tasks}
use Rattle.swarm_spans.proofs.task_spans.TaskSpans.full.Goals as goal
use Rattle.swarm_spans.specs.Lines.{addresses, deletes, expires, goes, notes, olds, orphans, raises, rejects, restarts, to_allocate, to_schedule, to_wait}

pub returns : goal.returns
returns c = record {
  covers = λ t usable. record {
    expires = full_nodes expires t c.full-every.result c.full-every.ensures usable;
    orphans = full_tasks orphans t c.full-every.result c.full-every.ensures usable;
    rejects = full_tasks rejects t c.full-every.result c.full-every.ensures usable;
    restarts = full_tasks restarts t c.full-every.result c.full-every.ensures usable;
    raises = full_tasks raises t c.full-every.result c.full-every.ensures usable;
    goes = full_tasks goes t c.full-every.result c.full-every.ensures usable;
    olds = full_tasks olds t c.full-every.result c.full-every.ensures usable;
    deletes = full_tasks deletes t c.full-every.result c.full-every.ensures usable;
    addresses = full_tasks addresses t c.full-every.result c.full-every.ensures usable;
    notes = full_tasks notes t c.full-every.result c.full-every.ensures usable;
    schedules = full_tasks schedule t c.full-every.result c.full-every.ensures usable;
    to_wait = full_tasks to_wait t c.full-every.result c.full-every.ensures usable;
    to_schedule = full_tasks to_schedule t c.full-every.result c.full-every.ensures usable;
    to_allocate = full_tasks to_allocate t c.full-every.result c.full-every.ensures usable;
  };
}
