use Rattle.swarm_spans.proofs.Lines.{delete_goes_on, gone_goes_on, old_goes_on, orphan_goes_on, reject_goes_on, restart_goes_on, to_allocate_goes_on, to_schedule_goes_on, to_wait_goes_on}
use Rattle.swarm_spans.proofs.laws.tasks_go_on.Goals as goal

pub returns-clause-delete : goal.returns-clause-delete
returns-clause-delete c = delete_goes_on

pub returns-clause-gone : goal.returns-clause-gone
returns-clause-gone c = gone_goes_on

pub returns-clause-old : goal.returns-clause-old
returns-clause-old c = old_goes_on

pub returns-clause-orphan : goal.returns-clause-orphan
returns-clause-orphan c = orphan_goes_on

pub returns-clause-reject : goal.returns-clause-reject
returns-clause-reject c = reject_goes_on

pub returns-clause-restart : goal.returns-clause-restart
returns-clause-restart c = restart_goes_on

pub returns-clause-to_schedule : goal.returns-clause-to_schedule
returns-clause-to_schedule c = to_schedule_goes_on

pub returns-clause-to_allocate : goal.returns-clause-to_allocate
returns-clause-to_allocate c = to_allocate_goes_on

pub returns-clause-to_wait : goal.returns-clause-to_wait
returns-clause-to_wait c = to_wait_goes_on
