use Rattle.swarm_spans.proofs.Moved.{moved_keeps}
use Rattle.swarm_spans.proofs.Scheduling.{scheduled_as_before}
use Rattle.swarm_spans.proofs.Blocked.{blocked_keeps}
use Rattle.swarm_spans.proofs.Made.{ready_keeps}
use Rattle.swarm_spans.proofs.Waiting.{address_goes_on, expire_goes_on, note_goes_on, raise_goes_on, schedule_goes_on}
use Rattle.swarm_spans.proofs.laws.waiting_go_on.Goals as goal

pub returns-clause-raise : goal.returns-clause-raise
returns-clause-raise c = raise_goes_on

pub returns-clause-address : goal.returns-clause-address
returns-clause-address c = address_goes_on

pub returns-clause-note : goal.returns-clause-note
returns-clause-note c = note_goes_on

pub returns-clause-schedule : goal.returns-clause-schedule
returns-clause-schedule c = schedule_goes_on

pub returns-clause-expire : goal.returns-clause-expire
returns-clause-expire c = expire_goes_on

pub returns-clause-blocked : goal.returns-clause-blocked
returns-clause-blocked c = blocked_keeps

pub returns-clause-ready : goal.returns-clause-ready
returns-clause-ready c = ready_keeps

pub returns-clause-scheduled : goal.returns-clause-scheduled
returns-clause-scheduled c = scheduled_as_before

pub returns-clause-moved : goal.returns-clause-moved
returns-clause-moved c = moved_keeps
