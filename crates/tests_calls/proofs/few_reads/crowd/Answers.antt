use Rattle.tests_calls.proofs.Small.{usable_many}
use Rattle.tests_calls.proofs.few_reads.crowd.Goals as goal

pub returns : goal.returns
returns c =
    usable_many _ c.in_ok-nodes.nodes c.in_ok-service.service c.in_ok-tasks.tasks c.in_ok-nodes.ensures
    c.in_ok-service.ensures.id c.in_ok-service.ensures.near c.in_ok-tasks.ensures
    (λ i. record {
      clock = 0;
      next_id = 1008;
      nodes = c.in_ok-nodes.nodes;
      services = c.in_ok-services.ensures i;
      tasks = c.in_ok-tasks.tasks;
      networks = c.new-3.ensures i;
      attempts = c.new-4.ensures i;
      sessions = c.new-5.ensures i;
      settings = c.usual.ensures i;
    })
