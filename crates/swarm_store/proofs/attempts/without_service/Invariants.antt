use Rattle.std.proofs.Common.{◌≡◌, ◌≤◌, length, take, vec_capacity}
use Rattle.std.specs.Prelude.{filter, not}
use Rattle.swarm_model.specs.Calls.Services.{is_attempt_of}
use Rattle.swarm_objects.specs.declared.tasks.Attempt.{Attempt}
use Rattle.swarm_store.proofs.attempts.without_service.Given as goal

abbrev pub invariant-loop-attempt : goal.invariant-loop-attempt
invariant-loop-attempt l = record {
  left : l.left.items ≡ filter (λ (a : Attempt). not (is_attempt_of l.service a)) (take l.attempt-index l.attempts);
  few : length l.left.items ≤ l.attempt-index;
  places : length l.attempts ≤ vec_capacity l.left;
}
