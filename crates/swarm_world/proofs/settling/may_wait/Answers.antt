use Rattle.std.proofs.Common.{refl, rules, true, ◌≡◌}
use Rattle.swarm_objects.specs.Loops.Agents.{is_mode_on}
use Rattle.swarm_world.proofs.StillWaiting.{phase_to_come}
use Rattle.swarm_world.proofs.settling.may_wait.Goals as goal

pub returns : goal.returns
returns c =
    let on : is_mode_on c.args.agent.now.mode ≡ true = search rules in
    phase_to_come c.times_that_no_step_looks_at.ensures c.args.agent.now c.first_wake.result _ on
    c.first_wake.ensures.none refl
