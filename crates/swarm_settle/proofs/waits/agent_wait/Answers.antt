use Rattle.std.proofs.Common.{None, refl, rules, sym, true, ◌≡◌}
use Rattle.swarm_objects.specs.Loops.Agents.{is_mode_on}
use Rattle.swarm_settle.proofs.Phases.{nothing_kept, phase_kept}
use Rattle.swarm_settle.proofs.waits.agent_wait.Goals as goal

pub returns : goal.returns
returns c =
    let on : is_mode_on c.args.agent.now.mode ≡ true = search rules in
    phase_kept c.times_that_no_step_looks_at.ensures c.args.best c.args.agent.now c.pending.result c.keep_phase.result
    on c.pending.ensures c.keep_phase.ensures

pub returns-then-ends_before : goal.returns-then-ends_before
returns-then-ends_before c =
    let on : is_mode_on c.args.agent.now.mode ≡ true = search rules in
    nothing_kept c.times_that_no_step_looks_at.ensures c.args.best c.args.agent.now c.first_wake-wake.result on
    (c.ends_before.ensures c.if-ends_before.true) c.first_wake-wake.ensures.phases

pub returns-then-wake : goal.returns-then-wake
returns-then-wake c =
    let on : is_mode_on c.args.agent.now.mode ≡ true = search rules in
    phase_kept c.times_that_no_step_looks_at.ensures c.args.best c.args.agent.now None c.args.best on
    (sym (c.first_wake-wake.ensures.none (search rules))) refl
