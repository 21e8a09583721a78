use Rattle.std.proofs.Common.{ap, arith}
use Rattle.swarm_objects.specs.declared.settings.Settings.{Settings}
use Rattle.swarm_world.proofs.Entering.{are_usable, small_heartbeat}
use Rattle.swarm_world.proofs.Recorded.{usable_rows}
use Rattle.swarm_world.proofs.parts.Parts.deadline.Goals as goal

pub overflow_mul-result : goal.overflow_mul-result
overflow_mul-result c =
    let small = small_heartbeat c.args.self.now c.requires.at in
    omega (arith, small, ap (λ (s : Settings). s.heartbeat) c.settings.ensures)

pub overflow_add-result : goal.overflow_add-result
overflow_add-result c =
    let small = small_heartbeat c.args.self.now c.requires.at in
    let early = (usable_rows c.args.self.now.records (are_usable c.args.self.now c.requires.at)).clock in
    omega (arith, small, early, ap (λ (s : Settings). s.heartbeat) c.settings.ensures, c.now.ensures)
