use Rattle.std.proofs.Common.{sym, ◌∙◌}
use Rattle.swarm_sched.proofs.OneAnswer.{on_true, unlike}
use Rattle.swarm_sched.proofs.alike.waits_alike.Goals.{then-waits, else-waits}
use Rattle.swarm_sched.proofs.alike.waits_alike.Goals as goal

pub returns-then-waits-2 : goal.returns-then-waits-2
returns-then-waits-2 c =
    elim c.if-waits.branch [
      | then-waits w ↦
          on_true c.asks_alike.result c.args.task.now c.args.other.now c.asks_alike.ensures.0
          (sym c.waits.ensures ∙ w.if-waits.true) (sym w.waits-then-waits.ensures ∙ sym w.value-is ∙ c.if-waits-2.true)
      | else-waits w ↦ unlike (sym w.if-waits.false ∙ sym w.value-is ∙ c.if-waits-2.true)
    ]
