use Rattle.std.proofs.Common.{◌∙◌, ap}
use Rattle.swarm_lines.proofs.stretches.next_tick.Goals as goal
use Rattle.swarm_model.specs.Script.{time_till}
use Rattle.swarm_model.specs.Settle.{settle_answer}

pub returns-clause-next : goal.returns-clause-next
returns-clause-next c = λ w s.
    c.time_till.ensures
    ∙ ap (λ a. time_till c.args.look.now a c.min.result) s.0
    ∙ ap (λ n. time_till n (settle_answer w) c.min.result) s.1
    ∙ ap (λ m. time_till w.tables.clock (settle_answer w) m) c.min.ensures
