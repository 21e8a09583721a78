use Rattle.std.proofs.Common.{◌∙◌, sym}
use Rattle.swarm_sched.proofs.Knowing.{exchange_counts}
use Rattle.swarm_sched.proofs.known.KnownTotals.exchanged.Goals as goal

pub returns : goal.returns
returns c =
    exchange_counts c.args.self.now c.in-Some.node c.args.new.now c.args.old.now c.in-Some-recall.known c.exchange.result
    (sym c.in-Some-recall.is ∙ c.recall.ensures) c.exchange.ensures
