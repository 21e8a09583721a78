-- Where the settle test says that all is settled, the world matches.
use Rattle.std.proofs.Common.{◌≡◌, sym, ◌∙◌}
use Rattle.swarm_settle.proofs.Matched.{settled-matched}
use Rattle.swarm_settle.specs.Matched.{IsMatched}
use Rattle.swarm_model.specs.Settle.{settle_answer}
use Rattle.swarm_objects.specs.World.{World}
use Rattle.swarm_objects.specs.declared.duties.Settle.{Settle}
use Rattle.swarm_objects.specs.declared.duties.Settle.TheVariants as settle

pub answer_matches : (w : World) (answer : Settle) → answer ≡ settle_answer w → answer ≡ settle.Settled → IsMatched w
answer_matches w answer is settled = settled-matched w (sym is ∙ settled)
