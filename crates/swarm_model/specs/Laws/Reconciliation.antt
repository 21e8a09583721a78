-- Settled means matched.
use Rattle.std.specs.Prelude.{List, ◌≡◌}
use Rattle.swarm_model.specs.History.{IsLegal, replay}
use Rattle.swarm_model.specs.Laws.Matches.{Matches}
use Rattle.swarm_model.specs.Settle.{settle_answer}
use Rattle.swarm_objects.specs.declared.calls.Entry.{Entry}
use Rattle.swarm_objects.specs.declared.duties.Settle.TheVariants as settle

abbrev pub ReconciliationLaw : Type 0
ReconciliationLaw = (h : List Entry) → IsLegal h → settle_answer (replay h) ≡ settle.Settled → Matches h
