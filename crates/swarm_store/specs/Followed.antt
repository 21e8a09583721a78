-- The stores of legal histories.
use Rattle.std.specs.Prelude.{◌≡◌, ℕ, List, length, false}
use Rattle.swarm_model.specs.History.{IsLegal, replay}
use Rattle.swarm_objects.specs.declared.calls.Entry.{Entry}
use Rattle.swarm_objects.specs.Usable.{IsUsable}
use Rattle.swarm_store.specs.Stored.{StandsFor, Stored}

-- what a store asks for that stands for the world of a legal history, it has
abbrev pub UsableStoreLaw : Type 0
UsableStoreLaw = (h : List Entry) (s : Stored) → IsLegal h → StandsFor s (replay h) → IsUsable s.tables

-- it stands for the world of a legal history of so many entries, and more may follow
pub record StandsAfter (n : ℕ) (s : Stored) : Type 0 where
  pub history : List Entry
  pub legal : IsLegal history
  pub count : length history ≡ n
  pub running : (replay history).halted ≡ false
  pub stands : StandsFor s (replay history)
