-- The line of the last world.
use Rattle.std.proofs.Common.{◌≡◌, ℕ, List, length, Result, Ok, Err, sym, ◌∙◌, ap}
use Rattle.std.specs.Prelude.{IfOk}
use Rattle.swarm_objects.specs.declared.calls.Entry.{Entry}
use Rattle.swarm_model.specs.History.{replay}
use Rattle.swarm_model.proofs.Base.Histories.{entries-replay}
use Rattle.swarm_top.specs.Summary.{summary, summary_of}

-- the line of a history's world, with as many entries as the history has
pub sums_up : {T E : Type 0} (bytes : T → List ℕ) (r : Result T E) (W : List Entry) (n : ℕ) → n ≡ length W →
    IfOk r (λ t. bytes t ≡ summary_of (replay W).tables n) → IfOk r (λ t. bytes t ≡ summary (replay W))
sums_up bytes (Ok t) W n count e = e ∙ ap (λ k. summary_of (replay W).tables k) (count ∙ sym (entries-replay W))
sums_up bytes (Err f) W n count e = tt
