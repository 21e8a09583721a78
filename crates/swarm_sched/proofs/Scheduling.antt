-- What placing and explaining change, and sums of loads.
use Rattle.std.proofs.Common.{◌≡◌, ℕ, List, refl}
use Rattle.std.proofs.lemmas.List.Sums.{sum_by-cons}
use Rattle.swarm_objects.specs.Changes.{placed}
use Rattle.swarm_objects.specs.Loops.Scheduler.{after_explain, after_place, explained}
use Rattle.swarm_objects.specs.Rows.{row_at, task_id}
use Rattle.swarm_objects.specs.Sound.{IsSound}
use Rattle.swarm_objects.specs.World.{Tables}
use Rattle.swarm_objects.specs.declared.rows.Change.{Change}
use Rattle.swarm_objects.proofs.Applied.{found_makes}
use Rattle.swarm_objects.proofs.Few.{few_nodes}
use Rattle.swarm_objects.specs.ChangeLists.{Makes, put_found}

pub ruleset load_steps = (sum_by-cons, few_nodes)

pub placement_makes : (version id node : ℕ) (t : Tables) (cs : List Change) → IsSound t
    → cs ≡ put_found (placed version t.clock node) (row_at task_id id t.tasks)
    → Makes t cs (after_place version t id node)
placement_makes version id node t cs sound list =
    found_makes (placed version t.clock node) id t cs sound (λ x. refl) list

pub explanation_makes : (version id : ℕ) (t : Tables) (cs : List Change) → IsSound t
    → cs ≡ put_found (explained version t) (row_at task_id id t.tasks) → Makes t cs (after_explain version t id)
explanation_makes version id t cs sound list = found_makes (explained version t) id t cs sound (λ x. refl) list
