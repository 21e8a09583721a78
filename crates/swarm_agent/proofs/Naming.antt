-- The tasks that a message names, as a set.
use Rattle.std.proofs.Common.{Bool, List, [], ap, cond, false, not, refl, sym, ℕ, ◌∙◌, ◌∷◌, ◌≡◌}
use Rattle.std.specs.BTreeSet.{BTreeSet, contains}
use Rattle.std.specs.List.{list_any}
use Rattle.std.specs.Ordering.{nat_cmp}
use Rattle.std.specs.Prelude.{map, ◌&&◌, ◌||◌}
use Rattle.swarm_objects.specs.Agents.Messages.{gone_executor, left_out, names}
use Rattle.swarm_objects.specs.declared.agents.Executor.{Executor}
use Rattle.swarm_objects.specs.declared.messages.AssignChange.{AssignChange}
use Rattle.swarm_objects.specs.declared.messages.Message.{Message}

-- what is named so far, and by what is left
abbrev pub named-with : BTreeSet ℕ → List AssignChange → ℕ → Bool
named-with named rest task = contains nat_cmp named task || list_any (names task) rest

abbrev pub SoFar : BTreeSet ℕ → List AssignChange → List AssignChange → Type 0
SoFar named rest changes = (task : ℕ) → named-with named rest task ≡ list_any (names task) changes

-- A message that isn't complete leaves nothing out.

pub left-out-none : (m : Message) (es : List Executor) → m.complete ≡ false → es ≡ map (left_out m) es
left-out-none m [] whole = refl
left-out-none m (e ∷ es) whole =
    ap (λ (zs : List Executor). e ∷ zs) (left-out-none m es whole)
    ∙ ap (λ (b : Bool). cond (b && not (list_any (names e.task) m.changes)) (gone_executor e) e ∷ map (left_out m) es)
    (sym whole)
