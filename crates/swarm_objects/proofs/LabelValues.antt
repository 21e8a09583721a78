-- The value of a label is that of the first with its key.
use Rattle.std.proofs.Common.{◌≡◌, ℕ, Bool, true, false, cond, List, [], ◌∷◌, Some, refl}
use Rattle.std.specs.Prelude.{find}
use Rattle.std.specs.Str.{bytes_eq}
use Rattle.swarm_objects.specs.Nodes.Constraints.{label_value}
use Rattle.swarm_objects.specs.Rows.{on_row}

pub label_value_is : (labels : List (List ℕ × List ℕ)) (name : List ℕ) →
    label_value labels name ≡ on_row [] (λ label. label.1) (find (λ label. bytes_eq label.0 name) labels)
label_value_is [] name = refl
label_value_is (label ∷ labels) name = go (bytes_eq label.0 name) (label_value_is labels name)
  where
    go : (b : Bool) →
        label_value labels name ≡ on_row [] (λ l. l.1) (find (λ l. bytes_eq l.0 name) labels) →
        cond b label.1 (label_value labels name)
        ≡ on_row [] (λ l. l.1) (cond b (Some label) (find (λ l. bytes_eq l.0 name) labels))
    go true below = refl
    go false below = below
