-- Going over rows by a span of those that give something.
use Rattle.std.specs.Prelude.{Bool, List, Option, flat_map, is_some, nat_lt, ℕ, ◌&&◌, ◌≡◌}
use Rattle.swarm_model.specs.Settle.{Wait, wait_cmp}
use Rattle.swarm_objects.specs.Rows.{first_of, least_by, rows_above}
use Rattle.swarm_spans.specs.Spans.{Covers}
use Rattle.swarm_spans.specs.declared.span.Span.{Span}

-- the row gives something
abbrev pub gives : {X Y : Type 0} → (X → List Y) → X → Bool
gives f x = is_some (first_of (f x))

abbrev pub gives_above : {X : Type 0} → (X → ℕ) → (X → List Wait) → ℕ → X → Bool
gives_above key f after x = gives f x && nat_lt after (key x)

-- what the rows above the number give
abbrev pub waits_above : {X : Type 0} → (X → ℕ) → (X → List Wait) → ℕ → List X → List Wait
waits_above key f after rows = flat_map f (rows_above key after rows)

-- all rows that give a wait and were not gone over are in the span, and lie above its low end
pub record IsGoneOver {X : Type 0} (key : X → ℕ) (f : X → List Wait) (rows : List X)
    (best held : Option Wait) (left : Span) : Type 0 where
  pub covers : Covers key (gives_above key f left.after) left rows
  pub least : least_by wait_cmp held (waits_above key f left.after rows) ≡ least_by wait_cmp best (flat_map f rows)
