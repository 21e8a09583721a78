-- Where no node is down for long, no task is orphaned.
use Rattle.std.proofs.Common.{◌≡◌, ℕ, Bool, true, false, cond, List, [], ◌∷◌, Option, Some, None, refl, sym, ap, ◌∙◌}
use Rattle.std.specs.Prelude.{◌&&◌, ◌||◌, ◌==◌, filter, map}
use Rattle.std.specs.List.{list_any}
use Rattle.swarm_objects.specs.Loops.Dispatcher.{is_long_down, is_orphaned}
use Rattle.swarm_objects.specs.Loops.Words.{duty_where}
use Rattle.swarm_objects.specs.Rows.{first_of, is_row_and, is_some_and, node_id, row_at}
use Rattle.swarm_objects.specs.Tasks.Words.{is_placed}
use Rattle.swarm_objects.specs.World.{Tables}
use Rattle.swarm_objects.specs.declared.duties.Duty.TheVariants as duty
use Rattle.swarm_objects.specs.declared.nodes.Node.{Node}
use Rattle.swarm_objects.specs.declared.tasks.Task.{Task}

fails_at : {X : Type 0} (key : X → ℕ) (test : X → Bool) (rows : List X) (id : ℕ) → list_any test rows ≡ false
    → is_row_and key test rows id ≡ false
fails_at key test [] id e = refl
fails_at key test (x ∷ rows) id e = go (test x) (key x == id) refl e (fails_at key test rows id)
  where
    go : (a b : Bool) → test x ≡ a → (a || list_any test rows) ≡ false
        → (list_any test rows ≡ false → is_row_and key test rows id ≡ false)
        → is_some_and test (cond b (Some x) (row_at key id rows)) ≡ false
    go true b is none rest = absurd cc
    go false true is none rest = is
    go false false is none rest = rest none

no_node : (t : Tables) (test : Node → Bool) (node : Option ℕ) → list_any test t.nodes ≡ false
    → is_some_and (is_row_and node_id test t.nodes) node ≡ false
no_node t test None e = refl
no_node t test (Some id) e = fails_at node_id test t.nodes id e

and_false : (b : Bool) → (b && false) ≡ false
and_false true = refl
and_false false = refl

none_left : {X : Type 0} (p : X → Bool) (rows : List X) → ((x : X) → p x ≡ false) → filter p rows ≡ []
none_left p [] no' = refl
none_left p (x ∷ rows) no' = ap (λ b. cond b (x ∷ filter p rows) (filter p rows)) (no' x) ∙ none_left p rows no'

pub none_orphaned : (t : Tables) → false ≡ list_any (is_long_down t) t.nodes
    → first_of (duty_where (is_orphaned t) (λ x. duty.Orphan x.id) t.tasks) ≡ None
none_orphaned t e =
    ap (λ (xs : List Task). first_of (map (λ x. duty.Orphan x.id) xs))
    (none_left (is_orphaned t) t.tasks
    (λ x. ap (λ b. is_placed x && b) (no_node t (is_long_down t) x.node (sym e)) ∙ and_false (is_placed x)))
