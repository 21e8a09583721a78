-- Where no row needs to be seen, and rows with one key.
use Rattle.std.proofs.Common.{◌≡◌, ℕ, Bool, false, List, [], ◌∷◌, Option, Some, None, inl, inr, refl, sym, ap, ◌∙◌, arith}
use Rattle.std.specs.Prelude.{◌&&◌}
use Rattle.swarm_plain.proofs.AnyOf.{and_false}
use Rattle.swarm_objects.proofs.RowLemmas.{number_above}
use Rattle.swarm_objects.specs.Loops.Enforcer.{breaks_constraints, is_misplaced}
use Rattle.swarm_objects.specs.Rows.{Has, IsRising, RisesFrom, is_row_and, is_some_and, node_id, row_at}
use Rattle.swarm_objects.specs.Tasks.Words.{is_live, is_placed}
use Rattle.swarm_objects.specs.World.{Tables}
use Rattle.swarm_objects.specs.declared.nodes.Node.{Node}
use Rattle.swarm_objects.specs.declared.tasks.Task.{Task}

-- A test that no row passes.

fails_everywhere : {X : Type 0} (test : X → Bool) (found : Option X) → ((x : X) → test x ≡ false) →
    is_some_and test found ≡ false
fails_everywhere test None each = refl
fails_everywhere test (Some x) each = each x

-- a task without constraints isn't misplaced
pub none_misplaced : (t : Tables) (x : Task) → x.template.constraints ≡ [] → is_misplaced t x ≡ false
none_misplaced t x e =
    ap (λ b. is_live x && is_placed x && b) (on_node x.node) ∙ and_false (is_live x && is_placed x)
  where
    meets : (n : Node) → breaks_constraints x n ≡ false
    meets n = rw e refl

    on_node : (node : Option ℕ) → is_some_and (is_row_and node_id (breaks_constraints x) t.nodes) node ≡ false
    on_node None = refl
    on_node (Some id) = fails_everywhere (breaks_constraints x) (row_at node_id id t.nodes) meets

-- Rows with one key.

one_row : {X : Type 0} (key : X → ℕ) (n : ℕ) (rows : List X) (x y : X) → RisesFrom key n rows → Has rows x →
    Has rows y → key x ≡ key y → x ≡ y
one_row key n [] x y r h k e = absurd h
one_row key n (z ∷ rows) x y r (inl a) (inl b) e = sym a ∙ b
one_row key n (z ∷ rows) x y r (inl a) (inr k) e =
    absurd (let above = number_above key (key z) rows y r.1 k in let same = ap key a in omega (arith, above, same, e))
one_row key n (z ∷ rows) x y r (inr h) (inl b) e =
    absurd (let above = number_above key (key z) rows x r.1 h in let same = ap key b in omega (arith, above, same, e))
one_row key n (z ∷ rows) x y r (inr h) (inr k) e = one_row key (key z) rows x y r.1 h k e

pub same_row : {X : Type 0} (key : X → ℕ) (rows : List X) (x y : X) → IsRising key rows → Has rows x → Has rows y →
    key x ≡ key y → x ≡ y
same_row key [] x y r h k e = absurd h
same_row key (z ∷ rows) x y r (inl a) (inl b) e = sym a ∙ b
same_row key (z ∷ rows) x y r (inl a) (inr k) e =
    absurd (let above = number_above key (key z) rows y r k in let same = ap key a in omega (arith, above, same, e))
same_row key (z ∷ rows) x y r (inr h) (inl b) e =
    absurd (let above = number_above key (key z) rows x r h in let same = ap key b in omega (arith, above, same, e))
same_row key (z ∷ rows) x y r (inr h) (inr k) e = one_row key (key z) rows x y r h k e
