-- Nodes that pass two tests, one after the other.
use Rattle.std.proofs.Common.{◌≡◌, ℕ, List, [], ◌∷◌, None, refl, ap, ◌∙◌}
use Rattle.std.specs.Prelude.{count_by, filter}
use Rattle.plain_placement.specs.Inside.Filtering.{is_counted, is_open}
use Rattle.swarm_objects.proofs.Filters.{count_both, filter_both}
use Rattle.swarm_objects.specs.Nodes.BestNode.{best_node, node_cmp}
use Rattle.swarm_objects.specs.Nodes.Filters.{admits, is_refused_by, is_tested_on, refusal_counts, tested_nodes}
use Rattle.swarm_objects.specs.Rows.{least_by}
use Rattle.swarm_objects.specs.World.{Tables}
use Rattle.swarm_objects.specs.declared.nodes.Node.{Node}
use Rattle.swarm_objects.specs.declared.tasks.Task.{Task}

counted : (t : Tables) (x : Task) (k : ℕ) →
    count_by (is_counted t x k) t.nodes ≡ count_by (is_refused_by t x k) (tested_nodes t x)
unfolding is_counted
counted t x k = count_both (λ (n : Node). is_tested_on x.place n.id) (is_refused_by t x k) t.nodes

-- the counts of the six filters
pub six_counts : (t : Tables) (x : Task) (a b c d e f : ℕ) → a ≡ count_by (is_counted t x 0) t.nodes →
    b ≡ count_by (is_counted t x 1) t.nodes → c ≡ count_by (is_counted t x 2) t.nodes →
    d ≡ count_by (is_counted t x 3) t.nodes → e ≡ count_by (is_counted t x 4) t.nodes →
    f ≡ count_by (is_counted t x 5) t.nodes → a ∷ b ∷ c ∷ d ∷ e ∷ f ∷ [] ≡ refusal_counts t x
six_counts t x a b c d e f is_a is_b is_c is_d is_e is_f =
    both a (count 0) (b ∷ c ∷ d ∷ e ∷ f ∷ []) _ (is_a ∙ counted t x 0)
    (both b (count 1) (c ∷ d ∷ e ∷ f ∷ []) _ (is_b ∙ counted t x 1)
    (both c (count 2) (d ∷ e ∷ f ∷ []) _ (is_c ∙ counted t x 2)
    (both d (count 3) (e ∷ f ∷ []) _ (is_d ∙ counted t x 3)
    (both e (count 4) (f ∷ []) _ (is_e ∙ counted t x 4)
    (both f (count 5) [] _ (is_f ∙ counted t x 5) refl)))))
  where
    count : ℕ → ℕ
    count k = count_by (is_refused_by t x k) (tested_nodes t x)

    both : (m n : ℕ) (ms ns : List ℕ) → m ≡ n → ms ≡ ns → m ∷ ms ≡ n ∷ ns
    both m n ms ns first rest = ap (λ k. k ∷ ms) first ∙ ap (λ ks. n ∷ ks) rest

pub best_is : (t : Tables) (x : Task) → least_by (node_cmp t x) None (filter (is_open t x) t.nodes) ≡ best_node t x
unfolding is_open
best_is t x =
    ap (least_by (node_cmp t x) None) (filter_both (λ (n : Node). is_tested_on x.place n.id) (admits t x) t.nodes)
