-- Nodes that all refuse a task: how many each filter refuses, and that none is the best one.
use Rattle.std.proofs.Common.{◌≡◌, ◌≤◌, ◌+◌, ℕ, Bool, cond, List, [], ◌∷◌, Option, Some, None, false, true, refl, sym, ap, subst, ◌∙◌, arith}
use Rattle.std.proofs.Common.{get_or, length, replicate, set, suc, zero}
use Rattle.std.proofs.lemmas.List.Sums.{sum_by-cons}
use Rattle.std.specs.Option.{option_eq}
use Rattle.std.specs.Prelude.{◌&&◌, count_by, filter, is_none}
use Rattle.swarm_filters.proofs.Filtering.{best_is, counts_are, is_number}
use Rattle.swarm_filters.proofs.Tallies.{IsTally, goes_on, has_number, within}
use Rattle.swarm_filters.specs.Tested.{is_open}
use Rattle.swarm_objects.proofs.Tests.{and_fails}
use Rattle.swarm_objects.specs.Nodes.BestNode.{best_node, node_cmp}
use Rattle.swarm_objects.specs.Nodes.Filters.{admits, is_tested_on, refusal_counts, refused_by}
use Rattle.swarm_objects.specs.Rows.{least_by}
use Rattle.swarm_objects.specs.Same.{same_number}
use Rattle.swarm_objects.specs.World.{Tables}
use Rattle.swarm_objects.specs.declared.nodes.Node.{Node}
use Rattle.swarm_objects.specs.declared.tasks.Task.{Task}

-- the refusals of the nodes so far are counted, and the best node is the best of those that are left
pub record AreRefused (t : Tables) (x : Task) (counts : List ℕ) (left : List Node) : Type 0 where
  pub tally : IsTally (λ n. is_tested_on x.place n.id) (refused_by t x) t.nodes counts left
  pub best : least_by (node_cmp t x) None (filter (is_open t x) left) ≡ best_node t x

zeros : (n k : ℕ) → ◌≡◌ {A = ℕ} (get_or (replicate n 0) k 0) 0
zeros zero k = refl
zeros (suc n) zero = refl
zeros (suc n) (suc k) = zeros n k

-- before the first node
pub at_first : (t : Tables) (x : Task) (left : List Node) → left ≡ t.nodes
    → AreRefused t x (0 ∷ 0 ∷ 0 ∷ 0 ∷ 0 ∷ 0 ∷ []) left
at_first t x left all = record {
  tally = record {
    six = refl;
    sums = λ k.
        let number = has_number (λ n. is_tested_on x.place n.id) (refused_by t x) k in
        omega (arith, zeros 6 k, ap (λ (nodes : List Node). count_by number nodes) all);
  };
  best = ap (λ (nodes : List Node). least_by (node_cmp t x) None (filter (is_open t x) nodes)) all ∙ best_is t x;
}

-- a node that isn't open leaves the best of the others
closed : (t : Tables) (x : Task) (n : Node) (more : List Node) → is_open t x n ≡ false
    → least_by (node_cmp t x) None (filter (is_open t x) (n ∷ more)) ≡ best_node t x
    → least_by (node_cmp t x) None (filter (is_open t x) more) ≡ best_node t x
closed t x n more shut best =
    let others = filter (is_open t x) more in
    sym (ap (λ (b : Bool). least_by (node_cmp t x) None (cond b (n ∷ others) others)) shut) ∙ best

-- one node more, which isn't tested
pub untested : (t : Tables) (x : Task) (counts : List ℕ) (n : Node) (left more : List Node) → left ≡ n ∷ more
    → is_tested_on x.place n.id ≡ false → AreRefused t x counts left → AreRefused t x counts more
unfolding is_open
untested t x counts n left more front not so =
    let tested : Node → Bool = λ m. is_tested_on x.place m.id in
    let at-front = subst (AreRefused t x counts) front so in
    record {
      tally = record {
        six = at-front.tally.six;
        sums = λ k.
            let number = has_number tested (refused_by t x) k in
            let none : number n ≡ false = ap (λ (b : Bool). b && option_eq same_number (refused_by t x n) (Some k)) not in
            omega (
              arith,
              at-front.tally.sums k,
              sum_by-cons (λ m. cond (number m) 1 0) n more,
              ap {B = ℕ} (λ (b : Bool). cond b 1 0) none,
            );
      };
      best = closed t x n more (ap (λ (b : Bool). b && admits t x n) not) at-front.best;
    }

-- one node more, which a filter refuses
pub refused : (t : Tables) (x : Task) (counts : List ℕ) (n : Node) (left more : List Node) (k : ℕ) → left ≡ n ∷ more
    → is_tested_on x.place n.id ≡ true → Some k ≡ refused_by t x n → AreRefused t x counts left
    → AreRefused t x (set counts k (get_or counts k 0 + 1)) more
unfolding is_open
refused t x counts n left more k front is-tested is so =
    let at-front = subst (AreRefused t x counts) front so in
    let shut : admits t x n ≡ false = sym (ap (λ (o : Option ℕ). is_none o) is) in
    record {
      tally =
          goes_on (λ m. is_tested_on x.place m.id) (refused_by t x) t.nodes counts n more k is-tested is
          (is_number t x n k is) at-front.tally;
      best = closed t x n more (and_fails (is_tested_on x.place n.id) (admits t x n) shut) at-front.best;
    }

-- no count is over the number of nodes
pub few : (t : Tables) (x : Task) (counts : List ℕ) (left : List Node) (k : ℕ) → AreRefused t x counts left
    → get_or counts k 0 ≤ length t.nodes
few t x counts left k so =
    within (λ n. is_tested_on x.place n.id) (refused_by t x) t.nodes counts left k so.tally

-- behind the last node
pub at_last : (t : Tables) (x : Task) (counts : List ℕ) (left : List Node) → left ≡ [] → AreRefused t x counts left
    → (counts ≡ refusal_counts t x) × (best_node t x ≡ None)
at_last t x counts left none so = (
  counts_are t x counts left none so.tally,
  sym so.best ∙ ap (λ (nodes : List Node). least_by (node_cmp t x) None (filter (is_open t x) nodes)) none,
)
