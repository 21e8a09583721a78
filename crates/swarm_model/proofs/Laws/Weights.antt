-- What tasks reserve on a node, as a sum of weights.
use Rattle.std.proofs.Common.{Bool, List, ap, cond, false, true, ℕ, ◌≡◌}
use Rattle.std.specs.Prelude.{sum_by}
use Rattle.swarm_objects.specs.Nodes.Holdings.{is_placed_on}
use Rattle.swarm_objects.specs.declared.tasks.Task.{Task}
use Rattle.swarm_objects.specs.declared.templates.Template.{Template}

-- what the task reserves on the node
abbrev pub weight : (Template → ℕ) → ℕ → Task → ℕ
weight f node x = cond (is_placed_on node x) (f x.template) 0

abbrev pub held : (Template → ℕ) → ℕ → List Task → ℕ
held f node tasks = sum_by (weight f node) tasks

pub weight-none : (f : Template → ℕ) (node : ℕ) (x : Task) → is_placed_on node x ≡ false → weight f node x ≡ 0
weight-none f node x e = ap (λ (b : Bool). cond b (f x.template) 0) e

pub weight-all : (f : Template → ℕ) (node : ℕ) (x : Task) → is_placed_on node x ≡ true → weight f node x ≡ f x.template
weight-all f node x e = ap (λ (b : Bool). cond b (f x.template) 0) e

abbrev pub cpu_of : Template → ℕ
cpu_of x = x.cpu

abbrev pub mem_of : Template → ℕ
mem_of x = x.mem
