-- One task more, and then one fewer.
use Rattle.std.proofs.Common.{◌≡◌, ◌∙◌, ◌+◌, ◌-◌, ◌<◌, ◌==◌, Bool, List, [], ◌∷◌, ap, arith, cond, eqb, false, get_or, length, refl, subst, suc, sym, true, zero, ℕ}
use Rattle.std.proofs.lemmas.Bool.Decides.{nat_tests}
use Rattle.std.proofs.lemmas.List.{length-map}
use Rattle.swarm_objects.specs.Rows.{node_id}
use Rattle.swarm_objects.specs.World.{Tables}
use Rattle.swarm_objects.specs.declared.tasks.Task.{Task}
use Rattle.swarm_objects.specs.declared.templates.Key.{Key}
use Rattle.swarm_spread.specs.Counts.{Counts, HasTask, IsFor, Stands, changed_at, counts_of, here_on, one_fewer, one_more, with_change}

undone : (node : ℕ) (ns hs : List ℕ) → length ns ≡ length hs →
    changed_at one_fewer node ns (changed_at one_more node ns hs) ≡ hs
undone node [] hs long = refl
undone node (n ∷ ns) [] long = refl
undone node (n ∷ ns) (h ∷ hs) long = go (n == node) (undone node ns hs (omega arith))
  where
    go : (b : Bool) → changed_at one_fewer node ns (changed_at one_more node ns hs) ≡ hs →
        cond b (cond b (h + 1) h - 1) (cond b (h + 1) h) ∷ changed_at one_fewer node ns (changed_at one_more node ns hs)
        ≡ h ∷ hs
    go true rest = let same : h + 1 - 1 ≡ h = omega arith in rw (same, rest) refl
    go false rest = rw rest refl

has_one : (node : ℕ) (ns hs : List ℕ) → length ns ≡ length hs → (place : ℕ) → place < length ns →
    get_or ns place 0 ≡ node → 0 < get_or (changed_at one_more node ns hs) place 0
has_one node [] hs long place lt at = absurd (omega arith)
has_one node (n ∷ ns) [] long place lt at = absurd (omega arith)
has_one node (n ∷ ns) (h ∷ hs) long zero lt at =
    let is : eqb n node ≡ true = grind (arith, nat_tests) in
    omega (arith, ap (λ (b : Bool). cond b (h + 1) h) is)
has_one node (n ∷ ns) (h ∷ hs) long (suc place) lt at = has_one node ns hs (omega arith) place (omega arith) at

long_here : (t : Tables) (service : ℕ) (keys : List Key) →
    length (counts_of t service keys).nodes ≡ length (counts_of t service keys).here
long_here t service keys = length-map t.nodes node_id ∙ omega (arith, length-map t.nodes (here_on t service))

pub has_added : (t : Tables) (service : ℕ) (keys : List Key) (node : ℕ) (c d : Counts) → c ≡ counts_of t service keys →
    d ≡ with_change one_more c node → HasTask d node
has_added t service keys node c d is changed =
    let there : d ≡ with_change one_more (counts_of t service keys) node = changed ∙ ap (λ (e : Counts). with_change one_more e node) is in
    rw there (has_one node (counts_of t service keys).nodes (counts_of t service keys).here (long_here t service keys))

dropped_again : (t : Tables) (service : ℕ) (keys : List Key) (node : ℕ) (c d e : Counts) → c ≡ counts_of t service keys →
    d ≡ with_change one_more c node → e ≡ with_change one_fewer d node → e ≡ counts_of t service keys
dropped_again t service keys node c d e is changed back =
    back ∙ (ap (λ (x : Counts). with_change one_fewer x node) (changed ∙ ap (λ (x : Counts). with_change one_more x node) is)
    ∙ ap (λ (hs : List ℕ). let x : Counts = record (counts_of t service keys) { here = hs } in x)
    (undone node (counts_of t service keys).nodes (counts_of t service keys).here (long_here t service keys)))

pub stands_again : (t : Tables) (service : ℕ) (keys : List Key) (node : ℕ) (c d e : Counts) → c ≡ counts_of t service keys →
    d ≡ with_change one_more c node → e ≡ with_change one_fewer d node → Stands t e
stands_again t service keys node c d e is changed back =
    subst (Stands t) (sym (dropped_again t service keys node c d e is changed back)) refl

pub for_task : (t : Tables) (x : Task) (keys : List Key) (node : ℕ) (c d e : Counts) → c ≡ counts_of t x.service keys →
    d ≡ with_change one_more c node → e ≡ with_change one_fewer d node → keys ≡ x.template.spread → IsFor x e
for_task t x keys node c d e is changed back own =
    subst (IsFor x) (sym (dropped_again t x.service keys node c d e is changed back)) (record { service = refl; keys = own })
