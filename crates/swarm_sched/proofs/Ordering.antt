-- That nodes are compared by a total order, and so which one is the best.
use Rattle.std.proofs.Common.{◌≡◌, ◌∙◌, ◌++◌, ◌∷◌, ◌⊎◌, Bool, List, None, Option, Some, [], ap, cond, false, inl, inr}
use Rattle.std.proofs.Common.{refl, subst, sym, true, ℕ}
use Rattle.std.proofs.lemmas.Cmp.{nat_cmp_total, nat_list_cmp_total, on_total, ranked, then_total, tied_itself}
use Rattle.std.specs.Cmp.{IsTotalOrder}
use Rattle.std.specs.Ordering.{is_lt, nat_cmp, ordering_reverse, ordering_then}
use Rattle.std.specs.Prelude.{IfSome, filter}
use Rattle.std.specs.declared.cmp.Ordering.TheVariants.{Equal, Greater, Less}
use Rattle.std.specs.declared.cmp.Ordering.{Ordering}
use Rattle.swarm_filters.proofs.Filtering
use Rattle.swarm_filters.specs.Tested.{is_open}
use Rattle.swarm_objects.proofs.RowLemmas.{Has-filter, Has-filter_cases}
use Rattle.swarm_objects.proofs.Tests.{never-both}
use Rattle.swarm_objects.specs.Nodes.BestNode.{best_node, branch_load, load, node_cmp, spread_cmp}
use Rattle.swarm_objects.specs.Nodes.Constraints.{key_value}
use Rattle.swarm_objects.specs.Nodes.Filters.{here}
use Rattle.swarm_objects.specs.Rows.{Has, RisesFrom, has_row, least_by, node_id}
use Rattle.swarm_objects.specs.World.{Tables}
use Rattle.swarm_objects.specs.declared.nodes.Node.{Node}
use Rattle.swarm_objects.specs.declared.tasks.Task.{Task}
use Rattle.swarm_objects.specs.declared.templates.Key.{Key}
use Rattle.swarm_sched.proofs.Classing.{one-node}
use Rattle.swarm_sched.specs.Inside.Branches.{preferences}
use Rattle.swarm_sched.specs.Inside.Classes.{IsOrder}
use Rattle.swarm_sched.specs.Inside.Placing.{comes_first}
use Rattle.swarm_sched.specs.Inside.Ranks.{IsFound, IsLeader, IsPast, Trails}
use Rattle.swarm_timers.specs.Timers.{Timer, timer_owner}

-- by the preferences in turn, then by tasks and the id
pub spread_total : (t : Tables) (service : ℕ) (earlier keys : List Key) →
    IsTotalOrder (spread_cmp t service earlier keys)
spread_total t service earlier [] =
    record { antisymm = λ a b. refl; trans = λ a b c e f. absurd cc; congr = λ a b c e. refl }
spread_total t service earlier (k ∷ keys) =
    then_total (on_total (branch_load t service (earlier ++ k ∷ [])) nat_cmp_total)
    (then_total (on_total (λ n. key_value n k) nat_list_cmp_total)
    (spread_total t service (earlier ++ k ∷ []) keys))

pub node_total : (t : Tables) (x : Task) → IsTotalOrder (node_cmp t x)
node_total t x =
    then_total (spread_total t x.service [] x.template.spread)
    (then_total (on_total (λ n. here t n.id x.service) nat_cmp_total)
    (then_total (on_total (λ n. load t n.id) nat_cmp_total) (on_total node_id nat_cmp_total)))

-- Of any total order.

pub is-less : (o : Ordering) → is_lt o ≡ true → o ≡ Less
is-less Less e = refl
is-less Equal e = absurd cc
is-less Greater e = absurd cc

-- what isn't before something isn't before what is before it
pub not-before : {K : Type 0} (R : K → K → Ordering) (old new x : K) → IsTotalOrder R → is_lt (R new old) ≡ true →
    is_lt (R x old) ≡ false → is_lt (R x new) ≡ false
not-before R old new x total better past = go (R x new) refl
  where
    go : (o : Ordering) → R x new ≡ o → is_lt o ≡ false
    go Less e = never-both (is_lt (R x old)) past
        (ap is_lt (total.trans x new old e (is-less (R new old) better)))
    go Equal e = refl
    go Greater e = refl

-- it is this one, or comes behind it
abbrev IsOrBehind : {K : Type 0} → (K → K → Ordering) → K → K → Type 0
IsOrBehind R b x = (x ≡ b) ⊎ (R b x ≡ Less)

behind : {K : Type 0} (R : K → K → Ordering) (b x : K) → IsTotalOrder R → is_lt (R x b) ≡ false →
    (R x b ≡ Equal → x ≡ b) → IsOrBehind R b x
behind R b x total past tied = go (R x b) refl
  where
    go : (o : Ordering) → R x b ≡ o → IsOrBehind R b x
    go Less e = never-both (is_lt (R x b)) past (ap is_lt e)
    go Equal e = inl (tied e)
    go Greater e = inr (total.antisymm b x ∙ ap ordering_reverse e)

-- nothing is before it
none-before : {K : Type 0} (R : K → K → Ordering) (b x : K) → IsTotalOrder R → IsOrBehind R b x →
    is_lt (R x b) ≡ false
none-before R b x total (inl e) = ap (λ z. is_lt (R z b)) e ∙ ap is_lt (tied_itself total b)
none-before R b x total (inr e) = ap is_lt (total.antisymm x b ∙ ap ordering_reverse e)

-- of one and the next, the one that isn't taken isn't it
taken-has : {K : Type 0} (R : K → K → Ordering) (b a y : K) (ys : List K) → IsTotalOrder R →
    is_lt (R y a) ≡ true → IsOrBehind R b y → Has (a ∷ y ∷ ys) b → Has (y ∷ ys) b
taken-has R b a y ys total better at (inl e) =
    never-both (is_lt (R y b)) (none-before R b y total at) (ap (λ z. is_lt (R y z)) (sym e) ∙ better)
taken-has R b a y ys total better at (inr h) = h

kept-has : {K : Type 0} (R : K → K → Ordering) (b a y : K) (ys : List K) → is_lt (R y a) ≡ false →
    IsOrBehind R b a → Has (a ∷ y ∷ ys) b → Has (a ∷ ys) b
kept-has R b a y ys worse (inl same) there = inl same
kept-has R b a y ys worse (inr later) (inl e) = inl e
kept-has R b a y ys worse (inr later) (inr (inl e)) =
    never-both (is_lt (R y a)) worse (ap (λ z. is_lt (R z a)) e ∙ ap is_lt later)
kept-has R b a y ys worse (inr later) (inr (inr h)) = inr h

-- it is found, wherever in the list it is
least-from : {K : Type 0} (R : K → K → Ordering) (b a : K) (xs : List K) → IsTotalOrder R → Has (a ∷ xs) b →
    ((x : K) → Has (a ∷ xs) x → IsOrBehind R b x) → least_by R (Some a) xs ≡ Some b
least-from R b a [] total (inl e) each = ap Some e
least-from R b a [] total (inr h) each = absurd h
least-from R b a (y ∷ ys) total there each =
    go (is_lt (R y a)) refl (λ h k. least-from R b y ys total h k) (λ h k. least-from R b a ys total h k)
  where
    rest : (x : _) → Has (a ∷ ys) x → IsOrBehind R b x
    rest x (inl e) = each x (inl e)
    rest x (inr h) = each x (inr (inr h))

    go : (c : Bool) → is_lt (R y a) ≡ c →
        (Has (y ∷ ys) b → ((x : _) → Has (y ∷ ys) x → IsOrBehind R b x) → least_by R (Some y) ys ≡ Some b) →
        (Has (a ∷ ys) b → ((x : _) → Has (a ∷ ys) x → IsOrBehind R b x) → least_by R (Some a) ys ≡ Some b) →
        least_by R (cond c (Some y) (Some a)) ys ≡ Some b
    go true e one two = one (taken-has R b a y ys total e (each y (inr (inl refl))) there) (λ x h. each x (inr h))
    go false e one two = two (kept-has R b a y ys e (each a (inl refl)) there) rest

least-is : {K : Type 0} (R : K → K → Ordering) (b : K) (xs : List K) → IsTotalOrder R → Has xs b →
    ((x : K) → Has xs x → IsOrBehind R b x) → least_by R None xs ≡ Some b
least-is R b [] total there each = absurd there
least-is R b (x ∷ xs) total there each = least-from R b x xs total there each

none-least : {K : Type 0} (R : K → K → Ordering) (xs : List K) → ((x : K) → Has xs x → ⊥) → least_by R None xs ≡ None
none-least R [] each = refl
none-least R (x ∷ xs) each = absurd (each x (inl refl))

-- Of nodes.

-- with a better best one, those stay behind it that were behind the former
pub trails_further : (t : Tables) (x : Task) (old new n : Node) → is_lt (node_cmp t x new old) ≡ true →
    Trails t x (Some old) n → Trails t x (Some new) n
trails_further t x old new n better past = not-before (node_cmp t x) old new n (node_total t x) better past

last-equal : (a b : Ordering) → ordering_then a b ≡ Equal → b ≡ Equal
last-equal Less b e = absurd cc
last-equal Equal b e = e
last-equal Greater b e = absurd cc

-- nodes that compare as equal have one id
same-id : (t : Tables) (x : Task) (n m : Node) → node_cmp t x n m ≡ Equal → n.id ≡ m.id
same-id t x n m e =
    let loads : Ordering = ordering_then (nat_cmp (load t n.id) (load t m.id)) (nat_cmp n.id m.id) in
    let tasks : Ordering = ordering_then (nat_cmp (here t n.id x.service) (here t m.id x.service)) loads in
    let ids : nat_cmp n.id m.id ≡ Equal = last-equal (nat_cmp (load t n.id) (load t m.id)) (nat_cmp n.id m.id)
    (last-equal (nat_cmp (here t n.id x.service) (here t m.id x.service)) loads
    (last-equal (spread_cmp t x.service [] x.template.spread n m) tasks e)) in
    ranked n.id m.id Equal (sym ids)

-- an open node is the best where no open one is before it, and none is where none is open
pub best_is : (t : Tables) (x : Task) (best : Option Node) → RisesFrom node_id 0 t.nodes →
    IfSome best (λ b. Has t.nodes b × (is_open t x b ≡ true)) →
    ((n : Node) → Has t.nodes n → is_open t x n ≡ true → Trails t x best n) → best ≡ best_node t x
best_is t x None rising own trail =
    sym (none-least (node_cmp t x) (filter (is_open t x) t.nodes) nobody) ∙ Filtering.best_is t x
  where
    nobody : (n : Node) → Has (filter (is_open t x) t.nodes) n → ⊥
    nobody n h = let r = Has-filter_cases (is_open t x) t.nodes n h in trail n r.0 r.1
best_is t x (Some b) rising own trail =
    sym (least-is (node_cmp t x) b (filter (is_open t x) t.nodes) (node_total t x)
    (Has-filter (is_open t x) t.nodes b own.0 own.1) each)
    ∙ Filtering.best_is t x
  where
    each : (n : Node) → Has (filter (is_open t x) t.nodes) n → IsOrBehind (node_cmp t x) b n
    each n h =
        let r = Has-filter_cases (is_open t x) t.nodes n h in
        behind (node_cmp t x) b n (node_total t x) (trail n r.0 r.1)
        (λ e. one-node t.nodes n b rising r.0 own.0 (same-id t x n b e))

-- a node comes first as the preferences, its tasks and its id say
pub comes_is : (t : Tables) (x : Task) (n b : Node) (o : Ordering) →
    o ≡ spread_cmp t x.service [] x.template.spread n b →
    comes_first t x.service o n.id (Some b) ≡ is_lt (node_cmp t x n b)
comes_is t x n b o is = ap (λ r. comes_first t x.service r n.id (Some b)) is

-- What is found of a class.

-- it is better than the best one so far, with which the nodes of the class compare so
pub found_better : (t : Tables) (x : Task) (ranked : List Timer) (o : Ordering) (best found : Option Node) →
    ((n : Node) → Has t.nodes n → has_row timer_owner n.id ranked ≡ true → IsOrder (preferences t x) o n best) →
    IsFound t x ranked o best found → (f : Node) → found ≡ Some f →
    IfSome best (λ b. is_lt (node_cmp t x f b) ≡ true)
found_better t x ranked o None found order is f e = tt
found_better t x ranked o (Some b) found order is f e =
    let leads : IsLeader t x ranked o (Some b) f =
    subst (λ r. IfSome r (IsLeader t x ranked o (Some b))) e is.leads in
    sym (comes_is t x f b o (order f leads.row leads.ranked)) ∙ leads.first

-- no open node of the class is before it, where they are all alike
pub found_trails : (t : Tables) (x : Task) (ranked : List Timer) (o : Ordering) (best found : Option Node) →
    ((n m : Node) → Has t.nodes n → Has t.nodes m → has_row timer_owner n.id ranked ≡ true →
    has_row timer_owner m.id ranked ≡ true → spread_cmp t x.service [] x.template.spread n m ≡ Equal) →
    IsFound t x ranked o best found → (f : Node) → found ≡ Some f → (n : Node) → Has t.nodes n →
    has_row timer_owner n.id ranked ≡ true → is_open t x n ≡ true → Trails t x (Some f) n
found_trails t x ranked o best found alike is f e n row own opens =
    let leads : IsLeader t x ranked o best f =
    subst (λ r. IfSome r (IsLeader t x ranked o best)) e is.leads in
    let past : comes_first t x.service Equal n.id (Some f) ≡ false =
    subst (λ r. IsPast t x.service o best r n.id) e (is.others n row own opens) in
    sym (comes_is t x n f Equal (sym (alike n f row leads.row own leads.ranked))) ∙ past

-- where none was found, no open node of the class is before the best one so far
pub none_trails : (t : Tables) (x : Task) (ranked : List Timer) (o : Ordering) (best found : Option Node) →
    ((n : Node) → Has t.nodes n → has_row timer_owner n.id ranked ≡ true → IsOrder (preferences t x) o n best) →
    IsFound t x ranked o best found → found ≡ None → (b : Node) → best ≡ Some b → (n : Node) → Has t.nodes n →
    has_row timer_owner n.id ranked ≡ true → is_open t x n ≡ true → Trails t x (Some b) n
none_trails t x ranked o best found order is e b held n row own opens =
    let past : comes_first t x.service o n.id (Some b) ≡ false =
    subst (λ r. comes_first t x.service o n.id r ≡ false) held
    (subst (λ r. IsPast t x.service o best r n.id) e (is.others n row own opens)) in
    sym (comes_is t x n b o (subst (IsOrder (preferences t x) o n) held (order n row own))) ∙ past

-- where there is no best one either, no node of the class is open
pub none_open : (t : Tables) (x : Task) (ranked : List Timer) (o : Ordering) (best found : Option Node) →
    IsFound t x ranked o best found → found ≡ None → best ≡ None → (n : Node) → Has t.nodes n →
    has_row timer_owner n.id ranked ≡ true → is_open t x n ≡ true → ⊥
none_open t x ranked o best found is e none n row own opens =
    let past : true ≡ false =
    subst (λ r. comes_first t x.service o n.id r ≡ false) none
    (subst (λ r. IsPast t x.service o best r n.id) e (is.others n row own opens)) in
    absurd cc
