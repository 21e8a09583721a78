-- What is remembered of nodes: a slot that is filled or emptied, and what changes of rows leave true.
use Rattle.std.proofs.Common.{◌≡◌, ◌∙◌, ◌∷◌, ◌<◌, ◌⊎◌, ℕ, Bool, List, None, Option, Some, [], ap, arith, cond, eqb, false, get_or, inl, inr, length, not, refl, replicate, set, subst, suc, sym, true, zero, is_some}
use Rattle.std.proofs.lemmas.Bool.Decides.{nat_tests}
use Rattle.std.proofs.lemmas.List.{get_or-set_other, get_or-set_same, length-set}
use Rattle.std.specs.Option.{option_eq}
use Rattle.std.specs.Prelude.{IfSome, ◌+◌, count_by, filter, sum_by, ◌%◌, ◌&&◌, ◌++◌}
use Rattle.swarm_objects.proofs.Placing.{here_is, load_is}
use Rattle.swarm_objects.proofs.RowLemmas.{Has-append_cases, Has-filter_cases, Has-from_row_at, Has-map_cases, row_at-Some, sum_by-change_row, sum_by-filter}
use Rattle.swarm_objects.proofs.Tests.{both_are}
use Rattle.swarm_objects.specs.ChangeLists.{apply_change, apply_changes}
use Rattle.swarm_objects.specs.Nodes.BestNode.{load}
use Rattle.swarm_objects.specs.Nodes.Filters.{here}
use Rattle.swarm_objects.specs.Nodes.Holdings.{is_placed_on, task_cpu, task_mem, tasks_placed_on}
use Rattle.swarm_objects.specs.Rows.{Has, change_row, drop_row, has_row, put_row, row_at, task_id}
use Rattle.swarm_objects.specs.Same.{same_number}
use Rattle.swarm_objects.specs.Tasks.New.{with_task}
use Rattle.swarm_objects.specs.Tasks.Words.{is_live, is_of, is_on, is_placed}
use Rattle.swarm_objects.specs.Usable.{IsUsable}
use Rattle.swarm_objects.specs.World.{Tables}
use Rattle.swarm_objects.specs.declared.rows.Change.TheVariants as change
use Rattle.swarm_objects.specs.declared.rows.Change.{Change}
use Rattle.swarm_objects.specs.declared.tasks.Task.{Task}
use Rattle.swarm_sched.specs.Inside.Known.{AreCounted, AreFewer, AreMoved, AreSpared, CountsAlike, Forgets, ForgetsAll, ForgetsChange, Forgetting, IsExchanged, Knows, adds, if_of, one_if, recalled}
use Rattle.swarm_sched.specs.declared.known.Moved.{Moved}
use Rattle.swarm_sched.specs.declared.known.NodeTotals.{NodeTotals}

-- One slot.

pub decide : (a b : ℕ) → (a ≡ b) ⊎ (a ≡ b → ⊥)
decide a b = go (eqb a b) refl
  where
    go : (c : Bool) → eqb a b ≡ c → (a ≡ b) ⊎ (a ≡ b → ⊥)
    go true is = inl (grind (arith, nat_tests, is))
    go false is = inr (λ e. grind (arith, nat_tests, is, e))

-- what a changed slot leaves of a node: what stands in it, or what was remembered
slot-set : (all : List (Option NodeTotals)) (i : ℕ) (o : Option NodeTotals) (m : ℕ) → i < length all →
    (recalled (set all i o) m ≡ if_of m o) ⊎ (recalled (set all i o) m ≡ recalled all m)
slot-set all i o m lt =
    let long : m % length (set all i o) ≡ m % length all = ap (λ n. m % n) (length-set all i o) in
    let there = ap (λ j. if_of m (get_or (set all i o) j None)) long in
    elim (decide (m % length all) i) [
      | inl same ↦
          inl (there ∙ ap (λ j. if_of m (get_or (set all i o) j None)) same ∙ ap (if_of m) (get_or-set_same all i o None lt))
      | inr other ↦ inr (there ∙ ap (if_of m) (get_or-set_other all i (m % length all) o None other))
    ]

own-slot : (all : List (Option NodeTotals)) (i : ℕ) (o : Option NodeTotals) (m : ℕ) → i < length all → i ≡ m % length all →
    recalled (set all i o) m ≡ if_of m o
own-slot all i o m lt is =
    ap (λ n. if_of m (get_or (set all i o) (m % n) None)) (length-set all i o)
    ∙ ap (λ j. if_of m (get_or (set all i o) j None)) (sym is) ∙ ap (if_of m) (get_or-set_same all i o None lt)

pub filled : (t : Tables) (all : List (Option NodeTotals)) (i : ℕ) (k : NodeTotals) → i < length all → Knows t all →
    AreCounted t k.node k → Knows t (set all i (Some k))
filled t all i k lt knows are = record { each = λ m. at m (slot-set all i (Some k) m lt) }
  where
    own : (m : ℕ) (b : Bool) → eqb k.node m ≡ b → IfSome (cond b (Some k) None) (AreCounted t m)
    own m true is = let same : k.node ≡ m = grind (arith, nat_tests, is) in subst (λ n. AreCounted t n k) same are
    own m false is = tt

    at : (m : ℕ) → (recalled (set all i (Some k)) m ≡ if_of m (Some k)) ⊎ (recalled (set all i (Some k)) m ≡ recalled all m) →
        IfSome (recalled (set all i (Some k)) m) (AreCounted t m)
    at m (inl e) = subst (λ o. IfSome o (AreCounted t m)) (sym e) (own m (eqb k.node m) refl)
    at m (inr e) = subst (λ o. IfSome o (AreCounted t m)) (sym e) (knows.each m)

pub emptied : (all : List (Option NodeTotals)) (i : ℕ) → i < length all → AreFewer all (set all i None)
emptied all i lt = record { each = λ m. slot-set all i None m lt }

pub emptied_own : (all : List (Option NodeTotals)) (i node : ℕ) → i < length all → i ≡ node % length all →
    recalled (set all i None) node ≡ None
emptied_own all i node lt is = own-slot all i None node lt is

-- where every slot is empty
none-at : (n j : ℕ) → ◌≡◌ {A = Option NodeTotals} (get_or (replicate n None) j None) None
none-at zero j = refl
none-at (suc n) zero = refl
none-at (suc n) (suc j) = none-at n j

pub empty_knows : (t : Tables) (n : ℕ) → Knows t (replicate n None)
empty_knows t n = record {
  each = λ m.
      subst (λ o. IfSome o (AreCounted t m))
      (sym (ap (if_of m) (none-at n (m % length (replicate n None))))) tt;
}

pub knows_none : (t : Tables) (all : List (Option NodeTotals)) → all ≡ [] → Knows t all
knows_none t all none = subst (Knows t) (sym none) (record { each = λ m. tt })

pub ruleset remember_steps = (filled, empty_knows, knows_none)

-- What is remembered of fewer nodes.

pub fewer_itself : (all : List (Option NodeTotals)) → AreFewer all all
fewer_itself all = record { each = λ m. inr refl }

pub fewer_yet : (a b c : List (Option NodeTotals)) → AreFewer a b → AreFewer b c → AreFewer a c
fewer_yet a b c first second = record {
  each = λ m.
      elim (second.each m) [
        | inl none ↦ inl none
        | inr same ↦ elim (first.each m) [ inl none ↦ inl (same ∙ none) | inr is ↦ inr (same ∙ is) ]
      ];
}

none-fewer : (a b : List (Option NodeTotals)) (m : ℕ) → AreFewer a b → recalled a m ≡ None → recalled b m ≡ None
none-fewer a b m fewer none = elim (fewer.each m) [ inl e ↦ e | inr same ↦ same ∙ none ]

forgets-fewer : (a b : List (Option NodeTotals)) (o : Option Task) → AreFewer a b → Forgets a o → Forgets b o
forgets-fewer a b o fewer is = record { each = λ x node e on. none-fewer a b node fewer (is.each x node e on) }

change-fewer : (t : Tables) (a b : List (Option NodeTotals)) (c : Change) → AreFewer a b → ForgetsChange t a c →
    ForgetsChange t b c
change-fewer t a b c fewer is = record {
  put = λ x e.
      (forgets-fewer a b (Some x) fewer (is.put x e).0, forgets-fewer a b (row_at task_id x.id t.tasks) fewer (is.put x e).1);
  drop = λ id e. forgets-fewer a b (row_at task_id id t.tasks) fewer (is.drop id e);
}

-- The node of a task.

pub on-is : (held : Option ℕ) (node : ℕ) → option_eq same_number held (Some node) ≡ true → held ≡ Some node
on-is None node e = absurd cc
on-is (Some n) node e = let same : n ≡ node = grind (arith, nat_tests, e) in ap (λ (k : ℕ). Some k) same

same-task : (x y : Task) → Some x ≡ Some y → x ≡ y
same-task x y e = cc

pub node_gone : (all : List (Option NodeTotals)) (x : Task) (n : ℕ) → x.node ≡ Some n → recalled all n ≡ None →
    Forgets all (Some x)
node_gone all x n at gone = record {
  each = λ y node e on.
      let both : Some n ≡ Some node = sym at ∙ ap (λ (z : Task). z.node) (same-task x y e) ∙ on-is y.node node on in
      let number : n ≡ node = cc in
      subst (λ k. recalled all k ≡ None) number gone;
}

pub no_node_gone : (all : List (Option NodeTotals)) (x : Task) → x.node ≡ None → Forgets all (Some x)
no_node_gone all x none = record {
  each = λ y node e on.
      let both : None ≡ Some node = sym none ∙ ap (λ (z : Task). z.node) (same-task x y e) ∙ on-is y.node node on in
      absurd cc;
}

pub ruleset node_steps = (node_gone, no_node_gone, fewer_itself)

pub former_none : (all : List (Option NodeTotals)) (t : Tables) (id : ℕ) → None ≡ row_at task_id id t.tasks →
    Forgets all (row_at task_id id t.tasks)
former_none all t id none = record { each = λ x node e on. let both : None ≡ Some x = none ∙ e in absurd cc }

pub former_some : (all : List (Option NodeTotals)) (t : Tables) (id : ℕ) (x : Task) → Some x ≡ row_at task_id id t.tasks →
    Forgets all (Some x) → Forgets all (row_at task_id id t.tasks)
former_some all t id x is = subst (Forgets all) is

pub ruleset former_steps = (former_none, former_some, fewer_itself)

-- One change.

pub put_gone : (t : Tables) (a b : List (Option NodeTotals)) (c : Change) (y : Task) → c ≡ change.PutTask y →
    Forgets a (Some y) → AreFewer a b → Forgets b (row_at task_id y.id t.tasks) → ForgetsChange t b c
put_gone t a b c y is now fewer before = record {
  put = λ z e.
      let one : change.PutTask y ≡ change.PutTask z = sym is ∙ e in
      let same : y ≡ z = cc in
      subst (λ (x : Task). Forgets b (Some x) × Forgets b (row_at task_id x.id t.tasks)) same
      (forgets-fewer a b (Some y) fewer now, before);
  drop = λ id e. let other : change.PutTask y ≡ change.DropTask id = sym is ∙ e in absurd cc;
}

pub drop_gone : (t : Tables) (all : List (Option NodeTotals)) (c : Change) (id : ℕ) → c ≡ change.DropTask id →
    Forgets all (row_at task_id id t.tasks) → ForgetsChange t all c
drop_gone t all c id is before = record {
  put = λ z e. let other : change.DropTask id ≡ change.PutTask z = sym is ∙ e in absurd cc;
  drop = λ k e.
      let one : change.DropTask id ≡ change.DropTask k = sym is ∙ e in
      let same : id ≡ k = cc in
      subst (λ n. Forgets all (row_at task_id n t.tasks)) same before;
}

pub other_gone : (t : Tables) (all : List (Option NodeTotals)) (c : Change) → ((x : Task) → c ≡ change.PutTask x → ⊥) →
    ((id : ℕ) → c ≡ change.DropTask id → ⊥) → ForgetsChange t all c
other_gone t all c put drop = record { put = λ x e. absurd (put x e); drop = λ id e. absurd (drop id e) }

pub ruleset change_steps = (put_gone, drop_gone, other_gone, fewer_itself, fewer_yet)

-- All changes.

pub forgetting_none : (t : Tables) (cs : List Change) (all : List (Option NodeTotals)) → Forgetting t cs cs all all
forgetting_none t cs all = record { fewer = fewer_itself all; each = λ c h. inr h }

pub forgetting_one : (t : Tables) (cs left rest : List Change) (before a b : List (Option NodeTotals)) (c : Change) →
    Forgetting t cs left before a → left ≡ c ∷ rest → AreFewer a b → ForgetsChange t b c → Forgetting t cs rest before b
forgetting_one t cs left rest before a b c so step fewer gone = record {
  fewer = fewer_yet before a b so.fewer fewer;
  each = λ x h.
      elim (so.each x h) [
        | inl done ↦ inl (change-fewer t a b x fewer done)
        | inr there ↦ now x (subst (λ list. Has list x) step there)
      ];
}
  where
    now : (x : Change) → ((c ≡ x) ⊎ Has rest x) → ForgetsChange t b x ⊎ Has rest x
    now x (inl same) = inl (subst (ForgetsChange t b) same gone)
    now x (inr h) = inr h

is-empty : {X : Type 0} (left : List X) → length left ≡ 0 → left ≡ []
is-empty [] e = refl
is-empty (x ∷ left) e = absurd (omega (arith, e))

pub forgetting_all : (t : Tables) (cs left : List Change) (before after : List (Option NodeTotals)) →
    Forgetting t cs left before after → length left ≡ 0 → ForgetsAll t after cs
forgetting_all t cs left before after so none = record {
  each = λ c h.
      elim (so.each c h) [ inl gone ↦ gone | inr there ↦ absurd (subst (λ list. Has list c) (is-empty left none) there) ];
}

pub forgetting_fewer : (t : Tables) (cs left : List Change) (before after : List (Option NodeTotals)) →
    Forgetting t cs left before after → AreFewer before after
forgetting_fewer t cs left before after so = so.fewer

pub ruleset all_steps = (forgetting_none, forgetting_one, forgetting_all, forgetting_fewer)

-- What changes leave of the tasks that pass a test.

-- the change puts none that passes, and none that it puts or drops passed
pub record Misses (p : Task → Bool) (tasks : List Task) (c : Change) : Type 0 where
  pub put : (x : Task) → c ≡ change.PutTask x → (p x ≡ false) × ((y : Task) → Has tasks y → y.id ≡ x.id → p y ≡ false)
  pub drop : (id : ℕ) → c ≡ change.DropTask id → (y : Task) → Has tasks y → y.id ≡ id → p y ≡ false

filter-put : (p : Task → Bool) (x : Task) (tasks : List Task) → p x ≡ false →
    ((y : Task) → Has tasks y → y.id ≡ x.id → p y ≡ false) → filter p (put_row task_id x tasks) ≡ filter p tasks
filter-put p x [] off none = refl
filter-put p x (y ∷ tasks) off none = go (eqb y.id x.id) refl (filter-put p x tasks off (λ z h e. none z (inr h) e))
  where
    go : (b : Bool) → eqb y.id x.id ≡ b → filter p (put_row task_id x tasks) ≡ filter p tasks →
        filter p (cond b x y ∷ put_row task_id x tasks) ≡ filter p (y ∷ tasks)
    go true is rest =
        let out : p y ≡ false = none y (inl refl) (grind (arith, nat_tests, is)) in
        ap (λ c. cond c (x ∷ filter p (put_row task_id x tasks)) (filter p (put_row task_id x tasks))) off ∙ rest
        ∙ sym (ap (λ c. cond c (y ∷ filter p tasks) (filter p tasks)) out)
    go false is rest = ap (λ l. cond (p y) (y ∷ l) l) rest

filter-last : (p : Task → Bool) (x : Task) (tasks : List Task) → p x ≡ false → filter p (tasks ++ x ∷ []) ≡ filter p tasks
filter-last p x [] off = ap (λ c. cond c (x ∷ []) []) off
filter-last p x (y ∷ tasks) off = ap (λ l. cond (p y) (y ∷ l) l) (filter-last p x tasks off)

filter-drop : (p : Task → Bool) (id : ℕ) (tasks : List Task) → ((y : Task) → Has tasks y → y.id ≡ id → p y ≡ false) →
    filter p (drop_row task_id id tasks) ≡ filter p tasks
filter-drop p id [] none = refl
filter-drop p id (y ∷ tasks) none = go (eqb y.id id) refl (filter-drop p id tasks (λ z h e. none z (inr h) e))
  where
    go : (b : Bool) → eqb y.id id ≡ b → filter p (drop_row task_id id tasks) ≡ filter p tasks →
        filter p (cond (not b) (y ∷ drop_row task_id id tasks) (drop_row task_id id tasks)) ≡ filter p (y ∷ tasks)
    go true is rest =
        rest ∙ sym (ap (λ c. cond c (y ∷ filter p tasks) (filter p tasks)) (none y (inl refl) (grind (arith, nat_tests, is))))
    go false is rest = ap (λ l. cond (p y) (y ∷ l) l) rest

-- a task is there after the change that was there, or doesn't pass
was-there : (p : Task → Bool) (t : Tables) (c : Change) → Misses p t.tasks c → (y : Task) → Has (apply_change t c).tasks y →
    Has t.tasks y ⊎ (p y ≡ false)
was-there p t (change.PutNode n) misses y h = inl h
was-there p t (change.PutService s) misses y h = inl h
was-there p t (change.PutTask x) misses y h = go (has_row task_id x.id t.tasks) h
  where
    put : (z : Task) (b : Bool) → Has t.tasks z → cond b x z ≡ y → Has t.tasks y ⊎ (p y ≡ false)
    put z true h e = inr (subst (λ v. p v ≡ false) e (misses.put x refl).0)
    put z false h e = inl (subst (Has t.tasks) e h)

    last : Has t.tasks y ⊎ Has (x ∷ []) y → Has t.tasks y ⊎ (p y ≡ false)
    last (inl h) = inl h
    last (inr (inl e)) = inr (subst (λ v. p v ≡ false) e (misses.put x refl).0)
    last (inr (inr h)) = absurd h

    go : (b : Bool) → Has (cond b (record t { tasks = put_row task_id x t.tasks }) (with_task t x)).tasks y →
        Has t.tasks y ⊎ (p y ≡ false)
    go true h =
        let from = Has-map_cases (λ z. cond (eqb z.id x.id) x z) t.tasks y h in put from.0 (eqb from.0.id x.id) from.1 from.2
    go false h = last (Has-append_cases t.tasks (x ∷ []) y h)
was-there p t (change.DropTask id) misses y h = inl (Has-filter_cases (λ z. not (eqb z.id id)) t.tasks y h).0
was-there p t (change.Keep a) misses y h = inl h

still-misses : (p : Task → Bool) (t : Tables) (c d : Change) → Misses p t.tasks c → Misses p t.tasks d →
    Misses p (apply_change t c).tasks d
still-misses p t c d first second = record {
  put = λ x e. ((second.put x e).0, λ y h same. here y h ((second.put x e).1 y) same);
  drop = λ id e y h same. here y h (second.drop id e y) same;
}
  where
    here : {k : ℕ} (y : Task) → Has (apply_change t c).tasks y → (Has t.tasks y → y.id ≡ k → p y ≡ false) → y.id ≡ k →
        p y ≡ false
    here y h there same = elim (was-there p t c first y h) [ inl was ↦ there was same | inr off ↦ off ]

change-leaves : (p : Task → Bool) (t : Tables) (c : Change) → Misses p t.tasks c →
    filter p (apply_change t c).tasks ≡ filter p t.tasks
change-leaves p t (change.PutNode n) misses = refl
change-leaves p t (change.PutService s) misses = refl
change-leaves p t (change.PutTask x) misses = go (has_row task_id x.id t.tasks)
  where
    go : (b : Bool) →
        filter p (cond b (record t { tasks = put_row task_id x t.tasks }) (with_task t x)).tasks ≡ filter p t.tasks
    go true = filter-put p x t.tasks (misses.put x refl).0 (misses.put x refl).1
    go false = filter-last p x t.tasks (misses.put x refl).0
change-leaves p t (change.DropTask id) misses = filter-drop p id t.tasks (misses.drop id refl)
change-leaves p t (change.Keep a) misses = refl

pub changes-leave : (p : Task → Bool) (cs : List Change) (t : Tables) → ((c : Change) → Has cs c → Misses p t.tasks c) →
    filter p (apply_changes t cs).tasks ≡ filter p t.tasks
changes-leave p [] t misses = refl
changes-leave p (c ∷ cs) t misses =
    changes-leave p cs (apply_change t c)
    (λ d h. still-misses p t c d (misses c (inl refl)) (misses d (inr h)))
    ∙ change-leaves p t c (misses c (inl refl))

-- What is remembered after changes.

pub counted-alike : (t u : Tables) (node : ℕ) (k : NodeTotals) → tasks_placed_on u node ≡ tasks_placed_on t node →
    AreCounted t node k → AreCounted u node k
counted-alike t u node k same are = (
  are.0 ∙ sym (here_is t node k.service) ∙ ap (count_by (λ x. is_of k.service x && is_live x)) (sym same)
      ∙ here_is u node k.service,
  (
    are.1.0 ∙ ap (sum_by task_cpu) (sym same),
    are.1.1 ∙ ap (sum_by task_mem) (sym same),
    are.1.2 ∙ sym (load_is t node) ∙ ap (count_by is_live) (sym same) ∙ load_is u node,
  ),
)

-- What will be known of a node with one task in the place of another one.

pub sum-put : (t : Tables) (x y : Task) (node : ℕ) (f : Task → ℕ) → IsUsable t → row_at task_id x.id t.tasks ≡ Some y →
    sum_by f (filter (is_placed_on node) (put_row task_id x t.tasks)) + adds f node y
    ≡ sum_by f (tasks_placed_on t node) + adds f node x
sum-put t x y node f usable at =
    let there = Has-from_row_at task_id x.id t.tasks y at in
    let new = subst (λ (n : ℕ). sum_by (adds f node) (change_row task_id n (λ z. x) t.tasks) + adds f node y
    ≡ sum_by (adds f node) t.tasks + adds f node x) there.1
    (sum_by-change_row task_id (adds f node) 0 (λ z. x) t.tasks y usable.sound.ordered.tasks there.0) in
    omega (arith, new, sum_by-filter f (is_placed_on node) (put_row task_id x t.tasks), sum_by-filter f (is_placed_on node) t.tasks)

after-is : (after less count more before sum is : ℕ) → sum + less ≡ before + more → after + less ≡ count + more →
    count ≡ before → sum ≡ is → after ≡ is
after-is after less count more before sum is e f g h = omega (arith, e, f, g, h)

counted-put : (t : Tables) (x y : Task) (k r : NodeTotals) → IsUsable t → row_at task_id x.id t.tasks ≡ Some y →
    AreCounted t k.node k → IsExchanged k y x r → AreCounted (record t { tasks = put_row task_id x t.tasks }) k.node r
counted-put t x y k r usable at are is =
    let sums = λ (f : Task → ℕ). sum-put t x y k.node f usable at in
    let own : Task → Bool = λ z. is_of k.service z && is_live z in (
      after-is r.here (adds (one_if own) k.node y) k.here (adds (one_if own) k.node x)
          (sum_by (one_if own) (tasks_placed_on t k.node)) (sum_by (one_if own) (tasks_placed_on u k.node))
          (here u k.node k.service)
          (sums (one_if own)) is.here (are.0 ∙ sym (here_is t k.node k.service)) (here_is u k.node k.service)
          ∙ ap (here u k.node) (sym is.service),
      (
        omega (arith, sums task_cpu, is.cpu, are.1.0),
        omega (arith, sums task_mem, is.mem, are.1.1),
        after-is r.totals.load (adds (one_if is_live) k.node y) k.totals.load (adds (one_if is_live) k.node x)
            (sum_by (one_if is_live) (tasks_placed_on t k.node)) (sum_by (one_if is_live) (tasks_placed_on u k.node))
            (load u k.node)
            (sums (one_if is_live)) is.load (are.1.2 ∙ sym (load_is t k.node)) (load_is u k.node),
      ),
    )
  where
    u : Tables
    u = record t { tasks = put_row task_id x t.tasks }

if-own : (node : ℕ) (o : Option NodeTotals) (k : NodeTotals) → Some k ≡ if_of node o → k.node ≡ node
if-own node None k e = absurd cc
if-own node (Some j) k e = go (eqb j.node node) refl e
  where
    go : (b : Bool) → eqb j.node node ≡ b → Some k ≡ cond b (Some j) None → k.node ≡ node
    go true is same = let one : k ≡ j = cc in ap (λ (z : NodeTotals). z.node) one ∙ grind (arith, nat_tests, is)
    go false is same = absurd cc

exchanged_counted : (t : Tables) (all : List (Option NodeTotals)) (node : ℕ) (x y : Task) (k r : NodeTotals) →
    IsUsable t → Knows t all → row_at task_id x.id t.tasks ≡ Some y → Some k ≡ recalled all node → IsExchanged k y x r →
    AreCounted (apply_changes t (change.PutTask x ∷ [])) r.node r
exchanged_counted t all node x y k r usable knows at held is =
    subst (λ n. AreCounted (apply_changes t (change.PutTask x ∷ [])) n r) (sym is.node) (go (has_row task_id x.id t.tasks) (ap is_some at))
  where
    own : AreCounted t k.node k
    own =
        subst (λ n. AreCounted t n k) (sym (if-own node (get_or all (node % length all) None) k held))
        (subst (λ o. IfSome o (AreCounted t node)) (sym held) (knows.each node))

    go : (b : Bool) → b ≡ true → AreCounted (cond b (record t { tasks = put_row task_id x t.tasks }) (with_task t x)) k.node r
    go true e = counted-put t x y k r usable at own is
    go false e = absurd cc

pub exchange_counts : (all : List (Option NodeTotals)) (node : ℕ) (x y : Task) (k : NodeTotals) (o : Option NodeTotals) →
    Some k ≡ recalled all node → IfSome o (IsExchanged k y x) → (t : Tables) → IsUsable t → Knows t all →
    row_at task_id x.id t.tasks ≡ Some y →
    IfSome o (λ r. AreCounted (apply_changes t (change.PutTask x ∷ [])) r.node r)
exchange_counts all node x y k None held is t usable knows at = tt
exchange_counts all node x y k (Some r) held is t usable knows at =
    exchanged_counted t all node x y k r usable knows at held is

pub none_moved : (t : Tables) (m : Moved) → m.from ≡ None → m.to ≡ None → AreMoved t m
none_moved t m from to = record {
  from = subst (λ o. IfSome o (λ k. AreCounted t k.node k)) (sym from) tt;
  to = subst (λ o. IfSome o (λ k. AreCounted t k.node k)) (sym to) tt;
}

pub one_moved : (t : Tables) (cs : List Change) (x y : Task) (m : Moved) → cs ≡ change.PutTask x ∷ [] →
    IfSome m.from (λ k. AreCounted (apply_changes t (change.PutTask x ∷ [])) k.node k) →
    IfSome m.to (λ k. AreCounted (apply_changes t (change.PutTask x ∷ [])) k.node k) → AreMoved (apply_changes t cs) m
one_moved t cs x y m is from to = subst (λ l. AreMoved (apply_changes t l) m) (sym is) (record { from = from; to = to })

pub alone_moved : (t : Tables) (cs others : List Change) (c : Change) (m : Moved) → cs ≡ c ∷ others → length others ≡ 0 →
    AreMoved (apply_changes t (c ∷ [])) m → AreMoved (apply_changes t cs) m
alone_moved t cs others c m is none =
    subst (λ l. AreMoved (apply_changes t l) m) (ap (λ l. c ∷ l) (sym (is-empty others none)) ∙ sym is)

pub ruleset moved_steps = (none_moved, one_moved, alone_moved)

pub moved_knows : (t : Tables) (m : Moved) → AreMoved t m → IfSome m.from (λ k. AreCounted t k.node k) × IfSome m.to (λ k. AreCounted t k.node k)
moved_knows t m are = (are.from, are.to)

-- A task that counts as the one that it replaces leaves all sums as they are.

pub adds-alike : (f : Task → ℕ) (node : ℕ) (old new : Task) → CountsAlike old new → f new ≡ f old →
    adds f node old ≡ adds f node new
adds-alike f node old new alike same =
    sym
    (ap (λ b. cond (b && is_on node new) (f new) 0) alike.placed
    ∙ ap (λ o. cond (is_placed old && option_eq same_number o (Some node)) (f new) 0) alike.node
    ∙ ap (λ (n : ℕ). cond (is_placed_on node old) n 0) same)

alike-exchanged : (k : NodeTotals) (old new : Task) → CountsAlike old new → IsExchanged k old new k
alike-exchanged k old new alike =
    let sums = λ (f : Task → ℕ). adds-alike f k.node old new alike in
    let live : one_if is_live new ≡ one_if is_live old = ap (λ b. cond b 1 0) alike.live in
    let own : Task → Bool = λ x. is_of k.service x && is_live x in
    let own-same : one_if own new ≡ one_if own old =
    ap (λ (n : ℕ). cond (eqb n k.service && is_live new) 1 0) alike.service
    ∙ ap (λ b. cond (is_of k.service old && b) 1 0) alike.live in
    record {
      node = refl;
      service = refl;
      cpu = ap (λ n. k.totals.cpu + n) (sums task_cpu alike.cpu);
      mem = ap (λ n. k.totals.mem + n) (sums task_mem alike.mem);
      load = ap (λ n. k.totals.load + n) (sums (one_if is_live) live);
      here = ap (λ n. k.here + n) (sums (one_if own) own-same);
    }

pub spared_knows : (t : Tables) (cs : List Change) (all : List (Option NodeTotals)) → IsUsable t → Knows t all →
    AreSpared t cs → Knows (apply_changes t cs) all
spared_knows t cs all usable knows spared =
    subst (λ l. Knows (apply_changes t l) all) (sym spared.one) (record { each = λ m. go m (recalled all m) refl })
  where
    u : Tables
    u = apply_changes t (change.PutTask spared.new ∷ [])

    go : (m : ℕ) (o : Option NodeTotals) → recalled all m ≡ o → IfSome o (AreCounted u m)
    go m None is = tt
    go m (Some k) is =
        subst (λ n. AreCounted u n k) (if-own m (get_or all (m % length all) None) k (sym is))
        (exchanged_counted t all m spared.new spared.old k k usable knows spared.row (sym is)
        (alike-exchanged k spared.old spared.new spared.alike))

pub put_spared : (t : Tables) (c : Change) (old new : Task) → c ≡ change.PutTask new →
    Some old ≡ row_at task_id new.id t.tasks → CountsAlike old new → AreSpared t (c ∷ [])
put_spared t c old new is row alike = record {
  old = old;
  new = new;
  one = ap (λ d. d ∷ []) is;
  row = sym row;
  alike = alike;
}

pub alone_spared : (t : Tables) (cs others : List Change) (c : Change) → cs ≡ c ∷ others → length others ≡ 0 →
    AreSpared t (c ∷ []) → AreSpared t cs
alone_spared t cs others c is none =
    subst (AreSpared t) (ap (λ l. c ∷ l) (sym (is-empty others none)) ∙ sym is)

pub ruleset spared_steps = (put_spared, alone_spared)

-- What is remembered before and after changes.

misses-known : (t : Tables) (all : List (Option NodeTotals)) (node : ℕ) (k : NodeTotals) (c : Change) → IsUsable t →
    recalled all node ≡ Some k → ForgetsChange t all c → Misses (is_placed_on node) t.tasks c
misses-known t all node k c usable known gone = record {
  put = λ x e. (out (Some x) (gone.put x e).0 x refl, λ y h same. out (row_at task_id x.id t.tasks) (gone.put x e).1 y (at x.id y h same));
  drop = λ id e y h same. out (row_at task_id id t.tasks) (gone.drop id e) y (at id y h same);
}
  where
    at : (id : ℕ) (y : Task) → Has t.tasks y → y.id ≡ id → row_at task_id id t.tasks ≡ Some y
    at id y h same =
        subst (λ n. row_at task_id n t.tasks ≡ Some y) same (row_at-Some task_id 0 t.tasks y usable.sound.ordered.tasks h)

    never : None ≡ Some k → ⊥
    never e = cc

    out : (o : Option Task) → Forgets all o → (y : Task) → o ≡ Some y → is_placed_on node y ≡ false
    out o none y e = go (is_placed_on node y) refl
      where
        go : (b : Bool) → is_placed_on node y ≡ b → b ≡ false
        go true is =
            absurd (never (sym (none.each y node e (both_are (is_placed y) (is_on node y) is).1) ∙ known))
        go false is = refl

pub fewer_knows : (t : Tables) (before after : List (Option NodeTotals)) → Knows t before → AreFewer before after →
    Knows t after
fewer_knows t before after knows fewer = record {
  each = λ m.
      elim (fewer.each m) [
        | inl none ↦ subst (λ o. IfSome o (AreCounted t m)) (sym none) tt
        | inr same ↦ subst (λ o. IfSome o (AreCounted t m)) (sym same) (knows.each m)
      ];
}

pub changed_knows : (t : Tables) (cs : List Change) (all : List (Option NodeTotals)) → IsUsable t → Knows t all →
    ForgetsAll t all cs → Knows (apply_changes t cs) all
changed_knows t cs all usable knows gone = record { each = λ m. go m (recalled all m) refl (knows.each m) }
  where
    u : Tables
    u = apply_changes t cs

    go : (m : ℕ) (o : Option NodeTotals) → recalled all m ≡ o → IfSome o (AreCounted t m) →
        IfSome o (AreCounted u m)
    go m None is so = tt
    go m (Some k) is so =
        counted-alike t u m k
        (changes-leave (is_placed_on m) cs t (λ c h. misses-known t all m k c usable is (gone.each c h))) so

pub ruleset changed_steps = (fewer_knows, changed_knows)

-- what is remembered of a node is so
pub recalled_are : (t : Tables) (all : List (Option NodeTotals)) (node : ℕ) (k : NodeTotals) → Knows t all →
    Some k ≡ recalled all node → AreCounted t node k
recalled_are t all node k knows is = subst (λ o. IfSome o (AreCounted t node)) (sym is) (knows.each node)

pub ruleset recall_steps = (recalled_are)
