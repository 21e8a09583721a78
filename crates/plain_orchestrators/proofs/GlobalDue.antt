-- A duty on a global service is due exactly where a row has it.
use Rattle.std.proofs.Common.{◌≡◌, ℕ, Bool, true, false, eqb, List, refl, sym, ap, ◌∙◌, arith}
use Rattle.std.specs.Prelude.{◌||◌, ◌&&◌, flat_map, not}
use Rattle.std.specs.List.{list_any}
use Rattle.std.proofs.lemmas.Bool.Decides.{nat_tests}
use Rattle.std.proofs.lemmas.List.Folds.{list_any-append}
use Rattle.swarm_plain.proofs.AnyOf.{and_false, and_true, any_more, any_none, any_where, one_number, turned}
use Rattle.swarm_plain.proofs.Numbers.{held_number}
use Rattle.swarm_plain.specs.Inside.OfPlace.{is_global, missing_on}
use Rattle.swarm_objects.proofs.Tests.{any_each, any_same, first_so, or_false}
use Rattle.swarm_objects.specs.Duties.{is_due}
use Rattle.swarm_objects.specs.Kinds.{kind_place, same_duty}
use Rattle.swarm_objects.specs.Loops.Global.{come_duties, global, is_missing, is_to_leave, leave_duties, may_stay}
use Rattle.swarm_objects.specs.Rows.{is_row_and, node_id}
use Rattle.swarm_objects.specs.Tasks.Places.{is_held_place, place_numbers}
use Rattle.swarm_objects.specs.World.{Tables, World}
use Rattle.swarm_objects.specs.declared.duties.Duty.{Duty}
use Rattle.swarm_objects.specs.declared.duties.Duty.TheVariants as duty
use Rattle.swarm_objects.specs.declared.nodes.Node.{Node}
use Rattle.swarm_objects.specs.declared.services.Mode.{Mode}
use Rattle.swarm_objects.specs.declared.services.Mode.TheVariants as mode
use Rattle.swarm_objects.specs.declared.services.Service.{Service}

abbrev leaves : Tables → List Duty
leaves t = flat_map (λ s. leave_duties t s s.spec.mode) t.services

abbrev comes : Tables → List Duty
comes t = flat_map (λ s. come_duties t s s.spec.mode) t.services

no_leave : (t : Tables) (s : Service) (m : Mode) (d : Duty) → eqb (kind_place d) 13 ≡ false →
    list_any (same_duty d) (leave_duties t s m) ≡ false
no_leave t s (mode.Replicated n) d other = refl
no_leave t s mode.Global d other =
    any_where (same_duty d) (duty.Leave s.id) (is_to_leave t s) (place_numbers t s)
    ∙ any_none (λ k. same_duty d (duty.Leave s.id k) && is_to_leave t s k) (place_numbers t s) (λ k. rw other refl)
no_leave t s (mode.Job concurrent total) d other = refl

no_leaves : (t : Tables) (d : Duty) → eqb (kind_place d) 13 ≡ false → list_any (same_duty d) (leaves t) ≡ false
no_leaves t d other =
    any_each (same_duty d) (λ (s : Service). leave_duties t s s.spec.mode) t.services
    ∙ any_none (λ (s : Service). list_any (same_duty d) (leave_duties t s s.spec.mode)) t.services
    (λ (s : Service). no_leave t s s.spec.mode d other)

no_come : (t : Tables) (s : Service) (m : Mode) (d : Duty) → eqb (kind_place d) 14 ≡ false →
    list_any (same_duty d) (come_duties t s m) ≡ false
no_come t s (mode.Replicated n) d other = refl
no_come t s mode.Global d other =
    any_where (same_duty d) (λ (n : Node). duty.GlobalCreate s.id n.id) (is_missing t s) t.nodes
    ∙ any_none (λ (n : Node). same_duty d (duty.GlobalCreate s.id n.id) && is_missing t s n) t.nodes
    (λ n. rw other refl)
no_come t s (mode.Job concurrent total) d other = refl

no_comes : (t : Tables) (d : Duty) → eqb (kind_place d) 14 ≡ false → list_any (same_duty d) (comes t) ≡ false
no_comes t d other =
    any_each (same_duty d) (λ (s : Service). come_duties t s s.spec.mode) t.services
    ∙ any_none (λ (s : Service). list_any (same_duty d) (come_duties t s s.spec.mode)) t.services
    (λ (s : Service). no_come t s s.spec.mode d other)

parts : (t : Tables) (d : Duty) →
    list_any (same_duty d) (global t) ≡ (list_any (same_duty d) (leaves t) || list_any (same_duty d) (comes t))
parts t d = list_any-append (same_duty d) (leaves t) (comes t)

-- a service leaves this node
pub leave_due : (w : World) (id node : ℕ) →
    list_any (λ s. list_any (same_duty (duty.Leave id node)) (leave_duties w.tables s s.spec.mode)) w.tables.services
    ≡ is_due w (duty.Leave id node)
leave_due w id node =
    let t = w.tables in
    let d = duty.Leave id node in
    let p = same_duty d in
    sym (parts t d
    ∙ ap (λ b. list_any p (leaves t) || b) (no_comes t d refl)
    ∙ or_false (list_any p (leaves t))
    ∙ any_each p (λ (s : Service). leave_duties t s s.spec.mode) t.services)

-- a service comes to this node
pub come_due : (w : World) (id node : ℕ) →
    list_any (λ s. list_any (same_duty (duty.GlobalCreate id node)) (come_duties w.tables s s.spec.mode))
    w.tables.services
    ≡ is_due w (duty.GlobalCreate id node)
come_due w id node =
    let t = w.tables in
    let d = duty.GlobalCreate id node in
    let p = same_duty d in
    sym (parts t d
    ∙ ap (λ b. b || list_any p (comes t)) (no_leaves t d refl)
    ∙ any_each p (λ (s : Service). come_duties t s s.spec.mode) t.services)

-- A service's own duties.

equal_pair : (p : ℕ → Bool) (k j : ℕ) → p k ≡ false → ((eqb k j && true) && p j) ≡ false
equal_pair p k j e = go (eqb k j) (same k j)
  where
    same : (a b : ℕ) → eqb a b ≡ true → a ≡ b
    same a b is = grind (arith, nat_tests)

    go : (b : Bool) → (b ≡ true → k ≡ j) → ((b && true) && p j) ≡ false
    go true is = sym (ap p (is refl)) ∙ e
    go false is = refl

-- the one number that is asked for, where it is there as soon as it passes
one_of : (p : ℕ → Bool) (ks : List ℕ) (k : ℕ) → (p k ≡ true → list_any (eqb k) ks ≡ true) →
    list_any (λ j. (eqb k j && true) && p j) ks ≡ p k
one_of p ks k there = go (p k) refl there
  where
    passes : (j : ℕ) → p k ≡ true → eqb k j ≡ true → ((eqb k j && true) && p j) ≡ true
    passes j e is =
        ap (λ b. (b && true) && p j) is ∙ sym (ap p (same k j is)) ∙ e
      where
        same : (a b : ℕ) → eqb a b ≡ true → a ≡ b
        same a b equal = grind (arith, nat_tests)

    go : (b : Bool) → p k ≡ b → (b ≡ true → list_any (eqb k) ks ≡ true) →
        list_any (λ j. (eqb k j && true) && p j) ks ≡ b
    go true e there = any_more (eqb k) (λ j. (eqb k j && true) && p j) ks (λ j. passes j e) (there refl)
    go false e there = any_none (λ j. (eqb k j && true) && p j) ks (λ j. equal_pair p k j e)

leave_here : (t : Tables) (s : Service) (node : ℕ) →
    list_any (λ k. (eqb node k && true) && is_to_leave t s k) (place_numbers t s) ≡ is_to_leave t s node
leave_here t s node =
    one_of (is_to_leave t s) (place_numbers t s) node
    (λ e. held_number t s node
    (first_so (is_held_place t s node) (not (is_row_and node_id (may_stay s) t.nodes node)) e))

asked : {X : Type 0} (a : Bool) (p q : X → Bool) (rows : List X) (c : Bool) → list_any (λ x. p x && q x) rows ≡ c →
    list_any (λ x. (a && p x) && q x) rows ≡ (a && c)
asked true p q rows c e = e
asked false p q rows c e = any_none (λ x. (false && p x) && q x) rows (λ x. refl)

leaves_by : (t : Tables) (s : Service) (m : Mode) (id node : ℕ) →
    ((eqb s.id id && is_global m) && is_to_leave t s node)
    ≡ list_any (same_duty (duty.Leave id node)) (leave_duties t s m)
leaves_by t s (mode.Replicated n) id node = ap (λ b. b && is_to_leave t s node) (and_false (eqb s.id id))
leaves_by t s mode.Global id node =
    ap (λ b. b && is_to_leave t s node) (and_true (eqb s.id id) ∙ turned s.id id)
    ∙ sym (any_where (same_duty (duty.Leave id node)) (duty.Leave s.id) (is_to_leave t s) (place_numbers t s)
    ∙ asked (eqb id s.id) (λ k. eqb node k && true) (is_to_leave t s) (place_numbers t s) (is_to_leave t s node)
    (leave_here t s node))
leaves_by t s (mode.Job concurrent total) id node = ap (λ b. b && is_to_leave t s node) (and_false (eqb s.id id))

pub service_leaves : (t : Tables) (s : Service) (id node : ℕ) →
    ((eqb s.id id && is_global s.spec.mode) && is_to_leave t s node)
    ≡ list_any (same_duty (duty.Leave id node)) (leave_duties t s s.spec.mode)
service_leaves t s id node = leaves_by t s s.spec.mode id node

come_here : (t : Tables) (s : Service) (node : ℕ) →
    list_any (λ (n : Node). (eqb node n.id && true) && is_missing t s n) t.nodes ≡ missing_on t s node
come_here t s node =
    any_same (λ (n : Node). (eqb node n.id && true) && is_missing t s n)
    (λ (n : Node). eqb n.id node && is_missing t s n) t.nodes
    (λ (n : Node). ap (λ b. b && is_missing t s n) (one_number node n.id))

comes_by : (t : Tables) (s : Service) (m : Mode) (id node : ℕ) →
    ((eqb s.id id && is_global m) && missing_on t s node)
    ≡ list_any (same_duty (duty.GlobalCreate id node)) (come_duties t s m)
comes_by t s (mode.Replicated n) id node = ap (λ b. b && missing_on t s node) (and_false (eqb s.id id))
comes_by t s mode.Global id node =
    ap (λ b. b && missing_on t s node) (and_true (eqb s.id id) ∙ turned s.id id)
    ∙ sym (any_where (same_duty (duty.GlobalCreate id node)) (λ (n : Node). duty.GlobalCreate s.id n.id)
    (is_missing t s) t.nodes
    ∙ asked (eqb id s.id) (λ (n : Node). eqb node n.id && true) (is_missing t s) t.nodes (missing_on t s node)
    (come_here t s node))
comes_by t s (mode.Job concurrent total) id node = ap (λ b. b && missing_on t s node) (and_false (eqb s.id id))

pub service_comes : (t : Tables) (s : Service) (id node : ℕ) →
    ((eqb s.id id && is_global s.spec.mode) && missing_on t s node)
    ≡ list_any (same_duty (duty.GlobalCreate id node)) (come_duties t s s.spec.mode)
service_comes t s id node = comes_by t s s.spec.mode id node

-- The tests of one duty.

pub any_leaves_due : (w : World) (id node : ℕ) →
    list_any (λ s. (eqb s.id id && is_global s.spec.mode) && is_to_leave w.tables s node) w.tables.services
    ≡ is_due w (duty.Leave id node)
any_leaves_due w id node =
    any_same (λ (s : Service). (eqb s.id id && is_global s.spec.mode) && is_to_leave w.tables s node)
    (λ (s : Service). list_any (same_duty (duty.Leave id node)) (leave_duties w.tables s s.spec.mode)) w.tables.services
    (λ (s : Service). service_leaves w.tables s id node)
    ∙ leave_due w id node

pub any_comes_due : (w : World) (id node : ℕ) →
    list_any (λ s. (eqb s.id id && is_global s.spec.mode) && missing_on w.tables s node) w.tables.services
    ≡ is_due w (duty.GlobalCreate id node)
any_comes_due w id node =
    any_same (λ (s : Service). (eqb s.id id && is_global s.spec.mode) && missing_on w.tables s node)
    (λ (s : Service). list_any (same_duty (duty.GlobalCreate id node)) (come_duties w.tables s s.spec.mode))
    w.tables.services
    (λ (s : Service). service_comes w.tables s id node)
    ∙ come_due w id node
