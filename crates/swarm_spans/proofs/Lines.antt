-- The lines over tasks go on being covered.
use Rattle.std.proofs.Common.{◌≡◌, ℕ, Bool, true, false, cond, filter, map, ◌⊎◌, inl, inr, List, [], ◌∷◌, Option, Some, None, refl, sym, ap, ◌∙◌, subst}
use Rattle.std.specs.Prelude.{◌++◌, flat_map, ◌&&◌, ◌||◌, is_some, not}
use Rattle.swarm_objects.proofs.RowLemmas.{Has-from_row_at}
use Rattle.swarm_objects.proofs.Tests.{both_are}
use Rattle.swarm_objects.specs.Loops.Dispatcher.{is_long_down, is_orphaned}
use Rattle.swarm_objects.specs.Loops.Enforcer.{breaks_constraints, is_misplaced}
use Rattle.swarm_objects.specs.Loops.Jobs.{is_old, is_old_of}
use Rattle.swarm_objects.specs.Loops.Reaper.{is_removable}
use Rattle.swarm_objects.specs.Loops.Replicated.{is_gone}
use Rattle.swarm_objects.specs.Loops.Restart.{is_current, is_over, wants_restart}
use Rattle.swarm_objects.specs.Loops.Words.{duty_where, when}
use Rattle.swarm_objects.specs.Nodes.Words.{is_astray, is_homed, is_valid_node}
use Rattle.swarm_objects.specs.Rows.{first_of, Has, is_some_and, node_id, row_at, service_id, task_id}
use Rattle.swarm_objects.specs.Tasks.Places.{counts_for}
use Rattle.swarm_objects.specs.Tasks.Words.{has_ended, is_kept, is_live, is_placed, is_to_wait}
use Rattle.swarm_objects.specs.World.{Tables}
use Rattle.swarm_objects.specs.declared.duties.Duty.{Duty}
use Rattle.swarm_objects.specs.declared.nodes.Node.{Node}
use Rattle.swarm_objects.specs.declared.services.Service.{Service}
use Rattle.swarm_objects.specs.declared.tasks.Place.{Place}
use Rattle.swarm_objects.specs.declared.tasks.Place.TheVariants.{On, Slot}
use Rattle.swarm_objects.specs.declared.tasks.Task.{Task}
use Rattle.swarm_spans.specs.Kept.{AlikeFor, IsAlike, KeepsNodes, KeepsServices, KeepsTasks, Stays}
use Rattle.swarm_spans.specs.Lines.{AlikeCounting, AlikeDown, AlikeOlds, AlikePlatform, AlikeThere, AlikeValid, deletes, DeleteLaw, goes, GoneLaw, is_to_allocate, is_to_schedule, olds, OldLaw, OrphanLaw, orphans, rejects, RejectLaw, RestartLaw, restarts, to_allocate, ToAllocateLaw, to_schedule, ToScheduleLaw, to_wait, ToWaitLaw}
use Rattle.swarm_spans.specs.Spans.{CoversTasks, has_duty, is_in, IsWider}
use Rattle.swarm_spans.specs.declared.span.Span.{Span}

-- A duty where a test holds is there where it holds.

pub has-when : (b : Bool) (d : Duty) → is_some (first_of (when b d)) ≡ b
has-when true d = refl
has-when false d = refl

-- a list of duties by a test is a list for each row
pub where_each : {X : Type 0} (p : X → Bool) (f : X → Duty) (xs : List X)
    → flat_map (λ x. when (p x) (f x)) xs ≡ duty_where p f xs
where_each p f [] = refl
where_each p f (x ∷ xs) = go (p x) (where_each p f xs)
  where
    go : (b : Bool) → flat_map (λ x. when (p x) (f x)) xs ≡ duty_where p f xs
        → (when b (f x) ++ flat_map (λ x. when (p x) (f x)) xs) ≡ map f (cond b (x ∷ filter p xs) (filter p xs))
    go true e = ap (λ ds. f x ∷ ds) e
    go false e = e

-- What is read of two rows that are alike is the same.

pub alike-read : {X Y : Type 0} (Alike : X → X → Type 0) (read : Option X → Y) (before after : Option X)
    → ((x y : X) → Alike x y → read (Some y) ≡ read (Some x)) → IsAlike Alike before after → read after ≡ read before
alike-read Alike read before after same (inl e) = ap read e
alike-read Alike read before after same (inr (x, y, b, a, alike)) =
    ap read a ∙ same x y alike ∙ ap read (sym b)

-- The one shape of all laws: a task with a duty after is in the span, or was there like it, and had a duty before or is
-- in the span by what it stands by.
pub goes-on-by : (line : Tables → Task → List Duty) (may : Task → Bool) (t u : Tables) (span wide : Span)
    → CoversTasks line t span → IsWider wide span → ((y : Task) → has_duty (line u) y ≡ true → may y ≡ true)
    → KeepsTasks may (AlikeFor line) t u wide
    → ((x y : Task) → Stays t u x y → has_duty (line u) x ≡ true
    → (is_in wide y.id ≡ true) ⊎ (has_duty (line t) x ≡ true)) → CoversTasks line u wide
goes-on-by line may t u span wide c wider can own beside = record {
  has = λ y h due.
      elim (own.own y h (can y due)) [
        | inl i ↦ i
        | inr alike ↦ same y h due (former y alike)
      ];
}
  where
    former : (y : Task) → IsAlike (AlikeFor line) (row_at task_id y.id t.tasks) (Some y)
        → (x : Task) × Has t.tasks x × (x.id ≡ y.id) × AlikeFor line x y
    former y (inl e) =
        let k = Has-from_row_at task_id y.id t.tasks y (sym e) in
        (y, k.0, refl, record { due = λ t. refl; service = refl; node = refl })
    former y (inr (x, z, was, is, alike)) =
        let k = Has-from_row_at task_id y.id t.tasks x was in
        let one : y ≡ z = cc in
        (x, k.0, k.1, subst (AlikeFor line x) (sym one) alike)

    same : (y : Task) → Has u.tasks y → has_duty (line u) y ≡ true
        → ((x : Task) × Has t.tasks x × (x.id ≡ y.id) × AlikeFor line x y) → is_in wide y.id ≡ true
    same y h due (x, was, id, alike) =
        elim (beside x y (record { was = was; is = h; id = id; service = alike.service; node = alike.node })
        (sym (alike.due u) ∙ due)) [
          | inl i ↦ i
          | inr still ↦ subst (λ k. is_in wide k ≡ true) id (wider.has x.id (c.has x was still))
        ]

pub goes-on : (line : Tables → Task → List Duty) (may : Task → Bool) (t u : Tables) (span wide : Span)
    → CoversTasks line t span → IsWider wide span → ((y : Task) → has_duty (line u) y ≡ true → may y ≡ true)
    → KeepsTasks may (AlikeFor line) t u wide
    → ((x y : Task) → Stays t u x y → (is_in wide y.id ≡ true) ⊎ (has_duty (line u) x ≡ has_duty (line t) x))
    → CoversTasks line u wide
goes-on line may t u span wide c wider can own beside =
    goes-on-by line may t u span wide c wider can own
    (λ x y stays due. elim (beside x y stays) [ inl i ↦ inl i | inr same ↦ inr (sym same ∙ due) ])

-- a task without anything beside it
alone : (line : Tables → Task → List Duty) (t u : Tables) (wide : Span)
    → ((x : Task) → has_duty (line u) x ≡ has_duty (line t) x) → (x y : Task) → Stays t u x y
    → (is_in wide y.id ≡ true) ⊎ (has_duty (line u) x ≡ has_duty (line t) x)
alone line t u wide same x y stays = inr (same x)

pub delete_goes_on : DeleteLaw
delete_goes_on t u span wide c wider own =
    goes-on deletes is_removable t u span wide c wider (λ y e. sym (has-when (is_removable y) _) ∙ e) own
    (alone deletes t u wide (λ x. refl))

pub to_wait_goes_on : ToWaitLaw
to_wait_goes_on t u span wide c wider own =
    goes-on to_wait is_to_wait t u span wide c wider (λ y e. sym (has-when (is_to_wait y) _) ∙ e) own
    (alone to_wait t u wide (λ x. refl))

pub to_schedule_goes_on : ToScheduleLaw
to_schedule_goes_on t u span wide c wider own =
    goes-on to_schedule is_to_schedule t u span wide c wider (λ y e. sym (has-when (is_to_schedule y) _) ∙ e) own
    (alone to_schedule t u wide (λ x. refl))

pub to_allocate_goes_on : ToAllocateLaw
to_allocate_goes_on t u span wide c wider own =
    goes-on to_allocate is_to_allocate t u span wide c wider (λ y e. sym (has-when (is_to_allocate y) _) ∙ e) own
    (alone to_allocate t u wide (λ x. refl))

-- What is read of a task's service.

pub by-service : {Y : Type 0} (Alike : Service → Service → Type 0) (read : Option Service → Y) (t u : Tables) (wide : Span)
    → ((a b : Service) → Alike a b → read (Some b) ≡ read (Some a)) → KeepsServices Alike t u wide → (x y : Task)
    → Stays t u x y
    → (is_in wide y.id ≡ true)
    ⊎ (read (row_at service_id x.service u.services) ≡ read (row_at service_id x.service t.services))
by-service Alike read t u wide same keeps x y stays =
    elim (keeps.of x y stays) [
      | inl i ↦ inl i
      | inr alike ↦
          inr (subst
          (λ k. read (row_at service_id k u.services) ≡ read (row_at service_id k t.services)) stays.service
          (alike-read Alike read (row_at service_id y.service t.services) (row_at service_id y.service u.services) same
          alike))
    ]

-- what is read of its node
abbrev pub read-node : (Option Node → Bool) → Tables → Option ℕ → Bool
read-node read t node = is_some_and (λ n. read (row_at node_id n t.nodes)) node

pub by-node : (Alike : Node → Node → Type 0) (t u : Tables) (wide : Span) → KeepsNodes Alike t u wide → (x y : Task)
    → Stays t u x y
    → (is_in wide y.id ≡ true)
    ⊎ ((read : Option Node → Bool) → ((a b : Node) → Alike a b → read (Some b) ≡ read (Some a))
    → read-node read u x.node ≡ read-node read t x.node)
by-node Alike t u wide keeps x y stays = go x.node refl
  where
    go : (o : Option ℕ) → x.node ≡ o
        → (is_in wide y.id ≡ true)
        ⊎ ((read : Option Node → Bool) → ((a b : Node) → Alike a b → read (Some b) ≡ read (Some a))
        → read-node read u o ≡ read-node read t o)
    go None e = inr (λ read same. refl)
    go (Some n) e =
        elim (keeps.on x y n stays (stays.node ∙ e)) [
          | inl i ↦ inl i
          | inr alike ↦
              inr (λ read same. alike-read Alike read (row_at node_id n t.nodes) (row_at node_id n u.nodes) same alike)
        ]

pub gone_goes_on : GoneLaw
gone_goes_on t u span wide c wider own services =
    goes-on goes is_kept t u span wide c wider
    (λ y e. (both_are _ (is_kept y) (sym (has-when (is_gone u y) _) ∙ e)).1) own
    (λ x y stays.
    elim (by-service AlikeThere is_some t u wide (λ a b alike. refl) services x y stays) [
      | inl i ↦ inl i
      | inr there ↦
          inr (has-when (is_gone u x) _ ∙ ap (λ b. not b && is_kept x) there ∙ sym (has-when (is_gone t x) _))
    ])

pub old_goes_on : OldLaw
old_goes_on t u span wide c wider own services =
    goes-on olds is_kept t u span wide c wider (λ y e. kept u y (sym (has-when (is_old u y) _) ∙ e)) own
    (λ x y stays.
    elim (by-service AlikeOlds (is_some_and (is_old_of x)) t u wide (λ a b alike. alike.old x) services x y stays) [
      | inl i ↦ inl i
      | inr same ↦ inr (has-when (is_old u x) _ ∙ same ∙ sym (has-when (is_old t x) _))
    ])
  where
    kept : (u : Tables) (y : Task) → is_old u y ≡ true → is_kept y ≡ true
    kept u y e = go (row_at service_id y.service u.services) e
      where
        go : (o : Option Service) → is_some_and (is_old_of y) o ≡ true → is_kept y ≡ true
        go None e = absurd cc
        go (Some s) e = (both_are _ (is_kept y) e).1

pub orphan_goes_on : OrphanLaw
orphan_goes_on t u span wide clock settings c wider own nodes =
    goes-on orphans is_placed t u span wide c wider
    (λ y e. (both_are (is_placed y) _ (sym (has-when (is_orphaned u y) _) ∙ e)).0) own
    (λ x y stays.
    elim (by-node AlikeDown t u wide nodes x y stays) [
      | inl i ↦ inl i
      | inr reads ↦
          let same : read-node (is_some_and (is_long_down u)) u x.node
          ≡ read-node (is_some_and (is_long_down u)) t x.node =
          reads (is_some_and (is_long_down u)) (λ a b alike. alike.down u) in
          inr (has-when (is_orphaned u x) _ ∙ ap (λ b. is_placed x && b) (same ∙ times x.node)
          ∙ sym (has-when (is_orphaned t x) _))
    ])
  where
    down : (o : Option Node) → is_some_and (is_long_down u) o ≡ is_some_and (is_long_down t) o
    down None = refl
    down (Some n) = rw clock (rw settings refl)

    times : (o : Option ℕ)
        → read-node (is_some_and (is_long_down u)) t o ≡ read-node (is_some_and (is_long_down t)) t o
    times None = refl
    times (Some n) = down (row_at node_id n t.nodes)

pub reject_goes_on : RejectLaw
reject_goes_on t u span wide c wider own nodes =
    goes-on rejects is_placed t u span wide c wider
    (λ y e. (both_are (is_live y) (is_placed y)
    (both_are (is_live y && is_placed y) _ (sym (has-when (is_misplaced u y) _) ∙ e)).0).1) own
    (λ x y stays.
    elim (by-node AlikePlatform t u wide nodes x y stays) [
      | inl i ↦ inl i
      | inr reads ↦
          inr (has-when (is_misplaced u x) _
          ∙ ap (λ b. is_live x && is_placed x && b)
          (reads (is_some_and (breaks_constraints x)) (λ a b alike. alike.breaks x))
          ∙ sym (has-when (is_misplaced t x) _))
    ])

pub restart_goes_on : RestartLaw
restart_goes_on t u span wide c wider own services nodes =
    goes-on restarts is_live t u span wide c wider
    (λ y e. (both_are (is_live y) _ (both_are _ (is_current u y) (sym (has-when (wants_restart u y) _) ∙ e)).0).0) own
    (λ x y stays.
    elim (by-service AlikeCounting (is_some_and (λ s. counts_for s x)) t u wide (λ a b alike. alike.counts x) services
    x y stays) [
      | inl i ↦ inl i
      | inr current ↦
          elim (by-node AlikeValid t u wide nodes x y stays) [
            | inl i ↦ inl i
            | inr reads ↦
                inr (has-when (wants_restart u x) _
                ∙ over x x.place
                (reads (λ r. not (is_some_and is_valid_node r)) (λ a b alike. ap not alike.valid))
                (reads (is_some_and is_valid_node) (λ a b alike. alike.valid))
                ∙ ap (λ b. is_live x && is_over t x x.place && b) current ∙ sym (has-when (wants_restart t x) _))
          ]
    ])
  where
    over : (x : Task) (p : Place) → is_astray u x ≡ is_astray t x → is_homed u x ≡ is_homed t x
        → (is_live x && is_over u x p && is_current u x) ≡ (is_live x && is_over t x p && is_current u x)
    over x (Slot k) astray homed = ap (λ a. is_live x && (has_ended x || a) && is_current u x) astray
    over x (On k) astray homed = ap (λ a. is_live x && (has_ended x && a) && is_current u x) homed
