-- What changes do to tasks that block their places.
use Rattle.std.proofs.Common.{◌≡◌, ℕ, Bool, true, false, ◌⊎◌, inl, inr, List, [], ◌∷◌, Some, None, refl, sym, ap, ◌∙◌, subst, length, arith}
use Rattle.std.proofs.lemmas.Bool.Decides.{nat_tests}
use Rattle.std.specs.Option.{option_eq}
use Rattle.std.specs.Prelude.{◌==◌, ◌&&◌, filter, if◌then◌else◌, nat_le, not}
use Rattle.swarm_objects.proofs.RowLemmas.{Has-append_left, Has-filter, Has-map, number_above, row_at-Some}
use Rattle.swarm_objects.proofs.SameLemmas.{Decides-option_eq, Decides-same_number, Decides-same_place}
use Rattle.swarm_objects.proofs.Tests.{both, both_are, never-both, same_bool_is, some-and}
use Rattle.swarm_objects.specs.ChangeLists.{apply_change, apply_changes, put_task}
use Rattle.swarm_objects.specs.Nodes.Words.{is_valid_node}
use Rattle.swarm_objects.specs.Rows.{Has, has_row, node_id, put_row, RisesFrom, row_at, task_id}
use Rattle.swarm_objects.specs.Same.{same_bool, same_number, same_place}
use Rattle.swarm_objects.specs.Tasks.New.{with_task}
use Rattle.swarm_objects.specs.Tasks.Words.{is_at, is_beside, is_to_wait}
use Rattle.swarm_objects.specs.Usable.{IsUsable}
use Rattle.swarm_objects.specs.World.{Tables}
use Rattle.swarm_objects.specs.declared.nodes.Node.{Node}
use Rattle.swarm_objects.specs.declared.rows.Change.{Change}
use Rattle.swarm_objects.specs.declared.rows.Change.TheVariants as change
use Rattle.swarm_objects.specs.declared.services.Service.{Service}
use Rattle.swarm_objects.specs.declared.tasks.Attempt.{Attempt}
use Rattle.swarm_objects.specs.declared.tasks.Task.{Task}
use Rattle.swarm_spans.proofs.Grown.{own-with, wider_itself, wider_over, wider_with, wider_yet}
use Rattle.swarm_spans.proofs.Lines.{has-when}
use Rattle.swarm_spans.proofs.Made.{nodes-made}
use Rattle.swarm_spans.proofs.Services.Touching.{touched-all, touching_next}
use Rattle.swarm_spans.specs.Blocked.{AddsToWait, BlockedLaw, still_blocks, TouchesAllBlocked, TouchesBlocked, TouchesPlace, turns_node, unblocks}
use Rattle.swarm_spans.specs.Holding.{EachPasses}
use Rattle.swarm_spans.specs.Kept.{IsAlike}
use Rattle.swarm_spans.specs.Lines.{AlikeValid, blocks, KeepsBlocked, KeepsBlockedOn, StillBlocks, to_wait}
use Rattle.swarm_spans.specs.Services.Touches.{Touching}
use Rattle.swarm_spans.specs.Spans.{CoversTasks, is_in, IsWider, with_id}
use Rattle.swarm_spans.specs.Touched.{HasWaitingBeside}
use Rattle.swarm_spans.specs.declared.span.Span.{Span}

-- A task that was there is there after the changes, as it was or as one put it, or one drops it.

abbrev Left : Change → Tables → Task → Type 0
Left c t z =
    ((w : Task) × Has (apply_change t c).tasks w × (w.id ≡ z.id) × ((w ≡ z) ⊎ (c ≡ change.PutTask w)))
    ⊎ (c ≡ change.DropTask z.id)

left-put : (t : Tables) (x z : Task) → Has t.tasks z
    → (w : Task) × Has (put_task t x).tasks w × (w.id ≡ z.id) × ((w ≡ z) ⊎ (x ≡ w))
left-put t x z h = go (has_row task_id x.id t.tasks)
  where
    one : (b : Bool) → (z.id == x.id) ≡ b
        → (w : Task) × Has (put_row task_id x t.tasks) w × (w.id ≡ z.id) × ((w ≡ z) ⊎ (x ≡ w))
    one true e =
        let id : x.id ≡ z.id = grind (arith, nat_tests, e) in (
          x,
          subst (Has (put_row task_id x t.tasks)) (ap (λ b. if b then x else z) e)
              (Has-map (λ row. if row.id == x.id then x else row) t.tasks z h),
          id,
          inr refl,
        )
    one false e = (
      z,
      subst (Has (put_row task_id x t.tasks)) (ap (λ b. if b then x else z) e)
          (Has-map (λ row. if row.id == x.id then x else row) t.tasks z h),
      refl,
      inl refl,
    )

    go : (b : Bool)
        → (w : Task) × Has (if b then record t { tasks = put_row task_id x t.tasks } else with_task t x).tasks w
        × (w.id ≡ z.id) × ((w ≡ z) ⊎ (x ≡ w))
    go true = one (z.id == x.id) refl
    go false = (z, Has-append_left t.tasks (x ∷ []) z h, refl, inl refl)

left-one : (c : Change) (t : Tables) (z : Task) → Has t.tasks z → Left c t z
left-one (change.PutNode m) t z h = inl (z, h, refl, inl refl)
left-one (change.PutService s) t z h = inl (z, h, refl, inl refl)
left-one (change.PutTask x) t z h =
    let k = left-put t x z h in
    inl (k.0, k.1, k.2, elim k.3 [ inl e ↦ inl e | inr e ↦ inr (ap change.PutTask e) ])
left-one (change.DropTask id) t z h = go (z.id == id) refl
  where
    go : (b : Bool) → (z.id == id) ≡ b → Left (change.DropTask id) t z
    go true e =
        let same : id ≡ z.id = grind (arith, nat_tests, e) in
        inr (ap change.DropTask same)
    go false e = inl (z, Has-filter (λ row. not (task_id row == id)) t.tasks z h (ap not e), refl, inl refl)
left-one (change.Keep a) t z h = inl (z, h, refl, inl refl)

pub left-all : (cs : List Change) (t : Tables) (z : Task) → Has t.tasks z
    → ((w : Task) × Has (apply_changes t cs).tasks w × (w.id ≡ z.id) × ((w ≡ z) ⊎ Has cs (change.PutTask w)))
    ⊎ Has cs (change.DropTask z.id)
left-all [] t z h = inl (z, h, refl, inl refl)
left-all (c ∷ cs) t z h =
    elim (left-one c t z h) [
      | inl here ↦ later here (left-all cs (apply_change t c) here.0 here.1)
      | inr dropped ↦ inr (inl dropped)
    ]
  where
    later : (here : (w : Task) × Has (apply_change t c).tasks w × (w.id ≡ z.id) × ((w ≡ z) ⊎ (c ≡ change.PutTask w)))
        → (((w : Task) × Has (apply_changes (apply_change t c) cs).tasks w × (w.id ≡ here.0.id)
        × ((w ≡ here.0) ⊎ Has cs (change.PutTask w))) ⊎ Has cs (change.DropTask here.0.id))
        → ((w : Task) × Has (apply_changes (apply_change t c) cs).tasks w × (w.id ≡ z.id)
        × ((w ≡ z) ⊎ ((c ≡ change.PutTask w) ⊎ Has cs (change.PutTask w))))
        ⊎ ((c ≡ change.DropTask z.id) ⊎ Has cs (change.DropTask z.id))
    later (v, has, id, how) (inl (w, now, same, inr put)) = inl (w, now, same ∙ id, inr (inr put))
    later (v, has, id, inl e) (inl (w, now, same, inl k)) = inl (w, now, same ∙ id, inl (k ∙ e))
    later (v, has, id, inr put) (inl (w, now, same, inl k)) =
        inl (w, now, same ∙ id, inr (inl (put ∙ ap change.PutTask (sym k))))
    later (v, has, id, how) (inr dropped) = inr (inr (subst (λ k. Has cs (change.DropTask k)) id dropped))

-- Tasks that are to wait, beside another one.

pub to_wait_added : (x : Task) (span wide : Span) → wide ≡ with_id span x.id → AddsToWait x wide
to_wait_added x span wide is =
    record { own = λ above w. subst (λ s. is_in s x.id ≡ true) (sym is) (own-with span x.id above) }

pub not_to_wait : (x : Task) (span : Span) → false ≡ is_to_wait x → AddsToWait x span
not_to_wait x span e = record { own = λ above w. never-both (is_to_wait x) (sym e) w }

pub ruleset to_wait_steps = (wider_itself, wider_with, to_wait_added, not_to_wait)

to_wait-wider : (x : Task) (span wide : Span) → IsWider wide span → AddsToWait x span → AddsToWait x wide
to_wait-wider x span wide wider has = record { own = λ above w. wider.has x.id (has.own above w) }

pub none_waiting : (all : List Task) (span : Span) → Touching AddsToWait all all span span
none_waiting all span = record { wider = wider_itself span; each = λ x h. inr h }

pub one_waiting : (all items rest : List Task) (first span wide : Span) (x : Task)
    → Touching AddsToWait all items first span → items ≡ x ∷ rest → IsWider wide span → AddsToWait x wide
    → Touching AddsToWait all rest first wide
one_waiting all items rest first span wide x a step wider has =
    touching_next all items rest first span wide x (λ y. to_wait-wider y span wide wider) a step wider has

-- beside a task is at its place
at-place : (x z : Task) → is_beside x z ≡ true → is_at z.service z.place x ≡ true
at-place x z beside =
    let two = both_are (z.service == x.service) (same_place z.place x.place) beside in
    let service : (x.service == z.service) ≡ true = grind (arith, nat_tests, two.0) in
    let place : z.place ≡ x.place = (Decides-same_place z.place x.place).0 two.1 in
    both (x.service == z.service) (same_place x.place z.place) service
    ((Decides-same_place x.place z.place).1 (sym place))

pub all_waiting : (t : Tables) (z : Task) (items : List Task) (first span : Span) → IsUsable t
    → Touching AddsToWait (filter (is_at z.service z.place) t.tasks) items first span → items ≡ []
    → HasWaitingBeside z t span
all_waiting t z items first span usable a none = record {
  tasks = λ x h beside w.
      (touched-all (filter (is_at z.service z.place) t.tasks) items first span a (ap length none) x
      (Has-filter (is_at z.service z.place) t.tasks x h (at-place x z beside))).own
      (number_above task_id 0 t.tasks x usable.sound.ordered.tasks h) w;
}

pub waiting_wider : (all items : List Task) (first span : Span) → Touching AddsToWait all items first span
    → IsWider span first
waiting_wider all items first span a = a.wider

pub ruleset beside_steps = (none_waiting, waiting_wider)

-- A task that is put or goes, and blocked its place.

the-former : (t : Tables) (z old : Task) (id : ℕ) → IsUsable t → Has t.tasks z → (id == z.id) ≡ true
    → Some old ≡ row_at task_id id t.tasks → old ≡ z
the-former t z old id usable h e row =
    let is : id ≡ z.id = grind (arith, nat_tests, e) in
    let both : Some old ≡ Some z =
    row ∙ ap (λ k. row_at task_id k t.tasks) is ∙ row_at-Some task_id 0 t.tasks z usable.sound.ordered.tasks h in
    cc

no-former : {A : Type 0} (t : Tables) (z : Task) (id : ℕ) → IsUsable t → Has t.tasks z → (id == z.id) ≡ true
    → None ≡ row_at task_id id t.tasks → A
no-former t z id usable h e row =
    let is : id ≡ z.id = grind (arith, nat_tests, e) in
    let both : None ≡ Some z =
    row ∙ ap (λ k. row_at task_id k t.tasks) is ∙ row_at-Some task_id 0 t.tasks z usable.sound.ordered.tasks h in
    absurd cc

pub put_new : (t : Tables) (span : Span) (y : Task) → IsUsable t → None ≡ row_at task_id y.id t.tasks
    → TouchesPlace t span (change.PutTask y)
put_new t span y usable row = record {
  tasks = λ z h e. no-former t z y.id usable h (both_are (y.id == z.id) _ e).0 row;
}

pub put_stays : (t : Tables) (span : Span) (y old : Task) → IsUsable t → Some old ≡ row_at task_id y.id t.tasks
    → false ≡ (blocks old && not (still_blocks old y)) → TouchesPlace t span (change.PutTask y)
put_stays t span y old usable row stays = record {
  tasks = λ z h e.
      let two = both_are (y.id == z.id) (blocks z && not (still_blocks z y)) e in
      let same = the-former t z old y.id usable h two.0 row in
      never-both (blocks z && not (still_blocks z y))
      (ap (λ x. blocks x && not (still_blocks x y)) (sym same) ∙ sym stays) two.1;
}

pub put_leaves : (t : Tables) (wide : Span) (y old : Task) → IsUsable t → Some old ≡ row_at task_id y.id t.tasks
    → HasWaitingBeside old t wide → TouchesPlace t wide (change.PutTask y)
put_leaves t wide y old usable row has = record {
  tasks = λ z h e.
      subst (λ x. HasWaitingBeside x t wide)
      (the-former t z old y.id usable h (both_are (y.id == z.id) _ e).0 row) has;
}

pub drop_none : (t : Tables) (span : Span) (id : ℕ) → IsUsable t → None ≡ row_at task_id id t.tasks
    → TouchesPlace t span (change.DropTask id)
drop_none t span id usable row = record {
  tasks = λ z h e. no-former t z id usable h (both_are (id == z.id) _ e).0 row;
}

pub drop_spares : (t : Tables) (span : Span) (id : ℕ) (old : Task) → IsUsable t → Some old ≡ row_at task_id id t.tasks
    → false ≡ blocks old → TouchesPlace t span (change.DropTask id)
drop_spares t span id old usable row spares = record {
  tasks = λ z h e.
      let two = both_are (id == z.id) (blocks z) e in
      let same = the-former t z old id usable h two.0 row in
      never-both (blocks z) (ap blocks (sym same) ∙ sym spares) two.1;
}

pub drop_leaves : (t : Tables) (wide : Span) (id : ℕ) (old : Task) → IsUsable t → Some old ≡ row_at task_id id t.tasks
    → HasWaitingBeside old t wide → TouchesPlace t wide (change.DropTask id)
drop_leaves t wide id old usable row has = record {
  tasks = λ z h e.
      subst (λ x. HasWaitingBeside x t wide)
      (the-former t z old id usable h (both_are (id == z.id) _ e).0 row) has;
}

pub ruleset place_steps = (wider_itself, put_new, put_stays, put_leaves, drop_none, drop_spares, drop_leaves)

-- One change.

pub node_stays : (t : Tables) (waiting span : Span) (m : Node) → false ≡ turns_node t (change.PutNode m)
    → TouchesBlocked t waiting span (change.PutNode m)
node_stays t waiting span m stays = record {
  place = record { tasks = λ z h e. absurd cc };
  node = λ e. never-both (turns_node t (change.PutNode m)) (sym stays) e;
}

pub node_turns : (t : Tables) (waiting wide : Span) (m : Node) → IsWider wide waiting
    → TouchesBlocked t waiting wide (change.PutNode m)
node_turns t waiting wide m all = record {
  place = record { tasks = λ z h e. absurd cc };
  node = λ e. all;
}

pub ruleset node_steps = (wider_itself, node_stays, node_turns)

pub by_put : (t : Tables) (waiting wide : Span) (c : Change) (y : Task) → c ≡ change.PutTask y
    → TouchesPlace t wide (change.PutTask y) → TouchesBlocked t waiting wide c
by_put t waiting wide c y is has =
    subst (TouchesBlocked t waiting wide) (sym is) (record { place = has; node = λ e. absurd cc })

pub by_drop : (t : Tables) (waiting wide : Span) (c : Change) (id : ℕ) → c ≡ change.DropTask id
    → TouchesPlace t wide (change.DropTask id) → TouchesBlocked t waiting wide c
by_drop t waiting wide c id is has =
    subst (TouchesBlocked t waiting wide) (sym is) (record { place = has; node = λ e. absurd cc })

pub by_node : (t : Tables) (waiting wide : Span) (c : Change) (m : Node) → c ≡ change.PutNode m
    → TouchesBlocked t waiting wide (change.PutNode m) → TouchesBlocked t waiting wide c
by_node t waiting wide c m is has = subst (TouchesBlocked t waiting wide) (sym is) has

pub by_service : (t : Tables) (waiting wide : Span) (c : Change) (s : Service) → c ≡ change.PutService s
    → TouchesBlocked t waiting wide c
by_service t waiting wide c s is =
    subst (TouchesBlocked t waiting wide) (sym is)
    (record { place = record { tasks = λ z h e. absurd cc }; node = λ e. absurd cc })

pub by_keep : (t : Tables) (waiting wide : Span) (c : Change) (a : Attempt) → c ≡ change.Keep a
    → TouchesBlocked t waiting wide c
by_keep t waiting wide c a is =
    subst (TouchesBlocked t waiting wide) (sym is)
    (record { place = record { tasks = λ z h e. absurd cc }; node = λ e. absurd cc })

pub ruleset change_steps = (wider_itself, by_put, by_drop, by_node, by_service, by_keep)

-- All changes.

blocked-wider : (t : Tables) (waiting span wide : Span) (c : Change) → IsWider wide span
    → TouchesBlocked t waiting span c → TouchesBlocked t waiting wide c
blocked-wider t waiting span wide c wider has = record {
  place = record {
    tasks = λ z h e. record { tasks = λ x there at w. wider.has x.id ((has.place.tasks z h e).tasks x there at w) };
  };
  node = λ e. wider_yet waiting span wide (has.node e) wider;
}

pub none_blocked : (t : Tables) (waiting : Span) (all : List Change) (span : Span)
    → Touching (λ c s. TouchesBlocked t waiting s c) all all span span
none_blocked t waiting all span = record { wider = wider_itself span; each = λ c h. inr h }

pub one_blocked : (t : Tables) (waiting : Span) (all left rest : List Change) (first span wide : Span) (c : Change)
    → Touching (λ c s. TouchesBlocked t waiting s c) all left first span → left ≡ c ∷ rest → IsWider wide span
    → TouchesBlocked t waiting wide c → Touching (λ c s. TouchesBlocked t waiting s c) all rest first wide
one_blocked t waiting all left rest first span wide c a step wider has =
    touching_next all left rest first span wide c (λ d. blocked-wider t waiting span wide d wider) a step wider has

pub all_blocked : (t : Tables) (waiting : Span) (all left : List Change) (first span : Span)
    → Touching (λ c s. TouchesBlocked t waiting s c) all left first span → length left ≡ 0
    → TouchesAllBlocked t waiting span all
all_blocked t waiting all left first span a none =
    inr (record { each = λ c h. touched-all all left first span a none c h })

pub blocked_wider : (t : Tables) (waiting : Span) (all left : List Change) (first span : Span)
    → Touching (λ c s. TouchesBlocked t waiting s c) all left first span → IsWider span first
blocked_wider t waiting all left first span a = a.wider

pub none_waits : (t : Tables) (waiting span : Span) (cs : List Change) → true ≡ nat_le waiting.high waiting.after
    → TouchesAllBlocked t waiting span cs
none_waits t waiting span cs over = inl (wider_over span waiting over)

pub ruleset all_steps = (wider_itself, none_waits, none_blocked, all_blocked, blocked_wider)

pub blocked_yet : (t : Tables) (cs : List Change) (span wide waiting : Span) → TouchesAllBlocked t waiting span cs
    → IsWider wide span → TouchesAllBlocked t waiting wide cs
blocked_yet t cs span wide waiting (inl all) wider = inl (wider_yet waiting span wide all wider)
blocked_yet t cs span wide waiting (inr touches) wider =
    inr (record { each = λ c h. blocked-wider t waiting span wide c wider (touches.each c h) })

-- What blocked does still, where nothing is touched.

still-is : (z y : Task) → still_blocks z y ≡ true
    → (blocks y ≡ true) × (y.service ≡ z.service) × (y.place ≡ z.place) × (y.node ≡ z.node)
still-is z y e =
    let node = both_are (blocks y && y.service == z.service && same_place y.place z.place)
    (option_eq same_number y.node z.node) e in
    let place = both_are (blocks y && y.service == z.service) (same_place y.place z.place) node.0 in
    let service = both_are (blocks y) (y.service == z.service) place.0 in
    let of : y.service ≡ z.service = grind (arith, nat_tests, service.1) in (
      service.0,
      of,
      (Decides-same_place y.place z.place).0 place.1,
      (Decides-option_eq same_number Decides-same_number y.node z.node).0 node.1,
    )

pub blocked_kept : (t u : Tables) (cs : List Change) (waiting wide : Span) → RisesFrom task_id 0 t.tasks
    → apply_changes t cs ≡ u → CoversTasks to_wait t waiting → TouchesAllBlocked t waiting wide cs
    → KeepsBlocked t u wide × KeepsBlockedOn t u wide
blocked_kept t u cs waiting wide rises gives c touches = go touches
  where
    waits : (x : Task) → Has t.tasks x → is_to_wait x ≡ true → IsWider wide waiting → is_in wide x.id ≡ true
    waits x h w wider = wider.has x.id (c.has x h (has-when (is_to_wait x) _ ∙ w))

    still : EachPasses (TouchesBlocked t waiting wide) cs → (x z : Task) → Has t.tasks x → is_to_wait x ≡ true
        → Has t.tasks z → is_beside x z ≡ true → blocks z ≡ true
        → (is_in wide x.id ≡ true) ⊎ ((w : Task) × StillBlocks u z w)
    still each x z h w there beside b = by (left-all cs t z there)
      where
        taken : (d : Change) → Has cs d → unblocks d z ≡ true → is_in wide x.id ≡ true
        taken d has e = ((each.each d has).place.tasks z there e).tasks x h beside w

        put : (y : Task) → y.id ≡ z.id → Has (apply_changes t cs).tasks y → Has cs (change.PutTask y) → (s : Bool)
            → still_blocks z y ≡ s → (is_in wide x.id ≡ true) ⊎ ((w : Task) × StillBlocks u z w)
        put y id now has true s =
            let k = still-is z y s in
            inr (
              y,
              record {
                is = subst (λ v. Has v.tasks y) gives now;
                id = id;
                service = k.1;
                place = k.2;
                node = k.3;
                blocks = k.0;
              },
            )
        put y id now has false s =
            let own : (y.id == z.id) ≡ true = grind (arith, nat_tests, id) in
            inl (taken (change.PutTask y) has
            (both (y.id == z.id) (blocks z && not (still_blocks z y)) own
            (both (blocks z) (not (still_blocks z y)) b (ap not s))))

        by : (((y : Task) × Has (apply_changes t cs).tasks y × (y.id ≡ z.id)
            × ((y ≡ z) ⊎ Has cs (change.PutTask y))) ⊎ Has cs (change.DropTask z.id))
            → (is_in wide x.id ≡ true) ⊎ ((w : Task) × StillBlocks u z w)
        by (inl (y, now, id, inl same)) =
            inr (
              y,
              record {
                is = subst (λ v. Has v.tasks y) gives now;
                id = id;
                service = ap (λ v. v.service) same;
                place = ap (λ v. v.place) same;
                node = ap (λ v. v.node) same;
                blocks = ap blocks same ∙ b;
              },
            )
        by (inl (y, now, id, inr has)) = put y id now has (still_blocks z y) refl
        by (inr dropped) =
            let own : (z.id == z.id) ≡ true = grind (arith, nat_tests) in
            inl (taken (change.DropTask z.id) dropped (both (z.id == z.id) (blocks z) own b))

    valid : EachPasses (TouchesBlocked t waiting wide) cs → (x : Task) (n : ℕ) → Has t.tasks x → is_to_wait x ≡ true
        → (is_in wide x.id ≡ true) ⊎ IsAlike AlikeValid (row_at node_id n t.nodes) (row_at node_id n u.nodes)
    valid each x n h w = by (nodes-made cs t n)
      where
        put : (a m : Node) → row_at node_id n t.nodes ≡ Some a → m.id ≡ n → Has cs (change.PutNode m)
            → row_at node_id n u.nodes ≡ Some m → (s : Bool) → same_bool (is_valid_node a) (is_valid_node m) ≡ s
            → (is_in wide x.id ≡ true) ⊎ IsAlike AlikeValid (row_at node_id n t.nodes) (row_at node_id n u.nodes)
        put a m was id has now true s =
            inr (inr (a, m, was, now, record { valid = sym (same_bool_is (is_valid_node a) (is_valid_node m) s) }))
        put a m was id has now false s =
            inl (waits x h w
            ((each.each (change.PutNode m) has).node
            (some-and (λ a. not (same_bool (is_valid_node a) (is_valid_node m))) (row_at node_id m.id t.nodes) a
            (ap (λ k. row_at node_id k t.nodes) id ∙ was) (ap not s))))

        by : ((row_at node_id n (apply_changes t cs).nodes ≡ row_at node_id n t.nodes)
            ⊎ ((a m : Node) × (row_at node_id n t.nodes ≡ Some a) × (m.id ≡ n) × Has cs (change.PutNode m)
            × (row_at node_id n (apply_changes t cs).nodes ≡ Some m)))
            → (is_in wide x.id ≡ true) ⊎ IsAlike AlikeValid (row_at node_id n t.nodes) (row_at node_id n u.nodes)
        by (inl same) = inr (inl (ap (λ v. row_at node_id n v.nodes) (sym gives) ∙ same))
        by (inr (a, m, was, id, has, now)) =
            put a m was id has (ap (λ v. row_at node_id n v.nodes) (sym gives) ∙ now)
            (same_bool (is_valid_node a) (is_valid_node m)) refl

    go : TouchesAllBlocked t waiting wide cs → KeepsBlocked t u wide × KeepsBlockedOn t u wide
    go (inl all) = (
      record { beside = λ x z h w there beside b. inl (waits x h w all) },
      record { beside = λ x z n h w there beside b on. inl (waits x h w all) },
    )
    go (inr each) = (
      record { beside = λ x z h w there beside b. still each x z h w there beside b },
      record { beside = λ x z n h w there beside b on. valid each x n h w },
    )

pub blocked_keeps : BlockedLaw
blocked_keeps t u cs waiting wide rises makes = blocked_kept t u cs waiting wide rises makes.gives
