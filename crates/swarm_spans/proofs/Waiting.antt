-- The lines of tasks that wait: for an earlier task of their place, for numbers and addresses, for a node.
use Rattle.std.proofs.Common.{◌≡◌, ℕ, Bool, true, false, cond, ◌⊎◌, inl, inr, List, [], ◌∷◌, Option, Some, None, refl, sym, ap, ◌∙◌, subst}
use Rattle.std.specs.List.{list_all}
use Rattle.std.specs.Prelude.{◌&&◌, ◌||◌, ◌==◌, ◌++◌, find, is_some, nat_le, not}
use Rattle.swarm_objects.proofs.RowLemmas.{Has-from_row_at}
use Rattle.swarm_objects.proofs.Tests.{all-pass, any-has, both, both_are, has-any, never-both, not-true, of-all}
use Rattle.swarm_objects.specs.Loops.Allocator.{exhausted, exhausted_for, exhausted_network, exhausted_port, first_note, gets_address, has_free_address, has_free_port, has_numbered_ports, is_fresh, same_note, wants_note}
use Rattle.swarm_objects.specs.Loops.Dispatcher.{is_expired}
use Rattle.swarm_objects.specs.Loops.Restart.{is_current, is_held_up, is_in_the_way, wants_raise}
use Rattle.swarm_objects.specs.Loops.Scheduler.{is_to_drop, is_to_place, place_duty, schedule}
use Rattle.swarm_objects.specs.Loops.Words.{when}
use Rattle.swarm_objects.specs.Nodes.Sessions.{is_session_live}
use Rattle.swarm_objects.specs.Nodes.Words.{is_astray, is_ready, is_valid_node}
use Rattle.swarm_objects.specs.Rows.{first_of, Has, is_some_and, node_id, on_row, row_at, service_id}
use Rattle.swarm_objects.specs.Services.Ports.{unnumbered_ports}
use Rattle.swarm_objects.specs.Tasks.Places.{counts_for}
use Rattle.swarm_objects.specs.Tasks.Words.{has_ended, is_below_assigned, is_beside, is_to_wait, is_unwanted}
use Rattle.swarm_objects.specs.World.{Tables}
use Rattle.swarm_objects.specs.declared.duties.Duty.{Duty}
use Rattle.swarm_objects.specs.declared.duties.Duty.TheVariants as duty
use Rattle.swarm_objects.specs.declared.nodes.Node.{Node}
use Rattle.swarm_objects.specs.declared.services.Service.{Service}
use Rattle.swarm_objects.specs.declared.tasks.Task.{Task}
use Rattle.swarm_objects.specs.declared.templates.Port.{Port}
use Rattle.swarm_spans.proofs.Lines.{alike-read, by-service, goes-on, goes-on-by, has-when}
use Rattle.swarm_spans.specs.Kept.{IsAlike, KeepsWhere, Stays}
use Rattle.swarm_spans.specs.Lines.{AddressLaw, addresses, AlikeCounting, AlikeNumbered, AlikePorts, AlikeReady, AlikeValid, blocks, ExpireLaw, expires, FreeAsBefore, is_to_allocate, is_to_schedule, KeepsBlocked, KeepsBlockedOn, NoteLaw, notes, RaiseLaw, raises, ScheduleLaw, StillBlocks}
use Rattle.swarm_spans.specs.Spans.{CoversTasks, has_duty, is_in, IsWider}
use Rattle.swarm_spans.specs.declared.span.Span.{Span}

-- Raise.

-- what is in the way blocks, and isn't astray
way-parts : (t : Tables) (z : Task) → is_in_the_way t z ≡ true → (blocks z ≡ true) × (is_astray t z ≡ false)
way-parts t z e = go (is_unwanted z) (has_ended z) (is_below_assigned z) (is_astray t z) e
  where
    go : (a b c d : Bool) → (a && not (b || c || d)) ≡ true → ((a && not (b || c)) ≡ true) × (d ≡ false)
    go true false false false e = (refl, refl)
    go true false false true e = absurd cc
    go true false true d e = absurd cc
    go true true c d e = absurd cc
    go false b c d e = absurd cc

way-of : (t : Tables) (z : Task) → blocks z ≡ true → is_astray t z ≡ false → is_in_the_way t z ≡ true
way-of t z e f = go (is_unwanted z) (has_ended z) (is_below_assigned z) (is_astray t z) e f
  where
    go : (a b c d : Bool) → (a && not (b || c)) ≡ true → d ≡ false → (a && not (b || c || d)) ≡ true
    go true false false false e f = refl
    go true false false true e f = absurd cc
    go true false true d e f = absurd cc
    go true true c d e f = absurd cc
    go false b c d e f = absurd cc

-- one that held it up holds it up still, or the span has it
held-still : (t u : Tables) (wide : Span) (x : Task) → KeepsBlocked t u wide → KeepsBlockedOn t u wide → Has t.tasks x
    → is_to_wait x ≡ true → is_held_up t x ≡ true → (is_in wide x.id ≡ true) ⊎ (is_held_up u x ≡ true)
held-still t u wide x tasks nodes h waits held =
    let k = any-has (λ z. is_beside x z && not (z.id == x.id) && is_in_the_way t z) t.tasks held in
    let two = both_are (is_beside x k.0 && not (k.0.id == x.id)) (is_in_the_way t k.0) k.2 in
    let one = both_are (is_beside x k.0) (not (k.0.id == x.id)) two.0 in
    let way = way-parts t k.0 two.1 in
    elim (tasks.beside x k.0 h waits k.1 one.0 way.0) [
      | inl i ↦ inl i
      | inr w ↦ on-node k.0 w.0 w.1 k.1 one.0 one.1 way.0 way.1 k.0.node refl
    ]
  where
    beside-too : (z w : Task) → StillBlocks u z w → is_beside x z ≡ true → is_beside x w ≡ true
    beside-too z w still e = rw still.service (rw still.place e)

    held-by : (z w : Task) → StillBlocks u z w → is_beside x z ≡ true → not (z.id == x.id) ≡ true
        → is_astray u w ≡ false → is_held_up u x ≡ true
    held-by z w still beside other astray =
        has-any (λ z. is_beside x z && not (z.id == x.id) && is_in_the_way u z) u.tasks w still.is
        (both (is_beside x w && not (w.id == x.id)) (is_in_the_way u w)
        (both (is_beside x w) (not (w.id == x.id)) (beside-too z w still beside)
        (ap (λ k. not (k == x.id)) still.id ∙ other))
        (way-of u w still.blocks astray))

    on-node : (z w : Task) → StillBlocks u z w → Has t.tasks z → is_beside x z ≡ true → not (z.id == x.id) ≡ true
        → blocks z ≡ true → is_astray t z ≡ false → (o : Option ℕ) → z.node ≡ o
        → (is_in wide x.id ≡ true) ⊎ (is_held_up u x ≡ true)
    on-node z w still there beside other blocked astray None e =
        inr (held-by z w still beside other
        (ap (is_some_and (λ n. not (is_some_and is_valid_node (row_at node_id n u.nodes)))) (still.node ∙ e)))
    on-node z w still there beside other blocked astray (Some n) e =
        elim (nodes.beside x z n h waits there beside blocked e) [
          | inl i ↦ inl i
          | inr alike ↦
              let same = alike-read AlikeValid (λ r. not (is_some_and is_valid_node r)) (row_at node_id n t.nodes)
              (row_at node_id n u.nodes) (λ a b v. ap not v.valid) alike in
              let before = ap (is_some_and (λ n. not (is_some_and is_valid_node (row_at node_id n t.nodes)))) (sym e)
              ∙ astray in
              let after = ap (is_some_and (λ n. not (is_some_and is_valid_node (row_at node_id n u.nodes))))
              (still.node ∙ e) in
              inr (held-by z w still beside other (after ∙ same ∙ before))
        ]

pub raise_goes_on : RaiseLaw
raise_goes_on t u span wide clock c wider own services blocked on =
    goes-on-by raises is_to_wait t u span wide c wider (λ y e. (parts u y (sym (has-when (wants_raise u y) _) ∙ e)).0) own
    (λ x y stays due.
    elim (by-service AlikeCounting (is_some_and (λ s. counts_for s x)) t u wide (λ a b alike. alike.counts x) services
    x y stays) [
      | inl i ↦ inl i
      | inr current ↦ by-held x y stays (parts u x (sym (has-when (wants_raise u x) _) ∙ due)) current
          (is_held_up t x) refl
    ])
  where
    parts : (u : Tables) (y : Task) → wants_raise u y ≡ true
        → (is_to_wait y ≡ true) × (not (has_ended y) ≡ true) × (nat_le y.raise_at u.clock ≡ true)
        × (is_current u y ≡ true) × (not (is_held_up u y) ≡ true)
    parts u y e =
        let up = both_are (is_to_wait y && not (has_ended y) && nat_le y.raise_at u.clock && is_current u y)
        (not (is_held_up u y)) e in
        let current = both_are (is_to_wait y && not (has_ended y) && nat_le y.raise_at u.clock) (is_current u y) up.0 in
        let time = both_are (is_to_wait y && not (has_ended y)) (nat_le y.raise_at u.clock) current.0 in
        let waits = both_are (is_to_wait y) (not (has_ended y)) time.0 in
        (waits.0, waits.1, time.1, current.1, up.1)

    whole : (x : Task) → is_to_wait x ≡ true → not (has_ended x) ≡ true → nat_le x.raise_at t.clock ≡ true
        → is_current t x ≡ true → is_held_up t x ≡ false → has_duty (raises t) x ≡ true
    whole x a b r d e =
        has-when (wants_raise t x) _
        ∙ both (is_to_wait x && not (has_ended x) && nat_le x.raise_at t.clock && is_current t x) (not (is_held_up t x))
        (both (is_to_wait x && not (has_ended x) && nat_le x.raise_at t.clock) (is_current t x)
        (both (is_to_wait x && not (has_ended x)) (nat_le x.raise_at t.clock)
        (both (is_to_wait x) (not (has_ended x)) a b) r) d) (ap not e)

    by-held : (x y : Task) → Stays t u x y
        → ((is_to_wait x ≡ true) × (not (has_ended x) ≡ true) × (nat_le x.raise_at u.clock ≡ true)
        × (is_current u x ≡ true) × (not (is_held_up u x) ≡ true))
        → is_current u x ≡ is_current t x → (b : Bool) → is_held_up t x ≡ b
        → (is_in wide y.id ≡ true) ⊎ (has_duty (raises t) x ≡ true)
    by-held x y stays (waits, unended, time, now, up) current false e =
        inr (whole x waits unended (subst (λ k. nat_le x.raise_at k ≡ true) clock time) (sym current ∙ now) e)
    by-held x y stays (waits, unended, time, now, up) current true e =
        elim (held-still t u wide x blocked on stays.was waits e) [
          | inl i ↦ inl (subst (λ k. is_in wide k ≡ true) stays.id i)
          | inr still ↦ never-both (is_held_up u x) (not-true (is_held_up u x) up) still
        ]

-- Addresses and notes.

fresh-parts : (t : Tables) (x : Task) → is_fresh t x ≡ true
    → (is_to_allocate x ≡ true) × (is_some (row_at service_id x.service t.services) ≡ true)
fresh-parts t x e = both_are (is_to_allocate x) _ e

pub address_goes_on : AddressLaw
address_goes_on t u span wide c wider own services free =
    goes-on-by addresses is_to_allocate t u span wide c wider (λ y e. (parts u y (sym (has-when (gets_address u y) _) ∙ e)).0)
    own
    (λ x y stays due.
    let p = parts u x (sym (has-when (gets_address u x) _) ∙ due) in
    elim (by-service AlikeNumbered (is_some_and has_numbered_ports) t u wide (λ a b alike. alike.numbered) services
    x y stays) [
      | inl i ↦ inl i
      | inr numbered ↦
          elim (by-service AlikeNumbered is_some t u wide (λ a b alike. refl) services x y stays) [
            | inl i ↦ inl i
            | inr there ↦
                elim (free.each x stays.was p.0) [
                  | inl i ↦ inl (subst (λ k. is_in wide k ≡ true) stays.id i)
                  | inr less ↦
                      inr (has-when (gets_address t x) _
                      ∙ both (is_fresh t x && is_some_and has_numbered_ports (row_at service_id x.service t.services))
                      (list_all (has_free_address t) x.template.networks)
                      (both (is_fresh t x) (is_some_and has_numbered_ports (row_at service_id x.service t.services))
                      (both (is_to_allocate x) (is_some (row_at service_id x.service t.services)) p.0
                      (sym there ∙ p.1)) (sym numbered ∙ p.2))
                      (all-pass (has_free_address t) x.template.networks
                      (λ n h. less.networks n h (of-all (has_free_address u) x.template.networks n p.3 h))))
                ]
          ]
    ])
  where
    parts : (u : Tables) (y : Task) → gets_address u y ≡ true
        → (is_to_allocate y ≡ true) × (is_some (row_at service_id y.service u.services) ≡ true)
        × (is_some_and has_numbered_ports (row_at service_id y.service u.services) ≡ true)
        × (list_all (has_free_address u) y.template.networks ≡ true)
    parts u y e =
        let all = both_are (is_fresh u y && is_some_and has_numbered_ports (row_at service_id y.service u.services))
        (list_all (has_free_address u) y.template.networks) e in
        let ports = both_are (is_fresh u y) (is_some_and has_numbered_ports (row_at service_id y.service u.services))
        all.0 in
        let fresh = fresh-parts u y ports.0 in
        (fresh.0, fresh.1, ports.1, all.1)

pub find-same : {X : Type 0} (p q : X → Bool) (xs : List X) → ((x : X) → p x ≡ q x) → find p xs ≡ find q xs
find-same p q [] same = refl
find-same p q (x ∷ xs) same =
    ap (λ b. cond b (Some x) (find p xs)) (same x) ∙ ap (cond (q x) (Some x)) (find-same p q xs same)

pub note_goes_on : NoteLaw
note_goes_on t u span wide c wider own services free =
    goes-on notes is_to_allocate t u span wide c wider
    (λ y e. (fresh-parts u y (both_are (is_fresh u y) _ (sym (has-when (wants_note u y) _) ∙ e)).0).0) own
    (λ x y stays. go x y stays (is_to_allocate x) refl)
  where
    exhausted-same : (x : Task) (a b : Service) → FreeAsBefore t u x → AlikePorts a b
        → exhausted u x b ≡ exhausted t x a
    exhausted-same x a b same alike =
        let ports : exhausted_port u b ≡ exhausted_port t a =
        ap (find (λ p. not (has_free_port u p.udp))) alike.ports
        ∙ find-same (λ (p : Port). not (has_free_port u p.udp)) (λ (p : Port). not (has_free_port t p.udp))
        (unnumbered_ports a) (λ p. ap not (same.ports p.udp)) in
        let networks : exhausted_network u x ≡ exhausted_network t x =
        find-same (λ n. not (has_free_address u n)) (λ n. not (has_free_address t n)) x.template.networks
        (λ n. ap not (same.networks n)) in
        ap (λ p. first_note p (exhausted_network u x)) ports ∙ ap (first_note (exhausted_port t a)) networks

    same-rows : (x : Task) → FreeAsBefore t u x → (before after : Option Service) → IsAlike AlikePorts before after
        → (on_row None (exhausted u x) after ≡ on_row None (exhausted t x) before)
        × (is_some after ≡ is_some before)
    same-rows x same None None (inl e) = (refl, refl)
    same-rows x same (Some a) None (inl e) = absurd cc
    same-rows x same None (Some b) (inl e) = absurd cc
    same-rows x same (Some a) (Some b) (inl e) =
        let one : b ≡ a = cc in
        (exhausted-same x a b same (record { ports = ap unnumbered_ports one }), refl)
    same-rows x same before after (inr (a, b, was, is, alike)) = (
      ap (on_row None (exhausted u x)) is ∙ exhausted-same x a b same alike
          ∙ ap (on_row None (exhausted t x)) (sym was),
      ap is_some is ∙ ap is_some (sym was),
    )

    go : (x y : Task) → Stays t u x y → (b : Bool) → is_to_allocate x ≡ b
        → (is_in wide y.id ≡ true) ⊎ (has_duty (notes u) x ≡ has_duty (notes t) x)
    go x y stays false e =
        inr (has-when (wants_note u x) _ ∙ no u ∙ sym (no t) ∙ sym (has-when (wants_note t x) _))
      where
        no : (t : Tables) → wants_note t x ≡ false
        no t = rw e refl
    go x y stays true e =
        elim (free.each x stays.was e) [
          | inl i ↦ inl (subst (λ k. is_in wide k ≡ true) stays.id i)
          | inr same ↦
              elim (services.of x y stays) [
                | inl i ↦ inl i
                | inr alike ↦
                    let both-rows = same-rows x same (row_at service_id y.service t.services)
                    (row_at service_id y.service u.services) alike in
                    let exhausted : exhausted_for u x ≡ exhausted_for t x =
                    subst (λ k. on_row None (exhausted u x) (row_at service_id k u.services)
                    ≡ on_row None (exhausted t x) (row_at service_id k t.services)) stays.service both-rows.0 in
                    let there : is_some (row_at service_id x.service u.services)
                    ≡ is_some (row_at service_id x.service t.services) =
                    subst (λ k. is_some (row_at service_id k u.services) ≡ is_some (row_at service_id k t.services))
                    stays.service both-rows.1 in
                    inr (has-when (wants_note u x) _
                    ∙ ap (λ o. is_fresh u x && is_some_and (λ n. not (same_note n x.note)) o) exhausted
                    ∙ ap (λ b. is_to_allocate x && b && is_some_and (λ n. not (same_note n x.note)) (exhausted_for t x))
                    there ∙ sym (has-when (wants_note t x) _))
              ]
        ]

-- The scheduler.

pub schedule_goes_on : ScheduleLaw
schedule_goes_on t u span wide c wider own free =
    goes-on-by schedule is_to_schedule t u span wide c wider (can u) own
    (λ x y stays due.
    elim (free.each x stays.was (can u x due)) [
      | inl i ↦ inl (subst (λ k. is_in wide k ≡ true) stays.id i)
      | inr as-before ↦ inr (sym as-before.same ∙ due)
    ])
  where
    can : (u : Tables) (y : Task) → has_duty (schedule u) y ≡ true → is_to_schedule y ≡ true
    can u y due = go (is_to_drop y) (is_to_place y) due
      where
        go : (a b : Bool) → is_some (first_of (when a (duty.Drop y.id) ++ place_duty u y b)) ≡ true → (a || b) ≡ true
        go true b e = refl
        go false true e = refl
        go false false e = absurd cc

-- the span of those that wait has each of them, so one that is as wide keeps anything
pub waiting_keeps : (line : Tables → Task → List Duty) (may : Task → Bool) (P : Task → Type 0) (t : Tables)
    (waiting wide : Span) → ((x : Task) → may x ≡ true → has_duty (line t) x ≡ true) → CoversTasks line t waiting
    → IsWider wide waiting → KeepsWhere may P t wide
waiting_keeps line may P t waiting wide due c wider =
    record { each = λ x h e. inl (wider.has x.id (c.has x h (due x e))) }

-- Nodes whose session is over.

pub expire_goes_on : ExpireLaw
expire_goes_on t u span wide c wider own sessions = record {
  has = λ m h due.
      let both-parts = both_are (is_ready m.state) (not (is_session_live u m.id))
      (sym (has-when (is_expired u m) _) ∙ due) in
      elim (own.own m h both-parts.0) [
        | inl i ↦ i
        | inr alike ↦
            elim (sessions m.id) [
              | inl i ↦ i
              | inr live ↦ held m both-parts.0 (ap not (sym live) ∙ both-parts.1) alike
            ]
      ];
}
  where
    expired : (m : Node) → is_ready m.state ≡ true → not (is_session_live t m.id) ≡ true
        → has_duty (expires t) m ≡ true
    expired m ready over = has-when (is_expired t m) _ ∙ both (is_ready m.state) (not (is_session_live t m.id)) ready over

    held : (m : Node) → is_ready m.state ≡ true → not (is_session_live t m.id) ≡ true
        → IsAlike AlikeReady (row_at node_id m.id t.nodes) (Some m) → is_in wide m.id ≡ true
    held m ready over (inl e) =
        let k = Has-from_row_at node_id m.id t.nodes m (sym e) in
        wider.has m.id (c.has m k.0 (expired m ready over))
    held m ready over (inr (x, z, was, is, alike)) =
        let k = Has-from_row_at node_id m.id t.nodes x was in
        let one : m ≡ z = cc in
        let ready-then : is_ready x.state ≡ true = sym alike.ready ∙ ap (λ n. is_ready n.state) (sym one) ∙ ready in
        let over-then : not (is_session_live t x.id) ≡ true = ap (λ n. not (is_session_live t n)) k.1 ∙ over in
        subst (λ n. is_in wide n ≡ true) k.1 (wider.has x.id (c.has x k.0 (expired x ready-then over-then)))
