-- Spans of the rows that pass a test by what they are themselves.
use Rattle.std.proofs.Common.{◌≡◌, ◌∙◌, ◌<◌, ◌≤◌, ◌⊎◌, ℕ, Bool, List, [], ◌∷◌, Some, ap, false, inl, inr, subst, sym, true}
use Rattle.swarm_model.specs.Settle.{is_remote}
use Rattle.swarm_objects.proofs.RowLemmas.{Has-from_row_at, number_above, row_at-Some}
use Rattle.swarm_objects.specs.Bounds.{far_end}
use Rattle.swarm_objects.specs.ChangeLists.{apply_change, apply_changes}
use Rattle.swarm_objects.specs.Rows.{Has, IsBelow, RisesFrom, node_id, row_at, service_id}
use Rattle.swarm_objects.specs.Usable.{IsUsable}
use Rattle.swarm_objects.specs.World.{Tables}
use Rattle.swarm_objects.specs.declared.tasks.Attempt.{Attempt}
use Rattle.swarm_objects.specs.declared.nodes.Node.{Node}
use Rattle.swarm_objects.specs.declared.rows.Change.{Change}
use Rattle.swarm_objects.specs.declared.rows.Change.TheVariants as change
use Rattle.swarm_objects.specs.declared.services.Service.{Service}
use Rattle.swarm_objects.specs.declared.tasks.Task.{Task}
use Rattle.swarm_spans.proofs.Grown.{in-full, in-onwards, own-with, wider_itself, wider_with}
use Rattle.swarm_spans.proofs.Made.{nodes-made, services-made}
use Rattle.swarm_spans.proofs.Services.Spans.{is-below, near}
use Rattle.swarm_spans.specs.Spans.{Covers, IsWider, full, is_in, onwards, with_id}
use Rattle.swarm_spans.specs.Timed.{AddsEach, AddsNode, AddsPut, AddsService, AreTimed, TimedNodesLaw, TimedPutLaw, TimedServicesLaw, is_down_node, is_unfinished}
use Rattle.swarm_spans.specs.declared.span.Span.{Span}
use Rattle.swarm_spans.specs.declared.timed_spans.TimedSpans.{TimedSpans}

-- One row.

pub own_added : (span wide : Span) (id : ℕ) (passes : Bool) → wide ≡ with_id span id → 0 < id → passes ≡ true
    → is_in wide id ≡ true
own_added span wide id passes is positive e = subst (λ s. is_in s id ≡ true) (sym is) (own-with span id positive)

pub not_added : (span : Span) (id : ℕ) (passes : Bool) → false ≡ passes → 0 < id → passes ≡ true
    → is_in span id ≡ true
not_added span id passes fails positive e = let both : false ≡ true = fails ∙ e in absurd cc

pub ruleset passing_steps = (own_added, not_added, wider_with, wider_itself)

-- One change.

pub node_put : (test : Node → Bool) (c : Change) (wide : Span) (m : Node) → c ≡ change.PutNode m
    → (0 < m.id → test m ≡ true → is_in wide m.id ≡ true) → AddsNode test c wide
node_put test c wide m is own = record {
  row = λ n k positive passes.
      let one : change.PutNode m ≡ change.PutNode n = sym is ∙ k in
      let same : m ≡ n = cc in
      subst (λ (z : Node). 0 < z.id → test z ≡ true → is_in wide z.id ≡ true) same own positive passes;
}

pub node_task : (test : Node → Bool) (c : Change) (wide : Span) (y : Task) → c ≡ change.PutTask y → AddsNode test c wide
node_task test c wide y is =
    record { row = λ n k. let other : change.PutTask y ≡ change.PutNode n = sym is ∙ k in absurd cc }

pub node_service : (test : Node → Bool) (c : Change) (wide : Span) (s : Service) → c ≡ change.PutService s
    → AddsNode test c wide
node_service test c wide s is =
    record { row = λ n k. let other : change.PutService s ≡ change.PutNode n = sym is ∙ k in absurd cc }

pub node_drop : (test : Node → Bool) (c : Change) (wide : Span) (id : ℕ) → c ≡ change.DropTask id → AddsNode test c wide
node_drop test c wide id is =
    record { row = λ n k. let other : change.DropTask id ≡ change.PutNode n = sym is ∙ k in absurd cc }

pub node_keep : (test : Node → Bool) (c : Change) (wide : Span) (a : Attempt) → c ≡ change.Keep a → AddsNode test c wide
node_keep test c wide a is =
    record { row = λ n k. let other : change.Keep a ≡ change.PutNode n = sym is ∙ k in absurd cc }

pub ruleset node_steps = (node_put, node_task, node_service, node_drop, node_keep, wider_itself)

pub service_put : (c : Change) (wide : Span) (s : Service) → c ≡ change.PutService s
    → (0 < s.id → is_unfinished s ≡ true → is_in wide s.id ≡ true) → AddsService c wide
service_put c wide s is own = record {
  row = λ r k positive passes.
      let one : change.PutService s ≡ change.PutService r = sym is ∙ k in
      let same : s ≡ r = cc in
      subst (λ (z : Service). 0 < z.id → is_unfinished z ≡ true → is_in wide z.id ≡ true) same own positive passes;
}

pub service_task : (c : Change) (wide : Span) (y : Task) → c ≡ change.PutTask y → AddsService c wide
service_task c wide y is =
    record { row = λ r k. let other : change.PutTask y ≡ change.PutService r = sym is ∙ k in absurd cc }

pub service_node : (c : Change) (wide : Span) (n : Node) → c ≡ change.PutNode n → AddsService c wide
service_node c wide n is =
    record { row = λ r k. let other : change.PutNode n ≡ change.PutService r = sym is ∙ k in absurd cc }

pub service_drop : (c : Change) (wide : Span) (id : ℕ) → c ≡ change.DropTask id → AddsService c wide
service_drop c wide id is =
    record { row = λ r k. let other : change.DropTask id ≡ change.PutService r = sym is ∙ k in absurd cc }

pub service_keep : (c : Change) (wide : Span) (a : Attempt) → c ≡ change.Keep a → AddsService c wide
service_keep c wide a is =
    record { row = λ r k. let other : change.Keep a ≡ change.PutService r = sym is ∙ k in absurd cc }

pub ruleset service_steps = (service_put, service_task, service_node, service_drop, service_keep, wider_itself)

pub put_grows : {X : Type 0} (key : X → ℕ) (put : X → Change) (test : X → Bool) (c : Change) (span wide : Span)
    → IsWider wide span → AddsPut key put test c span → AddsPut key put test c wide
put_grows key put test c span wide w adds = record { row = λ x e above passes. w.has (key x) (adds.row x e above passes) }

-- Rows after a step.

covers-wider : {X : Type 0} (key : X → ℕ) (test : X → Bool) (span wide : Span) (rows : List X) → IsWider wide span
    → Covers key test span rows → Covers key test wide rows
covers-wider key test span wide rows w c = record { has = λ x h e. w.has (key x) (c.has x h e) }

-- each row is as it was, or one that a change puts
covers-made : {X : Type 0} (key : X → ℕ) (put : X → Change) (test : X → Bool) (before after : List X)
    (cs : List Change) (span wide : Span) → RisesFrom key 0 after
    → ((n : ℕ) → (row_at key n after ≡ row_at key n before)
    ⊎ ((a s : X) × (row_at key n before ≡ Some a) × (key s ≡ n) × Has cs (put s) × (row_at key n after ≡ Some s)))
    → IsWider wide span → AddsEach (AddsPut key put test) cs wide → Covers key test span before
    → Covers key test wide after
covers-made {X} key put test before after cs span wide rises made w adds c = record {
  has = λ x h e. go x h e (made (key x));
}
  where
    go : (x : X) → Has after x → test x ≡ true
        → ((row_at key (key x) after ≡ row_at key (key x) before)
        ⊎ ((a s : X) × (row_at key (key x) before ≡ Some a) × (key s ≡ key x) × Has cs (put s)
        × (row_at key (key x) after ≡ Some s)))
        → is_in wide (key x) ≡ true
    go x h e (inl same) =
        w.has (key x)
        (c.has x (Has-from_row_at key (key x) before x (sym same ∙ row_at-Some key 0 after x rises h)).0 e)
    go x h e (inr (a, s, was, id, has, now)) =
        let one : Some x ≡ Some s = sym (row_at-Some key 0 after x rises h) ∙ now in
        let same : s ≡ x = cc in
        (adds.each (put s) has).row x (ap put same) (number_above key 0 after x rises h) e

-- each row is as it was, or new
covers-come : {X : Type 0} (key : X → ℕ) (test : X → Bool) (before after : List X) (first bound : ℕ) (span wide : Span)
    → RisesFrom key 0 after → IsBelow key bound after → bound < far_end
    → ((n : ℕ) → (row_at key n after ≡ row_at key n before) ⊎ (first ≤ n)) → IsWider wide span
    → IsWider wide (onwards first) → Covers key test span before → Covers key test wide after
covers-come {X} key test before after first bound span wide rises below small others w new c = record {
  has = λ x h e. go x h e (others (key x));
}
  where
    go : (x : X) → Has after x → test x ≡ true
        → ((row_at key (key x) after ≡ row_at key (key x) before) ⊎ (first ≤ key x)) → is_in wide (key x) ≡ true
    go x h e (inl same) =
        w.has (key x)
        (c.has x (Has-from_row_at key (key x) before x (sym same ∙ row_at-Some key 0 after x rises h)).0 e)
    go x h e (inr from) =
        new.has (key x)
        (in-onwards first (key x) bound from (is-below key bound after x below h) small
        (number_above key 0 after x rises h))

covers-full : {X : Type 0} (key : X → ℕ) (test : X → Bool) (rows : List X) (bound : ℕ) (span : Span) → span ≡ full
    → RisesFrom key 0 rows → IsBelow key bound rows → bound < far_end → Covers key test span rows
covers-full key test rows bound span is rises below small = record {
  has = λ x h e.
      subst (λ s. is_in s (key x) ≡ true) (sym is)
      (in-full (key x) (number_above key 0 rows x rises h) (near (key x) bound (is-below key bound rows x below h) small));
}

-- All three spans.

pub timed_full : (every : Span) → every ≡ full → (t : Tables) → IsUsable t
    → AreTimed t (record { updates = every; downs = every; remotes = every })
timed_full every is t usable = record {
  updates =
      covers-full service_id is_unfinished t.services t.next_id every is usable.sound.ordered.services
      usable.sound.below.services usable.next_id;
  downs = nodes is_down_node;
  remotes = nodes is_remote;
}
  where
    nodes : (test : Node → Bool) → Covers node_id test every t.nodes
    nodes test =
        covers-full node_id test t.nodes t.next_id every is usable.sound.ordered.nodes usable.sound.below.nodes
        usable.next_id

pub timed_stays : (b : TimedSpans) (u d r : Span) → IsWider u b.updates → IsWider d b.downs → IsWider r b.remotes
    → (t : Tables) → AreTimed t b → AreTimed t (record { updates = u; downs = d; remotes = r })
timed_stays b u d r us ds rs t are = record {
  updates = covers-wider service_id is_unfinished b.updates u t.services us are.updates;
  downs = covers-wider node_id is_down_node b.downs d t.nodes ds are.downs;
  remotes = covers-wider node_id is_remote b.remotes r t.nodes rs are.remotes;
}

pub timed_on : (cs : List Change) (b : TimedSpans) (u d r : Span) → IsWider u b.updates → AddsEach AddsService cs u
    → IsWider d b.downs → AddsEach (AddsNode is_down_node) cs d → IsWider r b.remotes
    → AddsEach (AddsNode is_remote) cs r → (t : Tables) → IsUsable (apply_changes t cs) → AreTimed t b
    → AreTimed (apply_changes t cs) (record { updates = u; downs = d; remotes = r })
timed_on cs b u d r us services ds downs rs remotes t after are = record {
  updates =
      covers-made service_id change.PutService is_unfinished t.services (apply_changes t cs).services cs b.updates u
      after.sound.ordered.services (services-made cs t) us services are.updates;
  downs =
      covers-made node_id change.PutNode is_down_node t.nodes (apply_changes t cs).nodes cs b.downs d
      after.sound.ordered.nodes (nodes-made cs t) ds downs are.downs;
  remotes =
      covers-made node_id change.PutNode is_remote t.nodes (apply_changes t cs).nodes cs b.remotes r
      after.sound.ordered.nodes (nodes-made cs t) rs remotes are.remotes;
}

pub timed_put : (id : ℕ) (b : TimedSpans) (u : Span) → u ≡ with_id b.updates id
    → TimedPutLaw id b (record b { updates = u })
timed_put id b u is t s own after are = record {
  updates =
      covers-made service_id change.PutService is_unfinished t.services (apply_change t (change.PutService s)).services
      (change.PutService s ∷ []) b.updates u after.sound.ordered.services (services-made (change.PutService s ∷ []) t)
      (wider_with b.updates u id is) (record { each = adds }) are.updates;
  downs = record { has = λ n h e. are.downs.has n h e };
  remotes = record { has = λ n h e. are.remotes.has n h e };
}
  where
    adds : (c : Change) → Has (change.PutService s ∷ []) c → AddsService c u
    adds c (inl same) = record {
      row = λ r k positive passes.
          let one : change.PutService s ≡ change.PutService r = same ∙ k in
          let two : s ≡ r = cc in
          subst (λ (n : ℕ). is_in u n ≡ true) (sym own ∙ ap service_id two)
          (subst (λ w. is_in w id ≡ true) (sym is)
          (own-with b.updates id (subst (λ n. 0 < n) (sym (ap service_id two) ∙ own) positive)));
    }
    adds c (inr none) = absurd none

pub timed_services : (first : ℕ) (b : TimedSpans) (new u : Span) → new ≡ onwards first → IsWider u b.updates
    → IsWider u new → TimedServicesLaw first b (record b { updates = u })
timed_services first b new u is us all t next_id services after come are = record {
  updates =
      covers-come service_id is_unfinished t.services services first next_id b.updates u
      after.sound.ordered.services after.sound.below.services after.next_id
      (λ n. elim (come.others n) [ inl same ↦ inl same | inr two ↦ inr two.0 ]) us (subst (IsWider u) is all)
      are.updates;
  downs = record { has = λ n h e. are.downs.has n h e };
  remotes = record { has = λ n h e. are.remotes.has n h e };
}

pub timed_nodes : (first : ℕ) (b : TimedSpans) (new d r : Span) → new ≡ onwards first → IsWider d b.downs
    → IsWider d new → IsWider r b.remotes → IsWider r new
    → TimedNodesLaw first b (record b { downs = d; remotes = r })
timed_nodes first b new d r is ds down rs remote t next_id nodes after come are = record {
  updates = record { has = λ s h e. are.updates.has s h e };
  downs = made is_down_node b.downs d ds down are.downs;
  remotes = made is_remote b.remotes r rs remote are.remotes;
}
  where
    made : (test : Node → Bool) (span wide : Span) → IsWider wide span → IsWider wide new
        → Covers node_id test span t.nodes → Covers node_id test wide nodes
    made test span wide w all c =
        covers-come node_id test t.nodes nodes first next_id span wide after.sound.ordered.nodes
        after.sound.below.nodes after.next_id come.others w (subst (IsWider wide) is all) c
