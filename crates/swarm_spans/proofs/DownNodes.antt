-- The tasks on nodes that are DOWN, node by node.
use Rattle.std.proofs.Common.{◌≡◌, ◌∙◌, ◌==◌, ◌⊎◌, Bool, None, Some, ap, arith, false, inl, inr, refl, subst, sym, true}
use Rattle.std.proofs.lemmas.Bool.Decides.{nat_tests}
use Rattle.std.specs.Prelude.{find, not, ◌&&◌}
use Rattle.swarm_objects.proofs.RowLemmas.{row_at-Some}
use Rattle.swarm_objects.proofs.Tests.{both_are, find_has}
use Rattle.swarm_objects.specs.Nodes.Words.{is_down}
use Rattle.swarm_objects.specs.Rows.{Has, node_id, row_at}
use Rattle.swarm_objects.specs.Usable.{IsUsable}
use Rattle.swarm_objects.specs.World.{Tables}
use Rattle.swarm_objects.specs.declared.nodes.Node.{Node}
use Rattle.swarm_spans.proofs.InSpans.{nothing-passes, passed}
use Rattle.swarm_spans.specs.Grown.{AddingOnDown}
use Rattle.swarm_spans.specs.Spans.{Covers, IsWider, beyond, is_in}
use Rattle.swarm_spans.specs.Timed.{is_down_node}
use Rattle.swarm_spans.specs.Touched.{HasTasksOn, HasTasksOnDown}
use Rattle.swarm_spans.specs.declared.span.Span.{Span}

pub none_on_down : (t : Tables) (downs span : Span) → Covers node_id is_down_node downs t.nodes
    → AddingOnDown t downs span
none_on_down t downs span c = record { each = λ n h down. inr (c.has n h down) }

pub one_on_down : (t : Tables) (left span wide : Span) (n : Node) → IsUsable t → AddingOnDown t left span
    → Some n ≡ find (λ y. is_in left y.id) t.nodes → IsWider wide span
    → (is_down n.state ≡ true → HasTasksOn n.id t wide) → AddingOnDown t (beyond left n.id) wide
one_on_down t left span wide n usable a found wider own = record {
  each = λ m h down.
      elim (a.each m h down) [
        | inl has ↦ inl (record { tasks = λ x there on. wider.has x.id (has.tasks x there on) })
        | inr i ↦ now m h down i (m.id == n.id) refl
      ];
}
  where
    at : (m : Node) → Has t.nodes m → row_at node_id m.id t.nodes ≡ Some m
    at m h = row_at-Some node_id 0 t.nodes m usable.sound.ordered.nodes h

    is-behind : Node → Bool
    is-behind m = is_in left m.id && not (m.id == n.id)

    fails : (i same : Bool) → same ≡ true → (i && not same) ≡ false
    fails true true e = refl
    fails false true e = refl
    fails i false e = absurd cc

    behind : (m : Node) → Has t.nodes m → is-behind m ≡ true → is_in (beyond left n.id) m.id ≡ true
    behind m h e =
        let self : (n.id == n.id) ≡ true = grind (arith, nat_tests) in
        passed node_id is-behind left 0 t.nodes n usable.sound.ordered.nodes
        (record { has = λ y there k. (both_are (is_in left y.id) (not (y.id == n.id)) k).0 }) (sym found)
        (fails (is_in left n.id) (n.id == n.id) self) m h e

    now : (m : Node) → Has t.nodes m → is_down m.state ≡ true → is_in left m.id ≡ true → (b : Bool)
        → (m.id == n.id) ≡ b → HasTasksOn m.id t wide ⊎ (is_in (beyond left n.id) m.id ≡ true)
    now m h down i true e =
        let same : m.id ≡ n.id = grind (arith, nat_tests, e) in
        let there : Has t.nodes n = (find_has (λ y. is_in left y.id) t.nodes n (sym found)).0 in
        let one : Some m ≡ Some n = sym (at m h) ∙ ap (λ k. row_at node_id k t.nodes) same ∙ at n there in
        let is : m ≡ n = cc in
        inl (subst (λ k. HasTasksOn k t wide) (sym same) (own (subst (λ (k : Node). is_down k.state ≡ true) is down)))
    now m h down i false e =
        inr (behind m h (ap (λ b. is_in left m.id && not b) e ∙ ap (λ b. b && true) i))

pub all_on_down : (t : Tables) (left span : Span) → AddingOnDown t left span
    → None ≡ find (λ y. is_in left y.id) t.nodes → HasTasksOnDown t span
all_on_down t left span a none = record {
  nodes = λ n h down.
      elim (a.each n h down) [
        | inl has ↦ has
        | inr i ↦
            let both : true ≡ false = sym i ∙ nothing-passes (λ y. is_in left y.id) t.nodes (sym none) n h in
            absurd cc
      ];
}

pub ruleset on_down_steps = (none_on_down, all_on_down)
