-- What no event names is as it was.
use Rattle.std.proofs.Common.{◌≡◌, ℕ, Bool, true, false, cond, ◌⊎◌, inl, inr, List, [], ◌∷◌, Some, None, refl, sym, ap, ◌∙◌, Decides, Option, filter, map}
use Rattle.swarm_spans.specs.Told.{event_id, ids_of, is_node_kind, is_service_kind, is_task_kind, ToldLaw}
use Rattle.swarm_model.proofs.Watching.AllChanges.{all-changes}
use Rattle.swarm_model.proofs.Watching.Content.{Decides-same_node, Decides-same_service, Decides-same_task}
use Rattle.swarm_model.specs.Changed.{changes_between, event}
use Rattle.swarm_model.specs.Content.{same_node, same_service, same_task}
use Rattle.swarm_model.specs.Events.{IsVerb}
use Rattle.swarm_objects.proofs.RowLemmas.{Has-from_row_at}
use Rattle.swarm_objects.specs.Rows.{Has, node_id, row_at, service_id, task_id}
use Rattle.swarm_objects.specs.declared.ids.Kind.{Kind}
use Rattle.swarm_objects.specs.declared.ids.Kind.TheVariants as kind
use Rattle.swarm_objects.specs.declared.watches.Event.{Event}
use Rattle.swarm_objects.specs.declared.watches.Verb.{Verb}
use Rattle.swarm_objects.specs.declared.watches.Verb.TheVariants as verb

has-id : (test : Kind → Bool) (events : List Event) (e : Event) → Has events e → test e.kind ≡ true
    → Has (ids_of test events) e.id
has-id test [] e h is = absurd h
has-id test (x ∷ events) e h is = go (test x.kind) refl (λ h. has-id test events e h is) h
  where
    go : (b : Bool) → test x.kind ≡ b → (Has events e → Has (ids_of test events) e.id) → ((x ≡ e) ⊎ Has events e)
        → Has (map event_id (cond b (x ∷ filter (λ e. test e.kind) events) (filter (λ e. test e.kind) events))) e.id
    go true t below (inl same) = inl (ap event_id same)
    go true t below (inr h) = inr (below h)
    go false t below (inl same) =
        let both : true ≡ false = sym is ∙ ap (λ x. test x.kind) (sym same) ∙ t in
        absurd cc
    go false t below (inr h) = below h

told-or-same : {X : Type 0} (key : X → ℕ) (same : X → X → Bool)
    → ((a b : X) → key a ≡ key b → Decides (same a b) (a ≡ b)) → (old new : List X) (id : ℕ) (told : List ℕ)
    → ((v : Verb) → IsVerb (row_at key id old) (row_at key id new) v → Has told id)
    → Has told id ⊎ (row_at key id new ≡ row_at key id old)
told-or-same {X} key same decides old new id told tells =
    go (row_at key id old) (row_at key id new) (λ x e. (Has-from_row_at key id old x e).1)
    (λ x e. (Has-from_row_at key id new x e).1) tells
  where
    go : (o n : Option X) → ((x : X) → o ≡ Some x → key x ≡ id) → ((x : X) → n ≡ Some x → key x ≡ id)
        → ((v : Verb) → IsVerb o n v → Has told id) → Has told id ⊎ (n ≡ o)
    go None None a b tells = inr refl
    go None (Some n) a b tells = inl (tells verb.Created tt)
    go (Some o) None a b tells = inl (tells verb.Deleted tt)
    go (Some o) (Some n) a b tells = by (same o n) refl
      where
        by : (s : Bool) → same o n ≡ s → Has told id ⊎ (Some n ≡ Some o)
        by true e = inr (ap Some (sym ((decides o n (a o refl ∙ sym (b n refl))).0 e)))
        by false e =
            inl (tells verb.Updated (λ equal.
            let yes-same : same o n ≡ true = (decides o n (a o refl ∙ sym (b n refl))).1 equal in
            let both : true ≡ false = sym yes-same ∙ e in
            absurd cc))

pub told : ToldLaw
told n t u = record {
  tasks = λ id. told-or-same task_id same_task Decides-same_task t.tasks u.tasks id _
      (λ v is. has-id is_task_kind (changes_between n t u) (event n kind.Task id v)
      ((all-changes n t u (event n kind.Task id v)).1 (refl, is)) refl);
  services = λ id. told-or-same service_id same_service Decides-same_service t.services u.services id _
      (λ v is. has-id is_service_kind (changes_between n t u) (event n kind.Service id v)
      ((all-changes n t u (event n kind.Service id v)).1 (refl, is)) refl);
  nodes = λ id. told-or-same node_id same_node Decides-same_node t.nodes u.nodes id _
      (λ v is. has-id is_node_kind (changes_between n t u) (event n kind.Node id v)
      ((all-changes n t u (event n kind.Node id v)).1 (refl, is)) refl);
}
