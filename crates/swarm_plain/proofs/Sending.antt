-- What a node is sent.
use Rattle.std.proofs.Common.{◌≡◌, ℕ, ◌<◌, ◌^◌, Bool, true, false, cond, eqb, List, [], ◌∷◌, Some, None, refl, ap, ◌∙◌, subst, arith}
use Rattle.std.proofs.lemmas.Bool.Decides.{nat_tests}
use Rattle.std.specs.List.{list_all}
use Rattle.std.specs.Option.{option_map}
use Rattle.std.specs.Prelude.{◌&&◌, nat_lt, option_to_list}
use Rattle.swarm_objects.specs.Agents.Messages.{assigned_task, update_of}
use Rattle.swarm_objects.specs.Bounds.{is_near_assigned, is_near_sent}
use Rattle.swarm_objects.specs.Rows.{row_at, sent_node}
use Rattle.swarm_objects.specs.declared.messages.AssignChange.TheVariants as assign
use Rattle.swarm_objects.specs.declared.messages.Assigned.{Assigned}
use Rattle.swarm_objects.specs.declared.messages.NodeSent.{NodeSent}

found_update : (task : ℕ) (due : List Assigned) →
    option_to_list (option_map assign.Update (row_at assigned_task task due)) ≡ update_of due task
found_update task [] = refl
found_update task (a ∷ due) = go (eqb a.task task) (found_update task due)
  where
    go : (b : Bool) → option_to_list (option_map assign.Update (row_at assigned_task task due)) ≡ update_of due task →
        option_to_list (option_map assign.Update (cond b (Some a) (row_at assigned_task task due)))
        ≡ cond b (assign.Update a ∷ []) (update_of due task)
    go true later = refl
    go false later = later

-- the first one of the task is its update
pub update_some : (task : ℕ) (due : List Assigned) (a : Assigned) → Some a ≡ row_at assigned_task task due →
    assign.Update a ∷ [] ≡ update_of due task
update_some task due a e = ap (λ o. option_to_list (option_map assign.Update o)) e ∙ found_update task due

-- and without one there is none
pub update_none : (task : ℕ) (due : List Assigned) → None ≡ row_at assigned_task task due → [] ≡ update_of due task
update_none task due e = ap (λ o. option_to_list (option_map assign.Update o)) e ∙ found_update task due

number_near : (b c : Bool) (n : ℕ) → (nat_lt n (2 ^ 60) && b) && c ≡ true → n < 2 ^ 60
number_near b c n e = go (nat_lt n (2 ^ 60)) refl e
  where
    go : (a : Bool) → nat_lt n (2 ^ 60) ≡ a → (a && b) && c ≡ true → n < 2 ^ 60
    go true is k = grind (arith, nat_tests)
    go false is k = absurd cc

others_near : (a b : Bool) → a && b ≡ true → b ≡ true
others_near true b e = e
others_near false b e = absurd cc

-- the number of what was sent is near
pub near_count : (node : ℕ) (rows : List NodeSent) (s : NodeSent) → list_all is_near_sent rows ≡ true →
    Some s ≡ row_at sent_node node rows → s.count < 2 ^ 60
near_count node [] s near e = absurd cc
near_count node (r ∷ rows) s near e =
    go (eqb r.node node) e (near_count node rows s (others_near (is_near_sent r) (list_all is_near_sent rows) near))
  where
    go : (b : Bool) → Some s ≡ cond b (Some r) (row_at sent_node node rows) →
        (Some s ≡ row_at sent_node node rows → s.count < 2 ^ 60) → s.count < 2 ^ 60
    go true k later = let same : r ≡ s = cc in
        subst (λ (x : NodeSent). x.count < 2 ^ 60) same
        (number_near (list_all is_near_assigned r.tasks) (list_all is_near_sent rows) r.count near)
    go false k later = later k
