-- The task that holds an update up is among the service's own.
use Rattle.std.proofs.Common.{Bool, List, Option, Some, [], ◌∷◌, ap, cond, false, refl, sym, true, ◌≡◌, ◌∙◌}
use Rattle.std.specs.Prelude.{filter, find}
use Rattle.swarm_model.specs.Settle.{is_holding}
use Rattle.swarm_objects.specs.Tasks.Words.{is_of}
use Rattle.swarm_objects.specs.declared.services.Service.{Service}
use Rattle.swarm_objects.specs.declared.tasks.Task.{Task}

pub found_among : (s : Service) (tasks : List Task) →
    find (is_holding s) (filter (is_of s.id) tasks) ≡ find (is_holding s) tasks
found_among s [] = refl
found_among s (x ∷ tasks) = go (is_of s.id x) refl (found_among s tasks)
  where
    go : (own : Bool) → is_of s.id x ≡ own →
        find (is_holding s) (filter (is_of s.id) tasks) ≡ find (is_holding s) tasks →
        find (is_holding s) (cond own (x ∷ filter (is_of s.id) tasks) (filter (is_of s.id) tasks)) ≡
        cond (is_holding s x) (Some x) (find (is_holding s) tasks)
    go true own rest = ap (λ (o : Option Task). cond (is_holding s x) (Some x) o) rest
    go false own rest =
        let not_held : is_holding s x ≡ false = rw own refl in
        rest ∙ sym (ap (λ (b : Bool). cond b (Some x) (find (is_holding s) tasks)) not_held)
