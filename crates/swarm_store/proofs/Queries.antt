-- A query sees what a store holds.
use Rattle.std.proofs.Common.{◌≤◌, length, subst, ◌≡◌, inl, inr, List, Some, None, Result, Ok, Err, refl, sym, ap, ◌∙◌}
use Rattle.std.proofs.lemmas.List.Sums.{count_by-le-length, length-filter}
use Rattle.std.specs.Prelude.{Bool, count_by, filter}
use Rattle.swarm_model.specs.Calls.Views.{View, shows}
use Rattle.swarm_objects.specs.Shown.{is_shown_running}
use Rattle.swarm_objects.specs.Tasks.Words.{is_of}
use Rattle.swarm_objects.specs.declared.services.Service.{Service}
use Rattle.swarm_objects.specs.declared.tasks.Task.{Task}
use Rattle.swarm_objects.proofs.PlaceLemmas.{and_left, count_again}
use Rattle.swarm_objects.specs.World.{Tables, World}
use Rattle.swarm_objects.specs.declared.calls.Query.{Query}
use Rattle.swarm_objects.specs.declared.calls.Query.TheVariants as query
use Rattle.swarm_objects.specs.declared.replies.Refusal.{Refusal}
use Rattle.swarm_objects.specs.declared.replies.ViewReply.{ViewReply}
use Rattle.swarm_model.specs.Outcome.{Gets}
use Rattle.swarm_store.specs.Stored.{Shows, StandsFor, Stored, without_sessions}

shows-beside : (t : Tables) (asked : Query) → shows (without_sessions t) asked ≡ shows t asked
shows-beside t query.ListNodes = refl
shows-beside t query.ListServices = refl
shows-beside t query.ListNetworks = refl
shows-beside t (query.ListTasks None) = refl
shows-beside t (query.ListTasks (Some name)) = refl
shows-beside t (query.InspectNode name) = refl
shows-beside t (query.InspectService name) = refl
shows-beside t (query.InspectNetwork name) = refl
shows-beside t (query.InspectTask id) = refl
shows-beside t query.Clock = refl

shows-as : (asked : Query) (w : World) (r : Result ViewReply Refusal) (v : View) → v ≡ shows w.tables asked → Gets v r →
    Shows asked w r
shows-as asked w (Ok view) v same gets = sym same ∙ gets
shows-as asked w (Err q) v same (inl e) = inl e
shows-as asked w (Err q) v same (inr e) = inr (sym same ∙ e)

pub shows-any : (asked : Query) (w : World) (t : Tables) (s : Stored) (r : Result ViewReply Refusal) → t ≡ s.tables → StandsFor s w →
    Gets (shows t asked) r → Shows asked w r
shows-any asked w t s r same stands gets =
    shows-as asked w r (shows t asked) (ap (λ u. shows u asked) (same ∙ stands) ∙ shows-beside w.tables asked) gets

-- The tasks of a service.

pub running-all : (s : Service) (tasks items : List Task) → items ≡ filter (is_of s.id) tasks →
    count_by (is_shown_running s) items ≡ count_by (is_shown_running s) tasks
running-all s tasks items is =
    ap (count_by (is_shown_running s)) is
    ∙ count_again (is_shown_running s) (is_of s.id) tasks (λ x e. and_left _ _ (and_left _ _ e))

pub fewer : {X : Type 0} (p : X → Bool) (xs items : List X) → items ≡ filter p xs → length items ≤ length xs
fewer p xs items is =
    subst (λ ys. length ys ≤ length xs) (sym is) (subst (λ n. n ≤ length xs) (sym (length-filter p xs)) (count_by-le-length p xs))
