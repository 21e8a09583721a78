-- Changes that give services no task that may make a place dirty.
use Rattle.std.proofs.Common.{◌%◌, ◌≡◌, ◌∙◌, ◌∷◌, ℕ, Bool, List, None, Option, Some, [], ap, arith, eqb, false, get_or, inl, inr, refl, subst, sym, true}
use Rattle.std.specs.List.{list_any}
use Rattle.std.specs.Prelude.{IfSome, filter, ◌&&◌}
use Rattle.role_words.proofs.Numbers.{same_number}
use Rattle.role_words.proofs.NoSuspects.{any_suspect, none_suspect}
use Rattle.role_words.specs.Suspects.{is_suspect}
use Rattle.swarm_objects.proofs.PlaceLemmas.{any_again}
use Rattle.swarm_objects.proofs.RowLemmas.{Has-from_row_at}
use Rattle.swarm_objects.proofs.Tests.{any_filter, has-any}
use Rattle.swarm_objects.specs.ChangeLists.{apply_changes}
use Rattle.swarm_objects.specs.Rows.{Has, is_some_and, row_at, service_id}
use Rattle.swarm_objects.specs.Tasks.Words.{is_of}
use Rattle.swarm_objects.specs.World.{Tables}
use Rattle.swarm_objects.specs.declared.rows.Change.TheVariants as change
use Rattle.swarm_objects.specs.declared.rows.Change.{Change}
use Rattle.swarm_objects.specs.declared.services.Service.{Service}
use Rattle.swarm_objects.specs.declared.tasks.Task.{Task}
use Rattle.swarm_update.proofs.Leaving.{CameFrom, Misses, PutsAlike, as_read, changes-leave, row_came}
use Rattle.swarm_update.proofs.Marking.{true_false}
use Rattle.swarm_update.specs.KnownSurvey.{AllStayClean, AreClean, HasAlike, HasNoSuspect, IsClean, StaysClean, has_service}
use Rattle.swarm_update.specs.declared.clean.CleanServices.{CleanServices}
use Rattle.swarm_update.specs.declared.clean.TheConstants.{SLOTS}

each_clean : (t : Tables) (id : ℕ) (cs : List Change) (c : Change) → AllStayClean t id cs → Has cs c
    → StaysClean t id c
each_clean t id [] c all h = absurd h
each_clean t id (d ∷ cs) c all (inl same) = subst (StaysClean t id) same all.0
each_clean t id (d ∷ cs) c all (inr h) = each_clean t id cs c all.1 h

-- The tasks.

abbrev suspect_of : Service → Task → Bool
suspect_of s x = is_of s.id x && is_suspect s x

as_any : (s : Service) (tasks : List Task) → any_suspect s tasks ≡ list_any (suspect_of s) (filter (suspect_of s) tasks)
as_any s tasks =
    any_filter (is_of s.id) (is_suspect s) tasks ∙ sym (any_again (suspect_of s) (suspect_of s) tasks (λ x e. e))

none_has : (s : Service) (tasks : List Task) → any_suspect s tasks ≡ false → (x : Task) → Has tasks x
    → suspect_of s x ≡ false
none_has s tasks none x has = go (suspect_of s x) refl
  where
    go : (b : Bool) → suspect_of s x ≡ b → b ≡ false
    go false e = refl
    go true e =
        absurd (true_false (any_suspect s tasks)
        (any_filter (is_of s.id) (is_suspect s) tasks ∙ has-any (suspect_of s) tasks x has e) none)

misses : (t : Tables) (s : Service) (id : ℕ) (c : Change) → s.id ≡ id → row_at service_id id t.services ≡ Some s
    → any_suspect s t.tasks ≡ false → StaysClean t id c → Misses (suspect_of s) t.tasks c
misses t s id (change.PutTask z) own at none stays = record {
  put = λ x f. let same : z ≡ x = cc in (
    ap (suspect_of s) (sym same) ∙ ap (λ n. is_of n z && is_suspect s z) own
        ∙ sym (ap (λ o. is_of id z && is_some_and (λ r. is_suspect r z) o) at) ∙ stays,
    λ y h is. none_has s t.tasks none y h,
  );
  drop = λ j f. absurd cc;
}
misses t s id (change.DropTask i) own at none stays = record {
  put = λ x f. absurd cc;
  drop = λ j f y h is. none_has s t.tasks none y h;
}
misses t s id (change.PutNode n) own at none stays = record { put = λ x f. absurd cc; drop = λ j f. absurd cc }
misses t s id (change.PutService z) own at none stays = record { put = λ x f. absurd cc; drop = λ j f. absurd cc }
misses t s id (change.Keep a) own at none stays = record { put = λ x f. absurd cc; drop = λ j f. absurd cc }

-- The service.

stays_alike : (t : Tables) (id : ℕ) (c : Change) → StaysClean t id c → PutsAlike t id c
stays_alike t id (change.PutService z) stays = λ s e.
    let same : z ≡ s = cc in subst (λ (x : Service). x.id ≡ id → HasAlike t x) same stays
stays_alike t id (change.PutNode n) stays = λ s e. absurd cc
stays_alike t id (change.PutTask x) stays = λ s e. absurd cc
stays_alike t id (change.DropTask i) stays = λ s e. absurd cc
stays_alike t id (change.Keep a) stays = λ s e. absurd cc

alike_suspect : (s z : Service) (tasks : List Task) → s.id ≡ z.id → s.spec ≡ z.spec → s.iteration ≡ z.iteration
    → any_suspect s tasks ≡ any_suspect z tasks
alike_suspect s z tasks id spec iteration =
    ap (λ n. any_suspect (as_read n s.spec s.iteration s) tasks) id
    ∙ ap (λ d. any_suspect (as_read z.id d s.iteration s) tasks) spec
    ∙ ap (λ n. any_suspect (as_read z.id z.spec n s) tasks) iteration

-- it has none after them
pub clean_on : (t : Tables) (id : ℕ) (cs : List Change) → HasNoSuspect t id → AllStayClean t id cs
    → HasNoSuspect (apply_changes t cs) id
clean_on t id cs known all = record {
  each = λ z at. one z at (row_came t id cs (λ c h. stays_alike t id c (each_clean t id cs c all h)) z at);
}
  where
    one : (z : Service) → row_at service_id id (apply_changes t cs).services ≡ Some z → CameFrom t id z
        → any_suspect z (apply_changes t cs).tasks ≡ false
    one z at c =
        let own : z.id ≡ id = (Has-from_row_at service_id id (apply_changes t cs).services z at).1 in
        let was : c.row.id ≡ id = (Has-from_row_at service_id id t.services c.row c.is).1 in
        let none = known.each c.row c.is in
        sym (alike_suspect c.row z (apply_changes t cs).tasks (was ∙ sym own) (sym c.spec) (sym c.iteration))
        ∙ as_any c.row (apply_changes t cs).tasks
        ∙ ap (list_any (suspect_of c.row))
        (changes-leave (suspect_of c.row) cs t (λ d h. misses t c.row id d was c.is none (each_clean t id cs d all h)))
        ∙ sym (as_any c.row t.tasks)
        ∙ none

-- What is remembered tells of the service's row, and a row is remembered.

pub known_clean : (t : Tables) (clean : CleanServices) (s : Service) → AreClean t clean → has_service clean s.id ≡ true
    → row_at service_id s.id t.services ≡ Some s → any_suspect s t.tasks ≡ false
known_clean t clean s known has at = go (get_or clean.services slot None) (known.each slot (omega arith)) has
  where
    slot : ℕ
    slot = s.id % SLOTS

    go : (o : Option ℕ) → IfSome o (IsClean t slot) → is_some_and (λ k. eqb k s.id) o ≡ true
        → any_suspect s t.tasks ≡ false
    go None is e = absurd cc
    go (Some id) is e = is.none.each s (ap (λ n. row_at service_id n t.services) (same_number id s.id e) ∙ at)

pub row_clean : (t : Tables) (s : Service) → row_at service_id s.id t.services ≡ Some s → any_suspect s t.tasks ≡ false
    → HasNoSuspect t s.id
row_clean t s row none = record { each = λ z at. one z (found z at) }
  where
    found : (z : Service) → row_at service_id s.id t.services ≡ Some z → s ≡ z
    found z at =
        let same : Some s ≡ Some z = sym row ∙ at in
        cc

    one : (z : Service) → s ≡ z → any_suspect z t.tasks ≡ false
    one z same = subst (λ (x : Service). any_suspect x t.tasks ≡ false) same none

pub ruleset clean_steps = (none_suspect, row_clean)
