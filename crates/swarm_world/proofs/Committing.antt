-- Committing changes of rows.
use Rattle.std.proofs.Common.{◌≡◌, ◌≤◌, ℕ, List, [], ◌∷◌, arith, ap, refl, subst, sym, ◌∙◌, length, true, false, Bool, cond}
use Rattle.std.proofs.lemmas.List.Sums.{count_by-le-length, length-filter}
use Rattle.std.specs.Prelude.{Err, Ok, OnOk, Result, filter}
use Rattle.swarm_objects.specs.Changes.{with_tables}
use Rattle.swarm_objects.specs.Rows.{has_row, put_row, task_id}
use Rattle.swarm_objects.specs.Tasks.New.{with_task}
use Rattle.swarm_objects.specs.World.{Tables, World}
use Rattle.swarm_objects.specs.declared.rows.Change.{Change}
use Rattle.swarm_objects.specs.declared.rows.Change.TheVariants as change
use Rattle.swarm_objects.specs.declared.watches.Event.{Event}
use Rattle.swarm_objects.specs.ChangeLists.{apply_change}
use Rattle.swarm_objects.specs.ChangeLists.{CanApply, CanApplyAll, apply_changes}
use Rattle.swarm_store.specs.Stored.{Stored, without_sessions}
use Rattle.swarm_watch.specs.Calls.{is_awaited}
use Rattle.swarm_watch.specs.Watchings.{Watchings}
use Rattle.swarm_world.proofs.Recorded.{tables_are}
use Rattle.swarm_world.specs.Inside.Commits.{HasRoom}
use Rattle.swarm_world.specs.Inside.Records.{AreUsable, HasRecords, tables_of}
use Rattle.swarm_world.specs.declared.records.Records.{Records}

-- Changes of rows look at no session, and leave the sessions as they are.

one-still : (t : Tables) (c : Change) → (apply_change t c).sessions ≡ t.sessions
one-still t (change.PutNode n) = refl
one-still t (change.PutService s) = refl
one-still t (change.PutTask x) = go (has_row task_id x.id t.tasks)
  where
    go : (b : Bool) → (cond b (record t { tasks = put_row task_id x t.tasks }) (with_task t x)).sessions ≡ t.sessions
    go true = refl
    go false = refl
one-still t (change.DropTask id) = refl
one-still t (change.Keep a) = refl

pub sessions-still : (t : Tables) (cs : List Change) → (apply_changes t cs).sessions ≡ t.sessions
sessions-still t [] = refl
sessions-still t (c ∷ cs) = sessions-still (apply_change t c) cs ∙ one-still t c

one-bare : (t : Tables) (c : Change) → apply_change (without_sessions t) c ≡ without_sessions (apply_change t c)
one-bare t (change.PutNode n) = refl
one-bare t (change.PutService s) = refl
one-bare t (change.PutTask x) = go (has_row task_id x.id t.tasks)
  where
    go : (b : Bool) →
        cond b (record (without_sessions t) { tasks = put_row task_id x t.tasks }) (with_task (without_sessions t) x)
        ≡ without_sessions (cond b (record t { tasks = put_row task_id x t.tasks }) (with_task t x))
    go true = refl
    go false = refl
one-bare t (change.DropTask id) = refl
one-bare t (change.Keep a) = refl

can-one : (t : Tables) (c : Change) → CanApply t c → CanApply (without_sessions t) c
can-one t (change.PutNode n) can = can
can-one t (change.PutService s) can = can
can-one t (change.PutTask x) can = can
can-one t (change.DropTask id) can = can
can-one t (change.Keep a) can = can

pub can-bare : (t : Tables) (cs : List Change) → CanApplyAll t cs → CanApplyAll (without_sessions t) cs
can-bare t [] can = tt
can-bare t (c ∷ cs) can =
    (can-one t c can.0, subst (λ u. CanApplyAll u cs) (sym (one-bare t c)) (can-bare (apply_change t c) cs can.1))

-- what the store asks for
pub can_apply : (r : Records) (cs : List Change) → AreUsable r → CanApplyAll (tables_of r) cs →
    CanApplyAll r.store.tables cs
can_apply r cs are can =
    let w = are.world in
    let same = tables_are r w are.has in
    subst (λ t. CanApplyAll t cs) (sym are.has.store)
    (can-bare w.tables cs (subst (λ t. CanApplyAll t cs) same can))

-- the rows after the changes
pub records_after : (r : Records) (s : Stored) (cs : List Change) (w : World) → HasRecords r w →
    s.tables ≡ without_sessions (apply_changes w.tables cs) →
    HasRecords (record { store = s; sessions = r.sessions }) (with_tables w (apply_changes w.tables cs))
records_after r s cs w has store = record {
  store = store;
  sessions = has.sessions ∙ sym (sessions-still w.tables cs);
}

-- or nothing changed
pub unchanged : (r : Records) (s : Stored) (w : World) → HasRecords r w → s ≡ r.store →
    HasRecords (record { store = s; sessions = r.sessions }) w
unchanged r s w has is = record { store = ap (λ (x : Stored). x.tables) is ∙ has.store; sessions = has.sessions }

-- Room for events.

few-among : {X : Type 0} (p : X → Bool) (xs : List X) → length (filter p xs) ≤ length xs
few-among p xs = rw (length-filter p xs) (count_by-le-length p xs)

-- there are no more that anybody waits for than events
pub enough_room : (most : ℕ) (m : Watchings) → most ≤ m.room → HasRoom most m
enough_room most m room events few =
    let awaited = few-among (is_awaited m.watchers) events in omega (arith, awaited, few, room)

-- where nobody waits, none are needed
pub no_room : (most : ℕ) (m : Watchings) →
    ((events : List Event) → filter (is_awaited m.watchers) events ≡ []) → HasRoom most m
no_room most m none events few = let awaited = ap (λ (es : List Event). length es) (none events) in omega (arith, awaited)

pub room_made : {X E : Type 0} (most : ℕ) (m : Watchings) (result : Result X E) → OnOk result (most ≤ m.room) →
    OnOk result (HasRoom most m)
room_made most m (Ok done) room = enough_room most m room
room_made most m (Err e) room = tt
