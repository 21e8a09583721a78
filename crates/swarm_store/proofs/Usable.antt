-- A store that stands for the world of a legal history has what its calls ask for, and so it is after each call.
use Rattle.std.proofs.Common.{◌≡◌, ℕ, ◌+◌, ◌<◌, List, [], ◌∷◌, ◌++◌, Some, Result, Ok, Err, false, true, refl, sym, ap, ◌∙◌, subst, arith}
use Rattle.std.proofs.lemmas.List.{length-append}
use Rattle.swarm_model.proofs.Base.Halting.{halted-call}
use Rattle.swarm_model.proofs.Base.Histories.{IsLegalFrom-snoc, admitted, entries-replay, replay-snoc}
use Rattle.swarm_model.proofs.Laws.GivesOutReplay.{IsSound-replay}
use Rattle.swarm_model.proofs.Laws.Small.{IsSmall-replay}
use Rattle.swarm_model.specs.Calls.{answered, call_outcome, txn}
use Rattle.swarm_model.specs.History.{replay}
use Rattle.std.specs.Prelude.{is_some}
use Rattle.swarm_objects.proofs.RowLemmas.{Has-from_row_at}
use Rattle.swarm_objects.specs.CallWords.{is_halt}
use Rattle.swarm_objects.specs.Rows.{has_row, row_at}
use Rattle.swarm_objects.specs.World.{World, empty_tables, empty_world}
use Rattle.swarm_objects.specs.declared.calls.Call.{Call}
use Rattle.swarm_objects.specs.declared.calls.Call.TheVariants as call
use Rattle.swarm_objects.specs.declared.calls.Entry.{Entry}
use Rattle.swarm_objects.specs.declared.calls.Op.{Op}
use Rattle.swarm_objects.specs.declared.calls.Query.TheVariants as query
use Rattle.swarm_objects.specs.declared.calls.What.TheVariants as what
use Rattle.swarm_objects.specs.declared.replies.Refusal.{Refusal}
use Rattle.swarm_objects.specs.declared.replies.Reply.TheVariants as reply
use Rattle.swarm_objects.specs.Usable.{IsUsable}
use Rattle.swarm_store.specs.Followed.{StandsAfter, UsableStoreLaw}
use Rattle.swarm_store.specs.Stored.{HasNearTasks, StandsFor, Stored, Transacts, without_sessions}

pub usable_store : UsableStoreLaw
usable_store h s legal stands =
    let t = (replay h).tables in
    let sound = IsSound-replay h legal in
    let small = IsSmall-replay h legal in
    let usable : IsUsable (without_sessions t) = record {
      sound = record {
        ordered = record {
          nodes = sound.ordered.nodes;
          services = sound.ordered.services;
          tasks = sound.ordered.tasks;
          networks = sound.ordered.networks;
          sessions = tt;
        };
        below = record {
          nodes = sound.below.nodes;
          services = sound.below.services;
          tasks = sound.below.tasks;
          networks = sound.below.networks;
        };
        subnets = sound.subnets;
      };
      next_id = small.next_id;
      clock = small.clock;
      times = record {
        nodes = small.times.nodes;
        services = small.times.services;
        tasks = small.times.tasks;
        attempts = small.times.attempts;
        sessions = refl;
        orphan = small.times.orphan;
      };
    } in
    subst IsUsable (sym stands) usable

pub usable_follows : (n : ℕ) (s : Stored) → StandsAfter n s → IsUsable s.tables
usable_follows n s is = usable_store is.history s is.legal is.stands

pub near_follows : (n : ℕ) (s : Stored) → StandsAfter n s → HasNearTasks s.tables
near_follows n s is =
    let usable = usable_follows n s is in
    record { next_id = usable.next_id; times = usable.times.tasks }

pub new_follows : (s : Stored) → s.tables ≡ empty_tables → StandsAfter 0 s
new_follows s new = record { history = []; legal = tt; count = refl; running = refl; stands = new }

-- A further entry.

follow : (n : ℕ) (s u : Stored) (c : Call) (is : StandsAfter n s) → n < 1000 → is_halt c ≡ false →
    StandsFor u (call_outcome (replay is.history) c).after → StandsAfter (n + 1) u
follow n s u c is few halts stands =
    let e : Entry = record { by = 0; what = what.Call c } in
    let w = replay is.history in
    let may = admitted w c is.running (omega (arith, few, entries-replay is.history, is.count)) in
    let next = replay-snoc empty_world is.history e in
    record {
      history = is.history ++ e ∷ [];
      legal = IsLegalFrom-snoc empty_world is.history e is.legal may;
      count = omega (arith, length-append is.history (e ∷ []), is.count);
      running = ap (λ (v : World). v.halted) next ∙ halted-call w c halts ∙ is.running;
      stands = stands ∙ ap (λ (v : World). without_sessions v.tables) (sym next);
    }

pub txn_follows : (n : ℕ) (ops : List Op) (s u : Stored) (r : Result (List ℕ) Refusal) → StandsAfter n s → n < 1000 →
    ((w : World) → StandsFor s w → Transacts (n + 1) ops w s r u) → StandsAfter (n + 1) u
txn_follows n ops s u (Ok ids) is few did =
    let w = replay is.history in
    let made = did w is.stands in
    let now : txn (w.entries + 1) w ops ≡ Ok (reply.Txn ids, made.0) =
    ap (λ k. txn (k + 1) w ops) (entries-replay is.history ∙ is.count) ∙ made.1 in
    follow n s u (call.Txn ops) is few refl
    (made.2 ∙ ap (λ a. without_sessions (answered w a).after.tables) (sym now))
txn_follows n ops s u (Err r) is few did =
    follow n s u (call.View query.Clock) is few refl
    (ap (λ (v : Stored). v.tables) (did (replay is.history) is.stands).1 ∙ is.stands)

-- A row that was looked up is there.

pub is_there : {X : Type 0} (key : X → ℕ) (id : ℕ) (row : X) (rows : List X) → row_at key id rows ≡ Some row →
    has_row key (key row) rows ≡ true
is_there key id row rows found =
    subst (λ k. has_row key k rows ≡ true) (sym (Has-from_row_at key id rows row found).1) (ap is_some found)
