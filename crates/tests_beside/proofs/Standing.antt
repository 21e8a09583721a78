-- What a store has that stands for the plain world of a legal history.
use Rattle.std.proofs.Common.{◌≡◌, ℕ, ◌+◌, List, Ok, refl, sym, ap, ◌∙◌, subst}
use Rattle.tests_beside.proofs.Reached.{usable}
use Rattle.tests_beside.specs.Made.{Done}
use Rattle.swarm_duties.specs.Reached.{IsReached}
use Rattle.swarm_model.specs.Calls.{answered, txn}
use Rattle.swarm_model.specs.History.{step}
use Rattle.swarm_objects.specs.World.{Tables, World}
use Rattle.swarm_objects.specs.declared.calls.Call.TheVariants as call
use Rattle.swarm_objects.specs.declared.calls.Op.{Op}
use Rattle.swarm_objects.specs.declared.calls.What.{What}
use Rattle.swarm_objects.specs.declared.calls.What.TheVariants as what
use Rattle.swarm_plain.specs.Plain.{world_of}
use Rattle.swarm_plain.specs.declared.Plain.{Plain}
use Rattle.swarm_store.specs.Stored.{HasNearTasks, StandsFor, Stored, without_sessions}

-- a query may be asked of it
pub near : (s : Stored) (p : Plain) → StandsFor s (world_of p) → IsReached (world_of p) → HasNearTasks s.tables
near s p stands reached =
    let has = usable p reached in
    subst HasNearTasks (sym stands) (record { next_id = has.next_id; times = has.times.tasks })

-- a store that did the operations stands for the world after the entry
pub done : (version : ℕ) (ops : List Op) (w u : World) (x : What) (s : Stored) → version ≡ w.entries + 1
    → x ≡ what.Call (call.Txn ops) → Done version ops w s → u ≡ (step w x).after → StandsFor s u
done version ops w u x s is asked made stepped =
    let does : txn (w.entries + 1) w ops ≡ Ok (made.reply, made.made) =
    subst (λ n. txn n w ops ≡ Ok (made.reply, made.made)) is made.does in
    let after : (step w x).after ≡ (answered w (txn (w.entries + 1) w ops)).after =
    ap (λ y. (step w y).after) asked in
    made.stands
    ∙ sym (ap (λ (v : World). without_sessions v.tables) (stepped ∙ after ∙ ap (λ a. (answered w a).after) does))

-- a copy of the world has what the world has
pub copied : (s : Stored) (p q : Plain) (w : World) → world_of p ≡ w → world_of q ≡ world_of p → StandsFor s w
    → StandsFor s (world_of q)
copied s p q w is same stands = subst (StandsFor s) (sym (same ∙ is)) stands

pub reached : (p q : Plain) → world_of q ≡ world_of p → IsReached (world_of p) → IsReached (world_of q)
reached p q same is = subst IsReached (sym same) is
