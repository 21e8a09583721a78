-- The invariants of places, tasks and runs, together, for every legal history.
use Rattle.std.proofs.Common.{Err, List, Ok, Option, Result, [], arith, subst, sym, true, ℕ, ◌++◌, ◌+◌, ◌∷◌, ◌≡◌, ◌≤◌}
use Rattle.std.specs.Prelude.{length, nat_lt}
use Rattle.swarm_settle.proofs.Closings.{by-last, closing-snoc, is-later}
use Rattle.swarm_settle.proofs.EndedRuns.{EndedRuns, ended-duty, ended-op, ended-read}
use Rattle.swarm_settle.proofs.Goals.{Goals, goals-duty, goals-op}
use Rattle.swarm_settle.proofs.HasClosings.{HasClosings, closings-duty, closings-op, closings-read}
use Rattle.swarm_settle.proofs.JobBounds.{JobBounds, bounds-duty, bounds-op}
use Rattle.swarm_settle.proofs.JobTemplates.{JobTemplates, templates-duty, templates-op}
use Rattle.swarm_settle.proofs.Known.{Known, known-replay}
use Rattle.swarm_settle.proofs.ShapeCalls.{IsTransaction, MadeOp, call-hidden, op-steps}
use Rattle.swarm_settle.proofs.ShapeLoops.{duty-made}
use Rattle.swarm_settle.proofs.ShapeWords.{base-of}
use Rattle.swarm_settle.proofs.Shapes.{Base, Closings, DutyStep, IsLater, OpStep, shape}
use Rattle.swarm_settle.proofs.Versions.{Versions, later-versions, versions-duty, versions-op}
use Rattle.swarm_settle.proofs.Wholes.{Wholes, wholes-duty, wholes-op}
use Rattle.swarm_model.proofs.Base.Answers.{OnGiven, given-if_not, ops-keep}
use Rattle.swarm_model.proofs.Base.FromLists.{IsDuty-due}
use Rattle.swarm_model.proofs.Base.Histories.{entries-step, replay-snoc, room_duty}
use Rattle.swarm_model.proofs.Laws.OfService.{OfServices}
use Rattle.swarm_model.proofs.Moves.Worlds.{IsOrderly}
use Rattle.swarm_model.specs.Calls.Operations.{apply_op, apply_ops}
use Rattle.swarm_model.specs.Calls.{answer, answered, txn_answer}
use Rattle.swarm_model.specs.Closing.{cause_set, closing, later}
use Rattle.swarm_model.specs.History.{IsLegal, may_follow, replay, step}
use Rattle.swarm_model.specs.Outcome.{Answered}
use Rattle.swarm_objects.specs.Limits.{most_ops}
use Rattle.swarm_objects.specs.World.{Tables, World, empty_tables, empty_world}
use Rattle.swarm_objects.specs.declared.calls.Call.TheVariants as call
use Rattle.swarm_objects.specs.declared.calls.Call.{Call}
use Rattle.swarm_objects.specs.declared.calls.Entry.{Entry}
use Rattle.swarm_objects.specs.declared.calls.Op.{Op}
use Rattle.swarm_objects.specs.declared.calls.What.TheVariants as what
use Rattle.swarm_objects.specs.declared.calls.What.{What}
use Rattle.swarm_objects.specs.declared.replies.Refusal.{Refusal}
use Rattle.swarm_objects.specs.declared.replies.Reply.{Reply}
use Rattle.swarm_objects.specs.declared.tasks.Closed.{Closed}

-- of the shape of the tables, the closings of the entries, and their number
pub record Lawful (low high : ℕ) (c : Closings) (t : Tables) : Type 0 where
  pub goals : Goals t
  pub versions : Versions low high t
  pub templates : JobTemplates t
  pub wholes : Wholes t
  pub bounds : JobBounds t
  pub closings : HasClosings c t
  pub ended : EndedRuns c t

lawful-empty : (c : Closings) → Lawful 0 0 c (shape empty_tables)
lawful-empty c = record {
  goals = λ x h. absurd h;
  versions = λ s h. absurd h;
  templates = λ x h. absurd h;
  wholes = λ s p h. absurd h;
  bounds = λ s h. absurd h;
  closings = λ x h. absurd h;
  ended = λ s h. absurd h;
}

lawful-more : (low high low_too high_too : ℕ) (c : Closings) (t : Tables) → low ≤ low_too → high ≤ high_too →
    Lawful low high c t → Lawful low_too high_too c t
lawful-more low high low_too high_too c t up more is = record {
  goals = is.goals;
  versions = later-versions low high low_too high_too t up more is.versions;
  templates = is.templates;
  wholes = is.wholes;
  bounds = is.bounds;
  closings = is.closings;
  ended = is.ended;
}

lawful-read : (low high : ℕ) (c d : Closings) (t : Tables) → ((id : ℕ) → d id ≡ c id) → Lawful low high c t →
    Lawful low high d t
lawful-read low high c d t same is = record {
  goals = is.goals;
  versions = is.versions;
  templates = is.templates;
  wholes = is.wholes;
  bounds = is.bounds;
  closings = closings-read c d t same is.closings;
  ended = λ s h no_job done p. ended-read c d s _ same (is.ended s h no_job done p);
}

lawful-duty : (n : ℕ) (c d : Closings) (t u : Tables) (set : Option (ℕ × Closed)) → Base t →
    DutyStep (n + 1) t set u → IsLater (n + 1) set c d → Lawful n n c t → Lawful (n + 1) (n + 1) d u
lawful-duty n c d t u set base step later is = record {
  goals = goals-duty (n + 1) t u set step is.goals;
  versions = versions-duty n t u set step is.versions;
  templates = templates-duty (n + 1) t u set base step is.templates;
  wholes = wholes-duty (n + 1) t u set base step is.wholes;
  bounds = bounds-duty (n + 1) t u set base is.goals is.wholes step is.bounds;
  closings = closings-duty (n + 1) c d t u set step later is.closings;
  ended = ended-duty n c d t u set base is.goals is.wholes is.versions step later is.ended;
}

lawful-op : (n : ℕ) (c : Closings) (t u : Tables) → Base t → OpStep (n + 1) t u → Lawful n (n + 1) c t →
    Lawful n (n + 1) c u
lawful-op n c t u base step is = record {
  goals = goals-op (n + 1) t u step is.goals;
  versions = versions-op n t u step is.versions;
  templates = templates-op (n + 1) t u base step is.templates;
  wholes = wholes-op (n + 1) t u base step is.wholes;
  bounds = bounds-op (n + 1) t u base step is.bounds;
  closings = closings-op (n + 1) c t u step is.closings;
  ended = ended-op n c t u is.versions step is.ended;
}

-- Transactions.

abbrev IsOpen : ℕ → Closings → World → Type 0
IsOpen n c w = IsOrderly w × OfServices w.tables × Lawful n (n + 1) c (shape w.tables)

op-lawful : (n : ℕ) (c : Closings) (w : World) (o : Op) → IsOpen n c w →
    OnGiven (λ (d : World × ℕ). IsOpen n c d.0) (apply_op (n + 1) w o)
op-lawful n c w o is = go (apply_op (n + 1) w o) (op-steps (n + 1) w o is.0 is.1)
  where
    go : (given : _) → OnGiven (λ (d : World × ℕ). IsOrderly d.0 × MadeOp (n + 1) w d.0) given →
        OnGiven (λ (d : World × ℕ). IsOpen n c d.0) given
    go (Ok d) made =
        (made.0, made.1.of, lawful-op n c (shape w.tables) (shape d.0.tables) (base-of w is.0 is.1) made.1.step is.2)
    go (Err r) made = tt

txn-lawful : (n : ℕ) (c : Closings) (w : World) (ops : List Op) → IsOpen n c w →
    OnGiven (λ (d : Reply × World). Lawful n (n + 1) c (shape d.1.tables)) (answer (n + 1) w (call.Txn ops))
txn-lawful n c w ops is =
    given-if_not (λ (d : Reply × World). Lawful n (n + 1) c (shape d.1.tables)) (nat_lt most_ops (length ops)) _ _
    (λ e. go (apply_ops (n + 1) ops w []) (ops-keep (IsOpen n c) (n + 1) (op-lawful n c) ops w [] is))
  where
    go : (given : Result (World × List ℕ) Refusal) → OnGiven (λ (d : World × List ℕ). IsOpen n c d.0) given →
        OnGiven (λ (d : Reply × World). Lawful n (n + 1) c (shape d.1.tables)) (txn_answer given)
    go (Ok d) holds = holds.2
    go (Err r) holds = tt

-- Entries.

hidden-lawful : (n : ℕ) (c : Closings) (w : World) (asked : Call) → ¬ (IsTransaction asked) →
    Lawful n n c (shape w.tables) →
    OnGiven (λ (d : Reply × World). Lawful (n + 1) (n + 1) c (shape d.1.tables)) (answer (n + 1) w asked)
hidden-lawful n c w asked not_txn is = go (answer (n + 1) w asked) (call-hidden (n + 1) w asked not_txn)
  where
    go : (given : Answered) → OnGiven (λ (d : Reply × World). shape d.1.tables ≡ shape w.tables) given →
        OnGiven (λ (d : Reply × World). Lawful (n + 1) (n + 1) c (shape d.1.tables)) given
    go (Ok d) same =
        subst (Lawful (n + 1) (n + 1) c) (sym same)
        (lawful-more n n (n + 1) (n + 1) c (shape w.tables) (omega arith) (omega arith) is)
    go (Err r) same = tt

call-lawful : (n : ℕ) (c : Closings) (w : World) (asked : Call) → Known w → Lawful n n c (shape w.tables) →
    OnGiven (λ (d : Reply × World). Lawful (n + 1) (n + 1) c (shape d.1.tables)) (answer (n + 1) w asked)
call-lawful n c w (call.Txn ops) known is =
    go (answer (n + 1) w (call.Txn ops))
    (txn-lawful n c w ops
    (known.orderly, known.of, lawful-more n n n (n + 1) c (shape w.tables) (omega arith) (omega arith) is))
  where
    go : (given : Answered) → OnGiven (λ (d : Reply × World). Lawful n (n + 1) c (shape d.1.tables)) given →
        OnGiven (λ (d : Reply × World). Lawful (n + 1) (n + 1) c (shape d.1.tables)) given
    go (Ok d) holds = lawful-more n (n + 1) (n + 1) (n + 1) c (shape d.1.tables) (omega arith) (omega arith) holds
    go (Err r) holds = tt
call-lawful n c w (call.View asked) known is = hidden-lawful n c w (call.View asked) (λ k. k) is
call-lawful n c w (call.WatchBegin f) known is = hidden-lawful n c w (call.WatchBegin f) (λ k. k) is
call-lawful n c w (call.WatchPoll id) known is = hidden-lawful n c w (call.WatchPoll id) (λ k. k) is
call-lawful n c w (call.WatchFinish id) known is = hidden-lawful n c w (call.WatchFinish id) (λ k. k) is
call-lawful n c w (call.Tick ms) known is = hidden-lawful n c w (call.Tick ms) (λ k. k) is
call-lawful n c w (call.Settle budget) known is = hidden-lawful n c w (call.Settle budget) (λ k. k) is
call-lawful n c w (call.NodeFail name) known is = hidden-lawful n c w (call.NodeFail name) (λ k. k) is
call-lawful n c w (call.NodeStart name) known is = hidden-lawful n c w (call.NodeStart name) (λ k. k) is
call-lawful n c w (call.AgentStop name) known is = hidden-lawful n c w (call.AgentStop name) (λ k. k) is
call-lawful n c w (call.AgentStart name) known is = hidden-lawful n c w (call.AgentStart name) (λ k. k) is
call-lawful n c w (call.RemoteBegin name cpu mem) known is =
    hidden-lawful n c w (call.RemoteBegin name cpu mem) (λ k. k) is
call-lawful n c w (call.RemoteBeat name session) known is =
    hidden-lawful n c w (call.RemoteBeat name session) (λ k. k) is
call-lawful n c w (call.RemotePull name session) known is =
    hidden-lawful n c w (call.RemotePull name session) (λ k. k) is
call-lawful n c w (call.RemoteStatus name session task s) known is =
    hidden-lawful n c w (call.RemoteStatus name session task s) (λ k. k) is
call-lawful n c w call.Halt known is = hidden-lawful n c w call.Halt (λ k. k) is

answered-lawful : (n : ℕ) (c : Closings) (w : World) (given : Answered) → Lawful n n c (shape w.tables) →
    OnGiven (λ (d : Reply × World). Lawful (n + 1) (n + 1) c (shape d.1.tables)) given →
    Lawful (n + 1) (n + 1) c (shape (answered w given).after.tables)
answered-lawful n c w (Ok d) is holds = holds
answered-lawful n c w (Err r) is holds =
    lawful-more n n (n + 1) (n + 1) c (shape w.tables) (omega arith) (omega arith) is

step-lawful : (w : World) (e : What) (c d : Closings) → Known w → may_follow w e ≡ true →
    ((id : ℕ) → d id ≡ later (c id) (w.entries + 1) (cause_set w id e)) → Lawful w.entries w.entries c
    (shape w.tables) →
    Lawful (w.entries + 1) (w.entries + 1) d (shape (step w e).after.tables)
step-lawful w (what.Call asked) c d known may next is =
    lawful-read (w.entries + 1) (w.entries + 1) c d _ next
    (answered-lawful w.entries c w (answer (w.entries + 1) w asked) is
    (call-lawful w.entries c w asked known is))
step-lawful w (what.Duty job) c d known may next is =
    let made = duty-made w job known.orderly known.of (IsDuty-due w job (room_duty w job may).2) in
    lawful-duty w.entries c d (shape w.tables) _ made.set (base-of w known.orderly known.of) made.step
    (is-later (w.entries + 1) made.set c d (λ id. cause_set w id (what.Duty job)) made.causes next) is

-- the world after the entries is lawful
abbrev pub IsLawful : List Entry → Type 0
IsLawful h = Lawful (replay h).entries (replay h).entries (closing h) (shape (replay h).tables)

next-lawful : (h : List Entry) (e : Entry) → IsLegal h → may_follow (replay h) e.what ≡ true → IsLawful h →
    IsLawful (h ++ e ∷ [])
next-lawful h e legal may is =
    subst (λ (w : World). Lawful w.entries w.entries (closing (h ++ e ∷ [])) (shape w.tables))
    (sym (replay-snoc empty_world h e))
    (subst (λ (n : ℕ). Lawful n n (closing (h ++ e ∷ [])) (shape (step (replay h) e.what).after.tables))
    (sym (entries-step (replay h) e.what))
    (step-lawful (replay h) e.what (closing h) (closing (h ++ e ∷ [])) (known-replay h legal) may
    (λ id. closing-snoc id h e) is))

pub lawful-replay : (h : List Entry) → IsLegal h → IsLawful h
lawful-replay h legal = by-last IsLawful (lawful-empty (closing [])) next-lawful h legal
