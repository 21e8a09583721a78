-- Calls on watchers: they come, ask and leave.
use Rattle.std.proofs.Common.{◌≡◌, ◌+◌, ℕ, Bool, true, false, cond, List, Ok, Err, Option, Some, None, Result, ap, inl, inr, length, subst, sym, ◌∙◌}
use Rattle.std.specs.Prelude.{nat_le, nat_lt}
use Rattle.swarm_model.specs.Calls.Watches.{told_at, waiting_events, watch_finish, watch_poll, with_watcher, without_watcher}
use Rattle.swarm_model.specs.Calls.{answered}
use Rattle.swarm_model.specs.History.{replay, step}
use Rattle.swarm_model.specs.Outcome.{Outcome}
use Rattle.swarm_objects.specs.Changes.{id_taken}
use Rattle.swarm_objects.specs.Limits.{most_events, most_watchers}
use Rattle.swarm_objects.specs.Refusals.{refuse, unless}
use Rattle.swarm_objects.specs.Rows.{row_at, watcher_id}
use Rattle.swarm_objects.specs.World.{World}
use Rattle.swarm_objects.specs.declared.calls.Call.{Call}
use Rattle.swarm_objects.specs.declared.calls.Call.TheVariants as call
use Rattle.swarm_objects.specs.declared.calls.Entry.{Entry}
use Rattle.swarm_objects.specs.declared.calls.What.TheVariants as what
use Rattle.swarm_objects.specs.declared.ids.Kind.TheVariants as kind
use Rattle.swarm_objects.specs.declared.names.NoMemory.{NoMemory}
use Rattle.swarm_objects.specs.declared.replies.Refusal.{Refusal}
use Rattle.swarm_objects.specs.declared.replies.Refusal.TheVariants as refusal
use Rattle.swarm_objects.specs.declared.replies.Reply.{Reply}
use Rattle.swarm_objects.specs.declared.replies.Reply.TheVariants as reply
use Rattle.swarm_objects.specs.declared.watches.Event.{Event}
use Rattle.swarm_objects.specs.declared.watches.Filter.{Filter}
use Rattle.swarm_objects.specs.declared.watches.Watcher.{Watcher}
use Rattle.swarm_sessions.specs.OnRecord.{OnRecord}
use Rattle.swarm_watch.specs.Watchings.{Watchings}
use Rattle.swarm_watch.specs.Worlds.{MayAnswerAsWorld, StandsFor as Watch}
use Rattle.swarm_world.proofs.Answering.{counted-parts, entered-parts}
use Rattle.swarm_world.specs.Inside.Parts.{HasParts, Replies, StandsFor, Tells}
use Rattle.swarm_world.specs.declared.parts.Parts.{Parts}

-- The parts but for the watches are those of the world after it, and memory was not said to be wanting.

record Passes (p : Parts) (o : Outcome) : Type 0 where
  pub has : HasParts p o.after
  pub told : o.reply ≡ reply.Refused refusal.NoMemory → ⊥

with-watchers : (p : Parts) (w : World) (watchers : List Watcher) → HasParts p w →
    HasParts p (record w { watchers = watchers })
with-watchers p w watchers has = record {
  records = record { store = has.records.store; sessions = has.records.sessions };
  sent = has.sent;
  agents = has.agents;
  halted = has.halted;
}

-- a refusal, which is an entry
refused-so : (h : List Entry) (c : Call) (p : Parts) (m : Watchings) (r : Refusal) (result : Result Reply NoMemory) →
    Passes p (step (replay h) (what.Call c)) → reply.Refused r ≡ (step (replay h) (what.Call c)).reply →
    Watch m (step (replay h) (what.Call c)).after → Tells r result →
    Replies h (what.Call c) result (record p { watches = m })
refused-so h c p m r result passes said watches (inl tells) = absurd (passes.told (sym said ∙ ap reply.Refused tells.0))
refused-so h c p m r result passes said watches (inr tells) =
    subst (λ (x : Result Reply NoMemory). Replies h (what.Call c) x (record p { watches = m })) (sym tells.1) (
      said,
      record {
        has = record {
          records = passes.has.records;
          sent = passes.has.sent;
          agents = passes.has.agents;
          halted = passes.has.halted;
        };
        watches = watches;
      },
    )

wanting-is : {X : Type 0} (r : Refusal) → ◌≡◌ {A = Result X Refusal} (Err r) (Err refusal.NoMemory) →
    r ≡ refusal.NoMemory
wanting-is r e = cc

-- memory was wanting
wanted-so : (h : List Entry) (c : Call) (p : Parts) (m : Watchings) (r : Refusal) (result : Result Reply NoMemory) →
    StandsFor p (replay h) → r ≡ refusal.NoMemory → m ≡ p.watches → Tells r result →
    Replies h (what.Call c) result (record p { watches = m })
wanted-so h c p m r (Ok said) stands e same (inl tells) = absurd tells.1
wanted-so h c p m r (Err x) stands e same (inl tells) = record {
  has = record {
    records = stands.has.records;
    sent = stands.has.sent;
    agents = stands.has.agents;
    halted = stands.has.halted;
  };
  watches = ap (λ (s : Watchings). s.watchers) same ∙ stands.watches;
}
wanted-so h c p m r result stands e same (inr tells) = absurd (tells.0 e)

poll-passes : (p : Parts) (w : World) (k id : ℕ) (found : Option Watcher) → HasParts p w →
    Passes p (answered w (watch_poll k w id found))
poll-passes p w k id None has = record { has = counted-parts p w (w.entries + 1) has; told = λ e. absurd cc }
poll-passes p w k id (Some x) has = go (nat_lt most_events (length (waiting_events w x)))
  where
    go : (b : Bool) →
        Passes p (answered w (Ok (cond b (reply.Refused (refusal.Lagged (length (waiting_events w x))), without_watcher id w)
        (reply.Events (waiting_events w x), told_at k id w))))
    go true = record {
      has = entered-parts p w (without_watcher id w) (with-watchers p w (without_watcher id w).watchers has);
      told = λ e. absurd cc;
    }
    go false = record {
      has = entered-parts p w (told_at k id w) (with-watchers p w (told_at k id w).watchers has);
      told = λ e. absurd cc;
    }

finish-passes : (p : Parts) (w : World) (id : ℕ) (found : Option Watcher) → HasParts p w →
    Passes p (answered w (watch_finish w id found))
finish-passes p w id None has = record { has = counted-parts p w (w.entries + 1) has; told = λ e. absurd cc }
finish-passes p w id (Some x) has = record {
  has = entered-parts p w (without_watcher id w) (with-watchers p w (without_watcher id w).watchers has);
  told = λ e. absurd cc;
}

-- Coming.

begun-passes : (p q : Parts) (w : World) (k : ℕ) (f : Filter) (b : Bool) (id : ℕ) → HasParts p w →
    q.records.store.tables ≡ id_taken p.records.store.tables → q.records.sessions ≡ p.records.sessions →
    q.sent ≡ p.sent → q.agents ≡ p.agents → q.halted ≡ p.halted →
    reply.WatchBegun id
    ≡ (answered w (unless (refuse b (refusal.TooMany kind.Watcher (length w.watchers)))
    (reply.WatchBegun w.tables.next_id, with_watcher k w f))).reply →
    HasParts q (answered w (unless (refuse b (refusal.TooMany kind.Watcher (length w.watchers)))
    (reply.WatchBegun w.tables.next_id, with_watcher k w f))).after
begun-passes p q w k f true id has store sessions sent agents halted said = absurd cc
begun-passes p q w k f false id has store sessions sent agents halted said = record {
  records = record {
    store = store ∙ ap id_taken has.records.store;
    sessions = ap (λ (s : OnRecord). s.rows) sessions ∙ has.records.sessions;
  };
  sent = sent ∙ has.sent;
  agents = agents ∙ has.agents;
  halted = halted ∙ has.halted;
}

begun-not : (p : Parts) (w : World) (k : ℕ) (f : Filter) (b : Bool) (r : Refusal) → HasParts p w →
    reply.Refused r
    ≡ (answered w (unless (refuse b (refusal.TooMany kind.Watcher (length w.watchers)))
    (reply.WatchBegun w.tables.next_id, with_watcher k w f))).reply →
    Passes p (answered w (unless (refuse b (refusal.TooMany kind.Watcher (length w.watchers)))
    (reply.WatchBegun w.tables.next_id, with_watcher k w f)))
begun-not p w k f true r has said = record { has = counted-parts p w (w.entries + 1) has; told = λ e. absurd cc }
begun-not p w k f false r has said = absurd cc

abbrev begins : List Entry → Filter → Outcome
begins h f = step (replay h) (what.Call (call.WatchBegin f))

abbrev Begins : List Entry → Filter → Watchings → Result (Unit {0}) Refusal → Watchings → Type 0
Begins h f before result after =
    MayAnswerAsWorld (λ _. reply.WatchBegun (replay h).tables.next_id) (begins h f) before result after

pub begun : (h : List Entry) (f : Filter) (p q : Parts) (id : ℕ) (result : Result (Unit {0}) Refusal) →
    StandsFor p (replay h) → id ≡ (replay h).tables.next_id → result ≡ Ok tt → Begins h f p.watches result q.watches →
    q.records.store.tables ≡ id_taken p.records.store.tables → q.records.sessions ≡ p.records.sessions →
    q.sent ≡ p.sent → q.agents ≡ p.agents → q.halted ≡ p.halted →
    (reply.WatchBegun id ≡ (begins h f).reply) × StandsFor q (begins h f).after
begun h f p q id (Ok done) stands number is (inl follows) store sessions sent agents halted =
    let w = replay h in (
      ap reply.WatchBegun number ∙ follows.0,
      record {
        has =
            begun-passes p q w (w.entries + 1) f (nat_le most_watchers (length w.watchers)) w.tables.next_id stands.has
            store sessions sent agents halted follows.0;
        watches = follows.1;
      },
    )
begun h f p q id (Ok done) stands number is (inr wanting) store sessions sent agents halted =
    let e = wanting.0 in absurd cc
begun h f p q id (Err r) stands number is follows store sessions sent agents halted = absurd cc

pub begun_not : (h : List Entry) (f : Filter) (p : Parts) (m : Watchings) (r : Refusal) (result : Result Reply NoMemory) →
    StandsFor p (replay h) → Begins h f p.watches (Err r) m → Tells r result →
    Replies h (what.Call (call.WatchBegin f)) result (record p { watches = m })
begun_not h f p m r result stands (inl follows) tells =
    let w = replay h in
    refused-so h (call.WatchBegin f) p m r result
    (begun-not p w (w.entries + 1) f (nat_le most_watchers (length w.watchers)) r stands.has follows.0) follows.0 follows.1
    tells
begun_not h f p m r result stands (inr wanting) tells =
    wanted-so h (call.WatchBegin f) p m r result stands (wanting-is r wanting.0) wanting.1 tells

-- Polls.

pub polled_events : (h : List Entry) (id : ℕ) (p : Parts) (m : Watchings) (events : List Event) → StandsFor p (replay h) →
    MayAnswerAsWorld reply.Events (step (replay h) (what.Call (call.WatchPoll id))) p.watches (Ok events) m →
    (reply.Events events ≡ (step (replay h) (what.Call (call.WatchPoll id))).reply)
    × StandsFor (record p { watches = m }) (step (replay h) (what.Call (call.WatchPoll id))).after
polled_events h id p m events stands (inl follows) =
    let w = replay h in
    let passes = poll-passes p w (w.entries + 1) id (row_at watcher_id id w.watchers) stands.has in (
      follows.0,
      record {
        has = record {
          records = passes.has.records;
          sent = passes.has.sent;
          agents = passes.has.agents;
          halted = passes.has.halted;
        };
        watches = follows.1;
      },
    )
polled_events h id p m events stands (inr wanting) = let e = wanting.0 in absurd cc

pub polled_not : (h : List Entry) (id : ℕ) (p : Parts) (m : Watchings) (r : Refusal) (result : Result Reply NoMemory) →
    StandsFor p (replay h) →
    MayAnswerAsWorld reply.Events (step (replay h) (what.Call (call.WatchPoll id))) p.watches (Err r) m → Tells r result →
    Replies h (what.Call (call.WatchPoll id)) result (record p { watches = m })
polled_not h id p m r result stands (inl follows) tells =
    let w = replay h in
    refused-so h (call.WatchPoll id) p m r result
    (poll-passes p w (w.entries + 1) id (row_at watcher_id id w.watchers) stands.has) follows.0 follows.1 tells
polled_not h id p m r result stands (inr wanting) tells =
    wanted-so h (call.WatchPoll id) p m r result stands (wanting-is r wanting.0) wanting.1 tells

-- Leaving.

pub finished_follows : (h : List Entry) (id : ℕ) (p : Parts) (m : Watchings) (r : Reply) → StandsFor p (replay h) →
    r ≡ (step (replay h) (what.Call (call.WatchFinish id))).reply →
    Watch m (step (replay h) (what.Call (call.WatchFinish id))).after →
    (r ≡ (step (replay h) (what.Call (call.WatchFinish id))).reply)
    × StandsFor (record p { watches = m }) (step (replay h) (what.Call (call.WatchFinish id))).after
finished_follows h id p m r stands said watches =
    let w = replay h in
    let passes = finish-passes p w id (row_at watcher_id id w.watchers) stands.has in (
      said,
      record {
        has = record {
          records = passes.has.records;
          sent = passes.has.sent;
          agents = passes.has.agents;
          halted = passes.has.halted;
        };
        watches = watches;
      },
    )

pub finished_not : (h : List Entry) (id : ℕ) (p : Parts) (m : Watchings) (r : Refusal) (result : Result Reply NoMemory) →
    StandsFor p (replay h) → reply.Refused r ≡ (step (replay h) (what.Call (call.WatchFinish id))).reply →
    Watch m (step (replay h) (what.Call (call.WatchFinish id))).after → Tells r result →
    Replies h (what.Call (call.WatchFinish id)) result (record p { watches = m })
finished_not h id p m r result stands said watches tells =
    let w = replay h in
    refused-so h (call.WatchFinish id) p m r result
    (finish-passes p w id (row_at watcher_id id w.watchers) stands.has) said watches tells
