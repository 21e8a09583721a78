-- Transactions.
use Rattle.std.proofs.Common.{◌≡◌, ◌<◌, ◌+◌, ◌++◌, ◌∷◌, ◌∙◌, ℕ, Bool, true, false, cond, List, [], Ok, Err, Result, ap, inr, length, subst, sym}
use Rattle.std.proofs.lemmas.List.{map-append}
use Rattle.std.specs.Prelude.{map, nat_lt}
use Rattle.swarm_agent.specs.Times.{seen_agent}
use Rattle.swarm_model.proofs.Base.Answers.{given-is}
use Rattle.swarm_model.proofs.Laws.Orderly.{orderly-replay}
use Rattle.swarm_model.specs.Calls.Operations.{apply_ops}
use Rattle.swarm_model.specs.Calls.{txn, txn_answer}
use Rattle.swarm_model.specs.Changed.{changes_between}
use Rattle.swarm_model.specs.History.{IsLegal, replay}
use Rattle.swarm_model.specs.Outcome.{Answered}
use Rattle.swarm_objects.specs.Limits.{most_ops}
use Rattle.swarm_objects.specs.Bounds.{far_end}
use Rattle.swarm_objects.specs.Rows.{IsBelow, agent_node, sent_node, session_node}
use Rattle.swarm_model.proofs.Moves.Rows.{RisesBetween}
use Rattle.swarm_objects.specs.World.{Tables, World}
use Rattle.swarm_objects.specs.declared.agents.NodeAgent.{NodeAgent}
use Rattle.swarm_objects.specs.declared.calls.Call.TheVariants as call
use Rattle.swarm_objects.specs.declared.calls.Entry.{Entry}
use Rattle.swarm_objects.specs.declared.calls.Op.{Op}
use Rattle.swarm_objects.specs.declared.replies.Refusal.{Refusal}
use Rattle.swarm_objects.specs.declared.replies.Refusal.TheVariants as refusal
use Rattle.swarm_objects.specs.declared.replies.Reply.{Reply}
use Rattle.swarm_objects.specs.declared.replies.Reply.TheVariants as reply
use Rattle.swarm_objects.specs.declared.watches.Event.{Event}
use Rattle.swarm_store.specs.Stored.{StandsFor as Store}
use Rattle.swarm_watch.specs.Calls.{hears}
use Rattle.swarm_world.proofs.BesideOps.{beside-ops}
use Rattle.swarm_world.proofs.Arriving.{new-seen}
use Rattle.swarm_world.proofs.Dropping.{drops-seen}
use Rattle.swarm_world.proofs.Entering.{are_usable}
use Rattle.swarm_world.specs.Inside.BesideOps.{IsBeside, drops, new_agents}
use Rattle.swarm_world.specs.Inside.Parts.{Answers, HasHistory, HasParts, IsAnswered, IsAt, StandsFor}
use Rattle.swarm_world.specs.declared.parts.Parts.{Parts}

abbrev ids_in : Reply → List ℕ
ids_in (reply.Txn ids) = ids
ids_in _ = []

abbrev done_in : Answered → Result (World × List ℕ) Refusal
done_in (Ok d) = Ok (d.1, ids_in d.0)
done_in (Err r) = Err r

unpacked : (r : Refusal) (b : Bool) (done : Result (World × List ℕ) Refusal) (v : World) (ids : List ℕ) →
    cond b (Err r) (txn_answer done) ≡ Ok (reply.Txn ids, v) → done ≡ Ok (v, ids)
unpacked r true done v ids is = absurd cc
unpacked r false (Ok (u, js)) v ids is = ap done_in is
unpacked r false (Err x) v ids is = absurd cc

done-ops : (version : ℕ) (w v : World) (ops : List Op) (ids : List ℕ) → txn version w ops ≡ Ok (reply.Txn ids, v) →
    apply_ops version ops w [] ≡ Ok (v, ids)
done-ops version w v ops ids e =
    unpacked (refusal.TooManyOps (length ops)) (nat_lt most_ops (length ops)) (apply_ops version ops w []) v ids e

-- what stands beside, where no agent is new
beside : (version : ℕ) (h : List Entry) (v : World) (ops : List Op) (ids : List ℕ) → IsLegal h →
    txn version (replay h) ops ≡ Ok (reply.Txn ids, v) → IsBeside (replay h) v ops ids
beside version h v ops ids legal e =
    let w = replay h in
    let all : (more : List ℕ) × (ids ≡ [] ++ more) × IsBeside w v ops more =
    given-is (λ (d : World × List ℕ). (more : List ℕ) × (d.1 ≡ [] ++ more) × IsBeside w d.0 ops more)
    (apply_ops version ops w []) (v, ids) (beside-ops version ops w [] (orderly-replay h legal))
    (done-ops version w v ops ids e) in
    subst (IsBeside w v ops) (sym all.1) all.2

-- the agents that came beforehand are among those of which some go
agents-after : (w v : World) (ops : List Op) (ids : List ℕ) →
    v.agents ≡ drops agent_node ops ids (w.agents ++ new_agents w.tables.next_id ops) →
    drops agent_node ops ids (map seen_agent w.agents ++ new_agents w.tables.next_id ops) ≡ map seen_agent v.agents
agents-after w v ops ids is =
    let new = new_agents w.tables.next_id ops in
    ap (λ (all : List NodeAgent). drops agent_node ops ids (map seen_agent w.agents ++ all))
    (sym (new-seen w.tables.next_id ops))
    ∙ ap (drops agent_node ops ids) (sym (map-append seen_agent w.agents new))
    ∙ drops-seen ops ids (w.agents ++ new)
    ∙ ap (map seen_agent) (sym is)

pub transacted : (version : ℕ) (h : List Entry) (ops : List Op) (ids : List ℕ) (told : List Event) (p q : Parts)
    (next : ℕ) (v : World) → IsAt version p h → next ≡ (replay h).tables.next_id →
    txn version (replay h) ops ≡ Ok (reply.Txn ids, v) → Store q.records.store v →
    told ≡ changes_between version (replay h).tables v.tables →
    q.records.sessions.rows ≡ drops session_node ops ids p.records.sessions.rows →
    q.sent ≡ drops sent_node ops ids p.sent → q.agents ≡ drops agent_node ops ids (p.agents ++ new_agents next ops) →
    q.halted ≡ p.halted → q.watches.watchers ≡ map (hears told) p.watches.watchers →
    IsAnswered version h (call.Txn ops) p (reply.Txn ids) q
transacted version h ops ids told p q next v is number done store events sessions sent agents halted heard =
    let w = replay h in
    let b = beside version h v ops ids is.legal done in
    let has = is.stands.has in
    record {
      world = v;
      answer_is = done;
      has = record {
        records = record {
          store = store;
          sessions = sessions ∙ ap (drops session_node ops ids) has.records.sessions ∙ sym b.sessions;
        };
        sent = sent ∙ ap (drops sent_node ops ids) has.sent ∙ sym b.sent;
        agents =
            agents
            ∙ ap (λ (all : List NodeAgent). drops agent_node ops ids (all ++ new_agents next ops)) has.agents
            ∙ ap (λ n. drops agent_node ops ids (map seen_agent w.agents ++ new_agents n ops)) number
            ∙ agents-after w v ops ids b.agents;
        halted = halted ∙ has.halted ∙ sym b.halted;
      };
      heard = heard ∙ ap (λ es. map (hears es) p.watches.watchers) events;
    }

-- What the agents that come beforehand ask for.

below-next : (n m : ℕ) (agents : List NodeAgent) → RisesBetween agent_node n m agents →
    IsBelow agent_node m (map seen_agent agents)
below-next n m [] rise = tt
below-next n m (a ∷ agents) rise = (rise.1, below-next (agent_node a + 1) m agents rise.2)

pub next-is : (p : Parts) (w : World) → HasParts p w → p.records.store.tables.next_id ≡ w.tables.next_id
next-is p w has = ap (λ (t : Tables). t.next_id) has.records.store

pub agents_below_next : (p : Parts) → HasHistory p →
    IsBelow agent_node p.records.store.tables.next_id p.agents
agents_below_next p is =
    let w = replay is.history in
    let has = is.stands.has in
    subst (λ n. IsBelow agent_node n p.agents) (sym (next-is p w has))
    (subst (IsBelow agent_node w.tables.next_id) (sym has.agents)
    (below-next 1 w.tables.next_id w.agents (orderly-replay is.history is.legal).agents))

pub few_ids : (p : Parts) → HasHistory p → p.records.store.tables.next_id < far_end
few_ids p is =
    let are = are_usable p is in
    subst (λ n. n < far_end) (sym (ap (λ (t : Tables). t.next_id) are.has.store)) are.usable.next_id

-- too many operations are refused before anything comes
pub too_many_ops : (version : ℕ) (h : List Entry) (ops : List Op) (p : Parts) → StandsFor p (replay h) →
    nat_lt most_ops (length ops) ≡ true →
    Answers version h (call.Txn ops) p (Err (refusal.TooManyOps (length ops))) p
too_many_ops version h ops p stands many = (
  inr (ap (λ (b : Bool). cond b (Err (refusal.TooManyOps (length ops)))
      (txn_answer (apply_ops version ops (replay h) []))) many),
  stands,
)

-- where nothing changed, they stand for the same world
pub still : (p q : Parts) (w : World) → StandsFor p w → q.records.store.tables ≡ p.records.store.tables →
    q.records.sessions.rows ≡ p.records.sessions.rows → q.watches.watchers ≡ p.watches.watchers → q.sent ≡ p.sent →
    q.agents ≡ p.agents → q.halted ≡ p.halted → StandsFor q w
still p q w stands store sessions watchers sent agents halted = record {
  has = record {
    records = record { store = store ∙ stands.has.records.store; sessions = sessions ∙ stands.has.records.sessions };
    sent = sent ∙ stands.has.sent;
    agents = agents ∙ stands.has.agents;
    halted = halted ∙ stands.has.halted;
  };
  watches = watchers ∙ stands.watches;
}
