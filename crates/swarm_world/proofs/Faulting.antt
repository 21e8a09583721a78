-- Faults of nodes whose agents are inside.
use Rattle.std.proofs.Common.{◌≡◌, ◌∙◌, ℕ, Bool, true, false, cond, List, Ok, Err, Option, Some, None, ap, inl, inr, sym}
use Rattle.swarm_agent.specs.Agents.{Changes}
use Rattle.swarm_model.proofs.Watching.Changes.{changes-none}
use Rattle.swarm_model.specs.Calls.Faults.{on_agent}
use Rattle.swarm_model.specs.Calls.Refusals.{found, node_by}
use Rattle.swarm_model.specs.Calls.{answer}
use Rattle.swarm_model.specs.Changed.{changes_between}
use Rattle.swarm_model.specs.History.{replay}
use Rattle.swarm_model.specs.Outcome.{Answered, Gets}
use Rattle.swarm_objects.specs.Loops.Agents.{change_agent}
use Rattle.swarm_objects.specs.World.{Tables, World}
use Rattle.swarm_objects.specs.declared.agents.NodeAgent.{NodeAgent}
use Rattle.swarm_objects.specs.declared.calls.Call.{Call}
use Rattle.swarm_objects.specs.declared.calls.Entry.{Entry}
use Rattle.swarm_objects.specs.declared.ids.Kind.TheVariants as kind
use Rattle.swarm_objects.specs.declared.nodes.Node.{Node}
use Rattle.swarm_objects.specs.declared.replies.Refusal.{Refusal}
use Rattle.swarm_objects.specs.declared.replies.Refusal.TheVariants as refusal
use Rattle.swarm_objects.specs.declared.replies.Reply.TheVariants as reply
use Rattle.swarm_objects.specs.declared.replies.Wanted.TheVariants as wanted_by
use Rattle.swarm_watch.specs.Watchings.{Watchings}
use Rattle.swarm_world.proofs.Answering.{unheard}
use Rattle.swarm_world.specs.Inside.Lookups.{inside}
use Rattle.swarm_world.specs.Inside.Parts.{Answers, IsAnswered, StandsFor}
use Rattle.swarm_world.specs.declared.parts.Parts.{Parts}

-- The node that is looked up is the one that is changed.

abbrev changing : (NodeAgent → NodeAgent) → World → Node → Answered
changing change w n =
    cond n.remote (Err (refusal.WrongKind n.id)) (Ok (reply.AgentDone n.id, change_agent n.id change w))

changes-here : (name : List ℕ) (change : NodeAgent → NodeAgent) (w : World) (o : Option Node) (node : ℕ) →
    found kind.Node (wanted_by.Name name) o (λ n. cond n.remote (Err (refusal.WrongKind n.id)) (Ok n.id)) ≡ Ok node →
    found kind.Node (wanted_by.Name name) o (changing change w)
    ≡ Ok (reply.AgentDone node, change_agent node change w)
changes-here name change w None node e = absurd cc
changes-here name change w (Some n) node e = go n.remote e
  where
    go : (b : Bool) → cond b (Err (refusal.WrongKind n.id)) (Ok n.id) ≡ Ok node →
        ◌≡◌ {A = Answered} (cond b (Err (refusal.WrongKind n.id)) (Ok (reply.AgentDone n.id, change_agent n.id change w)))
        (Ok (reply.AgentDone node, change_agent node change w))
    go true e = absurd cc
    go false e =
        let same : n.id ≡ node = cc in ap (λ (id : ℕ). Ok (reply.AgentDone id, change_agent id change w)) same

refused-here : (name : List ℕ) (change : NodeAgent → NodeAgent) (w : World) (o : Option Node) (r : Refusal) →
    found kind.Node (wanted_by.Name name) o (λ n. cond n.remote (Err (refusal.WrongKind n.id)) (Ok n.id)) ≡ Err r →
    found kind.Node (wanted_by.Name name) o (changing change w) ≡ Err r
refused-here name change w None r e =
    let same : refusal.NotFound kind.Node (wanted_by.Name name) ≡ r = cc in ap (λ (x : Refusal). Err x) same
refused-here name change w (Some n) r e = go n.remote e
  where
    go : (b : Bool) → cond b (Err (refusal.WrongKind n.id)) (Ok n.id) ≡ Err r →
        ◌≡◌ {A = Answered} (cond b (Err (refusal.WrongKind n.id)) (Ok (reply.AgentDone n.id, change_agent n.id change w))) (Err r)
    go true e = let same : refusal.WrongKind n.id ≡ r = cc in ap (λ (x : Refusal). Err x) same
    go false e = absurd cc

-- Calls.

pub faulted : (version : ℕ) (h : List Entry) (c : Call) (name : List ℕ) (change : NodeAgent → NodeAgent) (p q : Parts)
    (node : ℕ) → StandsFor p (replay h) → answer version (replay h) c ≡ on_agent (replay h) name change →
    inside p.records.store.tables name ≡ Ok node → Changes node change p.agents q.agents → q.records ≡ p.records →
    q.watches ≡ p.watches → q.sent ≡ p.sent → q.halted ≡ p.halted → IsAnswered version h c p (reply.AgentDone node) q
faulted version h c name change p q node stands is there changed records watches sent halted =
    let w = replay h in
    let has = stands.has in
    record {
      world = change_agent node change w;
      answer_is =
          is ∙ changes-here name change w (node_by w.tables name) node
          (ap (λ (t : Tables). inside t name) (sym has.records.store) ∙ there);
      has = record {
        records = record {
          store = ap (λ r. r.store.tables) records ∙ has.records.store;
          sessions = ap (λ r. r.sessions.rows) records ∙ has.records.sessions;
        };
        sent = sent ∙ has.sent;
        agents = changed w.agents has.agents;
        halted = halted ∙ has.halted;
      };
      heard =
          ap (λ (m : Watchings). m.watchers) watches
          ∙ unheard (changes_between version w.tables w.tables) w p.watches stands.watches (changes-none version w.tables);
    }

pub not_faulted : (version : ℕ) (h : List Entry) (c : Call) (name : List ℕ) (change : NodeAgent → NodeAgent) (p : Parts)
    (r : Refusal) → StandsFor p (replay h) → answer version (replay h) c ≡ on_agent (replay h) name change →
    Gets (inside p.records.store.tables name) (Err r) → Answers version h c p (Err r) p
not_faulted version h c name change p r stands is (inl wanting) = (inl wanting, stands)
not_faulted version h c name change p r stands is (inr refused) =
    let w = replay h in (
      inr (is ∙ refused-here name change w (node_by w.tables name) r
          (ap (λ (t : Tables). inside t name) (sym stands.has.records.store) ∙ refused)),
      stands,
    )
