-- An agent registers.
use Rattle.std.proofs.Common.{◌≡◌, ◌<◌, ◌∙◌, ℕ, List, ap, subst, sym}
use Rattle.std.specs.Prelude.{map}
use Rattle.swarm_agent.specs.Agents.{Changes}
use Rattle.swarm_model.specs.Changed.{changes_between}
use Rattle.swarm_model.specs.History.{replay, step}
use Rattle.swarm_objects.specs.Bounds.{far_end}
use Rattle.swarm_objects.specs.ChangeLists.{Makes, apply_changes}
use Rattle.swarm_objects.specs.Changes.{change_node, with_tables}
use Rattle.swarm_objects.specs.Loops.Agents.{after_register, begun, change_agent, without_sent}
use Rattle.swarm_objects.specs.Nodes.Sessions.{ready_node}
use Rattle.swarm_objects.specs.World.{Tables, World}
use Rattle.swarm_objects.specs.declared.calls.Entry.{Entry}
use Rattle.swarm_objects.specs.declared.calls.What.TheVariants as what
use Rattle.swarm_objects.specs.declared.duties.Duty.TheVariants as duty
use Rattle.swarm_objects.specs.declared.rows.Change.{Change}
use Rattle.swarm_watch.specs.Calls.{hears}
use Rattle.swarm_watch.specs.Worlds.{NotesLaw}
use Rattle.swarm_world.proofs.Recorded.{tables_are}
use Rattle.swarm_world.proofs.Stepping.{stepped_as}
use Rattle.swarm_world.specs.Inside.Beginnings.{begun_world, with_session}
use Rattle.swarm_world.specs.Inside.Parts.{HasParts, IsAt, StandsFor}
use Rattle.swarm_world.specs.Inside.Records.{tables_of}
use Rattle.swarm_world.specs.declared.parts.Parts.{Parts}

-- that the node is READY takes no id
pub next_still : (version node : ℕ) (t : Tables) (cs : List Change) →
    Makes t cs (change_node node (ready_node version) t) → t.next_id < far_end →
    (apply_changes t cs).next_id < far_end
next_still version node t cs makes near =
    subst (λ k. k < far_end) (sym (ap (λ (u : Tables). u.next_id) makes.gives)) near

begun-is : (version node : ℕ) (w : World) (cs : List Change) →
    apply_changes w.tables cs ≡ change_node node (ready_node version) w.tables →
    change_agent node begun (begun_world node cs w) ≡ after_register version w node
begun-is version node w cs gives =
    ap (λ (t : Tables). change_agent node begun (without_sent node (with_tables w (with_session node t)))) gives

-- its session began, and it begins anew
pub registered_by : (notes : NotesLaw) (version : ℕ) (h : List Entry) (node : ℕ) (p m q : Parts) (cs : List Change) →
    IsAt version p h →
    Makes (tables_of p.records) cs (change_node node (ready_node version) (tables_of p.records)) →
    HasParts m (begun_world node cs (replay h)) →
    m.watches.watchers
    ≡ map (hears (changes_between version (replay h).tables (apply_changes (replay h).tables cs))) p.watches.watchers →
    Changes node begun m.agents q.agents → q.records ≡ m.records → q.watches ≡ m.watches → q.sent ≡ m.sent →
    q.halted ≡ m.halted → StandsFor q (step (replay h) (what.Duty (duty.Register node))).after
registered_by notes version h node p m q cs is makes has heard changed records watches sent halted =
    let w = replay h in
    let u = begun_world node cs w in
    let gives : apply_changes w.tables cs ≡ change_node node (ready_node version) w.tables =
    subst (λ (t : Tables). apply_changes t cs ≡ change_node node (ready_node version) t)
    (tables_are p.records w is.stands.has.records) makes.gives in
    stepped_as notes version h (duty.Register node) (change_agent node begun u) p q is
    (begun-is version node w cs gives)
    (record {
      records = record {
        store = ap (λ r. r.store.tables) records ∙ has.records.store;
        sessions = ap (λ r. r.sessions.rows) records ∙ has.records.sessions;
      };
      sent = sent ∙ has.sent;
      agents = changed u.agents has.agents;
      halted = halted ∙ has.halted;
    })
    (ap (λ watchings. watchings.watchers) watches ∙ heard)
