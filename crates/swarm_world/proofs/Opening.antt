-- Sessions of remote nodes that begin.
use Rattle.std.proofs.Common.{◌≡◌, ◌<◌, ◌+◌, ◌*◌, ◌∙◌, ℕ, List, Ok, Option, None, ap, refl, subst, sym}
use Rattle.std.specs.Prelude.{find, map}
use Rattle.swarm_model.specs.Calls.Refusals.{bad_spec}
use Rattle.swarm_model.specs.Calls.Remote.{begin_with, begun_reply, begun_tables, given_or}
use Rattle.swarm_model.specs.Changed.{changes_between}
use Rattle.swarm_model.specs.History.{replay}
use Rattle.swarm_model.specs.Outcome.{Answered}
use Rattle.swarm_objects.specs.Bounds.{far_end}
use Rattle.swarm_objects.specs.ChangeLists.{Makes, apply_changes}
use Rattle.swarm_objects.specs.Changes.{with_tables}
use Rattle.swarm_objects.specs.Loops.Agents.{without_sent}
use Rattle.swarm_objects.specs.Nodes.Opening.{tasks_within, with_resources}
use Rattle.swarm_objects.specs.Refusals.{unless}
use Rattle.swarm_objects.specs.Rows.{change_row, node_id}
use Rattle.swarm_objects.specs.Rules.Nodes.{resource_rules, resources_break}
use Rattle.swarm_objects.specs.World.{Tables, World}
use Rattle.swarm_objects.specs.declared.calls.Call.TheVariants as call
use Rattle.swarm_objects.specs.declared.calls.Entry.{Entry}
use Rattle.swarm_objects.specs.declared.nodes.Node.{Node}
use Rattle.swarm_objects.specs.declared.replies.Reply.TheVariants as reply
use Rattle.swarm_objects.specs.declared.rows.Change.{Change}
use Rattle.swarm_objects.specs.declared.rules.SpecRule.{SpecRule}
use Rattle.swarm_watch.specs.Calls.{hears}
use Rattle.swarm_world.proofs.Looking.{on-outside}
use Rattle.swarm_world.proofs.RemoteCalls.{deadline-is, outside-in}
use Rattle.swarm_world.proofs.Recorded.{tables_are}
use Rattle.swarm_world.proofs.Transacting.{few_ids}
use Rattle.swarm_world.specs.Inside.Beginnings.{begun_world, with_session}
use Rattle.swarm_world.specs.Inside.Lookups.{outside}
use Rattle.swarm_world.specs.Inside.Parts.{HasHistory, HasParts, IsAnswered, StandsFor}
use Rattle.swarm_world.specs.Inside.Records.{tables_of}
use Rattle.swarm_world.specs.declared.parts.Parts.{Parts}

-- the rows where the node has these resources
abbrev pub equipped : ℕ → ℕ → ℕ → ℕ → Tables → Tables
equipped version node cpu mem t = record t {
  nodes = change_row node_id node (with_resources version cpu mem) t.nodes;
  tasks = tasks_within version t.clock node cpu mem t.tasks;
}

equipped-world : (version : ℕ) (p : Parts) (w : World) (node cpu mem : ℕ) (cs : List Change) → HasParts p w →
    Makes (tables_of p.records) cs (equipped version node cpu mem (tables_of p.records)) →
    equipped version node cpu mem w.tables ≡ apply_changes w.tables cs
equipped-world version p w node cpu mem cs has makes =
    let same = tables_are p.records w has.records in
    ap (equipped version node cpu mem) (sym same) ∙ sym makes.gives ∙ ap (λ (t : Tables). apply_changes t cs) same

-- and its next id is small
pub opening_near : (version : ℕ) (p : Parts) (node cpu mem : ℕ) (cs : List Change) → HasHistory p →
    Makes (tables_of p.records) cs (equipped version node cpu mem (tables_of p.records)) →
    (apply_changes (tables_of p.records) cs).next_id < far_end
opening_near version p node cpu mem cs is makes =
    subst (λ k. k < far_end) (sym (ap (λ (t : Tables). t.next_id) makes.gives)) (few_ids p is)

-- the world in which the session began
begins-world : (version : ℕ) (w : World) (node cpu mem : ℕ) (cs : List Change) →
    equipped version node cpu mem w.tables ≡ apply_changes w.tables cs →
    without_sent node (with_tables w (begun_tables version w.tables node cpu mem)) ≡ begun_world node cs w
begins-world version w node cpu mem cs same =
    ap (λ (t : Tables). without_sent node (with_tables w (with_session node t))) same

abbrev begin_next : ℕ → World → Option ℕ → Option ℕ → Node → Answered
begin_next version w cpu mem n = begin_with version w n.id (given_or cpu n.cpu) (given_or mem n.mem)

pub opening : (version : ℕ) (h : List Entry) (name : List ℕ) (given_cpu given_mem : Option ℕ) (n : Node) (cpu mem : ℕ)
    (cs : List Change) (session deadline : ℕ) (p q : Parts) → StandsFor p (replay h) →
    outside (tables_of p.records) name ≡ Ok n → cpu ≡ given_or given_cpu n.cpu → mem ≡ given_or given_mem n.mem →
    None ≡ find (resources_break cpu mem) resource_rules →
    Makes (tables_of p.records) cs (equipped version n.id cpu mem (tables_of p.records)) →
    deadline ≡ p.records.store.tables.clock + 3 * p.records.store.tables.settings.heartbeat →
    session ≡ (apply_changes (replay h).tables cs).next_id → HasParts q (begun_world n.id cs (replay h)) →
    q.watches.watchers
    ≡ map (hears (changes_between version (replay h).tables (apply_changes (replay h).tables cs))) p.watches.watchers →
    IsAnswered version h (call.RemoteBegin name given_cpu given_mem) p (reply.SessionBegun session deadline) q
opening version h name given_cpu given_mem n cpu mem cs session deadline p q stands there is-cpu is-mem rules makes ends
    number has heard =
    let w = replay h in
    let done = without_sent n.id (with_tables w (begun_tables version w.tables n.id cpu mem)) in
    let until : deadline ≡ w.tables.clock + 3 * w.tables.settings.heartbeat =
    ends
    ∙ deadline-is p w p.records.store.tables.clock p.records.store.tables.settings.heartbeat stands.has refl refl in
    let came = equipped-world version p w n.id cpu mem cs stands.has makes in
    let first : session ≡ w.tables.next_id = number ∙ sym (ap (λ (t : Tables). t.next_id) came) in
    let after = begun_world n.id cs w in
    record {
      world = after;
      answer_is =
          on-outside w.tables name n (begin_next version w given_cpu given_mem) (outside-in p w name n stands.has there)
          ∙ ap (λ k. begin_with version w n.id k (given_or given_mem n.mem)) (sym is-cpu)
          ∙ ap (λ k. begin_with version w n.id cpu k) (sym is-mem)
          ∙ ap (λ (o : Option SpecRule). unless (bad_spec o) (begun_reply w.tables, done)) (sym rules)
          ∙ ap (λ (v : World). Ok (begun_reply w.tables, v))
          (begins-world version w n.id cpu mem cs came)
          ∙ ap (λ k. Ok (reply.SessionBegun k (w.tables.clock + 3 * w.tables.settings.heartbeat), after)) (sym first)
          ∙ ap (λ k. Ok (reply.SessionBegun session k, after)) (sym until);
      has = has;
      heard = heard;
    }
