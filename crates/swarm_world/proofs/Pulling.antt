-- An agent is sent a message.
use Rattle.std.proofs.Common.{◌≡◌, ◌<◌, ◌+◌, ◌&&◌, ◌∙◌, ℕ, List, None, Option, Some, ap, arith, refl, subst, sym, true}
use Rattle.std.proofs.lemmas.Bool.Decides.{nat_tests}
use Rattle.std.specs.List.{list_all}
use Rattle.std.specs.Prelude.{map}
use Rattle.swarm_agent.specs.Agents.{Changes}
use Rattle.swarm_assign.specs.Sents.{after_message, sent_count}
use Rattle.swarm_model.proofs.Laws.Small.{IsSmall-replay, in-time-replay}
use Rattle.swarm_model.proofs.Laws.Timely.{IsShortEnd, Where, timely-replay}
use Rattle.swarm_model.proofs.Laws.TimelyAgents.{IsCountedMessage, IsShortChange, message-counted}
use Rattle.swarm_model.specs.Changed.{changes_between}
use Rattle.swarm_model.specs.History.{replay, step}
use Rattle.swarm_objects.proofs.RowLemmas.{Has-from_row_at}
use Rattle.swarm_objects.proofs.Tests.{all-pass, both, both_are, of-all}
use Rattle.swarm_objects.specs.Agents.Messages.{due_set, message_for, next_message, sent_of}
use Rattle.swarm_objects.specs.Bounds.{far_end, is_near, is_near_assigned, is_near_change, is_near_end, is_near_sent}
use Rattle.swarm_objects.specs.Loops.Agents.{after_pull, received}
use Rattle.swarm_objects.specs.Rows.{on_row, row_at, sent_node}
use Rattle.swarm_objects.specs.World.{Tables, World}
use Rattle.swarm_objects.specs.declared.calls.Entry.{Entry}
use Rattle.swarm_objects.specs.declared.calls.What.TheVariants as what
use Rattle.swarm_objects.specs.declared.duties.Duty.TheVariants as duty
use Rattle.swarm_objects.specs.declared.messages.AssignChange.{AssignChange}
use Rattle.swarm_objects.specs.declared.messages.AssignChange.TheVariants as assign
use Rattle.swarm_objects.specs.declared.messages.Assigned.{Assigned}
use Rattle.swarm_objects.specs.declared.messages.Message.{Message}
use Rattle.swarm_objects.specs.declared.messages.NodeSent.{NodeSent}
use Rattle.swarm_objects.specs.declared.templates.End.{End}
use Rattle.swarm_objects.specs.declared.templates.End.TheVariants as end
use Rattle.swarm_watch.specs.Calls.{hears}
use Rattle.swarm_watch.specs.Worlds.{NotesLaw}
use Rattle.swarm_world.proofs.OnNodes.{nothing-heard, stepped_by}
use Rattle.swarm_world.proofs.Recorded.{tables_are}
use Rattle.swarm_world.specs.Inside.Parts.{HasHistory, HasParts, StandsFor}
use Rattle.swarm_world.specs.Inside.Records.{tables_of}
use Rattle.swarm_world.specs.declared.parts.Parts.{Parts}

-- The message, as the world has it.

pub message_is : (p : Parts) (w : World) (node : ℕ) (due : List Assigned) (o : Option Message) → StandsFor p w →
    due ≡ due_set (tables_of p.records) node → o ≡ next_message (row_at sent_node node p.sent) due →
    message_for w node ≡ o
message_is p w node due o stands set next =
    sym (next
    ∙ ap (λ (sent : List NodeSent). next_message (row_at sent_node node sent) due) stands.has.sent
    ∙ ap (next_message (sent_of w node))
    (set ∙ ap (λ (t : Tables). due_set t node) (tables_are p.records w stands.has.records)))

-- What was sent to a node is counted by few numbers.

few-sent : (o : Option NodeSent) → ((s : NodeSent) → o ≡ Some s → is_near_sent s ≡ true) →
    on_row 0 (λ s. s.count) o < far_end
few-sent None each = omega arith
few-sent (Some s) each =
    let near = (both_are (is_near s.count) (list_all is_near_assigned s.tasks) (each s refl)).0 in
    grind (arith, nat_tests, near)

pub few_sent : (p : Parts) → HasHistory p → (node : ℕ) → sent_count node p.sent < far_end
few_sent p is node =
    let w = replay is.history in
    subst (λ (sent : List NodeSent). sent_count node sent < far_end) (sym is.stands.has.sent)
    (few-sent (row_at sent_node node w.sent)
    (λ s e. of-all is_near_sent w.sent s (IsSmall-replay is.history is.legal).sent
    (Has-from_row_at sent_node node w.sent s e).0))

-- The times of a message are near.

near : (n : ℕ) → n < far_end → is_near n ≡ true
near n less = grind (arith, nat_tests, less)

near-end : (x : End) → IsShortEnd x → is_near_end x ≡ true
near-end end.Never is = refl
near-end (end.Exit time code) is = near time (omega (arith, is))
near-end end.Reject is = refl

near-change : (c : AssignChange) → IsShortChange c → is_near_change c ≡ true
near-change (assign.Update a) is =
    let w = a.workload in
    both (is_near w.prepare && is_near w.start && is_near w.stop) (is_near_end w.end)
    (both (is_near w.prepare && is_near w.start) (is_near w.stop)
    (both (is_near w.prepare) (is_near w.start) (near w.prepare (omega (arith, is.prepare)))
    (near w.start (omega (arith, is.start))))
    (near w.stop (omega (arith, is.stop)))) (near-end w.end is.end)
near-change (assign.Remove task) is = refl

pub near_message : (p : Parts) → HasHistory p → (node : ℕ) (due : List Assigned) (o : Option Message) (m : Message) →
    o ≡ Some m → due ≡ due_set (tables_of p.records) node → o ≡ next_message (row_at sent_node node p.sent) due →
    list_all is_near_change m.changes ≡ true
near_message p is node due o m there set next =
    let h = is.history in
    let w = replay h in
    let counted =
    message-counted w.tables.clock w.entries w node (timely-replay h is.legal) (in-time-replay h is.legal) in
    let its : IsCountedMessage (w.entries + 1) m =
    subst (Where (IsCountedMessage (w.entries + 1))) (message_is p w node due o is.stands set next ∙ there) counted in
    all-pass is_near_change m.changes (λ c has. near-change c (its.changes c has))

-- The entry.

pub pulled_none : (notes : NotesLaw) (h : List Entry) (node : ℕ) (o : Option Message) (p q : Parts)
    (due : List Assigned) → o ≡ None → StandsFor p (replay h) → due ≡ due_set (tables_of p.records) node →
    o ≡ next_message (row_at sent_node node p.sent) due → q.sent ≡ after_message node due o p.sent →
    q.records ≡ p.records → q.watches ≡ p.watches → q.agents ≡ p.agents → q.halted ≡ p.halted →
    StandsFor q (step (replay h) (what.Duty (duty.Pull node))).after
pulled_none notes h node o p q due none stands set next sent records watches agents halted =
    let w = replay h in
    let k = w.entries + 1 in
    let has = stands.has in
    let made : w ≡ after_pull w node (message_for w node) =
    sym (ap (after_pull w node) (message_is p w node due o stands set next ∙ none)) in
    let now : HasParts q w =
    record {
      records = record {
        store = ap (λ r. r.store.tables) records ∙ has.records.store;
        sessions = ap (λ r. r.sessions.rows) records ∙ has.records.sessions;
      };
      sent = sent ∙ ap (λ (x : Option Message). after_message node due x p.sent) none ∙ has.sent;
      agents = agents ∙ has.agents;
      halted = halted ∙ has.halted;
    } in
    stepped_by notes h (duty.Pull node) p q stands (subst (HasParts q) made now)
    (nothing-heard k w q.watches p.watches stands.watches watches
    ∙ ap (λ (x : World). map (hears (changes_between k w.tables x.tables)) p.watches.watchers) made)

pub pulled_some : (notes : NotesLaw) (h : List Entry) (node : ℕ) (o : Option Message) (m : Message) (p q : Parts)
    (due : List Assigned) → o ≡ Some m → StandsFor p (replay h) → due ≡ due_set (tables_of p.records) node →
    o ≡ next_message (row_at sent_node node p.sent) due → q.sent ≡ after_message node due o p.sent →
    Changes node (received m) p.agents q.agents → q.records ≡ p.records → q.watches ≡ p.watches → q.halted ≡ p.halted →
    StandsFor q (step (replay h) (what.Duty (duty.Pull node))).after
pulled_some notes h node o m p q due there stands set next sent changed records watches halted =
    let w = replay h in
    let k = w.entries + 1 in
    let has = stands.has in
    let v = after_pull w node (Some m) in
    let made : v ≡ after_pull w node (message_for w node) =
    sym (ap (after_pull w node) (message_is p w node due o stands set next ∙ there)) in
    let now : HasParts q v =
    record {
      records = record {
        store = ap (λ r. r.store.tables) records ∙ has.records.store;
        sessions = ap (λ r. r.sessions.rows) records ∙ has.records.sessions;
      };
      sent =
          sent
          ∙ ap (λ (x : Option Message). after_message node due x p.sent) there
          ∙ ap (λ (tasks : List Assigned). after_message node tasks (Some m) p.sent)
          (set ∙ ap (λ (t : Tables). due_set t node) (tables_are p.records w has.records))
          ∙ ap (after_message node (due_set w.tables node) (Some m)) has.sent;
      agents = changed w.agents has.agents;
      halted = halted ∙ has.halted;
    } in
    stepped_by notes h (duty.Pull node) p q stands (subst (HasParts q) made now)
    (nothing-heard k w q.watches p.watches stands.watches watches
    ∙ ap (λ (x : World). map (hears (changes_between k w.tables x.tables)) p.watches.watchers) made)
