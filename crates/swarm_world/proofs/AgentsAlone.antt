-- A duty of the agents' loop leaves the agents of all other nodes as they were, and shows them no more.
use Rattle.std.proofs.Common.{◌≡◌, ◌∙◌, ◌∷◌, ℕ, Bool, true, false, cond, eqb, List, [], Option, Some, None, ap, arith, not, refl, subst, sym}
use Rattle.std.proofs.lemmas.Bool.Decides.{nat_tests}
use Rattle.std.specs.Option.{option_map}
use Rattle.std.specs.Prelude.{◌==◌, is_some}
use Rattle.swarm_model.specs.History.{effect}
use Rattle.swarm_objects.proofs.Hearing.{row_at-change_row}
use Rattle.swarm_objects.proofs.RowChanges.{row_at-with_row}
use Rattle.swarm_objects.proofs.RowLemmas.{Has-map_cases}
use Rattle.swarm_objects.specs.Agents.Messages.{due_set, next_message}
use Rattle.swarm_objects.specs.Loops.Agents.{after_pull, begun, beaten, received, take_in}
use Rattle.swarm_objects.specs.Nodes.Sessions.{new_session}
use Rattle.swarm_objects.specs.Rows.{Has, agent_node, change_row, drop_row, row_at, sent_node, session_node, with_row}
use Rattle.swarm_objects.specs.World.{World}
use Rattle.swarm_objects.specs.declared.agents.NodeAgent.{NodeAgent}
use Rattle.swarm_objects.specs.declared.duties.Duty.TheVariants as duty
use Rattle.swarm_objects.specs.declared.messages.Message.{Message}
use Rattle.swarm_objects.specs.declared.messages.NodeSent.{NodeSent}
use Rattle.swarm_world.proofs.AgentsShown.{ShowsNoMore, same-tables}

-- each agent of another node after a step was there before it, and is shown no more
pub record TurnsAlone (w v : World) (node : ℕ) : Type 0 where
  pub other : (a : NodeAgent) → Has v.agents a → (a.node ≡ node → ⊥) → Has w.agents a × ShowsNoMore v w a

-- Rows of other nodes.

apart : (node other : ℕ) → (other ≡ node → ⊥) → eqb node other ≡ false
apart node other away = go (eqb node other) refl
  where
    go : (b : Bool) → eqb node other ≡ b → b ≡ false
    go true is = absurd (away (grind (arith, nat_tests)))
    go false is = refl

-- of one row that changes, no other one
changed-other : {X : Type 0} (key : X → ℕ) (id : ℕ) (f : X → X) (rows : List X) (x : X) →
    ((y : X) → key (f y) ≡ key y) → Has (change_row key id f rows) x → (key x ≡ id → ⊥) → Has rows x
changed-other {X} key id f rows x keeps h away =
    let from = Has-map_cases (λ y. cond (key y == id) (f y) y) rows x h in
    go from.0 from.1 (key from.0 == id) refl from.2
  where
    go : (y : X) → Has rows y → (b : Bool) → (key y == id) ≡ b → cond b (f y) y ≡ x → Has rows x
    go y there true is e =
        let at : key y ≡ id = grind (arith, nat_tests) in
        absurd (away (sym (ap key e) ∙ keeps y ∙ at))
    go y there false is e = subst (Has rows) e there

row_at-left_other : {X : Type 0} (key : X → ℕ) (id at : ℕ) (rows : List X) → (at ≡ id → ⊥) →
    row_at key at (drop_row key id rows) ≡ row_at key at rows
row_at-left_other key id at [] away = refl
row_at-left_other key id at (x ∷ rows) away =
    go (eqb (key x) id) refl (eqb (key x) at) refl (row_at-left_other key id at rows away)
  where
    go : (b : Bool) → eqb (key x) id ≡ b → (c : Bool) → eqb (key x) at ≡ c →
        row_at key at (drop_row key id rows) ≡ row_at key at rows →
        row_at key at (cond (not b) (x ∷ drop_row key id rows) (drop_row key id rows))
        ≡ cond c (Some x) (row_at key at rows)
    go true here true there rest =
        absurd (away (let one : key x ≡ id = grind (arith, nat_tests, here) in
        let two : key x ≡ at = grind (arith, nat_tests, there) in sym two ∙ one))
    go true here false there rest = rest
    go false here c there rest =
        ap (λ b. cond b (Some x) (row_at key at (drop_row key id rows))) there ∙ ap (λ o. cond c (Some x) o) rest

row_at-with_other : {X : Type 0} (key : X → ℕ) (new : X) (at : ℕ) (rows : List X) → (at ≡ key new → ⊥) →
    row_at key at (with_row key new rows) ≡ row_at key at rows
row_at-with_other key new at rows away =
    row_at-with_row key at new rows ∙ ap (λ b. cond b (Some new) (row_at key at rows)) (apart (key new) at away)

row_at-changed_other : {X : Type 0} (key : X → ℕ) (id at : ℕ) (f : X → X) (rows : List X) →
    ((x : X) → key (f x) ≡ key x) → (at ≡ id → ⊥) → row_at key at (change_row key id f rows) ≡ row_at key at rows
row_at-changed_other key id at f rows keeps away =
    row_at-change_row key id at f rows keeps
    ∙ ap (λ b. cond b (option_map f (row_at key at rows)) (row_at key at rows)) (apart id at away)

-- One agent changes.

-- with nothing else
pub one-agent : (w v : World) (node : ℕ) (f : NodeAgent → NodeAgent) → ((a : NodeAgent) → (f a).node ≡ a.node) →
    v.agents ≡ change_row agent_node node f w.agents →
    ((a : NodeAgent) → (a.node ≡ node → ⊥) → ShowsNoMore v w a) → TurnsAlone w v node
one-agent w v node f keeps is shows = record {
  other = λ a there away. (
    changed-other agent_node node f w.agents a keeps (subst (λ rows. Has rows a) is there) away,
    shows a away,
  );
}

pub taken-node : (clock : ℕ) (inbox : Option Message) (a : NodeAgent) → (take_in clock inbox a).node ≡ a.node
taken-node clock None a = refl
taken-node clock (Some m) a = refl

pub register-alone : (w : World) (n : ℕ) → TurnsAlone w (effect w (duty.Register n)) n
register-alone w n =
    one-agent w (effect w (duty.Register n)) n begun (λ a. refl) refl
    (λ a away. record {
      clock = refl;
      heartbeat = refl;
      session = row_at-with_other session_node (new_session w.tables n) a.node w.tables.sessions away;
      message = subst (λ (o : Option NodeSent). is_some (next_message o (due_set w.tables a.node)) ≡ true)
          (row_at-left_other sent_node n a.node w.sent away);
      tasks = λ e there has. has;
    })

pub beat-alone : (w : World) (n : ℕ) → TurnsAlone w (effect w (duty.Beat n)) n
beat-alone w n = record {
  other = λ a there away. (
    there,
    record {
      clock = refl;
      heartbeat = refl;
      session = row_at-changed_other session_node n a.node (beaten w.tables) w.tables.sessions (λ s. refl) away;
      message = λ some. some;
      tasks = λ e is has. has;
    },
  );
}

pub pull-alone : (w v : World) (n : ℕ) (m : Option Message) → v.tables ≡ (after_pull w n m).tables →
    v.sent ≡ (after_pull w n m).sent → v.agents ≡ (after_pull w n m).agents → TurnsAlone w v n
pull-alone w v n None tables sent agents = record {
  other = λ a there away. (
    subst (λ rows. Has rows a) agents there,
    same-tables v w a tables (ap (λ rows. row_at sent_node a.node rows) sent),
  );
}
pull-alone w v n (Some m) tables sent agents =
    one-agent w v n (received m) (λ a. refl) agents
    (λ a away. same-tables v w a tables
    (ap (λ rows. row_at sent_node a.node rows) sent
    ∙ row_at-with_other sent_node (record { node = n; count = m.results_in; tasks = due_set w.tables n }) a.node w.sent
    away))
