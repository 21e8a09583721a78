-- What transactions that only make nodes leave of the marks.
use Rattle.std.proofs.Common.{◌≡◌, ◌∙◌, ◌+◌, ◌++◌, ◌⊎◌, ◌<◌, ◌≤◌, ◌∷◌, ◌^◌, ℕ, Bool, cond, eqb, false, true, List, [], None, Some, Err, Ok, Result, arith, ap, inl, inr, refl, subst, sym}
use Rattle.std.proofs.lemmas.Bool.Decides.{nat_tests}
use Rattle.std.specs.List.{list_all}
use Rattle.std.specs.Prelude.{length, map, nat_lt, not}
use Rattle.swarm_agent.specs.Times.{seen_agent}
use Rattle.swarm_model.proofs.Base.Answers.{OnGiven, given-unless}
use Rattle.swarm_model.proofs.Laws.Small.{IsSmall-replay}
use Rattle.swarm_model.proofs.Moves.Rows.{RisesBetween, between-has}
use Rattle.swarm_model.specs.Calls.Nodes.{create_node, with_agent_if}
use Rattle.swarm_model.specs.Calls.Operations.{apply_ops}
use Rattle.swarm_model.specs.Calls.{answered, txn_answer}
use Rattle.swarm_model.specs.History.{IsLegal, replay, step}
use Rattle.swarm_model.specs.Outcome.{Answered}
use Rattle.swarm_objects.proofs.RowLemmas.{Has-append_cases, Has-map, Has-map_cases}
use Rattle.swarm_objects.specs.Agents.NodeAgents.{new_agent}
use Rattle.swarm_objects.specs.Limits.{most_ops}
use Rattle.swarm_objects.specs.Loops.Agents.{agent_duties}
use Rattle.swarm_objects.specs.NewRows.{new_node}
use Rattle.swarm_objects.specs.Nodes.Words.{is_ready}
use Rattle.swarm_objects.specs.Rows.{Has, agent_node, node_id, row_at}
use Rattle.swarm_objects.specs.Usable.{IsUsable}
use Rattle.swarm_objects.specs.World.{Tables, World}
use Rattle.swarm_objects.specs.declared.agents.NodeAgent.{NodeAgent}
use Rattle.swarm_objects.specs.declared.calls.Call.TheVariants as call
use Rattle.swarm_objects.specs.declared.calls.Entry.{Entry}
use Rattle.swarm_objects.specs.declared.calls.Op.TheVariants as op
use Rattle.swarm_objects.specs.declared.calls.Op.{Op}
use Rattle.swarm_objects.specs.declared.calls.What.TheVariants as what
use Rattle.swarm_objects.specs.declared.messages.NodeSent.{NodeSent}
use Rattle.swarm_objects.specs.declared.nodes.Node.{Node}
use Rattle.swarm_objects.specs.declared.nodes.NodeDraft.{NodeDraft}
use Rattle.swarm_objects.specs.declared.replies.Refusal.TheVariants as refusal
use Rattle.swarm_objects.specs.declared.replies.Refusal.{Refusal}
use Rattle.swarm_settle.proofs.KnownCalls.{known-nodes-replay}
use Rattle.swarm_spans.specs.Services.Touches.{ServiceNodesLaw}
use Rattle.swarm_spans.proofs.Grown.{in-onwards}
use Rattle.swarm_spans.specs.Spans.{Covers, IsWider, has_duty, onwards}
use Rattle.swarm_spans.specs.TasksCovered.{HasNewNodes, NodesLaw, with_nodes}
use Rattle.swarm_spans.specs.declared.span.Span.{Span}
use Rattle.swarm_spans.specs.Timed.{TimedNodesLaw}
use Rattle.swarm_settle.specs.Asked.{may_wait}
use Rattle.swarm_world.proofs.Coming.{HasLeft, same-sent}
use Rattle.swarm_world.proofs.Entering.{are_usable}
use Rattle.swarm_world.proofs.KnownSteps.{nothing-known}
use Rattle.swarm_world.proofs.Marked.{agents-between}
use Rattle.swarm_world.proofs.Recorded.{tables_are, usable_rows}
use Rattle.swarm_world.specs.Inside.Known.{KnowsAll}
use Rattle.swarm_world.specs.Inside.Looks.{AreSpanned, is_restless, is_unsaid, looked_at, wants_message}
use Rattle.swarm_world.specs.Inside.Marks.{AreMarked, IsAfterCall, IsMarked, makes_node}
use Rattle.swarm_world.specs.Inside.Parts.{HasHistory, HasParts, StandsFor}
use Rattle.swarm_world.specs.Inside.Records.{tables_of}
use Rattle.swarm_world.specs.Inside.Spanned.{AreWiderFrom}
use Rattle.swarm_world.specs.declared.marks.Marks.{Marks}
use Rattle.swarm_world.specs.declared.parts.Parts.{Parts}

-- Nodes come.

-- nodes came with new ids, none of them READY, and agents of such nodes; and nothing else changed of what the marks are
-- about
pub record NodesCome (w v : World) : Type 0 where
  pub next_id : ℕ
  pub nodes : List Node
  pub tables : v.tables ≡ with_nodes next_id nodes w.tables
  pub sent : v.sent ≡ w.sent
  pub grows : w.tables.next_id ≤ next_id
  pub others : (id : ℕ) → (row_at node_id id nodes ≡ row_at node_id id w.tables.nodes) ⊎ (w.tables.next_id ≤ id)
  pub ready : (m : Node) → Has nodes m → is_ready m.state ≡ true → Has w.tables.nodes m
  pub agents : (a : NodeAgent) → Has v.agents a → Has w.agents a ⊎ (w.tables.next_id ≤ a.node)

none-come : (w v : World) → v.tables ≡ w.tables → v.sent ≡ w.sent → v.agents ≡ w.agents → NodesCome w v
none-come w v tables sent agents = record {
  next_id = w.tables.next_id;
  nodes = w.tables.nodes;
  tables = tables;
  sent = sent;
  grows = omega arith;
  others = λ id. inl refl;
  ready = λ m there ready. there;
  agents = λ a there. inl (subst (λ (all : List NodeAgent). Has all a) agents there);
}

come-then : (w v u : World) → NodesCome w v → NodesCome v u → NodesCome w u
come-then w v u a b =
    let next : v.tables.next_id ≡ a.next_id = ap (λ (t : Tables). t.next_id) a.tables in
    record {
      next_id = b.next_id;
      nodes = b.nodes;
      tables = b.tables ∙ ap (with_nodes b.next_id b.nodes) a.tables;
      sent = b.sent ∙ a.sent;
      grows = let one = a.grows in let two = b.grows in omega (arith, one, two, next);
      others = λ id. both id next (b.others id) (a.others id);
      ready = λ m there ready.
          a.ready m (subst (λ (t : Tables). Has t.nodes m) a.tables (b.ready m there ready)) ready;
      agents = λ x there.
          elim (b.agents x there) [
            | inl before ↦ a.agents x before
            | inr high ↦ inr (let one = a.grows in omega (arith, one, high, next))
          ];
    }
  where
    both : (id : ℕ) → v.tables.next_id ≡ a.next_id
        → ((row_at node_id id b.nodes ≡ row_at node_id id v.tables.nodes) ⊎ (v.tables.next_id ≤ id))
        → ((row_at node_id id a.nodes ≡ row_at node_id id w.tables.nodes) ⊎ (w.tables.next_id ≤ id))
        → (row_at node_id id b.nodes ≡ row_at node_id id w.tables.nodes) ⊎ (w.tables.next_id ≤ id)
    both id next (inl same) (inl before) =
        inl (same ∙ ap (λ (t : Tables). row_at node_id id t.nodes) a.tables ∙ before)
    both id next (inl same) (inr high) = inr high
    both id next (inr high) before = inr (let one = a.grows in omega (arith, one, high, next))

-- one more in the last place
last-row : (id : ℕ) (n : Node) (rows : List Node)
    → (row_at node_id id (rows ++ n ∷ []) ≡ row_at node_id id rows) ⊎ (n.id ≡ id)
last-row id n [] = own (eqb n.id id) refl
  where
    own : (b : Bool) → eqb n.id id ≡ b → (row_at node_id id (n ∷ []) ≡ None) ⊎ (n.id ≡ id)
    own true e = inr (grind (arith, nat_tests, e))
    own false e = inl (ap (λ b. cond b (Some n) None) e)
last-row id n (r ∷ rows) =
    elim (last-row id n rows) [
      | inl same ↦ inl (ap (λ o. cond (eqb r.id id) (Some r) o) same)
      | inr is ↦ inr is
    ]

last-agent : (b : Bool) (n : ℕ) (agents : List NodeAgent) (a : NodeAgent) → Has (with_agent_if b n agents) a
    → Has agents a ⊎ (n ≤ a.node)
last-agent false n agents a there = inl there
last-agent true n agents a there =
    elim (Has-append_cases agents (new_agent n ∷ []) a there) [
      | inl before ↦ inl before
      | inr one ↦ inr (own one)
    ]
  where
    own : Has (new_agent n ∷ []) a → n ≤ a.node
    own (inl is) = subst (λ (x : NodeAgent). n ≤ x.node) is (omega arith)
    own (inr none) = absurd none

one-comes : (version : ℕ) (w : World) (name : List ℕ) (draft : NodeDraft)
    → OnGiven (λ (done : World × ℕ). NodesCome w done.0)
    (create_node version w (new_node version w.tables.next_id name draft))
one-comes version w name draft =
    given-unless (λ (done : World × ℕ). NodesCome w done.0) _ _
    (λ e. record {
      next_id = w.tables.next_id + 1;
      nodes = w.tables.nodes ++ new ∷ [];
      tables = refl;
      sent = refl;
      grows = omega arith;
      others = λ id.
          elim (last-row id new w.tables.nodes) [ inl same ↦ inl same | inr is ↦ inr (omega (arith, is)) ];
      ready = λ m there ready. known m ready (Has-append_cases w.tables.nodes (new ∷ []) m there);
      agents = λ a there. last-agent (not draft.remote) w.tables.next_id w.agents a there;
    })
  where
    new : Node
    new = new_node version w.tables.next_id name draft

    known : (m : Node) → is_ready m.state ≡ true → Has w.tables.nodes m ⊎ Has (new ∷ []) m → Has w.tables.nodes m
    known m ready (inl before) = before
    known m ready (inr (inl is)) =
        let never : is_ready new.state ≡ true = subst (λ (k : Node). is_ready k.state ≡ true) (sym is) ready in
        absurd cc
    known m ready (inr (inr none)) = absurd none

abbrev AllCome : World → Result (World × List ℕ) Refusal → Type 0
AllCome w done = OnGiven (λ (d : World × List ℕ). NodesCome w d.0) done

after-one : (w v : World) (done : Result (World × List ℕ) Refusal) → NodesCome w v → AllCome v done → AllCome w done
after-one w v (Ok d) one all = come-then w v d.0 one all
after-one w v (Err r) one all = tt

after-each : (w : World) (one : Result (World × ℕ) Refusal) (next : World × ℕ → Result (World × List ℕ) Refusal)
    → OnGiven (λ (done : World × ℕ). NodesCome w done.0) one → ((d : World × ℕ) → AllCome d.0 (next d))
    → AllCome w (elim one [ Ok d ↦ next d | Err r ↦ Err r ])
after-each w (Ok d) next comes rest = after-one w d.0 (next d) comes (rest d)
after-each w (Err r) next comes rest = tt

all-come : (version : ℕ) (ops : List Op) (w : World) (ids : List ℕ) → list_all makes_node ops ≡ true
    → AllCome w (apply_ops version ops w ids)
all-come version [] w ids make = none-come w w refl refl refl
all-come version (op.CreateNode name draft ∷ ops) w ids make =
    after-each w (create_node version w (new_node version w.tables.next_id name draft))
    (λ done. apply_ops version ops done.0 (ids ++ done.1 ∷ [])) (one-comes version w name draft)
    (λ done. all-come version ops done.0 (ids ++ done.1 ∷ []) make)
all-come version (op.UpdateNode name asked labels r a ∷ ops) w ids make = absurd cc
all-come version (op.RemoveNode name force ∷ ops) w ids make = absurd cc
all-come version (op.CreateService name d ∷ ops) w ids make = absurd cc
all-come version (op.UpdateService name asked d ∷ ops) w ids make = absurd cc
all-come version (op.RemoveService name ∷ ops) w ids make = absurd cc
all-come version (op.RollbackService name asked ∷ ops) w ids make = absurd cc
all-come version (op.CreateNetwork name base bits ∷ ops) w ids make = absurd cc
all-come version (op.RemoveNetwork name ∷ ops) w ids make = absurd cc
all-come version (op.SetCluster settings ∷ ops) w ids make = absurd cc

-- The transaction.

abbrev AnswerComes : World → Answered → Type 0
AnswerComes w a = NodesCome w (answered w a).after

given-comes : (w : World) (done : Result (World × List ℕ) Refusal) → AllCome w done
    → AnswerComes w (txn_answer done)
given-comes w (Ok d) all = record {
  next_id = all.next_id;
  nodes = all.nodes;
  tables = all.tables;
  sent = all.sent;
  grows = all.grows;
  others = all.others;
  ready = all.ready;
  agents = all.agents;
}
given-comes w (Err r) all = none-come w (answered w (Err r)).after refl refl refl

made : (w : World) (ops : List Op) → list_all makes_node ops ≡ true
    → NodesCome w (step w (what.Call (call.Txn ops))).after
made w ops make = go (nat_lt most_ops (length ops))
  where
    go : (b : Bool)
        → AnswerComes w
        (cond b (Err (refusal.TooManyOps (length ops))) (txn_answer (apply_ops (w.entries + 1) ops w [])))
    go true = none-come w (answered w (Err (refusal.TooManyOps (length ops)))).after refl refl refl
    go false = given-comes w (apply_ops (w.entries + 1) ops w []) (all-come (w.entries + 1) ops w [] make)

-- The agents' spans.

-- each agent is one that was there, or of a new node
arrives : (p q : Parts) (w v : World) → HasLeft p q w v → NodesCome w v → (a : NodeAgent) → Has q.agents a
    → Has p.agents a ⊎ (w.tables.next_id ≤ a.node)
arrives p q w v has come a there =
    let of = Has-map_cases seen_agent v.agents a (subst (λ (all : List NodeAgent). Has all a) has.after.agents there) in
    elim (come.agents of.0 of.1) [
      | inl before ↦
          inl (subst (λ (all : List NodeAgent). Has all a) (sym has.before.agents)
          (subst (λ (b : NodeAgent). Has (map seen_agent w.agents) b) of.2 (Has-map seen_agent w.agents of.0 before)))
      | inr from ↦ inr (subst (λ (b : NodeAgent). w.tables.next_id ≤ b.node) of.2 from)
    ]

covers-new : (test : NodeAgent → Bool) (span wide : Span) (first high : ℕ) (old new : List NodeAgent)
    → IsWider wide span → IsWider wide (onwards first) → RisesBetween agent_node 1 high new → high < 2 ^ 60
    → ((a : NodeAgent) → Has new a → Has old a ⊎ (first ≤ a.node)) → Covers agent_node test span old
    → Covers agent_node test wide new
covers-new test span wide first high old new wider all rises near either covers = record {
  has = λ a there passes.
      elim (either a there) [
        | inl before ↦ wider.has a.node (covers.has a before passes)
        | inr from ↦
            let is = between-has agent_node 1 high new a rises there in
            all.has a.node (in-onwards first a.node high from is.1 near is.0)
      ];
}

-- The marks.

come-marked : (m n : Marks) (p q : Parts) (h : List Entry) (v : World) → IsLegal h → StandsFor p (replay h)
    → HasParts q v → HasHistory q → NodesCome (replay h) v → NodesLaw m.tasks n.tasks
    → ServiceNodesLaw m.services n.services → TimedNodesLaw (tables_of p.records).next_id m.timed n.timed
    → AreWiderFrom (tables_of p.records).next_id n.agents m.agents
    → ((t : Tables) → KnowsAll t n.known) → IsMarked m p → IsMarked n q
come-marked m n p q h v legal stands has is come tasks services timed agents known marked =
    let t = tables_of p.records in
    let u = with_nodes come.next_id come.nodes t in
    let before : t ≡ (replay h).tables = tables_are p.records (replay h) stands.has.records in
    let tables : tables_of q.records ≡ u =
    tables_are q.records v has.records ∙ come.tables ∙ ap (with_nodes come.next_id come.nodes) (sym before) in
    let usable = usable_rows p.records (are_usable p (record { history = h; legal = legal; stands = stands })) in
    let later : IsUsable u = subst IsUsable tables (usable_rows q.records (are_usable q is)) in
    let new : HasNewNodes t.next_id t come.nodes =
    subst (λ (z : Tables). HasNewNodes z.next_id z come.nodes) (sym before)
    (record {
      others = come.others;
      tasks = λ x k there on. (known-nodes-replay h legal x k there on).below;
      ready = come.ready;
    }) in
    let left : HasLeft p q (replay h) v = record { before = stands.has; after = has } in
    let sent = same-sent p q (replay h) v left come.sent in
    let high = (replay is.history).tables.next_id in
    let near = (IsSmall-replay is.history is.legal).next_id in
    let either : (a : NodeAgent) → Has q.agents a → Has p.agents a ⊎ (t.next_id ≤ a.node) = λ a there.
    subst (λ (z : Tables). Has p.agents a ⊎ (z.next_id ≤ a.node)) (sym before)
    (arrives p q (replay h) v left come a there) in
    record {
      rows =
          subst (AreMarked n) (sym tables)
          (record {
            tasks = tasks t.next_id t come.next_id come.nodes usable new marked.rows.tasks;
            services = services t come.next_id come.nodes usable marked.rows.services;
            timed = timed t come.next_id come.nodes later new marked.rows.timed;
            known = known u;
          });
      agents =
          subst (λ (z : Tables). AreSpanned (looked_at z q.sent) n.agents q.agents) (sym tables)
          (subst (λ (s : List NodeSent). AreSpanned (looked_at u s) n.agents q.agents) (sym sent)
          (record {
            duties =
                covers-new (has_duty (agent_duties (looked_at u p.sent))) m.agents.duties n.agents.duties t.next_id high
                p.agents q.agents agents.former.duties agents.duties (agents-between q is) near either
                (record { has = λ a there busy. marked.agents.duties.has a there busy });
            sleeps =
                covers-new (is_restless n.agents.wakes (looked_at u p.sent)) m.agents.duties n.agents.duties t.next_id high
                p.agents q.agents agents.former.duties agents.duties (agents-between q is) near either
                (subst (λ k. Covers agent_node (is_restless k (looked_at u p.sent)) m.agents.duties p.agents)
                (sym agents.former.wakes)
                (record { has = λ a there restless. marked.agents.sleeps.has a there restless }));
            tells =
                covers-new (wants_message (looked_at u p.sent)) m.agents.tells n.agents.tells t.next_id high p.agents
                q.agents agents.former.tells agents.tells (agents-between q is) near either
                (record { has = λ a there wants. marked.agents.tells.has a there wants });
            news =
                covers-new (is_unsaid (looked_at u p.sent)) m.agents.news n.agents.news t.next_id high p.agents
                q.agents agents.former.news agents.news (agents-between q is) near either
                (record { has = λ a there unsaid. marked.agents.news.has a there unsaid });
            waits =
                covers-new may_wait m.agents.waits n.agents.waits t.next_id high p.agents q.agents agents.former.waits
                agents.waits (agents-between q is) near either marked.agents.waits;
            steps = λ a there. nothing-known u.clock n.agents.steps a agents.steps;
          }));
    }

-- a transaction that makes nodes alone
pub nodes_marked : (m n : Marks) (ops : List Op) (p : Parts) (first : ℕ) → first ≡ (tables_of p.records).next_id
    → true ≡ list_all makes_node ops → NodesLaw m.tasks n.tasks → ServiceNodesLaw m.services n.services
    → TimedNodesLaw first m.timed n.timed → AreWiderFrom first n.agents m.agents
    → ((t : Tables) → KnowsAll t n.known) → (h : List Entry) (q : Parts)
    → IsLegal h → StandsFor p (replay h) → IsMarked m p → HasHistory q → IsAfterCall h (call.Txn ops) q → IsMarked n q
nodes_marked m n ops p first from make tasks services timed agents known h q legal stands marked is after =
    let timed_law = subst (λ k. TimedNodesLaw k m.timed n.timed) from timed in
    let wide = subst (λ k. AreWiderFrom k n.agents m.agents) from agents in
    elim after [
      | inl done ↦
          come-marked m n p q h (step (replay h) (what.Call (call.Txn ops))).after legal stands done.has is
          (made (replay h) ops (sym make)) tasks services timed_law wide known marked
      | inr same ↦
          come-marked m n p q h (replay h) legal stands same.has is
          (none-come (replay h) (replay h) refl refl refl) tasks services timed_law wide known marked
    ]
