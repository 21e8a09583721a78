-- What calls that only read, and transactions that only make services, leave of the marks.
use Rattle.std.proofs.Common.{◌≡◌, ◌∙◌, ◌+◌, ◌++◌, ◌⊎◌, ◌<◌, ◌≤◌, ◌∷◌, ℕ, Bool, cond, eqb, false, true, List, [], None, Option, Some, Err, Ok, Result, arith, ap, inl, inr, refl, subst, sym}
use Rattle.std.proofs.lemmas.Bool.Decides.{nat_tests}
use Rattle.std.specs.List.{list_all}
use Rattle.std.specs.Prelude.{length, map, nat_lt}
use Rattle.swarm_agent.specs.Times.{seen_agent}
use Rattle.swarm_model.proofs.Base.Answers.{OnGiven, given-unless}
use Rattle.swarm_model.proofs.Laws.KeptCalls.{kept-replay}
use Rattle.swarm_model.proofs.Laws.OneEach.{OneEach, one-each-empty, one-each-keeps}
use Rattle.swarm_model.specs.Calls.Operations.{apply_ops}
use Rattle.swarm_model.specs.Calls.Services.{create_service, new_service}
use Rattle.swarm_model.specs.Calls.Watches.{told_at, waiting_events, watch_finish, watch_poll, without_watcher}
use Rattle.swarm_model.specs.Calls.Views.{View}
use Rattle.swarm_model.specs.Calls.{answered, txn_answer, viewed}
use Rattle.swarm_model.specs.History.{IsLegal, replay, step}
use Rattle.swarm_model.specs.Outcome.{Answered}
use Rattle.swarm_objects.specs.Limits.{most_events, most_ops}
use Rattle.swarm_objects.specs.Rows.{row_at, service_id}
use Rattle.swarm_objects.specs.Usable.{IsUsable}
use Rattle.swarm_objects.specs.World.{Tables, World}
use Rattle.swarm_objects.specs.declared.agents.NodeAgent.{NodeAgent}
use Rattle.swarm_objects.specs.declared.calls.Call.TheVariants as call
use Rattle.swarm_objects.specs.declared.calls.Entry.{Entry}
use Rattle.swarm_objects.specs.declared.calls.Op.TheVariants as op
use Rattle.swarm_objects.specs.declared.calls.Op.{Op}
use Rattle.swarm_objects.specs.declared.calls.What.TheVariants as what
use Rattle.swarm_objects.specs.declared.messages.NodeSent.{NodeSent}
use Rattle.swarm_objects.specs.declared.replies.Refusal.TheVariants as refusal
use Rattle.swarm_objects.specs.declared.replies.Refusal.{Refusal}
use Rattle.swarm_objects.specs.declared.replies.Reply.TheVariants as reply
use Rattle.swarm_objects.specs.declared.services.Draft.{Draft}
use Rattle.swarm_objects.specs.declared.services.Service.{Service}
use Rattle.swarm_objects.specs.declared.watches.Watcher.{Watcher}
use Rattle.swarm_spans.specs.Services.Touches.{NewServicesLaw}
use Rattle.swarm_spans.specs.TasksCovered.{HasNewServices, ServicesLaw, with_services}
use Rattle.swarm_spans.specs.Timed.{TimedServicesLaw}
use Rattle.swarm_world.proofs.Entering.{are_usable}
use Rattle.swarm_world.proofs.Recorded.{tables_are, usable_rows}
use Rattle.swarm_world.specs.Inside.Known.{ForgetsServices}
use Rattle.swarm_world.specs.Inside.Looks.{AreSpanned, looked_at}
use Rattle.swarm_world.specs.Inside.Marks.{AreMarked, IsAfterCall, IsMarked, makes_service}
use Rattle.swarm_world.specs.Inside.Parts.{HasHistory, HasParts, StandsFor}
use Rattle.swarm_world.specs.Inside.Records.{tables_of}
use Rattle.swarm_world.specs.Inside.Spanned.{CoversAgents}
use Rattle.swarm_world.specs.declared.agent_spans.AgentSpans.{AgentSpans}
use Rattle.swarm_world.specs.declared.marks.Marks.{Marks}
use Rattle.swarm_world.specs.declared.parts.Parts.{Parts}

-- Services come.

-- services came with new ids, and nothing else changed of what the marks are about
pub record Comes (w v : World) : Type 0 where
  pub next_id : ℕ
  pub services : List Service
  pub tables : v.tables ≡ with_services next_id services w.tables
  pub sent : v.sent ≡ w.sent
  pub agents : v.agents ≡ w.agents
  pub grows : w.tables.next_id ≤ next_id
  pub others : (id : ℕ) → (row_at service_id id services ≡ row_at service_id id w.tables.services)
      ⊎ ((w.tables.next_id ≤ id) × (id < next_id))

none-come : (w v : World) → v.tables ≡ w.tables → v.sent ≡ w.sent → v.agents ≡ w.agents → Comes w v
none-come w v tables sent agents = record {
  next_id = w.tables.next_id;
  services = w.tables.services;
  tables = tables;
  sent = sent;
  agents = agents;
  grows = omega arith;
  others = λ id. inl refl;
}

come-then : (w v u : World) → Comes w v → Comes v u → Comes w u
come-then w v u a b =
    let next : v.tables.next_id ≡ a.next_id = ap (λ (t : Tables). t.next_id) a.tables in
    record {
      next_id = b.next_id;
      services = b.services;
      tables = b.tables ∙ ap (with_services b.next_id b.services) a.tables;
      sent = b.sent ∙ a.sent;
      agents = b.agents ∙ a.agents;
      grows = let one = a.grows in let two = b.grows in omega (arith, one, two, next);
      others = λ id. both id next (b.others id) (a.others id);
    }
  where
    both : (id : ℕ) → v.tables.next_id ≡ a.next_id
        → ((row_at service_id id b.services ≡ row_at service_id id v.tables.services)
        ⊎ ((v.tables.next_id ≤ id) × (id < b.next_id)))
        → ((row_at service_id id a.services ≡ row_at service_id id w.tables.services)
        ⊎ ((w.tables.next_id ≤ id) × (id < a.next_id)))
        → (row_at service_id id b.services ≡ row_at service_id id w.tables.services)
        ⊎ ((w.tables.next_id ≤ id) × (id < b.next_id))
    both id next (inl same) (inl before) =
        inl (same ∙ ap (λ (t : Tables). row_at service_id id t.services) a.tables ∙ before)
    both id next (inl same) (inr two) =
        inr (two.0, let low = two.1 in let more = b.grows in omega (arith, low, more, next))
    both id next (inr two) before = inr (let one = a.grows in let low = two.0 in omega (arith, one, low, next), two.1)

-- one more in the last place
last-row : (id : ℕ) (s : Service) (rows : List Service)
    → (row_at service_id id (rows ++ s ∷ []) ≡ row_at service_id id rows) ⊎ (s.id ≡ id)
last-row id s [] = own (eqb s.id id) refl
  where
    own : (b : Bool) → eqb s.id id ≡ b → (row_at service_id id (s ∷ []) ≡ None) ⊎ (s.id ≡ id)
    own true e = inr (grind (arith, nat_tests, e))
    own false e = inl (ap (λ b. cond b (Some s) None) e)
last-row id s (r ∷ rows) =
    elim (last-row id s rows) [
      | inl same ↦ inl (ap (λ o. cond (eqb r.id id) (Some r) o) same)
      | inr is ↦ inr is
    ]

one-comes : (version : ℕ) (w : World) (name : List ℕ) (d : Draft)
    → OnGiven (λ (done : World × ℕ). Comes w done.0) (create_service version w name d)
one-comes version w name d =
    given-unless (λ (done : World × ℕ). Comes w done.0) _ _
    (λ e. record {
      next_id = w.tables.next_id + 1;
      services = w.tables.services ++ new_service version w.tables name d ∷ [];
      tables = refl;
      sent = refl;
      agents = refl;
      grows = omega arith;
      others = λ id.
          elim (last-row id (new_service version w.tables name d) w.tables.services) [
            | inl same ↦ inl same
            | inr is ↦ inr (omega (arith, is), omega (arith, is))
          ];
    })

abbrev AllCome : World → Result (World × List ℕ) Refusal → Type 0
AllCome w done = OnGiven (λ (d : World × List ℕ). Comes w d.0) done

after-one : (w v : World) (done : Result (World × List ℕ) Refusal) → Comes w v → AllCome v done → AllCome w done
after-one w v (Ok d) one all = come-then w v d.0 one all
after-one w v (Err r) one all = tt

after-each : (w : World) (one : Result (World × ℕ) Refusal) (next : World × ℕ → Result (World × List ℕ) Refusal)
    → OnGiven (λ (done : World × ℕ). Comes w done.0) one → ((d : World × ℕ) → AllCome d.0 (next d))
    → AllCome w (elim one [ Ok d ↦ next d | Err r ↦ Err r ])
after-each w (Ok d) next comes rest = after-one w d.0 (next d) comes (rest d)
after-each w (Err r) next comes rest = tt

all-come : (version : ℕ) (ops : List Op) (w : World) (ids : List ℕ) → list_all makes_service ops ≡ true
    → AllCome w (apply_ops version ops w ids)
all-come version [] w ids make = none-come w w refl refl refl
all-come version (op.CreateService name d ∷ ops) w ids make =
    after-each w (create_service version w name d) (λ done. apply_ops version ops done.0 (ids ++ done.1 ∷ []))
    (one-comes version w name d) (λ done. all-come version ops done.0 (ids ++ done.1 ∷ []) make)
all-come version (op.CreateNode name draft ∷ ops) w ids make = absurd cc
all-come version (op.UpdateNode name asked labels r a ∷ ops) w ids make = absurd cc
all-come version (op.RemoveNode name force ∷ ops) w ids make = absurd cc
all-come version (op.UpdateService name asked d ∷ ops) w ids make = absurd cc
all-come version (op.RemoveService name ∷ ops) w ids make = absurd cc
all-come version (op.RollbackService name asked ∷ ops) w ids make = absurd cc
all-come version (op.CreateNetwork name base bits ∷ ops) w ids make = absurd cc
all-come version (op.RemoveNetwork name ∷ ops) w ids make = absurd cc
all-come version (op.SetCluster settings ∷ ops) w ids make = absurd cc

-- Calls.

abbrev AnswerComes : World → Answered → Type 0
AnswerComes w a = Comes w (answered w a).after

given-comes : (w : World) (done : Result (World × List ℕ) Refusal) → AllCome w done
    → AnswerComes w (txn_answer done)
given-comes w (Ok d) all = record {
  next_id = all.next_id;
  services = all.services;
  tables = all.tables;
  sent = all.sent;
  agents = all.agents;
  grows = all.grows;
  others = all.others;
}
given-comes w (Err r) all = none-come w (answered w (Err r)).after refl refl refl

pub made : (w : World) (ops : List Op) → list_all makes_service ops ≡ true
    → Comes w (step w (what.Call (call.Txn ops))).after
made w ops make = go (nat_lt most_ops (length ops))
  where
    go : (b : Bool)
        → AnswerComes w (cond b (Err (refusal.TooManyOps (length ops))) (txn_answer (apply_ops (w.entries + 1) ops w [])))
    go true = none-come w (answered w (Err (refusal.TooManyOps (length ops)))).after refl refl refl
    go false = given-comes w (apply_ops (w.entries + 1) ops w []) (all-come (w.entries + 1) ops w [] make)

-- the tables, what was sent and the agents are as before
pub record StayAsTheyAre (w v : World) : Type 0 where
  pub tables : v.tables ≡ w.tables
  pub sent : v.sent ≡ w.sent
  pub agents : v.agents ≡ w.agents

abbrev AnswerStays : World → Answered → Type 0
AnswerStays w a = StayAsTheyAre w (answered w a).after

view-stays : (w : World) (v : View) → AnswerStays w (viewed w v)
view-stays w (Ok view) = record { tables = refl; sent = refl; agents = refl }
view-stays w (Err r) = record { tables = refl; sent = refl; agents = refl }

poll-stays : (w : World) (entry id : ℕ) (o : Option Watcher) → AnswerStays w (watch_poll entry w id o)
poll-stays w entry id None = record { tables = refl; sent = refl; agents = refl }
poll-stays w entry id (Some x) = go (nat_lt most_events (length (waiting_events w x)))
  where
    go : (b : Bool)
        → AnswerStays w (Ok (cond b (reply.Refused (refusal.Lagged (length (waiting_events w x))), without_watcher id w)
        (reply.Events (waiting_events w x), told_at entry id w)))
    go true = record { tables = refl; sent = refl; agents = refl }
    go false = record { tables = refl; sent = refl; agents = refl }

finish-stays : (w : World) (id : ℕ) (o : Option Watcher) → AnswerStays w (watch_finish w id o)
finish-stays w id None = record { tables = refl; sent = refl; agents = refl }
finish-stays w id (Some x) = record { tables = refl; sent = refl; agents = refl }

-- The marks.

pub covers-as : (t : Tables) (p q : Parts) (spans : AgentSpans) → tables_of q.records ≡ t → q.sent ≡ p.sent
    → q.agents ≡ p.agents → AreSpanned (looked_at t p.sent) spans p.agents → CoversAgents q spans
covers-as t p q spans tables sent agents covers =
    subst (λ (u : Tables). AreSpanned (looked_at u q.sent) spans q.agents) (sym tables)
    (subst (λ (s : List NodeSent). AreSpanned (looked_at t s) spans q.agents) (sym sent)
    (subst (λ (all : List NodeAgent). AreSpanned (looked_at t p.sent) spans all) (sym agents) covers))

-- what q has of the world after, p has of the one before
pub record HasLeft (p q : Parts) (w v : World) : Type 0 where
  pub before : HasParts p w
  pub after : HasParts q v

pub same-sent : (p q : Parts) (w v : World) → HasLeft p q w v → v.sent ≡ w.sent → q.sent ≡ p.sent
same-sent p q w v has same = has.after.sent ∙ same ∙ sym has.before.sent

pub same-agents : (p q : Parts) (w v : World) → HasLeft p q w v → v.agents ≡ w.agents → q.agents ≡ p.agents
same-agents p q w v has same = has.after.agents ∙ ap (map seen_agent) same ∙ sym has.before.agents

stay-marked : (m : Marks) (p q : Parts) (w v : World) → HasLeft p q w v → StayAsTheyAre w v → IsMarked m p
    → IsMarked m q
stay-marked m p q w v has stay marked =
    let tables : tables_of q.records ≡ tables_of p.records =
    tables_are q.records v has.after.records ∙ stay.tables ∙ sym (tables_are p.records w has.before.records) in
    record {
      rows = subst (AreMarked m) (sym tables) marked.rows;
      agents =
          covers-as (tables_of p.records) p q m.agents tables (same-sent p q w v has stay.sent)
          (same-agents p q w v has stay.agents) marked.agents;
    }

come-marked : (m n : Marks) (p q : Parts) (h : List Entry) (v : World) → IsLegal h → StandsFor p (replay h)
    → HasParts q v → HasHistory q → Comes (replay h) v → ServicesLaw m.tasks n.tasks
    → NewServicesLaw (tables_of p.records).next_id m.services n.services
    → TimedServicesLaw (tables_of p.records).next_id m.timed n.timed → n.agents ≡ m.agents
    → ForgetsServices m.known n.known → IsMarked m p → IsMarked n q
come-marked m n p q h v legal stands has is come tasks services timed agents forgets marked =
    let t = tables_of p.records in
    let u = with_services come.next_id come.services t in
    let before : t ≡ (replay h).tables = tables_are p.records (replay h) stands.has.records in
    let tables : tables_of q.records ≡ u =
    tables_are q.records v has.records ∙ come.tables ∙ ap (with_services come.next_id come.services) (sym before) in
    let usable = usable_rows p.records (are_usable p (record { history = h; legal = legal; stands = stands })) in
    let later : IsUsable u = subst IsUsable tables (usable_rows q.records (are_usable q is)) in
    let new : HasNewServices t.next_id come.next_id t come.services =
    subst (λ (z : Tables). HasNewServices z.next_id come.next_id z come.services) (sym before)
    (record { others = come.others; tasks = (kept-replay OneEach one-each-keeps one-each-empty h legal).below }) in
    let left : HasLeft p q (replay h) v = record { before = stands.has; after = has } in
    record {
      rows =
          subst (AreMarked n) (sym tables)
          (record {
            tasks = tasks t.next_id t come.next_id come.services usable new marked.rows.tasks;
            services = services t come.next_id come.services usable later new marked.rows.services;
            timed = timed t come.next_id come.services later new marked.rows.timed;
            known = forgets t u refl refl marked.rows.known;
          });
      agents =
          subst (CoversAgents q) (sym agents)
          (covers-as u p q m.agents tables (same-sent p q (replay h) v left come.sent)
          (same-agents p q (replay h) v left come.agents)
          (record {
            duties = record { has = λ a there busy. marked.agents.duties.has a there busy };
            sleeps = record { has = λ a there restless. marked.agents.sleeps.has a there restless };
            tells = record { has = λ a there wants. marked.agents.tells.has a there wants };
            news = record { has = λ a there unsaid. marked.agents.news.has a there unsaid };
            waits = marked.agents.waits;
            steps = marked.agents.steps;
          }));
    }

-- a transaction that makes services alone
pub made_marked : (m n : Marks) (ops : List Op) (p : Parts) (first : ℕ) → first ≡ (tables_of p.records).next_id
    → true ≡ list_all makes_service ops → ServicesLaw m.tasks n.tasks → NewServicesLaw first m.services n.services
    → TimedServicesLaw first m.timed n.timed → n.agents ≡ m.agents → ForgetsServices m.known n.known
    → (h : List Entry) (q : Parts) → IsLegal h → StandsFor p (replay h)
    → IsMarked m p → HasHistory q → IsAfterCall h (call.Txn ops) q → IsMarked n q
made_marked m n ops p first from make tasks services timed agents forgets h q legal stands marked is after =
    let laws = subst (λ k. NewServicesLaw k m.services n.services) from services in
    let timed_laws = subst (λ k. TimedServicesLaw k m.timed n.timed) from timed in
    elim after [
      | inl done ↦
          come-marked m n p q h (step (replay h) (what.Call (call.Txn ops))).after legal stands done.has is
          (made (replay h) ops (sym make)) tasks laws timed_laws agents forgets marked
      | inr same ↦
          come-marked m n p q h (replay h) legal stands same.has is (none-come (replay h) (replay h) refl refl refl) tasks
          laws timed_laws agents forgets marked
    ]
