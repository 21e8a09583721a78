-- What a transaction that only updates one service leaves of the marks.
use Rattle.std.proofs.Common.{◌≡◌, ◌∙◌, ◌++◌, ◌⊎◌, ◌∷◌, ◌+◌, ◌<◌, ◌≤◌, ℕ, Bool, arith, cond, false, true, List, [], Option, None, Some, Err, Ok, Result, ap, get_or, inl, inr, refl, subst, sym}
use Rattle.std.specs.Prelude.{length, nat_lt}
use Rattle.swarm_model.proofs.Base.Answers.{OnGiven, given-found, given-unless}
use Rattle.swarm_model.specs.Calls.Operations.{apply_op, apply_ops}
use Rattle.swarm_model.specs.Calls.Refusals.{Done, service_by}
use Rattle.swarm_model.specs.Calls.Services.{filled, update_service}
use Rattle.swarm_model.specs.Calls.{answered, txn_answer}
use Rattle.swarm_model.specs.History.{IsLegal, replay, step}
use Rattle.swarm_model.specs.Outcome.{Answered}
use Rattle.swarm_objects.specs.ChangeLists.{apply_change}
use Rattle.swarm_objects.specs.Limits.{most_ops}
use Rattle.swarm_objects.specs.NewRows.{respecified}
use Rattle.swarm_objects.specs.Usable.{IsUsable}
use Rattle.swarm_objects.specs.World.{Tables, World}
use Rattle.swarm_objects.specs.declared.calls.Call.TheVariants as call
use Rattle.swarm_objects.specs.declared.calls.Entry.{Entry}
use Rattle.swarm_objects.specs.declared.calls.Op.TheVariants as op
use Rattle.swarm_objects.specs.declared.calls.Op.{Op}
use Rattle.swarm_objects.specs.declared.calls.What.TheVariants as what
use Rattle.swarm_objects.specs.declared.ids.Kind.TheVariants as kind
use Rattle.swarm_objects.specs.declared.replies.Refusal.TheVariants as refusal
use Rattle.swarm_objects.specs.declared.replies.Refusal.{Refusal}
use Rattle.swarm_objects.specs.declared.replies.Wanted.TheVariants as wanted_by
use Rattle.swarm_objects.specs.declared.rows.Change.TheVariants as change
use Rattle.swarm_objects.specs.declared.services.Draft.{Draft}
use Rattle.swarm_objects.specs.declared.services.Service.{Service}
use Rattle.swarm_spans.specs.Services.Touches.{AreCovered, ServicePutLaw}
use Rattle.swarm_spans.specs.TasksCovered.{AreTasksCovered, PutLaw}
use Rattle.swarm_spans.specs.Timed.{AreTimed, TimedPutLaw}
use Rattle.swarm_world.proofs.Coming.{HasLeft, covers-as, same-agents, same-sent}
use Rattle.swarm_world.proofs.Entering.{are_usable}
use Rattle.swarm_world.proofs.Recorded.{tables_are, usable_rows}
use Rattle.swarm_world.specs.Inside.Known.{ForgetsServices}
use Rattle.swarm_world.specs.Inside.Marks.{AreMarked, IsAfterCall, IsMarked}
use Rattle.swarm_world.specs.Inside.Parts.{HasHistory, HasParts, StandsFor}
use Rattle.swarm_world.specs.Inside.Records.{tables_of}
use Rattle.swarm_world.specs.Inside.Spanned.{CoversAgents}
use Rattle.swarm_world.specs.declared.known.Known.{Known}
use Rattle.swarm_world.specs.declared.marks.Marks.{Marks}
use Rattle.swarm_world.specs.declared.parts.Parts.{Parts}

-- The service with the name, if there is one, has another row.

pub record IsRenewed (t u : Tables) (name : List ℕ) : Type 0 where
  pub former : Service
  pub row : Service
  pub found : service_by t name ≡ Some former
  pub id : row.id ≡ former.id
  pub tables : u ≡ apply_change t (change.PutService row)

-- or it hasn't, and nothing else changed of what the marks are about
pub record Renews (w v : World) (name : List ℕ) : Type 0 where
  pub tables : (v.tables ≡ w.tables) ⊎ IsRenewed w.tables v.tables name
  pub sent : v.sent ≡ w.sent
  pub agents : v.agents ≡ w.agents

one-renews : (version : ℕ) (w : World) (name : List ℕ) (asked : Option ℕ) (d : Draft)
    → OnGiven (λ (done : World × ℕ). Renews w done.0 name) (apply_op version w (op.UpdateService name asked d))
one-renews version w name asked d =
    given-found (λ (done : World × ℕ). Renews w done.0 name) kind.Service (wanted_by.Name name)
    (service_by w.tables name) (update_service version w asked d)
    (λ (s : Service) e. given-unless (λ (done : World × ℕ). Renews w done.0 name) _ _
    (λ ok. record {
      tables =
          inr (record {
            former = s;
            row = respecified version false (filled w.tables d) s;
            found = e;
            id = refl;
            tables = refl;
          });
      sent = refl;
      agents = refl;
    }))

abbrev AllRenew : World → List ℕ → Result (World × List ℕ) Refusal → Type 0
AllRenew w name done = OnGiven (λ (d : World × List ℕ). Renews w d.0 name) done

alone : (version : ℕ) (w : World) (name : List ℕ) (asked : Option ℕ) (d : Draft)
    → AllRenew w name (apply_ops version (op.UpdateService name asked d ∷ []) w [])
alone version w name asked d =
    go (apply_op version w (op.UpdateService name asked d)) (one-renews version w name asked d)
  where
    go : (done : Done) → OnGiven (λ (one : World × ℕ). Renews w one.0 name) done
        → AllRenew w name (elim done [ Ok one ↦ apply_ops version [] one.0 ([] ++ one.1 ∷ []) | Err r ↦ Err r ])
    go (Ok one) renews = renews
    go (Err r) none = tt

abbrev AnswerRenews : World → List ℕ → Answered → Type 0
AnswerRenews w name a = Renews w (answered w a).after name

given-renews : (w : World) (name : List ℕ) (done : Result (World × List ℕ) Refusal) → AllRenew w name done
    → AnswerRenews w name (txn_answer done)
given-renews w name (Ok d) all = record { tables = all.tables; sent = all.sent; agents = all.agents }
given-renews w name (Err r) all = record { tables = inl refl; sent = refl; agents = refl }

updated : (w : World) (name : List ℕ) (asked : Option ℕ) (d : Draft)
    → Renews w (step w (what.Call (call.Txn (op.UpdateService name asked d ∷ [])))).after name
updated w name asked d = go (nat_lt most_ops (length ops))
  where
    ops : List Op
    ops = op.UpdateService name asked d ∷ []

    go : (b : Bool)
        → AnswerRenews w name
        (cond b (Err (refusal.TooManyOps (length ops))) (txn_answer (apply_ops (w.entries + 1) ops w [])))
    go true = record { tables = inl refl; sent = refl; agents = refl }
    go false = given-renews w name (apply_ops (w.entries + 1) ops w []) (alone (w.entries + 1) w name asked d)

-- The marks.

-- the ones have what concerns the row of the service with this name, if there is one
pub record AreTouched (t : Tables) (name : List ℕ) (m n : Marks) : Type 0 where
  pub tasks : AreTasksCovered t m.tasks → AreTasksCovered t n.tasks
  pub services : AreCovered t m.services → AreCovered t n.services
  pub timed : AreTimed t m.timed → AreTimed t n.timed
  pub puts : (s : Service) → service_by t name ≡ Some s
      → PutLaw s.id t m.tasks n.tasks × ServicePutLaw s.id t m.services n.services × TimedPutLaw s.id m.timed n.timed
  pub agents : n.agents ≡ m.agents
  pub known : ForgetsServices m.known n.known

-- there is no such service
pub none_touched : (t : Tables) (name : List ℕ) (m : Marks) (k : Known) → ForgetsServices m.known k
    → None ≡ service_by t name → AreTouched t name m (record m { known = k })
none_touched t name m k forgets none = record {
  tasks = λ are. are;
  services = λ are. are;
  timed = λ are. are;
  puts = λ s e. absurd (never s (none ∙ e));
  agents = refl;
  known = forgets;
}
  where
    never : (s : Service) → None ≡ Some s → ⊥
    never s e = cc

-- this is the service
pub one_touched : (t : Tables) (name : List ℕ) (m n : Marks) (s : Service) → Some s ≡ service_by t name
    → (AreTasksCovered t m.tasks → AreTasksCovered t n.tasks) → PutLaw s.id t m.tasks n.tasks
    → (AreCovered t m.services → AreCovered t n.services) → ServicePutLaw s.id t m.services n.services
    → (AreTimed t m.timed → AreTimed t n.timed) → TimedPutLaw s.id m.timed n.timed → n.agents ≡ m.agents
    → ForgetsServices m.known n.known → AreTouched t name m n
one_touched t name m n s row tasks put services service_put timed timed_put agents forgets = record {
  tasks = tasks;
  services = services;
  timed = timed;
  puts = λ r e. own r (row ∙ e);
  agents = agents;
  known = forgets;
}
  where
    own : (r : Service) → Some s ≡ Some r
        → PutLaw r.id t m.tasks n.tasks × ServicePutLaw r.id t m.services n.services × TimedPutLaw r.id m.timed n.timed
    own r e =
        let same : s ≡ r = cc in
        subst (λ (z : Service). PutLaw z.id t m.tasks n.tasks × ServicePutLaw z.id t m.services n.services
        × TimedPutLaw z.id m.timed n.timed) same (put, service_put, timed_put)

renew-marked : (m n : Marks) (p q : Parts) (name : List ℕ) (h : List Entry) (v : World) → StandsFor p (replay h)
    → HasParts q v → HasHistory q → Renews (replay h) v name → AreTouched (tables_of p.records) name m n
    → IsMarked m p → IsMarked n q
renew-marked m n p q name h v stands has is renews touched marked =
    elim renews.tables [ inl same ↦ as-before same | inr other ↦ renewed other ]
  where
    t : Tables
    t = tables_of p.records

    before : t ≡ (replay h).tables
    before = tables_are p.records (replay h) stands.has.records

    left : HasLeft p q (replay h) v
    left = record { before = stands.has; after = has }

    as-before : v.tables ≡ (replay h).tables → IsMarked n q
    as-before same =
        let tables : tables_of q.records ≡ t = tables_are q.records v has.records ∙ same ∙ sym before in
        record {
          rows =
              subst (AreMarked n) (sym tables)
              (record {
                tasks = touched.tasks marked.rows.tasks;
                services = touched.services marked.rows.services;
                timed = touched.timed marked.rows.timed;
                known = touched.known t t refl refl marked.rows.known;
              });
          agents =
              subst (CoversAgents q) (sym touched.agents)
              (covers-as t p q m.agents tables (same-sent p q (replay h) v left renews.sent)
              (same-agents p q (replay h) v left renews.agents) marked.agents);
        }

    renewed : IsRenewed (replay h).tables v.tables name → IsMarked n q
    renewed other =
        let u = apply_change t (change.PutService other.row) in
        let tables : tables_of q.records ≡ u =
        tables_are q.records v has.records ∙ other.tables
        ∙ ap (λ (z : Tables). apply_change z (change.PutService other.row)) (sym before) in
        let later : IsUsable u = subst IsUsable tables (usable_rows q.records (are_usable q is)) in
        let puts = touched.puts other.former (ap (λ (z : Tables). service_by z name) before ∙ other.found) in
        record {
          rows =
              subst (AreMarked n) (sym tables)
              (record {
                tasks = puts.0 other.row other.id later marked.rows.tasks;
                services = puts.1 other.row other.id later marked.rows.services;
                timed = puts.2 t other.row other.id later marked.rows.timed;
                known = touched.known t u refl refl marked.rows.known;
              });
          agents =
              subst (CoversAgents q) (sym touched.agents)
              (covers-as u p q m.agents tables (same-sent p q (replay h) v left renews.sent)
              (same-agents p q (replay h) v left renews.agents)
              (record {
                duties = record { has = λ a there busy. marked.agents.duties.has a there busy };
                sleeps = record { has = λ a there restless. marked.agents.sleeps.has a there restless };
                tells = record { has = λ a there wants. marked.agents.tells.has a there wants };
                news = record { has = λ a there unsaid. marked.agents.news.has a there unsaid };
                waits = marked.agents.waits;
                steps = marked.agents.steps;
              }));
        }

-- a transaction that updates one service alone
pub renewed_marked : (m n : Marks) (p : Parts) (name : List ℕ) → AreTouched (tables_of p.records) name m n
    → (asked : Option ℕ) (d : Draft) (h : List Entry) (q : Parts) → IsLegal h → StandsFor p (replay h)
    → IsMarked m p → HasHistory q → IsAfterCall h (call.Txn (op.UpdateService name asked d ∷ [])) q → IsMarked n q
renewed_marked m n p name touched asked d h q legal stands marked is after =
    elim after [
      | inl done ↦
          renew-marked m n p q name h
          (step (replay h) (what.Call (call.Txn (op.UpdateService name asked d ∷ [])))).after stands done.has is
          (updated (replay h) name asked d) touched marked
      | inr same ↦
          renew-marked m n p q name h (replay h) stands same.has is
          (record { tables = inl refl; sent = refl; agents = refl }) touched marked
    ]

-- a list of one
pub only_one : {X : Type 0} (xs : List X) (x : X) → 1 ≤ length xs → length xs < 2 → x ≡ get_or xs 0 x → xs ≡ x ∷ []
only_one [] x least most is = absurd (omega arith)
only_one (y ∷ []) x least most is = ap (λ z. z ∷ []) (sym is)
only_one (y ∷ z ∷ xs) x least most is = absurd (omega arith)
