-- What a transaction makes of what stands beside the rows.
use Rattle.std.proofs.Common.{◌≡◌, ◌++◌, ◌∷◌, ℕ, Bool, true, false, List, [], Ok, Err, Result, Option, Some, None, cond, refl, sym, ap, ◌∙◌, subst, append-nil, append_assoc}
use Rattle.std.specs.Prelude.{length, nat_lt}
use Rattle.swarm_model.proofs.Base.Answers.{OnGiven, given-found, given-unless, given-unless_some}
use Rattle.swarm_model.specs.Calls.{txn_answer}
use Rattle.swarm_model.specs.Calls.Beside.{Beside, beside_of, beside_op, beside_ops}
use Rattle.swarm_model.specs.Calls.Networks.{remove_network}
use Rattle.swarm_model.specs.Calls.Nodes.{remove_node, update_node}
use Rattle.swarm_objects.specs.NewRows.{respecified_node}
use Rattle.swarm_model.specs.Calls.Operations.{apply_op, apply_ops}
use Rattle.swarm_model.specs.Calls.Refusals.{Done, conflict, network_by, node_by, service_by}
use Rattle.swarm_model.specs.Calls.Services.{go_back, remove_service, rollback_service, update_service}
use Rattle.swarm_model.specs.Laws.Beside.{BesideLaw, HasBeside}
use Rattle.swarm_objects.specs.Limits.{most_ops}
use Rattle.swarm_objects.specs.World.{World}
use Rattle.swarm_objects.specs.declared.calls.Op.{Op}
use Rattle.swarm_objects.specs.declared.calls.Op.TheVariants as op
use Rattle.swarm_objects.specs.declared.ids.Kind.TheVariants as kind
use Rattle.swarm_objects.specs.declared.networks.Network.{Network}
use Rattle.swarm_objects.specs.declared.nodes.Node.{Node}
use Rattle.swarm_objects.specs.declared.replies.Refusal.{Refusal}
use Rattle.swarm_objects.specs.declared.replies.Refusal.TheVariants as refusal
use Rattle.swarm_objects.specs.declared.replies.Reply.{Reply}
use Rattle.swarm_objects.specs.declared.replies.Reply.TheVariants as reply
use Rattle.swarm_objects.specs.declared.replies.Wanted.TheVariants as wanted_by
use Rattle.swarm_objects.specs.declared.services.Service.{Service}
use Rattle.swarm_objects.specs.declared.services.ServiceSpec.{ServiceSpec}

-- One operation.

abbrev Makes : World → Op → World × ℕ → Type 0
Makes w o d = HasBeside (beside_op o d.1 (beside_of w)) w d.0

back-makes : (version : ℕ) (w : World) (name : List ℕ) (asked : Option ℕ) (s : Service) (spec : Option ServiceSpec) →
    OnGiven (Makes w (op.RollbackService name asked)) (go_back version w s spec)
back-makes version w name asked s None = tt
back-makes version w name asked s (Some spec) = (refl, refl)

op-makes : (version : ℕ) (w : World) (o : Op) → OnGiven (Makes w o) (apply_op version w o)
op-makes version w (op.CreateNode name draft) = given-unless (Makes w (op.CreateNode name draft)) _ _ (λ e. (refl, refl))
op-makes version w (op.UpdateNode name asked labels r a) =
    given-found (Makes w (op.UpdateNode name asked labels r a)) kind.Node (wanted_by.Name name) (node_by w.tables name)
    (λ n. update_node w asked n (respecified_node version labels r a n))
    (λ (n : Node) e. given-unless (Makes w (op.UpdateNode name asked labels r a)) _ _ (λ ok. (refl, refl)))
op-makes version w (op.RemoveNode name force) =
    given-found (Makes w (op.RemoveNode name force)) kind.Node (wanted_by.Name name) (node_by w.tables name)
    (remove_node version w force)
    (λ (n : Node) e. given-unless (Makes w (op.RemoveNode name force)) _ _ (λ ok. (refl, refl)))
op-makes version w (op.CreateService name d) = given-unless (Makes w (op.CreateService name d)) _ _ (λ e. (refl, refl))
op-makes version w (op.UpdateService name asked d) =
    given-found (Makes w (op.UpdateService name asked d)) kind.Service (wanted_by.Name name) (service_by w.tables name)
    (update_service version w asked d)
    (λ (s : Service) e. given-unless (Makes w (op.UpdateService name asked d)) _ _ (λ ok. (refl, refl)))
op-makes version w (op.RemoveService name) =
    given-found (Makes w (op.RemoveService name)) kind.Service (wanted_by.Name name) (service_by w.tables name)
    (remove_service w) (λ (s : Service) e. (refl, refl))
op-makes version w (op.RollbackService name asked) =
    given-found (Makes w (op.RollbackService name asked)) kind.Service (wanted_by.Name name) (service_by w.tables name)
    (rollback_service version w asked)
    (λ (s : Service) e. given-unless_some (Makes w (op.RollbackService name asked)) (conflict asked s.version) _
    (λ ok. back-makes version w name asked s s.previous))
op-makes version w (op.CreateNetwork name base bits) =
    given-unless (Makes w (op.CreateNetwork name base bits)) _ _ (λ e. (refl, refl))
op-makes version w (op.RemoveNetwork name) =
    given-found (Makes w (op.RemoveNetwork name)) kind.Network (wanted_by.Name name) (network_by w.tables name)
    (remove_network w)
    (λ (n : Network) e. given-unless (Makes w (op.RemoveNetwork name)) _ _ (λ ok. (refl, refl)))
op-makes version w (op.SetCluster settings) = given-unless (Makes w (op.SetCluster settings)) _ _ (λ e. (refl, refl))

-- One after the other.

beside-is : (b : Beside) (w v : World) → HasBeside b w v → beside_of v ≡ b
beside-is b w v has =
    ap (λ sessions. record (beside_of v) { sessions = sessions }) has.0
    ∙ ap (λ (x : World). record { sessions = b.sessions; sent = x.sent; agents = x.agents }) has.1

then-has : (b c : Beside) (w v u : World) → HasBeside b w v → HasBeside c v u → HasBeside c w u
then-has b c w v u first then' = (
  then'.0,
  then'.1 ∙ ap (λ (x : World). record x { tables = u.tables; sent = c.sent; agents = c.agents }) first.1,
)

-- what was given after the earlier ids
record MakesAll (w : World) (ops : List Op) (before : List ℕ) (d : World × List ℕ) : Type 0 where
  pub ids : List ℕ
  pub all : d.1 ≡ before ++ ids
  pub has : HasBeside (beside_ops ops ids (beside_of w)) w d.0

next-makes : (w : World) (o : Op) (ops : List Op) (before : List ℕ) (one : World × ℕ) (given : Result (World × List ℕ) Refusal) →
    Makes w o one → OnGiven (MakesAll one.0 ops (before ++ one.1 ∷ [])) given → OnGiven (MakesAll w (o ∷ ops) before) given
next-makes w o ops before one (Err r) first rest = tt
next-makes w o ops before one (Ok d) first rest = record {
  ids = one.1 ∷ rest.ids;
  all = rest.all ∙ append_assoc before (one.1 ∷ []) rest.ids;
  has =
      then-has (beside_op o one.1 (beside_of w)) (beside_ops ops rest.ids (beside_op o one.1 (beside_of w))) w one.0 d.0 first
      (subst (λ b. HasBeside (beside_ops ops rest.ids b) one.0 d.0) (beside-is (beside_op o one.1 (beside_of w)) w one.0 first) rest.has);
}

ops-make : (version : ℕ) (ops : List Op) (w : World) (before : List ℕ) → OnGiven (MakesAll w ops before) (apply_ops version ops w before)
ops-make version [] w before = record { ids = []; all = sym (append-nil before); has = (refl, refl) }
ops-make version (o ∷ ops) w before =
    go (apply_op version w o) (op-makes version w o) (λ v more. ops-make version ops v more)
  where
    go : (done : Done) → OnGiven (Makes w o) done →
        ((v : World) (more : List ℕ) → OnGiven (MakesAll v ops more) (apply_ops version ops v more)) →
        OnGiven (MakesAll w (o ∷ ops) before)
        (elim done [ Ok one ↦ apply_ops version ops one.0 (before ++ one.1 ∷ []) | Err r ↦ Err r ])
    go (Ok one) first rest = next-makes w o ops before one _ first (rest one.0 (before ++ one.1 ∷ []))
    go (Err r) first rest = tt

-- The law.

same-ids : (js ids : List ℕ) → reply.Txn js ≡ reply.Txn ids → js ≡ ids
same-ids js ids same = cc

answer-has : (w v : World) (ops : List Op) (ids : List ℕ) (given : Result (World × List ℕ) Refusal) → OnGiven (MakesAll w ops []) given →
    txn_answer given ≡ Ok (reply.Txn ids, v) → HasBeside (beside_ops ops ids (beside_of w)) w v
answer-has w v ops ids (Err r) makes is = absurd cc
answer-has w v ops ids (Ok d) makes is =
    let both : (reply.Txn d.1, d.0) ≡ (reply.Txn ids, v) = cc in
    let told : d.1 ≡ ids = same-ids d.1 ids (ap (λ (p : Reply × World). p.0) both) in
    subst (λ x. HasBeside (beside_ops ops ids (beside_of w)) w x) (ap (λ (p : Reply × World). p.1) both)
    (subst (λ js. HasBeside (beside_ops ops js (beside_of w)) w d.0) (sym makes.all ∙ told) makes.has)

pub stands-beside : BesideLaw
stands-beside version w v ops ids = go (nat_lt most_ops (length ops))
  where
    go : (many : Bool) → cond many (Err (refusal.TooManyOps (length ops))) (txn_answer (apply_ops version ops w [])) ≡ Ok (reply.Txn ids, v) →
        HasBeside (beside_ops ops ids (beside_of w)) w v
    go true is = absurd cc
    go false is = answer-has w v ops ids (apply_ops version ops w []) (ops-make version ops w []) is
