-- What was sent, and what the executors of agents will be, said of rows.
use Rattle.std.proofs.Common.{None, Option, Some, ap, false, is_some, refl, subst, sym, true, ℕ, ◌∙◌, ◌≡◌}
use Rattle.std.specs.Option.{option_map}
use Rattle.swarm_objects.proofs.Aims.{Aim, aim}
use Rattle.swarm_settle.proofs.Aims.{aim_at, applied-aims, is_gone, is_kept, updated-some, will}
use Rattle.swarm_settle.proofs.InStep.{InStep}
use Rattle.swarm_settle.proofs.TogetherCalls.{together-replay}
use Rattle.swarm_settle.specs.Sent.{AreAsSent, HasOwners, IsAsSent, OwnersLaw, SentLaw, executor_next}
use Rattle.swarm_model.proofs.Laws.Prefixes.{each-prefix}
use Rattle.swarm_model.specs.History.{replay}
use Rattle.swarm_objects.proofs.RowLemmas.{Has-from_row_at}
use Rattle.swarm_objects.proofs.Tests.{false_from_ne_true, never-both, not_from_false}
use Rattle.swarm_objects.specs.Agents.Messages.{sent_of}
use Rattle.swarm_objects.specs.Loops.Agents.{take_in}
use Rattle.swarm_objects.specs.Rows.{Has, has_row, row_at, task_id}
use Rattle.swarm_objects.specs.World.{World}
use Rattle.swarm_objects.specs.declared.agents.Executor.{Executor}
use Rattle.swarm_objects.specs.declared.agents.NodeAgent.{NodeAgent}
use Rattle.swarm_objects.specs.declared.messages.Message.{Message}
use Rattle.swarm_objects.specs.declared.tasks.Desired.{Desired}
use Rattle.swarm_objects.specs.declared.tasks.Task.{Task}

-- the aim that will be
next-aim : (clock : ℕ) (a : NodeAgent) (o : Option Message) (x : ℕ) →
    aim_at (take_in clock o a).executors x ≡ will x o (aim_at a.executors x)
next-aim clock a None x = refl
next-aim clock a (Some m) x = applied-aims clock x m a.executors

pub with-aim : (o : Option Executor) (d : Desired) → option_map aim o ≡ Some (d, false) →
    (e : Executor) × (o ≡ Some e) × (e.desired ≡ d) × (e.gone ≡ false)
with-aim None d at = absurd (let wrong : None ≡ Some (d, false) = at in cc)
with-aim (Some e) d at =
    let same : aim e ≡ (d, false) = cc in
    (e, refl, ap (λ (p : Aim). p.0) same, ap (λ (p : Aim). p.1) same)

pub as-sent : (w : World) (a : NodeAgent) →
    InStep w.tables (sent_of w a.node) a.inbox (aim_at a.executors) → IsAsSent w a
as-sent w a is = record {
  sent = λ s i clock at h.
      with-aim (executor_next clock a i.task) i.desired (next-aim clock a a.inbox i.task ∙ is.items s i at h);
  others = λ s e clock task at there alive.
      is.others s task at
      (subst (λ (o : Option Aim). is_kept o ≡ true) (sym (aims e clock task there)) (not_from_false e.gone alive));
  gone = λ e clock task there dead.
      let lost = is.gone task (subst (λ (o : Option Aim). is_gone o ≡ true) (sym (aims e clock task there)) dead) in
      false_from_ne_true (has_row task_id task w.tables.tasks)
      (λ has. none task (row_at task_id task w.tables.tasks) refl has lost.away);
  updates = λ m i at h.
      is.made i.task
      (subst (λ (o : Option Message). is_some (will i.task o None) ≡ true) (sym at) (updated-some m i None h));
}
  where
    aims : (e : Executor) (clock task : ℕ) → executor_next clock a task ≡ Some e →
        will task a.inbox (aim_at a.executors task) ≡ Some (aim e)
    aims e clock task there = sym (next-aim clock a a.inbox task) ∙ ap (option_map aim) there

    none : (task : ℕ) (o : Option Task) → row_at task_id task w.tables.tasks ≡ o →
        is_some (row_at task_id task w.tables.tasks) ≡ true →
        ¬ ((y : Task) → Has w.tables.tasks y → ¬ (y.id ≡ task))
    none task None at has away = never-both _ (ap is_some at) has
    none task (Some x) at has away =
        let row = Has-from_row_at task_id task w.tables.tasks x at in away x row.0 row.1

pub always-as-sent : SentLaw
always-as-sent h legal =
    each-prefix AreAsSent
    (λ g ok a k. as-sent (replay g) a ((together-replay g ok).1 a k)) h legal

pub always-owners : OwnersLaw
always-owners h legal = each-prefix HasOwners (λ g ok. (together-replay g ok).0) h legal
