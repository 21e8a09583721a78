use Rattle.std.proofs.Common.{[], ap, refl, rules, ◌∙◌, ◌∷◌, ◌≡◌}
use Rattle.std.specs.Prelude.{filter}
use Rattle.swarm_objects.specs.Tasks.Words.{is_of}
use Rattle.swarm_replicated.proofs.Weighing.{begins, ends, steps}
use Rattle.swarm_replicated.specs.Inside.Crowds.{Counted}
use Rattle.swarm_replicated.specs.declared.weights.Weights.{Weights}
use Rattle.swarm_replicated.proofs.weights.Weights.from.Goals as goal

pub loop-task-init : goal.loop-task-init
loop-task-init g c =
    let t = g.R.Rows.tables c.args.rows.now in
    let s = c.args.service.now in
    let all : c.into_iter-task-iterator.result ≡ filter (is_of s.id) t.tasks = search rules in
    record {
      same = refl;
      first = ap (λ (w : Weights). w.first) c.blank-weights.ensures;
      rest = begins t s c.blank-weights.result c.args.first c.into_iter-task-iterator.result c.blank-weights.ensures all;
    }

pub note-requires : goal.note-requires
note-requires g c =
    record { service = ap (λ (k : Counted). k.service) (c.loop-task.invariant.same ∙ c.requires.counts) }

pub loop-task-preserved : goal.loop-task-preserved
loop-task-preserved g c =
    let t = g.R.Rows.tables c.args.rows.now in
    let step : c.loop-task.task-iterator ≡ c.in-Some.task.now ∷ c.next.new.self = search rules in
    record {
      same = c.note.ensures.same ∙ c.loop-task.invariant.same;
      first = c.note.ensures.first ∙ c.loop-task.invariant.first;
      rest =
          steps t c.loop-task.crowds.tables c.args.service.now c.loop-task.weights c.note.new.self
          c.loop-task.task-iterator c.next.new.self c.in-Some.task.now
          (ap (λ (k : Counted). k.tables) (c.loop-task.invariant.same ∙ c.requires.counts)) step c.note.ensures.rest
          c.loop-task.invariant.rest;
    }

pub returns-clause-weighs : goal.returns-clause-weighs
returns-clause-weighs g c =
    let none : c.loop-task.task-iterator ≡ [] = search rules in
    ends (g.R.Rows.tables c.args.rows.now) c.args.service.now c.loop-task.weights c.loop-task.task-iterator none
    c.loop-task.invariant.rest
