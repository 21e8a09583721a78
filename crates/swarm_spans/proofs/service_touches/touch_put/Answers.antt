use Rattle.std.proofs.Common.{ap, ◌∙◌}
use Rattle.swarm_spans.proofs.Services.Touching.{put_new, put_other}
use Rattle.swarm_spans.proofs.service_touches.touch_put.Goals as goal
use Rattle.swarm_spans.proofs.service_touches.touch_put.Goals.{in-Some+else-is_same, in_default+else-is_quiet}
use Rattle.swarm_spans.specs.Spans.{with_id}

pub returns-clause-has : goal.returns-clause-has
returns-clause-has g c =
    let t = g.R.Rows.tables c.args.rows.now in
    let x = c.args.new.now in
    elim c.match-task.branch [
      | in-Some+else-is_same w ↦
          put_other (g.S.Sight.quiet t) (g.S.Sight.see t) t x w.in-Some.old.now c.args.span.now w.add.new.self
          c.add-2.new.self w.in-Some.ensures w.add.ensures
          (c.add-2.ensures ∙ ap (λ s. with_id s x.service) w.span-is)
      | in_default+else-is_quiet w ↦
          put_new (g.S.Sight.quiet t) (g.S.Sight.see t) t x c.args.span.now c.add-2.new.self w.in_default.ensures
          (c.add-2.ensures ∙ ap (λ s. with_id s x.service) w.span-is)
    ]
