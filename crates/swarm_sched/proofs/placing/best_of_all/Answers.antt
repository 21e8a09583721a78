use Rattle.std.proofs.Common.{List, None, ap, ◌∙◌}
use Rattle.std.specs.Prelude.{filter}
use Rattle.swarm_filters.proofs.Filtering.{best_is}
use Rattle.swarm_filters.specs.Tested.{is_open}
use Rattle.swarm_objects.specs.Nodes.BestNode.{node_cmp}
use Rattle.swarm_objects.specs.Rows.{least_by}
use Rattle.swarm_objects.specs.declared.nodes.Node.{Node}
use Rattle.swarm_objects.specs.declared.templates.Key.{Key}
use Rattle.swarm_objects.specs.declared.templates.Template.{Template}
use Rattle.swarm_sched.proofs.placing.best_of_all.Goals as goal

pub loop-node-init : goal.loop-node-init
loop-node-init g c =
    let t = g.R.Rows.tables c.args.rows.now in
    let x = c.args.task.now in
    record {
      best = ap (λ (nodes : List Node). least_by (node_cmp t x) None (filter (is_open t x) nodes))
          (c.into_iter-node-iterator.ensures.into_iter_gives ∙ c.nodes-node-items.ensures)
          ∙ best_is t x;
      held = tt;
      knows = c.requires.knows;
      own = c.new-branches.ensures
          ∙ ap (λ (keys : List Key). record { tables = t; service = x.service; keys = keys })
          (c.as_slice.ensures ∙ ap (λ (m : Template). m.spread) c.deref.ensures);
    }
