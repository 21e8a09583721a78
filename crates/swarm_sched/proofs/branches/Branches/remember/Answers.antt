use Rattle.std.proofs.Common.{Some, arith, subst, sym, ◌∙◌, ◌≡◌}
use Rattle.std.proofs.lemmas.List.{length-set}
use Rattle.swarm_sched.proofs.Branching.{known-more}
use Rattle.swarm_sched.proofs.branches.Branches.remember.Goals as goal
use Rattle.swarm_sched.specs.Inside.Branches.{load_at}
use Rattle.swarm_sched.specs.declared.branches.Known.{Known}

pub invariant_of-self : goal.invariant_of-self
invariant_of-self g c =
    let b = c.self.inside in
    let load : c.args.load ≡ load_at (record {
      tables = g.R.Rows.tables b.rows.now;
      service = b.service;
      keys =
          b.keys.now;
    }) c.args.depth c.args.node.now =
    subst (λ p. c.args.load ≡ load_at p c.args.depth c.args.node.now) (sym c.self.view_is) c.requires.load in
    let one : Known =
    record {
      depth = c.args.depth;
      node = c.args.node;
      text = c.last_text-text.result;
      load = c.args.load;
    } in (
      c.self.invariant.0,
      known-more (record { tables = g.R.Rows.tables b.rows.now; service = b.service; keys = b.keys.now }) b.known b.next
          one c.self.invariant.1 (record { load = load; text = c.last_text-text.ensures }),
      length-set b.known b.next (Some one) ∙ c.self.invariant.2,
      omega arith,
    )
