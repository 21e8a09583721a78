use Rattle.std.proofs.Common.{List, ap, subst, sym, ◌∙◌}
use Rattle.swarm_model.specs.History.{IsLegal, replay}
use Rattle.swarm_model.specs.Settle.{settle_answer}
use Rattle.swarm_objects.specs.declared.calls.Entry.{Entry}
use Rattle.swarm_world.proofs.Lawful.{lawful}
use Rattle.swarm_world.proofs.world.World.settled.Goals as goal
use Rattle.swarm_world.specs.Inside.Parts.{StandsFor}
use Rattle.swarm_world.specs.declared.parts.Parts.{Parts}

pub settle-requires-clause-at : goal.settle-requires-clause-at
settle-requires-clause-at c =
    let H = c.self.inside.history.items in
    record {
      history = H;
      legal = c.self.invariant.legal;
      stands =
          subst (λ (p : Parts). StandsFor p (replay H)) (sym c.deref-parts.ensures) c.self.invariant.stands;
    }

pub returns : goal.returns
returns c = record {
  answer =
      c.settle.ensures.answer c.self.inside.history.items
      (subst (λ (p : Parts). StandsFor p (replay c.self.inside.history.items)) (sym c.deref-parts.ensures)
      c.self.invariant.stands)
      ∙ ap (λ (h : List Entry). settle_answer (replay h)) c.self.view_is;
  lawful = lawful _ (subst IsLegal c.self.view_is c.self.invariant.legal);
}
