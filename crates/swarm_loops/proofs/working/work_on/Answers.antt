use Rattle.std.proofs.Common.{◌≡◌, ◌≤◌, arith, sym, ◌∙◌, subst, refl}
use Rattle.turn_cell.specs.Entries.{StartsWith}
use Rattle.turn_cell.specs.Passes.{number_of, seen, known, mine}
use Rattle.swarm_loops.specs.Turns.{AddsTurns}
use Rattle.swarm_loops.proofs.Adding.{adds_then, adds_moved, starts_then}
use Rattle.swarm_loops.proofs.working.work_on.Goals as goal

pub loop-preserved : goal.loop-preserved
loop-preserved g c =
    let i = c.loop.invariant in
    let t = c.make_turn.ensures in
    let r = c.rest_if_idle-idle.ensures in
    let p = c.args.pass.now in
    let q = c.loop.pass in
    let s = c.make_turn.new.pass in
    let u = c.rest_if_idle-idle.new.pass in
    let roles = c.args.roles.now in
    let same : seen u ≡ seen s = r.seen.0 in (
      tt,
      tt,
      r.pass.0,
      r.pass.1 ∙ t.extends.0 ∙ i.3,
      subst (λ l. StartsWith l (seen p)) (sym same) (starts_then (seen p) (seen q) (seen s) i.4 t.extends.1.0),
      omega (arith, i.5, t.extends.1.1, t.known, r.known),
      c.after-place.ensures,
      r.idle,
      adds_moved roles (mine p) (mine s) (mine u) (seen s) (seen u) (sym r.seen.1) (sym same)
          (adds_then roles (mine p) (mine q) (mine s) (seen q) (seen s) t.extends.1.0 i.8 t.adds),
    )
