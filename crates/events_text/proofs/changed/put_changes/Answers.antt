use Rattle.std.proofs.Common.{◌∙◌, ap, sym, length, arith}
use Rattle.swarm_plain.proofs.Merging.{rest-rises, rests-shorter}
use Rattle.events_text.proofs.Merged.{put-end, put-next}
use Rattle.events_text.proofs.changed.put_changes.Goals as goal

pub loop-id-smaller : goal.loop-id-smaller
loop-id-smaller g c =
    let less = rests-shorter g.T.Keyed.key_of c.in-Some.id c.loop-id.old.now c.loop-id.new.now (sym c.least_key.ensures ∙ c.in-Some.is) in
    omega (arith, less, ap length c.rest_at-old.ensures, ap length c.rest_at-new.ensures)

pub loop-id-preserved : goal.loop-id-preserved
loop-id-preserved g c = record {
  old = rest-rises g.T.Keyed.key_of c.in-Some.id c.loop-id.old.now _ c.loop-id.invariant.old c.rest_at-old.ensures;
  new = rest-rises g.T.Keyed.key_of c.in-Some.id c.loop-id.new.now _ c.loop-id.invariant.new c.rest_at-new.ensures;
  told = λ same decides.
      put-next c.args.entry c.args.kind g.T.Keyed.key_of same c.in-Some.id c.loop-id.old.now c.loop-id.new.now
      c.rest_at-old.result.now c.rest_at-new.result.now c.loop-id.events c.put_event.new.events c.change_at-verb.result
      c.loop-id.invariant.old c.loop-id.invariant.new (sym c.least_key.ensures ∙ c.in-Some.is)
      (c.change_at-verb.ensures same decides) c.in_ok-put_event.ensures c.rest_at-old.ensures c.rest_at-new.ensures
      ∙ c.loop-id.invariant.told same decides;
}

pub returns : goal.returns
returns g c = λ same decides.
    put-end c.args.entry c.args.kind g.T.Keyed.key_of same c.loop-id.old.now c.loop-id.new.now c.loop-id.events _
    (sym c.least_key.ensures ∙ c.in_default.is) (c.loop-id.invariant.told same decides)
