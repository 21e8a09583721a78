use Rattle.std.proofs.Common.{None, ap, rules, ◌∙◌, ◌≡◌}
use Rattle.swarm_objects.specs.Loops.Replicated.{down_cmp}
use Rattle.swarm_objects.specs.Rows.{least_by}
use Rattle.swarm_plain.specs.Plain.{tables_of}
use Rattle.role_words.proofs.Tallying.{held_all}
use Rattle.role_words.specs.Slots.{held_numbers, slots}
use Rattle.plain_orchestrators.proofs.replicated.first_to_go.Goals as goal

pub loop-slot-init : goal.loop-slot-init
loop-slot-init c =
    let t = tables_of c.args.plain.now in
    let s = c.args.service.now in
    let all : c.into_iter-slot-iterator.result ≡ slots s t.tasks = search rules in
    ap (λ xs. least_by (down_cmp t s) None (held_numbers xs)) all ∙ ap (least_by (down_cmp t s) None) (held_all t s)
