use Rattle.std.proofs.Common.{◌≡◌, ◌≤◌, ◌∙◌, Some, false, ap, subst, sym, arith}
use Rattle.std.specs.List.{list_any}
use Rattle.std.specs.Prelude.{IfSome, nat_lt}
use Rattle.std.proofs.lemmas.Bool.Decides.{nat_tests}
use Rattle.swarm_objects.specs.declared.services.Service.{Service}
use Rattle.store_ports.proofs.Rows.{no_other}
use Rattle.store_ports.specs.Counts.{count_of, is_other, known, times_in}
use Rattle.swarm_store.proofs.service_rows.Services.may_hold.Goals as goal
use Rattle.swarm_store.specs.Inside.Span.{Track}

pub returns-in-Some : goal.returns-in-Some
returns-in-Some c = λ (few : nat_lt c.own_times.result c.in-Some.times ≡ false).
    let rows = c.self.inside.rows.rows in
    let told : known (count_of c.args.udp c.self.inside.ports c.args.number) ≡ Some c.in-Some.times =
    sym c.times.ensures ∙ c.in-Some.is in
    let all : c.in-Some.times ≡ times_in c.args.udp c.args.number rows =
    subst (λ o. IfSome o (λ times. times ≡ times_in c.args.udp c.args.number rows)) told
    (c.self.invariant c.args.udp c.args.number) in
    let most : c.in-Some.times ≤ c.own_times.result = grind (arith, nat_tests, few) in
    ap (λ (t : Track Service). list_any (is_other c.args.own c.args.udp c.args.number) t.rows) (sym c.self.view_is)
    ∙ no_other c.args.own c.args.udp c.args.number c.in-Some.times c.own_times.result rows c.rise.ensures all c.own_times.ensures most
