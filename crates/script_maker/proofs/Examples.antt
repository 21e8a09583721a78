-- The first lines of the script of 0, and the first of later parts.
use Rattle.std.proofs.Common.{◌≡◌, refl, codes}
use Rattle.std.specs.Fmt.{digits}
use Rattle.script_maker.specs.Draws.{draw, given, next_state, state_after}
use Rattle.script_maker.specs.Script.{by_zone, changed, drawn_line, fail_line, node_line, service_line, sizes, update_line}

first_node : drawn_line node_line 7 4 0 1 ≡ codes "node join n1 cpu=2000 label=zone:z0\n"
unfolding digits state_after
first_node = refl

second_node : drawn_line node_line 7 4 0 2 ≡ codes "node join n2 cpu=8000 label=zone:z1\n"
unfolding digits state_after
second_node = refl

last_node : drawn_line node_line 7 4 0 20 ≡ codes "node join n20 cpu=7000 label=zone:z2\n"
unfolding digits state_after
last_node = refl

first_service : drawn_line service_line 5 6 (state_after 40 0) 1 ≡ codes "service create s1 replicas=5 cpu=200 spread=node.labels.zone\n"
unfolding digits state_after by_zone sizes
first_service = refl

first_update : drawn_line update_line 5 6 (state_after 100 (state_after 40 0)) 1 ≡ codes "service update s1 replicas=1 cpu=400 start=2 spread=node.labels.zone parallelism=2\n"
unfolding digits state_after by_zone changed sizes
first_update = refl

failing_node : fail_line (given (next_state (state_after 20 (state_after 100 (state_after 40 0)))) 20) ≡ codes "node fail n12\n"
unfolding digits state_after
failing_node = refl
