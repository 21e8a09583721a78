-- The draft of a service and its fields.
use Rattle.std.proofs.Common.{◌≡◌, ℕ, List, [], ◌∷◌, ◌++◌, map, Bool, true, false, cond, refl, sym, ap, Option, arith, nat_eq}
use Rattle.std.specs.List.{filter_map}
use Rattle.script_grammar.proofs.PieceRows.{IsPiece, none_piece, one_piece, many_piece, test_piece, number_is, ArePieces, number_back, list_back, row_once, row_all}
use Rattle.script_grammar.proofs.RowPieces.{looks_number}
use Rattle.script_grammar.proofs.FieldRows.{LooksAt, Pieces, flat, number_same, pick}
use Rattle.script_grammar.proofs.Services.{looks_condition, looks_constraint, looks_end, looks_failure, looks_host, looks_mode, looks_net, looks_order, looks_platform, looks_port, looks_spread}
use Rattle.script_grammar.specs.Drafts.{constraint_in, draft_of, end_in, failure_in, host_in, mode_in, named_or, net_in, number_in, number_named, order_in, platform_in, port_in, restart_in, spread_in}
use Rattle.script_grammar.specs.Pieces.{condition_piece, end_piece, failure_piece, mode_piece, number_piece, order_piece}
use Rattle.script_grammar.specs.Tables.{number_default, usual_replicas}
use Rattle.swarm_objects.specs.Defaults.{usual_mode}
use Rattle.swarm_objects.specs.declared.services.Mode.{Mode}
use Rattle.swarm_objects.specs.declared.services.Mode.TheVariants as mode
use Rattle.swarm_objects.specs.declared.templates.End.{End}
use Rattle.swarm_objects.specs.declared.templates.RestartCondition.{RestartCondition}
use Rattle.swarm_objects.specs.declared.services.FailureAction.{FailureAction}
use Rattle.swarm_objects.specs.declared.services.UpdateOrder.{UpdateOrder}
use Rattle.swarm_objects.specs.declared.templates.End.TheVariants as end
use Rattle.swarm_objects.specs.declared.templates.RestartCondition.TheVariants as condition
use Rattle.swarm_objects.specs.declared.services.FailureAction.TheVariants as action
use Rattle.swarm_objects.specs.declared.services.UpdateOrder.TheVariants as order
use Rattle.swarm_objects.specs.declared.services.Draft.{Draft}
use Rattle.script_grammar.specs.declared.fields.Field.{Field}
use Rattle.script_grammar.specs.declared.fields.Field.TheVariants as field
use Rattle.script_grammar.specs.declared.fields.Table.TheVariants as table
use Rattle.script_grammar.specs.declared.fields.NumberField.TheVariants as number

mode_is : (m : Mode) → IsPiece table.Service 0 (mode_piece m)
mode_is (mode.Replicated n) = test_piece table.Service 0 (field.Mode (mode.Replicated n)) (nat_eq n 1) refl refl refl
mode_is mode.Global = one_piece table.Service 0 (field.Mode mode.Global) refl refl refl
mode_is (mode.Job c k) = one_piece table.Service 0 (field.Mode (mode.Job c k)) refl refl refl

end_is : (e : End) → IsPiece table.Service 1 (end_piece e)
end_is end.Never = none_piece table.Service 1
end_is (end.Exit ms code) = one_piece table.Service 1 (field.End (end.Exit ms code)) refl refl refl
end_is end.Reject = one_piece table.Service 1 (field.End end.Reject) refl refl refl

condition_is : (c : RestartCondition) → IsPiece table.Service 20 (condition_piece c)
condition_is condition.Any = none_piece table.Service 20
condition_is condition.Never = one_piece table.Service 20 (field.Restart condition.Never) refl refl refl
condition_is condition.OnFailure = one_piece table.Service 20 (field.Restart condition.OnFailure) refl refl refl

failure_is : (a : FailureAction) → IsPiece table.Service 29 (failure_piece a)
failure_is action.Pause = none_piece table.Service 29
failure_is action.Continue = one_piece table.Service 29 (field.Failure action.Continue) refl refl refl
failure_is action.Rollback = one_piece table.Service 29 (field.Failure action.Rollback) refl refl refl

order_is : (o : UpdateOrder) → IsPiece table.Service 31 (order_piece o)
order_is order.StopFirst = none_piece table.Service 31
order_is order.StartFirst = one_piece table.Service 31 (field.Order order.StartFirst) refl refl refl

abbrev pub service_table : Draft → Pieces
service_table d =
    (0, mode_piece d.spec.mode) ∷
    (1, end_piece d.spec.template.workload.end) ∷
    (2, number_piece table.Service number.Prepare d.spec.template.workload.prepare) ∷
    (3, number_piece table.Service number.Start d.spec.template.workload.start) ∷
    (4, number_piece table.Service number.Stop d.spec.template.workload.stop) ∷
    (8, number_piece table.Service number.Cpu d.spec.template.cpu) ∷
    (9, number_piece table.Service number.Mem d.spec.template.mem) ∷
    (15, map field.Constraint d.spec.template.constraints) ∷
    (16, map field.Spread d.spec.template.spread) ∷
    (17, map field.Platform d.spec.template.platforms) ∷
    (18, number_piece table.Service number.MaxReplicas d.spec.template.max_replicas) ∷
    (19, map field.Net d.networks) ∷
    (20, condition_piece d.spec.template.restart.condition) ∷
    (21, number_piece table.Service number.RestartDelay d.spec.template.restart.delay) ∷
    (22, number_piece table.Service number.RestartMax d.spec.template.restart.max_attempts) ∷
    (23, number_piece table.Service number.RestartWindow d.spec.template.restart.window) ∷
    (24, map field.Port d.spec.ports) ∷
    (25, map field.Host d.spec.template.host_ports) ∷
    (26, number_piece table.Service number.Parallelism d.spec.update.parallelism) ∷
    (27, number_piece table.Service number.UpdateDelay d.spec.update.delay) ∷
    (28, number_piece table.Service number.Monitor d.spec.update.monitor) ∷
    (29, failure_piece d.spec.update.action) ∷
    (30, number_piece table.Service number.Ratio d.spec.update.ratio) ∷
    (31, order_piece d.spec.update.order) ∷
    []

pub service_is : (d : Draft) → ArePieces table.Service 0 (service_table d)
service_is d = (
  omega arith,
  mode_is d.spec.mode,
  (
    omega arith,
    end_is d.spec.template.workload.end,
    (
      omega arith,
      number_is table.Service number.Prepare d.spec.template.workload.prepare refl refl,
      (
        omega arith,
        number_is table.Service number.Start d.spec.template.workload.start refl refl,
        (
          omega arith,
          number_is table.Service number.Stop d.spec.template.workload.stop refl refl,
          (
            omega arith,
            number_is table.Service number.Cpu d.spec.template.cpu refl refl,
            (
              omega arith,
              number_is table.Service number.Mem d.spec.template.mem refl refl,
              (
                omega arith,
                many_piece table.Service 15 field.Constraint (λ x. refl) (λ x. refl) (λ x. refl) (λ x y. refl) d.spec.template.constraints,
                (
                  omega arith,
                  many_piece table.Service 16 field.Spread (λ x. refl) (λ x. refl) (λ x. refl) (λ x y. refl) d.spec.template.spread,
                  (
                    omega arith,
                    many_piece table.Service 17 field.Platform (λ x. refl) (λ x. refl) (λ x. refl) (λ x y. refl) d.spec.template.platforms,
                    (
                      omega arith,
                      number_is table.Service number.MaxReplicas d.spec.template.max_replicas refl refl,
                      (
                        omega arith,
                        many_piece table.Service 19 field.Net (λ x. refl) (λ x. refl) (λ x. refl) (λ x y. refl) d.networks,
                        (
                          omega arith,
                          condition_is d.spec.template.restart.condition,
                          (
                            omega arith,
                            number_is table.Service number.RestartDelay d.spec.template.restart.delay refl refl,
                            (
                              omega arith,
                              number_is table.Service number.RestartMax d.spec.template.restart.max_attempts refl refl,
                              (
                                omega arith,
                                number_is table.Service number.RestartWindow d.spec.template.restart.window refl refl,
                                (
                                  omega arith,
                                  many_piece table.Service 24 field.Port (λ x. refl) (λ x. refl) (λ x. refl) (λ x y. refl) d.spec.ports,
                                  (
                                    omega arith,
                                    many_piece table.Service 25 field.Host (λ x. refl) (λ x. refl) (λ x. refl) (λ x y. refl) d.spec.template.host_ports,
                                    (
                                      omega arith,
                                      number_is table.Service number.Parallelism d.spec.update.parallelism refl refl,
                                      (
                                        omega arith,
                                        number_is table.Service number.UpdateDelay d.spec.update.delay refl refl,
                                        (
                                          omega arith,
                                          number_is table.Service number.Monitor d.spec.update.monitor refl refl,
                                          (
                                            omega arith,
                                            failure_is d.spec.update.action,
                                            (
                                              omega arith,
                                              number_is table.Service number.Ratio d.spec.update.ratio refl refl,
                                              (
                                                omega arith,
                                                order_is d.spec.update.order,
                                                tt,
                                              ),
                                            ),
                                          ),
                                        ),
                                      ),
                                    ),
                                  ),
                                ),
                              ),
                            ),
                          ),
                        ),
                      ),
                    ),
                  ),
                ),
              ),
            ),
          ),
        ),
      ),
    ),
  ),
)

-- ## Reading the pieces back

mode_back : (m : Mode) → named_or mode_in usual_mode (mode_piece m ++ []) ≡ m
mode_back (mode.Replicated n) = go (nat_eq n 1) refl where
  go : (b : Bool) → nat_eq n usual_replicas ≡ b → named_or mode_in usual_mode (cond b [] (field.Mode (mode.Replicated n) ∷ []) ++ []) ≡ mode.Replicated n
  go true e = ap mode.Replicated (sym (number_same n 1 e))
  go false e = refl
mode_back mode.Global = refl
mode_back (mode.Job c k) = refl

end_back : (e : End) → named_or end_in end.Never (end_piece e ++ []) ≡ e
end_back end.Never = refl
end_back (end.Exit ms code) = refl
end_back end.Reject = refl

condition_back : (c : RestartCondition) → named_or restart_in condition.Any (condition_piece c ++ []) ≡ c
condition_back condition.Any = refl
condition_back condition.Never = refl
condition_back condition.OnFailure = refl

failure_back : (a : FailureAction) → named_or failure_in action.Pause (failure_piece a ++ []) ≡ a
failure_back action.Pause = refl
failure_back action.Continue = refl
failure_back action.Rollback = refl

order_back : (o : UpdateOrder) → named_or order_in order.StopFirst (order_piece o ++ []) ≡ o
order_back order.StopFirst = refl
order_back order.StartFirst = refl

once : {A : Type 0} (d : Draft) (r : ℕ) (p : Field → Option A) (x v : A) → LooksAt r p → named_or p x (pick r (service_table d)) ≡ v → named_or p x (flat (service_table d)) ≡ v
once d r p x v looks h = row_once table.Service 0 (service_table d) (service_is d) r p x v looks h

each : {A : Type 0} (d : Draft) (r : ℕ) (p : Field → Option A) (v : List A) → LooksAt r p → filter_map p (pick r (service_table d)) ≡ v → filter_map p (flat (service_table d)) ≡ v
each d r p v looks h = row_all table.Service 0 (service_table d) (service_is d) r p v looks h

-- the draft of the fields that a draft writes is the draft
pub service_draft : (d : Draft) → d.spec.template.networks ≡ [] → draft_of (flat (service_table d)) ≡ d
service_draft d none =
    let e0 : named_or mode_in usual_mode (flat (service_table d)) ≡ d.spec.mode = once d 0 mode_in usual_mode d.spec.mode looks_mode (mode_back d.spec.mode) in
    let e1 : named_or end_in end.Never (flat (service_table d)) ≡ d.spec.template.workload.end = once d 1 end_in end.Never d.spec.template.workload.end looks_end (end_back d.spec.template.workload.end) in
    let e2 : number_named table.Service number.Prepare (flat (service_table d)) ≡ d.spec.template.workload.prepare = once d 2 (number_in number.Prepare) (number_default table.Service number.Prepare) d.spec.template.workload.prepare (looks_number number.Prepare) (number_back table.Service number.Prepare d.spec.template.workload.prepare) in
    let e3 : number_named table.Service number.Start (flat (service_table d)) ≡ d.spec.template.workload.start = once d 3 (number_in number.Start) (number_default table.Service number.Start) d.spec.template.workload.start (looks_number number.Start) (number_back table.Service number.Start d.spec.template.workload.start) in
    let e4 : number_named table.Service number.Stop (flat (service_table d)) ≡ d.spec.template.workload.stop = once d 4 (number_in number.Stop) (number_default table.Service number.Stop) d.spec.template.workload.stop (looks_number number.Stop) (number_back table.Service number.Stop d.spec.template.workload.stop) in
    let e8 : number_named table.Service number.Cpu (flat (service_table d)) ≡ d.spec.template.cpu = once d 8 (number_in number.Cpu) (number_default table.Service number.Cpu) d.spec.template.cpu (looks_number number.Cpu) (number_back table.Service number.Cpu d.spec.template.cpu) in
    let e9 : number_named table.Service number.Mem (flat (service_table d)) ≡ d.spec.template.mem = once d 9 (number_in number.Mem) (number_default table.Service number.Mem) d.spec.template.mem (looks_number number.Mem) (number_back table.Service number.Mem d.spec.template.mem) in
    let e15 : filter_map constraint_in (flat (service_table d)) ≡ d.spec.template.constraints = each d 15 constraint_in d.spec.template.constraints looks_constraint (list_back constraint_in field.Constraint (λ x. refl) d.spec.template.constraints) in
    let e16 : filter_map spread_in (flat (service_table d)) ≡ d.spec.template.spread = each d 16 spread_in d.spec.template.spread looks_spread (list_back spread_in field.Spread (λ x. refl) d.spec.template.spread) in
    let e17 : filter_map platform_in (flat (service_table d)) ≡ d.spec.template.platforms = each d 17 platform_in d.spec.template.platforms looks_platform (list_back platform_in field.Platform (λ x. refl) d.spec.template.platforms) in
    let e18 : number_named table.Service number.MaxReplicas (flat (service_table d)) ≡ d.spec.template.max_replicas = once d 18 (number_in number.MaxReplicas) (number_default table.Service number.MaxReplicas) d.spec.template.max_replicas (looks_number number.MaxReplicas) (number_back table.Service number.MaxReplicas d.spec.template.max_replicas) in
    let e19 : filter_map net_in (flat (service_table d)) ≡ d.networks = each d 19 net_in d.networks looks_net (list_back net_in field.Net (λ x. refl) d.networks) in
    let e20 : named_or restart_in condition.Any (flat (service_table d)) ≡ d.spec.template.restart.condition = once d 20 restart_in condition.Any d.spec.template.restart.condition looks_condition (condition_back d.spec.template.restart.condition) in
    let e21 : number_named table.Service number.RestartDelay (flat (service_table d)) ≡ d.spec.template.restart.delay = once d 21 (number_in number.RestartDelay) (number_default table.Service number.RestartDelay) d.spec.template.restart.delay (looks_number number.RestartDelay) (number_back table.Service number.RestartDelay d.spec.template.restart.delay) in
    let e22 : number_named table.Service number.RestartMax (flat (service_table d)) ≡ d.spec.template.restart.max_attempts = once d 22 (number_in number.RestartMax) (number_default table.Service number.RestartMax) d.spec.template.restart.max_attempts (looks_number number.RestartMax) (number_back table.Service number.RestartMax d.spec.template.restart.max_attempts) in
    let e23 : number_named table.Service number.RestartWindow (flat (service_table d)) ≡ d.spec.template.restart.window = once d 23 (number_in number.RestartWindow) (number_default table.Service number.RestartWindow) d.spec.template.restart.window (looks_number number.RestartWindow) (number_back table.Service number.RestartWindow d.spec.template.restart.window) in
    let e24 : filter_map port_in (flat (service_table d)) ≡ d.spec.ports = each d 24 port_in d.spec.ports looks_port (list_back port_in field.Port (λ x. refl) d.spec.ports) in
    let e25 : filter_map host_in (flat (service_table d)) ≡ d.spec.template.host_ports = each d 25 host_in d.spec.template.host_ports looks_host (list_back host_in field.Host (λ x. refl) d.spec.template.host_ports) in
    let e26 : number_named table.Service number.Parallelism (flat (service_table d)) ≡ d.spec.update.parallelism = once d 26 (number_in number.Parallelism) (number_default table.Service number.Parallelism) d.spec.update.parallelism (looks_number number.Parallelism) (number_back table.Service number.Parallelism d.spec.update.parallelism) in
    let e27 : number_named table.Service number.UpdateDelay (flat (service_table d)) ≡ d.spec.update.delay = once d 27 (number_in number.UpdateDelay) (number_default table.Service number.UpdateDelay) d.spec.update.delay (looks_number number.UpdateDelay) (number_back table.Service number.UpdateDelay d.spec.update.delay) in
    let e28 : number_named table.Service number.Monitor (flat (service_table d)) ≡ d.spec.update.monitor = once d 28 (number_in number.Monitor) (number_default table.Service number.Monitor) d.spec.update.monitor (looks_number number.Monitor) (number_back table.Service number.Monitor d.spec.update.monitor) in
    let e29 : named_or failure_in action.Pause (flat (service_table d)) ≡ d.spec.update.action = once d 29 failure_in action.Pause d.spec.update.action looks_failure (failure_back d.spec.update.action) in
    let e30 : number_named table.Service number.Ratio (flat (service_table d)) ≡ d.spec.update.ratio = once d 30 (number_in number.Ratio) (number_default table.Service number.Ratio) d.spec.update.ratio (looks_number number.Ratio) (number_back table.Service number.Ratio d.spec.update.ratio) in
    let e31 : named_or order_in order.StopFirst (flat (service_table d)) ≡ d.spec.update.order = once d 31 order_in order.StopFirst d.spec.update.order looks_order (order_back d.spec.update.order) in
    let no = sym none in
    λ i. record {
      spec = record {
        mode = e0 i;
        template = record {
          workload = record { prepare = e2 i; start = e3 i; stop = e4 i; end = e1 i };
          cpu = e8 i;
          mem = e9 i;
          constraints = e15 i;
          spread = e16 i;
          platforms = e17 i;
          max_replicas = e18 i;
          networks = no i;
          host_ports = e25 i;
          restart = record { condition = e20 i; delay = e21 i; max_attempts = e22 i; window = e23 i };
        };
        ports = e24 i;
        update = record { parallelism = e26 i; delay = e27 i; monitor = e28 i; action = e29 i; ratio = e30 i; order = e31 i };
      };
      networks = e19 i;
    }
