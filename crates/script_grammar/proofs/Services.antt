-- The fields of a service and its draft say the same.
use Rattle.std.proofs.Common.{◌≡◌, ℕ, List, [], ◌∷◌, ◌++◌, true, cond, refl, ◌∙◌, ap, rules}
use Rattle.std.specs.List.{AllByRecursion}
use Rattle.swarm_objects.specs.declared.services.Mode.TheVariants as mode
use Rattle.swarm_objects.specs.declared.templates.End.TheVariants as end
use Rattle.swarm_objects.specs.declared.templates.RestartCondition.TheVariants as condition
use Rattle.swarm_objects.specs.declared.services.FailureAction.TheVariants as action
use Rattle.swarm_objects.specs.declared.services.UpdateOrder.TheVariants as order
use Rattle.script_grammar.specs.declared.fields.Field.{Field}
use Rattle.script_grammar.specs.declared.fields.Field.TheVariants as field
use Rattle.script_grammar.specs.declared.fields.Table.{Table}
use Rattle.script_grammar.specs.declared.fields.Table.TheVariants as table
use Rattle.script_grammar.specs.declared.fields.NumberField.{NumberField}
use Rattle.script_grammar.specs.declared.fields.NumberField.TheVariants as number
use Rattle.script_grammar.proofs.RowPieces.{Back, NoDefault, Remade, no_number_row, numbers, several, single}
use Rattle.script_grammar.proofs.FieldRows.{LooksAt}
use Rattle.script_grammar.proofs.Sorted.{Sorted, by_rows-sorted, has}
use Rattle.script_grammar.specs.Drafts.{constraint_in, draft_of, end_in, failure_in, host_in, mode_in, net_in, order_in, platform_in, port_in, restart_in, spread_in}
use Rattle.script_grammar.specs.Pieces.{condition_piece, end_piece, failure_piece, joined, mode_piece, order_piece, service_pieces}
use Rattle.script_grammar.specs.Tables.{belongs, number_belongs, number_row, row}

pub looks_mode : LooksAt 0 mode_in
looks_mode (field.Mode x) e = cc
looks_mode f e = refl

back_mode : (t : Table) → Back t 0 mode_in mode_piece
back_mode t (field.Mode (mode.Replicated n)) e d = (mode.Replicated n, refl, ap (λ b. cond b [] (field.Mode (mode.Replicated n) ∷ [])) d, refl)
back_mode t (field.Mode mode.Global) e d = (mode.Global, refl, refl, refl)
back_mode t (field.Mode (mode.Job c k)) e d = (mode.Job c k, refl, refl, refl)
back_mode t (field.Number w n) e d = absurd (no_number_row w 0 refl e)
back_mode t f e d = cc

pub looks_end : LooksAt 1 end_in
looks_end (field.End x) e = cc
looks_end f e = refl

back_end : (t : Table) → Back t 1 end_in end_piece
back_end t (field.End end.Never) e d = cc
back_end t (field.End (end.Exit ms code)) e d = (end.Exit ms code, refl, refl, refl)
back_end t (field.End end.Reject) e d = (end.Reject, refl, refl, refl)
back_end t (field.Number w n) e d = absurd (no_number_row w 1 refl e)
back_end t f e d = cc

pub looks_condition : LooksAt 20 restart_in
looks_condition (field.Restart x) e = cc
looks_condition f e = refl

back_condition : (t : Table) → Back t 20 restart_in condition_piece
back_condition t (field.Restart condition.Never) e d = (condition.Never, refl, refl, refl)
back_condition t (field.Restart condition.OnFailure) e d = (condition.OnFailure, refl, refl, refl)
back_condition t (field.Restart condition.Any) e d = cc
back_condition t (field.Number w n) e d = absurd (no_number_row w 20 refl e)
back_condition t f e d = cc

pub looks_failure : LooksAt 29 failure_in
looks_failure (field.Failure x) e = cc
looks_failure f e = refl

back_failure : (t : Table) → Back t 29 failure_in failure_piece
back_failure t (field.Failure action.Pause) e d = cc
back_failure t (field.Failure action.Continue) e d = (action.Continue, refl, refl, refl)
back_failure t (field.Failure action.Rollback) e d = (action.Rollback, refl, refl, refl)
back_failure t (field.Number w n) e d = absurd (no_number_row w 29 refl e)
back_failure t f e d = cc

pub looks_order : LooksAt 31 order_in
looks_order (field.Order x) e = cc
looks_order f e = refl

back_order : (t : Table) → Back t 31 order_in order_piece
back_order t (field.Order order.StopFirst) e d = cc
back_order t (field.Order order.StartFirst) e d = (order.StartFirst, refl, refl, refl)
back_order t (field.Number w n) e d = absurd (no_number_row w 31 refl e)
back_order t f e d = cc

pub looks_constraint : LooksAt 15 constraint_in
looks_constraint (field.Constraint x) e = cc
looks_constraint f e = refl

back_constraint : Remade 15 constraint_in field.Constraint
back_constraint (field.Constraint x) e = (x, refl, refl)
back_constraint (field.Number w n) e = absurd (no_number_row w 15 refl e)
back_constraint f e = cc

pub looks_spread : LooksAt 16 spread_in
looks_spread (field.Spread x) e = cc
looks_spread f e = refl

back_spread : Remade 16 spread_in field.Spread
back_spread (field.Spread x) e = (x, refl, refl)
back_spread (field.Number w n) e = absurd (no_number_row w 16 refl e)
back_spread f e = cc

pub looks_platform : LooksAt 17 platform_in
looks_platform (field.Platform x) e = cc
looks_platform f e = refl

back_platform : Remade 17 platform_in field.Platform
back_platform (field.Platform x) e = (x, refl, refl)
back_platform (field.Number w n) e = absurd (no_number_row w 17 refl e)
back_platform f e = cc

pub looks_net : LooksAt 19 net_in
looks_net (field.Net x) e = cc
looks_net f e = refl

back_net : Remade 19 net_in field.Net
back_net (field.Net x) e = (x, refl, refl)
back_net (field.Number w n) e = absurd (no_number_row w 19 refl e)
back_net f e = cc

pub looks_port : LooksAt 24 port_in
looks_port (field.Port x) e = cc
looks_port f e = refl

back_port : Remade 24 port_in field.Port
back_port (field.Port x) e = (x, refl, refl)
back_port (field.Number w n) e = absurd (no_number_row w 24 refl e)
back_port f e = cc

pub looks_host : LooksAt 25 host_in
looks_host (field.Host x) e = cc
looks_host f e = refl

back_host : Remade 25 host_in field.Host
back_host (field.Host x) e = (x, refl, refl)
back_host (field.Number w n) e = absurd (no_number_row w 25 refl e)
back_host f e = cc

abbrev pub service_rows : List ℕ
service_rows = 0 ∷ 1 ∷ 2 ∷ 3 ∷ 4 ∷ 8 ∷ 9 ∷ 15 ∷ 16 ∷ 17 ∷ 18 ∷ 19 ∷ 20 ∷ 21 ∷ 22 ∷ 23 ∷ 24 ∷ 25 ∷ 26 ∷ 27 ∷ 28 ∷ 29 ∷ 30 ∷ 31 ∷ []

number_has_row : (w : NumberField) → number_belongs table.Service w ≡ true → has (number_row w) service_rows ≡ true
number_has_row number.Prepare e = refl
number_has_row number.Start e = refl
number_has_row number.Stop e = refl
number_has_row number.Cpu e = refl
number_has_row number.Mem e = refl
number_has_row number.MaxReplicas e = refl
number_has_row number.RestartDelay e = refl
number_has_row number.RestartMax e = refl
number_has_row number.RestartWindow e = refl
number_has_row number.Parallelism e = refl
number_has_row number.UpdateDelay e = refl
number_has_row number.Monitor e = refl
number_has_row number.Ratio e = refl
number_has_row number.Heartbeat e = cc
number_has_row number.Orphan e = cc
number_has_row number.History e = cc

has_row : (f : Field) → belongs table.Service f ≡ true → has (row f) service_rows ≡ true
has_row (field.Number w n) e = number_has_row w e
has_row (field.Mode x) e = refl
has_row (field.End x) e = refl
has_row (field.Constraint x) e = refl
has_row (field.Spread x) e = refl
has_row (field.Platform x) e = refl
has_row (field.Net x) e = refl
has_row (field.Restart x) e = refl
has_row (field.Port x) e = refl
has_row (field.Host x) e = refl
has_row (field.Failure x) e = refl
has_row (field.Order x) e = refl
has_row f e = cc

all_have : (fs : List Field) → AllByRecursion (λ f. belongs table.Service f ≡ true) fs → AllByRecursion (λ f. has (row f) service_rows ≡ true) fs
all_have [] h = tt
all_have (f ∷ fs) h = (has_row f h.0, all_have fs h.1)

-- fields as a journal has them: each of the service's, none a default, one before the other
pub record IsCanonical (t : Table) (fs : List Field) : Type 0 where
  pub belong : AllByRecursion (λ f. belongs t f ≡ true) fs
  pub named : NoDefault t fs
  pub sorted : Sorted fs

then_rest : {A : Type 0} (xs ys us vs : List A) → xs ≡ ys → us ≡ vs → xs ++ us ≡ ys ++ vs
then_rest xs ys us vs e f = ap (λ zs. zs ++ us) e ∙ ap (λ zs. ys ++ zs) f

-- canonical fields are those that their draft writes
pub service_fields : (fs : List Field) → IsCanonical table.Service fs → joined (service_pieces (draft_of fs)) ≡ fs
service_fields fs c =
    then_rest _ _ _ _ (single table.Service 0 mode_in mode_piece (mode.Replicated 1) looks_mode (back_mode table.Service) refl fs c.sorted c.named) (
    then_rest _ _ _ _ (single table.Service 1 end_in end_piece end.Never looks_end (back_end table.Service) refl fs c.sorted c.named) (
    then_rest _ _ _ _ (numbers table.Service refl number.Prepare fs c.sorted c.named) (
    then_rest _ _ _ _ (numbers table.Service refl number.Start fs c.sorted c.named) (
    then_rest _ _ _ _ (numbers table.Service refl number.Stop fs c.sorted c.named) (
    then_rest _ _ _ _ (numbers table.Service refl number.Cpu fs c.sorted c.named) (
    then_rest _ _ _ _ (numbers table.Service refl number.Mem fs c.sorted c.named) (
    then_rest _ _ _ _ (several 15 constraint_in field.Constraint looks_constraint back_constraint fs) (
    then_rest _ _ _ _ (several 16 spread_in field.Spread looks_spread back_spread fs) (
    then_rest _ _ _ _ (several 17 platform_in field.Platform looks_platform back_platform fs) (
    then_rest _ _ _ _ (numbers table.Service refl number.MaxReplicas fs c.sorted c.named) (
    then_rest _ _ _ _ (several 19 net_in field.Net looks_net back_net fs) (
    then_rest _ _ _ _ (single table.Service 20 restart_in condition_piece condition.Any looks_condition (back_condition table.Service) refl fs c.sorted c.named) (
    then_rest _ _ _ _ (numbers table.Service refl number.RestartDelay fs c.sorted c.named) (
    then_rest _ _ _ _ (numbers table.Service refl number.RestartMax fs c.sorted c.named) (
    then_rest _ _ _ _ (numbers table.Service refl number.RestartWindow fs c.sorted c.named) (
    then_rest _ _ _ _ (several 24 port_in field.Port looks_port back_port fs) (
    then_rest _ _ _ _ (several 25 host_in field.Host looks_host back_host fs) (
    then_rest _ _ _ _ (numbers table.Service refl number.Parallelism fs c.sorted c.named) (
    then_rest _ _ _ _ (numbers table.Service refl number.UpdateDelay fs c.sorted c.named) (
    then_rest _ _ _ _ (numbers table.Service refl number.Monitor fs c.sorted c.named) (
    then_rest _ _ _ _ (single table.Service 29 failure_in failure_piece action.Pause looks_failure (back_failure table.Service) refl fs c.sorted c.named) (
    then_rest _ _ _ _ (numbers table.Service refl number.Ratio fs c.sorted c.named) (
    then_rest _ _ _ _ (single table.Service 31 order_in order_piece order.StopFirst looks_order (back_order table.Service) refl fs c.sorted c.named) (
    refl))))))))))))))))))))))))
    ∙ by_rows-sorted 0 service_rows fs (search rules) c.sorted (all_have fs c.belong)
