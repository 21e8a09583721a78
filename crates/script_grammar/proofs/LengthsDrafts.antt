-- What fields say together is written in no more bytes than the fields.
use Rattle.std.proofs.Common.{◌≡◌, ℕ, ◌≤◌, ◌+◌, List, [], ◌∷◌, ◌++◌, take, drop, zero, suc, map, length, codes, Bool, true, false, cond, refl, sym, ◌∙◌, ap, subst, Option, Some, None, arith, nat_eq, rules}
use Rattle.std.specs.List.{cons_option, filter_map}
use Rattle.std.specs.Option.{option_or}
use Rattle.std.specs.Prelude.{unwrap_or}
use Rattle.std.proofs.lemmas.Bool.Decides.{nat_tests}
use Rattle.std.proofs.lemmas.Option.{same_Some}
use Rattle.swarm_objects.specs.declared.nodes.Availability.TheVariants as availability
use Rattle.swarm_objects.specs.declared.nodes.NodeRole.TheVariants as role
use Rattle.swarm_objects.specs.declared.services.FailureAction.TheVariants as action
use Rattle.swarm_objects.specs.declared.services.Mode.TheVariants as mode
use Rattle.swarm_objects.specs.declared.services.UpdateOrder.TheVariants as order
use Rattle.swarm_objects.specs.declared.templates.End.TheVariants as end
use Rattle.swarm_objects.specs.declared.templates.RestartCondition.TheVariants as condition
use Rattle.script_grammar.specs.declared.fields.Field.{Field}
use Rattle.script_grammar.specs.declared.fields.Field.TheVariants as field
use Rattle.script_grammar.specs.declared.fields.Head.{Head}
use Rattle.script_grammar.specs.declared.fields.Head.TheVariants as head
use Rattle.script_grammar.specs.declared.fields.NumberField.{NumberField}
use Rattle.script_grammar.specs.declared.fields.NumberField.TheVariants as number
use Rattle.script_grammar.specs.declared.fields.Table.{Table}
use Rattle.script_grammar.specs.declared.fields.Table.TheVariants as table
use Rattle.script_grammar.proofs.FieldRows.{LooksAt, at_row, same_number}
use Rattle.script_grammar.proofs.Nodes.{Labels, looks_arch, looks_availability, looks_engine, looks_label, looks_os, looks_remote, looks_role}
use Rattle.script_grammar.proofs.OneSpelling.{head_words}
use Rattle.script_grammar.proofs.RowPieces.{looks_number, same_which}
use Rattle.script_grammar.proofs.Services.{looks_condition, looks_constraint, looks_end, looks_failure, looks_host, looks_mode, looks_net, looks_order, looks_platform, looks_port, looks_spread, service_rows}
use Rattle.script_grammar.proofs.Sorted.{RisesFrom, by_rows}
use Rattle.script_grammar.specs.Calls.{op_of}
use Rattle.script_grammar.specs.Drafts.{arch_in, availability_in, constraint_in, draft_of, end_in, engine_in, failure_in, host_in, label_in, label_place, labels_of, labels_onto, mode_in, named_or, net_in, node_draft_of, number_given, number_in, number_named, order_in, os_in, platform_in, port_in, remote_in, restart_in, role_in, settings_of, spread_in, with_label}
use Rattle.script_grammar.specs.Fields.{field_text}
use Rattle.script_grammar.specs.Pieces.{arch_piece, availability_piece, condition_piece, end_piece, engine_field, failure_piece, given_piece, joined, label_field, mode_piece, node_pieces, number_piece, old_node_pieces, order_piece, os_piece, remote_piece, role_piece, service_pieces, session_pieces, settings_pieces}
use Rattle.script_grammar.specs.Tables.{number_default, number_row, row}
use Rattle.script_grammar.specs.Texts.{op_words, pieces_words, version_words}

-- the bytes of words, each with a space behind it
abbrev pub room : List (List ℕ) → ℕ
room [] = 0
room (w ∷ ws) = length w + 1 + room ws

pub room-append : (xs ys : List (List ℕ)) → room (xs ++ ys) ≡ room xs + room ys
room-append [] ys = omega arith
room-append (x ∷ xs) ys = omega (arith, room-append xs ys)

-- the bytes of fields
abbrev pub size : List Field → ℕ
size [] = 0
size (f ∷ fs) = length (field_text f) + 1 + size fs

pub room-size : (fs : List Field) → room (map field_text fs) ≡ size fs
room-size [] = refl
room-size (f ∷ fs) = ap (λ n. length (field_text f) + 1 + n) (room-size fs)

pub size-append : (fs gs : List Field) → size (fs ++ gs) ≡ size fs + size gs
size-append [] gs = omega arith
size-append (f ∷ fs) gs = omega (arith, size-append fs gs)

-- ## Row by row

size_above : (r : ℕ) (f : Field) (fs : List Field) → size (at_row r fs) ≤ size (at_row r (f ∷ fs))
size_above r f fs = go (nat_eq (row f) r) where
  go : (b : Bool) → size (at_row r fs) ≤ size (cond b (f ∷ at_row r fs) (at_row r fs))
  go true = omega arith
  go false = omega arith

-- rows that rise have each field once
rows_cons : (n : ℕ) (rs : List ℕ) (f : Field) (fs : List Field) → RisesFrom n rs → row f + 1 ≤ n → size (by_rows rs (f ∷ fs)) ≡ size (by_rows rs fs)
rows_cons n [] f fs h k = refl
rows_cons n (r ∷ rs) f fs h k = go (nat_eq (row f) r) refl (rows_cons (r + 1) rs f fs h.1 (omega (arith, k, h.0))) where
  go : (b : Bool) → nat_eq (row f) r ≡ b → size (by_rows rs (f ∷ fs)) ≡ size (by_rows rs fs) →
      size (cond b (f ∷ at_row r fs) (at_row r fs) ++ by_rows rs (f ∷ fs)) ≡ size (at_row r fs ++ by_rows rs fs)
  go true e ih = let u : n ≤ r = h.0 in absurd (grind (arith, nat_tests))
  go false e ih = omega (arith, ih, size-append (at_row r fs) (by_rows rs (f ∷ fs)), size-append (at_row r fs) (by_rows rs fs))

rows_more : (n : ℕ) (rs : List ℕ) (f : Field) (fs : List Field) → RisesFrom n rs → size (by_rows rs (f ∷ fs)) ≤ length (field_text f) + 1 + size (by_rows rs fs)
rows_more n [] f fs h = omega arith
rows_more n (r ∷ rs) f fs h = go (nat_eq (row f) r) refl (rows_more (r + 1) rs f fs h.1) where
  go : (b : Bool) → nat_eq (row f) r ≡ b → size (by_rows rs (f ∷ fs)) ≤ length (field_text f) + 1 + size (by_rows rs fs) →
      size (cond b (f ∷ at_row r fs) (at_row r fs) ++ by_rows rs (f ∷ fs)) ≤ length (field_text f) + 1 + size (at_row r fs ++ by_rows rs fs)
  go true e ih =
      let k = rows_cons (r + 1) rs f fs h.1 (grind (arith, nat_tests)) in
      omega (arith, k, size-append (f ∷ at_row r fs) (by_rows rs (f ∷ fs)), size-append (at_row r fs) (by_rows rs fs))
  go false e ih = omega (arith, ih, size-append (at_row r fs) (by_rows rs (f ∷ fs)), size-append (at_row r fs) (by_rows rs fs))

rows_within : (n : ℕ) (rs : List ℕ) (fs : List Field) → RisesFrom n rs → size (by_rows rs fs) ≤ size fs
rows_within n rs [] h = go rs where
  go : (rs : List ℕ) → size (by_rows rs []) ≤ 0
  go [] = omega arith
  go (r ∷ rs) = go rs
rows_within n rs (f ∷ fs) h = omega (arith, rows_more n rs f fs h, rows_within n rs fs h)

-- pieces, each within the fields of its row
abbrev Fit : List (List Field) → List ℕ → List Field → Type 0
Fit [] rs fs = Unit {0}
Fit (p ∷ ps) [] fs = ⊥
Fit (p ∷ ps) (r ∷ rs) fs = (size p ≤ size (at_row r fs)) × Fit ps rs fs

fit_rows : (ps : List (List Field)) (rs : List ℕ) (fs : List Field) → Fit ps rs fs → size (joined ps) ≤ size (by_rows rs fs)
fit_rows [] rs fs h = omega arith
fit_rows (p ∷ ps) [] fs h = absurd h
fit_rows (p ∷ ps) (r ∷ rs) fs h =
    omega (arith, h.0, fit_rows ps rs fs h.1, size-append p (joined ps), size-append (at_row r fs) (by_rows rs fs))

pieces_within : (ps : List (List Field)) (rs : List ℕ) (fs : List Field) → RisesFrom 0 rs → Fit ps rs fs → room (pieces_words ps) ≤ size fs
pieces_within ps rs fs h f = omega (arith, room-size (joined ps), fit_rows ps rs fs f, rows_within 0 rs fs h)

-- ## A row with one value

-- the value in a field is written in no more bytes than the field
abbrev Smaller : {A : Type 0} → (Field → Option A) → (A → List Field) → Type 0
Smaller {A} p piece = (f : Field) (v : A) → p f ≡ Some v → size (piece v) ≤ size (f ∷ [])

own_row : {A : Type 0} (r : ℕ) (p : Field → Option A) → LooksAt r p → (f : Field) (fs : List Field) (v : A) → p f ≡ Some v → size (f ∷ []) ≤ size (at_row r (f ∷ fs))
own_row r p looks f fs v e = go (nat_eq (row f) r) refl where
  go : (b : Bool) → nat_eq (row f) r ≡ b → size (f ∷ []) ≤ size (cond b (f ∷ at_row r fs) (at_row r fs))
  go true t = omega arith
  go false t = let k : None ≡ Some v = sym (looks f t) ∙ e in cc

once : {A : Type 0} (r : ℕ) (p : Field → Option A) (piece : A → List Field) (d : A) → LooksAt r p → Smaller p piece → size (piece d) ≡ 0 →
    (fs : List Field) → size (piece (named_or p d fs)) ≤ size (at_row r fs)
once r p piece d looks small empty [] = omega (arith, empty)
once {A} r p piece d looks small empty (f ∷ fs) = go (p f) refl (once r p piece d looks small empty fs) where
  go : (o : Option A) → p f ≡ o → size (piece (named_or p d fs)) ≤ size (at_row r fs) → size (piece (unwrap_or o (named_or p d fs))) ≤ size (at_row r (f ∷ fs))
  go None e ih = omega (arith, ih, size_above r f fs)
  go (Some v) e ih = omega (arith, small f v e, own_row r p looks f fs v e)

either_size : (b : Bool) (f : Field) → size (cond b [] (f ∷ [])) ≤ size (f ∷ [])
either_size true f = omega arith
either_size false f = omega arith

small_mode : Smaller mode_in mode_piece
small_mode (field.Mode (mode.Replicated n)) v e = subst (λ m. size (mode_piece m) ≤ size (field.Mode (mode.Replicated n) ∷ [])) (same_Some _ v e) (either_size (nat_eq n 1) (field.Mode (mode.Replicated n)))
small_mode (field.Mode mode.Global) v e = subst (λ m. size (mode_piece m) ≤ size (field.Mode mode.Global ∷ [])) (same_Some _ v e) (omega arith)
small_mode (field.Mode (mode.Job c t)) v e = subst (λ m. size (mode_piece m) ≤ size (field.Mode (mode.Job c t) ∷ [])) (same_Some _ v e) (omega arith)
small_mode f v e = cc

small_end : Smaller end_in end_piece
small_end (field.End end.Never) v e = subst (λ m. size (end_piece m) ≤ size (field.End end.Never ∷ [])) (same_Some _ v e) (omega arith)
small_end (field.End (end.Exit ms code)) v e = subst (λ m. size (end_piece m) ≤ size (field.End (end.Exit ms code) ∷ [])) (same_Some _ v e) (omega arith)
small_end (field.End end.Reject) v e = subst (λ m. size (end_piece m) ≤ size (field.End end.Reject ∷ [])) (same_Some _ v e) (omega arith)
small_end f v e = cc

number_own : (w : NumberField) (f : Field) (n : ℕ) → number_in w f ≡ Some n → f ≡ field.Number w n
number_own w (field.Number v m) n e = go (nat_eq (number_row v) (number_row w)) refl e where
  go : (b : Bool) → nat_eq (number_row v) (number_row w) ≡ b → cond b (Some m) None ≡ Some n → field.Number v m ≡ field.Number w n
  go true t d = ap (λ x. field.Number x m) (same_which v w t) ∙ ap (field.Number w) (same_Some m n d)
  go false t d = cc
number_own w f n e = cc

small_number : (t : Table) (w : NumberField) → Smaller (number_in w) (number_piece t w)
small_number t w f n e =
    subst (λ g. size (number_piece t w n) ≤ size (g ∷ [])) (sym (number_own w f n e)) (either_size (nat_eq n (number_default t w)) (field.Number w n))

small_condition : Smaller restart_in condition_piece
small_condition (field.Restart condition.Never) v e = subst (λ m. size (condition_piece m) ≤ size (field.Restart condition.Never ∷ [])) (same_Some _ v e) (omega arith)
small_condition (field.Restart condition.OnFailure) v e = subst (λ m. size (condition_piece m) ≤ size (field.Restart condition.OnFailure ∷ [])) (same_Some _ v e) (omega arith)
small_condition (field.Restart condition.Any) v e = subst (λ m. size (condition_piece m) ≤ size (field.Restart condition.Any ∷ [])) (same_Some _ v e) (omega arith)
small_condition f v e = cc

small_failure : Smaller failure_in failure_piece
small_failure (field.Failure action.Pause) v e = subst (λ m. size (failure_piece m) ≤ size (field.Failure action.Pause ∷ [])) (same_Some _ v e) (omega arith)
small_failure (field.Failure action.Continue) v e = subst (λ m. size (failure_piece m) ≤ size (field.Failure action.Continue ∷ [])) (same_Some _ v e) (omega arith)
small_failure (field.Failure action.Rollback) v e = subst (λ m. size (failure_piece m) ≤ size (field.Failure action.Rollback ∷ [])) (same_Some _ v e) (omega arith)
small_failure f v e = cc

small_order : Smaller order_in order_piece
small_order (field.Order order.StopFirst) v e = subst (λ m. size (order_piece m) ≤ size (field.Order order.StopFirst ∷ [])) (same_Some _ v e) (omega arith)
small_order (field.Order order.StartFirst) v e = subst (λ m. size (order_piece m) ≤ size (field.Order order.StartFirst ∷ [])) (same_Some _ v e) (omega arith)
small_order f v e = cc

small_role : Smaller role_in role_piece
small_role (field.Role role.Worker) v e = subst (λ m. size (role_piece m) ≤ size (field.Role role.Worker ∷ [])) (same_Some _ v e) (omega arith)
small_role (field.Role role.Manager) v e = subst (λ m. size (role_piece m) ≤ size (field.Role role.Manager ∷ [])) (same_Some _ v e) (omega arith)
small_role f v e = cc

small_availability : Smaller availability_in availability_piece
small_availability (field.Availability availability.Active) v e = subst (λ m. size (availability_piece m) ≤ size (field.Availability availability.Active ∷ [])) (same_Some _ v e) (omega arith)
small_availability (field.Availability availability.Pause) v e = subst (λ m. size (availability_piece m) ≤ size (field.Availability availability.Pause ∷ [])) (same_Some _ v e) (omega arith)
small_availability (field.Availability availability.Drain) v e = subst (λ m. size (availability_piece m) ≤ size (field.Availability availability.Drain ∷ [])) (same_Some _ v e) (omega arith)
small_availability f v e = cc

small_os : Smaller os_in os_piece
small_os (field.Os n) v e = subst (λ m. size (os_piece m) ≤ size (field.Os n ∷ [])) (same_Some n v e) (either_size _ (field.Os n))
small_os f v e = cc

small_arch : Smaller arch_in arch_piece
small_arch (field.Arch n) v e = subst (λ m. size (arch_piece m) ≤ size (field.Arch n ∷ [])) (same_Some n v e) (either_size _ (field.Arch n))
small_arch f v e = cc

small_remote : Smaller remote_in remote_piece
small_remote field.Remote v e = subst (λ m. size (remote_piece m) ≤ size (field.Remote ∷ [])) (same_Some _ v e) (omega arith)
small_remote f v e = cc

numbers : (t : Table) (w : NumberField) (fs : List Field) → size (number_piece t w (number_named t w fs)) ≤ size (at_row (number_row w) fs)
numbers t w fs =
    once (number_row w) (number_in w) (number_piece t w) (number_default t w) (looks_number w) (small_number t w)
    (ap (λ b. size (cond b [] (field.Number w (number_default t w) ∷ []))) (same_number (number_default t w) (number_default t w) refl)) fs

-- a number that a session is told
given : (w : NumberField) (fs : List Field) → size (given_piece w (number_given w fs)) ≤ size (at_row (number_row w) fs)
given w [] = omega arith
given w (f ∷ fs) = go (number_in w f) refl (given w fs) where
  go : (o : Option ℕ) → number_in w f ≡ o → size (given_piece w (number_given w fs)) ≤ size (at_row (number_row w) fs) →
      size (given_piece w (option_or o (number_given w fs))) ≤ size (at_row (number_row w) (f ∷ fs))
  go None e ih = omega (arith, ih, size_above (number_row w) f fs)
  go (Some n) e ih =
      let own = number_own w f n e in
      omega (arith, own_row (number_row w) (number_in w) (looks_number w) f fs n e, ap (λ g. size (g ∷ [])) own)

-- ## A row with a list

-- the value in a field makes that field
abbrev Kept : {A : Type 0} → (Field → Option A) → (A → Field) → Type 0
Kept {A} p make = (f : Field) (v : A) → p f ≡ Some v → make v ≡ f

many : {A : Type 0} (r : ℕ) (p : Field → Option A) (make : A → Field) → LooksAt r p → Kept p make → (fs : List Field) → size (map make (filter_map p fs)) ≤ size (at_row r fs)
many r p make looks kept [] = omega arith
many {A} r p make looks kept (f ∷ fs) = go (p f) refl (many r p make looks kept fs) where
  row_of : (v : A) → p f ≡ Some v → size (at_row r (f ∷ fs)) ≡ size (f ∷ at_row r fs)
  row_of v e = by_row (nat_eq (row f) r) refl where
    by_row : (b : Bool) → nat_eq (row f) r ≡ b → size (cond b (f ∷ at_row r fs) (at_row r fs)) ≡ size (f ∷ at_row r fs)
    by_row true t = refl
    by_row false t = let k : None ≡ Some v = sym (looks f t) ∙ e in cc

  go : (o : Option A) → p f ≡ o → size (map make (filter_map p fs)) ≤ size (at_row r fs) → size (map make (cons_option o (filter_map p fs))) ≤ size (at_row r (f ∷ fs))
  go None e ih = omega (arith, ih, size_above r f fs)
  go (Some v) e ih = omega (arith, ih, row_of v e, ap (λ g. length (field_text g)) (kept f v e))

kept_constraint : Kept constraint_in field.Constraint
kept_constraint (field.Constraint x) v e = ap field.Constraint (sym (same_Some x v e))
kept_constraint f v e = cc

kept_spread : Kept spread_in field.Spread
kept_spread (field.Spread x) v e = ap field.Spread (sym (same_Some x v e))
kept_spread f v e = cc

kept_platform : Kept platform_in field.Platform
kept_platform (field.Platform x) v e = ap field.Platform (sym (same_Some x v e))
kept_platform f v e = cc

kept_net : Kept net_in field.Net
kept_net (field.Net x) v e = ap field.Net (sym (same_Some x v e))
kept_net f v e = cc

kept_port : Kept port_in field.Port
kept_port (field.Port x) v e = ap field.Port (sym (same_Some x v e))
kept_port f v e = cc

kept_host : Kept host_in field.Host
kept_host (field.Host x) v e = ap field.Host (sym (same_Some x v e))
kept_host f v e = cc

kept_label : Kept label_in label_field
kept_label (field.Label j k) v e = ap label_field (sym (same_Some (j, k) v e))
kept_label f v e = cc

kept_engine : Kept engine_in engine_field
kept_engine (field.Engine j k) v e = ap engine_field (sym (same_Some (j, k) v e))
kept_engine f v e = cc

-- labels in their order are the same labels
with_size : (make : List ℕ × List ℕ → Field) (l : List ℕ × List ℕ) (ms : Labels) → size (map make (with_label l ms)) ≡ size (map make (l ∷ ms))
with_size make l ms = go (label_place l.0 ms) ms where
  go : (n : ℕ) (ms : Labels) → size (map make (take n ms ++ l ∷ drop n ms)) ≡ size (map make (l ∷ ms))
  go zero ms = refl
  go (suc n) [] = refl
  go (suc n) (m ∷ ms) = omega (arith, go n ms)

onto_size : (make : List ℕ × List ℕ → Field) (ls ms : Labels) → size (map make (labels_onto ms ls)) ≡ size (map make ms) + size (map make ls)
onto_size make [] ms = omega arith
onto_size make (l ∷ ls) ms = omega (arith, onto_size make ls (with_label l ms), with_size make l ms)

sorted_many : (r : ℕ) (p : Field → Option (List ℕ × List ℕ)) (make : List ℕ × List ℕ → Field) → LooksAt r p → Kept p make →
    (fs : List Field) → size (map make (labels_of (filter_map p fs))) ≤ size (at_row r fs)
sorted_many r p make looks kept fs = omega (arith, onto_size make (filter_map p fs) [], many r p make looks kept fs)

-- ## Tables

service_size : (fs : List Field) → room (pieces_words (service_pieces (draft_of fs))) ≤ size fs
service_size fs = pieces_within (service_pieces (draft_of fs)) service_rows fs (search rules) (
  once 0 mode_in mode_piece (mode.Replicated 1) looks_mode small_mode refl fs,
  (
    once 1 end_in end_piece end.Never looks_end small_end refl fs,
    (
      numbers table.Service number.Prepare fs,
      (
        numbers table.Service number.Start fs,
        (
          numbers table.Service number.Stop fs,
          (
            numbers table.Service number.Cpu fs,
            (
              numbers table.Service number.Mem fs,
              (
                many 15 constraint_in field.Constraint looks_constraint kept_constraint fs,
                (
                  many 16 spread_in field.Spread looks_spread kept_spread fs,
                  (
                    many 17 platform_in field.Platform looks_platform kept_platform fs,
                    (
                      numbers table.Service number.MaxReplicas fs,
                      (
                        many 19 net_in field.Net looks_net kept_net fs,
                        (
                          once 20 restart_in condition_piece condition.Any looks_condition small_condition refl fs,
                          (
                            numbers table.Service number.RestartDelay fs,
                            (
                              numbers table.Service number.RestartMax fs,
                              (
                                numbers table.Service number.RestartWindow fs,
                                (
                                  many 24 port_in field.Port looks_port kept_port fs,
                                  (
                                    many 25 host_in field.Host looks_host kept_host fs,
                                    (
                                      numbers table.Service number.Parallelism fs,
                                      (
                                        numbers table.Service number.UpdateDelay fs,
                                        (
                                          numbers table.Service number.Monitor fs,
                                          (
                                            once 29 failure_in failure_piece action.Pause looks_failure small_failure refl fs,
                                            (
                                              numbers table.Service number.Ratio fs,
                                              (
                                                once 31 order_in order_piece order.StopFirst looks_order small_order refl fs,
                                                tt,
                                              ),
                                            ),
                                          ),
                                        ),
                                      ),
                                    ),
                                  ),
                                ),
                              ),
                            ),
                          ),
                        ),
                      ),
                    ),
                  ),
                ),
              ),
            ),
          ),
        ),
      ),
    ),
  ),
)

labels_size : (fs : List Field) → size (map label_field (labels_of (filter_map label_in fs))) ≤ size (at_row 5 fs)
labels_size fs = sorted_many 5 label_in label_field looks_label kept_label fs

role_size : (fs : List Field) → size (role_piece (node_draft_of fs).role) ≤ size (at_row 6 fs)
role_size fs = once 6 role_in role_piece role.Worker looks_role small_role refl fs

availability_size : (fs : List Field) → size (availability_piece (node_draft_of fs).availability) ≤ size (at_row 7 fs)
availability_size fs = once 7 availability_in availability_piece availability.Active looks_availability small_availability refl fs

node_size : (fs : List Field) → room (pieces_words (node_pieces (node_draft_of fs))) ≤ size fs
node_size fs = pieces_within (node_pieces (node_draft_of fs)) (5 ∷ 6 ∷ 7 ∷ 8 ∷ 9 ∷ 11 ∷ 12 ∷ 13 ∷ 14 ∷ []) fs (search rules) (
  labels_size fs,
  (
    role_size fs,
    (
      availability_size fs,
      (
        numbers table.NewNode number.Cpu fs,
        (
          numbers table.NewNode number.Mem fs,
          (
            once 11 os_in os_piece (codes "linux") looks_os small_os refl fs,
            (
              once 12 arch_in arch_piece (codes "amd64") looks_arch small_arch refl fs,
              (
                sorted_many 13 engine_in engine_field looks_engine kept_engine fs,
                (
                  once 14 remote_in remote_piece false looks_remote small_remote refl fs,
                  tt,
                ),
              ),
            ),
          ),
        ),
      ),
    ),
  ),
)

old_size : (fs : List Field) → let d = node_draft_of fs in room (pieces_words (old_node_pieces d.labels d.role d.availability)) ≤ size fs
old_size fs =
    let d = node_draft_of fs in
    pieces_within (old_node_pieces d.labels d.role d.availability) (5 ∷ 6 ∷ 7 ∷ []) fs (search rules) (labels_size fs, (role_size fs, (availability_size fs, tt)))

settings_size : (fs : List Field) → room (pieces_words (settings_pieces (settings_of fs))) ≤ size fs
settings_size fs = pieces_within (settings_pieces (settings_of fs)) (32 ∷ 33 ∷ 34 ∷ []) fs (search rules) (
  numbers table.Cluster number.Heartbeat fs,
  (
    numbers table.Cluster number.Orphan fs,
    (
      numbers table.Cluster number.History fs,
      tt,
    ),
  ),
)

pub session_size : (fs : List Field) → room (pieces_words (session_pieces (number_given number.Cpu fs) (number_given number.Mem fs))) ≤ size fs
session_size fs =
    pieces_within (session_pieces (number_given number.Cpu fs) (number_given number.Mem fs)) (8 ∷ 9 ∷ []) fs (search rules) (given number.Cpu fs, (given number.Mem fs, tt))

-- ## Operations

behind_version : (n a b : List ℕ) (v : Option ℕ) (ws : List (List ℕ)) (k : ℕ) → room ws ≤ k → room (a ∷ b ∷ n ∷ (version_words v ++ ws)) ≤ room (a ∷ b ∷ n ∷ version_words v) + k
behind_version n a b v ws k h = omega (arith, h, room-append (version_words v) ws)

-- an operation is written in no more bytes than its head and fields
pub op_size : (h : Head) (fs : List Field) → room (op_words (op_of h fs)) ≤ room (head_words h) + size fs
op_size (head.CreateNode n) fs = omega (arith, node_size fs)
op_size (head.UpdateNode n v) fs =
    let d = node_draft_of fs in
    behind_version n (codes "node") (codes "update") v (pieces_words (old_node_pieces d.labels d.role d.availability)) (size fs) (old_size fs)
op_size (head.CreateService n) fs = omega (arith, service_size fs)
op_size (head.UpdateService n v) fs = behind_version n (codes "service") (codes "update") v (pieces_words (service_pieces (draft_of fs))) (size fs) (service_size fs)
op_size head.SetCluster fs = omega (arith, settings_size fs)
