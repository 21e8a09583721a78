-- The fields of a node and of the settings, and what they say.
use Rattle.std.proofs.Common.{◌≡◌, ℕ, ◌<◌, ◌+◌, List, [], ◌∷◌, ◌++◌, map, Bool, true, false, cond, refl, sym, ◌∙◌, ap, subst, inl, inr, ◌⊎◌, append_assoc, arith, nat_eq, nat_lt, append-nil, rules}
use Rattle.std.specs.List.{filter_map, AllByRecursion}
use Rattle.std.specs.Option.{option_or}
use Rattle.std.proofs.Common.{length, take, drop, codes, ◌&&◌, ◌||◌}
use Rattle.std.proofs.lemmas.Bool.Decides.{nat_tests}
use Rattle.swarm_objects.specs.declared.nodes.NodeRole.TheVariants as role
use Rattle.swarm_objects.specs.declared.nodes.Availability.TheVariants as availability
use Rattle.script_grammar.specs.declared.fields.Field.{Field}
use Rattle.script_grammar.specs.declared.fields.Field.TheVariants as field
use Rattle.script_grammar.specs.declared.fields.Table.{Table}
use Rattle.script_grammar.specs.declared.fields.Table.TheVariants as table
use Rattle.script_grammar.specs.declared.fields.NumberField.{NumberField}
use Rattle.script_grammar.specs.declared.fields.NumberField.TheVariants as number
use Rattle.script_grammar.proofs.RowPieces.{Back, Remade, looks_number, no_number_row, none_later, number_in_own, number_in_row, numbers, several, single}
use Rattle.script_grammar.proofs.FieldRows.{LooksAt, at_row, number_same}
use Rattle.script_grammar.proofs.Services.{IsCanonical}
use Rattle.script_grammar.proofs.Sorted.{From, Sorted, at_row_none, by_rows-sorted, has}
use Rattle.script_grammar.specs.Drafts.{number_given, number_in, arch_in, availability_in, engine_in, label_in, label_place, labels_of, labels_onto, node_draft_of, os_in, remote_in, role_in, settings_of, with_label}
use Rattle.script_grammar.specs.Pieces.{given_piece, session_pieces, old_node_pieces, arch_piece, availability_piece, engine_field, joined, label_field, node_pieces, os_piece, remote_piece, role_piece, settings_pieces}
use Rattle.script_grammar.specs.Tables.{may_repeat, belongs, bytes_lt, comes_before, number_belongs, number_row, row}

-- ## Rising keys

byte_below : (x y : ℕ) (a b : Bool) → nat_lt x y ≡ a → nat_eq x y ≡ b → (c : Bool) → (a || (b && c)) ≡ true → (x < y) ⊎ ((x ≡ y) × (c ≡ true))
byte_below x y true b e f c g = inl (grind (arith, nat_tests))
byte_below x y false true e f c g = inr (grind (arith, nat_tests), g)
byte_below x y false false e f c g = cc

not_both : (x y : ℕ) (c : Bool) → (x < y) ⊎ ((x ≡ y) × (c ≡ false)) → (nat_lt y x || (nat_eq y x && c)) ≡ false
not_both x y c (inl h) =
    let a : nat_lt y x ≡ false = grind (arith, nat_tests) in
    let b : nat_eq y x ≡ false = grind (arith, nat_tests) in
    ap (λ t. t || (nat_eq y x && c)) a ∙ ap (λ t. t && c) b
not_both x y c (inr h) =
    let e : x ≡ y = h.0 in
    let a : nat_lt y x ≡ false = grind (arith, nat_tests) in
    let b : nat_eq y x ≡ true = grind (arith, nat_tests) in
    ap (λ t. t || (nat_eq y x && c)) a ∙ ap (λ t. t && c) b ∙ h.1

pub not_above : (xs ys : List ℕ) → bytes_lt xs ys ≡ true → bytes_lt ys xs ≡ false
not_above xs [] e = cc
not_above [] (y ∷ ys) e = refl
not_above (x ∷ xs) (y ∷ ys) e =
    not_both x y (bytes_lt ys xs) (elim (byte_below x y (nat_lt x y) (nat_eq x y) refl refl (bytes_lt xs ys) e) [
      | inl h ↦ inl h
      | inr h ↦ inr (h.0, not_above xs ys h.1)
    ])

abbrev pub Labels : Type 0
Labels = List (List ℕ × List ℕ)

abbrev pub Rises : Labels → Type 0
Rises [] = Unit {0}
Rises (l ∷ ls) = AllByRecursion (λ m. bytes_lt l.0 m.0 ≡ true) ls × Rises ls

abbrev pub AllBelow : Labels → List ℕ → Type 0
AllBelow ms k = AllByRecursion (λ m. bytes_lt m.0 k ≡ true) ms

place_last : (k : List ℕ) (ms : Labels) → AllBelow ms k → label_place k ms ≡ length ms
place_last k [] h = refl
place_last k (m ∷ ms) h =
    ap (λ b. cond b 0 (1 + label_place k ms)) (not_above m.0 k h.0) ∙ (let e = place_last k ms h.1 in omega arith)

take_whole : {A : Type 0} (xs : List A) → take (length xs) xs ≡ xs
take_whole [] = refl
take_whole (x ∷ xs) = ap (λ ys. x ∷ ys) (take_whole xs)

drop_whole : {A : Type 0} (xs : List A) → drop (length xs) xs ≡ []
drop_whole [] = refl
drop_whole (x ∷ xs) = drop_whole xs

label_last : (l : List ℕ × List ℕ) (ms : Labels) → AllBelow ms l.0 → with_label l ms ≡ ms ++ l ∷ []
label_last l ms h =
    ap (λ n. take n ms ++ l ∷ drop n ms) (place_last l.0 ms h)
    ∙ ap (λ xs. xs ++ l ∷ drop (length ms) ms) (take_whole ms) ∙ ap (λ xs. ms ++ l ∷ xs) (drop_whole ms)

below_append : (ms : Labels) (l : List ℕ × List ℕ) (k : List ℕ) → AllBelow ms k → bytes_lt l.0 k ≡ true → AllBelow (ms ++ l ∷ []) k
below_append [] l k h e = (e, tt)
below_append (m ∷ ms) l k h e = (h.0, below_append ms l k h.1 e)

each_below : (ms : Labels) (l : List ℕ × List ℕ) (ls : Labels) → AllByRecursion (λ k. AllBelow ms k.0) ls → AllByRecursion (λ k. bytes_lt l.0 k.0 ≡ true) ls → AllByRecursion (λ k. AllBelow (ms ++ l ∷ []) k.0) ls
each_below ms l [] h e = tt
each_below ms l (k ∷ ls) h e = (below_append ms l k.0 h.0 e.0, each_below ms l ls h.1 e.1)

onto_rising : (ls ms : Labels) → Rises ls → AllByRecursion (λ k. AllBelow ms k.0) ls → labels_onto ms ls ≡ ms ++ ls
onto_rising [] ms r h = sym (append-nil ms)
onto_rising (l ∷ ls) ms r h =
    ap (λ xs. labels_onto xs ls) (label_last l ms h.0)
    ∙ onto_rising ls (ms ++ l ∷ []) r.1 (each_below ms l ls h.1 r.0)
    ∙ append_assoc ms (l ∷ []) ls

nothing_below : (ls : Labels) → AllByRecursion (λ k. AllBelow [] k.0) ls
nothing_below [] = tt
nothing_below (l ∷ ls) = (tt, nothing_below ls)

-- rising labels are kept as they are
pub labels_kept : (ls : Labels) → Rises ls → labels_of ls ≡ ls
labels_kept ls r = onto_rising ls [] r (nothing_below ls)

labels_above : (k v : List ℕ) (fs : List Field) → AllByRecursion (λ g. comes_before (field.Label k v) g ≡ true) fs → AllByRecursion (λ m. bytes_lt k m.0 ≡ true) (filter_map label_in fs)
labels_above k v [] h = tt
labels_above k v (field.Label j u ∷ fs) h = (h.0, labels_above k v fs h.1)
labels_above k v (f ∷ fs) h = labels_above k v fs h.1

labels_rise : (fs : List Field) → Sorted fs → Rises (filter_map label_in fs)
labels_rise [] s = tt
labels_rise (field.Label k v ∷ fs) s = (labels_above k v fs s.0, labels_rise fs s.1)
labels_rise (f ∷ fs) s = labels_rise fs s.1

engines_above : (k v : List ℕ) (fs : List Field) → AllByRecursion (λ g. comes_before (field.Engine k v) g ≡ true) fs → AllByRecursion (λ m. bytes_lt k m.0 ≡ true) (filter_map engine_in fs)
engines_above k v [] h = tt
engines_above k v (field.Engine j u ∷ fs) h = (h.0, engines_above k v fs h.1)
engines_above k v (f ∷ fs) h = engines_above k v fs h.1

engines_rise : (fs : List Field) → Sorted fs → Rises (filter_map engine_in fs)
engines_rise [] s = tt
engines_rise (field.Engine k v ∷ fs) s = (engines_above k v fs s.0, engines_rise fs s.1)
engines_rise (f ∷ fs) s = engines_rise fs s.1

pub looks_role : LooksAt 6 role_in
looks_role (field.Role x) e = cc
looks_role f e = refl

back_role : (t : Table) → Back t 6 role_in role_piece
back_role t (field.Role role.Worker) e d = cc
back_role t (field.Role role.Manager) e d = (role.Manager, refl, refl, refl)
back_role t (field.Number w n) e d = absurd (no_number_row w 6 refl e)
back_role t f e d = cc

pub looks_availability : LooksAt 7 availability_in
looks_availability (field.Availability x) e = cc
looks_availability f e = refl

back_availability : (t : Table) → Back t 7 availability_in availability_piece
back_availability t (field.Availability availability.Active) e d = cc
back_availability t (field.Availability availability.Pause) e d = (availability.Pause, refl, refl, refl)
back_availability t (field.Availability availability.Drain) e d = (availability.Drain, refl, refl, refl)
back_availability t (field.Number w n) e d = absurd (no_number_row w 7 refl e)
back_availability t f e d = cc

pub looks_os : LooksAt 11 os_in
looks_os (field.Os x) e = cc
looks_os f e = refl

back_os : (t : Table) → Back t 11 os_in os_piece
back_os t (field.Os x) e d = (x, refl, ap (λ b. cond b [] (field.Os x ∷ [])) d, refl)
back_os t (field.Number w n) e d = absurd (no_number_row w 11 refl e)
back_os t f e d = cc

pub looks_arch : LooksAt 12 arch_in
looks_arch (field.Arch x) e = cc
looks_arch f e = refl

back_arch : (t : Table) → Back t 12 arch_in arch_piece
back_arch t (field.Arch x) e d = (x, refl, ap (λ b. cond b [] (field.Arch x ∷ [])) d, refl)
back_arch t (field.Number w n) e d = absurd (no_number_row w 12 refl e)
back_arch t f e d = cc

pub looks_remote : LooksAt 14 remote_in
looks_remote field.Remote e = cc
looks_remote f e = refl

back_remote : (t : Table) → Back t 14 remote_in remote_piece
back_remote t field.Remote e d = (true, refl, refl, refl)
back_remote t (field.Number w n) e d = absurd (no_number_row w 14 refl e)
back_remote t f e d = cc

pub looks_label : LooksAt 5 label_in
looks_label (field.Label x y) e = cc
looks_label f e = refl

back_label : Remade 5 label_in label_field
back_label (field.Label x y) e = ((x, y), refl, refl)
back_label (field.Number w n) e = absurd (no_number_row w 5 refl e)
back_label f e = cc

labels : (fs : List Field) → Sorted fs → map label_field (labels_of (filter_map label_in fs)) ≡ at_row 5 fs
labels fs s = ap (map label_field) (labels_kept (filter_map label_in fs) (labels_rise fs s)) ∙ several 5 label_in label_field looks_label back_label fs

pub looks_engine : LooksAt 13 engine_in
looks_engine (field.Engine x y) e = cc
looks_engine f e = refl

back_engine : Remade 13 engine_in engine_field
back_engine (field.Engine x y) e = ((x, y), refl, refl)
back_engine (field.Number w n) e = absurd (no_number_row w 13 refl e)
back_engine f e = cc

engines : (fs : List Field) → Sorted fs → map engine_field (labels_of (filter_map engine_in fs)) ≡ at_row 13 fs
engines fs s = ap (map engine_field) (labels_kept (filter_map engine_in fs) (engines_rise fs s)) ∙ several 13 engine_in engine_field looks_engine back_engine fs

then_rest : {A : Type 0} (xs ys us vs : List A) → xs ≡ ys → us ≡ vs → xs ++ us ≡ ys ++ vs
then_rest xs ys us vs e f = ap (λ zs. zs ++ us) e ∙ ap (λ zs. ys ++ zs) f

abbrev pub node_rows : List ℕ
node_rows = 5 ∷ 6 ∷ 7 ∷ 8 ∷ 9 ∷ 11 ∷ 12 ∷ 13 ∷ 14 ∷ []

node_number_row : (w : NumberField) → number_belongs table.NewNode w ≡ true → has (number_row w) node_rows ≡ true
node_number_row number.Prepare e = cc
node_number_row number.Start e = cc
node_number_row number.Stop e = cc
node_number_row number.Cpu e = refl
node_number_row number.Mem e = refl
node_number_row number.MaxReplicas e = cc
node_number_row number.RestartDelay e = cc
node_number_row number.RestartMax e = cc
node_number_row number.RestartWindow e = cc
node_number_row number.Parallelism e = cc
node_number_row number.UpdateDelay e = cc
node_number_row number.Monitor e = cc
node_number_row number.Ratio e = cc
node_number_row number.Heartbeat e = cc
node_number_row number.Orphan e = cc
node_number_row number.History e = cc

node_row : (f : Field) → belongs table.NewNode f ≡ true → has (row f) node_rows ≡ true
node_row (field.Number w n) e = node_number_row w e
node_row (field.Label x y) e = refl
node_row (field.Role x) e = refl
node_row (field.Availability x) e = refl
node_row (field.Os x) e = refl
node_row (field.Arch x) e = refl
node_row (field.Engine x y) e = refl
node_row field.Remote e = refl
node_row f e = cc

node_all : (fs : List Field) → AllByRecursion (λ f. belongs table.NewNode f ≡ true) fs → AllByRecursion (λ f. has (row f) node_rows ≡ true) fs
node_all [] h = tt
node_all (f ∷ fs) h = (node_row f h.0, node_all fs h.1)

pub node_fields : (fs : List Field) → IsCanonical table.NewNode fs → joined (node_pieces (node_draft_of fs)) ≡ fs
node_fields fs c =
    then_rest _ _ _ _ (labels fs c.sorted) (
    then_rest _ _ _ _ (single table.NewNode 6 role_in role_piece role.Worker looks_role (back_role table.NewNode) refl fs c.sorted c.named) (
    then_rest _ _ _ _ (single table.NewNode 7 availability_in availability_piece availability.Active looks_availability (back_availability table.NewNode) refl fs c.sorted c.named) (
    then_rest _ _ _ _ (numbers table.NewNode refl number.Cpu fs c.sorted c.named) (
    then_rest _ _ _ _ (numbers table.NewNode refl number.Mem fs c.sorted c.named) (
    then_rest _ _ _ _ (single table.NewNode 11 os_in os_piece (codes "linux") looks_os (back_os table.NewNode) refl fs c.sorted c.named) (
    then_rest _ _ _ _ (single table.NewNode 12 arch_in arch_piece (codes "amd64") looks_arch (back_arch table.NewNode) refl fs c.sorted c.named) (
    then_rest _ _ _ _ (engines fs c.sorted) (
    then_rest _ _ _ _ (single table.NewNode 14 remote_in remote_piece false looks_remote (back_remote table.NewNode) refl fs c.sorted c.named) (
    refl)))))))))
    ∙ by_rows-sorted 0 node_rows fs (search rules) c.sorted (node_all fs c.belong)

abbrev pub old_rows : List ℕ
old_rows = 5 ∷ 6 ∷ 7 ∷ []

old_number_row : (w : NumberField) → number_belongs table.OldNode w ≡ true → has (number_row w) old_rows ≡ true
old_number_row number.Prepare e = cc
old_number_row number.Start e = cc
old_number_row number.Stop e = cc
old_number_row number.Cpu e = cc
old_number_row number.Mem e = cc
old_number_row number.MaxReplicas e = cc
old_number_row number.RestartDelay e = cc
old_number_row number.RestartMax e = cc
old_number_row number.RestartWindow e = cc
old_number_row number.Parallelism e = cc
old_number_row number.UpdateDelay e = cc
old_number_row number.Monitor e = cc
old_number_row number.Ratio e = cc
old_number_row number.Heartbeat e = cc
old_number_row number.Orphan e = cc
old_number_row number.History e = cc

old_row : (f : Field) → belongs table.OldNode f ≡ true → has (row f) old_rows ≡ true
old_row (field.Number w n) e = old_number_row w e
old_row (field.Label x y) e = refl
old_row (field.Role x) e = refl
old_row (field.Availability x) e = refl
old_row f e = cc

old_all : (fs : List Field) → AllByRecursion (λ f. belongs table.OldNode f ≡ true) fs → AllByRecursion (λ f. has (row f) old_rows ≡ true) fs
old_all [] h = tt
old_all (f ∷ fs) h = (old_row f h.0, old_all fs h.1)

pub old_fields : (fs : List Field) → IsCanonical table.OldNode fs →
    joined (old_node_pieces (node_draft_of fs).labels (node_draft_of fs).role (node_draft_of fs).availability) ≡ fs
old_fields fs c =
    then_rest _ _ _ _ (labels fs c.sorted) (
    then_rest _ _ _ _ (single table.OldNode 6 role_in role_piece role.Worker looks_role (back_role table.OldNode) refl fs c.sorted c.named) (
    then_rest _ _ _ _ (single table.OldNode 7 availability_in availability_piece availability.Active looks_availability (back_availability table.OldNode) refl fs c.sorted c.named) (
    refl)))
    ∙ by_rows-sorted 0 old_rows fs (search rules) c.sorted (old_all fs c.belong)

abbrev pub settings_rows : List ℕ
settings_rows = 32 ∷ 33 ∷ 34 ∷ []

settings_number_row : (w : NumberField) → number_belongs table.Cluster w ≡ true → has (number_row w) settings_rows ≡ true
settings_number_row number.Prepare e = cc
settings_number_row number.Start e = cc
settings_number_row number.Stop e = cc
settings_number_row number.Cpu e = cc
settings_number_row number.Mem e = cc
settings_number_row number.MaxReplicas e = cc
settings_number_row number.RestartDelay e = cc
settings_number_row number.RestartMax e = cc
settings_number_row number.RestartWindow e = cc
settings_number_row number.Parallelism e = cc
settings_number_row number.UpdateDelay e = cc
settings_number_row number.Monitor e = cc
settings_number_row number.Ratio e = cc
settings_number_row number.Heartbeat e = refl
settings_number_row number.Orphan e = refl
settings_number_row number.History e = refl

settings_row : (f : Field) → belongs table.Cluster f ≡ true → has (row f) settings_rows ≡ true
settings_row (field.Number w n) e = settings_number_row w e
settings_row f e = cc

settings_all : (fs : List Field) → AllByRecursion (λ f. belongs table.Cluster f ≡ true) fs → AllByRecursion (λ f. has (row f) settings_rows ≡ true) fs
settings_all [] h = tt
settings_all (f ∷ fs) h = (settings_row f h.0, settings_all fs h.1)

pub settings_fields : (fs : List Field) → IsCanonical table.Cluster fs → joined (settings_pieces (settings_of fs)) ≡ fs
settings_fields fs c =
    then_rest _ _ _ _ (numbers table.Cluster refl number.Heartbeat fs c.sorted c.named) (
    then_rest _ _ _ _ (numbers table.Cluster refl number.Orphan fs c.sorted c.named) (
    then_rest _ _ _ _ (numbers table.Cluster refl number.History fs c.sorted c.named) (
    refl)))
    ∙ by_rows-sorted 0 settings_rows fs (search rules) c.sorted (settings_all fs c.belong)

-- ## Sessions

pub given : (w : NumberField) (fs : List Field) → Sorted fs → given_piece w (number_given w fs) ≡ at_row (number_row w) fs
given w [] s = refl
given w (f ∷ fs) s = go (nat_eq (row f) (number_row w)) refl (given w fs s.1) where
  go : (b : Bool) → nat_eq (row f) (number_row w) ≡ b → given_piece w (number_given w fs) ≡ at_row (number_row w) fs →
      given_piece w (option_or (number_in w f) (number_given w fs)) ≡ cond b (f ∷ at_row (number_row w) fs) (at_row (number_row w) fs)
  go false e ih = ap (λ o. given_piece w (option_or o (number_given w fs))) (looks_number w f e) ∙ ih
  go true e ih =
      let k = number_in_row w f e in
      let none = at_row_none (number_row w) fs (subst (λ n. From (n + 1) fs) (number_same (row f) (number_row w) e) (none_later f fs (ap may_repeat k.1) s.0)) in
      ap (λ o. given_piece w (option_or o (number_given w fs))) (ap (number_in w) k.1 ∙ number_in_own w k.0)
      ∙ ap (λ g. g ∷ []) (sym k.1) ∙ ap (λ xs. f ∷ xs) (sym none)

abbrev pub session_rows : List ℕ
session_rows = 8 ∷ 9 ∷ []

session_number_row : (w : NumberField) → number_belongs table.Session w ≡ true → has (number_row w) session_rows ≡ true
session_number_row number.Cpu e = refl
session_number_row number.Mem e = refl
session_number_row w e = cc

session_row : (f : Field) → belongs table.Session f ≡ true → has (row f) session_rows ≡ true
session_row (field.Number w n) e = session_number_row w e
session_row f e = cc

session_all : (fs : List Field) → AllByRecursion (λ f. belongs table.Session f ≡ true) fs → AllByRecursion (λ f. has (row f) session_rows ≡ true) fs
session_all [] h = tt
session_all (f ∷ fs) h = (session_row f h.0, session_all fs h.1)

pub session_fields : (fs : List Field) → IsCanonical table.Session fs → joined (session_pieces (number_given number.Cpu fs) (number_given number.Mem fs)) ≡ fs
session_fields fs c =
    then_rest _ _ _ _ (given number.Cpu fs c.sorted) (
    then_rest _ _ _ _ (given number.Mem fs c.sorted) (
    refl))
    ∙ by_rows-sorted 0 session_rows fs (search rules) c.sorted (session_all fs c.belong)
