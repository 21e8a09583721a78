-- Texts one behind the other.
use Rattle.std.proofs.Common.{◌≡◌, ◌≤◌, ◌<◌, ◌+◌, add-one, suc, decimal, drop, drop-cons, get_or, ℕ, List, [], ◌∷◌, ◌++◌, ◌∙◌, map, codes, length, refl, sym, ap, subst, append_assoc, OnOk, IfOk, Ok, Err, true}
use Rattle.std.proofs.lemmas.List.{append-nil}
use Rattle.std.specs.Prelude.{Option, Result}
use Rattle.std.specs.List.{flat_map}
use Rattle.swarm_objects.specs.Limits.{longest_entry}
use Rattle.swarm_objects.specs.DutyTexts.{duty_kind, duty_text, duty_words, loop_word, spaced}
use Rattle.swarm_objects.specs.Kinds.{duty_numbers, role_of}
use Rattle.swarm_objects.specs.declared.duties.Duty.{Duty}
use Rattle.swarm_objects.specs.declared.templates.Constraint.{Constraint}
use Rattle.swarm_objects.specs.declared.calls.Entry.{Entry}
use Rattle.swarm_objects.specs.declared.calls.Op.{Op}
use Rattle.swarm_objects.specs.declared.nodes.NodeDraft.{NodeDraft}
use Rattle.swarm_objects.specs.declared.services.Draft.{Draft}
use Rattle.script_grammar.specs.declared.fields.Field.{Field}
use Rattle.script_grammar.specs.declared.fields.Field.TheVariants as field
use Rattle.script_grammar.specs.declared.fields.NumberField.TheVariants as number
use Rattle.script_grammar.specs.Entries.{entry_meaning}
use Rattle.script_grammar.specs.Fields.{field_text}
use Rattle.script_grammar.specs.HasText.{has_text}
use Rattle.script_grammar.specs.Pieces.{given_piece, joined, node_pieces, service_pieces, old_node_pieces, session_pieces}
use Rattle.script_grammar.specs.Texts.{entry_text, op_words, ops_words, pieces_words, what_words}
use Rattle.script_grammar.proofs.EntryLaws.{read_back}
use Rattle.script_writer.specs.Behind.{behind, fields_text, next_op_text, ops_text, rows_text}
use Rattle.script_writer.specs.Groups.{machine_pieces, place_pieces, rest_pieces, run_pieces}

-- what is written behind a longer text is written behind the shorter one
pub front : (t u p r : List ℕ) → u ≡ t ++ p → u ++ r ≡ t ++ (p ++ r)
front t u p r e = ap (λ x. x ++ r) e ∙ append_assoc t p r

pub ok_then : {A E P Q : Type 0} (r : Result A E) → OnOk r P → (P → Q) → OnOk r Q
ok_then {P = P} {Q = Q} (Ok x) h f = f h
ok_then (Err e) h f = tt

-- ## Words

pub behind-append : (ws vs : List (List ℕ)) → behind (ws ++ vs) ≡ behind ws ++ behind vs
behind-append [] vs = refl
behind-append (w ∷ ws) vs = ap (λ t. 32 ∷ (w ++ t)) (behind-append ws vs) ∙ sym (append_assoc (32 ∷ w) (behind ws) (behind vs))

-- the first word stands at the beginning, and each further one after a space
pub spaced_behind : (w : List ℕ) (ws : List (List ℕ)) → spaced (w ∷ ws) ≡ w ++ behind ws
spaced_behind w [] = sym (append-nil w)
spaced_behind w (v ∷ ws) = ap (λ t. w ++ 32 ∷ t) (spaced_behind v ws)

-- words written behind others
pub then_words : (t u n : List ℕ) (ws vs xs : List (List ℕ)) → u ≡ t ++ behind ws → xs ≡ ws ++ vs → n ≡ u ++ behind vs → n ≡ t ++ behind xs
then_words t u n ws vs xs e k d = d ∙ front t u (behind ws) (behind vs) e ∙ ap (λ y. t ++ y) (sym (behind-append ws vs) ∙ ap behind (sym k))

-- two words, a third that is told otherwise, and others
pub then_named : (t u n a b w v : List ℕ) (vs xs : List (List ℕ)) → u ≡ t ++ behind (a ∷ b ∷ w ∷ []) → w ≡ v → xs ≡ a ∷ b ∷ v ∷ vs → n ≡ u ++ behind vs → n ≡ t ++ behind xs
then_named t u n a b w v vs xs e k h d = then_words t u n (a ∷ b ∷ v ∷ []) vs xs (e ∙ ap (λ y. t ++ behind (a ∷ b ∷ y ∷ [])) k) h d

-- operations behind the first have a semicolon before them
further_ops : (o : Op) (ops : List Op) → behind (ops_words (o ∷ ops)) ≡ behind (op_words o) ++ flat_map next_op_text ops
further_ops o [] = sym (append-nil (behind (op_words o)))
further_ops o (p ∷ ops) =
    behind-append (op_words o) (codes ";" ∷ ops_words (p ∷ ops))
    ∙ ap (λ t. behind (op_words o) ++ 32 ∷ 59 ∷ t) (further_ops p ops)

pub ops_behind : (ops : List Op) → ops_text ops ≡ behind (ops_words ops)
ops_behind [] = refl
ops_behind (o ∷ ops) = sym (further_ops o ops)

-- ## Fields

pub fields-append : (fs gs : List Field) → fields_text (fs ++ gs) ≡ fields_text fs ++ fields_text gs
unfolding fields_text
fields-append [] gs = refl
fields-append (f ∷ fs) gs = ap (λ t. 32 ∷ (field_text f ++ t)) (fields-append fs gs) ∙ sym (append_assoc (32 ∷ field_text f) (fields_text fs) (fields_text gs))

fields_behind : (fs : List Field) → behind (map field_text fs) ≡ fields_text fs
unfolding fields_text
fields_behind [] = refl
fields_behind (f ∷ fs) = ap (λ t. 32 ∷ (field_text f ++ t)) (fields_behind fs)

no_fields : [] ≡ fields_text []
unfolding fields_text
no_fields = refl

rows_joined : (ps : List (List Field)) → rows_text ps ≡ fields_text (joined ps)
rows_joined [] = no_fields
rows_joined (p ∷ ps) = ap (λ t. fields_text p ++ t) (rows_joined ps) ∙ sym (fields-append p (joined ps))

-- the words of a table's rows
pub rows_behind : (ps : List (List Field)) → behind (pieces_words ps) ≡ rows_text ps
rows_behind ps = fields_behind (joined ps) ∙ sym (rows_joined ps)

pub rows-append : (ps qs : List (List Field)) → rows_text (ps ++ qs) ≡ rows_text ps ++ rows_text qs
rows-append [] qs = refl
rows-append (p ∷ ps) qs = ap (λ t. fields_text p ++ t) (rows-append ps qs) ∙ sym (append_assoc (fields_text p) (rows_text ps) (rows_text qs))

-- a constraint more: what is left decides
pub next_constraint : (cs : List Constraint) (i : ℕ) (x : Constraint) → i < length cs → x ≡ get_or cs i x → (t u w : List ℕ) →
    u ≡ t ++ 32 ∷ field_text (field.Constraint x) → t ++ fields_text (map field.Constraint (drop i cs)) ≡ w → u ++ fields_text (map field.Constraint (drop (i + 1) cs)) ≡ w
unfolding fields_text
next_constraint cs i x below is t u w e k =
    let rest : List Constraint = drop (i + 1) cs in
    let cut : drop i cs ≡ x ∷ rest = rw (add-one, drop-cons cs i x below) (ap (λ y. y ∷ drop (suc i) cs) (sym is)) in
    front t u (32 ∷ field_text (field.Constraint x)) (fields_text (map field.Constraint rest)) e
    ∙ ap (λ xs. t ++ fields_text (map field.Constraint xs)) (sym cut) ∙ k

-- ## Tables

pub service_behind : (d : Draft) → behind (pieces_words (service_pieces d)) ≡ rows_text (run_pieces d.spec.mode d.spec.template) ++ (rows_text (place_pieces d.spec.template) ++ rows_text (rest_pieces d))
service_behind d =
    rows_behind (service_pieces d)
    ∙ rows-append (run_pieces d.spec.mode d.spec.template) (place_pieces d.spec.template ++ rest_pieces d)
    ∙ ap (λ t. rows_text (run_pieces d.spec.mode d.spec.template) ++ t) (rows-append (place_pieces d.spec.template) (rest_pieces d))

pub node_behind : (d : NodeDraft) → behind (pieces_words (node_pieces d)) ≡ rows_text (old_node_pieces d.labels d.role d.availability) ++ rows_text (machine_pieces d)
node_behind d = rows_behind (node_pieces d) ∙ rows-append (old_node_pieces d.labels d.role d.availability) (machine_pieces d)

pub session_behind : (cpu mem : Option ℕ) → behind (pieces_words (session_pieces cpu mem)) ≡ fields_text (given_piece number.Cpu cpu) ++ fields_text (given_piece number.Mem mem)
session_behind cpu mem =
    rows_behind (session_pieces cpu mem)
    ∙ ap (λ t. fields_text (given_piece number.Cpu cpu) ++ t) (append-nil (fields_text (given_piece number.Mem mem)))

-- ## Entries

-- a duty's words behind another
pub duty_behind : (d : Duty) → behind (codes "duty" ∷ duty_words d) ≡ codes " duty " ++ duty_text d
duty_behind d = ap (λ t. codes " duty " ++ t) (sym (spaced_behind (loop_word (role_of d)) (duty_kind d ∷ map decimal (duty_numbers d))))

entry_behind : (e : Entry) → decimal e.by ++ (behind (what_words e.what) ++ codes "\n") ≡ entry_text e
entry_behind e = sym (append_assoc (decimal e.by) (behind (what_words e.what)) (codes "\n")) ∙ ap (λ t. t ++ codes "\n") (sym (spaced_behind (decimal e.by) (what_words e.what)))

-- the caller's number, the words and a newline, one behind the other
pub line_whole : (e : Entry) (a b d : List ℕ) → a ≡ decimal e.by → b ≡ a ++ behind (what_words e.what) → d ≡ b ++ codes "\n" → d ≡ entry_text e
line_whole e a b d h k n =
    n ∙ ap (λ t. t ++ codes "\n") (k ∙ ap (λ t. t ++ behind (what_words e.what)) h)
    ∙ append_assoc (decimal e.by) (behind (what_words e.what)) (codes "\n")
    ∙ entry_behind e

pub again : {E : Type 0} (r : Result (List ℕ) E) (e : Entry) → has_text e ≡ true → IfOk r (λ line. line ≡ entry_text e) → IfOk r (λ line. length line ≤ longest_entry → entry_meaning line ≡ Ok e)
again (Ok line) e h t = λ short. ap entry_meaning t ∙ read_back e h (subst (λ l. length l ≤ longest_entry) t short)
again (Err x) e h t = tt
