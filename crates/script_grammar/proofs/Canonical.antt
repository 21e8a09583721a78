-- The fields that a draft writes are canonical, and a journal's line reads them one after the other.
use Rattle.std.proofs.Common.{◌≡◌, ℕ, codes, ◌≤◌, ◌+◌, List, [], ◌∷◌, ◌++◌, map, true, false, cond, not, refl, sym, ◌∙◌, ap, subst, Option, Some, None, arith, nat_lt, append-nil, append_assoc}
use Rattle.std.specs.List.{list_all, AllByRecursion}
use Rattle.std.specs.Str.{bytes_eq}
use Rattle.swarm_objects.proofs.Tests.{both, or_left}
use Rattle.swarm_objects.specs.declared.calls.Op.{Op}
use Rattle.swarm_objects.specs.declared.services.Draft.{Draft}
use Rattle.script_grammar.specs.declared.fields.Field.{Field}
use Rattle.script_grammar.specs.declared.fields.Head.{Head}
use Rattle.script_grammar.specs.declared.fields.Table.{Table}
use Rattle.script_grammar.specs.declared.fields.Table.TheVariants as table
use Rattle.script_grammar.specs.declared.states.Form.TheVariants as form
use Rattle.script_grammar.specs.declared.states.State.{State}
use Rattle.script_grammar.specs.declared.states.State.TheVariants as state
use Rattle.script_grammar.proofs.PieceRows.{ArePieces}
use Rattle.script_grammar.proofs.ServiceBack.{service_is, service_table}
use Rattle.swarm_objects.specs.declared.nodes.Availability.{Availability}
use Rattle.swarm_objects.specs.declared.nodes.NodeDraft.{NodeDraft}
use Rattle.swarm_objects.specs.declared.nodes.NodeRole.{NodeRole}
use Rattle.swarm_objects.specs.declared.settings.Settings.{Settings}
use Rattle.script_grammar.proofs.NodeBack.{node_is, node_table, old_is, old_table, session_is, session_table, settings_is, settings_table}
use Rattle.script_grammar.proofs.Nodes.{Labels, Rises}
use Rattle.script_grammar.proofs.Numbers.{below_yes, same_bytes, test_yes}
use Rattle.script_grammar.proofs.FieldRows.{InRow, Pieces, flat}
use Rattle.script_grammar.proofs.Services.{IsCanonical}
use Rattle.script_grammar.proofs.Sorted.{From, Sorted}
use Rattle.script_grammar.specs.Calls.{call_grammar, begins_version, next_field, op_of, step, table_of, versioned}
use Rattle.script_grammar.specs.Fields.{field_of, field_text}
use Rattle.script_grammar.specs.Machines.{run}
use Rattle.script_grammar.specs.Tables.{belongs, comes_before, is_default, may_stand, row}
use Rattle.script_grammar.specs.Words.{◌>>=◌}

-- ## All of a joined list

pub all_append : (P : Field → Type 0) (fs gs : List Field) → AllByRecursion P fs → AllByRecursion P gs → AllByRecursion P (fs ++ gs)
all_append P [] gs h k = k
all_append P (f ∷ fs) gs h k = (h.0, all_append P fs gs h.1 k)

from_in_row : (n r : ℕ) (fs : List Field) → n ≤ r → InRow r fs → From n fs
from_in_row n r [] le h = tt
from_in_row n r (f ∷ fs) le h = (subst (λ k. n ≤ k) (sym h.0) le, from_in_row n r fs le h.1)

from_flat : (t : Table) (n m : ℕ) (ps : Pieces) → m ≤ n → ArePieces t n ps → From m (flat ps)
from_flat t n m [] le h = tt
from_flat t n m (p ∷ ps) le h =
    all_append (λ f. m ≤ row f) p.1 (flat ps) (from_in_row m p.0 p.1 (omega (arith, h.0)) h.1.in_row) (from_flat t (p.0 + 1) m ps (omega (arith, h.0)) h.2)

before_all : (f : Field) (r : ℕ) (gs : List Field) → row f ≡ r → From (r + 1) gs → AllByRecursion (λ g. comes_before f g ≡ true) gs
before_all f r [] e h = tt
before_all f r (g ∷ gs) e h =
    (or_left (nat_lt (row f) (row g)) _ (below_yes (row f) (row g) (omega (arith, e, h.0))), before_all f r gs e h.1)

sorted_append : (r : ℕ) (fs gs : List Field) → InRow r fs → Sorted fs → From (r + 1) gs → Sorted gs → Sorted (fs ++ gs)
sorted_append r [] gs i s h k = k
sorted_append r (f ∷ fs) gs i s h k =
    (all_append (λ g. comes_before f g ≡ true) fs gs s.0 (before_all f r gs i.0 h), sorted_append r fs gs i.1 s.1 h k)

pub canonical : (t : Table) (n : ℕ) (ps : Pieces) → ArePieces t n ps → IsCanonical t (flat ps)
canonical t n [] h = record { belong = tt; named = tt; sorted = tt }
canonical t n (p ∷ ps) h =
    let c = canonical t (p.0 + 1) ps h.2 in
    record {
      belong = all_append (λ f. belongs t f ≡ true) p.1 (flat ps) h.1.belong c.belong;
      named = all_append (λ f. is_default t f ≡ false) p.1 (flat ps) h.1.named c.named;
      sorted = sorted_append p.0 p.1 (flat ps) h.1.in_row h.1.sorted (from_flat t (p.0 + 1) (p.0 + 1) ps (omega arith) h.2) c.sorted;
    }

pub service_canonical : (d : Draft) → IsCanonical table.Service (flat (service_table d))
service_canonical d = canonical table.Service 0 (service_table d) (service_is d)

pub node_canonical : (d : NodeDraft) → Rises d.labels → Rises d.engine → IsCanonical table.NewNode (flat (node_table d))
node_canonical d l e = canonical table.NewNode 0 (node_table d) (node_is d l e)

pub old_canonical : (ls : Labels) (r : NodeRole) (a : Availability) → Rises ls → IsCanonical table.OldNode (flat (old_table ls r a))
old_canonical ls r a l = canonical table.OldNode 0 (old_table ls r a) (old_is ls r a l)

pub settings_canonical : (s : Settings) → IsCanonical table.Cluster (flat (settings_table s))
settings_canonical s = canonical table.Cluster 0 (settings_table s) (settings_is s)

pub session_canonical : (cpu mem : Option ℕ) → IsCanonical table.Session (flat (session_table cpu mem))
session_canonical cpu mem = canonical table.Session 0 (session_table cpu mem) (session_is cpu mem)

-- ## A journal's line reads canonical fields

-- the field's word is the field's, and none of the line's other words
pub record IsSpelled (f : Field) : Type 0 where
  pub back : field_of (field_text f) ≡ Some f
  pub no_end : bytes_eq (field_text f) (codes ";") ≡ false
  pub no_version : begins_version (field_text f) ≡ false

-- each field so far comes before this one
abbrev pub ComesAfter : List Field → Field → Type 0
ComesAfter fs g = AllByRecursion (λ f. comes_before f g ≡ true) fs

follows_yes : (fs : List Field) (g : Field) → ComesAfter fs g → list_all (λ f. comes_before f g) fs ≡ true
follows_yes [] g h = refl
follows_yes (f ∷ fs) g h = both (comes_before f g) (list_all (λ x. comes_before x g) fs) h.0 (follows_yes fs g h.1)

pub next_yes : (t : Table) (fs : List Field) (g : Field) → IsSpelled g → belongs t g ≡ true → is_default t g ≡ false → ComesAfter fs g →
    next_field form.Journal t fs (field_text g) ≡ Some (fs ++ g ∷ [])
next_yes t fs g s b d f =
    let stands : may_stand form.Journal t fs g (field_text g) ≡ true =
    both _ _ b (both _ _ (same_bytes (field_text g)) (both _ _ (ap not d) (follows_yes fs g f))) in
    ap (λ o. o >>= λ x. cond (may_stand form.Journal t fs x (field_text g)) (Some (fs ++ x ∷ [])) None) s.back
    ∙ test_yes _ _ stands

pub read_one : (ops : List Op) (h : Head) (fs : List Field) (g : Field) → IsSpelled g → belongs (table_of h) g ≡ true → is_default (table_of h) g ≡ false → ComesAfter fs g →
    step form.Journal (state.Fields ops h fs) (field_text g) ≡ Some (state.Fields ops h (fs ++ g ∷ []))
read_one ops h fs g s b d f =
    let later : List ℕ → Option State = λ w. next_field form.Journal (table_of h) fs w >>= λ gs. Some (state.Fields ops h gs) in
    ap (λ t. cond t (Some (state.Opening (ops ++ op_of h fs ∷ []))) (cond (begins_version (field_text g)) (versioned ops h fs (field_text g)) (later (field_text g)))) s.no_end
    ∙ ap (λ t. cond t (versioned ops h fs (field_text g)) (later (field_text g))) s.no_version
    ∙ ap (λ (o : Option (List Field)). o >>= λ gs. Some (state.Fields ops h gs)) (next_yes (table_of h) fs g s b d f)

follows_later : (fs : List Field) (g : Field) (gs : List Field) → AllByRecursion (λ x. ComesAfter fs x) (g ∷ gs) → AllByRecursion (λ x. comes_before g x ≡ true) gs →
    AllByRecursion (λ x. ComesAfter (fs ++ g ∷ []) x) gs
follows_later fs g [] h k = tt
follows_later fs g (x ∷ gs) h k =
    (all_append (λ f. comes_before f x ≡ true) fs (g ∷ []) h.1.0 (k.0, tt), follows_later fs g gs (h.0, h.1.1) k.1)

pub read_all : (ops : List Op) (h : Head) (gs fs : List Field) → AllByRecursion IsSpelled gs → IsCanonical (table_of h) gs → AllByRecursion (λ x. ComesAfter fs x) gs →
    run (call_grammar form.Journal) (state.Fields ops h fs) (map field_text gs) ≡ Some (state.Fields ops h (fs ++ gs))
read_all ops h [] fs s c f = ap (λ xs. Some (state.Fields ops h xs)) (sym (append-nil fs))
read_all ops h (g ∷ gs) fs s c f =
    let one = read_one ops h fs g s.0 c.belong.0 c.named.0 f.0 in
    let rest : IsCanonical (table_of h) gs = record { belong = c.belong.1; named = c.named.1; sorted = c.sorted.1 } in
    ap (λ (o : Option State). o >>= λ t. run (call_grammar form.Journal) t (map field_text gs)) one
    ∙ read_all ops h gs (fs ++ g ∷ []) s.1 rest (follows_later fs g gs f c.sorted.0)
    ∙ ap (λ xs. Some (state.Fields ops h xs)) (append_assoc fs (g ∷ []) gs)

no_earlier : (gs : List Field) → AllByRecursion (λ x. ComesAfter [] x) gs
no_earlier [] = tt
no_earlier (g ∷ gs) = (tt, no_earlier gs)

pub read_fields : (ops : List Op) (h : Head) (gs : List Field) → AllByRecursion IsSpelled gs → IsCanonical (table_of h) gs →
    run (call_grammar form.Journal) (state.Fields ops h []) (map field_text gs) ≡ Some (state.Fields ops h gs)
read_fields ops h gs s c = read_all ops h gs [] s c (no_earlier gs)

-- ## And those of a session

read_session_all : (n : List ℕ) (gs fs : List Field) → AllByRecursion IsSpelled gs → IsCanonical table.Session gs → AllByRecursion (λ x. ComesAfter fs x) gs →
    run (call_grammar form.Journal) (state.SessionFields n fs) (map field_text gs) ≡ Some (state.SessionFields n (fs ++ gs))
read_session_all n [] fs s c f = ap (λ xs. Some (state.SessionFields n xs)) (sym (append-nil fs))
read_session_all n (g ∷ gs) fs s c f =
    let one = ap (λ (o : Option (List Field)). o >>= λ xs. Some (state.SessionFields n xs)) (next_yes table.Session fs g s.0 c.belong.0 c.named.0 f.0) in
    let rest : IsCanonical table.Session gs = record { belong = c.belong.1; named = c.named.1; sorted = c.sorted.1 } in
    ap (λ (o : Option State). o >>= λ t. run (call_grammar form.Journal) t (map field_text gs)) one
    ∙ read_session_all n gs (fs ++ g ∷ []) s.1 rest (follows_later fs g gs f c.sorted.0)
    ∙ ap (λ xs. Some (state.SessionFields n xs)) (append_assoc fs (g ∷ []) gs)

pub read_session : (n : List ℕ) (gs : List Field) → AllByRecursion IsSpelled gs → IsCanonical table.Session gs →
    run (call_grammar form.Journal) (state.SessionFields n []) (map field_text gs) ≡ Some (state.SessionFields n gs)
read_session n gs s c = read_session_all n gs [] s c (no_earlier gs)
