-- The drafts of nodes, settings and sessions, and their fields.
use Rattle.std.proofs.Common.{◌≡◌, ℕ, List, [], ◌∷◌, ◌++◌, map, Bool, true, false, cond, refl, sym, ◌∙◌, ap, Option, Some, None, arith}
use Rattle.std.specs.List.{filter_map, list_all, AllByRecursion}
use Rattle.std.specs.Str.{bytes_eq}
use Rattle.std.proofs.lemmas.Slice.Eq.{bytes_eq-Decides}
use Rattle.swarm_objects.proofs.Tests.{both_are}
use Rattle.swarm_objects.specs.Defaults.{usual_node, usual_settings}
use Rattle.swarm_objects.specs.declared.nodes.Availability.{Availability}
use Rattle.swarm_objects.specs.declared.nodes.Availability.TheVariants as availability
use Rattle.swarm_objects.specs.declared.nodes.NodeDraft.{NodeDraft}
use Rattle.swarm_objects.specs.declared.nodes.NodeRole.{NodeRole}
use Rattle.swarm_objects.specs.declared.nodes.NodeRole.TheVariants as role
use Rattle.swarm_objects.specs.declared.settings.Settings.{Settings}
use Rattle.script_grammar.specs.declared.fields.Field.TheVariants as field
use Rattle.script_grammar.specs.declared.fields.NumberField.TheVariants as number
use Rattle.script_grammar.specs.declared.fields.Table.TheVariants as table
use Rattle.script_grammar.specs.Drafts.{arch_in, availability_in, engine_in, label_in, labels_of, named_or, node_draft_of, number_given, number_in, number_named, os_in, remote_in, role_in, settings_of}
use Rattle.script_grammar.specs.HasText.{keys_rise}
use Rattle.script_grammar.specs.Pieces.{arch_piece, availability_piece, engine_field, given_piece, label_field, number_piece, os_piece, remote_piece, role_piece}
use Rattle.script_grammar.specs.Tables.{bytes_lt, comes_before}
use Rattle.script_grammar.proofs.FieldRows.{Pieces, flat}
use Rattle.script_grammar.proofs.Nodes.{Labels, Rises, labels_kept, looks_arch, looks_availability, looks_engine, looks_label, looks_os, looks_remote, looks_role}
use Rattle.script_grammar.proofs.PieceRows.{ArePieces, IsPiece, list_back, number_back, number_is, none_piece, one_piece, row_all, row_once, test_piece}
use Rattle.script_grammar.proofs.RowPieces.{looks_number}
use Rattle.script_grammar.proofs.Numbers.{all_of}

-- ## Labels

pub rises_by : (ls : Labels) → keys_rise ls ≡ true → Rises ls
rises_by [] h = tt
rises_by (l ∷ ls) h =
    let b = both_are (list_all (λ m. bytes_lt l.0 m.0) ls) (keys_rise ls) h in
    (all_of (λ m. bytes_lt l.0 m.0) ls b.0, rises_by ls b.1)

labels_below : (k v : List ℕ) (ls : Labels) → AllByRecursion (λ m. bytes_lt k m.0 ≡ true) ls → AllByRecursion (λ g. comes_before (field.Label k v) g ≡ true) (map label_field ls)
labels_below k v [] h = tt
labels_below k v (l ∷ ls) h = (h.0, labels_below k v ls h.1)

engines_below : (k v : List ℕ) (ls : Labels) → AllByRecursion (λ m. bytes_lt k m.0 ≡ true) ls → AllByRecursion (λ g. comes_before (field.Engine k v) g ≡ true) (map engine_field ls)
engines_below k v [] h = tt
engines_below k v (l ∷ ls) h = (h.0, engines_below k v ls h.1)

pub new_labels_is : (ls : Labels) → Rises ls → IsPiece table.NewNode 5 (map label_field ls)
new_labels_is [] h = none_piece table.NewNode 5
new_labels_is (l ∷ ls) h =
    let p = new_labels_is ls h.1 in
    record { in_row = (refl, p.in_row); belong = (refl, p.belong); named = (refl, p.named); sorted = (labels_below l.0 l.1 ls h.0, p.sorted) }

pub old_labels_is : (ls : Labels) → Rises ls → IsPiece table.OldNode 5 (map label_field ls)
old_labels_is [] h = none_piece table.OldNode 5
old_labels_is (l ∷ ls) h =
    let p = old_labels_is ls h.1 in
    record { in_row = (refl, p.in_row); belong = (refl, p.belong); named = (refl, p.named); sorted = (labels_below l.0 l.1 ls h.0, p.sorted) }

pub engines_is : (ls : Labels) → Rises ls → IsPiece table.NewNode 13 (map engine_field ls)
engines_is [] h = none_piece table.NewNode 13
engines_is (l ∷ ls) h =
    let p = engines_is ls h.1 in
    record { in_row = (refl, p.in_row); belong = (refl, p.belong); named = (refl, p.named); sorted = (engines_below l.0 l.1 ls h.0, p.sorted) }

-- ## Rows with one value

new_role_is : (r : NodeRole) → IsPiece table.NewNode 6 (role_piece r)
new_role_is role.Worker = none_piece table.NewNode 6
new_role_is role.Manager = one_piece table.NewNode 6 (field.Role role.Manager) refl refl refl

old_role_is : (r : NodeRole) → IsPiece table.OldNode 6 (role_piece r)
old_role_is role.Worker = none_piece table.OldNode 6
old_role_is role.Manager = one_piece table.OldNode 6 (field.Role role.Manager) refl refl refl

new_availability_is : (a : Availability) → IsPiece table.NewNode 7 (availability_piece a)
new_availability_is availability.Active = none_piece table.NewNode 7
new_availability_is availability.Pause = one_piece table.NewNode 7 (field.Availability availability.Pause) refl refl refl
new_availability_is availability.Drain = one_piece table.NewNode 7 (field.Availability availability.Drain) refl refl refl

old_availability_is : (a : Availability) → IsPiece table.OldNode 7 (availability_piece a)
old_availability_is availability.Active = none_piece table.OldNode 7
old_availability_is availability.Pause = one_piece table.OldNode 7 (field.Availability availability.Pause) refl refl refl
old_availability_is availability.Drain = one_piece table.OldNode 7 (field.Availability availability.Drain) refl refl refl

os_is : (n : List ℕ) → IsPiece table.NewNode 11 (os_piece n)
os_is n = test_piece table.NewNode 11 (field.Os n) (bytes_eq n usual_node.os) refl refl refl

arch_is : (n : List ℕ) → IsPiece table.NewNode 12 (arch_piece n)
arch_is n = test_piece table.NewNode 12 (field.Arch n) (bytes_eq n usual_node.arch) refl refl refl

remote_is : (b : Bool) → IsPiece table.NewNode 14 (remote_piece b)
remote_is false = none_piece table.NewNode 14
remote_is true = one_piece table.NewNode 14 field.Remote refl refl refl

role_back : (r : NodeRole) → named_or role_in usual_node.role (role_piece r ++ []) ≡ r
role_back role.Worker = refl
role_back role.Manager = refl

availability_back : (a : Availability) → named_or availability_in usual_node.availability (availability_piece a ++ []) ≡ a
availability_back availability.Active = refl
availability_back availability.Pause = refl
availability_back availability.Drain = refl

same_text : (x y : List ℕ) → bytes_eq x y ≡ true → x ≡ y
same_text x y e = (bytes_eq-Decides x y).0 e

os_back : (n : List ℕ) → named_or os_in usual_node.os (os_piece n ++ []) ≡ n
os_back n = go (bytes_eq n usual_node.os) refl where
  go : (b : Bool) → bytes_eq n usual_node.os ≡ b → named_or os_in usual_node.os (cond b [] (field.Os n ∷ []) ++ []) ≡ n
  go true e = sym (same_text n usual_node.os e)
  go false e = refl

arch_back : (n : List ℕ) → named_or arch_in usual_node.arch (arch_piece n ++ []) ≡ n
arch_back n = go (bytes_eq n usual_node.arch) refl where
  go : (b : Bool) → bytes_eq n usual_node.arch ≡ b → named_or arch_in usual_node.arch (cond b [] (field.Arch n ∷ []) ++ []) ≡ n
  go true e = sym (same_text n usual_node.arch e)
  go false e = refl

remote_back : (b : Bool) → named_or remote_in false (remote_piece b ++ []) ≡ b
remote_back false = refl
remote_back true = refl

-- ## New nodes

abbrev pub node_table : NodeDraft → Pieces
node_table d =
    (5, map label_field d.labels) ∷
    (6, role_piece d.role) ∷
    (7, availability_piece d.availability) ∷
    (8, number_piece table.NewNode number.Cpu d.cpu) ∷
    (9, number_piece table.NewNode number.Mem d.mem) ∷
    (11, os_piece d.os) ∷
    (12, arch_piece d.arch) ∷
    (13, map engine_field d.engine) ∷
    (14, remote_piece d.remote) ∷
    []

pub node_is : (d : NodeDraft) → Rises d.labels → Rises d.engine → ArePieces table.NewNode 0 (node_table d)
node_is d l e = (
  omega arith,
  new_labels_is d.labels l,
  (
    omega arith,
    new_role_is d.role,
    (
      omega arith,
      new_availability_is d.availability,
      (
        omega arith,
        number_is table.NewNode number.Cpu d.cpu refl refl,
        (
          omega arith,
          number_is table.NewNode number.Mem d.mem refl refl,
          (omega arith, os_is d.os, (omega arith, arch_is d.arch, (omega arith, engines_is d.engine e, (omega arith, remote_is d.remote, tt)))),
        ),
      ),
    ),
  ),
)

-- the draft of the fields that a draft writes is the draft
pub node_draft : (d : NodeDraft) → Rises d.labels → Rises d.engine → node_draft_of (flat (node_table d)) ≡ d
node_draft d l e =
    let ps = node_table d in
    let a = node_is d l e in
    let fs = flat ps in
    let e5 : labels_of (filter_map label_in fs) ≡ d.labels =
    ap labels_of (row_all table.NewNode 0 ps a 5 label_in d.labels looks_label (list_back label_in label_field (λ x. refl) d.labels)) ∙ labels_kept d.labels l in
    let e6 : named_or role_in usual_node.role fs ≡ d.role = row_once table.NewNode 0 ps a 6 role_in usual_node.role d.role looks_role (role_back d.role) in
    let e7 : named_or availability_in usual_node.availability fs ≡ d.availability =
    row_once table.NewNode 0 ps a 7 availability_in usual_node.availability d.availability looks_availability (availability_back d.availability) in
    let e8 : number_named table.NewNode number.Cpu fs ≡ d.cpu =
    row_once table.NewNode 0 ps a 8 (number_in number.Cpu) usual_node.cpu d.cpu (looks_number number.Cpu) (number_back table.NewNode number.Cpu d.cpu) in
    let e9 : number_named table.NewNode number.Mem fs ≡ d.mem =
    row_once table.NewNode 0 ps a 9 (number_in number.Mem) usual_node.mem d.mem (looks_number number.Mem) (number_back table.NewNode number.Mem d.mem) in
    let e11 : named_or os_in usual_node.os fs ≡ d.os = row_once table.NewNode 0 ps a 11 os_in usual_node.os d.os looks_os (os_back d.os) in
    let e12 : named_or arch_in usual_node.arch fs ≡ d.arch = row_once table.NewNode 0 ps a 12 arch_in usual_node.arch d.arch looks_arch (arch_back d.arch) in
    let e13 : labels_of (filter_map engine_in fs) ≡ d.engine =
    ap labels_of (row_all table.NewNode 0 ps a 13 engine_in d.engine looks_engine (list_back engine_in engine_field (λ x. refl) d.engine)) ∙ labels_kept d.engine e in
    let e14 : named_or remote_in false fs ≡ d.remote = row_once table.NewNode 0 ps a 14 remote_in false d.remote looks_remote (remote_back d.remote) in
    λ i. record { labels = e5 i; role = e6 i; availability = e7 i; cpu = e8 i; mem = e9 i; os = e11 i; arch = e12 i; engine = e13 i; remote = e14 i }

-- ## Old nodes

abbrev pub old_table : Labels → NodeRole → Availability → Pieces
old_table ls r a = (5, map label_field ls) ∷ (6, role_piece r) ∷ (7, availability_piece a) ∷ []

pub old_is : (ls : Labels) (r : NodeRole) (a : Availability) → Rises ls → ArePieces table.OldNode 0 (old_table ls r a)
old_is ls r a l = (omega arith, old_labels_is ls l, (omega arith, old_role_is r, (omega arith, old_availability_is a, tt)))

pub old_labels : (ls : Labels) (r : NodeRole) (a : Availability) → Rises ls → (node_draft_of (flat (old_table ls r a))).labels ≡ ls
old_labels ls r a l =
    ap labels_of (row_all table.OldNode 0 (old_table ls r a) (old_is ls r a l) 5 label_in ls looks_label (list_back label_in label_field (λ x. refl) ls)) ∙ labels_kept ls l

pub old_role : (ls : Labels) (r : NodeRole) (a : Availability) → Rises ls → (node_draft_of (flat (old_table ls r a))).role ≡ r
old_role ls r a l = row_once table.OldNode 0 (old_table ls r a) (old_is ls r a l) 6 role_in role.Worker r looks_role (role_back r)

pub old_availability : (ls : Labels) (r : NodeRole) (a : Availability) → Rises ls → (node_draft_of (flat (old_table ls r a))).availability ≡ a
old_availability ls r a l =
    row_once table.OldNode 0 (old_table ls r a) (old_is ls r a l) 7 availability_in availability.Active a looks_availability (availability_back a)

-- ## Settings

abbrev pub settings_table : Settings → Pieces
settings_table s =
    (32, number_piece table.Cluster number.Heartbeat s.heartbeat) ∷
    (33, number_piece table.Cluster number.Orphan s.orphan) ∷
    (34, number_piece table.Cluster number.History s.history) ∷
    []

pub settings_is : (s : Settings) → ArePieces table.Cluster 0 (settings_table s)
settings_is s = (
  omega arith,
  number_is table.Cluster number.Heartbeat s.heartbeat refl refl,
  (
    omega arith,
    number_is table.Cluster number.Orphan s.orphan refl refl,
    (omega arith, number_is table.Cluster number.History s.history refl refl, tt),
  ),
)

pub settings_back : (s : Settings) → settings_of (flat (settings_table s)) ≡ s
settings_back s =
    let ps = settings_table s in
    let a = settings_is s in
    let e32 : number_named table.Cluster number.Heartbeat (flat ps) ≡ s.heartbeat =
    row_once table.Cluster 0 ps a 32 (number_in number.Heartbeat) usual_settings.heartbeat s.heartbeat (looks_number number.Heartbeat) (number_back table.Cluster number.Heartbeat s.heartbeat) in
    let e33 : number_named table.Cluster number.Orphan (flat ps) ≡ s.orphan =
    row_once table.Cluster 0 ps a 33 (number_in number.Orphan) usual_settings.orphan s.orphan (looks_number number.Orphan) (number_back table.Cluster number.Orphan s.orphan) in
    let e34 : number_named table.Cluster number.History (flat ps) ≡ s.history =
    row_once table.Cluster 0 ps a 34 (number_in number.History) usual_settings.history s.history (looks_number number.History) (number_back table.Cluster number.History s.history) in
    λ i. record { heartbeat = e32 i; orphan = e33 i; history = e34 i }

-- ## Sessions

abbrev pub session_table : Option ℕ → Option ℕ → Pieces
session_table cpu mem = (8, given_piece number.Cpu cpu) ∷ (9, given_piece number.Mem mem) ∷ []

cpu_is : (o : Option ℕ) → IsPiece table.Session 8 (given_piece number.Cpu o)
cpu_is None = none_piece table.Session 8
cpu_is (Some n) = one_piece table.Session 8 (field.Number number.Cpu n) refl refl refl

mem_is : (o : Option ℕ) → IsPiece table.Session 9 (given_piece number.Mem o)
mem_is None = none_piece table.Session 9
mem_is (Some n) = one_piece table.Session 9 (field.Number number.Mem n) refl refl refl

pub session_is : (cpu mem : Option ℕ) → ArePieces table.Session 0 (session_table cpu mem)
session_is cpu mem = (omega arith, cpu_is cpu, (omega arith, mem_is mem, tt))

pub session_cpu : (cpu mem : Option ℕ) → number_given number.Cpu (flat (session_table cpu mem)) ≡ cpu
session_cpu None None = refl
session_cpu None (Some n) = refl
session_cpu (Some m) None = refl
session_cpu (Some m) (Some n) = refl

pub session_mem : (cpu mem : Option ℕ) → number_given number.Mem (flat (session_table cpu mem)) ≡ mem
session_mem None None = refl
session_mem None (Some n) = refl
session_mem (Some m) None = refl
session_mem (Some m) (Some n) = refl
