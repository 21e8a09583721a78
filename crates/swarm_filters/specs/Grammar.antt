-- The form of a constraint, and where a text leaves it.
use Rattle.std.specs.Prelude.{◌≡◌, ◌↔◌, Option, Some, ℕ, ◌+◌, ◌<◌, ◌≤◌, ◌==◌, List, ◌++◌, length, take, codes, Bool}
use Rattle.std.specs.Prelude.{true, false}
use Rattle.std.specs.Prelude.{IsTrue}
use Rattle.std.specs.List.{list_all}
use Rattle.std.specs.Str.{str_to_ascii_lowercase}
use Rattle.swarm_objects.specs.declared.templates.Key.{Key}
use Rattle.swarm_objects.specs.declared.templates.Key.TheVariants as key
use Rattle.swarm_objects.specs.declared.templates.Constraint.{Constraint}
pub use Rattle.swarm_objects.specs.Names.{is_name_byte, is_value, begins_name, is_name}

abbrev pub is_space : ℕ → Bool
is_space b = b == 32

abbrev pub AreSpaces : List ℕ → Type 0
AreSpaces bytes = IsTrue (list_all is_space bytes)

-- the text is this word, in letters of either case
abbrev pub Spells : List ℕ → List ℕ → Type 0
Spells text word = str_to_ascii_lowercase text ≡ word

-- the text is this prefix, in letters of either case, and then this very name
abbrev pub SpellsLabel : List ℕ → List ℕ → List ℕ → Type 0
SpellsLabel text prefix name =
    (front : List ℕ) × (Spells front prefix × ((text ≡ front ++ name) × IsTrue (is_name name)))

abbrev pub IsKey : List ℕ → Key → Type 0
IsKey text key.NodeId = Spells text (codes "node.id")
IsKey text key.Hostname = Spells text (codes "node.hostname")
IsKey text key.Role = Spells text (codes "node.role")
IsKey text key.Os = Spells text (codes "node.platform.os")
IsKey text key.Arch = Spells text (codes "node.platform.arch")
IsKey text (key.Label name) = SpellsLabel text (codes "node.labels.") name
IsKey text (key.Engine name) = SpellsLabel text (codes "engine.labels.") name

abbrev pub sign_of : Bool → List ℕ
sign_of true = codes "=="
sign_of false = codes "!="

-- the text is this constraint: key, sign and value, with spaces at the ends and round the sign
pub record IsConstraint (text : List ℕ) (c : Constraint) : Type 0 where
  pub first : List ℕ
  pub key_text : List ℕ
  pub second : List ℕ
  pub third : List ℕ
  pub fourth : List ℕ
  pub whole : text ≡ first ++ (key_text ++ (second ++ (sign_of c.equal ++ (third ++ (c.value ++ fourth)))))
  pub first_spaces : AreSpaces first
  pub is_key : IsKey key_text c.key
  pub second_spaces : AreSpaces second
  pub third_spaces : AreSpaces third
  pub valued : IsTrue (is_value c.value)
  pub fourth_spaces : AreSpaces fourth

-- the text is no other constraint
abbrev pub IsOnly : List ℕ → Constraint → Type 0
IsOnly text c = (other : Constraint) → IsConstraint text other → other ≡ c

-- the one that has the property is held, or none where none has it
abbrev pub HoldsExactly : {X : Type 0} → (X → Type 0) → Option X → Type 0
HoldsExactly {X = X} P held = (x : X) → (held ≡ Some x) ↔ P x

-- some constraint begins with the text
abbrev pub Continues : List ℕ → Type 0
Continues text = (more : List ℕ) × ((c : Constraint) × IsConstraint (text ++ more) c)

-- the text is no constraint, and the place is that of the first byte that no constraint continues
pub record IsFault (text : List ℕ) (place : ℕ) : Type 0 where
  pub within : place ≤ length text
  pub before : Continues (take place text)
  pub there : place < length text → Continues (take (place + 1) text) → ⊥
  pub whole : (c : Constraint) → IsConstraint text c → ⊥
