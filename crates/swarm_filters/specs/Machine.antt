-- Constraints as a machine that reads bytes.
use Rattle.std.specs.Prelude.{ℕ, ◌==◌, List, [], ◌∷◌, ◌++◌, codes, nat_eq, Bool, true, false, if◌then◌else◌, Option}
use Rattle.std.specs.Prelude.{Some, None}
use Rattle.std.specs.Char.{to_ascii_lowercase}
use Rattle.std.specs.List.{starts_with}
use Rattle.std.specs.Option.{option_and_then}
use Rattle.std.specs.Str.{bytes_eq}
use Rattle.swarm_objects.specs.declared.templates.Key.{Key}
use Rattle.swarm_objects.specs.declared.templates.Key.TheVariants as key
use Rattle.swarm_objects.specs.declared.templates.Constraint.{Constraint}
use Rattle.swarm_objects.specs.Names.{is_name, is_value}

-- what was read: spaces; a key's first bytes, in small letters; a label of the node or, where true, of the engine, with
-- a name's first bytes; a key and spaces; half of a sign; a sign and spaces; a value's first bytes; a constraint and a
-- space
pub data Progress : Type 0 where
  start : Progress
  in_key : List ℕ → Progress
  in_label : Bool → List ℕ → Progress
  after_key : Key → Progress
  in_sign : Key → Bool → Progress
  after_sign : Key → Bool → Progress
  in_value : Key → Bool → List ℕ → Progress
  finished : Constraint → Progress

abbrev pub label_key : Bool → List ℕ → Key
label_key false name = key.Label name
label_key true name = key.Engine name

abbrev pub constraint_with : Key → Bool → List ℕ → Constraint
constraint_with k equal value = record { key = k; equal = equal; value = value }

abbrev pub label_words : List (List ℕ × Progress)
label_words = (codes "node.labels.", in_label false []) ∷ (codes "engine.labels.", in_label true []) ∷ []

abbrev pub platform_words : List (List ℕ × Progress)
platform_words =
    (codes "node.platform.os", after_key key.Os) ∷ (codes "node.platform.arch", after_key key.Arch) ∷ label_words

-- the words that keys begin with, and what is read with each; none begins another
abbrev pub key_words : List (List ℕ × Progress)
key_words =
    (codes "node.id", after_key key.NodeId)
    ∷ (codes "node.hostname", after_key key.Hostname)
    ∷ (codes "node.role", after_key key.Role)
    ∷ platform_words

-- the first of the words that begins so
abbrev pub word_begun : List ℕ → List (List ℕ × Progress) → Option Progress
word_begun bytes [] = None
word_begun bytes (word ∷ words) =
    if bytes_eq word.0 bytes then Some word.1
    else (if starts_with nat_eq word.0 bytes then Some (in_key bytes) else word_begun bytes words)

abbrev pub key_begun : List ℕ → Option Progress
key_begun bytes = word_begun bytes key_words

abbrev pub behind_key : Key → ℕ → Option Progress
behind_key k b =
    if b == 32 then Some (after_key k)
    else (if b == 61 then Some (in_sign k true) else (if b == 33 then Some (in_sign k false) else None))

-- one byte more
abbrev pub byte_step : Progress → ℕ → Option Progress
byte_step start b = if b == 32 then Some start else key_begun (to_ascii_lowercase b ∷ [])
byte_step (in_key bytes) b = key_begun (bytes ++ to_ascii_lowercase b ∷ [])
byte_step (in_label engine name) b =
    if is_name (name ++ b ∷ []) then Some (in_label engine (name ++ b ∷ []))
    else (if is_name name then behind_key (label_key engine name) b else None)
byte_step (after_key k) b = behind_key k b
byte_step (in_sign k equal) b = if b == 61 then Some (after_sign k equal) else None
byte_step (after_sign k equal) b =
    if b == 32 then Some (after_sign k equal)
    else (if is_value (b ∷ []) then Some (in_value k equal (b ∷ [])) else None)
byte_step (in_value k equal value) b =
    if b == 32 then Some (finished (constraint_with k equal value))
    else (if is_value (value ++ b ∷ []) then Some (in_value k equal (value ++ b ∷ [])) else None)
byte_step (finished c) b = if b == 32 then Some (finished c) else None

abbrev pub goes_on : Option Progress → (Progress → Option Progress) → Option Progress
goes_on None next = None
goes_on (Some r) next = next r

-- these bytes more
abbrev pub run_bytes : Progress → List ℕ → Option Progress
run_bytes r [] = Some r
run_bytes r (b ∷ bs) = goes_on (byte_step r b) (λ s. run_bytes s bs)

-- the constraint that is whole
abbrev pub whole_of : Progress → Option Constraint
whole_of (in_value k equal value) = Some (constraint_with k equal value)
whole_of (finished c) = Some c
whole_of _ = None

-- the constraint that a text is, where it is one
abbrev pub constraint_of : List ℕ → Option Constraint
constraint_of text = option_and_then whole_of (run_bytes start text)
