-- Keys of rows.
use Rattle.std.specs.Prelude.{ℕ, Bool, false, ◌==◌, ◌&&◌, List, Option}
use Rattle.std.specs.Str.{bytes_eq}
use Rattle.swarm_objects.specs.Rows.{is_some_and}
use Rattle.swarm_index.specs.declared.keys.IndexKey.{IndexKey}
use Rattle.swarm_index.specs.declared.keys.IndexKey.TheVariants as index_key

-- what a key says: a number, two of them, or a text
pub data KeyValue : Type 0 where
  Num : ℕ → KeyValue
  Pair : ℕ → ℕ → KeyValue
  Text : List ℕ → KeyValue

abbrev pub value_of : IndexKey → KeyValue
value_of (index_key.Num n) = Num n
value_of (index_key.Pair m n) = Pair m n
value_of (index_key.Text name) = Text name.now

abbrev pub same_key : KeyValue → KeyValue → Bool
same_key (Num a) (Num b) = a == b
same_key (Pair a b) (Pair c d) = a == c && b == d
same_key (Text s) (Text t) = bytes_eq s t
same_key _ _ = false

-- the row's key of this number is this one
abbrev pub has_key : {X : Type 0} → (ℕ → X → Option KeyValue) → ℕ → KeyValue → X → Bool
has_key key_of which key row = is_some_and (λ k. same_key k key) (key_of which row)
