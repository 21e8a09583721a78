-- What a name is.
use Rattle.std.specs.Prelude.{ℕ, ◌==◌, nat_lt, nat_le, List, [], ◌∷◌, length, Bool, false, ◌&&◌, ◌||◌}
use Rattle.std.specs.Char.{is_ascii_alphanumeric}
use Rattle.std.specs.List.{list_all}
use Rattle.swarm_objects.specs.Limits.{longest_name}

-- a letter, a digit, or one of - _ .
abbrev pub is_name_byte : ℕ → Bool
is_name_byte b = is_ascii_alphanumeric b || b == 45 || b == 95 || b == 46

-- some bytes of names, not too many: the value of a constraint
abbrev pub is_value : List ℕ → Bool
is_value bytes = nat_lt 0 (length bytes) && nat_le (length bytes) longest_name && list_all is_name_byte bytes

abbrev pub begins_name : List ℕ → Bool
begins_name [] = false
begins_name (b ∷ bs) = is_ascii_alphanumeric b

-- such bytes, of which the first is a letter or a digit
abbrev pub is_name : List ℕ → Bool
is_name bytes = begins_name bytes && is_value bytes
