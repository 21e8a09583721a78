-- Names are text.
use Rattle.std.proofs.Common.{◌≡◌, ℕ, ◌<◌, List, [], ◌∷◌, true, arith}
use Rattle.std.specs.Prelude.{IsTrue}
use Rattle.std.specs.Cmp.{first_so, second_so}
use Rattle.std.specs.List.{list_all}
use Rattle.std.specs.Str.{IsAscii, IsUtf8}
use Rattle.std.proofs.lemmas.Bool.Decides.{nat_tests}
use Rattle.std.proofs.lemmas.Str.{IsUtf8-from_ascii}
use Rattle.std.proofs.lemmas.Str.Ascii.{IsAscii-nil, IsAscii-cons}
use Rattle.swarm_objects.specs.Names.{is_name_byte, is_value}

byte : (b : ℕ) → is_name_byte b ≡ true → b < 128
byte b e = grind (arith, nat_tests)

ascii : (xs : List ℕ) → list_all is_name_byte xs ≡ true → IsAscii xs
ascii [] e = IsAscii-nil
ascii (x ∷ xs) e =
    IsAscii-cons x xs (byte x (first_so (is_name_byte x) (list_all is_name_byte xs) e))
    (ascii xs (second_so (is_name_byte x) (list_all is_name_byte xs) e))

pub IsUtf8-value : (bytes : List ℕ) → IsTrue (is_value bytes) → IsUtf8 bytes
IsUtf8-value bytes e = IsUtf8-from_ascii bytes (ascii bytes (second_so _ (list_all is_name_byte bytes) e))
