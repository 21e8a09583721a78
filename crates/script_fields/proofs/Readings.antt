-- What a reading of bytes gives is what the definition gives.
use Rattle.std.proofs.Common.{◌≡◌, ◌≢◌, ◌<◌, ◌^◌, ℕ, List, decimal, Option, Some, None, IfSome, IfNone, sym, ◌∙◌, ap}
use Rattle.script_grammar.specs.Words.{number_of}
use Rattle.script_grammar.proofs.Numbers.{number_yes, number_no}

pub parsed_number : (r : Option ℕ) (w : List ℕ) → IfSome r (λ n. (n < 2 ^ 64) × (w ≡ decimal n)) → IfNone r ((n : ℕ) → n < 2 ^ 64 → w ≢ decimal n) → r ≡ number_of w
parsed_number (Some n) w some none = sym (ap number_of some.1 ∙ number_yes (2 ^ 64) n some.0 some.0)
parsed_number None w some none = sym (number_no (2 ^ 64) w none)
