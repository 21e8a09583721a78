-- A number's word begins with a digit, and clap takes a word that does.
use Rattle.std.proofs.Common.{◌≡◌, ap, sym, subst, refl, ℕ, suc, zero, ◌+◌, ◌-◌, ◌≤◌, ◌<◌, ◌^◌, true, [], ◌∷◌, ◌++◌, codes, Option, Some, None, nat_le, decimal, arith}
use Rattle.std.specs.Prelude.{if◌then◌else◌}
use Rattle.std.specs.Str.Parse.{IsNumeral}
use Rattle.std.proofs.lemmas.Bool.Decides.{nat_tests}
use Rattle.std.proofs.lemmas.Fmt.{decimal_is_IsNumeral}
use Rattle.std.proofs.lemmas.Str.Parse.{digit_from_value}
use Rattle.clap.specs.Words.{Text, subcommand_of, takes}
use Rattle.clap.proofs.OnLiterals.{clap_on_literals}
use Rattle.script_grammar.specs.Words.{number_of, ◌>>=◌}
use Rattle.script_grammar.proofs.Numbers.{number_only, test_some}
use Rattle.script_maker.specs.Script.{most_number}
use Rattle.swarm_command.specs.CommandLine.{most_workers, script_number, workers_number}
use Rattle.swarm_command.specs.Inside.Clap.{found_form, made_form, run_form, swarm_app}

pub record Begins (word : Text) : Type 0 where
  pub digit : ℕ
  pub rest : Text
  pub is : word ≡ digit ∷ rest
  pub inside : (48 ≤ digit) × (digit ≤ 57)

begins : (ds : Text) → IsNumeral 10 ds → Begins ds
begins [] h = absurd (omega (arith, h.0))
begins (d ∷ rest) h = record { digit = d; rest = rest; is = refl; inside = digit_from_value d h.1.0 }

bounded : (most : ℕ) (o : Option ℕ) (n : ℕ) → (o >>= λ m. if nat_le m most then Some m else None) ≡ Some n → o ≡ Some n
bounded most None n e = absurd (cc e)
bounded most (Some m) n e = ap (λ (x : ℕ). Some x) (test_some (nat_le m most) m n e).1

within : (most : ℕ) (o : Option ℕ) (n : ℕ) → (o >>= λ m. if nat_le m most then Some m else None) ≡ Some n → n ≤ most
within most None n e = absurd (cc e)
within most (Some m) n e =
    let p = test_some (nat_le m most) m n e in
    let few : m ≤ most = grind (arith, nat_tests, p.0) in
    subst (λ (k : ℕ). k ≤ most) p.1 few

-- a script's number isn't too great, and a number of workers isn't
pub is_script_number : (word : Text) (n : ℕ) → script_number word ≡ Some n → n ≤ most_number
is_script_number word n e = within most_number (number_of word) n e

pub are_few_workers : (word : Text) (n : ℕ) → workers_number word ≡ Some n → n ≤ most_workers
are_few_workers word n e = within most_workers (number_of word) n e

digit_of : (word : Text) (n : ℕ) → number_of word ≡ Some n → Begins word
digit_of word n e =
    let only = number_only (2 ^ 64) n word e in
    subst Begins (sym only.0) (begins (decimal n) (decimal_is_IsNumeral n only.1).0)

pub first_digit : (word : Text) (n : ℕ) → script_number word ≡ Some n → Begins word
first_digit word n e = digit_of word n (bounded most_number (number_of word) n e)

pub workers_digit : (word : Text) (n : ℕ) → workers_number word ≡ Some n → Begins word
workers_digit word n e = digit_of word n (bounded most_workers (number_of word) n e)

-- clap takes the word as the number of `make` or of workers, whatever stands behind its first digit
pub record TakesNumber (word : Text) : Type 0 where
  pub alone : takes swarm_app (codes "make" ∷ word ∷ []) ≡ true
  pub alone_found : found_form (subcommand_of swarm_app (codes "make" ∷ word ∷ [])) ≡ made_form (script_number word) (Some (codes "false"))
  pub behind : takes swarm_app (codes "make" ∷ word ∷ codes "--run" ∷ []) ≡ true
  pub behind_found : found_form (subcommand_of swarm_app (codes "make" ∷ word ∷ codes "--run" ∷ [])) ≡ made_form (script_number word) (Some (codes "true"))
  pub before : takes swarm_app (codes "make" ∷ codes "--run" ∷ word ∷ []) ≡ true
  pub before_found : found_form (subcommand_of swarm_app (codes "make" ∷ codes "--run" ∷ word ∷ [])) ≡ made_form (script_number word) (Some (codes "true"))
  pub joined : takes swarm_app (codes "run" ∷ (codes "--workers=" ++ word) ∷ []) ≡ true
  pub joined_found : found_form (subcommand_of swarm_app (codes "run" ∷ (codes "--workers=" ++ word) ∷ [])) ≡ run_form (Some word)
  pub spaced : takes swarm_app (codes "run" ∷ codes "--workers" ∷ word ∷ []) ≡ true
  pub spaced_found : found_form (subcommand_of swarm_app (codes "run" ∷ codes "--workers" ∷ word ∷ [])) ≡ run_form (Some word)

digit_48 : (rest : Text) → TakesNumber (48 ∷ rest)
unfolding clap_on_literals
digit_48 rest = record { alone = refl; alone_found = refl; behind = refl; behind_found = refl; before = refl; before_found = refl; joined = refl; joined_found = refl; spaced = refl; spaced_found = refl }

digit_49 : (rest : Text) → TakesNumber (49 ∷ rest)
unfolding clap_on_literals
digit_49 rest = record { alone = refl; alone_found = refl; behind = refl; behind_found = refl; before = refl; before_found = refl; joined = refl; joined_found = refl; spaced = refl; spaced_found = refl }

digit_50 : (rest : Text) → TakesNumber (50 ∷ rest)
unfolding clap_on_literals
digit_50 rest = record { alone = refl; alone_found = refl; behind = refl; behind_found = refl; before = refl; before_found = refl; joined = refl; joined_found = refl; spaced = refl; spaced_found = refl }

digit_51 : (rest : Text) → TakesNumber (51 ∷ rest)
unfolding clap_on_literals
digit_51 rest = record { alone = refl; alone_found = refl; behind = refl; behind_found = refl; before = refl; before_found = refl; joined = refl; joined_found = refl; spaced = refl; spaced_found = refl }

digit_52 : (rest : Text) → TakesNumber (52 ∷ rest)
unfolding clap_on_literals
digit_52 rest = record { alone = refl; alone_found = refl; behind = refl; behind_found = refl; before = refl; before_found = refl; joined = refl; joined_found = refl; spaced = refl; spaced_found = refl }

digit_53 : (rest : Text) → TakesNumber (53 ∷ rest)
unfolding clap_on_literals
digit_53 rest = record { alone = refl; alone_found = refl; behind = refl; behind_found = refl; before = refl; before_found = refl; joined = refl; joined_found = refl; spaced = refl; spaced_found = refl }

digit_54 : (rest : Text) → TakesNumber (54 ∷ rest)
unfolding clap_on_literals
digit_54 rest = record { alone = refl; alone_found = refl; behind = refl; behind_found = refl; before = refl; before_found = refl; joined = refl; joined_found = refl; spaced = refl; spaced_found = refl }

digit_55 : (rest : Text) → TakesNumber (55 ∷ rest)
unfolding clap_on_literals
digit_55 rest = record { alone = refl; alone_found = refl; behind = refl; behind_found = refl; before = refl; before_found = refl; joined = refl; joined_found = refl; spaced = refl; spaced_found = refl }

digit_56 : (rest : Text) → TakesNumber (56 ∷ rest)
unfolding clap_on_literals
digit_56 rest = record { alone = refl; alone_found = refl; behind = refl; behind_found = refl; before = refl; before_found = refl; joined = refl; joined_found = refl; spaced = refl; spaced_found = refl }

digit_57 : (rest : Text) → TakesNumber (57 ∷ rest)
unfolding clap_on_literals
digit_57 rest = record { alone = refl; alone_found = refl; behind = refl; behind_found = refl; before = refl; before_found = refl; joined = refl; joined_found = refl; spaced = refl; spaced_found = refl }

of_digit : (e : ℕ) (rest : Text) → e < 10 → TakesNumber ((48 + e) ∷ rest)
of_digit zero rest h = digit_48 rest
of_digit (suc zero) rest h = digit_49 rest
of_digit (suc (suc zero)) rest h = digit_50 rest
of_digit (suc (suc (suc zero))) rest h = digit_51 rest
of_digit (suc (suc (suc (suc zero)))) rest h = digit_52 rest
of_digit (suc (suc (suc (suc (suc zero))))) rest h = digit_53 rest
of_digit (suc (suc (suc (suc (suc (suc zero)))))) rest h = digit_54 rest
of_digit (suc (suc (suc (suc (suc (suc (suc zero))))))) rest h = digit_55 rest
of_digit (suc (suc (suc (suc (suc (suc (suc (suc zero)))))))) rest h = digit_56 rest
of_digit (suc (suc (suc (suc (suc (suc (suc (suc (suc zero))))))))) rest h = digit_57 rest
of_digit (suc (suc (suc (suc (suc (suc (suc (suc (suc (suc e)))))))))) rest h = absurd (omega (arith, h))

pub takes_digit : (digit : ℕ) (rest : Text) → 48 ≤ digit → digit ≤ 57 → TakesNumber (digit ∷ rest)
takes_digit digit rest low high =
    let is : 48 + (digit - 48) ≡ digit = omega (arith, low) in
    subst (λ d. TakesNumber (d ∷ rest)) is (of_digit (digit - 48) rest (omega (arith, low, high)))
