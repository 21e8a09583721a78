-- A field's spelling is read as the field.
use Rattle.std.proofs.Common.{◌≡◌, ℕ, ◌<◌, ◌≤◌, ◌^◌, List, [], ◌∷◌, ◌++◌, length, codes, decimal, Bool, true, false, cond, ◌&&◌, refl, sym, ◌∙◌, ap, subst, Option, Some, arith, nat_eq, nat_le, nat_lt, lit≤}
use Rattle.std.specs.List.{list_all, AllByRecursion}
use Rattle.std.specs.Str.{bytes_eq}
use Rattle.std.specs.Char.{digit_value}
use Rattle.std.specs.Str.Parse.{AllDigits}
use Rattle.std.proofs.lemmas.Bool.Decides.{nat_tests}
use Rattle.std.proofs.lemmas.Fmt.{decimal_is_IsNumeral}
use Rattle.swarm_objects.proofs.Tests.{both_are}
use Rattle.swarm_objects.specs.declared.services.Mode.TheVariants as mode
use Rattle.swarm_objects.specs.declared.templates.Key.{Key}
use Rattle.script_grammar.specs.declared.fields.Field.TheVariants as field
use Rattle.script_grammar.specs.declared.fields.NumberField.{NumberField}
use Rattle.script_grammar.specs.declared.fields.NumberField.TheVariants as number
use Rattle.script_grammar.proofs.Canonical.{IsSpelled}
use Rattle.script_grammar.proofs.Numbers.{number_yes, test_yes}
use Rattle.script_grammar.specs.Calls.{begins_version}
use Rattle.swarm_filters.specs.Grammar.{begins_name, is_name, is_name_byte, is_value}
use Rattle.swarm_filters.specs.Keys.{key_of}
use Rattle.swarm_filters.specs.Spellings.{key_has_text, key_text}
use Rattle.swarm_filters.proofs.Written.{key_of-text}
use Rattle.script_grammar.specs.Fields.{field_of, number_word, two_names}
use Rattle.script_grammar.specs.Words.{name_of, number_of, split_at, with_first, ◌>>=◌}

-- ## Parting where the first part doesn't have the byte

abbrev pub Clean : ℕ → List ℕ → Type 0
Clean sep = AllByRecursion (λ b. nat_eq b sep ≡ false)

pub split_clean : (sep : ℕ) (xs ys : List ℕ) → nat_eq sep sep ≡ true → Clean sep xs → split_at sep (xs ++ sep ∷ ys) ≡ Some (xs, ys)
split_clean sep [] ys same c = ap (λ b. cond b (Some ([], ys)) (with_first sep (split_at sep ys))) same
split_clean sep (x ∷ xs) ys same c =
    ap (λ b. cond b (Some ([], xs ++ sep ∷ ys)) (with_first x (split_at sep (xs ++ sep ∷ ys)))) c.0
    ∙ ap (with_first x) (split_clean sep xs ys same c.1)

differs : (b sep : ℕ) (p : ℕ → Bool) → p b ≡ true → p sep ≡ false → nat_eq b sep ≡ false
differs b sep p at_b at_sep = go (nat_eq b sep) refl where
  go : (t : Bool) → nat_eq b sep ≡ t → t ≡ false
  go false e = refl
  go true e = let same : b ≡ sep = grind (arith, nat_tests) in let f : true ≡ false = sym at_b ∙ ap p same ∙ at_sep in cc

pub clean_bytes : (sep : ℕ) (p : ℕ → Bool) → p sep ≡ false → (xs : List ℕ) → list_all p xs ≡ true → Clean sep xs
clean_bytes sep p other [] h = tt
clean_bytes sep p other (x ∷ xs) h =
    let b = both_are (p x) (list_all p xs) h in
    (differs x sep p b.0 other, clean_bytes sep p other xs b.1)

-- the bytes of a name and of a value
pub value_bytes : (w : List ℕ) → is_value w ≡ true → list_all is_name_byte w ≡ true
value_bytes w h = (both_are (nat_lt 0 (length w) && nat_le (length w) 63) (list_all is_name_byte w) h).1

pub name_bytes : (w : List ℕ) → is_name w ≡ true → list_all is_name_byte w ≡ true
name_bytes w h = value_bytes w (both_are (begins_name w) (is_value w) h).1

pub clean_name : (sep : ℕ) → is_name_byte sep ≡ false → (w : List ℕ) → is_name w ≡ true → Clean sep w
clean_name sep other w h = clean_bytes sep is_name_byte other w (name_bytes w h)

-- the digits of a number
clean_digits : (sep : ℕ) → 10 ≤ digit_value sep → (ds : List ℕ) → AllDigits 10 ds → Clean sep ds
clean_digits sep high [] h = tt
clean_digits sep high (d ∷ ds) h = (go (nat_eq d sep) refl, clean_digits sep high ds h.1) where
  go : (t : Bool) → nat_eq d sep ≡ t → t ≡ false
  go false e = refl
  go true e =
      let same : d ≡ sep = grind (arith, nat_tests) in
      let low = subst (λ x. digit_value x < 10) same h.0 in
      absurd (omega (arith, low, high))

pub clean_number : (sep n : ℕ) → 10 ≤ digit_value sep → n < 2 ^ 64 → Clean sep (decimal n)
clean_number sep n high byte_number = clean_digits sep high (decimal n) (decimal_is_IsNumeral n byte_number).0.1

pub name_yes : (w : List ℕ) → is_name w ≡ true → name_of w ≡ Some w
name_yes w h = test_yes (is_name w) w h

-- ## Numbers

keyed : (w : NumberField) (v : List ℕ) → field_of (number_word w ++ 61 ∷ v) ≡ (number_of v >>= λ n. Some (field.Number w n))
keyed number.Prepare v = refl
keyed number.Start v = refl
keyed number.Stop v = refl
keyed number.Cpu v = refl
keyed number.Mem v = refl
keyed number.MaxReplicas v = refl
keyed number.RestartDelay v = refl
keyed number.RestartMax v = refl
keyed number.RestartWindow v = refl
keyed number.Parallelism v = refl
keyed number.UpdateDelay v = refl
keyed number.Monitor v = refl
keyed number.Ratio v = refl
keyed number.Heartbeat v = refl
keyed number.Orphan v = refl
keyed number.History v = refl

no_end_number : (w : NumberField) (v : List ℕ) → (bytes_eq (number_word w ++ 61 ∷ v) (codes ";") ≡ false) × (begins_version (number_word w ++ 61 ∷ v) ≡ false)
no_end_number number.Prepare v = (refl, refl)
no_end_number number.Start v = (refl, refl)
no_end_number number.Stop v = (refl, refl)
no_end_number number.Cpu v = (refl, refl)
no_end_number number.Mem v = (refl, refl)
no_end_number number.MaxReplicas v = (refl, refl)
no_end_number number.RestartDelay v = (refl, refl)
no_end_number number.RestartMax v = (refl, refl)
no_end_number number.RestartWindow v = (refl, refl)
no_end_number number.Parallelism v = (refl, refl)
no_end_number number.UpdateDelay v = (refl, refl)
no_end_number number.Monitor v = (refl, refl)
no_end_number number.Ratio v = (refl, refl)
no_end_number number.Heartbeat v = (refl, refl)
no_end_number number.Orphan v = (refl, refl)
no_end_number number.History v = (refl, refl)

pub number_spelled : (w : NumberField) (n : ℕ) → n < 2 ^ 64 → IsSpelled (field.Number w n)
number_spelled w n byte_number = record {
  back = keyed w (decimal n) ∙ ap (λ o. o >>= λ m. Some (field.Number w m)) (number_yes (2 ^ 64) n byte_number byte_number);
  no_end = (no_end_number w (decimal n)).0;
  no_version = (no_end_number w (decimal n)).1;
}

pub replicas_spelled : (n : ℕ) → n < 2 ^ 64 → IsSpelled (field.Mode (mode.Replicated n))
replicas_spelled n byte_number = record {
  back = ap (λ o. o >>= λ m. Some (field.Mode (mode.Replicated m))) (number_yes (2 ^ 64) n byte_number byte_number);
  no_end = refl;
  no_version = refl;
}

pub job_spelled : (c t : ℕ) → c < 2 ^ 64 → t < 2 ^ 64 → IsSpelled (field.Mode (mode.Job c t))
job_spelled c t byte_number less = record {
  back =
      ap (λ o. o >>= λ parts. number_of parts.0 >>= λ x. number_of parts.1 >>= λ y. Some (field.Mode (mode.Job x y))) (split_clean 47 (decimal c) (decimal t) refl (clean_number 47 c (lit≤ tt) byte_number))
      ∙ ap (λ o. o >>= λ x. number_of (decimal t) >>= λ y. Some (field.Mode (mode.Job x y))) (number_yes (2 ^ 64) c byte_number byte_number)
      ∙ ap (λ o. o >>= λ y. Some (field.Mode (mode.Job c y))) (number_yes (2 ^ 64) t less less);
  no_end = refl;
  no_version = refl;
}

-- ## Names

pub net_spelled : (w : List ℕ) → is_name w ≡ true → IsSpelled (field.Net w)
net_spelled w h = record { back = ap (λ o. o >>= λ n. Some (field.Net n)) (name_yes w h); no_end = refl; no_version = refl }

abbrev paired : List ℕ → List ℕ → Option (List ℕ × List ℕ)
paired x y = Some (x, y)

abbrev then_right : List ℕ → List ℕ → Option (List ℕ × List ℕ)
then_right v x = name_of v >>= λ y. Some (x, y)

abbrev then_names : List ℕ × List ℕ → Option (List ℕ × List ℕ)
then_names parts = name_of parts.0 >>= λ x. name_of parts.1 >>= λ y. Some (x, y)

pub two_back : (sep : ℕ) → nat_eq sep sep ≡ true → is_name_byte sep ≡ false → (k v : List ℕ) → is_name k ≡ true → is_name v ≡ true → two_names sep (k ++ sep ∷ v) ≡ Some (k, v)
two_back sep same other k v h g =
    ap (λ (o : Option (List ℕ × List ℕ)). o >>= then_names) (split_clean sep k v same (clean_name sep other k h))
    ∙ ap (λ (o : Option (List ℕ)). o >>= then_right v) (name_yes k h)
    ∙ ap (λ (o : Option (List ℕ)). o >>= paired k) (name_yes v g)

pub label_spelled : (k v : List ℕ) → is_name k ≡ true → is_name v ≡ true → IsSpelled (field.Label k v)
label_spelled k v h g = record {
  back = ap (λ (o : Option (List ℕ × List ℕ)). o >>= λ names. Some (field.Label names.0 names.1)) (two_back 58 refl refl k v h g);
  no_end = refl;
  no_version = refl;
}

-- ## Keys and constraints

-- the name of a label in a key is a name
abbrev pub IsKey : Key → Type 0
IsKey k = key_has_text k ≡ true

pub key_back : (k : Key) → IsKey k → key_of (key_text k) ≡ Some k
key_back k h = key_of-text k h
