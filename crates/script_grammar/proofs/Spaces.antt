-- Words and the text of them, and which bytes they have.
use Rattle.std.proofs.Common.{◌≡◌, ℕ, ◌<◌, ◌≤◌, ◌^◌, List, [], ◌∷◌, ◌++◌, ◌-◌, decimal, Bool, true, false, cond, ◌||◌, refl, sym, ◌∙◌, ap, arith, nat_eq, nat_le, nat_lt, lit≤}
use Rattle.std.specs.Char.{digit_value, is_ascii_alphanumeric, is_ascii_graphic}
use Rattle.std.specs.Int.{is_in_range}
use Rattle.std.specs.List.{AllByRecursion, list_all, onto_first}
use Rattle.std.specs.Str.Parse.{AllDigits}
use Rattle.std.proofs.lemmas.Bool.Decides.{nat_tests}
use Rattle.std.proofs.lemmas.Fmt.{decimal_is_IsNumeral}
use Rattle.swarm_objects.proofs.Tests.{both, both_are}
use Rattle.swarm_objects.specs.DutyTexts.{spaced}
use Rattle.script_grammar.specs.Lines.{is_printable}
use Rattle.swarm_filters.specs.Grammar.{is_name, is_name_byte, is_value}
use Rattle.script_grammar.specs.Words.{words_of}
use Rattle.script_grammar.proofs.FieldRows.{number_same}
use Rattle.script_grammar.proofs.Spelled.{Clean, clean_bytes, name_bytes, value_bytes}

-- ## A text is its words with spaces between them

spaced_onto : (x : ℕ) (ws : List (List ℕ)) → spaced (onto_first x ws) ≡ x ∷ spaced ws
spaced_onto x [] = refl
spaced_onto x (w ∷ []) = refl
spaced_onto x (w ∷ v ∷ ws) = refl

is_some_part : (text : List ℕ) → words_of text ≡ [] → ⊥
is_some_part [] e = cc
is_some_part (b ∷ bs) e = go (nat_eq b 32) (words_of bs) e where
  go : (t : Bool) (ws : List (List ℕ)) → cond t ([] ∷ ws) (onto_first b ws) ≡ [] → ⊥
  go true ws d = cc
  go false [] d = cc
  go false (w ∷ ws) d = cc

spaced_next : (ws : List (List ℕ)) → (ws ≡ [] → ⊥) → spaced ([] ∷ ws) ≡ 32 ∷ spaced ws
spaced_next [] h = absurd (h refl)
spaced_next (w ∷ ws) h = refl

pub spaced_words : (text : List ℕ) → spaced (words_of text) ≡ text
spaced_words [] = refl
spaced_words (b ∷ bs) = go (nat_eq b 32) refl (spaced_words bs) where
  go : (t : Bool) → nat_eq b 32 ≡ t → spaced (words_of bs) ≡ bs → spaced (cond t ([] ∷ words_of bs) (onto_first b (words_of bs))) ≡ b ∷ bs
  go true e ih = spaced_next (words_of bs) (is_some_part bs) ∙ ap (λ xs. 32 ∷ xs) ih ∙ ap (λ x. x ∷ bs) (sym (number_same b 32 e))
  go false e ih = spaced_onto b (words_of bs) ∙ ap (λ xs. b ∷ xs) ih

split_front : (w rest : List ℕ) → Clean 32 w → words_of (w ++ 32 ∷ rest) ≡ w ∷ words_of rest
split_front [] rest c = refl
split_front (x ∷ w) rest c =
    ap (λ b. cond b ([] ∷ words_of (w ++ 32 ∷ rest)) (onto_first x (words_of (w ++ 32 ∷ rest)))) c.0
    ∙ ap (onto_first x) (split_front w rest c.1)

split_last : (w : List ℕ) → Clean 32 w → words_of w ≡ w ∷ []
split_last [] c = refl
split_last (x ∷ w) c = ap (λ b. cond b ([] ∷ words_of w) (onto_first x (words_of w))) c.0 ∙ ap (onto_first x) (split_last w c.1)

-- words without spaces are those of their text
pub words_back : (w : List ℕ) (ws : List (List ℕ)) → Clean 32 w → AllByRecursion (Clean 32) ws → words_of (spaced (w ∷ ws)) ≡ w ∷ ws
words_back w [] c cs = split_last w c
words_back w (v ∷ ws) c cs = split_front w (spaced (v ∷ ws)) c ∙ ap (λ xs. w ∷ xs) (words_back v ws cs.0 cs.1)

-- ## Bytes that are seen

-- from 33 to 126
abbrev pub Graphic : List ℕ → Type 0
Graphic w = list_all is_ascii_graphic w ≡ true

pub graphic_append : (xs ys : List ℕ) → Graphic xs → Graphic ys → Graphic (xs ++ ys)
graphic_append [] ys h k = k
graphic_append (x ∷ xs) ys h k =
    let b = both_are (is_ascii_graphic x) (list_all is_ascii_graphic xs) h in
    both _ _ b.0 (graphic_append xs ys b.1 k)

pub graphic_clean : (w : List ℕ) → Graphic w → Clean 32 w
graphic_clean w h = clean_bytes 32 is_ascii_graphic refl w h

all_mono : (p q : ℕ → Bool) → ((b : ℕ) → p b ≡ true → q b ≡ true) → (xs : List ℕ) → list_all p xs ≡ true → list_all q xs ≡ true
all_mono p q h [] e = refl
all_mono p q h (x ∷ xs) e = let b = both_are (p x) (list_all p xs) e in both _ _ (h x b.0) (all_mono p q h xs b.1)

or_cases : {Q : Type 0} (a b : Bool) → (a || b) ≡ true → (a ≡ true → Q) → (b ≡ true → Q) → Q
or_cases true b e f g = f refl
or_cases false b e f g = g e

range_graphic : (lo hi b : ℕ) → 33 ≤ lo → hi ≤ 126 → is_in_range lo hi b ≡ true → is_ascii_graphic b ≡ true
range_graphic lo hi b h k e =
    let c = both_are (nat_le lo b) (nat_le b hi) e in
    let low : nat_le lo b ≡ true = c.0 in
    let high : nat_le b hi ≡ true = c.1 in
    let x : nat_le 33 b ≡ true = grind (arith, nat_tests) in
    let y : nat_le b 126 ≡ true = grind (arith, nat_tests) in
    both (nat_le 33 b) (nat_le b 126) x y

one_graphic : (n b : ℕ) → is_ascii_graphic n ≡ true → nat_eq b n ≡ true → is_ascii_graphic b ≡ true
one_graphic n b h e = ap is_ascii_graphic (number_same b n e) ∙ h

letter_graphic : (b : ℕ) → is_ascii_alphanumeric b ≡ true → is_ascii_graphic b ≡ true
letter_graphic b e =
    or_cases (is_in_range 48 57 b || is_in_range 65 90 b) (is_in_range 97 122 b) e
    (λ e. or_cases (is_in_range 48 57 b) (is_in_range 65 90 b) e (range_graphic 48 57 b (lit≤ tt) (lit≤ tt)) (range_graphic 65 90 b (lit≤ tt) (lit≤ tt)))
    (range_graphic 97 122 b (lit≤ tt) (lit≤ tt))

name_byte_graphic : (b : ℕ) → is_name_byte b ≡ true → is_ascii_graphic b ≡ true
name_byte_graphic b e =
    or_cases (is_ascii_alphanumeric b || nat_eq b 45 || nat_eq b 95) (nat_eq b 46) e
    (λ e. or_cases (is_ascii_alphanumeric b || nat_eq b 45) (nat_eq b 95) e
    (λ e. or_cases (is_ascii_alphanumeric b) (nat_eq b 45) e (letter_graphic b) (one_graphic 45 b refl))
    (one_graphic 95 b refl))
    (one_graphic 46 b refl)

pub bytes_graphic : (w : List ℕ) → list_all is_name_byte w ≡ true → Graphic w
bytes_graphic w h = all_mono is_name_byte is_ascii_graphic name_byte_graphic w h

pub name_graphic : (w : List ℕ) → is_name w ≡ true → Graphic w
name_graphic w h = bytes_graphic w (name_bytes w h)

pub value_graphic : (w : List ℕ) → is_value w ≡ true → Graphic w
value_graphic w h = bytes_graphic w (value_bytes w h)

digit_graphic : (c : ℕ) → digit_value c < 10 → is_ascii_graphic c ≡ true
digit_graphic c h = go (nat_lt c 48) (nat_lt c 58) (nat_lt c 65) (nat_lt c 91) (nat_lt c 97) (nat_lt c 123) refl refl refl refl refl refl h where
  within : 33 ≤ c → c ≤ 126 → is_ascii_graphic c ≡ true
  within x y = both (nat_le 33 c) (nat_le c 126) (grind (arith, nat_tests)) (grind (arith, nat_tests))

  go : (p q r s t u : Bool) → nat_lt c 48 ≡ p → nat_lt c 58 ≡ q → nat_lt c 65 ≡ r → nat_lt c 91 ≡ s → nat_lt c 97 ≡ t → nat_lt c 123 ≡ u →
      cond p 36 (cond q (c - 48) (cond r 36 (cond s (c - 55) (cond t 36 (cond u (c - 87) 36))))) < 10 → is_ascii_graphic c ≡ true
  go true q r s t u a b d e f g k = absurd (omega (arith, k))
  go false true r s t u a b d e f g k = within (grind (arith, nat_tests)) (grind (arith, nat_tests))
  go false false true s t u a b d e f g k = absurd (omega (arith, k))
  go false false false true t u a b d e f g k = within (grind (arith, nat_tests)) (grind (arith, nat_tests))
  go false false false false true u a b d e f g k = absurd (omega (arith, k))
  go false false false false false true a b d e f g k = within (grind (arith, nat_tests)) (grind (arith, nat_tests))
  go false false false false false false a b d e f g k = absurd (omega (arith, k))

digits_graphic : (ds : List ℕ) → AllDigits 10 ds → Graphic ds
digits_graphic [] h = refl
digits_graphic (d ∷ ds) h = both _ _ (digit_graphic d h.0) (digits_graphic ds h.1)

pub decimal_graphic : (n : ℕ) → n < 2 ^ 64 → Graphic (decimal n)
decimal_graphic n h = digits_graphic (decimal n) (decimal_is_IsNumeral n h).0.1

-- ## All words

abbrev pub AllGraphic : List (List ℕ) → Type 0
AllGraphic = AllByRecursion Graphic

pub words_append : (xs ys : List (List ℕ)) → AllGraphic xs → AllGraphic ys → AllGraphic (xs ++ ys)
words_append [] ys h k = k
words_append (x ∷ xs) ys h k = (h.0, words_append xs ys h.1 k)

pub words_clean : (ws : List (List ℕ)) → AllGraphic ws → AllByRecursion (Clean 32) ws
words_clean [] h = tt
words_clean (w ∷ ws) h = (graphic_clean w h.0, words_clean ws h.1)

graphic_printable : (b : ℕ) → is_ascii_graphic b ≡ true → is_in_range 32 126 b ≡ true
graphic_printable b e =
    let c = both_are (nat_le 33 b) (nat_le b 126) e in
    let low : nat_le 33 b ≡ true = c.0 in
    both (nat_le 32 b) (nat_le b 126) (grind (arith, nat_tests)) c.1

printable_append : (xs ys : List ℕ) → is_printable xs ≡ true → is_printable ys ≡ true → is_printable (xs ++ ys) ≡ true
printable_append [] ys h k = k
printable_append (x ∷ xs) ys h k =
    let b = both_are (is_in_range 32 126 x) (list_all (is_in_range 32 126) xs) h in
    both _ _ b.0 (printable_append xs ys b.1 k)

word_printable : (w : List ℕ) → Graphic w → is_printable w ≡ true
word_printable w h = all_mono is_ascii_graphic (is_in_range 32 126) graphic_printable w h

pub spaced_printable : (ws : List (List ℕ)) → AllGraphic ws → is_printable (spaced ws) ≡ true
spaced_printable [] h = refl
spaced_printable (w ∷ []) h = word_printable w h.0
spaced_printable (w ∷ v ∷ ws) h = printable_append w (32 ∷ spaced (v ∷ ws)) (word_printable w h.0) (spaced_printable (v ∷ ws) h.1)
