-- The spelling of a network's range.
use Rattle.std.proofs.Common.{◌≡◌, ℕ, ◌<◌, ◌≤◌, lit≤, ◌^◌, ◌+◌, ◌*◌, ◌/◌, ◌%◌, List, [], ◌∷◌, ◌++◌, codes, decimal, Bool, true, false, cond, refl, sym, ◌∙◌, ap, subst, Option, Some, None, arith, nat_eq, append_assoc}
use Rattle.std.specs.Str.{bytes_eq}
use Rattle.std.specs.Char.{digit_value}
use Rattle.std.proofs.lemmas.Option.{some_pair_parts}
use Rattle.script_grammar.specs.Words.{byte_number, split_at, with_first, ◌>>=◌}
use Rattle.script_grammar.specs.Calls.{address_of, range_of, subnet_of}
use Rattle.script_grammar.specs.Texts.{subnet_text}
use Rattle.script_grammar.proofs.FieldRows.{number_same}
use Rattle.script_grammar.proofs.Inversions.{bound, same, tested}
use Rattle.script_grammar.proofs.Spelled.{Clean, clean_number, split_clean}
use Rattle.script_grammar.proofs.Numbers.{number_only, number_yes}

-- ## Parts

pub split_only : (sep : ℕ) (w x y : List ℕ) → split_at sep w ≡ Some (x, y) → w ≡ x ++ sep ∷ y
split_only sep [] x y e = cc
split_only sep (b ∷ bs) x y e = go (nat_eq b sep) refl (split_at sep bs) refl e (split_only sep bs) where
  go : (t : Bool) → nat_eq b sep ≡ t → (o : Option (List ℕ × List ℕ)) → split_at sep bs ≡ o →
      cond t (Some ([], bs)) (with_first b o) ≡ Some (x, y) → ((u v : List ℕ) → split_at sep bs ≡ Some (u, v) → bs ≡ u ++ sep ∷ v) → b ∷ bs ≡ x ++ sep ∷ y
  go true f o g d ih =
      let k = some_pair_parts [] x bs y d in
      ap (λ c. c ∷ bs) (number_same b sep f) ∙ ap (λ v. sep ∷ v) k.1 ∙ ap (λ u. u ++ sep ∷ y) k.0
  go false f (Some p) g d ih =
      let k = some_pair_parts (b ∷ p.0) x p.1 y d in
      ap (λ v. b ∷ v) (ih p.0 p.1 g) ∙ ap (λ u. u ++ sep ∷ p.1) k.0 ∙ ap (λ v. x ++ sep ∷ v) k.1
  go false f None g d ih = cc

-- ## Bytes of an address

first_byte : (a b c d : ℕ) → a < 256 → b < 256 → c < 256 → d < 256 → (((a * 256 + b) * 256 + c) * 256 + d) / 16777216 ≡ a
first_byte a b c d ha hb hc hd = omega arith

second_byte : (a b c d : ℕ) → a < 256 → b < 256 → c < 256 → d < 256 → (((a * 256 + b) * 256 + c) * 256 + d) / 65536 % 256 ≡ b
second_byte a b c d ha hb hc hd = omega arith

third_byte : (a b c d : ℕ) → a < 256 → b < 256 → c < 256 → d < 256 → (((a * 256 + b) * 256 + c) * 256 + d) / 256 % 256 ≡ c
third_byte a b c d ha hb hc hd = omega arith

fourth_byte : (a b c d : ℕ) → a < 256 → b < 256 → c < 256 → d < 256 → (((a * 256 + b) * 256 + c) * 256 + d) % 256 ≡ d
fourth_byte a b c d ha hb hc hd = omega arith

within : (a b c d : ℕ) → a < 256 → b < 256 → c < 256 → d < 256 → ((a * 256 + b) * 256 + c) * 256 + d < 2 ^ 32
within a b c d ha hb hc hd = omega arith

byte_only : (w : List ℕ) (n : ℕ) → byte_number w ≡ Some n → (w ≡ decimal n) × (n < 256)
byte_only w n e = number_only 256 n w e

byte_yes : (n : ℕ) → n < 256 → byte_number (decimal n) ≡ Some n
byte_yes n h = number_yes 256 n h (omega (arith, h))

-- ## A range that was read is spelled so

abbrev fifth : ℕ → ℕ → ℕ → ℕ → ℕ → Option (ℕ × ℕ)
fifth w x y z l = Some (address_of w x y z, l)

abbrev numbers_in : List ℕ → List ℕ → List ℕ → List ℕ → List ℕ → Option (ℕ × ℕ)
numbers_in a b c d t = byte_number a >>= λ w. byte_number b >>= λ x. byte_number c >>= λ y. byte_number d >>= λ z. byte_number t >>= λ l. fifth w x y z l

-- the four bytes of an address and a length
abbrev pub fourth_text : ℕ → ℕ → List ℕ
fourth_text base length =
    decimal (base / 16777216) ++ 46 ∷ (decimal (base / 65536 % 256) ++ 46 ∷ (decimal (base / 256 % 256) ++ 46 ∷ (decimal (base % 256) ++ 47 ∷ decimal length)))

-- five numbers and what they make
five_texts : (a b c d t : List ℕ) (w x y z l base length : ℕ) → (a ≡ decimal w) × (w < 256) → (b ≡ decimal x) × (x < 256) → (c ≡ decimal y) × (y < 256) →
    (d ≡ decimal z) × (z < 256) → (t ≡ decimal l) × (l < 256) → address_of w x y z ≡ base → l ≡ length →
    (a ++ 46 ∷ (b ++ 46 ∷ (c ++ 46 ∷ (d ++ 47 ∷ t))) ≡ fourth_text base length) × (base < 2 ^ 32) × (length < 256)
five_texts a b c d t w x y z l base length ha hb hc hd ht e f =
    let a' : a ≡ decimal (base / 16777216) = ha.0 ∙ ap decimal (sym (first_byte w x y z ha.1 hb.1 hc.1 hd.1) ∙ ap (λ n. n / 16777216) e) in
    let b' : b ≡ decimal (base / 65536 % 256) = hb.0 ∙ ap decimal (sym (second_byte w x y z ha.1 hb.1 hc.1 hd.1) ∙ ap (λ n. n / 65536 % 256) e) in
    let c' : c ≡ decimal (base / 256 % 256) = hc.0 ∙ ap decimal (sym (third_byte w x y z ha.1 hb.1 hc.1 hd.1) ∙ ap (λ n. n / 256 % 256) e) in
    let d' : d ≡ decimal (base % 256) = hd.0 ∙ ap decimal (sym (fourth_byte w x y z ha.1 hb.1 hc.1 hd.1) ∙ ap (λ n. n % 256) e) in
    let t' : t ≡ decimal length = ht.0 ∙ ap decimal f in
    (cc, subst (λ n. n < 2 ^ 32) e (within w x y z ha.1 hb.1 hc.1 hd.1), subst (λ n. n < 256) f ht.1)

five : (a b c d t : List ℕ) (base length : ℕ) → numbers_in a b c d t ≡ Some (base, length) →
    (a ++ 46 ∷ (b ++ 46 ∷ (c ++ 46 ∷ (d ++ 47 ∷ t))) ≡ fourth_text base length) × (base < 2 ^ 32) × (length < 256)
five a b c d t base length e =
    let p = bound (byte_number a) (λ w. byte_number b >>= λ x. byte_number c >>= λ y. byte_number d >>= λ z. byte_number t >>= λ l. fifth w x y z l) (base, length) e in
    let q = bound (byte_number b) (λ x. byte_number c >>= λ y. byte_number d >>= λ z. byte_number t >>= λ l. fifth p.0 x y z l) (base, length) p.2 in
    let r = bound (byte_number c) (λ y. byte_number d >>= λ z. byte_number t >>= λ l. fifth p.0 q.0 y z l) (base, length) q.2 in
    let s = bound (byte_number d) (λ z. byte_number t >>= λ l. fifth p.0 q.0 r.0 z l) (base, length) r.2 in
    let u = bound (byte_number t) (λ l. fifth p.0 q.0 r.0 s.0 l) (base, length) s.2 in
    let v = some_pair_parts (address_of p.0 q.0 r.0 s.0) base u.0 length u.2 in
    five_texts a b c d t p.0 q.0 r.0 s.0 u.0 base length (byte_only a p.0 p.1) (byte_only b q.0 q.1) (byte_only c r.0 r.1) (byte_only d s.0 s.1) (byte_only t u.0 u.1) v.0 v.1

-- the texts of an address and a length, as one
joined_text : (a b c d t : List ℕ) → (a ++ 46 ∷ (b ++ 46 ∷ (c ++ 46 ∷ d))) ++ 47 ∷ t ≡ a ++ 46 ∷ (b ++ 46 ∷ (c ++ 46 ∷ (d ++ 47 ∷ t)))
joined_text a b c d t =
    append_assoc a (46 ∷ (b ++ 46 ∷ (c ++ 46 ∷ d))) (47 ∷ t)
    ∙ ap (λ u. a ++ 46 ∷ u) (append_assoc b (46 ∷ (c ++ 46 ∷ d)) (47 ∷ t))
    ∙ ap (λ u. a ++ 46 ∷ (b ++ 46 ∷ u)) (append_assoc c (46 ∷ d) (47 ∷ t))

pub subnet_parts : (base length : ℕ) → subnet_text base length ≡ codes "subnet=" ++ fourth_text base length
subnet_parts base length =
    ap (λ u. codes "subnet=" ++ u) (joined_text (decimal (base / 16777216)) (decimal (base / 65536 % 256)) (decimal (base / 256 % 256)) (decimal (base % 256)) (decimal length))

-- the text of four parts behind one another
four_parts : (text a p b q c r d t : List ℕ) → split_at 46 text ≡ Some (a, p) → split_at 46 p ≡ Some (b, q) → split_at 46 q ≡ Some (c, r) → split_at 47 r ≡ Some (d, t) →
    text ≡ a ++ 46 ∷ (b ++ 46 ∷ (c ++ 46 ∷ (d ++ 47 ∷ t)))
four_parts text a p b q c r d t e f g h =
    split_only 46 text a p e
    ∙ ap (λ u. a ++ 46 ∷ u) (split_only 46 p b q f)
    ∙ ap (λ u. a ++ 46 ∷ (b ++ 46 ∷ u)) (split_only 46 q c r g)
    ∙ ap (λ u. a ++ 46 ∷ (b ++ 46 ∷ (c ++ 46 ∷ u))) (split_only 47 r d t h)

range_only : (text : List ℕ) (base length : ℕ) → range_of text ≡ Some (base, length) → (text ≡ fourth_text base length) × (base < 2 ^ 32) × (length < 256)
range_only text base length e =
    let a = bound (split_at 46 text) _ (base, length) e in
    let b = bound (split_at 46 a.0.1) _ (base, length) a.2 in
    let c = bound (split_at 46 b.0.1) _ (base, length) b.2 in
    let d = bound (split_at 47 c.0.1) _ (base, length) c.2 in
    let m = five a.0.0 b.0.0 c.0.0 d.0.0 d.0.1 base length d.2 in
    (four_parts text a.0.0 a.0.1 b.0.0 b.0.1 c.0.0 c.0.1 d.0.0 d.0.1 a.1 b.1 c.1 d.1 ∙ m.0, m.1, m.2)

-- a range has one spelling, and fits its types
pub subnet_only : (w : List ℕ) (base length : ℕ) → subnet_of w ≡ Some (base, length) → (w ≡ subnet_text base length) × (base < 2 ^ 32) × (length < 256)
subnet_only w base length e =
    let k = bound (split_at 61 w) (λ parts. cond (bytes_eq parts.0 (codes "subnet")) (range_of parts.1) None) (base, length) e in
    let t = tested (bytes_eq k.0.0 (codes "subnet")) (range_of k.0.1) (base, length) k.2 in
    let m = range_only k.0.1 base length t.1 in (
      split_only 61 w k.0.0 k.0.1 k.1
          ∙ ap (λ u. u ++ 61 ∷ k.0.1) (same k.0.0 (codes "subnet") t.0)
          ∙ ap (λ u. codes "subnet=" ++ u) m.0
          ∙ sym (subnet_parts base length),
      m.1,
      m.2,
    )

-- ## A spelled range is read

bytes_of : (n : ℕ) → n < 2 ^ 32 → address_of (n / 16777216) (n / 65536 % 256) (n / 256 % 256) (n % 256) ≡ n
bytes_of n h = omega arith

high_byte : (n : ℕ) → n < 2 ^ 32 → n / 16777216 < 256
high_byte n h = omega arith

low_byte : (n : ℕ) → n % 256 < 256
low_byte n = omega arith

clean_byte : (sep n : ℕ) → 10 ≤ digit_value sep → n < 256 → Clean sep (decimal n)
clean_byte sep n high h = clean_number sep n high (omega (arith, h))

five_yes : (w x y z l : ℕ) → w < 256 → x < 256 → y < 256 → z < 256 → l < 256 →
    range_of (decimal w ++ 46 ∷ (decimal x ++ 46 ∷ (decimal y ++ 46 ∷ (decimal z ++ 47 ∷ decimal l)))) ≡ Some (address_of w x y z, l)
five_yes w x y z l hw hx hy hz hl =
    let fl : Option ℕ → Option (ℕ × ℕ) = λ o. o >>= λ l. fifth w x y z l in
    let fz : Option ℕ → Option (ℕ × ℕ) = λ o. o >>= λ z. byte_number (decimal l) >>= λ l. fifth w x y z l in
    let fy : Option ℕ → Option (ℕ × ℕ) = λ o. o >>= λ y. byte_number (decimal z) >>= λ z. byte_number (decimal l) >>= λ l. fifth w x y z l in
    let fx : Option ℕ → Option (ℕ × ℕ) = λ o. o >>= λ x. byte_number (decimal y) >>= λ y. byte_number (decimal z) >>= λ z. byte_number (decimal l) >>= λ l. fifth w x y z l in
    let fw : Option ℕ → Option (ℕ × ℕ) = λ o. o >>= λ w. byte_number (decimal x) >>= λ x. byte_number (decimal y) >>= λ y. byte_number (decimal z) >>= λ z. byte_number (decimal l) >>= λ l. fifth w x y z l in
    let d4 : Option (List ℕ × List ℕ) → Option (ℕ × ℕ) = λ o. o >>= λ d. numbers_in (decimal w) (decimal x) (decimal y) d.0 d.1 in
    let d3 : Option (List ℕ × List ℕ) → Option (ℕ × ℕ) = λ o. o >>= λ c. split_at 47 c.1 >>= λ d. numbers_in (decimal w) (decimal x) c.0 d.0 d.1 in
    let d2 : Option (List ℕ × List ℕ) → Option (ℕ × ℕ) = λ o. o >>= λ b. split_at 46 b.1 >>= λ c. split_at 47 c.1 >>= λ d. numbers_in (decimal w) b.0 c.0 d.0 d.1 in
    let d1 : Option (List ℕ × List ℕ) → Option (ℕ × ℕ) = λ o. o >>= λ a. split_at 46 a.1 >>= λ b. split_at 46 b.1 >>= λ c. split_at 47 c.1 >>= λ d. numbers_in a.0 b.0 c.0 d.0 d.1 in
    ap d1 (split_clean 46 (decimal w) (decimal x ++ 46 ∷ (decimal y ++ 46 ∷ (decimal z ++ 47 ∷ decimal l))) refl (clean_byte 46 w (lit≤ tt) hw))
    ∙ ap d2 (split_clean 46 (decimal x) (decimal y ++ 46 ∷ (decimal z ++ 47 ∷ decimal l)) refl (clean_byte 46 x (lit≤ tt) hx))
    ∙ ap d3 (split_clean 46 (decimal y) (decimal z ++ 47 ∷ decimal l) refl (clean_byte 46 y (lit≤ tt) hy))
    ∙ ap d4 (split_clean 47 (decimal z) (decimal l) refl (clean_byte 47 z (lit≤ tt) hz))
    ∙ ap fw (byte_yes w hw) ∙ ap fx (byte_yes x hx) ∙ ap fy (byte_yes y hy) ∙ ap fz (byte_yes z hz) ∙ ap fl (byte_yes l hl)

abbrev paired : ℕ → ℕ → Option (ℕ × ℕ)
paired base length = Some (base, length)

pub subnet_yes : (base length : ℕ) → base < 2 ^ 32 → length < 256 → subnet_of (subnet_text base length) ≡ Some (base, length)
subnet_yes base length h k =
    ap subnet_of (subnet_parts base length)
    ∙ five_yes (base / 16777216) (base / 65536 % 256) (base / 256 % 256) (base % 256) length (high_byte base h) (low_byte (base / 65536)) (low_byte (base / 256)) (low_byte base) k
    ∙ ap (λ n. paired n length) (bytes_of base h)
