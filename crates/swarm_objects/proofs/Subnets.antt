-- The addresses of a subnet that breaks no rule.
use Rattle.std.proofs.Common.{◌≡◌, ◌∙◌, ◌+◌, ◌-◌, ◌*◌, ◌/◌, ◌%◌, ◌^◌, ◌<◌, ◌≤◌, ◌||◌, Bool, None, Some, ap, arith, cond, eqb, false, ltb, not, refl, sym, true, ℕ}
use Rattle.std.proofs.lemmas.Bool.Decides.{nat_tests}
use Rattle.std.proofs.Math.Nat.{div-add-mod, mul-add, mul-le-mul_left}
use Rattle.std.proofs.lemmas.Nat.{pow-add, pow_pos}
use Rattle.std.specs.Prelude.{find, is_none}
use Rattle.swarm_objects.specs.Rules.Networks.{subnet_breaks, subnet_rules}
use Rattle.swarm_objects.specs.declared.rules.SpecRule.TheVariants as rule

below_factor : (p q b : ℕ) → p * q < p * b → q < b
below_factor p q b lt = go (ltb q b) refl
  where
    go : (c : Bool) → ltb q b ≡ c → q < b
    go true e = grind (arith, nat_tests)
    go false e = let ge : b ≤ q = grind (arith, nat_tests) in absurd (omega (arith, mul-le-mul_left p ge))

-- a multiple of a part that is less than the whole, and that part
multiple_fits : (a b p : ℕ) → a % p ≡ 0 → a < p * b → a + p ≤ p * b
multiple_fits a b p e lt =
    let whole : p * (a / p) ≡ a = omega (arith, div-add-mod a p, e) in
    let fewer = below_factor p (a / p) b (omega (arith, whole, lt)) in
    omega (arith, whole, mul-le-mul_left p fewer, mul-add p 1 (a / p))

aligned_fits : (base a b whole : ℕ) → 2 ^ (a + b) ≡ whole → base % 2 ^ a ≡ 0 → base < whole → base + 2 ^ a ≤ whole
aligned_fits base a b whole is e lt =
    let parts : 2 ^ a * 2 ^ b ≡ whole = sym (pow-add 2 a b) ∙ is in
    omega (arith, parts, multiple_fits base (2 ^ b) (2 ^ a) e (omega (arith, parts, lt)))

unbroken : (length : ℕ) (host : Bool) →
    is_none (cond ((ltb length 16 || ltb 29 length) || host) (Some rule.Subnet) None) ≡ true →
    (16 ≤ length) × (length ≤ 29) × (host ≡ false)
unbroken length host e = go (ltb length 16) refl (ltb 29 length) refl host e
  where
    go : (low : Bool) → ltb length 16 ≡ low → (high : Bool) → ltb 29 length ≡ high → (h : Bool) →
        is_none (cond ((low || high) || h) (Some rule.Subnet) None) ≡ true → (16 ≤ length) × (length ≤ 29) × (h ≡ false)
    go true p high q h k = cc
    go false p true q h k = cc
    go false p false q true k = cc
    go false p false q false k = (grind (arith, nat_tests), grind (arith, nat_tests), refl)

no_host : (n : ℕ) → not (eqb n 0) ≡ false → n ≡ 0
no_host n e = grind (arith, nat_tests)

at_least_8 : (bits more : ℕ) → bits ≡ 3 + more → 8 ≤ 2 ^ bits
at_least_8 bits more is = omega (arith, ap (λ (n : ℕ). 2 ^ n) is, pow-add 2 3 more, pow_pos more)

at_most : (bits more : ℕ) → bits + more ≡ 16 → 2 ^ bits ≤ 2 ^ 16
at_most bits more is =
    let parts : 2 ^ bits * 2 ^ more ≡ 2 ^ 16 = sym (pow-add 2 bits more) ∙ ap (λ (n : ℕ). 2 ^ n) is in
    let grown : 2 ^ bits * 1 ≤ 2 ^ bits * 2 ^ more = mul-le-mul_left (2 ^ bits) (pow_pos more) in
    omega (arith, parts, grown)

-- it has 16 to 29 bits, and as many addresses as the others allow, each of 32 bits
pub record IsSubnet (base : ℕ) (length : ℕ) : Type 0 where
  pub fewest : 16 ≤ length
  pub most : length ≤ 29
  pub some : 8 ≤ 2 ^ (32 - length)
  pub small : 2 ^ (32 - length) ≤ 2 ^ 16
  pub fits : base + 2 ^ (32 - length) ≤ 2 ^ 32

pub subnet_of : (base length : ℕ) → base < 2 ^ 32 → is_none (find (subnet_breaks base length) subnet_rules) ≡ true →
    IsSubnet base length
subnet_of base length lt e =
    let rules = unbroken length (not (eqb (base % 2 ^ (32 - length)) 0)) e in
    let count : 32 - length + length ≡ 32 = omega (arith, rules.1) in
    record {
      fewest = rules.0;
      most = rules.1;
      some = at_least_8 (32 - length) (29 - length) (omega (arith, rules.1));
      small = at_most (32 - length) (length - 16) (omega (arith, rules.0, rules.1));
      fits = aligned_fits base (32 - length) length (2 ^ 32) (ap (λ (k : ℕ). 2 ^ k) count)
          (no_host (base % 2 ^ (32 - length)) rules.2) lt;
    }

pub last_fits : (base length last : ℕ) → last ≡ base + 2 ^ (32 - length) - 2 → base < 2 ^ 32 →
    is_none (find (subnet_breaks base length) subnet_rules) ≡ true → last < 2 ^ 32
last_fits base length last is lt e = let s = subnet_of base length lt e in omega (arith, is, s.some, s.fits)
