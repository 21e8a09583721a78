-- What a reading that gave a value says of its tests.
use Rattle.std.proofs.Common.{◌≡◌, ℕ, List, [], ◌∷◌, Bool, true, false, cond, refl, sym, ◌∙◌, ap, subst, Option, Some, None}
use Rattle.std.specs.List.{find}
use Rattle.std.specs.Option.{option_map}
use Rattle.std.specs.Str.{bytes_eq}
use Rattle.std.proofs.lemmas.Slice.Eq.{bytes_eq-Decides}
use Rattle.std.proofs.lemmas.Option.{same_Some}
use Rattle.swarm_filters.specs.Grammar.{is_name}
use Rattle.script_grammar.specs.Words.{name_of, ◌>>=◌}
use Rattle.script_grammar.proofs.Numbers.{test_some}

pub same : (w v : List ℕ) → bytes_eq w v ≡ true → w ≡ v
same w v e = (bytes_eq-Decides w v).0 e

-- the value that went on
pub bound : {A B : Type 0} (o : Option A) (f : A → Option B) (y : B) → (o >>= f) ≡ Some y → (x : A) × (o ≡ Some x) × (f x ≡ Some y)
bound None f y e = cc
bound (Some x) f y e = (x, refl, e)

-- the value that was made from another
pub mapped : {A B : Type 0} (f : A → B) (o : Option A) (y : B) → option_map f o ≡ Some y → (x : A) × (o ≡ Some x) × (f x ≡ y)
mapped f None y e = cc
mapped f (Some x) y e = (x, refl, cc)

-- a test of a word, and what comes behind it
pub choose : {A : Type 0} (P : A → Type 0) (w lit : List ℕ) (s : A) (y : Option A) (next : A) →
    (w ≡ lit → P s) → (y ≡ Some next → P next) → cond (bytes_eq w lit) (Some s) y ≡ Some next → P next
choose P w lit s y next f g e = go (bytes_eq w lit) refl e where
  go : (b : Bool) → bytes_eq w lit ≡ b → cond b (Some s) y ≡ Some next → P next
  go true t d = subst P (same_Some s next d) (f (same w lit t))
  go false t d = g d

pub never : {A : Type 0} (P : A → Type 0) (next : A) → None ≡ Some next → P next
never P next e = cc

pub either : {A Q : Type 0} (b : Bool) (x y : Option A) (z : A) → cond b x y ≡ Some z → (x ≡ Some z → Q) → (y ≡ Some z → Q) → Q
either true x y z e f g = f e
either false x y z e f g = g e

-- a test without another way
pub tested : {A : Type 0} (b : Bool) (o : Option A) (y : A) → cond b o None ≡ Some y → (b ≡ true) × (o ≡ Some y)
tested true o y e = (refl, e)
tested false o y e = cc

pub found : {A : Type 0} (p : A → Bool) (xs : List A) (x : A) → find p xs ≡ Some x → p x ≡ true
found p [] x e = cc
found p (y ∷ ys) x e = go (p y) refl e (found p ys x) where
  go : (b : Bool) → p y ≡ b → cond b (Some y) (find p ys) ≡ Some x → (find p ys ≡ Some x → p x ≡ true) → p x ≡ true
  go true t d ih = ap p (sym (same_Some y x d)) ∙ t
  go false t d ih = ih d

pub named_only : (w x : List ℕ) → name_of w ≡ Some x → w ≡ x
named_only w x e = (test_some (is_name w) w x e).1
