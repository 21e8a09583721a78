-- What has to follow what was read, for a constraint to be whole.
use Rattle.std.proofs.Common.{◌≡◌, ℕ, List, [], ◌∷◌, ◌++◌, codes, Bool, true, false, cond, Some, None, refl, sym, ap, ◌∙◌, subst}
use Rattle.std.specs.Prelude.{◌==◌, ◌&&◌, IsTrue}
use Rattle.std.specs.List.{list_all}
use Rattle.std.specs.Str.{str_to_ascii_lowercase}
use Rattle.std.proofs.lemmas.Bool.Decides.{Decides-eqb}
use Rattle.std.proofs.lemmas.List.{append-nil, append_assoc}
use Rattle.swarm_objects.specs.declared.templates.Key.{Key}
use Rattle.swarm_objects.specs.declared.templates.Key.TheVariants as key
use Rattle.swarm_objects.specs.declared.templates.Constraint.{Constraint}
use Rattle.swarm_filters.specs.Grammar.{is_space, AreSpaces, sign_of}
use Rattle.swarm_objects.specs.Names.{is_value, is_name}
use Rattle.swarm_filters.specs.Machine.{Progress, start, in_key, in_label, after_key, in_sign, after_sign, in_value, finished, label_key, constraint_with, behind_key, byte_step}

pub record AfterWhole (known : Constraint) (text : List ℕ) (c : Constraint) : Type 0 where
  pub is : c ≡ known
  pub spaces : AreSpaces text

pub record ValueTail (k : Key) (equal : Bool) (value text : List ℕ) (c : Constraint) : Type 0 where
  pub more : List ℕ
  pub gap : List ℕ
  pub whole : text ≡ more ++ gap
  pub valued : IsTrue (is_value (value ++ more))
  pub spaces : AreSpaces gap
  pub is : c ≡ constraint_with k equal (value ++ more)

pub record AfterSign (k : Key) (equal : Bool) (text : List ℕ) (c : Constraint) : Type 0 where
  pub gap : List ℕ
  pub value : List ℕ
  pub last : List ℕ
  pub whole : text ≡ gap ++ (value ++ last)
  pub spaces : AreSpaces gap
  pub valued : IsTrue (is_value value)
  pub last_spaces : AreSpaces last
  pub is : c ≡ constraint_with k equal value

pub record SignTail (k : Key) (equal : Bool) (text : List ℕ) (c : Constraint) : Type 0 where
  pub rest : List ℕ
  pub whole : text ≡ 61 ∷ rest
  pub behind : AfterSign k equal rest c

pub record AfterKey (k : Key) (text : List ℕ) (c : Constraint) : Type 0 where
  pub gap : List ℕ
  pub equal : Bool
  pub rest : List ℕ
  pub whole : text ≡ gap ++ (sign_of equal ++ rest)
  pub spaces : AreSpaces gap
  pub behind : AfterSign k equal rest c

pub record LabelTail (engine : Bool) (name text : List ℕ) (c : Constraint) : Type 0 where
  pub more : List ℕ
  pub rest : List ℕ
  pub whole : text ≡ more ++ rest
  pub named : IsTrue (is_name (name ++ more))
  pub behind : AfterKey (label_key engine (name ++ more)) rest c

abbrev pub Spelling : List ℕ → List ℕ → List ℕ → Type 0
Spelling bytes raw word = bytes ++ str_to_ascii_lowercase raw ≡ word

abbrev pub SpellingLabel : List ℕ → List ℕ → List ℕ → List ℕ → Type 0
SpellingLabel bytes raw prefix name = (front : List ℕ) × (Spelling bytes front prefix × ((raw ≡ front ++ name) × IsTrue (is_name name)))

-- the bytes and then this text are the key
abbrev pub KeyTail : List ℕ → List ℕ → Key → Type 0
KeyTail bytes raw key.NodeId = Spelling bytes raw (codes "node.id")
KeyTail bytes raw key.Hostname = Spelling bytes raw (codes "node.hostname")
KeyTail bytes raw key.Role = Spelling bytes raw (codes "node.role")
KeyTail bytes raw key.Os = Spelling bytes raw (codes "node.platform.os")
KeyTail bytes raw key.Arch = Spelling bytes raw (codes "node.platform.arch")
KeyTail bytes raw (key.Label name) = SpellingLabel bytes raw (codes "node.labels.") name
KeyTail bytes raw (key.Engine name) = SpellingLabel bytes raw (codes "engine.labels.") name

pub record InKey (bytes text : List ℕ) (c : Constraint) : Type 0 where
  pub raw : List ℕ
  pub found : Key
  pub rest : List ℕ
  pub whole : text ≡ raw ++ rest
  pub is_key : KeyTail bytes raw found
  pub behind : AfterKey found rest c

pub record FromStart (text : List ℕ) (c : Constraint) : Type 0 where
  pub gap : List ℕ
  pub rest : List ℕ
  pub whole : text ≡ gap ++ rest
  pub spaces : AreSpaces gap
  pub behind : InKey [] rest c

-- this text makes what was read the constraint
abbrev pub Suffix : Progress → List ℕ → Constraint → Type 0
Suffix start text c = FromStart text c
Suffix (in_key bytes) text c = InKey bytes text c
Suffix (in_label engine name) text c = LabelTail engine name text c
Suffix (after_key k) text c = AfterKey k text c
Suffix (in_sign k equal) text c = SignTail k equal text c
Suffix (after_sign k equal) text c = AfterSign k equal text c
Suffix (in_value k equal value) text c = ValueTail k equal value text c
Suffix (finished known) text c = AfterWhole known text c

-- small steps

pub at : (r s : Progress) (t : List ℕ) (c : Constraint) → r ≡ s → Suffix s t c → Suffix r t c
at r s t c e suffix = subst (λ q. Suffix q t c) (sym e) suffix

pub never : {X : Type 0} (r : Progress) → None ≡ Some r → X
never r e = absurd (cc)

pub same : (r s : Progress) → Some r ≡ Some s → r ≡ s
same r s e = cc

pub is_byte : (b n : ℕ) → (b == n) ≡ true → b ≡ n
is_byte b n e = (Decides-eqb b n).0 e

pub space_more : (b : ℕ) (bs : List ℕ) → (b == 32) ≡ true → AreSpaces bs → AreSpaces (b ∷ bs)
space_more b bs e spaces = ap (λ x. x && list_all is_space bs) e ∙ spaces

-- one byte before the rest

pub behind_key-suffix : (k : Key) (b : ℕ) (s : Progress) (t : List ℕ) (c : Constraint) → behind_key k b ≡ Some s → Suffix s t c → AfterKey k (b ∷ t) c
behind_key-suffix k b s t c = space (b == 32) refl
  where
    space : (x : Bool) → (b == 32) ≡ x → cond x (Some (after_key k)) (cond (b == 61) (Some (in_sign k true)) (cond (b == 33) (Some (in_sign k false)) None)) ≡ Some s → Suffix s t c → AfterKey k (b ∷ t) c
    space true e h suffix =
        let rest : AfterKey k t c = at (after_key k) s t c (same (after_key k) s h) suffix in
        record { gap = b ∷ rest.gap; equal = rest.equal; rest = rest.rest; whole = ap (λ r. b ∷ r) rest.whole; spaces = space_more b rest.gap e rest.spaces; behind = rest.behind }
    space false e h suffix = equals (b == 61) refl h suffix
      where
        sign : (equal : Bool) → sign_of equal ≡ b ∷ 61 ∷ [] → SignTail k equal t c → AfterKey k (b ∷ t) c
        sign equal is rest = record { gap = []; equal = equal; rest = rest.rest; whole = ap (λ r. b ∷ r) rest.whole ∙ ap (λ r. r ++ rest.rest) (sym is); spaces = refl; behind = rest.behind }

        other : (x : Bool) → (b == 33) ≡ x → cond x (Some (in_sign k false)) None ≡ Some s → Suffix s t c → AfterKey k (b ∷ t) c
        other true f h suffix = sign false (ap (λ n. n ∷ 61 ∷ []) (sym (is_byte b 33 f))) (at (in_sign k false) s t c (same (in_sign k false) s h) suffix)
        other false f h suffix = never s h

        equals : (x : Bool) → (b == 61) ≡ x → cond x (Some (in_sign k true)) (cond (b == 33) (Some (in_sign k false)) None) ≡ Some s → Suffix s t c → AfterKey k (b ∷ t) c
        equals true f h suffix = sign true (ap (λ n. n ∷ 61 ∷ []) (sym (is_byte b 61 f))) (at (in_sign k true) s t c (same (in_sign k true) s h) suffix)
        equals false f h suffix = other (b == 33) refl h suffix

pub in_sign-suffix : (k : Key) (equal : Bool) (b : ℕ) (s : Progress) (t : List ℕ) (c : Constraint) → byte_step (in_sign k equal) b ≡ Some s → Suffix s t c → SignTail k equal (b ∷ t) c
in_sign-suffix k equal b s t c = go (b == 61) refl
  where
    go : (x : Bool) → (b == 61) ≡ x → cond x (Some (after_sign k equal)) None ≡ Some s → Suffix s t c → SignTail k equal (b ∷ t) c
    go true e h suffix = record { rest = t; whole = ap (λ n. n ∷ t) (is_byte b 61 e); behind = at (after_sign k equal) s t c (same (after_sign k equal) s h) suffix }
    go false e h suffix = never s h

pub after_sign-suffix : (k : Key) (equal : Bool) (b : ℕ) (s : Progress) (t : List ℕ) (c : Constraint) → byte_step (after_sign k equal) b ≡ Some s → Suffix s t c → AfterSign k equal (b ∷ t) c
after_sign-suffix k equal b s t c = space (b == 32) refl
  where
    value : (x : Bool) → is_value (b ∷ []) ≡ x → cond x (Some (in_value k equal (b ∷ []))) None ≡ Some s → Suffix s t c → AfterSign k equal (b ∷ t) c
    value true e h suffix =
        let tail : ValueTail k equal (b ∷ []) t c = at (in_value k equal (b ∷ [])) s t c (same (in_value k equal (b ∷ [])) s h) suffix in
        record { gap = []; value = b ∷ tail.more; last = tail.gap; whole = ap (λ r. b ∷ r) tail.whole; spaces = refl; valued = tail.valued; last_spaces = tail.spaces; is = tail.is }
    value false e h suffix = never s h

    space : (x : Bool) → (b == 32) ≡ x → cond x (Some (after_sign k equal)) (cond (is_value (b ∷ [])) (Some (in_value k equal (b ∷ []))) None) ≡ Some s → Suffix s t c → AfterSign k equal (b ∷ t) c
    space true e h suffix =
        let rest : AfterSign k equal t c = at (after_sign k equal) s t c (same (after_sign k equal) s h) suffix in
        record { gap = b ∷ rest.gap; value = rest.value; last = rest.last; whole = ap (λ r. b ∷ r) rest.whole; spaces = space_more b rest.gap e rest.spaces; valued = rest.valued; last_spaces = rest.last_spaces; is = rest.is }
    space false e h suffix = value (is_value (b ∷ [])) refl h suffix

pub finished-suffix : (known : Constraint) (b : ℕ) (s : Progress) (t : List ℕ) (c : Constraint) → byte_step (finished known) b ≡ Some s → Suffix s t c → AfterWhole known (b ∷ t) c
finished-suffix known b s t c = go (b == 32) refl
  where
    go : (x : Bool) → (b == 32) ≡ x → cond x (Some (finished known)) None ≡ Some s → Suffix s t c → AfterWhole known (b ∷ t) c
    go true e h suffix =
        let rest : AfterWhole known t c = at (finished known) s t c (same (finished known) s h) suffix in
        record { is = rest.is; spaces = space_more b t e rest.spaces }
    go false e h suffix = never s h

pub in_value-suffix : (k : Key) (equal : Bool) (v : List ℕ) (b : ℕ) (s : Progress) (t : List ℕ) (c : Constraint) → IsTrue (is_value v) → byte_step (in_value k equal v) b ≡ Some s → Suffix s t c → ValueTail k equal v (b ∷ t) c
in_value-suffix k equal v b s t c valued = space (b == 32) refl
  where
    joined : (more : List ℕ) → (v ++ b ∷ []) ++ more ≡ v ++ b ∷ more
    joined more = append_assoc v (b ∷ []) more

    value : (x : Bool) → is_value (v ++ b ∷ []) ≡ x → cond x (Some (in_value k equal (v ++ b ∷ []))) None ≡ Some s → Suffix s t c → ValueTail k equal v (b ∷ t) c
    value true e h suffix =
        let tail : ValueTail k equal (v ++ b ∷ []) t c = at (in_value k equal (v ++ b ∷ [])) s t c (same (in_value k equal (v ++ b ∷ [])) s h) suffix in
        record { more = b ∷ tail.more; gap = tail.gap; whole = ap (λ r. b ∷ r) tail.whole; valued = subst (λ w. IsTrue (is_value w)) (joined tail.more) tail.valued; spaces = tail.spaces; is = tail.is ∙ ap (λ w. constraint_with k equal w) (joined tail.more) }
    value false e h suffix = never s h

    space : (x : Bool) → (b == 32) ≡ x → cond x (Some (finished (constraint_with k equal v))) (cond (is_value (v ++ b ∷ [])) (Some (in_value k equal (v ++ b ∷ []))) None) ≡ Some s → Suffix s t c → ValueTail k equal v (b ∷ t) c
    space true e h suffix =
        let rest : AfterWhole (constraint_with k equal v) t c = at (finished (constraint_with k equal v)) s t c (same (finished (constraint_with k equal v)) s h) suffix in
        record { more = []; gap = b ∷ t; whole = refl; valued = subst (λ w. IsTrue (is_value w)) (sym (append-nil v)) valued; spaces = space_more b t e rest.spaces; is = rest.is ∙ ap (λ w. constraint_with k equal w) (sym (append-nil v)) }
    space false e h suffix = value (is_value (v ++ b ∷ [])) refl h suffix

pub in_label-suffix : (g : Bool) (n : List ℕ) (b : ℕ) (s : Progress) (t : List ℕ) (c : Constraint) → byte_step (in_label g n) b ≡ Some s → Suffix s t c → LabelTail g n (b ∷ t) c
in_label-suffix g n b s t c = longer (is_name (n ++ b ∷ [])) refl
  where
    joined : (more : List ℕ) → (n ++ b ∷ []) ++ more ≡ n ++ b ∷ more
    joined more = append_assoc n (b ∷ []) more

    behind : (x : Bool) → is_name n ≡ x → cond x (behind_key (label_key g n) b) None ≡ Some s → Suffix s t c → LabelTail g n (b ∷ t) c
    behind true e h suffix =
        let rest : AfterKey (label_key g n) (b ∷ t) c = behind_key-suffix (label_key g n) b s t c h suffix in
        record { more = []; rest = b ∷ t; whole = refl; named = subst (λ w. IsTrue (is_name w)) (sym (append-nil n)) e; behind = subst (λ w. AfterKey (label_key g w) (b ∷ t) c) (sym (append-nil n)) rest }
    behind false e h suffix = never s h

    longer : (x : Bool) → is_name (n ++ b ∷ []) ≡ x → cond x (Some (in_label g (n ++ b ∷ []))) (cond (is_name n) (behind_key (label_key g n) b) None) ≡ Some s → Suffix s t c → LabelTail g n (b ∷ t) c
    longer true e h suffix =
        let tail : LabelTail g (n ++ b ∷ []) t c = at (in_label g (n ++ b ∷ [])) s t c (same (in_label g (n ++ b ∷ [])) s h) suffix in
        record { more = b ∷ tail.more; rest = tail.rest; whole = ap (λ r. b ∷ r) tail.whole; named = subst (λ w. IsTrue (is_name w)) (joined tail.more) tail.named; behind = subst (λ w. AfterKey (label_key g w) tail.rest c) (joined tail.more) tail.behind }
    longer false e h suffix = behind (is_name n) refl h suffix
