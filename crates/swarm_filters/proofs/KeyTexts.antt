-- The key that a text is: what is computed is the one in whose form the text is.
use Rattle.std.proofs.Common.{◌≡◌, ℕ, List, ◌++◌, length, take, drop, codes, Bool, true, false, cond, Option, Some, None, refl, sym, ap, ◌∙◌, subst}
use Rattle.std.specs.Prelude.{◌&&◌, nat_eq}
use Rattle.std.specs.List.{starts_with}
use Rattle.std.specs.Option.{option_map, option_or}
use Rattle.std.specs.Str.{bytes_eq, str_to_ascii_lowercase}
use Rattle.std.specs.Char.{to_ascii_lowercase}
use Rattle.std.proofs.Math.Seq.{drop-append_seam}
use Rattle.std.proofs.lemmas.List.{length-map, map-append, take-append-drop, take-map}
use Rattle.std.proofs.lemmas.Slice.Eq.{bytes_eq-Decides}
use Rattle.swarm_objects.specs.declared.templates.Key.{Key}
use Rattle.swarm_objects.specs.declared.templates.Key.TheVariants as key
use Rattle.swarm_filters.specs.Grammar.{IsKey, SpellsLabel, HoldsExactly}
use Rattle.swarm_objects.specs.Names.{is_name}
use Rattle.swarm_filters.specs.Keys.{fixed_key, name_behind, label_of, key_of}
use Rattle.swarm_filters.proofs.Wholes.{first_true, second_true}

-- what is computed is a key of the form

either : {X : Type 0} (word low : List ℕ) (k found : Key) (rest : Option Key) → (word ≡ low → k ≡ found → X) → (rest ≡ Some found → X) → cond (bytes_eq word low) (Some k) rest ≡ Some found → X
either {X = X} word low k found rest this that h = go (bytes_eq word low) refl h
  where
    go : (x : Bool) → bytes_eq word low ≡ x → cond x (Some k) rest ≡ Some found → X
    go true e h = this ((bytes_eq-Decides word low).0 e) (cc)
    go false e h = that h

fixed_key-sound : (text : List ℕ) (k : Key) → fixed_key (str_to_ascii_lowercase text) ≡ Some k → IsKey text k
fixed_key-sound text k h =
    either (codes "node.id") (str_to_ascii_lowercase text) key.NodeId k _ (λ w e. subst (λ q. IsKey text q) e (sym w))
    (λ h. either (codes "node.hostname") (str_to_ascii_lowercase text) key.Hostname k _ (λ w e. subst (λ q. IsKey text q) e (sym w))
    (λ h. either (codes "node.role") (str_to_ascii_lowercase text) key.Role k _ (λ w e. subst (λ q. IsKey text q) e (sym w))
    (λ h. either (codes "node.platform.os") (str_to_ascii_lowercase text) key.Os k _ (λ w e. subst (λ q. IsKey text q) e (sym w))
    (λ h. either (codes "node.platform.arch") (str_to_ascii_lowercase text) key.Arch k _ (λ w e. subst (λ q. IsKey text q) e (sym w))
    (λ h. absurd (cc)) h) h) h) h) h

-- a prefix in letters of either case, and a name
name_behind-sound : (prefix text name : List ℕ) → name_behind prefix text ≡ Some name → SpellsLabel text prefix name
name_behind-sound prefix text name h = go (starts_with nat_eq (str_to_ascii_lowercase text) prefix && is_name (drop (length prefix) text)) refl h
  where
    go : (x : Bool) → (starts_with nat_eq (str_to_ascii_lowercase text) prefix && is_name (drop (length prefix) text)) ≡ x → cond x (Some (drop (length prefix) text)) None ≡ Some name → SpellsLabel text prefix name
    go false e h = absurd (cc)
    go true e h =
        let begins : starts_with nat_eq (str_to_ascii_lowercase text) prefix ≡ true = first_true (starts_with nat_eq (str_to_ascii_lowercase text) prefix) (is_name (drop (length prefix) text)) e in
        let named : is_name (drop (length prefix) text) ≡ true = second_true (starts_with nat_eq (str_to_ascii_lowercase text) prefix) (is_name (drop (length prefix) text)) e in
        let front : prefix ≡ take (length prefix) (str_to_ascii_lowercase text) = (bytes_eq-Decides prefix (take (length prefix) (str_to_ascii_lowercase text))).0 begins in
        let spells : str_to_ascii_lowercase (take (length prefix) text) ≡ prefix = sym (take-map to_ascii_lowercase (length prefix) text) ∙ sym front in
        let is : drop (length prefix) text ≡ name = cc in
        subst (λ n. SpellsLabel text prefix n) is (take (length prefix) text, (spells, (sym (take-append-drop (length prefix) text), named)))

mapped : {X Y : Type 0} (f : X → Y) (o : Option X) (y : Y) → option_map f o ≡ Some y → (x : X) × ((o ≡ Some x) × (f x ≡ y))
mapped f None y h = absurd (cc)
mapped f (Some x) y h = (x, (refl, cc))

label_of-sound : (text : List ℕ) (k : Key) → label_of text ≡ Some k → IsKey text k
label_of-sound text k h = go (name_behind (codes "node.labels.") text) refl h
  where
    go : (o : Option (List ℕ)) → name_behind (codes "node.labels.") text ≡ o → option_or (option_map key.Label o) (option_map key.Engine (name_behind (codes "engine.labels.") text)) ≡ Some k → IsKey text k
    go (Some name) e h =
        let is : key.Label name ≡ k = cc in
        subst (λ q. IsKey text q) is (name_behind-sound (codes "node.labels.") text name e)
    go None e h =
        let found : (name : List ℕ) × ((name_behind (codes "engine.labels.") text ≡ Some name) × (key.Engine name ≡ k)) = mapped key.Engine (name_behind (codes "engine.labels.") text) k h in
        subst (λ q. IsKey text q) found.1.1 (name_behind-sound (codes "engine.labels.") text found.0 found.1.0)

pub key_of-sound : (text : List ℕ) (k : Key) → key_of text ≡ Some k → IsKey text k
key_of-sound text k h = go (fixed_key (str_to_ascii_lowercase text)) refl h
  where
    go : (o : Option Key) → fixed_key (str_to_ascii_lowercase text) ≡ o → option_or o (label_of text) ≡ Some k → IsKey text k
    go (Some found) e h = fixed_key-sound text k (e ∙ h)
    go None e h = label_of-sound text k h

-- each key of the form is computed

fixed : (text word : List ℕ) (k : Key) → str_to_ascii_lowercase text ≡ word → fixed_key word ≡ Some k → key_of text ≡ Some k
fixed text word k spells is = ap (λ low. option_or (fixed_key low) (label_of text)) spells ∙ ap (λ o. option_or o (label_of text)) is

-- in small letters the text is the prefix, and then something
low_label : (text prefix name : List ℕ) (label : SpellsLabel text prefix name) → str_to_ascii_lowercase text ≡ prefix ++ str_to_ascii_lowercase name
low_label text prefix name label =
    ap str_to_ascii_lowercase label.1.1.0 ∙ map-append to_ascii_lowercase label.0 name ∙ ap (λ x. x ++ str_to_ascii_lowercase name) label.1.0

rest_label : (text prefix name : List ℕ) → SpellsLabel text prefix name → drop (length prefix) text ≡ name
rest_label text prefix name label =
    let size : length prefix ≡ length label.0 = ap length (sym label.1.0) ∙ length-map label.0 to_ascii_lowercase in
    ap (λ n. drop n text) size ∙ ap (λ x. drop (length label.0) x) label.1.1.0 ∙ drop-append_seam label.0 name

name_behind-complete : (text prefix name : List ℕ) → SpellsLabel text prefix name → starts_with nat_eq (prefix ++ str_to_ascii_lowercase name) prefix ≡ true → name_behind prefix text ≡ Some name
name_behind-complete text prefix name label begins =
    let rest : drop (length prefix) text ≡ name = rest_label text prefix name label in
    ap (λ low. cond (starts_with nat_eq low prefix && is_name (drop (length prefix) text)) (Some (drop (length prefix) text)) None) (low_label text prefix name label)
    ∙ ap (λ b. cond (b && is_name (drop (length prefix) text)) (Some (drop (length prefix) text)) None) begins
    ∙ ap (λ r. cond (is_name r) (Some r) None) rest
    ∙ ap (λ b. cond b (Some name) None) label.1.1.1

no_name_behind : (text prefix low : List ℕ) → str_to_ascii_lowercase text ≡ low → starts_with nat_eq low prefix ≡ false → name_behind prefix text ≡ None
no_name_behind text prefix low is begins =
    ap (λ l. cond (starts_with nat_eq l prefix && is_name (drop (length prefix) text)) (Some (drop (length prefix) text)) None) is
    ∙ ap (λ b. cond (b && is_name (drop (length prefix) text)) (Some (drop (length prefix) text)) None) begins

pub key_of-complete : (text : List ℕ) (k : Key) → IsKey text k → key_of text ≡ Some k
key_of-complete text key.NodeId is = fixed text (codes "node.id") key.NodeId is refl
key_of-complete text key.Hostname is = fixed text (codes "node.hostname") key.Hostname is refl
key_of-complete text key.Role is = fixed text (codes "node.role") key.Role is refl
key_of-complete text key.Os is = fixed text (codes "node.platform.os") key.Os is refl
key_of-complete text key.Arch is = fixed text (codes "node.platform.arch") key.Arch is refl
key_of-complete text (key.Label name) is =
    ap (λ low. option_or (fixed_key low) (label_of text)) (low_label text (codes "node.labels.") name is)
    ∙ ap (λ o. option_or (option_map key.Label o) (option_map key.Engine (name_behind (codes "engine.labels.") text))) (name_behind-complete text (codes "node.labels.") name is refl)
key_of-complete text (key.Engine name) is =
    ap (λ low. option_or (fixed_key low) (label_of text)) (low_label text (codes "engine.labels.") name is)
    ∙ ap (λ o. option_or (option_map key.Label o) (option_map key.Engine (name_behind (codes "engine.labels.") text))) (no_name_behind text (codes "node.labels.") (codes "engine.labels." ++ str_to_ascii_lowercase name) (low_label text (codes "engine.labels.") name is) refl)
    ∙ ap (λ o. option_map key.Engine o) (name_behind-complete text (codes "engine.labels.") name is refl)

pub key_of-exact : (text : List ℕ) → HoldsExactly (IsKey text) (key_of text)
key_of-exact text k = (key_of-sound text k, key_of-complete text k)

-- what equals the one that is computed is it
pub exact_key : (text : List ℕ) (held : Option Key) → held ≡ key_of text → HoldsExactly (IsKey text) held
exact_key text held is = subst (λ o. HoldsExactly (IsKey text) o) (sym is) (key_of-exact text)

pub exact_fixed : (text : List ℕ) (k : Key) → Some k ≡ fixed_key (str_to_ascii_lowercase text) → HoldsExactly (IsKey text) (Some k)
exact_fixed text k is = exact_key text (Some k) (ap (λ o. option_or o (label_of text)) is)

pub exact_label : (text : List ℕ) (held : Option Key) → None ≡ fixed_key (str_to_ascii_lowercase text) → held ≡ label_of text → HoldsExactly (IsKey text) held
exact_label text held none is = exact_key text held (is ∙ ap (λ o. option_or o (label_of text)) none)

-- a text is at most one key
pub one_key : (text : List ℕ) (k j : Key) → IsKey text k → IsKey text j → k ≡ j
one_key text k j is other =
    let one : key_of text ≡ Some k = key_of-complete text k is in
    let two : key_of text ≡ Some j = key_of-complete text j other in
    cc

-- a text that is cut behind the prefix

behind_cut : (prefix text front rest : List ℕ) → front ≡ take (length prefix) text → rest ≡ drop (length prefix) text → cond (bytes_eq prefix (str_to_ascii_lowercase front) && is_name rest) (Some rest) None ≡ name_behind prefix text
behind_cut prefix text front rest first last =
    let low : str_to_ascii_lowercase front ≡ take (length prefix) (str_to_ascii_lowercase text) = ap str_to_ascii_lowercase first ∙ sym (take-map to_ascii_lowercase (length prefix) text) in
    ap (λ l. cond (bytes_eq prefix l && is_name rest) (Some rest) None) low ∙ ap (λ r. cond (bytes_eq prefix (take (length prefix) (str_to_ascii_lowercase text)) && is_name r) (Some r) None) last

pub behind_found : (prefix text front rest : List ℕ) → front ≡ take (length prefix) text → rest ≡ drop (length prefix) text → bytes_eq prefix (str_to_ascii_lowercase front) ≡ true → is_name rest ≡ true → Some rest ≡ name_behind prefix text
behind_found prefix text front rest first last word named =
    sym (ap (λ b. cond (b && is_name rest) (Some rest) None) word ∙ ap (λ b. cond b (Some rest) None) named) ∙ behind_cut prefix text front rest first last

pub behind_another : (prefix text front rest : List ℕ) → front ≡ take (length prefix) text → rest ≡ drop (length prefix) text → bytes_eq prefix (str_to_ascii_lowercase front) ≡ false → None ≡ name_behind prefix text
behind_another prefix text front rest first last word = sym (ap (λ b. cond (b && is_name rest) (Some rest) None) word) ∙ behind_cut prefix text front rest first last

pub behind_nameless : (prefix text front rest : List ℕ) → front ≡ take (length prefix) text → rest ≡ drop (length prefix) text → bytes_eq prefix (str_to_ascii_lowercase front) ≡ true → is_name rest ≡ false → None ≡ name_behind prefix text
behind_nameless prefix text front rest first last word named =
    sym (ap (λ b. cond (b && is_name rest) (Some rest) None) word ∙ ap (λ b. cond b (Some rest) None) named) ∙ behind_cut prefix text front rest first last
