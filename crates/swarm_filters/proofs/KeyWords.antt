-- The words that keys begin with.
use Rattle.std.proofs.Common.{◌≡◌, ℕ, List, [], ◌∷◌, ◌++◌, length, take, drop, codes, Bool, true, false, cond, Some, refl, sym, ap, ◌∙◌, subst}
use Rattle.std.specs.Prelude.{◌==◌, ◌&&◌, IsTrue, nat_eq}
use Rattle.std.specs.Char.{to_ascii_lowercase}
use Rattle.std.specs.List.{list_all, starts_with}
use Rattle.std.specs.Str.{bytes_eq, str_to_ascii_lowercase}
use Rattle.std.proofs.lemmas.Bool.Decides.{Decides-eqb}
use Rattle.std.proofs.lemmas.List.{append_assoc, take-append-drop}
use Rattle.std.proofs.lemmas.List.Folds.{list_all-append}
use Rattle.std.proofs.lemmas.Slice.Eq.{bytes_eq-Decides}
use Rattle.swarm_objects.specs.declared.templates.Key.{Key}
use Rattle.swarm_objects.specs.declared.templates.Key.TheVariants as key
use Rattle.swarm_objects.specs.declared.templates.Constraint.{Constraint}
use Rattle.swarm_objects.specs.Names.{is_name, is_value}
use Rattle.swarm_filters.specs.Machine.{Progress, in_key, in_label, after_key, in_value, constraint_with, label_key, key_words, word_begun}
use Rattle.swarm_filters.proofs.Suffixes.{InKey, KeyTail, Spelling, AfterKey, Suffix, at, same, never}

small_rest : (bs : List ℕ) → list_all (λ b. to_ascii_lowercase b == b) bs ≡ true → str_to_ascii_lowercase bs ≡ bs
small_rest [] e = refl
small_rest (b ∷ bs) e = go (to_ascii_lowercase b == b) refl e (small_rest bs)
  where
    go : (x : Bool) → (to_ascii_lowercase b == b) ≡ x → (x && list_all (λ n. to_ascii_lowercase n == n) bs) ≡ true → (list_all (λ n. to_ascii_lowercase n == n) bs ≡ true → str_to_ascii_lowercase bs ≡ bs) → to_ascii_lowercase b ∷ str_to_ascii_lowercase bs ≡ b ∷ bs
    go true f h rest =
        let one : to_ascii_lowercase b ≡ b = (Decides-eqb (to_ascii_lowercase b) b).0 f in
        let two : str_to_ascii_lowercase bs ≡ bs = rest h in
        cc
    go false f h rest = absurd (cc)

both_small : (x y : Bool) → (x && y) ≡ true → y ≡ true
both_small true y e = e
both_small false y e = absurd (cc)

-- the bytes of a value make one
abbrev pub IsSound : Progress → Type 0
IsSound (in_value k equal value) = IsTrue (is_value value)
IsSound _ = Unit {0}

abbrev pub Completes : Progress → Type 0
Completes r = IsSound r × ((t : List ℕ) × ((c : Constraint) × Suffix r t c))

-- the word is in small letters, and what is read with it is right
pub record IsGood (word : List ℕ) (r : Progress) : Type 0 where
  pub small : list_all (λ b. to_ascii_lowercase b == b) word ≡ true
  pub finds : (bytes : List ℕ) (b : ℕ) (t : List ℕ) (c : Constraint) → word ≡ bytes ++ to_ascii_lowercase b ∷ [] → Suffix r t c → InKey bytes (b ∷ t) c
  pub begins : (bytes rest : List ℕ) → Spelling bytes rest word → Completes (in_key bytes)
  pub fits : Completes r

pub end_of : (k : Key) → AfterKey k (codes "==a") (constraint_with k true (codes "a"))
end_of k = record {
  gap = [];
  equal = true;
  rest = codes "a";
  whole = refl;
  spaces = refl;
  behind = record { gap = []; value = codes "a"; last = []; whole = refl; spaces = refl; valued = refl; last_spaces = refl; is = refl };
}

good_key : (k : Key) (word : List ℕ) → list_all (λ b. to_ascii_lowercase b == b) word ≡ true → ((bytes raw : List ℕ) → Spelling bytes raw word → KeyTail bytes raw k) → IsGood word (after_key k)
good_key k word small tail = record {
  small = small;
  finds = λ bytes b t c is suffix. record { raw = b ∷ []; found = k; rest = t; whole = refl; is_key = tail bytes (b ∷ []) (sym is); behind = suffix };
  begins = λ bytes rest is. (tt, (rest ++ codes "==a", (constraint_with k true (codes "a"), record { raw = rest; found = k; rest = codes "==a"; whole = refl; is_key = tail bytes rest is; behind = end_of k })));
  fits = (tt, (codes "==a", (constraint_with k true (codes "a"), end_of k)));
}

good_label : (g : Bool) (word : List ℕ) → list_all (λ b. to_ascii_lowercase b == b) word ≡ true → ((bytes front name : List ℕ) → Spelling bytes front word → IsTrue (is_name name) → KeyTail bytes (front ++ name) (label_key g name)) → IsGood word (in_label g [])
good_label g word small tail = record {
  small = small;
  finds = λ bytes b t c is suffix. record { raw = b ∷ suffix.more; found = label_key g suffix.more; rest = suffix.rest; whole = ap (λ r. b ∷ r) suffix.whole; is_key = tail bytes (b ∷ []) suffix.more (sym is) suffix.named; behind = suffix.behind };
  begins = λ bytes rest is. (tt, ((rest ++ codes "a") ++ codes "==a", (constraint_with (label_key g (codes "a")) true (codes "a"), record { raw = rest ++ codes "a"; found = label_key g (codes "a"); rest = codes "==a"; whole = refl; is_key = tail bytes rest (codes "a") is refl; behind = end_of (label_key g (codes "a")) })));
  fits = (tt, (codes "a==a", (constraint_with (label_key g (codes "a")) true (codes "a"), record { more = codes "a"; rest = codes "==a"; whole = refl; named = refl; behind = end_of (label_key g (codes "a")) })));
}

abbrev pub AllGood : List (List ℕ × Progress) → Type 0
AllGood [] = Unit {0}
AllGood (word ∷ words) = IsGood word.0 word.1 × AllGood words

pub all_good : AllGood key_words
all_good = (
  good_key key.NodeId (codes "node.id") refl (λ bytes raw is. is),
  (
    good_key key.Hostname (codes "node.hostname") refl (λ bytes raw is. is),
    (
      good_key key.Role (codes "node.role") refl (λ bytes raw is. is),
      (
        good_key key.Os (codes "node.platform.os") refl (λ bytes raw is. is),
        (
          good_key key.Arch (codes "node.platform.arch") refl (λ bytes raw is. is),
          (
            good_label false (codes "node.labels.") refl (λ bytes front name is named. (front, (is, (refl, named)))),
            (good_label true (codes "engine.labels.") refl (λ bytes front name is named. (front, (is, (refl, named)))), tt),
          ),
        ),
      ),
    ),
  ),
)

-- one byte more of a key

joined : (bytes : List ℕ) (b : ℕ) (raw word : List ℕ) → Spelling (bytes ++ to_ascii_lowercase b ∷ []) raw word → Spelling bytes (b ∷ raw) word
joined bytes b raw word is = sym (append_assoc bytes (to_ascii_lowercase b ∷ []) (str_to_ascii_lowercase raw)) ∙ is

joined_tail : (bytes : List ℕ) (b : ℕ) (raw : List ℕ) (k : Key) → KeyTail (bytes ++ to_ascii_lowercase b ∷ []) raw k → KeyTail bytes (b ∷ raw) k
joined_tail bytes b raw key.NodeId is = joined bytes b raw (codes "node.id") is
joined_tail bytes b raw key.Hostname is = joined bytes b raw (codes "node.hostname") is
joined_tail bytes b raw key.Role is = joined bytes b raw (codes "node.role") is
joined_tail bytes b raw key.Os is = joined bytes b raw (codes "node.platform.os") is
joined_tail bytes b raw key.Arch is = joined bytes b raw (codes "node.platform.arch") is
joined_tail bytes b raw (key.Label name) is = (b ∷ is.0, (joined bytes b is.0 (codes "node.labels.") is.1.0, (ap (λ r. b ∷ r) is.1.1.0, is.1.1.1)))
joined_tail bytes b raw (key.Engine name) is = (b ∷ is.0, (joined bytes b is.0 (codes "engine.labels.") is.1.0, (ap (λ r. b ∷ r) is.1.1.0, is.1.1.1)))

longer_key : (bytes : List ℕ) (b : ℕ) (t : List ℕ) (c : Constraint) → InKey (bytes ++ to_ascii_lowercase b ∷ []) t c → InKey bytes (b ∷ t) c
longer_key bytes b t c rest = record { raw = b ∷ rest.raw; found = rest.found; rest = rest.rest; whole = ap (λ r. b ∷ r) rest.whole; is_key = joined_tail bytes b rest.raw rest.found rest.is_key; behind = rest.behind }

pub word_begun-suffix : (bytes : List ℕ) (b : ℕ) (words : List (List ℕ × Progress)) → AllGood words → (s : Progress) (t : List ℕ) (c : Constraint) → word_begun (bytes ++ to_ascii_lowercase b ∷ []) words ≡ Some s → Suffix s t c → InKey bytes (b ∷ t) c
word_begun-suffix bytes b [] good s t c h suffix = never s h
word_begun-suffix bytes b (w ∷ words) good s t c h suffix = whole (bytes_eq w.0 (bytes ++ to_ascii_lowercase b ∷ [])) refl h (λ e. word_begun-suffix bytes b words good.1 s t c e suffix)
  where
    begun : (x : Bool) → starts_with nat_eq w.0 (bytes ++ to_ascii_lowercase b ∷ []) ≡ x → cond x (Some (in_key (bytes ++ to_ascii_lowercase b ∷ []))) (word_begun (bytes ++ to_ascii_lowercase b ∷ []) words) ≡ Some s → (word_begun (bytes ++ to_ascii_lowercase b ∷ []) words ≡ Some s → InKey bytes (b ∷ t) c) → InKey bytes (b ∷ t) c
    begun true e g others = longer_key bytes b t c (at (in_key (bytes ++ to_ascii_lowercase b ∷ [])) s t c (same (in_key (bytes ++ to_ascii_lowercase b ∷ [])) s g) suffix)
    begun false e g others = others g

    whole : (x : Bool) → bytes_eq w.0 (bytes ++ to_ascii_lowercase b ∷ []) ≡ x → cond x (Some w.1) (cond (starts_with nat_eq w.0 (bytes ++ to_ascii_lowercase b ∷ [])) (Some (in_key (bytes ++ to_ascii_lowercase b ∷ []))) (word_begun (bytes ++ to_ascii_lowercase b ∷ []) words)) ≡ Some s → (word_begun (bytes ++ to_ascii_lowercase b ∷ []) words ≡ Some s → InKey bytes (b ∷ t) c) → InKey bytes (b ∷ t) c
    whole true e g others = good.0.finds bytes b t c ((bytes_eq-Decides w.0 (bytes ++ to_ascii_lowercase b ∷ [])).0 e) (at w.1 s t c (same w.1 s g) suffix)
    whole false e g others = begun (starts_with nat_eq w.0 (bytes ++ to_ascii_lowercase b ∷ [])) refl g others

-- a word that begins so is spelled by the bytes and the rest of it
spelled : (word bytes : List ℕ) → list_all (λ b. to_ascii_lowercase b == b) word ≡ true → starts_with nat_eq word bytes ≡ true → Spelling bytes (drop (length bytes) word) word
spelled word bytes small begins =
    let front : bytes ≡ take (length bytes) word = (bytes_eq-Decides bytes (take (length bytes) word)).0 begins in
    let parts : bytes ++ drop (length bytes) word ≡ word = ap (λ x. x ++ drop (length bytes) word) front ∙ take-append-drop (length bytes) word in
    let each : (list_all (λ b. to_ascii_lowercase b == b) bytes && list_all (λ b. to_ascii_lowercase b == b) (drop (length bytes) word)) ≡ true = sym (list_all-append (λ b. to_ascii_lowercase b == b) bytes (drop (length bytes) word)) ∙ ap (λ x. list_all (λ b. to_ascii_lowercase b == b) x) parts ∙ small in
    ap (λ x. bytes ++ x) (small_rest (drop (length bytes) word) (both_small (list_all (λ b. to_ascii_lowercase b == b) bytes) (list_all (λ b. to_ascii_lowercase b == b) (drop (length bytes) word)) each)) ∙ parts

pub completes_at : (r s : Progress) → r ≡ s → Completes r → Completes s
completes_at r s e done = subst (λ q. Completes q) e done

pub word_begun-completes : (bytes : List ℕ) (words : List (List ℕ × Progress)) → AllGood words → (s : Progress) → word_begun bytes words ≡ Some s → Completes s
word_begun-completes bytes [] good s h = never s h
word_begun-completes bytes (w ∷ words) good s h = whole (bytes_eq w.0 bytes) refl h (λ e. word_begun-completes bytes words good.1 s e)
  where
    begun : (x : Bool) → starts_with nat_eq w.0 bytes ≡ x → cond x (Some (in_key bytes)) (word_begun bytes words) ≡ Some s → (word_begun bytes words ≡ Some s → Completes s) → Completes s
    begun true e g others = completes_at (in_key bytes) s (same (in_key bytes) s g) (good.0.begins bytes (drop (length bytes) w.0) (spelled w.0 bytes good.0.small e))
    begun false e g others = others g

    whole : (x : Bool) → bytes_eq w.0 bytes ≡ x → cond x (Some w.1) (cond (starts_with nat_eq w.0 bytes) (Some (in_key bytes)) (word_begun bytes words)) ≡ Some s → (word_begun bytes words ≡ Some s → Completes s) → Completes s
    whole true e g others = completes_at w.1 s (same w.1 s g) good.0.fits
    whole false e g others = begun (starts_with nat_eq w.0 bytes) refl g others
