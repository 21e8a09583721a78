-- What the machine makes a constraint is one.
use Rattle.std.proofs.Common.{◌≡◌, ℕ, List, [], ◌∷◌, ◌++◌, codes, Bool, true, false, cond, Option, Some, None, refl, sym, ap, ◌∙◌, subst}
use Rattle.std.specs.Prelude.{◌==◌, IsTrue}
use Rattle.std.specs.Char.{to_ascii_lowercase}
use Rattle.std.proofs.lemmas.List.{append-nil}
use Rattle.swarm_objects.specs.declared.templates.Key.{Key}
use Rattle.swarm_objects.specs.declared.templates.Key.TheVariants as key
use Rattle.swarm_objects.specs.declared.templates.Constraint.{Constraint}
use Rattle.swarm_filters.specs.Grammar.{IsKey, sign_of, IsConstraint}
use Rattle.swarm_objects.specs.Names.{is_value, is_name}
use Rattle.swarm_filters.specs.Machine.{Progress, start, in_key, in_label, after_key, in_sign, after_sign, in_value, finished, label_key, constraint_with, key_words, key_begun, behind_key, byte_step, goes_on, run_bytes, whole_of}
use Rattle.swarm_filters.proofs.Suffixes.{FromStart, InKey, KeyTail, AfterKey, AfterSign, ValueTail, Suffix, at, same, never, space_more, behind_key-suffix, in_sign-suffix, after_sign-suffix, finished-suffix, in_value-suffix, in_label-suffix}
use Rattle.swarm_filters.proofs.KeyWords.{IsSound, Completes, completes_at, end_of, all_good, word_begun-suffix, word_begun-completes}

start-suffix : (b : ℕ) (s : Progress) (t : List ℕ) (c : Constraint) → byte_step start b ≡ Some s → Suffix s t c → FromStart (b ∷ t) c
start-suffix b s t c = go (b == 32) refl
  where
    go : (x : Bool) → (b == 32) ≡ x → cond x (Some start) (key_begun (to_ascii_lowercase b ∷ [])) ≡ Some s → Suffix s t c → FromStart (b ∷ t) c
    go true e h suffix =
        let rest : FromStart t c = at start s t c (same start s h) suffix in
        record { gap = b ∷ rest.gap; rest = rest.rest; whole = ap (λ r. b ∷ r) rest.whole; spaces = space_more b rest.gap e rest.spaces; behind = rest.behind }
    go false e h suffix = record { gap = []; rest = b ∷ t; whole = refl; spaces = refl; behind = word_begun-suffix [] b key_words all_good s t c h suffix }

byte_step-suffix : (r : Progress) (b : ℕ) (s : Progress) (t : List ℕ) (c : Constraint) → IsSound r → byte_step r b ≡ Some s → Suffix s t c → Suffix r (b ∷ t) c
byte_step-suffix start b s t c sound h suffix = start-suffix b s t c h suffix
byte_step-suffix (in_key bytes) b s t c sound h suffix = word_begun-suffix bytes b key_words all_good s t c h suffix
byte_step-suffix (in_label g n) b s t c sound h suffix = in_label-suffix g n b s t c h suffix
byte_step-suffix (after_key k) b s t c sound h suffix = behind_key-suffix k b s t c h suffix
byte_step-suffix (in_sign k e) b s t c sound h suffix = in_sign-suffix k e b s t c h suffix
byte_step-suffix (after_sign k e) b s t c sound h suffix = after_sign-suffix k e b s t c h suffix
byte_step-suffix (in_value k e v) b s t c sound h suffix = in_value-suffix k e v b s t c sound h suffix
byte_step-suffix (finished known) b s t c sound h suffix = finished-suffix known b s t c h suffix

-- each reading can be made whole

pub start_completes : Completes start
start_completes = (
  tt,
  (
    codes "node.id==a",
    (
      constraint_with key.NodeId true (codes "a"),
      record {
        gap = [];
        rest = codes "node.id==a";
        whole = refl;
        spaces = refl;
        behind = record { raw = codes "node.id"; found = key.NodeId; rest = codes "==a"; whole = refl; is_key = refl; behind = end_of key.NodeId };
      },
    ),
  ),
)

after_key_completes : (k : Key) → Completes (after_key k)
after_key_completes k = (tt, (codes "==a", (constraint_with k true (codes "a"), end_of k)))

behind_sign : (k : Key) (e : Bool) → AfterSign k e (codes "a") (constraint_with k e (codes "a"))
behind_sign k e = record { gap = []; value = codes "a"; last = []; whole = refl; spaces = refl; valued = refl; last_spaces = refl; is = refl }

in_sign_completes : (k : Key) (e : Bool) → Completes (in_sign k e)
in_sign_completes k e = (tt, (codes "=a", (constraint_with k e (codes "a"), record { rest = codes "a"; whole = refl; behind = behind_sign k e })))

after_sign_completes : (k : Key) (e : Bool) → Completes (after_sign k e)
after_sign_completes k e = (tt, (codes "a", (constraint_with k e (codes "a"), behind_sign k e)))

value_whole : (k : Key) (e : Bool) (v : List ℕ) → IsTrue (is_value v) → ValueTail k e v [] (constraint_with k e v)
value_whole k e v valued = record { more = []; gap = []; whole = refl; valued = subst (λ w. IsTrue (is_value w)) (sym (append-nil v)) valued; spaces = refl; is = ap (λ w. constraint_with k e w) (sym (append-nil v)) }

in_value_completes : (k : Key) (e : Bool) (v : List ℕ) → IsTrue (is_value v) → Completes (in_value k e v)
in_value_completes k e v valued = (valued, ([], (constraint_with k e v, value_whole k e v valued)))

in_label_completes : (g : Bool) (n : List ℕ) → IsTrue (is_name n) → Completes (in_label g n)
in_label_completes g n named = (tt, (codes "==a", (constraint_with (label_key g (n ++ [])) true (codes "a"), record { more = []; rest = codes "==a"; whole = refl; named = subst (λ w. IsTrue (is_name w)) (sym (append-nil n)) named; behind = end_of (label_key g (n ++ [])) })))

finished_completes : (c : Constraint) → Completes (finished c)
finished_completes c = (tt, ([], (c, record { is = refl; spaces = refl })))

when : (x : Bool) (r : Progress) (o : Option Progress) (s : Progress) → (x ≡ true → Completes r) → (o ≡ Some s → Completes s) → cond x (Some r) o ≡ Some s → Completes s
when true r o s this that h = completes_at r s (same r s h) (this refl)
when false r o s this that h = that h

nothing : (s : Progress) → None ≡ Some s → Completes s
nothing s h = never s h

behind_key-completes : (k : Key) (b : ℕ) (s : Progress) → behind_key k b ≡ Some s → Completes s
behind_key-completes k b s h =
    when (b == 32) (after_key k) (cond (b == 61) (Some (in_sign k true)) (cond (b == 33) (Some (in_sign k false)) None)) s (λ _. after_key_completes k)
    (λ i. when (b == 61) (in_sign k true) (cond (b == 33) (Some (in_sign k false)) None) s (λ _. in_sign_completes k true)
    (λ j. when (b == 33) (in_sign k false) None s (λ _. in_sign_completes k false) (nothing s) j) i) h

label_ends : (x : Bool) (k : Key) (b : ℕ) (s : Progress) → cond x (behind_key k b) None ≡ Some s → Completes s
label_ends true k b s h = behind_key-completes k b s h
label_ends false k b s h = never s h

byte_step-completes : (r : Progress) (b : ℕ) (s : Progress) → byte_step r b ≡ Some s → Completes s
byte_step-completes start b s h = when (b == 32) start (key_begun (to_ascii_lowercase b ∷ [])) s (λ _. start_completes) (λ i. word_begun-completes (to_ascii_lowercase b ∷ []) key_words all_good s i) h
byte_step-completes (in_key bytes) b s h = word_begun-completes (bytes ++ to_ascii_lowercase b ∷ []) key_words all_good s h
byte_step-completes (in_label g n) b s h =
    when (is_name (n ++ b ∷ [])) (in_label g (n ++ b ∷ [])) (cond (is_name n) (behind_key (label_key g n) b) None) s (λ e. in_label_completes g (n ++ b ∷ []) e) (λ i. label_ends (is_name n) (label_key g n) b s i) h
byte_step-completes (after_key k) b s h = behind_key-completes k b s h
byte_step-completes (in_sign k e) b s h = when (b == 61) (after_sign k e) None s (λ _. after_sign_completes k e) (nothing s) h
byte_step-completes (after_sign k e) b s h =
    when (b == 32) (after_sign k e) (cond (is_value (b ∷ [])) (Some (in_value k e (b ∷ []))) None) s (λ _. after_sign_completes k e)
    (λ i. when (is_value (b ∷ [])) (in_value k e (b ∷ [])) None s (λ v. in_value_completes k e (b ∷ []) v) (nothing s) i) h
byte_step-completes (in_value k e v) b s h =
    when (b == 32) (finished (constraint_with k e v)) (cond (is_value (v ++ b ∷ [])) (Some (in_value k e (v ++ b ∷ []))) None) s (λ _. finished_completes (constraint_with k e v))
    (λ i. when (is_value (v ++ b ∷ [])) (in_value k e (v ++ b ∷ [])) None s (λ w. in_value_completes k e (v ++ b ∷ []) w) (nothing s) i) h
byte_step-completes (finished c) b s h = when (b == 32) (finished c) None s (λ _. finished_completes c) (nothing s) h

-- many bytes

run_bytes-suffix : (bs : List ℕ) (r s : Progress) (t : List ℕ) (c : Constraint) → IsSound r → run_bytes r bs ≡ Some s → Suffix s t c → Suffix r (bs ++ t) c
run_bytes-suffix [] r s t c sound h suffix = at r s t c (same r s h) suffix
run_bytes-suffix (b ∷ bs) r s t c sound h suffix = go (byte_step r b) refl h (λ q i j. run_bytes-suffix bs q s t c i j suffix)
  where
    go : (o : Option Progress) → byte_step r b ≡ o → goes_on o (λ q. run_bytes q bs) ≡ Some s → ((q : Progress) → IsSound q → run_bytes q bs ≡ Some s → Suffix q (bs ++ t) c) → Suffix r (b ∷ (bs ++ t)) c
    go None e i rest = never s i
    go (Some q) e i rest = byte_step-suffix r b q (bs ++ t) c sound e (rest q (byte_step-completes r b q e).0 i)

pub run_bytes-completes : (bs : List ℕ) (r s : Progress) → Completes r → run_bytes r bs ≡ Some s → Completes s
run_bytes-completes [] r s done h = completes_at r s (same r s h) done
run_bytes-completes (b ∷ bs) r s done h = go (byte_step r b) refl h (λ q i j. run_bytes-completes bs q s i j)
  where
    go : (o : Option Progress) → byte_step r b ≡ o → goes_on o (λ q. run_bytes q bs) ≡ Some s → ((q : Progress) → Completes q → run_bytes q bs ≡ Some s → Completes s) → Completes s
    go None e i rest = never s i
    go (Some q) e i rest = rest q (byte_step-completes r b q e) i

whole_of-suffix : (r : Progress) (c : Constraint) → IsSound r → whole_of r ≡ Some c → Suffix r [] c
whole_of-suffix (in_value k e v) c sound h =
    let is : constraint_with k e v ≡ c = cc in
    subst (λ d. ValueTail k e v [] d) is (value_whole k e v sound)
whole_of-suffix (finished known) c sound h = record { is = cc; spaces = refl }
whole_of-suffix _ c sound h = absurd (cc)

-- the parts of a constraint

key_alone : (raw : List ℕ) (k : Key) → KeyTail [] raw k → IsKey raw k
key_alone raw key.NodeId is = is
key_alone raw key.Hostname is = is
key_alone raw key.Role is = is
key_alone raw key.Os is = is
key_alone raw key.Arch is = is
key_alone raw (key.Label name) is = is
key_alone raw (key.Engine name) is = is

from_start : (t : List ℕ) (c : Constraint) → FromStart t c → IsConstraint t c
from_start t c a =
    let b : InKey [] a.rest c = a.behind in
    let d : AfterKey b.found b.rest c = b.behind in
    let e : AfterSign b.found d.equal d.rest c = d.behind in
    subst (λ x. IsConstraint t x) (sym e.is) (record {
      first = a.gap;
      key_text = b.raw;
      second = d.gap;
      third = e.gap;
      fourth = e.last;
      whole = a.whole ∙ ap (λ x. a.gap ++ x) (b.whole ∙ ap (λ x. b.raw ++ x) (d.whole ∙ ap (λ x. d.gap ++ (sign_of d.equal ++ x)) e.whole));
      first_spaces = a.spaces;
      is_key = key_alone b.raw b.found b.is_key;
      second_spaces = d.spaces;
      third_spaces = e.spaces;
      valued = e.valued;
      fourth_spaces = e.last_spaces;
    })

-- what is read whole is a constraint
pub IsConstraint-read : (t : List ℕ) (s : Progress) (c : Constraint) → run_bytes start t ≡ Some s → whole_of s ≡ Some c → IsConstraint t c
IsConstraint-read t s c h w =
    let suffix : Suffix start (t ++ []) c = run_bytes-suffix t start s [] c tt h (whole_of-suffix s c (run_bytes-completes t start s start_completes h).0 w) in
    from_start t c (subst (λ x. FromStart x c) (append-nil t) suffix)

-- what is read can be made whole
pub Continues-read : (t : List ℕ) (s : Progress) → run_bytes start t ≡ Some s → (more : List ℕ) × ((c : Constraint) × IsConstraint (t ++ more) c)
Continues-read t s h =
    let done : Completes s = run_bytes-completes t start s start_completes h in
    (done.1.0, (done.1.1.0, from_start (t ++ done.1.0) done.1.1.0 (run_bytes-suffix t start s done.1.0 done.1.1.0 tt h done.1.1.1)))
