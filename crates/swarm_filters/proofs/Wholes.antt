-- The machine reads each constraint.
use Rattle.std.proofs.Common.{◌≡◌, ℕ, ◌+◌, ◌<◌, ◌≤◌, List, [], ◌∷◌, ◌++◌, length, codes, Bool, true, false, cond, Option, Some, None, refl, sym, ap, ◌∙◌, subst, arith}
use Rattle.std.specs.Prelude.{◌==◌, ◌&&◌, nat_lt, nat_le}
use Rattle.std.specs.Char.{to_ascii_lowercase}
use Rattle.std.specs.List.{list_all}
use Rattle.std.specs.Str.{str_to_ascii_lowercase}
use Rattle.std.proofs.lemmas.Bool.Decides.{nat_tests}
use Rattle.std.proofs.lemmas.List.{append-nil, append_assoc, length-append}
use Rattle.std.proofs.lemmas.List.Folds.{list_all-append}
use Rattle.swarm_objects.specs.declared.templates.Key.{Key}
use Rattle.swarm_objects.specs.declared.templates.Key.TheVariants as key
use Rattle.swarm_objects.specs.declared.templates.Constraint.{Constraint}
use Rattle.swarm_filters.specs.Grammar.{is_space, AreSpaces, Spells, IsKey, sign_of, IsConstraint}
use Rattle.swarm_objects.specs.Limits.{longest_name}
use Rattle.swarm_objects.specs.Names.{is_name_byte, is_value, is_name, begins_name}
use Rattle.swarm_filters.specs.Machine.{Progress, start, in_key, in_label, after_key, in_sign, after_sign, in_value, finished, label_key, constraint_with, key_begun, behind_key, byte_step, goes_on, run_bytes, whole_of}
use Rattle.swarm_filters.proofs.Suffixes.{same, never, is_byte}

-- truth values

pub first_true : (x y : Bool) → (x && y) ≡ true → x ≡ true
first_true true y e = refl
first_true false y e = absurd (cc)

pub second_true : (x y : Bool) → (x && y) ≡ true → y ≡ true
second_true true y e = e
second_true false y e = absurd (cc)

and_false : (x y : Bool) → y ≡ false → (x && y) ≡ false
and_false true y e = e
and_false false y e = refl

-- one byte

go_on : (r s : Progress) (b : ℕ) (bs : List ℕ) → byte_step r b ≡ Some s → run_bytes r (b ∷ bs) ≡ run_bytes s bs
go_on r s b bs e = ap (λ o. goes_on o (λ q. run_bytes q bs)) e

pub run_bytes-append : (xs : List ℕ) (r : Progress) (ys : List ℕ) → run_bytes r (xs ++ ys) ≡ goes_on (run_bytes r xs) (λ s. run_bytes s ys)
run_bytes-append [] r ys = refl
run_bytes-append (x ∷ xs) r ys = go (byte_step r x) (λ q. run_bytes-append xs q ys)
  where
    go : (o : Option Progress) → ((q : Progress) → run_bytes q (xs ++ ys) ≡ goes_on (run_bytes q xs) (λ s. run_bytes s ys)) → goes_on o (λ q. run_bytes q (xs ++ ys)) ≡ goes_on (goes_on o (λ q. run_bytes q xs)) (λ s. run_bytes s ys)
    go None rest = refl
    go (Some q) rest = rest q

-- spaces

stays : (r : Progress) → ((b : ℕ) → (b == 32) ≡ true → byte_step r b ≡ Some r) → (gap rest : List ℕ) → AreSpaces gap → run_bytes r (gap ++ rest) ≡ run_bytes r rest
stays r keeps [] rest spaces = refl
stays r keeps (b ∷ gap) rest spaces =
    go_on r r b (gap ++ rest) (keeps b (first_true (b == 32) (list_all is_space gap) spaces)) ∙ stays r keeps gap rest (second_true (b == 32) (list_all is_space gap) spaces)

start_keeps : (b : ℕ) → (b == 32) ≡ true → byte_step start b ≡ Some start
start_keeps b e = ap (λ x. cond x (Some start) (key_begun (to_ascii_lowercase b ∷ []))) e

after_key_keeps : (k : Key) (b : ℕ) → (b == 32) ≡ true → byte_step (after_key k) b ≡ Some (after_key k)
after_key_keeps k b e = ap (λ x. cond x (Some (after_key k)) (cond (b == 61) (Some (in_sign k true)) (cond (b == 33) (Some (in_sign k false)) None))) e

after_sign_keeps : (k : Key) (s : Bool) (b : ℕ) → (b == 32) ≡ true → byte_step (after_sign k s) b ≡ Some (after_sign k s)
after_sign_keeps k s b e = ap (λ x. cond x (Some (after_sign k s)) (cond (is_value (b ∷ [])) (Some (in_value k s (b ∷ []))) None)) e

finished_keeps : (c : Constraint) (b : ℕ) → (b == 32) ≡ true → byte_step (finished c) b ≡ Some (finished c)
finished_keeps c b e = ap (λ x. cond x (Some (finished c)) None) e

-- names and values

fewer : (m n : ℕ) → m ≤ n → nat_le n longest_name ≡ true → nat_le m longest_name ≡ true
fewer m n le e = grind (arith, nat_tests)

some : (n : ℕ) → 0 < n → nat_lt 0 n ≡ true
some n lt = grind (arith, nat_tests)

value_begun : (v : List ℕ) (b : ℕ) (more : List ℕ) → is_value (v ++ b ∷ more) ≡ true → is_value (v ++ b ∷ []) ≡ true
value_begun v b more e =
    let long : length (v ++ b ∷ more) ≡ length v + length (b ∷ more) = length-append v (b ∷ more) in
    let short : length (v ++ b ∷ []) ≡ length v + length (b ∷ []) = length-append v (b ∷ []) in
    let sizes : (nat_lt 0 (length (v ++ b ∷ more)) && nat_le (length (v ++ b ∷ more)) longest_name) ≡ true = first_true (nat_lt 0 (length (v ++ b ∷ more)) && nat_le (length (v ++ b ∷ more)) longest_name) (list_all is_name_byte (v ++ b ∷ more)) e in
    let within : nat_le (length (v ++ b ∷ [])) longest_name ≡ true = fewer (length (v ++ b ∷ [])) (length (v ++ b ∷ more)) (omega arith) (second_true (nat_lt 0 (length (v ++ b ∷ more))) (nat_le (length (v ++ b ∷ more)) longest_name) sizes) in
    let above : nat_lt 0 (length (v ++ b ∷ [])) ≡ true = some (length (v ++ b ∷ [])) (omega arith) in
    let each : (list_all is_name_byte v && list_all is_name_byte (b ∷ more)) ≡ true = sym (list_all-append is_name_byte v (b ∷ more)) ∙ second_true (nat_lt 0 (length (v ++ b ∷ more)) && nat_le (length (v ++ b ∷ more)) longest_name) (list_all is_name_byte (v ++ b ∷ more)) e in
    let front : list_all is_name_byte v ≡ true = first_true (list_all is_name_byte v) (list_all is_name_byte (b ∷ more)) each in
    let one : is_name_byte b ≡ true = first_true (is_name_byte b) (list_all is_name_byte more) (second_true (list_all is_name_byte v) (list_all is_name_byte (b ∷ more)) each) in
    let all : list_all is_name_byte (v ++ b ∷ []) ≡ true = list_all-append is_name_byte v (b ∷ []) ∙ ap (λ x. x && (is_name_byte b && true)) front ∙ ap (λ x. x && true) one in
    ap (λ x. x && nat_le (length (v ++ b ∷ [])) longest_name && list_all is_name_byte (v ++ b ∷ [])) above ∙ ap (λ x. x && list_all is_name_byte (v ++ b ∷ [])) within ∙ all

begins_alike : (n : List ℕ) (b : ℕ) (more : List ℕ) → begins_name (n ++ b ∷ []) ≡ begins_name (n ++ b ∷ more)
begins_alike [] b more = refl
begins_alike (a ∷ n) b more = refl

name_begun : (n : List ℕ) (b : ℕ) (more : List ℕ) → is_name (n ++ b ∷ more) ≡ true → is_name (n ++ b ∷ []) ≡ true
name_begun n b more e =
    ap (λ x. x && is_value (n ++ b ∷ [])) (begins_alike n b more ∙ first_true (begins_name (n ++ b ∷ more)) (is_value (n ++ b ∷ more)) e) ∙ value_begun n b more (second_true (begins_name (n ++ b ∷ more)) (is_value (n ++ b ∷ more)) e)

-- a byte that is none of names ends one
name_ended : (n : List ℕ) (b : ℕ) → is_name_byte b ≡ false → is_name (n ++ b ∷ []) ≡ false
name_ended n b e =
    let all : list_all is_name_byte (n ++ b ∷ []) ≡ false = list_all-append is_name_byte n (b ∷ []) ∙ and_false (list_all is_name_byte n) (is_name_byte b && true) (ap (λ x. x && true) e) in
    and_false (begins_name (n ++ b ∷ [])) (is_value (n ++ b ∷ [])) (and_false (nat_lt 0 (length (n ++ b ∷ [])) && nat_le (length (n ++ b ∷ [])) longest_name) (list_all is_name_byte (n ++ b ∷ [])) all)

-- no byte of names is a space
no_space : (b : ℕ) → is_name_byte b ≡ true → (b == 32) ≡ false
no_space b e = go (b == 32) refl
  where
    go : (x : Bool) → (b == 32) ≡ x → x ≡ false
    go false f = refl
    go true f = let is : is_name_byte 32 ≡ true = subst (λ n. is_name_byte n ≡ true) (is_byte b 32 f) e in absurd (cc)

value_byte : (v : List ℕ) (b : ℕ) → is_value (v ++ b ∷ []) ≡ true → is_name_byte b ≡ true
value_byte v b e =
    let each : (list_all is_name_byte v && (is_name_byte b && true)) ≡ true = sym (list_all-append is_name_byte v (b ∷ [])) ∙ second_true (nat_lt 0 (length (v ++ b ∷ [])) && nat_le (length (v ++ b ∷ [])) longest_name) (list_all is_name_byte (v ++ b ∷ [])) e in
    first_true (is_name_byte b) true (second_true (list_all is_name_byte v) (is_name_byte b && true) each)

-- labels

label_step : (g : Bool) (n : List ℕ) (b : ℕ) → is_name (n ++ b ∷ []) ≡ true → byte_step (in_label g n) b ≡ Some (in_label g (n ++ b ∷ []))
label_step g n b e = ap (λ x. cond x (Some (in_label g (n ++ b ∷ []))) (cond (is_name n) (behind_key (label_key g n) b) None)) e

label_reads : (more : List ℕ) (g : Bool) (n rest : List ℕ) → is_name (n ++ more) ≡ true → run_bytes (in_label g n) (more ++ rest) ≡ run_bytes (in_label g (n ++ more)) rest
label_reads [] g n rest e = ap (λ x. run_bytes (in_label g x) rest) (sym (append-nil n))
label_reads (b ∷ more) g n rest e =
    go_on (in_label g n) (in_label g (n ++ b ∷ [])) b (more ++ rest) (label_step g n b (name_begun n b more e))
    ∙ label_reads more g (n ++ b ∷ []) rest (ap is_name (append_assoc n (b ∷ []) more) ∙ e)
    ∙ ap (λ x. run_bytes (in_label g x) rest) (append_assoc n (b ∷ []) more)

label_ended : (g : Bool) (n : List ℕ) (b : ℕ) (bs : List ℕ) → is_name n ≡ true → is_name_byte b ≡ false → run_bytes (in_label g n) (b ∷ bs) ≡ run_bytes (after_key (label_key g n)) (b ∷ bs)
label_ended g n b bs named other =
    ap (λ o. goes_on o (λ q. run_bytes q bs)) (ap (λ x. cond x (Some (in_label g (n ++ b ∷ []))) (cond (is_name n) (behind_key (label_key g n) b) None)) (name_ended n b other) ∙ ap (λ x. cond x (behind_key (label_key g n) b) None) named)

label_behind : (g : Bool) (n gap : List ℕ) (e : Bool) (rest : List ℕ) → is_name n ≡ true → AreSpaces gap → run_bytes (in_label g n) (gap ++ (sign_of e ++ rest)) ≡ run_bytes (after_key (label_key g n)) (gap ++ (sign_of e ++ rest))
label_behind g n [] true rest named spaces = label_ended g n 61 (61 ∷ rest) named refl
label_behind g n [] false rest named spaces = label_ended g n 33 (61 ∷ rest) named refl
label_behind g n (b ∷ gap) e rest named spaces =
    label_ended g n b (gap ++ (sign_of e ++ rest)) named (ap is_name_byte (is_byte b 32 (first_true (b == 32) (list_all is_space gap) spaces)))

-- the words of keys

abbrev after : Progress → (List ℕ → Option Progress) → List ℕ → Option Progress
after (in_key bytes) next bs = next bytes
after r next [] = Some r
after r next (b ∷ bs) = None

abbrev key_run : List ℕ → List ℕ → Option Progress
key_run bytes [] = None
key_run bytes (b ∷ bs) = goes_on (key_begun (bytes ++ b ∷ [])) (λ q. after q (λ k. key_run k bs) bs)

key_run-run_bytes : (raw bytes : List ℕ) (r : Progress) (rest : List ℕ) → key_run bytes (str_to_ascii_lowercase raw) ≡ Some r → run_bytes (in_key bytes) (raw ++ rest) ≡ run_bytes r rest
key_run-run_bytes [] bytes r rest h = never r h
key_run-run_bytes (b ∷ raw) bytes r rest h = go (key_begun (bytes ++ to_ascii_lowercase b ∷ [])) h (λ k i. key_run-run_bytes raw k r rest i)
  where
    end : (q : Progress) (tail : List ℕ) → after q (λ k. key_run k (str_to_ascii_lowercase tail)) (str_to_ascii_lowercase tail) ≡ Some r → ((k : List ℕ) → key_run k (str_to_ascii_lowercase tail) ≡ Some r → run_bytes (in_key k) (tail ++ rest) ≡ run_bytes r rest) → run_bytes q (tail ++ rest) ≡ run_bytes r rest
    end (in_key k) tail i more = more k i
    end q [] i more = ap (λ z. run_bytes z rest) (same q r i)
    end q (a ∷ tail) i more = never r i

    go : (o : Option Progress) → goes_on o (λ q. after q (λ k. key_run k (str_to_ascii_lowercase raw)) (str_to_ascii_lowercase raw)) ≡ Some r → ((k : List ℕ) → key_run k (str_to_ascii_lowercase raw) ≡ Some r → run_bytes (in_key k) (raw ++ rest) ≡ run_bytes r rest) → goes_on o (λ q. run_bytes q (raw ++ rest)) ≡ run_bytes r rest
    go None i more = never r i
    go (Some q) i more = end q raw i more

-- a key's word stands behind spaces
key_starts : (raw : List ℕ) (r : Progress) (rest : List ℕ) → key_run [] (str_to_ascii_lowercase raw) ≡ Some r → run_bytes start (raw ++ rest) ≡ run_bytes r rest
key_starts [] r rest h = never r h
key_starts (b ∷ raw) r rest h = go (b == 32) refl
  where
    go : (x : Bool) → (b == 32) ≡ x → run_bytes start (b ∷ (raw ++ rest)) ≡ run_bytes r rest
    go false e = ap (λ x. goes_on (cond x (Some start) (key_begun (to_ascii_lowercase b ∷ []))) (λ q. run_bytes q (raw ++ rest))) e ∙ key_run-run_bytes (b ∷ raw) [] r rest h
    go true e = let none : None ≡ Some r = subst (λ n. key_run [] (to_ascii_lowercase n ∷ str_to_ascii_lowercase raw) ≡ Some r) (is_byte b 32 e) h in never r none

spelled_key : (raw word : List ℕ) (r : Progress) (rest : List ℕ) → Spells raw word → key_run [] word ≡ Some r → run_bytes start (raw ++ rest) ≡ run_bytes r rest
spelled_key raw word r rest is h = key_starts raw r rest (ap (λ w. key_run [] w) is ∙ h)

label_key_reads : (g : Bool) (text front word name gap : List ℕ) (e : Bool) (rest : List ℕ) → Spells front word → key_run [] word ≡ Some (in_label g []) → text ≡ front ++ name → is_name name ≡ true → AreSpaces gap → run_bytes start (text ++ (gap ++ (sign_of e ++ rest))) ≡ run_bytes (after_key (label_key g name)) (gap ++ (sign_of e ++ rest))
label_key_reads g text front word name gap e rest is h whole named spaces =
    ap (λ x. run_bytes start (x ++ (gap ++ (sign_of e ++ rest)))) whole
    ∙ ap (λ x. run_bytes start x) (append_assoc front name (gap ++ (sign_of e ++ rest)))
    ∙ spelled_key front word (in_label g []) (name ++ (gap ++ (sign_of e ++ rest))) is h
    ∙ label_reads name g [] (gap ++ (sign_of e ++ rest)) named
    ∙ label_behind g name gap e rest named spaces

key_reads : (k : Key) (text gap : List ℕ) (e : Bool) (rest : List ℕ) → IsKey text k → AreSpaces gap → run_bytes start (text ++ (gap ++ (sign_of e ++ rest))) ≡ run_bytes (after_key k) (gap ++ (sign_of e ++ rest))
key_reads key.NodeId text gap e rest is spaces = spelled_key text (codes "node.id") (after_key key.NodeId) (gap ++ (sign_of e ++ rest)) is refl
key_reads key.Hostname text gap e rest is spaces = spelled_key text (codes "node.hostname") (after_key key.Hostname) (gap ++ (sign_of e ++ rest)) is refl
key_reads key.Role text gap e rest is spaces = spelled_key text (codes "node.role") (after_key key.Role) (gap ++ (sign_of e ++ rest)) is refl
key_reads key.Os text gap e rest is spaces = spelled_key text (codes "node.platform.os") (after_key key.Os) (gap ++ (sign_of e ++ rest)) is refl
key_reads key.Arch text gap e rest is spaces = spelled_key text (codes "node.platform.arch") (after_key key.Arch) (gap ++ (sign_of e ++ rest)) is refl
key_reads (key.Label name) text gap e rest is spaces = label_key_reads false text is.0 (codes "node.labels.") name gap e rest is.1.0 refl is.1.1.0 is.1.1.1 spaces
key_reads (key.Engine name) text gap e rest is spaces = label_key_reads true text is.0 (codes "engine.labels.") name gap e rest is.1.0 refl is.1.1.0 is.1.1.1 spaces

-- signs and values

sign_reads : (k : Key) (e : Bool) (rest : List ℕ) → run_bytes (after_key k) (sign_of e ++ rest) ≡ run_bytes (after_sign k e) rest
sign_reads k true rest = refl
sign_reads k false rest = refl

value_step : (k : Key) (e : Bool) (v : List ℕ) (b : ℕ) → is_value (v ++ b ∷ []) ≡ true → byte_step (in_value k e v) b ≡ Some (in_value k e (v ++ b ∷ []))
value_step k e v b valued =
    ap (λ x. cond x (Some (finished (constraint_with k e v))) (cond (is_value (v ++ b ∷ [])) (Some (in_value k e (v ++ b ∷ []))) None)) (no_space b (value_byte v b valued))
    ∙ ap (λ x. cond x (Some (in_value k e (v ++ b ∷ []))) None) valued

value_reads : (more : List ℕ) (k : Key) (e : Bool) (v rest : List ℕ) → is_value (v ++ more) ≡ true → run_bytes (in_value k e v) (more ++ rest) ≡ run_bytes (in_value k e (v ++ more)) rest
value_reads [] k e v rest valued = ap (λ x. run_bytes (in_value k e x) rest) (sym (append-nil v))
value_reads (b ∷ more) k e v rest valued =
    go_on (in_value k e v) (in_value k e (v ++ b ∷ [])) b (more ++ rest) (value_step k e v b (value_begun v b more valued))
    ∙ value_reads more k e (v ++ b ∷ []) rest (ap is_value (append_assoc v (b ∷ []) more) ∙ valued)
    ∙ ap (λ x. run_bytes (in_value k e x) rest) (append_assoc v (b ∷ []) more)

first_value : (k : Key) (e : Bool) (b : ℕ) → is_value (b ∷ []) ≡ true → byte_step (after_sign k e) b ≡ Some (in_value k e (b ∷ []))
first_value k e b valued =
    ap (λ x. cond x (Some (after_sign k e)) (cond (is_value (b ∷ [])) (Some (in_value k e (b ∷ []))) None)) (no_space b (value_byte [] b valued))
    ∙ ap (λ x. cond x (Some (in_value k e (b ∷ []))) None) valued

whole_value : (k : Key) (e : Bool) (value rest : List ℕ) → is_value value ≡ true → run_bytes (after_sign k e) (value ++ rest) ≡ run_bytes (in_value k e value) rest
whole_value k e [] rest valued = absurd (cc)
whole_value k e (b ∷ more) rest valued =
    go_on (after_sign k e) (in_value k e (b ∷ [])) b (more ++ rest) (first_value k e b (value_begun [] b more valued)) ∙ value_reads more k e (b ∷ []) rest valued

-- what has been read makes this constraint
abbrev Makes : Option Progress → Constraint → Type 0
Makes o c = (s : Progress) × ((o ≡ Some s) × (whole_of s ≡ Some c))

ends : (k : Key) (e : Bool) (value last : List ℕ) → AreSpaces last → Makes (run_bytes (in_value k e value) last) (constraint_with k e value)
ends k e value [] spaces = (in_value k e value, (refl, refl))
ends k e value (b ∷ last) spaces =
    let space : (b == 32) ≡ true = first_true (b == 32) (list_all is_space last) spaces in
    let next : byte_step (in_value k e value) b ≡ Some (finished (constraint_with k e value)) = ap (λ x. cond x (Some (finished (constraint_with k e value))) (cond (is_value (value ++ b ∷ [])) (Some (in_value k e (value ++ b ∷ []))) None)) space in
    let stay : run_bytes (finished (constraint_with k e value)) (last ++ []) ≡ Some (finished (constraint_with k e value)) = stays (finished (constraint_with k e value)) (finished_keeps (constraint_with k e value)) last [] (second_true (b == 32) (list_all is_space last) spaces) in
    (finished (constraint_with k e value), (go_on (in_value k e value) (finished (constraint_with k e value)) b last next ∙ ap (λ x. run_bytes (finished (constraint_with k e value)) x) (sym (append-nil last)) ∙ stay, refl))

-- the machine makes a constraint of its text
pub run_bytes-IsConstraint : (text : List ℕ) (c : Constraint) → IsConstraint text c → (s : Progress) × ((run_bytes start text ≡ Some s) × (whole_of s ≡ Some c))
run_bytes-IsConstraint text c is =
    let read : run_bytes start text ≡ run_bytes (in_value c.key c.equal c.value) is.fourth =
    ap (λ x. run_bytes start x) is.whole
    ∙ stays start start_keeps is.first (is.key_text ++ (is.second ++ (sign_of c.equal ++ (is.third ++ (c.value ++ is.fourth))))) is.first_spaces
    ∙ key_reads c.key is.key_text is.second c.equal (is.third ++ (c.value ++ is.fourth)) is.is_key is.second_spaces
    ∙ stays (after_key c.key) (after_key_keeps c.key) is.second (sign_of c.equal ++ (is.third ++ (c.value ++ is.fourth))) is.second_spaces
    ∙ sign_reads c.key c.equal (is.third ++ (c.value ++ is.fourth))
    ∙ stays (after_sign c.key c.equal) (after_sign_keeps c.key c.equal) is.third (c.value ++ is.fourth) is.third_spaces
    ∙ whole_value c.key c.equal c.value is.fourth is.valued in
    let made : Makes (run_bytes (in_value c.key c.equal c.value) is.fourth) (constraint_with c.key c.equal c.value) = ends c.key c.equal c.value is.fourth is.fourth_spaces in
    (made.0, (read ∙ made.1.0, made.1.1))
