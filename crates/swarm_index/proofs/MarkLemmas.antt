-- Marks that come and go.
use Rattle.std.proofs.Common.{◌≡◌, ℕ, ◌+◌, ◌<◌, ◌≤◌, Bool, true, false, cond, eqb, ltb, ◌&&◌, ◌||◌, List, [], ◌∷◌, Option, Some, None, refl, sym, ap, ◌∙◌, subst, arith}
use Rattle.std.proofs.lemmas.Bool.Decides.{nat_tests}
use Rattle.std.proofs.lemmas.Slice.Eq.{bytes_eq-Decides}
use Rattle.std.specs.HashMap.{HashMap, WritesThrough, get}
use Rattle.std.specs.Option.{option_eq, option_map}
use Rattle.std.specs.Prelude.{Err, Ok, OnErr, OnOk, Result, filter, is_some, not}
use Rattle.swarm_index.specs.Inside.Ids.{has_id}
use Rattle.swarm_index.specs.Inside.Marks.{AddsMarks, AreMarksOf, DropsMarks, ExchangesMarks, HasNone, IsNextMark, KeepsMarks, digest, digest_at, fresh, fresh_digests, has_id_in, has_mark, is_mark, is_mark_at, is_marked, same_mark, same_pair}
use Rattle.swarm_index.specs.Keys.{KeyValue, Num, Pair, Text, has_key, same_key}
use Rattle.swarm_index.proofs.Nexts.{IsNext, next_holds, next_is}
use Rattle.swarm_index.proofs.RowsAt.{at_drop, at_member, at_put, at_with}
use Rattle.swarm_objects.proofs.RowLemmas.{Has-from_row_at}
use Rattle.swarm_objects.specs.Rows.{Has, IsRising, drop_row, is_some_and, put_row, row_above, row_at, with_row}
use Rattle.swarm_objects.specs.Same.{same_number}

-- what is said of the Ok of a call
pub on_ok : {T E : Type 0} (r : Result T E) (P Q : Type 0) → (P → Q) → OnOk r P → OnOk r Q
on_ok (Ok x) P Q f p = f p
on_ok (Err e) P Q f p = tt

-- what is said of the Err of a call
pub on_err : {T E : Type 0} (r : Result T E) (P Q : Type 0) → (P → Q) → OnErr r P → OnErr r Q
on_err (Ok x) P Q f p = tt
on_err (Err e) P Q f p = f p

-- the ids of one key's number and digest change

module _ {S : Type 0} (old new : HashMap (ℕ × ℕ) (List ℕ) S) (a b : ℕ) (o p : Option (List ℕ)) (was : get same_pair old (a, b) ≡ o)
    (is : (q : ℕ × ℕ) → get same_pair new q ≡ cond (same_pair (a, b) q) p (get same_pair old q)) where
  was_at : (w d : ℕ) → same_pair (a, b) (w, d) ≡ true → get same_pair old (w, d) ≡ o
  was_at w d e =
      let one : a ≡ w = grind (arith, nat_tests, e) in
      let two : b ≡ d = grind (arith, nat_tests, e) in
      ap (λ n. get same_pair old (n, d)) (sym one) ∙ ap (λ n. get same_pair old (a, n)) (sym two) ∙ was

  pub ids_add : (c : ℕ) → ((i : ℕ) → has_id_in p i ≡ (eqb c i || has_id_in o i)) → AddsMarks old new (same_mark a b c)
  ids_add c has w d i = ap (λ t. has_id_in t i) (is (w, d)) ∙ go (same_pair (a, b) (w, d)) refl
    where
      go : (t : Bool) → same_pair (a, b) (w, d) ≡ t → has_id_in (cond t p (get same_pair old (w, d))) i ≡ ((t && eqb c i) || has_mark old w d i)
      go true e = has i ∙ ap (λ t. eqb c i || has_id_in t i) (sym (was_at w d e))
      go false e = refl

  pub ids_drop : (c : ℕ) → ((i : ℕ) → has_id_in p i ≡ (not (eqb c i) && has_id_in o i)) → DropsMarks old new (same_mark a b c)
  ids_drop c has w d i = ap (λ t. has_id_in t i) (is (w, d)) ∙ go (same_pair (a, b) (w, d)) refl
    where
      go : (t : Bool) → same_pair (a, b) (w, d) ≡ t → has_id_in (cond t p (get same_pair old (w, d))) i ≡ (not (t && eqb c i) && has_mark old w d i)
      go true e = has i ∙ ap (λ t. not (eqb c i) && has_id_in t i) (sym (was_at w d e))
      go false e = refl

  pub ids_stay : p ≡ o → KeepsMarks old new
  ids_stay same w d i = ap (λ t. has_id_in t i) (is (w, d)) ∙ go (same_pair (a, b) (w, d)) refl
    where
      go : (t : Bool) → same_pair (a, b) (w, d) ≡ t → has_id_in (cond t p (get same_pair old (w, d))) i ≡ has_mark old w d i
      go true e = ap (λ t. has_id_in t i) (same ∙ sym (was_at w d e))
      go false e = refl

twice : (t : Bool) (p o : Option (List ℕ)) → cond t None (cond t p o) ≡ cond t None o
twice true p o = refl
twice false p o = refl

module _ {S : Type 0} (old new : HashMap (ℕ × ℕ) (List ℕ) S) (a b c : ℕ) (ids more : List ℕ) (was : get same_pair old (a, b) ≡ Some ids)
    (writes : WritesThrough same_pair (same_pair (a, b)) old more new) where
  written : (q : ℕ × ℕ) → get same_pair new q ≡ cond (same_pair (a, b) q) (Some more) (get same_pair old q)
  written = (writes.3 (ap is_some was)).0

  pub written_adds : ((i : ℕ) → has_id more i ≡ (eqb c i || has_id ids i)) → AddsMarks old new (same_mark a b c)
  written_adds has = ids_add old new a b (Some ids) (Some more) was written c has

  pub written_keeps : more ≡ ids → KeepsMarks old new
  written_keeps same = ids_stay old new a b (Some ids) (Some more) was written (ap Some same)

  pub written_drops : ((i : ℕ) → has_id more i ≡ (not (eqb c i) && has_id ids i)) → DropsMarks old new (same_mark a b c)
  written_drops has = ids_drop old new a b (Some ids) (Some more) was written c has

  -- the last id went, and so does the entry
  pub emptied_drops : (last : HashMap (ℕ × ℕ) (List ℕ) S) → ((i : ℕ) → has_id more i ≡ (not (eqb c i) && has_id ids i)) → more ≡ []
      → ((q : ℕ × ℕ) → get same_pair last q ≡ cond (same_pair (a, b) q) None (get same_pair new q)) → DropsMarks old last (same_mark a b c)
  emptied_drops last has none gone = ids_drop old last a b (Some ids) None was (λ q. gone q ∙ over q) c (λ i. ap (λ l. has_id l i) (sym none) ∙ has i)
    where
      over : (q : ℕ × ℕ) → cond (same_pair (a, b) q) None (get same_pair new q) ≡ cond (same_pair (a, b) q) None (get same_pair old q)
      over q = ap (λ o. cond (same_pair (a, b) q) None o) (written q) ∙ twice (same_pair (a, b) q) (Some more) (get same_pair old q)

-- a first id came
pub entry_adds : {S : Type 0} (old mid new : HashMap (ℕ × ℕ) (List ℕ) S) (a b c : ℕ) (ids : List ℕ) → get same_pair old (a, b) ≡ None → mid ≡ old → ids ≡ c ∷ []
    → ((q : ℕ × ℕ) → get same_pair new q ≡ cond (same_pair (a, b) q) (Some ids) (get same_pair mid q)) → AddsMarks old new (same_mark a b c)
entry_adds old mid new a b c ids was same one put = ids_add old new a b None (Some ids) was (λ q. put q ∙ ap (λ m. cond (same_pair (a, b) q) (Some ids) (get same_pair m q)) same) c (λ i. ap (λ l. has_id l i) one)

-- the marks of one key

key_tests : (s : Option ℕ) (d e : ℕ) → s ≡ Some d → option_eq same_number s (Some e) ≡ eqb d e
key_tests s d e is = ap (λ o. option_eq same_number o (Some e)) is

order_tests : (a b c : Bool) → ((a && b) && c) ≡ (c && (a && b))
order_tests true true true = refl
order_tests true true false = refl
order_tests true false true = refl
order_tests true false false = refl
order_tests false b true = refl
order_tests false b false = refl

mark_of_key : (digests : ℕ → Option ℕ) (k d0 id w d i : ℕ) → digests k ≡ Some d0 → same_mark k d0 id w d i ≡ is_mark_at digests k id w d i
mark_of_key digests k d0 id w d i e = order_tests (eqb k w) (eqb d0 d) (eqb id i) ∙ ap (λ b. eqb id i && b) (go (eqb k w) refl)
  where
    go : (b : Bool) → eqb k w ≡ b → (b && eqb d0 d) ≡ (b && option_eq same_number (digests w) (Some d))
    go true f = let same : k ≡ w = grind (arith, nat_tests, f) in sym (key_tests (digests w) d0 d (subst (λ n. digests n ≡ Some d0) same e))
    go false f = refl

no_mark_of_key : (digests : ℕ → Option ℕ) (k id w d i : ℕ) → digests k ≡ None → is_mark_at digests k id w d i ≡ false
no_mark_of_key digests k id w d i e = ap (λ b. eqb id i && b) (go (eqb k w) refl) ∙ last (eqb id i)
  where
    go : (b : Bool) → eqb k w ≡ b → (b && option_eq same_number (digests w) (Some d)) ≡ false
    go true f = let same : k ≡ w = grind (arith, nat_tests, f) in ap (λ o. option_eq same_number o (Some d)) (subst (λ n. digests n ≡ None) same e)
    go false f = refl

    last : (a : Bool) → (a && false) ≡ false
    last true = refl
    last false = refl

pub adds_key : {S : Type 0} (old new : HashMap (ℕ × ℕ) (List ℕ) S) (digests : ℕ → Option ℕ) (k d0 id : ℕ) → digests k ≡ Some d0 → AddsMarks old new (same_mark k d0 id) → AddsMarks old new (is_mark_at digests k id)
adds_key old new digests k d0 id e h w d i = h w d i ∙ ap (λ b. b || has_mark old w d i) (mark_of_key digests k d0 id w d i e)

pub adds_no_key : {S : Type 0} (old : HashMap (ℕ × ℕ) (List ℕ) S) (digests : ℕ → Option ℕ) (k id : ℕ) → digests k ≡ None → AddsMarks old old (is_mark_at digests k id)
adds_no_key old digests k id e w d i = ap (λ b. b || has_mark old w d i) (sym (no_mark_of_key digests k id w d i e))

pub drops_key : {S : Type 0} (old new : HashMap (ℕ × ℕ) (List ℕ) S) (digests : ℕ → Option ℕ) (k d0 id : ℕ) → digests k ≡ Some d0 → DropsMarks old new (same_mark k d0 id) → DropsMarks old new (is_mark_at digests k id)
drops_key old new digests k d0 id e h w d i = h w d i ∙ ap (λ b. not b && has_mark old w d i) (mark_of_key digests k d0 id w d i e)

pub drops_no_key : {S : Type 0} (old : HashMap (ℕ × ℕ) (List ℕ) S) (digests : ℕ → Option ℕ) (k id : ℕ) → digests k ≡ None → DropsMarks old old (is_mark_at digests k id)
drops_no_key old digests k id e w d i = ap (λ b. not b && has_mark old w d i) (sym (no_mark_of_key digests k id w d i e))

-- the marks of one key more

no_key_yet : (digests : ℕ → Option ℕ) (id w d i : ℕ) → is_mark digests 0 id w d i ≡ false
no_key_yet digests id w d i = go (eqb id i)
  where
    go : (a : Bool) → (a && (ltb w 0 && option_eq same_number (digests w) (Some d))) ≡ false
    go true = let none : ltb w 0 ≡ false = grind (arith, nat_tests) in ap (λ b. b && option_eq same_number (digests w) (Some d)) none
    go false = refl

pub adds_none : {S : Type 0} (old : HashMap (ℕ × ℕ) (List ℕ) S) (digests : ℕ → Option ℕ) (id : ℕ) → AddsMarks old old (is_mark digests 0 id)
adds_none old digests id w d i = ap (λ b. b || has_mark old w d i) (sym (no_key_yet digests id w d i))

pub drops_none : {S : Type 0} (old : HashMap (ℕ × ℕ) (List ℕ) S) (digests : ℕ → Option ℕ) (id : ℕ) → DropsMarks old old (is_mark digests 0 id)
drops_none old digests id w d i = ap (λ b. not b && has_mark old w d i) (sym (no_key_yet digests id w d i))

spread : (a b c e : Bool) → (a && ((b || c) && e)) ≡ ((a && (b && e)) || (a && (c && e)))
spread true true true true = refl
spread true true true false = refl
spread true true false true = refl
spread true true false false = refl
spread true false c e = refl
spread false b c e = refl

key_more : (w k : ℕ) → ltb w (k + 1) ≡ (eqb k w || ltb w k)
key_more w k = grind (arith, nat_tests)

mark_more : (digests : ℕ → Option ℕ) (k id w d i : ℕ) → is_mark digests (k + 1) id w d i ≡ (is_mark_at digests k id w d i || is_mark digests k id w d i)
mark_more digests k id w d i = ap (λ b. eqb id i && (b && option_eq same_number (digests w) (Some d))) (key_more w k) ∙ spread (eqb id i) (eqb k w) (ltb w k) (option_eq same_number (digests w) (Some d))

or_assoc : (a b c : Bool) → (a || (b || c)) ≡ ((a || b) || c)
or_assoc true b c = refl
or_assoc false b c = refl

not_both : (a b c : Bool) → (not a && (not b && c)) ≡ (not (a || b) && c)
not_both true b c = refl
not_both false b c = refl

pub adds_more : {S : Type 0} (a b c : HashMap (ℕ × ℕ) (List ℕ) S) (digests : ℕ → Option ℕ) (k id : ℕ) → AddsMarks a b (is_mark digests k id) → AddsMarks b c (is_mark_at digests k id) → AddsMarks a c (is_mark digests (k + 1) id)
adds_more a b c digests k id h g w d i =
    g w d i ∙ ap (λ t. is_mark_at digests k id w d i || t) (h w d i) ∙ or_assoc (is_mark_at digests k id w d i) (is_mark digests k id w d i) (has_mark a w d i)
    ∙ ap (λ t. t || has_mark a w d i) (sym (mark_more digests k id w d i))

pub drops_more : {S : Type 0} (a b c : HashMap (ℕ × ℕ) (List ℕ) S) (digests : ℕ → Option ℕ) (k id : ℕ) → DropsMarks a b (is_mark digests k id) → DropsMarks b c (is_mark_at digests k id) → DropsMarks a c (is_mark digests (k + 1) id)
drops_more a b c digests k id h g w d i =
    g w d i ∙ ap (λ t. not (is_mark_at digests k id w d i) && t) (h w d i) ∙ not_both (is_mark_at digests k id w d i) (is_mark digests k id w d i) (has_mark a w d i)
    ∙ ap (λ t. not t && has_mark a w d i) (sym (mark_more digests k id w d i))

-- what was added goes again

still_mark : (digests : ℕ → Option ℕ) (k n id w d i : ℕ) → k ≤ n → is_mark digests k id w d i ≡ true → is_mark digests n id w d i ≡ true
still_mark digests k n id w d i le e = go (eqb id i) (ltb w k) refl (ltb w n) refl (option_eq same_number (digests w) (Some d)) e
  where
    go : (a b : Bool) → ltb w k ≡ b → (c : Bool) → ltb w n ≡ c → (t : Bool) → (a && (b && t)) ≡ true → (a && (c && t)) ≡ true
    go true true f true g t h = h
    go true true f false g t h = absurd (grind (arith, nat_tests, f, g, le))
    go true false f c g t h = let no : false ≡ true = h in absurd cc
    go false b f c g t h = let no : false ≡ true = h in absurd cc

taken_back : (m a : Bool) → (m ≡ true → a ≡ false) → (not m && (m || a)) ≡ a
taken_back true a h = sym (h refl)
taken_back false a h = refl

pub undone : {S : Type 0} (a b c e : HashMap (ℕ × ℕ) (List ℕ) S) (digests : ℕ → Option ℕ) (k n id : ℕ) → k ≤ n → HasNone a (is_mark digests n id) → AddsMarks a b (is_mark digests k id) → KeepsMarks b c → DropsMarks c e (is_mark digests k id) → KeepsMarks a e
undone a b c e digests k n id le none h same g w d i =
    g w d i ∙ ap (λ t. not (is_mark digests k id w d i) && t) (same w d i ∙ h w d i)
    ∙ taken_back (is_mark digests k id w d i) (has_mark a w d i) (λ t. none w d i (still_mark digests k n id w d i le t))

-- the marks of rows

mark_parts : (digests : ℕ → Option ℕ) (count id w d i : ℕ) → is_mark digests count id w d i ≡ true → (id ≡ i) × ((ltb w count && option_eq same_number (digests w) (Some d)) ≡ true)
mark_parts digests count id w d i e = go (eqb id i) refl e
  where
    go : (b : Bool) → eqb id i ≡ b → (b && (ltb w count && option_eq same_number (digests w) (Some d))) ≡ true → (id ≡ i) × ((ltb w count && option_eq same_number (digests w) (Some d)) ≡ true)
    go true f h = (grind (arith, nat_tests, f), h)
    go false f h = let no : false ≡ true = h in absurd cc

fresh_is_not : (a b : Option ℕ) (n : Bool) (d : ℕ) → (n && option_eq same_number (fresh a b) (Some d)) ≡ true → (n && option_eq same_number b (Some d)) ≡ false
fresh_is_not None b true d e = let no : false ≡ true = e in absurd cc
fresh_is_not (Some x) None true d e = refl
fresh_is_not (Some x) (Some y) true d e = go (eqb x y) refl e
  where
    go : (c : Bool) → eqb x y ≡ c → option_eq same_number (cond c None (Some x)) (Some d) ≡ true → eqb y d ≡ false
    go true f h = let no : false ≡ true = h in absurd cc
    go false f h = let g : eqb x d ≡ true = h in grind (arith, nat_tests, f, g)
fresh_is_not a b false d e = refl

fresh_of_none : (a : Option ℕ) → fresh a None ≡ a
fresh_of_none None = refl
fresh_of_none (Some d) = refl

or_none : (a b : Bool) → b ≡ false → (a || b) ≡ a
or_none true b e = refl
or_none false b e = e

not_and : (a b : Bool) → b ≡ a → (not a && b) ≡ false
not_and true b e = refl
not_and false b e = e

swapped : (a b : Option ℕ) (n : Bool) (d : ℕ) → (not (n && option_eq same_number (fresh b a) (Some d)) && ((n && option_eq same_number (fresh a b) (Some d)) || (n && option_eq same_number b (Some d)))) ≡ (n && option_eq same_number a (Some d))
swapped a b false d = refl
swapped None None true d = refl
swapped None (Some y) true d = go (eqb y d)
  where
    go : (c : Bool) → (not c && (false || c)) ≡ false
    go true = refl
    go false = refl
swapped (Some x) None true d = go (eqb x d)
  where
    go : (c : Bool) → (true && (c || false)) ≡ c
    go true = refl
    go false = refl
swapped (Some x) (Some y) true d = grind (arith, nat_tests)

pub one_digest : (a b : KeyValue) → same_key a b ≡ true → a ≡ b
one_digest (Num a) (Num b) e = ap Num (grind (arith, nat_tests, e))
one_digest (Num a) (Pair c d) e = let no : false ≡ true = e in absurd cc
one_digest (Num a) (Text t) e = let no : false ≡ true = e in absurd cc
one_digest (Pair a b) (Num c) e = let no : false ≡ true = e in absurd cc
one_digest (Pair a b) (Pair c d) e = let one : a ≡ c = grind (arith, nat_tests, e) in let two : b ≡ d = grind (arith, nat_tests, e) in ap (λ n. Pair n b) one ∙ ap (Pair c) two
one_digest (Pair a b) (Text t) e = let no : false ≡ true = e in absurd cc
one_digest (Text s) (Num c) e = let no : false ≡ true = e in absurd cc
one_digest (Text s) (Pair c d) e = let no : false ≡ true = e in absurd cc
one_digest (Text s) (Text t) e = ap Text ((bytes_eq-Decides s t).0 e)

below_count : (w count : ℕ) → w < count → ltb w count ≡ true
below_count w count lt = grind (arith, nat_tests)

module _ {R S : Type 0} (id_of : R → ℕ) (key_of : ℕ → R → Option KeyValue) (count : ℕ) where
  pub none_of_new : (rows : List R) (marks : HashMap (ℕ × ℕ) (List ℕ) S) (digests : ℕ → Option ℕ) (id : ℕ) → AreMarksOf id_of key_of count rows marks → row_at id_of id rows ≡ None → HasNone marks (is_mark digests count id)
  none_of_new rows marks digests id are none w d i t =
      are w d i ∙ ap (λ o. is_marked key_of count o w d) (subst (λ n. row_at id_of n rows ≡ None) (mark_parts digests count id w d i t).0 none)

  pub none_of_fresh : (rows : List R) (marks : HashMap (ℕ × ℕ) (List ℕ) S) (new old : R) (id : ℕ) → AreMarksOf id_of key_of count rows marks → row_at id_of id rows ≡ Some old → HasNone marks (is_mark (fresh_digests key_of new (Some old)) count id)
  none_of_fresh rows marks new old id are there w d i t =
      let parts = mark_parts (fresh_digests key_of new (Some old)) count id w d i t in
      are w d i ∙ ap (λ o. is_marked key_of count o w d) (subst (λ n. row_at id_of n rows ≡ Some old) parts.0 there)
      ∙ fresh_is_not (digest_at key_of w new) (digest_at key_of w old) (ltb w count) d parts.1

  pub marked_with : (rows : List R) (old new : HashMap (ℕ × ℕ) (List ℕ) S) (row : R) → AreMarksOf id_of key_of count rows old → row_at id_of (id_of row) rows ≡ None
      → AddsMarks old new (is_mark (fresh_digests key_of row None) count (id_of row)) → AreMarksOf id_of key_of count (with_row id_of row rows) new
  marked_with rows old new row are none h w d i = h w d i ∙ go (eqb (id_of row) i) refl ∙ ap (λ o. is_marked key_of count o w d) (sym (at_with id_of row rows i))
    where
      go : (c : Bool) → eqb (id_of row) i ≡ c → ((c && (ltb w count && option_eq same_number (fresh_digests key_of row None w) (Some d))) || has_mark old w d i) ≡ is_marked key_of count (cond c (Some row) (row_at id_of i rows)) w d
      go true f =
          let same : id_of row ≡ i = grind (arith, nat_tests, f) in
          or_none _ (has_mark old w d i) (are w d i ∙ ap (λ o. is_marked key_of count o w d) (subst (λ n. row_at id_of n rows ≡ None) same none))
          ∙ ap (λ o. ltb w count && option_eq same_number o (Some d)) (fresh_of_none (digest_at key_of w row))
      go false f = are w d i

  pub marked_without : (rows : List R) (old new : HashMap (ℕ × ℕ) (List ℕ) S) (row : R) (id : ℕ) → AreMarksOf id_of key_of count rows old → row_at id_of id rows ≡ Some row
      → DropsMarks old new (is_mark (fresh_digests key_of row None) count id) → AreMarksOf id_of key_of count (drop_row id_of id rows) new
  marked_without rows old new row id are there h w d i = h w d i ∙ go (eqb id i) refl ∙ ap (λ o. is_marked key_of count o w d) (sym (at_drop id_of id rows i))
    where
      go : (c : Bool) → eqb id i ≡ c → (not (c && (ltb w count && option_eq same_number (fresh_digests key_of row None w) (Some d))) && has_mark old w d i) ≡ is_marked key_of count (cond c None (row_at id_of i rows)) w d
      go true f =
          let same : id ≡ i = grind (arith, nat_tests, f) in
          not_and _ (has_mark old w d i)
          (are w d i ∙ ap (λ o. is_marked key_of count o w d) (subst (λ n. row_at id_of n rows ≡ Some row) same there)
          ∙ ap (λ o. ltb w count && option_eq same_number o (Some d)) (sym (fresh_of_none (digest_at key_of w row))))
      go false f = are w d i

  pub marked_put : (rows : List R) (a c : HashMap (ℕ × ℕ) (List ℕ) S) (new old : R) (id : ℕ) → AreMarksOf id_of key_of count rows a → id ≡ id_of new → row_at id_of id rows ≡ Some old
      → ExchangesMarks a c (is_mark (fresh_digests key_of new (Some old)) count id) (is_mark (fresh_digests key_of old (Some new)) count id) → AreMarksOf id_of key_of count (put_row id_of new rows) c
  marked_put rows a c new old id are is there g w d i =
      g w d i
      ∙ subst (λ n. (not (eqb id i && fresh_old) && ((eqb id i && fresh_new) || has_mark a w d i)) ≡ is_marked key_of count (cond (eqb n i) (cond (is_some (row_at id_of i rows)) (Some new) None) (row_at id_of i rows)) w d) is (go (eqb id i) refl)
      ∙ ap (λ o. is_marked key_of count o w d) (sym (at_put id_of new rows i))
    where
      fresh_old : Bool
      fresh_old = ltb w count && option_eq same_number (fresh (digest_at key_of w old) (digest_at key_of w new)) (Some d)

      fresh_new : Bool
      fresh_new = ltb w count && option_eq same_number (fresh (digest_at key_of w new) (digest_at key_of w old)) (Some d)

      go : (t : Bool) → eqb id i ≡ t → (not (t && fresh_old) && ((t && fresh_new) || has_mark a w d i)) ≡ is_marked key_of count (cond t (cond (is_some (row_at id_of i rows)) (Some new) None) (row_at id_of i rows)) w d
      go true f =
          let same : id ≡ i = grind (arith, nat_tests, f) in
          let at : row_at id_of i rows ≡ Some old = subst (λ n. row_at id_of n rows ≡ Some old) same there in
          ap (λ t. not fresh_old && (fresh_new || t)) (are w d i ∙ ap (λ o. is_marked key_of count o w d) at)
          ∙ swapped (digest_at key_of w new) (digest_at key_of w old) (ltb w count) d
          ∙ ap (λ o. is_marked key_of count (cond (is_some o) (Some new) None) w d) (sym at)
      go false f = are w d i

  -- a row is marked with its keys

  pub marked_row : (rows : List R) (marks : HashMap (ℕ × ℕ) (List ℕ) S) (w : ℕ) (key : KeyValue) (row : R) → AreMarksOf id_of key_of count rows marks → IsRising id_of rows → w < count → Has rows row → has_key key_of w key row ≡ true
      → has_mark marks w (digest key) (id_of row) ≡ true
  marked_row rows marks w key row are r lt there has =
      are w (digest key) (id_of row) ∙ ap (λ o. is_marked key_of count o w (digest key)) (at_member id_of rows row r there)
      ∙ ap (λ b. b && option_eq same_number (digest_at key_of w row) (Some (digest key))) (below_count w count lt)
      ∙ go (key_of w row) has
    where
      go : (o : Option KeyValue) → is_some_and (λ k. same_key k key) o ≡ true → option_eq same_number (option_map digest o) (Some (digest key)) ≡ true
      go None e = let no : false ≡ true = e in absurd cc
      go (Some k) e = let same : digest k ≡ digest key = ap digest (one_digest k key e) in grind (arith, nat_tests, same)

  module _ (rows : List R) (marks : HashMap (ℕ × ℕ) (List ℕ) S) (w after : ℕ) (key : KeyValue) (are : AreMarksOf id_of key_of count rows marks) (rises : IsRising id_of rows) (lt : w < count) where
    -- no mark, no row
    pub none_marked : IsNextMark marks w (digest key) after None → None ≡ row_above id_of after (filter (has_key key_of w key) rows)
    none_marked none = next_is id_of (has_key key_of w key) after rows None rises (λ y there t a. let yes = marked_row rows marks w key y are rises lt there t in let no = none (id_of y) a in let bad : true ≡ false = sym yes ∙ no in cc)

    -- the row of the next mark has the key
    first_row : (i : ℕ) (row : R) → IsNextMark marks w (digest key) after (Some i) → row_at id_of i rows ≡ Some row → has_key key_of w key row ≡ true → Some row ≡ row_above id_of after (filter (has_key key_of w key) rows)
    first_row i row h at has = next_is id_of (has_key key_of w key) after rows (Some row) rises (record {
      there = found.0;
      passes = has;
      above = subst (λ n. after < n) (sym found.1) h.0;
      least = λ y there t a. subst (λ n. n ≤ id_of y) (sym found.1) (h.2 (id_of y) a (marked_row rows marks w key y are rises lt there t));
    })
      where
        found : Has rows row × (id_of row ≡ i)
        found = Has-from_row_at id_of i rows row at

    pub first_marked : (i : ℕ) (o : Option R) → IsNextMark marks w (digest key) after (Some i) → o ≡ row_at id_of i rows → is_some_and (has_key key_of w key) o ≡ true → o ≡ row_above id_of after (filter (has_key key_of w key) rows)
    first_marked i None h at has = let no : false ≡ true = has in absurd cc
    first_marked i (Some row) h at has = first_row i row h (sym at) has

    -- it hasn't
    pub passed_mark : (i : ℕ) → IsNextMark marks w (digest key) after (Some i) → is_some_and (has_key key_of w key) (row_at id_of i rows) ≡ false
        → row_above id_of i (filter (has_key key_of w key) rows) ≡ row_above id_of after (filter (has_key key_of w key) rows)
    passed_mark i h other = next_is id_of (has_key key_of w key) after rows _ rises (go (row_above id_of i (filter (has_key key_of w key) rows)) (next_holds id_of (has_key key_of w key) i rows rises))
      where
        beyond : (y : R) → Has rows y → has_key key_of w key y ≡ true → after < id_of y → i < id_of y
        beyond y there t a =
            let le : i ≤ id_of y = h.2 (id_of y) a (marked_row rows marks w key y are rises lt there t) in
            apart (eqb i (id_of y)) refl le
          where
            apart : (b : Bool) → eqb i (id_of y) ≡ b → i ≤ id_of y → i < id_of y
            apart true e le =
                let same : i ≡ id_of y = grind (arith, nat_tests, e) in
                let at : row_at id_of i rows ≡ Some y = subst (λ n. row_at id_of n rows ≡ Some y) (sym same) (at_member id_of rows y rises there) in
                let no : is_some_and (has_key key_of w key) (Some y) ≡ false = subst (λ o. is_some_and (has_key key_of w key) o ≡ false) at other in
                let bad : true ≡ false = sym t ∙ no in absurd cc
            apart false e le = grind (arith, nat_tests, e, le)

        go : (o : Option R) → IsNext id_of (has_key key_of w key) i rows o → IsNext id_of (has_key key_of w key) after rows o
        go None none = λ y there t a. none y there t (beyond y there t a)
        go (Some x) least = record {
          there = least.there;
          passes = least.passes;
          above = (let p : after < i = h.0 in let q : i < id_of x = least.above in omega arith);
          least = λ y there t a. least.least y there t (beyond y there t a);
        }
