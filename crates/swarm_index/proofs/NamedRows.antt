-- Rows by a list of ids: a list of all ids that a key's digest has names all rows with the key.
use Rattle.std.proofs.Common.{◌≡◌, ℕ, ◌<◌, Bool, true, false, cond, eqb, ◌||◌, List, [], ◌∷◌, Option, Some, None, refl, sym, ap, ◌∙◌, subst, arith}
use Rattle.std.proofs.lemmas.Bool.Decides.{nat_tests}
use Rattle.std.specs.HashMap.{HashMap}
use Rattle.std.specs.List.{cons_option}
use Rattle.std.specs.Prelude.{filter}
use Rattle.swarm_index.proofs.MarkLemmas.{marked_row}
use Rattle.swarm_index.proofs.RowsAt.{same_rows, weaker}
use Rattle.swarm_index.specs.Inside.Ids.{has_id}
use Rattle.swarm_index.specs.Inside.Marks.{AreMarksOf, digest, has_mark}
use Rattle.swarm_index.specs.Keys.{KeyValue, has_key}
use Rattle.swarm_objects.proofs.Gaps.{IsRising-filter}
use Rattle.swarm_objects.proofs.RowLemmas.{Has-from_row_at, RisesFrom-lower, row_at-None_below}
use Rattle.swarm_objects.specs.Rows.{IsRising, RisesFrom, itself, row_at, rows_named}

-- the row, where it passes
abbrev passing : {X : Type 0} → (X → Bool) → Option X → Option X
passing p None = None
passing p (Some x) = cond (p x) (Some x) None

at_filter : {X : Type 0} (key : X → ℕ) (p : X → Bool) (rows : List X) (i : ℕ) → IsRising key rows → row_at key i (filter p rows) ≡ passing p (row_at key i rows)
at_filter key p [] i r = refl
at_filter key p (x ∷ rows) i r = go (p x) refl (eqb (key x) i) refl (at_filter key p rows i (weaker key (key x) rows r))
  where
    go : (b : Bool) → p x ≡ b → (c : Bool) → eqb (key x) i ≡ c → row_at key i (filter p rows) ≡ passing p (row_at key i rows)
        → row_at key i (cond b (x ∷ filter p rows) (filter p rows)) ≡ passing p (cond c (Some x) (row_at key i rows))
    go true e true f below = ap (λ b. cond b (Some x) (row_at key i (filter p rows))) f ∙ ap (λ b. cond b (Some x) None) (sym e)
    go true e false f below = ap (λ b. cond b (Some x) (row_at key i (filter p rows))) f ∙ below
    go false e true f below =
        let same : key x ≡ i = grind (arith, nat_tests, f) in
        below ∙ ap (passing p) (row_at-None_below key (key x) i rows r (omega (arith, same))) ∙ ap (λ b. cond b (Some x) None) (sym e)
    go false e false f below = below

-- rows named by ids are there exactly where their id is among these

at_named : {X : Type 0} (key : X → ℕ) (ids : List ℕ) (rows : List X) (i : ℕ) → row_at key i (rows_named key ids rows) ≡ cond (has_id ids i) (row_at key i rows) None
at_named key [] rows i = refl
at_named {X} key (z ∷ zs) rows i = go (row_at key z rows) refl (eqb z i) refl (at_named key zs rows i)
  where
    none : (b : Bool) (o : Option X) → o ≡ None → cond b o None ≡ o
    none true o e = refl
    none false o e = sym e

    go : (o : Option X) → row_at key z rows ≡ o → (c : Bool) → eqb z i ≡ c → row_at key i (rows_named key zs rows) ≡ cond (has_id zs i) (row_at key i rows) None
        → row_at key i (cons_option o (rows_named key zs rows)) ≡ cond (c || has_id zs i) (row_at key i rows) None
    go None e true f below =
        let same : z ≡ i = grind (arith, nat_tests, f) in
        below ∙ none (has_id zs i) (row_at key i rows) (subst (λ n. row_at key n rows ≡ None) same e)
    go None e false f below = below
    go (Some x) e true f below =
        let same : z ≡ i = grind (arith, nat_tests, f) in
        let own : key x ≡ z = (Has-from_row_at key z rows x e).1 in
        let here : eqb (key x) i ≡ true = grind (arith, nat_tests, own, same) in
        ap (λ b. cond b (Some x) (row_at key i (rows_named key zs rows))) here ∙ sym (subst (λ n. row_at key n rows ≡ Some x) same e)
    go (Some x) e false f below =
        let own : key x ≡ z = (Has-from_row_at key z rows x e).1 in
        ap (λ n. cond (eqb n i) (Some x) (row_at key i (rows_named key zs rows))) own ∙ ap (λ b. cond b (Some x) (row_at key i (rows_named key zs rows))) f ∙ below

rises_named : {X : Type 0} (key : X → ℕ) (n : ℕ) (ids : List ℕ) (rows : List X) → RisesFrom itself n ids → RisesFrom key n (rows_named key ids rows)
rises_named key n [] rows r = tt
rises_named {X} key n (z ∷ zs) rows r = go (row_at key z rows) refl (rises_named key z zs rows r.1)
  where
    less : n < z
    less = r.0

    go : (o : Option X) → row_at key z rows ≡ o → RisesFrom key z (rows_named key zs rows) → RisesFrom key n (cons_option o (rows_named key zs rows))
    go None e below = RisesFrom-lower key n z (rows_named key zs rows) (omega (arith, less)) below
    go (Some x) e below =
        let own : key x ≡ z = (Has-from_row_at key z rows x e).1 in
        (subst (λ k. n < k) (sym own) less, subst (λ k. RisesFrom key k (rows_named key zs rows)) (sym own) below)

rising_named : {X : Type 0} (key : X → ℕ) (ids : List ℕ) (rows : List X) → IsRising itself ids → IsRising key (rows_named key ids rows)
rising_named key [] rows r = tt
rising_named {X} key (z ∷ zs) rows r = go (row_at key z rows) refl (rises_named key z zs rows r)
  where
    go : (o : Option X) → row_at key z rows ≡ o → RisesFrom key z (rows_named key zs rows) → IsRising key (cons_option o (rows_named key zs rows))
    go None e below = weaker key z (rows_named key zs rows) below
    go (Some x) e below = subst (λ k. RisesFrom key k (rows_named key zs rows)) (sym (Has-from_row_at key z rows x e).1) below

-- where the ids of all rows that pass are named, these rows are those that pass
pub named_all : {X : Type 0} (key : X → ℕ) (p : X → Bool) (ids : List ℕ) (rows : List X) → IsRising itself ids → IsRising key rows
    → ((i : ℕ) (x : X) → row_at key i rows ≡ Some x → p x ≡ true → has_id ids i ≡ true) → filter p (rows_named key ids rows) ≡ filter p rows
named_all {X} key p ids rows r s named =
    same_rows key (filter p (rows_named key ids rows)) (filter p rows) (IsRising-filter key p (rows_named key ids rows) rises) (IsRising-filter key p rows s)
    (λ i. at_filter key p (rows_named key ids rows) i rises ∙ ap (passing p) (at_named key ids rows i) ∙ go i (row_at key i rows) refl ∙ sym (at_filter key p rows i s))
  where
    rises : IsRising key (rows_named key ids rows)
    rises = rising_named key ids rows r

    go : (i : ℕ) (o : Option X) → row_at key i rows ≡ o → passing p (cond (has_id ids i) o None) ≡ passing p o
    go i None e = none (has_id ids i)
      where
        none : (b : Bool) → passing p (cond b None None) ≡ None
        none true = refl
        none false = refl
    go i (Some x) e = some (p x) refl
      where
        some : (b : Bool) → p x ≡ b → passing p (cond (has_id ids i) (Some x) None) ≡ passing p (Some x)
        some true f = ap (λ b. passing p (cond b (Some x) None)) (named i x e f)
        some false f = gone (has_id ids i) ∙ sym (ap (λ b. cond b (Some x) None) f)
          where
            gone : (b : Bool) → passing p (cond b (Some x) None) ≡ None
            gone true = ap (λ b. cond b (Some x) None) f
            gone false = refl

-- the ids under a key's digest name all rows with the key
pub marks_name : {R S : Type 0} (id_of : R → ℕ) (key_of : ℕ → R → Option KeyValue) (count : ℕ) (rows : List R) (marks : HashMap (ℕ × ℕ) (List ℕ) S) (w d : ℕ) (key : KeyValue) (ids : List ℕ)
    → AreMarksOf id_of key_of count rows marks × IsRising id_of rows → w < count → d ≡ digest key → IsRising itself ids → ((i : ℕ) → has_id ids i ≡ has_mark marks w d i)
    → filter (has_key key_of w key) (rows_named id_of ids rows) ≡ filter (has_key key_of w key) rows
marks_name {R} id_of key_of count rows marks w d key ids are lt is r named = named_all id_of (has_key key_of w key) ids rows r are.1 each
  where
    each : (i : ℕ) (x : R) → row_at id_of i rows ≡ Some x → has_key key_of w key x ≡ true → has_id ids i ≡ true
    each i x e t =
        let found = Has-from_row_at id_of i rows x e in
        named i ∙ ap (λ n. has_mark marks w n i) is
        ∙ subst (λ n. has_mark marks w (digest key) n ≡ true) found.1 (marked_row id_of key_of count rows marks w key x are.0 are.1 lt found.0 t)
