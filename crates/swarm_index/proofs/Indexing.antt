-- What an index is after its table or its spare rows changed.
use Rattle.std.proofs.Common.{◌≡◌, ℕ, Bool, true, false, cond, eqb, List, [], Option, Some, None, refl, sym, ap, ◌∙◌, subst, arith}
use Rattle.std.proofs.lemmas.Bool.Decides.{nat_tests}
use Rattle.std.specs.Prelude.{filter, is_some}
use Rattle.swarm_index.proofs.Merging.{above_of_both, apart_drop_first, apart_drop_second, apart_put_first, apart_put_second, apart_with_first, apart_with_second, at_all, drop_first, drop_second, insert_first, insert_second, next_of_both, put_first, put_moved, put_second}
use Rattle.swarm_index.proofs.Places.{dropped_none}
use Rattle.swarm_index.proofs.RowsAt.{at_drop, at_put, at_with, rising_all, rising_drop, rising_put, same_rows}
use Rattle.swarm_index.specs.Index.{RowsWithRoom}
use Rattle.swarm_index.specs.Inside.Merged.{IsIndex, first_some, lesser, with_all}
use Rattle.swarm_objects.proofs.Gaps.{IsRising-with_row}
use Rattle.swarm_objects.specs.Rows.{IsRising, drop_row, put_row, row_above, row_at, rows_named, with_row}

-- the index with these rows, seen as one list
pub record Shows {X : Type 0} (key : X → ℕ) (table spare seen : List X) : Type 0 where
  pub index : IsIndex key table spare
  pub rows : with_all key spare table ≡ seen

none_first : {X : Type 0} (a b : Option X) → first_some a b ≡ None → a ≡ None
none_first None b e = refl
none_first (Some x) b e = e

none_second : {X : Type 0} (a b : Option X) → first_some a b ≡ None → b ≡ None
none_second None b e = e
none_second (Some x) b e = cc

put_again : {X : Type 0} (key : X → ℕ) (new : X) (xs : List X) → IsRising key xs → is_some (row_at key (key new) xs) ≡ true → with_row key new (drop_row key (key new) xs) ≡ put_row key new xs
put_again {X} key new xs r some =
    same_rows key (with_row key new (drop_row key (key new) xs)) (put_row key new xs) (IsRising-with_row key new (drop_row key (key new) xs) (rising_drop key (key new) xs r)) (rising_put key new xs r)
    (λ i. at_with key new (drop_row key (key new) xs) i ∙ ap (λ o. cond (eqb (key new) i) (Some new) o) (at_drop key (key new) xs i)
    ∙ go (eqb (key new) i) (row_at key i xs) (λ t. let e : key new ≡ i = grind (arith, nat_tests, t) in subst (λ n. is_some (row_at key n xs) ≡ true) e some)
    ∙ sym (at_put key new xs i))
  where
    go : (c : Bool) (o : Option X) → (c ≡ true → is_some o ≡ true) → cond c (Some new) (cond c None o) ≡ cond c (cond (is_some o) (Some new) None) o
    go true o h = ap (λ b. cond b (Some new) None) (sym (h refl))
    go false o h = refl

-- the row with this id goes, and another with it comes
pub place_free : {X : Type 0} (key : X → ℕ) (k : ℕ) (new same : X) (xs fewer : List X) → k ≡ key new → same ≡ new → fewer ≡ drop_row key k xs → row_at key (key same) fewer ≡ None
place_free key k new same xs fewer is s f = ap (λ x. row_at key (key x) fewer) s ∙ ap (row_at key (key new)) f ∙ at_drop key k xs (key new) ∙ ap (λ b. cond b None (row_at key (key new) xs)) own
  where
    own : eqb k (key new) ≡ true
    own = grind (arith, nat_tests, is)

pub put_in_place : {X : Type 0} (key : X → ℕ) (k : ℕ) (new same old : X) (xs fewer again : List X) → IsRising key xs → k ≡ key new → same ≡ new → Some old ≡ row_at key k xs → fewer ≡ drop_row key k xs → again ≡ with_row key same fewer → again ≡ put_row key new xs
put_in_place key k new same old xs fewer again r is s there f e =
    e ∙ ap (λ x. with_row key x fewer) s ∙ ap (with_row key new) (f ∙ ap (λ n. drop_row key n xs) is) ∙ put_again key new xs r (ap is_some (sym (there ∙ ap (λ n. row_at key n xs) is)))

module _ {X : Type 0} (key : X → ℕ) (table spare seen : List X) (was : IsIndex key table spare) (view : with_all key spare table ≡ seen) where
  at_seen : (k : ℕ) → row_at key k seen ≡ first_some (row_at key k spare) (row_at key k table)
  at_seen k = ap (row_at key k) (sym view) ∙ at_all key spare table k

  pub rises : IsRising key seen
  rises = subst (λ ys. IsRising key ys) view (rising_all key spare table was.table_rises)

  -- look-ups

  pub none_spare : (k : ℕ) → row_at key k seen ≡ None → row_at key k spare ≡ None
  none_spare k e = none_first (row_at key k spare) (row_at key k table) (sym (at_seen k) ∙ e)

  pub none_table : (k : ℕ) → row_at key k seen ≡ None → row_at key k table ≡ None
  none_table k e = none_second (row_at key k spare) (row_at key k table) (sym (at_seen k) ∙ e)

  pub got_spare : (k : ℕ) (x : X) → Some x ≡ row_at key k spare → Some x ≡ row_at key k seen
  got_spare k x e = ap (λ o. first_some o (row_at key k table)) e ∙ sym (at_seen k)

  pub got_table : (k : ℕ) (o : Option X) → None ≡ row_at key k spare → o ≡ row_at key k table → o ≡ row_at key k seen
  got_table k o none e = e ∙ ap (λ p. first_some p (row_at key k table)) none ∙ sym (at_seen k)

  pub got_above : (after : ℕ) (o a b : Option X) → o ≡ lesser key a b → a ≡ row_above key after spare → b ≡ row_above key after table → o ≡ row_above key after seen
  got_above after o a b e f g = e ∙ ap (λ p. lesser key p b) f ∙ ap (λ p. lesser key (row_above key after spare) p) g ∙ above_of_both key after spare table was.spare_rises was.table_rises was.apart ∙ ap (row_above key after) view

  pub got_next : (p : X → Bool) (after : ℕ) (o a b : Option X) → o ≡ lesser key a b → a ≡ row_above key after (filter p spare) → b ≡ row_above key after (filter p table) → o ≡ row_above key after (filter p seen)
  got_next p after o a b e f g = e ∙ ap (λ q. lesser key q b) f ∙ ap (λ q. lesser key (row_above key after (filter p spare)) q) g ∙ next_of_both key p after spare table was.spare_rises was.table_rises was.apart ∙ ap (λ ys. row_above key after (filter p ys)) view

  -- a row more

  pub in_table : (new : X) (more : List X) → row_at key (key new) seen ≡ None → more ≡ with_row key new table → Shows key more spare (with_row key new seen)
  in_table new more none e = subst (λ t. Shows key t spare (with_row key new seen)) (sym e) (record {
    index = record {
      table_rises = IsRising-with_row key new table was.table_rises;
      spare_rises = was.spare_rises;
      apart = apart_with_second key new spare table was.apart (none_spare (key new) none);
    };
    rows = insert_second key new spare table was.table_rises (none_spare (key new) none) ∙ ap (with_row key new) view;
  })

  pub in_spare : (new : X) (same more : List X) → row_at key (key new) seen ≡ None → same ≡ table → more ≡ with_row key new spare → Shows key same more (with_row key new seen)
  in_spare new same more none f e = subst (λ t. Shows key t more (with_row key new seen)) (sym f) (subst (λ s. Shows key table s (with_row key new seen)) (sym e) (record {
    index = record {
      table_rises = was.table_rises;
      spare_rises = IsRising-with_row key new spare was.spare_rises;
      apart = apart_with_first key new spare table was.apart (none_table (key new) none);
    };
    rows = insert_first key new spare table was.table_rises ∙ ap (with_row key new) view;
  }))

  pub as_it_was : (same still : List X) → same ≡ table → still ≡ spare → Shows key same still seen
  as_it_was same still f e = subst (λ t. Shows key t still seen) (sym f) (subst (λ s. Shows key table s seen) (sym e) (record { index = was; rows = view }))

  -- a row less

  pub out_of_spare : (k : ℕ) (x : X) (fewer : List X) → Some x ≡ row_at key k spare → fewer ≡ drop_row key k spare → Shows key table fewer (drop_row key k seen)
  out_of_spare k x fewer there e = subst (λ s. Shows key table s (drop_row key k seen)) (sym e) (record {
    index = record {
      table_rises = was.table_rises;
      spare_rises = rising_drop key k spare was.spare_rises;
      apart = apart_drop_first key k spare table was.apart;
    };
    rows = drop_first key k spare table was.table_rises (was.apart k (ap is_some (sym there))) ∙ ap (drop_row key k) view;
  })

  pub out_of_table : (k : ℕ) (fewer still : List X) → None ≡ row_at key k spare → still ≡ drop_row key k spare → fewer ≡ drop_row key k table → Shows key fewer still (drop_row key k seen)
  out_of_table k fewer still none f e = subst (λ s. Shows key fewer s (drop_row key k seen)) (sym (f ∙ dropped_none key k spare (sym none))) (subst (λ t. Shows key t spare (drop_row key k seen)) (sym e) (record {
    index = record {
      table_rises = rising_drop key k table was.table_rises;
      spare_rises = was.spare_rises;
      apart = apart_drop_second key k spare table was.apart;
    };
    rows = drop_second key k spare table was.table_rises (sym none) ∙ ap (drop_row key k) view;
  }))

  -- another row in the place of one

  pub again_in_spare : (new old : X) (again : List X) → row_at key (key new) spare ≡ Some old → again ≡ put_row key new spare → Shows key table again (put_row key new seen)
  again_in_spare new old again there e = subst (λ s. Shows key table s (put_row key new seen)) (sym e) (record {
    index = record {
      table_rises = was.table_rises;
      spare_rises = rising_put key new spare was.spare_rises;
      apart = apart_put_first key new spare table was.apart;
    };
    rows = put_first key new spare table was.spare_rises was.table_rises (ap is_some there) ∙ ap (put_row key new) view;
  })

  module _ (new : X) (none : row_at key (key new) spare ≡ None) where
    seen_in_table : row_at key (key new) seen ≡ row_at key (key new) table
    seen_in_table = at_seen (key new) ∙ ap (λ o. first_some o (row_at key (key new) table)) none

    pub has_table : (same : X) → same ≡ new → is_some (row_at key (key new) seen) ≡ true → is_some (row_at key (key same) table) ≡ true
    has_table same s some = ap (λ x. is_some (row_at key (key x) table)) s ∙ ap is_some (sym seen_in_table) ∙ some

    pub again_in_table : (same : X) (still more : List X) → same ≡ new → still ≡ spare → more ≡ put_row key same table → Shows key more still (put_row key new seen)
    again_in_table same still more s f e = subst (λ ys. Shows key more ys (put_row key new seen)) (sym f) (subst (λ t. Shows key t spare (put_row key new seen)) (sym (e ∙ ap (λ x. put_row key x table) s)) (record {
      index = record {
        table_rises = rising_put key new table was.table_rises;
        spare_rises = was.spare_rises;
        apart = apart_put_second key new spare table was.apart;
      };
      rows = put_second key new spare table was.table_rises none ∙ ap (put_row key new) view;
    }))

    pub was_in_table : (same old : X) → same ≡ new → row_at key (key same) table ≡ Some old → row_at key (key new) seen ≡ Some old
    was_in_table same old s there = seen_in_table ∙ ap (λ x. row_at key (key x) table) (sym s) ∙ there

    -- it goes from the table to the spare rows
    pub moved : (j : ℕ) (row old : X) (still same fewer more : List X) → j ≡ key row → row ≡ new → still ≡ spare → same ≡ table → Some old ≡ row_at key j same → fewer ≡ drop_row key j same → more ≡ with_row key row still
        → Shows key fewer more (put_row key new seen) × (row_at key (key new) seen ≡ Some old)
    moved j row old still same fewer more js rs f t there g e = (
      subst (λ ys. Shows key fewer ys (put_row key new seen)) (sym whole) (subst (λ ts. Shows key ts (with_row key new spare) (put_row key new seen)) (sym left) (record {
        index = record {
          table_rises = rising_drop key (key new) table was.table_rises;
          spare_rises = IsRising-with_row key new spare was.spare_rises;
          apart = apart_with_first key new spare (drop_row key (key new) table) (apart_drop_second key (key new) spare table was.apart) (at_drop key (key new) table (key new) ∙ ap (λ b. cond b None (row_at key (key new) table)) own);
        };
        rows = put_moved key new spare table was.table_rises (ap is_some at) ∙ ap (put_row key new) view;
      })),
      seen_in_table ∙ at,
    )
      where
        jn : j ≡ key new
        jn = js ∙ ap key rs

        own : eqb (key new) (key new) ≡ true
        own = grind (arith, nat_tests)

        at : row_at key (key new) table ≡ Some old
        at = sym (there ∙ ap (row_at key j) t ∙ ap (λ n. row_at key n table) jn)

        whole : more ≡ with_row key new spare
        whole = e ∙ ap (λ z. with_row key z still) rs ∙ ap (with_row key new) f

        left : fewer ≡ drop_row key (key new) table
        left = g ∙ ap (drop_row key j) t ∙ ap (λ n. drop_row key n table) jn

-- the rows that a list names, where no row is spare
pub named_only : {X : Type 0} (key : X → ℕ) (table spare seen : List X) → with_all key spare table ≡ seen → (p : X → Bool) (ids : List ℕ) → spare ≡ []
    → filter p (rows_named key ids table) ≡ filter p table → filter p (rows_named key ids seen) ≡ filter p seen
named_only key table spare seen view p ids none e = subst (λ ys. filter p (rows_named key ids ys) ≡ filter p ys) (ap (λ xs. with_all key xs table) (sym none) ∙ view) e

-- what is seen of an index whose parts stayed
pub view_same : {X : Type 0} (key : X → ℕ) (table same : List X) (spare still now : RowsWithRoom X) → same ≡ table → still ≡ spare → record { rows = with_all key spare.rows table; room = spare.room } ≡ now
    → record { rows = with_all key still.rows same; room = still.room } ≡ now
view_same {X} key table same spare still now e f view = ap (λ (t : List X). seen still t) e ∙ ap (λ (s : RowsWithRoom X). seen s table) f ∙ view
  where
    seen : RowsWithRoom X → List X → RowsWithRoom X
    seen s t = record { rows = with_all key s.rows t; room = s.room }
