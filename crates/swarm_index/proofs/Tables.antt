-- A table of rows after its map changed.
use Rattle.std.proofs.Common.{◌≡◌, ℕ, Bool, false, List, Option, Some, None, true, refl, sym, ap, ◌∙◌, subst}
use Rattle.std.specs.BTreeMap.{insert_entry, is_at}
use Rattle.std.specs.BTreeMap.Range.{entries_between}
use Rattle.std.specs.HashMap.{HashMap}
use Rattle.std.specs.Map.{lookup, remove_entry, set_value, values_of}
use Rattle.std.specs.Option.{option_map}
use Rattle.std.specs.Ordering.{nat_cmp}
use Rattle.std.specs.Prelude.{Err, IsTrue, Ok, OnOk, Result, is_err, is_some, map}
use Rattle.std.specs.declared.ops.Bound.TheVariants.{Excluded, Unbounded}
use Rattle.swarm_index.proofs.RowsAt.{rising_drop, rising_put}
use Rattle.swarm_index.proofs.Trees.{between_rows, insert_rows, lookup_rows, remove_rows, set_rows, values_rows}
use Rattle.swarm_index.proofs.MarkLemmas.{marked_put, marked_with, marked_without, none_of_fresh}
use Rattle.swarm_index.specs.Inside.Boxes.{row_of}
use Rattle.swarm_index.specs.Inside.Marks.{AddsMarks, AreMarksOf, DropsMarks, ExchangesMarks, HasNone, IsTable, KeepsMarks, fresh_digests, is_mark, with_id}
use Rattle.swarm_objects.proofs.RowLemmas.{Has-from_row_at}
use Rattle.swarm_index.specs.Keys.{KeyValue}
use Rattle.swarm_objects.proofs.Gaps.{IsRising-with_row}
use Rattle.swarm_objects.specs.Rows.{IsRising, drop_row, first_of, put_row, row_above, row_at, with_row}

module _ {R S : Type 0} (id_of : R → ℕ) (key_of : ℕ → R → Option KeyValue) (count : ℕ) where
  -- a map that has these rows
  pub table_of : (rows : List (ℕ × R)) (marks : HashMap (ℕ × ℕ) (List ℕ) S) (xs : List R) → rows ≡ map (with_id id_of) xs → IsRising id_of xs → AreMarksOf id_of key_of count xs marks → IsTable id_of key_of count rows marks
  table_of rows marks xs e r are =
      let same : values_of rows ≡ xs = ap values_of e ∙ values_rows id_of xs in
      record {
        by_id = e ∙ ap (map (with_id id_of)) (sym same);
        rising = subst (λ ys. IsRising id_of ys) (sym same) r;
        marked = subst (λ ys. AreMarksOf id_of key_of count ys marks) (sym same) are;
      }

pub values_are : {R : Type 0} (id_of : R → ℕ) (entries : List (ℕ × R)) (xs : List R) → entries ≡ map (with_id id_of) xs → values_of entries ≡ xs
values_are id_of entries xs e = ap values_of e ∙ values_rows id_of xs

module _ {R : Type 0} (id_of : R → ℕ) (old : List (ℕ × R)) (by_id : old ≡ map (with_id id_of) (values_of old)) where
  pub inserted : (new : List (ℕ × R)) (id : ℕ) (row : R) → id ≡ id_of row → new ≡ insert_entry nat_cmp old id row → new ≡ map (with_id id_of) (with_row id_of row (values_of old))
  inserted new id row is e = e ∙ ap (λ es. insert_entry nat_cmp es id row) by_id ∙ ap (λ n. insert_entry nat_cmp (map (with_id id_of) (values_of old)) n row) is ∙ insert_rows id_of row (values_of old)

  pub removed : (new : List (ℕ × R)) (id : ℕ) → IsRising id_of (values_of old) → new ≡ remove_entry (is_at (nat_cmp id)) old → new ≡ map (with_id id_of) (drop_row id_of id (values_of old))
  removed new id r e = e ∙ ap (remove_entry (is_at (nat_cmp id))) by_id ∙ remove_rows id_of id (values_of old) r

  pub found_at : (id : ℕ) → lookup (is_at (nat_cmp id)) old ≡ row_at id_of id (values_of old)
  found_at id = ap (lookup (is_at (nat_cmp id))) by_id ∙ lookup_rows id_of id (values_of old)

  first_above : (after : ℕ) → first_of (entries_between nat_cmp (Excluded after) Unbounded old) ≡ option_map (with_id id_of) (row_above id_of after (values_of old))
  first_above after = ap (λ es. first_of (entries_between nat_cmp (Excluded after) Unbounded es)) by_id ∙ between_rows id_of after (values_of old)

  pub next_row : (after : ℕ) → option_map row_of (first_of (entries_between nat_cmp (Excluded after) Unbounded old)) ≡ row_above id_of after (values_of old)
  next_row after = ap (option_map row_of) (first_above after) ∙ go (row_above id_of after (values_of old))
    where
      go : (o : Option R) → option_map row_of (option_map (with_id id_of) o) ≡ o
      go None = refl
      go (Some x) = refl

-- what is said of the Ok of a call that didn't fail
pub ok_fact : {T E : Type 0} (r : Result T E) (b : Bool) (P : Type 0) → b ≡ is_err r → b ≡ false → OnOk r P → P
ok_fact (Ok x) b P e f p = p
ok_fact (Err x) b P e f p = let no : true ≡ false = sym e ∙ f in absurd cc

pub is_there : {X : Type 0} (o : Option X) → None ≡ o → IsTrue (is_some o) → ⊥
is_there {X} o e t = let no : IsTrue (is_some {T = X} None) = subst (λ p. IsTrue (is_some p)) (sym e) t in no_truth no
  where
    no_truth : IsTrue false → ⊥
    no_truth h = absurd cc

module _ {R S : Type 0} (id_of : R → ℕ) (key_of : ℕ → R → Option KeyValue) (count : ℕ) (rows next : List (ℕ × R)) (seen : List R) (view : values_of rows ≡ seen) where
  pub inserted_table : (marks more : HashMap (ℕ × ℕ) (List ℕ) S) (id : ℕ) (row : R) → IsTable id_of key_of count rows marks → row_at id_of (id_of row) seen ≡ None → id ≡ id_of row → next ≡ insert_entry nat_cmp rows id row
      → AddsMarks marks more (is_mark (fresh_digests key_of row None) count (id_of row)) → IsTable id_of key_of count next more × (values_of next ≡ with_row id_of row seen)
  inserted_table marks more id row was none is e adds =
      let f : next ≡ map (with_id id_of) (with_row id_of row seen) = inserted id_of rows was.by_id next id row is e ∙ ap (λ ys. map (with_id id_of) (with_row id_of row ys)) view in
      let r : IsRising id_of seen = subst (λ ys. IsRising id_of ys) view was.rising in
      let m : AreMarksOf id_of key_of count seen marks = subst (λ ys. AreMarksOf id_of key_of count ys marks) view was.marked in
      (table_of id_of key_of count next more (with_row id_of row seen) f (IsRising-with_row id_of row seen r) (marked_with id_of key_of count seen marks more row m none adds), values_are id_of next (with_row id_of row seen) f)

  pub removed_table : (marks fewer : HashMap (ℕ × ℕ) (List ℕ) S) (id n : ℕ) (row : R) → IsTable id_of key_of count rows marks → Some row ≡ lookup (is_at (nat_cmp id)) rows → next ≡ remove_entry (is_at (nat_cmp id)) rows
      → n ≡ count → DropsMarks marks fewer (is_mark (fresh_digests key_of row None) n (id_of row)) → IsTable id_of key_of count next fewer × (values_of next ≡ drop_row id_of id seen) × (Some row ≡ row_at id_of id seen)
  removed_table marks fewer id n row was there e all drops =
      let f : next ≡ map (with_id id_of) (drop_row id_of id seen) = removed id_of rows was.by_id next id was.rising e ∙ ap (λ ys. map (with_id id_of) (drop_row id_of id ys)) view in
      let r : IsRising id_of seen = subst (λ ys. IsRising id_of ys) view was.rising in
      let m : AreMarksOf id_of key_of count seen marks = subst (λ ys. AreMarksOf id_of key_of count ys marks) view was.marked in
      let at : Some row ≡ row_at id_of id seen = there ∙ found_at id_of rows was.by_id id ∙ ap (row_at id_of id) view in
      let is : id_of row ≡ id = (Has-from_row_at id_of id seen row (sym at)).1 in
      let d : DropsMarks marks fewer (is_mark (fresh_digests key_of row None) count id) = subst (λ k. DropsMarks marks fewer (is_mark (fresh_digests key_of row None) count k)) is (subst (λ k. DropsMarks marks fewer (is_mark (fresh_digests key_of row None) k (id_of row))) all drops) in
      (table_of id_of key_of count next fewer (drop_row id_of id seen) f (rising_drop id_of id seen r) (marked_without id_of key_of count seen marks fewer row id m (sym at) d), values_are id_of next (drop_row id_of id seen) f, at)

  pub nothing_removed : (marks : HashMap (ℕ × ℕ) (List ℕ) S) (id : ℕ) → IsTable id_of key_of count rows marks → None ≡ lookup (is_at (nat_cmp id)) rows → next ≡ remove_entry (is_at (nat_cmp id)) rows
      → (values_of next ≡ drop_row id_of id seen) × (None ≡ row_at id_of id seen)
  nothing_removed marks id was there e =
      let f : next ≡ map (with_id id_of) (drop_row id_of id seen) = removed id_of rows was.by_id next id was.rising e ∙ ap (λ ys. map (with_id id_of) (drop_row id_of id ys)) view in
      (values_are id_of next (drop_row id_of id seen) f, there ∙ found_at id_of rows was.by_id id ∙ ap (row_at id_of id) view)

  pub put_table : (marks fewer : HashMap (ℕ × ℕ) (List ℕ) S) (row old : R) → IsTable id_of key_of count rows marks → lookup (is_at (nat_cmp (id_of row))) rows ≡ Some old → next ≡ set_value (is_at (nat_cmp (id_of row))) rows row
      → ExchangesMarks marks fewer (is_mark (fresh_digests key_of row (Some old)) count (id_of row)) (is_mark (fresh_digests key_of old (Some row)) count (id_of old))
      → IsTable id_of key_of count next fewer × (values_of next ≡ put_row id_of row seen) × (row_at id_of (id_of row) seen ≡ Some old)
  put_table marks fewer row old was there e exchanges =
      let r : IsRising id_of seen = subst (λ ys. IsRising id_of ys) view was.rising in
      let m : AreMarksOf id_of key_of count seen marks = subst (λ ys. AreMarksOf id_of key_of count ys marks) view was.marked in
      let here : row_at id_of (id_of row) seen ≡ Some old = sym (found_at id_of rows was.by_id (id_of row) ∙ ap (row_at id_of (id_of row)) view) ∙ there in
      let same : id_of old ≡ id_of row = (Has-from_row_at id_of (id_of row) seen old here).1 in
      let f : next ≡ map (with_id id_of) (put_row id_of row seen) = e ∙ ap (λ es. set_value (is_at (nat_cmp (id_of row))) es row) was.by_id ∙ set_rows id_of row (values_of rows) was.rising ∙ ap (λ ys. map (with_id id_of) (put_row id_of row ys)) view in
      let x : ExchangesMarks marks fewer (is_mark (fresh_digests key_of row (Some old)) count (id_of row)) (is_mark (fresh_digests key_of old (Some row)) count (id_of row)) = subst (λ k. ExchangesMarks marks fewer (is_mark (fresh_digests key_of row (Some old)) count (id_of row)) (is_mark (fresh_digests key_of old (Some row)) count k)) same exchanges in
      (table_of id_of key_of count next fewer (put_row id_of row seen) f (rising_put id_of row seen r) (marked_put id_of key_of count seen marks fewer row old (id_of row) m refl here x), values_are id_of next (put_row id_of row seen) f, here)

  pub kept_table : (marks same : HashMap (ℕ × ℕ) (List ℕ) S) → IsTable id_of key_of count rows marks → next ≡ rows → KeepsMarks marks same → IsTable id_of key_of count next same
  kept_table marks same was e kept = subst (λ es. IsTable id_of key_of count es same) (sym e) (record {
    by_id = was.by_id;
    rising = was.rising;
    marked = λ w d i. kept w d i ∙ was.marked w d i;
  })

  pub none_fresh : (marks : HashMap (ℕ × ℕ) (List ℕ) S) (row : R) → IsTable id_of key_of count rows marks → is_some (row_at id_of (id_of row) seen) ≡ true → HasNone marks (is_mark (fresh_digests key_of row (lookup (is_at (nat_cmp (id_of row))) rows)) count (id_of row))
  none_fresh marks row was there = go (row_at id_of (id_of row) seen) refl there
    where
      at : lookup (is_at (nat_cmp (id_of row))) rows ≡ row_at id_of (id_of row) seen
      at = found_at id_of rows was.by_id (id_of row) ∙ ap (row_at id_of (id_of row)) view

      go : (o : Option R) → row_at id_of (id_of row) seen ≡ o → is_some o ≡ true → HasNone marks (is_mark (fresh_digests key_of row (lookup (is_at (nat_cmp (id_of row))) rows)) count (id_of row))
      go None e t = absurd cc
      go (Some old) e t = subst (λ o. HasNone marks (is_mark (fresh_digests key_of row o) count (id_of row))) (sym (at ∙ e))
          (none_of_fresh id_of key_of count seen marks row old (id_of row) (subst (λ ys. AreMarksOf id_of key_of count ys marks) view was.marked) e)

  pub marks_seen : (marks : HashMap (ℕ × ℕ) (List ℕ) S) → IsTable id_of key_of count rows marks → AreMarksOf id_of key_of count seen marks × IsRising id_of seen
  marks_seen marks was = (subst (λ ys. AreMarksOf id_of key_of count ys marks) view was.marked, subst (λ ys. IsRising id_of ys) view was.rising)
