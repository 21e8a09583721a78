-- Events that no watcher waits for are given up one after the other, and nobody's waiting events change.
use Rattle.std.proofs.Common.{◌≡◌, ℕ, ◌+◌, ◌-◌, ◌<◌, ◌≤◌, suc, Bool, true, false, cond, nat_lt, nat_le, List, [], ◌∷◌, ◌++◌, length, get_or, set, take, drop, refl, sym, ap, ◌∙◌, subst, arith, append-nil, append_assoc, length-set}
use Rattle.std.specs.Prelude.{filter, map, ◌||◌, ◌&&◌}
use Rattle.std.proofs.Math.Seq.{drop-append-add}
use Rattle.std.proofs.lemmas.Bool.Decides.{nat_tests}
use Rattle.std.proofs.lemmas.List.{drop-append-le, drop-set-lt, length-take-le, take-append-drop, take_more_set, drop_all}
use Rattle.std.proofs.lemmas.List.Elements.{filter-append}
use Rattle.swarm_objects.specs.Watches.{filter_admits}
use Rattle.swarm_objects.proofs.RowLemmas.{drop_next}
use Rattle.swarm_objects.specs.declared.watches.Event.{Event}
use Rattle.swarm_watch.proofs.Moving.{distinct_back, waited_append, waited_back, within_back}
use Rattle.swarm_watch.specs.Inside.Cursors.{AreDistinct, AreWaited, AreWithin, IsSwept, IsTidy, is_waited_at, stepped_back, waits_at, watching_at, watchings}
use Rattle.swarm_watch.specs.Watchings.{Watching, waiting_of}
use Rattle.swarm_watch.specs.declared.cursors.Cursor.{Cursor}

-- One event.

drop_past : {X : Type 0} (a : List X) (x : X) (b : List X) (n : ℕ) → length a < n → drop (n - 1) (a ++ b) ≡ drop n (a ++ x ∷ b)
drop_past a x b n lt =
    let e : n - 1 ≡ length a + (n - 1 - length a) = omega arith in
    let f : n ≡ length a + suc (n - 1 - length a) = omega arith in
    ap (λ k. drop k (a ++ b)) e ∙ drop-append-add a b (n - 1 - length a)
    ∙ sym (ap (λ k. drop k (a ++ x ∷ b)) f ∙ drop-append-add a (x ∷ b) (suc (n - 1 - length a)))

or_false : (u v : Bool) → (u || v) ≡ false → (u ≡ false) × (v ≡ false)
or_false true v e = absurd cc
or_false false v e = (refl, e)

and_true : (u v : Bool) → u ≡ true → (u && v) ≡ false → v ≡ false
and_true true v t e = e
and_true false v t e = absurd cc

-- what waits for a watcher that doesn't wait for it
same_waiting : (a : List Event) (e : Event) (b : List Event) (x : Cursor) → waits_at (length a) e x ≡ false →
    watching_at (a ++ b) (stepped_back (length a) x) ≡ watching_at (a ++ e ∷ b) x
same_waiting a e b x none = go (nat_lt (length a) x.from) refl
  where
    p : Event → Bool
    p = filter_admits x.filter

    seen : List Event → Watching
    seen es = record { id = x.id; filter = x.filter; waiting = waiting_of es }

    go : (v : Bool) → nat_lt (length a) x.from ≡ v →
        watching_at (a ++ b) (cond v (record x { from = x.from - 1 }) x) ≡ watching_at (a ++ e ∷ b) x
    go true t = let lt : length a < x.from = grind (arith, nat_tests) in ap (λ es. seen (filter p es)) (drop_past a e b x.from lt)
    go false t =
        let le : x.from ≤ length a = grind (arith, nat_tests) in
        let test : nat_le x.from (length a) ≡ true = grind (arith, nat_tests) in
        let out : p e ≡ false = and_true (nat_le x.from (length a)) (p e) test none in
        ap (λ es. seen (filter p es)) (drop-append-le x.from a b le)
        ∙ ap seen (filter-append p (drop x.from a) b
        ∙ ap (λ v. filter p (drop x.from a) ++ cond v (e ∷ filter p b) (filter p b)) (sym out)
        ∙ sym (filter-append p (drop x.from a) (e ∷ b)))
        ∙ ap (λ es. seen (filter p es)) (sym (drop-append-le x.from a (e ∷ b) le))

same_watchings : (a : List Event) (e : Event) (b : List Event) (xs : List Cursor) → is_waited_at xs (length a) e ≡ false →
    watchings (a ++ b) (map (stepped_back (length a)) xs) ≡ watchings (a ++ e ∷ b) xs
same_watchings a e b [] none = refl
same_watchings a e b (x ∷ xs) none =
    let h = or_false (waits_at (length a) e x) (is_waited_at xs (length a) e) none in
    ap (λ w. w ∷ watchings (a ++ b) (map (stepped_back (length a)) xs)) (same_waiting a e b x h.0)
    ∙ ap (λ ws. watching_at (a ++ e ∷ b) x ∷ ws) (same_watchings a e b xs h.1)

-- Those from a place on: the events up to `end` stay, those before `place` were looked at, and between the two nothing is.

pub record Sweeps (xs₀ xs : List Cursor) (kept₀ kept : List Event) (end place : ℕ) : Type 0 where
  pub order : end ≤ place
  pub inside : place ≤ length kept
  pub distinct : AreDistinct xs
  pub within : AreWithin (end + (length kept - place)) xs
  pub waited : AreWaited xs 0 (take end kept)
  pub same : watchings (take end kept ++ drop place kept) xs ≡ watchings kept₀ xs₀

pub sweeps_start : (xs : List Cursor) (kept : List Event) (start : ℕ) → start ≤ length kept → IsSwept xs kept start →
    Sweeps xs xs kept kept start start
sweeps_start xs kept start le is = record {
  order = omega arith;
  inside = le;
  distinct = is.distinct;
  within = let e : length kept ≡ start + (length kept - start) = omega arith in subst (λ n. AreWithin n xs) e is.within;
  waited = is.waited;
  same = ap (λ es. watchings es xs) (take-append-drop start kept);
}

pub sweeps_keep : (xs₀ xs : List Cursor) (kept₀ kept : List Event) (end place : ℕ) (e : Event) → Sweeps xs₀ xs kept₀ kept end place →
    place < length kept → e ≡ get_or kept place e → is_waited_at xs end e ≡ true →
    Sweeps xs₀ xs kept₀ (set kept end e) (end + 1) (place + 1)
sweeps_keep xs₀ xs kept₀ kept end place e s lt is waits =
    let order = s.order in
    let size : length (set kept end e) ≡ length kept = length-set kept end e in
    let front : take (end + 1) (set kept end e) ≡ take end kept ++ e ∷ [] = take_more_set kept end e (omega arith) in
    let rest : drop (place + 1) (set kept end e) ≡ drop (place + 1) kept = drop-set-lt (place + 1) kept end e (omega arith) in
    let long : length (take end kept) ≡ end = length-take-le end kept (omega arith) in
    record {
      order = omega arith;
      inside = omega arith;
      distinct = s.distinct;
      within =
          let n : end + (length kept - place) ≡ end + 1 + (length (set kept end e) - (place + 1)) = omega arith in
          subst (λ k. AreWithin k xs) n s.within;
      waited =
          subst (AreWaited xs 0) (sym front)
          (waited_append xs 0 (take end kept) (e ∷ []) s.waited (ap (λ k. is_waited_at xs k e) (omega arith) ∙ waits, tt));
      same =
          ap (λ es. watchings es xs)
          (ap (λ es. es ++ drop (place + 1) (set kept end e)) front
          ∙ ap (λ es. (take end kept ++ e ∷ []) ++ es) rest
          ∙ append_assoc (take end kept) (e ∷ []) (drop (place + 1) kept)
          ∙ ap (λ es. take end kept ++ es) (sym (drop_next kept place e lt is)))
          ∙ s.same;
    }

pub sweeps_drop : (xs₀ xs : List Cursor) (kept₀ kept : List Event) (end place : ℕ) (e : Event) → Sweeps xs₀ xs kept₀ kept end place →
    place < length kept → e ≡ get_or kept place e → is_waited_at xs end e ≡ false →
    Sweeps xs₀ (map (stepped_back end) xs) kept₀ kept end (place + 1)
sweeps_drop xs₀ xs kept₀ kept end place e s lt is none =
    let order = s.order in
    let long : length (take end kept) ≡ end = length-take-le end kept (omega arith) in
    record {
      order = omega arith;
      inside = omega arith;
      distinct = distinct_back end xs s.distinct;
      within =
          let n : end + (length kept - place) ≡ suc (end + (length kept - (place + 1))) = omega arith in
          within_back end (end + (length kept - (place + 1))) xs (omega arith) (subst (λ k. AreWithin k xs) n s.within);
      waited = waited_back end xs 0 (take end kept) (omega arith) s.waited;
      same =
          ap (λ k. watchings (take end kept ++ drop (place + 1) kept) (map (stepped_back k) xs)) (sym long)
          ∙ same_watchings (take end kept) e (drop (place + 1) kept) xs (ap (λ k. is_waited_at xs k e) long ∙ none)
          ∙ ap (λ es. watchings (take end kept ++ es) xs) (sym (drop_next kept place e lt is))
          ∙ s.same;
    }

pub sweeps_tidy : (xs₀ xs : List Cursor) (kept₀ kept : List Event) (end place : ℕ) → Sweeps xs₀ xs kept₀ kept end place →
    length kept ≤ place → IsTidy xs (take end kept)
sweeps_tidy xs₀ xs kept₀ kept end place s all =
    let order = s.order in
    let inside = s.inside in
    let long : length (take end kept) ≡ end = length-take-le end kept (omega arith) in
    record {
      distinct = s.distinct;
      within =
          let n : end + (length kept - place) ≡ length (take end kept) = omega arith in
          subst (λ k. AreWithin k xs) n s.within;
      waited = s.waited;
    }

pub sweeps_same : (xs₀ xs : List Cursor) (kept₀ kept : List Event) (end place : ℕ) → Sweeps xs₀ xs kept₀ kept end place →
    length kept ≤ place → watchings (take end kept) xs ≡ watchings kept₀ xs₀
sweeps_same xs₀ xs kept₀ kept end place s all =
    ap (λ es. watchings es xs) (sym (ap (λ es. take end kept ++ es) (drop_all place kept all) ∙ append-nil (take end kept))) ∙ s.same
