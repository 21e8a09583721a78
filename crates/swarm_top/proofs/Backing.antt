-- From what passes say to what is known of the whole history.
use Rattle.std.proofs.Common.{◌≡◌, ℕ, zero, suc, ◌+◌, ◌<◌, ◌≤◌, List, [], ◌∷◌, ◌++◌, length, take, get_or, refl, sym, ap, ◌∙◌, subst, arith}
use Rattle.std.specs.List.{All, Any}
use Rattle.std.proofs.lemmas.Option.{get_or_from_slice_get, slice_get-get_or}
use Rattle.swarm_input.specs.Streams.{Stream}
use Rattle.swarm_lines.proofs.Coming.{found}
use Rattle.swarm_lines.specs.Closing.{AreBack, IsDutyOf}
use Rattle.swarm_top.specs.Inside.Workers.{AreReady, HasRead, HasWorked, HaveRun, HaveWorked, IsReady}
use Rattle.swarm_lines.specs.declared.endings.Ending.{Ending}
use Rattle.swarm_loops.proofs.Adding.{adds_none}
use Rattle.swarm_loops.specs.Turns.{AddsTurns}
use Rattle.swarm_model.specs.Own.{own}
use Rattle.swarm_model.specs.Script.{share}
use Rattle.swarm_objects.specs.Rows.{Has}
use Rattle.swarm_objects.specs.declared.calls.Entry.{Entry}
use Rattle.turn_cell.specs.Entries.{Each, mine_of}
use Rattle.turn_cell.specs.Passes.{AgreesWith, IsNew, IsPassOf, mine, number_of, seen}
use Rattle.turn_cell.specs.declared.cell.TurnCell.{TurnCell}
use Rattle.turn_cell.specs.declared.pass.Pass.{Pass}
use Rattle.turn_cell.specs.declared.work.Counted.{Ghosts}

take_none : {X : Type 0} (ys : List X) → take 0 ys ≡ []
take_none [] = refl
take_none (y ∷ ys) = refl

take_first : {X : Type 0} (xs ys : List X) → take (length xs) (xs ++ ys) ≡ xs
take_first [] ys = take_none ys
take_first (x ∷ xs) ys = ap (λ l. x ∷ l) (take_first xs ys)

lent : {X : Type 0} (n : ℕ) (xs ys : List X) → length xs ≡ n → take n (xs ++ ys) ≡ xs
lent n xs ys long = ap (λ (k : ℕ). take k (xs ++ ys)) (sym long) ∙ take_first xs ys

module _ {V : Type 0} {C : Ghosts V Entry} where
  -- New passes.

  pub are_new : (cell : TurnCell V Entry) (p : Pass V Entry C) (ps : List (Pass V Entry C)) → Each (IsNew cell) (p ∷ ps) →
      AreReady cell ps
  are_new cell p ps each k d below =
      let new = each (suc k) (get_or ps k d) (slice_get-get_or (p ∷ ps) (suc k) d (omega (arith, below))) in
      record { cell_is = new.0; number = new.1 ∙ omega arith; empty = new.3 }

  -- the passes of a new cluster, caller 0's and the others
  pub others_new : (cell : TurnCell V Entry) (p : Pass V Entry C) (ps passes : List (Pass V Entry C)) → passes ≡ p ∷ ps →
      Each (IsNew cell) passes → AreReady cell ps
  others_new cell p ps passes is each =
      are_new cell p ps (subst (λ (l : List (Pass V Entry C)). Each (IsNew cell) l) is each)

  pub first_new : (cell : TurnCell V Entry) (p : Pass V Entry C) (ps passes : List (Pass V Entry C)) → passes ≡ p ∷ ps →
      Each (IsNew cell) passes → IsPassOf cell p × (number_of p ≡ 0) × (own 0 (seen p) ≡ [])
  first_new cell p ps passes is each =
      let new = (subst (λ (l : List (Pass V Entry C)). Each (IsNew cell) l) is each) 0 p refl in
      (new.0, new.1, ap (own 0) new.2)

  -- A worker.

  pub has_worked : (cell : TurnCell V Entry) (workers n : ℕ) (p q : Pass V Entry C) → IsReady cell n p →
      IsPassOf cell q → number_of q ≡ number_of p → AddsTurns (share (number_of p) workers) (mine p) (mine q) (seen q) →
      HasWorked cell workers n q
  has_worked cell workers n p q ready of_cell same adds = record {
    cell_is = of_cell;
    number = same ∙ ready.number;
    adds =
        subst (λ (k : ℕ). AddsTurns (share k workers) [] (mine q) (seen q)) ready.number
        (subst (λ (l : List (ℕ × Entry)). AddsTurns (share (number_of p) workers) l (mine q) (seen q)) ready.empty adds);
  }

  pub has_idled : (cell : TurnCell V Entry) (workers n : ℕ) (p : Pass V Entry C) → IsReady cell n p →
      HasWorked cell workers n p
  has_idled cell workers n p ready = record {
    cell_is = ready.cell_is;
    number = ready.number;
    adds =
        subst (λ (l : List (ℕ × Entry)). AddsTurns (share n workers) l (mine p) (seen p)) ready.empty
        (adds_none (share n workers) (mine p) (seen p));
  }

  -- All passes.

  pub have_run : (cell : TurnCell V Entry) (workers : ℕ) (ending : Ending) (script out : Stream) (p : Pass V Entry C)
      (ps : List (Pass V Entry C)) → length ps ≡ workers → HasRead cell ending script out p →
      HaveWorked cell workers ps → HaveRun cell workers ending script out (p ∷ ps)
  have_run cell workers ending script out p ps long read worked = record {
    count = omega (arith, long);
    cells = cell_of;
    numbers = number_at;
    first = λ d. read;
    others = other_at;
  }
    where
      cell_of : (k : ℕ) (d : Pass V Entry C) → k < length (p ∷ ps) → IsPassOf cell (get_or (p ∷ ps) k d)
      cell_of zero d below = read.cell_is
      cell_of (suc k) d below = (worked k d (omega arith)).cell_is

      number_at : (k : ℕ) (d : Pass V Entry C) → k < length (p ∷ ps) → number_of (get_or (p ∷ ps) k d) ≡ k
      number_at zero d below = read.number
      number_at (suc k) d below = (worked k d (omega arith)).number ∙ omega arith

      other_at : (k : ℕ) (d : Pass V Entry C) → 0 < k → k < length (p ∷ ps) →
          HasWorked cell workers k (get_or (p ∷ ps) k d)
      other_at zero d some below = absurd (omega (arith, some))
      other_at (suc k) d some below =
          subst (λ (n : ℕ). HasWorked cell workers n (get_or ps k d)) (omega arith) (worked k d (omega arith))

  -- Closing.

  -- in the list that lent them
  pub lent_run : (cell : TurnCell V Entry) (workers : ℕ) (ending : Ending) (script out : Stream) (n : ℕ)
      (xs ys : List (Pass V Entry C)) → length xs ≡ n → HaveRun cell workers ending script out xs →
      HaveRun cell workers ending script out (take n (xs ++ ys))
  lent_run cell workers ending script out n xs ys long run =
      subst (HaveRun cell workers ending script out) (sym (lent n xs ys long)) run

  pub every_number : (cell : TurnCell V Entry) (workers : ℕ) (ending : Ending) (script out : Stream)
      (passes : List (Pass V Entry C)) → HaveRun cell workers ending script out passes → (n : ℕ) → n < workers + 1 →
      Any (λ p. number_of p ≡ n) passes
  every_number cell workers ending script out [] run n below = absurd (let count = run.count in omega arith)
  every_number cell workers ending script out (p ∷ ps) run n below =
      let within : n < length (p ∷ ps) = (let count = run.count in omega (arith, count, below)) in
      let q = get_or (p ∷ ps) n p in
      (n, q, within, get_or_from_slice_get (p ∷ ps) n q q (slice_get-get_or (p ∷ ps) n p within), run.numbers n p within)

  shares_of : (cell : TurnCell V Entry) (workers n : ℕ) (H : List Entry) (p : Pass V Entry C) →
      HasWorked cell workers n p → mine_of (λ e. e.by) n H ≡ mine p → (m : ℕ × Entry) →
      Has (mine_of (λ e. e.by) n H) m → IsDutyOf (share n workers) m.1
  shares_of cell workers n H p worked same m h =
      let turns = worked.adds in
      let is : mine_of (λ e. e.by) n H ≡ turns.turns = same ∙ turns.adds in
      let turn = turns.are_turns m (subst (λ (l : List (ℕ × Entry)). Has l m) is h) in
      (turn.duty, turn.is_duty, turn.shared)

  pub are_back : (cell : TurnCell V Entry) (workers : ℕ) (ending : Ending) (script out : Stream)
      (passes : List (Pass V Entry C)) (H : List Entry) →
      HaveRun cell workers ending script out passes → All (λ p. AgreesWith p H) passes →
      ((n : ℕ) → workers + 1 ≤ n → mine_of (λ e. e.by) n H ≡ []) → C.caller ≡ (λ e. e.by) →
      AreBack workers ending script out H
  are_back cell workers ending script out [] H run agrees none by = absurd (let count = run.count in omega arith)
  are_back cell workers ending script out (p ∷ ps) H run agrees none by =
      let read = run.first p in
      let first = agrees 0 p (omega arith) in
      record {
        now = read.now;
        read = read.read;
        last = seen p;
        halts = read.halts;
        stays = found (number_of p) (seen p) H (
          read.number,
          first.0.0,
          subst (λ (f : Entry → ℕ). mine_of f (number_of p) H ≡ mine_of f (number_of p) (seen p)) by first.1,
        );
        shared = record {
          none = none;
          shares = λ n some few.
              let count = run.count in
              let within : n < length (p ∷ ps) = omega (arith, count, few) in
              let q = get_or (p ∷ ps) n p in
              shares_of cell workers n H q (run.others n p some within)
              (ap (λ (f : Entry → ℕ). mine_of f n H) (sym by)
              ∙ ap (λ (k : ℕ). mine_of C.caller k H) (sym (run.numbers n p within))
              ∙ (agrees n p within).1);
        };
      }
