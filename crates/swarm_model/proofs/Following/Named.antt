-- The duties that the settle test names one after the other.
use Rattle.std.proofs.Common.{◌≡◌, ℕ, zero, suc, ◌+◌, ◌≤◌, ◌<◌, List, [], ◌∷◌, take, length, Bool, true, false, cond, ◌&&◌, refl, Option, Some, None, sym, ap, subst, arith}
use Rattle.std.specs.Prelude.{is_some}
use Rattle.std.specs.List.{list_all}
use Rattle.std.proofs.lemmas.List.Sums.{sum_by-cons, sum_by-take-le}
use Rattle.swarm_model.specs.Follows.{AreDuties}
use Rattle.swarm_model.specs.History.{replay_from, step_world}
use Rattle.swarm_model.specs.Script.{is_busy, is_duty_entry, is_own_duty, own_duties, own_duty}
use Rattle.swarm_model.specs.Serial.{settle_entries}
use Rattle.swarm_model.specs.Settle.{settle_answer}
use Rattle.swarm_objects.specs.Kinds.{duty_named}
use Rattle.swarm_objects.specs.World.{World}
use Rattle.swarm_objects.specs.declared.calls.Entry.{Entry}
use Rattle.swarm_objects.specs.declared.duties.Duty.{Duty}

named_step : (w : World) (n : ℕ) (named : Option Duty) → duty_named (settle_answer w) ≡ named →
    settle_entries (suc n) w ≡ elim named [
      | Some d ↦ own_duty d ∷ settle_entries n (step_world w (own_duty d))
      | None ↦ []
    ]
named_step w n named e = ap (λ (o : Option Duty). elim o [
  | Some d ↦ own_duty d ∷ settle_entries n (step_world w (own_duty d))
  | None ↦ []
]) e

pub busy_step : (w : World) (n : ℕ) (d : Duty) → duty_named (settle_answer w) ≡ Some d →
    settle_entries (suc n) w ≡ own_duty d ∷ settle_entries n (step_world w (own_duty d))
busy_step w n d e = named_step w n (Some d) e

pub idle_step : (w : World) (n : ℕ) → duty_named (settle_answer w) ≡ None → settle_entries n w ≡ []
idle_step w zero e = refl
idle_step w (suc n) e = named_step w n None e

named_none : (o : Option Duty) → is_some o ≡ false → o ≡ None
named_none None e = refl
named_none (Some d) e = cc

-- where nothing is to be done, there are none
pub none_named : (w : World) (n : ℕ) → is_busy w ≡ false → settle_entries n w ≡ []
none_named w n idle = idle_step w n (named_none (duty_named (settle_answer w)) idle)

-- at most so many duties, and fewer only where nothing is left to be done
pub record Settles (n : ℕ) (w : World) (es : List Entry) : Type 0 where
  pub are_duties : AreDuties es
  pub most : own_duties es ≤ n
  pub idle : own_duties es < n → is_busy (replay_from w es) ≡ false

pub count-cons : (e : Entry) (es : List Entry) → own_duties (e ∷ es) ≡ cond (is_own_duty e) 1 0 + own_duties es
count-cons e es = sum_by-cons (λ x. cond (is_own_duty x) 1 0) e es

settles_more : (n : ℕ) (w : World) (d : Duty) (es : List Entry) → Settles n (step_world w (own_duty d)) es →
    Settles (suc n) w (own_duty d ∷ es)
settles_more n w d es rest = record {
  are_duties = rest.are_duties;
  most = omega (arith, count-cons (own_duty d) es, rest.most);
  idle = λ less. rest.idle (omega (arith, count-cons (own_duty d) es, less));
}

settles_next : (n : ℕ) (w : World) (named : Option Duty) → duty_named (settle_answer w) ≡ named →
    ((v : World) → Settles n v (settle_entries n v)) → Settles (suc n) w (settle_entries (suc n) w)
settles_next n w (Some d) e rest =
    subst (Settles (suc n) w) (sym (busy_step w n d e))
    (settles_more n w d (settle_entries n (step_world w (own_duty d))) (rest (step_world w (own_duty d))))
settles_next n w None e rest = subst (Settles (suc n) w) (sym (idle_step w (suc n) e))
    (record { are_duties = refl; most = omega arith; idle = λ less. ap is_some e })

pub settles : (n : ℕ) (w : World) → Settles n w (settle_entries n w)
settles zero w = record { are_duties = refl; most = omega arith; idle = λ less. absurd {0} (omega (arith, less)) }
settles (suc n) w = settles_next n w (duty_named (settle_answer w)) refl (λ v. settles n v)

-- The first of some duties.

pub duties_take : (k : ℕ) (es : List Entry) → AreDuties es → AreDuties (take k es)
duties_take zero es are = refl
duties_take (suc k) [] are = refl
duties_take (suc k) (e ∷ es) are = go (is_duty_entry e.what) are (duties_take k es)
  where
    go : (b : Bool) → (b && list_all (λ x. is_duty_entry x.what) es) ≡ true → (AreDuties es → AreDuties (take k es)) →
        (b && list_all (λ x. is_duty_entry x.what) (take k es)) ≡ true
    go true h rest = rest h
    go false h rest = absurd cc

pub count_take : (k : ℕ) (es : List Entry) → own_duties (take k es) ≤ own_duties es
count_take k es = sum_by-take-le (λ x. cond (is_own_duty x) 1 0) es k

-- before the last of them the settle test names one more
settle_cut_next : (n : ℕ) (w : World) (k : ℕ) (named : Option Duty) → duty_named (settle_answer w) ≡ named →
    ((v : World) (k : ℕ) → k < length (settle_entries n v) →
    (own_duties (take k (settle_entries n v)) < n) × (is_busy (replay_from v (take k (settle_entries n v))) ≡ true)) →
    k < length (settle_entries (suc n) w) →
    (own_duties (take k (settle_entries (suc n) w)) < suc n)
    × (is_busy (replay_from w (take k (settle_entries (suc n) w))) ≡ true)
settle_cut_next n w k None e rest inside =
    absurd (omega (arith, ap {B = ℕ} (λ (l : List Entry). length l) (idle_step w (suc n) e), inside))
settle_cut_next n w zero (Some d) e rest inside = (omega arith, ap is_some e)
settle_cut_next n w (suc k) (Some d) e rest inside =
    let v = step_world w (own_duty d) in
    let es = settle_entries n v in
    let later = rest v k (omega (arith, ap {B = ℕ} (λ (l : List Entry). length l) (busy_step w n d e), inside)) in
    subst (λ (l : List Entry). (own_duties (take (suc k) l) < suc n) × (is_busy (replay_from w (take (suc k) l)) ≡ true))
    (sym (busy_step w n d e))
    (omega (arith, count-cons (own_duty d) (take k es), later.0), later.1)

pub settle_cut : (n : ℕ) (w : World) (k : ℕ) → k < length (settle_entries n w) →
    (own_duties (take k (settle_entries n w)) < n) × (is_busy (replay_from w (take k (settle_entries n w))) ≡ true)
settle_cut zero w k inside = absurd (omega (arith, inside))
settle_cut (suc n) w k inside =
    settle_cut_next n w k (duty_named (settle_answer w)) refl (λ v j. settle_cut n v j) inside

pub busy_idle : (b : Bool) → b ≡ true → b ≡ false → ⊥
busy_idle true e f = cc
busy_idle false e f = cc
