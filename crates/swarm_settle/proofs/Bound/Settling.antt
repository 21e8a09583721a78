-- What the bound on the control loops' duties says of duties of any callers, and of a settle line.
use Rattle.std.proofs.Common.{Bool, List, None, Option, Some, [], ap, arith, cond, false, inl, length, map, refl, subst, sym, true, ℕ, ◌*◌, ◌+◌, ◌++◌, ◌∙◌, ◌∷◌, ◌≡◌, ◌≤◌}
use Rattle.std.proofs.lemmas.List.{length-append}
use Rattle.std.proofs.lemmas.List.Sums.{count_by-le-length, sum_by-cons}
use Rattle.std.specs.List.{list_all}
use Rattle.std.specs.Prelude.{count_by, is_some, not, ◌&&◌}
use Rattle.swarm_settle.proofs.Bound.Rest.{bound-law}
use Rattle.swarm_settle.specs.Bound.Laws.{ComesToRest, SettlesInTime, is_loud, most_duties}
use Rattle.swarm_model.proofs.Base.DutyLists.{due-Has}
use Rattle.swarm_model.proofs.Base.Histories.{IsLegalFrom-append, IsLegalFrom-join, IsLegalFrom-snoc, duty_admitted, room_admitted}
use Rattle.swarm_model.proofs.Following.First.{first_of_named}
use Rattle.swarm_model.specs.Follows.{AreDuties, IsCut}
use Rattle.swarm_model.specs.History.{IsLegal, IsLegalFrom, may_follow, replay, replay_from, step}
use Rattle.swarm_model.specs.Laws.Size.{by_caller, is_silent_duty, size}
use Rattle.swarm_model.specs.Script.{Asked, Settles, is_busy, is_duty_entry, is_own_duty, own_call, own_duties, own_duty}
use Rattle.swarm_model.specs.Settle.{settle_answer}
use Rattle.swarm_objects.proofs.Tests.{both_are}
use Rattle.swarm_objects.specs.Duties.{duties, is_due}
use Rattle.swarm_objects.specs.Kinds.{duty_named, role_of}
use Rattle.swarm_objects.specs.Rows.{Has, first_of}
use Rattle.swarm_objects.specs.World.{World, empty_world}
use Rattle.swarm_objects.specs.declared.calls.Call.TheVariants as call
use Rattle.swarm_objects.specs.declared.calls.Entry.{Entry}
use Rattle.swarm_objects.specs.declared.calls.What.TheVariants as what
use Rattle.swarm_objects.specs.declared.calls.What.{What}
use Rattle.swarm_objects.specs.declared.duties.Duty.{Duty}

-- Duties of any callers.

abbrev Loud : List Entry → ℕ
Loud es = count_by (λ e. is_loud e.what) es

abbrev LoudOf : List Duty → ℕ
LoudOf ds = count_by (λ d. not (is_silent_duty d)) ds

-- so many duties, and so many of them other than explain and note, as caller 0's
record AsOwn (w : World) (all loud : ℕ) : Type 0 where
  pub duties : List Duty
  pub legal : IsLegalFrom w (map (by_caller 0) duties)
  pub same : length duties ≡ all
  pub same_loud : LoudOf duties ≡ loud

one-more : (w : World) (x : What) (all loud : ℕ) → is_duty_entry x ≡ true → may_follow w x ≡ true →
    AsOwn (step w x).after all loud → AsOwn w (all + 1) (cond (is_loud x) 1 0 + loud)
one-more w (what.Call c) all loud is may rest = absurd cc
one-more w (what.Duty d) all loud is may rest = record {
  duties = d ∷ rest.duties;
  legal = (may, rest.legal);
  same = omega (arith, rest.same);
  same_loud = sum_by-cons (λ (x : Duty). cond (not (is_silent_duty x)) 1 0) d rest.duties
      ∙ ap (λ (n : ℕ). cond (not (is_silent_duty d)) 1 0 + n) rest.same_loud;
}

-- legality doesn't look at the caller
as-own : (w : World) (es : List Entry) → AreDuties es → IsLegalFrom w es → AsOwn w (length es) (Loud es)
as-own w [] are legal = record { duties = []; legal = tt; same = refl; same_loud = refl }
as-own w (e ∷ es) are legal =
    let parts = both_are (is_duty_entry e.what) (list_all (λ (x : Entry). is_duty_entry x.what) es) are in
    let more = one-more w e.what (length es) (Loud es) parts.0 legal.0
    (as-own (step w e.what).after es parts.1 legal.1) in
    let loud : cond (is_loud e.what) 1 0 + Loud es ≡ Loud (e ∷ es) =
    sym (sum_by-cons (λ (x : Entry). cond (is_loud x.what) 1 0) e es) in
    record {
      duties = more.duties;
      legal = more.legal;
      same = omega (arith, more.same);
      same_loud = more.same_loud ∙ loud;
    }

-- the law of one history
pub comes-to-rest : (h : List Entry) → ComesToRest h
comes-to-rest h es are legal =
    let parts = IsLegalFrom-append empty_world h es legal in
    let own = as-own (replay h) es are parts.1 in
    let most = bound-law h own.duties (IsLegalFrom-join empty_world h (map (by_caller 0) own.duties) parts.0 own.legal) in (
      subst (λ (n : ℕ). n ≤ most_duties (replay h)) own.same most.0,
      subst (λ (n : ℕ). n ≤ 400 * size (replay h)) own.same_loud most.1,
    )

-- Settle lines.

first-has : (ds : List Duty) (d : Duty) → first_of ds ≡ Some d → Has ds d
first-has [] d e = absurd cc
first-has (x ∷ ds) d e = inl cc

-- where the settle call was admitted in a busy world, a duty may follow in its place
busy-goes-on : (w : World) (budget : ℕ) → may_follow w (what.Call (call.Settle budget)) ≡ true → is_busy w ≡ true →
    (d : Duty) × (may_follow w (what.Duty d) ≡ true)
busy-goes-on w budget may busy = go (duty_named (settle_answer w)) refl busy
  where
    go : (o : Option Duty) → duty_named (settle_answer w) ≡ o → is_some o ≡ true →
        (d : Duty) × (may_follow w (what.Duty d) ≡ true)
    go None named some = absurd cc
    go (Some d) named some =
        let room = room_admitted w (call.Settle budget) may in
        let due : is_due w d ≡ true = due-Has w d (first-has (duties (role_of d) w) d (first_of_named w d named)) in
        (d, duty_admitted w d room.0 (room.1 refl) due)

all-join : (es fs : List Entry) → AreDuties es → AreDuties fs → AreDuties (es ++ fs)
all-join [] fs first rest = rest
all-join (e ∷ es) fs first rest =
    let parts = both_are (is_duty_entry e.what) (list_all (λ (x : Entry). is_duty_entry x.what) es) first in
    ap (λ (b : Bool). b && list_all (λ (x : Entry). is_duty_entry x.what) (es ++ fs)) parts.0
    ∙ all-join es fs parts.1 rest

-- own duties are among all
own-within : (es : List Entry) → own_duties es ≤ length es
own-within es = count_by-le-length is_own_duty es

-- the law of the settle lines of one history
pub settles-in-time : (h : List Entry) → IsLegal h → SettlesInTime h
settles-in-time h legal before others line rest budget is are settle enough = go (is_busy v) refl
  where
    w : World
    w = replay_from (replay before) others

    v : World
    v = replay_from w settle.duties

    legal-line : IsLegalFrom (replay before) (others ++ (line ++ rest))
    legal-line = (IsLegalFrom-append empty_world before (others ++ (line ++ rest)) (subst IsLegal is legal)).1

    legal-call : IsLegalFrom w (settle.duties ++ own_call (call.Settle budget) ∷ [])
    legal-call =
        subst (IsLegalFrom w) settle.entries
        (IsLegalFrom-append w line rest (IsLegalFrom-append (replay before) others (line ++ rest) legal-line).1).0

    parts : IsLegalFrom w settle.duties × IsLegalFrom v (own_call (call.Settle budget) ∷ [])
    parts = IsLegalFrom-append w settle.duties (own_call (call.Settle budget) ∷ []) legal-call

    go : (b : Bool) → is_busy v ≡ b → b ≡ false
    go false busy = refl
    go true busy =
        let next = busy-goes-on v budget parts.1.0 busy in
        let all = settle.duties ++ own_duty next.0 ∷ [] in
        let may = IsLegalFrom-snoc w settle.duties (own_duty next.0) parts.0 next.1 in
        let legal-all = IsLegalFrom-join (replay before) others all
        (IsLegalFrom-append (replay before) others (line ++ rest) legal-line).0 may in
        let first = (IsLegalFrom-append empty_world before (others ++ (line ++ rest)) (subst IsLegal is legal)).0 in
        let most = (comes-to-rest before (others ++ all)
        (all-join others all are.0 (all-join settle.duties (own_duty next.0 ∷ []) settle.are_duties refl))
        (IsLegalFrom-join empty_world before (others ++ all) first legal-all)).0 in
        absurd (omega (
          arith,
          most,
          enough,
          settle.busy busy,
          own-within settle.duties,
          length-append others all,
          length-append settle.duties (own_duty next.0 ∷ []),
        ))

-- so it is with a script's last settle line
pub cut-in-time : (h : List Entry) (lines : List Asked) (budget : ℕ) → SettlesInTime h → (c : IsCut h lines (Settles budget)) →
    most_duties (replay c.before) ≤ budget → is_busy (replay_from (replay c.before) c.last_is.duties) ≡ false
cut-in-time h lines budget in_time c enough = in_time c.before [] c.part c.rest budget c.entries (refl, refl) c.last_is enough
