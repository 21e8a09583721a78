-- What time that passes leaves of a survey: only whether a task is in flight hangs on it.
use Rattle.std.proofs.Common.{◌%◌, ◌≡◌, ◌∙◌, ◌∷◌, ◌+◌, ◌<◌, ◌≤◌, ℕ, Bool, List, None, Option, Some, [], ap, arith, eqb, false, get_or, min, refl, subst, sym, true}
use Rattle.std.proofs.lemmas.Bool.Decides.{nat_tests}
use Rattle.std.specs.Global.{Box}
use Rattle.std.specs.List.{list_any}
use Rattle.std.specs.Prelude.{IfSome, nat_lt, ◌&&◌, ◌||◌}
use Rattle.role_words.specs.Marks.{has_number, tasks_at}
use Rattle.swarm_objects.proofs.Tests.{neither, neither_left, neither_right}
use Rattle.swarm_objects.specs.Services.Runs.{is_flying}
use Rattle.swarm_objects.specs.Services.Words.{is_live_clean}
use Rattle.swarm_objects.specs.Tasks.Words.{is_below_running, is_running}
use Rattle.swarm_objects.specs.World.{Tables}
use Rattle.swarm_objects.specs.declared.services.Service.{Service}
use Rattle.swarm_objects.specs.declared.tasks.Task.{Task}
use Rattle.swarm_update.proofs.Leaving.{clean_same, less_same, less_so, slots_same}
use Rattle.swarm_update.proofs.Marking.{are_numbered, true_false}
use Rattle.swarm_update.specs.KnownSurvey.{AreClean, AreKept, AreStale, IsKept, IsLess, IsOf, IsSo, Knows}
use Rattle.swarm_update.specs.Marks.{mark_at, mark_of}
use Rattle.swarm_update.specs.StalePlaces.{is_stale}
use Rattle.swarm_update.specs.declared.kept_surveys.KeptSurveys.{KeptSurveys}
use Rattle.swarm_update.specs.declared.kept_surveys.TheConstants.{SURVEYS}
use Rattle.swarm_update.specs.declared.known_survey.Kept.{Kept}
use Rattle.swarm_update.specs.declared.known_survey.KnownSurvey.{KnownSurvey}
use Rattle.swarm_update.specs.declared.known_survey.Subject.{Subject}
use Rattle.swarm_update.specs.declared.marks.Places.{Places}
use Rattle.swarm_update.specs.declared.marks.TheConstants.{WIDTH}
use Rattle.swarm_update.specs.declared.survey.Survey.{Survey}

-- A loop over places, of which those in flight get stale.

pub stale_none : (v : Places) (k : Subject) → AreStale 0 v k
stale_none v k = record { each = λ n lt e. absurd (omega (arith, lt)) }

pub still_stale : (a b : Subject) (n : ℕ) → IsLess a b → n < WIDTH → is_stale a.stale n ≡ true → is_stale b.stale n ≡ true
still_stale a b n less lt e = go (is_stale b.stale n) refl
  where
    go : (c : Bool) → is_stale b.stale n ≡ c → c ≡ true
    go true f = refl
    go false f = absurd (true_false (is_stale a.stale n) e (less.stale n lt f))

stale_more : (i : ℕ) (v : Places) (a b : Subject) → i < WIDTH → AreStale i v a → IsLess a b
    → ((mark_at v i).has_flying ≡ true → is_stale b.stale i ≡ true) → AreStale (i + 1) v b
stale_more i v a b lt h less here = record { each = λ n below e. go n below e (eqb n i) refl }
  where
    go : (n : ℕ) → n < i + 1 → (mark_at v n).has_flying ≡ true → (c : Bool) → eqb n i ≡ c → is_stale b.stale n ≡ true
    go n below e true f =
        let same : i ≡ n = grind (arith, nat_tests) in
        subst (λ j. (mark_at v j).has_flying ≡ true → is_stale b.stale j ≡ true) same here e
    go n below e false f =
        let lower : n < i = grind (arith, nat_tests) in
        still_stale a b n less (omega (arith, lower, lt)) (h.each n lower e)

pub stale_here : (i : ℕ) (v : Places) (a b : Subject) → i < WIDTH → AreStale i v a → IsLess a b
    → is_stale b.stale i ≡ true → AreStale (i + 1) v b
stale_here i v a b lt h less is = stale_more i v a b lt h less (λ e. is)

pub stale_past : (i : ℕ) (v : Places) (k : Subject) → i < WIDTH → AreStale i v k → (mark_at v i).has_flying ≡ false
    → AreStale (i + 1) v k
stale_past i v k lt h off = stale_more i v k k lt h (less_same k) (λ e. absurd (true_false (mark_at v i).has_flying e off))

-- A task that isn't in flight won't be so later.

rule : (a b c d e : Bool) → (e ≡ true → d ≡ true) → (a && (b || (c && d))) ≡ false → (a && (b || (c && e))) ≡ false
rule false b c d e h f = refl
rule true true c d e h f = absurd cc
rule true false false d e h f = refl
rule true false true d true h f = absurd (true_false d (h refl) f)
rule true false true d false h f = refl

later : (t : Tables) (clock : ℕ) (s : Service) (x : Task) → t.clock ≤ clock → is_flying t s x ≡ false
    → is_flying (record t { clock = clock }) s x ≡ false
later t clock s x le off =
    rule (is_live_clean s x) (is_below_running x) (is_running x) (nat_lt t.clock (x.since + s.spec.update.delay))
    (nat_lt clock (x.since + s.spec.update.delay)) (λ e. earlier (x.since + s.spec.update.delay) e) off
  where
    earlier : (end : ℕ) → nat_lt clock end ≡ true → nat_lt t.clock end ≡ true
    earlier end e = grind (arith, nat_tests, le, e)

none_later : (t : Tables) (clock : ℕ) (s : Service) (xs : List Task) → t.clock ≤ clock
    → list_any (is_flying t s) xs ≡ false → list_any (is_flying (record t { clock = clock }) s) xs ≡ false
none_later t clock s [] le off = refl
none_later t clock s (x ∷ xs) le off =
    neither (is_flying (record t { clock = clock }) s x) (list_any (is_flying (record t { clock = clock }) s) xs)
    (later t clock s x le (neither_left (is_flying t s x) (list_any (is_flying t s) xs) off))
    (none_later t clock s xs le (neither_right (is_flying t s x) (list_any (is_flying t s) xs) off))

same_mark : (t : Tables) (clock : ℕ) (s : Service) (xs : List Task) → t.clock ≤ clock
    → list_any (is_flying t s) xs ≡ false → mark_of t s xs ≡ mark_of (record t { clock = clock }) s xs
same_mark t clock s xs le off =
    ap (λ b. record (mark_of t s xs) { has_flying = b }) (off ∙ sym (none_later t clock s xs le off))

-- The places of which the marks tell have none.

none_flies : (v : Survey) (k : Subject) (t : Tables) (s : Service) (n : ℕ) → AreStale (min v.places.reach WIDTH) v.places k
    → IsSo v k t s → n < WIDTH → is_stale k.stale n ≡ false → list_any (is_flying t s) (tasks_at s t.tasks n) ≡ false
none_flies v k t s n stale h lt out = go (list_any (is_flying t s) (tasks_at s t.tasks n)) refl (has_number s t.tasks n) refl
  where
    go : (b : Bool) → list_any (is_flying t s) (tasks_at s t.tasks n) ≡ b → (c : Bool) → has_number s t.tasks n ≡ c → b ≡ false
    go false e c has = refl
    go true e true has =
        let below : n < v.places.reach = h.places.reach n has lt out in
        let within : n < min v.places.reach WIDTH = grind (arith, below, lt) in
        absurd (true_false (is_stale k.stale n)
        (stale.each n within (ap (λ m. m.has_flying) (h.places.marks n lt out) ∙ e)) out)
    go true e false has =
        sym e ∙ ap (list_any (is_flying t s)) (are_numbered s t.tasks n has)

later_so : (v : Survey) (k : Subject) (t : Tables) (clock : ℕ) (s : Service) → t.clock ≤ clock
    → AreStale (min v.places.reach WIDTH) v.places k → IsSo v k t s → IsSo v k (record t { clock = clock }) s
later_so v k t clock s le stale h = record {
  places = record {
    wide = h.places.wide;
    marks = λ n lt out. h.places.marks n lt out
        ∙ same_mark t clock s (tasks_at s t.tasks n) le (none_flies v k t s n stale h lt out);
    reach = h.places.reach;
    far = h.places.far;
  };
  failures = h.failures;
}

-- What is kept.

later_of : (t : Tables) (clock : ℕ) (v : Survey) (k : Subject) → t.clock ≤ clock
    → AreStale (min v.places.reach WIDTH) v.places k → IsOf t v k → IsOf (record t { clock = clock }) v k
later_of t clock v k le stale h = record { each = λ s at. later_so v k t clock s le stale (h.each s at) }

pub later_known : (v : Survey) (o : Option Subject) (k b : Subject) → o ≡ Some k → IsLess k b
    → AreStale (min v.places.reach WIDTH) v.places b
    → (t : Tables) (clock : ℕ) → t.clock ≤ clock → IfSome o (IsOf t v) → IsOf (record t { clock = clock }) v b
later_known v o k b is less stale t clock le known =
    later_of t clock v b le stale (less_so t v k b less (subst (λ q. IfSome q (IsOf t v)) is known))

pub later_stands : (o : Option Subject) (k b : Subject) → o ≡ Some k → IsLess k b → (slot : ℕ)
    → IfSome o (λ (j : Subject). j.service % SURVEYS ≡ slot) → b.service % SURVEYS ≡ slot
later_stands o k b is less slot h =
    ap (λ n. n % SURVEYS) less.service ∙ subst (λ q. IfSome q (λ (j : Subject). j.service % SURVEYS ≡ slot)) is h

pub later_none : (v : Survey) (o : Option Subject) → o ≡ None → (t : Tables) (clock : ℕ) → t.clock ≤ clock
    → IfSome o (IsOf t v) → IfSome o (IsOf (record t { clock = clock }) v)
later_none v o is t clock le known = subst (λ q. IfSome q (IsOf (record t { clock = clock }) v)) (sym is) tt

pub clean_later : (t : Tables) (clock : ℕ) (known : KnownSurvey) → Knows t known
    → AreClean (record t { clock = clock }) known.clean
clean_later t clock known h =
    slots_same t (record t { clock = clock }) known.clean
    (λ id none. clean_same t (record t { clock = clock }) id refl refl none) h.clean

-- A loop over slots: those before the end have passed the time, and the others are as they were.

abbrev KnowsSlot : Tables → ℕ → Option (Box Kept) → Type 0
KnowsSlot t slot o = IfSome o (λ box. IsKept t slot box.value)

pub record PassSlots (end : ℕ) (before after : KeptSurveys) : Type 0 where
  pub each : (t : Tables) (clock : ℕ) → t.clock ≤ clock → (slot : ℕ) → slot < end
      → KnowsSlot t slot (get_or before.slots slot None)
      → KnowsSlot (record t { clock = clock }) slot (get_or after.slots slot None)
  pub rest : (slot : ℕ) → end ≤ slot → get_or after.slots slot None ≡ get_or before.slots slot None

pub slots_first : (kept : KeptSurveys) → PassSlots 0 kept kept
slots_first kept = record { each = λ t clock le slot lt h. absurd (omega (arith, lt)); rest = λ slot le. refl }

pub slots_last : (end : ℕ) (before after : KeptSurveys) → SURVEYS ≤ end → PassSlots end before after → (t : Tables)
    (clock : ℕ) → t.clock ≤ clock → AreKept t before → AreKept (record t { clock = clock }) after
slots_last end before after long h t clock le known = record {
  each = λ slot lt. h.each t clock le slot (omega (arith, lt, long)) (known.each slot lt);
}

pub ruleset stale_steps = (stale_none, stale_here, stale_past)

pub ruleset later_steps = (later_known, later_none)

pub ruleset slot_steps = (slots_first, slots_last)
