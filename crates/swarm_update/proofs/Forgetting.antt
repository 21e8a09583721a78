-- What changes leave of the surveys that are kept, slot by slot.
use Rattle.std.proofs.Common.{◌%◌, ◌+◌, ◌<◌, ◌≡◌, ◌∙◌, ◌∷◌, ◌⊎◌, ℕ, Bool, List, None, Option, Some, [], ap, arith, cond, drop, eqb, false, get_or, inl, inr, length, ltb, not, refl, replicate, subst, sym, true}
use Rattle.std.proofs.lemmas.Bool.Decides.{nat_tests}
use Rattle.std.proofs.lemmas.List.{drop_more, get_or-replicate}
use Rattle.std.specs.Global.{Box}
use Rattle.std.specs.Option.{option_map}
use Rattle.std.specs.Prelude.{IfSome, ◌&&◌, ◌||◌}
use Rattle.role_words.proofs.Numbers.{number_equal, same_number}
use Rattle.swarm_objects.proofs.Tests.{neither_left, neither_right, or_cases}
use Rattle.swarm_objects.specs.ChangeLists.{apply_changes}
use Rattle.swarm_objects.specs.Rows.{Has, is_row_and, is_some_and, row_at, task_id}
use Rattle.swarm_objects.specs.Tasks.Places.{place_number}
use Rattle.swarm_objects.specs.Tasks.Words.{is_of}
use Rattle.swarm_objects.specs.Usable.{IsUsable}
use Rattle.swarm_objects.specs.World.{Tables}
use Rattle.swarm_objects.specs.declared.rows.Change.TheVariants as change
use Rattle.swarm_objects.specs.declared.rows.Change.{Change}
use Rattle.swarm_objects.specs.declared.services.Service.{Service}
use Rattle.swarm_objects.specs.declared.services.UpdateRun.{UpdateRun}
use Rattle.swarm_objects.specs.declared.tasks.Task.{Task}
use Rattle.swarm_update.proofs.Leaving.{goes_on, if_some_then, less_same, less_so, less_then}
use Rattle.swarm_update.proofs.Marking.{true_false}
use Rattle.swarm_update.proofs.Passing.{still_stale}
use Rattle.swarm_update.specs.KnownSurvey.{AreKept, AreTold, IsKept, IsLeft, IsLess, IsOf, Leaves, SlotIsTold, concerns, leaves_out, may_fail, touches}
use Rattle.swarm_update.specs.StalePlaces.{is_stale}
use Rattle.swarm_update.specs.Surveys.{Tells}
use Rattle.swarm_update.specs.declared.kept_surveys.KeptSurveys.{KeptSurveys}
use Rattle.swarm_update.specs.declared.kept_surveys.TheConstants.{SURVEYS}
use Rattle.swarm_update.specs.declared.known_survey.Kept.{Kept}
use Rattle.swarm_update.specs.declared.known_survey.Subject.{Subject}
use Rattle.swarm_update.specs.declared.marks.TheConstants.{WIDTH}
use Rattle.swarm_update.specs.declared.survey.Survey.{Survey}

-- What a change leaves, it leaves where less is remembered.

untouched : (o la lb ca cb m : Bool) → (la ≡ true → lb ≡ true) → (cb ≡ true → ca ≡ true)
    → (o && (not la || (ca && m))) ≡ false → (o && (not lb || (cb && m))) ≡ false
untouched false la lb ca cb m p q e = refl
untouched true false lb ca cb m p q e = absurd cc
untouched true true false ca cb m p q e = absurd (true_false false (p refl) refl)
untouched true true true ca false m p q e = refl
untouched true true true true true m p q e = e
untouched true true true false true m p q e = absurd (true_false false (q refl) refl)

out_still : (far : Bool) (a b : Subject) (n : ℕ) → IsLess a b → leaves_out a far n ≡ true → leaves_out b far n ≡ true
out_still far a b n less e = go (ltb n WIDTH) refl e
  where
    go : (c : Bool) → ltb n WIDTH ≡ c → cond c (is_stale a.stale n) far ≡ true → cond c (is_stale b.stale n) far ≡ true
    go true lt f = still_stale a b n less (grind (arith, nat_tests, lt)) f
    go false lt f = f

touches_less : (far : Bool) (a b : Subject) (x : Task) → IsLess a b → touches a far x ≡ false → touches b far x ≡ false
touches_less far a b x less e =
    ap (λ i. is_of i x && (not (leaves_out b far (place_number x.place)) || (b.is_counted && may_fail b.version x))) less.service
    ∙ ap (λ i. is_of a.service x && (not (leaves_out b far (place_number x.place)) || (b.is_counted && may_fail i x))) less.version
    ∙ untouched (is_of a.service x) (leaves_out a far (place_number x.place)) (leaves_out b far (place_number x.place))
    a.is_counted b.is_counted (may_fail a.version x) (out_still far a b (place_number x.place) less) less.counted e

row_less : (t : Tables) (far : Bool) (a b : Subject) (id : ℕ) → IsLess a b
    → is_row_and task_id (touches a far) t.tasks id ≡ false → is_row_and task_id (touches b far) t.tasks id ≡ false
row_less t far a b id less e = go (row_at task_id id t.tasks) e
  where
    go : (o : Option Task) → is_some_and (touches a far) o ≡ false → is_some_and (touches b far) o ≡ false
    go None f = refl
    go (Some x) f = touches_less far a b x less f

leaves_less : (t : Tables) (far : Bool) (a b : Subject) (c : Change) → IsLess a b → Leaves t a far c → Leaves t b far c
leaves_less t far a b (change.PutNode n) less h = tt
leaves_less t far a b (change.PutService s) less h = λ own. h (own ∙ less.service)
leaves_less t far a b (change.PutTask x) less h = (touches_less far a b x less h.0, row_less t far a b x.id less h.1)
leaves_less t far a b (change.DropTask id) less h = row_less t far a b id less h
leaves_less t far a b (change.Keep n) less h = tt

-- A change leaves what is remembered of services with other slots.

abbrev pub stands : ℕ → Task → Bool
stands slot x = eqb (x.service % SURVEYS) slot

abbrev pub stands_by : Task → ℕ → Bool
stands_by x slot = stands slot x

apart : (k : Subject) (far : Bool) (x : Task) → stands (k.service % SURVEYS) x ≡ false → touches k far x ≡ false
apart k far x off = go (is_of k.service x) refl
  where
    go : (b : Bool) → is_of k.service x ≡ b
        → (b && (not (leaves_out k far (place_number x.place)) || (k.is_counted && may_fail k.version x))) ≡ false
    go false e = refl
    go true e =
        absurd (true_false (stands (k.service % SURVEYS) x)
        (number_equal (x.service % SURVEYS) (k.service % SURVEYS) (ap (λ i. i % SURVEYS) (same_number x.service k.service e)))
        off)

row_apart : (t : Tables) (k : Subject) (far : Bool) (id : ℕ)
    → is_row_and task_id (stands (k.service % SURVEYS)) t.tasks id ≡ false
    → is_row_and task_id (touches k far) t.tasks id ≡ false
row_apart t k far id off = go (row_at task_id id t.tasks) off
  where
    go : (o : Option Task) → is_some_and (stands (k.service % SURVEYS)) o ≡ false → is_some_and (touches k far) o ≡ false
    go None f = refl
    go (Some x) f = apart k far x f

others_left : (t : Tables) (k : Subject) (far : Bool) (c : Change) → concerns t c (k.service % SURVEYS) ≡ false
    → Leaves t k far c
others_left t k far (change.PutNode n) off = tt
others_left t k far (change.PutService s) off = λ own.
    absurd (true_false (eqb (s.id % SURVEYS) (k.service % SURVEYS))
    (number_equal (s.id % SURVEYS) (k.service % SURVEYS) (ap (λ i. i % SURVEYS) own)) off)
others_left t k far (change.PutTask x) off = (
  apart k far x (neither_left (stands (k.service % SURVEYS) x) (is_row_and task_id (stands (k.service % SURVEYS)) t.tasks x.id) off),
  row_apart t k far x.id
      (neither_right (stands (k.service % SURVEYS) x) (is_row_and task_id (stands (k.service % SURVEYS)) t.tasks x.id) off),
)
others_left t k far (change.DropTask id) off = row_apart t k far id off
others_left t k far (change.Keep a) off = tt

-- Slots that are told of a change.

left_same : (t : Tables) (c : Change) (a : Kept) → IfSome a.subject (IsLeft t c false a a.survey)
left_same t c a = go a.subject refl
  where
    go : (o : Option Subject) → a.subject ≡ o → IfSome o (IsLeft t c false a a.survey)
    go None e = tt
    go (Some k) e = record { was = k; is = e; survey = refl; less = less_same k; leaves = λ f. absurd cc }

slot_same : (t : Tables) (c : Change) (o : Option (Box Kept)) → SlotIsTold t c false o o
slot_same t c None = tt
slot_same t c (Some b) = left_same t c b.value

pub told_none : (t : Tables) (c : Change) (kept : KeptSurveys) → AreTold t c (λ slot. false) kept kept
told_none t c kept = record { each = λ slot lt. slot_same t c (get_or kept.slots slot None) }

left_then : (t : Tables) (c : Change) (p q : Bool) (a b d : Kept) → IfSome b.subject (IsLeft t c p a b.survey)
    → IfSome d.subject (IsLeft t c q b d.survey) → IfSome d.subject (IsLeft t c (p || q) a d.survey)
left_then t c p q a b d first second =
    if_some_then d.subject second
    (λ k l. one k l (subst (λ o. IfSome o (IsLeft t c p a b.survey)) l.is first))
  where
    one : (k : Subject) (l : IsLeft t c q b d.survey k) → IsLeft t c p a b.survey l.was → IsLeft t c (p || q) a d.survey k
    one k l f = record {
      was = f.was;
      is = f.is;
      survey = l.survey ∙ f.survey;
      less = less_then f.was l.was k f.less l.less;
      leaves = λ e. elim (or_cases p q e) [
        | inl told ↦
            subst (λ (v : Survey). Leaves t k v.places.has_far c) (sym l.survey)
            (leaves_less t b.survey.places.has_far l.was k c l.less (f.leaves told))
        | inr told ↦ l.leaves told
      ];
    }

slot_then : (t : Tables) (c : Change) (p q : Bool) (a b d : Option (Box Kept)) → SlotIsTold t c p a b
    → SlotIsTold t c q b d → SlotIsTold t c (p || q) a d
slot_then t c p q None None None first second = tt
slot_then t c p q None None (Some d) first second = absurd second
slot_then t c p q None (Some b) d first second = absurd first
slot_then t c p q (Some a) None d first second = absurd first
slot_then t c p q (Some a) (Some b) None first second = absurd second
slot_then t c p q (Some a) (Some b) (Some d) first second = left_then t c p q a.value b.value d.value first second

pub told_then : (t : Tables) (c : Change) (p q : ℕ → Bool) (a b d : KeptSurveys) → AreTold t c p a b → AreTold t c q b d
    → AreTold t c (λ slot. p slot || q slot) a d
told_then t c p q a b d first second = record {
  each = λ slot lt.
      slot_then t c (p slot) (q slot) (get_or a.slots slot None) (get_or b.slots slot None) (get_or d.slots slot None)
      (first.each slot lt) (second.each slot lt);
}

-- the service of the task that is put, and that of the task with its id
pub told_put : (t : Tables) (c : Change) (x : Task) (a b d : KeptSurveys) → c ≡ change.PutTask x
    → AreTold t c (stands_by x) a b → AreTold t c (λ slot. is_row_and task_id (stands slot) t.tasks x.id) b d
    → AreTold t c (concerns t c) a d
told_put t c x a b d is first second =
    subst (λ e. AreTold t c (concerns t e) a d) (sym is)
    (told_then t c (stands_by x) (λ slot. is_row_and task_id (stands slot) t.tasks x.id) a b d first second)

-- A loop over changes: those that are left, and those that leave what is remembered, are all.

pub record Passes (t : Tables) (left all : List Change) (slot : ℕ) (v : Survey) (k : Subject) : Type 0 where
  pub is : IsOf t v k
  pub stands : k.service % SURVEYS ≡ slot
  pub past : (c : Change) → Has all c → Has left c ⊎ Leaves t k v.places.has_far c

abbrev KeptPasses : Tables → List Change → List Change → ℕ → Kept → Type 0
KeptPasses t left all slot kept = IfSome kept.subject (Passes t left all slot kept.survey)

pub record AllPass (t : Tables) (left all : List Change) (kept : KeptSurveys) : Type 0 where
  pub each : (slot : ℕ) → slot < SURVEYS
      → IfSome (get_or kept.slots slot None) (λ box. IfSome box.value.subject (Passes t left all slot box.value.survey))

kept_first : (t : Tables) (all : List Change) (slot : ℕ) (v : Survey) (o : Option Subject) → IfSome o (IsOf t v)
    → IfSome o (λ k. k.service % SURVEYS ≡ slot) → IfSome o (Passes t all all slot v)
kept_first t all slot v None knows stands = tt
kept_first t all slot v (Some k) knows stands = record { is = knows; stands = stands; past = λ c h. inl h }

pub pass_first : (t : Tables) (all : List Change) (kept : KeptSurveys) → AreKept t kept → AllPass t all all kept
pass_first t all kept h = record {
  each = λ slot lt.
      if_some_then (get_or kept.slots slot None) (h.each slot lt)
      (λ b is. kept_first t all slot b.value.survey b.value.subject is.knows is.stands);
}

subject_next : (t : Tables) (left rest all : List Change) (c : Change) (slot : ℕ) (a : Kept) (v : Survey) (k : Subject)
    → left ≡ c ∷ rest → (l : IsLeft t c (concerns t c slot) a v k) → Passes t left all slot a.survey l.was
    → Passes t rest all slot v k
subject_next t left rest all c slot a v k is l p = record {
  is = less_so t v l.was k l.less (subst (λ u. IsOf t u l.was) (sym l.survey) p.is);
  stands = own;
  past = λ d has. elim (p.past d has) [
    | inl later ↦ next d (subst (λ cs. Has cs d) is later)
    | inr leaves ↦
        inr (subst (λ (u : Survey). Leaves t k u.places.has_far d) (sym l.survey)
        (leaves_less t a.survey.places.has_far l.was k d l.less leaves))
  ];
}
  where
    own : k.service % SURVEYS ≡ slot
    own = ap (λ i. i % SURVEYS) l.less.service ∙ p.stands

    here : (b : Bool) → concerns t c slot ≡ b → Leaves t k v.places.has_far c
    here true e = l.leaves e
    here false e = others_left t k v.places.has_far c (ap (concerns t c) own ∙ e)

    next : (d : Change) → (c ≡ d) ⊎ Has rest d → Has rest d ⊎ Leaves t k v.places.has_far d
    next d (inl same) = inr (subst (Leaves t k v.places.has_far) same (here (concerns t c slot) refl))
    next d (inr later) = inl later

slot_next : (t : Tables) (left rest all : List Change) (c : Change) (slot : ℕ) (o p : Option (Box Kept))
    → left ≡ c ∷ rest → SlotIsTold t c (concerns t c slot) o p → IfSome o (λ b. KeptPasses t left all slot b.value)
    → IfSome p (λ b. KeptPasses t rest all slot b.value)
slot_next t left rest all c slot None None is told h = tt
slot_next t left rest all c slot None (Some b) is told h = absurd told
slot_next t left rest all c slot (Some a) None is told h = tt
slot_next t left rest all c slot (Some a) (Some b) is told h =
    if_some_then b.value.subject told
    (λ k l. subject_next t left rest all c slot a.value b.value.survey k is l
    (subst (λ q. IfSome q (Passes t left all slot a.value.survey)) l.is h))

pass_next : (t : Tables) (left rest all : List Change) (c : Change) (before after : KeptSurveys) → left ≡ c ∷ rest
    → AreTold t c (concerns t c) before after → AllPass t left all before → AllPass t rest all after
pass_next t left rest all c before after is told h = record {
  each = λ slot lt.
      slot_next t left rest all c slot (get_or before.slots slot None) (get_or after.slots slot None) is
      (told.each slot lt) (h.each slot lt);
}

pub pass_at : (t : Tables) (all : List Change) (i : ℕ) (c : Change) (before after : KeptSurveys) → i < length all
    → c ≡ get_or all i c → AreTold t c (concerns t c) before after → AllPass t (drop i all) all before
    → AllPass t (drop (i + 1) all) all after
pass_at t all i c before after lt is told h =
    pass_next t (drop i all) (drop (i + 1) all) all c before after
    (drop_more all i c lt ∙ ap (λ d. d ∷ drop (i + 1) all) (sym is)) told h

pub pass_stays : (t : Tables) (left all : List Change) (kept : KeptSurveys) → AllPass t left all kept → AreKept t kept
pass_stays t left all kept h = record {
  each = λ slot lt.
      if_some_then (get_or kept.slots slot None) (h.each slot lt) (λ b p. record {
        knows = if_some_then b.value.subject p (λ k q. q.is);
        stands = if_some_then b.value.subject p (λ k q. q.stands);
      });
}

pub pass_end : (t : Tables) (left all : List Change) (kept : KeptSurveys) → IsUsable t → left ≡ []
    → AllPass t left all kept → AreKept (apply_changes t all) kept
pass_end t left all kept usable is h = record {
  each = λ slot lt.
      if_some_then (get_or kept.slots slot None) (h.each slot lt) (λ b p. record {
        knows = if_some_then b.value.subject p (λ k q. goes_on t b.value.survey k all usable q.is (past b.value.survey k slot q));
        stands = if_some_then b.value.subject p (λ k q. q.stands);
      });
}
  where
    past : (v : Survey) (k : Subject) (slot : ℕ) → Passes t left all slot v k → (c : Change) → Has all c
        → Leaves t k v.places.has_far c
    past v k slot q c has = elim (q.past c has) [
      | inl later ↦ absurd (subst (λ cs. Has cs c) is later)
      | inr leaves ↦ leaves
    ]

-- No survey.

pub none_kept : (t : Tables) → AreKept t (record { slots = replicate SURVEYS None })
none_kept t = record {
  each = λ slot lt.
      subst (λ (o : Option (Box Kept)). IfSome o (λ box. IsKept t slot box.value))
      (sym (get_or-replicate SURVEYS slot None None lt)) tt;
}

-- The survey in a slot.

pub survey_tells : (t : Tables) (s : Service) (run : UpdateRun) (o : Option (Box Kept)) (v : Survey)
    → Some v ≡ option_map (λ box. box.value.survey) o → IfSome o (λ box. Tells box.value.survey t s run)
    → Tells v t s run
survey_tells t s run None v is tells = absurd cc
survey_tells t s run (Some b) v is tells =
    let same : b.value.survey ≡ v = cc in
    subst (λ (u : Survey). Tells u t s run) same tells

-- One kept survey.

pub left_all : (t : Tables) (c : Change) (a : Kept) (k : Subject) → a.subject ≡ Some k
    → Leaves t k a.survey.places.has_far c → IfSome a.subject (IsLeft t c true a a.survey)
left_all t c a k is leaves =
    subst (λ o. IfSome o (IsLeft t c true a a.survey)) (sym is)
    (record { was = k; is = is; survey = refl; less = less_same k; leaves = λ e. leaves })

pub left_less : (t : Tables) (c : Change) (a : Kept) (k : Subject) (o : Option Subject) → a.subject ≡ Some k
    → IfSome o (IsLess k) → IfSome o (λ b. Leaves t b a.survey.places.has_far c)
    → IfSome o (IsLeft t c true a a.survey)
left_less t c a k None is less leaves = tt
left_less t c a k (Some b) is less leaves =
    record { was = k; is = is; survey = refl; less = less; leaves = λ e. leaves }

pub ruleset left_steps = (left_all, left_less)

pub ruleset told_steps = (told_none, told_then)
