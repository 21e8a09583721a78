-- Port numbers that go on being held, and what is touched where one gets free.
use Rattle.std.proofs.Common.{Bool, List, None, Option, Some, [], ap, cond, eqb, false, inl, inr, leb, length, ltb, refl, subst, sym, true, ℕ, arith, ◌+◌, ◌++◌, ◌<◌, ◌≤◌, ◌∙◌, ◌∷◌, ◌≡◌, ◌⊎◌}
use Rattle.std.proofs.lemmas.Bool.Decides.{nat_tests}
use Rattle.std.specs.List.{list_all}
use Rattle.std.specs.Prelude.{filter, flat_map, is_some, not, option_to_list, ◌&&◌}
use Rattle.swarm_model.proofs.Laws.Ingress.{in-held}
use Rattle.swarm_objects.proofs.Gaps.{first_gap-free, first_gap-ge}
use Rattle.swarm_objects.proofs.Rising.{rising-cases, rising-has, rising-rises}
use Rattle.swarm_objects.proofs.RowLemmas.{Has-append_cases, Has-filter_cases, Has-flat_map, Has-flat_map_cases, Has-from_row_at, Has-map_cases, number_above, row_at-Some}
use Rattle.swarm_objects.proofs.Tests.{both_are, never-both, of-all, same_bool_is}
use Rattle.swarm_objects.specs.ChangeLists.{apply_changes}
use Rattle.swarm_objects.specs.Limits.{first_port, last_port}
use Rattle.swarm_objects.specs.Rows.{Has, RisesFrom, first_free, first_gap, is_some_and, rising, row_at, service_id}
use Rattle.swarm_objects.specs.Same.{same_bool}
use Rattle.swarm_objects.specs.Services.Ports.{holds_port, numbers_given, numbers_named, ports_held, ports_of}
use Rattle.swarm_objects.specs.Usable.{IsUsable}
use Rattle.swarm_objects.specs.World.{Tables}
use Rattle.swarm_objects.specs.declared.rows.Change.{Change}
use Rattle.swarm_objects.specs.declared.rows.Change.TheVariants as change
use Rattle.swarm_objects.specs.declared.services.PortNumber.{PortNumber}
use Rattle.swarm_objects.specs.declared.services.Service.{Service}
use Rattle.swarm_objects.specs.declared.templates.Port.{Port}
use Rattle.swarm_spans.proofs.Made.{services-made}
use Rattle.swarm_spans.proofs.Services.Spans.{each-full}
use Rattle.swarm_spans.proofs.Services.Touching.{number-of, number-wider, touched-all, touching_next, wider_not, wider_one}
use Rattle.swarm_spans.proofs.Services.Trimming.{wider_yet}
use Rattle.swarm_spans.specs.Services.Numbers.{HoldsNone, KeepsNumbers, frees_number, holds_all, holds_number}
use Rattle.swarm_spans.specs.Services.Steps.{HadFreePort, HasForPorts, HasNumber}
use Rattle.swarm_spans.specs.Services.Touches.{HasNumbered, HasPorts, HasRenumbered, Touching}
use Rattle.swarm_spans.specs.Spans.{IsWider, full, is_in, with_id}
use Rattle.swarm_spans.specs.declared.span.Span.{Span}

-- A service that holds each number of another one.

named-held : (udp : Bool) (n : ℕ) (s : Service) (ports : List Port)
    → list_all (λ p. holds_number s p.udp p.number) ports ≡ true → Has (numbers_named udp ports) n
    → holds_port udp n s ≡ true
named-held udp n s ports all h =
    let from =
    Has-flat_map_cases (λ (p : Port). option_to_list p.number) (filter (λ (p : Port). same_bool p.udp udp) ports) n h in
    let at = Has-filter_cases (λ (p : Port). same_bool p.udp udp) ports from.0 from.1 in
    let own = of-all (λ (p : Port). holds_number s p.udp p.number) ports from.0 all at.0 in
    go from.0.number from.2
    (subst (λ b. holds_number s b from.0.number ≡ true) (same_bool_is from.0.udp udp at.1) own)
  where
    go : (o : Option ℕ) → Has (option_to_list o) n → holds_number s udp o ≡ true → holds_port udp n s ≡ true
    go None k e = absurd k
    go (Some m) (inl same) e = subst (λ k. holds_port udp k s ≡ true) same e
    go (Some m) (inr none) e = absurd none

given-held : (udp : Bool) (n : ℕ) (s : Service) (numbers : List PortNumber)
    → list_all (λ m. holds_port m.udp m.number s) numbers ≡ true → Has (numbers_given udp numbers) n
    → holds_port udp n s ≡ true
given-held udp n s numbers all h =
    let from =
    Has-map_cases (λ (m : PortNumber). m.number) (filter (λ (m : PortNumber). same_bool m.udp udp) numbers) n h in
    let at = Has-filter_cases (λ (m : PortNumber). same_bool m.udp udp) numbers from.0 from.1 in
    let own = of-all (λ (m : PortNumber). holds_port m.udp m.number s) numbers from.0 all at.0 in
    subst (λ k. holds_port udp k s ≡ true) from.2
    (subst (λ b. holds_port b from.0.number s ≡ true) (same_bool_is from.0.udp udp at.1) own)

held-on : (udp : Bool) (n : ℕ) (s old : Service) → holds_all s old ≡ true → Has (ports_held udp old) n
    → Has (ports_held udp s) n
held-on udp n s old all h =
    let named = list_all (λ (p : Port). holds_number s p.udp p.number) in
    let given = list_all (λ (m : PortNumber). holds_port m.udp m.number s) old.numbers in
    let three = both_are (named old.spec.ports && named (ports_of old.previous)) given all in
    let two = both_are (named old.spec.ports) (named (ports_of old.previous)) three.0 in
    let here = numbers_named udp old.spec.ports in
    let before = numbers_named udp (ports_of old.previous) in
    in-held udp n s
    (elim (Has-append_cases (here ++ before) (numbers_given udp old.numbers) n h) [
      | inl k ↦ (elim (Has-append_cases here before n k) [
        | inl a ↦ named-held udp n s old.spec.ports two.0 a
        | inr b ↦ named-held udp n s (ports_of old.previous) two.1 b
      ])
      | inr c ↦ given-held udp n s old.numbers three.1 c
    ])

-- a service that is put and sets none free
all-held : (t : Tables) (s old : Service) → row_at service_id s.id t.services ≡ Some old → frees_number t s ≡ false
    → holds_all s old ≡ true
all-held t s old row frees =
    go (holds_all s old) (sym (ap (is_some_and (λ z. not (holds_all s z))) row) ∙ frees)
  where
    go : (b : Bool) → not b ≡ false → b ≡ true
    go true e = refl
    go false e = absurd cc

-- More numbers are held, and no first one gets free.

gap-least : (from k : ℕ) (ks : List ℕ) → from ≤ k → ¬ (Has ks k) → first_gap from ks ≤ k
gap-least from k [] le out = le
gap-least from k (j ∷ ks) le out =
    go (ltb j from) (eqb j from) refl (gap-least from k ks le (λ h. out (inr h)))
    (λ more. gap-least (from + 1) k ks more (λ h. out (inr h)))
  where
    further : (b : Bool) → eqb from k ≡ b → j ≡ from → from + 1 ≤ k
    further true e is = let same : from ≡ k = grind (arith, nat_tests, e) in absurd (out (inl (is ∙ same)))
    further false e is = grind (arith, nat_tests, e, le)

    go : (a b : Bool) → eqb j from ≡ b → first_gap from ks ≤ k → (from + 1 ≤ k → first_gap (from + 1) ks ≤ k)
        → cond a (first_gap from ks) (cond b (first_gap (from + 1) ks) from) ≤ k
    go true b e below next = below
    go false true e below next = next (further (eqb from k) refl (grind (arith, nat_tests, e)))
    go false false e below next = le

free-before : (low high : ℕ) (before after : List ℕ) → ((n : ℕ) → Has before n → Has after n)
    → is_some (first_free low high after) ≡ true → is_some (first_free low high before) ≡ true
free-before low high before after held free =
    go (first_gap low (rising before)) (first_gap low (rising after))
    (gap-least low (first_gap low (rising after)) (rising before) (first_gap-ge low (rising after))
    (λ h.
    first_gap-free low (rising after) (rising-rises after)
    (rising-has after (first_gap low (rising after))
    (held (first_gap low (rising after)) (rising-cases before (first_gap low (rising after)) h)))))
    free
  where
    go : (g k : ℕ) → g ≤ k → is_some (cond (leb k high) (Some k) None) ≡ true
        → is_some (cond (leb g high) (Some g) None) ≡ true
    go g k le e = grind (arith, nat_tests, le, e)

had-free : (t : Tables) (cs : List Change) → RisesFrom service_id 0 t.services
    → ((s : Service) → Has cs (change.PutService s) → frees_number t s ≡ false) → HadFreePort t (apply_changes t cs)
had-free t cs rises none udp =
    free-before first_port last_port (flat_map (ports_held udp) t.services)
    (flat_map (ports_held udp) (apply_changes t cs).services) held
  where
    there : (id n : ℕ) (s : Service) → row_at service_id id (apply_changes t cs).services ≡ Some s
        → Has (ports_held udp s) n → Has (flat_map (ports_held udp) (apply_changes t cs).services) n
    there id n s row h =
        Has-flat_map (ports_held udp) (apply_changes t cs).services s n
        (Has-from_row_at service_id id (apply_changes t cs).services s row).0 h

    held : (n : ℕ) → Has (flat_map (ports_held udp) t.services) n
        → Has (flat_map (ports_held udp) (apply_changes t cs).services) n
    held n h =
        let from = Has-flat_map_cases (ports_held udp) t.services n h in
        let row = row_at-Some service_id 0 t.services from.0 rises from.1 in
        elim (services-made cs t from.0.id) [
          | inl same ↦ there from.0.id n from.0 (same ∙ row) from.2
          | inr put ↦
              there from.0.id n put.1 put.5
              (held-on udp n put.1 from.0
              (all-held t put.1 from.0 (ap (λ k. row_at service_id k t.services) put.3 ∙ row)
              (none put.1 put.4)) from.2)
        ]

-- One change.

pub frees : (t : Tables) (c : Change) (s : Service) (span one : Span) → c ≡ change.PutService s
    → true ≡ frees_number t s → IsWider one full → HasPorts t c one
frees t c s span one is free w = record {
  service = λ z e. let same : s ≡ z = cc in subst (λ y. HasNumbered t y one) same (record { has = inl (sym free, w) });
}

pub numbered : (t : Tables) (c : Change) (s : Service) (span one : Span) → c ≡ change.PutService s
    → false ≡ frees_number t s → one ≡ with_id span s.id → HasPorts t c one
numbered t c s span one is free with-it = record {
  service = λ z e.
      let same : s ≡ z = cc in
      subst (λ y. HasNumbered t y one) same (record { has = inr (sym free, number-of s.id span one with-it) });
}

pub ruleset change_steps = (wider_not, wider_one, frees, numbered)

-- Any row of one service.

pub holds_nothing : (s : Service) → s.spec.ports ≡ [] → ports_of s.previous ≡ [] → s.numbers ≡ [] → HoldsNone s
holds_nothing s named previous given = record { named = named; previous = previous; given = given }

pub none_held : (t : Tables) (id : ℕ) (a : Service) → Some a ≡ row_at service_id id t.services → HoldsNone a
    → KeepsNumbers t id
none_held t id a row holds = record {
  none = λ s same.
      ap (is_some_and (λ old. not (holds_all s old))) (ap (λ k. row_at service_id k t.services) same ∙ sym row) ∙ all s;
}
  where
    all : (s : Service) → not (holds_all s a) ≡ false
    all s =
        let named = list_all (λ (p : Port). holds_number s p.udp p.number) in
        let given = list_all (λ (m : PortNumber). holds_port m.udp m.number s) in
        ap (λ ps. not (named ps && named (ports_of a.previous) && given a.numbers)) holds.named
        ∙ ap (λ ps. not (named [] && named ps && given a.numbers)) holds.previous
        ∙ ap (λ ns. not (named [] && named [] && given ns)) holds.given

pub none_there : (t : Tables) (id : ℕ) → None ≡ row_at service_id id t.services → KeepsNumbers t id
none_there t id row = record {
  none = λ s same.
      ap (is_some_and (λ old. not (holds_all s old))) (ap (λ k. row_at service_id k t.services) same ∙ sym row);
}

pub ruleset none_steps = (holds_nothing, none_held, none_there)

pub all_renumbered : (t : Tables) (id : ℕ) (span : Span) → IsWider span full → HasRenumbered t id span
all_renumbered t id span wide = record { has = inl wide }

pub one_renumbered : (t : Tables) (id : ℕ) (span one : Span) → KeepsNumbers t id → one ≡ with_id span id
    → HasRenumbered t id one
one_renumbered t id span one keeps with-it = record {
  has = inr (λ s same. record {
    has = inr (keeps.none s same, subst (HasNumber one) (sym same) (number-of id span one with-it));
  });
}

pub ruleset anew_steps = (wider_one, all_renumbered, one_renumbered)

-- All changes.

numbered-wider : (t : Tables) (c : Change) (span wide : Span) → IsWider wide span → HasPorts t c span
    → HasPorts t c wide
numbered-wider t c span wide w ports = record {
  service = λ s e. record {
    has = elim ((ports.service s e).has) [
      | inl two ↦ inl (two.0, wider_yet full span wide two.1 w)
      | inr two ↦ inr (two.0, number-wider s.id span wide w two.1)
    ];
  };
}

pub touching_begins : (t : Tables) (all : List Change) (span : Span) → Touching (HasPorts t) all all span span
touching_begins t all span = record { wider = wider_not span; each = λ c h. inr h }

pub touching_goes_on : (t : Tables) (all left rest : List Change) (first span wide : Span) (c : Change)
    → Touching (HasPorts t) all left first span → left ≡ c ∷ rest → IsWider wide span → HasPorts t c wide
    → Touching (HasPorts t) all rest first wide
touching_goes_on t all left rest first span wide c a step w has =
    touching_next all left rest first span wide c (λ d. numbered-wider t d span wide w) a step w has

pub touching_wider : (t : Tables) (all left : List Change) (first span : Span)
    → Touching (HasPorts t) all left first span → IsWider span first
touching_wider t all left first span a = a.wider

pub touching_ends : (t : Tables) (all left : List Change) (first span : Span) → IsUsable t
    → Touching (HasPorts t) all left first span → length left ≡ 0 → IsUsable (apply_changes t all)
    → HasForPorts span t (apply_changes t all)
touching_ends t all left first span before a none after = record { services = λ s h. go s h }
  where
    put : (s : Service) → Has all (change.PutService s) → HasNumbered t s span
    put s h = (touched-all all left first span a none (change.PutService s) h).service s refl

    own : (s z : Service) → Has (apply_changes t all).services s → HasNumbered t z span → z.id ≡ s.id
        → is_in span s.id ≡ true
    own s z h numbers same =
        elim numbers.has [
          | inl two ↦ two.1.has s.id (each-full (apply_changes t all) after s h)
          | inr two ↦
              let positive = number_above service_id 0 (apply_changes t all).services s after.sound.ordered.services h in
              subst (λ k. is_in span k ≡ true) same (two.1 (subst (λ k. 0 < k) (sym same) positive))
        ]

    -- one that the span hasn't shows that no number got free
    frees-none : (s : Service) → Has (apply_changes t all).services s → is_in span s.id ≡ false → (z : Service)
        → Has all (change.PutService z) → frees_number t z ≡ false
    frees-none s h out z k =
        elim ((put z k).has) [
          | inl two ↦ never-both (is_in span s.id) out (two.1.has s.id (each-full (apply_changes t all) after s h))
          | inr two ↦ two.0
        ]

    as-before : (s : Service) → Has (apply_changes t all).services s
        → row_at service_id s.id (apply_changes t all).services ≡ row_at service_id s.id t.services
        → (b : Bool) → is_in span s.id ≡ b → (is_in span s.id ≡ true) ⊎ (Has t.services s × HadFreePort t (apply_changes t all))
    as-before s h same true e = inl e
    as-before s h same false e =
        let row = row_at-Some service_id 0 (apply_changes t all).services s after.sound.ordered.services h in
        inr (
          (Has-from_row_at service_id s.id t.services s (sym same ∙ row)).0,
          had-free t all before.sound.ordered.services (frees-none s h e),
        )

    go : (s : Service) → Has (apply_changes t all).services s
        → (is_in span s.id ≡ true) ⊎ (Has t.services s × HadFreePort t (apply_changes t all))
    go s h =
        elim (services-made all t s.id) [
          | inl same ↦ as-before s h same (is_in span s.id) refl
          | inr made ↦ inl (own s made.1 h (put made.1 made.4) made.3)
        ]

pub ruleset all_steps = (touching_begins, touching_goes_on, touching_wider)
