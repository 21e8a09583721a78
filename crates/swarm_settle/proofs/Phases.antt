-- An agent's first phase stands for all of its executors' phases among what is waited for.
use Rattle.std.proofs.Common.{Bool, List, None, Option, Some, [], ap, arith, cond, false, map, refl, sym, true, ℕ, ◌++◌, ◌<◌, ◌∙◌, ◌∷◌, ◌≡◌, ◌≤◌}
use Rattle.std.proofs.lemmas.Bool.Decides.{nat_tests}
use Rattle.std.proofs.lemmas.Cmp.{nat_cmp_total}
use Rattle.std.proofs.lemmas.List.MinMax.{ranks_by}
use Rattle.std.specs.Cmp.{IsStrictWeakOrder, IsTotalOrder, on_total, then_total}
use Rattle.std.specs.Option.{option_map}
use Rattle.std.specs.Ordering.{is_lt}
use Rattle.std.specs.Prelude.{IfSome, flat_map, option_to_list}
use Rattle.swarm_agent.specs.Agent.{AgentState, at_node, least_phase, phase_cmp, phases}
use Rattle.swarm_agent.specs.Agents.{agent_row}
use Rattle.swarm_agent.specs.Times.{TimesLaw, seen, seen_agent}
use Rattle.swarm_model.specs.Settle.{Wait, cause_number, executor_wait, phase_wait, wait, wait_cmp, wait_till}
use Rattle.swarm_objects.specs.Agents.Executors.{phase_time}
use Rattle.swarm_objects.specs.Loops.Agents.{is_mode_on}
use Rattle.swarm_objects.specs.Rows.{keep_least, least_by}
use Rattle.swarm_objects.specs.declared.agents.Executor.{Executor}
use Rattle.swarm_objects.specs.declared.agents.NodeAgent.{NodeAgent}
use Rattle.swarm_objects.specs.declared.duties.Cause.TheVariants as cause
use Rattle.swarm_settle.proofs.LeastWaits.{least_step}
use Rattle.swarm_settle.specs.Phases.{EndsBefore, awaited_phase, kept}

wait_total : IsTotalOrder wait_cmp
wait_total =
    then_total (on_total (λ (w : Wait). w.time) nat_cmp_total)
    (then_total (on_total (λ (w : Wait). cause_number w.cause) nat_cmp_total) (on_total (λ (w : Wait). w.id) nat_cmp_total))

abbrev pub is_sooner : Wait → Wait → Bool
is_sooner a b = is_lt (wait_cmp a b)

pub sooner_ranks : IsStrictWeakOrder is_sooner
sooner_ranks = ranks_by wait_total (λ (w : Wait). w)

sooner_chain : (a b c : Wait) → is_sooner a b ≡ true → is_sooner b c ≡ true → is_sooner a c ≡ true
sooner_chain a b c e f = go (is_sooner a c) refl
  where
    go : (d : Bool) → is_sooner a c ≡ d → d ≡ true
    go true k = refl
    go false k = let no' = sym e ∙ sooner_ranks.chain a c b k (sooner_ranks.one_way b c f) in absurd cc

-- Keeping one and then another is keeping the sooner of the two.

kept_twice : (b q p : Wait) → keep_least wait_cmp (keep_least wait_cmp (Some b) q) p
    ≡ cond (is_sooner p q) (keep_least wait_cmp (Some b) p) (keep_least wait_cmp (Some b) q)
kept_twice b q p = go (is_sooner q b) refl (is_sooner p q) refl (is_sooner p b) refl
  where
    go : (m : Bool) → is_sooner q b ≡ m → (n : Bool) → is_sooner p q ≡ n → (o : Bool) → is_sooner p b ≡ o →
        keep_least wait_cmp (cond m (Some q) (Some b)) p
        ≡ cond n (cond o (Some p) (Some b)) (cond m (Some q) (Some b))
    go true e true f true g = ap (λ (x : Bool). cond x (Some p) (Some q)) f
    go true e true f false g = let no' = sym (sooner_chain p q b f e) ∙ g in absurd cc
    go true e false f o g = ap (λ (x : Bool). cond x (Some p) (Some q)) f
    go false e true f o g = ap (λ (x : Bool). cond x (Some p) (Some b)) g
    go false e false f true g = let no' = sym (sooner_ranks.chain p q b f e) ∙ g in absurd cc
    go false e false f false g = ap (λ (x : Bool). cond x (Some p) (Some b)) g

-- The least of phases.

kept_next : (best : Option Wait) (o : Option (ℕ × ℕ)) (p : ℕ × ℕ) →
    keep_least wait_cmp (kept best o) (awaited_phase p) ≡ kept best (keep_least phase_cmp o p)
kept_next best None p = refl
kept_next None (Some q) p = go (is_lt (phase_cmp p q))
  where
    go : (b : Bool) → cond b (Some (awaited_phase p)) (Some (awaited_phase q)) ≡ kept None (cond b (Some p) (Some q))
    go true = refl
    go false = refl
kept_next (Some b) (Some q) p = kept_twice b (awaited_phase q) (awaited_phase p) ∙ go (is_lt (phase_cmp p q))
  where
    go : (n : Bool) →
        cond n (keep_least wait_cmp (Some b) (awaited_phase p)) (keep_least wait_cmp (Some b) (awaited_phase q))
        ≡ kept (Some b) (cond n (Some p) (Some q))
    go true = refl
    go false = refl

kept_all : (best : Option Wait) (o : Option (ℕ × ℕ)) (ps : List (ℕ × ℕ)) →
    least_by wait_cmp (kept best o) (map awaited_phase ps) ≡ kept best (least_by phase_cmp o ps)
kept_all best o [] = refl
kept_all best o (p ∷ ps) =
    ap (λ x. least_by wait_cmp x (map awaited_phase ps)) (kept_next best o p)
    ∙ kept_all best (keep_least phase_cmp o p) ps

-- The executors of an agent, as it is seen.

phase_seen : TimesLaw → (e : Executor) → phase_wait (seen e) ≡ phase_wait e
phase_seen law e =
    ap (λ task. wait_till cause.Executor task (phase_time (seen e))) (law.task e)
    ∙ ap (wait_till cause.Executor e.task) (law.phase e)

pub phases_seen : TimesLaw → (es : List Executor) → flat_map phase_wait (map seen es) ≡ flat_map phase_wait es
phases_seen law [] = refl
phases_seen law (e ∷ es) =
    ap (λ ws. ws ++ flat_map phase_wait (map seen es)) (phase_seen law e)
    ∙ ap (λ ws. phase_wait e ++ ws) (phases_seen law es)

awaited_phases : (es : List Executor) → flat_map phase_wait es ≡ map awaited_phase (phases es)
awaited_phases [] = refl
awaited_phases (e ∷ es) = go (phase_time e) (awaited_phases es)
  where
    go : (o : Option ℕ) → flat_map phase_wait es ≡ map awaited_phase (phases es) →
        wait_till cause.Executor e.task o ++ flat_map phase_wait es
        ≡ map awaited_phase (option_to_list (option_map (λ time. (time, e.task)) o) ++ phases es)
    go None rest = rest
    go (Some time) rest = ap (λ ws. wait cause.Executor e.task time ∷ ws) rest

-- the least of the best wait and the phases of an agent that is on, by its first one
pub first_phase : TimesLaw → (best : Option Wait) (a : AgentState) (node : ℕ) → is_mode_on a.mode ≡ true →
    least_by wait_cmp best (executor_wait (seen_agent (at_node node a))) ≡ kept best (least_phase a.executors)
first_phase law best a node on =
    ap (λ b. least_by wait_cmp best (cond b (flat_map phase_wait (map seen a.executors)) [])) on
    ∙ ap (least_by wait_cmp best) (phases_seen law a.executors ∙ awaited_phases a.executors)
    ∙ kept_all best None (phases a.executors)

-- what is kept of it
pub phase_kept : TimesLaw → (best : Option Wait) (a : AgentState) (first : Option (ℕ × ℕ)) (result : Option Wait) →
    is_mode_on a.mode ≡ true → first ≡ least_phase a.executors → result ≡ kept best first → (node : ℕ) →
    result ≡ least_by wait_cmp best (executor_wait (seen_agent (at_node node a)))
phase_kept law best a first result on found made node =
    made ∙ ap (kept best) found ∙ sym (first_phase law best a node on)

-- what ends later isn't kept
later_first : (p : ℕ × ℕ) (b : Wait) → b.time < p.0 → is_sooner (awaited_phase p) b ≡ false
later_first p b later = grind (arith, nat_tests, later)

kept_before : (best : Option Wait) (first : Option (ℕ × ℕ)) (time : ℕ) → EndsBefore best time →
    IfSome first (λ phase. time ≤ phase.0) → best ≡ kept best first
kept_before None first time before later = absurd before
kept_before (Some b) None time before later = refl
kept_before (Some b) (Some p) time before later = go (is_sooner (awaited_phase p) b) refl
  where
    go : (c : Bool) → is_sooner (awaited_phase p) b ≡ c → Some b ≡ cond c (Some (awaited_phase p)) (Some b)
    go false e = refl
    go true e = let no' : true ≡ false = sym e ∙ later_first p b (omega (arith, before, later)) in absurd cc

pub nothing_kept : TimesLaw → (best : Option Wait) (a : AgentState) (time : ℕ) → is_mode_on a.mode ≡ true →
    EndsBefore best time → IfSome (least_phase a.executors) (λ phase. time ≤ phase.0) → (node : ℕ) →
    best ≡ least_by wait_cmp best (executor_wait (seen_agent (at_node node a)))
nothing_kept law best a time on before later =
    phase_kept law best a (least_phase a.executors) best on refl (kept_before best (least_phase a.executors) time before later)

-- one agent more is gone through
pub agent_step : (f : NodeAgent → List Wait) (left rest : List (ℕ × AgentState)) (node : ℕ) (a : AgentState)
    (best next whole : Option Wait) → left ≡ (node, a) ∷ rest →
    next ≡ least_by wait_cmp best (f (seen_agent (at_node node a))) →
    least_by wait_cmp best (flat_map f (map agent_row left)) ≡ whole →
    least_by wait_cmp next (flat_map f (map agent_row rest)) ≡ whole
agent_step f left rest node a best next whole is made so =
    least_step wait_cmp f (map agent_row left) (map agent_row rest) (agent_row (node, a)) best next whole
    (ap (map agent_row) is) made so
