-- Spans of the agents' loop that end with the last agent.
use Rattle.std.proofs.Common.{List, [], ap, arith, inl, inr, refl, subst, sym, true, ℕ, ◌<◌, ◌∙◌, ◌∷◌, ◌≡◌, ◌≤◌}
use Rattle.std.proofs.lemmas.Bool.Decides.{nat_tests}
use Rattle.std.specs.Prelude.{map, min, nat_le, ◌&&◌, ◌++◌}
use Rattle.swarm_agent.specs.Agent.{AgentState}
use Rattle.swarm_agent.specs.Agents.{agent_row}
use Rattle.swarm_objects.proofs.RowLemmas.{number_above}
use Rattle.swarm_objects.proofs.Tests.{both, both_are, same_test}
use Rattle.swarm_objects.specs.Rows.{Has, RisesFrom, agent_node}
use Rattle.swarm_objects.specs.World.{World}
use Rattle.swarm_objects.specs.declared.agents.NodeAgent.{NodeAgent}
use Rattle.swarm_spans.proofs.Grown.{bit-of, high-end, is-between, low-end}
use Rattle.swarm_spans.specs.Spans.{is_in}
use Rattle.swarm_spans.specs.declared.span.Span.{Span}
use Rattle.swarm_world.specs.Inside.Looks.{AreSpanned, before_on, is_restless}
use Rattle.swarm_world.specs.Inside.Spanned.{AreEnded, AreUpTo, IsEnded}
use Rattle.swarm_world.specs.declared.agent_spans.AgentSpans.{AgentSpans}

-- A span that is cut off.

pub cut_off : (span : Span) (last id : ℕ) →
    is_in (record span { high = min span.high last }) id ≡ (is_in span id && nat_le id last)
cut_off span last id =
    same_test (is_in cut id) (is_in span id && nat_le id last)
    (λ within. let below : nat_le id last ≡ true = le-is id last (omega (arith, high-end cut id within)) in
    both (is_in span id) (nat_le id last)
    (is-between span id (low-end cut id within) (omega (arith, high-end cut id within)) (bit-of cut id within)) below)
    (λ parts. let two = both_are (is_in span id) (nat_le id last) parts in
    let below : id ≤ last = is-le id last two.1 in
    is-between cut id (low-end span id two.0) (omega (arith, below, high-end span id two.0)) (bit-of span id two.0))
  where
    cut : Span
    cut = record span { high = min span.high last }

    le-is : (a b : ℕ) → a ≤ b → nat_le a b ≡ true
    le-is a b le = grind (arith, nat_tests, le)

    is-le : (a b : ℕ) → nat_le a b ≡ true → a ≤ b
    is-le a b e = grind (arith, nat_tests, e)

pub cut_is : (span ended : Span) (last : ℕ) → ended ≡ record span { high = min span.high last } → IsEnded last span ended
cut_is span ended last is = record {
  is = λ id. ap (λ (s : Span). is_in s id) is ∙ cut_off span last id;
}

-- it has each number up to the end that it had
kept : (last : ℕ) (span ended : Span) (id : ℕ) → IsEnded last span ended → id ≤ last → is_in span id ≡ true →
    is_in ended id ≡ true
kept last span ended id ends below within =
    ends.is id ∙ both (is_in span id) (nat_le id last) within (grind (arith, nat_tests, below))

pub still_spanned : (agents : List NodeAgent) (last : ℕ) (spans ended : AgentSpans) (w : World) → AreUpTo agents last →
    AreEnded last spans ended → AreSpanned w spans agents → AreSpanned w ended agents
still_spanned agents last spans ended w is ends covers = record {
  duties = record { has = λ a h owes. kept last spans.duties ended.duties a.node ends.duties (is.each a h) (covers.duties.has a h owes) };
  sleeps = record {
    has = λ a h restless.
        kept last spans.duties ended.duties a.node ends.duties (is.each a h)
        (covers.sleeps.has a h (subst (λ k. is_restless k w a ≡ true) ends.wakes restless));
  };
  tells = record { has = λ a h wants. kept last spans.tells ended.tells a.node ends.tells (is.each a h) (covers.tells.has a h wants) };
  news = record { has = λ a h unsaid. kept last spans.news ended.news a.node ends.news (is.each a h) (covers.news.has a h unsaid) };
  waits = record { has = λ a h waits. kept last spans.waits ended.waits a.node ends.waits (is.each a h) (covers.waits.has a h waits) };
  steps = λ a h. record {
    has = λ e there before.
        (covers.steps a h).has e there (subst (λ s. e.task < before_on s a.node) ends.steps before);
  };
}

-- The last of the agents is that of the greatest node.

last-there : (rest : List (ℕ × AgentState)) (a : ℕ × AgentState) → Has (map agent_row (rest ++ a ∷ [])) (agent_row a)
last-there [] a = inl refl
last-there (r ∷ rest) a = inr (last-there rest a)

none-above : (least : ℕ) (rest : List (ℕ × AgentState)) (a : ℕ × AgentState) →
    RisesFrom agent_node least (map agent_row (rest ++ a ∷ [])) → (x : NodeAgent) →
    Has (map agent_row (rest ++ a ∷ [])) x → x.node ≤ a.0
none-above least [] a rises x (inl same) = (let is = ap agent_node same in omega (arith, is))
none-above least [] a rises x (inr h) = absurd h
none-above least (r ∷ rest) a rises x (inl same) =
    let rows = map agent_row (rest ++ a ∷ []) in
    let above = number_above agent_node r.0 rows (agent_row a) rises.1 (last-there rest a) in
    let is = ap agent_node same in omega (arith, above, is)
none-above least (r ∷ rest) a rises x (inr h) = none-above r.0 rest a rises.1 x h

pub last_is : (agents : List NodeAgent) (rest : List (ℕ × AgentState)) (a : ℕ × AgentState) →
    RisesFrom agent_node 0 agents → map agent_row (rest ++ a ∷ []) ≡ agents → AreUpTo agents a.0
last_is agents rest a rises is = record {
  each = λ x h.
      none-above 0 rest a (subst (λ (rows : List NodeAgent). RisesFrom agent_node 0 rows) (sym is) rises) x
      (subst (λ (rows : List NodeAgent). Has rows x) (sym is) h);
}

pub ruleset end_steps = (still_spanned)
