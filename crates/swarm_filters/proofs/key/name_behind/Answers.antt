use Rattle.std.proofs.Common.{◌∙◌, sym}
use Rattle.swarm_filters.proofs.KeyTexts.{behind_found, behind_another, behind_nameless}
use Rattle.swarm_filters.proofs.key.name_behind.Goals as goal
use Rattle.swarm_filters.proofs.key.name_behind.Goals.{else-is_word-via-then-is_word+else-is_name, else-is_word-via-else-is_word}

pub returns-then-is_name-clause-name : goal.returns-then-is_name-clause-name
returns-then-is_name-clause-name c = behind_found c.args.prefix.now c.args.word.now c.in_ok-front.front.now c.in_ok-front.rest.now c.in_ok-front.ensures.cases.1 c.in_ok-front.ensures.cases.2 (sym c.is_word.ensures ∙ c.if-is_word.true) (sym c.is_name.ensures ∙ c.if-is_name.true)

pub returns-else-is_word-clause-name : goal.returns-else-is_word-clause-name
returns-else-is_word-clause-name c = elim c.else-is_word.branch [
  | else-is_word-via-then-is_word+else-is_name w ↦ behind_nameless c.args.prefix.now c.args.word.now c.in_ok-front.front.now c.in_ok-front.rest.now c.in_ok-front.ensures.cases.1 c.in_ok-front.ensures.cases.2 (sym c.is_word.ensures ∙ w.if-is_word.true) (sym w.is_name.ensures ∙ w.if-is_name.false)
  | else-is_word-via-else-is_word w ↦ behind_another c.args.prefix.now c.args.word.now c.in_ok-front.front.now c.in_ok-front.rest.now c.in_ok-front.ensures.cases.1 c.in_ok-front.ensures.cases.2 (sym c.is_word.ensures ∙ w.if-is_word.false)
]
