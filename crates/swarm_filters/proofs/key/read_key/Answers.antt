use Rattle.std.proofs.lemmas.Result.{IfOk-weaker}
use Rattle.swarm_filters.specs.Grammar.{HoldsExactly, IsKey}
use Rattle.swarm_filters.proofs.KeyTexts.{exact_fixed, exact_label}
use Rattle.swarm_filters.proofs.key.read_key.Goals as goal

pub returns-in-Some-clause-form : goal.returns-in-Some-clause-form
returns-in-Some-clause-form c = exact_fixed c.args.word.now c.in-Some.key c.in-Some.ensures

pub returns-in-None-clause-form : goal.returns-in-None-clause-form
returns-in-None-clause-form c = IfOk-weaker c.label_of.result _ (λ key. HoldsExactly (IsKey c.args.word.now) key) (λ key is. exact_label c.args.word.now key c.in-None.ensures is) c.label_of.ensures
