use Rattle.uses_store.proofs.Standing.{stands_still}
use Rattle.uses_store.proofs.create.Goals as goal

pub returns : goal.returns
returns c = record {
  kept = λ w stands. stands_still c.args.version c.as_slice.result.now w c.args.store.now c.txn-answer.result
      c.txn-answer.new.self (c.txn-answer.ensures.done w stands) stands;
}
