use Rattle.trials_store.proofs.store.txn.Goals as goal

pub returns-clause-done : goal.returns-clause-done
returns-clause-done c = c.txn-done.ensures.done
