-- What operations make of what a store holds.
use Rattle.std.specs.Prelude.{ℕ, List, Result, Ok, Err}
use Rattle.swarm_model.specs.Calls.Refusals.{Done}
use Rattle.swarm_objects.specs.World.{Tables, World}
use Rattle.swarm_objects.specs.declared.replies.Refusal.{Refusal}
use Rattle.swarm_store.specs.Stored.{without_sessions}

-- the tables after an operation and the id of its object, or its refusal
abbrev pub made : Done → Result (Tables × ℕ) Refusal
made (Ok done) = Ok (without_sessions done.0.tables, done.1)
made (Err r) = Err r

-- and after all of a transaction
abbrev pub made_all : Result (World × List ℕ) Refusal → Result (Tables × List ℕ) Refusal
made_all (Ok done) = Ok (without_sessions done.0.tables, done.1)
made_all (Err r) = Err r
