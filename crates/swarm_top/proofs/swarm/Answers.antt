use Rattle.std.proofs.Common.{arith, map, string_bytes}
use Rattle.swarm_command.specs.CommandLine.{form_of}
use Rattle.swarm_replay.proofs.Unread.{is_no_replay}
use Rattle.swarm_top.proofs.Asking.{few_asked, made_asked, makes_it, makes_run, no_make, no_make_run, none_made, none_ran, ran_asked, reads_as, reads_none, runs_beside}
use Rattle.swarm_top.proofs.Whole.{is_no_run_at}
use Rattle.swarm_top.proofs.swarm.Goals as goal

pub run_script-requires-after_bounds : goal.run_script-requires-after_bounds
run_script-requires-after_bounds g c = λ bounds outlive.
    few_asked (map (λ word. string_bytes word) c.args.words.now) _ _ c.in-Ok-Run.ensures c.in-Ok-Run.field-0-is

pub make-requires : goal.make-requires
make-requires g c =
    made_asked (map (λ word. string_bytes word) c.args.words.now) _ _ c.in-Ok-Make.ensures c.in-Ok-Make.field-0-is

pub make_run-requires-after_bounds : goal.make_run-requires-after_bounds
make_run-requires-after_bounds g c = λ bounds outlive.
    ran_asked (map (λ word. string_bytes word) c.args.words.now) _ _ c.in-Ok-MakeRun.ensures c.in-Ok-MakeRun.field-0-is

pub returns-in-Ok-Run-clause-run : goal.returns-in-Ok-Run-clause-run
returns-in-Ok-Run-clause-run g c =
    runs_beside (map (λ word. string_bytes word) c.args.words.now) _ _ _ _ _ _ c.in-Ok-Run.ensures c.in-Ok-Run.field-0-is c.run_script.ensures.run

pub returns-in-Ok-Make-clause-make : goal.returns-in-Ok-Make-clause-make
returns-in-Ok-Make-clause-make g c =
    makes_it (map (λ word. string_bytes word) c.args.words.now) _ _ _ _ c.in-Ok-Make.ensures c.in-Ok-Make.field-0-is c.make.ensures.make

pub returns-in-Ok-MakeRun-clause-make_run : goal.returns-in-Ok-MakeRun-clause-make_run
returns-in-Ok-MakeRun-clause-make_run g c =
    makes_run (map (λ word. string_bytes word) c.args.words.now) _ _ _ _ c.in-Ok-MakeRun.ensures c.in-Ok-MakeRun.field-0-is c.make_run.ensures.make_run

pub returns-in-Ok-Run-clause-make : goal.returns-in-Ok-Run-clause-make
returns-in-Ok-Run-clause-make g c =
    λ number e. absurd (no_make (map (λ word. string_bytes word) c.args.words.now) _
    (reads_as (form_of (map (λ word. string_bytes word) c.args.words.now)) _ _ c.in-Ok-Run.ensures c.in-Ok-Run.field-0-is)
    (λ h. omega (arith, h)) number e)

pub returns-in-Ok-Replay-clause-make : goal.returns-in-Ok-Replay-clause-make
returns-in-Ok-Replay-clause-make g c =
    λ number e. absurd (no_make (map (λ word. string_bytes word) c.args.words.now) _
    (reads_as (form_of (map (λ word. string_bytes word) c.args.words.now)) _ _ c.in-Ok-Replay.ensures c.in-Ok-Replay.field-0-is)
    (λ h. omega (arith, h)) number e)

pub returns-in-Ok-MakeRun-clause-make : goal.returns-in-Ok-MakeRun-clause-make
returns-in-Ok-MakeRun-clause-make g c =
    λ number e. absurd (no_make (map (λ word. string_bytes word) c.args.words.now) _
    (reads_as (form_of (map (λ word. string_bytes word) c.args.words.now)) _ _ c.in-Ok-MakeRun.ensures c.in-Ok-MakeRun.field-0-is)
    (λ h. omega (arith, h)) number e)

pub returns-in-Ok-Run-clause-make_run : goal.returns-in-Ok-Run-clause-make_run
returns-in-Ok-Run-clause-make_run g c =
    λ number e. absurd (no_make_run (map (λ word. string_bytes word) c.args.words.now) _
    (reads_as (form_of (map (λ word. string_bytes word) c.args.words.now)) _ _ c.in-Ok-Run.ensures c.in-Ok-Run.field-0-is)
    (λ h. omega (arith, h)) number e)

pub returns-in-Ok-Replay-clause-make_run : goal.returns-in-Ok-Replay-clause-make_run
returns-in-Ok-Replay-clause-make_run g c =
    λ number e. absurd (no_make_run (map (λ word. string_bytes word) c.args.words.now) _
    (reads_as (form_of (map (λ word. string_bytes word) c.args.words.now)) _ _ c.in-Ok-Replay.ensures c.in-Ok-Replay.field-0-is)
    (λ h. omega (arith, h)) number e)

pub returns-in-Ok-Make-clause-make_run : goal.returns-in-Ok-Make-clause-make_run
returns-in-Ok-Make-clause-make_run g c =
    λ number e. absurd (no_make_run (map (λ word. string_bytes word) c.args.words.now) _
    (reads_as (form_of (map (λ word. string_bytes word) c.args.words.now)) _ _ c.in-Ok-Make.ensures c.in-Ok-Make.field-0-is)
    (λ h. omega (arith, h)) number e)

pub returns-in-Err-Other-clause-words : goal.returns-in-Err-Other-clause-words
returns-in-Err-Other-clause-words g c = (
  λ e. reads_none (form_of (map (λ word. string_bytes word) c.args.words.now)) _ c.in-Err-Other.ensures c.in-Err-Other.field-0-is,
  λ none. c.show_usage.ensures.status,
)

pub returns-in-Err-Other-clause-make : goal.returns-in-Err-Other-clause-make
returns-in-Err-Other-clause-make g c =
    λ number e. absurd (none_made (map (λ word. string_bytes word) c.args.words.now)
    (reads_none (form_of (map (λ word. string_bytes word) c.args.words.now)) _ c.in-Err-Other.ensures c.in-Err-Other.field-0-is) number e)

pub returns-in-Err-Other-clause-make_run : goal.returns-in-Err-Other-clause-make_run
returns-in-Err-Other-clause-make_run g c =
    λ number e. absurd (none_ran (map (λ word. string_bytes word) c.args.words.now)
    (reads_none (form_of (map (λ word. string_bytes word) c.args.words.now)) _ c.in-Err-Other.ensures c.in-Err-Other.field-0-is) number e)

pub returns-in-Err-NoMemory-clause-run : goal.returns-in-Err-NoMemory-clause-run
returns-in-Err-NoMemory-clause-run g c =
    λ workers asked. is_no_run_at workers _ _ _ _ _ _ c.status.result c.status.ensures

pub returns-in-Err-NoMemory-clause-replay : goal.returns-in-Err-NoMemory-clause-replay
returns-in-Err-NoMemory-clause-replay g c =
    λ asked. is_no_replay _ _ _ _ c.status.result c.status.ensures
