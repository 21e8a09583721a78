-- The command as clap reads it, and what it finds of each form.
use Rattle.std.specs.Prelude.{ℕ, List, Bool, codes, Option, Some, None, true, false, if◌then◌else◌, option_and_then, option_map}
use Rattle.std.specs.Option.{option_eq}
use Rattle.std.specs.Str.{bytes_eq}
use Rattle.clap.specs.Words.{App, Row, Rule, Text, first_of, new_app, new_rule, with_rule, with_subcommand}
use Rattle.clap.specs.declared.builder.ArgAction.TheVariants.{Set, SetTrue}
use Rattle.swarm_objects.specs.Same.{same_number}
use Rattle.swarm_command.specs.CommandLine.{is_replay, made_number, run_number, run_workers, script_number, usual_workers, workers_number}
use Rattle.swarm_command.specs.declared.forms.Form.{Form}
use Rattle.swarm_command.specs.declared.forms.Form.TheVariants.{Run, Replay, Make, MakeRun}

abbrev pub workers_rule : Rule
workers_rule = record (new_rule (codes "workers")) { long = Some (codes "workers"); action = Some Set }

abbrev pub run_app : App
run_app = with_rule (new_app (codes "run")) workers_rule

abbrev pub number_rule : Rule
number_rule = record (new_rule (codes "number")) { action = Some Set; required = true }

abbrev pub run_rule : Rule
run_rule = record (new_rule (codes "run")) { long = Some (codes "run"); action = Some SetTrue }

abbrev pub make_app : App
make_app = with_rule (with_rule (new_app (codes "make")) number_rule) run_rule

-- neither help nor a version, and the words begin after the program's name
abbrev pub bare : App → App
bare app = record app {
  top = record app.top {
    no_binary_name = true;
    disable_help_flag = true;
    disable_help_subcommand = true;
    subcommand_required = true;
  };
}

abbrev pub swarm_app : App
swarm_app =
    with_subcommand (with_subcommand (with_subcommand (bare (new_app (codes "swarm"))) run_app.top)
    (new_app (codes "replay")).top) make_app.top

-- the words are a spelling of the form
abbrev pub spells : Form → List Text → Bool
spells (Run workers) words = option_eq same_number (run_workers words) (Some workers)
spells Replay words = is_replay words
spells (Make number) words = option_eq same_number (made_number words) (Some number)
spells (MakeRun number) words = option_eq same_number (run_number words) (Some number)

-- the form of a number of workers, if that is given
abbrev pub run_form : Option Text → Option Form
run_form None = Some (Run usual_workers)
run_form (Some number) = option_map Run (workers_number number)

-- the flag is set
abbrev pub is_set : Option Text → Bool
is_set None = false
is_set (Some value) = bytes_eq value (codes "true")

-- the form of a script's number, where there is one, with this flag
abbrev pub made_form : Option ℕ → Option Text → Option Form
made_form None run = None
made_form (Some number) run = if is_set run then Some (MakeRun number) else Some (Make number)

-- the form of a subcommand with these values of its arguments
abbrev pub named_form : Text → Option Text → Option Text → Option Text → Option Form
named_form name workers number run =
    if bytes_eq name (codes "run") then run_form workers
    else (if bytes_eq name (codes "replay") then Some Replay
    else (if bytes_eq name (codes "make") then made_form (option_and_then script_number number) run
    else None))

-- the form of the subcommand that was found, and of its arguments
abbrev pub found_form : Option (Text × List Row) → Option Form
found_form None = None
found_form (Some found) =
    named_form found.0 (first_of (codes "workers") found.1) (first_of (codes "number") found.1)
    (first_of (codes "run") found.1)
