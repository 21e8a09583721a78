use Rattle.std.proofs.Common.{◌≡◌, take, true}
use Rattle.std.specs.List.{list_all}
use Rattle.swarm_lines.specs.Lengths.{is_short}
use Rattle.swarm_script.specs.HasText.{has_text}
use Rattle.swarm_top.proofs.journals.all_fit.Given as goal

abbrev pub invariant-loop-entry : goal.invariant-loop-entry
invariant-loop-entry l = record {
  texts : list_all has_text (take l.entry-index l.history) ≡ true;
  lengths : list_all is_short (take l.entry-index l.history) ≡ true;
}
