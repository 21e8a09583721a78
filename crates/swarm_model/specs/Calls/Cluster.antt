-- The operation on the settings of the cluster.
use Rattle.std.specs.Prelude.{find}
use Rattle.swarm_model.specs.Calls.Refusals.{bad_spec, Done}
use Rattle.swarm_objects.specs.Refusals.{unless}
use Rattle.swarm_objects.specs.Changes.{with_tables}
use Rattle.swarm_objects.specs.Rules.Settings.{settings_break, settings_rules}
use Rattle.swarm_objects.specs.World.{World}
use Rattle.swarm_objects.specs.declared.settings.Settings.{Settings}

abbrev pub set_cluster : World → Settings → Done
set_cluster w settings =
    unless (bad_spec (find (settings_break settings) settings_rules))
    (with_tables w (record w.tables { settings = settings }), 0)
