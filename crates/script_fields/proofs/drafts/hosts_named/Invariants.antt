use Rattle.std.proofs.Common.{◌≡◌, ◌++◌, drop}
use Rattle.std.specs.List.{filter_map}
use Rattle.script_grammar.specs.Drafts.{host_in}
use Rattle.script_fields.proofs.drafts.hosts_named.Given as goal

abbrev pub invariant-loop-field : goal.invariant-loop-field
invariant-loop-field l = filter_map host_in l.fields ≡ l.items ++ filter_map host_in (drop l.field-index l.fields)
