-- What a state of the parser stands for, in the text that it reads.
use Rattle.std.specs.Prelude.{ℕ, ◌≤◌, ◌-◌, IsTrue, length, List, take, drop, Option, Some, None}
use Rattle.std.specs.Str.{str_to_ascii_lowercase}
use Rattle.swarm_objects.specs.declared.templates.Key.{Key}
use Rattle.swarm_objects.specs.declared.templates.Key.TheVariants as key
use Rattle.swarm_objects.specs.declared.templates.Constraint.{Constraint}
use Rattle.swarm_filters.specs.Grammar.{IsConstraint}
use Rattle.swarm_objects.specs.Names.{is_value}
use Rattle.swarm_filters.specs.Machine.{Progress, start, in_key, in_label, after_key, in_sign, after_sign, in_value}
use Rattle.swarm_filters.specs.Machine.{finished, label_key, constraint_with}
use Rattle.swarm_filters.specs.Spellings.{key_has_text}
use Rattle.swarm_filters.specs.declared.state.Span.{Span}
use Rattle.swarm_filters.specs.declared.state.Found.{Found}
use Rattle.swarm_filters.specs.declared.state.Found.TheVariants as found
use Rattle.swarm_filters.specs.declared.state.Parts.{Parts}
use Rattle.swarm_filters.specs.declared.state.State.{State}
use Rattle.swarm_filters.specs.declared.state.State.TheVariants as state

-- the bytes from one place up to another
abbrev pub part : List ℕ → ℕ → ℕ → List ℕ
part text from end = take (end - from) (drop from text)

abbrev pub span_of : List ℕ → Span → List ℕ
span_of text s = part text s.from s.end

abbrev pub key_at : List ℕ → Found → Key
key_at text found.NodeId = key.NodeId
key_at text found.Hostname = key.Hostname
key_at text found.Role = key.Role
key_at text found.Os = key.Os
key_at text found.Arch = key.Arch
key_at text (found.Label engine s) = label_key engine (span_of text s)

abbrev pub whole_at : List ℕ → Parts → Constraint
whole_at text p = constraint_with (key_at text p.found) p.equal (span_of text p.value)

-- what was read of the text up to a place
abbrev pub shown : List ℕ → ℕ → State → Progress
shown text place state.Start = start
shown text place (state.InKey from) = in_key (str_to_ascii_lowercase (part text from place))
shown text place (state.InLabel engine from) = in_label engine (part text from place)
shown text place (state.AfterKey f) = after_key (key_at text f)
shown text place (state.InSign f equal) = in_sign (key_at text f) equal
shown text place (state.AfterSign f equal) = after_sign (key_at text f) equal
shown text place (state.InValue f equal from) = in_value (key_at text f) equal (part text from place)
shown text place (state.Finished p) = finished (whole_at text p)

abbrev pub option_shown : List ℕ → ℕ → Option State → Option Progress
option_shown text place None = None
option_shown text place (Some s) = Some (shown text place s)

-- the span lies before the place
abbrev pub SpanFits : ℕ → Span → Type 0
SpanFits place s = (s.from ≤ s.end) × (s.end ≤ place)

abbrev pub FoundFits : ℕ → Found → Type 0
FoundFits place (found.Label engine s) = SpanFits place s
FoundFits place _ = Unit {0}

abbrev pub PartsFit : ℕ → Parts → Type 0
PartsFit place p = FoundFits place p.found × SpanFits place p.value

-- all places of the state lie before the place
abbrev pub StateFits : ℕ → State → Type 0
StateFits place state.Start = Unit {0}
StateFits place (state.InKey from) = from ≤ place
StateFits place (state.InLabel engine from) = from ≤ place
StateFits place (state.AfterKey f) = FoundFits place f
StateFits place (state.InSign f equal) = FoundFits place f
StateFits place (state.AfterSign f equal) = FoundFits place f
StateFits place (state.InValue f equal from) = FoundFits place f × (from ≤ place)
StateFits place (state.Finished p) = PartsFit place p

abbrev pub OptionFits : ℕ → Option State → Type 0
OptionFits place None = Unit {0}
OptionFits place (Some s) = StateFits place s

-- the parts are the whole text
pub record PartsRead (text : List ℕ) (p : Parts) : Type 0 where
  pub fits : PartsFit (length text) p
  pub is : IsConstraint text (whole_at text p)
  pub named : IsTrue (key_has_text (key_at text p.found))
  pub valued : IsTrue (is_value (span_of text p.value))

abbrev pub option_whole : List ℕ → Option Parts → Option Constraint
option_whole text None = None
option_whole text (Some p) = Some (whole_at text p)

abbrev pub OptionPartsFit : ℕ → Option Parts → Type 0
OptionPartsFit place None = Unit {0}
OptionPartsFit place (Some p) = PartsFit place p
