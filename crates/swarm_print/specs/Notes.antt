-- The texts of notes: why a task waits, or why its place is closed.
use Rattle.std.specs.Prelude.{ℕ, ◌+◌, nat_eq, List, [], ◌∷◌, ◌++◌, codes, decimal, if◌then◌else◌, true, false}
use Rattle.std.specs.List.{flat_map}
use Rattle.swarm_objects.specs.declared.tasks.Closed.{Closed}
use Rattle.swarm_objects.specs.declared.tasks.Closed.TheVariants.{Condition, Done, Attempts}
use Rattle.swarm_objects.specs.declared.views.NoteShown.{NoteShown}
use Rattle.swarm_objects.specs.declared.views.NoteShown.TheVariants.{Empty, Closed as Closes, Filters, NoPort, NoAddress}
use Rattle.swarm_print.specs.Objects.{shown_text}

abbrev pub nodes_text : ℕ → List ℕ
nodes_text count = if nat_eq count 1 then codes "1 node" else decimal count ++ codes " nodes"

-- what stands before and after the nodes that the filter with this number, from 0, refuses
abbrev pub filter_front : ℕ → List ℕ
filter_front filter =
    if nat_eq filter 0 then []
    else (if nat_eq filter 1 then codes "insufficient resources on "
    else (if nat_eq filter 2 then codes "scheduling constraints not satisfied on "
    else (if nat_eq filter 3 then codes "unsupported platform on "
    else (if nat_eq filter 4 then codes "host-mode port already in use on "
    else codes "max replicas per node reached on "))))

abbrev pub filter_back : ℕ → List ℕ
filter_back filter = if nat_eq filter 0 then codes " not available for new tasks" else []

-- why a filter, the first of the pair, refuses so many nodes
unfoldable pub filter_text : ℕ × ℕ → List ℕ
filter_text refusing = filter_front refusing.0 ++ nodes_text refusing.1 ++ filter_back refusing.0

-- the filters that refuse a node, numbered from the first, each with the number of nodes that it refuses
abbrev pub refusing : ℕ → List ℕ → List (ℕ × ℕ)
refusing first [] = []
refusing first (count ∷ counts) =
    if nat_eq count 0 then refusing (first + 1) counts else (first, count) ∷ refusing (first + 1) counts

-- a filter's text that is not the first, after a semicolon
abbrev pub next_filter_text : ℕ × ℕ → List ℕ
next_filter_text filter = codes "; " ++ filter_text filter

-- the texts of the filters that refuse a node, in brackets, where there is one
abbrev pub filters_text : List (ℕ × ℕ) → List ℕ
filters_text [] = []
filters_text (filter ∷ filters) = codes " (" ++ filter_text filter ++ flat_map next_filter_text filters ++ codes ")"

-- no node will do, and why not
abbrev pub unsuitable_text : List (ℕ × ℕ) → List ℕ
unsuitable_text filters = codes "no suitable node" ++ filters_text filters

abbrev pub closed_text : Closed → List ℕ
closed_text Condition = codes "closed Condition"
closed_text Done = codes "closed Done"
closed_text (Attempts count) = codes "closed Attempts " ++ decimal count

abbrev pub note_text : NoteShown → List ℕ
note_text Empty = codes "-"
note_text (Closes closed) = closed_text closed
note_text (Filters counts) = unsuitable_text (refusing 0 counts)
note_text (NoPort false) = codes "no free port tcp"
note_text (NoPort true) = codes "no free port udp"
note_text (NoAddress network) = codes "no free address on " ++ shown_text network
