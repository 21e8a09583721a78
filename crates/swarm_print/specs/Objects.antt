-- The texts of objects, places and addresses.
use Rattle.std.specs.Prelude.{ℕ, ◌/◌, ◌%◌, List, ◌∷◌, ◌++◌, codes, decimal, Option, Some, None}
use Rattle.swarm_objects.specs.declared.views.PlaceShown.{PlaceShown}
use Rattle.swarm_objects.specs.declared.views.PlaceShown.TheVariants.{Slot, On}
use Rattle.swarm_objects.specs.declared.views.Shown.{Shown}
use Rattle.swarm_objects.specs.declared.views.Shown.TheVariants.{Name, Id}

-- the name, or the id of one that is gone
abbrev pub shown_text : Shown → List ℕ
shown_text (Name name) = name
shown_text (Id id) = decimal id

-- the place of a task in its service: the slot, or the node
abbrev pub place_text : PlaceShown → List ℕ
place_text (Slot slot) = decimal slot
place_text (On node) = shown_text node

abbrev pub service_place_text : Shown → PlaceShown → List ℕ
service_place_text service place = shown_text service ++ codes "." ++ place_text place

-- a missing node is a dash
abbrev pub node_text : Option Shown → List ℕ
node_text None = codes "-"
node_text (Some node) = shown_text node

-- the four bytes of an address, the highest first, with dots between them
abbrev pub address_text : ℕ → List ℕ
address_text a = decimal (a / 16777216 % 256) ++ 46 ∷ decimal (a / 65536 % 256) ++ 46 ∷ decimal (a / 256 % 256)
    ++ 46 ∷ decimal (a % 256)

-- the lowest address, and how many leading bits all addresses share
unfoldable pub subnet_text : ℕ → ℕ → List ℕ
subnet_text base bits = address_text base ++ codes "/" ++ decimal bits
