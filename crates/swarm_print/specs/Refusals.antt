-- The texts of refusals.
use Rattle.std.specs.Prelude.{ℕ, List, [], ◌∷◌, codes, decimal, Option, Some, None}
use Rattle.swarm_objects.specs.declared.replies.Refusal.{Refusal}
use Rattle.swarm_objects.specs.declared.replies.Refusal.TheVariants as refusal
use Rattle.swarm_objects.specs.declared.replies.Wanted.{Wanted}
use Rattle.swarm_objects.specs.declared.replies.Wanted.TheVariants as wanted
use Rattle.swarm_objects.specs.Values.Texts.{kind_text, state_text}
use Rattle.swarm_print.specs.Words.{rule_word, state_word}

-- an object that was asked for, as it was named
abbrev pub wanted_text : Wanted → List ℕ
wanted_text (wanted.Name name) = name
wanted_text (wanted.Id id) = decimal id

-- the session that a node has
abbrev pub session_text : Option ℕ → List ℕ
session_text None = codes "none"
session_text (Some id) = decimal id

-- a refusal: its number, its name and its values
abbrev pub refusal_words : Refusal → List (List ℕ)
refusal_words (refusal.NotFound kind wanted) = codes "1" ∷ codes "NotFound" ∷ kind_text kind ∷ wanted_text wanted ∷ []
refusal_words (refusal.NameTaken id) = codes "2" ∷ codes "NameTaken" ∷ decimal id ∷ []
refusal_words (refusal.SequenceConflict version) = codes "3" ∷ codes "SequenceConflict" ∷ decimal version ∷ []
refusal_words (refusal.BadSpec rule) = codes "4" ∷ codes "BadSpec" ∷ rule_word rule ∷ []
refusal_words (refusal.InUse user) = codes "5" ∷ codes "InUse" ∷ decimal user ∷ []
refusal_words (refusal.PortTaken service) = codes "6" ∷ codes "PortTaken" ∷ decimal service ∷ []
refusal_words (refusal.NodeNotDown state) = codes "7" ∷ codes "NodeNotDown" ∷ state_word state ∷ []
refusal_words refusal.ModeChange = codes "8" ∷ codes "ModeChange" ∷ []
refusal_words (refusal.TooManyOps count) = codes "9" ∷ codes "TooManyOps" ∷ decimal count ∷ []
refusal_words refusal.NoPrevious = codes "10" ∷ codes "NoPrevious" ∷ []
refusal_words (refusal.BadTick ms) = codes "11" ∷ codes "BadTick" ∷ decimal ms ∷ []
refusal_words (refusal.InvalidSession session) = codes "12" ∷ codes "InvalidSession" ∷ session_text session ∷ []
refusal_words (refusal.SessionExpired deadline) = codes "13" ∷ codes "SessionExpired" ∷ decimal deadline ∷ []
refusal_words (refusal.NotThisNode task) = codes "14" ∷ codes "NotThisNode" ∷ decimal task ∷ []
refusal_words (refusal.BadState state) = codes "15" ∷ codes "BadState" ∷ state_text state ∷ []
refusal_words (refusal.WrongKind node) = codes "16" ∷ codes "WrongKind" ∷ decimal node ∷ []
refusal_words (refusal.UnknownWatcher id) = codes "17" ∷ codes "UnknownWatcher" ∷ decimal id ∷ []
refusal_words (refusal.Lagged events) = codes "18" ∷ codes "Lagged" ∷ decimal events ∷ []
refusal_words (refusal.TooMany kind count) = codes "19" ∷ codes "TooMany" ∷ kind_text kind ∷ decimal count ∷ []
refusal_words refusal.Halted = codes "20" ∷ codes "Halted" ∷ []
refusal_words (refusal.Full entries) = codes "21" ∷ codes "Full" ∷ decimal entries ∷ []
refusal_words refusal.NoMemory = codes "22" ∷ codes "NoMemory" ∷ []
