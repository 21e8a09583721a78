-- What was taken from a source or put to a sink in a call, as far as it tells its bytes, and whether it failed.
use Rattle.std.specs.Prelude.{ℕ, List, Option, ◌+◌, ◌*◌, ◌<◌, ◌≤◌, ◌++◌, length, take, ◌⊎◌}
use Rattle.swarm_objects.specs.Outside.{Rose, AppendsPrefix}
use Rattle.std.specs.Io.KnownBytes.{Appends, Consumes}
use Rattle.swarm_input.specs.Lines.{line_ends}

-- a source or a sink before and after the call: the bytes that a source has left or that a sink has, and its count of
-- faults
pub record Stream : Type 0 where
  pub before : Option (List ℕ)
  pub after : Option (List ℕ)
  pub faults_before : ℕ
  pub faults_after : ℕ

abbrev pub stream_of : Option (List ℕ) → Option (List ℕ) → ℕ → ℕ → Stream
stream_of before after faults_before faults_after = record {
  before = before;
  after = after;
  faults_before = faults_before;
  faults_after = faults_after;
}

-- a source or a sink, before and after the call, by the members that tell its bytes and its faults
abbrev pub stream : {X : Type 0} → (X → Option (List ℕ)) → (X → ℕ) → X → X → Stream
stream bytes faults old new = stream_of (bytes old) (bytes new) (faults old) (faults new)

-- it failed in this call
abbrev pub HasFailed : Stream → Type 0
HasFailed s = Rose s.faults_before s.faults_after

-- its count rose; at the greatest count that can't be seen
abbrev pub HasRisen : Stream → Type 0
HasRisen s = s.faults_before < s.faults_after

-- of a source at most so many lines were taken, none longer than this, and what was read ahead of them: a line that
-- isn't whole, and a piece
pub record TakesLines (before after : Option (List ℕ)) (most longest : ℕ) : Type 0 where
  pub lines : List ℕ
  pub ahead : List ℕ
  pub taken : Consumes before after (lines ++ ahead)
  pub ends : line_ends lines ≤ most
  pub size : length lines ≤ most * longest
  pub few : length ahead ≤ longest + 4096

-- the text was put
abbrev pub Puts : Stream → List ℕ → Type 0
Puts s text = Appends s.before s.after text

-- a prefix of the text was put
abbrev pub PutsPrefix : Stream → List ℕ → Type 0
PutsPrefix s text = AppendsPrefix s.before s.after text

-- the first text was put, and then a prefix of the second
abbrev pub PutsThenPrefix : Stream → List ℕ → List ℕ → Type 0
PutsThenPrefix s first second = (n : ℕ) × Puts s (first ++ take n second)

-- both texts were put, or where the end failed all of the first one and a prefix of the second
abbrev pub PutsBoth : Stream → List ℕ → List ℕ → Type 0
PutsBoth s first second = Puts s (first ++ second) ⊎ (HasFailed s × PutsThenPrefix s first second)

-- the text was put, or where the end failed a prefix of it
abbrev pub PutsUnlessFailed : Stream → List ℕ → Type 0
PutsUnlessFailed s text = Puts s text ⊎ (HasFailed s × PutsPrefix s text)
