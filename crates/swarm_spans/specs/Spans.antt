-- Spans of numbers, and which rows they cover.
use Rattle.std.specs.Prelude.{ℕ, Bool, List, ◌≡◌, false, true, is_some, not, nat_lt, nat_le, if◌then◌else◌, ◌&&◌, ◌<◌, ◌≤◌, min, max, ◌-◌, ◌^◌}
use Rattle.swarm_objects.specs.Rows.{first_of, Has, node_id, service_id, task_id}
use Rattle.swarm_objects.specs.World.{Tables}
use Rattle.swarm_objects.specs.declared.duties.Duty.{Duty}
use Rattle.swarm_objects.specs.declared.nodes.Node.{Node}
use Rattle.swarm_objects.specs.declared.services.Service.{Service}
use Rattle.swarm_objects.specs.declared.tasks.Task.{Task}
use Rattle.swarm_spans.specs.Bits.{all_bits, has_bit, no_bits, with_bit, with_word, without_bit}
use Rattle.swarm_spans.specs.declared.span.Span.{Span}

abbrev pub is_in : Span → ℕ → Bool
is_in span id = nat_lt span.after id && nat_le id span.high && has_bit span.bits id

-- no number
abbrev pub empty : Span
empty = record { after = 2 ^ 64 - 1; high = 0; bits = no_bits }

-- every number of a row
abbrev pub full : Span
full = record { after = 0; high = 2 ^ 64 - 1; bits = all_bits }

-- each number from this one on
abbrev pub onwards : ℕ → Span
onwards id = record { after = id - 1; high = 2 ^ 64 - 1; bits = all_bits }

-- each number of this word
abbrev pub all_of_word : ℕ → Span
all_of_word n = record { after = 0; high = 2 ^ 64 - 1; bits = with_word no_bits n }

abbrev pub with_id : Span → ℕ → Span
with_id span id =
    record { after = min span.after (id - 1); high = max span.high id; bits = with_bit span.bits id }

-- without the numbers up to this one, whose bit is cleared where no number above it has the same
abbrev pub beyond : Span → ℕ → Span
beyond span id = record span {
  after = id;
  bits = if nat_lt (span.high - id) 1024 then without_bit span.bits id else span.bits;
}

-- no row up to the number is in the span
pub record AreOut {X : Type 0} (key : X → ℕ) (span : Span) (after : ℕ) (rows : List X) : Type 0 where
  pub has : (x : X) → Has rows x → key x ≤ after → is_in span (key x) ≡ false

-- each row that passes the test is in the span
pub record Covers {X : Type 0} (key : X → ℕ) (test : X → Bool) (span : Span) (rows : List X) : Type 0 where
  pub has : (x : X) → Has rows x → test x ≡ true → is_in span (key x) ≡ true

-- the one has what the other has
pub record IsWider (wide span : Span) : Type 0 where
  pub has : (id : ℕ) → is_in span id ≡ true → is_in wide id ≡ true

-- A line of duties is a list of duties for each row of one table.

abbrev pub has_duty : {X : Type 0} → (X → List Duty) → X → Bool
has_duty duties x = is_some (first_of (duties x))

-- each row with a duty of the line is in the span
abbrev pub CoversTasks : (Tables → Task → List Duty) → Tables → Span → Type 0
CoversTasks line t span = Covers task_id (has_duty (line t)) span t.tasks

abbrev pub CoversServices : (Tables → Service → List Duty) → Tables → Span → Type 0
CoversServices line t span = Covers service_id (has_duty (line t)) span t.services

abbrev pub CoversNodes : (Tables → Node → List Duty) → Tables → Span → Type 0
CoversNodes line t span = Covers node_id (has_duty (line t)) span t.nodes

-- the wider span has the task too, where it has a duty
pub record HasDutyOf (duties : Task → List Duty) (x : Task) (span wide : Span) : Type 0 where
  pub wider : IsWider wide span
  pub own : 0 < x.id → has_duty duties x ≡ true → is_in wide x.id ≡ true

-- the row passes the test, and isn't in the span
abbrev pub is_left_out : {X : Type 0} → (X → ℕ) → (X → Bool) → Span → X → Bool
is_left_out key test span x = test x && not (is_in span (key x))
