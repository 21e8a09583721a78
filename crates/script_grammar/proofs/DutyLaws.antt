-- The words of duties.
use Rattle.std.proofs.Common.{◌≡◌, ℕ, ◌^◌, List, [], ◌∷◌, ◌++◌, codes, decimal, Bool, true, false, ◌&&◌, refl, sym, ◌∙◌, ap, subst, Option, Some, None, append-nil, append_assoc, arith}
use Rattle.std.specs.Fmt.{digits}
use Rattle.std.specs.Str.{bytes_eq}
use Rattle.std.proofs.lemmas.Option.{same_Some}
use Rattle.swarm_objects.proofs.Tests.{both, both_are}
use Rattle.swarm_objects.specs.Kinds.{bit, role_of, roles}
use Rattle.swarm_objects.specs.DutyTexts.{duty_kind, duty_words, loop_word}
use Rattle.swarm_objects.specs.declared.loops.Role.{Role}
use Rattle.swarm_objects.specs.declared.loops.Role.TheVariants as role
use Rattle.swarm_objects.specs.declared.duties.Duty.{Duty}
use Rattle.swarm_objects.specs.declared.duties.Duty.TheVariants as duty
use Rattle.script_grammar.specs.declared.duties.DutyState.{DutyState}
use Rattle.script_grammar.specs.declared.duties.DutyState.TheVariants as state
use Rattle.script_grammar.specs.declared.duties.OneNumber.{OneNumber}
use Rattle.script_grammar.specs.declared.duties.OneNumber.TheVariants as one
use Rattle.script_grammar.specs.declared.duties.TwoNumbers.{TwoNumbers}
use Rattle.script_grammar.specs.declared.duties.TwoNumbers.TheVariants as two
use Rattle.script_grammar.specs.Duties.{bit_of, duty_grammar, duty_step, duty_whole, kind_of, loop_of, one_duty, two_duty}
use Rattle.script_grammar.specs.HasText.{duty_has_text, is_number, is_port}
use Rattle.script_grammar.specs.Machines.{IsSaid, run}
use Rattle.script_grammar.specs.Words.{number_of, port_number, ◌>>=◌}
use Rattle.script_grammar.proofs.Inversions.{bound, choose, found, never, same}
use Rattle.script_grammar.proofs.Numbers.{below_only, below_yes, number_only, number_yes}

-- ## The words of a duty are read back

abbrev runs : DutyState → List (List ℕ) → Option DutyState
runs = run duty_grammar

abbrev next_run : List (List ℕ) → Option DutyState → Option DutyState
next_run ws o = o >>= λ s. runs s ws

-- the words say the duty
abbrev pub IsRead : Duty → Type 0
IsRead d = IsSaid duty_grammar (duty_words d) d

pub number_yes_of : (n : ℕ) → is_number n ≡ true → number_of (decimal n) ≡ Some n
number_yes_of n h = let k = below_only n (2 ^ 64) h in number_yes (2 ^ 64) n k k

one_run : (k : OneNumber) (n : ℕ) → is_number n ≡ true → (runs (state.One k) (decimal n ∷ []) >>= duty_whole) ≡ Some (one_duty k n)
one_run k n h = ap (λ (o : Option ℕ). next_run [] (o >>= λ m. Some (state.Done (one_duty k m))) >>= duty_whole) (number_yes_of n h)

two_run : (k : TwoNumbers) (a b : ℕ) → is_number a ≡ true → is_number b ≡ true → (runs (state.Two k) (decimal a ∷ decimal b ∷ []) >>= duty_whole) ≡ Some (two_duty k a b)
two_run k a b h g =
    ap (λ (o : Option ℕ). next_run (decimal b ∷ []) (o >>= λ m. Some (state.Second k m)) >>= duty_whole) (number_yes_of a h)
    ∙ ap (λ (o : Option ℕ). next_run [] (o >>= λ m. Some (state.Done (two_duty k a m))) >>= duty_whole) (number_yes_of b g)

one_read : (k : OneNumber) (n : ℕ) → is_number n ≡ true → IsRead (one_duty k n)
one_read one.Expire n h = one_run one.Expire n h
one_read one.Orphan n h = one_run one.Orphan n h
one_read one.Reject n h = one_run one.Reject n h
one_read one.Restart n h = one_run one.Restart n h
one_read one.Raise n h = one_run one.Raise n h
one_read one.Start n h = one_run one.Start n h
one_read one.Fail n h = one_run one.Fail n h
one_read one.Finish n h = one_run one.Finish n h
one_read one.Gone n h = one_run one.Gone n h
one_read one.Old n h = one_run one.Old n h
one_read one.Address n h = one_run one.Address n h
one_read one.Note n h = one_run one.Note n h
one_read one.Drop n h = one_run one.Drop n h
one_read one.Explain n h = one_run one.Explain n h
one_read one.Delete n h = one_run one.Delete n h
one_read one.Trim n h = one_run one.Trim n h
one_read one.Register n h = one_run one.Register n h
one_read one.Beat n h = one_run one.Beat n h
one_read one.Apply n h = one_run one.Apply n h
one_read one.Pull n h = one_run one.Pull n h

two_read : (k : TwoNumbers) (a b : ℕ) → is_number a ≡ true → is_number b ≡ true → IsRead (two_duty k a b)
two_read two.Swap a b h g = two_run two.Swap a b h g
two_read two.Replace a b h g = two_run two.Replace a b h g
two_read two.Down a b h g = two_run two.Down a b h g
two_read two.ReplicatedCreate a b h g = two_run two.ReplicatedCreate a b h g
two_read two.Leave a b h g = two_run two.Leave a b h g
two_read two.GlobalCreate a b h g = two_run two.GlobalCreate a b h g
two_read two.JobCreate a b h g = two_run two.JobCreate a b h g
two_read two.Place a b h g = two_run two.Place a b h g
two_read two.Exec a b h g = two_run two.Exec a b h g
two_read two.Report a b h g = two_run two.Report a b h g
two_read two.Forget a b h g = two_run two.Forget a b h g

bit_back : (b : Bool) → bit_of (decimal (bit b)) ≡ Some b
unfolding digits
bit_back true = refl
bit_back false = refl

port_read : (s target : ℕ) (udp : Bool) → is_number s ≡ true → is_port target ≡ true → IsRead (duty.Port s target udp)
port_read s target udp h g =
    let small = below_only target 65536 g in
    ap (λ (o : Option ℕ). next_run (decimal target ∷ decimal (bit udp) ∷ []) (o >>= λ n. Some (state.PortTarget n)) >>= duty_whole) (number_yes_of s h)
    ∙ ap (λ (o : Option ℕ). next_run (decimal (bit udp) ∷ []) (o >>= λ n. Some (state.PortProtocol s n)) >>= duty_whole) (number_yes 65536 target small (omega (arith, small)))
    ∙ ap (λ (o : Option Bool). next_run [] (o >>= λ u. Some (state.Done (duty.Port s target u))) >>= duty_whole) (bit_back udp)

pub duty_read : (d : Duty) → duty_has_text d ≡ true → IsRead d
duty_read (duty.Expire n) h = one_read one.Expire n (both_are (is_number n) true h).0
duty_read (duty.Orphan n) h = one_read one.Orphan n (both_are (is_number n) true h).0
duty_read (duty.Reject n) h = one_read one.Reject n (both_are (is_number n) true h).0
duty_read (duty.Restart n) h = one_read one.Restart n (both_are (is_number n) true h).0
duty_read (duty.Raise n) h = one_read one.Raise n (both_are (is_number n) true h).0
duty_read (duty.Start n) h = one_read one.Start n (both_are (is_number n) true h).0
duty_read (duty.Fail n) h = one_read one.Fail n (both_are (is_number n) true h).0
duty_read (duty.Finish n) h = one_read one.Finish n (both_are (is_number n) true h).0
duty_read (duty.Gone n) h = one_read one.Gone n (both_are (is_number n) true h).0
duty_read (duty.Old n) h = one_read one.Old n (both_are (is_number n) true h).0
duty_read (duty.Address n) h = one_read one.Address n (both_are (is_number n) true h).0
duty_read (duty.Note n) h = one_read one.Note n (both_are (is_number n) true h).0
duty_read (duty.Drop n) h = one_read one.Drop n (both_are (is_number n) true h).0
duty_read (duty.Explain n) h = one_read one.Explain n (both_are (is_number n) true h).0
duty_read (duty.Delete n) h = one_read one.Delete n (both_are (is_number n) true h).0
duty_read (duty.Trim n) h = one_read one.Trim n (both_are (is_number n) true h).0
duty_read (duty.Register n) h = one_read one.Register n (both_are (is_number n) true h).0
duty_read (duty.Beat n) h = one_read one.Beat n (both_are (is_number n) true h).0
duty_read (duty.Apply n) h = one_read one.Apply n (both_are (is_number n) true h).0
duty_read (duty.Pull n) h = one_read one.Pull n (both_are (is_number n) true h).0
duty_read (duty.Swap a b) h = let c = both_are (is_number a) (is_number b && true) h in two_read two.Swap a b c.0 (both_are (is_number b) true c.1).0
duty_read (duty.Replace a b) h = let c = both_are (is_number a) (is_number b && true) h in two_read two.Replace a b c.0 (both_are (is_number b) true c.1).0
duty_read (duty.Down a b) h = let c = both_are (is_number a) (is_number b && true) h in two_read two.Down a b c.0 (both_are (is_number b) true c.1).0
duty_read (duty.ReplicatedCreate a b) h = let c = both_are (is_number a) (is_number b && true) h in two_read two.ReplicatedCreate a b c.0 (both_are (is_number b) true c.1).0
duty_read (duty.Leave a b) h = let c = both_are (is_number a) (is_number b && true) h in two_read two.Leave a b c.0 (both_are (is_number b) true c.1).0
duty_read (duty.GlobalCreate a b) h = let c = both_are (is_number a) (is_number b && true) h in two_read two.GlobalCreate a b c.0 (both_are (is_number b) true c.1).0
duty_read (duty.JobCreate a b) h = let c = both_are (is_number a) (is_number b && true) h in two_read two.JobCreate a b c.0 (both_are (is_number b) true c.1).0
duty_read (duty.Place a b) h = let c = both_are (is_number a) (is_number b && true) h in two_read two.Place a b c.0 (both_are (is_number b) true c.1).0
duty_read (duty.Exec a b) h = let c = both_are (is_number a) (is_number b && true) h in two_read two.Exec a b c.0 (both_are (is_number b) true c.1).0
duty_read (duty.Report a b) h = let c = both_are (is_number a) (is_number b && true) h in two_read two.Report a b c.0 (both_are (is_number b) true c.1).0
duty_read (duty.Forget a b) h = let c = both_are (is_number a) (is_number b && true) h in two_read two.Forget a b c.0 (both_are (is_number b) true c.1).0
duty_read (duty.Port s target udp) h = let b = both_are (is_number s) (is_port target) h in port_read s target udp b.0 b.1

-- ## Words that say a duty are its words

abbrev one_words : OneNumber → List (List ℕ)
one_words k = loop_word (role_of (one_duty k 0)) ∷ duty_kind (one_duty k 0) ∷ []

abbrev two_words : TwoNumbers → List (List ℕ)
two_words k = loop_word (role_of (two_duty k 0 0)) ∷ duty_kind (two_duty k 0 0) ∷ []

-- the words that lead to a state
abbrev written : DutyState → List (List ℕ)
written state.Opening = []
written (state.Loop r) = loop_word r ∷ []
written (state.One k) = one_words k
written (state.Two k) = two_words k
written (state.Second k a) = two_words k ++ decimal a ∷ []
written state.Port = codes "allocator" ∷ codes "port" ∷ []
written (state.PortTarget s) = codes "allocator" ∷ codes "port" ∷ decimal s ∷ []
written (state.PortProtocol s target) = codes "allocator" ∷ codes "port" ∷ decimal s ∷ decimal target ∷ []
written (state.Done d) = duty_words d

-- the numbers that were read fit
abbrev HasState : DutyState → Type 0
HasState (state.Second k a) = is_number a ≡ true
HasState (state.PortTarget s) = is_number s ≡ true
HasState (state.PortProtocol s target) = (is_number s ≡ true) × (is_port target ≡ true)
HasState (state.Done d) = duty_has_text d ≡ true
HasState s = Unit {0}

-- one word more is written
record Grows (s : DutyState) (word : List ℕ) (next : DutyState) : Type 0 where
  words : written next ≡ written s ++ word ∷ []
  has : HasState next

one_grows : (k : OneNumber) (n : ℕ) → is_number n ≡ true → Grows (state.One k) (decimal n) (state.Done (one_duty k n))
one_grows one.Expire n h = record { words = refl; has = both _ _ h refl }
one_grows one.Orphan n h = record { words = refl; has = both _ _ h refl }
one_grows one.Reject n h = record { words = refl; has = both _ _ h refl }
one_grows one.Restart n h = record { words = refl; has = both _ _ h refl }
one_grows one.Raise n h = record { words = refl; has = both _ _ h refl }
one_grows one.Start n h = record { words = refl; has = both _ _ h refl }
one_grows one.Fail n h = record { words = refl; has = both _ _ h refl }
one_grows one.Finish n h = record { words = refl; has = both _ _ h refl }
one_grows one.Gone n h = record { words = refl; has = both _ _ h refl }
one_grows one.Old n h = record { words = refl; has = both _ _ h refl }
one_grows one.Address n h = record { words = refl; has = both _ _ h refl }
one_grows one.Note n h = record { words = refl; has = both _ _ h refl }
one_grows one.Drop n h = record { words = refl; has = both _ _ h refl }
one_grows one.Explain n h = record { words = refl; has = both _ _ h refl }
one_grows one.Delete n h = record { words = refl; has = both _ _ h refl }
one_grows one.Trim n h = record { words = refl; has = both _ _ h refl }
one_grows one.Register n h = record { words = refl; has = both _ _ h refl }
one_grows one.Beat n h = record { words = refl; has = both _ _ h refl }
one_grows one.Apply n h = record { words = refl; has = both _ _ h refl }
one_grows one.Pull n h = record { words = refl; has = both _ _ h refl }

two_grows : (k : TwoNumbers) (a b : ℕ) → is_number a ≡ true → is_number b ≡ true → Grows (state.Second k a) (decimal b) (state.Done (two_duty k a b))
two_grows two.Swap a b h g = record { words = refl; has = both _ _ h (both _ _ g refl) }
two_grows two.Replace a b h g = record { words = refl; has = both _ _ h (both _ _ g refl) }
two_grows two.Down a b h g = record { words = refl; has = both _ _ h (both _ _ g refl) }
two_grows two.ReplicatedCreate a b h g = record { words = refl; has = both _ _ h (both _ _ g refl) }
two_grows two.Leave a b h g = record { words = refl; has = both _ _ h (both _ _ g refl) }
two_grows two.GlobalCreate a b h g = record { words = refl; has = both _ _ h (both _ _ g refl) }
two_grows two.JobCreate a b h g = record { words = refl; has = both _ _ h (both _ _ g refl) }
two_grows two.Place a b h g = record { words = refl; has = both _ _ h (both _ _ g refl) }
two_grows two.Exec a b h g = record { words = refl; has = both _ _ h (both _ _ g refl) }
two_grows two.Report a b h g = record { words = refl; has = both _ _ h (both _ _ g refl) }
two_grows two.Forget a b h g = record { words = refl; has = both _ _ h (both _ _ g refl) }

number_fits : (w : List ℕ) (n : ℕ) → number_of w ≡ Some n → (w ≡ decimal n) × (is_number n ≡ true)
number_fits w n e = let k = number_only (2 ^ 64) n w e in (k.0, below_yes n (2 ^ 64) k.1)

-- the word is a number, and leads on
number_grows : (s : DutyState) (to : ℕ → DutyState) (w : List ℕ) (next : DutyState) → ((n : ℕ) → is_number n ≡ true → Grows s (decimal n) (to n)) →
    (number_of w >>= λ n. Some (to n)) ≡ Some next → Grows s w next
number_grows s to w next g e =
    let b = bound (number_of w) (λ n. Some (to n)) next e in
    let k = number_fits w b.0 b.1 in
    subst (λ x. Grows s x next) (sym k.0) (subst (Grows s (decimal b.0)) (same_Some (to b.0) next b.2) (g b.0 k.1))

kind_written : (r : Role) (s : DutyState) (lit w : List ℕ) → written s ≡ loop_word r ∷ lit ∷ [] → HasState s → w ≡ lit → Grows (state.Loop r) w s
kind_written r s lit w k h e = record { words = k ∙ ap (λ x. loop_word r ∷ x ∷ []) (sym e); has = h }

kind_grows : (r : Role) (w : List ℕ) (next : DutyState) → kind_of r w ≡ Some next → Grows (state.Loop r) w next
kind_grows role.Dispatcher w next e =
    let P : DutyState → Type 0 = Grows (state.Loop role.Dispatcher) w in
    choose P w (codes "expire") (state.One one.Expire) _ next (kind_written role.Dispatcher (state.One one.Expire) (codes "expire") w refl tt) (λ e.
    choose P w (codes "orphan") (state.One one.Orphan) None next (kind_written role.Dispatcher (state.One one.Orphan) (codes "orphan") w refl tt) (never P next)
    e) e
kind_grows role.Enforcer w next e =
    let P : DutyState → Type 0 = Grows (state.Loop role.Enforcer) w in
    choose P w (codes "reject") (state.One one.Reject) None next (kind_written role.Enforcer (state.One one.Reject) (codes "reject") w refl tt) (never P next)
    e
kind_grows role.Restart w next e =
    let P : DutyState → Type 0 = Grows (state.Loop role.Restart) w in
    choose P w (codes "restart") (state.One one.Restart) _ next (kind_written role.Restart (state.One one.Restart) (codes "restart") w refl tt) (λ e.
    choose P w (codes "raise") (state.One one.Raise) None next (kind_written role.Restart (state.One one.Raise) (codes "raise") w refl tt) (never P next)
    e) e
kind_grows role.Update w next e =
    let P : DutyState → Type 0 = Grows (state.Loop role.Update) w in
    choose P w (codes "start") (state.One one.Start) _ next (kind_written role.Update (state.One one.Start) (codes "start") w refl tt) (λ e.
    choose P w (codes "fail") (state.One one.Fail) _ next (kind_written role.Update (state.One one.Fail) (codes "fail") w refl tt) (λ e.
    choose P w (codes "swap") (state.Two two.Swap) _ next (kind_written role.Update (state.Two two.Swap) (codes "swap") w refl tt) (λ e.
    choose P w (codes "replace") (state.Two two.Replace) _ next (kind_written role.Update (state.Two two.Replace) (codes "replace") w refl tt) (λ e.
    choose P w (codes "finish") (state.One one.Finish) None next (kind_written role.Update (state.One one.Finish) (codes "finish") w refl tt) (never P next)
    e) e) e) e) e
kind_grows role.Replicated w next e =
    let P : DutyState → Type 0 = Grows (state.Loop role.Replicated) w in
    choose P w (codes "gone") (state.One one.Gone) _ next (kind_written role.Replicated (state.One one.Gone) (codes "gone") w refl tt) (λ e.
    choose P w (codes "down") (state.Two two.Down) _ next (kind_written role.Replicated (state.Two two.Down) (codes "down") w refl tt) (λ e.
    choose P w (codes "create") (state.Two two.ReplicatedCreate) None next (kind_written role.Replicated (state.Two two.ReplicatedCreate) (codes "create") w refl tt) (never P next)
    e) e) e
kind_grows role.Global w next e =
    let P : DutyState → Type 0 = Grows (state.Loop role.Global) w in
    choose P w (codes "leave") (state.Two two.Leave) _ next (kind_written role.Global (state.Two two.Leave) (codes "leave") w refl tt) (λ e.
    choose P w (codes "create") (state.Two two.GlobalCreate) None next (kind_written role.Global (state.Two two.GlobalCreate) (codes "create") w refl tt) (never P next)
    e) e
kind_grows role.Job w next e =
    let P : DutyState → Type 0 = Grows (state.Loop role.Job) w in
    choose P w (codes "old") (state.One one.Old) _ next (kind_written role.Job (state.One one.Old) (codes "old") w refl tt) (λ e.
    choose P w (codes "create") (state.Two two.JobCreate) None next (kind_written role.Job (state.Two two.JobCreate) (codes "create") w refl tt) (never P next)
    e) e
kind_grows role.Allocator w next e =
    let P : DutyState → Type 0 = Grows (state.Loop role.Allocator) w in
    choose P w (codes "port") state.Port _ next (kind_written role.Allocator state.Port (codes "port") w refl tt) (λ e.
    choose P w (codes "address") (state.One one.Address) _ next (kind_written role.Allocator (state.One one.Address) (codes "address") w refl tt) (λ e.
    choose P w (codes "note") (state.One one.Note) None next (kind_written role.Allocator (state.One one.Note) (codes "note") w refl tt) (never P next)
    e) e) e
kind_grows role.Scheduler w next e =
    let P : DutyState → Type 0 = Grows (state.Loop role.Scheduler) w in
    choose P w (codes "drop") (state.One one.Drop) _ next (kind_written role.Scheduler (state.One one.Drop) (codes "drop") w refl tt) (λ e.
    choose P w (codes "place") (state.Two two.Place) _ next (kind_written role.Scheduler (state.Two two.Place) (codes "place") w refl tt) (λ e.
    choose P w (codes "explain") (state.One one.Explain) None next (kind_written role.Scheduler (state.One one.Explain) (codes "explain") w refl tt) (never P next)
    e) e) e
kind_grows role.Reaper w next e =
    let P : DutyState → Type 0 = Grows (state.Loop role.Reaper) w in
    choose P w (codes "delete") (state.One one.Delete) _ next (kind_written role.Reaper (state.One one.Delete) (codes "delete") w refl tt) (λ e.
    choose P w (codes "trim") (state.One one.Trim) None next (kind_written role.Reaper (state.One one.Trim) (codes "trim") w refl tt) (never P next)
    e) e
kind_grows role.Agents w next e =
    let P : DutyState → Type 0 = Grows (state.Loop role.Agents) w in
    choose P w (codes "register") (state.One one.Register) _ next (kind_written role.Agents (state.One one.Register) (codes "register") w refl tt) (λ e.
    choose P w (codes "beat") (state.One one.Beat) _ next (kind_written role.Agents (state.One one.Beat) (codes "beat") w refl tt) (λ e.
    choose P w (codes "apply") (state.One one.Apply) _ next (kind_written role.Agents (state.One one.Apply) (codes "apply") w refl tt) (λ e.
    choose P w (codes "pull") (state.One one.Pull) _ next (kind_written role.Agents (state.One one.Pull) (codes "pull") w refl tt) (λ e.
    choose P w (codes "exec") (state.Two two.Exec) _ next (kind_written role.Agents (state.Two two.Exec) (codes "exec") w refl tt) (λ e.
    choose P w (codes "report") (state.Two two.Report) _ next (kind_written role.Agents (state.Two two.Report) (codes "report") w refl tt) (λ e.
    choose P w (codes "forget") (state.Two two.Forget) None next (kind_written role.Agents (state.Two two.Forget) (codes "forget") w refl tt) (never P next)
    e) e) e) e) e) e) e

loop_grows : (w : List ℕ) (next : DutyState) → duty_step state.Opening w ≡ Some next → Grows state.Opening w next
loop_grows w next e =
    let b = bound (loop_of w) (λ r. Some (state.Loop r)) next e in
    let k = same (loop_word b.0) w (found (λ r. bytes_eq (loop_word r) w) roles b.0 b.1) in
    let made : Grows state.Opening w (state.Loop b.0) = record { words = ap (λ x. x ∷ []) k; has = tt } in
    subst (Grows state.Opening w) (same_Some _ next b.2) made

bit_only : (w : List ℕ) (b : Bool) → bit_of w ≡ Some b → w ≡ decimal (bit b)
unfolding digits
bit_only w b e =
    let P : Bool → Type 0 = λ x. w ≡ decimal (bit x) in
    choose P w (codes "1") true _ b (λ k. k) (λ e. choose P w (codes "0") false None b (λ k. k) (never P b) e) e

target_grows : (s : ℕ) (w : List ℕ) (next : DutyState) → is_number s ≡ true → duty_step (state.PortTarget s) w ≡ Some next → Grows (state.PortTarget s) w next
target_grows s w next h e =
    let b = bound (port_number w) (λ n. Some (state.PortProtocol s n)) next e in
    let k = number_only 65536 b.0 w b.1 in
    let made : Grows (state.PortTarget s) w (state.PortProtocol s b.0) = record {
      words = ap (λ x. codes "allocator" ∷ codes "port" ∷ decimal s ∷ x ∷ []) (sym k.0);
      has = (h, below_yes b.0 65536 k.1);
    } in
    subst (Grows (state.PortTarget s) w) (same_Some _ next b.2) made

protocol_grows : (s target : ℕ) (w : List ℕ) (next : DutyState) → is_number s ≡ true → is_port target ≡ true →
    duty_step (state.PortProtocol s target) w ≡ Some next → Grows (state.PortProtocol s target) w next
protocol_grows s target w next h g e =
    let b = bound (bit_of w) (λ u. Some (state.Done (duty.Port s target u))) next e in
    let made : Grows (state.PortProtocol s target) w (state.Done (duty.Port s target b.0)) = record {
      words = ap (λ x. codes "allocator" ∷ codes "port" ∷ decimal s ∷ decimal target ∷ x ∷ []) (sym (bit_only w b.0 b.1));
      has = both _ _ h g;
    } in
    subst (Grows (state.PortProtocol s target) w) (same_Some _ next b.2) made

step_grows : (s : DutyState) (w : List ℕ) (next : DutyState) → HasState s → duty_step s w ≡ Some next → Grows s w next
step_grows state.Opening w next h e = loop_grows w next e
step_grows (state.Loop r) w next h e = kind_grows r w next e
step_grows (state.One k) w next h e = number_grows (state.One k) (λ n. state.Done (one_duty k n)) w next (one_grows k) e
step_grows (state.Two k) w next h e = number_grows (state.Two k) (state.Second k) w next (λ n f. record { words = refl; has = f }) e
step_grows (state.Second k a) w next h e = number_grows (state.Second k a) (λ n. state.Done (two_duty k a n)) w next (λ n f. two_grows k a n h f) e
step_grows state.Port w next h e = number_grows state.Port state.PortTarget w next (λ n f. record { words = refl; has = f }) e
step_grows (state.PortTarget s) w next h e = target_grows s w next h e
step_grows (state.PortProtocol s target) w next h e = protocol_grows s target w next h.0 h.1 e
step_grows (state.Done d) w next h e = cc

run_grows : (ws : List (List ℕ)) (s t : DutyState) → HasState s → runs s ws ≡ Some t → (written t ≡ written s ++ ws) × HasState t
run_grows [] s t h e = subst (λ u. (written u ≡ written s ++ []) × HasState u) (same_Some s t e) (sym (append-nil (written s)), h)
run_grows (w ∷ ws) s t h e =
    let b = bound (duty_step s w) (λ u. runs u ws) t e in
    let g = step_grows s w b.0 h b.1 in
    let k = run_grows ws b.0 t g.has b.2 in
    (k.0 ∙ ap (λ xs. xs ++ ws) g.words ∙ append_assoc (written s) (w ∷ []) ws, k.1)

whole_written : (s : DutyState) (d : Duty) → HasState s → duty_whole s ≡ Some d → (duty_words d ≡ written s) × (duty_has_text d ≡ true)
whole_written (state.Done c) d h e = let k = same_Some c d e in (sym (ap duty_words k), subst (λ x. duty_has_text x ≡ true) k h)
whole_written s d h e = cc

-- words that say a duty are its words, and it has a text
pub duty_spelling : (ws : List (List ℕ)) (d : Duty) → IsSaid duty_grammar ws d → (ws ≡ duty_words d) × (duty_has_text d ≡ true)
duty_spelling ws d e =
    let b = bound (runs state.Opening ws) duty_whole d e in
    let g = run_grows ws state.Opening b.0 tt b.1 in
    let k = whole_written b.0 d g.1 b.2 in
    (sym (k.0 ∙ g.0), k.1)
