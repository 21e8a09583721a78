-- Operations one after the other.
use Rattle.std.proofs.Common.{◌≡◌, ◌+◌, ◌<◌, ◌≤◌, ℕ, List, Ok, length, drop, arith}
use Rattle.std.proofs.lemmas.List.{length-drop}
use Rattle.swarm_model.proofs.Base.Answers.{given-is}
use Rattle.swarm_model.specs.Calls.Operations.{apply_op}
use Rattle.swarm_objects.specs.Bounds.{IsSmall}
use Rattle.swarm_objects.specs.World.{Tables, World}
use Rattle.swarm_objects.specs.declared.calls.Op.{Op}
use Rattle.swarm_plain.proofs.Rooms.{room-op}
use Rattle.swarm_plain.specs.Operations.{HasRoom}

pub room-less : (m n : ℕ) (t : Tables) → m ≤ n → HasRoom n t → HasRoom m t
room-less m n t le room = omega (arith, room, le)

-- there is room for the one at this place, and after it for the rest
pub room-next : (ops : List Op) (i : ℕ) (t : Tables) → i < length ops → HasRoom (length (drop i ops)) t → HasRoom 1 t
room-next ops i t lt room = room-less 1 (length (drop i ops)) t (omega (arith, length-drop i ops, lt)) room

pub room-rest : (version : ℕ) (ops : List Op) (i : ℕ) (op : Op) (w v : World) (id : ℕ) → i < length ops →
    apply_op version w op ≡ Ok (v, id) → HasRoom (length (drop i ops)) w.tables →
    HasRoom (length (drop (i + 1) ops)) v.tables
room-rest version ops i op w v id lt done room =
    let n = length (drop (i + 1) ops) in
    let more : n + 1 ≤ length (drop i ops) =
    omega (arith, length-drop i ops, length-drop (i + 1) ops, lt) in
    given-is (λ (d : World × ℕ). HasRoom n d.0.tables) (apply_op version w op) (v, id)
    (room-op version n w op (room-less (n + 1) (length (drop i ops)) w.tables more room)) done

-- a small world has room

pub room-small : (n : ℕ) (w : World) → n ≤ 200 → IsSmall w → HasRoom n w.tables
room-small n w le small = omega (arith, small.next_id, le)
