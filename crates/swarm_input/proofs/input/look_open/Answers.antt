use Rattle.std.proofs.Common.{take, drop, [], arith, sym}
use Rattle.std.proofs.lemmas.List.{append-nil}
use Rattle.swarm_input.proofs.Sights.{long_held, beyond_held, parts_at, front_size, front_all}
use Rattle.swarm_input.proofs.input.look_open.Goals as goal

pub returns-then-read-le-SCRIPT : goal.returns-then-read-le-SCRIPT
returns-then-read-le-SCRIPT c =
    let bytes = c.args.bytes.now in
    long_held c.args.read bytes (take 8193 bytes) (drop 8193 bytes) (parts_at 8193 bytes) c.requires.none (omega (arith, front_size 8193 bytes (omega arith))) (omega arith)

pub returns-then-bytes-gt-LINE : goal.returns-then-bytes-gt-LINE
returns-then-bytes-gt-LINE c =
    let bytes = c.args.bytes.now in
    beyond_held c.args.read bytes (take 8193 bytes) (drop 8193 bytes) (parts_at 8193 bytes) c.requires.none c.requires.read (omega (arith, front_size 8193 bytes (omega arith))) (omega arith)

pub returns-then-read-bytes-gt-SCRIPT : goal.returns-then-read-bytes-gt-SCRIPT
returns-then-read-bytes-gt-SCRIPT c =
    let bytes = c.args.bytes.now in
    beyond_held c.args.read bytes bytes [] (sym (append-nil bytes)) (front_all 8193 bytes (omega arith) c.requires.none) c.requires.read (omega arith) (omega arith)

pub returns : goal.returns
returns c = record {
  none = front_all 8193 c.args.bytes.now (omega arith) c.requires.none;
  short = omega arith;
  within = omega arith;
}
