-- `protobuf::put_bytes` meets its contract. The invariant: what is left of the bytes, put at its place, makes what all of them make at `at`.
use Rattle.std.proofs.Common.{◌≡◌, ◌+◌, length, drop}
use lib.Seq.{sets}
use Rattle.protobuf.proofs.put_bytes.Given as goal

abbrev pub invariant-loop-j : goal.invariant-loop-j
invariant-loop-j l =
    (length l.out ≡ length l.initial.out) × (sets l.out (l.at + l.j) (drop l.j l.«data») ≡ sets l.initial.out l.at l.«data»)
