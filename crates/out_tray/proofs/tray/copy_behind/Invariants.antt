use Rattle.std.proofs.Common.{◌≡◌, ◌++◌, take}
use Rattle.std.specs.Prelude.{vec_capacity}
use Rattle.out_tray.proofs.tray.copy_behind.Given as goal

-- so many octets were appended, and the room is as it was
abbrev pub invariant-loop-octet : goal.invariant-loop-octet
invariant-loop-octet l = (l.room.items ≡ l.initial.room.items ++ take l.octet-index l.octets) × (vec_capacity l.room ≡ vec_capacity l.initial.room)
