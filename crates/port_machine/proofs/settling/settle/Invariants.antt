use Rattle.std.proofs.Common.{◌≡◌, ◌-◌, ◌+◌, ◌*◌, ◌≤◌}
use Rattle.out_tray.specs.Tray.{spare, frame_room}
use Rattle.port_machine.proofs.Loop.{Under}
use Rattle.port_machine.proofs.settling.settle.Given as goal

abbrev pub invariant-rows : goal.invariant-rows
invariant-rows l = record {
  under : Under l.fn.v l.v l.rows l.fn.tray.items l.tray.items;
  sessions : l.tray.sessions ≡ l.fn.tray.sessions;
  room : spare l.fn.tray ≤ spare l.tray + frame_room * l.rows;
}

abbrev pub decreases-rows : goal.decreases-rows
decreases-rows l = 48 - l.rows
