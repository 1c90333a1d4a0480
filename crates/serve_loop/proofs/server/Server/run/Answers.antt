use Rattle.std.proofs.Common.{arith, ap, refl, ◌+◌, ◌≤◌}
use Rattle.trace_defs.specs.Line.Record.{Control}
use Rattle.event_record.specs.Record.{event_of}
use Rattle.serve_loop.specs.Arrived.{entry_of}
use Rattle.serve_loop.proofs.Entering.{ran_event, sound_after}
use Rattle.serve_loop.proofs.server.Server.run.Goals as goal

pub returns-in_ok-run_control-in-Event-clause-runs : goal.returns-in_ok-run_control-in-Event-clause-runs
returns-in_ok-run_control-in-Event-clause-runs g c =
    ran_event g.A.Authenticator.stands g.A.Authenticator.made c.args.self.now.core c.run_control.new.self _ _ _ c.run_control.new.text.items 1 (entry_of c.args.entry)
    c.in_ok-run_control-in-Event.ensures.block c.clear.ensures.items c.in_ok-what-in-Event.ensures (ap entry_of c.in-Event.is)

pub returns-in_ok-run_control-in-Event-clause-number : goal.returns-in_ok-run_control-in-Event-clause-number
returns-in_ok-run_control-in-Event-clause-number g c =
    let s = c.requires.sound in
    let ran = c.in_ok-run_control-in-Event.ensures.block 1 s.at s.standing in
    omega (arith, ran.1.number, s.standing.number)

pub returns-in_ok-run_control-in-Event-clause-sound : goal.returns-in_ok-run_control-in-Event-clause-sound
returns-in_ok-run_control-in-Event-clause-sound g c =
    let s = c.requires.sound in
    let ran = c.in_ok-run_control-in-Event.ensures.block 1 s.at s.standing in
    let few : s.at.serial + 1 ≤ c.args.room = omega (arith, c.serial.ensures s.at s.standing, c.if-serial-room.false) in
    sound_after g.A.Authenticator.stands g.A.Authenticator.made c.args.room c.args.self.now _ (Control 1 (event_of c.in_ok-what-in-Event.what)) s few refl ran.1
