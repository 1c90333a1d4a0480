use Rattle.std.proofs.Common.{ap, sym, ◌∙◌}
use Rattle.wire_defs.specs.Ethernet.{is_control}
use Rattle.day_defs.proofs.Frames.{port-there}
use Rattle.day_maker.proofs.maker.DayMaker.frame.Goals as goal

pub control-requires-clause-event : goal.control-requires-clause-event
control-requires-clause-event g c =
    (port-there c.port_of_host.result c.port_of_host.ensures.least c.port_of_host.ensures.most, ap is_control c.in_ok-octets.ensures ∙ c.requires.eapol)

pub returns-clause-adds : goal.returns-clause-adds
returns-clause-adds g c = rw (sym c.in_ok-octets.ensures, sym c.port_of_host.ensures.port) c.control.ensures.adds
