use Rattle.std.proofs.Common.{rules, ◌≡◌, ◌<◌, length, slice_index_or}
use Rattle.outside_link.proofs.LinkLemmas.{Same-trans}
use Rattle.serve_loop.proofs.Whole.{bound_next}
use Rattle.serve_loop.proofs.top.bind_all.Goals as goal

pub channels-preserved : goal.channels-preserved
channels-preserved g c =
    let inv = c.channels.invariant in
    let bind = c.in_ok-bind.ensures in
    let ports = c.args.ports.now in
    let low : c.channels.channel < length ports = search rules in
    record {
      sent = Same-trans _ _ _ inv.sent bind.sent;
      waits = Same-trans _ _ _ inv.waits bind.waits;
      bound = bound_next _ _ _ _ _ ports c.channels.channel _ _ inv.bound bind.bound bind.absent low (search rules);
      later = search rules;
    }
