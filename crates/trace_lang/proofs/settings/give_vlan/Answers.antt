use Rattle.trace_defs.specs.Line.{change_vlan}
use Rattle.trace_lang.proofs.VlanLemmas.{written_over}
use Rattle.trace_lang.proofs.settings.give_vlan.Goals as goal

pub loop-p-preserved : goal.loop-p-preserved
loop-p-preserved c =
    written_over (change_vlan c.args.other c.args.port c.args.vlan) c.args.ports.now c.loop-p.ports c.loop-p.p-index _ c.change_vlan.new.p c.loop-p-test.true c.loop-p.invariant c.loop-p.auto.ports
    c.change_vlan.ensures
