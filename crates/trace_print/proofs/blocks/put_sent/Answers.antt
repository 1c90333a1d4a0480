use Rattle.std.proofs.Common.{ap, ◌∙◌, arith}
use Rattle.trace_print.proofs.Texts.{sent_more}
use Rattle.trace_print.proofs.blocks.put_sent.Goals as goal
use Rattle.trace_print.proofs.blocks.put_sent.Goals.{in-Some+in_ok-put_one, in_default}

pub loop-n-preserved : goal.loop-n-preserved
loop-n-preserved c =
    elim c.match-item.branch [
      | in-Some+in_ok-put_one w ↦ ap (λ v. v.items) w.out-is ∙ sent_more c.args.tray.now.items c.loop-n.n _ c.args.out.now.items c.loop-n.out.items w.put_one.new.out.items w.in-Some.ensures c.loop-n.invariant w.in_ok-put_one.ensures.printed
      | in_default w ↦ absurd (omega (arith, w.in_default.ensures, c.len-n-end.ensures, c.loop-n-test.true))
    ]
