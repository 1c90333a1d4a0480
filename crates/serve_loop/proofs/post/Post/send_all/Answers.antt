use Rattle.std.proofs.Common.{[], arith, ap, sym}
use Rattle.std.proofs.lemmas.List.{take_all}
use Rattle.switch_event.specs.Sent.{ToHost}
use Rattle.outside_link.proofs.LinkLemmas.{Grows-trans, Grows-same, Grows-kept, Same-trans}
use Rattle.serve_defs.specs.Posted.{all_posted}
use Rattle.serve_loop.proofs.Parts.{first_of_all, one_more}
use Rattle.serve_loop.proofs.post.Post.send_all.Goals as goal

pub returns-in-Err-clause-err : goal.returns-in-Err-clause-err
returns-in-Err-clause-err g c = λ settings homes same table.
    first_of_all settings homes c.args.tray.now.items c.loop-n.n _ _ (Grows-kept _ _ _ _ (c.loop-n.invariant.front settings homes same table) c.in-Err.ensures.err)

pub returns-in-Err-clause-waits : goal.returns-in-Err-clause-waits
returns-in-Err-clause-waits g c = Same-trans _ _ _ c.loop-n.invariant.waits c.in-Err.ensures.waits

pub returns-in-Err-clause-bound : goal.returns-in-Err-clause-bound
returns-in-Err-clause-bound g c = Same-trans _ _ _ c.loop-n.invariant.bound c.in-Err.ensures.bound

pub loop-n-preserved : goal.loop-n-preserved
loop-n-preserved g c = record {
  front = λ settings homes same table.
      Grows-same _ _ _ _ (sym (one_more settings homes c.args.tray.now.items c.loop-n.n (ToHost 0 []) (omega (arith, c.loop-n-test.true))))
      (Grows-trans _ _ _ _ _ (c.loop-n.invariant.front settings homes same table) (c.in_default.ensures.ok settings homes (ToHost 0 []) same table));
  waits = Same-trans _ _ _ c.loop-n.invariant.waits c.in_default.ensures.waits;
  bound = Same-trans _ _ _ c.loop-n.invariant.bound c.in_default.ensures.bound;
  later = omega (arith, c.loop-n.invariant.later, c.in_default.ensures.cause.later);
}

pub returns-clause-ok : goal.returns-clause-ok
returns-clause-ok g c = λ settings homes same table.
    Grows-same _ _ _ _ (ap (all_posted settings homes) (take_all c.loop-n.n c.args.tray.now.items (omega (arith, c.loop-n-test.false)))) (c.loop-n.invariant.front settings homes same table)
