use Rattle.std.proofs.Common.{length, length-drop, ap, arith, take}
use Rattle.wire_defs.proofs.OutsideLemmas.{Appends-part, Appends-same, slice_from}
use Rattle.outside_text.proofs.streams.write_whole.Goals as goal

pub loop-at-preserved : goal.loop-at-preserved
loop-at-preserved g c = record {
  within = omega (arith, c.in_ok-count.ensures.bound, ap length (slice_from c.args.text.now c.loop-at.at), length-drop c.loop-at.at c.args.text.now);
  octets = Appends-part _ _ _ c.args.text.now c.loop-at.at c.in_ok-count.count c.loop-at.invariant.octets
      (Appends-same _ _ _ _ (ap (take c.in_ok-count.count) (slice_from c.args.text.now c.loop-at.at)) c.in_ok-count.ensures.octets);
  later = omega (arith, c.in_ok-count.ensures.cause.later);
}
