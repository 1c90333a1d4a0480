use Rattle.std.proofs.Common.{rules, ◌≡◌, ◌++◌, ◌∷◌, [], List, length, replicate, ap, sym, refl, ◌∙◌, subst, append_assoc, append-nil, arith}
use Rattle.legal_defs.specs.Runs.{Numbered, numbered}
use Rattle.legal_defs.specs.Blocks.{shown_in, text_of}
use Rattle.trace_defs.specs.Entered.{entered_all}
use Rattle.race_lanes.specs.Lines.{Walked}
use Rattle.race_lanes.proofs.Placing.{as_many}
use Rattle.race_lanes.proofs.Speaking.{take_all}
use Rattle.race_lanes.proofs.Merging.{text_more, forwarded_more, walked_none, merged}
use Rattle.race_lanes.proofs.order.merge.Goals as goal

pub loop-i-init : goal.loop-i-init
loop-i-init c =
    let whole = c.requires.whole.1 in
    let lanes : c.in_ok-lane_next.lane_next.items ≡ replicate (length c.args.outs.now) 0 = search rules in
    let workers : c.in_ok-worker_next.worker_next.items ≡ replicate (length c.args.jobs.now) 0 = search rules in (
      (omega arith),
      λ first. ([], sym (append-nil c.args.text.now.items), refl, walked_none c.args.lanes c.args.workers c.args.outs.now c.args.jobs.now _ _ whole.lane_count whole.worker_count lanes workers),
    )

pub block_at-block-requires-clause-whole : goal.block_at-block-requires-clause-whole
block_at-block-requires-clause-whole c =
    let first = c.requires.whole.0 in
    let inv = c.loop-i.invariant.1 first in
    (first, c.requires.whole.1, (inv.0, inv.3))

pub loop-i-preserved : goal.loop-i-preserved
loop-i-preserved c =
    let most = c.loop-i.invariant.0 in
    let one = c.count_of-forwarded.ensures.one in (
      (omega arith),
      λ first.
          let inv = c.loop-i.invariant.1 first in
          let next = c.block_at-block.ensures first inv.0 inv.3 in
          let more : c.extend_from_slice.new.self.items ≡ c.loop-i.text.items ++ c.block_at-block.result.text.now = search rules in (
            inv.0 ++ next.0 ∷ [],
            more ∙ ((λ i. inv.1 i ++ next.1 i) ∙ (append_assoc c.args.text.now.items (text_of inv.0) (shown_in next.0).text ∙ ap (λ t. c.args.text.now.items ++ t) (sym (text_more inv.0 next.0)))),
            (let a = inv.2 in let b = c.count_of-forwarded.ensures.count in let d = next.2 in let e = forwarded_more inv.0 next.0 in omega arith),
            next.3,
          ),
    )

pub returns-clause-lines : goal.returns-clause-lines
returns-clause-lines c first whole =
    let inv = c.loop-i.invariant.1 first in
    let rs : List Numbered = numbered first (entered_all c.args.records.now) in
    let at_end : c.loop-i.i ≡ length c.args.records.now = search rules in
    let all = take_all c.loop-i.i rs (at_end ∙ sym (as_many first c.args.records.now)) in (
      inv.0,
      inv.1,
      inv.2,
      merged c.args.lanes c.args.workers rs c.args.outs.now c.args.jobs.now c.loop-i.lane_next.items c.loop-i.worker_next.items inv.0 whole
          (subst (λ (z : List Numbered). Walked c.args.lanes c.args.workers c.args.outs.now c.args.jobs.now z c.loop-i.lane_next.items c.loop-i.worker_next.items inv.0) all inv.3),
    )
