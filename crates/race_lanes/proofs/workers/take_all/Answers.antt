use Rattle.std.proofs.Common.{rules, refl, ◌≡◌, ◌+◌, ◌∷◌, ◌++◌, [], List, suc, take, length, ◌∙◌, subst, sym, ap, arith}
use Rattle.table_defs.specs.Table.{Table}
use Rattle.forward_worker.proofs.Closing.{prefix_trans}
use Rattle.legal_defs.specs.Runs.{Numbered, numbered, with_number}
use Rattle.trace_defs.specs.Entered.{entered, entered_all}
use Rattle.race_lanes.specs.Shares.{datas_of}
use Rattle.race_lanes.specs.Workers.{Hears}
use Rattle.race_lanes.proofs.Placing.{as_many}
use Rattle.race_lanes.proofs.Speaking.{take_more, take_all}
use Rattle.race_lanes.proofs.Hearing.{hears_none, prefix_same}
use Rattle.race_lanes.proofs.workers.take_all.Goals as goal

pub loop-i-init : goal.loop-i-init
loop-i-init g c =
    let w = c.args.worker.now in
    (refl, refl, prefix_same w.list, hears_none w.first w.list c.args.workers c.args.share (numbered c.args.first (entered_all c.args.records.now)) c.args.decided.now c.requires.empty)

pub loop-i-preserved : goal.loop-i-preserved
loop-i-preserved g c =
    let inv = c.loop-i.invariant in
    let was = c.args.worker.now in
    let i = c.loop-i.i in
    let rs : List Numbered = numbered c.args.first (entered_all c.args.records.now) in
    let r = with_number (c.args.first + i) (entered c.record_at-what.result.now) in
    let same = c.take.ensures.same in
    let before : Hears c.loop-i.worker.first was.list c.loop-i.worker.list (datas_of c.args.workers c.args.share (take i rs)) c.loop-i.decided =
    subst (λ (t : Table). Hears t was.list c.loop-i.worker.list (datas_of c.args.workers c.args.share (take i rs)) c.loop-i.decided) (sym inv.1) inv.3 in
    let now = c.in_ok-take.ensures.hears was.list (take i rs) inv.2 before in
    let next : i + 1 ≡ suc i = omega arith in
    let more : take i rs ++ r ∷ [] ≡ take (i + 1) rs = sym (ap (λ n. take n rs) next ∙ take_more rs i r (c.record_at-what.ensures c.args.first)) in (
      same.0 ∙ inv.0,
      same.1 ∙ inv.1,
      prefix_trans was.list c.loop-i.worker.list c.take.new.worker.list inv.2 c.take.ensures.grows,
      subst (λ (z : Table × List Numbered). Hears z.0 was.list c.take.new.worker.list (datas_of c.args.workers c.args.share z.1) c.take.new.decided) (λ j. (inv.1 j, more j)) now,
    )

pub returns-clause-hears : goal.returns-clause-hears
returns-clause-hears g c =
    let inv = c.loop-i.invariant in
    let rs : List Numbered = numbered c.args.first (entered_all c.args.records.now) in
    let at_end : c.loop-i.i ≡ length c.args.records.now = search rules in
    subst (λ (done : List Numbered). Hears c.args.worker.now.first c.args.worker.now.list c.loop-i.worker.list (datas_of c.args.workers c.args.share done) c.loop-i.decided)
    (take_all c.loop-i.i rs (at_end ∙ sym (as_many c.args.first c.args.records.now))) inv.3
