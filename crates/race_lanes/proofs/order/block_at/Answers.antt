use Rattle.std.proofs.Common.{◌≡◌, ◌+◌, ◌-◌, ◌<◌, ◌%◌, ◌∷◌, ◌++◌, [], suc, List, length, take, ap, sym, ◌∙◌, subst, mod-lt, arith}
use Rattle.legal_defs.specs.Runs.{ControlRecord, DataRecord, Numbered, numbered, with_number}
use Rattle.legal_defs.specs.Runs.Numbered.{Control, Data}
use Rattle.legal_defs.specs.Blocks.Line.{Reply, Decision}
use Rattle.event_record.specs.Record.{event_of}
use Rattle.trace_defs.specs.Entered.{entered, entered_all}
use Rattle.race_lanes.specs.Lines.{Walked}
use Rattle.race_lanes.proofs.Speaking.{take_more, here}
use Rattle.race_lanes.proofs.Hearing.{own}
use Rattle.race_lanes.proofs.Merging.{same_next, same_number, controls_left, datas_left, walked_reply, walked_decision}
use Rattle.race_lanes.proofs.order.block_at.Goals as goal

pub next_said-requires-clause-more : goal.next_said-requires-clause-more
next_said-requires-clause-more c d =
    let first = c.requires.whole.0 in
    let w = c.requires.whole.2.1 in
    let rs : List Numbered = numbered first (entered_all c.args.records.now) in
    let e : ControlRecord = record { number = first + c.args.i; lane = c.in-Control.lane; event = event_of c.in-Control.what } in
    let r : Numbered = with_number (first + c.args.i) (entered c.record_at.result.now) in
    let is : r ≡ Control e = ap (λ w. with_number (first + c.args.i) (entered w)) c.in-Control.is in
    let at = c.record_at.ensures first in
    let l = c.from-at.result in
    let turn : l ≡ (c.in-Control.lane - 1) % c.args.lanes = (let a = c.from-at.ensures in let b = c.running_lane.ensures in omega arith) in
    let small : (c.in-Control.lane - 1) % c.args.lanes < c.args.lanes = mod-lt (c.in-Control.lane - 1) c.requires.lanes.0 in
    let inside : l < c.args.lanes = omega arith in
    let place = w.lane_at l inside in
    let left = controls_left c.args.lanes (suc l) rs c.args.i r at in
    let one = ap length (here c.args.lanes (suc l) e r is (same_next ((c.in-Control.lane - 1) % c.args.lanes) l turn)) in
    let whole = c.requires.whole.1.said l d inside in
    omega arith

pub next_decided-requires-clause-more : goal.next_decided-requires-clause-more
next_decided-requires-clause-more c d =
    let first = c.requires.whole.0 in
    let w = c.requires.whole.2.1 in
    let rs : List Numbered = numbered first (entered_all c.args.records.now) in
    let x : DataRecord = record { number = first + c.args.i; port = c.in-Data.port; octets = c.in-Data.octets } in
    let r : Numbered = with_number (first + c.args.i) (entered c.record_at.result.now) in
    let is : r ≡ Data x = ap (λ w. with_number (first + c.args.i) (entered w)) c.in-Data.is in
    let at = c.record_at.ensures first in
    let k = c.serving_worker.result in
    let turn : k ≡ (c.in-Data.port - 1) % c.args.workers = c.serving_worker.ensures in
    let small : (c.in-Data.port - 1) % c.args.workers < c.args.workers = mod-lt (c.in-Data.port - 1) c.requires.workers.0 in
    let inside : k < c.args.workers = omega arith in
    let place = w.worker_at k inside in
    let left = datas_left c.args.workers k rs c.args.i r at in
    let one = ap length (own c.args.workers k x r is (same_number ((c.in-Data.port - 1) % c.args.workers) k turn)) in
    let whole = c.requires.whole.1.heard k d inside in
    omega arith

pub returns-in-Control : goal.returns-in-Control
returns-in-Control c first lines w =
    let rs : List Numbered = numbered first (entered_all c.args.records.now) in
    let e : ControlRecord = record { number = first + c.args.i; lane = c.in-Control.lane; event = event_of c.in-Control.what } in
    let r : Numbered = with_number (first + c.args.i) (entered c.record_at.result.now) in
    let is : r ≡ Control e = ap (λ w. with_number (first + c.args.i) (entered w)) c.in-Control.is in
    let at = c.record_at.ensures first in
    let l = c.from-at.result in
    let turn : l ≡ (c.in-Control.lane - 1) % c.args.lanes = (let a = c.from-at.ensures in let b = c.running_lane.ensures in omega arith) in
    let small : (c.in-Control.lane - 1) % c.args.lanes < c.args.lanes = mod-lt (c.in-Control.lane - 1) c.requires.lanes.0 in
    let inside : l < c.args.lanes = omega arith in
    let i = c.args.i in
    let next : i + 1 ≡ suc i = omega arith in
    let more : take i rs ++ r ∷ [] ≡ take (i + 1) rs = sym (ap (λ n. take n rs) next ∙ take_more rs i r at) in
    let said = c.next_said.ensures.said in (
      Reply e said.0,
      said.1,
      said.2,
      subst (λ (z : List Numbered). Walked c.args.lanes c.args.workers c.args.outs.now c.args.jobs.now z c.next_said.new.next.items c.args.worker_next.now.items (lines ++ Reply e said.0 ∷ [])) more
          (walked_reply c.args.lanes c.args.workers c.args.outs.now c.args.jobs.now (take i rs) r c.args.lane_next.now.items c.args.worker_next.now.items lines w
          e said.0 l c.next_said.new.next.items is turn inside c.next_said.ensures.next said.3),
    )

pub returns-in-Data : goal.returns-in-Data
returns-in-Data c first lines w =
    let rs : List Numbered = numbered first (entered_all c.args.records.now) in
    let x : DataRecord = record { number = first + c.args.i; port = c.in-Data.port; octets = c.in-Data.octets } in
    let r : Numbered = with_number (first + c.args.i) (entered c.record_at.result.now) in
    let is : r ≡ Data x = ap (λ w. with_number (first + c.args.i) (entered w)) c.in-Data.is in
    let at = c.record_at.ensures first in
    let k = c.serving_worker.result in
    let turn : k ≡ (c.in-Data.port - 1) % c.args.workers = c.serving_worker.ensures in
    let small : (c.in-Data.port - 1) % c.args.workers < c.args.workers = mod-lt (c.in-Data.port - 1) c.requires.workers.0 in
    let inside : k < c.args.workers = omega arith in
    let i = c.args.i in
    let next : i + 1 ≡ suc i = omega arith in
    let more : take i rs ++ r ∷ [] ≡ take (i + 1) rs = sym (ap (λ n. take n rs) next ∙ take_more rs i r at) in
    let heard = c.next_decided.ensures.decided in (
      Decision x heard.0,
      heard.1,
      heard.2,
      subst (λ (z : List Numbered). Walked c.args.lanes c.args.workers c.args.outs.now c.args.jobs.now z c.args.lane_next.now.items c.next_decided.new.next.items (lines ++ Decision x heard.0 ∷ [])) more
          (walked_decision c.args.lanes c.args.workers c.args.outs.now c.args.jobs.now (take i rs) r c.args.lane_next.now.items c.args.worker_next.now.items lines w
          x heard.0 k c.next_decided.new.next.items is turn inside c.next_decided.ensures.next heard.3),
    )
