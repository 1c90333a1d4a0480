use Rattle.std.proofs.Common.{rules, tests, ◌≡◌, ◌==◌, true, false, ap, sym, refl}
use Rattle.legal_defs.specs.Runs.{DataRecord, served_by, with_number}
use Rattle.legal_defs.specs.Runs.Numbered.{Data}
use Rattle.trace_defs.specs.Entered.{entered}
use Rattle.race_lanes.proofs.Hearing.{hears_same, hears_next, not_data, another, own}
use Rattle.race_lanes.proofs.workers.take.Goals as goal

pub returns-in_ok-decide-clause-hears : goal.returns-in_ok-decide-clause-hears
returns-in_ok-decide-clause-hears g c least done begins h =
    let n = c.args.number in
    let r = with_number n (entered c.args.what.now) in
    let x : DataRecord = record { number = n; port = c.in-Data.port; octets = c.in-Data.octets } in
    let is : r ≡ Data x = ap (λ w. with_number n (entered w)) c.in-Data.is in
    let mine : (served_by c.args.workers c.in-Data.port == c.args.share) ≡ true = search (rules, tests) in
    hears_next c.args.worker.now.first least c.args.worker.now.list c.decide.new.worker.list c.args.workers c.args.share done r x c.args.decided.now c.decide.new.decided
    (own c.args.workers c.args.share x r is mine) begins c.decide.ensures.grows (c.in_ok-decide.ensures.heard x refl refl (sym c.as_slice.ensures)) h

pub returns-else-serving_worker-share-clause-hears : goal.returns-else-serving_worker-share-clause-hears
returns-else-serving_worker-share-clause-hears g c least done begins h =
    let n = c.args.number in
    let r = with_number n (entered c.args.what.now) in
    let x : DataRecord = record { number = n; port = c.in-Data.port; octets = c.in-Data.octets } in
    let is : r ≡ Data x = ap (λ w. with_number n (entered w)) c.in-Data.is in
    let other : (served_by c.args.workers c.in-Data.port == c.args.share) ≡ false = search (rules, tests) in
    hears_same c.args.worker.now.first least c.args.worker.now.list c.args.workers c.args.share done r c.args.decided.now (another c.args.workers c.args.share x r is other) h

pub returns-in_default-clause-hears : goal.returns-in_default-clause-hears
returns-in_default-clause-hears g c least done begins h =
    let r = with_number c.args.number (entered c.args.what.now) in
    hears_same c.args.worker.now.first least c.args.worker.now.list c.args.workers c.args.share done r c.args.decided.now (not_data c.args.workers c.args.share _ r (ap (λ w. with_number c.args.number (entered w)) c.in_default.is)) h
