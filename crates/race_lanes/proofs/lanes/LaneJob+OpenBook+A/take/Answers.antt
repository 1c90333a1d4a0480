use Rattle.std.proofs.Common.{rules, tests, ◌≡◌, ◌==◌, true, false, ap, sym, refl, ◌∙◌, subst}
use Rattle.event_record.specs.Record.{event_of}
use Rattle.authenticator.specs.Meaning.{IsEvent}
use Rattle.switch_book.specs.declared.open_book.Fixed.{Fixed}
use Rattle.legal_defs.specs.Runs.{ControlRecord, runs_on, with_number}
use Rattle.legal_defs.specs.Runs.Numbered.{Control}
use Rattle.trace_defs.specs.Entered.{entered}
use Rattle.race_lanes.specs.Lanes.{LaneView, MayCome}
use Rattle.race_lanes.proofs.Speaking.{ran_same, counted_same, ran_offered, counted_offered, not_control, elsewhere, here}
use Rattle.race_lanes.proofs.lanes.LaneJob+OpenBook+A.take.Goals as goal

pub offer-requires-clause-based : goal.offer-requires-clause-based
offer-requires-clause-based g c κs within =
    let b = c.requires.based in
    let n = c.args.number in
    let r = with_number n (entered c.args.what.now) in
    let e : ControlRecord = record { number = n; lane = c.in-Control.lane; event = event_of c.in-Control.what } in
    let is : r ≡ Control e = ap (λ w. with_number n (entered w)) c.in-Control.is in
    (b.0, b.1, subst (IsEvent b.0.fixed.config) (sym c.event.ensures) (subst (MayCome b.0.fixed.config) is b.2))

pub returns-then-self-clause-counted : goal.returns-then-self-clause-counted
returns-then-self-clause-counted g c x done base k =
    counted_same x.opening c.args.lanes c.args.self.now.lane done (with_number c.args.number (entered c.args.what.now)) _ _ _ _ k

pub returns-then-running_lane-self-clause-ran : goal.returns-then-running_lane-self-clause-ran
returns-then-running_lane-self-clause-ran g c x done base ran =
    let n = c.args.number in
    let r = with_number n (entered c.args.what.now) in
    let e : ControlRecord = record { number = n; lane = c.in-Control.lane; event = event_of c.in-Control.what } in
    let is : r ≡ Control e = ap (λ w. with_number n (entered w)) c.in-Control.is in
    let at : (runs_on c.args.lanes c.in-Control.lane == c.self.inside.seat.lane) ≡ true = search (rules, tests) in
    let mine = here c.args.lanes c.args.self.now.lane e r is (subst (λ (w : LaneView Fixed). (runs_on c.args.lanes c.in-Control.lane == w.lane) ≡ true) c.self.view_is at) in
    let fine = sym (ap (λ (w : LaneView Fixed). w.out.failed) c.self.view_is) ∙ c.if-self.false in
    ran_offered x c.args.lanes done r e c.args.self.now c.offer.new.self mine fine (c.offer.ensures.offered x e base refl (sym c.event.ensures)) ran

pub returns-then-running_lane-self-clause-counted : goal.returns-then-running_lane-self-clause-counted
returns-then-running_lane-self-clause-counted g c x done base k =
    let n = c.args.number in
    let r = with_number n (entered c.args.what.now) in
    let e : ControlRecord = record { number = n; lane = c.in-Control.lane; event = event_of c.in-Control.what } in
    let is : r ≡ Control e = ap (λ w. with_number n (entered w)) c.in-Control.is in
    let at : (runs_on c.args.lanes c.in-Control.lane == c.self.inside.seat.lane) ≡ true = search (rules, tests) in
    let mine = here c.args.lanes c.args.self.now.lane e r is (subst (λ (w : LaneView Fixed). (runs_on c.args.lanes c.in-Control.lane == w.lane) ≡ true) c.self.view_is at) in
    let fine = sym (ap (λ (w : LaneView Fixed). w.out.failed) c.self.view_is) ∙ c.if-self.false in
    counted_offered x c.args.lanes done r e c.args.self.now c.offer.new.self mine fine (c.offer.ensures.offered x e base refl (sym c.event.ensures)) k

pub returns-else-running_lane-self-clause-ran : goal.returns-else-running_lane-self-clause-ran
returns-else-running_lane-self-clause-ran g c x done base ran =
    let n = c.args.number in
    let r = with_number n (entered c.args.what.now) in
    let e : ControlRecord = record { number = n; lane = c.in-Control.lane; event = event_of c.in-Control.what } in
    let is : r ≡ Control e = ap (λ w. with_number n (entered w)) c.in-Control.is in
    let at : (runs_on c.args.lanes c.in-Control.lane == c.self.inside.seat.lane) ≡ false = search (rules, tests) in
    let other = elsewhere c.args.lanes c.args.self.now.lane e r is (subst (λ (w : LaneView Fixed). (runs_on c.args.lanes c.in-Control.lane == w.lane) ≡ false) c.self.view_is at) in
    ran_same x.fixed.config x.opening c.args.lanes c.args.self.now.lane done r _ _ _ other ran

pub returns-else-running_lane-self-clause-counted : goal.returns-else-running_lane-self-clause-counted
returns-else-running_lane-self-clause-counted g c x done base k =
    counted_same x.opening c.args.lanes c.args.self.now.lane done (with_number c.args.number (entered c.args.what.now)) _ _ _ _ k

pub returns-in_default-clause-ran : goal.returns-in_default-clause-ran
returns-in_default-clause-ran g c x done base ran =
    let r = with_number c.args.number (entered c.args.what.now) in
    ran_same x.fixed.config x.opening c.args.lanes c.args.self.now.lane done r _ _ _ (not_control c.args.lanes c.args.self.now.lane _ r (ap (λ w. with_number c.args.number (entered w)) c.in_default.is)) ran

pub returns-in_default-clause-counted : goal.returns-in_default-clause-counted
returns-in_default-clause-counted g c x done base k =
    counted_same x.opening c.args.lanes c.args.self.now.lane done (with_number c.args.number (entered c.args.what.now)) _ _ _ _ k
