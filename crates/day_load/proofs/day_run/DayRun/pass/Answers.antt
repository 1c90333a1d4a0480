use Rattle.std.proofs.Common.{◌≡◌, ◌+◌, ◌<◌, ◌≤◌, ◌++◌, ◌∷◌, [], ℕ, List, length, refl, sym, ap, ◌∙◌, subst, arith}
use Rattle.trace_defs.specs.Line.{Record}
use Rattle.event_record.specs.declared.trace_record.TraceRecord.{TraceRecord}
use Rattle.trace_defs.specs.Entered.{entered, entered_all}
use Rattle.std.proofs.lemmas.List.{length-map}
use Rattle.race_run.specs.Runs.{MayRun}
use Rattle.race_lanes.specs.Raced.{RacedBy}
use Rattle.race_lanes.proofs.Raced.{numbers_fit, may_come, controls_fit, raced_more}
use Rattle.history_defs.specs.Output.{controls_in, records_of}
use Rattle.day_defs.specs.Office.{settings}
use Rattle.day_defs.specs.Day.{dawn, acts_of, recorded_phases}
use Rattle.day_load.specs.declared.TheConstants.{LANES, WORKERS}
use Rattle.day_load.specs.Summary.{frames_in}
use Rattle.day_load.proofs.Days.{spent-more, frames-before, may, stands-more}
use Rattle.day_load.proofs.day_run.DayRun.pass.Goals as goal

pub phase-requires-clause-few : goal.phase-requires-clause-few
phase-requires-clause-few g c =
    let at = c.requires in
    let s = at.2 in
    let more = spent-more at.0 at.1 c.args.which in
    let same : length (acts_of c.args.self.maker.hosts c.args.which) ≡ length (acts_of at.0 c.args.which) = ap (λ (n : ℕ). length (acts_of n c.args.which)) s.hosts_are in
    omega (arith, s.turns, at.4)

pub phase-requires-2-clause-numbers : goal.phase-requires-2-clause-numbers
phase-requires-2-clause-numbers g c κs within =
    let at = c.requires in
    let s = at.2 in
    let phases = recorded_phases at.0 dawn at.1 in
    let run = may g.A.Authenticator.stands g.A.Authenticator.made c.args.self at.0 at.1 s c.args.which c.phase.new.self c.new-records.result.items c.phase.new.records.items c.new-records.ensures.items c.in_default.ensures at.3 at.4 in
    let there : MayRun settings phases (entered_all c.deref-2.result.now) = subst (λ (rs : List TraceRecord). MayRun settings phases (entered_all rs)) (sym c.deref-2.ensures.value) run in
    numbers_fit LANES WORKERS c.args.self.race settings phases s.text c.deref-2.result.now s.raced there

pub phase-requires-2-clause-may_come : goal.phase-requires-2-clause-may_come
phase-requires-2-clause-may_come g c κs within =
    let at = c.requires in
    let s = at.2 in
    let phases = recorded_phases at.0 dawn at.1 in
    let run = may g.A.Authenticator.stands g.A.Authenticator.made c.args.self at.0 at.1 s c.args.which c.phase.new.self c.new-records.result.items c.phase.new.records.items c.new-records.ensures.items c.in_default.ensures at.3 at.4 in
    let there : MayRun settings phases (entered_all c.deref-2.result.now) = subst (λ (rs : List TraceRecord). MayRun settings phases (entered_all rs)) (sym c.deref-2.ensures.value) run in
    may_come LANES WORKERS c.args.self.race settings phases s.text c.deref-2.result.now s.raced there

pub phase-requires-2-clause-fits : goal.phase-requires-2-clause-fits
phase-requires-2-clause-fits g c κs within =
    let at = c.requires in
    let s = at.2 in
    let phases = recorded_phases at.0 dawn at.1 in
    let run = may g.A.Authenticator.stands g.A.Authenticator.made c.args.self at.0 at.1 s c.args.which c.phase.new.self c.new-records.result.items c.phase.new.records.items c.new-records.ensures.items c.in_default.ensures at.3 at.4 in
    let there : MayRun settings phases (entered_all c.deref-2.result.now) = subst (λ (rs : List TraceRecord). MayRun settings phases (entered_all rs)) (sym c.deref-2.ensures.value) run in
    controls_fit LANES WORKERS c.args.self.race settings phases s.text c.deref-2.result.now s.raced there

pub overflow_add-result-2 : goal.overflow_add-result-2
overflow_add-result-2 g c =
    let at = c.requires in
    let s = at.2 in
    let before = frames-before at.0 at.1 in
    let all = spent-more at.0 at.1 c.args.which in
    omega (arith, s.frames, at.4, c.count-more.ensures.all, c.deref.type_inv.1)

pub returns : goal.returns
returns g c = λ hosts done s.
    let records = c.phase.new.records.items in
    let here = c.deref.ensures.value in
    let there = c.deref-2.ensures.value in
    let phases = recorded_phases hosts dawn done in
    let same = c.in_ok-race.ensures.same in
    let got = c.in_ok-race.ensures.stands phases s.text s.raced.stands in
    let raced = raced_more LANES WORKERS c.args.self.race c.in_ok-race.race settings phases (entered_all c.deref-2.result.now) s.text got.0 s.raced same.0 same.1 same.2 same.4 got.2 in
    stands-more g.A.Authenticator.stands g.A.Authenticator.made c.args.self hosts done s c.args.which c.phase.new.self c.new-records.result.items records c.new-records.ensures.items c.in_default.ensures
    _ got.0 refl
    (subst (λ (rs : List TraceRecord). RacedBy LANES WORKERS c.in_ok-race.race settings (phases ++ entered_all rs ∷ []) (s.text ++ got.0)) there raced)
    (ap (λ (n : ℕ). c.args.self.controls + n) (c.count-more.ensures.controls ∙ ap (λ (rs : List TraceRecord). controls_in (entered_all rs)) here))
    (ap (λ (n : ℕ). c.args.self.frames + n) (c.count-more.ensures.frames ∙ ap (λ (rs : List TraceRecord). frames_in (entered_all rs)) here))
