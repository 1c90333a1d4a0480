use Rattle.std.proofs.Common.{◌≡◌, ◌+◌, ◌*◌, ◌<◌, ◌≤◌, ◌++◌, ◌∷◌, [], ℕ, List, length, sym, subst, arith, length-append}
use Rattle.std.specs.Prelude.{IfOk}
use Rattle.event_record.specs.declared.TheConstants.{MOST_EVENTS}
use Rattle.day_defs.specs.declared.Phase.{Phase}
use Rattle.day_defs.specs.declared.Phase.TheVariants.{Arrival, Hour, Renewal}
use Rattle.day_defs.specs.declared.TheConstants.{MOST_HOSTS}
use Rattle.day_defs.specs.Day.{dawn, recorded_phases, recorded_day}
use Rattle.day_load.specs.Summary.{Sums}
use Rattle.day_load.specs.Running.{Stands, spent}
use Rattle.day_load.proofs.Days.{spent-few, hours, length-hours, hours-more}
use Rattle.day_load.proofs.load.run_day.Goals as goal

-- so few phases have room in a history
fits : (n : ℕ) (done : List Phase) → n ≤ MOST_HOSTS → length done ≤ 60 → spent n done ≤ MOST_EVENTS
fits n done few short = let all = spent-few n done few in omega arith

one_more : (n k : ℕ) → n ≤ MOST_HOSTS → k < 24 → spent n (hours k ++ Hour ∷ []) ≤ MOST_EVENTS
one_more n k few within =
    let before = length-hours k in
    let all = length-append (hours k) (Hour ∷ []) in
    let short : length (hours k ++ Hour ∷ []) ≤ 60 = omega arith in
    fits n (hours k ++ Hour ∷ []) few short

two_more : (n k : ℕ) → n ≤ MOST_HOSTS → k < 24 → spent n ((hours k ++ Hour ∷ []) ++ Renewal ∷ []) ≤ MOST_EVENTS
two_more n k few within =
    let before = length-hours k in
    let first = length-append (hours k) (Hour ∷ []) in
    let all = length-append (hours k ++ Hour ∷ []) (Renewal ∷ []) in
    let short : length ((hours k ++ Hour ∷ []) ++ Renewal ∷ []) ≤ 60 = omega arith in
    fits n ((hours k ++ Hour ∷ []) ++ Renewal ∷ []) few short

pub pass-requires-after_bounds : goal.pass-requires-after_bounds
pass-requires-after_bounds g c κs within =
    let short : length (Arrival ∷ []) ≤ 60 = omega arith in
    (c.args.hosts, [], c.in_ok-run.ensures, c.requires, fits c.args.hosts (Arrival ∷ []) c.requires short)

pub pass-requires-in-loop-hour-after_bounds : goal.pass-requires-in-loop-hour-after_bounds
pass-requires-in-loop-hour-after_bounds g c κs within =
    let k = c.loop-hour._hour in
    (c.args.hosts, hours k, c.loop-hour.invariant, c.requires, one_more c.args.hosts k c.requires c.loop-hour-test.true)

pub pass-requires-in-loop-hour-2-after_bounds : goal.pass-requires-in-loop-hour-2-after_bounds
pass-requires-in-loop-hour-2-after_bounds g c κs within =
    let k = c.loop-hour._hour in (
      c.args.hosts,
      hours k ++ Hour ∷ [],
      c.in_ok-run-3.ensures c.args.hosts (hours k) c.loop-hour.invariant,
      c.requires,
      two_more c.args.hosts k c.requires c.loop-hour-test.true,
    )

pub loop-hour-preserved : goal.loop-hour-preserved
loop-hour-preserved g c =
    let k = c.loop-hour._hour in
    subst (Stands g.A.Authenticator.stands g.A.Authenticator.made c.in_ok-run-4.run' c.args.hosts) (sym (hours-more k))
    (c.in_ok-run-4.ensures c.args.hosts (hours k ++ Hour ∷ []) (c.in_ok-run-3.ensures c.args.hosts (hours k) c.loop-hour.invariant))

pub returns : goal.returns
unfolding recorded_day
returns g c =
    let all : c.loop-hour._hour ≡ 24 = omega arith in
    subst (λ (k : ℕ). IfOk c.close.result (λ s. Sums (recorded_phases c.args.hosts dawn (hours k)) s)) all
    (c.close.ensures c.args.hosts (hours c.loop-hour._hour) c.loop-hour.invariant)
