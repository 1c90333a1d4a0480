use Rattle.std.proofs.Common.{◌≡◌, sym, ap, ◌∙◌, subst, ℕ, length}
use Rattle.switch_event.specs.Config.{Config}
use Rattle.switch_defs.specs.History.{after}
use Rattle.legal_defs.specs.Legal.{LegalBy}
use Rattle.day_defs.specs.Office.{settings}
use Rattle.day_defs.specs.Day.{dawn, recorded_phases}
use Rattle.day_load.specs.declared.TheConstants.{LANES, WORKERS}
use Rattle.day_load.proofs.day_run.DayRun.close.Goals as goal

pub returns : goal.returns
returns g c = λ hosts done s.
    let run = c.args.self.race in
    let phases = recorded_phases hosts dawn done in
    let legal = c.in_ok-end.ensures.legal phases s.text s.raced.stands in
    let here : LegalBy settings LANES WORKERS phases s.text run.history run.forwarded =
    subst (λ (z : Config × ℕ × ℕ). LegalBy z.0 z.1 z.2 phases s.text run.history run.forwarded) (λ i. (s.raced.config i, s.raced.lanes_are i, s.raced.workers_are i)) legal in
    record {
      controls = s.controls;
      frames = s.frames;
      text = s.text;
      history = run.history;
      legal = subst (λ (n : ℕ). LegalBy settings LANES WORKERS phases s.text run.history n) (sym c.forwarded.ensures) here;
      sessions = c.sessions.ensures ∙ ap (λ (config : Config). length (after config run.history).sessions) s.raced.config;
    }
