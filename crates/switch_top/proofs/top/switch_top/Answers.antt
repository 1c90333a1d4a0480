use Rattle.std.proofs.Common.{sym, ap, ◌∙◌, Some, Err}
use Rattle.event_record.specs.declared.TheConstants.{MOST_EVENTS}
use Rattle.history_defs.specs.declared.TheConstants.{MOST_OCTETS}
use Rattle.history_defs.specs.Output.{IsPlain}
use Rattle.switch_event.specs.Config.{empty}
use Rattle.race_phases.specs.Raced.{begun_by, legal_by}
use Rattle.switch_top.proofs.CompleteLemmas.{run_done, count_done}
use Rattle.switch_top.proofs.LoadLemmas.{load_done, loads_so}
use Rattle.switch_top.proofs.RaceLemmas.{race_writes, race_writes_so, race_short_so, race_refused}
use Rattle.switch_top.proofs.ServeLemmas.{serve_done, serve_refused, serve_roomy, serves_so}
use Rattle.switch_top.proofs.TopLemmas.{run_writes, run_short, run_refused, count_writes, count_refused}
use Rattle.switch_top.proofs.top.switch_top.Goals as goal

pub returns-in-Some-Check-clause-checked : goal.returns-in-Some-Check-clause-checked
returns-in-Some-Check-clause-checked g c = λ asked.
    count_writes MOST_OCTETS MOST_EVENTS empty _ _ _ _ c.check_within-ending.result _ c.check_within-ending.ensures.ends c.told.ensures.status

pub returns-in-Some-Check-clause-refused : goal.returns-in-Some-Check-clause-refused
returns-in-Some-Check-clause-refused g c = λ apart three.
    count_refused MOST_OCTETS MOST_EVENTS empty _ _ _ _ _ _ _ _ c.check_within-ending.result _ c.check_within-ending.ensures.ends c.told.ensures.said c.told.ensures.status three

pub returns-in-Some-Check-clause-complete : goal.returns-in-Some-Check-clause-complete
returns-in-Some-Check-clause-complete g c = λ reads runs unread unwritten.
    count_done MOST_OCTETS MOST_EVENTS _ _ _ _ c.check_within-ending.result _
    (count_writes MOST_OCTETS MOST_EVENTS empty _ _ _ _ c.check_within-ending.result _ c.check_within-ending.ensures.ends c.told.ensures.status)
    c.told.ensures.status runs (λ e. unread (c.check_within-ending.ensures.read e)) (λ e. unwritten (c.check_within-ending.ensures.write e))

pub returns-in-Some-Replay-clause-replayed : goal.returns-in-Some-Replay-clause-replayed
returns-in-Some-Replay-clause-replayed g c = λ asked.
    run_writes IsPlain IsPlain MOST_OCTETS MOST_EVENTS empty _ _ _ _ c.replay_within-ending.result _ c.replay_within-ending.ensures.ends c.told-in-Some-Replay.ensures.status

pub returns-in-Some-Replay-clause-replay_short : goal.returns-in-Some-Replay-clause-replay_short
returns-in-Some-Replay-clause-replay_short g c = λ asked one.
    run_short IsPlain IsPlain MOST_OCTETS MOST_EVENTS empty _ _ _ _ c.replay_within-ending.result _ c.replay_within-ending.ensures.ends c.told-in-Some-Replay.ensures.status one

pub returns-in-Some-Replay-clause-refused : goal.returns-in-Some-Replay-clause-refused
returns-in-Some-Replay-clause-refused g c = λ apart three.
    run_refused IsPlain IsPlain MOST_OCTETS MOST_EVENTS empty _ _ _ _ _ _ _ _ c.replay_within-ending.result _ c.replay_within-ending.ensures.ends c.told-in-Some-Replay.ensures.said c.told-in-Some-Replay.ensures.status three

pub returns-in-Some-Replay-clause-complete : goal.returns-in-Some-Replay-clause-complete
returns-in-Some-Replay-clause-complete g c = λ reads runs unread unwritten.
    run_done MOST_OCTETS MOST_EVENTS _ _ _ _ c.replay_within-ending.result _ IsPlain IsPlain
    (run_writes IsPlain IsPlain MOST_OCTETS MOST_EVENTS empty _ _ _ _ c.replay_within-ending.result _ c.replay_within-ending.ensures.ends c.told-in-Some-Replay.ensures.status)
    c.told-in-Some-Replay.ensures.status runs (λ e. unread (c.replay_within-ending.ensures.read e)) (λ e. unwritten (c.replay_within-ending.ensures.write e))

pub returns-in-Some-Race-clause-raced : goal.returns-in-Some-Race-clause-raced
returns-in-Some-Race-clause-raced g c = λ workers lanes asked.
    race_writes_so _ workers lanes c.in-Some-Race.lanes c.in-Some-Race.workers MOST_OCTETS MOST_EVENTS empty _ _ _ _ c.race_within-ending.result _ asked
    (sym c.form_of.ensures.form ∙ c.in-Some-Race.is ∙ ap Some c.in-Some-Race.field-0-is) c.race_within-ending.ensures.ends c.told-in-Some-Race.ensures.status

pub returns-in-Some-Race-clause-race_short : goal.returns-in-Some-Race-clause-race_short
returns-in-Some-Race-clause-race_short g c = λ workers lanes asked one.
    race_short_so _ workers lanes c.in-Some-Race.lanes c.in-Some-Race.workers MOST_OCTETS MOST_EVENTS empty _ _ _ _ c.race_within-ending.result _ asked
    (sym c.form_of.ensures.form ∙ c.in-Some-Race.is ∙ ap Some c.in-Some-Race.field-0-is) c.race_within-ending.ensures.ends c.told-in-Some-Race.ensures.status one

pub returns-in-Some-Race-clause-refused : goal.returns-in-Some-Race-clause-refused
returns-in-Some-Race-clause-refused g c = λ apart three.
    race_refused c.in-Some-Race.lanes c.in-Some-Race.workers MOST_OCTETS MOST_EVENTS empty _ _ _ _ _ _ _ _ c.race_within-ending.result _ c.race_within-ending.ensures.ends c.told-in-Some-Race.ensures.said c.told-in-Some-Race.ensures.status three

pub returns-in-Some-Race-clause-complete : goal.returns-in-Some-Race-clause-complete
returns-in-Some-Race-clause-complete g c = λ reads runs unread unwritten.
    let lanes = c.in-Some-Race.lanes in
    let workers = c.in-Some-Race.workers in
    run_done MOST_OCTETS MOST_EVENTS _ _ _ _ c.race_within-ending.result _ (begun_by lanes workers) (legal_by lanes workers)
    (race_writes lanes workers MOST_OCTETS MOST_EVENTS empty _ _ _ _ c.race_within-ending.result _ c.race_within-ending.ensures.ends c.told-in-Some-Race.ensures.status)
    c.told-in-Some-Race.ensures.status runs (λ e. unread (c.race_within-ending.ensures.read e)) (λ e. unwritten (c.race_within-ending.ensures.write e))

pub returns-in-Some-Load-clause-loaded : goal.returns-in-Some-Load-clause-loaded
returns-in-Some-Load-clause-loaded g c = λ hosts asked.
    loads_so _ hosts c.in-Some-Load.hosts _ _ c.load_within-ending.result _ asked
    (sym c.form_of.ensures.form ∙ c.in-Some-Load.is ∙ ap Some c.in-Some-Load.field-0-is) c.load_within-ending.ensures.ends c.told-in-Some-Load.ensures.status

pub returns-in-Some-Load-clause-complete_day : goal.returns-in-Some-Load-clause-complete_day
returns-in-Some-Load-clause-complete_day g c = λ hosts asked unwritten.
    load_done c.in-Some-Load.hosts _ _ c.load_within-ending.result _ c.load_within-ending.ensures.ends c.told-in-Some-Load.ensures.status
    (λ e. unwritten (c.load_within-ending.ensures.write e))

pub returns-in-Some-Serve-clause-served : goal.returns-in-Some-Serve-clause-served
returns-in-Some-Serve-clause-served g c = λ a b d t asked.
    serves_so _ a b d t c.in-Some-Serve.frames c.in-Some-Serve.radius c.in-Some-Serve.dynamic c.in-Some-Serve.turns MOST_OCTETS MOST_EVENTS _ _ c.serve_within-ending.result _ asked
    (sym c.form_of.ensures.form ∙ c.in-Some-Serve.is ∙ ap Some c.in-Some-Serve.field-0-is) c.serve_within-ending.ensures.ends c.told_served.ensures.status

pub returns-in-Some-Serve-clause-settings_refused : goal.returns-in-Some-Serve-clause-settings_refused
returns-in-Some-Serve-clause-settings_refused g c = λ serves three.
    serve_refused MOST_OCTETS MOST_EVENTS c.in-Some-Serve.turns _ _ _ _ _ _ _ c.serve_within-ending.result _ c.serve_within-ending.ensures.ends c.told_served.ensures.said c.told_served.ensures.status three

pub returns-in-Some-Serve-clause-complete_server : goal.returns-in-Some-Serve-clause-complete_server
returns-in-Some-Serve-clause-complete_server g c = λ serves settles unread unwritten unlinked.
    serve_done MOST_OCTETS MOST_EVENTS c.in-Some-Serve.turns _ _ _ c.serve_within-ending.result _ c.serve_within-ending.ensures.ends c.told_served.ensures.status settles
    (λ e. unread (c.serve_within-ending.ensures.cause.read e)) (λ e. unwritten (c.serve_within-ending.ensures.cause.run.write (ap Err e)))
    (λ e. unlinked (c.serve_within-ending.ensures.cause.run.link_fault (ap Err e)))

pub returns-in-Some-Serve-clause-roomy : goal.returns-in-Some-Serve-clause-roomy
returns-in-Some-Serve-clause-roomy g c = λ a b d t asked room.
    serve_roomy _ a b d t c.in-Some-Serve.frames c.in-Some-Serve.radius c.in-Some-Serve.dynamic c.in-Some-Serve.turns MOST_OCTETS MOST_EVENTS _ _ _ c.serve_within-ending.result _ asked
    (sym c.form_of.ensures.form ∙ c.in-Some-Serve.is ∙ ap Some c.in-Some-Serve.field-0-is) c.serve_within-ending.ensures.ends c.told_served.ensures.status room
