use Rattle.std.proofs.Common.{◌+◌, subst, refl, sym, ap, ◌∙◌, Ok}
use Rattle.switch_event.specs.Config.{is_valid}
use Rattle.trace_defs.specs.Line.Line.{Blank as IsBlank, Begin as IsBegin, Sync as IsSync, Setting as IsSetting, Entry}
use Rattle.trace_defs.specs.Line.Record.{Control as ControlEntry, Data as DataEntry}
use Rattle.event_record.specs.Record.{event_of}
use Rattle.authenticator.specs.Meaning.{IsEvent}
use Rattle.event_record.specs.declared.trace_record.TraceRecord.TheVariants.{Control}
use Rattle.race_run.specs.declared.run.Run.{Run}
use Rattle.race_run.specs.Run.{IsSound, given_by}
use Rattle.race_run.proofs.ReadLemmas.{IsRead-setting, IsRead-begin, reads_event}
use Rattle.race_run.proofs.StepLemmas.{kept_run, Steps-read-ok, Halts-read-err, Steps-read, Steps-blank, Steps-setting, Steps-control, Halts-control, Steps-data}
use Rattle.race_run.proofs.SoundLemmas.{sound_line, sound_setting, sound_control, sound_data}
use Rattle.race_run.proofs.run.Run.take_line.Goals as goal

pub returns-in-Ok-Blank-clause-ok : goal.returns-in-Ok-Blank-clause-ok
returns-in-Ok-Blank-clause-ok g c = λ line kept.
    let old = c.args.self.now in
    let mid : Run = record old { config = c.read_line.new.c; given = c.read_line.new.given } in
    let reads = rw c.in-Ok-Blank.field-0-is at c.in-Ok-Blank.ensures.reads in
    Steps-read g.R.RunsPhases.stands (given_by g.R.RunsPhases.numbers g.R.RunsPhases.gave) c.args.room _ _ old mid _ c.args.runner.now c.args.runner.now line (Ok IsBlank) (sym (c.line.ensures.reads old.config old.given old.begun line kept) ∙ reads.0)
    (kept_run old c.read_line.new.c c.read_line.new.given reads.1) (Steps-blank g.R.RunsPhases.stands (given_by g.R.RunsPhases.numbers g.R.RunsPhases.gave) c.args.room _ mid c.args.runner.now)

pub returns-in-Ok-Setting-clause-ok : goal.returns-in-Ok-Setting-clause-ok
returns-in-Ok-Setting-clause-ok g c = λ line kept.
    let old = c.args.self.now in
    let reads = rw c.in-Ok-Setting.field-0-is at c.in-Ok-Setting.ensures.reads in
    let place = rw c.in-Ok-Setting.field-0-is at c.in-Ok-Setting.ensures.place in
    Steps-read g.R.RunsPhases.stands (given_by g.R.RunsPhases.numbers g.R.RunsPhases.gave) c.args.room _ _ old old _ c.args.runner.now c.args.runner.now line (Ok (IsSetting c.read_line.new.c c.read_line.new.given))
    (sym (c.line.ensures.reads old.config old.given old.begun line kept) ∙ reads) refl (Steps-setting g.R.RunsPhases.stands (given_by g.R.RunsPhases.numbers g.R.RunsPhases.gave) c.args.room _ old c.args.runner.now c.read_line.new.c c.read_line.new.given place)

pub returns-in-Ok-Begin-clause-ok : goal.returns-in-Ok-Begin-clause-ok
returns-in-Ok-Begin-clause-ok g c = λ line kept.
    let old = c.args.self.now in
    let mid : Run = record old { config = c.read_line.new.c; given = c.read_line.new.given } in
    let reads = rw c.in-Ok-Begin.field-0-is at c.in-Ok-Begin.ensures.reads in
    Steps-read-ok g.R.RunsPhases.stands (given_by g.R.RunsPhases.numbers g.R.RunsPhases.gave) c.begin.result c.args.room _ _ old mid c.begin.new.self c.args.runner.now c.begin.new.runner line (Ok IsBegin)
    (sym (c.line.ensures.reads old.config old.given old.begun line kept) ∙ reads.0) (kept_run old c.read_line.new.c c.read_line.new.given reads.1)
    (c.begin.ensures.ok c.args.room _)

pub returns-in-Ok-Sync-clause-ok : goal.returns-in-Ok-Sync-clause-ok
returns-in-Ok-Sync-clause-ok g c = λ line kept.
    let old = c.args.self.now in
    let mid : Run = record old { config = c.read_line.new.c; given = c.read_line.new.given } in
    let reads = rw c.in-Ok-Sync.field-0-is at c.in-Ok-Sync.ensures.reads in
    Steps-read-ok g.R.RunsPhases.stands (given_by g.R.RunsPhases.numbers g.R.RunsPhases.gave) c.sync.result c.args.room _ _ old mid c.sync.new.self c.args.runner.now c.sync.new.runner line (Ok IsSync)
    (sym (c.line.ensures.reads old.config old.given old.begun line kept) ∙ reads.0) (kept_run old c.read_line.new.c c.read_line.new.given reads.1)
    (c.sync.ensures.ok c.args.room)

pub returns-in-Ok-Sync-clause-err : goal.returns-in-Ok-Sync-clause-err
returns-in-Ok-Sync-clause-err g c = λ line kept.
    let old = c.args.self.now in
    let mid : Run = record old { config = c.read_line.new.c; given = c.read_line.new.given } in
    let reads = rw c.in-Ok-Sync.field-0-is at c.in-Ok-Sync.ensures.reads in
    Halts-read-err g.R.RunsPhases.stands (given_by g.R.RunsPhases.numbers g.R.RunsPhases.gave) c.sync.result c.args.room _ _ old mid c.args.runner.now c.sync.new.runner line (Ok IsSync)
    (sym (c.line.ensures.reads old.config old.given old.begun line kept) ∙ reads.0) (kept_run old c.read_line.new.c c.read_line.new.given reads.1)
    (c.sync.ensures.err c.args.room)

pub returns-in-Ok-Control-clause-ok : goal.returns-in-Ok-Control-clause-ok
returns-in-Ok-Control-clause-ok g c = λ line kept.
    let old = c.args.self.now in
    let mid : Run = record old { config = c.read_line.new.c; given = c.read_line.new.given } in
    let reads = rw c.in-Ok-Control.field-0-is at c.in-Ok-Control.ensures.reads in
    let begun = rw c.in-Ok-Control.field-0-is at c.in-Ok-Control.ensures.place in
    Steps-read-ok g.R.RunsPhases.stands (given_by g.R.RunsPhases.numbers g.R.RunsPhases.gave) c.enter_control.result c.args.room _ _ old mid c.enter_control.new.self c.args.runner.now c.args.runner.now line (Ok (Entry (ControlEntry c.in-Ok-Control.lane (event_of c.in-Ok-Control.what))))
    (sym (c.line.ensures.reads old.config old.given old.begun line kept) ∙ reads.0) (kept_run old c.read_line.new.c c.read_line.new.given reads.1)
    (Steps-control g.R.RunsPhases.stands (given_by g.R.RunsPhases.numbers g.R.RunsPhases.gave) c.enter_control.result c.args.room _ mid c.enter_control.new.self c.args.runner.now c.in-Ok-Control.lane (event_of c.in-Ok-Control.what) (Control c.in-Ok-Control.lane c.in-Ok-Control.what) refl begun c.enter_control.ensures.ok)

pub returns-in-Ok-Control-clause-err : goal.returns-in-Ok-Control-clause-err
returns-in-Ok-Control-clause-err g c = λ line kept.
    let old = c.args.self.now in
    let mid : Run = record old { config = c.read_line.new.c; given = c.read_line.new.given } in
    let reads = rw c.in-Ok-Control.field-0-is at c.in-Ok-Control.ensures.reads in
    let begun = rw c.in-Ok-Control.field-0-is at c.in-Ok-Control.ensures.place in
    Halts-read-err g.R.RunsPhases.stands (given_by g.R.RunsPhases.numbers g.R.RunsPhases.gave) c.enter_control.result c.args.room _ _ old mid c.args.runner.now c.args.runner.now line (Ok (Entry (ControlEntry c.in-Ok-Control.lane (event_of c.in-Ok-Control.what))))
    (sym (c.line.ensures.reads old.config old.given old.begun line kept) ∙ reads.0) (kept_run old c.read_line.new.c c.read_line.new.given reads.1)
    (Halts-control g.R.RunsPhases.stands (given_by g.R.RunsPhases.numbers g.R.RunsPhases.gave) c.enter_control.result c.args.room _ mid c.args.runner.now c.in-Ok-Control.lane (event_of c.in-Ok-Control.what) c.enter_control.ensures.err)

pub returns-in-Ok-Data-clause-ok : goal.returns-in-Ok-Data-clause-ok
returns-in-Ok-Data-clause-ok g c = λ line kept.
    let old = c.args.self.now in
    let mid : Run = record old { config = c.read_line.new.c; given = c.read_line.new.given } in
    let reads = rw c.in-Ok-Data.field-0-is at c.in-Ok-Data.ensures.reads in
    let begun = rw c.in-Ok-Data.field-0-is at c.in-Ok-Data.ensures.place in
    Steps-read-ok g.R.RunsPhases.stands (given_by g.R.RunsPhases.numbers g.R.RunsPhases.gave) c.enter_data.result c.args.room _ _ old mid c.enter_data.new.self c.args.runner.now c.args.runner.now line (Ok (Entry (DataEntry c.in-Ok-Data.port c.in-Ok-Data.octets)))
    (sym (c.line.ensures.reads old.config old.given old.begun line kept) ∙ reads.0) (kept_run old c.read_line.new.c c.read_line.new.given reads.1)
    (Steps-data g.R.RunsPhases.stands (given_by g.R.RunsPhases.numbers g.R.RunsPhases.gave) c.enter_data.result c.args.room _ mid c.enter_data.new.self c.args.runner.now c.in-Ok-Data.port c.in-Ok-Data.octets begun c.enter_data.ensures.ok)

-- what holds of the run

pub returns-in-Ok-Setting-clause-sound : goal.returns-in-Ok-Setting-clause-sound
returns-in-Ok-Setting-clause-sound g c =
    let old = c.args.self.now in
    let reads = rw c.in-Ok-Setting.field-0-is at c.in-Ok-Setting.ensures.reads in
    let place = rw c.in-Ok-Setting.field-0-is at c.in-Ok-Setting.ensures.place in (
      sound_setting g.R.RunsPhases.fresh g.R.RunsPhases.stands (given_by g.R.RunsPhases.numbers g.R.RunsPhases.gave) old c.args.runner.now c.read_line.new.c c.read_line.new.given c.requires.sound place
          (IsRead-setting old.config c.read_line.new.c old.given c.read_line.new.given _ c.line.result.now c.requires.sound.read place reads),
      refl,
    )

pub returns-in-Ok-Blank-clause-sound : goal.returns-in-Ok-Blank-clause-sound
returns-in-Ok-Blank-clause-sound g c =
    let old = c.args.self.now in
    let reads = rw c.in-Ok-Blank.field-0-is at c.in-Ok-Blank.ensures.reads in (
      sound_line g.R.RunsPhases.fresh g.R.RunsPhases.stands (given_by g.R.RunsPhases.numbers g.R.RunsPhases.gave) old _ c.args.runner.now c.requires.sound (ap (λ (r : Run). record r { lines = old.lines + 1 }) (kept_run old c.read_line.new.c c.read_line.new.given reads.1)),
      refl,
    )

pub returns-in-Ok-Control-clause-sound : goal.returns-in-Ok-Control-clause-sound
returns-in-Ok-Control-clause-sound g c =
    let old = c.args.self.now in
    let mid : Run = record old { config = c.read_line.new.c; given = c.read_line.new.given } in
    let reads = rw c.in-Ok-Control.field-0-is at c.in-Ok-Control.ensures.reads in
    let begun = rw c.in-Ok-Control.field-0-is at c.in-Ok-Control.ensures.place in
    sound_control g.R.RunsPhases.fresh g.R.RunsPhases.stands (given_by g.R.RunsPhases.numbers g.R.RunsPhases.gave) c.enter_control.result mid c.enter_control.new.self c.args.runner.now c.args.room c.in-Ok-Control.lane c.in-Ok-Control.what
    (subst (λ run. IsSound g.R.RunsPhases.fresh g.R.RunsPhases.stands run c.args.runner.now) (sym (kept_run old c.read_line.new.c c.read_line.new.given reads.1)) c.requires.sound) begun c.requires.room
    (subst (λ config. IsEvent config (event_of c.in-Ok-Control.what)) (sym reads.1.same_config)
    (reads_event old.config old.given _ c.line.result.now c.in-Ok-Control.lane (event_of c.in-Ok-Control.what) begun reads.0))
    c.enter_control.ensures.ok

pub returns-in-Ok-Data-clause-sound : goal.returns-in-Ok-Data-clause-sound
returns-in-Ok-Data-clause-sound g c =
    let old = c.args.self.now in
    let mid : Run = record old { config = c.read_line.new.c; given = c.read_line.new.given } in
    let reads = rw c.in-Ok-Data.field-0-is at c.in-Ok-Data.ensures.reads in
    let begun = rw c.in-Ok-Data.field-0-is at c.in-Ok-Data.ensures.place in
    sound_data g.R.RunsPhases.fresh g.R.RunsPhases.stands (given_by g.R.RunsPhases.numbers g.R.RunsPhases.gave) c.enter_data.result mid c.enter_data.new.self c.args.runner.now c.in-Ok-Data.port c.in-Ok-Data.octets
    (subst (λ run. IsSound g.R.RunsPhases.fresh g.R.RunsPhases.stands run c.args.runner.now) (sym (kept_run old c.read_line.new.c c.read_line.new.given reads.1)) c.requires.sound) begun
    c.enter_data.ensures.ok

-- what the calls ask for

pub begin-requires-clause-valid : goal.begin-requires-clause-valid
begin-requires-clause-valid g c = λ κs within.
    let old = c.args.self.now in
    let reads = rw c.in-Ok-Begin.field-0-is at c.in-Ok-Begin.ensures.reads in
    let place = rw c.in-Ok-Begin.field-0-is at c.in-Ok-Begin.ensures.place in
    ap is_valid reads.1.same_config ∙ IsRead-begin old.config old.given _ c.line.result.now c.requires.sound.read place reads.0

pub begin-requires-clause-sound : goal.begin-requires-clause-sound
begin-requires-clause-sound g c = λ κs within.
    let old = c.args.self.now in
    let reads = rw c.in-Ok-Begin.field-0-is at c.in-Ok-Begin.ensures.reads in
    subst (λ run. IsSound g.R.RunsPhases.fresh g.R.RunsPhases.stands run c.args.runner.now) (sym (kept_run old c.read_line.new.c c.read_line.new.given reads.1)) c.requires.sound

pub sync-requires-clause-sound : goal.sync-requires-clause-sound
sync-requires-clause-sound g c = λ κs within.
    let old = c.args.self.now in
    let reads = rw c.in-Ok-Sync.field-0-is at c.in-Ok-Sync.ensures.reads in
    subst (λ run. IsSound g.R.RunsPhases.fresh g.R.RunsPhases.stands run c.args.runner.now) (sym (kept_run old c.read_line.new.c c.read_line.new.given reads.1)) c.requires.sound
