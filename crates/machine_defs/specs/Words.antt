-- What an answer of the server sets in a session, and what a settling leaves to be done.
use Rattle.std.specs.Prelude.{ℕ, Bool, true, false, Some, None, if◌then◌else◌}
use Rattle.wire_defs.specs.Eap.{canned}
use Rattle.machine_vars.specs.declared.control.Times.{Times}
use Rattle.machine_vars.specs.declared.vars.Vars.{Vars}
use Rattle.machine_vars.specs.declared.wants.Wants.{Wants}
use Rattle.machine_vars.specs.declared.verdict.Verdict.{Verdict}
use Rattle.machine_vars.specs.declared.verdict.Verdict.TheVariants as word
use Rattle.machine_defs.specs.Table.{is_zero}
use Rattle.machine_defs.specs.Live.{Event, Challenge, Notice, Accept, Reject}

-- whether a host is authenticated again, and after how long: as the server says, or where it gave no
-- time as the settings say
abbrev pub wanted : (again : ℕ) → Times → Bool
wanted again t = if is_zero again then t.reauth else true

abbrev pub period : (again : ℕ) → Times → ℕ
period again t = if is_zero again then t.reauth_period else again

-- the event of an answer to a host whose last request had this identifier, under these settings
abbrev pub event_with : Verdict → (id : ℕ) → Times → Event
event_with (word.Challenge eap wait) id t = Challenge eap.now wait
event_with word.Notice id t = Notice
event_with (word.Accept (Some eap) again) id t =
    Accept eap.now (wanted again t) (period again t)
event_with (word.Accept None again) id t =
    Accept (canned true id) (wanted again t) (period again t)
event_with (word.Reject (Some eap)) id t = Reject eap.now
event_with (word.Reject None) id t = Reject (canned false id)

abbrev pub event_of : Verdict → Vars → Event
event_of verdict v = event_with verdict v.current_id v.times

-- what is left to be done on the server's side once a value is settled
abbrev pub wants_of : Vars → Wants
wants_of v = record { ask = v.aaa_eap_resp; abort = v.aaa_abort; gone = v.gone }
