-- The key of the entry at the place is that of the session's host.
use Rattle.std.proofs.Common.{◌∙◌, ap, Some}
use Rattle.std.specs.Option.{option_map}
use Rattle.session_table.specs.Slots.{key_of}
use Rattle.host_session.specs.declared.session.Session.{Session}
use Rattle.host_sessions.proofs.sessions.Sessions.key.Goals as goal

pub returns-clause-key : goal.returns-clause-key
returns-clause-key c = λ y s at.
    c.key.ensures ∙ ap (option_map (key_of {T = Session})) at.here ∙ (λ i. Some (at.is.port i, record { 0 = at.is.address i }))

pub returns-clause-none : goal.returns-clause-none
returns-clause-none c = λ empty.
    c.key.ensures ∙ ap (option_map (key_of {T = Session})) empty
