use Rattle.std.proofs.Common.{◌∙◌, ℕ, Option, sym, subst}
use Rattle.std.specs.Prelude.{slice_get}
use Rattle.std.proofs.lemmas.Option.{slice_get-map}
use Rattle.session_table.specs.Slots.{Entry}
use Rattle.host_session.specs.declared.session.Session.{Session}
use Rattle.host_sessions.specs.Finds.{FindsAt}
use Rattle.host_sessions.proofs.Holding.{finds}
use Rattle.host_sessions.proofs.Pairs.{both_nth}
use Rattle.host_sessions.proofs.sessions.Sessions.place_at.Goals as goal

pub returns : goal.returns
returns c = λ s holds.
    let k = c.args.self.now in
    let n = c.args.n in
    let P : Option ℕ → Type 0 = λ o. FindsAt o (slice_get s.sessions n) k s in
    subst P (sym (c.place_at.ensures.place ∙ slice_get-map (λ (e : Entry Session). e.place) k.slots n))
    (finds k s holds (slice_get k.slots n) (slice_get s.sessions n)
    (both_nth s.config.times k.slots s.sessions n holds.sessions))
