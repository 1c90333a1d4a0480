use Rattle.std.proofs.Common.{ℕ, Option, sym, subst}
use Rattle.std.specs.Prelude.{find}
use Rattle.session_table.specs.Slots.{is_for}
use Rattle.switch_defs.specs.Switch.{is_at, session_at}
use Rattle.host_sessions.specs.Finds.{FindsAt}
use Rattle.host_sessions.proofs.Holding.{finds}
use Rattle.host_sessions.proofs.Pairs.{both_found, for_agree}
use Rattle.host_sessions.proofs.sessions.Sessions.find.Goals as goal

pub returns : goal.returns
returns c = λ s holds.
    let t = s.config.times in
    let n = c.args.port in
    let a = c.args.mac.0 in
    let k = c.args.self.now in
    let P : Option ℕ → Type 0 = λ o. FindsAt o (session_at n a s) k s in
    subst P (sym c.find.ensures.place)
    (finds k s holds (find (is_for n a) k.slots) (session_at n a s)
    (both_found t (is_for n a) (λ y. is_at n a y.host) (for_agree t n a) k.slots s.sessions holds.sessions))
