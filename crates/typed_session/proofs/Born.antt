-- The opening value is settled as a session that is asked for the first time.
use Rattle.std.proofs.Common.{◌≡◌, ℕ, false, List, refl, sym, ◌∙◌, subst, ap}
use Rattle.switch_event.specs.Sent.{Sent}
use Rattle.out_tray.specs.Tray.{Things}
use Rattle.machine_vars.specs.declared.control.Times.{Times}
use Rattle.machine_vars.specs.declared.control.Control.TheVariants.{Auto}
use Rattle.machine_defs.specs.Live.{fresh, InRange, born, still}
use Rattle.switch_event.specs.Frames.{frames}
use Rattle.settle_defs.specs.Settle.{settled}
use Rattle.settle_defs.proofs.SettleLaws.{stays_live, keeps_its_peer, begins_so}
use Rattle.machine_defs.specs.PaeTable as PaeTable
use Rattle.machine_defs.specs.BackendTable as Back
use Rattle.machine_defs.specs.Settling.{Rest}
use Rattle.machine_defs.specs.Outcome.{begun}
use Rattle.typed_session.specs.declared.host.Host.{Host}
use Rattle.typed_session.specs.Stands.{common_of, Stands}
use Rattle.typed_session.specs.Moves.{new_round}
use Rattle.typed_session.specs.Follows.{EndsIn, frames_from, with_sent}
use Rattle.typed_session.proofs.Rounds.{Lands, begins}
use Rattle.typed_session.proofs.Lands.{same_peer}

begun_lands : (port : ℕ) (own peer : List ℕ) (t : Times) → let x = fresh port own peer Auto t in Lands (new_round (common_of x) false false false 0) (begun x)
begun_lands port own peer t = begins (Back.idle (PaeTable.restart (PaeTable.disconnected (fresh port own peer Auto t)))) refl refl refl refl

pub opens : (port : ℕ) (own peer : List ℕ) (t : Times) (k : Host) (before after : Things) → InRange t →
    let x = fresh port own peer Auto t in let m = new_round (common_of x) false false false 0 in
    k ≡ m.host → after ≡ with_sent (frames_from (common_of x) m.packets) before → EndsIn (settled x) k before after
opens port own peer t k before after i a b =
    let x = fresh port own peer Auto t in
    let ready = still (born port own peer Auto t i) in
    let r = settled x in
    let P : Rest → Type 0 = Lands (new_round (common_of x) false false false 0) in
    let end = subst P (sym (begins_so port own peer Auto t i)) (begun_lands port own peer t) in
    let R : Host → Type 0 = λ y. Stands y r.vars in
    let Q : List Sent → Type 0 = λ items. after ≡ with_sent items before in
    (subst R (sym a) (stays_live x ready, end.0), subst Q (sym (same_peer (keeps_its_peer x ready) r.packets ∙ ap (frames x) end.1)) b)
