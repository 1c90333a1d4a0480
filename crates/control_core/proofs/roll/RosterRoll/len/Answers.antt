use Rattle.std.proofs.Common.{length, ◌∙◌, sym, ap, subst}
use Rattle.std.proofs.Math.Logic.{∥∥₁_elim}
use Rattle.std.proofs.Props.{props}
use Rattle.std.proofs.lemmas.List.{length-map}
use Rattle.dynauth_server.specs.Roll.{IsRoll}
use Rattle.switch_defs.specs.Dynamic.{row_of}
use Rattle.control_core.specs.Rows.{AreBetween}
use Rattle.control_core.proofs.Rolling.{are_roll, rows_are}
use Rattle.control_core.proofs.roll.RosterRoll.len.Goals as goal

pub returns-clause-count : goal.returns-clause-count
returns-clause-count c =
    let k = c.args.self.now.sessions.now in
    ∥∥₁_elim c.args.self.now.between (hlevel props) (λ (b : AreBetween k).
    c.len.ensures.count b.state b.holds
    ∙ sym (ap length (rows_are k b.state b.holds b.between) ∙ length-map b.state.sessions row_of))

pub returns-clause-roll : goal.returns-clause-roll
returns-clause-roll c =
    let k = c.args.self.now.sessions.now in
    ∥∥₁_elim c.args.self.now.between (hlevel props) (λ (b : AreBetween k).
    subst IsRoll (sym (rows_are k b.state b.holds b.between)) (are_roll b.state b.between))
