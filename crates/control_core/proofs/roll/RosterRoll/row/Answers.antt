use Rattle.std.proofs.Common.{List, ◌∙◌, sym, ap}
use Rattle.std.specs.Prelude.{slice_get}
use Rattle.std.proofs.Math.Logic.{∥∥₁_elim}
use Rattle.std.proofs.Props.{props}
use Rattle.dynauth_defs.specs.Session.{Row}
use Rattle.control_core.specs.Rows.{AreBetween}
use Rattle.control_core.proofs.Rolling.{rows_are}
use Rattle.control_core.proofs.roll.RosterRoll.row.Goals as goal

pub returns : goal.returns
returns c =
    let k = c.args.self.now.sessions.now in
    ∥∥₁_elim c.args.self.now.between (hlevel props) (λ (b : AreBetween k).
    c.row.ensures b.state b.holds b.between
    ∙ ap (λ (rows : List Row). slice_get rows c.args.n) (sym (rows_are k b.state b.holds b.between)))
