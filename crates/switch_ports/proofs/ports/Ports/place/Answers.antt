-- A number past 60 has no port.
use Rattle.std.proofs.Common.{◌≡◌, ◌≤◌, ℕ, subst, List, None, length, arith, false}
use Rattle.std.specs.Prelude.{nat_lt}
use Rattle.std.proofs.lemmas.Bool.Decides.{nat_tests}
use Rattle.switch_defs.specs.Switch.{Port}
use Rattle.switch_defs.specs.Sound.{confs}
use Rattle.switch_ports.specs.Index.{place_of}
use Rattle.switch_ports.proofs.Places.{no_place_past}
use Rattle.switch_ports.proofs.ports.Ports.place.Goals as goal

past : (n m l : ℕ) → m ≡ n → l ≡ 61 → false ≡ nat_lt m l → 61 ≤ n
past n m l e s h = grind (arith, nat_tests)

pub returns-in-None : goal.returns-in-None
returns-in-None c =
    subst (λ (ps : List Port). None ≡ place_of c.args.n (confs ps)) c.self.view_is
    (no_place_past c.args.n (confs c.self.inside.rows.items) (past c.args.n c.from.result (length c.self.inside.places) c.from.ensures c.self.invariant.size c.in-None.ensures.lookup.0) c.self.invariant.ports)
