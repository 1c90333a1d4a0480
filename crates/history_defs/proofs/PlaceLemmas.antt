-- What a place of the output says of the records before it.
use Rattle.std.proofs.Common.{◌≡◌, ℕ, suc, ◌+◌, List, [], ◌∷◌, ◌++◌, length, refl, ap, ◌∙◌, arith}
use Rattle.switch_event.specs.Config.{Config}
use Rattle.switch_defs.proofs.Settings.{config_turn}
use Rattle.trace_defs.specs.Line.{Record}
use Rattle.trace_defs.specs.Line.Record.{Control, Data}
use Rattle.history_defs.specs.Output.{Place, next_place, place_after, controls_in}

-- the settings stay
pub place_config : (at : Place) (rs : List Record) → (place_after at rs).state.config ≡ at.state.config
place_config at [] = refl
place_config at (Control lane event ∷ rest) = place_config (next_place at (Control lane event)) rest ∙ config_turn at.state event
place_config at (Data port octets ∷ rest) = place_config (next_place at (Data port octets)) rest

-- each record has a number
pub place_number : (at : Place) (rs : List Record) → (place_after at rs).number ≡ at.number + length rs
place_number at [] = omega arith
place_number at (Control lane event ∷ rest) = (let h = place_number (next_place at (Control lane event)) rest in omega arith)
place_number at (Data port octets ∷ rest) = (let h = place_number (next_place at (Data port octets)) rest in omega arith)

-- and each control record a serial
pub place_serial : (at : Place) (rs : List Record) → (place_after at rs).serial ≡ at.serial + controls_in rs
place_serial at [] = omega arith
place_serial at (Control lane event ∷ rest) = (let h = place_serial (next_place at (Control lane event)) rest in omega arith)
place_serial at (Data port octets ∷ rest) = place_serial (next_place at (Data port octets)) rest

pub controls_in-append : (rs more : List Record) → controls_in (rs ++ more) ≡ controls_in rs + controls_in more
controls_in-append [] more = omega arith
controls_in-append (Control lane event ∷ rest) more = (let h = controls_in-append rest more in omega arith)
controls_in-append (Data port octets ∷ rest) more = controls_in-append rest more
