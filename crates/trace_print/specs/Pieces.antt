-- The parts of a line, as the text that they are printed as.
use Rattle.std.specs.Prelude.{ℕ, List, [], ◌∷◌, ◌++◌, codes}
use Rattle.std.specs.List.{concat}
use Rattle.std.specs.Fmt.{decimal}
use Rattle.hex.specs.Hex.{encode_lower}
use Rattle.machine_vars.specs.declared.control.Times.{Times}
use Rattle.switch_event.specs.Config.{Config}
use Rattle.trace_defs.specs.Text.{dotted, switch_text}
use Rattle.trace_print.specs.declared.piece.Piece.{Piece}
use Rattle.trace_print.specs.declared.piece.Piece.TheVariants.{Text, Number, Hex, Address}

abbrev pub piece_text : Piece → List ℕ
piece_text (Text text) = text.now
piece_text (Number n) = decimal n
piece_text (Hex octets) = encode_lower octets.now
piece_text (Address ip) = dotted ip

-- the times of the machines
abbrev pub times_text : Times → List ℕ
times_text times =
    concat (
    codes "set quiet-period " ∷ decimal times.quiet ∷ (10 ∷ codes "set server-timeout ")
    ∷ decimal times.server
    ∷ (10 ∷ codes "set reauth-max ") ∷ decimal times.reauth_max ∷ (10 ∷ codes "set reauth-period ")
    ∷ decimal times.reauth_period ∷ (10 ∷ codes "set reauth ") ∷ switch_text times.reauth
    ∷ (10 ∷ []) ∷ []
    )

-- the other settings, and `begin`
abbrev pub last_text : Config → List ℕ
last_text c =
    concat (
    codes "set guest-wait " ∷ decimal c.guest_wait ∷ (10 ∷ codes "set dyn-window ")
    ∷ decimal c.window
    ∷ (10 ∷ codes "set require-ma ") ∷ switch_text c.require_ma ∷ (10 ∷ codes "clock ")
    ∷ decimal c.clock
    ∷ (10 ∷ codes "seed ") ∷ encode_lower c.seed ∷ (10 ∷ codes "begin" ++ 10 ∷ []) ∷ []
    )
