-- Where the records before one control record too many end.
use Rattle.std.proofs.Common.{◌≡◌, ℕ, ◌-◌, nat_lt, lt-ltb, if◌then◌else◌, List, [], ◌∷◌, ◌++◌, sym, ap, ◌∙◌, arith}
use Rattle.switch_event.specs.Event.{Happening}
use Rattle.trace_defs.specs.Line.{Record}
use Rattle.trace_defs.specs.Line.Record.{Control, Data}
use Rattle.history_defs.specs.Output.{controls_in}
use Rattle.serve_defs.specs.Log.{cut}

-- so many control records, and one more
pub cut_here : (room : ℕ) (rs more : List Record) (lane : ℕ) (happening : Happening) → controls_in rs ≡ room → cut room (rs ++ Control lane happening ∷ more) ≡ rs
cut_here room [] more lane happening e =
    ap (λ n. if nat_lt 0 n then Control lane happening ∷ cut (n - 1) more else []) (sym e)
cut_here room (Data port octets ∷ rs) more lane happening e = ap (λ l. Data port octets ∷ l) (cut_here room rs more lane happening e)
cut_here room (Control l h ∷ rs) more lane happening e =
    ap (λ b. if b then Control l h ∷ cut (room - 1) (rs ++ Control lane happening ∷ more) else []) (lt-ltb 0 room (omega (arith, e)))
    ∙ ap (λ xs. Control l h ∷ xs) (cut_here (room - 1) rs more lane happening (omega (arith, e)))
