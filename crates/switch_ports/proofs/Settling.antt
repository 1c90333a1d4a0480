-- What the machines of a forced port leave and say, by settling as a function.
use Rattle.std.proofs.Common.{◌≡◌, ◌<◌, ◌++◌, ℕ, List, false, length, map, sym, ap, ◌∙◌, arith}
use Rattle.machine_vars.specs.declared.vars.Vars.{Vars}
use Rattle.machine_vars.specs.declared.states.Row.{Row}
use Rattle.machine_defs.specs.BackendTable.{is_auto}
use Rattle.machine_defs.specs.Settling.{Settles}
use Rattle.machine_defs.specs.Live.{Ready}
use Rattle.settle_defs.specs.Settle.{Rest, settled}
use Rattle.settle_defs.proofs.SettleLaws.{is_settled, keeps_its_peer}
use Rattle.switch_event.specs.Sent.{ToHost}
use Rattle.switch_event.specs.Frames.{eap_frame, frames}
use Rattle.out_tray.specs.Tray.{Things}
use Rattle.switch_ports.specs.Ports.{with_said}

-- a chain of rows, as the machines' contract gives it
abbrev pub IsChain : Vars → Vars → (rows : ℕ) → (from to : Things) → Type 0
IsChain v w n from to =
    (rows : List Row) × (sent : List (List ℕ)) × Settles v rows sent w × (length rows ≡ n) × (to ≡ record from { items = from.items ++ frames v sent })

chain_rest : (v w : Vars) (n : ℕ) (from to : Things) → n < 48 → (k : IsChain v w n from to) → settled v ≡ record { vars = w; packets = k.1 }
chain_rest v w n from to less k = is_settled v w k.0 k.1 k.2 (omega (arith, less, k.3))

pub chain_vars : (v w : Vars) (n : ℕ) (from to : Things) → n < 48 → IsChain v w n from to → w ≡ (settled v).vars
chain_vars v w n from to less k = sym (ap (λ (r : Rest). r.vars) (chain_rest v w n from to less k))

pub chain_control : (v w : Vars) (n : ℕ) (from to : Things) → Ready v → is_auto v.port_control ≡ false → n < 48 → IsChain v w n from to → is_auto w.port_control ≡ false
chain_control v w n from to r f less k =
    ap (λ (x : Vars). is_auto x.port_control) (chain_vars v w n from to less k) ∙ ap is_auto (keeps_its_peer v r).control ∙ f

pub chain_said : (v w : Vars) (n : ℕ) (from to : Things) → Ready v → n < 48 → IsChain v w n from to → to ≡ with_said v from
chain_said v w n from to r less k =
    let p = keeps_its_peer v r in
    let e : k.1 ≡ (settled v).packets = sym (ap (λ (x : Rest). x.packets) (chain_rest v w n from to less k)) in
    k.4 ∙ (λ i. record from { items = from.items ++ map (λ eap. ToHost (sym p.port i) (eap_frame (sym p.peer i) (sym p.own i) eap)) (e i) })
