-- The settings are valid and have each port of a host, and frames of EAPOL are told from those of data.
use Rattle.std.proofs.Common.{◌≡◌, ℕ, zero, suc, ◌+◌, ◌<◌, ◌≤◌, true, List, length, map, refl, arith, inl, inr}
use Rattle.std.specs.Prelude.{◌==◌}
use Rattle.std.specs.List.{list_any, range_with_len}
use Rattle.std.proofs.lemmas.Bool.{le-leb}
use Rattle.std.proofs.lemmas.Bool.Decides.{eqb_tells}
use Rattle.std.proofs.lemmas.Fmt.{length-decimal-le}
use Rattle.std.specs.Fmt.{decimal}
use Rattle.wire_defs.specs.Ethernet.{is_control}
use Rattle.wire_defs.specs.Eapol.{eapol_text}
use Rattle.switch_event.specs.declared.config.PortConf.{PortConf}
use Rattle.switch_event.specs.Config.{has_port, is_valid}
use Rattle.day_defs.specs.Office.{settings, port_conf, eapol_frame, start_frame, response_frame, identity_response, identity_of_host}

pub settings-valid : is_valid settings ≡ true
unfolding settings
settings-valid = refl

among_range : (p first n : ℕ) → first ≤ p → p < first + n → list_any (λ (c : PortConf). c.port == p) (map port_conf (range_with_len first n)) ≡ true
among_range p first zero least most = absurd (omega arith)
among_range p first (suc n) least most =
    elim (eqb_tells first p) [
      | inl same ↦ rw same.0 refl
      | inr other ↦ rw other.0 (among_range p (first + 1) n (omega arith) (omega arith))
    ]

pub port-there : (p : ℕ) → 1 ≤ p → p ≤ 60 → has_port p settings ≡ true
unfolding settings
port-there p least most = among_range p 1 60 least (omega arith)

pub eapol-control : (h : ℕ) (packet : List ℕ) → length packet ≤ 1504 → is_control (eapol_frame h packet) ≡ true
eapol-control h packet short =
    let least : 14 ≤ length (eapol_frame h packet) = omega arith in
    let most : length (eapol_frame h packet) ≤ 1518 = omega arith in
    rw (le-leb 14 (length (eapol_frame h packet)) least, le-leb (length (eapol_frame h packet)) 1518 most) refl

pub start-control : (h : ℕ) → is_control (start_frame h) ≡ true
start-control h = refl

pub response-control : (h id : ℕ) → h < 256 → is_control (response_frame h id) ≡ true
response-control h id small =
    let digits : length (decimal h) ≤ 3 = length-decimal-le 3 h (omega arith) (omega arith) (omega arith) in
    let short : length (eapol_text (identity_response id (identity_of_host h))) ≤ 1504 = omega arith in
    eapol-control h (eapol_text (identity_response id (identity_of_host h))) short
