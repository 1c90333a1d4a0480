-- What a round leads to, and the host afterwards.
use Rattle.std.proofs.Common.{◌≡◌, ◌+◌, Bool, true, false, [], ◌∷◌, Some, refl, subst}
use Rattle.std.specs.Prelude.{not, ◌&&◌, ◌||◌, nat_lt, if◌then◌else◌}
use Rattle.machine_vars.specs.declared.vars.Vars.{Vars}
use Rattle.machine_vars.specs.declared.states.Pae.TheVariants as Pae
use Rattle.machine_vars.specs.declared.states.Backend.TheVariants as Backend
use Rattle.machine_defs.specs.Table.{is_zero}
use Rattle.machine_defs.specs.BackendTable as Back
use Rattle.machine_defs.specs.EapTable as Eap
use Rattle.machine_defs.specs.Settling.{Rest}
use Rattle.machine_defs.specs.Outcome as outcome
use Rattle.typed_session.specs.declared.host.Asked.{Asked}
use Rattle.typed_session.specs.declared.host.Host.{Host}
use Rattle.typed_session.specs.declared.host.Host.TheVariants as host
use Rattle.typed_session.specs.Stands.{host_of, common_of, asked_of}
use Rattle.typed_session.specs.Moves.{Move, silent, new_round, end_of, identity_asked, numbered, answered, to_server, dropped}
use Rattle.typed_session.specs.Seconds.{asked_still}

-- the value that settling led to has this host, and these packets were sent
abbrev pub Lands : Move → Rest → Type 0
Lands m r = (host_of r.vars ≡ Some m.host) × (r.packets ≡ m.packets)

anew_lands : (v : Vars) → v.gone ≡ false → Lands (new_round (common_of v) v.auth_port_status v.eapol_start v.eapol_logoff v.re_auth_count) (outcome.anew v)
anew_lands v g = by_tests (v.eapol_logoff || outcome.is_tired v) (not v.auth_port_status && not v.eapol_start && outcome.is_tired v)
  where
    by_tests : (b c : Bool) →
        Lands (if b then (if c then end_of (common_of v) else identity_asked (numbered (common_of v)) false 1) else identity_asked (common_of v) v.auth_port_status (v.re_auth_count + 1))
        (if b then (if c then outcome.silent (outcome.ended v) else outcome.asked (outcome.disconnected v)) else outcome.asked v)
    by_tests true true = (refl, refl)
    by_tests true false = (rw g refl, refl)
    by_tests false c = (rw g refl, refl)

-- a new round, by the flags that it begins with
pub begins : (v : Vars) {on start logoff : Bool} → v.gone ≡ false → v.auth_port_status ≡ on → v.eapol_start ≡ start → v.eapol_logoff ≡ logoff →
    Lands (new_round (common_of v) on start logoff v.re_auth_count) (outcome.anew v)
begins v {on} {start} {logoff} g s b l =
    let c = common_of v in
    let r = outcome.anew v in
    let n = v.re_auth_count in
    let P : Bool → Type 0 = λ x. Lands (new_round c x v.eapol_start v.eapol_logoff n) r in
    let Q : Bool → Type 0 = λ x. Lands (new_round c on x v.eapol_logoff n) r in
    let R : Bool → Type 0 = λ x. Lands (new_round c on start x n) r in
    subst R l (subst Q b (subst P s (anew_lands v g)))

-- a packet of the host is looked at
pub looked : (w : Vars) → w.gone ≡ false → w.pae ≡ Pae.Authenticating → w.backend ≡ Backend.Response → w.eapol_eap ≡ false → w.a_while ≡ w.times.server → w.rx_eap ≡ w.eap_resp_data →
    Lands (silent (answered w.eap_resp_data.items (asked_of w))) (outcome.looked_at w)
looked w g p b h t l = by_test (Eap.response_fits w.eap_resp_data.items w.current_id w.local)
  where
    by_test : (fits : Bool) →
        (let x = Eap.received2 w in
        Lands (silent (if fits then host.Server (to_server w.eap_resp_data.items (asked_of w)) else host.Ignore (record (asked_of w) { wait = Eap.idle_time w.method_timeout })))
        (if fits then outcome.silent (Eap.aaa_idle (Eap.aaa_request x)) else outcome.silent (Eap.idle2 (Back.ignore (Eap.discard2 x)))))
    by_test true = (rw (g, p, b, h, t, l) refl, refl)
    by_test false = (rw (g, p) refl, refl)

-- the host is waited for, in a state of these two, and asked once more where it was waited for long enough
pub resent : (y : Vars) (state : Asked → Host) → y.gone ≡ false → y.pae ≡ Pae.Authenticating → y.eapol_start ≡ false → y.eapol_logoff ≡ false →
    host_of y ≡ Some (state (asked_of y)) → Lands (asked_still y.retrans_while state (asked_of y)) (outcome.resent y)
resent y state g p b l h = by_tests (is_zero y.retrans_while) (nat_lt 3 (y.retrans_count + 1))
  where
    sent_again : Vars
    sent_again = Eap.idle2 (Back.request (Eap.retransmit2 y))

    again : Move
    again = record { host = host.Request (record (asked_of y) { sent = y.retrans_count + 1; wait = Eap.idle_time y.method_timeout }); packets = y.last_req_data.items ∷ [] }

    by_tests : (due spent : Bool) →
        Lands (if due then (if spent then new_round (dropped (common_of y)) y.auth_port_status false false y.re_auth_count else again) else silent (state (asked_of y)))
        (if due then (if spent then outcome.anew (outcome.spent y) else record { vars = sent_again; packets = y.last_req_data.items ∷ [] }) else outcome.silent y)
    by_tests true true = begins (outcome.spent y) g refl b l
    by_tests true false = (rw (g, p) refl, refl)
    by_tests false spent = (h, refl)
