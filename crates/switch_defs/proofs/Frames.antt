-- What a frame leads to is of what there is.
use Rattle.std.proofs.Common.{◌≡◌, ℕ, refl, sym, subst, List, Option, None, Some, Bool, true, false, not, drop}
use Rattle.std.specs.Prelude.{if◌then◌else◌, ◌==◌, Result, Ok, Err}
use Rattle.std.specs.Cmp.{unsigned_Decides}
use Rattle.wire_defs.specs.declared.Kind.{Kind}
use Rattle.wire_defs.specs.declared.EapDrop.{EapDrop}
use Rattle.wire_defs.specs.declared.EapolDrop.{EapolDrop}
use Rattle.wire_defs.specs.Ethernet.{source, is_group}
use Rattle.wire_defs.specs.Eapol.{Eapol, eapol_of}
use Rattle.wire_defs.specs.Eap.{Eap, eap_of}
use Rattle.machine_defs.specs.BackendTable.{is_auto}
use Rattle.machine_defs.specs.Live as live
use Rattle.switch_event.specs.declared.drop.FrameDrop.{FrameDrop}
use Rattle.switch_event.specs.declared.drop.FrameDrop.TheVariants.{Elsewhere, GroupSource, Down, NotResponse, Forced, NoSession, PortFull}
use Rattle.switch_defs.specs.Switch.{Port, Session, State, is_port, port_of, session_at, is_at}
use Rattle.switch_defs.specs.Turn.{FrameCase, Dropped, Forces, Opens, is_start, is_logoff, is_full, is_elsewhere, known_case, control_case, eap_case, kind_case, eapol_case, frame_case}
use Rattle.switch_defs.specs.Sound.{FromHost, start, logoff, packet, IsUp, Fits}
use Rattle.switch_defs.proofs.Lists.{in_found}

drop_fits : (s : State) (b : Bool) (why : FrameDrop) (k : FrameCase) → (b ≡ false → Fits s k) → Fits s (if b then Dropped why else k)
drop_fits s true why k f = tt
drop_fits s false why k f = f refl

if_fits : (s : State) (b : Bool) (j k : FrameCase) → (b ≡ true → Fits s j) → (b ≡ false → Fits s k) → Fits s (if b then j else k)
if_fits s true j k f g = f refl
if_fits s false j k f g = g refl

fits_known : (s : State) (q : Port) (from : List ℕ) (e : live.Event) → FromHost e → IsUp s q → is_auto q.control ≡ true → (o : Option Session) → session_at q.conf.port from s ≡ o → Fits s (known_case s q from e o)
fits_known s q from e p u a (Some y) f = ((in_found (λ y. is_at q.conf.port from y.host) s.sessions y f).0, p)
fits_known s q from e p u a None f =
    drop_fits s (is_logoff e) NoSession _ (λ n. drop_fits s (is_full q.conf.port s) PortFull (Opens q from) (λ full. (u, a, f, full)))

fits_control : (s : State) (q : Port) (from : List ℕ) (e : live.Event) → FromHost e → IsUp s q → Fits s (control_case s q from e)
fits_control s q from e p u =
    if_fits s (is_auto q.control) (known_case s q from e (session_at q.conf.port from s)) _ (λ a. fits_known s q from e p u a (session_at q.conf.port from s) refl)
    (λ a. if_fits s (is_start e) (Forces q from) (Dropped Forced) (λ n. (u, a)) (λ n. tt))

fits_eap : (s : State) (q : Port) (from : List ℕ) (g : Result Eap EapDrop) → IsUp s q → Fits s (eap_case s q from g)
fits_eap s q from (Err drop) u = tt
fits_eap s q from (Ok eap) u =
    if_fits s (eap.code == 2) (control_case s q from (live.Packet eap.whole)) (Dropped NotResponse) (λ n. fits_control s q from (live.Packet eap.whole) (packet eap.whole) u) (λ n. tt)

fits_kind : (s : State) (q : Port) (from body : List ℕ) (k : Kind) → IsUp s q → Fits s (kind_case s q from body k)
fits_kind s q from body Kind.EapPacket u = fits_eap s q from (eap_of body) u
fits_kind s q from body Kind.Start u = fits_control s q from live.Start start u
fits_kind s q from body Kind.Logoff u = fits_control s q from live.Logoff logoff u

fits_eapol : (s : State) (q : Port) (from : List ℕ) (g : Result Eapol EapolDrop) → IsUp s q → Fits s (eapol_case s q from g)
fits_eapol s q from (Err drop) u = tt
fits_eapol s q from (Ok eapol) u = fits_kind s q from eapol.body eapol.kind u

not_not : (b : Bool) → not b ≡ false → b ≡ true
not_not true e = refl
not_not false e = cc

-- the port that was found is found under its own number
pub found_port : (n : ℕ) (s : State) (q : Port) → port_of n s ≡ Some q → port_of q.conf.port s ≡ Some q
found_port n s q e =
    let same : q.conf.port ≡ n = (unsigned_Decides q.conf.port n).0 (in_found (is_port n) s.ports q e).1 in
    subst (λ (k : ℕ). port_of k s ≡ Some q) (sym same) e

fits_port : (s : State) (n : ℕ) (octets : List ℕ) (o : Option Port) → port_of n s ≡ o → Fits s (frame_case s octets o)
fits_port s n octets None f = tt
fits_port s n octets (Some q) f =
    drop_fits s (is_elsewhere s q.conf.port octets) Elsewhere _ (λ a.
    drop_fits s (is_group (source octets)) GroupSource _ (λ b.
    drop_fits s (not q.link) Down (eapol_case s q (source octets) (eapol_of (drop 14 octets))) (λ c.
    fits_eapol s q (source octets) (eapol_of (drop 14 octets)) (record { here = found_port n s q f; link = not_not q.link c }))))

pub fits_frame : (s : State) (n : ℕ) (octets : List ℕ) → Fits s (frame_case s octets (port_of n s))
fits_frame s n octets = fits_port s n octets (port_of n s) refl
