-- Each event of a settled value leads to its outcome, which is settled again.
use Rattle.std.proofs.Common.{◌≡◌, Bool, true, List, [], ◌∷◌, Some, None, refl, sym, subst, ap, ◌∙◌}
use Rattle.std.specs.Prelude.{◌&&◌, not, if◌then◌else◌}
use Rattle.machine_vars.specs.declared.vars.Vars.{Vars}
use Rattle.machine_defs.specs.Table.{Line, first_enabled}
use Rattle.machine_defs.specs.Settling.{all_rows, next}
use Rattle.machine_defs.specs.Live.{set, Event, IsProper, Start, Logoff, Greeting, Packet, Challenge, Notice, Accept, Reject, Second, Change}
use Rattle.machine_defs.specs.Outcome.{Combination, Ended, combination, follows, silent}
use Rattle.machine_defs.proofs.Forms.{Kept, Formed, forced_open, forced_shut, gone, as_request, as_ignore, as_server, as_gave_up, as_authenticated, as_held, as_open, as_shut, as_end}
use Rattle.machine_defs.proofs.Filling.{same, to_pae, to_backend, to_reauth, to_eap, to_auth_port_status}
use Rattle.machine_defs.proofs.Goes.{goes_rest, Lands, Leads, Turns}
use Rattle.machine_defs.proofs.Asking.{request_turns, request_rests, ignore_turns, ignore_rests}
use Rattle.machine_defs.proofs.Serving.{server_turns, server_rests}
use Rattle.machine_defs.proofs.Over.{gave_up_turns, gave_up_rests, authenticated_turns, authenticated_rests, held_turns, held_rests}

-- ---- forced ports

open_turns : (e : Event) (v : Vars) → Kept v → Turns e (forced_open v)
open_turns Start v k = (refl, refl, as_open k refl)
open_turns Logoff v k = (refl, refl, as_open k refl)
open_turns (Greeting source) v k = (refl, refl, as_open k refl)
open_turns (Packet eap) v k = (refl, refl, as_open k refl)
open_turns (Challenge eap wait) v k = (refl, refl, as_open k refl)
open_turns Notice v k = (refl, refl, as_open k refl)
open_turns (Accept eap again period) v k = (refl, refl, as_open k refl)
open_turns (Reject eap) v k = (refl, refl, as_open k refl)
open_turns (Second late) v k = (refl, refl, as_open k refl)
open_turns (Change again period) v k = (refl, refl, as_open k refl)

shut_turns : (e : Event) (v : Vars) → Kept v → Turns e (forced_shut v)
shut_turns Start v k = (refl, refl, as_shut k refl)
shut_turns Logoff v k = (refl, refl, as_shut k refl)
shut_turns (Greeting source) v k = (refl, refl, as_shut k refl)
shut_turns (Packet eap) v k = (refl, refl, as_shut k refl)
shut_turns (Challenge eap wait) v k = (refl, refl, as_shut k refl)
shut_turns Notice v k = (refl, refl, as_shut k refl)
shut_turns (Accept eap again period) v k = (refl, refl, as_shut k refl)
shut_turns (Reject eap) v k = (refl, refl, as_shut k refl)
shut_turns (Second late) v k = (refl, refl, as_shut k refl)
shut_turns (Change again period) v k = (refl, refl, as_shut k refl)

-- ---- a session that is gone

none_first : (ls : List Line) (v : Vars) → v.gone ≡ true → first_enabled ls v ≡ None
none_first [] v g = refl
none_first (l ∷ ls) v g =
    let P : Bool → Type 0 = λ b. (if not b && l.condition v then Some l else first_enabled ls v) ≡ None in
    subst P (sym g) (none_first ls v g)

pub gone_rests : (v : Vars) → v.gone ≡ true → next v ≡ None
gone_rests v g = none_first all_rows v g

ended_is : (v : Vars) → v.gone ≡ true → combination v ≡ Ended
ended_is v g = rw g refl

as_ended : (e : Event) (v : Vars) → v.gone ≡ true → Leads 48 (set e v) (follows e Ended (set e v)) → Turns e v
as_ended e v g l = let P : Combination → Type 0 = λ c. Leads 48 (set e v) (follows e c (set e v)) in subst P (sym (ended_is v g)) l

silent_end : (x : Vars) → Kept x → x.gone ≡ true → x ≡ gone x → Leads 48 x (silent x)
silent_end x k g f = goes_rest 47 x (Lands (silent x)) (gone_rests x g) (refl, refl, as_end k g f)

-- the timers fall, and the states and the status stay
gone_again : (x : Vars) {v : Vars} → v ≡ gone v → x.pae ≡ v.pae → x.backend ≡ v.backend → x.reauth ≡ v.reauth → x.eap ≡ v.eap → x.auth_port_status ≡ v.auth_port_status → x ≡ gone x
gone_again x f p b r e s =
    to_pae x (p ∙ ap (λ (y : Vars). y.pae) f)
    (to_backend x (b ∙ ap (λ (y : Vars). y.backend) f)
    (to_reauth x (r ∙ ap (λ (y : Vars). y.reauth) f)
    (to_eap x (e ∙ ap (λ (y : Vars). y.eap) f)
    (to_auth_port_status x (s ∙ ap (λ (y : Vars). y.auth_port_status) f)
    (same x)))))

end_turns : (e : Event) (v : Vars) → Kept v → v.gone ≡ true → v ≡ gone v → Turns e v
end_turns Start v k g f = as_ended Start v g (silent_end (set Start v) k g (ap (set Start) f))
end_turns Logoff v k g f = as_ended Logoff v g (silent_end (set Logoff v) k g (ap (set Logoff) f))
end_turns (Greeting source) v k g f = as_ended (Greeting source) v g (silent_end (set (Greeting source) v) k g (ap (set (Greeting source)) f))
end_turns (Packet eap) v k g f = as_ended (Packet eap) v g (silent_end (set (Packet eap) v) k g (ap (set (Packet eap)) f))
end_turns (Challenge eap wait) v k g f = as_ended (Challenge eap wait) v g (silent_end (set (Challenge eap wait) v) k g (ap (set (Challenge eap wait)) f))
end_turns Notice v k g f = as_ended Notice v g (silent_end (set Notice v) k g (ap (set Notice) f))
end_turns (Accept eap again period) v k g f = as_ended (Accept eap again period) v g (silent_end (set (Accept eap again period) v) k g (ap (set (Accept eap again period)) f))
end_turns (Reject eap) v k g f = as_ended (Reject eap) v g (silent_end (set (Reject eap) v) k g (ap (set (Reject eap)) f))
end_turns (Second late) v k g f = as_ended (Second late) v g (silent_end (set (Second late) v) k g (gone_again (set (Second late) v) f refl refl refl refl refl))
end_turns (Change again period) v k g f = as_ended (Change again period) v g (silent_end (set (Change again period) v) k g (ap (set (Change again period)) f))

-- ---- all of them

along : (e : Event) (v x : Vars) → v ≡ x → Turns e x → Turns e v
along e v x h t = let P : Vars → Type 0 = λ y. Turns e y in subst P (sym h) t

proper : (e : Event) (v x : Vars) → v ≡ x → IsProper e v → IsProper e x
proper e v x h i = let P : Vars → Type 0 = λ y. IsProper e y in subst P h i

pub formed_turns : (e : Event) (v : Vars) → IsProper e v → Formed v → Turns e v
formed_turns e v i (as_request n c r k f) = along e v _ f (request_turns e v n c r k (proper e v _ f i))
formed_turns e v i (as_ignore n c r k f) = along e v _ f (ignore_turns e v n c r k (proper e v _ f i))
formed_turns e v i (as_server n c a h g k f) = along e v _ f (server_turns e v n c a h g k (proper e v _ f i))
formed_turns e v i (as_gave_up n c a k f) = along e v _ f (gave_up_turns e v n c a k (proper e v _ f i))
formed_turns e v i (as_authenticated n on w k f) = along e v _ f (authenticated_turns e v n on w k (proper e v _ f i))
formed_turns e v i (as_held n on w q k f) = along e v _ f (held_turns e v n on w q k (proper e v _ f i))
formed_turns e v i (as_open k f) = along e v _ f (open_turns e v k)
formed_turns e v i (as_shut k f) = along e v _ f (shut_turns e v k)
formed_turns e v i (as_end k g f) = end_turns e v k g f

rests_along : (v x : Vars) → v ≡ x → Leads 1 x (silent x) → Leads 1 v (silent v)
rests_along v x h l = let P : Vars → Type 0 = λ y. Leads 1 y (silent y) in subst P (sym h) l

-- a settled value takes no row
pub formed_rests : (v : Vars) → Formed v → Leads 1 v (silent v)
formed_rests v (as_request n c r k f) = rests_along v _ f (request_rests v n c r k)
formed_rests v (as_ignore n c r k f) = rests_along v _ f (ignore_rests v n c r k)
formed_rests v (as_server n c a h g k f) = rests_along v _ f (server_rests v n c a h g k)
formed_rests v (as_gave_up n c a k f) = rests_along v _ f (gave_up_rests v n c a k)
formed_rests v (as_authenticated n on w k f) = rests_along v _ f (authenticated_rests v n on w k)
formed_rests v (as_held n on w q k f) = rests_along v _ f (held_rests v n on w q k)
formed_rests v (as_open k f) = rests_along v _ f (refl, refl, as_open k refl)
formed_rests v (as_shut k f) = rests_along v _ f (refl, refl, as_shut k refl)
formed_rests v (as_end k g f) = goes_rest 0 v (Lands (silent v)) (gone_rests v g) (refl, refl, as_end k g f)
