-- Each event of a value that a host stands for leads to one that the host stands for after it.
use Rattle.std.proofs.Common.{◌≡◌, ℕ, ◌∙◌, Bool, true, false, List, [], Some, None, refl, subst, sym, ap}
use Rattle.std.proofs.lemmas.List.{append-nil}
use Rattle.machine_vars.specs.declared.vars.Vars.{Vars}
use Rattle.machine_vars.specs.declared.states.Pae.{Pae as PaeState}
use Rattle.machine_vars.specs.declared.states.Backend.{Backend as BackendState}
use Rattle.machine_vars.specs.declared.states.EapState.{EapState}
use Rattle.machine_defs.specs.Settling.{Rest}
use Rattle.machine_defs.specs.Live.{Event, IsProper, set, Live, turns, Start, Logoff, Greeting, Packet, Challenge, Notice, Accept, Reject, Second, Change}
use Rattle.machine_defs.specs.Settled.{AreStates, AtOpen, AtShut, Settled, at_request, at_ignore, at_server, at_gave_up, at_authenticated, at_held, at_open, at_shut, at_end}
use Rattle.machine_defs.specs.Outcome.{Combination, Request, Ignore, Server, GaveUp, Authenticated, Held, Ended, by_pae, combination, follows as followed, outcome}
use Rattle.machine_defs.proofs.Bound.{Placed, new, old, live_placed}
use Rattle.machine_defs.proofs.Reading.{settled_form}
use Rattle.settle_defs.specs.Settle.{settled}
use Rattle.settle_defs.specs.Laws.{KeepsPeer}
use Rattle.settle_defs.proofs.SettleLaws.{stays_live, keeps_its_peer, has_outcome}
use Rattle.switch_event.specs.Sent.{Sent}
use Rattle.switch_event.specs.Frames.{frames}
use Rattle.out_tray.specs.Tray.{Things}
use Rattle.typed_session.specs.declared.host.Closed.{Closed}
use Rattle.typed_session.specs.declared.host.Host.{Host}
use Rattle.typed_session.specs.declared.host.Host.TheVariants as host
use Rattle.typed_session.specs.Stands.{host_of, closed_of, Stands}
use Rattle.typed_session.specs.Seconds.{move}
use Rattle.typed_session.specs.Follows.{EndsIn, frames_by, with_sent}
use Rattle.typed_session.proofs.Rounds.{Lands}
use Rattle.typed_session.proofs.Landing.{request_host, ignore_host, server_host, gave_up_host, authenticated_host, held_host, ended_host, request_lands, ignore_lands, server_lands}
use Rattle.typed_session.proofs.Resting.{gave_up_lands, authenticated_lands, held_lands, ended_lands}

pub some_host : {g h : Host} → Some g ≡ Some h → g ≡ h
some_host e = cc

pub none_host : {h : Host} → None ≡ Some h → ⊥
none_host e = cc

-- the combination of a value by its states
by_states : (v : Vars) {p : PaeState} {b : BackendState} {s : EapState} (c : Combination) → v.gone ≡ false → AreStates v p b s → by_pae p b s ≡ c → combination v ≡ c
by_states v c g a e = rw (g, a.pae, a.backend, a.eap) e

-- the host is that of the combination
along : (e : Event) (v : Vars) (c : Combination) (g h : Host) → host_of v ≡ Some g → host_of v ≡ Some h → combination v ≡ c → Lands (move e g) (followed e c (set e v)) → Lands (move e h) (outcome e v)
along e v c g h a b q l =
    let P : Host → Type 0 = λ y. Lands (move e y) (outcome e v) in
    let Q : Combination → Type 0 = λ d. Lands (move e g) (followed e d (set e v)) in
    subst P (some_host (sym a ∙ b)) (subst Q (sym q) l)

-- forced ports have no host
pub no_host : (v : Vars) {h : Host} {X : Type 0} → host_of v ≡ None → host_of v ≡ Some h → X
no_host v n s = absurd (none_host (sym n ∙ s))

pub open_host : (v : Vars) → AtOpen v → host_of v ≡ None
open_host v a = rw (a.flags.gone, a.states.pae) refl

pub shut_host : (v : Vars) → AtShut v → host_of v ≡ None
shut_host v a = rw (a.flags.gone, a.states.pae) refl

lands : (e : Event) (v : Vars) (h : Host) → IsProper e v → Settled v → host_of v ≡ Some h → Lands (move e h) (outcome e v)
lands e v h i (at_request f a) s = along e v Request _ h (request_host v a.session.gone a.states.pae a.states.backend) s (by_states v Request a.session.gone a.states refl) (request_lands e v i a)
lands e v h i (at_ignore f a) s = along e v Ignore _ h (ignore_host v a.session.gone a.states.pae a.states.backend) s (by_states v Ignore a.session.gone a.states refl) (ignore_lands e v i a)
lands e v h i (at_server f a) s = along e v Server _ h (server_host v a.session.gone a.states.pae a.states.backend a.states.eap) s (by_states v Server a.session.gone a.states refl) (server_lands e v i a)
lands e v h i (at_gave_up f a) s = along e v GaveUp _ h (gave_up_host v a.session.gone a.states.pae a.states.backend a.states.eap) s (by_states v GaveUp a.session.gone a.states refl) (gave_up_lands e v i a)
lands e v h i (at_authenticated f a) s = along e v Authenticated _ h (authenticated_host v a.session.gone a.states.pae) s (by_states v Authenticated a.session.gone a.states refl) (authenticated_lands e v i a)
lands e v h i (at_held f a) s = along e v Held _ h (held_host v a.session.gone a.states.pae) s (by_states v Held a.session.gone a.states refl) (held_lands e v i a)
lands e v h i (at_open f a) s = no_host v (open_host v a) s
lands e v h i (at_shut f a) s = no_host v (shut_host v a) s
lands e v h i (at_end f a) s = along e v Ended _ h (ended_host v a.gone) s (rw a.gone refl) (ended_lands e v a.gone)

-- the opening value has no host
pub host_settled : {v : Vars} {h : Host} → Live v → host_of v ≡ Some h → Settled v
host_settled l s = by_place (live_placed l) s
  where
    by_place : {v : Vars} {h : Host} → Placed v → host_of v ≡ Some h → Settled v
    by_place (new port own peer control t r) s = absurd (none_host s)
    by_place (old p) s = settled_form p

-- after an event a host stands for the value that settling leads to, and what was sent is what the move says
pub moves : (e : Event) (h : Host) (v : Vars) → IsProper e v → Stands h v →
    let r = settled (set e v) in Stands (move e h).host r.vars × (r.packets ≡ (move e h).packets)
moves e h v i s =
    let P : Rest → Type 0 = Lands (move e h) in
    let end = subst P (sym (has_outcome e v s.0 i)) (lands e v h i (host_settled s.0 s.1) s.1) in
    ((stays_live (set e v) (turns e s.0 i), end.0), end.1)

-- an ended session says nothing
ended_silent : (e : Event) (a : Closed) → (move e (host.Ended a)).packets ≡ []
ended_silent Start a = refl
ended_silent Logoff a = refl
ended_silent (Greeting source) a = refl
ended_silent (Packet eap) a = refl
ended_silent (Challenge eap wait) a = refl
ended_silent Notice a = refl
ended_silent (Accept eap on p) a = refl
ended_silent (Reject eap) a = refl
ended_silent (Second late) a = refl
ended_silent (Change on p) a = refl

-- the frames are those of the value
alike : (v : Vars) (g h : Host) (xs : List (List ℕ)) → host_of v ≡ Some g → host_of v ≡ Some h → frames v xs ≡ frames_by g xs → frames v xs ≡ frames_by h xs
alike v g h xs a b t = let P : Host → Type 0 = λ y. frames v xs ≡ frames_by y xs in subst P (some_host (sym a ∙ b)) t

same_frames : (e : Event) (v : Vars) (h : Host) → Settled v → host_of v ≡ Some h → frames v (move e h).packets ≡ frames_by h (move e h).packets
same_frames e v h (at_request f a) s = alike v _ h _ (request_host v a.session.gone a.states.pae a.states.backend) s refl
same_frames e v h (at_ignore f a) s = alike v _ h _ (ignore_host v a.session.gone a.states.pae a.states.backend) s refl
same_frames e v h (at_server f a) s = alike v _ h _ (server_host v a.session.gone a.states.pae a.states.backend a.states.eap) s refl
same_frames e v h (at_gave_up f a) s = alike v _ h _ (gave_up_host v a.session.gone a.states.pae a.states.backend a.states.eap) s refl
same_frames e v h (at_authenticated f a) s = alike v _ h _ (authenticated_host v a.session.gone a.states.pae) s refl
same_frames e v h (at_held f a) s = alike v _ h _ (held_host v a.session.gone a.states.pae) s refl
same_frames e v h (at_open f a) s = no_host v (open_host v a) s
same_frames e v h (at_shut f a) s = no_host v (shut_host v a) s
same_frames e v h (at_end f a) s =
    let same : host.Ended (closed_of v) ≡ h = some_host (sym (ended_host v a.gone) ∙ s) in
    let P : Host → Type 0 = λ y. frames v (move e y).packets ≡ frames_by y (move e y).packets in
    subst P same (ap (frames v) (ended_silent e (closed_of v)))

-- whose the variables are does not change, but where a forced port is greeted
abbrev pub speaks_on : Event → Bool
speaks_on (Greeting source) = false
speaks_on e = true

set_frames : (e : Event) (v : Vars) (xs : List (List ℕ)) → speaks_on e ≡ true → frames (set e v) xs ≡ frames v xs
set_frames Start v xs o = refl
set_frames Logoff v xs o = refl
set_frames (Greeting source) v xs o = cc
set_frames (Packet eap) v xs o = refl
set_frames (Challenge eap wait) v xs o = refl
set_frames Notice v xs o = refl
set_frames (Accept eap on p) v xs o = refl
set_frames (Reject eap) v xs o = refl
set_frames (Second late) v xs o = refl
set_frames (Change on p) v xs o = refl

pub same_peer : {v w : Vars} → KeepsPeer v w → (xs : List (List ℕ)) → frames w xs ≡ frames v xs
same_peer k xs = rw (k.port, k.own, k.peer) refl

-- a host that moves so, follows
pub follows : (e : Event) (h k : Host) (before after : Things) → k ≡ (move e h).host → after ≡ with_sent (frames_by h (move e h).packets) before →
    (v : Vars) → IsProper e v → speaks_on e ≡ true → Stands h v → EndsIn (settled (set e v)) k before after
follows e h k before after a b v i o s =
    let r = settled (set e v) in
    let m = moves e h v i s in
    let P : Host → Type 0 = λ y. Stands y r.vars in
    let frames_same : frames r.vars r.packets ≡ frames_by h (move e h).packets =
    same_peer (keeps_its_peer (set e v) (turns e s.0 i)) r.packets ∙ set_frames e v r.packets o ∙ ap (frames v) m.1 ∙ same_frames e v h (host_settled s.0 s.1) s.1 in
    let Q : List Sent → Type 0 = λ items. after ≡ with_sent items before in
    (subst P (sym a) m.0, subst Q (sym frames_same) b)

-- a packet of the host sends nothing
received_silent : (eap : List ℕ) (h : Host) → (move (Packet eap) h).packets ≡ []
received_silent eap (host.Request a) = refl
received_silent eap (host.Ignore a) = refl
received_silent eap (host.Server a) = refl
received_silent eap (host.GaveUp a) = refl
received_silent eap (host.Authenticated a) = refl
received_silent eap (host.Held a) = refl
received_silent eap (host.Ended a) = refl

nothing_by : (h : Host) → frames_by h [] ≡ []
nothing_by (host.Request a) = refl
nothing_by (host.Ignore a) = refl
nothing_by (host.Server a) = refl
nothing_by (host.GaveUp a) = refl
nothing_by (host.Authenticated a) = refl
nothing_by (host.Held a) = refl
nothing_by (host.Ended a) = refl

-- where nothing is sent the tray stays
pub unsaid : (h : Host) (packets : List (List ℕ)) (before : Things) → packets ≡ [] → before ≡ with_sent (frames_by h packets) before
unsaid h packets before none =
    let P : List (List ℕ) → Type 0 = λ xs. before ≡ with_sent (frames_by h xs) before in
    let Q : List Sent → Type 0 = λ xs. before ≡ with_sent xs before in
    let R : List Sent → Type 0 = λ xs. before ≡ record before { items = xs } in
    subst P (sym none) (subst Q (sym (nothing_by h)) (subst R (sym (append-nil before.items)) refl))

pub received_unsaid : (eap : List ℕ) (h : Host) (before : Things) → before ≡ with_sent (frames_by h (move (Packet eap) h).packets) before
received_unsaid eap h before = unsaid h (move (Packet eap) h).packets before (received_silent eap h)
