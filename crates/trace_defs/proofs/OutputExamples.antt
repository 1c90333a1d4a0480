-- What is printed, by computation: a row for each name. They test the definitions.
use Rattle.std.proofs.Common.{◌≡◌, ℕ, refl, List, [], ◌∷◌, ◌++◌, map, codes}
use Rattle.std.specs.Fmt.{digits}
use Rattle.hex.specs.Hex.{encode_with}
use Rattle.switch_event.specs.declared.drop.FrameDrop.TheVariants as frame
use Rattle.switch_event.specs.declared.drop.AaaDrop.TheVariants as answer
use Rattle.switch_event.specs.declared.drop.DynDrop.TheVariants as request
use Rattle.switch_event.specs.declared.event.Outcome.{Outcome}
use Rattle.switch_event.specs.declared.event.Outcome.TheVariants.{Done, FrameDropped, AnswerDropped, Acked, Naked, Again, RequestDropped}
use Rattle.switch_event.specs.declared.decision.Decision.TheVariants.{Forward, Drop}
use Rattle.switch_event.specs.declared.decision.Drop9.{Drop9}
use Rattle.switch_event.specs.declared.decision.Drop9.TheVariants.{Runt, Giant, Control, Reserved, Tagged, GroupSource, Down, Closed, Unauthorised}
use Rattle.switch_event.specs.Sent.{ToHost, ToServer, ToClient}
use Rattle.trace_defs.specs.Output.{control_block, control_line, data_line}

-- ---- control records

abbrev outcomes : List Outcome
outcomes =
    Done ∷ Acked ∷ Naked 503 ∷ Again
    ∷ FrameDropped frame.Elsewhere ∷ FrameDropped frame.GroupSource ∷ FrameDropped frame.Down
    ∷ FrameDropped frame.EapolShort ∷ FrameDropped frame.Key ∷ FrameDropped frame.EapolType
    ∷ FrameDropped frame.BodyShort ∷ FrameDropped frame.EapShort ∷ FrameDropped frame.EapCode
    ∷ FrameDropped frame.EapLength ∷ FrameDropped frame.NotResponse ∷ FrameDropped frame.Forced
    ∷ FrameDropped frame.NoSession ∷ FrameDropped frame.PortFull
    ∷ AnswerDropped answer.Malformed ∷ AnswerDropped answer.NoRequest ∷ AnswerDropped answer.BadCode
    ∷ AnswerDropped answer.BadAuthenticator ∷ AnswerDropped answer.BadMessageAuth
    ∷ AnswerDropped answer.Oversize ∷ AnswerDropped answer.BadEap
    ∷ RequestDropped request.Stranger ∷ RequestDropped request.Malformed ∷ RequestDropped request.Oversize
    ∷ RequestDropped request.BadCode ∷ RequestDropped request.BadAuthenticator
    ∷ RequestDropped request.BadMessageAuth ∷ RequestDropped request.Stale ∷ []

abbrev outcome_names : List (List ℕ)
outcome_names =
    codes "ok" ∷ codes "ack" ∷ codes "nak 503" ∷ codes "again"
    ∷ codes "drop elsewhere" ∷ codes "drop group-source" ∷ codes "drop down" ∷ codes "drop eapol-short" ∷ codes "drop key"
    ∷ codes "drop eapol-type" ∷ codes "drop body-short" ∷ codes "drop eap-short" ∷ codes "drop eap-code" ∷ codes "drop eap-length"
    ∷ codes "drop not-response" ∷ codes "drop forced" ∷ codes "drop no-session" ∷ codes "drop port-full"
    ∷ codes "drop malformed" ∷ codes "drop no-request" ∷ codes "drop bad-code" ∷ codes "drop bad-authenticator"
    ∷ codes "drop bad-message-auth" ∷ codes "drop oversize" ∷ codes "drop bad-eap"
    ∷ codes "drop stranger" ∷ codes "drop malformed" ∷ codes "drop oversize" ∷ codes "drop bad-code"
    ∷ codes "drop bad-authenticator" ∷ codes "drop bad-message-auth" ∷ codes "drop stale" ∷ []

outcomes_printed : map (control_line 7 2 3) outcomes ≡ map (λ name. codes "c 7 @2 3 " ++ name ++ 10 ∷ []) outcome_names
unfolding digits
outcomes_printed = refl

-- what was sent stands below, in its order; the first socket of the server is left out
sent_printed :
    control_block 1048576 1 0 Acked (
    ToHost 60 (1 ∷ 171 ∷ []) ∷ ToServer 0 (2 ∷ []) ∷ ToServer 3 (3 ∷ [])
    ∷ ToClient (record { ip = 192 ∷ 0 ∷ 2 ∷ 30 ∷ []; port = 65535 }) (240 ∷ []) ∷ []
    ) ≡
    codes "c 1048576 @1 0 ack" ++ 10 ∷ codes "f 60 01ab" ++ 10 ∷ codes "r 02" ++ 10 ∷ codes "r 3 03" ++ 10 ∷
    codes "y 192.0.2.30 65535 f0" ++ 10 ∷ []
unfolding digits encode_with
sent_printed = refl

-- ---- data records

abbrev drops : List Drop9
drops = Runt ∷ Giant ∷ Control ∷ Reserved ∷ Tagged ∷ GroupSource ∷ Down ∷ Closed ∷ Unauthorised ∷ []

abbrev drop_names : List (List ℕ)
drop_names =
    codes "runt" ∷ codes "giant" ∷ codes "control" ∷ codes "reserved" ∷ codes "tagged" ∷ codes "group-source" ∷ codes "down"
    ∷ codes "closed" ∷ codes "unauthorised" ∷ []

drops_printed : map (λ why. data_line 6 5 (Drop why) []) drops ≡ map (λ name. codes "d 6 5 drop " ++ name ++ 10 ∷ []) drop_names
unfolding digits
drops_printed = refl

forward_printed : data_line 8 6 (Forward 960 4094) (255 ∷ 129 ∷ []) ≡ codes "d 8 6 forward 960 4094 ff81" ++ 10 ∷ []
unfolding digits encode_with
forward_printed = refl
