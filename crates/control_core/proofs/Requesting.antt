-- What becomes of a dynamic request, by how it is judged.
use Rattle.std.proofs.Common.{◌≡◌, ℕ, ◌∙◌, refl, sym, ap, subst, List, Some, None, map}
use Rattle.kept_defs.specs.Kept.{Entry}
use Rattle.switch_event.specs.Config.{Config}
use Rattle.switch_event.specs.declared.event.Outcome.{Outcome}
use Rattle.switch_event.specs.declared.event.Outcome.TheVariants.{Acked, Naked}
use Rattle.wire_core.specs.declared.address.Addr.{Addr}
use Rattle.out_tray.specs.Tray.{Things}
use Rattle.typed_session.specs.Follows.{with_sent}
use Rattle.dynauth_defs.specs.declared.Action.{Action}
use Rattle.dynauth_defs.specs.Judge.{Judged, Ack, Nak, judged}
use Rattle.dynauth_defs.specs.Answered.{IsAnswered}
use Rattle.switch_defs.specs.Switch.{State}
use Rattle.switch_defs.specs.Dynamic.{act, judged_on, reply}
use Rattle.switch_defs.specs.Turn.{do_request}
use Rattle.switch_defs.proofs.Soundness.{sound_is_between}
use Rattle.table_defs.specs.declared.change.Item.{Item}
use Rattle.table_defs.specs.Change.{item_of}
use Rattle.host_sessions.proofs.Turning.{sent_then}
use Rattle.control_core.specs.declared.state.Core.{Core}
use Rattle.control_core.specs.Stands.{Holds, Stands}
use Rattle.control_core.specs.Does.{Does, Turns}
use Rattle.control_core.specs.Rows.{rows_of}
use Rattle.control_core.proofs.Acting.{act_beside}
use Rattle.control_core.proofs.Replying.{judged_is, tells_reply, tells_then}

-- it is judged by what is kept as by the state
pub stands_judged : (core : Core) (s : State) (from : Addr) (octets : List ℕ) (j : Judged) → Stands core s →
    (kept : List (List Entry)) → kept ≡ core.kept.items →
    j ≡ judged core.config kept core.clock (rows_of core.sessions) from octets → j ≡ judged_on s from octets
stands_judged core s from octets j stands kept same e =
    e ∙ ap (λ (ks : List (List Entry)). judged core.config ks core.clock (rows_of core.sessions) from octets) same
    ∙ judged_is core s from octets stands.holds (sound_is_between core.made s stands.sound)

pub turns_so : (s : State) (from : Addr) (octets : List ℕ) (j : Judged) (core : Core) (out : Outcome) (t u : Things) (is js : List Item) →
    j ≡ judged_on s from octets → Turns s (do_request s from octets j) core out t u is js →
    Turns s (do_request s from octets (judged_on s from octets)) core out t u is js
turns_so s from octets j core out t u is js e turns =
    subst (λ (k : Judged). Turns s (do_request s from octets k) core out t u is js) e turns

-- it was refused
pub naked : (s : State) (from : Addr) (octets : List ℕ) (cause : ℕ) (core : Core) (t u : Things) (is : List Item) →
    Holds core (reply octets (Some cause) from s).state → u ≡ with_sent (reply octets (Some cause) from s).sent t →
    Turns s (do_request s from octets (Nak cause)) core (Naked cause) t u is is
naked s from octets cause core t u is holds sent = record {
  holds = holds;
  became = refl;
  sent = sent;
  told = tells_reply octets (Some cause) from s (map item_of is);
}

-- it was acknowledged, and done
pub acked : (s : State) (from : Addr) (octets : List ℕ) (a : Action) (mid core : Core) (t u v : Things) (is js : List Item) →
    Does s (act a s) mid t u is js → Holds core (reply octets None from (act a s).state).state →
    v ≡ with_sent (reply octets None from (act a s).state).sent u →
    Turns s (do_request s from octets (Ack a)) core Acked t v is js
acked s from octets a mid core t u v is js did holds sent =
    let w : State = (act a s).state in
    record {
      holds = holds;
      became = refl;
      sent = sent_then (act a s).sent (reply octets None from w).sent t u v did.sent sent;
      told = tells_then s w (reply octets None from w).state (map item_of is) (map item_of js) (map item_of js) did.told (tells_reply octets None from w (map item_of js));
    }

-- a request that was done is answered as before
pub answered_after : (core mid : Core) (s : State) (a : Action) (from : Addr) (octets : List ℕ) (replies : List (List Entry)) → replies ≡ core.kept.items →
    Holds core s → Holds mid (act a s).state → IsAnswered core.config replies from octets →
    IsAnswered mid.config mid.kept.items from octets
answered_after core mid s a from octets replies same before after answered =
    let b = act_beside a s in
    let config = before.config ∙ sym (after.config ∙ b.0) in
    let kept = same ∙ before.kept ∙ sym (after.kept ∙ b.1) in
    subst (λ (ks : List (List Entry)). IsAnswered mid.config ks from octets) kept
    (subst (λ (c : Config). IsAnswered c replies from octets) config answered)
