use Rattle.std.proofs.Common.{◌≡◌, ◌<◌, ℕ, ◌∙◌, sym, ap, subst, arith, List, [], ◌∷◌, length, set}
use Rattle.std.specs.Prelude.{slice_get}
use Rattle.std.specs.Vec.{with_item}
use Rattle.std.proofs.lemmas.Option.{get_or_from_slice_get}
use Rattle.radius_defs.proofs.ParsedLemmas.{packet-of-some}
use Rattle.switch_event.specs.Sent.{ToClient}
use Rattle.typed_session.specs.Follows.{with_sent}
use Rattle.kept_defs.specs.Kept.{Entry, with_newest}
use Rattle.switch_event.specs.Config.{Client}
use Rattle.dynauth_defs.specs.Answered.{IsRequest}
use Rattle.dynauth_defs.specs.Judge.{place_of}
use Rattle.dynauth_defs.specs.Reply.{reply_octets}
use Rattle.switch_defs.specs.Dynamic as dynamic
use Rattle.switch_defs.specs.Dynamic.{secret_of}
use Rattle.control_core.specs.declared.state.Core.{Core}
use Rattle.control_core.specs.Stands.{Holds}
use Rattle.control_core.proofs.Replying.{entry_of, has_place, keeps_at, keeps_reply, place_within, read_fails, same_packet, sends_reply}
use Rattle.control_core.proofs.state.Core.reply.Goals as goal

pub unreachable-requires : goal.unreachable-requires
unreachable-requires c =
    let a = c.requires.answered in
    read_fails c.args.octets.now a.packet c.in_default.field-0 a.parsed c.in_default.ensures.exact

pub unreachable-requires-in_default-client_place : goal.unreachable-requires-in_default-client_place
unreachable-requires-in_default-client_place c =
    let a = c.requires.answered in
    let core = c.args.self.now in
    let clients : c.as_slice.result.now ≡ core.config.clients = c.as_slice.ensures.value ∙ ap (λ (k : Core). k.config.clients) c.self.view_is in
    has_place c.args.from.ip core.config.clients core.kept.items a.client a.replies a.known
    (c.in_default-client_place.ensures ∙ ap (place_of c.args.from.ip) clients)

pub reply-requires : goal.reply-requires
reply-requires c =
    let a = c.requires.answered in
    subst IsRequest (same_packet c.args.octets.now a.packet c.in-Ok.request a.parsed c.in-Ok.ensures.exact) a.request

pub index_mut-requires : goal.index_mut-requires
index_mut-requires c =
    let a = c.requires.answered in
    let core = c.args.self.now in
    let ip = c.args.from.ip in
    let n = c.in-Some.place in
    let clients : c.as_slice.result.now ≡ core.config.clients = c.as_slice.ensures.value ∙ ap (λ (k : Core). k.config.clients) c.self.view_is in
    let e = entry_of c.in-Ok.request c.args.cause c.args.from core.config core.clock in
    let k = keeps_at ip e core.config.clients core.kept.items a.client a.replies n a.known (c.in-Some.ensures ∙ ap (place_of ip) clients) in
    let l : n < length core.kept.items = place_within ip e core.config.clients core.kept.items n k in
    omega (arith, l, ap (λ (k : Core). length k.kept.items) c.self.view_is)

pub returns-clause-holds : goal.returns-clause-holds
returns-clause-holds c = λ s holds.
    let a = c.requires.answered in
    let core = c.args.self.now in
    let octets = c.args.octets.now in
    let cause = c.args.cause in
    let from = c.args.from in
    let request = c.in-Ok.request in
    let n = c.in-Some.place in
    let new : List Entry = c.keep.new.self in
    let e : Entry = entry_of request cause from core.config core.clock in
    let clients : c.as_slice.result.now ≡ core.config.clients = c.as_slice.ensures.value ∙ ap (λ (k : Core). k.config.clients) c.self.view_is in
    let k = keeps_at from.ip e core.config.clients core.kept.items a.client a.replies n a.known (c.in-Some.ensures ∙ ap (place_of from.ip) clients) in
    let here = ap (λ (k : Core). slice_get k.kept.items n) c.self.view_is ∙ k.replies_there in
    let old : c.index_mut.result.now ≡ k.replies = c.index_mut.ensures.value ∙ get_or_from_slice_get _ n k.replies c.index_mut.result.now here in
    let its = ap (λ (cs : List Client). slice_get cs n) (c.deref.ensures.0 ∙ ap (λ (k : Core). k.config.clients) c.self.view_is) ∙ k.client_there in
    let client : c.index-deref-place.result ≡ k.client = c.index-deref-place.is ∙ get_or_from_slice_get _ n k.client c.index-deref-place.result its in
    let secret : c.as_slice-2.result.now ≡ secret_of from.ip core.config.clients =
    c.as_slice-2.ensures.value ∙ ap (λ (m : Client). m.secret) (c.client.view_is ∙ client) ∙ sym k.secret in
    let out : c.as_slice-3.result.now ≡ reply_octets request cause (secret_of from.ip core.config.clients) =
    c.as_slice-3.ensures.value ∙ c.reply.ensures ∙ ap (reply_octets request cause) secret in
    let moment : c.self.inside.0.1.0 ≡ core.clock = ap (λ (m : Core). m.clock) c.self.view_is in
    let newest : new ≡ with_newest e k.replies =
    c.keep.ensures
    ∙ (λ i. with_newest (record { moment = moment i; sport = from.port; request = c.text.ensures i; reply = out i }) (old i)) in
    let P : Core → Type 0 = λ m. Holds (record m { kept = with_item m.kept n new }) (dynamic.reply octets cause from s).state in
    subst P (sym c.self.view_is)
    (keeps_reply core s octets cause from request n new holds (packet-of-some octets request c.in-Ok.ensures.exact) (k.keeps ∙ ap (set core.kept.items n) (sym newest)))

pub returns-clause-sent : goal.returns-clause-sent
returns-clause-sent c = λ s holds.
    let a = c.requires.answered in
    let core = c.args.self.now in
    let octets = c.args.octets.now in
    let cause = c.args.cause in
    let from = c.args.from in
    let request = c.in-Ok.request in
    let n = c.in-Some.place in
    let e : Entry = entry_of request cause from core.config core.clock in
    let clients : c.as_slice.result.now ≡ core.config.clients = c.as_slice.ensures.value ∙ ap (λ (k : Core). k.config.clients) c.self.view_is in
    let k = keeps_at from.ip e core.config.clients core.kept.items a.client a.replies n a.known (c.in-Some.ensures ∙ ap (place_of from.ip) clients) in
    let its = ap (λ (cs : List Client). slice_get cs n) (c.deref.ensures.0 ∙ ap (λ (k : Core). k.config.clients) c.self.view_is) ∙ k.client_there in
    let client : c.index-deref-place.result ≡ k.client = c.index-deref-place.is ∙ get_or_from_slice_get _ n k.client c.index-deref-place.result its in
    let secret : c.as_slice-2.result.now ≡ secret_of from.ip core.config.clients =
    c.as_slice-2.ensures.value ∙ ap (λ (m : Client). m.secret) (c.client.view_is ∙ client) ∙ sym k.secret in
    let out : c.as_slice-4.result.now ≡ reply_octets request cause (secret_of from.ip core.config.clients) =
    c.as_slice-4.ensures.value ∙ c.reply.ensures ∙ ap (reply_octets request cause) secret in
    c.put.ensures.items
    ∙ ap (λ (o : List ℕ). with_sent (ToClient from o ∷ []) c.args.tray.now) out
    ∙ sends_reply core s octets cause from request c.args.tray.now holds (packet-of-some octets request c.in-Ok.ensures.exact)
