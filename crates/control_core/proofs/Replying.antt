-- Where the reply to a request is kept.
use Rattle.std.proofs.Common.{Option, None, append-nil, length, ◌<◌, ◌≡◌, ℕ, zero, suc, ◌+◌, List, [], ◌∷◌, Some, refl, ap, sym, subst, ◌∙◌, inl, inr, arith, set}
use Rattle.std.specs.Prelude.{Err, slice_get}
use Rattle.std.specs.Vec.{with_item}
use Rattle.std.specs.List.{position_from}
use Rattle.std.specs.Str.{bytes_eq}
use Rattle.std.proofs.lemmas.Bool.{cases_Bool}
use Rattle.std.proofs.lemmas.Iterator.Adapters.{position_from-zero}
use Rattle.kept_defs.specs.Kept.{Entry, with_newest}
use Rattle.switch_event.specs.Config.{Client}
use Rattle.dynauth_defs.specs.Judge.{client_of, place_of}
use Rattle.radius_defs.specs.declared.RadDrop.{RadDrop}
use Rattle.radius_defs.specs.Packet.{IsPacket, Packet, PacketOf, packet_text}
use Rattle.radius_defs.proofs.ParsedLemmas.{packet-of-none, packet-of-some}
use Rattle.switch_event.specs.Sent.{ToClient}
use Rattle.dynauth_defs.specs.Reply.{reply_octets}
use Rattle.radius_defs.specs.Parsed.{packet_of}
use Rattle.wire_core.specs.declared.address.Addr.{Addr}
use Rattle.out_tray.specs.Tray.{Things}
use Rattle.switch_event.specs.Config.{Config}
use Rattle.typed_session.specs.Follows.{with_sent}
use Rattle.dynauth_defs.specs.Judge.{judged}
use Rattle.switch_defs.specs.Switch.{State}
use Rattle.switch_defs.specs.Dynamic.{judged_on, keep_for, reply, reply_to, reply_with, secret_of}
use Rattle.switch_defs.specs.Laws.{IsBetween}
use Rattle.switch_defs.proofs.Moving.{unmoved}
use Rattle.switch_defs.specs.Moving.{stays}
use Rattle.table_defs.specs.Table.{Item}
use Rattle.table_defs.proofs.Told.{by_none}
use Rattle.table_defs.specs.Told.{ToldBy}
use Rattle.turn_defs.specs.Parts.{TellsOn}
use Rattle.turn_defs.proofs.Parts.{tells_none}
use Rattle.control_core.specs.declared.state.Core.{Core}
use Rattle.control_core.specs.Stands.{Holds}
use Rattle.control_core.specs.Rows.{rows_of}
use Rattle.control_core.proofs.Rolling.{rows_are}

-- the place of a client, counted on from another, its secret, and how its replies are kept
record KeepsFrom (ip : List ℕ) (e : Entry) (from : ℕ) (clients : List Client) (kept : List (List Entry)) (client : Client) (replies : List Entry) :
    Type 0 where
  n : ℕ
  place : position_from (λ (c : Client). bytes_eq c.ip ip) from clients ≡ Some (from + n)
  client_there : slice_get clients n ≡ Some client
  replies_there : slice_get kept n ≡ Some replies
  secret : secret_of ip clients ≡ client.secret
  keeps : keep_for ip e clients kept ≡ set kept n (with_newest e replies)

same : {A : Type 0} {a b : A} → Some a ≡ Some b → a ≡ b
same h = cc

keeps_from : (ip : List ℕ) (e : Entry) (from : ℕ) (clients : List Client) (kept : List (List Entry)) (client : Client) (replies : List Entry) →
    client_of ip clients kept ≡ Some (client, replies) → KeepsFrom ip e from clients kept client replies
keeps_from ip e from [] kept client replies known = cc
keeps_from ip e from (c ∷ cs) [] client replies known = cc
keeps_from ip e from (c ∷ cs) (k ∷ ks) client replies known =
    elim (cases_Bool (bytes_eq c.ip ip)) [
      | inl is ↦
          let first : Client × List Entry = (c, k) in
          let known_is : Client × List Entry = (client, replies) in
          let here : Some first ≡ Some known_is = rw is at known in
          let pair : first ≡ known_is = same here in
          let start : from + 0 ≡ from = omega arith in
          record {
            n = 0;
            place = rw (is, start) refl;
            client_there = ap (λ (p : Client × List Entry). Some p.0) pair;
            replies_there = ap (λ (p : Client × List Entry). Some p.1) pair;
            secret = rw is (ap (λ (p : Client × List Entry). p.0.secret) pair);
            keeps = rw is (ap (λ (p : Client × List Entry). with_newest e p.1 ∷ ks) pair);
          }
      | inr other ↦
          let behind : client_of ip cs ks ≡ Some (client, replies) = rw other at known in
          let rest = keeps_from ip e (from + 1) cs ks client replies behind in
          let next : from + 1 + rest.n ≡ from + suc rest.n = omega arith in
          record {
            n = suc rest.n;
            place = rw other (rest.place ∙ ap Some next);
            client_there = rest.client_there;
            replies_there = rest.replies_there;
            secret = rw other rest.secret;
            keeps = rw other (ap (λ (rs : List (List Entry)). k ∷ rs) rest.keeps);
          }
    ]

-- at its place among the clients a client has its secret, and its replies are kept
pub record KeepsAt (ip : List ℕ) (e : Entry) (clients : List Client) (kept : List (List Entry)) (n : ℕ) : Type 0 where
  pub client : Client
  pub replies : List Entry
  pub client_there : slice_get clients n ≡ Some client
  pub replies_there : slice_get kept n ≡ Some replies
  pub secret : secret_of ip clients ≡ client.secret
  pub keeps : keep_for ip e clients kept ≡ set kept n (with_newest e replies)

pub keeps_at : (ip : List ℕ) (e : Entry) (clients : List Client) (kept : List (List Entry)) (client : Client) (replies : List Entry) (n : ℕ) →
    client_of ip clients kept ≡ Some (client, replies) → Some n ≡ place_of ip clients → KeepsAt ip e clients kept n
keeps_at ip e clients kept client replies n known at =
    let k = keeps_from ip e 0 clients kept client replies known in
    let start : 0 + k.n ≡ k.n = omega arith in
    let is : k.n ≡ n = same (sym (position_from-zero (λ (c : Client). bytes_eq c.ip ip) clients ∙ k.place ∙ ap Some start) ∙ sym at) in
    record {
      client = client;
      replies = replies;
      client_there = subst (λ (m : ℕ). slice_get clients m ≡ Some client) is k.client_there;
      replies_there = subst (λ (m : ℕ). slice_get kept m ≡ Some replies) is k.replies_there;
      secret = k.secret;
      keeps = subst (λ (m : ℕ). keep_for ip e clients kept ≡ set kept m (with_newest e replies)) is k.keeps;
    }

-- ---- where it is

within : {A : Type 0} (xs : List A) (n : ℕ) (x : A) → slice_get xs n ≡ Some x → n < length xs
within [] n x e = cc
within (y ∷ ys) zero x e = omega arith
within (y ∷ ys) (suc n) x e = let l : n < length ys = within ys n x e in omega (arith, l)

pub place_within : (ip : List ℕ) (e : Entry) (clients : List Client) (kept : List (List Entry)) (n : ℕ) → KeepsAt ip e clients kept n → n < length kept
place_within ip e clients kept n k = within kept n k.replies k.replies_there

-- a client that is known has a place
pub has_place : (ip : List ℕ) (clients : List Client) (kept : List (List Entry)) (client : Client) (replies : List Entry) →
    client_of ip clients kept ≡ Some (client, replies) → None ≡ place_of ip clients → ⊥
has_place ip clients kept client replies known none =
    let e : Entry = record { moment = 0; sport = 0; request = []; reply = [] } in
    let k = keeps_from ip e 0 clients kept client replies known in
    let at : place_of ip clients ≡ Some (0 + k.n) = position_from-zero (λ (c : Client). bytes_eq c.ip ip) clients ∙ k.place in
    cc

-- octets that are a packet are the one that was read
pub same_packet : (octets : List ℕ) (p q : Packet) → packet_of octets ≡ Some p → IsPacket octets q → p ≡ q
same_packet octets p q parsed is = same (sym parsed ∙ packet-of-some octets q is)

pub read_fails : (octets : List ℕ) (p : Packet) (drop : RadDrop) → packet_of octets ≡ Some p → PacketOf octets (Err drop) → ⊥
read_fails octets p drop parsed broken =
    let none : packet_of octets ≡ None = packet-of-none octets drop broken in
    let no : Some p ≡ None = sym parsed ∙ none in
    cc

-- ---- what is kept

-- the entry of a reply to a request that came from an address and port
abbrev pub entry_of : Packet → Option ℕ → Addr → Config → (clock : ℕ) → Entry
entry_of request cause from config clock = record {
  moment = clock;
  sport = from.port;
  request = packet_text request;
  reply = reply_octets request cause (secret_of from.ip config.clients);
}

pub keeps_reply : (core : Core) (s : State) (octets : List ℕ) (cause : Option ℕ) (from : Addr) (request : Packet) (n : ℕ) (k : List Entry) →
    Holds core s → packet_of octets ≡ Some request →
    keep_for from.ip (entry_of request cause from core.config core.clock) core.config.clients core.kept.items ≡ set core.kept.items n k →
    Holds (record core { kept = with_item core.kept n k }) (reply octets cause from s).state
keeps_reply core s octets cause from request n k holds parsed kept =
    let after : Core = record core { kept = with_item core.kept n k } in
    let P : Option Packet → Type 0 = λ o. Holds after (reply_to o cause from s).state in
    subst P (sym parsed) (record {
      config = holds.config;
      clock = holds.clock;
      ports = holds.ports;
      sessions = record {
        table = holds.sessions.table;
        sessions = holds.sessions.sessions;
        waits = holds.sessions.waits;
        asked = holds.sessions.asked;
        next = holds.sessions.next;
      };
      kept = sym kept ∙ (λ i. keep_for from.ip (entry_of request cause from (holds.config i) (holds.clock i)) (holds.config i).clients (holds.kept i));
    })

pub sends_reply : (core : Core) (s : State) (octets : List ℕ) (cause : Option ℕ) (from : Addr) (request : Packet) (before : Things) →
    Holds core s → packet_of octets ≡ Some request →
    with_sent (ToClient from (reply_octets request cause (secret_of from.ip core.config.clients)) ∷ []) before ≡ with_sent (reply octets cause from s).sent before
sends_reply core s octets cause from request before holds parsed =
    let P : Option Packet → Type 0 =
    λ o. with_sent (ToClient from (reply_octets request cause (secret_of from.ip core.config.clients)) ∷ []) before ≡ with_sent (reply_to o cause from s).sent before in
    subst P (sym parsed) (λ i. with_sent (ToClient from (reply_octets request cause (secret_of from.ip (holds.config i).clients)) ∷ []) before)

-- ---- what is told and sent

told_by_reply : (o : Option Packet) (cause : Option ℕ) (from : Addr) (s : State) →
    ToldBy [] s (reply_to o cause from s).state
told_by_reply None cause from s = by_none s s refl refl refl unmoved
told_by_reply (Some p) cause from s =
    by_none s (reply_with p cause from s).state refl refl refl (record { by = stays })

-- a reply needs no item
pub tells_reply : (octets : List ℕ) (cause : Option ℕ) (from : Addr) (s : State) (items : List Item) →
    TellsOn s (reply octets cause from s).state items items
tells_reply octets cause from s items =
    tells_none items s (reply octets cause from s).state (told_by_reply (packet_of octets) cause from s)

pub tells_then : (s t u : State) (a b d : List Item) → TellsOn s t a b → TellsOn t u b d → TellsOn s u a d
tells_then s t u a b d f g = λ start told. g start (f start told)

pub nothing_sent : (from : Things) → from ≡ with_sent [] from
nothing_sent from = λ i. record from { items = sym (append-nil from.items) i }

-- ---- how a request is judged

pub judged_is : (core : Core) (s : State) (from : Addr) (octets : List ℕ) → Holds core s → IsBetween s →
    judged core.config core.kept.items core.clock (rows_of core.sessions) from octets ≡ judged_on s from octets
judged_is core s from octets holds between =
    let rows = rows_are core.sessions s holds.sessions between in
    λ i. judged (holds.config i) (holds.kept i) (holds.clock i) (rows i) from octets
