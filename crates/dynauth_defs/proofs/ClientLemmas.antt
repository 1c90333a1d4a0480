-- A client that is found stands at its place, and so do the replies that are kept for it.
use Rattle.std.proofs.Common.{◌≡◌, ℕ, suc, ◌+◌, List, [], ◌∷◌, Some, refl, ap, ◌∙◌, inl, inr, arith}
use Rattle.std.specs.Prelude.{slice_get}
use Rattle.std.specs.List.{position_from}
use Rattle.std.specs.Str.{bytes_eq}
use Rattle.std.proofs.lemmas.Bool.{cases_Bool}
use Rattle.std.proofs.lemmas.Iterator.Adapters.{position_from-zero}
use Rattle.kept_defs.specs.Kept.{Entry}
use Rattle.switch_event.specs.Config.{Client}
use Rattle.dynauth_defs.specs.Judge.{client_of, place_of}

-- the place of a client, counted on from another
record StandsFrom (ip : List ℕ) (from : ℕ) (clients : List Client) (kept : List (List Entry)) (client : Client) (replies : List Entry) : Type 0 where
  n : ℕ
  place : position_from (λ (c : Client). bytes_eq c.ip ip) from clients ≡ Some (from + n)
  client_there : slice_get clients n ≡ Some client
  replies_there : slice_get kept n ≡ Some replies

-- where a client stands, and the replies that are kept for it
pub record StandsAt (ip : List ℕ) (clients : List Client) (kept : List (List Entry)) (client : Client) (replies : List Entry) : Type 0 where
  pub n : ℕ
  pub place : place_of ip clients ≡ Some n
  pub client_there : slice_get clients n ≡ Some client
  pub replies_there : slice_get kept n ≡ Some replies

some-same : {A : Type 0} {a b : A} → Some a ≡ Some b → a ≡ b
some-same h = cc

stands-from : (ip : List ℕ) (from : ℕ) (clients : List Client) (kept : List (List Entry)) (client : Client) (replies : List Entry)
    → client_of ip clients kept ≡ Some (client, replies) → StandsFrom ip from clients kept client replies
stands-from ip from [] kept client replies known = cc
stands-from ip from (c ∷ cs) [] client replies known = cc
stands-from ip from (c ∷ cs) (k ∷ ks) client replies known =
    elim (cases_Bool (bytes_eq c.ip ip)) [
      | inl same ↦
          let first : Client × List Entry = (c, k) in
          let known_is : Client × List Entry = (client, replies) in
          let here : Some first ≡ Some known_is = rw same at known in
          let pair : first ≡ known_is = some-same here in
          let start : from + 0 ≡ from = omega arith in
          record {
            n = 0;
            place = rw (same, start) refl;
            client_there = ap (λ (p : Client × List Entry). Some p.0) pair;
            replies_there = ap (λ (p : Client × List Entry). Some p.1) pair;
          }
      | inr other ↦
          let behind : client_of ip cs ks ≡ Some (client, replies) = rw other at known in
          let rest = stands-from ip (from + 1) cs ks client replies behind in
          let next : from + 1 + rest.n ≡ from + suc rest.n = omega arith in
          record { n = suc rest.n; place = rw other (rest.place ∙ ap Some next); client_there = rest.client_there; replies_there = rest.replies_there }
    ]

pub client-place : (ip : List ℕ) (clients : List Client) (kept : List (List Entry)) (client : Client) (replies : List Entry)
    → client_of ip clients kept ≡ Some (client, replies) → StandsAt ip clients kept client replies
client-place ip clients kept client replies known =
    let stands = stands-from ip 0 clients kept client replies known in
    let start : 0 + stands.n ≡ stands.n = omega arith in
    record {
      n = stands.n;
      place = position_from-zero (λ (c : Client). bytes_eq c.ip ip) clients ∙ stands.place ∙ ap Some start;
      client_there = stands.client_there;
      replies_there = stands.replies_there;
    }
