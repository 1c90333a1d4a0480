-- What a NAK or an ACK says of the request, and an ACK of the session that it names.
use Rattle.std.proofs.Common.{suc, drop, ◌≡◌, ◌⊎◌, ℕ, ◌≤◌, true, false, Bool, List, [], ◌∷◌, length, Option, Some, None, refl, sym, subst, arith, not}
use Rattle.std.specs.Prelude.{if◌then◌else◌, ◌==◌, ◌&&◌, nat_lt}
use Rattle.std.specs.List.{list_all}
use Rattle.std.proofs.lemmas.Bool.{ltb-false, eq-eqb}
use Rattle.std.proofs.Math.Bool.{and-true}
use Rattle.std.proofs.lemmas.Bool.Decides.{nat_tests}
use Rattle.radius_defs.specs.declared.code.TheConstants.{DISCONNECT_REQUEST, COA_REQUEST}
use Rattle.radius_defs.specs.Packet.{Packet, packet_text}
use Rattle.radius_defs.specs.Parsed.{packet_of}
use Rattle.kept_defs.specs.Kept.{Entry}
use Rattle.switch_event.specs.Config.{Config, Client}
use Rattle.wire_core.specs.declared.address.Addr.{Addr}
use Rattle.dynauth_defs.specs.declared.TheConstants.{MOST_REQUEST}
use Rattle.switch_event.specs.declared.drop.DynDrop.TheVariants.{Stranger, Malformed}
use Rattle.dynauth_defs.specs.declared.Action.{Action}
use Rattle.dynauth_defs.specs.Session.{Row, matching}
use Rattle.dynauth_defs.specs.Judge.{Judged, Drop, Again, Nak, Ack, is_dynamic, client_of, with, first_line, lines, done, judged, action_on}
use Rattle.dynauth_defs.specs.Answered.{GetsReply, IsRequest, IsAnswered, IsDone}

-- whether the first line of a list applies, and what it says
abbrev applies : List (Bool × Judged) → Bool
applies [] = false
applies (line ∷ rest) = line.0

abbrev says : Judged → List (Bool × Judged) → Judged
says last [] = last
says last (line ∷ rest) = line.1

module _ (P : Judged → Type 0) where
  -- no line says so
  abbrev SaysNot : List (Bool × Judged) → Type 0
  SaysNot [] = Unit {0}
  SaysNot (line ∷ rest) = (P line.1 → ⊥) × (SaysNot rest)

  -- no line applies
  abbrev NoneApplies : List (Bool × Judged) → Type 0
  NoneApplies [] = Unit {0}
  NoneApplies (line ∷ rest) = (line.0 ≡ false) × (NoneApplies rest)

  -- where the first line does not say what was judged, it does not apply
  passed : (list : List (Bool × Judged)) (last : Judged) → (P (says last list) → ⊥) → P (first_line list last) → (applies list ≡ false) × P (first_line (drop 1 list) last)
  passed [] last other h = absurd (other h)
  passed (line ∷ rest) last other h = by_line line.0 refl
    where
      by_line : (b : Bool) → line.0 ≡ b → (line.0 ≡ false) × P (first_line rest last)
      by_line true e = let Q : Bool → Type 0 = λ b. P (if b then line.1 else first_line rest last) in absurd (other (subst Q e h))
      by_line false e = let Q : Bool → Type 0 = λ b. P (if b then line.1 else first_line rest last) in (e, subst Q e h)

  -- where no line says what was judged, none applies, and the last word does
  all-passed : (list : List (Bool × Judged)) (last : Judged) → SaysNot list → P (first_line list last) → (NoneApplies list) × (P last)
  all-passed [] last other h = (tt, h)
  all-passed (line ∷ rest) last other h =
      let here = passed (line ∷ rest) last other.0 h in
      let behind = all-passed rest last other.1 here.1 in
      ((here.0, behind.0), behind.1)

  -- what was judged of something that may be there
  there : {A : Type 0} (o : Option A) (without : Judged) (rest : A → Judged) → (P without → ⊥) → P (with o without rest) → (x : A) × (o ≡ Some x) × P (rest x)
  there None without rest other h = absurd (other h)
  there (Some x) without rest other h = (x, refl, h)

of_not : (b : Bool) → not b ≡ false → b ≡ true
of_not true h = refl
of_not false h = cc

of_either : (m : ℕ) → is_dynamic m ≡ true → (m ≡ DISCONNECT_REQUEST) ⊎ (m ≡ COA_REQUEST)
of_either m h = grind (arith, nat_tests, h)

too_many : (m : ℕ) → nat_lt 1 (suc (suc m)) ≡ false → ⊥
too_many m h = let few : suc (suc m) ≤ 1 = ltb-false 1 (suc (suc m)) h in omega arith

authorised : (y : Row) (coa : Bool) → coa ≡ true → (coa && not (y.authorised && true)) ≡ false → not y.authorised ≡ false
authorised y coa e h = let P : Bool → Type 0 = λ b. (b && not (y.authorised && true)) ≡ false in subst (λ b. not b ≡ false) (and-true y.authorised) (subst P e h)

-- a packet names one session, on which it does this, and changes it only where it is authorised
abbrev One : Packet → List Row → Action → Type 0
One p rows action = (row : Row) × (matching p.attributes rows ≡ row ∷ []) × (action ≡ action_on p row.number) × (p.code ≡ COA_REQUEST → row.authorised ≡ true)

-- an action, and which
abbrev IsAck : Action → Judged → Type 0
IsAck action (Drop reason) = ⊥
IsAck action (Again reply) = ⊥
IsAck action (Nak cause) = ⊥
IsAck action (Ack other) = other ≡ action

module _ (config : Config) (client : Client) (replies : List Entry) (now : ℕ) (rows : List Row) (port : ℕ) (p : Packet) where
  -- a packet that lines 3 and 4 let pass
  is-request : GetsReply (first_line (lines config client replies now rows port p) (done p (matching p.attributes rows))) → IsRequest p
  is-request h =
      let behind = passed GetsReply (lines config client replies now rows port p) (done p (matching p.attributes rows)) (λ no. no) h in
      let short : nat_lt MOST_REQUEST (length (packet_text p)) ≡ false = behind.0 in
      let after = passed GetsReply (drop 1 (lines config client replies now rows port p)) (done p (matching p.attributes rows)) (λ no. no) behind.1 in
      let dynamic : not (is_dynamic p.code) ≡ false = after.0 in
      record { code = of_either p.code (of_not (is_dynamic p.code) dynamic); size = ltb-false MOST_REQUEST (length (packet_text p)) short }

  -- an acknowledged packet names one session, and a change one that is authorised
  acked : (action : Action) → IsAck action (first_line (lines config client replies now rows port p) (done p (matching p.attributes rows)))
      → One p rows action
  acked action h =
      let no : ⊥ → ⊥ = λ x. x in
      let all = all-passed (IsAck action) (lines config client replies now rows port p) (done p (matching p.attributes rows))
      (no, (no, (no, (no, (no, (no, (no, (no, (no, (no, (no, (no, (no, (no, (no, (no, tt)))))))))))))))) h in
      by_named (matching p.attributes rows) refl all.1 all.0.1.1.1.1.1.1.1.1.1.1.1.1.0 all.0.1.1.1.1.1.1.1.1.1.1.1.1.1.1.1.0
    where
      by_named : (named : List Row) → matching p.attributes rows ≡ named → IsAck action (done p named) → nat_lt 1 (length named) ≡ false
          → (p.code == COA_REQUEST && not (list_all (λ y. y.authorised) named)) ≡ false → One p rows action
      by_named [] e last single change = absurd last
      by_named (y ∷ []) e last single change = (y, e, sym last, λ coa. of_not y.authorised (authorised y (p.code == COA_REQUEST) (eq-eqb p.code COA_REQUEST coa) change))
      by_named (y ∷ z ∷ ys) e last single change = absurd (too_many (length ys) single)

-- what gets a reply of its own is a client's, and a request that can be replied to
pub answered_requests : (config : Config) (kept : List (List Entry)) (now : ℕ) (rows : List Row) (from : Addr) (octets : List ℕ)
    → GetsReply (judged config kept now rows from octets) → IsAnswered config kept from octets
answered_requests config kept now rows from octets h =
    let known = there GetsReply (client_of from.ip config.clients kept) (Drop Stranger) (λ k. with (packet_of octets) (Drop Malformed) (λ p. first_line (lines config k.0 k.1 now rows from.port p) (done p (matching p.attributes rows)))) (λ no. no) h in
    let k : Client × List Entry = known.0 in
    let parsed = there GetsReply (packet_of octets) (Drop Malformed) (λ p. first_line (lines config k.0 k.1 now rows from.port p) (done p (matching p.attributes rows))) (λ no. no) known.2 in
    record { client = k.0; replies = k.1; packet = parsed.0; known = known.1; parsed = parsed.1; request = is-request config k.0 k.1 now rows from.port parsed.0 parsed.2 }

-- what is acknowledged names one session, and does to it what the packet says
pub acknowledged_actions : (config : Config) (kept : List (List Entry)) (now : ℕ) (rows : List Row) (from : Addr) (octets : List ℕ) (action : Action)
    → judged config kept now rows from octets ≡ Ack action → IsDone rows octets action
acknowledged_actions config kept now rows from octets action is =
    let h : IsAck action (judged config kept now rows from octets) = subst (IsAck action) (sym is) refl in
    let known = there (IsAck action) (client_of from.ip config.clients kept) (Drop Stranger) (λ k. with (packet_of octets) (Drop Malformed) (λ p. first_line (lines config k.0 k.1 now rows from.port p) (done p (matching p.attributes rows)))) (λ no. no) h in
    let k : Client × List Entry = known.0 in
    let parsed = there (IsAck action) (packet_of octets) (Drop Malformed) (λ p. first_line (lines config k.0 k.1 now rows from.port p) (done p (matching p.attributes rows))) (λ no. no) known.2 in
    let one = acked config k.0 k.1 now rows from.port parsed.0 action parsed.2 in
    record { packet = parsed.0; row = one.0; parsed = parsed.1; named = one.1; action_is = one.2; authorised = one.3 }
