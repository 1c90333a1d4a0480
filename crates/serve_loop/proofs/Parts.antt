-- The homes at the start, comment lines, and what was sent of several things.
use Rattle.std.proofs.Common.{◌≡◌, ℕ, zero, suc, ◌<◌, ◌≤◌, ◌+◌, Bool, true, false, ◌||◌, eqb, List, [], ◌∷◌, ◌++◌, Option, None, Some, refl, subst, sym, ap, ◌∙◌, arith, length, length-append, take, drop, replicate, slice_index_or, append-nil}
use Rattle.std.proofs.lemmas.List.{length-replicate, take-append-drop, take_more}
use Rattle.std.proofs.lemmas.List.Concat.{flat_map-append}
use Rattle.std.proofs.Math.Seq.{take-append_seam}
use Rattle.wire_core.specs.declared.address.Addr.{Addr}
use Rattle.std.specs.List.{list_all}
use Rattle.std.proofs.lemmas.Bool.{and_parts, or_right}
use Rattle.std.proofs.lemmas.Bool.Decides.{nat_tests}
use Rattle.switch_event.specs.declared.config.PortConf.{PortConf}
use Rattle.switch_event.specs.Config.{Config, within, are_ports, has_port, is_among, ports_apart}
use Rattle.trace_defs.specs.Records.{IsPort}
use Rattle.switch_event.specs.Sent.{Sent}
use Rattle.outside_link.specs.Link.{Outgoing, Grows}
use Rattle.outside_link.proofs.LinkLemmas.{Grows-same}
use Rattle.serve_defs.specs.Served.{Arrival}
use Rattle.serve_defs.specs.Posted.{Home, all_posted, posted, frame_port, with_home, homes_after}
use Rattle.serve_loop.specs.Homes.{AreHomes}
use Rattle.serve_loop.specs.Post.{SendsFirst}

-- a port that is configured is in range
pub a_port : (c : Config) (port : ℕ) → are_ports c.ports ≡ true → has_port port c ≡ true → IsPort c port
a_port c port ports known =
    let r = in_range c.ports (and_parts (list_all (λ p. within 1 60 p.port) c.ports) (ports_apart c.ports) ports).0 known in
    record { low = r.0; high = r.1; known = known }
  where
    same : (n : ℕ) → eqb n port ≡ true → within 1 60 n ≡ true → (1 ≤ port) × (port ≤ 60)
    same n e h = (grind (arith, nat_tests), grind (arith, nat_tests))

    in_range : (ports : List PortConf) → list_all (λ p. within 1 60 p.port) ports ≡ true → is_among port ports ≡ true → (1 ≤ port) × (port ≤ 60)
    in_range [] all e = absurd (cc)
    in_range (p ∷ rest) all e =
        let parts = and_parts (within 1 60 p.port) (list_all (λ q. within 1 60 q.port) rest) all in
        by (eqb p.port port) refl e parts.0 (λ more. in_range rest parts.1 more)
      where
        by : (b : Bool) → eqb p.port port ≡ b → (b || is_among port rest) ≡ true → within 1 60 p.port ≡ true → (is_among port rest ≡ true → (1 ≤ port) × (port ≤ 60)) → (1 ≤ port) × (port ≤ 60)
        by true is e one more = same p.port is one
        by false is e one more = more e

-- each port of the settings is configured
pub port_at : (c : Config) (i : ℕ) (d : PortConf) → are_ports c.ports ≡ true → i < length c.ports → IsPort c (slice_index_or c.ports i d).port
port_at c i d ports h = a_port c (slice_index_or c.ports i d).port ports (among c.ports i h)
  where
    own : (n : ℕ) → eqb n n ≡ true
    own n = grind (arith, nat_tests)

    among : (ports : List PortConf) (i : ℕ) → i < length ports → is_among (slice_index_or ports i d).port ports ≡ true
    among [] i h = absurd (omega (arith, h))
    among (p ∷ rest) zero h = ap (λ b. b || is_among p.port rest) (own p.port)
    among (p ∷ rest) (suc i) h = or_right (eqb p.port (slice_index_or rest i d).port) (is_among (slice_index_or rest i d).port rest) (among rest i (omega (arith, h)))

none_at : (n port : ℕ) (nobody : Option Addr) → slice_index_or (replicate n nobody) port nobody ≡ nobody
none_at zero port nobody = refl
none_at (suc n) zero nobody = refl
none_at (suc n) (suc port) nobody = none_at n port nobody

pub no_homes : AreHomes (replicate 256 None) []
no_homes = all_of None (λ n port. none_at n port None)
  where
    all_of : (nobody : Option Addr) → ((n port : ℕ) → slice_index_or (replicate n nobody) port None ≡ None) → AreHomes (replicate 256 nobody) []
    all_of nobody at = record { size = length-replicate 256 nobody; known = λ port h. at 256 port }

-- a frame on a port came from there
pub noted : (table : List (Option Addr)) (homes : List Home) (a : Arrival) (port : ℕ) (at : Addr) → frame_port a.entry ≡ Some port → a.from ≡ Some at
    → AreHomes table (record { port = port; at = at } ∷ homes) → AreHomes table (homes_after homes a)
noted table homes a port at on from h =
    subst (AreHomes table) (sym (ap (λ p. with_home p a.from homes) on ∙ ap (λ f. with_home (Some port) f homes) from)) h

pub not_noted : (table : List (Option Addr)) (homes : List Home) (a : Arrival) → frame_port a.entry ≡ None → AreHomes table homes → AreHomes table (homes_after homes a)
not_noted table homes a on h = subst (AreHomes table) (sym (ap (λ p. with_home p a.from homes) on)) h

-- those before an index are the first of all
pub first_of_all : (c : Config) (homes : List Home) (sent : List Sent) (i : ℕ) (a b : Option (List Outgoing)) → Grows a b (all_posted c homes (take i sent)) → SendsFirst a b (all_posted c homes sent)
first_of_all c homes sent i a b grows =
    let front = all_posted c homes (take i sent) in
    let back = all_posted c homes (drop i sent) in
    let whole : all_posted c homes sent ≡ front ++ back = ap (all_posted c homes) (sym (take-append-drop i sent)) ∙ flat_map-append (posted c homes) (take i sent) (drop i sent) in
    (length front, omega (arith, ap length whole, length-append front back), Grows-same a b _ _ (sym (ap (take (length front)) whole ∙ take-append_seam front back)) grows)

-- those before an index, and the one at it
pub one_more : (c : Config) (homes : List Home) (sent : List Sent) (i : ℕ) (d : Sent) → i < length sent
    → all_posted c homes (take (i + 1) sent) ≡ all_posted c homes (take i sent) ++ posted c homes (slice_index_or sent i d)
one_more c homes sent i d h =
    ap (all_posted c homes) (take_more sent i d h)
    ∙ flat_map-append (posted c homes) (take i sent) (slice_index_or sent i d ∷ [])
    ∙ ap (λ l. all_posted c homes (take i sent) ++ l) (append-nil (posted c homes (slice_index_or sent i d)))
