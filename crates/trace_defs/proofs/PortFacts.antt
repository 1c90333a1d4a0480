-- Ports of settings: one more of them, one of them, and one with another VLAN.
use Rattle.std.proofs.Common.{◌≡◌, ℕ, ◌<◌, ◌≤◌, Bool, ◌&&◌, ◌||◌, true, false, not, leb, eqb, List, [], ◌∷◌, ◌++◌, map, length, refl, sym, ap, ap₂, ◌∙◌, arith, length-append}
use Rattle.std.specs.List.{list_all, list_any, IsDistinct, AllByRecursion}
use Rattle.std.proofs.lemmas.Bool.{and_parts, and_from, or_parts, or_from, cond_both}
use Rattle.std.proofs.lemmas.Bool.Decides.{nat_tests}
use Rattle.std.proofs.lemmas.List.{length-map}
use Rattle.std.proofs.lemmas.List.Folds.{list_all-append, list_any-append}
use Rattle.std.proofs.lemmas.Map.Keys.{IsDistinct-cons}
use Rattle.std.proofs.lemmas.Map.Steps.{length-le_from_distinct_below}
use Rattle.switch_event.specs.declared.config.PortConf.{PortConf}
use Rattle.switch_event.specs.Config.{within, is_among, ports_apart, are_ports, has_valid_vlans, are_valid_ports}
use Rattle.trace_defs.specs.declared.keyword.OtherVlan.{OtherVlan}
use Rattle.trace_defs.specs.declared.keyword.OtherVlan.TheVariants.{Restricted, Guest}
use Rattle.trace_defs.specs.Line.{with_other_vlan, change_vlan, give_vlan}
use Rattle.trace_defs.specs.Sized.{IsWithin}

pub within-true : (least most n : ℕ) → IsWithin least most n → within least most n ≡ true
within-true least most n h = both least most n h.low h.high
  where
    both : (least most n : ℕ) → least ≤ n → n ≤ most → (leb least n && leb n most) ≡ true
    both least most n low high = grind (arith, nat_tests)

pub true-within : (least most n : ℕ) → within least most n ≡ true → IsWithin least most n
true-within least most n h =
    let parts = and_parts (leb least n) (leb n most) h in
    record { low = below least n parts.0; high = below n most parts.1 }
  where
    below : (m n : ℕ) → leb m n ≡ true → m ≤ n
    below m n h = grind (arith, nat_tests)

-- a port by itself
pub record IsConf (conf : PortConf) : Type 0 where
  pub port : IsWithin 1 60 conf.port
  pub native : IsWithin 1 4094 conf.native
  pub restricted : conf.restricted ≤ 4094
  pub guest : conf.guest ≤ 4094

at_most : (n most : ℕ) → n ≤ most → leb n most ≡ true
at_most n most h = grind (arith, nat_tests)

most_at : (n most : ℕ) → leb n most ≡ true → n ≤ most
most_at n most h = grind (arith, nat_tests)

conf_vlans : (conf : PortConf) → IsConf conf → has_valid_vlans conf ≡ true
conf_vlans conf h =
    and_from (within 1 4094 conf.native && leb conf.restricted 4094) (leb conf.guest 4094)
    (and_from (within 1 4094 conf.native) (leb conf.restricted 4094) (within-true 1 4094 conf.native h.native) (at_most conf.restricted 4094 h.restricted))
    (at_most conf.guest 4094 h.guest)

-- the three tests of its VLANs
record HasVlans (p : PortConf) : Type 0 where
  native : within 1 4094 p.native ≡ true
  restricted : leb p.restricted 4094 ≡ true
  guest : leb p.guest 4094 ≡ true

has_vlans : (p : PortConf) → has_valid_vlans p ≡ true → HasVlans p
has_vlans p h =
    let parts = and_parts (within 1 4094 p.native && leb p.restricted 4094) (leb p.guest 4094) h in
    let first = and_parts (within 1 4094 p.native) (leb p.restricted 4094) parts.0 in
    record { native = first.0; restricted = first.1; guest = parts.1 }

-- ---- numbers

abbrev numbered : PortConf → Bool
numbered p = within 1 60 p.port

pub among-append : (n : ℕ) (xs ys : List PortConf) → is_among n (xs ++ ys) ≡ (is_among n xs || is_among n ys)
among-append n xs ys = list_any-append (λ p. eqb p.port n) xs ys

pub among-map : (f : PortConf → PortConf) → ((p : PortConf) → (f p).port ≡ p.port) → (n : ℕ) (ports : List PortConf) → is_among n (map f ports) ≡ is_among n ports
among-map f same n [] = refl
among-map f same n (p ∷ ports) = ap₂ (λ m b. eqb m n || b) (same p) (among-map f same n ports)

apart-more : (ports : List PortConf) (conf : PortConf) → ports_apart ports ≡ true → is_among conf.port ports ≡ false → ports_apart (ports ++ conf ∷ []) ≡ true
apart-more [] conf h new = refl
apart-more (p ∷ rest) conf h new =
    let apart = and_parts (not (is_among p.port rest)) (ports_apart rest) h in
    let other = or_parts (eqb p.port conf.port) (is_among conf.port rest) new in
    and_from (not (is_among p.port (rest ++ conf ∷ []))) (ports_apart (rest ++ conf ∷ []))
    (ap not (among-append p.port rest (conf ∷ [])) ∙ neither (is_among p.port rest) conf.port p.port apart.0 other.0) (apart-more rest conf apart.1 other.1)
  where
    neither : (b : Bool) (m n : ℕ) → not b ≡ true → eqb n m ≡ false → not (b || (eqb m n || false)) ≡ true
    neither b m n h k = grind (arith, nat_tests)

-- a port among others is none of those before it, and none of those behind it
pub apart-before : (before : List PortConf) (conf : PortConf) (rest : List PortConf) → ports_apart (before ++ conf ∷ rest) ≡ true → is_among conf.port before ≡ false
apart-before [] conf rest h = refl
apart-before (p ∷ before) conf rest h =
    let apart = and_parts (not (is_among p.port (before ++ conf ∷ rest))) (ports_apart (before ++ conf ∷ rest)) h in
    or_from (eqb p.port conf.port) (is_among conf.port before)
    (other conf.port p.port (is_among p.port before) (is_among p.port rest) (sym (ap not (among-append p.port before (conf ∷ rest))) ∙ apart.0)) (apart-before before conf rest apart.1)
  where
    other : (m n : ℕ) (a b : Bool) → not (a || (eqb m n || b)) ≡ true → eqb n m ≡ false
    other m n true b h = absurd (cc)
    other m n false b h = step m n (eqb m n) refl h
      where
        step : (m n : ℕ) (e : Bool) → eqb m n ≡ e → not (e || b) ≡ true → eqb n m ≡ false
        step m n true is h = absurd (cc)
        step m n false is h = grind (arith, nat_tests)

pub apart-behind : (before : List PortConf) (conf : PortConf) (rest : List PortConf) → ports_apart (before ++ conf ∷ rest) ≡ true → is_among conf.port rest ≡ false
apart-behind [] conf rest h = untrue (is_among conf.port rest) (and_parts (not (is_among conf.port rest)) (ports_apart rest) h).0
  where
    untrue : (b : Bool) → not b ≡ true → b ≡ false
    untrue true h = absurd (cc)
    untrue false h = refl
apart-behind (p ∷ before) conf rest h =
    apart-behind before conf rest (and_parts (not (is_among p.port (before ++ conf ∷ rest))) (ports_apart (before ++ conf ∷ rest)) h).1

-- ---- one more port

pub are_ports-more : (ports : List PortConf) (conf : PortConf) → are_ports ports ≡ true → IsWithin 1 60 conf.port → is_among conf.port ports ≡ false → are_ports (ports ++ conf ∷ []) ≡ true
are_ports-more ports conf h number new =
    let parts = and_parts (list_all numbered ports) (ports_apart ports) h in
    and_from (list_all numbered (ports ++ conf ∷ [])) (ports_apart (ports ++ conf ∷ []))
    (list_all-append numbered ports (conf ∷ []) ∙ and_from (list_all numbered ports) (numbered conf && true) parts.0 (and_from (numbered conf) true (within-true 1 60 conf.port number) refl))
    (apart-more ports conf parts.1 new)

pub valid_ports-more : (ports : List PortConf) (conf : PortConf) → are_valid_ports ports ≡ true → IsConf conf → is_among conf.port ports ≡ false → are_valid_ports (ports ++ conf ∷ []) ≡ true
valid_ports-more ports conf h good new =
    let parts = and_parts (are_ports ports) (list_all has_valid_vlans ports) h in
    and_from (are_ports (ports ++ conf ∷ [])) (list_all has_valid_vlans (ports ++ conf ∷ [])) (are_ports-more ports conf parts.0 good.port new)
    (list_all-append has_valid_vlans ports (conf ∷ []) ∙ and_from (list_all has_valid_vlans ports) (has_valid_vlans conf && true) parts.1 (and_from (has_valid_vlans conf) true (conf_vlans conf good) refl))

-- ---- one of the ports

pub record IsAmong (before : List PortConf) (conf : PortConf) (rest : List PortConf) : Type 0 where
  pub good : IsConf conf
  pub new : is_among conf.port before ≡ false
  pub last : is_among conf.port rest ≡ false

pub valid_ports-at : (before : List PortConf) (conf : PortConf) (rest : List PortConf) → are_valid_ports (before ++ conf ∷ rest) ≡ true → IsAmong before conf rest
valid_ports-at before conf rest h =
    let parts = and_parts (are_ports (before ++ conf ∷ rest)) (list_all has_valid_vlans (before ++ conf ∷ rest)) h in
    let ports = and_parts (list_all numbered (before ++ conf ∷ rest)) (ports_apart (before ++ conf ∷ rest)) parts.0 in
    let vlans = has_vlans conf (at has_valid_vlans parts.1) in
    record {
      good = record {
        port = true-within 1 60 conf.port (at numbered ports.0);
        native = true-within 1 4094 conf.native vlans.native;
        restricted = most_at conf.restricted 4094 vlans.restricted;
        guest = most_at conf.guest 4094 vlans.guest;
      };
      new = apart-before before conf rest ports.1;
      last = apart-behind before conf rest ports.1;
    }
  where
    at : (test : PortConf → Bool) → list_all test (before ++ conf ∷ rest) ≡ true → test conf ≡ true
    at test h =
        let both = and_parts (list_all test before) (test conf && list_all test rest) (sym (list_all-append test before (conf ∷ rest)) ∙ h) in
        (and_parts (test conf) (list_all test rest) both.1).0

-- ---- a port with another VLAN

same_port : (other : OtherVlan) (vlan : ℕ) (p : PortConf) → (with_other_vlan other vlan p).port ≡ p.port
same_port Restricted vlan p = refl
same_port Guest vlan p = refl

pub change-port : (other : OtherVlan) (port vlan : ℕ) (p : PortConf) → (change_vlan other port vlan p).port ≡ p.port
change-port other port vlan p = cond_both (eqb p.port port) (with_other_vlan other vlan p) p (λ q. q.port ≡ p.port) (λ e. same_port other vlan p) (λ e. refl)

give-among : (other : OtherVlan) (port vlan n : ℕ) (ports : List PortConf) → is_among n (give_vlan other port vlan ports) ≡ is_among n ports
give-among other port vlan n ports = among-map (change_vlan other port vlan) (change-port other port vlan) n ports

give-apart : (other : OtherVlan) (port vlan : ℕ) (ports : List PortConf) → ports_apart (give_vlan other port vlan ports) ≡ ports_apart ports
give-apart other port vlan [] = refl
give-apart other port vlan (p ∷ ports) =
    ap₂ (λ a b. not a && b)
    (ap (λ n. is_among n (give_vlan other port vlan ports)) (change-port other port vlan p) ∙ give-among other port vlan p.port ports) (give-apart other port vlan ports)

give-numbered : (other : OtherVlan) (port vlan : ℕ) (ports : List PortConf) → list_all numbered (give_vlan other port vlan ports) ≡ list_all numbered ports
give-numbered other port vlan [] = refl
give-numbered other port vlan (p ∷ ports) = ap₂ (λ n b. within 1 60 n && b) (change-port other port vlan p) (give-numbered other port vlan ports)

pub give-are_ports : (other : OtherVlan) (port vlan : ℕ) (ports : List PortConf) → are_ports (give_vlan other port vlan ports) ≡ are_ports ports
give-are_ports other port vlan ports = ap₂ (λ a b. a && b) (give-numbered other port vlan ports) (give-apart other port vlan ports)

give-vlans : (other : OtherVlan) (port vlan : ℕ) (ports : List PortConf) → vlan ≤ 4094 → list_all has_valid_vlans ports ≡ true → list_all has_valid_vlans (give_vlan other port vlan ports) ≡ true
give-vlans other port vlan [] fits h = refl
give-vlans other port vlan (p ∷ ports) fits h =
    let parts = and_parts (has_valid_vlans p) (list_all has_valid_vlans ports) h in
    and_from (has_valid_vlans (change_vlan other port vlan p)) (list_all has_valid_vlans (give_vlan other port vlan ports))
    (cond_both (eqb p.port port) (with_other_vlan other vlan p) p (λ q. has_valid_vlans q ≡ true) (λ e. given other p parts.0) (λ e. parts.0)) (give-vlans other port vlan ports fits parts.1)
  where
    given : (other : OtherVlan) (p : PortConf) → has_valid_vlans p ≡ true → has_valid_vlans (with_other_vlan other vlan p) ≡ true
    given Restricted p h =
        let v = has_vlans p h in
        and_from (within 1 4094 p.native && leb vlan 4094) (leb p.guest 4094) (and_from (within 1 4094 p.native) (leb vlan 4094) v.native (at_most vlan 4094 fits)) v.guest
    given Guest p h =
        let v = has_vlans p h in
        and_from (within 1 4094 p.native && leb p.restricted 4094) (leb vlan 4094) (and_from (within 1 4094 p.native) (leb p.restricted 4094) v.native v.restricted) (at_most vlan 4094 fits)

pub give-valid_ports : (other : OtherVlan) (port vlan : ℕ) (ports : List PortConf) → vlan ≤ 4094 → are_valid_ports ports ≡ true → are_valid_ports (give_vlan other port vlan ports) ≡ true
give-valid_ports other port vlan ports fits h =
    let parts = and_parts (are_ports ports) (list_all has_valid_vlans ports) h in
    and_from (are_ports (give_vlan other port vlan ports)) (list_all has_valid_vlans (give_vlan other port vlan ports))
    (give-are_ports other port vlan ports ∙ parts.0) (give-vlans other port vlan ports fits parts.1)

-- ---- at most sixty ports

abbrev number : PortConf → ℕ
number p = p.port

-- a number that is among those of ports in range is in range
below : (ports : List PortConf) (q : ℕ) → list_all numbered ports ≡ true → list_any (eqb q) (map number ports) ≡ true → q < 61
below [] q all h = absurd (cc)
below (p ∷ ports) q all h =
    let range = and_parts (numbered p) (list_all numbered ports) all in
    either p.port q (list_any (eqb q) (map number ports)) (true-within 1 60 p.port range.0).high (below ports q range.1) h
  where
    either : (n q : ℕ) (more : Bool) → n ≤ 60 → (more ≡ true → q < 61) → (eqb q n || more) ≡ true → q < 61
    either n q true range later h = later refl
    either n q false range later h = grind (arith, nat_tests)

-- none of them is 0
above : (ports : List PortConf) → list_all numbered ports ≡ true → AllByRecursion (λ y. eqb 0 y ≡ false) (map number ports)
above [] all = tt
above (p ∷ ports) all =
    let range = and_parts (numbered p) (list_all numbered ports) all in
    (positive p.port (true-within 1 60 p.port range.0).low, above ports range.1)
  where
    positive : (n : ℕ) → 1 ≤ n → eqb 0 n ≡ false
    positive n h = grind (arith, nat_tests)

-- a number that no port has is none of their numbers
absent : (ports : List PortConf) (n : ℕ) → is_among n ports ≡ false → AllByRecursion (λ y. eqb n y ≡ false) (map number ports)
absent [] n h = tt
absent (p ∷ ports) n h =
    let parts = or_parts (eqb p.port n) (is_among n ports) h in
    (turned p.port n parts.0, absent ports n parts.1)
  where
    turned : (m n : ℕ) → eqb m n ≡ false → eqb n m ≡ false
    turned m n h = grind (arith, nat_tests)

apart-distinct : (ports : List PortConf) → ports_apart ports ≡ true → IsDistinct eqb (map number ports)
unfolding IsDistinct
apart-distinct [] h = tt
apart-distinct (p ∷ ports) h =
    let parts = and_parts (not (is_among p.port ports)) (ports_apart ports) h in
    IsDistinct-cons eqb p.port (map number ports) (absent ports p.port (untrue (is_among p.port ports) parts.0)) (apart-distinct ports parts.1)
  where
    untrue : (b : Bool) → not b ≡ true → b ≡ false
    untrue true h = absurd (cc)
    untrue false h = refl

pub are_ports-few : (ports : List PortConf) → are_ports ports ≡ true → length ports ≤ 60
are_ports-few ports h =
    let parts = and_parts (list_all numbered ports) (ports_apart ports) h in
    let more = length-le_from_distinct_below (0 ∷ map number ports) 61
    (IsDistinct-cons eqb 0 (map number ports) (above ports parts.0) (apart-distinct ports parts.1))
    (λ q. inside q (list_any (eqb q) (map number ports)) (below ports q parts.0)) in
    omega (arith, more, length-map ports number)
  where
    inside : (q : ℕ) (more : Bool) → (more ≡ true → q < 61) → (eqb q 0 || more) ≡ true → q < 61
    inside q true later e = later refl
    inside q false later e = grind (arith, nat_tests)

pub are_ports-room : (ports : List PortConf) (conf : PortConf) → are_ports (ports ++ conf ∷ []) ≡ true → length ports < 60
are_ports-room ports conf h = omega (arith, are_ports-few (ports ++ conf ∷ []) h, length-append ports (conf ∷ []))
