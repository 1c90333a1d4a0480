-- What settings with which a switch can run promise.
use Rattle.std.proofs.Common.{◌≡◌, ℕ, zero, suc, ◌≤◌, refl, sym, ap, subst, List, [], ◌∷◌, length, map, filter, Bool, true, false, cond, not, arith, inl, inr}
use Rattle.std.specs.Prelude.{◌==◌, ◌&&◌, ◌||◌, nat_eq, nat_le}
use Rattle.std.specs.List.{AllByRecursion, IsDistinct, list_all}
use Rattle.std.specs.Cmp.{unsigned_Decides}
use Rattle.std.proofs.lemmas.Bool.{cases_eq}
use Rattle.std.proofs.lemmas.Bool.Decides.{nat_tests}
use Rattle.machine_defs.specs.Live.{InRange}
use Rattle.switch_event.specs.declared.config.PortConf.{PortConf}
use Rattle.switch_event.specs.Config.{Config, is_valid, within, is_among, has_valid_vlans, ports_apart, are_ports, are_valid_ports, are_valid_clients, are_valid_names, are_valid_times, is_valid_clock}
use Rattle.switch_defs.specs.Sound.{ArePorts, In, here, there}
use Rattle.switch_defs.proofs.Lists.{both, of_both}

up_to : (a b : ℕ) → nat_le a b ≡ true → a ≤ b
up_to a b h = grind (arith, nat_tests)

between : (a b n : ℕ) → within a b n ≡ true → (a ≤ n) × (n ≤ b)
between a b n h = let k = both (nat_le a n) (nat_le n b) h in (up_to a n k.0, up_to n b k.1)

five : (a b c d e : Bool) → a && b && c && d && e ≡ true → (a ≡ true) × (b ≡ true) × (c ≡ true) × (d ≡ true) × (e ≡ true)
five true true true true true h = (refl, refl, refl, refl, refl)
five false b c d e h = cc
five true false c d e h = cc
five true true false d e h = cc
five true true true false e h = cc
five true true true true false h = cc

four : (a b c d : Bool) → a && b && c && d ≡ true → (a ≡ true) × (b ≡ true) × (c ≡ true) × (d ≡ true)
four true true true true h = (refl, refl, refl, refl)
four false b c d h = cc
four true false c d h = cc
four true true false d h = cc
four true true true false h = cc

pub valid_times : (c : Config) → is_valid c ≡ true → InRange c.times
valid_times c v =
    let p = five (are_valid_ports c.ports) (are_valid_clients c.clients) (are_valid_names c) (are_valid_times c.times) (is_valid_clock c) v in
    let t = four (within 1 65535 c.times.quiet) (within 1 65535 c.times.server) (within 1 10 c.times.reauth_max) (within 1 4294967295 c.times.reauth_period) p.3 in
    record {
      quiet_from = (between 1 65535 c.times.quiet t.0).0;
      server_from = (between 1 65535 c.times.server t.1).0;
      most_from = (between 1 10 c.times.reauth_max t.2).0;
      most_to = (between 1 10 c.times.reauth_max t.2).1;
      period_from = (between 1 4294967295 c.times.reauth_period t.3).0;
    }

three : (a b c : Bool) → a && b && c ≡ true → (a ≡ true) × (b ≡ true) × (c ≡ true)
three true true true h = (refl, refl, refl)
three false b c h = cc
three true false c h = cc
three true true false h = cc

pub valid_clock : (c : Config) → is_valid c ≡ true → c.clock ≤ 4294967295
valid_clock c v =
    let p = five (are_valid_ports c.ports) (are_valid_clients c.clients) (are_valid_names c) (are_valid_times c.times) (is_valid_clock c) v in
    let k = three (within 1 86400 c.window) (within 1 65535 c.guest_wait) (nat_le c.clock 4294967295) p.4 in
    up_to c.clock 4294967295 k.2

-- ---- ports

none_among : (n : ℕ) (ps : List PortConf) → not (is_among n ps) ≡ true → AllByRecursion (λ m. nat_eq n m ≡ false) (map (λ p. p.port) ps)
none_among n [] h = tt
none_among n (p ∷ ps) h =
    let k = neither (p.port == n) (is_among n ps) h in
    (other (p.port == n) refl k.0, none_among n ps k.1)
  where
    neither : (a b : Bool) → not (a || b) ≡ true → (a ≡ false) × (not b ≡ true)
    neither false b e = (refl, e)
    neither true b e = cc

    other : (a : Bool) → (p.port == n) ≡ a → a ≡ false → nat_eq n p.port ≡ false
    other true e f = cc
    other false e f = flip (nat_eq n p.port) refl
      where
        flip : (b : Bool) → nat_eq n p.port ≡ b → nat_eq n p.port ≡ false
        flip false g = g
        flip true g = of_both e ((unsigned_Decides p.port n).1 (sym ((unsigned_Decides n p.port).0 g)))

distinct_ports : (ps : List PortConf) → ports_apart ps ≡ true → IsDistinct nat_eq (map (λ p. p.port) ps)
unfolding IsDistinct
distinct_ports [] h = tt
distinct_ports (p ∷ ps) h = let k = both (not (is_among p.port ps)) (ports_apart ps) h in (none_among p.port ps k.0, distinct_ports ps k.1)

pub valid_ports : (c : Config) → is_valid c ≡ true → ArePorts c.ports
valid_ports c v =
    let p = five (are_valid_ports c.ports) (are_valid_clients c.clients) (are_valid_names c) (are_valid_times c.times) (is_valid_clock c) v in
    let k = both (are_ports c.ports) (list_all has_valid_vlans c.ports) p.0 in
    let n = both (list_all (λ p. within 1 60 p.port) c.ports) (ports_apart c.ports) k.0 in
    record { in_range = n.0; apart = distinct_ports c.ports n.1 }

-- ---- how many

abbrev Below : ℕ → List ℕ → Type 0
Below n ms = AllByRecursion (λ m. (1 ≤ m) × (m ≤ n)) ms

drop_one : (n : ℕ) (ms : List ℕ) → Below (suc n) ms → Below n (filter (λ m. not (nat_eq (suc n) m)) ms)
drop_one n [] b = tt
drop_one n (m ∷ ms) b = by (nat_eq (suc n) m) refl (drop_one n ms b.1)
  where
    by : (x : Bool) → nat_eq (suc n) m ≡ x → Below n (filter (λ m. not (nat_eq (suc n) m)) ms) → Below n (cond (not x) (m ∷ filter (λ m. not (nat_eq (suc n) m)) ms) (filter (λ m. not (nat_eq (suc n) m)) ms))
    by true e r = r
    by false e r = elim (cases_eq m (suc n)) [
      | inl same ↦ of_both e ((unsigned_Decides (suc n) m).1 (sym same))
      | inr other ↦ ((b.0.0, omega (arith, b.0.1, other)), r)
    ]

all_others : (n : ℕ) (ms : List ℕ) → AllByRecursion (λ m. nat_eq n m ≡ false) ms → filter (λ m. not (nat_eq n m)) ms ≡ ms
all_others n [] a = refl
all_others n (m ∷ ms) a = rw (a.0, all_others n ms a.1) refl

distinct_filter : (f : ℕ → Bool) (ms : List ℕ) → IsDistinct nat_eq ms → IsDistinct nat_eq (filter f ms)
unfolding IsDistinct
distinct_filter f [] d = tt
distinct_filter f (m ∷ ms) d = by (f m) (keep_all ms d.0) (distinct_filter f ms d.1)
  where
    keep_all : (ks : List ℕ) → AllByRecursion (λ k. nat_eq m k ≡ false) ks → AllByRecursion (λ k. nat_eq m k ≡ false) (filter f ks)
    keep_all [] a = tt
    keep_all (k ∷ ks) a = elim (f k) as (λ b. AllByRecursion (λ k. nat_eq m k ≡ false) (cond b (k ∷ filter f ks) (filter f ks))) [ true ↦ (a.0, keep_all ks a.1) | false ↦ keep_all ks a.1 ]

    by : (b : Bool) → AllByRecursion (λ k. nat_eq m k ≡ false) (filter f ms) → IsDistinct nat_eq (filter f ms) → IsDistinct nat_eq (cond b (m ∷ filter f ms) (filter f ms))
    by true a e = (a, e)
    by false a e = e

loses_one : (n : ℕ) (ms : List ℕ) → IsDistinct nat_eq ms → length ms ≤ suc (length (filter (λ m. not (nat_eq n m)) ms))
unfolding IsDistinct
loses_one n [] d = omega arith
loses_one n (m ∷ ms) d = by (nat_eq n m) refl (loses_one n ms d.1)
  where
    by : (x : Bool) → nat_eq n m ≡ x → length ms ≤ suc (length (filter (λ m. not (nat_eq n m)) ms)) → suc (length ms) ≤ suc (length (cond (not x) (m ∷ filter (λ m. not (nat_eq n m)) ms) (filter (λ m. not (nat_eq n m)) ms)))
    by false e l = omega (arith, l)
    by true e l =
        let same : n ≡ m = (unsigned_Decides n m).0 e in
        let all : filter (λ k. not (nat_eq n k)) ms ≡ ms = all_others n ms (subst (λ (j : ℕ). AllByRecursion (λ k. nat_eq j k ≡ false) ms) (sym same) d.0) in
        let size : length (filter (λ k. not (nat_eq n k)) ms) ≡ length ms = ap (λ (ks : List ℕ). length ks) all in
        omega (arith, size)

few_numbers : (n : ℕ) (ms : List ℕ) → Below n ms → IsDistinct nat_eq ms → length ms ≤ n
few_numbers zero [] b d = omega arith
few_numbers zero (m ∷ ms) b d = absurd (omega (arith, b.0.0, b.0.1))
few_numbers (suc n) ms b d =
    let l : length (filter (λ m. not (nat_eq (suc n) m)) ms) ≤ n = few_numbers n (filter (λ m. not (nat_eq (suc n) m)) ms) (drop_one n ms b) (distinct_filter _ ms d) in
    let m : length ms ≤ suc (length (filter (λ m. not (nat_eq (suc n) m)) ms)) = loses_one (suc n) ms d in
    omega arith

below_60 : (ps : List PortConf) → list_all (λ p. nat_le 1 p.port && nat_le p.port 60) ps ≡ true → Below 60 (map (λ p. p.port) ps)
below_60 [] h = tt
below_60 (p ∷ ps) h =
    let k = both (nat_le 1 p.port && nat_le p.port 60) (list_all (λ p. nat_le 1 p.port && nat_le p.port 60) ps) h in
    let r = both (nat_le 1 p.port) (nat_le p.port 60) k.0 in
    ((up_to 1 p.port r.0, up_to p.port 60 r.1), below_60 ps k.1)

ports_length : (ps : List PortConf) → length (map (λ p. p.port) ps) ≡ length ps
ports_length [] = refl
ports_length (p ∷ ps) = ap suc (ports_length ps)

pub few_ports : (ps : List PortConf) → ArePorts ps → length ps ≤ 60
few_ports ps a =
    let l : length (map (λ p. p.port) ps) ≤ 60 = few_numbers 60 (map (λ p. p.port) ps) (below_60 ps a.in_range) a.apart in
    let e : length (map (λ p. p.port) ps) ≡ length ps = ports_length ps in
    omega arith

-- the native VLAN of a port that is configured is one
valid_native : (ps : List PortConf) → list_all has_valid_vlans ps ≡ true → (p : PortConf) → In p ps → within 1 4094 p.native ≡ true
valid_native [] v p i = elim i [ ]
valid_native (q ∷ ps) v p here =
    (three (within 1 4094 p.native) (nat_le p.restricted 4094) (nat_le p.guest 4094) (both (has_valid_vlans p) (list_all has_valid_vlans ps) v).0).0
valid_native (q ∷ ps) v p (there i) = valid_native ps (both (has_valid_vlans q) (list_all has_valid_vlans ps) v).1 p i

pub valid_confs : (c : Config) → is_valid c ≡ true → list_all has_valid_vlans c.ports ≡ true
valid_confs c v =
    let k = five (are_valid_ports c.ports) (are_valid_clients c.clients) (are_valid_names c) (are_valid_times c.times) (is_valid_clock c) v in
    (both (are_ports c.ports) (list_all has_valid_vlans c.ports) k.0).1

pub valid_vlans : (c : Config) → is_valid c ≡ true → (p : PortConf) → In p c.ports → within 1 4094 p.native ≡ true
valid_vlans c v p i = valid_native c.ports (valid_confs c v) p i
