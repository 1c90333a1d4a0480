-- Where the port of a number stands, and what is done to it there.
use Rattle.std.proofs.Common.{◌≡◌, ℕ, suc, ◌+◌, ◌<◌, ◌≤◌, Bool, true, false, cond, not, List, [], ◌∷◌, length, map, get_or, set, refl, ap, sym, subst, ◌∙◌, arith, Option, Some, None}
use Rattle.std.specs.Prelude.{find, ◌==◌, ◌&&◌, ◌||◌, nat_lt, is_some, IfSome}
use Rattle.std.specs.Borrow.{Bor}
use Rattle.std.proofs.lemmas.List.{length-map}
use Rattle.std.specs.Cmp.{unsigned_Decides}
use Rattle.std.specs.List.{position, position_or_len}
use Rattle.std.specs.Option.{option_map}
use Rattle.std.proofs.Math.Seq.{map-set_same}
use Rattle.std.proofs.lemmas.Bool.Decides.{nat_tests}
use Rattle.switch_event.specs.declared.config.PortConf.{PortConf}
use Rattle.switch_event.specs.Config.{are_ports, is_among, ports_apart, within}
use Rattle.std.specs.List.{list_all}
use Rattle.switch_defs.specs.Switch.{Port, is_port}
use Rattle.switch_defs.specs.Sound.{confs}
use Rattle.switch_defs.proofs.Lists.{both}
use Rattle.switch_ports.specs.Index.{place_of, IsIndex}
use Rattle.switch_ports.specs.Ports.{lets_guests, shown}

-- the first place at which a test passes, by recursion
abbrev place_by : {X : Type 0} → (X → Bool) → List X → Option ℕ
place_by t [] = None
place_by t (x ∷ xs) = cond (t x) (Some 0) (option_map (λ n. suc n) (place_by t xs))

first_place : (b : Bool) (m l : ℕ) →
    cond {A = Option ℕ} (nat_lt (cond {A = ℕ} (not b) (1 + m) 0) (suc l)) (Some (cond {A = ℕ} (not b) (1 + m) 0)) None ≡ cond {A = Option ℕ} b (Some 0) (option_map {T = ℕ} {U = ℕ} (λ n. suc n) (cond {A = Option ℕ} (nat_lt m l) (Some m) None))
first_place true m l = by (nat_lt 0 (suc l)) (grind (arith, nat_tests))
  where
    by : (b : Bool) → b ≡ true → cond {A = Option ℕ} b (Some 0) None ≡ Some 0
    by true e = refl
    by false e = cc
first_place false m l = by (nat_lt (1 + m) (suc l)) (nat_lt m l) (grind (arith, nat_tests)) (omega arith)
  where
    by : (a b : Bool) → a ≡ b → 1 + m ≡ suc m → cond {A = Option ℕ} a (Some (1 + m)) None ≡ option_map {T = ℕ} {U = ℕ} (λ n. suc n) (cond {A = Option ℕ} b (Some m) None)
    by true true e k = ap (λ (n : ℕ). Some n) k
    by true false e k = cc
    by false true e k = cc
    by false false e k = refl

place_is : {X : Type 0} (t : X → Bool) (xs : List X) → position t xs ≡ place_by t xs
place_is t [] = refl
place_is t (x ∷ xs) = first_place (t x) (position_or_len t xs) (length xs) ∙ ap (λ (o : Option ℕ). cond (t x) (Some 0) (option_map (λ n. suc n) o)) (place_is t xs)

-- what leaves the ports of other numbers as they are
abbrev pub Spares : ℕ → (Port → Port) → Type 0
Spares n f = (p : Port) → is_port n p ≡ false → f p ≡ p

-- and what does the same at the ports of a number
abbrev pub Hits : ℕ → (f g : Port → Port) → Type 0
Hits n f g = (p : Port) → is_port n p ≡ true → g p ≡ f p

same_number : (a b : ℕ) → (a == b) ≡ true → a ≡ b
same_number a b e = (unsigned_Decides a b).0 e

-- the port at a place, one behind the first
abbrev Found : ℕ → List Port → Port → ℕ → Type 0
Found n ps d i = (find (is_port n) ps ≡ Some (get_or ps i d)) × (is_port n (get_or ps i d) ≡ true) × (i < length ps)

found_first : (n : ℕ) (p : Port) (ps : List Port) (i : ℕ) (d : Port) (b : Bool) (o : Option ℕ) → is_port n p ≡ b → cond b (Some 0) (option_map (λ n. suc n) o) ≡ Some i → ((j : ℕ) → o ≡ Some j → Found n ps d j) →
    (cond b (Some p) (find (is_port n) ps) ≡ Some (get_or (p ∷ ps) i d)) × (is_port n (get_or (p ∷ ps) i d) ≡ true) × (i < suc (length ps))
found_first n p ps i d true o h e f =
    let z : 0 ≡ i = cc in
    subst (λ (j : ℕ). (Some p ≡ Some (get_or (p ∷ ps) j d)) × (is_port n (get_or (p ∷ ps) j d) ≡ true) × (j < suc (length ps))) z (refl, h, omega arith)
found_first n p ps i d false None h e f = cc
found_first n p ps i d false (Some j) h e f =
    let z : suc j ≡ i = cc in
    let r = f j refl in
    subst (λ (m : ℕ). (find (is_port n) ps ≡ Some (get_or (p ∷ ps) m d)) × (is_port n (get_or (p ∷ ps) m d) ≡ true) × (m < suc (length ps))) z (r.0, r.1, omega (arith, r.2))

found_by : (n : ℕ) (ps : List Port) (i : ℕ) (d : Port) → place_by (λ c. c.port == n) (confs ps) ≡ Some i → Found n ps d i
found_by n [] i d e = cc
found_by n (p ∷ ps) i d e = found_first n p ps i d (is_port n p) (place_by (λ c. c.port == n) (confs ps)) refl e (λ j k. found_by n ps j d k)

missing_first : (n : ℕ) (p : Port) (ps : List Port) (b : Bool) (o : Option ℕ) → cond b (Some 0) (option_map (λ n. suc n) o) ≡ None → (o ≡ None → find (is_port n) ps ≡ None) → cond b (Some p) (find (is_port n) ps) ≡ None
missing_first n p ps true o e f = cc
missing_first n p ps false None e f = f refl
missing_first n p ps false (Some j) e f = cc

missing_by : (n : ℕ) (ps : List Port) → place_by (λ c. c.port == n) (confs ps) ≡ None → find (is_port n) ps ≡ None
missing_by n [] e = refl
missing_by n (p ∷ ps) e = missing_first n p ps (is_port n p) (place_by (λ c. c.port == n) (confs ps)) e (missing_by n ps)

by_recursion : (n : ℕ) (ps : List Port) (o : Option ℕ) → place_of n (confs ps) ≡ o → place_by (λ c. c.port == n) (confs ps) ≡ o
by_recursion n ps o e = sym (place_is (λ c. c.port == n) (confs ps)) ∙ e

-- the port of a number is the one at its place
pub found_at : (n : ℕ) (ps : List Port) (i : ℕ) (d : Port) → place_of n (confs ps) ≡ Some i → Found n ps d i
found_at n ps i d e = found_by n ps i d (by_recursion n ps (Some i) e)

pub missing : (n : ℕ) (ps : List Port) → place_of n (confs ps) ≡ None → find (is_port n) ps ≡ None
missing n ps e = missing_by n ps (by_recursion n ps None e)

either_false : (a b : Bool) → a || b ≡ false → (a ≡ false) × (b ≡ false)
either_false true b e = cc
either_false false b e = (refl, e)

none_among : (n : ℕ) (f : Port → Port) (ps : List Port) → Spares n f → is_among n (confs ps) ≡ false → map f ps ≡ ps
none_among n f [] s e = refl
none_among n f (p ∷ ps) s e =
    let k = either_false (p.conf.port == n) (is_among n (confs ps)) e in
    λ i. s p k.0 i ∷ none_among n f ps s k.1 i

unchanged_first : (n : ℕ) (f : Port → Port) (p : Port) (ps : List Port) (b : Bool) (o : Option ℕ) → Spares n f → is_port n p ≡ b → cond b (Some 0) (option_map (λ n. suc n) o) ≡ None → (o ≡ None → map f ps ≡ ps) → f p ∷ map f ps ≡ p ∷ ps
unchanged_first n f p ps true o s h e g = cc
unchanged_first n f p ps false None s h e g = λ i. s p h i ∷ g refl i
unchanged_first n f p ps false (Some j) s h e g = cc

unchanged_by : (n : ℕ) (f : Port → Port) (ps : List Port) → Spares n f → place_by (λ c. c.port == n) (confs ps) ≡ None → map f ps ≡ ps
unchanged_by n f [] s e = refl
unchanged_by n f (p ∷ ps) s e = unchanged_first n f p ps (is_port n p) (place_by (λ c. c.port == n) (confs ps)) s refl e (unchanged_by n f ps s)

-- where no port has the number, none changes
pub unchanged : (n : ℕ) (f : Port → Port) (ps : List Port) → Spares n f → place_of n (confs ps) ≡ None → map f ps ≡ ps
unchanged n f ps s e = unchanged_by n f ps s (by_recursion n ps None e)

not_false : (b : Bool) → not b ≡ true → b ≡ false
not_false true e = cc
not_false false e = refl

changed_first : (n : ℕ) (f : Port → Port) (p : Port) (ps : List Port) (i : ℕ) (d : Port) (b : Bool) (o : Option ℕ) → Spares n f → is_among p.conf.port (confs ps) ≡ false → is_port n p ≡ b →
    cond b (Some 0) (option_map (λ n. suc n) o) ≡ Some i → ((j : ℕ) → o ≡ Some j → set ps j (f (get_or ps j d)) ≡ map f ps) → set (p ∷ ps) i (f (get_or (p ∷ ps) i d)) ≡ f p ∷ map f ps
changed_first n f p ps i d true o s a h e g =
    let z : 0 ≡ i = cc in
    let others : is_among n (confs ps) ≡ false = subst (λ (m : ℕ). is_among m (confs ps) ≡ false) (same_number p.conf.port n h) a in
    subst (λ (j : ℕ). set (p ∷ ps) j (f (get_or (p ∷ ps) j d)) ≡ f p ∷ map f ps) z (ap (λ (qs : List Port). f p ∷ qs) (sym (none_among n f ps s others)))
changed_first n f p ps i d false None s a h e g = cc
changed_first n f p ps i d false (Some j) s a h e g =
    let z : suc j ≡ i = cc in
    subst (λ (m : ℕ). set (p ∷ ps) m (f (get_or (p ∷ ps) m d)) ≡ f p ∷ map f ps) z (λ t. sym (s p h) t ∷ g j refl t)

changed_by : (n : ℕ) (f : Port → Port) (ps : List Port) (i : ℕ) (d : Port) → Spares n f → ports_apart (confs ps) ≡ true → place_by (λ c. c.port == n) (confs ps) ≡ Some i → set ps i (f (get_or ps i d)) ≡ map f ps
changed_by n f [] i d s a e = refl
changed_by n f (p ∷ ps) i d s a e =
    let k = both (not (is_among p.conf.port (confs ps))) (ports_apart (confs ps)) a in
    changed_first n f p ps i d (is_port n p) (place_by (λ c. c.port == n) (confs ps)) s (not_false _ k.0) refl e (λ j l. changed_by n f ps j d s k.1 l)

are_apart : (cs : List PortConf) → are_ports cs ≡ true → ports_apart cs ≡ true
are_apart cs e = (both (list_all (λ p. within 1 60 p.port) cs) (ports_apart cs) e).1

-- the port of a number changes at its place
pub changed_at : (n : ℕ) (f g : Port → Port) (ps : List Port) (i : ℕ) (q new : Port) → Spares n f → Hits n f g → are_ports (confs ps) ≡ true → place_of n (confs ps) ≡ Some i → q ≡ get_or ps i q → new ≡ g q → set ps i new ≡ map f ps
changed_at n f g ps i q new s h a e at is =
    let r = found_at n ps i q e in
    ap (set ps i) (is ∙ ap g at ∙ h (get_or ps i q) r.1) ∙ changed_by n f ps i q s (are_apart (confs ps) a) (by_recursion n ps (Some i) e)

-- the index stays that of ports whose settings are as before
pub index_kept : (places : List (Option ℕ)) (ps : List Port) (i : ℕ) (q new : Port) → IsIndex places (confs ps) → q ≡ get_or ps i q → new.conf ≡ q.conf → IsIndex places (confs (set ps i new))
index_kept places ps i q new k at same =
    let P : List PortConf → Type 0 = λ cs. IsIndex places cs in
    subst P (sym (map-set_same (λ (p : Port). p.conf) ps i new q (same ∙ ap (λ (p : Port). p.conf) at))) k

-- whether the port of a number lets guests in
guests_first : (n : ℕ) (p : Port) (ps : List Port) (i : ℕ) (d : Port) (b : Bool) (o : Option ℕ) → is_among p.conf.port (confs ps) ≡ false → is_port n p ≡ b → cond b (Some 0) (option_map (λ n. suc n) o) ≡ Some i →
    ((j : ℕ) → o ≡ Some j → lets_guests n ps ≡ (get_or ps j d).guest_open) → (is_among n (confs ps) ≡ false → lets_guests n ps ≡ false) → b && p.guest_open || lets_guests n ps ≡ (get_or (p ∷ ps) i d).guest_open
guests_first n p ps i d true o a h e f g =
    let z : 0 ≡ i = cc in
    let others : is_among n (confs ps) ≡ false = subst (λ (m : ℕ). is_among m (confs ps) ≡ false) (same_number p.conf.port n h) a in
    subst (λ (j : ℕ). p.guest_open || lets_guests n ps ≡ (get_or (p ∷ ps) j d).guest_open) z (ap (λ (x : Bool). p.guest_open || x) (g others) ∙ or_false p.guest_open)
  where
    or_false : (x : Bool) → x || false ≡ x
    or_false true = refl
    or_false false = refl
guests_first n p ps i d false None a h e f g = cc
guests_first n p ps i d false (Some j) a h e f g =
    let z : suc j ≡ i = cc in
    subst (λ (m : ℕ). lets_guests n ps ≡ (get_or (p ∷ ps) m d).guest_open) z (f j refl)

no_guests_among : (n : ℕ) (ps : List Port) → is_among n (confs ps) ≡ false → lets_guests n ps ≡ false
no_guests_among n [] e = refl
no_guests_among n (p ∷ ps) e =
    let k = either_false (p.conf.port == n) (is_among n (confs ps)) e in
    λ i. k.0 i && p.guest_open || no_guests_among n ps k.1 i

guests_by : (n : ℕ) (ps : List Port) (i : ℕ) (d : Port) → ports_apart (confs ps) ≡ true → place_by (λ c. c.port == n) (confs ps) ≡ Some i → lets_guests n ps ≡ (get_or ps i d).guest_open
guests_by n [] i d a e = cc
guests_by n (p ∷ ps) i d a e =
    let k = both (not (is_among p.conf.port (confs ps))) (ports_apart (confs ps)) a in
    guests_first n p ps i d (is_port n p) (place_by (λ c. c.port == n) (confs ps)) (not_false _ k.0) refl e (λ j l. guests_by n ps j d k.1 l) (no_guests_among n ps)

pub guests_at : (n : ℕ) (ps : List Port) (i : ℕ) (q : Port) → are_ports (confs ps) ≡ true → place_of n (confs ps) ≡ Some i → q ≡ get_or ps i q → q.guest_open ≡ lets_guests n ps
guests_at n ps i q a e at = ap (λ (p : Port). p.guest_open) at ∙ sym (guests_by n ps i q (are_apart (confs ps) a) (by_recursion n ps (Some i) e))

no_guests_first : (n : ℕ) (p : Port) (ps : List Port) (b : Bool) (o : Option ℕ) → cond b (Some 0) (option_map (λ n. suc n) o) ≡ None → (o ≡ None → lets_guests n ps ≡ false) → b && p.guest_open || lets_guests n ps ≡ false
no_guests_first n p ps true o e f = cc
no_guests_first n p ps false None e f = f refl
no_guests_first n p ps false (Some j) e f = cc

no_guests_by : (n : ℕ) (ps : List Port) → place_by (λ c. c.port == n) (confs ps) ≡ None → lets_guests n ps ≡ false
no_guests_by n [] e = refl
no_guests_by n (p ∷ ps) e = no_guests_first n p ps (is_port n p) (place_by (λ c. c.port == n) (confs ps)) e (no_guests_by n ps)

pub no_guests_missing : (n : ℕ) (ps : List Port) → place_of n (confs ps) ≡ None → false ≡ lets_guests n ps
no_guests_missing n ps e = sym (no_guests_by n ps (by_recursion n ps None e))

-- a number past 60 has no port
past_all : (n : ℕ) (cs : List PortConf) → 61 ≤ n → list_all (λ p. within 1 60 p.port) cs ≡ true → place_by (λ c. c.port == n) cs ≡ None
past_all n [] past e = refl
past_all n (c ∷ cs) past e =
    let k = both (within 1 60 c.port) (list_all (λ p. within 1 60 p.port) cs) e in
    λ i. cond (differs c.port k.0 i) (Some 0) (option_map (λ n. suc n) (past_all n cs past k.1 i))
  where
    differs : (m : ℕ) → within 1 60 m ≡ true → (m == n) ≡ false
    differs m h = grind (arith, nat_tests)

pub no_place_past : (n : ℕ) (cs : List PortConf) → 61 ≤ n → are_ports cs ≡ true → None ≡ place_of n cs
no_place_past n cs past e = sym (place_is (λ c. c.port == n) cs ∙ past_all n cs past (both (list_all (λ p. within 1 60 p.port) cs) (ports_apart cs) e).0)

-- the port at the place of a number is the one of the number
pub this_one : (n : ℕ) (ps : List Port) (i : ℕ) (q : Port) → place_of n (confs ps) ≡ Some i → q ≡ get_or ps i q → find (is_port n) ps ≡ Some q
this_one n ps i q e at = (found_at n ps i q e).0 ∙ ap (λ (p : Port). Some p) (sym at)

pub number_at : (n : ℕ) (ps : List Port) (i : ℕ) (q : Port) → place_of n (confs ps) ≡ Some i → q ≡ get_or ps i q → q.conf.port ≡ n
number_at n ps i q e at = same_number q.conf.port n (ap (is_port n) at ∙ (found_at n ps i q e).1)

some_same : {p q : Port} → Some p ≡ Some q → p ≡ q
some_same e = cc

pub same_one : (n : ℕ) (ps : List Port) (i : ℕ) (p q : Port) → place_of n (confs ps) ≡ Some i → p ≡ get_or ps i p → find (is_port n) ps ≡ Some q → p ≡ q
same_one n ps i p q e at f = some_same (sym (this_one n ps i p e at) ∙ f)

in_range : (i l : ℕ) → i < l → false ≡ nat_lt i l → ⊥
in_range i l h e = grind (arith, nat_tests)

below_first : (n : ℕ) (c : PortConf) (cs : List PortConf) (i : ℕ) (b : Bool) (o : Option ℕ) → cond b (Some 0) (option_map (λ n. suc n) o) ≡ Some i → ((j : ℕ) → o ≡ Some j → j < length cs) → i < suc (length cs)
below_first n c cs i true o e f = let z : 0 ≡ i = cc in omega (arith, z)
below_first n c cs i false None e f = cc
below_first n c cs i false (Some j) e f = let z : suc j ≡ i = cc in omega (arith, z, f j refl)

below_by : (n : ℕ) (cs : List PortConf) (i : ℕ) → place_by (λ c. c.port == n) cs ≡ Some i → i < length cs
below_by n [] i e = cc
below_by n (c ∷ cs) i e = below_first n c cs i (c.port == n) (place_by (λ x. x.port == n) cs) e (λ j k. below_by n cs j k)

place_below : (n : ℕ) (ps : List Port) (i : ℕ) → place_of n (confs ps) ≡ Some i → i < length ps
place_below n ps i e = let l : i < length (confs ps) = below_by n (confs ps) i (by_recursion n ps (Some i) e) in simp length-map at l

-- what is shown at the place is the port of the number
pub got : (n : ℕ) (ps : List Port) (i : ℕ) (r : Option (Bor Port)) → place_of n (confs ps) ≡ Some i → is_some r ≡ nat_lt i (length ps) → IfSome r (λ x. x.now ≡ get_or ps i x.now) → shown r ≡ find (is_port n) ps
got n ps i None e s h = absurd (in_range i (length ps) (place_below n ps i e) s)
got n ps i (Some x) e s h = sym (this_one n ps i x.now e h)
