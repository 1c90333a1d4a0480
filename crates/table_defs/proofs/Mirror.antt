-- A table in step with a state.
use Rattle.std.proofs.Common.{◌≡◌, inl, inr, ℕ, zero, suc, ◌+◌, ◌≤◌, refl, sym, ap, subst, ◌∙◌, List, [], ◌∷◌, ◌++◌, length, map, filter, Option, None, Some, Bool, true, false, cond, not, arith}
use Rattle.std.specs.Prelude.{if◌then◌else◌, find, is_some, slice_get, ◌==◌, ◌&&◌, ◌||◌, nat_lt}
use Rattle.std.specs.List.{AllByRecursion}
use Rattle.std.specs.Option.{option_map}
use Rattle.std.specs.Str.{bytes_eq}
use Rattle.std.specs.Cmp.{unsigned_Decides}
use Rattle.std.proofs.lemmas.Bool.{lt-ltb, cases_eq}
use Rattle.std.proofs.lemmas.List.{length-append}
use Rattle.std.proofs.lemmas.Slice.Eq.{bytes_eq-Decides}
use Rattle.wire_defs.specs.Ethernet.{source}
use Rattle.switch_event.specs.declared.config.PortConf.{PortConf}
use Rattle.switch_defs.specs.Switch.{Host, Port, is_port, is_at, same_key, most_hosts}
use Rattle.switch_defs.specs.Decide.{Right, PortView, view, view_of, authorised, decide_by}
use Rattle.switch_defs.specs.Sound.{In, here, there, host_on, confs}
use Rattle.switch_defs.proofs.Lists.{both, of_both, first_dropped, first_kept, first_pushed, none_found, each_in, none_passes, in_kept}
use Rattle.table_defs.specs.Table.{Held, PortRow, Table, Item, Link, SetControl, Guest, Let, Bar, row_in, row_of, view_in, held_in, port_named, holds, is_apart, without, right_held, right_for, held_at, conf_allows, has_room, fits, fits_in, view_done, held_done, done, done_where_it_fits, at_place, absorbed, all_absorbed, can_absorb, MayAbsorb, conf_of, is_view, view_link, view_control, view_guest, view_absorbed, views_after, said, all_said, AreKeys, Rights, AreRoomy, StayRoomy, IsAllowed, allowed_by, IsKept, IsEnough}
use Rattle.table_defs.proofs.Few.{AreOf, key_on, few_held}

-- what a table in step decides
pub first_view : (port : ℕ) (ps : List Port) → find (is_view port) (map view ps) ≡ view_of (find (is_port port) ps)
first_view port [] = refl
first_view port (p ∷ ps) =
    elim (p.conf.port == port) as (λ b. cond b (Some (view p)) (find (is_view port) (map view ps)) ≡ view_of (cond b (Some p) (find (is_port port) ps))) [
      | true ↦ refl
      | false ↦ first_view port ps
    ]

pub enough : IsEnough
enough t s m port octets = λ i. decide_by octets (m.ports port i) (m.held port (source octets) i)

-- ---- the row of a port after an item

row_changed : (f : PortRow → PortRow) (n : ℕ) (rows : List (Option PortRow)) → row_in (slice_get (at_place n (option_map f) rows) n) ≡ option_map f (row_in (slice_get rows n))
row_changed f n [] = refl
row_changed f zero (row ∷ rows) = refl
row_changed f (suc n) (row ∷ rows) = row_changed f n rows

row_same : (f : PortRow → PortRow) (m n : ℕ) (rows : List (Option PortRow)) → (m ≡ n → ⊥) → row_in (slice_get (at_place m (option_map f) rows) n) ≡ row_in (slice_get rows n)
row_same f m n [] differ = refl
row_same f zero zero (row ∷ rows) differ = absurd (differ refl)
row_same f zero (suc n) (row ∷ rows) differ = refl
row_same f (suc m) zero (row ∷ rows) differ = refl
row_same f (suc m) (suc n) (row ∷ rows) differ = row_same f m n rows (λ e. differ (ap suc e))

-- ---- views

-- a change of the views of one port, seen at a port
view_here : (f g : PortView → PortView) (n : ℕ) → ((v : PortView) → is_view n (f v) ≡ is_view n v) → ((v : PortView) → is_view n v ≡ true → f v ≡ g v) → (vs : List PortView) →
    find (is_view n) (map f vs) ≡ option_map g (find (is_view n) vs)
view_here f g n e h [] = refl
view_here f g n e h (v ∷ vs) = ap (λ (b : Bool). cond b (Some (f v)) (find (is_view n) (map f vs))) (e v) ∙ by (is_view n v) refl (view_here f g n e h vs)
  where
    by : (b : Bool) → is_view n v ≡ b → find (is_view n) (map f vs) ≡ option_map g (find (is_view n) vs) → cond b (Some (f v)) (find (is_view n) (map f vs)) ≡ option_map g (cond b (Some v) (find (is_view n) vs))
    by true k rest = ap Some (h v k)
    by false k rest = rest

same_some : (o : Option PortView) → option_map (λ v. v) o ≡ o
same_some None = refl
same_some (Some v) = refl

view_elsewhere : (f : PortView → PortView) (n : ℕ) → ((v : PortView) → is_view n (f v) ≡ is_view n v) → ((v : PortView) → is_view n v ≡ true → f v ≡ v) → (vs : List PortView) → find (is_view n) (map f vs) ≡ find (is_view n) vs
view_elsewhere f n e h vs = view_here f (λ v. v) n e h vs ∙ same_some (find (is_view n) vs)

-- a port is one only
not_view : (m n : ℕ) (v : PortView) → (m ≡ n → ⊥) → is_view n v ≡ true → is_view m v ≡ false
not_view m n v differ k = by (is_view m v) refl
  where
    by : (b : Bool) → is_view m v ≡ b → is_view m v ≡ false
    by false e = e
    by true e = absurd (differ (sym ((unsigned_Decides v.conf.port m).0 e) ∙ (unsigned_Decides v.conf.port n).0 k))

view_at_item : (i : Item) (vs : List PortView) → find (is_view (port_named i)) (view_absorbed vs i) ≡ option_map (view_done i) (find (is_view (port_named i)) vs)
view_at_item (Link n up) vs = view_here (view_link n up) (view_done (Link n up)) n (λ v. refl) (λ v k. rw k refl) vs
view_at_item (SetControl n c) vs = view_here (view_control n c) (view_done (SetControl n c)) n (λ v. refl) (λ v k. rw k refl) vs
view_at_item (Guest n on) vs = view_here (view_guest n on) (view_done (Guest n on)) n (λ v. refl) (λ v k. rw k refl) vs
view_at_item (Let n a r) vs = sym (same_some (find (is_view n) vs))
view_at_item (Bar n a) vs = sym (same_some (find (is_view n) vs))

view_off_item : (i : Item) (n : ℕ) (vs : List PortView) → (port_named i ≡ n → ⊥) → find (is_view n) (view_absorbed vs i) ≡ find (is_view n) vs
view_off_item (Link m up) n vs d = view_elsewhere (view_link m up) n (λ v. refl) (λ v k. rw (not_view m n v d k) refl) vs
view_off_item (SetControl m c) n vs d = view_elsewhere (view_control m c) n (λ v. refl) (λ v k. rw (not_view m n v d k) refl) vs
view_off_item (Guest m on) n vs d = view_elsewhere (view_guest m on) n (λ v. refl) (λ v k. rw (not_view m n v d k) refl) vs
view_off_item (Let m a r) n vs d = refl
view_off_item (Bar m a) n vs d = refl

-- ---- what is held

same_address : (a b : List ℕ) → bytes_eq a b ≡ true → a ≡ b
same_address a b e = (bytes_eq-Decides a b).0 e

dropped_none : (a b : List ℕ) (es : List Held) → bytes_eq a b ≡ true → find (holds b) (without a es) ≡ None
dropped_none a b es e = first_dropped (holds b) (holds a) es (λ x h. subst (λ (y : List ℕ). bytes_eq x.address y ≡ true) (sym (same_address a b e)) h)

others_kept : (a b : List ℕ) (es : List Held) → bytes_eq a b ≡ false → find (holds b) (without a es) ≡ find (holds b) es
others_kept a b es e = first_kept (holds b) (holds a) es (λ x h. apart (bytes_eq x.address a) x h refl)
  where
    apart : (c : Bool) (x : Held) → holds b x ≡ true → holds a x ≡ c → holds a x ≡ false
    apart false x h k = k
    apart true x h k = of_both e ((bytes_eq-Decides a b).1 (sym (same_address x.address a k) ∙ same_address x.address b h))

-- one is added at the end, where it is the first
pushed_first : (f : Held → Bool) (es : List Held) (x : Held) → find f es ≡ None → f x ≡ true → find f (es ++ x ∷ []) ≡ Some x
pushed_first f [] x n h = rw h refl
pushed_first f (e ∷ es) x n h = by (f e) refl n (λ m. pushed_first f es x m h)
  where
    by : (b : Bool) → f e ≡ b → cond b (Some e) (find f es) ≡ None → (find f es ≡ None → find f (es ++ x ∷ []) ≡ Some x) → cond (f e) (Some e) (find f (es ++ x ∷ [])) ≡ Some x
    by true k m rest = cc
    by false k m rest = rw k (rest m)

let_here : (a b : List ℕ) (r : Right) (es : List Held) (c : Bool) → bytes_eq a b ≡ c →
    right_for b (without a es ++ record { address = a; right = r } ∷ []) ≡ (if c then Some r else right_for b es)
let_here a b r es true e = ap right_held (pushed_first (holds b) (without a es) (record { address = a; right = r }) (dropped_none a b es e) e)
let_here a b r es false e = ap right_held (first_pushed (holds b) (without a es) (record { address = a; right = r }) e ∙ others_kept a b es e)

bar_here : (a b : List ℕ) (es : List Held) (c : Bool) → bytes_eq a b ≡ c → right_for b (without a es) ≡ (if c then None else right_for b es)
bar_here a b es true e = ap right_held (dropped_none a b es e)
bar_here a b es false e = ap right_held (others_kept a b es e)

held_at_item : (i : Item) (b : List ℕ) (es : List Held) → right_for b (held_done i es) ≡ said (port_named i) b i (right_for b es)
held_at_item (Link n up) b es = refl
held_at_item (SetControl n c) b es = refl
held_at_item (Guest n on) b es = refl
held_at_item (Let n a r) b es = let_here a b r es (bytes_eq a b) refl ∙ ap (λ (c : Bool). if c then Some r else right_for b es) (sym (key_on n a b))
held_at_item (Bar n a) b es = bar_here a b es (bytes_eq a b) refl ∙ ap (λ (c : Bool). if c then None else right_for b es) (sym (key_on n a b))

other_port : (m n : ℕ) (a b : List ℕ) → (m ≡ n → ⊥) → same_key m a n b ≡ false
other_port m n a b d = by (same_key m a n b) refl
  where
    by : (c : Bool) → same_key m a n b ≡ c → same_key m a n b ≡ false
    by false e = e
    by true e = absurd (d ((unsigned_Decides m n).0 (both (m == n) (bytes_eq a b) e).0))

said_elsewhere : (i : Item) (n : ℕ) (b : List ℕ) (o : Option Right) → (port_named i ≡ n → ⊥) → said n b i o ≡ o
said_elsewhere (Link m up) n b o d = refl
said_elsewhere (SetControl m c) n b o d = refl
said_elsewhere (Guest m on) n b o d = refl
said_elsewhere (Let m a r) n b o d = rw (other_port m n a b d) refl
said_elsewhere (Bar m a) n b o d = rw (other_port m n a b d) refl

-- ---- keys stay apart

none_left : (f keep : Held → Bool) (es : List Held) → find f es ≡ None → find f (filter keep es) ≡ None
none_left f keep es e = none_found f (filter keep es) (each_in _ (filter keep es) (λ x i. none_passes f e (in_kept keep es i).0))

keys_filter : (keep : Held → Bool) (es : List Held) → AreKeys es → AreKeys (filter keep es)
keys_filter keep [] a = tt
keys_filter keep (e ∷ es) a = elim (keep e) as (λ b. AreKeys (cond b (e ∷ filter keep es) (filter keep es))) [
  | true ↦ (none_left (holds e.address) keep es a.0, keys_filter keep es a.1)
  | false ↦ keys_filter keep es a.1
]

flip : (a b : List ℕ) → bytes_eq a b ≡ false → bytes_eq b a ≡ false
flip a b e = by (bytes_eq b a) refl
  where
    by : (c : Bool) → bytes_eq b a ≡ c → bytes_eq b a ≡ false
    by false k = k
    by true k = of_both e ((bytes_eq-Decides a b).1 (sym (same_address b a k)))

keys_push : (es : List Held) (x : Held) → AreKeys es → find (holds x.address) es ≡ None → AreKeys (es ++ x ∷ [])
keys_push [] x a n = (refl, tt)
keys_push (e ∷ es) x a n = by (holds x.address e) refl n (λ m. keys_push es x a.1 m)
  where
    by : (b : Bool) → holds x.address e ≡ b → cond b (Some e) (find (holds x.address) es) ≡ None → (find (holds x.address) es ≡ None → AreKeys (es ++ x ∷ [])) → AreKeys (e ∷ es ++ x ∷ [])
    by true k m rest = cc
    by false k m rest = (first_pushed (holds e.address) es x (flip e.address x.address k) ∙ a.0, rest m)

keys_done : (i : Item) (es : List Held) → AreKeys es → AreKeys (held_done i es)
keys_done (Link n up) es a = a
keys_done (SetControl n c) es a = a
keys_done (Guest n on) es a = a
keys_done (Bar n x) es a = keys_filter (is_apart x) es a
keys_done (Let n x r) es a = keys_push (without x es) (record { address = x; right = r }) (keys_filter (is_apart x) es a) (dropped_none x x es ((bytes_eq-Decides x x).1 refl))

-- ---- no port gets too many

-- what is held is found
held_some : (es : List Held) (e : Held) → In e es → (r : Right) × (right_for e.address es ≡ Some r)
held_some es e i = by (find (holds e.address) es) refl
  where
    by : (o : Option Held) → find (holds e.address) es ≡ o → (r : Right) × (right_held o ≡ Some r)
    by (Some x) f = (x.right, refl)
    by None f = let no : true ≡ false = sym ((bytes_eq-Decides e.address e.address).1 refl) ∙ none_passes (holds e.address) f i in cc

of_hosts : (p : ℕ) (ds es : List Held) (hs : List Host) → ((e : Held) → In e ds → In e es) → ((address : List ℕ) (r : Right) → right_for address es ≡ Some r → find (is_at p address) hs ≡ None → ⊥) → AreOf p ds hs
of_hosts p [] es hs f g = tt
of_hosts p (e ∷ ds) es hs f g = (let k = held_some es e (f e here) in g e.address k.0 k.1, of_hosts p ds es hs (λ x i. f x (there i)) g)

few_roomy : (p : ℕ) (es : List Held) (f : Rights) → AreKeys es → ((address : List ℕ) → right_for address es ≡ f p address) → AreRoomy f → length es ≤ most_hosts
few_roomy p es f a e r =
    let o : AreOf p es r.0 = of_hosts p es es r.0 (λ x i. i) (λ x right h. r.2 p x right (sym (e x) ∙ h)) in
    let l : length es ≤ length (filter (host_on p) r.0) = few_held p es r.0 a o in
    let m : length (filter (host_on p) r.0) ≤ most_hosts = r.1 p in
    omega arith

none_held : (a : List ℕ) (es : List Held) → find (holds a) es ≡ None → without a es ≡ es
none_held a [] n = refl
none_held a (e ∷ es) n = by (holds a e) refl n (none_held a es)
  where
    by : (b : Bool) → holds a e ≡ b → cond b (Some e) (find (holds a) es) ≡ None → (find (holds a) es ≡ None → without a es ≡ es) → cond (not (holds a e)) (e ∷ without a es) (without a es) ≡ e ∷ es
    by true k m rest = cc
    by false k m rest = rw k (ap (λ xs. e ∷ xs) (rest m))

room_by : (a : List ℕ) (r : Right) (es : List Held) (o : Option Held) → find (holds a) es ≡ o → length (without a es ++ record { address = a; right = r } ∷ []) ≤ most_hosts → (is_some (right_held o) || nat_lt (length es) most_hosts) ≡ true
room_by a r es (Some x) e few = refl
room_by a r es None e few =
    let same = ap (λ (xs : List Held). length (xs ++ record { address = a; right = r } ∷ [])) (none_held a es e) in
    let long : length (es ++ record { address = a; right = r } ∷ []) ≡ length es + 1 = length-append es (record { address = a; right = r } ∷ []) in
    lt-ltb (length es) most_hosts (omega (arith, same, long, few))

room_done : (i : Item) (es : List Held) → length (held_done i es) ≤ most_hosts → has_room i es ≡ true
room_done (Link n up) es few = refl
room_done (SetControl n c) es few = refl
room_done (Guest n on) es few = refl
room_done (Bar n a) es few = refl
room_done (Let n a r) es few = room_by a r es (find (holds a) es) refl few

-- ---- one item

-- a table shows these views and these rights
record Shows (t : Table) (vs : List PortView) (f : Rights) : Type 0 where
  ports : (n : ℕ) → view_in (row_of n t) ≡ find (is_view n) vs
  held : (port : ℕ) (address : List ℕ) → held_at t port address ≡ f port address
  keys : (port : ℕ) → AreKeys (held_in (row_of port t))

abbrev conf_in : Option PortView → Option PortConf
conf_in None = None
conf_in (Some v) = Some v.conf

abbrev confs_of : List PortView → List PortConf
confs_of vs = map (λ v. v.conf) vs

conf_seen : (n : ℕ) (vs : List PortView) → conf_of n (confs_of vs) ≡ conf_in (find (is_view n) vs)
conf_seen n [] = refl
conf_seen n (v ∷ vs) = elim (v.conf.port == n) as (λ b. cond b (Some v.conf) (conf_of n (confs_of vs)) ≡ conf_in (cond b (Some v) (find (is_view n) vs))) [
  | true ↦ refl
  | false ↦ conf_seen n vs
]

confs_map : (f : PortView → PortView) → ((v : PortView) → (f v).conf ≡ v.conf) → (vs : List PortView) → confs_of (map f vs) ≡ confs_of vs
confs_map f e [] = refl
confs_map f e (v ∷ vs) = λ i. e v i ∷ confs_map f e vs i

confs_after : (i : Item) (vs : List PortView) → confs_of (view_absorbed vs i) ≡ confs_of vs
confs_after (Link n up) vs = confs_map (view_link n up) (λ v. refl) vs
confs_after (SetControl n c) vs = confs_map (view_control n c) (λ v. refl) vs
confs_after (Guest n on) vs = confs_map (view_guest n on) (λ v. refl) vs
confs_after (Let n a r) vs = refl
confs_after (Bar n a) vs = refl

-- an item that may be absorbed, with the row that it changes
row_there : (i : Item) (o : Option PortRow) → allowed_by i (conf_in (view_in o)) ≡ true → (r : PortRow) × (o ≡ Some r) × (conf_allows i r.view.conf ≡ true)
row_there i None e = cc
row_there i (Some r) e = (r, refl, e)

and_true : (a b : Bool) → a ≡ true → b ≡ true → a && b ≡ true
and_true true true e f = refl
and_true false b e f = cc
and_true true false e f = cc

step : (i : Item) (t : Table) (vs : List PortView) (f : Rights) → Shows t vs f → IsAllowed (confs_of vs) i → AreRoomy (λ port address. said port address i (f port address)) →
    (can_absorb t i ≡ true) × Shows (absorbed t i) (view_absorbed vs i) (λ port address. said port address i (f port address))
step i t vs f s allowed roomy =
    let p : ℕ = port_named i in
    let g : Rights = λ port address. said port address i (f port address) in
    let conf : conf_of p (confs_of vs) ≡ conf_in (view_in (row_of p t)) = conf_seen p vs ∙ ap conf_in (sym (s.ports p)) in
    let k = row_there i (row_of p t) (subst (λ (o : Option PortConf). allowed_by i o ≡ true) conf allowed) in
    let r : PortRow = k.0 in
    let keys : AreKeys r.held = subst (λ (o : Option PortRow). AreKeys (held_in o)) k.1 (s.keys p) in
    let rights : (address : List ℕ) → right_for address (held_done i r.held) ≡ g p address =
    λ address. held_at_item i address r.held ∙ ap (said p address i) (ap (λ (o : Option PortRow). right_for address (held_in o)) (sym k.1) ∙ s.held p address) in
    let few : length (held_done i r.held) ≤ most_hosts = few_roomy p (held_done i r.held) g (keys_done i r.held keys) rights roomy in
    let fit : fits i r ≡ true = and_true (conf_allows i r.view.conf) (has_room i r.held) k.2 (room_done i r.held few) in
    let now : row_of p (absorbed t i) ≡ Some (done i r) =
    row_changed (done_where_it_fits i) p t.rows ∙ ap (option_map (done_where_it_fits i)) k.1 ∙ ap (λ (b : Bool). Some (if b then done i r else r)) fit in
    let off : (n : ℕ) → (p ≡ n → ⊥) → row_of n (absorbed t i) ≡ row_of n t = λ n d. row_same (done_where_it_fits i) p n t.rows d in (
      ap (fits_in i) k.1 ∙ fit,
      record {
        ports = λ n. at p n (λ m. view_in (row_of m (absorbed t i)) ≡ find (is_view m) (view_absorbed vs i))
            (ap view_in now ∙ ap (option_map (view_done i)) (ap view_in (sym k.1) ∙ s.ports p) ∙ sym (view_at_item i vs))
            (λ d. ap view_in (off n d) ∙ s.ports n ∙ sym (view_off_item i n vs d));
        held = λ n address. at p n (λ m. held_at (absorbed t i) m address ≡ g m address)
            (ap (λ (o : Option PortRow). right_for address (held_in o)) now ∙ rights address)
            (λ d. ap (λ (o : Option PortRow). right_for address (held_in o)) (off n d) ∙ s.held n address ∙ sym (said_elsewhere i n address (f n address) d));
        keys = λ n. at p n (λ m. AreKeys (held_in (row_of m (absorbed t i))))
            (subst (λ (o : Option PortRow). AreKeys (held_in o)) (sym now) (keys_done i r.held keys))
            (λ d. subst (λ (o : Option PortRow). AreKeys (held_in o)) (sym (off n d)) (s.keys n));
      },
    )
  where
    at : (p n : ℕ) (P : ℕ → Type 0) → P p → ((p ≡ n → ⊥) → P n) → P n
    at p n P a b = elim (cases_eq p n) [
      | inl same ↦ subst P same a
      | inr other ↦ b other
    ]

steps : (is : List Item) (t : Table) (vs : List PortView) (f : Rights) → Shows t vs f → AllByRecursion (IsAllowed (confs_of vs)) is → StayRoomy f is →
    MayAbsorb t is × Shows (all_absorbed t is) (views_after vs is) (λ port address. all_said port address is (f port address))
steps [] t vs f s allowed roomy = (tt, s)
steps (i ∷ is) t vs f s allowed roomy =
    let one = step i t vs f s allowed.0 roomy.0 in
    let rest = steps is (absorbed t i) (view_absorbed vs i) (λ port address. said port address i (f port address)) one.1
    (subst (λ (cs : List PortConf). AllByRecursion (IsAllowed cs) is) (sym (confs_after i vs)) allowed.1) roomy.1 in
    ((one.0, rest.0), rest.1)

views_confs : (ps : List Port) → confs_of (map view ps) ≡ confs ps
views_confs [] = refl
views_confs (p ∷ ps) = ap (λ (cs : List PortConf). p.conf ∷ cs) (views_confs ps)

pub kept : IsKept
kept t s new is m l =
    let shows : Shows t (map view s.ports) (authorised s) = record { ports = λ n. m.ports n ∙ sym (first_view n s.ports); held = m.held; keys = m.keys } in
    let k = steps is t (map view s.ports) (authorised s) shows (subst (λ (cs : List PortConf). AllByRecursion (IsAllowed cs) is) (sym (views_confs s.ports)) l.allowed) l.room in (
      k.0,
      record {
        ports = λ n. k.1.ports n ∙ ap (λ (vs : List PortView). find (is_view n) vs) l.leads.ports ∙ first_view n new.ports;
        held = λ port address. k.1.held port address ∙ l.leads.rights port address;
        keys = k.1.keys;
      },
    )
