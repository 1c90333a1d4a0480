-- Entries and the sessions that they are of, one for one.
use Rattle.std.proofs.Common.{◌≡◌, ℕ, zero, suc, refl, sym, ap, ◌∙◌, List, [], ◌∷◌, ◌++◌, length, map, filter, Option, Some, None, Bool, true, false, cond, not}
use Rattle.std.specs.Prelude.{◌==◌, find, slice_get}
use Rattle.std.specs.List.{AllByRecursion}
use Rattle.machine_vars.specs.declared.control.Times.{Times}
use Rattle.session_table.specs.Slots.{Entry, is_at as is_in, is_for, is_on, renewed, with_value}
use Rattle.switch_defs.specs.Switch as switch
use Rattle.switch_defs.specs.Switch.{Host, Standing, is_at, on_port}
use Rattle.switch_defs.specs.Session.{stands_as, is_other}
use Rattle.switch_defs.specs.Sound.{In, here, there}
use Rattle.host_session.specs.declared.session.Session.{Session}
use Rattle.host_session.specs.Sits.{SitsAs}
use Rattle.host_sessions.specs.Holds.{IsOf, AreOf}

-- ---- how many

pub as_many : (t : Times) (es : List (Entry Session)) (ys : List switch.Session) → AreOf t es ys →
    length es ≡ length ys
as_many t [] [] a = refl
as_many t [] (y ∷ ys) a = absurd a
as_many t (e ∷ es) [] a = absurd a
as_many t (e ∷ es) (y ∷ ys) a = ap suc (as_many t es ys a.1)

-- ---- what two tests that agree find and keep

-- an entry and a session that are of each other, or neither
abbrev pub Both : Times → List (Entry Session) → List switch.Session → Option (Entry Session) →
    Option switch.Session → Type 0
Both t es ys None None = Unit {0}
Both t es ys None (Some y) = ⊥
Both t es ys (Some e) None = ⊥
Both t es ys (Some e) (Some y) = In e es × In y ys × IsOf t e y

later : (t : Times) (e : Entry Session) (y : switch.Session) (es : List (Entry Session))
    (ys : List switch.Session) (o : Option (Entry Session)) (p : Option switch.Session) →
    Both t es ys o p → Both t (e ∷ es) (y ∷ ys) o p
later t e y es ys None None b = tt
later t e y es ys None (Some z) b = absurd b
later t e y es ys (Some f) None b = absurd b
later t e y es ys (Some f) (Some z) b = (there b.0, there b.1, b.2)

abbrev pub Agree : Times → (Entry Session → Bool) → (switch.Session → Bool) → Type 0
Agree t f g = (e : Entry Session) (y : switch.Session) → IsOf t e y → f e ≡ g y

pub both_found : (t : Times) (f : Entry Session → Bool) (g : switch.Session → Bool) → Agree t f g →
    (es : List (Entry Session)) (ys : List switch.Session) → AreOf t es ys →
    Both t es ys (find f es) (find g ys)
both_found t f g agree [] [] a = tt
both_found t f g agree [] (y ∷ ys) a = absurd a
both_found t f g agree (e ∷ es) [] a = absurd a
both_found t f g agree (e ∷ es) (y ∷ ys) a =
    rw (sym (agree e y a.0)) (by (f e) (both_found t f g agree es ys a.1))
  where
    by : (b : Bool) → Both t es ys (find f es) (find g ys) →
        Both t (e ∷ es) (y ∷ ys) (cond b (Some e) (find f es)) (cond b (Some y) (find g ys))
    by true rest = (here, here, a.0)
    by false rest = later t e y es ys (find f es) (find g ys) rest

pub both_nth : (t : Times) (es : List (Entry Session)) (ys : List switch.Session) (n : ℕ) →
    AreOf t es ys → Both t es ys (slice_get es n) (slice_get ys n)
both_nth t [] [] n a = tt
both_nth t [] (y ∷ ys) n a = absurd a
both_nth t (e ∷ es) [] n a = absurd a
both_nth t (e ∷ es) (y ∷ ys) zero a = (here, here, a.0)
both_nth t (e ∷ es) (y ∷ ys) (suc n) a =
    later t e y es ys (slice_get es n) (slice_get ys n) (both_nth t es ys n a.1)

pub both_kept : (t : Times) (f : Entry Session → Bool) (g : switch.Session → Bool) → Agree t f g →
    (es : List (Entry Session)) (ys : List switch.Session) → AreOf t es ys →
    AreOf t (filter f es) (filter g ys)
both_kept t f g agree [] [] a = tt
both_kept t f g agree [] (y ∷ ys) a = absurd a
both_kept t f g agree (e ∷ es) [] a = absurd a
both_kept t f g agree (e ∷ es) (y ∷ ys) a =
    rw (sym (agree e y a.0)) (by (f e) (both_kept t f g agree es ys a.1))
  where
    by : (b : Bool) → AreOf t (filter f es) (filter g ys) →
        AreOf t (cond b (e ∷ filter f es) (filter f es)) (cond b (y ∷ filter g ys) (filter g ys))
    by true rest = (a.0, rest)
    by false rest = rest

-- ---- tests that agree

pub on_agree : (t : Times) (n : ℕ) → Agree t (is_on n) (on_port n)
on_agree t n e y is = ap (λ (p : ℕ). p == n) is.port

pub for_agree : (t : Times) (n : ℕ) (address : List ℕ) →
    Agree t (is_for n address) (λ y. is_at n address y.host)
for_agree t n address e y is = rw (is.port, is.address) refl

pub other_agree : (t : Times) (h : Host) →
    Agree t (λ e. not (is_for h.port h.address e)) (is_other h)
other_agree t h e y is = ap not (for_agree t h.port h.address e y is)

pub number_agree : (t : Times) (n : ℕ) →
    Agree t (λ e. e.value.number == n) (λ y. y.host.number == n)
number_agree t n e y is = ap (λ (m : ℕ). m == n) is.number

-- ---- one more

pub one_more : (t : Times) (es : List (Entry Session)) (ys : List switch.Session) (e : Entry Session)
    (y : switch.Session) → AreOf t es ys → IsOf t e y → AreOf t (es ++ e ∷ []) (ys ++ y ∷ [])
one_more t [] [] e y a is = (is, tt)
one_more t [] (z ∷ ys) e y a is = absurd a
one_more t (f ∷ es) [] e y a is = absurd a
one_more t (f ∷ es) (z ∷ ys) e y a is = (a.0, one_more t es ys e y a.1 is)

-- ---- another standing

-- in whose place a value goes
pub record Renews (h : Host) (at : ℕ) (w : Session) (e : Entry Session) : Type 0 where
  pub one : is_in at e ≡ is_for h.port h.address e
  pub number : is_in at e ≡ true → w.number ≡ e.value.number

pub renewed_is : (t : Times) (h : Host) (x : Standing) (at : ℕ) (w : Session) → SitsAs w x →
    x.vars.times ≡ t → (es : List (Entry Session)) (ys : List switch.Session) →
    AllByRecursion (Renews h at w) es → AreOf t es ys →
    AreOf t (renewed at w es) (map (stands_as h x) ys)
renewed_is t h x at w sits timed [] [] r a = tt
renewed_is t h x at w sits timed [] (y ∷ ys) r a = absurd a
renewed_is t h x at w sits timed (e ∷ es) [] r a = absurd a
renewed_is t h x at w sits timed (e ∷ es) (y ∷ ys) r a = (
  by (is_in at e) refl (sym (for_agree t h.port h.address e y a.0) ∙ sym r.0.one),
  renewed_is t h x at w sits timed es ys r.1 a.1,
)
  where
    by : (b : Bool) → is_in at e ≡ b → is_at h.port h.address y.host ≡ is_in at e →
        IsOf t (with_value at w e) (stands_as h x y)
    by true i same = rw (same, i) (record {
      number = r.0.number i ∙ a.0.number;
      port = a.0.port;
      address = a.0.address;
      sits = sits;
      timed = timed;
    })
    by false i same = rw (same, i) (record {
      number = a.0.number;
      port = a.0.port;
      address = a.0.address;
      sits = a.0.sits;
      timed = a.0.timed;
    })
