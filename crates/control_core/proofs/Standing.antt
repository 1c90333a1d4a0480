-- How the session at a place stands once it had its second.
use Rattle.std.proofs.Common.{◌≡◌, ℕ, zero, suc, refl, sym, ap, subst, List, [], ◌∷◌, map, filter, drop, Some, None, Bool, true, false, cond}
use Rattle.std.specs.Prelude.{◌==◌, ◌||◌, find, slice_get}
use Rattle.machine_vars.specs.declared.vars.Vars.{Vars}
use Rattle.settle_defs.specs.Settle.{settled}
use Rattle.aaa_defs.specs.Waits.{pending_of}
use Rattle.aaa_defs.specs.Age.{aged}
use Rattle.switch_defs.specs.Switch.{Host, Session, Standing, State, hosts, is_at, port_of, session_at}
use Rattle.switch_defs.specs.Session.{Another, is_other, rested, stands_as}
use Rattle.switch_defs.specs.Decide.{authorised, restricted_of, right_of}
use Rattle.switch_defs.specs.Turn.{age_request, second_by, second_of}
use Rattle.switch_defs.specs.Sound.{AreApart, In, here, there}
use Rattle.switch_defs.proofs.Lists.{first_dropped, key_same}
use Rattle.switch_defs.proofs.Resting.{closed_by, done_sessions}
use Rattle.turn_defs.specs.Parts.{is_gone}
use Rattle.turn_defs.specs.Walks.{Next, is_over, later}

-- ---- the n-th of a list

in_dropped : {A : Type 0} (n : ℕ) (xs : List A) {x : A} {zs : List A} → drop n xs ≡ x ∷ zs → In x xs
in_dropped zero xs {x = x} e = subst (λ (ys : List _). In x ys) (sym e) here
in_dropped (suc n) [] e = cc
in_dropped (suc n) (y ∷ xs) e = there (in_dropped n xs e)

got : {A : Type 0} (n : ℕ) (xs : List A) (x : A) (zs : List A) → drop n xs ≡ x ∷ zs → slice_get xs n ≡ Some x
got zero [] x zs e = cc
got (suc n) [] x zs e = cc
got zero (y ∷ xs) x zs e = cc
got (suc n) (y ∷ xs) x zs e = got n xs x zs e

got_at : {A : Type 0} (n : ℕ) (xs : List A) (x : A) → slice_get xs n ≡ Some x → drop n xs ≡ x ∷ drop (suc n) xs
got_at n [] x e = cc
got_at zero (y ∷ xs) x e = cc
got_at (suc n) (y ∷ xs) x e = got_at n xs x e

-- ---- the n-th session is closed, or stands otherwise

abbrev of : Host → Session → Bool
of h y = is_at h.port h.address y.host

-- sessions that are not of the host stay as they are
others_stand : (h : Host) (x : Standing) (zs : List Session) → find (is_at h.port h.address) (map (λ y. y.host) zs) ≡ None → map (stands_as h x) zs ≡ zs
others_stand h x [] e = refl
others_stand h x (z ∷ zs) e = by (of h z) refl e (others_stand h x zs)
  where
    by : (b : Bool) → of h z ≡ b → cond b (Some z.host) (find (is_at h.port h.address) (map (λ y. y.host) zs)) ≡ None →
        (find (is_at h.port h.address) (map (λ y. y.host) zs) ≡ None → map (stands_as h x) zs ≡ zs) → map (stands_as h x) (z ∷ zs) ≡ z ∷ zs
    by true k f rest = cc
    by false k f rest = rw k (ap (λ ys. z ∷ ys) (rest f))

stands_at : (n : ℕ) (x : Standing) (ys : List Session) (y : Session) (zs : List Session) → AreApart (map (λ z. z.host) ys) → drop n ys ≡ y ∷ zs → drop n (map (stands_as y.host x) ys) ≡ record y { standing = x } ∷ zs
stands_at zero x ys y zs a e = subst (λ (l : List Session). drop 0 (map (stands_as y.host x) l) ≡ record y { standing = x } ∷ zs) (sym e) (by (subst (λ (l : List Session). AreApart (map (λ z. z.host) l)) e a))
  where
    by : AreApart (map (λ z. z.host) (y ∷ zs)) → map (stands_as y.host x) (y ∷ zs) ≡ record y { standing = x } ∷ zs
    by a = rw (key_same y.host.port y.host.address) (ap (λ l. record y { standing = x } ∷ l) (others_stand y.host x zs a.0))
stands_at (suc n) x [] y zs a e = cc
stands_at (suc n) x (w ∷ ys) y zs a e = stands_at n x ys y zs a.1 e

-- ---- what a second does to the n-th session

-- how it is settled, where it does not end
abbrev pub settles : Session → State → Standing
settles y s = rested Another (later y s) (settled (later y s).vars).vars

-- the same session, a second later
abbrev pub renewed : Session → State → Session
renewed y s = record y { standing = settles y s }

-- the sessions after a second
sessions_by : (over : Bool) (n : ℕ) (y : Session) (zs : List Session) (s : State) → AreApart (hosts s) → drop n s.sessions ≡ y ∷ zs → over || is_gone (later y s) ≡ false →
    drop n (second_by over y s).state.sessions ≡ renewed y s ∷ zs
sessions_by true n y zs s a e k = cc
sessions_by false n y zs s a e k =
    let w : Vars = (settled (later y s).vars).vars in
    let u : State = age_request (aged (pending_of y.host.number s.waits)) y.host s in
    subst (λ (ys : List Session). drop n ys ≡ renewed y s ∷ zs) (sym (done_sessions Another y.host (settles y s) u w.aaa_abort w.aaa_eap_resp w.gone))
    (by w.gone k (stands_at n (settles y s) s.sessions y zs a e))
  where
    by : (g : Bool) {x : Standing} → g ≡ false → drop n (map (stands_as y.host x) s.sessions) ≡ record y { standing = x } ∷ zs →
        drop n (closed_by g y.host (map (stands_as y.host x) s.sessions)) ≡ record y { standing = x } ∷ zs
    by true f p = cc
    by false f p = p

pub stays_at : (n : ℕ) (y : Session) (zs : List Session) (s : State) → AreApart (hosts s) → drop n s.sessions ≡ y ∷ zs → is_over y s ≡ false → drop n (second_of y s).state.sessions ≡ renewed y s ∷ zs
stays_at n y zs s a e k = sessions_by (y.standing.end_while == 1) n y zs s a e k

-- its host has none any more, where it ends
none_left : (h : Host) (ys : List Session) → find (λ z. is_at h.port h.address z.host) (filter (is_other h) ys) ≡ None
none_left h ys = first_dropped (λ z. is_at h.port h.address z.host) (λ z. is_at h.port h.address z.host) ys (λ z e. e)

none_by : (over : Bool) (y : Session) (s : State) → over || is_gone (later y s) ≡ true → session_at y.host.port y.host.address (second_by over y s).state ≡ None
none_by true y s k = none_left y.host s.sessions
none_by false y s k =
    let w : Vars = (settled (later y s).vars).vars in
    let u : State = age_request (aged (pending_of y.host.number s.waits)) y.host s in
    subst (λ (ys : List Session). find (λ z. is_at y.host.port y.host.address z.host) ys ≡ None) (sym (done_sessions Another y.host (settles y s) u w.aaa_abort w.aaa_eap_resp w.gone)) (by w.gone (map (stands_as y.host (settles y s)) s.sessions) k)
  where
    by : (g : Bool) (ys : List Session) → g ≡ true → find (λ z. is_at y.host.port y.host.address z.host) (closed_by g y.host ys) ≡ None
    by true ys f = none_left y.host ys
    by false ys f = cc

-- ---- what is then at its place, and what its host is authorised for

pub goes_on : (n : ℕ) (y : Session) (s : State) → AreApart (hosts s) → Next y n s → is_over y s ≡ false → Next (renewed y s) n (second_of y s).state
goes_on n y s a next k =
    let e : drop n (second_of y s).state.sessions ≡ renewed y s ∷ drop (suc n) s.sessions = stays_at n y (drop (suc n) s.sessions) s a (got_at n s.sessions y next.at) k in
    record { at = got n (second_of y s).state.sessions (renewed y s) (drop (suc n) s.sessions) e; there = in_dropped n (second_of y s).state.sessions e }

pub unauthorised : (y : Session) (s : State) → is_over y s ≡ true → authorised (second_of y s).state y.host.port y.host.address ≡ None
unauthorised y s k = ap (right_of (restricted_of (port_of y.host.port (second_of y s).state))) (none_by (y.standing.end_while == 1) y s k)
