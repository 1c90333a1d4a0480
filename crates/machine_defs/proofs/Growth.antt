-- What each row does to the counters, and what no row changes.
use Rattle.std.proofs.Common.{◌≡◌, ℕ, ◌+◌, ◌≤◌, Bool, true, false, refl, subst, sym, List, [], ◌∷◌, ◌++◌, Option, Some, None, arith}
use Rattle.arrayvec.specs.ArrayVec.{ArrayVec}
use Rattle.machine_vars.specs.declared.vars.Vars.{Vars}
use Rattle.machine_vars.specs.declared.control.Times.{Times}
use Rattle.machine_vars.specs.declared.control.Control.{Control}
use Rattle.machine_vars.specs.declared.states.Row.{Row}
use Rattle.machine_defs.specs.Table.{Line, first_enabled, TakesFirst, is_enabled}
use Rattle.machine_defs.specs.PaeTable.{pae_table}
use Rattle.machine_defs.specs.BackendTable.{backend_table}
use Rattle.machine_defs.specs.ReauthTable.{reauth_table}
use Rattle.machine_defs.specs.EapTable.{eap_table}
use Rattle.machine_defs.specs.Settling.{all_rows}

-- what no row changes: whose the variables are, their times, and what the server sent last
pub record Own : Type 0 where
  pub port : ℕ
  pub own : List ℕ
  pub peer : List ℕ
  pub times : Times
  pub control : Control
  pub packet : ArrayVec ℕ

abbrev pub own_of : Vars → Own
own_of v = record { port = v.port; own = v.own; peer = v.peer; times = v.times; control = v.port_control; packet = v.aaa_eap_req_data }

-- each counter rises by at most one, no answer of the server comes, and nothing is wanted of it again
pub record Grows (l : Line) : Type 0 where
  pub same : (v : Vars) → own_of (l.after v) ≡ own_of v
  pub tries : (v : Vars) → (l.after v).re_auth_count ≤ v.re_auth_count + 1
  pub again : (v : Vars) → (l.after v).retrans_count ≤ v.retrans_count + 1
  pub asked : (v : Vars) → (l.after v).aaa_eap_req ≡ true → v.aaa_eap_req ≡ true
  pub abort : (v : Vars) → v.aaa_abort ≡ true → (l.after v).aaa_abort ≡ true

abbrev pub Each : (Line → Type 0) → List Line → Type 0
Each Q [] = Unit {0}
Each Q (l ∷ ls) = (Q l) × Each Q ls

pub each_append : (Q : Line → Type 0) (xs ys : List Line) → Each Q xs → Each Q ys → Each Q (xs ++ ys)
each_append Q [] ys p q = q
each_append Q (x ∷ xs) ys p q = (p.0, each_append Q xs ys p.1 q)

-- the four tables one after another
pub each_of_all : (Q : Line → Type 0) → Each Q pae_table → Each Q backend_table → Each Q reauth_table → Each Q eap_table → Each Q all_rows
each_of_all Q p b a e =
    each_append Q (pae_table ++ backend_table ++ reauth_table) eap_table
    (each_append Q (pae_table ++ backend_table) reauth_table (each_append Q pae_table backend_table p b) a) e

pae_grows : Each Grows pae_table
pae_grows = (
  record { same = λ v. refl; tries = λ v. omega arith; again = λ v. omega arith; asked = λ v h. h; abort = λ v h. h },
  (
    record { same = λ v. refl; tries = λ v. omega arith; again = λ v. omega arith; asked = λ v h. h; abort = λ v h. h },
    (
      record { same = λ v. refl; tries = λ v. omega arith; again = λ v. omega arith; asked = λ v h. h; abort = λ v h. h },
      (
        record { same = λ v. refl; tries = λ v. omega arith; again = λ v. omega arith; asked = λ v h. h; abort = λ v h. h },
        (
          record { same = λ v. refl; tries = λ v. omega arith; again = λ v. omega arith; asked = λ v h. h; abort = λ v h. h },
          (
            record { same = λ v. refl; tries = λ v. omega arith; again = λ v. omega arith; asked = λ v h. h; abort = λ v h. h },
            (
              record { same = λ v. refl; tries = λ v. omega arith; again = λ v. omega arith; asked = λ v h. h; abort = λ v h. h },
              (
                record { same = λ v. refl; tries = λ v. omega arith; again = λ v. omega arith; asked = λ v h. h; abort = λ v h. h },
                (
                  record { same = λ v. refl; tries = λ v. omega arith; again = λ v. omega arith; asked = λ v h. h; abort = λ v h. h },
                  (
                    record { same = λ v. refl; tries = λ v. omega arith; again = λ v. omega arith; asked = λ v h. h; abort = λ v h. h },
                    (
                      record { same = λ v. refl; tries = λ v. omega arith; again = λ v. omega arith; asked = λ v h. h; abort = λ v h. h },
                      (
                        record { same = λ v. refl; tries = λ v. omega arith; again = λ v. omega arith; asked = λ v h. h; abort = λ v h. h },
                        (
                          record { same = λ v. refl; tries = λ v. omega arith; again = λ v. omega arith; asked = λ v h. h; abort = λ v h. h },
                          (
                            record { same = λ v. refl; tries = λ v. omega arith; again = λ v. omega arith; asked = λ v h. h; abort = λ v h. h },
                            (
                              record { same = λ v. refl; tries = λ v. omega arith; again = λ v. omega arith; asked = λ v h. h; abort = λ v h. h },
                              (
                                record { same = λ v. refl; tries = λ v. omega arith; again = λ v. omega arith; asked = λ v h. h; abort = λ v h. h },
                                (
                                  record { same = λ v. refl; tries = λ v. omega arith; again = λ v. omega arith; asked = λ v h. h; abort = λ v h. h },
                                  (
                                    record { same = λ v. refl; tries = λ v. omega arith; again = λ v. omega arith; asked = λ v h. h; abort = λ v h. h },
                                    tt,
                                  ),
                                ),
                              ),
                            ),
                          ),
                        ),
                      ),
                    ),
                  ),
                ),
              ),
            ),
          ),
        ),
      ),
    ),
  ),
)

backend_grows : Each Grows backend_table
backend_grows = (
  record { same = λ v. refl; tries = λ v. omega arith; again = λ v. omega arith; asked = λ v h. h; abort = λ v h. refl },
  (
    record { same = λ v. refl; tries = λ v. omega arith; again = λ v. omega arith; asked = λ v h. h; abort = λ v h. h },
    (
      record { same = λ v. refl; tries = λ v. omega arith; again = λ v. omega arith; asked = λ v h. h; abort = λ v h. h },
      (
        record { same = λ v. refl; tries = λ v. omega arith; again = λ v. omega arith; asked = λ v h. h; abort = λ v h. h },
        (
          record { same = λ v. refl; tries = λ v. omega arith; again = λ v. omega arith; asked = λ v h. h; abort = λ v h. h },
          (
            record { same = λ v. refl; tries = λ v. omega arith; again = λ v. omega arith; asked = λ v h. h; abort = λ v h. h },
            (
              record { same = λ v. refl; tries = λ v. omega arith; again = λ v. omega arith; asked = λ v h. h; abort = λ v h. h },
              (
                record { same = λ v. refl; tries = λ v. omega arith; again = λ v. omega arith; asked = λ v h. h; abort = λ v h. h },
                (
                  record { same = λ v. refl; tries = λ v. omega arith; again = λ v. omega arith; asked = λ v h. h; abort = λ v h. h },
                  (
                    record { same = λ v. refl; tries = λ v. omega arith; again = λ v. omega arith; asked = λ v h. h; abort = λ v h. h },
                    (
                      record { same = λ v. refl; tries = λ v. omega arith; again = λ v. omega arith; asked = λ v h. h; abort = λ v h. h },
                      (
                        record { same = λ v. refl; tries = λ v. omega arith; again = λ v. omega arith; asked = λ v h. h; abort = λ v h. h },
                        (
                          record { same = λ v. refl; tries = λ v. omega arith; again = λ v. omega arith; asked = λ v h. h; abort = λ v h. h },
                          (
                            record { same = λ v. refl; tries = λ v. omega arith; again = λ v. omega arith; asked = λ v h. h; abort = λ v h. h },
                            tt,
                          ),
                        ),
                      ),
                    ),
                  ),
                ),
              ),
            ),
          ),
        ),
      ),
    ),
  ),
)

reauth_grows : Each Grows reauth_table
reauth_grows = (
  record { same = λ v. refl; tries = λ v. omega arith; again = λ v. omega arith; asked = λ v h. h; abort = λ v h. h },
  (
    record { same = λ v. refl; tries = λ v. omega arith; again = λ v. omega arith; asked = λ v h. h; abort = λ v h. h },
    (
      record { same = λ v. refl; tries = λ v. omega arith; again = λ v. omega arith; asked = λ v h. h; abort = λ v h. h },
      tt,
    ),
  ),
)

eap_grows : Each Grows eap_table
eap_grows = (
  record { same = λ v. refl; tries = λ v. omega arith; again = λ v. omega arith; asked = λ v h. h; abort = λ v h. h },
  (
    record { same = λ v. refl; tries = λ v. omega arith; again = λ v. omega arith; asked = λ v h. h; abort = λ v h. h },
    (
      record { same = λ v. refl; tries = λ v. omega arith; again = λ v. omega arith; asked = λ v h. h; abort = λ v h. h },
      (
        record { same = λ v. refl; tries = λ v. omega arith; again = λ v. omega arith; asked = λ v h. h; abort = λ v h. h },
        (
          record { same = λ v. refl; tries = λ v. omega arith; again = λ v. omega arith; asked = λ v h. h; abort = λ v h. h },
          (
            record { same = λ v. refl; tries = λ v. omega arith; again = λ v. omega arith; asked = λ v h. h; abort = λ v h. h },
            (
              record { same = λ v. refl; tries = λ v. omega arith; again = λ v. omega arith; asked = λ v h. h; abort = λ v h. h },
              (
                record { same = λ v. refl; tries = λ v. omega arith; again = λ v. omega arith; asked = λ v h. h; abort = λ v h. h },
                (
                  record { same = λ v. refl; tries = λ v. omega arith; again = λ v. omega arith; asked = λ v h. h; abort = λ v h. h },
                  (
                    record { same = λ v. refl; tries = λ v. omega arith; again = λ v. omega arith; asked = λ v h. cc; abort = λ v h. h },
                    (
                      record { same = λ v. refl; tries = λ v. omega arith; again = λ v. omega arith; asked = λ v h. h; abort = λ v h. h },
                      (
                        record { same = λ v. refl; tries = λ v. omega arith; again = λ v. omega arith; asked = λ v h. h; abort = λ v h. h },
                        (
                          record { same = λ v. refl; tries = λ v. omega arith; again = λ v. omega arith; asked = λ v h. h; abort = λ v h. h },
                          (
                            record { same = λ v. refl; tries = λ v. omega arith; again = λ v. omega arith; asked = λ v h. h; abort = λ v h. h },
                            (
                              record { same = λ v. refl; tries = λ v. omega arith; again = λ v. omega arith; asked = λ v h. h; abort = λ v h. h },
                              (
                                record { same = λ v. refl; tries = λ v. omega arith; again = λ v. omega arith; asked = λ v h. h; abort = λ v h. h },
                                (
                                  record { same = λ v. refl; tries = λ v. omega arith; again = λ v. omega arith; asked = λ v h. h; abort = λ v h. h },
                                  tt,
                                ),
                              ),
                            ),
                          ),
                        ),
                      ),
                    ),
                  ),
                ),
              ),
            ),
          ),
        ),
      ),
    ),
  ),
)

pub all_grow : Each Grows all_rows
all_grow = each_of_all Grows pae_grows backend_grows reauth_grows eap_grows

some_same : {x y : Line} → Some x ≡ Some y → x ≡ y
some_same h = cc

-- what holds of each row of a table holds of the first that is enabled
pub each_first : (Q : Line → Type 0) (ls : List Line) (v : Vars) (l : Line) → Each Q ls → first_enabled ls v ≡ Some l → Q l
each_first Q [] v l q h = cc
each_first Q (x ∷ ls) v l q h = by_test (is_enabled x v) refl (λ e. each_first Q ls v l q.1 e)
  where
    by_test : (b : Bool) → is_enabled x v ≡ b → (first_enabled ls v ≡ Some l → Q l) → Q l
    by_test true e more = let same : x ≡ l = some_same (rw e at h) in subst Q same q.0
    by_test false e more = more (rw e at h)

-- ---- tables one after another

pub first_append_none : (xs bs : List Line) (v : Vars) → first_enabled xs v ≡ None → first_enabled (xs ++ bs) v ≡ first_enabled bs v
first_append_none [] bs v h = refl
first_append_none (x ∷ xs) bs v h = by_test (is_enabled x v) refl (λ e. first_append_none xs bs v e)
  where
    by_test : (b : Bool) → is_enabled x v ≡ b → (first_enabled xs v ≡ None → first_enabled (xs ++ bs) v ≡ first_enabled bs v) → first_enabled ((x ∷ xs) ++ bs) v ≡ first_enabled bs v
    by_test true e more = let no : Some x ≡ None = rw e at h in cc
    by_test false e more = rw e (more (rw e at h))

pub first_append_some : (xs bs : List Line) (v : Vars) (l : Line) → first_enabled xs v ≡ Some l → first_enabled (xs ++ bs) v ≡ Some l
first_append_some [] bs v l h = cc
first_append_some (x ∷ xs) bs v l h = by_test (is_enabled x v) refl (λ e. first_append_some xs bs v l e)
  where
    by_test : (b : Bool) → is_enabled x v ≡ b → (first_enabled xs v ≡ Some l → first_enabled (xs ++ bs) v ≡ Some l) → first_enabled ((x ∷ xs) ++ bs) v ≡ Some l
    by_test true e more = rw e (rw e at h)
    by_test false e more = rw e (more (rw e at h))

some_none : {r : Row} → Some r ≡ None → ⊥
some_none h = cc

-- a machine that rests leaves the choice to those after it
pub then_takes : (xs bs : List Line) (v m w : Vars) (r : Option Row) → TakesFirst xs v None m → TakesFirst bs m r w → TakesFirst (xs ++ bs) v r w
then_takes xs bs v m w r p q = by_first (first_enabled xs v) refl
  where
    by_first : (o : Option Line) → first_enabled xs v ≡ o → TakesFirst (xs ++ bs) v r w
    by_first None e =
        let rests = rw (e, TakesFirst) at p in
        let Q : Vars → Type 0 = λ x. TakesFirst bs x r w in
        rw (first_append_none xs bs v e) (subst Q rests.1 q)
    by_first (Some l) e = let no = rw (e, TakesFirst) at p in absurd (some_none (sym no.0))

pub first_takes : (xs bs : List Line) (v w : Vars) (r : Row) → TakesFirst xs v (Some r) w → TakesFirst (xs ++ bs) v (Some r) w
first_takes xs bs v w r p = by_first (first_enabled xs v) refl
  where
    by_first : (o : Option Line) → first_enabled xs v ≡ o → TakesFirst (xs ++ bs) v (Some r) w
    by_first None e = let no = rw (e, TakesFirst) at p in absurd (some_none no.0)
    by_first (Some l) e = rw (first_append_some xs bs v l e) (rw (e, TakesFirst) at p)

pub rests_same : (xs : List Line) (v m : Vars) → TakesFirst xs v None m → m ≡ v
rests_same xs v m p = by_first (first_enabled xs v) refl
  where
    by_first : (o : Option Line) → first_enabled xs v ≡ o → m ≡ v
    by_first None e = (rw (e, TakesFirst) at p).1
    by_first (Some l) e = let no = rw (e, TakesFirst) at p in absurd (some_none (sym no.0))
