-- The rows of the sessions that are kept: they are those of the state, their numbers rise, and the
-- identities are some.
use Rattle.std.proofs.Common.{◌≡◌, ℕ, zero, suc, ◌+◌, ◌≤◌, ◌<◌, List, [], ◌∷◌, length, map, true, refl, sym, subst, arith}
use Rattle.std.specs.Prelude.{slice_index}
use Rattle.std.specs.List.{AllByRecursion, list_all}
use Rattle.std.specs.List.Sorted.{IsStrictlyIncreasing}
use Rattle.std.proofs.lemmas.Bool.Decides.{nat_tests}
use Rattle.machine_vars.specs.declared.control.Times.{Times}
use Rattle.typed_session.specs.Reads.{identity_of, status_of}
use Rattle.typed_session.proofs.Shapes.{same_identity, same_status}
use Rattle.session_table.specs.Slots.{Entry}
use Rattle.aaa_defs.specs.Waits.{Waits}
use Rattle.dynauth_server.specs.Roll.{IsRoll, is_identity}
use Rattle.switch_defs.specs.Switch as switch
use Rattle.switch_defs.specs.Switch.{State}
use Rattle.switch_defs.specs.Dynamic.{row_of, some_octets}
use Rattle.switch_defs.specs.Sound.{IsAtRest, Rises}
use Rattle.switch_defs.specs.Laws.{IsBetween}
use Rattle.host_session.specs.declared.session.Session.{Session}
use Rattle.host_sessions.specs.declared.sessions.Sessions.{Sessions}
use Rattle.host_sessions.specs.Holds.{AreOf, Holds, IsOf}
use Rattle.control_core.specs.Rows.{row_by, rows_of}
use Rattle.control_core.proofs.Shortness.{live_short}

-- ---- the same rows

row_is : (t : Times) (w : Waits) (e : Entry Session) (y : switch.Session) → IsOf t e y → IsAtRest w y →
    row_by e ≡ row_of y
row_is t w e y is rest =
    let identity : identity_of e.value.host ≡ y.standing.vars.identity.items = same_identity is.sits.stands rest.goes_on in
    let status : status_of e.value.host ≡ y.standing.vars.auth_port_status = same_status is.sits.stands in
    λ i. record {
      number = is.number i;
      port = is.port i;
      address = is.address i;
      identity = some_octets (identity i);
      authorised = status i;
    }

rows_same : (t : Times) (w : Waits) (es : List (Entry Session)) (ys : List switch.Session) →
    AreOf t es ys → AllByRecursion (IsAtRest w) ys → map row_by es ≡ map row_of ys
rows_same t w [] [] a r = refl
rows_same t w [] (y ∷ ys) a r = absurd a
rows_same t w (e ∷ es) [] a r = absurd a
rows_same t w (e ∷ es) (y ∷ ys) a r =
    λ i. row_is t w e y a.0 r.0 i ∷ rows_same t w es ys a.1 r.1 i

pub rows_are : (k : Sessions) (s : State) → Holds k s → IsBetween s → rows_of k ≡ map row_of s.sessions
rows_are k s holds between =
    rows_same s.config.times s.waits k.slots s.sessions holds.sessions between.rests.sessions

-- ---- a roll

rises : (lo hi : ℕ) (ys : List switch.Session) → Rises lo (map (λ y. y.host) ys) hi →
    IsStrictlyIncreasing (map (λ y. y.number) (map row_of ys))
unfolding Rises
rises lo hi [] r k within = absurd (omega (arith, within))
rises lo hi (y ∷ []) r k within = absurd (omega (arith, within))
rises lo hi (y ∷ z ∷ ys) r zero within = r.1.0
rises lo hi (y ∷ z ∷ ys) r (suc k) within =
    let next : suc k + 1 ≡ suc (k + 1) = omega arith in
    let ns : List ℕ = map (λ y. y.number) (map row_of (y ∷ z ∷ ys)) in
    subst (λ (n : ℕ). slice_index ns (suc k) < slice_index ns n) (sym next) (rises (suc y.host.number) hi (z ∷ ys) r.1 k (omega (arith, within)))

named : (octets : List ℕ) → length octets ≤ 253 → is_identity (some_octets octets) ≡ true
named [] short = refl
named (octet ∷ rest) short = grind (arith, nat_tests)

all_named : (w : Waits) (ys : List switch.Session) → AllByRecursion (IsAtRest w) ys →
    list_all (λ y. is_identity y.identity) (map row_of ys) ≡ true
all_named w [] r = refl
all_named w (y ∷ ys) r =
    rw (named y.standing.vars.identity.items (live_short r.0.live), all_named w ys r.1) refl

pub are_roll : (s : State) → IsBetween s → IsRoll (map row_of s.sessions)
are_roll s between = record {
  rises = rises 1 s.next s.sessions between.hosts.rises;
  identities = all_named s.waits s.sessions between.rests.sessions;
}
