-- The bounds of the counters, and the server's packet.
use Rattle.std.proofs.Common.{◌≡◌, ℕ, ◌≤◌, ◌<◌, true, false, List, length, Some, sym, subst, arith}
use Rattle.std.specs.Prelude.{nat_lt}
use Rattle.std.proofs.lemmas.Bool.Decides.{nat_tests}
use Rattle.machine_vars.specs.declared.vars.Vars.{Vars}
use Rattle.machine_vars.specs.declared.states.Row.{Row}
use Rattle.machine_defs.specs.Table.{Line}
use Rattle.machine_defs.specs.Settling.{all_rows, next, Settles, rests, takes}
use Rattle.machine_defs.specs.Live.{Event, IsProper, set, Start, Logoff, Greeting, Packet, Challenge, Notice, Accept, Reject, Second, Change, Live, born, rested, turned, taken, addressed, Ready, still, turns}
use Rattle.machine_defs.proofs.Forms.{Kept, Formed, as_request, as_ignore, as_server, as_gave_up, as_authenticated, as_held, as_open, as_shut, as_end}
use Rattle.machine_defs.proofs.Growth.{Grows, Own, all_grow, each_first}
use Rattle.machine_defs.proofs.Bound.{Placed, new, old, live_placed}

pub record Sane (v : Vars) : Type 0 where
  pub most : v.times.reauth_max ≤ 10
  pub packet : v.aaa_eap_req ≡ true → 1 < length v.aaa_eap_req_data.items

pub grows_next : (v : Vars) (l : Line) → next v ≡ Some l → Grows l
grows_next v l h = each_first Grows all_rows v l all_grow h

pub sane_after : (v : Vars) (l : Line) → Grows l → Sane v → Sane (l.after v)
sane_after v l g s =
    let P : Own → Type 0 = λ o. o.times.reauth_max ≤ 10 in
    let Q : Own → Type 0 = λ o. 1 < length o.packet.items in
    record { most = subst P (sym (g.same v)) s.most; packet = λ h. subst Q (sym (g.same v)) (s.packet (g.asked v h)) }

pub sane_end : {v w : Vars} {rows : List Row} {sent : List (List ℕ)} → Settles v rows sent w → Sane v → Sane w
sane_end (rests h) s = s
sane_end (takes {v} l h c) s = sane_end c (sane_after v l (grows_next v l h) s)

sane_set : (e : Event) (v : Vars) → IsProper e v → Sane v → Sane (set e v)
sane_set Start v p s = record { most = s.most; packet = s.packet }
sane_set Logoff v p s = record { most = s.most; packet = s.packet }
sane_set (Greeting x) v p s = record { most = s.most; packet = s.packet }
sane_set (Packet eap) v p s = record { most = s.most; packet = s.packet }
sane_set (Challenge eap wait) v p s = record { most = s.most; packet = λ _. omega (arith, p) }
sane_set Notice v p s = record { most = s.most; packet = s.packet }
sane_set (Accept eap on less) v p s = record { most = s.most; packet = λ _. omega (arith, p.0) }
sane_set (Reject eap) v p s = record { most = s.most; packet = λ _. omega (arith, p) }
sane_set (Second late) v p s = record { most = s.most; packet = s.packet }
sane_set (Change on less) v p s = record { most = s.most; packet = s.packet }

pub live_sane : {v : Vars} → Live v → Sane v
live_sane (born port own peer control t r) = record { most = r.most_to; packet = λ h. cc }
live_sane (rested l s) = sane_end s (live_sane l)
live_sane (turned e l p s) = sane_end s (sane_set e _ p (live_sane l))
live_sane (taken l) = let s = live_sane l in record { most = s.most; packet = s.packet }
live_sane (addressed l c) = let s = live_sane l in record { most = s.most; packet = s.packet }

pub ready_sane : {v : Vars} → Ready v → Sane v
ready_sane (still l) = live_sane l
ready_sane (turns e l p) = sane_set e _ p (live_sane l)

pub kept : {v : Vars} → Formed v → Kept v
kept (as_request n c r k e) = k
kept (as_ignore n c r k e) = k
kept (as_server n c a h g k e) = k
kept (as_gave_up n c a k e) = k
kept (as_authenticated n on w k e) = k
kept (as_held n on w q k e) = k
kept (as_open k e) = k
kept (as_shut k e) = k
kept (as_end k e f) = k

pub below : (a b : ℕ) → nat_lt a b ≡ false → b ≤ a
below a b h = grind (arith, nat_tests)

abbrev Few : Vars → Type 0
Few v = (v.re_auth_count ≤ 10) × (v.retrans_count ≤ 3)

few_set : (e : Event) (v : Vars) → Few v → Few (set e v)
few_set Start v f = f
few_set Logoff v f = f
few_set (Greeting x) v f = f
few_set (Packet eap) v f = f
few_set (Challenge eap wait) v f = f
few_set Notice v f = f
few_set (Accept eap on less) v f = f
few_set (Reject eap) v f = f
few_set (Second late) v f = f
few_set (Change on less) v f = f

few_placed : {v : Vars} → Placed v → Sane v → Few v
few_placed (new port own peer control t r) s = (omega arith, omega arith)
few_placed (old {v} p) s =
    let k = kept p in
    let a : v.re_auth_count ≤ v.times.reauth_max = below _ _ k.tried in
    let b : v.retrans_count ≤ 3 = below _ _ k.sent in
    (omega (arith, s.most), b)

pub ready_counts : {v : Vars} → Ready v → (v.re_auth_count ≤ 10) × (v.retrans_count ≤ 3)
ready_counts (still l) = few_placed (live_placed l) (live_sane l)
ready_counts (turns e l p) = few_set e _ (few_placed (live_placed l) (live_sane l))
