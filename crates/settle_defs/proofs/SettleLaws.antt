-- Settling as a function and as a chain of rows agree.
use Rattle.std.proofs.Common.{◌≡◌, ℕ, zero, suc, ◌≤◌, ◌<◌, refl, sym, subst, ap, false, List, [], ◌∷◌, ◌++◌, length, Option, None, Some, arith}
use Rattle.machine_vars.specs.declared.vars.Vars.{Vars}
use Rattle.machine_vars.specs.declared.states.Row.{Row}
use Rattle.machine_vars.specs.declared.states.EapState.{EapState}
use Rattle.machine_defs.specs.Table.{Line}
use Rattle.machine_defs.specs.Settling.{next, Settles, rests, takes}
use Rattle.machine_defs.proofs.Goes.{Goes, Ends}
use Rattle.machine_defs.specs.Live.{fresh, Event, Start as Begins, Logoff, Greeting, Packet, Challenge, Notice, Accept, Reject, Second, Change, Live, born, Ready, still, turns, set, IsProper}
use Rattle.machine_defs.proofs.Bound.{ready_ends, ready_live, turn_ends, opening_ends, idle_formed, settles_idle}
use Rattle.machine_defs.proofs.Reading.{settled_form}
use Rattle.machine_defs.proofs.Handing.{asks_idle}
use Rattle.machine_defs.proofs.Leaving.{Leaves, server_leaves}
use Rattle.settle_defs.specs.Settle.{Rest, settled_in, settled}
use Rattle.settle_defs.specs.Laws.{ComesBetween, start, logoff, packet, second, IsSettled, HasChain, HasOutcome, BeginsSo, StaysAtRest, IsAlwaysNamed, StaysLive, IsIdleAfter, KeepsItsPeer, opened, event, AsksWhereItWaits, AsksByName, Begun, LeavesTheServer, StaysNamed, SendsFew}
use Rattle.settle_defs.proofs.Keeping.{keeps_peer}
use Rattle.settle_defs.specs.Named.{needs_name}
use Rattle.settle_defs.proofs.Naming.{names_on, live_named}
use Rattle.settle_defs.proofs.Speaking.{speaks}

-- a chain of at most n rows is what n turns of the function do
chain_settled_in : {v w : Vars} {rows : List Row} {sent : List (List ℕ)} → Settles v rows sent w → (n : ℕ) → length rows ≤ n → settled_in n v ≡ record { vars = w; packets = sent }
chain_settled_in (rests h) zero le = refl
chain_settled_in (rests h) (suc n) le = rw (h, settled_in) refl
chain_settled_in (takes l h s) zero le = absurd (omega arith)
chain_settled_in (takes {v = v} l h s) (suc n) le =
    let e = chain_settled_in s n (omega arith) in
    rw (h, settled_in, e) refl

pub chain_settled : {v w : Vars} {rows : List Row} {sent : List (List ℕ)} → Settles v rows sent w → length rows ≤ 48 → settled v ≡ record { vars = w; packets = sent }
unfolding settled
chain_settled s le = chain_settled_in s 48 le

-- and where an end is in reach there is such a chain
abbrev Reaches : ℕ → Vars → Type 0
Reaches n v = (rows : List Row) × (length rows < n) × Settles v rows (settled_in n v).packets (settled_in n v).vars

abbrev taken : ℕ → Vars → Option Line → Rest
taken n v o = elim o [
  | None ↦ record { vars = v; packets = [] }
  | Some l ↦ record { vars = (settled_in n (l.after v)).vars; packets = l.sends v ++ (settled_in n (l.after v)).packets }
]

reaches_by : (n : ℕ) (v : Vars) (o : Option Line) → next v ≡ o → ((l : Line) → o ≡ Some l → Reaches n (l.after v)) →
    (rows : List Row) × (length rows < suc n) × Settles v rows (taken n v o).packets (taken n v o).vars
reaches_by n v None h f = ([], omega arith, rests h)
reaches_by n v (Some l) h f = let r = f l refl in (l.name ∷ r.0, omega (arith, r.1), takes l h r.2)

reaches : (n : ℕ) (v : Vars) → Ends n v → Reaches n v
reaches zero v e = absurd e
reaches (suc n) v e = reaches_by n v (next v) refl (λ l h. reaches n (l.after v) (rw (h, Ends, Goes) at e))

pub settled_chain : HasChain
unfolding settled
settled_chain v r = reaches 48 v (ready_ends r)

pub is_settled : IsSettled
is_settled v w rows sent s le = chain_settled s le

-- ---- what holds of its end

pub stays_live : StaysLive
stays_live v r = let c = settled_chain v r in ready_live r c.2

pub is_idle_after : IsIdleAfter
is_idle_after v r = let c = settled_chain v r in settles_idle c.2

pub keeps_its_peer : KeepsItsPeer
keeps_its_peer v r = let c = settled_chain v r in keeps_peer c.2

pub stays_named : StaysNamed
stays_named v r i = let c = settled_chain v r in names_on c.2 i

-- an event leads to its outcome
same_rest : {r : Rest} (w : Vars) (packets : List (List ℕ)) → w ≡ r.vars → packets ≡ r.packets → record { vars = w; packets = packets } ≡ r
same_rest {r} w packets a b = rw (a, b) refl

pub has_outcome : HasOutcome
has_outcome e v l p =
    let c = settled_chain (set e v) (turns e l p) in
    let t = turn_ends e p l c.2 in
    same_rest (settled (set e v)).vars (settled (set e v)).packets t.0 t.1

pub begins_so : BeginsSo
begins_so port own peer control t r =
    let v = fresh port own peer control t in
    let c = settled_chain v (still (born port own peer control t r)) in
    let o = opening_ends port own peer control t r c.2 in
    same_rest (settled v).vars (settled v).packets o.0 o.1

pub stays_at_rest : StaysAtRest
stays_at_rest v h = chain_settled (rests h) (omega arith)

-- no event hands a response over by itself
set_asks : (e : Event) (v : Vars) → v.aaa_eap_resp ≡ false → (set e v).aaa_eap_resp ≡ false
set_asks Begins v z = z
set_asks Logoff v z = z
set_asks (Greeting source) v z = z
set_asks (Packet eap) v z = z
set_asks (Challenge eap wait) v z = z
set_asks Notice v z = z
set_asks (Accept eap again period) v z = z
set_asks (Reject eap) v z = z
set_asks (Second late) v z = z
set_asks (Change again period) v z = z

pub asks_where_it_waits : AsksWhereItWaits
asks_where_it_waits _ (opened port own peer control t r) =
    let c = settled_chain (fresh port own peer control t) (still (born port own peer control t r)) in
    asks_idle c.2 refl
asks_where_it_waits _ (event {v = v} e l p h z) =
    let c = settled_chain (set e v) (turns e l p) in
    asks_idle c.2 (set_asks e v z)

begun_ready : {v : Vars} → Begun v → Ready v
begun_ready (opened port own peer control t r) = still (born port own peer control t r)
begun_ready (event e l p h z) = turns e l p

pub asks_by_name : AsksByName
asks_by_name v b a =
    let idle = asks_where_it_waits v b a in
    let named = live_named (stays_live v (begun_ready b)) in
    named (ap (λ (s : EapState). needs_name s (settled v).vars.local) idle)

-- what may come between is proper in every value
comes_proper : (e : Event) (v : Vars) → ComesBetween e → IsProper e v
comes_proper _ v start = tt
comes_proper _ v logoff = tt
comes_proper _ v (packet x) = tt
comes_proper _ v second = tt

comes_ready : (e : Event) (v : Vars) → ComesBetween e → Live v → Ready (set e v)
comes_ready e v b l = turns e l (comes_proper e v b)

pub leaves_the_server : LeavesTheServer
leaves_the_server e v b l h i z =
    let c = settled_chain (set e v) (comes_ready e v b l) in
    let t = turn_ends e (comes_proper e v b) l c.2 in
    let P : Vars → Type 0 = Leaves in
    subst P (sym t.0) (server_leaves e v b i z (settled_form (idle_formed l h)))

pub is_always_named : IsAlwaysNamed
is_always_named v l = live_named l

pub sends_few : SendsFew
sends_few v r s =
    let c = settled_chain v r in
    let p = speaks c.2 s in
    (p.0, omega (arith, p.1, c.1), p.2)
