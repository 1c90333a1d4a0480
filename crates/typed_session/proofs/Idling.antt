-- A second of a host that is let in, in which nothing falls due.
use Rattle.std.proofs.Common.{◌≡◌, ◌∙◌, Bool, true, false, refl, sym, subst}
use Rattle.std.specs.Prelude.{not, ◌&&◌, ◌||◌}
use Rattle.machine_vars.specs.declared.vars.Vars.{Vars}
use Rattle.machine_vars.specs.declared.states.EapState.TheVariants.{Success2}
use Rattle.machine_defs.specs.Live.{Second, cleared as cleared_vars}
use Rattle.typed_session.specs.declared.host.Admitted.{Admitted}
use Rattle.typed_session.specs.declared.host.Host.{Host}
use Rattle.typed_session.specs.declared.host.Host.TheVariants as host
use Rattle.typed_session.specs.Stands.{Stands}
use Rattle.typed_session.specs.Seconds.{Ticks, after_second, is_due, is_idle, move, time_left, wound}
use Rattle.typed_session.specs.Reads.{cleared}
use Rattle.typed_session.specs.Follows.{Idles, IsLetIn}
use Rattle.typed_session.proofs.Lands.{follows, unsaid}
use Rattle.typed_session.proofs.Shapes.{Shape, in_authenticated, in_ended, in_gave_up, in_held, in_ignore, in_request, in_server, shape, same_abort, same_ask, same_gone, same_status, stands_cleared}

-- a host that is let in, with nothing left to be done
success : (a : Admitted) (v : Vars) → Shape (host.Authenticated a) v → v.eap ≡ Success2
success a v (in_authenticated e g p q t) = q
success a v (in_request e g p q) = cc
success a v (in_ignore e g p q) = cc
success a v (in_server e g p q) = cc
success a v (in_gave_up e g p q) = cc
success a v (in_held e g p q t) = cc
success a v (in_ended e g p t) = cc

admitted : (a : Admitted) → a.common.ask ≡ false → a.common.abort ≡ false → (v : Vars) → Stands (host.Authenticated a) v → IsLetIn (host.Authenticated a) v
admitted a ask abort = λ v s.
    let same : cleared (host.Authenticated a) ≡ host.Authenticated a = rw (ask, abort) refl in
    let P : Host → Type 0 = λ y. Stands y (cleared_vars v) in
    record {
      status = sym (same_status s);
      state = success a v (shape s);
      ask = sym (same_ask s) ∙ ask;
      abort = sym (same_abort s) ∙ abort;
      gone = sym (same_gone s);
      cleared = subst P same (stands_cleared s);
    }

-- nothing is left to be done, and nothing falls due
by_flags : (ask abort due : Bool) → (not (ask || abort) && not due) ≡ true → (ask ≡ false) × (abort ≡ false) × (due ≡ false)
by_flags false false false e = (refl, refl, refl)
by_flags false false true e = cc
by_flags false true due e = cc
by_flags true abort due e = cc

pub idles : (h k : Host) → is_idle h ≡ true → Ticks false true h k → Idles h k
idles (host.Authenticated a) k i t =
    let h : Host = host.Authenticated a in
    let left = time_left true a.common in
    let f = by_flags a.common.ask a.common.abort (is_due true a.common left) i in
    let b : Admitted = record a { common = wound true a.common left } in
    let same : (after_second false h).host ≡ host.Authenticated b = rw f.2 refl in
    let P : Host → Type 0 = λ y. (v : Vars) → Stands y v → IsLetIn y v in
    record {
      follows = λ tray v s. follows (Second false) h k tray tray t.0 (unsaid h (move (Second false) h).packets tray t.1) v tt refl s;
      before = admitted a f.0 f.1;
      after = subst P (sym (t.0 ∙ same)) (admitted b f.0 f.1);
    }
idles (host.Request a) k i t = cc
idles (host.Ignore a) k i t = cc
idles (host.Server a) k i t = cc
idles (host.GaveUp a) k i t = cc
idles (host.Held a) k i t = cc
idles (host.Ended a) k i t = cc
