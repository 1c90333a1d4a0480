-- Each event keeps what the layer above keeps beside a host.
use Rattle.std.proofs.Common.{◌≡◌, ℕ, ◌+◌, ◌≤◌, ◌∙◌, Bool, true, false, List, [], ◌∷◌, ◌-◌, Some, None, refl, sym, subst, arith, length}
use Rattle.std.specs.Prelude.{not, ◌&&◌, ◌||◌, if◌then◌else◌, nat_lt, nat_le, drop, slice_index, ◌==◌}
use Rattle.std.proofs.lemmas.List.{length-drop}
use Rattle.std.proofs.lemmas.Bool.Decides.{nat_tests}
use Rattle.machine_defs.specs.Table.{is_zero}
use Rattle.machine_defs.specs.EapTable.{response_fits, is_identity, idle_time}
use Rattle.machine_defs.specs.Live.{as_octets, Event, Start, Logoff, Greeting, Packet, Challenge, Notice, Accept, Reject, Second, Change}
use Rattle.wire_defs.specs.Eap.{canned}
use Rattle.machine_vars.specs.declared.verdict.Verdict.{Verdict}
use Rattle.machine_vars.specs.declared.verdict.Verdict.TheVariants as word
use Rattle.machine_defs.specs.Words.{wanted, period}
use Rattle.typed_session.specs.declared.host.Known.{Known}
use Rattle.typed_session.specs.declared.host.Common.{Common}
use Rattle.typed_session.specs.declared.host.Asked.{Asked}
use Rattle.typed_session.specs.declared.host.Served.{Served}
use Rattle.typed_session.specs.declared.host.Lapsed.{Lapsed}
use Rattle.typed_session.specs.declared.host.Admitted.{Admitted}
use Rattle.typed_session.specs.declared.host.Refused.{Refused}
use Rattle.typed_session.specs.declared.host.Host.{Host}
use Rattle.typed_session.specs.declared.host.Host.TheVariants as host
use Rattle.typed_session.specs.Moves.{Move, silent, new_round, identity_asked, end_of, numbered, answered, to_server, waiting_again, timed, dropped, is_tired}
use Rattle.typed_session.specs.Seconds.{move, wound, time_left, is_due, asked_still, served_second, lapsed_second, admitted_second, refused_second}
use Rattle.typed_session.specs.Reads.{is_server, ask_of, abort_of, after_verdict, told_by, cleared, identity_of, retimed}
use Rattle.typed_session.specs.Cares.{IsRested, Named, Cares, left_open, still_open, Begins, Rests, Leaves}

abbrev Of : (Host → Type 0) → Move → Type 0
Of P m = P m.host

-- one of two
pick : (P : Host → Type 0) (b : Bool) (m n : Move) → (b ≡ true → P m.host) → (b ≡ false → P n.host) → Of P (if b then m else n)
pick P true m n f g = f refl
pick P false m n f g = g refl

choose : (P : Host → Type 0) (b : Bool) (h k : Host) → (b ≡ true → P h) → (b ≡ false → P k) → P (if b then h else k)
choose P true h k f g = f refl
choose P false h k f g = g refl

apart : {b : Bool} → b ≡ true → b ≡ false → ⊥
apart e f = let c : true ≡ false = sym e ∙ f in cc

-- the host does not ask the server, and no request is left open
calm : (e : Event) (h k : Host) → is_server k ≡ false → (IsRested h → ask_of k ≡ false) → (IsRested h → left_open e (is_server h) k ≡ false) → (Named h → Named k) → Cares e h k
calm e h k s a l n = (λ r. (λ q. l r, both s (a r) (l r)), n)
  where
    both : is_server k ≡ false → ask_of k ≡ false → left_open e (is_server h) k ≡ false → is_server k ≡ (ask_of k || left_open e (is_server h) k)
    both s a l = rw (s, a, l) refl

-- what a new round leaves of the flags; a name is not needed in it
record Round (c : Common) (h : Host) : Type 0 where
  here : is_server h ≡ false
  asks : ask_of h ≡ c.ask
  drops : abort_of h ≡ c.abort
  named : Named h

first : (c : Common) (on : Bool) (tries : ℕ) → Round c (identity_asked c on tries).host
first c on tries = record { here = refl; asks = refl; drops = refl; named = λ e. absurd (apart refl e) }

round : (c : Common) (on start logoff : Bool) (tries : ℕ) → Round c (new_round c on start logoff tries).host
round c on start logoff tries =
    pick (Round c) (logoff || is_tired c tries) _ (identity_asked c on (tries + 1))
    (λ e. pick (Round c) (not on && not start && is_tired c tries) (end_of c) (identity_asked (numbered c) false 1) (λ f. record { here = refl; asks = refl; drops = refl; named = tt }) (λ f. record { here = refl; asks = refl; drops = refl; named = λ e. absurd (apart refl e) }))
    (λ e. first c on (tries + 1))

-- a new round after what was asked for was dropped, and one of a host that the server is not asked about, or has answered about
renewed : (e : Event) (h k : Host) (c : Common) → Round (dropped c) k → Cares e h k
renewed e h k c f = calm e h k f.here (λ r. f.asks) (λ r. rw f.drops refl) (λ n. f.named)

turned : (e : Event) (h k : Host) (c : Common) → (IsRested h → (c.ask ≡ false) × (c.abort ≡ false)) → still_open e (is_server h) ≡ false → Round c k → Cares e h k
turned e h k c t o f = calm e h k f.here (λ r. f.asks ∙ (t r).0) (λ r. shut (f.drops ∙ (t r).1)) (λ n. f.named)
  where
    shut : abort_of k ≡ false → left_open e (is_server h) k ≡ false
    shut d = rw (d, o) refl

-- a packet that fits names the host, or it has a name
is_named : (eap : List ℕ) (a : Asked) → response_fits eap a.common.id a.local ≡ true → (a.local ≡ false → 1 ≤ length a.common.identity.items) →
    1 ≤ length (if is_identity eap then as_octets (drop 5 eap) else a.common.identity).items
is_named eap a f n = by_kind (nat_lt 4 (length eap)) (slice_index eap 0 == 2) (slice_index eap 1 == a.common.id) a.local (is_identity eap) (nat_lt 5 (length eap)) (nat_le (length eap) 258) refl f n
  where
    long : nat_lt 5 (length eap) ≡ true → 1 ≤ length (drop 5 eap)
    long h = grind (arith, nat_tests, length-drop 5 eap)

    by_kind : (p q r local kind s t : Bool) → nat_lt 5 (length eap) ≡ s → (p && q && r && (not local || kind) && (not kind || (s && t))) ≡ true → (local ≡ false → 1 ≤ length a.common.identity.items) →
        1 ≤ length (if kind then as_octets (drop 5 eap) else a.common.identity).items
    by_kind p q r false false s t e f n = n refl
    by_kind true true true true false s t e f n = absurd (apart f refl)
    by_kind true true true local true true t e f n = long e
    by_kind true true true true true false t e f n = absurd (apart f refl)
    by_kind true true true false true false t e f n = absurd (apart f refl)
    by_kind true true false local kind s t e f n = absurd (apart f refl)
    by_kind true false r local kind s t e f n = absurd (apart f refl)
    by_kind false q r local kind s t e f n = absurd (apart f refl)

start_cares : (h : Host) → Cares Start h (move Start h).host
start_cares (host.Request a) = renewed Start (host.Request a) _ a.common (round (dropped a.common) a.status true false a.tries)
start_cares (host.Ignore a) = renewed Start (host.Ignore a) _ a.common (round (dropped a.common) a.status true false a.tries)
start_cares (host.Server a) = renewed Start (host.Server a) _ a.common (round (dropped a.common) a.status true false a.tries)
start_cares (host.GaveUp a) = renewed Start (host.GaveUp a) _ a.common (round (dropped a.common) a.status true false a.tries)
start_cares (host.Authenticated a) = turned Start (host.Authenticated a) _ a.common (λ r. r) refl (round a.common true true false a.tries)
start_cares (host.Held a) = calm Start (host.Held a) (host.Held (record a { starts = true })) refl (λ r. r.0) (λ r. rw r.1 refl) (λ n. n)
start_cares (host.Ended a) = calm Start (host.Ended a) (host.Ended a) refl (λ r. r.0) (λ r. rw r.1 refl) (λ n. n)

logoff_cares : (h : Host) → Cares Logoff h (move Logoff h).host
logoff_cares (host.Request a) = renewed Logoff (host.Request a) _ a.common (round (dropped a.common) false false false 0)
logoff_cares (host.Ignore a) = renewed Logoff (host.Ignore a) _ a.common (round (dropped a.common) false false false 0)
logoff_cares (host.Server a) = renewed Logoff (host.Server a) _ a.common (round (dropped a.common) false false false 0)
logoff_cares (host.GaveUp a) = renewed Logoff (host.GaveUp a) _ a.common (round (dropped a.common) false false false 0)
logoff_cares (host.Authenticated a) = turned Logoff (host.Authenticated a) _ a.common (λ r. r) refl (round a.common false false false 0)
logoff_cares (host.Held a) = calm Logoff (host.Held a) (host.Held (record a { logs_off = true })) refl (λ r. r.0) (λ r. rw r.1 refl) (λ n. n)
logoff_cares (host.Ended a) = calm Logoff (host.Ended a) (host.Ended a) refl (λ r. r.0) (λ r. rw r.1 refl) (λ n. n)

answer_cares : (eap : List ℕ) (a : Asked) (h : Host) → (Named h → a.local ≡ false → 1 ≤ length a.common.identity.items) → (IsRested h → (a.common.ask ≡ false) × (a.common.abort ≡ false)) → (e : Event) → still_open e (is_server h) ≡ false → Cares e h (answered eap a)
answer_cares eap a h n t e o =
    choose (Cares e h) (response_fits eap a.common.id a.local) (host.Server (to_server eap a)) (host.Ignore (record a { wait = idle_time a.method }))
    (λ f. (λ r. ((λ q. shut (t r).1), refl), λ m. is_named eap a f (n m)))
    (λ f. calm e h (host.Ignore (record a { wait = idle_time a.method })) refl (λ r. (t r).0) (λ r. shut (t r).1) n)
  where
    shut : a.common.abort ≡ false → (not a.common.abort && still_open e (is_server h)) ≡ false
    shut d = rw (d, o) refl

packet_cares : (eap : List ℕ) (h : Host) → Cares (Packet eap) h (move (Packet eap) h).host
packet_cares eap (host.Request a) = answer_cares eap a (host.Request a) (λ n. n) (λ r. r) (Packet eap) refl
packet_cares eap (host.Ignore a) = answer_cares eap a (host.Ignore a) (λ n. n) (λ r. r) (Packet eap) refl
packet_cares eap (host.Server a) = (λ r. (λ q. absurd (apart q r.0), rw (r.0, r.1) refl), λ n. n)
packet_cares eap (host.GaveUp a) = calm (Packet eap) (host.GaveUp a) (host.GaveUp a) refl (λ r. r.0) (λ r. rw r.1 refl) (λ n. n)
packet_cares eap (host.Authenticated a) = calm (Packet eap) (host.Authenticated a) (host.Authenticated a) refl (λ r. r.0) (λ r. rw r.1 refl) (λ n. n)
packet_cares eap (host.Held a) = calm (Packet eap) (host.Held a) (host.Held a) refl (λ r. r.0) (λ r. rw r.1 refl) (λ n. n)
packet_cares eap (host.Ended a) = calm (Packet eap) (host.Ended a) (host.Ended a) refl (λ r. r.0) (λ r. rw r.1 refl) (λ n. n)

challenge_cares : (eap : List ℕ) (wait : ℕ) (h : Host) → Cares (Challenge eap wait) h (move (Challenge eap wait) h).host
challenge_cares eap wait (host.Request a) = calm (Challenge eap wait) (host.Request a) (host.Request (record a { method = wait })) refl (λ r. r.0) (λ r. rw r.1 refl) (λ n. n)
challenge_cares eap wait (host.Ignore a) = calm (Challenge eap wait) (host.Ignore a) (host.Ignore (record a { method = wait })) refl (λ r. r.0) (λ r. rw r.1 refl) (λ n. n)
challenge_cares eap wait (host.Server a) = calm (Challenge eap wait) (host.Server a) (move (Challenge eap wait) (host.Server a)).host refl (λ r. r.0) (λ r. rw r.1 refl) (λ n _. n)
challenge_cares eap wait (host.GaveUp a) = calm (Challenge eap wait) (host.GaveUp a) (host.GaveUp a) refl (λ r. r.0) (λ r. rw r.1 refl) (λ n. n)
challenge_cares eap wait (host.Authenticated a) = calm (Challenge eap wait) (host.Authenticated a) (host.Authenticated a) refl (λ r. r.0) (λ r. rw r.1 refl) (λ n. n)
challenge_cares eap wait (host.Held a) = calm (Challenge eap wait) (host.Held a) (host.Held a) refl (λ r. r.0) (λ r. rw r.1 refl) (λ n. n)
challenge_cares eap wait (host.Ended a) = calm (Challenge eap wait) (host.Ended a) (host.Ended a) refl (λ r. r.0) (λ r. rw r.1 refl) (λ n. n)

notice_cares : (h : Host) → Cares Notice h (move Notice h).host
notice_cares (host.Server a) =
    choose (Cares Notice (host.Server a)) a.heard (answered a.latest.items (waiting_again a)) (host.Ignore (waiting_again a))
    (λ f. answer_cares a.latest.items (waiting_again a) (host.Server a) (λ n _. n) (λ r. r) Notice refl)
    (λ f. calm Notice (host.Server a) (host.Ignore (waiting_again a)) refl (λ r. r.0) (λ r. rw r.1 refl) (λ n _. n))
notice_cares (host.Request a) = calm Notice (host.Request a) (host.Request a) refl (λ r. r.0) (λ r. rw r.1 refl) (λ n. n)
notice_cares (host.Ignore a) = calm Notice (host.Ignore a) (host.Ignore a) refl (λ r. r.0) (λ r. rw r.1 refl) (λ n. n)
notice_cares (host.GaveUp a) = calm Notice (host.GaveUp a) (host.GaveUp a) refl (λ r. r.0) (λ r. rw r.1 refl) (λ n. n)
notice_cares (host.Authenticated a) = calm Notice (host.Authenticated a) (host.Authenticated a) refl (λ r. r.0) (λ r. rw r.1 refl) (λ n. n)
notice_cares (host.Held a) = calm Notice (host.Held a) (host.Held a) refl (λ r. r.0) (λ r. rw r.1 refl) (λ n. n)
notice_cares (host.Ended a) = calm Notice (host.Ended a) (host.Ended a) refl (λ r. r.0) (λ r. rw r.1 refl) (λ n. n)

change_cares : (on : Bool) (p : ℕ) (h : Host) → Cares (Change on p) h (move (Change on p) h).host
change_cares on p (host.Request a) = calm (Change on p) (host.Request a) (host.Request (record a { common = timed on p a.common })) refl (λ r. r.0) (λ r. rw r.1 refl) (λ n. n)
change_cares on p (host.Ignore a) = calm (Change on p) (host.Ignore a) (host.Ignore (record a { common = timed on p a.common })) refl (λ r. r.0) (λ r. rw r.1 refl) (λ n. n)
change_cares on p (host.Server a) = (λ r. (λ q. absurd (apart q r.0), rw (r.0, r.1) refl), λ n. n)
change_cares on p (host.GaveUp a) = calm (Change on p) (host.GaveUp a) (host.GaveUp (record a { common = timed on p a.common })) refl (λ r. r.0) (λ r. rw r.1 refl) (λ n. n)
change_cares on p (host.Authenticated a) = calm (Change on p) (host.Authenticated a) (host.Authenticated (record a { common = timed on p a.common })) refl (λ r. r.0) (λ r. rw r.1 refl) (λ n. n)
change_cares on p (host.Held a) = calm (Change on p) (host.Held a) (host.Held (record a { common = timed on p a.common })) refl (λ r. r.0) (λ r. rw r.1 refl) (λ n. n)
change_cares on p (host.Ended a) = calm (Change on p) (host.Ended a) (host.Ended a) refl (λ r. r.0) (λ r. rw r.1 refl) (λ n. n)

accept_cares : (eap : List ℕ) (on : Bool) (p : ℕ) (h : Host) → Cares (Accept eap on p) h (move (Accept eap on p) h).host
accept_cares eap on p (host.Server a) =
    pick (Cares (Accept eap on p) (host.Server a)) a.due (new_round (timed on p a.common) true false false 0) (silent (host.Authenticated (record { common = timed on p a.common; tries = 0 })))
    (λ f. turned (Accept eap on p) (host.Server a) _ (timed on p a.common) (λ r. r) refl (round (timed on p a.common) true false false 0))
    (λ f. calm (Accept eap on p) (host.Server a) (host.Authenticated (record { common = timed on p a.common; tries = 0 })) refl (λ r. r.0) (λ r. rw r.1 refl) (λ n. tt))
accept_cares eap on p (host.Request a) = calm (Accept eap on p) (host.Request a) (host.Request (record a { common = timed on p a.common })) refl (λ r. r.0) (λ r. rw r.1 refl) (λ n. n)
accept_cares eap on p (host.Ignore a) = calm (Accept eap on p) (host.Ignore a) (host.Ignore (record a { common = timed on p a.common })) refl (λ r. r.0) (λ r. rw r.1 refl) (λ n. n)
accept_cares eap on p (host.GaveUp a) = calm (Accept eap on p) (host.GaveUp a) (host.GaveUp (record a { common = timed on p a.common })) refl (λ r. r.0) (λ r. rw r.1 refl) (λ n. n)
accept_cares eap on p (host.Authenticated a) = calm (Accept eap on p) (host.Authenticated a) (host.Authenticated (record a { common = timed on p a.common })) refl (λ r. r.0) (λ r. rw r.1 refl) (λ n. n)
accept_cares eap on p (host.Held a) = calm (Accept eap on p) (host.Held a) (host.Held (record a { common = timed on p a.common })) refl (λ r. r.0) (λ r. rw r.1 refl) (λ n. n)
accept_cares eap on p (host.Ended a) = calm (Accept eap on p) (host.Ended a) (host.Ended a) refl (λ r. r.0) (λ r. rw r.1 refl) (λ n. n)

reject_cares : (eap : List ℕ) (h : Host) → Cares (Reject eap) h (move (Reject eap) h).host
reject_cares eap (host.Server a) = calm (Reject eap) (host.Server a) (move (Reject eap) (host.Server a)).host refl (λ r. r.0) (λ r. rw r.1 refl) (λ n. tt)
reject_cares eap (host.Request a) = calm (Reject eap) (host.Request a) (host.Request a) refl (λ r. r.0) (λ r. rw r.1 refl) (λ n. n)
reject_cares eap (host.Ignore a) = calm (Reject eap) (host.Ignore a) (host.Ignore a) refl (λ r. r.0) (λ r. rw r.1 refl) (λ n. n)
reject_cares eap (host.GaveUp a) = calm (Reject eap) (host.GaveUp a) (host.GaveUp a) refl (λ r. r.0) (λ r. rw r.1 refl) (λ n. n)
reject_cares eap (host.Authenticated a) = calm (Reject eap) (host.Authenticated a) (host.Authenticated a) refl (λ r. r.0) (λ r. rw r.1 refl) (λ n. n)
reject_cares eap (host.Held a) = calm (Reject eap) (host.Held a) (host.Held a) refl (λ r. r.0) (λ r. rw r.1 refl) (λ n. n)
reject_cares eap (host.Ended a) = calm (Reject eap) (host.Ended a) (host.Ended a) refl (λ r. r.0) (λ r. rw r.1 refl) (λ n. n)

greeting_cares : (source : List ℕ) (h : Host) → Cares (Greeting source) h (move (Greeting source) h).host
greeting_cares source (host.Request a) = calm (Greeting source) (host.Request a) (host.Request a) refl (λ r. r.0) (λ r. rw r.1 refl) (λ n. n)
greeting_cares source (host.Ignore a) = calm (Greeting source) (host.Ignore a) (host.Ignore a) refl (λ r. r.0) (λ r. rw r.1 refl) (λ n. n)
greeting_cares source (host.Server a) = (λ r. (λ q. absurd (apart q r.0), rw (r.0, r.1) refl), λ n. n)
greeting_cares source (host.GaveUp a) = calm (Greeting source) (host.GaveUp a) (host.GaveUp a) refl (λ r. r.0) (λ r. rw r.1 refl) (λ n. n)
greeting_cares source (host.Authenticated a) = calm (Greeting source) (host.Authenticated a) (host.Authenticated a) refl (λ r. r.0) (λ r. rw r.1 refl) (λ n. n)
greeting_cares source (host.Held a) = calm (Greeting source) (host.Held a) (host.Held a) refl (λ r. r.0) (λ r. rw r.1 refl) (λ n. n)
greeting_cares source (host.Ended a) = calm (Greeting source) (host.Ended a) (host.Ended a) refl (λ r. r.0) (λ r. rw r.1 refl) (λ n. n)

resend_cares : (late : Bool) (wait : ℕ) (state : Asked → Host) (h : Host) (a : Asked) → is_server (state (record a { wait = wait })) ≡ false → ask_of (state (record a { wait = wait })) ≡ a.common.ask → abort_of (state (record a { wait = wait })) ≡ a.common.abort →
    (IsRested h → (a.common.ask ≡ false) × (a.common.abort ≡ false)) → is_server h ≡ false → (Named h → Named (state (record a { wait = wait }))) →
    (Named h → a.local ≡ false → 1 ≤ length a.common.identity.items) → Cares (Second late) h (asked_still wait state a).host
resend_cares late wait state h a s k d t o n m =
    let again : Move = record { host = host.Request (record a { sent = a.sent + 1; wait = idle_time a.method }); packets = a.request.items ∷ [] } in
    pick (Cares (Second late) h) (is_zero wait) (if nat_lt 3 (a.sent + 1) then new_round (dropped a.common) a.status false false a.tries else again) (silent (state (record a { wait = wait })))
    (λ f. pick (Cares (Second late) h) (nat_lt 3 (a.sent + 1)) (new_round (dropped a.common) a.status false false a.tries) again
    (λ g. renewed (Second late) h _ a.common (round (dropped a.common) a.status false false a.tries))
    (λ g. calm (Second late) h again.host refl (λ r. (t r).0) (λ r. shut a.common.abort (t r).1) m))
    (λ f. calm (Second late) h (state (record a { wait = wait })) s (λ r. k ∙ (t r).0) (λ r. shut _ (d ∙ (t r).1)) n)
  where
    shut : (b : Bool) → b ≡ false → (not b && still_open (Second late) (is_server h)) ≡ false
    shut b e = rw (e, o) refl

served_cares : (late : Bool) (wait left : ℕ) (a : Served) → Cares (Second late) (host.Server a) (served_second late wait left a).host
served_cares late wait left a =
    let c = wound a.status a.common left in
    let gave_up = host.GaveUp (record { common = c; status = a.status; tries = a.tries; wait = wait }) in
    let server = host.Server (record a { common = c; wait = wait; due = is_due a.status a.common left || a.due }) in
    pick (Cares (Second late) (host.Server a)) (is_zero wait) (new_round (dropped c) a.status false false a.tries) (if late then silent gave_up else silent server)
    (λ f. renewed (Second late) (host.Server a) _ c (round (dropped c) a.status false false a.tries))
    (λ f. pick (Cares (Second late) (host.Server a)) late (silent gave_up) (silent server)
    (λ g. calm (Second late) (host.Server a) gave_up refl (λ r. r.0) (λ r. rw (r.1, g) refl) (λ n. tt))
    (λ g. (λ r. (λ q. absurd (apart q r.0), rw (r.0, r.1, g) refl), λ n. n)))

lapsed_cares : (late : Bool) (wait left : ℕ) (a : Lapsed) → Cares (Second late) (host.GaveUp a) (lapsed_second wait left a).host
lapsed_cares late wait left a =
    let c = wound a.status a.common left in
    let k = host.GaveUp (record a { common = c; wait = wait }) in
    pick (Cares (Second late) (host.GaveUp a)) (is_zero wait) (new_round (dropped c) a.status false false a.tries) (silent k)
    (λ f. renewed (Second late) (host.GaveUp a) _ c (round (dropped c) a.status false false a.tries))
    (λ f. calm (Second late) (host.GaveUp a) k refl (λ r. r.0) (λ r. rw r.1 refl) (λ n. n))

admitted_cares : (late : Bool) (left : ℕ) (a : Admitted) → Cares (Second late) (host.Authenticated a) (admitted_second left a).host
admitted_cares late left a =
    let c = wound true a.common left in
    let k = host.Authenticated (record a { common = c }) in
    pick (Cares (Second late) (host.Authenticated a)) (is_due true a.common left) (new_round c true false false a.tries) (silent k)
    (λ f. turned (Second late) (host.Authenticated a) _ c (λ r. r) refl (round c true false false a.tries))
    (λ f. calm (Second late) (host.Authenticated a) k refl (λ r. r.0) (λ r. rw r.1 refl) (λ n. n))

refused_cares : (late : Bool) (wait left : ℕ) (a : Refused) → Cares (Second late) (host.Held a) (refused_second wait left a).host
refused_cares late wait left a =
    let c = wound false a.common left in
    let k = host.Held (record a { common = c; wait = wait }) in
    pick (Cares (Second late) (host.Held a)) (is_zero wait) (new_round c false a.starts a.logs_off a.tries) (silent k)
    (λ f. turned (Second late) (host.Held a) _ c (λ r. r) refl (round c false a.starts a.logs_off a.tries))
    (λ f. calm (Second late) (host.Held a) k refl (λ r. r.0) (λ r. rw r.1 refl) (λ n. n))

second_cares : (late : Bool) (h : Host) → Cares (Second late) h (move (Second late) h).host
second_cares late (host.Request a) =
    let left = time_left a.status a.common in
    let x : Asked = record a { common = wound a.status a.common left; due = is_due a.status a.common left || a.due } in
    resend_cares late (a.wait - 1) host.Request (host.Request a) x refl refl refl (λ r. r) refl (λ n. n) (λ n. n)
second_cares late (host.Ignore a) =
    let left = time_left a.status a.common in
    let x : Asked = record a { common = wound a.status a.common left; due = is_due a.status a.common left || a.due } in
    resend_cares late (a.wait - 1) host.Ignore (host.Ignore a) x refl refl refl (λ r. r) refl (λ n. n) (λ n. n)
second_cares late (host.Server a) = served_cares late (a.wait - 1) (time_left a.status a.common) a
second_cares late (host.GaveUp a) = lapsed_cares late (a.wait - 1) (time_left a.status a.common) a
second_cares late (host.Authenticated a) = admitted_cares late (time_left true a.common) a
second_cares late (host.Held a) = refused_cares late (a.wait - 1) (time_left false a.common) a
second_cares late (host.Ended a) = calm (Second late) (host.Ended a) (host.Ended a) refl (λ r. r.0) (λ r. rw r.1 refl) (λ n. n)

pub cares : (e : Event) (h : Host) → Cares e h (move e h).host
cares Start h = start_cares h
cares Logoff h = logoff_cares h
cares (Greeting source) h = greeting_cares source h
cares (Packet eap) h = packet_cares eap h
cares (Challenge eap wait) h = challenge_cares eap wait h
cares Notice h = notice_cares h
cares (Accept eap on p) h = accept_cares eap on p h
cares (Reject eap) h = reject_cares eap h
cares (Second late) h = second_cares late h
cares (Change on p) h = change_cares on p h

-- of the host that an event leaves
pub cares_of : (e : Event) (h k : Host) → k ≡ (move e h).host → Cares e h k
cares_of e h k q = let P : Host → Type 0 = λ y. Cares e h y in subst P (sym q) (cares e h)

-- an answer of the server takes the request out, whatever it says
by_known : (v : Verdict) (k : Known) (h : Host) → Cares Notice h (told_by (Some k) v h).host
by_known (word.Challenge eap wait) k h = cares (Challenge eap.now wait) h
by_known word.Notice k h = cares Notice h
by_known (word.Accept (Some eap) again) k h = cares (Accept eap.now (wanted again k.times) (period again k.times)) h
by_known (word.Accept None again) k h = cares (Accept (canned true k.id) (wanted again k.times) (period again k.times)) h
by_known (word.Reject (Some eap)) k h = cares (Reject eap.now) h
by_known (word.Reject None) k h = cares (Reject (canned false k.id)) h

told_cares : (v : Verdict) (h : Host) → Cares Notice h (after_verdict v h).host
told_cares v (host.Request a) = by_known v (record { id = a.common.id; times = a.common.times }) (host.Request a)
told_cares v (host.Ignore a) = by_known v (record { id = a.common.id; times = a.common.times }) (host.Ignore a)
told_cares v (host.Server a) = by_known v (record { id = a.common.id; times = a.common.times }) (host.Server a)
told_cares v (host.GaveUp a) = by_known v (record { id = a.common.id; times = a.common.times }) (host.GaveUp a)
told_cares v (host.Authenticated a) = by_known v (record { id = a.common.id; times = a.common.times }) (host.Authenticated a)
told_cares v (host.Held a) = by_known v (record { id = a.common.id; times = a.common.times }) (host.Held a)
told_cares v (host.Ended a) = notice_cares (host.Ended a)

pub told_cares_of : (v : Verdict) (h k : Host) → k ≡ (after_verdict v h).host → Cares Notice h k
told_cares_of v h k q = let P : Host → Type 0 = λ y. Cares Notice h y in subst P (sym q) (told_cares v h)

-- a session that is opened
opened : (c : Common) → c.ask ≡ false → c.abort ≡ false → Begins (new_round c false false false 0).host
opened c a b = let f = round c false false false 0 in record { rested = (f.asks ∙ a, f.drops ∙ b); apart = f.here; named = f.named }

pub opened_of : (c : Common) (k : Host) → c.ask ≡ false → c.abort ≡ false → k ≡ (new_round c false false false 0).host → Begins k
opened_of c k a b q = let P : Host → Type 0 = λ y. Begins y in subst P (sym q) (opened c a b)

-- the flags are taken waiting_again
rests : (h : Host) → Rests h (cleared h)
rests (host.Request a) = record { rested = (refl, refl); same = refl; named = λ n. n }
rests (host.Ignore a) = record { rested = (refl, refl); same = refl; named = λ n. n }
rests (host.Server a) = record { rested = (refl, refl); same = refl; named = λ n. n }
rests (host.GaveUp a) = record { rested = (refl, refl); same = refl; named = λ n. n }
rests (host.Authenticated a) = record { rested = (refl, refl); same = refl; named = λ n. n }
rests (host.Held a) = record { rested = (refl, refl); same = refl; named = λ n. n }
rests (host.Ended a) = record { rested = (refl, refl); same = refl; named = λ n. n }

pub rests_of : (h k : Host) → k ≡ cleared h → Rests h k
rests_of h k q = let P : Host → Type 0 = λ y. Rests h y in subst P (sym q) (rests h)

pub server_named : (h : Host) → Named h → is_server h ≡ true → 1 ≤ length (identity_of h)
server_named (host.Server a) n e = n
server_named (host.Request a) n e = cc
server_named (host.Ignore a) n e = cc
server_named (host.GaveUp a) n e = cc
server_named (host.Authenticated a) n e = cc
server_named (host.Held a) n e = cc
server_named (host.Ended a) n e = cc

-- the times are set
leaves : (again : ℕ) (h : Host) → Leaves h (retimed again h)
leaves again (host.Request a) = record { ask = refl; abort = refl; same = refl; named = λ n. n }
leaves again (host.Ignore a) = record { ask = refl; abort = refl; same = refl; named = λ n. n }
leaves again (host.Server a) = record { ask = refl; abort = refl; same = refl; named = λ n. n }
leaves again (host.GaveUp a) = record { ask = refl; abort = refl; same = refl; named = λ n. n }
leaves again (host.Authenticated a) = record { ask = refl; abort = refl; same = refl; named = λ n. n }
leaves again (host.Held a) = record { ask = refl; abort = refl; same = refl; named = λ n. n }
leaves again (host.Ended a) = record { ask = refl; abort = refl; same = refl; named = λ n. n }

pub leaves_of : (again : ℕ) (h k : Host) → k ≡ retimed again h → Leaves h k
leaves_of again h k q = let P : Host → Type 0 = λ y. Leaves h y in subst P (sym q) (leaves again h)
