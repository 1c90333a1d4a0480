-- What the loop of `settle` keeps.
use Rattle.std.proofs.Common.{◌≡◌, ℕ, suc, zero, ◌+◌, ◌≤◌, ◌<◌, List, [], ◌∷◌, ◌++◌, length, Option, Some, None, ◌∙◌, ap, sym, subst, refl, append_assoc, arith, MatchOption}
use Rattle.machine_vars.specs.declared.vars.Vars.{Vars}
use Rattle.machine_vars.specs.declared.states.Row.{Row}
use Rattle.machine_defs.specs.Table.{Line}
use Rattle.machine_defs.specs.Settling.{all_rows, next, TakesNext, Settles, rests, takes}
use Rattle.machine_defs.specs.Live.{Ready}
use Rattle.port_machine.specs.Sends.{sent_by}
use Rattle.switch_event.specs.Sent.{Sent, ToHost}
use Rattle.switch_event.specs.Frames.{eap_frame, to_peer, frames}
use Rattle.out_tray.specs.Tray.{Things}
use Rattle.std.specs.Prelude.{map}
use Rattle.std.proofs.lemmas.List.{append-nil, map-append}
use Rattle.port_machine.proofs.Sends.{all_named, Named}
use Rattle.machine_defs.proofs.Growth.{Grows, Own, each_first}
use Rattle.machine_defs.proofs.Forms.{Formed}
use Rattle.machine_defs.proofs.Goes.{Ends}
use Rattle.machine_defs.proofs.Bound.{ready_ends}
use Rattle.machine_defs.proofs.Counts.{Sane, ready_sane, ready_counts, grows_next, sane_after}

-- the value speaks from the same port and address to the same peer
pub record Speaks (v from : Vars) : Type 0 where
  pub port : v.port ≡ from.port
  pub own : v.own ≡ from.own
  pub peer : v.peer ≡ from.peer

-- from the value `from`, n rows led to v, and the items of the tray grew by the frames of what they sent
pub record Under (from v : Vars) (n : ℕ) (before after : List Sent) : Type 0 where
  pub fuel : ℕ
  pub left : fuel + n ≡ 48
  pub ends : Ends fuel v
  pub sane : Sane v
  pub speaks : Speaks v from
  pub tries : v.re_auth_count ≤ 10 + n
  pub again : v.retrans_count ≤ 3 + n
  pub told : List (List ℕ)
  pub shown : after ≡ before ++ frames from told
  pub so_far : (w : Vars) (rows : List Row) (sent : List (List ℕ)) → Settles v rows sent w → (all : List Row) × Settles from all (told ++ sent) w × (length all ≡ n + length rows)

pub under_start : (v : Vars) (before : List Sent) → Ready v → Under v v 0 before before
under_start v before r = record {
  fuel = 48;
  left = refl;
  ends = ready_ends r;
  sane = ready_sane r;
  speaks = record { port = refl; own = refl; peer = refl };
  tries = omega (arith, (ready_counts r).0);
  again = omega (arith, (ready_counts r).1);
  told = [];
  shown = sym (append-nil before);
  so_far = λ w rows sent s. (rows, s, omega arith);
}

abbrev Next : Vars → Option Row → Vars → Option Line → Type 0
Next v r w o = MatchOption o ((r ≡ None) × (w ≡ v)) (λ l. (r ≡ Some l.name) × (w ≡ l.after v))

some_none_line : {l : Line} → Some l ≡ None → ⊥
some_none_line h = cc

some_none : {r : Row} → Some r ≡ None → ⊥
some_none h = cc

-- the row that was taken
pub taken_line : (v w : Vars) (r : Row) → TakesNext v (Some r) w → (l : Line) × (next v ≡ Some l) × (w ≡ l.after v)
taken_line v w r h = by_next (next v) refl h
  where
    by_next : (o : Option Line) → next v ≡ o → Next v (Some r) w o → (l : Line) × (next v ≡ Some l) × (w ≡ l.after v)
    by_next None e k = absurd (some_none k.0)
    by_next (Some l) e k = (l, e, k.1)

pub not_taken : (v w : Vars) → TakesNext v None w → (next v ≡ None) × (w ≡ v)
not_taken v w h = by_next (next v) refl h
  where
    by_next : (o : Option Line) → next v ≡ o → Next v None w o → (next v ≡ None) × (w ≡ v)
    by_next None e k = (e, k.1)
    by_next (Some l) e k = absurd (some_none (sym k.0))

subst3 : (P : ℕ → List ℕ → List ℕ → Type 0) {a b : ℕ} {c d e f : List ℕ} → a ≡ b → c ≡ d → e ≡ f → P a c e → P b d f
subst3 P {a} {b} {c} {d} {e} {f} p q r h =
    let A : ℕ → Type 0 = λ x. P x c e in
    let B : List ℕ → Type 0 = λ x. P b x e in
    let C : List ℕ → Type 0 = λ x. P b d x in
    subst C r (subst B q (subst A p h))

-- the frames of a value are those of another that speaks the same
same_frames : (v from : Vars) (xs : List (List ℕ)) → Speaks v from → frames v xs ≡ frames from xs
same_frames v from xs s =
    let P : ℕ → List ℕ → List ℕ → Type 0 = λ port own peer. frames v xs ≡ map (λ eap. ToHost port (eap_frame peer own eap)) xs in
    subst3 P s.port s.own s.peer refl

more_frames : (v from : Vars) (before after later : List Sent) (told sends : List (List ℕ)) → Speaks v from → after ≡ before ++ frames from told → later ≡ after ++ frames v sends →
    later ≡ before ++ frames from (told ++ sends)
more_frames v from before after later told sends s a b =
    rw (b, a, same_frames v from sends s, map-append (to_peer from) told sends) (append_assoc before (frames from told) (frames from sends))

some_row : {a b : Row} → Some a ≡ Some b → a ≡ b
some_row h = cc

named_next : (v : Vars) (l : Line) → next v ≡ Some l → Named l
named_next v l h = each_first Named all_rows v l all_named h

-- what the row sends is told by its name
sent_is : (v w : Vars) (r : Row) → TakesNext v (Some r) w → (l : Line) → next v ≡ Some l → w ≡ l.after v → l.sends v ≡ sent_by r w
sent_is v w r h l e q =
    let P : Option Line → Type 0 = λ o. Next v (Some r) w o in
    let k : Next v (Some r) w (Some l) = subst P e h in
    let name : r ≡ l.name = some_row k.0 in
    rw (q, name) (named_next v l e v)

-- the fuel falls with each row
ends_after : (v : Vars) (l : Line) (fuel : ℕ) → next v ≡ Some l → Ends fuel v → (less : ℕ) × (less + 1 ≡ fuel) × Ends less (l.after v)
ends_after v l zero h e = absurd e
ends_after v l (suc less) h e = (less, omega arith, by_next (next v) h e)
  where
    by_next : (o : Option Line) → o ≡ Some l → elim o as (λ _. Type 0) [ None ↦ Formed v | Some x ↦ Ends less (x.after v) ] → Ends less (l.after v)
    by_next None k e = absurd (some_none_line (sym k))
    by_next (Some x) k e = let same : x ≡ l = cc in let P : Line → Type 0 = λ y. Ends less (y.after v) in subst P same e

speaks_after : (v from : Vars) (l : Line) → Grows l → Speaks v from → Speaks (l.after v) from
speaks_after v from l g s = record {
  port = ap (λ (o : Own). o.port) (g.same v) ∙ s.port;
  own = ap (λ (o : Own). o.own) (g.same v) ∙ s.own;
  peer = ap (λ (o : Own). o.peer) (g.same v) ∙ s.peer;
}

pub under_more : (from v w : Vars) (n : ℕ) (r : Row) (before after later : List Sent) → Under from v n before after → TakesNext v (Some r) w →
    later ≡ after ++ frames w (sent_by r w) → Under from w (n + 1) before later
under_more from v w n r before after later u h o =
    let t = taken_line v w r h in
    let g = grows_next v t.0 t.1 in
    let less = ends_after v t.0 u.fuel t.1 u.ends in
    let sends : sent_by r w ≡ t.0.sends v = sym (sent_is v w r h t.0 t.1 t.2) in
    let speaks = speaks_after v from t.0 g u.speaks in
    let here : Speaks w from = (let Q : Vars → Type 0 = λ x. Speaks x from in subst Q (sym t.2) speaks) in
    let P : Vars → Type 0 = λ x. Under from x (n + 1) before later in
    subst P (sym t.2) (record {
      fuel = less.0;
      left = omega (arith, u.left, less.1);
      ends = less.2;
      sane = sane_after v t.0 g u.sane;
      speaks = speaks;
      tries = omega (arith, g.tries v, u.tries);
      again = omega (arith, g.again v, u.again);
      told = u.told ++ t.0.sends v;
      shown = more_frames w from before after later u.told (t.0.sends v) here u.shown (rw (← sends) o);
      so_far = λ w' rows sent s.
          let more = u.so_far w' (t.0.name ∷ rows) (t.0.sends v ++ sent) (takes t.0 t.1 s) in
          (more.0, rw (append_assoc u.told (t.0.sends v) sent) more.1, omega (arith, more.2));
    })

-- the loop's end
pub under_end : (from v w : Vars) (n : ℕ) (before after : List Sent) → Under from v n before after → TakesNext v None w →
    (rows : List Row) × (sent : List (List ℕ)) × Settles from rows sent w × (length rows ≡ n) × (after ≡ before ++ frames from sent)
under_end from v w n before after u h =
    let t = not_taken v w h in
    let more = u.so_far v [] [] (rests t.0) in
    let P : Vars → Type 0 = λ x. (rows : List Row) × (sent : List (List ℕ)) × Settles from rows sent x × (length rows ≡ n) × (after ≡ before ++ frames from sent) in
    subst P (sym t.1) (more.0, u.told, (let Q : List (List ℕ) → Type 0 = λ x. Settles from more.0 x v in subst Q (append-nil u.told) more.1), omega (arith, more.2), u.shown)

pub under_room : (from v w : Vars) (n : ℕ) (r : Row) (before after : List Sent) → Under from v n before after → TakesNext v (Some r) w → n < 48
under_room from v w n r before after u h =
    let t = taken_line v w r h in
    let less = ends_after v t.0 u.fuel t.1 u.ends in
    omega (arith, u.left, less.1)

pub same_things : (now old : Things) (items : List Sent) → now.sessions ≡ old.sessions → now.items ≡ items → now ≡ record old { items = items }
same_things now old items a b = rw (← a, ← b) refl

-- fewer than 48 rows were taken
pub under_few : (from v : Vars) (n : ℕ) (before after : List Sent) → Under from v n before after → n < 48
under_few from v n before after u = by_fuel u.fuel u.ends u.left
  where
    by_fuel : (fuel : ℕ) → Ends fuel v → fuel + n ≡ 48 → n < 48
    by_fuel zero e l = absurd e
    by_fuel (suc k) e l = omega (arith, l)
