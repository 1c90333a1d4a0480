use Rattle.std.proofs.Common.{◌≡◌, ◌∙◌, ap, sym, subst, refl, not, eqb, cond, ℕ, ◌+◌, ◌<◌, List, None, arith, length, set, get_or, map}
use Rattle.std.proofs.lemmas.List.{length-set, get_or_default}
use Rattle.std.specs.Prelude.{filter}
use Rattle.std.specs.List.{AllByRecursion}
use Rattle.aaa_defs.specs.declared.Aged.{Aged}
use Rattle.aaa_defs.specs.declared.Aged.TheVariants.{Quiet, Resend, GaveUp}
use Rattle.aaa_defs.specs.Waits.{Pending, Waits, pending_of, forgotten}
use Rattle.aaa_defs.specs.Age.{aged, aged_at, older, with_older, after_aging}
use Rattle.aaa_client.specs.Order.{session_of}
use Rattle.aaa_client.specs.Places.{Agrees, place, request_of, no_request}
use Rattle.aaa_client.proofs.Rising.{all-filter}
use Rattle.aaa_client.proofs.Places.{session-request, session-nothing, filter-session, place-session, place-one, set-older, agree-older, older-none}
use Rattle.aaa_client.proofs.waits.Waits.second.Goals as goal

-- ---- nothing is pending

none-pending : (c : goal.In_default) → pending_of c.args.session c.args.self.now ≡ None
none-pending c =
    sym (ap (pending_of c.args.session) c.self.view_is) ∙ session-nothing c.self.inside.places.items c.self.inside.order c.args.session c.self.invariant.agree c.in_default.ensures.found

pub returns-in_default-clause-told : goal.returns-in_default-clause-told
returns-in_default-clause-told c = sym (ap aged (none-pending c))

pub returns-in_default-clause-waits : goal.returns-in_default-clause-waits
returns-in_default-clause-waits c =
    sym (ap (λ o. after_aging (aged o) c.args.session c.args.self.now) (none-pending c)
    ∙ ap (λ (rs : List Pending). record c.args.self.now { requests = rs }) (older-none c.args.session c.args.self.now.requests (none-pending c)))

-- ---- a request is given up

gave-up : (c : goal.After-remove) → GaveUp ≡ aged (pending_of c.args.session c.args.self.now)
gave-up c =
    let places : List Pending = c.self.inside.places.items in
    let read : c.index.result.now ≡ place places c.in-Some.name =
    c.index.ensures ∙ ap (λ k. get_or places k c.index.result.now) c.from-at.ensures ∙ get_or_default places c.in-Some.name c.index.result.now no_request (omega (arith, c.self.invariant.all, c.in-Some.ensures.small)) in
    c.in-GaveUp.ensures ∙ ap (λ n. aged_at (n + 1)) (c.age.ensures.value ∙ ap (λ (p : Pending). p.age) read)
    ∙ ap aged (sym (session-request places c.self.inside.order c.args.session c.in-Some.name c.self.invariant.agree c.in-Some.ensures.found) ∙ ap (pending_of c.args.session) c.self.view_is)

pub returns-in-GaveUp-clause-told : goal.returns-in-GaveUp-clause-told
returns-in-GaveUp-clause-told c = gave-up c

pub invariant_of-self : goal.invariant_of-self
invariant_of-self c = record {
  all = c.self.invariant.all;
  agree = subst (AllByRecursion (Agrees c.self.inside.places.items)) (sym c.remove.ensures) (all-filter session_of (Agrees c.self.inside.places.items) (λ e. not (eqb e.session c.args.session)) c.self.inside.order c.self.invariant.agree);
}

pub returns-in-GaveUp-clause-waits : goal.returns-in-GaveUp-clause-waits
returns-in-GaveUp-clause-waits c =
    let places : List Pending = c.self.inside.places.items in
    let left : map (request_of places) c.remove.new.self ≡ filter (λ p. not (eqb p.session c.args.session)) (map (request_of places) c.self.inside.order) =
    ap (map (request_of places)) c.remove.ensures ∙ sym (filter-session places c.args.session c.self.inside.order c.self.invariant.agree) in
    ap (λ (rs : List Pending). record { requests = rs; last = c.self.inside.last }) left ∙ ap (forgotten c.args.session) c.self.view_is
    ∙ ap (λ told. after_aging told c.args.session c.args.self.now) (gave-up c)

-- ---- a request is a second older

not-gave-up : (told : Aged) (session : ℕ) (w : Waits) → (told ≡ GaveUp → ⊥) → after_aging told session w ≡ with_older session w
not-gave-up GaveUp session w other = absurd (other refl)
not-gave-up Resend session w other = refl
not-gave-up Quiet session w other = refl

module _ (c : goal.After-self-1) where
  read : c.index.result.now ≡ place c.self.inside.places.items c.in-Some.name
  read =
      c.index.ensures ∙ ap (λ k. get_or c.self.inside.places.items k c.index.result.now) c.from-at.ensures
      ∙ get_or_default c.self.inside.places.items c.in-Some.name c.index.result.now no_request (omega (arith, c.self.invariant.all, c.in-Some.ensures.small))

  lent : c.index_mut-request.result.now ≡ place c.self.inside.places.items c.in-Some.name
  lent =
      c.index_mut-request.ensures.value ∙ ap (λ k. get_or c.self.inside.places.items k c.index_mut-request.result.now) c.from-at.ensures
      ∙ get_or_default c.self.inside.places.items c.in-Some.name c.index_mut-request.result.now no_request (omega (arith, c.self.invariant.all, c.in-Some.ensures.small))

  there : set c.self.inside.places.items c.from-at.result c.grow.new.self ≡ set c.self.inside.places.items c.in-Some.name (older (place c.self.inside.places.items c.in-Some.name))
  there =
      ap (λ k. set c.self.inside.places.items k c.grow.new.self) c.from-at.ensures
      ∙ ap (λ q. set c.self.inside.places.items c.in-Some.name q) (c.grow.ensures ∙ ap older lent)

  within : c.in-Some.name < length c.self.inside.places.items
  within = omega (arith, c.self.invariant.all, c.in-Some.ensures.small)

  told : c.aged_at.result ≡ aged (pending_of c.args.session c.args.self.now)
  told =
      c.aged_at.ensures ∙ ap (λ n. aged_at (n + 1)) (c.age.ensures.value ∙ ap (λ (p : Pending). p.age) read)
      ∙ ap aged (sym (session-request c.self.inside.places.items c.self.inside.order c.args.session c.in-Some.name c.self.invariant.agree c.in-Some.ensures.found) ∙ ap (pending_of c.args.session) c.self.view_is)

  grown : map (λ p. cond (eqb p.session c.args.session) (older p) p) (map (request_of c.self.inside.places.items) c.self.inside.order)
      ≡ map (request_of (set c.self.inside.places.items c.in-Some.name (older (place c.self.inside.places.items c.in-Some.name)))) c.self.inside.order
  grown =
      set-older c.self.inside.places.items c.args.session c.in-Some.name c.self.inside.order within
      (place-one c.self.inside.order c.args.session c.in-Some.name c.find.ensures.rising c.in-Some.ensures.found)
      c.self.invariant.agree
      (place-session c.self.inside.places.items c.self.inside.order c.args.session c.in-Some.name c.self.invariant.agree c.in-Some.ensures.found)

pub invariant_of-self-in_default-aged_at : goal.invariant_of-self-in_default-aged_at
invariant_of-self-in_default-aged_at c = record {
  all = length-set c.self.inside.places.items c.from-at.result c.grow.new.self ∙ c.self.invariant.all;
  agree = subst (λ (ps : List Pending). AllByRecursion (Agrees ps) c.self.inside.order) (sym (there c)) (agree-older c.self.inside.places.items c.in-Some.name c.self.inside.order (within c) c.self.invariant.agree);
}

pub returns-in_default-aged_at : goal.returns-in_default-aged_at
returns-in_default-aged_at c = record {
  told = told c;
  waits = ap (λ (ps : List Pending). record { requests = map (request_of ps) c.self.inside.order; last = c.self.inside.last }) (there c)
      ∙ ap (λ (rs : List Pending). record { requests = rs; last = c.self.inside.last }) (sym (grown c))
      ∙ ap (with_older c.args.session) c.self.view_is
      ∙ sym (ap (λ t. after_aging t c.args.session c.args.self.now) (sym (told c)) ∙ not-gave-up c.aged_at.result c.args.session c.args.self.now c.in_default-aged_at.not-GaveUp);
}
