use Rattle.std.proofs.Common.{◌≡◌, ◌∙◌, ap, sym, subst, ◌≤◌, ◌<◌, not, eqb, List, ℕ, arith, length, get_or}
use Rattle.std.proofs.lemmas.Bool.{ltb-true, ltb-false}
use Rattle.std.specs.Prelude.{filter}
use Rattle.std.specs.List.{remove}
use Rattle.std.specs.List.{AllByRecursion}
use Rattle.aaa_defs.specs.declared.TheConstants.{NAMES}
use Rattle.aaa_client.specs.declared.order.Entry.{Entry}
use Rattle.aaa_client.specs.Order.{IsOrder, Rising, session_of, below}
use Rattle.aaa_client.proofs.Rising.{all-filter, removed-at, rises-filter, kept-none, other-at, past-at}
use Rattle.aaa_client.proofs.order.Order.remove.Goals as goal

new_items : (c : goal.After-remove-entry) → c.remove-entry.new.self.items ≡ filter (λ e. not (eqb (session_of e) c.args.session)) c.args.self.now
new_items c =
    let xs : List Entry = c.args.self.now in
    let at : ℕ = c.place_of-at.result in
    let place : at ≡ below session_of c.args.session xs = c.place_of-at.ensures.place ∙ ap (below session_of c.args.session) (c.as_slice.ensures.value ∙ c.self.view_is) in
    let same : c.deref.result.now ≡ xs = c.deref.ensures.0 ∙ c.self.view_is in
    let within : at < length xs = omega (arith, ltb-true _ _ (sym c.in-Some.ensures.lookup.0), ap length same) in
    let is : c.in-Some.entry.now ≡ get_or xs at c.in-Some.entry.now = c.in-Some.ensures.lookup.1 ∙ ap (λ (ys : List Entry). get_or ys at c.in-Some.entry.now) same in
    c.remove-entry.ensures.items ∙ ap (λ (ys : List Entry). remove ys at) c.self.view_is
    ∙ removed-at session_of c.args.session xs at c.in-Some.entry.now (subst Rising c.self.view_is c.self.invariant.rising) place within is c.if-entry-session.false

pub invariant_of-self : goal.invariant_of-self
invariant_of-self c =
    let others = λ (e : Entry). not (eqb (session_of e) c.args.session) in
    subst IsOrder (sym (new_items c)) (record {
      rising = rises-filter session_of others c.args.self.now (subst Rising c.self.view_is c.self.invariant.rising);
      names = all-filter session_of (λ (x : Entry). x.name < NAMES) others c.args.self.now (subst (AllByRecursion (λ x. x.name < NAMES)) c.self.view_is c.self.invariant.names);
    })

pub returns : goal.returns
returns c = new_items c

pub returns-then-entry-session : goal.returns-then-entry-session
returns-then-entry-session c =
    let xs : List Entry = c.args.self.now in
    let at : ℕ = c.place_of-at.result in
    let place : at ≡ below session_of c.args.session xs = c.place_of-at.ensures.place ∙ ap (below session_of c.args.session) (c.as_slice.ensures.value ∙ c.self.view_is) in
    let same : c.deref.result.now ≡ xs = c.deref.ensures.0 ∙ c.self.view_is in
    let within : at < length xs = omega (arith, ltb-true _ _ (sym c.in-Some.ensures.lookup.0), ap length same) in
    let is : c.in-Some.entry.now ≡ get_or xs at c.in-Some.entry.now = c.in-Some.ensures.lookup.1 ∙ ap (λ (ys : List Entry). get_or ys at c.in-Some.entry.now) same in
    sym (kept-none session_of c.args.session xs (other-at session_of c.args.session xs at c.in-Some.entry.now (subst Rising c.self.view_is c.self.invariant.rising) place within is c.if-entry-session.true))

pub returns-in_default : goal.returns-in_default
returns-in_default c =
    let xs : List Entry = c.args.self.now in
    let place : c.place_of-at.result ≡ below session_of c.args.session xs = c.place_of-at.ensures.place ∙ ap (below session_of c.args.session) (c.as_slice.ensures.value ∙ c.self.view_is) in
    let same : c.deref.result.now ≡ xs = c.deref.ensures.0 ∙ c.self.view_is in
    let past : length xs ≤ c.place_of-at.result = omega (arith, ltb-false _ _ (sym c.in_default.ensures.lookup.0), ap length same) in
    sym (kept-none session_of c.args.session xs (past-at session_of c.args.session xs (omega (arith, past, place))))
