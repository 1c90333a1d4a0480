use Rattle.std.proofs.Common.{◌≡◌, ◌∙◌, ap, sym, subst, ◌≤◌, ◌<◌, ℕ, List, Option, arith, length, get_or}
use Rattle.std.proofs.lemmas.Bool.{ltb-true, ltb-false}
use Rattle.std.specs.Option.{option_map}
use Rattle.std.specs.Prelude.{is_some}
use Rattle.std.specs.List.{AllByRecursion}
use Rattle.aaa_defs.specs.declared.TheConstants.{NAMES}
use Rattle.aaa_client.specs.declared.order.Entry.{Entry}
use Rattle.aaa_client.specs.Order.{Rising, session_of, below}
use Rattle.aaa_client.proofs.Rising.{all-at, found-at, other-at, past-at}
use Rattle.aaa_client.proofs.order.Order.find.Goals as goal

abbrev name_in : Option Entry → Option ℕ
name_in found = option_map (λ e. e.name) found

pub returns-in-Some-clause-found : goal.returns-in-Some-clause-found
returns-in-Some-clause-found c =
    let xs : List Entry = c.args.self.now in
    let place : c.place_of-at.result ≡ below session_of c.args.session xs = c.place_of-at.ensures.place ∙ ap (below session_of c.args.session) (c.as_slice.ensures.value ∙ c.self.view_is) in
    let same : c.deref.result.now ≡ xs = c.deref.ensures.0 ∙ c.self.view_is in
    let within : c.place_of-at.result < length xs = omega (arith, ltb-true _ _ (sym c.in-Some.ensures.lookup.0), ap length same) in
    let is : c.in-Some.entry.now ≡ get_or xs c.place_of-at.result c.in-Some.entry.now = c.in-Some.ensures.lookup.1 ∙ ap (λ (ys : List Entry). get_or ys c.place_of-at.result c.in-Some.entry.now) same in
    sym (ap name_in (found-at session_of c.args.session xs c.place_of-at.result c.in-Some.entry.now place within is c.if-entry-session.true))

pub returns-in_default-clause-found : goal.returns-in_default-clause-found
returns-in_default-clause-found c =
    let xs : List Entry = c.args.self.now in
    let place : c.place_of-at.result ≡ below session_of c.args.session xs = c.place_of-at.ensures.place ∙ ap (below session_of c.args.session) (c.as_slice.ensures.value ∙ c.self.view_is) in
    let same : c.deref.result.now ≡ xs = c.deref.ensures.0 ∙ c.self.view_is in
    let within : c.place_of-at.result < length xs = omega (arith, ltb-true _ _ (sym c.in-Some.ensures.lookup.0), ap length same) in
    let is : c.in-Some.entry.now ≡ get_or xs c.place_of-at.result c.in-Some.entry.now = c.in-Some.ensures.lookup.1 ∙ ap (λ (ys : List Entry). get_or ys c.place_of-at.result c.in-Some.entry.now) same in
    sym (ap name_in (other-at session_of c.args.session xs c.place_of-at.result c.in-Some.entry.now (subst Rising c.self.view_is c.self.invariant.rising) place within is c.if-entry-session.false))

pub returns-in_default-2-clause-found : goal.returns-in_default-2-clause-found
returns-in_default-2-clause-found c =
    let xs : List Entry = c.args.self.now in
    let place : c.place_of-at.result ≡ below session_of c.args.session xs = c.place_of-at.ensures.place ∙ ap (below session_of c.args.session) (c.as_slice.ensures.value ∙ c.self.view_is) in
    let same : c.deref.result.now ≡ xs = c.deref.ensures.0 ∙ c.self.view_is in
    let past : length xs ≤ c.place_of-at.result = omega (arith, ltb-false _ _ (sym c.get.ensures.lookup.0 ∙ ap is_some c.in_default.is), ap length same) in
    sym (ap name_in (past-at session_of c.args.session xs (omega (arith, past, place))))

pub returns-in-Some-clause-small : goal.returns-in-Some-clause-small
returns-in-Some-clause-small c =
    let xs : List Entry = c.args.self.now in
    let same : c.deref.result.now ≡ xs = c.deref.ensures.0 ∙ c.self.view_is in
    let within : c.place_of-at.result < length xs = omega (arith, ltb-true _ _ (sym c.in-Some.ensures.lookup.0), ap length same) in
    let is : c.in-Some.entry.now ≡ get_or xs c.place_of-at.result c.in-Some.entry.now = c.in-Some.ensures.lookup.1 ∙ ap (λ (ys : List Entry). get_or ys c.place_of-at.result c.in-Some.entry.now) same in
    let names = subst (AllByRecursion (λ (x : Entry). x.name < NAMES)) c.self.view_is c.self.invariant.names in
    subst (λ (x : Entry). x.name < NAMES) (sym is) (all-at session_of (λ (x : Entry). x.name < NAMES) xs names c.place_of-at.result c.in-Some.entry.now within)
