use Rattle.std.proofs.Common.{◌≡◌, ◌∙◌, ap, sym, subst, refl, not, true, eqb, ◌<◌, List, Option, Some, None, arith, length, set, map}
use Rattle.std.proofs.lemmas.List.{length-set}
use Rattle.std.specs.Prelude.{is_some, find}
use Rattle.std.specs.List.{AllByRecursion}
use Rattle.aaa_defs.specs.Request.{request_octets}
use Rattle.aaa_defs.specs.Waits.{Pending, identifier_of, pending_of, pending_under, with_request}
use Rattle.aaa_client.specs.declared.order.Entry.{Entry}
use Rattle.aaa_client.specs.Places.{Agrees, request_of}
use Rattle.aaa_client.proofs.Places.{session-new, name-new, put-all, put-requests}
use Rattle.aaa_client.proofs.waits.Waits.keep.Goals as goal

not-there : {X : Type 0} (o : Option X) → not (is_some o) ≡ true → o ≡ None
not-there None is = refl
not-there (Some x) is = cc

pub insert-requires-clause-new : goal.insert-requires-clause-new
insert-requires-clause-new c = session-new c.self.inside.places.items c.self.inside.order c.args.session c.self.invariant.agree (ap (pending_of c.args.session) c.self.view_is ∙ c.requires.new)

module _ (c : goal.After-self-2-1) where
  abbrev entry : Entry
  entry = record { session = c.args.session; name = c.args.name }

  abbrev request : Pending
  request = record {
    session = c.args.session;
    name = c.args.name;
    auth = c.args.auth;
    age = 0;
    octets = request_octets c.args.c.now c.args.a.now c.args.session (identifier_of c.args.name) c.args.auth;
  }

  free-place : find (λ x. eqb x.name c.args.name) c.self.inside.order ≡ None
  free-place =
      name-new c.self.inside.places.items c.self.inside.order c.args.name c.self.invariant.agree
      (ap (pending_under c.args.name) c.self.view_is ∙ not-there (pending_under c.args.name c.args.self.now) c.requires.free)

  there : set c.self.inside.places.items c.from.result c.build.new.self ≡ set c.self.inside.places.items c.args.name request
  there = ap (λ k. set c.self.inside.places.items k c.build.new.self) c.from.ensures ∙ ap (λ q. set c.self.inside.places.items c.args.name q) c.build.ensures

  within : c.args.name < length c.self.inside.places.items
  within = omega (arith, c.self.invariant.all, c.requires.name)

pub invariant_of-self : goal.invariant_of-self
invariant_of-self c = record {
  all = length-set c.self.inside.places.items c.from.result c.build.new.self ∙ c.self.invariant.all;
  agree = subst (λ (ps : List Pending). AllByRecursion (Agrees ps) c.insert.new.self) (sym (there c))
      (subst (AllByRecursion (Agrees (set c.self.inside.places.items c.args.name (request c)))) (sym c.insert.ensures)
      (put-all c.self.inside.places.items c.self.inside.order c.args.name (request c) (entry c) refl refl refl (within c) (free-place c) c.self.invariant.agree));
}

pub returns : goal.returns
returns c =
    ap (λ (ps : List Pending). record { requests = map (request_of ps) c.insert.new.self; last = Some c.args.name }) (there c)
    ∙ ap (λ (es : List Entry). record { requests = map (request_of (set c.self.inside.places.items c.args.name (request c))) es; last = Some c.args.name }) c.insert.ensures
    ∙ ap (λ (rs : List Pending). record { requests = rs; last = Some c.args.name })
    (put-requests c.self.inside.places.items c.self.inside.order c.args.name (request c) (entry c) refl refl refl (within c) (free-place c) c.self.invariant.agree)
    ∙ ap (with_request (request c)) c.self.view_is
