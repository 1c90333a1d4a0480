use Rattle.std.proofs.Common.{◌≡◌, List, ◌++◌, length, take, drop, map, sym, ap, subst, ◌∙◌, arith}
use Rattle.std.proofs.lemmas.List.{take_all, take-append-le}
use Rattle.std.specs.List.{AllByRecursion}
use Rattle.aaa_defs.specs.Waits.{Pending}
use Rattle.aaa_client.specs.declared.order.Entry.{Entry}
use Rattle.aaa_defs.specs.declared.TheConstants.{NAMES}
use Rattle.aaa_client.specs.Places.{Agrees, request_of}
use Rattle.aaa_client.proofs.Places.{same-requests, agree-same}
use Rattle.aaa_client.proofs.waits.Waits.copy_from.Goals as goal

module _ (c : goal.After-self-3-1) where
  -- the places hold what was written over them
  abbrev held : List Pending
  held = take c.self.inside.places.len (c.copy_places.new.places ++ drop (length c.copy_places.new.places) c.self.inside.places.items)

  there : held ≡ c.copy_places.new.places
  there =
      let size : c.self.inside.places.len ≡ NAMES = sym c.as_mut_slice.ensures.len ∙ ap length c.as_mut_slice.ensures.value ∙ c.self.invariant.all in
      take-append-le c.self.inside.places.len c.copy_places.new.places (drop (length c.copy_places.new.places) c.self.inside.places.items) (omega (arith, size, c.copy_places.ensures.length))
      ∙ take_all c.self.inside.places.len c.copy_places.new.places (omega (arith, size, c.copy_places.ensures.length))

  same : AllByRecursion (λ e. request_of c.copy_places.new.places e ≡ request_of c.other.inside.places.items e) c.other.inside.order
  same =
      subst (λ (es : List Entry). AllByRecursion (λ e. request_of c.copy_places.new.places e ≡ request_of c.other.inside.places.items e) es) c.entries.ensures.value
      (subst (λ (ps : List Pending). AllByRecursion (λ e. request_of c.copy_places.new.places e ≡ request_of ps e) c.entries.result.now) c.as_slice.ensures.value c.copy_places.ensures.copied)

pub invariant_of-self : goal.invariant_of-self
invariant_of-self c = record {
  all = ap length (there c) ∙ c.copy_places.ensures.length;
  agree = subst (λ (ps : List Pending). AllByRecursion (Agrees ps) c.copy_from.new.self) (sym (there c))
      (subst (AllByRecursion (Agrees c.copy_places.new.places)) (sym c.copy_from.ensures)
      (agree-same c.other.inside.places.items c.copy_places.new.places c.other.inside.order (same c) c.other.invariant.agree));
}

pub returns : goal.returns
returns c =
    ap (λ (ps : List Pending). record { requests = map (request_of ps) c.copy_from.new.self; last = c.other.inside.last }) (there c)
    ∙ ap (λ (es : List Entry). record { requests = map (request_of c.copy_places.new.places) es; last = c.other.inside.last }) c.copy_from.ensures
    ∙ ap (λ (rs : List Pending). record { requests = rs; last = c.other.inside.last }) (same-requests c.other.inside.places.items c.copy_places.new.places c.other.inside.order (same c))
    ∙ c.other.view_is
