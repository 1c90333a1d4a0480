use Rattle.std.proofs.Common.{◌≡◌, ◌&&◌, ◌∙◌, sym, ap, Option, Some}
use Rattle.radius_packet.specs.Views.{attribute}
use Rattle.dynauth_defs.specs.Session.{fits}
use Rattle.dynauth_server.specs.declared.naming.Sought.{Sought}
use Rattle.dynauth_server.specs.Sought.{names, names_in}
use Rattle.dynauth_server.proofs.SoughtLemmas.{read_on}
use Rattle.dynauth_server.proofs.naming.sought_by.Goals as goal

pub loop-kind-preserved : goal.loop-kind-preserved
loop-kind-preserved c = record {
  can_next = tt;
  is_finite = tt;
  so_far = λ row.
      let one : names_in (Some c.in_ok-sought.sought) row ≡ (names c.loop-kind.sought row && fits row (attribute (c.in-Some.kind, c.in-Some.value))) = sym (ap (λ (n : Option Sought). names_in n row) c.in_ok-sought.was) ∙ c.with.ensures row in
      read_on c.args.p.now.attributes c.loop-kind.kind-iterator c.next.new.self (attribute (c.in-Some.kind, c.in-Some.value)) row c.loop-kind.sought (Some c.in_ok-sought.sought)
      (c.loop-kind.invariant.so_far row) c.in-Some.ensures.steps one;
}
