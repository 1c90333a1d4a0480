-- One number more has its place.
use Rattle.std.proofs.Common.{◌≡◌, ◌≢◌, ◌<◌, ◌==◌, length, arith, rules, tests, below_more, get_or-set_other, get_or-set_same, ◌∙◌}
use Rattle.std.proofs.lemmas.Iterator.{YieldsList-from_slice}
use Rattle.std.proofs.lemmas.Iterator.Search.{position_from_yields_List}
use Rattle.std.proofs.Math.ListN.{length-set}
use Rattle.switch_ports.specs.Index.{place_of}
use Rattle.switch_ports.proofs.ports.places_of.Goals as goal

pub loop-n-preserved : goal.loop-n-preserved
loop-n-preserved c =
    let found : c.position.result ≡ place_of c.loop-n.n-counter c.args.ports.now =
    position_from_yields_List (λ p. p.port == c.loop-n.n-counter) _ _ c.position.result c.position.ensures.ran (YieldsList-from_slice c.args.ports.now (cc)) (λ x b q k. search (rules, tests)) in
    record {
      size = length-set c.loop-n.places c.loop-n.n-counter c.position.result ∙ c.loop-n.invariant.size;
      known = below_more _ _ (λ m h. let ne : m ≢ c.loop-n.n-counter = omega arith in rw get_or-set_other (c.loop-n.invariant.known m h))
          (let l : c.loop-n.n-counter < length c.loop-n.places = omega arith in rw get_or-set_same found);
    }
