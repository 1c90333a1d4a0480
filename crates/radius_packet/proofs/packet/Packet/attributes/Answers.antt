use Rattle.std.proofs.Common.{◌≡◌, ◌<◌, ◌≤◌, length, drop, ap, ◌∙◌, sym}
use Rattle.std.proofs.lemmas.List.Elements.{All-same, All-drop}
use Rattle.radius_defs.specs.Packet.{Attribute, attributes_text}
use Rattle.radius_defs.specs.Reading.{attributes_of}
use Rattle.radius_defs.proofs.ShortLemmas.{short-values}
use Rattle.radius_packet.proofs.packet.Packet.attributes.Goals as goal

pub returns-clause-short : goal.returns-clause-short
returns-clause-short c =
    let octets = c.self.inside.octets.now in
    let text : attributes_text (attributes_of (drop 20 octets)) ≡ drop 20 octets = sym c.self.invariant.whole.whole in
    let short = short-values (attributes_of (drop 20 octets)) (All-same (λ octet. octet < 256) _ (drop 20 octets) text (All-drop (λ octet. octet < 256) 20 octets c.self.invariant.octets)) in
    All-same (λ (a : Attribute). length a.value ≤ 253) c.new.result (attributes_of (drop 20 octets)) (c.new.ensures ∙ ap attributes_of c.split_at.ensures.back) short
