use Rattle.std.proofs.Common.{◌≤◌, length, sym, eq-eqb}
use Rattle.std.proofs.lemmas.Bool.{ne_eqb}
use Rattle.std.proofs.lemmas.List.Elements.{All-head, All-same, All-rest}
use Rattle.radius_defs.specs.declared.attribute.TheConstants.{PROXY_STATE}
use Rattle.radius_defs.specs.declared.limit.TheConstants.{MOST_VALUE}
use Rattle.radius_defs.specs.Packet.{Attribute}
use Rattle.radius_packet.specs.Views.{attribute}
use Rattle.dynauth_server.proofs.ReplyLemmas.{room-left, put-state, pass-other, all-put}
use Rattle.dynauth_server.proofs.replying.put_proxy_states.Goals as goal

pub add-requires-clause-value : goal.add-requires-clause-value
add-requires-clause-value c =
    All-head (λ (a : Attribute). length a.value ≤ MOST_VALUE) (attribute (c.in-Some.kind, c.in-Some.value)) c.next.new.self
    (All-same (λ (a : Attribute). length a.value ≤ MOST_VALUE) _ c.loop-kind.kind-iterator (sym c.in-Some.ensures.steps) c.loop-kind.invariant.short)

pub add-requires-clause-room : goal.add-requires-clause-room
add-requires-clause-room c =
    room-left c.loop-kind.built c.args.built.now c.args.request.now.attributes c.loop-kind.kind-iterator c.next.new.self (attribute (c.in-Some.kind, c.in-Some.value)) c.loop-kind.invariant.so_far c.in-Some.ensures.steps
    (eq-eqb c.in-Some.kind PROXY_STATE c.if-kind-eq-PROXY_STATE.true) c.requires

pub loop-kind-preserved-then-kind-eq-PROXY_STATE : goal.loop-kind-preserved-then-kind-eq-PROXY_STATE
loop-kind-preserved-then-kind-eq-PROXY_STATE c = record {
  can_next = tt;
  is_finite = tt;
  so_far = rw c.add.ensures.added
      (put-state c.loop-kind.built c.args.built.now c.args.request.now.attributes c.loop-kind.kind-iterator c.next.new.self (attribute (c.in-Some.kind, c.in-Some.value)) c.loop-kind.invariant.so_far c.in-Some.ensures.steps
      (eq-eqb c.in-Some.kind PROXY_STATE c.if-kind-eq-PROXY_STATE.true));
  short = All-rest (λ (a : Attribute). length a.value ≤ MOST_VALUE) _ c.next.new.self c.loop-kind.kind-iterator c.in-Some.ensures.steps c.loop-kind.invariant.short;
}

pub loop-kind-preserved : goal.loop-kind-preserved
loop-kind-preserved c = record {
  can_next = tt;
  is_finite = tt;
  so_far = pass-other c.loop-kind.built c.args.built.now c.args.request.now.attributes c.loop-kind.kind-iterator c.next.new.self (attribute (c.in-Some.kind, c.in-Some.value)) c.loop-kind.invariant.so_far c.in-Some.ensures.steps
      (ne_eqb c.in-Some.kind PROXY_STATE c.if-kind-eq-PROXY_STATE.false);
  short = All-rest (λ (a : Attribute). length a.value ≤ MOST_VALUE) _ c.next.new.self c.loop-kind.kind-iterator c.in-Some.ensures.steps c.loop-kind.invariant.short;
}

pub returns : goal.returns
returns c = all-put c.loop-kind.built c.args.built.now c.args.request.now.attributes c.loop-kind.kind-iterator c.loop-kind.invariant.so_far c.in-None.ensures.steps.0
