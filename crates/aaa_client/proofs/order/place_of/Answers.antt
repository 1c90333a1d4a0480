use Rattle.std.proofs.Common.{rules, nat_lt}
use Rattle.std.proofs.lemmas.List.Sorted.{IsPartitionPoint-from_clause}
use Rattle.aaa_client.specs.Order.{session_of}
use Rattle.aaa_client.proofs.Rising.{rises-parted, place-is}
use Rattle.aaa_client.proofs.order.place_of.Goals as goal

pub returns-clause-place : goal.returns-clause-place
returns-clause-place c =
    let parted = rises-parted session_of c.args.session c.args.entries.now c.requires in
    let point = IsPartitionPoint-from_clause (λ e. nat_lt (session_of e) c.args.session) _ _ c.partition_point.ensures.partitioned parted (λ a r q k. search rules) in
    place-is session_of c.args.session c.args.entries.now c.partition_point.result c.partition_point.ensures.bound point.0 point.1
