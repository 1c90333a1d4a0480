use Rattle.std.proofs.Common.{◌≡◌, ℕ, ◌<◌, length, get_or}
use Rattle.aaa_client.specs.declared.order.Entry.{Entry}
use Rattle.aaa_defs.specs.declared.TheConstants.{NAMES}
use Rattle.aaa_client.specs.Places.{request_of}
use Rattle.aaa_client.proofs.waits.copy_places.Given as goal

abbrev pub invariant-loop-entry : goal.invariant-loop-entry
invariant-loop-entry l =
    (length l.places ≡ NAMES) × ((k : ℕ) (d : Entry) → k < l.entry-index → request_of l.places (get_or l.order k d) ≡ request_of l.from (get_or l.order k d))
