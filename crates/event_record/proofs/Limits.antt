-- The limit, by computation.
use Rattle.std.proofs.Common.{◌≡◌, ◌^◌, refl}
use Rattle.event_record.specs.declared.TheConstants.{MOST_EVENTS}

-- numbers of 20 bits count the events of a history
most_events : MOST_EVENTS ≡ 2 ^ 20
most_events = refl
