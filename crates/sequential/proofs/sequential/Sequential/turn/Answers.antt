use Rattle.std.proofs.Common.{rules, ◌≡◌, map, ap, ◌∙◌}
use Rattle.event_record.specs.Record.{event_of}
use Rattle.switch_event.specs.Event.{happening}
use Rattle.table_defs.specs.Table.{all_absorbed}
use Rattle.table_defs.specs.Change.{item_of}
use Rattle.sequential.proofs.RecordLemmas.{Turned-once}
use Rattle.sequential.proofs.sequential.Sequential.turn.Goals as goal

pub returns-clause-turned : goal.returns-clause-turned
returns-clause-turned g c =
    let same : c.as_slice.result.now ≡ c.turn-outcome.new.items.items = search rules in
    Turned-once g.A.Authenticator.stands g.A.Authenticator.made c.args.self.now _ (happening c.event.result) (event_of c.args.what.now) c.turn-outcome.result c.turn-outcome.new.items.items c.event.ensures
    c.turn-outcome.ensures.state c.turn-outcome.ensures.outcome c.turn-outcome.ensures.sent c.turn-outcome.ensures.change
    c.turn-outcome.ensures.made (c.absorb.ensures ∙ ap (λ is. all_absorbed c.args.self.now.table (map item_of is)) same) c.turn-outcome.ensures.tray
