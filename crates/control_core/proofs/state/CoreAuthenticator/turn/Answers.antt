use Rattle.std.proofs.Common.{◌≤◌, ◌+◌, ℕ, List, length, map, refl, sym, subst}
use Rattle.std.proofs.lemmas.List.{length-map}
use Rattle.switch_event.specs.Event.{happening}
use Rattle.switch_defs.specs.Sound.{IsSound}
use Rattle.switch_defs.specs.Turn as model
use Rattle.switch_defs.proofs.Soundness.{turns_are_sound}
use Rattle.switch_defs.proofs.Moving.{unmoved}
use Rattle.table_defs.proofs.Told.{by_none, tells_by}
use Rattle.table_defs.specs.Told.{ToldBy}
use Rattle.table_defs.specs.declared.change.Item.{Item}
use Rattle.table_defs.specs.Change.{item_of}
use Rattle.control_core.specs.Stands.{MayTurn}
use Rattle.control_core.proofs.state.CoreAuthenticator.turn.Goals as goal

pub returns-clause-state : goal.returns-clause-state
returns-clause-state c = λ s k.
    let t = c.happen-outcome.ensures.turns s (record { stands = k; few = c.requires.few }) in
    record {
      holds = record {
        config = t.holds.config;
        clock = t.holds.clock;
        ports = t.holds.ports;
        sessions = t.holds.sessions;
        kept = t.holds.kept;
      };
      sound = subst (λ (n : ℕ). IsSound (n + 1) (model.turn s (happening c.args.e.now)).state) (sym c.happen-outcome.ensures.made)
          (turns_are_sound _ s (happening c.args.e.now) k.sound);
    }

pub returns-clause-change : goal.returns-clause-change
returns-clause-change c = λ s k.
    let m : MayTurn c.args.self.now s = record { stands = k; few = c.requires.few } in
    let t = c.happen-outcome.ensures.turns s m in
    let none : ToldBy (map item_of c.clear-2.new.self.items) s s =
    subst (λ (is : List Item). ToldBy (map item_of is) s s) (sym c.clear-2.ensures) (by_none s s refl refl refl unmoved) in
    let is : List Item = c.happen-outcome.new.items.items in
    tells_by k.sound (t.told s none)
    (subst (λ (n : ℕ). n ≤ length s.sessions + length s.ports + 2) (sym (length-map is item_of)) (c.happen-outcome.ensures.few s m))
