use Rattle.std.proofs.Common.{rules, ◌≡◌, ◌+◌, List, [], ◌∷◌, ◌++◌, length, map, sym, ap, subst, ◌∙◌, arith}
use Rattle.event_record.specs.Entry.{entry_of}
use Rattle.switch_event.specs.Config.{Config}
use Rattle.switch_event.specs.Event.{happening}
use Rattle.switch_defs.specs.History.{after}
use Rattle.switch_defs.specs.Turn.{turn}
use Rattle.switch_defs.proofs.Settings.{config_turn}
use Rattle.table_defs.specs.Table.{Items, Tells}
use Rattle.table_defs.specs.declared.change.Item.{Item}
use Rattle.table_defs.specs.Change.{item_of}
use Rattle.auth_publish.specs.Changes.{front_of}
use Rattle.authenticator.specs.Meaning.{IsEvent}
use Rattle.switch_book.proofs.Telling.{config_after, kept_open, kept_front, kept_accepted, kept_back}
use Rattle.switch_book.proofs.book.Book.control.Goals as goal

pub turn-outcome-requires-clause-event : goal.turn-outcome-requires-clause-event
turn-outcome-requires-clause-event g c =
    let b = c.self.inside in
    let kept = c.self.invariant in
    let same : (after b.config.value b.journal.list).config ≡ c.args.self.now.config = config_after b.config.value b.journal.list ∙ ap (λ v. v.config) c.self.view_is in
    let first : c.deref_mut.result.now ≡ b.first.value = search rules in
    (after b.config.value b.journal.list, subst (λ core. g.A.Authenticator.stands core (after b.config.value b.journal.list)) (sym first) kept.first_stands, subst (λ (k : Config). IsEvent k (happening c.args.e.now)) (sym same) c.requires.event)

pub turn-requires-clause-event : goal.turn-requires-clause-event
turn-requires-clause-event g c =
    let b = c.self.inside in
    let kept = c.self.invariant in
    let same : (after b.config.value b.journal.list).config ≡ c.args.self.now.config = config_after b.config.value b.journal.list ∙ ap (λ v. v.config) c.self.view_is in
    let second : c.deref_mut-3.result.now ≡ b.second.value = search rules in
    (after b.config.value b.journal.list, subst (λ core. g.A.Authenticator.stands core (after b.config.value b.journal.list)) (sym second) kept.second_stands, subst (λ (k : Config). IsEvent k (happening c.args.e.now)) (sym same) c.requires.event)

pub post-requires-clause-open : goal.post-requires-clause-open
post-requires-clause-open g c =
    kept_open g.A.Authenticator.stands g.A.Authenticator.made _ _ _ _ c.self.invariant c.if-self.false

pub copy_from-requires : goal.copy_from-requires
copy_from-requires g c =
    let b = c.self.inside in
    let kept = c.self.invariant in
    let s = after b.config.value b.journal.list in
    let stands = g.A.Authenticator.stands in
    let first : c.deref_mut.result.now ≡ b.first.value = search rules in
    let again : c.deref_mut-in_default.result.now ≡ c.turn-outcome.new.self = search rules in
    let second : c.deref-in_default.result.now ≡ b.second.value = search rules in
    let turned = c.turn-outcome.ensures.state s (subst (λ core. stands core s) (sym first) kept.first_stands) in (
      _,
      s,
      subst (λ core. stands core (turn s (happening c.args.e.now)).state) (sym again) turned,
      subst (λ core. stands core s) (sym second) kept.second_stands,
      config_turn s (happening c.args.e.now),
    )

pub invariant_of-self-in_default : goal.invariant_of-self-in_default
invariant_of-self-in_default g c =
    let b = c.self.inside in
    let kept = c.self.invariant in
    let s = after b.config.value b.journal.list in
    let stands = g.A.Authenticator.stands in
    let same : c.post.new.self ≡ b.publisher = search rules in
    let second : c.deref-in_default.result.now ≡ b.second.value = search rules in
    kept_back stands g.A.Authenticator.made _ _ _ _ kept c.post.new.self.name c.stage.new.self.list c.post.new.self.list c.post.new.self.first c.copy_from.new.self
    c.stage.ensures.list (ap (λ p. p.list) same) (ap (λ p. p.first) same) (c.copy_from.ensures.stands s (subst (λ core. stands core s) (sym second) kept.second_stands))
    (c.copy_from.ensures.made ∙ ap g.A.Authenticator.made second)

pub invariant_of-self-2 : goal.invariant_of-self-2
invariant_of-self-2 g c =
    let b = c.self.inside in
    let kept = c.self.invariant in
    let s = after b.config.value b.journal.list in
    let e = entry_of c.args.lane c.args.e.now in
    let stands = g.A.Authenticator.stands in
    let made = g.A.Authenticator.made in
    let first : c.deref_mut.result.now ≡ b.first.value = search rules in
    let second : c.deref_mut-3.result.now ≡ b.second.value = search rules in
    let first_stands = subst (λ core. stands core s) (sym first) kept.first_stands in
    let second_stands = subst (λ core. stands core s) (sym second) kept.second_stands in
    let same_items : c.as_slice.result.now ≡ c.turn-outcome.new.items.items = search rules in
    let tells = subst (λ (is : List Item). Tells s (map item_of is) (turn s (happening c.args.e.now)).state) (sym same_items) (c.turn-outcome.ensures.change s first_stands) in
    let more : c.commit-serial.new.self.list ≡ b.journal.list ++ e ∷ [] = search rules in
    kept_accepted stands made _ _ _ _ kept c.if-self.false c.post.new.self.name e (map item_of c.as_slice.result.now) c.commit-serial.new.self.list c.post.new.self.list c.post.new.self.first
    c.turn-outcome.new.self c.turn.new.self c.in-Ok.ensures.room more c.in-Ok-post.ensures.published c.post.ensures.same.1 tells
    (c.turn-outcome.ensures.state s first_stands) (c.turn.ensures.state s second_stands)
    (c.turn-outcome.ensures.made ∙ ap (λ core. made core + 1) first) (c.turn.ensures.made ∙ ap (λ core. made core + 1) second)

pub returns-clause-published : goal.returns-clause-published
returns-clause-published g c = (
  Items (map item_of c.as_slice.result.now),
  c.in-Ok-post.ensures.published ∙ ap (λ v. v.published ++ Items (map item_of c.as_slice.result.now) ∷ []) c.self.view_is,
)

pub returns-clause-told : goal.returns-clause-told
returns-clause-told g c = (invariant_of-self-2 g c).told

pub returns-clause-receipt : goal.returns-clause-receipt
returns-clause-receipt g c =
    let now = invariant_of-self-2 g c in
    let front = kept_front g.A.Authenticator.stands g.A.Authenticator.made _ _ _ _ now c.if-self.false in
    let made = now.first_made in
    let old = c.self.invariant.first_made in
    let first : c.deref_mut.result.now ≡ c.self.inside.first.value = search rules in
    let more = c.turn-outcome.ensures.made ∙ ap (λ core. g.A.Authenticator.made core + 1) first in
    let number = c.commit-serial.ensures.number in
    let list : c.stage.new.self.list ≡ c.self.inside.journal.list = c.stage.ensures.list in
    let many = ap length list in
    let same = ap front_of c.in-Ok-post.ensures.receipt.1 in
    (c.in-Ok-post.ensures.receipt.0, c.in-Ok-post.ensures.receipt.1, omega (arith, front, made, old, more, number, same, many))
