use Rattle.table_defs.specs.Table.{Change}
use Rattle.event_record.specs.declared.TheConstants.{MOST_EVENTS}
use Rattle.std.proofs.Common.{List, subst, ◌≤◌, ◌≡◌, ◌+◌, true, ◌++◌, ◌∷◌, [], refl, sym, ◌∙◌, ap, arith, length, length-append}
use Rattle.auth_publish.specs.Changes.{front_of, is_open}
use Rattle.auth_publish.proofs.Adding.{adds_moves, added}
use Rattle.auth_publish.proofs.Lists.{front_more, room_for_more, weight_small}
use Rattle.auth_publish.proofs.receipt.Receipt.add.Goals as goal

pub compare_exchange-found-requires : goal.compare_exchange-found-requires
compare_exchange-found-requires c =
    let h = c.requires.head in
    let again = c.again-seen.ensures in
    let offer = c.plain-offer.ensures in
    let pen = c.no_pen-pen.ensures in
    let book = ap (λ s. s.book) again ∙ (ap (λ t. t.name) c.self.view_is ∙ sym (ap (λ w. w.book) h)) in
    let unfinished : is_open c.self.inside.seen.log ≡ true = ap (λ t. is_open t.list) c.self.view_is ∙ c.requires.open in (
      ap (λ w. w.tracked) h,
      book,
      pen.0 ∙ book,
      offer.0,
      rw (ap (λ w. w.key) h, pen.1, offer.1, offer.3, again) (adds_moves c.self.inside.seen.log c.args.change.now c.self.inside.changes (sym c.self.invariant.0) unfinished),
    )

pub overflow_add-changes : goal.overflow_add-changes
overflow_add-changes c =
    let log = c.self.inside.seen.log in
    let list = ap (λ t. t.list) c.self.view_is in
    room_for_more log c.self.inside.changes c.self.invariant.0 (ap is_open list ∙ c.requires.open) (subst (λ (l : List Change). front_of l ≤ MOST_EVENTS) (sym list) c.requires.room)

pub overflow_add-result : goal.overflow_add-result
overflow_add-result c =
    let log = c.self.inside.seen.log in
    let list = ap (λ t. t.list) c.self.view_is in
    room_for_more log c.self.inside.changes c.self.invariant.0 (ap is_open list ∙ c.requires.open) (subst (λ (l : List Change). front_of l ≤ MOST_EVENTS) (sym list) c.requires.room)

pub overflow_add-result-2 : goal.overflow_add-result-2
overflow_add-result-2 c =
    let same = ap (λ t. front_of t.list) c.self.view_is in
    let room = c.requires.room in
    let b = weight_small c.args.change.now in let f = c.self.invariant.1 in let w = c.weight_of.ensures in omega arith

pub invariant_of-result : goal.invariant_of-result
invariant_of-result c =
    let was = c.self.inside.seen.log in
    let x = c.compare_exchange-found in
    let log : x.new.seen.log ≡ was ++ c.args.change.now ∷ [] =
    added x.result c.self.inside.changes c.again-seen.result.log x.new.seen.log c.plain-offer.result.ask c.if-found-changes.false _ refl x.ensures.7
    ∙ (ap (λ s. s.log ++ c.plain-offer.result.ask ∷ []) c.again-seen.ensures ∙ ap (λ e. was ++ e ∷ []) c.plain-offer.ensures.1) in (
      ap (λ n. n + 1) c.self.invariant.0 ∙ (sym (length-append was (c.args.change.now ∷ [])) ∙ sym (ap length log)),
      (λ i. c.self.invariant.1 i + c.weight_of.ensures i) ∙ (sym (front_more was c.args.change.now) ∙ sym (ap front_of log)),
    )
