use Rattle.std.proofs.Common.{rules, ◌≡◌, ◌∷◌, Some, None, ◌<◌, sym, ap, ◌∙◌, subst, arith}
use Rattle.atomic_table.specs.Table.{rest}
use Rattle.book_lock.specs.Rules.{IsBook, served}
use Rattle.book_lock.proofs.Lists.{slot_same}
use Rattle.book_lock.proofs.Keeping.{looks}
use Rattle.book_lock.proofs.steps.wait_and_take.Goals as goal

pub load-requires : goal.load-requires
load-requires g c = let same = c.loop.invariant.2 in let ready = c.requires.ready in (
  c.loop.invariant.0 ∙ c.requires.table.0,
  (let w = c.requires.table.1 in omega arith),
  looks g.B.Booked.fixed g.B.Booked.list _ _ _ c.loop.chair.me c.args.mine (ap (λ m. m.0.ticket) same ∙ ready.0) (ap (λ m. m.0.turn) same ∙ ready.1) (subst (λ m. 0 < m.0.parts) (sym same) ready.2),
)

pub exchange-requires : goal.exchange-requires
exchange-requires g c =
    let mine : c.loop.chair.me.0.ticket ≡ Some c.args.mine = ap (λ m. m.0.ticket) c.loop.invariant.2 ∙ c.requires.ready.0 in
    let took = (c.load.ensures.2 c.args.mine mine).0 (search rules) in
    let carried = ap (λ m. m.1) took.2 in
    (c.load.ensures.0 ∙ (c.loop.invariant.0 ∙ c.requires.table.0), (Some took.0, carried ∙ ap (λ cs. (0, Some took.0) ∷ rest cs) (sym carried)))

pub returns-then-load-mine-clause-taken : goal.returns-then-load-mine-clause-taken
returns-then-load-mine-clause-taken g c =
    let start = c.loop.invariant.2 in
    let mine : c.loop.chair.me.0.ticket ≡ Some c.args.mine = ap (λ m. m.0.ticket) start ∙ c.requires.ready.0 in
    let took = (c.load.ensures.2 c.args.mine mine).0 (search rules) in
    let carried = ap (λ m. m.1) took.2 in
    let slot : (0, Some took.0) ∷ c.loop.chair.me.1 ≡ (0, c.exchange.result) ∷ rest c.load.new.seat.me.1 = sym carried ∙ c.exchange.ensures.2 in
    let same : took.0 ≡ c.unwrap.result = slot_same took.0 c.unwrap.result c.exchange.result _ _ slot c.unwrap.ensures in
    record {
      log = took.1;
      is = c.exchange.ensures.3 ∙ ((λ i. ((took.2 i).0, (0, None) ∷ rest ((took.2 i).1))) ∙ ((λ i. (served took.1 (start i).0, (0, None) ∷ (start i).1)) ∙ ap (λ cs. (served took.1 c.args.chair.now.me.0, (0, None) ∷ cs)) c.requires.ready.3));
      book = λ y base. subst (IsBook g.B.Booked.fixed g.B.Booked.list y took.1) same (took.3 y (ap (λ m. m.0.base) start ∙ base));
    }
