use Rattle.std.proofs.Common.{rules, ◌∙◌, ap}
use Rattle.book_lock.proofs.Sums.{same_total}
use Rattle.book_lock.proofs.tests.run_lanes.Goals as goal

pub for_each_mut-requires-clause-accepts : goal.for_each_mut-requires-clause-accepts
for_each_mut-requires-clause-accepts g c κs within i p l is =
    let based = c.requires.based i p.now l in
    (ap (λ s. s.chair.table_id) is ∙ c.requires.lock i p.now l, (based.0, ap (λ s. s.chair.me.0.base) is ∙ based.1))

pub returns-clause-parts : goal.returns-clause-parts
returns-clause-parts g c =
    same_total (λ s. s.chair.me.0.parts) c.args.seats.now c.for_each_mut.new.s (search rules) (λ i d l. search rules) ∙ c.requires.parts
