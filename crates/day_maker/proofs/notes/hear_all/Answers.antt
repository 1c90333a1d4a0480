use Rattle.std.proofs.Common.{◌≤◌, ◌++◌, List, length, take, subst, arith}
use Rattle.std.proofs.lemmas.List.{take_all}
use Rattle.switch_event.specs.Sent.{Sent, sent_of}
use Rattle.day_maker.specs.Hearing.{Hears}
use Rattle.day_maker.proofs.Noting.{heard_more}
use Rattle.day_maker.proofs.notes.hear_all.Goals as goal

pub loop-n-preserved : goal.loop-n-preserved
loop-n-preserved c = λ sent hears.
    let items = c.args.tray.now.items in
    heard_more c.hear.new.notes sent items c.loop-n.n (sent_of c.in-Some.item) c.in-Some.ensures
    (c.hear.ensures (sent ++ take c.loop-n.n items) (c.loop-n.invariant sent hears))

pub returns : goal.returns
returns c = λ sent hears.
    let items = c.args.tray.now.items in
    let past : length items ≤ c.loop-n.n = omega (arith, c.len-n-end.ensures) in
    subst (λ (xs : List Sent). Hears c.loop-n.notes (sent ++ xs)) (take_all c.loop-n.n items past) (c.loop-n.invariant sent hears)
