use Rattle.std.proofs.Common.{rules, ◌≡◌, ◌≤◌, List, [], ◌∷◌, ◌++◌, subst, sym, ap}
use Rattle.table_defs.specs.Table.{Change, changed}
use Rattle.event_record.specs.declared.TheConstants.{MOST_EVENTS}
use Rattle.auth_publish.specs.Changes.{front_of}
use Rattle.auth_publish.specs.Deeds.{grown}
use Rattle.auth_publish.specs.declared.rule.Published.{Published}
use Rattle.auth_publish.proofs.Lists.{changed_more}
use Rattle.auth_publish.proofs.publisher.Publisher.publish.Goals as goal

pub invariant_of-self-2 : goal.invariant_of-self-2
invariant_of-self-2 g c =
    let x = c.replace_with.ensures in
    let was = c.self.inside.writer.desk.shown.value in
    let now = c.replace_with.new.dest.desk.shown.value in
    let next : Published = record { table = changed was.table c.args.change; told = grown was c.args.change } in
    let is : now ≡ next = search rules in
    let few : front_of (was.told.list ++ c.args.change ∷ []) ≤ MOST_EVENTS = subst (λ (l : List Change). front_of (l ++ c.args.change ∷ []) ≤ MOST_EVENTS) (sym (ap (λ f. f.list) c.self.view_is)) c.requires.room in
    (x.1.0, search (rules, is), search (rules, is), search (rules, is, changed_more), subst (λ (p : Published). front_of p.told.list ≤ MOST_EVENTS) (sym is) few)
