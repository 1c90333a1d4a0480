use Rattle.std.proofs.Common.{ap, ◌∙◌, ◌+◌, sym}
use Rattle.std.proofs.lemmas.List.{length-map}
use Rattle.trace_defs.specs.Entered.{entered, entered_all}
use Rattle.race_run.proofs.CountLemmas.{HasCounted-more}
use Rattle.race_run.proofs.counter.CounterRunsPhases.run.Goals as goal

pub returns-clause-ran : goal.returns-clause-ran
returns-clause-ran g c = λ config phases was. HasCounted-more c.args.self.now c.count.new.self (entered_all c.args.records.now) c.args._text.now.items config phases was
    (c.count.ensures.records ∙ ap (λ n. c.args.self.now.records + n) (sym (length-map c.args.records.now entered))) c.count.ensures.controls
