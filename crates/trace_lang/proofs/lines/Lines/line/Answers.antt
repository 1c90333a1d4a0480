use Rattle.std.proofs.Common.{ap, sym, ◌∙◌, append-nil, []}
use Rattle.trace_defs.specs.Line.{line_of}
use Rattle.trace_lang.proofs.lines.Lines.line.Goals as goal

pub returns-clause-reads : goal.returns-clause-reads
returns-clause-reads c = λ config given begun line kept.
    ap (line_of config given begun) (c.deref.ensures.value ∙ ap (λ held. held.text) c.self.view_is ∙ sym (append-nil c.args.self.now.text))
    ∙ kept.alike config given begun [] ∙ ap (line_of config given begun) (append-nil line)
