use Rattle.std.proofs.Common.{List, ap, ◌∙◌, rules, tests}
use Rattle.std.specs.Slice.Iter.{iter_rest}
use Rattle.std.specs.Str.{bytes_eq}
use Rattle.std.proofs.lemmas.Iterator.{YieldsList-from_slice, YieldsList-from_zip}
use Rattle.std.proofs.lemmas.Iterator.Search.{find_from_yields_List}
use Rattle.switch_event.specs.Config.{Client}
use Rattle.kept_defs.specs.Kept.{Entry}
use Rattle.dynauth_server.proofs.client.client_of.Goals as goal

pub returns : goal.returns
returns c = find_from_yields_List (λ (k : Client × List Entry). bytes_eq k.0.ip c.args.ip) c.find.new.self _ _ c.find.ensures.ran (YieldsList-from_zip (YieldsList-from_slice c.args.clients.now (ap iter_rest c.zip.ensures.first ∙ c.iter.ensures.rest)) (YieldsList-from_slice c.args.kept.now cc)) (λ x b q k. search (rules, tests))
