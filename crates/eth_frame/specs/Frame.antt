-- What a frame means: its fields as lists and numbers.
use Rattle.std.specs.Prelude.{ℕ, List, Result, Ok, Err}
use Rattle.eth_frame.specs.declared.read.Frame.{Frame}
use Rattle.wire_core.specs.declared.address.Mac.{Mac}
use Rattle.wire_defs.specs.declared.EthDrop.{EthDrop}
use Rattle.wire_defs.specs.Ethernet.{Frame as Fields}

abbrev pub fields_from : Mac → Mac → ℕ → List ℕ → Fields
fields_from to from kind body = record { to = to.0; source = from.0; kind = kind; body = body }

abbrev pub fields : Frame → Fields
fields frame = fields_from frame.to frame.from frame.kind frame.body.now

-- what reading answers
abbrev pub meaning : Result Frame EthDrop → Result Fields EthDrop
meaning (Ok frame) = Ok (fields frame)
meaning (Err drop) = Err drop
