use Rattle.std.proofs.Common.{◌≡◌, length, arith}
use Rattle.radius_packet.proofs.HeaderOnly.{header-text, header-packet, header-size}
use Rattle.radius_packet.proofs.builder.Builder.restart.Goals as goal

sixteen : (c : goal.After-write_header) → length c.args.auth ≡ 16
sixteen c = omega arith

pub invariant_of-self : goal.invariant_of-self
invariant_of-self c = header-text c.write_header.new.out.items c.args.code c.args.id c.args.auth c.write_header.ensures (sixteen c)

pub returns-clause-packet : goal.returns-clause-packet
returns-clause-packet c = header-packet c.write_header.new.out.items c.args.code c.args.id c.args.auth c.write_header.ensures (sixteen c)

pub returns-clause-size : goal.returns-clause-size
returns-clause-size c = header-size c.write_header.new.out.items c.args.code c.args.id c.args.auth c.write_header.ensures (sixteen c)
