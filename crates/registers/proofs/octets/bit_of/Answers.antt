use Rattle.std.proofs.Common.{◌≡◌, ◌/◌, ◌%◌, get_or, ap, ◌∙◌, rules}
use Rattle.stream.specs.Bits.{bit}
use Rattle.registers.proofs.Bit.{bit_tested}
use Rattle.registers.proofs.octets.bit_of.Goals as goal

pub returns : goal.returns
returns c =
    let octet : c.unwrap_or.result ≡ get_or c.args.octets.now (c.args.i / 8) 0 = search rules in
    bit_tested c.unwrap_or.result (c.args.i % 8) ∙ ap (λ n. bit n (c.args.i % 8)) octet
