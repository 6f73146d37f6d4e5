use Rattle.std.proofs.Common.{◌<◌, arith}
use Rattle.std.proofs.ByRecursion.{All-from_get_or}
use Rattle.texts.proofs.Pairs.{reads_back}
use Rattle.texts.proofs.dump.HexDigits.new.Goals as goal

pub returns-clause-reads_back : goal.returns-clause-reads_back
returns-clause-reads_back c = reads_back c.args.octets.now (All-from_get_or (λ x. x < 256) c.args.octets.now 0 (λ i l. omega (arith, c.type_inv.octets i)))
