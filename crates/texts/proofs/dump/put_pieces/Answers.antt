use Rattle.std.proofs.Common.{◌<◌, All, sym, ap, ◌∙◌, subst, arith}
use Rattle.std.specs.List.{flat_map}
use Rattle.std.proofs.ByRecursion.{All-from_get_or}
use Rattle.std.proofs.lemmas.List.{take_all}
use Rattle.texts.specs.Dump.{piece}
use Rattle.texts.proofs.Lines.{pieces_ascii}
use Rattle.texts.proofs.dump.put_pieces.Goals as goal

pub returns-clause-ascii : goal.returns-clause-ascii
returns-clause-ascii c =
    let xs = c.args.octets.now in
    let front = c.loop-octet.invariant.1 ∙ ap (flat_map (piece c.args.spaced)) (take_all c.loop-octet.octet-index xs (omega arith)) in
    subst (All (λ x. x < 128)) (sym front) (pieces_ascii c.args.spaced xs (All-from_get_or (λ x. x < 256) xs 0 (λ i l. omega (arith, c.type_inv.octets i))))
