use Rattle.std.proofs.Common.{sym, subst}
use Rattle.std.proofs.lemmas.Result.{IfOk-weaker}
use Rattle.texts.specs.Hex.{HexOf}
use Rattle.texts.proofs.dump.hex_text.Goals as goal

pub returns-clause-reads_back : goal.returns-clause-reads_back
returns-clause-reads_back c =
    IfOk-weaker c.to_string.result _ _ (λ s e. subst (λ bs. HexOf bs c.args.octets.now) (sym e) c.new.ensures.reads_back) c.to_string.ensures.ok
