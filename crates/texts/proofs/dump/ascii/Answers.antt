use Rattle.std.proofs.lemmas.Str.{IsUtf8-from_ascii}
use Rattle.std.proofs.lemmas.Str.Ascii.{IsAscii-from_all}
use Rattle.texts.proofs.Lines.{accepted}
use Rattle.texts.proofs.dump.ascii.Goals as goal

pub unwrap-requires : goal.unwrap-requires
unwrap-requires c = accepted _ _ _ c.from_utf8.ensures.cases (λ e no. no.0 (IsUtf8-from_ascii _ (IsAscii-from_all _ c.requires)))
