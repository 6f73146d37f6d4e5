use Rattle.std.proofs.Common.{◌≡◌, ◌*◌, ◌≤◌, take}
use Rattle.std.specs.List.{flat_map}
use Rattle.texts.specs.Dump.{piece}
use Rattle.texts.proofs.dump.put_pieces.Given as goal

abbrev pub invariant-loop-octet : goal.invariant-loop-octet
invariant-loop-octet l = (l.at ≤ 3 * l.octet-index) × (take l.at l.text ≡ flat_map (piece l.spaced) (take l.octet-index l.octets))
