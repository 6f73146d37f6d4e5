use Rattle.grain128.specs.Grain128 as plain
use Rattle.grain128.specs.Grain128a as other
use Rattle.grain128.proofs.OneCipher.{any_strides, same}
use Rattle.grain128.proofs.strides.strides_are_of_one_cipher.Goals as goal

pub returns : goal.returns
returns c = record {
  plain = any_strides plain.member 1 32 _ _ _ _;
  revised = any_strides other.member 1 32 _ _ _ _;
  engine128 = same plain.member 1 _ _ _ _;
  engine128x32 = same plain.member 32 _ _ _ _;
  engine128a = same other.member 1 _ _ _ _;
  engine128ax32 = same other.member 32 _ _ _ _;
}
