-- The cipher of each number.
use Rattle.std.specs.Prelude.{ℕ, zero, suc}
use Rattle.stream.specs.Ciphers.{Cipher}
use Rattle.grain128.specs.Grain128.{grain128, grain128x32}
use Rattle.grain128.specs.Grain128a.{grain128a, grain128ax32}
use Rattle.sprout.specs.Sprout.{sprout}

abbrev pub cipher_of : ℕ → Cipher
cipher_of zero = grain128x32
cipher_of (suc zero) = grain128ax32
cipher_of (suc (suc zero)) = grain128
cipher_of (suc (suc (suc zero))) = grain128a
cipher_of (suc (suc (suc (suc n)))) = sprout
