-- The cipher of each engine that can be named. The keystream tool has the same table: a crate of its own would hold these lines alone.
use Rattle.stream.specs.Ciphers.{Cipher}
use Rattle.grain128.specs.Grain128.{grain128, grain128x32}
use Rattle.grain128.specs.Grain128a.{grain128a, grain128ax32}
use Rattle.sprout.specs.Sprout.{sprout}
use Rattle.texts.specs.declared.names.CipherName.{CipherName}
use Rattle.texts.specs.declared.names.CipherName.TheVariants.{Grain128, Grain128Wide, Grain128a, Grain128aWide, Sprout}

abbrev pub cipher_of : CipherName → Cipher
cipher_of Grain128 = grain128
cipher_of Grain128Wide = grain128x32
cipher_of Grain128a = grain128a
cipher_of Grain128aWide = grain128ax32
cipher_of Sprout = sprout
