-- A cipher of the family at any two strides is one cipher.
use Rattle.std.proofs.Common.{ℕ, ◌≤◌, refl}
use Rattle.stream.specs.Ciphers.{OneCipher, keystream_bit}
use Rattle.grain128.specs.Family.{Member, SameCipher, cipher}

pub any_strides : (m : Member) (s t : ℕ) (s-low : 1 ≤ s) (s-high : s ≤ 32) (t-low : 1 ≤ t) (t-high : t ≤ 32) → OneCipher (cipher m s s-low s-high) (cipher m t t-low t-high)
unfolding keystream_bit
any_strides m s t s-low s-high t-low t-high = record {
  same_key = refl;
  same_iv = refl;
  same_label = refl;
  same_ceiling = refl;
  same_refusals = λ key iv. refl;
  same_keystream = λ key iv p. refl;
}

-- a cipher of the family at a stride is the cipher that it is, however its bounds are shown
pub same : (m : Member) (s : ℕ) (low low' : 1 ≤ s) (high high' : s ≤ 32) → SameCipher (cipher m s low high) (cipher m s low' high')
same m s low low' high high' = record { one = any_strides m s s low high low' high'; figures = refl }
