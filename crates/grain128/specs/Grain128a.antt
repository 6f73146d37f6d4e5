-- Grain-128a in its mode without authentication, in which every z is keystream: Grain-128 with three changes.
use Rattle.std.specs.Prelude.{◌≡◌, ℕ, ◌≤◌, true, false, List, [], ◌∷◌, ◌++◌, replicate, slice_set, refl}
use Rattle.std.proofs.Common.{ap, arith, lit≤, get_or-set_other}
use Rattle.stream.specs.Bits.{bit, bits, first, octets_bit}
use Rattle.stream.specs.Ciphers.{Cipher}
use Rattle.registers.specs.Polynomials.{S, B, ◌⊕◌, ◌⊗◌}
use Rattle.grain128.specs.Family.{Member, cipher}
use Rattle.grain128.specs.Grain128.{nonlinear, output_front}

-- IV bit 0 lies in octet 0
pub first-bit_free : (iv : List ℕ) (i x : ℕ) → 1 ≤ i → i ≤ 4 → octets_bit (slice_set iv i x) 0 ≡ octets_bit iv 0
first-bit_free iv i x low high = ap (λ octet. bit octet 0) (get_or-set_other iv i 0 x 0 (omega arith))

-- three more products in the new b; s94 in place of s95 in the last product of z; s127 is zero; IV bit 0 must be 0
abbrev pub member : Member
member = record {
  nonlinear = nonlinear ⊕ B 88 ⊗ B 92 ⊗ B 93 ⊗ B 95 ⊕ B 22 ⊗ B 24 ⊗ B 25 ⊕ B 70 ⊗ B 78 ⊗ B 82;
  output = output_front ⊕ B 12 ⊗ B 95 ⊗ S 94;
  tail = replicate 31 true ++ (false ∷ []);
  forbids = λ iv. octets_bit iv 0;
  nonlinear_within = tt;
  output_within = tt;
  nonlinear_lone = tt;
  forbids_free = first-bit_free;
}

-- the tail as a number
pub tail_but_last : bits 32 0x7fff_ffff ≡ member.tail
unfolding bits first bit
tail_but_last = refl

-- at stride 1 and at stride 32
abbrev pub grain128a : Cipher
grain128a = cipher member 1 (lit≤ tt) (lit≤ tt)

abbrev pub grain128ax32 : Cipher
grain128ax32 = cipher member 32 (lit≤ tt) (lit≤ tt)
