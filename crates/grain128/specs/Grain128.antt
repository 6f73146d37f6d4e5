-- Grain-128.
use Rattle.std.specs.Prelude.{◌≡◌, true, false, replicate, refl}
use Rattle.std.proofs.Common.{lit≤}
use Rattle.stream.specs.Bits.{bit, bits, first}
use Rattle.stream.specs.Ciphers.{Cipher}
use Rattle.registers.specs.Polynomials.{Poly, S, B, ◌⊕◌, ◌⊗◌}
use Rattle.grain128.specs.Family.{Member, cipher}

abbrev pub nonlinear : Poly
nonlinear =
    S 0 ⊕ B 0 ⊕ B 26 ⊕ B 56 ⊕ B 91 ⊕ B 96 ⊕ B 3 ⊗ B 67 ⊕ B 11 ⊗ B 13 ⊕ B 17 ⊗ B 18 ⊕ B 27 ⊗ B 59 ⊕ B 40 ⊗ B 48 ⊕ B 61 ⊗ B 65 ⊕ B 68 ⊗ B 84

-- the output z but for its last product
abbrev pub output_front : Poly
output_front =
    B 2 ⊕ B 15 ⊕ B 36 ⊕ B 45 ⊕ B 64 ⊕ B 73 ⊕ B 89 ⊕ S 93 ⊕ B 12 ⊗ S 8 ⊕ S 13 ⊗ S 20 ⊕ B 95 ⊗ S 42 ⊕ S 60 ⊗ S 79

-- the rest of s is ones, and no IV is forbidden
abbrev pub member : Member
member = record {
  nonlinear = nonlinear;
  output = output_front ⊕ B 12 ⊗ B 95 ⊗ S 95;
  tail = replicate 32 true;
  forbids = λ iv. false;
  nonlinear_within = tt;
  output_within = tt;
  nonlinear_lone = tt;
  forbids_free = λ iv i x low high. refl;
}

-- the tail as a number
pub tail_whole : bits 32 0xffff_ffff ≡ member.tail
unfolding bits first bit
tail_whole = refl

-- at stride 1 and at stride 32
abbrev pub grain128 : Cipher
grain128 = cipher member 1 (lit≤ tt) (lit≤ tt)

abbrev pub grain128x32 : Cipher
grain128x32 = cipher member 32 (lit≤ tt) (lit≤ tt)
