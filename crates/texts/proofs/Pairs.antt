-- Hexadecimal digits pair by pair.
use Rattle.std.proofs.Common.{◌≡◌, ℕ, zero, suc, ◌+◌, ◌*◌, ◌/◌, ◌%◌, ◌<◌, List, [], ◌∷◌, ◌++◌, length, get_or, sym, refl, ◌∙◌, subst, append_assoc, append-nil, arith}
use Rattle.std.specs.Char.{digit_value}
use Rattle.std.specs.List.{AllByRecursion as All}
use Rattle.std.proofs.lemmas.Str.{digit_value-digit_char}
use Rattle.texts.specs.Dump.{hex_digits}
use Rattle.texts.specs.Hex.{Hex, HexOf, unhex}

-- what is left of the digits where the pairs before it are read, as octets: good digits, in pairs
pub record Left (digits octets rest : List ℕ) : Type 0 where
  pub good : Hex (length rest) rest
  pub even : length rest % 2 ≡ 0
  pub joined : octets ++ unhex rest ≡ unhex digits

-- no pair is read
pub left_all : (digits octets rest : List ℕ) → octets ≡ [] → rest ≡ digits → Hex (length digits) digits → length digits % 2 ≡ 0 → Left digits octets rest
left_all digits octets rest none all good even = rw (none, all) (record { good = good; even = even; joined = refl })

-- one more pair
pub left_more : (digits octets rest pair after : List ℕ) → Left digits octets rest → rest ≡ pair ++ after → length pair ≡ 2 → Left digits (octets ++ (16 * digit_value (get_or pair 0 0) + digit_value (get_or pair 1 0)) ∷ []) after
left_more digits octets rest [] after left split two = absurd (omega arith)
left_more digits octets rest (h ∷ []) after left split two = absurd (omega arith)
left_more digits octets rest (h ∷ l ∷ x ∷ xs) after left split two = absurd (omega arith)
left_more digits octets rest (h ∷ l ∷ []) after left split two =
    let here : Left digits octets (h ∷ l ∷ after) = subst (Left digits octets) split left in
    record {
      good = λ i k. here.good (suc (suc i)) (omega arith);
      even = omega (arith, here.even);
      joined = append_assoc octets _ (unhex after) ∙ here.joined;
    }

-- every pair
pub left_none : (digits octets rest : List ℕ) → Left digits octets rest → length rest < 2 → octets ≡ unhex digits
left_none digits octets [] left few = sym (append-nil octets) ∙ left.joined
left_none digits octets (h ∷ []) left few = absurd (omega (arith, left.even))
left_none digits octets (h ∷ l ∷ rest) left few = absurd (omega arith)

hex_cons : (c : ℕ) (bs : List ℕ) (n : ℕ) → digit_value c < 16 → Hex n bs → Hex (suc n) (c ∷ bs)
hex_cons c bs n d h zero l = d
hex_cons c bs n d h (suc i) l = h i (omega arith)

-- two digits more, which write x
hex_of_cons : (x c d : ℕ) (bs xs : List ℕ) → digit_value c ≡ x / 16 → digit_value d ≡ x % 16 → x < 256 → HexOf bs xs → HexOf (c ∷ d ∷ bs) (x ∷ xs)
hex_of_cons x c d bs xs p q l h = record {
  all_digits = hex_cons c (d ∷ bs) _ (omega arith) (hex_cons d bs _ (omega arith) h.all_digits);
  even_count = omega (arith, h.even_count);
  reads = λ i. octet i ∷ h.reads i;
}
  where
    octet : x ≡ 16 * digit_value c + digit_value d
    octet = omega arith

-- what is written of octets reads as those octets
pub reads_back : (xs : List ℕ) → All (λ x. x < 256) xs → HexOf (hex_digits xs) xs
reads_back [] a = record { all_digits = λ i l. absurd (omega arith); even_count = refl; reads = refl }
reads_back (x ∷ xs) a =
    hex_of_cons x _ _ _ xs (digit_value-digit_char _ (omega (arith, a.0))) (digit_value-digit_char _ (omega arith)) a.0 (reads_back xs a.1)
