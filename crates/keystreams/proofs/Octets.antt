-- Places in a keystream, its octets as zeros covered, and octets covered twice.
use Rattle.std.proofs.Common.{◌≡◌, ℕ, ◌+◌, ◌*◌, ◌<◌, List, length, get_or, replicate, sym, refl, ap, ◌∙◌, arith, ext_get_or}
use lib.Bits.{bit_xor, xor_zero_l}
use lib.ListN.{length-replicate, get_or-replicate}
use Rattle.stream.specs.Ciphers.{Cipher, later, octet, keystream_octet, cover}
use Rattle.stream.proofs.Packed.{length-first, get_or-first}
use Rattle.stream.proofs.Streams.{later_more, length-cover, get_or-cover, cover_twice}
use Rattle.keystreams.specs.Uses.{place, keystream_octets}

-- n octets on from the place of octet q
pub moved_on : (c : Cipher) (key iv : List ℕ) (s next : c.State) (q m n : ℕ)
    → s ≡ place c key iv q → next ≡ later c (8 * m) s → m ≡ n → next ≡ place c key iv (q + n)
moved_on c key iv s next q m n here there same =
    later_more c (c.start key iv) s next (8 * q) (8 * m) (8 * (q + n)) here there (omega arith)

-- octets covered from the place of octet q
pub covered_at : (c : Cipher) (key iv xs ys : List ℕ) (s : c.State) (q : ℕ)
    → s ≡ place c key iv q → ys ≡ cover c s xs → ys ≡ cover c (place c key iv q) xs
covered_at c key iv xs ys s q here covered = covered ∙ ap (λ t. cover c t xs) here

-- the octet that the state at octet q gives, i octets on
octet_at : (c : Cipher) (key iv : List ℕ) (s : c.State) (q i : ℕ)
    → s ≡ place c key iv q → octet c (later c (8 * i) s) ≡ keystream_octet c key iv (q + i)
unfolding keystream_octet
octet_at c key iv s q i here = ap (octet c) (moved_on c key iv s (later c (8 * i) s) q i i here refl refl)

-- zeros covered from octet q on are the keystream
pub zeros-covered : (c : Cipher) (key iv xs ys : List ℕ) (s : c.State) (q n : ℕ)
    → s ≡ place c key iv q → xs ≡ replicate n 0 → ys ≡ cover c s xs → ys ≡ keystream_octets c key iv q n
zeros-covered c key iv xs ys s q n here zeros covered =
    covered ∙ ext_get_or 0 (cover c s xs) (keystream_octets c key iv q n) (length-cover c s xs ∙ size ∙ sym (length-first n _))
    (λ i h. let within : i < length xs = omega (arith, length-cover c s xs) in
    get_or-cover c s xs i within
    ∙ ap (λ x. bit_xor x (octet c (later c (8 * i) s))) (ap (λ l. get_or l i 0) zeros ∙ get_or-replicate n i 0 0 (omega (arith, size)))
    ∙ xor_zero_l _ ∙ octet_at c key iv s q i here ∙ sym (get_or-first n _ i 0 (omega (arith, size))))
  where
    size : length xs ≡ n
    size = ap length zeros ∙ length-replicate n 0

-- covered twice from one state, octets are as they were
pub uncovered_again : (c : Cipher) (s : c.State) (message covered lent again : List ℕ)
    → covered ≡ cover c s message → lent ≡ covered → again ≡ cover c s lent → again ≡ message
uncovered_again c s message covered lent again once same twice =
    twice ∙ ap (cover c s) (same ∙ once) ∙ cover_twice c s message

-- what is covered once more is as long as the message
pub length_again : (c : Cipher) (s : c.State) (message covered lent : List ℕ)
    → covered ≡ cover c s message → lent ≡ covered → length lent ≡ length message
length_again c s message covered lent once same = ap length (same ∙ once) ∙ length-cover c s message
