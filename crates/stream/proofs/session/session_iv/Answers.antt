use Rattle.std.proofs.Common.{◌≡◌, ℕ, suc, ◌+◌, ◌-◌, ◌≤◌, min, List, [], ◌∷◌, ◌++◌, length, take, drop, sym, refl, ap, ◌∙◌, append_assoc, arith, length-append, length-drop, length-take, take_all, drop-drop, take_at, drop_at}
use borrow.Rule.Slice.PartMut.{put_mid}
use Rattle.stream.specs.Ciphers.{four_octets, session_iv}
use Rattle.stream.proofs.session.session_iv.Goals as goal

-- octets written right behind those that were written from the start
written : (front new iv : List ℕ) (i k e : ℕ)
    → length front ≡ i → i + k ≡ e → put_mid i k (front ++ drop i iv) new ≡ (front ++ new) ++ drop e iv
written front new iv i k e long end =
    rw (take_at front (drop i iv) i long, drop_at front (drop i iv) i long, drop-drop k i iv, end)
    (sym (append_assoc front new (drop e iv)))

-- the label's first octet, where it has one, and the others
first-octet : (label : List ℕ)
    → (take (min (length label) 1) label ≡ take 1 label) × (drop (min (length label) 1) label ≡ drop 1 label)
first-octet [] = (refl, refl)
first-octet (x ∷ xs) = let one : min (suc (length xs)) 1 ≡ 1 = omega arith in (rw one, rw one)

-- the three parts written one behind the other are the session's IV
three_parts : (label iv a b d : List ℕ) (session h p q r : ℕ)
    → h ≡ min (length label) 1 → p ≡ h → q ≡ 4 → h + 4 + r ≡ length label + 4
    → a ≡ take p label → b ≡ four_octets session → d ≡ take (length label - h) (drop h label)
    → put_mid (h + 4) r (put_mid h q (a ++ drop p iv) b) d ≡ session_iv label session ++ drop (length label + 4) iv
three_parts label iv a b d session h p q r head same four rest a-is b-is d-is =
    let size : length a ≡ h = rw a-is (simp length-take (omega arith)) in
    let both : length (a ++ b) ≡ h + 4 = simp length-append (omega (arith, ap length b-is)) in
    let inner : put_mid h q (a ++ drop h iv) b ≡ (a ++ b) ++ drop (h + 4) iv = written a b iv h q (h + 4) size (omega arith) in
    let first : a ≡ take 1 label = a-is ∙ ap (λ n. take n label) (same ∙ head) ∙ (first-octet label).0 in
    let whole : length (drop h label) ≤ length label - h = simp length-drop (omega arith) in
    let others : d ≡ drop 1 label = d-is ∙ take_all _ _ whole ∙ ap (λ n. drop n label) head ∙ (first-octet label).1 in
    rw (same, inner, written (a ++ b) d iv (h + 4) r (length label + 4) both rest, first, b-is, others)

pub returns : goal.returns
returns c =
    let octets = c.copy_from_slice-2.ensures.after ∙ c.to_le_bytes-octets.ensures in (
      refl,
      omega arith,
      three_parts _ _ _ _ _ _ _ _ _ _ c.min-head.ensures (omega arith) (omega arith) (omega arith)
          c.copy_from_slice.ensures.after octets c.copy_from_slice-3.ensures.after,
    )
