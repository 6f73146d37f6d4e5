use Rattle.std.proofs.Common.{◌≡◌, ℕ, ◌+◌, ◌*◌, List, [], ◌∷◌, get_or, take, drop, refl, ◌∙◌, arith, get_or-drop}
use native.Mathlib.Nat.{add-zero}
use Rattle.link.specs.Frames.{octets_number}
use Rattle.receiver.proofs.frame.number_at.Goals as goal

-- the number of four octets
four : (f : List ℕ)
    → get_or f 0 0 + get_or f 1 0 * 256 + get_or f 2 0 * 65536 + get_or f 3 0 * 16777216 ≡ octets_number (take 4 f)
unfolding octets_number
four [] = refl
four (a ∷ []) = omega arith
four (a ∷ b ∷ []) = omega arith
four (a ∷ b ∷ d ∷ []) = omega arith
four (a ∷ b ∷ d ∷ e ∷ f) = omega arith

pub returns : goal.returns
returns c = c.from_le_bytes.ensures ∙ simp (get_or-drop, add-zero) at (four (drop c.args.at c.args.octets.now))
