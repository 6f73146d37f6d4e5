use Rattle.std.proofs.Common.{◌≡◌, ℕ, ◌+◌, ◌*◌, List, [], ◌∷◌, get_or, take, drop, refl, ◌∙◌, arith, get_or-drop}
use Rattle.link.specs.Frames.{octets_number}
use Rattle.receiver.proofs.frame.length_field.Goals as goal

-- the number of two octets
two : (f : List ℕ) → get_or f 0 0 + get_or f 1 0 * 256 ≡ octets_number (take 2 f)
unfolding octets_number
two [] = refl
two (a ∷ []) = omega arith
two (a ∷ b ∷ f) = omega arith

pub returns : goal.returns
returns c = c.from_le_bytes.ensures ∙ simp get_or-drop at (two (drop 8 c.args.octets.now))
