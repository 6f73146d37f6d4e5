-- The words of a line by their places, and what each of them is to be.
use Rattle.std.proofs.Common.{◌≡◌, ℕ, ◌≤◌, ◌<◌, List, [], ◌∷◌, length, get_or, map, string_bytes, codes, String, sym, refl, ap, subst, inl, inr, ◌∙◌, arith}
use Rattle.scenario.specs.Grammar.{Kind, engine_kind, number_kind, octets_kind, word32_kind, fresh_kind, command_word, takes, OneOf, Fits, InPlace, ReadAs}
use Rattle.scenario.specs.declared.command.Command.{Command}

module _ {Z : Type 0} where
  -- the texts of one, two or three words, each known by its place
  pub one_word : (ws : List (String Z)) (v : String Z) (a : List ℕ) → 1 ≤ length ws → length ws < 2
      → v ≡ get_or ws 0 v → a ≡ string_bytes v → map string_bytes ws ≡ a ∷ []
  one_word [] v a l u p e = absurd (omega arith)
  one_word (w ∷ []) v a l u p e = ap (λ t. t ∷ []) (sym (e ∙ ap string_bytes p))
  one_word (w ∷ x ∷ ws) v a l u p e = absurd (omega arith)

  pub two_words : (ws : List (String Z)) (v x : String Z) (a b : List ℕ) → 2 ≤ length ws → length ws < 3
      → v ≡ get_or ws 0 v → x ≡ get_or ws 1 x → a ≡ string_bytes v → b ≡ string_bytes x → map string_bytes ws ≡ a ∷ b ∷ []
  two_words [] v x a b l u p q e f = absurd (omega arith)
  two_words (w ∷ ws) v x a b l u p q e f =
      rw (e ∙ ap string_bytes p) (ap (λ t. string_bytes w ∷ t) (one_word ws x b (omega arith) (omega arith) q f))

  pub three_words : (ws : List (String Z)) (v x y : String Z) (a b d : List ℕ) → 3 ≤ length ws → length ws < 4
      → v ≡ get_or ws 0 v → x ≡ get_or ws 1 x → y ≡ get_or ws 2 y → a ≡ string_bytes v → b ≡ string_bytes x → d ≡ string_bytes y → map string_bytes ws ≡ a ∷ b ∷ d ∷ []
  three_words [] v x y a b d l u p q r e f g = absurd (omega arith)
  three_words (w ∷ ws) v x y a b d l u p q r e f g =
      rw (e ∙ ap string_bytes p) (ap (λ t. string_bytes w ∷ t) (two_words ws x y b d (omega arith) (omega arith) q r f g))

module _ (c : Command) (ws : List (List ℕ)) where
  -- a word that stands where one of the rows has the kind k
  read_as : (k : Kind) (w : List ℕ) (row : List Kind) (rows : List (List Kind)) → takes c ≡ rows → OneOf row rows → (vs : List (List ℕ)) → ws ≡ vs → Fits row vs → InPlace k w row vs → ReadAs k (command_word c ∷ ws) w
  read_as k w row rows t o vs e f s = record { command = c; after = vs; row = row; words = ap (λ r. command_word c ∷ r) e; taken = subst (OneOf row) (sym t) o; fits = f; place = s }

  pub reads_engine : (w : List ℕ) → takes c ≡ (engine_kind ∷ []) ∷ [] → ws ≡ w ∷ [] → ReadAs engine_kind (command_word c ∷ ws) w
  reads_engine w t p = read_as engine_kind w _ _ t (inl refl) (w ∷ []) p (tt, tt) (inl (refl, refl))

  pub reads_number : (w : List ℕ) → takes c ≡ (number_kind ∷ []) ∷ [] → ws ≡ w ∷ [] → ReadAs number_kind (command_word c ∷ ws) w
  reads_number w t p = read_as number_kind w _ _ t (inl refl) (w ∷ []) p (tt, tt) (inl (refl, refl))

  pub reads_octets : (w : List ℕ) (rows : List (List Kind)) → takes c ≡ rows → OneOf (octets_kind ∷ []) rows → ws ≡ w ∷ [] → ReadAs octets_kind (command_word c ∷ ws) w
  reads_octets w rows t o p = read_as octets_kind w _ rows t o (w ∷ []) p (tt, tt) (inl (refl, refl))

  pub reads_fresh : (w : List ℕ) (rows : List (List Kind)) → takes c ≡ rows → OneOf (fresh_kind ∷ number_kind ∷ []) rows → ws ≡ codes "fresh" ∷ w ∷ [] → ReadAs number_kind (command_word c ∷ ws) w
  reads_fresh w rows t o p = read_as number_kind w _ rows t o (codes "fresh" ∷ w ∷ []) p (refl, (tt, tt)) (inr (inl (refl, refl)))

  -- the words after `torn` and `alter`
  module _ (a b : List ℕ) (t : takes c ≡ (number_kind ∷ word32_kind ∷ []) ∷ []) (p : ws ≡ a ∷ b ∷ []) where
    pub reads_writes : ReadAs number_kind (command_word c ∷ ws) a
    reads_writes = read_as number_kind a _ _ t (inl refl) (a ∷ b ∷ []) p (tt, (tt, tt)) (inl (refl, refl))

    pub reads_junk : ReadAs word32_kind (command_word c ∷ ws) b
    reads_junk = read_as word32_kind b _ _ t (inl refl) (a ∷ b ∷ []) p (tt, (tt, tt)) (inr (inl (refl, refl)))

  module _ (a b d : List ℕ) (t : takes c ≡ (number_kind ∷ number_kind ∷ octets_kind ∷ []) ∷ []) (p : ws ≡ a ∷ b ∷ d ∷ []) where
    pub reads_frame : ReadAs number_kind (command_word c ∷ ws) a
    reads_frame = read_as number_kind a _ _ t (inl refl) (a ∷ b ∷ d ∷ []) p (tt, (tt, (tt, tt))) (inl (refl, refl))

    pub reads_at : ReadAs number_kind (command_word c ∷ ws) b
    reads_at = read_as number_kind b _ _ t (inl refl) (a ∷ b ∷ d ∷ []) p (tt, (tt, (tt, tt))) (inr (inl (refl, refl)))

    pub reads_change : ReadAs octets_kind (command_word c ∷ ws) d
    reads_change = read_as octets_kind d _ _ t (inl refl) (a ∷ b ∷ d ∷ []) p (tt, (tt, (tt, tt))) (inr (inr (inl (refl, refl))))
