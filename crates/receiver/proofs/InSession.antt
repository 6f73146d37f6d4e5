-- Where the engine of a receiver stands that was told a key and a label.
use Rattle.std.proofs.Common.{◌≡◌, ℕ, Some, None, Option}
use Rattle.stream.specs.Ciphers.{Cipher}
use Rattle.link.specs.Receivers.{Known, Stands}
use Rattle.link.specs.Sessions.{state_at, pair_refusal}

-- what was told was not refused
pub paired_of : (c : Cipher) (k : Known) (present : Option ℕ) (place : ℕ) (x : c.State)
    → Stands c (Some k) present place x → pair_refusal c k.key k.label k.allowance ≡ None
paired_of c k None place x stood = stood
paired_of c k (Some n) place x stood = stood.0

-- the engine stands at the place of the present session
abbrev pub InSession : (c : Cipher) → Known → ℕ → ℕ → c.State → Type 0
InSession c k n place x = (pair_refusal c k.key k.label k.allowance ≡ None) × (x ≡ state_at c k.key k.label n place)

pub session_of : (c : Cipher) (o k : Option Known) (told : Known) (present : Option ℕ) (n place : ℕ) (x : c.State)
    → o ≡ k → k ≡ Some told → present ≡ Some n → Stands c o present place x → InSession c told n place x
session_of c o k told present n place x same is here stood = rw (same, is, here) at stood

pub stands_at : (c : Cipher) (o k : Option Known) (told : Known) (present : Option ℕ) (n place : ℕ) (x : c.State)
    → o ≡ k → k ≡ Some told → present ≡ Some n → InSession c told n place x → Stands c o present place x
stands_at c o k told present n place x same is here stood = rw (same, is, here) stood
