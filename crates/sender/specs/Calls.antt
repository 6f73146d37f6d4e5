-- What an accepted call does to a sender: to its store, its progress and the state of its engine.
use Rattle.std.specs.Prelude.{◌≡◌, ℕ, ◌+◌, ◌*◌, List, ◌++◌, length, drop, None}
use Rattle.stream.specs.Ciphers.{Cipher, later, session_iv}
use Rattle.marks.specs.Stores.{Raised, Torn}
use Rattle.link.specs.Senders.{open_refusal, send_refusal, sent_frame}
use Rattle.sender.specs.declared.progress.Progress.{Progress}

-- An accepted open: the store's mark is the session number, the store is raised, and the engine starts the session.
pub record Opened (c : Cipher) {S : Type 0} (mark left : S → ℕ) (key label : List ℕ) (allowance : ℕ) (before after : S) (p : Progress) (x : c.State) : Type 0 where
  pub unrefused : open_refusal c (left before) key label allowance ≡ None
  pub session_is : p.session ≡ mark before
  pub place_is : p.place ≡ 0
  pub allowance_is : p.allowance ≡ allowance
  pub raised : Raised mark left before after
  pub starts : x ≡ c.start key (session_iv label (mark before))

-- An open that was not refused and was cut short by a loss of power, after so many writes of the raise.
pub record Cut (c : Cipher) {S : Type 0} (mark left : S → ℕ) (writes done : ℕ) (key label : List ℕ) (allowance : ℕ) (before after : S) : Type 0 where
  pub unrefused : open_refusal c (left before) key label allowance ≡ None
  pub torn : Torn mark left writes done before after

-- An accepted send of a plain into a buffer, which answers n: the frame stands at the start of the buffer, and the rest is as it was.
pub record Sent (c : Cipher) (p q : Progress) (x y : c.State) (plain before after : List ℕ) (n : ℕ) : Type 0 where
  pub unrefused : send_refusal p.place p.allowance (length plain) (length before) ≡ None
  pub length_is : n ≡ 10 + length plain
  pub written : after ≡ sent_frame c p.session p.place x plain ++ drop n before
  pub session_is : q.session ≡ p.session
  pub place_is : q.place ≡ p.place + length plain
  pub allowance_is : q.allowance ≡ p.allowance
  pub moves : y ≡ later c (8 * length plain) x
