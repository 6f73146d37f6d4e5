-- What the calls of the code promise, as steps of a history.
use Rattle.std.proofs.Common.{◌≡◌, ℕ, ◌+◌, ◌*◌, ◌⊎◌, List, ◌++◌, length, take, drop, Some, sym, ap, ◌∙◌, subst, inl, inr, arith, take_at}
use Rattle.std.proofs.lemmas.List.{drop_at}
use Rattle.stream.specs.Ciphers.{Cipher, later, session_iv}
use Rattle.stream.proofs.Streams.{length-cover}
use Rattle.marks.specs.Stores.{Raised, Wasted, Torn}
use Rattle.link.specs.Senders.{open_refusal, sent_frame}
use Rattle.sender.specs.Calls.{Opened, Cut, Sent}
use Rattle.sender.specs.declared.progress.Progress.{Progress}
use Rattle.runs.specs.Readings.{Acted, Beyond}
use Rattle.runs.specs.declared.calls.SenderAnswer.{SenderAnswer}
use Rattle.runs.specs.declared.calls.SenderCall.{SenderCall}
use Rattle.histories.specs.Calls.{Entry, opening, torn_opening, sending, opened, torn, sent, refused, made}
use Rattle.histories.specs.Histories.{Marks, mark, left, Sender, at_rest, in_session, Step, open_accepted, open_refused, torn_accepted, torn_refused, send_accepted}

module _ {S : Type 0} (m l : S → ℕ) where
  -- the numbers of a store
  abbrev pub of : S → Marks
  of s = (m s, l s)

  raised_of : (s t : S) → Raised m l s t → Raised mark left (of s) (of t)
  raised_of s t r = record { mark_is = r.mark_is; left_is = r.left_is }

  either_of : (s t : S) → Raised m l s t ⊎ Wasted m l s t → Raised mark left (of s) (of t) ⊎ Wasted mark left (of s) (of t)
  either_of s t (inl r) = inl (raised_of s t r)
  either_of s t (inr w) = inr (record { mark_is = w.mark_is; left_is = w.left_is })

  torn_of : (w n : ℕ) (s t : S) → Torn m l w n s t → Torn mark left w n (of s) (of t)
  torn_of w n s t r = record { either = either_of s t r.either; whole = λ h. raised_of s t (r.whole h) }

  module _ (c : Cipher) (w : ℕ) where
    pub open_step : (key label : List ℕ) (allowance : ℕ) (s t : S) (p : Progress) (x : c.State) → Opened c m l key label allowance s t p x
        → Step c w (at_rest (of s)) (made (opening key label allowance) (opened p.session)) (in_session (of t) p.session p.place p.allowance x)
    open_step key label allowance s t p x o =
        let To : ℕ × ℕ × ℕ × c.State → Type 0 =
        λ q. Step c w (at_rest (of s)) (made (opening key label allowance) (opened q.0)) (in_session (of t) q.0 q.1 q.2 q.3) in
        let same : ◌≡◌ {A = ℕ × ℕ × ℕ × c.State} (m s, 0, allowance, c.start key (session_iv label (m s))) (p.session, p.place, p.allowance, x) =
        λ i. (sym o.session_is i, sym o.place_is i, sym o.allowance_is i, sym o.starts i) in
        subst To same (open_accepted o.unrefused (raised_of s t o.raised))

    pub torn_step : (key label : List ℕ) (allowance writes junk : ℕ) (s t : S) → Cut c m l w writes key label allowance s t
        → Step c w (at_rest (of s)) (made (torn_opening key label allowance writes junk) torn) (at_rest (of t))
    torn_step key label allowance writes junk s t o = torn_accepted o.unrefused (torn_of w writes s t o.torn)

    -- the frame is what a buffer of its length begins with
    cut_frame : (number place : ℕ) (x : c.State) (plain rest : List ℕ) (n : ℕ) → n ≡ 10 + length plain
        → take n (sent_frame c number place x plain ++ rest) ≡ sent_frame c number place x plain
    cut_frame number place x plain rest n n-is =
        take_at (sent_frame c number place x plain) rest n (omega (arith, length-cover c x plain))

    pub send_step : (s t : S) (p q : Progress) (x y : c.State) (plain before after items : List ℕ) (n : ℕ) → Sent c p q x y plain before after n → t ≡ s → items ≡ take n after
        → Step c w (in_session (of s) p.session p.place p.allowance x) (made (sending plain (length before)) (sent n items))
        (in_session (of t) q.session q.place q.allowance y)
    send_step s t p q x y plain before after items n o store_is items-are =
        let f : List ℕ = sent_frame c p.session p.place x plain in
        let To : List ℕ × Marks × ℕ × ℕ × ℕ × c.State × ℕ → Type 0 =
        λ v. Step c w (in_session (of s) p.session p.place p.allowance x) (made (sending plain (length before)) (sent v.6 v.0))
        (in_session v.1 v.2 v.3 v.4 v.5) in
        let framed : items ≡ f =
        items-are ∙ ap (take n) o.written ∙ cut_frame p.session p.place x plain (drop n before) n o.length_is in
        let same : ◌≡◌ {A = List ℕ × Marks × ℕ × ℕ × ℕ × c.State × ℕ} (f, of s, p.session, p.place + length plain, p.allowance, later c (8 * length plain) x, 10 + length plain)
        (items, of t, q.session, q.place, q.allowance, y, n) =
        λ i. (sym framed i, ap of (sym store_is) i, sym o.session_is i, sym o.place_is i, sym o.allowance_is i, sym o.moves i, sym o.length_is i) in
        subst To same (send_accepted o.unrefused)

    -- beyond the frame the buffer is as it was
    pub send_beyond : (p q : Progress) (x y : c.State) (plain before after : List ℕ) (n : ℕ) → Sent c p q x y plain before after n → length after ≡ length before → Beyond n before after
    send_beyond p q x y plain before after n o room =
        let f : List ℕ = sent_frame c p.session p.place x plain in
        record { room = room; rest = ap (drop n) o.written ∙ drop_at f (drop n before) n (omega (arith, length-cover c x plain, o.length_is)) }

    -- refused calls leave the sender
    pub open_no_step : (key label : List ℕ) (allowance n : ℕ) (s t : S) → open_refusal c (l s) key label allowance ≡ Some n → t ≡ s
        → Step c w (at_rest (of s)) (made (opening key label allowance) (refused n)) (at_rest (of t))
    open_no_step key label allowance n s t r e =
        subst (λ v. Step c w (at_rest (of s)) (made (opening key label allowance) (refused n)) (at_rest (of v))) (sym e) (open_refused r)

    pub torn_no_step : (key label : List ℕ) (allowance writes junk n : ℕ) (s t : S) → open_refusal c (l s) key label allowance ≡ Some n → t ≡ s
        → Step c w (at_rest (of s)) (made (torn_opening key label allowance writes junk) (refused n)) (at_rest (of t))
    torn_no_step key label allowance writes junk n s t r e =
        subst (λ v. Step c w (at_rest (of s)) (made (torn_opening key label allowance writes junk) (refused n)) (at_rest (of v))) (sym e) (torn_refused r)

-- a buffer that a call leaves as it was
pub unwritten : (n : ℕ) (before after : List ℕ) → after ≡ before → Beyond n before after
unwritten n before after same = record { room = ap length same; rest = ap (drop n) same }

-- what a call did that is known
pub for_call : (c : Cipher) (w : ℕ) (s t : Sender c) (before after : List ℕ) (a : SenderAnswer) (call known : SenderCall) → call ≡ known
    → Acted c w s known before after a t → Acted c w s call before after a t
for_call c w s t before after a call known e did = subst (λ v. Acted c w s v before after a t) (sym e) did

-- a step to a sender at rest over the same store
pub same_store : {S : Type 0} (m l : S → ℕ) (c : Cipher) (w : ℕ) (s : Sender c) (e : Entry) (u v : S) → v ≡ u → Step c w s e (at_rest (m u, l u)) → Step c w s e (at_rest (m v, l v))
same_store m l c w s e u v same step = subst (λ x. Step c w s e (at_rest (m x, l x))) (sym same) step
