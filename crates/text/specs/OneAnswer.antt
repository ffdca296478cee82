-- The promises of reading admit one answer only: what is given back, and every word of the three buffers, good text or bad.
-- Document 01, "How far promises go": "Prove that the promise admits one answer only". Over lent buffers the contracts of feed and feed_piece are one
-- equation of a state and the three buffers, that of read_text an equation of the answer and a record of what each buffer holds. The methods of a
-- `Held` promise one equation of it whole, and its read_text one of the answer besides. All others of this crate are equations of their answer.
-- Rests on Feeding and TextFed.
--
-- Main statements: held-once (feed, feed_piece, and the methods of a `Held`), text-held-once (read_text), and that both speak of what the methods'
-- contracts say too: held-parts for held-once, after-held for text-held-once.
use Rattle.std.specs.Prelude.{◌≡◌, List, ℕ}
use Rattle.std.proofs.Common.{sym, ap, ◌∙◌}
use Rattle.text.specs.declared.reading.Held.{Held}
use Rattle.text.specs.declared.reading.State.{State}
use Rattle.text.specs.Feeding.{held}
use Rattle.text.specs.TextFed.{after, TextHeld}

-- `promise` is what fed, fed_all or after gives
pub held-once : {r r' : State} {W T C W' T' C' : List ℕ} (promise : Held) → held r W T C ≡ promise → held r' W' T' C' ≡ promise
    → (r ≡ r') × (W ≡ W') × (T ≡ T') × (C ≡ C')
held-once promise p q =
    let e = p ∙ sym q in
    (ap (λ (h : Held). h.state) e, ap (λ (h : Held). h.words) e, ap (λ (h : Held). h.tokens) e, ap (λ (h : Held). h.cuts) e)

-- a `Held` that is the promise is so by its parts
pub held-parts : (promise h : Held) → h ≡ promise → held h.state h.words h.tokens h.cuts ≡ promise
held-parts promise h e = e

pub text-held-once : (W T C text : List ℕ) {W' T' C' W'' T'' C'' : List ℕ} → TextHeld W T C text W' T' C' → TextHeld W T C text W'' T'' C''
    → (W' ≡ W'') × (T' ≡ T'') × (C' ≡ C'')
text-held-once W T C text a b = (a.words_held ∙ sym b.words_held, a.tokens_held ∙ sym b.tokens_held, a.cuts_held ∙ sym b.cuts_held)

-- a `Held` that is what `after` gives, as its read_text leaves it, has in its buffers what a text leaves there
pub after-held : (W T C text : List ℕ) (h : Held) → h ≡ after W T C text → TextHeld W T C text h.words h.tokens h.cuts
after-held W T C text h e =
    record { words_held = ap (λ (k : Held). k.words) e; tokens_held = ap (λ (k : Held). k.tokens) e; cuts_held = ap (λ (k : Held). k.cuts) e }
