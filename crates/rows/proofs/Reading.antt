-- Reading an input piece by piece: what has been read so far, after a piece, and where reading ends.
use Rattle.std.specs.Prelude.{◌≡◌, refl, List, [], ◌++◌, ℕ, ◌+◌, ◌-◌, ◌^◌, ◌<◌, ◌≤◌, length, ⊤, Some, None, Result}
use Rattle.std.proofs.Common.{sym, ap, ◌∙◌, arith, append_assoc, length-append}
use Rattle.std.proofs.lemmas.List.{append-nil, nil_from_length}
use Rattle.std.specs.Io.KnownBytes.{Consumes, IsAtEnd}
use Rattle.std.specs.declared.option.Option.{Option}
use Rattle.text.specs.declared.reading.Counts.{Counts}
use Rattle.text.specs.declared.reading.Held.{Held}
use Rattle.text.specs.declared.reading.Line.{Line}
use Rattle.text.specs.declared.reading.State.{State}
use Rattle.text.specs.Feeding.{held, start, fed_all, fed-append, answer_of, finish_of}
use Rattle.text.specs.Readings.{read_text}
use Rattle.text.specs.TextFed.{answer_for, after, TextHeld}
use Rattle.text.proofs.TextFed.{text-fed, still}
use Rattle.rows.specs.Reads.{ReadsText}

none-left : (text read rest : List ℕ) → text ≡ read ++ rest → rest ≡ [] → read ≡ text
none-left text read rest p z = sym (p ∙ ap (λ (b : List ℕ). read ++ b) z ∙ append-nil read)

module _ (W T C : List ℕ) where
  -- of the text so much has been read, with so many turns left, and the rest has not
  pub record ReadOf (text rest : List ℕ) (h : Held) (turns : ℕ) : Type 0 where
    pub read : List ℕ
    pub parted : text ≡ read ++ rest
    pub is_fed : h ≡ after W T C read
    pub counted : 2 ^ 64 - 1 ≤ turns + length read

  -- the same of the bytes that the input had left, where these are known
  abbrev pub ReadSoFar : Option (List ℕ) → Option (List ℕ) → Held → ℕ → Type 0
  ReadSoFar None left h turns = ⊤
  ReadSoFar (Some text) None h turns = ⊥
  ReadSoFar (Some text) (Some rest) h turns = ReadOf text rest h turns

  pub nothing-read : (known : Option (List ℕ)) (s : State) → s ≡ start → ReadSoFar known known (held s W T C) (2 ^ 64 - 1)
  unfolding fed_all
  nothing-read None s e = tt
  nothing-read (Some text) s e = record { read = []; parted = refl; is_fed = ap (λ (q : State). held q W T C) e; counted = omega arith }

  -- one more piece
  pub piece-read : (known left left' : Option (List ℕ)) (h h' : Held) (turns turns' : ℕ) (piece : List ℕ) → ReadSoFar known left h turns → Consumes left left' piece
      → h' ≡ fed_all h piece → 0 < length piece → turns ≤ turns' + 1 → ReadSoFar known left' h' turns'
  piece-read None left left' h h' turns turns' piece r c e l t = tt
  piece-read (Some text) None left' h h' turns turns' piece r c e l t = absurd r
  piece-read (Some text) (Some rest) None h h' turns turns' piece r c e l t = absurd c
  piece-read (Some text) (Some rest) (Some rest') h h' turns turns' piece r c e l t =
      record {
        read = r.read ++ piece;
        parted = r.parted ∙ ap (λ (b : List ℕ). r.read ++ b) c ∙ sym (append_assoc r.read piece rest');
        is_fed = e ∙ ap (λ (k : Held). fed_all k piece) r.is_fed ∙ sym (fed-append (held start W T C) r.read piece);
        counted = omega (arith, r.counted, length-append r.read piece);
      }

  -- all of it has been read
  all-read : (text : List ℕ) (h : Held) (said : Result Counts Line) → h ≡ after W T C text → said ≡ finish_of h.state
      → (said ≡ answer_for (read_text text)) × TextHeld W T C text h.words h.tokens h.cuts
  all-read text h said e s = (
    s ∙ ap (λ (k : Held). finish_of k.state) e ∙ (text-fed W T C text).finished,
    record { words_held = ap (λ (k : Held). k.words) e; tokens_held = ap (λ (k : Held). k.tokens) e; cuts_held = ap (λ (k : Held). k.cuts) e },
  )

  -- reading ends where a read gives nothing and nothing is left
  pub read-to-end : (known left left' : Option (List ℕ)) (h : Held) (turns : ℕ) (said : Result Counts Line) → ReadSoFar known left h turns → Consumes left left' []
      → IsAtEnd left' → said ≡ finish_of h.state → ReadsText W T C known said h.words h.tokens h.cuts
  read-to-end None left left' h turns said r c z s = tt
  read-to-end (Some text) None left' h turns said r c z s = absurd r
  read-to-end (Some text) (Some rest) None h turns said r c z s = absurd c
  read-to-end (Some text) (Some rest) (Some rest') h turns said r c z s =
      λ short. all-read text h said (r.is_fed ∙ ap (λ (b : List ℕ). after W T C b) (none-left text r.read rest r.parted (c ∙ z))) s

  -- or where the text says what it says, whatever comes
  pub read-to-answer : (known left : Option (List ℕ)) (h : Held) (turns : ℕ) (said : Result Counts Line) → ReadSoFar known left h turns → (answer_of h.state ≡ None → ⊥)
      → said ≡ finish_of h.state → ReadsText W T C known said h.words h.tokens h.cuts
  read-to-answer None left h turns said r n s = tt
  read-to-answer (Some text) None h turns said r n s = absurd r
  read-to-answer (Some text) (Some rest) h turns said r n s = λ short. all-read text h said (sym whole) s
    where
      whole : after W T C text ≡ h
      whole =
          ap (λ (b : List ℕ). after W T C b) r.parted
          ∙ fed-append (held start W T C) r.read rest
          ∙ ap (λ (k : Held). fed_all k rest) (sym r.is_fed)
          ∙ still h n rest

  -- or after as many turns as no text has bytes
  pub read-to-turns : (known left : Option (List ℕ)) (h : Held) (turns : ℕ) (said : Result Counts Line) → ReadSoFar known left h turns → turns ≡ 0 → said ≡ finish_of h.state
      → ReadsText W T C known said h.words h.tokens h.cuts
  read-to-turns None left h turns said r o s = tt
  read-to-turns (Some text) None h turns said r o s = absurd r
  read-to-turns (Some text) (Some rest) h turns said r o s =
      λ short.
      let e : length rest ≡ 0 = omega (arith, r.counted, short, o, ap length r.parted ∙ length-append r.read rest) in
      all-read text h said (r.is_fed ∙ ap (λ (b : List ℕ). after W T C b) (none-left text r.read rest r.parted (nil_from_length rest e))) s
