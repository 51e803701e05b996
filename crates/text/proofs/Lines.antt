-- What is read byte by byte, in chunks of any sizes, is what is read line by line, and down to the tokens of each line: by induction over the
-- bytes, where a line that is begun takes the first line of the bytes behind it.
use Prim.Native.Nat.{ℕ}
use mathlib.Core.Path.{◌≡◌, refl, sym, ◌∙◌, ap}
use mathlib.Core.Bool.{Bool, true, false, cond}
use mathlib.Core.List.{List, [], ◌∷◌, ◌++◌}
use lib.Dec.{eqb}
use Rattle.text.specs.Bytes.{tokens, add_to_lines, lines}
use Rattle.text.specs.Fold.{run_bytes, tokens_read, token_byte, line_read}
use Rattle.text.specs.Lines.{all_chunks, run_chunks, lines_read, text_byte, EndsLines, MarkedState, marked_byte, marked_end, marked_finish, token_lines_read, token_line_end}
use Rattle.text.proofs.Fold.{line-tokens}

-- ---- chunks

module _ {S : Type 0} (step : S → ℕ → S) where
  pub run-append : (s : S) (c d : List ℕ) → run_bytes step s (c ++ d) ≡ run_bytes step (run_bytes step s c) d
  run-append s [] d = refl
  run-append s (b ∷ c) d = run-append (step s b) c d

  pub run-chunks : (s : S) (cs : List (List ℕ)) → run_chunks step s cs ≡ run_bytes step s (all_chunks cs)
  run-chunks s [] = refl
  run-chunks s (c ∷ cs) = run-chunks (run_bytes step s c) cs ∙ sym (run-append s c (all_chunks cs))

-- ---- lines

module _ {S : Type 0} (byte : S → ℕ → S) (line-end : S → S) where
  -- The lines of the bytes behind a line that is begun, whose first belongs to it.
  rest : Bool → S → List (List ℕ) → S
  rest true s [] = line-end s
  rest true s (l ∷ ls) = lines_read byte line-end (line-end (run_bytes byte s l)) ls
  rest false s ls = lines_read byte line-end s ls

  at-end : (g : Bool) (s : S) (ls : List (List ℕ)) → rest false (line-end s) ls ≡ rest g s ([] ∷ ls)
  unfolding rest
  at-end true s ls = refl
  at-end false s ls = refl

  at_byte : (g : Bool) (s : S) (b : ℕ) (ls : List (List ℕ)) → rest true (byte s b) ls ≡ rest g s (add_to_lines false b ls)
  unfolding rest
  at_byte true s b [] = refl
  at_byte true s b (l ∷ ls) = refl
  at_byte false s b [] = refl
  at_byte false s b (l ∷ ls) = refl

  module _ {finish : S → S} {begun : S → Bool} (h : EndsLines byte line-end finish begun) where
    read-rest : (text : List ℕ) (g : Bool) (s : S) → begun s ≡ g → finish (run_bytes (text_byte byte line-end) s text) ≡ rest g s (lines text)
    unfolding rest lines
    read-rest [] true s e = h.last_line s e
    read-rest [] false s e = h.no_line s e
    read-rest (b ∷ bs) g s e = go (eqb b 10) refl (λ g' s' e'. read-rest bs g' s' e')
      where
        go : (c : Bool) → eqb b 10 ≡ c → ((g' : Bool) (s' : S) → begun s' ≡ g' → finish (run_bytes (text_byte byte line-end) s' bs) ≡ rest g' s' (lines bs))
            → finish (run_bytes (text_byte byte line-end) (cond c (line-end s) (byte s b)) bs) ≡ rest g s (add_to_lines c b (lines bs))
        go true p ih = ih false (line-end s) (h.ends s) ∙ at-end g s (lines bs)
        go false p ih = ih true (byte s b) (h.begins s b p) ∙ at_byte g s b (lines bs)

    -- A text, read from a state between lines.
    pub text-lines : (text : List ℕ) (s : S) → begun s ≡ false → finish (run_bytes (text_byte byte line-end) s text) ≡ lines_read byte line-end s (lines text)
    unfolding rest
    text-lines text s e = read-rest text false s e

    -- The same in chunks, however it is cut: inside a line, before or behind a byte 10, with chunks without bytes.
    pub chunks-lines : (chunks : List (List ℕ)) (s : S) → begun s ≡ false
        → finish (run_chunks (text_byte byte line-end) s chunks) ≡ lines_read byte line-end s (lines (all_chunks chunks))
    chunks-lines chunks s e = ap finish (run-chunks (text_byte byte line-end) s chunks) ∙ text-lines (all_chunks chunks) s e

-- ---- any machine, with a mark

module _ {S : Type 0} (byte : S → ℕ → S) (line-end : S → S) where
  pub marked-ends : EndsLines {S = MarkedState S} (marked_byte byte line-end) (marked_end byte line-end) (marked_finish byte line-end) (λ r. r.begun)
  marked-ends = record { begins = λ s b e. refl; ends = λ s. refl; last_line = λ s e. last s e; no_line = λ s e. none s e }
    where
      last : (s : MarkedState S) → s.begun ≡ true → marked_finish byte line-end s ≡ marked_end byte line-end s
      last s e = λ i. record { begun = false; state = cond (e i) (line-end s.state) s.state }

      none : (s : MarkedState S) → s.begun ≡ false → marked_finish byte line-end s ≡ s
      none s e = λ i. record { begun = sym e i; state = cond (e i) (line-end s.state) s.state }

  marked-run : (l : List ℕ) (r : MarkedState S) → (run_bytes (marked_byte byte line-end) r l).state ≡ run_bytes byte r.state l
  marked-run [] r = refl
  marked-run (b ∷ bs) r = marked-run bs (marked_byte byte line-end r b)

  marked-lines : (ls : List (List ℕ)) (r : MarkedState S) → (lines_read (marked_byte byte line-end) (marked_end byte line-end) r ls).state ≡ lines_read byte line-end r.state ls
  marked-lines [] r = refl
  marked-lines (l ∷ ls) r = marked-lines ls (marked_end byte line-end (run_bytes (marked_byte byte line-end) r l)) ∙ ap (λ s. lines_read byte line-end (line-end s) ls) (marked-run l r)

  pub marked-chunks : (chunks : List (List ℕ)) (s : S)
      → (marked_finish byte line-end (run_chunks (text_byte (marked_byte byte line-end) (marked_end byte line-end)) (record { begun = false; state = s }) chunks)).state ≡ lines_read byte line-end s (lines (all_chunks chunks))
  marked-chunks chunks s =
      ap (λ r. r.state) (chunks-lines (marked_byte byte line-end) (marked_end byte line-end) marked-ends chunks (record { begun = false; state = s }) refl)
      ∙ marked-lines (lines (all_chunks chunks)) (record { begun = false; state = s })

-- ---- lines and their tokens

module _ {S : Type 0} (byte : S → ℕ → S) (token_end line-end : S → S) where
  -- A line read byte by byte, its tokens ended as they end, is its tokens read one after the other.
  pub lines-tokens : (ls : List (List ℕ)) (s : S)
      → lines_read (token_byte byte token_end) (token_line_end byte token_end line-end) (record { begun = false; state = s }) ls
      ≡ record { begun = false; state = token_lines_read byte token_end line-end s ls }
  unfolding line_read
  lines-tokens [] s = refl
  lines-tokens (l ∷ ls) s =
      ap (λ s'. lines_read (token_byte byte token_end) (token_line_end byte token_end line-end) (record { begun = false; state = line-end s' }) ls) (line-tokens byte token_end l s)
      ∙ lines-tokens ls (line-end (tokens_read byte token_end s (tokens l)))

  -- A text in chunks, read byte by byte, is the tokens of its lines, each line ended behind its last token.
  pub chunks-tokens : (chunks : List (List ℕ)) (s : S)
      → (marked_finish (token_byte byte token_end) (token_line_end byte token_end line-end)
      (run_chunks (text_byte (marked_byte (token_byte byte token_end) (token_line_end byte token_end line-end)) (marked_end (token_byte byte token_end) (token_line_end byte token_end line-end)))
      (record { begun = false; state = record { begun = false; state = s } }) chunks)).state.state
      ≡ token_lines_read byte token_end line-end s (lines (all_chunks chunks))
  chunks-tokens chunks s =
      ap (λ r. r.state)
      (marked-chunks (token_byte byte token_end) (token_line_end byte token_end line-end) chunks (record { begun = false; state = s }) ∙ lines-tokens (lines (all_chunks chunks)) s)
