-- What is read byte by byte is what is read token by token: by induction over the bytes, where a token that is begun takes the first run of
-- the bytes behind it.
use Prim.Native.Nat.{ℕ}
use mathlib.Core.Path.{◌≡◌, refl, sym, ◌∙◌, ap}
use mathlib.Core.Bool.{Bool, true, false}
use mathlib.Core.List.{List, [], ◌∷◌}
use Rattle.basics.proofs.Reflects.{T-reflects, to_true}
use Rattle.text.specs.Bytes.{Token, ByteClass, bracket, inside, between, class_of, is_inside, starts_inside, add_to_tokens, tokens}
use Rattle.text.specs.Fold.{run_bytes, tokens_read, TokenReading, class_byte, line_read}
use Rattle.text.proofs.Bytes.{HasClass, a_bracket, an_inside, a_between, class_of_has, bracket_not_inside}

module _ {S : Type 0} (byte : S → ℕ → S) (token_end : S → S) where
  abbrev at : Bool → S → TokenReading S
  at begun s = record { begun = begun; state = s }

  -- The tokens of the bytes behind a token that is begun; where they begin with a run, it belongs to that token.
  continued : Bool → S → List Token → S
  continued true s [] = token_end s
  continued true s (t ∷ ts) = tokens_read byte token_end (token_end (run_bytes byte s t)) ts
  continued false s ts = tokens_read byte token_end (token_end s) ts

  -- What is left to read of a line, from its tokens.
  rest : Bool → Bool → S → List Token → S
  rest true goes_on s ts = continued goes_on s ts
  rest false goes_on s ts = tokens_read byte token_end s ts

  is_run : ByteClass → Bool
  is_run bracket = false
  is_run inside = true
  is_run between = false

  step : (c : ByteClass) (begun goes_on : Bool) (s : S) (b : ℕ) (ts : List Token)
      → rest (class_byte byte token_end c (at begun s) b).begun goes_on (class_byte byte token_end c (at begun s) b).state ts ≡ rest begun (is_run c) s (add_to_tokens c goes_on b ts)
  unfolding rest continued is_run
  step bracket true goes_on s b ts = refl
  step bracket false goes_on s b ts = refl
  step inside true true s b [] = refl
  step inside true true s b (t ∷ ts) = refl
  step inside true false s b ts = refl
  step inside false true s b [] = refl
  step inside false true s b (t ∷ ts) = refl
  step inside false false s b ts = refl
  step between true goes_on s b ts = refl
  step between false goes_on s b ts = refl

  run-class : (b : ℕ) → is_run (class_of b) ≡ is_inside b
  unfolding is_run
  run-class b = go (class_of b) (class_of_has b)
    where
      go : (c : ByteClass) → HasClass b c → is_run c ≡ is_inside b
      go bracket (a_bracket h) = sym (bracket_not_inside b h)
      go inside (an_inside h) = sym (to_true (T-reflects (is_inside b)) h)
      go between (a_between p q) = sym q

  read-rest : (l : List ℕ) (begun : Bool) (s : S) → line_read byte token_end (at begun s) l ≡ rest begun (starts_inside l) s (tokens l)
  unfolding line_read tokens rest continued
  read-rest [] true s = refl
  read-rest [] false s = refl
  read-rest (b ∷ bs) begun s =
      read-rest bs (class_byte byte token_end (class_of b) (at begun s) b).begun (class_byte byte token_end (class_of b) (at begun s) b).state
      ∙ step (class_of b) begun (starts_inside bs) s b (tokens bs) ∙ ap (λ i. rest begun i s (add_to_tokens (class_of b) (starts_inside bs) b (tokens bs))) (run-class b)

  pub line-tokens : (l : List ℕ) (s : S) → line_read byte token_end (record { begun = false; state = s }) l ≡ tokens_read byte token_end s (tokens l)
  unfolding rest
  line-tokens l s = read-rest l false s
