-- How tokens are found at places of a text: bytes between tokens are passed over, and a bracket or a run from its first byte on is the first
-- token. From the laws of tokens.
use Prim.Native.Nat.{ℕ, suc, ◌+◌, ◌-◌, ◌≤◌, ◌<◌}
use mathlib.Core.Path.{◌≡◌, refl, sym, ap, ◌∙◌}
use mathlib.Core.Bool.{Bool, true, false, true≢false, ◌||◌}
use mathlib.Core.List.{List, [], ◌∷◌, ◌++◌}
use native.Mathlib.Omega.{arith}
use native.Mathlib.Numerals.{add-one}
use lib.Dec.{T}
use lib.ListN.{length, take, drop, get_or, length-take, length-drop, take-append-drop, drop_of_length-le}
use lib.Seq.{drop-cons, take-suc, drop-drop, get_or-drop}
use Rattle.basics.proofs.Tests.{and_left, and_right, and_both}
use Rattle.text.specs.Bytes.{is_bracket, is_inside, tokens}
use Rattle.text.specs.Token.{all_bytes}
use Rattle.text.proofs.Bytes.{a_bracket, a_between, tokens-between, tokens_bracket, tokens-run}
use Rattle.scan.specs.declared.Span.{Span}
use Rattle.scan.specs.Start.{is_visible}
use Rattle.scan.specs.Place.{between, TokenAt, no_token, a_token, Skipped, RunEnd}

-- The bytes from a place on are those up to a later place and those from there on.
pub between_split : (l : List ℕ) (a e : ℕ) → a ≤ e → drop a l ≡ between l a e ++ drop e l
between_split l a e h =
    let there : a + (e - a) ≡ e = omega arith in
    sym (take-append-drop (e - a) (drop a l)) ∙ ap (λ m. between l a e ++ m) (drop-drop (e - a) a l ∙ ap (λ n. drop n l) there)

pub between-length : (l : List ℕ) (a e : ℕ) → a ≤ e → e ≤ length l → length (between l a e) ≡ e - a
between-length l a e h k = let z = length-take (e - a) (drop a l) in let w = length-drop a l in omega arith

pub drop_at : (l : List ℕ) (i : ℕ) → i < length l → drop i l ≡ get_or l i 0 ∷ drop (i + 1) l
drop_at l i h = rw (add-one i) (drop-cons l i 0 h)

pub between_first : (l : List ℕ) (a e : ℕ) → a < e → a < length l → between l a e ≡ get_or l a 0 ∷ between l (a + 1) e
between_first l a e h k =
    let less : e - a ≡ suc (e - (a + 1)) = omega arith in
    ap (take (e - a)) (drop_at l a k) ∙ ap (λ n. take n (get_or l a 0 ∷ drop (a + 1) l)) less

pub between-last : (l : List ℕ) (a i : ℕ) → a ≤ i → i < length l → between l a (i + 1) ≡ between l a i ++ (get_or l i 0 ∷ [])
between-last l a i h k =
    let more : i + 1 - a ≡ suc (i - a) = omega arith in
    let there : a + (i - a) ≡ i = omega arith in
    let inside : i - a < length (drop a l) = let z = length-drop a l in omega arith in
    ap (λ n. take n (drop a l)) more ∙ take-suc (drop a l) (i - a) 0 inside ∙ ap (λ b. between l a i ++ (b ∷ [])) (get_or-drop a l (i - a) 0 ∙ ap (λ n. get_or l n 0) there)

pub between_none : (l : List ℕ) (a : ℕ) → between l a a ≡ []
between_none l a = let none : a - a ≡ 0 = omega arith in ap (λ n. take n (drop a l)) none

pub drop-end : (l : List ℕ) → drop (length l) l ≡ []
drop-end l = drop_of_length-le l (let z : length l ≤ length l = omega arith in z)

pub drop_past : (l : List ℕ) (i : ℕ) → length l ≤ i → drop i l ≡ drop (length l) l
drop_past l i h = drop_of_length-le l h ∙ sym (drop-end l)

pub all_bytes-snoc : (p : ℕ → Bool) (l : List ℕ) (b : ℕ) → T (all_bytes p l) → T (p b) → T (all_bytes p (l ++ (b ∷ [])))
all_bytes-snoc p [] b t u = and_both (p b) true u tt
all_bytes-snoc p (a ∷ l) b t u = and_both (p a) (all_bytes p (l ++ (b ∷ []))) (and_left (p a) (all_bytes p l) t) (all_bytes-snoc p l b (and_right (p a) (all_bytes p l) t) u)

module _ (l : List ℕ) (i : ℕ) (h : i < length l) where
  -- A byte between tokens is passed over.
  pub tokens-pass : is_bracket (get_or l i 0) ≡ false → is_inside (get_or l i 0) ≡ false → tokens (drop i l) ≡ tokens (drop (i + 1) l)
  unfolding tokens
  tokens-pass p q = ap tokens (drop_at l i h) ∙ tokens-between [] (get_or l i 0) (drop (i + 1) l) (a_between p q)

  -- A bracket is the first token.
  pub tokens-single : T (is_bracket (get_or l i 0)) → tokens (drop i l) ≡ between l i (i + 1) ∷ tokens (drop (i + 1) l)
  unfolding tokens
  tokens-single t =
      let one : i + 1 - i ≡ 1 = omega arith in
      let word : between l i (i + 1) ≡ get_or l i 0 ∷ [] = ap (λ n. take n (drop i l)) one ∙ ap (take 1) (drop_at l i h) in
      ap tokens (drop_at l i h) ∙ tokens_bracket [] (get_or l i 0) (drop (i + 1) l) (a_bracket t) ∙ ap (λ w. w ∷ tokens (drop (i + 1) l)) (sym word)

  -- A run up to its end is the first token.
  pub tokens-first-run : (e : ℕ) → T (is_inside (get_or l i 0)) → RunEnd l (i + 1) e → tokens (drop i l) ≡ between l i e ∷ tokens (drop e l)
  tokens-first-run e t r =
      let further : i < e = omega (arith, r.forward) in
      let word : between l i e ≡ get_or l i 0 ∷ between l (i + 1) e = between_first l i e further h in
      ap tokens (between_split l i e (omega arith) ∙ ap (λ w. w ++ drop e l) word)
      ∙ tokens-run (get_or l i 0) (between l (i + 1) e) (drop e l) (and_both (is_inside (get_or l i 0)) (all_bytes is_inside (between l (i + 1) e)) t r.inside) r.ended
      ∙ ap (λ w. w ∷ tokens (drop e l)) (sym word)

-- A byte of a token is a bracket or stands inside a run, and another is neither.
pub visible_inside : (b : ℕ) → is_visible b ≡ true → is_bracket b ≡ false → T (is_inside b)
visible_inside b v n = rw (sym (ap (λ m. m || is_inside b) n) ∙ v) tt

pub between-neither : (b : ℕ) → is_visible b ≡ false → (is_bracket b ≡ false) × (is_inside b ≡ false)
between-neither b = by (is_bracket b) (is_inside b)
  where
    by : (m n : Bool) → (m || n) ≡ false → (m ≡ false) × (n ≡ false)
    by true n e = absurd (true≢false e)
    by false n e = (refl, e)

-- What a search for the next token gives.
module _ (text : List ℕ) (at s : ℕ) (k : Skipped text at s) where
  pub token-none : length text ≤ s → TokenAt text at (record { start = length text; end = length text })
  unfolding tokens
  token-none h = no_token refl refl (k.same ∙ ap tokens (drop_of_length-le text h))

  module _ (h : s < length text) where
    pub token_bracket : is_bracket (get_or text s 0) ≡ true → TokenAt text at (record { start = s; end = s + 1 })
    token_bracket e = a_token (k.forward h) (omega arith) (omega arith) (k.same ∙ tokens-single text s h (rw e tt))

    pub token-run : {e : ℕ} → is_bracket (get_or text s 0) ≡ false → RunEnd text (s + 1) e → TokenAt text at (record { start = s; end = e })
    token-run {e} b r = a_token (k.forward h) (omega (arith, r.forward)) r.within (k.same ∙ tokens-first-run text s h e (k.visible h b) r)

-- What a found token says to a caller.
module _ {text : List ℕ} {at : ℕ} {r : Span} where
  pub token-within : TokenAt text at r → (r.start ≤ r.end) × (r.end ≤ length text)
  token-within (no_token p q e) = (omega arith, omega arith)
  token-within (a_token f s w e) = (omega arith, w)

  pub token-empty : TokenAt text at r → r.start ≡ r.end → tokens (drop at text) ≡ []
  token-empty (no_token p q e) h = e
  token-empty (a_token f s w e) h = absurd (omega arith)

  pub token-after : TokenAt text at r → (r.start ≡ r.end → ⊥) → at < r.end
  token-after (no_token p q e) h = absurd (h (p ∙ sym q))
  token-after (a_token f s w e) h = omega arith

  pub token-tokens : TokenAt text at r → (r.start ≡ r.end → ⊥) → tokens (drop at text) ≡ between text r.start r.end ∷ tokens (drop r.end text)
  token-tokens (no_token p q e) h = absurd (h (p ∙ sym q))
  token-tokens (a_token f s w e) h = e
