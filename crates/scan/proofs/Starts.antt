-- The k-th start of a text's tokens is where its k-th token begins: the tokens from that place on are those from the k-th on, and a byte of a
-- token stands there. By induction over the places: the starts below a place and the tokens that begin from there on are all tokens.
use Prim.Native.Nat.{ℕ, zero, suc, ◌+◌, ◌≤◌, ◌<◌}
use mathlib.Core.Path.{◌≡◌, refl, sym, ap, ap₂, subst, ◌∙◌}
use mathlib.Core.Bool.{Bool, true, false, not, cond, ◌&&◌, ◌||◌, true≢false}
use mathlib.Core.List.{List, [], ◌∷◌, ◌++◌}
use native.Mathlib.Omega.{arith}
use native.Mathlib.Decide.{dec_lt}
use native.Mathlib.Numerals.{add-one}
use lib.Dec.{T}
use lib.ListN.{length, drop, get_or, length-append, get_or-append}
use lib.Seq.{drop-cons, drop-drop, drop-length, get_or_at}
use Rattle.basics.proofs.Reflects.{to_true, T-reflects}
use Rattle.text.specs.Bytes.{Token, ByteClass, inside, is_bracket, is_inside, starts_inside, extend_first, add_to_tokens, tokens}
use Rattle.text.proofs.Bytes.{HasClass, a_bracket, an_inside, a_between, class_of_has, inside-not_bracket, bracket_not_inside}
use Rattle.scan.specs.Start.{is_visible, begins_token, inside_before, token_starts_at, token_starts_below, token_starts_of}

-- The tokens that begin in these bytes, where `g` says whether the byte before them is inside a run.
abbrev without : Bool → List Token → List Token
without true ts = drop 1 ts
without false ts = ts

abbrev begun : Bool → List ℕ → List Token
begun g l = without (g && starts_inside l) (tokens l)

-- One byte more before bytes, where `m` says whether a token begins with it: ts are the tokens of all, us those that begin in all, vs those
-- that begin after the byte.
data Step (b : ℕ) (ts us vs : List Token) (m : Bool) : Type 0 where
  begins : {w : Token} → m ≡ true → T (is_visible b) → us ≡ ts → ts ≡ w ∷ vs → Step b ts us vs m
  goes_on : m ≡ false → us ≡ vs → Step b ts us vs m

extend_rest : (b : ℕ) (ts : List Token) → drop 1 (extend_first b ts) ≡ drop 1 ts
extend_rest b [] = refl
extend_rest b (t ∷ ts) = refl

extend_first_lem : (b : ℕ) (ts : List Token) → (w : Token) × (extend_first b ts ≡ w ∷ drop 1 ts)
extend_first_lem b [] = (b ∷ [], refl)
extend_first_lem b (t ∷ ts) = (b ∷ t, refl)

run-rest : (b : ℕ) (run : Bool) (ts : List Token) → drop 1 (add_to_tokens inside run b ts) ≡ without run ts
run-rest b true ts = extend_rest b ts
run-rest b false ts = refl

run-first : (b : ℕ) (run : Bool) (ts : List Token) → (w : Token) × (add_to_tokens inside run b ts ≡ w ∷ without run ts)
run-first b true ts = extend_first_lem b ts
run-first b false ts = (b ∷ [], refl)

no_run : (g : Bool) {j : Bool} (ts : List Token) → j ≡ false → without (g && j) ts ≡ ts
no_run true ts e = ap (λ m. without m ts) e
no_run false ts e = refl

step-class : {c : ByteClass} (g : Bool) (b : ℕ) (run : Bool) (ts : List Token) → HasClass b c → Step b (add_to_tokens c run b ts) (without (g && is_inside b) (add_to_tokens c run b ts)) (without (is_inside b && run) ts) (begins_token g b)
step-class g b run ts (a_bracket t) =
    let is : is_bracket b ≡ true = to_true (T-reflects (is_bracket b)) t in
    let outside : is_inside b ≡ false = bracket_not_inside b t in
    begins (ap (λ m. m || (not g && is_inside b)) is) (rw is tt) (no_run g ((b ∷ []) ∷ ts) outside) (ap (λ m. (b ∷ []) ∷ without (m && run) ts) (sym outside))
step-class true b run ts (an_inside h) =
    let is : is_inside b ≡ true = to_true (T-reflects (is_inside b)) h in
    goes_on (ap (λ m. m || false) (inside-not_bracket b h)) (ap (λ m. without m (add_to_tokens inside run b ts)) is ∙ run-rest b run ts ∙ ap (λ m. without (m && run) ts) (sym is))
step-class false b run ts (an_inside h) =
    let is : is_inside b ≡ true = to_true (T-reflects (is_inside b)) h in
    let (w, e) = run-first b run ts in
    let seen : is_visible b ≡ true = ap₂ ◌||◌ (inside-not_bracket b h) is in
    begins seen (rw seen tt) refl (e ∙ ap (λ m. w ∷ without (m && run) ts) (sym is))
step-class g b run ts (a_between p q) = goes_on (ap₂ (λ m n. m || (not g && n)) p q ∙ none g) (no_run g ts q ∙ ap (λ m. without (m && run) ts) (sym q))
  where
    none : (h : Bool) → (not h && false) ≡ false
    none true = refl
    none false = refl

step : (g : Bool) (b : ℕ) (bs : List ℕ) → Step b (tokens (b ∷ bs)) (begun g (b ∷ bs)) (begun (is_inside b) bs) (begins_token g b)
unfolding tokens
step g b bs = step-class g b (starts_inside bs) (tokens bs) (class_of_has b)

begun-none : (g : Bool) → begun g [] ≡ []
unfolding tokens
begun-none g = no_run g [] refl

-- The k-th token begins at the place s.
record BeginsAt (text : List ℕ) (k s : ℕ) : Type 0 where
  pub same : tokens (drop s text) ≡ drop k (tokens text)
  pub stands : T (is_visible (get_or text s 0))

-- The starts of the first tokens, and the tokens after those.
record StartsFound (text starts : List ℕ) (later : List Token) : Type 0 where
  pub count : length starts + length later ≡ length (tokens text)
  pub rest : later ≡ drop (length starts) (tokens text)
  pub each : (k : ℕ) → k < length starts → BeginsAt text k (get_or starts k 0)

found-next : (text : List ℕ) (i : ℕ) {starts : List ℕ} {us vs : List Token} (m : Bool) → Step (get_or text i 0) (tokens (drop i text)) us vs m → StartsFound text starts us → StartsFound text (cond m (starts ++ (i ∷ [])) starts) vs
found-next text i {starts} true (begins e v p q) h =
    let more : length (starts ++ (i ∷ [])) ≡ length starts + 1 = length-append starts (i ∷ []) in
    record {
      count = omega (arith, h.count, more, ap length (p ∙ q));
      rest = ap (drop 1) (sym (p ∙ q) ∙ h.rest) ∙ drop-drop 1 (length starts) (tokens text) ∙ ap (λ n. drop n (tokens text)) (sym more);
      each = λ k l. by k (omega arith) (dec_lt k (length starts));
    }
  where
    by : (k : ℕ) → k < length starts + 1 → Dec (k < length starts) → BeginsAt text k (get_or (starts ++ (i ∷ [])) k 0)
    by k l (yes b) = subst (BeginsAt text k) (sym (get_or-append starts (i ∷ []) 0 k b)) (h.each k b)
    by k l (no b) =
        let last : length starts ≡ k = omega arith in
        subst (BeginsAt text k) (sym (get_or_at starts i [] 0 k last)) (record { same = sym p ∙ h.rest ∙ ap (λ n. drop n (tokens text)) last; stands = v })
found-next text i true (goes_on e p) h = absurd (true≢false e)
found-next text i false (begins e v p q) h = absurd (true≢false (sym e))
found-next text i false (goes_on e p) h = subst (StartsFound text _) p h

module _ (text : List ℕ) where
  -- The tokens that begin from the place i on.
  abbrev begun_from : ℕ → List Token
  begun_from i = begun (inside_before text i) (drop i text)

  found : (i : ℕ) → i ≤ length text → StartsFound text (token_starts_below text i) (begun_from i)
  unfolding token_starts_below
  found zero h = record { count = omega arith; rest = refl; each = λ k l. absurd (omega arith) }
  found (suc i) h =
      let b = get_or text i 0 in
      let here : drop i text ≡ b ∷ drop (suc i) text = drop-cons text i 0 (omega arith) in
      found-next text i (token_starts_at text i)
      (subst (λ l. Step b (tokens l) (begun (inside_before text i) l) (begun_from (suc i)) (token_starts_at text i)) (sym here) (step (inside_before text i) b (drop (suc i) text)))
      (found i (omega arith))

  all_found : StartsFound text (token_starts_of text) (begun_from (length text))
  all_found = found (length text) (omega arith)

  pub token-starts-length : length (token_starts_of text) ≡ length (tokens text)
  token-starts-length =
      let none : begun_from (length text) ≡ [] = ap (begun (inside_before text (length text))) (drop-length text) ∙ begun-none (inside_before text (length text)) in
      omega (arith, all_found.count, ap length none)

  module _ (k : ℕ) (h : k < length (tokens text)) where
    begins-at : BeginsAt text k (get_or (token_starts_of text) k 0)
    begins-at = all_found.each k (omega (arith, token-starts-length))

    pub token-start : tokens (drop (get_or (token_starts_of text) k 0) text) ≡ drop k (tokens text)
    token-start = begins-at.same

    pub token-start-stands : T (is_visible (get_or text (get_or (token_starts_of text) k 0) 0))
    token-start-stands = begins-at.stands

  -- ---- one byte of a loop over the bytes

  pub starts-few : (i : ℕ) → i ≤ length text → length (token_starts_below text i) ≤ length (tokens text)
  starts-few i h = omega (arith, (found i h).count)

  pub starts_none : token_starts_below text 0 ≡ []
  unfolding token_starts_below
  starts_none = refl

  pub starts-next : (i : ℕ) → token_starts_below text (i + 1) ≡ cond (token_starts_at text i) (token_starts_below text i ++ (i ∷ [])) (token_starts_below text i)
  unfolding token_starts_below
  starts-next i = ap (token_starts_below text) (add-one i)

  pub inside-next : (i : ℕ) → is_inside (get_or text i 0) ≡ inside_before text (i + 1)
  inside-next i = ap (inside_before text) (sym (add-one i))
