-- Brackets among the bytes and among the tokens: both have as many, at corresponding places, so that the partner of a bracket can be looked
-- for in the bytes. From the laws of tokens.
use Prim.Native.Nat.{ℕ, zero, suc, ◌+◌, ◌≤◌, ◌<◌}
use mathlib.Core.Path.{◌≡◌, refl, sym, ap, ap₂, ◌∙◌}
use mathlib.Core.Bool.{Bool, true, false, cond}
use mathlib.Core.Logic.{◌⊎◌, inl, inr}
use mathlib.Core.List.{List, [], ◌∷◌, ◌++◌, head-eq_of_cons-eq}
use native.Mathlib.Decide.{dec_le}
use native.Mathlib.Omega.{arith}
use lib.Dec.{T, eqb}
use lib.ListN.{length, take, drop, get_or, length-take}
use lib.Seq.{take-nil, take-take, split_at}
use Rattle.basics.proofs.Tests.{and_both}
use Rattle.basics.proofs.Reflects.{Reflects, holds, fails, reflects_same, eqb_reflects}
use Rattle.text.specs.Bytes.{Token, bytes_of, ByteClass, inside, is_bracket, is_inside, starts_inside, extend_first, add_to_tokens, tokens}
use Rattle.text.specs.Token.{same_bytes, all_bytes}
use Rattle.text.proofs.Token.{same_bytes_reflects}
use Rattle.text.proofs.Bytes.{HasClass, a_bracket, an_inside, a_between, class_of_has, inside-not_bracket, BeginsWithRun, begins, tokens-begin, tokens_bracket}
use Rattle.sheet.specs.Refusal.{occurrences}
use Rattle.sheet.specs.Brackets.{BytePartner}
use Rattle.sheet.proofs.Balance.{is_bracket_token, not_bracket, neither_counts, no_bracket_counts, opened, closed, Partner, partner_step, balanced_partner}

-- The tokens have as many brackets as the bytes, of either kind.
pub record SameBrackets (ts : List Token) (l : List ℕ) : Type 0 where
  pub opening : opened ts ≡ occurrences 40 l
  pub closing : closed ts ≡ occurrences 41 l

-- One byte more, as a token by itself, at the front of a run, or between tokens.
single-token : (c b : ℕ) → same_bytes (c ∷ []) (b ∷ []) ≡ eqb b c
single-token c b = reflects_same (same_bytes_reflects (c ∷ []) (b ∷ [])) (eqb_reflects b c) (λ e. sym (head-eq_of_cons-eq e)) (λ e. ap (λ a. a ∷ []) (sym e))

single-same : {ts : List Token} {l : List ℕ} (b : ℕ) → SameBrackets ts l → SameBrackets ((b ∷ []) ∷ ts) (b ∷ l)
single-same b s =
    record {
      opening = ap₂ (λ m n. cond m 1 0 + n) (single-token 40 b) s.opening;
      closing = ap₂ (λ m n. cond m 1 0 + n) (single-token 41 b) s.closing;
    }

between-same : {ts : List Token} {l : List ℕ} (b : ℕ) → is_bracket b ≡ false → SameBrackets ts l → SameBrackets ts (b ∷ l)
between-same {l = l} b e s = let (p, q) = neither_counts (eqb b 40) (eqb b 41) (occurrences 40 l) (occurrences 41 l) e in record { opening = s.opening ∙ sym p; closing = s.closing ∙ sym q }

run_no_bracket : (t : Token) → T (all_bytes is_inside t) → is_bracket_token t ≡ false
run_no_bracket t h = not_bracket (all_bytes is_inside) t (λ i. i) (λ i. i) h

run-same : {t : Token} {ts : List Token} {l : List ℕ} (b : ℕ) → T (is_inside b) → T (all_bytes is_inside t) → SameBrackets (t ∷ ts) l → SameBrackets ((b ∷ t) ∷ ts) (b ∷ l)
run-same {t} {ts} {l} b h k s =
    let (o, c) = no_bracket_counts t ts (run_no_bracket t k) in
    let (o', c') = no_bracket_counts (b ∷ t) ts (run_no_bracket (b ∷ t) (and_both (is_inside b) (all_bytes is_inside t) h k)) in
    between-same b (inside-not_bracket b h) (record { opening = o' ∙ sym o ∙ s.opening; closing = c' ∙ sym c ∙ s.closing })

-- A beginning of the tokens has as many brackets as some beginning of the bytes.
record Beginning (ts : List Token) (l : List ℕ) (n : ℕ) : Type 0 where
  place : ℕ
  within : place ≤ length l
  same : SameBrackets (take n ts) (take place l)

extend_first-beginning : {ts : List Token} {l : List ℕ} {n : ℕ} (b : ℕ) → T (is_inside b) → BeginsWithRun ts → Beginning ts l (suc n) → Beginning (extend_first b ts) (b ∷ l) (suc n)
extend_first-beginning b h (begins k) r = record { place = suc r.place; within = omega (arith, r.within); same = run-same b h k r.same }

add_to_tokens-beginning : {c : ByteClass} {l : List ℕ} (g : Bool) (b : ℕ) (ts : List Token) → HasClass b c → (g ≡ true → BeginsWithRun ts) → ((n : ℕ) → Beginning ts l n) → (n : ℕ) → Beginning (add_to_tokens c g b ts) (b ∷ l) n
add_to_tokens-beginning g b ts h first below zero = record { place = 0; within = omega arith; same = record { opening = refl; closing = refl } }
add_to_tokens-beginning g b ts (a_bracket h) first below (suc n) = let r = below n in record { place = suc r.place; within = omega (arith, r.within); same = single-same b r.same }
add_to_tokens-beginning true b ts (an_inside h) first below (suc n) = extend_first-beginning b h (first refl) (below (suc n))
add_to_tokens-beginning false b ts (an_inside h) first below (suc n) = let r = below n in record { place = suc r.place; within = omega (arith, r.within); same = single-same b r.same }
add_to_tokens-beginning g b ts (a_between h k) first below (suc n) = let r = below (suc n) in record { place = suc r.place; within = omega (arith, r.within); same = between-same b h r.same }

tokens-beginning : (l : List ℕ) (n : ℕ) → Beginning (tokens l) l n
unfolding tokens
tokens-beginning [] n = record { place = 0; within = omega arith; same = rw (take-nil n) (record { opening = refl; closing = refl }) }
tokens-beginning (b ∷ bs) n = add_to_tokens-beginning (starts_inside bs) b (tokens bs) (class_of_has b) (tokens-begin bs) (tokens-beginning bs) n

add_to_tokens-same : {c : ByteClass} {l : List ℕ} (g : Bool) (b : ℕ) (ts : List Token) → HasClass b c → (g ≡ true → BeginsWithRun ts) → SameBrackets ts l → SameBrackets (add_to_tokens c g b ts) (b ∷ l)
add_to_tokens-same g b ts (a_bracket h) first s = single-same b s
add_to_tokens-same {l = l} true b ts (an_inside h) first s = extended (first refl) s
  where
    extended : {us : List Token} → BeginsWithRun us → SameBrackets us l → SameBrackets (extend_first b us) (b ∷ l)
    extended (begins k) r = run-same b h k r
add_to_tokens-same false b ts (an_inside h) first s = single-same b s
add_to_tokens-same g b ts (a_between h k) first s = between-same b h s

-- The tokens of a text have as many brackets as its bytes.
pub tokens-same : (l : List ℕ) → SameBrackets (tokens l) l
unfolding tokens
tokens-same [] = record { opening = refl; closing = refl }
tokens-same (b ∷ bs) = add_to_tokens-same (starts_inside bs) b (tokens bs) (class_of_has b) (tokens-begin bs) (tokens-same bs)

module _ (l : List ℕ) (place : ℕ) (p : BytePartner l place) where
  -- It parts the tokens into those before it, itself and those after it.
  pub byte_partner_tokens : tokens l ≡ tokens (take place l) ++ (bytes_of ")" ∷ tokens (drop (suc place) l))
  byte_partner_tokens =
      ap tokens (split_at l place 0 p.inside ∙ ap (λ b. take place l ++ (b ∷ drop (suc place) l)) p.closing)
      ∙ tokens_bracket (take place l) 41 (drop (suc place) l) (a_bracket tt)

  before_partner : (n : ℕ) → closed (take n (tokens (take place l))) ≤ opened (take n (tokens (take place l)))
  before_partner n =
      let r : Beginning (tokens (take place l)) (take place l) n = tokens-beginning (take place l) n in
      let q : r.place ≤ place = let z = length-take place l in omega (arith, r.within) in
      let b : occurrences 41 (take r.place (take place l)) ≤ occurrences 40 (take r.place (take place l)) = rw (take-take r.place place l q) (p.before r.place q) in
      omega (arith, r.same.opening, r.same.closing)

  -- It is the partner among the tokens.
  pub byte_partner : Partner (tokens l) (length (tokens (take place l)))
  byte_partner =
      let same : SameBrackets (tokens (take place l)) (take place l) = tokens-same (take place l) in
      rw byte_partner_tokens (balanced_partner (record { equal = same.opening ∙ p.equal ∙ sym same.closing; before = before_partner }) (tokens (drop (suc place) l)))

-- Bytes after o opening and c closing brackets, no fewer opening than closing: somewhere a bracket closes the one before the bytes, or no
-- beginning closes more than it opens.
record PartnerFrom (o c : ℕ) (l : List ℕ) : Type 0 where
  place : ℕ
  inside : place < length l
  closing : get_or l place 0 ≡ 41
  equal : o + occurrences 40 (take place l) ≡ c + occurrences 41 (take place l)
  before : (n : ℕ) → n ≤ place → c + occurrences 41 (take n l) ≤ o + occurrences 40 (take n l)

abbrev NeverBelow : ℕ → ℕ → List ℕ → Type 0
NeverBelow o c l = (n : ℕ) → c + occurrences 41 (take n l) ≤ o + occurrences 40 (take n l)

closes_here : (o c b : ℕ) → c ≤ o → ¬ (c + cond (eqb b 41) 1 0 ≤ o + cond (eqb b 40) 1 0) → (b ≡ 41) × (o ≡ c)
closes_here o c b h n = by (eqb_reflects b 41) n
  where
    by : {m : Bool} → Reflects (b ≡ 41) m → ¬ (c + cond m 1 0 ≤ o + cond (eqb b 40) 1 0) → (b ≡ 41) × (o ≡ c)
    by (holds e) k = (e, omega arith)
    by (fails d) k = absurd (k (omega arith))

search_partner : (o c : ℕ) (l : List ℕ) → c ≤ o → PartnerFrom o c l ⊎ NeverBelow o c l
search_partner o c [] h = inr (λ n. rw (take-nil n) (omega arith))
search_partner o c (b ∷ bs) h = by (dec_le (c + cond (eqb b 41) 1 0) (o + cond (eqb b 40) 1 0)) (λ k. search_partner (o + cond (eqb b 40) 1 0) (c + cond (eqb b 41) 1 0) bs k)
  where
    o₁ : ℕ
    o₁ = o + cond (eqb b 40) 1 0

    c₁ : ℕ
    c₁ = c + cond (eqb b 41) 1 0

    up_to : (m n : ℕ) → ((k : ℕ) → k ≤ m → c₁ + occurrences 41 (take k bs) ≤ o₁ + occurrences 40 (take k bs)) → n ≤ suc m → c + occurrences 41 (take n (b ∷ bs)) ≤ o + occurrences 40 (take n (b ∷ bs))
    up_to m zero f k = omega arith
    up_to m (suc n) f k = let z = f n (omega arith) in omega arith

    later : PartnerFrom o₁ c₁ bs ⊎ NeverBelow o₁ c₁ bs → PartnerFrom o c (b ∷ bs) ⊎ NeverBelow o c (b ∷ bs)
    later (inl p) = inl (record { place = suc p.place; inside = omega (arith, p.inside); closing = p.closing; equal = omega (arith, p.equal); before = λ n k. up_to p.place n p.before k })
    later (inr f) = inr (λ n. up_to n n (λ k l. f k) (omega arith))

    at-start : (n : ℕ) → n ≤ 0 → c + occurrences 41 (take n (b ∷ bs)) ≤ o + occurrences 40 (take n (b ∷ bs))
    at-start zero k = omega arith
    at-start (suc n) k = absurd (omega arith)

    by : Dec (c₁ ≤ o₁) → (c₁ ≤ o₁ → PartnerFrom o₁ c₁ bs ⊎ NeverBelow o₁ c₁ bs) → PartnerFrom o c (b ∷ bs) ⊎ NeverBelow o c (b ∷ bs)
    by (yes k) below = later (below k)
    by (no n) below = let (e, q) = closes_here o c b h n in inl (record { place = 0; inside = omega arith; closing = e; equal = omega arith; before = at-start })

-- A bracket that has a partner among the tokens has one among the bytes.
pub partner_bytes : (l : List ℕ) {m : ℕ} → Partner (tokens l) m → (place : ℕ) × BytePartner l place
partner_bytes l {m} p = by (search_partner 0 0 l (omega arith))
  where
    by : PartnerFrom 0 0 l ⊎ NeverBelow 0 0 l → (place : ℕ) × BytePartner l place
    by (inl q) = (q.place, record { inside = q.inside; closing = q.closing; equal = omega (arith, q.equal); before = λ n k. let z = q.before n k in omega arith })
    by (inr f) =
        let r : Beginning (tokens l) l (suc m) = tokens-beginning l (suc m) in
        let z = f r.place in
        let w = partner_step p in
        absurd (omega (arith, r.same.opening, r.same.closing))
