-- The relations of Place have one answer each. For tokens by counting the bytes that belong to tokens, for lines by the length of the first
-- line, for partners because more brackets are closed than opened just after the first.
use Prim.Native.Nat.{ℕ, suc, ◌+◌, ◌-◌, ◌≤◌, ◌<◌}
use mathlib.Core.Path.{◌≡◌, refl, sym, ap, subst, ◌∙◌}
use mathlib.Core.Bool.{Bool, true, false, cond, ◌||◌}
use mathlib.Core.List.{List, [], ◌∷◌, ◌++◌, Memᴰ, nil≢cons, cons≢nil, head-eq_of_cons-eq, tail-eq_of_cons-eq}
use native.Mathlib.Omega.{arith}
use lib.Dec.{T}
use lib.ListN.{length, drop, get_or}
use Rattle.basics.proofs.Reflects.{T-reflects, to_true}
use Rattle.basics.proofs.Tests.{and_left, and_right, and_both, or_left, or_right}
use Rattle.text.specs.Bytes.{Token, is_bracket, is_inside, starts_inside, extend_first, add_to_tokens, ByteClass, lines, tokens}
use Rattle.text.specs.Token.{all_bytes}
use Rattle.text.proofs.Bytes.{HasClass, a_bracket, an_inside, a_between, class_of_has, IsToken, bracket_token, run, tokens-member}
use Rattle.sheet.specs.Brackets.{BytePartner}
use Rattle.scan.specs.declared.Span.{Span}
use Rattle.scan.specs.declared.LineSpan.{LineSpan}
use Rattle.scan.specs.Place.{between, TokenAt, no_token, a_token, LineAt, no_line, ended_line, last_line, PartnerAt, no_partner, a_partner}
use Rattle.scan.specs.Start.{is_visible}
use Rattle.scan.proofs.Tokens.{between_split, between-last, between-length, drop_at}
use Rattle.scan.proofs.Partners.{partner_more}

-- How many bytes of tokens this byte is.
abbrev visible_bytes : Bool → ℕ
visible_bytes m = cond m 1 0

abbrev visible_count : List ℕ → ℕ
visible_count [] = 0
visible_count (b ∷ bs) = visible_bytes (is_visible b) + visible_count bs

abbrev token_bytes : List Token → ℕ
token_bytes [] = 0
token_bytes (t ∷ ts) = length t + token_bytes ts

neither : (b c : Bool) → b ≡ false → c ≡ false → (b || c) ≡ false
neither b c p q = rw (p, q)

visible-one : (b : ℕ) → T (is_visible b) → visible_bytes (is_visible b) ≡ 1
visible-one b t = ap visible_bytes (to_true (T-reflects (is_visible b)) t)

extend_bytes : (b : ℕ) (ts : List Token) → token_bytes (extend_first b ts) ≡ suc (token_bytes ts)
extend_bytes b [] = refl
extend_bytes b (t ∷ ts) = omega arith

add_bytes : {c : ByteClass} (g : Bool) (b : ℕ) (ts : List Token) → HasClass b c → token_bytes (add_to_tokens c g b ts) ≡ visible_bytes (is_visible b) + token_bytes ts
add_bytes g b ts (a_bracket h) = let z = visible-one b (or_left (is_bracket b) (is_inside b) h) in omega arith
add_bytes true b ts (an_inside h) = let z = visible-one b (or_right (is_bracket b) (is_inside b) h) in let w = extend_bytes b ts in omega arith
add_bytes false b ts (an_inside h) = let z = visible-one b (or_right (is_bracket b) (is_inside b) h) in omega arith
add_bytes g b ts (a_between p q) = let z = ap visible_bytes (neither (is_bracket b) (is_inside b) p q) in omega arith

-- The tokens of a text have as many bytes as belong to tokens.
tokens-bytes : (l : List ℕ) → token_bytes (tokens l) ≡ visible_count l
unfolding tokens
tokens-bytes [] = refl
tokens-bytes (b ∷ l) = let z = add_bytes (starts_inside l) b (tokens l) (class_of_has b) in let w = tokens-bytes l in omega arith

visible-append : (l m : List ℕ) → visible_count (l ++ m) ≡ visible_count l + visible_count m
visible-append [] m = omega arith
visible-append (b ∷ l) m = let z = visible-append l m in omega arith

all_bytes-last : (p : ℕ → Bool) (l : List ℕ) (b : ℕ) → T (all_bytes p (l ++ (b ∷ []))) → T (p b)
all_bytes-last p [] b t = and_left (p b) true t
all_bytes-last p (a ∷ l) b t = all_bytes-last p l b (and_right (p a) (all_bytes p (l ++ (b ∷ []))) t)

inside-visible : (l : List ℕ) → T (all_bytes is_inside l) → T (all_bytes is_visible l)
inside-visible [] t = tt
inside-visible (b ∷ l) t =
    and_both (is_visible b) (all_bytes is_visible l) (or_right (is_bracket b) (is_inside b) (and_left (is_inside b) (all_bytes is_inside l) t)) (inside-visible l (and_right (is_inside b) (all_bytes is_inside l) t))

token-visible : {t : Token} → IsToken t → T (all_bytes is_visible t)
token-visible (bracket_token {b} h) = and_both (is_visible b) true (or_left (is_bracket b) (is_inside b) h) tt
token-visible (run {b} {bs} h k) = inside-visible (b ∷ bs) (and_both (is_inside b) (all_bytes is_inside bs) h k)

-- Past a later token fewer bytes of tokens are left.
module _ (text : List ℕ) where
  after_fewer : (e s at e' : ℕ) → e < e' → s < e' → e' ≤ length text → tokens (drop at text) ≡ between text s e' ∷ tokens (drop e' text) → visible_count (drop e' text) < visible_count (drop e text)
  after_fewer e s at e' h k w q =
      let back : e' - 1 + 1 ≡ e' = omega arith in
      let word : between text s e' ≡ between text s (e' - 1) ++ (get_or text (e' - 1) 0 ∷ []) = ap (between text s) (sym back) ∙ between-last text s (e' - 1) (omega arith) (omega arith) in
      let all : T (all_bytes is_visible (between text s e')) = token-visible (tokens-member (drop at text) (subst (Memᴰ (between text s e')) (sym q) (Memᴰ.head refl))) in
      let last : T (is_visible (get_or text (e' - 1) 0)) = all_bytes-last is_visible (between text s (e' - 1)) (get_or text (e' - 1) 0) (subst (λ l. T (all_bytes is_visible l)) word all) in
      let rest = ap visible_count (drop_at text (e' - 1) (omega arith) ∙ ap (λ n. get_or text (e' - 1) 0 ∷ drop n text) back) in
      let one = visible-one (get_or text (e' - 1) 0) last in
      let split = ap visible_count (between_split text e (e' - 1) (omega arith)) ∙ visible-append (between text e (e' - 1)) (drop (e' - 1) text) in
      omega arith

  token-ends : (at : ℕ) {s e s' e' : ℕ} → s < e → s' < e' → e ≤ length text → e' ≤ length text → tokens (drop at text) ≡ between text s e ∷ tokens (drop e text) → tokens (drop at text) ≡ between text s' e' ∷ tokens (drop e' text) → ¬ (e < e')
  token-ends at {s} {e} {s'} {e'} h h' w w' q q' k =
      let same : visible_count (drop e text) ≡ visible_count (drop e' text) = sym (tokens-bytes (drop e text)) ∙ ap token_bytes (tail-eq_of_cons-eq (sym q ∙ q')) ∙ tokens-bytes (drop e' text) in
      let fewer = after_fewer e s' at e' k h' w' q' in
      omega arith

span_same : {r r' : Span} → r.start ≡ r'.start → r.end ≡ r'.end → r ≡ r'
span_same p q = λ i. record { start = p i; end = q i }

pub token_unique : {text : List ℕ} {at : ℕ} {r r' : Span} → TokenAt text at r → TokenAt text at r' → r ≡ r'
token_unique (no_token p q e) (no_token p' q' e') = span_same (p ∙ sym p') (q ∙ sym q')
token_unique (no_token p q e) (a_token f s w e') = absurd (nil≢cons (sym e ∙ e'))
token_unique (a_token f s w e) (no_token p q e') = absurd (cons≢nil (sym e ∙ e'))
token_unique {text} {at} {r} {r'} (a_token f s w e) (a_token f' s' w' e') =
    let low : ¬ (r.end < r'.end) = token-ends text at s s' w w' e e' in
    let high : ¬ (r'.end < r.end) = token-ends text at s' s w' w e' e in
    let ends : r.end ≡ r'.end = omega arith in
    let words = ap length (head-eq_of_cons-eq (sym e ∙ e')) in
    let size = between-length text r.start r.end (omega arith) w in
    let size' = between-length text r'.start r'.end (omega arith) w' in
    span_same (omega arith) ends

line_same : {r r' : LineSpan} → r.end ≡ r'.end → r.next ≡ r'.next → r ≡ r'
line_same p q = λ i. record { end = p i; next = q i }

-- The first line ends where it is as long as it is.
line-ends : (text : List ℕ) {at e e' : ℕ} {ls ls' : List (List ℕ)} → at ≤ e → e ≤ length text → at ≤ e' → e' ≤ length text → lines (drop at text) ≡ between text at e ∷ ls → lines (drop at text) ≡ between text at e' ∷ ls' → e ≡ e'
line-ends text {at} {e} {e'} h w h' w' q q' =
    let words = ap length (head-eq_of_cons-eq (sym q ∙ q')) in
    let size = between-length text at e h w in
    let size' = between-length text at e' h' w' in
    omega arith

pub line_unique : {text : List ℕ} {at : ℕ} {r r' : LineSpan} → LineAt text at r → LineAt text at r' → r ≡ r'
line_unique (no_line l p q e) (no_line l' p' q' e') = line_same (p ∙ sym p') (q ∙ sym q')
line_unique (no_line l p q e) (ended_line f w n e') = absurd (nil≢cons (sym e ∙ e'))
line_unique (no_line l p q e) (last_line f p' q' e') = absurd (nil≢cons (sym e ∙ e'))
line_unique (ended_line f w n e) (no_line l p q e') = absurd (cons≢nil (sym e ∙ e'))
line_unique {text} (ended_line f w n e) (ended_line f' w' n' e') =
    let ends = line-ends text f (omega arith) f' (omega arith) e e' in line_same ends (n ∙ ap (λ k. k + 1) ends ∙ sym n')
line_unique {text} (ended_line f w n e) (last_line f' p q e') = let ends = line-ends text f (omega arith) (omega arith) (omega arith) e e' in absurd (omega arith)
line_unique (last_line f p q e) (no_line l p' q' e') = absurd (cons≢nil (sym e ∙ e'))
line_unique {text} (last_line f p q e) (ended_line f' w' n' e') = let ends = line-ends text (omega arith) (omega arith) f' (omega arith) e e' in absurd (omega arith)
line_unique (last_line f p q e) (last_line f' p' q' e') = line_same (p ∙ sym p') (q ∙ sym q')

no_later : (l : List ℕ) (k k' : ℕ) → BytePartner l k → BytePartner l k' → ¬ (k < k')
no_later l k k' p q h = let more = partner_more l k p in let less = q.before (suc k) h in omega arith

pub partner_unique : {text : List ℕ} {at r r' : ℕ} → PartnerAt text at r → PartnerAt text at r' → r ≡ r'
partner_unique (no_partner p f) (no_partner p' f') = p ∙ sym p'
partner_unique {at = at} {r' = r'} (no_partner p f) (a_partner g i k) = absurd (f (r' - at) k)
partner_unique {at = at} {r = r} (a_partner g i k) (no_partner p f) = absurd (f (r - at) k)
partner_unique {text} {at} {r} {r'} (a_partner g i k) (a_partner g' i' k') =
    let low = no_later (drop at text) (r - at) (r' - at) k k' in
    let high = no_later (drop at text) (r' - at) (r - at) k' k in
    omega arith
