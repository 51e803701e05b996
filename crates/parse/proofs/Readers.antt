-- What the readers give at the first token. From the definitions of the reader and the laws of partners.
use Prim.Native.Nat.{ℕ, zero, suc, ◌+◌, ◌-◌, ◌≤◌}
use mathlib.Core.Path.{◌≡◌, refl, sym, ap, ap₂, subst, ◌∙◌}
use mathlib.Core.Bool.{true, false, not, cond, ◌&&◌}
use mathlib.Core.List.{List, [], ◌∷◌, ◌++◌}
use mathlib.Core.Option.{Option, some, none}
use native.Mathlib.Omega.{arith}
use lib.ListN.{length, take, drop, length-take, length-append}
use lib.Seq.{take-append_seam, drop-append-add, drop-drop}
use Rattle.vocabulary.proofs.Codes.{infix_small}
use Rattle.basics.proofs.Reflects.{from_true}
use Rattle.text.specs.Bytes.{Token, bytes_of, tokens}
use Rattle.text.specs.Token.{same_bytes, is_name, is_integer, is_reserved}
use Rattle.text.proofs.Token.{same_bytes_reflects}
use Rattle.meaning.specs.Expression.{Expression}
use Rattle.sheet.specs.Vocabulary.{Infix, infixed, operator_tokens, operator_of, Prefix, prefixed, prefix_of}
use Rattle.sheet.specs.Parser.{Parsed, parsed, and_then, expect, Reader, operation_from, after_part, conditional_by, expression_by, no_opening, opening_from, plain_opening, opening_of, part_from, part_to}
use Rattle.sheet.proofs.Vocabulary.{opening-prefix}
use Rattle.sheet.proofs.Balance.{Partner, bracket_read, bracket_read_back, no_partner}
use Rattle.sheet.specs.Brackets.{BytePartner}
use Rattle.sheet.proofs.BracketBytes.{byte_partner_tokens, byte_partner, partner_bytes}
use Rattle.scan.specs.Place.{between}
use Rattle.vocabulary.specs.Word.{code_or255, infix_code}
use Rattle.scan.proofs.Tokens.{between_none, between-length}
use Rattle.vocabulary.proofs.Words.{code-none, code-some}
use Rattle.parse.specs.declared.NumberedToken.{NumberedToken}
use Rattle.parse.specs.Numbered.{TokenNumbered, nothing_left, numbered}
use Rattle.parse.proofs.Numbers.{token-within, token-bytes, token-tokens}

pub same_word : (w t : Token) → same_bytes w t ≡ true → w ≡ t
same_word w t e = from_true (same_bytes_reflects w t) e

-- A part, by its first token.
module _ (names : List Token) where
  pub part-empty : {ts : List Token} → ts ≡ [] → (d : ℕ) → part_to names d ts ≡ none
  unfolding part_to
  part-empty e zero = refl
  part-empty e (suc d) = ap (part_to names (suc d)) e

  module _ {ts us : List Token} {w : Token} (e : ts ≡ w ∷ us) where
    pub part_by : {o : Option Parsed} → ((d : ℕ) → length us ≤ d → part_from names (part_to names d) (opening_of w) w us ≡ o) → (d : ℕ) → length ts ≤ d → part_to names d ts ≡ o
    unfolding part_to
    part_by h zero l = let z = ap length e in absurd (omega arith)
    part_by h (suc d) l = let z = ap length e in ap (part_to names (suc d)) e ∙ h d (omega arith)

    pub part-prefix : {p : Prefix} {a : Expression} {rest : List Token} → prefix_of w ≡ some p → ((d : ℕ) → length us ≤ d → part_to names d us ≡ parsed a rest) → (d : ℕ) → length ts ≤ d → part_to names d ts ≡ parsed (prefixed p a) rest
    part-prefix q h = part_by (λ d l. rw (opening-prefix w q, h d l))

    pub part-prefix-none : {p : Prefix} → prefix_of w ≡ some p → ((d : ℕ) → length us ≤ d → part_to names d us ≡ none) → (d : ℕ) → length ts ≤ d → part_to names d ts ≡ none
    part-prefix-none q h = part_by (λ d l. rw (opening-prefix w q, h d l))

    opening-none : prefix_of w ≡ none → is_integer w ≡ false → is_name w && not (is_reserved w) ≡ false → same_bytes (bytes_of "(") w ≡ false → opening_of w ≡ no_opening
    unfolding opening_of
    opening-none p i n b = ap (λ o. opening_from o w) p ∙ (λ k. plain_opening (i k) (n k) (b k))

    pub part_none : prefix_of w ≡ none → is_integer w ≡ false → is_name w && not (is_reserved w) ≡ false → same_bytes (bytes_of "(") w ≡ false → (d : ℕ) → length ts ≤ d → part_to names d ts ≡ none
    part_none p i n b = part_by (λ d l. ap (λ o. part_from names (part_to names d) o w us) (opening-none p i n b))

  -- An expression in brackets, where m tokens stand before the partner.
  module _ {ts us : List Token} {m : ℕ} (e : ts ≡ bytes_of "(" ∷ us) (p : Partner us m) where
    bracket_found : {a : Expression} → ((d : ℕ) → length (take m us) ≤ d → expression_by (part_to names d) (take m us) ≡ parsed a []) → (d : ℕ) → length ts ≤ d → part_to names d ts ≡ parsed a (drop (suc m) us)
    bracket_found h zero l = let z = ap length e in absurd (omega arith)
    bracket_found h (suc d) l = let z = ap length e in let w = length-take m us in ap (part_to names (suc d)) e ∙ bracket_read names us d p (omega arith) (h d (omega arith))

    bracket_fails : ((d : ℕ) → length (take m us) ≤ d → (a : Expression) → expression_by (part_to names d) (take m us) ≡ parsed a [] → ⊥) → (d : ℕ) → length ts ≤ d → part_to names d ts ≡ none
    bracket_fails h zero l = let z = ap length e in absurd (omega arith)
    bracket_fails h (suc d) l =
        let z = ap length e in
        let w = length-take m us in
        ap (part_to names (suc d)) e ∙ by (part_to names (suc d) (bytes_of "(" ∷ us)) refl (λ x q. h d (omega arith) x.tree (bracket_read_back names us d p (omega arith) x q).0)
      where
        by : (o : Option Parsed) → part_to names (suc d) (bytes_of "(" ∷ us) ≡ o → ((x : Parsed) → part_to names (suc d) (bytes_of "(" ∷ us) ≡ some x → ⊥) → o ≡ none
        by none q f = refl
        by (some x) q f = absurd (f x q)

  -- The same in a text, where the partner is looked for among the bytes from the place `end` on and stands at the place `close`.
  module _ (text : List ℕ) (end close : ℕ) (forward : end ≤ close) (p : BytePartner (drop end text) (close - end)) where
    pub inner-tokens : tokens (drop end text) ≡ tokens (between text end close) ++ (bytes_of ")" ∷ tokens (drop (close + 1) text))
    inner-tokens =
        let there : end + suc (close - end) ≡ close + 1 = omega arith in
        byte_partner_tokens (drop end text) (close - end) p ∙ ap (λ l. tokens (between text end close) ++ (bytes_of ")" ∷ tokens l)) (drop-drop (suc (close - end)) end text ∙ ap (λ n. drop n text) there)

    pub inner-length : length (tokens (drop end text)) ≡ length (tokens (between text end close)) + suc (length (tokens (drop (close + 1) text)))
    inner-length = ap length inner-tokens ∙ length-append (tokens (between text end close)) (bytes_of ")" ∷ tokens (drop (close + 1) text))

    abbrev inner : List Token
    inner = tokens (between text end close)

    inner-front : take (length inner) (tokens (drop end text)) ≡ inner
    inner-front = ap (take (length inner)) inner-tokens ∙ take-append_seam inner (bytes_of ")" ∷ tokens (drop (close + 1) text))

    inner-after : drop (suc (length inner)) (tokens (drop end text)) ≡ tokens (drop (close + 1) text)
    inner-after =
        let more : suc (length inner) ≡ length inner + 1 = omega arith in
        ap₂ drop more inner-tokens ∙ drop-append-add inner (bytes_of ")" ∷ tokens (drop (close + 1) text)) 1

    partner : Partner (tokens (drop end text)) (length inner)
    partner = byte_partner (drop end text) (close - end) p

    module _ {ts : List Token} {w : Token} (e : ts ≡ w ∷ tokens (drop end text)) (b : same_bytes (bytes_of "(") w ≡ true) where
      first : ts ≡ bytes_of "(" ∷ tokens (drop end text)
      first = e ∙ ap (λ t. t ∷ tokens (drop end text)) (sym (same_word (bytes_of "(") w b))

      pub part_bracket : {a : Expression} → ((d : ℕ) → length inner ≤ d → expression_by (part_to names d) inner ≡ parsed a []) → (d : ℕ) → length ts ≤ d → part_to names d ts ≡ parsed a (tokens (drop (close + 1) text))
      part_bracket {a} h d l =
          bracket_found first partner (λ k j. ap (expression_by (part_to names k)) inner-front ∙ h k (subst (λ t. length t ≤ k) inner-front j)) d l ∙ ap (parsed a) inner-after

      pub part_bracket_none : ((d : ℕ) → length inner ≤ d → (a : Expression) → expression_by (part_to names d) inner ≡ parsed a [] → ⊥) → (d : ℕ) → length ts ≤ d → part_to names d ts ≡ none
      part_bracket_none h d l =
          bracket_fails first partner (λ k j a q. h k (subst (λ t. length t ≤ k) inner-front j) a (sym (ap (expression_by (part_to names k)) inner-front) ∙ q)) d l

  -- A bracket without a partner begins no part.
  pub part_open : (text : List ℕ) (end : ℕ) {ts : List Token} {w : Token} → ts ≡ w ∷ tokens (drop end text) → same_bytes (bytes_of "(") w ≡ true → ((k : ℕ) → BytePartner (drop end text) k → ⊥) → (d : ℕ) → part_to names d ts ≡ none
  part_open text end {w = w} e b f d =
      ap (part_to names d) (e ∙ ap (λ t. t ∷ tokens (drop end text)) (sym (same_word (bytes_of "(") w b)))
      ∙ no_partner names (tokens (drop end text)) d (λ m p. let (k, q) = partner_bytes (drop end text) p in f k q)

-- The bytes of the token at these places.
abbrev pub token_bytes : List ℕ → NumberedToken → Token
token_bytes text r = between text r.start r.end

pub no_word : (text : List ℕ) (r : NumberedToken) → r.start ≡ length text → r.end ≡ length text → token_bytes text r ≡ []
no_word text r p q = (λ i. between text (p i) (q i)) ∙ between_none text (length text)

-- An operator, and what the reader does with it.
pub record Operator-at (text : List ℕ) (rest : ℕ → List Token) (at : ℕ) (r : NumberedToken) (code : ℕ) : Type 0 where
  pub operator : Infix
  pub code_is : code ≡ infix_code operator
  pub first : rest at ≡ token_bytes text r ∷ rest r.next
  pub number : r.next ≡ at + 1
  pub goes_on : (p : Reader) (a : Expression) → after_part p a (rest at) ≡ and_then (p (rest r.next)) (λ y. parsed (infixed operator a y.tree) y.rest)

-- The first token of a text at a place, compared with a word.
module _ {text : List ℕ} {rest : ℕ → List Token} {at : ℕ} {r : NumberedToken} where
  pub word_is : (w : Token) → TokenNumbered text rest at r → (w ≡ [] → ⊥) → same_bytes w (token_bytes text r) ≡ true → rest at ≡ w ∷ rest r.next
  word_is w (nothing_left p q e) n h = absurd (n (same_word w (token_bytes text r) h ∙ no_word text r p q))
  word_is w (numbered s i m e j) n h = e ∙ ap (λ t. t ∷ rest r.next) (sym (same_word w (token_bytes text r) h))

  pub word_is_not : (w : Token) → TokenNumbered text rest at r → same_bytes w (token_bytes text r) ≡ false → expect w (rest at) ≡ none
  word_is_not w (nothing_left p q e) h = ap (expect w) e
  word_is_not w (numbered s i m e j) h = ap (expect w) e ∙ ap (λ m. cond m (some (rest r.next)) none) h

  pub word_number : (w : Token) → TokenNumbered text rest at r → (w ≡ [] → ⊥) → same_bytes w (token_bytes text r) ≡ true → r.next ≡ at + 1
  word_number w (nothing_left p q e) n h = absurd (n (same_word w (token_bytes text r) h ∙ no_word text r p q))
  word_number w (numbered s i m e j) n h = m

  -- An opening bracket is one byte long.
  pub open_bytes : TokenNumbered text rest at r → (r.start ≡ r.end → ⊥) → same_bytes (bytes_of "(") (token_bytes text r) ≡ true → rest r.next ≡ tokens (drop (r.start + 1) text)
  open_bytes k n h =
      let within = token-within k in
      let size : 1 ≡ length (token_bytes text r) = ap length (same_word (bytes_of "(") (token_bytes text r) h) in
      let long = between-length text r.start r.end within.0 within.1 in
      let end : r.end ≡ r.start + 1 = omega arith in
      token-bytes k n ∙ ap (λ e. tokens (drop e text)) end

  pub open_tokens : TokenNumbered text rest at r → (r.start ≡ r.end → ⊥) → same_bytes (bytes_of "(") (token_bytes text r) ≡ true → rest at ≡ token_bytes text r ∷ tokens (drop (r.start + 1) text)
  open_tokens k n h = token-tokens k n ∙ ap (λ us. token_bytes text r ∷ us) (open_bytes k n h)

  -- An expression that does not begin with `if` begins with a part.
  pub expression_part : (p : Reader) → p [] ≡ none → TokenNumbered text rest at r → same_bytes (bytes_of "if") (token_bytes text r) ≡ false → expression_by p (rest at) ≡ and_then (p (rest at)) (λ y. after_part p y.tree y.rest)
  unfolding expression_by
  expression_part p h (nothing_left _ _ e) n = ap (expression_by p) e ∙ sym (ap (λ o. and_then o (λ y. after_part p y.tree y.rest)) (ap p e ∙ h))
  expression_part p h (numbered _ _ _ e _) n =
      let after : Option Parsed → Option Parsed = λ o. and_then o (λ y. after_part p y.tree y.rest) in
      ap (expression_by p) e ∙ ap (λ m. cond m (conditional_by p (rest r.next)) (after (p (token_bytes text r ∷ rest r.next)))) n ∙ sym (ap (λ l. after (p l)) e)

  -- What stands after a part: no operator, or one.
  pub after_ends : (p : Reader) (a : Expression) → TokenNumbered text rest at r → code_or255 infix_code (operator_of (token_bytes text r)) ≡ 255 → after_part p a (rest at) ≡ parsed a (rest at)
  after_ends p a (nothing_left _ _ e) h = ap (after_part p a) e ∙ sym (ap (parsed a) e)
  after_ends p a (numbered _ _ _ e _) h =
      let none-there : operator_of (token_bytes text r) ≡ none = code-none infix_code infix_small (operator_of (token_bytes text r)) h in
      ap (after_part p a) e ∙ ap (λ o. operation_from p a (token_bytes text r ∷ rest r.next) o (rest r.next)) none-there ∙ sym (ap (parsed a) e)

  pub operator_at : {code : ℕ} → TokenNumbered text rest at r → code ≡ code_or255 infix_code (operator_of (token_bytes text r)) → (code ≡ 255 → ⊥) → Operator-at text rest at r code
  unfolding operator_of operator_tokens
  operator_at (nothing_left p q e) c n = absurd (n (c ∙ ap (λ w. code_or255 infix_code (operator_of w)) (no_word text r p q)))
  operator_at (numbered _ _ m e _) c n =
      let (o, is, code) = code-some infix_code (operator_of (token_bytes text r)) (λ h. n (c ∙ h)) in
      record {
        operator = o;
        code_is = c ∙ code;
        first = e;
        number = m;
        goes_on = λ p a. ap (after_part p a) e ∙ ap (λ m. operation_from p a (token_bytes text r ∷ rest r.next) m (rest r.next)) is;
      }
