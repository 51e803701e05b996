-- The first token from a place of a text on (document 01, "The sheet": "Tokens are brackets, each by itself, and the longest runs of bytes 33 to
-- 126 without brackets"). proofs/Token shows that it is the token of scan's relation `TokenAt`.
use Rattle.std.specs.Prelude.{ℕ, suc, Bool, true, false, List, [], ◌∷◌, drop}
use Rattle.text.specs.Bytes.{ByteClass, bracket, inside, between, class_of, starts_inside}
use Rattle.scan.specs.declared.Span.{Span}

abbrev pub span : ℕ → ℕ → Span
span a b = record { start = a; end = b }

-- The first token of a byte of this class at the place p before bytes whose first token is t; `goes_on` says whether the next byte belongs to the
-- same run.
abbrev pub add_to_first : ByteClass → Bool → ℕ → Span → Span
add_to_first bracket goes_on p t = span p (suc p)
add_to_first inside true p t = span p t.end
add_to_first inside false p t = span p (suc p)
add_to_first between goes_on p t = t

-- The first token of bytes that stand from the place p on; both its places are the one behind the bytes where they have no token.
unfoldable pub first_token : ℕ → List ℕ → Span
first_token p [] = span p p
first_token p (b ∷ bs) = add_to_first (class_of b) (starts_inside bs) p (first_token (suc p) bs)

abbrev pub token_from : List ℕ → ℕ → Span
token_from text at = first_token at (drop at text)
