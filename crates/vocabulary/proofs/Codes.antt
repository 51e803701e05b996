-- The numbers of prefixes and operators are below 255, so that 255 says that a token is none. From the lists of numbers.
use Prim.Native.Nat.{ℕ, ◌<◌}
use native.Mathlib.Omega.{arith}
use mathlib.Core.Path.{◌≡◌, sym, ◌∙◌}
use mathlib.Core.Option.{none}
use Rattle.text.specs.Bytes.{Token}
use Rattle.meaning.specs.Value.{Comparison, less, at_most, equal, at_least, greater, different}
use Rattle.meaning.specs.Arithmetic.{add, subtract, multiply, divide, remainder, compare, and, or, floored_divide, floored_remainder}
use Rattle.sheet.specs.Vocabulary.{Infix, pointwise, followed_by, operator_of, Prefix, first_prefix, next_prefix, not_prefix, prefix_of}
use Rattle.nodes.specs.Code.{comparison_code}
use Rattle.vocabulary.specs.Word.{code_or255, infix_code, prefix_code}
use Rattle.vocabulary.proofs.Words.{code-none}

prefix-small : (p : Prefix) → prefix_code p < 255
prefix-small first_prefix = omega arith
prefix-small next_prefix = omega arith
prefix-small not_prefix = omega arith

comparison-small : (c : Comparison) → comparison_code c < 6
comparison-small less = omega arith
comparison-small at_most = omega arith
comparison-small equal = omega arith
comparison-small at_least = omega arith
comparison-small greater = omega arith
comparison-small different = omega arith

pub infix_small : (o : Infix) → infix_code o < 255
infix_small (pointwise add) = omega arith
infix_small (pointwise subtract) = omega arith
infix_small (pointwise multiply) = omega arith
infix_small (pointwise divide) = omega arith
infix_small (pointwise remainder) = omega arith
infix_small (pointwise (compare c)) = let z = comparison-small c in omega arith
infix_small (pointwise and) = omega arith
infix_small (pointwise or) = omega arith
infix_small (pointwise floored_divide) = omega arith
infix_small (pointwise floored_remainder) = omega arith
infix_small followed_by = omega arith

pub no_prefix : (w : Token) {k : ℕ} → k ≡ code_or255 prefix_code (prefix_of w) → k ≡ 255 → prefix_of w ≡ none
no_prefix w e h = code-none prefix_code prefix-small (prefix_of w) (sym e ∙ h)

pub no_operator : (w : Token) {k : ℕ} → k ≡ code_or255 infix_code (operator_of w) → k ≡ 255 → operator_of w ≡ none
no_operator w e h = code-none infix_code infix_small (operator_of w) (sym e ∙ h)
