-- An executable reader of parts, expressions and constraints. The laws of proofs/ show that it decides the grammar's relation.
use Rattle.std.specs.Prelude.{ℕ, zero, suc, Bool, true, false, not, cond, ◌&&◌, List, [], ◌∷◌, length}
use Rattle.std.proofs.Math.Option.{Option, some, none}
use Rattle.text.specs.Bytes.{Token, bytes_of}
use Rattle.text.specs.Token.{same_bytes, is_name, is_integer, integer_value, is_reserved}
use Rattle.meaning.specs.Expression.{Expression, integer, name, conditional, Constraint}
use Rattle.sheet.specs.Vocabulary.{Infix, infixed, operator_of, Relation, related, relation_of, Prefix, prefixed, prefix_of, name_place}

-- What was read, and the tokens after it.
pub record Parsed : Type 0 where
  pub tree : Expression
  pub rest : List Token

abbrev pub parsed : Expression → List Token → Option Parsed
parsed e r = some (record { tree = e; rest = r })

abbrev pub and_then : {X Y : Type 0} → Option X → (X → Option Y) → Option Y
and_then none f = none
and_then (some x) f = f x

-- The tokens after this one word.
abbrev pub expect : Token → List Token → Option (List Token)
expect w [] = none
expect w (t ∷ ts) = cond (same_bytes w t) (some ts) none

abbrev pub Reader : Type 0
Reader = List Token → Option Parsed

-- A part, and an operator with a second part if one follows.
abbrev pub operation_from : Reader → Expression → List Token → Option Infix → List Token → Option Parsed
operation_from p a whole none ts = parsed a whole
operation_from p a whole (some o) ts = and_then (p ts) (λ y. parsed (infixed o a y.tree) y.rest)

abbrev pub after_part : Reader → Expression → List Token → Option Parsed
after_part p a [] = parsed a []
after_part p a (t ∷ ts) = operation_from p a (t ∷ ts) (operator_of t) ts

abbrev pub conditional_by : Reader → List Token → Option Parsed
conditional_by p ts =
    and_then (p ts) λ c.
    and_then (expect (bytes_of "then") c.rest) λ us.
    and_then (p us) λ a.
    and_then (expect (bytes_of "else") a.rest) λ vs.
    and_then (p vs) λ b.
    parsed (conditional c.tree a.tree b.tree) b.rest

-- An expression, where p reads the parts.
unfoldable pub expression_by : Reader → List Token → Option Parsed
expression_by p [] = none
expression_by p (t ∷ ts) =
    let other = and_then (p (t ∷ ts)) (λ y. after_part p y.tree y.rest) in
    cond (same_bytes (bytes_of "if") t) (conditional_by p ts) other

-- What a part can begin with.
pub data Opening : Type 0 where
  integer_opening name_opening bracket_opening no_opening : Opening
  prefix_opening : Prefix → Opening

abbrev pub plain_opening : Bool → Bool → Bool → Opening
plain_opening true n b = integer_opening
plain_opening false true b = name_opening
plain_opening false false true = bracket_opening
plain_opening false false false = no_opening

abbrev pub opening_from : Option Prefix → Token → Opening
opening_from (some p) t = prefix_opening p
opening_from none t = plain_opening (is_integer t) (is_name t && not (is_reserved t)) (same_bytes (bytes_of "(") t)

unfoldable pub opening_of : Token → Opening
opening_of t = opening_from (prefix_of t) t

abbrev pub whole_line : Constraint → List Token → Option Constraint
whole_line c [] = some c
whole_line c (t ∷ us) = none

abbrev pub constraint_from : Reader → Expression → Option Relation → List Token → Option Constraint
constraint_from p a none ts = none
constraint_from p a (some r) ts = and_then (expression_by p ts) (λ y. whole_line (related r a y.tree) y.rest)

-- A relation's sign and the second side after the first side a.
abbrev pub second_side : Reader → Expression → List Token → Option Constraint
second_side p a [] = none
second_side p a (t ∷ ts) = constraint_from p a (relation_of t) ts

module _ (names : List Token) where
  -- A part, where p reads the parts inside it.
  abbrev pub part_from : Reader → Opening → Token → List Token → Option Parsed
  part_from p integer_opening t ts = parsed (integer (integer_value t)) ts
  part_from p name_opening t ts = parsed (name (name_place names t)) ts
  part_from p bracket_opening t ts = and_then (expression_by p ts) (λ y. and_then (expect (bytes_of ")") y.rest) (λ us. parsed y.tree us))
  part_from p (prefix_opening f) t ts = and_then (p ts) (λ y. parsed (prefixed f y.tree) y.rest)
  part_from p no_opening t ts = none

  -- A part that holds no part deeper than n.
  unfoldable pub part_to : ℕ → Reader
  part_to zero ts = none
  part_to (suc n) [] = none
  part_to (suc n) (t ∷ ts) = part_from (part_to n) (opening_of t) t ts

  -- The constraint that the tokens of one line are: no part is deeper than the line is long.
  unfoldable pub parse_constraint : List Token → Option Constraint
  parse_constraint ts = and_then (expression_by (part_to (length ts)) ts) (λ y. second_side (part_to (length ts)) y.tree y.rest)
