-- The grammar of parts, expressions and constraints as a relation between tokens and trees (document 01, "The sheet").
use Rattle.std.specs.Prelude.{◌≡◌, not, List, [], ◌∷◌, ◌++◌, T}
use Rattle.std.proofs.Math.Option.{some}
use Rattle.text.specs.Bytes.{Token, bytes_of}
use Rattle.text.specs.Token.{is_name, is_integer, integer_value, is_reserved}
use Rattle.meaning.specs.Expression.{Expression, integer, name, conditional, Constraint}
use Rattle.sheet.specs.Vocabulary.{Infix, infixed, operator_of, Relation, related, relation_of, Prefix, prefixed, prefix_of, name_place}

-- What tokens can be read as.
pub data Phrase : Type 0 where
  part expression : Phrase

-- The tokens are read as the part or the expression, where `names` are those of line 1.
pub data Reads (names : List Token) : Phrase → List Token → Expression → Type 0 where
  -- "A part is an integer,"
  is_integer_token : {t : Token} → T (is_integer t) → Reads names part (t ∷ []) (integer (integer_value t))
  -- "a name," ("Reserved words [..] in a constraint they are never names.")
  is_stream : {t : Token} → T (is_name t) → T (not (is_reserved t)) → Reads names part (t ∷ []) (name (name_place names t))
  -- "an expression in brackets,"
  is_bracketed : {ts : List Token} {e : Expression} → Reads names expression ts e → Reads names part (bytes_of "(" ∷ (ts ++ (bytes_of ")" ∷ []))) e
  -- "or `first`, `next` or `not` before a part."
  is_prefixed : {t : Token} {p : Prefix} {ts : List Token} {e : Expression} → prefix_of t ≡ some p → Reads names part ts e → Reads names part (t ∷ ts) (prefixed p e)
  -- "An expression is a part,"
  is_part : {ts : List Token} {e : Expression} → Reads names part ts e → Reads names expression ts e
  -- "or two parts with an operator between them,"
  is_operation : {ts us : List Token} (t : Token) {o : Infix} {a b : Expression} → Reads names part ts a → operator_of t ≡ some o → Reads names part us b → Reads names expression (ts ++ (t ∷ us)) (infixed o a b)
  -- "or `if` part `then` part `else` part."
  is_conditional : {ts us vs : List Token} {c a b : Expression} → Reads names part ts c → Reads names part us a → Reads names part vs b
      → Reads names expression (bytes_of "if" ∷ (ts ++ (bytes_of "then" ∷ (us ++ (bytes_of "else" ∷ vs))))) (conditional c a b)

-- "A constraint is two expressions with one of `< <= == >= > != -> until` between them."
pub data ReadsConstraint (names : List Token) : List Token → Constraint → Type 0 where
  is_constraint : {ts us : List Token} (t : Token) {r : Relation} {a b : Expression} → Reads names expression ts a → relation_of t ≡ some r → Reads names expression us b
      → ReadsConstraint names (ts ++ (t ∷ us)) (related r a b)
