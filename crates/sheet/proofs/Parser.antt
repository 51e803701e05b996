-- The executable reader decides the grammar's relation: what it reads is read (soundness), and what is read it reads, for every bound
-- that is large enough (completeness). Hence the grammar is unambiguous. From the laws of Vocabulary.
use Prim.Native.Nat.{ℕ, zero, suc, ◌+◌, ◌≤◌}
use mathlib.Core.Path.{◌≡◌, refl, sym, ap, ap₂, subst, ◌∙◌}
use mathlib.Core.Bool.{Bool, true, false, cond}
use mathlib.Core.List.{List, [], ◌∷◌, ◌++◌, append_assoc, append-nil, append_cancel_right, head-eq_of_cons-eq, tail-eq_of_cons-eq}
use mathlib.Core.Option.{Option, some, none, none-ne-some, some-injective}
use native.Mathlib.Omega.{arith}
use lib.ListN.{length, length-append}
use Rattle.basics.proofs.Reflects.{from_true}
use Rattle.text.specs.Bytes.{Token, bytes_of}
use Rattle.text.specs.Token.{same_bytes}
use Rattle.text.proofs.Token.{same_bytes_reflects}
use Rattle.meaning.specs.Expression.{Expression, conditional, Constraint}
use Rattle.sheet.specs.Vocabulary.{Infix, infixed, operator_of, Relation, related, relation_of, Prefix, prefixed, prefix_of}
use Rattle.sheet.specs.Grammar.{Phrase, part, expression, Reads, is_integer_token, is_stream, is_bracketed, is_prefixed, is_part, is_operation, is_conditional, ReadsConstraint, is_constraint}
use Rattle.sheet.specs.Parser.{Parsed, parsed, and_then, expect, Reader, operation_from, after_part, conditional_by, expression_by, Opening, opening_of, whole_line, constraint_from, second_side, part_from, part_to, parse_constraint}
use Rattle.sheet.proofs.Vocabulary.{relation_no_operator, bracket_no_operator, Opens, by_integer, by_name, by_bracket, by_prefix, by_nothing, opening_of-opens, opening-integer, opening-name, opening-prefix, opening_bracket, opening_if}

-- A step that gave something was given something.
pub and_then-some : {X Y : Type 0} (o : Option X) (f : X → Option Y) {y : Y} → and_then o f ≡ some y → (x : X) × (o ≡ some x) × (f x ≡ some y)
and_then-some none f {y} e = absurd (none-ne-some y e)
and_then-some (some x) f e = (x, refl, e)

expect-some : (w : Token) (ts : List Token) {us : List Token} → expect w ts ≡ some us → ts ≡ w ∷ us
expect-some w [] {us} e = absurd (none-ne-some us e)
expect-some w (t ∷ ts) {us} e = by (same_bytes w t) refl e
  where
    by : (m : Bool) → same_bytes w t ≡ m → cond m (some ts) none ≡ some us → t ∷ ts ≡ w ∷ us
    by true p q = ap₂ ◌∷◌ (sym (from_true (same_bytes_reflects w t) p)) (some-injective ts us q)
    by false p q = absurd (none-ne-some us q)

-- A beginning of the tokens is read as x's tree, and x's rest stands after it.
pub record Split (names : List Token) (k : Phrase) (ts : List Token) (x : Parsed) : Type 0 where
  pub front : List Token
  pub whole : ts ≡ front ++ x.rest
  pub reads : Reads names k front x.tree

-- The tokens are none, or begin with no operator: an expression before them ends there.
abbrev pub NoOperator : List Token → Type 0
NoOperator [] = Unit
NoOperator (t ∷ ts) = operator_of t ≡ none

-- What may stand after a part or an expression without changing where it ends.
abbrev pub Follows : Phrase → List Token → Type 0
Follows part ts = Unit
Follows expression ts = NoOperator ts

follows-nil : (k : Phrase) → Follows k []
follows-nil part = tt
follows-nil expression = tt

module _ (names : List Token) where
  -- What the reader reads is read.
  abbrev Sound : Phrase → Reader → Type 0
  Sound k p = (ts : List Token) (x : Parsed) → p ts ≡ some x → Split names k ts x

  split-parsed : {k : Phrase} {ts : List Token} {e : Expression} {rest : List Token} {x : Parsed} → Split names k ts (record { tree = e; rest = rest }) → parsed e rest ≡ some x → Split names k ts x
  split-parsed {k} {ts} {e} {rest} {x} s q = subst (Split names k ts) (some-injective (record { tree = e; rest = rest }) x q) s

  operation_split : {front ts : List Token} (t : Token) {o : Infix} {a : Expression} {y : Parsed} → Reads names part front a → operator_of t ≡ some o → Split names part ts y
      → Split names expression (front ++ (t ∷ ts)) (record { tree = infixed o a y.tree; rest = y.rest })
  operation_split {front} t {y = y} r e s =
      record {
        front = front ++ (t ∷ s.front);
        whole = ap (λ l. front ++ (t ∷ l)) s.whole ∙ sym (append_assoc front (t ∷ s.front) y.rest);
        reads = is_operation t r e s.reads;
      }

  conditional-split : {ts us vs : List Token} {c a b : Parsed} → Split names part ts c → c.rest ≡ bytes_of "then" ∷ us → Split names part us a → a.rest ≡ bytes_of "else" ∷ vs → Split names part vs b
      → Split names expression (bytes_of "if" ∷ ts) (record { tree = conditional c.tree a.tree b.tree; rest = b.rest })
  conditional-split r p s q t =
      record {
        front = bytes_of "if" ∷ (r.front ++ (bytes_of "then" ∷ (s.front ++ (bytes_of "else" ∷ t.front))));
        whole = simp append_assoc (cc (r.whole, s.whole, t.whole));
        reads = is_conditional r.reads s.reads t.reads;
      }

  bracket_split : {t : Token} {ts us : List Token} {y : Parsed} → bytes_of "(" ≡ t → Split names expression ts y → y.rest ≡ bytes_of ")" ∷ us → Split names part (t ∷ ts) (record { tree = y.tree; rest = us })
  bracket_split {us = us} e s q =
      record {
        front = bytes_of "(" ∷ (s.front ++ (bytes_of ")" ∷ []));
        whole = simp append_assoc (cc s.whole);
        reads = is_bracketed s.reads;
      }

  module _ (p : Reader) (p-sound : Sound part p) where
    after_part-sound : (a : Expression) (rest front : List Token) (x : Parsed) → Reads names part front a → after_part p a rest ≡ some x → Split names expression (front ++ rest) x
    after_part-sound a [] front x r q = split-parsed (record { front = front; whole = refl; reads = is_part r }) q
    after_part-sound a (t ∷ ts) front x r q = by (operator_of t) refl q
      where
        by : (o : Option Infix) → operator_of t ≡ o → operation_from p a (t ∷ ts) o ts ≡ some x → Split names expression (front ++ (t ∷ ts)) x
        by none e h = split-parsed (record { front = front; whole = refl; reads = is_part r }) h
        by (some o) e h =
            let (y, read, done) = and_then-some (p ts) _ h in
            split-parsed (operation_split t r e (p-sound ts y read)) done

    conditional_by-sound : (ts : List Token) (x : Parsed) → conditional_by p ts ≡ some x → Split names expression (bytes_of "if" ∷ ts) x
    conditional_by-sound ts x q =
        let (c, read-c, q₁) = and_then-some (p ts) _ q in
        let (us, then-us, q₂) = and_then-some (expect (bytes_of "then") c.rest) _ q₁ in
        let (a, read_a, q₃) = and_then-some (p us) _ q₂ in
        let (vs, else-vs, q₄) = and_then-some (expect (bytes_of "else") a.rest) _ q₃ in
        let (b, read-b, q₅) = and_then-some (p vs) _ q₄ in
        split-parsed {e = conditional c.tree a.tree b.tree} {rest = b.rest} (conditional-split {c = c} {a = a} {b = b} (p-sound ts c read-c) (expect-some (bytes_of "then") c.rest then-us) (p-sound us a read_a) (expect-some (bytes_of "else") a.rest else-vs) (p-sound vs b read-b)) q₅

    expression_by-sound : Sound expression (expression_by p)
    unfolding expression_by
    expression_by-sound [] x q = absurd (none-ne-some x q)
    expression_by-sound (t ∷ ts) x q = by (same_bytes (bytes_of "if") t) refl q
      where
        by : (m : Bool) → same_bytes (bytes_of "if") t ≡ m → cond m (conditional_by p ts) (and_then (p (t ∷ ts)) (λ y. after_part p y.tree y.rest)) ≡ some x → Split names expression (t ∷ ts) x
        by true e h = subst (λ u. Split names expression (u ∷ ts) x) (from_true (same_bytes_reflects (bytes_of "if") t) e) (conditional_by-sound ts x h)
        by false e h =
            let (y, read, done) = and_then-some (p (t ∷ ts)) _ h in
            let s : Split names part (t ∷ ts) y = p-sound (t ∷ ts) y read in
            subst (λ l. Split names expression l x) (sym s.whole) (after_part-sound y.tree y.rest s.front x s.reads done)

    part_from-sound : {o : Opening} (t : Token) (ts : List Token) (x : Parsed) → Opens t o → part_from names p o t ts ≡ some x → Split names part (t ∷ ts) x
    part_from-sound t ts x (by_integer h) q = split-parsed (record { front = t ∷ []; whole = refl; reads = is_integer_token h }) q
    part_from-sound t ts x (by_name h k) q = split-parsed (record { front = t ∷ []; whole = refl; reads = is_stream h k }) q
    part_from-sound t ts x (by_bracket e) q =
        let (y, read, q₁) = and_then-some (expression_by p ts) _ q in
        let (us, close-us, q₂) = and_then-some (expect (bytes_of ")") y.rest) _ q₁ in
        split-parsed (bracket_split e (expression_by-sound ts y read) (expect-some (bytes_of ")") y.rest close-us)) q₂
    part_from-sound t ts x (by_prefix e) q =
        let (y, read, q₁) = and_then-some (p ts) _ q in
        let s : Split names part ts y = p-sound ts y read in
        split-parsed (record { front = t ∷ s.front; whole = ap (λ l. t ∷ l) s.whole; reads = is_prefixed e s.reads }) q₁
    part_from-sound t ts x by_nothing q = absurd (none-ne-some x q)

  -- Soundness: what the readers give stands at the beginning of the tokens and is read.
  pub part_to-sound : (n : ℕ) (ts : List Token) (x : Parsed) → part_to names n ts ≡ some x → Split names part ts x
  unfolding part_to
  part_to-sound zero ts x q = absurd (none-ne-some x q)
  part_to-sound (suc n) [] x q = absurd (none-ne-some x q)
  part_to-sound (suc n) (t ∷ ts) x q = part_from-sound (part_to names n) (part_to-sound n) t ts x (opening_of-opens t) q

  pub expression_to_sound : (n : ℕ) (ts : List Token) (x : Parsed) → expression_by (part_to names n) ts ≡ some x → Split names expression ts x
  expression_to_sound n ts x q = expression_by-sound (part_to names n) (part_to-sound n) ts x q

  whole_line-some : (d : Constraint) (rest : List Token) {c : Constraint} → whole_line d rest ≡ some c → (rest ≡ []) × (d ≡ c)
  whole_line-some d [] {c} q = (refl, some-injective d c q)
  whole_line-some d (t ∷ us) {c} q = absurd (none-ne-some c q)

  constraint-of : {ts us : List Token} (t : Token) {r : Relation} {a : Expression} {z : Parsed} {c : Constraint} → Reads names expression ts a → relation_of t ≡ some r → Split names expression us z → z.rest ≡ [] → related r a z.tree ≡ c
      → ReadsConstraint names (ts ++ (t ∷ us)) c
  constraint-of {ts} {us} t {c = c} h e s q d =
      let all : s.front ≡ us = sym (append-nil s.front) ∙ ap (λ l. s.front ++ l) (sym q) ∙ sym s.whole in
      subst (λ l. ReadsConstraint names (ts ++ (t ∷ l)) c) all (subst (ReadsConstraint names (ts ++ (t ∷ s.front))) d (is_constraint t h e s.reads))

  second_side-sound : (n : ℕ) (a : Expression) (rest front : List Token) (c : Constraint) → Reads names expression front a → second_side (part_to names n) a rest ≡ some c → ReadsConstraint names (front ++ rest) c
  second_side-sound n a [] front c r q = absurd (none-ne-some c q)
  second_side-sound n a (t ∷ ts) front c r q = by (relation_of t) refl q
    where
      by : (o : Option Relation) → relation_of t ≡ o → constraint_from (part_to names n) a o ts ≡ some c → ReadsConstraint names (front ++ (t ∷ ts)) c
      by none e h = absurd (none-ne-some c h)
      by (some o) e h =
          let (z, read, done) = and_then-some (expression_by (part_to names n) ts) _ h in
          let (ended, same) = whole_line-some (related o a z.tree) z.rest done in
          constraint-of t {z = z} r e (expression_to_sound n ts z read) ended same

  pub parse_constraint-sound : (ts : List Token) (c : Constraint) → parse_constraint names ts ≡ some c → ReadsConstraint names ts c
  unfolding parse_constraint
  parse_constraint-sound ts c q =
      let (y, read, done) = and_then-some (expression_by (part_to names (length ts)) ts) _ q in
      let s : Split names expression ts y = expression_to_sound (length ts) ts y read in
      subst (λ l. ReadsConstraint names l c) (sym s.whole) (second_side-sound (length ts) y.tree y.rest s.front c s.reads done)

  abbrev read_to : Phrase → ℕ → Reader
  read_to part n = part_to names n
  read_to expression n = expression_by (part_to names n)

  after_part-ends : (p : Reader) (a : Expression) (rest : List Token) → NoOperator rest → after_part p a rest ≡ parsed a rest
  after_part-ends p a [] f = refl
  after_part-ends p a (t ∷ ts) f = ap (λ o. operation_from p a (t ∷ ts) o ts) f

  -- What is read as a part does not begin with `if`, so that an expression that begins with it goes on after it.
  part_to_if : (n : ℕ) (ts : List Token) → part_to names n (bytes_of "if" ∷ ts) ≡ none
  unfolding part_to
  part_to_if zero ts = refl
  part_to_if (suc n) ts = ap (λ o. part_from names (part_to names n) o (bytes_of "if") ts) opening_if

  part_to-nil : (n : ℕ) → part_to names n [] ≡ none
  unfolding part_to
  part_to-nil zero = refl
  part_to-nil (suc n) = refl

  expression_to_part : (n : ℕ) (ts : List Token) {e : Expression} {rest : List Token} → part_to names n ts ≡ parsed e rest → expression_by (part_to names n) ts ≡ after_part (part_to names n) e rest
  unfolding expression_by
  expression_to_part n [] q = absurd (none-ne-some _ (sym (part_to-nil n) ∙ q))
  expression_to_part n (t ∷ ts) {e} {rest} q = by (same_bytes (bytes_of "if") t) refl
    where
      other : Option Parsed
      other = and_then (part_to names n (t ∷ ts)) (λ y. after_part (part_to names n) y.tree y.rest)

      by : (m : Bool) → same_bytes (bytes_of "if") t ≡ m → cond m (conditional_by (part_to names n) ts) other ≡ after_part (part_to names n) e rest
      by true h = absurd (none-ne-some _ (sym (part_to_if n ts) ∙ ap (λ u. part_to names n (u ∷ ts)) (from_true (same_bytes_reflects (bytes_of "if") t) h) ∙ q))
      by false h = ap (λ o. and_then o (λ y. after_part (part_to names n) y.tree y.rest)) q

  module _ (p : Reader) where
    bracket_complete : (ts rest : List Token) {e : Expression} → expression_by p (ts ++ (bytes_of ")" ∷ rest)) ≡ parsed e (bytes_of ")" ∷ rest)
        → part_from names p (opening_of (bytes_of "(")) (bytes_of "(") ((ts ++ (bytes_of ")" ∷ [])) ++ rest) ≡ parsed e rest
    bracket_complete ts rest q = rw (opening_bracket, append_assoc ts (bytes_of ")" ∷ []) rest, q)

    prefix-complete : (t : Token) (ts rest : List Token) {f : Prefix} {e : Expression} → prefix_of t ≡ some f → p (ts ++ rest) ≡ parsed e rest → part_from names p (opening_of t) t (ts ++ rest) ≡ parsed (prefixed f e) rest
    prefix-complete t ts rest h q = rw (opening-prefix t h, q)

    operation_complete : (t : Token) (us rest : List Token) (a : Expression) {o : Infix} {b : Expression} → operator_of t ≡ some o → p (us ++ rest) ≡ parsed b rest → after_part p a (t ∷ (us ++ rest)) ≡ parsed (infixed o a b) rest
    operation_complete t us rest a h q = rw (h, q)

    conditional-complete : (ts us vs rest : List Token) {c a b : Expression} → p (ts ++ (bytes_of "then" ∷ (us ++ (bytes_of "else" ∷ (vs ++ rest))))) ≡ parsed c (bytes_of "then" ∷ (us ++ (bytes_of "else" ∷ (vs ++ rest))))
        → p (us ++ (bytes_of "else" ∷ (vs ++ rest))) ≡ parsed a (bytes_of "else" ∷ (vs ++ rest)) → p (vs ++ rest) ≡ parsed b rest
        → expression_by p ((bytes_of "if" ∷ (ts ++ (bytes_of "then" ∷ (us ++ (bytes_of "else" ∷ vs))))) ++ rest) ≡ parsed (conditional c a b) rest
    unfolding expression_by
    conditional-complete ts us vs rest q r s = simp (append_assoc, q, r, s)

  complete : {k : Phrase} {us : List Token} {e : Expression} → Reads names k us e → (n : ℕ) → length us ≤ n → (rest : List Token) → Follows k rest → read_to k n (us ++ rest) ≡ parsed e rest
  unfolding part_to
  complete (is_integer_token h) zero l rest f = absurd (omega arith)
  complete (is_integer_token {t} h) (suc n) l rest f = ap (λ o. part_from names (part_to names n) o t rest) (opening-integer t h)
  complete (is_stream h k) zero l rest f = absurd (omega arith)
  complete (is_stream {t} h k) (suc n) l rest f = ap (λ o. part_from names (part_to names n) o t rest) (opening-name t h k)
  complete (is_bracketed r) zero l rest f = absurd (omega arith)
  complete (is_bracketed {ts} r) (suc n) l rest f = bracket_complete (part_to names n) ts rest (complete r n (omega (arith, l, length-append ts (bytes_of ")" ∷ []))) (bytes_of ")" ∷ rest) bracket_no_operator)
  complete (is_prefixed e r) zero l rest f = absurd (omega arith)
  complete (is_prefixed {t} {ts = ts} e r) (suc n) l rest f = prefix-complete (part_to names n) t ts rest e (complete r n (omega arith) rest tt)
  complete (is_part {ts} {e} r) n l rest f = expression_to_part n (ts ++ rest) (complete r n l rest tt) ∙ after_part-ends (part_to names n) e rest f
  complete (is_operation {ts} {us} t {a = a} r e s) n l rest f =
      let len : length (ts ++ (t ∷ us)) ≡ length ts + suc (length us) = length-append ts (t ∷ us) in
      ap (expression_by (part_to names n)) (append_assoc ts (t ∷ us) rest)
      ∙ expression_to_part n (ts ++ (t ∷ (us ++ rest))) (complete r n (omega arith) (t ∷ (us ++ rest)) tt)
      ∙ operation_complete (part_to names n) t us rest a e (complete s n (omega arith) rest tt)
  complete (is_conditional {ts} {us} {vs} r s t) n l rest f =
      let len : length (ts ++ (bytes_of "then" ∷ (us ++ (bytes_of "else" ∷ vs)))) ≡ length ts + suc (length us + suc (length vs)) = length-append ts _ ∙ ap (λ m. length ts + suc m) (length-append us _) in
      conditional-complete (part_to names n) ts us vs rest
      (complete r n (omega arith) (bytes_of "then" ∷ (us ++ (bytes_of "else" ∷ (vs ++ rest)))) tt)
      (complete s n (omega arith) (bytes_of "else" ∷ (vs ++ rest)) tt)
      (complete t n (omega arith) rest tt)

  -- Completeness: what is read the readers give, for every bound that is at least its length.
  pub part_to-complete : {us : List Token} {e : Expression} → Reads names part us e → (n : ℕ) → length us ≤ n → (rest : List Token) → part_to names n (us ++ rest) ≡ parsed e rest
  part_to-complete r n l rest = complete r n l rest tt

  pub expression_to_complete : {us : List Token} {e : Expression} → Reads names expression us e → (n : ℕ) → length us ≤ n → (rest : List Token) → NoOperator rest → expression_by (part_to names n) (us ++ rest) ≡ parsed e rest
  expression_to_complete r n l rest f = complete r n l rest f

  pub parse_constraint-complete : {ts : List Token} {c : Constraint} → ReadsConstraint names ts c → parse_constraint names ts ≡ some c
  unfolding parse_constraint
  parse_constraint-complete (is_constraint {ts} {us} t {r} {a} h e k) =
      let n : ℕ = length (ts ++ (t ∷ us)) in
      let len : length (ts ++ (t ∷ us)) ≡ length ts + suc (length us) = length-append ts (t ∷ us) in
      ap (λ o. and_then o (λ y. second_side (part_to names n) y.tree y.rest)) (expression_to_complete h n (omega arith) (t ∷ us) (relation_no_operator t e))
      ∙ ap (λ o. constraint_from (part_to names n) a o us) e
      ∙ ap (λ o. and_then o (λ y. whole_line (related r a y.tree) y.rest)) (ap (expression_by (part_to names n)) (sym (append-nil us)) ∙ expression_to_complete k n (omega arith) [] tt)

  -- What one bound is enough for, every bound gives that is at least the number of the tokens, so that such bounds agree.
  part_to-some : (ts : List Token) (m n : ℕ) (x : Parsed) → length ts ≤ n → part_to names m ts ≡ some x → part_to names n ts ≡ some x
  part_to-some ts m n x l q =
      let s : Split names part ts x = part_to-sound m ts x q in
      let len : length ts ≡ length s.front + length x.rest = ap length s.whole ∙ length-append s.front x.rest in
      ap (part_to names n) s.whole ∙ part_to-complete s.reads n (omega arith) x.rest

  pub part_to-bound : (ts : List Token) (m n : ℕ) → length ts ≤ m → length ts ≤ n → part_to names m ts ≡ part_to names n ts
  part_to-bound ts m n k l = by (part_to names m ts) (part_to names n ts) refl refl
    where
      by : (o o' : Option Parsed) → part_to names m ts ≡ o → part_to names n ts ≡ o' → o ≡ o'
      by (some x) o' p q = sym (part_to-some ts m n x l p) ∙ q
      by none none p q = refl
      by none (some y) p q = absurd (none-ne-some y (sym p ∙ part_to-some ts n m y k q))

  -- Two readings of a beginning of the same tokens end at the same place with the same tree.
  parsed-same : {e e' : Expression} {rest rest' : List Token} → parsed e rest ≡ parsed e' rest' → (e ≡ e') × (rest ≡ rest')
  parsed-same q = let same = some-injective _ _ q in (ap (λ y. y.tree) same, ap (λ y. y.rest) same)

  pub reads_unique : {k : Phrase} {us us' rest rest' : List Token} {e e' : Expression} → Reads names k us e → Reads names k us' e' → Follows k rest → Follows k rest' → us ++ rest ≡ us' ++ rest'
      → (e ≡ e') × (us ≡ us') × (rest ≡ rest')
  reads_unique {k} {us} {us'} {rest} {rest'} h h' f f' q =
      let n : ℕ = length us + length us' in
      let (tree, after) = parsed-same (sym (complete h n (omega arith) rest f) ∙ ap (read_to k n) q ∙ complete h' n (omega arith) rest' f') in
      (tree, append_cancel_right us us' rest (q ∙ ap (λ l. us' ++ l) (sym after)), after)

  -- The grammar is unambiguous.
  pub reads_unambiguous : {k : Phrase} {ts : List Token} {e e' : Expression} → Reads names k ts e → Reads names k ts e' → e ≡ e'
  reads_unambiguous {k} h h' = (reads_unique h h' (follows-nil k) (follows-nil k) refl).0

  pub constraint_unambiguous : {ts : List Token} {c c' : Constraint} → ReadsConstraint names ts c → ReadsConstraint names ts c' → c ≡ c'
  constraint_unambiguous h h' = some-injective _ _ (sym (parse_constraint-complete h) ∙ parse_constraint-complete h')

  -- The sign of a constraint stands at one place only.
  pub sign_unique : {ts ts' us us' : List Token} (t t' : Token) {r r' : Relation} {a a' : Expression} → Reads names expression ts a → relation_of t ≡ some r → Reads names expression ts' a' → relation_of t' ≡ some r'
      → ts ++ (t ∷ us) ≡ ts' ++ (t' ∷ us') → (ts ≡ ts') × (t ≡ t') × (us ≡ us')
  sign_unique t t' h e h' e' q =
      let (_, before, after) = reads_unique h h' (relation_no_operator t e) (relation_no_operator t' e') q in
      (before, head-eq_of_cons-eq after, tail-eq_of_cons-eq after)

  -- The reader decides whether a line's tokens are a constraint, and which.
  pub parse_constraint-none : (ts : List Token) → parse_constraint names ts ≡ none → (c : Constraint) → ReadsConstraint names ts c → ⊥
  parse_constraint-none ts q c h = none-ne-some c (sym q ∙ parse_constraint-complete h)

  pub reads_constraint_decided : (ts : List Token) → Dec ((c : Constraint) × ReadsConstraint names ts c)
  reads_constraint_decided ts = by (parse_constraint names ts) refl
    where
      by : (o : Option Constraint) → parse_constraint names ts ≡ o → Dec ((c : Constraint) × ReadsConstraint names ts c)
      by none e = no (λ h. parse_constraint-none ts e h.0 h.1)
      by (some c) e = yes (c, parse_constraint-sound ts c e)
