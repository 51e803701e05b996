-- The answers of the reader of constraints: each way that it goes gives what its contract says. From the laws of Readers and Trees.
use Prim.Native.Nat.{ℕ, ◌+◌, ◌-◌, ◌≤◌, ◌<◌}
use mathlib.Core.Path.{◌≡◌, refl, sym, ap, ap₂, ◌∙◌}
use mathlib.Core.Bool.{Bool, true, false, ◌||◌}
use mathlib.Core.List.{List, [], ◌∷◌, ◌++◌}
use mathlib.Core.Option.{none}
use native.Mathlib.Omega.{arith}
use lib.ListN.{length, length-append}
use Rattle.nodes.specs.Evaluate.{Nodes}
use Rattle.text.specs.Bytes.{Token, tokens}
use Rattle.meaning.specs.Value.{less, at_most, equal, at_least, greater, different}
use Rattle.meaning.specs.Expression.{Expression, comparison, implies}
use Rattle.meaning.specs.Interval.{subexpressions}
use Rattle.meaning.specs.Window.{firsts}
use Rattle.nodes.specs.Postfix.{postfix, side_nodes}
use Rattle.sheet.specs.Vocabulary.{Relation, sign, until_sign, related, relation_tokens, relation_of}
use Rattle.sheet.specs.Reading.{any_of, is_integer_beyond}
use Rattle.sheet.specs.Parser.{and_then, Reader, expression_by, whole_line, constraint_from, second_side, part_to, parse_constraint}
use Rattle.vocabulary.specs.Word.{code_or255, relation_number}
use Rattle.vocabulary.proofs.Words.{code-none, code-some}
use Rattle.parse.specs.declared.NumberedToken.{NumberedToken}
use Rattle.parse.specs.declared.Read.{Read}
use Rattle.parse.specs.declared.ConstraintRead.{ConstraintRead}
use Rattle.parse.specs.Stored.{store, SameBelow}
use Rattle.parse.specs.Bounded.{bounded_expression, has_beyond, bounded_constraint}
use Rattle.parse.specs.Numbered.{TokenNumbered, nothing_left, numbered}
use Rattle.parse.specs.Reading.{StoresTree, TreeRead, unread, constraint_read, Fits, StartsOutcome, are_kept, ConstraintOutcome, is_too_long, is_no_constraint, is_read}
use Rattle.parse.proofs.Trees.{any_of-append, NodesInRow, row_one, row_more}
use Rattle.parse.proofs.Readers.{token_bytes, no_word}

relation-small : (r : Relation) → relation_number r < 255
relation-small (sign (comparison less)) = omega arith
relation-small (sign (comparison at_most)) = omega arith
relation-small (sign (comparison equal)) = omega arith
relation-small (sign (comparison at_least)) = omega arith
relation-small (sign (comparison greater)) = omega arith
relation-small (sign (comparison different)) = omega arith
relation-small (sign implies) = omega arith
relation-small until_sign = omega arith

-- What stands after the first side: no relation, or one.
pub no_relation : {line : List ℕ} {rest : ℕ → List Token} {at : ℕ} {s : NumberedToken} (p : Reader) (a : Expression) → TokenNumbered line rest at s → code_or255 relation_number (relation_of (token_bytes line s)) ≡ 255 → second_side p a (rest at) ≡ none
no_relation p a (nothing_left _ _ e) h = ap (second_side p a) e
no_relation {line} {rest} {s = s} p a (numbered _ _ _ e _) h =
    ap (second_side p a) e ∙ ap (λ o. constraint_from p a o (rest s.next)) (code-none relation_number relation-small (relation_of (token_bytes line s)) h)

pub record Relation-at (line : List ℕ) (rest : ℕ → List Token) (at : ℕ) (s : NumberedToken) (code : ℕ) : Type 0 where
  pub relation : Relation
  pub code_is : code ≡ relation_number relation
  pub first : rest at ≡ token_bytes line s ∷ rest s.next
  pub number : s.next ≡ at + 1
  pub goes_on : (p : Reader) (a : Expression) → second_side p a (rest at) ≡ and_then (expression_by p (rest s.next)) (λ y. whole_line (related relation a y.tree) y.rest)

pub relation-at : {line : List ℕ} {rest : ℕ → List Token} {at : ℕ} {s : NumberedToken} {code : ℕ} → TokenNumbered line rest at s → code ≡ code_or255 relation_number (relation_of (token_bytes line s)) → (code ≡ 255 → ⊥) → Relation-at line rest at s code
unfolding relation_of relation_tokens
relation-at {line} {s = s} (nothing_left p q e) c n = absurd (n (c ∙ ap (λ w. code_or255 relation_number (relation_of w)) (no_word line s p q)))
relation-at {line} {rest} {s = s} (numbered _ _ m e _) c n =
    let (r, is, code) = code-some relation_number (relation_of (token_bytes line s)) (λ h. n (c ∙ h)) in
    record {
      relation = r;
      code_is = c ∙ code;
      first = e;
      number = m;
      goes_on = λ p a. ap (second_side p a) e ∙ ap (λ o. constraint_from p a o (rest s.next)) is;
    }

-- The sides of a constraint and what is stored of them.
related-nodes : (r : Relation) (a b : Expression) (n f : ℕ) → postfix n f (bounded_expression a) ++ postfix (n + length (postfix n f (bounded_expression a))) (f + length (firsts (bounded_expression a))) (bounded_expression b) ≡ side_nodes n f (bounded_constraint (related r a b))
related-nodes (sign s) a b n f = refl
related-nodes until_sign a b n f = refl

abbrev answer : ℕ → ℕ → ℕ → ℕ → ℕ → Bool → ConstraintRead
answer relation left right next firsts beyond = record { fits = true; ok = true; relation = relation; left = left; right = right; next = next; firsts = firsts; beyond = beyond }

module _ {old mid new : Nodes} {n f m g k h : ℕ} {x y : Bool} {a b : Expression} (s : StoresTree a old mid n f m g x) (t : StoresTree b mid new m g k h y) (r : Relation) where
  abbrev left : ℕ
  left = length (postfix n f (bounded_expression a))

  abbrev right : ℕ
  right = length (postfix (n + left) (f + length (firsts (bounded_expression a))) (bounded_expression b))

  row : NodesInRow old new n f k h (postfix n f (bounded_expression a) ++ postfix (n + left) (f + length (firsts (bounded_expression a))) (bounded_expression b)) (length (firsts (bounded_expression a)) + length (firsts (bounded_expression b)))
  row = row_more (row_one s) t

  pub related-arrays : new ≡ store old n (side_nodes n f (bounded_constraint (related r a b)))
  related-arrays = row.arrays ∙ ap (store old n) (related-nodes r a b n f)

  last : k ≡ n + left + right
  last = let z = length-append (postfix n f (bounded_expression a)) (postfix (n + left) (f + length (firsts (bounded_expression a))) (bounded_expression b)) in omega (arith, row.nodes)

  pub related-read : {c : ℕ} {u : Bool} → c ≡ relation_number r → u ≡ (x || y) → answer c (m - 1) (k - 1) k h u ≡ constraint_read n f (related r a b)
  unfolding has_beyond
  related-read {c} {u} p q =
      let z = length-append (firsts (bounded_expression a)) (firsts (bounded_expression b)) in
      let lefts : m - 1 ≡ n + left - 1 = ap (λ j. j - 1) s.nodes in
      let rights : k - 1 ≡ n + left + right - 1 = ap (λ j. j - 1) last in
      let nexts : k ≡ n + length (postfix n f (bounded_expression a) ++ postfix (n + left) (f + length (firsts (bounded_expression a))) (bounded_expression b)) = row.nodes in
      let numbers : h ≡ f + length (firsts (bounded_expression a) ++ firsts (bounded_expression b)) = omega (arith, row.firsts) in
      let far = q ∙ ap₂ ◌||◌ s.beyond t.beyond ∙ sym (any_of-append is_integer_beyond (subexpressions a) (subexpressions b)) in
      (λ i. answer (p i) (lefts i) (rights i) (nexts i) (numbers i) (far i)) ∙ by r
    where
      by : (o : Relation) → answer (relation_number o) (n + left - 1) (n + left + right - 1) (n + length (postfix n f (bounded_expression a) ++ postfix (n + left) (f + length (firsts (bounded_expression a))) (bounded_expression b))) (f + length (firsts (bounded_expression a) ++ firsts (bounded_expression b))) (any_of is_integer_beyond (subexpressions a ++ subexpressions b)) ≡ constraint_read n f (related o a b)
      by (sign v) = refl
      by until_sign = refl

-- A line that is too long changes nothing.
pub too_long : {names line : List ℕ} {n f : ℕ} {places : List ℕ} {old : Nodes} {r : ConstraintRead} → (Fits line n f → ⊥) → r ≡ unread false → StartsOutcome line n f places places × ConstraintOutcome names line n f old old r
too_long h e = (are_kept h refl, is_too_long h e refl)

-- The line as a whole.
module _ (names line : List ℕ) (rest : ℕ → List Token) (whole : rest 0 ≡ tokens line) {n f : ℕ} (w : Fits line n f) where
  abbrev parts : Reader
  parts = part_to (tokens names) (length (rest 0))

  no_constraint : {old new : Nodes} {r : ConstraintRead} → parse_constraint (tokens names) (rest 0) ≡ none → r ≡ unread true → SameBelow n new old → ConstraintOutcome names line n f old new r
  no_constraint p e k = is_no_constraint w (ap (parse_constraint (tokens names)) (sym whole) ∙ p) e k

  pub side-missing : {old new : Nodes} {r : ConstraintRead} → ((d : ℕ) → length (rest 0) ≤ d → expression_by (part_to (tokens names) d) (rest 0) ≡ none) → r ≡ unread true → SameBelow n new old → ConstraintOutcome names line n f old new r
  unfolding parse_constraint
  side-missing h e k = no_constraint (ap (λ o. and_then o (λ y. second_side parts y.tree y.rest)) (h (length (rest 0)) (omega arith))) e k

  module _ {old mid : Nodes} {a : Read} (h : TreeRead (λ d. expression_by (part_to (tokens names) d)) rest 0 old mid n f a) {s : NumberedToken} (j : TokenNumbered line rest a.next s) where
    first-side : parse_constraint (tokens names) (rest 0) ≡ second_side parts h.tree (rest a.next)
    unfolding parse_constraint
    first-side = ap (λ o. and_then o (λ y. second_side parts y.tree y.rest)) (h.reads (length (rest 0)) (omega arith))

    pub sign-missing : {new : Nodes} {r : ConstraintRead} → code_or255 relation_number (relation_of (token_bytes line s)) ≡ 255 → r ≡ unread true → SameBelow n new old → ConstraintOutcome names line n f old new r
    sign-missing c e k = no_constraint (first-side ∙ no_relation parts h.tree j c) e k

    module _ {code : ℕ} (o : Relation-at line rest a.next s code) where
      second-side : parse_constraint (tokens names) (rest 0) ≡ and_then (expression_by parts (rest s.next)) (λ y. whole_line (related o.relation h.tree y.tree) y.rest)
      second-side = first-side ∙ o.goes_on parts h.tree

      pub second-fewer : length (rest s.next) < length (rest 0)
      second-fewer = omega (arith, ap length o.first, h.fewer)

      pub second-side-missing : {new : Nodes} {r : ConstraintRead} → ((d : ℕ) → length (rest s.next) ≤ d → expression_by (part_to (tokens names) d) (rest s.next) ≡ none) → r ≡ unread true → SameBelow n new old → ConstraintOutcome names line n f old new r
      second-side-missing g e k =
          let z = second-fewer in
          no_constraint (second-side ∙ ap (λ m. and_then m (λ y. whole_line (related o.relation h.tree y.tree) y.rest)) (g (length (rest 0)) (omega arith))) e k

      module _ {new : Nodes} {b : Read} (g : TreeRead (λ d. expression_by (part_to (tokens names) d)) rest s.next mid new a.nodes a.firsts b) where
        both-sides : parse_constraint (tokens names) (rest 0) ≡ whole_line (related o.relation h.tree g.tree) (rest b.next)
        both-sides =
            let z = second-fewer in
            second-side ∙ ap (λ m. and_then m (λ y. whole_line (related o.relation h.tree y.tree) y.rest)) (g.reads (length (rest 0)) (omega arith))

        pub line-longer : {t : Token} {us : List Token} {r : ConstraintRead} → rest b.next ≡ t ∷ us → r ≡ unread true → SameBelow n new old → ConstraintOutcome names line n f old new r
        line-longer m e k = no_constraint (both-sides ∙ ap (whole_line (related o.relation h.tree g.tree)) m) e k

        pub line_read : {u : Bool} → rest b.next ≡ [] → u ≡ (a.beyond || b.beyond) → ConstraintOutcome names line n f old new (answer code (a.nodes - 1) (b.nodes - 1) b.nodes b.firsts u)
        line_read m q = is_read w (ap (parse_constraint (tokens names)) (sym whole) ∙ both-sides ∙ ap (whole_line (related o.relation h.tree g.tree)) m) (related-read h.stores g.stores o.relation o.code_is q) (related-arrays h.stores g.stores o.relation)
