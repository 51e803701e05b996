-- The answers of the readers of expressions: each way that they go gives what their contracts say. From the laws of Readers and Trees.
use Prim.Native.Nat.{ℕ, suc, ◌+◌, ◌≤◌, ◌<◌}
use mathlib.Core.Path.{◌≡◌, refl, sym, ap, subst, ◌∙◌}
use mathlib.Core.Bool.{Bool, true, false, ◌||◌}
use mathlib.Core.List.{List, [], ◌∷◌, cons≢nil}
use mathlib.Core.Option.{some, none}
use native.Mathlib.Omega.{arith}
use lib.IntN.{pos}
use lib.ListN.{length}
use Rattle.nodes.specs.Evaluate.{Nodes}
use Rattle.basics.proofs.Reflects.{to_true}
use Rattle.text.specs.Bytes.{Token, bytes_of}
use Rattle.text.specs.Token.{same_bytes}
use Rattle.text.proofs.Token.{same_bytes_reflects}
use Rattle.meaning.specs.Expression.{Expression, conditional}
use Rattle.nodes.specs.Postfix.{node}
use Rattle.sheet.specs.Vocabulary.{infixed, operator_of}
use Rattle.sheet.specs.Parser.{parsed, and_then, expect, after_part, conditional_by, expression_by, part_to}
use Rattle.vocabulary.specs.Word.{code_or255, infix_code}
use Rattle.parse.specs.declared.NumberedToken.{NumberedToken}
use Rattle.parse.specs.declared.Read.{Read}
use Rattle.parse.specs.Numbered.{TokenNumbered}
use Rattle.parse.specs.Stored.{store}
use Rattle.parse.specs.Reading.{StoresTree, TreeRead, PartReading}
use Rattle.parse.proofs.Trees.{stores-joined, stores-conditional}
use Rattle.parse.proofs.Readers.{token_bytes, word_is, word_is_not, word_number, expression_part, after_ends, Operator-at, part-empty}

expect-first : (w : Token) {ts us : List Token} → ts ≡ w ∷ us → expect w ts ≡ some us
expect-first w e = ap (expect w) e ∙ same w
  where
    same : (v : Token) {us : List Token} → expect v (v ∷ us) ≡ some us
    same v = rw (to_true (same_bytes_reflects v v) refl)

module _ (names : List Token) (text : List ℕ) (rest : ℕ → List Token) (at : ℕ) where
  -- An expression that begins with `if` is what stands after it.
  pub if_reading : {j : ℕ} {old new : Nodes} {n f : ℕ} {r : Read} → j ≡ at + 1 → rest at ≡ bytes_of "if" ∷ rest j → PartReading (λ d. conditional_by (part_to names d)) rest j old new n f r → PartReading (λ d. expression_by (part_to names d)) rest at old new n f r
  unfolding expression_by
  if_reading q e k =
      record {
        found = λ t.
            let h = k.found t in
            record {
              tree = h.tree;
              reads = λ d l. ap (expression_by (part_to names d)) e ∙ h.reads d (omega (arith, ap length e));
              stores = h.stores;
              fewer = omega (arith, ap length e, h.fewer);
              numbers = omega (arith, ap length e, h.numbers);
              room = omega (arith, ap length e, h.room);
              room_firsts = omega (arith, ap length e, h.room_firsts);
            };
        missing = λ t d l. ap (expression_by (part_to names d)) e ∙ k.missing t d (omega (arith, ap length e));
        kept = k.kept;
      }

  module _ {s : NumberedToken} (k : TokenNumbered text rest at s) (other : same_bytes (bytes_of "if") (token_bytes text s) ≡ false) where
    -- Without `if`, what a part and the tokens after it give.
    after-part : {a : Expression} {us : List Token} (d : ℕ) → part_to names d (rest at) ≡ parsed a us → expression_by (part_to names d) (rest at) ≡ after_part (part_to names d) a us
    after-part d q = expression_part (part_to names d) (part-empty names refl d) k other ∙ ap (λ o. and_then o (λ y. after_part (part_to names d) y.tree y.rest)) q

    pub part-missing : ((d : ℕ) → length (rest at) ≤ d → part_to names d (rest at) ≡ none) → (d : ℕ) → length (rest at) ≤ d → expression_by (part_to names d) (rest at) ≡ none
    part-missing h d l = expression_part (part_to names d) (part-empty names refl d) k other ∙ ap (λ o. and_then o (λ y. after_part (part_to names d) y.tree y.rest)) (h d l)

    module _ {old mid : Nodes} {n f : ℕ} {a : Read} (h : TreeRead (part_to names) rest at old mid n f a) {t : NumberedToken} (j : TokenNumbered text rest a.next t) where
      -- A part alone.
      pub part-alone : code_or255 infix_code (operator_of (token_bytes text t)) ≡ 255 → TreeRead (λ d. expression_by (part_to names d)) rest at old mid n f a
      part-alone c =
          record {
            tree = h.tree;
            reads = λ d l. after-part d (h.reads d l) ∙ after_ends (part_to names d) h.tree j c;
            stores = h.stores;
            fewer = h.fewer;
            numbers = h.numbers;
            room = h.room;
            room_firsts = h.room_firsts;
          }

      module _ {code : ℕ} (o : Operator-at text rest a.next t code) where
        second-fewer : length (rest t.next) < length (rest at)
        second-fewer = omega (arith, ap length o.first, h.fewer)

        -- "two parts with an operator between them"
        pub second-missing : ((d : ℕ) → length (rest t.next) ≤ d → part_to names d (rest t.next) ≡ none) → (d : ℕ) → length (rest at) ≤ d → expression_by (part_to names d) (rest at) ≡ none
        second-missing g d l =
            let less = second-fewer in
            after-part d (h.reads d l) ∙ o.goes_on (part_to names d) h.tree ∙ ap (λ m. and_then m (λ y. parsed (infixed o.operator h.tree y.tree) y.rest)) (g d (omega arith))

        pub second-found : {end new : Nodes} {b : Read} {both : Bool} → TreeRead (part_to names) rest t.next mid end a.nodes a.firsts b → new ≡ store end b.nodes (node code (pos 0) n ∷ []) → both ≡ (a.beyond || b.beyond)
            → TreeRead (λ d. expression_by (part_to names d)) rest at old new n f (record { ok = true; next = b.next; nodes = b.nodes + 1; firsts = b.firsts; beyond = both })
        second-found {end} {new} {b} {both} g e q =
            let less = second-fewer in
            let size = ap length o.first in
            record {
              tree = infixed o.operator h.tree g.tree;
              reads = λ d l. after-part d (h.reads d l) ∙ o.goes_on (part_to names d) h.tree ∙ ap (λ m. and_then m (λ y. parsed (infixed o.operator h.tree y.tree) y.rest)) (g.reads d (omega arith));
              stores = subst (StoresTree (infixed o.operator h.tree g.tree) old new n f (b.nodes + 1) b.firsts) (sym q) (stores-joined o.operator o.code_is h.stores g.stores e);
              fewer = omega (arith, g.fewer);
              numbers = omega (arith, h.numbers, o.number, g.numbers);
              room = omega (arith, h.room, g.room);
              room_firsts = omega (arith, h.room_firsts, g.room_firsts);
            }

  -- "`if` part `then` part `else` part", after `if`.
  pub condition-missing : ((d : ℕ) → length (rest at) ≤ d → part_to names d (rest at) ≡ none) → (d : ℕ) → length (rest at) ≤ d → conditional_by (part_to names d) (rest at) ≡ none
  condition-missing h d l = rw (h d l)

  module _ {old mid : Nodes} {n f : ℕ} {a : Read} (h : TreeRead (part_to names) rest at old mid n f a) {s : NumberedToken} (j : TokenNumbered text rest a.next s) where
    pub then_missing : same_bytes (bytes_of "then") (token_bytes text s) ≡ false → (d : ℕ) → length (rest at) ≤ d → conditional_by (part_to names d) (rest at) ≡ none
    then_missing e d l = rw (h.reads d l, word_is_not (bytes_of "then") j e)

    module _ (e : same_bytes (bytes_of "then") (token_bytes text s) ≡ true) where
      then_first : rest a.next ≡ bytes_of "then" ∷ rest s.next
      then_first = word_is (bytes_of "then") j (λ z. cons≢nil z) e

      pub then_number : s.next ≡ a.next + 1
      then_number = word_number (bytes_of "then") j (λ z. cons≢nil z) e

      pub then_fewer : length (rest a.next) ≡ suc (length (rest s.next))
      then_fewer = ap length then_first

      pub branch_missing : ((d : ℕ) → length (rest s.next) ≤ d → part_to names d (rest s.next) ≡ none) → (d : ℕ) → length (rest at) ≤ d → conditional_by (part_to names d) (rest at) ≡ none
      branch_missing g d l = let z = then_fewer in rw (h.reads d l, expect-first (bytes_of "then") then_first, g d (omega (arith, h.fewer)))

      module _ {low : Nodes} {b : Read} (g : TreeRead (part_to names) rest s.next mid low a.nodes a.firsts b) {t : NumberedToken} (i : TokenNumbered text rest b.next t) where
        pub else_missing : same_bytes (bytes_of "else") (token_bytes text t) ≡ false → (d : ℕ) → length (rest at) ≤ d → conditional_by (part_to names d) (rest at) ≡ none
        else_missing w d l = let z = then_fewer in rw (h.reads d l, expect-first (bytes_of "then") then_first, g.reads d (omega (arith, h.fewer)), word_is_not (bytes_of "else") i w)

        module _ (w : same_bytes (bytes_of "else") (token_bytes text t) ≡ true) where
          else_first : rest b.next ≡ bytes_of "else" ∷ rest t.next
          else_first = word_is (bytes_of "else") i (λ z. cons≢nil z) w

          pub else_number : t.next ≡ b.next + 1
          else_number = word_number (bytes_of "else") i (λ z. cons≢nil z) w

          pub else_fewer : length (rest b.next) ≡ suc (length (rest t.next))
          else_fewer = ap length else_first

          pub last-missing : ((d : ℕ) → length (rest t.next) ≤ d → part_to names d (rest t.next) ≡ none) → (d : ℕ) → length (rest at) ≤ d → conditional_by (part_to names d) (rest at) ≡ none
          last-missing u d l =
              let z = then_fewer in
              let y = else_fewer in
              rw (h.reads d l, expect-first (bytes_of "then") then_first, g.reads d (omega (arith, h.fewer)), expect-first (bytes_of "else") else_first, u d (omega (arith, h.fewer, g.fewer)))

          pub last_found : {end new : Nodes} {c : Read} {any : Bool} → TreeRead (part_to names) rest t.next low end b.nodes b.firsts c → new ≡ store end c.nodes (node 5 (pos 0) n ∷ []) → any ≡ (a.beyond || (b.beyond || c.beyond))
              → TreeRead (λ d. conditional_by (part_to names d)) rest at old new n f (record { ok = true; next = c.next; nodes = c.nodes + 1; firsts = c.firsts; beyond = any })
          last_found {end} {new} {c} {any} u e' q =
              let z = then_fewer in
              let y = else_fewer in
              record {
                tree = conditional h.tree g.tree u.tree;
                reads = λ d l. rw (h.reads d l, expect-first (bytes_of "then") then_first, g.reads d (omega (arith, h.fewer)), expect-first (bytes_of "else") else_first, u.reads d (omega (arith, h.fewer, g.fewer)));
                stores = subst (StoresTree (conditional h.tree g.tree u.tree) old new n f (c.nodes + 1) c.firsts) (sym q) (stores-conditional h.stores g.stores u.stores e');
                fewer = omega (arith, h.fewer, g.fewer, u.fewer);
                numbers = omega (arith, h.numbers, then_number, g.numbers, else_number, u.numbers);
                room = omega (arith, h.room, g.room, u.room);
                room_firsts = omega (arith, h.room_firsts, g.room_firsts, u.room_firsts);
              }
